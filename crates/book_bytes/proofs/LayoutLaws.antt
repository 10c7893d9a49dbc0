-- What a layout that fits says of the bytes, in words of numbers, both ways.
use mathlib.Core.Path.{◌≡◌}
use mathlib.Core.Bool.{true}
use mathlib.Core.List.{List}
use Prim.Native.Nat.{ℕ, ◌+◌, ◌≤◌}
use borrow.Author.Tests.{eqb-true, leb-true, eq-eqb, le-leb}
use lib.ListN.{length, get_or}
use Rattle.views.specs.Limits.{max_open, max_outgoing, max_ordered}
use Rattle.slots.specs.Slots.{slots_fit}
use Rattle.book_bytes.specs.Places.{carrier_at, client_at, registered_at, side_at, opens_at, outgoing_at, inward_at, book_size}
use Rattle.book_bytes.specs.Books.{layout_fits}
use Rattle.rules.proofs.TestLaws.{◌and◌, conditions-say, conditions-from}

pub record Layout (b : List ℕ) : Type 0 where
  pub size : length b ≡ book_size
  pub carrier : get_or b carrier_at 0 ≤ 1
  pub client : get_or b client_at 0 ≤ 1
  pub registered : get_or b registered_at 0 ≤ 1
  pub side : get_or b side_at 0 ≤ 1
  pub opens : get_or b opens_at 0 ≤ max_open
  pub outgoing : get_or b outgoing_at 0 ≤ max_outgoing
  pub first : get_or b (inward_at 0) 0 ≤ max_ordered
  pub second : get_or b (inward_at 1) 0 ≤ max_ordered
  pub slots : slots_fit b (outgoing_at + 1) (get_or b outgoing_at 0) ≡ true

pub layout-says : (b : List ℕ) → layout_fits b ≡ true → Layout b
unfolding layout_fits
layout-says b h =
    let (size, (carrier, (client, (registered, (side, (opens, (outgoing, (first, (second, (slots, _)))))))))) = conditions-say _ h in
    record {
      size = eqb-true _ _ size;
      carrier = leb-true _ _ carrier;
      client = leb-true _ _ client;
      registered = leb-true _ _ registered;
      side = leb-true _ _ side;
      opens = leb-true _ _ opens;
      outgoing = leb-true _ _ outgoing;
      first = leb-true _ _ first;
      second = leb-true _ _ second;
      slots = slots;
    }

pub layout-from : (b : List ℕ) → Layout b → layout_fits b ≡ true
unfolding layout_fits
layout-from b l =
    conditions-from _ (
    eq-eqb _ _ l.size
    and le-leb _ _ l.carrier
    and le-leb _ _ l.client
    and le-leb _ _ l.registered
    and le-leb _ _ l.side
    and le-leb _ _ l.opens
    and le-leb _ _ l.outgoing
    and le-leb _ _ l.first
    and le-leb _ _ l.second
    and l.slots
    and tt
    )
