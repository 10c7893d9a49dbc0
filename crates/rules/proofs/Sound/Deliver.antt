-- A member that takes a message of its carrier view's order keeps its book sound: the inward list has room because it is no longer than what was taken.
use mathlib.Core.Path.{◌≡◌, refl}
use mathlib.Core.Logic.{⊎_elim}
use mathlib.Core.Bool.{Bool, true, false}
use Rattle.std.specs.Prelude.{Some}
use mathlib.Core.List.{List, [], ◌∷◌, ◌++◌}
use Prim.Native.Nat.{ℕ, ◌+◌, ◌≤◌, ◌<◌}
use native.Mathlib.Omega.{arith}
use lib.ListN.{length}
use Rattle.views.specs.declared.View.{View}
use Rattle.views.specs.Limits.{max_open, max_ordered}
use Rattle.views.proofs.SetLaws.{known}
use Rattle.views.proofs.PointLaws.{upd-ind}
use Rattle.rules.specs.Data.{Member, MessageOf, client, info, registered, told, entry, Item, item, BookOf}
use Rattle.rules.specs.Member.{client_is_carrier, takes, received, learned, delivered}
use Rattle.rules.specs.Sound.{limit_at}
use Rattle.rules.proofs.Sound.Books.{Setting, EntryFacts, entry-from, info-sound, told-sound, ItemsFrom}
use Rattle.rules.proofs.Sound.HeldLaws.{held-sound, learned-well}
use Rattle.rules.proofs.Sound.QueueLaws.{length-snoc, items-snoc, limit-le, limit-at, limit-snoc}
use Rattle.rules.proofs.Sound.BookParts.{CarrierSound, ClientSound, PartsSound, BookKept, parts_in, kept-with}

module _ {M : Type 0} where
  -- v is the carrier view of b, in whose order a message is left
  pub record Left (s : Setting) (b : BookOf M) (v : View) : Type 0 where
    pub carries : b.carrier.view ≡ Some v
    pub left : b.carrier.taken < s.limit (Some v)
    pub short : s.limit (Some v) ≤ max_ordered

  module _ (s : Setting) (b : BookOf M) (v : View) (f : Left s b v) (k : PartsSound s b) where
    left_at : b.carrier.taken + 1 ≤ s.limit b.carrier.view
    left_at = rw f.carries (omega (arith, f.left))

    takes-sound : (i r : Member → Bool) (t : Member → ℕ) (l : List (Item M)) → ((q : Member) → q < s.members → t q ≤ max_ordered)
        → length l ≤ max_ordered → ItemsFrom s.members l → CarrierSound s (takes i r t l b.carrier)
    takes-sound i r t l h n o = record { short = n; tolds-short = h; taken_in = left_at; known = k.carrier.known; from = o }

    -- a message other than a client's
    plain-sound : (i r : Member → Bool) (t : Member → ℕ) → ((q : Member) → q < s.members → t q ≤ max_ordered) → CarrierSound s (takes i r t b.carrier.inward b.carrier)
    plain-sound i r t h = takes-sound i r t b.carrier.inward h k.carrier.short k.carrier.from

    inward-room : (l : List (Item M)) → limit_at b.carrier.view l ≤ b.carrier.taken → (length l ≤ b.carrier.taken) × (length l < max_ordered)
    inward-room l h = omega (arith, limit-at b.carrier.view v l f.carries, f.left, f.short)

    received-sound : (q : ℕ) (x : M) → q < s.members → length b.client.inward < max_ordered → ClientSound s (received (item q x) b.client)
    unfolding received
    received-sound q x i h =
        let c = k.client in
        let more = limit-snoc b.client.view b.client.inward (item q x) in
        record {
          short = omega (arith, length-snoc b.client.inward (item q x));
          handed-in = omega (arith, c.handed-in);
          told_in = omega (arith, c.told_in);
          reported-in = omega (arith, c.reported-in);
          known = c.known;
          from = items-snoc _ _ q x i c.from;
        }

    took-client : (q : ℕ) (x : M) → q < s.members → PartsSound s (delivered q (client x) b)
    unfolding delivered received
    took-client q x i =
        ⊎_elim
        (λ (t : client_is_carrier b ≡ true).
        let was : limit_at b.carrier.view b.client.inward ≤ b.carrier.taken = rw t at k.inward-taken in
        let room = inward-room b.client.inward was in
        let now : limit_at b.carrier.view (b.client.inward ++ (item q x ∷ [])) ≤ b.carrier.taken + 1
        = omega (arith, limit-le b.carrier.view (b.client.inward ++ (item q x ∷ [])), length-snoc b.client.inward (item q x)) in
        rw t (record {
          held = k.held;
          carrier = plain-sound _ _ _ k.carrier.tolds-short;
          client = received-sound q x i room.1;
          inward-taken = rw t now;
          outgoing = k.outgoing;
        }))
        (λ (t : client_is_carrier b ≡ false).
        let was : limit_at b.carrier.view b.carrier.inward ≤ b.carrier.taken = rw t at k.inward-taken in
        let room = inward-room b.carrier.inward was in
        let long = length-snoc b.carrier.inward (item q x) in
        let now : limit_at b.carrier.view (b.carrier.inward ++ (item q x ∷ [])) ≤ b.carrier.taken + 1
        = omega (arith, limit-le b.carrier.view (b.carrier.inward ++ (item q x ∷ []))) in
        rw t (record {
          held = k.held;
          carrier = takes-sound _ _ _ _ k.carrier.tolds-short (omega arith) (items-snoc _ _ q x i k.carrier.from);
          client = k.client;
          inward-taken = rw t now;
          outgoing = k.outgoing;
        }))
        (known (client_is_carrier b))

    -- if an info leaves at most 31 views open
    pub took-sound : (q : Member) (m : MessageOf M) → EntryFacts s.members s.known (entry q m)
        → ((x : View) (l : List View) → m ≡ info x l → length (learned x l b.held).opens ≤ max_open) → PartsSound s (delivered q m b)
    unfolding delivered
    took-sound q (client x) e o = took-client q x (entry-from e)
    took-sound q (info x l) e o = record {
      held = held-sound s.known _ (learned-well s.known x l b.held (info-sound e) k.held) (o x l refl);
      carrier = plain-sound _ _ _ k.carrier.tolds-short;
      client = k.client;
      inward-taken = omega (arith, k.inward-taken);
      outgoing = k.outgoing;
    }
    took-sound q registered e o = record {
      held = k.held;
      carrier = plain-sound _ _ _ k.carrier.tolds-short;
      client = k.client;
      inward-taken = omega (arith, k.inward-taken);
      outgoing = k.outgoing;
    }
    took-sound q (told n) e o = record {
      held = k.held;
      carrier = plain-sound _ _ _ (upd-ind q n b.carrier.tolds (λ r x. r < s.members → x ≤ max_ordered) (λ _. (told-sound e).1) (λ r _. k.carrier.tolds-short r));
      client = k.client;
      inward-taken = omega (arith, k.inward-taken);
      outgoing = k.outgoing;
    }

  -- and the views that the book is in stay
  views-stay : (q : Member) (m : MessageOf M) (b : BookOf M) → ((delivered q m b).client.view ≡ b.client.view) × ((delivered q m b).carrier.view ≡ b.carrier.view)
  unfolding delivered received
  views-stay q (client x) b =
      ⊎_elim (λ (t : client_is_carrier b ≡ true). rw t (refl, refl)) (λ (t : client_is_carrier b ≡ false). rw t (refl, refl)) (known (client_is_carrier b))
  views-stay q (info x l) b = (refl, refl)
  views-stay q registered b = (refl, refl)
  views-stay q (told n) b = (refl, refl)

  pub took-kept : (s : Setting) (b : BookOf M) (v : View) → Left s b v → BookKept s b → (q : Member) (m : MessageOf M) → EntryFacts s.members s.known (entry q m)
      → ((x : View) (l : List View) → m ≡ info x l → length (learned x l b.held).opens ≤ max_open) → BookKept s (delivered q m b)
  took-kept s b v f k q m e o =
      let (own, new) = views-stay q m b in
      kept-with (took-sound s b v f (parts_in k) q m e o) (rw (own, new) k.below)
