-- A book's share of what is kept, in parts, so that a step of one member speaks only of the parts that it changes; and between the parts and a sound book.
use mathlib.Core.Path.{◌≡◌}
use Rattle.std.specs.Prelude.{Some}
use Prim.Native.Nat.{◌≤◌, ◌<◌}
use lib.ListN.{length}
use Rattle.views.specs.declared.View.{View}
use Rattle.views.specs.Limits.{max_outgoing, max_ordered}
use Rattle.rules.specs.Data.{Member, AtCarrierOf, AtClientOf, BookOf, Result, rank}
use Rattle.rules.specs.Member.{DoneOf}
use Rattle.rules.specs.Sound.{limit_at, carrier_inward}
use Rattle.rules.proofs.Sound.Books.{Setting, QueueFacts, ItemsFrom, BookSound}
use Rattle.rules.proofs.Holding.{Holds}
use Rattle.rules.proofs.Sound.HeldLaws.{HeldSound}

module _ {M : Type 0} where
  pub record CarrierSound (s : Setting) (c : AtCarrierOf M) : Type 0 where
    pub short : length c.inward ≤ max_ordered
    pub tolds-short : (q : Member) → q < s.members → c.tolds q ≤ max_ordered
    pub taken_in : c.taken ≤ s.limit c.view
    pub known : (v : View) → c.view ≡ Some v → s.known v
    pub from : ItemsFrom s.members c.inward

  pub record ClientSound (s : Setting) (c : AtClientOf M) : Type 0 where
    pub short : length c.inward ≤ max_ordered
    pub handed-in : c.handed ≤ limit_at c.view c.inward
    pub told_in : c.told ≤ limit_at c.view c.inward
    pub reported-in : c.reported ≤ limit_at c.view c.inward
    pub known : (v : View) → c.view ≡ Some v → s.known v
    pub from : ItemsFrom s.members c.inward

  -- what 4 asks of a book, in parts
  pub record PartsSound (s : Setting) (b : BookOf M) : Type 0 where
    pub held : HeldSound s.known b.held
    pub carrier : CarrierSound s b.carrier
    pub client : ClientSound s b.client
    pub inward-taken : limit_at b.carrier.view (carrier_inward b) ≤ b.carrier.taken
    pub outgoing : QueueFacts s.members s.known max_outgoing b.outgoing

  -- with one thing more: the client view is not above the carrier view. Without that a join could make a long inward list one of which nothing was taken
  pub record BookKept (s : Setting) (b : BookOf M) : Type 0 where
    pub held : HeldSound s.known b.held
    pub carrier : CarrierSound s b.carrier
    pub client : ClientSound s b.client
    pub inward-taken : limit_at b.carrier.view (carrier_inward b) ≤ b.carrier.taken
    pub outgoing : QueueFacts s.members s.known max_outgoing b.outgoing
    pub below : rank b.client.view ≤ rank b.carrier.view

  -- a member's step leaves such a book, if it leaves any
  abbrev pub Keeps : Setting → Result (DoneOf M) → Type 0
  Keeps s r = Holds (λ (d : DoneOf M). BookKept s d.book) r

  pub parts_in : {s : Setting} {b : BookOf M} → BookKept s b → PartsSound s b
  parts_in k = record { held = k.held; carrier = k.carrier; client = k.client; inward-taken = k.inward-taken; outgoing = k.outgoing }

  pub kept-with : {s : Setting} {b : BookOf M} → PartsSound s b → rank b.client.view ≤ rank b.carrier.view → BookKept s b
  kept-with k l = record { held = k.held; carrier = k.carrier; client = k.client; inward-taken = k.inward-taken; outgoing = k.outgoing; below = l }

  pub parts-sound : (s : Setting) (b : BookOf M) → BookSound s b → QueueFacts s.members s.known max_outgoing b.outgoing → PartsSound s b
  parts-sound s b h q = record {
    held = record { short = h.opens-short; rises = h.opens-rise; known = h.held-known };
    carrier = record { short = h.arrived-short; tolds-short = h.tolds-short; taken_in = h.taken_in; known = h.carrier-known; from = h.arrived-from };
    client = record {
      short = h.inward-short;
      handed-in = h.handed-in;
      told_in = h.told_in;
      reported-in = h.reported-in;
      known = h.client-known;
      from = h.inward-from;
    };
    inward-taken = h.inward-taken;
    outgoing = q;
  }

  pub parts-of : (s : Setting) (b : BookOf M) → BookSound s b → QueueFacts s.members s.known max_outgoing b.outgoing → rank b.client.view ≤ rank b.carrier.view
      → BookKept s b
  parts-of s b h q l = kept-with (parts-sound s b h q) l

  pub sound-parts : (s : Setting) (b : BookOf M) → PartsSound s b → BookSound s b
  sound-parts s b k = record {
    opens-short = k.held.short;
    inward-short = k.client.short;
    arrived-short = k.carrier.short;
    tolds-short = k.carrier.tolds-short;
    taken_in = k.carrier.taken_in;
    inward-taken = k.inward-taken;
    handed-in = k.client.handed-in;
    told_in = k.client.told_in;
    reported-in = k.client.reported-in;
    opens-rise = k.held.rises;
    held-known = k.held.known;
    carrier-known = k.carrier.known;
    client-known = k.client.known;
    inward-from = k.client.from;
    arrived-from = k.carrier.from;
  }

  pub sound-of : (s : Setting) (b : BookOf M) → BookKept s b → BookSound s b
  sound-of s b k = sound-parts s b (parts_in k)
