-- A member's steps keep its book sound, in any setting. One law for each step that is accepted, on its refusal row; the deliver step's law is
-- SoundDeliver's.
use mathlib.Core.Path.{◌≡◌, refl, sym}
use mathlib.Core.Logic.{⊎_elim}
use mathlib.Core.Bool.{Bool, true, false, cond, not}
use Rattle.std.specs.Prelude.{None, Some}
use mathlib.Core.List.{List, []}
use Prim.Native.Nat.{ℕ, suc, ◌≤◌, ◌<◌}
use native.Mathlib.Omega.{arith}
use lib.Dec.{eqb, ltb}
use lib.ListN.{length, take, drop}
use borrow.Author.Tests.{ltb-true, leb-true, eqb-false, eq-eqb, ne_eqb, not-true}
use Rattle.views.specs.declared.View.{View}
use Rattle.views.specs.Limits.{max_open, max_outgoing}
use Rattle.views.specs.Sets.{both, has}
use Rattle.views.specs.Lists.{id_of, rises_above}
use Rattle.views.proofs.SetLaws.{known, both_true}
use Rattle.views.proofs.Members.{In, in-nil, in-cons}
use Rattle.rules.specs.Data.{Member, MessageOf, client, registered, told, EntryOf, entry, BookOf, attempt, event, rank}
use Rattle.rules.specs.Member.{DoneOf, client_is_carrier, is_above, outgoes, queues, has_room, joined, joins, PassingOf, passing, opened, attempted, attempts, noted, registers, sends, moves, hands, tells, safes, collected, collects}
use Rattle.rules.specs.Sound.{limit_at}
use Rattle.rules.specs.Group.{first_view, fresh}
use Rattle.rules.proofs.Sound.Books.{Setting, EntryFacts, client_entry, info_entry, registered_entry, told_entry, QueueFacts}
use Rattle.rules.proofs.Holding.{Holds, gives, need-holds, view-holds, first_holds}
use Rattle.rules.proofs.Sound.HeldLaws.{held-sound, opened-well, collected-sound}
use Rattle.rules.proofs.Sound.QueueLaws.{queue-snoc, queue-one, queue-first, next-below, next-taken, limit-le, limit-at}
use Rattle.rules.proofs.Sound.BookParts.{BookKept, Keeps}

first-view : (S : ℕ) (c : Bool) (v : View) → cond c (Some (first_view S)) None ≡ Some v → first_view S ≡ v
first-view S true v e = cc
first-view S false v e = let z : ◌≡◌ {A = ℕ} 0 1 = cc in absurd (omega arith)

module _ {M : Type 0} where
  module _ (s : Setting) where
    -- ---- start

    pub fresh_kept : (S : ℕ) (p : Member) → s.known (first_view S) → BookKept s (fresh {M = M} S p)
    unfolding fresh rises_above
    fresh_kept S p f =
        let first : (v : View) → cond (has S p) (Some (first_view S)) None ≡ Some v → s.known v = λ v e. rw (← (first-view S (has S p) v e)) f in
        record {
          held = record {
            short = omega arith;
            rises = refl;
            known = λ w i. ⊎_elim (λ (e : w ≡ first_view S). rw e f) (λ (j : In w []). absurd (in-nil j)) (in-cons i);
          };
          carrier = record { short = omega arith; tolds-short = λ q i. omega arith; taken_in = omega arith; known = first; from = λ q x i. absurd (in-nil i) };
          client = record {
            short = omega arith;
            handed-in = omega arith;
            told_in = omega arith;
            reported-in = omega arith;
            known = first;
            from = λ q x i. absurd (in-nil i);
          };
          inward-taken = ⊎_elim (λ (t : has S p ≡ true). rw t (omega arith)) (λ (t : has S p ≡ false). rw t (omega arith)) (known (has S p));
          outgoing = record { short = omega arith; entries = λ e i. absurd (in-nil i) };
          below = omega arith;
        }

    -- ---- outgoing

    pub outgoes-kept : (l : List (EntryOf M)) (b : BookOf M) → QueueFacts s.members s.known max_outgoing l → BookKept s b → BookKept s (outgoes l b)
    outgoes-kept l b q k = record { held = k.held; carrier = k.carrier; client = k.client; inward-taken = k.inward-taken; outgoing = q; below = k.below }

    queues-kept : (p : Member) (m : MessageOf M) (b : BookOf M) → EntryFacts s.members s.known (entry p m) → has_room b ≡ true → BookKept s b → BookKept s (queues p m b)
    unfolding queues
    queues-kept p m b e h k =
        ⊎_elim
        (λ (t : client_is_carrier b ≡ true).
        let room : ltb (length b.outgoing) max_outgoing ≡ true = rw t at h in
        rw t (outgoes-kept _ b (queue-snoc _ _ _ b.outgoing (entry p m) (ltb-true _ _ room) e k.outgoing) k))
        (λ (t : client_is_carrier b ≡ false). rw t k)
        (known (client_is_carrier b))

    -- ---- join

    joined-kept : (p : Member) (v : View) (b : BookOf M) → p < s.members → s.known v → rank b.carrier.view ≤ id_of v → BookKept s b → BookKept s (joined p v b)
    unfolding joined
    joined-kept p v b i j l k =
        let apart : eqb (rank b.client.view) (suc (id_of v)) ≡ false = ne_eqb _ _ (λ (e : rank b.client.view ≡ suc (id_of v)). omega (arith, k.below)) in
        record {
          held = k.held;
          carrier = record {
            short = omega arith;
            tolds-short = λ q n. omega arith;
            taken_in = omega arith;
            known = λ w e. let d : v ≡ w = cc in rw (← d) j;
            from = λ q x n. absurd (in-nil n);
          };
          client = k.client;
          inward-taken = rw apart (omega arith);
          outgoing = queue-one _ _ _ _ (omega arith)
              (info_entry i (record { short = omega (arith, k.held.short); rises = k.held.rises; known = k.held.known }));
          below = omega (arith, k.below);
        }

    pub joins-keep : (p : Member) (v : View) (b : BookOf M) → p < s.members → s.known v → BookKept s b → Keeps s (joins p v b)
    unfolding joins
    joins-keep p v b i j k =
        need-holds _ _ _ (λ _.
        need-holds (is_above (id_of v) b.carrier.view) _ _ (λ h.
        gives (joined-kept p v b i j (leb-true _ _ h) k)))

    -- ---- pass: the message that goes out, the view that it goes to, the book without it

    abbrev pub Passes : PassingOf M → Type 0
    Passes x = s.known x.to × EntryFacts s.members s.known x.first × BookKept s x.book

    pub passing-keeps : (b : BookOf M) → BookKept s b → Holds Passes (passing b)
    unfolding passing
    passing-keeps b k =
        view-holds b.carrier.view _ _ (λ v h.
        first_holds b.outgoing _ _ (λ e rest d.
        let q = queue-first _ _ _ b.outgoing e rest d k.outgoing in
        gives (k.carrier.known v h, q.0, outgoes-kept rest b q.1 k)))

    -- ---- attempt

    -- if it leaves at most 31 views open
    pub attempted-kept : (v : View) (b : BookOf M) → b.carrier.view ≡ Some v → rank b.client.view ≤ id_of v → length (opened v b.held).opens ≤ max_open
        → BookKept s b → BookKept s (attempted v b)
    unfolding attempted
    attempted-kept v b c l o k =
        let j : s.known v = k.carrier.known v c in
        let above : rank b.carrier.view ≡ suc (id_of v) = rw c in
        let apart : client_is_carrier b ≡ false = ne_eqb _ _ (λ (e : rank b.client.view ≡ rank b.carrier.view). omega arith) in
        let same : eqb (suc (id_of v)) (rank b.carrier.view) ≡ true = eq-eqb _ _ (sym above) in
        let arrived : limit_at b.carrier.view b.carrier.inward ≤ b.carrier.taken = rw apart at k.inward-taken in
        record {
          held = held-sound s.known _ (opened-well s.known v b.held j k.held) o;
          carrier = record { short = omega arith; tolds-short = k.carrier.tolds-short; taken_in = k.carrier.taken_in; known = k.carrier.known; from = λ q x n. absurd (in-nil n) };
          client = record {
            short = k.carrier.short;
            handed-in = omega arith;
            told_in = omega arith;
            reported-in = omega arith;
            known = λ w e. let d : v ≡ w = cc in rw (← d) j;
            from = k.carrier.from;
          };
          inward-taken = rw same arrived;
          outgoing = k.outgoing;
          below = omega arith;
        }

    -- what holds of each book that an attempt can leave
    pub attempts-hold : {P : DoneOf M → Type 0} (weight : Member → ℕ) (n : ℕ) (p : Member) (b : BookOf M)
        → ((v : View) → b.carrier.view ≡ Some v → rank b.client.view ≤ id_of v → P (record { book = attempted v b; answer = event (attempt p v) }))
        → Holds P (attempts weight n p b)
    unfolding attempts
    attempts-hold weight n p b f =
        view-holds b.carrier.view _ _ (λ v c.
        need-holds (is_above (id_of v) b.client.view) _ _ (λ h.
        need-holds _ _ _ (λ _.
        need-holds _ _ _ (λ _.
        gives (f v c (leb-true _ _ h))))))

    -- ---- register and send

    noted-kept : (b : BookOf M) → BookKept s b → BookKept s (noted b)
    noted-kept b k = let c = k.client in record {
      held = k.held;
      carrier = k.carrier;
      client = record { short = c.short; handed-in = c.handed-in; told_in = c.told_in; reported-in = c.reported-in; known = c.known; from = c.from };
      inward-taken = k.inward-taken;
      outgoing = k.outgoing;
      below = k.below;
    }

    pub registers-keep : (p : Member) (b : BookOf M) → p < s.members → BookKept s b → Keeps s (registers p b)
    unfolding registers
    registers-keep p b i k =
        view-holds b.client.view _ _ (λ v _.
        need-holds _ _ _ (λ _.
        need-holds (has_room b) _ _ (λ h.
        gives (queues-kept p registered (noted b) (registered_entry i) h (noted-kept b k)))))

    pub sends-keep : (p : Member) (x : M) (b : BookOf M) → p < s.members → BookKept s b → Keeps s (sends p x b)
    unfolding sends
    sends-keep p x b i k =
        view-holds b.client.view _ _ (λ v _.
        need-holds (has_room b) _ _ (λ h.
        gives (queues-kept p (client x) b (client_entry i) h k)))

    -- ---- hand, tell and safe: positions of the client view's inward list

    moves-kept : (h t r : ℕ) (b : BookOf M) → h ≤ limit_at b.client.view b.client.inward → t ≤ limit_at b.client.view b.client.inward
        → r ≤ limit_at b.client.view b.client.inward → BookKept s b → BookKept s (moves h t r b)
    moves-kept h t r b i j l k = let c = k.client in record {
      held = k.held;
      carrier = k.carrier;
      client = record { short = c.short; handed-in = i; told_in = j; reported-in = l; known = c.known; from = c.from };
      inward-taken = k.inward-taken;
      outgoing = k.outgoing;
      below = k.below;
    }

    pub hands-keep : (p : Member) (b : BookOf M) → BookKept s b → Keeps s (hands p b)
    unfolding hands
    hands-keep p b k = let c = k.client in
        view-holds b.client.view _ _ (λ v e.
        first_holds (drop b.client.handed b.client.inward) _ _ (λ x rest d.
        gives (moves-kept _ _ _ b (omega (arith, next-below b.client.handed b.client.inward x rest d, limit-at b.client.view v b.client.inward e)) c.told_in c.reported-in k)))

    pub tells-keep : (p : Member) (b : BookOf M) → p < s.members → BookKept s b → Keeps s (tells p b)
    unfolding tells
    tells-keep p b i k = let c = k.client in
        view-holds b.client.view _ _ (λ v e.
        need-holds _ _ _ (λ _.
        need-holds (both (not (eqb b.client.handed b.client.told)) (not (eqb b.client.handed 0))) _ _ (λ h.
        need-holds (has_room b) _ _ (λ r.
        let some : b.client.handed ≡ 0 → ⊥ = eqb-false _ _ (not-true _ (both_true (not (eqb b.client.handed b.client.told)) _ h).1) in
        gives (queues-kept p (told b.client.handed) _
        (told_entry i (omega arith) (omega (arith, c.handed-in, c.short, limit-le b.client.view b.client.inward))) r
        (moves-kept _ _ _ b c.handed-in c.handed-in c.reported-in k))))))

    pub safes-keep : (n : ℕ) (p : Member) (b : BookOf M) → BookKept s b → Keeps s (safes n p b)
    unfolding safes
    safes-keep n p b k = let c = k.client in
        view-holds b.client.view _ _ (λ v e.
        need-holds _ _ _ (λ _.
        first_holds (drop b.client.reported (take b.client.handed b.client.inward)) _ _ (λ x rest d.
        need-holds _ _ _ (λ _.
        gives (moves-kept _ _ _ b c.handed-in c.told_in
        (omega (arith, next-taken b.client.reported b.client.handed b.client.inward x rest d, limit-at b.client.view v b.client.inward e)) k)))))

    -- ---- collect

    collected-kept : (v : View) (b : BookOf M) → s.known v → BookKept s b → BookKept s (collected v b)
    unfolding collected
    collected-kept v b j k = record {
      held = collected-sound s.known v b.held j k.held;
      carrier = k.carrier;
      client = k.client;
      inward-taken = k.inward-taken;
      outgoing = k.outgoing;
      below = k.below;
    }

    pub collects-keep : (n : ℕ) (b : BookOf M) → BookKept s b → Keeps s (collects n b)
    unfolding collects
    collects-keep n b k =
        view-holds b.carrier.view _ _ (λ v c.
        need-holds _ _ _ (λ _.
        need-holds _ _ _ (λ _.
        gives (collected-kept v b (k.carrier.known v c) k))))
