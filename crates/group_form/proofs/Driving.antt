-- Steps put to the ranges up to the first refusal: none, one, and some after others; then what is still to be done of them.
use mathlib.Core.Path.{◌≡◌, refl, sym, ap, ◌∙◌}
use mathlib.Core.Bool.{true, false}
use mathlib.Core.List.{List, [], ◌∷◌, ◌++◌}
use Prim.Native.Nat.{ℕ, suc, ◌+◌, ◌-◌, ◌^◌, ◌≤◌, ◌<◌}
use native.Mathlib.Numerals.{add-one}
use native.Mathlib.Omega.{arith}
use lib.Count.{ones}
use lib.ListN.{length, replicate}
use Rattle.views.specs.declared.View.{View}
use Rattle.views.specs.declared.refusal.Refusal.{Refusal}
use Rattle.views.specs.Refusals.{Verdict, verdict_given, and_then, left}
use Rattle.std.specs.Prelude.{Option, Ok, Err}
use Rattle.views.specs.Limits.{max_members}
use Rattle.views.specs.Sets.{has}
use Rattle.views.specs.Lists.{id_of}
use Rattle.views.proofs.SetLaws.{ones-weigh}
use Rattle.views.proofs.VerdictLaws.{never, given-ok, given-err}
use Rattle.rules.specs.Data.{Identifier, Member, Step}
use Rattle.rules.specs.Forming.{servers_from, servers_of, by_each}
use Rattle.rules.proofs.Forming.Servers.{servers-count}
use Rattle.events.specs.declared.Event.{Event}
use Rattle.events.specs.Replies.{Reply}
use Rattle.group_bytes.specs.Groups.{Ranges}
use Rattle.group_bytes.specs.Steps.{step_ranges, step_reply, replies_of}
use Rattle.group_bytes.specs.Forming.{first_refusal}
use Rattle.group_bytes.specs.Promises.{Given}
use Rattle.group_bytes.proofs.RangesLaws.{same-ranges}
use Rattle.group_bytes.proofs.Demand2.{step-refused}
use Rattle.group.specs.StepCalls.{asked, Went}
use Rattle.group.specs.StaysSoundParts.{StaysSound}
use Rattle.group.proofs.StaysSoundLaws.{stays_after}
use Rattle.group_form.specs.Parts.{until_refused, Drove}

-- what steps gave, by the whole ranges that they left
drove-by : (r : Ranges) (l : List Step) (d : Ranges) (v : Verdict) → v ≡ first_refusal (replies_of r l) → d ≡ until_refused r l
    → (StaysSound r → StaysSound d) → Drove r l d v
drove-by r l d v e k s = record {
  verdict = e;
  list = ap (λ (x : Ranges). x.list) k;
  books = ap (λ (x : Ranges). x.books) k;
  queues = ap (λ (x : Ranges). x.queues) k;
  stays = s;
}

left_by : (r : Ranges) (l : List Step) (d : Ranges) (v : Verdict) → Drove r l d v → d ≡ until_refused r l
left_by r l d v h = same-ranges d (until_refused r l) h.list h.books h.queues

-- ---- none, and one

pub drove-none : (r : Ranges) → Drove r [] r (Ok tt)
unfolding replies_of first_refusal until_refused
drove-none r = drove-by r [] r (Ok tt) refl refl (λ h. h)

pub went-stays : (r : Ranges) (c : Step) (d : Ranges) (x : Reply) → Given c → Went r c d x → StaysSound r → StaysSound d
went-stays r c d x g w = stays_after r c d (same-ranges d (step_ranges r c) w.list w.books w.queues) g

pub drove-one : (r : Ranges) (c : Step) (d : Ranges) (x : Reply) → Given c → Went r c d x → Drove r (c ∷ []) d (verdict_given x)
unfolding replies_of first_refusal until_refused and_then left
drove-one r c d x g w =
    drove-by r (c ∷ []) d (verdict_given x) (ap (λ (y : Reply). verdict_given y) w.reply ∙ alone (step_reply r c))
    (same-ranges d (step_ranges r c) w.list w.books w.queues ∙ ranges (step_reply r c) refl) (went-stays r c d x g w)
  where
    alone : (y : Reply) → verdict_given y ≡ first_refusal (y ∷ [])
    alone (Ok o) = refl
    alone (Err f) = refl

    ranges : (y : Reply) → step_reply r c ≡ y → step_ranges r c ≡ until_refused r (c ∷ [])
    ranges (Ok o) e = rw e
    ranges (Err f) e = rw e (step-refused r c f e)

-- ---- some after others

-- what steps say and leave where others follow them: theirs after a refusal, else that of the others
after-refused : (r : Ranges) (l m : List Step) (f : Refusal) → first_refusal (replies_of r l) ≡ Err f
    → (first_refusal (replies_of r (l ++ m)) ≡ Err f) × (until_refused r (l ++ m) ≡ until_refused r l)
unfolding replies_of first_refusal until_refused and_then left
after-refused r [] m f e = absurd (never f (sym e))
after-refused r (c ∷ l) m f e = go (after-refused (step_ranges r c) l m f) (step_reply r c) refl
  where
    go : (first_refusal (replies_of (step_ranges r c) l) ≡ Err f
        → (first_refusal (replies_of (step_ranges r c) (l ++ m)) ≡ Err f) × (until_refused (step_ranges r c) (l ++ m) ≡ until_refused (step_ranges r c) l))
        → (x : Reply) → step_reply r c ≡ x
        → (first_refusal (replies_of r (c ∷ (l ++ m))) ≡ Err f) × (until_refused r (c ∷ (l ++ m)) ≡ until_refused r (c ∷ l))
    go rest (Ok o) k = rw k (rest (rw k at e))
    go rest (Err g) k = rw k (rw k at e, refl)

after-accepted : (r : Ranges) (l m : List Step) → first_refusal (replies_of r l) ≡ Ok tt
    → (first_refusal (replies_of r (l ++ m)) ≡ first_refusal (replies_of (until_refused r l) m))
    × (until_refused r (l ++ m) ≡ until_refused (until_refused r l) m)
unfolding replies_of first_refusal until_refused and_then left
after-accepted r [] m e = (refl, refl)
after-accepted r (c ∷ l) m e = go (after-accepted (step_ranges r c) l m) (step_reply r c) refl
  where
    go : (first_refusal (replies_of (step_ranges r c) l) ≡ Ok tt
        → (first_refusal (replies_of (step_ranges r c) (l ++ m)) ≡ first_refusal (replies_of (until_refused (step_ranges r c) l) m))
        × (until_refused (step_ranges r c) (l ++ m) ≡ until_refused (until_refused (step_ranges r c) l) m))
        → (x : Reply) → step_reply r c ≡ x
        → (first_refusal (replies_of r (c ∷ (l ++ m))) ≡ first_refusal (replies_of (until_refused r (c ∷ l)) m))
        × (until_refused r (c ∷ (l ++ m)) ≡ until_refused (until_refused r (c ∷ l)) m)
    go rest (Ok o) k = rw k (rest (rw k at e))
    go rest (Err g) k = absurd (never g (rw k at e))

module _ {r : Ranges} {l : List Step} {d : Ranges} {v : Verdict} (h : Drove r l d v) where
  -- after a refusal no more is done
  pub drove-stops : {f : Refusal} → v ≡ Err f → (m : List Step) → Drove r (l ++ m) d (Err f)
  drove-stops {f} k m =
      let a = after-refused r l m f (sym h.verdict ∙ k) in
      drove-by r (l ++ m) d (Err f) (sym a.0) (left_by r l d v h ∙ sym a.1) h.stays

  pub drove-then : v ≡ Ok tt → {m : List Step} {e : Ranges} {w : Verdict} → Drove d m e w → Drove r (l ++ m) e w
  drove-then k {m} {e} {w} next =
      let a = after-accepted r l m (sym h.verdict ∙ k) in
      let n : Drove (until_refused r l) m e w = rw (left_by r l d v h) at next in
      drove-by r (l ++ m) e w (n.verdict ∙ sym a.0) (left_by (until_refused r l) m e w n ∙ sym a.1) (λ k. next.stays (h.stays k))

-- ---- what is still to be done

-- of the steps l put to the ranges r some are done, which left the ranges d; the steps m are still to be put to these
pub record Under (r : Ranges) (l : List Step) (d : Ranges) (m : List Step) : Type 0 where
  pub leads : (e : Ranges) (v : Verdict) → Drove d m e v → Drove r l e v

module _ {r : Ranges} {l : List Step} where
  under-begins : Under r l r l
  under-begins = record { leads = λ e v h. h }

  under-ends : (d : Ranges) → Under r l d [] → Drove r l d (Ok tt)
  under-ends d u = u.leads d (Ok tt) (drove-none d)

  module _ {d : Ranges} (m k : List Step) (u : Under r l d (m ++ k)) {e : Ranges} {v : Verdict} (h : Drove d m e v) where
    under_goes : v ≡ Ok tt → Under r l e k
    under_goes w = record { leads = λ f x n. u.leads f x (drove-then h w n) }

    under-stops : {f : Refusal} → v ≡ Err f → Drove r l e (Err f)
    under-stops {f} w = u.leads e (Err f) (drove-stops h w k)

-- ---- the same step k times

module _ (r : Ranges) (c : Step) (k : ℕ) where
  -- i of them are done, which left the ranges d
  abbrev pub Repeats : Ranges → ℕ → Type 0
  Repeats d i = Under r (replicate k c) d (replicate (k - i) c)

  pub repeats-begin : Repeats r 0
  repeats-begin = let z : k - 0 ≡ k = omega arith in rw z under-begins

  module _ (d : Ranges) (i : ℕ) (u : Repeats d i) where
    pub repeats-end : k ≤ i → Drove r (replicate k c) d (Ok tt)
    repeats-end h = let z : k - i ≡ 0 = omega arith in under-ends d (rw z at u)

    module _ (e : Ranges) (x : Reply) (h : i < k) (g : Given c) (w : Went d c e x) where
      next : Under r (replicate k c) d ((c ∷ []) ++ replicate (k - (i + 1)) c)
      next = let s : k - i ≡ suc (k - (i + 1)) = omega arith in rw s at u

      pub repeats-go : {o : Option Event} → x ≡ Ok o → Repeats e (i + 1)
      repeats-go a = under_goes (c ∷ []) (replicate (k - (i + 1)) c) next (drove-one d c e x g w) (given-ok a)

      pub repeats-stop : {f : Refusal} → x ≡ Err f → Drove r (replicate k c) e (Err f)
      repeats-stop a = under-stops (c ∷ []) (replicate (k - (i + 1)) c) next (drove-one d c e x g w) (given-err a)

-- ---- by each server of a set

module _ (kind k : ℕ) (g : Identifier) (S n : ℕ) (p : Member) where
  first-in : has S p ≡ true → by_each kind k g (servers_from S (suc n) p) ≡ replicate k (asked kind p g) ++ by_each kind k g (servers_from S n (suc p))
  unfolding by_each servers_from
  first-in h = rw h

  first_out : has S p ≡ false → by_each kind k g (servers_from S (suc n) p) ≡ by_each kind k g (servers_from S n (suc p))
  unfolding servers_from
  first_out h = rw h

module _ (r : Ranges) (kind k : ℕ) (v : View) where
  abbrev from : ℕ → List Step
  from p = by_each kind k (id_of v) (servers_from v.set (max_members - p) p)

  -- the steps of the servers below p are done, which left the ranges d
  abbrev pub Eaches : Ranges → ℕ → Type 0
  Eaches d p = Under r (by_each kind k (id_of v) (servers_of v)) d (from p)

  pub eaches-begin : Eaches r 0
  eaches-begin = under-begins

  module _ (d : Ranges) (p : ℕ) (u : Eaches d p) where
    pub eaches-end : max_members ≤ p → Drove r (by_each kind k (id_of v) (servers_of v)) d (Ok tt)
    unfolding by_each servers_from
    eaches-end h = let z : max_members - p ≡ 0 = omega arith in under-ends d (rw z at u)

    module _ (h : p < max_members) where
      split : max_members - p ≡ suc (max_members - (p + 1))
      split = omega arith

      pub eaches-pass : has v.set p ≡ false → Eaches d (p + 1)
      eaches-pass out = rw (split, first_out kind k (id_of v) v.set (max_members - (p + 1)) p out, ← add-one p) at u

      module _ (within : has v.set p ≡ true) (e : Ranges) (x : Verdict) (done : Drove d (replicate k (asked kind p (id_of v))) e x) where
        here : Under r (by_each kind k (id_of v) (servers_of v)) d (replicate k (asked kind p (id_of v)) ++ from (p + 1))
        here = rw (split, first-in kind k (id_of v) v.set (max_members - (p + 1)) p within, ← add-one p) at u

        pub eaches-go : x ≡ Ok tt → Eaches e (p + 1)
        eaches-go = under_goes (replicate k (asked kind p (id_of v))) (from (p + 1)) here done

        pub eaches-stop : {f : Refusal} → x ≡ Err f → Drove r (by_each kind k (id_of v) (servers_of v)) e (Err f)
        eaches-stop = under-stops (replicate k (asked kind p (id_of v))) (from (p + 1)) here done

-- ---- the servers, counted

-- as many as the ones counted in the set's byte
pub servers-ones : (v : View) → v.set < 2 ^ max_members → length (servers_of v) ≡ ones v.set
servers-ones v h = servers-count v ∙ sym (ones-weigh max_members v.set h)
