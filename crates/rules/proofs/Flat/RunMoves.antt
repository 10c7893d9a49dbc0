-- Any step, any list of steps from an accepted start: the flat group makes the same outward events by its moves.
use mathlib.Core.Path.{◌≡◌, refl, sym, ◌∙◌, subst, ap}
use mathlib.Core.Bool.{Bool, true, false, cond}
use Rattle.std.specs.Prelude.{None, Some}
use mathlib.Core.List.{List, [], ◌∷◌, ◌++◌, append-nil, append_assoc}
use Prim.Native.Nat.{ℕ, suc, ◌<◌}
use lib.Dec.{T, ltb, leb}
use borrow.Author.Tests.{ltb-true, leb-true}
use Rattle.views.specs.declared.View.{View}
use Rattle.views.specs.declared.refusal.Refusal.{Refusal}
use Rattle.views.specs.Limits.{max_members, max_views}
use Rattle.views.specs.Sets.{both, has, fits}
use Rattle.views.specs.Lists.{id_of}
use Rattle.views.proofs.Members.{in-nil}
use Rattle.views.proofs.SetLaws.{both_true}
use Rattle.rules.specs.Data.{Member, Group, GroupOf, Step, Event, Answer, ok, event, refusal, Result, refused, accepted, need, rank}
use Rattle.rules.specs.Sound.{sound}
use Rattle.rules.specs.Group.{Next, step_of, settles, step, start, started, first_view, fresh}
use Rattle.rules.specs.Runs.{last_of, answers_of, events_of}
use Rattle.rules.proofs.Flat.{Flat, Steps, flat0}
use Rattle.rules.proofs.Flat.Flatten.{flat}
use Rattle.rules.proofs.Sound.{sound-says}
use Rattle.rules.proofs.Holding.{Holds, refuses, gives, given, need-holds, pick-holds}
use Rattle.rules.proofs.Flat.Firm.{Firm, firm, set_below, set-some, Own}
use Rattle.rules.proofs.Flat.Moves.{shown, Moved, create-moves, owned, attempt-well, register-well, send-well, tell-well, hand-well, safe-well, collect-well}
use Rattle.rules.proofs.Flat.JointMoves.{join-moves, pass-moves, order-moves, deliver-moves}

events-shown : (a : Answer) (l : List Answer) → events_of (a ∷ l) ≡ shown a ++ events_of l
unfolding events_of shown
events-shown ok l = refl
events-shown (event e) l = refl
events-shown (refusal r) l = refl

module _ (weight : Member → ℕ) where
  -- ---- one step
  step-moves : (s : Group) → Firm s → Own s → (c : Step) → Holds (Moved weight s) (step_of weight s c)
  unfolding step_of
  step-moves s i o c =
      let p = c.first in
      pick-holds c.kind _ (
        create-moves weight s i o c.first c.second,
        (
          by _ _ (λ _. join-moves weight s o p c.second),
          (
            by _ _ (λ _. pass-moves weight s o p),
            (
              by _ _ (λ _. order-moves weight s o p c.second),
              (
                by _ _ (λ l. deliver-moves weight s o p i l),
                (
                  by _ _ (λ l. owned weight s o p _ (attempt-well weight s o p i l)),
                  (
                    by _ _ (λ _. owned weight s o p _ (register-well weight s o p)),
                    (
                      by _ _ (λ _. owned weight s o p _ (send-well weight s o p c.second)),
                      (
                        by _ _ (λ _. owned weight s o p _ (hand-well weight s o p)),
                        (
                          by _ _ (λ l. owned weight s o p _ (tell-well weight s o p i l)),
                          (
                            by _ _ (λ l. owned weight s o p _ (safe-well weight s o p i l)),
                            (
                              by _ _ (λ l. owned weight s o p _ (collect-well weight s o p i l)),
                              tt,
                            ),
                          ),
                        ),
                      ),
                    ),
                  ),
                ),
              ),
            ),
          ),
        ),
      )
    where
      by : (r : Refusal) (x : Result Next) → (c.first < s.members → Holds (Moved weight s) x) → Holds (Moved weight s) (need (ltb c.first s.members) r x)
      by r x h = need-holds (ltb c.first s.members) r x (λ e. h (ltb-true c.first s.members e))

  module _ (v : View) where
    -- the flat group's run goes on with what a result leaves and answers; a refusal leaves it where it is
    after-result : (s : Group) (l : List (Event ℕ)) → Own s → Steps max_members weight v (flat s) l → (r : Result Next) → Holds (Moved weight s) r
        → Steps max_members weight v (flat (settles s r).state) (l ++ shown (settles s r).answer) × Own (settles s r).state
    unfolding shown
    after-result s l o st (refused r) refuses = (subst (λ (k : List (Event ℕ)). Steps max_members weight v (flat s) k) (sym (append-nil l)) st, o)
    after-result s l o st (accepted x) (gives h) = (Steps.then st h.0, h.1)

    after-step : (s : Group) (l : List (Event ℕ)) → Own s → Steps max_members weight v (flat s) l → (c : Step)
        → Steps max_members weight v (flat (step weight s c).state) (l ++ shown (step weight s c).answer) × Own (step weight s c).state
    unfolding step
    after-step s l o st c = after-result s l o st _ (need-holds (sound s) _ _ (λ h. step-moves s (firm s (sound-says s h)) o c))

    after-steps : (s : Group) (l : List (Event ℕ)) → Own s → Steps max_members weight v (flat s) l → (k : List Step)
        → Steps max_members weight v (flat (last_of weight s k)) (l ++ events_of (answers_of weight s k))
    unfolding last_of answers_of events_of
    after-steps s l o st [] = subst (λ (k : List (Event ℕ)). Steps max_members weight v (flat s) k) (sym (append-nil l)) st
    after-steps s l o st (c ∷ k) =
        let x = after-step s l o st c in
        let more = after-steps (step weight s c).state (l ++ shown (step weight s c).answer) x.1 x.0 k in
        let e : (l ++ shown (step weight s c).answer) ++ events_of (answers_of weight (step weight s c).state k) ≡ l ++ events_of ((step weight s c).answer ∷ answers_of weight (step weight s c).state k)
        = append_assoc l (shown (step weight s c).answer) (events_of (answers_of weight (step weight s c).state k))
        ∙ ap (λ (m : List (Event ℕ)). l ++ m) (sym (events-shown (step weight s c).answer (answers_of weight (step weight s c).state k)))
        in
        subst (λ (m : List (Event ℕ)). Steps max_members weight v (flat (last_of weight (step weight s c).state k)) m) e more

  -- ---- the start

  view-or : (b : Bool) (v : View) → rank (cond b (Some v) None) ≡ cond b (suc (id_of v)) 0
  view-or true v = refl
  view-or false v = refl

  pub start-flat : {M : Type 0} (n S room : ℕ) → flat (started {M = M} n S room) ≡ flat0 (first_view S)
  unfolding started fresh
  start-flat n S room = λ i. record {
    views = first_view S ∷ [];
    carrier = λ p. view-or (has S p) (first_view S) i;
    client = λ p. view-or (has S p) (first_view S) i;
    settled = λ p. 0;
    opens = λ p. [];
    outgoing = λ p. [];
    infos = λ p q. false;
    regs = λ p q. false;
    tolds = λ p q. 0;
    taken = λ p. 0;
    arrived = λ p. [];
    ahead = λ p. [];
    given = λ p. [];
    reported = λ p. 0;
    waiting = λ p g. [];
    order = λ g. [];
  }

  pub start-own : {M : Type 0} (n S room : ℕ) → Own (started {M = M} n S room)
  unfolding started fresh
  start-own n S room = record { outgoing = λ p e h. absurd (in-nil h); waiting = λ p g e h. absurd (in-nil h) }

-- what an accepted start gives: the started group, and a first set of members below the limit, not empty
pub record Began {M : Type 0} (n S room : ℕ) (s : GroupOf M) : Type 0 where
  pub is : s ≡ started n S room
  pub below : (p : ℕ) → T (has S p) → p < max_members
  pub some_one : (p : ℕ) × T (has S p)

module _ (n S room : ℕ) where
  start-began : {M : Type 0} → Holds (Began {M = M} n S room) (start n S room)
  unfolding start
  start-began =
      need-holds (both (leb 1 n) (leb n max_members)) _ _ (λ m. need-holds (fits n S) _ _ (λ f. need-holds (both (leb 1 room) (leb room max_views)) _ _ (λ _.
      gives (record {
        is = refl;
        below = set_below n S f (leb-true n max_members (both_true (leb 1 n) (leb n max_members) m).1);
        some_one = set-some n S f;
      }))))

  pub began : {M : Type 0} (s : GroupOf M) → start n S room ≡ accepted s → Began n S room s
  began {M = M} s e = given (subst (λ (r : Result (GroupOf M)). Holds (Began n S room) r) e start-began)

-- every list of steps from an accepted start is a run of the flat group with the same outward events
pub runs : (weight : Member → ℕ) (n S room : ℕ) (s : Group) → start n S room ≡ accepted s → (k : List Step)
    → Steps max_members weight (first_view S) (flat (last_of weight s k)) (events_of (answers_of weight s k))
runs weight n S room s e k =
    let g = began n S room s e in
    let st : Steps max_members weight (first_view S) (flat s) [] =
    subst (λ (t : Flat ℕ). Steps max_members weight (first_view S) t []) (sym (ap flat g.is ∙ start-flat weight n S room)) Steps.begin in
    after-steps weight (first_view S) s [] (subst Own (sym g.is) (start-own weight n S room)) st k
