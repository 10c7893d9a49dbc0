-- Each step's verdict as its row of tests in the record's own terms, from left to right: of the queues it asks no more than their lengths.
use mathlib.Core.Path.{◌≡◌, refl, ap, ◌∙◌}
use mathlib.Core.Bool.{Bool, true, false, not, ◌||◌}
use Rattle.std.specs.Prelude.{Option, None, Some, is_some, unwrap_or, Result, Ok, Err}
use mathlib.Core.List.{List, [], ◌∷◌}
use Prim.Native.Nat.{ℕ, zero, suc, min}
use lib.Dec.{eqb, ltb, leb-zero, leb-suc-zero, leb-suc-suc}
use lib.ListN.{length, take, drop, get_or, length-take, length-replicate}
use Rattle.views.specs.declared.View.{View}
use Rattle.views.specs.declared.refusal.Refusal.{Refusal}
use Rattle.views.specs.declared.refusal.Refusal.TheVariants.{NoCarrierView, NotAboveClient, InfoMissing, TestFailed, NoClientView, AlreadyRegistered, OutgoingFull, NoneToHand, ClientNotCarrier, NothingNewToTell, NoneToReport, ToldTooLow, NotAboveSettled, RegistrationMissing}
use Rattle.views.specs.Refusals.{Verdict, require, and_then}
use Rattle.views.specs.Limits.{max_outgoing}
use Rattle.views.specs.Sets.{both, has}
use Rattle.views.specs.Lists.{id_of, no_view, list_of}
use Rattle.rules.specs.Data as R
use Rattle.rules.specs.Data.{Entry, Item, item, need as needed, with_view, with_first, rank}
use Rattle.rules.specs.Member.{every_of, all, is_above, passes, joins, attempts, registers, sends, hands, tells, safes, collects}
use Rattle.events.specs.Replies.{verdict_of}
use Rattle.book_bytes.specs.declared.Record.{Record}
use Rattle.book_bytes.specs.Records.{meaning}
use Rattle.record_steps.specs.Turns.{items_of, join_verdict}

-- ---- a row and a step by its verdict

pub refused-by : {A : Type 0} {v : Verdict} (r : Refusal) (x : Result A Refusal) → v ≡ Err r → Err r ≡ and_then v x
unfolding and_then
refused-by {v = v} r x e = rw e

pub accepted-by : {A : Type 0} {v : Verdict} (x : Result A Refusal) → v ≡ Ok tt → x ≡ and_then v x
unfolding and_then
accepted-by {v = v} x e = rw e

-- ---- the verdict of each combinator of the rules

module _ {A : Type 0} where
  at-need : (b : Bool) (r : Refusal) (x : R.Result A) → verdict_of (needed b r x) ≡ require b r (verdict_of x)
  unfolding needed require
  at-need true r x = refl
  at-need false r x = refl

  at-view : (o : Option View) (r : Refusal) (f : View → R.Result A)
      → verdict_of (with_view o r f) ≡ require (is_some o) r (verdict_of (f (unwrap_or o no_view)))
  unfolding with_view require
  at-view (Some v) r f = refl
  at-view None r f = refl

  -- the first of a list behind k, where the verdict is the same whatever it is
  at_first : {B : Type 0} (l : List B) (k : ℕ) (r : Refusal) (f : B → List B → R.Result A) (v : Verdict) → ((x : B) (rest : List B) → verdict_of (f x rest) ≡ v)
      → verdict_of (with_first (drop k l) r f) ≡ require (ltb k (length l)) r v
  unfolding with_first require
  at_first [] zero r f v e = refl
  at_first [] (suc k) r f v e = rw (leb-suc-zero (suc k))
  at_first (x ∷ l) zero r f v e = rw (leb-suc-suc zero (length l), leb-zero (length l)) (e x l)
  at_first (x ∷ l) (suc k) r f v e = rw (leb-suc-suc (suc k) (length l)) (at_first l k r f v e)

-- ---- the rows

-- the client view is the carrier view
abbrev pub together : Record → Bool
together h = eqb (rank h.client) (rank h.carrier)

-- the inward list that the turns ask of the rules is as long as they say
pub items-length : (n : ℕ) → length (items_of n) ≡ n
items-length n = length-replicate n (item 0 0)

-- there are n outgoing, and one more can be queued or would not be
abbrev pub room : Record → ℕ → Bool
room h n = not (together h) || ltb n max_outgoing

module _ (p : ℕ) (h : Record) (out : List Entry) (own new : List (Item ℕ)) where
  pub join-row : (v : View) → verdict_of (joins p v (meaning h out own new)) ≡ join_verdict p v h.carrier
  unfolding joins join_verdict
  join-row v = at-need _ _ _ ∙ ap (require _ _) (at-need _ _ _)

  pub attempt-row : (weight : ℕ → ℕ) (n : ℕ)
      → verdict_of (attempts weight n p (meaning h out own new)) ≡ require (is_some h.carrier) NoCarrierView (
      require (is_above (id_of (unwrap_or h.carrier no_view)) h.client) NotAboveClient (
      require (every_of n (unwrap_or h.carrier no_view) (has h.infos)) InfoMissing (
      require (all (passes weight (unwrap_or h.carrier no_view)) (h.settled ∷ list_of h.opens)) TestFailed (Ok tt))))
  unfolding attempts
  attempt-row weight n = at-view h.carrier _ _ ∙ ap (require _ _) (at-need _ _ _ ∙ ap (require _ _) (at-need _ _ _ ∙ ap (require _ _) (at-need _ _ _)))

  pub register-row : verdict_of (registers p (meaning h out own new)) ≡ require (is_some h.client) NoClientView (
      require (not h.registered) AlreadyRegistered (require (room h (length out)) OutgoingFull (Ok tt)))
  unfolding registers
  register-row = at-view h.client _ _ ∙ ap (require _ _) (at-need _ _ _ ∙ ap (require _ _) (at-need _ _ _))

  pub send-row : (x : ℕ) → verdict_of (sends p x (meaning h out own new)) ≡ require (is_some h.client) NoClientView (
      require (room h (length out)) OutgoingFull (Ok tt))
  unfolding sends
  send-row x = at-view h.client _ _ ∙ ap (require _ _) (at-need _ _ _)

  pub hand-row : verdict_of (hands p (meaning h out own new)) ≡ require (is_some h.client) NoClientView (
      require (ltb h.handed.0 (length own)) NoneToHand (Ok tt))
  unfolding hands
  hand-row = at-view h.client _ _ ∙ ap (require _ _) (at_first own h.handed.0 _ _ _ (λ x rest. refl))

  pub tell-row : verdict_of (tells p (meaning h out own new)) ≡ require (is_some h.client) NoClientView (
      require (together h) ClientNotCarrier (
      require (both (not (eqb h.handed.0 h.told.0)) (not (eqb h.handed.0 0))) NothingNewToTell (require (room h (length out)) OutgoingFull (Ok tt))))
  unfolding tells
  tell-row = at-view h.client _ _ ∙ ap (require _ _) (at-need _ _ _ ∙ ap (require _ _) (at-need _ _ _ ∙ ap (require _ _) (at-need _ _ _)))

  pub safe-row : (n : ℕ) → verdict_of (safes n p (meaning h out own new)) ≡ require (is_some h.client) NoClientView (
      require (together h) ClientNotCarrier (
      require (ltb h.reported.0 (min h.handed.0 (length own))) NoneToReport (
      require (every_of n (unwrap_or h.client no_view) (λ q. ltb h.reported.0 (get_or h.tolds q 0))) ToldTooLow (Ok tt))))
  unfolding safes
  safe-row n =
      rw (← length-take h.handed.0 own)
      (at-view h.client _ _ ∙ ap (require _ _) (at-need _ _ _ ∙ ap (require _ _) (at_first (take h.handed.0 own) h.reported.0 _ _ _ (λ x rest. at-need _ _ _))))

  pub collect-row : (n : ℕ) → verdict_of (collects n (meaning h out own new)) ≡ require (is_some h.carrier) NoCarrierView (
      require (ltb (id_of h.settled) (id_of (unwrap_or h.carrier no_view))) NotAboveSettled (
      require (every_of n (unwrap_or h.carrier no_view) (has h.registrations)) RegistrationMissing (Ok tt)))
  unfolding collects
  collect-row n = at-view h.carrier _ _ ∙ ap (require _ _) (at-need _ _ _ ∙ ap (require _ _) (at-need _ _ _))
