-- The verdict of each step on the book that a record is, with any queues: of the queues it asks no more than their lengths.
use mathlib.Core.Path.{◌≡◌, refl}
use mathlib.Core.Bool.{Bool, true, false}
use Rattle.std.specs.Prelude.{Option, None, Some}
use mathlib.Core.List.{List, [], ◌∷◌}
use Prim.Native.Nat.{ℕ}
use native.Mathlib.Omega.{arith}
use lib.ListN.{length, take, drop, length-replicate, length-take, length-drop}
use Rattle.views.specs.declared.View.{View}
use Rattle.views.specs.declared.refusal.Refusal.{Refusal}
use Rattle.rules.specs.Data.{Entry, Item, Result, need, with_view, with_first}
use Rattle.rules.specs.Member.{has_room, attempts, registers, sends, hands, tells, safes, collects}
use Rattle.events.specs.Replies.{verdict_of}
use Rattle.book_bytes.specs.declared.Record.{Record}
use Rattle.book_bytes.specs.Records.{current_of, meaning}
use Rattle.record_steps.specs.Turns.{entries_of, items_of, book_of, unheld, register_verdict, send_verdict, hand_verdict, tell_verdict, safe_verdict}

-- ---- the refusal table's forms: verdicts that agree in what follows agree

need-same : {A : Type 0} (s t : Bool) (r : Refusal) (x y : Result A) → s ≡ t → verdict_of x ≡ verdict_of y → verdict_of (need s r x) ≡ verdict_of (need t r y)
unfolding need
need-same true true r x y e h = h
need-same false false r x y e h = refl
need-same true false r x y e h = let z : ◌≡◌ {A = ℕ} 0 1 = cc in absurd (omega arith)
need-same false true r x y e h = let z : ◌≡◌ {A = ℕ} 0 1 = cc in absurd (omega arith)

view-same : {A : Type 0} (o : Option View) (r : Refusal) (f g : View → Result A) → ((v : View) → verdict_of (f v) ≡ verdict_of (g v))
    → verdict_of (with_view o r f) ≡ verdict_of (with_view o r g)
unfolding with_view
view-same None r f g h = refl
view-same (Some v) r f g h = h v

-- lists of one length have a first or have none
first-same : {A B : Type 0} (k l : List B) (r : Refusal) (f g : B → List B → Result A) → length k ≡ length l
    → ((x : B) (rest : List B) (y : B) (others : List B) → verdict_of (f x rest) ≡ verdict_of (g y others))
    → verdict_of (with_first k r f) ≡ verdict_of (with_first l r g)
unfolding with_first
first-same [] [] r f g e h = refl
first-same [] (y ∷ l) r f g e h = absurd (omega arith)
first-same (x ∷ k) [] r f g e h = absurd (omega arith)
first-same (x ∷ k) (y ∷ l) r f g e h = h x k y l

-- ---- the steps

module _ (h : Record) (out : List Entry) (own new : List (Item ℕ)) where
  pub attempt-verdict : (weight : ℕ → ℕ) (n p : ℕ) → verdict_of (attempts weight n p (meaning h out own new)) ≡ verdict_of (attempts weight n 0 (book_of h 0 0))
  unfolding attempts
  attempt-verdict weight n p =
      view-same _ _ _ _ (λ v. need-same _ _ _ _ _ refl (need-same _ _ _ _ _ refl (need-same _ _ _ _ _ refl refl)))

  pub collect-verdict : (n : ℕ) → verdict_of (collects n (meaning h out own new)) ≡ verdict_of (collects n (book_of h 0 0))
  unfolding collects
  collect-verdict n = view-same _ _ _ _ (λ v. need-same _ _ _ _ _ refl (need-same _ _ _ _ _ refl refl))

-- ---- the steps in the client view: nor do they ask what is held

module _ (h : Record) (out : List Entry) (own new : List (Item ℕ)) where
  -- as many are outgoing
  out-length : length (entries_of (length out)) ≡ length out
  out-length = length-replicate (length out) _

  -- as many are in the inward list
  own-length : length (items_of (length own)) ≡ length own
  own-length = length-replicate (length own) _

  -- 24 asks how many are outgoing
  room-same : has_room (meaning h out own new) ≡ has_room (book_of (unheld (current_of h)) (length out) 0)
  room-same = rw out-length

  pub register-verdict : (p : ℕ) → verdict_of (registers p (meaning h out own new)) ≡ register_verdict (current_of h) (length out)
  unfolding registers register_verdict
  register-verdict p = view-same _ _ _ _ (λ v. need-same _ _ _ _ _ refl (need-same _ _ _ _ _ room-same refl))

  pub send-verdict : (p x : ℕ) → verdict_of (sends p x (meaning h out own new)) ≡ send_verdict (current_of h) (length out)
  unfolding sends send_verdict
  send-verdict p x = view-same _ _ _ _ (λ v. need-same _ _ _ _ _ room-same refl)

  pub tell-verdict : (p : ℕ) → verdict_of (tells p (meaning h out own new)) ≡ tell_verdict (current_of h) (length out)
  unfolding tells tell_verdict
  tell-verdict p =
      view-same _ _ _ _ (λ v. need-same _ _ _ _ _ refl (need-same _ _ _ _ _ refl (need-same _ _ _ _ _ room-same refl)))

  pub hand-verdict : (p : ℕ) → verdict_of (hands p (meaning h out own new)) ≡ hand_verdict (current_of h) (length own)
  unfolding hands hand_verdict
  hand-verdict p =
      view-same _ _ _ _ (λ v. first-same (drop h.handed.0 own) (drop h.handed.0 (items_of (length own))) _ _ _
      (simp (length-drop, own-length)) (λ x rest y others. refl))

  pub safe-verdict : (n p : ℕ) → verdict_of (safes n p (meaning h out own new)) ≡ safe_verdict n (current_of h) (length own)
  unfolding safes safe_verdict
  safe-verdict n p =
      view-same _ _ _ _ (λ v. need-same _ _ _ _ _ refl (
      first-same (drop h.reported.0 (take h.handed.0 own)) (drop h.reported.0 (take h.handed.0 (items_of (length own)))) _ _ _
      (simp (length-drop, length-take, own-length)) (λ x rest y others. need-same _ _ _ _ _ refl refl)))
