-- The reply to a step shows the outward event of its answer; replies after others show theirs after the others'.
use mathlib.Core.Path.{◌≡◌, refl, sym, ap, ◌∙◌}
use mathlib.Core.List.{List, [], ◌∷◌, ◌++◌, append_assoc}
use Prim.Native.Nat.{ℕ}
use Rattle.std.specs.Prelude.{Some}
use Rattle.rules.specs.Data.{item, Event as Outward, attempt, register, send, hand, safe, Answer, ok, event, refusal}
use Rattle.rules.specs.Runs.{events_of}
use Rattle.events.specs.Replies.{Reply, outward_of, event_of}
use Rattle.events.specs.Shown.{shown, shown_by, events_shown}

outward-shown : (e : Outward ℕ) → shown (Some (outward_of e)) ≡ e ∷ []
unfolding shown
outward-shown (attempt p v) = refl
outward-shown (register p g) = refl
outward-shown (send p g x) = refl
outward-shown (hand p g (item q x)) = refl
outward-shown (safe p g (item q x)) = refl

pub answer-shown : (a : Answer) → shown (event_of a) ≡ events_of (a ∷ [])
unfolding shown events_of
answer-shown ok = refl
answer-shown (event e) = outward-shown e
answer-shown (refusal r) = refl

pub shown-append : (l m : List Reply) → events_shown (l ++ m) ≡ events_shown l ++ events_shown m
unfolding events_shown
shown-append [] m = refl
shown-append (x ∷ l) m =
    let e = shown_by x in
    ap (λ (k : List (Outward ℕ)). e ++ k) (shown-append l m) ∙ sym (append_assoc e (events_shown l) (events_shown m))
