-- What a join, an attempt and a collect that are accepted leave of the book that a record is: the book that the record after the turn is, with the
-- queues changed as the rule says.
use mathlib.Core.Path.{◌≡◌, sym, ◌∙◌}
use Rattle.std.specs.Prelude.{Option, Some, unwrap_or}
use mathlib.Core.List.{List, [], ◌∷◌}
use Prim.Native.Nat.{ℕ, ◌≤◌}
use lib.ListN.{length}
use Rattle.views.specs.declared.View.{View}
use Rattle.views.specs.Limits.{max_open}
use Rattle.views.specs.Lists.{no_view, list_of, placed}
use Rattle.rules.specs.Data.{Entry, entry, info, Item}
use Rattle.rules.specs.Member.{joins, attempts, collects}
use Rattle.book_bytes.specs.declared.Record.{Record}
use Rattle.book_bytes.specs.Records.{meaning}
use Rattle.record_steps.specs.Turns.{attempted_at, settled_as}
use Rattle.record_steps.proofs.MeaningLeft.{Leaves, joins-leaves, attempts-leaves, collects-leaves}
use Rattle.record_steps.proofs.MeaningBooks.{joined_to, join-book, attempt-book, collect-book}

-- the view that there is
pub view-is : (o : Option View) (v : View) → o ≡ Some v → v ≡ unwrap_or o no_view
view-is o v e = rw e

-- ---- the rule's book

module _ (h : Record) (out : List Entry) (own new : List (Item ℕ)) where
  pub join-leaves : (p : ℕ) (v : View) → Leaves (joins p v (meaning h out own new)) (meaning (joined_to v h) (entry p (info h.settled (list_of h.opens)) ∷ []) own [])
  join-leaves p v d e = joins-leaves p (meaning h out own new) v d e ∙ sym (join-book h out own new p v)

  module _ (l : List View) (lies : h.opens ≡ placed l) (short : length l ≤ max_open) where
    pub attempt-leaves : (weight : ℕ → ℕ) (n p : ℕ)
        → Leaves (attempts weight n p (meaning h out own new)) (meaning (attempted_at (unwrap_or h.carrier no_view) h) out new [])
    attempt-leaves weight n p d e =
        attempts-leaves p (meaning h out own new) weight n (unwrap_or h.carrier no_view) (view-is h.carrier) d e
        ∙ sym (attempt-book h out own new l lies short (unwrap_or h.carrier no_view))

    pub collect-leaves : (n : ℕ) → Leaves (collects n (meaning h out own new)) (meaning (settled_as (unwrap_or h.carrier no_view) h) out own new)
    collect-leaves n d e =
        collects-leaves (meaning h out own new) n (unwrap_or h.carrier no_view) (view-is h.carrier) d e
        ∙ sym (collect-book h out own new l lies short (unwrap_or h.carrier no_view))
