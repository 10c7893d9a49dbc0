-- Join, attempt and collect: the book that the record after the turn is, is the rule's book of the record before it.
use mathlib.Core.Path.{◌≡◌, ap, ◌∙◌}
use mathlib.Core.Logic.{⊎_elim}
use mathlib.Core.Bool.{true, false, cond}
use mathlib.Core.List.{List, [], ◌∷◌}
use Rattle.std.specs.Prelude.{Some}
use Prim.Native.Nat.{ℕ, ◌+◌, ◌≤◌}
use native.Mathlib.Omega.{arith}
use lib.Dec.{ltb}
use lib.ListN.{length, replicate}
use Rattle.views.specs.declared.View.{View}
use Rattle.views.specs.declared.list.Views.{Views}
use Rattle.views.specs.Limits.{max_members, max_open}
use Rattle.views.specs.Lists.{id_of, insert_of, above_of, list_of, placed}
use Rattle.views.proofs.SetLaws.{known}
use Rattle.views.proofs.ListLaws.{length_above, length_union, insert-union}
use Rattle.views.proofs.PlaceLaws.{list-placed}
use Rattle.rules.specs.Data.{Entry, entry, info, Item}
use Rattle.rules.specs.Member.{joined, opened, attempted, collected}
use Rattle.book_bytes.specs.declared.Record.{Record}
use Rattle.book_bytes.specs.Records.{meaning}
use Rattle.book_bytes.proofs.Blank.{none-noted, none_told}
use Rattle.book_bytes.proofs.Changes.{carried, counting}
use Rattle.record_steps.specs.Turns.{opened_to, attempted_at, settled_as}

-- ---- open views in their places

-- the open views of a record with room for one more
opens-fit : (o : Views) (l : List View) → o ≡ placed l → length l ≤ max_open → length (list_of o) ≤ max_open
opens-fit o l e h = let p : list_of o ≡ l = ap list_of e ∙ list-placed l (omega arith) in rw p h

length-insert : (v : View) (l : List View) → length (insert_of v l) ≤ length l + 1
length-insert v l = rw (insert-union v l) (length_union l (v ∷ []))

opened-list : (v s : View) (o : Views) → length (list_of o) ≤ max_open
    → list_of (opened_to v s o) ≡ cond (ltb (id_of s) (id_of v)) (insert_of v (list_of o)) (list_of o)
unfolding opened_to
opened-list v s o h =
    ⊎_elim
    (λ (t : ltb (id_of s) (id_of v) ≡ true). rw t (list-placed (insert_of v (list_of o)) (omega (arith, length-insert v (list_of o)))))
    (λ (t : ltb (id_of s) (id_of v) ≡ false). rw t)
    (known (ltb (id_of s) (id_of v)))

settled-list : (v : View) (o : Views) → length (list_of o) ≤ max_open → list_of (placed (above_of (id_of v) (list_of o))) ≡ above_of (id_of v) (list_of o)
settled-list v o h = list-placed (above_of (id_of v) (list_of o)) (omega (arith, length_above (id_of v) (list_of o)))

-- ---- the books

-- nothing was taken and nothing is noted
abbrev pub unnoted_of : Record → Record
unnoted_of h = counting h h.registered h.handed.0 h.told.0 h.reported.0 0 0 0 (replicate max_members 0)

-- the record after a join
abbrev pub joined_to : View → Record → Record
joined_to v h = unnoted_of (carried h (Some v))

module _ (h : Record) (out : List Entry) (own new : List (Item ℕ)) where
  pub join-book : (p : ℕ) (v : View)
      → meaning (joined_to v h) (entry p (info h.settled (list_of h.opens)) ∷ []) own [] ≡ joined p v (meaning h out own new)
  unfolding joined
  join-book p v = rw (none-noted, none_told max_members)

  module _ (l : List View) (lies : h.opens ≡ placed l) (short : length l ≤ max_open) (v : View) where
    pub attempt-book : meaning (attempted_at v h) out new [] ≡ attempted v (meaning h out own new)
    unfolding attempted_at attempted opened
    attempt-book = rw (opened-list v h.settled h.opens (opens-fit h.opens l lies short))

    pub collect-book : meaning (settled_as v h) out own new ≡ collected v (meaning h out own new)
    unfolding settled_as collected
    collect-book = rw (settled-list v h.opens (opens-fit h.opens l lies short))
