-- Queues: what stands at a place of a list, and the client messages of a queue, less those before a place or with one more at the end.
use mathlib.Core.Path.{◌≡◌, refl, sym, ◌∙◌, subst, ap}
use mathlib.Core.Logic.{◌⊎◌, inl, inr}
use mathlib.Core.List.{List, [], ◌∷◌, ◌++◌}
use Prim.Native.Nat.{ℕ, suc, ◌≤◌, ◌<◌}
use native.Mathlib.Numerals.{add-one}
use native.Mathlib.Omega.{arith}
use lib.ListN.{length, take, drop, length-drop, take-append-drop}
use lib.Seq.{drop-append-le, drop-drop}
use Rattle.views.proofs.Members.{In, top, in-nil, in-cons, in_right, in-append}
use Rattle.rules.specs.Data.{Item, item}
use Rattle.rules.proofs.Flat as F
use Rattle.rules.proofs.Flat.{Msg, Ent, ent}

-- ---- places

-- of a list with one more at the end
pub in-snoc : {A : Type 0} {x : A} (l : List A) (y : A) → In x (l ++ (y ∷ [])) → In x l ⊎ (x ≡ y)
in-snoc {x = x} l y h = go (in-append l h)
  where
    last : (x ≡ y) ⊎ In x [] → In x l ⊎ (x ≡ y)
    last (inl e) = inr e
    last (inr k) = absurd (in-nil k)

    go : In x l ⊎ In x (y ∷ []) → In x l ⊎ (x ≡ y)
    go (inl k) = inl k
    go (inr k) = last (in-cons k)

-- the empty list has no first
pub no-first : {A : Type 0} {x : A} {l : List A} → ◌≡◌ {A = List A} [] (x ∷ l) → ⊥
no-first h = let z : ◌≡◌ {A = ℕ} 0 1 = cc in omega arith

module _ {A : Type 0} (l : List A) (n : ℕ) (x : A) (rest : List A) (h : drop n l ≡ x ∷ rest) where
  pub place-next : drop (suc n) l ≡ rest
  place-next = rw (← add-one n, ← drop-drop 1 n l, h)

  pub place_in : In x l
  place_in = subst (λ (k : List A). In x k) (ap (λ (k : List A). take n l ++ k) (sym h) ∙ take-append-drop n l) (in_right (take n l) top)

  pub place-below : n < length l
  place-below = let e : length (drop n l) ≡ suc (length rest) = ap length h in omega (arith, length-drop n l)

-- ---- client messages

-- those of a member's queue
unfoldable pub clients_of : {M : Type 0} → List (Msg M) → List M
clients_of [] = []
clients_of (F.client m ∷ l) = m ∷ clients_of l
clients_of (F.info x ws ∷ l) = clients_of l
clients_of (F.registered ∷ l) = clients_of l
clients_of (F.told c ∷ l) = clients_of l

-- those of a view's order, each with its sender
unfoldable pub items_of : {M : Type 0} → List (Ent M) → List (Item M)
items_of [] = []
items_of (ent q (F.client m) ∷ l) = item q m ∷ items_of l
items_of (ent q (F.info x ws) ∷ l) = items_of l
items_of (ent q F.registered ∷ l) = items_of l
items_of (ent q (F.told c) ∷ l) = items_of l

module _ {M : Type 0} where
  pub clients-append : (k l : List (Msg M)) → clients_of (k ++ l) ≡ clients_of k ++ clients_of l
  unfolding clients_of
  clients-append [] l = refl
  clients-append (F.client m ∷ k) l = ap {B = List M} (λ r. m ∷ r) (clients-append k l)
  clients-append (F.info x ws ∷ k) l = clients-append k l
  clients-append (F.registered ∷ k) l = clients-append k l
  clients-append (F.told c ∷ k) l = clients-append k l

  pub items-append : (k l : List (Ent M)) → items_of (k ++ l) ≡ items_of k ++ items_of l
  unfolding items_of
  items-append [] l = refl
  items-append (ent q (F.client m) ∷ k) l = ap {B = List (Item M)} (λ r. item q m ∷ r) (items-append k l)
  items-append (ent q (F.info x ws) ∷ k) l = items-append k l
  items-append (ent q F.registered ∷ k) l = items-append k l
  items-append (ent q (F.told c) ∷ k) l = items-append k l

  -- what was not taken: the next one and the rest
  pub items-next : (o : List (Ent M)) (n : ℕ) (e : Ent M) (rest : List (Ent M)) → drop n o ≡ e ∷ rest
      → items_of (drop n o) ≡ items_of (e ∷ []) ++ items_of (drop (suc n) o)
  items-next o n e rest h = ap items_of h ∙ items-append (e ∷ []) rest ∙ ap (λ (l : List (Ent M)). items_of (e ∷ []) ++ items_of l) (sym (place-next o n e rest h))

  -- what was not taken of an order with one more at the end
  pub items_more : (o : List (Ent M)) (n : ℕ) (e : Ent M) → n ≤ length o → items_of (drop n (o ++ (e ∷ []))) ≡ items_of (drop n o) ++ items_of (e ∷ [])
  items_more o n e h = ap items_of (drop-append-le n o (e ∷ []) h) ∙ items-append (drop n o) (e ∷ [])
