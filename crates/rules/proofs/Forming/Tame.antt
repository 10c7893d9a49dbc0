-- What a member's steps but the join make of its book: the carrier view stays, what is held was held, came with a message or is the carrier view, and no
-- views go out.
use mathlib.Core.Path.{◌≡◌, refl, ◌∙◌, subst, ap}
use mathlib.Core.Logic.{◌⊎◌, inl, inr, ⊎_elim}
use mathlib.Core.Bool.{Bool, true, false, cond}
use mathlib.Core.List.{List, [], ◌∷◌, ◌++◌}
use Prim.Native.Nat.{ℕ, suc, ◌<◌}
use native.Mathlib.Omega.{arith}
use lib.Dec.{ltb}
use Rattle.views.specs.declared.View.{View}
use Rattle.std.specs.Prelude.{Option, Some, None}
use Rattle.views.specs.Lists.{id_of, find_of, insert_of, union_of, above_of}
use Rattle.views.proofs.Members.{In, top, pop, in-cons}
use Rattle.views.proofs.ListLaws.{find-in, above_in, union-in, insert-in}
use Rattle.rules.specs.Data.{Member, Message, client, info, registered, told, Entry, entry, Held, Book, Result, rank}
use Rattle.rules.specs.Member.{Done, client_is_carrier, outgoes, queues, own_or, settled_by, learned, delivered, received, opened, attempted, attempts, noted, registers, sends, moves, hands, tells, safes, collected, collects}
use Rattle.rules.specs.Alone.{views_of}
use Rattle.rules.proofs.Holding.{Holds, gives, need-holds, view-holds, first_holds}
use Rattle.rules.proofs.Sound.Books.{views_in}
use Rattle.rules.proofs.Sound.QueueLaws.{in-snoc}

abbrev pub held_views : Held → List View
held_views h = h.settled ∷ h.opens

-- the book b becomes c, and the views u came with a message
pub record Tame (u : List View) (b c : Book) : Type 0 where
  pub carrier : c.carrier.view ≡ b.carrier.view
  pub held : (w : View) → In w (held_views c.held) → In w (held_views b.held) ⊎ (In w u ⊎ (id_of w < rank b.carrier.view))
  pub outgoing : (e : Entry) → In e c.outgoing → In e b.outgoing ⊎ (views_in e ≡ [])

abbrev pub Tames : Book → Result Done → Type 0
Tames b r = Holds (λ (d : Done). Tame [] b d.book) r

-- the same is held and outgoing
same : (u : List View) (b c : Book) → c.carrier.view ≡ b.carrier.view → c.held ≡ b.held → c.outgoing ≡ b.outgoing → Tame u b c
same u b c e f g = record {
  carrier = e;
  held = λ w i. inl (subst (λ (h : Held). In w (held_views h)) f i);
  outgoing = λ x i. inl (subst (λ (l : List Entry). In x l) g i);
}

queued : (p : Member) (m : Message) (b c : Book) → views_of m ≡ [] → Tame [] b c → Tame [] b (queues p m c)
unfolding queues
queued p m b c n t = go (client_is_carrier c)
  where
    go : (x : Bool) → Tame [] b (cond x (outgoes (c.outgoing ++ (entry p m ∷ [])) c) c)
    go true = record {
      carrier = t.carrier;
      held = t.held;
      outgoing = λ e i. ⊎_elim (λ (j : In e c.outgoing). t.outgoing e j) (λ (k : e ≡ entry p m). inr (ap views_in k ∙ n)) (in-snoc c.outgoing (entry p m) e i);
    }
    go false = t

-- ---- what an info teaches was held, or is in it

settled-of : (x : View) (h : Held) → In (settled_by x h) (held_views h) ⊎ (settled_by x h ≡ x)
unfolding settled_by
settled-of x h = go (ltb (id_of h.settled) (id_of x)) (find_of (id_of x) h.opens) refl
  where
    go : (y : Bool) (o : Option View) → find_of (id_of x) h.opens ≡ o
        → In (cond y (own_or x o) h.settled) (held_views h) ⊎ (cond y (own_or x o) h.settled ≡ x)
    go true (Some v) e = inl (pop (find-in (id_of x) h.opens v e).0)
    go true None e = inr refl
    go false o e = inl top

pub learned-held : (x : View) (l : List View) (h : Held) (w : View) → In w (held_views (learned x l h)) → In w (held_views h) ⊎ In w (x ∷ l)
unfolding learned
learned-held x l h w i =
    ⊎_elim
    (λ (e : w ≡ settled_by x h). ⊎_elim (λ (j : In (settled_by x h) (held_views h)). inl (rw e j)) (λ (k : settled_by x h ≡ x). inr (rw (e ∙ k) top)) (settled-of x h))
    (λ (j : In w (above_of (id_of (settled_by x h)) (union_of h.opens l))).
    ⊎_elim (λ (k : In w h.opens). inl (pop k)) (λ (k : In w l). inr (pop k)) (union-in w h.opens l (above_in _ _ w j).0))
    (in-cons i)

-- ---- the steps

module _ (b : Book) where
  pub delivered-tame : (q : Member) (m : Message) → Tame (views_of m) b (delivered q m b)
  unfolding delivered received
  delivered-tame q (client x) = go (client_is_carrier b) refl
    where
      go : (y : Bool) → client_is_carrier b ≡ y → Tame [] b (delivered q (client x) b)
      go true e = rw e (same [] b _ refl refl refl)
      go false e = rw e (same [] b _ refl refl refl)
  delivered-tame q (info x l) = record {
    carrier = refl;
    held = λ w i. ⊎_elim (λ (j : In w (held_views b.held)). inl j) (λ (j : In w (x ∷ l)). inr (inl j)) (learned-held x l b.held w i);
    outgoing = λ e i. inl i;
  }
  delivered-tame q registered = same [] b _ refl refl refl
  delivered-tame q (told k) = same [] b _ refl refl refl

  pub attempts-tame : (weight : Member → ℕ) (n : ℕ) (p : Member) → Tames b (attempts weight n p b)
  unfolding attempts attempted opened
  attempts-tame weight n p =
      view-holds b.carrier.view _ _ (λ v c. need-holds _ _ _ (λ _. need-holds _ _ _ (λ _. need-holds _ _ _ (λ _.
      gives (record { carrier = refl; held = λ w i. go v (ap rank c) (ltb (id_of b.held.settled) (id_of v)) w (in-cons i); outgoing = λ e i. inl i })))))
    where
      go : (v : View) → rank b.carrier.view ≡ suc (id_of v) → (x : Bool) (w : View)
          → (w ≡ b.held.settled) ⊎ In w (cond x (insert_of v b.held.opens) b.held.opens)
          → In w (held_views b.held) ⊎ (In w [] ⊎ (id_of w < rank b.carrier.view))
      go v c x w (inl e) = inl (rw e top)
      go v c true w (inr i) =
          ⊎_elim (λ (e : w ≡ v). inr (inr (omega (arith, ap id_of e)))) (λ (j : In w b.held.opens). inl (pop j)) (insert-in v b.held.opens w i)
      go v c false w (inr i) = inl (pop i)

  pub registers-tame : (p : Member) → Tames b (registers p b)
  unfolding registers
  registers-tame p = view-holds _ _ _ (λ _ _. need-holds _ _ _ (λ _. need-holds _ _ _ (λ _. gives (queued p registered b (noted b) refl (same [] b (noted b) refl refl refl)))))

  pub sends-tame : (p : Member) (x : ℕ) → Tames b (sends p x b)
  unfolding sends
  sends-tame p x = view-holds _ _ _ (λ _ _. need-holds _ _ _ (λ _. gives (queued p (client x) b b refl (same [] b b refl refl refl))))

  pub hands-tame : (p : Member) → Tames b (hands p b)
  unfolding hands
  hands-tame p = view-holds _ _ _ (λ _ _. first_holds _ _ _ (λ _ _ _. gives (same [] b _ refl refl refl)))

  pub tells-tame : (p : Member) → Tames b (tells p b)
  unfolding tells
  tells-tame p =
      let c : Book = moves b.client.handed b.client.handed b.client.reported b in
      view-holds _ _ _ (λ _ _. need-holds _ _ _ (λ _. need-holds _ _ _ (λ _. need-holds _ _ _ (λ _.
      gives (queued p (told b.client.handed) b c refl (same [] b c refl refl refl))))))

  pub safes-tame : (n : ℕ) (p : Member) → Tames b (safes n p b)
  unfolding safes
  safes-tame n p = view-holds _ _ _ (λ _ _. need-holds _ _ _ (λ _. first_holds _ _ _ (λ _ _ _. need-holds _ _ _ (λ _. gives (same [] b _ refl refl refl)))))

  pub collects-tame : (n : ℕ) → Tames b (collects n b)
  unfolding collects collected
  collects-tame n =
      view-holds b.carrier.view _ _ (λ v c. need-holds _ _ _ (λ _. need-holds _ _ _ (λ _.
      gives (record {
        carrier = refl;
        held = λ w i. ⊎_elim
            (λ (e : w ≡ v). inr (inr (omega (arith, ap id_of e, ap rank c))))
            (λ (j : In w (above_of (id_of v) b.held.opens)). inl (pop (above_in _ _ w j).0)) (in-cons i);
        outgoing = λ e i. inl i;
      }))))
