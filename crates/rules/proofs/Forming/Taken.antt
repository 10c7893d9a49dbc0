-- What a book is after the infos, and after the registrations, of a list of servers were taken one after another.
use mathlib.Core.Path.{◌≡◌, refl}
use mathlib.Core.Logic.{◌⊎◌, inl, inr, ⊎_elim}
use mathlib.Core.Bool.{Bool, true}
use mathlib.Core.List.{List, [], ◌∷◌, map}
use Prim.Native.Nat.{◌+◌}
use native.Mathlib.Omega.{arith}
use lib.ListN.{length}
use Rattle.views.specs.declared.View.{View}
use Rattle.views.specs.Points.{at}
use Rattle.views.proofs.Members.{In, top, pop, in-nil, in-cons}
use Rattle.views.proofs.PointLaws.{upd-ind}
use Rattle.rules.specs.Data.{Member, info, registered, Entry, entry, Held, Book}
use Rattle.rules.specs.Member.{delivered}
use Rattle.rules.specs.Group.{take_from}
use Rattle.rules.proofs.Forming.Tame.{held_views, learned-held}
use Rattle.rules.proofs.Forming.Single.{take_all}

-- ---- who was heard of

-- f, and every server of the list
abbrev Heard : List Member → (Member → Bool) → (Member → Bool) → Type 0
Heard l f h = (q : Member) → In q l ⊎ (f q ≡ true) → h q ≡ true

heard-none : (f : Member → Bool) → Heard [] f f
heard-none f q = ⊎_elim (λ (i : In q []). absurd (in-nil i)) (λ (e : f q ≡ true). e)

heard-more : (p : Member) (l : List Member) (f h : Member → Bool) → Heard l (at p true f) h → Heard (p ∷ l) f h
heard-more p l f h k q =
    let noted : (q ≡ p) ⊎ (f q ≡ true) → at p true f q ≡ true
    = upd-ind p true f (λ q x. (q ≡ p) ⊎ (f q ≡ true) → x ≡ true) (λ _. refl) (λ q n. ⊎_elim (λ (e : q ≡ p). absurd (n e)) (λ (e : f q ≡ true). e)) q in
    ⊎_elim
    (λ (i : In q (p ∷ l)). ⊎_elim (λ (e : q ≡ p). k q (inr (noted (inl e)))) (λ (j : In q l). k q (inl j)) (in-cons i))
    (λ (e : f q ≡ true). k q (inr (noted (inr e))))

-- ---- infos

-- the info of what a server holds
unfoldable pub info_from : (Member → Held) → Member → Entry
info_from H q = entry q (info (H q).settled (H q).opens)

module _ (P : View → Type 0) (H : Member → Held) where
  -- the book b became c
  pub record Informed (l : List Member) (b c : Book) : Type 0 where
    pub view : c.carrier.view ≡ b.carrier.view
    pub client : c.client ≡ b.client
    pub outgoing : c.outgoing ≡ b.outgoing
    pub taken : c.carrier.taken ≡ b.carrier.taken + length l
    pub infos : Heard l b.carrier.infos c.carrier.infos
    pub held : (w : View) → In w (held_views c.held) → P w

  pub informs : (l : List Member) (b : Book) → ((q : Member) → In q l → (w : View) → In w (held_views (H q)) → P w) → ((w : View) → In w (held_views b.held) → P w)
      → Informed l b (take_all (map (info_from H) l) b)
  unfolding take_all delivered info_from
  informs [] b f g = record { view = refl; client = refl; outgoing = refl; taken = omega arith; infos = heard-none b.carrier.infos; held = g }
  informs (p ∷ l) b f g =
      let r = informs l (take_from (info_from H p) b) (λ q i. f q (pop i))
      (λ w i. ⊎_elim (λ (j : In w (held_views b.held)). g w j) (λ (j : In w (held_views (H p))). f p top w j) (learned-held (H p).settled (H p).opens b.held w i)) in
      record {
        view = r.view;
        client = r.client;
        outgoing = r.outgoing;
        taken = omega (arith, r.taken);
        infos = heard-more p l b.carrier.infos _ r.infos;
        held = r.held;
      }

-- ---- registrations

unfoldable pub registered_from : Member → Entry
registered_from q = entry q registered

pub record Noted (l : List Member) (b c : Book) : Type 0 where
  pub view : c.carrier.view ≡ b.carrier.view
  pub held : c.held ≡ b.held
  pub registrations : Heard l b.carrier.registrations c.carrier.registrations

pub notes : (l : List Member) (b : Book) → Noted l b (take_all (map registered_from l) b)
unfolding take_all delivered registered_from
notes [] b = record { view = refl; held = refl; registrations = heard-none b.carrier.registrations }
notes (p ∷ l) b =
    let r = notes l (take_from (registered_from p) b) in
    record { view = r.view; held = r.held; registrations = heard-more p l b.carrier.registrations _ r.registrations }
