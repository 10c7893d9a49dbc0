-- What is in a view's order is read back from its bytes: so a host may carry bytes where the world has messages.
use mathlib.Core.Path.{◌≡◌, refl, ◌∙◌, ap, subst, sym}
use mathlib.Core.Bool.{false}
use mathlib.Core.List.{List, [], ◌∷◌}
use Prim.Native.Nat.{ℕ, zero, suc, ◌+◌, ◌^◌, ◌≤◌, ◌<◌}
use native.Mathlib.Omega.{arith}
use lib.Pow.{pow_mono}
use lib.ListN.{length}
use borrow.Author.Tests.{leb-false, le-leb}
use Rattle.views.specs.declared.View.{View}
use Rattle.std.specs.Prelude.{Ok}
use Rattle.views.specs.Limits.{max_members, max_views, max_ordered}
use Rattle.views.specs.Refusals.{require}
use Rattle.views.specs.Sets.{is_empty, is_beyond}
use Rattle.views.specs.Lists.{id_of, is_rising, list_of, placed}
use Rattle.views.proofs.Members.{In, top, pop, in-nil}
use Rattle.views.proofs.PlaceLaws.{length-places, list-placed}
use Rattle.wire.specs.declared.Message.TheVariants.{Client}
use Rattle.wire.specs.declared.Frame.{Frame}
use Rattle.wire.specs.Format.{bytes_of, views_allowed, some_empty, told_fits, content_of}
use Rattle.wire.specs.Single.{read_one}
use Rattle.wire.specs.Widths.{Fits, EachFits}
use Rattle.wire.specs.Writer.{frame_verdict}
use Rattle.rules.specs.Data.{Message, client, info, registered, told, entry, accepted}
use Rattle.rules.specs.Group.{first_view}
use Rattle.rules.specs.Alone.{views_of, carried_of, message_bytes, sent_of}
use Rattle.rules.specs.Hosts.{BytesRead}
use Rattle.rules.proofs.TestLaws.{within-from}
use Rattle.rules.proofs.Sound.{EntryFacts, client_entry, info_entry, registered_entry, told_entry}
use Rattle.rules.proofs.Alone.Written.{written-sent}
use Rattle.rules.proofs.Flat.Flatten.{ent_of}
use Rattle.rules.proofs.Flat.Firm.{in_map, fits-says}
use Rattle.rules.proofs.Hosts.Runs.{ranged, existing, high, fitting, run, well}
use Rattle.rules.proofs.Hosts.Heard.{all-sent}

abbrev framed : ℕ → Message → Frame
framed g m = record { view = record { 0 = g }; message = carried_of m; views = placed (views_of m) }

is-client : (m : Message) (x : ℕ) → carried_of m ≡ Client x → m ≡ client x
is-client (client y) x e = let k : y ≡ x = cc in ap client k
is-client (info v l) x e = let z : ◌≡◌ {A = ℕ} 0 1 = cc in absurd (omega arith)
is-client registered x e = let z : ◌≡◌ {A = ℕ} 0 1 = cc in absurd (omega arith)
is-client (told k) x e = let z : ◌≡◌ {A = ℕ} 0 1 = cc in absurd (omega arith)

-- a message that the writer takes
frame_back : (g : ℕ) (m : Message) → length (views_of m) ≤ max_views → Fits (framed g m) → frame_verdict (framed g m) ≡ Ok tt
    → sent_of (read_one (message_bytes g m)) ≡ accepted (record { view = g; message = m })
frame_back g m few f v =
    let back : list_of (placed (views_of m)) ≡ views_of m = list-placed (views_of m) few in
    ap (λ (l : List View). sent_of (read_one (bytes_of g (carried_of m) l))) (sym back) ∙ written-sent (framed g m) m f v refl back

-- ---- views that are known are within their widths and have members

pub record Narrow (v : View) : Type 0 where
  pub id : id_of v < 256 ^ 4
  pub set : v.set < 256
  pub some_one : is_empty v.set ≡ false

module _ (n : ℕ) (Known : View → Type 0) (narrow : (v : View) → Known v → Narrow v) where
  each_fits : (l : List View) → ((w : View) → In w l → Known w) → EachFits l
  each_fits [] h j = record { id = omega arith; set = omega arith }
  each_fits (v ∷ l) h zero = let f = narrow v (h v top) in record { id = f.id; set = f.set }
  each_fits (v ∷ l) h (suc j) = each_fits l (λ w i. h w (pop i)) j

  none-empty : (l : List View) → ((w : View) → In w l → Known w) → some_empty l ≡ false
  unfolding some_empty
  none-empty [] h = refl
  none-empty (v ∷ l) h = rw (narrow v (h v top)).some_one (none-empty l (λ w i. h w (pop i)))

  fits-frame : (g : ℕ) (m : Message) → g < 256 ^ 4 → length (views_of m) ≤ max_views → ((x : ℕ) → m ≡ client x → x < 256 ^ 8)
      → ((w : View) → In w (views_of m) → Known w) → Fits (framed g m)
  fits-frame g m h few x k = record {
    view = h;
    entry = λ y e. x y (is-client m y e);
    each = rw (list-placed (views_of m) few) (each_fits (views_of m) k);
    room = length-places (views_of m);
  }

  -- a message without views
  plain : (g : ℕ) (m : Message) → g < 256 ^ 4 → ((x : ℕ) → m ≡ client x → x < 256 ^ 8) → views_of m ≡ [] → frame_verdict (framed g m) ≡ Ok tt
      → sent_of (read_one (message_bytes g m)) ≡ accepted (record { view = g; message = m })
  plain g m h x e v =
      let few : length (views_of m) ≤ max_views = rw e (omega arith) in
      frame_back g m few (fits-frame g m h few x (λ w i. absurd (in-nil (subst (λ (l : List View). In w l) e i)))) v

  reads-back : (g q : ℕ) (m : Message) → g < 256 ^ 4 → EntryFacts n Known (entry q m) → ((x : ℕ) → m ≡ client x → x < 256 ^ 8)
      → sent_of (read_one (message_bytes g m)) ≡ accepted (record { view = g; message = m })
  unfolding frame_verdict content_of views_allowed some_empty is_rising told_fits require
  reads-back g q (client y) h (client_entry i) x = plain g (client y) h x refl refl
  reads-back g q (info v l) h (info_entry i s) x =
      let few : length l + 1 ≤ max_views = s.short in
      let back : list_of (placed (v ∷ l)) ≡ v ∷ l = list-placed (v ∷ l) (omega arith) in
      frame_back g (info v l) (omega arith) (fits-frame g (info v l) h (omega arith) x s.known)
      (rw (le-leb 1 (length (v ∷ l)) (omega arith), le-leb (length (v ∷ l)) max_views (omega arith), back, none-empty (v ∷ l) s.known, s.rises))
  reads-back g q registered h (registered_entry i) x = plain g registered h x refl refl
  reads-back g q (told k) h (told_entry i a b) x = plain g (told k) h x refl (rw (within-from 1 k max_ordered a b))

pub bytes_read : BytesRead
unfolding is_beyond
bytes_read weight n S w l g ids numbers v h q m i =
    reads-back n (λ u. In u (existing weight n S g))
    (λ u j.
    let y = fits-says n u.set ((fitting weight n S g).fits u j) in
    let small : u.set < 2 ^ n = leb-false (2 ^ n) u.set y.1 in
    let low : 2 ^ n ≤ 2 ^ max_members = pow_mono (high weight n S g) in
    record { id = ids u ((ranged weight n S g).none-else u j); set = omega arith; some_one = y.0 })
    (id_of v) q m (ids v h) ((well weight n S g).order (id_of v) (entry q m) i)
    (λ x e.
    (all-sent (λ (x : ℕ). x < 256 ^ 8) max_members weight (first_view S) (run weight n S g) numbers).order (id_of v) (ent_of (entry q m)) (in_map ent_of i) q x
    (ap (λ (y : Message). ent_of (entry q y)) e))
