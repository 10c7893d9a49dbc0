-- What the reader gives, whatever the bytes: messages that a member can take, with all their fields within their widths.
use mathlib.Core.Path.{◌≡◌, refl, sym, ap, ◌∙◌}
use mathlib.Core.Bool.{true, true≢false}
use mathlib.Core.List.{List, [], ◌∷◌}
use Prim.Native.Nat.{ℕ, ◌+◌, ◌*◌, ◌%◌, ◌^◌, ◌≤◌, ◌<◌}
use native.Mathlib.Omega.{arith}
use lib.ListN.{length, get_or}
use borrow.Author.Tests.{le-leb, eqb-true}
use Rattle.views.specs.declared.View.{View}
use Rattle.views.specs.declared.refusal.Refusal.{Refusal}
use Rattle.views.specs.declared.refusal.Refusal.TheVariants.{EmptySet, NotRising}
use Rattle.std.specs.Prelude.{Ok, Err}
use Rattle.std.specs.Prelude.{Result as Outcome}
use Rattle.views.specs.Limits.{max_views, max_ordered}
use Rattle.views.specs.Lists.{id_of, no_view, is_rising, rises_above, list_of}
use Rattle.wire.specs.declared.Reading.{Reading}
use Rattle.wire.specs.Format.{views_allowed, numbers_allowed, told_fits, content_of}
use Rattle.wire.specs.Reader.{kind_in, view_count, numbers_place, number_count, views_in, number_in, message_of as carried_in, whole_of, read_front}
use Rattle.wire.specs.Single.{read_one}
use Rattle.wire.specs.Writer.{number_of}
use Rattle.views.proofs.VerdictLaws.{need-accepted}
use Rattle.wire.proofs.FormatLaws.{views-few}
use Rattle.wire.proofs.ReaderLaws.{length-views_in, list-views_in}
use Rattle.wire.proofs.TripViews.{EachFits, AreBytes, get-fits, views-fit}
use Rattle.wire.proofs.TripMessages.{Kind, client, info, registered, told, told-met}
use Rattle.wire.proofs.TripRead.{Scanned, scanned, front-met, front-is}
use Rattle.wire.proofs.RoundTrip.{read-takes-all}
use Rattle.rules.specs.Data.{Message, Result, accepted}
use Rattle.rules.specs.Alone.{Sent, views_of, carried_of, message_of, sent_in, sent_of}
use Rattle.rules.proofs.TestLaws.{within-says, within-from}
use Rattle.rules.proofs.Alone.Taken.{Readable}

-- a message within its widths: the identifiers and sets of its views (past the end stands the zero view), its number, its count of views
pub record Carries (m : Message) : Type 0 where
  pub ids : (j : ℕ) → id_of (get_or (views_of m) j no_view) < 256 ^ 4
  pub sets : (j : ℕ) → (get_or (views_of m) j no_view).set < 256
  pub number : number_of (carried_of m) < 256 ^ 8
  pub few : length (views_of m) ≤ max_views

-- ---- a message by its kind

rising-met : (kind : ℕ) (l : List View) (x : ℕ) → content_of kind l x ≡ Ok tt → is_rising l ≡ true
unfolding content_of
rising-met kind l x e = (need-accepted _ NotRising _ (need-accepted _ EmptySet _ e).1).0

readable : (kind x : ℕ) (l : List View) → Kind kind → views_allowed kind (length l) ≡ true → content_of kind l x ≡ Ok tt → Readable (message_of (carried_in kind x) l)
unfolding told_fits is_rising rises_above carried_in
readable kind x l client a w = record { count = refl; opens = refl }
readable kind x [] info a w = record { count = refl; opens = refl }
readable kind x (v ∷ l) info a w = record { count = le-leb (length l + 1) max_views (omega (arith, views-few 2 (length (v ∷ l)) a)); opens = rising-met 2 (v ∷ l) x w }
readable kind x l registered a w = record { count = refl; opens = refl }
readable kind x l told a w =
    let t = within-says 1 x max_ordered (told-met 4 l x w) in
    record { count = within-from 1 (x % 256) max_ordered (omega arith) (omega arith); opens = refl }

-- c is how many numbers the message has
carries : (kind c x : ℕ) (l : List View) → Kind kind → views_allowed kind (length l) ≡ true → numbers_allowed kind c ≡ true → x < 256 ^ (8 * c) → EachFits l
    → Carries (message_of (carried_in kind x) l)
unfolding views_allowed numbers_allowed carried_in
carries kind c x l client a n h f =
    let e : c ≡ 1 = eqb-true c 1 n in
    record { ids = λ j. omega arith; sets = λ j. omega arith; number = rw e at h; few = omega arith }
carries kind c x [] info a n h f = absurd (true≢false (sym a))
carries kind c x (v ∷ l) info a n h f = record { ids = λ j. (f j).id; sets = λ j. (f j).set; number = omega arith; few = views-few 2 (length (v ∷ l)) a }
carries kind c x l registered a n h f = record { ids = λ j. omega arith; sets = λ j. omega arith; number = omega arith; few = omega arith }
carries kind c x l told a n h f = record { ids = λ j. omega arith; sets = λ j. omega arith; number = omega arith; few = omega arith }

-- ---- what accepted bytes hold

-- a message comes of what was read
pub sent-met : (v : Outcome Reading Refusal) (x : Sent) → sent_of v ≡ accepted x → (r : Reading) × (v ≡ Ok r) × (x ≡ sent_in r.frame)
sent-met (Ok r) x e = (r, refl, cc)
sent-met (Err d) x e = cc

-- the shape and the content are accepted, and the message is that of the bytes' parts
record Read (b : List ℕ) (m : Message) : Type 0 where
  shape : Scanned b
  content : whole_of b ≡ Ok tt
  message : m ≡ message_of (carried_in (kind_in b) (number_in b)) (views_in b 6 (view_count b))

reads : (b : List ℕ) (x : Sent) → sent_of (read_front b) ≡ accepted x → Read b x.message
reads b x e =
    let (r, read, t) = sent-met (read_front b) x e in
    let met = front-met b read in
    let s = scanned b met.0 in
    record {
      shape = s;
      content = met.1;
      message = ap (λ (y : Sent). y.message) t ∙ ap (λ (y : Reading). message_of y.frame.message (list_of y.frame.views)) (front-is b read)
          ∙ ap (message_of (carried_in (kind_in b) (number_in b))) (list-views_in b 6 (view_count b) (views-few (kind_in b) (view_count b) s.views));
    }

counted : (b : List ℕ) → Scanned b → views_allowed (kind_in b) (length (views_in b 6 (view_count b))) ≡ true
counted b s = rw (length-views_in b 6 (view_count b)) s.views

-- ---- what the reader gives

-- a message, if there is one, that a member can take, within its widths
pub record Given (read : Result Sent) : Type 0 where
  pub readable : (x : Sent) → read ≡ accepted x → Readable x.message
  pub fits : (x : Sent) → read ≡ accepted x → Carries x.message

pub front-given : (b : List ℕ) → AreBytes b → Given (sent_of (read_front b))
unfolding number_in
front-given b y = record {
  readable = λ x e.
      let r = reads b x e in
      rw r.message (readable (kind_in b) (number_in b) (views_in b 6 (view_count b)) r.shape.kind (counted b r.shape) r.content);
  fits = λ x e.
      let r = reads b x e in
      rw r.message
      (carries (kind_in b) (number_count b) (number_in b) (views_in b 6 (view_count b)) r.shape.kind (counted b r.shape) r.shape.numbers
      (get-fits b (numbers_place b + 1) (8 * number_count b) y) (views-fit b 6 (view_count b) y));
}

-- bytes that are one message are what is read at their front
pub one-given : (b : List ℕ) → AreBytes b → Given (sent_of (read_one b))
one-given b y =
    let g = front-given b y in
    let same : (x : Sent) → sent_of (read_one b) ≡ accepted x → sent_of (read_front b) ≡ accepted x
    = λ x e. let (r, one, t) = sent-met (read_one b) x e in ap sent_of ((read-takes-all b one).0 ∙ sym one) ∙ e in
    record { readable = λ x e. g.readable x (same x e); fits = λ x e. g.fits x (same x e) }
