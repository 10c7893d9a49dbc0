-- The driver's steps, all or none: what the two functions that keep copies leave.
use mathlib.Core.Path.{◌≡◌, refl, sym, ap, ap₂, ◌∙◌}
use mathlib.Core.List.{List, [], ◌∷◌}
use Prim.Native.Nat.{ℕ, ◌+◌, ◌≤◌}
use native.Mathlib.Omega.{arith}
use lib.ListN.{length}
use lib.Seq.{paste}
use Rattle.views.specs.declared.View.{View}
use Rattle.views.specs.declared.refusal.Refusal.{Refusal}
use Rattle.views.specs.Refusals.{Verdict, and_then, left}
use Rattle.std.specs.Prelude.{Ok, Err}
use Rattle.views.specs.Limits.{max_views}
use Rattle.views.proofs.SetLaws.{both_true}
use Rattle.views.proofs.VerdictLaws.{never}
use Rattle.rules.specs.Data.{Step}
use Rattle.rules.specs.Forming.{form_steps}
use Rattle.events.specs.Replies.{Reply}
use Rattle.group_bytes.specs.Places.{books_size, table_size, order_at}
use Rattle.group_bytes.specs.Groups.{Ranges, ranges, ranges_sound}
use Rattle.group_bytes.specs.Steps.{step_ranges, step_reply, last_ranges, replies_of}
use Rattle.group_bytes.specs.Forming.{first_refusal}
use Rattle.group_bytes.proofs.RangesLaws.{RangesBytes, Ranged, ranges-says}
use Rattle.group_form.specs.Parts.{until_refused, Drove, Stands, kept_of, put_back, all_or_none, QueuesKept, AllKept}
use Rattle.group_form.proofs.Undone.{until-beside}
use Rattle.group_form.proofs.Restored.{copied, queues-restored}

-- ---- where no step was refused, all were taken

by_first : (x : Reply) (w : Verdict) (a b c : Ranges) → (w ≡ Ok tt → a ≡ c) → and_then x w ≡ Ok tt → left x a b ≡ c
unfolding and_then left
by_first (Ok o) w a b c h k = h k
by_first (Err f) w a b c h k = absurd (never f k)

until-all : (r : Ranges) (l : List Step) → first_refusal (replies_of r l) ≡ Ok tt → until_refused r l ≡ last_ranges r l
unfolding first_refusal replies_of until_refused last_ranges and_then left
until-all r [] h = refl
until-all r (c ∷ l) h =
    by_first (step_reply r c) (first_refusal (replies_of (step_ranges r c) l)) (until_refused (step_ranges r c) l) r (last_ranges (step_ranges r c) l)
    (λ k. until-all (step_ranges r c) l k) h

-- all or none, by the verdict
all_of : (r : Ranges) (l : List Step) → first_refusal (replies_of r l) ≡ Ok tt → all_or_none r l ≡ until_refused r l
unfolding left
all_of r l h = rw h (sym (until-all r l h))

none_of : (r : Ranges) (l : List Step) (f : Refusal) → first_refusal (replies_of r l) ≡ Err f → all_or_none r l ≡ r
unfolding left
none_of r l f h = rw h

-- ---- where the view's queues stand

module _ {r : Ranges} {v : View} {i : ℕ} (s : Stands r v i) where
  fits : Ranged r
  unfolding ranges_sound
  fits = ranges-says r (both_true _ _ s.sound).0

  pub stands-low : i ≤ max_views
  stands-low = omega (arith, s.there, fits.made.1, fits.room.1)

  pub stands-inside : order_at i + table_size ≤ length r.queues
  stands-inside = omega (arith, s.there, fits.made.1, fits.queues)

  pub stands-books : length r.books ≡ books_size
  stands-books = fits.books

  -- ---- if none is refused

  pub all-taken : {d : Ranges} {x : Verdict} → Drove r (form_steps v) d x → first_refusal (replies_of r (form_steps v)) ≡ Ok tt → AllKept r (form_steps v) d x
  all-taken h a =
      let e = all_of r (form_steps v) a in
      record {
        verdict = h.verdict;
        list = h.list ∙ ap (λ (x : Ranges). x.list) (sym e);
        books = h.books ∙ ap (λ (x : Ranges). x.books) (sym e);
        queues = h.queues ∙ ap (λ (x : Ranges). x.queues) (sym e);
      }

  -- ---- the queues

  module _ {d : Ranges} {x : Verdict} where
    pub queues-taken : Drove r (form_steps v) d x → x ≡ Ok tt → QueuesKept r (form_steps v) d x
    queues-taken h a =
        let e = all_of r (form_steps v) (sym h.verdict ∙ a) in
        record {
          verdict = h.verdict;
          list = h.list ∙ ap (λ (x : Ranges). x.list) (sym e);
          books = h.books;
          queues = h.queues ∙ ap (λ (x : Ranges). x.queues) (sym e);
        }

    pub queues-put-back : RangesBytes r → Drove r (form_steps v) d x → {f : Refusal} → x ≡ Err f → (kept q : List ℕ) → kept ≡ kept_of r.queues i
        → q ≡ put_back d.queues kept i → QueuesKept r (form_steps v) (ranges d.list d.books q) x
    queues-put-back bytes h {f} a kept q k e =
        let l = form_steps v in
        let none = none_of r l f (sym h.verdict ∙ a) in
        let led = until-beside r bytes v i s in
        record {
          verdict = h.verdict;
          list = h.list ∙ led.beside.list ∙ ap (λ (x : Ranges). x.list) (sym none);
          books = h.books;
          queues = e ∙ ap₂ (λ (x y : List ℕ). put_back x y i) h.queues k
              ∙ queues-restored r.queues (until_refused r l).queues i stands-inside led.beside.queues ∙ ap (λ (x : Ranges). x.queues) (sym none);
        }

    -- ---- the books

    pub books-taken : QueuesKept r (form_steps v) d x → x ≡ Ok tt → AllKept r (form_steps v) d x
    books-taken h a = record {
      verdict = h.verdict;
      list = h.list;
      books = h.books ∙ ap (λ (x : Ranges). x.books) (sym (all_of r (form_steps v) (sym h.verdict ∙ a)));
      queues = h.queues;
    }

    -- the books that the steps leave are as long
    pub books-long : RangesBytes r → QueuesKept r (form_steps v) d x → length d.books ≡ books_size
    books-long bytes h = ap length h.books ∙ (until-beside r bytes v i s).books

    pub books-put-back : RangesBytes r → QueuesKept r (form_steps v) d x → {f : Refusal} → x ≡ Err f → (z kept b : List ℕ) → length z ≡ books_size
        → kept ≡ paste z 0 r.books books_size → b ≡ paste d.books 0 kept books_size → AllKept r (form_steps v) (ranges d.list b d.queues) x
    books-put-back bytes h {f} a z kept b n k e =
        let same : kept ≡ r.books = k ∙ copied z r.books books_size n stands-books in
        record {
          verdict = h.verdict;
          list = h.list;
          books = e ∙ copied d.books kept books_size (books-long bytes h) (ap length same ∙ stands-books) ∙ same
              ∙ ap (λ (x : Ranges). x.books) (sym (none_of r (form_steps v) f (sym h.verdict ∙ a)));
          queues = h.queues;
        }
