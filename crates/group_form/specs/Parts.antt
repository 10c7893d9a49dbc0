-- The parts of the driver: what is asked of the bytes, steps up to the first refusal, and what is put back after it.
use Rattle.std.specs.Prelude.{Result as Given}
use Rattle.std.specs.Prelude.{◌≡◌, Bool, true, false, not, List, [], ◌∷◌, ◌++◌, Ok, Option, Some, None}
use Rattle.std.specs.Prelude.{ℕ, suc, ◌-◌, ◌<◌, eqb, length, get_or, take, drop}
use Rattle.std.proofs.Math.Seq.{paste}
use Rattle.views.specs.declared.View.{View}
use Rattle.views.specs.declared.refusal.Refusal.{Refusal}
use Rattle.views.specs.Refusals.{Verdict, verdict_given, and_then, left}
use Rattle.views.specs.Sets.{both, one}
use Rattle.views.specs.Lists.{id_of, find_of, list_of, no_view}
use Rattle.rules.specs.Data.{Identifier, Step, accepted, rank}
use Rattle.rules.specs.Member.{every, every_of, all, passes}
use Rattle.rules.specs.Forming.{form_steps, form_of}
use Rattle.events.specs.Replies.{verdict_of}
use Rattle.book_bytes.specs.Places.{members_at, carrier_at}
use Rattle.book_bytes.specs.Records.{seat_in, held_in}
use Rattle.group_bytes.specs.Places.{book_bytes, head_size, table_size, order_at, waiting_at}
use Rattle.group_bytes.specs.Groups.{Ranges, made_of, views_made, place_of, group_in, ranges_sound}
use Rattle.group_bytes.specs.Steps.{step_ranges, step_reply, last_ranges, replies_of}
use Rattle.group_bytes.specs.Forming.{first_refusal}
use Rattle.group.specs.StaysSoundParts.{StaysSound}

-- ---- 10, 44 and 45, of the bytes

-- g is no member's carrier view
unfoldable pub none_at : List ℕ → Identifier → Bool
none_at books g = every (get_or books members_at 0) (λ p.
    not (eqb (rank (seat_in (book_bytes books p) carrier_at)) (suc g)))

-- the view passes the test against every view that one of its servers holds
unfoldable pub passes_at : List ℕ → View → Bool
passes_at books v = every_of (get_or books members_at 0) v (λ p.
    all (passes one v) ((held_in (book_bytes books p)).settled ∷ list_of (held_in (book_bytes books p)).opens))

-- the newest view, the last of the list
unfoldable pub newest_of : Ranges → View
newest_of r = get_or (views_made r) (made_of r - 1) no_view

-- nobody joined the view v, and it passes the test
pub record Fresh (r : Ranges) (v : View) : Type 0 where
  pub free : none_at r.books (id_of v) ≡ true
  pub passing : passes_at r.books v ≡ true

-- the verdict; where it is accepted, the steps are those of the newest view
pub record Asks (r : Ranges) (g : Identifier) (v : Verdict) : Type 0 where
  pub verdict : v ≡ verdict_of (form_of one (group_in r) g)
  pub newest : v ≡ Ok tt → form_of one (group_in r) g ≡ accepted (form_steps (newest_of r))
  pub fresh : v ≡ Ok tt → Fresh r (newest_of r)

-- ---- whether a view is untouched

abbrev pub is_missing : Option View → Bool
is_missing (Some v) = false
is_missing None = true

-- nothing waits for any of n members in the view at place i
unfoldable pub none_wait : List ℕ → ℕ → ℕ → Bool
none_wait q i n = every n (λ p. eqb (get_or q (waiting_at i p) 0) 0)

-- the view of the identifier g is not held in the book b
unfoldable pub holds_none : List ℕ → Identifier → Bool
holds_none b g = is_missing (find_of g ((held_in b).settled ∷ list_of (held_in b).opens))

-- it is not held in any member's book
unfoldable pub none_hold : List ℕ → Identifier → Bool
none_hold books g = every (get_or books members_at 0) (λ p. holds_none (book_bytes books p) g)

-- nothing is ordered or waits in the view at place i, and no member holds the view of the identifier g
unfoldable pub untouched_at : List ℕ → List ℕ → Identifier → ℕ → Bool
untouched_at books q g i =
    both (eqb (get_or q (order_at i) 0) 0) (both (none_wait q i (get_or books members_at 0)) (none_hold books g))

-- ---- steps up to the first refusal

-- the ranges after the steps before the first refused one
unfoldable pub until_refused : Ranges → List Step → Ranges
until_refused r [] = r
until_refused r (c ∷ l) = left (step_reply r c) (until_refused (step_ranges r c) l) r

-- the steps l, put to the ranges r up to the first refusal, gave the verdict v and left the ranges d
pub record Drove (r : Ranges) (l : List Step) (d : Ranges) (v : Verdict) : Type 0 where
  pub verdict : v ≡ first_refusal (replies_of r l)
  pub list : d.list ≡ (until_refused r l).list
  pub books : d.books ≡ (until_refused r l).books
  pub queues : d.queues ≡ (until_refused r l).queues
  -- a group that stays sound whatever the steps does so after these
  pub stays : StaysSound r → StaysSound d

-- ---- all steps, or none

-- the view v stands at the place i of the list of a sound group
pub record Stands (r : Ranges) (v : View) (i : ℕ) : Type 0 where
  pub sound : ranges_sound r ≡ true
  pub there : i < made_of r
  pub place : place_of (id_of v) (views_made r) ≡ i
  pub found : find_of (id_of v) (views_made r) ≡ Some v

-- the copy of the queues: the head, then the queues of the view at place i
unfoldable pub kept_of : List ℕ → ℕ → List ℕ
kept_of q i = take head_size q ++ take table_size (drop (order_at i) q)

-- the queues with such a copy put back
unfoldable pub put_back : List ℕ → List ℕ → ℕ → List ℕ
put_back q kept i = paste (paste q 0 kept head_size) (order_at i) (drop head_size kept) table_size

-- what all the steps leave, where none was refused; else what was there
abbrev pub all_or_none : Ranges → List Step → Ranges
all_or_none r l = left (first_refusal (replies_of r l)) (last_ranges r l) r

-- the steps were taken; after a refusal the queues, and the list, are as they were
pub record QueuesKept (r : Ranges) (l : List Step) (d : Ranges) (v : Verdict) : Type 0 where
  pub verdict : v ≡ first_refusal (replies_of r l)
  pub list : d.list ≡ (all_or_none r l).list
  pub books : d.books ≡ (until_refused r l).books
  pub queues : d.queues ≡ (all_or_none r l).queues

-- and the books too
pub record AllKept (r : Ranges) (l : List Step) (d : Ranges) (v : Verdict) : Type 0 where
  pub verdict : v ≡ first_refusal (replies_of r l)
  pub list : d.list ≡ (all_or_none r l).list
  pub books : d.books ≡ (all_or_none r l).books
  pub queues : d.queues ≡ (all_or_none r l).queues

-- with the number of steps taken
pub record FormedAs (r : Ranges) (l : List Step) (d : Ranges) (x : Given ℕ Refusal) : Type 0 where
  pub kept : AllKept r l d (verdict_given x)
  pub reply : x ≡ and_then (first_refusal (replies_of r l)) (Ok (length l))
