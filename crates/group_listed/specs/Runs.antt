-- A start and a list of steps put to a list of records, the books and the queues, one after another; and demands 2 and
-- 3 of them.
use Rattle.std.specs.Prelude.{◌≡◌, true, List, [], ◌∷◌, ℕ, Ok}
use Rattle.views.specs.declared.View.{View}
use Rattle.views.specs.Refusals.{Verdict, left}
use Rattle.views.specs.Sets.{one}
use Rattle.wire.specs.Widths.{EachFits}
use Rattle.rules.specs.Data.{Step}
use Rattle.rules.specs.Promise.{Promised}
use Rattle.events.specs.Replies.{Reply}
use Rattle.group_bytes.specs.Groups.{ranges_sound}
use Rattle.group_bytes.specs.Starts.{start_ranges}
use Rattle.group_bytes.specs.Steps.{step_ranges}
use Rattle.events.specs.Shown.{events_shown}
use Rattle.group_bytes.specs.Promises.{AllGiven}
use Rattle.group_listed.specs.Calls.{ranges_of, Began, Went}

-- the steps gave these replies, each put to the list, the books and the queues that the one before left; those left at
-- the end come last
pub data WentOn : List View → List ℕ → List ℕ → List Step → List Reply → List View → List ℕ → List ℕ → Type 0 where
  done : {l : List View} {b q : List ℕ} → WentOn l b q [] [] l b q
  then : {l k m : List View} {b q d e f g : List ℕ} {c : Step} {x : Reply} {steps : List Step} {replies : List Reply}
      → Went l b q c k d e x → WentOn k d e steps replies m f g → WentOn l b q (c ∷ steps) (x ∷ replies) m f g

-- what a start or a step leaves of the records, written as bytes, is what it leaves of the bytes, where the records
-- lent are within their widths, as their type says; and those left are within them again
pub record Demand2 : Type 0 where
  pub start-ranges : (n S : ℕ) (l k : List View) (b q d e : List ℕ) (v : Verdict) → Began l b q n S k d e v
      → ranges_of k d e ≡ left v (start_ranges n S (ranges_of l b q)) (ranges_of l b q)
  pub start_fits : (n S : ℕ) (l k : List View) (b q d e : List ℕ) → Began l b q n S k d e (Ok tt) → EachFits k
  pub step-ranges : (l k : List View) (b q d e : List ℕ) (c : Step) (x : Reply) → EachFits l → Went l b q c k d e x
      → ranges_of k d e ≡ step_ranges (ranges_of l b q) c
  pub step_fits : (l k : List View) (b q d e : List ℕ) (c : Step) (x : Reply) → EachFits l → Went l b q c k d e x
      → EachFits k

-- for every start that was accepted, on a list, books and queues of any content, and every list of steps behind it: the
-- events that the replies show are promised
abbrev pub Demand3 : Type 0
Demand3 =
    (n S : ℕ) (l k m : List View) (b q d e f g : List ℕ) (steps : List Step) (replies : List Reply)
    → Began l b q n S k d e (Ok tt) → AllGiven steps → WentOn k d e steps replies m f g
    → Promised one S (events_shown replies)

-- no list of steps leads to a list, books and queues that 4 refuses
abbrev pub NeverWedged : Type 0
NeverWedged =
    (n S : ℕ) (l k m : List View) (b q d e f g : List ℕ) (steps : List Step) (replies : List Reply)
    → Began l b q n S k d e (Ok tt) → AllGiven steps → WentOn k d e steps replies m f g
    → ranges_sound (ranges_of m f g) ≡ true
