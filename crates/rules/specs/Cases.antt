-- The eleven cases marked * of 'Views that pass and fail', in its order, as one table: each row has what the
-- definitions give and what is due, and the words above it are the specification's.
use Rattle.std.specs.Prelude.{◌≡◌, Bool, true, false, List, [], ◌∷◌, ◌++◌, map, ℕ, zero, suc, ◌+◌, ◌*◌, ◌^◌, length}
use Rattle.views.specs.declared.View.{View}
use Rattle.std.specs.Prelude.{Ok, Err}
use Rattle.std.specs.Prelude.{Result as Given}
use Rattle.views.specs.declared.refusal.Refusal.{Refusal}
use Rattle.views.specs.Refusals.{number_of}
use Rattle.views.specs.Sets.{in_common, one, size}
use Rattle.views.specs.Lists.{view_of, placed}
use Rattle.wire.specs.declared.Message.{Message}
use Rattle.wire.specs.declared.Message.TheVariants.{Info, Registered}
use Rattle.wire.specs.declared.Frame.{Frame}
use Rattle.wire.specs.declared.Reading.{Reading}
use Rattle.wire.specs.Single.{read_one}
use Rattle.rules.specs.Data.{Identifier, Member, Group, Step, Event, attempt, Answer, ok, event, refusal}
use Rattle.rules.specs.Data.{Result, refused, accepted}
use Rattle.rules.specs.Member.{passes}
use Rattle.rules.specs.Group.{start, step}
use Rattle.rules.specs.Runs.{last_of}

-- ---- what comes of a row

pub data Outcome : Type 0 where
  tests : ℕ → ℕ → Bool → Outcome  -- twice the members in common, the members of the held view, whether that passes
  succeeds : Outcome  -- ok
  shows : Event ℕ → Outcome
  refuses : ℕ → Outcome  -- a refusal's number
  reads : ℕ → Frame → Outcome  -- how many bytes were taken, and what was read

pub record Row : Type 0 where
  pub is : Outcome
  pub due : Outcome

-- the set of these members
unfoldable pub set_of : List Member → ℕ
set_of [] = 0
set_of (p ∷ l) = 2 ^ p + set_of l

-- the test of a view of these members against a held view of those
unfoldable pub against : List Member → List Member → Outcome
against l held =
    tests (2 * size (in_common (set_of l) (set_of held))) (size (set_of held))
    (passes one (view_of 1 (set_of l)) (view_of 0 (set_of held)))

-- what the reader gave
unfoldable pub was_read : Given Reading Refusal → Outcome
was_read (Ok r) = reads r.taken r.frame
was_read (Err r) = refuses (number_of r)

-- bytes as one message
unfoldable pub reading : List ℕ → Outcome
reading b = was_read (read_one b)

-- a message of n bytes, sent in the view g, with an info's views
abbrev pub message : ℕ → Identifier → Message → List View → Outcome
message n g m l = reads n (record { view = record { 0 = g }; message = m; views = placed l })

-- ---- steps put to a group

unfoldable pub outcome : Answer → Outcome
outcome ok = succeeds
outcome (event e) = shows e
outcome (refusal r) = refuses (number_of r)

-- the last step's answer
unfoldable pub last_outcome : Result Group → List Step → Step → Outcome
last_outcome (refused r) l c = refuses (number_of r)
last_outcome (accepted s) l c = outcome (step one (last_of one s l) c).answer

-- Start {0,1,2,3,4}, with 8 view records: then these steps, and a last one
unfoldable pub group : List Step → Step → Outcome
group l c = last_outcome (start 5 (set_of (0 ∷ 1 ∷ 2 ∷ 3 ∷ 4 ∷ [])) 8) l c

-- the kind's number, and the operands
abbrev pub st : ℕ → ℕ → ℕ → Step
st kind first second = record { kind = kind; first = first; second = second }

abbrev pub create : Identifier → List Member → Step
create g l = st 1 g (set_of l)

abbrev pub attempts : Member → Step
attempts p = st 6 p 0

abbrev pub collect : Member → Step
collect p = st 12 p 0

-- the steps of each of these members, one member after another
unfoldable pub each : List Member → (Member → List Step) → List Step
each [] f = []
each (p ∷ l) f = f p ++ each l f

-- n times deliver
unfoldable pub deliver : ℕ → Member → List Step
deliver zero p = []
deliver (suc n) p = st 5 p 0 ∷ deliver n p

-- each passes its first outgoing message, the carrier orders it, and all of them take all of these
unfoldable pub exchanged : Identifier → List Member → List Step
exchanged g l = each l (λ p. st 3 p 0 ∷ st 4 p g ∷ []) ++ each l (deliver (length l))

-- the view g of these members is made, they join it, and their infos are exchanged
unfoldable pub joined : Identifier → List Member → List Step
joined g l = (create g l ∷ each l (λ p. st 2 p g ∷ [])) ++ exchanged g l

-- and all of them attempt it, register, exchange their registrations and collect: they hold this view alone
unfoldable pub settled : Identifier → List Member → List Step
settled g l =
    joined g l ++ (each l (λ p. attempts p ∷ []) ++ (each l (λ p. st 7 p 0 ∷ [])
    ++ (exchanged g l ++ each l (λ p. collect p ∷ []))))

-- the view g of p and these members is made and they join it; p takes their infos, and its own is still outgoing
unfoldable pub joined_without : Identifier → Member → List Member → List Step
joined_without g p l =
    (create g (p ∷ l) ∷ each (p ∷ l) (λ q. st 2 q g ∷ []))
    ++ (each l (λ q. st 3 q 0 ∷ st 4 q g ∷ []) ++ deliver (length l) p)

-- ---- the table

unfoldable pub table : List Row
table =
    -- {2,3,4} against start: 6 > 5, passes
    record { is = against (2 ∷ 3 ∷ 4 ∷ []) (0 ∷ 1 ∷ 2 ∷ 3 ∷ 4 ∷ []); due = tests 6 5 true }
    ∷ record { is = group (joined 1 (2 ∷ 3 ∷ 4 ∷ [])) (attempts 2); due = shows (attempt 2 (view_of 1 0b11100)) }
    -- {0,1}: 4 > 5 fails, 21
    ∷ record { is = against (0 ∷ 1 ∷ []) (0 ∷ 1 ∷ 2 ∷ 3 ∷ 4 ∷ []); due = tests 4 5 false }
    ∷ record { is = group (joined 1 (0 ∷ 1 ∷ [])) (attempts 0); due = refuses 21 }
    -- Server 2 attempted {0,1,2}; then {2,3,4} passes start but 2 > 3 fails, 21: for server 2, and for server 3, which
    -- has it from server 2's info
    ∷ record { is = against (2 ∷ 3 ∷ 4 ∷ []) (0 ∷ 1 ∷ 2 ∷ 3 ∷ 4 ∷ []); due = tests 6 5 true }
    ∷ record { is = against (2 ∷ 3 ∷ 4 ∷ []) (0 ∷ 1 ∷ 2 ∷ []); due = tests 2 3 false }
    ∷ record {
      is = group (joined 1 (0 ∷ 1 ∷ 2 ∷ []) ++ (attempts 2 ∷ joined 2 (2 ∷ 3 ∷ 4 ∷ []))) (attempts 2);
      due = refuses 21;
    }
    ∷ record {
      is = group (joined 1 (0 ∷ 1 ∷ 2 ∷ []) ++ (attempts 2 ∷ joined 2 (2 ∷ 3 ∷ 4 ∷ []))) (attempts 3);
      due = refuses 21;
    }
    -- {0,1} against {0,1,2}: 4 > 3 passes
    ∷ record { is = against (0 ∷ 1 ∷ []) (0 ∷ 1 ∷ 2 ∷ []); due = tests 4 3 true }
    ∷ record {
      is = group (settled 1 (0 ∷ 1 ∷ 2 ∷ []) ++ joined 2 (0 ∷ 1 ∷ [])) (attempts 0);
      due = shows (attempt 0 (view_of 2 0b00011));
    }
    -- {0,1} against {0,1,2,3}: 4 > 4 fails
    ∷ record { is = against (0 ∷ 1 ∷ []) (0 ∷ 1 ∷ 2 ∷ 3 ∷ []); due = tests 4 4 false }
    ∷ record {
      is = group (settled 1 (0 ∷ 1 ∷ 2 ∷ 3 ∷ []) ++ joined 2 (0 ∷ 1 ∷ [])) (attempts 0);
      due = refuses 21;
    }
    -- Servers 2, 3 and 4 joined {2,3,4}; server 2 took the infos of 3 and 4, and not its own: 20
    ∷ record { is = group (joined_without 1 2 (3 ∷ 4 ∷ [])) (attempts 2); due = refuses 20 }
    -- Collect in the first view: 30
    ∷ record { is = group [] (collect 0); due = refuses 30 }
    -- Same identifier created twice: 8
    ∷ record { is = group (create 1 (0 ∷ 1 ∷ []) ∷ []) (create 1 (0 ∷ 1 ∷ [])); due = refuses 8 }
    -- `03 00000000 00 00` reads as registered in view 0
    ∷ record { is = reading (3 ∷ 0 ∷ 0 ∷ 0 ∷ 0 ∷ 0 ∷ 0 ∷ []); due = message 7 0 Registered [] }
    -- `02 00000001 01 00000000 07 00` is info in view 1, settled {0,1,2}
    ∷ record {
      is = reading (2 ∷ 0 ∷ 0 ∷ 0 ∷ 1 ∷ 1 ∷ 0 ∷ 0 ∷ 0 ∷ 0 ∷ 7 ∷ 0 ∷ []);
      due = message 12 1 Info (view_of 0 0b00111 ∷ []);
    }
    -- The same cut by one byte: 32; with one more: 38
    ∷ record {
      is = reading (2 ∷ 0 ∷ 0 ∷ 0 ∷ 1 ∷ 1 ∷ 0 ∷ 0 ∷ 0 ∷ 0 ∷ 7 ∷ []);
      due = refuses 32;
    }
    ∷ record {
      is = reading (2 ∷ 0 ∷ 0 ∷ 0 ∷ 1 ∷ 1 ∷ 0 ∷ 0 ∷ 0 ∷ 0 ∷ 7 ∷ 0 ∷ 0 ∷ []);
      due = refuses 38;
    }
    ∷ []

-- every row has what is due
abbrev pub MarkedCases : Type 0
MarkedCases = map (λ (r : Row). r.is) table ≡ map (λ (r : Row). r.due) table
