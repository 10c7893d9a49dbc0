-- Message bytes: kind, identifier of the view sent in, a section of views, a section of numbers. Whole numbers are
-- big-endian.
use Rattle.std.specs.Prelude.{Bool, true, false, cond, List, [], ◌∷◌, ◌++◌, ℕ, eqb, leb, length, Ok}
use Rattle.numbers.specs.Number.{digits}
use Rattle.views.specs.declared.View.{View}
use Rattle.views.specs.Refusals.{Verdict, require}
use Rattle.views.specs.declared.refusal.Refusal.TheVariants.{EmptySet, NotRising, ToldOutOfRange}
use Rattle.views.specs.Limits.{max_views, max_ordered}
use Rattle.views.specs.Sizes.{identifier_size, number_size}
use Rattle.views.specs.Sets.{both, is_empty}
use Rattle.views.specs.Lists.{id_of, is_rising}
use Rattle.wire.specs.declared.Message.{Message}
use Rattle.wire.specs.declared.Message.TheVariants.{Client, Info, Registered, Told}

-- ---- the kinds

abbrev pub client_kind : ℕ
client_kind = 1

abbrev pub info_kind : ℕ
info_kind = 2

abbrev pub registered_kind : ℕ
registered_kind = 3

abbrev pub told_kind : ℕ
told_kind = 4

abbrev pub kind_of : Message → ℕ
kind_of (Client x) = client_kind
kind_of Info = info_kind
kind_of Registered = registered_kind
kind_of (Told k) = told_kind

-- ---- the bytes

-- the numbers that a message carries: a client's entry number, a told's count
abbrev pub numbers_of : Message → List ℕ
numbers_of (Client x) = x ∷ []
numbers_of Info = []
numbers_of Registered = []
numbers_of (Told k) = k ∷ []

-- a view: its identifier, then its set, one byte
unfoldable pub view_bytes : View → List ℕ
view_bytes v = digits identifier_size (id_of v) ++ (v.set ∷ [])

unfoldable pub views_bytes : List View → List ℕ
views_bytes [] = []
views_bytes (v ∷ l) = view_bytes v ++ views_bytes l

-- numbers of one size
unfoldable pub numbers_bytes : List ℕ → List ℕ
numbers_bytes [] = []
numbers_bytes (x ∷ l) = digits number_size x ++ numbers_bytes l

-- the bytes of a message sent in the view g, with an info's views
unfoldable pub bytes_of : ℕ → Message → List View → List ℕ
bytes_of g m l =
    (kind_of m ∷ digits identifier_size g)
    ++ ((length l ∷ views_bytes l) ++ (length (numbers_of m) ∷ numbers_bytes (numbers_of m)))

-- ---- what the format allows

unfoldable pub is_known : ℕ → Bool
is_known kind = both (leb client_kind kind) (leb kind told_kind)

-- info: 1 to 32 views; client, told and registered: 0
unfoldable pub views_allowed : ℕ → ℕ → Bool
views_allowed kind n = cond (eqb kind info_kind) (both (leb 1 n) (leb n max_views)) (eqb n 0)

-- client and told: 1 number; info and registered: 0
unfoldable pub numbers_allowed : ℕ → ℕ → Bool
numbers_allowed kind n = cond (eqb kind client_kind) (eqb n 1) (cond (eqb kind told_kind) (eqb n 1) (eqb n 0))

-- some listed set is empty
unfoldable pub some_empty : List View → Bool
some_empty [] = false
some_empty (v ∷ l) = cond (is_empty v.set) true (some_empty l)

-- a told's count is 1 to 128
unfoldable pub told_fits : ℕ → ℕ → Bool
told_fits kind x = cond (eqb kind told_kind) (both (leb 1 x) (leb x max_ordered)) true

-- what is asked of a whole message of a kind with the views l and the number x (0 where it carries none): 35 to 37
unfoldable pub content_of : ℕ → List View → ℕ → Verdict
content_of kind l x =
    require (cond (some_empty l) false true) EmptySet
    (require (is_rising l) NotRising (require (told_fits kind x) ToldOutOfRange (Ok tt)))
