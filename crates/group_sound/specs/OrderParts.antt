-- The parts in which an order is tested, by its columns. Here `views` is the list of views made, n the number of
-- members, c where the order's count stands, and k the number of an entry.
use Rattle.std.specs.Prelude.{Bool, true, cond, List, [], ◌∷◌, ℕ, zero, suc, eqb, ltb, get_or}
use Rattle.views.specs.declared.View.{View}
use Rattle.views.specs.Limits.{max_views, max_ordered}
use Rattle.views.specs.Sets.{both}
use Rattle.wire.specs.Format.{is_known, info_kind, told_kind}
use Rattle.wire.specs.Reader.{views_in}
use Rattle.rules.specs.Sound.{within, conditions}
use Rattle.slots.specs.Columns.{order_sender, order_kind, order_count, order_views}
use Rattle.group_sound.specs.Parts.{views_known}

-- an entry without its number and its views: a member's, of known kind, a told's count within its limits
unfoldable pub head_fits : ℕ → ℕ → ℕ → ℕ → Bool
head_fits n sender kind count = conditions (
    ltb sender n
    ∷ is_known kind
    ∷ cond (eqb kind told_kind) (within 1 count max_ordered) true
    ∷ [])

abbrev pub heads_fit : ℕ → List ℕ → ℕ → ℕ → Bool
heads_fit n q c k =
    head_fits n (get_or q (order_sender c k) 0) (get_or q (order_kind c k) 0) (get_or q (order_count c k) 0)

-- of the first entries, how many there are up to the last info
unfoldable pub infos_within : List ℕ → ℕ → ℕ → ℕ
infos_within q c zero = 0
infos_within q c (suc k) = cond (eqb (get_or q (order_kind c k) 0) info_kind) (suc k) (infos_within q c k)

-- the views of an entry, if it is an info: 1 to 32, which rise and are listed
unfoldable pub infos_known : List View → List ℕ → ℕ → ℕ → Bool
infos_known views q c k =
    let n = get_or q (order_count c k) 0 in
    cond (eqb (get_or q (order_kind c k) 0) info_kind)
    (both (within 1 n max_views) (views_known views (views_in q (order_views c k) n))) true
