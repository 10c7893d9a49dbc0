-- Bytes stay bytes: whatever is stored, copied or moved in bytes leaves every place below 256.
use mathlib.Core.List.{List, [], ◌∷◌, ◌++◌}
use Prim.Native.Nat.{ℕ, zero, suc, ◌+◌, ◌-◌, ◌*◌, ◌/◌, ◌%◌, ◌≤◌, ◌<◌}
use native.Mathlib.Omega.{arith}
use lib.ListN.{length, get_or, set, take, drop}
use lib.Seq.{paste, get_or-drop}
use Rattle.numbers.specs.Number.{digits, put}
use Rattle.views.specs.declared.View.{View}
use Rattle.views.specs.Limits.{max_views}
use Rattle.views.specs.Lists.{id_of, no_view}
use Rattle.wire.specs.Format.{view_bytes, views_bytes}
use Rattle.wire.proofs.TripViews.{EachFits, AreBytes}
use Rattle.rules.specs.Data.{Message, client, info, registered, told}
use Rattle.rules.specs.Alone.{views_of}
use Rattle.slots.specs.Slots.{slot_size}
use Rattle.slots.specs.Changes.{store_short, store_info, store_message, pushed, moved, popped}
use Rattle.wire.specs.Writer.{store_view, store_views}

-- the set of every view of a list is a byte; past the end stands the zero view
abbrev pub SetsAreBytes : List View → Type 0
SetsAreBytes l = (j : ℕ) → (get_or l j no_view).set < 256

pub sets-fit : (l : List View) → EachFits l → SetsAreBytes l
sets-fit l f j = (f j).set

-- ---- lists of bytes

pub append-bytes : (a b : List ℕ) → AreBytes a → AreBytes b → AreBytes (a ++ b)
append-bytes [] b x y j = y j
append-bytes (e ∷ a) b x y zero = x 0
append-bytes (e ∷ a) b x y (suc j) = append-bytes a b (λ (i : ℕ). x (suc i)) y j

pub take-bytes : (n : ℕ) (b : List ℕ) → AreBytes b → AreBytes (take n b)
take-bytes zero b y j = omega arith
take-bytes (suc n) [] y j = omega arith
take-bytes (suc n) (e ∷ b) y zero = y 0
take-bytes (suc n) (e ∷ b) y (suc j) = take-bytes n b (λ (i : ℕ). y (suc i)) j

pub drop-bytes : (n : ℕ) (b : List ℕ) → AreBytes b → AreBytes (drop n b)
drop-bytes n b y j = rw (get_or-drop n b j 0) (y (n + j))

pub paste_bytes : (b : List ℕ) (at : ℕ) (s : List ℕ) (n : ℕ) → AreBytes b → AreBytes s → AreBytes (paste b at s n)
paste_bytes b at s n y z =
    append-bytes (take at b ++ take n s) (drop (at + n) b) (append-bytes (take at b) (take n s) (take-bytes at b y) (take-bytes n s z)) (drop-bytes (at + n) b y)

-- ---- a byte and a number

byte-bytes : (x : ℕ) → x < 256 → AreBytes (x ∷ [])
byte-bytes x h zero = h
byte-bytes x h (suc j) = omega arith

pub set-bytes : (b : List ℕ) (at x : ℕ) → AreBytes b → x < 256 → AreBytes (set b at x)
set-bytes [] at x y h j = y j
set-bytes (e ∷ b) zero x y h zero = h
set-bytes (e ∷ b) zero x y h (suc j) = y (suc j)
set-bytes (e ∷ b) (suc at) x y h zero = y 0
set-bytes (e ∷ b) (suc at) x y h (suc j) = set-bytes b at x (λ (i : ℕ). y (suc i)) h j

-- a number of any size: its digits are bytes
pub put-bytes : (b : List ℕ) (at k x : ℕ) → AreBytes b → AreBytes (put b at k x)
unfolding put
put-bytes b at zero x y = y
put-bytes b at (suc k) x y = put-bytes (set b (at + k) (x % 256)) at k (x / 256) (set-bytes b (at + k) (x % 256) y (omega arith))

digits-bytes : (k x : ℕ) → AreBytes (digits k x)
unfolding digits
digits-bytes zero x j = omega arith
digits-bytes (suc k) x j = append-bytes (digits k (x / 256)) (x % 256 ∷ []) (digits-bytes k (x / 256)) (byte-bytes (x % 256) (omega arith)) j

-- ---- views

view-bytes : (v : View) → v.set < 256 → AreBytes (view_bytes v)
unfolding view_bytes
view-bytes v h = append-bytes (digits 4 (id_of v)) (v.set ∷ []) (digits-bytes 4 (id_of v)) (byte-bytes v.set h)

views-bytes : (l : List View) → SetsAreBytes l → AreBytes (views_bytes l)
unfolding views_bytes
views-bytes [] h j = omega arith
views-bytes (v ∷ l) h j = append-bytes (view_bytes v) (views_bytes l) (view-bytes v (h 0)) (views-bytes l (λ (i : ℕ). h (suc i))) j

pub store_view-bytes : (b : List ℕ) (at : ℕ) (v : View) → AreBytes b → v.set < 256 → AreBytes (store_view b at v)
store_view-bytes b at v y h = set-bytes (put b at 4 (id_of v)) (at + 4) v.set (put-bytes b at 4 (id_of v) y) h

pub store_views-bytes : (b : List ℕ) (at : ℕ) (l : List View) → AreBytes b → SetsAreBytes l → AreBytes (store_views b at l)
unfolding store_views
store_views-bytes b at l y h =
    append-bytes (take at b) (views_bytes l ++ drop (at + 5 * length l) b) (take-bytes at b y)
    (append-bytes (views_bytes l) (drop (at + 5 * length l) b) (views-bytes l h) (drop-bytes (at + 5 * length l) b y))

-- ---- messages

pub store_short-bytes : (b : List ℕ) (at q kind x : ℕ) → AreBytes b → q < 256 → kind < 256 → AreBytes (store_short b at q kind x)
unfolding store_short
store_short-bytes b at q kind x y h k =
    put-bytes (set (set b at q) (at + 1) kind) (at + 2) 8 x (set-bytes (set b at q) (at + 1) kind (set-bytes b at q y h) k)

pub store_info-bytes : (b : List ℕ) (at q : ℕ) (l : List View) → AreBytes b → q < 256 → SetsAreBytes l → length l ≤ max_views
    → AreBytes (store_info b at q l)
unfolding store_info
store_info-bytes b at q l y h s few =
    let b1 = set b at q in
    let b2 = set b1 (at + 1) 2 in
    store_views-bytes (set b2 (at + 10) (length l)) (at + 11) l
    (set-bytes b2 (at + 10) (length l) (set-bytes b1 (at + 1) 2 (set-bytes b at q y h) (omega arith)) (omega arith)) s

pub store_message-bytes : (b : List ℕ) (at q : ℕ) (m : Message) → AreBytes b → q < 256 → SetsAreBytes (views_of m) → length (views_of m) ≤ max_views
    → AreBytes (store_message b at q m)
store_message-bytes b at q (client x) y h s few = store_short-bytes b at q 1 x y h (omega arith)
store_message-bytes b at q (info v l) y h s few = store_info-bytes b at q (v ∷ l) y h s few
store_message-bytes b at q registered y h s few = store_short-bytes b at q 3 0 y h (omega arith)
store_message-bytes b at q (told k) y h s few = store_short-bytes b at q 4 k y h (omega arith)

-- ---- queues

pub pushed-bytes : (b : List ℕ) (c s q : ℕ) (m : Message) → AreBytes b → q < 256 → SetsAreBytes (views_of m) → length (views_of m) ≤ max_views
    → get_or b c 0 < 255 → AreBytes (pushed b c s q m)
unfolding pushed
pushed-bytes b c s q m y h v few room =
    let slot = s + slot_size * get_or b c 0 in
    set-bytes (store_message b slot q m) c (get_or b c 0 + 1) (store_message-bytes b slot q m y h v few) (omega arith)

pub moved-bytes : (b : List ℕ) (from to n : ℕ) → AreBytes b → AreBytes (moved b from to n)
moved-bytes b from to n y = paste_bytes b to (drop from b) n y (drop-bytes from b y)

pub popped-bytes : (b : List ℕ) (c s : ℕ) → AreBytes b → AreBytes (popped b c s)
unfolding popped
popped-bytes b c s y =
    let n = slot_size * (get_or b c 0 - 1) in
    set-bytes (moved b (s + slot_size) s n) c (get_or b c 0 - 1) (moved-bytes b (s + slot_size) s n y) (omega (arith, y c))
