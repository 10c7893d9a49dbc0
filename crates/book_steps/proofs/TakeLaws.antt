-- A message taken: the reply and the bytes are those of the rule, for each of the four messages.
use mathlib.Core.Path.{◌≡◌, refl, sym, ap, ◌∙◌}
use mathlib.Core.Logic.{⊎_elim}
use mathlib.Core.Bool.{true, false}
use mathlib.Core.List.{List, []}
use Prim.Native.Nat.{ℕ, zero, suc, ◌+◌, ◌-◌, ◌≤◌, ◌<◌, min}
use native.Mathlib.Omega.{arith}
use borrow.Author.Tests.{lt-ltb, le-ltb, le-leb, lt-leb}
use lib.ListN.{length, get_or, set, length-take}
use lib.Seq.{set-get_or}
use Rattle.numbers.specs.Number.{put}
use Rattle.views.specs.declared.View.{View}
use Rattle.std.specs.Prelude.{Option, Some, None, Ok, Err}
use Rattle.views.specs.declared.refusal.Refusal.{Refusal}
use Rattle.views.specs.declared.refusal.Refusal.TheVariants.{TooManyOpen}
use Rattle.views.specs.Limits.{max_open, max_ordered}
use Rattle.views.specs.Refusals.{Verdict, left}
use Rattle.views.specs.Lists.{id_of, list_of, find_of, union_of, above_of}
use Rattle.views.proofs.SetLaws.{known}
use Rattle.wire.specs.declared.Message.{Message as Carried}
use Rattle.wire.specs.Reader.{view_in, views_in}
use Rattle.wire.specs.Writer.{store_view, store_views}
use Rattle.wire.specs.declared.merging.Merged.{Merged}
use Rattle.wire.specs.Merges.{Merges}
use Rattle.wire.proofs.ReaderLaws.{length-views_in, list-views_in}
use Rattle.rules.specs.Data.{Member, Message, client, info, registered, told, Book as Ruled, need, after}
use Rattle.rules.specs.Member.{Done, client_is_carrier, own_or, settled_by, learned, delivered}
use Rattle.rules.proofs.Holding.{Holds, gives, need-holds}
use Rattle.rules.specs.Alone.{info_of, message_of}
use Rattle.book_bytes.specs.declared.Held.{Held}
use Rattle.slots.specs.Changes.{gained}
use Rattle.slots.specs.Columns.{item_sender, item_number}
use Rattle.slots.proofs.Outside.{set-changed, put-changed, store_view-changed, store_views-changed}
use Rattle.slots.proofs.CodeLaws.{no-views}
use Rattle.book_bytes.specs.Places.{settled_at, taken_at, infos_at, registrations_at, tolds_at, opens_at, book_size}
use Rattle.book_bytes.specs.Records.{record_in, store_opens, store_held}
use Rattle.book_bytes.specs.Books.{book_in}
use Rattle.book_bytes.proofs.Opens.{opens_in}
use Rattle.events.specs.Replies.{event_of}
use Rattle.book_steps.specs.Acts.{few_open, taking, one_more, noted, held_after, take_bytes}
use Rattle.book_steps.specs.ArrivalParts.{Took}
use Rattle.book_steps.proofs.Committed.{Answered, refused-by, accepted-by}

-- ---- the verdict: 43, or the message is taken

module _ (q : Member) (m : Message) (b : List ℕ) where
  took : length (delivered q m (book_in b)).held.opens ≤ max_open → (d : List ℕ) → d ≡ take_bytes q m b → Took q m b d (Ok tt)
  unfolding few_open after need left
  took few d f = rw (le-leb _ _ few) (refl, f)

  over : max_open < length (delivered q m (book_in b)).held.opens → Took q m b b (Err TooManyOpen)
  unfolding few_open after need left
  over many = rw (lt-leb _ _ many) (refl, refl)

  -- a message taken shows nothing
  taking-quiet : Holds (λ (z : Done). event_of z.answer ≡ None) (taking q m (book_in b))
  unfolding few_open after
  taking-quiet = need-holds _ _ _ (λ t. gives refl)

  -- the reply
  module _ (d : List ℕ) where
    pub took-reply : Took q m b d (Ok tt)
        → Answered (taking q m (book_in b)) (take_bytes q m b) b (Ok None) d
    took-reply (e, f) = ((accepted-by (taking q m (book_in b)) d b None d (sym e) taking-quiet refl).0, f)

    pub over-reply : (x : Refusal) → Took q m b d (Err x)
        → Answered (taking q m (book_in b)) (take_bytes q m b) b (Err x) d
    over-reply x (e, f) = ((refused-by (taking q m (book_in b)) x d b (sym e)).0, f)

-- ---- there is room to count one message more, also after what comes before that

abbrev Ready : List ℕ → Type 0
Ready b = (book_size ≤ length b) × (get_or b taken_at 0 < max_ordered)

ready-kept : (b d : List ℕ) → length d ≡ length b → get_or d taken_at 0 ≡ get_or b taken_at 0 → Ready b → Ready d
ready-kept b d e f (size, room) = (rw e size, rw f room)

pub set_long : (b d : List ℕ) (i x : ℕ) → d ≡ one_more (set b i x) → length d ≡ length b
unfolding one_more
set_long b d i x e = let c = set b i x in ap length e ∙ (set-changed c taken_at (get_or c taken_at 0 + 1)).long ∙ (set-changed b i x).long

module _ (b d : List ℕ) (r : Ready b) where
  pub set-ready : (i x : ℕ) → taken_at < i → d ≡ set b i x → Ready d
  set-ready i x l e = rw e (ready-kept b (set b i x) (set-changed b i x).long ((set-changed b i x).below taken_at l) r)

  pub gained-ready : (c q x : ℕ) → taken_at < c → d ≡ gained b c q x → Ready d
  unfolding gained
  gained-ready c q x l e =
      let sender = item_sender c (get_or b c 0) in
      let number = item_number c (get_or b c 0) in
      let sent = set b sender q in
      let wrote = put sent number 8 x in
      let first = set-changed b sender q in
      let second = put-changed sent number 8 x in
      let third = set-changed wrote c (get_or b c 0 + 1) in
      rw e (ready-kept b (set wrote c (get_or b c 0 + 1)) (third.long ∙ second.long ∙ first.long)
      (third.below taken_at l ∙ second.below taken_at (omega arith) ∙ first.below taken_at (omega arith)) r)

  pub settled-ready : (v : View) → d ≡ store_view b settled_at v → Ready d
  settled-ready v e =
      let x = store_view-changed b settled_at v in rw e (ready-kept b (store_view b settled_at v) x.long (x.past taken_at (omega arith)) r)

  pub held-ready : (h : Held) → h.opens.count ≤ max_open → d ≡ store_held b h → Ready d
  unfolding store_held store_opens
  held-ready h few e =
      let settled = store_view b settled_at h.settled in
      let counted = set settled opens_at h.opens.count in
      let first = store_view-changed b settled_at h.settled in
      let second = set-changed settled opens_at h.opens.count in
      let third =
      store_views-changed counted (opens_at + 1) (list_of h.opens) (omega (arith, r.0, first.long, second.long, length-take h.opens.count h.opens.at)) in
      rw e (ready-kept b (store_views counted (opens_at + 1) (list_of h.opens)) (third.long ∙ second.long ∙ first.long)
      (third.below taken_at (omega arith) ∙ second.below taken_at (omega arith) ∙ first.past taken_at (omega arith)) r)

-- ---- client, registered, told: the views held stay

held-few : (b : List ℕ) → length (book_in b).held.opens ≤ max_open
unfolding book_in record_in
held-few b =
    let n = min (get_or b opens_at 0) max_open in
    rw (list-views_in b (opens_at + 1) n (omega arith)) (omega (arith, length-views_in b (opens_at + 1) n))

client-held : (q x : ℕ) (b : Ruled) → (delivered q (client x) b).held ≡ b.held
unfolding delivered
client-held q x b =
    ⊎_elim (λ (t : client_is_carrier b ≡ true). rw t) (λ (t : client_is_carrier b ≡ false). rw t) (known (client_is_carrier b))

module _ (q : Member) (b d : List ℕ) where
  pub took-client : (x : ℕ) → d ≡ take_bytes q (client x) b → Took q (client x) b d (Ok tt)
  took-client x f = took q (client x) b (rw (client-held q x (book_in b)) (held-few b)) d f

  pub took-registered : d ≡ one_more (noted registrations_at q b) → Took q registered b d (Ok tt)
  unfolding take_bytes delivered
  took-registered f = took q registered b (held-few b) d f

  pub took-told : (k : ℕ) → d ≡ one_more (set b (tolds_at + q) k) → Took q (told k) b d (Ok tt)
  unfolding take_bytes delivered
  took-told k f = took q (told k) b (held-few b) d f

-- ---- info

-- the settled view after it, by what the book's own is and whether x's identifier is open
module _ (b : List ℕ) (x own : View) (e : own ≡ view_in b settled_at) where
  read : id_of own ≡ id_of (book_in b).held.settled
  unfolding book_in record_in
  read = ap id_of e

  pub settled-own : id_of x ≤ id_of own → own ≡ settled_by x (book_in b).held
  unfolding settled_by book_in record_in
  settled-own h = rw (le-ltb (id_of (view_in b settled_at)) (id_of x) (omega (arith, read))) e

  module _ (few : get_or b opens_at 0 ≤ max_open) (h : id_of own < id_of x) where
    sought : (l : Option View) → find_of (id_of x) (views_in b (opens_at + 1) (get_or b opens_at 0)) ≡ l → own_or x l ≡ settled_by x (book_in b).held
    unfolding settled_by book_in
    sought l f = rw (lt-ltb (id_of (book_in b).held.settled) (id_of x) (omega (arith, read)), opens_in b few, f)

    pub settled-found : (v : View) → find_of (id_of x) (views_in b (opens_at + 1) (get_or b opens_at 0)) ≡ Some v → v ≡ settled_by x (book_in b).held
    settled-found v f = sought (Some v) f

    pub settled-new : find_of (id_of x) (views_in b (opens_at + 1) (get_or b opens_at 0)) ≡ None → x ≡ settled_by x (book_in b).held
    settled-new f = sought None f

-- what is held after it, of the open views and those that came put together where they lie
pub held-merged : (b list : List ℕ) (from n : ℕ) (x settled : View) (m : Merged) → get_or b opens_at 0 ≤ max_open → settled ≡ settled_by x (book_in b).held
    → Merges (views_in b (opens_at + 1) (get_or b opens_at 0)) (views_in list from n) (id_of settled) m
    → record { settled = settled; opens = m.views } ≡ held_after x (views_in list from n) b
unfolding held_after learned book_in
held-merged b list from n x settled m few e w = rw (w.views, e, opens_in b few)

module _ (q : Member) (v : View) (l : List View) (b : List ℕ) (next : Held) (e : next ≡ held_after v l b) where
  counted : next.opens.count ≡ length (delivered q (info v l) (book_in b)).held.opens
  unfolding held_after delivered
  counted = ap (λ (h : Held). h.opens.count) e

  pub took-info : next.opens.count ≤ max_open → (d : List ℕ) → d ≡ one_more (noted infos_at q (store_held b next)) → Took q (info v l) b d (Ok tt)
  unfolding take_bytes
  took-info few d g = took q (info v l) b (omega (arith, counted)) d (g ∙ ap (λ (h : Held). one_more (noted infos_at q (store_held b h))) e)

  pub over-info : max_open < next.opens.count → Took q (info v l) b b (Err TooManyOpen)
  over-info many = over q (info v l) b (omega (arith, counted))

-- with nothing open on either side the settled view alone is stored
settled-alone : (b : List ℕ) (x own settled : View) → get_or b opens_at 0 ≡ 0 → own ≡ view_in b settled_at
    → settled ≡ settled_by x (record { settled = own; opens = [] })
    → store_view b settled_at settled ≡ store_held b (held_after x [] b)
unfolding store_held store_opens held_after learned book_in record_in above_of union_of views_in
settled-alone b x own settled e f g =
    let w = store_view b settled_at settled in
    let count : get_or w opens_at 0 ≡ 0 = (store_view-changed b settled_at settled).past opens_at (omega arith) ∙ e in
    let none : set w opens_at 0 ≡ w = ap (set w opens_at) (sym count) ∙ set-get_or w opens_at 0 in
    rw (e, ← f, ← g, none, no-views w (opens_at + 1))

alone-few : (b : List ℕ) (x : View) → get_or b opens_at 0 ≡ 0 → (held_after x [] b).opens.count ≤ max_open
unfolding held_after learned book_in record_in above_of union_of views_in
alone-few b x e = rw e (omega arith)

-- an info's views: the settled one and the open ones behind it
views-split : (list : List ℕ) (from n : ℕ) → 1 ≤ n → info_of {M = ℕ} (views_in list from n) ≡ info (view_in list from) (views_in list (from + 5) (n - 1))
unfolding views_in
views-split list from zero h = absurd (omega arith)
views-split list from (suc n) h = let e : suc n - 1 ≡ n = omega arith in rw e

module _ (q : Member) (b list : List ℕ) (from n : ℕ) (d : List ℕ) where
  -- with an open view on either side
  pub inform-long : (x : View) → 1 ≤ n → x ≡ view_in list from → (r : Verdict)
      → Took q (info x (views_in list (from + 5) (n - 1))) b d r → Took q (info_of (views_in list from n)) b d r
  inform-long x h e r t = rw (views-split list from n h, ← e) t

  -- with none
  pub inform-short : (x own settled : View) → n ≡ 1 → get_or b opens_at 0 ≡ 0 → x ≡ view_in list from → own ≡ view_in b settled_at
      → settled ≡ settled_by x (record { settled = own; opens = [] }) → (w : List ℕ) → w ≡ store_view b settled_at settled
      → d ≡ one_more (noted infos_at q w) → Took q (info_of (views_in list from n)) b d (Ok tt)
  unfolding views_in
  inform-short x own settled one none e f g w h j =
      let next : w ≡ store_held b (held_after x [] b) = h ∙ settled-alone b x own settled none f g in
      rw (one, ← e) (took-info q x [] b (held_after x [] b) refl (alone-few b x none) d (j ∙ ap (λ (z : List ℕ). one_more (noted infos_at q z)) next))

-- ---- any message, as it is carried

pub took-carried : (q : Member) (m k : Carried) (l : List View) (b d : List ℕ) (r : Verdict) → m ≡ k
    → Took q (message_of k l) b d r → Took q (message_of m l) b d r
took-carried q m k l b d r e t = rw e t
