-- Each turn says what is ahead of its cursor.
use mathlib.Core.Path.{◌≡◌, refl, sym, ap, ap₂, ◌∙◌, subst}
use mathlib.Core.Logic.{◌≢◌, ⊎_elim}
use mathlib.Core.Bool.{Bool, true, false, ◌||◌}
use mathlib.Core.Option.{Option, some}
use mathlib.Core.List.{List, [], ◌∷◌}
use Prim.Native.Nat.{ℕ, suc, ◌+◌, ◌-◌, ◌*◌, ◌≤◌, ◌<◌}
use native.Mathlib.Omega.{arith}
use lib.ListN.{length, get_or, drop}
use lib.Dec.{T, eqb, eqb→eq}
use borrow.Author.Tests.{eq-eqb, ne_eqb}
use Rattle.std.specs.Prelude as std
use Rattle.base.specs.Choice.{is_some}
use Rattle.base.specs.Scan.{all_of}
use Rattle.base.proofs.Tests.{and_l, is_false, lt_or}
use Rattle.base.proofs.Choices.{all_true, all_less, all_eq, all_some, less_yes, less_no, eq_yes, eq_no}
use Rattle.meaning.specs.declared.Geometry.{Geometry}
use Rattle.meaning.specs.declared.Plan.{Plan}
use Rattle.meaning.specs.declared.Message.{Message}
use Rattle.meaning.specs.declared.Parsed.{Parsed}
use Rattle.meaning.specs.declared.Parsed.TheVariants as parsed
use Rattle.meaning.specs.declared.Refusal.TheVariants as refused
use Rattle.meaning.specs.declared.Tag.TheVariants as means
use Rattle.meaning.specs.Answer.{address, number}
use Rattle.meaning.specs.Flash.{Lent, Image, labels_of, image_of, begins, blank, log_r}
use Rattle.meaning.specs.Labels.{find, find_log, generation_at, log_plan, view}
use Rattle.meaning.specs.Message.{Page, parse}
use Rattle.meaning.specs.Log.{Log, LogBlock, empty, stopped, entry, join, embedded_limit, messages, page_log, log_page, pages_from, block_log, log_block, log_of, replayed}
use Rattle.replayed.proofs.Keeps.{Well, on_parsed}
use Rattle.replayed.proofs.Parses.{Sound, parse_sound}
use Rattle.replayed.proofs.Fuel.{enough}
use Rattle.flash_log.specs.declared.Cursor.{Cursor}
use Rattle.flash_log.specs.declared.Opening.{Opening}
use Rattle.flash_log.specs.declared.Turn.{Turn}
use Rattle.flash_log.specs.declared.Turn.TheVariants.{On}
use Rattle.flash_log.specs.Turn.{begun, block_at, fresh, in_page, next_page, on_block, onto, opened, page_at, said, spoken, turn_of}
use Rattle.flash_log.specs.Cursor.{Next, Placed, Ranged, Ready, Says, ahead, ahead_in, inside, left, number_at, whole}
use Rattle.flash_log.proofs.Joins.{join_empty, join_stopped, join_entry, join_assoc}
use Rattle.flash_log.proofs.Sizes.{Sizes, sizes, block_size_low, address_low}
use Rattle.flash_log.proofs.Planned.{block_stands, block_of, drop_block, drop_end}
use Rattle.flash_log.proofs.Paged.{length_is, page_is}
use Rattle.flash_log.proofs.Ranges.{Small, parse_range}

-- ---- messages, one by one

messages_are : (g : Geometry) (page : Page) (at fuel : ℕ) → length page.bytes ≡ suc fuel → (x : Parsed) → parse (embedded_limit g) g page at ≡ x
    → messages (length page.bytes) g page at ≡ on_parsed page at (messages fuel g page) x
unfolding messages
messages_are g page at fuel e x f = ap (λ (n : ℕ). messages n g page at) e ∙ ap (on_parsed page at (messages fuel g page)) f

-- where less fuel is enough, so is the page's length
found_are : (g : Geometry) (page : Page) (at fuel next : ℕ) (m : Message) → length page.bytes ≡ suc fuel
    → parse (embedded_limit g) g page at ≡ parsed.Found m next → at < next
    → messages (length page.bytes) g page at ≡ entry (page.address + at) m (messages (length page.bytes) g page next)
found_are g page at fuel next m e f h =
    messages_are g page at fuel e (parsed.Found m next) f
    ∙ ap (entry (page.address + at) m) (enough fuel (length page.bytes) g page next (omega arith) (omega arith))

-- ---- pages, one by one

blank_first : (b : List ℕ) → 0 < length b → T (blank b) → get_or b 0 0 ≡ 0xff
unfolding blank all_of
blank_first [] h t = absurd (omega arith)
blank_first (x ∷ xs) h t = eqb→eq x 0xff (and_l (eqb x 0xff) (all_of (λ c. eqb c 0xff) xs) t)

-- what a page adds: it is blank, its block the last of its generation, and otherwise it is bad
abbrev on_page : Log → Log → Log → Bool → Bool → Bool → Log
on_page on stop written is_blank last bad =
    elim is_blank [
      | true ↦ elim last [ true ↦ on | false ↦ stop ]
      | false ↦ elim bad [ true ↦ stop | false ↦ written ]
    ]

module _ (g : Geometry) (l : LogBlock) (p rest : ℕ) (gap : Bool) where
  abbrev its : List ℕ
  its = (log_page g l p).bytes

  abbrev refusal : Log
  refusal = stopped (refused.Page (address (log_page g l p).address))

  abbrev this : Bool → Bool → Bool → Log
  this = on_page (pages_from rest g l (p + 1) true) refusal (join (page_log g (log_page g l p)) (pages_from rest g l (p + 1) false))

  page_now : pages_from (suc rest) g l p gap ≡ this (blank its) l.last (gap || eqb (get_or its 0 0) 0xff)
  unfolding pages_from
  page_now = refl

  pages_blank : blank its ≡ true → l.last ≡ true → pages_from (suc rest) g l p gap ≡ pages_from rest g l (p + 1) true
  pages_blank b e = page_now ∙ ap₂ (λ (x y : Bool). this x y (gap || eqb (get_or its 0 0) 0xff)) b e

  pages_misplaced : blank its ≡ true → l.last ≡ false → pages_from (suc rest) g l p gap ≡ refusal
  pages_misplaced b e = page_now ∙ ap₂ (λ (x y : Bool). this x y (gap || eqb (get_or its 0 0) 0xff)) b e

  pages_bad : blank its ≡ false → (gap || eqb (get_or its 0 0) 0xff) ≡ true → pages_from (suc rest) g l p gap ≡ refusal
  pages_bad b e = page_now ∙ ap₂ (λ (x y : Bool). this x l.last y) b e

  pages_written : blank its ≡ false → (gap || eqb (get_or its 0 0) 0xff) ≡ false
      → pages_from (suc rest) g l p gap ≡ join (page_log g (log_page g l p)) (pages_from rest g l (p + 1) false)
  pages_written b e = page_now ∙ ap₂ (λ (x y : Bool). this x l.last y) b e

or_true : (a b : Bool) → b ≡ true → (a || b) ≡ true
or_true true b e = refl
or_true false b e = e

or_first : (a b : Bool) → a ≡ true → (a || b) ≡ true
or_first a b e = rw e

or_neither : (a b : Bool) → a ≡ false → b ≡ false → (a || b) ≡ false
or_neither a b e f = rw (e, f)

-- ---- the turns

module _ (g : Geometry) (l : Lent) (s : Sizes g l) where
  abbrev m : Image
  m = image_of g l

  abbrev plan : Plan
  plan = log_plan g.blocks m.labels

  abbrev total : ℕ
  total = plan.swept + plan.active

  abbrev after : ℕ → Log
  after k = log_of g (drop k (replayed g m))

  abbrev Is : ℕ → Log → Turn → Type 0
  Is = Says g l plan

  abbrev Onto : ℕ → Log → std.Option Cursor → Type 0
  Onto bound log x = Is bound log (onto x)

  ahead_start : (c : Cursor) → c.k < total → c.at ≡ 0
      → ahead g l c ≡ join (pages_from (g.pages - c.page) g (block_of g m c.k) c.page c.gap) (after (c.k + 1))
  unfolding ahead ahead_in
  ahead_start c h e = rw (drop_block g m c.k h, ahead_in) (eq_yes c.at 0 _ _ e)

  ahead_in_lem : (c : Cursor) → c.k < total → c.at ≢ 0 → ahead g l c ≡ inside g (block_of g m c.k) c.page c.at (after (c.k + 1))
  unfolding ahead ahead_in
  ahead_in_lem c h e = rw (drop_block g m c.k h, ahead_in) (eq_no c.at 0 _ _ e)

  -- the first page of a block
  on_says : (k n i bound : ℕ) → k < total → n ≡ number_at plan k → find_log g.blocks m.labels n ≡ some i
      → (total - k) * 262144 + g.pages * 4096 + g.size < bound
      → Is bound (after k) (On (record { k = k; number = number n; begin = begins g i; page = 0; at = 0; gap = false }))
  unfolding log_of block_log left
  on_says k n i bound h e f b =
      let c : Cursor = record { k = k; number = number n; begin = begins g i; page = 0; at = 0; gap = false } in
      let z : g.pages - 0 ≡ g.pages = omega arith in (
        ap (log_of g) (drop_block g m k h)
            ∙ sym (ahead_start c h refl ∙ ap (λ (x : ℕ). join (pages_from x g (block_of g m k) 0 false) (after (k + 1))) z),
        record {
          placed = record { block = h; number = e; place = i; found = f; begin = refl; page = omega arith; within = λ u. omega arith; at = omega arith };
          less = omega arith;
        },
      )

  onto_says : (k n bound : ℕ) → k < total → n ≡ number_at plan k → (total - k) * 262144 + g.pages * 4096 + g.size < bound
      → Onto bound (after k) (on_block g l plan k n)
  unfolding on_block image_of find_log is_some
  onto_says k n bound h e b =
      let v = view (length l.tags) (labels_of l.tags l.paths) means.Log in
      let r : ℕ = log_r n (generation_at plan n) in
      let same : find (length l.tags) v r ≡ find_log g.blocks m.labels n =
      ap (λ (x : ℕ). find x (view x (labels_of l.tags l.paths) means.Log) r) s.tags in
      let there : T (is_some (find_log g.blocks m.labels n)) =
      subst (λ (x : ℕ). T (is_some (find_log g.blocks m.labels x))) (sym e) (block_stands g.blocks m.labels k h).0 in
      all_some (Onto bound (after k)) (find (length l.tags) v r) _ _
      (λ f. absurd (subst (λ (o : Option ℕ). T (is_some o)) (sym same ∙ f) there))
      (λ i f. on_says k n i bound h e (sym same ∙ f) b)

  swept_number : (k : ℕ) → k < plan.swept → k ≡ number_at plan k
  unfolding number_at
  swept_number k u = sym (less_yes k plan.swept _ _ u)

  active_number : (k : ℕ) → plan.swept ≤ k → plan.start.0 + (k - plan.swept) ≡ number_at plan k
  unfolding number_at
  active_number k u = sym (less_no k plan.swept _ _ u)

  ended : (k : ℕ) → total ≤ k → after k ≡ empty
  unfolding log_of
  ended k h = ap (log_of g) (drop_end g m k h)

  -- block k, or the end
  block_says : (k bound : ℕ) → (total - k) * 262144 + g.pages * 4096 + g.size < bound → Onto bound (after k) (block_at g l plan k)
  unfolding block_at
  block_says k bound b =
      all_less (Onto bound (after k)) k plan.swept _ _
      (λ (u : k < plan.swept). onto_says k k bound (omega arith) (swept_number k u) b)
      (λ (u : plan.swept ≤ k). all_less (Onto bound (after k)) (k - plan.swept) plan.active _ _
      (λ (v : k - plan.swept < plan.active). onto_says k (plan.start.0 + (k - plan.swept)) bound (omega arith) (active_number k u) b)
      (λ (v : plan.active ≤ k - plan.swept). ended k (omega arith)))

  module _ (c : Cursor) (q : Placed g l plan c) (h : c.page < g.pages) where
    abbrev b : LogBlock
    b = block_of g m c.k

    abbrev page : Page
    page = log_page g b c.page

    abbrev rest : Log
    rest = join (pages_from (g.pages - (c.page + 1)) g b (c.page + 1) false) (after (c.k + 1))

    long : length page.bytes ≡ suc (g.size - 1)
    long = length_is g l s c q h ∙ omega (arith, s.byte)

    to_page : (gap : Bool) → Next g l plan (left g plan c) (next_page c gap)
    unfolding next_page left
    to_page gap = record {
      placed = record {
        block = q.block;
        number = q.number;
        place = q.place;
        found = q.found;
        begin = q.begin;
        page = omega arith;
        within = λ u. omega arith;
        at = omega arith;
      };
      less = omega (arith, s.size, q.at);
    }

    to_position : (at : ℕ) → c.at < at → at ≤ g.size → Next g l plan (left g plan c) (in_page c at)
    unfolding in_page left
    to_position at lo hi = record {
      placed = record {
        block = q.block;
        number = q.number;
        place = q.place;
        found = q.found;
        begin = q.begin;
        page = q.page;
        within = λ u. h;
        at = hi;
      };
      less = omega arith;
    }

    at_next : (gap : Bool) → ahead g l (next_page c gap) ≡ join (pages_from (g.pages - (c.page + 1)) g b (c.page + 1) gap) (after (c.k + 1))
    unfolding next_page
    at_next gap = ahead_start (next_page c gap) q.block refl

    at_position : (at : ℕ) → at ≢ 0 → ahead g l (in_page c at) ≡ inside g b c.page at (after (c.k + 1))
    unfolding in_page
    at_position at e = ahead_in_lem (in_page c at) q.block e

    pub number_low : c.number.0 < 4096
    number_low = subst (λ (n : ℕ). n < 4096) (sym q.number) (block_stands g.blocks m.labels c.k q.block).1

    small : Small (embedded_limit g) g page
    unfolding embedded_limit page_at
    small = record {
      few = omega arith;
      block = block_size_low g l s;
      short = omega (arith, length_is g l s c q h, s.size);
      low = omega (arith, address_low g l s c.number.0 c.page number_low h, ap (λ (x : Page). x.address) (page_is g l s c q h));
    }

    -- what stands at the cursor's position
    spoken_says : Is (left g plan c) (inside g b c.page c.at (after (c.k + 1))) (spoken g page c)
    unfolding spoken said inside
    spoken_says = go (parse (embedded_limit g) g page c.at) refl (parse_sound (embedded_limit g) g page c.at) (parse_range (embedded_limit g) g page small c.at)
      where
        go : (x : Parsed) → parse (embedded_limit g) g page c.at ≡ x → Well (Sound page c.at) x → Well (λ m next. Ranged m) x
            → Is (left g plan c) (join (messages (length page.bytes) g page c.at) rest) (said page c x)
        go parsed.Malformed e w r = ap (λ (y : Log). join y rest) (messages_are g page c.at (g.size - 1) long parsed.Malformed e) ∙ join_stopped _ rest
        go parsed.End e w r = (
          ap (λ (y : Log). join y rest) (messages_are g page c.at (g.size - 1) long parsed.End e) ∙ join_empty rest ∙ sym (at_next false),
          to_page false,
        )
        go (parsed.Found msg next) e w r = (
          ap (λ (y : Log). join y rest) (found_are g page c.at (g.size - 1) next msg long e w.grows)
              ∙ join_entry _ msg _ rest
              ∙ ap (entry (page.address + c.at) msg) (sym (at_position next (λ z. omega (arith, w.grows)))),
          to_position next w.grows (omega (arith, w.within, length_is g l s c q h)),
          r,
        )

    -- a page that has not been looked at
    begun_says : c.at ≡ 0 → Is (left g plan c) (join (pages_from (g.pages - c.page) g b c.page c.gap) (after (c.k + 1))) (begun g page c (fresh plan page.bytes c))
    unfolding fresh page_log inside log_block
    begun_says z =
        let n : ℕ = g.pages - (c.page + 1) in
        let e : g.pages - c.page ≡ suc n = omega arith in
        let here : Log = join (pages_from (g.pages - c.page) g b c.page c.gap) (after (c.k + 1)) in
        let K : Opening → Type 0 = λ x. Is (left g plan c) here (begun g page c x) in
        let step : (x : Log) → pages_from (suc n) g b c.page c.gap ≡ x → here ≡ join x (after (c.k + 1)) =
        λ x f. ap (λ (y : Log). join y (after (c.k + 1))) (ap (λ (j : ℕ). pages_from j g b c.page c.gap) e ∙ f) in
        let stop : (f : pages_from (suc n) g b c.page c.gap ≡ stopped (refused.Page (address page.address))) → here ≡ stopped (refused.Page (address page.address)) =
        λ f. step _ f ∙ join_stopped _ (after (c.k + 1)) in
        all_eq K _ _ _ _
        (λ (f : get_or page.bytes 0 0 ≡ 0xff). all_true K _ _ _
        (λ t. all_true K _ _ _
        (λ u. (step _ (pages_blank g b c.page n c.gap t u) ∙ sym (at_next true), to_page true))
        (λ u. stop (pages_misplaced g b c.page n c.gap t u)))
        (λ t. stop (pages_bad g b c.page n c.gap t (or_true c.gap _ (eq-eqb _ 0xff f)))))
        (λ (f : get_or page.bytes 0 0 ≡ 0xff → ⊥).
        let t : blank page.bytes ≡ false = is_false (blank page.bytes) (λ u. f (blank_first page.bytes (omega (arith, long)) u)) in
        all_true K _ _ _
        (λ u. stop (pages_bad g b c.page n c.gap t (or_first c.gap _ u)))
        (λ u. subst (λ (y : Log). Is (left g plan c) y (spoken g page c))
        (sym (step _ (pages_written g b c.page n c.gap t (or_neither c.gap _ u (ne_eqb _ 0xff f))) ∙ join_assoc (page_log g page) _ (after (c.k + 1)) ∙ ap (λ (x : ℕ). join (messages (length page.bytes) g page x) rest) (sym z)))
        spoken_says))

  -- past the last page of a block
  over : (c : Cursor) → Placed g l plan c → c.page ≡ g.pages → Onto (left g plan c) (ahead g l c) (block_at g l plan (c.k + 1))
  unfolding pages_from left
  over c q e =
      let z : c.at ≡ 0 = ⊎_elim (λ (u : 0 < c.at). absurd (omega (arith, q.within u))) (λ (u : c.at ≤ 0). omega arith) (lt_or 0 c.at) in
      let n : g.pages - c.page ≡ 0 = omega arith in
      subst (λ (y : Log). Onto (left g plan c) y (block_at g l plan (c.k + 1)))
      (sym (ahead_start c q.block z ∙ ap (λ (j : ℕ). join (pages_from j g (block_of g m c.k) c.page c.gap) (after (c.k + 1))) n ∙ join_empty (after (c.k + 1))))
      (block_says (c.k + 1) (left g plan c) (omega (arith, s.pages, s.size, q.block)))

  -- every turn
  turn_says : (c : Cursor) → Placed g l plan c → Is (left g plan c) (ahead g l c) (turn_of g l plan c)
  unfolding turn_of opened
  turn_says c q =
      let K : Turn → Type 0 = Is (left g plan c) (ahead g l c) in
      all_eq K c.page g.pages _ _ (λ e. over c q e)
      (λ (f : c.page ≡ g.pages → ⊥).
      let h : c.page < g.pages = omega (arith, q.page) in
      let page : Page = log_page g (block_of g m c.k) c.page in
      subst (λ (x : Page). K (begun g x c (opened plan x.bytes c))) (sym (page_is g l s c q h))
      (all_less (λ (x : Opening). K (begun g page c x)) 0 c.at _ _
      (λ (z : 0 < c.at). subst (λ (y : Log). Is (left g plan c) y (spoken g page c)) (sym (ahead_in_lem c q.block (λ e. omega arith))) (spoken_says c q h))
      (λ (z : c.at ≤ 0).
      let e : c.at ≡ 0 = omega arith in
      subst (λ (y : Log). Is (left g plan c) y (begun g page c (fresh plan page.bytes c))) (sym (ahead_start c q.block e)) (begun_says c q h e))))

pub plan_is : (g : Geometry) (l : Lent) (p : Plan) → Ready g l p → p ≡ log_plan g.blocks (image_of g l).labels
unfolding image_of
plan_is g l p r = r.plan ∙ ap (λ (n : ℕ). log_plan n (labels_of l.tags l.paths)) (sizes g l r.fit).tags

-- what `next` answers
pub next_says : (g : Geometry) (l : Lent) (p : Plan) → Ready g l p → (c : Cursor) → Placed g l p c → Says g l p (left g p c) (ahead g l c) (turn_of g l p c)
next_says g l p r c = subst (λ (x : Plan). Placed g l x c → Says g l x (left g x c) (ahead g l c) (turn_of g l x c)) (sym (plan_is g l p r))
    (turn_says g l (sizes g l r.fit) c)

-- what `first` answers
pub first_says : (g : Geometry) (l : Lent) (p : Plan) → Ready g l p → Says g l p (whole p) (log_of g (replayed g (image_of g l))) (onto (block_at g l p 0))
unfolding whole
first_says g l p r =
    let s = sizes g l r.fit in
    subst (λ (x : Plan). Says g l x (whole x) (log_of g (replayed g (image_of g l))) (onto (block_at g l x 0))) (sym (plan_is g l p r))
    (block_says g l s 0 _ (omega (arith, s.pages, s.size)))
