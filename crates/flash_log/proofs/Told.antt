-- What the code is told of a place or a page: a law for each way out.
use mathlib.Core.Path.{◌≡◌, sym, ap, ap₂, ◌∙◌, subst}
use mathlib.Core.Bool.{Bool, true, false}
use mathlib.Core.Option.{Option}
use Prim.Native.Nat.{ℕ, ◌+◌, ◌-◌, ◌*◌, ◌^◌, ◌≤◌, ◌<◌}
use native.Mathlib.Nat.{mul-le-mul}
use native.Mathlib.Omega.{arith}
use lib.ListN.{length, take, drop}
use borrow.Author.Tests.{eq-eqb, ne_eqb}
use Rattle.std.specs.Prelude as std
use Rattle.std.specs.Prelude.{Some, None}
use Rattle.base.specs.Choice.{on_some}
use Rattle.base.proofs.Choices.{eq_yes, eq_no}
use Rattle.base.proofs.Ways.{yes<, no<}
use Rattle.meaning.specs.declared.Block.{Block}
use Rattle.meaning.specs.declared.Geometry.{Geometry}
use Rattle.meaning.specs.declared.Message.{Message}
use Rattle.meaning.specs.declared.Plan.{Plan}
use Rattle.meaning.specs.declared.Parsed.{Parsed}
use Rattle.meaning.specs.declared.Parsed.TheVariants as parsed
use Rattle.meaning.specs.declared.Refusal.TheVariants as refused
use Rattle.meaning.specs.declared.Tag.TheVariants as means
use Rattle.meaning.specs.Answer.{address, number}
use Rattle.meaning.specs.Flash.{Labels, Lent, labels_of, image_of, address_of, begins, block_size, log_r}
use Rattle.meaning.specs.Labels.{find, generation_at, log_plan, view}
use Rattle.meaning.specs.Log.{embedded_limit, log_of, replayed}
use Rattle.meaning.specs.Message.{Page, parse}
use Rattle.label.specs.Search.{found}
use Rattle.label.proofs.Answered.{at_below, at_some, nothing_none}
use Rattle.message.specs.Page.{Ranged, page as the_page}
use Rattle.flash_log.specs.declared.Cursor.{Cursor}
use Rattle.flash_log.specs.declared.Opening.{Opening}
use Rattle.flash_log.specs.declared.Turn.{Turn}
use Rattle.flash_log.specs.declared.Turn.TheVariants.{Refused, On, Told}
use Rattle.flash_log.specs.Turn.{begun, block_at, in_page, last_at, next_page, on_block, onto, opened, page_at, said, spoken, turn_of}
use Rattle.flash_log.specs.Cursor.{Placed, Ready, Says, ahead, left, whole}
use Rattle.flash_log.proofs.Sizes.{Sizes, sizes, address_low, block_size_high, block_size_low, contents_low}
use Rattle.flash_log.proofs.Planned.{active_most, start_below, swept_most}
use Rattle.flash_log.proofs.Paged.{page_length, place_below, room}
use Rattle.flash_log.proofs.Ahead.{first_says, next_says, number_low, plan_is}

-- ---- the message at a position

module _ {x : Parsed} {limit : ℕ} (g : Geometry) (page : Page) (c : Cursor) (e : x ≡ parse limit g page c.at) (f : limit ≡ embedded_limit g) where
  says : said page c x ≡ spoken g page c
  unfolding spoken
  says = ap (said page c) (e ∙ ap (λ (n : ℕ). parse n g page c.at) f)

  pub malformed_is : {here : ℕ} → here ≡ page.address + c.at → x ≡ parsed.Malformed → Refused (refused.Message (address here)) ≡ spoken g page c
  unfolding said
  malformed_is a h = ap {B = Turn} (λ (n : ℕ). Refused (refused.Message (address n))) a ∙ sym (ap (said page c) h) ∙ says

  pub end_is : {d : Cursor} → x ≡ parsed.End → d ≡ next_page c false → On d ≡ spoken g page c
  unfolding said
  end_is h k = ap {B = Turn} On k ∙ sym (ap (said page c) h) ∙ says

  pub found_is : {d : Cursor} {m : Message} {next here : ℕ} → here ≡ page.address + c.at → x ≡ parsed.Found m next → d ≡ in_page c next
      → Told d m (address here) ≡ spoken g page c
  unfolding said
  found_is {d} {m} a h k = ap₂ {C = Turn} (λ (n : ℕ) (y : Cursor). Told y m (address n)) a k ∙ sym (ap (said page c) h) ∙ says

-- the part of a slice from a to a + n has n elements
pub part_is : (a n : ℕ) → a + n - a ≡ n
part_is a n = omega arith

-- a page is left with the gap that it has
pub on_is : {d : Cursor} {gap : Bool} (c : Cursor) (b : Bool) → d ≡ next_page c gap → gap ≡ b → On d ≡ On (next_page c b)
on_is c b e f = ap {B = Turn} On (e ∙ ap (next_page c) f)

-- ---- the last block of its generation

module _ (p : Plan) (k : ℕ) where
  pub swept_last : k < p.swept → p.swept - k ≡ 1 → true ≡ last_at p k
  unfolding last_at
  swept_last h e = yes< _ _ _ _ h (sym (eq-eqb (k + 1) p.swept (omega arith)))

  pub swept_more : k < p.swept → (p.swept - k ≡ 1 → ⊥) → false ≡ last_at p k
  unfolding last_at
  swept_more h f = yes< _ _ _ _ h (sym (ne_eqb (k + 1) p.swept (λ e. f (omega arith))))

  pub active_last : p.swept ≤ k → k - p.swept < p.active → p.active - (k - p.swept) ≡ 1 → true ≡ last_at p k
  unfolding last_at
  active_last l h e = no< _ _ _ _ l (yes< _ _ _ _ h (sym (eq-eqb (k - p.swept + 1) p.active (omega arith))))

  pub active_more : p.swept ≤ k → k - p.swept < p.active → (p.active - (k - p.swept) ≡ 1 → ⊥) → false ≡ last_at p k
  unfolding last_at
  active_more l h f = no< _ _ _ _ l (yes< _ _ _ _ h (sym (ne_eqb (k - p.swept + 1) p.active (λ e. f (omega arith)))))

-- ---- blocks

module _ (g : Geometry) (l : Lent) (p : Plan) (r : Ready g l p) where
  abbrev s : Sizes g l
  s = sizes g l r.fit

  abbrev labels : Labels
  labels = labels_of l.tags l.paths

  pub swept_low : p.swept ≤ 1024
  swept_low = subst (λ (q : Plan). q.swept ≤ 1024) (sym r.plan) (omega (arith, swept_most (length l.tags) labels, s.tags, s.blocks))

  pub active_low : p.active ≤ 1024
  active_low = subst (λ (q : Plan). q.active ≤ 1024) (sym r.plan) (omega (arith, active_most (length l.tags) labels, s.tags, s.blocks))

  pub start_low : p.start.0 < 4096
  start_low = subst (λ (q : Plan). q.start.0 < 4096) (sym r.plan) (start_below (length l.tags) labels)

  module _ {x : std.Option Block} (k n : ℕ)
      (e : x ≡ found (find (length l.tags) (view (length l.tags) labels means.Log) (log_r n (generation_at p n)))) where
    pub nothing_is : x ≡ None → None ≡ on_block g l p k n
    unfolding on_block on_some
    nothing_is h = sym (ap (λ (o : Option ℕ). on_some o None (λ i. Some (record { k = k; number = number n; begin = begins g i; page = 0; at = 0; gap = false }))) (nothing_none _ e h))

    module _ {b : Block} {size : ℕ} (h : x ≡ Some b) (z : size ≡ block_size g) where
      pub begin_low : b.0 * size ≤ 67108864
      unfolding find
      begin_low =
          let i : b.0 < length l.tags = at_below _ _ e h in
          let i' : b.0 ≤ 1024 = omega (arith, s.tags, s.blocks) in
          let z' : size ≤ 65536 = omega (arith, block_size_low g l s) in
          let q : b.0 * size ≤ 1024 * 65536 = mul-le-mul i' z' in
          omega arith

      pub at_is : Some (record { k = k; number = number n; begin = b.0 * size; page = 0; at = 0; gap = false }) ≡ on_block g l p k n
      unfolding on_block on_some begins
      at_is =
          ap {B = std.Option Cursor} (λ (y : ℕ). Some (record { k = k; number = number n; begin = b.0 * y; page = 0; at = 0; gap = false })) z
          ∙ sym (ap (λ (o : Option ℕ). on_some o None (λ i. Some (record { k = k; number = number n; begin = begins g i; page = 0; at = 0; gap = false }))) (at_some _ e h))

  pub first_is : {x : std.Option Cursor} → x ≡ block_at g l p 0 → (x ≡ block_at g l p 0) × Says g l p (whole p) (log_of g (replayed g (image_of g l))) (onto x)
  first_is e = (e, subst (λ (x : std.Option Cursor). Says g l p (whole p) (log_of g (replayed g (image_of g l))) (onto x)) (sym e) (first_says g l p r))

  -- ---- turns

  module _ (c : Cursor) (q : Placed g l p c) where
    answer : {t : Turn} → t ≡ turn_of g l p c → (t ≡ turn_of g l p c) × Says g l p (left g p c) (ahead g l c) t
    answer e = (e, subst (Says g l p (left g p c) (ahead g l c)) (sym e) (next_says g l p r c q))

    pub over_is : {x y : std.Option Cursor} → c.page ≡ g.pages → x ≡ block_at g l p (c.k + 1) → x ≡ y
        → (onto y ≡ turn_of g l p c) × Says g l p (left g p c) (ahead g l c) (onto y)
    unfolding turn_of
    over_is h e f = answer (ap onto (sym f ∙ e) ∙ sym (eq_yes c.page g.pages _ _ h))

    pub block_low : c.k < 2048
    block_low = omega (arith, q.block, swept_low, active_low)

    -- a page of the block
    module _ (h : c.page ≡ g.pages → ⊥) where
      own : Placed g l (log_plan g.blocks (image_of g l).labels) c
      own = subst (λ (x : Plan). Placed g l x c) (plan_is g l p r) q

      pub page_low : c.page < g.pages
      page_low = omega (arith, q.page, h)

      pub page_few : (c.page < 65535) × (c.at ≤ 65536)
      page_few = (omega (arith, page_low, s.pages), omega (arith, q.at, s.size))

      pub part_room : c.begin + c.page * g.size + g.size ≤ length l.contents
      part_room = omega (arith, room g l s own.place c.page (place_below g l s c own) page_low, own.begin)

      pub part_low : length l.contents ≤ 67108864
      part_low = omega (arith, s.contents, contents_low g l s)

      -- the page as it is lent: n bytes from where it begins
      module _ {a n offset : ℕ} (ea : a ≡ address_of g c.number.0 c.page offset) (eo : offset ≡ 0) (en : n ≡ g.size) where
        address_is : a ≡ address_of g c.number.0 c.page 0
        address_is = ea ∙ ap (address_of g c.number.0 c.page) eo

        pub page_ranged : Ranged g (take n (drop (c.begin + c.page * g.size) l.contents)) a (c.begin + c.page * g.size)
        page_ranged = record {
          block = omega (arith, block_size_high g l s);
          short = subst (λ (x : ℕ). length (take x (drop (c.begin + c.page * g.size) l.contents)) ≤ 2 ^ 16) (sym en)
              (subst (λ (x : ℕ). length (take g.size (drop (x + c.page * g.size) l.contents)) ≤ 2 ^ 16) (sym own.begin)
              (omega (arith, page_length g l s own.place c.page (place_below g l s c own) page_low, s.size)));
          low = omega (arith, address_is, address_low g l s c.number.0 c.page (number_low g l s c own page_low) page_low);
          early = omega (arith, part_room, part_low, s.size);
        }

        page_same : the_page (take n (drop (c.begin + c.page * g.size) l.contents)) a (c.begin + c.page * g.size) ≡ page_at g l.contents c
        unfolding page_at
        page_same = ap₂ {C = Page} (λ (x y : ℕ). the_page (take x (drop (c.begin + c.page * g.size) l.contents)) y (c.begin + c.page * g.size)) en address_is

        pub begun_is : {x y : Opening} {t : Turn} → x ≡ opened p (take n (drop (c.begin + c.page * g.size) l.contents)) c → x ≡ y
            → t ≡ begun g (the_page (take n (drop (c.begin + c.page * g.size) l.contents)) a (c.begin + c.page * g.size)) c y
            → (t ≡ turn_of g l p c) × Says g l p (left g p c) (ahead g l c) t
        unfolding turn_of
        begun_is o f e =
            let page : Page = the_page (take n (drop (c.begin + c.page * g.size) l.contents)) a (c.begin + c.page * g.size) in
            answer (e ∙ ap (begun g page c) (sym f ∙ o) ∙ ap (λ (x : Page). begun g x c (opened p x.bytes c)) page_same ∙ sym (eq_no c.page g.pages _ _ h))
