-- Of every image that mounts: each live extent's run stands whole in one block that is there. So `begins` refuses none of them.
use Prim.Native.Nat.{ℕ, zero, suc, ◌+◌, ◌-◌, ◌*◌, ◌/◌, ◌%◌, ◌^◌, ◌≤◌, ◌<◌}
use mathlib.Core.Path.{◌≡◌, refl, sym, ap, subst, ◌∙◌}
use mathlib.Core.Logic.{⊎_elim}
use mathlib.Core.Bool.{Bool, true, false}
use mathlib.Core.Option.{Option, none, some}
use mathlib.Core.List.{List, []}
use native.Mathlib.Omega.{arith}
use native.Mathlib.Nat.{add-mul, div-add-mod', mod-lt, mul_assoc, mul_comm, mul-le-mul_right}
use lib.Arith.{digits_div, digits_mod}
use lib.Dec.{T, eqb, leb, leb→le, le→leb}
use lib.ListN.{length, take, drop, length-take}
use Rattle.base.specs.Choice.{is_some, on_some}
use Rattle.base.specs.Member.{All, In}
use Rattle.base.proofs.Choices.{all_true, all_less, all_eq, all_bind}
use Rattle.base.proofs.Lists.{all_map, in_split}
use Rattle.base.proofs.Scans.{first_some}
use Rattle.base.proofs.Tests.{T-yes, lt_or, tests}
use Rattle.meaning.specs.declared.Extent.{Extent}
use Rattle.meaning.specs.declared.Geometry.{Geometry}
use Rattle.meaning.specs.declared.Message.{Message}
use Rattle.meaning.specs.declared.Message.TheVariants.{Create, Remove, Truncate, Write, Wstat}
use Rattle.meaning.specs.declared.Parsed.{Parsed}
use Rattle.meaning.specs.declared.Tag.TheVariants.{Log}
use Rattle.meaning.specs.Answer.{ok}
use Rattle.meaning.specs.Flash.{Image, Labels, Lent, address_of, block_size, fits, log_number, log_r, page_of}
use Rattle.meaning.specs.Labels.{find, find_log, generation_at, log_plan, plan_from, plan_of, view}
use Rattle.meaning.specs.Log.{LogBlock, bytes_at, embedded_limit, log_block, log_blocks, log_of, log_page, planned, replayed}
use Rattle.meaning.specs.Message.{Page, past, u16, good_data, good_embedded, good_run, in_log, well_formed, create_at, remove_at, truncate_at, write_at, wstat_at, typed, parse}
use Rattle.meaning.specs.Replay.{Tree, start, end, front, back, others, judge, applies, extents_after, changed, bare, replay}
use Rattle.extent.proofs.Line.{start_end}
use Rattle.flash_log.proofs.Sizes.{sizes, block_size_low, block_size_high, page_in}
use Rattle.replayed.proofs.Keeps.{Well, log_all, replay_keeps}
use Rattle.replayed.proofs.Line.{lay_all, others_all}
use Rattle.survival.proofs.Enough.{numbered}
use Rattle.survival.proofs.LogFacts.{generation_below, successor_below, r_parts}
use Rattle.survival.proofs.Survive.{Passed}
use Rattle.read.specs.Pieces as pieces
use Rattle.read.proofs.Address.{bare_low, bare_high, same_block_lem, same_offset}

pub some_is : (o : Option ℕ) {i : ℕ} → o ≡ some i → T (is_some o)
unfolding is_some
some_is o e = subst (λ (c : Option ℕ). T (is_some c)) (sym e) tt

-- the run stands whole in a block, of a number that a label may have; a log block is there
pub record Held (g : Geometry) (m : Labels) (e : Extent) : Type 0 where
  pub whole : pieces.bare e.address % block_size g + e.count ≤ block_size g
  pub small : pieces.bare e.address / block_size g ≤ 4095
  pub kept : 2 ^ 31 ≤ e.address → T (is_some (find_log g.blocks m (pieces.bare e.address / block_size g)))

module _ (g : Geometry) (l : Lent) (fit : fits g l ≡ true) (m : Labels) where
  low : block_size g ≤ 65536
  low = block_size_low g l (sizes g l fit)

  high : 1024 ≤ block_size g
  high = block_size_high g l (sizes g l fit)

  pub held_ends : (e : Extent) → Held g m e → pieces.bare e.address + e.count ≤ 2 ^ 28
  held_ends e h =
      let q : pieces.bare e.address / block_size g * block_size g ≤ 4095 * block_size g = mul-le-mul_right (block_size g) h.small in
      omega (arith, h.whole, low, div-add-mod' (pieces.bare e.address) (block_size g))

  -- ---- what a run that is laid over it leaves of it

  front_held : (s : ℕ) (x : Extent) → Held g m x → Held g m (front s x)
  unfolding front
  front_held s x h = record { whole = omega (arith, h.whole); small = h.small; kept = h.kept }

  module _ (e : ℕ) (x : Extent) (before : e < end x) (h : Held g m x) where
    abbrev d : ℕ
    d = e - start x

    inside : pieces.bare x.address % block_size g + d < block_size g
    inside = omega (arith, h.whole, start_end x, mod-lt (pieces.bare x.address) (pos high))
      where
        pos : 1024 ≤ block_size g → 0 < block_size g
        pos q = omega arith

    bare_on : pieces.bare (x.address + d) ≡ pieces.bare x.address + d
    bare_on = ⊎_elim
        (λ (u : x.address < 2 ^ 31). bare_low (x.address + d) (omega (arith, held_ends x h, bare_low x.address u, start_end x)) ∙ ap (λ (k : ℕ). k + d) (sym (bare_low x.address u)))
        (λ (u : 2 ^ 31 ≤ x.address).
        let z : x.address + d - 2 ^ 31 ≡ x.address - 2 ^ 31 + d = omega arith in
        bare_high (x.address + d) (omega arith) ∙ z ∙ ap (λ (k : ℕ). k + d) (sym (bare_high x.address u)))
        (lt_or x.address (2 ^ 31))

    block_on : pieces.bare (x.address + d) / block_size g ≡ pieces.bare x.address / block_size g
    block_on = ap (λ (k : ℕ). k / block_size g) bare_on ∙ same_block_lem (block_size g) (pieces.bare x.address) d inside

    offset_on : pieces.bare (x.address + d) % block_size g ≡ pieces.bare x.address % block_size g + d
    offset_on = ap (λ (k : ℕ). k % block_size g) bare_on ∙ same_offset (block_size g) (pieces.bare x.address) d inside

    from_log : 2 ^ 31 ≤ x.address + d → 2 ^ 31 ≤ x.address
    from_log u = ⊎_elim (λ (v : x.address < 2 ^ 31). absurd (omega (arith, held_ends x h, bare_low x.address v, start_end x))) (λ v. v) (lt_or x.address (2 ^ 31))

    back_held : Held g m (back e x)
    unfolding back
    back_held = record {
      whole = omega (arith, offset_on, h.whole, start_end x);
      small = omega (arith, block_on, h.small);
      kept = λ u. subst (λ (k : ℕ). T (is_some (find_log g.blocks m k))) (sym block_on) (h.kept (from_log u));
    }

  -- ---- messages

  abbrev Run : Message → Type 0
  Run (Create parent perm path mtime cvers name uid gid) = Unit {0}
  Run (Remove path mtime muid) = Unit {0}
  Run (Truncate path mtime cvers muid) = Unit {0}
  Run (Write run mtime cvers muid) = Held g m run
  Run (Wstat path name perm uid gid mtime muid) = Unit {0}

  others_held : (p : ℕ) (xs : List Extent) → All (Held g m) xs → All (Held g m) (others p xs)
  others_held p xs a = others_all (Held g m) p xs (all_map (Held g m) _ xs (λ x k n. k) a)

  keeps : (s : Message) (t : Tree) → Run s → applies (judge s t.records) ≡ true → All (Held g m) t.extents → All (Held g m) (changed s t).extents
  unfolding changed extents_after
  keeps (Create parent perm path mtime cvers name uid gid) t w q a = a
  keeps (Remove path mtime muid) t w q a = others_held path t.extents a
  keeps (Truncate path mtime cvers muid) t w q a = others_held path t.extents a
  keeps (Write run mtime cvers muid) t w q a = lay_all (Held g m) run t.extents w
      (all_map (Held g m) _ t.extents (λ x k. (λ u. front_held (start run) x k, λ u. back_held (end run) x u k)) a)
  keeps (Wstat path name perm uid gid mtime muid) t w q a = a

  -- ---- what parses: a run in the data, or bytes of the message's own page

  module _ (limit : ℕ) (page : Page)
      (own : (e : Extent) (off : ℕ) → 2 ^ 31 ≤ e.address → e.address - 2 ^ 31 ≡ page.address + off → 0 < e.count → off + e.count ≤ length page.bytes → Held g m e) where
    abbrev W : Parsed → Type 0
    W = Well (λ s next. Run s)

    abbrev b : List ℕ
    b = page.bytes

    good_run_lem : (e : Extent) (data' held : ℕ) → good_data limit g e.count e.address data' held ≡ true
        → (2 ^ 31 ≤ e.address → e.address - 2 ^ 31 ≡ data' → held ≡ e.count → Held g m e) → Held g m e
    unfolding good_data in_log good_embedded good_run
    good_run_lem e data' held t f = all_true (λ (v : Bool). v ≡ true → Held g m e) (leb (2 ^ 31) e.address) _ _
        (λ i u. let y = T-yes _ u in f (leb→le (2 ^ 31) e.address (T-yes _ i)) (search tests) (search tests))
        (λ i u.
        let y = T-yes _ u in
        let z : e.address < 2 ^ 31 = ⊎_elim (λ v. v) (λ (v : 2 ^ 31 ≤ e.address). absurd (yes_no i (le→leb (2 ^ 31) e.address v))) (lt_or e.address (2 ^ 31)) in
        let w : e.address % block_size g + e.count ≤ block_size g = search tests in
        let s : e.address / block_size g ≤ 4095 = search tests in
        record {
          whole = rw (bare_low e.address z) w;
          small = rw (bare_low e.address z) s;
          kept = λ v. absurd (omega arith);
        }) t
      where
        yes_no : {v : Bool} → v ≡ false → T v → ⊥
        yes_no {v} e t = subst T e t

    module _ (end : ℕ) (within : end ≤ length b) where
      create_run : (path p : ℕ) → W (create_at page path p end)
      unfolding create_at well_formed
      create_run path p = all_bind W _ _ (all_bind W _ _ (all_bind W _ _
          (all_eq W _ _ _ _ (λ e. all_eq W _ _ _ _ (λ z. tt) (λ z. all_true W _ _ _ (λ t. tt) (λ t. tt))) (λ e. tt))))

      remove_run : (path p : ℕ) → W (remove_at page path p end)
      unfolding remove_at
      remove_run path p = all_bind W _ _ (all_eq W _ _ _ _ (λ e. tt) (λ e. tt))

      truncate_run : (path p : ℕ) → W (truncate_at page path p end)
      unfolding truncate_at
      truncate_run path p = all_bind W _ _ (all_eq W _ _ _ _ (λ e. tt) (λ e. tt))

      write_run : (path p : ℕ) → W (write_at limit g page path p end)
      unfolding write_at well_formed
      write_run path p = all_bind W _ _ (all_bind W _ _ (all_bind W _ _ (all_bind W _ _ (all_bind W _ _
          (all_less W _ _ _ _ (λ h. tt) (λ (h : past b (p + 14) + 4 ≤ end).
          all_eq W _ _ _ _ (λ z. tt) (λ (z : u16 b (p + 4) ≡ 0 → ⊥).
          all_less W _ _ _ _ (λ o. tt) (λ o.
          all_true W _ _ _ (λ t. good_run_lem _ (page.address + (past b (p + 14) + 4)) (end - (past b (p + 14) + 4)) t
          (λ i q c. own _ (past b (p + 14) + 4) i q (omega arith) (omega arith)))
          (λ t. tt)))))))))

      wstat_run : (path p : ℕ) → W (wstat_at page path p end)
      unfolding wstat_at well_formed
      wstat_run path p = all_bind W _ _ (all_bind W _ _ (all_bind W _ _ (all_bind W _ _ (all_bind W _ _
          (all_eq W _ _ _ _ (λ e. all_true W _ _ _ (λ t. tt) (λ t. tt)) (λ e. tt))))))

      typed_run : (at : ℕ) → W (typed limit g page at end)
      unfolding typed
      typed_run at = all_bind W _ _ (all_bind W _ _
          (all_eq W _ _ _ _ (λ e. create_run _ (at + 7))
          (λ e. all_eq W _ _ _ _ (λ e. remove_run _ (at + 7))
          (λ e. all_eq W _ _ _ _ (λ e. truncate_run _ (at + 7))
          (λ e. all_eq W _ _ _ _ (λ e. write_run _ (at + 7))
          (λ e. all_eq W _ _ _ _ (λ e. wstat_run _ (at + 7))
          (λ e. tt)))))))

    parse_run : (at : ℕ) → W (parse limit g page at)
    unfolding parse
    parse_run at = all_less W _ _ _ _
        (λ h. all_eq W _ _ _ _ (λ e. tt) (λ e. all_bind W _ _
        (all_less W _ _ _ _ (λ s. tt) (λ s. all_less W _ _ _ _ (λ o. tt)
        (λ (o : at + 3 + u16 page.bytes (at + 1) ≤ length page.bytes). typed_run (at + 3 + u16 page.bytes (at + 1)) o at)))))
        (λ h. tt)

-- ---- the blocks that are replayed

-- byte `off` of page j of block k
module _ (g : Geometry) (k j off : ℕ) (page : j < g.pages) (inside : off < g.size) where
  place : address_of g k j 0 + off ≡ k * block_size g + (j * g.size + off)
  unfolding address_of block_size
  place =
      let s : (k * g.pages + j) * g.size ≡ k * (g.size * g.pages) + j * g.size =
      add-mul (k * g.pages) j g.size ∙ ap (λ (z : ℕ). z + j * g.size) (mul_assoc k g.pages g.size ∙ ap (λ (z : ℕ). k * z) (mul_comm g.pages g.size)) in
      omega (arith, s)

  in_block : j * g.size + off < block_size g
  in_block = omega (arith, page_in g j page)

  pub page_block : (address_of g k j 0 + off) / block_size g ≡ k
  page_block = ap (λ (z : ℕ). z / block_size g) place ∙ digits_div k in_block

  pub page_offset : (address_of g k j 0 + off) % block_size g ≡ j * g.size + off
  page_offset = ap (λ (z : ℕ). z % block_size g) place ∙ digits_mod k in_block

empty_part : (p s : ℕ) → length {A = ℕ} (take s (drop p [])) ≡ 0
empty_part zero zero = refl
empty_part zero (suc s) = refl
empty_part (suc p) zero = refl
empty_part (suc p) (suc s) = refl

module _ (g : Geometry) (m : Image) where
  blocks_are : (b : LogBlock) (k count : ℕ) → In b (log_blocks g m k count) → (last : Bool) × (i : ℕ) × (b ≡ log_block g m last i)
  unfolding log_blocks
  blocks_are b k zero h = absurd h
  blocks_are b k (suc count) h = ⊎_elim (λ (e : b ≡ log_block g m (eqb count 0) k). (eqb count 0, k, e)) (λ u. blocks_are b (k + 1) count u) h

  replayed_are : (b : LogBlock) → In b (replayed g m) → (last : Bool) × (i : ℕ) × (b ≡ log_block g m last i)
  unfolding replayed planned
  replayed_are b h = ⊎_elim (λ u. blocks_are b _ _ u) (λ u. blocks_are b _ _ u) (in_split b (log_blocks g m 0 _) (log_blocks g m _ _) h)

  abbrev r : ℕ → ℕ
  r k = log_r k (generation_at (log_plan g.blocks m.labels) k)

  generation_low : (k : ℕ) → generation_at (log_plan g.blocks m.labels) k < 4
  unfolding generation_at log_plan plan_of plan_from
  generation_low k = all_less (λ (x : ℕ). x < 4) _ _ _ _ (λ h. successor_below _) (λ h. generation_below g.blocks (view g.blocks m.labels Log))

  number_is : (k : ℕ) → log_number (r k) ≡ k
  number_is k = (r_parts k _ (generation_low k)).0

  -- a page that is not empty has its block
  there : (k j : ℕ) → 0 < length (page_of g (bytes_at m (find_log g.blocks m.labels k)) j) → (i : ℕ) × (find_log g.blocks m.labels k ≡ some i)
  unfolding page_of bytes_at on_some
  there k j h = go (find_log g.blocks m.labels k) refl
    where
      go : (o : Option ℕ) → find_log g.blocks m.labels k ≡ o → (i : ℕ) × (find_log g.blocks m.labels k ≡ some i)
      go (some i) e = (i, e)
      go none e = absurd (omega (arith, empty_part (j * g.size) g.size, ap (λ (o : Option ℕ). length (page_of g (bytes_at m o) j)) e))

  numbers_low : Passed g m → (k i : ℕ) → find_log g.blocks m.labels k ≡ some i → k ≤ 4095
  unfolding find_log find
  numbers_low p k i e =
      let f = first_some g.blocks _ i e in
      omega (arith, numbered g m p i (r k) f.0 f.1, number_is k)

  page_short : (b : List ℕ) (j : ℕ) → length (page_of g b j) ≤ g.size
  unfolding page_of
  page_short b j = omega (arith, length-take g.size (drop (j * g.size) b))

  module _ (l : Lent) (fit : fits g l ≡ true) (passed : Passed g m) where
    own_run : (b : LogBlock) → In b (replayed g m) → (j : ℕ) → j < g.pages → (e : Extent) (off : ℕ) → 2 ^ 31 ≤ e.address
        → e.address - 2 ^ 31 ≡ (log_page g b j).address + off → 0 < e.count → off + e.count ≤ length (log_page g b j).bytes → Held g m.labels e
    unfolding log_page log_block
    own_run b h j page e off in_log_lem q more ends =
        let u = replayed_are b h in
        let k : ℕ = u.1 in
        let z = u.2 in
        let n : length (page_of g (bytes_at m (find_log g.blocks m.labels k)) j) ≡ length (page_of g b.bytes j) =
        ap (λ (c : LogBlock). length (page_of g c.bytes j)) (sym z) in
        let t = there k j (omega arith) in
        let s : off < g.size = omega (arith, page_short b.bytes j) in
        let v : pieces.bare e.address ≡ address_of g k j 0 + off =
        bare_high e.address in_log_lem ∙ q ∙ ap (λ (c : LogBlock). address_of g (log_number c.r) j 0 + off) z ∙ ap (λ (c : ℕ). address_of g c j 0 + off) (number_is k) in
        let d : pieces.bare e.address / block_size g ≡ k = ap (λ (c : ℕ). c / block_size g) v ∙ page_block g k j off page s in
        let o : pieces.bare e.address % block_size g ≡ j * g.size + off = ap (λ (c : ℕ). c % block_size g) v ∙ page_offset g k j off page s in
        record {
          whole = omega (arith, page_in g j page, page_short b.bytes j);
          small = omega (arith, numbers_low passed k t.0 t.1);
          kept = λ i. subst (λ (c : ℕ). T (is_some (find_log g.blocks m.labels c))) (sym d) (some_is _ t.1);
        }

    -- "a run that leaves its block" is malformed, and embedded data stands in its message's page
    pub replay_held : (t : Tree) → replay (log_of g (replayed g m)) ≡ ok t → All (Held g m.labels) t.extents
    unfolding bare
    replay_held t e = replay_keeps (λ fs xs. All (Held g m.labels) xs) (Run g l fit m.labels) (keeps g l fit m.labels) (log_of g (replayed g m)) t
        (log_all (Run g l fit m.labels) g (replayed g m) (λ b i j k h.
        parse_run g l fit m.labels (embedded_limit g) (log_page g b j) (own_run b i j h) k)) tt e
