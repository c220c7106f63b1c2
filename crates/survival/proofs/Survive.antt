-- Demand 3 on images: an image that mounts, in which blocks that are not needed have lost their labels or their bytes, mounts
-- again and shows the same.
use mathlib.Core.Path.{◌≡◌, refl, sym, ap, ap₂, ◌∙◌, subst, subst₂, fun_ext}
use mathlib.Core.Logic.{◌≢◌, ◌⊎◌, inl, inr, ⊎_elim}
use mathlib.Core.Bool.{Bool, true, false, not, ◌&&◌, ◌||◌}
use mathlib.Core.Option.{Option, none, some}
use mathlib.Core.List.{List, [], ◌∷◌, ◌++◌}
use Prim.Native.Nat.{ℕ, zero, suc, ◌+◌, ◌-◌, ◌*◌, ◌/◌, ◌%◌, ◌^◌, ◌≤◌, ◌<◌}
use native.Mathlib.Omega.{arith}
use native.Mathlib.Nat.{div-add-mod', mod-lt, div-lt_iff_lt-mul, mul_comm, mul-pos}
use lib.ListN.{get_or}
use lib.Dec.{T, eqb, ltb, leb, lt→ltb, leb→le, le→leb}
use Rattle.base.specs.Choice.{if_true, is_some, on_some, test, or_else, provided, or_zero}
use Rattle.base.specs.Scan.{any, first, places}
use Rattle.base.specs.Member.{All, In}
use Rattle.base.proofs.Tests.{T-yes, T-not→, →T_not, T-dec, not_both, and_i, or_r, or_cases, lt_or, zero_one, tests, makes}
use Rattle.base.proofs.Lists.{any_in}
use Rattle.base.proofs.Scans.{any_intro, first_some, first_none, first_none_intro}
use Rattle.base.proofs.Choices.{all_true, or_else_l, or_else_r, or_else_i, provided_none, →provided_none}
use Rattle.meaning.specs.declared.Geometry.{Geometry}
use Rattle.meaning.specs.declared.Block.{Block}
use Rattle.meaning.specs.declared.Tag.{Tag}
use Rattle.meaning.specs.declared.Tag.TheVariants.{Free, Boot, Log, Data}
use Rattle.meaning.specs.declared.Refusal.{Refusal}
use Rattle.meaning.specs.declared.Refusal.TheVariants as refused
use Rattle.meaning.specs.declared.Extent.{Extent}
use Rattle.meaning.specs.Answer.{Answer, ok, no, unless, and_then, lowest}
use Rattle.meaning.specs.Flash.{Image, Labels, block_size, address_of, begins, byte_of, same_tag, r_of, log_r, block_number, bad_tag, bad_path}
use Rattle.meaning.specs.Labels.{older, view, is, find, has, boot_gap, plan_of, plan_from, dropped, bad_log, log_plan, generation_at, find_log, find_data, label_refusal}
use Rattle.meaning.specs.Message.{in_log}
use Rattle.meaning.specs.Log.{LogBlock, bytes_at, log_block, log_blocks, planned, replayed, log_of, insertion}
use Rattle.meaning.specs.Replay.{spot, start, end, replay}
use Rattle.meaning.specs.Mount.{in_data, touches, used, idle, lacks, absent, is_dropped, is_idle, to_erase, erase_list, Mounted, shown, mount, covers, where_is, log_bytes, data_bytes, byte_in, byte_at, file_byte}
use Rattle.survival.proofs.Live.{Clean, clean_of, →unresolved, Counts, counts→, →counts, Newest, newest_of, Damaged, stays, free_or_stays, not_free, →not_same_tag, clean_back, same_view}
use Rattle.survival.proofs.LogFacts.{Passing, passing→, and_cong, same_plan, good_again, →has, is_ext, find_cong, generation_below, replayed_kept}

-- ---- what an accepted mount says

pub unless_ok : {A : Type 0} (o : Option Refusal) (x : Answer A) (a : A) → unless o x ≡ ok a → (o ≡ none) × (x ≡ ok a)
unfolding unless
unless_ok none x a e = (refl, e)
unless_ok (some r) x a e = absurd (zero_one (cc))

pub and_then_ok : {A B : Type 0} (x : Answer A) (k : A → Answer B) (b : B) → and_then x k ≡ ok b → (a : A) × (x ≡ ok a) × (k a ≡ ok b)
unfolding and_then
and_then_ok (ok a) k b e = (a, refl, e)
and_then_ok (no r) k b e = absurd (zero_one (cc))

pub record Accepted (g : Geometry) (m : Image) (a : Mounted) : Type 0 where
  pub labels : label_refusal g.blocks m.labels ≡ none
  pub there : absent g m.labels a.tree.extents ≡ none
  pub listed : a.erase ≡ places g.blocks (to_erase g m.labels a.tree.extents)
  pub inserts : a.insert ≡ insertion g (replayed g m)
  pub replayed : replay (log_of g (replayed g m)) ≡ ok a.tree

pub accepted→ : (g : Geometry) (m : Image) (a : Mounted) → mount g m ≡ ok a → Accepted g m a
unfolding mount shown erase_list
accepted→ g m a e =
    let u = unless_ok _ _ a e in
    let v = and_then_ok _ _ a u.1 in
    let w = unless_ok _ _ a v.2 in
    let s : shown g m v.0 ≡ a = cc in
    subst (Accepted g m) s (record { labels = u.0; replayed = v.1; there = w.0; listed = refl; inserts = refl })

pub →accepted : (g : Geometry) (m : Image) (a : Mounted) → Accepted g m a → mount g m ≡ ok a
unfolding mount shown erase_list unless and_then
→accepted g m a c = rw (c.labels, c.replayed, c.there)
    (ap ok (λ i. record { tree = a.tree; erase = sym c.listed i; insert = sym c.inserts i }))

-- ---- what the labels of an accepted mount have passed

pub lowest_none : (r : Block → Refusal) (n : ℕ) (bad : ℕ → Bool) → lowest r n bad ≡ none → (i : ℕ) → i < n → T (bad i) → ⊥
unfolding lowest on_some
lowest_none r n bad e = first_none n bad (go (first n bad) e)
  where
    go : (o : Option ℕ) → on_some o none (λ i. some (r (record { 0 = i }))) ≡ none → o ≡ none
    go none q = refl
    go (some i) q = absurd (zero_one (cc))

pub lowest_intro : (r : Block → Refusal) (n : ℕ) (bad : ℕ → Bool) → ((i : ℕ) → i < n → T (bad i) → ⊥) → lowest r n bad ≡ none
unfolding lowest on_some
lowest_intro r n bad f = rw (first_none_intro n bad f)

pub record Passed (g : Geometry) (m : Image) : Type 0 where
  pub tags : (i : ℕ) → i < g.blocks → T (bad_tag (m.labels.tag i)) → ⊥
  pub paths : (i : ℕ) → i < g.blocks → T (bad_path (m.labels.tag i) (m.labels.path i)) → ⊥
  pub clean : Clean g.blocks m.labels
  pub boot : T (boot_gap g.blocks (view g.blocks m.labels Boot)) → ⊥
  pub log : T (bad_log g.blocks (view g.blocks m.labels Log) (log_plan g.blocks m.labels)) → ⊥

pub passed→ : (g : Geometry) (m : Image) → label_refusal g.blocks m.labels ≡ none → Passed g m
unfolding label_refusal
passed→ g m e =
    let e3 = or_else_r _ _ e in
    let e4 = or_else_r _ _ e3 in
    let e5 = or_else_r _ _ e4 in
    record {
      tags = lowest_none _ _ _ (or_else_l _ _ e);
      paths = lowest_none _ _ _ (or_else_l _ _ e3);
      clean = clean_of g.blocks m.labels (lowest_none _ _ _ (or_else_l _ _ e4));
      boot = provided_none _ _ (or_else_l _ _ e5);
      log = provided_none _ _ (or_else_r _ _ e5);
    }

pub →passed : (g : Geometry) (m : Image) → Passed g m → label_refusal g.blocks m.labels ≡ none
unfolding label_refusal
→passed g m p =
    or_else_i _ _ (lowest_intro _ _ _ p.tags)
    (or_else_i _ _ (lowest_intro _ _ _ p.paths)
    (or_else_i _ _ (lowest_intro _ _ _ (→unresolved g.blocks m.labels p.clean))
    (or_else_i _ _ (→provided_none _ _ p.boot) (→provided_none _ _ p.log))))

-- the number of a block that counts is one that refusal 3 lets pass
pub number_small : (g : Geometry) (m : Image) → Passed g m → (t : Tag) (r i : ℕ) → t ≢ Free → Counts g.blocks m.labels t r i
    → block_number t (m.labels.path i) ≤ 4095
unfolding bad_path
number_small g m p t r i f c = ⊎_elim
    (λ (h : 4095 < block_number t path).
    let b : T (bad_path t path) = and_i (not (same_tag t Free)) (leb (2 ^ 34) path || ltb 4095 (block_number t path)) (→not_same_tag t Free f)
    (or_r (leb (2 ^ 34) path) (ltb 4095 (block_number t path)) (lt→ltb _ _ h)) in
    absurd (p.paths i c.below (subst (λ (s : Tag). T (bad_path s path)) (sym c.tag) b)))
    (λ (h : block_number t path ≤ 4095). h)
    (lt_or 4095 (block_number t path))
  where
    path : ℕ
    path = m.labels.path i

-- ---- a live block that is needed is not on the erase list

module _ (g : Geometry) (m : Image) (xs : List Extent) where
  -- a block that counts is on the erase list only as a dropped or an idle one
  listed : (t : Tag) (r i : ℕ) → Counts g.blocks m.labels t r i → T (to_erase g m.labels xs i)
      → ((t ≡ Log) × T (dropped (log_plan g.blocks m.labels) r)) ⊎ ((t ≡ Data) × T (idle g xs r))
  unfolding to_erase is_dropped is_idle
  listed t r i c e =
      ⊎_elim (λ (o : T (older g.blocks m.labels i)). absurd (c.newest o))
      (λ s. ⊎_elim (λ u. inl (passes Log (dropped (log_plan g.blocks m.labels)) u)) (λ u. inr (passes Data (idle g xs) u))
      (or_cases (is_dropped g.blocks m.labels i) (is_idle g m.labels xs i) s))
      (or_cases (older g.blocks m.labels i) (is_dropped g.blocks m.labels i || is_idle g m.labels xs i) e)
    where
      passes : (s : Tag) (q : ℕ → Bool) → T (test q (view g.blocks m.labels s i)) → (t ≡ s) × T (q r)
      passes s q u =
          let p : Passing q (view g.blocks m.labels s i) = passing→ q _ u in
          let k : Counts g.blocks m.labels s p.value i = counts→ g.blocks m.labels s p.value i p.at in
          (sym c.tag ∙ k.tag, subst (λ (x : ℕ). T (q x)) (sym k.r ∙ c.r) p.passes)

  pub keep_boot : (r i : ℕ) → Counts g.blocks m.labels Boot r i → T (to_erase g m.labels xs i) → ⊥
  keep_boot r i c e =
      ⊎_elim (λ s. let q : Boot ≡ Log = s.0 in zero_one (cc)) (λ s. let q : Boot ≡ Data = s.0 in zero_one (cc)) (listed Boot r i c e)

  pub keep_log : (r i : ℕ) → Counts g.blocks m.labels Log r i → (T (dropped (log_plan g.blocks m.labels) r) → ⊥)
      → T (to_erase g m.labels xs i) → ⊥
  keep_log r i c f e = ⊎_elim (λ s. f s.1) (λ s. let q : Log ≡ Data = s.0 in zero_one (cc)) (listed Log r i c e)

  pub keep_data : (r i : ℕ) → Counts g.blocks m.labels Data r i → (T (idle g xs r) → ⊥) → T (to_erase g m.labels xs i) → ⊥
  keep_data r i c f e = ⊎_elim (λ s. let q : Data ≡ Log = s.0 in zero_one (cc)) (λ s. f s.1) (listed Data r i c e)

-- ---- an extent's bytes lie on used pages

page_bounds : (address a count size pages k o q x : ℕ) → address ≤ a → a < address + count
    → k * (size * pages) + o ≡ a → q * size + x ≡ o → x < size
    → (address < (k * pages + (q + 1)) * size + 0) × ((k * pages + q) * size + 0 < address + count)
page_bounds address a count size pages k o q x lo hi e1 e2 e3 = omega arith

-- the page at a data address of an extent is used
pub byte_used : (g : Geometry) (xs : List Extent) (e : Extent) (a : ℕ) → 0 < g.size → In e xs → T (in_data e)
    → e.address ≤ a → a < e.address + e.count → T (used g xs (a / block_size g) (a % block_size g / g.size))
unfolding used touches address_of block_size
byte_used g xs e a sp am dt lo hi =
    let k : ℕ = a / (g.size * g.pages) in
    let o : ℕ = a % (g.size * g.pages) in
    let b = page_bounds e.address a e.count g.size g.pages k o (o / g.size) (o % g.size) lo hi
    (div-add-mod' a (g.size * g.pages)) (div-add-mod' o g.size) (mod-lt o sp) in
    any_in (touches g k (o / g.size)) xs e am (search (makes, b.0, b.1))

pub not_idle : (g : Geometry) (xs : List Extent) (d o : ℕ) → 0 < g.size → o < block_size g → T (used g xs d (o / g.size)) → T (idle g xs d) → ⊥
unfolding idle block_size
not_idle g xs d o sp h u t =
    let q : o / g.size < g.pages = (div-lt_iff_lt-mul sp).1 (subst (λ (x : ℕ). o < x) (mul_comm g.size g.pages) h) in
    T-not→ (any g.pages (used g xs d)) t (any_intro g.pages (used g xs d) (o / g.size) q u)

-- ---- two images that agree on what the files need

pub record Same (g : Geometry) (m m' : Image) (xs : List Extent) : Type 0 where
  pub plan : log_plan g.blocks m'.labels ≡ log_plan g.blocks m.labels
  pub places : (k : ℕ) → find_log g.blocks m'.labels k ≡ find_log g.blocks m.labels k
  pub log : (k : ℕ) → log_bytes g m' k ≡ log_bytes g m k
  pub there : (d : ℕ) → (T (idle g xs d) → ⊥) → is_some (find_data g.blocks m'.labels d) ≡ is_some (find_data g.blocks m.labels d)
  pub byte : (d o : ℕ) → o < block_size g → T (used g xs d (o / g.size)) → get_or (data_bytes g m' d) o 0 ≡ get_or (data_bytes g m d) o 0

else_cong : {A : Type 0} (b : Bool) {x y x' y' : A} → x ≡ x' → (b ≡ false → y ≡ y') → if_true b x y ≡ if_true b x' y'
unfolding if_true
else_cong true e f = e
else_cong false e f = f refl

module _ (g : Geometry) (m m' : Image) (xs : List Extent) (s : Same g m m' xs) (sz : 0 < g.size) (pp : 0 < g.pages) where
  block_same : (last : Bool) (k : ℕ) → log_block g m' last k ≡ log_block g m last k
  unfolding log_block log_bytes
  block_same last k = λ i. record {
    r = log_r k (generation_at (s.plan i) k);
    last = last;
    begin = begins g (or_zero (s.places k i));
    bytes = s.log k i;
  }

  blocks_same : (k count : ℕ) → log_blocks g m' k count ≡ log_blocks g m k count
  unfolding log_blocks
  blocks_same k zero = refl
  blocks_same k (suc count) = ap₂ ◌∷◌ (block_same (eqb count 0) k) (blocks_same (k + 1) count)

  logs_same : replayed g m' ≡ replayed g m
  unfolding replayed planned
  logs_same = rw s.plan (ap₂ ◌++◌ (blocks_same 0 _) (blocks_same _ _))

  bsp : 0 < block_size g
  unfolding block_size
  bsp = mul-pos sz pp

  low : (e : Extent) (a : ℕ) → e.address ≤ a → in_log a ≡ false → T (in_data e)
  unfolding in_data in_log
  low e a lo q = →T_not (leb (2 ^ 31) e.address) (λ t.
      not_both (leb (2 ^ 31) a) q (le→leb (2 ^ 31) a (omega (arith, leb→le (2 ^ 31) e.address t, lo))))

  byte_same : (e : Extent) (a : ℕ) → In e xs → e.address ≤ a → a < e.address + e.count → byte_at g m' a ≡ byte_at g m a
  unfolding byte_at byte_in
  byte_same e a am lo hi = else_cong (in_log a)
      (ap (λ (b : List ℕ). get_or b ((a - 2 ^ 31) % block_size g) 0) (s.log ((a - 2 ^ 31) / block_size g)))
      (λ q. s.byte (a / block_size g) (a % block_size g) (mod-lt a bsp) (byte_used g xs e a sz am (low e a lo q) lo hi))

  bytes_same : (es : List Extent) → ((x : Extent) → In x es → In x xs) → (p i : ℕ) → file_byte g m' es p i ≡ file_byte g m es p i
  unfolding file_byte where_is covers end on_some
  bytes_same [] sub p i = refl
  bytes_same (e ∷ es) sub p i =
      all_true (λ (o : Option ℕ). on_some o 0 (byte_at g m') ≡ on_some o 0 (byte_at g m)) (covers (spot p i) e) _ (where_is es p i)
      (λ q.
      let c : T (leb (start e) (spot p i) && ltb (spot p i) (start e + e.count)) = T-yes _ q in
      let lo : start e ≤ spot p i = search tests in
      let hi : spot p i < start e + e.count = search tests in
      byte_same e (e.address + (spot p i - start e)) (sub e (inl refl)) (omega arith) (omega arith))
      (λ q. bytes_same es (λ x h. sub x (inr h)) p i)

  lacks_same : (e : Extent) → In e xs → 0 < e.count → lacks g m'.labels e ≡ lacks g m.labels e
  unfolding lacks
  lacks_same e am h = and_cong (in_data e) _ _ (λ t.
      let u = byte_used g xs e e.address sz am t (omega arith) (omega arith) in
      ap not (s.there (e.address / block_size g) (not_idle g xs (e.address / block_size g) (e.address % block_size g) sz (mod-lt e.address bsp) u)))

  absent_same : (es : List Extent) → All (λ (x : Extent). 0 < x.count) es → ((x : Extent) → In x es → In x xs)
      → absent g m'.labels es ≡ absent g m.labels es
  unfolding absent
  absent_same [] ps sub = refl
  absent_same (e ∷ es) ps sub =
      ap₂ (λ (b : Bool) (o : Option Refusal). or_else (provided b (refused.Data e.path)) o)
      (lacks_same e (sub e (inl refl)) ps.0) (absent_same es ps.1 (λ x h. sub x (inr h)))

-- m' mounts and shows what m shows
pub record ShowsImage (g : Geometry) (m m' : Image) (a : Mounted) : Type 0 where
  pub answer : Mounted
  pub accepted : mount g m' ≡ ok answer
  pub tree : answer.tree ≡ a.tree
  pub insert : answer.insert ≡ a.insert
  pub logs : replayed g m' ≡ replayed g m
  pub bytes : (p i : ℕ) → file_byte g m' a.tree.extents p i ≡ file_byte g m a.tree.extents p i

pub shows_of : (g : Geometry) (m : Image) (a : Mounted) (m' : Image) → 0 < g.size → 0 < g.pages
    → All (λ (x : Extent). 0 < x.count) a.tree.extents → mount g m ≡ ok a → Passed g m' → Same g m m' a.tree.extents → ShowsImage g m m' a
shows_of g m a m' sz pp pos e p s =
    let c : Accepted g m a = accepted→ g m a e in
    let xs : List Extent = a.tree.extents in
    let logs : replayed g m' ≡ replayed g m = logs_same g m m' xs s sz pp in
    let b : Mounted = record { tree = a.tree; erase = places g.blocks (to_erase g m'.labels xs); insert = insertion g (replayed g m') } in
    record {
      answer = b;
      accepted = →accepted g m' b (record {
        labels = →passed g m' p;
        replayed = ap (λ (ls : List LogBlock). replay (log_of g ls)) logs ∙ c.replayed;
        there = absent_same g m m' xs s sz pp xs pos (λ x h. h) ∙ c.there;
        listed = refl;
        inserts = refl;
      });
      tree = refl;
      insert = ap (insertion g) logs ∙ sym c.inserts;
      logs = logs;
      bytes = bytes_same g m m' xs s sz pp xs (λ x h. h);
    }

-- ---- blocks that are not needed

-- E holds no block that is needed to show xs
pub record Spare (g : Geometry) (m : Image) (xs : List Extent) (E : ℕ → Bool) : Type 0 where
  pub boot : (r i : ℕ) → Counts g.blocks m.labels Boot r i → T (E i) → ⊥
  pub log : (r i : ℕ) → Counts g.blocks m.labels Log r i → (T (dropped (log_plan g.blocks m.labels) r) → ⊥) → T (E i) → ⊥
  pub data' : (r i : ℕ) → Counts g.blocks m.labels Data r i → (T (idle g xs r) → ⊥) → T (E i) → ⊥

pub erase_spare : (g : Geometry) (m : Image) (xs : List Extent) → Spare g m xs (to_erase g m.labels xs)
erase_spare g m xs = record { boot = keep_boot g m xs; log = keep_log g m xs; data' = keep_data g m xs }

-- where the same place is found, and what counts has kept its bytes, the same bytes are found
pub bytes_found : (n : ℕ) (m m' : Image) (t : Tag) (r : ℕ) → find n (view n m'.labels t) r ≡ find n (view n m.labels t) r
    → ((i : ℕ) → Counts n m.labels t r i → m'.bytes i ≡ m.bytes i)
    → bytes_at m' (find n (view n m'.labels t) r) ≡ bytes_at m (find n (view n m.labels t) r)
unfolding bytes_at on_some find
bytes_found n m m' t r e f = ap (bytes_at m') e ∙ go (first n (λ i. is (view n m.labels t i) r)) refl
  where
    go : (o : Option ℕ) → first n (λ i. is (view n m.labels t i) r) ≡ o → bytes_at m' o ≡ bytes_at m o
    go none q = refl
    go (some i) q = f i (counts→ n m.labels t r i (first_some n _ i q).1)

pub generation_small : (n : ℕ) (m : Labels) → (log_plan n m).generation < 4
unfolding log_plan plan_of plan_from
generation_small n m = generation_below n (view n m Log)

module _ (g : Geometry) (m : Image) (xs : List Extent) (E : ℕ → Bool) (m' : Image) (p : Passed g m) (sp : Spare g m xs E) (d : Damaged E m m') where
  abbrev n : ℕ
  n = g.blocks

  abbrev l : Labels
  l = m.labels

  abbrev l' : Labels
  l' = m'.labels

  boot_view : view n l' Boot ≡ view n l Boot
  boot_view = fun_ext (λ i. is_ext _ _ (λ r. same_view E m m' d n p.clean Boot r not_free.0 (sp.boot r) i))

  log_agree : (r : ℕ) → (T (dropped (log_plan n l) r) → ⊥) → (i : ℕ) → is (view n l' Log i) r ≡ is (view n l Log i) r
  log_agree r f = same_view E m m' d n p.clean Log r not_free.1 (λ i c. sp.log r i c f)

  -- a log block that counts now was there before, as the newest copy or the older one
  log_back : (i r : ℕ) → i < n → T (is (view n l' Log i) r) → T (has n (view n l Log) r)
  log_back i r h s =
      let c : Counts n l' Log r i = counts→ n _ Log r i s in
      let a = stays E m m' d i (λ e. not_free.1 (sym c.tag ∙ e)) in
      let ti : l.tag i ≡ Log = sym a.0 ∙ c.tag in
      let ri : r_of (l.path i) ≡ r = sym (ap r_of a.1) ∙ c.r in
      ⊎_elim
      (λ (o : T (older n l i)).
      let w : Newest n l i = newest_of n l p.clean i h o in
      let k : Counts n l Log r w.place =
      record { below = w.counts.below; tag = w.counts.tag ∙ ti; r = w.counts.r ∙ ri; newest = w.counts.newest } in
      →has _ _ r w.place k.below (→counts n l Log r w.place k))
      (λ (f : T (older n l i) → ⊥). →has _ _ r i h (→counts n l Log r i (record { below = h; tag = ti; r = ri; newest = f })))
      (T-dec (older n l i))

  pub plan_same : log_plan n l' ≡ log_plan n l
  unfolding log_plan
  plan_same = same_plan n (view n l Log) (view n l' Log) p.log log_agree log_back

  log_good : T (bad_log n (view n l' Log) (log_plan n l')) → ⊥
  unfolding log_plan
  log_good = good_again n (view n l Log) (view n l' Log) p.log log_agree log_back

  pub passed_again : Passed g m'
  unfolding bad_tag bad_path same_tag byte_of
  passed_again = record {
    tags = λ i h t. ⊎_elim (λ e. subst (λ (x : Tag). T (bad_tag x)) e t) (λ a. p.tags i h (subst (λ (x : Tag). T (bad_tag x)) a.0 t))
        (free_or_stays E m m' d i);
    paths = λ i h t. ⊎_elim (λ e. subst (λ (x : Tag). T (bad_path x (l'.path i))) e t)
        (λ a. p.paths i h (subst₂ (λ (x : Tag) (y : ℕ). T (bad_path x y)) a.0 a.1 t)) (free_or_stays E m m' d i);
    clean = clean_back E m m' d n p.clean;
    boot = subst (λ (v : ℕ → Option ℕ). T (boot_gap n v) → ⊥) (sym boot_view) p.boot;
    log = log_good;
  }

  -- the replayed blocks

  log_kept : (k : ℕ) → T (dropped (log_plan n l) (log_r k (generation_at (log_plan n l) k))) → ⊥
  log_kept k = replayed_kept (log_plan n l) k (generation_small n l)

  place_same : (k : ℕ) → find_log n l' k ≡ find_log n l k
  unfolding find_log
  place_same k = rw plan_same (find_cong n _ _ _ (log_agree _ (log_kept k)))

  log_same : (k : ℕ) → log_bytes g m' k ≡ log_bytes g m k
  unfolding log_bytes find_log
  log_same k = rw plan_same
      (bytes_found n m m' Log _ (find_cong n _ _ _ (log_agree _ (log_kept k))) (λ i c. (d.kept i (sp.log _ i c (log_kept k))).2))

  -- the data blocks that are needed

  find_same : (k : ℕ) → (T (idle g xs k) → ⊥) → find_data n l' k ≡ find_data n l k
  unfolding find_data
  find_same k ni = find_cong n _ _ k (same_view E m m' d n p.clean Data k not_free.2 (λ i c. sp.data' k i c ni))

  data_same : (k : ℕ) → (T (idle g xs k) → ⊥) → data_bytes g m' k ≡ data_bytes g m k
  unfolding data_bytes find_data
  data_same k ni = bytes_found n m m' Data k (find_same k ni) (λ i c. (d.kept i (sp.data' k i c ni)).2)

  same : 0 < g.size → Same g m m' xs
  same sz = record {
    plan = plan_same;
    places = place_same;
    log = log_same;
    there = λ k ni. ap is_some (find_same k ni);
    byte = λ k o h u. ap (λ (x : List ℕ). get_or x o 0) (data_same k (not_idle g xs k o sz h u));
  }

-- ---- demand 3

-- whatever spare blocks have lost their label, and whatever bytes they hold
pub spare_shows : (g : Geometry) (m : Image) (a : Mounted) (E : ℕ → Bool) (m' : Image) → 0 < g.size → 0 < g.pages
    → All (λ (x : Extent). 0 < x.count) a.tree.extents → mount g m ≡ ok a → Spare g m a.tree.extents E → Damaged E m m' → ShowsImage g m m' a
spare_shows g m a E m' sz pp pos e sp d =
    let p : Passed g m = passed→ g m (accepted→ g m a e).labels in
    shows_of g m a m' sz pp pos e (passed_again g m a.tree.extents E m' p sp d) (same g m a.tree.extents E m' p sp d sz)

-- and so for the blocks of the erase list
pub damaged_shows : (g : Geometry) (m : Image) (a : Mounted) (m' : Image) → 0 < g.size → 0 < g.pages
    → All (λ (x : Extent). 0 < x.count) a.tree.extents → mount g m ≡ ok a
    → Damaged (to_erase g m.labels a.tree.extents) m m' → ShowsImage g m m' a
damaged_shows g m a m' sz pp pos e d = spare_shows g m a _ m' sz pp pos e (erase_spare g m a.tree.extents) d
