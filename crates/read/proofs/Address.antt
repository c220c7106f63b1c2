-- What stands at an address and at those after it, up to its block's end.
use Prim.Native.Nat.{ℕ, suc, ◌+◌, ◌-◌, ◌*◌, ◌/◌, ◌%◌, ◌^◌, ◌≤◌, ◌<◌, min}
use mathlib.Core.Path.{◌≡◌, refl, sym, ap, subst, ◌∙◌}
use mathlib.Core.Bool.{true, ◌||◌}
use mathlib.Core.Logic.{⊎_elim}
use mathlib.Core.Option.{Option, none, some}
use mathlib.Core.List.{List}
use native.Mathlib.Omega.{arith}
use native.Mathlib.Nat.{div-add-mod', div-le_self, mod-lt, mul-le-mul_right}
use lib.Arith.{digits_div, digits_mod}
use lib.Dec.{T, eqb, eqb→eq, leb, le→leb, leb→le}
use lib.ListN.{length, get_or, take, drop, replicate}
use lib.Seq.{get_or-take, get_or-drop}
use Rattle.std.specs.Prelude as std
use Rattle.std.specs.Prelude.{Some, None}
use Rattle.base.specs.Choice.{on_some}
use Rattle.base.proofs.Choices.{if_yes, if_no, less_yes, less_no}
use Rattle.base.proofs.Scans.{first_some}
use Rattle.base.proofs.Tests.{T-yes, or_cases, lt_or, tests}
use Rattle.meaning.specs.declared.Geometry.{Geometry}
use Rattle.meaning.specs.Flash.{Lent, Image, Labels, block_size, begins, fits, good_geometry, good_size, good_pages, image_of, labels_of, log_r}
use Rattle.meaning.specs.declared.Block.{Block}
use Rattle.meaning.specs.declared.Plan.{Plan}
use Rattle.meaning.specs.declared.Tag.TheVariants.{Log}
use Rattle.meaning.specs.Labels.{find, find_data, find_log, view, generation_at}
use Rattle.meaning.specs.Message.{in_log}
use Rattle.meaning.specs.Log.{bytes_at}
use Rattle.meaning.specs.Mount.{byte_at, byte_in, log_bytes, data_bytes}
use Rattle.label.specs.Search.{found}
use Rattle.label.proofs.Answered.{nothing_none, at_some}
use Rattle.flash_log.specs.Cursor.{Ready}
use Rattle.flash_log.proofs.Sizes.{Sizes, sizes, block_in, block_size_high, contents_low}
use Rattle.read.specs.Pieces.{bare, place_at, in_block, stretch}
use Rattle.read.proofs.Stretch.{stretch_part, stretch_zeros}

-- ---- blocks do not reach over bit 31: 2^31 is a number of blocks

four : (P : ℕ → Type 0) (n a b c d : ℕ) → T (eqb n a || eqb n b || eqb n c || eqb n d) → P a → P b → P c → P d → P n
four P n a b c d t pa pb pc pd = ⊎_elim
    (λ u. ⊎_elim
    (λ v. ⊎_elim (is a pa) (is b pb) (or_cases (eqb n a) (eqb n b) v))
    (is c pc) (or_cases (eqb n a || eqb n b) (eqb n c) u))
    (is d pd) (or_cases (eqb n a || eqb n b || eqb n c) (eqb n d) t)
  where
    is : (k : ℕ) → P k → T (eqb n k) → P n
    is k p u = subst P (sym (eqb→eq n k u)) p

abbrev Halves : ℕ → ℕ → Type 0
Halves size pages = (q : ℕ) × (q * (size * pages) ≡ 2 ^ 31)

halves : (g : Geometry) (l : Lent) → fits g l ≡ true → Halves g.size g.pages
unfolding fits good_geometry good_size good_pages
halves g l e =
    let t : T (fits g l) = T-yes _ e in
    let ways : (s : ℕ) → Halves s 4 → Halves s 8 → Halves s 16 → Halves s 32 → Halves s g.pages =
    λ s. four (Halves s) g.pages 4 8 16 32 (search tests) in
    four (λ s. Halves s g.pages) g.size 256 512 1024 2048 (search tests)
    (ways 256 (2097152, refl) (1048576, refl) (524288, refl) (262144, refl))
    (ways 512 (1048576, refl) (524288, refl) (262144, refl) (131072, refl))
    (ways 1024 (524288, refl) (262144, refl) (131072, refl) (65536, refl))
    (ways 2048 (262144, refl) (131072, refl) (65536, refl) (32768, refl))

halves_is : (g : Geometry) (l : Lent) (e : fits g l ≡ true) → (halves g l e).0 * block_size g ≡ 2 ^ 31
unfolding block_size
halves_is g l e = (halves g l e).1

-- ---- within a block of s bytes

module _ (s c i : ℕ) (h : c % s + i < s) where
  whole : c + i ≡ c / s * s + (c % s + i)
  whole = omega (arith, div-add-mod' c s)

  pub same_block_lem : (c + i) / s ≡ c / s
  same_block_lem = ap (λ (x : ℕ). x / s) whole ∙ digits_div (c / s) h

  pub same_offset : (c + i) % s ≡ c % s + i
  same_offset = ap (λ (x : ℕ). x % s) whole ∙ digits_mod (c / s) h

  pub stays_below : (q top : ℕ) → q * s ≡ top → c < top → c + i < top
  stays_below q top e l = ⊎_elim
      (λ (u : c / s < q). let v : suc (c / s) * s ≤ q * s = mul-le-mul_right s u in omega (arith, whole))
      (λ (u : q ≤ c / s). let v : q * s ≤ c / s * s = mul-le-mul_right s u in absurd (omega (arith, div-add-mod' c s)))
      (lt_or (c / s) q)

-- ---- the bytes of a piece

pub bare_low : (a : ℕ) → a < 2 ^ 31 → bare a ≡ a
unfolding bare
bare_low a h = less_yes a (2 ^ 31) a (a - 2 ^ 31) h

pub bare_high : (a : ℕ) → 2 ^ 31 ≤ a → bare a ≡ a - 2 ^ 31
unfolding bare
bare_high a h = less_no a (2 ^ 31) a (a - 2 ^ 31) h

module _ (g : Geometry) (l : Lent) (fit : fits g l ≡ true) (a : ℕ) where
  abbrev m : Image
  m = image_of g l

  abbrev off : ℕ
  off = bare a % block_size g

  abbrev place : Option ℕ
  place = place_at g m.labels a

  in_data_lem : a < 2 ^ 31 → (i : ℕ) → a % block_size g + i < block_size g
      → byte_at g m (a + i) ≡ get_or (bytes_at m (find_data g.blocks m.labels (a / block_size g))) (a % block_size g + i) 0
  unfolding byte_at in_log byte_in data_bytes
  in_data_lem h i u =
      let below : a + i < 2 ^ 31 = stays_below (block_size g) a i u (halves g l fit).0 (2 ^ 31) (halves_is g l fit) h in
      if_no (leb (2 ^ 31) (a + i)) _ _ (λ t. omega (arith, leb→le (2 ^ 31) (a + i) t))
      ∙ ap (λ (k : ℕ). get_or (data_bytes g m k) ((a + i) % block_size g) 0) (same_block_lem (block_size g) a i u)
      ∙ ap (λ (k : ℕ). get_or (data_bytes g m (a / block_size g)) k 0) (same_offset (block_size g) a i u)

  in_log_lem : 2 ^ 31 ≤ a → (i : ℕ) → (a - 2 ^ 31) % block_size g + i < block_size g
      → byte_at g m (a + i) ≡ get_or (bytes_at m (find_log g.blocks m.labels ((a - 2 ^ 31) / block_size g))) ((a - 2 ^ 31) % block_size g + i) 0
  unfolding byte_at in_log byte_in log_bytes
  in_log_lem h i u =
      let e : a + i - 2 ^ 31 ≡ a - 2 ^ 31 + i = omega arith in
      if_yes (leb (2 ^ 31) (a + i)) _ _ (le→leb (2 ^ 31) (a + i) (omega arith))
      ∙ ap (λ (k : ℕ). get_or (log_bytes g m (k / block_size g)) (k % block_size g) 0) e
      ∙ ap (λ (k : ℕ). get_or (log_bytes g m k) ((a - 2 ^ 31 + i) % block_size g) 0) (same_block_lem (block_size g) (a - 2 ^ 31) i u)
      ∙ ap (λ (k : ℕ). get_or (log_bytes g m ((a - 2 ^ 31) / block_size g)) k 0) (same_offset (block_size g) (a - 2 ^ 31) i u)

  pub piece_byte : (i : ℕ) → off + i < block_size g → byte_at g m (a + i) ≡ get_or (bytes_at m place) (off + i) 0
  unfolding place_at
  piece_byte i u = ⊎_elim
      (λ (h : a < 2 ^ 31).
      let e : bare a ≡ a = bare_low a h in
      rw (less_yes a (2 ^ 31) (find_data g.blocks m.labels (bare a / block_size g)) (find_log g.blocks m.labels (bare a / block_size g)) h, e)
      (in_data_lem h i (subst (λ (c : ℕ). c % block_size g + i < block_size g) e u)))
      (λ (h : 2 ^ 31 ≤ a).
      let e : bare a ≡ a - 2 ^ 31 = bare_high a h in
      rw (less_no a (2 ^ 31) (find_data g.blocks m.labels (bare a / block_size g)) (find_log g.blocks m.labels (bare a / block_size g)) h, e)
      (in_log_lem h i (subst (λ (c : ℕ). c % block_size g + i < block_size g) e u)))
      (lt_or a (2 ^ 31))

  module _ (n : ℕ) (short : n ≤ block_size g - off) where
    -- an absent block gives zeros
    pub piece_zeros : place ≡ none → stretch (byte_at g m) a n ≡ replicate n 0
    unfolding bytes_at on_some
    piece_zeros e = stretch_zeros (byte_at g m) a n (λ i h.
        piece_byte i (omega (arith, short)) ∙ ap (λ (o : Option ℕ). get_or (bytes_at m o) (off + i) 0) e)

    -- a block that is there gives a part of the contents
    pub piece_part : (b : ℕ) → b < g.blocks → place ≡ some b → stretch (byte_at g m) a n ≡ take n (drop (b * block_size g + off) l.contents)
    unfolding bytes_at on_some image_of begins
    piece_part b k e =
        let s : Sizes g l = sizes g l fit in
        stretch_part (byte_at g m) a n l.contents (b * block_size g + off) (omega (arith, short, block_in g b k, s.contents, mod-lt (bare a) bs_some)) (λ i h.
        let u : off + i < block_size g = omega (arith, short) in
        let v : b * block_size g + (off + i) ≡ b * block_size g + off + i = omega arith in
        piece_byte i u ∙ ap (λ (o : Option ℕ). get_or (bytes_at m o) (off + i) 0) e
        ∙ get_or-take (block_size g) (drop (b * block_size g) l.contents) (off + i) 0 u ∙ get_or-drop (b * block_size g) l.contents (off + i) 0
        ∙ ap (λ (k : ℕ). get_or l.contents k 0) v)
      where
        bs_some : 0 < block_size g
        bs_some = omega (arith, block_size_high g l (sizes g l fit))

-- ---- the code's numbers and places

number_is : (g : Geometry) (a : ℕ) {c n : ℕ} → a < 2 ^ 32 → c ≡ bare a → n ≡ min (c / block_size g) 4294967295 → n ≡ bare a / block_size g
number_is g a {c} {n} h e f =
    let low : bare a ≤ 2 ^ 31 = ⊎_elim (λ (u : a < 2 ^ 31). omega (arith, bare_low a u)) (λ (u : 2 ^ 31 ≤ a). omega (arith, bare_high a u))
    (lt_or a (2 ^ 31)) in
    let q : n ≡ min (bare a / block_size g) 4294967295 = f ∙ ap (λ (x : ℕ). min (x / block_size g) 4294967295) e in
    omega (arith, div-le_self (bare a) (block_size g))

abbrev labels : Lent → Labels
labels l = labels_of l.tags l.paths

module _ (g : Geometry) (l : Lent) (p : Plan) (r : Ready g l p) (a : ℕ) {x : std.Option Block} {c n : ℕ} (w : a < 2 ^ 32) (e : c ≡ bare a)
    (f : n ≡ min (c / block_size g) 4294967295) where
  pub place_data : a < 2 ^ 31 → x ≡ found (find_data (length l.tags) (labels l) n) → x ≡ found (place_at g (labels l) a)
  unfolding place_at
  place_data h q =
      q ∙ ap (λ (k : ℕ). found (find_data k (labels l) n)) (sizes g l r.fit).tags ∙ ap (λ (k : ℕ). found (find_data g.blocks (labels l) k))
      (number_is g a w e f)
      ∙ ap found (sym (less_yes a (2 ^ 31) (find_data g.blocks (labels l) (bare a / block_size g)) (find_log g.blocks (labels l) (bare a / block_size g)) h))

  pub place_log : 2 ^ 31 ≤ a → x ≡ found (find (length l.tags) (view (length l.tags) (labels l) Log) (log_r n (generation_at p n)))
      → x ≡ found (place_at g (labels l) a)
  unfolding place_at find_log
  place_log h q =
      q ∙ ap (λ (y : Plan). found (find (length l.tags) (view (length l.tags) (labels l) Log) (log_r n (generation_at y n)))) r.plan
      ∙ ap (λ (k : ℕ). found (find_log k (labels l) n)) (sizes g l r.fit).tags ∙ ap (λ (k : ℕ). found (find_log g.blocks (labels l) k))
      (number_is g a w e f)
      ∙ ap found (sym (less_no a (2 ^ 31) (find_data g.blocks (labels l) (bare a / block_size g)) (find_log g.blocks (labels l) (bare a / block_size g)) h))

module _ (g : Geometry) (a n : ℕ) {s o c : ℕ} (e : s ≡ block_size g) (f : o ≡ c % block_size g) (h : c ≡ bare a) where
  offset_is : o ≡ bare a % block_size g
  offset_is = f ∙ ap (λ (x : ℕ). x % block_size g) h

  pub in_block_none : s < o → 0 ≡ in_block g a n
  unfolding in_block
  in_block_none k = omega (arith, offset_is)

  pub in_block_is : {r : ℕ} → o ≤ s → r ≡ min n (s - o) → r ≡ in_block g a n
  unfolding in_block
  in_block_is k q = omega (arith, offset_is)

-- ---- a piece

pub place_below : (g : Geometry) (m : Labels) (a b : ℕ) → place_at g m a ≡ some b → b < g.blocks
unfolding place_at find_data find_log find
place_below g m a b e = ⊎_elim
    (λ (h : a < 2 ^ 31). (first_some g.blocks _ b (sym (less_yes a (2 ^ 31) _ _ h) ∙ e)).0)
    (λ (h : 2 ^ 31 ≤ a). (first_some g.blocks _ b (sym (less_no a (2 ^ 31) _ _ h) ∙ e)).0)
    (lt_or a (2 ^ 31))

module _ (g : Geometry) (l : Lent) (p : Plan) (r : Ready g l p) (a n : ℕ) (short : n ≤ block_size g - bare a % block_size g) {x : std.Option Block}
    (e : x ≡ found (place_at g (labels l) a)) where
  pub piece_absent : {last : List ℕ} → x ≡ None → last ≡ replicate n 0 → last ≡ stretch (byte_at g (image_of g l)) a n
  unfolding image_of
  piece_absent h q = q ∙ sym (piece_zeros g l r.fit a n short (nothing_none _ e h))

  module _ {b : Block} (h : x ≡ Some b) {s o c : ℕ} (z : s ≡ block_size g) (f : o ≡ c % block_size g) (w : c ≡ bare a) where
    begin_is : b.0 * s + o ≡ b.0 * block_size g + bare a % block_size g
    begin_is = ap (λ (k : ℕ). b.0 * k + o) z ∙ ap (λ (k : ℕ). b.0 * block_size g + k) (f ∙ ap (λ (x : ℕ). x % block_size g) w)

    pub piece_ends : b.0 * s + o + n ≤ length l.contents
    unfolding begins
    piece_ends =
        let i : b.0 < g.blocks = place_below g (labels l) a b.0 (at_some _ e h) in
        let y : Sizes g l = sizes g l r.fit in
        let t : 0 < block_size g = omega (arith, block_size_high g l y) in
        let k : b.0 * block_size g + block_size g ≤ g.blocks * block_size g = block_in g b.0 i in
        omega (arith, begin_is, short, y.contents, mod-lt (bare a) t)

    pub piece_low : b.0 * s + o + n ≤ 67108864
    piece_low = let y : Sizes g l = sizes g l r.fit in omega (arith, piece_ends, y.contents, contents_low g l y)

    pub piece_present : {last : List ℕ} → last ≡ take (b.0 * s + o + n - (b.0 * s + o)) (drop (b.0 * s + o) l.contents)
        → last ≡ stretch (byte_at g (image_of g l)) a n
    unfolding image_of
    piece_present q =
        let i : b.0 < g.blocks = place_below g (labels l) a b.0 (at_some _ e h) in
        let k : b.0 * s + o + n - (b.0 * s + o) ≡ n = omega arith in
        q ∙ ap (λ (j : ℕ). take j (drop (b.0 * s + o) l.contents)) k ∙ ap (λ (j : ℕ). take n (drop j l.contents)) begin_is
        ∙ sym (piece_part g l r.fit a n short b.0 i (at_some _ e h))

pub ruleset pieces = (piece_absent, piece_low)
