-- The rows that the copy looks at: those before the first end before the file's byte x, those past the last start after byte x + n.
use Prim.Native.Nat.{ℕ, zero, suc, ◌+◌, ◌-◌, ◌^◌, ◌≤◌, ◌<◌, min}
use mathlib.Core.Path.{◌≡◌, refl, sym, ap, subst, ◌∙◌}
use mathlib.Core.List.{List, [], ◌∷◌, ◌++◌, map, map-append}
use native.Mathlib.Omega.{arith}
use native.Mathlib.Nat.{le_of_suc-le-suc, not-suc-le-zero}
use native.Mathlib.Numerals.{add-one}
use borrow.Rule.Slice.PartMut.{put_mid}
use lib.ListN.{length, get_or, take, drop, replicate, length-append, length-drop, length-replicate, take-append-drop}
use lib.Seq.{length-take-le, take-length, take-suc, split_at, get_or-take, drop_at}
use Rattle.base.specs.Member.{All}
use Rattle.meaning.specs.declared.Geometry.{Geometry}
use Rattle.meaning.specs.declared.Extent.{Extent}
use Rattle.meaning.specs.Flash.{Image}
use Rattle.meaning.specs.Replay.{spot, start, end}
use Rattle.meaning.specs.Mount.{file_byte}
use Rattle.meaning.specs.Services.{bytes_from, copied}
use Rattle.extent.specs.Rows.{extent_of, runs, Fit, Lined, Four, Sound, Within, Split}
use Rattle.extent.proofs.Line.{start_end, all_drop}
use Rattle.extent.proofs.Rows.{runs_at, runs_drop, runs_length}
use Rattle.read.specs.Pieces.{stretch, drawn}
use Rattle.read.proofs.Stretch.{stretch_length, stretch_same, stretch_zeros}
use Rattle.read.proofs.Draws.{Off, off_before, byte_more, byte_none, all_off, ends_later, draw_on, spot_add}

-- ---- extents in order

reach : (lo hi : ℕ) (es : List Extent) (e : Extent) (fs : List Extent) → Lined lo hi (es ++ (e ∷ fs)) → lo ≤ start e
reach lo hi [] e fs l = l.0
reach lo hi (y ∷ es) e fs l = omega (arith, l.0, reach (end y) hi es e fs l.2, start_end y)

ends_by : (lo hi : ℕ) (es : List Extent) (e : Extent) (fs : List Extent) → Lined lo hi (es ++ (e ∷ fs)) → All (λ (y : Extent). end y ≤ start e) es
ends_by lo hi [] e fs l = tt
ends_by lo hi (y ∷ es) e fs l = (reach (end y) hi es e fs l.2, ends_by (end y) hi es e fs l.2)

fit_at : (lo hi : ℕ) (es : List Extent) (e : Extent) (fs : List Extent) → Lined lo hi (es ++ (e ∷ fs)) → Fit e
fit_at lo hi [] e fs l = l.1
fit_at lo hi (y ∷ es) e fs l = fit_at (end y) hi es e fs l.2

all_at : {A : Type 0} (P : A → Type 0) (xs : List A) (i : ℕ) (d : A) → All P xs → i < length xs → P (get_or xs i d)
all_at P [] i d a h = absurd (not-suc-le-zero h)
all_at P (x ∷ xs) zero d a h = a.0
all_at P (x ∷ xs) (suc i) d a h = all_at P xs i d a.1 (le_of_suc-le-suc h)

-- ---- zeros

pub cleared : (n : ℕ) (b : List ℕ) {ys : List ℕ} → n ≤ length b → ys ≡ replicate (length (take (n - 0) (drop 0 b))) 0
    → put_mid 0 (n - 0) b ys ≡ replicate n 0 ++ drop n b
cleared n b {ys} h e =
    let k : n - 0 ≡ n = omega arith in
    let y : ys ≡ replicate n 0 = e ∙ ap (λ (c : ℕ). replicate (length (take c (drop 0 b))) 0) k ∙ ap (λ (c : ℕ). replicate c 0) (length-take-le n b h) in
    rw (k, y) refl

-- the code fills from `from`, which is the first
pub cleared_from : (n : ℕ) (b : List ℕ) {from : ℕ} {ys : List ℕ} → n ≤ length b → from ≡ 0 → ys ≡ replicate (length (take (n - from) (drop from b))) 0
    → put_mid from (n - from) b ys ≡ replicate n 0 ++ drop n b
cleared_from n b {from} {ys} h z e = rw z (cleared n b h (e ∙ ap (λ (k : ℕ). replicate (length (take (n - k) (drop k b))) 0) z))

pub cleared_rest : (n : ℕ) (b : List ℕ) {c : List ℕ} → c ≡ replicate n 0 ++ drop n b → drop n c ≡ drop n b
cleared_rest n b e = ap (drop n) e ∙ drop_at (replicate n 0) (drop n b) n (length-replicate n 0)

pub cleared_long : (n : ℕ) (b : List ℕ) {c : List ℕ} → n ≤ length b → c ≡ replicate n 0 ++ drop n b → length c ≡ length b
cleared_long n b h e =
    ap length e ∙ length-append (replicate n 0) (drop n b)
    ∙ (let p : length {A = ℕ} (replicate n 0) ≡ n = length-replicate n 0 in omega (arith, length-drop n b))

pub buffer_long : (f : ℕ → ℕ) (x n : ℕ) (b : List ℕ) {l : List ℕ} → n ≤ length b → l ≡ stretch f x n ++ drop n b → length l ≡ length b
buffer_long f x n b h e =
    ap length e ∙ length-append (stretch f x n) (drop n b)
    ∙ (let p : length (stretch f x n) ≡ n = stretch_length f x n in omega (arith, length-drop n b))

-- ---- a row

module _ (xs : List (List ℕ)) (w : Within 0 (2 ^ 64) xs) where
  module _ (j : ℕ) (h : j < length xs) where
    split : map extent_of xs ≡ map extent_of (take j xs) ++ (extent_of (get_or xs j []) ∷ map extent_of (drop (suc j) xs))
    split = ap (map extent_of) (split_at xs j [] h) ∙ map-append extent_of (take j xs) (get_or xs j [] ∷ drop (suc j) xs)

    lined : Lined 0 (2 ^ 64) (map extent_of (take j xs) ++ (extent_of (get_or xs j []) ∷ map extent_of (drop (suc j) xs)))
    lined = subst (Lined 0 (2 ^ 64)) split w.lined

    row_ends : All (λ (y : Extent). end y ≤ start (extent_of (get_or xs j []))) (map extent_of (take j xs))
    row_ends = ends_by 0 (2 ^ 64) (map extent_of (take j xs)) (extent_of (get_or xs j [])) (map extent_of (drop (suc j) xs)) lined

    pub row_sound : Sound (get_or xs j [])
    row_sound = record {
      four = all_at Four xs j [] w.four h;
      fit = fit_at 0 (2 ^ 64) (map extent_of (take j xs)) (extent_of (get_or xs j []))
          (map extent_of (drop (suc j) xs)) lined;
    }

    row_next : map extent_of (take (j + 1) xs) ≡ map extent_of (take j xs) ++ (extent_of (get_or xs j []) ∷ [])
    row_next = ap (λ (k : ℕ). map extent_of (take k xs)) (add-one j) ∙ ap (map extent_of) (take-suc xs j [] h) ∙ map-append extent_of (take j xs)
        (get_or xs j [] ∷ [])

  -- what `below` asks
  pub within_all : Within 0 (2 ^ 64) (take (length xs) xs)
  within_all = subst (Within 0 (2 ^ 64)) (sym (take-length xs)) w

  module _ (g : Geometry) (m : Image) (p x n : ℕ) where
    abbrev pub Bytes : ℕ → List ℕ
    Bytes j = stretch (file_byte g m (map extent_of (take j xs)) p) x n

    pub copy_on : (j : ℕ) → j < length xs → (rest : List ℕ) {l last : List ℕ} {key : ℕ} → key ≡ spot p x → l ≡ Bytes j ++ rest
        → last ≡ drawn g m key n (extent_of (get_or xs j [])) l → last ≡ Bytes (j + 1) ++ rest
    copy_on j h rest {l} {last} {key} k e d =
        d ∙ ap (λ (c : ℕ). drawn g m c n (extent_of (get_or xs j [])) l) k ∙ ap (drawn g m (spot p x) n (extent_of (get_or xs j []))) e
        ∙ draw_on g m p x n (map extent_of (take j xs)) (extent_of (get_or xs j [])) (row_ends j h) rest
        ∙ ap (λ (es : List Extent). stretch (file_byte g m es p) x n ++ rest) (sym (row_next j h))

    -- ---- the first row

    first_ends : (low : ℕ) → Split (spot p x) (runs xs (length xs)) low → All (λ (y : Extent). end y ≤ spot p x) (map extent_of (take (low - min low 1) xs))
    first_ends zero s = tt
    first_ends (suc low) s =
        let few : suc low ≤ length xs = omega (arith, s.few, runs_length xs (length xs) (omega arith)) in
        let j : suc low - min (suc low) 1 ≡ low = omega arith in
        let at : get_or (take (suc low) (runs xs (length xs))) low (extent_of []) ≡ extent_of (get_or xs low []) =
        get_or-take (suc low) (runs xs (length xs)) low (extent_of []) (omega arith) ∙ runs_at xs (length xs) low (omega arith) in
        let before : start (extent_of (get_or xs low [])) < spot p x =
        subst (λ (e : Extent). start e < spot p x) at (all_at (λ (e : Extent). start e < spot p x) (take (suc low)
        (runs xs (length xs))) low (extent_of []) s.low
        (omega (arith, length-take-le (suc low) (runs xs (length xs)) s.few))) in
        subst (λ (k : ℕ). All (λ (y : Extent). end y ≤ spot p x) (map extent_of (take k xs))) (sym j)
        (ends_later (start (extent_of (get_or xs low []))) (spot p x) (omega arith) (map extent_of (take low xs)) (row_ends low (omega arith)))

    pub copy_start : (low : ℕ) {key : ℕ} → key ≡ spot p x → Split key (runs xs (length xs)) low → Bytes (low - min low 1) ≡ replicate n 0
    copy_start low k s = stretch_zeros _ x n (λ i h.
        byte_none p (x + i) g m (map extent_of (take (low - min low 1) xs)) (all_off (spot p (x + i)) (map extent_of (take (low - min low 1) xs))
        (ends_later (spot p x) (spot p (x + i)) (omega (arith, spot_add p x i)) (map extent_of (take (low - min low 1) xs))
        (first_ends low (subst (λ (c : ℕ). Split c (runs xs (length xs)) low) k s)))))

    pub copy_begin : (low : ℕ) {key k : ℕ} → key ≡ spot p x → Split key (runs xs (length xs)) low → k ≡ min low 1
        → (b : List ℕ) {l : List ℕ} → l ≡ replicate n 0 ++ drop n b → l ≡ Bytes (low - k) ++ drop n l
    copy_begin low {key} {k} e s f b {l} h =
        h ∙ ap (λ (r : List ℕ). replicate n 0 ++ r) (sym (cleared_rest n b h)) ∙ ap (λ (r : List ℕ). r ++ drop n l) (sym (copy_start low e s))
        ∙ ap (λ (c : ℕ). Bytes (low - c) ++ drop n l) (sym f)

    pub copy_first : (low : ℕ) {key j : ℕ} → key ≡ spot p x → Split key (runs xs (length xs)) low → j ≡ low - 1
        → (b : List ℕ) {l : List ℕ} → l ≡ replicate n 0 ++ drop n b → l ≡ Bytes j ++ drop n l
    copy_first low {key} {j} e s f b {l} h =
        let k : low - min low 1 ≡ j = omega arith in copy_begin low e s refl b h ∙ ap (λ (c : ℕ). Bytes c ++ drop n l) k

    -- ---- past the last row

    bytes_from_lem : (es : List Extent) (y k : ℕ) → bytes_from g m es p y k ≡ stretch (file_byte g m es p) y k
    unfolding bytes_from stretch
    bytes_from_lem es y zero = refl
    bytes_from_lem es y (suc k) = ap {B = List ℕ} (λ r. file_byte g m es p y ∷ r) (bytes_from_lem es (y + 1) k)

    off_rows : (es : List Extent) (k : ℕ) → All (λ (e : Extent). k < start e) es → All (Off k) es
    off_rows [] k a = tt
    off_rows (e ∷ es) k a = (off_before k e a.0, off_rows es k a.1)

    sooner : (es : List Extent) (k c : ℕ) → k < c → All (λ (e : Extent). c ≤ start e) es → All (λ (e : Extent). k < start e) es
    sooner [] k c l a = tt
    sooner (e ∷ es) k c l a = (omega (arith, a.0), sooner es k c l a.1)

    pub copy_end : (last j : ℕ) {key top : ℕ} → key ≡ spot p x → top ≡ key + n → Split top (runs xs (length xs)) last → last ≤ j
        → (b c : List ℕ) {l : List ℕ} → c ≡ replicate n 0 ++ drop n b → l ≡ Bytes j ++ drop n c → l ≡ copied g m (map extent_of xs) p x b n
    unfolding copied
    copy_end last j {key} {top} k t s h b c {l} z e =
        let after : All (λ (e : Extent). top ≤ start e) (map extent_of (drop j xs)) =
        subst (All (λ (e : Extent). top ≤ start e)) (runs_drop xs (length xs) j ∙ ap (λ (r : List (List ℕ)). map extent_of (drop j r)) (take-length xs))
        (all_drop (λ (e : Extent). top ≤ start e) (runs xs (length xs)) last j h s.high) in
        let whole : map extent_of (take j xs) ++ map extent_of (drop j xs) ≡ map extent_of xs =
        sym (map-append extent_of (take j xs) (drop j xs)) ∙ ap (map extent_of) (take-append-drop j xs) in
        let same : Bytes j ≡ stretch (file_byte g m (map extent_of xs) p) x n =
        stretch_same _ _ x x n (λ i u.
        sym (byte_more p (x + i) g m (map extent_of (take j xs)) (map extent_of (drop j xs))
        (off_rows (map extent_of (drop j xs)) (spot p (x + i)) (sooner (map extent_of (drop j xs))
        (spot p (x + i)) top (omega (arith, spot_add p x i)) after)))
        ∙ ap (λ (es : List Extent). file_byte g m es p (x + i)) whole) in
        e ∙ ap (λ (r : List ℕ). Bytes j ++ r) (cleared_rest n b z) ∙ ap (λ (r : List ℕ). r ++ drop n b) (same ∙ sym (bytes_from_lem (map extent_of xs) x n))

-- ---- numbers

pub spot_low : (p x n : ℕ) {key : ℕ} → key ≡ spot p x → p < 2 ^ 32 → x + n < 2 ^ 32 → key + n < 2 ^ 64
unfolding spot
spot_low p x n e h l = omega arith

pub few_rows : (xs : List (List ℕ)) (c last : ℕ) → Split c (runs xs (length xs)) last → last ≤ length xs
few_rows xs c last s = omega (arith, s.few, runs_length xs (length xs) (omega arith))
