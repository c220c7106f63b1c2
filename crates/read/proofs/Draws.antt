-- Runs drawn over zeros, one after another, are the bytes of the file.
use Prim.Native.Nat.{ℕ, ◌+◌, ◌-◌, ◌≤◌, ◌<◌, min, max}
use mathlib.Core.Path.{◌≡◌, refl, sym, ap, subst, ◌∙◌}
use mathlib.Core.Logic.{⊎_elim}
use mathlib.Core.Option.{Option, some}
use mathlib.Core.List.{List, [], ◌∷◌, ◌++◌}
use native.Mathlib.Omega.{arith}
use borrow.Rule.Slice.PartMut.{put_mid}
use lib.Dec.{T, leb, ltb, leb→le, ltb→lt, le→leb, lt→ltb}
use lib.ListN.{length, take, drop, length-drop}
use lib.Seq.{length-take-le, drop-drop}
use Rattle.base.specs.Choice.{if_true, if_less, on_some}
use Rattle.base.specs.Member.{All}
use Rattle.base.proofs.Choices.{if_yes, if_no, less_yes, less_no}
use Rattle.base.proofs.Tests.{and_l, and_r, and_i, lt_or}
use Rattle.meaning.specs.declared.Geometry.{Geometry}
use Rattle.meaning.specs.declared.Extent.{Extent}
use Rattle.meaning.specs.Flash.{Image}
use Rattle.meaning.specs.Replay.{spot, start, end}
use Rattle.meaning.specs.Mount.{covers, where_is, byte_at, file_byte}
use Rattle.extent.proofs.Line.{start_end}
use Rattle.read.specs.Pieces.{stretch, larger, put, drawn}
use Rattle.read.proofs.Stretch.{stretch_same, stretch_split, stretch_take, stretch_drop}

pub larger_least : (a b : ℕ) → (a ≤ larger a b) × (b ≤ larger a b)
unfolding larger
larger_least a b = ⊎_elim
    (λ (h : a < b). let e = less_yes a b b a h in (omega arith, omega arith))
    (λ (h : b ≤ a). let e = less_no a b b a h in (omega arith, omega arith))
    (lt_or a b)

pub max_larger : (a b : ℕ) → max a b ≡ larger a b
unfolding larger
max_larger a b = ⊎_elim (λ (h : a < b). let e = less_yes a b b a h in omega arith) (λ (h : b ≤ a). let e = less_no a b b a h in omega arith) (lt_or a b)

larger_below : (a b c : ℕ) → a ≤ c → c < larger a b → c < b
unfolding larger
larger_below a b c h l = ⊎_elim
    (λ (u : a < b). let e = less_yes a b b a u in omega arith)
    (λ (u : b ≤ a). let e = less_no a b b a u in absurd (omega arith))
    (lt_or a b)

larger_above : (a b c : ℕ) → a ≤ c → b ≤ c → larger a b ≤ c
unfolding larger
larger_above a b c h l = ⊎_elim
    (λ (u : a < b). let e = less_yes a b b a u in omega arith)
    (λ (u : b ≤ a). let e = less_no a b b a u in omega arith)
    (lt_or a b)

-- ---- where a byte is

abbrev pub Off : ℕ → Extent → Type 0
Off k e = T (covers k e) → ⊥

pub off_before : (k : ℕ) (e : Extent) → k < start e → Off k e
unfolding covers
off_before k e h t = omega (arith, leb→le (start e) k (and_l (leb (start e) k) (ltb k (end e)) t))

pub off_after : (k : ℕ) (e : Extent) → end e ≤ k → Off k e
unfolding covers
off_after k e h t = omega (arith, ltb→lt k (end e) (and_r (leb (start e) k) (ltb k (end e)) t))

module _ (p i : ℕ) where
  -- runs that are off it say nothing
  where_more : (es fs : List Extent) → All (Off (spot p i)) fs → where_is (es ++ fs) p i ≡ where_is es p i
  unfolding where_is
  where_more [] [] h = refl
  where_more [] (f ∷ fs) h = if_no (covers (spot p i) f) _ _ h.0 ∙ where_more [] fs h.1
  where_more (e ∷ es) fs h = ap (λ (o : Option ℕ). if_true (covers (spot p i) e) (some (e.address + (spot p i - start e))) o) (where_more es fs h)

  where_first : (es : List Extent) (e : Extent) → All (Off (spot p i)) es → start e ≤ spot p i → spot p i < end e
      → where_is (es ++ (e ∷ [])) p i ≡ some (e.address + (spot p i - start e))
  unfolding where_is covers
  where_first [] e h l u = if_yes (covers (spot p i) e) _ _ (and_i (leb (start e) (spot p i)) (ltb (spot p i) (end e)) (le→leb (start e) (spot p i) l)
      (lt→ltb (spot p i) (end e) u))
  where_first (y ∷ es) e h l u = if_no (covers (spot p i) y) _ _ h.0 ∙ where_first es e h.1 l u

  module _ (g : Geometry) (m : Image) where
    pub byte_more : (es fs : List Extent) → All (Off (spot p i)) fs → file_byte g m (es ++ fs) p i ≡ file_byte g m es p i
    unfolding file_byte
    byte_more es fs h = ap (λ (o : Option ℕ). on_some o 0 (byte_at g m)) (where_more es fs h)

    pub byte_none : (es : List Extent) → All (Off (spot p i)) es → file_byte g m es p i ≡ 0
    unfolding file_byte where_is on_some
    byte_none es h = byte_more [] es h

    byte_first : (es : List Extent) (e : Extent) → All (Off (spot p i)) es → start e ≤ spot p i → spot p i < end e
        → file_byte g m (es ++ (e ∷ [])) p i ≡ byte_at g m (e.address + (spot p i - start e))
    unfolding file_byte on_some
    byte_first es e h l u = ap (λ (o : Option ℕ). on_some o 0 (byte_at g m)) (where_first es e h l u)

-- ---- a run drawn over what stands before it

moved : (a k s b i : ℕ) → k ≤ s → b ≤ s → a + (s - b) + i ≡ a + (k + (s - k + i) - b)
moved a k s b i h l = omega arith

left_over : (n k s t : ℕ) → k ≤ s → s < t → n - (s - k) - (t - s) ≡ n - (t - k)
left_over n k s t h l = omega arith

past_end : (k n e i : ℕ) → k ≤ min (k + n) e → i < n - (min (k + n) e - k) → e ≤ k + (min (k + n) e - k + i)
past_end k n e i h l = omega arith

pub spot_add : (p x i : ℕ) → spot p (x + i) ≡ spot p x + i
unfolding spot
spot_add p x i = omega arith

pub all_off : (k : ℕ) (es : List Extent) → All (λ (e : Extent). end e ≤ k) es → All (Off k) es
all_off k [] h = tt
all_off k (e ∷ es) h = (off_after k e h.0, all_off k es h.1)

pub ends_later : (s k : ℕ) → s ≤ k → (es : List Extent) → All (λ (e : Extent). end e ≤ s) es → All (λ (e : Extent). end e ≤ k) es
ends_later s k l [] h = tt
ends_later s k l (e ∷ es) h = (omega (arith, h.0), ends_later s k l es h.1)

module _ (g : Geometry) (m : Image) (p x n : ℕ) (es : List Extent) (e : Extent) (h : All (λ (y : Extent). end y ≤ start e) es) (rest : List ℕ) where
  abbrev k : ℕ
  k = spot p x

  abbrev F : ℕ → ℕ
  F = file_byte g m es p

  abbrev F' : ℕ → ℕ
  F' = file_byte g m (es ++ (e ∷ [])) p

  abbrev s : ℕ
  s = larger k (start e)

  abbrev t : ℕ
  t = min (k + n) (end e)

  same : (i : ℕ) → Off (k + i) e → F (x + i) ≡ F' (x + i)
  same i o = sym (byte_more p (x + i) g m es (e ∷ []) (subst (λ (j : ℕ). Off j e) (sym (spot_add p x i)) o, tt))

  -- from x + i on
  own : (i : ℕ) → start e ≤ k + i → k + i < end e → byte_at g m (e.address + (k + i - start e)) ≡ F' (x + i)
  own i a b =
      let q : spot p (x + i) ≡ k + i = spot_add p x i in
      ap (λ (j : ℕ). byte_at g m (e.address + (j - start e))) (sym q)
      ∙ sym (byte_first p (x + i) g m es e (all_off _ es (ends_later (start e) (spot p (x + i)) (omega arith) es h)) (omega arith) (omega arith))

  put_on : s < t → put g m k e s t (stretch F x n ++ rest) ≡ stretch F' x n ++ rest
  unfolding put
  put_on l =
      let a : (k ≤ s) × (start e ≤ s) = larger_least k (start e) in
      let u : ℕ = s - k in
      let v : ℕ = t - k in
      let d : ℕ = t - s in
      let one : stretch F x u ≡ stretch F' x u =
      stretch_same F F' x x u (λ i z. same i (off_before (k + i) e (larger_below k (start e) (k + i) (omega arith) (omega arith)))) in
      let two : stretch (byte_at g m) (e.address + (s - start e)) d ≡ stretch F' (x + u) d =
      stretch_same (byte_at g m) F' (e.address + (s - start e)) (x + u) d (λ i z.
      let w : x + u + i ≡ x + (u + i) = omega arith in
      let y : e.address + (s - start e) + i ≡ e.address + (k + (u + i) - start e) = moved e.address k s (start e) i a.0 a.1 in
      ap (byte_at g m) y ∙ own (u + i) (omega (arith, a.0, a.1)) (omega (arith, a.0)) ∙ ap F' (sym w)) in
      let three : stretch F (x + v) (n - v) ≡ stretch F' (x + u + d) (n - u - d) =
      (let w : x + u + d ≡ x + v = omega (arith, a.0) in let y : n - u - d ≡ n - v = left_over n k s t a.0 l in
      stretch_same F F' (x + v) (x + v) (n - v) (λ i z.
      let c : x + v + i ≡ x + (v + i) = omega arith in
      ap F c ∙ same (v + i) (off_after (k + (v + i)) e (past_end k n (end e) i (omega (arith, a.0)) z)) ∙ ap F' (sym c))
      ∙ ap (λ (j : ℕ). stretch F' j (n - v)) (sym w) ∙ ap (stretch F' (x + u + d)) (sym y)) in
      rw (stretch_take F x u n (omega (arith, a.0)) rest, stretch_drop F x v n (omega (arith, a.0)) rest, one, two, three)
      (sym (stretch_split F' x u n (omega (arith, a.0)) rest
      ∙ ap (λ (r : List ℕ). stretch F' x u ++ r) (stretch_split F' (x + u) d (n - u) (omega (arith, a.0)) rest)))

  pub draw_on : drawn g m k n e (stretch F x n ++ rest) ≡ stretch F' x n ++ rest
  unfolding drawn
  draw_on = ⊎_elim
      (λ (l : s < t). less_yes s t _ _ l ∙ put_on l)
      (λ (l : t ≤ s). less_no s t _ _ l ∙ ap (λ (r : List ℕ). r ++ rest) (stretch_same F F' x x n (λ i z. same i (λ c. off i z l c))))
      (lt_or s t)
    where
      off : (i : ℕ) → i < n → t ≤ s → T (covers (k + i) e) → ⊥
      off i z l c = ⊎_elim
          (λ (b : k + i < start e). off_before (k + i) e b c)
          (λ (b : start e ≤ k + i). ⊎_elim
          (λ (f : k + i < end e). omega (arith, larger_above k (start e) (k + i) (omega arith) b))
          (λ (f : end e ≤ k + i). off_after (k + i) e f c)
          (lt_or (k + i) (end e)))
          (lt_or (k + i) (start e))

-- ---- the code's places

-- e, and the places that the code has for it: s and t bound what it has of the n bytes from k on
pub record Bounds (k n : ℕ) (e : Extent) (st en s t : ℕ) : Type 0 where
  pub st_is : st ≡ start e
  pub en_is : en ≡ end e
  pub s_is : s ≡ larger k st
  pub t_is : t ≡ min (k + n) en

pub bounds : {k n : ℕ} {e : Extent} {st en s t : ℕ} → st ≡ start e → en ≡ end e → s ≡ larger k st → t ≡ min (k + n) en → Bounds k n e st en s t
bounds a b c d = record { st_is = a; en_is = b; s_is = c; t_is = d }

module _ {k n : ℕ} {e : Extent} {st en s t : ℕ} (h : Bounds k n e st en s t) where
  s_def : s ≡ larger k (start e)
  s_def = h.s_is ∙ ap (larger k) h.st_is

  t_def : t ≡ min (k + n) (end e)
  t_def = h.t_is ∙ ap (min (k + n)) h.en_is

  pub from_key : k ≤ s
  from_key = omega (arith, h.s_is, (larger_least k st).0)

  pub from_start : st ≤ s
  from_start = omega (arith, h.s_is, (larger_least k st).1)

  pub to_count : t ≤ st + e.count
  to_count = omega (arith, h.t_is, h.en_is, h.st_is, start_end e)

  module _ (b : List ℕ) (room : n ≤ length b) (l : s < t) where
    pub piece_long : length (take (t - k - (s - k)) (drop (s - k) b)) ≡ t - s
    piece_long =
        let c : t - k - (s - k) ≡ t - s = omega (arith, from_key) in
        let w : t ≤ k + n = omega (arith, h.t_is) in
        let o : t - s ≤ length (drop (s - k) b) = omega (arith, length-drop (s - k) b, from_key) in
        ap (λ (j : ℕ). length (take j (drop (s - k) b))) c ∙ length-take-le (t - s) (drop (s - k) b) o

    module _ (g : Geometry) (m : Image) where
      pub drawn_some : {ys : List ℕ} → ys ≡ stretch (byte_at g m) (e.address + (s - st)) (length (take (t - k - (s - k)) (drop (s - k) b)))
          → put_mid (s - k) (t - k - (s - k)) b ys ≡ drawn g m k n e b
      unfolding drawn put
      drawn_some {ys} f =
          let c : s - k + (t - k - (s - k)) ≡ t - k = omega (arith, from_key) in
          let y : ys ≡ stretch (byte_at g m) (e.address + (s - st)) (t - s) = f ∙ ap (stretch (byte_at g m) (e.address + (s - st))) piece_long in
          let z : put_mid (s - k) (t - k - (s - k)) b ys ≡ put g m k e s t b =
          rw (drop-drop (t - k - (s - k)) (s - k) b, c, y, h.st_is) refl in
          z ∙ sym (subst (λ (j : ℕ). if_less j (min (k + n) (end e)) (put g m k e j (min (k + n) (end e)) b) b ≡ put g m k e s t b) (s_def)
          (subst (λ (j : ℕ). if_less s j (put g m k e s j b) b ≡ put g m k e s t b) t_def (less_yes s t _ _ l)))

  pub drawn_none : (g : Geometry) (m : Image) (b : List ℕ) → t ≤ s → b ≡ drawn g m k n e b
  unfolding drawn
  drawn_none g m b l = sym (less_no (larger k (start e)) (min (k + n) (end e)) _ _ (omega (arith, s_def, t_def)))
