-- A run that is copied piece by piece.
use Prim.Native.Nat.{ℕ, ◌+◌, ◌-◌, ◌%◌, ◌≤◌, ◌<◌}
use mathlib.Core.Path.{◌≡◌, refl, sym, ap, ◌∙◌}
use mathlib.Core.Bool.{true}
use mathlib.Core.List.{List, ◌++◌, append_assoc, append-nil}
use native.Mathlib.Omega.{arith}
use native.Mathlib.Nat.{mod-lt}
use borrow.Rule.Slice.PartMut.{put_mid}
use lib.ListN.{length, take, drop, length-append, length-drop}
use lib.Seq.{length-take-le, drop-drop, drop-length, take_at, drop_at}
use Rattle.meaning.specs.declared.Geometry.{Geometry}
use Rattle.meaning.specs.Flash.{Lent, block_size, fits}
use Rattle.flash_log.proofs.Sizes.{sizes, block_size_high}
use Rattle.read.specs.Pieces.{bare, in_block, stretch}
use Rattle.read.proofs.Stretch.{stretch_length, stretch_add}

pub part_long : (i k : ℕ) (l : List ℕ) → i + k ≤ length l → length (take (i + k - i) (drop i l)) ≡ k
part_long i k l h =
    let e : i + k - i ≡ k = omega arith in
    ap (λ (j : ℕ). length (take j (drop i l))) e ∙ length-take-le k (drop i l) (omega (arith, length-drop i l))

-- the first i values from a on stand in l, the others are those of d
pub record Ran (f : ℕ → ℕ) (a : ℕ) (d l : List ℕ) (i : ℕ) : Type 0 where
  pub few : i ≤ length d
  pub long : length l ≡ length d
  pub is : l ≡ stretch f a i ++ drop i d

pub ran_none : (f : ℕ → ℕ) (a : ℕ) (d : List ℕ) → Ran f a d d 0
unfolding stretch
ran_none f a d = record { few = omega arith; long = refl; is = refl }

module _ (f : ℕ → ℕ) (a : ℕ) (d l : List ℕ) (i : ℕ) (h : Ran f a d l i) where
  pub ran_more : (k : ℕ) {ys : List ℕ} → i + k ≤ length d → ys ≡ stretch f (a + i) (length (take (i + k - i) (drop i l)))
      → Ran f a d (put_mid i (i + k - i) l ys) (i + k)
  ran_more k {ys} r e =
      let n : i + k - i ≡ k = omega arith in
      let y : ys ≡ stretch f (a + i) k = e ∙ ap (stretch f (a + i)) (part_long i k l (omega (arith, h.long))) in
      let t : take i l ≡ stretch f a i = ap (take i) h.is ∙ take_at (stretch f a i) (drop i d) i (stretch_length f a i) in
      let u : drop i l ≡ drop i d = ap (drop i) h.is ∙ drop_at (stretch f a i) (drop i d) i (stretch_length f a i) in
      let v : put_mid i (i + k - i) l ys ≡ stretch f a (i + k) ++ drop (i + k) d =
      rw (n, y, t, u, drop-drop k i d, stretch_add f a i k) (sym (append_assoc (stretch f a i) (stretch f (a + i) k) (drop (i + k) d))) in
      record {
        few = r;
        long = ap length v ∙ length-append (stretch f a (i + k)) (drop (i + k) d)
            ∙ (let p : length (stretch f a (i + k)) ≡ i + k = stretch_length f a (i + k) in omega (arith, length-drop (i + k) d));
        is = v;
      }

  pub ran_full : length d ≤ i → l ≡ stretch f a (length d)
  ran_full k =
      let e : i ≡ length d = omega (arith, h.few) in
      h.is ∙ ap (λ (j : ℕ). stretch f a j ++ drop j d) e ∙ ap (λ (r : List ℕ). stretch f a (length d) ++ r)
      (drop-length d) ∙ append-nil (stretch f a (length d))

-- r of n bytes from a on stand in a's block
module _ (g : Geometry) (a n : ℕ) {r : ℕ} (e : r ≡ in_block g a n) where
  pub in_block_few : r ≤ n
  unfolding in_block
  in_block_few = omega arith

  pub in_block_room : r ≤ block_size g - bare a % block_size g
  unfolding in_block
  in_block_room = omega arith

  pub in_block_some : (l : Lent) → fits g l ≡ true → 0 < n → 0 < r
  unfolding in_block
  in_block_some l f h =
      let s : 0 < block_size g = omega (arith, block_size_high g l (sizes g l f)) in
      omega (arith, mod-lt (bare a) s)
