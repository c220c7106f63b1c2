-- Positions: a block ends within the contents, and a page within its block. The code's block size is s.
use mathlib.Core.Path.{◌≡◌, sym, ap, ◌∙◌}
use mathlib.Core.Logic.{⊎_elim}
use mathlib.Core.Bool.{true, ◌&&◌, ◌||◌}
use Prim.Native.Nat.{ℕ, ◌+◌, ◌*◌, ◌≤◌, ◌<◌}
use native.Mathlib.Nat.{mul-le-mul_right, add-mul, mul_comm}
use native.Mathlib.Omega.{arith}
use lib.Dec.{T, eqb, eqb→eq, leb}
use Rattle.base.proofs.Tests.{T-yes, and_l, or_cases}
use Rattle.meaning.specs.declared.Geometry.{Geometry}
use Rattle.meaning.specs.Flash.{block_size, good_geometry, good_pages, good_size}

-- the end of place i of n, each of s
pub end_within : (i n s : ℕ) → i < n → (i + 1) * s ≤ n * s
end_within i n s h = mul-le-mul_right s (omega arith)

pub next : (i s : ℕ) → (i + 1) * s ≡ i * s + s
next i s = add-mul i 1 s ∙ ap (λ (k : ℕ). i * s + k) (one s)
  where
    one : (x : ℕ) → 1 * x ≡ x
    one x = omega arith

module _ (g : Geometry) where
  pub block_ends : (i s n : ℕ) → s ≡ block_size g → n ≡ g.blocks * block_size g → i < g.blocks → i * s + s ≤ n
  block_ends i s n e f h =
      let a : (i + 1) * s ≤ g.blocks * s = end_within i g.blocks s h in
      let b : (i + 1) * s ≡ i * s + s = next i s in
      let d : n ≡ g.blocks * s = f ∙ ap (λ (k : ℕ). g.blocks * k) (sym e) in
      omega arith

  pub page_ends : (p s : ℕ) → s ≡ block_size g → p < g.pages → (p + 1) * g.size ≤ s
  unfolding block_size
  page_ends p s e h =
      let a : (p + 1) * g.size ≤ g.pages * g.size = end_within p g.pages g.size h in
      let b : g.pages * g.size ≡ g.size * g.pages = mul_comm g.pages g.size in
      omega arith

  pub size_within : good_geometry g ≡ true → g.size ≤ 2048
  unfolding good_geometry good_size
  size_within e = four g.size (and_l (good_size g.size) (good_pages g.pages) (and_l (good_size g.size && good_pages g.pages) (leb 1 g.blocks && leb g.blocks 1024) (T-yes (good_geometry g) e)))
    where
      is : (x n : ℕ) → n ≤ 2048 → T (eqb x n) → x ≤ 2048
      is x n h t = let q = eqb→eq x n t in omega arith

      four : (x : ℕ) → T (good_size x) → x ≤ 2048
      four x t =
          ⊎_elim (λ u. ⊎_elim (λ v. ⊎_elim (is x 256 (omega arith)) (is x 512 (omega arith)) (or_cases (eqb x 256) (eqb x 512) v))
          (is x 1024 (omega arith)) (or_cases (eqb x 256 || eqb x 512) (eqb x 1024) u))
          (is x 2048 (omega arith)) (or_cases (eqb x 256 || eqb x 512 || eqb x 1024) (eqb x 2048) t)

  -- page p of block i ends within the contents
  pub page_within : (i p s n : ℕ) → s ≡ block_size g → n ≡ g.blocks * block_size g → i < g.blocks → p < g.pages → i * s + p * g.size + g.size ≤ n
  page_within i p s n e f h k = let a : (p + 1) * g.size ≡ p * g.size + g.size = next p g.size in omega (arith, block_ends i s n e f h, page_ends p s e k)
