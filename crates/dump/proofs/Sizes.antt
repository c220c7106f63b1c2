-- Right sizes are small, and so are the products of sizes.
use Prim.Native.Nat.{ℕ, ◌*◌, ◌≤◌, ◌<◌}
use native.Mathlib.Nat.{mul-le-mul}
use native.Mathlib.Omega.{arith}
use mathlib.Core.Logic.{⊎_elim}
use mathlib.Core.Bool.{Bool, true, false, ◌||◌}
use mathlib.Core.Path.{◌≡◌, refl, sym, ◌∙◌}
use lib.Dec.{T, eqb, eqb→eq}
use Rattle.base.proofs.Tests.{T-yes, is_true, is_false, or_cases, tests}
use Rattle.meaning.specs.declared.Geometry.{Geometry}
use Rattle.meaning.specs.Flash.{good_size, good_pages, good_geometry, block_size}

pub record Right (g : Geometry) : Type 0 where
  pub byte : 256 ≤ g.size
  pub size : g.size ≤ 2048
  pub page : 4 ≤ g.pages
  pub pages : g.pages ≤ 32
  pub block : 1 ≤ g.blocks
  pub blocks : g.blocks ≤ 1024

within : (n a b c d lo hi : ℕ) → T (eqb n a || eqb n b || eqb n c || eqb n d) → lo ≤ a → a ≤ b → b ≤ c → c ≤ d → d ≤ hi → (lo ≤ n) × (n ≤ hi)
within n a b c d lo hi t p q r s u = ⊎_elim
    (λ v. ⊎_elim (λ w. ⊎_elim (is a (omega arith) (omega arith)) (is b (omega arith) (omega arith)) (or_cases (eqb n a) (eqb n b) w))
    (is c (omega arith) (omega arith)) (or_cases (eqb n a || eqb n b) (eqb n c) v))
    (is d (omega arith) (omega arith)) (or_cases (eqb n a || eqb n b || eqb n c) (eqb n d) t)
  where
    is : (k : ℕ) → lo ≤ k → k ≤ hi → T (eqb n k) → (lo ≤ n) × (n ≤ hi)
    is k x y e = (omega (arith, eqb→eq n k e), omega (arith, eqb→eq n k e))

-- v is the code's test of the sizes
pub right : {v : Bool} (g : Geometry) → v ≡ good_geometry g → v ≡ true → Right g
unfolding good_geometry good_size good_pages
right g e f =
    let t : T (good_geometry g) = T-yes _ (sym e ∙ f) in
    let s = within g.size 256 512 1024 2048 256 2048 (search tests) (omega arith) (omega arith) (omega arith) (omega arith) (omega arith) in
    let p = within g.pages 4 8 16 32 4 32 (search tests) (omega arith) (omega arith) (omega arith) (omega arith) (omega arith) in
    record { byte = s.0; size = s.1; page = p.0; pages = p.1; block = search tests; blocks = search tests }

-- a number past 16 bits is no size
module _ (g : Geometry) where
  pub wide_size : 65535 < g.size → good_geometry g ≡ false
  wide_size h = is_false _ (λ (t : T (good_geometry g)). let w = right g refl (is_true _ t) in omega arith)

  pub wide_pages : 65535 < g.pages → good_geometry g ≡ false
  wide_pages h = is_false _ (λ (t : T (good_geometry g)). let w = right g refl (is_true _ t) in omega arith)

  pub wide_blocks : 65535 < g.blocks → good_geometry g ≡ false
  wide_blocks h = is_false _ (λ (t : T (good_geometry g)). let w = right g refl (is_true _ t) in omega arith)

-- b is the code's block size
module _ (g : Geometry) {b : ℕ} (e : b ≡ block_size g) where
  pub block_least : Right g → 1024 ≤ b
  unfolding block_size
  block_least w = let q : 256 * 4 ≤ g.size * g.pages = mul-le-mul w.byte w.page in omega arith

  -- sizes of 16 bits, right or not
  pub contents_below : g.blocks ≤ 65535 → g.size ≤ 65535 → g.pages ≤ 65535 → g.blocks * b ≤ 281462092005375
  unfolding block_size
  contents_below h s p =
      let q : g.size * g.pages ≤ 65535 * 65535 = mul-le-mul s p in
      let k : b ≤ 65535 * 65535 = omega arith in
      let r : g.blocks * b ≤ 65535 * (65535 * 65535) = mul-le-mul h k in
      omega arith
