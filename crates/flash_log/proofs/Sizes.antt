-- What slices that fit say of sizes, and what that says of places in the contents and of addresses.
use mathlib.Core.Path.{◌≡◌}
use mathlib.Core.Bool.{true, ◌||◌}
use mathlib.Core.Logic.{⊎_elim}
use Prim.Native.Nat.{ℕ, suc, ◌+◌, ◌*◌, ◌≤◌, ◌<◌}
use native.Mathlib.Nat.{mul-le-mul, mul-le-mul_right}
use native.Mathlib.Omega.{arith}
use lib.ListN.{length}
use lib.Dec.{T, eqb, eqb→eq}
use Rattle.base.proofs.Tests.{T-yes, or_cases, tests}
use Rattle.meaning.specs.declared.Geometry.{Geometry}
use Rattle.meaning.specs.Flash.{good_size, good_pages, Lent, address_of, begins, block_size, fits, good_geometry}

pub record Sizes (g : Geometry) (l : Lent) : Type 0 where
  pub tags : length l.tags ≡ g.blocks
  pub contents : length l.contents ≡ g.blocks * block_size g
  pub blocks : g.blocks ≤ 1024
  pub least : 4 ≤ g.pages
  pub pages : g.pages ≤ 32
  pub byte : 256 ≤ g.size
  pub size : g.size ≤ 2048

within : (n a b c d lo hi : ℕ) → T (eqb n a || eqb n b || eqb n c || eqb n d)
    → (lo ≤ a) × (a ≤ hi) → (lo ≤ b) × (b ≤ hi) → (lo ≤ c) × (c ≤ hi) → (lo ≤ d) × (d ≤ hi) → (lo ≤ n) × (n ≤ hi)
within n a b c d lo hi t pa pb pc pd = ⊎_elim
    (λ u. ⊎_elim
    (λ v. ⊎_elim (is a pa) (is b pb) (or_cases (eqb n a) (eqb n b) v))
    (is c pc) (or_cases (eqb n a || eqb n b) (eqb n c) u))
    (is d pd) (or_cases (eqb n a || eqb n b || eqb n c) (eqb n d) t)
  where
    is : (k : ℕ) → (lo ≤ k) × (k ≤ hi) → T (eqb n k) → (lo ≤ n) × (n ≤ hi)
    is k p u = (omega (arith, eqb→eq n k u), omega (arith, eqb→eq n k u))

pub sizes : (g : Geometry) (l : Lent) → fits g l ≡ true → Sizes g l
unfolding fits good_geometry good_size good_pages
sizes g l e =
    let t : T (fits g l) = T-yes _ e in
    let s = within g.size 256 512 1024 2048 256 2048 (search tests) (omega arith) (omega arith) (omega arith) (omega arith) in
    let p = within g.pages 4 8 16 32 4 32 (search tests) (omega arith) (omega arith) (omega arith) (omega arith) in
    record { tags = search tests; contents = search tests; blocks = search tests; least = p.0; pages = p.1; byte = s.0; size = s.1 }

-- ---- places in the contents

pub page_in : (g : Geometry) (p : ℕ) → p < g.pages → p * g.size + g.size ≤ block_size g
unfolding block_size
page_in g p h = let q : suc p * g.size ≤ g.pages * g.size = mul-le-mul_right g.size h in omega arith

pub block_in : (g : Geometry) (i : ℕ) → i < g.blocks → begins g i + block_size g ≤ g.blocks * block_size g
unfolding begins
block_in g i h = let q : suc i * block_size g ≤ g.blocks * block_size g = mul-le-mul_right (block_size g) h in omega arith

module _ (g : Geometry) (l : Lent) (s : Sizes g l) where
  pub block_size_low : block_size g ≤ 65536
  unfolding block_size
  block_size_low = let q : g.size * g.pages ≤ 2048 * 32 = mul-le-mul s.size s.pages in omega arith

  pub block_size_high : 1024 ≤ block_size g
  unfolding block_size
  block_size_high = let q : 256 * 4 ≤ g.size * g.pages = mul-le-mul s.byte s.least in omega arith

  pub contents_low : g.blocks * block_size g ≤ 67108864
  contents_low = let q : g.blocks * block_size g ≤ 1024 * 65536 = mul-le-mul s.blocks block_size_low in omega arith

  -- an address of a page's first byte
  pub address_low : (n p : ℕ) → n < 4096 → p < g.pages → address_of g n p 0 < 268435457
  unfolding address_of
  address_low n p a b =
      let a' : n ≤ 4095 = omega arith in
      let q : n * g.pages ≤ 4095 * 32 = mul-le-mul a' s.pages in
      let b' : n * g.pages + p ≤ 131072 = omega (arith, s.pages) in
      let r : (n * g.pages + p) * g.size ≤ 131072 * 2048 = mul-le-mul b' s.size in
      omega arith
