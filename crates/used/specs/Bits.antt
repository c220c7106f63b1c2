-- The used pages of a block as one number: bit p says whether page p is used.
use Rattle.std.specs.Prelude.{ℕ, zero, suc, ◌+◌, ◌-◌, ◌/◌, ◌%◌, ◌^◌, ◌≤◌, ◌<◌, ◌≡◌, Bool, false, ◌&&◌, ◌||◌, List, [], ◌∷◌, ◌++◌, length, get_or, replicate, eqb, ltb, leb}
use Rattle.base.specs.Choice.{if_true, on_some}
use Rattle.meaning.specs.declared.Geometry.{Geometry}
use Rattle.meaning.specs.declared.Extent.{Extent}
use Rattle.meaning.specs.declared.Tag.TheVariants.{Data}
use Rattle.meaning.specs.Flash.{Labels}
use Rattle.meaning.specs.Labels.{view}
use Rattle.meaning.specs.Mount.{touches, used}
use Rattle.std.specs.declared.ops.Range.{Range}

-- the sum of 2^p for the places p below n that pass
unfoldable pub page_bits : ℕ → (ℕ → Bool) → ℕ
page_bits zero f = 0
page_bits (suc n) f = page_bits n f + if_true (f n) (2 ^ n) 0

-- bit p is set
unfoldable pub has_page : ℕ → ℕ → Bool
has_page mask p = eqb (mask / 2 ^ p % 2) 1

-- "A data page is used exactly if a live extent touches it": the pages of the data block that stands at place i, or none
unfoldable pub used_bits : Geometry → Labels → List Extent → ℕ → ℕ
used_bits g m xs i = on_some (view g.blocks m Data i) 0 (λ d. page_bits g.pages (used g xs d))

-- f of the places below n
unfoldable pub listed : {A : Type 0} → ℕ → (ℕ → A) → List A
listed zero f = []
listed (suc n) f = listed n f ++ (f n ∷ [])

-- a list in an array of n places, 0 past its end
unfoldable pub padded : ℕ → List ℕ → List ℕ
padded n xs = xs ++ replicate (n - length xs) 0

-- ---- what the parts of the code say

-- p is among the pages from one up to another
unfoldable pub among : ℕ → ℕ → ℕ → Bool
among from past p = leb from p && ltb p past

-- s are the pages of data block d that e touches
pub record Touched (g : Geometry) (d : ℕ) (e : Extent) (s : Range ℕ) : Type 0 where
  pub order : s.start ≤ s.end
  pub most : s.end ≤ g.pages
  pub exact : (p : ℕ) → p < g.pages → touches g d p e ≡ among s.start s.end p

-- the flags are those before, with the pages from one up to another set
pub record Marked (before after : List Bool) (from past : ℕ) : Type 0 where
  pub long : length after ≡ length before
  pub exact : (p : ℕ) → p < length before → get_or after p false ≡ (get_or before p false || among from past p)

-- the flags of data block d are those of its used pages
pub record Flagged (g : Geometry) (xs : List Extent) (d : ℕ) (flags : List Bool) : Type 0 where
  pub long : length flags ≡ 32
  pub exact : (p : ℕ) → p < g.pages → get_or flags p false ≡ used g xs d p
