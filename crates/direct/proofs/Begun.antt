-- Where the runs begin, as the code finds it.
use Prim.Native.Nat.{ℕ, ◌+◌, ◌-◌, ◌*◌, ◌%◌, ◌≤◌, ◌<◌}
use mathlib.Core.Path.{◌≡◌, refl, ap, ◌∙◌}
use mathlib.Core.Bool.{true}
use mathlib.Core.Option.{Option, none, some}
use Rattle.std.specs.Prelude as std
use Rattle.std.specs.Prelude.{Some, None}
use Rattle.std.specs.Option.{unwrap_or}
use Rattle.std.specs.Option as options
use mathlib.Core.List.{List}
use native.Mathlib.Omega.{arith}
use native.Mathlib.Nat.{mod-lt}
use Rattle.base.specs.Choice.{is_some, on_some, or_zero}
use Rattle.base.proofs.Choices.{less_yes, less_no}
use Rattle.meaning.specs.declared.Block.{Block}
use Rattle.meaning.specs.declared.Extent.{Extent}
use Rattle.meaning.specs.declared.Geometry.{Geometry}
use Rattle.meaning.specs.Flash.{Labels, Lent, block_size, begins, fits}
use Rattle.label.specs.Search.{found}
use Rattle.label.proofs.Answered.{nothing_none, at_some}
use Rattle.flash_log.proofs.Sizes.{Sizes, sizes, block_size_low, block_size_high}
use Rattle.read.specs.Pieces.{bare, place_at}
use Rattle.extent.specs.Rows.{extent_of}
use Rattle.direct.specs.Begins.{begin, begin_of, place_of, stands}

pub offset_low : (g : Geometry) (l : Lent) → fits g l ≡ true → (c : ℕ) {o : ℕ} → o ≡ c % block_size g → o < 65536
offset_low g l f c q =
    let s : Sizes g l = sizes g l f in
    omega (arith, block_size_low g l s, mod-lt c (block_some s))
  where
    block_some : Sizes g l → 0 < block_size g
    block_some s = omega (arith, block_size_high g l s)

module _ (g : Geometry) (m : Labels) (e : Extent) {x : std.Option Block} (f : x ≡ found (place_at g m e.address)) where
  pub begin_absent : x ≡ None → None ≡ begin (begin_of g m e)
  unfolding begin begin_of on_some
  begin_absent h = rw (nothing_none _ f h)

  module _ {b : Block} (h : x ≡ Some b) {s o c : ℕ} (z : s ≡ block_size g) (q : o ≡ c % block_size g) (w : c ≡ bare e.address) where
    offset_is : o ≡ bare e.address % block_size g
    offset_is = q ∙ ap (λ (y : ℕ). y % block_size g) w

    pub room_is : o + e.count ≤ s → e.count ≤ block_size g - bare e.address % block_size g
    room_is l = omega (arith, offset_is)

    pub begin_leaves : s < o + e.count → None ≡ begin (begin_of g m e)
    unfolding begin begin_of on_some
    begin_leaves l = rw (
      at_some _ f h,
      less_yes (block_size g) (bare e.address % block_size g + e.count) none
          (some (begins g b.0 + bare e.address % block_size g)) (omega (arith, offset_is)),
    )

    pub begin_there : {i : ℕ} → o + e.count ≤ s → i ≡ b.0 * s + o → Some i ≡ begin (begin_of g m e)
    unfolding begin begin_of on_some begins
    begin_there l u =
        let v : b.0 * s + o ≡ b.0 * block_size g + bare e.address % block_size g =
        ap (λ (k : ℕ). b.0 * k + o) z ∙ ap (λ (k : ℕ). b.0 * block_size g + k) offset_is in
        rw (
          at_some _ f h,
          less_no (block_size g) (bare e.address % block_size g + e.count) none
              (some (b.0 * block_size g + bare e.address % block_size g)) (omega (arith, offset_is)),
          u ∙ v,
        )

-- ---- a row

module _ (g : Geometry) (m : Labels) (r : List ℕ) {x : std.Option ℕ} (f : x ≡ begin (begin_of g m (extent_of r))) where
  pub is_whole : options.is_some x ≡ stands g m r
  unfolding stands begin is_some
  is_whole = ap options.is_some f ∙ go (begin_of g m (extent_of r))
    where
      go : (o : Option ℕ) → options.is_some (begin o) ≡ is_some o
      go none = refl
      go (some i) = refl

  pub place_is : unwrap_or x 0 ≡ place_of g m r
  unfolding place_of begin or_zero
  place_is = ap (λ (o : std.Option ℕ). unwrap_or o 0) f ∙ go (begin_of g m (extent_of r))
    where
      go : (o : Option ℕ) → unwrap_or (begin o) 0 ≡ or_zero o
      go none = refl
      go (some i) = refl
