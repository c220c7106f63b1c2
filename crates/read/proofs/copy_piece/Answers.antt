use Prim.Native.Nat.{ℕ}
use mathlib.Core.Path.{◌≡◌, refl, ◌∙◌}
use mathlib.Core.List.{List}
use lib.ListN.{take, drop}
use Rattle.std.proofs.Common.{arith}
use Rattle.read.proofs.Address.{piece_ends, piece_present}
use Rattle.read.proofs.copy_piece.Goals as goal

pub slice_bounds-copy_from_slice-end : goal.slice_bounds-copy_from_slice-end
slice_bounds-copy_from_slice-end c = let h = piece_ends _ _ _ c.requires.0 _ _ c.requires.1 c.place_at.ensures
    c.in-Some.is c.block_size.ensures c.offset_at-offset.ensures c.bare.ensures in omega (arith, h)

-- what is copied is the piece, however the code counts where it ends and where it begins
copied : (xs : List ℕ) {ys zs : List ℕ} {begin n k j : ℕ} → take n (drop begin xs) ≡ zs → ys ≡ take k (drop j xs) → k ≡ n → j ≡ begin → ys ≡ zs
copied xs is e f h = e ∙ rw (f, h) is

pub returns : goal.returns
returns c = let q = piece_present _ _ _ c.requires.0 _ _ c.requires.1 c.place_at.ensures
    c.in-Some.is c.block_size.ensures c.offset_at-offset.ensures c.bare.ensures refl in
    search (arith, q, copied)
