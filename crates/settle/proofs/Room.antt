-- An erase list has room.
use Prim.Native.Nat.{ℕ, ◌≤◌}
use mathlib.Core.Path.{◌≡◌, ap, ◌∙◌}
use mathlib.Core.List.{List}
use native.Mathlib.Omega.{arith}
use lib.ListN.{length}
use Rattle.used.specs.declared.Erase.{Erase}
use Rattle.used.specs.Erase.{erase_of}
use Rattle.used.proofs.Masks.{pad_length}

pub roomy : (e : Erase) (xs : List ℕ) → e ≡ erase_of xs → e.count ≤ 1024 → length e.blocks ≡ 1024
unfolding erase_of
roomy e xs h k =
    let c : e.count ≡ length xs = ap (λ (y : Erase). y.count) h in
    ap (λ (y : Erase). length y.blocks) h ∙ pad_length 1024 xs (omega arith)
