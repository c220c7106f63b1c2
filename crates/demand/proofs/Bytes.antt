-- Bytes put over others: the length stays, those within are new, those without are as they were.
use mathlib.Core.Path.{◌≡◌, sym, ap, ap₂, ◌∙◌}
use mathlib.Core.Logic.{◌⊎◌, inl, inr}
use mathlib.Core.List.{List, ◌++◌}
use Prim.Native.Nat.{ℕ, ◌+◌, ◌-◌, ◌≤◌, ◌<◌}
use native.Mathlib.Nat.{add-sub_of_le}
use native.Mathlib.Omega.{arith}
use lib.ListN.{length, get_or, take, drop, length-append, length-drop, get_or-append}
use lib.Seq.{get_or-take, get_or-drop, get_or-append-add, length-take-le}

abbrev pub over : List ℕ → ℕ → List ℕ → List ℕ
over d at x = take at d ++ x ++ drop (at + length x) d

module _ (d x : List ℕ) (at : ℕ) (room : at + length x ≤ length d) where
  front : length (take at d) ≡ at
  front = length-take-le at d (omega arith)

  both : length (take at d ++ x) ≡ at + length x
  both = length-append (take at d) x ∙ ap (λ (n : ℕ). n + length x) front

  pub over_length : length (over d at x) ≡ length d
  over_length = length-append (take at d ++ x) (drop (at + length x) d) ∙ ap₂ ◌+◌ both (length-drop (at + length x) d) ∙ omega arith

  pub over_within : (o : ℕ) → at ≤ o → o < at + length x → get_or (over d at x) o 0 ≡ get_or x (o - at) 0
  over_within o lo hi =
      get_or-append (take at d ++ x) (drop (at + length x) d) 0 o (omega (arith, both))
      ∙ ap (λ (i : ℕ). get_or (take at d ++ x) i 0) (sym (ap (λ (i : ℕ). i + (o - at)) front ∙ add-sub_of_le lo))
      ∙ get_or-append-add (take at d) x (o - at) 0

  pub over_without : (o : ℕ) → (o < at) ⊎ (at + length x ≤ o) → get_or (over d at x) o 0 ≡ get_or d o 0
  over_without o (inl h) =
      get_or-append (take at d ++ x) (drop (at + length x) d) 0 o (omega (arith, both))
      ∙ get_or-append (take at d) x 0 o (omega (arith, front))
      ∙ get_or-take at d o 0 h
  over_without o (inr h) =
      let y : ℕ = o - (at + length x) in
      let e : at + length x + y ≡ o = add-sub_of_le h in
      ap (λ (i : ℕ). get_or (over d at x) i 0) (sym (ap (λ (i : ℕ). i + y) both ∙ e))
      ∙ get_or-append-add (take at d ++ x) (drop (at + length x) d) y 0
      ∙ get_or-drop (at + length x) d y 0
      ∙ ap (λ (i : ℕ). get_or d i 0) e
