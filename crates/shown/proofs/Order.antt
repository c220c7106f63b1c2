-- The records of a tree, taken out of their slots one after another.
-- Assumes nothing.
use Prim.Native.Nat.{ℕ, ◌+◌, ◌<◌}
use mathlib.Core.Path.{◌≡◌, sym, ap, ◌∙◌}
use mathlib.Core.List.{List, [], ◌∷◌, ◌++◌}
use native.Mathlib.Omega.{arith}
use native.Mathlib.Numerals.{add-one}
use lib.ListN.{length, take, set, get_or}
use lib.Seq.{take_all, take-suc, take-suc-set}
use Rattle.meaning.specs.declared.Record.{Record}
use Rattle.tree.specs.declared.Tree.{Tree}
use Rattle.tree.specs.Tree.{no_record, record_at, files, Kept}
use Rattle.tree.proofs.Laws.{files_length, file_at_lem}

module _ (t : Tree) (kept : Kept t) (rs : List Record) (k : ℕ) (e : take k rs ≡ take k (files t)) where
  pub order_on : length rs ≡ 256 → k < t.count → take (k + 1) (set rs k (record_at t (get_or t.slots k 0))) ≡ take (k + 1) (files t)
  order_on l h =
      let v : Record = record_at t (get_or t.slots k 0) in
      rw (add-one k)
      (take-suc-set rs k v (omega (arith, kept.few)) ∙ ap (λ (xs : List Record). xs ++ v ∷ []) e
      ∙ ap (λ (w : Record). take k (files t) ++ w ∷ []) (sym (file_at_lem t kept k h)) ∙ sym (take-suc (files t) k no_record (omega (arith, files_length t kept))))

  pub order_end : t.count ≡ k → take t.count rs ≡ files t
  order_end h = ap (λ (m : ℕ). take m rs) h ∙ (e ∙ take_all k (files t) (omega (arith, files_length t kept)))
