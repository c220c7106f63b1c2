-- What an answer says of what was looked for.
use Prim.Native.Nat.{ℕ, ◌<◌}
use mathlib.Core.Bool.{Bool}
use mathlib.Core.Option.{none, some}
use mathlib.Core.Option as maybe
use Rattle.std.specs.Prelude.{Option, Some, None}
use mathlib.Core.Path.{◌≡◌, refl, sym, ap, ◌∙◌}
use Rattle.base.specs.Scan.{first}
use Rattle.base.proofs.Scans.{first_some}
use Rattle.meaning.specs.declared.Block.{Block}
use Rattle.meaning.specs.Answer.{block}
use Rattle.label.specs.Search.{found}

pub nothing_none : {x : Option Block} (o : maybe.Option ℕ) → x ≡ found o → x ≡ None → o ≡ none
unfolding found
nothing_none none e f = refl
nothing_none (some i) e f = let z : None ≡ Some (block i) = sym f ∙ e in cc

pub at_some : {x : Option Block} {b : Block} (o : maybe.Option ℕ) → x ≡ found o → x ≡ Some b → o ≡ some b.0
unfolding found
at_some {x} {b} none e f = let z : Some b ≡ None = sym f ∙ e in cc
at_some {x} {b} (some i) e f = let z : Some b ≡ Some (block i) = sym f ∙ e in let w : b ≡ block i = cc in ap (λ (k : Block). some k.0) (sym w)

-- what a scan finds is a place
pub at_below : {x : Option Block} {b : Block} (n : ℕ) (p : ℕ → Bool) → x ≡ found (first n p) → x ≡ Some b → b.0 < n
at_below {x} {b} n p e f = (first_some n p b.0 (at_some _ e f)).0
