-- A search among rising keys, as std's binary search answers it, and a key found where it stands.
use Prim.Native.Nat.{ℕ, ◌≤◌, ◌<◌}
use mathlib.Core.Path.{◌≡◌, sym, ◌∙◌}
use mathlib.Core.Logic.{⊎_elim}
use mathlib.Core.List.{List}
use native.Mathlib.Omega.{arith}
use native.Mathlib.Nat.{eq-or-lt_of_le}
use lib.ListN.{length, take, get_or}
use lib.Seq.{get_or-take, length-take-le}
use Rattle.std.specs.Prelude.{Result, Ok, Err, MatchResult}
use Rattle.std.specs.Ordering.{nat_cmp}
use Rattle.std.specs.List.Sorted.{IsBinarySearchResult}
use Rattle.std.proofs.lemmas.List.Sorted.{searched}
use Rattle.tree.specs.Tree.{Rising, Stands}

module _ (ks : List ℕ) (n p : ℕ) (up : Rising ks n) where
  -- a key is found where it stands
  pub near_hit : (i : ℕ) → i < n → get_or ks i 0 ≡ p → Stands ks n p (Ok i)
  near_hit i h e = (h, (e, λ a l. omega (arith, up a i l h)))

  module _ (h : n ≤ length ks) where
    long : length (take n ks) ≡ n
    long = length-take-le n ks h

    at : (i : ℕ) → i < length (take n ks) → get_or (take n ks) i 0 ≡ get_or ks i 0
    at i l = get_or-take n ks i 0 (omega (arith, long))

    rises : (i j : ℕ) → i ≤ j → j < length (take n ks) → get_or (take n ks) i 0 ≤ get_or (take n ks) j 0
    rises i j l m = ⊎_elim (λ (e : i ≡ j). rw e (omega arith)) (λ (b : i < j). omega (arith, long, at i (omega arith), at j m, up i j b (omega (arith, long)))) (eq-or-lt_of_le l)

    placed : (r : Result ℕ ℕ)
        → MatchResult r (λ i. (i < length (take n ks)) × (get_or (take n ks) i 0 ≡ p))
        (λ i. (i ≤ length (take n ks)) × ((k : ℕ) → k < i → get_or (take n ks) k 0 < p) × ((k : ℕ) → i ≤ k → k < length (take n ks) → p < get_or (take n ks) k 0))
        → Stands ks n p r
    placed (Ok i) m = near_hit i (omega (arith, long, m.0)) (sym (at i m.0) ∙ m.1)
    placed (Err i) m =
        let few : i ≤ n = omega (arith, long, m.0) in (
          few,
          ((λ a l. omega (arith, m.1 a l, at a (omega (arith, long)))), (λ a l u. omega (arith, m.2 a l (omega (arith, long)), at a (omega (arith, long))))),
        )

    pub stands : (r : Result ℕ ℕ) → IsBinarySearchResult (λ y. nat_cmp y p) (take n ks) r → Stands ks n p r
    stands r s = placed r (searched (take n ks) p r s rises)
