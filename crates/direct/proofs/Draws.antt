-- The rows drawn one over the other, as the loop draws them.
use Prim.Native.Nat.{ℕ, zero, suc, ◌+◌, ◌-◌, ◌^◌, ◌≤◌, ◌<◌, min}
use mathlib.Core.Path.{◌≡◌, refl, sym, ap, subst, ◌∙◌}
use mathlib.Core.Bool.{Bool, true, false}
use mathlib.Core.List.{List, [], ◌++◌}
use native.Mathlib.Omega.{arith}
use lib.ListN.{length, get_or, drop, replicate}
use lib.Seq.{take-length}
use Rattle.base.specs.Choice.{if_true}
use Rattle.base.proofs.Choices.{less_yes, less_no}
use Rattle.meaning.specs.declared.Extent.{Extent}
use Rattle.meaning.specs.declared.Record.{Record}
use Rattle.meaning.specs.declared.Refusal.TheVariants as refused
use Rattle.meaning.specs.Answer.{Answer, ok, no}
use Rattle.meaning.specs.Replay.{spot, start, end, bit31, is_dir}
use Rattle.extent.specs.Rows.{extent_of, runs, Within, Split}
use Rattle.extent.proofs.Halves.{halves_split}
use Rattle.read.specs.Pieces.{larger}
use Rattle.read.proofs.Draws.{larger_least}
use Rattle.direct.specs.Direct.{below, laid, over, drawn_from, answered, buffer_with}

-- over rows in order, the search parts them
pub below_splits : (rows : List (List ℕ)) (k : ℕ) → Within 0 (2 ^ 64) rows → Split k (runs rows (length rows)) (below rows k)
below_splits rows k w = halves_split rows (length rows) k (omega arith) (subst (Within 0 (2 ^ 64)) (sym (take-length rows)) w)

module _ (c : List ℕ) (rows : List (List ℕ)) (begins : List ℕ) (k n : ℕ) where
  -- from row j up to row `last`
  abbrev pub Up : ℕ → ℕ → List ℕ → List ℕ
  Up last j b = over c rows begins k n j (last - j) b

  pub over_more : (last j : ℕ) → j < last → (b d : List ℕ) {b' : List ℕ} → d ≡ Up last j b
      → b' ≡ laid c k n (extent_of (get_or rows j [])) (get_or begins j 0) b → d ≡ Up last (j + 1) b'
  unfolding over
  over_more last j h b d e f =
      let s : last - j ≡ suc (last - (j + 1)) = omega arith in
      e ∙ ap (λ (m : ℕ). over c rows begins k n j m b) s ∙ ap (over c rows begins k n (j + 1) (last - (j + 1))) (sym f)

  pub over_end : (last j : ℕ) → last ≤ j → (b d : List ℕ) → d ≡ Up last j b → b ≡ d
  unfolding over
  over_end last j h b d e =
      let s : last - j ≡ 0 = omega arith in
      sym (e ∙ ap (λ (m : ℕ). over c rows begins k n j m b) s)

  pub drawn_is : {first last : ℕ} → first ≡ below rows k - 1 → last ≡ below rows (k + n) → (b : List ℕ) {b₀ d : List ℕ}
      → b₀ ≡ replicate n 0 ++ drop n b → d ≡ Up last first b₀ → d ≡ drawn_from c rows begins k n b
  unfolding drawn_from
  drawn_is {first} {last} s q b {b₀} z e =
      e ∙ ap (λ (j : ℕ). over c rows begins k n j (last - j) b₀) s ∙ ap (λ (j : ℕ). over c rows begins k n (below rows k - 1) (j - (below rows k - 1)) b₀) q
      ∙ ap (over c rows begins k n (below rows k - 1) (below rows (k + n) - (below rows k - 1))) z

-- ---- no byte: the buffer is as it was

laid_none : (c : List ℕ) (k : ℕ) (e : Extent) (begin : ℕ) (b : List ℕ) → laid c k 0 e begin b ≡ b
unfolding laid
laid_none c k e begin b = less_no (larger k (start e)) (min (k + 0) (end e)) _ _ (omega (arith, (larger_least k (start e)).0))

over_none : (c : List ℕ) (rows : List (List ℕ)) (begins : List ℕ) (k j m : ℕ) (b : List ℕ) → over c rows begins k 0 j m b ≡ b
unfolding over
over_none c rows begins k j zero b = refl
over_none c rows begins k j (suc m) b =
    ap (over c rows begins k 0 (j + 1) m) (laid_none c k (extent_of (get_or rows j [])) (get_or begins j 0) b) ∙ over_none c rows begins k (j + 1) m b

pub drawn_none : (c : List ℕ) (rows : List (List ℕ)) (begins : List ℕ) (k : ℕ) (b : List ℕ) → b ≡ drawn_from c rows begins k 0 b
unfolding drawn_from
drawn_none c rows begins k b = sym (over_none c rows begins k (below rows k - 1) (below rows (k + 0) - (below rows k - 1)) b)

-- ---- the read

module _ (c : List ℕ) (f : Record) (rows : List (List ℕ)) (begins : List ℕ) (x : ℕ) (buffer : List ℕ) where
  abbrev a : Answer ℕ
  a = answered f (length rows) (length begins) x (length buffer)

  abbrev Says : Answer ℕ → List ℕ → Type 0
  Says o last = (o ≡ a) × (last ≡ buffer_with c f rows begins x buffer)

  after : {o : Answer ℕ} → o ≡ a → elim o [ no r ↦ buffer | ok n ↦ drawn_from c rows begins (spot f.path x) n buffer ] ≡ buffer_with c f rows begins x buffer
  unfolding buffer_with
  after e = ap (λ (o : Answer ℕ). elim o [ no r ↦ buffer | ok n ↦ drawn_from c rows begins (spot f.path x) n buffer ]) e

  pub few_begins : length begins < length rows → Says (no refused.Geometry) buffer
  unfolding answered
  few_begins h = let e = sym (less_yes (length begins) (length rows) _ _ h) in (e, after e)

  module _ (enough : length rows ≤ length begins) {u : Bool} (d : u ≡ bit31 f.perm) where
    asked : if_true u (no (refused.NoFile f.path)) (ok (min (length buffer) (f.length - x))) ≡ a
    unfolding answered is_dir
    asked = ap (λ (v : Bool). if_true v (no (refused.NoFile f.path)) (ok (min (length buffer) (f.length - x)))) d
        ∙ sym (less_no (length begins) (length rows) _ _ enough)

    pub no_read : u ≡ true → Says (no (refused.NoFile f.path)) buffer
    unfolding if_true
    no_read t =
        let e : no (refused.NoFile f.path) ≡ a =
        sym (ap (λ (v : Bool). if_true v (no (refused.NoFile f.path)) (ok (min (length buffer) (f.length - x)))) t) ∙ asked in
        (e, after e)

    module _ (t : u ≡ false) {n : ℕ} (z : n ≡ min (length buffer) (f.length - x)) where
      counted : ok n ≡ a
      unfolding if_true
      counted = ap {B = Answer ℕ} (λ k. ok k) z
          ∙ sym (ap (λ (v : Bool). if_true v (no (refused.NoFile f.path)) (ok (min (length buffer) (f.length - x)))) t) ∙ asked

      pub yes_read : {last : List ℕ} → last ≡ drawn_from c rows begins (spot f.path x) n buffer → Says (ok n) last
      yes_read e = (counted, e ∙ after counted)

      pub none_read : n ≤ 0 → Says (ok n) buffer
      none_read h =
          let k : 0 ≡ n = omega arith in
          yes_read (drawn_none c rows begins (spot f.path x) buffer ∙ ap (λ (j : ℕ). drawn_from c rows begins (spot f.path x) j buffer) k)
