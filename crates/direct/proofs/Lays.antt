-- A run laid over what the buffer holds, as the code puts it there.
use Prim.Native.Nat.{ℕ, ◌+◌, ◌-◌, ◌≤◌, ◌<◌, min, max}
use mathlib.Core.Path.{◌≡◌, refl, sym, ap, ◌∙◌}
use mathlib.Core.List.{List, ◌++◌}
use native.Mathlib.Omega.{arith}
use borrow.Rule.Slice.PartMut.{put_mid}
use lib.ListN.{length, take, drop}
use lib.Seq.{drop-drop}
use Rattle.base.proofs.Choices.{less_yes, less_no}
use Rattle.meaning.specs.declared.Extent.{Extent}
use Rattle.meaning.specs.Replay.{start, end}
use Rattle.extent.proofs.Line.{start_end}
use Rattle.read.specs.Pieces.{larger}
use Rattle.read.proofs.Draws.{max_larger}
use Rattle.direct.specs.Direct.{put, laid}

gap : (k s t : ℕ) → k ≤ s → s < t → (t - k - (s - k) ≡ t - s) × (s - k + (t - s) ≡ t - k)
gap k s t h l = (omega arith, omega arith)

first_at : (w a s t : ℕ) → a ≤ s → s < t → (w + (t - a) - (t - s) ≡ w + (s - a)) × (w + (t - a) - (w + (s - a)) ≡ t - s)
first_at w a s t h l = (omega arith, omega arith)

module _ (c b : List ℕ) (k a begin s t : ℕ) (from-k : k ≤ s) (from-a : a ≤ s) (some : s < t) where
  pub put_past : length c < begin + (t - a) → b ≡ put c k a begin s t b
  unfolding put
  put_past h = sym (less_yes (length c) (begin + (t - a)) _ _ h)

  pub put_there : {w : ℕ} {ys : List ℕ} → w ≡ begin → w + (t - a) ≤ length c
      → ys ≡ take (w + (t - a) - (w + (t - a) - (t - k - (s - k)))) (drop (w + (t - a) - (t - k - (s - k))) c)
      → put_mid (s - k) (t - k - (s - k)) b ys ≡ put c k a begin s t b
  unfolding put
  put_there {w} {ys} p h y =
      let d = gap k s t from-k some in
      let u = first_at w a s t from-a some in
      let z : ys ≡ take (t - s) (drop (w + (s - a)) c) = y ∙ rw (d.0, u.0, u.1) refl in
      let r : put_mid (s - k) (t - k - (s - k)) b ys ≡ take (s - k) b ++ (take (t - s) (drop (begin + (s - a)) c) ++ drop (t - k) b) =
      rw (drop-drop (t - k - (s - k)) (s - k) b, d.0, d.1, z, p) refl in
      r ∙ sym (less_no (length c) (begin + (t - a)) _ _ (omega arith))

-- ---- a run, by its places: s where it starts, from and s + v bound what it has of the n bytes from k on

module _ (k n : ℕ) (e : Extent) {s from v : ℕ} (st : s ≡ start e) (fr : from ≡ max k s) (lv : v ≡ min e.count (k + n - s)) where
  from_is : larger k (start e) ≡ from
  from_is = sym (max_larger k (start e)) ∙ ap (max k) (sym st) ∙ sym fr

  pub laid_some : (c : List ℕ) (begin : ℕ) (b : List ℕ) {last : List ℕ} → from < s + v → last ≡ put c k s begin from (s + v) b → last ≡ laid c k n e begin b
  unfolding laid
  laid_some c begin b h p =
      let to_is : min (k + n) (end e) ≡ s + v = omega (arith, start_end e) in
      rw (from_is, to_is) (p ∙ ap (λ (a : ℕ). put c k a begin from (s + v) b) st ∙ sym (less_yes from (s + v) _ _ h))

  pub laid_none : (c : List ℕ) (begin : ℕ) (b : List ℕ) → s + v ≤ from → b ≡ laid c k n e begin b
  unfolding laid
  laid_none c begin b h = rw from_is (sym (less_no from (min (k + n) (end e)) _ _ (omega (arith, start_end e))))
