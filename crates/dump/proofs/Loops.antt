-- The loops over lines and bytes: of each, a law by which a turn is the definition's step, and one for the loop's end.
use Prim.Native.Nat.{ℕ, suc, ◌+◌, ◌-◌, ◌≤◌, ◌<◌}
use native.Mathlib.Omega.{arith}
use mathlib.Core.List.{List, [], ◌∷◌, ◌++◌}
use lib.ListN.{length, drop, replicate, length-replicate}
use mathlib.Core.Path.{◌≡◌, refl}
use Rattle.std.specs.Prelude.{Ok}
use Rattle.meaning.specs.declared.Geometry.{Geometry}
use Rattle.text.specs.Piece.{hex_at, past_at, on_read}
use Rattle.text.specs.Put.{put}
use Rattle.text.proofs.Puts.{put_fits}
use Rattle.dump.specs.Lines.{label_at}
use Rattle.dump.specs.Dump.{label_step, label_lines, page_step, page_lines, bad_line}
use Rattle.dump.specs.Given.{labels_from, bytes_from, pages_step, pages_from}

module _ (s : List ℕ) where
  pub label_turn : (end i line : ℕ) → line < end → label_lines s (end - line) i line ≡ label_step s i line (label_lines s (end - (line + 1)))
  unfolding label_lines
  label_turn end i line h = let e : end - line ≡ suc (end - (line + 1)) = omega arith in rw e

  pub label_out : (end i line : ℕ) → end ≤ line → label_lines s (end - line) i line ≡ Ok i
  unfolding label_lines
  label_out end i line h = let e : end - line ≡ 0 = omega arith in rw e

  pub labels_turn : (f : ℕ → ℕ → ℕ) (n k i : ℕ) → k < n
      → labels_from f s (n - k) i ≡ on_read (label_at s i) [] (λ label. f label.tag label.path ∷ labels_from f s (n - (k + 1)) label.next)
  unfolding labels_from
  labels_turn f n k i h = let e : n - k ≡ suc (n - (k + 1)) = omega arith in rw e

  pub labels_out : (f : ℕ → ℕ → ℕ) (n k i : ℕ) → n ≤ k → labels_from f s (n - k) i ≡ []
  unfolding labels_from
  labels_out f n k i h = let e : n - k ≡ 0 = omega arith in rw e

  pub bytes_turn : (n k i : ℕ) → k < n
      → bytes_from s (n - k) i ≡ on_read (hex_at s i) [] (λ v. v ∷ bytes_from s (n - (k + 1)) (past_at s (past_at s i)))
  unfolding bytes_from
  bytes_turn n k i h = let e : n - k ≡ suc (n - (k + 1)) = omega arith in rw e

  pub bytes_out : (n k i : ℕ) → n ≤ k → bytes_from s (n - k) i ≡ []
  unfolding bytes_from
  bytes_out n k i h = let e : n - k ≡ 0 = omega arith in rw e

module _ (s : List ℕ) (g : Geometry) where
  pub page_turn : (end i line floor : ℕ) → line < end
      → page_lines s g (end - line) i line floor ≡ page_step s g i line floor (page_lines s g (end - (line + 1)))
  unfolding page_lines
  page_turn end i line floor h = let e : end - line ≡ suc (end - (line + 1)) = omega arith in rw e

  pub page_out : (end i line floor : ℕ) → end ≤ line → page_lines s g (end - line) i line floor ≡ bad_line line
  unfolding page_lines
  page_out end i line floor h = let e : end - line ≡ 0 = omega arith in rw e

  pub pages_turn : (n k i : ℕ) (l : List ℕ) → k < n → pages_from s g (n - k) i l ≡ pages_step s g i l (pages_from s g (n - (k + 1)))
  unfolding pages_from
  pages_turn n k i l h = let e : n - k ≡ suc (n - (k + 1)) = omega arith in rw e

  pub pages_out : (n k i : ℕ) (l : List ℕ) → n ≤ k → pages_from s g (n - k) i l ≡ l
  unfolding pages_from
  pages_out n k i l h = let e : n - k ≡ 0 = omega arith in rw e

pub put_none : (l : List ℕ) (at : ℕ) → put l at [] ≡ l
unfolding put
put_none l at = refl

-- what is put first, where there is room
pub put_same : (l : List ℕ) (n x : ℕ) → n ≤ length l → put l 0 (replicate n x) ≡ replicate n x ++ drop n l
put_same l n x h =
    let e : length (replicate n x) ≡ n = length-replicate n x in
    let k : 0 + length (replicate n x) ≤ length l = omega arith in
    let z : 0 + n ≡ n = omega arith in
    rw (put_fits l 0 (replicate n x) k, e, z)
