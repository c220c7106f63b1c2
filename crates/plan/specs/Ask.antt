-- What is asked of one place or number, where the definitions of meaning ask it inside a scan.
use Rattle.std.specs.Prelude.{ℕ, ◌+◌, ◌%◌, ◌≤◌, ◌<◌, ◌≡◌, ◌≢◌, Bool, false, not, ◌&&◌, ◌||◌, List, length, get_or, eqb, ltb, leb}
use Rattle.std.proofs.Math.Option.{Option}
use Rattle.meaning.specs.declared.Tag.{Tag}
use Rattle.meaning.specs.Flash.{Labels, copy_of, follows, log_generation, log_number, log_r, r_of}
use Rattle.meaning.specs.Labels.{is}
use Rattle.base.specs.Choice.{if_true, on_some}
use Rattle.base.specs.Scan.{any}
use Rattle.label.specs.Search.{bears}

-- place j, at `from` or above, is of tag t and r
unfoldable pub bearer : Labels → Tag → ℕ → ℕ → ℕ → Bool
bearer m t r from j = leb from j && bears m t r j

-- neither copy follows the other
unfoldable pub apart : Labels → ℕ → ℕ → Bool
apart m i j = not (follows (copy_of (m.path i)) (copy_of (m.path j)) || follows (copy_of (m.path j)) (copy_of (m.path i)))

-- the low bits of a path's r
unfoldable pub low_bits : ℕ → ℕ
low_bits path = r_of path % 1024

-- a count for each low bits of r: at least 1 where one of the first n paths has them, at least 2 where two have
pub record Tallied (paths : List ℕ) (n : ℕ) (counts : List ℕ) : Type 0 where
  pub long : length counts ≡ 1024
  pub one : (h i : ℕ) → i < n → low_bits (get_or paths i 0) ≡ h → 1 ≤ get_or counts h 0
  pub two : (h i j : ℕ) → i < n → j < n → i ≢ j → low_bits (get_or paths i 0) ≡ h → low_bits (get_or paths j 0) ≡ h → 2 ≤ get_or counts h 0

-- the number of a log block of generation g, where it is below the lowest so far, else that
unfoldable pub lower : ℕ → ℕ → Option ℕ → ℕ
lower g best o = on_some o best (λ r. if_true (eqb (log_generation r) g && ltb (log_number r) best) (log_number r) best)

-- a log block of r o has the number that lies x above `from` in generation g, and no other of the 1024 from there up
abbrev pub NumberFrom : ℕ → ℕ → Option ℕ → ℕ → Type 0
NumberFrom g from o x = (y : ℕ) → y < 1024 → is o (log_r (from + y) g) ≡ eqb x y

-- a flag for each of the 1024 numbers from `from` up: it is set for those of generation g in the first k places of a view
pub record Numbers (v : ℕ → Option ℕ) (g from k : ℕ) (flags : List Bool) : Type 0 where
  pub long : length flags ≡ 1025
  pub exact : (x : ℕ) → x < 1024 → get_or flags x false ≡ any k (λ i. is (v i) (log_r (from + x) g))
