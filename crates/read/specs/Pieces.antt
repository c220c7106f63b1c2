-- The bytes of a file as pieces: the bytes from an address on, and the run of an extent drawn over what a buffer holds.
use Rattle.std.specs.Prelude.{ℕ, zero, suc, ◌+◌, ◌-◌, ◌/◌, ◌%◌, ◌^◌, min, List, [], ◌∷◌, ◌++◌, take, drop}
use Rattle.std.proofs.Math.Option.{Option}
use Rattle.base.specs.Choice.{if_less}
use Rattle.meaning.specs.declared.Geometry.{Geometry}
use Rattle.meaning.specs.declared.Extent.{Extent}
use Rattle.meaning.specs.Flash.{Image, Labels, block_size}
use Rattle.meaning.specs.Labels.{find_log, find_data}
use Rattle.meaning.specs.Replay.{start, end}
use Rattle.meaning.specs.Mount.{byte_at}

-- n values of f from k on
unfoldable pub stretch : (ℕ → ℕ) → ℕ → ℕ → List ℕ
stretch f k zero = []
stretch f k (suc n) = f k ∷ stretch f (k + 1) n

unfoldable pub larger : ℕ → ℕ → ℕ
larger a b = if_less a b b a

-- ---- an address

-- without bit 31
unfoldable pub bare : ℕ → ℕ
bare a = if_less a (2 ^ 31) a (a - 2 ^ 31)

-- the physical block that it names
unfoldable pub place_at : Geometry → Labels → ℕ → Option ℕ
place_at g m a = if_less a (2 ^ 31) (find_data g.blocks m (bare a / block_size g)) (find_log g.blocks m (bare a / block_size g))

-- how many of n bytes from a on stand in a's block
unfoldable pub in_block : Geometry → ℕ → ℕ → ℕ
in_block g a n = min n (block_size g - bare a % block_size g)

-- ---- a run

-- b holds what stands from k on; what e has of it from s up to t is put there
unfoldable pub put : Geometry → Image → ℕ → Extent → ℕ → ℕ → List ℕ → List ℕ
put g m k e s t b = take (s - k) b ++ (stretch (byte_at g m) (e.address + (s - start e)) (t - s) ++ drop (t - k) b)

-- what e has of the n bytes from k on is put there
unfoldable pub drawn : Geometry → Image → ℕ → ℕ → Extent → List ℕ → List ℕ
drawn g m k n e b = if_less (larger k (start e)) (min (k + n) (end e)) (put g m k e (larger k (start e)) (min (k + n) (end e)) b) b
