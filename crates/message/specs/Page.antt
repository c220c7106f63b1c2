-- A page as the code is handed it.
use Rattle.std.specs.Prelude.{ℕ, ◌^◌, ◌≤◌, ◌<◌, Bool, not, List, length}
use Rattle.meaning.specs.declared.Geometry.{Geometry}
use Rattle.meaning.specs.Flash.{block_size}
use Rattle.meaning.specs.Message.{Page, barred}

abbrev pub page : List ℕ → ℕ → ℕ → Page
page bytes address begin = record { bytes = bytes; address = address; begin = begin }

-- What keeps the decoder's sums in range: a page is at most 2^16 bytes long, and its address and its place in the contents are below 2^31.
pub record Ranged (g : Geometry) (bytes : List ℕ) (address begin : ℕ) : Type 0 where
  pub block : 0 < block_size g
  pub short : length bytes ≤ 2 ^ 16
  pub low : address < 2 ^ 31
  pub early : begin < 2 ^ 31

-- a message's payload from p to its end, on a page that is handed so
pub record Framed (bytes : List ℕ) (begin p end : ℕ) : Type 0 where
  pub order : p ≤ end
  pub within : end ≤ length bytes
  pub short : length bytes ≤ 2 ^ 16
  pub early : begin < 2 ^ 31

-- neither `/` nor a zero byte
unfoldable pub plain : ℕ → Bool
plain c = not (barred c)
