-- Document 01's worked example, from the dump's text to the listing's, and lines of its other sentences, computed from the definitions.
use Prim.Native.Nat.{ℕ, ◌-◌, ◌^◌}
use Prim.Native.String.{String}
use mathlib.Core.List.{List, [], ◌∷◌}
use mathlib.Core.Path.{◌≡◌, refl}
use Rattle.meaning.specs.declared.Refusal.TheVariants as refused
use Rattle.meaning.proofs.Shown as shown
use Rattle.text.proofs.Spelled.{spelled}
use Rattle.dump.proofs.Rows.{worked_text, read_as}
use Rattle.listing.specs.Lines.{joined, digits_of, decimal, field, hex_sign, hex_text, percent, escaped, escapes, name_text, insertion_text, total_line, record_text, file_line, run_line, extent_line, refusal_line}
use Rattle.listing.specs.Listing.{insertion_of, extent_lines, file_lines, mount_lines, listing, listed}

-- the bytes that the listing program writes of a text
unfoldable pub prints : String → List ℕ
unfolding read_as shown.lines joined digits_of decimal field hex_sign hex_text percent escaped escapes name_text insertion_text total_line record_text file_line run_line extent_line refusal_line insertion_of extent_lines file_lines mount_lines listing listed
prints t = listed (spelled t) 1

-- the worked dump's listing
pub worked_listing : prints worked_text ≡ spelled "T\t2\t1\t2\t0\t256\nF\t0\t0\t2147484141\t0\t0\t0\t/\nF\t7\t0\t420\t8\t0\t200\twin\nE\t0\t8\tL\t62\n"
unfolding prints worked_text spelled
worked_listing = refl

-- no log: a lone root, and no insertion point
pub no_log : prints "G\t256\t4\t1\nB\tff\t0\n" ≡ spelled "T\t1\t0\t0\t0\t-\nF\t0\t0\t2147484141\t0\t0\t0\t/\n"
unfolding prints spelled
no_log = refl

-- refusals: wrong sizes, an early end, and one of the mount's
pub refusals : (prints "G\t255\t4\t1\n" ≡ spelled "X\t1\t0\n") × (prints "G\t256\t4\t1\n" ≡ spelled "X\t15\t2\n")
    × (prints "G\t256\t4\t2\nB\tff\t0\nB\t67\t0\n" ≡ spelled "X\t2\t1\n")
unfolding prints spelled
refusals = (refl, refl, refl)

-- names: the first and the last sign that print as they are, their neighbours, `%`, and a byte of two letters
pub names : name_text (0x21 ∷ 0x7e ∷ 0x20 ∷ 0x7f ∷ 0x25 ∷ 0xff ∷ []) ≡ spelled "!~%20%7f%25%ff"
unfolding prints spelled
names = refl

-- an extent in the data, and one at the log's first byte
pub extents : (extent_line (record { path = 7; offset = 170; count = 256; address = 2 ^ 31 - 1 }) ≡ spelled "E\t170\t256\tD\t2147483647\n")
    × (extent_line (record { path = 7; offset = 0; count = 1; address = 2 ^ 31 }) ≡ spelled "E\t0\t1\tL\t0\n")
unfolding prints spelled
extents = (refl, refl)

-- the greatest number has twenty digits
pub greatest : refusal_line (refused.NoFile 18446744073709551615) ≡ spelled "X\t14\t18446744073709551615\n"
unfolding prints spelled
greatest = refl
