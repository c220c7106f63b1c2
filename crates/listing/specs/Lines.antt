-- The lines of the listing (01, "The listing program"). Every line ends in a newline, and its fields are parted by one tab.
use Rattle.std.specs.Prelude.{ℕ, zero, suc, ◌+◌, ◌-◌, ◌/◌, ◌%◌, ◌^◌, List, [], ◌∷◌, ◌++◌, length, Option, Some, None}
use Rattle.base.specs.Choice.{if_true, if_less, if_eq, bind}
use Rattle.meaning.specs.declared.Address.{Address}
use Rattle.meaning.specs.declared.Record.{Record}
use Rattle.meaning.specs.declared.Extent.{Extent}
use Rattle.meaning.specs.declared.Refusal.{Refusal}
use Rattle.meaning.specs.Answer.{number_of, place_of}
use Rattle.meaning.specs.Message.{in_log}
use Rattle.text.specs.Piece.{tab, newline}

-- one after another
unfoldable pub joined : List (List ℕ) → List ℕ
joined [] = []
joined (x ∷ xs) = x ++ joined xs

-- ---- numbers

-- at most `left` digits of n, no zero in front
unfoldable pub digits_of : ℕ → ℕ → List ℕ
digits_of zero n = []
digits_of (suc left) n = if_less n 10 ((48 + n) ∷ []) (digits_of left (n / 10) ++ ((48 + n % 10) ∷ []))

-- a number below 2^64 has at most 20
unfoldable pub decimal : ℕ → List ℕ
decimal n = digits_of 20 n

unfoldable pub field : ℕ → List ℕ
field n = joined ((tab ∷ []) ∷ decimal n ∷ [])

-- ---- names

-- a hex digit, in lower case
unfoldable pub hex_sign : ℕ → ℕ
hex_sign d = if_less d 10 (48 + d) (87 + d)

-- a byte as two hex digits
unfoldable pub hex_text : ℕ → List ℕ
hex_text b =
    bind (hex_sign (b / 16)) (λ h.
    bind (hex_sign (b % 16)) (λ l.
    joined ((h ∷ []) ∷ (l ∷ []) ∷ [])))

-- "`%` and two hex digits"
unfoldable pub percent : ℕ → List ℕ
percent b = joined ((37 ∷ []) ∷ hex_text b ∷ [])

-- "bytes outside 0x21 to 0x7e and `%` print as `%` and two hex digits"
unfoldable pub escaped : ℕ → List ℕ
escaped b = if_less b 0x21 (percent b) (if_less 0x7e b (percent b) (if_eq b 37 (percent b) (b ∷ [])))

unfoldable pub escapes : List ℕ → List ℕ
escapes [] = []
escapes (b ∷ bs) = escaped b ++ escapes bs

-- "the root's empty name prints as `/`"
unfoldable pub name_text : List ℕ → List ℕ
name_text name = if_eq (length name) 0 (47 ∷ []) (escapes name)

-- ---- the lines

-- "insertion address or `-`"
unfoldable pub insertion_text : Option Address → List ℕ
insertion_text (Some a) = field a.0
insertion_text None = joined ((tab ∷ []) ∷ (45 ∷ []) ∷ [])

-- "T: records, extents, messages applied, ignored (`e` in neither), insertion address or `-`."
unfoldable pub total_line : ℕ → ℕ → ℕ → ℕ → Option Address → List ℕ
total_line records extents applied ignored p =
    joined ((84 ∷ []) ∷ field records ∷ field extents ∷ field applied ∷ field ignored ∷ insertion_text p ∷ (newline ∷ []) ∷ [])

-- "F, by path: path, parent, perm, length, cvers, mtime, name"
unfoldable pub record_text : Record → List ℕ
record_text f =
    joined ((70 ∷ []) ∷ field f.path ∷ field f.parent ∷ field f.perm ∷ field f.length ∷ field f.cvers ∷ field f.mtime ∷ [])

unfoldable pub file_line : Record → List ℕ → List ℕ
file_line f name = joined (record_text f ∷ (tab ∷ []) ∷ name_text name ∷ (newline ∷ []) ∷ [])

-- "E .. offset, count, L (log) or D (data), address": the address in the log without the mark, bit 31
unfoldable pub run_line : Extent → ℕ → ℕ → List ℕ
run_line e kind address =
    joined ((69 ∷ []) ∷ field e.offset ∷ field e.count ∷ (tab ∷ []) ∷ (kind ∷ []) ∷ field address ∷ (newline ∷ []) ∷ [])

unfoldable pub extent_line : Extent → List ℕ
extent_line e = if_true (in_log e.address) (run_line e 76 (e.address - 2 ^ 31)) (run_line e 68 e.address)

-- "`X`, number, place"
unfoldable pub refusal_line : Refusal → List ℕ
refusal_line r =
    bind (number_of r) (λ number.
    bind (place_of r) (λ place.
    joined ((88 ∷ []) ∷ field number ∷ field place ∷ (newline ∷ []) ∷ [])))
