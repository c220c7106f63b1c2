-- The lines of the program `room`. Every line ends in a newline, and its fields are parted by one tab, as those of the listing.
use Rattle.std.specs.Prelude.{ℕ, List, [], ◌∷◌, ◌++◌}
use Rattle.meaning.specs.declared.Block.{Block}
use Rattle.meaning.specs.declared.Number.{Number}
use Rattle.meaning.specs.declared.Step.{Step}
use Rattle.meaning.specs.declared.Step.TheVariants.{Erase, PageWrite, LabelWrite}
use Rattle.text.specs.Piece.{tab, newline}
use Rattle.listing.specs.Lines.{joined, field, hex_text}

-- ---- one number, or a page

unfoldable pub line_of : ℕ → ℕ → List ℕ
line_of letter n = joined ((letter ∷ []) ∷ field n ∷ (newline ∷ []) ∷ [])

-- K: a physical block on "the erase list"
abbrev pub block_line : Block → List ℕ
block_line b = line_of 75 b.0

-- R: the number of a data block
abbrev pub number_line : Number → List ℕ
number_line n = line_of 82 n.0

-- U: "A data page is used exactly if a live extent touches it": a block's number, and the page
unfoldable pub page_line : Number → ℕ → List ℕ
page_line n page = joined ((85 ∷ []) ∷ field n.0 ∷ field page ∷ (newline ∷ []) ∷ [])

-- ---- a step

unfoldable pub step_head : ℕ → List ℕ
step_head kind = joined ((83 ∷ []) ∷ (tab ∷ []) ∷ (kind ∷ []) ∷ [])

-- "an erase (block)"
unfoldable pub erase_line : Block → List ℕ
erase_line b = joined (step_head 101 ∷ field b.0 ∷ (newline ∷ []) ∷ [])

-- "a page write (from which block, to which, page)"
unfoldable pub write_line : Block → Block → ℕ → List ℕ
write_line from to page = joined (step_head 119 ∷ field from.0 ∷ field to.0 ∷ field page ∷ (newline ∷ []) ∷ [])

-- "a label write (block, label)": the tag's two hex digits, and the path
unfoldable pub label_line : Block → ℕ → ℕ → List ℕ
label_line b tag path = joined (step_head 108 ∷ field b.0 ∷ (tab ∷ []) ∷ hex_text tag ∷ field path ∷ (newline ∷ []) ∷ [])

unfoldable pub step_line : Step → List ℕ
step_line (Erase b) = erase_line b
step_line (PageWrite from to page) = write_line from to page
step_line (LabelWrite b tag path) = label_line b tag path

-- ---- a file's bytes

unfoldable pub bytes_text : List ℕ → List ℕ
bytes_text [] = []
bytes_text (b ∷ bs) = hex_text b ++ bytes_text bs

-- D: the path, the offset of the first byte, and the bytes in hex
unfoldable pub data_line : ℕ → ℕ → List ℕ → List ℕ
data_line path offset bytes = joined ((68 ∷ []) ∷ field path ∷ field offset ∷ (tab ∷ []) ∷ bytes_text bytes ∷ (newline ∷ []) ∷ [])
