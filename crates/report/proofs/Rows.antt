-- A line of each kind, computed from the definitions.
use mathlib.Core.List.{[], ◌∷◌}
use mathlib.Core.Path.{◌≡◌, refl}
use Rattle.base.specs.Choice.{if_true, if_less, bind}
use Rattle.meaning.specs.Answer.{block, number}
use Rattle.meaning.specs.declared.Step.TheVariants.{Erase, PageWrite, LabelWrite}
use Rattle.text.proofs.Spelled.{spelled}
use Rattle.listing.specs.Lines.{joined, digits_of, decimal, field, hex_sign, hex_text}
use Rattle.report.specs.Lines.{line_of, block_line, number_line, page_line, step_head, erase_line, write_line, label_line, step_line, bytes_text, data_line}

pub lines : (page_line (number 2) 3 ≡ spelled "U\t2\t3\n")
    × (block_line (block 9) ≡ spelled "K\t9\n")
    × (number_line (number 4095) ≡ spelled "R\t4095\n")
    × (step_line (Erase (block 9)) ≡ spelled "S\te\t9\n")
    × (step_line (PageWrite (block 6) (block 1) 3) ≡ spelled "S\tw\t6\t1\t3\n")
    × (step_line (LabelWrite (block 1) 0x18 21) ≡ spelled "S\tl\t1\t18\t21\n")
    × (data_line 13 0 (0x73 ∷ 0x00 ∷ 0xff ∷ []) ≡ spelled "D\t13\t0\t7300ff\n")
    × (data_line 12 0 [] ≡ spelled "D\t12\t0\t\n")
unfolding if_true if_less bind line_of page_line step_head erase_line write_line label_line step_line bytes_text data_line joined digits_of decimal field hex_sign hex_text spelled
lines = (refl, refl, refl, refl, refl, refl, refl, refl)
