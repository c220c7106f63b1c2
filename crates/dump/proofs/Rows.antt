-- Document 01's worked dump and its sentences on bad lines, computed from the definitions.
use Prim.Native.Nat.{ℕ}
use Prim.Native.String.{String}
use mathlib.Core.List.{List, [], ◌∷◌, map}
use mathlib.Core.Path.{◌≡◌, refl}
use Rattle.std.specs.Prelude.{Result, Ok, Err}
use Rattle.base.specs.Choice.{if_true, if_less, if_eq, bind}
use Rattle.meaning.specs.declared.Geometry.{Geometry}
use Rattle.meaning.specs.declared.Refusal.{Refusal}
use Rattle.meaning.specs.declared.Refusal.TheVariants as refused
use Rattle.meaning.specs.Answer.{Answer, ok}
use Rattle.meaning.specs.Flash.{good_size, good_pages, good_geometry, block_size}
use Rattle.meaning.proofs.Shown as shown
use Rattle.text.specs.Piece.{peek_at, past_at, hex_digit, hex_at, on_read, head_at, number_step, number_from, number_at, byte_at, run_step, run_from, run_at}
use Rattle.text.specs.Put.{put}
use Rattle.text.proofs.Spelled.{spelled}
use Rattle.dump.specs.Lines.{sizes, right_sizes, small, first_at, label_at, page_at, places}
use Rattle.dump.specs.Dump.{on_ok, label_step, label_lines, page_step, page_lines, bad_line, dump_of}
use Rattle.dump.specs.Given.{Given, labels_from, bytes_from, pages_step, pages_from, content_bytes, image_at, given}
use Rattle.dump.specs.declared.Dump.{Dump}

-- a good dump: its sizes, and where its B lines and its P lines begin
abbrev pub fine : Geometry → ℕ → ℕ → Result Dump Refusal
fine g labels pages = Ok (record { geometry = g; labels = labels; pages = pages })

-- the dump of a text whose first line has that number, and the image that it gives
unfoldable pub says : ℕ → String → Result Dump Refusal
unfolding spelled if_true if_less if_eq bind peek_at past_at hex_digit hex_at on_read head_at number_step number_from number_at byte_at run_step run_from run_at put good_size good_pages good_geometry block_size right_sizes small first_at label_at page_at places on_ok label_step label_lines page_step page_lines dump_of labels_from bytes_from pages_step pages_from content_bytes image_at given
says first t = dump_of (spelled t) first

unfoldable pub read_as : String → Answer Given
unfolding spelled if_true if_less if_eq bind peek_at past_at hex_digit hex_at on_read head_at number_step number_from number_at byte_at run_step run_from run_at put good_size good_pages good_geometry block_size right_sizes small first_at label_at page_at places on_ok label_step label_lines page_step page_lines dump_of labels_from bytes_from pages_step pages_from content_bytes image_at given
read_as t = given (spelled t) 1

-- ---- the worked dump: where its lines stand, its labels and its bytes

unfoldable pub worked_text : String
worked_text = "G\t256\t4\t1\nB\t06\t0\nP\t0\t0\t631f0000000000a4010000070000006400000000000000030077696e01006101006177210007000000000000000800c8000000000000000100613e000080010203040506070865\n"

unfoldable pub worked_image : shown.Dump
worked_image = record {
  geometry = sizes 256 4 1;
  tags = 0x06 ∷ [];
  paths = 0 ∷ [];
  pages = shown.line 0 0 71 0x631f0000000000a4010000070000006400000000000000030077696e01006101006177210007000000000000000800c8000000000000000100613e000080010203040506070865 ∷ [];
}

pub worked_text_lem : (says 1 worked_text ≡ fine (sizes 256 4 1) 10 17)
    × (read_as worked_text ≡ ok (record { geometry = worked_image.geometry; lent = shown.lent worked_image }))
unfolding says read_as worked_text worked_image shown.lines
worked_text_lem = (refl, refl)

-- ---- the table

pub record Row : Type 0 where
  pub text : String
  pub answer : Result Dump Refusal

abbrev pub row : String → Result Dump Refusal → Row
row t d = record { text = t; answer = d }

abbrev pub table : List Row
table =
    -- the last line without its newline
    row "G\t256\t4\t1\nB\t06\t0\nP\t0\t0\t631f0000000000a4010000070000006400000000000000030077696e01006101006177210007000000000000000800c8000000000000000100613e000080010203040506070865" (fine (sizes 256 4 1) 10 17)
    -- hex digits in either case, the greatest number, no P line
    ∷ row "G\t256\t4\t1\nB\tfF\t18446744073709551615" (fine (sizes 256 4 1) 10 35)
    -- leading zeros; a byte 0xff given; pages ascend by block, then page
    ∷ row "G\t0256\t4\t2\nB\t06\t0\nB\tff\t7\nP\t0\t3\tff\nP\t1\t0\t00\n" (fine (sizes 256 4 2) 11 25)
    -- no line
    ∷ row "" (bad_line 1)
    -- an early end, after G, in G, and after B of two blocks
    ∷ row "G\t256\t4\t1\n" (bad_line 2)
    ∷ row "G\t256\t4\t1" (bad_line 2)
    ∷ row "G\t256\t4\t2\nB\t06\t0\n" (bad_line 3)
    -- wrong sizes: no later line is looked at
    ∷ row "G\t255\t4\t1\nrubbish" (Err refused.Geometry)
    ∷ row "G\t256\t4\t0\n" (Err refused.Geometry)
    ∷ row "G\t256\t4\t1025\n" (Err refused.Geometry)
    -- 32,768 content bytes pass, one block more does not
    ∷ row "G\t256\t4\t32\n" (bad_line 2)
    ∷ row "G\t256\t4\t33\n" (bad_line 1)
    -- a fourth number; a carriage return; a tab missing
    ∷ row "G\t256\t4\t1\t4\n" (bad_line 1)
    ∷ row "G\t256\t4\t1\r\n" (bad_line 1)
    ∷ row "G256\t4\t1\n" (bad_line 1)
    -- 2^64, twenty-one digits, no digit, no hex digit, three of them
    ∷ row "G\t256\t4\t1\nB\t06\t18446744073709551616\n" (bad_line 2)
    ∷ row "G\t256\t4\t1\nB\t06\t000000000000000000000\n" (bad_line 2)
    ∷ row "G\t256\t4\t1\nB\t06\t\n" (bad_line 2)
    ∷ row "G\t256\t4\t1\nB\t0:\t0\n" (bad_line 2)
    ∷ row "G\t256\t4\t1\nB\t006\t0\n" (bad_line 2)
    -- one B too many, a second G, an empty line
    ∷ row "G\t256\t4\t1\nB\t06\t0\nB\t06\t0\n" (bad_line 3)
    ∷ row "G\t256\t4\t1\nB\t06\t0\nG\t256\t4\t1\n" (bad_line 3)
    ∷ row "G\t256\t4\t1\nB\t06\t0\n\n" (bad_line 3)
    -- a page that is not there, a block that is not there, no byte
    ∷ row "G\t256\t4\t1\nB\t06\t0\nP\t0\t4\t01\n" (bad_line 3)
    ∷ row "G\t256\t4\t1\nB\t06\t0\nP\t1\t0\t01\n" (bad_line 3)
    ∷ row "G\t256\t4\t1\nB\t06\t0\nP\t0\t0\t\n" (bad_line 3)
    -- a page twice, and one before another
    ∷ row "G\t256\t4\t1\nB\t06\t0\nP\t0\t0\t01\nP\t0\t0\t01\n" (bad_line 4)
    ∷ row "G\t256\t4\t1\nB\t06\t0\nP\t0\t1\t01\nP\t0\t0\t01\n" (bad_line 4)
    ∷ []

pub bad_lines : map (λ (r : Row). says 1 r.text) table ≡ map (λ (r : Row). r.answer) table
unfolding says
bad_lines = refl

-- lines are counted from the number of the first
pub counted_on : says 40 "G\t256\t4\t2\nB\t06\t0\n" ≡ bad_line 42
unfolding says
counted_on = refl
