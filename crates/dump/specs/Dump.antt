-- A dump, line by line (01, "The listing program"): where its lines stand, or the refusal of its first bad line. A text that ends early
-- has no byte but a newline where the next line should be, so that line is the bad one: "input that ends early gives the line after its
-- last".
use Rattle.std.specs.Prelude.{ℕ, zero, suc, ◌+◌, List, length, Result, Ok, Err}
use Rattle.base.specs.Choice.{if_less}
use Rattle.meaning.specs.declared.Geometry.{Geometry}
use Rattle.meaning.specs.declared.Refusal.{Refusal}
use Rattle.meaning.specs.declared.Refusal.TheVariants as refused
use Rattle.text.specs.Piece.{on_read}
use Rattle.dump.specs.Lines.{first_at, label_at, page_at, places}
use Rattle.dump.specs.declared.Dump.{Dump}

-- k of the value, or f of the refusal
unfoldable pub on_ok : {A B : Type 0} → Result B Refusal → (Refusal → A) → (B → A) → A
on_ok (Ok x) f k = k x
on_ok (Err r) f k = f r

abbrev pub bad_line : {A : Type 0} → ℕ → Result A Refusal
bad_line line = Err (refused.Dump line)

-- one B line, of that number; `rest` goes on
unfoldable pub label_step : List ℕ → ℕ → ℕ → (ℕ → ℕ → Result ℕ Refusal) → Result ℕ Refusal
label_step s at line rest = on_read (label_at s at) (bad_line line) (λ label. rest label.next (line + 1))

-- so many B lines
unfoldable pub label_lines : List ℕ → ℕ → ℕ → ℕ → Result ℕ Refusal
label_lines s zero at line = Ok at
label_lines s (suc left) at line = label_step s at line (label_lines s left)

-- the text's end, or one P line; `rest` goes on. "P lines ascend by block, then page, none twice": a page below `floor` is out of order.
unfoldable pub page_step : List ℕ → Geometry → ℕ → ℕ → ℕ → (ℕ → ℕ → ℕ → Result ℕ Refusal) → Result ℕ Refusal
page_step s g at line floor rest =
    if_less at (length s)
    (on_read (page_at s at g) (bad_line line) (λ page.
    if_less page.place floor (bad_line line)
    (rest page.next (line + 1) (page.place + 1))))
    (Ok at)

-- P lines to the end, fewer than `left`
unfoldable pub page_lines : List ℕ → Geometry → ℕ → ℕ → ℕ → ℕ → Result ℕ Refusal
page_lines s g zero at line floor = bad_line line
page_lines s g (suc left) at line floor = page_step s g at line floor (page_lines s g left)

-- "G, then exactly as many B as blocks, then P". "The first bad line gives DUMP before any mount". "A G whose sizes are wrong gives
-- GEOMETRY, and no later line of that dump is looked at." The first line has the number `first`.
unfoldable pub dump_of : List ℕ → ℕ → Result Dump Refusal
dump_of s first =
    on_ok (first_at s 0 first) Err (λ sizes.
    on_ok (label_lines s sizes.value.blocks sizes.next (first + 1)) Err (λ pages.
    on_ok (page_lines s sizes.value (places sizes.value + 1) pages (first + 1 + sizes.value.blocks) 0) Err (λ end.
    Ok (record { geometry = sizes.value; labels = sizes.next; pages = pages }))))
