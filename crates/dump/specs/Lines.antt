-- The three kinds of line of a dump, from a place on (01, "The listing program"): "fields parted by tabs".
use Rattle.std.specs.Prelude.{ℕ, ◌+◌, ◌*◌, List, Option, Some, None, Result, Ok, Err}
use Rattle.base.specs.Choice.{if_true, if_less, bind}
use Rattle.meaning.specs.declared.Geometry.{Geometry}
use Rattle.meaning.specs.declared.Refusal.{Refusal}
use Rattle.meaning.specs.declared.Refusal.TheVariants as refused
use Rattle.meaning.specs.Flash.{good_geometry, block_size}
use Rattle.text.specs.declared.Field.{Field}
use Rattle.text.specs.Piece.{head_at, number_at, byte_at, run_at, on_read, tab, newline}
use Rattle.dump.specs.declared.Label.{Label}
use Rattle.dump.specs.declared.Page.{Page}

abbrev pub sizes : ℕ → ℕ → ℕ → Geometry
sizes size pages blocks = record { size = size; pages = pages; blocks = blocks }

unfoldable pub right_sizes : Geometry → Option Geometry
right_sizes g = if_true (good_geometry g) (Some g) None

-- A line is bad if it "is a G of right sizes with over 32,768 content bytes".
unfoldable pub small : Geometry → ℕ → ℕ → Result (Field Geometry) Refusal
small g next line =
    bind (block_size g) (λ b. if_less 32768 (g.blocks * b) (Err (refused.Dump line)) (Ok (record { value = g; next = next })))

-- "`G` page size, pages a block, blocks". "A G whose sizes are wrong gives GEOMETRY". The line has that number.
unfoldable pub first_at : List ℕ → ℕ → ℕ → Result (Field Geometry) Refusal
first_at s at line =
    bind (Err (refused.Dump line)) (λ bad.
    on_read (head_at s at 71) bad (λ i.
    on_read (number_at s i tab) bad (λ size.
    on_read (number_at s size.next tab) bad (λ pages.
    on_read (number_at s pages.next newline) bad (λ blocks.
    on_read (right_sizes (sizes size.value pages.value blocks.value)) (Err refused.Geometry) (λ g.
    small g blocks.next line))))))

-- "one `B` a block with tag (two hex digits) and path"
unfoldable pub label_at : List ℕ → ℕ → Option Label
label_at s at =
    on_read (head_at s at 66) None (λ i.
    on_read (byte_at s i tab) None (λ tag.
    on_read (number_at s tag.next newline) None (λ path.
    Some (record { tag = tag.value; path = path.value; next = path.next }))))

-- "`P` physical block, page, 1 to a page of hex bytes". A line is bad if it "names a place that is not there". Pages are counted over all
-- blocks, so that they ascend "by block, then page" where their count ascends.
unfoldable pub page_at : List ℕ → ℕ → Geometry → Option Page
page_at s at g =
    on_read (head_at s at 80) None (λ i.
    on_read (number_at s i tab) None (λ block.
    on_read (number_at s block.next tab) None (λ page.
    if_less block.value g.blocks
    (if_less page.value g.pages
    (on_read (run_at s page.next g.size) None (λ run.
    Some (record { place = block.value * g.pages + page.value; from = page.next; count = run.value; next = run.next })))
    None)
    None)))

-- how many pages there are
unfoldable pub places : Geometry → ℕ
places g = g.blocks * g.pages
