-- Settle, reclaim and read, and one step by itself (01, "Making room, and where power may go").
use Rattle.std.specs.Prelude.{ℕ, zero, suc, ◌+◌, ◌-◌, ◌*◌, min, Bool, ◌&&◌, List, [], ◌∷◌, ◌++◌, map, length, set, take, drop, replicate, ltb}
use Rattle.meaning.specs.declared.Geometry.{Geometry}
use Rattle.meaning.specs.declared.Tag.TheVariants.{Free, Data}
use Rattle.meaning.specs.declared.Refusal.TheVariants as refused
use Rattle.meaning.specs.declared.Extent.{Extent}
use Rattle.meaning.specs.declared.Step.{Step}
use Rattle.meaning.specs.declared.Step.TheVariants.{Erase, PageWrite, LabelWrite}
use Rattle.base.specs.Choice.{if_true, if_less, on_some, or_zero}
use Rattle.base.specs.Scan.{first, places}
use Rattle.meaning.specs.Answer.{Answer, ok, no, and_then, block, number}
use Rattle.meaning.specs.Flash.{Lent, Image, Labels, image_of, begins, fits, block_size, blank, page_of, same_tag, byte_of, erased_path, copy_of, path_of, successor}
use Rattle.meaning.specs.Labels.{find_data}
use Rattle.meaning.specs.Replay.{is_dir, look}
use Rattle.meaning.specs.Mount.{Mounted, mount_of, used_pages, file_byte}

-- ---- one step on the lent slices

-- the slices with x in the contents from a place on
unfoldable pub overwrite : Lent → ℕ → List ℕ → Lent
overwrite l at x = record { tags = l.tags; paths = l.paths; contents = take at l.contents ++ x ++ drop (at + length x) l.contents }

unfoldable pub relabel : Lent → ℕ → ℕ → ℕ → Lent
relabel l i tag path = record { tags = set l.tags i tag; paths = set l.paths i path; contents = l.contents }

-- "An erased block has all bytes 0xff, tag 0xff, path 2^34 − 1."
unfoldable pub erased : Geometry → Lent → ℕ → Lent
erased g l i = relabel (overwrite l (begins g i) (replicate (block_size g) 0xff)) i (byte_of Free) erased_path

-- "an erase (block), a page write (from which block, to which, page) or a label write (block, label)"
unfoldable pub done : Geometry → Lent → Step → Lent
done g l (Erase b) = erased g l b.0
done g l (PageWrite from to p) = overwrite l (begins g to.0 + p * g.size) (page_of g ((image_of g l).bytes from.0) p)
done g l (LabelWrite b tag path) = relabel l b.0 tag path

unfoldable pub inside : Geometry → Step → Bool
inside g (Erase b) = ltb b.0 g.blocks
inside g (PageWrite from to p) = ltb from.0 g.blocks && ltb to.0 g.blocks && ltb p g.pages
inside g (LabelWrite b tag path) = ltb b.0 g.blocks

-- "Doing one step on lent flash and labels can be called by itself; a step outside the geometry is refused with 1."
unfoldable pub do_step : Geometry → Lent → Step → Answer Lent
do_step g l s = if_true (fits g l && inside g s) (ok (done g l s)) (no refused.Geometry)

-- a list of steps, each called by itself
unfoldable pub do_steps : Geometry → Lent → List Step → Answer Lent
do_steps g l [] = ok l
do_steps g l (s ∷ ss) = and_then (do_step g l s) (λ l'. do_steps g l' ss)

-- ---- settle

-- "Settle erases the blocks on the erase list, in ascending physical order."
unfoldable pub settle_steps : List ℕ → List Step
settle_steps erase = map (λ i. Erase (block i)) erase

unfoldable pub settle : Geometry → Lent → Answer (List Step)
settle g l = and_then (mount_of g l) (λ a. ok (settle_steps a.erase))

-- ---- reclaim

unfoldable pub is_free : Labels → ℕ → Bool
is_free m i = same_tag (m.tag i) Free

unfoldable pub free_blocks : ℕ → Labels → ℕ
free_blocks n m = length (places n (is_free m))

-- "the lowest physical free block"
unfoldable pub lowest_free : ℕ → Labels → ℕ
lowest_free n m = or_zero (first n (is_free m))

-- "(1) Erase it if not all blank.": the block may be written as it is
unfoldable pub writable : Image → ℕ → Bool
writable m i = blank (m.bytes i)

unfoldable pub cleared : Image → ℕ → List Step
cleared m i = if_true (writable m i) [] (Erase (block i) ∷ [])

-- "(3) Write the label: data, same number, copy generation + 1 mod 4."
unfoldable pub renewed_path : Labels → ℕ → ℕ → ℕ
renewed_path m d old = path_of d (successor (copy_of (m.path old)))

-- "(2) Write each used page, ascending, to the same page of the target. .. (4) Erase the old block."
unfoldable pub reclaim_steps : Geometry → Image → List Extent → ℕ → ℕ → ℕ → List Step
reclaim_steps g m xs d old target =
    cleared m target
    ++ (map (PageWrite (block old) (block target)) (used_pages g xs d)
    ++ (LabelWrite (block target) (byte_of Data) (renewed_path m.labels d old) ∷ Erase (block old) ∷ []))

-- after the mount's refusals: UNSETTLED, "erase list not empty"; NOBLOCK, "no data block of that number"; NOROOM, "fewer than two free
-- blocks". "the target is the lowest physical free block."
unfoldable pub reclaim_on : Geometry → Image → ℕ → Mounted → Answer (List Step)
reclaim_on g m d a =
    if_less 0 (length a.erase) (no refused.Unsettled)
    (on_some (find_data g.blocks m.labels d) (no (refused.NoBlock (number d))) (λ old.
    if_less (free_blocks g.blocks m.labels) 2 (no (refused.NoRoom (free_blocks g.blocks m.labels)))
    (ok (reclaim_steps g m a.tree.extents d old (lowest_free g.blocks m.labels)))))

unfoldable pub reclaim : Geometry → Lent → ℕ → Answer (List Step)
reclaim g l d = and_then (mount_of g l) (reclaim_on g (image_of g l) d)

-- ---- what a settle or a reclaim leaves: "A whole run equals its list done in order"; a refusal changes nothing

unfoldable pub done_all : Geometry → Lent → List Step → Lent
done_all g l [] = l
done_all g l (s ∷ ss) = done_all g (done g l s) ss

unfoldable pub leaves : Geometry → Lent → Answer (List Step) → Lent
leaves g l (no r) = l
leaves g l (ok ss) = done_all g l ss

-- ---- read

-- n bytes of file p from byte x on
unfoldable pub bytes_from : Geometry → Image → List Extent → ℕ → ℕ → ℕ → List ℕ
bytes_from g m xs p x zero = []
bytes_from g m xs p x (suc n) = file_byte g m xs p x ∷ bytes_from g m xs p (x + 1) n

-- NOFILE: "path absent or a directory". Else "Read at offset x copies min(buffer, length − x) bytes, 0 if x ≥ length, and says how many".
unfoldable pub readable : Mounted → ℕ → ℕ → ℕ → Answer ℕ
readable a p x room =
    on_some (look p a.tree.records) (no (refused.NoFile p)) (λ f.
    if_true (is_dir f) (no (refused.NoFile p)) (ok (min room (f.length - x))))

unfoldable pub read : Geometry → Lent → ℕ → ℕ → ℕ → Answer ℕ
read g l p x room = and_then (mount_of g l) (λ a. readable a p x room)

-- what the buffer holds then: "the buffer's remainder is unchanged"
unfoldable pub copied : Geometry → Image → List Extent → ℕ → ℕ → List ℕ → ℕ → List ℕ
copied g m xs p x buffer n = bytes_from g m xs p x n ++ drop n buffer

unfoldable pub buffer_after : Geometry → Lent → ℕ → ℕ → List ℕ → List ℕ
buffer_after g l p x buffer = elim (mount_of g l) [
  | no r ↦ buffer
  | ok a ↦ elim (readable a p x (length buffer)) [
    | no r ↦ buffer
    | ok n ↦ copied g (image_of g l) a.tree.extents p x buffer n
  ]
]
