-- Mount: the labels, then the replay of the log, then the data blocks that live extents need.
use Rattle.std.specs.Prelude.{ℕ, ◌+◌, ◌-◌, ◌/◌, ◌%◌, ◌^◌, Bool, not, ◌&&◌, ◌||◌, List, [], ◌∷◌, ◌++◌, length, get_or, drop, eqb, ltb, leb}
use Rattle.std.proofs.Math.Option.{Option, none, some}
use Rattle.meaning.specs.declared.Geometry.{Geometry}
use Rattle.meaning.specs.declared.Tag.TheVariants.{Log, Data}
use Rattle.meaning.specs.declared.Refusal.{Refusal}
use Rattle.meaning.specs.declared.Refusal.TheVariants as refused
use Rattle.meaning.specs.declared.Record.{Record}
use Rattle.meaning.specs.declared.Extent.{Extent}
use Rattle.base.specs.Choice.{if_true, is_some, test, provided, or_else, on_some}
use Rattle.base.specs.Scan.{any, places, any_of}
use Rattle.meaning.specs.Answer.{Answer, ok, no, unless, and_then}
use Rattle.meaning.specs.Flash.{Lent, Image, Labels, image_of, fits, block_size, address_of}
use Rattle.meaning.specs.Labels.{older, view, log_plan, dropped, find_log, find_data, label_refusal}
use Rattle.meaning.specs.Message.{in_log}
use Rattle.meaning.specs.Log.{bytes_at, replayed, log_of, insertion}
use Rattle.meaning.specs.Replay.{Tree, spot, start, end, replay}

-- ---- the data that is needed

unfoldable pub in_data : Extent → Bool
in_data e = not (in_log e.address)

-- e has a byte on page p of data block d
unfoldable pub touches : Geometry → ℕ → ℕ → Extent → Bool
touches g d p e = in_data e && ltb e.address (address_of g d (p + 1) 0) && ltb (address_of g d p 0) (e.address + e.count)

-- "A data page is used exactly if a live extent touches it."
unfoldable pub used : Geometry → List Extent → ℕ → ℕ → Bool
used g xs d p = any_of (touches g d p) xs

-- the used pages of data block d, ascending
unfoldable pub used_pages : Geometry → List Extent → ℕ → List ℕ
used_pages g xs d = places g.pages (used g xs d)

-- data block d has "no used page"
unfoldable pub idle : Geometry → List Extent → ℕ → Bool
idle g xs d = not (any g.pages (used g xs d))

-- DATA: "a live extent's data block is absent"
unfoldable pub lacks : Geometry → Labels → Extent → Bool
lacks g m e = in_data e && not (is_some (find_data g.blocks m (e.address / block_size g)))

-- "lowest path of a file with one": extents ascend by path, so it is the first
unfoldable pub absent : Geometry → Labels → List Extent → Option Refusal
absent g m [] = none
absent g m (e ∷ es) = or_else (provided (lacks g m e) (refused.Data e.path)) (absent g m es)

-- ---- the erase list

-- "the older goes on the erase list"; "the swept block of that number .. goes on the erase list"; "Data blocks with no used page join
-- the erase list."
unfoldable pub is_dropped : ℕ → Labels → ℕ → Bool
is_dropped n m i = test (dropped (log_plan n m)) (view n m Log i)

unfoldable pub is_idle : Geometry → Labels → List Extent → ℕ → Bool
is_idle g m xs i = test (idle g xs) (view g.blocks m Data i)

unfoldable pub to_erase : Geometry → Labels → List Extent → ℕ → Bool
to_erase g m xs i = older g.blocks m i || (is_dropped g.blocks m i || is_idle g m xs i)

unfoldable pub erase_list : Geometry → Labels → List Extent → List ℕ
erase_list g m xs = places g.blocks (to_erase g m xs)

-- ---- the mount

pub record Mounted : Type 0 where
  pub tree : Tree
  pub erase : List ℕ  -- physical blocks, ascending
  pub insert : Option ℕ

unfoldable pub shown : Geometry → Image → Tree → Mounted
shown g m t = record { tree = t; erase = erase_list g m.labels t.extents; insert = insertion g (replayed g m) }

-- "Lowest number first": refusals 2 to 6, then 7 to 9, then 10
unfoldable pub mount : Geometry → Image → Answer Mounted
mount g m =
    unless (label_refusal g.blocks m.labels)
    (and_then (replay (log_of g (replayed g m))) (λ t.
    unless (absent g m.labels t.extents)
    (ok (shown g m t))))

-- GEOMETRY: "a size, count or slice length is wrong"
unfoldable pub mount_of : Geometry → Lent → Answer Mounted
mount_of g l = if_true (fits g l) (mount g (image_of g l)) (no refused.Geometry)

-- The service. "the record table has 256 places"
unfoldable pub mount_into : Geometry → Lent → List Record → Answer Mounted
mount_into g l table = if_true (eqb (length table) 256) (mount_of g l) (no refused.Geometry)

-- what the table holds then: "Records .. stand in the table by ascending path; places past the last record are unchanged."
unfoldable pub filled : List Record → List Record → List Record
filled records table = records ++ drop (length records) table

unfoldable pub table_after : Geometry → Lent → List Record → List Record
table_after g l table = elim (mount_into g l table) [ no r ↦ table | ok a ↦ filled a.tree.records table ]

-- ---- the bytes of a file

-- x holds what stands at k of the extents' line
unfoldable pub covers : ℕ → Extent → Bool
covers k x = leb (start x) k && ltb k (end x)

-- the address of byte i of file p
unfoldable pub where_is : List Extent → ℕ → ℕ → Option ℕ
where_is [] p i = none
where_is (x ∷ xs) p i = if_true (covers (spot p i) x) (some (x.address + (spot p i - start x))) (where_is xs p i)

unfoldable pub log_bytes : Geometry → Image → ℕ → List ℕ
log_bytes g m k = bytes_at m (find_log g.blocks m.labels k)

unfoldable pub data_bytes : Geometry → Image → ℕ → List ℕ
data_bytes g m d = bytes_at m (find_data g.blocks m.labels d)

-- the byte at a logical address, in a block by its number
unfoldable pub byte_in : Geometry → (ℕ → List ℕ) → ℕ → ℕ
byte_in g blocks a = get_or (blocks (a / block_size g)) (a % block_size g) 0

unfoldable pub byte_at : Geometry → Image → ℕ → ℕ
byte_at g m a = if_true (in_log a) (byte_in g (log_bytes g m) (a - 2 ^ 31)) (byte_in g (data_bytes g m) a)

-- byte i of file p, "else 0"
unfoldable pub file_byte : Geometry → Image → List Extent → ℕ → ℕ → ℕ
file_byte g m xs p i = on_some (where_is xs p i) 0 (byte_at g m)
