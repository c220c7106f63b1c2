-- What a mount shows of a dump, in numbers: the lines of document 01's listing, for rows that the checker computes.
use Prim.Native.Nat.{ℕ, zero, suc, ◌+◌, ◌-◌, ◌*◌, ◌/◌, ◌%◌, ◌^◌}
use mathlib.Core.Bool.{true, false, xor}
use mathlib.Core.List.{List, [], ◌∷◌, ◌++◌}
use lib.ListN.{length, replicate}
use lib.Dec.{eqb}
use Rattle.meaning.specs.declared.Geometry.{Geometry}
use Rattle.meaning.specs.declared.Record.{Record}
use Rattle.meaning.specs.declared.Extent.{Extent}
use Rattle.base.specs.Choice.{if_true, if_less, if_eq, bind, on_some, is_some, test, or_else, provided, or_zero}
use Rattle.base.specs.Scan.{any, first, places, all_of, any_of}
use Rattle.meaning.specs.Answer.{Answer, ok, no, number_of, place_of, unless, and_then, lowest}
use Rattle.meaning.specs.Flash.{Lent, good_size, good_pages, good_geometry, block_size, address_of, fits, text, tag_of, byte_of, same_tag, copy_of, r_of, log_r, log_number, log_generation, block_number, path_of, successor, follows, bad_tag, bad_path, labels_of, begins, image_of, blank, page_of}
use Rattle.meaning.specs.Labels.{same_block, newer, clash, unresolved, older, counts, view, is, of_generation, find, has, gap, boot_gap, has_generation, leads, active_generation, lowest_number, unbroken, plan_from, plan_of, in_active, in_swept, dropped, placed, stray, unswept, bad_log, log_plan, generation_at, find_log, find_data, label_refusal, unplaced}
use Rattle.meaning.specs.Log.{empty, stopped, entry, join, embedded_limit, messages, page_log, log_page, pages_from, block_log, log_of, bytes_at, log_block, log_blocks, planned, replayed, insertion}
use Rattle.meaning.specs.Message.{u16, u32, string, place_at, past, barred, dots, good_name, good_embedded, good_run, in_log, good_data, well_formed, create_at, remove_at, truncate_at, write_at, wstat_at, typed, parse}
use Rattle.meaning.specs.Mount.{Mounted, in_data, touches, used, used_pages, idle, lacks, absent, is_dropped, is_idle, to_erase, erase_list, shown, mount, mount_of, mount_into, filled, table_after, covers, where_is, log_bytes, data_bytes, byte_in, byte_at, file_byte}
use Rattle.meaning.specs.Replay.{nothing, root, bit31, is_dir, look, alter, insert, delete, entry_of, is_empty, home_of, spot, start, end, front, back, before, after, lay, others, stamp, sized, created, truncated, written, given, given_text, restated, judge, applies, own_after, parent_after, records_after, extents_after, changed, full, within_limits, passed_over, step, told, bare, replay}
use Rattle.meaning.specs.Services.{overwrite, relabel, erased, done, inside, do_step, do_steps, settle_steps, settle, is_free, free_blocks, lowest_free, writable, cleared, renewed_path, reclaim_steps, reclaim_on, reclaim, done_all, leaves, bytes_from, readable, read, copied, buffer_after}

-- ---- a dump

-- a P line: block, page, and its bytes as one number with their count, the first byte highest
pub record Given : Type 0 where
  pub block : ℕ
  pub page : ℕ
  pub count : ℕ
  pub bytes : ℕ

unfoldable pub line : ℕ → ℕ → ℕ → ℕ → Given
line b p n x = record { block = b; page = p; count = n; bytes = x }

pub record Dump : Type 0 where
  pub geometry : Geometry
  pub tags : List ℕ
  pub paths : List ℕ
  pub pages : List Given

-- the lowest n bytes of x, before acc
unfoldable pub spelled : ℕ → ℕ → List ℕ → List ℕ
spelled zero x acc = acc
spelled (suc n) x acc = spelled n (x / 256) (x % 256 ∷ acc)

-- "bytes not given are 0xff": the contents from page q on, of which there are `left`
unfoldable pub contents_from : Geometry → ℕ → ℕ → List Given → List ℕ
contents_from g zero q ps = []
contents_from g (suc left) q [] = replicate g.size 0xff ++ contents_from g left (q + 1) []
contents_from g (suc left) q (p ∷ ps) = elim (eqb (p.block * g.pages + p.page) q) [
  | true ↦ spelled p.count p.bytes (replicate (g.size - p.count) 0xff) ++ contents_from g left (q + 1) ps
  | false ↦ replicate g.size 0xff ++ contents_from g left (q + 1) (p ∷ ps)
]

unfoldable pub lent : Dump → Lent
lent d = record {
  tags = d.tags;
  paths = d.paths;
  contents = contents_from d.geometry (length d.tags * d.geometry.pages) 0 d.pages;
}

-- ---- the lines: T, F, E and X, each with its letter first

unfoldable pub extent_line : Extent → List ℕ
extent_line x = 69 ∷ x.offset ∷ x.count ∷ if_true (in_log x.address) (76 ∷ (x.address - 2 ^ 31) ∷ []) (68 ∷ x.address ∷ [])

unfoldable pub extent_lines : ℕ → List Extent → List (List ℕ)
extent_lines p [] = []
extent_lines p (x ∷ xs) = if_eq x.path p (extent_line x ∷ extent_lines p xs) (extent_lines p xs)

unfoldable pub file_lines : List ℕ → List Extent → List Record → List (List ℕ)
file_lines contents xs [] = []
file_lines contents xs (f ∷ fs) =
    (70 ∷ f.path ∷ f.parent ∷ f.perm ∷ f.length ∷ f.cvers ∷ f.mtime ∷ text contents f.name)
    ∷ (extent_lines f.path xs ++ file_lines contents xs fs)

unfoldable pub answer_lines : List ℕ → Answer Mounted → List (List ℕ)
answer_lines contents (no r) = (88 ∷ number_of r ∷ place_of r ∷ []) ∷ []
answer_lines contents (ok a) =
    (84 ∷ length a.tree.records ∷ length a.tree.extents ∷ a.tree.applied ∷ a.tree.ignored ∷ on_some a.insert [] (λ i. i ∷ []))
    ∷ file_lines contents a.tree.extents a.tree.records

unfoldable pub lines : Dump → List (List ℕ)
unfolding xor if_true if_less if_eq bind on_some is_some test or_else provided or_zero any first places all_of any_of number_of place_of unless and_then lowest good_size good_pages good_geometry block_size address_of fits text tag_of byte_of same_tag copy_of r_of log_r log_number log_generation block_number path_of successor follows bad_tag bad_path labels_of begins image_of blank page_of same_block newer clash unresolved older counts view is find has gap boot_gap of_generation unplaced has_generation leads active_generation lowest_number unbroken plan_from plan_of in_active in_swept dropped placed stray unswept bad_log log_plan generation_at find_log find_data label_refusal empty stopped entry join embedded_limit messages page_log log_page pages_from block_log log_of bytes_at log_block log_blocks planned replayed insertion u16 u32 string place_at past barred dots good_name good_embedded good_run in_log good_data well_formed create_at remove_at truncate_at write_at wstat_at typed parse in_data touches used used_pages idle lacks absent is_dropped is_idle to_erase erase_list shown mount mount_of mount_into filled table_after covers where_is log_bytes data_bytes byte_in byte_at file_byte nothing root bit31 is_dir look alter insert delete entry_of is_empty home_of spot start end front back before after lay others stamp sized created truncated written given given_text restated judge applies own_after parent_after records_after extents_after changed full within_limits passed_over step told bare replay overwrite relabel erased done inside do_step do_steps settle_steps settle is_free free_blocks lowest_free writable cleared renewed_path reclaim_steps reclaim_on reclaim done_all leaves bytes_from readable read copied buffer_after line spelled contents_from lent extent_line extent_lines file_lines answer_lines
lines d = answer_lines (lent d).contents (mount_of d.geometry (lent d))
