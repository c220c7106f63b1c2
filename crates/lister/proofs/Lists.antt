-- Lines written one after another, and the pieces of a record's line.
use Prim.Native.Nat.{ℕ, ◌+◌, ◌-◌, ◌≤◌, ◌<◌}
use native.Mathlib.Omega.{arith}
use mathlib.Core.List.{List, [], ◌++◌, map, append_assoc}
use mathlib.Core.Path.{◌≡◌, refl, sym}
use lib.ListN.{length, take, drop, get_or}
use Rattle.std.proofs.lemmas.List.{take_all, take_min, drop_min, length-drop}
use Rattle.base.specs.Choice.{if_eq}
use Rattle.meaning.specs.declared.Address.{Address}
use Rattle.meaning.specs.declared.Extent.{Extent}
use Rattle.meaning.specs.declared.Record.{Record}
use Rattle.meaning.specs.Flash.{text}
use Rattle.extent.specs.Rows.{extent_of}
use Rattle.tree.specs.Tree.{no_record}
use Rattle.listing.specs.Wrote.{Wrote}
use Rattle.listing.specs.Lines.{extent_line, file_line}
use Rattle.listing.specs.Listing.{extent_lines, file_lines, insertion_of}
use Rattle.std.specs.Prelude.{Option, Some, None, min}
use Rattle.shown.specs.Shown.{place_of}
use Rattle.listing.proofs.Left.{Left, left_start, left_done, left_on}
use Rattle.listing.proofs.Ways.{wrote_then}

-- ---- a file's extents

abbrev pub row_lines : ℕ → List (List ℕ) → List ℕ
row_lines p rows = extent_lines p (map extent_of rows)

module _ (p : ℕ) (rows : List (List ℕ)) (l₀ : List ℕ) (at₀ : ℕ) where
  pub rows_start : Left (row_lines p) rows l₀ at₀ 0 l₀ at₀
  rows_start = left_start (row_lines p) rows l₀ at₀

  module _ (i : ℕ) {l : List ℕ} {at : ℕ} (w : Left (row_lines p) rows l₀ at₀ i l at) where
    pub rows_done : length rows ≤ i → Wrote l₀ at₀ (extent_lines p (map extent_of rows)) l at
    unfolding extent_lines
    rows_done h = left_done (row_lines p) rows l₀ at₀ i w refl h

    pub rows_on : {m : List ℕ} {to : ℕ} → i < length rows
        → Wrote l at (if_eq (extent_of (get_or rows i [])).path p (extent_line (extent_of (get_or rows i []))) []) m to → Left (row_lines p) rows l₀ at₀ (i + 1) m to
    unfolding extent_lines
    rows_on h q = left_on (row_lines p) rows l₀ at₀ i w [] _ refl h q

pub ruleset rows_ways = (rows_start, rows_done, rows_on)

-- ---- the files

module _ (contents : List ℕ) (xs : List Extent) (records : List Record) (l₀ : List ℕ) (at₀ : ℕ) where
  pub files_start : Left (file_lines contents xs) records l₀ at₀ 0 l₀ at₀
  files_start = left_start (file_lines contents xs) records l₀ at₀

  module _ (i : ℕ) {l : List ℕ} {at : ℕ} (w : Left (file_lines contents xs) records l₀ at₀ i l at) where
    pub files_done : length records ≤ i → Wrote l₀ at₀ (file_lines contents xs records) l at
    unfolding file_lines
    files_done h = left_done (file_lines contents xs) records l₀ at₀ i w refl h

    pub files_on : {m e : List ℕ} {line to : ℕ} → i < length records
        → Wrote l at (file_line (get_or records i no_record) (text contents (get_or records i no_record).name)) m line
        → Wrote m line (extent_lines (get_or records i no_record).path xs) e to → Left (file_lines contents xs) records l₀ at₀ (i + 1) e to
    unfolding file_lines
    files_on h p q =
        let f : Record = get_or records i no_record in
        let line : List ℕ = file_line f (text contents f.name) in
        let rows : List ℕ = extent_lines f.path xs in
        left_on (file_lines contents xs) records l₀ at₀ i w no_record (line ++ rows)
        (sym (append_assoc line rows (file_lines contents xs (drop (i + 1) records)))) h (wrote_then line rows p q)

pub ruleset files_ways = (files_start, files_done, files_on)

-- ---- a name, as far as the contents go

pub name_wrote : {l m : List ℕ} {at to : ℕ} (f : Record) (contents : List ℕ) {from len : ℕ} → from ≡ min f.name.at (length contents)
    → len ≡ min f.name.len (length (take (length contents - from) (drop from contents)))
    → Wrote l at (file_line f (take len (take (length contents - from) (drop from contents)))) m to → Wrote l at (file_line f (text contents f.name)) m to
unfolding text
name_wrote f contents {from} {len} e g w =
    let rest : take (length contents - from) (drop from contents) ≡ drop from contents = take_all _ _ (simp length-drop (omega arith)) in
    let k : len ≡ min f.name.len (length (drop from contents)) = rw rest at g in
    let start : drop from contents ≡ drop f.name.at contents = rw e (drop_min f.name.at contents) in
    let cut : take len (drop from contents) ≡ take f.name.len (drop from contents) = rw k (take_min f.name.len (drop from contents)) in
    rw (← start, ← cut) (rw rest at w)

-- ---- the insertion point

pub place_same : (p : Option Address) → insertion_of (place_of p) ≡ p
unfolding insertion_of
place_same (Some a) = refl
place_same None = refl
