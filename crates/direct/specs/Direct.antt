-- A read from where the runs begin: what it answers and what the buffer holds, whatever the rows and the places are.
use Rattle.std.specs.Prelude.{ℕ, zero, suc, ◌+◌, ◌-◌, min, List, [], ◌++◌, length, get_or, take, drop, replicate}
use Rattle.base.specs.Choice.{if_true, if_less}
use Rattle.meaning.specs.declared.Extent.{Extent}
use Rattle.meaning.specs.declared.Record.{Record}
use Rattle.meaning.specs.declared.Refusal.TheVariants as refused
use Rattle.meaning.specs.Answer.{Answer, ok, no}
use Rattle.meaning.specs.Replay.{spot, start, end, is_dir}
use Rattle.extent.specs.Rows.{extent_of}
use Rattle.extent.specs.Halves.{by_halves}
use Rattle.read.specs.Pieces.{larger}

-- ---- a run

-- b holds what stands from k on; of a run that starts at a, and at `begin` in the contents, what stands from s up to t is put there.
-- Where that reaches past the contents, nothing is.
unfoldable pub put : List ℕ → ℕ → ℕ → ℕ → ℕ → ℕ → List ℕ → List ℕ
put c k a begin s t b =
    if_less (length c) (begin + (t - a)) b
    (take (s - k) b ++ (take (t - s) (drop (begin + (s - a)) c) ++ drop (t - k) b))

-- what e has of the n bytes from k on is put there
unfoldable pub laid : List ℕ → ℕ → ℕ → Extent → ℕ → List ℕ → List ℕ
laid c k n e begin b =
    if_less (larger k (start e)) (min (k + n) (end e)) (put c k (start e) begin (larger k (start e)) (min (k + n) (end e)) b) b

-- ---- the rows

-- the first row that does not start before k, as the search finds it
abbrev pub below : List (List ℕ) → ℕ → ℕ
below rows k = by_halves rows (length rows) k

-- m rows from row j on, one over the other
unfoldable pub over : List ℕ → List (List ℕ) → List ℕ → ℕ → ℕ → ℕ → ℕ → List ℕ → List ℕ
over c rows begins k n j zero b = b
over c rows begins k n j (suc m) b = over c rows begins k n (j + 1) m (laid c k n (extent_of (get_or rows j [])) (get_or begins j 0) b)

-- n bytes from k on: zeros, and over them the rows from the one before the first that starts past k
unfoldable pub drawn_from : List ℕ → List (List ℕ) → List ℕ → ℕ → ℕ → List ℕ → List ℕ
drawn_from c rows begins k n b =
    over c rows begins k n (below rows k - 1) (below rows (k + n) - (below rows k - 1)) (replicate n 0 ++ drop n b)

-- ---- the read

-- GEOMETRY where a row has no place, "lowest number first"; NOFILE: "path absent or a directory". Else "Read at offset x copies
-- min(buffer, length − x) bytes, 0 if x ≥ length, and says how many".
unfoldable pub answered : Record → ℕ → ℕ → ℕ → ℕ → Answer ℕ
answered f rows places x room =
    if_less places rows (no refused.Geometry)
    (if_true (is_dir f) (no (refused.NoFile f.path)) (ok (min room (f.length - x))))

-- "the buffer's remainder is unchanged"
unfoldable pub buffer_with : List ℕ → Record → List (List ℕ) → List ℕ → ℕ → List ℕ → List ℕ
buffer_with c f rows begins x buffer = elim (answered f (length rows) (length begins) x (length buffer)) [
  | no r ↦ buffer
  | ok n ↦ drawn_from c rows begins (spot f.path x) n buffer
]
