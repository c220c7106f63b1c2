-- The rows of all files, one file's after another's: extents sorted and disjoint.
use Prim.Native.Nat.{ℕ, suc, ◌+◌, ◌^◌, ◌≤◌, ◌<◌}
use mathlib.Core.Path.{refl, sym, subst}
use mathlib.Core.Logic.{inl, inr}
use mathlib.Core.List.{List, [], ◌∷◌, map}
use native.Mathlib.Omega.{arith}
use lib.ListN.{length, get_or}
use Rattle.base.specs.Member.{All, In}
use Rattle.base.proofs.Lists.{all_map, all_append}
use Rattle.meaning.specs.declared.Extent.{Extent}
use Rattle.meaning.specs.Replay.{spot, start, end}
use Rattle.extent.specs.Rows.{extent_of, Four, Fit, Lined, Within}
use Rattle.extent.proofs.Line.{lined_wider, lined_append}
use Rattle.runs.specs.declared.Span.{Span}
use Rattle.runs.specs.Runs.{rows_of, runs_of, gather, gather_rows, Owned, Rising}
use Rattle.runs.proofs.Slots.{gather_rows_lem}
use Rattle.shown.specs.Shown.{Lines}

file_next : (p q : ℕ) → p < q → spot (p + 1) 0 ≤ spot q 0
unfolding spot
file_next p q h = omega arith

module _ (path : ℕ → ℕ) (spans : List Span) (rows : List (List ℕ)) where
  abbrev Own : ℕ → Type 0
  Own s = Within (spot (path s) 0) (spot (path s + 1) 0) (rows_of spans rows s)

  gather_four : (ss : List ℕ) → ((s : ℕ) → In s ss → Own s) → All Four (gather_rows spans rows ss)
  gather_four [] w = tt
  gather_four (s ∷ ss) w = all_append Four (rows_of spans rows s) (gather_rows spans rows ss) (w s (inl refl)).four (gather_four ss (λ t i. w t (inr i)))

  gather_lined : (ss : List ℕ) → ((s : ℕ) → In s ss → Own s) → Rising path ss → (lo : ℕ) → All (λ (t : ℕ). lo ≤ spot (path t) 0) ss
      → (top : ℕ) × Lined lo top (gather spans rows ss)
  gather_lined [] w up lo a = (lo, omega arith)
  gather_lined (s ∷ ss) w up lo a =
      let rest = gather_lined ss (λ t i. w t (inr i)) up.1 (spot (path s + 1) 0)
      (all_map (λ (t : ℕ). path s < path t) (λ (t : ℕ). spot (path s + 1) 0 ≤ spot (path t) 0) ss (λ t h. file_next (path s) (path t) h) up.0) in (
        rest.0,
        lined_append lo (spot (path s + 1) 0) rest.0 (runs_of spans rows s) (gather spans rows ss)
            (lined_wider lo (spot (path s) 0) (spot (path s + 1) 0) (runs_of spans rows s) a.0 (w s (inl refl)).lined) rest.1,
      )

  from_none : (ss : List ℕ) → All (λ (t : ℕ). 0 ≤ spot (path t) 0) ss
  from_none [] = tt
  from_none (s ∷ ss) = (omega arith, from_none ss)

  pub gather_within : (ss : List ℕ) → Owned path spans rows ss → Rising path ss → Lines (gather_rows spans rows ss)
  gather_within ss w up =
      let l = gather_lined ss w.own up 0 (from_none ss) in
      (l.0, record { four = gather_four ss w.own; lined = subst (Lined 0 l.0) (sym (gather_rows_lem spans rows ss)) l.1 })

-- ---- for callers that read the rows: each path has 32 bits

below_top : (x : Extent) → Fit x → x.path < 2 ^ 32 → end x ≤ 2 ^ 64
unfolding end start spot
below_top x f h = omega (arith, f.file)

lined_low : (lo top : ℕ) (xs : List Extent) → lo ≤ 2 ^ 64 → Lined lo top xs → All (λ (x : Extent). x.path < 2 ^ 32) xs → Lined lo (2 ^ 64) xs
lined_low lo top [] h w p = h
lined_low lo top (x ∷ xs) h w p = (w.0, w.1, lined_low (end x) top xs (below_top x w.1 p.0) w.2 p.1)

all_low : (rows : List (List ℕ)) → ((i : ℕ) → i < length rows → get_or (get_or rows i []) 0 0 < 2 ^ 32) → All (λ (x : Extent). x.path < 2 ^ 32) (map extent_of rows)
all_low [] h = tt
all_low (r ∷ rows) h = (h 0 (omega arith), all_low rows (λ i k. h (suc i) (omega arith)))

pub rows_low : (rows : List (List ℕ)) → Lines rows → ((i : ℕ) → i < length rows → get_or (get_or rows i []) 0 0 < 2 ^ 32) → Within 0 (2 ^ 64) rows
rows_low rows w h = record { four = w.1.four; lined = lined_low 0 w.0 (map extent_of rows) (omega arith) w.1.lined (all_low rows h) }
