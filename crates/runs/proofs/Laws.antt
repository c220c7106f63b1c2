-- What callers use: the extents that are gathered after each function, and the parts that stay in order.
use Prim.Native.Nat.{ℕ, ◌+◌, ◌^◌, ◌≤◌, ◌<◌}
use mathlib.Core.Path.{◌≡◌, refl, sym, ap, ◌∙◌, subst}
use mathlib.Core.Logic.{inl, inr, ⊎_elim, ◌≢◌}
use mathlib.Core.List.{List, [], ◌∷◌, ◌++◌, map}
use native.Mathlib.Omega.{arith}
use lib.ListN.{length, take, drop, set, get_or, length-map, length-append}
use lib.Seq.{set-get_or, take_at}
use Rattle.meaning.specs.declared.Extent.{Extent}
use Rattle.meaning.specs.Replay.{spot, start, end, lay, others}
use Rattle.base.specs.Member.{All, In}
use Rattle.base.proofs.Tests.{eq_or}
use Rattle.base.proofs.Lists.{all_map, in_left, in_right}
use Rattle.extent.specs.Rows.{extent_of, row_of, Fit, Lined, EndsBy, StartsFrom, Sound}
use Rattle.extent.proofs.Line.{lined_wider, lined_higher, lined_above, lined_below}
use Rattle.extent.proofs.Rows.{extents_of_rows, rows_within}
use Rattle.extent.proofs.Laws.{lay_between, lay_lined, lay_adds, others_append, others_none, others_all, lined_own}
use Rattle.runs.specs.declared.Span.{Span}
use Rattle.runs.specs.Runs.{capacity, span_at, vacant, with, rows_of, runs_of, gather, gather_rows, total, Stand, Distinct, Rising, Parts, Placed, Owned, Kept, put, Open, laid_over, spans_laid, rows_laid}
use Rattle.runs.proofs.Lists.{put_length, put_own}
use Rattle.runs.proofs.Slots.{Spot, spot_of, in_with, in_without, in_here, distinct_left, distinct_right, distinct_with, distinct_without, rising_left, rising_right, gather_append, gather_all, gather_same, own_length, rows_length, gather_rows_lem}
use Rattle.runs.proofs.Moves.{stand_of, rest_of, own_span, other_span, other_rows, reset}

-- ---- slots with the same rows

pub kept_gather : (spans : List Span) (rows : List (List ℕ)) (spans' : List Span) (rows' : List (List ℕ)) (ss : List ℕ) → Kept spans rows spans' rows' ss → gather spans' rows' ss ≡ gather spans rows ss
kept_gather spans rows spans' rows' ss k = gather_same spans rows spans' rows' ss k.same

pub kept_owned : (path : ℕ → ℕ) (spans : List Span) (rows : List (List ℕ)) (spans' : List Span) (rows' : List (List ℕ)) (ss : List ℕ) → Kept spans rows spans' rows' ss → Owned path spans rows ss → Owned path spans' rows' ss
kept_owned path spans rows spans' rows' ss k w = record { own = λ s i. rw (k.same s i) (w.own s i) }

-- ---- gathered

pub gathered_runs : (spans : List Span) (rows out out' : List (List ℕ)) (ss : List ℕ) (r : ℕ) → Stand spans rows ss → (r ≡ total spans ss) × (out' ≡ put out 0 (gather_rows spans rows ss))
    → map extent_of (take r out') ≡ gather spans rows ss
gathered_runs spans rows out out' ss r z e =
    let l : length (gather_rows spans rows ss) ≡ r = rows_length spans rows ss z ∙ sym e.0 in
    rw (e.1, take_at (gather_rows spans rows ss) (drop (0 + length (gather_rows spans rows ss)) out) r l) (gather_rows_lem spans rows ss)

-- ---- the line of all files

file_ends : (p : ℕ) → spot p 0 ≤ spot (p + 1) 0
unfolding spot
file_ends p = omega arith

file_next : (p q : ℕ) → p < q → spot (p + 1) 0 ≤ spot q 0
unfolding spot
file_next p q h = omega arith

file_top : (p : ℕ) → p < 2 ^ 32 → spot (p + 1) 0 ≤ 2 ^ 64
unfolding spot
file_top p h = omega arith

run_starts : (p : ℕ) (x : Extent) → x.path ≡ p → spot p 0 ≤ start x
unfolding start spot
run_starts p x e = omega arith

run_ends : (p : ℕ) (x : Extent) → x.path ≡ p → Fit x → end x ≤ spot (p + 1) 0
unfolding end start spot
run_ends p x e f = omega arith

-- ---- one slot among others

module _ (path : ℕ → ℕ) (spans : List Span) (rows : List (List ℕ)) (s : ℕ) (ls rs : List ℕ) (w : Owned path spans rows (ls ++ (s ∷ rs))) (up : Rising path (ls ++ (s ∷ rs))) where
  own_runs : Lined (spot (path s) 0) (spot (path s + 1) 0) (runs_of spans rows s)
  own_runs = (w.own s (in_here s ls rs)).lined

  left_runs : (t : ℕ) → In t ls → Lined (spot (path t) 0) (spot (path t + 1) 0) (runs_of spans rows t)
  left_runs t i = (w.own t (in_left t ls (s ∷ rs) i)).lined

  right_runs : (t : ℕ) → In t rs → Lined (spot (path t) 0) (spot (path t + 1) 0) (runs_of spans rows t)
  right_runs t i = (w.own t (in_right t ls (s ∷ rs) (inr i))).lined

  -- the runs of the slots before it end before its file begins, those of the slots after it start past its end
  left_below : (k : ℕ) → spot (path s) 0 ≤ k → All (EndsBy k) (gather spans rows ls)
  left_below k h = gather_all spans rows (EndsBy k) ls (λ t i. lined_below (spot (path t) 0) (spot (path t + 1) 0) k (runs_of spans rows t) (left_runs t i) (omega (arith, file_next (path t) (path s) (rising_left path s ls rs up t i))))

  right_above : (k : ℕ) → k ≤ spot (path s + 1) 0 → All (StartsFrom k) (gather spans rows rs)
  right_above k h = gather_all spans rows (StartsFrom k) rs (λ t i. lined_above (spot (path t) 0) (spot (path t + 1) 0) k (runs_of spans rows t) (right_runs t i) (omega (arith, file_next (path s) (path t) (rising_right path s ls rs up t i))))

  middle_lay : (v : Extent) → v.path ≡ path s → Fit v
      → lay v (gather spans rows (ls ++ (s ∷ rs))) ≡ gather spans rows ls ++ (lay v (runs_of spans rows s) ++ gather spans rows rs)
  middle_lay v e f = rw (gather_append spans rows ls (s ∷ rs))
      (lay_between v (gather spans rows ls) (runs_of spans rows s) (gather spans rows rs) (left_below (start v) (run_starts (path s) v e)) (right_above (end v) (run_ends (path s) v e f)))

  -- an extent of another file
  foreign : (t : ℕ) → path t ≢ path s → Lined (spot (path t) 0) (spot (path t + 1) 0) (runs_of spans rows t) → All (λ (x : Extent). x.path ≡ path s → ⊥) (runs_of spans rows t)
  foreign t n l = all_map (λ (x : Extent). x.path ≡ path t) (λ (x : Extent). x.path ≡ path s → ⊥) (runs_of spans rows t) (λ x e f. n (sym e ∙ f)) (lined_own (path t) (runs_of spans rows t) l)

  pub middle_others : others (path s) (gather spans rows (ls ++ (s ∷ rs))) ≡ gather spans rows ls ++ gather spans rows rs
  middle_others =
      let a : others (path s) (gather spans rows ls) ≡ gather spans rows ls =
      others_none (path s) (gather spans rows ls) (gather_all spans rows _ ls (λ t i. foreign t (λ e. omega (arith, rising_left path s ls rs up t i)) (left_runs t i))) in
      let b : others (path s) (gather spans rows rs) ≡ gather spans rows rs =
      others_none (path s) (gather spans rows rs) (gather_all spans rows _ rs (λ t i. foreign t (λ e. omega (arith, rising_right path s ls rs up t i)) (right_runs t i))) in
      rw (
        gather_append spans rows ls (s ∷ rs),
        others_append (path s) (gather spans rows ls) (runs_of spans rows s ++ gather spans rows rs),
        others_append (path s) (runs_of spans rows s) (gather spans rows rs),
        others_all (path s) (runs_of spans rows s) (lined_own (path s) (runs_of spans rows s) own_runs),
        a,
        b,
      )

-- what is gathered where only the rows of s have changed
gather_one : (spans : List Span) (rows : List (List ℕ)) (spans' : List Span) (rows' : List (List ℕ)) (s : ℕ) (ls rs : List ℕ) (xs : List Extent) → Distinct (ls ++ (s ∷ rs))
    → ((t : ℕ) → In t (ls ++ (s ∷ rs)) → t ≢ s → rows_of spans' rows' t ≡ rows_of spans rows t) → runs_of spans' rows' s ≡ xs
    → gather spans' rows' (ls ++ (s ∷ rs)) ≡ gather spans rows ls ++ (xs ++ gather spans rows rs)
gather_one spans rows spans' rows' s ls rs xs d f e =
    let a : gather spans' rows' ls ≡ gather spans rows ls =
    gather_same spans rows spans' rows' ls (λ t i. f t (in_left t ls (s ∷ rs) i) (λ (z : t ≡ s). distinct_left s ls rs d (subst (λ (x : ℕ). In x ls) z i))) in
    let b : gather spans' rows' rs ≡ gather spans rows rs =
    gather_same spans rows spans' rows' rs (λ t i. f t (in_right t ls (s ∷ rs) (inr i)) (λ (z : t ≡ s). distinct_right s ls rs d (subst (λ (x : ℕ). In x rs) z i))) in
    rw (gather_append spans' rows' ls (s ∷ rs), a, b, e)

-- ---- lay_at

pub open_at : (path : ℕ → ℕ) (spans : List Span) (rows : List (List ℕ)) (bump : ℕ) (ss : List ℕ) (s : ℕ) (v : List ℕ) → Parts spans rows bump ss → Owned path spans rows ss → In s ss
    → path s < 2 ^ 32 → (span_at spans s).many + 2 ≤ (span_at spans s).room → Sound v → Open spans rows s v
open_at path spans rows bump ss s v p w i h r u = record {
  slot = (stand_of spans rows bump ss p s i).0;
  room = r;
  arena = omega (arith, p.arena, p.top, (p.part s i).room);
  within = record {
    four = (w.own s i).four;
    lined = lined_wider 0 (spot (path s) 0) (2 ^ 64) (runs_of spans rows s) (omega arith) (lined_higher (spot (path s) 0) (spot (path s + 1) 0) (2 ^ 64) (runs_of spans rows s) (file_top (path s) h) (w.own s i).lined);
  };
  run = u;
}

module _ (path : ℕ → ℕ) (spans : List Span) (rows : List (List ℕ)) (bump : ℕ) (ss : List ℕ) (s : ℕ) (v : List ℕ) (p : Parts spans rows bump ss) (w : Owned path spans rows ss) (i : In s ss)
    (r : (span_at spans s).many + 2 ≤ (span_at spans s).room) (u : Sound v) (e : get_or v 0 0 ≡ path s) where
  abbrev xs : List Extent
  xs = laid_over spans rows s v

  abbrev spans' : List Span
  spans' = spans_laid spans rows s v

  abbrev rows' : List (List ℕ)
  rows' = rows_laid spans rows s v

  few_more : length xs ≤ (span_at spans s).many + 2
  few_more = omega (arith, lay_adds (spot (path s) 0) (spot (path s + 1) 0) (extent_of v) (runs_of spans rows s) (w.own s i).lined, length-map (rows_of spans rows s) extent_of, own_length spans rows s (stand_of spans rows bump ss p s i).1)

  as_many : length (map row_of xs) ≡ length xs
  as_many = length-map xs row_of

  laid_span : span_at spans' s ≡ with (span_at spans s) (length xs)
  laid_span = own_span spans s (with (span_at spans s) (length xs)) (stand_of spans rows bump ss p s i).0

  fits : (span_at spans s).first + length (map row_of xs) ≤ length rows
  fits = omega (arith, as_many, few_more, p.arena, p.top, (p.part s i).room)

  laid_rows : rows_of spans' rows' s ≡ map row_of xs
  laid_rows = rw laid_span (ap (λ (k : ℕ). take k (drop (span_at spans s).first rows')) (sym as_many) ∙ put_own rows (span_at spans s).first (map row_of xs) (omega (arith, fits)))

  laid_other : (t : ℕ) → In t ss → t ≢ s → rows_of spans' rows' t ≡ rows_of spans rows t
  laid_other t j n =
      other_rows spans s (with (span_at spans s) (length xs)) rows (span_at spans s).first (map row_of xs) t n fits
      (⊎_elim (λ (a : (span_at spans s).first + (span_at spans s).room ≤ (span_at spans t).first). inr (omega (arith, as_many, few_more)))
      (λ (b : (span_at spans t).first + (span_at spans t).room ≤ (span_at spans s).first). inl (omega (arith, (p.part t j).many)))
      (p.apart s t i j (λ (z : s ≡ t). n (sym z))))

  laid_gathered : (ls rs : List ℕ) → ss ≡ ls ++ (s ∷ rs) → gather spans' rows' ss ≡ gather spans rows ls ++ (xs ++ gather spans rows rs)
  laid_gathered ls rs z =
      rw z (gather_one spans rows spans' rows' s ls rs xs (rw z at p.distinct) (λ t j. laid_other t (rw z j)) (rw laid_rows (extents_of_rows xs)))

  -- the run is laid over the extents of all files
  pub gather_lay : Rising path ss → gather spans' rows' ss ≡ lay (extent_of v) (gather spans rows ss)
  gather_lay up =
      let o : Spot s ss = spot_of s ss i in
      let z : ss ≡ o.left ++ (s ∷ o.right) = o.is in
      laid_gathered o.left o.right z
      ∙ sym (ap (λ (l : List ℕ). lay (extent_of v) (gather spans rows l)) z ∙ middle_lay path spans rows s o.left o.right (rw z at w) (rw z at up) (extent_of v) e u.fit)

  pub lay_parts : Parts spans' rows' bump ss
  lay_parts =
      reset spans s (with (span_at spans s) (length xs)) bump ss (rest_of spans rows bump ss s p) rows' bump (p.part s i).slot (put_length rows (span_at spans s).first (map row_of xs) fits ∙ p.arena) (omega arith) p.top
      (omega (arith, few_more)) (p.part s i).room (λ t j n. p.apart s t i j (λ (z : s ≡ t). n (sym z)))

  pub lay_owned : Owned path spans' rows' ss
  lay_owned = record {
    own = λ t j. ⊎_elim
        (λ (z : t ≡ s). rw (z, laid_rows) (rows_within (spot (path s) 0) (spot (path s + 1) 0) xs (lay_lined (spot (path s) 0) (spot (path s + 1) 0) (extent_of v) (runs_of spans rows s) (w.own s i).lined u.fit (run_starts (path s) (extent_of v) e) (run_ends (path s) (extent_of v) e u.fit))))
        (λ (n : t ≢ s). rw (laid_other t j n) (w.own t j))
        (eq_or t s);
  }

  -- how many there are then: by how much the slot's own rows have changed
  pub lay_count : length (gather spans' rows' ss) + (span_at spans s).many ≡ length (gather spans rows ss) + (span_at spans' s).many
  lay_count =
      let o : Spot s ss = spot_of s ss i in
      let a : length (gather spans' rows' ss) ≡ length (gather spans rows o.left) + (length xs + length (gather spans rows o.right)) = rw (laid_gathered o.left o.right o.is) (simp length-append) in
      let b : length (gather spans rows ss) ≡ length (gather spans rows o.left) + ((span_at spans s).many + length (gather spans rows o.right)) =
      ap (λ (l : List ℕ). length (gather spans rows l)) o.is ∙ rw (gather_append spans rows o.left (s ∷ o.right))
      (simp length-append (omega (arith, length-map (rows_of spans rows s) extent_of, own_length spans rows s (stand_of spans rows bump ss p s i).1))) in
      rw laid_span (omega (arith, a, b))

-- ---- clear

module _ (path : ℕ → ℕ) (spans : List Span) (rows : List (List ℕ)) (bump : ℕ) (ss : List ℕ) (s : ℕ) (p : Placed spans rows bump ss) (w : Owned path spans rows ss) (i : In s ss) where
  abbrev cleared : List Span
  cleared = set spans s (with (span_at spans s) 0)

  clear_span : span_at cleared s ≡ with (span_at spans s) 0
  clear_span = own_span spans s (with (span_at spans s) 0) (stand_of spans rows bump ss p.parts s i).0

  clear_other : (t : ℕ) → In t ss → t ≢ s → rows_of cleared rows t ≡ rows_of spans rows t
  clear_other t j n = rw (other_span spans s (with (span_at spans s) 0) t n)

  clear_gathered : (ls rs : List ℕ) → ss ≡ ls ++ (s ∷ rs) → gather cleared rows ss ≡ gather spans rows ls ++ gather spans rows rs
  clear_gathered ls rs z = rw z (gather_one spans rows cleared rows s ls rs [] (rw z at p.parts.distinct) (λ t j. clear_other t (rw z j)) (rw clear_span))

  -- the extents of the other files
  pub gather_clear : Rising path ss → gather cleared rows ss ≡ others (path s) (gather spans rows ss)
  gather_clear up =
      let o : Spot s ss = spot_of s ss i in
      let z : ss ≡ o.left ++ (s ∷ o.right) = o.is in
      clear_gathered o.left o.right z
      ∙ sym (ap (λ (l : List ℕ). others (path s) (gather spans rows l)) z ∙ middle_others path spans rows s o.left o.right (rw z at w) (rw z at up))

  clear_parts : Parts cleared rows bump ss
  clear_parts =
      reset spans s (with (span_at spans s) 0) bump ss (rest_of spans rows bump ss s p.parts) rows bump (p.parts.part s i).slot p.parts.arena (omega arith) p.parts.top (omega arith) (p.parts.part s i).room
      (λ t j n. p.parts.apart s t i j (λ (z : s ≡ t). n (sym z)))

  -- as many less as the slot had rows
  pub clear_count : length (gather cleared rows ss) + (span_at spans s).many ≡ length (gather spans rows ss)
  clear_count =
      let o : Spot s ss = spot_of s ss i in
      let b : length (gather spans rows ss) ≡ length (gather spans rows o.left) + ((span_at spans s).many + length (gather spans rows o.right)) =
      ap (λ (l : List ℕ). length (gather spans rows l)) o.is ∙ rw (gather_append spans rows o.left (s ∷ o.right))
      (simp length-append (omega (arith, length-map (rows_of spans rows s) extent_of, own_length spans rows s (stand_of spans rows bump ss p.parts s i).1))) in
      rw (clear_gathered o.left o.right o.is) (simp length-append (omega (arith, b)))

  pub clear_placed : Placed cleared rows bump ss
  clear_placed = record { parts = clear_parts; few = omega (arith, clear_count, p.few) }

  pub clear_owned : Owned path cleared rows ss
  clear_owned = record {
    own = λ t j. ⊎_elim
        (λ (z : t ≡ s). rw (z, clear_span) (record { four = tt; lined = file_ends (path s) }))
        (λ (n : t ≢ s). rw (clear_other t j n) (w.own t j))
        (eq_or t s);
  }

-- ---- fresh: a slot u that was not live comes in between ls and rs

module _ (path path' : ℕ → ℕ) (spans : List Span) (rows : List (List ℕ)) (bump : ℕ) (ls rs : List ℕ) (u : ℕ) (p : Placed spans rows bump (ls ++ rs)) (h : u < 256) (new : In u (ls ++ rs) → ⊥) where
  abbrev opened : List Span
  opened = set spans u vacant

  open_span : span_at opened u ≡ vacant
  open_span = own_span spans u vacant (omega (arith, p.parts.slots))

  open_other : (t : ℕ) → In t (ls ++ (u ∷ rs)) → t ≢ u → rows_of opened rows t ≡ rows_of spans rows t
  open_other t j n = rw (other_span spans u vacant t n)

  old : (t : ℕ) → In t (ls ++ (u ∷ rs)) → t ≢ u → In t (ls ++ rs)
  old t j n = ⊎_elim (λ (z : t ≡ u). absurd (n z)) (λ k. k) (in_without u t ls rs j)

  -- the extents stay
  pub gather_open : gather opened rows (ls ++ (u ∷ rs)) ≡ gather spans rows (ls ++ rs)
  gather_open =
      gather_one spans rows opened rows u ls rs [] (distinct_with u ls rs p.parts.distinct new) open_other (rw open_span)
      ∙ sym (gather_append spans rows ls rs)

  open_parts : Parts opened rows bump (ls ++ (u ∷ rs))
  open_parts =
      reset spans u vacant bump (ls ++ (u ∷ rs))
      (record {
        slots = p.parts.slots;
        part = λ t j n. p.parts.part t (old t j n);
        apart = λ t x j k m n. p.parts.apart t x (old t j m) (old x k n);
        distinct = distinct_with u ls rs p.parts.distinct new;
      })
      rows bump h p.parts.arena (omega arith) p.parts.top (omega arith) (omega arith) (λ t j n. inl (omega arith))

  pub open_placed : Placed opened rows bump (ls ++ (u ∷ rs))
  open_placed = record { parts = open_parts; few = rw gather_open p.few }

  pub open_owned : Owned path spans rows (ls ++ rs) → ((t : ℕ) → In t (ls ++ rs) → path' t ≡ path t) → Owned path' opened rows (ls ++ (u ∷ rs))
  open_owned w e = record {
    own = λ t j. ⊎_elim
        (λ (z : t ≡ u). rw (z, open_span) (record { four = tt; lined = file_ends (path' u) }))
        (λ (n : t ≢ u). rw (open_other t j n, e t (old t j n)) (w.own t (old t j n)))
        (eq_or t u);
  }

-- ---- a slot s between ls and rs is live no more

module _ (path : ℕ → ℕ) (spans : List Span) (rows : List (List ℕ)) (bump : ℕ) (ls rs : List ℕ) (s : ℕ) where
  pub gather_close : Owned path spans rows (ls ++ (s ∷ rs)) → Rising path (ls ++ (s ∷ rs)) → gather spans rows (ls ++ rs) ≡ others (path s) (gather spans rows (ls ++ (s ∷ rs)))
  gather_close w up = gather_append spans rows ls rs ∙ sym (middle_others path spans rows s ls rs w up)

  pub close_placed : Placed spans rows bump (ls ++ (s ∷ rs)) → Placed spans rows bump (ls ++ rs)
  close_placed p = record {
    parts = record {
      slots = p.parts.slots;
      arena = p.parts.arena;
      top = p.parts.top;
      part = λ t j. p.parts.part t (in_with s t ls rs j);
      apart = λ t u j k. p.parts.apart t u (in_with s t ls rs j) (in_with s u ls rs k);
      distinct = distinct_without s ls rs p.parts.distinct;
    };
    few =
        let b : length (gather spans rows (ls ++ (s ∷ rs))) ≡ length (gather spans rows ls) + (length (runs_of spans rows s) + length (gather spans rows rs)) = rw (gather_append spans rows ls (s ∷ rs)) (simp length-append) in
        rw (gather_append spans rows ls rs) (simp length-append (omega (arith, b, p.few)));
  }

  pub close_owned : Owned path spans rows (ls ++ (s ∷ rs)) → Owned path spans rows (ls ++ rs)
  close_owned w = record { own = λ t j. w.own t (in_with s t ls rs j) }

-- ---- the start: one file with no rows

pub none_placed : (spans : List Span) (rows : List (List ℕ)) → length spans ≡ 256 → length rows ≡ capacity → Placed spans rows 0 []
none_placed spans rows hs hr = record {
  parts = record { slots = hs; arena = hr; top = omega arith; part = λ s i. absurd i; apart = λ s t i. absurd i; distinct = tt };
  few = omega arith;
}

module _ (path : ℕ → ℕ) (spans : List Span) (rows : List (List ℕ)) (s : ℕ) (hs : length spans ≡ 256) (hr : length rows ≡ capacity) (h : s < 256) (e : span_at spans s ≡ vacant) where
  is_vacant : spans ≡ set spans s vacant
  is_vacant = sym (set-get_or spans s vacant) ∙ ap (set spans s) e

  pub start_placed : Placed spans rows 0 (s ∷ [])
  start_placed = subst (λ (x : List Span). Placed x rows 0 (s ∷ [])) (sym is_vacant) (open_placed path path spans rows 0 [] [] s (none_placed spans rows hs hr) h (λ i. i))

  pub start_owned : Owned path spans rows (s ∷ [])
  start_owned = subst (λ (x : List Span). Owned path x rows (s ∷ [])) (sym is_vacant)
      (open_owned path path spans rows 0 [] [] s (none_placed spans rows hs hr) h (λ i. i) (record { own = λ t i. absurd i }) (λ t i. refl))

  pub start_gather : gather spans rows (s ∷ []) ≡ []
  start_gather = rw e
