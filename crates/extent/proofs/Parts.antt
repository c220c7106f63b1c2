-- The parts of a laid run, as the code puts them together.
use Prim.Native.Nat.{ℕ, zero, suc, ◌+◌, ◌-◌, ◌^◌, ◌≤◌, ◌<◌}
use mathlib.Core.Path.{◌≡◌, refl, sym, ap, ◌∙◌}
use mathlib.Core.List.{List, [], ◌∷◌, ◌++◌, append_assoc, map, map-append}
use native.Mathlib.Omega.{arith}
use native.Mathlib.Nat.{le_of_suc-le-suc}
use lib.ListN.{length, take, drop, set, get_or, take-append-drop, length-take, length-drop, length-append, length-map}
use lib.Seq.{take-suc, set_at, set_split, length-take-le, take-append-add, drop-append-add, drop-drop, append_snoc}
use Rattle.std.specs.Prelude.{Option, Some, None}
use Rattle.std.specs.declared.ops.Range.{Range}
use Rattle.std.specs.List.{copy_within}
use Rattle.meaning.specs.declared.Extent.{Extent}
use Rattle.base.specs.Member.{All}
use Rattle.base.proofs.Lists.{all_map}
use Rattle.base.proofs.Choices.{less_yes, less_no}
use Rattle.meaning.specs.Replay.{start, end, front, back, before, after, lay}
use Rattle.extent.specs.Rows.{extent_of, row_of, runs, Four, Lined, Sound, Within, Layable, Split, Low, Ranged, pieces, around}
use Rattle.extent.proofs.Rows.{drop_take, all_left, all_right, row_back, rows_back, within_fewer, runs_take, runs_drop, runs_length, runs_at}
use Rattle.extent.proofs.Line.{before_length, lined_right, low_upto, high_from, before_last, after_last, lay_parts}

-- ---- what a row says of those before it, and of those from it on
module _ (rows : List (List ℕ)) (n : ℕ) (hn : n ≤ length rows) (w : Within 0 (2 ^ 64) (take n rows)) (mid k key : ℕ) (hm : mid < n) where
  pub rows_low : k ≤ suc mid → start (extent_of (get_or rows mid [])) < key → All (λ (x : Extent). start x < key) (take k (runs rows n))
  rows_low h l = low_upto 0 (2 ^ 64) (runs rows n) (extent_of []) mid k key w.lined (omega (arith, runs_length rows n hn)) h (rw (runs_at rows n mid hm) l)

  pub rows_high : mid ≤ k → key ≤ start (extent_of (get_or rows mid [])) → All (λ (x : Extent). key ≤ start x) (drop k (runs rows n))
  rows_high h l = high_from 0 (2 ^ 64) (runs rows n) (extent_of []) mid k key w.lined (omega (arith, runs_length rows n hn)) h (rw (runs_at rows n mid hm) l)

pub none_left : (rows : List (List ℕ)) (n k : ℕ) (P : Extent → Type 0) → n ≤ k → All P (drop k (runs rows n))
none_left rows n k P h = rw (past (runs rows n) k (omega (arith, length-take n rows, length-map (take n rows) extent_of))) tt
  where
    past : (xs : List Extent) (j : ℕ) → length xs ≤ j → drop j xs ≡ []
    past [] zero l = refl
    past [] (suc j) l = refl
    past (x ∷ xs) zero l = absurd (omega arith)
    past (x ∷ xs) (suc j) l = past xs j (le_of_suc-le-suc l)

-- ---- fewer rows, and the last of them

pub low_fewer : (rows : List (List ℕ)) (n p k : ℕ) → Low rows n p k → Low rows p p k
low_fewer rows n p k d =
    let h : p ≤ n = d.few in
    let u : n ≤ length rows = d.room in
    record { few = omega arith; room = omega arith; within = within_fewer 0 (2 ^ 64) rows n p h d.within; low = d.low }

pub split_low : (rows : List (List ℕ)) (n p k : ℕ) → n ≤ length rows → Within 0 (2 ^ 64) (take n rows) → Split k (runs rows n) p → Low rows n p k
split_low rows n p k h w d =
    let f : p ≤ length (runs rows n) = d.few in
    let l : p ≤ n = omega (arith, runs_length rows n h) in
    record { few = l; room = h; within = w; low = rw (runs_take rows n p l) at d.low }

pub low_later : (rows : List (List ℕ)) (n p s e : ℕ) → s ≤ e → Low rows n p s → Low rows n p e
low_later rows n p s e h d = record {
  few = d.few;
  room = d.room;
  within = d.within;
  low = all_map (λ (x : Extent). start x < s) (λ (x : Extent). start x < e) (runs rows p) (λ x l. omega arith) d.low;
}

module _ (rows : List (List ℕ)) (p s : ℕ) (d : Low rows p p s) (h0 : 0 < p) where
  abbrev row : List ℕ
  row = get_or rows (p - 1) []

  last_rows : take p rows ≡ take (p - 1) rows ++ (row ∷ [])
  last_rows =
      let e : p ≡ suc (p - 1) = omega arith in
      let l : p ≤ length rows = d.room in
      ap (λ (k : ℕ). take k rows) e ∙ take-suc rows (p - 1) [] (omega arith)

  last_runs : runs rows p ≡ runs rows (p - 1) ++ (extent_of row ∷ [])
  last_runs = ap (map extent_of) last_rows ∙ map-append extent_of (take (p - 1) rows) (row ∷ [])

  lined_last : Lined 0 (2 ^ 64) (runs rows (p - 1) ++ (extent_of row ∷ []))
  lined_last = rw last_runs at d.within.lined

  pub row_sound : Sound row
  row_sound = record {
    four = (all_right Four (take (p - 1) rows) (row ∷ []) (rw last_rows at d.within.four)).0;
    fit = (lined_right 0 (2 ^ 64) (runs rows (p - 1)) (extent_of row ∷ []) lined_last).1;
  }

  pub row_low : start (extent_of row) < s
  row_low = (all_right (λ (x : Extent). start x < s) (runs rows (p - 1)) (extent_of row ∷ []) (rw last_runs at d.low)).0

  -- the first p - 1 rows stay
  pub cut_last : set rows (p - 1) (row_of (front s (extent_of row))) ≡ map row_of (before s (runs rows p)) ++ drop p rows
  cut_last =
      let e : suc (p - 1) ≡ p = omega arith in
      let l : p ≤ length rows = d.room in
      let f : All Four (take (p - 1) rows) = all_left Four (take (p - 1) rows) (row ∷ []) (rw last_rows at d.within.four) in
      rw (
        last_runs,
        before_last 0 (2 ^ 64) s (runs rows (p - 1)) (extent_of row) lined_last row_low,
        map-append row_of (runs rows (p - 1)) (front s (extent_of row) ∷ []),
        rows_back (take (p - 1) rows) f,
        append_assoc,
      )
      (set_split rows (p - 1) _ (omega arith) ∙ rw e)

  after_row : after s (runs rows p) ≡ after s (extent_of row ∷ [])
  after_row = rw last_runs (after_last 0 (2 ^ 64) s (runs rows (p - 1)) (extent_of row) lined_last row_low)

  pub piece_left : s < end (extent_of row) → row_of (back s (extent_of row)) ∷ [] ≡ map row_of (after s (runs rows p))
  unfolding after
  piece_left h = rw (after_row, less_yes s (end (extent_of row)) (back s (extent_of row) ∷ []) [] h)

  pub piece_gone : end (extent_of row) ≤ s → [] ≡ map row_of (after s (runs rows p))
  unfolding after
  piece_gone h = rw (after_row, less_no s (end (extent_of row)) (back s (extent_of row) ∷ []) [] h)

-- where there is no row
pub cut_none : (rows : List (List ℕ)) (p s : ℕ) → p ≡ 0 → rows ≡ map row_of (before s (runs rows p)) ++ drop p rows
unfolding before
cut_none [] p s e = rw e
cut_none (r ∷ rows) p s e = rw e

pub piece_none : (rows : List (List ℕ)) (p s : ℕ) → p ≡ 0 → [] ≡ map row_of (after s (runs rows p))
unfolding after
piece_none rows p s e = rw e

-- ---- rows put into a gap
module _ {A : Type 0} where
  past_front : (fs rows : List A) (p k : ℕ) → length fs ≡ p → p ≤ k → drop k (fs ++ drop p rows) ≡ drop k rows
  past_front fs rows p k e h =
      let i : k ≡ length fs + (k - p) = omega arith in
      let j : p + (k - p) ≡ k = omega arith in
      ap (λ (n : ℕ). drop n (fs ++ drop p rows)) i ∙ drop-append-add fs (drop p rows) (k - p) ∙ drop-drop (k - p) p rows ∙ rw j

  -- what the table holds once rows q up to n have gone past fs and k + 1 rows more
  copied : (fs rows : List A) (n p q k : ℕ) → length fs ≡ p → p ≤ q → q ≤ n
      → copy_within (fs ++ drop p rows) q n (p + 1 + k) ≡ fs ++ (take (1 + k) (drop p rows) ++ (drop q (take n rows) ++ drop (p + 1 + k + (n - q)) rows))
  copied fs rows n p q k e hp hq =
      let f : take (n - q) (drop q (fs ++ drop p rows)) ≡ drop q (take n rows) = rw (past_front fs rows p q e hp) (sym (drop_take q n rows)) in
      let i : p + 1 + k ≡ length fs + (1 + k) = omega arith in
      let t : take (p + 1 + k) (fs ++ drop p rows) ≡ fs ++ take (1 + k) (drop p rows) =
      ap (λ (m : ℕ). take m (fs ++ drop p rows)) i ∙ take-append-add fs (drop p rows) (1 + k) in
      rw (f, t, past_front fs rows p (p + 1 + k + (n - q)) e (omega arith)) (simp append_assoc)

  put_one : (fs ds ts : List A) (v : A) (p : ℕ) → length fs ≡ p → 0 < length ds → set (fs ++ (take 1 ds ++ ts)) p v ≡ fs ++ (v ∷ ts)
  put_one fs [] ts v p e h = absurd (omega arith)
  put_one fs (d ∷ ds) ts v p e h = set_at fs d ts v p e

  put_two : (fs ds ts : List A) (v w : A) (p : ℕ) → length fs ≡ p → 1 < length ds
      → set (set (fs ++ (take 2 ds ++ ts)) (p + 1) w) p v ≡ fs ++ (v ∷ (w ∷ ts))
  put_two fs [] ts v w p e h = absurd (omega arith)
  put_two fs (d ∷ []) ts v w p e h = absurd (omega arith)
  put_two fs (d ∷ (c ∷ ds)) ts v w p e h =
      let l : length (fs ++ (d ∷ [])) ≡ p + 1 = simp length-append (omega arith) in
      rw (← append_snoc fs d (c ∷ ts), set_at (fs ++ (d ∷ [])) c ts w (p + 1) l, append_snoc fs d (w ∷ ts)) (set_at fs d (w ∷ ts) v p e)

  -- fs in front, v and perhaps w, and rows q up to n after them
  module _ (fs rows : List A) (n p q : ℕ) (e : length fs ≡ p) (hp : p ≤ q) (hq : q ≤ n) (hn : n + 2 ≤ length rows) where
    pub spliced_one : (v : A) → set (copy_within (fs ++ drop p rows) q n (p + 1 + 0)) p v ≡ (fs ++ (v ∷ drop q (take n rows))) ++ drop (p + 1 + 0 + (n - q)) rows
    spliced_one v = rw (copied fs rows n p q 0 e hp hq, append_assoc) (put_one fs (drop p rows) _ v p e (omega (arith, length-drop p rows)))

    pub spliced_two : (v w : A) → set (set (copy_within (fs ++ drop p rows) q n (p + 1 + 1)) (p + 1) w) p v ≡ (fs ++ (v ∷ (w ∷ drop q (take n rows)))) ++ drop (p + 1 + 1 + (n - q)) rows
    spliced_two v w = rw (copied fs rows n p q 1 e hp hq, append_assoc) (put_two fs (drop p rows) _ v w p e (omega (arith, length-drop p rows)))

pub front_length : (rows : List (List ℕ)) (n p s : ℕ) → Low rows n p s → length (map row_of (before s (runs rows p))) ≡ p
front_length rows n p s d =
    let h : p ≤ n = d.few in
    let u : n ≤ length rows = d.room in
    length-map (before s (runs rows p)) row_of ∙ before_length s (runs rows p) d.low ∙ runs_length rows p (omega arith)

-- v, the piece and the rows past the range
pub around_length : (rows : List (List ℕ)) (n : ℕ) (g : Range ℕ) (s : ℕ) (v : List ℕ) (bs : List (List ℕ)) → Low rows n g.start s
    → length (around s v bs rows n g) ≡ g.start + 1 + length bs + (n - g.end)
around_length rows n g s v bs d =
    let u : n ≤ length rows = d.room in
    simp (length-append, length-drop) (omega (arith, front_length rows n g.start s d, length-take-le n rows u))

-- v, and perhaps w, put past what stands before s
module _ (rows : List (List ℕ)) (n : ℕ) (g : Range ℕ) (s : ℕ) (v : List ℕ) (d : Low rows n g.start s) (hp : g.start ≤ g.end) (hq : g.end ≤ n) (hn : n + 2 ≤ length rows) where
  abbrev spread : ℕ → List (List ℕ)
  spread k = copy_within (map row_of (before s (runs rows g.start)) ++ drop g.start rows) g.end n (g.start + 1 + k)

  abbrev Put : Option (List ℕ) → ℕ → List (List ℕ) → Type 0
  Put w k left = (g.start + 1 + k + (n - g.end) ≡ length (around s v (pieces w) rows n g)) × (set left g.start v ≡ around s v (pieces w) rows n g ++ drop (g.start + 1 + k + (n - g.end)) rows)

  pub put_alone : (w : Option (List ℕ)) (k : ℕ) (left : List (List ℕ)) → w ≡ None → k ≡ 0 → left ≡ spread k → Put w k left
  put_alone w k left o e f =
      rw (f, o, e)
      (omega (arith, around_length rows n g s v [] d), spliced_one (map row_of (before s (runs rows g.start))) rows n g.start g.end (front_length rows n g.start s d) hp hq hn v)

  pub put_both : (w : Option (List ℕ)) (k : ℕ) (left : List (List ℕ)) (r : List ℕ) → w ≡ Some r → k ≡ 1 → left ≡ set (spread k) (g.start + 1) r → Put w k left
  put_both w k left r o e f =
      rw (f, o, e)
      (omega (arith, around_length rows n g s v (r ∷ []) d), spliced_two (map row_of (before s (runs rows g.start))) rows n g.start g.end (front_length rows n g.start s d) hp hq hn v r)

-- ---- the run laid, in those parts
module _ (rows : List (List ℕ)) (n : ℕ) (v : List ℕ) (l : Layable rows n v) (g : Range ℕ) (b : Option (List ℕ)) (s e : ℕ)
    (hs : s ≡ start (extent_of v)) (he : e ≡ end (extent_of v)) (r : Ranged s e (runs rows n) g)
    (q : pieces b ≡ map row_of (after e (runs rows g.end))) where
  hn : n ≤ length rows
  hn = omega (arith, l.room)

  low : Low rows n g.start s
  low = split_low rows n g.start s hn l.within r.low

  high : Low rows n g.end e
  high = split_low rows n g.end e hn l.within r.high

  pub lay_is : map row_of (lay (extent_of v) (runs rows n)) ≡ around s v (pieces b) rows n g
  lay_is =
      let f : All Four (drop g.end (take n rows)) =
      all_right Four (take g.end (take n rows)) (drop g.end (take n rows)) (rw (take-append-drop g.end (take n rows)) l.within.four) in
      let y : after e (runs rows g.end) ≡ after (end (extent_of v)) (runs rows g.end) = rw he in
      ap (map row_of) (lay_parts 0 (2 ^ 64) (runs rows n) l.within.lined (extent_of v) g.start g.end (rw hs at r.low) (rw he at r.high))
      ∙ rw (
        runs_take rows n g.start low.few,
        runs_take rows n g.end high.few,
        runs_drop rows n g.end,
        ← hs,
        ← he,
        map-append row_of (before s (runs rows g.start)) (extent_of v ∷ (after e (runs rows g.end) ++ map extent_of (drop g.end (take n rows)))),
        map-append row_of (after e (runs rows g.end)) (map extent_of (drop g.end (take n rows))),
        rows_back (drop g.end (take n rows)) f,
        row_back v l.run.four,
        q,
      )

  pub laid : (left : List (List ℕ)) (k : ℕ) → k ≡ length (around s v (pieces b) rows n g) → left ≡ around s v (pieces b) rows n g ++ drop k rows
      → (k ≡ length (lay (extent_of v) (runs rows n))) × (left ≡ map row_of (lay (extent_of v) (runs rows n)) ++ drop k rows)
  laid left k f z = (f ∙ ap length (sym lay_is) ∙ length-map (lay (extent_of v) (runs rows n)) row_of, z ∙ rw (sym lay_is))
