-- Lists of slots, and what is gathered of them.
use Prim.Native.Nat.{ℕ, ◌+◌, ◌≤◌, ◌<◌}
use mathlib.Core.Path.{◌≡◌, refl, sym, ap, ap₂, ◌∙◌, subst}
use mathlib.Core.Logic.{◌⊎◌, inl, inr, ⊎_elim}
use mathlib.Core.List.{List, [], ◌∷◌, ◌++◌, append_assoc, append-nil, map, map-append}
use native.Mathlib.Omega.{arith}
use native.Mathlib.Numerals.{add-one}
use lib.ListN.{length, take, drop, get_or, set, length-append, length-map, length-drop, length-set, length-take}
use lib.Seq.{take-suc, length-take-le, get_or-take, get_or-set_same, get_or-set_other}
use Rattle.meaning.specs.declared.Extent.{Extent}
use Rattle.base.specs.Member.{All, In}
use Rattle.base.proofs.Lists.{in_left, in_right, in_split, all_in, all_append}
use Rattle.extent.specs.Rows.{extent_of}
use Rattle.runs.specs.declared.Span.{Span}
use Rattle.runs.specs.Runs.{vacant, full, span_at, rows_of, runs_of, gather, gather_rows, total, Distinct, Rising, Stand, closed, Live, put}
use Rattle.runs.proofs.Lists.{first_split, put_put, put_written}

-- ---- a slot in its place

pub record Spot (s : ℕ) (ss : List ℕ) : Type 0 where
  pub left : List ℕ
  pub right : List ℕ
  pub is : ss ≡ left ++ (s ∷ right)

pub spot_of : (s : ℕ) (ss : List ℕ) → In s ss → Spot s ss
spot_of s [] h = absurd h
spot_of s (t ∷ ss) h = ⊎_elim
    (λ (e : s ≡ t). record { left = []; right = ss; is = ap (λ (x : ℕ). x ∷ ss) (sym e) })
    (λ (i : In s ss). let p : Spot s ss = spot_of s ss i in record { left = t ∷ p.left; right = p.right; is = ap (λ (l : List ℕ). t ∷ l) p.is })
    h

module _ (s : ℕ) where
  pub in_with : (t : ℕ) (ls rs : List ℕ) → In t (ls ++ rs) → In t (ls ++ (s ∷ rs))
  in_with t ls rs h = ⊎_elim (λ i. in_left t ls (s ∷ rs) i) (λ i. in_right t ls (s ∷ rs) (inr i)) (in_split t ls rs h)

  pub in_without : (t : ℕ) (ls rs : List ℕ) → In t (ls ++ (s ∷ rs)) → (t ≡ s) ⊎ In t (ls ++ rs)
  in_without t ls rs h =
      ⊎_elim (λ i. inr (in_left t ls rs i)) (λ i. ⊎_elim (λ e. inl e) (λ j. inr (in_right t ls rs j)) i) (in_split t ls (s ∷ rs) h)

  pub in_here : (ls rs : List ℕ) → In s (ls ++ (s ∷ rs))
  in_here ls rs = in_right s ls (s ∷ rs) (inl refl)

  -- ---- slots that differ

  pub distinct_left : (ls rs : List ℕ) → Distinct (ls ++ (s ∷ rs)) → In s ls → ⊥
  distinct_left [] rs d h = h
  distinct_left (a ∷ ls) rs d h = ⊎_elim (λ (e : s ≡ a). d.0 (subst (λ (x : ℕ). In x (ls ++ (s ∷ rs))) e (in_here ls rs))) (λ i. distinct_left ls rs d.1 i) h

  pub distinct_right : (ls rs : List ℕ) → Distinct (ls ++ (s ∷ rs)) → In s rs → ⊥
  distinct_right [] rs d h = d.0 h
  distinct_right (a ∷ ls) rs d h = distinct_right ls rs d.1 h

  pub distinct_without : (ls rs : List ℕ) → Distinct (ls ++ (s ∷ rs)) → Distinct (ls ++ rs)
  distinct_without [] rs d = d.1
  distinct_without (a ∷ ls) rs d = ((λ i. d.0 (in_with a ls rs i)), distinct_without ls rs d.1)

  pub distinct_with : (ls rs : List ℕ) → Distinct (ls ++ rs) → (In s (ls ++ rs) → ⊥) → Distinct (ls ++ (s ∷ rs))
  distinct_with [] rs d n = (n, d)
  distinct_with (a ∷ ls) rs d n =
      ((λ i. ⊎_elim (λ (e : a ≡ s). n (inl (sym e))) (λ j. d.0 j) (in_without a ls rs i)), distinct_with ls rs d.1 (λ i. n (inr i)))

-- ---- paths that rise

module _ (path : ℕ → ℕ) (s : ℕ) where
  pub rising_left : (ls rs : List ℕ) → Rising path (ls ++ (s ∷ rs)) → (t : ℕ) → In t ls → path t < path s
  rising_left [] rs r t h = absurd h
  rising_left (a ∷ ls) rs r t h =
      ⊎_elim (λ (e : t ≡ a). subst (λ (x : ℕ). path x < path s) (sym e) (all_in (λ (x : ℕ). path a < path x) (ls ++ (s ∷ rs)) r.0 s (in_here s ls rs))) (λ i. rising_left ls rs r.1 t i) h

  pub rising_right : (ls rs : List ℕ) → Rising path (ls ++ (s ∷ rs)) → (t : ℕ) → In t rs → path s < path t
  rising_right [] rs r t h = all_in (λ (x : ℕ). path s < path x) rs r.0 t h
  rising_right (a ∷ ls) rs r t h = rising_right ls rs r.1 t h

-- ---- what is gathered

module _ (spans : List Span) (rows : List (List ℕ)) where
  pub gather_append : (ls rs : List ℕ) → gather spans rows (ls ++ rs) ≡ gather spans rows ls ++ gather spans rows rs
  gather_append [] rs = refl
  gather_append (a ∷ ls) rs = rw (gather_append ls rs) (sym (append_assoc (runs_of spans rows a) (gather spans rows ls) (gather spans rows rs)))

  pub rows_append : (ls rs : List ℕ) → gather_rows spans rows (ls ++ rs) ≡ gather_rows spans rows ls ++ gather_rows spans rows rs
  rows_append [] rs = refl
  rows_append (a ∷ ls) rs = rw (rows_append ls rs) (sym (append_assoc (rows_of spans rows a) (gather_rows spans rows ls) (gather_rows spans rows rs)))

  pub gather_rows_lem : (ss : List ℕ) → map extent_of (gather_rows spans rows ss) ≡ gather spans rows ss
  gather_rows_lem [] = refl
  gather_rows_lem (s ∷ ss) = map-append extent_of (rows_of spans rows s) (gather_rows spans rows ss) ∙ rw (gather_rows_lem ss)

  pub gather_all : (P : Extent → Type 0) (ss : List ℕ) → ((s : ℕ) → In s ss → All P (runs_of spans rows s)) → All P (gather spans rows ss)
  gather_all P [] f = tt
  gather_all P (s ∷ ss) f = all_append P (runs_of spans rows s) (gather spans rows ss) (f s (inl refl)) (gather_all P ss (λ t i. f t (inr i)))

  pub own_length : (s : ℕ) → (span_at spans s).first + (span_at spans s).many ≤ length rows → length (rows_of spans rows s) ≡ (span_at spans s).many
  own_length s h = length-take-le (span_at spans s).many (drop (span_at spans s).first rows) (omega (arith, length-drop (span_at spans s).first rows))

  pub rows_length : (ss : List ℕ) → Stand spans rows ss → length (gather_rows spans rows ss) ≡ total spans ss
  rows_length [] f = refl
  rows_length (s ∷ ss) f =
      length-append (rows_of spans rows s) (gather_rows spans rows ss) ∙ ap₂ (λ (a b : ℕ). a + b) (own_length s (f s (inl refl)).1) (rows_length ss (λ t i. f t (inr i)))

  pub gather_length : (ss : List ℕ) → Stand spans rows ss → length (gather spans rows ss) ≡ total spans ss
  gather_length ss f = ap length (sym (gather_rows_lem ss)) ∙ length-map (gather_rows spans rows ss) extent_of ∙ rows_length ss f

pub total_append : (spans : List Span) (ls rs : List ℕ) → total spans (ls ++ rs) ≡ total spans ls + total spans rs
total_append spans [] rs = omega arith
total_append spans (a ∷ ls) rs = omega (arith, total_append spans ls rs)

-- slots with the same rows
pub gather_same : (spans : List Span) (rows : List (List ℕ)) (spans' : List Span) (rows' : List (List ℕ)) (ss : List ℕ) → ((s : ℕ) → In s ss → rows_of spans' rows' s ≡ rows_of spans rows s)
    → gather spans' rows' ss ≡ gather spans rows ss
gather_same spans rows spans' rows' [] f = refl
gather_same spans rows spans' rows' (s ∷ ss) f =
    ap₂ (λ (xs ys : List Extent). xs ++ ys) (ap (map extent_of) (f s (inl refl))) (gather_same spans rows spans' rows' ss (λ t i. f t (inr i)))

-- ---- the spans of parts one after another

module _ (old : List Span) where
  abbrev pub closed_span : ℕ → ℕ → Span
  closed_span at s = full at (span_at old s).many

  pub closed_length : (spans : List Span) (ss : List ℕ) (at : ℕ) → length (closed old spans ss at) ≡ length spans
  closed_length spans [] at = refl
  closed_length spans (s ∷ ss) at = closed_length (set spans s (closed_span at s)) ss (at + (span_at old s).many) ∙ length-set spans s (closed_span at s)

  pub closed_other : (spans : List Span) (ss : List ℕ) (at t : ℕ) → (In t ss → ⊥) → span_at (closed old spans ss at) t ≡ span_at spans t
  closed_other spans [] at t n = refl
  closed_other spans (s ∷ ss) at t n =
      closed_other (set spans s (closed_span at s)) ss (at + (span_at old s).many) t (λ i. n (inr i)) ∙ get_or-set_other spans s t (closed_span at s) vacant (λ (e : t ≡ s). n (inl e))

  pub closed_at : (spans : List Span) (ls rs : List ℕ) (at t : ℕ) → t < length spans → (In t rs → ⊥)
      → span_at (closed old spans (ls ++ (t ∷ rs)) at) t ≡ closed_span (at + total old ls) t
  closed_at spans [] rs at t h n =
      let e : at + 0 ≡ at = omega arith in
      closed_other (set spans t (closed_span at t)) rs (at + (span_at old t).many) t n ∙ get_or-set_same spans t (closed_span at t) vacant h ∙ rw e
  closed_at spans (a ∷ ls) rs at t h n =
      let e : at + (span_at old a).many + total old ls ≡ at + ((span_at old a).many + total old ls) = omega arith in
      closed_at (set spans a (closed_span at a)) ls rs (at + (span_at old a).many) t (omega (arith, length-set spans a (closed_span at a))) n ∙ rw e

  -- one slot more
  pub closed_snoc : (spans : List Span) (ls : List ℕ) (at t : ℕ) → closed old spans (ls ++ (t ∷ [])) at ≡ set (closed old spans ls at) t (closed_span (at + total old ls) t)
  closed_snoc spans [] at t = let e : at + 0 ≡ at = omega arith in rw e
  closed_snoc spans (a ∷ ls) at t =
      let e : at + (span_at old a).many + total old ls ≡ at + ((span_at old a).many + total old ls) = omega arith in
      closed_snoc (set spans a (closed_span at a)) ls (at + (span_at old a).many) t ∙ rw e

-- ---- the next of the first n slots of a table

module _ (slots : List ℕ) (n : ℕ) (live : Live slots n) (k s : ℕ) (h : k < length (take n slots)) (e : s ≡ get_or (take n slots) k 0) where
  low : k < n
  low = omega (arith, length-take n slots)

  own : s ≡ get_or slots k 0
  own = e ∙ get_or-take n slots k 0 low

  next_split : take n slots ≡ take k slots ++ (s ∷ drop (k + 1) (take n slots))
  next_split = rw own (first_split slots n k 0 low (omega (arith, live.all, live.few)))

  pub next_taken : take (k + 1) slots ≡ take k slots ++ (s ∷ [])
  next_taken = rw (own, add-one k) (take-suc slots k 0 (omega (arith, low, live.all, live.few)))

  pub slot_in : In s (take n slots)
  slot_in = rw next_split (in_here s (take k slots) (drop (k + 1) (take n slots)))

  next_new : Distinct (take n slots) → In s (take k slots) → ⊥
  next_new d = distinct_left s (take k slots) (drop (k + 1) (take n slots)) (rw next_split at d)

  module _ (old : List Span) where
    pub next_total : total old (take (k + 1) slots) ≡ total old (take k slots) + (span_at old s).many
    next_total = rw next_taken (omega (arith, total_append old (take k slots) (s ∷ [])))

    pub next_few : total old (take k slots) + (span_at old s).many ≤ total old (take n slots)
    next_few = rw next_split (omega (arith, total_append old (take k slots) (s ∷ drop (k + 1) (take n slots))))

    pub next_old : Distinct (take n slots) → span_at (closed old old (take k slots) 0) s ≡ span_at old s
    next_old d = closed_other old old (take k slots) 0 s (next_new d)

    pub next_closed : closed old old (take (k + 1) slots) 0 ≡ set (closed old old (take k slots) 0) s (closed_span old (total old (take k slots)) s)
    next_closed = rw next_taken (closed_snoc old old (take k slots) 0 s ∙ ap (λ (a : ℕ). set (closed old old (take k slots) 0) s (closed_span old a s)) (omega arith))

    module _ (cur : List Span) (at : ℕ) (d : Distinct (take n slots)) (c : cur ≡ closed old old (take k slots) 0) (a : at ≡ total old (take k slots)) where
      same_many : (span_at cur s).many ≡ (span_at old s).many
      same_many = rw (c, next_old d)

      pub turn_total : at + (span_at cur s).many ≡ total old (take (k + 1) slots)
      turn_total = omega (arith, same_many, next_total)

      pub turn_few : at + (span_at cur s).many ≤ total old (take n slots)
      turn_few = omega (arith, same_many, next_few)

      pub turn_closed : set cur s (full at (span_at cur s).many) ≡ closed old old (take (k + 1) slots) 0
      turn_closed = rw (same_many, c, a) (sym next_closed)

    -- the rows of the next slot after those of the slots passed: a part of out is lent, and comes back as ys
    pub turn_rows : (rows out cur ys : List (List ℕ)) (at k' j : ℕ) → Stand old rows (take n slots) → total old (take n slots) ≤ length out → at ≡ total old (take k slots)
        → cur ≡ put out 0 (gather_rows old rows (take k slots)) → k' ≡ (span_at old s).many → j ≡ (span_at old s).many → ys ≡ take j (drop (span_at old s).first rows)
        → take at cur ++ (ys ++ drop k' (drop at cur)) ≡ put out 0 (gather_rows old rows (take (k + 1) slots))
    turn_rows rows out cur ys at k' j z o a b hk hj y =
        let l : length (gather_rows old rows (take k slots)) ≡ total old (take k slots) = rows_length old rows (take k slots) (λ t i. z t (rw next_split (in_left t (take k slots) (s ∷ drop (k + 1) (take n slots)) i))) in
        let g : gather_rows old rows (take (k + 1) slots) ≡ gather_rows old rows (take k slots) ++ rows_of old rows s =
        ap (gather_rows old rows) next_taken ∙ rows_append old rows (take k slots) (s ∷ []) ∙ rw (append-nil (rows_of old rows s)) in
        rw (g, b, y, hk, hj)
        (put_written (put out 0 (gather_rows old rows (take k slots))) (rows_of old rows s) at (span_at old s).many (own_length old rows s (z s slot_in).1)
        ∙ put_put out 0 (gather_rows old rows (take k slots)) (rows_of old rows s) at (omega arith) (omega arith))
