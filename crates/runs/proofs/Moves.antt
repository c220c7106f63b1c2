-- The parts after a run laid, a part moved, and all parts packed.
use Prim.Native.Nat.{ℕ, ◌+◌, ◌≤◌, ◌<◌}
use mathlib.Core.Path.{◌≡◌, refl, sym, ap, ap₂, ◌∙◌}
use mathlib.Core.Logic.{◌⊎◌, inl, inr, ⊎_elim, ◌≢◌}
use mathlib.Core.List.{List, ◌∷◌, ◌++◌, append_assoc, map}
use native.Mathlib.Omega.{arith}
use lib.ListN.{length, take, drop, set, length-map, length-drop, length-set}
use lib.Seq.{take_at, drop_at, take-take, length-take-le, get_or-set_same, get_or-set_other}
use Rattle.meaning.specs.Replay.{lay}
use Rattle.base.specs.Member.{In}
use Rattle.base.proofs.Tests.{eq_or}
use Rattle.base.proofs.Lists.{in_left, in_split}
use Rattle.extent.specs.Rows.{extent_of, row_of, runs, Layable}
use Rattle.extent.proofs.Rows.{runs_length}
use Rattle.extent.proofs.Laws.{lay_adds}
use Rattle.runs.specs.declared.Span.{Span}
use Rattle.runs.specs.Runs.{capacity, vacant, with, span_at, rows_of, gather_rows, total, Distinct, Part, Apart, Parts, Placed, put, Open, laid_over, spans_laid, rows_laid, Stand, wanted, moved_to, Movable, closed, Roomed}
use Rattle.runs.proofs.Lists.{put_length, put_own, put_apart, put_back}
use Rattle.runs.proofs.Slots.{Spot, spot_of, in_here, distinct_right, rows_append, own_length, rows_length, gather_length, gather_same, total_append, closed_span, closed_length, closed_at}

-- ---- a run laid over the rows of a part that is lent: m rows from f on, with room for k

module _ (spans : List Span) (rows : List (List ℕ)) (s : ℕ) (v : List ℕ) (o : Open spans rows s v) (f m k : ℕ)
    (hf : f ≡ (span_at spans s).first) (hm : m ≡ (span_at spans s).many) (hk : k ≡ (span_at spans s).room) where
  lent_rows : take m (take k (drop f rows)) ≡ rows_of spans rows s
  lent_rows = let l : m ≤ k = omega (arith, o.room) in rw (take-take m k (drop f rows) l, hf, hm)

  lent_length : length (take k (drop f rows)) ≡ k
  lent_length = length-take-le k (drop f rows) (omega (arith, o.arena, length-drop f rows))

  pub lent_open : Layable (take k (drop f rows)) m v
  lent_open = record { room = omega (arith, o.room, lent_length); within = rw lent_rows o.within; run = o.run }

  module _ (r : ℕ) (e : r ≡ length (lay (extent_of v) (runs (take k (drop f rows)) m))) where
    laid_length : r ≡ length (laid_over spans rows s v)
    laid_length = e ∙ ap (λ (l : List (List ℕ)). length (lay (extent_of v) (map extent_of l))) lent_rows

    pub lent_few : r ≤ k
    lent_few = omega (arith, o.room, lent_length, lay_adds _ _ (extent_of v) (runs (take k (drop f rows)) m) lent_open.within.lined, runs_length (take k (drop f rows)) m (omega (arith, o.room, lent_length)), e)

    pub lent_span : set spans s (with (span_at spans s) r) ≡ spans_laid spans rows s v
    lent_span = rw laid_length

    pub lent_back : (left : List (List ℕ)) → left ≡ map row_of (lay (extent_of v) (runs (take k (drop f rows)) m)) ++ drop r (take k (drop f rows))
        → take f rows ++ (left ++ drop k (drop f rows)) ≡ rows_laid spans rows s v
    lent_back left z =
        let ys : List (List ℕ) = map row_of (lay (extent_of v) (runs (take k (drop f rows)) m)) in
        rw z (put_back rows ys f k r (length-map (lay (extent_of v) (runs (take k (drop f rows)) m)) row_of ∙ sym e) lent_few)
        ∙ ap₂ (λ (a : ℕ) (l : List (List ℕ)). put rows a (map row_of (lay (extent_of v) (map extent_of l)))) hf lent_rows

-- ---- one span set anew, and rows put where no other part stands

pub stand_of : (spans : List Span) (rows : List (List ℕ)) (bump : ℕ) (ss : List ℕ) → Parts spans rows bump ss → Stand spans rows ss
stand_of spans rows bump ss p s i = let q : Part spans bump s = p.part s i in (omega (arith, p.slots, q.slot), omega (arith, p.arena, p.top, q.many, q.room))

-- the parts of the slots but s
pub record Rest (spans : List Span) (bump : ℕ) (ss : List ℕ) (s : ℕ) : Type 0 where
  pub slots : length spans ≡ 256
  pub part : (t : ℕ) → In t ss → t ≢ s → Part spans bump t
  pub apart : (t u : ℕ) → In t ss → In u ss → t ≢ s → u ≢ s → t ≢ u → Apart (span_at spans t) (span_at spans u)
  pub distinct : Distinct ss

pub rest_of : (spans : List Span) (rows : List (List ℕ)) (bump : ℕ) (ss : List ℕ) (s : ℕ) → Parts spans rows bump ss → Rest spans bump ss s
rest_of spans rows bump ss s p = record { slots = p.slots; part = λ t i n. p.part t i; apart = λ t u i j m n. p.apart t u i j; distinct = p.distinct }

pub apart_swap : (a b : Span) → Apart a b → Apart b a
apart_swap a b o = ⊎_elim (λ l. inr l) (λ l. inl l) o

module _ (spans : List Span) (s : ℕ) (q : Span) where
  pub own_span : s < length spans → span_at (set spans s q) s ≡ q
  own_span h = get_or-set_same spans s q vacant h

  pub other_span : (t : ℕ) → t ≢ s → span_at (set spans s q) t ≡ span_at spans t
  other_span t n = get_or-set_other spans s t q vacant n

  -- rows put at a place that is apart from the rows of t
  pub other_rows : (rows : List (List ℕ)) (at : ℕ) (ys : List (List ℕ)) (t : ℕ) → t ≢ s → at + length ys ≤ length rows
      → ((span_at spans t).first + (span_at spans t).many ≤ at) ⊎ (at + length ys ≤ (span_at spans t).first)
      → rows_of (set spans s q) (put rows at ys) t ≡ rows_of spans rows t
  other_rows rows at ys t n h o = rw (other_span t n) (put_apart rows at ys (span_at spans t).first (span_at spans t).many h o)

  module _ (bump : ℕ) (ss : List ℕ) (r : Rest spans bump ss s) (rows' : List (List ℕ)) (bump' : ℕ) (hs : s < 256) (hr : length rows' ≡ capacity) (hb : bump ≤ bump')
      (ht : bump' ≤ capacity) (hm : q.many ≤ q.room) (hq : q.first + q.room ≤ bump') (ha : (t : ℕ) → In t ss → t ≢ s → Apart q (span_at spans t)) where
    mine : span_at (set spans s q) s ≡ q
    mine = own_span (omega (arith, r.slots))

    reset_part : (t : ℕ) → In t ss → Part (set spans s q) bump' t
    reset_part t i = ⊎_elim
        (λ (e : t ≡ s). rw e (record { slot = hs; many = rw mine hm; room = rw mine hq }))
        (λ (n : t ≢ s). let p : Part spans bump t = r.part t i n in record { slot = p.slot; many = rw (other_span t n) p.many; room = rw (other_span t n) (omega (arith, p.room)) })
        (eq_or t s)

    reset_apart : (t u : ℕ) → In t ss → In u ss → t ≢ u → Apart (span_at (set spans s q) t) (span_at (set spans s q) u)
    reset_apart t u i j n = ⊎_elim
        (λ (e : t ≡ s). ⊎_elim
        (λ (f : u ≡ s). absurd (n (e ∙ sym f)))
        (λ (m : u ≢ s). rw (e, mine, other_span u m) (ha u j m))
        (eq_or u s))
        (λ (m : t ≢ s). ⊎_elim
        (λ (f : u ≡ s). rw (f, mine, other_span t m) (apart_swap q (span_at spans t) (ha t i m)))
        (λ (l : u ≢ s). rw (other_span t m, other_span u l) (r.apart t u i j m l n))
        (eq_or u s))
        (eq_or t s)

    pub reset : Parts (set spans s q) rows' bump' ss
    reset = record { slots = length-set spans s q ∙ r.slots; arena = hr; top = ht; part = reset_part; apart = reset_apart; distinct = r.distinct }

-- ---- a part moved to bump

module _ (spans : List Span) (rows : List (List ℕ)) (bump : ℕ) (ss : List ℕ) (s : ℕ) (p : Placed spans rows bump ss) (i : In s ss) (h : bump + wanted (span_at spans s) ≤ capacity) where
  abbrev span : Span
  span = span_at spans s

  abbrev rows' : List (List ℕ)
  rows' = put rows bump (rows_of spans rows s)

  many_rows : length (rows_of spans rows s) ≡ span.many
  many_rows = own_length spans rows s (stand_of spans rows bump ss p.parts s i).1

  pub movable : Movable spans rows bump s
  movable = record {
    slot = (stand_of spans rows bump ss p.parts s i).0;
    stands = (stand_of spans rows bump ss p.parts s i).1;
    fits = omega (arith, p.parts.arena);
    arena = omega (arith, p.parts.arena);
  }

  own_moved : span_at (set spans s (moved_to bump span)) s ≡ moved_to bump span
  own_moved = own_span spans s (moved_to bump span) movable.slot

  moved_same : (t : ℕ) → In t ss → rows_of (set spans s (moved_to bump span)) rows' t ≡ rows_of spans rows t
  moved_same t j = ⊎_elim
      (λ (e : t ≡ s). rw (e, own_moved) (ap (λ (k : ℕ). take k (drop bump rows')) (sym many_rows) ∙ put_own rows bump (rows_of spans rows s) (omega (arith, p.parts.arena))))
      (λ (n : t ≢ s). let q : Part spans bump t = p.parts.part t j in
      other_rows spans s (moved_to bump span) rows bump (rows_of spans rows s) t n (omega (arith, p.parts.arena, many_rows)) (inl (omega (arith, q.many, q.room))))
      (eq_or t s)

  moved_parts : Parts (set spans s (moved_to bump span)) rows' (bump + wanted span) ss
  moved_parts =
      reset spans s (moved_to bump span) bump ss (rest_of spans rows bump ss s p.parts) rows' (bump + wanted span) (p.parts.part s i).slot
      (put_length rows bump (rows_of spans rows s) (omega (arith, p.parts.arena, many_rows)) ∙ p.parts.arena)
      (omega arith) h (omega arith) (omega arith) (λ t j n. inr (p.parts.part t j).room)

  moved_is : Roomed spans rows (set spans s (moved_to bump span)) rows' (bump + wanted span) ss s
  moved_is = record {
    placed = record { parts = moved_parts; few = rw (gather_same spans rows (set spans s (moved_to bump span)) rows' ss moved_same) p.few };
    kept = record { same = moved_same };
    room = rw own_moved (omega arith);
  }

  pub moved_roomed : (spans₁ : List Span) (rows₁ : List (List ℕ)) (r : ℕ) → (r ≡ bump + wanted span) × (spans₁ ≡ set spans s (moved_to bump span)) × (rows₁ ≡ rows') → Roomed spans rows spans₁ rows₁ r ss s
  moved_roomed spans₁ rows₁ r e = rw (e.0, e.1, e.2) moved_is

-- ---- all parts packed

module _ (spans : List Span) (rows : List (List ℕ)) (bump : ℕ) (ss : List ℕ) (p : Placed spans rows bump ss) where
  abbrev rows_packed : List (List ℕ)
  rows_packed = put rows 0 (gather_rows spans rows ss)

  abbrev spans_packed : List Span
  spans_packed = closed spans spans ss 0

  stands : Stand spans rows ss
  stands = stand_of spans rows bump ss p.parts

  pub few_rows : total spans ss ≤ 1024
  few_rows = omega (arith, p.few, gather_length spans rows ss stands)

  packed_span : (ls rs : List ℕ) (t : ℕ) → ss ≡ ls ++ (t ∷ rs) → span_at spans_packed t ≡ closed_span spans (total spans ls) t
  packed_span ls rs t e =
      let i : In t ss = rw e (in_here t ls rs) in
      let z : 0 + total spans ls ≡ total spans ls = omega arith in
      let c : span_at spans_packed t ≡ closed_span spans (0 + total spans ls) t = rw e (closed_at spans spans ls rs 0 t (stands t i).0 (distinct_right t ls rs (rw e at p.parts.distinct))) in
      c ∙ rw z

  packed_rows : (ls rs : List ℕ) (t : ℕ) → ss ≡ ls ++ (t ∷ rs) → rows_of spans_packed rows_packed t ≡ rows_of spans rows t
  packed_rows ls rs t e =
      let i : In t ss = rw e (in_here t ls rs) in
      let g : gather_rows spans rows ss ≡ gather_rows spans rows ls ++ (rows_of spans rows t ++ gather_rows spans rows rs) = rw e (rows_append spans rows ls (t ∷ rs)) in
      let l : length (gather_rows spans rows ls) ≡ total spans ls = rows_length spans rows ls (λ u j. stands u (rw e (in_left u ls (t ∷ rs) j))) in
      let rest : List (List ℕ) = drop (0 + length (gather_rows spans rows ss)) rows in
      rw (packed_span ls rs t e)
      (ap (λ (xs : List (List ℕ)). take (span_at spans t).many (drop (total spans ls) (xs ++ rest))) g
      ∙ rw (append_assoc (gather_rows spans rows ls) (rows_of spans rows t ++ gather_rows spans rows rs) rest, append_assoc (rows_of spans rows t) (gather_rows spans rows rs) rest)
      (ap (take (span_at spans t).many) (drop_at (gather_rows spans rows ls) (rows_of spans rows t ++ (gather_rows spans rows rs ++ rest)) (total spans ls) l)
      ∙ take_at (rows_of spans rows t) (gather_rows spans rows rs ++ rest) (span_at spans t).many (own_length spans rows t (stands t i).1)))

  packed_same : (t : ℕ) → In t ss → rows_of spans_packed rows_packed t ≡ rows_of spans rows t
  packed_same t i = let o : Spot t ss = spot_of t ss i in packed_rows o.left o.right t o.is

  packed_part : (t : ℕ) → In t ss → Part spans_packed (total spans ss) t
  packed_part t i =
      let o : Spot t ss = spot_of t ss i in
      let z : total spans ss ≡ total spans (o.left ++ (t ∷ o.right)) = ap (total spans) o.is in
      record {
        slot = (p.parts.part t i).slot;
        many = rw (packed_span o.left o.right t o.is) (omega arith);
        room = rw (packed_span o.left o.right t o.is) (omega (arith, z, total_append spans o.left (t ∷ o.right)));
      }

  -- of two slots the one that comes first ends where or before the other begins
  packed_order : (ls ms rs : List ℕ) (t u : ℕ) → ss ≡ ls ++ (t ∷ (ms ++ (u ∷ rs))) → (span_at spans_packed t).first + (span_at spans_packed t).room ≤ (span_at spans_packed u).first
  packed_order ls ms rs t u e =
      let f : ss ≡ (ls ++ (t ∷ ms)) ++ (u ∷ rs) = e ∙ sym (append_assoc ls (t ∷ ms) (u ∷ rs)) in
      rw (packed_span ls (ms ++ (u ∷ rs)) t e, packed_span (ls ++ (t ∷ ms)) rs u f) (omega (arith, total_append spans ls (t ∷ ms)))

  packed_apart : (t u : ℕ) → In t ss → In u ss → t ≢ u → Apart (span_at spans_packed t) (span_at spans_packed u)
  packed_apart t u i j n = ⊎_elim
      (λ (k : In u o.left).
      let w : Spot u o.left = spot_of u o.left k in
      inr (packed_order w.left w.right o.right u t (o.is ∙ ap (λ (l : List ℕ). l ++ (t ∷ o.right)) w.is ∙ append_assoc w.left (u ∷ w.right) (t ∷ o.right))))
      (λ (k : In u (t ∷ o.right)). ⊎_elim
      (λ (e : u ≡ t). absurd (n (sym e)))
      (λ (m : In u o.right).
      let w : Spot u o.right = spot_of u o.right m in
      inl (packed_order o.left w.left w.right t u (o.is ∙ ap (λ (l : List ℕ). o.left ++ (t ∷ l)) w.is)))
      k)
      (in_split u o.left (t ∷ o.right) (rw o.is at j))
    where
      o : Spot t ss
      o = spot_of t ss i

  packed_parts : Parts spans_packed rows_packed (total spans ss) ss
  packed_parts = record {
    slots = closed_length spans spans ss 0 ∙ p.parts.slots;
    arena = put_length rows 0 (gather_rows spans rows ss) (omega (arith, p.parts.arena, few_rows, rows_length spans rows ss stands)) ∙ p.parts.arena;
    top = omega (arith, few_rows);
    part = packed_part;
    apart = packed_apart;
    distinct = p.parts.distinct;
  }

  packed_placed : Placed spans_packed rows_packed (total spans ss) ss
  packed_placed = record { parts = packed_parts; few = rw (gather_same spans rows spans_packed rows_packed ss packed_same) p.few }

  -- there is room then for any part moved
  packed_fits : (s : ℕ) → In s ss → total spans ss + wanted (span_at spans_packed s) ≤ capacity
  packed_fits s i =
      let o : Spot s ss = spot_of s ss i in
      let z : total spans ss ≡ total spans (o.left ++ (s ∷ o.right)) = ap (total spans) o.is in
      rw (packed_span o.left o.right s o.is) (omega (arith, few_rows, z, total_append spans o.left (s ∷ o.right)))

  module _ (s : ℕ) (i : In s ss) (spans₁ : List Span) (rows₁ : List (List ℕ)) (b : ℕ) (e : (b ≡ total spans ss) × (spans₁ ≡ spans_packed) × (rows₁ ≡ rows_packed)) where
    packed_is : Placed spans₁ rows₁ b ss
    packed_is = rw (e.0, e.1, e.2) packed_placed

    packed_room : b + wanted (span_at spans₁ s) ≤ capacity
    packed_room = rw (e.0, e.1) (packed_fits s i)

    packed_kept : (t : ℕ) → In t ss → rows_of spans₁ rows₁ t ≡ rows_of spans rows t
    packed_kept t j = rw (e.1, e.2) (packed_same t j)

    pub packed_movable : Movable spans₁ rows₁ b s
    packed_movable = movable spans₁ rows₁ b ss s packed_is i packed_room

    pub packed_roomed : (spans₂ : List Span) (rows₂ : List (List ℕ)) (r : ℕ) → (r ≡ b + wanted (span_at spans₁ s)) × (spans₂ ≡ set spans₁ s (moved_to b (span_at spans₁ s))) × (rows₂ ≡ put rows₁ b (rows_of spans₁ rows₁ s))
        → Roomed spans rows spans₂ rows₂ r ss s
    packed_roomed spans₂ rows₂ r f =
        let m : Roomed spans₁ rows₁ spans₂ rows₂ r ss s = moved_roomed spans₁ rows₁ b ss s packed_is i packed_room spans₂ rows₂ r f in
        record { placed = m.placed; kept = record { same = λ t j. m.kept.same t j ∙ packed_kept t j }; room = m.room }

-- ---- a part that has room already

pub roomed_already : (spans : List Span) (rows : List (List ℕ)) (bump : ℕ) (ss : List ℕ) (s : ℕ) → Placed spans rows bump ss → (span_at spans s).many + 2 ≤ (span_at spans s).room
    → Roomed spans rows spans rows bump ss s
roomed_already spans rows bump ss s p h = record { placed = p; kept = record { same = λ t i. refl }; room = h }
