-- Which pages of a block an extent touches, by overlap of addresses, and the flags of the used ones.
use mathlib.Core.Path.{◌≡◌, refl, sym, ap, ◌∙◌, subst}
use mathlib.Core.Bool.{Bool, true, false, ◌&&◌, ◌||◌}
use mathlib.Core.Logic.{⊎_elim}
use mathlib.Core.List.{List, [], ◌∷◌, map}
use Prim.Native.Nat.{ℕ, suc, ◌+◌, ◌-◌, ◌*◌, ◌/◌, ◌≤◌, ◌<◌, ◌^◌, min}
use native.Mathlib.Nat.{mul-le-mul, mul-le-mul_left, mul-le-mul_right, div-lt_iff_lt-mul, le-div_iff_mul-le, div-le_of_le-mul, div-le_self, lt-div-mul-add}
use native.Mathlib.Numerals.{add-one}
use native.Mathlib.Omega.{arith}
use borrow.Rule.Slice.PartMut.{put_mid}
use Rattle.std.proofs.lemmas.Grind.{common_steps}
use lib.ListN.{length, get_or, take, drop, replicate, get_or-replicate, drop_of_length-le}
use lib.Seq.{drop-cons}
use lib.Dec.{T, ltb, leb, ltb→lt, lt→ltb, leb→le, le→leb}
use Rattle.base.specs.Scan.{any_of}
use Rattle.base.proofs.Tests.{T-yes, T-ext, is_true, is_false, and_l, and_r, and_i, lt_or}
use Rattle.meaning.specs.declared.Geometry.{Geometry}
use Rattle.meaning.specs.declared.Extent.{Extent}
use Rattle.meaning.specs.Flash.{address_of, block_size}
use Rattle.meaning.specs.Mount.{in_data, touches, used}
use Rattle.extent.specs.Rows.{extent_of}
use Rattle.used.specs.Bits.{Flagged, Marked, Touched, among}
use Rattle.std.specs.declared.ops.Range.{Range}

-- ---- sizes

pub block_low : (g : Geometry) (b d : ℕ) → b ≡ block_size g → g.size ≤ 65535 → g.pages ≤ 32 → d < 2 ^ 33 → d * b + b ≤ 2 ^ 33 * 2097120 + 2097120
unfolding block_size
block_low g b d e s p h =
    let q : g.size * g.pages ≤ 65535 * 32 = mul-le-mul s p in
    let l : b ≤ 2097120 = omega arith in
    let m : d ≤ 2 ^ 33 = omega arith in
    omega (arith, mul-le-mul m l)

pub some_size : {block start : ℕ} (g : Geometry) (d : ℕ) → block ≡ block_size g → start < d * block + block → 0 < g.size
unfolding block_size
some_size {block} g d e l = ⊎_elim (λ (h : 0 < g.size). h) (λ (h : g.size ≤ 0).
    let q : g.size * g.pages ≤ 0 * g.pages = mul-le-mul_right g.pages h in
    let r : d * block ≤ d * 0 = mul-le-mul_left d (omega arith) in
    omega arith) (lt_or 0 g.size)

pub page_low : {p : ℕ} (a b s : ℕ) → p ≡ (a - b) / s → p ≤ a
page_low a b s e = omega (arith, div-le_self (a - b) s)

pub ruleset sizes = (block_low, some_size, page_low)

-- ---- pages from one up to another

module _ (from past p : ℕ) where
  among_from : T (among from past p) → from ≤ p
  unfolding among
  among_from t = leb→le from p (and_l (leb from p) (ltb p past) t)

  among_past : T (among from past p) → p < past
  unfolding among
  among_past t = ltb→lt p past (and_r (leb from p) (ltb p past) t)

  among_in : from ≤ p → p < past → T (among from past p)
  unfolding among
  among_in a b = and_i (leb from p) (ltb p past) (le→leb from p a) (lt→ltb p past b)

  among_out : (p < past → p < from) → among from past p ≡ false
  among_out f = is_false _ (λ t. let h : p < from = f (among_past t) in omega (arith, among_from t))

-- ---- one extent and one block

abbrev none : Range ℕ
none = record { start = 0; end = 0 }

-- no page is touched
untouched : (g : Geometry) (d : ℕ) (e : Extent) → ((p : ℕ) → p < g.pages → T (touches g d p e) → ⊥) → Touched g d e none
untouched g d e f = record { order = omega arith; most = omega arith; exact = λ p h. is_false _ (f p h) ∙ sym (among_out 0 0 p (λ l. l)) }

-- what it says that page p is touched
module _ (g : Geometry) (d p : ℕ) (e : Extent) where
  abbrev begin : ℕ
  begin = d * (g.size * g.pages)

  pub touch_data : T (touches g d p e) → T (in_data e)
  unfolding touches
  touch_data t = and_l (in_data e) _ (and_l (in_data e && ltb e.address (address_of g d (p + 1) 0)) _ t)

  pub touch_low : T (touches g d p e) → e.address < begin + (p + 1) * g.size
  unfolding touches address_of
  touch_low t = omega (arith, ltb→lt e.address (address_of g d (p + 1) 0) (and_r (in_data e) _ (and_l (in_data e && ltb e.address (address_of g d (p + 1) 0)) _ t)))

  pub touch_size : T (touches g d p e) → 0 < g.size
  touch_size t = ⊎_elim (λ (h : 0 < g.size). h) (λ (h : g.size ≤ 0).
      let q : g.size * g.pages ≤ 0 * g.pages = mul-le-mul_right g.pages h in
      let r : d * (g.size * g.pages) ≤ d * 0 = mul-le-mul_left d (omega arith) in
      let s : (p + 1) * g.size ≤ (p + 1) * 0 = mul-le-mul_left (p + 1) h in
      omega (arith, touch_low t)) (lt_or 0 g.size)

  pub touch_high : T (touches g d p e) → begin + p * g.size < e.address + e.count
  unfolding touches address_of
  touch_high t = omega (arith, ltb→lt (address_of g d p 0) (e.address + e.count) (and_r (in_data e && ltb e.address (address_of g d (p + 1) 0)) _ t))

  pub touch : T (in_data e) → e.address < begin + (p + 1) * g.size → begin + p * g.size < e.address + e.count → T (touches g d p e)
  unfolding touches address_of
  touch i a b =
      let a' : e.address < address_of g d (p + 1) 0 = omega arith in
      let b' : address_of g d p 0 < e.address + e.count = omega arith in
      and_i (in_data e && ltb e.address (address_of g d (p + 1) 0)) _ (and_i (in_data e) _ i (lt→ltb _ _ a')) (lt→ltb _ _ b')

-- a block past all addresses
pub touched_far : (g : Geometry) (d : ℕ) (e : Extent) → e.address < 2 ^ 32 → e.count < 2 ^ 32 → 8589934592 ≤ d → Touched g d e none
touched_far g d e a c l = untouched g d e (λ p h t.
    let s : 1 ≤ g.size = touch_size g d p e t in
    let n : 1 ≤ g.pages = omega arith in
    let q : 1 * 1 ≤ g.size * g.pages = mul-le-mul s n in
    let r : d * 1 ≤ d * (g.size * g.pages) = mul-le-mul_left d (omega arith) in
    omega (arith, touch_high g d p e t))

-- block, start and count are the code's numbers
module _ {block start count : ℕ} (g : Geometry) (d : ℕ) (e : Extent) (hb : block ≡ block_size g) (hs : start ≡ e.address) (hc : count ≡ e.count) where
  begins : d * block ≡ d * (g.size * g.pages)
  unfolding block_size
  begins = ap (λ (b : ℕ). d * b) hb

  pub touched_past : d * block + block ≤ start → Touched g d e none
  unfolding block_size
  touched_past l = untouched g d e (λ p h t.
      let q : suc p * g.size ≤ g.pages * g.size = mul-le-mul_right g.size h in
      omega (arith, touch_low g d p e t, begins))

  pub touched_before : start + count ≤ d * block → Touched g d e none
  touched_before l = untouched g d e (λ p h t. omega (arith, touch_high g d p e t, begins))

  pub touched_log : {v : Bool} → v ≡ in_data e → v ≡ false → Touched g d e none
  touched_log q f = untouched g d e (λ p h t. subst T (sym q ∙ f) (touch_data g d p e t))

  -- the first byte lies at `lo` and the last at `hi`, on the pages `from` and `last` of the block or outside it
  pub touched_here : {v : Bool} {from last : ℕ} (lo hi past : ℕ) → v ≡ in_data e → v ≡ true → start < d * block + block → d * block < start + count
      → from ≡ (lo - d * block) / g.size → last ≡ (hi - d * block) / g.size → lo ≡ start → hi ≡ start + count - 1 → past ≡ min (last + 1) g.pages
      → Touched g d e (record { start = from; end = past })
  unfolding block_size
  touched_here {v} {from} {last} lo hi past q f a b hf hl lo-is hi-is hp = record { order = order; most = omega arith; exact = λ p h. T-ext _ _ (into p h) (out p h) }
    where
      x : ℕ
      x = lo - d * block

      y : ℕ
      y = hi - d * block

      s : 0 < g.size
      s = some_size g d hb a

      order : from ≤ past
      order =
          let w : x ≤ g.size * g.pages = omega arith in
          let m : x / g.size ≤ g.pages = div-le_of_le-mul g.size w in
          let n : y < y / g.size * g.size + g.size = lt-div-mul-add s in
          let u : x ≤ g.size * (y / g.size + 1) = omega arith in
          let k : x / g.size ≤ y / g.size + 1 = div-le_of_le-mul g.size u in
          omega arith

      into : (p : ℕ) → p < g.pages → T (touches g d p e) → T (among from past p)
      into p h t =
          let i : x < (p + 1) * g.size = omega (arith, s, touch_low g d p e t, begins) in
          let i' : x / g.size < p + 1 = (div-lt_iff_lt-mul s).1 i in
          let j : p * g.size ≤ y = omega (arith, touch_high g d p e t, begins) in
          let j' : p ≤ y / g.size = (le-div_iff_mul-le s).1 j in
          among_in from past p (omega arith) (omega arith)

      out : (p : ℕ) → p < g.pages → T (among from past p) → T (touches g d p e)
      out p h t =
          let k : from ≤ p = among_from from past p t in
          let k' : p < past = among_past from past p t in
          let i : x / g.size < p + 1 = omega arith in
          let i' : x < (p + 1) * g.size = (div-lt_iff_lt-mul s).0 i in
          let j : p ≤ y / g.size = omega arith in
          let j' : p * g.size ≤ y = (le-div_iff_mul-le s).0 j in
          touch g d p e (T-yes _ (sym q ∙ f)) (omega (arith, begins)) (omega (arith, begins))

-- ---- flags

same_or : (a b : Bool) → b ≡ false → a ≡ (a || b)
same_or true b e = refl
same_or false b e = sym e

or_true : (a b : Bool) → b ≡ true → true ≡ (a || b)
or_true true b e = refl
or_true false b e = sym e

or_assoc : (a b c : Bool) → (a || (b || c)) ≡ ((a || b) || c)
or_assoc true b c = refl
or_assoc false b c = refl

or_false : (a : Bool) → (a || false) ≡ a
or_false true = refl
or_false false = refl

-- the flags with those from one place up to another filled with true
module _ (l : List Bool) (from past : ℕ) (h : from ≤ past) (i : past ≤ length l) where
  abbrev part : ℕ
  part = past - from

  abbrev after : List Bool
  after = put_mid from part l (replicate part true)

  low : (p : ℕ) → p < length l → p < from → get_or after p false ≡ (get_or l p false || among from past p)
  low p b a = grind (arith, common_steps, among_out from past p (λ c. a), or_false)

  mid : (p : ℕ) → p < length l → from ≤ p → p < past → get_or after p false ≡ (get_or l p false || among from past p)
  mid p b a c =
      let t : get_or after p false ≡ true = grind (arith, common_steps) in
      t ∙ or_true _ _ (is_true _ (among_in from past p a c))

  high : (p : ℕ) → p < length l → past ≤ p → get_or after p false ≡ (get_or l p false || among from past p)
  high p b c =
      let t : get_or after p false ≡ get_or l p false = grind (arith, common_steps) in
      t ∙ same_or _ _ (among_out from past p (λ q. omega arith))

  marked : Marked l after from past
  marked = record {
    long = grind (arith, common_steps);
    exact = λ p b. ⊎_elim (λ (a : p < from). low p b a)
        (λ (a : from ≤ p). ⊎_elim (λ (c : p < past). mid p b a c) (λ (c : past ≤ p). high p b c) (lt_or p past)) (lt_or p from);
  }

  pub marked_fill : {ys : List Bool} → ys ≡ replicate (length (take part (drop from l))) true → Marked l (put_mid from part l ys) from past
  marked_fill e =
      let n : length (take part (drop from l)) ≡ part = grind (arith, common_steps) in
      subst (λ (ys : List Bool). Marked l (put_mid from part l ys) from past) (sym (e ∙ ap (λ (k : ℕ). replicate k true) n)) marked

-- ---- one extent after another: the flags and what is left decide

module _ (g : Geometry) (rows : List (List ℕ)) (d : ℕ) where
  pub record Flags (flags : List Bool) (k : ℕ) : Type 0 where
    pub long : length flags ≡ 32
    pub exact : (p : ℕ) → p < g.pages → used g (map extent_of rows) d p ≡ (get_or flags p false || used g (map extent_of (drop k rows)) d p)

  unset : (p : ℕ) → p < 32 → get_or (replicate 32 false) p false ≡ false
  unset p h = get_or-replicate 32 p false false h

  pub flags_start : g.pages ≤ 32 → Flags (replicate 32 false) 0
  flags_start l = record { long = refl; exact = λ p h. let b : p < 32 = omega arith in rw (unset p b) }

  pub flags_more : {flags after : List Bool} {s : Range ℕ} (k : ℕ) → Flags flags k → g.pages ≤ 32 → k < length rows → Touched g d (extent_of (get_or rows k [])) s
      → Marked flags after s.start s.end → Flags after (k + 1)
  unfolding used any_of
  flags_more {flags} {after} {s} k f w l t m = record {
    long = m.long ∙ f.long;
    exact = λ p h.
        let e : Extent = extent_of (get_or rows k []) in
        let b : p < length flags = omega (arith, f.long) in
        f.exact p h
        ∙ ap (λ (r : List (List ℕ)). get_or flags p false || any_of (touches g d p) (map extent_of r))
        (drop-cons rows k [] l ∙ ap (λ (j : ℕ). get_or rows k [] ∷ drop j rows) (sym (add-one k)))
        ∙ or_assoc (get_or flags p false) (touches g d p e) (any_of (touches g d p) (map extent_of (drop (k + 1) rows)))
        ∙ ap (λ (b : Bool). b || any_of (touches g d p) (map extent_of (drop (k + 1) rows)))
        (ap (λ (b : Bool). get_or flags p false || b) (t.exact p h) ∙ sym (m.exact p b));
  }

  pub flags_done : {flags : List Bool} (k : ℕ) → Flags flags k → length rows ≤ k → Flagged g (map extent_of rows) d flags
  unfolding used any_of
  flags_done {flags} k f l = record {
    long = f.long;
    exact = λ p h. sym (f.exact p h
        ∙ ap (λ (r : List (List ℕ)). get_or flags p false || any_of (touches g d p) (map extent_of r)) (drop_of_length-le rows l)
        ∙ or_false (get_or flags p false));
  }
