-- The lent slices by their blocks: what is overwritten or labelled anew in one block changes no other.
use mathlib.Core.Path.{◌≡◌, refl, sym, ap, ◌∙◌}
use mathlib.Core.Logic.{◌≢◌, ◌⊎◌, inl, inr, ⊎_elim}
use mathlib.Core.Bool.{◌||◌}
use mathlib.Core.List.{List}
use Prim.Native.Nat.{ℕ, suc, ◌+◌, ◌-◌, ◌*◌, ◌/◌, ◌%◌, ◌≤◌, ◌<◌}
use native.Mathlib.Nat.{mul-le-mul_right, div-add-mod', mod-lt}
use native.Mathlib.Omega.{arith}
use lib.ListN.{length, get_or, drop, replicate, length-take, length-drop, length-set, length-replicate}
use lib.Seq.{get_or-take, get_or-drop, get_or-set_same, get_or-set_other, length-take-le, ext_get_or}
use lib.Dec.{T, eqb, eqb→eq}
use Rattle.meaning.specs.declared.Geometry.{Geometry}
use Rattle.meaning.specs.declared.Tag.TheVariants.{Free}
use Rattle.base.proofs.Tests.{lt_or, or_cases, tests, makes}
use Rattle.meaning.specs.Flash.{good_size, good_pages, Lent, image_of, begins, block_size, page_of, good_geometry, fits, byte_of, erased_path}
use Rattle.meaning.specs.Services.{overwrite, relabel, erased}
use Rattle.meaning.specs.Cut.{Erased, Kept}
use Rattle.demand.proofs.Bytes.{over_length, over_within, over_without}

-- ---- slices that fit

pub record Fits (g : Geometry) (l : Lent) : Type 0 where
  pub good : T (good_geometry g)
  pub tags : length l.tags ≡ g.blocks
  pub paths : length l.paths ≡ g.blocks
  pub contents : length l.contents ≡ g.blocks * block_size g

pub fits→ : (g : Geometry) (l : Lent) → T (fits g l) → Fits g l
unfolding fits
fits→ g l t = search tests

pub →fits : (g : Geometry) (l : Lent) → Fits g l → T (fits g l)
unfolding fits
→fits g l f = search (makes, f.good, f.tags, f.paths, f.contents)

one_of : (n a b c d : ℕ) → T (eqb n a || eqb n b || eqb n c || eqb n d) → 0 < a → 0 < b → 0 < c → 0 < d → 0 < n
one_of n a b c d t pa pb pc pd = ⊎_elim
    (λ u. ⊎_elim
    (λ v. ⊎_elim (is a pa) (is b pb) (or_cases (eqb n a) (eqb n b) v))
    (is c pc) (or_cases (eqb n a || eqb n b) (eqb n c) u))
    (is d pd) (or_cases (eqb n a || eqb n b || eqb n c) (eqb n d) t)
  where
    is : (k : ℕ) → 0 < k → T (eqb n k) → 0 < n
    is k p u = omega (arith, eqb→eq n k u)

pub size_pos : (g : Geometry) → T (good_geometry g) → 0 < g.size
unfolding good_geometry good_size good_pages
size_pos g t = one_of g.size 256 512 1024 2048 (search tests) (omega arith) (omega arith) (omega arith) (omega arith)

pub pages_pos : (g : Geometry) → T (good_geometry g) → 0 < g.pages
unfolding good_geometry good_size good_pages
pages_pos g t = one_of g.pages 4 8 16 32 (search tests) (omega arith) (omega arith) (omega arith) (omega arith)

-- ---- the blocks of the contents

block_byte : (g : Geometry) (l : Lent) (i o : ℕ) → o < block_size g → get_or ((image_of g l).bytes i) o 0 ≡ get_or l.contents (begins g i + o) 0
unfolding image_of
block_byte g l i o h = get_or-take (block_size g) (drop (begins g i) l.contents) o 0 h ∙ get_or-drop (begins g i) l.contents o 0

room : (g : Geometry) (l : Lent) → Fits g l → (i : ℕ) → i < g.blocks → begins g i + block_size g ≤ length l.contents
unfolding begins
room g l f i h = let q : suc i * block_size g ≤ g.blocks * block_size g = mul-le-mul_right (block_size g) h in omega (arith, f.contents)

block_length : (g : Geometry) (l : Lent) → Fits g l → (i : ℕ) → i < g.blocks → length ((image_of g l).bytes i) ≡ block_size g
unfolding image_of
block_length g l f i h =
    length-take-le (block_size g) (drop (begins g i) l.contents) (omega (arith, length-drop (begins g i) l.contents, room g l f i h))

block_short : (g : Geometry) (l : Lent) (i : ℕ) → length ((image_of g l).bytes i) ≤ block_size g
unfolding image_of
block_short g l i = omega (arith, length-take (block_size g) (drop (begins g i) l.contents))

-- two rows of the same width do not meet
apart : (w j i o : ℕ) → j ≢ i → o < w → (j * w + o < i * w) ⊎ (i * w + w ≤ j * w + o)
apart w j i o ne ol = ⊎_elim
    (λ (h : j < i). let q : suc j * w ≤ i * w = mul-le-mul_right w h in inl (omega arith))
    (λ (h : i ≤ j). let k : suc i ≤ j = omega (arith, ne) in let q : suc i * w ≤ j * w = mul-le-mul_right w k in inr (omega arith))
    (lt_or j i)

-- ---- one block changes

-- l' is l but for block i
pub record Changed (g : Geometry) (l l' : Lent) (i : ℕ) : Type 0 where
  pub fit : Fits g l'
  pub kept : (j : ℕ) → j ≢ i → Kept g l l' j

pub changed_none : (g : Geometry) (l : Lent) (i : ℕ) → Fits g l → Changed g l l i
changed_none g l i f = record { fit = f; kept = λ j ne. (refl, refl, refl) }

pub kept_twice : (g : Geometry) (l l₁ l₂ : Lent) (i : ℕ) → Kept g l l₁ i → Kept g l₁ l₂ i → Kept g l l₂ i
kept_twice g l l₁ l₂ i p q = (q.0 ∙ p.0, q.1 ∙ p.1, q.2 ∙ p.2)

pub changed_twice : (g : Geometry) (l l₁ l₂ : Lent) (i : ℕ) → Changed g l l₁ i → Changed g l₁ l₂ i → Changed g l l₂ i
changed_twice g l l₁ l₂ i c d = record { fit = d.fit; kept = λ j ne. kept_twice g l l₁ l₂ j (c.kept j ne) (d.kept j ne) }

-- a label
module _ (g : Geometry) (l : Lent) (f : Fits g l) (i tag path : ℕ) where
  pub relabel_changed : Changed g l (relabel l i tag path) i
  unfolding relabel image_of
  relabel_changed = record {
    fit = record {
      good = f.good;
      tags = length-set l.tags i tag ∙ f.tags;
      paths = length-set l.paths i path ∙ f.paths;
      contents = f.contents;
    };
    kept = λ j ne. (get_or-set_other l.tags i j tag 0 ne, get_or-set_other l.paths i j path 0 ne, refl);
  }

  pub new_label : i < g.blocks → (get_or (relabel l i tag path).tags i 0 ≡ tag) × (get_or (relabel l i tag path).paths i 0 ≡ path)
  unfolding relabel
  new_label h = (get_or-set_same l.tags i tag 0 (omega (arith, f.tags)), get_or-set_same l.paths i path 0 (omega (arith, f.paths)))

-- bytes x within block i
module _ (g : Geometry) (l : Lent) (f : Fits g l) (i : ℕ) (h : i < g.blocks) (at : ℕ) (x : List ℕ) (lo : begins g i ≤ at)
    (hi : at + length x ≤ begins g i + block_size g) where
  abbrev l' : Lent
  l' = overwrite l at x

  inside : at + length x ≤ length l.contents
  inside = omega (arith, room g l f i h)

  same_length : length l'.contents ≡ length l.contents
  unfolding overwrite
  same_length = over_length l.contents x at inside

  byte_within : (o : ℕ) → o < block_size g → at ≤ begins g i + o → begins g i + o < at + length x
      → get_or ((image_of g l').bytes i) o 0 ≡ get_or x (begins g i + o - at) 0
  unfolding overwrite
  byte_within o ol a b = block_byte g l' i o ol ∙ over_within l.contents x at inside (begins g i + o) a b

  byte_without : (j o : ℕ) → o < block_size g → (begins g j + o < at) ⊎ (at + length x ≤ begins g j + o)
      → get_or ((image_of g l').bytes j) o 0 ≡ get_or ((image_of g l).bytes j) o 0
  unfolding overwrite
  byte_without j o ol a = block_byte g l' j o ol ∙ over_without l.contents x at inside (begins g j + o) a ∙ sym (block_byte g l j o ol)

  block_same : (j : ℕ) → j ≢ i → (image_of g l').bytes j ≡ (image_of g l).bytes j
  unfolding begins image_of
  block_same j ne = ext_get_or 0 ((image_of g l').bytes j) ((image_of g l).bytes j) (simp (length-take, length-drop, same_length)) (λ o ol.
      let os : o < block_size g = omega (arith, block_short g l' j) in
      byte_without j o os (⊎_elim (λ q. inl (omega arith)) (λ q. inr (omega arith)) (apart (block_size g) j i o ne os)))

  overwrite_changed : Changed g l l' i
  unfolding overwrite
  overwrite_changed = record {
    fit = record { good = f.good; tags = f.tags; paths = f.paths; contents = same_length ∙ f.contents };
    kept = λ j ne. (refl, refl, block_same j ne);
  }

-- ---- a block that is overwritten whole

module _ (g : Geometry) (l : Lent) (f : Fits g l) (i : ℕ) (h : i < g.blocks) (x : List ℕ) (e : length x ≡ block_size g) where
  pub spoilt_changed : Changed g l (overwrite l (begins g i) x) i
  spoilt_changed = overwrite_changed g l f i h (begins g i) x (omega arith) (omega arith)

  block_new : (image_of g (overwrite l (begins g i) x)).bytes i ≡ x
  block_new =
      let full : length ((image_of g (overwrite l (begins g i) x)).bytes i) ≡ block_size g = block_length g _ spoilt_changed.fit i h in
      ext_get_or 0 _ x (full ∙ sym e) (λ o ol.
      byte_within g l f i h (begins g i) x (omega arith) (omega arith) o (omega arith) (omega arith) (omega arith)
      ∙ ap (λ (k : ℕ). get_or x k 0) (omega arith))

abbrev blanks : Geometry → List ℕ
blanks g = replicate (block_size g) 0xff

module _ (g : Geometry) (l : Lent) (f : Fits g l) (i : ℕ) (h : i < g.blocks) where
  wiped : Changed g l (overwrite l (begins g i) (blanks g)) i
  wiped = spoilt_changed g l f i h (blanks g) (length-replicate (block_size g) 0xff)

  pub erase_changed : Changed g l (erased g l i) i
  unfolding erased
  erase_changed = changed_twice g l _ _ i wiped (relabel_changed g _ wiped.fit i (byte_of Free) erased_path)

  pub erase_erased : Erased g (erased g l i) i
  unfolding erased relabel image_of
  erase_erased =
      let n = new_label g _ wiped.fit i (byte_of Free) erased_path h in
      (n.0, n.1, block_new g l f i h (blanks g) (length-replicate (block_size g) 0xff))

-- ---- a page write

page_in : (g : Geometry) (p : ℕ) → p < g.pages → p * g.size + g.size ≤ block_size g
unfolding block_size
page_in g p h = let q : suc p * g.size ≤ g.pages * g.size = mul-le-mul_right g.size h in omega arith

page_byte : (g : Geometry) (b : List ℕ) (p o : ℕ) → o < g.size → get_or (page_of g b p) o 0 ≡ get_or b (p * g.size + o) 0
unfolding page_of
page_byte g b p o h = get_or-take g.size (drop (p * g.size) b) o 0 h ∙ get_or-drop (p * g.size) b o 0

page_length : (g : Geometry) (b : List ℕ) (p : ℕ) → length b ≡ block_size g → p < g.pages → length (page_of g b p) ≡ g.size
unfolding page_of
page_length g b p e h = length-take-le g.size (drop (p * g.size) b) (omega (arith, length-drop (p * g.size) b, page_in g p h))

-- a page is its bytes
page_ext : (g : Geometry) (b c : List ℕ) (p : ℕ) → length b ≡ block_size g → length c ≡ block_size g → p < g.pages
    → ((o : ℕ) → o < g.size → get_or (page_of g b p) o 0 ≡ get_or (page_of g c p) o 0) → page_of g b p ≡ page_of g c p
page_ext g b c p eb ec h f =
    let lb : length (page_of g b p) ≡ g.size = page_length g b p eb h in
    ext_get_or 0 (page_of g b p) (page_of g c p) (lb ∙ sym (page_length g c p ec h)) (λ o ol. f o (omega arith))

-- a byte is one of its page
pub byte_of_page : (g : Geometry) (b c : List ℕ) (o : ℕ) → 0 < g.size → page_of g b (o / g.size) ≡ page_of g c (o / g.size) → get_or b o 0 ≡ get_or c o 0
byte_of_page g b c o sz e =
    let at : o / g.size * g.size + o % g.size ≡ o = div-add-mod' o g.size in
    let see : (d : List ℕ) → get_or d o 0 ≡ get_or (page_of g d (o / g.size)) (o % g.size) 0 =
    λ d. ap (λ (k : ℕ). get_or d k 0) (sym at) ∙ sym (page_byte g d (o / g.size) (o % g.size) (mod-lt o sz)) in
    see b ∙ ap (λ (d : List ℕ). get_or d (o % g.size) 0) e ∙ sym (see c)

-- page p of block i
abbrev pub page_at : Geometry → Lent → ℕ → ℕ → List ℕ
page_at g l i p = page_of g ((image_of g l).bytes i) p

module _ (g : Geometry) (l : Lent) (f : Fits g l) (from to p : ℕ) (hf : from < g.blocks) (ht : to < g.blocks) (hp : p < g.pages) where
  abbrev page : List ℕ
  page = page_at g l from p

  abbrev place : ℕ
  place = begins g to + p * g.size

  abbrev written : Lent
  written = overwrite l place page

  size : length page ≡ g.size
  size = page_length g ((image_of g l).bytes from) p (block_length g l f from hf) hp

  within : place + length page ≤ begins g to + block_size g
  within = omega (arith, page_in g p hp, size)

  pub write_changed : Changed g l written to
  write_changed = overwrite_changed g l f to ht place page (omega arith) within

  full : length ((image_of g written).bytes to) ≡ block_size g
  full = block_length g written write_changed.fit to ht

  -- the page is the other block's
  pub write_page : page_at g written to p ≡ page_at g l from p
  write_page = page_ext g _ _ p full (block_length g l f from hf) hp (λ o ol.
      page_byte g ((image_of g written).bytes to) p o ol
      ∙ byte_within g l f to ht place page (omega arith) within (p * g.size + o) (omega (arith, page_in g p hp)) (omega arith) (omega (arith, size))
      ∙ ap (λ (k : ℕ). get_or page k 0) (omega arith))

  -- the others are as they were
  pub write_else : (q : ℕ) → q < g.pages → q ≢ p → page_at g written to q ≡ page_at g l to q
  write_else q hq ne = page_ext g _ _ q full (block_length g l f to ht) hq (λ o ol.
      page_byte g ((image_of g written).bytes to) q o ol
      ∙ byte_without g l f to ht place page (omega arith) within to (q * g.size + o) (omega (arith, page_in g q hq))
      (⊎_elim (λ k. inl (omega arith)) (λ k. inr (omega (arith, size))) (apart g.size q p o ne ol))
      ∙ sym (page_byte g ((image_of g l).bytes to) q o ol))
