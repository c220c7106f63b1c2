-- The used pages of one block, and those of all: a list that is written from its start on, 0 past its end.
use mathlib.Core.Path.{◌≡◌, refl, sym, ap, ap₂, ◌∙◌}
use mathlib.Core.Bool.{Bool, true, false}
use mathlib.Core.Logic.{inl, inr, ⊎_elim}
use mathlib.Core.Option.{some}
use mathlib.Core.List.{List, [], ◌∷◌, ◌++◌, append_assoc, append-nil}
use Prim.Native.Nat.{ℕ, zero, suc, ◌+◌, ◌-◌, ◌/◌, ◌≤◌, ◌<◌, min}
use native.Mathlib.Nat.{add-zero, add-suc, sub-zero, not-suc-le-zero, le_of_suc-le-suc, eq-or-lt_of_le}
use native.Mathlib.Numerals.{add-one}
use native.Mathlib.Omega.{arith}
use lib.ListN.{length, get_or, set, take, replicate, length-append, length-replicate, replicate-append-replicate, get_or-append}
use lib.Seq.{set_at, take_at, get_or_at}
use lib.Dec.{eqb}
use borrow.Author.Tests.{le-ltb}
use Rattle.base.specs.Choice.{on_some, provided}
use Rattle.base.specs.Scan.{places}
use Rattle.base.proofs.Tests.{lt_or}
use Rattle.meaning.specs.declared.Geometry.{Geometry}
use Rattle.meaning.specs.declared.Extent.{Extent}
use Rattle.meaning.specs.declared.Tag.TheVariants.{Data}
use Rattle.meaning.specs.Flash.{Labels, Lent, address_of, fits, r_of}
use Rattle.meaning.specs.Labels.{counts, view}
use Rattle.meaning.specs.Mount.{idle, touches, used, used_pages}
use Rattle.used.specs.Needed.{over}
use Rattle.used.specs.Bits.{Flagged, has_page, listed, padded, page_bits, used_bits}
use Rattle.used.proofs.Needed.{over_is}
use Rattle.used.proofs.Bits.{bit_is, bits_cong, bits_none, bits_places}

-- ---- one block

module _ {c : Bool} (n : ℕ) (g : Geometry) (m : Labels) (xs : List Extent) (i : ℕ) (e : c ≡ counts n m Data i) where
  pub block_off : c ≡ false → 0 ≡ used_bits (over n g) m xs i
  unfolding used_bits view on_some provided
  block_off f = rw (← e, f)

  -- w is the block's path
  pub block_on : {w r : ℕ} {flags : List Bool} → c ≡ true → w ≡ m.path i → Flagged g xs (w / 4) flags → r ≡ page_bits g.pages (λ p. get_or flags p false)
      → r ≡ used_bits (over n g) m xs i
  unfolding used_bits view on_some provided used touches address_of r_of
  block_on f p l h = rw (← e, f, ← p) (h ∙ bits_cong g.pages _ _ l.exact)

pub past_all : (n : ℕ) (g : Geometry) (m : Labels) (xs : List Extent) (i : ℕ) → n ≤ i → used_bits (over n g) m xs i ≡ 0
unfolding used_bits view on_some provided counts
past_all n g m xs i h = rw (le-ltb i n h)

-- ---- for callers: what a block's mask says

module _ (g : Geometry) (m : Labels) (xs : List Extent) (i d : ℕ) (v : view g.blocks m Data i ≡ some d) where
  mask_is : used_bits g m xs i ≡ page_bits g.pages (used g xs d)
  unfolding used_bits on_some
  mask_is = rw v

  -- bit p is set exactly if page p is used
  pub mask_page : (p : ℕ) → p < g.pages → has_page (used_bits g m xs i) p ≡ used g xs d p
  mask_page p h = ap (λ (k : ℕ). has_page k p) mask_is ∙ bit_is (used g xs d) g.pages p h

  -- the set bits are the used pages
  pub mask_pages : places g.pages (has_page (used_bits g m xs i)) ≡ used_pages g xs d
  unfolding used_pages
  mask_pages = ap (λ (k : ℕ). places g.pages (has_page k)) mask_is ∙ bits_places g.pages (used g xs d)

  -- no bit is set exactly if no page is used
  pub mask_idle : eqb (used_bits g m xs i) 0 ≡ idle g xs d
  unfolding idle
  mask_idle = ap (λ (k : ℕ). eqb k 0) mask_is ∙ bits_none (used g xs d) g.pages

-- ---- lists in arrays

pub listed_length : (n : ℕ) (f : ℕ → ℕ) → length (listed n f) ≡ n
unfolding listed
listed_length zero f = refl
listed_length (suc n) f = simp length-append (omega (arith, listed_length n f))

pub listed_at : (n : ℕ) (f : ℕ → ℕ) (i : ℕ) → i < n → get_or (listed n f) i 0 ≡ f i
unfolding listed
listed_at zero f i h = absurd (not-suc-le-zero h)
listed_at (suc n) f i h = elim (eq-or-lt_of_le (le_of_suc-le-suc h)) [
  | inl e ↦ rw e (get_or_at (listed n f) (f n) [] 0 n (listed_length n f))
  | inr l ↦ get_or-append (listed n f) (f n ∷ []) 0 i (omega (arith, listed_length n f)) ∙ listed_at n f i l
]

-- where the slices fit, the masks are those of the geometry's own blocks
pub masks_are : {masks : List ℕ} (n : ℕ) (g : Geometry) (l : Lent) (m : Labels) (xs : List Extent) → fits g l ≡ true
    → masks ≡ listed n (used_bits (over (length l.tags) g) m xs) → masks ≡ listed n (used_bits g m xs)
masks_are n g l m xs f e = e ∙ ap (λ (h : Geometry). listed n (used_bits h m xs)) (over_is g l f)

module _ (n : ℕ) where
  pub pad_none : replicate n 0 ≡ padded n []
  unfolding padded
  pad_none = ap (λ (j : ℕ). replicate j 0) (sym (sub-zero n))

  pub pad_more : (xs : List ℕ) (v : ℕ) → length xs < n → set (padded n xs) (length xs) v ≡ padded n (xs ++ (v ∷ []))
  unfolding padded
  pad_more xs v h =
      let l : length (xs ++ (v ∷ [])) ≡ length xs + 1 = length-append xs (v ∷ []) in
      let k : n - length xs ≡ suc (n - (length xs + 1)) = omega arith in
      ap (λ (j : ℕ). set (xs ++ replicate j 0) (length xs) v) k
      ∙ set_at xs 0 (replicate (n - (length xs + 1)) 0) v (length xs) refl
      ∙ sym (append_assoc xs (v ∷ []) (replicate (n - (length xs + 1)) 0))
      ∙ ap (λ (j : ℕ). (xs ++ (v ∷ [])) ++ replicate (n - j) 0) (sym l)

  pub pad_length : (xs : List ℕ) → length xs ≤ n → length (padded n xs) ≡ n
  unfolding padded
  pad_length xs h = simp (length-append, length-replicate) (omega arith)

  pub pad_take : (xs : List ℕ) → take (length xs) (padded n xs) ≡ xs
  unfolding padded
  pad_take xs = take_at xs _ (length xs) refl

  pub pad_full : (xs : List ℕ) → n ≤ length xs → padded n xs ≡ xs
  unfolding padded
  pad_full xs h = let z : n - length xs ≡ 0 = omega arith in ap (λ (j : ℕ). xs ++ replicate j 0) z ∙ append-nil xs

-- ---- f of each place, in turn

module _ (f : ℕ → ℕ) where
  zeros : (i j : ℕ) → ((k : ℕ) → i ≤ k → f k ≡ 0) → listed (i + j) f ≡ listed i f ++ replicate j 0
  unfolding listed
  zeros i zero z = ap (λ (k : ℕ). listed k f) (add-zero i) ∙ sym (append-nil (listed i f))
  zeros i (suc j) z =
      ap (λ (k : ℕ). listed k f) (add-suc i j)
      ∙ ap₂ (λ (l : List ℕ) (v : ℕ). l ++ (v ∷ [])) (zeros i j z) (z (i + j) (omega arith))
      ∙ append_assoc (listed i f) (replicate j 0) (0 ∷ [])
      ∙ ap (λ (l : List ℕ). listed i f ++ l) (replicate-append-replicate j 1 0 ∙ ap (λ (k : ℕ). replicate k 0) (add-one j))

  pub list_more : (n i : ℕ) (masks : List ℕ) (v : ℕ) → masks ≡ padded n (listed i f) → i < n → v ≡ f i → set masks i v ≡ padded n (listed (i + 1) f)
  unfolding listed
  list_more n i masks v e h p =
      let l : length (listed i f) ≡ i = listed_length i f in
      let b : length (listed i f) < n = omega arith in
      ap₂ (λ (x : List ℕ) (k : ℕ). set x k v) e (sym l)
      ∙ pad_more n (listed i f) v b
      ∙ ap (λ (k : ℕ). padded n (listed i f ++ (k ∷ []))) p
      ∙ ap (λ (k : ℕ). padded n (listed k f)) (sym (add-one i))

  pub list_full : (n i : ℕ) (masks : List ℕ) → masks ≡ padded n (listed i f) → i ≡ n → masks ≡ listed n f
  list_full n i masks e h = e ∙ ap (λ (k : ℕ). padded n (listed k f)) h ∙ pad_full n (listed n f) (omega (arith, listed_length n f))

  pub list_short : (n i : ℕ) (masks : List ℕ) → masks ≡ padded n (listed i f) → i ≤ n → ((k : ℕ) → i ≤ k → f k ≡ 0) → masks ≡ listed n f
  unfolding padded
  list_short n i masks e h z =
      let k : i + (n - i) ≡ n = omega arith in
      e ∙ ap (λ (j : ℕ). listed i f ++ replicate (n - j) 0) (listed_length i f) ∙ sym (zeros i (n - i) z) ∙ ap (λ (j : ℕ). listed j f) k

  -- the first n places, or as many as there are
  pub list_done : (n len i : ℕ) (masks : List ℕ) → masks ≡ padded n (listed i f) → i ≡ min len n → ((k : ℕ) → len ≤ k → f k ≡ 0) → masks ≡ listed n f
  list_done n len i masks e h z = ⊎_elim (λ (l : len < n). list_short n i masks e (omega arith) (λ k q. z k (omega arith)))
      (λ (l : n ≤ len). list_full n i masks e (omega arith)) (lt_or len n)
