-- The erase list: what the code is told of one block, the list as it grows, and that it is meaning's.
use mathlib.Core.Path.{◌≡◌, refl, sym, ap, ap₂, ◌∙◌}
use mathlib.Core.Bool.{Bool, true, false, cond, ◌&&◌, ◌||◌}
use mathlib.Core.List.{List, [], ◌∷◌, ◌++◌, append-nil}
use Prim.Native.Nat.{ℕ, ◌+◌, ◌≤◌, ◌<◌}
use native.Mathlib.Numerals.{add-one}
use native.Mathlib.Omega.{arith}
use lib.ListN.{length, get_or, set, take, replicate, length-append}
use lib.Dec.{T, eqb}
use Rattle.base.specs.Choice.{provided, test}
use Rattle.base.specs.Scan.{places}
use Rattle.base.proofs.Tests.{T-yes, tests}
use Rattle.meaning.specs.declared.Geometry.{Geometry}
use Rattle.meaning.specs.declared.Extent.{Extent}
use Rattle.meaning.specs.declared.Plan.{Plan}
use Rattle.meaning.specs.declared.Tag.TheVariants.{Log, Data}
use Rattle.meaning.specs.Flash.{Labels, Lent, fits, good_geometry, labels_of, r_of}
use Rattle.meaning.specs.Labels.{counts, dropped, log_plan, older, view}
use Rattle.meaning.specs.Mount.{erase_list, idle, is_dropped, is_idle, to_erase}
use Rattle.used.specs.Needed.{over}
use Rattle.used.specs.Bits.{listed, padded, used_bits}
use Rattle.used.specs.Erase.{erasable, erase_by, erase_of, unused}
use Rattle.used.specs.declared.Erase.{Erase}
use Rattle.used.proofs.Needed.{fit_tags}
use Rattle.used.proofs.Bits.{places_cong}
use Rattle.used.proofs.Masks.{listed_at, mask_idle, masks_are, pad_more, pad_none, pad_take}

-- ---- one block

-- v and mask are the code's answers
pub told_of : {v : Bool} {mask : ℕ} (n : ℕ) (m : Labels) (p : Plan) (masks : List ℕ) (i : ℕ) → v ≡ erasable n m p mask i → mask ≡ get_or masks i 0
    → v ≡ erasable n m p (get_or masks i 0) i
told_of n m p masks i e f = e ∙ ap (λ (k : ℕ). erasable n m p k i) f

-- ---- the list as it grows: the places below i that pass

pub record Kept (q : ℕ → Bool) (n i count : ℕ) (blocks : List ℕ) : Type 0 where
  pub few : count ≤ i
  pub long : count ≡ length (places i q)
  pub are : blocks ≡ padded n (places i q)

module _ (q : ℕ → Bool) (n : ℕ) where
  more : (i : ℕ) (b : Bool) → q i ≡ b → places (i + 1) q ≡ places i q ++ cond b (i ∷ []) []
  unfolding places
  more i b e = ap (λ (k : ℕ). places k q) (add-one i) ∙ ap (λ (c : Bool). places i q ++ cond c (i ∷ []) []) e

  module _ {v : Bool} (i count : ℕ) (blocks : List ℕ) (k : Kept q n i count blocks) (e : v ≡ q i) where
    pub kept_on : (b : ℕ) → v ≡ true → count < n → b ≡ i → Kept q n (i + 1) (count + 1) (set blocks count b)
    kept_on b f l h =
        let p : places (i + 1) q ≡ places i q ++ (i ∷ []) = more i true (sym e ∙ f) in
        let s : length (places i q) < n = omega (arith, k.long) in
        record {
          few = omega (arith, k.few);
          long = let c : length (places i q ++ (i ∷ [])) ≡ length (places i q) + 1 = length-append (places i q) (i ∷ []) in
              omega (arith, k.long, ap length p);
          are = ap₂ (λ (x : List ℕ) (j : ℕ). set x j b) k.are k.long ∙ ap (λ (j : ℕ). set (padded n (places i q)) (length (places i q)) j) h
              ∙ pad_more n (places i q) i s ∙ ap (padded n) (sym p);
        }

    pub kept_off : v ≡ false → Kept q n (i + 1) count blocks
    kept_off f =
        let p : places (i + 1) q ≡ places i q = more i false (sym e ∙ f) ∙ append-nil (places i q) in
        record { few = omega (arith, k.few); long = k.long ∙ ap length (sym p); are = k.are ∙ ap (padded n) (sym p) }

pub kept_start : (q : ℕ → Bool) → Kept q 1024 0 0 (replicate 1024 0)
unfolding places
kept_start q = record { few = omega arith; long = refl; are = pad_none 1024 }

pub kept_done : (q : ℕ → Bool) (n i count : ℕ) (blocks : List ℕ) → Kept q 1024 i count blocks → i ≡ n
    → record { blocks = blocks; count = count } ≡ erase_of (places n q)
unfolding erase_of
kept_done q n i count blocks k e =
    let l : count ≡ length (places n q) = k.long ∙ ap (λ (j : ℕ). length (places j q)) e in
    let a : blocks ≡ padded 1024 (places n q) = k.are ∙ ap (λ (j : ℕ). padded 1024 (places j q)) e in
    λ j. record { blocks = a j; count = l j }

-- ---- for callers: it is meaning's

module _ (g : Geometry) (m : Labels) (xs : List Extent) where
  unused_is : (i mask : ℕ) → mask ≡ used_bits g m xs i → unused g.blocks m mask i ≡ is_idle g m xs i
  unfolding unused is_idle view test provided
  unused_is i mask e = go (counts g.blocks m Data i) refl
    where
      go : (c : Bool) → counts g.blocks m Data i ≡ c → (c && eqb mask 0) ≡ test (idle g xs) (provided c (r_of (m.path i)))
      go false f = refl
      go true f = ap (λ (k : ℕ). eqb k 0) e ∙ mask_idle g m xs i (r_of (m.path i)) (ap (λ (c : Bool). provided c (r_of (m.path i))) f)

  pub erase_by_lem : (p : Plan) (masks : List ℕ) → g.blocks ≤ 1024 → p ≡ log_plan g.blocks m → masks ≡ listed 1024 (used_bits g m xs)
      → erase_by g.blocks m p masks ≡ erase_list g m xs
  unfolding erase_by erasable erase_list to_erase is_dropped
  erase_by_lem p masks l e f = places_cong g.blocks _ _ (λ i h.
      let b : i < 1024 = omega arith in
      ap₂ (λ (c : Plan) (u : Bool). older g.blocks m i || (test (dropped c) (view g.blocks m Log i) || u)) e
      (unused_is i (get_or masks i 0) (ap (λ (x : List ℕ). get_or x i 0) f ∙ listed_at 1024 (used_bits g m xs) i b)))

-- the slices fit, the plan is that of their labels, and the masks are those that used_bits gives
module _ (g : Geometry) (l : Lent) (p : Plan) (xs : List Extent) (masks : List ℕ) (f : fits g l ≡ true)
    (e : p ≡ log_plan (length l.tags) (labels_of l.tags l.paths))
    (h : masks ≡ listed 1024 (used_bits (over (length l.tags) g) (labels_of l.tags l.paths) xs)) where
  abbrev m : Labels
  m = labels_of l.tags l.paths

  blocks : g.blocks ≤ 1024
  unfolding fits good_geometry
  blocks = let t : T (fits g l) = T-yes _ f in search tests

  pub erase_is : erase_by (length l.tags) m p masks ≡ erase_list g m xs
  erase_is =
      let n : length l.tags ≡ g.blocks = fit_tags g l f in
      ap (λ (k : ℕ). erase_by k m p masks) n ∙ erase_by_lem g m xs p masks blocks (e ∙ ap (λ (k : ℕ). log_plan k m) n) (masks_are 1024 g l m xs f h)

  -- so the answer's first places are the erase list
  pub erase_taken : (r : Erase) → r ≡ erase_of (erase_by (length l.tags) m p masks) → take r.count r.blocks ≡ erase_list g m xs
  unfolding erase_of
  erase_taken r q = ap (λ (x : Erase). take x.count x.blocks) q ∙ pad_take 1024 (erase_by (length l.tags) m p masks) ∙ erase_is
