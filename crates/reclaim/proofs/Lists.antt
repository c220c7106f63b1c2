-- The list of steps as it grows.
use Prim.Native.Nat.{ℕ, ◌+◌, ◌*◌, ◌-◌, ◌<◌, ◌≤◌}
use mathlib.Core.Path.{◌≡◌, refl, sym, ap, ◌∙◌}
use mathlib.Core.Bool.{Bool, true, false, cond}
use mathlib.Core.List.{List, [], ◌∷◌, ◌++◌, map, map-append, append_assoc, append-nil}
use native.Mathlib.Omega.{arith}
use native.Mathlib.Numerals.{add-one}
use lib.ListN.{length, take, drop, set, get_or, length-append}
use lib.Seq.{take-suc-set}
use Rattle.base.specs.Scan.{places}
use Rattle.meaning.specs.declared.Block.{Block}
use Rattle.meaning.specs.declared.Geometry.{Geometry}
use Rattle.meaning.specs.declared.Step.{Step}
use Rattle.meaning.specs.declared.Step.TheVariants.{Erase, PageWrite, LabelWrite}
use Rattle.meaning.specs.Flash.{Labels, Lent, blank, block_size, begins, byte_of, copy_of, image_of, labels_of, path_of, successor, fits, same_tag}
use Rattle.meaning.specs.Services.{cleared, free_blocks, is_free, renewed_path, writable}
use Rattle.flash_log.proofs.Sizes.{sizes}
use Rattle.meaning.specs.declared.Tag.TheVariants.{Free}
use Rattle.used.specs.Bits.{has_page}
use Rattle.reclaim.specs.Reclaimed.{steps_by}

-- ---- one more

pub added : (steps : List Step) (n : ℕ) (x : Step) → n < length steps → take (n + 1) (set steps n x) ≡ take n steps ++ (x ∷ [])
added steps n x h = rw (add-one n) (take-suc-set steps n x h)

-- ---- the places that pass, one place more: v is what the code says of place i

next : {v : Bool} (q : ℕ → Bool) (i : ℕ) (b : Bool) → v ≡ q i → v ≡ b → places (i + 1) q ≡ places i q ++ cond b (i ∷ []) []
unfolding places
next q i b e f = ap (λ (k : ℕ). places k q) (add-one i) ∙ ap (λ (c : Bool). places i q ++ cond c (i ∷ []) []) (sym e ∙ f)

module _ (m : Labels) where
  pub none_free : 0 ≡ length (places 0 (is_free m))
  unfolding places
  none_free = refl

  pub count_free : {v : Bool} (i n : ℕ) → v ≡ same_tag (m.tag i) Free → v ≡ true → n ≡ length (places i (is_free m)) → n + 1 ≡ length (places (i + 1) (is_free m))
  unfolding is_free
  count_free i n e f k = omega (arith, k, ap length (next (is_free m) i true e f), length-append (places i (is_free m)) (i ∷ []))

  pub pass_free : {v : Bool} (i n : ℕ) → v ≡ same_tag (m.tag i) Free → v ≡ false → n ≡ length (places i (is_free m)) → n ≡ length (places (i + 1) (is_free m))
  unfolding is_free
  pass_free i n e f k = k ∙ sym (ap length (next (is_free m) i false e f ∙ append-nil (places i (is_free m))))

  pub all_free : (i n : ℕ) → n ≡ length (places i (is_free m)) → n ≡ free_blocks i m
  unfolding free_blocks
  all_free i n e = e

module _ (xs : List Step) (f : ℕ → Step) (mask : ℕ) where
  pub pages_none : xs ≡ xs ++ map f (places 0 (has_page mask))
  unfolding places
  pages_none = sym (append-nil xs)

  pub pages_yes : {v : Bool} {ys zs : List Step} (i : ℕ) → v ≡ has_page mask i → v ≡ true → ys ≡ xs ++ map f (places i (has_page mask)) → zs ≡ ys ++ (f i ∷ [])
      → zs ≡ xs ++ map f (places (i + 1) (has_page mask))
  pages_yes i e t k z =
      rw (next (has_page mask) i true e t, map-append f (places i (has_page mask)) (i ∷ []), ← append_assoc xs (map f (places i (has_page mask))) (f i ∷ []), ← k) z

  pub pages_no : {v : Bool} {ys : List Step} (i : ℕ) → v ≡ has_page mask i → v ≡ false → ys ≡ xs ++ map f (places i (has_page mask))
      → ys ≡ xs ++ map f (places (i + 1) (has_page mask))
  pages_no i e t k = rw (next (has_page mask) i false e t, append-nil (places i (has_page mask))) k

-- ---- the parts

pub few_pages : (g : Geometry) (l : Lent) → fits g l ≡ true → g.pages ≤ 32
few_pages g l e = (sizes g l e).pages

-- place i's bytes, from a up to e
pub block_blank : {r : Bool} (g : Geometry) (l : Lent) (i a e : ℕ) → a ≡ i * block_size g → e ≡ a + block_size g → r ≡ blank (take (e - a) (drop a l.contents))
    → r ≡ writable (image_of g l) i
unfolding writable image_of begins
block_blank g l i a e p q f = let z : e - a ≡ block_size g = omega arith in f ∙ rw (z, p)

pub renews : {w copy next x y : ℕ} (tags paths : List ℕ) (d old : ℕ) → w ≡ get_or paths old 0 → copy ≡ copy_of w → next ≡ successor copy → x ≡ d → y ≡ next
    → x * 4 + y ≡ renewed_path (labels_of tags paths) d old
unfolding renewed_path path_of labels_of
renews tags paths d old e f h p q = rw (p, q, h, f, e)

pub whole_list : {ps bs ds es : List Step} {path : ℕ} (g : Geometry) (l : Lent) (d mask : ℕ) (old target : Block)
    → ps ≡ cleared (image_of g l) target.0
    → bs ≡ ps ++ map (PageWrite old target) (places g.pages (has_page mask))
    → path ≡ renewed_path (labels_of l.tags l.paths) d old.0
    → ds ≡ bs ++ (LabelWrite target 0x18 path ∷ []) → es ≡ ds ++ (Erase old ∷ [])
    → es ≡ steps_by g (image_of g l) d mask old.0 target.0
unfolding steps_by image_of byte_of
whole_list g l d mask old target a b p r e = rw (e, r, b, a, p) (simp append_assoc)
