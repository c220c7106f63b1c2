-- From the lent part to the definition: what a written part leaves of the contents.
use mathlib.Core.Path.{◌≡◌, refl, sym, ap, ap₂, ◌∙◌}
use mathlib.Core.List.{List, [], ◌∷◌, ◌++◌, append_assoc}
use Prim.Native.Nat.{ℕ, zero, suc, ◌+◌, ◌-◌, ◌*◌, ◌≤◌}
use native.Mathlib.Omega.{arith}
use borrow.Rule.Slice.PartMut.{put_mid}
use lib.ListN.{length, set, take, drop, replicate, length-drop, length-replicate}
use lib.Seq.{take-take, drop-drop, length-take-le}
use Rattle.std.specs.List.{copy_within}
use Rattle.meaning.specs.declared.Geometry.{Geometry}
use Rattle.meaning.specs.declared.Block.{Block}
use Rattle.meaning.specs.declared.Step.TheVariants.{PageWrite}
use Rattle.meaning.specs.Flash.{Lent, begins, block_size, byte_of, erased_path, image_of, page_of}
use Rattle.meaning.specs.Services.{done, erased, overwrite, relabel}
use Rattle.plan.specs.Select.{lent}
use Rattle.step.proofs.Place.{next}

-- ---- parts

pub mid : (a k : ℕ) (xs ys : List ℕ) → put_mid a k xs ys ≡ take a xs ++ ys ++ drop (a + k) xs
mid a k xs ys = sym (append_assoc (take a xs) ys (drop k (drop a xs))) ∙ ap (λ (l : List ℕ). take a xs ++ ys ++ l) (drop-drop k a xs)

pub part_long : (a k : ℕ) (xs : List ℕ) → a + k ≤ length xs → length (take k (drop a xs)) ≡ k
part_long a k xs h =
    let d = length-drop a xs in
    let b : k ≤ length (drop a xs) = omega arith in
    length-take-le k (drop a xs) b

-- a part of a front is a part of the whole
pub part_of : (m n k : ℕ) (l : List ℕ) → m + n ≤ k → take n (drop m (take k l)) ≡ take n (drop m l)
part_of zero n k l h = take-take n k l (omega arith)
part_of (suc m) n zero l h = absurd (none m n h)
  where
    none : (a b : ℕ) → suc a + b ≤ 0 → ⊥
    none a b p = omega arith
part_of (suc m) n (suc k) [] h = refl
part_of (suc m) n (suc k) (x ∷ xs) h = part_of m n k xs (omega arith)

-- ---- write

rest : (y n : ℕ) → y + n - y ≡ n
rest y n = omega arith

-- x and y are the code's positions of the target and of the source
pub page_done : (g : Geometry) (xs : List ℕ) (from to : Block) (p s : ℕ) {x y : ℕ} {last : List ℕ} → s ≡ block_size g → (p + 1) * g.size ≤ s → from.0 * s + s ≤ length xs
    → x ≡ to.0 * s + p * g.size → y ≡ from.0 * s + p * g.size
    → last ≡ copy_within xs y (y + g.size) x → last ≡ (done g (lent [] [] xs) (PageWrite from to p)).contents
unfolding done overwrite begins image_of page_of
page_done g xs from to p s {x} {y} {last} e h j ex ey f =
    let n = next p g.size in
    let at : (i : ℕ) → i * s + p * g.size ≡ i * block_size g + p * g.size = λ i. ap (λ (k : ℕ). i * k + p * g.size) e in
    let a : ℕ = to.0 * block_size g + p * g.size in
    let b : ℕ = from.0 * block_size g + p * g.size in
    let room : p * g.size + g.size ≤ block_size g = omega arith in
    let page : take g.size (drop b xs) ≡ page_of g (take (block_size g) (drop (from.0 * block_size g) xs)) p =
    ap (take g.size) (sym (drop-drop (p * g.size) (from.0 * block_size g) xs)) ∙ sym (part_of (p * g.size) g.size (block_size g) (drop (from.0 * block_size g) xs) room) in
    let q : from.0 * s ≡ from.0 * block_size g = ap (λ (k : ℕ). from.0 * k) e in
    let fit : from.0 * block_size g + p * g.size + g.size ≤ length xs = omega arith in
    let long : length (take g.size (drop b xs)) ≡ g.size = part_long (from.0 * block_size g + p * g.size) g.size xs fit in
    f ∙ ap (λ (k : ℕ). take x xs ++ take k (drop y xs) ++ drop (x + k) xs) (rest y g.size)
    ∙ ap₂ (λ (u v : ℕ). take u xs ++ take g.size (drop v xs) ++ drop (u + g.size) xs) (ex ∙ at to.0) (ey ∙ at from.0)
    ∙ ap (λ (k : ℕ). take a xs ++ take g.size (drop b xs) ++ drop (a + k) xs) (sym long)
    ∙ ap (λ (z : List ℕ). take a xs ++ z ++ drop (a + length z) xs) page

-- ---- erase

pub erase_done : (g : Geometry) (ts ps xs : List ℕ) (i s : ℕ) {tag path : ℕ} {ts' ps' filled : List ℕ} → s ≡ block_size g → i * s + s ≤ length xs → tag ≡ 255 → path ≡ erased_path
    → ts' ≡ set ts i tag → ps' ≡ set ps i path → filled ≡ replicate (length (take (i * s + s - i * s) (drop (i * s) xs))) 255
    → lent ts' ps' (put_mid (i * s) (i * s + s - i * s) xs filled) ≡ erased g (lent ts ps xs) i
unfolding erased relabel overwrite begins byte_of
erase_done g ts ps xs i s {tag} {path} {ts'} {ps'} {filled} e h et ep t p f =
    let a : i * s + s - i * s ≡ s = omega arith in
    let c : ℕ = 255 in
    let l : filled ≡ replicate s c = f ∙ ap (λ (n : ℕ). replicate (length (take n (drop (i * s) xs))) c) a ∙ ap (λ (n : ℕ). replicate n c) (part_long (i * s) s xs h) in
    ap₂ lent₂ (t ∙ ap (set ts i) et) (p ∙ ap (set ps i) ep)
    ∙ ap (lent (set ts i c) (set ps i erased_path)) (ap₂ (λ (n : ℕ) (k : List ℕ). put_mid (i * s) n xs k) a l ∙ mid (i * s) s xs (replicate s c)
    ∙ ap (λ (n : ℕ). take (i * s) xs ++ replicate s c ++ drop (i * s + n) xs) (sym (length-replicate s c)))
    ∙ ap (λ (n : ℕ). lent (set ts i c) (set ps i erased_path) (take (i * n) xs ++ replicate n c ++ drop (i * n + length (replicate n c)) xs)) e
  where
    lent₂ : List ℕ → List ℕ → Lent
    lent₂ x y = lent x y (put_mid (i * s) (i * s + s - i * s) xs filled)
