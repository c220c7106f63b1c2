-- On what a mount has answered, a direct read is the read of document 01.
use Prim.Native.Nat.{ℕ, zero, suc, ◌+◌, ◌-◌, ◌*◌, ◌%◌, ◌^◌, ◌≤◌, ◌<◌, min}
use mathlib.Core.Path.{◌≡◌, refl, sym, ap, subst, ◌∙◌}
use mathlib.Core.Logic.{⊎_elim}
use mathlib.Core.Bool.{Bool, true}
use mathlib.Core.Option.{Option, none, some}
use mathlib.Core.List.{List, [], ◌∷◌, ◌++◌, map, append-nil}
use native.Mathlib.Omega.{arith}
use native.Mathlib.Nat.{le_of_suc-le-suc, not-suc-le-zero}
use lib.Dec.{T}
use lib.ListN.{length, get_or, take, drop, replicate, length-append, get_or-append}
use lib.Seq.{drop-drop}
use Rattle.base.specs.Choice.{if_true, is_some, on_some, or_zero}
use Rattle.base.specs.Member.{In}
use Rattle.base.specs.Scan.{all_of}
use Rattle.base.proofs.Choices.{all_less, all_some, all_true, less_yes, less_no}
use Rattle.base.proofs.Lists.{all_in}
use Rattle.base.proofs.Tests.{T-yes, and_l, and_r, lt_or, zero_one}
use Rattle.meaning.specs.declared.Extent.{Extent}
use Rattle.meaning.specs.declared.Geometry.{Geometry}
use Rattle.meaning.specs.declared.Record.{Record}
use Rattle.meaning.specs.declared.Refusal.TheVariants as refused
use Rattle.meaning.specs.Answer.{Answer, ok, no, and_then}
use Rattle.meaning.specs.Flash.{Image, Labels, Lent, begins, block_size, fits, image_of, labels_of}
use Rattle.meaning.specs.Log.{log_of, replayed}
use Rattle.meaning.specs.Mount.{Mounted, byte_at, mount, mount_of}
use Rattle.meaning.specs.Replay.{spot, start, end, look, replay}
use Rattle.meaning.specs.Services.{buffer_after, copied, read, readable}
use Rattle.extent.specs.Rows.{extent_of, runs, Within, Split}
use Rattle.extent.proofs.Line.{start_end}
use Rattle.flash_log.proofs.Sizes.{Sizes, sizes, block_in}
use Rattle.plan.specs.Select.{selected}
use Rattle.std.specs.Prelude.{Result, Ok, Err}
use Rattle.meaning.specs.declared.Plan.{Plan}
use Rattle.meaning.specs.declared.Refusal.{Refusal}
use Rattle.replayed.specs.Shape.{Ascending}
use Rattle.replayed.proofs.Records.{look_here, look_there}
use Rattle.replayed.proofs.Shape.{replay_shape}
use Rattle.replayed.proofs.Texts.{window}
use Rattle.survival.proofs.Survive.{accepted→}
use Rattle.read.specs.Pieces as pieces
use Rattle.read.specs.Pieces.{bare, drawn, larger, place_at, stretch}
use Rattle.read.proofs.Address.{piece_part, place_below}
use Rattle.read.proofs.Copies.{Bytes, copy_on, copy_first, copy_end, few_rows}
use Rattle.read.proofs.Draws.{larger_least}
use Rattle.read.proofs.Stretch.{stretch_take, stretch_drop}
use Rattle.direct.specs.Begins.{begin_of, begins_of, begun, place_of, places_after, stands}
use Rattle.direct.specs.Direct.{put, laid, below, over, drawn_from, answered, buffer_with}
use Rattle.direct.proofs.Draws.{below_splits}
use Rattle.direct.proofs.Places.{begins_at, begins_long}

-- ---- a part of a run is a part of the contents

part_of : (f : ℕ → ℕ) (a n at : ℕ) (c : List ℕ) (d m : ℕ) → stretch f a n ≡ take n (drop at c) → d + m ≤ n → stretch f (a + d) m ≡ take m (drop (at + d) c)
part_of f a n at c d m e h =
    sym (ap (take m) (stretch_drop f a d n (omega arith) []) ∙ stretch_take f (a + d) m (n - d) (omega arith) [])
    ∙ ap (λ (r : List ℕ). take m (drop d r)) (append-nil (stretch f a n) ∙ e) ∙ window m d n (drop at c) h ∙ ap (take m) (drop-drop d at c)

-- ---- a run that stands whole

-- what a begin says: its block is there, and has the whole run
pub record Begun (g : Geometry) (m : Labels) (e : Extent) (begin : ℕ) : Type 0 where
  pub block : ℕ
  pub there : place_at g m e.address ≡ some block
  pub whole : bare e.address % block_size g + e.count ≤ block_size g
  pub at : begin ≡ block * block_size g + bare e.address % block_size g

pub begun_is : (g : Geometry) (m : Labels) (e : Extent) (begin : ℕ) → begin_of g m e ≡ some begin → Begun g m e begin
unfolding begin_of begins
begun_is g m e begin = all_some (λ (o : Option ℕ). o ≡ some begin → Begun g m e begin) (place_at g m e.address) _ _
    (λ q h. absurd (zero_one (cc)))
    (λ b q. all_less (λ (o : Option ℕ). o ≡ some begin → Begun g m e begin) _ _ _ _ (λ l h. absurd (zero_one (cc)))
    (λ l h. record { block = b; there = q; whole = l; at = (cc) }))

module _ (g : Geometry) (l : Lent) (fit : fits g l ≡ true) (e : Extent) (begin : ℕ) (b : Begun g (labels_of l.tags l.paths) e begin) where
  abbrev off : ℕ
  off = bare e.address % block_size g

  below_blocks : b.block < g.blocks
  below_blocks = place_below g (labels_of l.tags l.paths) e.address b.block b.there

  ends : begin + e.count ≤ length l.contents
  unfolding begins
  ends = let y : Sizes g l = sizes g l fit in omega (arith, b.at, b.whole, y.contents, block_in g b.block below_blocks)

  run_is : stretch (byte_at g (image_of g l)) e.address e.count ≡ take e.count (drop begin l.contents)
  unfolding image_of
  run_is = piece_part g l fit e.address e.count (omega (arith, b.whole)) b.block below_blocks b.there
      ∙ ap (λ (k : ℕ). take e.count (drop k l.contents)) (sym b.at)

  pub laid_is : (k n : ℕ) (buffer : List ℕ) → laid l.contents k n e begin buffer ≡ drawn g (image_of g l) k n e buffer
  unfolding laid drawn put pieces.put
  laid_is k n buffer =
      let s : ℕ = larger k (start e) in
      let t : ℕ = min (k + n) (end e) in
      ⊎_elim
      (λ (h : s < t).
      let d : start e ≤ s = (larger_least k (start e)).1 in
      let u : t - start e ≤ e.count = omega (arith, start_end e) in
      less_yes s t _ _ h ∙ less_no (length l.contents) (begin + (t - start e)) _ _ (omega (arith, ends))
      ∙ ap (λ (r : List ℕ). take (s - k) buffer ++ (r ++ drop (t - k) buffer))
      (sym (part_of (byte_at g (image_of g l)) e.address e.count begin l.contents (s - start e) (t - s) run_is (omega arith)))
      ∙ sym (less_yes s t _ _ h))
      (λ (h : t ≤ s). less_no s t _ _ h ∙ sym (less_no s t _ _ h))
      (lt_or s t)

-- ---- the rows of an image, each with its place

-- every row has its place: the whole of its run stands from there on
abbrev pub Placed : Geometry → Lent → List (List ℕ) → List ℕ → Type 0
Placed g l xs places =
    (length xs ≤ length places)
    × ((j : ℕ) → j < length xs → Begun g (labels_of l.tags l.paths) (extent_of (get_or xs j [])) (get_or places j 0))

module _ (g : Geometry) (l : Lent) (fit : fits g l ≡ true) (xs : List (List ℕ)) (w : Within 0 (2 ^ 64) xs) (places : List ℕ) (at : Placed g l xs places) where
  abbrev m : Image
  m = image_of g l

  over_is : (p x n j k : ℕ) → j + k ≤ length xs → (rest : List ℕ) (b : List ℕ) → b ≡ Bytes xs w g m p x n j ++ rest
      → over l.contents xs places (spot p x) n j k b ≡ Bytes xs w g m p x n (j + k) ++ rest
  unfolding over
  over_is p x n j zero h rest b e = let z : j ≡ j + 0 = omega arith in e ∙ ap (λ (i : ℕ). Bytes xs w g m p x n i ++ rest) z
  over_is p x n j (suc k) h rest b e =
      let z : j + 1 + k ≡ j + suc k = omega arith in
      let u : j < length xs = omega arith in
      over_is p x n (j + 1) k (omega arith) rest _ (copy_on xs w g m p x n j u rest refl e
      (laid_is g l fit (extent_of (get_or xs j [])) (get_or places j 0) (at.1 j u) (spot p x) n b))
      ∙ ap (λ (i : ℕ). Bytes xs w g m p x n i ++ rest) z

  -- the bytes
  pub drawn_copied : (p x n : ℕ) (b : List ℕ) → drawn_from l.contents xs places (spot p x) n b ≡ copied g m (map extent_of xs) p x b n
  unfolding drawn_from
  drawn_copied p x n b =
      let key : ℕ = spot p x in
      let low : Split key (runs xs (length xs)) (below xs key) = below_splits xs key w in
      let last : Split (key + n) (runs xs (length xs)) (below xs (key + n)) = below_splits xs (key + n) w in
      let j : ℕ = below xs key - 1 in
      let k : ℕ = below xs (key + n) - j in
      let z : List ℕ = replicate n 0 ++ drop n b in
      let first : z ≡ Bytes xs w g m p x n j ++ drop n z = copy_first xs w g m p x n (below xs key) refl low refl b {l = z} refl in
      copy_end xs w g m p x n (below xs (key + n)) (j + k) refl refl last (omega arith) b z refl
      (over_is p x n j k (omega (arith, few_rows xs key (below xs key) low, few_rows xs (key + n) (below xs (key + n)) last)) (drop n z) z first)

-- ---- the places that `begins` leaves

all_at : {A : Type 0} (p : A → Bool) (xs : List A) (i : ℕ) (d : A) → T (all_of p xs) → i < length xs → T (p (get_or xs i d))
unfolding all_of
all_at p [] i d t h = absurd (not-suc-le-zero h)
all_at p (x ∷ xs) zero d t h = and_l (p x) (all_of p xs) t
all_at p (x ∷ xs) (suc i) d t h = all_at p xs i d (and_r (p x) (all_of p xs) t) (le_of_suc-le-suc h)

pub is_some_lem : (o : Option ℕ) → T (is_some o) → o ≡ some (or_zero o)
unfolding is_some or_zero
is_some_lem none t = absurd t
is_some_lem (some i) t = refl

module _ (g : Geometry) (l : Lent) (xs : List (List ℕ)) (before : List ℕ) (bs : List ℕ) (e : begun g l xs (length before) ≡ ok bs) where
  abbrev labels : Labels
  labels = labels_of l.tags l.paths

  abbrev Whole : Type 0
  Whole = (length xs ≤ length before) × T (all_of (stands g labels) xs) × (bs ≡ begins_of g labels xs)

  begun→ : Whole
  unfolding begun
  begun→ = all_less (λ (o : Answer (List ℕ)). o ≡ ok bs → Whole) _ _ _ _ (λ h q. absurd (zero_one (cc)))
      (λ h q. by (selected g l) h q) e
    where
      by : (s : Result Plan Refusal) → length xs ≤ length before → ◌≡◌ {A = Answer (List ℕ)} (elim s [
        | Err r ↦ no r
        | Ok p ↦ if_true (all_of (stands g labels) xs) (ok (begins_of g labels xs)) (no refused.Geometry)
      ]) (ok bs) → Whole
      by (Err r) h q = absurd (zero_one (cc))
      by (Ok p) h q = all_true (λ (o : Answer (List ℕ)). o ≡ ok bs → Whole) _ _ _ (λ t z. (h, T-yes _ t, (cc))) (λ t z. absurd (zero_one (cc))) q

  after_is : places_after g l xs before ≡ begins_of g labels xs ++ drop (length xs) before
  unfolding places_after
  after_is = ap (λ (o : Answer (List ℕ)). elim o [ no r ↦ before | ok cs ↦ cs ++ drop (length xs) before ]) e
      ∙ ap (λ (cs : List ℕ). cs ++ drop (length xs) before) begun→.2

  pub begun_placed : Placed g l xs (places_after g l xs before)
  unfolding stands place_of
  begun_placed = (
    omega (arith, ap length after_is, length-append (begins_of g labels xs) (drop (length xs) before), begins_long g labels xs),
    λ j h. subst (Begun g labels (extent_of (get_or xs j []))) (begins_at g labels xs j h refl ∙ sym (get_or-append (begins_of g labels xs) (drop (length xs) before) 0 j
        (omega (arith, begins_long g labels xs))) ∙ ap (λ (ps : List ℕ). get_or ps j 0) (sym after_is))
        (begun_is g labels (extent_of (get_or xs j [])) _ (is_some_lem _ (all_at (stands g labels) xs j [] begun→.1 h))),
  )

-- ---- a file's record among those of a mount

pub look_in : (f : Record) (fs : List Record) → Ascending fs → In f fs → look f.path fs ≡ some f
look_in f [] a i = absurd i
look_in f (h ∷ hs) a i = ⊎_elim
    (λ (e : f ≡ h). look_here f.path h hs (ap (λ (r : Record). r.path) (sym e)) ∙ ap some (sym e))
    (λ (j : In f hs).
    let n : h.path < f.path = all_in (λ (r : Record). h.path < r.path) hs a.0 f j in
    look_there f.path h hs (λ z. omega arith) ∙ look_in f hs a.1 j)
    i

-- ---- the read

module _ (g : Geometry) (l : Lent) (a : Mounted) (mounts : mount_of g l ≡ ok a) where
  pub mounts_fit : (fits g l ≡ true) × (mount g (image_of g l) ≡ ok a)
  unfolding mount_of
  mounts_fit = all_true (λ (o : Answer Mounted). o ≡ ok a → (fits g l ≡ true) × (mount g (image_of g l) ≡ ok a)) (fits g l) _ _
      (λ t e. (t, e)) (λ t e. absurd (zero_one (cc))) mounts

  pub mounts_tree : replay (log_of g (replayed g (image_of g l))) ≡ ok a.tree
  mounts_tree = (accepted→ g (image_of g l) a mounts_fit.1).replayed

  module _ (xs : List (List ℕ)) (shown : map extent_of xs ≡ a.tree.extents) (w : Within 0 (2 ^ 64) xs) (places : List ℕ) (at : Placed g l xs places)
      (f : Record) (own : In f a.tree.records) (x : ℕ) (buffer : List ℕ) where
    found : look f.path a.tree.records ≡ some f
    found = look_in f a.tree.records (replay_shape g (replayed g (image_of g l)) a.tree mounts_tree).ascending own

    is_readable : readable a f.path x (length buffer) ≡ answered f (length xs) (length places) x (length buffer)
    unfolding readable on_some answered
    is_readable = rw found (sym (less_no (length places) (length xs) _ _ at.0))

    -- the answer of a direct read is that of the read
    pub same_answer : answered f (length xs) (length places) x (length buffer) ≡ read g l f.path x (length buffer)
    unfolding read and_then
    same_answer = rw mounts (sym is_readable)

    abbrev by_read : Answer ℕ → List ℕ
    by_read o = elim o [ no r ↦ buffer | ok n ↦ copied g (image_of g l) a.tree.extents f.path x buffer n ]

    abbrev by_mount : Answer Mounted → List ℕ
    by_mount o = elim o [
      | no r ↦ buffer
      | ok b ↦ elim (readable b f.path x (length buffer)) [
        | no r ↦ buffer
        | ok n ↦ copied g (image_of g l) b.tree.extents f.path x buffer n
      ]
    ]

    drawn_so : (o : Answer ℕ) → elim o [ no r ↦ buffer | ok n ↦ drawn_from l.contents xs places (spot f.path x) n buffer ] ≡ by_read o
    drawn_so (no r) = refl
    drawn_so (ok n) = drawn_copied g l mounts_fit.0 xs w places at f.path x n buffer
        ∙ ap (λ (es : List Extent). copied g (image_of g l) es f.path x buffer n) shown

    -- and so is what it leaves in the buffer
    pub same_buffer : buffer_with l.contents f xs places x buffer ≡ buffer_after g l f.path x buffer
    unfolding buffer_with buffer_after
    same_buffer = drawn_so (answered f (length xs) (length places) x (length buffer)) ∙ ap by_read (sym is_readable) ∙ ap by_mount (sym mounts)
