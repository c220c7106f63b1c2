-- A mount's answer, part by part.
use Prim.Native.Nat.{ℕ, zero, suc, ◌-◌, ◌≤◌, zero-le}
use mathlib.Core.Path.{◌≡◌, refl, sym, ap, ap₂, subst, ◌∙◌}
use mathlib.Core.Logic.{◌⊎◌, inl, inr, ⊎_elim}
use mathlib.Core.Bool.{Bool, true, false, cond}
use mathlib.Core.Option.{Option, none, some}
use mathlib.Core.List.{List, [], ◌∷◌, ◌++◌, map}
use native.Mathlib.Omega.{arith}
use lib.ListN.{length, take, drop, get_or, length-map, length-append, length-take}
use native.Mathlib.Nat.{sub-zero}
use lib.Seq.{length-take-le, take_at}
use Rattle.base.specs.Choice.{if_true}
use Rattle.base.specs.Scan.{places}
use Rattle.meaning.specs.declared.Extent.{Extent}
use Rattle.meaning.specs.declared.Geometry.{Geometry}
use Rattle.meaning.specs.declared.Plan.{Plan}
use Rattle.meaning.specs.declared.Record.{Record}
use Rattle.meaning.specs.declared.Refusal.{Refusal}
use Rattle.meaning.specs.declared.Refusal.TheVariants as refused
use Rattle.meaning.specs.Answer.{Answer, ok, no, unless, and_then}
use Rattle.meaning.specs.Flash.{Lent, fits, image_of, labels_of}
use Rattle.meaning.specs.Labels.{label_refusal, log_plan}
use Rattle.meaning.specs.Log.{log_of, replayed, insertion}
use Rattle.meaning.specs.Replay as meaning
use Rattle.meaning.specs.Replay.{replay}
use Rattle.meaning.specs.Mount.{Mounted, absent, erase_list, shown, mount, mount_of}
use Rattle.std.specs.Prelude.{Result, Ok, Err, Some, None}
use Rattle.std.specs.Prelude as std
use Rattle.plan.specs.Select.{chosen, judged, selected}
use Rattle.extent.specs.Rows.{extent_of}
use Rattle.runs.specs.declared.Span.{Span}
use Rattle.runs.specs.Runs.{gather_rows, total, put, Live, Stand}
use Rattle.runs.proofs.Slots.{gather_rows_lem, rows_length}
use Rattle.runs.proofs.Moves.{stand_of}
use Rattle.runs.proofs.Laws.{gathered_runs}
use Rattle.tree.specs.declared.Tree.{Tree}
use Rattle.tree.specs.Tree.{live, files, record_at, Kept}
use Rattle.meaning.specs.declared.Address.{Address}
use Rattle.flash_log.specs.Point.{point}
use Rattle.flash_log.specs.Cursor.{Ready}
use Rattle.flash_log.proofs.Sizes.{sizes}
use Rattle.replay.specs.declared.Replayed.{Replayed}
use Rattle.replay.specs.Replay.{answer_of, Held, path_at}
use Rattle.used.specs.declared.Erase.{Erase}
use Rattle.used.specs.Needed.{over, refusal_of}
use Rattle.used.specs.Bits.{listed, used_bits}
use Rattle.used.specs.Erase.{erasable, erase_by, erase_of}
use Rattle.used.proofs.Needed.{absent_is, fit_tags}
use Rattle.used.proofs.Masks.{masks_are}
use Rattle.used.proofs.Erasable.{erase_is, erase_taken}
use Rattle.replay.proofs.Holds.{rising_paths}
use Rattle.shown.proofs.Lines.{gather_within}
use Rattle.shown.specs.declared.Shown.{Shown}
use Rattle.shown.specs.Shown as show
use Rattle.shown.specs.Shown.{rows_shown, tree_of, answer, mounted, showing, later, place_of, Lines}

-- ---- the tree after the log

module _ (r : Replayed) (spans : List Span) (rows : List (List ℕ)) (held : Held r.tree spans rows r.room) where
  stands : Stand spans rows (live r.tree)
  stands = stand_of spans rows r.room.bump (live r.tree) held.placed.parts

  total_few : total spans (live r.tree) ≤ 1024
  total_few = omega (
    arith,
    rows_length spans rows (live r.tree) stands,
    length-map (gather_rows spans rows (live r.tree)) extent_of,
    ap length (gather_rows_lem spans rows (live r.tree)),
    held.placed.few,
  )

  pub gather_asks : (out : List (List ℕ)) → 1024 ≤ length out
      → Live r.tree.slots r.tree.count × Stand spans rows (live r.tree) × (total spans (live r.tree) ≤ length out)
  gather_asks out h = (record { all = held.kept.slots_len; few = held.kept.few }, stands, omega (arith, total_few))

  used_total : r.room.used ≡ total spans (live r.tree)
  used_total = omega (
    arith,
    rows_length spans rows (live r.tree) stands,
    length-map (gather_rows spans rows (live r.tree)) extent_of,
    ap length (gather_rows_lem spans rows (live r.tree)),
    held.used,
  )

  module _ (out : List (List ℕ)) {out' : List (List ℕ)} {n : ℕ} (g : (n ≡ total spans (live r.tree)) × (out' ≡ put out 0 (gather_rows spans rows (live r.tree)))) where
    taken : take r.room.used out' ≡ gather_rows spans rows (live r.tree)
    taken =
        let k : length (gather_rows spans rows (live r.tree)) ≡ r.room.used = rows_length spans rows (live r.tree) stands ∙ sym used_total in
        rw (g.1, take_at (gather_rows spans rows (live r.tree)) _ r.room.used k)

    -- the tree stands in order, and there are rows for its extents
    pub whole_told : Kept r.tree × (r.room.used ≤ 1024) × Lines (take r.room.used out')
    whole_told = (
      held.kept,
      omega (arith, used_total, total_few),
      subst Lines (sym taken) (gather_within (path_at r.tree) spans rows (live r.tree) held.owned (rising_paths r.tree held.kept)),
    )

    pub whole_answer : {a : Answer meaning.Tree} → answer_of (Ok r) spans rows ≡ a → ok (tree_of r out') ≡ a
    whole_answer q =
        ap {B = Answer meaning.Tree} (λ xs. ok (record { records = files r.tree; extents = xs; applied = r.applied; ignored = r.ignored }))
        (gathered_runs spans rows out out' (live r.tree) r.room.used stands (used_total, g.1)) ∙ q

-- ---- the parts of what is shown

take_all : {A : Type 0} (xs : List A) → take (length xs) xs ≡ xs
take_all [] = refl
take_all (x ∷ xs) = ap (λ (ys : List _). x ∷ ys) (take_all xs)

places_few : (n : ℕ) (q : ℕ → Bool) → length (places n q) ≤ n
unfolding places
places_few zero q = zero-le
places_few (suc n) q = more (q n) (places_few n q)
  where
    more : (b : Bool) → length (places n q) ≤ n → length (places n q ++ cond b (n ∷ []) []) ≤ suc n
    more true h = omega (arith, length-append (places n q) (n ∷ []))
    more false h = omega (arith, length-append (places n q) [])

placed_back : (o : Option ℕ) → place_of (point o) ≡ o
unfolding point
placed_back none = refl
placed_back (some a) = refl

-- there is a place for each file's record
files_fit : (t : Tree) (records : List Record) → Kept t → take t.count records ≡ files t → t.count ≤ length records
files_fit t records k e =
    let a : length (live t) ≡ t.count = length-take-le t.count t.slots (omega (arith, k.few, k.slots_len)) in
    omega (arith, ap length e, length-map (live t) (record_at t), a, length-take t.count records)

take_same : {A : Type 0} (n : ℕ) (xs : List A) → take n (take n xs) ≡ take n xs
take_same zero xs = refl
take_same (suc n) [] = refl
take_same (suc n) (x ∷ xs) = ap (λ (ys : List _). x ∷ ys) (take_same n xs)

-- rows of which xs are the first
same_rows : (xs rows : List (List ℕ)) (n m : ℕ) → xs ≡ take n rows → m ≡ n → rows_shown xs m ≡ rows_shown rows m
same_rows xs rows n m e z = rw (e, z) (ap (map extent_of) (take_same n rows))

same_front : (xs rows : List (List ℕ)) (n m : ℕ) → xs ≡ take n rows → m ≡ n → take m xs ≡ take m rows
same_front xs rows n m e z = rw (e, z) (take_same n rows)

-- the part of a slice up to n
pub part_is : (rows : List (List ℕ)) (n : ℕ) → take (n - 0) (drop 0 rows) ≡ take n rows
part_is rows n = ap (λ (k : ℕ). take k rows) (sub-zero n)

pub part_length : (rows : List (List ℕ)) (n : ℕ) → n ≤ 1024 → 1024 ≤ length rows → n ≡ length (take (n - 0) (drop 0 rows))
part_length rows n h k = sym (ap length (part_is rows n) ∙ length-take-le n rows (omega arith))

-- ---- after the labels

module _ (g : Geometry) (l : Lent) where
  pub later_stopped : {x : Refusal} → no x ≡ replay (log_of g (replayed g (image_of g l))) → no x ≡ later g l
  unfolding later and_then
  later_stopped e = rw (← e)

  module _ (p : Plan) (k : Ready g l p) (r : Replayed) (rows : List (List ℕ)) (a : ok (tree_of r rows) ≡ replay (log_of g (replayed g (image_of g l))))
      {xs : List (List ℕ)} (xe : xs ≡ take r.room.used rows) (m : std.Option ℕ)
      (z : refusal_of m ≡ absent (over (length l.tags) g) (labels_of l.tags l.paths) (map extent_of xs)) where
    absent_so : absent g (image_of g l).labels (tree_of r rows).extents ≡ refusal_of m
    unfolding image_of
    absent_so = ap (λ (ys : List (List ℕ)). absent g (labels_of l.tags l.paths) (map extent_of ys)) (sym xe) ∙ sym (absent_is m g l (labels_of l.tags l.paths) (map extent_of xs) k.fit z)

    pub later_lacking : {q : ℕ} → m ≡ Some q → no (refused.Data q) ≡ later g l
    unfolding later and_then unless refusal_of
    later_lacking h = rw (sym a, absent_so, h)

    pub later_whole : m ≡ None → later g l ≡ ok (shown g (image_of g l) (tree_of r xs))
    unfolding later and_then unless refusal_of
    later_whole h =
        rw (sym a, absent_so, h)
        (ap {B = Answer Mounted} (λ ys. ok (shown g (image_of g l) (record { records = files r.tree; extents = ys; applied = r.applied; ignored = r.ignored })))
        (sym (same_rows xs rows r.room.used r.room.used xe refl)))

-- ---- an answer by its parts

true_or : (b : Bool) → (b ≡ true) ⊎ (b ≡ false)
true_or true = inl refl
true_or false = inr refl

whole_shows : {a : Answer Mounted} {t : Mounted} (s : Shown) (xs rows : List (List ℕ)) (n : ℕ) → xs ≡ take n rows → s.extents ≡ n → mounted s xs ≡ t → a ≡ ok t → showing (Ok s) rows ≡ a
whole_shows s xs rows n xe ne h z =
    ap {B = Answer Mounted} (λ ys. ok (record { tree = record { records = take s.files s.records; extents = ys; applied = s.applied; ignored = s.ignored }; erase = take s.erase.count s.erase.blocks; insert = place_of s.insertion })) (sym (same_rows xs rows n s.extents xe ne))
    ∙ ap {B = Answer Mounted} ok h ∙ sym z

whole_sized : (g : Geometry) (l : Lent) (s : Shown) (xs rows : List (List ℕ)) (n : ℕ) → xs ≡ take n rows → s.extents ≡ n → show.Sizes g l s xs → show.Sizes g l s rows
whole_sized g l s xs rows n xe ne h = (
  h.0,
  h.1,
  h.2,
  h.3 ∙ ap (λ (ys : List Extent). listed 1024 (used_bits g (image_of g l).labels ys)) (same_rows xs rows n s.extents xe ne),
  h.4 ∙ ap (λ (ys : List Extent). erase_of (erase_list g (image_of g l).labels ys)) (same_rows xs rows n s.extents xe ne),
  subst Lines (same_front xs rows n s.extents xe ne) h.5,
  h.6,
)

-- ---- what is shown of a tree whose extents' data is there

module _ (g : Geometry) (l : Lent) (p : Plan) (k : Ready g l p) where
  pub pages_few : g.pages ≤ 32
  pages_few = (sizes g l k.fit).pages

  pub tags_few : length l.tags ≤ 1024
  tags_few = omega (arith, (sizes g l k.fit).tags, (sizes g l k.fit).blocks)

  module _ (r : Replayed) (xs : List (List ℕ)) (n : r.room.used ≡ length xs) (records : List Record) {masks : List ℕ} {erase : Erase} {ins : std.Option Address}
      (mz : masks ≡ listed 1024 (used_bits (over (length l.tags) g) (labels_of l.tags l.paths) (map extent_of xs)))
      (ez : erase ≡ erase_of (erase_by (length l.tags) (labels_of l.tags l.paths) p masks))
      (iz : ins ≡ point (insertion g (replayed g (image_of g l))))
      (rz : take r.tree.count records ≡ files r.tree) where
    all_rows : rows_shown xs r.room.used ≡ map extent_of xs
    all_rows = ap (λ (j : ℕ). rows_shown xs j) n ∙ ap (map extent_of) (take_all xs)

    abbrev whole : ℕ → Shown
    whole m = record {
      records = records;
      files = r.tree.count;
      extents = m;
      used = masks;
      erase = erase;
      insertion = ins;
      applied = r.applied;
      ignored = r.ignored;
    }

    whole_mounted : mounted (whole r.room.used) xs ≡ shown g (image_of g l) (tree_of r xs)
    unfolding shown image_of
    whole_mounted =
        ap {B = Mounted} (λ rs. record { tree = record { records = rs; extents = rows_shown xs r.room.used; applied = r.applied; ignored = r.ignored }; erase = take erase.count erase.blocks; insert = place_of ins }) rz
        ∙ ap₂ {C = Mounted} (λ b o. record { tree = tree_of r xs; erase = b; insert = o })
        (erase_taken g l p (map extent_of xs) masks k.fit k.plan mz erase ez ∙ ap (erase_list g (labels_of l.tags l.paths)) (sym all_rows))
        (ap place_of iz ∙ placed_back _)

    erase_few : (erase_of (erase_by (length l.tags) (labels_of l.tags l.paths) p masks)).count ≤ 1024
    unfolding erase_of erase_by
    erase_few = omega (arith, places_few (length l.tags) (λ i. erasable (length l.tags) (labels_of l.tags l.paths) p (get_or masks i 0) i), tags_few)

    whole_sizes : Kept r.tree → length xs ≤ 1024 → Lines xs → show.Sizes g l (whole r.room.used) xs
    unfolding image_of
    whole_sizes kt few up = (
      kt.few,
      omega arith,
      subst (λ (x : Erase). x.count ≤ 1024) (sym ez) erase_few,
      masks_are 1024 g l (labels_of l.tags l.paths) (map extent_of xs) k.fit mz ∙ ap (λ (ys : List Extent). listed 1024 (used_bits g (labels_of l.tags l.paths) ys)) (sym all_rows),
      ez ∙ ap erase_of (erase_is g l p (map extent_of xs) masks k.fit k.plan mz ∙ ap (erase_list g (labels_of l.tags l.paths)) (sym all_rows)),
      subst Lines (sym (ap (λ (j : ℕ). take j xs) n ∙ take_all xs)) up,
      files_fit r.tree records kt rz,
    )

    -- the rows are the first of those that are lent
    pub whole_answered : (rows : List (List ℕ)) → xs ≡ take r.room.used rows → Kept r.tree × (r.room.used ≤ 1024) × Lines (take r.room.used rows)
        → later g l ≡ ok (shown g (image_of g l) (tree_of r xs)) → (m : ℕ) → m ≡ r.room.used → (showing (Ok (whole m)) rows ≡ later g l) × show.Sizes g l (whole m) rows
    whole_answered rows xe kept a m e = subst (λ (j : ℕ). (showing (Ok (whole j)) rows ≡ later g l) × show.Sizes g l (whole j) rows) (sym e) (
      whole_shows (whole r.room.used) xs rows r.room.used xe refl whole_mounted a,
      whole_sized g l (whole r.room.used) xs rows r.room.used xe refl (whole_sizes kept.0 (omega arith) (subst Lines (sym xe) kept.2)),
    )

-- ---- the labels

unless_refused : (o : Option Refusal) (q : Plan) (k : Answer Mounted) (x : Refusal) → chosen (unless o (ok q)) ≡ Err x → unless o k ≡ no x
unfolding chosen unless
unless_refused none q k x e = cc
unless_refused (some r) q k x e = cc

unless_planned : (o : Option Refusal) (q p : Plan) (k : Answer Mounted) → chosen (unless o (ok q)) ≡ Ok p → (p ≡ q) × (unless o k ≡ k)
unfolding chosen unless
unless_planned none q p k e = (cc, refl)
unless_planned (some r) q p k e = absurd (cc)

module _ (g : Geometry) (l : Lent) {s : Result Plan Refusal} (e : s ≡ selected g l) where
  module _ (f : fits g l ≡ true) where
    judged_so : s ≡ chosen (unless (label_refusal g.blocks (image_of g l).labels) (ok (log_plan (length l.tags) (labels_of l.tags l.paths))))
    unfolding selected judged if_true image_of
    judged_so = e ∙ rw (f, ap (λ (n : ℕ). chosen (unless (label_refusal n (labels_of l.tags l.paths)) (ok (log_plan (length l.tags) (labels_of l.tags l.paths))))) (fit_tags g l f))

    mount_so : mount_of g l ≡ unless (label_refusal g.blocks (image_of g l).labels) (later g l)
    unfolding mount_of if_true mount later
    mount_so = rw f

  unfit : fits g l ≡ false → (s ≡ Err refused.Geometry) × (mount_of g l ≡ no refused.Geometry)
  unfolding selected mount_of if_true chosen
  unfit f = (e ∙ rw f, rw f)

  pub selected_no : {x : Refusal} → s ≡ Err x → mount_of g l ≡ no x
  selected_no {x} h = ⊎_elim
      (λ (f : fits g l ≡ true). mount_so f ∙ unless_refused _ _ (later g l) x (sym (judged_so f) ∙ h))
      (λ (f : fits g l ≡ false). let u = unfit f in cc)
      (true_or (fits g l))

  pub selected_ready : {p : Plan} → s ≡ Ok p → Ready g l p × (mount_of g l ≡ later g l)
  selected_ready {p} h = ⊎_elim
      (λ (f : fits g l ≡ true).
      let u = unless_planned (label_refusal g.blocks (image_of g l).labels) _ p (later g l) (sym (judged_so f) ∙ h) in
      (record { fit = f; plan = u.0 }, mount_so f ∙ u.1))
      (λ (f : fits g l ≡ false). let u = unfit f in absurd (cc))
      (true_or (fits g l))
