-- The label write of a reclaim: the copy with the used pages takes the old block's place.
use mathlib.Core.Path.{◌≡◌, sym, ap, ◌∙◌, subst, subst₂, fun_ext}
use mathlib.Core.Logic.{◌≢◌, ◌⊎◌, inl, inr, ⊎_elim}
use mathlib.Core.Bool.{◌||◌}
use mathlib.Core.Option.{Option, some}
use mathlib.Core.List.{List}
use Prim.Native.Nat.{ℕ, ◌/◌, ◌^◌, ◌≤◌, ◌<◌}
use native.Mathlib.Omega.{arith}
use lib.ListN.{get_or}
use lib.Dec.{T, ltb, leb, ltb→lt, leb→le}
use Rattle.base.specs.Choice.{if_true, is_some, on_some}
use Rattle.base.specs.Member.{All}
use Rattle.base.proofs.Tests.{T-not→, T-ext, or_l, or_r, or_cases, eq_or, zero_one, tests, makes}
use Rattle.base.proofs.Scans.{any_intro, Found, any_elim}
use Rattle.meaning.specs.declared.Geometry.{Geometry}
use Rattle.meaning.specs.declared.Tag.{Tag}
use Rattle.meaning.specs.declared.Tag.TheVariants.{Free, Boot, Log, Data}
use Rattle.meaning.specs.declared.Extent.{Extent}
use Rattle.meaning.specs.Answer.{ok}
use Rattle.meaning.specs.Flash.{Image, Labels, block_size, byte_of, same_tag, r_of, copy_of, block_number, path_of, successor, bad_tag, bad_path}
use Rattle.meaning.specs.Labels.{clash, newer, same_block, older, view, is, boot_gap, plan_of, bad_log, log_plan, find_log, find_data}
use Rattle.meaning.specs.Log.{bytes_at}
use Rattle.meaning.specs.Mount.{used, to_erase, is_dropped, is_idle, Mounted, mount, log_bytes, data_bytes}
use Rattle.meaning.specs.Services.{renewed_path}
use Rattle.survival.proofs.Live.{not_free, newer→, →newer, same→, →same, Clean, Counts, counts→, →counts, find_sole, Like, same_like, newer_like}
use Rattle.survival.proofs.LogFacts.{is_ext, find_cong}
use Rattle.survival.proofs.Survive.{Passed, Same, ShowsImage, shows_of, accepted→, passed→, bytes_found, number_small}

-- block `new`, free before, is labelled as the copy that follows `old`, and holds its used pages
pub record Relabelled (g : Geometry) (m : Image) (xs : List Extent) (d old new : ℕ) (m' : Image) : Type 0 where
  pub was_free : m.labels.tag new ≡ Free
  pub inside : new < g.blocks
  pub source : Counts g.blocks m.labels Data d old
  pub settled : (i : ℕ) → i < g.blocks → T (to_erase g m.labels xs i) → ⊥
  pub elsewhere : (j : ℕ) → j ≢ new → (m'.labels.tag j ≡ m.labels.tag j) × (m'.labels.path j ≡ m.labels.path j) × (m'.bytes j ≡ m.bytes j)
  pub new_tag : m'.labels.tag new ≡ Data
  pub new_path : m'.labels.path new ≡ renewed_path m.labels d old
  pub pages : (o : ℕ) → o < block_size g → T (used g xs d (o / g.size)) → get_or (m'.bytes new) o 0 ≡ get_or (m.bytes old) o 0

pub path_parts : (d c : ℕ) → (r_of (path_of d (successor c)) ≡ d) × (copy_of (path_of d (successor c)) ≡ successor c)
unfolding r_of copy_of path_of successor
path_parts d c = (omega arith, omega arith)

-- the newer of two copies follows neither itself nor, in turn, is followed by the older
no_turn : (p q : ℕ) → copy_of q ≡ successor (copy_of p) → (copy_of q ≢ successor (copy_of q)) × (copy_of p ≢ successor (copy_of q))
unfolding copy_of successor
no_turn p q e = (λ x. omega arith, λ x. omega arith)

module _ (g : Geometry) (m : Image) (xs : List Extent) (d old new : ℕ) (m' : Image) (p : Passed g m) (w : Relabelled g m xs d old new m') where
  abbrev n : ℕ
  n = g.blocks

  abbrev l : Labels
  l = m.labels

  abbrev l' : Labels
  l' = m'.labels

  like : (i : ℕ) → i ≢ new → Like l l' i
  like i ne = let a = w.elsewhere i ne in (a.0, a.1)

  -- in a settled image there is one copy of each

  no_older : (i : ℕ) → i < n → T (older n l i) → ⊥
  unfolding to_erase
  no_older i h t = w.settled i h (or_l (older n l i) (is_dropped n l i || is_idle g l xs i) t)

  no_newer : (i j : ℕ) → i < n → j < n → T (newer l j i) → ⊥
  unfolding older
  no_newer i j hi hj t = no_older i hi (any_intro _ _ j hj t)

  sole : (i j : ℕ) → i < n → j < n → T (same_block l i j) → i ≡ j
  unfolding clash
  sole i j hi hj s = ⊎_elim (λ (e : i ≡ j). e)
      (λ (ne : i ≢ j).
      let no : T (newer l i j || newer l j i) → ⊥ = λ t. ⊎_elim (no_newer j i hj hi) (no_newer i j hi hj) (or_cases (newer l i j) (newer l j i) t) in
      absurd (p.clean i j hi hj (search makes)))
      (eq_or i j)

  -- what counts was not the free block
  not_new : (t : Tag) (r i : ℕ) → t ≢ Free → Counts n l t r i → i ≢ new
  not_new t r i ft c e = ft (sym c.tag ∙ ap l.tag e ∙ w.was_free)

  old≢new : old ≢ new
  old≢new = not_new Data d old not_free.2 w.source

  new_r : r_of (l'.path new) ≡ d
  unfolding renewed_path
  new_r = ap r_of w.new_path ∙ (path_parts d (copy_of (l.path old))).0

  new_copy : copy_of (l'.path new) ≡ successor (copy_of (l.path old))
  unfolding renewed_path
  new_copy = ap copy_of w.new_path ∙ (path_parts d (copy_of (l.path old))).1

  -- a block that was data block d is the old one
  was_old : (i : ℕ) → i < n → l.tag i ≡ Data → r_of (l.path i) ≡ d → i ≡ old
  was_old i h t r = sole i old h w.source.below (→same l i old (λ e. not_free.2 (sym t ∙ e)) (w.source.tag ∙ sym t) (w.source.r ∙ sym r))

  -- the other copy of the new block is the old one
  is_old : (i : ℕ) → i < n → i ≢ new → T (same_block l' new i) ⊎ T (same_block l' i new) → i ≡ old
  is_old i h ne s =
      let a = like i ne in
      let f : (l'.tag i ≡ l'.tag new) × (r_of (l'.path i) ≡ r_of (l'.path new)) =
      ⊎_elim (λ u. let q = same→ l' new i u in (q.1, q.2)) (λ u. let q = same→ l' i new u in (sym q.1, sym q.2)) s in
      was_old i h (sym a.0 ∙ f.0 ∙ w.new_tag) (sym (ap r_of a.1) ∙ f.1 ∙ new_r)

  new_over_old : T (newer l' new old)
  new_over_old =
      let a = like old old≢new in
      →newer l' new old (record {
        taken = λ e. not_free.2 (sym w.source.tag ∙ sym a.0 ∙ e);
        tag = w.new_tag ∙ sym (a.0 ∙ w.source.tag);
        r = new_r ∙ sym (ap r_of a.1 ∙ w.source.r);
        next = new_copy ∙ sym (ap (λ (x : ℕ). successor (copy_of x)) a.1);
      })

  abbrev Follows : ℕ → ℕ → Type 0
  Follows j i = copy_of (l'.path j) ≡ successor (copy_of (l'.path i))

  -- the one pair of copies
  older_only : (i j : ℕ) → i < n → j < n → T (newer l' j i) → i ≡ old
  unfolding newer
  older_only i j hi hj t =
      let s : T (same_block l' i j) = search tests in
      ⊎_elim
      (λ (ej : j ≡ new). ⊎_elim
      (λ (ei : i ≡ new). absurd ((no_turn (l.path old) (l'.path new) new_copy).0 (subst₂ Follows ej ei (newer→ l' j i t).next)))
      (λ (ni : i ≢ new). is_old i hi ni (inr (subst (λ (x : ℕ). T (same_block l' i x)) ej s)))
      (eq_or i new))
      (λ (nj : j ≢ new). ⊎_elim
      (λ (ei : i ≡ new).
      let eo : j ≡ old = is_old j hj nj (inl (subst (λ (x : ℕ). T (same_block l' x j)) ei s)) in
      let c : Follows old new = subst₂ Follows eo ei (newer→ l' j i t).next in
      absurd ((no_turn (l.path old) (l'.path new) new_copy).1 (sym (ap copy_of (like old old≢new).1) ∙ c)))
      (λ (ni : i ≢ new). absurd (no_newer i j hi hj (subst T (newer_like l l' j i (like j nj) (like i ni)) t)))
      (eq_or i new))
      (eq_or j new)

  not_older : (i : ℕ) → i < n → i ≢ old → T (older n l' i) → ⊥
  unfolding older
  not_older i h ne t = let f : Found n (λ j. newer l' j i) = any_elim _ _ t in ne (older_only i f.place h f.below f.passes)

  pub old_older : T (older n l' old)
  unfolding older
  old_older = any_intro _ _ new w.inside new_over_old

  clean_again : Clean n l'
  unfolding clash
  clean_again i j hi hj t =
      let s : T (same_block l' i j) = search tests in
      let ne : i ≢ j = search tests in
      let no : T (newer l' i j || newer l' j i) → ⊥ = T-not→ (newer l' i j || newer l' j i) (search tests) in
      ⊎_elim
      (λ (ei : i ≡ new).
      let eo : j ≡ old = is_old j hj (λ e. ne (ei ∙ sym e)) (inl (subst (λ (x : ℕ). T (same_block l' x j)) ei s)) in
      no (or_l (newer l' i j) (newer l' j i) (subst₂ (λ (x y : ℕ). T (newer l' x y)) (sym ei) (sym eo) new_over_old)))
      (λ (ni : i ≢ new). ⊎_elim
      (λ (ej : j ≡ new).
      let eo : i ≡ old = is_old i hi ni (inr (subst (λ (x : ℕ). T (same_block l' i x)) ej s)) in
      no (or_r (newer l' i j) (newer l' j i) (subst₂ (λ (x y : ℕ). T (newer l' x y)) (sym ej) (sym eo) new_over_old)))
      (λ (nj : j ≢ new). ne (sole i j hi hj (subst T (same_like l l' i j (like i ni) (like j nj)) s)))
      (eq_or j new))
      (eq_or i new)

  -- ---- all other blocks count where they did

  view_same : (t : Tag) (r : ℕ) → t ≢ Free → (t ≡ Data → r ≢ d) → (i : ℕ) → is (view n l' t i) r ≡ is (view n l t i) r
  view_same t r ft nd i = T-ext _ _
      (λ h.
      let c : Counts n l' t r i = counts→ n _ t r i h in
      →counts n l t r i (⊎_elim
      (λ (e : i ≡ new). absurd (nd (sym c.tag ∙ ap l'.tag e ∙ w.new_tag) (sym c.r ∙ ap (λ (x : ℕ). r_of (l'.path x)) e ∙ new_r)))
      (λ (ne : i ≢ new). let a = like i ne in
      record { below = c.below; tag = sym a.0 ∙ c.tag; r = sym (ap r_of a.1) ∙ c.r; newest = no_older i c.below })
      (eq_or i new)))
      (λ h.
      let c : Counts n l t r i = counts→ n l t r i h in
      let a = like i (not_new t r i ft c) in
      →counts n l' t r i (record {
        below = c.below;
        tag = a.0 ∙ c.tag;
        r = ap r_of a.1 ∙ c.r;
        newest = not_older i c.below
            (λ eo. nd (sym c.tag ∙ ap l.tag eo ∙ w.source.tag) (sym c.r ∙ ap (λ (x : ℕ). r_of (l.path x)) eo ∙ w.source.r));
      }))

  boot_view : view n l' Boot ≡ view n l Boot
  boot_view = fun_ext (λ i. is_ext _ _ (λ r. view_same Boot r not_free.0 (λ e. absurd (zero_one (cc))) i))

  log_view : view n l' Log ≡ view n l Log
  log_view = fun_ext (λ i. is_ext _ _ (λ r. view_same Log r not_free.1 (λ e. absurd (zero_one (cc))) i))

  -- ---- the labels pass

  old_small : d ≤ 4095
  unfolding same_tag byte_of block_number if_true
  old_small = subst (λ (x : ℕ). x ≤ 4095) w.source.r (number_small g m p Data d old not_free.2 w.source)

  new_small : T (bad_path Data (l'.path new)) → ⊥
  unfolding bad_path same_tag byte_of block_number if_true renewed_path path_of successor
  new_small t = ⊎_elim
      (λ (u : T (leb (2 ^ 34) (l'.path new))). let h : 2 ^ 34 ≤ l'.path new = leb→le _ _ u in omega (arith, old_small, w.new_path))
      (λ (u : T (ltb 4095 (r_of (l'.path new)))). let h : 4095 < r_of (l'.path new) = ltb→lt _ _ u in omega (arith, old_small, new_r))
      (or_cases (leb (2 ^ 34) (l'.path new)) (ltb 4095 (r_of (l'.path new))) t)

  pub passed_relabel : Passed g m'
  unfolding log_plan bad_tag same_tag byte_of
  passed_relabel = record {
    tags = λ i h t. ⊎_elim (λ (e : i ≡ new). subst (λ (x : Tag). T (bad_tag x)) (ap l'.tag e ∙ w.new_tag) t)
        (λ (ne : i ≢ new). p.tags i h (subst (λ (x : Tag). T (bad_tag x)) (like i ne).0 t)) (eq_or i new);
    paths = λ i h t. ⊎_elim (λ (e : i ≡ new). new_small (subst₂ (λ (x : Tag) (y : ℕ). T (bad_path x y)) (ap l'.tag e ∙ w.new_tag) (ap l'.path e) t))
        (λ (ne : i ≢ new). p.paths i h (subst₂ (λ (x : Tag) (y : ℕ). T (bad_path x y)) (like i ne).0 (like i ne).1 t)) (eq_or i new);
    clean = clean_again;
    boot = subst (λ (v : ℕ → Option ℕ). T (boot_gap n v) → ⊥) (sym boot_view) p.boot;
    log = subst (λ (v : ℕ → Option ℕ). T (bad_log n v (plan_of n v)) → ⊥) (sym log_view) p.log;
  }

  -- ---- log and data

  plan_kept : log_plan n l' ≡ log_plan n l
  unfolding log_plan
  plan_kept = ap (plan_of n) log_view

  bytes_kept : (t : Tag) (r i : ℕ) → t ≢ Free → Counts n l t r i → m'.bytes i ≡ m.bytes i
  bytes_kept t r i ft c = (w.elsewhere i (not_new t r i ft c)).2

  place_kept : (k : ℕ) → find_log n l' k ≡ find_log n l k
  unfolding find_log
  place_kept k = rw (plan_kept, log_view)

  log_kept : (k : ℕ) → log_bytes g m' k ≡ log_bytes g m k
  unfolding log_bytes find_log
  log_kept k = rw plan_kept (bytes_found n m m' Log _ (rw log_view) (λ i c. bytes_kept Log _ i not_free.1 c))

  find_new : find_data n l' d ≡ some new
  unfolding find_data
  find_new = find_sole n l' Data d new
      (record { below = w.inside; tag = w.new_tag; r = new_r; newest = not_older new w.inside (λ e. old≢new (sym e)) })
      (λ x c. ⊎_elim (λ (e : x ≡ new). e)
      (λ (ne : x ≢ new).
      let a = like x ne in
      let eo : x ≡ old = was_old x c.below (sym a.0 ∙ c.tag) (sym (ap r_of a.1) ∙ c.r) in
      absurd (c.newest (subst (λ (y : ℕ). T (older n l' y)) (sym eo) old_older)))
      (eq_or x new))

  find_old : find_data n l d ≡ some old
  unfolding find_data
  find_old = find_sole n l Data d old w.source (λ x c. was_old x c.below c.tag c.r)

  find_else : (r : ℕ) → r ≢ d → find_data n l' r ≡ find_data n l r
  unfolding find_data
  find_else r ne = find_cong n _ _ r (view_same Data r not_free.2 (λ e. ne))

  data_else : (r : ℕ) → r ≢ d → data_bytes g m' r ≡ data_bytes g m r
  unfolding data_bytes find_data
  data_else r ne = bytes_found n m m' Data r (find_else r ne) (λ i c. bytes_kept Data r i not_free.2 c)

  data_new : (o : ℕ) → o < block_size g → T (used g xs d (o / g.size)) → get_or (data_bytes g m' d) o 0 ≡ get_or (data_bytes g m d) o 0
  unfolding data_bytes bytes_at on_some
  data_new o h u = rw (find_new, find_old) (w.pages o h u)

  there_new : is_some (find_data n l' d) ≡ is_some (find_data n l d)
  unfolding is_some
  there_new = rw (find_new, find_old)

  pub same_relabel : Same g m m' xs
  same_relabel = record {
    plan = plan_kept;
    places = place_kept;
    log = log_kept;
    there = λ r ni. ⊎_elim (λ (e : r ≡ d). subst (λ (x : ℕ). is_some (find_data n l' x) ≡ is_some (find_data n l x)) (sym e) there_new)
        (λ (ne : r ≢ d). ap is_some (find_else r ne)) (eq_or r d);
    byte = λ r o h u. ⊎_elim
        (λ (e : r ≡ d). subst (λ (x : ℕ). get_or (data_bytes g m' x) o 0 ≡ get_or (data_bytes g m x) o 0) (sym e)
        (data_new o h (subst (λ (x : ℕ). T (used g xs x (o / g.size))) e u)))
        (λ (ne : r ≢ d). ap (λ (x : List ℕ). get_or x o 0) (data_else r ne))
        (eq_or r d);
  }

pub relabel_shows : (g : Geometry) (m : Image) (a : Mounted) (d old new : ℕ) (m' : Image) → 0 < g.size → 0 < g.pages
    → All (λ (x : Extent). 0 < x.count) a.tree.extents
    → mount g m ≡ ok a → Relabelled g m a.tree.extents d old new m' → ShowsImage g m m' a
relabel_shows g m a d old new m' sz pp pos e w =
    let p : Passed g m = passed→ g m (accepted→ g m a e).labels in
    shows_of g m a m' sz pp pos e (passed_relabel g m a.tree.extents d old new m' p w) (same_relabel g m a.tree.extents d old new m' p w)
