-- A reclaim: its answer, its steps cut anywhere, and what they leave when not cut.
use mathlib.Core.Path.{◌≡◌, refl, sym, ap, ◌∙◌, subst}
use mathlib.Core.Logic.{◌≢◌, ◌⊎◌, inl, inr, ⊎_elim}
use mathlib.Core.Bool.{Bool, ◌||◌}
use mathlib.Core.Option.{Option, none, some}
use mathlib.Core.List.{List, [], ◌∷◌, ◌++◌, map, append_assoc}
use Prim.Native.Nat.{ℕ, ◌/◌, ◌≤◌, ◌<◌}
use native.Mathlib.Nat.{div-lt_iff_lt-mul, mul_comm}
use native.Mathlib.Omega.{arith}
use lib.Dec.{T, eqb, lt→ltb, eqb→eq, eqb_refl}
use lib.ListN.{length, get_or}
use Rattle.base.specs.Choice.{or_zero}
use Rattle.base.specs.Scan.{first, places}
use Rattle.base.specs.Member.{All, In}
use Rattle.base.proofs.Tests.{zero_one, is_true, eq_or, or_l, or_cases, makes}
use Rattle.base.proofs.Lists.{all_map, all_append}
use Rattle.base.proofs.Scans.{any_intro, Found, any_elim, Stands, first_stands, first_some, places_in, places_below, places_none}
use Rattle.base.proofs.Choices.{all_true, all_less, all_some}
use Rattle.meaning.specs.declared.Geometry.{Geometry}
use Rattle.meaning.specs.declared.Extent.{Extent}
use Rattle.meaning.specs.declared.Step.{Step}
use Rattle.meaning.specs.declared.Step.TheVariants.{Erase, PageWrite, LabelWrite}
use Rattle.meaning.specs.declared.Tag.{Tag}
use Rattle.meaning.specs.declared.Tag.TheVariants.{Free, Boot, Log, Data}
use Rattle.meaning.specs.Answer.{Answer, ok, and_then, block}
use Rattle.meaning.specs.Flash.{Lent, Image, Labels, image_of, labels_of, block_size, page_of, blank, tag_of, byte_of, r_of, copy_of, successor}
use Rattle.meaning.specs.Labels.{clash, newer, older, find, find_data}
use Rattle.meaning.specs.Mount.{Mounted, mount_of, used, used_pages, to_erase}
use Rattle.meaning.specs.Services.{settle_steps, is_free, free_blocks, lowest_free, writable, cleared, renewed_path, reclaim_steps, reclaim_on, reclaim, relabel, erased, done, done_all, do_steps, inside}
use Rattle.meaning.specs.Cut.{Cut, Shows, Reclaimed, Erased, Kept}
use Rattle.survival.proofs.Live.{read_back, same_tag→, not_free, →same, newer→, Newer, Counts, counts→, find_sole}
use Rattle.survival.proofs.Survive.{and_then_ok, Passed, passed→, accepted→, Spare}
use Rattle.survival.proofs.Relabel.{Relabelled, path_parts, relabel_shows, old_older}
use Rattle.demand.proofs.Blocks.{Changed, kept_twice, changed_twice, relabel_changed, new_label, erase_changed, erase_erased, byte_of_page, page_at}
use Rattle.demand.proofs.Cuts.{Spends, spends_inside, mapped, runs, whole_cut, run_append, cut_append}
use Rattle.demand.proofs.Runs.{prepares, Prepared, prepared}
use Rattle.demand.proofs.Shown.{Mounts, mounts, shows_lent, spare_cut, shows_after}
use Rattle.demand.proofs.Settle.{list_is, erases_show}

-- ---- the answer

-- what an accepted reclaim has found
pub record Ready (g : Geometry) (l : Lent) (a : Mounted) (d : ℕ) (ss : List Step) : Type 0 where
  pub settled : a.erase ≡ []
  pub old : ℕ
  pub stood : find_data g.blocks (image_of g l).labels d ≡ some old
  pub inside : lowest_free g.blocks (image_of g l).labels < g.blocks
  pub free : (image_of g l).labels.tag (lowest_free g.blocks (image_of g l).labels) ≡ Free
  pub steps : ss ≡ reclaim_steps g (image_of g l) a.tree.extents d old (lowest_free g.blocks (image_of g l).labels)

no_list : (xs : List ℕ) → length xs ≤ 0 → xs ≡ []
no_list [] h = refl
no_list (x ∷ xs) h = absurd (omega arith)

target_free : (n : ℕ) (m : Labels) → 2 ≤ free_blocks n m → (lowest_free n m < n) × (m.tag (lowest_free n m) ≡ Free)
unfolding lowest_free free_blocks is_free or_zero
target_free n m h = go (first n (is_free m)) (first_stands n (is_free m))
  where
    go : (o : Option ℕ) → Stands n (is_free m) o → (or_zero o < n) × (m.tag (or_zero o) ≡ Free)
    go none s = absurd (let z : places n (is_free m) ≡ [] = places_none n (is_free m) s in omega (arith, ap length z))
    go (some i) s = (s.0, same_tag→ _ _ s.1)

pub ready : (g : Geometry) (l : Lent) (a : Mounted) (d : ℕ) (ss : List Step) → mount_of g l ≡ ok a → reclaim g l d ≡ ok ss → Ready g l a d ss
unfolding reclaim and_then reclaim_on
ready g l a d ss e q =
    let R : Answer (List Step) → Type 0 = λ o. o ≡ ok ss → Ready g l a d ss in
    let z : reclaim_on g (image_of g l) d a ≡ ok ss = sym (ap (λ (o : Answer Mounted). and_then o (reclaim_on g (image_of g l) d)) e) ∙ q in
    all_less R 0 (length a.erase) _ _ (λ h x. absurd (zero_one (cc))) (λ h.
    all_some R (find_data g.blocks (image_of g l).labels d) _ _ (λ h x. absurd (zero_one (cc))) (λ old f.
    all_less R (free_blocks g.blocks (image_of g l).labels) 2 _ _ (λ h x. absurd (zero_one (cc))) (λ two x.
    let t = target_free g.blocks (image_of g l).labels two in
    record { settled = no_list a.erase h; old = old; stood = f; inside = t.0; free = t.1; steps = cc }))) z

pub reclaim_mounts : (g : Geometry) (l : Lent) (d : ℕ) (ss : List Step) → reclaim g l d ≡ ok ss → (a : Mounted) × (mount_of g l ≡ ok a)
unfolding reclaim
reclaim_mounts g l d ss q = let u = and_then_ok (mount_of g l) (reclaim_on g (image_of g l) d) ss q in (u.0, u.1)

-- ---- paths

-- no copy follows itself
no_next : (p : ℕ) → copy_of p ≡ successor (copy_of p) → ⊥
unfolding copy_of successor
no_next p e = omega arith

-- ---- the steps before the label write

module _ (g : Geometry) (l : Lent) (a : Mounted) (d : ℕ) (ss : List Step) (e : mount_of g l ≡ ok a) (r : Ready g l a d ss) where
  abbrev m : Image
  m = image_of g l

  abbrev xs : List Extent
  xs = a.tree.extents

  abbrev old : ℕ
  old = r.old

  abbrev new : ℕ
  new = lowest_free g.blocks (image_of g l).labels

  abbrev new_path : ℕ
  new_path = renewed_path (image_of g l).labels d old

  -- before the label write, after it, and at the end
  abbrev copied : Lent
  copied = done_all g l (prepares g m xs d old new)

  abbrev labelled : Lent
  labelled = relabel copied new (byte_of Data) new_path

  abbrev whole : Lent
  whole = erased g labelled old

  ok_mount : Mounts g l a
  ok_mount = mounts g l a e

  passed : Passed g m
  passed = passed→ g m (accepted→ g m a ok_mount.mounted).labels

  unlisted : (i : ℕ) → i < g.blocks → T (to_erase g m.labels xs i) → ⊥
  unlisted i h t = subst (In i) (sym (list_is g l a e) ∙ r.settled) (places_in g.blocks (to_erase g m.labels xs) i h t)

  source : Counts g.blocks m.labels Data d old
  unfolding find_data find
  source = counts→ g.blocks m.labels Data d old (first_some g.blocks _ old r.stood).1

  apart : old ≢ new
  apart q = not_free.2 (sym source.tag ∙ ap m.labels.tag q ∙ r.free)

  -- the target alone
  target : ℕ → Bool
  target i = eqb i new

  no_target : (t : Tag) → t ≢ Free → (i : ℕ) → m.labels.tag i ≡ t → T (target i) → ⊥
  unfolding target
  no_target t f i q u = f (sym q ∙ ap m.labels.tag (eqb→eq i new u) ∙ r.free)

  spare : Spare g m xs target
  spare = record {
    boot = λ k i c. no_target Boot not_free.0 i c.tag;
    log = λ k i c n. no_target Log not_free.1 i c.tag;
    data' = λ k i c n. no_target Data not_free.2 i c.tag;
  }

  prepares_spend : All (Spends g target) (prepares g m xs d old new)
  unfolding prepares cleared used_pages inside target
  prepares_spend =
      let n : new < g.blocks = r.inside in
      let o : old < g.blocks = source.below in
      let ps : List ℕ = places g.pages (used g xs d) in
      all_append (Spends g target) (cleared m new) _
      (all_true (All (Spends g target)) (writable m new) _ _ (λ q. tt) (λ q. ((lt→ltb _ _ n, eqb_refl new), tt)))
      (mapped (Spends g target) (PageWrite (block old) (block new)) ps
      (all_map (λ (p : ℕ). p < g.pages) _ ps (λ p h. (search makes, eqb_refl new)) (places_below g.pages (used g xs d))))

  prepare_shows : (l' : Lent) → Cut g (prepares g m xs d old new) l l' → Shows g l l' a
  prepare_shows = spare_cut g l a e target spare (prepares g m xs d old new) prepares_spend

  -- ---- the label write

  copy : Prepared g l copied xs d old new
  copy = prepared g l ok_mount.fit xs d old new apart source.below r.inside

  label_changed : Changed g copied labelled new
  label_changed = relabel_changed g copied copy.changed.fit new (byte_of Data) new_path

  label_new : (get_or labelled.tags new 0 ≡ byte_of Data) × (get_or labelled.paths new 0 ≡ new_path)
  label_new = new_label g copied copy.changed.fit new (byte_of Data) new_path r.inside

  renewed : Changed g l labelled new
  renewed = changed_twice g l copied labelled new copy.changed label_changed

  page_below : (o : ℕ) → o < block_size g → o / g.size < g.pages
  unfolding block_size
  page_below o h = (div-lt_iff_lt-mul ok_mount.size).1 (rw (mul_comm g.pages g.size) h)

  relabels : Relabelled g m xs d old new (image_of g labelled)
  unfolding image_of labels_of relabel
  relabels = record {
    was_free = r.free;
    inside = r.inside;
    source = source;
    settled = unlisted;
    elsewhere = λ j ne. let k = renewed.kept j ne in (ap tag_of k.0, k.1, k.2);
    new_tag = ap tag_of label_new.0 ∙ read_back Data;
    new_path = label_new.1;
    pages = λ o h u. byte_of_page g _ _ o ok_mount.size (copy.live (o / g.size) (page_below o h) (is_true _ u));
  }

  label_shows : Shows g l labelled a
  label_shows = shows_lent g l labelled a e label_changed.fit
      (relabel_shows g m a d old new (image_of g labelled) ok_mount.size ok_mount.pages ok_mount.extents ok_mount.mounted relabels)

  -- ---- the old block

  old_shows : (l' : Lent) → Cut g (Erase (block old) ∷ []) labelled l' → Shows g l l' a
  unfolding settle_steps to_erase
  old_shows l' c = shows_after g l labelled l' a label_shows
      (erases_show g labelled label_shows.answer label_shows.accepted (old ∷ []) (source.below, tt)
      (or_l (older g.blocks (image_of g labelled).labels old) _ (old_older g m xs d old new (image_of g labelled) passed relabels), tt) l' c)

  ends : List Step
  ends = LabelWrite (block new) (byte_of Data) new_path ∷ Erase (block old) ∷ []

  steps_are : reclaim_steps g m xs d old new ≡ prepares g m xs d old new ++ ends
  unfolding reclaim_steps prepares ends
  steps_are = sym (append_assoc (cleared m new) (map (PageWrite (block old) (block new)) (used_pages g xs d)) ends)

  pub reclaim_shows : (l' : Lent) → Cut g (reclaim_steps g m xs d old new) l l' → Shows g l l' a
  unfolding ends done
  reclaim_shows l' c = go (cut_append g (prepares g m xs d old new) ends l l' (subst (λ (x : List Step). Cut g x l l') steps_are c))
    where
      go : Cut g (prepares g m xs d old new) l l' ⊎ Cut g ends copied l' → Shows g l l' a
      go (inl b) = prepare_shows l' b
      go (inr (inl q)) = rw q (prepare_shows copied (whole_cut g (prepares g m xs d old new) l))
      go (inr (inr (inl t))) = absurd t
      go (inr (inr (inr b))) = old_shows l' b

  -- ---- a reclaim that is not cut

  pub reclaim_does : do_steps g l (reclaim_steps g m xs d old new) ≡ ok (done_all g l (reclaim_steps g m xs d old new))
  unfolding ends inside
  reclaim_does = runs g (reclaim_steps g m xs d old new)
      (rw steps_are (all_append _ (prepares g m xs d old new) ends (spends_inside g target (prepares g m xs d old new) prepares_spend)
      (lt→ltb _ _ r.inside, (lt→ltb _ _ source.below, tt))))
      l ok_mount.fit

  pub whole_is : done_all g l (reclaim_steps g m xs d old new) ≡ whole
  unfolding ends done_all done
  whole_is = ap (done_all g l) steps_are ∙ run_append g (prepares g m xs d old new) ends l

  last_changed : Changed g labelled whole old
  last_changed = erase_changed g labelled label_changed.fit old source.below

  old_erased : Erased g whole old
  old_erased = erase_erased g labelled label_changed.fit old source.below

  new_kept : Kept g labelled whole new
  new_kept = last_changed.kept new (λ q. apart (sym q))

  else_kept : (i : ℕ) → i ≢ old → i ≢ new → Kept g l whole i
  else_kept i fo fn = kept_twice g l labelled whole i (renewed.kept i fn) (last_changed.kept i fo)

  new_page : (p : ℕ) → page_at g whole new p ≡ page_at g copied new p
  unfolding image_of relabel
  new_page p = ap (λ (b : List ℕ). page_of g b p) new_kept.2

  -- a settled image has one copy of each
  was_old : (i : ℕ) → i < g.blocks → m.labels.tag i ≡ Data → r_of (m.labels.path i) ≡ d → i ≡ old
  unfolding clash older to_erase
  was_old i h t q = ⊎_elim (λ (z : i ≡ old). z)
      (λ (ne : i ≢ old).
      let one : (j k : ℕ) → j < g.blocks → k < g.blocks → T (newer m.labels j k) → ⊥ =
      λ j k hj hk u. unlisted k hk (or_l (older g.blocks m.labels k) _ (any_intro _ _ j hj u)) in
      let none : T (newer m.labels i old || newer m.labels old i) → ⊥ =
      λ u. ⊎_elim (one i old h source.below) (one old i source.below h) (or_cases (newer m.labels i old) (newer m.labels old i) u) in
      let same = →same m.labels i old (λ z. not_free.2 (sym t ∙ z)) (source.tag ∙ sym t) (source.r ∙ sym q) in
      absurd (passed.clean i old h source.below (search makes)))
      (eq_or i old)

  sole : (i : ℕ) → i < g.blocks → (image_of g whole).labels.tag i ≡ Data → r_of (get_or whole.paths i 0) ≡ d → i ≡ new
  unfolding image_of labels_of
  sole i h t q = ⊎_elim (λ (z : i ≡ new). z)
      (λ (fn : i ≢ new).
      let fo : i ≢ old = λ z. not_free.2 (sym t ∙ ap (λ (j : ℕ). tag_of (get_or whole.tags j 0)) z ∙ ap tag_of old_erased.0 ∙ read_back Free) in
      let k = else_kept i fo fn in
      absurd (fo (was_old i h (sym (ap tag_of k.0) ∙ t) (sym (ap r_of k.1) ∙ q))))
      (eq_or i new)

  new_tag_lem : get_or whole.tags new 0 ≡ byte_of Data
  new_tag_lem = new_kept.0 ∙ label_new.0

  new_path_lem : get_or whole.paths new 0 ≡ new_path
  new_path_lem = new_kept.1 ∙ label_new.1

  stands : Counts g.blocks (image_of g whole).labels Data d new
  unfolding image_of labels_of older renewed_path
  stands =
      let q : r_of (get_or whole.paths new 0) ≡ d = ap r_of new_path_lem ∙ (path_parts d (copy_of (m.labels.path old))).0 in
      let t : tag_of (get_or whole.tags new 0) ≡ Data = ap tag_of new_tag_lem ∙ read_back Data in
      record {
        below = r.inside;
        tag = t;
        r = q;
        newest = λ o.
            let f : Found g.blocks (λ j. newer (image_of g whole).labels j new) = any_elim _ _ o in
            let w : Newer (image_of g whole).labels f.place new = newer→ (image_of g whole).labels f.place new f.passes in
            let z : f.place ≡ new = sole f.place f.below (w.tag ∙ t) (w.r ∙ q) in
            no_next (get_or whole.paths new 0) (sym (ap (λ (j : ℕ). copy_of (get_or whole.paths j 0)) z) ∙ w.next);
      }

  pub reclaim_reclaims : Reclaimed g l whole a d
  unfolding find_data image_of labels_of done
  reclaim_reclaims = record {
    old = old;
    target = new;
    stood = r.stood;
    stands = find_sole g.blocks (image_of g whole).labels Data d new stands (λ i c. sole i c.below c.tag c.r);
    sole = sole;
    tag = new_tag_lem;
    path = new_path_lem;
    live = λ p h u. new_page p ∙ copy.live p h u;
    dead = λ p h u. ap blank (new_page p) ∙ copy.dead p h u;
    freed = old_erased;
    kept = λ i h fo fn. else_kept i fo fn;
    shows = old_shows whole (inr (inr refl));
  }
