-- A settle: its answer, its steps cut anywhere, and what they leave when not cut.
use mathlib.Core.Path.{◌≡◌, sym, ap, ◌∙◌, subst}
use mathlib.Core.Logic.{◌≢◌, ⊎_elim}
use mathlib.Core.Bool.{Bool, ◌||◌}
use mathlib.Core.List.{List}
use Prim.Native.Nat.{ℕ, ◌<◌}
use lib.Dec.{T, lt→ltb}
use Rattle.base.specs.Choice.{test}
use Rattle.base.specs.Scan.{places}
use Rattle.base.specs.Member.{All, In}
use Rattle.base.proofs.Tests.{or_l, or_r, or_cases}
use Rattle.base.proofs.Lists.{all_both}
use Rattle.base.proofs.Scans.{any_intro, Found, any_elim, Below, places_in, places_below, places_none, places_within}
use Rattle.meaning.specs.declared.Geometry.{Geometry}
use Rattle.meaning.specs.declared.Extent.{Extent}
use Rattle.meaning.specs.declared.Plan.{Plan}
use Rattle.meaning.specs.declared.Step.{Step}
use Rattle.meaning.specs.declared.Tag.{Tag}
use Rattle.meaning.specs.declared.Tag.TheVariants.{Free, Log, Data}
use Rattle.meaning.specs.Answer.{ok, and_then}
use Rattle.meaning.specs.Flash.{Lent, Image, image_of, labels_of, tag_of, r_of}
use Rattle.meaning.specs.Labels.{newer, older, view, dropped, log_plan}
use Rattle.meaning.specs.Replay.{Tree}
use Rattle.meaning.specs.Mount.{idle, is_dropped, is_idle, to_erase, Mounted, mount_of}
use Rattle.meaning.specs.Services.{settle_steps, settle, done_all, do_steps, inside}
use Rattle.meaning.specs.Cut.{Cut, Shows, Settled, Erased, Kept}
use Rattle.survival.proofs.Live.{read_back, not_free, newer→, Counts, counts→, →counts, Damaged, newer_back}
use Rattle.survival.proofs.LogFacts.{Passing, passing→, →passing}
use Rattle.survival.proofs.Survive.{and_then_ok, Passed, passed→, accepted→, erase_spare, plan_same}
use Rattle.demand.proofs.Cuts.{Spends, spends_inside, mapped, runs, whole_cut, untouched, spent}
use Rattle.demand.proofs.Runs.{erases}
use Rattle.demand.proofs.Shown.{Mounts, mounts, spare_cut}

-- ---- where the listed blocks have become free and the others are as they were, the next erase list is empty

module _ (g : Geometry) (m m' : Image) (xs : List Extent) (p : Passed g m) (d : Damaged (to_erase g m.labels xs) m m')
    (freed : (i : ℕ) → i < g.blocks → T (to_erase g m.labels xs i) → m'.labels.tag i ≡ Free) where
  -- a block that has a label was not listed
  unlisted : (i : ℕ) → i < g.blocks → m'.labels.tag i ≢ Free → T (to_erase g m.labels xs i) → ⊥
  unlisted i l f t = f (freed i l t)

  -- what counts now counted before
  back : (t : Tag) → t ≢ Free → (q : ℕ → Bool) (i : ℕ) → T (test q (view g.blocks m'.labels t i))
      → m'.labels.tag i ≢ Free × T (test q (view g.blocks m.labels t i))
  unfolding to_erase
  back t ft q i u =
      let v : Passing q (view g.blocks m'.labels t i) = passing→ q _ u in
      let c : Counts g.blocks m'.labels t v.value i = counts→ g.blocks _ t v.value i v.at in
      let f : m'.labels.tag i ≢ Free = λ e. ft (sym c.tag ∙ e) in
      let k = d.kept i (unlisted i c.below f) in (
        f,
        →passing q _ v.value (→counts g.blocks m.labels t v.value i (record {
          below = c.below;
          tag = sym k.0 ∙ c.tag;
          r = sym (ap r_of k.1) ∙ c.r;
          newest = λ o. unlisted i c.below f (or_l (older g.blocks m.labels i) _ o);
        })) v.passes,
      )

  nothing_left : (i : ℕ) → i < g.blocks → T (to_erase g m'.labels xs i) → ⊥
  unfolding to_erase is_dropped is_idle older
  nothing_left i l t = ⊎_elim
      (λ (o : T (older g.blocks m'.labels i)).
      let f : Found g.blocks (λ j. newer m'.labels j i) = any_elim _ _ o in
      unlisted i l (newer→ m'.labels f.place i f.passes).taken
      (or_l (older g.blocks m.labels i) _ (any_intro _ _ f.place f.below (newer_back _ m m' d f.place i f.passes))))
      (λ u. ⊎_elim
      (λ (s : T (is_dropped g.blocks m'.labels i)).
      let b = back Log not_free.1 (dropped (log_plan g.blocks m.labels)) i
      (subst (λ (x : Plan). T (test (dropped x) (view g.blocks m'.labels Log i))) (plan_same g m xs _ m' p (erase_spare g m xs) d) s) in
      unlisted i l b.0 (or_r (older g.blocks m.labels i) _ (or_l (is_dropped g.blocks m.labels i) (is_idle g m.labels xs i) b.1)))
      (λ (s : T (is_idle g m'.labels xs i)).
      let b = back Data not_free.2 (idle g xs) i s in
      unlisted i l b.0 (or_r (older g.blocks m.labels i) _ (or_r (is_dropped g.blocks m.labels i) (is_idle g m.labels xs i) b.1)))
      (or_cases (is_dropped g.blocks m'.labels i) (is_idle g m'.labels xs i) u))
      (or_cases (older g.blocks m'.labels i) (is_dropped g.blocks m'.labels i || is_idle g m'.labels xs i) t)

-- ---- the answer

pub settle_is : (g : Geometry) (l : Lent) (a : Mounted) → mount_of g l ≡ ok a → settle g l ≡ ok (settle_steps a.erase)
unfolding settle and_then
settle_is g l a e = rw e

pub settle_steps_lem : (g : Geometry) (l : Lent) (a : Mounted) (ss : List Step) → mount_of g l ≡ ok a → settle g l ≡ ok ss → ss ≡ settle_steps a.erase
settle_steps_lem g l a ss e q = let z : ok ss ≡ ok (settle_steps a.erase) = sym q ∙ settle_is g l a e in cc

pub settle_mounts : (g : Geometry) (l : Lent) (ss : List Step) → settle g l ≡ ok ss → (a : Mounted) × (mount_of g l ≡ ok a)
unfolding settle
settle_mounts g l ss q = let u = and_then_ok (mount_of g l) _ ss q in (u.0, u.1)

module _ (g : Geometry) (l : Lent) (a : Mounted) (e : mount_of g l ≡ ok a) where
  abbrev m : Image
  m = image_of g l

  abbrev listed : ℕ → Bool
  listed = to_erase g (image_of g l).labels a.tree.extents

  abbrev whole : Lent
  whole = done_all g l (settle_steps a.erase)

  ok_mount : Mounts g l a
  ok_mount = mounts g l a e

  pub list_is : a.erase ≡ places g.blocks listed
  list_is = (accepted→ g m a ok_mount.mounted).listed

  list_below : Below g.blocks a.erase
  list_below = rw list_is (places_below g.blocks listed)

  list_within : All (λ (i : ℕ). T (listed i)) a.erase
  list_within = rw list_is (places_within g.blocks listed)

  erases_spend : (is : List ℕ) → Below g.blocks is → All (λ (i : ℕ). T (listed i)) is → All (Spends g listed) (settle_steps is)
  unfolding settle_steps inside
  erases_spend is b w = mapped (Spends g listed) _ is
      (all_both (λ (i : ℕ). i < g.blocks) (λ (i : ℕ). T (listed i)) _ is (λ i h t. (lt→ltb _ _ h, t)) b w)

  -- listed blocks, erased in any order and cut anywhere
  pub erases_show : (is : List ℕ) → Below g.blocks is → All (λ (i : ℕ). T (listed i)) is → (l' : Lent)
      → Cut g (settle_steps is) l l' → Shows g l l' a
  erases_show is b w = spare_cut g l a e listed (erase_spare g m a.tree.extents) (settle_steps is) (erases_spend is b w)

  settle_spends : All (Spends g listed) (settle_steps a.erase)
  settle_spends = erases_spend a.erase list_below list_within

  pub settle_shows : (l' : Lent) → Cut g (settle_steps a.erase) l l' → Shows g l l' a
  settle_shows = erases_show a.erase list_below list_within

  pub settle_does : do_steps g l (settle_steps a.erase) ≡ ok whole
  settle_does = runs g (settle_steps a.erase) (spends_inside g listed (settle_steps a.erase) settle_spends) l ok_mount.fit

  uncut : Cut g (settle_steps a.erase) l whole
  uncut = whole_cut g (settle_steps a.erase) l

  settle_erases : (i : ℕ) → (In i a.erase → Erased g whole i) × ((In i a.erase → ⊥) → Kept g l whole i)
  settle_erases = erases g a.erase list_below l ok_mount.fit

  none_left : (i : ℕ) → i < g.blocks → T (to_erase g (image_of g whole).labels a.tree.extents i) → ⊥
  unfolding image_of labels_of
  none_left = nothing_left g m (image_of g whole) a.tree.extents (passed→ g m (accepted→ g m a ok_mount.mounted).labels)
      (spent g listed m (settle_steps a.erase) settle_spends l whole ok_mount.fit (untouched listed m) uncut).1
      (λ i h t. ap tag_of ((settle_erases i).0 (rw list_is (places_in g.blocks listed i h t))).0 ∙ read_back Free)

  pub settle_settles : Settled g l whole a
  settle_settles =
      let s : Shows g l whole a = settle_shows whole uncut in
      record {
        freed = λ i h. (settle_erases i).0 h;
        kept = λ i h n. (settle_erases i).1 n;
        shows = s;
        settled = (accepted→ g (image_of g whole) s.answer (mounts g whole s.answer s.accepted).mounted).listed
            ∙ ap (λ (t : Tree). places g.blocks (to_erase g (image_of g whole).labels t.extents)) s.tree
            ∙ places_none g.blocks (to_erase g (image_of g whole).labels a.tree.extents) none_left;
      }
