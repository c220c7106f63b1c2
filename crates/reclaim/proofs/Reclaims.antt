-- The reclaim of document 01 by what a mount shows, and what its list leaves.
use Prim.Native.Nat.{ℕ, ◌≤◌, ◌<◌}
use mathlib.Core.Path.{◌≡◌, refl, sym, ap, ◌∙◌}
use mathlib.Core.Bool.{true}
use mathlib.Core.Option.{Option, none, some}
use mathlib.Core.List.{List}
use native.Mathlib.Omega.{arith}
use lib.Dec.{T, eqb→eq}
use lib.ListN.{length, get_or, take}
use Rattle.base.specs.Choice.{if_less, on_some, test}
use Rattle.base.specs.Scan.{places}
use Rattle.base.proofs.Scans.{first_some}
use Rattle.base.proofs.Choices.{all_true}
use Rattle.base.proofs.Tests.{zero_one}
use Rattle.base.proofs.Ways.{yes<, no<}
use Rattle.meaning.specs.declared.Block.{Block}
use Rattle.meaning.specs.declared.Extent.{Extent}
use Rattle.meaning.specs.declared.Geometry.{Geometry}
use Rattle.meaning.specs.declared.Refusal.{Refusal}
use Rattle.meaning.specs.declared.Refusal.TheVariants as refused
use Rattle.meaning.specs.declared.Step.{Step}
use Rattle.meaning.specs.declared.Tag.TheVariants.{Data}
use Rattle.meaning.specs.Answer.{Answer, ok, no, and_then, number}
use Rattle.meaning.specs.Flash.{Lent, Image, Labels, fits, image_of, labels_of}
use Rattle.meaning.specs.Labels.{find, find_data, is, view}
use Rattle.meaning.specs.Mount.{Mounted, mount_of, used_pages}
use Rattle.meaning.specs.Services.{free_blocks, leaves, lowest_free, reclaim, reclaim_on, reclaim_steps}
use Rattle.demand.proofs.Demand.{reclaim_runs}
use Rattle.std.specs.Prelude as std
use Rattle.std.specs.Prelude.{Some, None}
use Rattle.label.specs.Search.{found}
use Rattle.flash_log.proofs.Sizes.{sizes}
use Rattle.used.specs.declared.Erase.{Erase}
use Rattle.used.specs.Bits.{has_page, listed, used_bits}
use Rattle.used.specs.Erase.{erase_of}
use Rattle.used.proofs.Masks.{listed_at, mask_pages, pad_take}
use Rattle.shown.specs.declared.Shown.{Shown}
use Rattle.shown.specs.Shown as show
use Rattle.settle.specs.Settled.{each}
use Rattle.settle.proofs.Each.{each_does}
use Rattle.reclaim.specs.Reclaimed.{reclaim_by, steps_by}

-- ---- by the masks

stands : (o : Option ℕ) (d : ℕ) → T (is o d) → o ≡ some d
unfolding is test
stands none d t = absurd t
stands (some x) d t = ap {B = Option ℕ} some (eqb→eq x d t)

-- the block that is found has the mask of its used pages
module _ (g : Geometry) (m : Labels) (xs : List Extent) (d old : ℕ) (small : g.blocks ≤ 1024) (f : find_data g.blocks m d ≡ some old) where
  stood : (old < g.blocks) × (view g.blocks m Data old ≡ some d)
  unfolding find_data find
  stood = let s = first_some g.blocks (λ i. is (view g.blocks m Data i) d) old f in (s.0, stands _ d s.1)

  pages_are : places g.pages (has_page (get_or (listed 1024 (used_bits g m xs)) old 0)) ≡ used_pages g xs d
  pages_are =
      let h : old < 1024 = omega (arith, stood.0) in
      ap (λ (k : ℕ). places g.pages (has_page k)) (listed_at 1024 (used_bits g m xs) old h) ∙ mask_pages g m xs old d stood.1

-- the list of blocks and its count
erase_count : (e : Erase) (xs : List ℕ) → e ≡ erase_of xs → (e.count ≡ length xs) × (take e.count e.blocks ≡ xs)
unfolding erase_of
erase_count e xs q = (ap (λ (x : Erase). x.count) q, ap (λ (x : Erase). take x.count x.blocks) q ∙ pad_take 1024 xs)

on_some_lem : {A B : Type 0} (o : Option B) (z : A) (k k' : B → A) → ((x : B) → o ≡ some x → k x ≡ k' x) → on_some o z k ≡ on_some o z k'
unfolding on_some
on_some_lem none z k k' f = refl
on_some_lem (some x) z k k' f = f x refl

module _ (g : Geometry) (m : Image) (d : ℕ) (a : Mounted) (small : g.blocks ≤ 1024) where
  steps_are : (old target : ℕ) → find_data g.blocks m.labels d ≡ some old
      → steps_by g m d (get_or (listed 1024 (used_bits g m.labels a.tree.extents)) old 0) old target ≡ reclaim_steps g m a.tree.extents d old target
  unfolding steps_by reclaim_steps
  steps_are old target f = rw (pages_are g m.labels a.tree.extents d old small f)

  on_masks : (masks : List ℕ) (k : ℕ) → masks ≡ listed 1024 (used_bits g m.labels a.tree.extents) → k ≡ length a.erase
      → reclaim_by g m d masks k ≡ reclaim_on g m d a
  unfolding reclaim_by reclaim_on
  on_masks masks k e f =
      rw (e, f) (ap (λ (r : Answer (List Step)). if_less 0 (length a.erase) (no refused.Unsettled) r)
      (on_some_lem (find_data g.blocks m.labels d) _ _ _ (λ old h.
      ap (λ (ss : List Step). if_less (free_blocks g.blocks m.labels) 2 (no (refused.NoRoom (free_blocks g.blocks m.labels))) (ok ss))
      (steps_are old (lowest_free g.blocks m.labels) h))))

mounts_fit : (g : Geometry) (l : Lent) (a : Mounted) → mount_of g l ≡ ok a → fits g l ≡ true
unfolding mount_of
mounts_fit g l a = all_true (λ (o : Answer Mounted). o ≡ ok a → fits g l ≡ true) (fits g l) _ _ (λ t e. t) (λ t e. absurd (zero_one (cc)))

-- s is what a mount shows
module _ (g : Geometry) (l : Lent) (d : ℕ) (s : Shown) (rows : List (List ℕ)) (e : ok (show.mounted s rows) ≡ mount_of g l) where
  pub shown_fit : fits g l ≡ true
  shown_fit = mounts_fit g l _ (sym e)

  pub by_shown : show.Sizes g l s rows → reclaim_by g (image_of g l) d s.used s.erase.count ≡ reclaim g l d
  unfolding reclaim and_then
  by_shown h =
      let c = erase_count s.erase _ h.4 in
      on_masks g (image_of g l) d (show.mounted s rows) (sizes g l shown_fit).blocks s.used s.erase.count h.3 (c.0 ∙ sym (ap length c.1))
      ∙ ap (λ (o : Answer Mounted). and_then o (reclaim_on g (image_of g l) d)) e

pub by_refusal : {x : Refusal} (g : Geometry) (l : Lent) (d : ℕ) → no x ≡ mount_of g l → no x ≡ reclaim g l d
unfolding reclaim and_then
by_refusal g l d e = ap (λ (o : Answer Mounted). and_then o (reclaim_on g (image_of g l) d)) e

-- ---- the code's way through the refusals

nothing_there : (o : Option ℕ) → None ≡ found o → o ≡ none
unfolding found
nothing_there none e = refl
nothing_there (some i) e = absurd (zero_one (cc))

block_there : (o : Option ℕ) (b : Block) → Some b ≡ found o → o ≡ some b.0
unfolding found
block_there none b e = absurd (zero_one (cc))
block_there (some i) b e = cc

module _ (g : Geometry) (l : Lent) (f : fits g l ≡ true) (d : ℕ) (masks : List ℕ) (k : ℕ) where
  abbrev m : Image
  m = image_of g l

  same : length l.tags ≡ g.blocks
  same = (sizes g l f).tags

  pub by_unsettled : 0 < k → no refused.Unsettled ≡ reclaim_by g (image_of g l) d masks k
  unfolding reclaim_by
  by_unsettled h = yes< 0 k _ _ h refl

  module _ (settled : k ≤ 0) where
    searched : {x : std.Option Block} → x ≡ found (find_data (length l.tags) (labels_of l.tags l.paths) d) → x ≡ found (find_data g.blocks m.labels d)
    unfolding image_of
    searched e = e ∙ ap (λ (n : ℕ). found (find_data n (labels_of l.tags l.paths) d)) same

    pub by_absent : None ≡ found (find_data (length l.tags) (labels_of l.tags l.paths) d) → no (refused.NoBlock (number d)) ≡ reclaim_by g (image_of g l) d masks k
    unfolding reclaim_by on_some
    by_absent e = no< 0 k _ _ settled (rw (nothing_there _ (searched e)))

    module _ {x : std.Option Block} (old : Block) (y : x ≡ found (find_data (length l.tags) (labels_of l.tags l.paths) d)) (h : x ≡ Some old)
        {free : ℕ} (c : free ≡ free_blocks (length l.tags) (labels_of l.tags l.paths)) where
      e : Some old ≡ found (find_data (length l.tags) (labels_of l.tags l.paths) d)
      e = sym h ∙ y

      counted : free ≡ free_blocks g.blocks m.labels
      unfolding image_of
      counted = c ∙ ap (λ (n : ℕ). free_blocks n (labels_of l.tags l.paths)) same

      lowest : {t : ℕ} → t ≡ lowest_free (length l.tags) (labels_of l.tags l.paths) → t ≡ lowest_free g.blocks m.labels
      unfolding image_of
      lowest p = p ∙ ap (λ (n : ℕ). lowest_free n (labels_of l.tags l.paths)) same

      pub by_few : free < 2 → no (refused.NoRoom free) ≡ reclaim_by g (image_of g l) d masks k
      unfolding reclaim_by on_some
      by_few q = no< 0 k _ _ settled (rw (block_there _ old (searched e)) (rw (sym counted) (yes< free 2 _ _ q refl)))

      pub by_steps : {ss : List Step} (t mask : ℕ) → 2 ≤ free → t ≡ lowest_free (length l.tags) (labels_of l.tags l.paths) → mask ≡ get_or masks old.0 0
          → ss ≡ steps_by g (image_of g l) d mask old.0 t → ok ss ≡ reclaim_by g (image_of g l) d masks k
      unfolding reclaim_by on_some
      by_steps t mask q p v s =
          let low : t ≡ lowest_free g.blocks m.labels = lowest p in
          no< 0 k _ _ settled (rw (block_there _ old (searched e)) (rw (sym counted, sym low, sym v) (no< free 2 _ _ q (ap {B = Answer (List Step)} ok s))))

-- ---- what is left

-- the list done step by step is what a reclaim leaves
pub reclaim_left : (g : Geometry) (l : Lent) (d : ℕ) (ss : List Step) → ok ss ≡ reclaim g l d → each g l ss ≡ leaves g l (reclaim g l d)
reclaim_left g l d ss e = each_does g l _ _ (reclaim_runs g l d _ (sym e))
