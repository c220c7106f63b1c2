-- One step as a whole: what slices that fit say, and what each step leaves.
use mathlib.Core.Path.{◌≡◌, ap}
use mathlib.Core.Bool.{Bool, true, ◌&&◌}
use mathlib.Core.List.{List, []}
use Prim.Native.Nat.{ℕ, ◌*◌}
use lib.Dec.{T, eqb, eqb→eq}
use lib.ListN.{length}
use Rattle.base.proofs.Tests.{T-yes, is_true, and_l, and_r}
use Rattle.meaning.specs.declared.Geometry.{Geometry}
use Rattle.meaning.specs.declared.Block.{Block}
use Rattle.meaning.specs.declared.Step.TheVariants.{PageWrite}
use Rattle.meaning.specs.Flash.{Lent, fits, good_geometry, block_size, image_of}
use Rattle.meaning.specs.Services.{done, overwrite}
use Rattle.plan.specs.Select.{lent}

-- ---- what the slices' lengths are

module _ (g : Geometry) (l : Lent) (e : fits g l ≡ true) where
  abbrev Tags : Bool
  Tags = eqb (length l.tags) g.blocks

  abbrev Paths : Bool
  Paths = eqb (length l.paths) g.blocks

  abbrev Contents : Bool
  Contents = eqb (length l.contents) (g.blocks * block_size g)

  fit_all : T (good_geometry g && Tags && Paths && Contents)
  unfolding fits
  fit_all = T-yes (fits g l) e

  fit_labels : T (good_geometry g && Tags && Paths)
  fit_labels = and_l (good_geometry g && Tags && Paths) Contents fit_all

  pub fit_good : good_geometry g ≡ true
  fit_good = is_true (good_geometry g) (and_l (good_geometry g) Tags (and_l (good_geometry g && Tags) Paths fit_labels))

  pub fit_tags : length l.tags ≡ g.blocks
  fit_tags = eqb→eq _ _ (and_r (good_geometry g) Tags (and_l (good_geometry g && Tags) Paths fit_labels))

  pub fit_paths : length l.paths ≡ g.blocks
  fit_paths = eqb→eq _ _ (and_r (good_geometry g && Tags) Paths fit_labels)

  pub fit_contents : length l.contents ≡ g.blocks * block_size g
  fit_contents = eqb→eq _ _ (and_r (good_geometry g && Tags && Paths) Contents fit_all)

-- ---- what each step's function leaves, as the step done

pub page_left : (g : Geometry) (ts ps xs : List ℕ) {last : List ℕ} (from to : Block) (p : ℕ)
    → last ≡ (done g (lent [] [] xs) (PageWrite from to p)).contents → lent ts ps last ≡ done g (lent ts ps xs) (PageWrite from to p)
unfolding done overwrite image_of
page_left g ts ps xs from to p e = ap (lent ts ps) e
