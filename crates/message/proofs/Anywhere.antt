-- Of all messages only a write knows the page's address.
use mathlib.Core.Path.{◌≡◌, refl}
use mathlib.Core.List.{List}
use Prim.Native.Nat.{ℕ}
use Rattle.meaning.specs.Message.{create_at, remove_at, truncate_at, wstat_at, place_at}
use Rattle.message.specs.Page.{page}

module _ (b : List ℕ) (a begin path p end : ℕ) where
  pub create_anywhere : create_at (page b 0 begin) path p end ≡ create_at (page b a begin) path p end
  unfolding create_at place_at
  create_anywhere = refl

  pub remove_anywhere : remove_at (page b 0 begin) path p end ≡ remove_at (page b a begin) path p end
  unfolding remove_at place_at
  remove_anywhere = refl

  pub truncate_anywhere : truncate_at (page b 0 begin) path p end ≡ truncate_at (page b a begin) path p end
  unfolding truncate_at place_at
  truncate_anywhere = refl

  pub wstat_anywhere : wstat_at (page b 0 begin) path p end ≡ wstat_at (page b a begin) path p end
  unfolding wstat_at place_at
  wstat_anywhere = refl

pub ruleset anywhere = (create_anywhere, remove_anywhere, truncate_anywhere, wstat_anywhere)
