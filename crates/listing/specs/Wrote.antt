-- Text written into a lent buffer. It was l, and xs was put from a place on: now it is m, and the place past xs is `to`.
use Rattle.std.specs.Prelude.{ℕ, List, ◌≡◌}
use Rattle.text.specs.Put.{put, end_of}

pub record Wrote (l : List ℕ) (at : ℕ) (xs m : List ℕ) (to : ℕ) : Type 0 where
  pub text : m ≡ put l at xs
  pub end : to ≡ end_of l at xs
