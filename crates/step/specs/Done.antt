-- What `do_step` answers and leaves: the slices after the step, or a refusal and the slices as they were.
use Rattle.std.specs.Prelude.{ℕ, List, ◌++◌, length, take, drop, Result, Ok, Err}
use Rattle.meaning.specs.declared.Geometry.{Geometry}
use Rattle.meaning.specs.declared.Refusal.{Refusal}
use Rattle.meaning.specs.declared.Step.{Step}
use Rattle.meaning.specs.Answer.{Answer, ok, no}
use Rattle.meaning.specs.Flash.{Lent}
use Rattle.meaning.specs.Services.{do_step}

unfoldable pub answered : Answer Lent → Result (Unit {0}) Refusal
answered (ok l) = Ok tt
answered (no r) = Err r

unfoldable pub left : Lent → Answer Lent → Lent
left l (ok l') = l'
left l (no r) = l

unfoldable pub stepped : Geometry → Lent → Step → Lent
stepped g l s = left l (do_step g l s)

-- a part of the contents with the page's bytes in it, as far as both go
unfoldable pub written : List ℕ → List ℕ → List ℕ
written part page = take (length part) page ++ drop (length page) part
