-- The answer of a reclaim, as document 01 has it.
use Rattle.std.specs.Prelude.{ℕ, List, [], ◌∷◌, ◌++◌, map, get_or, take, Result}
use Rattle.base.specs.Choice.{if_less, on_some}
use Rattle.base.specs.Scan.{places}
use Rattle.meaning.specs.declared.Geometry.{Geometry}
use Rattle.meaning.specs.declared.Refusal.{Refusal}
use Rattle.meaning.specs.declared.Refusal.TheVariants as refused
use Rattle.meaning.specs.declared.Step.{Step}
use Rattle.meaning.specs.declared.Step.TheVariants.{Erase, PageWrite, LabelWrite}
use Rattle.meaning.specs.declared.Tag.TheVariants.{Data}
use Rattle.meaning.specs.Answer.{Answer, answer_by, ok, no, block, number}
use Rattle.meaning.specs.Flash.{Image, byte_of}
use Rattle.meaning.specs.Labels.{find_data}
use Rattle.meaning.specs.Services.{cleared, free_blocks, lowest_free, renewed_path}
use Rattle.used.specs.Bits.{has_page}
use Rattle.reclaim.specs.declared.steps.Steps.{Steps}

abbrev pub steps_in : Steps → List Step
steps_in l = take l.count l.steps

-- "Settle and reclaim also answer with their list of steps"
abbrev pub answer : Result Steps Refusal → Answer (List Step)
answer r = answer_by steps_in r

-- ---- by the masks of used pages

-- reclaim_steps, the used pages of the old block being the set bits of its mask
unfoldable pub steps_by : Geometry → Image → ℕ → ℕ → ℕ → ℕ → List Step
steps_by g m d mask old target =
    cleared m target
    ++ (map (PageWrite (block old) (block target)) (places g.pages (has_page mask))
    ++ (LabelWrite (block target) (byte_of Data) (renewed_path m.labels d old) ∷ Erase (block old) ∷ []))

-- reclaim_on, by the masks of a mount and the count of its erase list
unfoldable pub reclaim_by : Geometry → Image → ℕ → List ℕ → ℕ → Answer (List Step)
reclaim_by g m d masks unsettled =
    if_less 0 unsettled (no refused.Unsettled)
    (on_some (find_data g.blocks m.labels d) (no (refused.NoBlock (number d))) (λ old.
    if_less (free_blocks g.blocks m.labels) 2 (no (refused.NoRoom (free_blocks g.blocks m.labels)))
    (ok (steps_by g m d (get_or masks old 0) old (lowest_free g.blocks m.labels)))))
