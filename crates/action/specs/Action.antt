-- A step, and its numbers (01: "an erase (block), a page write (from which block, to which, page) or a label write (block, label)").
use Rattle.base.specs.Choice.{if_eq}
use Rattle.meaning.specs.declared.Step.{Step}
use Rattle.meaning.specs.declared.Step.TheVariants.{Erase, PageWrite, LabelWrite}
use Rattle.meaning.specs.Answer.{block}
use Rattle.action.specs.declared.Action.{Action}

abbrev pub action_of : Step → Action
action_of (Erase b) = record { kind = 1; tag = 0; block = b.0; from = 0; page = 0; path = 0 }
action_of (PageWrite from to page) = record { kind = 2; tag = 0; block = to.0; from = from.0; page = page; path = 0 }
action_of (LabelWrite b tag path) = record { kind = 3; tag = tag; block = b.0; from = 0; page = 0; path = path }

-- any other kind is "a step outside the geometry"
unfoldable pub step_of : Action → Step
step_of a =
    if_eq a.kind 1 (Erase (block a.block))
    (if_eq a.kind 2 (PageWrite (block a.from) (block a.block) a.page)
    (if_eq a.kind 3 (LabelWrite (block a.block) a.tag a.path)
    (Erase (block 65536))))
