use mathlib.Core.Path.{◌≡◌}
use mathlib.Core.List.{◌++◌, map}
use lib.ListN.{take, drop}
use Rattle.extent.specs.Rows.{extent_of}
use Rattle.meaning.specs.Flash.{image_of}
use Rattle.meaning.specs.Mount.{file_byte}
use Rattle.plan.specs.Select.{lent}
use Rattle.read.specs.Pieces.{stretch}
use Rattle.read.proofs.copy.Given as goal

abbrev pub invariant-loop-j : goal.invariant-loop-j
invariant-loop-j l = l.buffer ≡ stretch (file_byte l.flash.geometry (image_of l.flash.geometry (lent l.flash.tags.now l.flash.paths.now l.flash.contents.now))
    (map extent_of (take l.j l.xs)) l.path) l.x l.n ++ drop l.n l.initial.buffer
