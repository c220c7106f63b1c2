use mathlib.Core.Path.{refl}
use Rattle.answer.proofs.Laws.{cored_by}
use Rattle.answer.proofs.show_all.Goals as goal

pub returns : goal.returns
returns c = cored_by _ _ _ c.show_in-ended.result c.show_in-ended.new.shown c.none-s.result c.show_in-ended.new.rows c.extents_of-extents.result c.extents_of-extents.ensures c.none-s.ensures c.show_in-ended.ensures.kept c.show_in-ended.ensures.shows c.show_in-ended.ensures.sized c.show_in-ended.ensures.room _
    (record {
      n = refl;
      records = refl;
      runs = refl;
      applied = refl;
      ignored = refl;
      all = refl;
      extents = refl;
      used = refl;
      erase = refl;
      insertion = c.from-insertion.ensures;
      said = c.from-said.ensures;
    })
