-- The verdict on a message, by the record that was found.
use mathlib.Core.Path.{◌≡◌, refl, sym, ◌∙◌}
use mathlib.Core.Bool.{Bool, true, false, not, xor, beq}
use mathlib.Core.Option.{Option, none, some}
use mathlib.Core.List.{List}
use Prim.Native.Nat.{ℕ}
use Rattle.base.specs.Choice.{if_true, on_some, is_some}
use Rattle.meaning.specs.declared.Place.{Place}
use Rattle.meaning.specs.declared.Record.{Record}
use Rattle.meaning.specs.declared.Extent.{Extent}
use Rattle.meaning.specs.declared.Message.TheVariants.{Create, Remove, Truncate, Write, Wstat}
use Rattle.meaning.specs.declared.Verdict.TheVariants.{Applied, NoParent, PathTaken, NoFile, NotEmpty}
use Rattle.base.proofs.Ways.{holds, fails, no=}
use Rattle.meaning.specs.Replay.{is_dir, look, is_empty, judge}
use Rattle.tree.specs.Judge.{judge_create, judge_remove, judge_truncate, judge_write, judge_wstat}

pub differ : (a b : Bool) → not (beq a b) ≡ xor a b
unfolding xor
differ true true = refl
differ true false = refl
differ false true = refl
differ false false = refl

pub not_emptied : (path : ℕ) (f : Record) (empty : Bool) → (path ≡ 0 → ⊥) → is_dir f ≡ true → empty ≡ false → judge_remove path f empty ≡ NotEmpty
unfolding judge_remove
not_emptied path f empty p d e = sym (no= _ _ _ _ p (holds _ _ _ d (fails _ _ _ e refl)))

on_there : {A B : Type 0} (o : Option A) (x : A) (z : B) (k : A → B) → o ≡ some x → on_some o z k ≡ k x
unfolding on_some
on_there o x z k e = rw e

on_absent : {A B : Type 0} (o : Option A) (z : B) (k : A → B) → o ≡ none → on_some o z k ≡ z
unfolding on_some
on_absent o z k e = rw e

taken_so : (o : Option Record) → on_some o Applied (λ f. PathTaken) ≡ if_true (is_some o) PathTaken Applied
unfolding on_some is_some if_true
taken_so none = refl
taken_so (some f) = refl

module _ (fs : List Record) where
  module _ (parent perm path mtime cvers : ℕ) (name uid gid : Place) where
    pub created_there : (d : Record) → look parent fs ≡ some d → judge (Create parent perm path mtime cvers name uid gid) fs ≡ judge_create d (is_some (look path fs))
    unfolding judge judge_create
    created_there d e = on_there _ d _ _ e ∙ rw (taken_so (look path fs))

    pub created_absent : look parent fs ≡ none → judge (Create parent perm path mtime cvers name uid gid) fs ≡ NoParent
    unfolding judge
    created_absent e = on_absent _ _ _ e

  module _ (path mtime : ℕ) (muid : Place) where
    pub removed_there : (f : Record) → look path fs ≡ some f → judge (Remove path muid mtime) fs ≡ judge_remove path f (is_empty path fs)
    unfolding judge judge_remove
    removed_there f e = on_there _ f _ _ e

    pub removed_absent : look path fs ≡ none → judge (Remove path muid mtime) fs ≡ NoFile
    unfolding judge
    removed_absent e = on_absent _ _ _ e

  module _ (path mtime cvers : ℕ) (muid : Place) where
    pub truncated_there : (f : Record) → look path fs ≡ some f → judge (Truncate path mtime cvers muid) fs ≡ judge_truncate f
    unfolding judge judge_truncate
    truncated_there f e = on_there _ f _ _ e

    pub truncated_absent : look path fs ≡ none → judge (Truncate path mtime cvers muid) fs ≡ NoFile
    unfolding judge
    truncated_absent e = on_absent _ _ _ e

  module _ (run : Extent) (mtime cvers : ℕ) (muid : Place) where
    pub written_there : (f : Record) → look run.path fs ≡ some f → judge (Write run mtime muid cvers) fs ≡ judge_write f cvers
    unfolding judge judge_write
    written_there f e = on_there _ f _ _ e

    pub written_absent : look run.path fs ≡ none → judge (Write run mtime muid cvers) fs ≡ NoFile
    unfolding judge
    written_absent e = on_absent _ _ _ e

  module _ (path : ℕ) (name : Place) (perm : ℕ) (uid gid : Place) (mtime : ℕ) (muid : Place) where
    pub restated_there : (f : Record) → look path fs ≡ some f → judge (Wstat path name uid gid muid perm mtime) fs ≡ judge_wstat path f name perm
    unfolding judge judge_wstat
    restated_there f e = on_there _ f _ _ e

    pub restated_absent : look path fs ≡ none → judge (Wstat path name uid gid muid perm mtime) fs ≡ NoFile
    unfolding judge
    restated_absent e = on_absent _ _ _ e
