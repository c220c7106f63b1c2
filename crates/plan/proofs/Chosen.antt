-- The order of the refusals: each is given where those before it are not, and the plan where none is.
use Prim.Native.Nat.{ℕ}
use mathlib.Core.Bool.{Bool, true, false}
use mathlib.Core.List.{List}
use mathlib.Core.Option.{none, some}
use mathlib.Core.Option as maybe
use Rattle.std.specs.Prelude.{Option, Some, None, Ok, Err}
use mathlib.Core.Path.{◌≡◌, ap, ◌∙◌}
use lib.ListN.{length}
use borrow.Author.Tests.{not-true, not-false}
use Rattle.base.specs.Choice.{if_true, on_some, or_else, provided}
use Rattle.base.specs.Scan.{first}
use Rattle.meaning.specs.declared.Block.{Block}
use Rattle.meaning.specs.declared.Geometry.{Geometry}
use Rattle.meaning.specs.declared.Plan.{Plan}
use Rattle.meaning.specs.declared.Refusal.{Refusal}
use Rattle.meaning.specs.declared.Refusal.TheVariants as refused
use Rattle.meaning.specs.declared.Tag.TheVariants as means
use Rattle.meaning.specs.Answer.{lowest, unless}
use Rattle.meaning.specs.Flash.{Labels, bad_path, bad_tag, fits, labels_of}
use Rattle.meaning.specs.Labels.{bad_log, boot_gap, label_refusal, log_plan, unresolved, view}
use Rattle.label.specs.Search.{found}
use Rattle.label.proofs.Answered.{at_some, nothing_none}
use Rattle.plan.specs.Select.{chosen, judged, lent, selected}

here : {r : Refusal} (a b : maybe.Option Refusal) → a ≡ some r → or_else a b ≡ some r
unfolding or_else
here a b e = rw e

on : (a b : maybe.Option Refusal) → a ≡ none → or_else a b ≡ b
unfolding or_else
on a b e = rw e

-- x is the code's answer where a block fails p
module _ {x : Option Block} (r : Block → Refusal) (n : ℕ) (p : ℕ → Bool) (e : x ≡ found (first n p)) where
  lowest_at : {b : Block} → x ≡ Some b → lowest r n p ≡ some (r b)
  unfolding lowest on_some
  lowest_at f = rw (at_some _ e f)

  lowest_no : x ≡ None → lowest r n p ≡ none
  unfolding lowest on_some
  lowest_no f = rw (nothing_none _ e f)

module _ {v : Bool} (b : Bool) (r : Refusal) (e : v ≡ b) where
  given : v ≡ true → provided b r ≡ some r
  unfolding provided
  given f = rw (← e, f)

  passed : v ≡ false → provided b r ≡ none
  unfolding provided
  passed f = rw (← e, f)

module _ {u : Bool} (g : Geometry) (tags paths contents : List ℕ) (e : u ≡ fits g (lent tags paths contents)) where
  abbrev n : ℕ
  n = length tags

  abbrev m : Labels
  m = labels_of tags paths

  pub chosen_geometry : u ≡ false → Err refused.Geometry ≡ selected g (lent tags paths contents)
  unfolding selected chosen if_true
  chosen_geometry f = rw (← e, f)

  module _ (f : u ≡ true) where
    refuses : (r : Refusal) → label_refusal n m ≡ some r → Err r ≡ selected g (lent tags paths contents)
    unfolding selected chosen if_true judged unless
    refuses r h = rw (← e, f, h)

    plans : label_refusal n m ≡ none → Ok (log_plan n m) ≡ selected g (lent tags paths contents)
    unfolding selected chosen if_true judged unless
    plans h = rw (← e, f, h)

    module _ {x : Option Block} (ex : x ≡ found (first n (λ i. bad_tag (m.tag i)))) where
      pub chosen_tag : {b : Block} → x ≡ Some b → Err (refused.Tag b) ≡ selected g (lent tags paths contents)
      unfolding label_refusal
      chosen_tag h = refuses _ (here _ _ (lowest_at refused.Tag n _ ex h))

      module _ (hx : x ≡ None) {y : Option Block} (ey : y ≡ found (first n (λ i. bad_path (m.tag i) (m.path i)))) where
        pub chosen_path : {b : Block} → y ≡ Some b → Err (refused.Path b) ≡ selected g (lent tags paths contents)
        unfolding label_refusal
        chosen_path h = refuses _ (on _ _ (lowest_no refused.Tag n _ ex hx) ∙ here _ _ (lowest_at refused.Path n _ ey h))

        module _ (hy : y ≡ None) {z : Option Block} (ez : z ≡ found (first n (unresolved n m))) where
          pub chosen_copies : {b : Block} → z ≡ Some b → Err (refused.Copies b) ≡ selected g (lent tags paths contents)
          unfolding label_refusal
          chosen_copies h = refuses _ (on _ _ (lowest_no refused.Tag n _ ex hx) ∙ on _ _ (lowest_no refused.Path n _ ey hy) ∙ here _ _ (lowest_at refused.Copies n _ ez h))

          module _ (hz : z ≡ None) {w : Bool} (ew : w ≡ boot_gap n (view n m means.Boot)) where
            places_fine : label_refusal n m
                ≡ or_else (provided (boot_gap n (view n m means.Boot)) refused.Boot) (provided (bad_log n (view n m means.Log) (log_plan n m)) refused.Log)
            unfolding label_refusal
            places_fine = on _ _ (lowest_no refused.Tag n _ ex hx) ∙ on _ _ (lowest_no refused.Path n _ ey hy) ∙ on _ _ (lowest_no refused.Copies n _ ez hz)

            pub chosen_boot : w ≡ true → Err refused.Boot ≡ selected g (lent tags paths contents)
            chosen_boot h = refuses _ (places_fine ∙ here _ _ (given _ _ ew h))

            module _ (hw : w ≡ false) {p : Plan} {k : Bool} (ep : p ≡ log_plan n m) (ek : k ≡ bad_log n (view n m means.Log) p) where
              log_is : k ≡ bad_log n (view n m means.Log) (log_plan n m)
              log_is = ek ∙ ap (bad_log n (view n m means.Log)) ep

              pub chosen_log : k ≡ true → Err refused.Log ≡ selected g (lent tags paths contents)
              chosen_log h = refuses _ (places_fine ∙ on _ _ (passed _ _ ew hw) ∙ given _ _ log_is h)

              pub chosen_plan : k ≡ false → Ok p ≡ selected g (lent tags paths contents)
              chosen_plan h = ap Ok ep ∙ plans (places_fine ∙ on _ _ (passed _ _ ew hw) ∙ passed _ _ log_is h)

pub ruleset chooses = (chosen_geometry, chosen_tag, chosen_path, chosen_copies, chosen_boot, chosen_log, chosen_plan, not-true, not-false)
