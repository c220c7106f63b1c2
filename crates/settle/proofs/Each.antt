-- Steps done one by one are the list done in order, and what a settle answers and leaves.
use Prim.Native.Nat.{ℕ, ◌+◌, ◌<◌}
use mathlib.Core.Path.{◌≡◌, refl, sym, ap, ◌∙◌}
use mathlib.Core.List.{List, [], ◌∷◌, ◌++◌, map-append}
use native.Mathlib.Numerals.{add-one}
use lib.ListN.{length, take, get_or}
use lib.Seq.{take-suc}
use Rattle.base.proofs.Tests.{zero_one}
use Rattle.meaning.specs.declared.Geometry.{Geometry}
use Rattle.meaning.specs.declared.Refusal.{Refusal}
use Rattle.meaning.specs.declared.Step.{Step}
use Rattle.meaning.specs.declared.Step.TheVariants.{Erase}
use Rattle.meaning.specs.Answer.{Answer, ok, no, and_then, block}
use Rattle.meaning.specs.Flash.{Lent}
use Rattle.meaning.specs.Mount.{Mounted, mount_of}
use Rattle.meaning.specs.Services.{do_step, do_steps, leaves, settle, settle_steps}
use Rattle.demand.proofs.Demand.{settle_runs}
use Rattle.step.specs.Done.{left, stepped}
use Rattle.shown.specs.declared.Shown.{Shown}
use Rattle.shown.specs.Shown as show
use Rattle.settle.specs.Settled.{each, steps_of}

-- ---- one step more

pub each_more : (g : Geometry) (l : Lent) (ss : List Step) (s : Step) → each g l (ss ++ (s ∷ [])) ≡ stepped g (each g l ss) s
unfolding each
each_more g l [] s = refl
each_more g l (t ∷ ss) s = each_more g (stepped g l t) ss s

next : {l₁ l₂ : Lent} (g : Geometry) (l : Lent) (ss : List Step) (s : Step) → l₁ ≡ each g l ss → l₂ ≡ stepped g l₁ s → l₂ ≡ each g l (ss ++ (s ∷ []))
next g l ss s e k = k ∙ ap (λ (x : Lent). stepped g x s) e ∙ sym (each_more g l ss s)

-- a loop over the steps: none yet, and one more
pub none_done : (g : Geometry) (l : Lent) → l ≡ each g l []
unfolding each
none_done g l = refl

pub next_done : {l₁ l₂ : Lent} (g : Geometry) (l : Lent) (ss : List Step) (i : ℕ) (d : Step) → i < length ss → l₁ ≡ each g l (take i ss)
    → l₂ ≡ stepped g l₁ (get_or ss i d) → l₂ ≡ each g l (take (i + 1) ss)
next_done g l ss i d h e k = rw (add-one i, take-suc ss i d h) (next g l (take i ss) (get_or ss i d) e k)

-- a loop over blocks that it erases: none yet, and one more
pub none_erased : (g : Geometry) (l : Lent) → l ≡ each g l (settle_steps [])
unfolding each settle_steps
none_erased g l = refl

pub next_erased : {l₁ l₂ : Lent} (g : Geometry) (l : Lent) (xs : List ℕ) (i : ℕ) → i < length xs → l₁ ≡ each g l (settle_steps (take i xs))
    → l₂ ≡ stepped g l₁ (Erase (block (get_or xs i 0))) → l₂ ≡ each g l (settle_steps (take (i + 1) xs))
unfolding settle_steps
next_erased g l xs i h e k =
    rw (add-one i, take-suc xs i 0 h, map-append (λ (n : ℕ). Erase (block n)) (take i xs) (get_or xs i 0 ∷ [])) (next g l _ (Erase (block (get_or xs i 0))) e k)

-- ---- where no step is refused

went : (o : Answer Lent) (k : Lent → Answer Lent) (l l' : Lent) → and_then o k ≡ ok l' → k (left l o) ≡ ok l'
unfolding and_then left
went (ok x) k l l' e = e
went (no r) k l l' e = let z : ◌≡◌ {A = ℕ} 0 1 = cc in absurd (zero_one z)

pub each_does : (g : Geometry) (l l' : Lent) (ss : List Step) → do_steps g l ss ≡ ok l' → each g l ss ≡ l'
unfolding each do_steps stepped
each_does g l l' [] e = cc
each_does g l l' (s ∷ ss) e = each_does g (stepped g l s) l' ss (went (do_step g l s) (λ x. do_steps g x ss) l l' e)

-- ---- what a settle answers and leaves

module _ (g : Geometry) (l : Lent) where
  -- the list of what a mount shows, or the mount's refusal
  pub listed : (s : Shown) (rows : List (List ℕ)) → ok (show.mounted s rows) ≡ mount_of g l → ok (steps_of s.erase) ≡ settle g l
  unfolding settle and_then
  listed s rows e = ap (λ (a : Answer Mounted). and_then a (λ m. ok (settle_steps m.erase))) e

  pub refused : (x : Refusal) → no x ≡ mount_of g l → no x ≡ settle g l
  unfolding settle and_then
  refused x e = ap (λ (a : Answer Mounted). and_then a (λ m. ok (settle_steps m.erase))) e

  -- the list done block by block is what a settle leaves
  pub settle_left : (ss : List Step) → ok ss ≡ settle g l → each g l ss ≡ leaves g l (settle g l)
  settle_left ss e = each_does g l _ _ (settle_runs g l _ (sym e))

  -- a refusal leaves all as it was
  pub none_left : (x : Refusal) (a : Answer (List Step)) → no x ≡ a → l ≡ leaves g l a
  unfolding leaves
  none_left x a e = rw (sym e)
