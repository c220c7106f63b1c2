-- What steps leave that are not cut: the erases of a settle, and the steps of a reclaim before its label write.
use mathlib.Core.Path.{◌≡◌, refl, sym, ap, ◌∙◌, subst}
use mathlib.Core.Logic.{◌≢◌, ◌⊎◌, inl, inr, ⊎_elim}
use mathlib.Core.Bool.{Bool, true, false}
use mathlib.Core.List.{List, [], ◌∷◌, ◌++◌, map}
use Prim.Native.Nat.{ℕ, zero, suc, ◌*◌, ◌<◌}
use lib.Dec.{T}
use lib.ListN.{take, drop, replicate}
use Rattle.meaning.specs.declared.Geometry.{Geometry}
use Rattle.meaning.specs.declared.Extent.{Extent}
use Rattle.meaning.specs.declared.Step.{Step}
use Rattle.meaning.specs.declared.Step.TheVariants.{PageWrite}
use Rattle.base.specs.Scan.{all_of, places}
use Rattle.base.specs.Member.{In}
use Rattle.base.proofs.Tests.{T-yes, is_true, not_both, and_l, and_r, and_i, eq_or}
use Rattle.base.proofs.Scans.{Below, places_in, in_places, places_below}
use Rattle.base.proofs.Choices.{all_true}
use Rattle.meaning.specs.Answer.{block}
use Rattle.meaning.specs.Flash.{Lent, Image, image_of, block_size, page_of, blank}
use Rattle.meaning.specs.Mount.{used, used_pages}
use Rattle.meaning.specs.Services.{done, done_all, erased, settle_steps, writable, cleared}
use Rattle.meaning.specs.Cut.{Erased, Kept}
use Rattle.demand.proofs.Blocks.{Fits, Changed, changed_none, kept_twice, changed_twice, erase_changed, erase_erased, page_at, write_changed, write_page, write_else}
use Rattle.demand.proofs.Cuts.{run_append}

in_dec : (i : ℕ) (xs : List ℕ) → In i xs ⊎ (In i xs → ⊥)
in_dec i [] = inr (λ x. x)
in_dec i (x ∷ xs) = ⊎_elim (λ e. inl (inl e))
    (λ f. ⊎_elim (λ h. inl (inr h)) (λ n. inr (λ u. ⊎_elim (λ e. f e) (λ h. n h) u)) (in_dec i xs))
    (eq_or i x)

-- ---- erases

erased_still : (g : Geometry) (l l' : Lent) (i : ℕ) → Erased g l i → Kept g l l' i → Erased g l' i
erased_still g l l' i e k = (k.0 ∙ e.0, k.1 ∙ e.1, k.2 ∙ e.2)

-- the listed blocks are erased, the others as they were
pub erases : (g : Geometry) (is : List ℕ) → Below g.blocks is → (l : Lent) → Fits g l → (i : ℕ)
    → (In i is → Erased g (done_all g l (settle_steps is)) i) × ((In i is → ⊥) → Kept g l (done_all g l (settle_steps is)) i)
unfolding settle_steps done_all done
erases g [] b l f i = (λ (h : ⊥). absurd h, λ n. (refl, refl, refl))
erases g (x ∷ is) b l f i =
    let c : Changed g l (erased g l x) x = erase_changed g l f x b.0 in
    let here : i ≡ x → Erased g (erased g l x) i = λ e. subst (Erased g (erased g l x)) (sym e) (erase_erased g l f x b.0) in
    let rest = erases g is b.1 (erased g l x) c.fit i in (
      λ h. ⊎_elim rest.0 (λ n. ⊎_elim (λ e. erased_still g _ _ i (here e) (rest.1 n)) (λ k. absurd (n k)) h) (in_dec i is),
      λ n. kept_twice g l _ _ i (c.kept i (λ e. n (inl e))) (rest.1 (λ k. n (inr k))),
    )

-- ---- page writes

module _ (g : Geometry) (old new : ℕ) (ne : old ≢ new) (ho : old < g.blocks) (hn : new < g.blocks) where
  -- of l into l': the listed pages of the new block are the old block's, the others as they were
  record Copied (ps : List ℕ) (l l' : Lent) : Type 0 where
    changed : Changed g l l' new
    taken : (q : ℕ) → q < g.pages → In q ps → page_at g l' new q ≡ page_at g l old q
    left : (q : ℕ) → q < g.pages → (In q ps → ⊥) → page_at g l' new q ≡ page_at g l new q

  copies : (ps : List ℕ) → Below g.pages ps → (l : Lent) → Fits g l → Copied ps l (done_all g l (map (PageWrite (block old) (block new)) ps))
  unfolding done_all done
  copies [] b l f = record { changed = changed_none g l new f; taken = λ q h (i : ⊥). absurd i; left = λ q h n. refl }
  copies (p ∷ ps) b l f =
      let l₁ : Lent = done g l (PageWrite (block old) (block new) p) in
      let c : Changed g l l₁ new = write_changed g l f old new p ho hn b.0 in
      let here : (q : ℕ) → q ≡ p → page_at g l₁ new q ≡ page_at g l old q = λ q e. rw e (write_page g l f old new p ho hn b.0) in
      let rest = copies ps b.1 l₁ c.fit in
      record {
        changed = changed_twice g l _ _ new c rest.changed;
        taken = λ q h i. ⊎_elim
            (λ k. rest.taken q h k ∙ ap (λ (x : List ℕ). page_of g x q) (c.kept old ne).2)
            (λ n. rest.left q h n ∙ ⊎_elim (here q) (λ k. absurd (n k)) i)
            (in_dec q ps);
        left = λ q h n. rest.left q h (λ k. n (inr k)) ∙ write_else g l f old new p ho hn b.0 q h (λ e. n (inl e));
      }

-- ---- blank bytes

all_take : (q : ℕ → Bool) (n : ℕ) (xs : List ℕ) → T (all_of q xs) → T (all_of q (take n xs))
unfolding all_of
all_take q zero xs t = tt
all_take q (suc n) [] t = tt
all_take q (suc n) (x ∷ xs) t = and_i (q x) _ (and_l (q x) _ t) (all_take q n xs (and_r (q x) _ t))

all_drop : (q : ℕ → Bool) (n : ℕ) (xs : List ℕ) → T (all_of q xs) → T (all_of q (drop n xs))
unfolding all_of
all_drop q zero xs t = t
all_drop q (suc n) [] t = t
all_drop q (suc n) (x ∷ xs) t = all_drop q n xs (and_r (q x) _ t)

blank_page_lem : (g : Geometry) (b : List ℕ) (p : ℕ) → T (blank b) → T (blank (page_of g b p))
unfolding blank page_of
blank_page_lem g b p t = all_take _ g.size (drop (p * g.size) b) (all_drop _ (p * g.size) b t)

blank_erased : (n : ℕ) → T (blank (replicate n 0xff))
unfolding blank all_of
blank_erased zero = tt
blank_erased (suc n) = blank_erased n

-- ---- a reclaim before its label write

unfoldable pub prepares : Geometry → Image → List Extent → ℕ → ℕ → ℕ → List Step
prepares g m xs d old new = cleared m new ++ map (PageWrite (block old) (block new)) (used_pages g xs d)

-- the target is blank, erased or not
clears : (g : Geometry) (l : Lent) → Fits g l → (new : ℕ) → new < g.blocks
    → let l' : Lent = done_all g l (cleared (image_of g l) new) in Changed g l l' new × T (blank ((image_of g l').bytes new))
unfolding cleared done_all done writable
clears g l f new h =
    all_true (λ (ss : List Step). Changed g l (done_all g l ss) new × T (blank ((image_of g (done_all g l ss)).bytes new)))
    (writable (image_of g l) new) [] _
    (λ e. (changed_none g l new f, T-yes (blank ((image_of g l).bytes new)) e))
    (λ e. (erase_changed g l f new h, rw (erase_erased g l f new h).2 (blank_erased (block_size g))))

-- the target has the used pages of the old block, and no other
pub record Prepared (g : Geometry) (l l' : Lent) (xs : List Extent) (d old new : ℕ) : Type 0 where
  pub changed : Changed g l l' new
  pub live : (p : ℕ) → p < g.pages → used g xs d p ≡ true → page_at g l' new p ≡ page_at g l old p
  pub dead : (p : ℕ) → p < g.pages → used g xs d p ≡ false → blank (page_at g l' new p) ≡ true

pub prepared : (g : Geometry) (l : Lent) → Fits g l → (xs : List Extent) (d old new : ℕ) → old ≢ new → old < g.blocks → new < g.blocks
    → Prepared g l (done_all g l (prepares g (image_of g l) xs d old new)) xs d old new
unfolding prepares used_pages
prepared g l f xs d old new ne ho hn =
    let q : ℕ → Bool = used g xs d in
    let ps : List ℕ = places g.pages q in
    let c = clears g l f new hn in
    let l₀ : Lent = done_all g l (cleared (image_of g l) new) in
    let w = copies g old new ne ho hn ps (places_below g.pages q) l₀ c.0.fit in
    rw (run_append g (cleared (image_of g l) new) (map (PageWrite (block old) (block new)) ps) l) (record {
      changed = changed_twice g l l₀ _ new c.0 w.changed;
      live = λ p h u. w.taken p h (places_in g.pages q p h (T-yes (q p) u)) ∙ ap (λ (x : List ℕ). page_of g x p) (c.0.kept old ne).2;
      dead = λ p h u. ap blank (w.left p h (λ i. not_both (q p) u (in_places g.pages q p i)))
          ∙ is_true _ (blank_page_lem g ((image_of g l₀).bytes new) p c.1);
    })
