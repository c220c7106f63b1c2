-- Steps, whole and torn: each changes the block under work and no other. Lists of steps, whole and cut.
use mathlib.Core.Path.{◌≡◌, refl, sym, ap, ◌∙◌, subst}
use mathlib.Core.Logic.{◌⊎◌, inl, inr, ⊎_elim}
use mathlib.Core.Bool.{Bool, ◌&&◌}
use mathlib.Core.List.{List, [], ◌∷◌, ◌++◌, map}
use Prim.Native.Nat.{ℕ, ◌<◌}
use lib.ListN.{get_or}
use lib.Dec.{T, ltb→lt}
use Rattle.meaning.specs.declared.Geometry.{Geometry}
use Rattle.meaning.specs.declared.Step.{Step}
use Rattle.meaning.specs.declared.Step.TheVariants.{Erase, PageWrite, LabelWrite}
use Rattle.meaning.specs.declared.Tag.TheVariants.{Free}
use Rattle.base.specs.Member.{All}
use Rattle.base.proofs.Tests.{and_i, eq_or, tests}
use Rattle.base.proofs.Lists.{all_map}
use Rattle.base.proofs.Choices.{if_yes}
use Rattle.meaning.specs.Answer.{Answer, ok, and_then}
use Rattle.meaning.specs.Flash.{Lent, Image, image_of, labels_of, fits, tag_of, byte_of}
use Rattle.meaning.specs.Services.{overwrite, relabel, done, done_all, do_step, do_steps, inside}
use Rattle.meaning.specs.Cut.{Spoilt, Torn, Cut}
use Rattle.survival.proofs.Live.{read_back, Damaged}
use Rattle.demand.proofs.Blocks.{Fits, →fits, Changed, changed_twice, relabel_changed, new_label, spoilt_changed, erase_changed, erase_erased, write_changed}

-- ---- one step

-- the block under work
abbrev pub under : Step → ℕ
under (Erase b) = b.0
under (PageWrite from to p) = to.0
under (LabelWrite b tag path) = b.0

-- a label is as it was, or free
abbrev Loose : Lent → Lent → ℕ → Type 0
Loose l l' i =
    ((get_or l'.tags i 0 ≡ get_or l.tags i 0) × (get_or l'.paths i 0 ≡ get_or l.paths i 0)) ⊎ (get_or l'.tags i 0 ≡ byte_of Free)

pub step_changed : (g : Geometry) (l : Lent) → Fits g l → (s : Step) → T (inside g s) → Changed g l (done g l s) (under s)
unfolding done inside
step_changed g l f (Erase b) t = erase_changed g l f b.0 (ltb→lt _ _ t)
step_changed g l f (PageWrite from to p) t = write_changed g l f from.0 to.0 p (search tests) (search tests) (search tests)
step_changed g l f (LabelWrite b tag path) t = relabel_changed g l f b.0 tag path

spoilt : (g : Geometry) (l : Lent) → Fits g l → (i : ℕ) → i < g.blocks → (l' : Lent) → Spoilt g l i l'
    → Changed g l l' i × (get_or l'.tags i 0 ≡ get_or l.tags i 0) × (get_or l'.paths i 0 ≡ get_or l.paths i 0)
unfolding overwrite
spoilt g l f i h l' s = rw s.2 (spoilt_changed g l f i h s.0 s.1, refl, refl)

as_it_was : (g : Geometry) (l : Lent) → Fits g l → (i : ℕ) → i < g.blocks → (l' : Lent) → Spoilt g l i l' → Changed g l l' i × Loose l l' i
as_it_was g l f i h l' s = let c = spoilt g l f i h l' s in (c.0, inl (c.1, c.2))

freed : (g : Geometry) (l : Lent) → Fits g l → (i : ℕ) → i < g.blocks → (path : ℕ) (l' : Lent) → Spoilt g (relabel l i (byte_of Free) path) i l'
    → Changed g l l' i × Loose l l' i
freed g l f i h path l' s =
    let r : Changed g l (relabel l i (byte_of Free) path) i = relabel_changed g l f i (byte_of Free) path in
    let c = spoilt g _ r.fit i h l' s in
    (changed_twice g l _ l' i r c.0, inr (c.1 ∙ (new_label g l f i (byte_of Free) path h).0))

torn_changed : (g : Geometry) (l : Lent) → Fits g l → (s : Step) → T (inside g s) → (l' : Lent) → Torn g l s l'
    → Changed g l l' (under s) × Loose l l' (under s)
unfolding inside
torn_changed g l f (Erase b) t l' (inl s) = as_it_was g l f b.0 (ltb→lt _ _ t) l' s
torn_changed g l f (Erase b) t l' (inr s) = freed g l f b.0 (ltb→lt _ _ t) s.0 l' s.1
torn_changed g l f (PageWrite from to p) t l' s = as_it_was g l f to.0 (search tests) l' s
torn_changed g l f (LabelWrite b tag path) t l' s = absurd s

-- ---- a list of steps

abbrev pub Inside : Geometry → List Step → Type 0
Inside g ss = All (λ (s : Step). T (inside g s)) ss

-- each step called by itself
pub runs : (g : Geometry) (ss : List Step) → Inside g ss → (l : Lent) → Fits g l → do_steps g l ss ≡ ok (done_all g l ss)
unfolding do_steps done_all do_step and_then
runs g [] h l f = refl
runs g (s ∷ ss) h l f =
    ap (λ (o : Answer Lent). and_then o (λ l'. do_steps g l' ss))
    (if_yes (fits g l && inside g s) _ _ (and_i (fits g l) (inside g s) (→fits g l f) h.0))
    ∙ runs g ss h.1 (done g l s) (step_changed g l f s h.0).fit

-- a run that is not cut
pub whole_cut : (g : Geometry) (ss : List Step) (l : Lent) → Cut g ss l (done_all g l ss)
unfolding done_all
whole_cut g [] l = refl
whole_cut g (s ∷ ss) l = inr (inr (whole_cut g ss (done g l s)))

pub run_append : (g : Geometry) (xs ys : List Step) (l : Lent) → done_all g l (xs ++ ys) ≡ done_all g (done_all g l xs) ys
unfolding done_all
run_append g [] ys l = refl
run_append g (x ∷ xs) ys l = run_append g xs ys (done g l x)

pub cut_append : (g : Geometry) (xs ys : List Step) (l l' : Lent) → Cut g (xs ++ ys) l l' → Cut g xs l l' ⊎ Cut g ys (done_all g l xs) l'
unfolding done_all
cut_append g [] ys l l' c = inr c
cut_append g (x ∷ xs) ys l l' (inl e) = inl (inl e)
cut_append g (x ∷ xs) ys l l' (inr (inl t)) = inl (inr (inl t))
cut_append g (x ∷ xs) ys l l' (inr (inr c)) = ⊎_elim (λ d. inl (inr (inr d))) (λ d. inr d) (cut_append g xs ys (done g l x) l' c)

-- ---- steps that write no label, on blocks of E

abbrev pub Spends : Geometry → (ℕ → Bool) → Step → Type 0
Spends g E (Erase b) = T (inside g (Erase b)) × T (E b.0)
Spends g E (PageWrite from to p) = T (inside g (PageWrite from to p)) × T (E to.0)
Spends g E (LabelWrite b tag path) = ⊥

spends→ : (g : Geometry) (E : ℕ → Bool) (s : Step) → Spends g E s → T (inside g s) × T (E (under s))
spends→ g E (Erase b) w = w
spends→ g E (PageWrite from to p) w = w
spends→ g E (LabelWrite b tag path) w = absurd w

pub spends_inside : (g : Geometry) (E : ℕ → Bool) (ss : List Step) → All (Spends g E) ss → Inside g ss
spends_inside g E ss w = all_map (Spends g E) _ ss (λ s h. (spends→ g E s h).0) w

pub mapped : {A B : Type 0} (P : B → Type 0) (f : A → B) (xs : List A) → All (λ (x : A). P (f x)) xs → All P (map f xs)
mapped P f [] h = tt
mapped P f (x ∷ xs) h = (h.0, mapped P f xs h.1)

pub untouched : (E : ℕ → Bool) (m : Image) → Damaged E m m
untouched E m = record { kept = λ i f. (refl, refl, refl); loose = λ i t. inl (refl, refl) }

module _ (g : Geometry) (E : ℕ → Bool) (m : Image) where
  -- one more block of E has been under work
  worn : (l l' : Lent) (i : ℕ) → T (E i) → Damaged E m (image_of g l) → Changed g l l' i → Loose l l' i → Damaged E m (image_of g l')
  unfolding image_of labels_of
  worn l l' i t d c o =
      let any : (j : ℕ) → Loose l l' j = λ j. ⊎_elim (λ q. subst (Loose l l') (sym q) o) (λ ne. inl ((c.kept j ne).0, (c.kept j ne).1)) (eq_or j i) in
      record {
        kept = λ j f.
            let k = d.kept j f in
            let e = c.kept j (λ q. f (subst (λ (x : ℕ). T (E x)) (sym q) t)) in
            (ap tag_of e.0 ∙ k.0, e.1 ∙ k.1, e.2 ∙ k.2);
        loose = λ j u. ⊎_elim
            (λ e. ⊎_elim (λ k. inl (ap tag_of e.0 ∙ k.0, e.1 ∙ k.1)) (λ k. inr (ap tag_of e.0 ∙ k)) (d.loose j u))
            (λ e. inr (ap tag_of e ∙ read_back Free))
            (any j);
      }

  step_loose : (s : Step) → Spends g E s → (l : Lent) → Fits g l → Loose l (done g l s) (under s)
  unfolding done inside overwrite
  step_loose (Erase b) w l f = inr (erase_erased g l f b.0 (ltb→lt _ _ w.0)).0
  step_loose (PageWrite from to p) w l f = inl (refl, refl)
  step_loose (LabelWrite b tag path) w l f = absurd w

  -- such steps, cut anywhere
  pub spent : (ss : List Step) → All (Spends g E) ss → (l l' : Lent) → Fits g l → Damaged E m (image_of g l) → Cut g ss l l'
      → Fits g l' × Damaged E m (image_of g l')
  spent [] w l l' f d c = rw c (f, d)
  spent (s ∷ ss) w l l' f d (inl e) = rw e (f, d)
  spent (s ∷ ss) w l l' f d (inr (inl t)) =
      let i = spends→ g E s w.0 in
      let c = torn_changed g l f s i.0 l' t in
      (c.0.fit, worn l l' (under s) i.1 d c.0 c.1)
  spent (s ∷ ss) w l l' f d (inr (inr r)) =
      let i = spends→ g E s w.0 in
      let c : Changed g l (done g l s) (under s) = step_changed g l f s i.0 in
      spent ss w.1 (done g l s) l' c.fit (worn l (done g l s) (under s) i.1 d c (step_loose s w.0 l f)) r
