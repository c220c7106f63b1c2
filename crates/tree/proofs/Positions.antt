-- Records by rising path: what look, alter, insert and delete do at a position.
use Prim.Native.Nat.{ℕ, zero, suc, ◌+◌, ◌≤◌, ◌<◌, zero-le, suc-le-suc}
use mathlib.Core.Path.{◌≡◌, refl, ap, ◌∙◌}
use mathlib.Core.List.{List, [], ◌∷◌, map}
use mathlib.Core.Option.{none, some}
use native.Mathlib.Omega.{arith}
use native.Mathlib.Nat.{le_of_suc-le-suc}
use lib.ListN.{length, set, get_or}
use Rattle.base.proofs.Choices.{eq_yes, eq_no, less_yes, less_no}
use Rattle.meaning.specs.declared.Record.{Record}
use Rattle.meaning.specs.Replay.{look, alter, insert, delete}
use Rattle.tree.specs.Shift.{insert_at, remove_at}
use Rattle.tree.specs.Tree.{no_record, Rise}

abbrev pub path_at : List Record → ℕ → ℕ
path_at fs i = (get_or fs i no_record).path

lower : (p : ℕ) (f : Record) (fs : List Record) (i : ℕ) → ((a : ℕ) → a < suc i → path_at (f ∷ fs) a < p) → (a : ℕ) → a < i → path_at fs a < p
lower p f fs i h a l = h (suc a) (suc-le-suc l)

module _ (p : ℕ) where
  pub look_none : (fs : List Record) → ((a : ℕ) → a < length fs → path_at fs a ≡ p → ⊥) → look p fs ≡ none
  unfolding look
  look_none [] h = refl
  look_none (f ∷ fs) h = eq_no _ _ _ _ (h 0 (suc-le-suc zero-le)) ∙ look_none fs (λ a l. h (suc a) (suc-le-suc l))

  pub look_at : (fs : List Record) (i : ℕ) → i < length fs → path_at fs i ≡ p → ((a : ℕ) → a < i → path_at fs a < p) → look p fs ≡ some (get_or fs i no_record)
  unfolding look
  look_at [] i h e l = absurd (omega arith)
  look_at (f ∷ fs) zero h e l = eq_yes _ _ _ _ e
  look_at (f ∷ fs) (suc i) h e l =
      let g : f.path < p = l 0 (suc-le-suc zero-le) in
      eq_no _ _ _ _ (λ x. omega arith) ∙ look_at fs i (le_of_suc-le-suc h) e (lower p f fs i l)

  pub alter_at : (k : Record → Record) (fs : List Record) (i : ℕ) → i < length fs → path_at fs i ≡ p → ((a : ℕ) → a < i → path_at fs a < p)
      → alter p k fs ≡ set fs i (k (get_or fs i no_record))
  unfolding alter
  alter_at k [] i h e l = absurd (omega arith)
  alter_at k (f ∷ fs) zero h e l = eq_yes _ _ _ _ e
  alter_at k (f ∷ fs) (suc i) h e l =
      let g : f.path < p = l 0 (suc-le-suc zero-le) in
      eq_no _ _ _ _ (λ x. omega arith) ∙ ap (λ (t : List Record). f ∷ t) (alter_at k fs i (le_of_suc-le-suc h) e (lower p f fs i l))

  pub delete_at : (fs : List Record) (i : ℕ) → i < length fs → path_at fs i ≡ p → ((a : ℕ) → a < i → path_at fs a < p) → delete p fs ≡ remove_at i fs
  unfolding delete remove_at
  delete_at [] i h e l = absurd (omega arith)
  delete_at (f ∷ fs) zero h e l = eq_yes _ _ _ _ e
  delete_at (f ∷ fs) (suc i) h e l =
      let g : f.path < p = l 0 (suc-le-suc zero-le) in
      eq_no _ _ _ _ (λ x. omega arith) ∙ ap (λ (t : List Record). f ∷ t) (delete_at fs i (le_of_suc-le-suc h) e (lower p f fs i l))

pub insert_at_lem : (q : Record) (fs : List Record) (i : ℕ) → i ≤ length fs → ((a : ℕ) → a < i → path_at fs a < q.path)
    → ((a : ℕ) → i ≤ a → a < length fs → q.path < path_at fs a) → insert q fs ≡ insert_at i q fs
unfolding insert insert_at
insert_at_lem q [] zero h l u = refl
insert_at_lem q [] (suc i) h l u = absurd (omega arith)
insert_at_lem q (f ∷ fs) zero h l u = less_yes _ _ _ _ (u 0 zero-le (suc-le-suc zero-le))
insert_at_lem q (f ∷ fs) (suc i) h l u =
    let g : f.path < q.path = l 0 (suc-le-suc zero-le) in
    less_no _ _ _ _ (omega arith)
    ∙ ap (λ (t : List Record). f ∷ t) (insert_at_lem q fs i (le_of_suc-le-suc h) (lower q.path f fs i l) (λ a b c. u (suc a) (suc-le-suc b) (suc-le-suc c)))

-- ---- a map, and one element more or less

module _ {A B : Type 0} (f : A → B) where
  pub map_insert : (i : ℕ) (v : A) (xs : List A) → map f (insert_at i v xs) ≡ insert_at i (f v) (map f xs)
  unfolding insert_at
  map_insert zero v xs = refl
  map_insert (suc i) v [] = refl
  map_insert (suc i) v (x ∷ xs) = ap (λ (l : List B). f x ∷ l) (map_insert i v xs)

  pub map_remove : (i : ℕ) (xs : List A) → map f (remove_at i xs) ≡ remove_at i (map f xs)
  unfolding remove_at
  map_remove zero [] = refl
  map_remove zero (x ∷ xs) = refl
  map_remove (suc i) [] = refl
  map_remove (suc i) (x ∷ xs) = ap (λ (l : List B). f x ∷ l) (map_remove i xs)

  pub map_at : (xs : List A) (i : ℕ) (d : A) (e : B) → i < length xs → get_or (map f xs) i e ≡ f (get_or xs i d)
  map_at [] i d e h = absurd (omega arith)
  map_at (x ∷ xs) zero d e h = refl
  map_at (x ∷ xs) (suc i) d e h = map_at xs i d e (le_of_suc-le-suc h)

-- ---- rising paths

rise_less : (j k : ℕ) (ps : List ℕ) → j ≤ k → Rise k ps → Rise j ps
rise_less j k [] h r = tt
rise_less j k (p ∷ ps) h r = let g : k ≤ p = r.0 in (omega arith, r.1)

pub rise_insert : (k p : ℕ) (ps : List ℕ) (i : ℕ) → k ≤ p → ((a : ℕ) → a < i → get_or ps a 0 < p) → ((a : ℕ) → i ≤ a → a < length ps → p < get_or ps a 0)
    → Rise k ps → Rise k (insert_at i p ps)
unfolding insert_at
rise_insert k p [] zero h l u r = (h, tt)
rise_insert k p [] (suc i) h l u r = (h, tt)
rise_insert k p (x ∷ ps) zero h l u r = let g : p < x = u 0 zero-le (suc-le-suc zero-le) in (h, (omega arith, r.1))
rise_insert k p (x ∷ ps) (suc i) h l u r =
    let g : x < p = l 0 (suc-le-suc zero-le) in
    (r.0, rise_insert (x + 1) p ps i (omega arith) (λ a b. l (suc a) (suc-le-suc b)) (λ a b c. u (suc a) (suc-le-suc b) (suc-le-suc c)) r.1)

pub rise_remove : (k : ℕ) (ps : List ℕ) (i : ℕ) → Rise k ps → Rise k (remove_at i ps)
unfolding remove_at
rise_remove k [] zero r = tt
rise_remove k [] (suc i) r = tt
rise_remove k (x ∷ ps) zero r = let g : k ≤ x = r.0 in rise_less k (x + 1) ps (omega arith) r.1
rise_remove k (x ∷ ps) (suc i) r = (r.0, rise_remove (x + 1) ps i r.1)

rise_low : (k : ℕ) (ps : List ℕ) → Rise k ps → (b : ℕ) → b < length ps → k ≤ get_or ps b 0
rise_low k [] r b h = omega arith
rise_low k (x ∷ ps) r zero h = r.0
rise_low k (x ∷ ps) r (suc b) h = let g : x + 1 ≤ get_or ps b 0 = rise_low (x + 1) ps r.1 b (le_of_suc-le-suc h) in let l : k ≤ x = r.0 in omega arith

pub rise_strict : (k : ℕ) (ps : List ℕ) → Rise k ps → (a b : ℕ) → a < b → b < length ps → get_or ps a 0 < get_or ps b 0
rise_strict k [] r a b l h = omega arith
rise_strict k (x ∷ ps) r a zero l h = omega arith
rise_strict k (x ∷ ps) r zero (suc b) l h = omega (arith, rise_low (x + 1) ps r.1 b (le_of_suc-le-suc h))
rise_strict k (x ∷ ps) r (suc a) (suc b) l h = rise_strict (x + 1) ps r.1 a b (le_of_suc-le-suc l) (le_of_suc-le-suc h)
