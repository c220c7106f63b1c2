-- The rows one after another, and the answer.
use Prim.Native.Nat.{ℕ, suc, ◌+◌, ◌≤◌, ◌<◌}
use mathlib.Core.Path.{◌≡◌, refl, sym, ap, ◌∙◌}
use mathlib.Core.Bool.{Bool, true, false, ◌&&◌}
use mathlib.Core.List.{List, [], ◌∷◌, ◌++◌, map, map-append, append_assoc}
use native.Mathlib.Omega.{arith}
use Rattle.std.proofs.lemmas.List.{get_or-map}
use native.Mathlib.Numerals.{add-one}
use lib.ListN.{length, get_or, set, take, drop, length-map}
use lib.Seq.{drop-cons, length-take-le, set-append_seam, take-suc}
use Rattle.base.specs.Choice.{if_true}
use Rattle.base.specs.Scan.{all_of}
use Rattle.base.proofs.Choices.{less_yes, less_no}
use Rattle.meaning.specs.declared.Geometry.{Geometry}
use Rattle.meaning.specs.declared.Plan.{Plan}
use Rattle.meaning.specs.declared.Refusal.{Refusal}
use Rattle.meaning.specs.declared.Refusal.TheVariants as refused
use Rattle.meaning.specs.Answer.{Answer, ok, no}
use Rattle.meaning.specs.Flash.{Labels, Lent, labels_of}
use Rattle.plan.specs.Select.{selected}
use Rattle.std.specs.Prelude.{Result, Ok, Err}
use Rattle.std.specs.List.{list_all}
use Rattle.direct.proofs.Begun.{place_is}
use Rattle.direct.specs.Begins.{stands, place_of, begins_of, begun, places_after}

pub all_same : {A : Type 0} (p : A → Bool) (xs : List A) → list_all p xs ≡ all_of p xs
unfolding all_of
all_same p [] = refl
all_same p (x ∷ xs) = ap (λ b. p x && b) (all_same p xs)

-- ---- the places

pub begins_at : (g : Geometry) (m : Labels) (rows : List (List ℕ)) (i : ℕ) {v : ℕ} → i < length rows → v ≡ place_of g m (get_or rows i []) → v ≡ get_or (begins_of g m rows) i 0
unfolding begins_of
begins_at g m rows i h e = e ∙ sym (get_or-map (place_of g m) rows i [] 0 h)

pub begins_long : (g : Geometry) (m : Labels) (rows : List (List ℕ)) → length (begins_of g m rows) ≡ length rows
unfolding begins_of
begins_long g m rows = length-map rows (place_of g m)

-- the first k places are those of the first k rows, the others are as they were
abbrev pub Stored : Geometry → Labels → List (List ℕ) → List ℕ → List ℕ → ℕ → Type 0
Stored g m rows old now k = now ≡ begins_of g m (take k rows) ++ drop k old

pub stored_none : (g : Geometry) (m : Labels) (old : List ℕ) → begins_of g m [] ++ old ≡ old
unfolding begins_of
stored_none g m old = refl

module _ (g : Geometry) (m : Labels) (rows : List (List ℕ)) (old : List ℕ) where
  module _ (k : ℕ) (h : k < length rows) (room : length rows ≤ length old) where
    abbrev A : List ℕ
    A = begins_of g m (take k rows)

    long : length A ≡ k
    long = begins_long g m (take k rows) ∙ length-take-le k rows (omega arith)

    pub stored_more : {now : List ℕ} {v : ℕ} → v ≡ place_of g m (get_or rows k []) → Stored g m rows old now k → Stored g m rows old (set now k v) (k + 1)
    unfolding begins_of
    stored_more {now} {v} f e =
        let some : k < length old = omega arith in
        let s : set (A ++ drop k old) k v ≡ A ++ (v ∷ drop (suc k) old) =
        ap (λ (ys : List ℕ). set (A ++ ys) k v) (drop-cons old k 0 some) ∙ ap (λ (j : ℕ). set (A ++ (get_or old k 0 ∷ drop (suc k) old)) j v) (sym long)
        ∙ set-append_seam A (get_or old k 0) (drop (suc k) old) v in
        let y : begins_of g m (take (k + 1) rows) ≡ A ++ (v ∷ []) =
        ap (λ (j : ℕ). map (place_of g m) (take j rows)) (add-one k) ∙ ap (map (place_of g m)) (take-suc rows k [] h)
        ∙ map-append (place_of g m) (take k rows) (get_or rows k [] ∷ []) ∙ ap (λ (w : ℕ). A ++ (w ∷ [])) (sym f) in
        ap (λ (ys : List ℕ). set ys k v) e ∙ s ∙ sym (append_assoc A (v ∷ []) (drop (suc k) old))
        ∙ ap (λ (ys : List ℕ). ys ++ drop (suc k) old) (sym y) ∙ ap (λ (j : ℕ). begins_of g m (take (k + 1) rows) ++ drop j old) (sym (add-one k))

pub ruleset stores = (stored_none, stored_more, place_is)

-- ---- the answer

module _ (g : Geometry) (l : Lent) (rows : List (List ℕ)) (places : List ℕ) where
  abbrev m : Labels
  m = labels_of l.tags l.paths

  abbrev a : Answer (List ℕ)
  a = begun g l rows (length places)

  after : {o : Answer (List ℕ)} → o ≡ a → elim o [ no r ↦ places | ok bs ↦ bs ++ drop (length rows) places ] ≡ places_after g l rows places
  unfolding places_after
  after e = ap (λ (o : Answer (List ℕ)). elim o [ no r ↦ places | ok bs ↦ bs ++ drop (length rows) places ]) e

  abbrev Says : Answer (List ℕ) → List ℕ → Type 0
  Says o last = (o ≡ a) × (last ≡ places_after g l rows places)

  says_no : {r : Refusal} → no r ≡ a → Says (no r) places
  says_no e = (e, after e)

  pub few_places : length places < length rows → Says (no refused.Geometry) places
  unfolding begun
  few_places h = says_no (sym (less_yes (length places) (length rows) _ _ h))

  module _ (enough : length rows ≤ length places) {s : Result Plan Refusal} (e : s ≡ selected g l) where
    abbrev by : Result Plan Refusal → Answer (List ℕ)
    by o = elim o [
      | Err r ↦ no r
      | Ok p ↦ if_true (all_of (stands g m) rows) (ok (begins_of g m rows)) (no refused.Geometry)
    ]

    chosen : by s ≡ a
    unfolding begun
    chosen = sym (less_no (length places) (length rows) _ _ enough ∙ ap by (sym e))

    pub by_labels : {r : Refusal} → s ≡ Err r → Says (no r) places
    by_labels h = says_no (sym (ap by h) ∙ chosen)

    module _ {p : Plan} (h : s ≡ Ok p) {u : Bool} (every : u ≡ list_all (stands g m) rows) where
      w : u ≡ all_of (stands g m) rows
      w = every ∙ all_same (stands g m) rows

      told : if_true u (ok (begins_of g m rows)) (no refused.Geometry) ≡ a
      told = ap (λ (v : Bool). if_true v (ok (begins_of g m rows)) (no refused.Geometry)) w ∙ sym (ap by h) ∙ chosen

      pub some_torn : u ≡ false → Says (no refused.Geometry) places
      unfolding if_true
      some_torn z = says_no (sym (ap (λ (v : Bool). if_true v (ok (begins_of g m rows)) (no refused.Geometry)) z) ∙ told)

      pub all_begun : u ≡ true → {last : List ℕ} → last ≡ begins_of g m rows ++ drop (length rows) places → Says (ok (begins_of g m rows)) last
      unfolding if_true
      all_begun z y =
          let t : ok (begins_of g m rows) ≡ a = sym (ap (λ (v : Bool). if_true v (ok (begins_of g m rows)) (no refused.Geometry)) z) ∙ told in
          (t, y ∙ after t)
