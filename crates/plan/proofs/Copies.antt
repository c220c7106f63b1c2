-- Whether the copies of a block resolve, by the first three places of its tag and r: none or one is fine, three are not, and two are
-- where one follows the other.
use Prim.Native.Nat.{ℕ, ◌+◌, ◌≤◌, ◌<◌}
use native.Mathlib.Omega.{arith}
use mathlib.Core.Bool.{Bool, true, false, not, ◌&&◌, ◌||◌}
use mathlib.Core.Option.{none, some}
use Rattle.std.specs.Prelude as answer
use Rattle.std.specs.Prelude.{Some, None}
use mathlib.Core.Path.{◌≡◌, sym, ap, ◌∙◌, subst}
use mathlib.Core.Logic.{◌≢◌, ◌⊎◌, inl, inr, ⊎_elim}
use lib.Dec.{T, eqb, eqb→eq}
use Rattle.base.specs.Scan.{any, first}
use Rattle.base.proofs.Tests.{T-yes, is_true, is_false, not_both, T-not→, →T_not, T-ext, T-dec, and_l, and_r, and_i, or_l, or_r, or_cases, eqb_of, →not_eqb, eq_or, lt_or, tests, makes}
use Rattle.base.proofs.Scans.{Found, any_intro, any_elim, first_none, first_some}
use Rattle.meaning.specs.declared.Block.{Block}
use denote.Enum.Bare.{sameb}
use Rattle.meaning.specs.contracts.Tag.{the_type}
use Rattle.label.proofs.Said.{same_tags}
use Rattle.meaning.specs.declared.Tag.{Tag}
use Rattle.meaning.specs.declared.Tag.TheVariants.{Free}
use Rattle.meaning.specs.Flash.{Labels, byte_of, copy_of, follows, r_of, same_tag, successor}
use Rattle.meaning.specs.Labels.{clash, newer, same_block, unresolved}
use Rattle.label.specs.Search.{bears, found}
use Rattle.label.proofs.Answered.{at_some, nothing_none}
use Rattle.plan.specs.Ask.{apart, bearer}

module _ (m : Labels) where
  abbrev Same : ℕ → ℕ → Type 0
  Same i j = (byte_of (m.tag i) ≢ byte_of Free) × (byte_of (m.tag j) ≡ byte_of (m.tag i)) × (r_of (m.path j) ≡ r_of (m.path i))

  same→ : (i j : ℕ) → T (same_block m i j) → Same i j
  unfolding same_block same_tag
  same→ i j t = search tests

  →same : (i j : ℕ) → Same i j → T (same_block m i j)
  unfolding same_block same_tag
  →same i j s = let a = s.0 in let b = s.1 in let c = s.2 in search makes

  between : (i j k : ℕ) → Same i j → Same i k → Same j k
  between i j k s u = ((λ e. s.0 (sym s.1 ∙ e)), u.1 ∙ sym s.1, u.2 ∙ sym s.2)

  apart→ : (j k : ℕ) → T (apart m j k) → (copy_of (m.path j) ≢ successor (copy_of (m.path k))) × (copy_of (m.path k) ≢ successor (copy_of (m.path j)))
  unfolding apart follows
  apart→ j k t =
      let no = T-not→ (follows (copy_of (m.path j)) (copy_of (m.path k)) || follows (copy_of (m.path k)) (copy_of (m.path j))) t in
      ((λ e. no (or_l (follows (copy_of (m.path j)) (copy_of (m.path k))) (follows (copy_of (m.path k)) (copy_of (m.path j))) (eqb_of e))), (λ e. no (or_r (follows (copy_of (m.path j)) (copy_of (m.path k))) (follows (copy_of (m.path k)) (copy_of (m.path j))) (eqb_of e))))

  →apart : (j k : ℕ) → copy_of (m.path j) ≢ successor (copy_of (m.path k)) → copy_of (m.path k) ≢ successor (copy_of (m.path j)) → T (apart m j k)
  unfolding apart follows
  →apart j k f g = →T_not (follows (copy_of (m.path j)) (copy_of (m.path k)) || follows (copy_of (m.path k)) (copy_of (m.path j))) (λ t.
      ⊎_elim (λ u. f (eqb→eq _ _ u)) (λ u. g (eqb→eq _ _ u)) (or_cases (follows (copy_of (m.path j)) (copy_of (m.path k))) (follows (copy_of (m.path k)) (copy_of (m.path j))) t))

  turned : (j k : ℕ) → T (apart m j k) → T (apart m k j)
  turned j k t = →apart k j (apart→ j k t).1 (apart→ j k t).0

  clash→ : (j k : ℕ) → T (clash m j k) → (j ≢ k) × Same j k × T (apart m j k)
  unfolding clash newer follows
  clash→ j k t =
      let d : j ≢ k = search tests in
      let s : T (same_block m j k) = search tests in
      let u : Same j k = same→ j k s in
      let b : T (same_block m k j) = →same k j ((λ e. u.0 (sym u.1 ∙ e)), sym u.1, sym u.2) in
      let no : T (newer m j k || newer m k j) → ⊥ = T-not→ (newer m j k || newer m k j) (search tests) in
      (d, u, →apart j k (λ e. no (or_l (newer m j k) (newer m k j) (and_i (same_block m k j) (follows (copy_of (m.path j)) (copy_of (m.path k))) b (eqb_of e)))) (λ e. no (or_r (newer m j k) (newer m k j) (and_i (same_block m j k) (follows (copy_of (m.path k)) (copy_of (m.path j))) s (eqb_of e)))))

  →clash : (j k : ℕ) → j ≢ k → Same j k → T (apart m j k) → T (clash m j k)
  unfolding clash newer follows
  →clash j k d u a =
      let s : T (same_block m j k) = →same j k u in
      let no : T (newer m j k || newer m k j) → ⊥ = λ t. ⊎_elim
      (λ x. (apart→ j k a).0 (eqb→eq _ _ (and_r (same_block m k j) (follows (copy_of (m.path j)) (copy_of (m.path k))) x)))
      (λ x. (apart→ j k a).1 (eqb→eq _ _ (and_r (same_block m j k) (follows (copy_of (m.path k)) (copy_of (m.path j))) x)))
      (or_cases (newer m j k) (newer m k j) t) in
      and_i (not (eqb j k) && same_block m j k) (not (newer m j k || newer m k j)) (and_i (not (eqb j k)) (same_block m j k) (→not_eqb j k d) s) (→T_not (newer m j k || newer m k j) no)

  -- of three copies, two do not follow each other
  third : (a b c : ℕ) → (T (apart m a b) → ⊥) → (T (apart m b c) → ⊥) → T (apart m a c)
  unfolding copy_of successor
  third a b c f g = →apart a c (λ e. f (→apart a b (λ x. g (→apart b c (λ y. omega arith) (λ y. omega arith))) (λ x. g (→apart b c (λ y. omega arith) (λ y. omega arith)))))
      (λ e. f (→apart a b (λ x. g (→apart b c (λ y. omega arith) (λ y. omega arith))) (λ x. g (→apart b c (λ y. omega arith) (λ y. omega arith)))))

  module _ (n i : ℕ) where
    bad_by : (j k : ℕ) → j < n → k < n → j ≢ k → Same i j → Same i k → T (apart m j k) → T (unresolved n m i)
    unfolding unresolved
    bad_by j k hj hk d s u a =
        any_intro n _ j hj (and_i (same_block m i j) _ (→same i j s) (any_intro n (clash m j) k hk (→clash j k d (between i j k s u) a)))

    pub fine_by : ((j k : ℕ) → j < n → k < n → j ≢ k → Same i j → Same i k → T (apart m j k) → ⊥) → T (unresolved n m i) → ⊥
    unfolding unresolved
    fine_by f t =
        let x : Found n (λ j. same_block m i j && any n (clash m j)) = any_elim _ _ t in
        let y : Found n (clash m x.place) = any_elim _ _ (and_r (same_block m i x.place) _ x.passes) in
        let s : Same i x.place = same→ i x.place (and_l (same_block m i x.place) (any n (clash m x.place)) x.passes) in
        let c = clash→ x.place y.place y.passes in
        f x.place y.place x.below y.below c.0 s (s.0, c.1.1 ∙ s.1, c.1.2 ∙ s.2) c.2

    -- a place that bears the tag and r of i, where i is not free
    abbrev Kin : ℕ → ℕ → Bool
    Kin from j = bearer m (m.tag i) (r_of (m.path i)) from j

    kin→ : (from j : ℕ) → byte_of (m.tag i) ≢ byte_of Free → T (Kin from j) → (from ≤ j) × Same i j
    unfolding bearer bears same_tag
    kin→ from j f t =
        let a : from ≤ j = search tests in
        let b : byte_of (m.tag j) ≡ byte_of (m.tag i) = search tests in
        let c : r_of (m.path j) ≡ r_of (m.path i) = search tests in
        (a, (f, b, c))

    →kin : (from j : ℕ) → from ≤ j → Same i j → T (Kin from j)
    unfolding bearer bears same_tag
    →kin from j l s = let a = s.1 in let b = s.2 in search makes

    no_kin : (from j : ℕ) → first n (Kin from) ≡ none → from ≤ j → j < n → Same i j → ⊥
    no_kin from j e l h s = first_none n _ e j h (→kin from j l s)

    module _ (f : byte_of (m.tag i) ≢ byte_of Free) (a : ℕ) (ea : first n (Kin 0) ≡ some a) where
      a_same : Same i a
      a_same = (kin→ 0 a f (first_some n _ a ea).1).1

      a_lowest : (j : ℕ) → Same i j → a ≤ j
      a_lowest j s = ⊎_elim (λ (l : a ≤ j). l) (λ (l : j < a). absurd ((first_some n _ a ea).2 j l (→kin 0 j (omega arith) s))) (le_or a j)
        where
          le_or : (x y : ℕ) → (x ≤ y) ⊎ (y < x)
          le_or x y = ⊎_elim (λ (l : y < x). inr l) (λ (l : x ≤ y). inl l) (lt_or y x)

      pub one_fine : first n (Kin (a + 1)) ≡ none → T (unresolved n m i) → ⊥
      one_fine e = fine_by (λ j k hj hk d s u t.
          let no : (x : ℕ) → x < n → Same i x → x ≡ a = λ x h w. ⊎_elim (λ q. q) (λ (q : x ≢ a). absurd (no_kin (a + 1) x e (above x (a_lowest x w) q) h w)) (eq_or x a) in
          d (no j hj s ∙ sym (no k hk u)))
        where
          above : (x : ℕ) → a ≤ x → x ≢ a → a + 1 ≤ x
          above x l q = omega arith

      module _ (b : ℕ) (eb : first n (Kin (a + 1)) ≡ some b) where
        b_kin : (a + 1 ≤ b) × Same i b
        b_kin = kin→ (a + 1) b f (first_some n _ b eb).1

        differ : a ≢ b
        differ e = let l : a + 1 ≤ b = b_kin.0 in omega arith

        pub three_bad : (c : ℕ) → first n (Kin (b + 1)) ≡ some c → T (unresolved n m i)
        three_bad c ec =
            let k = kin→ (b + 1) c f (first_some n _ c ec).1 in
            let l : a + 1 ≤ b = b_kin.0 in
            let h : b + 1 ≤ c = k.0 in
            let ac : a ≢ c = λ e. omega arith in
            let bc : b ≢ c = λ e. omega arith in
            ⊎_elim (λ t. bad_by a b (first_some n _ a ea).0 (first_some n _ b eb).0 differ a_same b_kin.1 t)
            (λ g. ⊎_elim (λ t. bad_by b c (first_some n _ b eb).0 (first_some n _ c ec).0 bc b_kin.1 k.1 t)
            (λ u. bad_by a c (first_some n _ a ea).0 (first_some n _ c ec).0 ac a_same k.1 (third a b c g u))
            (T-dec (apart m b c))) (T-dec (apart m a b))

        only : first n (Kin (b + 1)) ≡ none → (x : ℕ) → x < n → Same i x → (x ≡ a) ⊎ (x ≡ b)
        only e x h s = ⊎_elim (λ q. inl q) (λ (p : x ≢ a). ⊎_elim (λ q. inr q) (λ (q : x ≢ b). absurd (no p q)) (eq_or x b)) (eq_or x a)
          where
            no : x ≢ a → x ≢ b → ⊥
            no p q =
                let low : a ≤ x = a_lowest x s in
                let mid : a + 1 ≤ x → x < b → ⊥ = λ u l. (first_some n _ b eb).2 x l (→kin (a + 1) x u s) in
                let high : b + 1 ≤ x → ⊥ = λ u. no_kin (b + 1) x e u h s in
                let below : x < b → ⊥ = λ l. mid (omega arith) l in
                omega arith

        pub two_is : first n (Kin (b + 1)) ≡ none → apart m a b ≡ unresolved n m i
        two_is e = T-ext _ _ (λ t. bad_by a b (first_some n _ a ea).0 (first_some n _ b eb).0 differ a_same b_kin.1 t)
            (λ t. ⊎_elim (λ x. x) (λ (g : T (apart m a b) → ⊥). absurd (fine_by (λ j k hj hk d s u w.
            ⊎_elim (λ (p : j ≡ a). ⊎_elim (λ (q : k ≡ a). d (p ∙ sym q)) (λ (q : k ≡ b). g (moved p q w)) (only e k hk u))
            (λ (p : j ≡ b). ⊎_elim (λ (q : k ≡ a). g (turned b a (moved p q w))) (λ (q : k ≡ b). d (p ∙ sym q)) (only e k hk u))
            (only e j hj s)) t)) (T-dec (apart m a b)))
          where
            moved : {j k x y : ℕ} → j ≡ x → k ≡ y → T (apart m j k) → T (apart m x y)
            moved {j} {k} {x} {y} p q w = subst (λ (z : ℕ). T (apart m x z)) q (subst (λ (z : ℕ). T (apart m z k)) p w)

-- ---- in the code's terms: t and r are those of place i, and v says whether it is free

module _ (n : ℕ) (m : Labels) (i : ℕ) {v : Bool} {t : Tag} (et : t ≡ m.tag i) (ev : v ≡ sameb the_type t Free) where
  free : v ≡ same_tag (m.tag i) Free
  free = ev ∙ same_tags t Free ∙ ap (λ (s : Tag). same_tag s Free) et

  pub copies_free : v ≡ true → false ≡ unresolved n m i
  unfolding same_tag
  copies_free g = sym (is_false _ (fine_by m n i (λ j k hj hk d s u a. s.0 (eqb→eq _ _ (T-yes _ (sym free ∙ g))))))

  module _ {r : ℕ} (g : v ≡ false) (er : r ≡ r_of (m.path i)) where
    used : byte_of (m.tag i) ≢ byte_of Free
    unfolding same_tag
    used e = not_both _ (sym free ∙ g) (eqb_of e)

    -- an answer about t and r is one about place i
    about : {x : answer.Option Block} (from : ℕ) → x ≡ found (first n (bearer m t r from)) → x ≡ found (first n (bearer m (m.tag i) (r_of (m.path i)) from))
    about from e = e ∙ ap (λ (s : Tag). found (first n (bearer m s r from))) et ∙ ap (λ (k : ℕ). found (first n (bearer m (m.tag i) k from))) er

    pub copies_none : {x : answer.Option Block} → x ≡ found (first n (bearer m t r 0)) → x ≡ None → false ≡ unresolved n m i
    copies_none e f = sym (is_false _ (fine_by m n i (λ j k hj hk d s u a. no_kin m n i 0 j (nothing_none _ (about 0 e) f) (omega arith) hj s)))

    module _ {x : answer.Option Block} {a : Block} (e : x ≡ found (first n (bearer m t r 0))) (f : x ≡ Some a) where
      pub copies_one : {y : answer.Option Block} → y ≡ found (first n (bearer m t r (a.0 + 1))) → y ≡ None → false ≡ unresolved n m i
      copies_one h k = sym (is_false _ (one_fine m n i used a.0 (at_some _ (about 0 e) f) (nothing_none _ (about _ h) k)))

      module _ {y z : answer.Option Block} {b : Block} (h : y ≡ found (first n (bearer m t r (a.0 + 1)))) (k : y ≡ Some b) (l : z ≡ found (first n (bearer m t r (b.0 + 1)))) where
        pub copies_three : {c : Block} → z ≡ Some c → true ≡ unresolved n m i
        copies_three {c} w = sym (is_true _ (three_bad m n i used a.0 (at_some _ (about 0 e) f) b.0 (at_some _ (about _ h) k) c.0 (at_some _ (about _ l) w)))

        pub copies_two : {s : Bool} → z ≡ None → s ≡ apart m a.0 b.0 → s ≡ unresolved n m i
        copies_two w q = q ∙ two_is m n i used a.0 (at_some _ (about 0 e) f) b.0 (at_some _ (about _ h) k) (nothing_none _ (about _ l) w)

pub ruleset copies = (copies_free, copies_none, copies_one, copies_three, copies_two)
