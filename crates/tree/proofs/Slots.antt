-- Slots that are pairwise different: one of them moved, and a record stored in one of them.
use Prim.Native.Nat.{ℕ, zero, suc, ◌+◌, ◌≤◌, ◌<◌, suc-le-suc, zero-le}
use mathlib.Core.Path.{◌≡◌, refl, sym, ap, ap₂, subst, ◌∙◌}
use mathlib.Core.Logic.{◌≢◌, inl, inr, ⊎_elim}
use mathlib.Core.List.{List, [], ◌∷◌, ◌++◌, map, append_assoc}
use native.Mathlib.Omega.{arith}
use native.Mathlib.Nat.{le_of_suc-le-suc}
use native.Mathlib.Numerals.{add-one}
use lib.ListN.{length, take, drop, set, get_or, take-append-drop, length-take}
use lib.Seq.{split_at, get_or-set_same, get_or-set_other, take-take, drop-append-le}
use Rattle.base.specs.Member.{In}
use Rattle.base.proofs.Lists.{in_left, in_right, in_split}
use Rattle.meaning.specs.declared.Record.{Record}
use Rattle.tree.specs.Shift.{insert_at, remove_at, opened, closed}
use Rattle.tree.specs.Tree.{no_record, Slots, Numbered}

-- ---- elements

in_more : (y v : ℕ) (us ws : List ℕ) → In y (us ++ ws) → In y (us ++ v ∷ ws)
in_more y v us ws h = ⊎_elim (λ u. in_left y us (v ∷ ws) u) (λ u. in_right y us (v ∷ ws) (inr u)) (in_split y us ws h)

in_fewer : (y v : ℕ) (us ws : List ℕ) → y ≢ v → In y (us ++ v ∷ ws) → In y (us ++ ws)
in_fewer y v us ws n h = ⊎_elim (λ u. in_left y us ws u) (λ u. in_right y us ws (⊎_elim (λ e. absurd (n e)) (λ w. w) u)) (in_split y us (v ∷ ws) h)

in_take : (y n : ℕ) (ss : List ℕ) → In y (take n ss) → In y ss
in_take y zero ss h = absurd h
in_take y (suc n) [] h = h
in_take y (suc n) (s ∷ ss) h = ⊎_elim (λ e. inl e) (λ u. inr (in_take y n ss u)) h

in_at : (ss : List ℕ) (i : ℕ) → i < length ss → In (get_or ss i 0) ss
in_at [] i h = omega arith
in_at (s ∷ ss) zero h = inl refl
in_at (s ∷ ss) (suc i) h = inr (in_at ss i (le_of_suc-le-suc h))

-- ---- one slot, in the middle or in front

slots_out : (v : ℕ) (us ws : List ℕ) → Slots (us ++ v ∷ ws) → Slots (v ∷ (us ++ ws))
slots_out v [] ws s = s
slots_out v (a ∷ us) ws s =
    let r : Slots (v ∷ (us ++ ws)) = slots_out v us ws s.1.1 in
    (r.0, ((λ h. ⊎_elim (λ e. s.1.0 (subst (λ (y : ℕ). In y (us ++ v ∷ ws)) e (in_right v us (v ∷ ws) (inl refl)))) (λ u. r.1.0 u) h), (s.0, ((λ h. s.1.0 (in_more a v us ws h)), r.1.1))))

slots_in : (v : ℕ) (us ws : List ℕ) → Slots (v ∷ (us ++ ws)) → Slots (us ++ v ∷ ws)
slots_in v [] ws s = s
slots_in v (a ∷ us) ws s =
    let r : Slots (a ∷ (us ++ ws)) = s.1.1 in
    (r.0, ((λ h. r.1.0 (in_fewer a v us ws (λ e. s.1.0 (inl (sym e))) h)), slots_in v us ws (s.0, ((λ h. s.1.0 (inr h)), r.1.1))))

-- ---- parts

pub slots_take : (n : ℕ) (ss : List ℕ) → Slots ss → Slots (take n ss)
slots_take zero ss s = tt
slots_take (suc n) [] s = tt
slots_take (suc n) (x ∷ ss) s = (s.0, ((λ h. s.1.0 (in_take x n ss h)), slots_take n ss s.1.1))

pub slot_below : (ss : List ℕ) (i : ℕ) → Slots ss → i < length ss → get_or ss i 0 < 256
slot_below [] i s h = omega arith
slot_below (x ∷ ss) zero s h = s.0
slot_below (x ∷ ss) (suc i) s h = slot_below ss i s.1.1 (le_of_suc-le-suc h)

pub slots_apart : (ss : List ℕ) (a b : ℕ) → Slots ss → a < b → b < length ss → get_or ss a 0 ≢ get_or ss b 0
slots_apart [] a b s l h e = omega arith
slots_apart (x ∷ ss) a zero s l h e = omega arith
slots_apart (x ∷ ss) zero (suc b) s l h e = s.1.0 (subst (λ (y : ℕ). In y ss) (sym e) (in_at ss b (le_of_suc-le-suc h)))
slots_apart (x ∷ ss) (suc a) (suc b) s l h e = slots_apart ss a b s.1.1 (le_of_suc-le-suc l) (le_of_suc-le-suc h) e

-- ---- the two shifts

module _ (ss : List ℕ) (n i : ℕ) (s : Slots ss) where
  -- the slot past the first n is none of them
  pub free_apart : n < length ss → In (get_or ss n 0) (take n ss) → ⊥
  free_apart h u = (slots_out (get_or ss n 0) (take n ss) (drop (suc n) ss) (subst Slots (split_at ss n 0 h) s)).1.0 (in_left (get_or ss n 0) (take n ss) (drop (suc n) ss) u)

  pub slots_opened : i ≤ n → n < length ss → Slots (opened n i (get_or ss n 0) ss)
  unfolding opened insert_at
  slots_opened hi h =
      let v : ℕ = get_or ss n 0 in
      rw (append_assoc (take i (take n ss)) (v ∷ drop i (take n ss)) (drop (n + 1) ss), add-one n)
      (slots_in v (take i (take n ss)) (drop i (take n ss) ++ drop (suc n) ss)
      (rw (← append_assoc (take i (take n ss)) (drop i (take n ss)) (drop (suc n) ss), take-append-drop i (take n ss))
      (slots_out v (take n ss) (drop (suc n) ss) (subst Slots (split_at ss n 0 h) s))))

  pub slots_closed : i < n → n ≤ length ss → Slots (closed n i ss)
  unfolding closed remove_at
  slots_closed hi h =
      let v : ℕ = get_or ss i 0 in
      let l : i < length ss = omega arith in
      let m : suc i ≤ length (take n ss) = omega (arith, length-take n ss) in
      let j : i ≤ n = omega arith in
      let r : drop (suc i) (take n ss) ++ drop n ss ≡ drop (suc i) ss = sym (drop-append-le (suc i) (take n ss) (drop n ss) m) ∙ ap (drop (suc i)) (take-append-drop n ss) in
      slots_in v (take i (take n ss) ++ drop (suc i) (take n ss)) (drop n ss)
      (rw (append_assoc (take i (take n ss)) (drop (suc i) (take n ss)) (drop n ss), r, take-take i n ss j)
      (slots_out v (take i ss) (drop (suc i) ss) (subst Slots (split_at ss i 0 l) s)))

-- ---- a record stored

abbrev fetch : List Record → ℕ → Record
fetch rs s = get_or rs s no_record

module _ (rs : List Record) (q : Record) where
  pub store_other : (s : ℕ) (ss : List ℕ) → (In s ss → ⊥) → map (fetch (set rs s q)) ss ≡ map (fetch rs) ss
  store_other s [] f = refl
  store_other s (x ∷ ss) f = ap₂ ◌∷◌ (get_or-set_other rs s x q no_record (λ e. f (inl (sym e)))) (store_other s ss (λ h. f (inr h)))

  pub store_at : (ss : List ℕ) (i : ℕ) → length rs ≡ 256 → Slots ss → i < length ss → map (fetch (set rs (get_or ss i 0) q)) ss ≡ set (map (fetch rs) ss) i q
  store_at [] i l s h = absurd (omega arith)
  store_at (x ∷ ss) zero l s h = ap₂ ◌∷◌ (get_or-set_same rs x q no_record (omega (arith, s.0))) (store_other x ss s.1.0)
  store_at (x ∷ ss) (suc i) l s h =
      ap₂ ◌∷◌ (get_or-set_other rs (get_or ss i 0) x q no_record (λ e. s.1.0 (subst (λ (y : ℕ). In y ss) (sym e) (in_at ss i (le_of_suc-le-suc h)))))
      (store_at ss i l s.1.1 (le_of_suc-le-suc h))

-- ---- the slots in their own order

rest_own : (x lo : ℕ) (ss : List ℕ) → ((a : ℕ) → a < length (x ∷ ss) → get_or (x ∷ ss) a 0 ≡ lo + a) → (a : ℕ) → a < length ss → get_or ss a 0 ≡ lo + 1 + a
rest_own x lo ss f a h = let e : get_or ss a 0 ≡ lo + suc a = f (suc a) (suc-le-suc h) in omega arith

own_low : (lo : ℕ) (ss : List ℕ) → ((a : ℕ) → a < length ss → get_or ss a 0 ≡ lo + a) → (y : ℕ) → In y ss → lo ≤ y
own_low lo [] f y h = absurd h
own_low lo (x ∷ ss) f y h =
    let e : x ≡ lo + 0 = f 0 (suc-le-suc zero-le) in
    ⊎_elim (λ (z : y ≡ x). omega arith) (λ u. omega (arith, own_low (lo + 1) ss (rest_own x lo ss f) y u)) h

own_slots : (lo : ℕ) (ss : List ℕ) → ((a : ℕ) → a < length ss → get_or ss a 0 ≡ lo + a) → lo + length ss ≤ 256 → Slots ss
own_slots lo [] f h = tt
own_slots lo (x ∷ ss) f h =
    let e : x ≡ lo + 0 = f 0 (suc-le-suc zero-le) in
    (omega arith, ((λ u. omega (arith, own_low (lo + 1) ss (rest_own x lo ss f) x u)), own_slots (lo + 1) ss (rest_own x lo ss f) (omega arith)))

pub numbered_slots : (ss : List ℕ) → Numbered ss 256 → Slots ss
numbered_slots ss d = own_slots 0 ss (λ a h. let l : a < 256 = omega (arith, d.len) in omega (arith, d.own a l)) (omega (arith, d.len))
