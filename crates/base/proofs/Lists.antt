-- Laws of statements about the elements of a list.
use mathlib.Core.Path.{◌≡◌, refl, sym, ap, subst, ◌∙◌}
use mathlib.Core.Logic.{◌⊎◌, inl, inr, ⊎_elim}
use mathlib.Core.Bool.{Bool}
use mathlib.Core.List.{List, [], ◌∷◌, ◌++◌, map, map-append}
use Prim.Native.Nat.{ℕ, ◌+◌, ◌<◌}
use native.Mathlib.Numerals.{add-one}
use lib.ListN.{length, take, set, get_or}
use lib.Seq.{take-suc, take-suc-set}
use lib.Dec.{T}
use Rattle.base.specs.Scan.{any_of}
use Rattle.base.specs.Member.{All, In}
use Rattle.base.proofs.Tests.{or_l, or_r}

pub all_map : {A : Type 0} (P Q : A → Type 0) (xs : List A) → ((x : A) → P x → Q x) → All P xs → All Q xs
all_map P Q [] f p = tt
all_map P Q (x ∷ xs) f p = (f x p.0, all_map P Q xs f p.1)

pub all_append : {A : Type 0} (P : A → Type 0) (xs ys : List A) → All P xs → All P ys → All P (xs ++ ys)
all_append P [] ys p q = q
all_append P (x ∷ xs) ys p q = (p.0, all_append P xs ys p.1 q)

pub all_in : {A : Type 0} (P : A → Type 0) (xs : List A) → All P xs → (x : A) → In x xs → P x
all_in P [] p x h = absurd h
all_in P (y ∷ ys) p x h = ⊎_elim (λ e. subst P (sym e) p.0) (λ i. all_in P ys p.1 x i) h

pub all_of : {A : Type 0} (P : A → Type 0) (xs : List A) → ((x : A) → In x xs → P x) → All P xs
all_of P [] f = tt
all_of P (x ∷ xs) f = (f x (inl refl), all_of P xs (λ y h. f y (inr h)))

pub in_left : {A : Type 0} (y : A) (xs ys : List A) → In y xs → In y (xs ++ ys)
in_left y [] ys h = absurd h
in_left y (x ∷ xs) ys h = ⊎_elim (λ e. inl e) (λ u. inr (in_left y xs ys u)) h

pub in_right : {A : Type 0} (y : A) (xs ys : List A) → In y ys → In y (xs ++ ys)
in_right y [] ys h = h
in_right y (x ∷ xs) ys h = inr (in_right y xs ys h)

pub in_split : {A : Type 0} (y : A) (xs ys : List A) → In y (xs ++ ys) → In y xs ⊎ In y ys
in_split y [] ys h = inr h
in_split y (x ∷ xs) ys h = ⊎_elim (λ e. inl (inl e)) (λ u. ⊎_elim (λ v. inl (inr v)) (λ v. inr v) (in_split y xs ys u)) h

pub any_in : {A : Type 0} (q : A → Bool) (xs : List A) (x : A) → In x xs → T (q x) → T (any_of q xs)
unfolding any_of
any_in q [] x h t = h
any_in q (y ∷ ys) x h t = ⊎_elim (λ e. or_l (q y) (any_of q ys) (subst (λ z. T (q z)) e t)) (λ i. or_r (q y) (any_of q ys) (any_in q ys x i t)) h

pub all_both : {A : Type 0} (P Q R : A → Type 0) (xs : List A) → ((x : A) → P x → Q x → R x) → All P xs → All Q xs → All R xs
all_both P Q R [] f p q = tt
all_both P Q R (x ∷ xs) f p q = (f x p.0 q.0, all_both P Q R xs f p.1 q.1)

-- ---- one more

-- what a loop that stores one image after another has stored
pub map_on : {A B : Type 0} (f : A → B) (d : A) (xs : List A) (ys : List B) (k : ℕ) → take k ys ≡ map f (take k xs) → k < length ys → k < length xs
    → take (k + 1) (set ys k (f (get_or xs k d))) ≡ map f (take (k + 1) xs)
map_on f d xs ys k e h m =
    rw (add-one k)
    (take-suc-set ys k (f (get_or xs k d)) h ∙ ap (λ (zs : List _). zs ++ f (get_or xs k d) ∷ []) e ∙ sym (map-append f (take k xs) (get_or xs k d ∷ []))
    ∙ ap (map f) (sym (take-suc xs k d m)))
