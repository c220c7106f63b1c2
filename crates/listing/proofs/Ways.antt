-- What is written in pieces is written as a whole.
use Prim.Native.Nat.{ℕ, zero, suc, ◌+◌, ◌-◌, ◌/◌, ◌%◌, ◌≤◌, ◌<◌}
use native.Mathlib.Numerals.{sub-one}
use mathlib.Core.List.{List, [], ◌∷◌, ◌++◌, append-nil}
use mathlib.Core.Path.{◌≡◌, refl, sym, ◌∙◌}
use lib.ListN.{length, set, get_or}
use lib.Seq.{set_out}
use Rattle.base.specs.Choice.{if_less, if_eq, bind}
use Rattle.base.proofs.Ways as choice
use Rattle.std.specs.Prelude.{Option, Some, None}
use Rattle.meaning.specs.declared.Address.{Address}
use Rattle.text.specs.Piece.{tab}
use Rattle.text.specs.Put.{put, end_of}
use Rattle.text.proofs.Puts.{past_in, past_out, put_append, end_append}
use Rattle.listing.specs.Wrote.{Wrote}
use Rattle.listing.proofs.Left.{Left, left_start, left_done, left_on}
use Rattle.listing.specs.Lines.{joined, digits_of, escaped, escapes, field, insertion_text}

-- ---- a byte, with room and without

module _ (l : List ℕ) (at : ℕ) where
  pub wrote_none : Wrote l at [] l at
  unfolding put end_of
  wrote_none = record { text = refl; end = refl }

  pub wrote_one : (x : ℕ) → at < length l → Wrote l at (x ∷ []) (set l at x) (at + 1)
  unfolding put end_of
  wrote_one x h = record { text = refl; end = sym (past_in l at h) }

  pub wrote_full : (x : ℕ) → length l ≤ at → Wrote l at (x ∷ []) l at
  unfolding put end_of
  wrote_full x h = record { text = sym (set_out l at x h); end = sym (past_out l at h) }

-- ---- one piece after another

module _ {l m n : List ℕ} {at to end : ℕ} where
  pub wrote_then : (xs ys : List ℕ) → Wrote l at xs m to → Wrote m to ys n end → Wrote l at (xs ++ ys) n end
  wrote_then xs ys p q = record {
    text = q.text ∙ rw (p.text, p.end) (put_append l at xs ys);
    end = q.end ∙ rw (p.text, p.end) (end_append l at xs ys);
  }

  pub wrote_on : (x : List ℕ) (xs : List (List ℕ)) → Wrote l at x m to → Wrote m to (joined xs) n end → Wrote l at (joined (x ∷ xs)) n end
  unfolding joined
  wrote_on x xs p q = wrote_then x (joined xs) p q

-- ---- a choice of text

module _ {l m : List ℕ} {at to : ℕ} where
  pub wrote_last : (x : List ℕ) → Wrote l at x m to → Wrote l at (joined (x ∷ [])) m to
  unfolding joined
  wrote_last x p = rw append-nil p

  pub wrote_yes< : (a b : ℕ) (x y : List ℕ) → a < b → Wrote l at x m to → Wrote l at (if_less a b x y) m to
  wrote_yes< a b x y h p = rw (sym (choice.yes< a b x y h refl)) p

  pub wrote_no< : (a b : ℕ) (x y : List ℕ) → b ≤ a → Wrote l at y m to → Wrote l at (if_less a b x y) m to
  wrote_no< a b x y h p = rw (sym (choice.no< a b x y h refl)) p

  pub wrote_yes= : (a b : ℕ) (x y : List ℕ) → a ≡ b → Wrote l at x m to → Wrote l at (if_eq a b x y) m to
  wrote_yes= a b x y h p = rw (sym (choice.yes= a b x y h refl)) p

  pub wrote_no= : (a b : ℕ) (x y : List ℕ) → (a ≡ b → ⊥) → Wrote l at y m to → Wrote l at (if_eq a b x y) m to
  wrote_no= a b x y h p = rw (sym (choice.no= a b x y h refl)) p

  pub wrote_bound : {x : ℕ} (v : ℕ) (f : ℕ → List ℕ) → x ≡ v → Wrote l at (f x) m to → Wrote l at (bind v f) m to
  unfolding bind
  wrote_bound v f e p = rw (sym e) p

  pub wrote_at : {a : Address} (p : Option Address) → p ≡ Some a → Wrote l at (field a.0) m to → Wrote l at (insertion_text p) m to
  unfolding insertion_text
  wrote_at p e w = rw e w

  pub wrote_nowhere : (p : Option Address) → p ≡ None → Wrote l at (joined ((tab ∷ []) ∷ (45 ∷ []) ∷ [])) m to → Wrote l at (insertion_text p) m to
  unfolding insertion_text
  wrote_nowhere p e w = rw e w

pub ruleset ways = (wrote_none, wrote_one, wrote_full, wrote_on, wrote_last, wrote_bound, wrote_at, wrote_nowhere)

-- ---- digits: none, one, or those of n / 10 and one more

module _ {l m : List ℕ} {at to : ℕ} where
  pub digits_small : (left n : ℕ) → (left ≡ 0 → ⊥) → n < 10 → Wrote l at ((48 + n) ∷ []) m to → Wrote l at (digits_of left n) m to
  unfolding digits_of
  digits_small zero n z h p = absurd (z refl)
  digits_small (suc left) n z h p = wrote_yes< _ _ _ _ h p

module _ {l : List ℕ} {at : ℕ} where
  pub digits_none : (left n : ℕ) → left ≡ 0 → Wrote l at (digits_of left n) l at
  unfolding digits_of
  digits_none left n e = rw e (wrote_none l at)

module _ {l m k : List ℕ} {at to end : ℕ} where
  pub digits_more : (left n : ℕ) → (left ≡ 0 → ⊥) → 10 ≤ n → Wrote l at (digits_of (left - 1) (n / 10)) m to → Wrote m to ((48 + n % 10) ∷ []) k end
      → Wrote l at (digits_of left n) k end
  unfolding digits_of
  digits_more zero n z h p q = absurd (z refl)
  digits_more (suc left) n z h p q = wrote_no< _ _ _ _ h (wrote_then _ _ (rw (sub-one (suc left)) at p) q)

pub ruleset digits_ways = (digits_none, digits_small, digits_more)

-- ---- a loop over a name

module _ (name l₀ : List ℕ) (at₀ : ℕ) where
  pub name_start : Left escapes name l₀ at₀ 0 l₀ at₀
  name_start = left_start escapes name l₀ at₀

  module _ (i : ℕ) {l : List ℕ} {at : ℕ} (w : Left escapes name l₀ at₀ i l at) where
    pub name_done : length name ≤ i → Wrote l₀ at₀ (escapes name) l at
    unfolding escapes
    name_done h = left_done escapes name l₀ at₀ i w refl h

    pub name_on : {m : List ℕ} {to : ℕ} → i < length name → Wrote l at (escaped (get_or name i 0)) m to → Left escapes name l₀ at₀ (i + 1) m to
    unfolding escapes
    name_on h p = left_on escapes name l₀ at₀ i w 0 _ refl h p

pub ruleset name_ways = (name_start, name_done, name_on)
