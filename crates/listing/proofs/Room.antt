-- For callers: where the place past a line is below the buffer's end, the buffer begins with the line; and no line is long.
use Prim.Native.Nat.{ℕ, zero, suc, ◌+◌, ◌*◌, ◌/◌, ◌%◌, ◌≤◌, ◌<◌}
use native.Mathlib.Omega.{arith}
use mathlib.Core.Logic.{⊎_elim}
use mathlib.Core.List.{List, [], ◌∷◌, ◌++◌}
use mathlib.Core.Path.{◌≡◌, refl, ◌∙◌}
use lib.ListN.{length, take, drop, length-append}
use lib.Seq.{take_at}
use Rattle.base.specs.Choice.{bind}
use Rattle.base.proofs.Choices.{all_true, all_less, all_eq}
use Rattle.base.proofs.Tests.{lt_or}
use Rattle.std.specs.Prelude.{Option, Some, None}
use Rattle.meaning.specs.declared.Address.{Address}
use Rattle.meaning.specs.declared.Record.{Record}
use Rattle.meaning.specs.declared.Extent.{Extent}
use Rattle.meaning.specs.declared.Refusal.{Refusal}
use Rattle.meaning.specs.Answer.{number_of, place_of}
use Rattle.text.proofs.Puts.{put_fits, end_fits, end_full}
use Rattle.listing.specs.Wrote.{Wrote}
use Rattle.listing.specs.Lines.{joined, digits_of, decimal, field, hex_text, percent, escaped, escapes, name_text, insertion_text, total_line, record_text, file_line, run_line, extent_line, refusal_line}

-- ---- the buffer then begins with the line

module _ {l m : List ℕ} {to : ℕ} (xs : List ℕ) (w : Wrote l 0 xs m to) where
  pub wrote_place : length xs ≤ length l → to ≡ length xs
  wrote_place h =
      let k : 0 + length xs ≤ length l = omega arith in
      let z : 0 + length xs ≡ length xs = omega arith in
      w.end ∙ end_fits l 0 xs k ∙ z

  pub wrote_whole : length xs ≤ length l → take to m ≡ xs
  wrote_whole h =
      let k : 0 + length xs ≤ length l = omega arith in
      let e : m ≡ xs ++ drop (0 + length xs) l = w.text ∙ put_fits l 0 xs k in
      rw (e, wrote_place h) (take_at xs (drop (0 + length xs) l) (length xs) refl)

  pub wrote_fits : to < length l → length xs ≤ length l
  wrote_fits h = ⊎_elim
      (λ (p : length l < length xs). let z : 0 ≤ length l = omega arith in
      let q : length l ≤ 0 + length xs = omega arith in
      let e : to ≡ length l = w.end ∙ end_full l 0 xs z q in
      absurd (omega arith))
      (λ (p : length xs ≤ length l). p)
      (lt_or (length l) (length xs))

-- ---- how long a line is

digits_most : (left n : ℕ) → length (digits_of left n) ≤ left
unfolding digits_of
digits_most zero n = omega arith
digits_most (suc left) n =
    all_less (λ (x : List ℕ). length x ≤ suc left) n 10 _ _ (λ h. omega arith)
    (λ h. omega (arith, length-append (digits_of left (n / 10)) ((48 + n % 10) ∷ []), digits_most left (n / 10)))

field_most : (n : ℕ) → length (field n) ≤ 21
unfolding field joined decimal
field_most n = omega (arith, length-append (digits_of 20 n) [], digits_most 20 n)

escaped_most : (b : ℕ) → length (escaped b) ≤ 3
unfolding escaped percent hex_text joined bind
escaped_most b =
    all_less Short b 0x21 _ _ (λ h. omega arith) (λ h. all_less Short 0x7e b _ _ (λ h. omega arith)
    (λ h. all_eq Short b 37 _ _ (λ h. omega arith) (λ h. omega arith)))
  where
    Short : List ℕ → Type 0
    Short x = length x ≤ 3

escapes_most : (name : List ℕ) → length (escapes name) ≤ 3 * length name
unfolding escapes
escapes_most [] = omega arith
escapes_most (b ∷ bs) = omega (arith, length-append (escaped b) (escapes bs), escaped_most b, escapes_most bs)

-- a name of 255 bytes, the longest there is
pub name_most : (name : List ℕ) → length name ≤ 255 → length (name_text name) ≤ 765
unfolding name_text
name_most name h = all_eq (λ (x : List ℕ). length x ≤ 765) (length name) 0 _ _ (λ e. omega arith) (λ e. omega (arith, escapes_most name))

insertion_most : (p : Option Address) → length (insertion_text p) ≤ 21
unfolding insertion_text joined
insertion_most (Some a) = field_most a.0
insertion_most None = omega arith

joined_length : (x : List ℕ) (xs : List (List ℕ)) → length (joined (x ∷ xs)) ≡ length x + length (joined xs)
unfolding joined
joined_length x xs = length-append x (joined xs)

joined_none : length (joined []) ≡ 0
unfolding joined
joined_none = refl

pub total_most : (records extents applied ignored : ℕ) (p : Option Address) → length (total_line records extents applied ignored p) ≤ 107
unfolding total_line
total_most a b c d p = simp (joined_length, joined_none) (omega (arith, field_most a, field_most b, field_most c, field_most d, insertion_most p))

record_most : (f : Record) → length (record_text f) ≤ 127
unfolding record_text
record_most f = simp (joined_length, joined_none)
    (omega (arith, field_most f.path, field_most f.parent, field_most f.perm, field_most f.length, field_most f.cvers, field_most f.mtime))

pub file_most : (f : Record) (name : List ℕ) → length name ≤ 255 → length (file_line f name) ≤ 894
unfolding file_line
file_most f name h = simp (joined_length, joined_none) (omega (arith, record_most f, name_most name h))

run_most : (e : Extent) (kind address : ℕ) → length (run_line e kind address) ≤ 67
unfolding run_line
run_most e kind address = simp (joined_length, joined_none) (omega (arith, field_most e.offset, field_most e.count, field_most address))

pub extent_most : (e : Extent) → length (extent_line e) ≤ 67
unfolding extent_line
extent_most e = all_true (λ (x : List ℕ). length x ≤ 67) _ _ _ (λ h. run_most e _ _) (λ h. run_most e _ _)

pub refusal_most : (r : Refusal) → length (refusal_line r) ≤ 44
unfolding refusal_line bind
refusal_most r = simp (joined_length, joined_none) (omega (arith, field_most (number_of r), field_most (place_of r)))
