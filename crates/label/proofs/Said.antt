-- What one label says, in the code's terms: a law for each way out of the code.
use Prim.Native.Nat.{ℕ, ◌+◌, ◌*◌, ◌/◌, ◌%◌, ◌≤◌, ◌<◌, ◌^◌, min}
use native.Mathlib.Nat.{div-zero, mod-zero, mul-le-mul}
use native.Mathlib.Omega.{arith}
use mathlib.Core.Bool.{Bool, false}
use mathlib.Core.List.{List}
use denote.Enum.Bare.{sameb}
use mathlib.Core.Path.{◌≡◌, refl, sym, ap, ◌∙◌}
use mathlib.Core.Logic.{◌≢◌}
use lib.ListN.{length, get_or, get_or-eq_default}
use lib.Dec.{ltb, leb}
use borrow.Author.Tests.{le-leb, lt-leb}
use Rattle.base.specs.Choice.{if_true}
use Rattle.meaning.specs.declared.Tag.{Tag}
use Rattle.meaning.specs.declared.Tag.TheVariants.{Free, Boot, Log, Data, Unknown}
use Rattle.meaning.specs.contracts.Tag.{the_type}
use Rattle.meaning.specs.declared.Geometry.{Geometry}
use Rattle.meaning.specs.Flash.{bad_path, block_number, block_size, byte_of, labels_of, log_number, r_of, same_tag, tag_of}

-- ---- tags and paths

-- tags are equal where the bytes written for them are
pub same_tags : (s t : Tag) → sameb the_type s t ≡ same_tag s t
unfolding same_tag byte_of
same_tags Free = elim [ Free ↦ refl | Boot ↦ refl | Log ↦ refl | Data ↦ refl | Unknown ↦ refl ]
same_tags Boot = elim [ Free ↦ refl | Boot ↦ refl | Log ↦ refl | Data ↦ refl | Unknown ↦ refl ]
same_tags Log = elim [ Free ↦ refl | Boot ↦ refl | Log ↦ refl | Data ↦ refl | Unknown ↦ refl ]
same_tags Data = elim [ Free ↦ refl | Boot ↦ refl | Log ↦ refl | Data ↦ refl | Unknown ↦ refl ]
same_tags Unknown = elim [ Free ↦ refl | Boot ↦ refl | Log ↦ refl | Data ↦ refl | Unknown ↦ refl ]

module _ (t : Tag) (p : ℕ) where
  pub path_free : Free ≡ t → false ≡ bad_path t p
  unfolding bad_path same_tag byte_of
  path_free e = rw (← e)

  module _ (e : Log ≡ t) where
    pub path_log_large : 2 ^ 34 ≤ p → leb (2 ^ 34) p ≡ bad_path t p
    unfolding bad_path same_tag byte_of
    path_log_large l = rw (← e, le-leb (2 ^ 34) p l)

    pub path_log : p < 2 ^ 34 → ltb 4095 (p / 4 / 4) ≡ bad_path t p
    unfolding bad_path same_tag byte_of block_number if_true log_number r_of
    path_log l = rw (← e, lt-leb (2 ^ 34) p l)

pub path_large : (t : Tag) (p : ℕ) → t ≢ Free → 2 ^ 34 ≤ p → leb (2 ^ 34) p ≡ bad_path t p
unfolding bad_path same_tag byte_of
path_large Free p f l = absurd (f refl)
path_large Boot p f l = rw (le-leb (2 ^ 34) p l)
path_large Log p f l = rw (le-leb (2 ^ 34) p l)
path_large Data p f l = rw (le-leb (2 ^ 34) p l)
path_large Unknown p f l = rw (le-leb (2 ^ 34) p l)

pub path_other : (t : Tag) (p : ℕ) → t ≢ Free → t ≢ Log → p < 2 ^ 34 → ltb 4095 (p / 4) ≡ bad_path t p
unfolding bad_path same_tag byte_of block_number if_true r_of
path_other Free p f g l = absurd (f refl)
path_other Boot p f g l = rw (lt-leb (2 ^ 34) p l)
path_other Log p f g l = absurd (g refl)
path_other Data p f g l = rw (lt-leb (2 ^ 34) p l)
path_other Unknown p f g l = rw (lt-leb (2 ^ 34) p l)

-- ---- addresses

pub pages_below : (n pages : ℕ) → n ≤ 4294967295 → pages ≤ 65535 → n * pages ≤ 4294967295 * 65535
pages_below n pages a b = mul-le-mul a b

pub bytes_below : (n pages page size : ℕ) → n ≤ 4294967295 → pages ≤ 65535 → page ≤ 65535 → size ≤ 65535
    → (n * pages + page) * size ≤ (4294967295 * 65535 + 65535) * 65535
bytes_below n pages page size a b d e = let h : n * pages + page ≤ 4294967295 * 65535 + 65535 = omega (arith, pages_below n pages a b) in mul-le-mul h e

pub number_nowhere : {s : ℕ} (g : Geometry) (a : ℕ) → s ≡ block_size g → s ≡ 0 → 0 ≡ min (a / block_size g) 4294967295
number_nowhere g a e z = let q : a / block_size g ≡ 0 = ap (λ (k : ℕ). a / k) (sym e ∙ z) ∙ div-zero a in omega arith

pub number_here : {s : ℕ} (g : Geometry) (a : ℕ) → s ≡ block_size g → a / s < 4294967295 → a / s ≡ min (a / block_size g) 4294967295
number_here {s} g a e l = let q : a / s ≡ a / block_size g = ap (λ (k : ℕ). a / k) e in omega arith

pub number_past : {s : ℕ} (g : Geometry) (a : ℕ) → s ≡ block_size g → 4294967295 ≤ a / s → 4294967295 ≡ min (a / block_size g) 4294967295
number_past {s} g a e l = let q : a / s ≡ a / block_size g = ap (λ (k : ℕ). a / k) e in omega arith

pub offset_nowhere : {s : ℕ} (g : Geometry) (a : ℕ) → s ≡ block_size g → s ≡ 0 → a ≡ a % block_size g
offset_nowhere g a e z = sym (ap (λ (k : ℕ). a % k) (sym e ∙ z) ∙ mod-zero a)

pub offset_here : {s : ℕ} (g : Geometry) (a : ℕ) → s ≡ block_size g → a % s ≡ a % block_size g
offset_here g a e = ap (λ (k : ℕ). a % k) e

pub ruleset places = (number_nowhere, number_here, number_past, offset_nowhere, offset_here)

-- ---- one place

pub past_end : (l : List ℕ) (i : ℕ) → length l ≤ i → 0 ≡ get_or l i 0
past_end l i h = sym (get_or-eq_default l 0 h)

module _ (tags paths : List ℕ) (i : ℕ) where
  pub tag_is : {x : Tag} {b : ℕ} → x ≡ tag_of b → b ≡ get_or tags i 0 → x ≡ (labels_of tags paths).tag i
  unfolding labels_of
  tag_is e f = e ∙ ap tag_of f

  pub path_is : {p : ℕ} → p ≡ get_or paths i 0 → p ≡ (labels_of tags paths).path i
  unfolding labels_of
  path_is f = f

pub as_tag : {v : Bool} {x : Tag} (s t : Tag) → v ≡ sameb the_type x t → x ≡ s → v ≡ same_tag s t
as_tag s t e f = e ∙ ap (λ (y : Tag). sameb the_type y t) f ∙ same_tags s t

pub r_is : {p : ℕ} (q : ℕ) → p ≡ q → p / 4 ≡ r_of q
unfolding r_of
r_is q e = ap (λ (k : ℕ). k / 4) e

pub ruleset said = (tag_is, path_is, as_tag, r_is)
