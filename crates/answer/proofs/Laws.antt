-- The answer from what is shown.
-- Assumes nothing.
use Prim.Native.Nat.{ℕ, ◌≤◌}
use mathlib.Core.Path.{◌≡◌, refl, sym, ap, subst, ◌∙◌}
use mathlib.Core.List.{List}
use mathlib.Core.Option.{Option, none, some}
use native.Mathlib.Omega.{arith}
use lib.ListN.{take}
use borrow.Author.Tests.{eq-eqb, ne_eqb}
use Rattle.std.specs.Prelude as maybe
use Rattle.std.specs.Prelude.{Result, Ok, Err, ⊤, OnErr, IfOk}
use Rattle.base.proofs.Ways.{holds, fails, yes=, no=}
use Rattle.meaning.specs.declared.Address.{Address}
use Rattle.meaning.specs.declared.Extent.{Extent}
use Rattle.meaning.specs.declared.Geometry.{Geometry}
use Rattle.meaning.specs.declared.Refusal.{Refusal}
use Rattle.meaning.specs.declared.Refusal.TheVariants as refused
use Rattle.meaning.specs.Answer.{answer_by, no, ok}
use Rattle.meaning.specs.Flash.{Lent, image_of}
use Rattle.meaning.specs.Mount as meaning
use Rattle.meaning.specs.Mount.{mount_of}
use Rattle.used.specs.Bits.{listed, used_bits}
use Rattle.used.specs.declared.Erase.{Erase}
use Rattle.shown.specs.declared.Shown.{Shown}
use Rattle.shown.specs.Shown as show
use Rattle.shown.specs.Shown.{rows_shown, place_of}
use Rattle.outcome.specs.Outcome.{outcome_of, said_of}
use Rattle.outcome.proofs.Back.{said_back}
use Rattle.answer.specs.declared.Core.{Core}
use Rattle.answer.specs.Mounted.{insert_of, insertion_of, mounted, Sizes, mount_in, Blank, Cored}

-- ---- numbers say what they stand for

insert_back : (x : Option ℕ) → insert_of (insertion_of x) ≡ x
unfolding insert_of
insert_back none = sym (yes= 0 0 _ _ refl refl)
insert_back (some a) = sym (no= 1 0 _ _ (λ h. omega (arith, h)) refl)

-- ---- what is shown, told field by field

pub record Tells (s : Shown) (xs : List Extent) (r : Result ⊤ Refusal) (c : Core) : Type 0 where
  pub n : c.n ≡ s.files
  pub records : c.answer.records ≡ s.files
  pub runs : c.answer.runs ≡ s.extents
  pub applied : c.answer.applied ≡ s.applied
  pub ignored : c.answer.ignored ≡ s.ignored
  pub all : c.all ≡ s.records
  pub extents : c.answer.extents ≡ xs
  pub used : c.answer.used ≡ s.used
  pub erase : c.answer.erase ≡ s.erase
  pub insertion : c.answer.insertion ≡ insertion_of (place_of s.insertion)
  pub said : c.answer.said ≡ outcome_of r

-- the core that tells it
abbrev core : Shown → List Extent → Core
core s xs = record {
  all = s.records;
  n = s.files;
  answer = record {
    records = s.files;
    extents = xs;
    runs = s.extents;
    used = s.used;
    erase = s.erase;
    insertion = insertion_of (place_of s.insertion);
    applied = s.applied;
    ignored = s.ignored;
    said = outcome_of (Ok tt);
  };
}

one_core : (s : Shown) (xs : List Extent) (c : Core) → Tells s xs (Ok tt) c → c ≡ core s xs
one_core s xs c t = λ i. record {
  all = t.all i;
  n = t.n i;
  answer = record {
    records = t.records i;
    extents = t.extents i;
    runs = t.runs i;
    used = t.used i;
    erase = t.erase i;
    insertion = t.insertion i;
    applied = t.applied i;
    ignored = t.ignored i;
    said = t.said i;
  };
}

module _ (g : Geometry) (l : Lent) (places : ℕ) where
  -- "the record table has 256 places"
  pub in_256 : places ≡ 256 → mount_of g l ≡ mount_in g l places
  unfolding mount_in
  in_256 h = holds _ _ _ (eq-eqb places 256 h) refl

  pub in_other : (places ≡ 256 → ⊥) → no refused.Geometry ≡ mount_in g l places
  unfolding mount_in
  in_other h = fails _ _ _ (ne_eqb places 256 h) refl

  module _ (s : Shown) (rows : List (List ℕ)) (xs : List Extent) (e : take s.extents xs ≡ rows_shown rows s.extents) where
    sizes_by : show.Sizes g l s rows → Sizes (Ok tt) g l (core s xs).answer
    sizes_by h = (h.0, h.1, h.2, h.3 ∙ ap (λ (ys : List Extent). listed 1024 (used_bits g (image_of g l).labels ys)) (sym e))

    abbrev told : List Extent → Option ℕ → meaning.Mounted
    told ys i = record {
      tree = record { records = take s.files s.records; extents = ys; applied = s.applied; ignored = s.ignored };
      erase = take s.erase.count s.erase.blocks;
      insert = i;
    }

    core_is : show.showing (Ok s) rows ≡ mount_in g l places → show.Sizes g l s rows → s.files ≤ places → Cored g l places (core s xs)
    core_is z k h = record {
      same = refl;
      few = k.0;
      room = h;
      shows =
          ap (λ (x : Result ⊤ Refusal). answer_by (λ _. mounted (core s xs).answer s.records) x) (said_back (Ok tt))
          ∙ ap (λ (i : Option ℕ). ok (told (take s.extents xs) i)) (insert_back (place_of s.insertion))
          ∙ ap (λ (ys : List Extent). ok (told ys (place_of s.insertion))) e
          ∙ z;
      sized = (
        subst (λ (x : Result ⊤ Refusal). Sizes x g l (core s xs).answer) (sym (said_back (Ok tt))) (sizes_by k),
        ap outcome_of (sym (said_back (Ok tt))),
        ap insertion_of (sym (insert_back (place_of s.insertion))),
      );
    }

    pub cored : show.showing (Ok s) rows ≡ mount_in g l places → show.Sizes g l s rows → s.files ≤ places → (c : Core) → Tells s xs (Ok tt) c → Cored g l places c
    cored z k h c t = subst (Cored g l places) (sym (one_core s xs c t)) (core_is z k h)

  pub cored_refused : (c : Core) (x : Refusal) → Blank c x → no x ≡ mount_in g l places → Cored g l places c
  cored_refused c x b z =
      let said : said_of c.answer.said ≡ Err x = ap said_of b.2 ∙ said_back (Err x) in
      record {
        same = b.1.0 ∙ sym b.0;
        few = omega (arith, b.0);
        room = omega (arith, b.0);
        shows = ap (λ (y : Result ⊤ Refusal). answer_by (λ _. mounted c.answer c.all) y) said ∙ z;
        sized = (
          subst (λ (y : Result ⊤ Refusal). Sizes y g l c.answer) (sym said) b.1,
          b.2 ∙ ap outcome_of (sym said),
          b.3 ∙ ap insertion_of (sym (ap insert_of b.3 ∙ insert_back none)),
        );
      }

  -- how it ended, and what was lent to be shown in: a refusal leaves that silent
  pub cored_by : (r : Result ⊤ Refusal) (s z : Shown) (rows : List (List ℕ)) (xs : List Extent) → take s.extents xs ≡ rows_shown rows s.extents
      → show.Silent z → OnErr r (s ≡ z) → show.showing (show.told r s) rows ≡ mount_in g l places → show.Sized g l (show.told r s) rows
      → IfOk (show.told r s) (λ (k : Shown). k.files ≤ places) → (c : Core) → Tells s xs r c → Cored g l places c
  cored_by (Ok x) s z rows xs e q k a b d c t = cored s rows xs e a b d c t
  cored_by (Err x) s z rows xs e q k a b d c t =
      cored_refused c x (
        t.n ∙ ap (λ (y : Shown). y.files) k ∙ q.0,
        (t.records ∙ ap (λ (y : Shown). y.files) k ∙ q.0, t.runs ∙ ap (λ (y : Shown). y.extents) k ∙ q.1, ap (λ (y : Erase). y.count) t.erase ∙ ap (λ (y : Shown). y.erase.count) k ∙ q.2),
        t.said,
        t.insertion ∙ ap (λ (y : Shown). insertion_of (place_of y.insertion)) k ∙ ap (λ (i : maybe.Option Address). insertion_of (place_of i)) q.3,
      )
      a
