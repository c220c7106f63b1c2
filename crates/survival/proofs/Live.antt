-- Which blocks count, as facts; and what labels keep of others when blocks that do not count lose theirs.
use mathlib.Core.Path.{◌≡◌, refl, sym, ap, ◌∙◌, subst}
use mathlib.Core.Logic.{◌≢◌, ◌⊎◌, inl, inr, ⊎_elim}
use mathlib.Core.Bool.{Bool, true, false, not, ◌&&◌, ◌||◌}
use mathlib.Core.Option.{Option, none, some}
use Prim.Native.Nat.{ℕ, ◌<◌}
use native.Mathlib.Omega.{arith}
use lib.Dec.{T, ltb, eqb→eq}
use Rattle.base.specs.Choice.{if_true, if_eq, test, provided}
use Rattle.base.specs.Scan.{any, first}
use Rattle.base.proofs.Tests.{T-not→, →T_not, T-ext, T-dec, and_r, and_i, or_cases, eqb_of, zero_one, tests, makes}
use Rattle.base.proofs.Scans.{any_intro, Found, any_elim, Stands, first_stands}
use Rattle.meaning.specs.declared.Tag.{Tag}
use Rattle.meaning.specs.declared.Tag.TheVariants.{Free, Boot, Log, Data, Unknown}
use Rattle.meaning.specs.Flash.{Labels, Image, tag_of, byte_of, same_tag, r_of, copy_of, successor, follows}
use Rattle.meaning.specs.Labels.{same_block, newer, clash, unresolved, older, counts, view, is, find}

-- ---- tags

pub read_back : (t : Tag) → tag_of (byte_of t) ≡ t
unfolding tag_of byte_of if_eq if_true
read_back Free = refl
read_back Boot = refl
read_back Log = refl
read_back Data = refl
read_back Unknown = refl

pub same_tag→ : (s t : Tag) → T (same_tag s t) → s ≡ t
unfolding same_tag
same_tag→ s t h = sym (read_back s) ∙ ap tag_of (eqb→eq _ _ h) ∙ read_back t

pub →same_tag : {s t : Tag} → s ≡ t → T (same_tag s t)
unfolding same_tag
→same_tag e = eqb_of (ap byte_of e)

pub not_same_tag : (s t : Tag) → T (not (same_tag s t)) → s ≢ t
not_same_tag s t h e = T-not→ (same_tag s t) h (→same_tag e)

pub →not_same_tag : (s t : Tag) → s ≢ t → T (not (same_tag s t))
→not_same_tag s t f = →T_not (same_tag s t) (λ h. f (same_tag→ s t h))

-- no block that counts is free
pub not_free : (Boot ≢ Free) × (Log ≢ Free) × (Data ≢ Free)
not_free = (λ e. zero_one (cc), λ e. zero_one (cc), λ e. zero_one (cc))

pub ruleset label_tests = (tests, same_tag→, not_same_tag)

pub ruleset label_makes = (makes, →same_tag, →not_same_tag)

-- ---- copies

-- j is the copy of i that follows it
pub record Newer (m : Labels) (j i : ℕ) : Type 0 where
  pub taken : m.tag i ≢ Free
  pub tag : m.tag j ≡ m.tag i
  pub r : r_of (m.path j) ≡ r_of (m.path i)
  pub next : copy_of (m.path j) ≡ successor (copy_of (m.path i))

pub same→ : (m : Labels) (i j : ℕ) → T (same_block m i j) → (m.tag i ≢ Free) × (m.tag j ≡ m.tag i) × (r_of (m.path j) ≡ r_of (m.path i))
unfolding same_block
same→ m i j t = search label_tests

pub →same : (m : Labels) (i j : ℕ) → m.tag i ≢ Free → m.tag j ≡ m.tag i → r_of (m.path j) ≡ r_of (m.path i) → T (same_block m i j)
unfolding same_block
→same m i j f e q = search label_makes

pub newer→ : (m : Labels) (j i : ℕ) → T (newer m j i) → Newer m j i
unfolding newer follows same_block
newer→ m j i t = search label_tests

pub →newer : (m : Labels) (j i : ℕ) → Newer m j i → T (newer m j i)
unfolding newer follows same_block
→newer m j i w = search label_makes

-- every two copies follow one another
abbrev pub Clean : ℕ → Labels → Type 0
Clean n m = (i j : ℕ) → i < n → j < n → T (clash m i j) → ⊥

pub clean_of : (n : ℕ) (m : Labels) → ((i : ℕ) → i < n → T (unresolved n m i) → ⊥) → Clean n m
unfolding unresolved clash
clean_of n m f i j hi hj t =
    let s : T (same_block m i j) = search tests in
    let self : T (same_block m i i) = →same m i i (same→ m i j s).0 refl refl in
    f i hi (any_intro _ _ i hi (and_i (same_block m i i) (any n (clash m i)) self (any_intro _ (clash m i) j hj t)))

pub →unresolved : (n : ℕ) (m : Labels) → Clean n m → (i : ℕ) → i < n → T (unresolved n m i) → ⊥
unfolding unresolved
→unresolved n m c i hi t =
    let a : Found n (λ j. same_block m i j && any n (clash m j)) = any_elim _ _ t in
    let b : Found n (clash m a.place) = any_elim _ _ (and_r (same_block m i a.place) _ a.passes) in
    c a.place b.place a.below b.below b.passes

-- of three copies in a row, first and last do not follow each other
gens : (p q s : ℕ) → copy_of q ≡ successor (copy_of p) → copy_of s ≡ successor (copy_of q)
    → (copy_of s ≢ copy_of p) × (copy_of s ≢ successor (copy_of p)) × (copy_of p ≢ successor (copy_of s))
unfolding copy_of successor
gens p q s e f = (λ x. omega arith, λ x. omega arith, λ x. omega arith)

pub no_chain : (n : ℕ) (m : Labels) → Clean n m → (i y z : ℕ) → i < n → z < n → T (newer m y i) → T (newer m z y) → ⊥
unfolding clash
no_chain n m c i y z hi hz a b =
    let p : Newer m y i = newer→ m y i a in
    let q : Newer m z y = newer→ m z y b in
    let g = gens (m.path i) (m.path y) (m.path z) p.next q.next in
    let zi : m.tag i ≡ m.tag z = sym (q.tag ∙ p.tag) in
    let ne : z ≢ i = λ e. g.0 (ap (λ (k : ℕ). copy_of (m.path k)) e) in
    let sm : T (same_block m z i) = →same m z i (λ e. p.taken (zi ∙ e)) zi (sym (q.r ∙ p.r)) in
    let un : T (newer m z i || newer m i z) → ⊥ =
    λ t. ⊎_elim (λ u. g.1 (newer→ m z i u).next) (λ u. g.2 (newer→ m i z u).next) (or_cases (newer m z i) (newer m i z) t) in
    c z i hz hi (search makes)

-- ---- blocks that count

-- i counts for tag t and r
pub record Counts (n : ℕ) (m : Labels) (t : Tag) (k i : ℕ) : Type 0 where
  pub below : i < n
  pub tag : m.tag i ≡ t
  pub r : r_of (m.path i) ≡ k
  pub newest : T (older n m i) → ⊥

is_provided : (b : Bool) (x r : ℕ) → T (is (provided b x) r) → T b × (x ≡ r)
unfolding is test provided
is_provided true x r t = (tt, eqb→eq x r t)
is_provided false x r t = absurd t

→is_provided : (b : Bool) (x r : ℕ) → T b → x ≡ r → T (is (provided b x) r)
unfolding is test provided
→is_provided true x r t e = eqb_of e
→is_provided false x r t e = t

pub counts→ : (n : ℕ) (m : Labels) (t : Tag) (r i : ℕ) → T (is (view n m t i) r) → Counts n m t r i
unfolding view counts
counts→ n m t r i h =
    let s = is_provided (counts n m t i) _ r h in
    let b : T (ltb i n && same_tag (m.tag i) t && not (older n m i)) = s.0 in
    record { below = search tests; tag = search label_tests; r = s.1; newest = T-not→ (older n m i) (search tests) }

pub →counts : (n : ℕ) (m : Labels) (t : Tag) (r i : ℕ) → Counts n m t r i → T (is (view n m t i) r)
unfolding view counts
→counts n m t r i c = →is_provided (counts n m t i) _ r (search (label_makes, c.newest)) c.r

-- the one block that counts is found
pub find_sole : (n : ℕ) (m : Labels) (t : Tag) (r i : ℕ) → Counts n m t r i → ((x : ℕ) → Counts n m t r x → x ≡ i) → find n (view n m t) r ≡ some i
unfolding find
find_sole n m t r i c f = go (first n (λ x. is (view n m t x) r)) (first_stands n (λ x. is (view n m t x) r))
  where
    go : (o : Option ℕ) → Stands n (λ x. is (view n m t x) r) o → o ≡ some i
    go none s = absurd (s i c.below (→counts n m t r i c))
    go (some x) s = ap {B = Option ℕ} some (f x (counts→ n m t r x s.1))

-- of an older copy, the one that counts
pub record Newest (n : ℕ) (m : Labels) (i : ℕ) : Type 0 where
  pub place : ℕ
  pub over : T (newer m place i)
  pub counts : Counts n m (m.tag i) (r_of (m.path i)) place

pub newest_of : (n : ℕ) (m : Labels) → Clean n m → (i : ℕ) → i < n → T (older n m i) → Newest n m i
unfolding older
newest_of n m c i hi t =
    let f : Found n (λ j. newer m j i) = any_elim _ _ t in
    let w : Newer m f.place i = newer→ m f.place i f.passes in
    record {
      place = f.place;
      over = f.passes;
      counts = record {
        below = f.below;
        tag = w.tag;
        r = w.r;
        newest = λ o. let h : Found n (λ j. newer m j f.place) = any_elim _ _ o in
            no_chain n m c i f.place h.place hi h.below f.passes h.passes;
      };
    }

-- ---- labels that are as they were

-- place i has the same label in both
abbrev pub Like : Labels → Labels → ℕ → Type 0
Like m m' i = (m'.tag i ≡ m.tag i) × (m'.path i ≡ m.path i)

module _ (m m' : Labels) (i j : ℕ) (a : Like m m' i) (b : Like m m' j) where
  pub same_like : same_block m' i j ≡ same_block m i j
  unfolding same_block
  same_like = rw (a.0, a.1, b.0, b.1)

  pub newer_like : newer m' i j ≡ newer m i j
  unfolding newer same_block
  newer_like = rw (a.0, a.1, b.0, b.1)

  pub clash_like : clash m' i j ≡ clash m i j
  unfolding clash newer same_block
  clash_like = rw (a.0, a.1, b.0, b.1)

-- ---- what is lost

-- Blocks of E may hold other bytes, and may have become free. The others are as they were.
pub record Damaged (E : ℕ → Bool) (m m' : Image) : Type 0 where
  pub kept : (i : ℕ) → (T (E i) → ⊥) → (m'.labels.tag i ≡ m.labels.tag i) × (m'.labels.path i ≡ m.labels.path i) × (m'.bytes i ≡ m.bytes i)
  pub loose : (i : ℕ) → T (E i) → ((m'.labels.tag i ≡ m.labels.tag i) × (m'.labels.path i ≡ m.labels.path i)) ⊎ (m'.labels.tag i ≡ Free)

module _ (E : ℕ → Bool) (m m' : Image) (d : Damaged E m m') where
  pub keeps : (i : ℕ) → (T (E i) → ⊥) → Like m.labels m'.labels i
  keeps i f = let k = d.kept i f in (k.0, k.1)

  pub free_or_stays : (i : ℕ) → (m'.labels.tag i ≡ Free) ⊎ Like m.labels m'.labels i
  free_or_stays i = ⊎_elim (λ (t : T (E i)). ⊎_elim (λ s. inr s) (λ e. inl e) (d.loose i t)) (λ (f : T (E i) → ⊥). inr (keeps i f)) (T-dec (E i))

  -- what is not free now has its label still
  pub stays : (i : ℕ) → m'.labels.tag i ≢ Free → Like m.labels m'.labels i
  stays i f = ⊎_elim (λ e. absurd (f e)) (λ s. s) (free_or_stays i)

  -- copies that are there now were copies before
  pub pair : (i j : ℕ) → T (same_block m'.labels i j) → Like m.labels m'.labels i × Like m.labels m'.labels j
  pair i j s = let f = same→ m'.labels i j s in (stays i f.0, stays j (λ e. f.0 (sym f.1 ∙ e)))

  pub newer_back : (j i : ℕ) → T (newer m'.labels j i) → T (newer m.labels j i)
  unfolding newer
  newer_back j i t =
      let s : T (same_block m'.labels i j) = search tests in
      let p = pair i j s in
      subst T (newer_like m.labels m'.labels j i p.1 p.0) t

  pub clean_back : (n : ℕ) → Clean n m.labels → Clean n m'.labels
  unfolding clash
  clean_back n c i j hi hj t =
      let s : T (same_block m'.labels i j) = search tests in
      let p = pair i j s in
      c i j hi hj (subst T (clash_like m.labels m'.labels i j p.0 p.1) t)

  -- a block whose live copy is not in E counts where it did
  pub same_view : (n : ℕ) → Clean n m.labels → (t : Tag) (r : ℕ) → t ≢ Free → ((i : ℕ) → Counts n m.labels t r i → T (E i) → ⊥)
      → (i : ℕ) → is (view n m'.labels t i) r ≡ is (view n m.labels t i) r
  unfolding older
  same_view n c t r ft keep i = T-ext _ _
      (λ h.
      let k : Counts n m'.labels t r i = counts→ n _ t r i h in
      let a = stays i (λ e. ft (sym k.tag ∙ e)) in
      let ti : m.labels.tag i ≡ t = sym a.0 ∙ k.tag in
      let ri : r_of (m.labels.path i) ≡ r = sym (ap r_of a.1) ∙ k.r in
      →counts n m.labels t r i (record {
        below = k.below;
        tag = ti;
        r = ri;
        newest = λ o.
            let w : Newest n m.labels i = newest_of n m.labels c i k.below o in
            let live : Counts n m.labels t r w.place =
            record { below = w.counts.below; tag = w.counts.tag ∙ ti; r = w.counts.r ∙ ri; newest = w.counts.newest } in
            let b = keeps w.place (keep w.place live) in
            k.newest (any_intro _ _ w.place live.below (subst T (sym (newer_like m.labels m'.labels w.place i b a)) w.over));
      }))
      (λ h.
      let k : Counts n m.labels t r i = counts→ n m.labels t r i h in
      let a = keeps i (keep i k) in
      →counts n m'.labels t r i (record {
        below = k.below;
        tag = a.0 ∙ k.tag;
        r = ap r_of a.1 ∙ k.r;
        newest = λ o. let f : Found n (λ j. newer m'.labels j i) = any_elim _ _ o in
            k.newest (any_intro _ _ f.place f.below (newer_back f.place i f.passes));
      }))
