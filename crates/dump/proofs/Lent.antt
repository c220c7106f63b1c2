-- For callers: after a good dump the first places of the slices, lent on, are the image that the dump says, and they fit its sizes. With
-- room for 32 blocks and 32,768 bytes no dump is refused for want of it.
use Prim.Native.Nat.{ℕ, zero, suc, ◌+◌, ◌*◌, ◌≤◌}
use native.Mathlib.Nat.{mul-le-mul}
use native.Mathlib.Omega.{arith}
use mathlib.Core.Bool.{Bool, true, false}
use mathlib.Core.List.{List, [], ◌∷◌}
use mathlib.Core.Path.{◌≡◌, refl, sym, ap, ◌∙◌, subst}
use lib.ListN.{length, take, drop, replicate, length-replicate}
use lib.Seq.{take_at}
use lib.Dec.{ltb}
use Rattle.base.specs.Choice.{if_true, if_less, bind}
use Rattle.base.proofs.Choices.{all_less, all_bind, less_no}
use Rattle.std.specs.Prelude.{Option, Some, None, Result, Ok, Err}
use Rattle.base.proofs.Tests.{is_true, T-yes, makes, zero_one}
use Rattle.meaning.specs.declared.Geometry.{Geometry}
use Rattle.meaning.specs.declared.Refusal.{Refusal}
use Rattle.meaning.specs.declared.Refusal.TheVariants as refused
use Rattle.meaning.specs.Answer.{ok, no}
use Rattle.meaning.specs.Flash.{Lent, good_geometry, block_size, fits}
use Rattle.text.specs.declared.Field.{Field}
use Rattle.text.specs.Piece.{head_at, number_at, on_read, tab, newline}
use Rattle.text.specs.Put.{put}
use Rattle.text.proofs.Puts.{put_fits, length_put, take_put}
use Rattle.dump.specs.Lines.{right_sizes, small, sizes, first_at, label_at, page_at, places}
use Rattle.dump.specs.Dump.{on_ok, label_step, label_lines, page_lines, dump_of, bad_line}
use Rattle.dump.specs.Given.{the_tag, the_path, labels_from, bytes_from, pages_step, pages_from, content_bytes, image_at, given, answer, tags_after, paths_after, contents_after}
use Rattle.dump.specs.declared.Label.{Label}
use Rattle.dump.specs.declared.Page.{Page}
use Rattle.dump.specs.declared.Dump.{Dump}
use Rattle.dump.proofs.Sizes.{Right, right, block_least}

-- ---- what a G line that is taken says of its sizes

pub record Small (g : Geometry) : Type 0 where
  pub good : good_geometry g ≡ true
  pub bytes : content_bytes g ≤ 32768

abbrev pub OnOk : {A : Type 0} → (A → Type 0) → Result A Refusal → Type 0
OnOk P (Ok x) = P x
OnOk P (Err r) = Unit {0}

module _ {A : Type 0} (P : A → Type 0) where
  on_read_lem : {B : Type 0} (t : Option B) (r : Refusal) (k : B → Result A Refusal) → ((x : B) → t ≡ Some x → OnOk P (k x)) → OnOk P (on_read t (Err r) k)
  unfolding on_read
  on_read_lem (Some x) r k f = f x refl
  on_read_lem None r k f = tt

  on_ok_lem : {B : Type 0} (t : Result B Refusal) (k : B → Result A Refusal) → ((x : B) → t ≡ Ok x → OnOk P (k x)) → OnOk P (on_ok t Err k)
  unfolding on_ok
  on_ok_lem (Ok x) k f = f x refl
  on_ok_lem (Err r) k f = tt

abbrev SmallSizes : Field Geometry → Type 0
SmallSizes f = Small f.value

right_good : (g : Geometry) {h : Geometry} → right_sizes g ≡ Some h → good_geometry h ≡ true
unfolding right_sizes if_true
right_good g e = go (good_geometry g) refl e
  where
    go : (b : Bool) → good_geometry g ≡ b → {h : Geometry} → if_true b (Some g) None ≡ Some h → good_geometry h ≡ true
    go true q e = cc
    go false q e = absurd (zero_one (cc))

sized_small : (g : Geometry) (n line : ℕ) → good_geometry g ≡ true → OnOk SmallSizes (small g n line)
unfolding small content_bytes
sized_small g n line e =
    all_bind (OnOk SmallSizes) (block_size g) _ (all_less (OnOk SmallSizes) 32768 (g.blocks * block_size g) _ _ (λ h. tt) (λ h. record { good = e; bytes = h }))

first_small : (s : List ℕ) (at line : ℕ) → OnOk SmallSizes (first_at s at line)
unfolding first_at bind
first_small s at line =
    on_read_lem SmallSizes (head_at s at 71) _ _ (λ i h. on_read_lem SmallSizes (number_at s i tab) _ _ (λ size h.
    on_read_lem SmallSizes (number_at s size.next tab) _ _ (λ pages h. on_read_lem SmallSizes (number_at s pages.next newline) _ _ (λ blocks h.
    on_read_lem SmallSizes (right_sizes (sizes size.value pages.value blocks.value)) _ _ (λ g e. sized_small g blocks.next line (right_good _ e))))))

-- a block has at least 1,024 bytes
pub few_blocks : (g : Geometry) → Small g → g.blocks ≤ 32
unfolding content_bytes
few_blocks g w =
    let r : Right g = right g refl w.good in
    let h : g.blocks ≤ g.blocks = omega arith in
    let q : g.blocks * 1024 ≤ g.blocks * block_size g = mul-le-mul h (block_least g refl r) in
    omega (arith, w.bytes)

-- ---- what a good dump has

pub record Whole (s : List ℕ) (first : ℕ) (d : Dump) : Type 0 where
  pub small : Small d.geometry
  pub lines : label_lines s d.geometry.blocks d.labels (first + 1) ≡ Ok d.pages

whole : (s : List ℕ) (first : ℕ) → OnOk (Whole s first) (dump_of s first)
unfolding dump_of
whole s first =
    on_ok_lem (Whole s first) (first_at s 0 first) _ (λ sizes e.
    on_ok_lem (Whole s first) (label_lines s sizes.value.blocks sizes.next (first + 1)) _ (λ pages f.
    on_ok_lem (Whole s first) (page_lines s sizes.value (places sizes.value + 1) pages (first + 1 + sizes.value.blocks) 0) _ (λ end h.
    record { small = subst (OnOk SmallSizes) e (first_small s 0 first); lines = f })))

pub whole_dump : (s : List ℕ) (first : ℕ) {d : Dump} → dump_of s first ≡ Ok d → Whole s first d
whole_dump s first e = subst (OnOk (Whole s first)) e (whole s first)

-- ---- an answer with room for it

pub record Taken (s : List ℕ) (first tags paths bytes : ℕ) (d : Dump) : Type 0 where
  pub dump : dump_of s first ≡ Ok d
  pub tags_fit : d.geometry.blocks ≤ tags
  pub paths_fit : d.geometry.blocks ≤ paths
  pub bytes_fit : content_bytes d.geometry ≤ bytes

taken : (s : List ℕ) (first t p b : ℕ) → OnOk (Taken s first t p b) (answer s first t p b)
unfolding answer content_bytes
taken s first t p b =
    on_ok_lem (Taken s first t p b) (dump_of s first) _ (λ d e.
    all_less (OnOk (Taken s first t p b)) t d.geometry.blocks _ _ (λ h. tt) (λ h.
    all_less (OnOk (Taken s first t p b)) p d.geometry.blocks _ _ (λ h. tt) (λ k.
    all_bind (OnOk (Taken s first t p b)) (block_size d.geometry) _ (all_less (OnOk (Taken s first t p b)) b (d.geometry.blocks * block_size d.geometry) _ _ (λ h. tt) (λ l.
    record { dump = e; tags_fit = h; paths_fit = k; bytes_fit = l })))))

pub taken_answer : (s : List ℕ) (first t p b : ℕ) {d : Dump} → answer s first t p b ≡ Ok d → Taken s first t p b d
taken_answer s first t p b e = subst (OnOk (Taken s first t p b)) e (taken s first t p b)

-- what a caller needs to lend the slices on
pub record Fit (g : Geometry) (tags paths bytes : ℕ) : Type 0 where
  pub good : good_geometry g ≡ true
  pub most : g.blocks * block_size g ≤ 32768
  pub few : g.blocks ≤ 32
  pub tags_fit : g.blocks ≤ tags
  pub paths_fit : g.blocks ≤ paths
  pub bytes_fit : g.blocks * block_size g ≤ bytes

pub fine_fit : (s : List ℕ) (first t p b : ℕ) {d : Dump} → answer s first t p b ≡ Ok d → Fit d.geometry t p b
unfolding content_bytes
fine_fit s first t p b {d} e =
    let a = taken_answer s first t p b e in
    let w = (whole_dump s first a.dump).small in
    record { good = w.good; most = w.bytes; few = few_blocks d.geometry w; tags_fit = a.tags_fit; paths_fit = a.paths_fit; bytes_fit = a.bytes_fit }

-- with room for 32 blocks and 32,768 bytes, the answer is what the dump says
pub roomy : (s : List ℕ) (first t p b : ℕ) → 32 ≤ t → 32 ≤ p → 32768 ≤ b → answer s first t p b ≡ dump_of s first
unfolding answer on_ok bind content_bytes
roomy s first t p b ht hp hb = go (dump_of s first) (whole s first)
  where
    go : (o : Result Dump Refusal) → OnOk (Whole s first) o
        → on_ok o Err (λ d. if_less t d.geometry.blocks (Err refused.Geometry) (if_less p d.geometry.blocks (Err refused.Geometry)
        (if_less b (d.geometry.blocks * block_size d.geometry) (Err refused.Geometry) (Ok d)))) ≡ o
    go (Err r) w = refl
    go (Ok d) w =
        let f : d.geometry.blocks ≤ 32 = few_blocks d.geometry w.small in
        let k : d.geometry.blocks * block_size d.geometry ≤ 32768 = w.small.bytes in
        less_no t d.geometry.blocks _ _ (omega arith) ∙ less_no p d.geometry.blocks _ _ (omega arith)
        ∙ less_no b (d.geometry.blocks * block_size d.geometry) _ _ (omega arith)

-- ---- the image

-- as many labels as B lines
pub labels_length : (f : ℕ → ℕ → ℕ) (s : List ℕ) (n at line end : ℕ) → label_lines s n at line ≡ Ok end → length (labels_from f s n at) ≡ n
unfolding labels_from label_lines label_step on_read
labels_length f s zero at line end e = refl
labels_length f s (suc n) at line end e = go (label_at s at) (λ next h. labels_length f s n next (line + 1) end h) e
  where
    go : (o : Option Label) → ((next : ℕ) → label_lines s n next (line + 1) ≡ Ok end → length (labels_from f s n next) ≡ n)
        → on_read o (bad_line line) (λ x. label_lines s n x.next (line + 1)) ≡ Ok end
        → length (on_read o [] (λ x. f x.tag x.path ∷ labels_from f s n x.next)) ≡ suc n
    go None ih e = absurd (zero_one (cc))
    go (Some x) ih e = ap suc (ih x.next e)

-- the contents keep their length, and what is past n of them does not reach what is before
module _ (s : List ℕ) (g : Geometry) where
  pub pages_length : (left at : ℕ) (l : List ℕ) → length (pages_from s g left at l) ≡ length l
  unfolding pages_from pages_step on_read if_less if_true
  pages_length zero at l = refl
  pages_length (suc left) at l = go (ltb at (length s)) (page_at s at g) (λ next m. pages_length left next m)
    where
      go : (b : Bool) (o : Option Page) → ((next : ℕ) (m : List ℕ) → length (pages_from s g left next m) ≡ length m)
          → length (if_true b (on_read o l (λ x. pages_from s g left x.next (put l (x.place * g.size) (bytes_from s x.count x.from)))) l) ≡ length l
      go false o ih = refl
      go true None ih = refl
      go true (Some x) ih =
          ih x.next (put l (x.place * g.size) (bytes_from s x.count x.from)) ∙ length_put l (x.place * g.size) (bytes_from s x.count x.from)

  pub take_pages : (n left at : ℕ) (l : List ℕ) → n ≤ length l → take n (pages_from s g left at l) ≡ pages_from s g left at (take n l)
  unfolding pages_from pages_step on_read if_less if_true
  take_pages n zero at l h = refl
  take_pages n (suc left) at l h = go (ltb at (length s)) (page_at s at g) (λ next m k. take_pages n left next m k)
    where
      go : (b : Bool) (o : Option Page) → ((next : ℕ) (m : List ℕ) → n ≤ length m → take n (pages_from s g left next m) ≡ pages_from s g left next (take n m))
          → take n (if_true b (on_read o l (λ x. pages_from s g left x.next (put l (x.place * g.size) (bytes_from s x.count x.from)))) l)
          ≡ if_true b (on_read o (take n l) (λ x. pages_from s g left x.next (put (take n l) (x.place * g.size) (bytes_from s x.count x.from)))) (take n l)
      go false o ih = refl
      go true None ih = refl
      go true (Some x) ih =
          let k : n ≤ length (put l (x.place * g.size) (bytes_from s x.count x.from)) = rw (length_put l (x.place * g.size) (bytes_from s x.count x.from)) h in
          ih x.next (put l (x.place * g.size) (bytes_from s x.count x.from)) k
          ∙ ap (λ (m : List ℕ). pages_from s g left x.next m) (take_put n l (x.place * g.size) (bytes_from s x.count x.from) h)

-- what is put whole into the first n places
front : (n : ℕ) (l xs : List ℕ) → length xs ≡ n → n ≤ length l → take n (put l 0 xs) ≡ xs
front n l xs e h =
    let k : 0 + length xs ≤ length l = omega arith in
    rw (put_fits l 0 xs k) (take_at xs (drop (0 + length xs) l) n e)

-- the first places of the slices, lent on
abbrev pub lent_on : Geometry → List ℕ → List ℕ → List ℕ → Lent
lent_on g tags paths contents = record { tags = take g.blocks tags; paths = take g.blocks paths; contents = take (content_bytes g) contents }

module _ (s : List ℕ) (first : ℕ) (tags paths contents : List ℕ) (d : Dump)
    (e : answer s first (length tags) (length paths) (length contents) ≡ Ok d) where
  it : Taken s first (length tags) (length paths) (length contents) d
  it = taken_answer s first (length tags) (length paths) (length contents) e

  dump : Whole s first d
  dump = whole_dump s first it.dump

  -- the slices hold the image
  pub lends : lent_on d.geometry (tags_after (Ok d) s tags) (paths_after (Ok d) s paths) (contents_after (Ok d) s contents)
      ≡ image_at s d.geometry d.labels d.pages
  unfolding image_at tags_after paths_after contents_after
  lends =
      let g : Geometry = d.geometry in
      let t = front g.blocks tags (labels_from the_tag s g.blocks d.labels)
      (labels_length the_tag s g.blocks d.labels (first + 1) d.pages dump.lines) it.tags_fit
      in
      let p = front g.blocks paths (labels_from the_path s g.blocks d.labels)
      (labels_length the_path s g.blocks d.labels (first + 1) d.pages dump.lines) it.paths_fit
      in
      let b = front (content_bytes g) contents (replicate (content_bytes g) 0xff) (length-replicate (content_bytes g) 0xff) it.bytes_fit in
      let k : content_bytes g ≤ length (put contents 0 (replicate (content_bytes g) 0xff)) = rw (length_put contents 0 (replicate (content_bytes g) 0xff)) it.bytes_fit in
      let q = take_pages s g (content_bytes g) (places g + 1) d.pages (put contents 0 (replicate (content_bytes g) 0xff)) k
      ∙ ap (λ (m : List ℕ). pages_from s g (places g + 1) d.pages m) b in
      rw (t, p, q)

  -- and the image fits the sizes
  pub lends_fits : fits d.geometry (image_at s d.geometry d.labels d.pages) ≡ true
  unfolding fits image_at content_bytes
  lends_fits =
      let g : Geometry = d.geometry in
      let t = labels_length the_tag s g.blocks d.labels (first + 1) d.pages dump.lines in
      let p = labels_length the_path s g.blocks d.labels (first + 1) d.pages dump.lines in
      let c = pages_length s g (places g + 1) d.pages (replicate (g.blocks * block_size g) 0xff) ∙ length-replicate (g.blocks * block_size g) 0xff in
      let w = T-yes _ dump.small.good in
      is_true (fits g (image_at s g d.labels d.pages)) (search makes)

  pub gives : given s first ≡ ok (record { geometry = d.geometry; lent = image_at s d.geometry d.labels d.pages })
  unfolding given on_ok
  gives = rw it.dump

-- a refusal, where there is room, is the dump's own
pub gives_no : (s : List ℕ) (first t p b : ℕ) (r : Refusal) → 32 ≤ t → 32 ≤ p → 32768 ≤ b → answer s first t p b ≡ Err r → given s first ≡ no r
unfolding given on_ok
gives_no s first t p b r ht hp hb e = rw (sym (roomy s first t p b ht hp hb) ∙ e)
