-- The whole listing by its parts.
use Prim.Native.Nat.{ℕ, ◌*◌, ◌≤◌}
use mathlib.Core.List.{List, map}
use mathlib.Core.Path.{◌≡◌, sym, subst, ◌∙◌}
use lib.ListN.{length, take, length-map}
use lib.Seq.{length-take-le}
use Rattle.std.specs.Prelude.{Result, Ok, Err}
use Rattle.meaning.specs.declared.Geometry.{Geometry}
use Rattle.meaning.specs.declared.Refusal.{Refusal}
use Rattle.meaning.specs.Answer.{Answer}
use Rattle.meaning.specs.Flash.{Lent, block_size}
use Rattle.meaning.specs.Mount.{Mounted, mount_of}
use Rattle.extent.specs.Rows.{extent_of}
use Rattle.plan.specs.Select.{lent}
use Rattle.shown.specs.declared.Shown.{Shown}
use Rattle.shown.specs.Shown.{mounted, showing, Sized, Sizes}
use Rattle.dump.specs.declared.Dump.{Dump}
use Rattle.dump.specs.Given.{answer, content_bytes, image_at, tags_after, paths_after, contents_after}
use Rattle.dump.proofs.Lent.{fine_fit, lent_on, lends, gives, gives_no}
use Rattle.listing.specs.Wrote.{Wrote}
use Rattle.listing.specs.Lines.{total_line, refusal_line}
use Rattle.listing.specs.Listing.{file_lines, mount_lines, listing, listed}
use Rattle.lister.proofs.Lists.{place_same}
use Rattle.listing.proofs.Ways.{wrote_then}

module _ {l m : List ℕ} {at to : ℕ} where
  -- ---- a mount: T, then the files

  pub mount_wrote : {k : List ℕ} {line : ℕ} (r : Shown) (rows : List (List ℕ)) (contents : List ℕ) → r.files ≤ length r.records
      → r.extents ≤ length rows
      → Wrote l at (total_line r.files r.extents r.applied r.ignored r.insertion) k line
      → Wrote k line (file_lines contents (map extent_of (take r.extents rows)) (take r.files r.records)) m to
      → Wrote l at (mount_lines (mounted r rows) contents) m to
  unfolding mount_lines
  mount_wrote r rows contents hf he v w =
      let f : length (take r.files r.records) ≡ r.files = length-take-le r.files r.records hf in
      let x : length (map extent_of (take r.extents rows)) ≡ r.extents = length-map (take r.extents rows) extent_of ∙ length-take-le r.extents rows he in
      wrote_then _ _ (rw (f, x, place_same r.insertion) v) w

  -- ---- what is shown, or its refusal

  module _ {a : Answer Mounted} (contents : List ℕ) {s : Result Shown Refusal} (rows : List (List ℕ)) (z : showing s rows ≡ a) where
    pub whole_wrote : {r : Shown} → s ≡ Ok r → Wrote l at (mount_lines (mounted r rows) contents) m to → Wrote l at (listing a contents) m to
    unfolding listing
    whole_wrote e w = rw (sym z, e) w

    pub stopped_wrote : {x : Refusal} → s ≡ Err x → Wrote l at (refusal_line x) m to → Wrote l at (listing a contents) m to
    unfolding listing
    stopped_wrote e w = rw (sym z, e) w

  -- ---- a text

  pub bad_wrote : {d : Result Dump Refusal} {x : Refusal} (s : List ℕ) (first tags paths bytes : ℕ) → d ≡ answer s first tags paths bytes → d ≡ Err x
      → 32 ≤ tags → 32 ≤ paths → 32768 ≤ bytes → Wrote l at (refusal_line x) m to → Wrote l at (listed s first) m to
  unfolding listed
  bad_wrote {d} {x} s first tags paths bytes z e ht hp hb w = rw (gives_no s first tags paths bytes x ht hp hb (sym z ∙ e), listed) w

  module _ (s : List ℕ) (first : ℕ) (tags paths contents : List ℕ) {a : Result Dump Refusal} (z : a ≡ answer s first (length tags) (length paths) (length contents)) where
    pub good_wrote : {d : Dump} {t p c : List ℕ} {n b : ℕ} → a ≡ Ok d → t ≡ tags_after a s tags
        → p ≡ paths_after a s paths
        → c ≡ contents_after a s contents → n ≡ d.geometry.blocks → b ≡ block_size d.geometry
        → Wrote l at (listing (mount_of d.geometry (lent (take n t) (take n p) (take (n * b) c))) (take (n * b) c)) m to
        → Wrote l at (listed s first) m to
    unfolding listed content_bytes
    good_wrote {d} {t} {p} {c} {n} {b} e et ep ec en eb w =
        let g : Geometry = d.geometry in
        let i = lends s first tags paths contents d (sym z ∙ e) in
        let v : Wrote l at (listing (mount_of g (lent (take g.blocks t) (take g.blocks p) (take (g.blocks * block_size g) c)))
        (take (g.blocks * block_size g) c)) m to
        = rw (en, eb) at w in
        let q : lent_on g t p c ≡ image_at s g d.labels d.pages = rw (et, ep, ec, e) i in
        rw (gives s first tags paths contents d (sym z ∙ e), listed) (subst (λ (x : Lent). Wrote l at (listing (mount_of g x)
        x.contents) m to) q v)

pub sized_few : (g : Geometry) (l : Lent) {s : Result Shown Refusal} {r : Shown} (rows : List (List ℕ)) → Sized g l s rows → s ≡ Ok r
    → (r.files ≤ 256) × (r.files ≤ length r.records) × (r.extents ≤ 1024)
sized_few g l {s} {r} rows h e = let k : Sizes g l r rows = rw e at h in (k.0, k.6, k.1)

module _ (s : List ℕ) (first tags paths bytes : ℕ) {a : Result Dump Refusal} (z : a ≡ answer s first tags paths bytes) {d : Dump} (e : a ≡ Ok d) where
  pub blocks_few : {n : ℕ} → n ≡ d.geometry.blocks → n ≤ 32
  blocks_few h = rw h (fine_fit s first tags paths bytes (sym z ∙ e)).few

  pub bytes_few : {n b : ℕ} → n ≡ d.geometry.blocks → b ≡ block_size d.geometry → n * b ≤ 32768
  bytes_few h k = rw (h, k) (fine_fit s first tags paths bytes (sym z ∙ e)).most
