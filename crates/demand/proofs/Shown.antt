-- What an image shows, its slices show: the strings and the reads too. Spare blocks may be spent, and nothing shows.
use mathlib.Core.Path.{◌≡◌, refl, ap, ap₂, ◌∙◌}
use mathlib.Core.Bool.{Bool}
use mathlib.Core.List.{List, [], ◌∷◌, ◌++◌}
use Prim.Native.Nat.{ℕ, zero, suc, ◌+◌, ◌<◌}
use lib.ListN.{length, drop}
use Rattle.base.specs.Member.{All}
use Rattle.base.proofs.Tests.{T-yes, zero_one}
use Rattle.base.proofs.Choices.{all_true, if_yes}
use Rattle.meaning.specs.declared.Geometry.{Geometry}
use Rattle.meaning.specs.declared.Extent.{Extent}
use Rattle.meaning.specs.declared.Step.{Step}
use Rattle.meaning.specs.Answer.{Answer, ok, no, and_then}
use Rattle.meaning.specs.Flash.{Lent, Image, image_of, fits}
use Rattle.meaning.specs.Log.{replayed}
use Rattle.meaning.specs.Mount.{Mounted, mount, mount_of, file_byte}
use Rattle.meaning.specs.Services.{bytes_from, copied, readable, read, buffer_after}
use Rattle.meaning.specs.Cut.{Cut, Shows}
use Rattle.replayed.specs.Shape.{Sorted}
use Rattle.replayed.proofs.Shape.{replay_shape}
use Rattle.replayed.proofs.Texts.{same_strings}
use Rattle.survival.proofs.Survive.{accepted→, ShowsImage, Spare, spare_shows}
use Rattle.demand.proofs.Blocks.{Fits, fits→, →fits, size_pos, pages_pos}
use Rattle.demand.proofs.Cuts.{Spends, untouched, spent}

-- ---- an accepted mount

not_empty : (xs : List Extent) → Sorted xs → All (λ (x : Extent). 0 < x.count) xs
not_empty [] s = tt
not_empty (x ∷ xs) s = (s.0, not_empty xs s.2)

-- what an accepted mount says of the slices
pub record Mounts (g : Geometry) (l : Lent) (a : Mounted) : Type 0 where
  pub fit : Fits g l
  pub mounted : mount g (image_of g l) ≡ ok a
  pub size : 0 < g.size
  pub pages : 0 < g.pages
  pub extents : All (λ (x : Extent). 0 < x.count) a.tree.extents

pub mounts : (g : Geometry) (l : Lent) (a : Mounted) → mount_of g l ≡ ok a → Mounts g l a
unfolding mount_of
mounts g l a = all_true (λ (o : Answer Mounted). o ≡ ok a → Mounts g l a) (fits g l) _ _
    (λ t e. let f : Fits g l = fits→ g l (T-yes (fits g l) t) in
    record {
      fit = f;
      mounted = e;
      size = size_pos g f.good;
      pages = pages_pos g f.good;
      extents = not_empty a.tree.extents (replay_shape g (replayed g (image_of g l)) a.tree (accepted→ g (image_of g l) a e).replayed).sorted;
    })
    (λ t e. absurd (zero_one (cc)))

→mounts : (g : Geometry) (l : Lent) (a : Mounted) → Fits g l → mount g (image_of g l) ≡ ok a → mount_of g l ≡ ok a
unfolding mount_of
→mounts g l a f e = if_yes (fits g l) _ _ (→fits g l f) ∙ e

-- ---- reads

module _ (g : Geometry) (m m' : Image) (xs xs' : List Extent) (h : (p i : ℕ) → file_byte g m' xs' p i ≡ file_byte g m xs p i) (p x : ℕ)
    (buffer : List ℕ) where
  same_bytes : (n y : ℕ) → bytes_from g m' xs' p y n ≡ bytes_from g m xs p y n
  unfolding bytes_from
  same_bytes zero y = refl
  same_bytes (suc n) y = ap₂ (λ (b : ℕ) (bs : List ℕ). b ∷ bs) (h p y) (same_bytes n (y + 1))

  same_copy : (o : Answer ℕ)
      → ◌≡◌ {A = List ℕ} (elim o [ no r ↦ buffer | ok n ↦ copied g m' xs' p x buffer n ]) (elim o [ no r ↦ buffer | ok n ↦ copied g m xs p x buffer n ])
  unfolding copied
  same_copy (no r) = refl
  same_copy (ok n) = ap (λ (bs : List ℕ). bs ++ drop n buffer) (same_bytes n x)

module _ (g : Geometry) (l l' : Lent) (a b : Mounted) (e : mount_of g l ≡ ok a) (e' : mount_of g l' ≡ ok b) (t : b.tree ≡ a.tree) where
  same_reads : (p x room : ℕ) → read g l' p x room ≡ read g l p x room
  unfolding read and_then readable
  same_reads p x room = rw (e, e', t)

  same_buffers : ((p i : ℕ) → file_byte g (image_of g l') a.tree.extents p i ≡ file_byte g (image_of g l) a.tree.extents p i)
      → (p x : ℕ) (buffer : List ℕ) → buffer_after g l' p x buffer ≡ buffer_after g l p x buffer
  unfolding buffer_after readable
  same_buffers h p x buffer = rw (e, e', buffer_after) (rw t (same_copy g (image_of g l) (image_of g l') a.tree.extents b.tree.extents
      (λ q i. rw t (h q i)) p x buffer (readable a p x (length buffer))))

-- ---- from images to slices

pub shows_lent : (g : Geometry) (l l' : Lent) (a : Mounted) → mount_of g l ≡ ok a → Fits g l' → ShowsImage g (image_of g l) (image_of g l') a
    → Shows g l l' a
shows_lent g l l' a e f s =
    let e' : mount_of g l' ≡ ok s.answer = →mounts g l' s.answer f s.accepted in
    record {
      answer = s.answer;
      accepted = e';
      tree = s.tree;
      insert = s.insert;
      strings = same_strings g l l' a.tree (accepted→ g (image_of g l) a (mounts g l a e).mounted).replayed s.logs;
      reads = same_reads g l l' a s.answer e e' s.tree;
      buffers = same_buffers g l l' a s.answer e e' s.tree s.bytes;
    }

-- spare blocks erased and written, and cut anywhere
pub spare_cut : (g : Geometry) (l : Lent) (a : Mounted) → mount_of g l ≡ ok a → (E : ℕ → Bool) → Spare g (image_of g l) a.tree.extents E
    → (ss : List Step) → All (Spends g E) ss → (l' : Lent) → Cut g ss l l' → Shows g l l' a
spare_cut g l a e E sp ss w l' c =
    let m : Mounts g l a = mounts g l a e in
    let s = spent g E (image_of g l) ss w l l' m.fit (untouched E (image_of g l)) c in
    shows_lent g l l' a e s.0 (spare_shows g (image_of g l) a E (image_of g l') m.size m.pages m.extents m.mounted sp s.1)

-- what shows the same as l₁, which shows the same as l, shows the same as l
pub shows_after : (g : Geometry) (l l₁ l₂ : Lent) (a : Mounted) (s : Shows g l l₁ a) → Shows g l₁ l₂ s.answer → Shows g l l₂ a
shows_after g l l₁ l₂ a s t = record {
  answer = t.answer;
  accepted = t.accepted;
  tree = t.tree ∙ s.tree;
  insert = t.insert ∙ s.insert;
  strings = λ p f q.
      let u = s.strings p f q in
      let v = t.strings p f (rw s.tree q) in
      record { name = v.name ∙ u.name; uid = v.uid ∙ u.uid; gid = v.gid ∙ u.gid; muid = v.muid ∙ u.muid };
  reads = λ p x room. t.reads p x room ∙ s.reads p x room;
  buffers = λ p x buffer. t.buffers p x buffer ∙ s.buffers p x buffer;
}
