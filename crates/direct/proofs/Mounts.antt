-- On the rows of a mount `begins` refuses nothing, and a direct read is the read of document 01.
use Prim.Native.Nat.{ℕ, ◌+◌, ◌/◌, ◌%◌, ◌^◌, ◌≤◌, ◌<◌}
use mathlib.Core.Path.{◌≡◌, refl, sym, ap, subst, ◌∙◌}
use mathlib.Core.Logic.{⊎_elim}
use mathlib.Core.Bool.{Bool, true, false, not}
use mathlib.Core.Option.{Option, none, some}
use mathlib.Core.List.{List, [], ◌∷◌, map}
use native.Mathlib.Omega.{arith}
use lib.Dec.{T, leb, leb→le}
use lib.ListN.{length, get_or}
use Rattle.base.specs.Choice.{if_true, if_less, is_some, on_some, or_else, provided}
use Rattle.base.specs.Member.{All, In}
use Rattle.base.specs.Scan.{all_of}
use Rattle.base.proofs.Choices.{less_yes, less_no}
use Rattle.base.proofs.Lists.{all_map}
use Rattle.base.proofs.Tests.{T-dec, and_i, is_true, lt_or, zero_one, →T_not}
use Rattle.meaning.specs.declared.Extent.{Extent}
use Rattle.meaning.specs.declared.Geometry.{Geometry}
use Rattle.meaning.specs.declared.Record.{Record}
use Rattle.meaning.specs.declared.Refusal.TheVariants as refused
use Rattle.meaning.specs.Answer.{ok, unless}
use Rattle.meaning.specs.Flash.{Labels, Lent, begins, block_size, fits, image_of, labels_of}
use Rattle.meaning.specs.Labels.{find_data, find_log, label_refusal, log_plan}
use Rattle.meaning.specs.Message.{in_log}
use Rattle.meaning.specs.Mount.{Mounted, absent, in_data, lacks, mount_of}
use Rattle.meaning.specs.Replay.{spot, start, end}
use Rattle.meaning.specs.Services.{buffer_after, read}
use Rattle.extent.specs.Rows.{extent_of, Four, Lined, Within}
use Rattle.flash_log.proofs.Sizes.{sizes}
use Rattle.plan.specs.Select.{chosen, judged, selected}
use Rattle.std.specs.Prelude.{Ok}
use Rattle.replayed.specs.Shape.{Before, Bounded, Shape, Sorted}
use Rattle.replayed.proofs.Shape.{replay_shape}
use Rattle.survival.proofs.Survive.{Accepted, accepted→, passed→}
use Rattle.read.specs.Pieces.{bare, place_at}
use Rattle.read.proofs.Address.{bare_low, bare_high}
use Rattle.direct.specs.Begins.{begin_of, begins_of, begun, places_after, stands}
use Rattle.direct.specs.Direct.{answered, buffer_with}
use Rattle.direct.proofs.Same.{begun_placed, is_some_lem, mounts_fit, same_answer, same_buffer}
use Rattle.direct.proofs.Stand.{Held, held_ends, replay_held, some_is}

-- ---- a live extent's block is there

lacks_none : (g : Geometry) (m : Labels) (es : List Extent) → absent g m es ≡ none → All (λ (e : Extent). T (lacks g m e) → ⊥) es
unfolding absent or_else provided
lacks_none g m [] h = tt
lacks_none g m (e ∷ es) h = go (lacks g m e) (λ k. lacks_none g m es k) refl h
  where
    go : (b : Bool) → (absent g m es ≡ none → All (λ (x : Extent). T (lacks g m x) → ⊥) es) → lacks g m e ≡ b → or_else (provided b (refused.Data e.path)) (absent g m es) ≡ none → All (λ (x : Extent). T (lacks g m x) → ⊥) (e ∷ es)
    go true ih q z = let y : some (refused.Data e.path) ≡ none = z in absurd (zero_one (cc))
    go false ih q z = (λ t. subst T q t, ih z)

module _ (g : Geometry) (m : Labels) (e : Extent) (h : Held g m e) (n : T (lacks g m e) → ⊥) where
  there : T (is_some (place_at g m e.address))
  unfolding place_at lacks in_data in_log
  there = ⊎_elim
      (λ (u : e.address < 2 ^ 31).
      subst (λ (o : Option ℕ). T (is_some o)) (sym (less_yes e.address (2 ^ 31) (find_data g.blocks m (bare e.address / block_size g)) _ u
      ∙ ap (λ (k : ℕ). find_data g.blocks m (k / block_size g)) (bare_low e.address u)))
      (⊎_elim (λ t. t) (λ f. absurd (n (and_i (not (leb (2 ^ 31) e.address)) (not (is_some (find_data g.blocks m (e.address / block_size g))))
      (→T_not (leb (2 ^ 31) e.address) (λ t. omega (arith, leb→le (2 ^ 31) e.address t)))
      (→T_not (is_some (find_data g.blocks m (e.address / block_size g))) f)))) (T-dec (is_some (find_data g.blocks m (e.address / block_size g))))))
      (λ (u : 2 ^ 31 ≤ e.address).
      subst (λ (o : Option ℕ). T (is_some o)) (sym (less_no e.address (2 ^ 31) _ (find_log g.blocks m (bare e.address / block_size g)) u)) (h.kept u))
      (lt_or e.address (2 ^ 31))

  stands_whole : T (is_some (begin_of g m e))
  unfolding begin_of on_some
  stands_whole =
      subst (λ (o : Option ℕ). T (is_some (on_some o none (λ b. if_less (block_size g) (bare e.address % block_size g + e.count) none
      (some (begins g b + bare e.address % block_size g)))))) (sym (is_some_lem (place_at g m e.address) there))
      (some_is _ (less_no (block_size g) (bare e.address % block_size g + e.count) none _ h.whole))

rows_stand : (g : Geometry) (m : Labels) (xs : List (List ℕ)) → All (Held g m) (map extent_of xs) → All (λ (e : Extent). T (lacks g m e) → ⊥) (map extent_of xs)
    → T (all_of (stands g m) xs)
unfolding all_of stands
rows_stand g m [] h n = tt
rows_stand g m (r ∷ xs) h n = and_i (stands g m r) (all_of (stands g m) xs) (stands_whole g m (extent_of r) h.0 n.0) (rows_stand g m xs h.1 n.1)

-- ---- the rows are in order

ends_before : (x y : Extent) → Bounded x → Before x y → end x ≤ start y
unfolding end start spot
ends_before x y b u = ⊎_elim (λ (v : x.path < y.path). omega arith) (λ v. omega (arith, v.0, v.1)) u

ends_low : (x : Extent) → Bounded x → x.path < 2 ^ 32 → end x ≤ 2 ^ 64
unfolding end start spot
ends_low x b h = omega arith

flash_low : (a n : ℕ) → bare a + n ≤ 2 ^ 28 → a + n < 2 ^ 32
flash_low a n h = ⊎_elim (λ (u : a < 2 ^ 31). omega (arith, bare_low a u)) (λ (u : 2 ^ 31 ≤ a). omega (arith, bare_high a u)) (lt_or a (2 ^ 31))

module _ (g : Geometry) (l : Lent) (fit : fits g l ≡ true) (m : Labels) where
  lined : (lo : ℕ) (es : List Extent) → lo ≤ 2 ^ 64 → All (λ (e : Extent). lo ≤ start e) es → Sorted es → All Bounded es → All (Held g m) es
      → All (λ (e : Extent). e.path < 2 ^ 32) es → Lined lo (2 ^ 64) es
  lined lo [] top a s b h p = top
  lined lo (e ∷ es) top a s b h p = (
    a.0,
    record { some = s.0; file = b.0; flash = flash_low e.address e.count (held_ends g l fit m e h.0) },
    lined (end e) es (ends_low e b.0 p.0) (all_map (Before e) (λ (y : Extent). end e ≤ start y) es (λ y u. ends_before e y b.0 u) s.1)
        s.2 b.1 h.1 p.1,
  )

from_none : (es : List Extent) → All (λ (e : Extent). 0 ≤ start e) es
from_none [] = tt
from_none (e ∷ es) = (omega arith, from_none es)

paths_low : (xs : List (List ℕ)) → All (λ (r : List ℕ). get_or r 0 0 < 2 ^ 32) xs → All (λ (e : Extent). e.path < 2 ^ 32) (map extent_of xs)
paths_low [] a = tt
paths_low (r ∷ xs) a = (a.0, paths_low xs a.1)

-- ---- the rows of a mount

module _ (g : Geometry) (l : Lent) (a : Mounted) (mounts : mount_of g l ≡ ok a) (xs : List (List ℕ)) (shown : map extent_of xs ≡ a.tree.extents) where
  abbrev m : Labels
  m = labels_of l.tags l.paths

  fit : fits g l ≡ true
  fit = (mounts_fit g l a mounts).0

  accepted : Accepted g (image_of g l) a
  accepted = accepted→ g (image_of g l) a (mounts_fit g l a mounts).1

  held : All (Held g m) (map extent_of xs)
  unfolding image_of
  held = subst (All (Held g m)) (sym shown) (replay_held g (image_of g l) l fit (passed→ g (image_of g l) accepted.labels) a.tree accepted.replayed)

  all_stand : all_of (stands g m) xs ≡ true
  unfolding image_of
  all_stand = is_true _ (rows_stand g m xs held (subst (All (λ (e : Extent). T (lacks g m e) → ⊥)) (sym shown) (lacks_none g m a.tree.extents accepted.there)))

  planned : selected g l ≡ Ok (log_plan (length l.tags) m)
  unfolding selected judged chosen unless if_true image_of
  planned = rw (fit, ap (λ (n : ℕ). label_refusal n m) (sizes g l fit).tags ∙ accepted.labels)

  -- on the rows of a mount `begins` refuses nothing
  pub begins_all : (room : ℕ) → length xs ≤ room → begun g l xs room ≡ ok (begins_of g m xs)
  unfolding begun if_true
  begins_all room h = less_no room (length xs) _ _ h ∙ rw (planned, all_stand)

  module _ (four : All Four xs) (low : All (λ (r : List ℕ). get_or r 0 0 < 2 ^ 32) xs) where
    in_order : Within 0 (2 ^ 64) xs
    in_order =
        let s : Shape a.tree.records a.tree.extents = replay_shape g _ a.tree accepted.replayed in
        record {
          four = four;
          lined = lined g l fit m 0 (map extent_of xs) (omega arith) (from_none (map extent_of xs)) (subst Sorted (sym shown) s.sorted)
              (subst (All Bounded) (sym shown) s.bounded) held (paths_low xs low);
        }

    -- with the places that `begins` leaves, a direct read answers and leaves in the buffer what the read of document 01 does
    pub direct_read : (before : List ℕ) → length xs ≤ length before → (f : Record) → In f a.tree.records → (x : ℕ) (buffer : List ℕ)
        → (answered f (length xs) (length (places_after g l xs before)) x (length buffer) ≡ read g l f.path x (length buffer))
        × (buffer_with l.contents f xs (places_after g l xs before) x buffer ≡ buffer_after g l f.path x buffer)
    direct_read before h f own x buffer =
        let at = begun_placed g l xs before (begins_of g m xs) (begins_all (length before) h) in (
          same_answer g l a mounts xs shown in_order (places_after g l xs before) at f own x buffer,
          same_buffer g l a mounts xs shown in_order (places_after g l xs before) at f own x buffer,
        )
