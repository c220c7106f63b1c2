-- Demand 3 on the lent slices: a settle and a reclaim, cut anywhere and not cut.
use mathlib.Core.Path.{◌≡◌, subst}
use mathlib.Core.List.{List}
use Prim.Native.Nat.{ℕ}
use Rattle.meaning.specs.declared.Geometry.{Geometry}
use Rattle.meaning.specs.declared.Step.{Step}
use Rattle.meaning.specs.Answer.{ok}
use Rattle.meaning.specs.Flash.{Lent}
use Rattle.meaning.specs.Mount.{Mounted, mount_of}
use Rattle.meaning.specs.Services.{settle, reclaim, do_steps, leaves}
use Rattle.meaning.specs.Cut.{Cut, Shows, Settled, Reclaimed}
pub use Rattle.demand.proofs.Shown.{shows_after}
use Rattle.demand.proofs.Settle.{settle_is, settle_steps_lem, settle_mounts, settle_shows, settle_does, settle_settles}
use Rattle.demand.proofs.Reclaim.{Ready, ready, reclaim_mounts, reclaim_shows, reclaim_does, reclaim_reclaims, whole_is}

-- The power goes at any moment of a settle: what is left mounts and shows the same.
pub settle_cut : (g : Geometry) (l : Lent) (a : Mounted) (ss : List Step) → mount_of g l ≡ ok a → settle g l ≡ ok ss → (l' : Lent)
    → Cut g ss l l' → Shows g l l' a
settle_cut g l a ss e q l' c = settle_shows g l a e l' (subst (λ (x : List Step). Cut g x l l') (settle_steps_lem g l a ss e q) c)

-- A settle that is not cut has erased every listed block and changed no other, and the next mount lists none.
pub settle_whole : (g : Geometry) (l : Lent) (a : Mounted) → mount_of g l ≡ ok a → Settled g l (leaves g l (settle g l)) a
unfolding leaves
settle_whole g l a e = rw (settle_is g l a e) (settle_settles g l a e)

-- "A whole run equals its list done in order"
pub settle_runs : (g : Geometry) (l : Lent) (ss : List Step) → settle g l ≡ ok ss → do_steps g l ss ≡ ok (leaves g l (settle g l))
unfolding leaves
settle_runs g l ss q =
    let m = settle_mounts g l ss q in
    rw (q, settle_steps_lem g l m.0 ss m.1 q) (settle_does g l m.0 m.1)

-- ---- reclaim

-- The power goes at any moment of a reclaim: what is left mounts and shows the same.
pub reclaim_cut : (g : Geometry) (l : Lent) (a : Mounted) (d : ℕ) (ss : List Step) → mount_of g l ≡ ok a → reclaim g l d ≡ ok ss → (l' : Lent)
    → Cut g ss l l' → Shows g l l' a
reclaim_cut g l a d ss e q l' c =
    let r : Ready g l a d ss = ready g l a d ss e q in
    reclaim_shows g l a d ss e r l' (subst (λ (x : List Step). Cut g x l l') r.steps c)

-- A reclaim that is not cut has written data block d anew, and nothing else.
pub reclaim_whole : (g : Geometry) (l : Lent) (a : Mounted) (d : ℕ) (ss : List Step) → mount_of g l ≡ ok a → reclaim g l d ≡ ok ss
    → Reclaimed g l (leaves g l (reclaim g l d)) a d
unfolding leaves
reclaim_whole g l a d ss e q =
    let r : Ready g l a d ss = ready g l a d ss e q in
    rw (q, r.steps, whole_is g l a d ss e r) (reclaim_reclaims g l a d ss e r)

pub reclaim_runs : (g : Geometry) (l : Lent) (d : ℕ) (ss : List Step) → reclaim g l d ≡ ok ss → do_steps g l ss ≡ ok (leaves g l (reclaim g l d))
unfolding leaves
reclaim_runs g l d ss q =
    let m = reclaim_mounts g l d ss q in
    let r : Ready g l m.0 d ss = ready g l m.0 d ss m.1 q in
    rw (q, r.steps) (reclaim_does g l m.0 d ss m.1 r)
