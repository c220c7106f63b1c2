-- The table of records: what a change of one record does to the others.
use mathlib.Core.Path.{◌≡◌, refl, sym, ap, ◌∙◌, subst}
use mathlib.Core.Logic.{◌≢◌, ⊎_elim}
use mathlib.Core.Bool.{Bool}
use mathlib.Core.Option.{Option, none, some}
use mathlib.Core.List.{List, [], ◌∷◌}
use Prim.Native.Nat.{ℕ, ◌<◌}
use native.Mathlib.Omega.{arith}
use Rattle.meaning.specs.declared.Record.{Record}
use Rattle.meaning.specs.declared.Message.{Message}
use Rattle.meaning.specs.declared.Message.TheVariants.{Create, Remove, Truncate, Write, Wstat}
use Rattle.base.specs.Choice.{test}
use Rattle.base.specs.Member.{All, On}
use Rattle.base.proofs.Tests.{eq_or, zero_one}
use Rattle.base.proofs.Lists.{all_map}
use Rattle.base.proofs.Choices.{eq_yes, eq_no, all_eq, all_less}
use Rattle.meaning.specs.Replay.{look, alter, insert, delete, home_of, stamp, created, truncated, written, restated, own_after, parent_after, records_after}
use Rattle.replayed.specs.Shape.{Ascending}

-- ---- statements of a value that may be there

pub on_map : {A : Type 0} (P Q : A → Type 0) (o : Option A) → ((x : A) → P x → Q x) → On P o → On Q o
on_map P Q none f p = tt
on_map P Q (some x) f p = f x p

pub on_every : {A : Type 0} (P : A → Type 0) (o : Option A) → ((x : A) → P x) → On P o
on_every P none f = tt
on_every P (some x) f = f x

-- ---- look

pub look_here : (q : ℕ) (h : Record) (hs : List Record) → h.path ≡ q → look q (h ∷ hs) ≡ some h
unfolding look
look_here q h hs e = eq_yes h.path q _ _ e

pub look_there : (q : ℕ) (h : Record) (hs : List Record) → h.path ≢ q → look q (h ∷ hs) ≡ look q hs
unfolding look
look_there q h hs ne = eq_no h.path q _ _ ne

pub look_all : (Q : Record → Type 0) (p : ℕ) (fs : List Record) → All Q fs → On Q (look p fs)
unfolding look
look_all Q p [] q = tt
look_all Q p (h ∷ hs) q = all_eq (On Q) _ _ _ _ (λ e. q.0) (λ e. look_all Q p hs q.1)

pub look_path : (p : ℕ) (fs : List Record) → On (λ (f : Record). f.path ≡ p) (look p fs)
unfolding look
look_path p [] = tt
look_path p (h ∷ hs) = all_eq (On (λ (f : Record). f.path ≡ p)) _ _ _ _ (λ e. e) (λ e. look_path p hs)

-- no record has the path
pub look_none : (p : ℕ) (fs : List Record) → look p fs ≡ none → All (λ (f : Record). f.path ≢ p) fs
look_none p [] e = tt
look_none p (h ∷ hs) e = ⊎_elim
    (λ (z : h.path ≡ p). let a : look p (h ∷ hs) ≡ some h = look_here p h hs z in absurd (zero_one (cc)))
    (λ (n : h.path ≢ p). (n, look_none p hs (sym (look_there p h hs n) ∙ e)))
    (eq_or h.path p)

-- ---- alter

module _ (p : ℕ) (h : Record → Record) where
  pub alter_all : (Q : Record → Type 0) (fs : List Record) → On (λ (f : Record). Q f → Q (h f)) (look p fs) → All Q fs → All Q (alter p h fs)
  unfolding alter
  alter_all Q [] k q = tt
  alter_all Q (f ∷ fs) k q = all_eq (All Q) _ _ _ _
      (λ e. (subst (On (λ (f : Record). Q f → Q (h f))) (look_here p f fs e) k q.0, q.1))
      (λ n. (q.0, alter_all Q fs (subst (On (λ (f : Record). Q f → Q (h f))) (look_there p f fs n) k) q.1))

  pub alter_every : (Q : Record → Type 0) → ((f : Record) → Q f → Q (h f)) → (fs : List Record) → All Q fs → All Q (alter p h fs)
  alter_every Q k fs q = alter_all Q fs (on_every (λ (f : Record). Q f → Q (h f)) (look p fs) k) q

  module _ (same : (f : Record) → (h f).path ≡ f.path) where
    pub alter_ascending : (fs : List Record) → Ascending fs → Ascending (alter p h fs)
    unfolding alter
    alter_ascending [] a = tt
    alter_ascending (f ∷ fs) a = all_eq Ascending _ _ _ _
        (λ e. (subst (λ (n : ℕ). All (λ (r : Record). n < r.path) fs) (sym (same f)) a.0, a.1))
        (λ n. (alter_every (λ (r : Record). f.path < r.path) (λ r l. rw (same r) l) fs a.0, alter_ascending fs a.1))

    -- a test that h keeps
    pub test_alter : (c : Record → Bool) (q : ℕ) (fs : List Record) → On (λ (f : Record). c (h f) ≡ c f) (look p fs)
        → test c (look q (alter p h fs)) ≡ test c (look q fs)
    unfolding alter test
    test_alter c q [] k = refl
    test_alter c q (f ∷ fs) k = all_eq (λ (gs : List Record). test c (look q gs) ≡ test c (look q (f ∷ fs))) _ _ _ _
        (λ e. ⊎_elim
        (λ (z : f.path ≡ q).
        ap (test c) (look_here q (h f) fs (same f ∙ z)) ∙ subst (On (λ (f : Record). c (h f) ≡ c f)) (look_here p f fs e) k
        ∙ sym (ap (test c) (look_here q f fs z)))
        (λ (n : f.path ≢ q). ap (test c) (look_there q (h f) fs (λ z. n (sym (same f) ∙ z)) ∙ sym (look_there q f fs n)))
        (eq_or f.path q))
        (λ n. ⊎_elim
        (λ (z : f.path ≡ q). ap (test c) (look_here q f (alter p h fs) z ∙ sym (look_here q f fs z)))
        (λ (m : f.path ≢ q). ap (test c) (look_there q f (alter p h fs) m)
        ∙ test_alter c q fs (subst (On (λ (f : Record). c (h f) ≡ c f)) (look_there p f fs n) k)
        ∙ sym (ap (test c) (look_there q f fs m)))
        (eq_or f.path q))

-- ---- insert

pub insert_all : (Q : Record → Type 0) (f : Record) (fs : List Record) → Q f → All Q fs → All Q (insert f fs)
unfolding insert
insert_all Q f [] p q = (p, tt)
insert_all Q f (h ∷ hs) p q = all_less (All Q) _ _ _ _ (λ l. (p, q)) (λ l. (q.0, insert_all Q f hs p q.1))

pub insert_ascending : (f : Record) (fs : List Record) → look f.path fs ≡ none → Ascending fs → Ascending (insert f fs)
unfolding insert
insert_ascending f [] e a = (tt, tt)
insert_ascending f (h ∷ hs) e a = all_less Ascending _ _ _ _
    (λ l. ((l, all_map (λ (y : Record). h.path < y.path) (λ (y : Record). f.path < y.path) hs (λ y k. omega arith) a.0), a))
    (λ l. let n : h.path ≢ f.path = (look_none f.path (h ∷ hs) e).0 in
    (insert_all (λ (y : Record). h.path < y.path) f hs (omega arith) a.0, insert_ascending f hs (sym (look_there f.path h hs n) ∙ e) a.1))

pub look_insert : (q : ℕ) (f : Record) (fs : List Record) → f.path ≢ q → look q (insert f fs) ≡ look q fs
unfolding insert
look_insert q f [] ne = look_there q f [] ne
look_insert q f (h ∷ hs) ne = all_less (λ (gs : List Record). look q gs ≡ look q (h ∷ hs)) _ _ _ _
    (λ l. look_there q f (h ∷ hs) ne)
    (λ l. ⊎_elim
    (λ (e : h.path ≡ q). look_here q h (insert f hs) e ∙ sym (look_here q h hs e))
    (λ (n : h.path ≢ q). look_there q h (insert f hs) n ∙ look_insert q f hs ne ∙ sym (look_there q h hs n))
    (eq_or h.path q))

-- ---- delete

pub delete_all : (Q : Record → Type 0) (p : ℕ) (fs : List Record) → All Q fs → All Q (delete p fs)
unfolding delete
delete_all Q p [] q = tt
delete_all Q p (h ∷ hs) q = all_eq (All Q) _ _ _ _ (λ e. q.1) (λ e. (q.0, delete_all Q p hs q.1))

pub delete_ascending : (p : ℕ) (fs : List Record) → Ascending fs → Ascending (delete p fs)
unfolding delete
delete_ascending p [] a = tt
delete_ascending p (h ∷ hs) a = all_eq Ascending _ _ _ _ (λ e. a.1)
    (λ e. (delete_all (λ (y : Record). h.path < y.path) p hs a.0, delete_ascending p hs a.1))

pub look_delete : (q p : ℕ) (fs : List Record) → p ≢ q → look q (delete p fs) ≡ look q fs
unfolding delete
look_delete q p [] ne = refl
look_delete q p (h ∷ hs) ne = all_eq (λ (gs : List Record). look q gs ≡ look q (h ∷ hs)) _ _ _ _
    (λ e. sym (look_there q h hs (λ z. ne (sym e ∙ z))))
    (λ e. ⊎_elim
    (λ (z : h.path ≡ q). look_here q h (delete p hs) z ∙ sym (look_here q h hs z))
    (λ (n : h.path ≢ q). look_there q h (delete p hs) n ∙ look_delete q p hs ne ∙ sym (look_there q h hs n))
    (eq_or h.path q))

-- ---- a message's change of the records

-- Q of the record that a message makes
abbrev pub Makes : (Record → Type 0) → Message → Type 0
Makes Q (Create parent perm path mtime cvers name uid gid) = Q (created parent perm path mtime cvers name uid gid)
Makes Q (Remove path muid mtime) = (f : Record) → Q f → Q (stamp mtime muid f)
Makes Q (Truncate path mtime cvers muid) = (f : Record) → Q f → Q (truncated mtime cvers muid f)
Makes Q (Write run mtime muid cvers) = (f : Record) → Q f → Q (written run mtime muid f)
Makes Q (Wstat path name uid gid muid perm mtime) = (f : Record) → Q f → Q (restated name perm uid gid mtime muid f)

pub records_all : (Q : Record → Type 0) (m : Message) (fs : List Record) → Makes Q m → All Q fs → All Q (records_after m fs)
unfolding records_after parent_after own_after
records_all Q (Create parent perm path mtime cvers name uid gid) fs w q = insert_all Q _ fs w q
records_all Q (Remove path muid mtime) fs w q = alter_every (home_of path fs) (stamp mtime muid) Q w (delete path fs) (delete_all Q path fs q)
records_all Q (Truncate path mtime cvers muid) fs w q = alter_every path (truncated mtime cvers muid) Q w fs q
records_all Q (Write run mtime muid cvers) fs w q = alter_every run.path (written run mtime muid) Q w fs q
records_all Q (Wstat path name uid gid muid perm mtime) fs w q = alter_every path (restated name perm uid gid mtime muid) Q w fs q
