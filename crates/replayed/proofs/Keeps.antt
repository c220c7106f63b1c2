-- What the bare tree has and every applied message keeps, the replay has.
use mathlib.Core.Path.{◌≡◌, refl, subst}
use mathlib.Core.Logic.{inl, inr}
use mathlib.Core.Bool.{Bool, true, false, ◌||◌}
use mathlib.Core.Option.{Option, none, some}
use mathlib.Core.List.{List, [], ◌∷◌, ◌++◌}
use Prim.Native.Nat.{ℕ, zero, suc, ◌+◌, ◌≤◌, ◌<◌}
use native.Mathlib.Omega.{arith}
use lib.ListN.{length, get_or}
use lib.Dec.{T, eqb, ltb, nltb→le}
use Rattle.meaning.specs.declared.Geometry.{Geometry}
use Rattle.meaning.specs.declared.Record.{Record}
use Rattle.meaning.specs.declared.Extent.{Extent}
use Rattle.meaning.specs.declared.Message.{Message}
use Rattle.meaning.specs.declared.Refusal.{Refusal}
use Rattle.meaning.specs.declared.Refusal.TheVariants as refused
use Rattle.meaning.specs.declared.Parsed.{Parsed}
use Rattle.meaning.specs.declared.Parsed.TheVariants.{Malformed, End, Found}
use Rattle.base.specs.Choice.{if_true, on_some}
use Rattle.base.specs.Member.{All, In}
use Rattle.base.proofs.Tests.{→T_not, not_both, or_l, or_r, zero_one}
use Rattle.base.proofs.Lists.{all_append}
use Rattle.meaning.specs.Answer.{Answer, ok, no, and_then, unless, address}
use Rattle.meaning.specs.Flash.{blank}
use Rattle.meaning.specs.Message.{Page, parse}
use Rattle.meaning.specs.Log.{Entry, Log, LogBlock, empty, stopped, entry, join, embedded_limit, messages, page_log, log_page, pages_from, block_log, log_of}
use Rattle.meaning.specs.Replay.{Tree, judge, applies, changed, full, within_limits, passed_over, step, told, bare, replay}
use Rattle.replayed.specs.Shape.{Small}
use Rattle.replayed.specs.History.{applied_of}

-- ---- the messages, one after another

-- R, of entries, the tree before them, the messages applied, and the tree after, holds of every accepted log if each message adds to it.
module _ (R : List Entry → Tree → List Message → Tree → Type 0)
    (none_left : (t : Tree) → R [] t [] t)
    (applied : (e : Entry) (es : List Entry) (t : Tree) (ms : List Message) (u : Tree) → applies (judge e.message t.records) ≡ true
    → full (changed e.message t) ≡ false → R es (changed e.message t) ms u → R (e ∷ es) t (e.message ∷ ms) u)
    (ignored : (e : Entry) (es : List Entry) (t : Tree) (ms : List Message) (u : Tree) → R es (passed_over t) ms u → R (e ∷ es) t ms u) where
  pub told_all : (es : List Entry) (t u : Tree) → told es t ≡ ok u → R es t (applied_of es t) u
  unfolding told applied_of and_then step within_limits if_true
  told_all [] t u h = subst (R [] t []) (cc) (none_left t)
  told_all (e ∷ es) t u h = go (applies (judge e.message t.records)) refl h (λ t' h'. told_all es t' u h')
    where
      within : (r : Refusal) (b : Bool) → full (changed e.message t) ≡ b → applies (judge e.message t.records) ≡ true
          → and_then (if_true b (no r) (ok (changed e.message t))) (told es) ≡ ok u
          → ((t' : Tree) → told es t' ≡ ok u → R es t' (applied_of es t') u) → R (e ∷ es) t (e.message ∷ applied_of es (changed e.message t)) u
      within r true f a k ih = absurd (zero_one (cc))
      within r false f a k ih = applied e es t _ u a f (ih _ k)

      go : (b : Bool) → applies (judge e.message t.records) ≡ b
          → and_then (if_true b (within_limits e.address (changed e.message t)) (ok (passed_over t))) (told es) ≡ ok u
          → ((t' : Tree) → told es t' ≡ ok u → R es t' (applied_of es t') u)
          → R (e ∷ es) t (if_true b (e.message ∷ applied_of es (changed e.message t)) (applied_of es (passed_over t))) u
      go true a k ih = within (refused.Full (address e.address)) (full (changed e.message t)) refl a k ih
      go false a k ih = ignored e es t _ u (ih _ k)

-- an accepted log has no fault
pub replay_told : (log : Log) (t : Tree) → replay log ≡ ok t → told log.entries bare ≡ ok t
unfolding replay and_then unless
replay_told log t h = go (told log.entries bare) log.fault h
  where
    go : (a : Answer Tree) (o : Option Refusal) → and_then a (λ t'. unless o (ok t')) ≡ ok t → a ≡ ok t
    go (no r) o e = e
    go (ok x) none e = e
    go (ok x) (some r) e = absurd (zero_one (cc))

-- every message has G
abbrev pub Each : (Message → Type 0) → List Entry → Type 0
Each G es = All (λ (e : Entry). G e.message) es

-- P, of records and extents, that each applied message with G keeps
module _ (P : List Record → List Extent → Type 0) (G : Message → Type 0)
    (keeps : (m : Message) (t : Tree) → G m → applies (judge m t.records) ≡ true → P t.records t.extents
    → P (changed m t).records (changed m t).extents) where
  pub told_keeps : (es : List Entry) (t u : Tree) → Each G es → P t.records t.extents
      → told es t ≡ ok u → P u.records u.extents
  unfolding passed_over
  told_keeps es t u w p h = told_all
      (λ es t ms u. Each G es → P t.records t.extents → P u.records u.extents)
      (λ t w p. p) (λ e es t ms u a f ih w p. ih w.1 (keeps e.message t w.0 a p)) (λ e es t ms u ih w p. ih w.1 p) es t u h w p

  pub replay_keeps : (log : Log) (t : Tree) → Each G log.entries → P bare.records bare.extents
      → replay log ≡ ok t → P t.records t.extents
  replay_keeps log t w p h = told_keeps log.entries bare t w p (replay_told log t h)

-- ---- the limits

not_full : (t : Tree) → full t ≡ false → Small t
unfolding full
not_full t e = record {
  records = low 256 (length t.records) (λ u. not_both _ e (or_l (ltb 256 (length t.records)) (ltb 1024 (length t.extents)) u));
  extents = low 1024 (length t.extents) (λ u. not_both _ e (or_r (ltb 256 (length t.records)) (ltb 1024 (length t.extents)) u));
}
  where
    low : (a n : ℕ) → (T (ltb a n) → ⊥) → n ≤ a
    low a n f = nltb→le a n (→T_not (ltb a n) f)

-- "At no time may there be more than 256 records, root included, or 1024 extents over all files."
pub replay_small : (log : Log) (t : Tree) → replay log ≡ ok t → Small t
unfolding bare passed_over
replay_small log t h = told_all (λ es t ms u. Small t → Small u)
    (λ t s. s) (λ e es t ms u a f ih s. ih (not_full (changed e.message t) f))
    (λ e es t ms u ih s. ih (record { records = s.records; extents = s.extents }))
    log.entries bare t (replay_told log t h) (record { records = omega arith; extents = omega arith })

-- ---- every message of the log has what every message that parses has

abbrev pub Well : (Message → ℕ → Type 0) → Parsed → Type 0
Well G Malformed = Unit {0}
Well G End = Unit {0}
Well G (Found m next) = G m next

-- what a position of a page adds to the messages past it
abbrev pub on_parsed : Page → ℕ → (ℕ → Log) → Parsed → Log
on_parsed page at rest x = elim x [
  | Malformed ↦ stopped (refused.Message (address (page.address + at)))
  | End ↦ empty
  | Found m next ↦ entry (page.address + at) m (rest next)
]

module _ (G : Message → Type 0) (g : Geometry) where
  abbrev WellIn : Page → ℕ → Type 0
  WellIn page at = Well (λ m next. G m) (parse (embedded_limit g) g page at)

  join_each : (log rest : Log) → Each G log.entries → Each G rest.entries → Each G (join log rest).entries
  unfolding join on_some
  join_each log rest p q = go log.fault
    where
      go : (o : Option Refusal) → Each G (on_some o (record { entries = log.entries ++ rest.entries; fault = rest.fault }) (λ r. log)).entries
      go none = all_append (λ (e : Entry). G e.message) log.entries rest.entries p q
      go (some r) = p

  messages_each : (fuel : ℕ) (page : Page) (at : ℕ) → ((k : ℕ) → WellIn page k) → Each G (messages fuel g page at).entries
  unfolding messages empty stopped entry
  messages_each zero page at w = tt
  messages_each (suc fuel) page at w = go (parse (embedded_limit g) g page at) (w at) (λ k. messages_each fuel page k w)
    where
      go : (x : Parsed) → Well (λ m next. G m) x → ((k : ℕ) → Each G (messages fuel g page k).entries)
          → Each G (on_parsed page at (messages fuel g page) x).entries
      go Malformed v ih = tt
      go End v ih = tt
      go (Found m next) v ih = (v, ih next)

  module _ (l : LogBlock) (w : (j k : ℕ) → j < g.pages → WellIn (log_page g l j) k) where
    pages_each : (left p : ℕ) (gap : Bool) → p + left ≡ g.pages → Each G (pages_from left g l p gap).entries
    unfolding pages_from page_log empty stopped
    pages_each zero p gap e = tt
    pages_each (suc left) p gap e = go (blank (log_page g l p).bytes) l.last (gap || eqb (get_or (log_page g l p).bytes 0 0) 0xff)
        (λ b. pages_each left (p + 1) b (omega arith))
      where
        go : (b last bad : Bool) → ((b' : Bool) → Each G (pages_from left g l (p + 1) b').entries) → (let log : Log = elim b [
          | true ↦ elim last [ true ↦ pages_from left g l (p + 1) true | false ↦ stopped (refused.Page (address (log_page g l p).address)) ]
          | false ↦ elim bad [
            | true ↦ stopped (refused.Page (address (log_page g l p).address))
            | false ↦ join (page_log g (log_page g l p)) (pages_from left g l (p + 1) false)
          ]
        ] in Each G log.entries)
        go true true bad ih = ih true
        go true false bad ih = tt
        go false last true ih = tt
        go false last false ih = join_each (page_log g (log_page g l p)) _ (messages_each _ (log_page g l p) 0 (λ k. w p k (omega arith))) (ih false)

  pub log_all : (ls : List LogBlock)
      → ((l : LogBlock) → In l ls → (j k : ℕ) → j < g.pages → Well (λ m next. G m) (parse (embedded_limit g) g (log_page g l j) k))
      → Each G (log_of g ls).entries
  unfolding log_of block_log empty
  log_all [] w = tt
  log_all (l ∷ ls) w = join_each (block_log g l) (log_of g ls)
      (pages_each l (w l (inl refl)) g.pages 0 false (omega arith)) (log_all ls (λ l' i. w l' (inr i)))
