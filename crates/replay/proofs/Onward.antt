-- The rest of a log, told to a tree: one message at a time.
use Prim.Native.Nat.{ℕ, ◌<◌, ◌≤◌}
use mathlib.Core.Path.{◌≡◌, refl, ◌∙◌}
use mathlib.Core.Bool.{Bool, true, false, ◌||◌}
use lib.ListN.{length}
use lib.Dec.{ltb}
use borrow.Author.Tests.{lt-ltb, le-ltb}
use Rattle.base.specs.Choice.{if_true}
use Rattle.meaning.specs.declared.Message.{Message}
use Rattle.meaning.specs.declared.Refusal.{Refusal}
use Rattle.meaning.specs.declared.Refusal.TheVariants as refused
use Rattle.meaning.specs.Answer.{Answer, ok, no, and_then, unless, address}
use Rattle.meaning.specs.Log.{Entry, Log, empty, stopped, entry}
use Rattle.meaning.specs.Replay.{Tree, judge, applies, changed, full, within_limits, passed_over, step, told, bare, replay}

abbrev pub onward : Log → Tree → Answer Tree
onward log t = and_then (told log.entries t) (λ u. unless log.fault (ok u))

-- ---- answers

then_then : {A B C : Type 0} (a : Answer A) (h : A → Answer B) (k : B → Answer C) → and_then (and_then a h) k ≡ and_then a (λ x. and_then (h x) k)
unfolding and_then
then_then (ok x) h k = refl
then_then (no r) h k = refl

then_ok : {A B : Type 0} (a : Answer A) (x : A) (k : A → Answer B) → a ≡ ok x → and_then a k ≡ k x
unfolding and_then
then_ok a x k e = rw e

then_no : {A B : Type 0} (a : Answer A) (r : Refusal) (k : A → Answer B) → a ≡ no r → and_then a k ≡ no r
unfolding and_then
then_no a r k e = rw e

-- ---- the log's end, and a fault

pub onward_all : (log : Log) → onward log bare ≡ replay log
unfolding replay
onward_all log = refl

pub onward_empty : (t : Tree) → onward empty t ≡ ok t
unfolding empty told and_then unless
onward_empty t = refl

pub onward_stopped : (r : Refusal) (t : Tree) → onward (stopped r) t ≡ no r
unfolding stopped told and_then unless
onward_stopped r t = refl

-- ---- limits

or_true : (b : Bool) → b || true ≡ true
or_true true = refl
or_true false = refl

within : (t : Tree) → length t.records ≤ 256 → length t.extents ≤ 1024 → full t ≡ false
unfolding full
within t h k = rw (le-ltb 256 (length t.records) h, le-ltb 1024 (length t.extents) k)

pub many_records : (t : Tree) → 256 < length t.records → full t ≡ true
unfolding full
many_records t h = rw (lt-ltb 256 (length t.records) h)

pub many_extents : (t : Tree) → 1024 < length t.extents → full t ≡ true
unfolding full
many_extents t h = rw (lt-ltb 1024 (length t.extents) h) (or_true (ltb 256 (length t.records)))

-- ---- one message

module _ (a : ℕ) (m : Message) (log : Log) (t : Tree) where
  abbrev e : Entry
  e = record { address = a; message = m }

  entry_told : onward (entry a m log) t ≡ and_then (step e t) (onward log)
  unfolding entry told
  entry_told = then_then (step e t) (told log.entries) (λ u. unless log.fault (ok u))

  pub onward_ignored : applies (judge m t.records) ≡ false → onward (entry a m log) t ≡ onward log (passed_over t)
  unfolding step if_true
  onward_ignored h = entry_told ∙ then_ok (step e t) (passed_over t) (onward log) (rw h)

  pub onward_applied : applies (judge m t.records) ≡ true → length (changed m t).records ≤ 256 → length (changed m t).extents ≤ 1024
      → onward (entry a m log) t ≡ onward log (changed m t)
  unfolding step if_true within_limits
  onward_applied h r x = entry_told ∙ then_ok (step e t) (changed m t) (onward log) (rw (h, within (changed m t) r x))

  pub onward_full : applies (judge m t.records) ≡ true → full (changed m t) ≡ true → onward (entry a m log) t ≡ no (refused.Full (address a))
  unfolding step if_true within_limits
  onward_full h f = entry_told ∙ then_no (step e t) (refused.Full (address a)) (onward log) (rw (h, f))
