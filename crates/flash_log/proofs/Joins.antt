-- One log after another.
use mathlib.Core.Path.{◌≡◌, refl, ap}
use mathlib.Core.Option.{Option, none, some}
use mathlib.Core.List.{List, append_assoc}
use Prim.Native.Nat.{ℕ}
use Rattle.base.specs.Choice.{on_some}
use Rattle.meaning.specs.declared.Message.{Message}
use Rattle.meaning.specs.declared.Refusal.{Refusal}
use Rattle.meaning.specs.Log.{Entry, Log, empty, stopped, entry, join}

pub join_empty : (x : Log) → join empty x ≡ x
unfolding join empty on_some
join_empty x = refl

pub join_stopped : (r : Refusal) (x : Log) → join (stopped r) x ≡ stopped r
unfolding join stopped on_some
join_stopped r x = refl

pub join_entry : (a : ℕ) (m : Message) (log x : Log) → join (entry a m log) x ≡ entry a m (join log x)
unfolding join entry on_some
join_entry a m log x = go log.entries log.fault
  where
    go : (es : List Entry) (f : Option Refusal)
        → join (entry a m (record { entries = es; fault = f })) x ≡ entry a m (join (record { entries = es; fault = f }) x)
    go es none = refl
    go es (some r) = refl

pub join_assoc : (a b c : Log) → join (join a b) c ≡ join a (join b c)
unfolding join on_some
join_assoc a b c = go a.entries b.entries a.fault b.fault
  where
    go : (xs ys : List Entry) (f h : Option Refusal)
        → join (join (record { entries = xs; fault = f }) (record { entries = ys; fault = h })) c
        ≡ join (record { entries = xs; fault = f }) (join (record { entries = ys; fault = h }) c)
    go xs ys none none = ap {B = Log} (λ es. record { entries = es; fault = c.fault }) (append_assoc xs ys c.entries)
    go xs ys none (some r) = refl
    go xs ys (some q) h = refl
