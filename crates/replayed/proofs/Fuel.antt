-- Any fuel that is enough gives the same messages: a loop over a page may take what is left of the page for its fuel.
use mathlib.Core.Path.{◌≡◌, refl, sym, ap}
use Prim.Native.Nat.{ℕ, zero, suc, ◌+◌, ◌≤◌, ◌<◌}
use native.Mathlib.Omega.{arith}
use lib.ListN.{length}
use Rattle.meaning.specs.declared.Geometry.{Geometry}
use Rattle.meaning.specs.declared.Parsed.{Parsed}
use Rattle.meaning.specs.declared.Parsed.TheVariants.{Malformed, End, Found}
use Rattle.base.proofs.Choices.{less_no}
use Rattle.meaning.specs.Message.{Page, parse}
use Rattle.meaning.specs.Log.{empty, entry, embedded_limit, messages}
use Rattle.replayed.proofs.Keeps.{Well, on_parsed}
use Rattle.replayed.proofs.Parses.{parse_sound, well_map}

-- a message ends past its start and within the page
pub parse_next : (limit : ℕ) (g : Geometry) (page : Page) (at : ℕ)
    → Well (λ m next. (at < next) × (next ≤ length page.bytes)) (parse limit g page at)
parse_next limit g page at = well_map _ _ (parse limit g page at) (λ m next s. (s.grows, s.within)) (parse_sound limit g page at)

pub parse_end : (limit : ℕ) (g : Geometry) (page : Page) (at : ℕ) → length page.bytes ≤ at → parse limit g page at ≡ End
unfolding parse
parse_end limit g page at l = less_no at (length page.bytes) _ _ l

messages_end : (f : ℕ) (g : Geometry) (page : Page) (at : ℕ) → length page.bytes ≤ at → messages f g page at ≡ empty
unfolding messages
messages_end zero g page at l = refl
messages_end (suc f) g page at l = rw (parse_end (embedded_limit g) g page at l, messages)

pub enough : (f h : ℕ) (g : Geometry) (page : Page) (at : ℕ) → length page.bytes ≤ at + f → length page.bytes ≤ at + h
    → messages f g page at ≡ messages h g page at
unfolding messages
enough zero h g page at p q = sym (messages_end h g page at (omega arith))
enough (suc f) zero g page at p q = messages_end (suc f) g page at (omega arith)
enough (suc f) (suc h) g page at p q = go (parse (embedded_limit g) g page at) (parse_next (embedded_limit g) g page at)
    (λ next l. enough f h g page next (omega (arith, l)) (omega (arith, l)))
  where
    go : (x : Parsed) → Well (λ m next. (at < next) × (next ≤ length page.bytes)) x
        → ((k : ℕ) → at < k → messages f g page k ≡ messages h g page k)
        → on_parsed page at (messages f g page) x ≡ on_parsed page at (messages h g page) x
    go Malformed l ih = refl
    go End l ih = refl
    go (Found m next) l ih = ap (entry (page.address + at) m) (ih next l.0)
