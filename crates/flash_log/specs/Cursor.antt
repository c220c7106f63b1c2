-- What is left of the log at a cursor, and what a turn says of it.
use Rattle.label.specs.declared.Flash.{Flash}
use Rattle.label.specs.Lent.{lent_of}
use Rattle.std.specs.Prelude.{ℕ, ◌+◌, ◌-◌, ◌*◌, ◌^◌, ◌≤◌, ◌<◌, ◌≡◌, true, false, List, [], ◌∷◌, length, drop}
use Rattle.std.proofs.Math.Option.{some}
use Rattle.base.specs.Choice.{if_less, if_eq}
use Rattle.meaning.specs.declared.Geometry.{Geometry}
use Rattle.meaning.specs.declared.Plan.{Plan}
use Rattle.meaning.specs.declared.Message.{Message}
use Rattle.meaning.specs.declared.Message.TheVariants.{Create, Remove, Truncate, Write, Wstat}
use Rattle.meaning.specs.Flash.{Lent, labels_of, image_of, begins, fits}
use Rattle.meaning.specs.Labels.{find_log, log_plan}
use Rattle.meaning.specs.Log.{Log, LogBlock, empty, stopped, entry, join, messages, log_page, pages_from, log_of, replayed}
use Rattle.flash_log.specs.declared.Cursor.{Cursor}
use Rattle.flash_log.specs.declared.Turn.{Turn}
use Rattle.flash_log.specs.declared.Turn.TheVariants.{End, Refused, On, Told}

-- ---- what is left of the log

-- from a position of a page on, with what comes after the block
unfoldable pub inside : Geometry → LogBlock → ℕ → ℕ → Log → Log
inside g l page at rest =
    join (messages (length (log_page g l page).bytes) g (log_page g l page) at) (join (pages_from (g.pages - (page + 1)) g l (page + 1) false) rest)

-- in the first of the blocks that are left
unfoldable pub ahead_in : Geometry → List LogBlock → Cursor → Log
ahead_in g [] c = empty
ahead_in g (l ∷ ls) c =
    if_eq c.at 0 (join (pages_from (g.pages - c.page) g l c.page c.gap) (log_of g ls)) (inside g l c.page c.at (log_of g ls))

unfoldable pub ahead : Geometry → Lent → Cursor → Log
ahead g l c = ahead_in g (drop c.k (replayed g (image_of g l))) c

-- What falls with each turn: there are at most 32 pages, of at most 2048 bytes.
unfoldable pub left : Geometry → Plan → Cursor → ℕ
left g p c = (p.swept + p.active - c.k) * 262144 + (g.pages - c.page) * 4096 + (g.size - c.at)

unfoldable pub whole : Plan → ℕ
whole p = (p.swept + p.active + 1) * 262144

-- ---- what a turn is handed

-- the slices fit, and the plan is that of their labels
pub record Ready (g : Geometry) (l : Lent) (p : Plan) : Type 0 where
  pub fit : fits g l ≡ true
  pub plan : p ≡ log_plan (length l.tags) (labels_of l.tags l.paths)

abbrev pub Planned : Flash → Plan → Type 0
Planned m p = Ready m.geometry (lent_of m) p

-- the number of block k
unfoldable pub number_at : Plan → ℕ → ℕ
number_at p k = if_less k p.swept k (p.start.0 + (k - p.swept))

-- the cursor stands in one of the blocks that are replayed, and inside a page only where there is one
pub record Placed (g : Geometry) (l : Lent) (p : Plan) (c : Cursor) : Type 0 where
  pub block : c.k < p.swept + p.active
  pub number : c.number.0 ≡ number_at p c.k
  pub place : ℕ
  pub found : find_log g.blocks (image_of g l).labels c.number.0 ≡ some place
  pub begin : c.begin ≡ begins g place
  pub page : c.page ≤ g.pages
  pub within : (0 < c.at) → c.page < g.pages
  pub at : c.at ≤ g.size

-- ---- what a turn says

-- A write that parses: its run is not empty, and neither its offsets nor its addresses leave 32 bits.
abbrev pub Ranged : Message → Type 0
Ranged (Create parent perm path mtime cvers name uid gid) = Unit {0}
Ranged (Remove path muid mtime) = Unit {0}
Ranged (Truncate path mtime cvers muid) = Unit {0}
Ranged (Write run mtime muid cvers) = (0 < run.count) × (run.offset + run.count < 2 ^ 32) × (run.address + run.count < 2 ^ 32)
Ranged (Wstat path name uid gid muid perm mtime) = Unit {0}

-- a cursor to go on from, where less than before is left
pub record Next (g : Geometry) (l : Lent) (p : Plan) (bound : ℕ) (c : Cursor) : Type 0 where
  pub placed : Placed g l p c
  pub less : left g p c < bound

-- t is the log's next turn
abbrev pub Says : Geometry → Lent → Plan → ℕ → Log → Turn → Type 0
Says g l p bound log End = log ≡ empty
Says g l p bound log (Refused r) = log ≡ stopped r
Says g l p bound log (On c) = (log ≡ ahead g l c) × Next g l p bound c
Says g l p bound log (Told c m a) = (log ≡ entry a.0 m (ahead g l c)) × Next g l p bound c × Ranged m
