-- The log as a list of messages, by the pages of the blocks that are replayed (01, "Pages of the log"). It knows no tree.
use Rattle.std.specs.Prelude.{ℕ, zero, suc, ◌+◌, ◌*◌, Bool, true, false, ◌||◌, List, [], ◌∷◌, ◌++◌, length, get_or, eqb}
use Rattle.std.proofs.Math.Option.{Option, none, some}
use Rattle.meaning.specs.declared.Geometry.{Geometry}
use Rattle.meaning.specs.declared.Plan.{Plan}
use Rattle.meaning.specs.declared.Refusal.{Refusal}
use Rattle.meaning.specs.declared.Refusal.TheVariants as refused
use Rattle.meaning.specs.declared.Message.{Message}
use Rattle.meaning.specs.declared.Parsed.TheVariants.{Malformed, End, Found}
use Rattle.base.specs.Choice.{on_some, or_zero}
use Rattle.base.specs.Scan.{first}
use Rattle.meaning.specs.Answer.{address}
use Rattle.meaning.specs.Flash.{Image, address_of, begins, blank, page_of, log_r, log_number}
use Rattle.meaning.specs.Labels.{generation_at, log_plan, find_log}
use Rattle.meaning.specs.Message.{Page, parse}

-- a message and its address
pub record Entry : Type 0 where
  pub address : ℕ
  pub message : Message

-- messages in order, and the refusal, 7 or 8, that was met after them
pub record Log : Type 0 where
  pub entries : List Entry
  pub fault : Option Refusal

unfoldable pub empty : Log
empty = record { entries = []; fault = none }

unfoldable pub stopped : Refusal → Log
stopped r = record { entries = []; fault = some r }

unfoldable pub entry : ℕ → Message → Log → Log
entry a m rest = record { entries = record { address = a; message = m } ∷ rest.entries; fault = rest.fault }

-- one log and then another, which counts only where the first has no fault
unfoldable pub join : Log → Log → Log
join log rest = on_some log.fault
    (record { entries = log.entries ++ rest.entries; fault = rest.fault })
    (λ r. log)

-- ---- a page

-- "count above 128": the greatest count of embedded data
unfoldable pub embedded_limit : Geometry → ℕ
embedded_limit g = 128

-- the messages of a page from a position on. Each takes 7 bytes at least, so the page's length is fuel enough.
unfoldable pub messages : ℕ → Geometry → Page → ℕ → Log
messages zero g page at = empty
messages (suc fuel) g page at = elim (parse (embedded_limit g) g page at) [
  | Malformed ↦ stopped (refused.Message (address (page.address + at)))
  | End ↦ empty
  | Found m next ↦ entry (page.address + at) m (messages fuel g page next)
]

unfoldable pub page_log : Geometry → Page → Log
page_log g page = messages (length page.bytes) g page 0

-- ---- a block

-- A log block to be replayed: its r, if it is the last of its generation, where it begins in the contents, and its bytes.
pub record LogBlock : Type 0 where
  pub r : ℕ
  pub last : Bool
  pub begin : ℕ
  pub bytes : List ℕ

unfoldable pub log_page : Geometry → LogBlock → ℕ → Page
log_page g l p = record {
  bytes = page_of g l.bytes p;
  address = address_of g (log_number l.r) p 0;
  begin = l.begin + p * g.size;
}

-- PAGE: "a blank page where none may be, a written one after it, or a first byte 0xff in a page not blank". `gap`: a blank page has
-- stood before. "A blank page may stand only in the last block of its generation .., and only blank pages may follow it there."
unfoldable pub pages_from : ℕ → Geometry → LogBlock → ℕ → Bool → Log
pages_from zero g l p gap = empty
pages_from (suc left) g l p gap =
    let page : Page = log_page g l p in
    elim (blank page.bytes) [
      | true ↦ elim l.last [ true ↦ pages_from left g l (p + 1) true | false ↦ stopped (refused.Page (address page.address)) ]
      | false ↦ elim (gap || eqb (get_or page.bytes 0 0) 0xff) [
        | true ↦ stopped (refused.Page (address page.address))
        | false ↦ join (page_log g page) (pages_from left g l (p + 1) false)
      ]
    ]

unfoldable pub block_log : Geometry → LogBlock → Log
block_log g l = pages_from g.pages g l 0 false

unfoldable pub log_of : Geometry → List LogBlock → Log
log_of g [] = empty
log_of g (l ∷ ls) = join (block_log g l) (log_of g ls)

-- ---- the blocks that are replayed

-- the bytes of a place, if it is there
unfoldable pub bytes_at : Image → Option ℕ → List ℕ
bytes_at m o = on_some o [] (λ i. m.bytes i)

unfoldable pub log_block : Geometry → Image → Bool → ℕ → LogBlock
log_block g m last k = record {
  r = log_r k (generation_at (log_plan g.blocks m.labels) k);
  last = last;
  begin = begins g (or_zero (find_log g.blocks m.labels k));
  bytes = bytes_at m (find_log g.blocks m.labels k);
}

-- those of one generation, `count` of them from number k up
unfoldable pub log_blocks : Geometry → Image → ℕ → ℕ → List LogBlock
log_blocks g m k zero = []
log_blocks g m k (suc count) = log_block g m (eqb count 0) k ∷ log_blocks g m (k + 1) count

unfoldable pub planned : Geometry → Image → Plan → List LogBlock
planned g m p = log_blocks g m 0 p.swept ++ log_blocks g m p.start.0 p.active

-- "The swept log is replayed first."
unfoldable pub replayed : Geometry → Image → List LogBlock
replayed g m = planned g m (log_plan g.blocks m.labels)

-- "The insertion point is the first blank page of the last log block (of the active log if two), or none."
unfoldable pub insertion : Geometry → List LogBlock → Option ℕ
insertion g [] = none
insertion g (l ∷ []) = on_some (first g.pages (λ p. blank (log_page g l p).bytes)) none (λ p. some (log_page g l p).address)
insertion g (l ∷ k ∷ ls) = insertion g (k ∷ ls)
