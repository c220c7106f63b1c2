-- What one turn answers: the next block, what a page that is begun is, or the message at a position.
use Rattle.std.specs.Prelude.{ℕ, ◌+◌, ◌-◌, ◌*◌, Bool, true, false, List, length, get_or, take, drop, eqb, Option, Some, None}
use Rattle.base.specs.Choice.{if_true, if_less, if_eq, on_some}
use Rattle.meaning.specs.declared.Geometry.{Geometry}
use Rattle.meaning.specs.declared.Plan.{Plan}
use Rattle.meaning.specs.declared.Tag.TheVariants as means
use Rattle.meaning.specs.declared.Parsed.{Parsed}
use Rattle.meaning.specs.declared.Parsed.TheVariants as parsed
use Rattle.meaning.specs.declared.Refusal.TheVariants as refused
use Rattle.meaning.specs.Answer.{address, number}
use Rattle.meaning.specs.Flash.{Lent, labels_of, address_of, begins, blank, log_r}
use Rattle.meaning.specs.Labels.{find, generation_at, view}
use Rattle.meaning.specs.Message.{Page, parse}
use Rattle.meaning.specs.Log.{embedded_limit}
use Rattle.flash_log.specs.declared.Cursor.{Cursor}
use Rattle.flash_log.specs.declared.Opening.{Opening}
use Rattle.flash_log.specs.declared.Opening.TheVariants as opening
use Rattle.flash_log.specs.declared.Turn.{Turn}
use Rattle.flash_log.specs.declared.Turn.TheVariants.{End, Refused, On, Told}

-- ---- places

-- the next page of the block, not looked at yet
unfoldable pub next_page : Cursor → Bool → Cursor
next_page c gap = record { k = c.k; number = c.number; begin = c.begin; page = c.page + 1; at = 0; gap = gap }

-- another position of the page
unfoldable pub in_page : Cursor → ℕ → Cursor
in_page c at = record { k = c.k; number = c.number; begin = c.begin; page = c.page; at = at; gap = c.gap }

-- block k is "the last block of its generation"
unfoldable pub last_at : Plan → ℕ → Bool
last_at p k = if_less k p.swept (eqb (k + 1) p.swept) (if_less (k - p.swept) p.active (eqb (k - p.swept + 1) p.active) false)

-- ---- blocks

-- the first page of block k, whose number is n
unfoldable pub on_block : Geometry → Lent → Plan → ℕ → ℕ → Option Cursor
on_block g l p k n = on_some (find (length l.tags) (view (length l.tags) (labels_of l.tags l.paths) means.Log) (log_r n (generation_at p n))) None
    (λ i. Some (record { k = k; number = number n; begin = begins g i; page = 0; at = 0; gap = false }))

-- block k, counted over the swept and then the active log, if there is one
unfoldable pub block_at : Geometry → Lent → Plan → ℕ → Option Cursor
block_at g l p k =
    if_less k p.swept (on_block g l p k k)
    (if_less (k - p.swept) p.active (on_block g l p k (p.start.0 + (k - p.swept))) None)

-- the turn to a block, or the end
abbrev pub onto : Option Cursor → Turn
onto (Some c) = On c
onto None = End

-- ---- pages

-- the cursor's page, from the contents
unfoldable pub page_at : Geometry → List ℕ → Cursor → Page
page_at g contents c = record {
  bytes = take g.size (drop (c.begin + c.page * g.size) contents);
  address = address_of g c.number.0 c.page 0;
  begin = c.begin + c.page * g.size;
}

unfoldable pub said : Page → Cursor → Parsed → Turn
said page c parsed.Malformed = Refused (refused.Message (address (page.address + c.at)))
said page c parsed.End = On (next_page c false)
said page c (parsed.Found m next) = Told (in_page c next) m (address (page.address + c.at))

-- what stands at the cursor's position
unfoldable pub spoken : Geometry → Page → Cursor → Turn
spoken g page c = said page c (parse (embedded_limit g) g page c.at)

-- what a page that has not been looked at is
unfoldable pub fresh : Plan → List ℕ → Cursor → Opening
fresh p bytes c =
    if_eq (get_or bytes 0 0) 0xff
    (if_true (blank bytes) (if_true (last_at p c.k) opening.Blank opening.Bad) opening.Bad)
    (if_true c.gap opening.Bad opening.Written)

-- what the cursor's page is
unfoldable pub opened : Plan → List ℕ → Cursor → Opening
opened p bytes c = if_less 0 c.at opening.Written (fresh p bytes c)

-- PAGE, a blank page, or the message at the cursor's position
abbrev pub begun : Geometry → Page → Cursor → Opening → Turn
begun g page c opening.Bad = Refused (refused.Page (address page.address))
begun g page c opening.Blank = On (next_page c true)
begun g page c opening.Written = spoken g page c

unfoldable pub turn_of : Geometry → Lent → Plan → Cursor → Turn
turn_of g l p c =
    if_eq c.page g.pages (onto (block_at g l p (c.k + 1)))
    (begun g (page_at g l.contents c) c (opened p (page_at g l.contents c).bytes c))
