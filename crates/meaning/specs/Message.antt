-- The messages of a log page (01, "Pages of the log").
use Rattle.std.specs.Prelude.{ℕ, ◌+◌, ◌-◌, ◌*◌, ◌/◌, ◌%◌, ◌^◌, Bool, false, not, ◌&&◌, ◌||◌, List, [], ◌∷◌, length, get_or, take, drop, eqb, leb}
use Rattle.meaning.specs.declared.Geometry.{Geometry}
use Rattle.meaning.specs.declared.Place.{Place}
use Rattle.meaning.specs.declared.Message.{Message}
use Rattle.meaning.specs.declared.Message.TheVariants.{Create, Remove, Truncate, Write, Wstat}
use Rattle.meaning.specs.declared.Parsed.{Parsed}
use Rattle.meaning.specs.declared.Parsed.TheVariants.{Malformed, End, Found}
use Rattle.base.specs.Choice.{if_true, if_less, if_eq, bind}
use Rattle.base.specs.Scan.{all_of}
use Rattle.meaning.specs.Flash.{block_size}

-- A log page: its bytes, its logical address, and where it begins in the contents.
pub record Page : Type 0 where
  pub bytes : List ℕ
  pub address : ℕ
  pub begin : ℕ

-- ---- numbers and strings. Past the page's end each byte reads as 0.

-- "Numbers are least significant byte first."
unfoldable pub u16 : List ℕ → ℕ → ℕ
u16 b i = get_or b i 0 + 256 * get_or b (i + 1) 0

unfoldable pub u32 : List ℕ → ℕ → ℕ
u32 b i = u16 b i + 65536 * u16 b (i + 2)

-- "count[2], then that many bytes": the string at i, its place in the contents, and the position past it
unfoldable pub string : List ℕ → ℕ → List ℕ
string b i = take (u16 b i) (drop (i + 2) b)

unfoldable pub place_at : Page → ℕ → Place
place_at p i = record { at = p.begin + i + 2; len = u16 p.bytes i }

unfoldable pub past : List ℕ → ℕ → ℕ
past b i = i + 2 + u16 b i

-- ---- names

-- `/` or a zero byte
unfoldable pub barred : ℕ → Bool
barred c = eqb c 47 || eqb c 0

-- `.` or `..`
unfoldable pub dots : List ℕ → Bool
dots [] = false
dots (a ∷ []) = eqb a 46
dots (a ∷ b ∷ []) = eqb a 46 && eqb b 46
dots (a ∷ b ∷ c ∷ cs) = false

-- Malformed: "a file name (the name field of `c` or `W`) over 255 bytes, holding `/` or a zero byte, or equal to `.` or `..`"
unfoldable pub good_name : List ℕ → Bool
good_name s = leb (length s) 255 && all_of (λ c. not (barred c)) s && not (dots s)

-- ---- a write's bytes: `data` is the address of the message's data, and `held` how many bytes of it there are

-- "with bit 31 of flashaddr set, count above 128, or low 31 bits unlike the address of the data's first byte, data being count bytes"
unfoldable pub good_embedded : ℕ → ℕ → ℕ → ℕ → ℕ → Bool
good_embedded limit count flashaddr data' held = leb count limit && eqb (flashaddr - 2 ^ 31) data' && eqb held count

-- "with it clear, data not empty, number above 4095, or a run that leaves its block"
unfoldable pub good_run : Geometry → ℕ → ℕ → ℕ → Bool
good_run g count flashaddr held =
    eqb held 0 && leb (flashaddr / block_size g) 4095 && leb (flashaddr % block_size g + count) (block_size g)

-- an address with bit 31 set is one in the log
unfoldable pub in_log : ℕ → Bool
in_log flashaddr = leb (2 ^ 31) flashaddr

unfoldable pub good_data : ℕ → Geometry → ℕ → ℕ → ℕ → ℕ → Bool
good_data limit g count flashaddr data' held =
    if_true (in_log flashaddr) (good_embedded limit count flashaddr data' held) (good_run g count flashaddr held)

-- ---- the message of each type, from where its payload begins, p, to where it must end. "payload not used up exactly by its
-- fields" is malformed: positions only grow, so the position past the last field tells.

unfoldable pub well_formed : Bool → Message → ℕ → Parsed
well_formed good m end = if_true good (Found m end) Malformed

-- c: perm[4] newpath[4] mtime[4] cvers[4] name[s] uid[s] gid[s]. Malformed: "a create name that is empty".
unfoldable pub create_at : Page → ℕ → ℕ → ℕ → Parsed
create_at page path p end =
    let b : List ℕ = page.bytes in
    bind (p + 16) (λ name. bind (past b name) (λ uid. bind (past b uid) (λ gid.
    if_eq (past b gid) end
    (if_eq (u16 b name) 0 Malformed
    (well_formed (good_name (string b name))
    (Create path (u32 b p) (u32 b (p + 4)) (u32 b (p + 8)) (u32 b (p + 12)) (place_at page name) (place_at page uid) (place_at page gid)) end))
    Malformed)))

-- r: mtime[4] muid[s]
unfoldable pub remove_at : Page → ℕ → ℕ → ℕ → Parsed
remove_at page path p end =
    let b : List ℕ = page.bytes in
    bind (p + 4) (λ muid.
    if_eq (past b muid) end (Found (Remove path (place_at page muid) (u32 b p)) end) Malformed)

-- t: mtime[4] cvers[4] muid[s]
unfoldable pub truncate_at : Page → ℕ → ℕ → ℕ → Parsed
truncate_at page path p end =
    let b : List ℕ = page.bytes in
    bind (p + 8) (λ muid.
    if_eq (past b muid) end (Found (Truncate path (u32 b p) (u32 b (p + 4)) (place_at page muid)) end) Malformed)

-- w: offset[4] count[2] mtime[4] cvers[4] muid[s] flashaddr[4] data. Malformed: "count 0; offset + count above 4,294,967,295".
unfoldable pub write_at : ℕ → Geometry → Page → ℕ → ℕ → ℕ → Parsed
write_at limit g page path p end =
    let b : List ℕ = page.bytes in
    bind (u32 b p) (λ offset. bind (u16 b (p + 4)) (λ count. bind (p + 14) (λ muid. bind (past b muid) (λ flash. bind (u32 b flash) (λ flashaddr.
    if_less end (flash + 4) Malformed
    (if_eq count 0 Malformed
    (if_less 4294967295 (offset + count) Malformed
    (well_formed (good_data limit g count flashaddr (page.address + (flash + 4)) (end - (flash + 4)))
    (Write (record { path = path; offset = offset; count = count; address = flashaddr }) (u32 b (p + 6)) (place_at page muid) (u32 b (p + 10))) end))))))))

-- W: name[s] perm[4] uid[s] gid[s] mtime[4] muid[s]
unfoldable pub wstat_at : Page → ℕ → ℕ → ℕ → Parsed
wstat_at page path name end =
    let b : List ℕ = page.bytes in
    bind (past b name) (λ perm. bind (perm + 4) (λ uid. bind (past b uid) (λ gid. bind (past b gid) (λ mtime. bind (mtime + 4) (λ muid.
    if_eq (past b muid) end
    (well_formed (good_name (string b name))
    (Wstat path (place_at page name) (place_at page uid) (place_at page gid) (place_at page muid) (u32 b perm) (u32 b mtime)) end)
    Malformed)))))

-- "type[1] size[2] path[4] payload", by its type; malformed: "another type"
unfoldable pub typed : ℕ → Geometry → Page → ℕ → ℕ → Parsed
typed limit g page at end =
    bind (get_or page.bytes at 0) (λ type. bind (u32 page.bytes (at + 3)) (λ path.
    if_eq type 0x63 (create_at page path (at + 7) end)
    (if_eq type 0x72 (remove_at page path (at + 7) end)
    (if_eq type 0x74 (truncate_at page path (at + 7) end)
    (if_eq type 0x77 (write_at limit g page path (at + 7) end)
    (if_eq type 0x57 (wstat_at page path (at + 7) end)
    Malformed))))))

-- What stands at a position: "after `e` the rest of the page is ignored; a page may also end exactly after a message". Malformed:
-- "size below 4 or past the page". The limit is the greatest count of embedded data.
unfoldable pub parse : ℕ → Geometry → Page → ℕ → Parsed
parse limit g page at =
    let b : List ℕ = page.bytes in
    if_less at (length b)
    (if_eq (get_or b at 0) 0x65 End
    (bind (u16 b (at + 1)) (λ size.
    if_less size 4 Malformed
    (if_less (length b) (at + 3 + size) Malformed
    (typed limit g page at (at + 3 + size))))))
    End
