-- Geometry, the lent slices, and what a label says (01, "Geometry and labels").
use Rattle.std.specs.Prelude.{ℕ, ◌+◌, ◌-◌, ◌*◌, ◌/◌, ◌%◌, ◌^◌, Bool, not, ◌&&◌, ◌||◌, List, length, get_or, take, drop, eqb, ltb, leb}
use Rattle.meaning.specs.declared.Geometry.{Geometry}
use Rattle.meaning.specs.declared.Place.{Place}
use Rattle.meaning.specs.declared.Tag.{Tag}
use Rattle.meaning.specs.declared.Tag.TheVariants.{Free, Boot, Log, Data, Unknown}
use Rattle.base.specs.Choice.{if_true, if_eq}
use Rattle.base.specs.Scan.{all_of}

-- "Page size 256, 512, 1024 or 2048 bytes"
unfoldable pub good_size : ℕ → Bool
good_size s = eqb s 256 || eqb s 512 || eqb s 1024 || eqb s 2048

-- "4, 8, 16 or 32 pages a block"
unfoldable pub good_pages : ℕ → Bool
good_pages p = eqb p 4 || eqb p 8 || eqb p 16 || eqb p 32

-- ".. 1 to 1024 blocks."
unfoldable pub good_geometry : Geometry → Bool
good_geometry g = good_size g.size && good_pages g.pages && (leb 1 g.blocks && leb g.blocks 1024)

unfoldable pub block_size : Geometry → ℕ
block_size g = g.size * g.pages

-- "A logical byte address is (number × pages per block + page) × page size + offset."
unfoldable pub address_of : Geometry → ℕ → ℕ → ℕ → ℕ
address_of g number page offset = (number * g.pages + page) * g.size + offset

-- ---- what the host lends

pub record Lent : Type 0 where
  pub tags : List ℕ
  pub paths : List ℕ
  pub contents : List ℕ

-- "The contents slice has exactly that many bytes; tags (a byte each) and paths (64-bit each) have one place a block"
unfoldable pub fits : Geometry → Lent → Bool
fits g l =
    good_geometry g && eqb (length l.tags) g.blocks && eqb (length l.paths) g.blocks
    && eqb (length l.contents) (g.blocks * block_size g)

-- the bytes of a string
unfoldable pub text : List ℕ → Place → List ℕ
text contents p = take p.len (drop p.at contents)

-- ---- tags

-- "Tags (notes 2.2): free 0xff, boot 0x01, log 0x06, data 0x18. Reserved: 0x67, 0x79, 0x1f." The only reading of a tag byte.
unfoldable pub tag_of : ℕ → Tag
tag_of b = if_eq b 0xff Free (if_eq b 0x01 Boot (if_eq b 0x06 Log (if_eq b 0x18 Data Unknown)))

-- the byte that is written for a tag; two tags are equal where these are
unfoldable pub byte_of : Tag → ℕ
byte_of Free = 0xff
byte_of Boot = 0x01
byte_of Log = 0x06
byte_of Data = 0x18
byte_of Unknown = 0

unfoldable pub same_tag : Tag → Tag → Bool
same_tag s t = eqb (byte_of s) (byte_of t)

-- ---- paths

-- "A path is below 2^34: the low two bits are the copy generation, the rest r."
unfoldable pub copy_of : ℕ → ℕ
copy_of path = path % 4

unfoldable pub r_of : ℕ → ℕ
r_of path = path / 4

-- "for log blocks r = 4 × number + log generation"
unfoldable pub log_r : ℕ → ℕ → ℕ
log_r number generation = number * 4 + generation

unfoldable pub log_number : ℕ → ℕ
log_number r = r / 4

unfoldable pub log_generation : ℕ → ℕ
log_generation r = r % 4

-- "For boot and data blocks r is the block number"
unfoldable pub block_number : Tag → ℕ → ℕ
block_number t path = if_true (same_tag t Log) (log_number (r_of path)) (r_of path)

-- r and copy generation as a path
unfoldable pub path_of : ℕ → ℕ → ℕ
path_of r copy = r * 4 + copy

-- "An erased block has all bytes 0xff, tag 0xff, path 2^34 − 1."
abbrev pub erased_path : ℕ
erased_path = 2 ^ 34 - 1

-- the generation after g, of copies and of logs
unfoldable pub successor : ℕ → ℕ
successor g = (g + 1) % 4

-- "A copy with generation g1 is newer than g0 exactly when g1 = (g0 + 1) mod 4."
unfoldable pub follows : ℕ → ℕ → Bool
follows g1 g0 = eqb g1 (successor g0)

-- TAG: "a tag that is none of the four"
unfoldable pub bad_tag : Tag → Bool
bad_tag t = same_tag t Unknown

-- PATH: "path or number too large, not free". "Ruling: numbers are at most 4095. A free block's path is not looked at".
unfoldable pub bad_path : Tag → ℕ → Bool
bad_path t path = not (same_tag t Free) && (leb (2 ^ 34) path || ltb 4095 (block_number t path))

-- ---- the image

-- What each physical block's label says. Document 01's rules on labels see only this.
pub record Labels : Type 0 where
  pub tag : ℕ → Tag
  pub path : ℕ → ℕ

-- Labels and bytes of each physical block. All that follows speaks of these; only here are the flat slices known.
pub record Image : Type 0 where
  pub labels : Labels
  pub bytes : ℕ → List ℕ

unfoldable pub labels_of : List ℕ → List ℕ → Labels
labels_of tags paths = record { tag = λ i. tag_of (get_or tags i 0); path = λ i. get_or paths i 0 }

-- where physical block i begins in the contents
unfoldable pub begins : Geometry → ℕ → ℕ
begins g i = i * block_size g

unfoldable pub image_of : Geometry → Lent → Image
image_of g l = record { labels = labels_of l.tags l.paths; bytes = λ i. take (block_size g) (drop (begins g i) l.contents) }

-- "A page of only 0xff is blank."
unfoldable pub blank : List ℕ → Bool
blank b = all_of (λ c. eqb c 0xff) b

-- page p of a block's bytes
unfoldable pub page_of : Geometry → List ℕ → ℕ → List ℕ
page_of g b p = take g.size (drop (p * g.size) b)
