-- Document 01's worked rows: the worked dump, and the starred rows as one table with one statement.
use mathlib.Core.Path.{◌≡◌, refl}
use mathlib.Core.Bool.{Bool, true, false}
use mathlib.Core.Option.{some}
use mathlib.Core.List.{List, [], ◌∷◌, map}
use Prim.Native.Nat.{ℕ, ◌+◌, ◌*◌, ◌^◌}
use lib.ListN.{length, replicate}
use Rattle.meaning.specs.declared.Geometry.{Geometry}
use Rattle.meaning.specs.declared.Message.{Message}
use Rattle.meaning.specs.declared.Message.TheVariants.{Truncate, Write}
use Rattle.meaning.specs.Answer.{Answer, ok, no, number_of, place_of}
use Rattle.meaning.specs.Flash.{address_of, path_of, log_r}
use Rattle.meaning.specs.Replay.{Tree, nothing, root, created, told}
use Rattle.meaning.specs.Mount.{Mounted, mount_of, used}
use Rattle.meaning.proofs.Shown.{Dump, line, lent, lines}

-- ---- the worked dump

pub worked : Dump
worked = record {
  geometry = record { size = 256; pages = 4; blocks = 1 };
  tags = 0x06 ∷ [];
  paths = 0 ∷ [];
  pages = line 0 0 71 0x631f0000000000a4010000070000006400000000000000030077696e01006101006177210007000000000000000800c8000000000000000100613e000080010203040506070865 ∷ [];
}

-- its mount, whole
pub worked_answer : Mounted
worked_answer = record {
  tree = record {
    records = root ∷ record {
      path = 7;
      parent = 0;
      perm = 420;
      length = 8;
      cvers = 0;
      mtime = 200;
      name = record { at = 25; len = 3 };
      uid = record { at = 30; len = 1 };
      gid = record { at = 33; len = 1 };
      muid = record { at = 57; len = 1 };
    } ∷ [];
    extents = record { path = 7; offset = 0; count = 8; address = 2 ^ 31 + 62 } ∷ [];
    applied = 2;
    ignored = 0;
  };
  erase = [];
  insert = some 256;
}

-- its listing: T, F of the root, F and E of `win`
pub worked_lines : List (List ℕ)
worked_lines =
    (84 ∷ 2 ∷ 1 ∷ 2 ∷ 0 ∷ 256 ∷ [])
    ∷ (70 ∷ 0 ∷ 0 ∷ 2147484141 ∷ 0 ∷ 0 ∷ 0 ∷ [])
    ∷ (70 ∷ 7 ∷ 0 ∷ 420 ∷ 8 ∷ 0 ∷ 200 ∷ 119 ∷ 105 ∷ 110 ∷ [])
    ∷ (69 ∷ 0 ∷ 8 ∷ 76 ∷ 62 ∷ [])
    ∷ []

pub worked_dump : (mount_of worked.geometry (lent worked) ≡ ok worked_answer) × (lines worked ≡ worked_lines)
unfolding lines worked worked_answer worked_lines
worked_dump = (refl, refl)

-- ---- the starred rows

pages4 : ℕ → Geometry
pages4 n = record { size = 256; pages = 4; blocks = n }

-- the erase list of an image, or the refusal's number and place; each page of its blocks holds `e` and nothing else
said : Answer Mounted → List ℕ
said (ok a) = a.erase
said (no r) = number_of r ∷ place_of r ∷ []

image : List ℕ → List ℕ → List ℕ
image tags paths = said (mount_of (pages4 (length tags)) (record { tags = tags; paths = paths; contents = replicate (1024 * length tags) 0x65 }))

-- two boot blocks number 0 of two copy generations
copies : ℕ → ℕ → List ℕ
copies g h = image (0x01 ∷ 0x01 ∷ []) (path_of 0 g ∷ path_of 0 h ∷ [])

-- a swept log 0, 1 of generation 1 and an active log of generation 0
logs : ℕ → ℕ → List ℕ
logs a b = image (0x06 ∷ 0x06 ∷ 0x06 ∷ 0x06 ∷ []) (path_of (log_r 0 1) 0 ∷ path_of (log_r 1 1) 0 ∷ path_of (log_r a 0) 0 ∷ path_of (log_r b 0) 0 ∷ [])

-- messages told to a plain file 7 with cvers 0
file : Tree
file = record { records = created 0 420 7 0 0 nothing nothing nothing ∷ []; extents = []; applied = 0; ignored = 0 }

after : List Message → Tree
after ms = elim (told (map (λ m. record { address = 0; message = m }) ms) file) [ no r ↦ file | ok t ↦ t ]

write : ℕ → ℕ → ℕ → ℕ → Message
write offset count address cvers = Write (record { path = 7; offset = offset; count = count; address = address }) 0 nothing cvers

-- is page p of data block 0 used then? Pages of 512 bytes.
bit : Bool → ℕ
bit true = 1
bit false = 0

used_after : List Message → ℕ → ℕ
used_after ms p = bit (used (record { size = 512; pages = 4; blocks = 1 }) (after ms).extents 0 p)

-- p is page 0, q page 1, s page 2, elsewhere page 3
three : List Message
three = write 0 512 0 0 ∷ write 128 256 512 0 ∷ write 384 128 1024 0 ∷ []

four : List Message
four = write 0 512 0 0 ∷ write 128 256 512 0 ∷ write 384 128 1024 0 ∷ write 0 128 1536 0 ∷ []

-- create cvers 0, truncate to 2, writes with 0 and with 2: applied and ignored
versions : List Message
versions = Truncate 7 0 2 nothing ∷ write 0 1 0 0 ∷ write 0 1 0 2 ∷ []

-- a write from before a truncation counts for nothing after it
stale : (after (write 0 8 0 0 ∷ Truncate 7 0 1 nothing ∷ write 0 8 8 0 ∷ [])).extents ≡ []
unfolding lines file after write
stale = refl

pub record Row : Type 0 where
  pub got : List ℕ
  pub want : List ℕ

pub table : List Row
table =
    record { got = copies 3 0; want = 0 ∷ [] }  -- newer 0: the block of generation 3 is to be erased
    ∷ record { got = copies 0 1; want = 0 ∷ [] }
    ∷ record { got = copies 0 2; want = 4 ∷ 0 ∷ [] }
    ∷ record { got = copies 1 1; want = 4 ∷ 0 ∷ [] }
    ∷ record { got = path_of 5 3 ∷ []; want = 23 ∷ [] }
    ∷ record { got = path_of (log_r 2 1) 0 ∷ []; want = 36 ∷ [] }
    ∷ record { got = logs 1 2; want = 1 ∷ [] }  -- swept 1 dropped
    ∷ record { got = logs 4 5; want = [] }
    ∷ record { got = logs 0 1; want = 6 ∷ 0 ∷ [] }
    ∷ record { got = address_of (pages4 1) 3 2 62 ∷ []; want = 3646 ∷ [] }
    ∷ record { got = (after versions).applied ∷ (after versions).ignored ∷ []; want = 2 ∷ 1 ∷ [] }
    ∷ record { got = used_after three 0 ∷ used_after four 0 ∷ []; want = 1 ∷ 0 ∷ [] }
    ∷ []

pub starred : map (λ (r : Row). r.got) table ≡ map (λ (r : Row). r.want) table
unfolding lines table pages4 said image copies logs file after write bit used_after three four versions
starred = refl
