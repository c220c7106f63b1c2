-- Making room on two small images, by computation: what a cut at each step leaves, and what a whole run leaves. The theorems about
-- every image are in the crate demand; these rows are where a wrong definition fails on a fact.
use mathlib.Core.Path.{◌≡◌, refl}
use mathlib.Core.List.{List, [], ◌∷◌, ◌++◌, map}
use Prim.Native.Nat.{ℕ}
use lib.ListN.{replicate}
use Rattle.meaning.specs.declared.Geometry.{Geometry}
use Rattle.meaning.specs.declared.Step.{Step}
use Rattle.meaning.specs.declared.Step.TheVariants.{Erase, PageWrite, LabelWrite}
use Rattle.meaning.specs.Answer.{Answer, ok, no, block}
use Rattle.meaning.specs.Flash.{Lent, image_of, begins, block_size}
use Rattle.meaning.specs.Mount.{Mounted, mount_of}
use Rattle.meaning.specs.Services.{overwrite, relabel, done, settle, reclaim, leaves, bytes_from}
use Rattle.meaning.proofs.Shown.{Given, Dump, line, lent, answer_lines, lines}

pub geometry : Geometry
geometry = record { size = 256; pages = 4; blocks = 4 }

-- ---- two images of one file, 7, whose bytes stand on pages 0 and 2 of data block 5

-- the log's page: create 7 `win`; 256 bytes from page 0 of data 5; 10 bytes from byte 3 of its page 2; `e`
log_page : Given
log_page = line 0 0 91 0x631f0000000000a4010000070000006400000000000000030077696e01006101006177190007000000000000000001c8000000000000000100610014000077190007000000000100000a00c8000000000000000100610316000065

-- block 1 is data 5; block 2 is free and holds other bytes; block 3 is free
pub settled : Dump
settled = record {
  geometry = geometry;
  tags = 0x06 ∷ 0x18 ∷ 0xff ∷ 0xff ∷ [];
  paths = 0 ∷ 20 ∷ 7 ∷ 7 ∷ [];
  pages =
      log_page ∷ line 1 0 4 0x01020304 ∷ line 1 1 2 0x5a5a ∷ line 1 2 5 0x0000000506 ∷ line 2 3 2 0x3c3c ∷ [];
}

-- block 1 is an older data 5, block 2 the newer; block 3 is data 9, which no extent touches
pub unsettled : Dump
unsettled = record {
  geometry = geometry;
  tags = 0x06 ∷ 0x18 ∷ 0x18 ∷ 0x18 ∷ [];
  paths = 0 ∷ 23 ∷ 20 ∷ 36 ∷ [];
  pages = log_page ∷ line 1 0 1 0x77 ∷ line 2 0 4 0x01020304 ∷ line 2 2 5 0x0000000506 ∷ line 3 0 1 0x44 ∷ [];
}

-- ---- what is compared: the listing, and the bytes of file 7 at its beginning and where its two runs meet

bytes : Lent → Answer Mounted → List ℕ
bytes l (no r) = []
bytes l (ok a) =
    bytes_from geometry (image_of geometry l) a.tree.extents 7 0 5
    ++ bytes_from geometry (image_of geometry l) a.tree.extents 7 255 4

seen : Lent → Answer Mounted → List (List ℕ)
seen l a = bytes l a ∷ answer_lines l.contents a

shows : Lent → List (List ℕ)
shows l = seen l (mount_of geometry l)

-- ---- what a cut may leave, with zero bytes for any bytes

spoilt : Lent → ℕ → Lent
spoilt l i = overwrite l (begins geometry i) (replicate (block_size geometry) 0)

torn : Lent → Step → List Lent
torn l (Erase b) = spoilt l b.0 ∷ spoilt (relabel l b.0 0xff 3) b.0 ∷ []
torn l (PageWrite from to p) = spoilt l to.0 ∷ []
torn l (LabelWrite b tag path) = []

cuts : Lent → List Step → List Lent
cuts l [] = l ∷ []
cuts l (s ∷ ss) = l ∷ (torn l s ++ cuts (done geometry l s) ss)

cuts_of : Lent → Answer (List Step) → List Lent
cuts_of l (no r) = []
cuts_of l (ok ss) = cuts l ss

-- ---- settle

settle_cuts : map shows (cuts_of (lent unsettled) (settle geometry (lent unsettled))) ≡ replicate 7 (shows (lent unsettled))
unfolding lines geometry log_page unsettled bytes seen shows spoilt torn cuts cuts_of
settle_cuts = refl

settle_steps_lem : settle geometry (lent unsettled) ≡ ok (Erase (block 1) ∷ Erase (block 3) ∷ [])
unfolding lines geometry log_page unsettled
settle_steps_lem = refl

-- what is left of a settle: nothing more to erase
settle_ends : settle geometry (leaves geometry (lent unsettled) (settle geometry (lent unsettled))) ≡ ok []
unfolding lines geometry log_page unsettled
settle_ends = refl

-- ---- reclaim of data 5

reclaim_cuts : map shows (cuts_of (lent settled) (reclaim geometry (lent settled) 5)) ≡ replicate 12 (shows (lent settled))
unfolding lines geometry log_page settled bytes seen shows spoilt torn cuts cuts_of
reclaim_cuts = refl

reclaim_steps_lem : reclaim geometry (lent settled) 5
    ≡ ok (Erase (block 2) ∷ PageWrite (block 1) (block 2) 0 ∷ PageWrite (block 1) (block 2) 2 ∷ LabelWrite (block 2) 0x18 21 ∷ Erase (block 1) ∷ [])
unfolding lines geometry log_page settled
reclaim_steps_lem = refl

-- what is left of a reclaim: the dump of an image with one data 5, its used pages as they were, every other page blank
renewed : Dump
renewed = record {
  geometry = geometry;
  tags = 0x06 ∷ 0xff ∷ 0x18 ∷ 0xff ∷ [];
  paths = 0 ∷ 17179869183 ∷ 21 ∷ 7 ∷ [];
  pages = log_page ∷ line 2 0 4 0x01020304 ∷ line 2 2 5 0x0000000506 ∷ [];
}

reclaim_ends : leaves geometry (lent settled) (reclaim geometry (lent settled) 5) ≡ lent renewed
unfolding lines geometry log_page settled renewed
reclaim_ends = refl
