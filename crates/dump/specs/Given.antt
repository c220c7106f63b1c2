-- What a good dump says: labels and bytes, by themselves and in the lent slices.
use Rattle.std.specs.Prelude.{ℕ, zero, suc, ◌+◌, ◌*◌, List, [], ◌∷◌, length, replicate, Result, Ok, Err}
use Rattle.base.specs.Choice.{if_less, bind}
use Rattle.meaning.specs.declared.Geometry.{Geometry}
use Rattle.meaning.specs.declared.Refusal.{Refusal}
use Rattle.meaning.specs.declared.Refusal.TheVariants as refused
use Rattle.meaning.specs.Answer.{Answer, ok, no}
use Rattle.meaning.specs.Flash.{Lent, block_size}
use Rattle.text.specs.Piece.{past_at, hex_at, on_read}
use Rattle.text.specs.Put.{put}
use Rattle.dump.specs.Lines.{label_at, page_at, places}
use Rattle.dump.specs.Dump.{on_ok, dump_of}
use Rattle.dump.specs.declared.Dump.{Dump}

abbrev pub the_tag : ℕ → ℕ → ℕ
the_tag tag path = tag

abbrev pub the_path : ℕ → ℕ → ℕ
the_path tag path = path

-- what f picks of each of so many B lines
unfoldable pub labels_from : (ℕ → ℕ → ℕ) → List ℕ → ℕ → ℕ → List ℕ
labels_from f s zero at = []
labels_from f s (suc left) at = on_read (label_at s at) [] (λ label. f label.tag label.path ∷ labels_from f s left label.next)

-- so many bytes in hex
unfoldable pub bytes_from : List ℕ → ℕ → ℕ → List ℕ
bytes_from s zero at = []
bytes_from s (suc left) at = on_read (hex_at s at) [] (λ v. v ∷ bytes_from s left (past_at s (past_at s at)))

-- the bytes of a P line, put into the contents l where its page begins; `rest` goes on
unfoldable pub pages_step : List ℕ → Geometry → ℕ → List ℕ → (ℕ → List ℕ → List ℕ) → List ℕ
pages_step s g at l rest =
    if_less at (length s)
    (on_read (page_at s at g) l (λ page. rest page.next (put l (page.place * g.size) (bytes_from s page.count page.from))))
    l

-- P lines to the end, fewer than `left`
unfoldable pub pages_from : List ℕ → Geometry → ℕ → ℕ → List ℕ → List ℕ
pages_from s g zero at l = l
pages_from s g (suc left) at l = pages_step s g at l (pages_from s g left)

unfoldable pub content_bytes : Geometry → ℕ
content_bytes g = g.blocks * block_size g

-- ---- by itself

pub record Given : Type 0 where
  pub geometry : Geometry
  pub lent : Lent

-- the image that good lines say, B from `labels` on and P from `pages` on: "bytes not given are 0xff"
unfoldable pub image_at : List ℕ → Geometry → ℕ → ℕ → Lent
image_at s g labels pages = record {
  tags = labels_from the_tag s g.blocks labels;
  paths = labels_from the_path s g.blocks labels;
  contents = pages_from s g (places g + 1) pages (replicate (content_bytes g) 0xff);
}

-- what a text says as a dump
unfoldable pub given : List ℕ → ℕ → Answer Given
given s first = on_ok (dump_of s first) no (λ d. ok (record { geometry = d.geometry; lent = image_at s d.geometry d.labels d.pages }))

-- ---- in slices that are lent, with so many places for tags, paths and bytes; GEOMETRY where "a slice length is wrong": too short

unfoldable pub answer : List ℕ → ℕ → ℕ → ℕ → ℕ → Result Dump Refusal
answer s first tags paths bytes =
    on_ok (dump_of s first) Err (λ d.
    if_less tags d.geometry.blocks (Err refused.Geometry)
    (if_less paths d.geometry.blocks (Err refused.Geometry)
    (bind (block_size d.geometry) (λ b.
    if_less bytes (d.geometry.blocks * b) (Err refused.Geometry)
    (Ok d)))))

-- what the slices hold after an answer; after a refusal, what they held
unfoldable pub tags_after : Result Dump Refusal → List ℕ → List ℕ → List ℕ
tags_after (Ok d) s l = put l 0 (labels_from the_tag s d.geometry.blocks d.labels)
tags_after (Err r) s l = l

unfoldable pub paths_after : Result Dump Refusal → List ℕ → List ℕ → List ℕ
paths_after (Ok d) s l = put l 0 (labels_from the_path s d.geometry.blocks d.labels)
paths_after (Err r) s l = l

unfoldable pub contents_after : Result Dump Refusal → List ℕ → List ℕ → List ℕ
contents_after (Ok d) s l =
    pages_from s d.geometry (places d.geometry + 1) d.pages (put l 0 (replicate (content_bytes d.geometry) 0xff))
contents_after (Err r) s l = l
