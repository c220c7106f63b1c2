-- The cursor's page in the contents is that page of the block's bytes.
use mathlib.Core.Path.{◌≡◌, sym, ap, ◌∙◌}
use mathlib.Core.Option.{Option, some}
use mathlib.Core.List.{List}
use Prim.Native.Nat.{ℕ, ◌+◌, ◌*◌, ◌≤◌, ◌<◌}
use native.Mathlib.Omega.{arith}
use lib.ListN.{length, get_or, take, drop, length-drop}
use lib.Seq.{length-take-le, get_or-take, get_or-drop, ext_get_or}
use Rattle.base.specs.Choice.{on_some, or_zero}
use Rattle.meaning.specs.declared.Geometry.{Geometry}
use Rattle.meaning.specs.Flash.{Lent, image_of, address_of, begins, block_size, page_of, log_number, log_r}
use Rattle.meaning.specs.Labels.{find_log, generation_at, log_plan}
use Rattle.meaning.specs.Message.{Page}
use Rattle.meaning.specs.Log.{bytes_at, log_block, log_page}
use Rattle.flash_log.specs.declared.Cursor.{Cursor}
use Rattle.flash_log.specs.Turn.{page_at}
use Rattle.flash_log.specs.Cursor.{Placed, number_at}
use Rattle.flash_log.proofs.Sizes.{Sizes, page_in, block_in}
use Rattle.flash_log.proofs.Planned.{number_of, block_of, found_below}

module _ (g : Geometry) (l : Lent) (s : Sizes g l) (i p : ℕ) (hi : i < g.blocks) (hp : p < g.pages) where
  abbrev at : ℕ
  at = begins g i + p * g.size

  pub room : at + g.size ≤ length l.contents
  room = omega (arith, page_in g p hp, block_in g i hi, s.contents)

  pub page_length : length (take g.size (drop at l.contents)) ≡ g.size
  page_length = length-take-le g.size (drop at l.contents) (omega (arith, length-drop at l.contents, room))

  pub page_bytes : take g.size (drop at l.contents) ≡ page_of g ((image_of g l).bytes i) p
  unfolding page_of image_of
  page_bytes =
      let rest : List ℕ = drop (begins g i) l.contents in
      let whole : length (take (block_size g) rest) ≡ block_size g =
      length-take-le (block_size g) rest (omega (arith, length-drop (begins g i) l.contents, block_in g i hi, s.contents)) in
      let len : length (take g.size (drop (p * g.size) (take (block_size g) rest))) ≡ g.size =
      length-take-le g.size (drop (p * g.size) (take (block_size g) rest))
      (omega (arith, length-drop (p * g.size) (take (block_size g) rest), whole, page_in g p hp)) in
      ext_get_or 0 _ _ (page_length ∙ sym len) (λ o h.
      let below : o < g.size = omega (arith, page_length) in
      get_or-take g.size (drop at l.contents) o 0 below
      ∙ get_or-drop at l.contents o 0
      ∙ ap (λ (j : ℕ). get_or l.contents j 0) (omega arith)
      ∙ sym (get_or-drop (begins g i) l.contents (p * g.size + o) 0)
      ∙ sym (get_or-take (block_size g) rest (p * g.size + o) 0 (omega (arith, page_in g p hp)))
      ∙ sym (get_or-drop (p * g.size) (take (block_size g) rest) o 0)
      ∙ sym (get_or-take g.size (drop (p * g.size) (take (block_size g) rest)) o 0 below))

module _ (g : Geometry) (l : Lent) (s : Sizes g l) (c : Cursor) (q : Placed g l (log_plan g.blocks (image_of g l).labels) c) where
  pub place_below : q.place < g.blocks
  place_below = found_below g.blocks (image_of g l).labels c.number.0 q.place q.found

  pub page_is : c.page < g.pages → page_at g l.contents c ≡ log_page g (block_of g (image_of g l) c.k) c.page
  unfolding page_at log_page log_block bytes_at on_some or_zero
  page_is h =
      let m = image_of g l in
      let n : ℕ = number_at (log_plan g.blocks m.labels) c.k in
      let f : find_log g.blocks m.labels n ≡ some q.place = ap (find_log g.blocks m.labels) (sym q.number) ∙ q.found in
      let b : c.begin ≡ begins g (or_zero (find_log g.blocks m.labels n)) = q.begin ∙ sym (ap (λ (o : Option ℕ). begins g (or_zero o)) f) in
      let bytes : take g.size (drop (c.begin + c.page * g.size) l.contents) ≡ page_of g (bytes_at m (find_log g.blocks m.labels n)) c.page =
      ap (λ (j : ℕ). take g.size (drop (j + c.page * g.size) l.contents)) q.begin
      ∙ page_bytes g l s q.place c.page place_below h
      ∙ sym (ap (λ (o : Option ℕ). page_of g (bytes_at m o) c.page) f) in
      let address : c.number.0 ≡ log_number (log_r n (generation_at (log_plan g.blocks m.labels) n)) =
      q.number ∙ sym (number_of g.blocks m.labels n) in
      λ j. record { bytes = bytes j; address = address_of g (address j) c.page 0; begin = b j + c.page * g.size }

  pub length_is : c.page < g.pages → length (log_page g (block_of g (image_of g l) c.k) c.page).bytes ≡ g.size
  unfolding page_at
  length_is h =
      sym (ap (λ (x : Page). length x.bytes) (page_is h))
      ∙ ap (λ (j : ℕ). length (take g.size (drop (j + c.page * g.size) l.contents))) q.begin
      ∙ page_length g l s q.place c.page place_below h
