-- Every string of a replayed tree stands in a page of the replayed log, so what keeps those blocks keeps the strings.
use mathlib.Core.Path.{◌≡◌, refl, sym, ap, ◌∙◌, subst}
use mathlib.Core.Logic.{◌⊎◌, inl, inr}
use mathlib.Core.Bool.{Bool}
use mathlib.Core.Option.{Option, none, some}
use mathlib.Core.List.{List, [], ◌∷◌}
use Prim.Native.Nat.{ℕ, zero, suc, ◌+◌, ◌*◌, ◌≤◌, ◌<◌}
use native.Mathlib.Nat.{add_assoc, mul-le-mul_right}
use native.Mathlib.Omega.{arith}
use lib.ListN.{length, take, drop, length-take, length-drop}
use lib.Seq.{take-take, drop-drop}
use lib.Dec.{eqb}
use Rattle.meaning.specs.declared.Geometry.{Geometry}
use Rattle.meaning.specs.declared.Place.{Place}
use Rattle.meaning.specs.declared.Record.{Record}
use Rattle.meaning.specs.declared.Message.{Message}
use Rattle.meaning.specs.declared.Message.TheVariants.{Create, Remove, Truncate, Write, Wstat}
use Rattle.base.specs.Choice.{on_some, or_zero}
use Rattle.base.specs.Member.{All, In, On}
use Rattle.base.proofs.Lists.{all_append, all_in}
use Rattle.base.proofs.Choices.{all_eq}
use Rattle.meaning.specs.Answer.{ok}
use Rattle.meaning.specs.Flash.{Lent, image_of, begins, block_size, page_of, text}
use Rattle.meaning.specs.Labels.{find_log}
use Rattle.meaning.specs.Message.{place_at, past, string}
use Rattle.meaning.specs.Log.{LogBlock, log_page, log_of, bytes_at, log_block, log_blocks, planned, replayed}
use Rattle.meaning.specs.Replay.{Tree, nothing, root, look, stamp, sized, created, truncated, written, restated, given_text, changed, bare, replay}
use Rattle.meaning.specs.Cut.{SameStrings}
use Rattle.replayed.proofs.Keeps.{replay_keeps}
use Rattle.replayed.proofs.Parses.{Strings, InPage, log_has}
use Rattle.replayed.proofs.Records.{look_all, Makes, records_all}

-- p stands within a page of a block of ls
pub record Stands (g : Geometry) (ls : List LogBlock) (p : Place) : Type 0 where
  pub block : LogBlock
  pub listed : In block ls
  pub page : ℕ
  pub below : page < g.pages
  pub from : ℕ
  pub at : p.at ≡ (log_page g block page).begin + from
  pub within : from + p.len ≤ length (log_page g block page).bytes

-- p has no bytes, or stands in a block of ls
abbrev pub Held : Geometry → List LogBlock → Place → Type 0
Held g ls p = (p.len ≡ 0) ⊎ Stands g ls p

-- Q of each string of a record
abbrev pub Four : (Place → Type 0) → Record → Type 0
Four Q f = Q f.name × Q f.uid × Q f.gid × Q f.muid

-- ---- what each string of the messages has, each string of the records has

module _ (Q : Place → Type 0) where
  given_text_lem : (new old : Place) → Q new → Q old → Q (given_text new old)
  unfolding given_text
  given_text_lem new old p q = all_eq Q _ _ _ _ (λ e. q) (λ e. p)

  four_made : (m : Message) → Strings Q m → Makes (Four Q) m
  unfolding created truncated written restated stamp sized
  four_made (Create parent perm path mtime cvers name uid gid) w = (w.0, w.1, w.2, w.1)
  four_made (Remove path muid mtime) w = λ f q. (q.0, q.1, q.2, w)
  four_made (Truncate path mtime cvers muid) w = λ f q. (q.0, q.1, q.2, w)
  four_made (Write run mtime muid cvers) w = λ f q. (q.0, q.1, q.2, w)
  four_made (Wstat path name uid gid muid perm mtime) w = λ f q. (
    given_text_lem name f.name w.0 q.0,
    given_text_lem uid f.uid w.1 q.1,
    given_text_lem gid f.gid w.2 q.2,
    given_text_lem muid f.muid w.3 q.3,
  )

strings_map : (P Q : Place → Type 0) (m : Message) → ((p : Place) → P p → Q p) → Strings P m → Strings Q m
strings_map P Q (Create parent perm path mtime cvers name uid gid) f s = (f name s.0, f uid s.1, f gid s.2)
strings_map P Q (Remove path muid mtime) f s = f muid s
strings_map P Q (Truncate path mtime cvers muid) f s = f muid s
strings_map P Q (Write run mtime muid cvers) f s = f muid s
strings_map P Q (Wstat path name uid gid muid perm mtime) f s = (f name s.0, f uid s.1, f gid s.2, f muid s.3)

stands_at : (g : Geometry) (ls : List LogBlock) (l : LogBlock) → In l ls → (j : ℕ) → j < g.pages → (k : ℕ)
    → past (log_page g l j).bytes k ≤ length (log_page g l j).bytes → Stands g ls (place_at (log_page g l j) k)
unfolding place_at past
stands_at g ls l i j h k w = record { block = l; listed = i; page = j; below = h; from = k + 2; at = omega arith; within = omega arith }

-- every string of a record has no bytes or stands in a page of the log
pub replay_held : (g : Geometry) (ls : List LogBlock) (t : Tree) → replay (log_of g ls) ≡ ok t → All (Four (Held g ls)) t.records
unfolding bare root nothing changed
replay_held g ls t e = replay_keeps (λ fs xs. All (Four (Held g ls)) fs) (Strings (Held g ls))
    (λ m t w a h. records_all (Four (Held g ls)) m t.records (four_made (Held g ls) m w) h) (log_of g ls) t
    (log_has (Strings (Held g ls)) g ls (λ l i j h at m next s. strings_map (InPage (log_page g l j)) (Held g ls) m
    (λ p q. subst (Held g ls) (sym q.place) (inr (stands_at g ls l i j h q.from q.whole))) s.strings))
    ((inl refl, inl refl, inl refl, inl refl), tt) e

-- ---- the log's blocks decide the bytes

-- a part of a part
pub window : {A : Type 0} (len o n : ℕ) (xs : List A) → o + len ≤ n → take len (drop o (take n xs)) ≡ take len (drop o xs)
window len zero n xs h = take-take len n xs (omega arith)
window len (suc o) zero xs h = absurd (no_room h)
  where
    no_room : suc o + len ≤ 0 → ⊥
    no_room q = omega arith
window len (suc o) (suc n) [] h = refl
window len (suc o) (suc n) (x ∷ xs) h = window len o n xs (omega arith)

page_in : (g : Geometry) (p : ℕ) → p < g.pages → p * g.size + g.size ≤ block_size g
unfolding block_size
page_in g p l = omega (arith, mul-le-mul_right g.size l)

-- a block's bytes stand where it begins, if it is there at all
abbrev Real : Geometry → List ℕ → LogBlock → Type 0
Real g contents b = (b.bytes ≡ []) ⊎ (b.bytes ≡ take (block_size g) (drop b.begin contents))

module _ (g : Geometry) (l : Lent) where
  block_real : (last : Bool) (k : ℕ) → Real g l.contents (log_block g (image_of g l) last k)
  unfolding log_block bytes_at on_some or_zero image_of
  block_real last k = go (find_log g.blocks (image_of g l).labels k)
    where
      go : (o : Option ℕ) → (bytes_at (image_of g l) o ≡ []) ⊎ (bytes_at (image_of g l) o ≡ take (block_size g) (drop (begins g (or_zero o)) l.contents))
      go none = inl refl
      go (some i) = inr refl

  blocks_real : (k count : ℕ) → All (Real g l.contents) (log_blocks g (image_of g l) k count)
  unfolding log_blocks
  blocks_real k zero = tt
  blocks_real k (suc count) = (block_real (eqb count 0) k, blocks_real (k + 1) count)

  replayed_real : All (Real g l.contents) (replayed g (image_of g l))
  unfolding replayed planned
  replayed_real = all_append (Real g l.contents) (log_blocks g (image_of g l) 0 _) _ (blocks_real 0 _) (blocks_real _ _)

  page_text : (b : LogBlock) (j from len : ℕ) → Real g l.contents b → j < g.pages → from + len ≤ length (page_of g b.bytes j)
      → take len (drop (b.begin + j * g.size + from) l.contents) ≡ take len (drop from (page_of g b.bytes j))
  unfolding page_of
  page_text b j from len (inl e) h w =
      let c : List ℕ = b.bytes in
      let none-there : len ≡ 0 = omega (arith, length-take g.size (drop (j * g.size) c), length-drop (j * g.size) c, ap length e) in
      rw none-there
  page_text b j from len (inr e) h w =
      let fits : from + len ≤ g.size = omega (arith, length-take g.size (drop (j * g.size) b.bytes)) in
      ap (λ (n : ℕ). take len (drop n l.contents)) (add_assoc b.begin (j * g.size) from)
      ∙ ap (take len) (sym (drop-drop (j * g.size + from) b.begin l.contents))
      ∙ sym (window len (j * g.size + from) (block_size g) (drop b.begin l.contents) (omega (arith, page_in g j h)))
      ∙ ap (λ (c : List ℕ). take len (drop (j * g.size + from) c)) (sym e)
      ∙ ap (take len) (sym (drop-drop from (j * g.size) b.bytes))
      ∙ sym (window len from g.size (drop (j * g.size) b.bytes) fits)

  stands_text : (p : Place) (s : Stands g (replayed g (image_of g l)) p)
      → text l.contents p ≡ take p.len (drop s.from (log_page g s.block s.page).bytes)
  unfolding text log_page
  stands_text p s =
      ap (λ (a : ℕ). take p.len (drop a l.contents)) s.at
      ∙ page_text s.block s.page s.from p.len
      (all_in (Real g l.contents) (replayed g (image_of g l)) replayed_real s.block s.listed) s.below s.within

  -- The bytes of a string's place are the bytes that its message was judged by.
  pub place_text : (b : LogBlock) → In b (replayed g (image_of g l)) → (j k : ℕ) → j < g.pages
      → past (log_page g b j).bytes k ≤ length (log_page g b j).bytes
      → text l.contents (place_at (log_page g b j) k) ≡ string (log_page g b j).bytes k
  unfolding place_at string stands_at
  place_text b i j k h w = stands_text _ (stands_at g (replayed g (image_of g l)) b i j h k w)

-- Where the replayed blocks are the same, so are the strings.
pub same_text : (g : Geometry) (l l' : Lent) → replayed g (image_of g l') ≡ replayed g (image_of g l)
    → (p : Place) → Held g (replayed g (image_of g l)) p → text l'.contents p ≡ text l.contents p
unfolding text
same_text g l l' e p (inl z) = rw z
same_text g l l' e p (inr s) =
    stands_text g l' p (record {
      block = s.block;
      listed = subst (In s.block) (sym e) s.listed;
      page = s.page;
      below = s.below;
      from = s.from;
      at = s.at;
      within = s.within;
    }) ∙ sym (stands_text g l p s)

-- the four strings of every record show the same bytes
pub same_strings : (g : Geometry) (l l' : Lent) (t : Tree) → replay (log_of g (replayed g (image_of g l))) ≡ ok t
    → replayed g (image_of g l') ≡ replayed g (image_of g l) → (p : ℕ) (f : Record) → look p t.records ≡ some f
    → SameStrings l.contents l'.contents f
same_strings g l l' t r e p f h =
    let ls : List LogBlock = replayed g (image_of g l) in
    let four : Four (Held g ls) f = subst (On (Four (Held g ls))) h (look_all (Four (Held g ls)) p t.records (replay_held g ls t r)) in
    record {
      name = same_text g l l' e f.name four.0;
      uid = same_text g l l' e f.uid four.1;
      gid = same_text g l l' e f.gid four.2;
      muid = same_text g l l' e f.muid four.3;
    }
