-- The insertion point: the scan of a block's pages, and the last of the blocks that are replayed.
use mathlib.Core.Path.{◌≡◌, refl, sym, ap, ap₂, ◌∙◌, subst}
use mathlib.Core.Bool.{Bool, true, ◌&&◌}
use mathlib.Core.Option.{Option, none, some}
use mathlib.Core.List.{List, [], ◌∷◌}
use Prim.Native.Nat.{ℕ, zero, suc, ◌+◌, ◌-◌, ◌*◌, ◌≤◌, ◌<◌}
use native.Mathlib.Omega.{arith}
use lib.ListN.{length, drop}
use lib.Seq.{drop-nil}
use lib.Dec.{T, ltb, lt→ltb}
use Rattle.std.specs.Prelude as std
use Rattle.std.specs.Prelude.{Some, None}
use Rattle.base.specs.Choice.{if_true, is_some, on_some, or_zero}
use Rattle.base.specs.Scan.{first}
use Rattle.base.proofs.Tests.{and_i}
use Rattle.base.proofs.Choices.{if_yes, less_no}
use Rattle.base.proofs.Scans.{first_cong, first_some}
use Rattle.meaning.specs.declared.Geometry.{Geometry}
use Rattle.meaning.specs.declared.Plan.{Plan}
use Rattle.meaning.specs.declared.Address.{Address}
use Rattle.meaning.specs.declared.Block.{Block}
use Rattle.meaning.specs.declared.Tag.TheVariants as means
use Rattle.meaning.specs.Answer.{address}
use Rattle.meaning.specs.Flash.{Image, Labels, Lent, address_of, begins, blank, block_size, image_of, labels_of, log_number, log_r, page_of, successor}
use Rattle.meaning.specs.Labels.{active_generation, find, find_log, generation_at, has, log_plan, lowest_number, plan_from, plan_of, unbroken, view}
use Rattle.meaning.specs.Log.{LogBlock, bytes_at, insertion, log_block, log_page, replayed}
use Rattle.label.specs.Search.{found}
use Rattle.label.proofs.Answered.{at_some, at_below, nothing_none}
use Rattle.label.proofs.Scanned.{Clear, first_hit, first_clear}
use Rattle.flash_log.specs.Cursor.{Ready, number_at}
use Rattle.flash_log.specs.Point.{blank_page, is_blank, point}
use Rattle.flash_log.proofs.Sizes.{Sizes, sizes, block_in}
use Rattle.flash_log.proofs.Planned.{block_stands, block_of, drop_block, drop_end, number_of}
use Rattle.flash_log.proofs.Paged.{page_bytes}
use Rattle.flash_log.proofs.Ahead.{plan_is}

-- ---- the pages of a block, in turn

module _ (g : Geometry) (contents : List ℕ) (begin : ℕ) where
  abbrev q : ℕ → Bool
  q = is_blank g contents begin

  -- v is the code's answer for page p, the one to be looked at, and x the address of that page
  pub blank_hit : {v : Bool} {x : Address} {p : ℕ} (n i : ℕ) → Clear q i → i < g.pages → p ≡ i → v ≡ q p → v ≡ true → x.0 ≡ address_of g n p 0 → Some x ≡ point (blank_page g contents begin n)
  unfolding blank_page point on_some
  blank_hit n i c l s e f a = rw (first_hit q g.pages i c l (e ∙ ap q s) f) (ap (λ (k : ℕ). Some (address k)) (a ∙ ap (λ (k : ℕ). address_of g n k 0) s))

  pub blank_none : (n i : ℕ) → Clear q i → g.pages ≤ i → None ≡ point (blank_page g contents begin n)
  unfolding blank_page point on_some
  blank_none n i c l = rw (first_clear q g.pages i c l)

-- ---- the last block

-- the insertion point looks at the last block alone
of_last : (g : Geometry) (k : ℕ) (ls : List LogBlock) (x : LogBlock) (xs : List LogBlock) → drop k ls ≡ x ∷ xs → insertion g ls ≡ insertion g (x ∷ xs)
unfolding insertion
of_last g zero ls x xs e = ap (insertion g) e
of_last g (suc k) [] x xs e = cc
of_last g (suc k) (a ∷ []) x xs e = let z : [] ≡ x ∷ xs = sym (drop-nil k) ∙ e in cc
of_last g (suc k) (a ∷ b ∷ ls) x xs e = of_last g k (b ∷ ls) x xs e

-- block b is that of place i, and its number is n
module _ (g : Geometry) (l : Lent) (s : Sizes g l) (i n : ℕ) (b : LogBlock) where
  of_block : b.bytes ≡ (image_of g l).bytes i → log_number b.r ≡ n → i < g.blocks → insertion g (b ∷ []) ≡ blank_page g l.contents (begins g i) n
  unfolding insertion blank_page is_blank log_page
  of_block eb en hi = ap₂ (λ (o : Option ℕ) (k : ℕ). on_some o none (λ p. some (address_of g k p 0)))
      (first_cong g.pages _ _ (λ p h. ap blank (ap (λ (x : List ℕ). page_of g x p) eb ∙ sym (page_bytes g l s i p hi h)))) en

-- ---- where there is a log, there is an active one

module _ (n : ℕ) (v : ℕ → Option ℕ) (g : ℕ) where
  abbrev low : ℕ
  low = lowest_number n v g

  none_swept : (fuel : ℕ) → unbroken n v g 4096 low fuel ≡ 0 → unbroken n v (successor g) low 0 fuel ≡ 0
  unfolding unbroken lowest_number or_zero if_true
  none_swept zero e = refl
  none_swept (suc fuel) e = go (first 4096 (λ k. has n v (log_r k g))) refl
    where
      go : (o : Option ℕ) → first 4096 (λ k. has n v (log_r k g)) ≡ o → unbroken n v (successor g) low 0 (suc fuel) ≡ 0
      go none f = ap (λ (o : Option ℕ). unbroken n v (successor g) (or_zero o) 0 (suc fuel)) f
      go (some k) f =
          let s = first_some 4096 _ k f in
          let t : T (ltb k 4096 && has n v (log_r k g)) = and_i (ltb k 4096) (has n v (log_r k g)) (lt→ltb k 4096 s.0) s.1 in
          let u : unbroken n v g 4096 k (suc fuel) ≡ suc (unbroken n v g 4096 (k + 1) fuel) =
          if_yes (ltb k 4096 && has n v (log_r k g)) (suc (unbroken n v g 4096 (k + 1) fuel)) 0 t in
          let w : unbroken n v g 4096 k (suc fuel) ≡ 0 = sym (ap (λ (o : Option ℕ). unbroken n v g 4096 (or_zero o) (suc fuel)) f) ∙ e in
          absurd (omega arith)

no_active : (n : ℕ) (m : Labels) → (log_plan n m).active ≡ 0 → (log_plan n m).swept ≡ 0
unfolding log_plan plan_of plan_from
no_active n m e = none_swept n (view n m means.Log) (active_generation n (view n m means.Log)) n e

-- ---- the insertion point of an image

module _ (g : Geometry) (l : Lent) (p : Plan) (r : Ready g l p) where
  abbrev m : Image
  m = image_of g l

  abbrev plan : Plan
  plan = log_plan g.blocks m.labels

  same : p ≡ plan
  same = plan_is g l p r

  pub nowhere : p.active ≡ 0 → None ≡ point (insertion g (replayed g m))
  unfolding point insertion
  nowhere e =
      let a : plan.active ≡ 0 = ap (λ (x : Plan). x.active) (sym same) ∙ e in
      let z : replayed g m ≡ [] = drop_end g m 0 (omega (arith, no_active g.blocks m.labels a)) in
      sym (ap (λ (ls : List LogBlock). point (insertion g ls)) z)

  -- the number of the last block
  module _ (n : ℕ) (h : 0 < p.active) (e : n ≡ p.start.0 + (p.active - 1)) where
    abbrev k : ℕ
    k = plan.swept + plan.active - 1

    within : 0 < plan.active
    within = subst (λ (x : Plan). 0 < x.active) same h

    number_is : number_at plan k ≡ n
    unfolding number_at
    number_is =
        let f : n ≡ plan.start.0 + (plan.active - 1) = e ∙ ap (λ (x : Plan). x.start.0 + (x.active - 1)) same in
        let u : plan.swept ≤ k = omega (arith, within) in
        let w : k - plan.swept ≡ plan.active - 1 = omega (arith, within) in
        less_no k plan.swept _ _ u ∙ ap (λ (j : ℕ). plan.start.0 + j) w ∙ sym f

    stands : T (is_some (find_log g.blocks m.labels n))
    stands = subst (λ (j : ℕ). T (is_some (find_log g.blocks m.labels j))) number_is (block_stands g.blocks m.labels k (omega (arith, within))).0

    last_is : insertion g (replayed g m) ≡ insertion g (block_of g m k ∷ [])
    last_is =
        let u : k < plan.swept + plan.active = omega (arith, within) in
        let w : plan.swept + plan.active ≤ k + 1 = omega (arith, within) in
        of_last g k (replayed g m) (block_of g m k) [] (drop_block g m k u ∙ ap (λ (ls : List LogBlock). block_of g m k ∷ ls) (drop_end g m (k + 1) w))

    module _ {x : std.Option Block} (f : x ≡ found (find (length l.tags) (view (length l.tags) (labels_of l.tags l.paths) means.Log) (log_r n (generation_at p n)))) where
      looked : x ≡ found (find_log g.blocks m.labels n)
      unfolding find_log image_of
      looked = f ∙ ap₂ (λ (j : ℕ) (y : Plan). found (find j (view j (labels_of l.tags l.paths) means.Log) (log_r n (generation_at y n)))) (sizes g l r.fit).tags same

      pub not_nothing : x ≡ None → ⊥
      unfolding is_some
      not_nothing z = subst (λ (o : Option ℕ). T (is_some o)) (nothing_none _ looked z) stands

      module _ {b : Block} {size : ℕ} (a : x ≡ Some b) (z : size ≡ block_size g) where
        below : b.0 < g.blocks
        unfolding find_log find
        below = at_below _ _ looked a

        pub begin_room : b.0 * size + block_size g ≤ length l.contents
        unfolding begins
        begin_room = let y : b.0 * size ≡ b.0 * block_size g = ap (λ (j : ℕ). b.0 * j) z in omega (arith, block_in g b.0 below, (sizes g l r.fit).contents)

        pub insertion_is : point (blank_page g l.contents (b.0 * size) n) ≡ point (insertion g (replayed g m))
        unfolding begins log_block bytes_at on_some
        insertion_is =
            let place : find_log g.blocks m.labels (number_at plan k) ≡ some b.0 = ap (find_log g.blocks m.labels) number_is ∙ at_some _ looked a in
            ap (λ (j : ℕ). point (blank_page g l.contents (b.0 * j) n)) z
            ∙ sym (ap point (last_is ∙ of_block g l (sizes g l r.fit) b.0 n (block_of g m k)
            (ap (bytes_at m) place) (number_of g.blocks m.labels (number_at plan k) ∙ number_is) below))
