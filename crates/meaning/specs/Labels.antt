-- Which block stands for which number, and the refusals that the labels alone decide (01, "Geometry and labels"). n is the count of
-- blocks. No byte of a block can be looked at here.
use Rattle.std.specs.Prelude.{ℕ, zero, suc, ◌+◌, ◌-◌, ◌%◌, Bool, not, ◌&&◌, ◌||◌, eqb, ltb}
use Rattle.std.proofs.Math.Option.{Option}
use Rattle.meaning.specs.declared.Tag.{Tag}
use Rattle.meaning.specs.declared.Tag.TheVariants.{Free, Boot, Log, Data}
use Rattle.meaning.specs.declared.Plan.{Plan}
use Rattle.meaning.specs.declared.Refusal.{Refusal}
use Rattle.meaning.specs.declared.Refusal.TheVariants as refused
use Rattle.base.specs.Choice.{if_true, if_less, is_some, test, or_else, provided, or_zero}
use Rattle.base.specs.Scan.{any, first}
use Rattle.meaning.specs.Answer.{number, lowest}
use Rattle.meaning.specs.Flash.{Labels, same_tag, copy_of, r_of, log_r, log_number, log_generation, successor, follows, bad_tag, bad_path}

-- ---- copies

-- i and j are "blocks of equal tag and r"; free blocks take no part
unfoldable pub same_block : Labels → ℕ → ℕ → Bool
same_block m i j = not (same_tag (m.tag i) Free) && same_tag (m.tag j) (m.tag i) && eqb (r_of (m.path j)) (r_of (m.path i))

-- j is the newer copy of i
unfoldable pub newer : Labels → ℕ → ℕ → Bool
newer m j i = same_block m i j && follows (copy_of (m.path j)) (copy_of (m.path i))

-- two copies, neither of which follows the other
unfoldable pub clash : Labels → ℕ → ℕ → Bool
clash m i j = not (eqb i j) && same_block m i j && not (newer m i j || newer m j i)

-- COPIES: "Three, or two that do not follow each other, are refused." Of three, two never follow each other. The place is the
-- lowest of any group that does not resolve.
unfoldable pub unresolved : ℕ → Labels → ℕ → Bool
unresolved n m i = any n (λ j. same_block m i j && any n (clash m j))

-- "Two blocks of equal tag and r resolve to the newer": i is the other
unfoldable pub older : ℕ → Labels → ℕ → Bool
older n m i = any n (λ j. newer m j i)

-- ---- the label search

-- place i counts among the blocks of tag t
unfoldable pub counts : ℕ → Labels → Tag → ℕ → Bool
counts n m t i = ltb i n && same_tag (m.tag i) t && not (older n m i)

-- the r for which place i counts, if it does
unfoldable pub view : ℕ → Labels → Tag → ℕ → Option ℕ
view n m t i = provided (counts n m t i) (r_of (m.path i))

unfoldable pub is : Option ℕ → ℕ → Bool
is o r = test (λ x. eqb x r) o

-- a log block is of generation g
unfoldable pub of_generation : ℕ → Option ℕ → Bool
of_generation g o = test (λ r. eqb (log_generation r) g) o

-- From here on only a view v of n places is looked at.
module _ (n : ℕ) (v : ℕ → Option ℕ) where
  -- the place that stands for r
  unfoldable pub find : ℕ → Option ℕ
  find r = first n (λ i. is (v i) r)

  unfoldable pub has : ℕ → Bool
  has r = is_some (find r)

  -- ---- "Boot blocks number 0 to n − 1 (n may be 0)": each number has the one below it

  -- r is not 0, and the number below it is missing
  unfoldable pub gap : ℕ → Bool
  gap r = not (eqb r 0) && not (has (r - 1))

  unfoldable pub boot_gap : Bool
  boot_gap = any n (λ i. test gap (v i))

  -- ---- the log

  unfoldable pub has_generation : ℕ → Bool
  has_generation g = any n (λ i. of_generation g (v i))

  -- g is there, and not the generation before it
  unfoldable pub leads : ℕ → Bool
  leads g = has_generation g && not (has_generation ((g + 3) % 4))

  -- "two where one follows the other mod 4. .. the older is the active log"
  unfoldable pub active_generation : ℕ
  active_generation = or_zero (first 4 leads)

  -- the lowest number of generation g
  unfoldable pub lowest_number : ℕ → ℕ
  lowest_number g = or_zero (first 4096 (λ k. has (log_r k g)))

  -- how many blocks of generation g there are from number k up, below the bound, "without gaps"
  unfoldable pub unbroken : ℕ → ℕ → ℕ → ℕ → ℕ
  unbroken g bound k zero = 0
  unbroken g bound k (suc fuel) = if_true (ltb k bound && has (log_r k g)) (suc (unbroken g bound (k + 1) fuel)) 0

-- "The newer is the swept log, numbered from 0 without gaps; the older is the active log, without gaps, starting above the swept
-- log's last number. If it starts on that last number, the swept block of that number is neither replayed": so the swept log's
-- blocks below the active log's lowest number, and the active log's, are replayed.
unfoldable pub plan_from : ℕ → (ℕ → Option ℕ) → ℕ → ℕ → Plan
plan_from n v g low = record {
  generation = g;
  start = number low;
  swept = unbroken n v (successor g) low 0 n;
  active = unbroken n v g 4096 low n;
}

unfoldable pub plan_of : ℕ → (ℕ → Option ℕ) → Plan
plan_of n v = plan_from n v (active_generation n v) (lowest_number n v (active_generation n v))

unfoldable pub in_active : Plan → ℕ → Bool
in_active p r = eqb (log_generation r) p.generation && ltb (log_number r) (p.start.0 + p.active)

unfoldable pub in_swept : Plan → ℕ → Bool
in_swept p r = eqb (log_generation r) (successor p.generation) && ltb (log_number r) p.swept

-- "If it starts on that last number, the swept block of that number is neither replayed nor checked and goes on the erase list."
unfoldable pub dropped : Plan → ℕ → Bool
dropped p r = eqb (log_generation r) (successor p.generation) && eqb (log_number r) p.start.0 && eqb p.swept p.start.0

-- r has its place in one of the two logs
unfoldable pub placed : Plan → ℕ → Bool
placed p r = in_active p r || (in_swept p r || dropped p r)

unfoldable pub unplaced : Plan → Option ℕ → Bool
unplaced p o = test (λ r. not (placed p r)) o

unfoldable pub stray : ℕ → (ℕ → Option ℕ) → Plan → Bool
stray n v p = any n (λ i. unplaced p (v i))

-- "one generation numbered 0 to n − 1": a log that starts above 0 has no swept log before it
unfoldable pub unswept : ℕ → (ℕ → Option ℕ) → Plan → Bool
unswept n v p = not (eqb p.start.0 0) && not (has_generation n v (successor p.generation))

-- LOG: "Anything else is refused."
unfoldable pub bad_log : ℕ → (ℕ → Option ℕ) → Plan → Bool
bad_log n v p = stray n v p || unswept n v p

unfoldable pub log_plan : ℕ → Labels → Plan
log_plan n m = plan_of n (view n m Log)

-- the generation of the log block of a number: swept logs stand below the active log's first number
unfoldable pub generation_at : Plan → ℕ → ℕ
generation_at p k = if_less k p.start.0 (successor p.generation) p.generation

-- the physical block that is replayed as log block k, and the one that is data block d
unfoldable pub find_log : ℕ → Labels → ℕ → Option ℕ
find_log n m k = find n (view n m Log) (log_r k (generation_at (log_plan n m) k))

unfoldable pub find_data : ℕ → Labels → ℕ → Option ℕ
find_data n m d = find n (view n m Data) d

-- ---- refusals 2 to 6, "Lowest number first"

unfoldable pub label_refusal : ℕ → Labels → Option Refusal
label_refusal n m =
    or_else (lowest refused.Tag n (λ i. bad_tag (m.tag i)))
    (or_else (lowest refused.Path n (λ i. bad_path (m.tag i) (m.path i)))
    (or_else (lowest refused.Copies n (unresolved n m))
    (or_else (provided (boot_gap n (view n m Boot)) refused.Boot)
    (provided (bad_log n (view n m Log) (log_plan n m)) refused.Log))))
