-- A step's line by the kind of the step, and a loop over bytes.
use Prim.Native.Nat.{ℕ, ◌+◌, ◌≤◌, ◌<◌}
use mathlib.Core.List.{List}
use mathlib.Core.Path.{◌≡◌, refl}
use lib.ListN.{length, get_or}
use Rattle.meaning.specs.declared.Block.{Block}
use Rattle.meaning.specs.declared.Step.{Step}
use Rattle.meaning.specs.declared.Step.TheVariants.{Erase, PageWrite, LabelWrite}
use Rattle.listing.specs.Lines.{hex_text}
use Rattle.listing.specs.Wrote.{Wrote}
use Rattle.listing.proofs.Left.{Left, left_start, left_done, left_on}
use Rattle.report.specs.Lines.{erase_line, write_line, label_line, step_line, bytes_text}

-- ---- a step

module _ {l m : List ℕ} {at to : ℕ} (s : Step) where
  pub step_erase : {b : Block} → s ≡ Erase b → Wrote l at (erase_line b) m to → Wrote l at (step_line s) m to
  unfolding step_line
  step_erase e w = rw e w

  pub step_write : {from target : Block} {page : ℕ} → s ≡ PageWrite from target page → Wrote l at (write_line from target page) m to
      → Wrote l at (step_line s) m to
  unfolding step_line
  step_write e w = rw e w

  pub step_label : {b : Block} {tag path : ℕ} → s ≡ LabelWrite b tag path → Wrote l at (label_line b tag path) m to → Wrote l at (step_line s) m to
  unfolding step_line
  step_label e w = rw e w

pub ruleset step_ways = (step_erase, step_write, step_label)

-- ---- bytes

module _ (bytes l₀ : List ℕ) (at₀ : ℕ) where
  pub bytes_start : Left bytes_text bytes l₀ at₀ 0 l₀ at₀
  bytes_start = left_start bytes_text bytes l₀ at₀

  module _ (i : ℕ) {l : List ℕ} {at : ℕ} (w : Left bytes_text bytes l₀ at₀ i l at) where
    pub bytes_done : length bytes ≤ i → Wrote l₀ at₀ (bytes_text bytes) l at
    unfolding bytes_text
    bytes_done h = left_done bytes_text bytes l₀ at₀ i w refl h

    pub bytes_on : {m : List ℕ} {to : ℕ} → i < length bytes → Wrote l at (hex_text (get_or bytes i 0)) m to → Left bytes_text bytes l₀ at₀ (i + 1) m to
    unfolding bytes_text
    bytes_on h p = left_on bytes_text bytes l₀ at₀ i w 0 _ refl h p

pub ruleset bytes_ways = (bytes_start, bytes_done, bytes_on)
