-- A write that parses keeps its addresses within 32 bits.
use mathlib.Core.Path.{◌≡◌}
use mathlib.Core.Bool.{Bool, true, false, ◌&&◌}
use mathlib.Core.List.{List}
use Prim.Native.Nat.{ℕ, ◌+◌, ◌-◌, ◌/◌, ◌%◌, ◌^◌, ◌≤◌, ◌<◌}
use native.Mathlib.Omega.{arith}
use lib.ListN.{length}
use lib.Dec.{T, eqb, leb}
use borrow.Author.Tests.{leb-false}
use Rattle.base.proofs.Tests.{T-yes, tests}
use Rattle.base.proofs.Choices.{all_true, all_less, all_eq, all_bind}
use Rattle.meaning.specs.declared.Geometry.{Geometry}
use Rattle.meaning.specs.declared.Parsed.{Parsed}
use Rattle.meaning.specs.Flash.{block_size}
use Rattle.meaning.specs.Message.{Page, u16, u32, past, well_formed, good_embedded, good_run, in_log, good_data, create_at, remove_at, truncate_at, write_at, wstat_at, typed, parse}
use Rattle.replayed.proofs.Keeps.{Well}
use Rattle.flash_log.specs.Cursor.{Ranged}

-- what is asked of the decoder's sizes
pub record Small (limit : ℕ) (g : Geometry) (page : Page) : Type 0 where
  pub few : limit ≤ 65536
  pub block : block_size g ≤ 65536
  pub short : length page.bytes ≤ 65536
  pub low : page.address ≤ 2 ^ 30

data_range : (limit : ℕ) (g : Geometry) (count flashaddr first held : ℕ) → limit ≤ 65536 → block_size g ≤ 65536 → first ≤ 2 ^ 30 + 65536
    → good_data limit g count flashaddr first held ≡ true → flashaddr + count < 2 ^ 32
unfolding good_data in_log good_embedded good_run
data_range limit g count flashaddr first held a b d =
    all_true (λ (x : Bool). x ≡ true → flashaddr + count < 2 ^ 32) _ _ _ embedded run
  where
    embedded : leb (2 ^ 31) flashaddr ≡ true → good_embedded limit count flashaddr first held ≡ true → flashaddr + count < 2 ^ 32
    embedded i e =
        let t : T (leb count limit && eqb (flashaddr - 2 ^ 31) first && eqb held count) = T-yes _ e in
        let x : count ≤ limit = search tests in
        let y : flashaddr - 2 ^ 31 ≡ first = search tests in
        omega arith

    run : leb (2 ^ 31) flashaddr ≡ false → good_run g count flashaddr held ≡ true → flashaddr + count < 2 ^ 32
    run i e =
        let t : T (eqb held 0 && leb (flashaddr / block_size g) 4095 && leb (flashaddr % block_size g + count) (block_size g)) = T-yes _ e in
        let x : flashaddr % block_size g + count ≤ block_size g = search tests in
        omega (arith, leb-false (2 ^ 31) flashaddr i)

module _ (limit : ℕ) (g : Geometry) (page : Page) (s : Small limit g page) where
  abbrev b : List ℕ
  b = page.bytes

  abbrev W : Parsed → Type 0
  W = Well (λ m next. Ranged m)

  create_range : (path p end : ℕ) → W (create_at page path p end)
  unfolding create_at well_formed
  create_range path p end = all_bind W _ _ (all_bind W _ _ (all_bind W _ _
      (all_eq W _ _ _ _ (λ e. all_eq W _ _ _ _ (λ z. tt) (λ z. all_true W _ _ _ (λ t. tt) (λ t. tt))) (λ e. tt))))

  remove_range : (path p end : ℕ) → W (remove_at page path p end)
  unfolding remove_at
  remove_range path p end = all_bind W _ _ (all_eq W _ _ _ _ (λ e. tt) (λ e. tt))

  truncate_range : (path p end : ℕ) → W (truncate_at page path p end)
  unfolding truncate_at
  truncate_range path p end = all_bind W _ _ (all_eq W _ _ _ _ (λ e. tt) (λ e. tt))

  write_range : (path p end : ℕ) → end ≤ length b → W (write_at limit g page path p end)
  unfolding write_at well_formed
  write_range path p end h = all_bind W _ _ (all_bind W _ _ (all_bind W _ _ (all_bind W _ _ (all_bind W _ _
      (all_less W _ _ _ _ (λ f. tt) (λ (f : past b (p + 14) + 4 ≤ end).
      all_eq W _ _ _ _ (λ z. tt) (λ (z : u16 b (p + 4) ≡ 0 → ⊥).
      all_less W _ _ _ _ (λ o. tt) (λ (o : u32 b p + u16 b (p + 4) ≤ 4294967295).
      all_true W _ _ _ (λ t. (
        omega arith,
        omega arith,
        data_range limit g (u16 b (p + 4)) (u32 b (past b (p + 14))) (page.address + (past b (p + 14) + 4)) (end - (past b (p + 14) + 4))
            s.few s.block (omega (arith, s.short, s.low)) t,
      ))
      (λ t. tt)))))))))

  wstat_range : (path p end : ℕ) → W (wstat_at page path p end)
  unfolding wstat_at well_formed
  wstat_range path p end = all_bind W _ _ (all_bind W _ _ (all_bind W _ _ (all_bind W _ _ (all_bind W _ _
      (all_eq W _ _ _ _ (λ e. all_true W _ _ _ (λ t. tt) (λ t. tt)) (λ e. tt))))))

  pub parse_range : (at : ℕ) → W (parse limit g page at)
  unfolding parse typed
  parse_range at = all_less W _ _ _ _
      (λ h. all_eq W _ _ _ _ (λ e. tt) (λ e. all_bind W _ _
      (all_less W _ _ _ _ (λ s. tt) (λ s. all_less W _ _ _ _ (λ o. tt) (λ (o : at + 3 + u16 b (at + 1) ≤ length b).
      all_bind W _ _ (all_bind W _ _
      (all_eq W _ _ _ _ (λ e. create_range _ _ _)
      (λ e. all_eq W _ _ _ _ (λ e. remove_range _ _ _)
      (λ e. all_eq W _ _ _ _ (λ e. truncate_range _ _ _)
      (λ e. all_eq W _ _ _ _ (λ e. write_range _ _ _ o)
      (λ e. all_eq W _ _ _ _ (λ e. wstat_range _ _ _)
      (λ e. tt))))))))))))
      (λ h. tt)
