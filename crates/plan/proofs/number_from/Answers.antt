use native.Mathlib.Omega.{arith}
use borrow.Author.Tests.{not-true, not-false}
use Rattle.plan.proofs.Numbers.{number_none, number_off, number_on}
use Rattle.plan.proofs.number_from.Goals as goal

pub returns-then-r-low : goal.returns-then-r-low
returns-then-r-low c = (omega arith, number_none _ _ _ _ _ _ c.path_at-r.ensures (λ y h s. omega arith))

pub returns-then-r-low-ne0 : goal.returns-then-r-low-ne0
returns-then-r-low-ne0 c = (omega arith, number_none _ _ _ _ _ _ c.path_at-r.ensures (λ y h s. omega arith))

pub returns-then-above-ge1024 : goal.returns-then-above-ge1024
returns-then-above-ge1024 c = (omega arith, number_none _ _ _ _ _ _ c.path_at-r.ensures (λ y h s. omega arith))

pub returns-then-not-counts_noted : goal.returns-then-not-counts_noted
returns-then-not-counts_noted c = (omega arith, number_off _ _ _ _ _ _ c.path_at-r.ensures c.counts_noted.ensures (not-true _ c.if-not-counts_noted.true-raw))

pub returns : goal.returns
returns c = (omega arith, number_on _ _ _ _ _ _ c.path_at-r.ensures _ c.counts_noted.ensures (not-false _ c.if-not-counts_noted.false-raw) (omega arith))
