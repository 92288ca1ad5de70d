-- What registers that fit a kernel say of its items and accumulators: numbers below 15, and different ones for intervals that
-- share an item. The first intervals are those of the accumulators, throughout.
use Rattle.std.proofs.Common.{◌≡◌, ◌≢◌, ℕ, ◌+◌, ◌<◌, length, Some, sym, ap, ◌∙◌, arith}
use Rattle.std.specs.Prelude.{slice_get}
use Rattle.std.proofs.lemmas.List.{length-map}
use Rattle.kernel_tree.specs.Plain.{Program}
use Rattle.kernel_tree.specs.Items.{size_of, loop_index}
use Rattle.reg_assign.specs.declared.interval.RegClass.TheVariants.{X}
use Rattle.reg_assign.specs.Registers.{Assignment}
use Rattle.loop_form.specs.Entries.{entries_of}
use Rattle.loop_form.specs.Needs.{throughout, accumulating_of, spans_of, intervals}
use Rattle.loop_form.specs.Registers.{FitsKernel}
use Rattle.loop_form.proofs.FewItems.{vars-small}
use Rattle.loop_form.proofs.IntervalRegisters.{chosen_of}
use Rattle.loop_form.proofs.PlaceLaws.{throughout-place, interval-following}
use Rattle.scalar_words.specs.KernelRegisters.{register_in, AreChosen}

pub chosen_all : (k : Program) (a : Assignment) → FitsKernel k X a → AreChosen (register_in a) k
chosen_all k a f = let c = chosen_of k X a f in record { below = c.below; apart = λ m n p s t ne is it here there. c.apart m n p s t ne is it here.0 here.1 there.0 there.1 }

-- ---- the accumulators' intervals

many : (k : Program) → length (throughout k X) ≡ length k.vars
many k = length-map k.vars accumulating_of

-- value m has interval number accumulators + m
pub value-place : (k : Program) (m : ℕ) → slice_get (intervals k X) (length k.vars + m) ≡ slice_get (spans_of X (entries_of k) (entries_of k)) m
value-place k m = ap (λ n. slice_get (intervals k X) (n + m)) (sym (many k)) ∙ interval-following k X m

-- accumulator v has interval number v, over all items
pub accumulator-place : (k : Program) (v : ℕ) → v < length k.vars → slice_get (intervals k X) v ≡ Some (record { from = 0; last_use = size_of k })
accumulator-place k v h = throughout-place k X v (let n = many k in omega (arith, h, n))

-- ---- registers

-- an accumulator's register is below 15, and not another accumulator's
pub record AccumulatorsChosen (k : Program) (R : ℕ → ℕ) : Type 0 where
  pub below : (v : ℕ) → v < length k.vars → R v < 15
  pub apart : (v w : ℕ) → v ≢ w → v < length k.vars → w < length k.vars → R v ≢ R w

pub accumulators_of : (k : Program) (R : ℕ → ℕ) → AreChosen R k → AccumulatorsChosen k R
accumulators_of k R c = record {
  below = λ v h. c.below v _ (accumulator-place k v h);
  apart = λ v w ne h g. c.apart v w 0 _ _ ne (accumulator-place k v h) (accumulator-place k w g) (omega arith, some v h) (omega arith, some v h);
}
  where
    some : (v : ℕ) → v < length k.vars → 0 < size_of k
    some v h = let b = vars-small (loop_index k) k.vars in omega (arith, b, h)
