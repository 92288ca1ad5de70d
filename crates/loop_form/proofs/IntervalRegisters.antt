-- What registers that fit a kernel say of its intervals: numbers in range, and different ones for intervals that share an item.
use Rattle.std.proofs.Common.{◌≡◌, ◌≢◌, ℕ, ◌<◌, ◌≤◌, length, map, Some, ap, ◌∙◌, arith}
use Rattle.std.specs.Prelude.{slice_get, slice_index}
use Rattle.std.proofs.lemmas.List.{length-append, length-map}
use Rattle.std.proofs.lemmas.Option.{slice_get_within}
use Rattle.kernel_tree.specs.Plain.{Program}
use Rattle.reg_assign.specs.declared.interval.Interval.{Interval}
use Rattle.reg_assign.specs.declared.interval.RegClass.{RegClass}
use Rattle.reg_assign.specs.Registers.{Assignment, is_live_one}
use Rattle.reg_assign.proofs.Overlaps.{live}
use Rattle.loop_form.specs.Needs.{throughout, whole, values, intervals}
use Rattle.loop_form.specs.Registers.{counted_registers, FitsKernel}

-- registers by interval
pub record Chosen (k : Program) (class : RegClass) (a : Assignment) : Type 0 where
  pub below : (i : ℕ) (s : Interval) → slice_get (intervals k class) i ≡ Some s → slice_index a.registers i < counted_registers class
  pub apart : (i j p : ℕ) (s t : Interval) → i ≢ j → slice_get (intervals k class) i ≡ Some s → slice_get (intervals k class) j ≡ Some t → s.from ≤ p → p < s.last_use → t.from ≤ p → p < t.last_use → slice_index a.registers i ≢ slice_index a.registers j

pub chosen_of : (k : Program) (class : RegClass) (a : Assignment) → FitsKernel k class a → Chosen k class a
chosen_of k class a f = record {
  below = λ i s e. let l = slice_get_within (intervals k class) i s e in let n = ap length f.intervals in let m = f.assigned.each in f.assigned.below i (omega (arith, l, n, m));
  apart = λ i j p s t ne e g sf su tf tu. f.assigned.apart i j p ne (ap (is_live_one p) (same i s e) ∙ live p s sf su) (ap (is_live_one p) (same j t g) ∙ live p t tf tu);
}
  where
    same : (i : ℕ) (s : Interval) → slice_get (intervals k class) i ≡ Some s → slice_get a.intervals i ≡ Some s
    same i s e = ap (λ l. slice_get l i) f.intervals ∙ e

-- each value that is held throughout has an interval, and so a register
pub held_few : (k : Program) (class : RegClass) (a : Assignment) → FitsKernel k class a → length (throughout k class) ≤ length a.registers
held_few k class a f =
    let each = f.assigned.each in
    let same = ap length f.intervals in
    let count = length-append (map (whole k) (throughout k class)) (values k class) in
    let first = length-map (throughout k class) (whole k) in
    omega (arith, each, same, count, first)
