-- The registers of accumulators and of items differ as register assignment has it.
use Rattle.std.proofs.Common.{◌≡◌, ℕ, ◌+◌, ◌<◌, ◌≤◌, List, length, map, Some, sym, ◌∙◌, arith, ⊎_elim}
use Rattle.std.specs.Prelude.{slice_get, slice_index}
use Rattle.std.proofs.lemmas.Bool.{cases_lt}
use Rattle.std.proofs.lemmas.List.{get_or_past, length-map}
use Rattle.kernel_tree.specs.Plain.{Program}
use Rattle.kernel_tree.specs.Items.{loop_index, size_of}
use Rattle.reg_assign.specs.declared.interval.RegClass.TheVariants.{X}
use Rattle.reg_assign.specs.declared.interval.Interval.{Interval}
use Rattle.loop_form.specs.Entries.{Entry, entries_of}
use Rattle.loop_form.specs.Needs.{values, intervals}
use Rattle.loop_form.proofs.FewItems.{vars-small}
use Rattle.loop_form.proofs.Numbers.{all-listed}
use Rattle.scalar_words.specs.Layout.{IsMade}
use Rattle.scalar_words.specs.KernelRegisters.{x_last_use, layout_of_kernel, AreChosen}
use Rattle.scalar_words.proofs.AssignedOf.{Chosen, located, assigned_of, counted-high, counted-apart}
use Rattle.scalar_words.proofs.ChosenOf.{value-place, accumulator-place}
use Rattle.scalar_words.proofs.NameHomes.{AccumulatorRegisters}

module _ (R : ℕ → ℕ) (k : Program) (c : AreChosen R k) where
  abbrev all : List Entry
  all = entries_of k

  abbrev accs : ℕ
  accs = length k.vars

  abbrev throughout' : Interval
  throughout' = record { from = 0; last_use = size_of k }

  at_var : (n : ℕ) → n < accs → slice_get (intervals k X) n ≡ Some throughout'
  at_var n h = accumulator-place k n h

  at_value : (m : ℕ) → slice_get (intervals k X) (accs + m) ≡ slice_get (values k X) m
  at_value m = value-place k m

  chosen_values : Chosen R accs (values k X)
  chosen_values = record {
    below = λ m s e. c.below (accs + m) s (at_value m ∙ e);
    apart = λ m n p s t ne e f a b d g. c.apart (accs + m) (accs + n) p s t (λ q. ne (omega (arith, q))) (at_value m ∙ e) (at_value n ∙ f) (a, b) (d, g);
  }

  made_within : (q : ℕ) → IsMade (layout_of_kernel R k) q → q < size_of k
  made_within q made =
      ⊎_elim
      (λ (lt : q < size_of k). lt)
      (λ (ge : size_of k ≤ q).
      let many = (all-listed k).count in
      let len = length-map all (x_last_use all) in
      let past : slice_index (map (x_last_use all) all) q ≡ 0 = get_or_past (map (x_last_use all) all) q 0 (omega (arith, many, len, ge)) in
      absurd (omega (arith, past, made)))
      (cases_lt q (size_of k))

  pub accumulator_registers : AccumulatorRegisters R (layout_of_kernel R k) (length k.vars)
  accumulator_registers = record {
    fit = assigned_of R accs all (all-listed k).numbered chosen_values;
    high = λ n h. counted-high (R n) (c.below n throughout' (at_var n h));
    free = λ n q h made e.
        let j = located R all all accs 0 q q (all-listed k).numbered (omega arith) made in
        let from = j.from in
        let last_use = j.last_use' in
        let within = made_within q made in
        counted-apart (R (accs + j.m)) (R n) (c.apart (accs + j.m) n q j.span throughout' (λ f. absurd (omega (arith, f, h))) (at_value j.m ∙ j.is) (at_var n h) (omega (arith, from), omega (arith, last_use, made)) (omega arith, within)) (sym j.register ∙ e);
    differ = λ m n h g ne e.
        let many = vars-small (loop_index k) k.vars in
        let some : 0 < size_of k = omega (arith, many, h) in
        counted-apart (R m) (R n) (c.apart m n 0 throughout' throughout' ne (at_var m h) (at_var n g) (omega arith, some) (omega arith, some)) e;
  }
