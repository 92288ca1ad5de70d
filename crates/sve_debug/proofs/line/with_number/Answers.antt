use Rattle.std.proofs.Common.{◌∙◌, sym, ap, arith}
use Rattle.std.specs.Prelude.{option_map}
use Rattle.sve_debug.specs.declared.command.Command.TheVariants.{Step, Go, Back, Break}
use Rattle.sve_debug.specs.Lines.{general, vector, predicate}
use Rattle.sve_debug.proofs.Named.{named, none_within, no_name, step_is, go_is, back_is, break_is, x_is, z_is, predicate_named}
use Rattle.sve_debug.proofs.line.with_number.Goals as goal

pub returns-in_err-count : goal.returns-in_err-count
returns-in_err-count c = record {
  value =
      c.from_residual.ensures
      ∙ sym (step_is c.args.name.now c.args.word.now
      (named c.args.name.now c.as_slice.result.now _ _ _ c.as_slice.ensures c.eq.ensures c.if-eq.true)
      ∙ ap (option_map Step) (sym c.in_err-count.ensures.value));
  within = none_within _ c.from_residual.ensures;
}

pub returns-then-eq : goal.returns-then-eq
returns-then-eq c = record {
  value =
      sym (step_is c.args.name.now c.args.word.now
      (named c.args.name.now c.as_slice.result.now _ _ _ c.as_slice.ensures c.eq.ensures c.if-eq.true)
      ∙ ap (option_map Step) (sym c.in_ok-count.ensures.value));
  within = omega (arith, c.in_ok-count.ensures.most);
}

pub returns-in_err-count-2 : goal.returns-in_err-count-2
returns-in_err-count-2 c = record {
  value =
      c.from_residual-in_err-count-2.ensures
      ∙ sym (go_is c.args.name.now c.args.word.now
      (named c.args.name.now c.as_slice.result.now _ _ _ c.as_slice.ensures c.eq.ensures c.if-eq.false)
      (named c.args.name.now c.as_slice-2.result.now _ _ _ c.as_slice-2.ensures c.eq-2.ensures c.if-eq-2.true)
      ∙ ap (option_map Go) (sym c.in_err-count-2.ensures.value));
  within = none_within _ c.from_residual-in_err-count-2.ensures;
}

pub returns-then-eq-2 : goal.returns-then-eq-2
returns-then-eq-2 c = record {
  value =
      sym (go_is c.args.name.now c.args.word.now
      (named c.args.name.now c.as_slice.result.now _ _ _ c.as_slice.ensures c.eq.ensures c.if-eq.false)
      (named c.args.name.now c.as_slice-2.result.now _ _ _ c.as_slice-2.ensures c.eq-2.ensures c.if-eq-2.true)
      ∙ ap (option_map Go) (sym c.in_ok-count-2.ensures.value));
  within = c.in_ok-count-2.ensures.most;
}

pub returns-in_err-count-3 : goal.returns-in_err-count-3
returns-in_err-count-3 c = record {
  value =
      c.from_residual-in_err-count-3.ensures
      ∙ sym (back_is c.args.name.now c.args.word.now
      (named c.args.name.now c.as_slice.result.now _ _ _ c.as_slice.ensures c.eq.ensures c.if-eq.false)
      (named c.args.name.now c.as_slice-2.result.now _ _ _ c.as_slice-2.ensures c.eq-2.ensures c.if-eq-2.false)
      (named c.args.name.now c.as_slice-3.result.now _ _ _ c.as_slice-3.ensures c.eq-3.ensures c.if-eq-3.true)
      ∙ ap (option_map Back) (sym c.in_err-count-3.ensures.value));
  within = none_within _ c.from_residual-in_err-count-3.ensures;
}

pub returns-then-eq-3 : goal.returns-then-eq-3
returns-then-eq-3 c = record {
  value =
      sym (back_is c.args.name.now c.args.word.now
      (named c.args.name.now c.as_slice.result.now _ _ _ c.as_slice.ensures c.eq.ensures c.if-eq.false)
      (named c.args.name.now c.as_slice-2.result.now _ _ _ c.as_slice-2.ensures c.eq-2.ensures c.if-eq-2.false)
      (named c.args.name.now c.as_slice-3.result.now _ _ _ c.as_slice-3.ensures c.eq-3.ensures c.if-eq-3.true)
      ∙ ap (option_map Back) (sym c.in_ok-count-3.ensures.value));
  within = c.in_ok-count-3.ensures.least;
}

pub returns-in_err-address : goal.returns-in_err-address
returns-in_err-address c = record {
  value =
      c.from_residual-in_err-address.ensures
      ∙ sym (break_is c.args.name.now c.args.word.now
      (named c.args.name.now c.as_slice.result.now _ _ _ c.as_slice.ensures c.eq.ensures c.if-eq.false)
      (named c.args.name.now c.as_slice-2.result.now _ _ _ c.as_slice-2.ensures c.eq-2.ensures c.if-eq-2.false)
      (named c.args.name.now c.as_slice-3.result.now _ _ _ c.as_slice-3.ensures c.eq-3.ensures c.if-eq-3.false)
      (named c.args.name.now c.as_slice-4.result.now _ _ _ c.as_slice-4.ensures c.eq-4.ensures c.if-eq-4.true)
      ∙ ap (option_map Break) (sym c.in_err-address.ensures));
  within = none_within _ c.from_residual-in_err-address.ensures;
}

pub returns-then-eq-4 : goal.returns-then-eq-4
returns-then-eq-4 c = record {
  value =
      sym (break_is c.args.name.now c.args.word.now
      (named c.args.name.now c.as_slice.result.now _ _ _ c.as_slice.ensures c.eq.ensures c.if-eq.false)
      (named c.args.name.now c.as_slice-2.result.now _ _ _ c.as_slice-2.ensures c.eq-2.ensures c.if-eq-2.false)
      (named c.args.name.now c.as_slice-3.result.now _ _ _ c.as_slice-3.ensures c.eq-3.ensures c.if-eq-3.false)
      (named c.args.name.now c.as_slice-4.result.now _ _ _ c.as_slice-4.ensures c.eq-4.ensures c.if-eq-4.true)
      ∙ ap (option_map Break) (sym c.in_ok-address.ensures));
  within = tt;
}

pub returns-in_err-n : goal.returns-in_err-n
returns-in_err-n c = record {
  value =
      c.from_residual-in_err-n.ensures
      ∙ sym (x_is c.args.name.now c.args.word.now
      (named c.args.name.now c.as_slice.result.now _ _ _ c.as_slice.ensures c.eq.ensures c.if-eq.false)
      (named c.args.name.now c.as_slice-2.result.now _ _ _ c.as_slice-2.ensures c.eq-2.ensures c.if-eq-2.false)
      (named c.args.name.now c.as_slice-3.result.now _ _ _ c.as_slice-3.ensures c.eq-3.ensures c.if-eq-3.false)
      (named c.args.name.now c.as_slice-4.result.now _ _ _ c.as_slice-4.ensures c.eq-4.ensures c.if-eq-4.false)
      (named c.args.name.now c.as_slice-5.result.now _ _ _ c.as_slice-5.ensures c.eq-5.ensures c.if-eq-5.true)
      ∙ ap (option_map general) (sym c.in_err-n.ensures.value));
  within = none_within _ c.from_residual-in_err-n.ensures;
}

pub returns-then-eq-5 : goal.returns-then-eq-5
returns-then-eq-5 c = record {
  value =
      sym (x_is c.args.name.now c.args.word.now
      (named c.args.name.now c.as_slice.result.now _ _ _ c.as_slice.ensures c.eq.ensures c.if-eq.false)
      (named c.args.name.now c.as_slice-2.result.now _ _ _ c.as_slice-2.ensures c.eq-2.ensures c.if-eq-2.false)
      (named c.args.name.now c.as_slice-3.result.now _ _ _ c.as_slice-3.ensures c.eq-3.ensures c.if-eq-3.false)
      (named c.args.name.now c.as_slice-4.result.now _ _ _ c.as_slice-4.ensures c.eq-4.ensures c.if-eq-4.false)
      (named c.args.name.now c.as_slice-5.result.now _ _ _ c.as_slice-5.ensures c.eq-5.ensures c.if-eq-5.true)
      ∙ ap (option_map general) (sym c.in_ok-n.ensures.value));
  within = c.in_ok-n.ensures.most;
}

pub returns-in_err-n-2 : goal.returns-in_err-n-2
returns-in_err-n-2 c = record {
  value =
      c.from_residual-in_err-n-2.ensures
      ∙ sym (z_is c.args.name.now c.args.word.now
      (named c.args.name.now c.as_slice.result.now _ _ _ c.as_slice.ensures c.eq.ensures c.if-eq.false)
      (named c.args.name.now c.as_slice-2.result.now _ _ _ c.as_slice-2.ensures c.eq-2.ensures c.if-eq-2.false)
      (named c.args.name.now c.as_slice-3.result.now _ _ _ c.as_slice-3.ensures c.eq-3.ensures c.if-eq-3.false)
      (named c.args.name.now c.as_slice-4.result.now _ _ _ c.as_slice-4.ensures c.eq-4.ensures c.if-eq-4.false)
      (named c.args.name.now c.as_slice-5.result.now _ _ _ c.as_slice-5.ensures c.eq-5.ensures c.if-eq-5.false)
      (named c.args.name.now c.as_slice-6.result.now _ _ _ c.as_slice-6.ensures c.eq-6.ensures c.if-eq-6.true)
      ∙ ap (option_map vector) (sym c.in_err-n-2.ensures.value));
  within = none_within _ c.from_residual-in_err-n-2.ensures;
}

pub returns-then-eq-6 : goal.returns-then-eq-6
returns-then-eq-6 c = record {
  value =
      sym (z_is c.args.name.now c.args.word.now
      (named c.args.name.now c.as_slice.result.now _ _ _ c.as_slice.ensures c.eq.ensures c.if-eq.false)
      (named c.args.name.now c.as_slice-2.result.now _ _ _ c.as_slice-2.ensures c.eq-2.ensures c.if-eq-2.false)
      (named c.args.name.now c.as_slice-3.result.now _ _ _ c.as_slice-3.ensures c.eq-3.ensures c.if-eq-3.false)
      (named c.args.name.now c.as_slice-4.result.now _ _ _ c.as_slice-4.ensures c.eq-4.ensures c.if-eq-4.false)
      (named c.args.name.now c.as_slice-5.result.now _ _ _ c.as_slice-5.ensures c.eq-5.ensures c.if-eq-5.false)
      (named c.args.name.now c.as_slice-6.result.now _ _ _ c.as_slice-6.ensures c.eq-6.ensures c.if-eq-6.true)
      ∙ ap (option_map vector) (sym c.in_ok-n-2.ensures.value));
  within = c.in_ok-n-2.ensures.most;
}

pub returns-in_err-n-3 : goal.returns-in_err-n-3
returns-in_err-n-3 c = record {
  value =
      c.from_residual-in_err-n-3.ensures
      ∙ sym (predicate_named c.args.name.now c.args.word.now
      (named c.args.name.now c.as_slice.result.now _ _ _ c.as_slice.ensures c.eq.ensures c.if-eq.false)
      (named c.args.name.now c.as_slice-2.result.now _ _ _ c.as_slice-2.ensures c.eq-2.ensures c.if-eq-2.false)
      (named c.args.name.now c.as_slice-3.result.now _ _ _ c.as_slice-3.ensures c.eq-3.ensures c.if-eq-3.false)
      (named c.args.name.now c.as_slice-4.result.now _ _ _ c.as_slice-4.ensures c.eq-4.ensures c.if-eq-4.false)
      (named c.args.name.now c.as_slice-5.result.now _ _ _ c.as_slice-5.ensures c.eq-5.ensures c.if-eq-5.false)
      (named c.args.name.now c.as_slice-6.result.now _ _ _ c.as_slice-6.ensures c.eq-6.ensures c.if-eq-6.false)
      (named c.args.name.now c.as_slice-7.result.now _ _ _ c.as_slice-7.ensures c.eq-7.ensures c.if-eq-7.true)
      ∙ ap (option_map predicate) (sym c.in_err-n-3.ensures.value));
  within = none_within _ c.from_residual-in_err-n-3.ensures;
}

pub returns-then-eq-7 : goal.returns-then-eq-7
returns-then-eq-7 c = record {
  value =
      sym (predicate_named c.args.name.now c.args.word.now
      (named c.args.name.now c.as_slice.result.now _ _ _ c.as_slice.ensures c.eq.ensures c.if-eq.false)
      (named c.args.name.now c.as_slice-2.result.now _ _ _ c.as_slice-2.ensures c.eq-2.ensures c.if-eq-2.false)
      (named c.args.name.now c.as_slice-3.result.now _ _ _ c.as_slice-3.ensures c.eq-3.ensures c.if-eq-3.false)
      (named c.args.name.now c.as_slice-4.result.now _ _ _ c.as_slice-4.ensures c.eq-4.ensures c.if-eq-4.false)
      (named c.args.name.now c.as_slice-5.result.now _ _ _ c.as_slice-5.ensures c.eq-5.ensures c.if-eq-5.false)
      (named c.args.name.now c.as_slice-6.result.now _ _ _ c.as_slice-6.ensures c.eq-6.ensures c.if-eq-6.false)
      (named c.args.name.now c.as_slice-7.result.now _ _ _ c.as_slice-7.ensures c.eq-7.ensures c.if-eq-7.true)
      ∙ ap (option_map predicate) (sym c.in_ok-n-3.ensures.value));
  within = c.in_ok-n-3.ensures.most;
}

pub returns : goal.returns
returns c = record {
  value = sym (no_name c.args.name.now c.args.word.now
      (named c.args.name.now c.as_slice.result.now _ _ _ c.as_slice.ensures c.eq.ensures c.if-eq.false)
      (named c.args.name.now c.as_slice-2.result.now _ _ _ c.as_slice-2.ensures c.eq-2.ensures c.if-eq-2.false)
      (named c.args.name.now c.as_slice-3.result.now _ _ _ c.as_slice-3.ensures c.eq-3.ensures c.if-eq-3.false)
      (named c.args.name.now c.as_slice-4.result.now _ _ _ c.as_slice-4.ensures c.eq-4.ensures c.if-eq-4.false)
      (named c.args.name.now c.as_slice-5.result.now _ _ _ c.as_slice-5.ensures c.eq-5.ensures c.if-eq-5.false)
      (named c.args.name.now c.as_slice-6.result.now _ _ _ c.as_slice-6.ensures c.eq-6.ensures c.if-eq-6.false)
      (named c.args.name.now c.as_slice-7.result.now _ _ _ c.as_slice-7.ensures c.eq-7.ensures c.if-eq-7.false));
  within = tt;
}
