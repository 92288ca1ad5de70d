use Rattle.std.proofs.Common.{◌+◌, ◌++◌, List, map, sym, ap, drop, ◌∙◌, rules, FitsSigned, to_z, of_z}
use Rattle.std.specs.Prelude.{ℤ}
use Rattle.std.specs.Int.{w128}
use Rattle.std.proofs.lemmas.Int.{to_z-of_z}
use Rattle.std.proofs.lemmas.List.{append-nil}
use Rattle.std.proofs.Math.ListN.{drop_of_length-le}
use Rattle.kernel_tree.specs.declared.ast.Param.{Param}
use Rattle.kernel_tree.specs.Plain.{parameter_of, parameters_of}
use Rattle.kernel_tree.proofs.Walks.{next_item}
use Rattle.kernel_meaning.specs.Eval.{value_of}
use Rattle.kernel_meaning.specs.ScalarRun as running
use Rattle.kernel_eval.proofs.IterationWalks.{given_step}
use Rattle.kernel_eval.proofs.start.argument_names.Goals as goal

pub loop-i-preserved : goal.loop-i-preserved
loop-i-preserved c =
    let l = c.loop-i in
    let e = ap parameters_of (next_item c.args.params.now l.i c.index-params-i.result c.loop-i-test.true c.index-params-i.is) in
    let f : FitsSigned w128 c.argument.result = search rules in
    let z = to_z-of_z w128 c.argument.result f ∙ c.argument.ensures ∙ ap (running.argument c.index-params-i.result.shape) c.argument_at.ensures in
    given_step l.slots.items c.push.new.self.items (parameters_of (drop (l.i + 1) c.args.params.now)) (parameters_of (drop l.i c.args.params.now)) (parameter_of c.index-params-i.result) c.args.args.now l.i (to_z w128 (of_z w128 c.argument.result)) e c.in_ok-push.ensures.items z
    ∙ l.invariant

pub loop-i-init : goal.loop-i-init
loop-i-init c = ap (λ (xs : List ℤ). xs ++ map value_of (running.argument_names (parameters_of c.args.params.now) c.args.args.now)) c.new-slots.ensures.items

pub returns : goal.returns
returns c =
    let l = c.loop-i in
    let e = drop_of_length-le c.args.params.now c.loop-i-test.false in
    sym (append-nil l.slots.items) ∙ ap (λ (ps : List Param). l.slots.items ++ map value_of (running.argument_names (parameters_of ps) (drop l.i c.args.args.now))) (sym e) ∙ l.invariant
