use Rattle.std.proofs.Common.{◌+◌, ap, ◌∙◌, drop, refl}
use Rattle.kernel_tree.specs.Plain.{accumulator_of, accumulators_of}
use Rattle.kernel_scope.specs.Scopes.{scope_of}
use Rattle.kernel_types.proofs.ListWalks.{vars_go_on}
use Rattle.std.proofs.lemmas.Result.{IfOk-from_err}
use Rattle.kernel_tree.proofs.Walks.{next_item, no_var}
use Rattle.kernel_types.proofs.PartWalks.{var_room, vars_end}
use Rattle.kernel_types.proofs.kernels.walk_vars.Goals as goal

pub loop-var-preserved : goal.loop-var-preserved
loop-var-preserved c =
    let l = c.loop-var in
    let made = c.in_ok-walk_var.ensures in
    let x = c.var-item.result in
    let e = ap accumulators_of (next_item c.args.vars.now l.var-index x c.loop-var-test.true c.var-item.is) in
    let step = vars_go_on (scope_of l.scope) (scope_of c.walk_var.new.scope) l.notes c.walk_var.new.notes (accumulator_of x) (accumulators_of (drop (l.var-index + 1) c.args.vars.now)) (accumulators_of (drop l.var-index c.args.vars.now)) e made.scope made.next made.found made.types in
    record {
      scope = step.scope ∙ l.invariant.scope;
      next = step.next ∙ l.invariant.next;
      found = step.found ∙ l.invariant.found;
      types = λ last k. l.invariant.types last (step.types last k);
    }

pub loop-var-init : goal.loop-var-init
loop-var-init c =
    record { scope = refl; next = refl; found = refl; types = λ last k. k }

pub walk_var-requires : goal.walk_var-requires
walk_var-requires c =
    let l = c.loop-var in
    let x = c.var-item.result in
    let e = ap accumulators_of (next_item c.args.vars.now l.var-index x c.loop-var-test.true c.var-item.is) in
    var_room (scope_of l.scope).index (scope_of c.args.scope.now).index (accumulators_of c.args.vars.now) (accumulators_of (drop l.var-index c.args.vars.now)) (accumulators_of (drop (l.var-index + 1) c.args.vars.now)) (accumulator_of x) c.args.notes.now.next l.notes.next e l.invariant.next c.requires

pub returns-in_err-walk_var : goal.returns-in_err-walk_var
returns-in_err-walk_var c =
    let failed = c.from_residual.ensures.0 in
    record { scope = IfOk-from_err _ _ failed; next = IfOk-from_err _ _ failed; found = IfOk-from_err _ _ failed; types = IfOk-from_err _ _ failed }

pub returns : goal.returns
returns c =
    let l = c.loop-var in
    let made = vars_end (scope_of c.args.scope.now) (scope_of l.scope) c.args.notes.now l.notes (accumulators_of (drop l.var-index c.args.vars.now)) (accumulators_of c.args.vars.now) (no_var c.args.vars.now l.var-index c.loop-var-test.false) l.invariant.scope l.invariant.next l.invariant.found l.invariant.types in
    record { scope = made.scope; next = made.next; found = made.found; types = made.types }
