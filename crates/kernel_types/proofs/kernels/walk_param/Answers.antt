use Rattle.std.proofs.Common.{ap}
use Rattle.std.proofs.lemmas.Result.{IfOk-equal}
use Rattle.kernel_tree.specs.Plain.{name_of}
use Rattle.kernel_tree.specs.Typing.{declared}
use Rattle.kernel_tree.proofs.Calls.{on_any}
use Rattle.kernel_scope.specs.Scopes.{scope_of}
use Rattle.kernel_types.proofs.PartWalks.{param_found}
use Rattle.kernel_types.proofs.kernels.walk_param.Goals as goal

pub returns : goal.returns
returns c = record {
  scope = IfOk-equal c.declare.result _ _ _ c.declare.ensures (ap (declared (scope_of c.args.scope.now) (name_of c.args.param.now.name)) c.binding.ensures);
  next = on_any c.declare.result c.end.ensures.next;
  found = on_any c.declare.result (param_found (scope_of c.args.scope.now) c.args.notes.now.next c.args.notes.now.found c.end.new.notes.found c.twice-found.result c.is_taken.result (name_of c.args.param.now.name) c.is_taken.ensures c.twice-found.ensures c.end.ensures.found);
  types = on_any c.declare.result c.end.ensures.types;
}
