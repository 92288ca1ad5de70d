use Rattle.std.proofs.Common.{refl, ap}
use Rattle.std.proofs.lemmas.Result.{on_ok_weaker}
use Rattle.kernel_tree.specs.Plain.{name_of, block_of}
use Rattle.kernel_meaning.specs.Operators.{operator_of}
use Rattle.kernel_scope.specs.Scopes.{scope_of}
use Rattle.scalar_words.specs.View.{looses_of}
use Rattle.loop_code.proofs.LooseSteps.{gained_some, gained_wide, gained_held, gained_within, gained_none}
use Rattle.loop_code.proofs.loosening.loosen_update.Goals as goal

pub returns-in-Some : goal.returns-in-Some
returns-in-Some c = record {
  scope = c.loosen_name.ensures.scope;
  loose = on_ok_weaker c.loosen_name.result (gained_some (looses_of c.args.loose.now.items) (looses_of c.deref.result.now) (scope_of c.args.scope.now) (block_of c.args.body.now) (name_of c.args.name.now) c.args.op c.update_operator.result c.lookup.result c.and_then-want.result (ap looses_of c.deref.ensures.value) c.update_operator.ensures c.lookup.ensures c.and_then-want.ensures c.in-Some.ty (looses_of c.loosen_name.new.loose.items) c.in-Some.is c.if-binary_leaves.ensures c.if-is_whole.ensures c.if-is_narrow.ensures) c.loosen_name.ensures.loose;
}

pub returns-in_default : goal.returns-in_default
returns-in_default c = record { scope = refl; loose = gained_wide (looses_of c.args.loose.now.items) (looses_of c.deref.result.now) (scope_of c.args.scope.now) (block_of c.args.body.now) (name_of c.args.name.now) c.args.op c.update_operator.result c.lookup.result c.and_then-want.result (ap looses_of c.deref.ensures.value) c.update_operator.ensures c.lookup.ensures c.and_then-want.ensures c.in-Some.ty c.in-Some.is c.if-binary_leaves.ensures c.if-is_whole.ensures c.if-is_narrow.ensures }

pub returns-in_default-2 : goal.returns-in_default-2
returns-in_default-2 c = record { scope = refl; loose = gained_held (looses_of c.args.loose.now.items) (looses_of c.deref.result.now) (scope_of c.args.scope.now) (block_of c.args.body.now) (name_of c.args.name.now) c.args.op c.update_operator.result c.lookup.result c.and_then-want.result (ap looses_of c.deref.ensures.value) c.update_operator.ensures c.lookup.ensures c.and_then-want.ensures c.if-binary_leaves.ensures c.if-is_whole.ensures }

pub returns-in_default-3 : goal.returns-in_default-3
returns-in_default-3 c = record { scope = refl; loose = gained_within (looses_of c.args.loose.now.items) (looses_of c.args.loose.now.items) (scope_of c.args.scope.now) (block_of c.args.body.now) (name_of c.args.name.now) c.args.op c.update_operator.result c.lookup.result c.and_then-want.result refl c.update_operator.ensures c.lookup.ensures c.and_then-want.ensures c.if-binary_leaves.ensures }

pub returns-in_default-4 : goal.returns-in_default-4
returns-in_default-4 c = record { scope = refl; loose = gained_none (looses_of c.args.loose.now.items) (looses_of c.args.loose.now.items) (scope_of c.args.scope.now) (block_of c.args.body.now) (name_of c.args.name.now) c.args.op (operator_of c.args.op) c.lookup.result c.and_then-want.result refl refl c.lookup.ensures c.and_then-want.ensures c.in_default.is }
