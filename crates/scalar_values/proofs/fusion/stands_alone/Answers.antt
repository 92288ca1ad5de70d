use Rattle.kernel_tree.specs.Plain.{term_of}
use Rattle.kernel_scope.specs.Scopes.{scope_of}
use Rattle.scalar_values.proofs.PartKinds.{alone_by_way, alone_unfused, not_alone}
use Rattle.scalar_values.proofs.fusion.stands_alone.Goals as goal

pub returns-then-makes_way : goal.returns-then-makes_way
returns-then-makes_way c = alone_by_way (scope_of c.args.scope.now) c.args.op c.args.asked.extent c.args.asked.want (term_of c.args.left.now) (term_of c.args.right.now) c.added_number.result c.is_none.result c.makes_way.result c.added_number.ensures.number c.is_none.ensures c.if-is_none.true c.makes_way.ensures c.if-makes_way.true

pub returns-else-makes_way : goal.returns-else-makes_way
returns-else-makes_way c = alone_unfused (scope_of c.args.scope.now) c.args.op c.args.asked.extent c.args.asked.want (term_of c.args.left.now) (term_of c.args.right.now) c.added_number.result c.is_none.result c.makes_way.result c.is_fused.result c.added_number.ensures.number c.is_none.ensures c.if-is_none.true c.makes_way.ensures c.if-makes_way.false c.is_fused.ensures.fused

pub returns-else-is_none : goal.returns-else-is_none
returns-else-is_none c = not_alone (scope_of c.args.scope.now) c.args.op c.args.asked.extent c.args.asked.want (term_of c.args.left.now) (term_of c.args.right.now) c.added_number.result c.is_none.result c.added_number.ensures.number c.is_none.ensures c.if-is_none.false
