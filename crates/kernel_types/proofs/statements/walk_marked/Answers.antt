use Rattle.kernel_types.proofs.TypeLists.{then_types}
use Rattle.kernel_types.proofs.statements.walk_marked.Goals as goal

pub returns-clause-types : goal.returns-clause-types
returns-clause-types c = then_types c.walk_expr.ensures.types c.end.ensures.types
