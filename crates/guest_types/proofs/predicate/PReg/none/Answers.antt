use Rattle.guest_types.proofs.Predicates.{predicate-none}
use Rattle.guest_types.proofs.predicate.PReg.none.Goals as goal

pub returns-clause-elements : goal.returns-clause-elements
returns-clause-elements c k h = predicate-none k h
