use Rattle.kernel_meaning.proofs.CourseRanges.{iterations_ranged}
use Rattle.kernel_meaning.proofs.StartRanges.{started_ranged}
use Rattle.kernel_meaning.proofs.ValueRanges.{typed, value_range}
use Rattle.kernel_meaning.proofs.laws.values_of_their_types.Goals as goal

pub returns-clause-value : goal.returns-clause-value
returns-clause-value c s from t e m names v none ranged is = value_range e s t m names v (typed e s from t none) ranged is

pub returns-clause-start : goal.returns-clause-start
returns-clause-start c k args from m names none start = started_ranged k args from m names none start

pub returns-clause-iterations : goal.returns-clause-iterations
returns-clause-iterations c s l from count i m names none few ranged = iterations_ranged count i s l from m names none few ranged
