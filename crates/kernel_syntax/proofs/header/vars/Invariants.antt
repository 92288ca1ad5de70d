use Rattle.std.proofs.Common.{◌≤◌, length}
use Rattle.kernel_tree.specs.Plain.{words_of, accumulators_of}
use Rattle.kernel_syntax.specs.Headers.{vars_at}
use Rattle.kernel_syntax.proofs.ParamLists.{VarsFollow}
use Rattle.kernel_syntax.proofs.header.vars.Given as goal

abbrev pub invariant-more : goal.invariant-more
invariant-more l = record {
  short : length l.rest ≤ length l.tokens;
  follows : VarsFollow (vars_at (words_of l.tokens)) (accumulators_of l.vars.items) (words_of l.rest);
}

abbrev pub decreases-more : goal.decreases-more
decreases-more l = length l.rest
