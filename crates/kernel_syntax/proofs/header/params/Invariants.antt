use Rattle.std.proofs.Common.{◌≤◌, length}
use Rattle.kernel_tree.specs.Plain.{words_of, parameters_of}
use Rattle.kernel_syntax.specs.Headers.{params_at}
use Rattle.kernel_syntax.proofs.ParamLists.{ParamsFollow}
use Rattle.kernel_syntax.proofs.header.params.Given as goal

abbrev pub invariant-more : goal.invariant-more
invariant-more l = record {
  short : length l.rest ≤ length l.tokens;
  follows : ParamsFollow (params_at (words_of l.tokens)) l.others (parameters_of l.params.items) (words_of l.rest);
}

abbrev pub decreases-more : goal.decreases-more
decreases-more l = length l.rest
