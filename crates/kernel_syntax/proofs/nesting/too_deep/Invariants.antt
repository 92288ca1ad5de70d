use Rattle.std.proofs.Common.{◌≡◌, ◌≤◌, drop}
use Rattle.kernel_tree.specs.Plain.{words_of}
use Rattle.kernel_syntax.specs.Nesting.{deep_from, deep_place}
use Rattle.kernel_syntax.proofs.nesting.too_deep.Given as goal

abbrev pub invariant-loop-token : goal.invariant-loop-token
invariant-loop-token l = record {
  depth_few : l.depth ≤ 64;
  signs_few : l.signs ≤ 64;
  place : l.at ≡ l.token-index;
  same : deep_from l.depth l.signs l.at (words_of (drop l.token-index l.tokens)) ≡ deep_place (words_of l.tokens);
}
