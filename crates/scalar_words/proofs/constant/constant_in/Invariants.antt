use Rattle.std.proofs.Common.{◌≡◌, drop}
use Rattle.scalar_words.specs.View.{register_holding, key_of}
use Rattle.scalar_words.proofs.constant.constant_in.Given as goal

abbrev pub invariant-loop-constant : goal.invariant-loop-constant
invariant-loop-constant l = register_holding (drop l.constant-index l.constants) (key_of l.key) ≡ register_holding l.constants (key_of l.key)
