use Rattle.std.proofs.Common.{◌≡◌, ◌++◌, drop}
use Rattle.scalar_words.specs.View.{looses_of}
use Rattle.loop_code.specs.Loosening as loosening
use Rattle.loop_code.proofs.loosening.after_loop.Given as goal

abbrev pub invariant-loop-held : goal.invariant-loop-held
invariant-loop-held l = record {
  kept : looses_of l.kept.items ++ loosening.after_loop (looses_of (drop l.held-index l.loose)) ≡ loosening.after_loop (looses_of l.loose);
}
