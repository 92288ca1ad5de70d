use Rattle.std.proofs.Common.{◌≡◌, ◌-◌, ◌≤◌, All, Some}
use Rattle.machine_model.specs.Run.{after_steps}
use Rattle.a64_machine.specs.Cores.{state_of}
use Rattle.sve_machine.specs.DecodedWords.{IsDecodedFrom}
use Rattle.sve_machine.proofs.advance.go.Given as goal

abbrev pub invariant-loop-left : goal.invariant-loop-left
invariant-loop-left l = record {
  decoded : All (IsDecodedFrom l.pages.memory) l.decoded;
  state : after_steps (l.steps - l.left) (state_of l.fn.core l.fn.pages.memory l.fn.vectors) ≡ Some (state_of l.core l.pages.memory l.vectors);
  past : l.pages.past ≡ l.fn.pages.past;
  few : l.left ≤ l.steps;
}

abbrev pub decreases-loop-left : goal.decreases-loop-left
decreases-loop-left l = l.left
