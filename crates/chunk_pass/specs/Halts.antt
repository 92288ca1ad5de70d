-- How an iteration of the scalar loop does not go on.
use Rattle.kernel_meaning.specs.Ends.{BlockEnd, Next, Broke, Faulted}
use Rattle.kernel_meaning.specs.Eval.{Names}

abbrev pub Breaks : BlockEnd Names → Type 0
Breaks (Broke m names) = Unit {0}
Breaks (Next m names) = ⊥
Breaks (Faulted m) = ⊥

abbrev pub Faults : BlockEnd Names → Type 0
Faults (Faulted m) = Unit {0}
Faults (Next m names) = ⊥
Faults (Broke m names) = ⊥
