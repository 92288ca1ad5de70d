-- The object of a sound kernel.
use Rattle.std.proofs.Common.{List, ℕ, Result, Ok, Err}
use Rattle.std.specs.Prelude.{Vec, IfOk}
use Rattle.kernel_tree.specs.Plain.{Program}
use Rattle.kernel_front.specs.Verdict.{Sound, IsVerdict}
use Rattle.refusals.specs.declared.refusal.Refusal.{Refusal}
use Rattle.object_command.specs.Objects.{HoldsFunction, ObjectsTo}

pub object_made : {A : Type 0} (text : List ℕ) (k : Program) (result : Result (Vec ℕ A) Refusal) → IsVerdict text (Sound k) → IfOk result (λ file. HoldsFunction k file.items) → IfOk result (λ file. ObjectsTo text file.items)
object_made text k (Ok file) v holds = record { kernel = k; sound = v; holds = holds }
object_made text k (Err r) v holds = tt
