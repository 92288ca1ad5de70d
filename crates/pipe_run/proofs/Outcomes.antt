-- What came of a run, by the answer of the machine.
use Rattle.std.proofs.Common.{◌≡◌, ℕ, List, refl, sym, ap, ap₂, ◌∙◌}
use Rattle.guest_types.specs.EarlyLoads.{never}
use Rattle.guest_types.specs.Memory.{Memory, merged}
use Rattle.machine_model.specs.declared.outcome.Outcome.{Outcome as Answer}
use Rattle.machine_model.specs.declared.outcome.Outcome.TheVariants as answers
use Rattle.machine_model.specs.Answers.{outcome_of}
use Rattle.machine_model.specs.Load.{Image}
use Rattle.machine_model.specs.Machine.{State}
use Rattle.machine_model.specs.Run.{Outcome, memory_left, run, start, start_of, image_run}

pub left-of : (r : Answer) (memory : Memory) (pc steps : ℕ) → memory_left (outcome_of r memory pc steps) ≡ memory
left-of (answers.End result) memory pc steps = refl
left-of other memory pc steps = refl

-- the outcome by the memory that it left
pub outcome-is : (o : Outcome) (r : Answer) (memory : Memory) (pc steps : ℕ) → o ≡ outcome_of r memory pc steps → o ≡ outcome_of r (memory_left o) pc steps
outcome-is o r memory pc steps e = e ∙ ap (λ m. outcome_of r m pc steps) (sym (ap memory_left e ∙ left-of r memory pc steps))

-- the run from where an image starts
pub run-of : (image : Image) (args : List ℕ) (pages memory left : Memory) (vl steps k pc n : ℕ) (s : State) (r : Answer) → k ≡ 0 → s ≡ start_of memory image.entry args vl never
    → memory ≡ merged image.pages pages → run steps k s ≡ outcome_of r left pc n → image_run image args pages vl steps ≡ outcome_of r left pc n
unfolding start
run-of image args pages memory left vl steps k pc n s r e f m h =
    sym (ap₂ (run steps) e (f ∙ ap (λ x. start_of x image.entry args vl never) m)) ∙ h
