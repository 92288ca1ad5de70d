-- A step at a word that leaves the reserved registers alone.
use Rattle.std.proofs.Common.{◌≡◌, ◌≢◌, ℕ, Bool, true, false, Option, Some, None, sym, ap, ◌∙◌}
use Rattle.std.specs.Prelude.{not, slice_index}
use Rattle.std.proofs.lemmas.Bool.{and_parts}
use Rattle.guest_types.specs.Memory.{fetched}
use Rattle.machine_model.specs.declared.outcome.StopKind.TheVariants.{Undefined}
use Rattle.machine_model.specs.Frames.{SameUnless, OtherX}
use Rattle.machine_model.specs.InstructionTable.{Listed, Scalar, Vector, listed}
use Rattle.machine_model.specs.Machine.{State, Step, Went, Stopped, x_at}
use Rattle.machine_model.specs.OneStep.{step, does, do_word, reads_word}
use Rattle.machine_model.specs.VectorEffects.{field_of}
use Rattle.machine_model.proofs.Frames.{went_leaves}
use Rattle.machine_model.proofs.ScalarFrames.{scalar_leaves}
use Rattle.promises.specs.Reserved.{register_written, writes_stack_pointer, is_reserved, none_reserved, leaves_reserved}
use Rattle.promises.proofs.ReservedKept.{reserved_x_stays, sp_unless_written}
use Rattle.reserved_registers.specs.Kept.{AreKept, StepsKeep}

does_keep : (i : Listed) (s t : State) → leaves_reserved i ≡ true → does i s ≡ Went t → AreKept s t
does_keep (Scalar i) s t h e =
    let l = scalar_leaves i.name i.numbers s t e in
    let two = and_parts (none_reserved (register_written (Scalar i))) (not (writes_stack_pointer (Scalar i))) h in
    record { x = λ n r. reserved_x_stays (register_written (Scalar i)) s t n two.0 r l.x; sp = sp_unless_written (writes_stack_pointer (Scalar i)) s.sp t.sp two.1 l.sp }
does_keep (Vector i) s t h e =
    let l = went_leaves i.name (field_of i.name i.numbers) s t e in
    let two = and_parts (none_reserved (register_written (Vector i))) (not (writes_stack_pointer (Vector i))) h in
    record { x = λ n r. reserved_x_stays (register_written (Vector i)) s t n two.0 r l.x; sp = l.sp }

read : (word : ℕ) (i : Listed) → listed word ≡ Some i → reads_word word ≡ Some i
unfolding reads_word
read word i e = e

step_is : (s : State) (word : ℕ) (i : Listed) → fetched s.memory s.pc ≡ Some word → listed word ≡ Some i → step s ≡ does i s
step_is s word i at is =
    ap (λ o. do_word o s) at
    ∙ ap (λ o. elim o as (λ o. Step) [ None ↦ Stopped Undefined s.pc word s.memory | Some j ↦ does j s ]) (read word i is)

pub steps_keep : StepsKeep
steps_keep s t word at l e = does_keep l.instruction s t l.leaves (sym (step_is s word l.instruction at l.is) ∙ e)
