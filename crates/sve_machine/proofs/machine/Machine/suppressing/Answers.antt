use Rattle.sve_machine.proofs.PastLaws.{past_by-none}
use Rattle.std.proofs.Common.{refl, sym, ap, arith}
use Rattle.std.specs.Prelude.{length}
use Rattle.machine_model.specs.Debugged.{is_never}
use Rattle.a64_machine.specs.Cores.{VectorState}
use Rattle.sve_machine.proofs.StartRegisters.{length_of_zeros, started}
use Rattle.sve_machine.proofs.machine.Machine.suppressing.Goals as goal

pub invariant_of-result : goal.invariant_of-result
invariant_of-result c = record { decoded = c.no_words.ensures c.args.pages.memory; beside = tt }

pub returns-clause-past : goal.returns-clause-past
returns-clause-past c = past_by-none c.args.pages.past

pub slice_bounds-x-end : goal.slice_bounds-x-end
slice_bounds-x-end c = omega (arith, c.requires)

pub slice_bounds-copy_from_slice-end : goal.slice_bounds-copy_from_slice-end
slice_bounds-copy_from_slice-end c = sym (length_of_zeros (length c.args.args.now) c.requires)

pub copy_from_slice-requires : goal.copy_from_slice-requires
copy_from_slice-requires c = length_of_zeros (length c.args.args.now) c.requires

pub returns-clause-state : goal.returns-clause-state
returns-clause-state c = started c.args.pages.memory c.args.entry c.args.args.now c.copy_from_slice.new.self c.args.vl c.args.stops c.new.result c.copy_from_slice.ensures.after c.new.ensures

pub returns-clause-steps : goal.returns-clause-steps
returns-clause-steps c = refl

pub returns-clause-over : goal.returns-clause-over
returns-clause-over c = refl

pub returns-clause-quiet : goal.returns-clause-quiet
returns-clause-quiet c = ap (λ (r : VectorState). is_never r.stops) c.new.ensures
