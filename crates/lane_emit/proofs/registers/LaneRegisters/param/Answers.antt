use Rattle.std.proofs.Common.{◌<◌, length, refl, sym, ap, ◌∙◌, subst, arith, ltb-true, ltb-false}
use Rattle.std.proofs.lemmas.Option.{slice_get_read}
use Rattle.kernel_tree.specs.Plain.{parameters_of}
use Rattle.kernel_tree.specs.declared.ast.Kernel.{Kernel}
use Rattle.reg_assign.specs.declared.interval.RegClass.TheVariants.{Z}
use Rattle.loop_form.specs.Needs as needs
use Rattle.loop_form.specs.Needs.{throughout}
use Rattle.loop_form.specs.View.{program}
use Rattle.lane_emit.specs.LoopRegisters.{register_of, place_in}
use Rattle.lane_emit.specs.RegistersView.{kernel_in, vectors_in}
use Rattle.lane_emit.proofs.Parameters.{no_parameter, one_parameter}
use Rattle.lane_emit.proofs.registers.LaneRegisters.param.Goals.{in-None, in-Some}
use Rattle.lane_emit.proofs.registers.LaneRegisters.param.Goals as goal

pub invariant_of-held_register : goal.invariant_of-held_register
invariant_of-held_register c = elim c.match-get.branch [
  | in-None w ↦ record { in_range = subst (λ n. n < 32) (λ i. (sym w.result-is i).0) (omega arith) }
  | in-Some w ↦ record { in_range = subst (λ n. n < 32) (λ i. (sym w.result-is i).0) w.held_register.result.in_range }
]

pub returns : goal.returns
unfolding program
returns c =
    let k = kernel_in c.args.self.now in
    let a = vectors_in c.args.self.now in
    let ps = c.deref.result.now in
    let p = c.args.place in
    let is = ap parameters_of (c.deref.ensures.value ∙ ap (λ (t : Kernel). t.params.items) c.kernel.ensures) in
    elim c.match-get.branch [
      | in-None w ↦ (λ i. (w.result-is i).0) ∙ no_parameter k a ps p is (ltb-false p (length ps) (sym w.in-None.ensures.lookup.0))
      | in-Some w ↦
          let found = slice_get_read ps (length ps) p w.in-Some.param.now refl (ltb-true p (length ps) (sym w.in-Some.ensures.lookup.0)) w.in-Some.ensures.lookup.1 in
          (λ i. (w.result-is i).0)
          ∙ w.held_register.ensures
          ∙ ap (λ x. register_of 31 a (place_in (needs.Scalar x) (throughout k Z))) w.text.ensures
          ∙ one_parameter k a ps p is w.in-Some.param.now found
    ]
