-- The registers of parameters, by the list of them that the code reads.
use Rattle.std.proofs.Common.{◌≡◌, ℕ, ◌≤◌, List, length, Option, Some, None, ap, ◌∙◌, sym}
use Rattle.std.specs.Prelude.{slice_get, option_map}
use Rattle.std.proofs.lemmas.Option.{slice_get-map, slice_get_past}
use Rattle.kernel_tree.specs.declared.ast.Param.{Param}
use Rattle.kernel_tree.specs.Plain.{Program, Parameter, parameter_of, parameters_of, name_of}
use Rattle.reg_assign.specs.declared.interval.RegClass.TheVariants.{Z}
use Rattle.reg_assign.specs.Registers.{Assignment}
use Rattle.loop_form.specs.declared.loop_item.Operand.TheVariants.{Outer}
use Rattle.loop_form.specs.Needs as needs
use Rattle.loop_form.specs.Needs.{scalar_of, throughout}
use Rattle.lane_emit.specs.LoopRegisters.{register_of, place_in, place_of_one, held_place}

module _ (k : Program) (a : Assignment) (ps : List Param) (p : ℕ) (is : parameters_of ps ≡ k.params) where
  by_parameter : (o : Option Param) → slice_get ps p ≡ o → register_of 31 a (place_of_one (throughout k Z) (option_map scalar_of (option_map parameter_of o))) ≡ register_of 31 a (held_place k (Outer p))
  by_parameter o e =
      let found = ap (λ q. option_map parameter_of q) (sym e) ∙ sym (slice_get-map parameter_of ps p) ∙ ap (λ (qs : List Parameter). slice_get qs p) is in
      ap (λ (q : Option Parameter). register_of 31 a (place_of_one (throughout k Z) (option_map scalar_of q))) found

  pub no_parameter : length ps ≤ p → 31 ≡ register_of 31 a (held_place k (Outer p))
  no_parameter past = by_parameter None (slice_get_past ps p past)

  pub one_parameter : (q : Param) → slice_get ps p ≡ Some q → register_of 31 a (place_in (needs.Scalar (name_of q.name)) (throughout k Z)) ≡ register_of 31 a (held_place k (Outer p))
  one_parameter q e = by_parameter (Some q) e
