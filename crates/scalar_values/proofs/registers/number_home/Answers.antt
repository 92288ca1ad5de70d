use mir.Syntax.{w128}
use mir.Val.{of_z, to_z}
use Rattle.std.proofs.lemmas.Int.{to_z-of_z}
use Rattle.std.specs.Prelude.{option_map}
use Rattle.std.proofs.Common.{sym, ap, ◌∙◌}
use Rattle.scalar_words.specs.View.{register_number}
use Rattle.scalar_values.proofs.PartKinds.{held_home, own_home}
use Rattle.scalar_values.proofs.registers.number_home.Goals as goal

pub returns-in-Some : goal.returns-in-Some
returns-in-Some c = held_home c.args.layout.now c.args.item c.in-Some.held.number c.args.value (to_z w128 (of_z w128 c.args.value)) (to_z-of_z w128 c.args.value c.ranges.value) (sym c.constant.ensures ∙ ap (option_map register_number) c.in-Some.is)

pub returns-in-None : goal.returns-in-None
returns-in-None c = own_home c.args.layout.now c.args.item c.reg.result.number c.args.value (to_z w128 (of_z w128 c.args.value)) (to_z-of_z w128 c.args.value c.ranges.value) (sym c.constant.ensures ∙ ap (option_map register_number) c.in-None.is) c.reg.ensures
