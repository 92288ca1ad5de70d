use Rattle.a64_machine.proofs.Fields.{unsigned-up}
use Rattle.a64_machine.proofs.bit_fields.unsigned_field.Goals as goal

pub returns-else-immr-imms : goal.returns-else-immr-imms
returns-else-immr-imms c = unsigned-up c.args.value c.field_taken-taken.result c.args.immr c.args.imms c.if-immr-imms.false c.requires.immr c.field_taken-taken.ensures.taken c.field_taken-taken.ensures.fits
