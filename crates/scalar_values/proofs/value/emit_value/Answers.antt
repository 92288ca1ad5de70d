use Rattle.scalar_values.proofs.value.emit_value.Goals as goal

pub emit_loose-requires : goal.emit_loose-requires
emit_loose-requires c = record { kind = c.requires.kind; fits = c.requires.fits }

pub returns : goal.returns
returns c = record { register = c.emit_loose.ensures.register; item = c.emit_loose.ensures.item; emits = c.emit_loose.ensures.emits }
