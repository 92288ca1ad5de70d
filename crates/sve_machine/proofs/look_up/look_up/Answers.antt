use Rattle.std.proofs.Common.{true, refl}
use Rattle.sve_machine.proofs.DecodedWords.{not_found, in_entries}
use Rattle.sve_machine.proofs.look_up.look_up.Goals as goal

pub listed : goal.listed
listed c = in_entries c.args.pc _ c.told-decoded

pub bounds-decoded-pc : goal.bounds-decoded-pc
bounds-decoded-pc c = in_entries c.args.pc 1024 refl

pub returns-then-decoded-pc-clause-decoded : goal.returns-then-decoded-pc-clause-decoded
returns-then-decoded-pc-clause-decoded c = c.requires.decoded

pub returns-then-decoded-pc-clause-stopped : goal.returns-then-decoded-pc-clause-stopped
returns-then-decoded-pc-clause-stopped c s e m p = not_found true e refl

pub fill-requires : goal.fill-requires
fill-requires c = record { decoded = c.requires.decoded }

pub returns : goal.returns
returns c = record { decoded = c.fill.ensures.decoded; found = c.fill.ensures.found; stopped = c.fill.ensures.stopped }
