use Rattle.std.proofs.Common.{sym, ap}
use Rattle.command_line.specs.Given.{name_of}
use Rattle.command_line.proofs.check.name_of.Goals as goal

pub returns-in-text : goal.returns-in-text
returns-in-text c = sym (ap name_of c.in-text.is)

pub returns-in-text-2 : goal.returns-in-text-2
returns-in-text-2 c = sym (ap name_of c.in-text-2.is)

pub returns-in-text-3 : goal.returns-in-text-3
returns-in-text-3 c = sym (ap name_of c.in-text-3.is)

pub returns-in-text-4 : goal.returns-in-text-4
returns-in-text-4 c = sym (ap name_of c.in-text-4.is)

pub returns-in-text-5 : goal.returns-in-text-5
returns-in-text-5 c = sym (ap name_of c.in-text-5.is)
