use Rattle.std.proofs.Common.{◌∙◌, sym, ap}
use Rattle.std.specs.Prelude.{option_map, string_bytes}
use Rattle.std.proofs.lemmas.Result.{IfOk-from_err}
use Rattle.command_line.specs.Line.{ListLine}
use Rattle.command_line.proofs.read.list.Goals as goal

pub returns-in_err-from : goal.returns-in_err-from
returns-in_err-from c = IfOk-from_err _ _ c.from_residual.ensures.0

pub returns-in-Some : goal.returns-in-Some
returns-in-Some c = sym (ap (option_map ListLine) (sym c.in_ok-from.ensures ∙ ap (option_map string_bytes) c.in-Some.is))

pub returns-in-None : goal.returns-in-None
returns-in-None c = sym (ap (option_map ListLine) (sym c.in_ok-from.ensures ∙ ap (option_map string_bytes) c.in-None.is))
