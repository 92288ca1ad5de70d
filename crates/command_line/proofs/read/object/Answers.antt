use Rattle.std.proofs.Common.{◌∙◌, sym, ap, ℕ, List}
use Rattle.std.specs.Prelude.{option_map}
use Rattle.std.proofs.lemmas.Result.{IfOk-from_err}
use Rattle.command_line.specs.Line.{ObjectLine}
use Rattle.command_line.specs.View.{texts, both_bytes}
use Rattle.command_line.proofs.Lines.{object_is}
use Rattle.command_line.proofs.read.object.Goals as goal

pub returns-in_err-from : goal.returns-in_err-from
returns-in_err-from c = IfOk-from_err _ _ c.from_residual.ensures.0

pub returns-in-Some : goal.returns-in-Some
returns-in-Some c =
    sym (object_is (texts c.args.words.now) ∙ ap (option_map (λ (p : List ℕ × List ℕ). ObjectLine p.0 p.1)) (sym c.in_ok-from.ensures ∙ ap (option_map both_bytes) c.in-Some.is))

pub returns-in-None : goal.returns-in-None
returns-in-None c =
    sym (object_is (texts c.args.words.now) ∙ ap (option_map (λ (p : List ℕ × List ℕ). ObjectLine p.0 p.1)) (sym c.in_ok-from.ensures ∙ ap (option_map both_bytes) c.in-None.is))
