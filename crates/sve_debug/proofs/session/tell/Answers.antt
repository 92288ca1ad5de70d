use Rattle.std.proofs.Common.{subst}
use Rattle.std.specs.Prelude.{OnErr}
use Rattle.std.proofs.lemmas.Result.{IfOk-at_ok}
use Rattle.io_edges.specs.Files.{Rose}
use Rattle.sve_debug.specs.declared.session.SessionFault.TheVariants.{Input, Output}
use Rattle.sve_debug.specs.Replies.{line_text}
use Rattle.sve_debug.proofs.Told.{tells_on, tells_failed, ok_no_err, output_no_input}
use Rattle.sve_debug.proofs.session.tell.Goals as goal

pub returns-in-Ok : goal.returns-in-Ok
returns-in-Ok g c = record {
  session = c.command.ensures.session;
  steps = c.command.ensures.steps;
  told = λ start d h. tells_on _ _ _ _ _ c.command.result c.in-Ok.on c.in-Ok.is (c.command.ensures.told start d h);
  later = c.command.ensures.cause.later;
  output = λ e. absurd (ok_no_err c.in-Ok.on Output e);
  input = λ e. ok_no_err c.in-Ok.on Input e;
  goes_on = IfOk-at_ok _ c.in-Ok.is c.command.ensures.goes_on;
}

pub returns-in-Err : goal.returns-in-Err
returns-in-Err g c = record {
  session = c.command.ensures.session;
  steps = c.command.ensures.steps;
  told = λ start d h. tells_failed _ _ _ _ (line_text c.args.line.now d) c.command.result Output (c.command.ensures.told start d h);
  later = c.command.ensures.cause.later;
  output = λ e. subst (λ r. OnErr r (Rose (g.S.Sink.faults c.args.out.now) (g.S.Sink.faults c.command.new.out))) c.in-Err.is c.command.ensures.cause.failed;
  input = λ e. output_no_input e;
  goes_on = tt;
}
