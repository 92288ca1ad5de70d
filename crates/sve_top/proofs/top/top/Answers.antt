use Rattle.std.proofs.Common.{[], refl, ap, sym, ◌∙◌, subst}
use Rattle.command_line.specs.Line.{line_of}
use Rattle.command_line.specs.View.{texts}
use Rattle.command_answers.specs.Answer.{answer_of, status_of, IsAnswer}
use Rattle.sve_top.specs.Commands.{StreamRose, Swept}
use Rattle.sve_top.specs.Does.{outside}
use Rattle.command_answers.specs.Outputs.{error_line}
use Rattle.sve_top.proofs.OneExpectedLaws.{does_of}
use Rattle.sve_top.proofs.Completions.{completes}
use Rattle.sve_top.proofs.Lines.{by_status}
use Rattle.sve_top.proofs.Requested.{to_status}
use Rattle.refusals.specs.Lines.{line_of_refusal}
use Rattle.sve_top.proofs.Told.{is_file, is_output, no_line, at_zero, is_kept, is_quiet, not_failed, not_done, no_own_line, line_alike}
use Rattle.command_answers.proofs.Statuses.{gains_line, line_done, line_refused}
use Rattle.sve_top.proofs.top.top.Goals as goal

pub returns-in-Ok : goal.returns-in-Ok
returns-in-Ok g c =
    let line = line_of (texts c.args.words.now) in
    let is = c.status.ensures ∙ sym (ap status_of c.in-Ok.is) in
    let before = (outside (g.F.Files.held c.args.files.now) (g.F.Files.faults c.args.files.now) (g.S.Sink.taken c.args.out.now) (g.S.Sink.faults c.args.out.now) (g.E.Sink.taken c.args.err.now) (g.E.Sink.faults c.args.err.now) (g.I.Source.faults c.args.input.now)) in
    let after = (outside (g.F.Files.held c.do_words.new.files) (g.F.Files.faults c.do_words.new.files) (g.S.Sink.taken c.do_words.new.out) (g.S.Sink.faults c.do_words.new.out) (g.E.Sink.taken c.args.err.now) (g.E.Sink.faults c.args.err.now) (g.I.Source.faults c.do_words.new.input)) in
    let does =
    does_of (g.F.Files.held c.args.files.now) (g.I.Source.left c.args.input.now) line
    before
    after
    c.status.result c.do_words.result is c.do_words.ensures.answer c.do_words.ensures.printed c.do_words.ensures.unwritten
    (λ work p. line_done (g.E.Sink.taken c.args.err.now) (g.E.Sink.faults c.args.err.now) c.status.result (error_line (answer_of work)) c.in-Ok.done c.status.ensures) in
    record {
      does = does;
      complete = λ bytes taken steady none.
          completes (g.F.Files.held c.args.files.now) (g.I.Source.left c.args.input.now) line
          before
          after
          c.status.result c.do_words.result is c.do_words.ensures.listed (c.do_words.ensures.steady steady) c.do_words.ensures.output
          does bytes taken none;
      usage = no_line line c.status.result c.do_words.result is c.do_words.ensures.listed;
      listed = (c.do_words.result, c.do_words.ensures.listed, is);
      file = at_zero _ c.status.result c.do_words.result is c.do_words.ensures.file;
      others = c.do_words.ensures.others;
      swept = subst (Swept line (g.F.Files.held c.do_words.new.files) (g.S.Sink.taken c.args.out.now) (g.S.Sink.taken c.do_words.new.out))
          (sym is) c.do_words.ensures.swept;
      kept = λ k. c.do_words.ensures.kept (is_kept c.status.result c.do_words.result is k);
      reads = c.do_words.ensures.reads;
      failed = λ f. c.do_words.ensures.failed (is_file c.status.result c.do_words.result is f);
      output = λ o. c.do_words.ensures.output (is_output c.status.result c.do_words.result is o);
      steady = λ s. not_failed line (g.F.Files.held c.args.files.now) c.status.result c.do_words.result is (c.do_words.ensures.steady s);
      requested = to_status line (g.F.Files.held c.args.files.now) (g.F.Files.requests c.args.files.now) (g.F.Files.requests c.do_words.new.files) c.do_words.result c.status.result is c.do_words.ensures.requested;
      as_it_comes = by_status line (g.F.Files.held c.args.files.now) (g.I.Source.left c.args.input.now) (g.I.Source.left c.do_words.new.input) (g.S.Sink.taken c.args.out.now) (g.S.Sink.taken c.do_words.new.out) (g.S.Sink.faults c.args.out.now) (g.S.Sink.faults c.do_words.new.out)
          c.status.result c.do_words.result is c.do_words.ensures.as_it_comes;
      quiet = λ q. c.do_words.ensures.quiet (is_quiet c.status.result c.do_words.result is q);
      silent = c.do_words.ensures.silent;
      untold = λ u. refl;
      unread = c.do_words.ensures.unread;
      error_line_alike = λ three four. line_done (g.E.Sink.taken c.args.err.now) (g.E.Sink.faults c.args.err.now) c.status.result [] c.in-Ok.done c.status.ensures;
      error_line_some = no_own_line (g.E.Sink.taken c.args.err.now) (g.E.Sink.taken c.args.err.now) (g.E.Sink.faults c.args.err.now) (g.E.Sink.faults c.args.err.now) c.status.result c.in-Ok.done c.status.ensures;
    }

pub returns-in-Err : goal.returns-in-Err
returns-in-Err g c =
    let line = line_of (texts c.args.words.now) in
    let is = c.status-in-Err.ensures ∙ sym (ap status_of c.in-Err.is) in
    let before = (outside (g.F.Files.held c.args.files.now) (g.F.Files.faults c.args.files.now) (g.S.Sink.taken c.args.out.now) (g.S.Sink.faults c.args.out.now) (g.E.Sink.taken c.args.err.now) (g.E.Sink.faults c.args.err.now) (g.I.Source.faults c.args.input.now)) in
    let after = (outside (g.F.Files.held c.do_words.new.files) (g.F.Files.faults c.do_words.new.files) (g.S.Sink.taken c.do_words.new.out) (g.S.Sink.faults c.do_words.new.out) (g.E.Sink.taken c.put_refusal.new.sink) (g.E.Sink.faults c.put_refusal.new.sink) (g.I.Source.faults c.do_words.new.input)) in
    let does =
    does_of (g.F.Files.held c.args.files.now) (g.I.Source.left c.args.input.now) line
    before
    after
    c.status-in-Err.result c.do_words.result is c.do_words.ensures.answer c.do_words.ensures.printed c.do_words.ensures.unwritten
    (λ work p. line_refused (g.F.Files.faults c.args.files.now) (g.F.Files.faults c.do_words.new.files) c.status-in-Err.result _ _
    (StreamRose line (g.S.Sink.faults c.args.out.now) (g.S.Sink.faults c.do_words.new.out) (g.I.Source.faults c.args.input.now) (g.I.Source.faults c.do_words.new.input))
    (g.E.Sink.taken c.args.err.now) (g.E.Sink.taken c.put_refusal.new.sink) c.in-Err.refusal (answer_of work) c.put_refusal.result c.status-in-Err.ensures
    (subst (IsAnswer (g.F.Files.faults c.args.files.now) (g.F.Files.faults c.do_words.new.files) (StreamRose line (g.S.Sink.faults c.args.out.now) (g.S.Sink.faults c.do_words.new.out) (g.I.Source.faults c.args.input.now) (g.I.Source.faults c.do_words.new.input)) (answer_of work)) c.in-Err.is p) c.put_refusal.ensures) in
    record {
      does = does;
      complete = λ bytes taken steady none.
          completes (g.F.Files.held c.args.files.now) (g.I.Source.left c.args.input.now) line
          before
          after
          c.status-in-Err.result c.do_words.result is c.do_words.ensures.listed (c.do_words.ensures.steady steady) c.do_words.ensures.output
          does bytes taken none;
      usage = no_line line c.status-in-Err.result c.do_words.result is c.do_words.ensures.listed;
      listed = (c.do_words.result, c.do_words.ensures.listed, is);
      file = at_zero _ c.status-in-Err.result c.do_words.result is c.do_words.ensures.file;
      others = c.do_words.ensures.others;
      swept = subst (Swept line (g.F.Files.held c.do_words.new.files) (g.S.Sink.taken c.args.out.now) (g.S.Sink.taken c.do_words.new.out))
          (sym is) c.do_words.ensures.swept;
      kept = λ k. c.do_words.ensures.kept (is_kept c.status-in-Err.result c.do_words.result is k);
      reads = c.do_words.ensures.reads;
      failed = λ f. c.do_words.ensures.failed (is_file c.status-in-Err.result c.do_words.result is f);
      output = λ o. c.do_words.ensures.output (is_output c.status-in-Err.result c.do_words.result is o);
      steady = λ s. not_failed line (g.F.Files.held c.args.files.now) c.status-in-Err.result c.do_words.result is (c.do_words.ensures.steady s);
      requested = to_status line (g.F.Files.held c.args.files.now) (g.F.Files.requests c.args.files.now) (g.F.Files.requests c.do_words.new.files) c.do_words.result c.status-in-Err.result is c.do_words.ensures.requested;
      as_it_comes = by_status line (g.F.Files.held c.args.files.now) (g.I.Source.left c.args.input.now) (g.I.Source.left c.do_words.new.input) (g.S.Sink.taken c.args.out.now) (g.S.Sink.taken c.do_words.new.out) (g.S.Sink.faults c.args.out.now) (g.S.Sink.faults c.do_words.new.out)
          c.status-in-Err.result c.do_words.result is c.do_words.ensures.as_it_comes;
      quiet = λ q. c.do_words.ensures.quiet (is_quiet c.status-in-Err.result c.do_words.result is q);
      silent = c.do_words.ensures.silent;
      untold = λ u. absurd (not_done c.status-in-Err.result c.in-Err.refusal c.status-in-Err.ensures u);
      unread = c.do_words.ensures.unread;
      error_line_alike = line_alike (g.E.Sink.taken c.args.err.now) (g.E.Sink.taken c.put_refusal.new.sink) (g.E.Sink.faults c.args.err.now) (g.E.Sink.faults c.put_refusal.new.sink) c.status-in-Err.result c.in-Err.refusal c.put_refusal.result c.status-in-Err.ensures c.put_refusal.ensures;
      error_line_some = λ refused. (c.in-Err.refusal, sym c.status-in-Err.ensures, gains_line (g.E.Sink.taken c.args.err.now) (g.E.Sink.taken c.put_refusal.new.sink) (g.E.Sink.faults c.args.err.now) (g.E.Sink.faults c.put_refusal.new.sink) (line_of_refusal c.in-Err.refusal) c.put_refusal.result c.put_refusal.ensures);
    }
