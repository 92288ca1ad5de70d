use Rattle.std.proofs.Common.{◌≡◌, ◌++◌, Some, Ok, refl, ap, sym, ◌∙◌, inl, inr, subst}
use Rattle.std.specs.Prelude.{IfSome, IsSome}
use Rattle.refusals.specs.declared.refusal.Done.TheVariants as done
use Rattle.refusals.specs.declared.refusal.Refusal.TheVariants.{File, Output}
use Rattle.command_answers.specs.Answer.{answer_of, expected_text, IsAnswer}
use Rattle.command_answers.specs.Reads.{AfterRead, file_of, bytes_in}
use Rattle.kernel_commands.specs.Commands.{CheckExpects, IsOfCheck}
use Rattle.command_answers.specs.Works.{ended}
use Rattle.io_edges.specs.Files.{Rose, content}
use Rattle.io_edges.specs.Sink.{GainsPart}
use Rattle.command_answers.specs.Outputs.{Prints}
use Rattle.command_answers.proofs.Prints.{prints_nothing, prints_part, prints_all}
use Rattle.command_answers.proofs.Reading.{of_read, of_every, with_output, is_err}
use Rattle.command_answers.proofs.Exits.{passed_on, steady_read, of_reading, cut_answer, cut_loud, cut_not_file, cut_output, of_refusal, not_refused}
use Rattle.command_answers.proofs.Held.{steady_anyway}
use Rattle.kernel_commands.proofs.Exits.{read_not_output, text_not}
use Rattle.kernel_commands.proofs.Expectations.{text_refused}
use Rattle.std.specs.Prelude.{[], ◌∷◌}
use Rattle.command_answers.specs.Requests.{IsOk, Read, IsNotOfFiles, task_wants}
use Rattle.command_answers.proofs.Asks.{fails_asks, ends_asks}
use Rattle.kernel_commands.proofs.Requested.{text_elsewhere}
use Rattle.refusals.specs.declared.refusal.Done.TheVariants.{Ended}
use Rattle.kernel_commands.proofs.check.check.Goals as goal

pub returns-in_err-report-clause-answer : goal.returns-in_err-report-clause-answer
returns-in_err-report-clause-answer g c =
    with_output _ _ _ (g.F.Files.held c.args.files.now) (λ h. AfterRead (file_of h c.args.from.now) CheckExpects) c.from_residual-in_err-report.result
    (text_refused (g.F.Files.faults c.args.files.now) (g.F.Files.faults c.read_file.new.files) (g.F.Files.faults c.read_file.new.files)
    (g.F.Files.held c.args.files.now) c.args.from.now c.deref.result.now CheckExpects (bytes_in c.read_file.result) c.in_err-report.field-0.0 c.from_residual-in_err-report.result
    (ap bytes_in c.in_ok-text.was ∙ ap (λ b. Ok b) (sym c.deref.ensures.value)) c.from_residual-in_err-report.ensures.1 c.read_file.ensures.answer c.in_err-report.ensures.refusal)

pub returns-in_err-put_all-clause-answer : goal.returns-in_err-put_all-clause-answer
returns-in_err-put_all-clause-answer g c =
    let result = c.from_residual-in_err-put_all.result in
    let work = ended c.in_ok-report.report.items in
    of_read (g.F.Files.faults c.args.files.now) (g.F.Files.faults c.read_file.new.files)
    (g.F.Files.held c.args.files.now) (λ h. file_of h c.args.from.now) c.deref.result.now (bytes_in c.read_file.result) CheckExpects work
    (λ work. IsAnswer (g.F.Files.faults c.args.files.now) (g.F.Files.faults c.read_file.new.files) (Rose (g.S.Sink.faults c.args.out.now) (g.S.Sink.faults c.put_all.new.sink)) (answer_of work) result)
    (ap bytes_in c.in_ok-text.was ∙ ap (λ b. Ok b) (sym c.deref.ensures.value)) c.read_file.ensures.answer c.in_ok-report.ensures.wanted
    (cut_answer (g.F.Files.faults c.args.files.now) (g.F.Files.faults c.read_file.new.files) (g.S.Sink.faults c.args.out.now) (g.S.Sink.faults c.put_all.new.sink) work c.put_all.result c.in_err-put_all.field-0.0 result
    refl c.in_err-put_all.was c.put_all.ensures.cause c.from_residual-in_err-put_all.ensures.1)

pub returns-in_err-put_all-clause-printed : goal.returns-in_err-put_all-clause-printed
returns-in_err-put_all-clause-printed g c =
    of_read (g.F.Files.faults c.args.files.now) (g.F.Files.faults c.read_file.new.files)
    (g.F.Files.held c.args.files.now) (λ h. file_of h c.args.from.now) c.deref.result.now (bytes_in c.read_file.result) CheckExpects (ended c.in_ok-report.report.items)
    (λ work. Prints (g.S.Sink.taken c.args.out.now) (g.S.Sink.taken c.put_all.new.sink) (expected_text work) c.from_residual-in_err-put_all.result)
    (ap bytes_in c.in_ok-text.was ∙ ap (λ b. Ok b) (sym c.deref.ensures.value)) c.read_file.ensures.answer c.in_ok-report.ensures.wanted
    (subst (λ r. Prints (g.S.Sink.taken c.args.out.now) (g.S.Sink.taken c.put_all.new.sink) c.in_ok-report.report.items r) (sym (is_err Output c.from_residual-in_err-put_all.result c.from_residual-in_err-put_all.ensures.1))
    (prints_part (g.S.Sink.taken c.args.out.now) (g.S.Sink.taken c.put_all.new.sink) c.in_ok-report.report.items Output
    (subst (λ t. IfSome (g.S.Sink.taken c.args.out.now) (λ b. GainsPart b (g.S.Sink.taken c.put_all.new.sink) t)) c.deref-2.ensures.value c.put_all.ensures.prefix)))

pub returns-clause-answer : goal.returns-clause-answer
returns-clause-answer g c =
    of_read (g.F.Files.faults c.args.files.now) (g.F.Files.faults c.read_file.new.files)
    (g.F.Files.held c.args.files.now) (λ h. file_of h c.args.from.now) c.deref.result.now (bytes_in c.read_file.result) CheckExpects (ended c.in_ok-report.report.items)
    _
    (ap bytes_in c.in_ok-text.was ∙ ap (λ b. Ok b) (sym c.deref.ensures.value)) c.read_file.ensures.answer c.in_ok-report.ensures.wanted
    (inl (inl refl))

pub returns-clause-printed : goal.returns-clause-printed
returns-clause-printed g c =
    of_read (g.F.Files.faults c.args.files.now) (g.F.Files.faults c.read_file.new.files)
    (g.F.Files.held c.args.files.now) (λ h. file_of h c.args.from.now) c.deref.result.now (bytes_in c.read_file.result) CheckExpects (ended c.in_ok-report.report.items)
    _
    (ap bytes_in c.in_ok-text.was ∙ ap (λ b. Ok b) (sym c.deref.ensures.value)) c.read_file.ensures.answer c.in_ok-report.ensures.wanted
    (prints_all (g.S.Sink.taken c.args.out.now) (g.S.Sink.taken c.put_all.new.sink) c.in_ok-report.report.items done.Ended
    (subst (λ t. IfSome (g.S.Sink.taken c.args.out.now) (λ b. g.S.Sink.taken c.put_all.new.sink ≡ Some (b ++ t))) c.deref-2.ensures.value c.in_ok-put_all.ensures.all)
    (subst (λ t. IfSome (g.S.Sink.taken c.args.out.now) (λ b. GainsPart b (g.S.Sink.taken c.put_all.new.sink) t)) c.deref-2.ensures.value c.put_all.ensures.prefix))

pub returns-in_err-text-clause-held : goal.returns-in_err-text-clause-held
returns-in_err-text-clause-held g c = c.read_file.ensures.held

pub returns-in_err-text-clause-quiet : goal.returns-in_err-text-clause-quiet
returns-in_err-text-clause-quiet g c = λ q. refl

pub returns-in_err-text-clause-failed : goal.returns-in_err-text-clause-failed
returns-in_err-text-clause-failed g c = λ e. c.read_file.ensures.failed (passed_on c.read_file.result c.in_err-text.field-0.0 File c.from_residual.result c.in_err-text.was c.from_residual.ensures.1 e)

pub returns-in_err-text-clause-output : goal.returns-in_err-text-clause-output
returns-in_err-text-clause-output g c = λ e. absurd (read_not_output c.read_file.result c.in_err-text.field-0.0 c.from_residual.result c.in_err-text.was c.from_residual.ensures.1 c.read_file.ensures.of_read e)

pub returns-in_err-text-clause-steady : goal.returns-in_err-text-clause-steady
returns-in_err-text-clause-steady g c = λ s. steady_read (g.F.Files.held c.args.files.now) (λ h. IsSome (content h c.args.from.now)) c.read_file.result c.in_err-text.field-0.0 c.from_residual.result c.in_err-text.was c.from_residual.ensures.1 (c.read_file.ensures.reads s)

pub returns-in_err-text-clause-of_check : goal.returns-in_err-text-clause-of_check
returns-in_err-text-clause-of_check g c = of_reading IsOfCheck c.read_file.result c.in_err-text.field-0.0 c.from_residual.result c.in_err-text.was c.from_residual.ensures.1 c.read_file.ensures.of_read tt tt tt

pub returns-in_err-report-clause-held : goal.returns-in_err-report-clause-held
returns-in_err-report-clause-held g c = c.read_file.ensures.held

pub returns-in_err-report-clause-quiet : goal.returns-in_err-report-clause-quiet
returns-in_err-report-clause-quiet g c = λ q. refl

pub returns-in_err-report-clause-of_check : goal.returns-in_err-report-clause-of_check
returns-in_err-report-clause-of_check g c = of_refusal IsOfCheck c.in_err-report.field-0.0 c.from_residual-in_err-report.result c.from_residual-in_err-report.ensures.1 c.in_err-report.ensures.of_check

pub returns-in_err-report-clause-failed : goal.returns-in_err-report-clause-failed
returns-in_err-report-clause-failed g c = λ e. absurd (text_not (CheckExpects c.deref.result.now) File c.in_err-report.field-0.0 c.from_residual-in_err-report.result (inl refl) c.from_residual-in_err-report.ensures.1 c.in_err-report.ensures.refusal e)

pub returns-in_err-report-clause-output : goal.returns-in_err-report-clause-output
returns-in_err-report-clause-output g c = λ e. absurd (text_not (CheckExpects c.deref.result.now) Output c.in_err-report.field-0.0 c.from_residual-in_err-report.result (inr refl) c.from_residual-in_err-report.ensures.1 c.in_err-report.ensures.refusal e)

pub returns-in_err-report-clause-steady : goal.returns-in_err-report-clause-steady
returns-in_err-report-clause-steady g c = λ s. steady_anyway (g.F.Files.held c.args.files.now) (λ h. IsSome (content h c.args.from.now)) c.from_residual-in_err-report.result (text_not (CheckExpects c.deref.result.now) File c.in_err-report.field-0.0 c.from_residual-in_err-report.result (inl refl) c.from_residual-in_err-report.ensures.1 c.in_err-report.ensures.refusal)

pub returns-in_err-put_all-clause-held : goal.returns-in_err-put_all-clause-held
returns-in_err-put_all-clause-held g c = c.read_file.ensures.held

pub returns-in_err-put_all-clause-quiet : goal.returns-in_err-put_all-clause-quiet
returns-in_err-put_all-clause-quiet g c = λ q. cut_loud _ c.from_residual-in_err-put_all.result c.from_residual-in_err-put_all.ensures.1 q

pub returns-in_err-put_all-clause-failed : goal.returns-in_err-put_all-clause-failed
returns-in_err-put_all-clause-failed g c = λ e. absurd (cut_not_file c.from_residual-in_err-put_all.result c.from_residual-in_err-put_all.ensures.1 e)

pub returns-in_err-put_all-clause-output : goal.returns-in_err-put_all-clause-output
returns-in_err-put_all-clause-output g c = λ e. cut_output (g.S.Sink.faults c.args.out.now) (g.S.Sink.faults c.put_all.new.sink) c.put_all.result c.in_err-put_all.field-0.0 c.from_residual-in_err-put_all.result c.in_err-put_all.was c.put_all.ensures.cause e

pub returns-in_err-put_all-clause-steady : goal.returns-in_err-put_all-clause-steady
returns-in_err-put_all-clause-steady g c = λ s. steady_anyway (g.F.Files.held c.args.files.now) (λ h. IsSome (content h c.args.from.now)) c.from_residual-in_err-put_all.result (cut_not_file c.from_residual-in_err-put_all.result c.from_residual-in_err-put_all.ensures.1)

pub returns-in_err-put_all-clause-of_check : goal.returns-in_err-put_all-clause-of_check
returns-in_err-put_all-clause-of_check g c = of_refusal IsOfCheck Output c.from_residual-in_err-put_all.result c.from_residual-in_err-put_all.ensures.1 tt

pub returns-clause-held : goal.returns-clause-held
returns-clause-held g c = c.read_file.ensures.held

pub returns-clause-quiet : goal.returns-clause-quiet
returns-clause-quiet g c = λ q. absurd q

pub returns-clause-failed : goal.returns-clause-failed
returns-clause-failed g c = λ e. absurd (not_refused done.Ended File e)

pub returns-clause-output : goal.returns-clause-output
returns-clause-output g c = λ e. absurd (not_refused done.Ended Output e)

pub returns-clause-steady : goal.returns-clause-steady
returns-clause-steady g c = λ s. steady_anyway (g.F.Files.held c.args.files.now) (λ h. IsSome (content h c.args.from.now)) (Ok done.Ended) (not_refused done.Ended File)

pub returns-clause-of_check : goal.returns-clause-of_check
returns-clause-of_check g c = refl

pub returns-in_err-text-clause-printed : goal.returns-in_err-text-clause-printed
returns-in_err-text-clause-printed g c =
    of_every (g.F.Files.held c.args.files.now) (λ h. AfterRead (file_of h c.args.from.now) CheckExpects)
    (λ work. Prints (g.S.Sink.taken c.args.out.now) (g.S.Sink.taken c.args.out.now) (expected_text work) c.from_residual.result)
    (λ work. subst (Prints (g.S.Sink.taken c.args.out.now) (g.S.Sink.taken c.args.out.now) (expected_text work)) (sym (is_err c.in_err-text.field-0.0 c.from_residual.result c.from_residual.ensures.1))
    (prints_nothing (g.S.Sink.taken c.args.out.now) (expected_text work) c.in_err-text.field-0.0))

pub returns-in_err-report-clause-printed : goal.returns-in_err-report-clause-printed
returns-in_err-report-clause-printed g c =
    of_every (g.F.Files.held c.args.files.now) (λ h. AfterRead (file_of h c.args.from.now) CheckExpects)
    (λ work. Prints (g.S.Sink.taken c.args.out.now) (g.S.Sink.taken c.args.out.now) (expected_text work) c.from_residual-in_err-report.result)
    (λ work. subst (Prints (g.S.Sink.taken c.args.out.now) (g.S.Sink.taken c.args.out.now) (expected_text work)) (sym (is_err c.in_err-report.field-0.0 c.from_residual-in_err-report.result c.from_residual-in_err-report.ensures.1))
    (prints_nothing (g.S.Sink.taken c.args.out.now) (expected_text work) c.in_err-report.field-0.0))

pub returns-in_err-text-clause-asked : goal.returns-in_err-text-clause-asked
returns-in_err-text-clause-asked g c =
    fails_asks IsNotOfFiles (g.F.Files.requests c.args.files.now) (g.F.Files.requests c.read_file.new.files) (Read c.args.from.now ∷ []) c.in_err-text.field-0.0 c.read_file.result c.from_residual.result
    c.in_err-text.was (is_err (c.in_err-text.field-0.0) c.from_residual.result c.from_residual.ensures.1) c.read_file.ensures.asked

pub returns-in_err-report-clause-asked : goal.returns-in_err-report-clause-asked
returns-in_err-report-clause-asked g c =
    ends_asks IsOk IsNotOfFiles (g.F.Files.requests c.args.files.now) (g.F.Files.requests c.read_file.new.files) (Read c.args.from.now ∷ []) c.in_ok-text.text c.read_file.result c.from_residual-in_err-report.result
    c.in_ok-text.was (subst IsNotOfFiles (sym (is_err (c.in_err-report.field-0.0) c.from_residual-in_err-report.result c.from_residual-in_err-report.ensures.1)) (text_elsewhere _ c.in_err-report.field-0.0 c.in_err-report.ensures.refusal)) c.read_file.ensures.asked

pub returns-in_err-put_all-clause-asked : goal.returns-in_err-put_all-clause-asked
returns-in_err-put_all-clause-asked g c =
    ends_asks IsOk IsNotOfFiles (g.F.Files.requests c.args.files.now) (g.F.Files.requests c.read_file.new.files) (Read c.args.from.now ∷ []) c.in_ok-text.text c.read_file.result c.from_residual-in_err-put_all.result
    c.in_ok-text.was (subst IsNotOfFiles (sym (is_err (Output) c.from_residual-in_err-put_all.result c.from_residual-in_err-put_all.ensures.1)) (tt)) c.read_file.ensures.asked

pub returns-clause-asked : goal.returns-clause-asked
returns-clause-asked g c =
    ends_asks IsOk IsNotOfFiles (g.F.Files.requests c.args.files.now) (g.F.Files.requests c.read_file.new.files) (Read c.args.from.now ∷ []) c.in_ok-text.text c.read_file.result (Ok Ended) c.in_ok-text.was tt c.read_file.ensures.asked
