use Rattle.std.proofs.Common.{ap, subst, ◌≢◌, Ok, Err, inl, sym, ◌∙◌}
use Rattle.std.specs.Prelude.{IfSome, string_bytes, IsSome}
use Rattle.command_answers.specs.Answer.{IsFileAnswer}
use Rattle.command_answers.specs.Reads.{file_of, bytes_in}
use Rattle.command_answers.proofs.Reading.{stops_there, is_err}
use Rattle.pipe_command.specs.Pipes.{image_in}
use Rattle.pipe_command.specs.View.{plain_in}
use Rattle.pipe_command.proofs.Passed.{file_before, never_file, ok_not_file, by_files, of_content, content_not_file, after_read, reads_before, read_files}
use Rattle.std.proofs.lemmas.Result.{IfOk-from_err}
use Rattle.pipe_command.proofs.Causes.{refusal_answers}
use Rattle.io_edges.specs.Files.{content}
use Rattle.refusals.specs.declared.refusal.Refusal.TheVariants.{File}
use Rattle.std.specs.Prelude.{[], ◌∷◌}
use Rattle.command_answers.specs.Requests.{Read, Asks, IsOk, IsNotOfFiles}
use Rattle.pipe_script.specs.View.{entry_view}
use Rattle.pipe_command.specs.Pipes.{entry_want}
use Rattle.command_answers.proofs.Asks.{fails_asks, ends_asks}
use Rattle.pipe_command.proofs.Requested.{content_elsewhere}
use Rattle.pipe_command.proofs.lines.image_of.Goals as goal

pub returns-in_err-bytes-clause-answer : goal.returns-in_err-bytes-clause-answer
returns-in_err-bytes-clause-answer g c =
    let name = string_bytes c.args.line.now.file in
    stops_there (g.F.Files.faults c.args.files.now) (g.F.Files.faults c.read_file.new.files) (g.F.Files.held c.args.files.now) (λ h. file_of h name) (bytes_in c.read_file.result)
    (λ h. image_in c.args.map.now.pages.items c.args.line.now.line) c.in_err-bytes.field-0.0 (plain_in c.from_residual.result)
    (ap bytes_in c.in_err-bytes.was) (ap plain_in (is_err c.in_err-bytes.field-0.0 c.from_residual.result c.from_residual.ensures.1))
    (subst (λ n. IfSome (g.F.Files.held c.args.files.now) (λ h. IsFileAnswer (g.F.Files.faults c.args.files.now) (g.F.Files.faults c.read_file.new.files) (file_of h n) (bytes_in c.read_file.result))) c.as_str.ensures.value c.read_file.ensures.answer)

pub returns-in_err-bytes-clause-held : goal.returns-in_err-bytes-clause-held
returns-in_err-bytes-clause-held g c = c.read_file.ensures.held

pub returns-in_err-bytes-clause-later : goal.returns-in_err-bytes-clause-later
returns-in_err-bytes-clause-later g c = c.read_file.ensures.later

pub returns-in_err-bytes-clause-failed : goal.returns-in_err-bytes-clause-failed
returns-in_err-bytes-clause-failed g c = λ e. c.read_file.ensures.failed (file_before c.in_err-bytes.field-0.0 c.read_file.result c.from_residual.result c.in_err-bytes.was (is_err c.in_err-bytes.field-0.0 c.from_residual.result c.from_residual.ensures.1) e)

pub returns-in_err-bytes-clause-steady : goal.returns-in_err-bytes-clause-steady
returns-in_err-bytes-clause-steady g c = c.read_file.ensures.steady

pub returns-in_err-bytes-clause-fits : goal.returns-in_err-bytes-clause-fits
returns-in_err-bytes-clause-fits g c = IfOk-from_err _ _ c.from_residual.ensures.0

pub returns-in_err-image-clause-held : goal.returns-in_err-image-clause-held
returns-in_err-image-clause-held g c = c.read_file.ensures.held

pub returns-in_err-image-clause-later : goal.returns-in_err-image-clause-later
returns-in_err-image-clause-later g c = c.read_file.ensures.later

pub returns-in_err-image-clause-steady : goal.returns-in_err-image-clause-steady
returns-in_err-image-clause-steady g c = c.read_file.ensures.steady

pub returns-in_err-image-clause-failed : goal.returns-in_err-image-clause-failed
returns-in_err-image-clause-failed g c = λ e. absurd (content_not_file c.in_err-image.field-0.0 c.from_residual-in_err-image.result (is_err c.in_err-image.field-0.0 c.from_residual-in_err-image.result c.from_residual-in_err-image.ensures.1) c.in_err-image.ensures.content e)

pub returns-in_err-image-clause-reads : goal.returns-in_err-image-clause-reads
returns-in_err-image-clause-reads g c = λ s. never_file (g.F.Files.held c.args.files.now) _ c.from_residual-in_err-image.result (content_not_file c.in_err-image.field-0.0 c.from_residual-in_err-image.result (is_err c.in_err-image.field-0.0 c.from_residual-in_err-image.result c.from_residual-in_err-image.ensures.1) c.in_err-image.ensures.content)

pub returns-in_err-image-clause-fits : goal.returns-in_err-image-clause-fits
returns-in_err-image-clause-fits g c = IfOk-from_err _ _ c.from_residual-in_err-image.ensures.0

pub returns-in_err-image-clause-of_files : goal.returns-in_err-image-clause-of_files
returns-in_err-image-clause-of_files g c = by_files c.in_err-image.field-0.0 c.from_residual-in_err-image.result c.from_residual-in_err-image.ensures.1 (of_content c.in_err-image.field-0.0 c.in_err-image.ensures.content)

pub returns-clause-held : goal.returns-clause-held
returns-clause-held g c = c.read_file.ensures.held

pub returns-clause-later : goal.returns-clause-later
returns-clause-later g c = c.read_file.ensures.later

pub returns-clause-steady : goal.returns-clause-steady
returns-clause-steady g c = c.read_file.ensures.steady

pub returns-clause-failed : goal.returns-clause-failed
returns-clause-failed g c = λ e. absurd (ok_not_file _ e)

pub returns-clause-reads : goal.returns-clause-reads
returns-clause-reads g c = λ s. never_file (g.F.Files.held c.args.files.now) _ _ (ok_not_file _)

pub returns-clause-fits : goal.returns-clause-fits
returns-clause-fits g c = c.in_ok-image.ensures.fits

pub returns-clause-of_files : goal.returns-clause-of_files
returns-clause-of_files g c = tt

pub returns-in_err-image-clause-answer : goal.returns-in_err-image-clause-answer
returns-in_err-image-clause-answer g c =
    let name = string_bytes c.args.line.now.file in
    let next = image_in c.args.map.now.pages.items c.args.line.now.line in
    let answer = subst (λ n. IfSome (g.F.Files.held c.args.files.now) (λ h. IsFileAnswer (g.F.Files.faults c.args.files.now) (g.F.Files.faults c.read_file.new.files) (file_of h n) (bytes_in c.read_file.result))) c.as_str.ensures.value c.read_file.ensures.answer in
    let found = ap bytes_in c.in_ok-bytes.was ∙ ap Ok (sym c.deref.ensures.value) in
    after_read (g.F.Files.faults c.args.files.now) (g.F.Files.faults c.read_file.new.files) (g.F.Files.held c.args.files.now) (λ h. file_of h name) c.deref.result.now (bytes_in c.read_file.result) next (plain_in c.from_residual-in_err-image.result) found answer
    (refusal_answers (g.F.Files.faults c.args.files.now) (g.F.Files.faults c.read_file.new.files) (next c.deref.result.now) (plain_in c.from_residual-in_err-image.result) c.in_err-image.field-0.0 (ap plain_in (is_err c.in_err-image.field-0.0 c.from_residual-in_err-image.result c.from_residual-in_err-image.ensures.1)) c.in_err-image.ensures.refusal)

pub returns-clause-answer : goal.returns-clause-answer
returns-clause-answer g c =
    let name = string_bytes c.args.line.now.file in
    let next = image_in c.args.map.now.pages.items c.args.line.now.line in
    let answer = subst (λ n. IfSome (g.F.Files.held c.args.files.now) (λ h. IsFileAnswer (g.F.Files.faults c.args.files.now) (g.F.Files.faults c.read_file.new.files) (file_of h n) (bytes_in c.read_file.result))) c.as_str.ensures.value c.read_file.ensures.answer in
    let found = ap bytes_in c.in_ok-bytes.was ∙ ap Ok (sym c.deref.ensures.value) in
    after_read (g.F.Files.faults c.args.files.now) (g.F.Files.faults c.read_file.new.files) (g.F.Files.held c.args.files.now) (λ h. file_of h name) c.deref.result.now (bytes_in c.read_file.result) next _ found answer (inl (sym c.in_ok-image.ensures.image))

pub returns-in_err-bytes-clause-reads : goal.returns-in_err-bytes-clause-reads
returns-in_err-bytes-clause-reads g c = λ s.
    reads_before (g.F.Files.held c.args.files.now) _ c.in_err-bytes.field-0.0 c.read_file.result c.from_residual.result c.in_err-bytes.was (is_err c.in_err-bytes.field-0.0 c.from_residual.result c.from_residual.ensures.1)
    (subst (λ n. IfSome (g.F.Files.held c.args.files.now) (λ h. IsSome (content h n) → c.read_file.result ≢ Err File)) c.as_str.ensures.value (c.read_file.ensures.reads s))

pub returns-in_err-bytes-clause-of_files : goal.returns-in_err-bytes-clause-of_files
returns-in_err-bytes-clause-of_files g c = by_files c.in_err-bytes.field-0.0 c.from_residual.result c.from_residual.ensures.1 (read_files c.read_file.result c.in_err-bytes.field-0.0 c.in_err-bytes.was c.read_file.ensures.of_read)

pub returns-in_err-bytes-clause-asked : goal.returns-in_err-bytes-clause-asked
returns-in_err-bytes-clause-asked g c =
    fails_asks IsNotOfFiles (g.F.Files.requests c.args.files.now) (g.F.Files.requests c.read_file.new.files) (entry_want (entry_view c.args.line.now) ∷ []) c.in_err-bytes.field-0.0 c.read_file.result c.from_residual.result
    c.in_err-bytes.was (is_err (c.in_err-bytes.field-0.0) c.from_residual.result c.from_residual.ensures.1) (subst (λ n. Asks IsOk (g.F.Files.requests c.args.files.now) (g.F.Files.requests c.read_file.new.files) (Read n ∷ []) c.read_file.result) c.as_str.ensures.value c.read_file.ensures.asked)

pub returns-in_err-image-clause-asked : goal.returns-in_err-image-clause-asked
returns-in_err-image-clause-asked g c =
    ends_asks IsOk IsNotOfFiles (g.F.Files.requests c.args.files.now) (g.F.Files.requests c.read_file.new.files) (entry_want (entry_view c.args.line.now) ∷ []) c.in_ok-bytes.bytes c.read_file.result c.from_residual-in_err-image.result
    c.in_ok-bytes.was (subst IsNotOfFiles (sym (is_err (c.in_err-image.field-0.0) c.from_residual-in_err-image.result c.from_residual-in_err-image.ensures.1)) (content_elsewhere c.in_err-image.field-0.0 c.in_err-image.ensures.content)) (subst (λ n. Asks IsOk (g.F.Files.requests c.args.files.now) (g.F.Files.requests c.read_file.new.files) (Read n ∷ []) c.read_file.result) c.as_str.ensures.value c.read_file.ensures.asked)

pub returns-clause-asked : goal.returns-clause-asked
returns-clause-asked g c =
    ends_asks IsOk IsNotOfFiles (g.F.Files.requests c.args.files.now) (g.F.Files.requests c.read_file.new.files) (entry_want (entry_view c.args.line.now) ∷ []) c.in_ok-bytes.bytes c.read_file.result (Ok c.in_ok-image.image) c.in_ok-bytes.was tt (subst (λ n. Asks IsOk (g.F.Files.requests c.args.files.now) (g.F.Files.requests c.read_file.new.files) (Read n ∷ []) c.read_file.result) c.as_str.ensures.value c.read_file.ensures.asked)
