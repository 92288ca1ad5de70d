use Rattle.std.proofs.Common.{ap, ◌∙◌, Ok, [], ◌∷◌, ◌++◌, inl, inr, refl, sym, subst, Err}
use Rattle.pipe_script.specs.View.{entry_view}
use Rattle.pipe_command.specs.View.{plain_in, lines_view, lines_by, IsFitting}
use Rattle.pipe_command.proofs.LoadedLines.{line_added}
use Rattle.pipe_command.proofs.Passed.{file_before, reads_before, never_file, ok_not_file, memory_not_file, by_files, fits_more}
use Rattle.command_answers.proofs.Reading.{is_err, stops_there}
use Rattle.std.specs.List.{AllByRecursion}
use Rattle.guest_types.proofs.Errors.{on_error}
use Rattle.refusals.specs.declared.refusal.Refusal.TheVariants.{Memory}
use Rattle.command_answers.specs.Answer.{IsFileAnswer}
use Rattle.command_answers.proofs.Held.{whatever_held}
use Rattle.pipe_command.specs.Pipes.{image_of, with_line}
use Rattle.command_answers.specs.Requests.{IsNotOfFiles}
use Rattle.pipe_command.specs.Pipes.{entry_want}
use Rattle.command_answers.proofs.Asks.{fails_anyhow, ends_asks}
use Rattle.pipe_command.proofs.lines.load_line.Goals as goal

pub returns-clause-answer : goal.returns-clause-answer
returns-clause-answer g c =
    line_added (g.F.Files.faults c.args.files.now) (g.F.Files.faults c.image_of.new.files) (g.F.Files.held c.args.files.now) c.args.map.now.pages.items
    c.args.loaded.now.items c.push.new.self.items _ (entry_view c.args.line.now) (plain_in c.image_of.result)
    (ap plain_in c.in_ok-image.was) (c.in_ok-args.ensures.items ∙ c.deref.ensures.value) c.image_of.ensures.answer c.in-Ok.ensures.items

pub returns-in_err-image-clause-held : goal.returns-in_err-image-clause-held
returns-in_err-image-clause-held g c = c.image_of.ensures.held

pub returns-in_err-image-clause-later : goal.returns-in_err-image-clause-later
returns-in_err-image-clause-later g c = c.image_of.ensures.later

pub returns-in_err-image-clause-failed : goal.returns-in_err-image-clause-failed
returns-in_err-image-clause-failed g c = λ e. c.image_of.ensures.failed (file_before c.in_err-image.field-0.0 c.image_of.result c.from_residual.result c.in_err-image.was (is_err c.in_err-image.field-0.0 c.from_residual.result c.from_residual.ensures.1) e)

pub returns-in_err-image-clause-reads : goal.returns-in_err-image-clause-reads
returns-in_err-image-clause-reads g c = λ s. reads_before (g.F.Files.held c.args.files.now) _ c.in_err-image.field-0.0 c.image_of.result c.from_residual.result c.in_err-image.was (is_err c.in_err-image.field-0.0 c.from_residual.result c.from_residual.ensures.1) (c.image_of.ensures.reads s)

pub returns-in_err-image-clause-steady : goal.returns-in_err-image-clause-steady
returns-in_err-image-clause-steady g c = c.image_of.ensures.steady

pub returns-in_err-image-clause-fits : goal.returns-in_err-image-clause-fits
returns-in_err-image-clause-fits g c = on_error _ _ c.from_residual.ensures.0

pub returns-in_err-image-clause-of_files : goal.returns-in_err-image-clause-of_files
returns-in_err-image-clause-of_files g c = by_files c.in_err-image.field-0.0 c.from_residual.result c.from_residual.ensures.1 c.in_err-image.ensures.of_files

pub returns-in_err-args-clause-held : goal.returns-in_err-args-clause-held
returns-in_err-args-clause-held g c = c.image_of.ensures.held

pub returns-in_err-args-clause-later : goal.returns-in_err-args-clause-later
returns-in_err-args-clause-later g c = c.image_of.ensures.later

pub returns-in_err-args-clause-steady : goal.returns-in_err-args-clause-steady
returns-in_err-args-clause-steady g c = c.image_of.ensures.steady

pub returns-in_default-clause-held : goal.returns-in_default-clause-held
returns-in_default-clause-held g c = c.image_of.ensures.held

pub returns-in_default-clause-later : goal.returns-in_default-clause-later
returns-in_default-clause-later g c = c.image_of.ensures.later

pub returns-in_default-clause-steady : goal.returns-in_default-clause-steady
returns-in_default-clause-steady g c = c.image_of.ensures.steady

pub returns-in_err-args-clause-fits : goal.returns-in_err-args-clause-fits
returns-in_err-args-clause-fits g c = on_error _ _ c.from_residual-in_err-args.ensures.0

pub returns-in_default-clause-failed : goal.returns-in_default-clause-failed
returns-in_default-clause-failed g c = λ e. absurd (memory_not_file e)

pub returns-in_default-clause-reads : goal.returns-in_default-clause-reads
returns-in_default-clause-reads g c = λ s. never_file (g.F.Files.held c.args.files.now) _ _ memory_not_file

pub returns-in_default-clause-fits : goal.returns-in_default-clause-fits
returns-in_default-clause-fits g c = tt

pub returns-in_default-clause-of_files : goal.returns-in_default-clause-of_files
returns-in_default-clause-of_files g c = tt

pub returns-clause-held : goal.returns-clause-held
returns-clause-held g c = c.image_of.ensures.held

pub returns-clause-later : goal.returns-clause-later
returns-clause-later g c = c.image_of.ensures.later

pub returns-clause-steady : goal.returns-clause-steady
returns-clause-steady g c = c.image_of.ensures.steady

pub returns-clause-failed : goal.returns-clause-failed
returns-clause-failed g c = λ e. absurd (ok_not_file tt e)

pub returns-clause-reads : goal.returns-clause-reads
returns-clause-reads g c = λ s. never_file (g.F.Files.held c.args.files.now) _ _ (ok_not_file tt)

pub returns-clause-of_files : goal.returns-clause-of_files
returns-clause-of_files g c = tt

pub returns-in_err-image-clause-answer : goal.returns-in_err-image-clause-answer
returns-in_err-image-clause-answer g c =
    let pages = c.args.map.now.pages.items in
    let before = lines_view c.args.loaded.now.items in
    let entry = entry_view c.args.line.now in
    stops_there (g.F.Files.faults c.args.files.now) (g.F.Files.faults c.image_of.new.files) (g.F.Files.held c.args.files.now) (λ h. image_of h pages entry) (plain_in c.image_of.result) (λ h image. Ok (before ++ record { image = image; args = entry.args } ∷ [])) c.in_err-image.field-0.0 (lines_by before c.from_residual.result)
    (ap plain_in c.in_err-image.was) (ap (lines_by before) (is_err c.in_err-image.field-0.0 c.from_residual.result c.from_residual.ensures.1)) c.image_of.ensures.answer

pub returns-in_err-args-clause-answer : goal.returns-in_err-args-clause-answer
returns-in_err-args-clause-answer g c =
    let pages = c.args.map.now.pages.items in
    let before = lines_view c.args.loaded.now.items in
    let entry = entry_view c.args.line.now in
    whatever_held (g.F.Files.held c.args.files.now) (λ h. IsFileAnswer (g.F.Files.faults c.args.files.now) (g.F.Files.faults c.image_of.new.files) (with_line h pages before entry) (lines_by before c.from_residual-in_err-args.result)) (λ h. inr (inl (ap (lines_by before) (is_err Memory c.from_residual-in_err-args.result c.from_residual-in_err-args.ensures.1))))

pub returns-in_err-args-clause-failed : goal.returns-in_err-args-clause-failed
returns-in_err-args-clause-failed g c = λ e. absurd (memory_not_file (sym (is_err Memory c.from_residual-in_err-args.result c.from_residual-in_err-args.ensures.1) ∙ e))

pub returns-in_err-args-clause-reads : goal.returns-in_err-args-clause-reads
returns-in_err-args-clause-reads g c = λ s. never_file (g.F.Files.held c.args.files.now) _ c.from_residual-in_err-args.result (λ e. memory_not_file (sym (is_err Memory c.from_residual-in_err-args.result c.from_residual-in_err-args.ensures.1) ∙ e))

pub returns-in_err-args-clause-of_files : goal.returns-in_err-args-clause-of_files
returns-in_err-args-clause-of_files g c = by_files Memory c.from_residual-in_err-args.result c.from_residual-in_err-args.ensures.1 tt

pub returns-in_default-clause-answer : goal.returns-in_default-clause-answer
returns-in_default-clause-answer g c =
    let pages = c.args.map.now.pages.items in
    let before = lines_view c.args.loaded.now.items in
    let entry = entry_view c.args.line.now in
    whatever_held (g.F.Files.held c.args.files.now) (λ h. IsFileAnswer (g.F.Files.faults c.args.files.now) (g.F.Files.faults c.image_of.new.files) (with_line h pages before entry) (Err Memory)) (λ h. inr (inl refl))

pub returns-clause-fits : goal.returns-clause-fits
returns-clause-fits g c = λ all. subst (λ ls. AllByRecursion (IsFitting c.args.map.now.pages.items) (lines_view ls)) (sym c.in-Ok.ensures.items) (fits_more c.args.map.now.pages.items c.args.loaded.now.items _ c.in_ok-image.ensures.fits all)

pub returns-in_err-image-clause-asked : goal.returns-in_err-image-clause-asked
returns-in_err-image-clause-asked g c =
    fails_anyhow (g.F.Files.requests c.args.files.now) (g.F.Files.requests c.image_of.new.files) (entry_want (entry_view c.args.line.now) ∷ []) c.in_err-image.field-0.0 c.image_of.result c.from_residual.result
    c.in_err-image.was (is_err (c.in_err-image.field-0.0) c.from_residual.result c.from_residual.ensures.1) c.image_of.ensures.asked

pub returns-in_err-args-clause-asked : goal.returns-in_err-args-clause-asked
returns-in_err-args-clause-asked g c =
    ends_asks IsNotOfFiles IsNotOfFiles (g.F.Files.requests c.args.files.now) (g.F.Files.requests c.image_of.new.files) (entry_want (entry_view c.args.line.now) ∷ []) c.in_ok-image.image c.image_of.result c.from_residual-in_err-args.result
    c.in_ok-image.was (subst IsNotOfFiles (sym (is_err (Memory) c.from_residual-in_err-args.result c.from_residual-in_err-args.ensures.1)) tt) c.image_of.ensures.asked

pub returns-in_default-clause-asked : goal.returns-in_default-clause-asked
returns-in_default-clause-asked g c =
    ends_asks IsNotOfFiles IsNotOfFiles (g.F.Files.requests c.args.files.now) (g.F.Files.requests c.image_of.new.files) (entry_want (entry_view c.args.line.now) ∷ []) c.in_ok-image.image c.image_of.result (Err Memory) c.in_ok-image.was tt c.image_of.ensures.asked

pub returns-clause-asked : goal.returns-clause-asked
returns-clause-asked g c =
    ends_asks IsNotOfFiles IsNotOfFiles (g.F.Files.requests c.args.files.now) (g.F.Files.requests c.image_of.new.files) (entry_want (entry_view c.args.line.now) ∷ []) c.in_ok-image.image c.image_of.result (Ok tt) c.in_ok-image.was tt c.image_of.ensures.asked
