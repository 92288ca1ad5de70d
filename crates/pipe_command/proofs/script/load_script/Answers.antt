use Rattle.std.proofs.Common.{refl, ap, le_refl}
use Rattle.std.proofs.lemmas.Result.{IfOk-from_err}
use Rattle.command_answers.proofs.Reading.{is_err}
use Rattle.pipe_command.proofs.Passed.{file_before, never_file, ok_not_file, by_files, of_content, content_not_file, refuses_then, refuses_as}
use Rattle.pipe_command.proofs.Causes.{refusal_answers}
use Rattle.command_answers.specs.Answer.{IsFileAnswer}
use Rattle.command_answers.proofs.Held.{whatever_held}
use Rattle.pipe_command.specs.Pipes.{entries_of, map_alone, script_loaded, read_as}
use Rattle.pipe_command.specs.View.{script_in}
use Rattle.std.specs.Prelude.{[], ◌∷◌}
use Rattle.std.proofs.Common.{subst, sym, Ok, Err}
use Rattle.std.proofs.Common.{◌∙◌}
use Rattle.command_answers.specs.Requests.{Asks, IsNotOfFiles}
use Rattle.pipe_script.specs.Script.{script_of}
use Rattle.pipe_script.specs.View.{entries_view}
use Rattle.pipe_command.specs.Pipes.{entry_want, lines_wants, entries_wants}
use Rattle.command_answers.proofs.Asks.{nothing_asks, fails_anyhow, ends_asks}
use Rattle.pipe_command.proofs.Requested.{content_elsewhere}
use Rattle.pipe_command.proofs.script.load_script.Goals as goal

pub returns-in_err-entries-clause-failed : goal.returns-in_err-entries-clause-failed
returns-in_err-entries-clause-failed g c = λ e. absurd (content_not_file c.in_err-entries.field-0.0 c.from_residual.result (is_err c.in_err-entries.field-0.0 c.from_residual.result c.from_residual.ensures.1) c.in_err-entries.ensures.content e)

pub returns-in_err-entries-clause-reads : goal.returns-in_err-entries-clause-reads
returns-in_err-entries-clause-reads g c = λ s. never_file (g.F.Files.held c.args.files.now) _ c.from_residual.result (content_not_file c.in_err-entries.field-0.0 c.from_residual.result (is_err c.in_err-entries.field-0.0 c.from_residual.result c.from_residual.ensures.1) c.in_err-entries.ensures.content)

pub returns-in_err-entries-clause-few : goal.returns-in_err-entries-clause-few
returns-in_err-entries-clause-few g c = IfOk-from_err _ _ c.from_residual.ensures.0

pub returns-in_err-entries-clause-fits : goal.returns-in_err-entries-clause-fits
returns-in_err-entries-clause-fits g c = IfOk-from_err _ _ c.from_residual.ensures.0

pub returns-in_err-entries-clause-of_files : goal.returns-in_err-entries-clause-of_files
returns-in_err-entries-clause-of_files g c = by_files c.in_err-entries.field-0.0 c.from_residual.result c.from_residual.ensures.1 (of_content c.in_err-entries.field-0.0 c.in_err-entries.ensures.content)

pub returns-in_err-entries-clause-held : goal.returns-in_err-entries-clause-held
returns-in_err-entries-clause-held g c = refl

pub returns-in_err-map-clause-failed : goal.returns-in_err-map-clause-failed
returns-in_err-map-clause-failed g c = λ e. absurd (content_not_file c.in_err-map.field-0.0 c.from_residual-in_err-map.result (is_err c.in_err-map.field-0.0 c.from_residual-in_err-map.result c.from_residual-in_err-map.ensures.1) c.in_err-map.ensures.content e)

pub returns-in_err-map-clause-reads : goal.returns-in_err-map-clause-reads
returns-in_err-map-clause-reads g c = λ s. never_file (g.F.Files.held c.args.files.now) _ c.from_residual-in_err-map.result (content_not_file c.in_err-map.field-0.0 c.from_residual-in_err-map.result (is_err c.in_err-map.field-0.0 c.from_residual-in_err-map.result c.from_residual-in_err-map.ensures.1) c.in_err-map.ensures.content)

pub returns-in_err-map-clause-few : goal.returns-in_err-map-clause-few
returns-in_err-map-clause-few g c = IfOk-from_err _ _ c.from_residual-in_err-map.ensures.0

pub returns-in_err-map-clause-fits : goal.returns-in_err-map-clause-fits
returns-in_err-map-clause-fits g c = IfOk-from_err _ _ c.from_residual-in_err-map.ensures.0

pub returns-in_err-map-clause-of_files : goal.returns-in_err-map-clause-of_files
returns-in_err-map-clause-of_files g c = by_files c.in_err-map.field-0.0 c.from_residual-in_err-map.result c.from_residual-in_err-map.ensures.1 (of_content c.in_err-map.field-0.0 c.in_err-map.ensures.content)

pub returns-in_err-map-clause-held : goal.returns-in_err-map-clause-held
returns-in_err-map-clause-held g c = refl

pub returns-in_err-lines-clause-held : goal.returns-in_err-lines-clause-held
returns-in_err-lines-clause-held g c = c.load_lines.ensures.held

pub returns-in_err-lines-clause-later : goal.returns-in_err-lines-clause-later
returns-in_err-lines-clause-later g c = c.load_lines.ensures.later

pub returns-in_err-lines-clause-failed : goal.returns-in_err-lines-clause-failed
returns-in_err-lines-clause-failed g c = λ e. c.load_lines.ensures.failed (file_before c.in_err-lines.field-0.0 c.load_lines.result c.from_residual-in_err-lines.result c.in_err-lines.was (is_err c.in_err-lines.field-0.0 c.from_residual-in_err-lines.result c.from_residual-in_err-lines.ensures.1) e)

pub returns-in_err-lines-clause-few : goal.returns-in_err-lines-clause-few
returns-in_err-lines-clause-few g c = IfOk-from_err _ _ c.from_residual-in_err-lines.ensures.0

pub returns-in_err-lines-clause-fits : goal.returns-in_err-lines-clause-fits
returns-in_err-lines-clause-fits g c = IfOk-from_err _ _ c.from_residual-in_err-lines.ensures.0

pub returns-in_err-lines-clause-of_files : goal.returns-in_err-lines-clause-of_files
returns-in_err-lines-clause-of_files g c = by_files c.in_err-lines.field-0.0 c.from_residual-in_err-lines.result c.from_residual-in_err-lines.ensures.1 c.in_err-lines.ensures.of_files

pub returns-clause-held : goal.returns-clause-held
returns-clause-held g c = c.load_lines.ensures.held

pub returns-clause-later : goal.returns-clause-later
returns-clause-later g c = c.load_lines.ensures.later

pub returns-clause-failed : goal.returns-clause-failed
returns-clause-failed g c = λ e. absurd (ok_not_file _ e)

pub returns-clause-reads : goal.returns-clause-reads
returns-clause-reads g c = λ s. never_file (g.F.Files.held c.args.files.now) _ _ (ok_not_file _)

pub returns-clause-of_files : goal.returns-clause-of_files
returns-clause-of_files g c = tt

pub returns-clause-few : goal.returns-clause-few
returns-clause-few g c = c.in_ok-map.ensures.few

pub returns-in_err-entries-clause-later : goal.returns-in_err-entries-clause-later
returns-in_err-entries-clause-later g c = le_refl (g.F.Files.faults c.args.files.now)

pub returns-in_err-map-clause-later : goal.returns-in_err-map-clause-later
returns-in_err-map-clause-later g c = le_refl (g.F.Files.faults c.args.files.now)

pub returns-in_err-entries-clause-answer : goal.returns-in_err-entries-clause-answer
returns-in_err-entries-clause-answer g c =
    whatever_held (g.F.Files.held c.args.files.now) (λ h. IsFileAnswer (g.F.Files.faults c.args.files.now) (g.F.Files.faults c.args.files.now) (script_loaded h c.args.script.now c.args.map.now) (script_in c.from_residual.result))
    (λ h. refusal_answers (g.F.Files.faults c.args.files.now) (g.F.Files.faults c.args.files.now) (script_loaded h c.args.script.now c.args.map.now) (script_in c.from_residual.result) c.in_err-entries.field-0.0 (ap script_in (is_err c.in_err-entries.field-0.0 c.from_residual.result c.from_residual.ensures.1))
    (refuses_then (entries_of c.args.script.now) _ c.in_err-entries.field-0.0 c.in_err-entries.ensures.refusal))

pub returns-in_err-map-clause-answer : goal.returns-in_err-map-clause-answer
returns-in_err-map-clause-answer g c =
    whatever_held (g.F.Files.held c.args.files.now) (λ h. IsFileAnswer (g.F.Files.faults c.args.files.now) (g.F.Files.faults c.args.files.now) (script_loaded h c.args.script.now c.args.map.now) (script_in c.from_residual-in_err-map.result))
    (λ h. refusal_answers (g.F.Files.faults c.args.files.now) (g.F.Files.faults c.args.files.now) (script_loaded h c.args.script.now c.args.map.now) (script_in c.from_residual-in_err-map.result) c.in_err-map.field-0.0 (ap script_in (is_err c.in_err-map.field-0.0 c.from_residual-in_err-map.result c.from_residual-in_err-map.ensures.1))
    (refuses_as (entries_of c.args.script.now) _ _ c.in_err-map.field-0.0 (ap read_as c.in_ok-entries.ensures.entries) (refuses_then (map_alone c.args.map.now) _ c.in_err-map.field-0.0 c.in_err-map.ensures.refusal)))

pub returns-in_err-entries-clause-asked : goal.returns-in_err-entries-clause-asked
returns-in_err-entries-clause-asked g c =
    nothing_asks (g.F.Files.requests c.args.files.now) (entries_wants (script_of c.args.script.now)) c.in_err-entries.field-0.0 c.from_residual.result (content_elsewhere c.in_err-entries.field-0.0 c.in_err-entries.ensures.content) (is_err (c.in_err-entries.field-0.0) c.from_residual.result c.from_residual.ensures.1)

pub returns-in_err-map-clause-asked : goal.returns-in_err-map-clause-asked
returns-in_err-map-clause-asked g c =
    nothing_asks (g.F.Files.requests c.args.files.now) (entries_wants (script_of c.args.script.now)) c.in_err-map.field-0.0 c.from_residual-in_err-map.result (content_elsewhere c.in_err-map.field-0.0 c.in_err-map.ensures.content) (is_err (c.in_err-map.field-0.0) c.from_residual-in_err-map.result c.from_residual-in_err-map.ensures.1)

pub returns-in_err-lines-clause-asked : goal.returns-in_err-lines-clause-asked
returns-in_err-lines-clause-asked g c =
    fails_anyhow (g.F.Files.requests c.args.files.now) (g.F.Files.requests c.load_lines.new.files) (entries_wants (script_of c.args.script.now)) c.in_err-lines.field-0.0 c.load_lines.result c.from_residual-in_err-lines.result
    c.in_err-lines.was (is_err (c.in_err-lines.field-0.0) c.from_residual-in_err-lines.result c.from_residual-in_err-lines.ensures.1)
    (subst (λ w. Asks IsNotOfFiles (g.F.Files.requests c.args.files.now) (g.F.Files.requests c.load_lines.new.files) w c.load_lines.result) (ap (λ v. lines_wants (entries_view v)) c.deref.ensures.value ∙ ap entries_wants (sym c.in_ok-entries.ensures.entries)) c.load_lines.ensures.asked)

pub returns-clause-asked : goal.returns-clause-asked
returns-clause-asked g c =
    ends_asks IsNotOfFiles IsNotOfFiles (g.F.Files.requests c.args.files.now) (g.F.Files.requests c.load_lines.new.files) (entries_wants (script_of c.args.script.now)) c.in_ok-lines.lines c.load_lines.result _ c.in_ok-lines.was tt
    (subst (λ w. Asks IsNotOfFiles (g.F.Files.requests c.args.files.now) (g.F.Files.requests c.load_lines.new.files) w c.load_lines.result) (ap (λ v. lines_wants (entries_view v)) c.deref.ensures.value ∙ ap entries_wants (sym c.in_ok-entries.ensures.entries)) c.load_lines.ensures.asked)
