use Rattle.std.proofs.Common.{◌≢◌, ◌+◌, Ok, Err, refl, ap, ◌∙◌, subst, drop, arith}
use Rattle.std.specs.Prelude.{IfSome, IsSome}
use Rattle.std.proofs.lemmas.List.{drop_all}
use Rattle.io_edges.specs.Files.{content}
use Rattle.pipe_script.specs.View.{entry_view, entries_view}
use Rattle.refusals.specs.declared.refusal.Refusal.TheVariants.{File}
use Rattle.command_answers.specs.Answer.{IsFileAnswer}
use Rattle.command_answers.proofs.Reading.{is_err}
use Rattle.pipe_command.specs.Pipes.{with_line}
use Rattle.pipe_command.specs.View.{lines_view, lines_by, loaded_in}
use Rattle.pipe_command.proofs.Causes.{not_file_either}
use Rattle.pipe_command.proofs.LoadedLines.{SoFar, StillHeld, line_loaded, all_loaded, loading_stops, still_held, next_held, held_map, next_is}
use Rattle.std.specs.Prelude.{[], ◌∷◌}
use Rattle.std.proofs.Common.{sym}
use Rattle.command_answers.specs.Requests.{IsNotOfFiles}
use Rattle.pipe_command.specs.Pipes.{entry_want, lines_wants}
use Rattle.command_answers.proofs.Asks.{fails_anyhow, stops_anywhere, ends_asks}
use Rattle.pipe_command.proofs.Requested.{AsksSoFar, next_asked, all_asked}
use Rattle.pipe_command.proofs.lines.load_lines.Goals as goal

pub returns-in_err-load_line-clause-answer : goal.returns-in_err-load_line-clause-answer
returns-in_err-load_line-clause-answer g c =
    let held = g.F.Files.held c.args.files.now in
    let pages = c.args.map.now.pages.items in
    let before = lines_view c.loop-line.loaded.items in
    let all = entries_view c.args.lines.now in
    let after = lines_view c.load_line.new.loaded.items in
    loading_stops (g.F.Files.faults c.args.files.now) (g.F.Files.faults c.loop-line.files) (g.F.Files.faults c.load_line.new.files) held pages before
    (entry_view c.line-item.result) (entries_view (drop (c.loop-line.line-index + 1) c.args.lines.now)) all (lines_by after c.load_line.result) c.in_err-load_line.field-0.0 (loaded_in c.from_residual.result)
    c.loop-line.invariant.later
    (subst (λ left. SoFar held pages before (entries_view left) all) (next_is c.args.lines.now c.loop-line.line-index c.line-item.result (omega arith) c.line-item.is) c.loop-line.invariant.so)
    (ap (lines_by after) c.in_err-load_line.was) (ap loaded_in (is_err c.in_err-load_line.field-0.0 c.from_residual.result c.from_residual.ensures.1))
    (subst (λ o. IfSome o (λ h. IsFileAnswer (g.F.Files.faults c.loop-line.files) (g.F.Files.faults c.load_line.new.files) (with_line h pages before (entry_view c.line-item.result)) (lines_by after c.load_line.result))) c.loop-line.invariant.held c.load_line.ensures.answer)

pub returns-in_err-load_line-clause-reads : goal.returns-in_err-load_line-clause-reads
returns-in_err-load_line-clause-reads g c = λ s.
    let held = g.F.Files.held c.args.files.now in
    let all = entries_view c.args.lines.now in
    let entry = entry_view c.line-item.result in
    next_held held entry (entries_view (drop (c.loop-line.line-index + 1) c.args.lines.now)) all (c.from_residual.result ≢ Err File)
    (subst (λ left. StillHeld held (entries_view left) all) (next_is c.args.lines.now c.loop-line.line-index c.line-item.result (omega arith) c.line-item.is) c.loop-line.invariant.reads)
    (held_map held (λ h. IsSome (content h entry.file)) (c.load_line.result ≢ Err File) (c.from_residual.result ≢ Err File)
    (not_file_either c.in_err-load_line.field-0.0 c.load_line.result c.from_residual.result c.in_err-load_line.was (is_err c.in_err-load_line.field-0.0 c.from_residual.result c.from_residual.ensures.1))
    (subst (λ o. IfSome o (λ h. IsSome (content h entry.file) → c.load_line.result ≢ Err File)) c.loop-line.invariant.held (c.load_line.ensures.reads (c.loop-line.invariant.steady s))))

pub loop-line-preserved : goal.loop-line-preserved
loop-line-preserved g c =
    let held = g.F.Files.held c.args.files.now in
    let pages = c.args.map.now.pages.items in
    let before = lines_view c.loop-line.loaded.items in
    let all = entries_view c.args.lines.now in
    let after = lines_view c.load_line.new.loaded.items in
    let entry = entry_view c.line-item.result in
    let left = entries_view (drop (c.loop-line.line-index + 1) c.args.lines.now) in
    let next = next_is c.args.lines.now c.loop-line.line-index c.line-item.result (omega arith) c.line-item.is in
    let h = c.loop-line.invariant in
    let more = c.load_line.ensures.later in
    record {
      so =
          line_loaded (g.F.Files.faults c.loop-line.files) (g.F.Files.faults c.load_line.new.files) held pages before after entry left all (lines_by after c.load_line.result)
          (subst (λ l. SoFar held pages before (entries_view l) all) next h.so) (ap (lines_by after) c.in_ok-load_line.was)
          (subst (λ o. IfSome o (λ h. IsFileAnswer (g.F.Files.faults c.loop-line.files) (g.F.Files.faults c.load_line.new.files) (with_line h pages before entry) (lines_by after c.load_line.result))) h.held c.load_line.ensures.answer);
      held = c.load_line.ensures.held ∙ h.held;
      later = omega (arith, h.later, more);
      steady = λ s. c.load_line.ensures.steady (h.steady s);
      reads = still_held held entry left all (subst (λ l. StillHeld held (entries_view l) all) next h.reads);
      fits = c.in_ok-load_line.ensures.fits h.fits;
      asks = next_asked (g.F.Files.requests c.args.files.now) (g.F.Files.requests c.loop-line.files) (g.F.Files.requests c.load_line.new.files) entry left all c.load_line.result
          (subst (λ l. AsksSoFar (g.F.Files.requests c.args.files.now) (g.F.Files.requests c.loop-line.files) (entries_view l) all) next h.asks) c.in_ok-load_line.was c.load_line.ensures.asked;
    }

pub returns-clause-answer : goal.returns-clause-answer
returns-clause-answer g c =
    all_loaded (g.F.Files.faults c.args.files.now) (g.F.Files.faults c.loop-line.files) (g.F.Files.held c.args.files.now) c.args.map.now.pages.items (lines_view c.loop-line.loaded.items)
    (entries_view (drop c.loop-line.line-index c.args.lines.now)) (entries_view c.args.lines.now) (Ok (lines_view c.loop-line.loaded.items))
    c.loop-line.invariant.so (ap entries_view (drop_all c.loop-line.line-index c.args.lines.now (omega arith))) refl

pub returns-in_err-load_line-clause-asked : goal.returns-in_err-load_line-clause-asked
returns-in_err-load_line-clause-asked g c =
    fails_anyhow (g.F.Files.requests c.args.files.now) (g.F.Files.requests c.load_line.new.files) (lines_wants (entries_view c.args.lines.now)) c.in_err-load_line.field-0.0 c.load_line.result c.from_residual.result
    c.in_err-load_line.was (is_err (c.in_err-load_line.field-0.0) c.from_residual.result c.from_residual.ensures.1)
    (subst (λ l. AsksSoFar (g.F.Files.requests c.args.files.now) (g.F.Files.requests c.loop-line.files) (entries_view l) (entries_view c.args.lines.now)) (next_is c.args.lines.now c.loop-line.line-index c.line-item.result (omega arith) c.line-item.is) c.loop-line.invariant.asks (g.F.Files.requests c.load_line.new.files) c.load_line.result
    (stops_anywhere (g.F.Files.requests c.loop-line.files) (g.F.Files.requests c.load_line.new.files) (entry_want (entry_view c.line-item.result) ∷ []) (lines_wants (entries_view (drop (c.loop-line.line-index + 1) c.args.lines.now))) c.in_err-load_line.field-0.0 c.load_line.result c.load_line.result
    c.in_err-load_line.was c.in_err-load_line.was c.load_line.ensures.asked))

pub returns-clause-asked : goal.returns-clause-asked
returns-clause-asked g c =
    ends_asks IsNotOfFiles IsNotOfFiles (g.F.Files.requests c.args.files.now) (g.F.Files.requests c.loop-line.files) (lines_wants (entries_view c.args.lines.now)) tt (Ok tt) (Ok c.loop-line.loaded) refl tt
    (all_asked (g.F.Files.requests c.args.files.now) (g.F.Files.requests c.loop-line.files) (entries_view (drop c.loop-line.line-index c.args.lines.now)) (entries_view c.args.lines.now) c.loop-line.invariant.asks (ap entries_view (drop_all c.loop-line.line-index c.args.lines.now (omega arith))))
