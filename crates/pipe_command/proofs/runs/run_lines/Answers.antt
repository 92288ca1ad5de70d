use Rattle.std.proofs.Common.{◌+◌, refl, ap, sym, ◌∙◌, subst, drop, arith}
use Rattle.std.specs.List.{AllByRecursion}
use Rattle.std.proofs.lemmas.List.{drop_all}
use Rattle.machine_model.specs.Run.{memory_left}
use Rattle.pipe_command.specs.Pipes.{line_run}
use Rattle.pipe_command.specs.View.{line_view, lines_view, IsFitting}
use Rattle.pipe_command.proofs.LoadedLines.{next_is}
use Rattle.pipe_command.proofs.LineRuns.{SoFar, line_ran, all_ran, last_ran, all_fit}
use Rattle.pipe_command.proofs.runs.run_lines.Goals as goal

pub returns-then-is_last-clause-done : goal.returns-then-is_last-clause-done
returns-then-is_last-clause-done c =
    let line = line_view c.index-lines-index.result in
    let left = lines_view (drop (c.loop-index.index + 1) c.args.lines.now) in
    let now = c.loop-index.pages.memory in
    let all = lines_view c.args.lines.now in
    let first = c.args.pages.now.memory in
    let so = subst (λ l. SoFar c.loop-index.text.items (c.loop-index.index + 1) (lines_view l) now all first c.args.vl c.args.steps) (next_is c.args.lines.now c.loop-index.index c.index-lines-index.result (omega arith) c.index-lines-index.is) c.loop-index.invariant.so in
    (last_ran c.loop-index.text.items c.run_one.new.text.items (c.loop-index.index + 1) line left now c.run_one.new.pages.memory all first c.args.vl c.args.steps c.in_ok-done.done
    so c.in_ok-done.ensures.done (c.if-is_last.ensures.last refl) c.in_ok-done.ensures.text c.in_ok-done.ensures.left).done

pub returns-then-is_last-clause-text : goal.returns-then-is_last-clause-text
returns-then-is_last-clause-text c =
    let line = line_view c.index-lines-index.result in
    let left = lines_view (drop (c.loop-index.index + 1) c.args.lines.now) in
    let now = c.loop-index.pages.memory in
    let all = lines_view c.args.lines.now in
    let first = c.args.pages.now.memory in
    let so = subst (λ l. SoFar c.loop-index.text.items (c.loop-index.index + 1) (lines_view l) now all first c.args.vl c.args.steps) (next_is c.args.lines.now c.loop-index.index c.index-lines-index.result (omega arith) c.index-lines-index.is) c.loop-index.invariant.so in
    (last_ran c.loop-index.text.items c.run_one.new.text.items (c.loop-index.index + 1) line left now c.run_one.new.pages.memory all first c.args.vl c.args.steps c.in_ok-done.done
    so c.in_ok-done.ensures.done (c.if-is_last.ensures.last refl) c.in_ok-done.ensures.text c.in_ok-done.ensures.left).told

pub returns-then-is_last-clause-left : goal.returns-then-is_last-clause-left
returns-then-is_last-clause-left c =
    let line = line_view c.index-lines-index.result in
    let left = lines_view (drop (c.loop-index.index + 1) c.args.lines.now) in
    let now = c.loop-index.pages.memory in
    let all = lines_view c.args.lines.now in
    let first = c.args.pages.now.memory in
    let so = subst (λ l. SoFar c.loop-index.text.items (c.loop-index.index + 1) (lines_view l) now all first c.args.vl c.args.steps) (next_is c.args.lines.now c.loop-index.index c.index-lines-index.result (omega arith) c.index-lines-index.is) c.loop-index.invariant.so in
    (last_ran c.loop-index.text.items c.run_one.new.text.items (c.loop-index.index + 1) line left now c.run_one.new.pages.memory all first c.args.vl c.args.steps c.in_ok-done.done
    so c.in_ok-done.ensures.done (c.if-is_last.ensures.last refl) c.in_ok-done.ensures.text c.in_ok-done.ensures.left).pages

pub loop-index-preserved : goal.loop-index-preserved
loop-index-preserved c =
    let line = line_view c.index-lines-index.result in
    let left = lines_view (drop (c.loop-index.index + 1) c.args.lines.now) in
    let now = c.loop-index.pages.memory in
    let all = lines_view c.args.lines.now in
    let first = c.args.pages.now.memory in
    let so = subst (λ l. SoFar c.loop-index.text.items (c.loop-index.index + 1) (lines_view l) now all first c.args.vl c.args.steps) (next_is c.args.lines.now c.loop-index.index c.index-lines-index.result (omega arith) c.index-lines-index.is) c.loop-index.invariant.so in
    let outcome = line_run line now c.args.vl c.args.steps in
    let fits = subst (λ l. AllByRecursion (IsFitting now) (lines_view l)) (next_is c.args.lines.now c.loop-index.index c.index-lines-index.result (omega arith) c.index-lines-index.is) c.loop-index.invariant.fits in
    record {
      so =
          line_ran c.loop-index.text.items c.run_one.new.text.items (c.loop-index.index + 1) line left now c.run_one.new.pages.memory all first c.args.vl c.args.steps
          so (sym c.in_ok-done.ensures.done ∙ c.if-is_last.ensures.goes_on refl) c.in_ok-done.ensures.text c.in_ok-done.ensures.left;
      fits = subst (λ pages. AllByRecursion (IsFitting pages) left) (sym c.in_ok-done.ensures.left) (all_fit (memory_left outcome) now left fits.1);
    }

pub returns-clause-done : goal.returns-clause-done
returns-clause-done c =
    (all_ran c.loop-index.text.items (c.loop-index.index + 1) (lines_view (drop c.loop-index.index c.args.lines.now)) c.loop-index.pages.memory (lines_view c.args.lines.now) c.args.pages.now.memory c.args.vl c.args.steps
    c.loop-index.invariant.so (ap lines_view (drop_all c.loop-index.index c.args.lines.now (omega arith)))).done

pub returns-clause-text : goal.returns-clause-text
returns-clause-text c =
    (all_ran c.loop-index.text.items (c.loop-index.index + 1) (lines_view (drop c.loop-index.index c.args.lines.now)) c.loop-index.pages.memory (lines_view c.args.lines.now) c.args.pages.now.memory c.args.vl c.args.steps
    c.loop-index.invariant.so (ap lines_view (drop_all c.loop-index.index c.args.lines.now (omega arith)))).told

pub returns-clause-left : goal.returns-clause-left
returns-clause-left c =
    (all_ran c.loop-index.text.items (c.loop-index.index + 1) (lines_view (drop c.loop-index.index c.args.lines.now)) c.loop-index.pages.memory (lines_view c.args.lines.now) c.args.pages.now.memory c.args.vl c.args.steps
    c.loop-index.invariant.so (ap lines_view (drop_all c.loop-index.index c.args.lines.now (omega arith)))).pages
