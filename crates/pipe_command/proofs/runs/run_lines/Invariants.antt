use Rattle.std.proofs.Common.{◌+◌, drop}
use Rattle.std.specs.List.{AllByRecursion}
use Rattle.pipe_command.specs.View.{lines_view, IsFitting}
use Rattle.pipe_command.proofs.LineRuns.{SoFar}
use Rattle.pipe_command.proofs.runs.run_lines.Given as goal

abbrev pub invariant-loop-index : goal.invariant-loop-index
invariant-loop-index l = record {
  so : SoFar l.text.items (l.index + 1) (lines_view (drop l.index l.lines)) l.pages.memory (lines_view l.lines) l.initial.pages.memory l.vl l.steps;
  fits : AllByRecursion (IsFitting l.pages.memory) (lines_view (drop l.index l.lines));
}
