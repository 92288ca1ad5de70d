use Rattle.std.proofs.Common.{◌≡◌, ◌≤◌, drop}
use Rattle.std.specs.Prelude.{IsTrue}
use Rattle.std.specs.List.{AllByRecursion}
use Rattle.pipe_script.specs.View.{entries_view}
use Rattle.pipe_command.specs.View.{lines_view, IsFitting}
use Rattle.pipe_command.proofs.LoadedLines.{SoFar, StillHeld}
use Rattle.pipe_command.proofs.Requested.{AsksSoFar}
use Rattle.pipe_command.proofs.lines.load_lines.Given as goal

abbrev pub invariant-loop-line : goal.invariant-loop-line
invariant-loop-line g l = record {
  so : SoFar (g.F.Files.held l.initial.files) l.map.pages.items (lines_view l.loaded.items) (entries_view (drop l.line-index l.lines)) (entries_view l.lines);
  held : g.F.Files.held l.files ≡ g.F.Files.held l.initial.files;
  later : g.F.Files.faults l.initial.files ≤ g.F.Files.faults l.files;
  steady : IsTrue (g.F.Files.steady l.initial.files) → IsTrue (g.F.Files.steady l.files);
  reads : StillHeld (g.F.Files.held l.initial.files) (entries_view (drop l.line-index l.lines)) (entries_view l.lines);
  fits : AllByRecursion (IsFitting l.map.pages.items) (lines_view l.loaded.items);
  asks : AsksSoFar (g.F.Files.requests l.initial.files) (g.F.Files.requests l.files) (entries_view (drop l.line-index l.lines)) (entries_view l.lines);
}
