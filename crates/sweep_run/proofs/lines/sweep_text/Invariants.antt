use Rattle.std.proofs.Common.{◌≡◌}
use Rattle.sweep_run.proofs.SweepLines.{lines_before}
use Rattle.sweep_run.proofs.lines.sweep_text.Given as goal

abbrev pub invariant-loop-place : goal.invariant-loop-place
invariant-loop-place l = l.text.items ≡ lines_before l.fn.number l.fn.file l.place
