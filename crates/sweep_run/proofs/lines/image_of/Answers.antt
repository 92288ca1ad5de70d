use Rattle.elf_image.specs.Loaded.{plain}
use Rattle.sweep_run.proofs.Programs.{apart, few}
use Rattle.sweep_run.proofs.SweepLines.{swept_line_is}
use Rattle.sweep_run.proofs.lines.image_of.Goals as goal

pub returns-in-Ok : goal.returns-in-Ok
returns-in-Ok c = record {
  few = few c.args.number c.args.file.now (plain c.in-Ok.image) c.requires c.in-Ok.ensures.image;
  apart = apart c.sweep_runs_end.ensures c.args.number c.args.file.now (plain c.in-Ok.image) c.requires c.in-Ok.ensures.image;
  lines = λ vl. swept_line_is c.args.number c.args.file.now vl (plain c.in-Ok.image) c.in-Ok.ensures.image;
}
