use Rattle.loop_form.specs.View.{program}
use Rattle.loop_form.proofs.PlaceLaws.{place-value, value-places-length}
use Rattle.loop_form.proofs.laws.placed_values.Goals as goal

pub returns : goal.returns
returns c = record {
  len = value-places-length (program c.args.kernel.now) c.args.class;
  placed = place-value (program c.args.kernel.now) c.args.class;
}
