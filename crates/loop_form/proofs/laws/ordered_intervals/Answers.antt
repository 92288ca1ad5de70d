use Rattle.std.proofs.Common.{arith}
use Rattle.loop_form.specs.View.{program}
use Rattle.kernel_tree.specs.Plain.{program_of}
use Rattle.kernel_tree.specs.Checked.{kernel_of}
use Rattle.loop_form.proofs.FewItems.{size-small, params-few, vars-few}
use Rattle.loop_form.proofs.IntervalLaws.{intervals-ascend, intervals-forward, intervals-few, need-overlap}
use Rattle.loop_form.proofs.laws.ordered_intervals.Goals as goal

pub returns : goal.returns
unfolding program
returns c = record {
  ascending = intervals-ascend (program_of (kernel_of c.args.kernel.now)) c.args.class;
  forward = intervals-forward (program_of (kernel_of c.args.kernel.now)) c.args.class;
  few =
      let n = intervals-few (program_of (kernel_of c.args.kernel.now)) c.args.class in
      let s = size-small (program_of (kernel_of c.args.kernel.now)) c.args.kernel.now.typed in
      let p = params-few (program_of (kernel_of c.args.kernel.now)) c.args.kernel.now.typed in
      let v = vars-few (program_of (kernel_of c.args.kernel.now)) c.args.kernel.now.typed in
      omega (arith, n, s, p, v);
  need = need-overlap (program_of (kernel_of c.args.kernel.now)) c.args.class;
}
