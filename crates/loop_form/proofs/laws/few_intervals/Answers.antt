use Rattle.std.proofs.Common.{arith}
use Rattle.loop_form.specs.View.{program}
use Rattle.kernel_tree.specs.Plain.{program_of}
use Rattle.kernel_tree.specs.Checked.{kernel_of}
use Rattle.loop_form.proofs.FewItems.{size-small, params-few, vars-few}
use Rattle.loop_form.proofs.IntervalLaws.{counted-few, throughout-few}
use Rattle.loop_form.proofs.laws.few_intervals.Goals as goal

pub returns : goal.returns
unfolding program
returns c =
    let t = throughout-few (program_of (kernel_of c.args.kernel.now)) c.args.class in
    let n = counted-few (program_of (kernel_of c.args.kernel.now)) c.args.class in
    let s = size-small (program_of (kernel_of c.args.kernel.now)) c.args.kernel.now.typed in
    let p = params-few (program_of (kernel_of c.args.kernel.now)) c.args.kernel.now.typed in
    let v = vars-few (program_of (kernel_of c.args.kernel.now)) c.args.kernel.now.typed in
    omega (arith, t, n, s, p, v)
