use Rattle.loop_form.specs.View.{program}
use Rattle.first_fault.proofs.Spelled.{as_spelled}
use Rattle.first_fault.proofs.Writables.{LoopWritable, loop_writable}
use Rattle.first_fault.proofs.laws.writable_items.Goals as goal

pub returns : goal.returns
unfolding program
returns c =
    let k = c.args.kernel.now in
    let w : LoopWritable (program k) = loop_writable (program k) c.args.regs.now.z c.args.regs.now.p k.typed c.requires.class (λ l e. as_spelled (program k) l k.tree e) c.requires.vectors c.requires.predicates in
    record { region = w.region; rest = w.rest }
