use Rattle.std.proofs.Common.{ap, ◌∙◌}
use Rattle.std.proofs.Math.Logic.{∥∥₁_elim}
use Rattle.std.proofs.Props.{props}
use Rattle.std.specs.List.{find}
use Rattle.loop_form.specs.Needs.{updates}
use Rattle.loop_form.specs.View.{entries_view}
use Rattle.chunk_emit.specs.KernelLayout.{operator_of}
use Rattle.reductions.proofs.accumulators.first_operator.Goals as goal

pub returns : goal.returns
returns c =
    let name = c.args.name.now in
    let among = c.operator_among.ensures ∙ ap (λ es. operator_of (find (updates name) (entries_view es))) c.deref.ensures.value in
    ∥∥₁_elim c.args.facts.now.looped (hlevel props) (λ looped. among ∙ ap (λ es. operator_of (find (updates name) es)) looped)
