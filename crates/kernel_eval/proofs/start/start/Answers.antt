use Rattle.std.proofs.Common.{◌≡◌, ◌+◌, ◌-◌, ◌++◌, map, pos, replicate, length, sym, ap, ◌∙◌, arith}
use Rattle.std.proofs.lemmas.List.{append-nil, length-map}
use Rattle.kernel_tree.specs.Plain.{parameters_of}
use Rattle.kernel_meaning.specs.Eval.{value_of}
use Rattle.kernel_meaning.specs.ScalarRun as running
use Rattle.kernel_plan.specs.Resolve.{most_slots}
use Rattle.kernel_eval.proofs.IterationWalks.{pad_step}
use Rattle.kernel_eval.proofs.start.start.Goals as goal

pub loop-at-init : goal.loop-at-init
loop-at-init c = c.in_ok-slots.ensures ∙ sym (append-nil (map value_of (running.argument_names (parameters_of c.args.params.now) c.args.args.now)))

pub loop-at-preserved : goal.loop-at-preserved
loop-at-preserved c = pad_step (map value_of (running.argument_names (parameters_of c.args.params.now) c.args.args.now)) c.loop-at.slots.items c.push.new.self.items (c.loop-at._at + 1) c.loop-at._at c.loop-at.invariant c.in_ok-push.ensures.items (omega arith)

pub returns : goal.returns
returns c =
    let names = running.argument_names (parameters_of c.args.params.now) c.args.args.now in
    let given : length c.in_ok-slots.slots.items ≡ length names = ap length c.in_ok-slots.ensures ∙ length-map names value_of in
    let n : c.loop-at._at ≡ most_slots - length names = omega arith in
    c.loop-at.invariant ∙ ap (λ k. map value_of names ++ replicate k (pos 0)) n
