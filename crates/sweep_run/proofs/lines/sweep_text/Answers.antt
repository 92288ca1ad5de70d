use Rattle.std.proofs.Common.{◌≡◌, sym, ap, subst, ◌∙◌, arith}
use Rattle.guest_types.specs.Memory.{DoNotMeet}
use Rattle.elf_image.specs.Loaded.{plain}
use Rattle.sweep_run.proofs.SweepLines.{lines_before, lines_none, lines_all, put_line}
use Rattle.sweep_run.proofs.lines.sweep_text.Goals as goal

pub machine_of-requires-clause-apart : goal.machine_of-requires-clause-apart
machine_of-requires-clause-apart c = subst (DoNotMeet c.in_ok-image.image.pages.items) (sym c.in_ok-map.ensures.pages) c.in_ok-image.ensures.apart

pub machine_of-requires-clause-few : goal.machine_of-requires-clause-few
machine_of-requires-clause-few c = omega (arith, c.in_ok-image.ensures.few, c.in_ok-map.ensures.count)

pub loop-place-init : goal.loop-place-init
loop-place-init c = c.new-text.ensures.items ∙ sym (lines_none c.args.number c.args.file.now)

pub loop-place-preserved : goal.loop-place-preserved
loop-place-preserved c =
    put_line c.args.number c.args.file.now c.loop-place.text.items c.push_run.new.text.items c.loop-place.place c.length_at-vl.result
    (plain c.in_ok-image.image) c.in_ok-map.map.pages.items c.in_ok-machine.machine.state
    c.in_ok-image.ensures.lines c.in_ok-map.ensures.pages c.length_at-vl.ensures c.in_ok-machine.ensures.state c.loop-place.invariant c.in_ok-push_run.ensures

pub returns : goal.returns
returns c =
    let all : c.loop-place.place ≡ 16 = omega (arith, c.loop-place-test.false, c.loop-place.auto.place-end) in
    c.loop-place.invariant ∙ ap (lines_before c.args.number c.args.file.now) all ∙ lines_all c.args.number c.args.file.now
