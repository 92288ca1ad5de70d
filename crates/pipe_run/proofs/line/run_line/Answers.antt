use Rattle.std.proofs.Common.{◌≡◌, ◌∙◌, ap, ap₂, sym}
use Rattle.elf_image.specs.Loaded.{plain}
use Rattle.guest_types.specs.Memory.{merged}
use Rattle.machine_model.specs.Answers.{outcome_of}
use Rattle.machine_model.specs.Run.{memory_left, image_run}
use Rattle.paged_memory.specs.Layout.{without}
use Rattle.pipe_run.specs.PipeRun.{map_left}
use Rattle.pipe_run.proofs.Leaving.{left_pages}
use Rattle.pipe_run.proofs.Outcomes.{outcome-is, left-of, run-of}
use Rattle.pipe_run.proofs.line.run_line.Goals as goal

pub returns-clause-outcome : goal.returns-clause-outcome
returns-clause-outcome c =
    let image = plain c.args.image.now in
    let args = c.args.args.now in
    let pages = c.args.pages.now.memory in
    let m = c.run-outcome.new.self.state in
    let all : c.replace-all.result.memory ≡ merged image.pages pages = ap (λ p. p.memory) c.replace-all.ensures.value ∙ c.in_ok-map_image.ensures.memory in
    let ran = run-of image args pages c.replace-all.result.memory m.memory c.args.vl c.args.steps c.new-machine.result.steps m.pc c.run-outcome.new.self.steps c.new-machine.result.state c.run-outcome.result
    c.new-machine.ensures.steps c.new-machine.ensures.state all (c.run-outcome.ensures.outcome c.new-machine.ensures.over) in
    outcome-is (image_run image args pages c.args.vl c.args.steps) c.run-outcome.result m.memory c.pc-pc.result c.steps_done-steps.result
    (ran ∙ sym (ap₂ (outcome_of c.run-outcome.result m.memory) c.pc-pc.ensures c.steps_done-steps.ensures))

pub returns-clause-left : goal.returns-clause-left
returns-clause-left c =
    let image = plain c.args.image.now in
    let args = c.args.args.now in
    let pages = c.args.pages.now.memory in
    let m = c.run-outcome.new.self.state in
    let all : c.replace-all.result.memory ≡ merged image.pages pages = ap (λ p. p.memory) c.replace-all.ensures.value ∙ c.in_ok-map_image.ensures.memory in
    let ran = run-of image args pages c.replace-all.result.memory m.memory c.args.vl c.args.steps c.new-machine.result.steps m.pc c.run-outcome.new.self.steps c.new-machine.result.state c.run-outcome.result
    c.new-machine.ensures.steps c.new-machine.ensures.state all (c.run-outcome.ensures.outcome c.new-machine.ensures.over) in
    let left : memory_left (image_run image args pages c.args.vl c.args.steps) ≡ m.memory = ap memory_left ran ∙ left-of c.run-outcome.result m.memory m.pc c.run-outcome.new.self.steps in
    c.unmap_image.ensures.memory
    ∙ ap (without image.pages) c.into_pages.ensures
    ∙ left_pages image args pages m.memory c.args.vl c.args.steps c.args.image.now.in_order c.is_memory.ensures c.requires.fits.apart (sym left)
    ∙ ap (λ memory. map_left memory pages) (sym left)
