use Rattle.std.proofs.Common.{length, map, ◌++◌, sym, ap, ◌∙◌, arith}
use Rattle.kernel_tree.specs.declared.ast.Kernel.{Kernel}
use Rattle.kernel_tree.specs.Plain.{accumulators_of, program_of}
use Rattle.kernel_tree.specs.Checked.{kernel_of}
use Rattle.loop_form.specs.View.{program}
use Rattle.scalar_words.specs.KernelRegisters.{register_in, count_values, item_regs, item_last_use}
use Rattle.scalar_words.specs.View.{register_number, constants_of, looses_of, layout_of}
use Rattle.scalar_words.proofs.Layouts.{layout_is, count_vars}
use Rattle.scalar_words.proofs.kernel_layout.lay_out.Goals as goal

pub returns : goal.returns
unfolding program
returns c =
    let R = register_in c.args.regs.now in
    let tree = c.kernel.result.now in
    let is = c.args.items.now in
    let j = c.len-vars.result in
    let vars = c.len-vars.ensures ∙ tree.vars.ok.0 ∙ sym (count_vars tree.vars.items) ∙ ap (λ (t : Kernel). length (accumulators_of t.vars.items)) c.kernel.ensures in
    let made = c.place_items.new in
    layout_is R (program_of (kernel_of c.args.kernel.now)) (layout_of made.found.items made.last_uses.items c.new.result.items c.new-2.result.items) j is c.requires.listed vars
    (c.in_ok-place_items.ensures.regs ∙ ap (λ rs. map register_number rs ++ item_regs R j is) c.new-found.ensures.items)
    (c.in_ok-place_items.ensures.last_uses ∙ ap (λ us. us ++ map item_last_use is) c.new-last_uses.ensures.items)
    (ap constants_of c.new.ensures.items)
    (ap looses_of c.new-2.ensures.items)

pub place_items-requires : goal.place_items-requires
unfolding program
place_items-requires c =
    let tree = c.kernel.result.now in
    let vars = c.len-vars.ensures ∙ tree.vars.ok.0 ∙ sym (count_vars tree.vars.items) ∙ ap (λ (t : Kernel). length (accumulators_of t.vars.items)) c.kernel.ensures in
    let listed = ap count_values c.requires.listed in
    let count = c.each_has_a_register.ensures.count in
    record {
      assigned = c.requires.fits.assigned;
      within = omega (arith, vars, listed, count);
      room = omega (arith, vars, c.few_items.ensures.vars);
    }
