use Rattle.std.proofs.Common.{◌+◌, subst, ap, ◌∙◌, drop, List, ◌++◌, refl, sym, arith}
use Rattle.kernel_tree.specs.Plain.{accumulator_of, accumulators_of, Accumulator}
use Rattle.kernel_tree.specs.Kinds.{VarsKinds}
use Rattle.kernel_tree.specs.Items.{vars_size}
use Rattle.kernel_scope.specs.Scopes.{scope_of}
use Rattle.scalar_words.specs.KernelRegisters.{register_in}
use Rattle.scalar_words.specs.Layout.{Layout}
use Rattle.scalar_words.specs.View.{homes_of}
use Rattle.loop_code.specs.Kernel.{vars_labels, vars_code}
use Rattle.scalar_emit.proofs.LoopCode.{vars_on}
use Rattle.guest_types.proofs.Errors.{on_error}
use Rattle.kernel_tree.proofs.Walks.{next_item, no_var}
use Rattle.scalar_emit.proofs.kernel.emit_vars.Goals as goal

pub loop-var-preserved : goal.loop-var-preserved
loop-var-preserved c =
    let l = c.loop-var in
    let vs = c.args.vars.now in
    let made = c.in_ok-emit_var.ensures in
    let e = ap accumulators_of (next_item vs l.var-index c.var-item.result c.loop-var-test.true c.var-item.is) in
    let step = vars_on l.site.layout (register_in c.args.regs.now) (homes_of l.site.homes.items) (homes_of c.emit_var.new.site.homes.items) (scope_of l.site.scope) (scope_of c.emit_var.new.site.scope) l.place l.next c.emit_var.new.item l.draft.labels c.emit_var.new.draft.labels l.draft.entries c.emit_var.new.draft.entries (accumulator_of c.var-item.result) (accumulators_of (drop (l.var-index + 1) vs)) (accumulators_of (drop l.var-index vs)) e made.scope made.homes made.item made.emits.labels made.emits.code in
    record {
      place = ap (λ n. n + 1) l.invariant.place;
      kinds = (subst VarsKinds e l.invariant.kinds).1;
      item = step.item ∙ l.invariant.item;
      labels = step.labels ∙ l.invariant.labels;
      code = λ rest. ap (λ (L : Layout). c.emit_var.new.draft.entries ++ vars_code L (register_in c.args.regs.now) (homes_of c.emit_var.new.site.homes.items) (scope_of c.emit_var.new.site.scope) (l.place + 1) c.emit_var.new.item c.emit_var.new.draft.labels (accumulators_of (drop (l.var-index + 1) vs)) rest) made.layout ∙ step.code rest ∙ l.invariant.code rest;
    }

pub returns-in_err-emit_var : goal.returns-in_err-emit_var
returns-in_err-emit_var c = on_error _ _ c.from_residual.ensures.0

pub loop-var-init : goal.loop-var-init
loop-var-init c = record { place = refl; kinds = c.requires.kinds; item = refl; labels = refl; code = λ rest. refl }

pub emit_var-requires : goal.emit_var-requires
emit_var-requires c =
    let l = c.loop-var in
    let vs = c.args.vars.now in
    let e = ap accumulators_of (next_item vs l.var-index c.var-item.result c.loop-var-test.true c.var-item.is) in
    record {
      assigned = c.requires.assigned;
      within = omega arith;
      kind = (subst VarsKinds e l.invariant.kinds).0;
      fits = omega (arith, ap (vars_size (scope_of l.site.scope).index) e, l.invariant.item, c.requires.fits);
    }

pub returns : goal.returns
returns c =
    let l = c.loop-var in
    let s = scope_of l.site.scope in
    let end = no_var c.args.vars.now l.var-index c.loop-var-test.false in
    record {
      labels = omega (arith, ap (vars_labels s.index) end, l.invariant.labels);
      code = λ rest. ap (λ (vs : List Accumulator). l.draft.entries ++ vars_code l.site.layout (register_in c.args.regs.now) (homes_of l.site.homes.items) s l.place l.next l.draft.labels vs rest) (sym end) ∙ l.invariant.code rest;
    }

pub offset_bounds-vars-var-index : goal.offset_bounds-vars-var-index
offset_bounds-vars-var-index c = omega arith

pub overflow_add-place : goal.overflow_add-place
overflow_add-place c = omega arith
