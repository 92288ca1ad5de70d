use Rattle.std.proofs.Common.{◌+◌, List, ◌++◌, None, sym, ap, ◌∙◌, arith}
use Rattle.std.proofs.lemmas.Result.{IfOk-from_err}
use Rattle.kernel_tree.specs.declared.ast.Stmt.{Stmt}
use Rattle.kernel_tree.specs.Plain.{block_of, for_loop_of}
use Rattle.kernel_tree.specs.Items.{loop_index, vars_size}
use Rattle.loop_form.specs.LoopItems.{block_items}
use Rattle.loop_form.specs.LoopView.{view, env_of, scope_of}
use Rattle.loop_form.specs.View.{program}
use Rattle.loop_items.specs.declared.listed.Listed.{Listed}
use Rattle.loop_items.proofs.WholeLoops.{params_counted, vars_listed, started, loop_is_program_loop, body_fits, body_near, no_loop_of_no_body, loop_listed, nothing_listed}
use Rattle.loop_items.proofs.loop_list.loop_items.Goals.{in-Some+in_ok-names, in_default}
use Rattle.loop_items.proofs.loop_list.loop_items.Goals as goal

pub returns : goal.returns
unfolding program
returns c = elim c.match-tree.branch [
  | in-Some+in_ok-names w ↦
      let k = program c.args.kernel.now in
      let tree = c.kernel-tree.result.now in
      let names = w.in_ok-names.names.items in
      let old = view c.new.result.items in
      let start = w.len.result + w.vars_size_of.result in
      let short = ap (λ (l : Listed). l.short) (sym w.listed-is) ∙ c.if-listed.false in
      ap (λ (l : Listed). view l.items.items) w.listed-is
      ∙ loop_listed k old (view w.list_block.new.listed.items.items) (ap view c.new.ensures.items) (for_loop_of w.in-Some.for_loop) names start (loop_is_program_loop c.args.kernel.now tree c.kernel-tree.ensures w.in-Some.for_loop w.in-Some.is) w.in_ok-names.ensures
      (started c.args.kernel.now tree c.kernel-tree.ensures w.len.result w.vars_size_of.result w.deref.result.now w.len.ensures w.vars_size_of.ensures w.deref.ensures.value)
      (λ taken rest. w.list_block.ensures.items short taken rest ∙ ap (λ (b : List Stmt). old ++ block_items (scope_of (loop_index k) names taken) None (start + 1) (env_of names) (block_of b) rest) w.deref-in-Some.ensures.value)
  | in_default w ↦
      nothing_listed (program c.args.kernel.now) (view c.new.result.items) (view c.match-tree.listed.items.items) (ap view c.new.ensures.items) (no_loop_of_no_body c.args.kernel.now c.kernel-tree.result.now c.kernel-tree.ensures w.in_default.is) (ap (λ (l : Listed). view l.items.items) w.listed-is)
]

pub returns-then-listed : goal.returns-then-listed
returns-then-listed c = tt

pub returns-in_err-names : goal.returns-in_err-names
returns-in_err-names c = IfOk-from_err c.from_residual.result _ c.from_residual.ensures.0

pub list_block-requires : goal.list_block-requires
list_block-requires c = record {
  fits = body_fits c.args.kernel.now c.kernel-tree.result.now c.kernel-tree.ensures c.in-Some.for_loop c.in-Some.is _ c.deref-in-Some.result.now (started c.args.kernel.now c.kernel-tree.result.now c.kernel-tree.ensures c.len.result c.vars_size_of.result c.deref.result.now c.len.ensures c.vars_size_of.ensures c.deref.ensures.value) c.deref-in-Some.ensures.value c.few_items.ensures.size;
  near = body_near c.args.kernel.now c.kernel-tree.result.now c.kernel-tree.ensures c.in-Some.for_loop c.in-Some.is c.deref-in-Some.result.now c.deref-in-Some.ensures.value c.near_statements.ensures;
}

-- ---- the number where the loop begins

pub vars_size_of-requires : goal.vars_size_of-requires
vars_size_of-requires c =
    let k = program c.args.kernel.now in
    let vars = ap (vars_size (loop_index k)) (vars_listed c.args.kernel.now c.kernel-tree.result.now c.kernel-tree.ensures c.deref.result.now c.deref.ensures.value) in
    omega (arith, vars, c.few_items.ensures.size)

pub overflow_cast-start : goal.overflow_cast-start
overflow_cast-start c =
    let many = params_counted c.args.kernel.now c.kernel-tree.result.now c.kernel-tree.ensures c.len.result c.len.ensures in
    record { fits = omega (arith, many, c.few_items.ensures.params) }

pub overflow_add-start : goal.overflow_add-start
overflow_add-start c =
    let start = started c.args.kernel.now c.kernel-tree.result.now c.kernel-tree.ensures c.len.result c.vars_size_of.result c.deref.result.now c.len.ensures c.vars_size_of.ensures c.deref.ensures.value in
    record { fits = omega (arith, start, c.few_items.ensures.size) }

pub overflow_add-at : goal.overflow_add-at
overflow_add-at c =
    let start = started c.args.kernel.now c.kernel-tree.result.now c.kernel-tree.ensures c.len.result c.vars_size_of.result c.deref.result.now c.len.ensures c.vars_size_of.ensures c.deref.ensures.value in
    record { fits = omega (arith, start, c.few_items.ensures.size) }
