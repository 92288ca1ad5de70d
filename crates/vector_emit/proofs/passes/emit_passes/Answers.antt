use Rattle.std.proofs.Common.{◌≡◌, ℕ, ◌+◌, [], ◌++◌, sym, ap, ◌∙◌, subst}
use Rattle.std.specs.List.{list_any}
use Rattle.std.proofs.lemmas.Result.{on_ok_weaker}
use Rattle.kernel_tree.specs.Plain.{Program}
use Rattle.reg_assign.specs.declared.assigned.VectorRegs.{VectorRegs}
use Rattle.loop_form.specs.declared.facts.LoopFacts.{LoopFacts}
use Rattle.loop_form.specs.Lanes.{lane_width_of}
use Rattle.loop_form.specs.LoopItems.{loop_items_of}
use Rattle.loop_form.specs.LoopView.{view}
use Rattle.loop_form.specs.View.{program}
use Rattle.lane_emit.specs.RegistersView.{vectors_in, predicates_in}
use Rattle.chunk_emit.specs.Writable.{AreWritable}
use Rattle.first_fault.specs.BreakRegion.{is_loop_break, region_of, rest_of}
use Rattle.vector_emit.specs.VectorCode.{labels_by, passes_by}
use Rattle.vector_emit.proofs.CodeSizes.{passes_appended}
use Rattle.vector_emit.proofs.passes.emit_passes.Goals as goal

pub loop_layout-layout-requires-clause-items : goal.loop_layout-layout-requires-clause-items
unfolding program
loop_layout-layout-requires-clause-items c = ap view c.deref.ensures.value ∙ c.in_ok-items.ensures

pub emit_by-requires-clause-region : goal.emit_by-requires-clause-region
unfolding program
emit_by-requires-clause-region c =
    let k : Program = program c.args.facts.now.kernel.now in
    let items : view c.deref-2.result.now ≡ loop_items_of k = ap view c.deref-2.ensures.value ∙ c.in_ok-items.ensures in
    let same : k ≡ program c.loop_layout-layout.result.registers.facts.now.kernel.now = ap (λ (f : LoopFacts). program f.kernel.now) (sym c.loop_layout-layout.ensures.facts) in
    subst (λ p. AreWritable (lane_width_of p) (region_of (view c.deref-2.result.now))) same (subst (λ its. AreWritable (lane_width_of k) (region_of its)) (sym items) c.writable_items.ensures.region)

pub emit_by-requires-clause-rest : goal.emit_by-requires-clause-rest
unfolding program
emit_by-requires-clause-rest c =
    let k : Program = program c.args.facts.now.kernel.now in
    let items : view c.deref-2.result.now ≡ loop_items_of k = ap view c.deref-2.ensures.value ∙ c.in_ok-items.ensures in
    let same : k ≡ program c.loop_layout-layout.result.registers.facts.now.kernel.now = ap (λ (f : LoopFacts). program f.kernel.now) (sym c.loop_layout-layout.ensures.facts) in
    subst (λ p. AreWritable (lane_width_of p) (rest_of (view c.deref-2.result.now))) same (subst (λ its. AreWritable (lane_width_of k) (rest_of its)) (sym items) c.writable_items.ensures.rest)

pub returns-clause-emits : goal.returns-clause-emits
unfolding program
returns-clause-emits c =
    let k : Program = program c.args.facts.now.kernel.now in
    let r = c.loop_layout-layout.result.registers in
    let n : ℕ = c.args.draft.now.labels in
    let items : view c.deref-2.result.now ≡ loop_items_of k = ap view c.deref-2.ensures.value ∙ c.in_ok-items.ensures in
    let same : program r.facts.now.kernel.now ≡ k = ap (λ (f : LoopFacts). program f.kernel.now) c.loop_layout-layout.ensures.facts in
    on_ok_weaker c.emit_by.result (λ p. record {
      labels = p.labels ∙ ap (λ its. c.args.draft.now.labels + labels_by (list_any is_loop_break its)) items;
      code = λ rest.
          p.code rest
          ∙ ap (λ its. c.args.draft.now.entries ++ passes_by (list_any is_loop_break its) (program r.facts.now.kernel.now) (vectors_in r) (predicates_in r) its n rest) items
          ∙ ap (λ p. c.args.draft.now.entries ++ passes_by (list_any is_loop_break (loop_items_of k)) p (vectors_in r) (predicates_in r) (loop_items_of k) n rest) same
          ∙ ap (λ (v : VectorRegs). c.args.draft.now.entries ++ passes_by (list_any is_loop_break (loop_items_of k)) k v.z v.p (loop_items_of k) n rest) c.loop_layout-layout.ensures.regs;
    })
    c.emit_by.ensures

pub returns-clause-words : goal.returns-clause-words
returns-clause-words c =
    on_ok_weaker c.emit_by.result (λ p. passes_appended (program c.args.facts.now.kernel.now) c.args.regs.now.z c.args.regs.now.p c.args.draft.now.labels c.args.draft.now.entries c.emit_by.new.draft.entries (p.code [])) (returns-clause-emits c)
