use Rattle.std.proofs.Common.{Some, sym, ap, ap₂, ◌∙◌, rules}
use Rattle.std.specs.Prelude.{not, option_map}
use Rattle.std.specs.Int.{w128}
use Rattle.std.proofs.lemmas.Int.{to_z-of_z}
use Rattle.kernel_tree.specs.Wrap.{wrap}
use Rattle.kernel_meaning.specs.Operators.{unary_value, binary_value, shift_value, compare_on}
use Rattle.kernel_meaning.specs.Eval.{on_both, chosen, and_then, or_else}
use Rattle.kernel_plan.specs.declared.node.Node.{Node}
use Rattle.kernel_plan.specs.Trees.{tree_of}
use Rattle.kernel_eval.specs.Slots.{tree_value, tree_holds}
use Rattle.kernel_eval.proofs.ElementValues.{of_element}
use Rattle.kernel_eval.proofs.value.+values.Goals as goal

pub value-returns-in-Unary : goal.value-returns-in-Unary
value-returns-in-Unary g t c =
    let value = (λ (n : Node). tree_value (tree_of n) (g.M.GuestMemory.memory c.args.memory.now) c.args.slots.now) in
    let i = c.in-Unary in
    c.unary.ensures ∙ ap (option_map (unary_value i.op i.ty)) (c.value.ensures ∙ ap value c.deref.ensures) ∙ sym (ap value i.is)

pub value-returns-in-Binary : goal.value-returns-in-Binary
value-returns-in-Binary g t c =
    let value = (λ (n : Node). tree_value (tree_of n) (g.M.GuestMemory.memory c.args.memory.now) c.args.slots.now) in
    let i = c.in-Binary in
    c.binary.ensures ∙ ap₂ (on_both (binary_value i.op i.ty)) (c.value-in-Binary.ensures ∙ ap value c.deref-in-Binary.ensures) (c.value-in-Binary-2.ensures ∙ ap value c.deref-in-Binary-2.ensures) ∙ sym (ap value i.is)

pub value-returns-in-Cast : goal.value-returns-in-Cast
value-returns-in-Cast g t c =
    let value = (λ (n : Node). tree_value (tree_of n) (g.M.GuestMemory.memory c.args.memory.now) c.args.slots.now) in
    let i = c.in-Cast in
    c.cast.ensures ∙ ap (option_map (wrap i.ty)) (c.value-in-Cast.ensures ∙ ap value c.deref-in-Cast.ensures) ∙ sym (ap value i.is)

pub holds-returns-in-Compare : goal.holds-returns-in-Compare
holds-returns-in-Compare g t c =
    let value = (λ (n : Node). tree_value (tree_of n) (g.M.GuestMemory.memory c.args.memory.now) c.args.slots.now) in
    let hold = (λ (n : Node). tree_holds (tree_of n) (g.M.GuestMemory.memory c.args.memory.now) c.args.slots.now) in
    let i = c.in-Compare in
    c.compare.ensures ∙ ap₂ (on_both (compare_on i.op)) (c.value.ensures ∙ ap value c.deref.ensures) (c.value-in-Compare.ensures ∙ ap value c.deref-in-Compare.ensures) ∙ sym (ap hold i.is)

pub value-returns-in-Constant : goal.value-returns-in-Constant
value-returns-in-Constant g t c =
    let value = (λ (n : Node). tree_value (tree_of n) (g.M.GuestMemory.memory c.args.memory.now) c.args.slots.now) in
    ap Some (to_z-of_z w128 c.in-Constant.value (search rules)) ∙ sym (ap value c.in-Constant.is)

pub value-returns-in-Slot : goal.value-returns-in-Slot
value-returns-in-Slot g t c =
    let value = (λ (n : Node). tree_value (tree_of n) (g.M.GuestMemory.memory c.args.memory.now) c.args.slots.now) in
    ap Some (to_z-of_z w128 c.slot_at.result (search rules) ∙ c.slot_at.ensures) ∙ sym (ap value c.in-Slot.is)

pub value-returns-in-Shift : goal.value-returns-in-Shift
value-returns-in-Shift g t c =
    let value = (λ (n : Node). tree_value (tree_of n) (g.M.GuestMemory.memory c.args.memory.now) c.args.slots.now) in
    let i = c.in-Shift in
    c.shift.ensures ∙ ap₂ (λ n o. option_map (shift_value i.left_shift n i.ty) o) (to_z-of_z w128 i.count (search rules)) (c.value-in-Shift.ensures ∙ ap value c.deref-in-Shift.ensures) ∙ sym (ap value i.is)

pub value-returns-in-Select : goal.value-returns-in-Select
value-returns-in-Select g t c =
    let value = (λ (n : Node). tree_value (tree_of n) (g.M.GuestMemory.memory c.args.memory.now) c.args.slots.now) in
    let hold = (λ (n : Node). tree_holds (tree_of n) (g.M.GuestMemory.memory c.args.memory.now) c.args.slots.now) in
    let i = c.in-Select in
    c.select.ensures ∙ ap₂ (λ a b. chosen a b c.holds.result) (c.value-in-Select.ensures ∙ ap value c.deref-in-Select-2.ensures) (c.value-in-Select-2.ensures ∙ ap value c.deref-in-Select-3.ensures)
    ∙ ap (chosen (value i.yes.value) (value i.no.value)) (c.holds.ensures ∙ ap hold c.deref-in-Select.ensures) ∙ sym (ap value i.is)

pub holds-returns-in-None : goal.holds-returns-in-None
holds-returns-in-None g t c =
    let hold = (λ (n : Node). tree_holds (tree_of n) (g.M.GuestMemory.memory c.args.memory.now) c.args.slots.now) in
    ap (λ o. and_then o (hold c.in-And.right.value)) (sym c.in-None.is ∙ c.holds.ensures ∙ ap hold c.deref-in-And.ensures) ∙ sym (ap hold c.in-And.is)

pub holds-returns-in-Some-true : goal.holds-returns-in-Some-true
holds-returns-in-Some-true g t c =
    let hold = (λ (n : Node). tree_holds (tree_of n) (g.M.GuestMemory.memory c.args.memory.now) c.args.slots.now) in
    c.holds-in-Some-true.ensures ∙ ap hold c.deref-in-Some-true.ensures ∙ ap (λ o. and_then o (hold c.in-And.right.value)) (sym (c.in-Some-true.is ∙ ap Some c.in-Some-true.field-0-test) ∙ c.holds.ensures ∙ ap hold c.deref-in-And.ensures) ∙ sym (ap hold c.in-And.is)

pub holds-returns-in-Some-false : goal.holds-returns-in-Some-false
holds-returns-in-Some-false g t c =
    let hold = (λ (n : Node). tree_holds (tree_of n) (g.M.GuestMemory.memory c.args.memory.now) c.args.slots.now) in
    ap (λ o. and_then o (hold c.in-And.right.value)) (sym (c.in-Some-false.is ∙ ap Some c.in-Some-false.field-0-test) ∙ c.holds.ensures ∙ ap hold c.deref-in-And.ensures) ∙ sym (ap hold c.in-And.is)

pub holds-returns-in-None-holds : goal.holds-returns-in-None-holds
holds-returns-in-None-holds g t c =
    let hold = (λ (n : Node). tree_holds (tree_of n) (g.M.GuestMemory.memory c.args.memory.now) c.args.slots.now) in
    ap (λ o. or_else o (hold c.in-Or.right.value)) (sym c.in-None-holds.is ∙ c.holds-in-Or.ensures ∙ ap hold c.deref-in-Or.ensures) ∙ sym (ap hold c.in-Or.is)

pub holds-returns-in-Some-true-holds : goal.holds-returns-in-Some-true-holds
holds-returns-in-Some-true-holds g t c =
    let hold = (λ (n : Node). tree_holds (tree_of n) (g.M.GuestMemory.memory c.args.memory.now) c.args.slots.now) in
    ap (λ o. or_else o (hold c.in-Or.right.value)) (sym (c.in-Some-true-holds.is ∙ ap Some c.in-Some-true-holds.field-0-test) ∙ c.holds-in-Or.ensures ∙ ap hold c.deref-in-Or.ensures) ∙ sym (ap hold c.in-Or.is)

pub holds-returns-in-Some-false-holds : goal.holds-returns-in-Some-false-holds
holds-returns-in-Some-false-holds g t c =
    let hold = (λ (n : Node). tree_holds (tree_of n) (g.M.GuestMemory.memory c.args.memory.now) c.args.slots.now) in
    c.holds-in-Some-false-holds.ensures ∙ ap hold c.deref-in-Some-false-holds.ensures ∙ ap (λ o. or_else o (hold c.in-Or.right.value)) (sym (c.in-Some-false-holds.is ∙ ap Some c.in-Some-false-holds.field-0-test) ∙ c.holds-in-Or.ensures ∙ ap hold c.deref-in-Or.ensures) ∙ sym (ap hold c.in-Or.is)

pub holds-returns-in-None-holds-2 : goal.holds-returns-in-None-holds-2
holds-returns-in-None-holds-2 g t c =
    let hold = (λ (n : Node). tree_holds (tree_of n) (g.M.GuestMemory.memory c.args.memory.now) c.args.slots.now) in
    ap (option_map not) (sym c.in-None-holds-2.is ∙ c.holds-in-Not.ensures ∙ ap hold c.deref-in-Not.ensures) ∙ sym (ap hold c.in-Not.is)

pub holds-returns-in-Some : goal.holds-returns-in-Some
holds-returns-in-Some g t c =
    let hold = (λ (n : Node). tree_holds (tree_of n) (g.M.GuestMemory.memory c.args.memory.now) c.args.slots.now) in
    ap (option_map not) (sym c.in-Some.is ∙ c.holds-in-Not.ensures ∙ ap hold c.deref-in-Not.ensures) ∙ sym (ap hold c.in-Not.is)

pub value-returns-in_default : goal.value-returns-in_default
value-returns-in_default g t c =
    let d = c.in_default in
    c.element.ensures ∙ of_element (g.M.GuestMemory.memory c.args.memory.now) c.args.slots.now c.args.node.now d.not-Constant d.not-Slot d.not-Unary d.not-Binary d.not-Shift d.not-Cast d.not-Select
