use Rattle.std.proofs.lemmas.Result.{IfOk-from_err, IfOk-weaker, IfOk-equal, on_ok_weaker}
use Rattle.std.proofs.Common.{◌≡◌, ℕ, ◌+◌, ◌<◌, ◌^◌, Bool, List, ◌++◌, refl, sym, ap, subst, ◌∙◌, rules}
use Rattle.std.specs.Prelude.{if◌then◌else◌, max}
use Rattle.kernel_tree.specs.Plain.{Term, Literal, Variable, Element, Unary, Operation, Shift, Conversion, Choice, Comparison, Both, Either, Not, name_of, term_of}
use mir.Syntax.{w128}
use mir.Val.{SFits, of_z, to_z}
use Rattle.std.proofs.lemmas.Int.{to_z-of_z}
use Rattle.kernel_scope.specs.Scopes.{scope_of}
use Rattle.label_fix.specs.DraftRun.{DraftEntry}
use Rattle.label_fix.specs.Registers.{iteration}
use Rattle.scalar_words.specs.Layout.{reg_of, register_at}
use Rattle.scalar_words.specs.View.{homes_of, register_number}
use Rattle.label_fix.specs.Draft.{word_view}
use Rattle.kernel_tree.specs.declared.ops.Ty.TheVariants as ty
use Rattle.kernel_tree.specs.Items.{term_size, index_items, stream_offset}
use Rattle.kernel_tree.specs.Limits.{term_depth}
use Rattle.kernel_tree.specs.Typing.{first, lookup, element_type}
use Rattle.std.specs.Prelude.{Option, None, Some, option_map, option_and_then}
use Rattle.kernel_tree.specs.declared.ops.Ty.{Ty}
use Rattle.kernel_tree.proofs.Calls.{on_any}
use Rattle.kernel_tree.proofs.Walks.{smaller_room}
use Rattle.kernel_tree.proofs.Measures.{four_2_to_0, four_2_to_1, four_3_to_2, four_2_to_left_0, four_2_to_right_0, four_2_to_left_1, four_2_to_right_1, four_3_to_right_2}
use Rattle.scalar_values.specs.Sides.{side_view}
use Rattle.value_code.specs.ValueRegisters.{home, literal_home}
use Rattle.value_code.specs.ItemWords.{Register}
use Rattle.value_code.specs.Code.{HasParts, labels, added_number, is_fused, is_led, right_side, IsHeld, loose_code}
use Rattle.value_code.specs.declared.extent.Extent.TheVariants.{Whole}
use Rattle.value_code.proofs.TermCode.{compared_size, literal_item, literal_labels, held_code, side_number, side_parts, side_whole, on_ok, on_and}
use Rattle.value_code.proofs.NearOffsets.{no_items}
use Rattle.scalar_values.proofs.TermItems.{with_value, then_is, else_is, own_room, next_fits, whole_fits, after_room, left_room, right_room, led_fits, last_fits, last_room, either_left_room, either_mark_fits, either_right_room, either_last_fits, compared_room, compared_fits, truth_fits, not_fits, chosen_fits, chosen_room, given_past_label, given_past_two_parts, both_given, either_given, compared_given, other_given, end_given, end_next, one_item, one_part, two_parts, two_items, both_items, either_items, choice_items, indexed_items, placed_item, placed_items, literal_size, computed_items, computed_home, offset_items, offset_home, by_number, by_part, by_register, loose_as, jump_as, loose_literal, loose_variable, compared_both}
use Rattle.scalar_values.proofs.TermCalls.{unary_call, unary_room, shift_call, shift_room, cast_call, cast_room, two_call, read_call, yes_call, no_call, one_of_call, left_call, right_call, compare_call, chosen_call, both_call, either_call, not_call, sides_below, left_side_below, right_side_below, left_compared_room}
use Rattle.scalar_values.proofs.TermKinds.{no_truth, no_value, no_parts, no_flags}
use Rattle.scalar_values.proofs.PartKinds.{and_of, binary_of, cast_of, compare_of, not_of, or_of, read_of, select_of, shift_of, unary_of}
use Rattle.scalar_values.proofs.TermEmits.{unary_emits, shift_emits, cast_emits, choice_emits, two_emits, led_emits, straight_emits, binary_parts, shift_parts, cast_parts, compare_emits, both_emits, either_emits, chosen_emits, picked_emits, placed_emits, element_emits, offset_emits, index_emits, item_as, home_as}
use Rattle.scalar_values.proofs.emit.+terms.Goals as goal
use Rattle.scalar_values.proofs.emit.+terms.Goals.{emit_both-then-sense, emit_both-else-sense, emit_either-then-sense, emit_either-else-sense}

pub emit_two-returns : goal.emit_two-returns
emit_two-returns t c = record {
  register = with_value c.want_operator.result c.take-r.result _ c.and.ensures (c.take-r.ensures.register ∙ ap (reg_of c.args.site.now.layout) c.in_ok-sides.ensures.item);
  item = on_any c.and.result (two_items c.args.item.now (term_size (scope_of c.args.site.now.scope).index (term_of c.args.left.now)) (term_size (scope_of c.args.site.now.scope).index (term_of c.args.right.now)) c.emit_sides.new.item c.take-r.new.item c.in_ok-sides.ensures.item c.take-r.ensures.item);
  emits = on_and c.want_operator.result c.take-r.result c.and.ensures c.want_operator.ensures (two_emits c.args.site.now.layout (homes_of c.args.site.now.homes.items) (scope_of c.args.site.now.scope) c.args.asked.extent c.binary_asks-extent.result.0 c.args.asked.want c.args.item.now c.emit_sides.new.item c.args.draft.now c.emit_sides.new.draft c.want_operator.new.draft c.args.op (term_of c.args.left.now) (term_of c.args.right.now) (side_view c.in_ok-sides.sides.0) c.binary_asks-extent.result.1 c.take-r.result.number c.in_ok-sides.sides.1.number c.binary_asks-extent.ensures.asked c.in_ok-sides.ensures.side c.binary_asks-extent.ensures.settles c.take-r.ensures.register c.in_ok-sides.ensures.item c.in_ok-sides.ensures.other c.in_ok-sides.ensures.emits);
}

-- a left side that stands in the word
pub emit_sides-returns-in_ok-r : goal.emit_sides-returns-in_ok-r
emit_sides-returns-in_ok-r t c = record {
  side = c.part_side-side.ensures ∙ then_is (is_led c.args.site.now.layout (homes_of c.args.site.now.homes.items) (scope_of c.args.site.now.scope) c.args.op c.args.asked.extent c.args.asked.want c.args.item.now (term_of c.args.left.now) (term_of c.args.right.now)) _ _ (sym c.is_led.ensures.led ∙ c.if-is_led.true);
  other = c.in_ok-r.ensures.register ∙ ap (λ (b : ℕ). home c.args.site.now.layout (homes_of c.args.site.now.homes.items) (scope_of c.args.site.now.scope).index b (term_of c.args.right.now)) c.in_ok-emit_parts.ensures.item ∙ then_is (is_led c.args.site.now.layout (homes_of c.args.site.now.homes.items) (scope_of c.args.site.now.scope) c.args.op c.args.asked.extent c.args.asked.want c.args.item.now (term_of c.args.left.now) (term_of c.args.right.now)) _ _ (sym c.is_led.ensures.led ∙ c.if-is_led.true);
  item = c.in_ok-r.ensures.item ∙ ap (λ (b : ℕ). b + term_size (scope_of c.args.site.now.scope).index (term_of c.args.right.now)) c.in_ok-emit_parts.ensures.item;
  emits = led_emits c.args.site.now.layout (homes_of c.args.site.now.homes.items) (scope_of c.args.site.now.scope) c.args.asked.extent c.args.asked.want c.args.item.now (c.emit_parts.new.item + 1) c.args.draft.now c.emit_parts.new.draft c.emit_loose.new.draft c.args.op (term_of c.args.left.now) (term_of c.args.right.now) (sym c.is_led.ensures.led ∙ c.if-is_led.true) c.in_ok-emit_parts.ensures.item c.in_ok-emit_parts.ensures.emits c.in_ok-r.ensures.emits;
}

-- and one that does not
pub emit_sides-returns-in_ok-side : goal.emit_sides-returns-in_ok-side
emit_sides-returns-in_ok-side t c = record {
  side = c.in_ok-side.ensures.side ∙ ap (λ (b : ℕ). right_side c.args.site.now.layout (homes_of c.args.site.now.homes.items) (scope_of c.args.site.now.scope) c.args.op c.args.asked.extent c.args.asked.want b (term_of c.args.right.now)) c.in_ok-r-2.ensures.item ∙ else_is (is_led c.args.site.now.layout (homes_of c.args.site.now.homes.items) (scope_of c.args.site.now.scope) c.args.op c.args.asked.extent c.args.asked.want c.args.item.now (term_of c.args.left.now) (term_of c.args.right.now)) _ _ (sym c.is_led.ensures.led ∙ c.if-is_led.false);
  other = c.in_ok-r-2.ensures.register ∙ else_is (is_led c.args.site.now.layout (homes_of c.args.site.now.homes.items) (scope_of c.args.site.now.scope) c.args.op c.args.asked.extent c.args.asked.want c.args.item.now (term_of c.args.left.now) (term_of c.args.right.now)) _ _ (sym c.is_led.ensures.led ∙ c.if-is_led.false);
  item = c.in_ok-side.ensures.item ∙ ap (λ (b : ℕ). b + term_size (scope_of c.args.site.now.scope).index (term_of c.args.right.now)) c.in_ok-r-2.ensures.item;
  emits = straight_emits c.args.site.now.layout (homes_of c.args.site.now.homes.items) (scope_of c.args.site.now.scope) c.args.asked.extent c.args.asked.want c.args.item.now c.emit_loose-else-is_led.new.item c.args.draft.now c.emit_loose-else-is_led.new.draft c.emit_side.new.draft c.args.op (term_of c.args.left.now) (term_of c.args.right.now) (sym c.is_led.ensures.led ∙ c.if-is_led.false) c.in_ok-r-2.ensures.item c.in_ok-r-2.ensures.emits c.in_ok-side.ensures.emits;
}

pub emit_both-returns : goal.emit_both-returns
emit_both-returns t c =
    let first : c.if-sense.to ≡ (if c.args.jump.sense then c.in_ok-over.over else c.args.jump.to) = elim c.if-sense.branch [ emit_both-then-sense w ↦ w.to-is ∙ sym (ap (λ (v : Bool). if v then c.in_ok-over.over else c.args.jump.to) w.if-sense.true) | emit_both-else-sense w ↦ w.to-is ∙ sym (ap (λ (v : Bool). if v then c.in_ok-over.over else c.args.jump.to) w.if-sense.false) ] in
    record {
      item = on_any c.emit_placed.result (both_items c.args.item.now (term_size (scope_of c.args.site.now.scope).index (term_of c.args.left.now)) (term_size (scope_of c.args.site.now.scope).index (term_of c.args.right.now)) c.emit_jump.new.item c.emit_jump-2.new.item c.in_ok-emit_jump.ensures.item c.in_ok-emit_jump-2.ensures.item);
      emits = on_ok c.emit_placed.result c.emit_placed.ensures (both_emits c.args.site.now.layout (homes_of c.args.site.now.homes.items) (scope_of c.args.site.now.scope) c.args.jump.sense c.args.jump.to c.in_ok-over.over c.if-sense.to c.args.item.now c.emit_jump.new.item c.args.draft.now c.label.new.self c.emit_jump.new.draft c.emit_jump-2.new.draft c.emit_placed.new.draft (term_of c.args.left.now) (term_of c.args.right.now) first c.in_ok-over.ensures.next c.in_ok-over.ensures.count c.in_ok-over.ensures.entries c.in_ok-emit_jump.ensures.item c.in_ok-emit_jump.ensures.emits c.in_ok-emit_jump-2.ensures.emits);
    }

pub emit_either-returns : goal.emit_either-returns
emit_either-returns t c =
    let first : c.if-sense.to ≡ (if c.args.jump.sense then c.args.jump.to else c.in_ok-over.over) = elim c.if-sense.branch [ emit_either-then-sense w ↦ w.to-is ∙ sym (ap (λ (v : Bool). if v then c.args.jump.to else c.in_ok-over.over) w.if-sense.true) | emit_either-else-sense w ↦ w.to-is ∙ sym (ap (λ (v : Bool). if v then c.args.jump.to else c.in_ok-over.over) w.if-sense.false) ] in
    record {
      item = on_any c.emit_placed.result (either_items c.args.item.now (term_size (scope_of c.args.site.now.scope).index (term_of c.args.left.now)) (term_size (scope_of c.args.site.now.scope).index (term_of c.args.right.now)) c.emit_jump.new.item c.emit_jump-2.new.item c.in_ok-emit_jump.ensures.item c.in_ok-emit_jump-2.ensures.item);
      emits = on_ok c.emit_placed.result c.emit_placed.ensures (either_emits c.args.site.now.layout (homes_of c.args.site.now.homes.items) (scope_of c.args.site.now.scope) c.args.jump.sense c.args.jump.to c.in_ok-over.over c.if-sense.to c.args.item.now c.emit_jump.new.item c.args.draft.now c.label.new.self c.emit_jump.new.draft c.emit_jump-2.new.draft c.emit_placed.new.draft (term_of c.args.left.now) (term_of c.args.right.now) first c.in_ok-over.ensures.next c.in_ok-over.ensures.count c.in_ok-over.ensures.entries c.in_ok-emit_jump.ensures.item c.in_ok-emit_jump.ensures.emits c.in_ok-emit_jump-2.ensures.emits);
    }

pub emit_loose-returns-in_ok-b-in-Select : goal.emit_loose-returns-in_ok-b-in-Select
emit_loose-returns-in_ok-b-in-Select t c =
    let s = scope_of c.args.site.now.scope in
    let x = term_of c.deref-in-Select.result.now in
    let y = term_of c.deref-in-Select-2.result.now in
    let k = term_of c.deref-in-Select-3.result.now in
    let is : term_of c.args.expr.now ≡ Choice k x y = select_of c.args.expr.now c.in-Select.cond c.in-Select.yes c.in-Select.no c.deref-in-Select-3.result.now c.deref-in-Select.result.now c.deref-in-Select-2.result.now c.in-Select.is c.deref-in-Select-3.ensures c.deref-in-Select.ensures c.deref-in-Select-2.ensures in
    let first = c.in_ok-a-in-Select.ensures in
    let second = c.in_ok-b-in-Select.ensures in
    record {
      register = IfOk-weaker c.emit_one_of.result _ _ (λ r p. p ∙ ap (λ (b : ℕ). reg_of c.args.site.now.layout (b + term_size (scope_of c.args.site.now.scope).index (term_of c.deref-in-Select-3.result.now))) (c.in_ok-b-in-Select.ensures.item ∙ ap (λ (b : ℕ). b + term_size (scope_of c.args.site.now.scope).index (term_of c.deref-in-Select-2.result.now)) c.in_ok-a-in-Select.ensures.item) ∙ ap (home c.args.site.now.layout (homes_of c.args.site.now.homes.items) (scope_of c.args.site.now.scope).index c.args.item.now) (sym is)) c.emit_one_of.ensures.register;
      item = on_ok_weaker c.emit_one_of.result (choice_items c.args.item.now (term_size (scope_of c.args.site.now.scope).index (term_of c.args.expr.now)) (term_size (scope_of c.args.site.now.scope).index (term_of c.deref-in-Select.result.now)) (term_size (scope_of c.args.site.now.scope).index (term_of c.deref-in-Select-2.result.now)) (term_size (scope_of c.args.site.now.scope).index (term_of c.deref-in-Select-3.result.now)) c.emit_loose-in-Select.new.item c.emit_loose-in-Select-2.new.item c.emit_one_of.new.item (ap (term_size (scope_of c.args.site.now.scope).index) is) c.in_ok-a-in-Select.ensures.item c.in_ok-b-in-Select.ensures.item) c.emit_one_of.ensures.item;
      emits = on_ok c.emit_one_of.result c.emit_one_of.ensures.emits (choice_emits c.args.site.now.layout (homes_of c.args.site.now.homes.items) s c.args.asked.extent c.args.asked.want c.args.item.now c.emit_loose-in-Select.new.item c.emit_loose-in-Select-2.new.item c.args.draft.now c.emit_loose-in-Select.new.draft c.emit_loose-in-Select-2.new.draft c.emit_one_of.new.draft k x y (term_of c.args.expr.now) c.in_ok-a-in-Select.a.number c.in_ok-b-in-Select.b.number is first.register second.register first.item second.item first.emits second.emits);
    }

-- a right side that its word holds as a number
pub emit_compared-returns-in-Some : goal.emit_compared-returns-in-Some
emit_compared-returns-in-Some t c =
    let y = term_of c.args.right.now in
    let s = scope_of c.args.site.now.scope in
    let L = c.args.site.now.layout in
    let hs = homes_of c.args.site.now.homes.items in
    let x = term_of c.args.left.now in
    let b = c.args.item.now in
    let n = c.args.draft.now.labels in
    let first = c.in_ok-a.ensures.emits in
    record {
      left = c.in_ok-a.ensures.register;
      right = c.home_of-b.ensures ∙ ap (λ (b : ℕ). home c.args.site.now.layout (homes_of c.args.site.now.homes.items) (scope_of c.args.site.now.scope).index b (term_of c.args.right.now)) c.in_ok-a.ensures.item;
      item = literal_item s.index c.args.item.now (term_size s.index (term_of c.args.left.now)) c.emit_loose.new.item y (subst (λ (o : Option ℕ). IsHeld o y) c.in-Some.is c.requires.held) c.in_ok-a.ensures.item;
      emits = record {
        labels = literal_labels s.index c.emit_loose.new.draft.labels y (subst (λ (o : Option ℕ). IsHeld o y) c.in-Some.is c.requires.held) ∙ ap (λ (k : ℕ). k + labels s.index y) first.labels;
        code = λ rest. first.code rest
            ∙ ap (λ (l : List DraftEntry). c.args.draft.now.entries ++ loose_code L hs s Whole c.args.want b n x l) (held_code c.args.number c.in-Some.field-0 (loose_code L hs s Whole c.args.want (b + term_size s.index x) (n + labels s.index x) y) rest c.in-Some.is);
      };
    }

-- an index that is an offset from the loop variable, and one that is computed
pub emit_number-returns-in-Some : goal.emit_number-returns-in-Some
emit_number-returns-in-Some t c =
    let s = scope_of c.args.site.now.scope in
    let e = term_of c.args.number.now in
    record {
      register = IfOk-weaker c.emit_offset.result _ _ (λ r p. p ∙ offset_home (stream_offset (scope_of c.args.site.now.scope).index (term_of c.args.number.now)) _ _ c.in-Some.ensures.word) c.emit_offset.ensures.register;
      item = on_any c.emit_offset.result (offset_items (stream_offset (scope_of c.args.site.now.scope).index (term_of c.args.number.now)) _ c.args.item.now (term_size (scope_of c.args.site.now.scope).index (term_of c.args.number.now)) c.in-Some.ensures.word);
      emits = on_ok c.emit_offset.result c.emit_offset.ensures.emits (offset_emits c.args.site.now.layout (homes_of c.args.site.now.homes.items) s c.args.item.now c.args.draft.now c.emit_offset.new.draft e _ c.in-Some.ensures.word);
    }

pub emit_number-returns-in-None : goal.emit_number-returns-in-None
emit_number-returns-in-None t c =
    let s = scope_of c.args.site.now.scope in
    let e = term_of c.args.number.now in
    record {
      register = IfOk-weaker c.emit_loose.result _ _ (λ r p. p ∙ computed_home (stream_offset (scope_of c.args.site.now.scope).index (term_of c.args.number.now)) _ (sym c.in-None.ensures.word)) c.emit_loose.ensures.register;
      item = IfOk-equal c.emit_loose.result _ _ _ c.emit_loose.ensures.item (ap (λ (k : ℕ). c.args.item.now + k) (computed_items (stream_offset (scope_of c.args.site.now.scope).index (term_of c.args.number.now)) (term_size (scope_of c.args.site.now.scope).index (term_of c.args.number.now)) (sym c.in-None.ensures.word)));
      emits = on_ok c.emit_loose.result c.emit_loose.ensures.emits (index_emits c.args.site.now.layout (homes_of c.args.site.now.homes.items) s c.args.item.now c.args.draft.now c.emit_loose.new.draft e c.first-want.result (sym c.in-None.ensures.word) (c.first-want.ensures ∙ ap (λ (o : Option Ty). first o (Some ty.U64)) c.own_type.ensures));
    }

-- ---- values of operators

pub emit_loose-returns-in_ok-a-in-Unary : goal.emit_loose-returns-in_ok-a-in-Unary
emit_loose-returns-in_ok-a-in-Unary t c =
    let s = scope_of c.args.site.now.scope in
    let e = term_of c.deref-arg.result.now in
    let is : term_of c.args.expr.now ≡ Unary c.in-Unary.op e = unary_of c.args.expr.now c.in-Unary.op c.in-Unary.arg c.deref-arg.result.now c.in-Unary.is c.deref-arg.ensures in
    record {
      register = IfOk-weaker c.want_unary.result _ _ (λ r p. p ∙ ap (reg_of c.args.site.now.layout) c.in_ok-a-in-Unary.ensures.item ∙ ap (home c.args.site.now.layout (homes_of c.args.site.now.homes.items) (scope_of c.args.site.now.scope).index c.args.item.now) (sym is)) c.want_unary.ensures.register;
      item = on_any c.want_unary.result (one_item c.args.item.now (term_size (scope_of c.args.site.now.scope).index (term_of c.args.expr.now)) (term_size (scope_of c.args.site.now.scope).index (term_of c.deref-arg.result.now)) c.emit_loose.new.item c.want_unary.new.item (ap (term_size (scope_of c.args.site.now.scope).index) is) c.in_ok-a-in-Unary.ensures.item c.want_unary.ensures.item);
      emits = on_ok c.want_unary.result c.want_unary.ensures.emits (unary_emits c.args.site.now.layout (homes_of c.args.site.now.homes.items) s c.args.asked.extent c.unary_asks-extent.result.0 c.args.asked.want c.args.item.now c.emit_loose.new.item c.args.draft.now c.emit_loose.new.draft c.want_unary.new.draft c.in-Unary.op e (term_of c.args.expr.now) c.unary_asks-extent.result.1 c.in_ok-a-in-Unary.a.number is c.unary_asks-extent.ensures.asked c.unary_asks-extent.ensures.settles c.in_ok-a-in-Unary.ensures.item c.in_ok-a-in-Unary.ensures.register c.in_ok-a-in-Unary.ensures.emits);
    }

pub emit_loose-returns-in_ok-a-in-Shift : goal.emit_loose-returns-in_ok-a-in-Shift
emit_loose-returns-in_ok-a-in-Shift t c =
    let s = scope_of c.args.site.now.scope in
    let e = term_of c.deref-arg-in-Shift.result.now in
    let is : term_of c.args.expr.now ≡ Shift c.in-Shift.left_shift e c.in-Shift.count = shift_of c.args.expr.now c.in-Shift.left_shift c.in-Shift.arg c.in-Shift.count c.deref-arg-in-Shift.result.now c.in-Shift.is c.deref-arg-in-Shift.ensures in
    let in_range : SFits w128 c.in-Shift.count = search rules in
    record {
      register = IfOk-weaker c.want_shift.result _ _ (λ r p. p ∙ ap (reg_of c.args.site.now.layout) c.in_ok-a-in-Shift.ensures.item ∙ ap (home c.args.site.now.layout (homes_of c.args.site.now.homes.items) (scope_of c.args.site.now.scope).index c.args.item.now) (sym is)) c.want_shift.ensures.register;
      item = on_any c.want_shift.result (one_item c.args.item.now (term_size (scope_of c.args.site.now.scope).index (term_of c.args.expr.now)) (term_size (scope_of c.args.site.now.scope).index (term_of c.deref-arg-in-Shift.result.now)) c.emit_loose-in-Shift.new.item c.want_shift.new.item (ap (term_size (scope_of c.args.site.now.scope).index) is) c.in_ok-a-in-Shift.ensures.item c.want_shift.ensures.item);
      emits = on_ok c.want_shift.result c.want_shift.ensures.emits (shift_emits c.args.site.now.layout (homes_of c.args.site.now.homes.items) s c.args.asked.extent c.shift_asks-extent.result.0 c.args.asked.want c.args.item.now c.emit_loose-in-Shift.new.item c.args.draft.now c.emit_loose-in-Shift.new.draft c.want_shift.new.draft c.in-Shift.left_shift e (term_of c.args.expr.now) c.in-Shift.count (to_z w128 (of_z w128 c.in-Shift.count)) c.shift_asks-extent.result.1 c.in_ok-a-in-Shift.a.number is (to_z-of_z w128 c.in-Shift.count in_range) c.shift_asks-extent.ensures.asked c.shift_asks-extent.ensures.settles c.in_ok-a-in-Shift.ensures.item c.in_ok-a-in-Shift.ensures.register c.in_ok-a-in-Shift.ensures.emits);
    }

pub emit_loose-returns-in_ok-a-in-Cast : goal.emit_loose-returns-in_ok-a-in-Cast
emit_loose-returns-in_ok-a-in-Cast t c =
    let s = scope_of c.args.site.now.scope in
    let e = term_of c.deref-arg-in-Cast.result.now in
    let is : term_of c.args.expr.now ≡ Conversion e c.in-Cast.ty = cast_of c.args.expr.now c.in-Cast.arg c.in-Cast.ty c.deref-arg-in-Cast.result.now c.in-Cast.is c.deref-arg-in-Cast.ensures in
    record {
      register = IfOk-weaker c.want_cast.result _ _ (λ r p. p ∙ ap (reg_of c.args.site.now.layout) c.in_ok-a-in-Cast.ensures.item ∙ ap (home c.args.site.now.layout (homes_of c.args.site.now.homes.items) (scope_of c.args.site.now.scope).index c.args.item.now) (sym is)) c.want_cast.ensures.register;
      item = on_any c.want_cast.result (one_item c.args.item.now (term_size (scope_of c.args.site.now.scope).index (term_of c.args.expr.now)) (term_size (scope_of c.args.site.now.scope).index (term_of c.deref-arg-in-Cast.result.now)) c.emit_loose-in-Cast.new.item c.want_cast.new.item (ap (term_size (scope_of c.args.site.now.scope).index) is) c.in_ok-a-in-Cast.ensures.item c.want_cast.ensures.item);
      emits = on_ok c.want_cast.result c.want_cast.ensures.emits (cast_emits c.args.site.now.layout (homes_of c.args.site.now.homes.items) s c.args.asked.extent c.converted_extent-extent.result c.own_type-from.result c.args.asked.want c.args.item.now c.emit_loose-in-Cast.new.item c.args.draft.now c.emit_loose-in-Cast.new.draft c.want_cast.new.draft e (term_of c.args.expr.now) c.in-Cast.ty c.within_type-low.result c.in_ok-a-in-Cast.a.number is c.own_type-from.ensures c.converted_extent-extent.ensures c.within_type-low.ensures c.in_ok-a-in-Cast.ensures.item c.in_ok-a-in-Cast.ensures.register c.in_ok-a-in-Cast.ensures.emits);
    }

-- ---- values that stand in the word of their user

pub emit_parts-returns-in_ok-emit_loose-in-Binary : goal.emit_parts-returns-in_ok-emit_loose-in-Binary
emit_parts-returns-in_ok-emit_loose-in-Binary t c =
    let s = scope_of c.args.site.now.scope in
    let x = term_of c.deref.result.now in
    let y = term_of c.deref-in-Binary.result.now in
    let is : term_of c.args.expr.now ≡ Operation c.in-Binary.op x y = binary_of c.args.expr.now c.in-Binary.op c.in-Binary.left c.in-Binary.right c.deref.result.now c.deref-in-Binary.result.now c.in-Binary.is c.deref.ensures c.deref-in-Binary.ensures in
    let first = c.in_ok-emit_loose-in-Binary.ensures in
    record {
      item = on_ok_weaker c.emit_loose-in-Binary.result (two_parts c.args.item.now (term_size (scope_of c.args.site.now.scope).index (term_of c.args.expr.now)) (term_size (scope_of c.args.site.now.scope).index (term_of c.deref.result.now)) (term_size (scope_of c.args.site.now.scope).index (term_of c.deref-in-Binary.result.now)) c.emit_loose.new.item c.emit_loose-in-Binary.new.item (ap (term_size (scope_of c.args.site.now.scope).index) is) c.in_ok-emit_loose-in-Binary.ensures.item) c.emit_loose-in-Binary.ensures.item;
      emits = on_ok c.emit_loose-in-Binary.result c.emit_loose-in-Binary.ensures.emits (binary_parts c.args.site.now.layout (homes_of c.args.site.now.homes.items) s c.args.asked.extent c.binary_asks-extent.result.0 c.args.asked.want c.args.item.now c.emit_loose.new.item c.args.draft.now c.emit_loose.new.draft c.emit_loose-in-Binary.new.draft c.in-Binary.op x y (term_of c.args.expr.now) is c.binary_asks-extent.ensures.asked first.item first.emits);
    }

pub emit_parts-returns-in-Shift : goal.emit_parts-returns-in-Shift
emit_parts-returns-in-Shift t c =
    let s = scope_of c.args.site.now.scope in
    let e = term_of c.deref-arg.result.now in
    let is : term_of c.args.expr.now ≡ Shift c.in-Shift.left_shift e c.in-Shift.count = shift_of c.args.expr.now c.in-Shift.left_shift c.in-Shift.arg c.in-Shift.count c.deref-arg.result.now c.in-Shift.is c.deref-arg.ensures in
    let in_range : SFits w128 c.in-Shift.count = search rules in
    record {
      item = on_ok_weaker c.emit_loose-in-Shift.result (one_part c.args.item.now (term_size (scope_of c.args.site.now.scope).index (term_of c.args.expr.now)) (term_size (scope_of c.args.site.now.scope).index (term_of c.deref-arg.result.now)) c.emit_loose-in-Shift.new.item (ap (term_size (scope_of c.args.site.now.scope).index) is)) c.emit_loose-in-Shift.ensures.item;
      emits = on_ok c.emit_loose-in-Shift.result c.emit_loose-in-Shift.ensures.emits (shift_parts c.args.site.now.layout (homes_of c.args.site.now.homes.items) s c.args.asked.extent c.shift_asks-extent.result.0 c.args.asked.want c.args.item.now c.args.draft.now c.emit_loose-in-Shift.new.draft c.in-Shift.left_shift e (term_of c.args.expr.now) c.in-Shift.count (to_z w128 (of_z w128 c.in-Shift.count)) is (to_z-of_z w128 c.in-Shift.count in_range) c.shift_asks-extent.ensures.asked);
    }

pub emit_parts-returns-in-Cast : goal.emit_parts-returns-in-Cast
emit_parts-returns-in-Cast t c =
    let s = scope_of c.args.site.now.scope in
    let e = term_of c.deref-arg-in-Cast.result.now in
    let is : term_of c.args.expr.now ≡ Conversion e c.in-Cast.ty = cast_of c.args.expr.now c.in-Cast.arg c.in-Cast.ty c.deref-arg-in-Cast.result.now c.in-Cast.is c.deref-arg-in-Cast.ensures in
    record {
      item = on_ok_weaker c.emit_loose-in-Cast.result (one_part c.args.item.now (term_size (scope_of c.args.site.now.scope).index (term_of c.args.expr.now)) (term_size (scope_of c.args.site.now.scope).index (term_of c.deref-arg-in-Cast.result.now)) c.emit_loose-in-Cast.new.item (ap (term_size (scope_of c.args.site.now.scope).index) is)) c.emit_loose-in-Cast.ensures.item;
      emits = on_ok c.emit_loose-in-Cast.result c.emit_loose-in-Cast.ensures.emits (cast_parts c.args.site.now.layout (homes_of c.args.site.now.homes.items) s c.args.asked.extent c.converted_extent-extent.result c.own_type-from.result c.args.asked.want c.args.item.now c.args.draft.now c.emit_loose-in-Cast.new.draft e (term_of c.args.expr.now) c.in-Cast.ty is c.own_type-from.ensures c.converted_extent-extent.ensures);
    }

-- ---- conditions

pub emit_jump-returns-in_ok-a-in-Compare : goal.emit_jump-returns-in_ok-a-in-Compare
emit_jump-returns-in_ok-a-in-Compare t c =
    let s = scope_of c.args.site.now.scope in
    let x = term_of c.deref.result.now in
    let y = term_of c.deref-in-Compare.result.now in
    let is : term_of c.args.expr.now ≡ Comparison c.in-Compare.op x y = compare_of c.args.expr.now c.in-Compare.op c.in-Compare.left c.in-Compare.right c.deref.result.now c.deref-in-Compare.result.now c.in-Compare.is c.deref.ensures c.deref-in-Compare.ensures in
    let sides = c.in_ok-a-in-Compare.ensures in
    record {
      item = on_any c.emit_branch.result (compared_size (scope_of c.args.site.now.scope).index c.args.item.now c.emit_compared.new.item c.in-Compare.op (term_of c.deref.result.now) (term_of c.deref-in-Compare.result.now) (term_of c.args.expr.now) is c.in_ok-a-in-Compare.ensures.item);
      emits = on_ok c.emit_branch.result c.emit_branch.ensures (compare_emits c.args.site.now.layout (homes_of c.args.site.now.homes.items) s c.args.jump.sense c.args.jump.to c.side_type-want.result c.args.item.now c.args.draft.now c.emit_compared.new.draft c.emit_branch.new.draft c.in-Compare.op x y (term_of c.args.expr.now) c.compared_number-number.result c.in_ok-a-in-Compare.a.number c.in_ok-a-in-Compare.b.number is c.side_type-want.ensures c.compared_number-number.ensures.number sides.left sides.right sides.emits);
    }

pub emit_one_of-returns-in_ok-put-in-Compare : goal.emit_one_of-returns-in_ok-put-in-Compare
emit_one_of-returns-in_ok-put-in-Compare t c =
    let s = scope_of c.args.site.now.scope in
    let x = term_of c.deref.result.now in
    let y = term_of c.deref-in-Compare.result.now in
    let is : term_of c.args.cond.now ≡ Comparison c.in-Compare.op x y = compare_of c.args.cond.now c.in-Compare.op c.in-Compare.left c.in-Compare.right c.deref.result.now c.deref-in-Compare.result.now c.in-Compare.is c.deref.ensures c.deref-in-Compare.ensures in
    let sides = c.in_ok-p-in-Compare.ensures in
    record {
      register = IfOk-weaker c.emit_chosen.result _ _ (λ r p. p ∙ ap (reg_of c.args.site.now.layout) (compared_size (scope_of c.args.site.now.scope).index c.args.item.now c.emit_compared.new.item c.in-Compare.op (term_of c.deref.result.now) (term_of c.deref-in-Compare.result.now) (term_of c.args.cond.now) is c.in_ok-p-in-Compare.ensures.item)) c.emit_chosen.ensures.register;
      item = on_any c.emit_chosen.result (c.emit_chosen.ensures.item ∙ ap (λ (b : ℕ). b + 1) (compared_size (scope_of c.args.site.now.scope).index c.args.item.now c.emit_compared.new.item c.in-Compare.op (term_of c.deref.result.now) (term_of c.deref-in-Compare.result.now) (term_of c.args.cond.now) is c.in_ok-p-in-Compare.ensures.item));
      emits = on_ok c.emit_chosen.result c.emit_chosen.ensures.emits (chosen_emits c.args.site.now.layout (homes_of c.args.site.now.homes.items) s c.side_type-want.result c.args.item.now c.emit_compared.new.item c.args.draft.now c.label.new.self c.label-2.new.self c.emit_compared.new.draft c.put.new.self c.emit_chosen.new.draft c.in-Compare.op x y (term_of c.args.cond.now) c.compared_number-number.result (word_view c.compare_word.result) c.in_ok-p-in-Compare.p.number c.in_ok-p-in-Compare.q.number c.args.a.number c.args.b.number is c.side_type-want.ensures c.compared_number-number.ensures.number c.compare_word.ensures.word sides.left sides.right sides.item c.in_ok-other.ensures.count c.in_ok-other.ensures.entries c.in_ok-end.ensures.count c.in_ok-end.ensures.entries sides.emits c.in_ok-put-in-Compare.ensures);
    }

-- ---- right sides

pub emit_side-returns-in-Some : goal.emit_side-returns-in-Some
emit_side-returns-in-Some t c =
    let s = scope_of c.args.site.now.scope in
    let e = term_of c.args.expr.now in
    let number = sym c.added_number.ensures.number ∙ c.in-Some.is in
    record {
      side = by_number (added_number c.args.op c.args.asked.want (term_of c.args.expr.now)) c.in-Some.number _ _ _ (sym c.added_number.ensures.number ∙ c.in-Some.is);
      item = literal_size (scope_of c.args.site.now.scope).index c.args.item.now (term_of c.args.expr.now) (subst (λ (o : Option ℕ). IsHeld o (term_of c.args.expr.now)) c.in-Some.is c.added_number.ensures.held);
      emits = record {
        labels = literal_labels s.index c.args.draft.now.labels e (subst (λ (o : Option ℕ). IsHeld o e) c.in-Some.is c.added_number.ensures.held);
        code = λ rest. ap (λ (l : List DraftEntry). c.args.draft.now.entries ++ l) (side_number (added_number c.args.op c.args.asked.want e) c.in-Some.number _ _ _ rest number);
      };
    }

pub emit_side-returns-in_ok-emit_parts-in-None : goal.emit_side-returns-in_ok-emit_parts-in-None
emit_side-returns-in_ok-emit_parts-in-None t c =
    let e = term_of c.args.expr.now in
    let number = sym c.added_number.ensures.number ∙ c.in-None.is in
    let parts = c.in_ok-emit_parts-in-None.ensures.emits in
    record {
      side = c.part_side-side.ensures ∙ by_part (added_number c.args.op c.args.asked.want (term_of c.args.expr.now)) (is_fused (scope_of c.args.site.now.scope) c.args.op c.args.asked.extent c.args.asked.want (term_of c.args.expr.now)) _ _ (sym c.added_number.ensures.number ∙ c.in-None.is) (sym c.is_fused-fused.ensures.fused ∙ c.if-fused.true);
      item = c.in_ok-emit_parts-in-None.ensures.item;
      emits = record {
        labels = parts.labels;
        code = λ rest. parts.code rest ∙ ap (λ (l : List DraftEntry). c.args.draft.now.entries ++ l) (side_parts (added_number c.args.op c.args.asked.want e) _ _ _ rest number (sym c.is_fused-fused.ensures.fused ∙ c.if-fused.true));
      };
    }

pub emit_side-returns-in_ok-r-in-None : goal.emit_side-returns-in_ok-r-in-None
emit_side-returns-in_ok-r-in-None t c =
    let e = term_of c.args.expr.now in
    let number = sym c.added_number.ensures.number ∙ c.in-None.is in
    let whole = c.in_ok-r-in-None.ensures.emits in
    record {
      side = ap Register c.in_ok-r-in-None.ensures.register ∙ by_register (added_number c.args.op c.args.asked.want (term_of c.args.expr.now)) (is_fused (scope_of c.args.site.now.scope) c.args.op c.args.asked.extent c.args.asked.want (term_of c.args.expr.now)) _ _ (sym c.added_number.ensures.number ∙ c.in-None.is) (sym c.is_fused-fused.ensures.fused ∙ c.if-fused.false);
      item = c.in_ok-r-in-None.ensures.item;
      emits = record {
        labels = whole.labels;
        code = λ rest. whole.code rest ∙ ap (λ (l : List DraftEntry). c.args.draft.now.entries ++ l) (side_whole (added_number c.args.op c.args.asked.want e) _ _ _ rest number (sym c.is_fused-fused.ensures.fused ∙ c.if-fused.false));
      };
    }

-- ---- elements

pub emit_read-returns-in-Some : goal.emit_read-returns-in-Some
emit_read-returns-in-Some t c =
    let a = name_of c.args.array.now in
    let e = term_of c.args.index.now in
    let L = c.args.site.now.layout in
    let hs = homes_of c.args.site.now.homes.items in
    let s = scope_of c.args.site.now.scope in
    let place = sym c.place_of.ensures ∙ ap (option_map register_number) c.in-Some.is in
    let none : index_items (scope_of c.args.site.now.scope).index (term_of c.args.index.now) ≡ 0 = no_items c.args.site.now.layout (register_at (homes_of c.args.site.now.homes.items) (name_of c.args.array.now)) c.in-Some.place.number (option_and_then element_type (lookup (scope_of c.args.site.now.scope) (name_of c.args.array.now))) (stream_offset (scope_of c.args.site.now.scope).index (term_of c.args.index.now)) (term_size (scope_of c.args.site.now.scope).index (term_of c.args.index.now)) (sym c.place_of.ensures ∙ ap (option_map register_number) c.in-Some.is) in
    record {
      register = IfOk-weaker c.emit_load.result _ _ (λ r p. p ∙ ap (reg_of c.args.site.now.layout) (placed_item c.args.item.now (index_items (scope_of c.args.site.now.scope).index (term_of c.args.index.now)) none)) c.emit_load.ensures.register;
      item = on_any c.emit_load.result (placed_items c.args.item.now (index_items (scope_of c.args.site.now.scope).index (term_of c.args.index.now)) c.emit_load.new.item none c.emit_load.ensures.item);
      emits = on_ok c.emit_load.result c.emit_load.ensures.emits (placed_emits L hs s c.args.extent None c.args.item.now c.args.draft.now c.emit_load.new.draft a e c.array_type-ty.result c.in-Some.place.number iteration c.array_type-ty.ensures place refl);
    }

pub emit_read-returns-in_ok-x-in-None : goal.emit_read-returns-in_ok-x-in-None
emit_read-returns-in_ok-x-in-None t c =
    let a = name_of c.args.array.now in
    let e = term_of c.args.index.now in
    let L = c.args.site.now.layout in
    let hs = homes_of c.args.site.now.homes.items in
    let s = scope_of c.args.site.now.scope in
    let place = sym c.place_of.ensures ∙ ap (option_map register_number) c.in-None.is in
    let index = c.in_ok-x-in-None.ensures in
    record {
      register = IfOk-weaker c.emit_load-in-None.result _ _ (λ r p. p ∙ ap (reg_of c.args.site.now.layout) c.in_ok-x-in-None.ensures.item) c.emit_load-in-None.ensures.register;
      item = on_any c.emit_load-in-None.result (indexed_items c.args.item.now (index_items (scope_of c.args.site.now.scope).index (term_of c.args.index.now)) c.emit_number.new.item c.emit_load-in-None.new.item c.in_ok-x-in-None.ensures.item c.emit_load-in-None.ensures.item);
      emits = on_ok c.emit_load-in-None.result c.emit_load-in-None.ensures.emits (element_emits L hs s c.args.extent None c.args.item.now c.emit_number.new.item c.args.draft.now c.emit_number.new.draft c.emit_load-in-None.new.draft a e c.array_type-ty.result c.register.result.number c.in_ok-x-in-None.x.number c.array_type-ty.ensures place index.item c.register.ensures index.register index.emits);
    }

-- ---- what calls ask for: operands below what is emitted, of their kinds, whose items are numbered

pub emit_loose-emit_loose-requires : goal.emit_loose-emit_loose-requires
emit_loose-emit_loose-requires t c = unary_call (scope_of c.args.site.now.scope).index t c.args.item.now c.in-Unary.op (term_of c.args.expr.now) (term_of c.deref-arg.result.now) (unary_of c.args.expr.now c.in-Unary.op c.in-Unary.arg c.deref-arg.result.now c.in-Unary.is c.deref-arg.ensures) c.decreases c.requires.kind c.requires.fits

pub emit_loose-want_unary-requires : goal.emit_loose-want_unary-requires
emit_loose-want_unary-requires t c = unary_room (scope_of c.args.site.now.scope).index c.args.item.now c.emit_loose.new.item c.in-Unary.op (term_of c.args.expr.now) (term_of c.deref-arg.result.now) (unary_of c.args.expr.now c.in-Unary.op c.in-Unary.arg c.deref-arg.result.now c.in-Unary.is c.deref-arg.ensures) c.in_ok-a-in-Unary.ensures.item c.requires.fits

pub emit_loose-emit_loose-requires-in-Shift : goal.emit_loose-emit_loose-requires-in-Shift
emit_loose-emit_loose-requires-in-Shift t c = shift_call (scope_of c.args.site.now.scope).index t c.args.item.now c.in-Shift.left_shift c.in-Shift.count (term_of c.args.expr.now) (term_of c.deref-arg-in-Shift.result.now) (shift_of c.args.expr.now c.in-Shift.left_shift c.in-Shift.arg c.in-Shift.count c.deref-arg-in-Shift.result.now c.in-Shift.is c.deref-arg-in-Shift.ensures) c.decreases c.requires.kind c.requires.fits

pub emit_loose-want_shift-requires : goal.emit_loose-want_shift-requires
emit_loose-want_shift-requires t c = shift_room (scope_of c.args.site.now.scope).index c.args.item.now c.emit_loose-in-Shift.new.item c.in-Shift.left_shift c.in-Shift.count (term_of c.args.expr.now) (term_of c.deref-arg-in-Shift.result.now) (shift_of c.args.expr.now c.in-Shift.left_shift c.in-Shift.arg c.in-Shift.count c.deref-arg-in-Shift.result.now c.in-Shift.is c.deref-arg-in-Shift.ensures) c.in_ok-a-in-Shift.ensures.item c.requires.fits

pub emit_loose-emit_loose-requires-in-Cast : goal.emit_loose-emit_loose-requires-in-Cast
emit_loose-emit_loose-requires-in-Cast t c = cast_call (scope_of c.args.site.now.scope).index t c.args.item.now c.in-Cast.ty (term_of c.args.expr.now) (term_of c.deref-arg-in-Cast.result.now) (cast_of c.args.expr.now c.in-Cast.arg c.in-Cast.ty c.deref-arg-in-Cast.result.now c.in-Cast.is c.deref-arg-in-Cast.ensures) c.decreases c.requires.kind c.requires.fits

pub emit_loose-want_cast-requires : goal.emit_loose-want_cast-requires
emit_loose-want_cast-requires t c = cast_room (scope_of c.args.site.now.scope).index c.args.item.now c.emit_loose-in-Cast.new.item c.in-Cast.ty (term_of c.args.expr.now) (term_of c.deref-arg-in-Cast.result.now) (cast_of c.args.expr.now c.in-Cast.arg c.in-Cast.ty c.deref-arg-in-Cast.result.now c.in-Cast.is c.deref-arg-in-Cast.ensures) c.in_ok-a-in-Cast.ensures.item c.requires.fits

pub emit_loose-emit_two-requires : goal.emit_loose-emit_two-requires
emit_loose-emit_two-requires t c = two_call (scope_of c.args.site.now.scope).index t c.args.item.now c.in-Binary.op (term_of c.args.expr.now) (term_of c.deref.result.now) (term_of c.deref-in-Binary.result.now) (binary_of c.args.expr.now c.in-Binary.op c.in-Binary.left c.in-Binary.right c.deref.result.now c.deref-in-Binary.result.now c.in-Binary.is c.deref.ensures c.deref-in-Binary.ensures) c.decreases c.requires.kind c.requires.fits

pub emit_loose-emit_read-requires : goal.emit_loose-emit_read-requires
emit_loose-emit_read-requires t c = read_call (scope_of c.args.site.now.scope).index t c.args.item.now (name_of c.in-Read.array) (term_of c.args.expr.now) (term_of c.deref-in-Read.result.now) (read_of c.args.expr.now c.in-Read.array c.in-Read.index c.deref-in-Read.result.now c.in-Read.is c.deref-in-Read.ensures) c.decreases c.requires.kind c.requires.fits

pub emit_loose-emit_loose-requires-in-Select : goal.emit_loose-emit_loose-requires-in-Select
emit_loose-emit_loose-requires-in-Select t c = yes_call (scope_of c.args.site.now.scope).index t c.args.item.now (term_of c.args.expr.now) (term_of c.in-Select.cond.value) (term_of c.deref-in-Select.result.now) (term_of c.in-Select.no.value) (select_of c.args.expr.now c.in-Select.cond c.in-Select.yes c.in-Select.no c.in-Select.cond.value c.deref-in-Select.result.now c.in-Select.no.value c.in-Select.is refl c.deref-in-Select.ensures refl) c.decreases c.requires.kind c.requires.fits

pub emit_loose-emit_loose-requires-in-Select-2 : goal.emit_loose-emit_loose-requires-in-Select-2
emit_loose-emit_loose-requires-in-Select-2 t c = no_call (scope_of c.args.site.now.scope).index t c.args.item.now c.emit_loose-in-Select.new.item (term_of c.args.expr.now) (term_of c.in-Select.cond.value) (term_of c.deref-in-Select.result.now) (term_of c.deref-in-Select-2.result.now) (select_of c.args.expr.now c.in-Select.cond c.in-Select.yes c.in-Select.no c.in-Select.cond.value c.deref-in-Select.result.now c.deref-in-Select-2.result.now c.in-Select.is refl c.deref-in-Select.ensures c.deref-in-Select-2.ensures) c.decreases c.requires.kind c.requires.fits c.in_ok-a-in-Select.ensures.item

pub emit_loose-emit_one_of-requires : goal.emit_loose-emit_one_of-requires
emit_loose-emit_one_of-requires t c = one_of_call (scope_of c.args.site.now.scope).index t c.args.item.now c.emit_loose-in-Select.new.item c.emit_loose-in-Select-2.new.item (term_of c.args.expr.now) (term_of c.deref-in-Select-3.result.now) (term_of c.deref-in-Select.result.now) (term_of c.deref-in-Select-2.result.now) (select_of c.args.expr.now c.in-Select.cond c.in-Select.yes c.in-Select.no c.deref-in-Select-3.result.now c.deref-in-Select.result.now c.deref-in-Select-2.result.now c.in-Select.is c.deref-in-Select-3.ensures c.deref-in-Select.ensures c.deref-in-Select-2.ensures) c.decreases c.requires.kind c.requires.fits c.in_ok-a-in-Select.ensures.item c.in_ok-b-in-Select.ensures.item

pub emit_two-emit_sides-requires : goal.emit_two-emit_sides-requires
emit_two-emit_sides-requires t c = (sides_below t (max (term_depth (term_of c.args.left.now)) (term_depth (term_of c.args.right.now))) c.decreases, (c.requires.left, (c.requires.right, c.requires.fits)))

pub emit_sides-emit_parts-requires : goal.emit_sides-emit_parts-requires
emit_sides-emit_parts-requires t c = (left_side_below t (term_depth (term_of c.args.left.now)) (term_depth (term_of c.args.right.now)) c.decreases, (c.requires.left, (subst (λ (b : Bool). HasParts b (term_of c.args.left.now)) c.if-is_led.true c.is_led.ensures.parts, left_room c.args.item.now (term_size (scope_of c.args.site.now.scope).index (term_of c.args.left.now)) (term_size (scope_of c.args.site.now.scope).index (term_of c.args.right.now)) c.requires.fits)))

pub emit_sides-emit_loose-requires : goal.emit_sides-emit_loose-requires
emit_sides-emit_loose-requires t c = (right_side_below t (term_depth (term_of c.args.left.now)) (term_depth (term_of c.args.right.now)) c.decreases, (c.requires.right, right_room c.args.item.now (term_size (scope_of c.args.site.now.scope).index (term_of c.args.left.now)) (term_size (scope_of c.args.site.now.scope).index (term_of c.args.right.now)) (c.emit_parts.new.item + 1) c.requires.fits c.in_ok-emit_parts.ensures.item))

pub emit_sides-emit_loose-requires-else-is_led : goal.emit_sides-emit_loose-requires-else-is_led
emit_sides-emit_loose-requires-else-is_led t c = (left_side_below t (term_depth (term_of c.args.left.now)) (term_depth (term_of c.args.right.now)) c.decreases, (c.requires.left, left_room c.args.item.now (term_size (scope_of c.args.site.now.scope).index (term_of c.args.left.now)) (term_size (scope_of c.args.site.now.scope).index (term_of c.args.right.now)) c.requires.fits))

pub emit_sides-emit_side-requires : goal.emit_sides-emit_side-requires
emit_sides-emit_side-requires t c = (four_3_to_right_2 t (term_depth (term_of c.args.left.now)) (term_depth (term_of c.args.right.now)) c.decreases, (c.requires.right, right_room c.args.item.now (term_size (scope_of c.args.site.now.scope).index (term_of c.args.left.now)) (term_size (scope_of c.args.site.now.scope).index (term_of c.args.right.now)) c.emit_loose-else-is_led.new.item c.requires.fits c.in_ok-r-2.ensures.item))

pub emit_side-emit_parts-requires : goal.emit_side-emit_parts-requires
emit_side-emit_parts-requires t c = (four_2_to_1 t (term_depth (term_of c.args.expr.now)) c.decreases, (c.requires.kind, (subst (λ (b : Bool). HasParts b (term_of c.args.expr.now)) c.if-fused.true c.is_fused-fused.ensures.parts, c.requires.fits)))

pub emit_side-emit_loose-requires : goal.emit_side-emit_loose-requires
emit_side-emit_loose-requires t c = (four_2_to_1 t (term_depth (term_of c.args.expr.now)) c.decreases, (c.requires.kind, c.requires.fits))

pub emit_parts-emit_loose-requires : goal.emit_parts-emit_loose-requires
emit_parts-emit_loose-requires t c = left_call (scope_of c.args.site.now.scope).index t c.args.item.now c.in-Binary.op (term_of c.args.expr.now) (term_of c.deref.result.now) (term_of c.deref-in-Binary.result.now) (binary_of c.args.expr.now c.in-Binary.op c.in-Binary.left c.in-Binary.right c.deref.result.now c.deref-in-Binary.result.now c.in-Binary.is c.deref.ensures c.deref-in-Binary.ensures) c.decreases c.requires.kind c.requires.fits

pub emit_parts-emit_loose-requires-in-Binary : goal.emit_parts-emit_loose-requires-in-Binary
emit_parts-emit_loose-requires-in-Binary t c = right_call (scope_of c.args.site.now.scope).index t c.args.item.now c.emit_loose.new.item c.in-Binary.op (term_of c.args.expr.now) (term_of c.deref.result.now) (term_of c.deref-in-Binary.result.now) (binary_of c.args.expr.now c.in-Binary.op c.in-Binary.left c.in-Binary.right c.deref.result.now c.deref-in-Binary.result.now c.in-Binary.is c.deref.ensures c.deref-in-Binary.ensures) c.decreases c.requires.kind c.requires.fits c.in_ok-emit_loose-in-Binary.ensures.item

pub emit_parts-emit_loose-requires-in-Shift : goal.emit_parts-emit_loose-requires-in-Shift
emit_parts-emit_loose-requires-in-Shift t c = shift_call (scope_of c.args.site.now.scope).index t c.args.item.now c.in-Shift.left_shift c.in-Shift.count (term_of c.args.expr.now) (term_of c.deref-arg.result.now) (shift_of c.args.expr.now c.in-Shift.left_shift c.in-Shift.arg c.in-Shift.count c.deref-arg.result.now c.in-Shift.is c.deref-arg.ensures) c.decreases c.requires.kind c.requires.fits

pub emit_parts-emit_loose-requires-in-Cast : goal.emit_parts-emit_loose-requires-in-Cast
emit_parts-emit_loose-requires-in-Cast t c = cast_call (scope_of c.args.site.now.scope).index t c.args.item.now c.in-Cast.ty (term_of c.args.expr.now) (term_of c.deref-arg-in-Cast.result.now) (cast_of c.args.expr.now c.in-Cast.arg c.in-Cast.ty c.deref-arg-in-Cast.result.now c.in-Cast.is c.deref-arg-in-Cast.ensures) c.decreases c.requires.kind c.requires.fits

pub emit_compared-emit_loose-requires : goal.emit_compared-emit_loose-requires
emit_compared-emit_loose-requires t c = (four_2_to_left_1 t (term_depth (term_of c.args.left.now)) (term_depth (term_of c.args.right.now)) c.decreases, (c.requires.left, left_compared_room c.args.item.now (term_size (scope_of c.args.site.now.scope).index (term_of c.args.left.now)) (term_size (scope_of c.args.site.now.scope).index (term_of c.args.right.now)) c.requires.fits))

pub emit_compared-emit_loose-requires-in-None : goal.emit_compared-emit_loose-requires-in-None
emit_compared-emit_loose-requires-in-None t c = (four_2_to_right_1 t (term_depth (term_of c.args.left.now)) (term_depth (term_of c.args.right.now)) c.decreases, (c.requires.right, compared_room c.args.item.now (term_size (scope_of c.args.site.now.scope).index (term_of c.args.left.now)) (term_size (scope_of c.args.site.now.scope).index (term_of c.args.right.now)) c.emit_loose.new.item c.requires.fits c.in_ok-a.ensures.item))

pub emit_jump-emit_compared-requires : goal.emit_jump-emit_compared-requires
emit_jump-emit_compared-requires t c = compare_call (scope_of c.args.site.now.scope).index t c.args.item.now c.in-Compare.op (term_of c.args.expr.now) (term_of c.deref.result.now) (term_of c.deref-in-Compare.result.now) (compare_of c.args.expr.now c.in-Compare.op c.in-Compare.left c.in-Compare.right c.deref.result.now c.deref-in-Compare.result.now c.in-Compare.is c.deref.ensures c.deref-in-Compare.ensures) c.decreases c.requires.kind c.compared_number-number.ensures.held c.requires.fits

pub emit_one_of-emit_compared-requires : goal.emit_one_of-emit_compared-requires
emit_one_of-emit_compared-requires t c = chosen_call (scope_of c.args.site.now.scope).index t c.args.item.now c.in-Compare.op (term_of c.args.cond.now) (term_of c.deref.result.now) (term_of c.deref-in-Compare.result.now) (compare_of c.args.cond.now c.in-Compare.op c.in-Compare.left c.in-Compare.right c.deref.result.now c.deref-in-Compare.result.now c.in-Compare.is c.deref.ensures c.deref-in-Compare.ensures) c.decreases c.requires.kind c.compared_number-number.ensures.held c.requires.fits

pub emit_jump-emit_both-requires : goal.emit_jump-emit_both-requires
emit_jump-emit_both-requires t c = both_call (scope_of c.args.site.now.scope).index t c.args.item.now (term_of c.args.expr.now) (term_of c.deref-in-And.result.now) (term_of c.deref-in-And-2.result.now) (and_of c.args.expr.now c.in-And.left c.in-And.right c.deref-in-And.result.now c.deref-in-And-2.result.now c.in-And.is c.deref-in-And.ensures c.deref-in-And-2.ensures) c.decreases c.requires.given c.requires.kind c.requires.fits

pub emit_jump-emit_either-requires : goal.emit_jump-emit_either-requires
emit_jump-emit_either-requires t c = either_call (scope_of c.args.site.now.scope).index t c.args.item.now (term_of c.args.expr.now) (term_of c.deref-in-Or.result.now) (term_of c.deref-in-Or-2.result.now) (or_of c.args.expr.now c.in-Or.left c.in-Or.right c.deref-in-Or.result.now c.deref-in-Or-2.result.now c.in-Or.is c.deref-in-Or.ensures c.deref-in-Or-2.ensures) c.decreases c.requires.given c.requires.kind c.requires.fits

pub emit_jump-emit_jump-requires : goal.emit_jump-emit_jump-requires
emit_jump-emit_jump-requires t c = not_call (scope_of c.args.site.now.scope).index t c.args.item.now (term_of c.args.expr.now) (term_of c.deref-in-Not.result.now) (not_of c.args.expr.now c.in-Not.arg c.deref-in-Not.result.now c.in-Not.is c.deref-in-Not.ensures) c.decreases c.requires.given c.requires.kind c.requires.fits

pub emit_both-returns-in_err-over : goal.emit_both-returns-in_err-over
emit_both-returns-in_err-over t c = record { item = IfOk-from_err _ _ c.from_residual.ensures.0; emits = IfOk-from_err _ _ c.from_residual.ensures.0 }

pub emit_both-returns-in_err-emit_jump : goal.emit_both-returns-in_err-emit_jump
emit_both-returns-in_err-emit_jump t c = record { item = IfOk-from_err _ _ c.from_residual-in_err-emit_jump.ensures.0; emits = IfOk-from_err _ _ c.from_residual-in_err-emit_jump.ensures.0 }

pub emit_both-returns-in_err-emit_jump-2 : goal.emit_both-returns-in_err-emit_jump-2
emit_both-returns-in_err-emit_jump-2 t c = record { item = IfOk-from_err _ _ c.from_residual-in_err-emit_jump-2.ensures.0; emits = IfOk-from_err _ _ c.from_residual-in_err-emit_jump-2.ensures.0 }

pub emit_compared-returns-in_err-a : goal.emit_compared-returns-in_err-a
emit_compared-returns-in_err-a t c = record { left = IfOk-from_err _ _ c.from_residual.ensures.0; right = IfOk-from_err _ _ c.from_residual.ensures.0; item = IfOk-from_err _ _ c.from_residual.ensures.0; emits = IfOk-from_err _ _ c.from_residual.ensures.0 }

pub emit_compared-returns-in_err-b-in-None : goal.emit_compared-returns-in_err-b-in-None
emit_compared-returns-in_err-b-in-None t c = record { left = IfOk-from_err _ _ c.from_residual-in_err-b-in-None.ensures.0; right = IfOk-from_err _ _ c.from_residual-in_err-b-in-None.ensures.0; item = IfOk-from_err _ _ c.from_residual-in_err-b-in-None.ensures.0; emits = IfOk-from_err _ _ c.from_residual-in_err-b-in-None.ensures.0 }

pub emit_either-returns-in_err-over : goal.emit_either-returns-in_err-over
emit_either-returns-in_err-over t c = record { item = IfOk-from_err _ _ c.from_residual.ensures.0; emits = IfOk-from_err _ _ c.from_residual.ensures.0 }

pub emit_either-returns-in_err-emit_jump : goal.emit_either-returns-in_err-emit_jump
emit_either-returns-in_err-emit_jump t c = record { item = IfOk-from_err _ _ c.from_residual-in_err-emit_jump.ensures.0; emits = IfOk-from_err _ _ c.from_residual-in_err-emit_jump.ensures.0 }

pub emit_either-returns-in_err-emit_jump-2 : goal.emit_either-returns-in_err-emit_jump-2
emit_either-returns-in_err-emit_jump-2 t c = record { item = IfOk-from_err _ _ c.from_residual-in_err-emit_jump-2.ensures.0; emits = IfOk-from_err _ _ c.from_residual-in_err-emit_jump-2.ensures.0 }

pub emit_jump-returns-in_err-a-in-Compare : goal.emit_jump-returns-in_err-a-in-Compare
emit_jump-returns-in_err-a-in-Compare t c = record { item = IfOk-from_err _ _ c.from_residual.ensures.0; emits = IfOk-from_err _ _ c.from_residual.ensures.0 }

pub emit_jump-returns-in_err-emit_jump-in-Not : goal.emit_jump-returns-in_err-emit_jump-in-Not
emit_jump-returns-in_err-emit_jump-in-Not t c = record { item = IfOk-from_err _ _ c.from_residual-in_err-emit_jump-in-Not.ensures.0; emits = IfOk-from_err _ _ c.from_residual-in_err-emit_jump-in-Not.ensures.0 }

pub emit_loose-returns-in_err-a-in-Unary : goal.emit_loose-returns-in_err-a-in-Unary
emit_loose-returns-in_err-a-in-Unary t c = record { register = IfOk-from_err _ _ c.from_residual.ensures.0; item = IfOk-from_err _ _ c.from_residual.ensures.0; emits = IfOk-from_err _ _ c.from_residual.ensures.0 }

pub emit_loose-returns-in_err-a-in-Shift : goal.emit_loose-returns-in_err-a-in-Shift
emit_loose-returns-in_err-a-in-Shift t c = record { register = IfOk-from_err _ _ c.from_residual-in_err-a-in-Shift.ensures.0; item = IfOk-from_err _ _ c.from_residual-in_err-a-in-Shift.ensures.0; emits = IfOk-from_err _ _ c.from_residual-in_err-a-in-Shift.ensures.0 }

pub emit_loose-returns-in_err-a-in-Cast : goal.emit_loose-returns-in_err-a-in-Cast
emit_loose-returns-in_err-a-in-Cast t c = record { register = IfOk-from_err _ _ c.from_residual-in_err-a-in-Cast.ensures.0; item = IfOk-from_err _ _ c.from_residual-in_err-a-in-Cast.ensures.0; emits = IfOk-from_err _ _ c.from_residual-in_err-a-in-Cast.ensures.0 }

pub emit_loose-returns-in_err-a-in-Select : goal.emit_loose-returns-in_err-a-in-Select
emit_loose-returns-in_err-a-in-Select t c = record { register = IfOk-from_err _ _ c.from_residual-in_err-a-in-Select.ensures.0; item = IfOk-from_err _ _ c.from_residual-in_err-a-in-Select.ensures.0; emits = IfOk-from_err _ _ c.from_residual-in_err-a-in-Select.ensures.0 }

pub emit_loose-returns-in_err-b-in-Select : goal.emit_loose-returns-in_err-b-in-Select
emit_loose-returns-in_err-b-in-Select t c = record { register = IfOk-from_err _ _ c.from_residual-in_err-b-in-Select.ensures.0; item = IfOk-from_err _ _ c.from_residual-in_err-b-in-Select.ensures.0; emits = IfOk-from_err _ _ c.from_residual-in_err-b-in-Select.ensures.0 }

pub emit_one_of-returns-in_err-other : goal.emit_one_of-returns-in_err-other
emit_one_of-returns-in_err-other t c = record { register = IfOk-from_err _ _ c.from_residual.ensures.0; item = IfOk-from_err _ _ c.from_residual.ensures.0; emits = IfOk-from_err _ _ c.from_residual.ensures.0 }

pub emit_one_of-returns-in_err-end : goal.emit_one_of-returns-in_err-end
emit_one_of-returns-in_err-end t c = record { register = IfOk-from_err _ _ c.from_residual-in_err-end.ensures.0; item = IfOk-from_err _ _ c.from_residual-in_err-end.ensures.0; emits = IfOk-from_err _ _ c.from_residual-in_err-end.ensures.0 }

pub emit_one_of-returns-in_err-p-in-Compare : goal.emit_one_of-returns-in_err-p-in-Compare
emit_one_of-returns-in_err-p-in-Compare t c = record { register = IfOk-from_err _ _ c.from_residual-in_err-p-in-Compare.ensures.0; item = IfOk-from_err _ _ c.from_residual-in_err-p-in-Compare.ensures.0; emits = IfOk-from_err _ _ c.from_residual-in_err-p-in-Compare.ensures.0 }

pub emit_one_of-returns-in_err-put-in-Compare : goal.emit_one_of-returns-in_err-put-in-Compare
emit_one_of-returns-in_err-put-in-Compare t c = record { register = IfOk-from_err _ _ c.from_residual-in_err-put-in-Compare.ensures.0; item = IfOk-from_err _ _ c.from_residual-in_err-put-in-Compare.ensures.0; emits = IfOk-from_err _ _ c.from_residual-in_err-put-in-Compare.ensures.0 }

pub emit_one_of-returns-in_err-emit_jump-in_default : goal.emit_one_of-returns-in_err-emit_jump-in_default
emit_one_of-returns-in_err-emit_jump-in_default t c = record { register = IfOk-from_err _ _ c.from_residual-in_err-emit_jump-in_default.ensures.0; item = IfOk-from_err _ _ c.from_residual-in_err-emit_jump-in_default.ensures.0; emits = IfOk-from_err _ _ c.from_residual-in_err-emit_jump-in_default.ensures.0 }

pub emit_parts-returns-in_err-emit_loose-in-Binary : goal.emit_parts-returns-in_err-emit_loose-in-Binary
emit_parts-returns-in_err-emit_loose-in-Binary t c = record { item = IfOk-from_err _ _ c.from_residual.ensures.0; emits = IfOk-from_err _ _ c.from_residual.ensures.0 }

pub emit_read-returns-in_err-x-in-None : goal.emit_read-returns-in_err-x-in-None
emit_read-returns-in_err-x-in-None t c = record { register = IfOk-from_err _ _ c.from_residual.ensures.0; item = IfOk-from_err _ _ c.from_residual.ensures.0; emits = IfOk-from_err _ _ c.from_residual.ensures.0 }

pub emit_side-returns-in_err-emit_parts-in-None : goal.emit_side-returns-in_err-emit_parts-in-None
emit_side-returns-in_err-emit_parts-in-None t c = record { side = IfOk-from_err _ _ c.from_residual.ensures.0; item = IfOk-from_err _ _ c.from_residual.ensures.0; emits = IfOk-from_err _ _ c.from_residual.ensures.0 }

pub emit_side-returns-in_err-r-in-None : goal.emit_side-returns-in_err-r-in-None
emit_side-returns-in_err-r-in-None t c = record { side = IfOk-from_err _ _ c.from_residual-in_err-r-in-None.ensures.0; item = IfOk-from_err _ _ c.from_residual-in_err-r-in-None.ensures.0; emits = IfOk-from_err _ _ c.from_residual-in_err-r-in-None.ensures.0 }

pub emit_two-returns-in_err-sides : goal.emit_two-returns-in_err-sides
emit_two-returns-in_err-sides t c = record { register = IfOk-from_err _ _ c.from_residual.ensures.0; item = IfOk-from_err _ _ c.from_residual.ensures.0; emits = IfOk-from_err _ _ c.from_residual.ensures.0 }

-- ---- two conditions, one after another

pub emit_both-emit_jump-requires : goal.emit_both-emit_jump-requires
emit_both-emit_jump-requires t c =
    let first : c.if-sense.to ≡ (if c.args.jump.sense then c.in_ok-over.over else c.args.jump.to) = elim c.if-sense.branch [ emit_both-then-sense w ↦ w.to-is ∙ sym (ap (λ (v : Bool). if v then c.in_ok-over.over else c.args.jump.to) w.if-sense.true) | emit_both-else-sense w ↦ w.to-is ∙ sym (ap (λ (v : Bool). if v then c.in_ok-over.over else c.args.jump.to) w.if-sense.false) ] in
    (four_2_to_left_0 t (term_depth (term_of c.args.left.now)) (term_depth (term_of c.args.right.now)) c.decreases, (both_given c.args.jump.sense c.if-sense.to c.in_ok-over.over c.args.jump.to c.args.draft.now.labels c.label.new.self.labels first c.in_ok-over.ensures.next c.in_ok-over.ensures.count c.requires.given, (c.requires.left, left_room c.args.item.now (term_size (scope_of c.args.site.now.scope).index (term_of c.args.left.now)) (term_size (scope_of c.args.site.now.scope).index (term_of c.args.right.now)) c.requires.fits)))

pub emit_both-emit_jump-requires-2 : goal.emit_both-emit_jump-requires-2
emit_both-emit_jump-requires-2 t c = (four_2_to_right_0 t (term_depth (term_of c.args.left.now)) (term_depth (term_of c.args.right.now)) c.decreases, (given_past_label c.args.jump.to c.args.draft.now.labels c.label.new.self.labels c.emit_jump.new.draft.labels (labels (scope_of c.args.site.now.scope).index (term_of c.args.left.now)) c.requires.given c.in_ok-over.ensures.count c.in_ok-emit_jump.ensures.emits.labels, (c.requires.right, right_room c.args.item.now (term_size (scope_of c.args.site.now.scope).index (term_of c.args.left.now)) (term_size (scope_of c.args.site.now.scope).index (term_of c.args.right.now)) c.emit_jump.new.item c.requires.fits c.in_ok-emit_jump.ensures.item)))

pub emit_both-overflow_add-item : goal.emit_both-overflow_add-item
emit_both-overflow_add-item t c = last_fits c.args.item.now (term_size (scope_of c.args.site.now.scope).index (term_of c.args.left.now)) (term_size (scope_of c.args.site.now.scope).index (term_of c.args.right.now)) c.emit_jump.new.item c.emit_jump-2.new.item c.requires.fits c.in_ok-emit_jump.ensures.item c.in_ok-emit_jump-2.ensures.item

pub emit_both-emit_placed-requires : goal.emit_both-emit_placed-requires
emit_both-emit_placed-requires t c = given_past_two_parts c.in_ok-over.over c.args.draft.now.labels c.label.new.self.labels c.emit_jump.new.draft.labels c.emit_jump-2.new.draft.labels (labels (scope_of c.args.site.now.scope).index (term_of c.args.left.now)) (labels (scope_of c.args.site.now.scope).index (term_of c.args.right.now)) c.in_ok-over.ensures.next c.in_ok-over.ensures.count c.in_ok-emit_jump.ensures.emits.labels c.in_ok-emit_jump-2.ensures.emits.labels

pub emit_either-emit_jump-requires : goal.emit_either-emit_jump-requires
emit_either-emit_jump-requires t c =
    let first : c.if-sense.to ≡ (if c.args.jump.sense then c.args.jump.to else c.in_ok-over.over) = elim c.if-sense.branch [ emit_either-then-sense w ↦ w.to-is ∙ sym (ap (λ (v : Bool). if v then c.args.jump.to else c.in_ok-over.over) w.if-sense.true) | emit_either-else-sense w ↦ w.to-is ∙ sym (ap (λ (v : Bool). if v then c.args.jump.to else c.in_ok-over.over) w.if-sense.false) ] in
    (four_2_to_left_0 t (term_depth (term_of c.args.left.now)) (term_depth (term_of c.args.right.now)) c.decreases, (either_given c.args.jump.sense c.if-sense.to c.in_ok-over.over c.args.jump.to c.args.draft.now.labels c.label.new.self.labels first c.in_ok-over.ensures.next c.in_ok-over.ensures.count c.requires.given, (c.requires.left, either_left_room c.args.item.now (term_size (scope_of c.args.site.now.scope).index (term_of c.args.left.now)) (term_size (scope_of c.args.site.now.scope).index (term_of c.args.right.now)) c.requires.fits)))

pub emit_either-overflow_add-item : goal.emit_either-overflow_add-item
emit_either-overflow_add-item t c = either_mark_fits c.args.item.now (term_size (scope_of c.args.site.now.scope).index (term_of c.args.left.now)) (term_size (scope_of c.args.site.now.scope).index (term_of c.args.right.now)) c.emit_jump.new.item c.requires.fits c.in_ok-emit_jump.ensures.item

pub emit_either-emit_jump-requires-2 : goal.emit_either-emit_jump-requires-2
emit_either-emit_jump-requires-2 t c = (four_2_to_right_0 t (term_depth (term_of c.args.left.now)) (term_depth (term_of c.args.right.now)) c.decreases, (given_past_label c.args.jump.to c.args.draft.now.labels c.label.new.self.labels c.emit_jump.new.draft.labels (labels (scope_of c.args.site.now.scope).index (term_of c.args.left.now)) c.requires.given c.in_ok-over.ensures.count c.in_ok-emit_jump.ensures.emits.labels, (c.requires.right, either_right_room c.args.item.now (term_size (scope_of c.args.site.now.scope).index (term_of c.args.left.now)) (term_size (scope_of c.args.site.now.scope).index (term_of c.args.right.now)) c.emit_jump.new.item c.requires.fits c.in_ok-emit_jump.ensures.item)))

pub emit_either-overflow_add-item-2 : goal.emit_either-overflow_add-item-2
emit_either-overflow_add-item-2 t c = either_last_fits c.args.item.now (term_size (scope_of c.args.site.now.scope).index (term_of c.args.left.now)) (term_size (scope_of c.args.site.now.scope).index (term_of c.args.right.now)) c.emit_jump.new.item c.emit_jump-2.new.item c.requires.fits c.in_ok-emit_jump.ensures.item c.in_ok-emit_jump-2.ensures.item

pub emit_either-emit_placed-requires : goal.emit_either-emit_placed-requires
emit_either-emit_placed-requires t c = given_past_two_parts c.in_ok-over.over c.args.draft.now.labels c.label.new.self.labels c.emit_jump.new.draft.labels c.emit_jump-2.new.draft.labels (labels (scope_of c.args.site.now.scope).index (term_of c.args.left.now)) (labels (scope_of c.args.site.now.scope).index (term_of c.args.right.now)) c.in_ok-over.ensures.next c.in_ok-over.ensures.count c.in_ok-emit_jump.ensures.emits.labels c.in_ok-emit_jump-2.ensures.emits.labels

-- ---- two values that are compared

pub emit_compared-home_of-b-requires : goal.emit_compared-home_of-b-requires
emit_compared-home_of-b-requires t c = compared_room c.args.item.now (term_size (scope_of c.args.site.now.scope).index (term_of c.args.left.now)) (term_size (scope_of c.args.site.now.scope).index (term_of c.args.right.now)) c.emit_loose.new.item c.requires.fits c.in_ok-a.ensures.item

pub emit_compared-overflow_add-item : goal.emit_compared-overflow_add-item
emit_compared-overflow_add-item t c = compared_fits c.args.item.now (term_size (scope_of c.args.site.now.scope).index (term_of c.args.left.now)) (term_size (scope_of c.args.site.now.scope).index (term_of c.args.right.now)) c.emit_loose.new.item c.requires.fits c.in_ok-a.ensures.item

pub emit_compared-returns-in_ok-b-in-None : goal.emit_compared-returns-in_ok-b-in-None
emit_compared-returns-in_ok-b-in-None t c = record {
  left = c.in_ok-a.ensures.register;
  right = c.in_ok-b-in-None.ensures.register ∙ ap (λ (b : ℕ). home c.args.site.now.layout (homes_of c.args.site.now.homes.items) (scope_of c.args.site.now.scope).index b (term_of c.args.right.now)) c.in_ok-a.ensures.item;
  item = c.in_ok-b-in-None.ensures.item ∙ ap (λ (b : ℕ). b + term_size (scope_of c.args.site.now.scope).index (term_of c.args.right.now)) c.in_ok-a.ensures.item;
  emits = record {
    labels = c.in_ok-b-in-None.ensures.emits.labels ∙ ap (λ (n : ℕ). n + labels (scope_of c.args.site.now.scope).index (term_of c.args.right.now)) c.in_ok-a.ensures.emits.labels;
    code = λ rest. c.in_ok-b-in-None.ensures.emits.code rest ∙ c.in_ok-a.ensures.emits.code _ ∙ ap (λ (l : List DraftEntry). c.args.draft.now.entries ++ l)
        (compared_both c.args.site.now.layout (homes_of c.args.site.now.homes.items) (scope_of c.args.site.now.scope) c.args.want c.args.item.now c.args.draft.now.labels c.emit_loose.new.item c.emit_loose.new.draft.labels (term_of c.args.left.now) (term_of c.args.right.now) c.args.number rest c.in-None.is c.in_ok-a.ensures.item c.in_ok-a.ensures.emits.labels);
  };
}

-- ---- a condition by its kind

pub emit_jump-overflow_add-item : goal.emit_jump-overflow_add-item
emit_jump-overflow_add-item t c =
    let is : term_of c.args.expr.now ≡ Comparison c.in-Compare.op (term_of c.deref.result.now) (term_of c.deref-in-Compare.result.now) = compare_of c.args.expr.now c.in-Compare.op c.in-Compare.left c.in-Compare.right c.deref.result.now c.deref-in-Compare.result.now c.in-Compare.is c.deref.ensures c.deref-in-Compare.ensures in
    truth_fits c.args.item.now (term_size (scope_of c.args.site.now.scope).index (term_of c.deref.result.now)) (term_size (scope_of c.args.site.now.scope).index (term_of c.deref-in-Compare.result.now)) (term_size (scope_of c.args.site.now.scope).index (term_of c.args.expr.now)) c.emit_compared.new.item (ap (term_size (scope_of c.args.site.now.scope).index) is) c.requires.fits c.in_ok-a-in-Compare.ensures.item

pub emit_jump-emit_branch-requires : goal.emit_jump-emit_branch-requires
emit_jump-emit_branch-requires t c = compared_given c.args.jump.to c.args.draft.now.labels c.emit_compared.new.draft.labels (labels (scope_of c.args.site.now.scope).index (term_of c.deref.result.now)) (labels (scope_of c.args.site.now.scope).index (term_of c.deref-in-Compare.result.now)) c.requires.given c.in_ok-a-in-Compare.ensures.emits.labels

pub emit_jump-returns-in-And : goal.emit_jump-returns-in-And
emit_jump-returns-in-And t c =
    let is : term_of c.args.expr.now ≡ Both (term_of c.deref-in-And.result.now) (term_of c.deref-in-And-2.result.now) = and_of c.args.expr.now c.in-And.left c.in-And.right c.deref-in-And.result.now c.deref-in-And-2.result.now c.in-And.is c.deref-in-And.ensures c.deref-in-And-2.ensures in
    record {
      item = on_ok_weaker c.emit_both.result (item_as (scope_of c.args.site.now.scope).index c.args.item.now c.emit_both.new.item (term_of c.args.expr.now) _ is) c.emit_both.ensures.item;
      emits = on_ok_weaker c.emit_both.result (λ p. jump_as c.args.site.now.layout (homes_of c.args.site.now.homes.items) (scope_of c.args.site.now.scope) c.args.jump.sense c.args.jump.to c.args.item.now c.args.draft.now c.emit_both.new.draft (term_of c.args.expr.now) (Both (term_of c.deref-in-And.result.now) (term_of c.deref-in-And-2.result.now)) is p) c.emit_both.ensures.emits;
    }

pub emit_jump-returns-in-Or : goal.emit_jump-returns-in-Or
emit_jump-returns-in-Or t c =
    let is : term_of c.args.expr.now ≡ Either (term_of c.deref-in-Or.result.now) (term_of c.deref-in-Or-2.result.now) = or_of c.args.expr.now c.in-Or.left c.in-Or.right c.deref-in-Or.result.now c.deref-in-Or-2.result.now c.in-Or.is c.deref-in-Or.ensures c.deref-in-Or-2.ensures in
    record {
      item = on_ok_weaker c.emit_either.result (item_as (scope_of c.args.site.now.scope).index c.args.item.now c.emit_either.new.item (term_of c.args.expr.now) _ is) c.emit_either.ensures.item;
      emits = on_ok_weaker c.emit_either.result (λ p. jump_as c.args.site.now.layout (homes_of c.args.site.now.homes.items) (scope_of c.args.site.now.scope) c.args.jump.sense c.args.jump.to c.args.item.now c.args.draft.now c.emit_either.new.draft (term_of c.args.expr.now) (Either (term_of c.deref-in-Or.result.now) (term_of c.deref-in-Or-2.result.now)) is p) c.emit_either.ensures.emits;
    }

pub emit_jump-overflow_add-item-in-Not : goal.emit_jump-overflow_add-item-in-Not
emit_jump-overflow_add-item-in-Not t c =
    let is : term_of c.args.expr.now ≡ Not (term_of c.deref-in-Not.result.now) = not_of c.args.expr.now c.in-Not.arg c.deref-in-Not.result.now c.in-Not.is c.deref-in-Not.ensures in
    not_fits c.args.item.now (term_size (scope_of c.args.site.now.scope).index (term_of c.deref-in-Not.result.now)) (term_size (scope_of c.args.site.now.scope).index (term_of c.args.expr.now)) c.emit_jump.new.item (ap (term_size (scope_of c.args.site.now.scope).index) is) c.requires.fits c.in_ok-emit_jump-in-Not.ensures.item

pub emit_jump-returns-in_ok-emit_jump-in-Not : goal.emit_jump-returns-in_ok-emit_jump-in-Not
emit_jump-returns-in_ok-emit_jump-in-Not t c =
    let is : term_of c.args.expr.now ≡ Not (term_of c.deref-in-Not.result.now) = not_of c.args.expr.now c.in-Not.arg c.deref-in-Not.result.now c.in-Not.is c.deref-in-Not.ensures in
    record {
      item = one_part c.args.item.now (term_size (scope_of c.args.site.now.scope).index (term_of c.args.expr.now)) (term_size (scope_of c.args.site.now.scope).index (term_of c.deref-in-Not.result.now)) c.emit_jump.new.item (ap (term_size (scope_of c.args.site.now.scope).index) is) c.in_ok-emit_jump-in-Not.ensures.item;
      emits = jump_as c.args.site.now.layout (homes_of c.args.site.now.homes.items) (scope_of c.args.site.now.scope) c.args.jump.sense c.args.jump.to c.args.item.now c.args.draft.now c.emit_jump.new.draft (term_of c.args.expr.now) (Not (term_of c.deref-in-Not.result.now)) is (record { labels = c.in_ok-emit_jump-in-Not.ensures.emits.labels; code = λ rest. c.in_ok-emit_jump-in-Not.ensures.emits.code rest });
    }

-- ---- a value by its kind

pub emit_loose-emit_literal-requires : goal.emit_loose-emit_literal-requires
emit_loose-emit_literal-requires t c = own_room c.args.item.now (term_size (scope_of c.args.site.now.scope).index (term_of c.args.expr.now)) c.requires.fits

pub emit_loose-take_held-requires : goal.emit_loose-take_held-requires
emit_loose-take_held-requires t c = own_room c.args.item.now (term_size (scope_of c.args.site.now.scope).index (term_of c.args.expr.now)) c.requires.fits

pub emit_loose-returns-in-Lit : goal.emit_loose-returns-in-Lit
emit_loose-returns-in-Lit t c =
    let is : term_of c.args.expr.now ≡ Literal c.in-Lit.value = ap term_of c.in-Lit.is in
    let in_range : SFits w128 c.in-Lit.value = search rules in
    record {
      register = IfOk-weaker c.emit_literal.result _ _ (λ r p. p ∙ ap (literal_home c.args.site.now.layout c.args.item.now) (to_z-of_z w128 c.in-Lit.value in_range) ∙ ap (home c.args.site.now.layout (homes_of c.args.site.now.homes.items) (scope_of c.args.site.now.scope).index c.args.item.now) (sym is)) c.emit_literal.ensures.register;
      item = on_ok_weaker c.emit_literal.result (item_as (scope_of c.args.site.now.scope).index c.args.item.now c.emit_literal.new.item (term_of c.args.expr.now) _ is) c.emit_literal.ensures.item;
      emits = on_ok_weaker c.emit_literal.result (λ p. loose_literal c.args.site.now.layout (homes_of c.args.site.now.homes.items) (scope_of c.args.site.now.scope) c.args.asked.extent c.args.asked.want c.args.item.now c.args.draft.now c.emit_literal.new.draft (term_of c.args.expr.now) c.in-Lit.value (to_z w128 (of_z w128 c.in-Lit.value)) is (to_z-of_z w128 c.in-Lit.value in_range) p) c.emit_literal.ensures.emits;
    }

pub emit_loose-returns-in-Var : goal.emit_loose-returns-in-Var
emit_loose-returns-in-Var t c =
    let is : term_of c.args.expr.now ≡ Variable (name_of c.in-Var.name) = ap term_of c.in-Var.is in
    record {
      register = c.take_held.ensures.register ∙ ap (home c.args.site.now.layout (homes_of c.args.site.now.homes.items) (scope_of c.args.site.now.scope).index c.args.item.now) (sym is);
      item = c.take_held.ensures.item ∙ (ap (λ (e : Term). c.args.item.now + term_size (scope_of c.args.site.now.scope).index e) (sym is));
      emits = loose_variable c.args.site.now.layout (homes_of c.args.site.now.homes.items) (scope_of c.args.site.now.scope) c.args.asked.extent c.args.asked.want c.args.item.now c.args.draft.now (term_of c.args.expr.now) (name_of c.in-Var.name) is;
    }

pub emit_loose-returns-in-Binary : goal.emit_loose-returns-in-Binary
emit_loose-returns-in-Binary t c =
    let is : term_of c.args.expr.now ≡ Operation c.in-Binary.op (term_of c.deref.result.now) (term_of c.deref-in-Binary.result.now) = binary_of c.args.expr.now c.in-Binary.op c.in-Binary.left c.in-Binary.right c.deref.result.now c.deref-in-Binary.result.now c.in-Binary.is c.deref.ensures c.deref-in-Binary.ensures in
    record {
      register = home_as c.args.site.now.layout (homes_of c.args.site.now.homes.items) (scope_of c.args.site.now.scope).index c.args.item.now (term_of c.args.expr.now) (Operation c.in-Binary.op (term_of c.deref.result.now) (term_of c.deref-in-Binary.result.now)) register_number c.emit_two.result is c.emit_two.ensures.register;
      item = on_ok_weaker c.emit_two.result (item_as (scope_of c.args.site.now.scope).index c.args.item.now c.emit_two.new.item (term_of c.args.expr.now) _ is) c.emit_two.ensures.item;
      emits = on_ok_weaker c.emit_two.result (λ p. loose_as c.args.site.now.layout (homes_of c.args.site.now.homes.items) (scope_of c.args.site.now.scope) c.args.asked.extent c.args.asked.want c.args.item.now c.args.draft.now c.emit_two.new.draft (term_of c.args.expr.now) (Operation c.in-Binary.op (term_of c.deref.result.now) (term_of c.deref-in-Binary.result.now)) is p) c.emit_two.ensures.emits;
    }

pub emit_loose-returns-in-Read : goal.emit_loose-returns-in-Read
emit_loose-returns-in-Read t c =
    let is : term_of c.args.expr.now ≡ Element (name_of c.in-Read.array) (term_of c.deref-in-Read.result.now) = read_of c.args.expr.now c.in-Read.array c.in-Read.index c.deref-in-Read.result.now c.in-Read.is c.deref-in-Read.ensures in
    record {
      register = home_as c.args.site.now.layout (homes_of c.args.site.now.homes.items) (scope_of c.args.site.now.scope).index c.args.item.now (term_of c.args.expr.now) (Element (name_of c.in-Read.array) (term_of c.deref-in-Read.result.now)) register_number c.emit_read.result is c.emit_read.ensures.register;
      item = on_ok_weaker c.emit_read.result (item_as (scope_of c.args.site.now.scope).index c.args.item.now c.emit_read.new.item (term_of c.args.expr.now) _ is) c.emit_read.ensures.item;
      emits = on_ok_weaker c.emit_read.result (λ p. loose_as c.args.site.now.layout (homes_of c.args.site.now.homes.items) (scope_of c.args.site.now.scope) c.args.asked.extent c.args.asked.want c.args.item.now c.args.draft.now c.emit_read.new.draft (term_of c.args.expr.now) (Element (name_of c.in-Read.array) (term_of c.deref-in-Read.result.now)) is (record { labels = p.labels; code = λ rest. p.code rest })) c.emit_read.ensures.emits;
    }

-- ---- the index of an element

pub emit_number-emit_offset-requires : goal.emit_number-emit_offset-requires
emit_number-emit_offset-requires t c = record { plain = c.in-Some.ensures.plain }

pub emit_number-emit_loose-requires : goal.emit_number-emit_loose-requires
emit_number-emit_loose-requires t c = (four_2_to_1 t (term_depth (term_of c.args.number.now)) c.decreases, (c.requires.kind, subst (λ (k : ℕ). c.args.item.now + k < 2 ^ 32) (sym (computed_items (stream_offset (scope_of c.args.site.now.scope).index (term_of c.args.number.now)) (term_size (scope_of c.args.site.now.scope).index (term_of c.args.number.now)) (sym c.in-None.ensures.word))) c.requires.fits))

-- ---- one of two registers

pub emit_one_of-overflow_add-item : goal.emit_one_of-overflow_add-item
emit_one_of-overflow_add-item t c =
    let is : term_of c.args.cond.now ≡ Comparison c.in-Compare.op (term_of c.deref.result.now) (term_of c.deref-in-Compare.result.now) = compare_of c.args.cond.now c.in-Compare.op c.in-Compare.left c.in-Compare.right c.deref.result.now c.deref-in-Compare.result.now c.in-Compare.is c.deref.ensures c.deref-in-Compare.ensures in
    chosen_fits c.args.item.now (term_size (scope_of c.args.site.now.scope).index (term_of c.deref.result.now)) (term_size (scope_of c.args.site.now.scope).index (term_of c.deref-in-Compare.result.now)) (term_size (scope_of c.args.site.now.scope).index (term_of c.args.cond.now)) c.emit_compared.new.item (ap (term_size (scope_of c.args.site.now.scope).index) is) c.requires.fits c.in_ok-p-in-Compare.ensures.item

pub emit_one_of-put-requires : goal.emit_one_of-put-requires
emit_one_of-put-requires t c = record { plain = c.compare_word.ensures.plain }

pub emit_one_of-emit_chosen-requires : goal.emit_one_of-emit_chosen-requires
emit_one_of-emit_chosen-requires t c =
    let is : term_of c.args.cond.now ≡ Comparison c.in-Compare.op (term_of c.deref.result.now) (term_of c.deref-in-Compare.result.now) = compare_of c.args.cond.now c.in-Compare.op c.in-Compare.left c.in-Compare.right c.deref.result.now c.deref-in-Compare.result.now c.in-Compare.is c.deref.ensures c.deref-in-Compare.ensures in
    chosen_room c.args.item.now (term_size (scope_of c.args.site.now.scope).index (term_of c.deref.result.now)) (term_size (scope_of c.args.site.now.scope).index (term_of c.deref-in-Compare.result.now)) (term_size (scope_of c.args.site.now.scope).index (term_of c.args.cond.now)) c.emit_compared.new.item (ap (term_size (scope_of c.args.site.now.scope).index) is) c.requires.fits c.in_ok-p-in-Compare.ensures.item

pub emit_one_of-emit_jump-requires : goal.emit_one_of-emit_jump-requires
emit_one_of-emit_jump-requires t c = (four_2_to_0 t (term_depth (term_of c.args.cond.now)) c.decreases, (other_given c.in_ok-other.other c.args.draft.now.labels c.label.new.self.labels c.label-2.new.self.labels c.in_ok-other.ensures.next c.in_ok-other.ensures.count c.in_ok-end.ensures.count, (c.requires.kind, smaller_room c.args.item.now (term_size (scope_of c.args.site.now.scope).index (term_of c.args.cond.now)) c.requires.fits)))

pub emit_one_of-emit_pick-requires : goal.emit_one_of-emit_pick-requires
emit_one_of-emit_pick-requires t c = record {
  next = end_next c.in_ok-end.end c.in_ok-other.other c.args.draft.now.labels c.label.new.self.labels c.in_ok-end.ensures.next c.in_ok-other.ensures.count c.in_ok-other.ensures.next;
  given = end_given c.in_ok-end.end c.label.new.self.labels c.label-2.new.self.labels c.emit_jump.new.draft.labels (labels (scope_of c.args.site.now.scope).index (term_of c.args.cond.now)) c.in_ok-end.ensures.next c.in_ok-end.ensures.count c.in_ok-emit_jump-in_default.ensures.emits.labels;
  fits = after_room c.args.item.now (term_size (scope_of c.args.site.now.scope).index (term_of c.args.cond.now)) c.emit_jump.new.item c.requires.fits c.in_ok-emit_jump-in_default.ensures.item;
}

-- ---- the items of a value that stands in the word of its user

-- ---- what an element leaves

pub emit_read-emit_load-requires : goal.emit_read-emit_load-requires
emit_read-emit_load-requires t c = own_room c.args.item.now ((index_items (scope_of c.args.site.now.scope).index (term_of c.args.index.now)) + 1) c.requires.fits

pub emit_read-emit_number-requires : goal.emit_read-emit_number-requires
emit_read-emit_number-requires t c = (four_3_to_2 t (term_depth (term_of c.args.index.now)) c.decreases, (c.requires.kind, smaller_room c.args.item.now (index_items (scope_of c.args.site.now.scope).index (term_of c.args.index.now)) c.requires.fits))

pub emit_read-emit_load-requires-in-None : goal.emit_read-emit_load-requires-in-None
emit_read-emit_load-requires-in-None t c = after_room c.args.item.now (index_items (scope_of c.args.site.now.scope).index (term_of c.args.index.now)) c.emit_number.new.item c.requires.fits c.in_ok-x-in-None.ensures.item

-- ---- what right sides ask for and leave

pub emit_side-overflow_add-item : goal.emit_side-overflow_add-item
emit_side-overflow_add-item t c = next_fits c.args.item.now (term_size (scope_of c.args.site.now.scope).index (term_of c.args.expr.now)) c.requires.fits

pub emit_side-part_side-side-requires : goal.emit_side-part_side-side-requires
emit_side-part_side-side-requires t c = c.requires.fits

pub emit_side-overflow_add-item-then-fused : goal.emit_side-overflow_add-item-then-fused
emit_side-overflow_add-item-then-fused t c = whole_fits c.args.item.now (term_size (scope_of c.args.site.now.scope).index (term_of c.args.expr.now)) c.emit_parts.new.item c.requires.fits c.in_ok-emit_parts-in-None.ensures.item

-- ---- what both sides of an operator ask for and leave

pub emit_sides-is_led-requires : goal.emit_sides-is_led-requires
emit_sides-is_led-requires t c = c.requires.fits

pub emit_sides-part_side-side-requires : goal.emit_sides-part_side-side-requires
emit_sides-part_side-side-requires t c = left_room c.args.item.now (term_size (scope_of c.args.site.now.scope).index (term_of c.args.left.now)) (term_size (scope_of c.args.site.now.scope).index (term_of c.args.right.now)) c.requires.fits

pub emit_sides-returns-in_err-emit_parts : goal.emit_sides-returns-in_err-emit_parts
emit_sides-returns-in_err-emit_parts t c = record { side = IfOk-from_err _ _ c.from_residual.ensures.0; other = IfOk-from_err _ _ c.from_residual.ensures.0; item = IfOk-from_err _ _ c.from_residual.ensures.0; emits = IfOk-from_err _ _ c.from_residual.ensures.0 }

pub emit_sides-returns-in_err-r : goal.emit_sides-returns-in_err-r
emit_sides-returns-in_err-r t c = record { side = IfOk-from_err _ _ c.from_residual-in_err-r.ensures.0; other = IfOk-from_err _ _ c.from_residual-in_err-r.ensures.0; item = IfOk-from_err _ _ c.from_residual-in_err-r.ensures.0; emits = IfOk-from_err _ _ c.from_residual-in_err-r.ensures.0 }

pub emit_sides-returns-in_err-r-2 : goal.emit_sides-returns-in_err-r-2
emit_sides-returns-in_err-r-2 t c = record { side = IfOk-from_err _ _ c.from_residual-in_err-r-2.ensures.0; other = IfOk-from_err _ _ c.from_residual-in_err-r-2.ensures.0; item = IfOk-from_err _ _ c.from_residual-in_err-r-2.ensures.0; emits = IfOk-from_err _ _ c.from_residual-in_err-r-2.ensures.0 }

pub emit_sides-returns-in_err-side : goal.emit_sides-returns-in_err-side
emit_sides-returns-in_err-side t c = record { side = IfOk-from_err _ _ c.from_residual-in_err-side.ensures.0; other = IfOk-from_err _ _ c.from_residual-in_err-side.ensures.0; item = IfOk-from_err _ _ c.from_residual-in_err-side.ensures.0; emits = IfOk-from_err _ _ c.from_residual-in_err-side.ensures.0 }

pub emit_sides-overflow_add-item : goal.emit_sides-overflow_add-item
emit_sides-overflow_add-item t c = led_fits c.args.item.now (term_size (scope_of c.args.site.now.scope).index (term_of c.args.left.now)) (term_size (scope_of c.args.site.now.scope).index (term_of c.args.right.now)) c.emit_parts.new.item c.requires.fits c.in_ok-emit_parts.ensures.item

-- ---- what an operator asks for and leaves

pub emit_two-take-r-requires : goal.emit_two-take-r-requires
emit_two-take-r-requires t c = last_room c.args.item.now (term_size (scope_of c.args.site.now.scope).index (term_of c.args.left.now)) (term_size (scope_of c.args.site.now.scope).index (term_of c.args.right.now)) c.emit_sides.new.item c.requires.fits c.in_ok-sides.ensures.item

pub emit_one_of-returns-in_ok-emit_jump-in_default : goal.emit_one_of-returns-in_ok-emit_jump-in_default
emit_one_of-returns-in_ok-emit_jump-in_default t c =
    let jump = c.in_ok-emit_jump-in_default.ensures in
    record {
      register = IfOk-weaker c.emit_pick.result _ _ (λ r p. p ∙ ap (reg_of c.args.site.now.layout) jump.item) c.emit_pick.ensures.register;
      item = on_any c.emit_pick.result (c.emit_pick.ensures.item ∙ ap (λ (b : ℕ). b + 1) jump.item);
      emits = on_ok c.emit_pick.result c.emit_pick.ensures.emits (picked_emits c.args.site.now.layout (homes_of c.args.site.now.homes.items) (scope_of c.args.site.now.scope) c.args.item.now c.emit_jump.new.item c.in_ok-other.other c.args.draft.now c.label.new.self c.label-2.new.self c.emit_jump.new.draft c.emit_pick.new.draft (term_of c.args.cond.now) c.args.a.number c.args.b.number (no_flags (scope_of c.args.site.now.scope) c.args.cond.now c.in_default.not-Compare) c.in_ok-other.ensures.next jump.item c.in_ok-other.ensures.count c.in_ok-other.ensures.entries c.in_ok-end.ensures.count c.in_ok-end.ensures.entries jump.emits);
    }

-- ---- what a `match` has left over

pub emit_jump-unreachable-requires : goal.emit_jump-unreachable-requires
emit_jump-unreachable-requires t c = no_truth c.args.expr.now c.requires.kind c.in_default.not-Compare c.in_default.not-And c.in_default.not-Or c.in_default.not-Not

pub emit_loose-unreachable-requires : goal.emit_loose-unreachable-requires
emit_loose-unreachable-requires t c = no_value c.args.expr.now c.requires.kind c.in_default.not-Lit c.in_default.not-Var c.in_default.not-Read c.in_default.not-Unary c.in_default.not-Binary c.in_default.not-Shift c.in_default.not-Cast c.in_default.not-Select

pub emit_parts-unreachable-requires : goal.emit_parts-unreachable-requires
emit_parts-unreachable-requires t c = no_parts c.args.expr.now c.requires.parts c.in_default.not-Binary c.in_default.not-Shift c.in_default.not-Cast
