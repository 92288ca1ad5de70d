use Rattle.std.proofs.Common.{◌≡◌, ◌+◌, ◌&&◌, sym, ap, ◌∙◌}
use Rattle.kernel_tree.specs.Plain.{term_of}
use Rattle.kernel_tree.specs.Items.{term_size}
use Rattle.kernel_scope.specs.Scopes.{scope_of}
use Rattle.scalar_words.specs.View.{homes_of}
use Rattle.value_code.specs.Code.{HasParts, is_fused, is_commutative}
use Rattle.scalar_values.proofs.PartKinds.{first_size, second_size, after_fits, sides_room, turned_fused, not_turned, led_by, unled_fused, unled_alone, still_parts}
use Rattle.scalar_values.proofs.fusion.is_led.Goals as goal
use Rattle.std.proofs.lemmas.Bool.{false≢true}
use Rattle.scalar_values.proofs.TermItems.{left_room}
use Rattle.scalar_values.specs.Sides.{side_view}
use Rattle.scalar_values.proofs.fusion.is_led.Goals.{then-is_commutative, else-is_commutative, else-fused-via-then-fused+else-stands_alone, else-fused-via-else-fused}

pub part_side-side-requires : goal.part_side-side-requires
part_side-side-requires c = left_room c.args.item (term_size (scope_of c.args.site.now.scope).index (term_of c.args.left.now)) (term_size (scope_of c.args.site.now.scope).index (term_of c.args.right.now)) c.requires

pub expr_size-requires : goal.expr_size-requires
expr_size-requires c = first_size c.args.item (term_size (scope_of c.args.site.now.scope).index (term_of c.args.left.now)) (term_size (scope_of c.args.site.now.scope).index (term_of c.args.right.now)) c.requires

pub overflow_add-after : goal.overflow_add-after
overflow_add-after c = after_fits c.args.item (term_size (scope_of c.args.site.now.scope).index (term_of c.args.left.now)) (term_size (scope_of c.args.site.now.scope).index (term_of c.args.right.now)) c.expr_size.result c.requires c.expr_size.ensures

pub expr_size-requires-then-stands_alone : goal.expr_size-requires-then-stands_alone
expr_size-requires-then-stands_alone c = second_size c.args.item (term_size (scope_of c.args.site.now.scope).index (term_of c.args.left.now)) (term_size (scope_of c.args.site.now.scope).index (term_of c.args.right.now)) c.requires

pub side_lasts-requires : goal.side_lasts-requires
side_lasts-requires c = sides_room c.args.item (term_size (scope_of c.args.site.now.scope).index (term_of c.args.left.now)) (term_size (scope_of c.args.site.now.scope).index (term_of c.args.right.now)) c.expr_size.result c.expr_size-then-stands_alone.result c.requires c.expr_size.ensures c.expr_size-then-stands_alone.ensures

pub returns-then-stands_alone : goal.returns-then-stands_alone
returns-then-stands_alone c =
    let fused : c.if-is_commutative.fused ≡ (is_commutative c.args.op && is_fused (scope_of c.args.site.now.scope) c.args.op c.args.asked.extent c.args.asked.want (term_of c.args.left.now)) = elim c.if-is_commutative.branch [
      | then-is_commutative w ↦ turned_fused (is_commutative c.args.op) (is_fused (scope_of c.args.site.now.scope) c.args.op c.args.asked.extent c.args.asked.want (term_of c.args.left.now)) c.is_commutative.result w.is_fused-fused.result c.if-is_commutative.fused c.is_commutative.ensures w.if-is_commutative.true w.is_fused-fused.ensures.fused w.fused-is
      | else-is_commutative w ↦ not_turned (is_commutative c.args.op) (is_fused (scope_of c.args.site.now.scope) c.args.op c.args.asked.extent c.args.asked.want (term_of c.args.left.now)) c.is_commutative.result c.if-is_commutative.fused c.is_commutative.ensures w.if-is_commutative.false (w.fused-is ∙ w.if-is_commutative.false)
    ] in
    let parts : HasParts c.side_lasts.result (term_of c.args.left.now) = elim c.if-is_commutative.branch [
      | then-is_commutative w ↦ still_parts c.side_lasts.result w.is_fused-fused.result (term_of c.args.left.now) (sym w.fused-is ∙ c.if-fused.true) w.is_fused-fused.ensures.parts
      | else-is_commutative w ↦ absurd (false≢true (sym w.if-is_commutative.false ∙ sym w.fused-is ∙ c.if-fused.true))
    ] in
    record {
      led = led_by c.args.site.now.layout (homes_of c.args.site.now.homes.items) (scope_of c.args.site.now.scope) c.args.op c.args.asked.extent c.args.asked.want c.args.item (c.args.item + c.expr_size.result) c.expr_size-then-stands_alone.result (term_of c.args.left.now) (term_of c.args.right.now) (side_view c.part_side-side.result) c.if-is_commutative.fused c.stands_alone.result c.side_lasts.result fused c.if-fused.true c.stands_alone.ensures c.if-stands_alone.true c.part_side-side.ensures (ap (λ n. c.args.item + n) c.expr_size.ensures) c.expr_size-then-stands_alone.ensures c.side_lasts.ensures;
      parts = parts;
    }

pub returns-else-fused : goal.returns-else-fused
returns-else-fused c =
    let fused : c.if-is_commutative.fused ≡ (is_commutative c.args.op && is_fused (scope_of c.args.site.now.scope) c.args.op c.args.asked.extent c.args.asked.want (term_of c.args.left.now)) = elim c.if-is_commutative.branch [
      | then-is_commutative w ↦ turned_fused (is_commutative c.args.op) (is_fused (scope_of c.args.site.now.scope) c.args.op c.args.asked.extent c.args.asked.want (term_of c.args.left.now)) c.is_commutative.result w.is_fused-fused.result c.if-is_commutative.fused c.is_commutative.ensures w.if-is_commutative.true w.is_fused-fused.ensures.fused w.fused-is
      | else-is_commutative w ↦ not_turned (is_commutative c.args.op) (is_fused (scope_of c.args.site.now.scope) c.args.op c.args.asked.extent c.args.asked.want (term_of c.args.left.now)) c.is_commutative.result c.if-is_commutative.fused c.is_commutative.ensures w.if-is_commutative.false (w.fused-is ∙ w.if-is_commutative.false)
    ] in
    record {
      led = elim c.else-fused.branch [
        | else-fused-via-then-fused+else-stands_alone w ↦ unled_alone c.args.site.now.layout (homes_of c.args.site.now.homes.items) (scope_of c.args.site.now.scope) c.args.op c.args.asked.extent c.args.asked.want c.args.item (term_of c.args.left.now) (term_of c.args.right.now) c.if-is_commutative.fused w.stands_alone.result fused w.if-fused.true w.stands_alone.ensures w.if-stands_alone.false
        | else-fused-via-else-fused w ↦ unled_fused c.args.site.now.layout (homes_of c.args.site.now.homes.items) (scope_of c.args.site.now.scope) c.args.op c.args.asked.extent c.args.asked.want c.args.item (term_of c.args.left.now) (term_of c.args.right.now) c.if-is_commutative.fused fused w.if-fused.false
      ];
      parts = tt;
    }
