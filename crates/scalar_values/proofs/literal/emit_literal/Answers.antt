use Rattle.kernel_tree.proofs.Calls.{on_any}
use mir.Syntax.{w128}
use mir.Val.{of_z, to_z}
use Rattle.std.proofs.lemmas.Int.{to_z-of_z}
use Rattle.std.proofs.Common.{◌≡◌, List, ◌++◌, refl, sym, ap, ◌∙◌}
use Rattle.scalar_words.specs.View.{register_number}
use Rattle.scalar_values.proofs.PartKinds.{held_home, own_home, held_literal, put_literal}
use Rattle.scalar_values.proofs.literal.emit_literal.Goals as goal
use Rattle.std.specs.Prelude.{option_map, Some, None}
use Rattle.scalar_words.specs.Layout.{OfNumber, constant_at}
use Rattle.kernel_meaning.specs.Operators.{word}
use Rattle.label_fix.specs.DraftRun.{DraftEntry}
use Rattle.scalar_values.proofs.TermItems.{with_value}
use Rattle.value_code.proofs.TermCode.{on_and}

pub returns-in-Some : goal.returns-in-Some
returns-in-Some c =
    let sent = to_z w128 (of_z w128 c.args.value) in
    let same = to_z-of_z w128 c.args.value c.ranges.value in
    let held : constant_at c.args.layout.now (OfNumber (to_z w128 (of_z w128 c.args.value))) ≡ Some c.in-Some.held.number = sym c.constant.ensures ∙ ap (option_map register_number) c.in-Some.is in
    record {
      register = held_home c.args.layout.now c.args.item.now c.in-Some.held.number c.args.value sent same held;
      item = c.take-own.ensures.item;
      emits = record { labels = refl; code = λ rest. ap (λ (l : List DraftEntry). c.args.draft.now.entries ++ l) (held_literal c.args.layout.now c.args.want c.args.item.now c.in-Some.held.number c.args.value sent rest same held) };
    }

pub returns-in-None : goal.returns-in-None
returns-in-None c =
    let sent = to_z w128 (of_z w128 c.args.value) in
    let same = to_z-of_z w128 c.args.value c.ranges.value in
    let none : constant_at c.args.layout.now (OfNumber (to_z w128 (of_z w128 c.args.value))) ≡ None = sym c.constant.ensures ∙ ap (option_map register_number) c.in-None.is in
    record {
      register = with_value c.emit_const.result c.take-own.result _ c.and.ensures (own_home c.args.layout.now c.args.item.now c.take-own.result.number c.args.value sent same none c.take-own.ensures.register);
      item = on_any c.and.result c.take-own.ensures.item;
      emits = on_and c.emit_const.result c.take-own.result c.and.ensures c.emit_const.ensures (λ p. record {
        labels = p.labels;
        code = λ rest. p.code rest ∙ ap (λ (l : List DraftEntry). c.args.draft.now.entries ++ l)
            (put_literal c.args.layout.now c.args.want c.args.item.now c.take-own.result.number c.word.result c.args.value sent rest same none c.take-own.ensures.register (c.word.ensures ∙ ap word (to_z-of_z w128 c.wrapped.result (record { sfits = c.wrapped.type_inv }) ∙ c.wrapped.ensures)));
      });
    }
