use Rattle.std.proofs.Common.{refl}
use Rattle.std.proofs.lemmas.Result.{IfOk-from_err}
use Rattle.value_code.proofs.TermCode.{on_and}
use Rattle.scalar_values.proofs.TermItems.{with_value}
use Rattle.scalar_values.proofs.operations.emit_pick.Goals as goal
use Rattle.scalar_words.specs.Layout.{reg_of}
use Rattle.scalar_values.proofs.ItemCode.{pick_emits, first_place, next_given, second_place}

pub branch-draft-requires : goal.branch-draft-requires
branch-draft-requires c = record { register = refl; given = next_given c.args.end c.args.draft.now.labels c.emit_copy.new.draft.labels c.requires.given c.in_ok-emit_copy.ensures.labels }

pub place-requires : goal.place-requires
place-requires c = record { given = first_place c.args.other c.args.end c.args.draft.now.labels c.emit_copy.new.draft.labels c.branch-draft.new.self.labels c.requires.next c.requires.given c.in_ok-emit_copy.ensures.labels c.in_ok-branch.ensures.labels }

pub place-requires-2 : goal.place-requires-2
place-requires-2 c = record { given = second_place c.args.end c.args.draft.now.labels c.emit_copy.new.draft.labels c.branch-draft.new.self.labels c.place.new.self.labels c.emit_copy-2.new.draft.labels c.requires.given c.in_ok-emit_copy.ensures.labels c.in_ok-branch.ensures.labels c.in_ok-place.ensures.labels c.in_ok-emit_copy-2.ensures.labels }

pub returns-in_err-emit_copy : goal.returns-in_err-emit_copy
returns-in_err-emit_copy c =
    let failed = c.from_residual.ensures.0 in
    record { register = IfOk-from_err _ _ failed; item = c.take-d.ensures.item; emits = IfOk-from_err _ _ failed }

pub returns-in_err-branch : goal.returns-in_err-branch
returns-in_err-branch c =
    let failed = c.from_residual-in_err-branch.ensures.0 in
    record { register = IfOk-from_err _ _ failed; item = c.take-d.ensures.item; emits = IfOk-from_err _ _ failed }

pub returns-in_err-place : goal.returns-in_err-place
returns-in_err-place c =
    let failed = c.from_residual-in_err-place.ensures.0 in
    record { register = IfOk-from_err _ _ failed; item = c.take-d.ensures.item; emits = IfOk-from_err _ _ failed }

pub returns-in_err-emit_copy-2 : goal.returns-in_err-emit_copy-2
returns-in_err-emit_copy-2 c =
    let failed = c.from_residual-in_err-emit_copy-2.ensures.0 in
    record { register = IfOk-from_err _ _ failed; item = c.take-d.ensures.item; emits = IfOk-from_err _ _ failed }

pub returns : goal.returns
returns c = record {
  register = with_value c.place-2.result c.take-d.result _ c.and.ensures c.take-d.ensures.register;
  item = c.take-d.ensures.item;
  emits = on_and c.place-2.result c.take-d.result c.and.ensures c.place-2.ensures (pick_emits c.args.draft.now c.emit_copy.new.draft c.branch-draft.new.self c.place.new.self c.emit_copy-2.new.draft c.place-2.new.self c.take-d.result.number (reg_of c.args.layout.now c.args.item.now) c.args.values.0.number c.args.values.1.number c.args.other c.args.end c.take-d.ensures.register c.requires.next c.in_ok-emit_copy.ensures c.in_ok-branch.ensures c.in_ok-place.ensures c.in_ok-emit_copy-2.ensures);
}
