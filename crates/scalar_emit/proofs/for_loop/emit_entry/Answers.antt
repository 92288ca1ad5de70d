use Rattle.std.proofs.Common.{◌++◌, List, refl, ap, ◌∙◌}
use Rattle.std.proofs.lemmas.Result.{IfOk-from_err}
use Rattle.label_fix.specs.Draft.{word_view}
use Rattle.label_fix.specs.Finished.{is_plain}
use Rattle.label_fix.specs.DraftRun.{DraftEntry}
use Rattle.scalar_words.specs.View.{constants_of, homes_of, looses_of}
use Rattle.scalar_emit.proofs.LoopCode.{entry_is, entry_top, entry_last, entry_count}
use Rattle.guest_types.proofs.Errors.{on_error}
use Rattle.scalar_emit.proofs.for_loop.emit_entry.Goals as goal

pub returns-in_err-head : goal.returns-in_err-head
returns-in_err-head c =
    let failed = c.from_residual.ensures.0 in
    record { head = IfOk-from_err _ _ failed; exit = IfOk-from_err _ _ failed; top = IfOk-from_err _ _ failed; last = IfOk-from_err _ _ failed; emits = on_error _ _ failed }

pub returns-in_err-put : goal.returns-in_err-put
returns-in_err-put c =
    let failed = c.from_residual-in_err-put.ensures.0 in
    record { head = IfOk-from_err _ _ failed; exit = IfOk-from_err _ _ failed; top = IfOk-from_err _ _ failed; last = IfOk-from_err _ _ failed; emits = on_error _ _ failed }

pub returns-in_err-exit : goal.returns-in_err-exit
returns-in_err-exit c =
    let failed = c.from_residual-in_err-exit.ensures.0 in
    record { head = IfOk-from_err _ _ failed; exit = IfOk-from_err _ _ failed; top = IfOk-from_err _ _ failed; last = IfOk-from_err _ _ failed; emits = on_error _ _ failed }

pub returns-in_err-emit_moves : goal.returns-in_err-emit_moves
returns-in_err-emit_moves c =
    let failed = c.from_residual-in_err-emit_moves.ensures.0 in
    record { head = IfOk-from_err _ _ failed; exit = IfOk-from_err _ _ failed; top = IfOk-from_err _ _ failed; last = IfOk-from_err _ _ failed; emits = on_error _ _ failed }

pub returns-in_err-emit_numbers : goal.returns-in_err-emit_numbers
returns-in_err-emit_numbers c =
    let failed = c.from_residual-in_err-emit_numbers.ensures.0 in
    record { head = IfOk-from_err _ _ failed; exit = IfOk-from_err _ _ failed; top = IfOk-from_err _ _ failed; last = IfOk-from_err _ _ failed; emits = on_error _ _ failed }

pub returns-in_err-top : goal.returns-in_err-top
returns-in_err-top c =
    let failed = c.from_residual-in_err-top.ensures.0 in
    record { head = IfOk-from_err _ _ failed; exit = IfOk-from_err _ _ failed; top = IfOk-from_err _ _ failed; last = IfOk-from_err _ _ failed; emits = on_error _ _ failed }

pub returns-in_err-last : goal.returns-in_err-last
returns-in_err-last c =
    let failed = c.from_residual-in_err-last.ensures.0 in
    record { head = IfOk-from_err _ _ failed; exit = IfOk-from_err _ _ failed; top = IfOk-from_err _ _ failed; last = IfOk-from_err _ _ failed; emits = on_error _ _ failed }

pub branch_ahead-requires : goal.branch_ahead-requires
branch_ahead-requires c = refl

pub put-requires : goal.put-requires
put-requires c = record { plain = ap is_plain c.compare_iteration.ensures }

pub returns : goal.returns
returns c = record {
  emits =
      let n = c.args.draft.now.labels in
      let head = c.in_ok-head.ensures.emits.labels in
      let bound = c.in_ok-put.ensures.labels in
      let top = entry_top n c.emit_head.new.draft.labels c.put.new.self.labels c.branch_ahead.new.draft.labels c.emit_moves.new.draft.labels c.emit_numbers.new.draft.labels head bound c.in_ok-exit.ensures.emits.labels c.in_ok-emit_moves.ensures.labels c.in_ok-emit_numbers.ensures.labels in
      record {
        labels = entry_count n c.emit_numbers.new.draft.labels c.emit_head-2.new.draft.labels c.label.new.self.labels top c.in_ok-top.ensures.emits.labels c.in_ok-last.ensures.count;
        code = λ rest. ap (λ (l : List DraftEntry). l ++ rest) c.in_ok-last.ensures.entries
            ∙ c.in_ok-top.ensures.emits.code rest
            ∙ c.in_ok-emit_numbers.ensures.code _
            ∙ c.in_ok-emit_moves.ensures.code _
            ∙ c.in_ok-exit.ensures.emits.code _
            ∙ c.in_ok-put.ensures.code _
            ∙ c.in_ok-head.ensures.emits.code _
            ∙ ap (λ (l : List DraftEntry). c.args.draft.now.entries ++ l)
            (entry_is c.args.bound.number n c.put.new.self.labels c.emit_numbers.new.draft.labels (homes_of c.args.homes.now) c.args.layout.now (looses_of c.loose.result.now) (constants_of c.constants.result.now) (word_view c.compare_iteration.result) rest
            c.compare_iteration.ensures (bound ∙ head) c.loose.ensures c.constants.ensures top);
      };
  head = c.in_ok-head.ensures.head;
  exit = c.in_ok-exit.ensures.label ∙ c.in_ok-put.ensures.labels ∙ c.in_ok-head.ensures.emits.labels;
  top =
      let n = c.args.draft.now.labels in
      c.in_ok-top.ensures.head ∙ entry_top n c.emit_head.new.draft.labels c.put.new.self.labels c.branch_ahead.new.draft.labels c.emit_moves.new.draft.labels c.emit_numbers.new.draft.labels c.in_ok-head.ensures.emits.labels c.in_ok-put.ensures.labels c.in_ok-exit.ensures.emits.labels c.in_ok-emit_moves.ensures.labels c.in_ok-emit_numbers.ensures.labels;
  last =
      let n = c.args.draft.now.labels in
      let top = entry_top n c.emit_head.new.draft.labels c.put.new.self.labels c.branch_ahead.new.draft.labels c.emit_moves.new.draft.labels c.emit_numbers.new.draft.labels c.in_ok-head.ensures.emits.labels c.in_ok-put.ensures.labels c.in_ok-exit.ensures.emits.labels c.in_ok-emit_moves.ensures.labels c.in_ok-emit_numbers.ensures.labels in
      c.in_ok-last.ensures.next ∙ entry_last n c.emit_numbers.new.draft.labels c.emit_head-2.new.draft.labels top c.in_ok-top.ensures.emits.labels;
}
