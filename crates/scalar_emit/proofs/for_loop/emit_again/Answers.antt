use Rattle.std.proofs.Common.{◌++◌, List, ap, ◌∙◌}
use Rattle.std.proofs.lemmas.Result.{on_ok_weaker}
use Rattle.std.specs.Prelude.{option_map}
use Rattle.kernel_tree.specs.Plain.{name_of}
use Rattle.label_fix.specs.Draft.{word_view}
use Rattle.label_fix.specs.DraftRun.{DraftEntry}
use Rattle.label_fix.specs.Finished.{is_plain}
use Rattle.scalar_words.specs.Layout.{loose_in}
use Rattle.scalar_words.specs.View.{form_of, homes_of, looses_of}
use Rattle.scalar_emit.proofs.LoopCode.{again_is, top_given, last_below_later_label, exit_placed}
use Rattle.guest_types.proofs.Errors.{on_error}
use Rattle.scalar_emit.proofs.for_loop.emit_again.Goals as goal

pub returns : goal.returns
returns c =
    on_ok_weaker c.place-2.result (λ p. record {
      labels = p.labels ∙ c.in_ok-emit_moves_back.ensures.labels ∙ c.in_ok-place.ensures.labels ∙ c.in_ok-emit_back.ensures.labels ∙ c.in_ok-put.ensures.labels;
      code = λ rest. p.code rest
          ∙ c.in_ok-emit_moves_back.ensures.code _
          ∙ c.in_ok-place.ensures.code _
          ∙ c.in_ok-emit_back.ensures.code _
          ∙ c.in_ok-put.ensures.code _
          ∙ ap (λ (l : List DraftEntry). c.args.draft.now.entries ++ l)
          (again_is (option_map form_of c.loose_form-form.result) (loose_in c.args.layout.now.loose (name_of c.args.for_loop.now.index)) c.args.bound.number c.args.labels.head c.args.labels.last c.args.labels.exit (homes_of c.args.homes.now) (looses_of c.loose.result.now) c.args.layout.now.loose (word_view c.next_iteration.result) rest
          c.next_iteration.ensures c.loose_form-form.ensures c.requires.last c.requires.exit c.loose.ensures);
    }) c.place-2.ensures

pub returns-in_err-put : goal.returns-in_err-put
returns-in_err-put c = on_error _ _ c.from_residual.ensures.0

pub returns-in_err-emit_back : goal.returns-in_err-emit_back
returns-in_err-emit_back c = on_error _ _ c.from_residual-in_err-emit_back.ensures.0

pub returns-in_err-place : goal.returns-in_err-place
returns-in_err-place c = on_error _ _ c.from_residual-in_err-place.ensures.0

pub returns-in_err-emit_moves_back : goal.returns-in_err-emit_moves_back
returns-in_err-emit_moves_back c = on_error _ _ c.from_residual-in_err-emit_moves_back.ensures.0

pub put-requires : goal.put-requires
put-requires c = record { plain = ap is_plain c.next_iteration.ensures }

pub emit_back-requires : goal.emit_back-requires
emit_back-requires c = record {
  top = c.requires.top;
  given = top_given c.args.labels.top c.args.labels.last c.args.labels.head c.args.draft.now.labels c.put.new.self.labels c.requires.top c.requires.last c.requires.given c.in_ok-put.ensures.labels;
}

pub place-requires : goal.place-requires
place-requires c = record { given = last_below_later_label c.args.labels.last c.args.draft.now.labels c.put.new.self.labels c.emit_back.new.draft.labels c.requires.given c.in_ok-put.ensures.labels c.in_ok-emit_back.ensures.labels }

pub place-requires-2 : goal.place-requires-2
place-requires-2 c = record { given = exit_placed c.args.labels.exit c.args.labels.last c.args.labels.head c.args.draft.now.labels c.put.new.self.labels c.emit_back.new.draft.labels c.place.new.self.labels c.emit_moves_back.new.draft.labels c.requires.exit c.requires.last c.requires.given c.in_ok-put.ensures.labels c.in_ok-emit_back.ensures.labels c.in_ok-place.ensures.labels c.in_ok-emit_moves_back.ensures.labels }
