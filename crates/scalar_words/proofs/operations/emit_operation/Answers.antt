use Rattle.std.proofs.Common.{List, [], ◌∷◌, ◌++◌, ap, ◌∙◌}
use Rattle.std.proofs.lemmas.Result.{on_ok_weaker}
use Rattle.a64_code.specs.Table.{subs}
use Rattle.label_fix.specs.DraftRun.{DraftEntry, word_of}
use Rattle.label_fix.specs.Finished.{is_plain}
use Rattle.guest_types.proofs.Errors.{on_error}
use Rattle.scalar_words.proofs.OperatorWords.{chosen, in_one_word}
use Rattle.scalar_words.proofs.operations.emit_operation.Goals as goal

pub put-requires : goal.put-requires
put-requires c = record { plain = ap is_plain c.add_sub.ensures }

pub put-requires-in-Min : goal.put-requires-in-Min
put-requires-in-Min c = record { plain = c.operation_word-word.ensures.plain }

pub put-requires-in_default : goal.put-requires-in_default
put-requires-in_default c = record { plain = c.operation_word-word.ensures.plain }

pub returns-in_err-put-in-Min : goal.returns-in_err-put-in-Min
returns-in_err-put-in-Min c = on_error _ _ c.from_residual.ensures.0

pub returns-in_ok-put-in-Min : goal.returns-in_ok-put-in-Min
returns-in_ok-put-in-Min c =
    let a = c.args.a.number in
    let b = c.args.b.number in
    let compared = c.add_sub.ensures ∙ ap (λ n. word_of subs (n ∷ a ∷ 0 ∷ b ∷ 0 ∷ [])) c.zero.ensures in
    on_ok_weaker c.put-in-Min.result (λ p. record {
      labels = p.labels ∙ c.in_ok-put-in-Min.ensures.labels;
      code = λ rest. p.code rest
          ∙ c.in_ok-put-in-Min.ensures.code _
          ∙ ap (λ (es : List DraftEntry). c.args.draft.now.entries ++ es) (chosen c.args.op c.args.signed c.args.d.number a b _ _ rest c.in-Min.is compared c.operation_word-word.ensures.word);
    }) c.put-in-Min.ensures

pub returns-in_default : goal.returns-in_default
returns-in_default c =
    on_ok_weaker c.put-in_default.result (λ p. record {
      labels = p.labels;
      code = λ rest. p.code rest
          ∙ ap (λ (es : List DraftEntry). c.args.draft.now.entries ++ es) (in_one_word c.args.op c.args.signed c.args.d.number c.args.a.number c.args.b.number _ rest c.in_default.not-Min c.in_default.not-Max c.operation_word-word.ensures.word);
    }) c.put-in_default.ensures
