use Rattle.std.proofs.Common.{List, ◌++◌, refl, sym, ap, ◌∙◌}
use Rattle.std.proofs.lemmas.Result.{IfOk-from_err}
use Rattle.label_fix.specs.DraftRun.{DraftEntry}
use Rattle.label_fix.specs.Draft.{word_view}
use Rattle.value_code.proofs.TermCode.{on_ok}
use Rattle.scalar_values.proofs.operations.emit_branch.Goals as goal
use Rattle.a64_code.specs.View.{cond_number}
use Rattle.label_fix.specs.Draft.{kind_view}
use Rattle.value_code.specs.Code.{signed_side}
use Rattle.scalar_values.proofs.ItemCode.{tested, compared_emits, still_below}

pub branch-draft-requires : goal.branch-draft-requires
branch-draft-requires c = record { register = c.zero_branch.ensures.register; given = c.requires }

pub branch-draft-requires-in-None : goal.branch-draft-requires-in-None
branch-draft-requires-in-None c = record { register = refl; given = still_below c.args.jump.to c.args.draft.now.labels c.put.new.self.labels c.requires c.in_ok-put-in-None.ensures.labels }

pub put-requires : goal.put-requires
put-requires c = record { plain = c.compare_word.ensures.plain }

pub returns-in_err-put-in-None : goal.returns-in_err-put-in-None
returns-in_err-put-in-None c = IfOk-from_err _ _ c.from_residual.ensures.0

pub returns-in-Some : goal.returns-in-Some
returns-in-Some c =
    on_ok c.branch-draft.result c.branch-draft.ensures (λ p. record {
      labels = p.labels;
      code = λ rest. p.code rest ∙ ap (λ (l : List DraftEntry). c.args.draft.now.entries ++ l) (tested c.args.op c.args.jump.sense (signed_side c.args.want) c.in-Some.zero c.args.number c.args.sides.0.number c.args.sides.1.number c.args.jump.to (kind_view c.zero_branch.result) rest (sym c.zero_test.ensures ∙ c.in-Some.is) c.zero_branch.ensures.kind);
    })

pub returns-in_ok-put-in-None : goal.returns-in_ok-put-in-None
returns-in_ok-put-in-None c =
    on_ok c.branch-draft-in-None.result c.branch-draft-in-None.ensures (compared_emits c.args.draft.now c.put.new.self c.branch-draft-in-None.new.self c.args.op c.args.jump.sense c.signed_side-signed.result c.args.want c.args.number c.args.sides.0.number c.args.sides.1.number c.args.jump.to (cond_number c.turned.result) (word_view c.compare_word.result) (sym c.zero_test.ensures ∙ c.in-None.is) c.signed_side-signed.ensures c.compare_word.ensures.word c.turned.ensures c.in_ok-put-in-None.ensures)
