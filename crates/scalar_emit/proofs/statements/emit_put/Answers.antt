use Rattle.std.proofs.Common.{List, ◌++◌, refl, ap, ◌∙◌}
use Rattle.std.proofs.lemmas.Result.{on_ok_weaker}
use Rattle.std.specs.Prelude.{option_map}
use Rattle.kernel_tree.specs.Plain.{term_of}
use Rattle.kernel_tree.specs.Items.{stream_offset}
use Rattle.kernel_scope.specs.Scopes.{scope_of}
use Rattle.label_fix.specs.Draft.{word_view}
use Rattle.label_fix.specs.DraftRun.{DraftEntry}
use Rattle.guest_types.proofs.Errors.{on_error}
use Rattle.scalar_emit.proofs.StatementCode.{put_none, put_some}
use Rattle.scalar_emit.proofs.statements.emit_put.Goals as goal

pub returns-in_err-r-in-Some : goal.returns-in_err-r-in-Some
returns-in_err-r-in-Some c = on_error _ _ c.from_residual.ensures.0

pub emit_offset-requires : goal.emit_offset-requires
emit_offset-requires c = record { plain = c.in-Some.ensures.plain }

pub returns-in-None : goal.returns-in-None
returns-in-None c =
    let moved = stream_offset (scope_of c.args.scope.now).index (term_of c.args.number.now) in
    record {
      labels = refl;
      code = λ rest. ap (λ (l : List DraftEntry). c.args.draft.now.entries ++ l) (put_none moved c.args.ty c.args.from.number c.args.p.number rest c.in-None.ensures.word);
    }

pub returns-in_ok-r-in-Some : goal.returns-in_ok-r-in-Some
returns-in_ok-r-in-Some c =
    let moved = stream_offset (scope_of c.args.scope.now).index (term_of c.args.number.now) in
    let r = c.in_ok-r-in-Some.ensures in
    on_ok_weaker c.emit_into.result (λ p. record {
      labels = p.labels ∙ r.emits.labels;
      code = λ rest. p.code rest
          ∙ r.emits.code _
          ∙ ap (λ (l : List DraftEntry). c.args.draft.now.entries ++ l) (put_some moved (option_map word_view c.in-Some.moved) c.args.ty c.args.from.number c.args.p.number c.in_ok-r-in-Some.r.number rest c.in-Some.ensures.word r.register);
    }) c.emit_into.ensures
