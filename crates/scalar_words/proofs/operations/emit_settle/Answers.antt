use Rattle.std.proofs.Common.{◌≡◌, false, List, ◌++◌, refl, sym, ap, ap₂, ◌∙◌}
use Rattle.std.specs.Prelude.{◌&&◌}
use Rattle.std.proofs.lemmas.Result.{on_ok_weaker}
use Rattle.label_fix.specs.DraftRun.{DraftEntry}
use Rattle.label_fix.specs.Finished.{is_plain}
use Rattle.scalar_words.proofs.OperatorWords.{extending_plain, extended, as_it_is}
use Rattle.scalar_words.specs.Words.{is_narrow}
use Rattle.scalar_words.proofs.operations.emit_settle.Goals.{else-leaves-via-then-leaves+else-is_narrow, else-leaves-via-else-leaves}
use Rattle.scalar_words.proofs.operations.emit_settle.Goals as goal

pub put-requires : goal.put-requires
put-requires c = record { plain = ap is_plain c.extending.ensures ∙ extending_plain c.args.ty c.args.d.number c.args.d.number }

pub returns-then-is_narrow : goal.returns-then-is_narrow
returns-then-is_narrow c =
    on_ok_weaker c.put.result (λ p. record {
      labels = p.labels;
      code = λ rest. p.code rest
          ∙ ap (λ (es : List DraftEntry). c.args.draft.now.entries ++ es) (extended c.args.leaves c.args.ty c.args.d.number _ rest c.if-leaves.true (sym c.is_narrow.ensures ∙ c.if-is_narrow.true) c.extending.ensures);
    }) c.put.ensures

pub returns-else-leaves : goal.returns-else-leaves
returns-else-leaves c =
    let none : (c.args.leaves && is_narrow c.args.ty) ≡ false = elim c.else-leaves.branch [
      | else-leaves-via-then-leaves+else-is_narrow w ↦ ap₂ (λ b n. b && n) w.if-leaves.true (sym w.is_narrow.ensures ∙ w.if-is_narrow.false)
      | else-leaves-via-else-leaves w ↦ ap (λ b. b && is_narrow c.args.ty) w.if-leaves.false
    ] in
    record {
      labels = refl;
      code = λ rest. ap (λ (es : List DraftEntry). c.args.draft.now.entries ++ es) (as_it_is c.args.leaves c.args.ty c.args.d.number rest none);
    }
