use Rattle.std.proofs.Common.{List, Option, ◌++◌, refl, sym, ap, subst, ◌∙◌}
use Rattle.std.proofs.lemmas.Result.{on_ok_weaker}
use Rattle.kernel_tree.specs.declared.ops.Ty.{Ty}
use Rattle.label_fix.specs.Draft.{word_view}
use Rattle.label_fix.specs.Emits.{Emits}
use Rattle.label_fix.specs.DraftRun.{DraftEntry}
use Rattle.value_code.specs.ItemWords.{store_code}
use Rattle.scalar_emit.proofs.StatementCode.{into_is}
use Rattle.scalar_emit.proofs.statements.emit_into.Goals as goal

pub returns-in-None : goal.returns-in-None
returns-in-None c = subst (λ (t : Option Ty). Emits c.args.draft.now c.args.draft.now c.args.draft.now.labels (store_code t c.args.from.number c.args.p.number c.args.r.number)) (sym c.in-None.is) (record { labels = refl; code = λ rest. refl })

pub returns-in-Some : goal.returns-in-Some
returns-in-Some c =
    on_ok_weaker c.put.result (λ p. record {
      labels = p.labels;
      code = λ rest. p.code rest ∙ ap (λ (l : List DraftEntry). c.args.draft.now.entries ++ l) (into_is c.args.ty c.in-Some.ty (word_view c.store.result) c.args.from.number c.args.p.number c.args.r.number rest c.in-Some.is c.store.ensures);
    }) c.put.ensures
