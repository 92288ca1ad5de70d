use Rattle.std.proofs.Common.{◌≡◌, List, ◌∷◌, ◌++◌, sym, ap, ◌∙◌}
use Rattle.std.proofs.lemmas.Bool.{false≢true}
use Rattle.label_fix.specs.DraftRun.{DraftEntry, Put}
use Rattle.label_fix.specs.Draft.{word_view}
use Rattle.scalar_words.specs.Words.{word_code, copy_word}
use Rattle.value_code.specs.ItemWords.{convert_word}
use Rattle.value_code.proofs.TermCode.{on_ok}
use Rattle.scalar_values.proofs.ItemCode.{copied_cast, copied_fit, copied_wide, extended_cast, extending_plain, no_not, not_not}
use Rattle.scalar_values.proofs.operations.emit_convert.Goals.{then-low, else-low+then-fits, else-low+else-fits}
use Rattle.scalar_values.proofs.operations.emit_convert.Goals as goal

pub put-requires : goal.put-requires
put-requires c = record { plain = extending_plain c.args.ty c.args.d.number c.args.a.number (word_view c.extending.result) c.extending.ensures }

pub returns-then-not-is_narrow : goal.returns-then-not-is_narrow
returns-then-not-is_narrow c =
    on_ok c.emit_copy.result c.emit_copy.ensures (λ p. record {
      labels = p.labels;
      code = λ rest.
          let e : word_code (copy_word c.args.d.number c.args.a.number) rest ≡ word_code (convert_word c.args.low c.args.from c.args.ty c.args.d.number c.args.a.number) rest = elim c.if-low.branch [
            | then-low w ↦ copied_cast c.args.low c.args.from c.args.ty c.args.d.number c.args.a.number rest w.if-low.true
            | else-low+then-fits w ↦ copied_fit c.args.low c.args.from c.args.ty c.args.d.number c.args.a.number rest (sym w.fits.ensures ∙ w.if-fits.true)
            | else-low+else-fits w ↦ copied_wide c.args.low c.args.from c.args.ty c.args.d.number c.args.a.number rest (sym w.is_narrow.ensures ∙ no_not w.is_narrow.result c.if-low.value w.value-is c.if-not-is_narrow.true)
          ] in
          p.code rest ∙ ap (λ (l : List DraftEntry). c.args.draft.now.entries ++ l) e;
    })

pub returns-else-not-is_narrow : goal.returns-else-not-is_narrow
returns-else-not-is_narrow c =
    on_ok c.put.result c.put.ensures (λ p. record {
      labels = p.labels;
      code = λ rest.
          let e : (Put (word_view c.extending.result) ∷ rest) ≡ word_code (convert_word c.args.low c.args.from c.args.ty c.args.d.number c.args.a.number) rest = elim c.if-low.branch [
            | then-low w ↦ absurd (false≢true (sym c.if-not-is_narrow.false ∙ w.value-is ∙ w.if-low.true))
            | else-low+then-fits w ↦ absurd (false≢true (sym c.if-not-is_narrow.false ∙ w.value-is ∙ w.if-fits.true))
            | else-low+else-fits w ↦ extended_cast c.args.low c.args.from c.args.ty c.args.d.number c.args.a.number (word_view c.extending.result) rest w.if-low.false (sym w.fits.ensures ∙ w.if-fits.false) (sym w.is_narrow.ensures ∙ not_not w.is_narrow.result c.if-low.value w.value-is c.if-not-is_narrow.false) c.extending.ensures
          ] in
          p.code rest ∙ ap (λ (l : List DraftEntry). c.args.draft.now.entries ++ l) e;
    })
