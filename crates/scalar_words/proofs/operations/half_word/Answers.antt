use Rattle.std.proofs.Common.{Bool, ◌∷◌, sym, ap, ap₂, ◌∙◌, arith}
use Rattle.label_fix.specs.DraftRun.{Put}
use Rattle.label_fix.specs.Finished.{is_plain}
use Rattle.machine_model.specs.InstructionTable.{Listed}
use Rattle.scalar_words.proofs.HalfWords.{half_code}
use Rattle.scalar_words.proofs.operations.half_word.Goals as goal

pub wide-requires : goal.wide-requires
wide-requires c = record { part = c.requires.half; place = c.requires.place }

pub wide-requires-then-ones : goal.wide-requires-then-ones
wide-requires-then-ones c = record { part = omega arith; place = c.requires.place }

pub wide-requires-else-ones : goal.wide-requires-else-ones
wide-requires-else-ones c = record { part = c.requires.half; place = c.requires.place }

pub overflow_sub-half : goal.overflow_sub-half
overflow_sub-half c = omega (arith, c.requires.half)

pub returns-then-begun : goal.returns-then-begun
returns-then-begun c = record {
  plain = ap is_plain c.wide.ensures;
  code = λ rest. ap (λ (i : Listed). Put i ∷ rest) c.wide.ensures
      ∙ ap (λ (b : Bool). half_code c.args.ones b c.args.d.number c.args.half c.args.place rest) (sym c.if-begun.true);
}

pub returns-then-ones : goal.returns-then-ones
returns-then-ones c = record {
  plain = ap is_plain c.wide-then-ones.ensures;
  code = λ rest. ap (λ (i : Listed). Put i ∷ rest) c.wide-then-ones.ensures
      ∙ ap₂ (λ (b o : Bool). half_code o b c.args.d.number c.args.half c.args.place rest) (sym c.if-begun.false) (sym c.if-ones.true);
}

pub returns-else-ones : goal.returns-else-ones
returns-else-ones c = record {
  plain = ap is_plain c.wide-else-ones.ensures;
  code = λ rest. ap (λ (i : Listed). Put i ∷ rest) c.wide-else-ones.ensures
      ∙ ap₂ (λ (b o : Bool). half_code o b c.args.d.number c.args.half c.args.place rest) (sym c.if-begun.false) (sym c.if-ones.false);
}
