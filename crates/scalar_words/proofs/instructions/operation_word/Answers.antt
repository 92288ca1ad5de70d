use Rattle.std.proofs.Common.{ℕ, [], ◌∷◌, sym, ap, ◌∙◌}
use Rattle.a64_code.specs.Table.{csel}
use Rattle.kernel_tree.specs.declared.ops.BinaryOp.{BinaryOp}
use Rattle.label_fix.specs.DraftRun.{word_of}
use Rattle.label_fix.specs.Finished.{is_plain}
use Rattle.scalar_words.specs.Operands.{operation_word}
use Rattle.scalar_words.proofs.instructions.operation_word.Goals as goal

pub returns-in-Add : goal.returns-in-Add
returns-in-Add c = record {
  plain = ap is_plain c.add_sub.ensures;
  word = c.add_sub.ensures ∙ ap (λ (o : BinaryOp). operation_word o c.args.signed c.args.d.number c.args.a.number c.args.b.number) (sym c.in-Add.is);
}

pub returns-in-Sub : goal.returns-in-Sub
returns-in-Sub c = record {
  plain = ap is_plain c.add_sub-in-Sub.ensures;
  word = c.add_sub-in-Sub.ensures ∙ ap (λ (o : BinaryOp). operation_word o c.args.signed c.args.d.number c.args.a.number c.args.b.number) (sym c.in-Sub.is);
}

pub returns-in-Mul : goal.returns-in-Mul
returns-in-Mul c = record {
  plain = ap is_plain c.multiply.ensures;
  word = c.multiply.ensures ∙ ap (λ (o : BinaryOp). operation_word o c.args.signed c.args.d.number c.args.a.number c.args.b.number) (sym c.in-Mul.is);
}

pub returns-in-And : goal.returns-in-And
returns-in-And c = record {
  plain = ap is_plain c.logical.ensures;
  word = c.logical.ensures ∙ ap (λ (o : BinaryOp). operation_word o c.args.signed c.args.d.number c.args.a.number c.args.b.number) (sym c.in-And.is);
}

pub returns-in-Or : goal.returns-in-Or
returns-in-Or c = record {
  plain = ap is_plain c.logical-in-Or.ensures;
  word = c.logical-in-Or.ensures ∙ ap (λ (o : BinaryOp). operation_word o c.args.signed c.args.d.number c.args.a.number c.args.b.number) (sym c.in-Or.is);
}

pub returns-in-Xor : goal.returns-in-Xor
returns-in-Xor c = record {
  plain = ap is_plain c.logical-in-Xor.ensures;
  word = c.logical-in-Xor.ensures ∙ ap (λ (o : BinaryOp). operation_word o c.args.signed c.args.d.number c.args.a.number c.args.b.number) (sym c.in-Xor.is);
}

pub returns-in-Min : goal.returns-in-Min
returns-in-Min c = record {
  plain = ap is_plain c.select.ensures;
  word = c.select.ensures ∙ ap (λ (n : ℕ). word_of csel (c.args.d.number ∷ c.args.b.number ∷ n ∷ c.args.a.number ∷ [])) c.condition-greater.ensures ∙ ap (λ (o : BinaryOp). operation_word o c.args.signed c.args.d.number c.args.a.number c.args.b.number) (sym c.in-Min.is);
}

pub returns-in-Max : goal.returns-in-Max
returns-in-Max c = record {
  plain = ap is_plain c.select-in-Max.ensures;
  word = c.select-in-Max.ensures ∙ ap (λ (n : ℕ). word_of csel (c.args.d.number ∷ c.args.a.number ∷ n ∷ c.args.b.number ∷ [])) c.condition-greater.ensures ∙ ap (λ (o : BinaryOp). operation_word o c.args.signed c.args.d.number c.args.a.number c.args.b.number) (sym c.in-Max.is);
}
