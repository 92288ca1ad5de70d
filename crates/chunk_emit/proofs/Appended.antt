-- What calls append to a draft.
use Rattle.std.proofs.Common.{◌≡◌, ℕ, ℤ, List, [], ◌∷◌, ◌++◌, ap, ◌∙◌}
use Rattle.machine_model.specs.InstructionTable.{Listed}
use Rattle.label_fix.specs.Draft.{Drafted}
use Rattle.label_fix.specs.Emits.{Emits, EmitsBefore, puts}
use Rattle.chunk_emit.specs.ChunkCode.{with_index}

-- the same words by another name
pub emits_words : (old new : Drafted) (given : ℕ) (made wanted : List Listed) → made ≡ wanted → Emits old new given (puts made) → Emits old new given (puts wanted)
emits_words old new given made wanted e p = record {
  labels = p.labels;
  code = λ rest. p.code rest ∙ ap (λ ws. old.entries ++ puts ws rest) e;
}

-- one word at the index of an element
pub emits_indexed : (old middle new : Drafted) (given : ℕ) (a b : ℤ) (i j : Listed) → a ≡ b → i ≡ j → EmitsBefore old middle given (with_index a) → Emits middle new middle.labels (puts (i ∷ [])) → Emits old new given (puts (with_index b (j ∷ [])))
emits_indexed old middle new given a b i j e f p q = record {
  labels = q.labels ∙ p.labels;
  code = λ rest. q.code rest ∙ p.code (i ∷ []) rest ∙ (λ t. old.entries ++ puts (with_index (e t) (f t ∷ [])) rest);
}
