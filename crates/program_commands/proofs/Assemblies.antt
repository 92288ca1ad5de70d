-- What is wanted of a text of words.
use Rattle.std.proofs.Common.{◌≡◌, ℕ, List, [], Option, Some, None, Result, Ok, Err, inl, inr, refl, sym, ap, ◌∙◌, subst}
use Rattle.std.specs.Prelude.{IfSome, IfErr, IsErrAnd}
use Rattle.sve_asm.specs.declared.fault.AsmFault.{AsmFault}
use Rattle.sve_asm.specs.declared.fault.AsmFault.TheVariants as assembling
use Rattle.sve_asm.specs.Lines.{words_of}
use Rattle.sve_asm.specs.View.{Refuses}
use Rattle.refusals.specs.declared.refusal.Refusal.{Refusal}
use Rattle.refusals.specs.declared.refusal.Refusal.TheVariants.{Asm, Memory}
use Rattle.refusals.specs.Statuses.{of_asm}
use Rattle.command_answers.specs.Answer.{HeldFiles, Expected, Answer, answer_of, expected_text, IsFileAnswer}
use Rattle.command_answers.specs.Outputs.{Prints}
use Rattle.command_answers.specs.Reads.{and_then, file_of}
use Rattle.command_answers.proofs.Prints.{prints_none}
use Rattle.program_commands.specs.Commands.{assembled_by, assemble_text, expected_of_asm, RefusesAsm}

-- a text that is refused
pub asm_refused : (x z : ℕ) (wanted : Expected) (refusal : Refusal) (result : Answer) → result ≡ Err refusal → RefusesAsm wanted refusal → IsFileAnswer x z (answer_of wanted) result
asm_refused x z wanted Memory result is h = inr (inl is)
asm_refused x z wanted (Asm fault) result is h = inl (is ∙ sym (ap answer_of h))
asm_refused x z wanted other result is h = absurd h

pub refuses_asm : {T : Type 0} (text : List ℕ) (fault : AsmFault) (result : Result T Refusal) → IsErrAnd result (λ r. r ≡ of_asm fault) → Refuses (words_of text) fault → IfErr result (RefusesAsm (assemble_text text))
unfolding assemble_text
refuses_asm text fault (Ok x) is h = tt
refuses_asm text fault (Err r) is h = subst (RefusesAsm (assembled_by (words_of text))) (sym is) (by fault h)
  where
    by : (fault : AsmFault) → Refuses (words_of text) fault → RefusesAsm (assembled_by (words_of text)) (of_asm fault)
    by assembling.Memory h = tt
    by other h = ap assembled_by h

-- ---- nothing is put on the output

no_text_by : (r : Result (List ℕ) AsmFault) → expected_text (assembled_by r) ≡ []
no_text_by (Ok words) = refl
no_text_by (Err fault) = refl

no_text : (r : Result (List ℕ) Refusal) → expected_text (and_then r assemble_text) ≡ []
unfolding assemble_text
no_text (Ok text) = no_text_by (words_of text)
no_text (Err refusal) = refl

pub asm_prints : (held : Option HeldFiles) (from : List ℕ) (old : Option (List ℕ)) (result : Answer) → IfSome held (λ h. Prints old old (expected_text (expected_of_asm h from)) result)
asm_prints None from old result = tt
asm_prints (Some h) from old result = subst (λ t. Prints old old t result) (sym (no_text (file_of h from))) (prints_none old result)
