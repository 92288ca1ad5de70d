-- What `check` and `eval` owe where they end by a refusal.
use mathlib.Core.Logic.{⊎_elim}
use Rattle.std.proofs.Common.{◌≡◌, ◌≢◌, ◌⊎◌, Result, Err, sym, ◌∙◌}
use Rattle.std.specs.Prelude.{IsErrAnd}
use Rattle.refusals.specs.declared.refusal.Refusal.{Refusal}
use Rattle.refusals.specs.declared.refusal.Refusal.TheVariants.{TooManyLive, Kernel, Memory, File, Output}
use Rattle.command_answers.specs.Answer.{Expected, Answer}
use Rattle.command_answers.specs.Reads.{IsOfRead}
use Rattle.command_answers.proofs.Reading.{is_err}
use Rattle.command_answers.proofs.Exits.{same_refusal, of_reading}
use Rattle.kernel_commands.specs.Commands.{RefusesText}

differ : ◌≡◌ {A = Answer} (Err File) (Err Output) → ⊥
differ e = absurd cc

pub read_not_output : {T : Type 0} (found : Result T Refusal) (refusal : Refusal) (result : Answer) → found ≡ Err refusal → IsErrAnd result (λ r. r ≡ refusal) → IsOfRead found → result ≢ Err Output
read_not_output found refusal result was is of = of_reading (λ r. r ≢ Err Output) found refusal result was is of (λ e. absurd cc) (λ e. absurd cc) differ

-- a refusal of a kernel or its map is none of a file or an output
not_of_text : (W : Expected → Type 0) (other refusal : Refusal) → (other ≡ File) ⊎ (other ≡ Output) → RefusesText W refusal → refusal ≢ other
not_of_text W other Memory is h e = ⊎_elim (λ f. absurd (let g = e ∙ f in cc)) (λ f. absurd (let g = e ∙ f in cc)) is
not_of_text W other (TooManyLive class need) is h e = ⊎_elim (λ f. absurd (let g = e ∙ f in cc)) (λ f. absurd (let g = e ∙ f in cc)) is
not_of_text W other (Kernel fault) is h e = ⊎_elim (λ f. absurd (let g = e ∙ f in cc)) (λ f. absurd (let g = e ∙ f in cc)) is
not_of_text W other refusal is h e = absurd h

pub text_not : (W : Expected → Type 0) (other refusal : Refusal) (result : Answer) → (other ≡ File) ⊎ (other ≡ Output) → IsErrAnd result (λ r. r ≡ refusal) → RefusesText W refusal → result ≢ Err other
text_not W other refusal result is err h e = not_of_text W other refusal is h (same_refusal refusal other (sym (is_err refusal result err) ∙ e))
