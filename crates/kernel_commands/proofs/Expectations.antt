-- What is wanted of a command that reads the text of a kernel.
use Rattle.std.proofs.Common.{◌≡◌, ℕ, List, Option, Some, None, Result, Ok, Err, inl, inr, refl, sym, subst}
use Rattle.std.specs.Prelude.{IfSome, IfOk, IfErr, IsErrAnd}
use Rattle.command_line.specs.Line.{Task}
use Rattle.kernel_tree.specs.Plain.{Program}
use Rattle.kernel_front.specs.Verdict.{Sound, IsVerdict}
use Rattle.refusals.specs.declared.refusal.Refusal.{Refusal}
use Rattle.refusals.specs.declared.refusal.Refusal.TheVariants.{TooManyLive, Kernel, Elf, Map, Memory}
use Rattle.command_answers.specs.declared.run_report.RunReport.{RunReport}
use Rattle.command_answers.specs.Answer.{HeldFiles, Expected, Answer, answer_of, IsFileAnswer}
use Rattle.command_answers.specs.Reads.{file_of, task_files, AfterRead}
use Rattle.command_answers.specs.Works.{WhereExpected, run_report, RefusesProgram}
use Rattle.command_answers.proofs.Reading.{read_is, is_err}
use Rattle.kernel_commands.specs.Kernels.{ByVerdict}
use Rattle.kernel_commands.specs.Commands.{RefusesText, RefusesEval, IsOfEval}

-- ---- verdicts

pub sound_text : (sound : Program → Expected) (text : List ℕ) (k : Program) → IsVerdict text (Sound k) → ByVerdict sound text (sound k)
sound_text sound text k h = record { verdict = Sound k; has = h; wanted = refl }

-- what was read is refused
refused_one : {T : Type 0} (x z : ℕ) (wanted : Result T Refusal) (next : T → Expected → Type 0) (read : T) (refusal : Refusal) (result : Answer) → Ok read ≡ wanted → result ≡ Err refusal → RefusesText (next read) refusal → WhereExpected (AfterRead wanted next) (λ work. IsFileAnswer x z (answer_of work) result)
refused_one x z wanted next read refusal result e is h = λ work w. by refusal is h work (subst (λ r. AfterRead r next work) (sym e) w) w
  where
    by : (refusal : Refusal) → result ≡ Err refusal → RefusesText (next read) refusal → (work : Expected) → next read work → AfterRead wanted next work → (other : Expected) × AfterRead wanted next other × IsFileAnswer x z (answer_of other) result
    by Memory is h work n w = (work, w, inr (inl is))
    by (TooManyLive class need) is h work n w = (Err (TooManyLive class need), subst (λ r. AfterRead r next (Err (TooManyLive class need))) e (h work n), inl is)
    by (Kernel fault) is h work n w = (Err (Kernel fault), subst (λ r. AfterRead r next (Err (Kernel fault))) e (h work n), inl is)
    by other is h work n w = absurd h

pub text_refused : (x y z : ℕ) (held : Option HeldFiles) (from bytes : List ℕ) (next : List ℕ → Expected → Type 0) (found : Result (List ℕ) Refusal) (refusal : Refusal) (result : Answer) → found ≡ Ok bytes → IsErrAnd result (λ r. r ≡ refusal) → IfSome held (λ h. IsFileAnswer x y (file_of h from) found) → RefusesText (next bytes) refusal → IfSome held (λ h. WhereExpected (AfterRead (file_of h from) next) (λ work. IsFileAnswer x z (answer_of work) result))
text_refused x y z None from bytes next found refusal result is err read h = tt
text_refused x y z (Some held) from bytes next found refusal result is err read h =
    refused_one x z (file_of held from) next bytes refusal result (read_is x y (file_of held from) bytes (subst (IsFileAnswer x y (file_of held from)) is read)) (is_err refusal result err) h

-- ---- eval

-- what was evaluated is wanted of the text
pub eval_work : (sound : Program → Expected) (text : List ℕ) (k : Program) (result : Result RunReport Refusal) → IsVerdict text (Sound k) → IfOk result (λ p. sound k ≡ run_report p) → IfOk result (λ p. ByVerdict sound text (run_report p))
eval_work sound text k (Err r) v h = tt
eval_work sound text k (Ok p) v h = subst (ByVerdict sound text) h (sound_text sound text k v)

pub eval_refusal : {T : Type 0} (sound : Program → Expected) (text : List ℕ) (k : Program) (result : Result T Refusal) → IsVerdict text (Sound k) → IfErr result (λ r. RefusesProgram (sound k) r) → IfErr result (λ r. IsOfEval (Err r)) → IfErr result (λ r. RefusesEval (ByVerdict sound text) r)
eval_refusal sound text k (Ok x) v h of = tt
eval_refusal sound text k (Err r) v h of = by r h of
  where
    by : (refusal : Refusal) → RefusesProgram (sound k) refusal → IsOfEval (Err refusal) → RefusesEval (ByVerdict sound text) refusal
    by Memory h of = tt
    by (Map fault) h of = subst (ByVerdict sound text) h (sound_text sound text k v)
    by (Elf fault) h of = absurd of
    by other h of = absurd h

refused_two : (x z : ℕ) (wanted : Result (List ℕ × List ℕ) Refusal) (next : List ℕ × List ℕ → Expected → Type 0) (read : List ℕ × List ℕ) (refusal : Refusal) (result : Answer) → Ok read ≡ wanted → result ≡ Err refusal → RefusesEval (next read) refusal → WhereExpected (AfterRead wanted next) (λ work. IsFileAnswer x z (answer_of work) result)
refused_two x z wanted next read Memory result e is h = refused_one x z wanted next read Memory result e is h
refused_two x z wanted next read (Kernel fault) result e is h = refused_one x z wanted next read (Kernel fault) result e is h
refused_two x z wanted next read (Map fault) result e is h = λ work w. (Err (Map fault), subst (λ r. AfterRead r next (Err (Map fault))) e h, inl is)
refused_two x z wanted next read other result e is h = absurd h

-- a kernel or a map that was read and is refused
pub eval_not_run : (x y : ℕ) (held : Option HeldFiles) (task : Task) (read : List ℕ × List ℕ) (found : Result (List ℕ × List ℕ) Refusal) (next : List ℕ × List ℕ → Expected → Type 0) (refusal : Refusal) (result : Answer) → found ≡ Ok read → IfSome held (λ h. IsFileAnswer x y (task_files h task) found) → IsErrAnd result (λ r. r ≡ refusal) → RefusesEval (next read) refusal → IfSome held (λ h. WhereExpected (AfterRead (task_files h task) next) (λ work. IsFileAnswer x y (answer_of work) result))
eval_not_run x y None task read found next refusal result is answer err h = tt
eval_not_run x y (Some held) task read found next refusal result is answer err h =
    refused_two x y (task_files held task) next read refusal result (read_is x y (task_files held task) read (subst (IsFileAnswer x y (task_files held task)) is answer)) (is_err refusal result err) h
