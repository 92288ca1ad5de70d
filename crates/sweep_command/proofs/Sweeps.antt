-- What a sweep leaves.
use mathlib.Core.Logic.{⊎_elim}
use Rattle.std.proofs.Common.{◌≡◌, ◌≢◌, ◌⊎◌, arith, ℕ, ◌++◌, List, Option, Some, None, Result, Ok, Err, refl, sym, ap, ◌∙◌, subst}
use Rattle.std.specs.Prelude.{IfSome, IsErrAnd}
use Rattle.io_edges.specs.Files.{Writes, content}
use Rattle.io_edges.specs.Sink.{GainsPart}
use Rattle.io_edges.specs.declared.files.FileError.{FileError}
use Rattle.io_edges.specs.declared.files.FileError.TheVariants as files
use Rattle.sweep_run.specs.SweepText.{IsSweepFile, sweep_text}
use Rattle.refusals.specs.declared.refusal.Refusal.{Refusal}
use Rattle.refusals.specs.declared.refusal.Refusal.TheVariants.{Memory, Output}
use Rattle.refusals.specs.declared.refusal.Done.TheVariants as done
use Rattle.command_answers.specs.Answer.{HeldFiles, Answer, status_of}
use Rattle.refusals.specs.Statuses.{of_files}
use Rattle.sweep_command.specs.Swept.{IsSwept, SweptBy}
use Rattle.command_answers.proofs.Reading.{is_err, written_at}
use Rattle.command_answers.proofs.Prints.{prints_part, prints_all}
use Rattle.command_answers.proofs.Statuses.{prints_by}

not_done_short : ◌≡◌ {A = ℕ} 7 0 ⊎ ◌≡◌ {A = ℕ} 7 9 → ⊥
not_done_short h = ⊎_elim (λ e. omega (arith, e)) (λ e. omega (arith, e)) h

not_done_failed : ◌≡◌ {A = ℕ} 8 0 ⊎ ◌≡◌ {A = ℕ} 8 9 → ⊥
not_done_failed h = ⊎_elim (λ e. omega (arith, e)) (λ e. omega (arith, e)) h

not_before_done : ◌≡◌ {A = ℕ} 0 7 ⊎ ◌≡◌ {A = ℕ} 0 8 → ⊥
not_before_done h = ⊎_elim (λ e. omega (arith, e)) (λ e. omega (arith, e)) h

not_before_failed : ◌≡◌ {A = ℕ} 9 7 ⊎ ◌≡◌ {A = ℕ} 9 8 → ⊥
not_before_failed h = ⊎_elim (λ e. omega (arith, e)) (λ e. omega (arith, e)) h

-- want of memory before the first line
swept_short : (number : ℕ) (to : List ℕ) (held : Option HeldFiles) (printed : Option (List ℕ)) → SweptBy number to held printed printed 7
swept_short number to held printed = (λ h. absurd (not_done_short h), λ h. refl)

-- a file that failed before the first line
swept_failed : (number : ℕ) (to : List ℕ) (held : Option HeldFiles) (printed : Option (List ℕ)) → SweptBy number to held printed printed 8
swept_failed number to held printed = (λ h. absurd (not_done_failed h), λ h. refl)

swept_answer : (number : ℕ) (to : List ℕ) (held : Option HeldFiles) (old new : Option (List ℕ)) (refusal : Refusal) (result : Answer) → IsErrAnd result (λ r. r ≡ refusal) → SweptBy number to held old new (status_of (Err refusal)) → SweptBy number to held old new (status_of result)
swept_answer number to held old new refusal result is h = subst (λ r. SweptBy number to held old new (status_of r)) (sym (is_err refusal result is)) h

pub memory_swept : (number : ℕ) (to : List ℕ) (held : Option HeldFiles) (printed : Option (List ℕ)) (result : Answer) → IsErrAnd result (λ r. r ≡ Memory) → SweptBy number to held printed printed (status_of result)
memory_swept number to held printed result is = swept_answer number to held printed printed Memory result is (swept_short number to held printed)

pub write_swept : (number : ℕ) (to : List ℕ) (held : Option HeldFiles) (printed : Option (List ℕ)) (error : FileError) (result : Answer) → error ≢ files.TooLong → IsErrAnd result (λ r. r ≡ of_files error) → SweptBy number to held printed printed (status_of result)
write_swept number to held printed error result short is = swept_answer number to held printed printed (of_files error) result is (by error short)
  where
    by : (error : FileError) → error ≢ files.TooLong → SweptBy number to held printed printed (status_of (Err (of_files error)))
    by files.Failed short = swept_failed number to held printed
    by files.TooLong short = absurd (short refl)
    by files.Memory short = swept_short number to held printed

-- what was written stands under the name, where the files tell what they hold
pub stands_at : (old new : Option HeldFiles) (to bytes file : List ℕ) (result : Result (Unit {0}) FileError) → Writes old new to bytes result → result ≡ Ok tt → bytes ≡ file → IfSome new (λ h. content h to ≡ Some file)
stands_at None new to bytes file result w ok same = subst (λ n. IfSome n (λ h. content h to ≡ Some file)) (sym w) tt
stands_at (Some old) None to bytes file result w ok same = tt
stands_at (Some old) (Some new) to bytes file result w ok same = written_at w ok ∙ ap (λ b. Some b) same

-- the file that stands there is faithful
pub sweep_compiled : (number : ℕ) (to file : List ℕ) (old new : Option HeldFiles) → IsSweepFile number file → IfSome new (λ h. content h to ≡ Some file) → IfSome old (λ o. IfSome new (λ n. IsSwept number n to))
sweep_compiled number to file None new is stands = tt
sweep_compiled number to file (Some o) None is stands = tt
sweep_compiled number to file (Some o) (Some n) is stands = (file, stands, is)

-- the lines were put, or a part of them
pub lines_swept : (number : ℕ) (to file : List ℕ) (held : Option HeldFiles) (old new : Option (List ℕ)) → IsSweepFile number file → IfSome held (λ h. content h to ≡ Some file) → IfSome old (λ bytes. new ≡ Some (bytes ++ sweep_text number file)) → IfSome old (λ bytes. GainsPart bytes new (sweep_text number file)) → SweptBy number to held old new 0
lines_swept number to file held old new is stands all part = (
  λ h. record { file = file; is_file = is; stands = stands; prints = prints_by old new (sweep_text number file) 0 (Ok done.Ended) refl (prints_all old new (sweep_text number file) done.Ended all part) },
  λ h. absurd (not_before_done h),
)

pub part_swept : (number : ℕ) (to file : List ℕ) (held : Option HeldFiles) (old new : Option (List ℕ)) (result : Answer) → IsErrAnd result (λ r. r ≡ Output) → IsSweepFile number file → IfSome held (λ h. content h to ≡ Some file) → IfSome old (λ bytes. GainsPart bytes new (sweep_text number file)) → SweptBy number to held old new (status_of result)
part_swept number to file held old new result e is stands part = swept_answer number to held old new Output result e (
  λ h. record { file = file; is_file = is; stands = stands; prints = prints_by old new (sweep_text number file) 9 (Err Output) refl (prints_part old new (sweep_text number file) Output part) },
  λ h. absurd (not_before_failed h),
)
