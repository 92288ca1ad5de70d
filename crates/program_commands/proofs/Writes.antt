-- What a command owes that writes a file: before the write, and where the write fails.
use mathlib.Core.Logic.{⊎_elim}
use Rattle.std.proofs.Common.{◌≡◌, ◌≢◌, ◌≤◌, ℕ, List, Option, Some, None, Result, Err, inl, inr, refl, sym, ap, ◌∙◌, subst}
use Rattle.std.specs.Prelude.{IfSome, IsErrAnd, IsErrOf, OnOk}
use Rattle.io_edges.specs.declared.files.FileError.{FileError}
use Rattle.io_edges.specs.declared.files.FileError.TheVariants as files
use Rattle.io_edges.specs.Files.{Rose, HasCause, content, Writes}
use Rattle.io_edges.proofs.Puts.{later_rose}
use Rattle.refusals.specs.declared.refusal.Refusal.{Refusal}
use Rattle.refusals.specs.declared.refusal.Refusal.TheVariants.{TooLong, Asm, Memory, File}
use Rattle.refusals.specs.Statuses.{of_files}
use Rattle.command_answers.specs.Answer.{HeldFiles, Expected, Answer, answer_of, IsFileAnswer, IsAnswer, IsKept}
use Rattle.command_answers.specs.Reads.{and_then, ChangesOnly}
use Rattle.command_answers.proofs.Reading.{is_err, not_read}
use Rattle.program_commands.specs.Commands.{RefusesAsm, IsOfAsm}

-- ---- before the write

pub file_not_read : {T : Type 0} (x y : ℕ) (held : Option HeldFiles) (wanted : HeldFiles → Result T Refusal) (found : Result T Refusal) (next : T → Expected) (refusal : Refusal) (result : Answer) → found ≡ Err refusal → result ≡ Err refusal → IfSome held (λ h. IsFileAnswer x y (wanted h) found) → IfSome held (λ h. IsFileAnswer x y (answer_of (and_then (wanted h) next)) result)
file_not_read x y held wanted found next refusal result was is answer =
    without held (not_read x y ⊥ held wanted found next refusal result was is answer)
  where
    without : (o : Option HeldFiles) → IfSome o (λ h. IsAnswer x y ⊥ (answer_of (and_then (wanted h) next)) result) → IfSome o (λ h. IsFileAnswer x y (answer_of (and_then (wanted h) next)) result)
    without None a = tt
    without (Some h) a = ⊎_elim (λ f. f) (λ p. absurd p.1) a

pub not_done : (P : Type 0) (refusal : Refusal) (result : Answer) → IsErrAnd result (λ r. r ≡ refusal) → OnOk result P
not_done P refusal result is = subst (λ r. OnOk r P) (sym (is_err refusal result is)) tt

same_files : (a b : HeldFiles) → ◌≡◌ {A = Option HeldFiles} (Some a) (Some b) → a ≡ b
same_files a b e = cc

pub same_others : (old new : Option HeldFiles) (to : List ℕ) → new ≡ old → IfSome old (λ o. IfSome new (λ n. ChangesOnly o n to))
same_others None new to same = tt
same_others (Some o) None to same = tt
same_others (Some o) (Some n) to same = λ name other. ap (λ h. content h name) (same_files n o same)

-- a text of words that is refused
pub of_text : (wanted : Expected) (refusal : Refusal) (result : Answer) → IsErrAnd result (λ r. r ≡ refusal) → RefusesAsm wanted refusal → IsOfAsm result
of_text wanted refusal result is h = subst IsOfAsm (sym (is_err refusal result is)) (by refusal h)
  where
    by : (refusal : Refusal) → RefusesAsm wanted refusal → IsOfAsm (Err refusal)
    by Memory h = tt
    by (Asm fault) h = tt
    by other h = absurd h

pub text_not_file : (wanted : Expected) (refusal : Refusal) (result : Answer) → IsErrAnd result (λ r. r ≡ refusal) → RefusesAsm wanted refusal → result ≢ Err File
text_not_file wanted refusal result is h e = by refusal h (sym (is_err refusal result is) ∙ e)
  where
    by : (refusal : Refusal) → RefusesAsm wanted refusal → ◌≡◌ {A = Answer} (Err refusal) (Err File) → ⊥
    by Memory h e = absurd cc
    by (Asm fault) h e = absurd cc
    by other h e = absurd h

-- ---- the write

pub written_others : (old mid new : Option HeldFiles) (to bytes : List ℕ) (result : Result (Unit {0}) FileError) → mid ≡ old → Writes mid new to bytes result → IfSome old (λ o. IfSome new (λ n. ChangesOnly o n to))
written_others None mid new to bytes result same writes = tt
written_others (Some o) mid None to bytes result same writes = tt
written_others (Some o) mid (Some n) to bytes result same writes =
    let w = subst (λ m. Writes m (Some n) to bytes result) same writes in
    λ name other. ap (λ h. content h name) (same_files n w.0 w.1) ∙ w.2.others name other

-- a count rose in the write, or memory was short
pub write_answer : (x y z : ℕ) (wanted : Answer) (write : Result (Unit {0}) FileError) (fault : FileError) (result : Answer) → write ≡ Err fault → IsErrAnd result (λ r. r ≡ of_files fault) → write ≢ Err files.TooLong → HasCause y z write → x ≤ y → IsFileAnswer x z wanted result
write_answer x y z wanted write files.Failed result was is short cause later =
    inr (inr (is_err File result is, later_rose x y z later (cause.failed (subst (λ w. IsErrOf w files.Failed) (sym was) refl))))
write_answer x y z wanted write files.TooLong result was is short cause later = absurd (short was)
write_answer x y z wanted write files.Memory result was is short cause later = inr (inl (is_err Memory result is))

pub write_failed : (x y z : ℕ) (write : Result (Unit {0}) FileError) (fault : FileError) (result : Answer) → write ≡ Err fault → IsErrAnd result (λ r. r ≡ of_files fault) → write ≢ Err files.TooLong → HasCause y z write → x ≤ y → result ≡ Err File → Rose x z
write_failed x y z write files.Failed result was is short cause later e = later_rose x y z later (cause.failed (subst (λ w. IsErrOf w files.Failed) (sym was) refl))
write_failed x y z write files.TooLong result was is short cause later e = absurd (short was)
write_failed x y z write files.Memory result was is short cause later e = absurd (differ (sym (is_err Memory result is) ∙ e))
  where
    differ : ◌≡◌ {A = Answer} (Err Memory) (Err File) → ⊥
    differ e = absurd cc

pub write_kept : (P : Type 0) (write : Result (Unit {0}) FileError) (fault : FileError) (result : Answer) → write ≡ Err fault → IsErrAnd result (λ r. r ≡ of_files fault) → write ≢ Err files.TooLong → IsKept result → P
write_kept P write files.Failed result was is short kept = absurd (subst IsKept (is_err File result is) kept)
write_kept P write files.TooLong result was is short kept = absurd (short was)
write_kept P write files.Memory result was is short kept = absurd (subst IsKept (is_err Memory result is) kept)

-- steady files do not fail in a write
pub write_steady : (write : Result (Unit {0}) FileError) (fault : FileError) (result : Answer) → write ≡ Err fault → IsErrAnd result (λ r. r ≡ of_files fault) → write ≢ Err files.Failed → result ≢ Err File
write_steady write files.Failed result was is steady e = steady was
write_steady write files.TooLong result was is steady e = absurd (differ (sym (is_err TooLong result is) ∙ e))
  where
    differ : ◌≡◌ {A = Answer} (Err TooLong) (Err File) → ⊥
    differ e = absurd cc
write_steady write files.Memory result was is steady e = absurd (differ (sym (is_err Memory result is) ∙ e))
  where
    differ : ◌≡◌ {A = Answer} (Err Memory) (Err File) → ⊥
    differ e = absurd cc

pub of_write : (fault : FileError) (result : Answer) → IsErrAnd result (λ r. r ≡ of_files fault) → IsOfAsm result
of_write fault result is = subst IsOfAsm (sym (is_err (of_files fault) result is)) (by fault)
  where
    by : (fault : FileError) → IsOfAsm (Err (of_files fault))
    by files.Failed = tt
    by files.TooLong = tt
    by files.Memory = tt
