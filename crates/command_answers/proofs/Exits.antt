-- What a command owes where it ends: after a read that was refused, an output that failed, and where it is done.
use Rattle.std.proofs.Common.{◌≡◌, ◌≢◌, ℕ, List, ◌++◌, Option, Some, None, Result, Ok, Err, inr, sym, ap, ◌∙◌, subst}
use Rattle.std.specs.Prelude.{IfSome, IsErrAnd, OnOk, OnErr}
use Rattle.io_edges.specs.Files.{Rose}
use Rattle.io_edges.specs.declared.sink.Failed.{Failed}
use Rattle.io_edges.specs.Sink.{PutsText, HasCause}
use Rattle.refusals.specs.declared.refusal.Refusal.{Refusal}
use Rattle.refusals.specs.declared.refusal.Refusal.TheVariants.{TooLong, Memory, File, Output}
use Rattle.refusals.specs.declared.refusal.Done.{Done}
use Rattle.command_answers.specs.Answer.{HeldFiles, Success, Expected, Answer, answer_of, expected_text, IsDone, IsAnswer, IsQuiet}
use Rattle.command_answers.specs.Outputs.{Prints}
use Rattle.command_answers.specs.Reads.{IsOfRead}
use Rattle.command_answers.proofs.Prints.{prints_nothing, prints_part, prints_all}
use Rattle.command_answers.proofs.Reading.{is_err}

-- ---- where a call was refused

pub same_refusal : (a b : Refusal) → ◌≡◌ {A = Answer} (Err a) (Err b) → a ≡ b
same_refusal a b e = cc

-- what is answered is what was passed on
pub passed_on : {T : Type 0} (found : Result T Refusal) (refusal other : Refusal) (result : Answer) → found ≡ Err refusal → IsErrAnd result (λ r. r ≡ refusal) → result ≡ Err other → found ≡ Err other
passed_on found refusal other result was is e =
    was ∙ ap (λ r. Err r) (same_refusal refusal other (sym (is_err refusal result is) ∙ e))

pub steady_read : {T : Type 0} (held : Option HeldFiles) (Q : HeldFiles → Type 0) (found : Result T Refusal) (refusal : Refusal) (result : Answer) → found ≡ Err refusal → IsErrAnd result (λ r. r ≡ refusal) → IfSome held (λ h. Q h → found ≢ Err File) → IfSome held (λ h. Q h → result ≢ Err File)
steady_read None Q found refusal result was is reads = tt
steady_read (Some h) Q found refusal result was is reads = λ q e. reads q (passed_on found refusal File result was is e)

-- a refusal of a read is one of a command that reads
pub of_reading : {T : Type 0} (P : Answer → Type 0) (found : Result T Refusal) (refusal : Refusal) (result : Answer) → found ≡ Err refusal → IsErrAnd result (λ r. r ≡ refusal) → IsOfRead found → P (Err TooLong) → P (Err Memory) → P (Err File) → P result
of_reading {T = T} P found refusal result was is of long memory file =
    subst P (sym (is_err refusal result is)) (by refusal (subst (λ r. IsOfRead {T = T} r) was of))
  where
    by : (r : Refusal) → IsOfRead {T = T} (Err r) → P (Err r)
    by TooLong h = long
    by Memory h = memory
    by File h = file
    by other h = absurd h

-- nothing was put on the output of a command that was refused
pub untold : (held : Option HeldFiles) (wanted : HeldFiles → Expected) (printed : Option (List ℕ)) (refusal : Refusal) (result : Answer) → IsErrAnd result (λ r. r ≡ refusal) → IfSome held (λ h. Prints printed printed (expected_text (wanted h)) result)
untold None wanted printed refusal result is = tt
untold (Some h) wanted printed refusal result is =
    subst (Prints printed printed (expected_text (wanted h))) (sym (is_err refusal result is)) (prints_nothing printed (expected_text (wanted h)) refusal)

-- ---- where the output failed

rose_of : (a b : ℕ) (put : Result (Unit {0}) Failed) (failed : Failed) → put ≡ Err failed → HasCause a b put → Rose a b
rose_of a b put failed was cause = subst (λ r. OnErr r (Rose a b)) was cause.failed

-- a command of which some success is wanted is done
pub is_done_by : {success : Success} (wanted : Expected) → wanted ≡ Ok success → IsDone (answer_of wanted)
is_done_by wanted e = subst (λ w. IsDone (answer_of w)) (sym e) tt

pub cut_answer : {success : Success} (x y a b : ℕ) (wanted : Expected) (put : Result (Unit {0}) Failed) (failed : Failed) (result : Answer) → wanted ≡ Ok success → put ≡ Err failed → HasCause a b put → IsErrAnd result (λ r. r ≡ Output) → IsAnswer x y (Rose a b) (answer_of wanted) result
cut_answer x y a b wanted put failed result done was cause is =
    inr (is_err Output result is, rose_of a b put failed was cause, is_done_by wanted done)

pub cut_output : (a b : ℕ) (put : Result (Unit {0}) Failed) (failed : Failed) (result : Answer) → put ≡ Err failed → HasCause a b put → result ≡ Err Output → Rose a b
cut_output a b put failed result was cause e = rose_of a b put failed was cause

pub cut_print : (old new : Option (List ℕ)) (a b : ℕ) (wanted : Expected) (text : List ℕ) (put : Result (Unit {0}) Failed) (result : Answer) → IsErrAnd result (λ r. r ≡ Output) → expected_text wanted ≡ text → PutsText old new a b text put → Prints old new (expected_text wanted) result
cut_print old new a b wanted text put result is same p =
    subst (Prints old new (expected_text wanted)) (sym (is_err Output result is))
    (subst (λ t. Prints old new t (Err Output)) (sym same) (prints_part old new text Output p.part))

pub cut_loud : (P : Type 0) (result : Answer) → IsErrAnd result (λ r. r ≡ Output) → IsQuiet result → P
cut_loud P result is quiet = absurd (subst IsQuiet (is_err Output result is) quiet)

pub cut_not_file : (result : Answer) → IsErrAnd result (λ r. r ≡ Output) → result ≢ Err File
cut_not_file result is e = differ (sym (is_err Output result is) ∙ e)
  where
    differ : ◌≡◌ {A = Answer} (Err Output) (Err File) → ⊥
    differ e = absurd cc

pub of_refusal : (P : Answer → Type 0) (refusal : Refusal) (result : Answer) → IsErrAnd result (λ r. r ≡ refusal) → P (Err refusal) → P result
of_refusal P refusal result is p = subst P (sym (is_err refusal result is)) p

-- ---- where the command is done

pub not_refused : (how : Done) (refusal : Refusal) → ◌≢◌ {A = Answer} (Ok how) (Err refusal)
not_refused how refusal e = absurd cc

pub done_print : (old new : Option (List ℕ)) (a b : ℕ) (wanted : Expected) (text : List ℕ) (put : Result (Unit {0}) Failed) (how : Done) → put ≡ Ok tt → expected_text wanted ≡ text → PutsText old new a b text put → Prints old new (expected_text wanted) (Ok how)
done_print old new a b wanted text put how was same p =
    subst (λ t. Prints old new t (Ok how)) (sym same)
    (prints_all old new text how (subst (λ r. OnOk r (IfSome old (λ bytes. new ≡ Some (bytes ++ text)))) was p.all) p.part)
