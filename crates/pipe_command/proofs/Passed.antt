-- What a call that failed, or one that came to its end, owes of the files.
use Rattle.std.proofs.Common.{◌≡◌, ◌≢◌, ℕ, List, [], ◌∷◌, ◌++◌, Option, Some, None, Result, Ok, Err, inl, inr, ⊎_elim, ap, ◌∙◌, sym, subst}
use Rattle.std.specs.Prelude.{IfSome, IfErr, IsErrAnd}
use Rattle.std.specs.List.{AllByRecursion}
use Rattle.guest_types.specs.Memory.{Memory as Pages}
use Rattle.refusals.specs.declared.refusal.Refusal.{Refusal}
use Rattle.refusals.specs.declared.refusal.Refusal.TheVariants.{Memory, File, TooLong, Elf, Map, Pipe, Output}
use Rattle.io_edges.specs.Files.{Rose}
use Rattle.io_edges.specs.declared.sink.Failed.{Failed}
use Rattle.io_edges.specs.Sink.{HasCause}
use Rattle.command_line.specs.Line.{Task}
use Rattle.command_answers.specs.Answer.{HeldFiles, Success, Expected, Answer, answer_of, IsFileAnswer, IsAnswer}
use Rattle.command_answers.specs.Reads.{and_then, task_files, IsOfRead}
use Rattle.command_answers.proofs.Reading.{read_is, not_read}
use Rattle.command_answers.proofs.Exits.{cut_answer}
use Rattle.command_answers.proofs.Held.{whatever_held}
use Rattle.pipe_command.specs.Pipes.{pipe_files, expected_of_pipe}
use Rattle.pipe_command.specs.declared.loaded.LoadedLine.{LoadedLine}
use Rattle.pipe_command.specs.View.{line_view, lines_view, Refuses, IsOfContent, IsOfFiles, IsFitting}
use Rattle.pipe_command.proofs.Causes.{not_file_either}
use Rattle.pipe_command.proofs.LoadedLines.{held_map}

-- a refusal that is passed on is one of a file where the first one is
pub file_before : {T U : Type 0} (refusal : Refusal) (first : Result T Refusal) (second : Result U Refusal) → first ≡ Err refusal → second ≡ Err refusal → second ≡ Err File → first ≡ Err File
file_before {T = T} {U = U} refusal first second is also e = is ∙ same refusal File (sym also ∙ e)
  where
    same : (a b : Refusal) → ◌≡◌ {A = Result U Refusal} (Err a) (Err b) → ◌≡◌ {A = Result T Refusal} (Err a) (Err b)
    same a b e = cc

pub reads_before : {T U : Type 0} (held : Option HeldFiles) (A : HeldFiles → Type 0) (refusal : Refusal) (first : Result T Refusal) (second : Result U Refusal) → first ≡ Err refusal → second ≡ Err refusal → IfSome held (λ h. A h → first ≢ Err File) → IfSome held (λ h. A h → second ≢ Err File)
reads_before held A refusal first second is also h = held_map held A (first ≢ Err File) (second ≢ Err File) (not_file_either refusal first second is also) h

-- what is no refusal of a file is none whatever is held
pub never_file : {T : Type 0} (held : Option HeldFiles) (A : HeldFiles → Type 0) (result : Result T Refusal) → result ≢ Err File → IfSome held (λ h. A h → result ≢ Err File)
never_file held A result none = whatever_held held (λ h. A h → result ≢ Err File) (λ h a. none)

pub ok_not_file : {T : Type 0} (x : T) → ◌≢◌ {A = Result T Refusal} (Ok x) (Err File)
ok_not_file x e = absurd cc

pub memory_not_file : {T : Type 0} → ◌≢◌ {A = Result T Refusal} (Err Memory) (Err File)
memory_not_file e = absurd cc

pub by_files : {T : Type 0} (fault : Refusal) (result : Result T Refusal) → IsErrAnd result (λ r. r ≡ fault) → IsOfFiles fault → IfErr result IsOfFiles
by_files fault (Ok x) is h = absurd is
by_files fault (Err r) is h = subst IsOfFiles (sym is) h

-- ---- by what a file holds

pub of_content : (refusal : Refusal) → IsOfContent refusal → IsOfFiles refusal
of_content Memory h = tt
of_content (Elf fault) h = tt
of_content (Map fault) h = tt
of_content (Pipe fault) h = tt
of_content TooLong h = tt
of_content File h = tt
of_content other h = h

pub content_not_file : {T : Type 0} (refusal : Refusal) (result : Result T Refusal) → result ≡ Err refusal → IsOfContent refusal → result ≢ Err File
content_not_file {T = T} refusal result is h e = subst IsOfContent (same refusal File (sym is ∙ e)) h
  where
    same : (a b : Refusal) → ◌≡◌ {A = Result T Refusal} (Err a) (Err b) → a ≡ b
    same a b e = cc

-- ---- by a read

of_read_files : (T : Type 0) (refusal : Refusal) → IsOfRead {T = T} (Err refusal) → IsOfFiles refusal
of_read_files T TooLong h = tt
of_read_files T Memory h = tt
of_read_files T File h = tt
of_read_files T other h = absurd h

pub read_files : {T : Type 0} (found : Result T Refusal) (refusal : Refusal) → found ≡ Err refusal → IsOfRead found → IsOfFiles refusal
read_files {T = T} found refusal is h = of_read_files T refusal (subst IsOfRead is h)

pub read_refused : {T : Type 0} (x y : ℕ) (rose : Type 0) (held : Option HeldFiles) (wanted : HeldFiles → Result T Refusal) (found : Result T Refusal) (next : HeldFiles → T → Expected) (refusal : Refusal) (result : Answer) → found ≡ Err refusal → result ≡ Err refusal → IfSome held (λ h. IsFileAnswer x y (wanted h) found) → IfSome held (λ h. IsAnswer x y rose (answer_of (and_then (wanted h) (next h))) result)
read_refused x y rose None wanted found next refusal result is e answer = tt
read_refused x y rose (Some h) wanted found next refusal result is e answer = not_read x y rose (Some h) wanted found (next h) refusal result is e answer

pub after_read : {T U : Type 0} (x y : ℕ) (held : Option HeldFiles) (wanted : HeldFiles → Result T Refusal) (read : T) (found : Result T Refusal) (next : T → Result U Refusal) (result : Result U Refusal) → found ≡ Ok read → IfSome held (λ h. IsFileAnswer x y (wanted h) found) → IsFileAnswer x y (next read) result → IfSome held (λ h. IsFileAnswer x y (and_then (wanted h) next) result)
after_read x y None wanted read found next result is answer p = tt
after_read x y (Some h) wanted read found next result is answer p =
    subst (λ r. IsFileAnswer x y (and_then r next) result) (read_is x y (wanted h) read (subst (IsFileAnswer x y (wanted h)) is answer)) p

-- ---- the output failed after the lines had run

files_ran : (x y z : ℕ) (held : HeldFiles) (vl : ℕ) (task : Task) (read : List ℕ × List ℕ) (success : Success) → IsFileAnswer x y (task_files held task) (Ok read) → IsFileAnswer y z (pipe_files held vl task read.0 read.1) (Ok success) → expected_of_pipe held vl task ≡ Ok success
files_ran x y z held vl task read success found ran =
    ap (λ r. and_then r (λ files. pipe_files held vl task files.0 files.1)) (sym (read_is x y (task_files held task) read found))
    ∙ sym (read_is y z (pipe_files held vl task read.0 read.1) success ran)

pub cut_pipe : (x y z a b : ℕ) (old held : Option HeldFiles) (vl : ℕ) (task : Task) (read : List ℕ × List ℕ) (found : Result (List ℕ × List ℕ) Refusal) (success : Success) (ran : Expected) (put : Result (Unit {0}) Failed) (failed : Failed) (result : Answer) → found ≡ Ok read → ran ≡ Ok success → held ≡ old → IfSome old (λ h. IsFileAnswer x y (task_files h task) found) → IfSome held (λ h. IsFileAnswer y z (pipe_files h vl task read.0 read.1) ran)
    → put ≡ Err failed → HasCause a b put → IsErrAnd result (λ r. r ≡ Output) → IfSome old (λ h. IsAnswer x z (Rose a b) (answer_of (expected_of_pipe h vl task)) result)
cut_pipe x y z a b old held vl task read found success ran put failed result is also same answer then was cause err =
    by old answer (subst (λ m. IfSome m (λ h. IsFileAnswer y z (pipe_files h vl task read.0 read.1) ran)) same then)
  where
    by : (o : Option HeldFiles) → IfSome o (λ h. IsFileAnswer x y (task_files h task) found) → IfSome o (λ h. IsFileAnswer y z (pipe_files h vl task read.0 read.1) ran) → IfSome o (λ h. IsAnswer x z (Rose a b) (answer_of (expected_of_pipe h vl task)) result)
    by None answer then = tt
    by (Some h) answer then =
        let done = files_ran x y z h vl task read success (subst (IsFileAnswer x y (task_files h task)) is answer) (subst (IsFileAnswer y z (pipe_files h vl task read.0 read.1)) also then) in
        cut_answer x z a b (expected_of_pipe h vl task) put failed result done was cause err

-- ---- one line more that the map fits beside

pub fits_more : (pages : Pages) (lines : List LoadedLine) (line : LoadedLine) → IsFitting pages (line_view line) → AllByRecursion (IsFitting pages) (lines_view lines) → AllByRecursion (IsFitting pages) (lines_view (lines ++ line ∷ []))
fits_more pages [] line f h = (f, tt)
fits_more pages (first ∷ lines) line f h = (h.0, fits_more pages lines line f h.1)

-- ---- what is refused first is refused in all that follows it

pub refuses_then : {T U : Type 0} (wanted : Result T Refusal) (next : T → Result U Refusal) (refusal : Refusal) → Refuses wanted refusal → Refuses (and_then wanted next) refusal
refuses_then wanted next refusal h = ⊎_elim (λ m. inl m) (λ e. inr (ap (λ w. and_then w next) e)) h

pub refuses_as : {T U : Type 0} (wanted : Result T Refusal) (read : T) (next : T → Result U Refusal) (refusal : Refusal) → wanted ≡ Ok read → Refuses (next read) refusal → Refuses (and_then wanted next) refusal
refuses_as wanted read next refusal e h = subst (λ w. Refuses (and_then w next) refusal) (sym e) h
