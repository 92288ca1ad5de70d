-- What a debugging session comes to, by the files that were read, the program that was loaded, and what was answered.
use Rattle.std.proofs.Common.{◌≡◌, ◌≢◌, ◌⊎◌, ℕ, List, Option, Some, None, Result, Ok, Err, inl, inr, refl, sym, ap, ◌∙◌, subst}
use Rattle.std.specs.Prelude.{IfSome, IfOk, IsErrAnd}
use Rattle.guest_types.specs.Memory.{Memory as Pages}
use Rattle.machine_model.specs.Load.{Image, load}
use Rattle.machine_model.specs.Machine.{State}
use Rattle.machine_model.specs.Run.{start}
use Rattle.map_text.specs.Mapping.{map_of as pages_of_map}
use Rattle.sve_debug.specs.Replies.{started}
use Rattle.io_edges.specs.Files.{Rose}
use Rattle.command_line.specs.Line.{Task}
use Rattle.sve_debug.specs.declared.session.SessionFault.{SessionFault}
use Rattle.sve_debug.specs.declared.session.SessionFault.TheVariants as sessions
use Rattle.sve_debug.specs.Sessions.{Tells, AsItCame, IsWithin}
use Rattle.refusals.specs.declared.refusal.Refusal.{Refusal}
use Rattle.refusals.specs.declared.refusal.Refusal.TheVariants.{Elf, Map, Memory, File, Output}
use Rattle.refusals.specs.declared.refusal.Done.TheVariants as done
use Rattle.command_answers.specs.Answer.{HeldFiles, Success, Expected, Answer, answer_of, expected_text, IsFileAnswer, IsAnswer, IsQuiet}
use Rattle.refusals.specs.Statuses.{of_session}
use Rattle.command_answers.specs.Reads.{and_then, task_files, IsOfRead}
use Rattle.program_commands.specs.Commands.{expected_of_debug, IsOfDebug, IsOfRun}
use Rattle.command_answers.specs.Works.{RefusesProgram}
use Rattle.command_answers.specs.Outputs.{Prints}
use Rattle.program_commands.specs.Ready.{AnswersAsItCame, DebugsAsItCame, DebugsInTime}
use Rattle.command_answers.proofs.Reading.{read_is, of_what_follows, is_err, not_read}
use Rattle.command_answers.proofs.Prints.{prints_nothing}
use Rattle.command_answers.proofs.Exits.{is_done_by}

-- what holds of all inputs and files
pub whatever : (left : Option (List ℕ)) (held : Option HeldFiles) (P : List ℕ → HeldFiles → Type 0) → ((input : List ℕ) (h : HeldFiles) → P input h) → IfSome left (λ input. IfSome held (λ h. P input h))
whatever None held P all = tt
whatever (Some input) None P all = tt
whatever (Some input) (Some h) P all = all input h

-- ---- the files of a session

pub not_begun : {T : Type 0} (x y : ℕ) (rose : Type 0) (left : Option (List ℕ)) (held : Option HeldFiles) (wanted : HeldFiles → Result T Refusal) (found : Result T Refusal) (next : List ℕ → T → Expected) (refusal : Refusal) (result : Answer) → found ≡ Err refusal → result ≡ Err refusal → IfSome held (λ h. IsFileAnswer x y (wanted h) found)
    → IfSome left (λ input. IfSome held (λ h. IsAnswer x y rose (answer_of (and_then (wanted h) (next input))) result))
not_begun x y rose None held wanted found next refusal result is e answer = tt
not_begun x y rose (Some input) held wanted found next refusal result is e answer = not_read x y rose held wanted found (next input) refusal result is e answer

-- what holds of what comes of the program holds of what is wanted
pub debugged_is : {T : Type 0} (x y : ℕ) (left : Option (List ℕ)) (held : Option HeldFiles) (wanted : HeldFiles → Result T Refusal) (read : T) (found : Result T Refusal) (next : List ℕ → T → Expected) (P : Expected → Type 0) → found ≡ Ok read → IfSome held (λ h. IsFileAnswer x y (wanted h) found) → IfSome left (λ input. P (next input read))
    → IfSome left (λ input. IfSome held (λ h. P (and_then (wanted h) (next input))))
debugged_is x y None held wanted read found next P is answer p = tt
debugged_is x y (Some input) held wanted read found next P is answer p = of_what_follows x y held wanted read found (next input) P is answer p

-- a program that is refused
refused_answer : (x y : ℕ) (rose : Type 0) (wanted : Expected) (refusal : Refusal) (result : Answer) → result ≡ Err refusal → RefusesProgram wanted refusal → IsAnswer x y rose (answer_of wanted) result
refused_answer x y rose wanted Memory result is h = inl (inr (inl is))
refused_answer x y rose wanted (Elf fault) result is h = inl (inl (is ∙ sym (ap answer_of h)))
refused_answer x y rose wanted (Map fault) result is h = inl (inl (is ∙ sym (ap answer_of h)))
refused_answer x y rose wanted other result is h = absurd h

pub refused_work : (x y : ℕ) (rose : Type 0) (wanted : Expected) (refusal : Refusal) (result : Answer) → IsErrAnd result (λ r. r ≡ refusal) → RefusesProgram wanted refusal → IsAnswer x y rose (answer_of wanted) result
refused_work x y rose wanted refusal result is h = refused_answer x y rose wanted refusal result (is_err refusal result is) h

pub refused_program : (x y : ℕ) (rose : Type 0) (left : Option (List ℕ)) (wanted : List ℕ → Expected) (refusal : Refusal) (result : Answer) → IsErrAnd result (λ r. r ≡ refusal) → ((input : List ℕ) → RefusesProgram (wanted input) refusal) → IfSome left (λ input. IsAnswer x y rose (answer_of (wanted input)) result)
refused_program x y rose None wanted refusal result is h = tt
refused_program x y rose (Some input) wanted refusal result is h = refused_work x y rose (wanted input) refusal result is (h input)

-- a refusal of a program or its map is none of another command, of a file or of an output
refusal_of : (wanted : Expected) (refusal : Refusal) → RefusesProgram wanted refusal → IsOfDebug (Err refusal)
refusal_of wanted Memory h = tt
refusal_of wanted (Elf fault) h = tt
refusal_of wanted (Map fault) h = tt
refusal_of wanted other h = absurd h

no_failed_file : (wanted : Expected) (refusal : Refusal) → RefusesProgram wanted refusal → ◌≡◌ {A = Answer} (Err refusal) (Err File) → ⊥
no_failed_file wanted Memory h e = absurd cc
no_failed_file wanted (Elf fault) h e = absurd cc
no_failed_file wanted (Map fault) h e = absurd cc
no_failed_file wanted other h e = absurd h

no_failed_output : (wanted : Expected) (refusal : Refusal) → RefusesProgram wanted refusal → ◌≡◌ {A = Answer} (Err refusal) (Err Output) → ⊥
no_failed_output wanted Memory h e = absurd cc
no_failed_output wanted (Elf fault) h e = absurd cc
no_failed_output wanted (Map fault) h e = absurd cc
no_failed_output wanted other h e = absurd h

pub program_of_debug : (wanted : Expected) (refusal : Refusal) (result : Answer) → IsErrAnd result (λ r. r ≡ refusal) → RefusesProgram wanted refusal → IsOfDebug result
program_of_debug wanted refusal result is h = subst IsOfDebug (sym (is_err refusal result is)) (refusal_of wanted refusal h)

pub program_of_run : (wanted : Expected) (refusal : Refusal) (result : Answer) → IsErrAnd result (λ r. r ≡ refusal) → RefusesProgram wanted refusal → IsOfRun result
program_of_run wanted refusal result is h = subst IsOfRun (sym (is_err refusal result is)) (by refusal h)
  where
    by : (refusal : Refusal) → RefusesProgram wanted refusal → IsOfRun (Err refusal)
    by Memory h = tt
    by (Elf fault) h = tt
    by (Map fault) h = tt
    by other h = absurd h

pub program_not_file : (wanted : Expected) (refusal : Refusal) (result : Answer) → IsErrAnd result (λ r. r ≡ refusal) → RefusesProgram wanted refusal → result ≢ Err File
program_not_file wanted refusal result is h e = no_failed_file wanted refusal h (sym (is_err refusal result is) ∙ e)

pub program_not_output : (wanted : Expected) (refusal : Refusal) (result : Answer) → IsErrAnd result (λ r. r ≡ refusal) → RefusesProgram wanted refusal → result ≢ Err Output
program_not_output wanted refusal result is h e = no_failed_output wanted refusal h (sym (is_err refusal result is) ∙ e)

-- ---- sessions

-- a session that failed: memory was short, or the count of the output or the input rose
pub failed_session : {success : Success} (x y a b i j : ℕ) (wanted : Expected) (fault : SessionFault) (result : Answer) → wanted ≡ Ok success → IsErrAnd result (λ r. r ≡ of_session fault) → (fault ≡ sessions.Input → Rose i j) → (fault ≡ sessions.Output → Rose a b) → IsAnswer x y (Rose a b ⊎ Rose i j) (answer_of wanted) result
failed_session x y a b i j wanted sessions.Memory result done is input output = inl (inr (inl (is_err Memory result is)))
failed_session x y a b i j wanted sessions.Input result done is input output = inr (is_err Output result is, inr (input refl), is_done_by wanted done)
failed_session x y a b i j wanted sessions.Output result done is input output = inr (is_err Output result is, inl (output refl), is_done_by wanted done)

pub session_output : (a b i j : ℕ) (fault : SessionFault) (result : Answer) → IsErrAnd result (λ r. r ≡ of_session fault) → (fault ≡ sessions.Input → Rose i j) → (fault ≡ sessions.Output → Rose a b) → result ≡ Err Output → Rose a b ⊎ Rose i j
session_output a b i j sessions.Memory result is input output e = absurd (differ (sym (is_err Memory result is) ∙ e))
  where
    differ : ◌≡◌ {A = Answer} (Err Memory) (Err Output) → ⊥
    differ e = absurd cc
session_output a b i j sessions.Input result is input output e = inr (input refl)
session_output a b i j sessions.Output result is input output e = inl (output refl)

-- it has put something on the output, and no file failed
pub session_loud : (P : Type 0) (fault : SessionFault) (result : Answer) → IsErrAnd result (λ r. r ≡ of_session fault) → IsQuiet result → P
session_loud P fault result is quiet = absurd (by fault (subst IsQuiet (is_err (of_session fault) result is) quiet))
  where
    by : (fault : SessionFault) → IsQuiet (Err (of_session fault)) → ⊥
    by sessions.Memory quiet = quiet
    by sessions.Input quiet = quiet
    by sessions.Output quiet = quiet

pub session_not_file : (fault : SessionFault) (result : Answer) → IsErrAnd result (λ r. r ≡ of_session fault) → result ≢ Err File
session_not_file fault result is e = by fault (sym (is_err (of_session fault) result is) ∙ e)
  where
    by : (fault : SessionFault) → ◌≡◌ {A = Answer} (Err (of_session fault)) (Err File) → ⊥
    by sessions.Memory e = absurd cc
    by sessions.Input e = absurd cc
    by sessions.Output e = absurd cc

pub of_failed_session : (fault : SessionFault) (result : Answer) → IsErrAnd result (λ r. r ≡ of_session fault) → IsOfDebug result
of_failed_session fault result is = subst IsOfDebug (sym (is_err (of_session fault) result is)) (by fault)
  where
    by : (fault : SessionFault) → IsOfDebug (Err (of_session fault))
    by sessions.Memory = tt
    by sessions.Input = tt
    by sessions.Output = tt

-- Where no output failed, the input did, and the lines that were ended are answered.
pub came_session : (x y a b : ℕ) (left rest : Option (List ℕ)) (held : Option HeldFiles) (vl : ℕ) (task : Task) (read : List ℕ × List ℕ) (found : Result (List ℕ × List ℕ) Refusal) (old new : Option (List ℕ)) (image : Image) (pages : Pages) (fault : SessionFault) (result : Answer) → found ≡ Ok read → IfSome held (λ h. IsFileAnswer x y (task_files h task) found)
    → load read.0 ≡ Ok image → pages_of_map read.1 image.pages ≡ Ok pages → IsErrAnd result (λ r. r ≡ of_session fault) → (fault ≡ sessions.Output → Rose a b) → (fault ≡ sessions.Input → IfSome left (λ bytes. AsItCame (started (start image task.args pages vl)) bytes rest old new))
    → result ≡ Err Output → (Rose a b → ⊥) → IfSome left (λ bytes. IfSome held (λ h. DebugsAsItCame h vl task bytes rest old new))
came_session x y a b None rest held vl task read found old new image pages fault result is answer loads maps err output input failed none = tt
came_session x y a b (Some bytes) rest None vl task read found old new image pages fault result is answer loads maps err output input failed none = tt
came_session x y a b (Some bytes) rest (Some h) vl task read found old new image pages fault result is answer loads maps err output input failed none =
    subst (λ r. IfOk r (λ files. AnswersAsItCame vl task files.0 files.1 bytes rest old new)) (read_is x y (task_files h task) read (subst (IsFileAnswer x y (task_files h task)) is answer))
    (record { image = image; pages = pages; loads = loads; maps = maps; came = by fault (sym (is_err (of_session fault) result err) ∙ failed) output input })
  where
    by : (fault : SessionFault) → ◌≡◌ {A = Answer} (Err (of_session fault)) (Err Output) → (fault ≡ sessions.Output → Rose a b) → (fault ≡ sessions.Input → AsItCame (started (start image task.args pages vl)) bytes rest old new) → AsItCame (started (start image task.args pages vl)) bytes rest old new
    by sessions.Memory e output input = absurd cc
    by sessions.Input e output input = input refl
    by sessions.Output e output input = absurd (none (output refl))

-- what a session may ask for, `debug` may
pub asks_session : (x y : ℕ) (input left : Option (List ℕ)) (held : Option HeldFiles) (vl : ℕ) (task : Task) (read : List ℕ × List ℕ) (found : Result (List ℕ × List ℕ) Refusal) (old new : Option (List ℕ)) (image : Image) (pages : Pages) (begin : State) → found ≡ Ok read → IfSome held (λ h. IsFileAnswer x y (task_files h task) found)
    → load read.0 ≡ Ok image → pages_of_map read.1 image.pages ≡ Ok pages → begin ≡ start image task.args pages vl → IfSome input (λ bytes. IsWithin bytes left × AsItCame (started begin) bytes left old new) → DebugsInTime held vl task input left old new
asks_session x y None left held vl task read found old new image pages begin is answer loads maps at came = tt
asks_session x y (Some bytes) left None vl task read found old new image pages begin is answer loads maps at came = tt
asks_session x y (Some bytes) left (Some h) vl task read found old new image pages begin is answer loads maps at came = (
  read,
  sym (read_is x y (task_files h task) read (subst (IsFileAnswer x y (task_files h task)) is answer)),
  came.0,
  record { image = image; pages = pages; loads = loads; maps = maps; came = subst (λ (s : State). AsItCame (started s) bytes left old new) at came.1 },
)

-- a refusal of a read is no failure of an output
pub read_not_output : {T : Type 0} (found : Result T Refusal) (refusal : Refusal) (result : Answer) → found ≡ Err refusal → IsErrAnd result (λ r. r ≡ refusal) → IsOfRead found → result ≢ Err Output
read_not_output {T = T} found refusal result is err of e = subst (λ r. IsOfRead {T = T} r) (is ∙ ap (λ r. Err r) (same refusal Output (sym (is_err refusal result err) ∙ e))) of
  where
    same : (a b : Refusal) → ◌≡◌ {A = Answer} (Err a) (Err b) → a ≡ b
    same a b e = cc

-- what is answered whatever the input
pub answered_session : (left : Option (List ℕ)) (P : List ℕ → Type 0) → ((input : List ℕ) → P input) → IfSome left P
answered_session None P all = tt
answered_session (Some input) P all = all input

-- nothing was put on the output before the session
pub untold_session : (left : Option (List ℕ)) (held : Option HeldFiles) (vl : ℕ) (task : Task) (printed : Option (List ℕ)) (refusal : Refusal) (result : Answer) → IsErrAnd result (λ r. r ≡ refusal) → IfSome left (λ input. IfSome held (λ h. Prints printed printed (expected_text (expected_of_debug h input vl task)) result))
untold_session left held vl task printed refusal result is =
    whatever left held (λ input h. Prints printed printed (expected_text (expected_of_debug h input vl task)) result)
    (λ input h. subst (Prints printed printed (expected_text (expected_of_debug h input vl task))) (sym (is_err refusal result is)) (prints_nothing printed (expected_text (expected_of_debug h input vl task)) refusal))

all_told : (old new : Option (List ℕ)) (text : List ℕ) (told : Result (Unit {0}) SessionFault) → told ≡ Ok tt → Tells old new text told → Prints old new text (Ok done.Ended)
all_told None new text (Ok all) is h = tt
all_told (Some bytes) new text (Ok all) is h = h
all_told old new text (Err fault) is h = absurd cc

part_told : (old new : Option (List ℕ)) (text : List ℕ) (refusal : Refusal) (told : Result (Unit {0}) SessionFault) → Tells old new text told → Prints old new text (Err refusal)
part_told None new text refusal told h = tt
part_told (Some bytes) new text refusal told h = (tt, h.1)

-- the whole text was put
pub told_session : (left : Option (List ℕ)) (old new : Option (List ℕ)) (wanted : List ℕ → Expected) (text : List ℕ → List ℕ) (told : Result (Unit {0}) SessionFault) → told ≡ Ok tt → ((input : List ℕ) → expected_text (wanted input) ≡ text input) → IfSome left (λ input. Tells old new (text input) told) → IfSome left (λ input. Prints old new (expected_text (wanted input)) (Ok done.Ended))
told_session None old new wanted text told is same h = tt
told_session (Some input) old new wanted text told is same h =
    subst (λ t. Prints old new t (Ok done.Ended)) (sym (same input)) (all_told old new (text input) told is h)

-- a part of it was put
pub cut_session : (left : Option (List ℕ)) (old new : Option (List ℕ)) (wanted : List ℕ → Expected) (text : List ℕ → List ℕ) (told : Result (Unit {0}) SessionFault) (refusal : Refusal) (result : Answer) → IsErrAnd result (λ r. r ≡ refusal) → ((input : List ℕ) → expected_text (wanted input) ≡ text input) → IfSome left (λ input. Tells old new (text input) told) → IfSome left (λ input. Prints old new (expected_text (wanted input)) result)
cut_session None old new wanted text told refusal result is same h = tt
cut_session (Some input) old new wanted text told refusal result is same h =
    subst (Prints old new (expected_text (wanted input))) (sym (is_err refusal result is))
    (subst (λ t. Prints old new t (Err refusal)) (sym (same input)) (part_told old new (text input) refusal told h))
