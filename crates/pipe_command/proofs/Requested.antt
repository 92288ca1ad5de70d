-- What the lines of a script ask of the files, one after another.
use Rattle.std.proofs.Common.{◌≡◌, ℕ, List, [], ◌∷◌, ◌++◌, Option, Some, None, Result, Ok, Err, refl, sym, ap, ◌∙◌, subst}
use Rattle.std.specs.Prelude.{IfSome}
use Rattle.std.proofs.lemmas.List.{append-nil}
use Rattle.io_edges.specs.Requests.{Request}
use Rattle.command_line.specs.Line.{Task}
use Rattle.pipe_script.specs.Script.{ScriptEntry, script_of}
use Rattle.refusals.specs.declared.refusal.Refusal.{Refusal}
use Rattle.refusals.specs.declared.refusal.Refusal.TheVariants.{Usage, TooManyLive, Kernel, TooLong, Elf, Map, Asm, Pipe, Memory, File, Output}
use Rattle.command_answers.specs.declared.files.TaskFiles.{TaskFiles}
use Rattle.command_answers.specs.Answer.{HeldFiles, IsFileAnswer, Answer}
use Rattle.command_answers.specs.Reads.{task_files, files_in}
use Rattle.command_answers.specs.Requests.{Want, IsElsewhere, IsOk, IsNotOfFiles, Asks, all_went, Asked, task_wants}
use Rattle.command_answers.proofs.Asks.{then_asks, stops_asks, none_asked}
use Rattle.command_answers.proofs.Reading.{read_is}
use Rattle.pipe_command.specs.Pipes.{entry_want, lines_wants, entries_wants, wants_after, pipe_wants}
use Rattle.pipe_command.specs.View.{IsOfContent}

-- a refusal of what a file holds is none of the files
pub content_elsewhere : (refusal : Refusal) → IsOfContent refusal → IsElsewhere refusal
content_elsewhere Usage r = tt
content_elsewhere (TooManyLive class need) r = tt
content_elsewhere (Kernel fault) r = tt
content_elsewhere TooLong r = r
content_elsewhere (Elf fault) r = tt
content_elsewhere (Map fault) r = tt
content_elsewhere (Asm fault) r = tt
content_elsewhere (Pipe fault) r = tt
content_elsewhere Memory r = tt
content_elsewhere File r = r
content_elsewhere Output r = tt

-- what the lines that are left ask for is all that the lines do
abbrev pub AsksSoFar : (before now : Option (List Request)) (left all : List ScriptEntry) → Type 0
AsksSoFar before now left all =
    (after : Option (List Request)) (answer : Result (Unit {0}) Refusal) → Asks IsNotOfFiles now after (lines_wants left) answer → Asks IsNotOfFiles before after (lines_wants all) answer

-- one line more has asked for its file
pub next_asked : (before now next : Option (List Request)) (entry : ScriptEntry) (left all : List ScriptEntry) (found : Result (Unit {0}) Refusal) → AsksSoFar before now (entry ∷ left) all → found ≡ Ok tt → Asks IsNotOfFiles now next (entry_want entry ∷ []) found → AsksSoFar before next left all
next_asked before now next entry left all found so is asked = λ after answer rest.
    so after answer (then_asks IsNotOfFiles IsNotOfFiles now next after (entry_want entry ∷ []) (lines_wants left) tt found answer is asked rest)

asks_nothing : (now : Option (List Request)) → Asks {T = Unit {0}} IsNotOfFiles now now [] (Ok tt)
asks_nothing None = tt
asks_nothing (Some log) = ([], ap (λ l. Some l) (sym (append-nil log)), all_went tt)

-- no line is left
pub all_asked : (before now : Option (List Request)) (left all : List ScriptEntry) → AsksSoFar before now left all → left ≡ [] → Asks {T = Unit {0}} IsNotOfFiles before now (lines_wants all) (Ok tt)
all_asked before now left all so none =
    so now (Ok tt) (subst (λ (l : List ScriptEntry). Asks {T = Unit {0}} IsNotOfFiles now now (lines_wants l) (Ok tt)) (sym none) (asks_nothing now))

-- ---- the command

-- the script or the map was not read
pub piped_stops : (x y : ℕ) (before now : Option (List Request)) (held : Option HeldFiles) (task : Task) (refusal : Refusal) (found : Result TaskFiles Refusal) (answer : Answer) → found ≡ Err refusal → answer ≡ Err refusal → Asks IsOk before now (task_wants task) found → IfSome held (λ h. Asks IsNotOfFiles before now (pipe_wants h task) answer)
piped_stops x y before now None task refusal found answer is e asked = tt
piped_stops x y before now (Some h) task refusal found answer is e asked = stops_asks IsNotOfFiles before now (task_wants task) (wants_after (task_files h task)) refusal found answer is e asked

-- they were read, and then the files of the lines
pub piped_asks : (x y : ℕ) (before mid now : Option (List Request)) (held : Option HeldFiles) (task : Task) (script pages : List ℕ) (read : TaskFiles) (found : Result TaskFiles Refusal) (answer : Answer) → found ≡ Ok read → files_in found ≡ Ok (script, pages) → IfSome held (λ h. IsFileAnswer x y (task_files h task) (files_in found)) → Asks IsOk before mid (task_wants task) found → Asks IsNotOfFiles mid now (entries_wants (script_of script)) answer → IfSome held (λ h. Asks IsNotOfFiles before now (pipe_wants h task) answer)
piped_asks x y before mid now None task script pages read found answer is seen h asked rest = tt
piped_asks x y before mid now (Some h) task script pages read found answer is seen same asked rest =
    let e : Ok (script, pages) ≡ task_files h task = read_is x y (task_files h task) (script, pages) (subst (IsFileAnswer x y (task_files h task)) seen same) in
    subst (λ w. Asks IsNotOfFiles before now (task_wants task ++ wants_after w) answer) e
    (then_asks IsOk IsNotOfFiles before mid now (task_wants task) (entries_wants (script_of script)) read found answer is asked rest)
