-- Programs that are loaded: their pages, and where their runs start.
use Rattle.std.proofs.Common.{◌≡◌, ℕ, ◌+◌, ◌≤◌, List, [], ◌++◌, length, Result, Ok, Err, refl, sym, ap, ◌∙◌, subst, arith}
use Rattle.std.specs.Prelude.{IfErr, IsErrAnd}
use Rattle.guest_types.specs.Memory.{Memory, IsMemory, DoNotMeet, merged}
use Rattle.guest_types.specs.EarlyLoads.{StopList, never}
use Rattle.guest_types.proofs.Merges.{empty_memory, merged-nil_right}
use Rattle.machine_model.specs.declared.elf_fault.ElfFault.{ElfFault}
use Rattle.machine_model.specs.declared.outcome.Outcome.{Outcome as OutcomeAnswer}
use Rattle.machine_model.specs.Answers.{outcome_of}
use Rattle.machine_model.specs.Debugged.{View}
use Rattle.machine_model.specs.Load.{Image, load}
use Rattle.machine_model.specs.Machine.{State}
use Rattle.machine_model.specs.OutcomeText.{outcome_text}
use Rattle.machine_model.specs.Run.{Outcome, run, start, free_start, memory_left}
use Rattle.outcome_text.specs.View.{text_of as text_of_outcome}
use Rattle.elf_image.specs.Loaded.{Refuses}
use Rattle.map_text.specs.declared.fault.MapFault.{MapFault}
use Rattle.map_text.specs.Mapping.{map_of as pages_of_map}
use Rattle.map_text.specs.View.{Refuses as RefusesMap}
use Rattle.command_line.specs.Line.{Task}
use Rattle.sve_debug.specs.Replies.{started}
use Rattle.sve_debug.specs.Sessions.{session_text}
use Rattle.refusals.specs.declared.refusal.Refusal.{Refusal}
use Rattle.refusals.specs.declared.refusal.Refusal.TheVariants.{Elf, Map}
use Rattle.refusals.specs.declared.refusal.Done.{Done}
use Rattle.refusals.specs.Statuses.{of_elf, of_map}
use Rattle.command_answers.specs.Answer.{Expected}
use Rattle.command_answers.specs.Reads.{and_then}
use Rattle.command_answers.specs.Works.{loaded, mapped, ended, success_of, dump_of, done_by, done_of, RefusesProgram}
use Rattle.command_answers.proofs.Loading.{program_refused, error_refused, map_refused}
use Rattle.command_answers.proofs.Outcomes.{same_done, same_text, same_memory}
use Rattle.program_commands.specs.Listing.{lines_from, listing_of, word_count}
use Rattle.program_commands.specs.Ready.{BeginsProgram}
use Rattle.program_commands.specs.Commands.{beside, with_program, list_program, ran, run_program, debugged, debug_program}

-- no page stands beside an image
pub nothing_does_not_meet : (memory other : Memory) → other ≡ [] → DoNotMeet memory other
nothing_does_not_meet memory other e = subst (DoNotMeet memory) (sym e) (λ k d h. refl)

pub few_alone : (memory other : Memory) → other ≡ [] → length memory ≤ 16384 → length memory + length other ≤ 16384
few_alone memory other e h = omega (arith, ap length e)

pub none_in_order : (other : Memory) → other ≡ [] → IsMemory other
none_in_order other e = subst IsMemory (sym e) empty_memory

-- ---- listings

list_is : (bytes : List ℕ) (image : Result Image ElfFault) → load bytes ≡ image → list_program bytes ≡ and_then (loaded image) (λ i. ended (listing_of i))
unfolding list_program
list_is bytes image e = ap (λ l. and_then (loaded l) (λ i. ended (listing_of i))) e

list_wanted : (bytes : List ℕ) (fault : ElfFault) → load bytes ≡ Err fault → list_program bytes ≡ Err (Elf fault)
list_wanted bytes fault e = list_is bytes (Err fault) e

pub list_refused : {T : Type 0} (bytes : List ℕ) (fault : ElfFault) (result : Result T Refusal) → IsErrAnd result (λ refusal. refusal ≡ of_elf fault) → Refuses (load bytes) fault → IfErr result (λ refusal. RefusesProgram (list_program bytes) refusal)
list_refused bytes fault result is h = error_refused (load bytes) (list_program bytes) fault result (list_wanted bytes) is h

pub list_loaded : (bytes : List ℕ) (image : Image) (memory : Memory) (from count : ℕ) → load bytes ≡ Ok image → memory ≡ merged image.pages [] → from ≡ image.code_from → count ≡ word_count image → list_program bytes ≡ ended (lines_from memory from count)
unfolding listing_of
list_loaded bytes image memory from count e pages begin whole =
    list_is bytes (Ok image) e
    ∙ ap (λ m. ended (lines_from m image.code_from (word_count image))) (sym (pages ∙ merged-nil_right image.pages))
    ∙ ap (λ a. ended (lines_from memory a (word_count image))) (sym begin)
    ∙ ap (λ n. ended (lines_from memory from n)) (sym whole)

-- ---- programs beside the pages of a map

from_image : List ℕ → (Image → Memory → Expected) → Image → Expected
from_image map next image = and_then (beside image map) (next image)

with_is : (bytes map : List ℕ) (next : Image → Memory → Expected) (image : Result Image ElfFault) → load bytes ≡ image → with_program bytes map next ≡ and_then (loaded image) (from_image map next)
unfolding with_program from_image
with_is bytes map next image e = ap (λ l. and_then (loaded l) (from_image map next)) e

with_wanted : (bytes map : List ℕ) (next : Image → Memory → Expected) (fault : ElfFault) → load bytes ≡ Err fault → with_program bytes map next ≡ Err (Elf fault)
with_wanted bytes map next fault e = with_is bytes map next (Err fault) e

-- a program that is not loaded
pub not_loaded : {T : Type 0} (bytes map : List ℕ) (fault : ElfFault) (result : Result T Refusal) → IsErrAnd result (λ refusal. refusal ≡ of_elf fault) → Refuses (load bytes) fault → IfErr result (λ refusal. (next : Image → Memory → Expected) → RefusesProgram (with_program bytes map next) refusal)
not_loaded bytes map fault (Ok value) is h = tt
not_loaded bytes map fault (Err refusal) is h =
    λ next. program_refused (load bytes) (with_program bytes map next) fault refusal (with_wanted bytes map next) is h

with_beside : (bytes map : List ℕ) (next : Image → Memory → Expected) (image : Image) (pages : Result Memory MapFault) → load bytes ≡ Ok image → pages_of_map map image.pages ≡ pages → with_program bytes map next ≡ and_then (mapped pages) (next image)
unfolding from_image
with_beside bytes map next image pages e h =
    with_is bytes map next (Ok image) e ∙ ap (λ p. and_then (mapped p) (next image)) h

map_wanted : (bytes map : List ℕ) (next : Image → Memory → Expected) (image : Image) → load bytes ≡ Ok image → (fault : MapFault) → pages_of_map map image.pages ≡ Err fault → with_program bytes map next ≡ Err (Map fault)
map_wanted bytes map next image e fault h = with_beside bytes map next image (Err fault) e h

-- a map that may not stand beside the program
pub not_mapped : {T : Type 0} (bytes map : List ℕ) (image : Image) (fault : MapFault) (result : Result T Refusal) → load bytes ≡ Ok image → IsErrAnd result (λ refusal. refusal ≡ of_map fault) → RefusesMap (pages_of_map map image.pages) fault → IfErr result (λ refusal. (next : Image → Memory → Expected) → RefusesProgram (with_program bytes map next) refusal)
not_mapped bytes map image fault (Ok value) e is h = tt
not_mapped bytes map image fault (Err refusal) e is h =
    λ next. map_refused (pages_of_map map image.pages) (with_program bytes map next) fault refusal (map_wanted bytes map next image e) is h

-- ---- runs

-- the run of a program that is loaded beside the pages of a map
pub run_is : (vl : ℕ) (stops : StopList) (task : Task) (bytes map : List ℕ) (image : Image) (pages : Memory) → load bytes ≡ Ok image → pages_of_map map image.pages ≡ Ok pages → run_program vl stops task bytes map ≡ ran vl stops task image pages
unfolding run_program
run_is vl stops task bytes map image pages e h = with_beside bytes map (ran vl stops task) image (Ok pages) e h

-- no machine could be made for a run
pub run_not_begun : {T : Type 0} (vl : ℕ) (stops : StopList) (task : Task) (bytes map : List ℕ) (refusal : Refusal) (result : Result T Refusal) → IsErrAnd result (λ r. r ≡ refusal) → ((next : Image → Memory → Expected) → RefusesProgram (with_program bytes map next) refusal) → IfErr result (λ r. RefusesProgram (run_program vl stops task bytes map) r)
unfolding run_program
run_not_begun vl stops task bytes map refusal (Ok value) is h = tt
run_not_begun vl stops task bytes map refusal (Err r) is h = subst (RefusesProgram (with_program bytes map (ran vl stops task))) (sym is) (h (ran vl stops task))

run_from_start : (vl : ℕ) (stops : StopList) (task : Task) (image : Image) (pages : Memory) (s : State) (taken : ℕ) (o : Outcome) → s ≡ free_start image task.args pages vl stops → taken ≡ 0 → run task.steps taken s ≡ o → run task.steps 0 (free_start image task.args pages vl stops) ≡ o
run_from_start vl stops task image pages s taken o state none is =
    ap (λ t. run task.steps 0 t) (sym state) ∙ ap (λ n. run task.steps n s) (sym none) ∙ is

-- what a machine that ran from the start comes to
pub run_reported : (vl : ℕ) (stops : StopList) (task : Task) (bytes map : List ℕ) (image : Image) (pages : Memory) (s : State) (taken : ℕ) (o : OutcomeAnswer) (memory : Memory) (pc steps : ℕ) (how : Done) (text : List ℕ) → load bytes ≡ Ok image → pages_of_map map image.pages ≡ Ok pages → s ≡ free_start image task.args pages vl stops → taken ≡ 0 → run task.steps taken s ≡ outcome_of o memory pc steps → how ≡ done_of o → text ≡ text_of_outcome o pc steps ++ dump_of task.dump memory → run_program vl stops task bytes map ≡ Ok (record { how = how; text = text })
unfolding run_program
run_reported vl stops task bytes map image pages s taken o memory pc steps how text e mapping state none is done shown =
    let whole : text ≡ outcome_text (outcome_of o memory pc steps) ++ dump_of task.dump (memory_left (outcome_of o memory pc steps)) = shown ∙ ap (λ t. t ++ dump_of task.dump memory) (sym (same_text o memory pc steps)) ∙ ap (λ m. outcome_text (outcome_of o memory pc steps) ++ dump_of task.dump m) (sym (same_memory o memory pc steps)) in
    let way : how ≡ done_by (outcome_of o memory pc steps) = done ∙ sym (same_done o memory pc steps) in
    with_beside bytes map (ran vl stops task) image (Ok pages) e mapping
    ∙ ap (success_of task.dump) (run_from_start vl stops task image pages s taken (outcome_of o memory pc steps) state none is)
    ∙ ap (λ h. Ok (record { how = h; text = outcome_text (outcome_of o memory pc steps) ++ dump_of task.dump (memory_left (outcome_of o memory pc steps)) })) (sym way)
    ∙ ap (λ t. Ok (record { how = how; text = t })) (sym whole)

-- ---- sessions

-- no machine could be made for a session
pub session_not_begun : {T : Type 0} (vl : ℕ) (task : Task) (bytes map : List ℕ) (refusal : Refusal) (result : Result T Refusal) → IsErrAnd result (λ r. r ≡ refusal) → ((next : Image → Memory → Expected) → RefusesProgram (with_program bytes map next) refusal) → IfErr result (λ r. (input : List ℕ) → RefusesProgram (debug_program vl task bytes map input) r)
unfolding debug_program
session_not_begun vl task bytes map refusal (Ok value) is h = tt
session_not_begun vl task bytes map refusal (Err r) is h =
    λ input. subst (RefusesProgram (with_program bytes map (debugged vl task input))) (sym is) (h (debugged vl task input))

-- with the empty stop list a run starts as without one
pub same_start : (vl : ℕ) (task : Task) (image : Image) (pages : Memory) → free_start image task.args pages vl never ≡ start image task.args pages vl
unfolding free_start start
same_start vl task image pages = refl

-- what a session from the start of a machine answers is what is wanted
pub session_begun : (vl : ℕ) (task : Task) (bytes map : List ℕ) (machine : View) → BeginsProgram vl never task bytes map machine → (input : List ℕ) → debug_program vl task bytes map input ≡ ended (session_text (started machine.state) input)
unfolding debug_program
session_begun vl task bytes map machine r input =
    with_beside bytes map (debugged vl task input) r.image (Ok r.pages) r.loads r.maps
    ∙ ap (λ s. ended (session_text (started s) input)) (sym (r.state ∙ same_start vl task r.image r.pages))
