-- What `run` prints of a file that is faithful to a kernel.
use Rattle.std.proofs.Common.{◌≡◌, ℕ, ◌≤◌, ◌++◌, List, length, Option, Some, None, Result, Ok, Err, ap, ◌∙◌, subst, arith}
use Rattle.std.specs.Prelude.{IfSome, nat_lt}
use Rattle.std.proofs.lemmas.Bool.{cond-false, le-ltb}
use Rattle.guest_types.specs.EarlyLoads.{StopList}
use Rattle.guest_types.specs.Memory.{Memory, merged}
use Rattle.guest_types.proofs.Errors.{ok_unique}
use Rattle.io_edges.specs.Files.{content}
use Rattle.io_edges.specs.declared.files.TheConstants.{MAX_FILE}
use Rattle.machine_model.specs.Load.{Image, load}
use Rattle.machine_model.specs.OutcomeText.{outcome_text}
use Rattle.machine_model.proofs.WrittenLoads.{length-file_of}
use Rattle.machine_model.specs.Run.{Outcome, run, free_start, free_run, suppressed, memory_left}
use Rattle.kernel_tree.specs.Plain.{Program}
use Rattle.kernel_meaning.specs.ScalarRun as scalar
use Rattle.kernel_meaning.specs.ScalarRun.{begun, scalar_run}
use Rattle.kernel_front.specs.Verdict.{Sound}
use Rattle.kernel_front.proofs.OneVerdict.{one_verdict}
use Rattle.dependence.specs.Bound.{free_bound}
use Rattle.close_bound.specs.CloseBound.{close_bound}
use Rattle.promises.specs.Faithful.{IsStart, Follows, IsFaithful, IsEmpty, IsAny, FreeFaithful, FreeEnds, CloseFaithful, bound_steps, end_steps}
use Rattle.promises.proofs.Promises as promises
use Rattle.command_line.specs.Line.{Task}
use Rattle.refusals.specs.declared.refusal.Refusal.{Refusal}
use Rattle.refusals.specs.declared.refusal.Refusal.TheVariants.{TooLong}
use Rattle.command_answers.specs.Answer.{HeldFiles, Expected}
use Rattle.command_answers.specs.Reads.{and_then, file_of, bytes_of, map_of}
use Rattle.command_answers.specs.Works.{success_of, done_by, dump_of}
use Rattle.program_commands.specs.Commands.{stops_of, run_program, expected_of_run}
use Rattle.compile_command.specs.Compiles.{CompilesTo, IsCompiled}
use Rattle.run_laws.specs.CompiledRuns.{Answers, Steps, enough_for, IsRun, FaithfulWithin, CompiledWithin, FaithfulRuns, CompiledRuns}
use Rattle.command_answers.proofs.Loading.{few_pages}
use Rattle.program_commands.proofs.Programs.{run_is}
use Rattle.map_text.proofs.MapsBeside.{map_beside}
use Rattle.command_line.proofs.RunLines.{can_run}

same_outcome : (a b : Outcome) (r : Option Outcome) → r ≡ Some a → r ≡ Some b → a ≡ b
same_outcome a b r e h = cc

same_file : (a b : List ℕ) (r : Option (List ℕ)) → r ≡ Some a → r ≡ Some b → a ≡ b
same_file a b r e h = cc

pub same_kernel : (a b : Program) → Sound a ≡ Sound b → a ≡ b
same_kernel a b e = cc

-- the run that is wanted, where its file and map are read
pub work_is : (held : HeldFiles) (vl : ℕ) (suppress : Option ℕ) (task : Task) (file : List ℕ) (image : Image) (pages : Memory) (needed : ℕ) → file_of held task.file ≡ Ok file → IsRun held vl suppress task file image pages needed
    → expected_of_run held vl (stops_of suppress) task ≡ success_of task.dump (run task.steps 0 (free_start image task.args pages vl (stops_of suppress)))
work_is held vl suppress task file image pages needed read x =
    let next : List ℕ × List ℕ → Expected = λ files. run_program vl (stops_of suppress) task files.0 files.1 in
    let both : List ℕ → List ℕ → Result (List ℕ × List ℕ) Refusal = λ f map. Ok (f, map) in
    ap (λ r. and_then (and_then r (λ f. and_then (map_of held task.map) (both f))) next) read
    ∙ ap (λ r. and_then (and_then r (both file)) next) x.map_read
    ∙ run_is vl (stops_of suppress) task file x.map image pages x.loads x.maps

-- beside the pages of its map, the run may start
pub begins_at : (held : HeldFiles) (vl : ℕ) (suppress : Option ℕ) (task : Task) (file : List ℕ) (image : Image) (pages : Memory) (needed : ℕ) → IsRun held vl suppress task file image pages needed → IsStart image task.args pages vl
begins_at held vl suppress task file image pages needed x =
    let beside = map_beside x.map image.pages pages (few_pages file image x.loads) x.maps in
    let line = can_run x.words vl suppress task x.spelled in
    record { few = line.few; words = line.words; memory = beside.memory; apart = beside.apart; length = line.sized }

-- an outcome that follows the scalar loop
answers : (k : Program) (vl : ℕ) (task : Task) (r : scalar.Run) (outcome : Outcome) (work : Expected) → Follows k task.args vl r outcome → work ≡ success_of task.dump outcome → Answers k vl task r work
answers k vl task (scalar.End memory result m) outcome work follows is = (follows.0, is ∙ ap (success_of task.dump) follows.1)
answers k vl task (scalar.Fault memory m) outcome work stops is =
    (outcome, stops, is ∙ ap (λ how. Ok (record { how = how; text = outcome_text outcome ++ dump_of task.dump (memory_left outcome) })) (ap done_by stops.is))

-- the run of a file that is loaded
free_run_is : (file args : List ℕ) (image : Image) (pages : Memory) (vl steps : ℕ) (stops : StopList) → load file ≡ Ok image
    → free_run file args pages vl stops steps ≡ Some (run steps 0 (free_start image args pages vl stops))
free_run_is file args image pages vl steps stops e =
    ap (λ l. elim l as (λ x. Option Outcome) [ Ok i ↦ Some (run steps 0 (free_start i args pages vl stops)) | Err fault ↦ None ]) e

-- the run of a file that is faithful to a kernel, from its image
pub runs_at : (within : Steps) (IsAllowed : StopList → Type 0) (k : Program) (file args : List ℕ) (image : Image) (pages : Memory) (vl steps : ℕ) (stops : StopList) → IsFaithful within IsAllowed k file → load file ≡ Ok image → IsStart image args pages vl → IsAllowed stops
    → within k args vl (begun (scalar_run k args (merged image.pages pages))) (suppressed steps (free_start image args pages vl stops)) ≤ steps
    → Follows k args vl (scalar_run k args (merged image.pages pages)) (run steps 0 (free_start image args pages vl stops))
runs_at within IsAllowed k file args image pages vl steps stops f loads begins allowed enough =
    subst
    (λ (i : Image). IsStart i args pages vl → within k args vl (begun (scalar_run k args (merged i.pages pages))) (suppressed steps (free_start i args pages vl stops)) ≤ steps
    → Follows k args vl (scalar_run k args (merged i.pages pages)) (run steps 0 (free_start i args pages vl stops)))
    (ok_unique f.image image (load file) f.loaded loads) from begins enough
  where
    from : IsStart f.image args pages vl → within k args vl (begun (scalar_run k args (merged f.image.pages pages))) (suppressed steps (free_start f.image args pages vl stops)) ≤ steps
        → Follows k args vl (scalar_run k args (merged f.image.pages pages)) (run steps 0 (free_start f.image args pages vl stops))
    from begins enough =
        let r = f.runs args pages vl stops steps begins allowed enough in
        let came = run steps 0 (free_start f.image args pages vl stops) in
        subst (Follows k args vl (scalar_run k args (merged f.image.pages pages)))
        (same_outcome r.0 came (free_run file args pages vl stops steps) r.1 (free_run_is file args f.image pages vl steps stops f.loaded)) r.2

faithful_within : (within : Steps) (IsAllowed : StopList → Type 0) → FaithfulWithin within IsAllowed
unfolding enough_for
faithful_within within IsAllowed k held vl suppress task file image pages work f allowed read x wanted =
    let stops = stops_of suppress in
    let needed : ℕ = enough_for within k vl suppress task image pages (begun (scalar_run k task.args (merged image.pages pages))) in
    let begins = begins_at held vl suppress task file image pages needed x in
    let came = run task.steps 0 (free_start image task.args pages vl stops) in
    answers k vl task (scalar_run k task.args (merged image.pages pages)) came work
    (runs_at within IsAllowed k file task.args image pages vl task.steps stops f x.loads begins allowed x.enough)
    (wanted ∙ work_is held vl suppress task file image pages needed read x)

pub faithful_runs : FaithfulRuns
faithful_runs = record {
  plain = faithful_within bound_steps IsEmpty;
  free = faithful_within free_bound IsAny;
  close = faithful_within close_bound IsAny;
  ends = faithful_within end_steps IsAny;
}

-- the file that `compile` left of a text
pub left_of : (old new : HeldFiles) (from to text : List ℕ) → content old from ≡ Some text → IsCompiled old new from to → (file : List ℕ) × (content new to ≡ Some file) × CompilesTo text file
left_of old new from to text e compiled = subst (λ o. IfSome o (λ text. (file : List ℕ) × (content new to ≡ Some file) × CompilesTo text file)) e compiled

-- the file that stands under a name is that which was compiled
pub compiled_from : (old new : HeldFiles) (from to text file : List ℕ) → content old from ≡ Some text → content new to ≡ Some file → IsCompiled old new from to → CompilesTo text file
compiled_from old new from to text file e h compiled =
    let c = left_of old new from to text e compiled in
    subst (CompilesTo text) (same_file c.0 file (content new to) c.1 h) c.2

-- it is not too long to be read
pub read_whole : (text file : List ℕ) (held : HeldFiles) (name : List ℕ) → CompilesTo text file → content held name ≡ Some file → file_of held name ≡ Ok file
read_whole text file held name c stands =
    let size = ap length c.code.file_is ∙ length-file_of c.code.words in
    ap bytes_of stands ∙ cond-false (nat_lt MAX_FILE (length file)) (Err TooLong) (Ok file) (le-ltb MAX_FILE (length file) (omega (arith, size, c.code.few, c.small)))

-- a promise that each compiled file keeps is one on the kernel of the text
compiled_within : (within : Steps) (IsAllowed : StopList → Type 0) → ((k : Program) (file : List ℕ) → FreeFaithful k file → CloseFaithful k file → FreeEnds k file → IsFaithful within IsAllowed k file) → CompiledWithin within IsAllowed
compiled_within within IsAllowed promise old new held from to text k vl suppress task file image pages work e sound compiled h allowed stands x wanted =
    let c = compiled_from old new from to text file e h compiled in
    let same = same_kernel c.kernel k (one_verdict text (Sound c.kernel) (Sound k) c.sound sound) in
    faithful_within within IsAllowed k held vl suppress task file image pages work (subst (λ k. IsFaithful within IsAllowed k file) same (promise c.kernel file c.faithful c.close c.ends)) allowed (read_whole text file held task.file c stands) x wanted

pub compiled_runs : CompiledRuns
compiled_runs = record {
  plain = compiled_within bound_steps IsEmpty (λ k file faithful close ends. promises.free k file faithful);
  free = compiled_within free_bound IsAny (λ k file faithful close ends. faithful);
  close = compiled_within close_bound IsAny (λ k file faithful close ends. close);
  ends = compiled_within end_steps IsAny (λ k file faithful close ends. ends);
}
