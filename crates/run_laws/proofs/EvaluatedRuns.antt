-- Where `eval` of a kernel ends, `run` of a file that is faithful to it ends with the same result.
use Rattle.std.proofs.Common.{◌≡◌, ℕ, ◌+◌, ◌-◌, ◌*◌, ◌/◌, ◌≤◌, List, [], ◌++◌, length, Bool, true, false, Option, Some, None, Result, Ok, Err, refl, sym, ap, ◌∙◌, subst, arith}
use Rattle.std.specs.Prelude.{nat_le, nat_lt, option_map, if◌then◌else◌}
use Rattle.std.proofs.Math.Nat.{mul-le-mul_left}
use Rattle.std.specs.Int.{div_ceil}
use Rattle.guest_types.specs.EarlyLoads.{StopList}
use Rattle.guest_types.specs.Memory.{Page, Memory, DoNotMeet, page_at, byte_at, byte_of, merged}
use Rattle.guest_types.proofs.Merges.{page_at-merged_right}
use Rattle.io_edges.specs.Files.{content}
use Rattle.io_edges.specs.declared.files.TheConstants.{MAX_FILE}
use Rattle.machine_model.specs.Load.{Image, load}
use Rattle.machine_model.specs.Machine.{State}
use Rattle.machine_model.specs.Run.{End, run, free_start, suppressed, is_over, steps_taken}
use Rattle.machine_model.proofs.Runs.{settled, steps_taken_le as taken_within}
use Rattle.machine_model.proofs.Suppressed.{suppressed-more}
use Rattle.map_text.specs.Mapping.{map_of as pages_of}
use Rattle.map_text.proofs.MapsAlone.{map_alone}
use Rattle.kernel_tree.specs.Plain.{Program}
use Rattle.kernel_tree.specs.Items.{size_of}
use Rattle.kernel_meaning.specs.ScalarRun as meaning
use Rattle.kernel_meaning.specs.ScalarRun.{begun, scalar_run, first_leave}
use Rattle.kernel_meaning.specs.declared.outcome.ScalarOutcome.TheVariants as scalar
use Rattle.meaning_frame.proofs.MoreRuns.{run-merged}
use Rattle.scalar_text.specs.ScalarText.{scalar_text}
use Rattle.kernel_front.specs.Verdict.{Sound}
use Rattle.kernel_front.proofs.OneVerdict.{one_verdict}
use Rattle.dependence.specs.Bound.{free_bound, at_once, runs_in_chunks}
use Rattle.close_bound.specs.CloseBound.{close_bound, loop_steps, pass_steps, last_steps, has_break, spare, outside_steps}
use Rattle.promises.specs.Faithful.{IsStart, Follows, IsFaithful, IsEmpty, IsAny, FreeFaithful, FreeEnds, CloseFaithful, bound_steps, end_steps}
use Rattle.promises.proofs.Promises as promises
use Rattle.command_line.specs.Line.{Task}
use Rattle.refusals.specs.declared.refusal.Refusal.{Refusal}
use Rattle.refusals.specs.declared.refusal.Refusal.TheVariants.{TooLong}
use Rattle.refusals.specs.declared.refusal.Done.TheVariants as done
use Rattle.command_answers.specs.Answer.{HeldFiles, Expected}
use Rattle.command_answers.specs.Reads.{and_then, file_of, bytes_of, map_of, task_files, AfterRead}
use Rattle.command_answers.specs.Works.{mapped, success_of, dump_of}
use Rattle.program_commands.specs.Commands.{stops_of}
use Rattle.kernel_commands.specs.Kernels.{IsExpectedOf}
use Rattle.kernel_commands.specs.Commands.{outcome_by, left_by, scalar_success, eval_over, eval_kernel, EvalExpects}
use Rattle.run_laws.specs.CompiledRuns.{Steps, enough_for}
use Rattle.run_laws.specs.EvaluatedRuns.{HasEnded, IsEval, FaithfulAgrees, CompiledAgrees, FaithfulEvaluated, CompiledEvaluated}
use Rattle.run_laws.proofs.CompiledRuns.{work_is, begins_at, runs_at, same_kernel, compiled_from, read_whole}

-- ---- what `eval` came to

-- the file that was read, since something ended
read_is : (held : HeldFiles) (task : Task) (text : List ℕ) (work : Expected) (next : List ℕ × List ℕ → Expected → Type 0) → content held task.file ≡ Some text → HasEnded work → AfterRead (task_files held task) next work → file_of held task.file ≡ Ok text
read_is held task text work next stands ended wanted = go (nat_lt MAX_FILE (length text)) (ap bytes_of stands)
  where
    go : (long : Bool) → file_of held task.file ≡ (if long then Err TooLong else Ok text) → file_of held task.file ≡ Ok text
    go true e =
        let files : task_files held task ≡ Err TooLong = ap (λ r. and_then r (λ file. and_then (map_of held task.map) (λ map. Ok (file, map)))) e in
        let refused : work ≡ Err TooLong = subst (λ r. AfterRead r next work) files wanted in
        absurd (subst HasEnded refused ended)
    go false e = e

-- the work that is wanted of a sound kernel over the pages of a map
eval_is : (k : Program) (held : HeldFiles) (task : Task) (running : HeldFiles) (run : Task) (work : Expected) (map : List ℕ) (pages : Memory) → IsEval k held task running run work → map_of running run.map ≡ Ok map → pages_of map [] ≡ Ok pages → work ≡ eval_over task k pages
unfolding eval_kernel
eval_is k held task running run work map pages x read maps =
    let expects : List ℕ × List ℕ → Expected → Type 0 = λ files. EvalExpects task files.0 files.1 in
    let file = read_is held task x.text work expects x.stands x.ended x.wanted in
    let both : List ℕ → List ℕ → Result (List ℕ × List ℕ) Refusal = λ f map. Ok (f, map) in
    let files : task_files held task ≡ Ok (x.text, map) = ap (λ r. and_then r (λ f. and_then (map_of held task.map) (both f))) file ∙ ap (λ r. and_then r (both x.text)) (x.map ∙ read) in
    let b : EvalExpects task x.text map work = subst (λ r. AfterRead r expects work) files x.wanted in
    let is : work ≡ eval_kernel task map k = subst (λ v. IsExpectedOf (eval_kernel task map) v work) (one_verdict x.text b.verdict (Sound k) b.has x.sound) b.wanted in
    is ∙ ap (λ r. and_then (mapped r) (eval_over task k)) maps

-- a run of the kernel that ended, and the work
record Ran (k : Program) (task : Task) (pages : Memory) (work : Expected) : Type 0 where
  memory : Memory
  result : ℕ
  m : ℕ
  ends : scalar_run k task.args pages ≡ meaning.End memory result m
  is : work ≡ Ok (record { how = done.Ended; text = scalar_text (scalar.End result m) ++ dump_of task.dump memory })

ran_by : (k : Program) (task : Task) (pages first : Memory) (work : Expected) (r : meaning.Run) → scalar_run k task.args pages ≡ r → HasEnded work → work ≡ scalar_success task.dump (outcome_by task.steps r) (left_by task.steps r first) → Ran k task pages work
ran_by k task pages first work (meaning.End memory result m) ends ended is = go (nat_le m task.steps) is
  where
    go : (within : Bool) → work ≡ scalar_success task.dump (if within then scalar.End result m else scalar.Spent) (if within then memory else first) → Ran k task pages work
    go true is = record { memory = memory; result = result; m = m; ends = ends; is = is }
    go false is = let spent : done.Spent ≡ done.Ended = subst HasEnded is ended in absurd cc
ran_by k task pages first work (meaning.Fault memory m) ends ended is = go (nat_le m task.steps) is
  where
    go : (within : Bool) → work ≡ scalar_success task.dump (if within then scalar.Fault m else scalar.Spent) (if within then memory else first) → Ran k task pages work
    go true is = let stopped : done.Stopped ≡ done.Ended = subst HasEnded is ended in absurd cc
    go false is = let spent : done.Spent ≡ done.Ended = subst HasEnded is ended in absurd cc

-- ---- the run

-- more elements that are suppressed do not lower the bound
IsRising : Steps → Type 0
IsRising within = (k : Program) (args : List ℕ) (vl m q r : ℕ) → q ≤ r → within k args vl m q ≤ within k args vl m r

same_le : (a b : ℕ) → a ≡ b → a ≤ b
same_le a b e = omega (arith, e)

bound_rises : IsRising bound_steps
unfolding IsRising
bound_rises k args vl m q r le = same_le _ _ refl

end_rises : IsRising end_steps
unfolding IsRising
end_rises k args vl m q r le = same_le _ _ refl

more_rounds : (a b rounds q r : ℕ) → q ≤ r → a + b * (rounds + 2 + 4 * q) ≤ a + b * (rounds + 2 + 4 * r)
more_rounds a b rounds q r le =
    let more = mul-le-mul_left b (let h : rounds + 2 + 4 * q ≤ rounds + 2 + 4 * r = omega (arith, le) in h) in omega (arith, more)

free_rises : IsRising free_bound
unfolding IsRising
free_rises k args vl m q r le = more_rounds (1000 + 100 * size_of k) (32 + 8 * size_of k) (div_ceil m (at_once k args vl)) q r le

more_spare : (s q r : ℕ) → q ≤ r → s * (1 + q) ≤ s * (1 + r)
more_spare s q r le = mul-le-mul_left s (let h : 1 + q ≤ 1 + r = omega (arith, le) in h)

more_passes : (pass chunks s last q r : ℕ) → q ≤ r → pass * (chunks + s * (1 + q)) + last ≤ pass * (chunks + s * (1 + r)) + last
more_passes pass chunks s last q r le =
    let spared = more_spare s q r le in
    let more = mul-le-mul_left pass (let h : chunks + s * (1 + q) ≤ chunks + s * (1 + r) = omega (arith, spared) in h) in omega (arith, more)

more_loop : (chunks : Bool) (k : Program) (n m q r : ℕ) → q ≤ r → loop_steps chunks k n m q ≤ loop_steps chunks k n m r
more_loop true k n m q r le = more_passes (pass_steps k) (div_ceil m n) (spare (has_break k)) (last_steps (has_break k) k) q r le
more_loop false k n m q r le = same_le _ _ refl

outside_and : (a b c : ℕ) → b ≤ c → a + b ≤ a + c
outside_and a b c le = omega (arith, le)

close_rises : IsRising close_bound
unfolding IsRising
close_rises k args vl m q r le = outside_and (outside_steps k) _ _ (more_loop (runs_in_chunks k args) k _ m q r le)

-- a run that is over stays so at more steps, and took no more than it was given
settle : (needed steps : ℕ) (s : State) (memory : Memory) (result taken : ℕ) → needed ≤ steps → run needed 0 s ≡ End memory result taken → (run steps 0 s ≡ End memory result taken) × (taken ≤ needed)
settle needed steps s memory result taken le is =
    let most = subst (λ o. steps_taken o ≤ 0 + needed) is (taken_within needed 0 s) in
    (settled needed steps 0 s le (ap is_over is) ∙ is, omega (arith, most))

-- fewer steps suppress no more
fewer : (needed steps : ℕ) (s : State) → needed ≤ steps → suppressed needed s ≤ suppressed steps s
fewer needed steps s le =
    let all : needed + (steps - needed) ≡ steps = omega (arith, le) in
    subst (λ n. suppressed needed s ≤ suppressed n s) all (suppressed-more needed (steps - needed) s)

-- it ends as the kernel does over the pages of the image and of the map, within so many steps
record EndsWithin (image : Image) (args : List ℕ) (pages : Memory) (vl : ℕ) (stops : StopList) (steps needed : ℕ) (memory : Memory) (result : ℕ) : Type 0 where
  taken : ℕ
  is : run steps 0 (free_start image args pages vl stops) ≡ End memory result taken
  few : taken ≤ needed

evaluated_run_ends_within : (within : Steps) (IsAllowed : StopList → Type 0) → IsRising within → (k : Program) (file args : List ℕ) (vl : ℕ) (stops : StopList) (image : Image) (pages : Memory) (steps needed m : ℕ) (memory : Memory) (result : ℕ) → IsFaithful within IsAllowed k file → load file ≡ Ok image → IsStart image args pages vl → IsAllowed stops
    → needed ≡ within k args vl m (suppressed steps (free_start image args pages vl stops)) → needed ≤ steps → scalar_run k args (merged image.pages pages) ≡ meaning.End memory result m
    → EndsWithin image args pages vl stops steps needed memory result
unfolding IsRising
evaluated_run_ends_within within IsAllowed rises k file args vl stops image pages steps needed m memory result f loads begins allowed is le ends =
    let s = free_start image args pages vl stops in
    let less : within k args vl m (suppressed needed s) ≤ needed = subst (λ n. within k args vl m (suppressed needed s) ≤ n) (sym is) (rises k args vl m (suppressed needed s) (suppressed steps s) (fewer needed steps s le)) in
    let enough : within k args vl (begun (scalar_run k args (merged image.pages pages))) (suppressed needed s) ≤ needed = subst (λ n. within k args vl n (suppressed needed s) ≤ needed) (sym (ap begun ends)) less in
    let follows = runs_at within IsAllowed k file args image pages vl needed stops f loads begins allowed enough in
    ended (subst (λ r. Follows k args vl r (run needed 0 s)) ends follows)
  where
    ended : Follows k args vl (meaning.End memory result m) (run needed 0 (free_start image args pages vl stops)) → EndsWithin image args pages vl stops steps needed memory result
    ended e = let all = settle needed steps (free_start image args pages vl stops) memory result e.0 le e.1 in record { taken = e.0; is = all.0; few = all.1 }

-- what is enough, written out
enough_is : (within : Steps) (k : Program) (vl : ℕ) (suppress : Option ℕ) (task : Task) (image : Image) (pages : Memory) (m n : ℕ) → n ≡ m → enough_for within k vl suppress task image pages n ≡ within k task.args vl m (suppressed task.steps (free_start image task.args pages vl (stops_of suppress)))
unfolding enough_for
enough_is within k vl suppress task image pages m n e = ap (λ j. within k task.args vl j (suppressed task.steps (free_start image task.args pages vl (stops_of suppress)))) e

-- a byte of the map's pages stands in both
byte_in_both : (others memory : Memory) → DoNotMeet others memory → (a b : ℕ) → byte_at memory a ≡ Some b → byte_at (merged others memory) a ≡ Some b
byte_in_both others memory apart a b = go (page_at memory (a / 4096)) refl
  where
    go : (o : Option Page) → page_at memory (a / 4096) ≡ o → option_map (λ page. byte_of page a) o ≡ Some b → byte_at (merged others memory) a ≡ Some b
    go None e h = absurd cc
    go (Some p) e h = ap (option_map (λ page. byte_of page a)) (page_at-merged_right others memory (a / 4096) p apart e) ∙ h

-- ---- both

faithful_agrees : (within : Steps) (IsAllowed : StopList → Type 0) → IsRising within → FaithfulAgrees within IsAllowed
faithful_agrees within IsAllowed rises k evals held vl suppress eval task file image pages evaluated ran f allowed read e x wanted =
    let m = begun (scalar_run k task.args pages) in
    let work = eval_is k evals eval held task evaluated x.map pages e x.map_read (map_alone x.map image.pages pages x.maps) in
    let r = ran_by k eval pages (first_leave k eval.args eval.steps pages) evaluated (scalar_run k eval.args pages) refl e.ended work in
    let ends : scalar_run k task.args pages ≡ meaning.End r.memory r.result r.m = ap (λ args. scalar_run k args pages) (sym e.args) ∙ r.ends in
    let begins = begins_at held vl suppress task file image pages (enough_for within k vl suppress task image pages m) x in
    let more = run-merged image.pages k task.args pages r.memory r.result r.m begins.apart ends in
    let h = evaluated_run_ends_within within IsAllowed rises k file task.args vl (stops_of suppress) image pages task.steps (enough_for within k vl suppress task image pages m) r.m (merged image.pages r.memory) r.result f x.loads begins allowed (enough_is within k vl suppress task image pages r.m m (ap begun ends)) x.enough more.0 in
    record {
      memory = r.memory;
      result = r.result;
      m = r.m;
      steps = h.taken;
      is_evaluated = r.is;
      is_run = wanted ∙ work_is held vl suppress task file image pages (enough_for within k vl suppress task image pages m) read x ∙ ap (success_of task.dump) h.is;
      same = byte_in_both image.pages r.memory more.1;
      few = h.few;
    }

pub faithful_evaluated : FaithfulEvaluated
faithful_evaluated = record {
  plain = faithful_agrees bound_steps IsEmpty bound_rises;
  free = faithful_agrees free_bound IsAny free_rises;
  close = faithful_agrees close_bound IsAny close_rises;
  ends = faithful_agrees end_steps IsAny end_rises;
}

compiled_agrees : (within : Steps) (IsAllowed : StopList → Type 0) → IsRising within → ((k : Program) (file : List ℕ) → FreeFaithful k file → CloseFaithful k file → FreeEnds k file → IsFaithful within IsAllowed k file) → CompiledAgrees within IsAllowed
compiled_agrees within IsAllowed rises promise old new evals held from to text k vl suppress eval task file image pages evaluated ran stood sound compiled h allowed stands e x wanted =
    let c = compiled_from old new from to text file stood h compiled in
    let same = same_kernel c.kernel k (one_verdict text (Sound c.kernel) (Sound k) c.sound sound) in
    faithful_agrees within IsAllowed rises k evals held vl suppress eval task file image pages evaluated ran (subst (λ k. IsFaithful within IsAllowed k file) same (promise c.kernel file c.faithful c.close c.ends)) allowed (read_whole text file held task.file c stands) e x wanted

pub compiled_evaluated : CompiledEvaluated
compiled_evaluated = record {
  plain = compiled_agrees bound_steps IsEmpty bound_rises (λ k file faithful close ends. promises.free k file faithful);
  free = compiled_agrees free_bound IsAny free_rises (λ k file faithful close ends. faithful);
  close = compiled_agrees close_bound IsAny close_rises (λ k file faithful close ends. close);
  ends = compiled_agrees end_steps IsAny end_rises (λ k file faithful close ends. ends);
}
