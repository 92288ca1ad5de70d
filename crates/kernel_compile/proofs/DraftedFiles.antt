-- The words of a draft that follows the scalar loop, in a file.
use Rattle.std.proofs.Common.{◌≡◌, ℕ, ◌<◌, ◌≤◌, ◌^◌, List, length, Option, Some, None, Ok, Err, refl, sym, ap, ◌∙◌, subst, arith}
use Rattle.std.specs.Prelude.{All}
use Rattle.guest_types.specs.EarlyLoads.{StopList}
use Rattle.guest_types.specs.Length.{IsLength}
use Rattle.guest_types.specs.Memory.{Memory, IsMemory, DoNotMeet, merged}
use Rattle.machine_model.specs.Run.{Outcome, run, start_of, free_start, suppressed}
use Rattle.machine_model.specs.States.{IsState}
use Rattle.machine_model.specs.Written.{file_of, code_base, image_of_words}
use Rattle.machine_model.proofs.WrittenLoads.{load-file_of}
use Rattle.machine_model.proofs.StateSteps.{free_start_is}
use Rattle.kernel_tree.specs.Plain.{Program}
use Rattle.kernel_meaning.specs.ScalarRun.{begun, scalar_run}
use Rattle.label_fix.specs.DraftRun.{DraftEntry, Laid, draft_run}
use Rattle.label_fix.specs.Suppressions.{cuts}
use Rattle.label_fix.specs.Finished.{AreFit, StandAt, size, words_of}
use Rattle.label_fix.proofs.PlacedRuns.{runs_as_draft, cuts_are_suppressed, words_length}
use Rattle.loop_code.specs.Runs.{HasArguments}
use Rattle.promises.specs.Faithful.{Follows, IsFaithful, IsAny}
use Rattle.kernel_compile.specs.Drafted.{FollowsAnywhere}
use Rattle.kernel_compile.proofs.FileStart.{image_memory, file_starts, start_memory, words_stand}

-- ---- the state at the start

-- whatever the stop list
start_state : (words args : List ℕ) (pages : Memory) (vl : ℕ) (stops : StopList) → length words ≤ 65536 → length args ≤ 8 → All (λ arg. arg < 2 ^ 64) args → IsMemory pages → DoNotMeet (image_of_words words).pages pages → IsLength vl → IsState (free_start (image_of_words words) args pages vl stops)
start_state words args pages vl stops few args_few small mapped apart sized =
    free_start_is (image_of_words words) args pages vl stops (record {
      sized = sized;
      few = omega (arith, args_few);
      small = small;
      loaded = image_memory words few;
      mapped = mapped;
      apart = apart;
      place = let low : code_base < 2 ^ 64 = omega arith in low;
    })

start_length : (words args : List ℕ) (pages : Memory) (vl : ℕ) (stops : StopList) → (free_start (image_of_words words) args pages vl stops).vl ≡ vl
unfolding free_start start_of
start_length words args pages vl stops = refl

-- ---- the file

-- it follows the scalar loop within the same bound
pub drafted_file : (enough : Program → (args : List ℕ) (vl m q : ℕ) → ℕ) (k : Program) (labels : ℕ) (entries : List DraftEntry) (words : List ℕ) → FollowsAnywhere enough k entries → AreFit labels entries → size entries ≤ 65536 → words ≡ words_of entries → All (λ w. w < 2 ^ 32) words → IsFaithful enough IsAny k (file_of words)
drafted_file enough k labels entries words follows fits few is small =
    let many : length words ≤ 65536 = omega (arith, ap length is, words_length entries) in
    record {
      image = image_of_words words;
      loaded = load-file_of words many;
      runs = λ args pages vl stops steps start any le.
          let D : Laid = record { base = code_base; entries = entries } in
          let s0 = free_start (image_of_words words) args pages vl stops in
          let m = merged (image_of_words words).pages pages in
          let st = file_starts words args pages vl stops start.few in
          let stand : StandAt s0.memory D.base (words_of D.entries) = subst (λ ws. StandAt s0.memory code_base ws) is (subst (λ m. StandAt m code_base words) (sym st.memory) (words_stand words pages many small start.apart)) in
          let same : run steps 0 s0 ≡ draft_run D steps 0 entries s0 = runs_as_draft D labels s0 fits few stand st.pc steps 0 in
          let cut : cuts D steps entries s0 ≤ suppressed steps s0 = cuts_are_suppressed D labels s0 fits few stand st.pc steps in
          let good : IsMemory s0.memory = subst IsMemory (sym st.memory) (start_memory words pages many start.memory start.apart) in
          let given : HasArguments args s0.memory s0 = record { few = start.few; words = start.words; sized = st.sized; held = λ r lt. st.given r; memory = refl; good = good } in
          let length_is : s0.vl ≡ vl = start_length words args pages vl stops in
          let bound : enough k args s0.vl (begun (scalar_run k args s0.memory)) (suppressed steps s0) ≡ enough k args vl (begun (scalar_run k args m)) (suppressed steps s0) =
          ap (λ n. enough k args n (begun (scalar_run k args s0.memory)) (suppressed steps s0)) length_is ∙ ap (λ x. enough k args vl (begun (scalar_run k args x)) (suppressed steps s0)) st.memory in
          let f : Follows k args s0.vl (scalar_run k args s0.memory) (draft_run D steps 0 entries s0) =
          follows code_base steps (suppressed steps s0) args s0 given (start_state words args pages vl stops many start.few start.words start.memory start.apart start.length) cut (subst (λ b. b ≤ steps) (sym bound) le) in
          let at_length : Follows k args vl (scalar_run k args s0.memory) (draft_run D steps 0 entries s0) = subst (λ n. Follows k args n (scalar_run k args s0.memory) (draft_run D steps 0 entries s0)) length_is f in
          let at_memory : Follows k args vl (scalar_run k args m) (draft_run D steps 0 entries s0) = subst (λ x. Follows k args vl (scalar_run k args x) (draft_run D steps 0 entries s0)) st.memory at_length in
          (run steps 0 s0, ap (λ l. elim l as (λ x. Option Outcome) [ Ok image ↦ Some (run steps 0 (free_start image args pages vl stops)) | Err fault ↦ None ]) (load-file_of words many), subst (λ o. Follows k args vl (scalar_run k args m) o) (sym same) at_memory);
    }
