-- A function of the words of a kernel does what the kernel says.
use Rattle.std.proofs.Common.{◌≡◌, ◌≢◌, ℕ, zero, suc, ◌+◌, ◌-◌, ◌*◌, ◌%◌, ◌^◌, ◌<◌, ◌≤◌, Bool, true, List, [], ◌∷◌, ◌++◌, length, take, Some, None, refl, sym, ap, ◌∙◌, subst, arith, ⊎_elim, get_or, length-append}
use Rattle.std.specs.Prelude.{All, map, slice_index}
use Rattle.std.proofs.lemmas.Bool.{cases_lt}
use Rattle.std.proofs.lemmas.List.{get_or-take, length-map, length-take-le}
use Rattle.std.proofs.lemmas.List.Elements.{All-take}
use Rattle.guest_types.specs.Memory.{Memory, IsMemory, byte_at, can_read, can_write, put_number}
use Rattle.guest_types.proofs.AfterStores.{IsMemory-after}
use Rattle.guest_types.proofs.Stores.{byte_at-put_number_other, can_read-put_number}
use Rattle.machine_model.specs.Machine.{State, x_at}
use Rattle.machine_model.specs.Run.{Outcome, End, Stop, IsAccess, is_over, memory_left, run, suppressed}
use Rattle.machine_model.specs.States.{IsState}
use Rattle.machine_model.proofs.Runs.{settled}
use Rattle.machine_model.proofs.Suppressed.{suppressed-more}
use Rattle.kernel_tree.specs.Plain.{Program}
use Rattle.kernel_meaning.specs.ScalarRun as scalar
use Rattle.kernel_meaning.specs.ScalarRun.{begun, scalar_run}
use Rattle.dependence.specs.Bound.{at_once}
use Rattle.close_bound.specs.CloseBound.{close_bound}
use Rattle.machine_model.specs.InstructionTable.{Listed}
use Rattle.label_fix.specs.DraftRun.{DraftEntry, Put, Branch, Place, Laid, draft_run}
use Rattle.label_fix.specs.Finished.{StandAt, words_of}
use Rattle.label_fix.specs.Suppressions.{cuts}
use Rattle.label_fix.proofs.PlacedRuns.{words_length}
use Rattle.loop_code.specs.Runs.{HasArguments}
use Rattle.promises.specs.Faithful as promises
use Rattle.promises.specs.Faithful.{IsNearFault, IsNearAccess, Follows, end_steps}
use Rattle.promises.specs.Reserved.{leaves_reserved}
use Rattle.reserved_registers.specs.Alone.{AreAlone}
use Rattle.reserved_registers.proofs.Entries.{after_put}
use Rattle.call_code.specs.Called as called
use Rattle.call_code.specs.Called.{CallsAsDraft, Calls, LeavesAlone, FrameStays, before, around, function_words}
use Rattle.promises.specs.Saved.{Saved, doublewords, frame_size, saved_by, call_steps}
use Rattle.call_code.specs.Frame.{leave, low_at, kept_words, with_words}
use Rattle.call_code.proofs.AroundWords.{AreSaved, are_saved, frame_holds}
use Rattle.call_code.proofs.FrameNumbers.{words_small, written_is_read}
use Rattle.call_code.proofs.FunctionWrites.{keeps_same}
use Rattle.call_code.proofs.SavedWords.{below_apart, above_apart}
use Rattle.kernel_compile.proofs.MapStays.{draft_map, draft_stores}
use Rattle.kernel_compile.specs.Drafted.{AreDrafted, FollowsAnywhere, FollowsClosely}
use Rattle.kernel_call.proofs.Lengths.{around_is}
use Rattle.kernel_call.proofs.Frames.{number_of, words_number, whole_memory, whole_before, same_put}
use Rattle.meaning_frame.specs.Accesses.{run_with}
use Rattle.promises.specs.Function.{arguments, InFrame, IsCall, with_frame, IsUntouched, Returns, Stops, Answers, IsFunction, CloseFunction, FunctionEnds}

-- ---- entries that leave the reserved registers alone

alone_at : (exits : ℕ) (pre rest : List DraftEntry) (i : Listed) → AreAlone exits (pre ++ Put i ∷ rest) → leaves_reserved i ≡ true
alone_at exits [] rest i h = h.0
alone_at exits (Put j ∷ pre) rest i h = let behind = after_put exits j (pre ++ Put i ∷ rest) h in alone_at behind.0 pre rest i behind.1
alone_at exits (Branch k l ∷ pre) rest i h = alone_at exits pre rest i h
alone_at exits (Place l ∷ pre) rest i h = alone_at exits pre rest i h

leaves_alone : (entries : List DraftEntry) → AreAlone 1 entries → LeavesAlone entries
leaves_alone entries h i pre rest e = alone_at 1 pre rest i (subst (AreAlone 1) e h)

-- ---- a call

same_begun : (f : Memory → Memory) (a : scalar.Run) → begun (run_with f a) ≡ begun a
same_begun f (scalar.End m r n) = refl
same_begun f (scalar.Fault m n) = refl

-- bytes outside the frame are those of the memory that it was written over
byte_outside : (v : Saved) (s : State) (foot n : ℕ) (m : Memory) (x : ℕ) → AreSaved v → foot + frame_size v ≡ s.sp → s.sp < 2 ^ 64 → x < 2 ^ 64 → (InFrame v s x → ⊥) → byte_at (put_number m foot (8 * doublewords v) n) x ≡ byte_at m x
byte_outside v s foot n m x saved f sp low off =
    let fits = frame_holds v saved in
    let bytes = 8 * doublewords v in
    ⊎_elim
    (λ (below : x < foot). byte_at-put_number_other m foot bytes n x (omega (arith, f, sp)) low (below_apart foot bytes x (omega (arith, f, sp, fits)) below))
    (λ (above : foot ≤ x).
    ⊎_elim
    (λ (inside : x < foot + bytes). absurd (off (omega (arith, f, above), omega (arith, f, inside))))
    (λ (over : foot + bytes ≤ x). byte_at-put_number_other m foot bytes n x (omega (arith, f, sp)) low (above_apart foot bytes x over low))
    (cases_lt x (foot + bytes)))
    (cases_lt x foot)

-- what a call of the words around a draft comes to
module _ (v : Saved) (saved : AreSaved v) (k : Program) (s t : State) (entries : List DraftEntry) (n steps : ℕ) (enters : called.Enters v s t) (total : n + around v ≡ steps) where
  abbrev d : Laid
  d = record { base = t.pc; entries = entries }

  comes_back : (m : Memory) (u r : ℕ) → called.Returns s (n + around v) (with_frame v s u m) r → Returns v s steps m r
  comes_back m u r h =
      let w = h.within in
      record {
        count = h.count;
        within = omega (arith, w, total);
        end = h.end;
        after = h.after;
        back = h.back;
        left = u;
        memory = h.memory;
        result = h.result;
        sp = h.sp;
        x = h.x;
        z = h.z;
      }

  call_stops : (m : Memory) (u i : ℕ) → s.vl ≡ t.vl → promises.Stops k (arguments s) t.vl (with_frame v s u m) i (draft_run d n 0 entries t) → called.Answers v s t n (draft_run d n 0 entries t) → frame_size v ≤ s.sp → s.sp < 2 ^ 64 → Stops v k s steps m i
  call_stops m u i vl h answers room low_sp =
      let whole : run (before v + n) 0 s ≡ Stop h.kind h.pc h.at h.left (before v + h.steps) = (subst (λ o. called.Answers v s t n o) h.is answers) h.access in
      let over : is_over (run (before v + n) 0 s) ≡ true = ap is_over whole in
      record {
        kind = h.kind;
        access = h.access;
        pc = h.pc;
        at = h.at;
        left = h.left;
        steps = before v + h.steps;
        is = settled (before v + n) steps 0 s (omega (arith, total)) over ∙ whole;
        kept = λ x low off far.
            h.kept x (λ near. far (subst (λ l. IsNearFault k (arguments s) (at_once k (arguments s) l) i x) (sym vl) near))
            ∙ byte_outside v s (s.sp - frame_size v) u m x saved (omega (arith, room)) low_sp low off;
        near = λ chunks. subst (λ l. IsNearAccess k (arguments s) (at_once k (arguments s) l) i h.kind h.at) (sym vl) (h.near chunks);
      }

-- a call of a function of the words of a draft that follows the scalar loop
module _ (enough : Program → (args : List ℕ) (vl m q : ℕ) → ℕ) (k : Program) (words : List ℕ) (Holds : List DraftEntry → Type 0) (calls : CallsAsDraft) (d : AreDrafted Holds words) (follows : FollowsAnywhere enough k d.entries) (s : State) (steps : ℕ) (call : IsCall (saved_by words) (function_words words) s) (untouched : IsUntouched (saved_by words) k s)
    (le : enough k (arguments s) s.vl (begun (scalar_run k (arguments s) s.memory)) (suppressed steps s) + call_steps (saved_by words) ≤ steps) where
  abbrev v : Saved
  v = saved_by words

  saved : AreSaved v
  saved = are_saved words

  c : Calls v d.entries s
  c = subst (λ ws. Calls (saved_by ws) d.entries s) (sym d.is) (calls d.entries d.labels s d.fit d.few (leaves_alone d.entries d.alone) (subst (λ ws. IsCall (saved_by ws) (function_words ws) s) d.is call))

  abbrev t : State
  t = c.inner

  abbrev w : Memory
  w = t.memory

  abbrev n : ℕ
  n = steps - around v

  total : n + around v ≡ steps
  total = let e = around_is v in omega (arith, le, e)

  -- the registers in the frame, as one number
  abbrev u : ℕ
  u = number_of (kept_words v s)

  -- the doublewords of the frame
  frame_count : length (kept_words v s) ≡ doublewords v
  frame_count =
      let a = length-append (map (x_at s) v.x) (map (low_at s) v.z) in
      let b = length-map v.x (x_at s) in
      let e = length-map v.z (low_at s) in
      omega (arith, a, b, e)

  foot : t.sp ≡ s.sp - frame_size v
  foot = let e = c.enters.sp in omega (arith, e)

  entered : w ≡ with_frame v s u s.memory
  entered =
      let room = call.room in
      let low = call.state.sp_small in
      let fits = frame_holds v saved in
      let n = frame_count in
      c.enters.memory
      ∙ ap (λ f. with_words s.memory f (kept_words v s)) foot
      ∙ words_number s.memory (s.sp - frame_size v) (kept_words v s) (words_small v s saved call.state) (omega (arith, room, low, n, fits))
      ∙ ap (λ k. put_number s.memory (s.sp - frame_size v) (8 * k) u) n

  run_over_frame : scalar_run k (arguments s) w ≡ run_with (with_frame v s u) (scalar_run k (arguments s) s.memory)
  run_over_frame = ap (scalar_run k (arguments s)) entered ∙ untouched u

  eight : length (take 8 s.x) ≡ 8
  eight = let sized = call.state.x_count in length-take-le 8 s.x (omega (arith, sized))

  entered_with : HasArguments (arguments s) w t
  entered_with = record {
    few = omega (arith, eight);
    words = All-take (λ arg. arg < 2 ^ 64) 8 s.x call.state.x_small;
    sized = c.enters.state.x_count;
    held = λ r lt. c.enters.x r (λ e. let same = e in absurd (omega (arith, lt, same))) ∙ sym (get_or-take 8 s.x r 0 lt);
    memory = refl;
    good = c.enters.state.mapped;
  }

  few_cuts : cuts (record { base = t.pc; entries = d.entries }) n d.entries t ≤ suppressed steps s
  few_cuts =
      let told = c.tells n in
      let more = suppressed-more (before v + n) (length (leave v)) s in
      let e : before v + n + length (leave v) ≡ steps = omega (arith, total) in
      let same = ap (λ j. suppressed j s) e in
      omega (arith, told, more, same)

  enough_steps : enough k (arguments s) t.vl (begun (scalar_run k (arguments s) w)) (suppressed steps s) ≤ n
  enough_steps =
      let m = ap begun run_over_frame ∙ same_begun (with_frame v s u) (scalar_run k (arguments s) s.memory) in
      let a = ap (λ l. enough k (arguments s) l (begun (scalar_run k (arguments s) w)) (suppressed steps s)) c.enters.vl in
      let b = ap (λ j. enough k (arguments s) s.vl j (suppressed steps s)) m in
      let e = around_is v in
      omega (arith, le, a, b, total, e)

  f : Follows k (arguments s) t.vl (scalar_run k (arguments s) w) (draft_run (record { base = t.pc; entries = d.entries }) n 0 d.entries t)
  f = follows t.pc n (suppressed steps s) (arguments s) t entered_with c.enters.state few_cuts enough_steps

  -- the frame's bytes are those that were written
  frame_stays : (m : Memory) (r i st : ℕ) → draft_run (record { base = t.pc; entries = d.entries }) n 0 d.entries t ≡ End (with_frame v s u m) r st → FrameStays v w t.sp (with_frame v s u m)
  frame_stays m r i st o x from until =
      let e = c.enters.sp in
      let low = call.state.sp_small in
      let fits = frame_holds v saved in
      let bytes = 8 * doublewords v in
      let D : Laid = record { base = t.pc; entries = d.entries } in
      let b : Memory = with_frame v s u m in
      let free : can_read s.memory x ≡ true = written_is_read s.memory x (call.free x (omega (arith, e, from), omega (arith, e, until))) in
      let readable : can_read w x ≡ true = ap (λ k. can_read k x) entered ∙ can_read-put_number s.memory (s.sp - frame_size v) bytes u x ∙ free in
      let left : can_read b x ≡ can_read w x = ap (λ k. can_read (memory_left k) x) (sym o) ∙ draft_map D n 0 d.entries t x in
      let found : can_read m x ≡ true = sym (can_read-put_number m (s.sp - frame_size v) bytes u x) ∙ left ∙ readable in
      let is_b : IsMemory b = subst (λ k. IsMemory (memory_left k)) o (IsMemory-after (draft_stores D n 0 d.entries t) c.enters.state.mapped) in
      same_put bytes m s.memory (s.sp - frame_size v) u x (whole_before bytes m (s.sp - frame_size v) u (whole_memory b is_b)) (whole_memory s.memory call.state.mapped) found free
      (omega (arith, e, low, fits)) (omega (arith, e, from)) (omega (arith, e, until))
      ∙ sym (ap (λ k. byte_at k x) entered)

  finish : (a : scalar.Run) → Follows k (arguments s) t.vl (run_with (with_frame v s u) a) (draft_run (record { base = t.pc; entries = d.entries }) n 0 d.entries t) → Answers v k s steps a
  finish (scalar.End m r i) follow =
      comes_back v saved k s t d.entries n steps c.enters total m u r ((subst (λ o. called.Answers v s t n o) follow.1 (c.answers n)) (frame_stays m r i follow.0 follow.1))
  finish (scalar.Fault m i) follow = call_stops v saved k s t d.entries n steps c.enters total m u i (sym c.enters.vl) follow (c.answers n) call.room call.state.sp_small

  pub comes_out : Answers v k s steps (scalar_run k (arguments s) s.memory)
  comes_out = finish (scalar_run k (arguments s) s.memory) (subst (λ r. Follows k (arguments s) t.vl r (draft_run (record { base = t.pc; entries = d.entries }) n 0 d.entries t)) run_over_frame f)

-- The words of a draft that follows the scalar loop make a function of the kernel.
function_runs : (enough : Program → (args : List ℕ) (vl m q : ℕ) → ℕ) (k : Program) (words : List ℕ) (Holds : List DraftEntry → Type 0) → CallsAsDraft → (d : AreDrafted Holds words) → FollowsAnywhere enough k d.entries → IsFunction enough k (saved_by words) (function_words words)
function_runs enough k words Holds calls d follows s steps call untouched le = comes_out enough k words Holds calls d follows s steps call untouched le

drafted_few : (Holds : List DraftEntry → Type 0) (words : List ℕ) → AreDrafted Holds words → length words ≤ 65536
drafted_few Holds words d = let e = ap length d.is in let n = words_length d.entries in let few = d.few in omega (arith, e, n, few)

-- and keep what its own words write
pub kernel_functions : (k : Program) (words : List ℕ) → CallsAsDraft → AreDrafted (FollowsClosely k) words → CloseFunction k (function_words words) × FunctionEnds k (function_words words)
kernel_functions k words calls d =
    let same = sym (keeps_same words (drafted_few (FollowsClosely k) words d)) in (
      subst (λ v. IsFunction close_bound k v (function_words words)) same (function_runs close_bound k words (FollowsClosely k) calls d d.holds.0),
      subst (λ v. IsFunction end_steps k v (function_words words)) same (function_runs end_steps k words (FollowsClosely k) calls d d.holds.1),
    )
