-- The vector code of a kernel's loop does what the scalar loop does.
use Rattle.std.proofs.Common.{◌≡◌, ◌≢◌, ℕ, ◌+◌, ◌*◌, ◌<◌, ◌≤◌, inl, inr, Bool, true, false, List, [], ◌∷◌, Some, refl, sym, ap, ◌∙◌, subst, arith}
use Rattle.std.specs.Prelude.{ℤ, slice_index}
use Rattle.std.specs.Int.{div_ceil}
use Rattle.std.specs.List.{list_any}
use Rattle.std.proofs.Math.Nat.{mul-le-mul_left}
use Rattle.guest_types.specs.Memory.{Memory}
use Rattle.machine_model.specs.Machine.{State, x_at, jump}
use Rattle.machine_model.specs.Run.{End, Stop}
use Rattle.kernel_tree.specs.Plain.{Program}
use Rattle.kernel_tree.specs.Items.{loop_start}
use Rattle.kernel_tree.specs.Typing.{var_scope}
use Rattle.kernel_meaning.specs.Eval.{Names}
use Rattle.kernel_meaning.specs.ScalarRun as run
use Rattle.kernel_meaning.specs.ScalarRun.{Run, bound_of, IsWithin, for_loop_from, run_from}
use Rattle.kernel_meaning.proofs.RunsFrom.{for_loop_on, for_loop_fails}
use Rattle.label_fix.specs.DraftRun.{Always, DraftEntry, Branch, Laid, following, address_of, draft_run}
use Rattle.label_fix.specs.Suppressions.{cuts}
use Rattle.label_fix.specs.Stretches.{Resolves}
use Rattle.label_fix.proofs.StretchSteps.{Goes, Ends, chain, go_more, pass, taken_goes, end_after}
use Rattle.reg_assign.specs.declared.interval.RegClass.TheVariants.{X, Z}
use Rattle.reg_assign.specs.Registers.{Assignment}
use Rattle.loop_form.specs.LoopItems.{for_loop_items}
use Rattle.loop_form.specs.Needs.{throughout}
use Rattle.loop_form.specs.Registers.{FitsKernel}
use Rattle.close_bound.specs.CloseBound.{has_break, spare, pass_steps, iteration_steps, last_steps, turning_steps, laid_all, joined_all, ending_steps}
use Rattle.scalar_words.specs.KernelRegisters.{layout_of_kernel, kernel_homes, register_in}
use Rattle.scalar_words.specs.Iterations.{AtIteration, AreHeld, Comes, ends_so}
use Rattle.scalar_words.proofs.ChosenOf.{chosen_all}
use Rattle.scalar_words.proofs.KernelNames.{names_fit}
use Rattle.chunk_emit.specs.Head.{Ground, IsGround, AtHead, most_lanes, limit}
use Rattle.first_fault.specs.BreakRegion.{is_loop_break}
use Rattle.chunk_pass.specs.Chunks.{items_of}
use Rattle.reductions.specs.EdgeCode.{fold_code}
use Rattle.reductions.proofs.StartRuns.{start_runs}
use Rattle.reductions.proofs.FoldEnds.{folds_at}
use Rattle.vector_emit.specs.VectorCode.{passes_by, passes_code, vector_code}
use Rattle.vector_emit.specs.VectorRuns.{Follows, edge_steps, vector_base, vector_unit, vector_most, ReachesScalar, VectorRuns}
use Rattle.vector_emit.specs.VectorRuns as follows
use Rattle.vector_emit.proofs.Iterations.{EndsBy, bound_ends, more_ends, break_ends}
use Rattle.vector_emit.proofs.Paces.{Spends, ahead, few_ahead, in_all, none_spent, cuts_more, iterations_in_all}
use Rattle.vector_emit.proofs.PassLoop.{Passing, leaves, stops, Late, split}
use Rattle.vector_emit.proofs.KernelPassLoop.{HeadOf, loop_of, has_lanes}
use Rattle.vector_emit.proofs.Labels.{following_start}
use Rattle.vector_emit.proofs.PassSizes.{break_is}
use Rattle.vector_emit.proofs.Bounds.{bound_steady}
use Rattle.vector_emit.proofs.NamesHeld.{names_eight, held_still}
use Rattle.vector_emit.proofs.Grounds.{from_x, aside_same, ground_at, same_at, head_from, near_from}
use Rattle.vector_emit.proofs.ReturnedReads.{answer_is_checked}
use Rattle.vector_emit.proofs.Breaking.{breaking_runs}
use Rattle.vector_emit.proofs.Straight.{Enters, straight_runs}

-- ---- what scalar code does that ends the run

record Ended (d : Laid) (c : List DraftEntry) (s : State) (K F i : ℕ) (m : Memory) (r bg : ℕ) : Type 0 where
  n : ℕ
  is : bg ≡ i + n
  ends : Ends d c s m r (K * n + F)

comes_to_end : {d : Laid} {c : List DraftEntry} {s : State} {K F i : ℕ} {m : Memory} {r bg : ℕ} → Comes d c s K F i (run.End m r bg) → Ended d c s K F i m r bg
comes_to_end (ends_so n is h) = record { n = n; is = is; ends = h }

jump_at : {R : ℕ → ℕ} {k : Program} {i : ℕ} {cur : Names} {m : Memory} {s : State} (pc : ℕ) → AtIteration R k i cur m s → AtIteration R k i cur m (jump s pc)
jump_at {R = R} {k = k} {cur = cur} {s = s} pc at = record { sized = at.sized; index = at.index; ranged = at.ranged; held = held_still_jump (kernel_homes R k) cur at.held; memory = at.memory; good = at.good }
  where
    held_still_jump : (hs : _) (ns : Names) → AreHeld hs ns s → AreHeld hs ns (jump s pc)
    held_still_jump [] [] h = tt
    held_still_jump [] (n ∷ ns) h = absurd h
    held_still_jump (x ∷ hs) [] h = absurd h
    held_still_jump (x ∷ hs) (n ∷ ns) h = (h.0, h.1, held_still_jump hs ns h.2)

-- ---- paces

-- x words before the passes, the passes, and what follows
module _ (b : Bool) (L U edges x following : ℕ) (some : 0 < L) (around : x + following ≤ edges) {d : Laid} {c e : List DraftEntry} {s t : State} (before : Goes d c s e t x) where
  abbrev InPace : ℕ → ℕ → Type 0
  InPace bg n = n < 1 + edges + U * (div_ceil bg L + spare b * (1 + 0)) + U * spare b * cuts d n c s

  early : (bg n : ℕ) → n ≤ before.count → InPace bg n
  early bg n le =
      let f = before.within in
      let h = in_all b L U edges 0 bg n 0 0 0 (cuts d n c s) some (omega arith) (omega (arith, le, f, around)) (omega arith) (none_spent b L U 0 0 some) in
      let e : n + 0 + 0 ≡ n = omega arith in
      subst (λ k. k < 1 + edges + U * (div_ceil bg L + spare b * (1 + 0)) + U * spare b * cuts d n c s) e h

  -- k words after n words of the passes
  late : (bg j n k : ℕ) → j ≤ bg → k ≤ following → Spends b L U 0 j n (cuts d n e t) → InPace bg (before.count + (n + k))
  late bg j n k le few spent =
      let f = before.within in
      let told = before.tells (n + k) in
      let more = cuts_more d n k e t in
      let h = in_all b L U edges j bg before.count n k (cuts d n e t) (cuts d (before.count + (n + k)) c s) some le (omega (arith, f, few, around)) (omega (arith, told, more)) spent in
      let e : before.count + n + k ≡ before.count + (n + k) = omega arith in
      subst (λ y. y < 1 + edges + U * (div_ceil bg L + spare b * (1 + 0)) + U * spare b * cuts d (before.count + (n + k)) c s) e h

  whole : (bg j count : ℕ) → j ≤ bg → ((n : ℕ) → n ≤ count → Spends b L U 0 j n (cuts d n e t)) → (n : ℕ) → n ≤ before.count + count → InPace bg n
  whole bg j count le pace = split (InPace bg) before.count count (early bg) (λ n below. (let e : n + 0 ≡ n = omega arith in subst (λ n. InPace bg (before.count + n)) e (late bg j n 0 le (omega arith) (pace n below))))

  whole_following : (bg j count last : ℕ) → j ≤ bg → last ≤ following → ((n : ℕ) → n ≤ count → Spends b L U 0 j n (cuts d n e t)) → (n : ℕ) → n ≤ before.count + (count + last) → InPace bg n
  whole_following bg j count last le few pace =
      split (InPace bg) before.count (count + last) (early bg)
      (split (λ n. InPace bg (before.count + n)) count last (λ n below. (let e : n + 0 ≡ n = omega arith in subst (λ n. InPace bg (before.count + n)) e (late bg j n 0 le (omega arith) (pace n below))))
      (λ k below. late bg j count k le (omega (arith, few, below)) (pace count (omega arith))))

-- ---- the passes

passes_run : (g : Ground) (ground : IsGround g) (d : Laid) (n : ℕ) (rest : List DraftEntry) {sum : List ℕ → ℕ → ℤ} {cur : Names} {m : Memory} {s : State} (b : Bool) → list_any is_loop_break (items_of g) ≡ b
    → Resolves d (passes_by b g.kernel g.vectors g.predicates (items_of g) n rest) → AtHead g 0 cur m sum s → Enters g b d rest (passes_by b g.kernel g.vectors g.predicates (items_of g) n rest) s cur m
passes_run g ground d n rest {s = s} true breaks_loop res h =
    let same = aside_same s h.is in
    let there = ground_at ground h same in
    record { x = s.x; ground = there; same = same_at h same; head = _; state = s; goes = go_more 2 (omega arith) pass; passing = breaking_runs (from_x g s.x) there breaks_loop d n rest res (head_from h same) }
passes_run g ground d n rest false breaks_loop res h = straight_runs g ground breaks_loop d n rest res h

passes_are : (g : Ground) → IsGround g → (n : ℕ) (rest : List DraftEntry) → passes_code g.kernel g.vectors g.predicates n rest ≡ passes_by (has_break g.kernel) g.kernel g.vectors g.predicates (items_of g) n rest
passes_are g ground n rest = ap (λ l. passes_by (has_break g.kernel) g.kernel g.vectors g.predicates (for_loop_items g.kernel l) n rest) ground.loops

enters : (g : Ground) (ground : IsGround g) (d : Laid) (n : ℕ) (rest : List DraftEntry) {sum : List ℕ → ℕ → ℤ} {cur : Names} {m : Memory} {s : State} → Resolves d (passes_code g.kernel g.vectors g.predicates n rest) → AtHead g 0 cur m sum s
    → Enters g (has_break g.kernel) d rest (passes_code g.kernel g.vectors g.predicates n rest) s cur m
enters g ground d n rest {cur = cur} {m = m} {s = s} res h =
    subst (λ es. Enters g (has_break g.kernel) d rest es s cur m) (sym (passes_are g ground n rest)) (passes_run g ground d n rest (has_break g.kernel) (sym (break_is g ground)) (subst (Resolves d) (passes_are g ground n rest) res) h)

-- ---- the whole

module _ (g : Ground) (c : Assignment) (d : Laid) (scalar n : ℕ) (rest : List DraftEntry) (m : Memory) (s : State) (ground : IsGround g) (fit : FitsKernel g.kernel X c) (at : AtIteration (register_in c) g.kernel 0 g.names m s)
    (x : (r : ℕ) → r ≤ 25 → x_at s r ≡ slice_index g.x r) (reaches : ReachesScalar g c d scalar)
    (xs : List ℕ) (there : IsGround (from_x g xs)) (same : (r : ℕ) → r ≤ 25 → r ≢ 9 → r ≢ 8 → slice_index xs r ≡ slice_index g.x r) where
  abbrev R : ℕ → ℕ
  R = register_in c

  abbrev leave : List DraftEntry
  leave = fold_code R g.kernel g.vectors (Branch Always scalar ∷ rest)

  abbrev code : List DraftEntry
  code = vector_code R g.kernel g.vectors g.predicates scalar n rest

  abbrev Done : Run → Type 0
  Done r = Follows g d code s (vector_unit g) (vector_base g) (vector_most g) r

  abbrev breaks : Bool
  breaks = has_break g.kernel

  -- the words before the passes, and those after them
  abbrev start_most : ℕ
  start_most = 3 + turning_steps breaks + laid_all (throughout g.kernel Z)

  abbrev end_most : ℕ
  end_most = joined_all (throughout g.kernel Z) + 1 + (last_steps breaks g.kernel + ending_steps g.kernel)

  around : start_most + end_most ≤ edge_steps g.kernel
  around = omega arith

  loop_is : (i : ℕ) (m : Memory) (names : Names) → run_from g.kernel i m names ≡ for_loop_from (var_scope g.kernel) (Some g.for_loop) g.kernel.answer i m names
  loop_is i m names = ap (λ l. for_loop_from (var_scope g.kernel) l g.kernel.answer i m names) ground.loops

  bound_is : (i : ℕ) (names : Names) (now : Memory) (t : State) → HeadOf (from_x g xs) i names now t → bound_of g.for_loop names ≡ limit g
  bound_is i names now t h = let k = names_fit R g.kernel ground.sound ground.few (chosen_all g.kernel c fit) in bound_steady g.kernel g.for_loop _ g.names names ground.sound (k.bound g.for_loop ground.loops) h.head.between.steady

  -- the names as the loop began are in their registers still
  names_held : (i : ℕ) (names : Names) (now : Memory) (t : State) → HeadOf (from_x g xs) i names now t → AreHeld (kernel_homes R g.kernel) g.names t
  names_held i names now t h =
      let k = names_fit R g.kernel ground.sound ground.few (chosen_all g.kernel c fit) in
      held_still (layout_of_kernel R g.kernel) (loop_start g.kernel) (kernel_homes R g.kernel) g.names s t k.steady (k.safe (loop_start g.kernel)) (k.nine (loop_start g.kernel)) (names_eight R g.kernel (loop_start g.kernel) ground.few) (λ r le nine eight. h.head.x r le nine ∙ same r le nine eight ∙ sym (x r le)) at.held

  -- the scalar code does no iteration more, or one that breaks
  late_ends : (j : ℕ) (now : Memory) (names : Names) → bound_of g.for_loop names ≡ limit g → j ≤ limit g → Late (loop_of (from_x g xs) breaks d leave) j now names
      → (e : EndsBy (for_loop_from (var_scope g.kernel) (Some g.for_loop) g.kernel.answer j now names) (j + 1)) × ((n : ℕ) → e.count ≡ j + n → iteration_steps g.kernel * n ≤ last_steps breaks g.kernel)
  late_ends j now names bound le (inl last) =
      let e = bound_ends (var_scope g.kernel) g.for_loop g.kernel.answer (limit g) j now names (answer_is_checked g.kernel g.for_loop ground.sound ground.loops) bound last in
      (more_ends (j + 1) (omega arith) e, (λ n is. (let f = e.few in let none : n ≡ 0 = omega (arith, is, f) in let z = ap (λ n. iteration_steps g.kernel * n) none in omega (arith, z))))
  late_ends j now names bound le (inr h) =
      let e = break_ends (var_scope g.kernel) g.for_loop g.kernel.answer (limit g) j now names (answer_is_checked g.kernel g.for_loop ground.sound ground.loops) bound le h.1 in
      (e, (λ n is. (let f = e.few in let one : iteration_steps g.kernel * n ≤ iteration_steps g.kernel * 1 = mul-le-mul_left (iteration_steps g.kernel) (omega (arith, is, f)) in let last = ap (λ b. last_steps b g.kernel) h.0 in omega (arith, one, last))))

  module _ {head : List DraftEntry} {start : State} (before : Goes d code s head start start_most) where
    -- after the passes: the fold, and scalar code from iteration j on
    record Following (j : ℕ) (now : Memory) (names : Names) (end : State) : Type 0 where
      memory : Memory
      result : ℕ
      begun : ℕ
      is : run_from g.kernel j now names ≡ run.End memory result begun
      late : j ≤ begun
      ends : Ends d leave end memory result end_most

    following_passes : (j : ℕ) (now : Memory) (names : Names) (end : State) → HeadOf (from_x g xs) j names now end → j ≤ limit g → Late (loop_of (from_x g xs) breaks d leave) j now names → Following j now names end
    following_passes j now names end h le late =
        let bound = bound_is j names now end h in
        let f = folds_at (from_x g xs) c j names now h.sum d (Branch Always scalar ∷ rest) end there fit at.ranged (names_held j names now end h) h.head in
        let there : AtIteration R g.kernel j names now (jump f.end (address_of d scalar)) = jump_at (address_of d scalar) f.at in
        let within : IsWithin g.kernel.for_loop j names = subst (λ l. IsWithin l j names) (sym ground.loops) (let b : j ≤ bound_of g.for_loop names = omega (arith, le, bound) in b) in
        let ends = late_ends j now names bound le late in
        let is : run_from g.kernel j now names ≡ run.End ends.0.memory ends.0.result ends.0.count = loop_is j now names ∙ ends.0.is in
        let e = comes_to_end (subst (λ r. Comes d (following d scalar) (jump f.end (address_of d scalar)) (iteration_steps g.kernel) (ending_steps g.kernel) j r) is (reaches j names now (jump f.end (address_of d scalar)) within there)) in
        let begun = e.is in
        record {
          memory = ends.0.memory;
          result = ends.0.result;
          begun = ends.0.count;
          is = is;
          late = omega (arith, begun);
          ends = end_after end_most (let few = ends.1 e.n begun in omega (arith, few)) (chain (joined_all (throughout g.kernel Z) + 1) (omega arith) f.goes (taken_goes refl)) e.ends;
        }

    finish : Passing (loop_of (from_x g xs) breaks d leave) head start 0 g.names m → Done (run_from g.kernel 0 m g.names)
    finish (leaves k j now names end count place le goes late h by pace few2) =
        let b = following_passes j now names end h le late in
        let on : run_from g.kernel 0 m g.names ≡ run_from g.kernel j now names
        = loop_is 0 m g.names ∙ for_loop_on (var_scope g.kernel) g.for_loop g.kernel.answer (limit g) k 0 m g.names now names refl (bound_is j names now end h) (omega (arith, place, le)) goes
        ∙ ap (λ j. for_loop_from (var_scope g.kernel) (Some g.for_loop) g.kernel.answer j now names) (sym place) ∙ sym (loop_is j now names) in
        subst Done (sym (on ∙ b.is))
        (follows.ends_so (record {
          count = before.count + (count + b.ends.count);
          by = λ n taken.
              let e : before.count + (count + b.ends.count) + n ≡ before.count + (count + (b.ends.count + n)) = omega arith in
              let f : taken + before.count + count + b.ends.count ≡ taken + (before.count + (count + b.ends.count)) = omega arith in
              ap (λ n. draft_run d n taken code s) e ∙ before.by (count + (b.ends.count + n)) taken ∙ by (b.ends.count + n) (taken + before.count) ∙ b.ends.by n (taken + before.count + count) ∙ ap (End b.memory b.result) f;
          paced = λ n below. whole_following breaks (most_lanes g) (pass_steps g.kernel) (edge_steps g.kernel) start_most end_most (has_lanes g ground) around before b.begun j count b.ends.count b.late b.ends.within pace n (omega (arith, below));
        })
        (iterations_in_all (pass_steps g.kernel) (edge_steps g.kernel) j b.begun before.count count b.ends.count b.late (let f = before.within in let k = b.ends.within in let a = around in omega (arith, f, k, a)) few2))
    finish (stops k j left faulted kind count pc place within lo hi fails ends by pace few2) =
        subst Done (sym (loop_is 0 m g.names ∙ for_loop_fails (var_scope g.kernel) g.for_loop g.kernel.answer (limit g) k 0 m g.names faulted j refl within fails))
        (follows.faults_so kind left ends.access (record {
          count = before.count + count;
          pc = pc;
          at = place;
          by = λ n taken.
              let e : before.count + count + n ≡ before.count + (count + n) = omega arith in
              let f : taken + before.count + count ≡ taken + (before.count + count) = omega arith in
              ap (λ n. draft_run d n taken code s) e ∙ before.by (count + n) taken ∙ by n (taken + before.count) ∙ ap (Stop kind pc place left) f;
          paced = λ n below. whole breaks (most_lanes g) (pass_steps g.kernel) (edge_steps g.kernel) start_most end_most (has_lanes g ground) around before (j + 1) (j + ahead breaks) count (few_ahead breaks j) pace n (omega (arith, below));
        })
        (near_from ends.near)
        (let le = iterations_in_all (pass_steps g.kernel) (edge_steps g.kernel) j (j + 1) before.count count 0 (omega arith) (let f = before.within in let a = around in omega (arith, f, a)) few2 in omega (arith, le)))

pub vector_runs : VectorRuns
vector_runs g c d scalar n rest m s ground fit is vl at x res reaches =
    let leave = fold_code (register_in c) g.kernel g.vectors (Branch Always scalar ∷ rest) in
    let passes = passes_code g.kernel g.vectors g.predicates n leave in
    let st = start_runs g m d passes s ground is vl at.memory at.index x in
    let e = enters g ground d n leave (following_start d g.kernel g.vectors passes res) st.head in
    finish g c d scalar n rest m s ground fit at x reaches e.x e.ground e.same (chain (3 + turning_steps (has_break g.kernel) + laid_all (throughout g.kernel Z)) (omega arith) st.goes e.goes) e.passing
