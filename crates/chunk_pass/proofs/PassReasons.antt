-- Why a lane is left out of a pass.
use Rattle.std.proofs.Common.{◌≡◌, ℕ, zero, suc, ◌+◌, ◌≤◌, ◌⊎◌, ℤ, List, None, refl, sym, ap, ◌∙◌, subst, arith, inl, inr}
use Rattle.guest_types.specs.Memory.{Memory}
use Rattle.kernel_tree.specs.Typing.{var_scope}
use Rattle.kernel_meaning.specs.Ends.{BlockEnd, Next, Faulted, Going}
use Rattle.kernel_meaning.specs.Eval.{Names}
use Rattle.kernel_meaning.specs.Iterate.{iterate}
use Rattle.kernel_meaning.specs.Ends.{Broke as BrokeOut}
use Rattle.kernel_meaning.specs.ScalarRun.{iterations}
use Rattle.chunk_emit.specs.Head.{Ground, IsGround, Between, width, most_lanes, limit}
use Rattle.first_fault.specs.Region.{Broke, lane_left}
use Rattle.first_fault.specs.RegionCode.{Early, Single}
use Rattle.first_fault.specs.RegionRuns.{Why, by_break, by_fault, by_stop}
use Rattle.first_fault.specs.IterationWays.{IsIteration}
use Rattle.chunk_pass.specs.Halts.{Breaks, Faults}
use Rattle.chunk_pass.specs.Chunks.{NextHalts}
use Rattle.chunk_pass.specs.Passes.{LeftOut, breaks, faults, suppressed}
use Rattle.chunk_pass.proofs.LaneHolds.{blank, blank_lanes, is_chunk}
use Rattle.chunk_pass.proofs.PassRegions.{way_in, Reasons, region_iteration}

halts_left : (iteration_end : BlockEnd Names) (cut : ℕ) (here : Type 0) → Breaks iteration_end ⊎ Faults iteration_end → LeftOut iteration_end cut here
halts_left iteration_end cut here (inl h) = breaks h
halts_left iteration_end cut here (inr h) = faults h

-- of a chunk
pub chunk_reasons : NextHalts → (g : Ground) (i n : ℕ) (cur : Names) (m : Memory) (sum : List ℕ → ℕ → ℤ) → IsGround g → Between g i cur sum → n ≤ most_lanes g → i + n ≤ limit g → Reasons g i n cur m LeftOut Early
chunk_reasons halts g i n cur m sum ground between few within k lt d c e s t most leads left out names is goes all here more give = by left
  where
    halted : lane_left (way_in g m (i + k) blank) ≡ None → LeftOut (iterate (var_scope g.kernel) g.for_loop (i + k) out.memory names) all here
    halted none =
        halts_left (iterate (var_scope g.kernel) g.for_loop (i + k) out.memory names) all here
        (halts g i k cur names sum (blank_lanes m) out ground between (is_chunk g i k m (omega (arith, lt, few)) (omega (arith, lt, within))) (omega (arith, lt, few)) (omega (arith, lt, within)) is goes none)

    by : Why Early (width g) (way_in g m (i + k) blank) leads k → LeftOut (iterate (var_scope g.kernel) g.for_loop (i + k) out.memory names) all here
    by (by_break e) = halted (ap lane_left e)
    by (by_fault early e) = halted (ap lane_left e)
    by (by_stop early some on) = suppressed (omega (arith, some, more)) (give on)

-- ---- of one iteration

broke_iteration : (m : Memory) (iteration_end : BlockEnd Names) → IsIteration Broke m iteration_end → Breaks iteration_end
broke_iteration m (Next after names) is = absurd is
broke_iteration m (BrokeOut after names) is = tt
broke_iteration m (Faulted after) is = absurd is

going_memory : {m n : Memory} {a b : Names} → Going m a ≡ Going n b → m ≡ n
going_memory e = cc

going_names : {m n : Memory} {a b : Names} → Going m a ≡ Going n b → a ≡ b
going_names e = cc

nothing_done : (g : Ground) (i : ℕ) (m : Memory) (cur : Names) → iterations (var_scope g.kernel) g.for_loop 0 i m cur ≡ Going m cur
unfolding iterations
nothing_done g i m cur = refl

pub iteration_reasons : (g : Ground) (i : ℕ) (cur : Names) (m : Memory) {sum : List ℕ → ℕ → ℤ} → IsGround g → Between g i cur sum → Reasons g i 1 cur m (λ iteration_end cut here. Breaks iteration_end) Single
iteration_reasons g i cur m ground between (suc k) lt d c e s t most leads left out names is goes all here more give = absurd (omega (arith, lt))
iteration_reasons g i cur m ground between zero lt d c e s t most leads left out names is goes all named more give = by left
  where
    here : i + 0 ≡ i
    here = omega arith

    stands : Going m cur ≡ Going out.memory names
    stands = sym (nothing_done g i m cur) ∙ goes

    same : iterate (var_scope g.kernel) g.for_loop (i + 0) out.memory names ≡ iterate (var_scope g.kernel) g.for_loop i m cur
    same =
        ap (λ j. iterate (var_scope g.kernel) g.for_loop j out.memory names) here ∙ ap (λ memory. iterate (var_scope g.kernel) g.for_loop i memory names) (sym (going_memory stands))
        ∙ ap (iterate (var_scope g.kernel) g.for_loop i m) (sym (going_names stands))

    by : Why Single (width g) (way_in g m (i + 0) blank) leads 0 → Breaks (iterate (var_scope g.kernel) g.for_loop (i + 0) out.memory names)
    by (by_break e) = subst Breaks (sym same) (broke_iteration m (iterate (var_scope g.kernel) g.for_loop i m cur) (region_iteration g i cur m ground between blank Broke (ap (λ j. way_in g m j blank) (sym here) ∙ e)))
    by (by_fault early e) = absurd cc
    by (by_stop early some on) = absurd cc
