-- The words of a kernel's draft run as the kernel does, from any place and any state that has the arguments.
use Rattle.std.proofs.Common.{◌≡◌, ℕ, ◌%◌, ◌^◌, ◌≤◌, List, sym, subst, arith}
use Rattle.machine_model.specs.Machine.{State}
use Rattle.machine_model.specs.Run.{run, suppressed}
use Rattle.kernel_tree.specs.Plain.{Program}
use Rattle.kernel_meaning.specs.ScalarRun.{begun, scalar_run}
use Rattle.label_fix.specs.DraftRun.{DraftEntry, Laid, draft_run}
use Rattle.label_fix.specs.Finished.{StandAt, words_of}
use Rattle.label_fix.specs.Suppressions.{cuts}
use Rattle.label_fix.proofs.PlacedRuns.{runs_as_draft, cuts_are_suppressed}
use Rattle.close_bound.specs.CloseBound.{close_bound}
use Rattle.promises.specs.Faithful.{Follows, end_steps}
use Rattle.kernel_compile.specs.Drafted.{AreDrafted, FollowsAnywhere, FollowsClosely}
use Rattle.kernel_call.specs.Anywhere.{IsBegun, RunsAnywhere, ClosesAnywhere, EndsAnywhere}

drafted_anywhere : (enough : Program → (args : List ℕ) (vl m q : ℕ) → ℕ) (k : Program) (words : List ℕ) (Holds : List DraftEntry → Type 0) → (d : AreDrafted Holds words) → FollowsAnywhere enough k d.entries → RunsAnywhere enough k words
drafted_anywhere enough k words Holds d follows args s steps h le =
    let D : Laid = record { base = s.pc; entries = d.entries } in
    let stand : StandAt s.memory s.pc (words_of d.entries) = subst (StandAt s.memory s.pc) d.is h.code in
    let here : s.pc ≡ s.pc % 2 ^ 64 = let low = h.state.place in omega (arith, low) in
    let same : run steps 0 s ≡ draft_run D steps 0 d.entries s = runs_as_draft D d.labels s d.fit d.few stand here steps 0 in
    let cut : cuts D steps d.entries s ≤ suppressed steps s = cuts_are_suppressed D d.labels s d.fit d.few stand here steps in
    subst (λ o. Follows k args s.vl (scalar_run k args s.memory) o) (sym same) (follows s.pc steps (suppressed steps s) args s h.given h.state cut le)

pub words_anywhere : (k : Program) (words : List ℕ) → AreDrafted (FollowsClosely k) words → ClosesAnywhere k words × EndsAnywhere k words
words_anywhere k words d = (drafted_anywhere close_bound k words (FollowsClosely k) d d.holds.0, drafted_anywhere end_steps k words (FollowsClosely k) d d.holds.1)
