-- Runs of kernels.
use Rattle.std.proofs.Common.{◌≡◌, ℕ, ◌<◌, ◌≤◌, List, [], ◌++◌, Result, Ok, Err, cond, sym, ap, ◌∙◌}
use Rattle.std.proofs.lemmas.Bool.{lt-leb, le-leb}
use Rattle.std.specs.Prelude.{IfErr, IsErrAnd}
use Rattle.guest_types.specs.Memory.{Memory}
use Rattle.kernel_tree.specs.Plain.{Program}
use Rattle.kernel_meaning.specs.ScalarRun.{Run, scalar_run, first_leave, begun}
use Rattle.kernel_meaning.specs.ScalarRun as meaning
use Rattle.kernel_meaning.specs.Answers.{IsOutcome}
use Rattle.kernel_meaning.specs.declared.outcome.ScalarOutcome.{ScalarOutcome}
use Rattle.kernel_meaning.specs.declared.outcome.ScalarOutcome.TheVariants as scalar
use Rattle.scalar_text.specs.ScalarText.{scalar_text}
use Rattle.map_text.specs.declared.fault.MapFault.{MapFault}
use Rattle.map_text.specs.Mapping.{map_of as pages_of_map}
use Rattle.map_text.specs.View.{Refuses as RefusesMap}
use Rattle.command_line.specs.Line.{Task}
use Rattle.refusals.specs.declared.refusal.Refusal.{Refusal}
use Rattle.refusals.specs.declared.refusal.Refusal.TheVariants.{Map}
use Rattle.refusals.specs.declared.refusal.Done.{Done}
use Rattle.refusals.specs.Statuses.{of_map}
use Rattle.command_answers.specs.Reads.{and_then}
use Rattle.command_answers.specs.Works.{mapped, dump_of, RefusesProgram}
use Rattle.kernel_commands.specs.Commands.{outcome_by, left_by, scalar_done, scalar_success, eval_over, eval_kernel}
use Rattle.command_answers.proofs.Loading.{map_error_refused}

-- ---- outcomes

end_by : (limit : ℕ) (run : Run) (after first : Memory) (result n : ℕ) → run ≡ meaning.End after result n → n ≤ limit → (outcome_by limit run ≡ scalar.End result n) × (left_by limit run first ≡ after)
end_by limit run after first result n e h = (
  ap (outcome_by limit) e ∙ ap (λ t. cond t (scalar.End result n) scalar.Spent) (le-leb n limit h),
  ap (λ r. left_by limit r first) e ∙ ap (λ t. cond t after first) (le-leb n limit h),
)

fault_by : (limit : ℕ) (run : Run) (after first : Memory) (n : ℕ) → run ≡ meaning.Fault after n → n ≤ limit → (outcome_by limit run ≡ scalar.Fault n) × (left_by limit run first ≡ after)
fault_by limit run after first n e h = (
  ap (outcome_by limit) e ∙ ap (λ t. cond t (scalar.Fault n) scalar.Spent) (le-leb n limit h),
  ap (λ r. left_by limit r first) e ∙ ap (λ t. cond t after first) (le-leb n limit h),
)

spent_by : (limit : ℕ) (run : Run) (after first : Memory) → limit < begun run → after ≡ first → (outcome_by limit run ≡ scalar.Spent) × (left_by limit run first ≡ after)
spent_by limit (meaning.End memory result n) after first h e =
    (ap (λ t. cond t (scalar.End result n) scalar.Spent) (lt-leb n limit h), ap (λ t. cond t memory first) (lt-leb n limit h) ∙ sym e)
spent_by limit (meaning.Fault memory n) after first h e =
    (ap (λ t. cond t (scalar.Fault n) scalar.Spent) (lt-leb n limit h), ap (λ t. cond t memory first) (lt-leb n limit h) ∙ sym e)

outcome_is : (o : ScalarOutcome) (limit : ℕ) (run : Run) (after first : Memory) → IsOutcome o limit run after first → (outcome_by limit run ≡ o) × (left_by limit run first ≡ after)
outcome_is (scalar.End result n) limit run after first h = end_by limit run after first result n h.0 h.1
outcome_is (scalar.Fault n) limit run after first h = fault_by limit run after first n h.0 h.1
outcome_is scalar.Spent limit run after first h = spent_by limit run after first h.0 h.1

-- ---- over the pages of a map

eval_is : (task : Task) (map : List ℕ) (k : Program) (none : Memory) (pages : Result Memory MapFault) → none ≡ [] → pages_of_map map none ≡ pages → eval_kernel task map k ≡ and_then (mapped pages) (eval_over task k)
unfolding eval_kernel
eval_is task map k none pages empty e =
    ap (λ m. and_then (mapped (pages_of_map map m)) (eval_over task k)) (sym empty) ∙ ap (λ p. and_then (mapped p) (eval_over task k)) e

eval_wanted : (task : Task) (map : List ℕ) (k : Program) (none : Memory) → none ≡ [] → (fault : MapFault) → pages_of_map map none ≡ Err fault → eval_kernel task map k ≡ Err (Map fault)
eval_wanted task map k none empty fault e = eval_is task map k none (Err fault) empty e

pub eval_refused : {T : Type 0} (task : Task) (map : List ℕ) (k : Program) (none : Memory) (fault : MapFault) (result : Result T Refusal) → none ≡ [] → IsErrAnd result (λ refusal. refusal ≡ of_map fault) → RefusesMap (pages_of_map map none) fault → IfErr result (λ refusal. RefusesProgram (eval_kernel task map k) refusal)
eval_refused task map k none fault result empty is h =
    map_error_refused (pages_of_map map none) (eval_kernel task map k) fault result (eval_wanted task map k none empty) is h

pub eval_reported : (task : Task) (map : List ℕ) (k : Program) (none pages before after : Memory) (o : ScalarOutcome) (how : Done) (text : List ℕ) → none ≡ [] → pages_of_map map none ≡ Ok pages → before ≡ pages → IsOutcome o task.steps (scalar_run k task.args before) after (first_leave k task.args task.steps before) → how ≡ scalar_done o → text ≡ scalar_text o ++ dump_of task.dump after → eval_kernel task map k ≡ Ok (record { how = how; text = text })
eval_reported task map k none pages before after o how text empty e same is done shown =
    let out = outcome_is o task.steps (scalar_run k task.args before) after (first_leave k task.args task.steps before) is in
    eval_is task map k none (Ok pages) empty e
    ∙ ap (eval_over task k) (sym same)
    ∙ ap (λ r. scalar_success task.dump r (left_by task.steps (scalar_run k task.args before) (first_leave k task.args task.steps before))) out.0
    ∙ ap (λ m. scalar_success task.dump o m) out.1
    ∙ ap (λ h. Ok (record { how = h; text = scalar_text o ++ dump_of task.dump after })) (sym done)
    ∙ ap (λ t. Ok (record { how = how; text = t })) (sym shown)
