-- How many words the passes have, and the vector code with them.
use Rattle.std.proofs.Common.{◌≡◌, ℕ, zero, suc, ◌+◌, ◌*◌, ◌≤◌, Bool, true, false, List, [], ◌∷◌, ◌++◌, length, arith}
use Rattle.a64_code.specs.Table.{subs}
use Rattle.machine_model.specs.InstructionTable.{Listed}
use Rattle.kernel_tree.specs.Plain.{Program}
use Rattle.kernel_tree.specs.Items.{size_of}
use Rattle.label_fix.specs.DraftRun.{DraftEntry, Always, If, Put, Branch, Place, ins}
use Rattle.label_fix.specs.Finished.{size}
use Rattle.label_fix.proofs.PlacedRuns.{words_added}
use Rattle.reg_assign.specs.declared.interval.RegClass.TheVariants.{Z}
use Rattle.reg_assign.specs.Registers.{Assignment}
use Rattle.loop_form.specs.Lanes.{lane_width_of}
use Rattle.loop_form.specs.LoopItems.{Item, loop_items_of}
use Rattle.loop_form.specs.Needs.{throughout}
use Rattle.dependence.specs.Apart.{bound_place}
use Rattle.close_bound.specs.CloseBound.{has_break, items_steps, around_steps, laid_all, joined_all, held_steps}
use Rattle.close_bound.proofs.CloseBounds.{items_few, lanes_few, held_few}
use Rattle.close_bound.proofs.LoopSizes.{all_items}
use Rattle.chunk_emit.specs.ChunkCode.{puts}
use Rattle.chunk_emit.specs.KernelLayout.{layout_of_loop}
use Rattle.chunk_pass.specs.PassCode.{lanes_word, chunk_words, iteration_words, plain_words}
use Rattle.reductions.specs.EdgeCode.{fold_code}
use Rattle.reductions.proofs.EdgeSizes.{start_few, fold_few}
use Rattle.reductions.proofs.StartCounts.{few_held}
use Rattle.vector_emit.specs.VectorCode.{any_lane, is_long, turn_passes, times, words_by, passes_most, passes_by, passes_code, vector_code}
use Rattle.vector_emit.proofs.PassSizes.{chunk_few, iteration_few, plain_few}

size-puts : (is : List Listed) (rest : List DraftEntry) → size (puts is rest) ≡ length is + size rest
size-puts [] rest = omega arith
size-puts (i ∷ is) rest = let more = size-puts is rest in omega (arith, more)

-- ---- the passes

size-times : (t : ℕ) (is : List Listed) (rest : List DraftEntry) → size (times t is rest) ≡ t * length is + size rest
size-times zero is rest = omega arith
size-times (suc t) is rest = let p = size-puts is (times t is rest) in let more = size-times t is rest in omega (arith, p, more)

turn_few : (long : Bool) (n : ℕ) → turn_passes long * n ≤ 4 * n
turn_few true n = omega arith
turn_few false n = omega arith

passes_few : (c : Bool) (k : Program) (a b : Assignment) (items : List Item) (n : ℕ) (rest : List DraftEntry) → size (passes_by c k a b items n rest) ≤ words_by c (items_steps c items + around_steps c) + size rest
passes_few true k a b items n rest =
    let w = lane_width_of k in
    let l = layout_of_loop k a b in
    let x = chunk_few w l (bound_place k) items in
    let y = iteration_few w l items in
    let last : List DraftEntry = Put any_lane ∷ Branch (If 1) n ∷ Place (suc n) ∷ rest in
    let middle : List DraftEntry = Put any_lane ∷ Branch (If 1) n ∷ ins subs (31 ∷ 9 ∷ 0 ∷ bound_place k ∷ 0 ∷ []) ∷ Branch (If 2) (suc n) ∷ puts (iteration_words w l items) last in
    let p = size-puts (chunk_words w l (bound_place k) items) middle in
    let q = size-puts (iteration_words w l items) last in
    omega (arith, x, y, p, q)
passes_few false k a b items n rest =
    let w = lane_width_of k in
    let l = layout_of_loop k a b in
    let x = plain_few w l items in
    let last : List DraftEntry = Put (lanes_word w (bound_place k)) ∷ Branch (If 1) n ∷ Place (suc n) ∷ rest in
    let p = size-puts (plain_words w l items) last in
    let q = size-times (turn_passes (is_long items)) (plain_words w l items) (ins subs (31 ∷ 9 ∷ 0 ∷ 8 ∷ 0 ∷ []) ∷ Branch (If 9) (suc (suc n)) ∷ Put (lanes_word w (bound_place k)) ∷ Branch (If 0) (suc n) ∷ Place n ∷ puts (plain_words w l items) last) in
    let t = turn_few (is_long items) (length (plain_words w l items)) in
    omega (arith, x, p, q, t)

-- so many words more
pub passes_appended : (k : Program) (a b : Assignment) (n : ℕ) (old new : List DraftEntry) → new ++ [] ≡ old ++ passes_code k a b n [] → size new ≤ size old + passes_most k
passes_appended k a b n old new e = words_added old new (passes_code k a b n []) (passes_most k) e (passes_few (has_break k) k a b (loop_items_of k) n [])

-- so many words are few
most_few : (k : Program) → passes_most k ≤ 21 + 15 * size_of k
most_few k = by (has_break k)
  where
    by : (b : Bool) → words_by b (items_steps b (loop_items_of k) + around_steps b) ≤ 21 + 15 * size_of k
    by true = let few = items_few true (loop_items_of k) in let all = all_items k in omega (arith, few, all)
    by false = let few = lanes_few (loop_items_of k) in let all = all_items k in omega (arith, few, all)

-- ---- the whole

-- the words of the passes, what is held laid and joined, and two
pub vector_close : (R : ℕ → ℕ) (k : Program) (a b : Assignment) (scalar n : ℕ) (rest : List DraftEntry) → size (vector_code R k a b scalar n rest) ≤ 2 + held_steps (throughout k Z) + passes_most k + size rest
vector_close R k a b scalar n rest =
    let leave = fold_code R k a (Branch Always scalar ∷ rest) in
    let start = start_few k a (passes_code k a b n leave) in
    let passes = passes_few (has_break k) k a b (loop_items_of k) n leave in
    let fold = fold_few R k a (Branch Always scalar ∷ rest) in
    omega (arith, start, passes, fold)

-- by the words of the start, of the passes and of the fold; a branch follows them
pub vector_appended : (k : Program) (scalar : ℕ) (old started passed folded new : List DraftEntry) → size started ≤ size old + (1 + laid_all (throughout k Z)) → size passed ≤ size started + passes_most k → size folded ≤ size passed + joined_all (throughout k Z)
    → new ++ [] ≡ folded ++ Branch Always scalar ∷ [] → size new ≤ size old + (200 + 32 * size_of k)
vector_appended k scalar old started passed folded new start passes fold e =
    let last = words_added folded new (Branch Always scalar ∷ []) 1 e (omega arith) in
    let held = held_few (throughout k Z) in
    let few = few_held k in
    let pass = most_few k in
    omega (arith, start, passes, fold, last, held, few, pass)
