-- Each label of a kernel's code with a vector part is placed once.
use Rattle.std.proofs.Common.{◌≡◌, ◌≢◌, ℕ, zero, suc, ◌+◌, ◌<◌, ◌≤◌, Bool, true, false, List, [], ◌∷◌, Some, subst, arith}
use Rattle.std.specs.Prelude.{unwrap_or}
use Rattle.std.specs.List.{list_any}
use Rattle.a64_code.specs.Table.{umov}
use Rattle.machine_model.specs.InstructionTable.{Listed}
use Rattle.kernel_tree.specs.Plain.{Program}
use Rattle.kernel_meaning.specs.Operators.{word, wrapped, operator_of}
use Rattle.label_fix.specs.DraftRun.{DraftEntry, Put, Branch, Place, Always, If, word_of}
use Rattle.label_fix.proofs.LabelsOnce.{Unplaced, Once}
use Rattle.reg_assign.specs.declared.interval.RegClass.TheVariants as class
use Rattle.reg_assign.specs.Registers.{Assignment}
use Rattle.loop_form.specs.Lanes.{lane_width_of}
use Rattle.loop_form.specs.LoopItems.{Item, loop_items_of}
use Rattle.loop_form.specs.Needs.{Throughout, Scalar, Constant, Index, Accumulating, throughout}
use Rattle.loop_form.specs.Streams.{place_of}
use Rattle.dependence.specs.declared.used.Used.{Used}
use Rattle.dependence.specs.Apart.{used_of, bound_place}
use Rattle.scalar_words.specs.Words.{settle_word}
use Rattle.scalar_words.specs.Layout.{register_at}
use Rattle.scalar_words.specs.KernelRegisters.{kernel_homes}
use Rattle.loop_code.specs.Kernel.{begin_code, begin_labels, scalar_code, scalar_labels}
use Rattle.scalar_words.proofs.Pieces.{word_put, const_put, binary_put, unplaced_put, once_put}
use Rattle.loop_code.proofs.Placed.{begin_once, scalar_unplaced, scalar_once}
use Rattle.vector_emit.proofs.FromBelow.{dup_code, identity, reduce_code, vectors, puts, update_of, layout_of_loop, is_loop_break, type_of_var, hold_code, holds_code, start_code, fold_one, folds_code, fold_code, lanes_word, chunk_words, iteration_words, plain_words}
use Rattle.vector_emit.specs.VectorCode.{any_lane, is_long, turn_passes, times, passes_by, vector_code}
use Rattle.overlap_guard.specs.Guard.{label_by, is_free, guard_code}
use Rattle.overlap_guard.proofs.Placed.{guard_unplaced, guard_once, grows_pairs}

-- ---- code that places no label

module _ (P : List DraftEntry → Type 0) (put : (i : Listed) (rest : List DraftEntry) → P rest → P (Put i ∷ rest)) where
  puts_put : (is : List Listed) (rest : List DraftEntry) → P rest → P (puts is rest)
  puts_put [] rest h = h
  puts_put (i ∷ is) rest h = put i (puts is rest) (puts_put is rest h)

  times_put : (t : ℕ) (is : List Listed) (rest : List DraftEntry) → P rest → P (times t is rest)
  times_put zero is rest h = h
  times_put (suc t) is rest h = puts_put is (times t is rest) (times_put t is rest h)

  hold_put : (k : Program) (z : ℕ) (t : Throughout) (rest : List DraftEntry) → P rest → P (hold_code k z t rest)
  hold_put k z (Scalar x) rest h = puts_put (vectors (dup_code (lane_width_of k) z (unwrap_or (place_of x k.params) 0))) rest h
  hold_put k z (Constant t n) rest h = const_put P put 26 (word (wrapped t n)) _ (puts_put (vectors (dup_code (lane_width_of k) z 26)) rest h)
  hold_put k z Index rest h = h
  hold_put k z (Accumulating x) rest h = const_put P put 26 (word (identity (update_of k x) (type_of_var k x))) _ (puts_put (vectors (dup_code (lane_width_of k) z 26)) rest h)

  holds_put : (k : Program) (a : Assignment) (j : ℕ) (ts : List Throughout) (rest : List DraftEntry) → P rest → P (holds_code k a j ts rest)
  holds_put k a j [] rest h = h
  holds_put k a j (t ∷ ts) rest h = hold_put k _ t (holds_code k a (suc j) ts rest) (holds_put k a (suc j) ts rest h)

  start_put : (k : Program) (a : Assignment) (rest : List DraftEntry) → P rest → P (start_code k a rest)
  start_put k a rest h = put _ _ (holds_put k a 0 (throughout k class.Z) rest h)

  fold_one_put : (R : ℕ → ℕ) (k : Program) (z : ℕ) (t : Throughout) (rest : List DraftEntry) → P rest → P (fold_one R k z t rest)
  fold_one_put R k z (Scalar x) rest h = h
  fold_one_put R k z (Constant t n) rest h = h
  fold_one_put R k z Index rest h = h
  fold_one_put R k z (Accumulating x) rest h =
      let c = register_at (kernel_homes R k) x in
      let t = type_of_var k x in
      puts_put (vectors (reduce_code (lane_width_of k) (update_of k x) t 31 z)) _ (put (word_of umov (27 ∷ 31 ∷ [])) _ (word_put P put (settle_word true t 27) _ (binary_put P put (Some t) (operator_of (update_of k x)) c c 27 rest h)))

  folds_put : (R : ℕ → ℕ) (k : Program) (a : Assignment) (j : ℕ) (ts : List Throughout) (rest : List DraftEntry) → P rest → P (folds_code R k a j ts rest)
  folds_put R k a j [] rest h = h
  folds_put R k a j (t ∷ ts) rest h = fold_one_put R k _ t (folds_code R k a (suc j) ts rest) (folds_put R k a (suc j) ts rest h)

  fold_put : (R : ℕ → ℕ) (k : Program) (a : Assignment) (rest : List DraftEntry) → P rest → P (fold_code R k a rest)
  fold_put R k a rest h = folds_put R k a 0 (throughout k class.Z) rest h

-- ---- the vector part

passes_unplaced : (c : Bool) (k : Program) (a b : Assignment) (items : List Item) (n l : ℕ) (rest : List DraftEntry) → n ≢ l → suc n ≢ l → suc (suc n) ≢ l → Unplaced l rest → Unplaced l (passes_by c k a b items n rest)
passes_unplaced true k a b items n l rest ne next turn h =
    let w = lane_width_of k in
    let layout = layout_of_loop k a b in
    let tail : Unplaced l (Put any_lane ∷ Branch (If 1) n ∷ Place (suc n) ∷ rest) = (next, h) in
    (ne, puts_put (Unplaced l) (unplaced_put l) (chunk_words w layout (bound_place k) items) _ (puts_put (Unplaced l) (unplaced_put l) (iteration_words w layout items) _ tail))
passes_unplaced false k a b items n l rest ne next turn h =
    let w = lane_width_of k in
    let tail : Unplaced l (Put (lanes_word w (bound_place k)) ∷ Branch (If 1) n ∷ Place (suc n) ∷ rest) = (next, h) in
    let words = plain_words w (layout_of_loop k a b) items in
    (turn, times_put (Unplaced l) (unplaced_put l) (turn_passes (is_long items)) words _ (ne, puts_put (Unplaced l) (unplaced_put l) words _ tail))

next_other : (n : ℕ) → suc n ≢ n
next_other n e = absurd (omega (arith, e))

later_other : (n : ℕ) → n ≢ suc (suc n)
later_other n e = absurd (omega (arith, e))

later_other_next : (n : ℕ) → suc n ≢ suc (suc n)
later_other_next n e = absurd (omega (arith, e))

passes_once : (c : Bool) (k : Program) (a b : Assignment) (items : List Item) (n : ℕ) (rest : List DraftEntry) → Unplaced n rest → Unplaced (suc n) rest → Unplaced (suc (suc n)) rest → Once rest → Once (passes_by c k a b items n rest)
passes_once true k a b items n rest u v x h =
    let w = lane_width_of k in
    let layout = layout_of_loop k a b in
    let once : Unplaced n (Put any_lane ∷ Branch (If 1) n ∷ Place (suc n) ∷ rest) = (next_other n, u) in
    let tail : Once (Put any_lane ∷ Branch (If 1) n ∷ Place (suc n) ∷ rest) = (v, h) in (
      puts_put (Unplaced n) (unplaced_put n) (chunk_words w layout (bound_place k) items) _ (puts_put (Unplaced n) (unplaced_put n) (iteration_words w layout items) _ once),
      puts_put Once once_put (chunk_words w layout (bound_place k) items) _ (puts_put Once once_put (iteration_words w layout items) _ tail),
    )
passes_once false k a b items n rest u v x h =
    let w = lane_width_of k in
    let words = plain_words w (layout_of_loop k a b) items in
    let last : List DraftEntry = Put (lanes_word w (bound_place k)) ∷ Branch (If 1) n ∷ Place (suc n) ∷ rest in
    let once : Unplaced n last = (next_other n, u) in
    let turn : Unplaced (suc (suc n)) (Place n ∷ puts words last) = (later_other n, puts_put (Unplaced (suc (suc n))) (unplaced_put (suc (suc n))) words _ (later_other_next n, x)) in
    let passes : Once (Place n ∷ puts words last) = (puts_put (Unplaced n) (unplaced_put n) words _ once, puts_put Once once_put words _ (v, h)) in
    (times_put (Unplaced (suc (suc n))) (unplaced_put (suc (suc n))) (turn_passes (is_long items)) words _ turn, times_put Once once_put (turn_passes (is_long items)) words _ passes)

-- it places no label but its own
pub vector_unplaced : (R : ℕ → ℕ) (k : Program) (a b : Assignment) (scalar n l : ℕ) (rest : List DraftEntry) → n ≢ l → suc n ≢ l → suc (suc n) ≢ l → Unplaced l rest → Unplaced l (vector_code R k a b scalar n rest)
vector_unplaced R k a b scalar n l rest ne next turn h = start_put (Unplaced l) (unplaced_put l) k a _ (passes_unplaced (list_any is_loop_break (loop_items_of k)) k a b (loop_items_of k) n l _ ne next turn (fold_put (Unplaced l) (unplaced_put l) R k a _ h))

-- and each of these once
pub vector_once : (R : ℕ → ℕ) (k : Program) (a b : Assignment) (scalar n : ℕ) (rest : List DraftEntry) → Unplaced n rest → Unplaced (suc n) rest → Unplaced (suc (suc n)) rest → Once rest → Once (vector_code R k a b scalar n rest)
vector_once R k a b scalar n rest u v x h =
    start_put Once once_put k a _
    (passes_once (list_any is_loop_break (loop_items_of k)) k a b (loop_items_of k) n _ (fold_put (Unplaced n) (unplaced_put n) R k a _ u) (fold_put (Unplaced (suc n)) (unplaced_put (suc n)) R k a _ v) (fold_put (Unplaced (suc (suc n))) (unplaced_put (suc (suc n))) R k a _ x) (fold_put Once once_put R k a _ h))

-- ---- the whole

pub grows_by : (w : Bool) (label : ℕ) (us : List Used) → label ≤ label_by w label us
grows_by true label us = omega arith
grows_by false label us = grows_pairs label us

-- the first label after those of the guard
abbrev pub guard_end : Program → ℕ → ℕ
guard_end k label = label_by (is_free (used_of k)) label (used_of k)

-- the code of a kernel with a vector part, whose label is the first one
abbrev pub whole_code : (ℕ → ℕ) → Program → (a b : Assignment) → (n1 n2 n3 : ℕ) → List DraftEntry
whole_code R k a b n1 n2 n3 = begin_code R k 1 (Branch Always 0 ∷ scalar_code R k n1 (Place 0 ∷ guard_code k n1 n2 (vector_code R k a b n1 n3 [])))

module _ (R : ℕ → ℕ) (k : Program) (a b : Assignment) (n1 n2 n3 : ℕ) (one : n1 ≡ 1 + begin_labels k) (two : n2 ≡ n1 + scalar_labels k) (three : n3 ≡ guard_end k n2) where
  labels_rise : n2 ≤ n3
  labels_rise = let h = grows_by (is_free (used_of k)) n2 (used_of k) in omega (arith, h, three)

  vector_new : (l : ℕ) → l < n3 → Unplaced l (vector_code R k a b n1 n3 [])
  vector_new l lt = vector_unplaced R k a b n1 n3 l [] (λ e. absurd (omega (arith, e, lt))) (λ e. absurd (omega (arith, e, lt))) (λ e. absurd (omega (arith, e, lt))) tt

  guard_new : (l : ℕ) → l < n2 → Unplaced l (guard_code k n1 n2 (vector_code R k a b n1 n3 []))
  guard_new l lt = guard_unplaced k n1 n2 l (vector_code R k a b n1 n3 []) (λ h. absurd (omega (arith, h, lt))) (vector_new l (omega (arith, lt, labels_rise)))

  following_new : (l : ℕ) → 1 ≤ l → l < n2 → Unplaced l (Place 0 ∷ guard_code k n1 n2 (vector_code R k a b n1 n3 []))
  following_new l some lt = ((λ e. absurd (omega (arith, e, some))), guard_new l lt)

  following_once : Once (Place 0 ∷ guard_code k n1 n2 (vector_code R k a b n1 n3 []))
  following_once = (
    guard_new 0 (omega (arith, one, two)),
    guard_once k n1 n2 (vector_code R k a b n1 n3 []) (λ l lo hi. vector_new l (subst (λ m. l < m) (sym_of three) hi)) (vector_once R k a b n1 n3 [] tt tt tt tt),
  )
    where
      sym_of : {x y : ℕ} → x ≡ y → y ≡ x
      sym_of e = omega (arith, e)

  pub whole_once : Once (whole_code R k a b n1 n2 n3)
  whole_once =
      begin_once R k 1 _ (λ l lo hi. scalar_unplaced R k l n1 _ (λ h. absurd (omega (arith, h, hi, one))) (following_new l lo (omega (arith, hi, one, two))))
      (scalar_once R k n1 _ (λ l lo hi. following_new l (omega (arith, lo, one)) (omega (arith, hi, two))) following_once)
