-- WHILELO between passes: it takes the lanes of the chunk at X9 into P0, and a branch tests whether there are some.
use Rattle.std.proofs.Common.{◌≡◌, ℕ, ◌<◌, ◌≤◌, Bool, true, false, not, List, [], ◌∷◌, refl, sym, ap, ap₂, ◌∙◌, subst, arith, get_or-set_same, get_or-set_other}
use Rattle.std.specs.Prelude.{ℤ, is_none, slice_index_or}
use Rattle.guest_types.specs.declared.length.Width.{Width}
use Rattle.guest_types.specs.Length.{width_bytes, lanes}
use Rattle.guest_types.specs.Elements.{both, first_true, predicate, pred_test}
use Rattle.guest_types.specs.Lanes.{all_at, while_at}
use Rattle.guest_types.specs.Memory.{Memory}
use Rattle.machine_model.specs.Machine.{State, Went, x_at, p_at, with_p, with_flags, next}
use Rattle.machine_model.proofs.StateSteps.{tested_put}
use Rattle.kernel_meaning.specs.Eval.{Names}
use Rattle.label_fix.specs.DraftRun.{If, DraftEntry, Put, Branch, Laid, effect, following}
use Rattle.label_fix.proofs.StretchSteps.{Goes, chain, put_goes}
use Rattle.dependence.specs.Apart.{bound_place}
use Rattle.lane_emit.proofs.Stretches.{width-size}
use Rattle.chunk_emit.specs.Chunk.{IsTop}
use Rattle.chunk_emit.specs.Head.{Ground, IsGround, AtHead, width, most_lanes, limit}
use Rattle.first_fault.proofs.PrefixBits.{top_made}
use Rattle.chunk_pass.specs.PassCode.{lanes_word}
use Rattle.chunk_pass.specs.Passes.{lanes_at}
use Rattle.chunk_pass.proofs.LaneWords.{below_bound}
use Rattle.chunk_pass.proofs.LaneHeads.{bound_at}
use Rattle.vector_emit.proofs.Flags.{some_lanes, while_none, while_some}
use Rattle.vector_emit.proofs.Tests.{head_kept, Branched, branch_taken, branch_passed}

-- the words lead to these entries, and to a state before the same pass with its lanes in P0
pub record Taken (g : Ground) (i : ℕ) (cur : Names) (m : Memory) (sum : List ℕ → ℕ → ℤ) (d : Laid) (c : List DraftEntry) (s : State) (e : List DraftEntry) (most : ℕ) : Type 0 where
  pub end : State
  pub goes : Goes d c s e end most
  pub head : AtHead g i cur m sum end
  pub top : IsTop (width g) (lanes_at g i) (p_at end 0)

while_state : (w : Width) (n : ℕ) → State → State
while_state w n s = next (with_flags (with_p s 0 (predicate (width_bytes w) (while_at (x_at s 9) (x_at s n)) (lanes s.vl w))) (pred_test all_at (while_at (x_at s 9) (x_at s n)) (lanes s.vl w)))

while_does : (w : Width) (n : ℕ) (s : State) → effect (lanes_word w n) s ≡ Went (while_state w n s)
unfolding while_state
while_does w n s = ap (λ v. Went (next (with_flags (with_p s 0 (predicate (width_bytes v) (while_at (x_at s 9) (x_at s n)) (lanes s.vl v))) (pred_test all_at (while_at (x_at s 9) (x_at s n)) (lanes s.vl v))))) (width-size w)

abbrev place : Ground → ℕ
place g = bound_place g.kernel

while_head : {g : Ground} {i : ℕ} {cur : Names} {m : Memory} {sum : List ℕ → ℕ → ℤ} {s : State} → AtHead g i cur m sum s → AtHead g i cur m sum (while_state (width g) (place g) s)
unfolding while_state
while_head {g = g} {s = s} h = head_kept h (record {
  is = tested_put s _ 0 (width g) all_at (while_at (x_at s 9) (x_at s (place g))) h.is refl;
  vl = refl;
  memory = refl;
  x = λ r le. refl;
  all = get_or-set_other s.p 0 1 _ [] (λ e. absurd (omega (arith, e)));
  z = refl;
})

-- the bits of the chunk, and whether there is no lane
flag : Ground → State → Bool
flag g s = is_none (first_true (both all_at (while_at (x_at s 9) (x_at s (place g)))) (lanes s.vl (width g)) 0)

flag_is : {g : Ground} {i : ℕ} {cur : Names} {m : Memory} {sum : List ℕ → ℕ → ℤ} {s : State} → IsGround g → AtHead g i cur m sum s → flag g s ≡ is_none (first_true (both all_at (while_at i (limit g))) (most_lanes g) 0)
unfolding flag
flag_is {g = g} {i = i} {s = s} ground h =
    ap₂ (λ a b. is_none (first_true (both all_at (while_at a b)) (lanes s.vl (width g)) 0)) h.index (bound_at ground h) ∙ ap (λ vl. is_none (first_true (both all_at (while_at i (limit g))) (lanes vl (width g)) 0)) h.vl

while_top : {g : Ground} {i : ℕ} {cur : Names} {m : Memory} {sum : List ℕ → ℕ → ℤ} {s : State} → IsGround g → AtHead g i cur m sum s → IsTop (width g) (lanes_at g i) (p_at (while_state (width g) (place g) s) 0)
unfolding while_state
while_top {g = g} {i = i} {s = s} ground h =
    let made : IsTop (width g) (lanes_at g i) (predicate (width_bytes (width g)) (while_at i (limit g)) (most_lanes g)) = top_made (width g) (while_at i (limit g)) (most_lanes g) (lanes_at g i) (omega arith) (below_bound i (limit g) (most_lanes g)) in
    let same : predicate (width_bytes (width g)) (while_at (x_at s 9) (x_at s (place g))) (lanes s.vl (width g)) ≡ predicate (width_bytes (width g)) (while_at i (limit g)) (most_lanes g)
    = ap₂ (λ a b. predicate (width_bytes (width g)) (while_at a b) (lanes s.vl (width g))) h.index (bound_at ground h) ∙ ap (λ vl. predicate (width_bytes (width g)) (while_at i (limit g)) (lanes vl (width g))) h.vl in
    let set : p_at (while_state (width g) (place g) s) 0 ≡ predicate (width_bytes (width g)) (while_at i (limit g)) (most_lanes g) = get_or-set_same s.p 0 _ [] (let c = h.is.p_count in omega (arith, c)) ∙ same in
    subst (IsTop (width g) (lanes_at g i)) (sym set) made

while_goes : (d : Laid) (w : Width) (n : ℕ) (rest : List DraftEntry) (s : State) → Goes d (Put (lanes_word w n) ∷ rest) s rest (while_state w n s) 1
while_goes d w n rest s = put_goes (while_does w n s)

following_while : {g : Ground} {i : ℕ} {cur : Names} {m : Memory} {sum : List ℕ → ℕ → ℤ} {d : Laid} {b e : List DraftEntry} {s : State} → IsGround g → AtHead g i cur m sum s → Branched g i cur m sum d b (while_state (width g) (place g) s) e → Taken g i cur m sum d (Put (lanes_word (width g) (place g)) ∷ b) s e 2
following_while {g = g} {i = i} {d = d} {b = b} {s = s} ground h x = record {
  end = x.end;
  goes = chain 2 (omega arith) (while_goes d (width g) (place g) b s) x.goes;
  head = x.head;
  top = subst (λ ps. IsTop (width g) (lanes_at g i) (slice_index_or ps 0 [])) (sym x.p) (while_top ground h);
}

-- no lane is left
flag_past_limit : {g : Ground} {i : ℕ} {cur : Names} {m : Memory} {sum : List ℕ → ℕ → ℤ} {s : State} → IsGround g → AtHead g i cur m sum s → limit g ≤ i → flag g s ≡ true
flag_past_limit {g = g} {i = i} ground h le = flag_is ground h ∙ while_none i (limit g) (most_lanes g) le

some_left : {g : Ground} {i : ℕ} {cur : Names} {m : Memory} {sum : List ℕ → ℕ → ℤ} {s : State} → IsGround g → AtHead g i cur m sum s → i < limit g → flag g s ≡ false
some_left {g = g} {i = i} ground h lt = flag_is ground h ∙ while_some i (limit g) (most_lanes g) (some_lanes g.vl (width g) ground.sized) lt

-- B.EQ
pub while_ends : {g : Ground} {i : ℕ} {cur : Names} {m : Memory} {sum : List ℕ → ℕ → ℤ} (d : Laid) (s : State) (l : ℕ) (rest : List DraftEntry) → IsGround g → AtHead g i cur m sum s → limit g ≤ i → Taken g i cur m sum d (Put (lanes_word (width g) (bound_place g.kernel)) ∷ Branch (If 0) l ∷ rest) s (following d l) 2
unfolding while_state flag
while_ends d s l rest ground h le = following_while ground h (branch_taken d (If 0) l rest (while_head h) (flag_past_limit ground h le))

pub while_begins : {g : Ground} {i : ℕ} {cur : Names} {m : Memory} {sum : List ℕ → ℕ → ℤ} (d : Laid) (s : State) (l : ℕ) (rest : List DraftEntry) → IsGround g → AtHead g i cur m sum s → i < limit g → Taken g i cur m sum d (Put (lanes_word (width g) (bound_place g.kernel)) ∷ Branch (If 0) l ∷ rest) s rest 2
unfolding while_state flag
while_begins d s l rest ground h lt = following_while ground h (branch_passed d (If 0) l rest (while_head h) (some_left ground h lt))

-- B.NE
pub while_over : {g : Ground} {i : ℕ} {cur : Names} {m : Memory} {sum : List ℕ → ℕ → ℤ} (d : Laid) (s : State) (l : ℕ) (rest : List DraftEntry) → IsGround g → AtHead g i cur m sum s → limit g ≤ i → Taken g i cur m sum d (Put (lanes_word (width g) (bound_place g.kernel)) ∷ Branch (If 1) l ∷ rest) s rest 2
unfolding while_state flag
while_over d s l rest ground h le = following_while ground h (branch_passed d (If 1) l rest (while_head h) (ap not (flag_past_limit ground h le)))

pub while_back : {g : Ground} {i : ℕ} {cur : Names} {m : Memory} {sum : List ℕ → ℕ → ℤ} (d : Laid) (s : State) (l : ℕ) (rest : List DraftEntry) → IsGround g → AtHead g i cur m sum s → i < limit g → Taken g i cur m sum d (Put (lanes_word (width g) (bound_place g.kernel)) ∷ Branch (If 1) l ∷ rest) s (following d l) 2
unfolding while_state flag
while_back d s l rest ground h lt = following_while ground h (branch_taken d (If 1) l rest (while_head h) (ap not (some_left ground h lt)))
