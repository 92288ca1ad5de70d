-- The beginning of a pass: its lanes are in P0, and the loop variable has its register.
use Rattle.std.proofs.Common.{◌≡◌, ℕ, ◌+◌, ◌≤◌, ℤ, ltb, List, ◌∷◌, length, refl, sym, ap, ap₂, ◌∙◌, subst, arith, get_or-set_same, get_or-set_other}
use Rattle.std.proofs.lemmas.List.{get_or_past, length-set}
use Rattle.guest_types.specs.Length.{lanes}
use Rattle.guest_types.specs.Lanes.{while_at}
use Rattle.guest_types.specs.Memory.{Memory}
use Rattle.kernel_meaning.specs.Eval.{Names}
use Rattle.machine_model.specs.Machine.{State, x_at, p_at, with_x, next}
use Rattle.machine_model.specs.States.{IsState}
use Rattle.machine_model.proofs.StateSteps.{x_put}
use Rattle.label_fix.specs.DraftRun.{DraftEntry, Put, Laid}
use Rattle.label_fix.specs.Stretches.{Leads}
use Rattle.dependence.specs.Apart.{bound_place}
use Rattle.chunk_emit.specs.ChunkCode.{puts}
use Rattle.chunk_emit.specs.Chunk.{IsTop}
use Rattle.chunk_emit.specs.Fits.{Assigned}
use Rattle.chunk_emit.specs.Head.{Ground, IsGround, AtHead, IndexHeld, layout, width, most_lanes, limit}
use Rattle.chunk_emit.proofs.FitsAssigned.{assigned_of}
use Rattle.first_fault.proofs.Stretches.{follow}
use Rattle.chunk_pass.specs.PassCode.{lanes_word, first_lane_words, index_words}
use Rattle.chunk_pass.specs.Passes.{lanes_at}
use Rattle.chunk_pass.proofs.LaneHeads.{Kept, head_kept, bound_at}
use Rattle.chunk_pass.proofs.LaneWords.{taken, taken_kept, taken_top, below_bound, lanes_lead, one_leads}
use Rattle.chunk_pass.proofs.LaneIndexes.{Indexed, indexed}
use Rattle.chunk_pass.proofs.LaneWidths.{loop_index_wide, loop_index_apart}

-- some words lead to a state before a pass with n lanes in P0
pub record Begun (g : Ground) (i n : ℕ) (d : Laid) (code rest : List DraftEntry) (cur : Names) (m : Memory) (sum : List ℕ → ℕ → ℤ) (s : State) (words : ℕ) : Type 0 where
  pub end : State
  pub leads : Leads d code s rest end words
  pub head : AtHead g i cur m sum end
  pub top : IsTop (width g) n (p_at end 0)
  pub held_index : IndexHeld g i end

pub assigned_in : (g : Ground) → IsGround g → Assigned (layout g)
assigned_in g ground = assigned_of g.kernel g.vectors g.predicates ground.z_fits ground.p_fits

-- X26 = 1
one_kept : (g : Ground) (s : State) → IsState s → Kept g s (next (with_x s 26 1))
one_kept g s h = record {
  is = x_put s (next (with_x s 26 1)) 26 1 h (omega arith) refl;
  vl = refl;
  memory = refl;
  x = λ r le. get_or-set_other s.x 26 r 1 0 (λ e. absurd (omega (arith, e, le)));
  all = refl;
  held = λ x is ne. refl;
  sums = λ x is. refl;
}

module _ (g : Ground) (ground : IsGround g) {i : ℕ} {cur : Names} {m : Memory} {sum : List ℕ → ℕ → ℤ} (d : Laid) (rest : List DraftEntry) where
  -- where the lanes are in P0
  pub plain_begun : (n : ℕ) (s : State) → AtHead g i cur m sum s → IsTop (width g) n (p_at s 0) → Begun g i n d (puts (index_words (layout g)) rest) rest cur m sum s (length (index_words (layout g)))
  plain_begun n s h top =
      let t : Indexed g i d (index_words (layout g)) rest s = indexed g (assigned_in g ground) (loop_index_apart g.kernel g.vectors ground.z_fits) (loop_index_wide g.kernel g.for_loop ground.sound ground.loops) i d rest s h.is h.vl h.index in
      record { end = t.end; leads = t.leads; head = head_kept h t.kept; top = subst (IsTop (width g) n) (sym t.top) top; held_index = t.held_index }

  -- a chunk
  pub chunk_begun : (s : State) → AtHead g i cur m sum s
      → Begun g i (lanes_at g i) d (Put (lanes_word (width g) (bound_place g.kernel)) ∷ puts (index_words (layout g)) rest) rest cur m sum s (1 + length (index_words (layout g)))
  chunk_begun s h =
      let truth = while_at (x_at s 9) (x_at s (bound_place g.kernel)) in
      let count : lanes s.vl (width g) ≡ most_lanes g = ap (λ v. lanes v (width g)) h.vl in
      let top = taken_top (width g) s truth (lanes_at g i) h.is (omega (arith, count))
      (λ e lt. ap₂ (λ a b. while_at a b e) h.index (bound_at ground h) ∙ below_bound i (limit g) (most_lanes g) e (omega (arith, lt, count))) in
      let t = plain_begun (lanes_at g i) (taken (width g) s truth) (head_kept h (taken_kept g s truth h.is)) top in
      record { end = t.end; leads = follow (1 + length (index_words (layout g))) (omega arith) (lanes_lead (width g) (bound_place g.kernel) s) t.leads; head = t.head; top = t.top; held_index = t.held_index }

  -- lane 0 alone
  pub iteration_begun : (s : State) → 1 ≤ most_lanes g → AtHead g i cur m sum s → IndexHeld g i s → Begun g i 1 d (puts (first_lane_words (width g)) rest) rest cur m sum s 2
  iteration_begun s some h held_index =
      let t = next (with_x s 26 1) in
      let truth = while_at (x_at t 31) (x_at t 26) in
      let kept = one_kept g s h.is in
      let count : lanes s.vl (width g) ≡ most_lanes g = ap (λ v. lanes v (width g)) h.vl in
      let long = length-set s.x 26 1 in
      let zero_is : x_at t 31 ≡ 0 = get_or_past t.x 31 0 (omega (arith, long, h.is.x_count)) in
      let one_is : x_at t 26 ≡ 1 = get_or-set_same s.x 26 1 0 (omega (arith, h.is.x_count)) in
      let top = taken_top (width g) t truth 1 kept.is (omega (arith, count, some)) (λ e lt. ap₂ (λ a b. while_at a b e) zero_is one_is ∙ ap (λ v. ltb v 1) (omega arith)) in
      record {
        end = taken (width g) t truth;
        leads = one_leads (width g) s;
        head = head_kept (head_kept h kept) (taken_kept g t truth kept.is);
        top = top;
        held_index = held_index;
      }
