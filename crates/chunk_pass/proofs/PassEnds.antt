-- From the state after the items of a pass to the state before the next one.
use Rattle.std.proofs.Common.{◌≡◌, ◌≢◌, ℕ, ◌+◌, ◌%◌, ◌^◌, ◌≤◌, ℤ, true, List, refl, ap, ◌∙◌, arith, get_or-set_same, get_or-set_other}
use Rattle.guest_types.specs.Length.{width_bits}
use Rattle.guest_types.specs.EarlyLoads.{StopList}
use Rattle.guest_types.specs.Memory.{Memory}
use Rattle.kernel_tree.specs.Wrap.{residue}
use Rattle.kernel_meaning.specs.Eval.{Names}
use Rattle.machine_model.specs.Arithmetic as machine
use Rattle.machine_model.specs.Machine.{State, x_at, p_at}
use Rattle.machine_model.proofs.StateSteps.{x_put, wrapped}
use Rattle.loop_form.specs.declared.loop_item.Operand.{Operand}
use Rattle.loop_form.specs.declared.loop_item.Operand.TheVariants.{LoopIndex}
use Rattle.vector_order.specs.Orders.{Lanes}
use Rattle.chunk_emit.specs.Chunk.{IsTop, sum_at, Holds}
use Rattle.chunk_emit.specs.Head.{Ground, IsGround, Between, HeldAll, AtHead, IndexHeld, layout, width, limit}
use Rattle.chunk_pass.specs.Chunks.{GivenRight}
use Rattle.chunk_pass.proofs.LaneHeads.{limit_below}
use Rattle.chunk_pass.proofs.LaneHolds.{setting, blank, outer_same}
use Rattle.chunk_pass.proofs.LaneWords.{advanced}

module _ (g : Ground) {i : ℕ} {cur : Names} {m : Memory} {sum : List ℕ → ℕ → ℤ} {s : State} (ground : IsGround g) (h : AtHead g i cur m sum s) {k q : ℕ} {stops : StopList} {out : Lanes} {end : State} (within : i + k ≤ limit g) (holds : Holds (layout g) (setting g i k sum s.x stops) q out end) where
  -- what the lanes gave to accumulators
  pub given_right : GivenRight g i k out
  given_right x is e lt = let right = holds.sums x is in (right.alike e lt, right.typed e lt)

  iteration_is : x_at end 9 ≡ i
  iteration_is = holds.x 9 (λ e. absurd (omega (arith, e))) ∙ h.index

  -- the number of lanes, added to X9
  abbrev pub following : State
  following = advanced end (machine.sum (x_at end 9) k)

  moved_on : x_at following 9 ≡ i + k
  moved_on =
      get_or-set_same end.x 9 (machine.sum (x_at end 9) k) 0 (omega (arith, holds.is.x_count))
      ∙ ap (λ v. (v + k) % 2 ^ 64) iteration_is
      ∙ omega (arith, within, limit_below ground h)

  other_x : (r : ℕ) → r ≤ 25 → r ≢ 9 → x_at following r ≡ x_at s r
  other_x r le ne = get_or-set_other end.x 9 r (machine.sum (x_at end 9) k) 0 ne ∙ holds.x r (λ e. absurd (omega (arith, e, le)))

  held_following : (x : Operand) → (layout g).held x ≡ true → x ≢ LoopIndex → HeldAll g following x
  held_following x is ne =
      let now = holds.held x is in
      let old = h.held x is ne in
      record {
        right = λ a e lt. now.right a e lt ∙ ap (residue (width_bits (width g))) (outer_same g.names (i + e) 0 a x ne);
        typed = old.typed;
      }

  pub head_following : {names : Names} → Between g (i + k) names (sum_at (layout g) (setting g i k sum s.x stops) out) → AtHead g (i + k) names out.memory (sum_at (layout g) (setting g i k sum s.x stops) out) following
  head_following between = record {
    between = between;
    is = x_put end following 9 (machine.sum (x_at end 9) k) holds.is (wrapped (x_at end 9 + k)) refl;
    vl = holds.vl;
    memory = holds.memory;
    index = moved_on;
    x = λ r le ne. other_x r le ne ∙ h.x r le ne;
    all = holds.all;
    held = held_following;
    lanes = λ x is. (holds.sums x is).holds;
  }

  pub top_following : IsTop (width g) k (p_at following 0)
  top_following = holds.top

  pub held_index_following : IndexHeld g i following
  held_index_following is = (holds.held LoopIndex is).right blank
