-- Lanes that end well: the scalar loop has done their iterations.
use Rattle.std.proofs.Common.{◌≡◌, ℕ, ◌+◌, ◌<◌, ◌≤◌, ℤ, Bool, true, false, List, refl, sym, ap, ◌∙◌, subst}
use Rattle.std.specs.Prelude.{nat_lt, if◌then◌else◌}
use Rattle.std.specs.List.{list_any}
use Rattle.kernel_tree.specs.Typing.{var_scope}
use Rattle.kernel_meaning.specs.Ends.{LoopState, Going, Left, Failed}
use Rattle.kernel_meaning.specs.Eval.{Names, value_at, is_named}
use Rattle.kernel_meaning.specs.ScalarRun.{iterations}
use Rattle.kernel_meaning.proofs.Started.{started_names}
use Rattle.vector_order.specs.Orders.{Lanes, Fine, by_item}
use Rattle.vector_order.specs.Items.{acts_of}
use Rattle.vector_order.specs.Shares.{apply_lanes}
use Rattle.vector_order.specs.Order.{is_accumulator, Steady, EndsAlike, SameChunk}
use Rattle.vector_order.proofs.LoopHead.{started_accs, steady_accs}
use Rattle.lane_emit.specs.Folds.{after_all, given_to}
use Rattle.lane_emit.specs.Right.{IsOf}
use Rattle.lane_emit.specs.Joins.{joined}
use Rattle.chunk_emit.specs.Chunk.{Setting, sum_at}
use Rattle.chunk_emit.specs.Head.{Ground, IsGround, Between, SumSoFar, layout, most_lanes}
use Rattle.chunk_pass.specs.Chunks.{items_of, IsSetting, IsChunk, GivenRight, Done, FineIsDone}
use Rattle.chunk_pass.proofs.ChunkAccumulators.{sum_accumulator, unupdated}
use Rattle.chunk_pass.proofs.ChunkCourses.{chunk_same}
use Rattle.chunk_pass.proofs.ChunkShares.{is_for, items_nothing, lanes_still, steady_value}
use Rattle.chunk_pass.proofs.ChunkSums.{together_same, taking, taking_of, sum_after}
use Rattle.chunk_pass.proofs.ChunkUpdates.{none_added}

module _ (g : Ground) (f : Setting) (i k : ℕ) (cur : Names) (sum : List ℕ → ℕ → ℤ) (t out : Lanes) (is : IsGround g) (between : Between g i cur sum) (set : IsSetting g i k sum f) (chunk : IsChunk g i k t) (done : by_item (acts_of g.names (items_of g)) k i t ≡ Fine out) where
  -- what an element of an accumulator has taken in after the chunk
  sum_is : (x : List ℕ) (e : ℕ) → sum_at (layout g) f out x e ≡ taking ((layout g).update x) ((layout g).sum_type x) k (λ e. given_to x (out.lane (i + e)).shares) (sum x) e
  sum_is x e =
      let op = (layout g).update x in
      let ty = (layout g).sum_type x in
      ap (λ n. if nat_lt e n then after_all op ty (f.sum x e) (given_to x (out.lane (f.i + e)).shares) else f.sum x e) set.count
      ∙ ap (λ j. if nat_lt e k then after_all op ty (f.sum x e) (given_to x (out.lane (j + e)).shares) else f.sum x e) set.from
      ∙ ap (λ v. if nat_lt e k then after_all op ty v (given_to x (out.lane (i + e)).shares) else v) (set.sum x e)

  module _ (ns : Names) (names : ns ≡ apply_lanes k i out.lane cur) (steady : Steady g.kernel g.names ns) where
    -- an accumulator that the loop does not update, or another name
    still : (x : List ℕ) → (layout g).updated x ≡ false → value_at ns x ≡ value_at g.names x
    still x none = by (is_accumulator g.kernel x) refl
      where
        by : (b : Bool) → is_accumulator g.kernel x ≡ b → value_at ns x ≡ value_at g.names x
        by false e = steady_value x g.kernel g.names ns steady e
        by true e =
            let unadded = none_added x g.kernel g.for_loop is.loops (unupdated x g.kernel e none) in
            let nothing = λ (j : ℕ) (lo : i ≤ j) (hi : j < i + k). items_nothing x g.names (items_of g) k i j t out unadded done (ap (list_any (is_for x)) (chunk.fresh j lo hi)) in
            ap (λ ns. value_at ns x) names ∙ lanes_still x k i out.lane cur nothing ∙ between.still x none

    module _ (given : GivenRight g i k out) where
      sums : (x : List ℕ) → (layout g).updated x ≡ true → SumSoFar g x (value_at ns x) (sum_at (layout g) f out x)
      sums x updated =
          let op = (layout g).update x in
          let ty = (layout g).sum_type x in
          let gives = λ (e : ℕ). given_to x (out.lane (i + e)).shares in
          let before = between.sums x updated in
          let named : list_any (is_named x) cur ≡ true = steady_accs g.kernel g.names cur between.steady (started_accs g.kernel g.args g.names (started_names g.kernel g.args g.start g.names is.begins)) x (sum_accumulator x g.kernel updated) in
          record {
            typed = λ e lt. subst (λ v. IsOf ty v) (sym (sum_is x e)) (taking_of op ty k gives (sum x) e (before.typed e lt));
            first = before.first;
            now = ap (λ ns. value_at ns x) names
                ∙ sum_after op ty x (most_lanes g) k i out.lane cur (value_at g.names x) (sum x) chunk.few named before.first before.typed before.now (given x updated)
                ∙ ap (joined op ty (value_at g.names x)) (together_same op ty (most_lanes g) (taking op ty k gives (sum x)) (sum_at (layout g) f out x) (λ e lt. sym (sum_is x e)));
          }

      between_after : Between g (i + k) ns (sum_at (layout g) f out)
      between_after = record { within = chunk.within; steady = steady; still = still; sums = sums }

pub fine_is_done : FineIsDone
fine_is_done g f i k cur sum t out is between set chunk done given =
    by (iterations (var_scope g.kernel) g.for_loop k i t.memory cur) refl (subst (EndsAlike g.kernel g.names cur i k (iterations (var_scope g.kernel) g.for_loop k i t.memory cur)) done (same.same t chunk.fresh))
  where
    same : SameChunk g.kernel g.for_loop g.args g.names cur i k
    same = chunk_same g i k cur is between.steady chunk.few chunk.within

    by : (r : LoopState Names) → iterations (var_scope g.kernel) g.for_loop k i t.memory cur ≡ r → EndsAlike g.kernel g.names cur i k r (Fine out) → Done g f i k cur t.memory out
    by (Going m ns) e h = record { names = ns; goes = e ∙ ap (λ m. Going m ns) (sym h.0); between = between_after g f i k cur sum t out is between set chunk done ns h.1 h.2 given }
    by (Left m ns j) e h = elim h [ ]
    by (Failed m j) e h = elim h [ ]
