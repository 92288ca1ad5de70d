-- Where the class is Scalar, iterations are run one by one, and the two bounds are one.
use Rattle.std.proofs.Common.{◌≡◌, ℕ, ◌+◌, ◌≤◌, List, length, ap, ◌∙◌, arith}
use Rattle.std.specs.Prelude.{◌*◌, ◌&&◌, if◌then◌else◌}
use Rattle.std.specs.Int.{div_ceil}
use Rattle.guest_types.specs.Length.{lanes}
use Rattle.guest_types.specs.Memory.{merged}
use Rattle.kernel_tree.specs.Plain.{Program}
use Rattle.kernel_meaning.specs.ScalarRun.{begun, scalar_run}
use Rattle.loop_form.specs.Lanes.{lane_width_of}
use Rattle.dependence.specs.declared.reason.Class.TheVariants.{Scalar}
use Rattle.dependence.specs.declared.reason.Why.{Why}
use Rattle.dependence.specs.Classes.{class_of}
use Rattle.dependence.specs.Bound.{is_apart, is_vector, at_once, steps_for, free_bound, slow_bound}
use Rattle.dependence.proofs.Bounds as bounds
use Rattle.machine_model.specs.Run.{free_start, suppressed}
use Rattle.close_bound.specs.CloseBound.{outside_steps, loop_steps, close_bound}
use Rattle.close_bound.proofs.CloseBounds as closes
use Rattle.promises.specs.Faithful.{IsAny, FreeFaithful, FreeSlowFaithful, CloseFaithful, CloseSlowFaithful, slow_steps, close_slow_steps}
use Rattle.promises.proofs.Promises.{looser}

one_at_once : (k : Program) (args : List ℕ) (vl : ℕ) (why : Why) → class_of k ≡ Scalar why → at_once k args vl ≡ 1
one_at_once k args vl why e = ap (λ c. if is_vector c && is_apart k args then lanes vl (lane_width_of k) else 1) e

one_each : (m : ℕ) → div_ceil m 1 ≡ m
one_each m = omega arith

plus_four_times_none : (n : ℕ) → n + 4 * 0 ≡ n
plus_four_times_none n = omega arith

same_bound : (k : Program) (args : List ℕ) (vl m : ℕ) (why : Why) → class_of k ≡ Scalar why → free_bound k args vl m 0 ≡ slow_bound k m
same_bound k args vl m why e = ap (λ n. steps_for k (div_ceil m n + 2 + 4 * 0)) (one_at_once k args vl why e) ∙ ap (λ n. steps_for k (n + 2 + 4 * 0)) (one_each m) ∙ ap (steps_for k) (plus_four_times_none (m + 2))

pub scalar_free : (k : Program) (file : List ℕ) (why : Why) → class_of k ≡ Scalar why → FreeSlowFaithful k file → FreeFaithful k file
scalar_free k file why e f = record {
  image = f.image;
  loaded = f.loaded;
  runs = λ args pages vl stops steps begins any le.
      f.runs args pages vl stops steps begins any
      (let m = begun (scalar_run k args (merged f.image.pages pages)) in
      let b = same_bound k args vl m why e in
      let n = bounds.free_bound_of_none k args vl m in
      let h = bounds.free k args vl m (suppressed steps (free_start f.image args pages vl stops)) in
      omega (arith, b, n, h, le));
}

-- ---- the close bound

pub close_is : (k : Program) (args : List ℕ) (vl m q : ℕ) (why : Why) → class_of k ≡ Scalar why → close_bound k args vl m q ≡ close_slow_steps k args vl m q
close_is k args vl m q why e = ap (λ c. outside_steps k + loop_steps (is_vector c && is_apart k args) k (lanes vl (lane_width_of k)) m q) e

pub scalar_close : (k : Program) (file : List ℕ) (why : Why) → class_of k ≡ Scalar why → CloseSlowFaithful k file → CloseFaithful k file
scalar_close k file why e f = looser close_slow_steps close_bound IsAny k file (λ args vl m q. (let is = close_is k args vl m q why e in omega (arith, is))) f

pub scalar_slow : (k : Program) (file : List ℕ) (why : Why) → class_of k ≡ Scalar why → length k.params ≤ 8 → CloseSlowFaithful k file → FreeSlowFaithful k file
scalar_slow k file why e few f =
    looser close_slow_steps slow_steps IsAny k file
    (λ args vl m q. (let is = close_is k args vl m 0 why e in let le = closes.close k args vl m 0 few in let same = same_bound k args vl m why e in omega (arith, is, le, same))) f
