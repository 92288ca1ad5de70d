-- Where the class is Scalar, what holds within the bound that counts iterations holds within the two others.
use Rattle.std.proofs.Common.{◌≡◌, ℕ, ◌+◌, ◌*◌, ◌≤◌, List, length, arith}
use Rattle.std.proofs.Math.Nat.{mul-le-mul_right}
use Rattle.kernel_tree.specs.Plain.{Program}
use Rattle.kernel_tree.specs.Items.{size_of}
use Rattle.kernel_meaning.specs.ScalarRun.{begun, scalar_run}
use Rattle.dependence.specs.declared.reason.Class.TheVariants.{Scalar}
use Rattle.dependence.specs.declared.reason.Why.{Why}
use Rattle.dependence.specs.Bound.{steps_for}
use Rattle.dependence.specs.Classes.{class_of}
use Rattle.close_bound.specs.CloseBound.{iteration_steps, close_bound}
use Rattle.close_bound.proofs.CloseBounds.{outside_few}
use Rattle.label_fix.specs.DraftRun.{DraftEntry}
use Rattle.promises.specs.Faithful.{close_slow_steps, end_steps}
use Rattle.promises.proofs.ScalarFiles.{close_is}
use Rattle.kernel_compile.specs.Drafted.{FollowsAnywhere, AreDrafted, FollowsSlowly, FollowsClosely}

looser : (low high : Program → (args : List ℕ) (vl m q : ℕ) → ℕ) (k : Program) (entries : List DraftEntry) → ((args : List ℕ) (vl m q : ℕ) → low k args vl m q ≤ high k args vl m q) → FollowsAnywhere low k entries → FollowsAnywhere high k entries
looser low high k entries lower f base steps q args s given is few le =
    let h = lower args s.vl (begun (scalar_run k args s.memory)) q in
    f base steps q args s given is few (omega (arith, h, le))

slow_ends_within : (k : Program) (args : List ℕ) (vl m q : ℕ) → length k.params ≤ 8 → close_slow_steps k args vl m q ≤ end_steps k args vl m q
slow_ends_within k args vl m q params =
    let out = outside_few k params in
    let each : iteration_steps k * m ≤ (32 + 8 * size_of k) * 2 * m = mul-le-mul_right m (let f : iteration_steps k ≤ (32 + 8 * size_of k) * 2 = omega arith in f) in
    omega (arith, out, each)

pub slow_is_close : (k : Program) (words : List ℕ) (why : Why) → class_of k ≡ Scalar why → length k.params ≤ 8 → AreDrafted (FollowsSlowly k) words → AreDrafted (FollowsClosely k) words
slow_is_close k words why e params d = record {
  entries = d.entries;
  labels = d.labels;
  is = d.is;
  fit = d.fit;
  few = d.few;
  alone = d.alone;
  holds = (
    looser close_slow_steps close_bound k d.entries (λ args vl m q. let is = close_is k args vl m q why e in omega (arith, is)) d.holds,
    looser close_slow_steps end_steps k d.entries (λ args vl m q. slow_ends_within k args vl m q params) d.holds,
  );
}
