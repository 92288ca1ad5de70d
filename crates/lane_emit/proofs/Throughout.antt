-- Values that are held throughout, in every lane.
use Rattle.std.proofs.Common.{◌≡◌, ℕ, ◌+◌, ◌*◌, ◌%◌, ◌^◌, ◌<◌, ℤ, pos, refl, sym, ap, ◌∙◌, arith}
use Rattle.guest_types.specs.declared.length.Width.{Width}
use Rattle.guest_types.specs.declared.length.Width.TheVariants.{D}
use Rattle.guest_types.specs.Length.{modulus, lanes}
use Rattle.guest_types.specs.Lanes.{dup_at, index_at}
use Rattle.guest_types.proofs.AtWidths.{at-register}
use Rattle.kernel_meaning.specs.Operators.{word}
use Rattle.machine_model.specs.Machine.{State, x_at, x_or_sp}
use Rattle.machine_model.specs.States.{IsState}
use Rattle.machine_model.specs.VectorEffects.{put_lanes}
use Rattle.machine_model.proofs.StateLaws.{x_or_sp-below}
use Rattle.lane_emit.specs.Stretch.{MakesZ}
use Rattle.lane_emit.specs.LaneCode.{dup_code, index_code}
use Rattle.lane_emit.proofs.Residues.{held-word}
use Rattle.lane_emit.proofs.Stretches.{width-size, done_z, first_z}

-- a value in every lane, from a general register that holds its word
pub dup_z : {s : State} (w : Width) (d x : ℕ) (v : ℤ) → IsState s → d < 32 → x < 31 → x_at s x ≡ word v → MakesZ (dup_code w d x) s d w (lanes s.vl w) (λ e. v)
dup_z {s = s} w d x v h ld lx is =
    first_z w w (dup_at (x_or_sp s x)) (λ e. v) h ld (ap (λ k. put_lanes s d k (dup_at (x_or_sp s x))) (width-size w))
    (λ e lt. at-register w (dup_at (x_or_sp s x)) (lanes s.vl w) e lt ∙ ap (λ n. n % modulus w) (x_or_sp-below s x lx ∙ is) ∙ sym (held-word w v))
    (λ t is only here. done_z is here)

-- the numbers from that of a general register on, modulo 2^64
pub index_z : {s : State} (d x i : ℕ) → IsState s → d < 32 → x_at s x ≡ i → MakesZ (index_code d x) s d D (lanes s.vl D) (λ e. pos (i + e))
index_z {s = s} d x i h ld is =
    first_z D D (index_at (x_at s x) 1) (λ e. pos (i + e)) h ld refl
    (λ e lt. at-register D (index_at (x_at s x) 1) (lanes s.vl D) e lt ∙ ap (λ m. (m + e * 1) % 2 ^ 64) is ∙ ap (λ m. (i + m) % 2 ^ 64) (let one : e * 1 ≡ e = omega arith in one))
    (λ t is only here. done_z is here)
