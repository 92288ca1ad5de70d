-- The written register of a bank stays zero past the vector length.
use Rattle.std.proofs.Common.{◌≡◌, ◌≢◌, ℕ, ◌-◌, ◌*◌, ◌/◌, ◌<◌, List, [], length, drop, replicate, ap, ◌∙◌, arith}
use Rattle.std.specs.Prelude.{slice_set}
use Rattle.std.proofs.lemmas.List.{drop_at, drop-replicate, get_or-replicate, get_or-set_same, get_or-set_other}
use Rattle.guest_types.specs.declared.length.Width.{Width}
use Rattle.guest_types.specs.declared.register.ZReg.{ZReg}
use Rattle.guest_types.specs.Length.{IsLength, width_bytes, lanes}
use Rattle.guest_types.specs.Elements.{elements, register}
use Rattle.guest_types.proofs.Registers.{length-elements}
use Rattle.guest_types.proofs.AtWidths.{width_bytes-lanes}
use Rattle.lane_blocks.specs.Banks.{bytes_at, with_elements, EndsAt}

pub ends_made : (vl d : ℕ) (w : Width) (f : ℕ → ℕ) (old now : List ZReg) → IsLength vl → d < length old → now ≡ with_elements old d w f (lanes vl w) → EndsAt vl (bytes_at now d)
ends_made vl d w f old now valid inside e =
    let k = width_bytes w in
    let n = lanes vl w in
    let made : ZReg = record { bytes = register k f n } in
    let size : k * n ≡ vl / 8 = width_bytes-lanes vl w valid in
    let there : bytes_at now d ≡ register k f n = ap (λ zs. bytes_at zs d) e ∙ ap (λ (z : ZReg). z.bytes) (get_or-set_same old d made (record { bytes = [] }) inside) in
    ap (drop (vl / 8)) there ∙ drop_at (elements k f n) (replicate (256 - k * n) 0) (vl / 8) (length-elements k f n ∙ size) ∙ ap (λ b. replicate {A = ℕ} (256 - b) 0) size

-- it is not one that is read
pub ends_kept : (vl n : ℕ) (z : ZReg) (zs : List ZReg) → 0 < n → EndsAt vl (bytes_at zs 0) → EndsAt vl (bytes_at (slice_set zs n z) 0)
ends_kept vl n z zs some h =
    let apart : 0 ≢ n = λ e. omega (arith, e, some) in
    ap (λ (r : ZReg). drop (vl / 8) r.bytes) (get_or-set_other zs n 0 z (record { bytes = [] }) apart) ∙ h

pub ends_begun : (vl : ℕ) → EndsAt vl (bytes_at (replicate {A = ZReg} 32 (record { bytes = replicate {A = ℕ} 256 0 })) 0)
ends_begun vl =
    ap (λ (r : ZReg). drop (vl / 8) r.bytes) (get_or-replicate {A = ZReg} 32 0 (record { bytes = replicate {A = ℕ} 256 0 }) (record { bytes = [] }) (omega arith))
    ∙ drop-replicate {X = ℕ} (vl / 8) 256 0
