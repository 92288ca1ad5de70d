-- A number with the 16 bits of one of its quarters replaced, as it is computed.
use Rattle.std.proofs.Common.{◌≡◌, ℕ, ◌+◌, ◌*◌, ◌/◌, ◌%◌, ◌^◌, ◌<◌, sym, ap, ◌∙◌, arith}
use Rattle.machine_model.specs.Arithmetic.{replaced}

pub in_zero : (v m imm hw : ℕ) → m ≡ imm → hw ≡ 0 → v / 0x10000 * 0x10000 + m ≡ replaced v (16 * hw) imm
in_zero v m imm hw e z = let here : v / 0x10000 * 0x10000 + m ≡ replaced v 0 imm = omega (arith, e) in here ∙ ap (λ k. replaced v (16 * k) imm) (sym z)

pub in_one : (v m imm hw : ℕ) → m ≡ imm → hw ≡ 1
    → v / 0x100000000 * 0x100000000 + m * 0x10000 + v % 0x10000 ≡ replaced v (16 * hw) imm
in_one v m imm hw e z =
    let here : v / 0x100000000 * 0x100000000 + m * 0x10000 + v % 0x10000 ≡ replaced v 16 imm = omega (arith, e) in
    here ∙ ap (λ k. replaced v (16 * k) imm) (sym z)

pub in_two : (v m imm hw : ℕ) → m ≡ imm → hw ≡ 2
    → v / 0x1000000000000 * 0x1000000000000 + m * 0x100000000 + v % 0x100000000 ≡ replaced v (16 * hw) imm
in_two v m imm hw e z =
    let here : v / 0x1000000000000 * 0x1000000000000 + m * 0x100000000 + v % 0x100000000 ≡ replaced v 32 imm = omega (arith, e) in
    here ∙ ap (λ k. replaced v (16 * k) imm) (sym z)

pub in_rest : (v m imm hw : ℕ) → v < 2 ^ 64 → m ≡ imm → hw < 4 → (hw ≡ 0 → ⊥) → (hw ≡ 1 → ⊥) → (hw ≡ 2 → ⊥)
    → m * 0x1000000000000 + v % 0x1000000000000 ≡ replaced v (16 * hw) imm
in_rest v m imm hw small e below not_zero not_one not_two =
    let z : hw ≡ 3 = omega (arith, below, not_zero, not_one, not_two) in
    let here : m * 0x1000000000000 + v % 0x1000000000000 ≡ replaced v 48 imm = omega (arith, small, e) in
    here ∙ ap (λ k. replaced v (16 * k) imm) (sym z)
