-- A store of an element writes what a store of its value writes.
use Rattle.std.proofs.Common.{◌≡◌, ℕ, zero, suc, ◌+◌, ◌-◌, ◌*◌, ◌/◌, ◌%◌, ◌^◌, ◌<◌, ◌≤◌, ℤ, true, Some, None, Result, Ok, Err, refl, sym, ap, ◌∙◌, arith}
use Rattle.std.proofs.Math.Nat.{pow-suc, one-le-pow}
use Rattle.std.proofs.Math.Pow.{mod-mod-pow}
use lib.Arith.{mod-mul}
use Rattle.guest_types.specs.declared.length.Width.{Width}
use Rattle.guest_types.specs.declared.memory.AccessFault.{AccessFault}
use Rattle.guest_types.specs.Length.{width_bits}
use Rattle.guest_types.specs.Memory.{Memory, put_byte, put_number, next_address, can_write, first_fault, stored}
use Rattle.guest_types.proofs.Shifts.{modulus-power}
use Rattle.kernel_tree.specs.declared.ops.Ty.{Ty}
use Rattle.kernel_tree.specs.Wrap.{bits_of, byte_count}
use Rattle.kernel_meaning.specs.Operators.{word}
use Rattle.lane_emit.proofs.Residues.{held, held-word}
use Rattle.chunk_emit.proofs.LoadForms.{bytes_power}

put_number-low : (n : ℕ) (m : Memory) (a u v : ℕ) → u % 256 ^ n ≡ v % 256 ^ n → put_number m a n u ≡ put_number m a n v
put_number-low zero m a u v h = refl
put_number-low (suc n) m a u v h =
    let some : 0 < 256 ^ n = omega (arith, one-le-pow n 256 (omega arith)) in
    let cut : (x : ℕ) → x % 256 ^ suc n ≡ (x / 256 % 256 ^ n) * 256 + x % 256 = λ x. ap (λ k. x % k) (pow-suc 256 n) ∙ mod-mul x {m = 256 ^ n} {c = 256} some (omega arith) in
    let e : (u / 256 % 256 ^ n) * 256 + u % 256 ≡ (v / 256 % 256 ^ n) * 256 + v % 256 = sym (cut u) ∙ h ∙ cut v in
    let low : u % 256 ≡ v % 256 = omega (arith, e) in
    let high : u / 256 % 256 ^ n ≡ v / 256 % 256 ^ n = omega (arith, e) in
    ap (λ b. put_number (put_byte m a b) (next_address a) n (u / 256)) low ∙ put_number-low n (put_byte m a (v % 256)) (next_address a) (u / 256) (v / 256) high

stored-low : (m : Memory) (a n u v : ℕ) → u % 256 ^ n ≡ v % 256 ^ n → stored m a n u ≡ stored m a n v
stored-low m a n u v h = ap (λ x. elim (first_fault (can_write m) a n) as (λ _. Result Memory AccessFault) [ None ↦ Ok x | Some fault ↦ Err (record { address = fault; write = true }) ]) (put_number-low n m a u v h)

-- the low bytes of an element are those of its value
pub stored-held : (t : Ty) (w : Width) (m : Memory) (a : ℕ) (z : ℤ) → bits_of t ≤ width_bits w → stored m a (byte_count t) (word z) ≡ stored m a (byte_count t) (held w z)
stored-held t w m a z le =
    let k = width_bits w - bits_of t in
    let split : width_bits w ≡ k + bits_of t = omega (arith, le) in
    let low : held w z % 2 ^ bits_of t ≡ word z % 2 ^ bits_of t =
    ap (λ x. x % 2 ^ bits_of t) (held-word w z ∙ ap (λ x. word z % x) (modulus-power w ∙ ap (λ x. 2 ^ x) split)) ∙ mod-mod-pow (word z) k (bits_of t) in
    stored-low m a (byte_count t) (word z) (held w z) (ap (λ x. word z % x) (bytes_power t) ∙ sym low ∙ ap (λ x. held w z % x) (sym (bytes_power t)))
