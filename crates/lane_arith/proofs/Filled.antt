-- Elements that are made from numbers, of which only the lowest bits count.
use Rattle.std.proofs.Common.{◌≡◌, ℕ, zero, suc, ◌+◌, ◌*◌, ◌%◌, ◌^◌, ◌<◌, ◌++◌, refl, sym, ap, ap₂, ◌∙◌, arith}
use Rattle.std.proofs.lemmas.Nat.{mul-mod}
use Rattle.std.proofs.Math.Nat.{mod-mod, add-mod, add-mod-mod, add-mul, add_comm}
use Rattle.guest_types.specs.declared.length.Width.{Width}
use Rattle.guest_types.specs.declared.length.Width.TheVariants.{B}
use Rattle.guest_types.specs.Length.{width_bytes, modulus}
use Rattle.guest_types.specs.Elements.{elements, bytes_of}
use Rattle.guest_types.specs.Lanes.{index_at}
use Rattle.guest_types.proofs.Registers.{elements-ext}
use Rattle.guest_types.proofs.Numbers.{bytes_of-mod}
use Rattle.guest_types.proofs.Widths.{modulus-is}
use Rattle.lane_blocks.specs.Blocks.{block_lanes}
use Rattle.lane_arith.specs.Blocks.{index_block_of}

-- only the lowest bits of an element count
pub elements-mod : (w : Width) (f : ℕ → ℕ) (n : ℕ) → elements (width_bytes w) (λ e. f e % modulus w) n ≡ elements (width_bytes w) f n
unfolding elements
elements-mod w f zero = refl
elements-mod w f (suc n) =
    ap₂ ◌++◌ (elements-mod w f n) (ap (λ m. bytes_of (width_bytes w) (f n % m)) (modulus-is w) ∙ bytes_of-mod (width_bytes w) (f n))

pub elements-same : (w : Width) (f g : ℕ → ℕ) (n : ℕ) → ((e : ℕ) → e < n → f e % modulus w ≡ g e % modulus w) → elements (width_bytes w) f n ≡ elements (width_bytes w) g n
elements-same w f g n same =
    sym (elements-mod w f n) ∙ elements-ext (width_bytes w) (λ e. f e % modulus w) (λ e. g e % modulus w) n same ∙ elements-mod w g n

-- the element of a vector that counts
pub ramp_residue : (m from by e : ℕ) → (e * (by % m) % m + from % m) % m ≡ (from + e * by) % m
ramp_residue m from by e =
    let product : e * (by % m) % m ≡ e * by % m = mul-mod e (by % m) m ∙ ap (λ b. e % m * b % m) (mod-mod by m) ∙ sym (mul-mod e by m) in
    ap (λ n. (n + from % m) % m) product ∙ sym (add-mod (e * by) from m) ∙ ap (λ n. n % m) (add_comm (e * by) from)

pub counted_whole : (m from by e : ℕ) → (e * by % m + from) % m ≡ (from + e * by) % m
counted_whole m from by e = ap (λ n. n % m) (add_comm (e * by % m) from) ∙ add-mod-mod from (e * by) m

-- an element counted from the start of block i
wrapped : (w : Width) (from p q : ℕ) → ((from + p % 2 ^ 64) % 2 ^ 64 + q) % modulus w ≡ (from + (p + q)) % modulus w
wrapped B from p q = omega arith
wrapped other from p q = omega arith

pub block-index : (w : Width) (from by i start : ℕ) → start ≡ (from + block_lanes w * i * by % 2 ^ 64) % 2 ^ 64 → index_block_of w start by ≡ elements (width_bytes w) (λ e. index_at from by (block_lanes w * i + e)) (block_lanes w)
block-index w from by i start is =
    elements-same w (index_at start by) (λ e. index_at from by (block_lanes w * i + e)) (block_lanes w) (λ e l.
    ap (λ s. (s + e * by) % modulus w) is ∙ wrapped w from (block_lanes w * i * by) (e * by)
    ∙ ap (λ n. (from + n) % modulus w) (sym (add-mul (block_lanes w * i) e by)))
