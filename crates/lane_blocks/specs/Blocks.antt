-- Blocks of 32 bytes: the part of a vector register that a kernel works on at once, and the four bytes of a predicate that
-- govern it.
use Rattle.std.specs.Prelude.{ℕ, ◌*◌, ◌-◌, ◌%◌, List, ◌++◌, Bool, ◌&&◌, take, drop, cond, nat_eq, nat_lt}
use lib.ListN.{replicate}
use lib.Lanes.{chunk}
use Rattle.guest_types.specs.declared.length.Width.{Width}
use Rattle.guest_types.specs.declared.length.Width.TheVariants.{B, H, S, D}
use Rattle.guest_types.specs.Length.{width_bytes}
use Rattle.guest_types.specs.Elements.{at, bit, bits_of, elements}

-- how many elements a block has
abbrev pub block_lanes : Width → ℕ
block_lanes B = 32
block_lanes H = 16
block_lanes S = 8
block_lanes D = 4

-- block i of a register
abbrev pub block_of : List ℕ → ℕ → List ℕ
block_of z i = chunk (32 * i) 32 z

-- z with block i replaced
abbrev pub with_block : List ℕ → ℕ → List ℕ → List ℕ
with_block z i block = take (32 * i) z ++ (block ++ drop 32 (drop (32 * i) z))

-- z with every byte zero from byte n on
abbrev pub cleared_above : List ℕ → ℕ → List ℕ
cleared_above z n = take n z ++ replicate (256 - n) 0

-- z with the 16 bytes from byte n on zero where n is the middle of a block
abbrev pub cleared_half : List ℕ → ℕ → List ℕ
cleared_half z n = cond (nat_eq (n % 32) 0) z (take n z ++ (replicate 16 0 ++ drop 16 (drop n z)))

-- the bits of block i in a predicate
abbrev pub mask_of : List ℕ → ℕ → List ℕ
mask_of p i = chunk (4 * i) 4 p

-- the predicate p with the bits of block i replaced
abbrev pub with_mask : List ℕ → ℕ → List ℕ → List ℕ
with_mask p i bits = take (4 * i) p ++ (bits ++ drop 4 (drop (4 * i) p))

-- each bit as a byte that is 1 or 0
abbrev pub bit_byte : List ℕ → ℕ → ℕ
bit_byte p j = cond (bit p j) 1 0

abbrev pub spread_of : List ℕ → List ℕ
spread_of p = elements 1 (bit_byte p) 32

-- the elements of the one block at which the predicate is true, and those of the other elsewhere
abbrev pub choose_at : Width → List ℕ → List ℕ → List ℕ → ℕ → ℕ
choose_at w p chosen other e = cond (bit p (width_bytes w * e)) (at w chosen e) (at w other e)

abbrev pub choose_of : Width → List ℕ → List ℕ → List ℕ → List ℕ
choose_of w p chosen other = elements (width_bytes w) (choose_at w p chosen other) (block_lanes w)

-- the bits below a limit
abbrev pub is_below : ℕ → ℕ → Bool
is_below limit j = nat_lt j limit

-- those of a predicate
abbrev pub bit_below : List ℕ → ℕ → ℕ → Bool
bit_below p limit j = bit p j && nat_lt j limit

abbrev pub below_of : List ℕ → ℕ → List ℕ
below_of p limit = bits_of (bit_below p limit) 32
