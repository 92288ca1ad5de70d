-- Predicates of which every bit is looked at, and what a comparison gives for one block of 32 bytes.
use Rattle.std.specs.Prelude.{ℕ, ◌/◌, ◌%◌, List, Bool, not, ◌&&◌, map, nat_eq, cond, bit_and, Option}
use lib.Lanes.{mask_l, zip2}
use Rattle.guest_types.specs.declared.length.Width.{Width}
use Rattle.guest_types.specs.declared.operation.LaneCompare.{LaneCompare}
use Rattle.guest_types.specs.Length.{width_bytes, modulus}
use Rattle.guest_types.specs.Elements.{at, bit, bits_of, elements, first_true, last_true}
use Rattle.guest_types.specs.Lanes.{is_true, folded, plus}
use Rattle.lane_blocks.specs.Blocks.{block_lanes}

-- an element of k bytes has its bit here
abbrev pub starts : ℕ → ℕ → Bool
starts k j = nat_eq (j % k) 0

-- the bits that two predicates have in common
abbrev pub both_of : List ℕ → List ℕ → List ℕ
both_of p q = zip2 bit_and p q

-- the places of the lowest and of the highest bit that is set
unfoldable pub first_set : List ℕ → Option ℕ
first_set p = first_true (bit p) 256 0

unfoldable pub last_set : List ℕ → Option ℕ
last_set p = last_true (bit p) 256

-- which bytes are not 0, as the bits of a number
abbrev pub is_nonzero : ℕ → Bool
is_nonzero b = not (nat_eq b 0)

abbrev pub nonzero_bytes : List ℕ → ℕ
nonzero_bytes p = mask_l (map is_nonzero p)

-- a bit as a number
abbrev pub bit_number : List ℕ → ℕ → ℕ
bit_number p j = cond (bit p j) 1 0

-- how many bits are set
abbrev pub bit_count : List ℕ → ℕ
bit_count p = folded plus 0 (bit_number p) 256

-- 1 in the elements where the comparison holds, and 0 elsewhere
abbrev pub flag_at : LaneCompare → Width → List ℕ → List ℕ → ℕ → ℕ
flag_at op w a b e = cond (is_true op (modulus w) (at w a e) (at w b e)) 1 0

abbrev pub flags_of : LaneCompare → Width → List ℕ → List ℕ → List ℕ
flags_of op w a b = elements (width_bytes w) (flag_at op w a b) (block_lanes w)

-- bit j of the comparison of two blocks under the mask p
abbrev pub compare_bit : LaneCompare → Width → List ℕ → List ℕ → List ℕ → ℕ → Bool
compare_bit op w p a b j =
    starts (width_bytes w) j && bit p j && is_true op (modulus w) (at w a (j / width_bytes w)) (at w b (j / width_bytes w))

abbrev pub compare_bits_of : LaneCompare → Width → List ℕ → List ℕ → List ℕ → List ℕ
compare_bits_of op w p a b = bits_of (compare_bit op w p a b) 4
