-- The definitions at values worked out by hand.
use Rattle.std.proofs.Common.{◌≡◌, ℕ, [], ◌∷◌, true, false, replicate, refl, Some, None}
use Rattle.guest_types.specs.declared.length.Width.TheVariants.{H, S}
use Rattle.guest_types.specs.declared.operation.LaneCompare.TheVariants.{Hi, Gt}
use Rattle.guest_types.specs.Elements.{elements, bits_of}
use Rattle.guest_types.specs.Lanes.{folded}
use Rattle.lane_preds.specs.Bits.{starts, first_set, last_set, nonzero_bytes, bit_count, flags_of, compare_bits_of}

element_starts_at_8 : starts 4 8 ≡ true
element_starts_at_8 = refl

begins_not : starts 4 6 ≡ false
begins_not = refl

first_of_two : first_set (0 ∷ 6 ∷ replicate 30 0) ≡ Some 9
unfolding first_set
first_of_two = refl

last_of_two : last_set (0 ∷ 6 ∷ replicate 30 0) ≡ Some 10
unfolding last_set
last_of_two = refl

nowhere : first_set (replicate 32 0) ≡ None
unfolding first_set
nowhere = refl

which_bytes : nonzero_bytes (0 ∷ 6 ∷ 0 ∷ 1 ∷ []) ≡ 10
which_bytes = refl

nine_bits : bit_count (255 ∷ 1 ∷ replicate 30 0) ≡ 9
unfolding folded
nine_bits = refl

flag_a_word : flags_of Hi S (replicate {A = ℕ} 32 2) (replicate {A = ℕ} 32 1) ≡ 1 ∷ 0 ∷ 0 ∷ 0 ∷ 1 ∷ 0 ∷ 0 ∷ 0 ∷ 1 ∷ 0 ∷ 0 ∷ 0 ∷ 1 ∷ 0 ∷ 0 ∷ 0 ∷ 1 ∷ 0 ∷ 0 ∷ 0 ∷ 1 ∷ 0 ∷ 0 ∷ 0 ∷ 1 ∷ 0 ∷ 0 ∷ 0 ∷ 1 ∷ 0 ∷ 0 ∷ 0 ∷ []
unfolding elements
flag_a_word = refl

-- under a mask of elements 0 and 2 of two bytes; every first operand is -1 and every second 0
masked_halves : compare_bits_of Hi H (17 ∷ 0 ∷ 0 ∷ 0 ∷ []) (replicate {A = ℕ} 32 255) (replicate {A = ℕ} 32 0) ≡ 17 ∷ 0 ∷ 0 ∷ 0 ∷ []
unfolding bits_of
masked_halves = refl

signed_halves : compare_bits_of Gt H (17 ∷ 0 ∷ 0 ∷ 0 ∷ []) (replicate {A = ℕ} 32 255) (replicate {A = ℕ} 32 0) ≡ replicate 4 0
unfolding bits_of
signed_halves = refl
