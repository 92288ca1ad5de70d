-- The definitions at values worked out by hand.
use Rattle.std.proofs.Common.{◌≡◌, ℕ, ◌-◌, ◌^◌, ◌++◌, [], ◌∷◌, replicate, refl}
use Rattle.guest_types.specs.declared.length.Width.TheVariants.{B, H, D}
use Rattle.guest_types.specs.declared.operation.LaneOp.TheVariants.{Add, SMax}
use Rattle.guest_types.specs.declared.operation.LaneUnary.TheVariants.{Neg}
use Rattle.guest_types.specs.declared.operation.ReduceOp.TheVariants.{UAdd}
use Rattle.guest_types.specs.declared.operation.ShiftOp.TheVariants.{Asr}
use Rattle.guest_types.specs.Elements.{elements}
use Rattle.guest_types.specs.Lanes.{folded}
use Rattle.lane_arith.specs.Blocks.{binary_block_of, shift_block_of, merge_block_of, merge_one_block_of, dup_block_of, index_block_of, block_fold, sum_step_of, fold_step_of}

-- a sum of bytes stays in its byte
adds_bytes : binary_block_of Add B (replicate {A = ℕ} 32 255) (replicate {A = ℕ} 32 2) ≡ replicate 32 1
unfolding elements
adds_bytes = refl

shifts_halves : shift_block_of Asr H (replicate {A = ℕ} 32 128) 16 ≡ replicate 32 255
unfolding elements
shifts_halves = refl

-- only the first element is active
merges_the_first : merge_block_of Add D (1 ∷ 0 ∷ 0 ∷ 0 ∷ []) (replicate {A = ℕ} 32 1) (replicate {A = ℕ} 32 2) ≡ replicate {A = ℕ} 8 3 ++ replicate {A = ℕ} 24 1
unfolding elements
merges_the_first = refl

negates_the_last : merge_one_block_of Neg B (0 ∷ 0 ∷ 0 ∷ 128 ∷ []) (replicate {A = ℕ} 32 7) (replicate {A = ℕ} 32 1) ≡ replicate {A = ℕ} 31 7 ++ 255 ∷ []
unfolding elements
negates_the_last = refl

lowest_bits : dup_block_of B 0x1234 ≡ replicate 32 0x34
unfolding elements
lowest_bits = refl

-- 1, 0, -1, -2 in doublewords
counts_down : index_block_of D 1 (2 ^ 64 - 1) ≡ 1 ∷ (replicate {A = ℕ} 15 0 ++ (replicate {A = ℕ} 8 255 ++ 254 ∷ replicate 7 255))
unfolding elements
counts_down = refl

-- a sum of bytes is wider than a byte
sums_wide : block_fold UAdd B (replicate {A = ℕ} 32 255) ≡ 8160
unfolding folded
sums_wide = refl

sums_two : sum_step_of B (5 ∷ 0 ∷ 0 ∷ 0 ∷ []) (replicate {A = ℕ} 32 255) (replicate {A = ℕ} 32 0) ≡ 510
unfolding folded
sums_two = refl

-- 0x7F is the greatest byte, and only the second element is active
joins_the_second : fold_step_of SMax B (2 ∷ 0 ∷ 0 ∷ 0 ∷ []) (replicate {A = ℕ} 32 128) (replicate {A = ℕ} 32 127) (replicate {A = ℕ} 32 128) ≡ 128 ∷ 127 ∷ replicate 30 128
unfolding elements
joins_the_second = refl
