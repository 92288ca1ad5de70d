-- The definitions at values worked out by hand.
use Rattle.std.proofs.Common.{◌≡◌, ℕ, ◌++◌, [], ◌∷◌, replicate, refl}
use Rattle.guest_types.specs.declared.length.Width.TheVariants.{S}
use Rattle.guest_types.specs.Elements.{elements, bits_of}
use Rattle.lane_blocks.specs.Blocks.{block_of, with_block, cleared_above, with_mask, choose_of, spread_of, below_of}

second_block : block_of (replicate {A = ℕ} 32 1 ++ replicate {A = ℕ} 32 2) 1 ≡ replicate 32 2
second_block = refl

puts_the_second : with_block (replicate {A = ℕ} 96 0) 1 (replicate {A = ℕ} 32 5) ≡ replicate {A = ℕ} 32 0 ++ (replicate {A = ℕ} 32 5 ++ replicate {A = ℕ} 32 0)
puts_the_second = refl

clears : cleared_above (replicate {A = ℕ} 256 1) 2 ≡ 1 ∷ 1 ∷ replicate 254 0
clears = refl

puts_a_mask : with_mask (replicate {A = ℕ} 12 0) 1 (1 ∷ 2 ∷ 3 ∷ 4 ∷ []) ≡ 0 ∷ 0 ∷ 0 ∷ 0 ∷ 1 ∷ 2 ∷ 3 ∷ 4 ∷ 0 ∷ 0 ∷ 0 ∷ 0 ∷ []
puts_a_mask = refl

-- the predicate bit of the second element of four bytes is bit 4
chooses_the_second : choose_of S (16 ∷ 0 ∷ 0 ∷ 0 ∷ []) (replicate {A = ℕ} 32 1) (replicate {A = ℕ} 32 2) ≡ replicate {A = ℕ} 4 2 ++ (replicate {A = ℕ} 4 1 ++ replicate {A = ℕ} 24 2)
unfolding elements
chooses_the_second = refl

spreads : spread_of (5 ∷ 0 ∷ 0 ∷ 128 ∷ []) ≡ 1 ∷ 0 ∷ 1 ∷ (replicate {A = ℕ} 28 0 ++ 1 ∷ [])
unfolding elements
spreads = refl

twelve_bits : below_of (replicate {A = ℕ} 32 255) 12 ≡ 255 ∷ 15 ∷ replicate 30 0
unfolding bits_of
twelve_bits = refl
