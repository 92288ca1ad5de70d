-- The measures of walks over trees: so many steps for each level of depth, and each call takes fewer. `four_2_to_1` is
-- the call from the second of four steps to the first, at what is as deep or, of two, at the left or the right one.
use Rattle.std.proofs.Common.{◌≡◌, ℕ, ◌+◌, ◌*◌, ◌<◌, ◌≤◌, ap, arith}
use Rattle.std.specs.Prelude.{max}
use Rattle.kernel_tree.specs.Plain.{Term, Action, Choose, Block, Then, Else}
use Rattle.kernel_tree.specs.Limits.{action_depth, block_depth}

pub four_1_to_0 : (t d : ℕ) → 4 * d + 1 ≡ t → 4 * d < t
four_1_to_0 t d h = omega arith

pub four_2_to_0 : (t d : ℕ) → 4 * d + 2 ≡ t → 4 * d < t
four_2_to_0 t d h = omega arith

pub four_2_to_1 : (t d : ℕ) → 4 * d + 2 ≡ t → 4 * d + 1 < t
four_2_to_1 t d h = omega arith

pub four_3_to_2 : (t d : ℕ) → 4 * d + 3 ≡ t → 4 * d + 2 < t
four_3_to_2 t d h = omega arith

pub four_2_to_left_0 : (t d e : ℕ) → 4 * max d e + 2 ≡ t → 4 * d < t
four_2_to_left_0 t d e h = omega arith

pub four_2_to_right_0 : (t d e : ℕ) → 4 * max d e + 2 ≡ t → 4 * e < t
four_2_to_right_0 t d e h = omega arith

pub four_2_to_left_1 : (t d e : ℕ) → 4 * max d e + 2 ≡ t → 4 * d + 1 < t
four_2_to_left_1 t d e h = omega arith

pub four_2_to_right_1 : (t d e : ℕ) → 4 * max d e + 2 ≡ t → 4 * e + 1 < t
four_2_to_right_1 t d e h = omega arith

pub four_3_to_right_2 : (t d e : ℕ) → 4 * max d e + 3 ≡ t → 4 * e + 2 < t
four_3_to_right_2 t d e h = omega arith

pub three_2_to_1 : (t d : ℕ) → 3 * d + 2 ≡ t → 3 * d + 1 < t
three_2_to_1 t d h = omega arith

-- ---- at the next statement of a block, and at the blocks of an `if`

pub four_statement_below : (t : ℕ) (whole x more : Block) (a : Action) → 4 * block_depth whole + 1 ≡ t → block_depth x ≤ block_depth whole → x ≡ Then a more → 4 * action_depth a < t
four_statement_below t whole x more a falls depth is = let deep = ap block_depth is in omega (arith, falls, depth, deep)

pub three_statement_below : (t : ℕ) (whole x more : Block) (a : Action) → 3 * block_depth whole + 1 ≡ t → block_depth x ≤ block_depth whole → x ≡ Then a more → 3 * action_depth a < t
three_statement_below t whole x more a falls depth is = let deep = ap block_depth is in omega (arith, falls, depth, deep)

pub four_blocks_below : (t : ℕ) (whole : Action) (c : Term) (b d : Block) → 4 * action_depth whole ≡ t → whole ≡ Choose c b (Else d) → 4 * max (block_depth b) (block_depth d) + 3 < t
four_blocks_below t whole c b d falls is = let deep = ap action_depth is in omega (arith, falls, deep)
