-- What a checked kernel's loop is known for: its bound is a scalar parameter, and each `break` stands in its own block.
use Rattle.std.specs.Prelude.{◌≡◌, ℕ, ◌&&◌, Bool, true, false, List, Some, slice_get}
use Rattle.kernel_tree.specs.declared.ops.Ty.TheVariants.{U64}
use Rattle.kernel_tree.specs.declared.ast.Shape.TheVariants.{Scalar}
use Rattle.kernel_tree.specs.Plain.{Action, Define, Put, Update, Choose, Leave, Block, Done, Then, Otherwise, Nothing, Else, Parameter, PlainLoop}

-- a parameter of type u64 has the bound's name
abbrev pub HasBound : List Parameter → PlainLoop → Type 0
HasBound ps l = (n : ℕ) × (slice_get ps n ≡ Some (record { name = l.bound; shape = Scalar U64 }))

-- whether no `break` stands in it
abbrev mutual
  pub is_whole : Action → Bool
  is_whole (Define x t e) = true
  is_whole (Put a i e) = true
  is_whole (Update x op e) = true
  is_whole (Choose c b d) = is_whole_block b && is_whole_otherwise d
  is_whole (Leave c) = false

  pub is_whole_block : Block → Bool
  is_whole_block Done = true
  is_whole_block (Then s b) = is_whole s && is_whole_block b

  pub is_whole_otherwise : Otherwise → Bool
  is_whole_otherwise Nothing = true
  is_whole_otherwise (Else b) = is_whole_block b

-- a `break`, or a statement without one
abbrev pub is_outer : Action → Bool
is_outer (Define x t e) = true
is_outer (Put a i e) = true
is_outer (Update x op e) = true
is_outer (Choose c b d) = is_whole_block b && is_whole_otherwise d
is_outer (Leave c) = true

-- whether each `break` of a block stands in the block itself
abbrev pub has_outer_breaks : Block → Bool
has_outer_breaks Done = true
has_outer_breaks (Then s b) = is_outer s && has_outer_breaks b
