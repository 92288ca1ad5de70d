-- How far a walk over an expression is from its end, for functions that call one another: by the depth of what is left, with two
-- calls between an expression and its operands.
use Rattle.std.specs.Prelude.{ℕ, ◌+◌, ◌*◌, max}
use Rattle.kernel_tree.specs.Plain.{Term}
use Rattle.kernel_tree.specs.Limits.{term_depth}

-- of what goes over an expression by its kind
abbrev pub walk_of : Term → ℕ
walk_of e = 3 * term_depth e

-- of what goes over one, two and three operands
abbrev pub walk_of_one : Term → ℕ
walk_of_one e = 3 * term_depth e + 1

abbrev pub walk_of_two : Term → Term → ℕ
walk_of_two x y = 3 * max (term_depth x) (term_depth y) + 1

abbrev pub walk_of_three : Term → Term → Term → ℕ
walk_of_three c x y = 3 * max (term_depth c) (max (term_depth x) (term_depth y)) + 1
