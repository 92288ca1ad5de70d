-- Reading what stands after an operator, with the first operand.
use Rattle.std.specs.Prelude.{pos, List, Bool, true, false, Ok}
use Rattle.kernel_tree.specs.declared.mark.Joint.{Joint}
use Rattle.kernel_tree.specs.declared.mark.Operator.{Operator}
use Rattle.kernel_tree.specs.declared.mark.Operator.TheVariants as operator
use Rattle.kernel_tree.specs.declared.ops.CompareOp.{CompareOp}
use Rattle.kernel_tree.specs.TextToken.{TextToken}
use Rattle.kernel_tree.specs.Plain.{Term, Shift, Conversion, Comparison}
use Rattle.kernel_tree.specs.Grammar.{joined}
use Rattle.expression_syntax.specs.Reading.{◌>>=◌, Outcome, count_at, type_at}

-- by the reader of the second operand
unfoldable pub joined_by : (List TextToken → Outcome) → Joint → Term → List TextToken → Outcome
joined_by operand j left words = operand words >>= (λ r. Ok (joined j left r.0, r.1))

unfoldable pub compared_by : (List TextToken → Outcome) → CompareOp → Term → List TextToken → Outcome
compared_by operand op left words = operand words >>= (λ r. Ok (Comparison op left r.0, r.1))

unfoldable pub shifted_by : Bool → Term → List TextToken → Outcome
shifted_by to_left left words = count_at words >>= (λ n. Ok (Shift to_left left (pos n.0), n.1))

unfoldable pub converted_by : Term → List TextToken → Outcome
converted_by left words = type_at words >>= (λ t. Ok (Conversion left t.0, t.1))

-- by any operator
abbrev pub extended_by : (List TextToken → Outcome) → Operator → Term → List TextToken → Outcome
extended_by operand (operator.Joined j) left words = joined_by operand j left words
extended_by operand (operator.Compared op) left words = compared_by operand op left words
extended_by operand (operator.Shifted to_left) left words = shifted_by to_left left words
extended_by operand operator.As left words = converted_by left words

-- a comparison ends the chain of its level
abbrev pub is_comparison : Operator → Bool
is_comparison (operator.Compared op) = true
is_comparison (operator.Joined j) = false
is_comparison (operator.Shifted to_left) = false
is_comparison operator.As = false
