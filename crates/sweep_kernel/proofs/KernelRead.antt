-- The tokens of a sweep's text are read as its kernel.
use Rattle.std.proofs.Common.{◌≡◌, ℕ, Ok, refl, None}
use Rattle.kernel_tree.specs.Grammar.{Tree}
use Rattle.expression_syntax.specs.Reading.{following, past, name_at, type_at, count_at, operator_at, more, chain_at, term_before, name_by, unary_at}
use Rattle.kernel_syntax.specs.Statements.{term_at, type_part, define_at, put_at, update_at, target_at, choose_by, statement_by, block_by, block_at}
use Rattle.kernel_syntax.specs.Headers.{shape_at, param_at, some_at, params_at, var_at, vars_by, vars_at, zero_at, for_loop_at, loop_at, tail_at, answer_by, kernel_at}
use Rattle.kernel_syntax.specs.Nesting.{deep_from}
use Rattle.kernel_syntax.specs.Refusals.{words_fault}
use Rattle.kernel_syntax.proofs.KernelSound.{kernel_spells}
use Rattle.sweep_kernel.specs.Tree.{kernel_with}
use Rattle.sweep_kernel.proofs.Words.{words_with}

read_with : (initial offset level : ℕ) → kernel_at (words_with initial offset level) ≡ Ok (kernel_with initial offset level)
unfolding following past name_at type_at count_at operator_at more chain_at term_before name_by unary_at term_at type_part define_at put_at update_at target_at choose_by statement_by block_by block_at shape_at param_at some_at params_at var_at vars_by vars_at zero_at for_loop_at loop_at tail_at answer_by kernel_at kernel_with
read_with initial offset level = refl

pub tree_with : (initial offset level : ℕ) → Tree (words_with initial offset level) (kernel_with initial offset level)
tree_with initial offset level = kernel_spells (words_with initial offset level) (kernel_with initial offset level) (read_with initial offset level)

-- neither too many tokens nor too many brackets or signs
pub shallow_with : (initial offset level : ℕ) → words_fault (words_with initial offset level) ≡ None
unfolding deep_from
shallow_with initial offset level = refl
