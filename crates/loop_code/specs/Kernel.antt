-- The code of a kernel, when R gives each of its intervals of class X the number of a counted register.
use Rattle.std.specs.Prelude.{ℕ, true, ◌+◌, List, [], ◌∷◌, ◌++◌, length, Option, Some, None}
use Rattle.kernel_tree.specs.declared.ast.Shape.{Shape}
use Rattle.kernel_tree.specs.Plain.{Parameter, Accumulator, PlainLoop, Returned, Program}
use Rattle.kernel_tree.specs.Items.{term_size, loop_index, loop_start, loop_end}
use Rattle.kernel_tree.specs.Typing.{Scope, declared, param_scope, var_scope}
pub use Rattle.kernel_scope.specs.Scopes.{after_var}
use Rattle.label_fix.specs.DraftRun.{DraftEntry as Line, Place, ins}
use Rattle.label_fix.specs.Registers.{iteration}
use Rattle.scalar_words.specs.Layout.{Layout, Homes}
use Rattle.value_code.specs.ValueRegisters.{home}
use Rattle.scalar_words.specs.Words.{settle_word, copy_word, word_code}
use Rattle.value_code.specs.Code.{labels, value_code}
use Rattle.value_code.specs.Fits.{Fits}
use Rattle.loop_code.specs.LoopNumbers.{loop_layout}
use Rattle.loop_code.specs.Loop.{answer_code, answer_labels, bare, loop_code, loop_labels}
use Rattle.a64_code.specs.Table.{movz}
use Rattle.scalar_words.specs.KernelRegisters.{counted_x, layout_of_kernel, param_homes, var_home, kernel_homes}
use Rattle.kernel_tree.specs.declared.ast.Shape.TheVariants as shape
use Rattle.kernel_tree.specs.declared.fault.Binding.TheVariants as binding

-- ---- the code before the loop

-- a scalar argument, extended by its type: no word at 64 bits
abbrev pub argument_code : Shape → ℕ → List Line → List Line
argument_code (shape.Scalar t) n rest = word_code (settle_word true t n) rest
argument_code (shape.Array t) n rest = rest

abbrev pub arguments_code : ℕ → List Parameter → List Line → List Line
arguments_code n [] rest = rest
arguments_code n (p ∷ ps) rest = argument_code p.shape n (arguments_code (n + 1) ps rest)

-- accumulator number j, whose items begin at b and whose labels at n
abbrev pub var_code : Layout → (ℕ → ℕ) → Homes → Scope → (j b n : ℕ) → Accumulator → List Line → List Line
var_code L R hs s j b n v rest = value_code L hs s (Some v.type) b n v.init (word_code (copy_word (counted_x (R j)) (home L hs s.index b v.init)) rest)

abbrev pub var_labels : Option (List ℕ) → Accumulator → ℕ
var_labels i v = labels i v.init

-- accumulators from number j on, whose items begin at b and whose labels at n, with the homes of the names before them
abbrev pub vars_code : Layout → (ℕ → ℕ) → Homes → Scope → (j b n : ℕ) → List Accumulator → List Line → List Line
vars_code L R hs s j b n [] rest = rest
vars_code L R hs s j b n (v ∷ vs) rest =
    value_code L hs s (Some v.type) b n v.init (word_code (copy_word (counted_x (R j)) (home L hs s.index b v.init))
    (vars_code L R (hs ++ var_home R j v ∷ []) (declared s v.name (binding.Accumulator v.type)) (j + 1) (b + term_size s.index v.init + 1) (n + labels s.index v.init) vs rest))

-- the labels that the code of accumulators uses up
abbrev pub vars_labels : Option (List ℕ) → List Accumulator → ℕ
vars_labels i [] = 0
vars_labels i (v ∷ vs) = labels i v.init + vars_labels i vs

-- X9 = 0
abbrev pub zero_index : List Line → List Line
zero_index rest = ins movz (iteration ∷ 0 ∷ 0 ∷ []) ∷ rest

-- the code before the loop, from label n on
abbrev pub begin_code : (ℕ → ℕ) → Program → ℕ → List Line → List Line
begin_code R k n rest =
    arguments_code 0 k.params (vars_code (layout_of_kernel R k) R (param_homes 0 k.params) (param_scope k) 0 (length k.params) n k.vars (zero_index rest))

abbrev pub begin_labels : Program → ℕ
begin_labels k = vars_labels (loop_index k) k.vars

-- ---- the loop, and what follows it

-- a returned value whose items begin at b, after label n
abbrev pub straight_code : Layout → Homes → Scope → (n b : ℕ) → Option Returned → List Line → List Line
straight_code L hs s n b answer rest = Place n ∷ answer_code L hs s b (n + 1) answer rest

-- A loop whose items begin at b, and an answer whose items begin at b2. Label n stands at the head of the loop, and without
-- a loop before the answer.
abbrev pub for_loop_code : Layout → Homes → Scope → Option PlainLoop → (b n b2 : ℕ) → Option Returned → List Line → List Line
for_loop_code L hs s (Some l) b n b2 answer rest = loop_code L hs s l b n b2 answer rest
for_loop_code L hs s None b n b2 answer rest = straight_code (bare L) hs s n b2 answer rest

abbrev pub for_loop_labels : Option (List ℕ) → Option PlainLoop → Option Returned → ℕ
for_loop_labels i (Some l) answer = loop_labels i l answer
for_loop_labels i None answer = 1 + answer_labels i answer

abbrev pub scalar_code : (ℕ → ℕ) → Program → ℕ → List Line → List Line
scalar_code R k n rest = for_loop_code (loop_layout R k) (kernel_homes R k) (var_scope k) k.for_loop (loop_start k) n (loop_end k) k.answer rest

abbrev pub scalar_labels : Program → ℕ
scalar_labels k = for_loop_labels (loop_index k) k.for_loop k.answer

-- ---- registers that fit

-- accumulators from number j on, whose items begin at b
abbrev pub FitsVars : Layout → (ℕ → ℕ) → Homes → Scope → (j b : ℕ) → List Accumulator → Type 0
FitsVars L R hs s j b [] = Unit {0}
FitsVars L R hs s j b (v ∷ vs) =
    Fits L hs s (Some v.type) b (b + term_size s.index v.init) v.init
    × FitsVars L R (hs ++ var_home R j v ∷ []) (declared s v.name (binding.Accumulator v.type)) (j + 1) (b + term_size s.index v.init + 1) vs
