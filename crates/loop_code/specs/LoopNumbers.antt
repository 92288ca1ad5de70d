-- What a loop holds in registers of its own.
use Rattle.std.specs.Prelude.{ℕ, ◌+◌, List, [], length, Option, Some, None}
use Rattle.kernel_tree.specs.Plain.{Action, Define, Put, Update, Choose, Leave, Block, Done, Then, Otherwise, Nothing, Else, PlainLoop, Program}
use Rattle.kernel_tree.specs.Items.{stream_offset}
use Rattle.kernel_tree.specs.Typing.{Scope, var_scope}
use Rattle.kernel_meaning.specs.Operators.{operator_of}
use Rattle.scalar_words.specs.Layout.{Constant, Layout, Homes, with_constants, with_loose}
use Rattle.scalar_words.specs.KernelRegisters.{layout_of_kernel, kernel_homes}
use Rattle.value_code.specs.HeldNumbers.{addend_of, hold_side, hold_term, hold_element, coded_words}
use Rattle.loop_code.specs.Loosening.{held_loosely}

-- what is held after statements, with so many parameters, by the names before the loop
abbrev mutual
  pub hold_action : ℕ → Homes → Scope → Action → List Constant → List Constant
  hold_action p hs s (Define x t e) cs = hold_term p hs s e cs
  hold_action p hs s (Put a o e) cs = hold_element p hs s a (stream_offset s.index o) (hold_term p hs s e cs)
  hold_action p hs s (Update x op e) cs = hold_side (addend_of (operator_of op) e) (hold_term p hs s e) cs
  hold_action p hs s (Choose c b d) cs = hold_otherwise p hs s d (hold_block p hs s b (hold_term p hs s c cs))
  hold_action p hs s (Leave c) cs = hold_term p hs s c cs

  pub hold_block : ℕ → Homes → Scope → Block → List Constant → List Constant
  hold_block p hs s Done cs = cs
  hold_block p hs s (Then a b) cs = hold_block p hs s b (hold_action p hs s a cs)

  pub hold_otherwise : ℕ → Homes → Scope → Otherwise → List Constant → List Constant
  hold_otherwise p hs s Nothing cs = cs
  hold_otherwise p hs s (Else b) cs = hold_block p hs s b cs

-- for a loop, and nothing where there is no loop
abbrev pub for_loop_numbers : ℕ → Homes → Scope → Option PlainLoop → List Constant
for_loop_numbers p hs s None = []
for_loop_numbers p hs s (Some l) = hold_block p hs s l.body []

abbrev pub held_numbers : (ℕ → ℕ) → Program → List Constant
held_numbers R k = for_loop_numbers (length k.params) (kernel_homes R k) (var_scope k) k.for_loop

-- the registers while iterations last
abbrev pub loop_layout : (ℕ → ℕ) → Program → Layout
loop_layout R k = with_loose (with_constants (layout_of_kernel R k) (held_numbers R k)) (held_loosely k)

-- ---- words where they stand

-- at most so many of statements
abbrev mutual
  pub coded_action : List Constant → Option (List ℕ) → Action → ℕ
  coded_action cs i (Define x t e) = coded_words cs i e + 4
  coded_action cs i (Put a o e) = coded_words cs i e + 2
  coded_action cs i (Update x op e) = coded_words cs i e + 3
  coded_action cs i (Choose c b d) = coded_words cs i c + 4 + coded_block cs i b + coded_otherwise cs i d + 4
  coded_action cs i (Leave c) = coded_words cs i c + 4

  pub coded_block : List Constant → Option (List ℕ) → Block → ℕ
  coded_block cs i Done = 0
  coded_block cs i (Then s b) = coded_action cs i s + coded_block cs i b

  pub coded_otherwise : List Constant → Option (List ℕ) → Otherwise → ℕ
  coded_otherwise cs i Nothing = 0
  coded_otherwise cs i (Else b) = 4 + coded_block cs i b
