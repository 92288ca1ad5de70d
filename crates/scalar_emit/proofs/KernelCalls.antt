-- What the parts of a kernel are called with.
use Rattle.std.proofs.Common.{◌≡◌, ℕ, ◌+◌, ◌<◌, ◌≤◌, ◌^◌, List, [], ◌∷◌, length, Option, Some, None, refl, ap, ◌∙◌, arith}
use Rattle.machine_model.specs.InstructionTable.{Listed}
use Rattle.a64_code.specs.Table.{movz}
use Rattle.kernel_tree.specs.declared.ast.Param.{Param}
use Rattle.kernel_tree.specs.declared.ast.Var.{Var}
use Rattle.kernel_tree.specs.Plain.{Accumulator, Returned, Program, parameters_of, accumulators_of}
use Rattle.kernel_tree.specs.Items.{loop_index, vars_size, size_of}
use Rattle.kernel_tree.specs.Typing.{Scope}
use Rattle.label_fix.specs.DraftRun.{DraftEntry, Put, word_of}
use Rattle.scalar_words.specs.Layout.{Layout, Homes}
use Rattle.scalar_words.specs.Words.{copy_word, word_code}
use Rattle.scalar_words.proofs.Layouts.{count_params, count_vars}
use Rattle.value_code.specs.ValueRegisters.{home}
use Rattle.value_code.specs.Code.{value_code}
use Rattle.loop_code.specs.Loop.{exit_code, answer_code, answer_labels}

pub few_given : (k : Program) (ps : List Param) → parameters_of ps ≡ k.params → length k.params ≤ 8 → length ps ≤ 8
few_given k ps e h = omega (arith, count_params ps, ap length e, h)

pub few_vars : (k : Program) (vs : List Var) (n : ℕ) → accumulators_of vs ≡ k.vars → length k.vars ≤ n → length vs ≤ n
few_vars k vs n e h = omega (arith, count_vars vs, ap length e, h)

pub vars_room : (k : Program) (s : Scope) (first : ℕ) (vs : List Accumulator) → vs ≡ k.vars → s.index ≡ loop_index k → first ≡ length k.params → size_of k ≤ 1000 → first + vars_size s.index vs < 2 ^ 32
vars_room k s first vs e f g h =
    let i : vars_size s.index vs ≡ vars_size (loop_index k) k.vars = ap (vars_size s.index) e ∙ ap (λ o. vars_size o k.vars) f in
    omega (arith, g, h, i)

pub vars_fit : (k : Program) (vs : List Accumulator) → vs ≡ k.vars → size_of k ≤ 1000 → vars_size (loop_index k) vs < 2 ^ 32
vars_fit k vs e h = omega (arith, ap (vars_size (loop_index k)) e, h)

-- the returned value, where there is none and where there is one
pub answer_none : (L : Layout) (hs : Homes) (s : Scope) (b n : ℕ) (o : Option Returned) (w : Listed) (rest : List DraftEntry) → o ≡ None → w ≡ word_of movz (0 ∷ 0 ∷ 0 ∷ []) → Put w ∷ exit_code rest ≡ answer_code L hs s b n o rest
answer_none L hs s b n o w rest is e = rw (is, e) refl

pub none_counted : (i : Option (List ℕ)) (o : Option Returned) (n m : ℕ) → o ≡ None → m ≡ n → m ≡ n + answer_labels i o
none_counted i o n m is e = omega (arith, ap (answer_labels i) is)

pub answer_some : (L : Layout) (hs : Homes) (s : Scope) (b n from : ℕ) (o : Option Returned) (a : Returned) (rest : List DraftEntry) → o ≡ Some a → from ≡ home L hs s.index b a.value → value_code L hs s (Some a.type) b n a.value (word_code (copy_word 0 from) (exit_code rest)) ≡ answer_code L hs s b n o rest
answer_some L hs s b n from o a rest is e = rw (is, e) refl
