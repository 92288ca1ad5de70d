-- The accesses of a run: each read and each write of an element, by its address and its bytes. Behind an access that faults, those that
-- the rest of its statement would do are counted too.
use Rattle.std.specs.Prelude.{ℕ, zero, suc, ◌+◌, ℤ, pos, List, [], ◌∷◌, ◌++◌, length, Option, Some, None, option_map, option_and_then, Bool, true, false}
use Rattle.guest_types.specs.Memory.{Memory, Disjoint}
use Rattle.kernel_tree.specs.declared.ops.Ty.{Ty}
use Rattle.kernel_tree.specs.declared.fault.Binding.TheVariants as binding
use Rattle.kernel_tree.specs.Plain.{Term, Literal, Variable, Element, Unary, Operation, Shift, Conversion, Choice, Comparison, Both, Either, Not, Accumulator, Action, Define, Put, Update, Choose, Leave, Block, Done, Then, Otherwise, Nothing, Else, PlainLoop, Returned, Program}
use Rattle.kernel_tree.specs.Items.{stream_offset}
use Rattle.kernel_tree.specs.Typing.{Scope, lookup, own, first, element_type, accumulator_type, index_type, side_type, after_action, after_block, after_for_loop, left, in_loop, declared, param_scope, var_scope}
use Rattle.kernel_meaning.specs.Ends.{BlockEnd, Next, Broke, Faulted, LoopState, Going, Left, Failed}
use Rattle.kernel_tree.specs.Wrap.{byte_count}
use Rattle.kernel_meaning.specs.Eval.{Names, value_at, address, iteration, element_number, value, holds}
use Rattle.kernel_meaning.specs.Iterate.{with_name, act, do_block, iterate}
use Rattle.kernel_meaning.specs.ScalarRun.{argument_names, iterations, bound_of, started, Run, End, Fault}

-- so many bytes from an address on
pub record Access : Type 0 where
  pub address : ℕ
  pub bytes : ℕ

-- an element of an array at an address, where there is one
abbrev pub element_access : Option Ty → ℤ → Option ℤ → List Access
element_access None base x = []
element_access (Some t) base None = []
element_access (Some t) base (Some x) = record { address = address t base x; bytes = byte_count t } ∷ []

-- what is done where a condition holds, and where it does not
abbrev pub where_true : Option Bool → List Access → List Access
where_true (Some true) more = more
where_true _ more = []

abbrev pub where_false : Option Bool → List Access → List Access
where_false (Some false) more = more
where_false _ more = []

-- ---- expressions

abbrev mutual
  pub reads : Scope → Option Ty → Term → Memory → Names → List Access
  reads scope want (Literal n) memory names = []
  reads scope want (Variable x) memory names = []
  reads scope want (Element a i) memory names =
      reads scope (index_type scope i) i memory names
      ++ element_access (option_and_then element_type (lookup scope a)) (value_at names a) (element_number (stream_offset scope.index i) (iteration scope.index names) (value scope (index_type scope i) i memory names))
  reads scope want (Unary op e) memory names = reads scope want e memory names
  reads scope want (Operation op a b) memory names = reads scope want a memory names ++ reads scope want b memory names
  reads scope want (Shift left e n) memory names = reads scope want e memory names
  reads scope want (Conversion e t) memory names = reads scope (own scope e) e memory names
  reads scope want (Choice c a b) memory names = reads scope want a memory names ++ (reads scope want b memory names ++ condition_reads scope c memory names)
  reads scope want (Comparison op a b) memory names = []
  reads scope want (Both a b) memory names = []
  reads scope want (Either a b) memory names = []
  reads scope want (Not e) memory names = []

  pub condition_reads : Scope → Term → Memory → Names → List Access
  condition_reads scope (Comparison op a b) memory names = reads scope (side_type scope a b) a memory names ++ reads scope (side_type scope a b) b memory names
  condition_reads scope (Both a b) memory names = condition_reads scope a memory names ++ where_true (holds scope a memory names) (condition_reads scope b memory names)
  condition_reads scope (Either a b) memory names = condition_reads scope a memory names ++ where_false (holds scope a memory names) (condition_reads scope b memory names)
  condition_reads scope (Not e) memory names = condition_reads scope e memory names
  condition_reads scope (Literal n) memory names = []
  condition_reads scope (Variable x) memory names = []
  condition_reads scope (Element a i) memory names = []
  condition_reads scope (Unary op e) memory names = []
  condition_reads scope (Operation op a b) memory names = []
  condition_reads scope (Shift left e n) memory names = []
  condition_reads scope (Conversion e t) memory names = []
  condition_reads scope (Choice c a b) memory names = []

-- ---- statements

-- what follows a statement that goes on
abbrev pub after : BlockEnd Names → (Memory → Names → List Access) → List Access
after (Next memory names) more = more memory names
after (Broke memory names) more = []
after (Faulted memory) more = []

abbrev mutual
  pub act_accesses : Scope → Action → Memory → Names → List Access
  act_accesses scope (Define x t e) memory names = reads scope (first t (own scope e)) e memory names
  act_accesses scope (Put a i e) memory names =
      let type = option_and_then element_type (lookup scope a) in
      reads scope type e memory names
      ++ (reads scope (index_type scope i) i memory names
      ++ element_access type (value_at names a) (element_number (stream_offset scope.index i) (iteration scope.index names) (value scope (index_type scope i) i memory names)))
  act_accesses scope (Update x op e) memory names = reads scope (option_and_then accumulator_type (lookup scope x)) e memory names
  act_accesses scope (Choose c b d) memory names =
      condition_reads scope c memory names
      ++ (where_true (holds scope c memory names) (block_accesses scope b memory names) ++ where_false (holds scope c memory names) (otherwise_accesses (left scope (after_block scope b)) d memory names))
  act_accesses scope (Leave c) memory names = condition_reads scope c memory names

  pub block_accesses : Scope → Block → Memory → Names → List Access
  block_accesses scope Done memory names = []
  block_accesses scope (Then s b) memory names = act_accesses scope s memory names ++ after (act scope s memory names) (block_accesses (after_action scope s) b)

  pub otherwise_accesses : Scope → Otherwise → Memory → Names → List Access
  otherwise_accesses scope Nothing memory names = []
  otherwise_accesses scope (Else b) memory names = block_accesses scope b memory names

-- ---- the whole run

-- so many iterations, from iteration i on
unfoldable pub loop_accesses : Scope → PlainLoop → ℕ → ℕ → Memory → Names → List Access
loop_accesses scope l zero i memory names = []
loop_accesses scope l (suc count) i memory names =
    block_accesses (in_loop scope l) l.body memory (with_name l.index names (pos i)) ++ after (iterate scope l i memory names) (loop_accesses scope l count (i + 1))

-- where there are names
abbrev pub behind : Option Names → (Names → List Access) → List Access
behind None more = []
behind (Some names) more = more names

-- the initial values of the accumulators
abbrev pub initial_accesses : Scope → List Accumulator → Memory → Names → List Access
initial_accesses scope [] memory names = []
initial_accesses scope (v ∷ vs) memory names =
    reads scope (Some v.type) v.init memory names
    ++ behind (option_map (with_name v.name names) (value scope (Some v.type) v.init memory names)) (initial_accesses (declared scope v.name (binding.Accumulator v.type)) vs memory)

-- the returned value
abbrev pub answer_accesses : Scope → Option Returned → Memory → Names → List Access
answer_accesses scope None memory names = []
answer_accesses scope (Some a) memory names = reads scope (Some a.type) a.value memory names

abbrev pub finish_accesses : Scope → PlainLoop → Option Returned → ℕ → LoopState Names → List Access
finish_accesses scope l answer n (Going memory names) = answer_accesses (after_for_loop scope (Some l)) answer memory (with_name l.index names (pos n))
finish_accesses scope l answer n (Left memory names i) = answer_accesses (after_for_loop scope (Some l)) answer memory (with_name l.index names (pos i))
finish_accesses scope l answer n (Failed memory i) = []

abbrev pub for_loop_accesses : Scope → Option PlainLoop → Option Returned → Memory → Names → List Access
for_loop_accesses scope None answer memory names = answer_accesses scope answer memory names
for_loop_accesses scope (Some l) answer memory names =
    loop_accesses scope l (bound_of l names) 0 memory names ++ finish_accesses scope l answer (bound_of l names) (iterations scope l (bound_of l names) 0 memory names)

-- the accesses of a kernel's run from arguments and a memory
abbrev pub accesses : Program → List ℕ → Memory → List Access
accesses k args memory =
    initial_accesses (param_scope k) k.vars memory (argument_names k.params args)
    ++ behind (started k args memory) (for_loop_accesses (var_scope k) k.for_loop k.answer memory)

-- ---- bytes that a run does not come to

-- the access comes to none of so many bytes from an address on
abbrev pub IsOff : (a n : ℕ) → Access → Type 0
IsOff a n access = Disjoint a n access.address access.bytes

abbrev pub AreOff : (a n : ℕ) → List Access → Type 0
AreOff a n [] = Unit {0}
AreOff a n (access ∷ rest) = IsOff a n access × AreOff a n rest

-- a run whose memory at the end, or at the fault, is changed
abbrev pub run_with : (Memory → Memory) → Run → Run
run_with change (End m result n) = End (change m) result n
run_with change (Fault m n) = Fault (change m) n
