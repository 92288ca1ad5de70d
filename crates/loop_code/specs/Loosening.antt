-- Which names a loop holds loosely. It counts from i - n up to zero, with the addresses of its arrays ahead, where it reads its
-- variable as an offset alone. Accumulators that an update would have to extend are extended after it, where nothing in it asks
-- for more than the low bits of their type.
use Rattle.std.specs.Prelude.{ℕ, ℤ, List, [], ◌∷◌, ◌++◌, Bool, true, ◌&&◌, Option, Some, None, option_and_then, if◌then◌else◌}
use Rattle.kernel_tree.specs.declared.ops.Ty.{Ty}
use Rattle.kernel_tree.specs.declared.ops.BinaryOp.{BinaryOp}
use Rattle.kernel_tree.specs.Plain.{Action, Define, Put, Update, Choose, Leave, Block, Done, Then, Otherwise, Nothing, Else, PlainLoop, Returned, Program, Term, Literal, Variable, Element, Unary, Operation, Shift, Conversion, Choice, Comparison, Both, Either, Not}
use Rattle.kernel_tree.specs.Items.{stream_offset}
use Rattle.kernel_tree.specs.Typing.{Scope, lookup, own, first, element_type, accumulator_type, index_type, in_loop, after_for_loop, var_scope, after_action, after_block, left}
use Rattle.kernel_meaning.specs.Operators.{operator_of}
use Rattle.kernel_meaning.specs.TypeValues.{binary_leaves}
use Rattle.scalar_words.specs.Layout.{Form, LowBits, Ahead, Behind, Loose, loose_in}
use Rattle.scalar_words.specs.Words.{is_narrow}
use Rattle.value_code.specs.declared.extent.Extent.TheVariants.{Whole}
use Rattle.value_code.specs.Extents.{extent_at}
use Rattle.value_code.specs.Covers.{is_enough, is_whole, index_covers, covers, covers_truth}
use Rattle.loop_code.specs.Statements.{update_extent}

-- ---- whether statements ask no more of a name than stands in its register

abbrev mutual
  pub covers_action : List Loose → Scope → Action → Bool
  covers_action ls s (Define x t e) = is_whole ls x && covers ls s Whole (first t (own s e)) e
  covers_action ls s (Put a i e) =
      index_covers ls s.index (loose_in ls a) (option_and_then element_type (lookup s a)) (stream_offset s.index i) (covers ls s Whole (index_type s i) i)
      && covers ls s (extent_at (option_and_then element_type (lookup s a))) (option_and_then element_type (lookup s a)) e
  covers_action ls s (Update x op e) =
      is_enough (loose_in ls x) (update_extent ls x (operator_of op) (option_and_then accumulator_type (lookup s x)))
      && covers ls s (update_extent ls x (operator_of op) (option_and_then accumulator_type (lookup s x))) (option_and_then accumulator_type (lookup s x)) e
  covers_action ls s (Choose c b d) = covers_truth ls s c && (covers_block ls s b && covers_otherwise ls (left s (after_block s b)) d)
  covers_action ls s (Leave c) = covers_truth ls s c

  pub covers_block : List Loose → Scope → Block → Bool
  covers_block ls s Done = true
  covers_block ls s (Then a b) = covers_action ls s a && covers_block ls (after_action s a) b

  pub covers_otherwise : List Loose → Scope → Otherwise → Bool
  covers_otherwise ls s Nothing = true
  covers_otherwise ls s (Else b) = covers_block ls s b

-- ---- the accumulators

-- a type of fewer bits than a register
abbrev pub narrow_at : Option Ty → Option Ty
narrow_at None = None
narrow_at (Some t) = if is_narrow t then Some t else None

-- the type of an accumulator that an update would have to extend
abbrev pub gained : List Loose → List ℕ → BinaryOp → Option Ty → Option Ty
gained ls x op want = if binary_leaves op && is_whole ls x then narrow_at want else None

-- one more, where the statements of the loop ask for no more of it
abbrev pub loosened : Scope → Block → List ℕ → Option Ty → List Loose → List Loose
loosened s all x None ls = ls
loosened s all x (Some t) ls =
    if covers_block (ls ++ record { name = x; form = LowBits t } ∷ []) s all then ls ++ record { name = x; form = LowBits t } ∷ [] else ls

-- those after statements of a loop whose statements are `all`
abbrev mutual
  pub loosen_action : Scope → (all : Block) → Action → List Loose → List Loose
  loosen_action s all (Update x op e) ls = loosened s all x (gained ls x (operator_of op) (option_and_then accumulator_type (lookup s x))) ls
  loosen_action s all (Choose c b d) ls = loosen_otherwise s all d (loosen_block s all b ls)
  loosen_action s all (Define x t e) ls = ls
  loosen_action s all (Put a i e) ls = ls
  loosen_action s all (Leave c) ls = ls

  pub loosen_block : Scope → (all : Block) → Block → List Loose → List Loose
  loosen_block s all Done ls = ls
  loosen_block s all (Then a b) ls = loosen_block s all b (loosen_action s all a ls)

  pub loosen_otherwise : Scope → (all : Block) → Otherwise → List Loose → List Loose
  loosen_otherwise s all Nothing ls = ls
  loosen_otherwise s all (Else b) ls = loosen_block s all b ls

-- ---- counting to zero

-- one array more
abbrev pub put_ahead : Bool → List ℕ → Option Ty → List Loose → List Loose
put_ahead true a (Some t) ls = ls ++ record { name = a; form = Ahead t } ∷ []
put_ahead whole a want ls = ls

abbrev pub with_array : Scope → List ℕ → List Loose → List Loose
with_array s a ls = put_ahead (is_whole ls a) a (option_and_then element_type (lookup s a)) ls

-- an element at an offset from the loop variable, or one of a computed index, whose own elements count
abbrev pub element_arrays : Option ℤ → (streamed computed : List Loose) → List Loose
element_arrays (Some c) ls ms = ls
element_arrays None ls ms = ms

-- the arrays with elements at offsets from the loop variable, of expressions and statements, after others
abbrev pub term_arrays : Scope → Term → List Loose → List Loose
term_arrays s (Literal z) ls = ls
term_arrays s (Variable x) ls = ls
term_arrays s (Element a e) ls = element_arrays (stream_offset s.index e) (with_array s a ls) (term_arrays s e ls)
term_arrays s (Unary op e) ls = term_arrays s e ls
term_arrays s (Operation op x y) ls = term_arrays s y (term_arrays s x ls)
term_arrays s (Shift left e n) ls = term_arrays s e ls
term_arrays s (Conversion e t) ls = term_arrays s e ls
term_arrays s (Choice c x y) ls = term_arrays s c (term_arrays s y (term_arrays s x ls))
term_arrays s (Comparison op x y) ls = term_arrays s y (term_arrays s x ls)
term_arrays s (Both x y) ls = term_arrays s y (term_arrays s x ls)
term_arrays s (Either x y) ls = term_arrays s y (term_arrays s x ls)
term_arrays s (Not e) ls = term_arrays s e ls

abbrev mutual
  pub action_arrays : Scope → Action → List Loose → List Loose
  action_arrays s (Define x t e) ls = term_arrays s e ls
  action_arrays s (Put a i e) ls = with_array s a (term_arrays s e ls)
  action_arrays s (Update x op e) ls = term_arrays s e ls
  action_arrays s (Choose c b d) ls = otherwise_arrays s d (block_arrays s b (term_arrays s c ls))
  action_arrays s (Leave c) ls = term_arrays s c ls

  pub block_arrays : Scope → Block → List Loose → List Loose
  block_arrays s Done ls = ls
  block_arrays s (Then a b) ls = block_arrays s b (action_arrays s a ls)

  pub otherwise_arrays : Scope → Otherwise → List Loose → List Loose
  otherwise_arrays s Nothing ls = ls
  otherwise_arrays s (Else b) ls = block_arrays s b ls

-- the loop variable behind, and the arrays of the loop ahead
abbrev pub moved_names : Scope → PlainLoop → List Loose
moved_names s l = block_arrays s l.body (record { name = l.index; form = Behind } ∷ [])

-- after the loop the arrays still stand ahead, and nothing else does
abbrev pub keep_ahead : Form → Loose → List Loose → List Loose
keep_ahead (Ahead t) l ls = l ∷ ls
keep_ahead _ l ls = ls

abbrev pub after_loop : List Loose → List Loose
after_loop [] = []
after_loop (l ∷ ls) = keep_ahead l.form l (after_loop ls)

abbrev pub covers_answer : List Loose → Scope → Option Returned → Bool
covers_answer ls s None = true
covers_answer ls s (Some a) = covers ls s Whole (Some a.type) a.value

-- whether a loop counts to zero, by what stands in the registers then
abbrev pub may_move : List Loose → Scope → PlainLoop → Option Returned → Bool
may_move ls s l answer = covers_block ls (in_loop s l) l.body && covers_answer (after_loop ls) (after_for_loop s (Some l)) answer

abbrev pub counted_down : Scope → PlainLoop → Option Returned → List Loose
counted_down s l answer = if may_move (moved_names (in_loop s l) l) s l answer then moved_names (in_loop s l) l else []

-- ---- the whole

abbrev pub for_loop_loose : Scope → Option PlainLoop → Option Returned → List Loose
for_loop_loose s None answer = []
for_loop_loose s (Some l) answer = loosen_block (in_loop s l) l.body l.body (counted_down s l answer)

abbrev pub held_loosely : Program → List Loose
held_loosely k = for_loop_loose (var_scope k) k.for_loop k.answer
