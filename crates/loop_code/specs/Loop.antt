-- The code of a loop and of what follows it, and the end of a run.
use Rattle.std.specs.Prelude.{ℕ, true, false, cond, ◌+◌, ◌*◌, ◌<◌, ◌≤◌, ◌⊎◌, List, [], ◌∷◌, ◌++◌, Option, Some, None, option_and_then, ◌≡◌}
use Rattle.machine_model.specs.InstructionTable.{Listed}
use Rattle.a64_code.specs.Table.{movz, add, sub, subs, add_imm, svc}
use Rattle.kernel_tree.specs.declared.ops.Ty.TheVariants as ty
use Rattle.kernel_tree.specs.Wrap.{log_bytes}
use Rattle.kernel_tree.specs.declared.fault.Binding.TheVariants.{Scalar}
use Rattle.kernel_tree.specs.Plain.{PlainLoop, Returned}
use Rattle.kernel_tree.specs.Items.{term_size, block_size}
use Rattle.kernel_meaning.specs.Operators.{word}
use Rattle.kernel_tree.specs.Typing.{Scope, lookup, element_type, accumulator_type, in_loop, after_for_loop}
use Rattle.label_fix.specs.DraftRun.{DraftEntry, Put, Branch, Place, If, NotZero, word_of, ins}
use Rattle.label_fix.specs.Registers.{iteration, call_number, xzr}
use Rattle.label_fix.specs.Conditions as conditions
use Rattle.scalar_words.specs.Layout.{Key, OfNumber, OfAddress, Constant, Form, LowBits, Ahead, Behind, Loose, loose_in, Layout, Home, Homes, with_constants, with_loose, is_home, register_at, NameLasts}
use Rattle.value_code.specs.ValueRegisters.{home}
use Rattle.scalar_words.specs.Words.{const_code, copy_word, settle_word, word_code}
use Rattle.value_code.specs.Code.{labels, value_code}
use Rattle.value_code.specs.Fits.{Fits}
use Rattle.value_code.specs.HeldNumbers.{AreNext, loading_words}
use Rattle.value_code.specs.ItemWords.{add_word}
use Rattle.loop_code.specs.LoopNumbers.{coded_block}
use Rattle.loop_code.specs.Statements.{block_labels, block_code, FitsBlock}
use Rattle.loop_code.specs.Loosening.{covers_block, after_loop, covers_answer}
use Rattle.scalar_words.specs.Safe.{Others, Only}

abbrev pub index_home : List ℕ → Home
index_home x = record { name = x; register = iteration; last_use = None }

abbrev pub exit_code : List DraftEntry → List DraftEntry
exit_code rest = ins movz (call_number ∷ 93 ∷ 0 ∷ []) ∷ ins svc (0 ∷ []) ∷ rest

-- the returned value into X0, and the end
abbrev pub answer_code : Layout → Homes → Scope → (b n : ℕ) → Option Returned → List DraftEntry → List DraftEntry
answer_code L hs s b n None rest = ins movz (0 ∷ 0 ∷ 0 ∷ []) ∷ exit_code rest
answer_code L hs s b n (Some a) rest = value_code L hs s (Some a.type) b n a.value (word_code (copy_word 0 (home L hs s.index b a.value)) (exit_code rest))

abbrev pub with_index : Homes → PlainLoop → Homes
with_index hs l = hs ++ index_home l.index ∷ []

-- a scope inside the loop
abbrev pub inside_of : Scope → Scope
inside_of s = record s { inside = true }

-- after the loop, whose end is label n + 1
abbrev pub leave_code : Layout → Homes → Scope → PlainLoop → (b2 n2 : ℕ) → Option Returned → List DraftEntry → List DraftEntry
leave_code L hs s l b2 n2 answer rest = answer_code L (with_index hs l) (after_for_loop s (Some l)) b2 n2 answer rest

-- the loop variable is compared with the bound, in register r
abbrev pub bound_code : ℕ → List DraftEntry → List DraftEntry
bound_code r rest = ins subs (xzr ∷ iteration ∷ 0 ∷ r ∷ 0 ∷ []) ∷ rest

-- before the first iteration: a name's register, by what is to stand in it, with the bound in register r
abbrev pub enter_word : (r q : ℕ) → Form → Option Listed
enter_word r q (LowBits t) = None
enter_word r q (Ahead t) = Some (word_of add (q ∷ q ∷ log_bytes t ∷ r ∷ 0 ∷ []))
enter_word r q Behind = Some (word_of sub (q ∷ q ∷ 0 ∷ r ∷ 0 ∷ []))

abbrev pub enter_code : (r : ℕ) → Homes → List Loose → List DraftEntry → List DraftEntry
enter_code r hs [] rest = rest
enter_code r hs (l ∷ ls) rest = word_code (enter_word r (register_at hs l.name) l.form) (enter_code r hs ls rest)

-- and after the last one: an accumulator is extended, and the loop variable has its value again
abbrev pub settle_form : (r q : ℕ) → Form → Option Listed
settle_form r q (LowBits t) = settle_word true t q
settle_form r q (Ahead t) = None
settle_form r q Behind = Some (word_of add (q ∷ q ∷ 0 ∷ r ∷ 0 ∷ []))

abbrev pub settle_code : (r : ℕ) → Homes → List Loose → List DraftEntry → List DraftEntry
settle_code r hs [] rest = rest
settle_code r hs (l ∷ ls) rest = word_code (settle_form r (register_at hs l.name) l.form) (settle_code r hs ls rest)

-- from the place of label n + 3 to that of label n + 1
abbrev pub settled_code : (r n : ℕ) → Homes → List Loose → List DraftEntry → List DraftEntry
settled_code r n hs ls rest = Place (n + 3) ∷ settle_code r hs ls (Place (n + 1) ∷ rest)

-- back to label n + 2 below the bound, or where the loop variable, which stands behind by the bound, is not zero
abbrev pub back_code : Option Form → (r n : ℕ) → List DraftEntry → List DraftEntry
back_code (Some Behind) r n rest = Branch (NotZero iteration) (n + 2) ∷ rest
back_code _ r n rest = bound_code r (Branch (If conditions.lo) (n + 2) ∷ rest)

-- the end of an iteration, and of the loop
abbrev pub again_code : Option Form → (r n : ℕ) → Homes → List Loose → List DraftEntry → List DraftEntry
again_code f r n hs ls rest = ins add_imm (iteration ∷ iteration ∷ 1 ∷ 0 ∷ []) ∷ back_code f r n (settled_code r n hs ls rest)

-- the iterations, after the place of label n + 2; a `break` goes to label n + 3
abbrev pub body_code : Layout → Homes → Scope → PlainLoop → (b n : ℕ) → List DraftEntry → List DraftEntry
body_code L hs s l b n rest = block_code L (with_index hs l) (in_loop s l) (n + 3) (b + 1) (n + 4) l.body (again_code (loose_in L.loose l.index) (register_at hs l.bound) n (with_index hs l) L.loose rest)

-- what is held into its registers
abbrev pub key_code : Key → (d : ℕ) → List DraftEntry → List DraftEntry
key_code (OfNumber z) d rest = const_code d (word z) rest
key_code (OfAddress q c) d rest = Put (add_word (word c) d q) ∷ rest

abbrev pub numbers_code : List Constant → List DraftEntry → List DraftEntry
numbers_code [] rest = rest
numbers_code (c ∷ cs) rest = key_code c.key c.register (numbers_code cs rest)

-- the head of a loop, label n: past its end, label n + 1, where there is no iteration, and else what stands in registers
-- while iterations last
abbrev pub head_code : (r n : ℕ) → Homes → Layout → List DraftEntry → List DraftEntry
head_code r n hs L rest = bound_code r (Branch (If conditions.hs) (n + 1) ∷ enter_code r hs L.loose (numbers_code L.constants (Place (n + 2) ∷ rest)))

abbrev pub entry_code : (r n : ℕ) → Homes → Layout → List DraftEntry → List DraftEntry
entry_code r n hs L rest = Place n ∷ head_code r n hs L rest

-- the registers after the loop: whether it was entered is not known
abbrev pub bare : Layout → Layout
bare L = with_loose (with_constants L []) (after_loop L.loose)

-- the loop after the place of its head
abbrev pub test_code : Layout → Homes → Scope → PlainLoop → (b n b2 : ℕ) → Option Returned → List DraftEntry → List DraftEntry
test_code L hs s l b n b2 answer rest =
    head_code (register_at hs l.bound) n (with_index hs l) L (body_code L hs s l b n (leave_code (bare L) hs s l b2 (n + 4 + block_labels s.index l.body) answer rest))

abbrev pub loop_code : Layout → Homes → Scope → PlainLoop → (b n b2 : ℕ) → Option Returned → List DraftEntry → List DraftEntry
loop_code L hs s l b n b2 answer rest = Place n ∷ test_code L hs s l b n b2 answer rest

-- the loop from the place of its head, label n, to the place of its end, label n + 1
abbrev pub iterations_code : Layout → Homes → Scope → PlainLoop → (b n : ℕ) → List DraftEntry → List DraftEntry
iterations_code L hs s l b n rest = entry_code (register_at hs l.bound) n (with_index hs l) L (body_code L hs s l b n rest)

-- the labels that the code of the answer and of the loop uses up
abbrev pub answer_labels : Option (List ℕ) → Option Returned → ℕ
answer_labels i None = 0
answer_labels i (Some a) = labels i a.value

abbrev pub loop_labels : Option (List ℕ) → PlainLoop → Option Returned → ℕ
loop_labels i l answer = 4 + block_labels i l.body + answer_labels i answer

-- ---- registers that fit

abbrev pub FitsAnswer : Layout → Homes → Scope → ℕ → Option Returned → Type 0
FitsAnswer L hs s b None = Unit {0}
FitsAnswer L hs s b (Some a) = Fits L hs s (Some a.type) b (b + term_size s.index a.value) a.value

-- names have registers below those of numbers, by the number of parameters, or above them
abbrev pub AreClear : ℕ → Homes → Type 0
AreClear p [] = Unit {0}
AreClear p (h ∷ hs) = ((h.register < p) ⊎ (iteration ≤ h.register)) × AreClear p hs

-- no name of these is this one
abbrev pub NoHome : List ℕ → Homes → Type 0
NoHome x [] = Unit {0}
NoHome x (h ∷ hs) = (is_home x h ≡ false) × NoHome x hs

-- no more than one is
abbrev pub IsOnce : Homes → List ℕ → Type 0
IsOnce [] x = Unit {0}
IsOnce (h ∷ hs) x = cond (is_home x h) (NoHome x hs) (IsOnce hs x)

-- a name is what its form says: an accumulator or an array of the type, or the loop variable
abbrev pub IsFormed : Scope → List ℕ → Form → Type 0
IsFormed s x (LowBits t) = option_and_then accumulator_type (lookup s x) ≡ Some t
IsFormed s x (Ahead t) = option_and_then element_type (lookup s x) ≡ Some t
IsFormed s x Behind = s.index ≡ Some x

-- each in a register of its own, in a scope inside the loop; its name is that of no other home, and of none of the rest
abbrev pub AreHeldLoosely : Homes → Scope → ℕ → List Loose → Type 0
AreHeldLoosely hs s p [] = Unit {0}
AreHeldLoosely hs s p (l ∷ ls) =
    (IsFormed s l.name l.form × (NameLasts hs l.name p × Only hs l.name (register_at hs l.name) p) × IsOnce hs l.name × (loose_in ls l.name ≡ None)) × AreHeldLoosely hs s p ls

-- a word each, but none for the loop variable, which saves one in each iteration
abbrev pub form_words : Form → ℕ
form_words (LowBits t) = 1
form_words (Ahead t) = 1
form_words Behind = 0

abbrev pub moving_words : List Loose → ℕ
moving_words [] = 0
moving_words (l ∷ ls) = form_words l.form + moving_words ls

-- No more words go before and after the iterations than one of them saves.
pub record FitsLoop (L : Layout) (hs : Homes) (s : Scope) (l : PlainLoop) (b b2 : ℕ) (answer : Option Returned) : Type 0 where
  pub bound : NameLasts hs l.bound b
  pub bound_low : register_at hs l.bound < iteration
  pub bound_known : lookup s l.bound ≡ Some (Scalar ty.U64)
  pub free : NoHome l.index hs
  pub body : FitsBlock L (with_index hs l) (in_loop s l) (b + 1) l.body
  pub nine : Others hs iteration b
  pub params : ℕ
  pub next : AreNext params 0 L.constants
  pub clear : AreClear params hs
  pub few : moving_words L.loose + loading_words L.constants + coded_block L.constants s.index l.body ≤ 4 * block_size s.index l.body
  pub covered : covers_block L.loose (in_loop s l) l.body ≡ true
  pub loosely : AreHeldLoosely (with_index hs l) (in_loop s l) b L.loose
  pub answer_covered : covers_answer (bare L).loose (after_for_loop s (Some l)) answer ≡ true
  pub answered : FitsAnswer (bare L) (with_index hs l) (after_for_loop s (Some l)) b2 answer
  pub following : b ≤ b2
