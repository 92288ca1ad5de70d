-- What is held for a loop: each has the next register, and no more words load it than are saved.
use Rattle.std.proofs.Common.{◌≡◌, ℕ, ◌+◌, ◌*◌, ◌≤◌, List, [], ◌∷◌, ◌++◌, length, Option, Some, None, inl, inr, sym, ap, ◌∙◌, subst, arith}
use Rattle.kernel_tree.specs.Plain.{Action, Define, Put, Update, Choose, Leave, Block, Done, Then, Otherwise, Nothing, Else, Parameter, Accumulator, PlainLoop, Program}
use Rattle.std.specs.Prelude.{option_map}
use Rattle.kernel_tree.specs.Items.{action_size, block_size, otherwise_size, stream_offset, index_of}
use Rattle.kernel_tree.specs.Typing.{Scope, var_scope}
use Rattle.kernel_tree.proofs.Scopes.{scope_index}
use Rattle.kernel_meaning.specs.Operators.{operator_of}
use Rattle.scalar_words.specs.Layout.{Key, OfNumber, OfAddress, Constant, Loose, Layout, Homes, with_constants, with_loose}
use Rattle.scalar_words.specs.KernelRegisters.{param_homes, var_homes, kernel_homes}
use Rattle.scalar_words.proofs.AssignedOf.{counted-low}
use Rattle.scalar_words.proofs.LayoutStates.{Assigned, AreSafe}
use Rattle.scalar_words.proofs.NameHomes.{AccumulatorRegisters}
use Rattle.value_code.specs.HeldNumbers.{AreNext, addend_of, hold_term, key_words, loading_words}
use Rattle.value_code.proofs.HoldTerms.{Within, Holds, holds_same, holds_on, IsFew, term_held, term_few, side_holds, side_is_few, element_held, element_few, next_low}
use Rattle.loop_code.specs.LoopNumbers.{hold_action, hold_block, hold_otherwise, for_loop_numbers, held_numbers, coded_action, coded_block, coded_otherwise}
use Rattle.loop_code.specs.Loosening.{for_loop_loose, held_loosely}
use Rattle.loop_code.specs.Loop.{moving_words, AreClear}
use Rattle.loop_code.proofs.LooseBlocks.{action_streams, block_streams, otherwise_streams, action_updates, block_updates, otherwise_updates, loop_few}

mutual
  action_held : (a : Action) (p : ℕ) (hs : Homes) (s : Scope) (cs : List Constant) → Holds p cs (hold_action p hs s a cs)
  action_held (Define x t e) p hs s cs = term_held e p hs s cs
  action_held (Put a o e) p hs s cs = holds_on (term_held e p hs s cs) (element_held p hs s a (stream_offset s.index o) (hold_term p hs s e cs))
  action_held (Update x op e) p hs s cs = side_holds (addend_of (operator_of op) e) e p hs s cs
  action_held (Choose c b d) p hs s cs = holds_on (holds_on (term_held c p hs s cs) (block_held b p hs s (hold_term p hs s c cs))) (otherwise_held d p hs s (hold_block p hs s b (hold_term p hs s c cs)))
  action_held (Leave c) p hs s cs = term_held c p hs s cs

  pub block_held : (b : Block) (p : ℕ) (hs : Homes) (s : Scope) (cs : List Constant) → Holds p cs (hold_block p hs s b cs)
  block_held Done p hs s cs = holds_same p cs
  block_held (Then a b) p hs s cs = holds_on (action_held a p hs s cs) (block_held b p hs s (hold_action p hs s a cs))

  otherwise_held : (d : Otherwise) (p : ℕ) (hs : Homes) (s : Scope) (cs : List Constant) → Holds p cs (hold_otherwise p hs s d cs)
  otherwise_held Nothing p hs s cs = holds_same p cs
  otherwise_held (Else b) p hs s cs = block_held b p hs s cs

mutual
  action_few : (a : Action) (p : ℕ) (hs : Homes) (s : Scope) (cs all : List Constant) → Within (hold_action p hs s a cs) all → IsFew cs (hold_action p hs s a cs) (action_streams s.index a + action_updates a + coded_action all s.index a) (4 * action_size s.index a)
  action_few (Define x t e) p hs s cs all w = let k = term_few e p hs s cs all w in omega (arith, k)
  action_few (Put a o e) p hs s cs all w =
      let h = element_held p hs s a (stream_offset s.index o) (hold_term p hs s e cs) in
      let k = term_few e p hs s cs all (λ z q. w z (h.more z q)) in
      let j = element_few p hs s a (stream_offset s.index o) (hold_term p hs s e cs) in
      omega (arith, k, j)
  action_few (Update x op e) p hs s cs all w = let k = side_is_few (addend_of (operator_of op) e) e p hs s cs all w in omega (arith, k)
  action_few (Choose c b d) p hs s cs all w =
      let ds = hold_term p hs s c cs in
      let es = hold_block p hs s b ds in
      let hd = otherwise_held d p hs s es in
      let hb = block_held b p hs s ds in
      let k = term_few c p hs s cs all (λ z q. w z (hd.more z (hb.more z q))) in
      let j = block_few b p hs s ds all (λ z q. w z (hd.more z q)) in
      let h = otherwise_few d p hs s es all w in
      omega (arith, k, j, h)
  action_few (Leave c) p hs s cs all w = let k = term_few c p hs s cs all w in omega (arith, k)

  block_few : (b : Block) (p : ℕ) (hs : Homes) (s : Scope) (cs all : List Constant) → Within (hold_block p hs s b cs) all → IsFew cs (hold_block p hs s b cs) (block_streams s.index b + block_updates b + coded_block all s.index b) (4 * block_size s.index b)
  block_few Done p hs s cs all w = omega arith
  block_few (Then a b) p hs s cs all w =
      let hb = block_held b p hs s (hold_action p hs s a cs) in
      let k = action_few a p hs s cs all (λ z q. w z (hb.more z q)) in
      let j = block_few b p hs s (hold_action p hs s a cs) all w in
      omega (arith, k, j)

  otherwise_few : (d : Otherwise) (p : ℕ) (hs : Homes) (s : Scope) (cs all : List Constant) → Within (hold_otherwise p hs s d cs) all → IsFew cs (hold_otherwise p hs s d cs) (otherwise_streams s.index d + otherwise_updates d + coded_otherwise all s.index d) (4 * otherwise_size s.index d)
  otherwise_few Nothing p hs s cs all w = omega arith
  otherwise_few (Else b) p hs s cs all w = let k = block_few b p hs s cs all w in omega (arith, k)

-- ---- a kernel

for_loop_next : (p : ℕ) (hs : Homes) (s : Scope) (o : Option PlainLoop) → AreNext p 0 (for_loop_numbers p hs s o)
for_loop_next p hs s None = tt
for_loop_next p hs s (Some l) = (block_held l.body p hs s []).next tt

pub numbers_next : (R : ℕ → ℕ) (k : Program) → AreNext (length k.params) 0 (held_numbers R k)
numbers_next R k = for_loop_next (length k.params) (kernel_homes R k) (var_scope k) k.for_loop

pub numbers_few : (R : ℕ → ℕ) (k : Program) (l : PlainLoop) → k.for_loop ≡ Some l → moving_words (held_loosely k) + loading_words (held_numbers R k) + coded_block (held_numbers R k) (var_scope k).index l.body ≤ 4 * block_size (var_scope k).index l.body
numbers_few R k l e =
    let p = length k.params in
    let hs = kernel_homes R k in
    let s = var_scope k in
    let cs = for_loop_numbers p hs s (Some l) in
    let f = block_few l.body p hs s [] cs (λ z q. q) in
    let n = loop_few l s k.answer (scope_index k ∙ ap (option_map index_of) e) in
    subst (λ ds. moving_words (held_loosely k) + loading_words ds + coded_block ds (var_scope k).index l.body ≤ 4 * block_size (var_scope k).index l.body) (ap (for_loop_numbers p hs s) (sym e))
    (subst (λ ls. moving_words ls + loading_words cs + coded_block cs (var_scope k).index l.body ≤ 4 * block_size (var_scope k).index l.body) (ap (λ o. for_loop_loose s o k.answer) (sym e)) (omega (arith, f, n)))

next_count : (p n : ℕ) (cs : List Constant) → n ≤ 9 → AreNext p n cs → length cs + n ≤ 9
next_count p n [] le h = omega (arith, le)
next_count p n (c ∷ cs) le h = let here = h.0 in let k = next_count p (n + 1) cs (omega (arith, here)) h.3 in omega (arith, k)

key_four : (z : Key) → key_words z ≤ 4
key_four (OfNumber z) = omega arith
key_four (OfAddress q c) = omega arith

load_four : (cs : List Constant) → loading_words cs ≤ 4 * length cs
load_four [] = omega arith
load_four (c ∷ cs) = let a = key_four c.key in let b = load_four cs in omega (arith, a, b)

-- at most nine registers
pub loading_words_le_36 : (R : ℕ → ℕ) (k : Program) → loading_words (held_numbers R k) ≤ 36
loading_words_le_36 R k = let h = next_count (length k.params) 0 (held_numbers R k) (omega arith) (numbers_next R k) in let f = load_four (held_numbers R k) in omega (arith, h, f)

-- ---- registers that fit, with the numbers and what is held loosely

pub assigned_with : (L : Layout) (p : ℕ) (cs : List Constant) (ls : List Loose) → AreNext p 0 cs → Assigned L → Assigned (with_loose (with_constants L cs) ls)
assigned_with L p cs ls next fit = record { low = fit.low; high = fit.high; apart = fit.apart; constants = λ z r e. next_low p 0 cs z r next e }

pub safe_with : (L : Layout) (cs : List Constant) (ls : List Loose) (p : ℕ) (hs : Homes) → AreSafe L p hs → AreSafe (with_loose (with_constants L cs) ls) p hs
safe_with L cs ls p [] h = tt
safe_with L cs ls p (x ∷ hs) h = (record { high = h.0.high; apart = h.0.apart }, safe_with L cs ls p hs h.1)

pub accumulators_with : (R : ℕ → ℕ) (L : Layout) (accs p : ℕ) (cs : List Constant) (ls : List Loose) → AreNext p 0 cs → AccumulatorRegisters R L accs → AccumulatorRegisters R (with_loose (with_constants L cs) ls) accs
accumulators_with R L accs p cs ls next s = record { fit = assigned_with L p cs ls next s.fit; high = s.high; free = s.free; differ = s.differ }

params_clear : (p n : ℕ) (ps : List Parameter) → n + length ps ≤ p → AreClear p (param_homes n ps)
params_clear p n [] h = tt
params_clear p n (q ∷ ps) h = (inl (omega (arith, h)), params_clear p (n + 1) ps (omega (arith, h)))

vars_clear : (R : ℕ → ℕ) (p j : ℕ) (vs : List Accumulator) → AreClear p (var_homes R j vs)
vars_clear R p j [] = tt
vars_clear R p j (v ∷ vs) = (inr (let h = counted-low (R j) in omega (arith, h)), vars_clear R p (j + 1) vs)

clear-append : (p : ℕ) (hs gs : Homes) → AreClear p hs → AreClear p gs → AreClear p (hs ++ gs)
clear-append p [] gs h k = k
clear-append p (x ∷ hs) gs h k = (h.0, clear-append p hs gs h.1 k)

pub kernel_clear : (R : ℕ → ℕ) (k : Program) → AreClear (length k.params) (kernel_homes R k)
kernel_clear R k = clear-append (length k.params) (param_homes 0 k.params) (var_homes R 0 k.vars) (params_clear (length k.params) 0 k.params (omega arith)) (vars_clear R (length k.params) 0 k.vars)
