-- The code of iterations, and of what stands before and after them.
use Rattle.std.proofs.Common.{◌≡◌, ℕ, ◌+◌, ◌<◌, ◌≤◌, suc, true, List, [], ◌∷◌, ◌++◌, length, Option, Some, None, refl, arith}
use Rattle.kernel_tree.specs.declared.ast.Shape.{Shape}
use Rattle.kernel_tree.specs.Plain.{Parameter, Accumulator, PlainLoop, Returned, Program}
use Rattle.kernel_tree.specs.Items.{term_size, loop_start, loop_end}
use Rattle.kernel_tree.specs.Typing.{Scope, in_loop, after_for_loop, param_scope, var_scope, check_fault}
use Rattle.kernel_meaning.specs.Operators.{word}
use Rattle.reg_assign.specs.declared.interval.RegClass.TheVariants.{X}
use Rattle.reg_assign.specs.Registers.{Assignment}
use Rattle.loop_form.specs.Registers.{FitsKernel}
use Rattle.label_fix.specs.DraftRun.{DraftEntry}
use Rattle.scalar_words.specs.Layout.{Key, OfNumber, OfAddress, Constant, Form, LowBits, Ahead, Behind, Loose, loose_in, Layout, Homes, reg_of, register_at}
use Rattle.scalar_words.specs.Words.{settle_word, copy_word}
use Rattle.scalar_words.specs.KernelRegisters.{counted_x, layout_of_kernel, param_homes, var_home, kernel_homes, register_in}
use Rattle.value_code.specs.declared.extent.Extent.TheVariants.{Whole}
use Rattle.value_code.specs.HeldNumbers.{AreNext}
use Rattle.value_code.specs.ValueRegisters.{home}
use Rattle.value_code.specs.Code.{labels}
use Rattle.value_code.specs.ItemWords.{add_word}
use Rattle.loop_code.specs.Statements.{block_labels}
use Rattle.loop_code.specs.LoopNumbers.{loop_layout}
use Rattle.loop_code.specs.Loop.{index_home, answer_code, with_index, bare, enter_word, enter_code, settle_form, settle_code, back_code, key_code, numbers_code, loop_code, AreHeldLoosely, FitsLoop}
use Rattle.loop_code.specs.Kernel.{argument_code, arguments_code, vars_code, zero_index, begin_code, for_loop_code, scalar_code, after_var}
use Rattle.loop_code.specs.KernelFits.{KernelFits}
use Rattle.loop_code.proofs.KernelRuns.{fits}
use Rattle.reserved_registers.specs.Alone.{AreAlone, StaysAlone, ExitsOnce}
use Rattle.reserved_registers.proofs.Entries.{put_alone}
use Rattle.reserved_registers.proofs.FreeRegisters.{Free, free_below, counted_free, layout_free, AreFree, more_free, names_free, name_free, assigned_below}
use Rattle.reserved_registers.proofs.ScalarWords.{written, LeavesIf, one_alone, const_alone, copy_leaves, settle_leaves}
use Rattle.reserved_registers.proofs.Values.{add_leaves, loose_alone}
use Rattle.reserved_registers.proofs.Statements.{block_alone}
use Rattle.kernel_tree.specs.declared.ast.Shape.TheVariants as shape

-- ---- before the loop

argument_alone : (exits : ℕ) (x : Shape) (n : ℕ) (rest : List DraftEntry) → n < 8 → AreAlone exits rest → AreAlone exits (argument_code x n rest)
argument_alone exits (shape.Scalar t) n rest lt h = one_alone exits (settle_word true t n) rest (settle_leaves true t n (free_below n (omega (arith, lt))).kept) h
argument_alone exits (shape.Array t) n rest lt h = h

arguments_alone : (exits : ℕ) (n : ℕ) (ps : List Parameter) (rest : List DraftEntry) → n + length ps ≤ 8 → AreAlone exits rest → AreAlone exits (arguments_code n ps rest)
arguments_alone exits n [] rest few h = h
arguments_alone exits n (p ∷ ps) rest few h = argument_alone exits p.shape n _ (omega arith) (arguments_alone exits (n + 1) ps rest (omega (arith, few)) h)

module _ (R : ℕ → ℕ) (below : (j : ℕ) → R j < 15) where
  vars_alone : (exits : ℕ) (L : Layout) (hs : Homes) (s : Scope) (j b n : ℕ) (vs : List Accumulator) (rest : List DraftEntry) → ((p : ℕ) → Free (reg_of L p)) → AreAlone exits rest → AreAlone exits (vars_code L R hs s j b n vs rest)
  vars_alone exits L hs s j b n [] rest free h = h
  vars_alone exits L hs s j b n (v ∷ vs) rest free h =
      let d = counted_x (R j) in
      let a = home L hs s.index b v.init in
      loose_alone L free hs exits v.init s Whole (Some v.type) b n _ (one_alone exits (copy_word d a) _ (copy_leaves d a (counted_free (R j) (below j)).kept) (vars_alone exits L (hs ++ var_home R j v ∷ []) (after_var s v) (j + 1) (b + term_size s.index v.init + 1) (n + labels s.index v.init) vs rest free h))

  pub begin_alone : (k : Program) (n : ℕ) → length k.params ≤ 8 → StaysAlone (begin_code R k n)
  begin_alone k n few exits rest h =
      arguments_alone exits 0 k.params _ (omega (arith, few)) (vars_alone exits (layout_of_kernel R k) (param_homes 0 k.params) (param_scope k) 0 (length k.params) n k.vars (zero_index rest) (layout_free R below k) (refl, h))

-- ---- registers that are set before the iterations and after them

enter_leaves : (r q : ℕ) (form : Form) → Free q → LeavesIf (enter_word r q form)
enter_leaves r q (LowBits t) f = tt
enter_leaves r q (Ahead t) f = written f.kept
enter_leaves r q Behind f = written f.kept

settle_form_leaves : (r q : ℕ) (form : Form) → Free q → LeavesIf (settle_form r q form)
settle_form_leaves r q (LowBits t) f = settle_leaves true t q f.kept
settle_form_leaves r q (Ahead t) f = tt
settle_form_leaves r q Behind f = written f.kept

enter_alone : (exits : ℕ) (r : ℕ) (hs : Homes) (s : Scope) (p : ℕ) (ls : List Loose) (rest : List DraftEntry) → AreFree hs → AreHeldLoosely hs s p ls → AreAlone exits rest → AreAlone exits (enter_code r hs ls rest)
enter_alone exits r hs s p [] rest f held h = h
enter_alone exits r hs s p (l ∷ ls) rest f held h =
    let q = register_at hs l.name in
    one_alone exits (enter_word r q l.form) _ (enter_leaves r q l.form (name_free hs l.name p f held.0.1.0)) (enter_alone exits r hs s p ls rest f held.1 h)

settle_alone : (exits : ℕ) (r : ℕ) (hs : Homes) (s : Scope) (p : ℕ) (ls : List Loose) (rest : List DraftEntry) → AreFree hs → AreHeldLoosely hs s p ls → AreAlone exits rest → AreAlone exits (settle_code r hs ls rest)
settle_alone exits r hs s p [] rest f held h = h
settle_alone exits r hs s p (l ∷ ls) rest f held h =
    let q = register_at hs l.name in
    one_alone exits (settle_form r q l.form) _ (settle_form_leaves r q l.form (name_free hs l.name p f held.0.1.0)) (settle_alone exits r hs s p ls rest f held.1 h)

back_alone : (exits : ℕ) (f : Option Form) (r n : ℕ) (rest : List DraftEntry) → AreAlone exits rest → AreAlone exits (back_code f r n rest)
back_alone exits (Some Behind) r n rest h = h
back_alone exits other r n rest h = (refl, h)

key_alone : (exits : ℕ) (z : Key) (d : ℕ) (rest : List DraftEntry) → Free d → AreAlone exits rest → AreAlone exits (key_code z d rest)
key_alone exits (OfNumber z) d rest f h = const_alone exits d (word z) rest f.kept h
key_alone exits (OfAddress q c) d rest f h = put_alone exits (add_word (word c) d q) rest (add_leaves (word c) d q f) h

numbers_alone : (exits : ℕ) (p n : ℕ) (cs : List Constant) (rest : List DraftEntry) → AreNext p n cs → AreAlone exits rest → AreAlone exits (numbers_code cs rest)
numbers_alone exits p n [] rest next h = h
numbers_alone exits p n (c ∷ cs) rest next h = key_alone exits c.key c.register _ (free_below c.register (let e = next.0 in omega (arith, e))) (numbers_alone exits p (n + 1) cs rest next.3 h)

-- ---- the loop and what follows it

answer_alone : (exits : ℕ) (L : Layout) (hs : Homes) (s : Scope) (b n : ℕ) (o : Option Returned) (rest : List DraftEntry) → ((p : ℕ) → Free (reg_of L p)) → AreAlone exits rest → AreAlone (suc exits) (answer_code L hs s b n o rest)
answer_alone exits L hs s b n None rest free h = (refl, (refl, (refl, (refl, h))))
answer_alone exits L hs s b n (Some a) rest free h =
    let r = home L hs s.index b a.value in
    loose_alone L free hs (suc exits) a.value s Whole (Some a.type) b n _ (one_alone (suc exits) (copy_word 0 r) _ (copy_leaves 0 r (free_below 0 (omega arith)).kept) (refl, (refl, (refl, h))))

loop_alone : (exits : ℕ) (L : Layout) (hs : Homes) (s : Scope) (t : PlainLoop) (b n b2 : ℕ) (o : Option Returned) (rest : List DraftEntry) → ((p : ℕ) → Free (reg_of L p)) → AreFree hs → FitsLoop L hs s t b b2 o → AreAlone exits rest → AreAlone (suc exits) (loop_code L hs s t b n b2 o rest)
loop_alone exits L hs s t b n b2 o rest free names fit h =
    let hs1 = with_index hs t in
    let r = register_at hs t.bound in
    let f = more_free hs (index_home t.index) names (free_below 9 (omega arith)) in (
      refl,
      enter_alone (suc exits) r hs1 (in_loop s t) b L.loose _ f fit.loosely
          (numbers_alone (suc exits) fit.params 0 L.constants _ fit.next
          (block_alone L free (suc exits) t.body hs1 (in_loop s t) (n + 3) (b + 1) (n + 4) _ f fit.body (
            refl,
            back_alone (suc exits) (loose_in L.loose t.index) r n _
                (settle_alone (suc exits) r hs1 (in_loop s t) b L.loose _ f fit.loosely
                (answer_alone exits (bare L) hs1 (after_for_loop s (Some t)) b2 (n + 4 + block_labels s.index t.body) o rest free h)),
          ))),
    )

-- ---- kernels

for_loop_alone : (exits : ℕ) (L : Layout) (hs : Homes) (s : Scope) (t : Option PlainLoop) (b n b2 : ℕ) (o : Option Returned) (rest : List DraftEntry) → ((p : ℕ) → Free (reg_of L p)) → AreFree hs → ((l : PlainLoop) → t ≡ Some l → FitsLoop L hs s l b b2 o) → AreAlone exits rest → AreAlone (suc exits) (for_loop_code L hs s t b n b2 o rest)
for_loop_alone exits L hs s None b n b2 o rest free names fit h = answer_alone exits (bare L) hs s b2 (n + 1) o rest free h
for_loop_alone exits L hs s (Some t) b n b2 o rest free names fit h = loop_alone exits L hs s t b n b2 o rest free names (fit t refl) h

pub scalar_alone : (R : ℕ → ℕ) (k : Program) (n : ℕ) → ((j : ℕ) → R j < 15) → length k.params ≤ 8 → KernelFits R k → ExitsOnce (scalar_code R k n)
scalar_alone R k n below few fit exits rest h =
    for_loop_alone exits (loop_layout R k) (kernel_homes R k) (var_scope k) k.for_loop (loop_start k) n (loop_end k) k.answer rest (layout_free R below k) (names_free R below k few) fit.looped h

-- ---- registers that were assigned

pub begin_stays : (k : Program) (a : Assignment) → length k.params ≤ 8 → FitsKernel k X a → (n : ℕ) → StaysAlone (begin_code (register_in a) k n)
begin_stays k a few f n = begin_alone (register_in a) (assigned_below k a f) k n few

pub scalar_stays : (k : Program) (a : Assignment) → check_fault k ≡ None → length k.params ≤ 8 → FitsKernel k X a → (n : ℕ) → ExitsOnce (scalar_code (register_in a) k n)
scalar_stays k a typed few f n = scalar_alone (register_in a) k n (assigned_below k a f) few (fits k a typed few f)
