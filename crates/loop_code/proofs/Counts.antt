-- How many words the code of a kernel has: at most four for each item, and a few more.
use Rattle.std.proofs.Common.{◌≡◌, ℕ, suc, ◌+◌, ◌*◌, ◌≤◌, Bool, true, false, List, [], ◌∷◌, ◌++◌, length, Option, Some, None, refl, ap, ◌∙◌, arith}
use Rattle.std.specs.Prelude.{ℤ, nat_lt, option_map, option_and_then, if◌then◌else◌}
use Rattle.kernel_tree.specs.declared.ops.Ty.{Ty}
use Rattle.kernel_tree.specs.declared.ast.Shape.{Shape}
use Rattle.kernel_tree.specs.Plain.{Action, Define, Put as PutTo, Update, Choose, Leave, Block, Done, Then, Otherwise, Nothing, Else, Parameter, Accumulator, PlainLoop, Returned, Program}
use Rattle.kernel_tree.specs.Items.{term_size, action_size, block_size, otherwise_size, vars_size, for_loop_size, answer_size, index_of, stream_offset, loop_index, size_of, loop_start, loop_end}
use Rattle.kernel_tree.specs.Typing.{Scope, lookup, own, first, element_type, accumulator_type, after_action, after_block, left, in_loop, after_for_loop, param_scope, var_scope}
use Rattle.kernel_tree.proofs.Scopes.{index_after, param_index, scope_index}
use Rattle.kernel_meaning.specs.Operators.{operator_of}
use Rattle.value_code.specs.Extents.{extent_at}
use Rattle.value_code.specs.declared.extent.Extent.TheVariants.{Whole}
use Rattle.label_fix.specs.DraftRun.{DraftEntry}
use Rattle.label_fix.specs.Finished.{size}
use Rattle.scalar_words.specs.Layout.{Form, LowBits, Ahead, Behind, Loose, loose_in, Layout, Homes, last_use_at, register_at}
use Rattle.value_code.specs.ValueRegisters.{home}
use Rattle.scalar_words.specs.Words.{copy_word, settle_word, word_code}
use Rattle.value_code.specs.ItemWords.{index_word, store_code}
use Rattle.value_code.specs.Code.{place_of, added_number, is_fused, right_side}
use Rattle.loop_code.specs.Statements.{after_homes, block_labels, is_bare, put_code, placed_put, update_extent, update_settles, action_code, block_code, otherwise_code}
use Rattle.loop_code.specs.Loosening.{held_loosely}
use Rattle.loop_code.specs.LoopNumbers.{loop_layout}
use Rattle.loop_code.specs.Loop.{answer_code, with_index, bare, enter_word, enter_code, settle_form, settle_code, back_code, loop_code}
use Rattle.loop_code.proofs.SetupRuns.{numbers_words}
use Rattle.loop_code.proofs.HoldBlocks.{loading_words_le_36}
use Rattle.loop_code.proofs.LooseBlocks.{few_loose}
use Rattle.value_code.specs.HeldNumbers.{loading_words}
use Rattle.scalar_words.specs.KernelRegisters.{counted_x, var_home, layout_of_kernel, param_homes, kernel_homes}
use Rattle.loop_code.specs.Kernel.{argument_code, arguments_code, vars_code, zero_index, begin_code, for_loop_code, scalar_code}
use Rattle.kernel_scope.specs.Scopes.{after_var}
use Rattle.scalar_words.proofs.WordCounts.{le_of_le_of_le, one_word}
use Rattle.value_code.proofs.ValueCounts.{operator_code_words, loose_words, jump_words, side_words, parts_words}
use Rattle.kernel_tree.specs.declared.ast.Shape.TheVariants as shape

store_words : (o : Option Ty) (d p r : ℕ) (rest : List DraftEntry) (k : ℕ) → size rest ≤ k → size (store_code o d p r rest) ≤ 1 + k
store_words None d p r rest k h = omega (arith, h)
store_words (Some t) d p r rest k h = omega (arith, h)

let_words : (t : Bool) (r from : ℕ) (rest : List DraftEntry) (k : ℕ) → size rest ≤ k → size (if t then word_code (copy_word r from) rest else rest) ≤ 1 + k
let_words true r from rest k h = one_word (copy_word r from) rest k h
let_words false r from rest k h = omega (arith, h)

put_words : (o : Option ℤ) (t : Option Ty) (from p : ℕ) (rest : List DraftEntry) (k : ℕ) → size rest ≤ k → size (put_code o t from p rest) ≤ 2 + k
put_words None t from p rest k h = omega (arith, h)
put_words (Some c) t from p rest k h = le_of_le_of_le (omega arith) (one_word (index_word c) _ _ (store_words t from p _ rest k h))

placed_words : (place : Option ℕ) (inner : List DraftEntry → List DraftEntry) (t : Option Ty) (from : ℕ) (rest : List DraftEntry) (k : ℕ) → size rest ≤ k → (size rest ≤ k → size (inner rest) ≤ 2 + k) → size (placed_put place inner t from rest) ≤ 2 + k
placed_words (Some r) inner t from rest k h f = le_of_le_of_le (omega arith) (store_words t from r 9 rest k h)
placed_words None inner t from rest k h f = f h

argument_words : (x : Shape) (n : ℕ) (rest : List DraftEntry) (k : ℕ) → size rest ≤ k → size (argument_code x n rest) ≤ 1 + k
argument_words (shape.Scalar t) n rest k h = one_word (settle_word true t n) rest k h
argument_words (shape.Array t) n rest k h = omega (arith, h)

arguments_words : (n : ℕ) (ps : List Parameter) (rest : List DraftEntry) (k : ℕ) → size rest ≤ k → size (arguments_code n ps rest) ≤ length ps + k
arguments_words n [] rest k h = omega (arith, h)
arguments_words n (p ∷ ps) rest k h = le_of_le_of_le (omega arith) (argument_words p.shape n _ _ (arguments_words (n + 1) ps rest k h))

suc_le_suc : {a k : ℕ} → a ≤ k → suc a ≤ suc k
suc_le_suc h = omega (arith, h)

-- ---- statements

block_index : (s : Scope) (a : Action) (b : Block) → block_size (after_action s a).index b ≡ block_size s.index b
block_index s a b = ap (λ i. block_size i b) (index_after s a)

module _ (L : Layout) where
  mutual
    action_words : (a : Action) (hs : Homes) (s : Scope) (exit b n : ℕ) (rest : List DraftEntry) (k : ℕ) → size rest ≤ k → size (action_code L hs s exit b n a rest) ≤ 4 * action_size s.index a + k
    action_words (Define x t e) hs s exit b n rest k h =
        let q = b + term_size s.index e in
        le_of_le_of_le (omega arith) (loose_words L hs e s Whole (first t (own s e)) b n _ _ (let_words (nat_lt q (last_use_at L q)) _ _ rest k h))
    action_words (PutTo a i e) hs s exit b n rest k h =
        let T = option_and_then element_type (lookup s a) in
        le_of_le_of_le (omega arith) (side_words None (is_bare s (extent_at T) e) (4 * term_size s.index e) _ _ _ _ (placed_words (place_of L (register_at hs a) T (stream_offset s.index i)) _ _ _ rest k h (λ h. put_words (stream_offset s.index i) _ _ _ rest k h)) (λ g. loose_words L hs e s _ _ b n _ _ g) (λ g. parts_words L hs e s _ _ b n _ _ g))
    action_words (Update x op e) hs s exit b n rest k h =
        let want = option_and_then accumulator_type (lookup s x) in
        let o = operator_of op in
        let j = update_extent L.loose x o want in
        le_of_le_of_le (omega arith) (side_words (added_number o want e) (is_fused s o j want e) (4 * term_size s.index e) _ _ _ _ (operator_code_words (right_side L hs s o j want b e) (update_settles L.loose x o want) want o _ _ rest k h) (λ g. loose_words L hs e s j want b n _ _ g) (λ g. parts_words L hs e s j want b n _ _ g))
    action_words (Choose c blk d) hs s exit b n rest k h =
        le_of_le_of_le (omega arith) (jump_words L hs c s false _ b _ _ _ (block_words blk hs s exit _ _ _ _ (otherwise_words d hs (left s (after_block s blk)) exit n _ _ rest k h)))
    action_words (Leave c) hs s exit b n rest k h = le_of_le_of_le (omega arith) (jump_words L hs c s true exit b n _ _ h)

    block_words : (blk : Block) (hs : Homes) (s : Scope) (exit b n : ℕ) (rest : List DraftEntry) (k : ℕ) → size rest ≤ k → size (block_code L hs s exit b n blk rest) ≤ 4 * block_size s.index blk + k
    block_words Done hs s exit b n rest k h = omega (arith, h)
    block_words (Then a more) hs s exit b n rest k h =
        let same = block_index s a more in
        le_of_le_of_le (omega (arith, same)) (action_words a hs s exit b n _ _ (block_words more (after_homes L hs s b a) (after_action s a) exit _ _ rest k h))

    otherwise_words : (d : Otherwise) (hs : Homes) (s : Scope) (exit other b n : ℕ) (rest : List DraftEntry) (k : ℕ) → size rest ≤ k → size (otherwise_code L hs s exit other b n d rest) ≤ 4 * otherwise_size s.index d + k
    otherwise_words Nothing hs s exit other b n rest k h = omega (arith, h)
    otherwise_words (Else blk) hs s exit other b n rest k h = le_of_le_of_le (omega arith) (suc_le_suc (block_words blk hs s exit (b + 1) (n + 1) _ k h))

  -- ---- the loop and what follows it

  answer_words : (hs : Homes) (s : Scope) (b n : ℕ) (o : Option Returned) (rest : List DraftEntry) (k : ℕ) → size rest ≤ k → size (answer_code L hs s b n o rest) ≤ 4 * answer_size s.index o + 3 + k
  answer_words hs s b n None rest k h = omega (arith, h)
  answer_words hs s b n (Some a) rest k h = le_of_le_of_le (omega arith) (loose_words L hs a.value s Whole (Some a.type) b n _ _ (one_word (copy_word 0 (home L hs s.index b a.value)) _ _ (suc_le_suc (suc_le_suc h))))

  -- ---- before the loop

  vars_words : (R : ℕ → ℕ) (hs : Homes) (s : Scope) (j b n : ℕ) (vs : List Accumulator) (rest : List DraftEntry) (k : ℕ) → size rest ≤ k → size (vars_code L R hs s j b n vs rest) ≤ 4 * vars_size s.index vs + k
  vars_words R hs s j b n [] rest k h = omega (arith, h)
  vars_words R hs s j b n (v ∷ vs) rest k h =
      le_of_le_of_le (omega arith) (loose_words L hs v.init s Whole (Some v.type) b n _ _ (one_word (copy_word (counted_x (R j)) (home L hs s.index b v.init)) _ _ (vars_words R (hs ++ var_home R j v ∷ []) (after_var s v) (j + 1) _ _ vs rest k h)))

-- ---- the loop

enter_words : (r : ℕ) (hs : Homes) (ls : List Loose) (rest : List DraftEntry) (k : ℕ) → size rest ≤ k → size (enter_code r hs ls rest) ≤ length ls + k
enter_words r hs [] rest k h = omega (arith, h)
enter_words r hs (l ∷ ls) rest k h = le_of_le_of_le (omega arith) (one_word (enter_word r (register_at hs l.name) l.form) _ _ (enter_words r hs ls rest k h))

settle_words : (r : ℕ) (hs : Homes) (ls : List Loose) (rest : List DraftEntry) (k : ℕ) → size rest ≤ k → size (settle_code r hs ls rest) ≤ length ls + k
settle_words r hs [] rest k h = omega (arith, h)
settle_words r hs (l ∷ ls) rest k h = le_of_le_of_le (omega arith) (one_word (settle_form r (register_at hs l.name) l.form) _ _ (settle_words r hs ls rest k h))

back_words : (f : Option Form) (r n : ℕ) (rest : List DraftEntry) (k : ℕ) → size rest ≤ k → size (back_code f r n rest) ≤ 2 + k
back_words None r n rest k h = omega (arith, h)
back_words (Some (LowBits t)) r n rest k h = omega (arith, h)
back_words (Some (Ahead t)) r n rest k h = omega (arith, h)
back_words (Some Behind) r n rest k h = omega (arith, h)

loop_words : (L : Layout) (hs : Homes) (s : Scope) (t : PlainLoop) (b n b2 : ℕ) (o : Option Returned) (rest : List DraftEntry) (k : ℕ) → size rest ≤ k → size (loop_code L hs s t b n b2 o rest) ≤ 4 * (1 + block_size s.index t.body) + 4 * answer_size s.index o + 4 + (2 * length L.loose + loading_words L.constants) + k
loop_words L hs s t b n b2 o rest k h =
    let hs1 = with_index hs t in
    let r = register_at hs t.bound in
    le_of_le_of_le (omega arith) (suc_le_suc (suc_le_suc (enter_words r hs1 L.loose _ _ (numbers_words L.constants _ _ (block_words L t.body hs1 (in_loop s t) (n + 3) (b + 1) (n + 4) _ _ (suc_le_suc (back_words (loose_in L.loose t.index) r n _ _ (settle_words r hs1 L.loose _ _ (answer_words (bare L) hs1 (after_for_loop s (Some t)) b2 (n + 4 + block_labels s.index t.body) o rest k h)))))))))

-- ---- kernels

for_loop_words : (L : Layout) (hs : Homes) (s : Scope) (i : Option (List ℕ)) (t : Option PlainLoop) (b n b2 : ℕ) (o : Option Returned) (rest : List DraftEntry) (k : ℕ) → s.index ≡ i → i ≡ option_map index_of t → size rest ≤ k → size (for_loop_code L hs s t b n b2 o rest) ≤ 4 * for_loop_size t + 4 * answer_size i o + 4 + (2 * length L.loose + loading_words L.constants) + k
for_loop_words L hs s i None b n b2 o rest k e f h = let q = ap (λ i. answer_size i o) e in le_of_le_of_le (omega (arith, q)) (answer_words (bare L) hs s b2 (n + 1) o rest k h)
for_loop_words L hs s i (Some t) b n b2 o rest k e f h =
    let q = ap (λ i. answer_size i o) e in
    let r = ap (λ i. block_size i t.body) (e ∙ f) in
    le_of_le_of_le (omega (arith, q, r)) (loop_words L hs s t b n b2 o rest k h)

-- a word for each parameter, four for each item of the accumulators, and one
pub begin_close : (R : ℕ → ℕ) (k : Program) (n : ℕ) (rest : List DraftEntry) → size (begin_code R k n rest) ≤ 1 + length k.params + 4 * vars_size (loop_index k) k.vars + size rest
begin_close R k n rest =
    let q = ap (λ i. vars_size i k.vars) (param_index k) in
    le_of_le_of_le (omega (arith, q)) (arguments_words 0 k.params _ _ (vars_words (layout_of_kernel R k) R (param_homes 0 k.params) (param_scope k) 0 (length k.params) n k.vars (zero_index rest) (suc (size rest)) (omega arith)))

-- four words for each item of the loop and of the returned value, two for each name that is held loosely, and 40
pub scalar_close : (R : ℕ → ℕ) (k : Program) (n : ℕ) (rest : List DraftEntry) → size (scalar_code R k n rest) ≤ 4 * for_loop_size k.for_loop + 4 * answer_size (loop_index k) k.answer + 2 * length (held_loosely k) + 40 + size rest
scalar_close R k n rest =
    let few = loading_words_le_36 R k in
    le_of_le_of_le (omega (arith, few)) (for_loop_words (loop_layout R k) (kernel_homes R k) (var_scope k) (loop_index k) k.for_loop (loop_start k) n (loop_end k) k.answer rest (size rest) (scope_index k) refl (omega arith))

pub begin_words : (R : ℕ → ℕ) (k : Program) (n : ℕ) (rest : List DraftEntry) → size (begin_code R k n rest) ≤ 40 + 8 * size_of k + size rest
begin_words R k n rest =
    let q = ap (λ i. vars_size i k.vars) (param_index k) in
    le_of_le_of_le (omega (arith, q)) (arguments_words 0 k.params _ _ (vars_words (layout_of_kernel R k) R (param_homes 0 k.params) (param_scope k) 0 (length k.params) n k.vars (zero_index rest) (suc (size rest)) (omega arith)))

pub scalar_words : (R : ℕ → ℕ) (k : Program) (n : ℕ) (rest : List DraftEntry) → size (scalar_code R k n rest) ≤ 64 + 16 * size_of k + size rest
scalar_words R k n rest =
    let few = loading_words_le_36 R k in
    let loose = few_loose k in
    le_of_le_of_le (omega (arith, few, loose)) (for_loop_words (loop_layout R k) (kernel_homes R k) (var_scope k) (loop_index k) k.for_loop (loop_start k) n (loop_end k) k.answer rest (size rest) (scope_index k) refl (omega arith))
