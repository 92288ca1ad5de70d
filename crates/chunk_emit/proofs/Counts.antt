-- How many words items have.
use Rattle.std.proofs.Common.{◌≡◌, ℕ, suc, ◌+◌, ◌≤◌, ℤ, pos, zero, Bool, true, false, List, [], ◌∷◌, ◌++◌, length, Option, Some, None, refl, sym, ap, subst, arith}
use Rattle.std.specs.Prelude.{if◌then◌else◌, nat_eq}
use Rattle.std.proofs.lemmas.List.{length-append}
use Rattle.guest_types.specs.declared.length.Width.{Width}
use Rattle.kernel_tree.specs.declared.ops.Ty.{Ty}
use Rattle.kernel_tree.specs.declared.ops.Ty.TheVariants as ty
use Rattle.kernel_tree.specs.declared.ops.UnaryOp.{UnaryOp}
use Rattle.kernel_tree.specs.declared.ops.UnaryOp.TheVariants as unary
use Rattle.kernel_tree.specs.declared.ops.BinaryOp.{BinaryOp}
use Rattle.kernel_tree.specs.declared.ops.BinaryOp.TheVariants as binary
use Rattle.kernel_tree.specs.declared.ops.CompareOp.{CompareOp}
use Rattle.kernel_tree.specs.declared.ops.CompareOp.TheVariants as compare
use Rattle.kernel_tree.specs.Wrap.{is_signed, log_bytes}
use Rattle.sve_code.specs.Table.{Name, m_abs, m_mul}
use Rattle.machine_model.specs.InstructionTable.{Listed}
use Rattle.loop_form.specs.LoopItems.{Op, Item}
use Rattle.loop_form.specs.LoopItems as ops
use Rattle.close_bound.specs.CloseBound.{offset_steps, lane_steps, items_steps}
use Rattle.lane_emit.specs.Right.{fits}
use Rattle.lane_emit.specs.Stretch.{VectorInstruction, word}
use Rattle.lane_emit.specs.LaneCode.{size_of, least_name, greatest_name, unary_leaves, binary_leaves, z_copy, extension, z_extend, z_settle, unary_code, merged, binary_code, shift_by, cast_code, test_code}
use Rattle.lane_emit.specs.ItemCode.{Registers, op_code, mask_register}
use Rattle.chunk_emit.specs.Registers.{Layout, z_of, base_of}
use Rattle.chunk_emit.specs.ChunkCode.{with_index, gather_by, cut_reach, gather_code, vectors, op_words, item_words, is_made, past_cast, either_words, items_words}
use Rattle.chunk_emit.specs.ItemsRun.{FewWords}

either_few : {A : Type 0} (b : Bool) (xs ys : List A) (n : ℕ) → length xs ≤ n → length ys ≤ n → length (if b then xs else ys) ≤ n
either_few true xs ys n h k = h
either_few false xs ys n h k = k

copy_few : (d a n : ℕ) (rest : List VectorInstruction) → length rest ≤ n → length (z_copy d a rest) ≤ suc n
copy_few d a n rest h = either_few (nat_eq d a) _ _ (suc n) (omega (arith, h)) (omega (arith, h))

extension_few : (t : Ty) (w : Width) (d a : ℕ) → length (extension t w d a) ≤ 1
extension_few ty.I8 w d a = omega arith
extension_few ty.U8 w d a = omega arith
extension_few ty.I16 w d a = omega arith
extension_few ty.U16 w d a = omega arith
extension_few ty.I32 w d a = omega arith
extension_few ty.U32 w d a = omega arith
extension_few ty.I64 w d a = copy_few d a 0 [] (omega arith)
extension_few ty.U64 w d a = copy_few d a 0 [] (omega arith)

extend_few : (w : Width) (t : Ty) (d a : ℕ) → length (z_extend w t d a) ≤ 1
extend_few w t d a = either_few _ (z_copy d a []) (extension t w d a) 1 (copy_few d a 0 [] (omega arith)) (extension_few t w d a)

settle_few : (b : Bool) (w : Width) (t : Ty) (d : ℕ) → length (z_settle b w t d) ≤ 1
settle_few true w t d = extend_few w t d d
settle_few false w t d = omega arith

at_most : (n k : ℕ) (xs : List VectorInstruction) → length xs ≤ n → n ≤ k → length xs ≤ k
at_most n k xs h le = omega (arith, h, le)

unary_few : (w : Width) (op : UnaryOp) (t : Ty) (d a : ℕ) → length (unary_code w op t d a) ≤ 2
unary_few w unary.Neg t d a = let h = settle_few (unary_leaves unary.Neg t) w t d in omega (arith, h)
unary_few w unary.Flip t d a = let h = settle_few (unary_leaves unary.Flip t) w t d in omega (arith, h)
unary_few w unary.Abs t d a =
    let h = settle_few (unary_leaves unary.Abs t) w t d in
    either_few (is_signed t) (word m_abs (d ∷ a ∷ 1 ∷ size_of w ∷ []) ∷ z_settle (unary_leaves unary.Abs t) w t d) (z_copy d a []) 2 (omega (arith, h)) (at_most 1 2 (z_copy d a []) (copy_few d a 0 [] (omega arith)) (omega arith))

merged_few : (w : Width) (name : Name) (d a b : ℕ) (rest : List VectorInstruction) → length rest ≤ 1 → length (merged w name d a b rest) ≤ 3
merged_few w name d a b rest h =
    let second = word name (d ∷ b ∷ 1 ∷ size_of w ∷ []) ∷ rest in
    either_few (nat_eq d b) (word name (d ∷ a ∷ 1 ∷ size_of w ∷ []) ∷ rest) (z_copy d a second) 3 (omega (arith, h)) (copy_few d a 2 second (omega (arith, h)))

binary_few : (w : Width) (op : BinaryOp) (t : Ty) (d a b : ℕ) → length (binary_code w op t d a b) ≤ 3
binary_few w binary.Add t d a b = let h = settle_few (binary_leaves binary.Add) w t d in omega (arith, h)
binary_few w binary.Sub t d a b = let h = settle_few (binary_leaves binary.Sub) w t d in omega (arith, h)
binary_few w binary.Mul t d a b = merged_few w m_mul d a b (z_settle (binary_leaves binary.Mul) w t d) (settle_few (binary_leaves binary.Mul) w t d)
binary_few w binary.And t d a b = let h = settle_few (binary_leaves binary.And) w t d in omega (arith, h)
binary_few w binary.Or t d a b = let h = settle_few (binary_leaves binary.Or) w t d in omega (arith, h)
binary_few w binary.Xor t d a b = let h = settle_few (binary_leaves binary.Xor) w t d in omega (arith, h)
binary_few w binary.Min t d a b = merged_few w (least_name t) d a b (z_settle (binary_leaves binary.Min) w t d) (settle_few (binary_leaves binary.Min) w t d)
binary_few w binary.Max t d a b = merged_few w (greatest_name t) d a b (z_settle (binary_leaves binary.Max) w t d) (settle_few (binary_leaves binary.Max) w t d)

shift_few : (w : Width) (left : Bool) (c : ℕ) (t : Ty) (d a : ℕ) → length (shift_by w left c t d a) ≤ 2
shift_few w true c t d a = let h = settle_few true w t d in omega (arith, h)
shift_few w false c t d a = either_few (nat_eq c 0) (z_copy d a []) _ 2 (at_most 1 2 (z_copy d a []) (copy_few d a 0 [] (omega arith)) (omega arith)) (omega arith)

cast_few : (w : Width) (s t : Ty) (d a : ℕ) → length (cast_code w s t d a) ≤ 1
cast_few w s t d a = either_few (fits s t) (z_copy d a []) (z_extend w t d a) 1 (copy_few d a 0 [] (omega arith)) (extend_few w t d a)

test_few : (w : Width) (op : CompareOp) (t : Ty) (d m a b : ℕ) → length (test_code w op t d m a b) ≤ 1
test_few w compare.Eq t d m a b = omega arith
test_few w other t d m a b = omega arith

-- the code of an operation that is none of a read, a store, an update and a break
op_few : (w : Width) (r : Registers) (q m : ℕ) (op : Op) → length (op_code w r q m op) ≤ lane_steps op
op_few w r q m (ops.Unary op (Some t) x) = unary_few w op t (r.z q) (r.source x)
op_few w r q m (ops.Binary op (Some t) x y) = binary_few w op t (r.z q) (r.source x) (r.source y)
op_few w r q m (ops.Shift left k (Some t) x) = shift_few w left _ t (r.z q) (r.source x)
op_few w r q m (ops.Cast (Some t) to x) = cast_few w t to (r.z q) (r.source x)
op_few w r q m (ops.Let t x) = copy_few (r.z q) (r.source x) 0 [] (omega arith)
op_few w r q m (ops.Select t c x y) = omega arith
op_few w r q m (ops.Compare op (Some t) x y) = test_few w op t (r.p q) m (r.source x) (r.source y)
op_few w r q m other = omega arith

-- ---- items

index_few : (c : ℤ) (v : Listed) → length (with_index c (v ∷ [])) ≤ 1 + offset_steps c
index_few (pos zero) v = omega arith
index_few other v = omega arith

vectors-length : (vs : List VectorInstruction) → length (vectors vs) ≡ length vs
vectors-length [] = refl
vectors-length (v ∷ vs) = ap suc (vectors-length vs)

pub used_few : (w : Width) (l : Layout) (q m : ℕ) (op : Op) (b : Bool) → length (if b then vectors (op_code w l.registers q m op) else []) ≤ lane_steps op
used_few w l q m op true = subst (λ n. n ≤ lane_steps op) (sym (vectors-length (op_code w l.registers q m op))) (op_few w l.registers q m op)
used_few w l q m op false = omega arith

gather_by_few : (k : ℕ) (t : Ty) (d m base index : ℕ) → length (vectors (gather_by k t d m base index)) ≤ 2
gather_by_few zero t d m base index = omega arith
gather_by_few (suc k) t d m base index = omega arith

gather_few : (cut : Option ℕ) (t : Ty) (d m base index : ℕ) → length (vectors (gather_code t cut d m base index)) ≤ 3
gather_few None t d m base index = let few = gather_by_few (log_bytes t) t d m base index in omega (arith, few)
gather_few (Some n) t d m base index = let few = gather_by_few (log_bytes t) t d m base d in omega (arith, few)

words_few : (w : Width) (l : Layout) (q m : ℕ) (op : Op) → length (op_words w l q m op) ≤ lane_steps op
words_few w l q m (ops.Load a base (Some t) c) = index_few c _
words_few w l q m (ops.Load a base None c) = used_few w l q m (ops.Load a base None c) _
words_few w l q m (ops.Gather a base (Some t) c (Some u) x) = gather_few (cut_reach c u) t (z_of l q) m (base_of base) (l.registers.source x)
words_few w l q m (ops.Gather a base (Some t) c None x) = used_few w l q m (ops.Gather a base (Some t) c None x) _
words_few w l q m (ops.Gather a base None c u x) = used_few w l q m (ops.Gather a base None c u x) _
words_few w l q m (ops.Unary op t x) = used_few w l q m (ops.Unary op t x) _
words_few w l q m (ops.Binary op t x y) = used_few w l q m (ops.Binary op t x y) _
words_few w l q m (ops.Shift left k t x) = used_few w l q m (ops.Shift left k t x) _
words_few w l q m (ops.Cast s t x) = used_few w l q m (ops.Cast s t x) _
words_few w l q m (ops.Let t x) = used_few w l q m (ops.Let t x) _
words_few w l q m (ops.Select t c x y) = used_few w l q m (ops.Select t c x y) _
words_few w l q m (ops.Store a base (Some t) c v) = index_few c _
words_few w l q m (ops.Store a base None c v) = used_few w l q m (ops.Store a base None c v) _
words_few w l q m (ops.Update x op (Some t) v) = omega arith
words_few w l q m (ops.Update x op None v) = used_few w l q m (ops.Update x op None v) _
words_few w l q m (ops.Compare op t x y) = used_few w l q m (ops.Compare op t x y) _
words_few w l q m (ops.Not c) = used_few w l q m (ops.Not c) _
words_few w l q m (ops.And c) = used_few w l q m (ops.And c) _
words_few w l q m (ops.Or c d) = used_few w l q m (ops.Or c d) _
words_few w l q m (ops.Break c) = used_few w l q m (ops.Break c) _

-- a store has as many words, whatever it takes from a cast
abbrev steps_if : Option Op → ℕ
steps_if None = 0
steps_if (Some op) = lane_steps op

past_few : (q : ℕ) (op next : Op) → steps_if (past_cast q op next) ≤ lane_steps next
past_few q (ops.Cast s t x) (ops.Store a base ty c v) = by (is_made q v)
  where
    by : (b : Bool) → steps_if (if b then Some (ops.Store a base ty c x) else None) ≤ 1 + offset_steps c
    by true = omega arith
    by false = omega arith
past_few q _ _ = omega arith

joined_few : (w : Width) (l : Layout) (next : Item) (o : Option Op) (both following : List Listed) (here n : ℕ) → steps_if o ≤ lane_steps next.op → length both ≤ here + (lane_steps next.op + n) → length following ≤ n → length (either_words w l next o both following) ≤ here + (lane_steps next.op + n)
joined_few w l next None both following here n le h k = h
joined_few w l next (Some op) both following here n le h k =
    let few = words_few w l next.item (mask_register l.registers next.mask) op in
    subst (λ c. c ≤ here + (lane_steps next.op + n)) (sym (length-append (item_words w l (record next { op = op })) following)) (omega (arith, k, few, le))

pub few_words : FewWords
few_words w l [] = omega arith
few_words w l (it ∷ []) = let here = words_few w l it.item (mask_register l.registers it.mask) it.op in omega (arith, here)
few_words w l (it ∷ next ∷ items) =
    let here = words_few w l it.item (mask_register l.registers it.mask) it.op in
    let following = few_words w l (next ∷ items) in
    let both : length (item_words w l it ++ items_words w l (next ∷ items)) ≤ lane_steps it.op + (lane_steps next.op + items_steps false items) =
    subst (λ c. c ≤ lane_steps it.op + (lane_steps next.op + items_steps false items)) (sym (length-append (item_words w l it) (items_words w l (next ∷ items)))) (omega (arith, here, following)) in
    joined_few w l next (past_cast it.item it.op next.op) (item_words w l it ++ items_words w l (next ∷ items)) (items_words w l items) (lane_steps it.op) (items_steps false items) (past_few it.item it.op next.op) both (few_words w l items)
