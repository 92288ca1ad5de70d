-- A resolved expression has the value of its expression.
use Rattle.std.proofs.Common.{◌≡◌, ℕ, ◌+◌, ◌*◌, ◌%◌, ◌^◌, ◌≤◌, List, Option, Some, None, length, refl, sym, ap, ap₂, ◌∙◌, arith}
use Rattle.std.specs.Prelude.{ℤ, pos, ◌+ℤ◌, ◌*ℤ◌, option_map, option_and_then, not, false}
use Rattle.std.proofs.lemmas.List.{get_or_past}
use Rattle.kernel_tree.specs.declared.ops.Ty.{Ty}
use Rattle.kernel_tree.specs.declared.ops.Ty.TheVariants as ty
use Rattle.kernel_tree.specs.Wrap.{wrap, byte_count}
use Rattle.kernel_tree.specs.Items.{stream_offset}
use Rattle.kernel_tree.specs.Plain as plain
use Rattle.kernel_tree.specs.Typing.{Scope, Local, own, index_type, side_type, array_type}
use Rattle.guest_types.specs.Memory.{Memory, loaded}
use Rattle.kernel_meaning.specs.Operators.{word, unary_value, binary_value, shift_value, compare_on}
use Rattle.kernel_meaning.specs.Eval.{Names, value_at, address, read_value, read_element, iteration, element_number, on_both, chosen, and_then, or_else, value, holds}
use Rattle.kernel_plan.specs.Trees.{Tree}
use Rattle.kernel_eval.specs.Slots.{Slots, slot_at, stream_number, tree_value, tree_holds}
use Rattle.kernel_plan.specs.Resolve.{most_slots, index_slot, read_tree, resolved}
use Rattle.kernel_meaning.proofs.Residues.{word-below, word-mul, word-add}
use Rattle.kernel_eval.proofs.HeldSlots.{AreInSlots, value-held}

-- ---- addresses

pub address-word : (t : Ty) (base x y : ℤ) → word x ≡ word y → address t base x ≡ address t base y
address-word t base x y e =
    let n = pos (byte_count t) in
    word-add base (n *ℤ x) ∙ ap (λ m. (word base + m) % 2 ^ 64) (word-mul n x ∙ ap (λ m. (word n * m) % 2 ^ 64) e ∙ sym (word-mul n y)) ∙ sym (word-add base (n *ℤ y))

word-wrap : (z : ℤ) → word (wrap ty.U64 z) ≡ word z
word-wrap z = let h = word-below z in omega arith

-- the number of an element, modulo 2^64
stream-word : (i c : ℤ) → word (wrap ty.U64 (i +ℤ wrap ty.U64 c)) ≡ word (i +ℤ c)
stream-word i c =
    word-wrap (i +ℤ wrap ty.U64 c) ∙ word-add i (wrap ty.U64 c) ∙ ap (λ m. (word i + m) % 2 ^ 64) (word-wrap c) ∙ sym (word-add i c)

-- two numbers of elements that have the same address, or none both
pub data Alike : Option ℤ → Option ℤ → Type 0 where
  Neither : Alike None None
  Words : (x y : ℤ) → word x ≡ word y → Alike (Some x) (Some y)

read-alike : (t : Option Ty) (memory : Memory) (base : ℤ) (o p : Option ℤ) → Alike o p → option_and_then (read_element t memory base) o ≡ option_and_then (read_element t memory base) p
read-alike t memory base _ _ Neither = refl
read-alike None memory base _ _ (Words x y e) = refl
read-alike (Some t) memory base _ _ (Words x y e) = ap (λ a. read_value t (loaded memory a (byte_count t))) (address-word t base x y e)

index-held : (ls : List Local) (index : Option (List ℕ)) (ns : Names) (vs : Slots) → AreInSlots ls ns vs → length vs ≤ most_slots → slot_at vs (index_slot ls index) ≡ iteration index ns
index-held ls None ns vs h le = get_or_past vs most_slots (pos 0) le
index-held ls (Some i) ns vs h le = value-held ls ns vs i h le

-- the number of a stream's element is that of the kernel, modulo 2^64
pub stream-alike : (s : Scope) (c : ℤ) (ns : Names) (vs : Slots) → AreInSlots s.visible ns vs → length vs ≤ most_slots → word (stream_number (slot_at vs (index_slot s.visible s.index)) (wrap ty.U64 c)) ≡ word (iteration s.index ns +ℤ c)
stream-alike s c ns vs h le = stream-word (slot_at vs (index_slot s.visible s.index)) c ∙ ap (λ i. word (i +ℤ c)) (index-held s.visible s.index ns vs h le)

-- an element is that of the kernel
read-same : (s : Scope) (a : List ℕ) (c : Option ℤ) (t : Tree) (o : Option ℤ) (memory : Memory) (ns : Names) (vs : Slots) → AreInSlots s.visible ns vs → length vs ≤ most_slots → tree_value t memory vs ≡ o → tree_value (read_tree s a c t) memory vs ≡ option_and_then (read_element (array_type s a) memory (value_at ns a)) (element_number c (iteration s.index ns) o)
read-same s a None t o memory ns vs h le e =
    ap₂ (λ base p. option_and_then (read_element (array_type s a) memory base) p) (value-held s.visible ns vs a h le) e
read-same s a (Some c) t o memory ns vs h le e =
    let number = stream_number (slot_at vs (index_slot s.visible s.index)) (wrap ty.U64 c) in
    ap (λ base. read_element (array_type s a) memory base number) (value-held s.visible ns vs a h le)
    ∙ read-alike (array_type s a) memory (value_at ns a) (Some number) (Some (iteration s.index ns +ℤ c)) (Words number (iteration s.index ns +ℤ c) (stream-alike s c ns vs h le))

-- an element is no condition
read-holds : (s : Scope) (a : List ℕ) (c : Option ℤ) (t : Tree) (memory : Memory) (vs : Slots) → tree_holds (read_tree s a c t) memory vs ≡ Some false
read-holds s a None t memory vs = refl
read-holds s a (Some c) t memory vs = refl

-- ---- expressions

pub record Same (s : Scope) (e : plain.Term) (memory : Memory) (ns : Names) (vs : Slots) : Type 0 where
  pub value_is : (want : Option Ty) → tree_value (resolved s want e) memory vs ≡ value s want e memory ns
  pub holds_is : (want : Option Ty) → tree_holds (resolved s want e) memory vs ≡ holds s e memory ns

pub resolved_value_is_same : (s : Scope) (e : plain.Term) (memory : Memory) (ns : Names) (vs : Slots) → AreInSlots s.visible ns vs → length vs ≤ most_slots → Same s e memory ns vs
resolved_value_is_same s (plain.Literal n) memory ns vs h le = record { value_is = λ want. refl; holds_is = λ want. refl }
resolved_value_is_same s (plain.Variable x) memory ns vs h le = record { value_is = λ want. ap Some (value-held s.visible ns vs x h le); holds_is = λ want. refl }
resolved_value_is_same s (plain.Element a i) memory ns vs h le =
    let inner = (resolved_value_is_same s i memory ns vs h le).value_is (index_type s i) in
    let read = read-same s a (stream_offset s.index i) (resolved s (index_type s i) i) (value s (index_type s i) i memory ns) memory ns vs h le inner in
    record { value_is = λ want. read; holds_is = λ want. read-holds s a (stream_offset s.index i) (resolved s (index_type s i) i) memory vs }
resolved_value_is_same s (plain.Unary op e) memory ns vs h le =
    let r = resolved_value_is_same s e memory ns vs h le in
    record { value_is = λ want. ap (option_map (unary_value op want)) (r.value_is want); holds_is = λ want. refl }
resolved_value_is_same s (plain.Operation op a b) memory ns vs h le =
    let r = resolved_value_is_same s a memory ns vs h le in
    let q = resolved_value_is_same s b memory ns vs h le in
    record { value_is = λ want. ap₂ (on_both (binary_value op want)) (r.value_is want) (q.value_is want); holds_is = λ want. refl }
resolved_value_is_same s (plain.Shift left e n) memory ns vs h le =
    let r = resolved_value_is_same s e memory ns vs h le in
    record { value_is = λ want. ap (option_map (shift_value left n want)) (r.value_is want); holds_is = λ want. refl }
resolved_value_is_same s (plain.Conversion e t) memory ns vs h le =
    let r = resolved_value_is_same s e memory ns vs h le in
    record { value_is = λ want. ap (option_map (wrap t)) (r.value_is (own s e)); holds_is = λ want. refl }
resolved_value_is_same s (plain.Choice c a b) memory ns vs h le =
    let r = resolved_value_is_same s c memory ns vs h le in
    let p = resolved_value_is_same s a memory ns vs h le in
    let q = resolved_value_is_same s b memory ns vs h le in
    record { value_is = λ want. ap₂ (λ x y. chosen x y (tree_holds (resolved s None c) memory vs)) (p.value_is want) (q.value_is want) ∙ ap (chosen (value s want a memory ns) (value s want b memory ns)) (r.holds_is None); holds_is = λ want. refl }
resolved_value_is_same s (plain.Comparison op a b) memory ns vs h le =
    let p = resolved_value_is_same s a memory ns vs h le in
    let q = resolved_value_is_same s b memory ns vs h le in
    record { value_is = λ want. refl; holds_is = λ want. ap₂ (on_both (compare_on op)) (p.value_is (side_type s a b)) (q.value_is (side_type s a b)) }
resolved_value_is_same s (plain.Both a b) memory ns vs h le =
    let p = resolved_value_is_same s a memory ns vs h le in
    let q = resolved_value_is_same s b memory ns vs h le in
    record { value_is = λ want. refl; holds_is = λ want. ap₂ and_then (p.holds_is None) (q.holds_is None) }
resolved_value_is_same s (plain.Either a b) memory ns vs h le =
    let p = resolved_value_is_same s a memory ns vs h le in
    let q = resolved_value_is_same s b memory ns vs h le in
    record { value_is = λ want. refl; holds_is = λ want. ap₂ or_else (p.holds_is None) (q.holds_is None) }
resolved_value_is_same s (plain.Not e) memory ns vs h le =
    let r = resolved_value_is_same s e memory ns vs h le in
    record { value_is = λ want. refl; holds_is = λ want. ap (option_map not) (r.holds_is None) }
