-- The bytes that a stop of a chunk leaves open are near the scalar loop's fault.
use Rattle.std.proofs.Common.{◌≡◌, ℕ, suc, ◌+◌, ◌/◌, ◌%◌, ◌^◌, ◌<◌, ◌≤◌, Bool, true, false, List, [], ◌∷◌, Option, Some, None, refl, sym, ap, ◌∙◌, arith, inl, inr}
use Rattle.std.specs.Prelude.{ℤ, pos, ◌+ℤ◌, ◌*ℤ◌, Contains, is_some, option_map, option_and_then, slice_get, slice_index}
use Rattle.guest_types.specs.Memory.{Memory, Page, IsMemory, byte_of, page_at, byte_at, can_read}
use Rattle.guest_types.proofs.Stores.{can_read-below}
use Rattle.kernel_tree.specs.declared.ops.Ty.{Ty}
use Rattle.kernel_tree.specs.declared.ast.Shape.{Shape}
use Rattle.kernel_tree.specs.Plain.{Parameter, Program}
use Rattle.kernel_tree.specs.Typing.{element_type, binding_of_shape}
use Rattle.kernel_meaning.specs.Eval.{address}
use Rattle.kernel_meaning.proofs.Residues.{word-add}
use Rattle.loop_form.specs.declared.stream.Stream.{Stream}
use Rattle.loop_form.specs.Streams.{streams_of, elements_of, type_of_place, In}
use Rattle.dependence.specs.Apart.{bound_place}
use Rattle.vector_order.specs.Apart.{base_of}
use Rattle.vector_order.specs.Elsewhere.{Elsewhere}
use Rattle.promises.specs.Faithful.{byte_address, IsNearFault}
use Rattle.kernel_compile.proofs.ApartBoth.{base_given}
use Rattle.kernel_tree.specs.declared.ast.Shape.TheVariants as shape
use Rattle.kernel_tree.specs.Wrap.{byte_count}

-- ---- addresses that are no words

unmapped : (memory : Memory) (a : ℕ) → can_read memory a ≡ false → byte_at memory a ≡ None
unmapped memory a e = by (page_at memory (a / 4096)) e
  where
    by : (o : Option Page) → is_some o ≡ false → option_map (λ page. byte_of page a) o ≡ None
    by None e = refl
    by (Some page) e = absurd cc

no_page : (memory : Memory) (a : ℕ) → IsMemory memory → 2 ^ 64 ≤ a → can_read memory a ≡ false
no_page memory a is high = by (can_read memory a) refl
  where
    by : (b : Bool) → can_read memory a ≡ b → b ≡ false
    by false e = refl
    by true e = let low = can_read-below memory a is e in absurd (omega (arith, low, high))

-- two memories that map what a third does have no byte there
pub both_unmapped : (memory left faulted : Memory) (a : ℕ) → IsMemory memory → 2 ^ 64 ≤ a → can_read left a ≡ can_read memory a → can_read faulted a ≡ can_read memory a → byte_at left a ≡ byte_at faulted a
both_unmapped memory left faulted a is high l f = let none = no_page memory a is high in unmapped left a (l ∙ none) ∙ sym (unmapped faulted a (f ∙ none))

-- ---- elements

contained : (s : Stream) (ss : List Stream) → In s ss → Contains ss s
contained s [] h = elim h [ ]
contained s (t ∷ ts) (inl e) = (0, omega arith, e)
contained s (t ∷ ts) (inr h) = let r = contained s ts h in (suc r.0, (let l = r.1 in omega (arith, l)), r.2)

record Declared (ps : List Parameter) (p : ℕ) (t : Ty) : Type 0 where
  param : Parameter
  is : slice_get ps p ≡ Some param
  typed : param.shape ≡ shape.Array t

array_shape : (h : Shape) (t : Ty) → element_type (binding_of_shape h) ≡ Some t → h ≡ shape.Array t
array_shape (shape.Scalar u) t e = absurd cc
array_shape (shape.Array u) t e = let same : u ≡ t = cc in ap shape.Array same

declared : (ps : List Parameter) (p : ℕ) (t : Ty) → type_of_place ps p ≡ Some t → Declared ps p t
declared ps p t e = by (slice_get ps p) refl e
  where
    by : (o : Option Parameter) → slice_get ps p ≡ o → option_and_then elements_of o ≡ Some t → Declared ps p t
    by None f e = absurd cc
    by (Some q) f e = record { param = q; is = f; typed = array_shape q.shape t e }

pub wrapped_twice : (w j : ℕ) → (w + j % 2 ^ 64) % 2 ^ 64 ≡ (w + j) % 2 ^ 64
wrapped_twice w j = omega arith

-- byte j of element i + c of an array
same_address : (t : Ty) (base : ℕ) (c : ℤ) (i j : ℕ) → byte_address t base c i j ≡ (address t (pos base) (pos i +ℤ c) + j) % 2 ^ 64
same_address t base c i j = word-add (pos base +ℤ pos (byte_count t) *ℤ (pos i +ℤ c)) (pos j) ∙ wrapped_twice (address t (pos base) (pos i +ℤ c)) j

-- Of a chunk of n lanes from iteration i on, the last one of whose bg iterations faults, L lanes at most: a byte that is not near
-- the fault is no element that the lanes store.
pub elsewhere : (k : Program) (args : List ℕ) (L bg i n z : ℕ) → n ≤ L → i + n ≤ slice_index args (bound_place k) → i < bg → bg ≤ i + n → (IsNearFault k args L bg z → ⊥) → Elsewhere k args i n z
elsewhere k args L bg i n z few within from until far s t j u listed stored typed low high byte here =
    let d = declared k.params s.param t typed in
    let base : base_of k args s.param ≡ pos (slice_index args s.param) = base_given k.params args s.param t typed in
    far (record {
      stream = s;
      listed = contained s (streams_of k) listed;
      stored = stored;
      param = d.param;
      declared = d.is;
      type = t;
      typed = d.typed;
      i = j;
      from = omega (arith, until, few, low);
      until = omega (arith, from, few, high);
      within = omega (arith, high, within);
      j = u;
      byte = byte;
      here = sym here ∙ ap (λ b. (address t b (pos j +ℤ s.offset) + u) % 2 ^ 64) base ∙ sym (same_address t (slice_index args s.param) s.offset j u);
    })
