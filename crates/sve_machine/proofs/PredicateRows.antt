-- Each row of predicates, FFR and counts.
use Rattle.std.proofs.Common.{◌≡◌, ℕ, ◌+◌, ◌%◌, ◌^◌, ◌<◌, Bool, List, [], ◌∷◌, refl, sym, ap, ap₂, ◌∙◌, subst, arith}
use Rattle.std.specs.Prelude.{slice_set, slice_index}
use Rattle.std.proofs.Math.Nat.{one-mul}
use Rattle.guest_types.specs.Memory.{Memory}
use Rattle.guest_types.specs.Length.{IsLength, width_bytes, lanes}
use Rattle.guest_types.specs.declared.length.Width.{Width}
use Rattle.guest_types.specs.declared.length.Width.TheVariants.{B}
use Rattle.guest_types.specs.declared.operation.PredOp.{PredOp}
use Rattle.guest_types.specs.declared.operation.PredOp.TheVariants as pred_ops
use Rattle.guest_types.specs.declared.operation.LaneCompare.{LaneCompare}
use Rattle.guest_types.specs.LaneMemory.{width_of_size}
use Rattle.guest_types.specs.Elements.{Flags, predicate, bit, active, both, pred_test}
use Rattle.guest_types.specs.Lanes.{all_at, while_at, logic_at, logic_of, brk_at, brk_of, compare_at, count_of}
use Rattle.guest_types.proofs.AtWidths.{lanes-bound, active-predicate, predicate-ext}
use Rattle.guest_types.proofs.Predicates.{and_twice}
use Rattle.sve_code.specs.Table.{Name, ptrue, pfalse, whilelo, ptest, rdffr, rdffr_z, setffr, wrffr, incp, cntp}
use Rattle.sve_code.specs.View.{pred_logic_name, break_form_name, count_name, compare_name}
use Rattle.sve_code.specs.declared.PredicateLogicalOp.{PredicateLogicalOp}
use Rattle.sve_code.specs.declared.PredicateLogicalOp.TheVariants as predicate_logical_ops
use Rattle.sve_code.specs.declared.BreakOp.{BreakOp}
use Rattle.sve_code.specs.declared.BreakOp.TheVariants as break_ops
use Rattle.sve_code.specs.declared.ElementCountOp.{ElementCountOp}
use Rattle.sve_code.specs.declared.ElementCountOp.TheVariants as element_count_ops
use Rattle.sve_code.specs.declared.VectorCompareOp.{VectorCompareOp}
use Rattle.sve_code.specs.declared.VectorCompareOp.TheVariants as vector_compare_ops
use Rattle.machine_model.specs.Arithmetic.{sum}
use Rattle.machine_model.specs.Machine.{State, Went, next, with_x, with_p, with_flags}
use Rattle.machine_model.specs.VectorEffects.{do_vector}
use Rattle.machine_model.specs.States.{IsPredicate}
use Rattle.machine_model.proofs.StateSteps.{truths_made, fills}
use Rattle.machine_model.proofs.StateLaws.{logic_whole, brk_whole, pred_test-ext}
use Rattle.a64_machine.specs.Cores.{VectorState, state_of, flags_kept}
use Rattle.a64_machine.specs.declared.core_state.Core.{Core}
use Rattle.sve_machine.specs.VectorStates.{z_of, p_of, put_p, put_ffr}
use Rattle.sve_machine.specs.Rows.{logic_op, logic_flags, is_after, count_width, comparison}
use Rattle.sve_machine.proofs.RegisterLanes.{IsP, IsZ}
use Rattle.sve_machine.proofs.LaneRows.{row_of, Leaves}

-- it goes on, and leaves these registers
abbrev pub CoreLeaves : Name → List ℕ → Core → VectorState → (after : Core) → VectorState → Type 0
CoreLeaves name numbers core r core2 r2 = (memory : Memory) → do_vector (row_of name numbers) (state_of core memory r) ≡ Went (next (state_of core2 memory r2))

-- ---- what the kernels leave

-- the elements in use, and the shape that they give
pub record IsTruths (r : VectorState) (w : Width) (f : ℕ → Bool) (out : List ℕ) : Type 0 where
  pub is : out ≡ predicate (width_bytes w) f (lanes r.vl w)
  pub shape : IsPredicate r.vl out

pub truths_are : (r : VectorState) (w : Width) (f : ℕ → Bool) (out : List ℕ) → IsLength r.vl → out ≡ predicate (width_bytes w) f (lanes r.vl w) → IsTruths r w f out
truths_are r w f out sized e = record {
  is = e;
  shape = subst (IsPredicate r.vl) (sym e) (truths_made r.vl (width_bytes w) f (lanes r.vl w) (fills r.vl w sized));
}

pub none_is : (r : VectorState) (out : List ℕ) → IsLength r.vl → out ≡ predicate 1 all_at 0 → IsPredicate r.vl out
none_is r out sized e = subst (IsPredicate r.vl) (sym e) (truths_made r.vl 1 all_at 0 (omega arith))

pub logic_are : (r : VectorState) (op : PredOp) (g n m : ℕ) (p l k out : List ℕ) → IsP r g p → IsP r n l → IsP r m k → out ≡ logic_of op p l k → IsTruths r B (logic_at op (p_of r g) (p_of r n) (p_of r m)) out
logic_are r op g n m p l k out hp hl hk e =
    truths_are r B (logic_at op (p_of r g) (p_of r n) (p_of r m)) out hp.sized
    (e ∙ logic_whole r.vl op p l k hp.sized hp.shape
    ∙ ap (λ a. predicate 1 (logic_at op a l k) (lanes r.vl B)) hp.value
    ∙ ap₂ (λ a b. predicate 1 (logic_at op (p_of r g) a b) (lanes r.vl B)) hl.value hk.value)

pub brk_are : (r : VectorState) (after : Bool) (g n : ℕ) (p l out : List ℕ) → IsP r g p → IsP r n l → out ≡ brk_of after p l → IsTruths r B (brk_at after (p_of r g) (p_of r n)) out
brk_are r after g n p l out hp hl e =
    truths_are r B (brk_at after (p_of r g) (p_of r n)) out hp.sized
    (e ∙ brk_whole r.vl after p l hp.sized hp.shape ∙ ap₂ (λ a b. predicate 1 (brk_at after a b) (lanes r.vl B)) hp.value hl.value)

-- the logical and of a register with itself is that register
pub ffr_are : (r : VectorState) (g : ℕ) (p f out : List ℕ) → IsP r g p → f ≡ r.ffr → out ≡ logic_of pred_ops.And p f f → IsTruths r B (both (bit (p_of r g)) (bit r.ffr)) out
ffr_are r g p f out hp ef e =
    truths_are r B (both (bit (p_of r g)) (bit r.ffr)) out hp.sized
    (e ∙ logic_whole r.vl pred_ops.And p f f hp.sized hp.shape
    ∙ ap₂ (λ a b. predicate 1 (logic_at pred_ops.And a b b) (lanes r.vl B)) hp.value ef
    ∙ predicate-ext B (logic_at pred_ops.And (p_of r g) r.ffr r.ffr) (both (bit (p_of r g)) (bit r.ffr)) (lanes r.vl B) (λ j lt. and_twice (bit (p_of r g) j) (bit r.ffr j)))

pub compare_are : (r : VectorState) (op : LaneCompare) (w : Width) (g n m : ℕ) (p l k out : List ℕ) → IsP r g p → IsZ r n l → IsZ r m k → out ≡ predicate (width_bytes w) (compare_at op w p l k) (lanes r.vl w) → IsTruths r w (compare_at op w (p_of r g) (z_of r n) (z_of r m)) out
compare_are r op w g n m p l k out hp hl hk e =
    truths_are r w (compare_at op w (p_of r g) (z_of r n) (z_of r m)) out hp.sized
    (e ∙ ap (λ a. predicate (width_bytes w) (compare_at op w a l k) (lanes r.vl w)) hp.value
    ∙ ap₂ (λ a b. predicate (width_bytes w) (compare_at op w (p_of r g) a b) (lanes r.vl w)) hl.value hk.value)

-- ---- the flags

-- the flags by the registers are those of the row's own mask and truths
pub flags_are : (vl : ℕ) (w : Width) (mask truth : ℕ → Bool) (m out : List ℕ) → IsLength vl → out ≡ predicate (width_bytes w) truth (lanes vl w) → ((e : ℕ) → e < lanes vl w → active w m e ≡ mask e) → pred_test (active w m) (active w out) (lanes vl w) ≡ pred_test mask truth (lanes vl w)
flags_are vl w mask truth m out sized e masks =
    pred_test-ext (active w m) mask (active w out) truth (lanes vl w) masks
    (λ i lt. ap (λ o. active w o i) e ∙ active-predicate w truth (lanes vl w) i lt (omega (arith, lt, (lanes-bound vl w sized).1)))

-- the elements of bytes are the bits
pub byte_active : (p : List ℕ) (e : ℕ) → active B p e ≡ bit p e
byte_active p e = ap (bit p) (one-mul e)

pub bits_active : (m : List ℕ) (p : List ℕ) → m ≡ p → (e : ℕ) → active B m e ≡ bit p e
bits_active m p is e = byte_active m e ∙ ap (λ o. bit o e) is

-- ---- the state that is left

pub tested_left : (core core2 : Core) (r : VectorState) (flags : Flags) → core2 ≡ record core { nzcv = core2.nzcv } → flags_kept core2.nzcv ≡ flags → (memory : Memory) → with_flags (state_of core memory r) flags ≡ state_of core2 memory r
tested_left core core2 r flags kept is memory =
    ap (λ f. with_flags (state_of core memory r) f) (sym is) ∙ sym (ap (λ k. state_of k memory r) kept)

pub x_left : (core core2 : Core) (r : VectorState) (d v : ℕ) → core2 ≡ record core { x = slice_set core.x d v } → (memory : Memory) → with_x (state_of core memory r) d v ≡ state_of core2 memory r
x_left core core2 r d v kept memory = sym (ap (λ k. state_of k memory r) kept)

-- a row that leaves a predicate register alone, or with the flags
pub p_row : (name : Name) (numbers : List ℕ) (r r2 : VectorState) (d : ℕ) (bits out : List ℕ) → ((core : Core) (memory : Memory) → do_vector (row_of name numbers) (state_of core memory r) ≡ Went (next (with_p (state_of core memory r) d bits))) → r2 ≡ put_p r d out → out ≡ bits → Leaves name numbers r r2
p_row name numbers r r2 d bits out here e is core memory = here core memory ∙ ap (λ x. Went (next (state_of core memory x))) (sym (e ∙ ap (put_p r d) is))

pub tested_row : (name : Name) (numbers : List ℕ) (core core2 : Core) (r r2 : VectorState) (d : ℕ) (bits out : List ℕ) (flags : Flags) → ((memory : Memory) → do_vector (row_of name numbers) (state_of core memory r) ≡ Went (next (with_flags (with_p (state_of core memory r) d bits) flags))) → r2 ≡ put_p r d out → out ≡ bits → core2 ≡ record core { nzcv = core2.nzcv } → flags_kept core2.nzcv ≡ flags → CoreLeaves name numbers core r core2 r2
tested_row name numbers core core2 r r2 d bits out flags here e is kept fl memory =
    let left : r2 ≡ put_p r d bits = e ∙ ap (put_p r d) is in
    here memory
    ∙ ap (λ (s : State). Went (next s)) (tested_left core core2 (put_p r d bits) flags kept fl memory)
    ∙ ap (λ x. Went (next (state_of core2 memory x))) (sym left)

pub x_row : (name : Name) (numbers : List ℕ) (core core2 : Core) (r : VectorState) (d v o : ℕ) → ((memory : Memory) → do_vector (row_of name numbers) (state_of core memory r) ≡ Went (next (with_x (state_of core memory r) d v))) → core2 ≡ record core { x = slice_set core.x d o } → o ≡ v → CoreLeaves name numbers core r core2 r
x_row name numbers core core2 r d v o here kept is memory =
    here memory ∙ ap (λ (s : State). Went (next s)) (x_left core core2 r d v (kept ∙ ap (λ n. record core { x = slice_set core.x d n }) is) memory)

-- a general register by its number
abbrev x_of : Core → ℕ → ℕ
x_of core n = slice_index core.x n

-- ---- the rows

pub true_row : (pd size : ℕ) (r r2 : VectorState) (w : Width) (out : List ℕ) → w ≡ width_of_size size → r2 ≡ put_p r pd out → out ≡ predicate (width_bytes w) all_at (lanes r.vl w) → Leaves ptrue (pd ∷ size ∷ []) r r2
true_row pd size r r2 w out ew e is =
    p_row ptrue (pd ∷ size ∷ []) r r2 pd (predicate (width_bytes (width_of_size size)) all_at (lanes r.vl (width_of_size size))) out (λ core memory. refl) e
    (is ∙ ap (λ a. predicate (width_bytes a) all_at (lanes r.vl a)) ew)

pub false_row : (pd : ℕ) (r r2 : VectorState) (out : List ℕ) → r2 ≡ put_p r pd out → out ≡ predicate 1 all_at 0 → Leaves pfalse (pd ∷ []) r r2
false_row pd r r2 out e is = p_row pfalse (pd ∷ []) r r2 pd (predicate 1 all_at 0) out (λ core memory. refl) e is

pub while_row : (pd rn rm size : ℕ) (core core2 : Core) (r r2 : VectorState) (w : Width) (from to : ℕ) (out : List ℕ) → w ≡ width_of_size size → from ≡ x_of core rn → to ≡ x_of core rm → out ≡ predicate (width_bytes w) (while_at from to) (lanes r.vl w) → r2 ≡ put_p r pd out → core2 ≡ record core { nzcv = core2.nzcv } → flags_kept core2.nzcv ≡ pred_test all_at (while_at from to) (lanes r.vl w) → CoreLeaves whilelo (pd ∷ rn ∷ rm ∷ size ∷ []) core r core2 r2
while_row pd rn rm size core core2 r r2 w from to out ew ef et eo e kept fl =
    let v = width_of_size size in
    let f = while_at (x_of core rn) (x_of core rm) in
    let is : out ≡ predicate (width_bytes v) f (lanes r.vl v) =
    eo ∙ ap (λ a. predicate (width_bytes a) (while_at from to) (lanes r.vl a)) ew ∙ ap₂ (λ a b. predicate (width_bytes v) (while_at a b) (lanes r.vl v)) ef et in
    tested_row whilelo (pd ∷ rn ∷ rm ∷ size ∷ []) core core2 r r2 pd (predicate (width_bytes v) f (lanes r.vl v)) out (pred_test all_at f (lanes r.vl v)) (λ memory. refl) e is kept
    (fl ∙ ap (λ a. pred_test all_at (while_at from to) (lanes r.vl a)) ew ∙ ap₂ (λ a b. pred_test all_at (while_at a b) (lanes r.vl v)) ef et)

pub test_row : (pn pg : ℕ) (core core2 : Core) (r : VectorState) (m out : List ℕ) → m ≡ p_of r pg → out ≡ p_of r pn → core2 ≡ record core { nzcv = core2.nzcv } → flags_kept core2.nzcv ≡ pred_test (active B m) (active B out) (lanes r.vl B) → CoreLeaves ptest (pn ∷ pg ∷ []) core r core2 r
test_row pn pg core core2 r m out em eo kept fl memory =
    let flags = pred_test (bit (p_of r pg)) (bit (p_of r pn)) (lanes r.vl B) in
    let is = fl ∙ pred_test-ext (active B m) (bit (p_of r pg)) (active B out) (bit (p_of r pn)) (lanes r.vl B) (λ e lt. bits_active m (p_of r pg) em e) (λ e lt. bits_active out (p_of r pn) eo e) in
    ap (λ (s : State). Went (next s)) (tested_left core core2 r flags kept is memory)

logic_here : (op : PredicateLogicalOp) (pd pn pg pm : ℕ) (core : Core) (r : VectorState) (memory : Memory) → let f = logic_at (logic_op op) (p_of r pg) (p_of r pn) (p_of r pm) in do_vector (row_of (pred_logic_name op) (pd ∷ pn ∷ pg ∷ pm ∷ [])) (state_of core memory r) ≡ Went (next (with_flags (with_p (state_of core memory r) pd (predicate 1 f (lanes r.vl B))) (logic_flags op (flags_kept core.nzcv) (pred_test (bit (p_of r pg)) f (lanes r.vl B)))))
logic_here predicate_logical_ops.And pd pn pg pm core r memory = refl
logic_here other pd pn pg pm core r memory = refl

pub logic_row : (op : PredicateLogicalOp) (pd pn pg pm : ℕ) (core core2 : Core) (r r2 : VectorState) (o : PredOp) (m out : List ℕ) → IsLength r.vl → o ≡ logic_op op → m ≡ p_of r pg → IsTruths r B (logic_at o (p_of r pg) (p_of r pn) (p_of r pm)) out → r2 ≡ put_p r pd out → core2 ≡ record core { nzcv = core2.nzcv } → flags_kept core2.nzcv ≡ logic_flags op (flags_kept core.nzcv) (pred_test (active B m) (active B out) (lanes r.vl B)) → CoreLeaves (pred_logic_name op) (pd ∷ pn ∷ pg ∷ pm ∷ []) core r core2 r2
logic_row op pd pn pg pm core core2 r r2 o m out sized eo em truths e kept fl =
    let f = logic_at (logic_op op) (p_of r pg) (p_of r pn) (p_of r pm) in
    let is : out ≡ predicate 1 f (lanes r.vl B) = truths.is ∙ ap (λ a. predicate 1 (logic_at a (p_of r pg) (p_of r pn) (p_of r pm)) (lanes r.vl B)) eo in
    tested_row (pred_logic_name op) (pd ∷ pn ∷ pg ∷ pm ∷ []) core core2 r r2 pd (predicate 1 f (lanes r.vl B)) out (logic_flags op (flags_kept core.nzcv) (pred_test (bit (p_of r pg)) f (lanes r.vl B)))
    (λ memory. logic_here op pd pn pg pm core r memory) e is kept
    (fl ∙ ap (logic_flags op (flags_kept core.nzcv)) (flags_are r.vl B (bit (p_of r pg)) f m out sized is (λ i lt. bits_active m (p_of r pg) em i)))

break_here : (op : BreakOp) (pd pn pg : ℕ) (r : VectorState) (core : Core) (memory : Memory) → do_vector (row_of (break_form_name op) (pd ∷ pn ∷ pg ∷ [])) (state_of core memory r) ≡ Went (next (with_p (state_of core memory r) pd (predicate 1 (brk_at (is_after op) (p_of r pg) (p_of r pn)) (lanes r.vl B))))
break_here break_ops.Brka pd pn pg r core memory = refl
break_here break_ops.Brkb pd pn pg r core memory = refl

pub break_row : (op : BreakOp) (pd pn pg : ℕ) (r r2 : VectorState) (after : Bool) (out : List ℕ) → after ≡ is_after op → IsTruths r B (brk_at after (p_of r pg) (p_of r pn)) out → r2 ≡ put_p r pd out → Leaves (break_form_name op) (pd ∷ pn ∷ pg ∷ []) r r2
break_row op pd pn pg r r2 after out ea truths e =
    p_row (break_form_name op) (pd ∷ pn ∷ pg ∷ []) r r2 pd (predicate 1 (brk_at (is_after op) (p_of r pg) (p_of r pn)) (lanes r.vl B)) out (break_here op pd pn pg r) e
    (truths.is ∙ ap (λ a. predicate 1 (brk_at a (p_of r pg) (p_of r pn)) (lanes r.vl B)) ea)

pub read_ffr_row : (pd : ℕ) (r r2 : VectorState) (out : List ℕ) → r2 ≡ put_p r pd out → out ≡ r.ffr → Leaves rdffr (pd ∷ []) r r2
read_ffr_row pd r r2 out e is = p_row rdffr (pd ∷ []) r r2 pd r.ffr out (λ core memory. refl) e is

pub read_under_row : (pd pg : ℕ) (r r2 : VectorState) (out : List ℕ) → IsTruths r B (both (bit (p_of r pg)) (bit r.ffr)) out → r2 ≡ put_p r pd out → Leaves rdffr_z (pd ∷ pg ∷ []) r r2
read_under_row pd pg r r2 out truths e = p_row rdffr_z (pd ∷ pg ∷ []) r r2 pd (predicate 1 (both (bit (p_of r pg)) (bit r.ffr)) (lanes r.vl B)) out (λ core memory. refl) e truths.is

pub set_ffr_row : (r r2 : VectorState) (out : List ℕ) → r2 ≡ put_ffr r out → out ≡ predicate 1 all_at (lanes r.vl B) → Leaves setffr [] r r2
set_ffr_row r r2 out e is core memory = ap (λ x. Went (next (state_of core memory x))) (sym (e ∙ ap (put_ffr r) is))

pub write_ffr_row : (pn : ℕ) (r r2 : VectorState) (out : List ℕ) → r2 ≡ put_ffr r out → out ≡ p_of r pn → Leaves wrffr (pn ∷ []) r r2
write_ffr_row pn r r2 out e is core memory = ap (λ x. Went (next (state_of core memory x))) (sym (e ∙ ap (put_ffr r) is))

count_here : (op : ElementCountOp) (rd : ℕ) (core : Core) (r : VectorState) (memory : Memory) → do_vector (row_of (count_name op) (rd ∷ [])) (state_of core memory r) ≡ Went (next (with_x (state_of core memory r) rd (lanes r.vl (count_width op))))
count_here element_count_ops.Cntb rd core r memory = refl
count_here other rd core r memory = refl

pub count_row : (op : ElementCountOp) (rd : ℕ) (core core2 : Core) (r : VectorState) (v : ℕ) → core2 ≡ record core { x = slice_set core.x rd v } → v ≡ lanes r.vl (count_width op) → CoreLeaves (count_name op) (rd ∷ []) core r core2 r
count_row op rd core core2 r v kept is = x_row (count_name op) (rd ∷ []) core core2 r rd (lanes r.vl (count_width op)) v (λ memory. count_here op rd core r memory) kept is

pub incp_row : (rd pm size : ℕ) (core core2 : Core) (r : VectorState) (w : Width) (m : List ℕ) (v n : ℕ) → w ≡ width_of_size size → m ≡ p_of r pm → n ≡ count_of w (lanes r.vl w) m m → v ≡ (x_of core rd + n) % 2 ^ 64 → core2 ≡ record core { x = slice_set core.x rd v } → CoreLeaves incp (rd ∷ pm ∷ size ∷ []) core r core2 r
incp_row rd pm size core core2 r w m v n ew em en ev kept =
    let s = width_of_size size in
    let is : n ≡ count_of s (lanes r.vl s) (p_of r pm) (p_of r pm) = en ∙ ap₂ (λ a b. count_of a (lanes r.vl a) b b) ew em in
    x_row incp (rd ∷ pm ∷ size ∷ []) core core2 r rd (sum (x_of core rd) (count_of s (lanes r.vl s) (p_of r pm) (p_of r pm))) v (λ memory. refl) kept
    (ev ∙ ap (sum (x_of core rd)) is)

pub cntp_row : (rd pn pg size : ℕ) (core core2 : Core) (r : VectorState) (w : Width) (m p : List ℕ) (v : ℕ) → w ≡ width_of_size size → m ≡ p_of r pg → p ≡ p_of r pn → v ≡ count_of w (lanes r.vl w) m p → core2 ≡ record core { x = slice_set core.x rd v } → CoreLeaves cntp (rd ∷ pn ∷ pg ∷ size ∷ []) core r core2 r
cntp_row rd pn pg size core core2 r w m p v ew em ep ev kept =
    let s = width_of_size size in
    x_row cntp (rd ∷ pn ∷ pg ∷ size ∷ []) core core2 r rd (count_of s (lanes r.vl s) (p_of r pg) (p_of r pn)) v (λ memory. refl) kept
    (ev ∙ ap (λ a. count_of a (lanes r.vl a) m p) ew ∙ ap₂ (count_of s (lanes r.vl s)) em ep)

compare_here : (op : VectorCompareOp) (pd zn pg zm size : ℕ) (core : Core) (r : VectorState) (memory : Memory) → let w = width_of_size size in let f = compare_at (comparison op) w (p_of r pg) (z_of r zn) (z_of r zm) in do_vector (row_of (compare_name op) (pd ∷ zn ∷ pg ∷ zm ∷ size ∷ [])) (state_of core memory r) ≡ Went (next (with_flags (with_p (state_of core memory r) pd (predicate (width_bytes w) f (lanes r.vl w))) (pred_test (active w (p_of r pg)) f (lanes r.vl w))))
compare_here vector_compare_ops.Hs pd zn pg zm size core r memory = refl
compare_here other pd zn pg zm size core r memory = refl

pub compare_row : (op : VectorCompareOp) (pd zn pg zm size : ℕ) (core core2 : Core) (r r2 : VectorState) (o : LaneCompare) (w : Width) (m out : List ℕ) → IsLength r.vl → o ≡ comparison op → w ≡ width_of_size size → m ≡ p_of r pg → IsTruths r w (compare_at o w (p_of r pg) (z_of r zn) (z_of r zm)) out → r2 ≡ put_p r pd out → core2 ≡ record core { nzcv = core2.nzcv } → flags_kept core2.nzcv ≡ pred_test (active w m) (active w out) (lanes r.vl w) → CoreLeaves (compare_name op) (pd ∷ zn ∷ pg ∷ zm ∷ size ∷ []) core r core2 r2
compare_row op pd zn pg zm size core core2 r r2 o w m out sized eo ew em truths e kept fl =
    let v = width_of_size size in
    let f = compare_at (comparison op) v (p_of r pg) (z_of r zn) (z_of r zm) in
    let is : out ≡ predicate (width_bytes v) f (lanes r.vl v) = truths.is ∙ ap₂ (λ a b. predicate (width_bytes b) (compare_at a b (p_of r pg) (z_of r zn) (z_of r zm)) (lanes r.vl b)) eo ew in
    tested_row (compare_name op) (pd ∷ zn ∷ pg ∷ zm ∷ size ∷ []) core core2 r r2 pd (predicate (width_bytes v) f (lanes r.vl v)) out (pred_test (active v (p_of r pg)) f (lanes r.vl v))
    (λ memory. compare_here op pd zn pg zm size core r memory) e is kept
    (fl ∙ ap (λ a. pred_test (active a m) (active a out) (lanes r.vl a)) ew ∙ flags_are r.vl v (active v (p_of r pg)) f m out sized is (λ i lt. ap (λ a. active v a i) em))
