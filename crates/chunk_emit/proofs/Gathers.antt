-- The code of a read at a computed index does what the read does over the lanes of the chunk.
use Rattle.std.proofs.Common.{◌≡◌, ℕ, zero, suc, ◌+◌, ◌%◌, ◌^◌, ◌<◌, ◌≤◌, ℤ, pos, negsuc, ◌*ℤ◌, Bool, true, false, ◌&&◌, cond, List, [], ◌∷◌, length, Option, Some, None, refl, sym, ap, ap₂, ◌∙◌, subst, arith, inl, get_or-set_same}
use Rattle.std.specs.Prelude.{is_some, nat_eq, slice_index, slice_index_or, if◌then◌else◌}
use Rattle.std.proofs.lemmas.Bool.{ne_eqb, and_parts}
use Rattle.std.proofs.Math.IntN.{*ℤ_comm}
use Rattle.std.proofs.lemmas.Int.{ints}
use Rattle.guest_types.specs.declared.length.Width.TheVariants.{D}
use Rattle.guest_types.specs.declared.operation.ShiftOp.TheVariants as shifts
use Rattle.guest_types.specs.Length.{width_bytes, modulus, lanes}
use Rattle.guest_types.specs.Memory.{can_read, first_fault, number_at}
use Rattle.guest_types.specs.Elements.{at, active, register, first_true, both}
use Rattle.guest_types.specs.Lanes.{shift_at, shifted}
use Rattle.guest_types.specs.LaneMemory.{LoadForm, load_form, extended, loaded_lane, lane_fault, lane_faults, read_fault, fault_at, or_fault, plain_load}
use Rattle.guest_types.proofs.Stores.{number_at-below}
use Rattle.guest_types.proofs.AtWidths.{at-register}
use Rattle.kernel_tree.specs.declared.ops.Ty.{Ty}
use Rattle.kernel_tree.specs.declared.ops.Ty.TheVariants as ty
use Rattle.kernel_tree.specs.Wrap.{wrap, bits_of, byte_count, log_bytes}
use Rattle.kernel_meaning.specs.Operators.{word}
use Rattle.kernel_meaning.specs.Eval.{address}
use Rattle.kernel_meaning.proofs.Addresses.{address-below}
use Rattle.kernel_meaning.proofs.Residues.{word-add}
use Rattle.kernel_meaning.proofs.TypeRanges.{wrap-of, of-fits}
use Rattle.machine_model.specs.declared.outcome.StopKind.TheVariants.{Read}
use Rattle.sve_code.specs.Table.{lsl_imm, uxtb, uxth}
use Rattle.machine_model.specs.Arithmetic.{sum}
use Rattle.machine_model.specs.Machine.{State, Step, x_at, x_or_sp, z_at, with_z, p_at, next}
use Rattle.machine_model.specs.States.{IsState}
use Rattle.machine_model.specs.VectorEffects.{do_vector, after_load}
use Rattle.machine_model.proofs.StateSteps.{load_put}
use Rattle.label_fix.specs.DraftRun.{DraftEntry, Laid}
use Rattle.label_fix.proofs.StretchSteps.{put_goes}
use Rattle.vector_order.specs.Orders.{Lane, Lanes, Act, Out, column}
use Rattle.loop_form.specs.declared.loop_item.Operand.{Operand}
use Rattle.loop_form.specs.declared.loop_item.Operand.TheVariants.{Outer}
use Rattle.loop_form.specs.LoopItems.{Op}
use Rattle.loop_form.specs.LoopItems as ops
use Rattle.loop_form.specs.Reaches.{reach_of_type}
use Rattle.vector_order.specs.Operands.{nth_value, operand_value, with_value, on_mask, index_value}
use Rattle.vector_order.specs.Items.{item_act}
use Rattle.lane_emit.specs.Right.{IsOf, ZRight, fits}
use Rattle.lane_emit.specs.Stretch.{OnlyZ, Ready, MakesZ}
use Rattle.lane_emit.specs.Stretch as stretch
use Rattle.lane_emit.specs.LaneCode.{size_of, shift_word}
use Rattle.lane_emit.specs.ItemCode.{mask_register, operand, OperandRight}
use Rattle.lane_emit.proofs.Residues.{held, lsl-held}
use Rattle.lane_emit.proofs.Shifts.{lsl_does}
use Rattle.lane_emit.proofs.CopyCode.{extend_z}
use Rattle.lane_emit.proofs.Stretches.{ready_then, only_same, only_then, only_wrote, lanes_z, done_z}
use Rattle.chunk_emit.specs.Registers.{Layout, z_of, IsValueUsed}
use Rattle.chunk_emit.specs.ChunkCode.{dtype_of, gather_word, gather_by, reach_type, cut_reach, cut_word, gather_code, op_words, vectors, puts}
use Rattle.chunk_emit.specs.Chunk.{Setting, chunk_of, count_of, Holds}
use Rattle.chunk_emit.specs.Fits.{Assigned, IsReach, FitsOperand, FitsMask, MakesValue}
use Rattle.chunk_emit.specs.StopPlaces.{StopsAt, ChunkComesTo}
use Rattle.chunk_emit.specs.ItemsRun.{Does, does_fine, does_fail}
use Rattle.chunk_emit.proofs.DraftVectors.{do_goes}
use Rattle.chunk_emit.proofs.StopsAt.{stop_at, fault_byte}
use Rattle.chunk_emit.proofs.ItemLanes.{first_short, first_holds, first_within, lane_out, Own, OwnColumn, own_fine, own_fail, own_column}
use Rattle.chunk_emit.proofs.ChunkStates.{holds_on, ready, mask_exact, operand_right, lane_below_and, outside}
use Rattle.chunk_emit.proofs.PureItems.{value_moves}
use Rattle.chunk_emit.proofs.LoadForms.{IsForm, is_form, bytes_power}
use Rattle.chunk_emit.proofs.Loads.{read_lane, read_does, read_of, lane_value, does_after}

-- a gather's word
abbrev gathered : Ty → State → (d m base offsets : ℕ) → Step
gathered t u d m base offsets =
    let form = load_form (dtype_of t D) in
    after_load (plain_load form u.memory (active form.element (p_at u m)) (λ e. sum (x_or_sp u base) (at D (z_at u offsets) e)) (lanes u.vl form.element) u.ffr) d u

gather_does : (t : Ty) (u : State) (d m base offsets : ℕ) → do_vector (gather_word t d m base offsets) u ≡ gathered t u d m base offsets
gather_does ty.I8 u d m base offsets = refl
gather_does other u d m base offsets = refl

-- the bytes of an element, as a shift
byte_shift : (t : Ty) → 2 ^ log_bytes t ≡ byte_count t
byte_shift ty.I8 = refl
byte_shift other = refl

most_bits : (t : Ty) → bits_of t ≤ 64
most_bits ty.I8 = omega arith
most_bits other = omega arith

few_shift : (t : Ty) → log_bytes t < 64
few_shift ty.I8 = omega arith
few_shift other = omega arith

-- ---- the reach of an index

-- an index with a reach is taken modulo it, as a value of the type that has the reach
wraps_byte : (z : ℤ) → index_value (Some 256) z ≡ wrap ty.U8 z
wraps_byte (pos z) = refl
wraps_byte (negsuc z) = refl

wraps_half : (z : ℤ) → index_value (Some 65536) z ≡ wrap ty.U16 z
wraps_half (pos z) = refl
wraps_half (negsuc z) = refl

reach_wraps : (n : ℕ) → IsReach (Some n) → (z : ℤ) → index_value (Some n) z ≡ wrap (reach_type n) z
reach_wraps n h z = by h.0 h.1
  where
    by : (o : Option Ty) → Some n ≡ reach_of_type o → index_value (Some n) z ≡ wrap (reach_type n) z
    by None e = absurd cc
    by (Some ty.U8) e = let same : 256 ≡ n = cc in subst (λ k. index_value (Some k) z ≡ wrap (reach_type k) z) same (wraps_byte z)
    by (Some ty.U16) e = let same : 65536 ≡ n = cc in subst (λ k. index_value (Some k) z ≡ wrap (reach_type k) z) same (wraps_half z)
    by (Some ty.I8) e = absurd cc
    by (Some ty.I16) e = absurd cc
    by (Some ty.I32) e = absurd cc
    by (Some ty.U32) e = absurd cc
    by (Some ty.I64) e = absurd cc
    by (Some ty.U64) e = absurd cc

-- an index that is not cut is below its reach
uncut : (r : Option ℕ) (U : Ty) → IsReach r → cut_reach r U ≡ None → (z : ℤ) → IsOf U z → index_value r z ≡ z
uncut None U h e z of = refl
uncut (Some n) U h e z of = reach_wraps n h z ∙ wrap-of (reach_type n) z (of-fits U (reach_type n) z (fitting (fits U (reach_type n)) e) of)
  where
    fitting : (b : Bool) → (if b then None else Some n) ≡ None → b ≡ true
    fitting true e = refl
    fitting false e = absurd cc

-- one that is cut is cut to its reach
cut_same : (r : Option ℕ) (U : Ty) (n : ℕ) → cut_reach r U ≡ Some n → r ≡ Some n
cut_same None U n e = absurd cc
cut_same (Some k) U n e = by (fits U (reach_type k)) e
  where
    by : (b : Bool) → (if b then None else Some k) ≡ Some n → Some k ≡ Some n
    by true e = absurd cc
    by false e = e

-- the word that cuts it
cut_z : {s : State} (n d a : ℕ) {k : ℕ} (u : ℕ → ℤ) → Ready D k s → d < 32 → a < 32 → ZRight D k (z_at s a) u → MakesZ (cut_word n d a ∷ []) s d D k (λ e. wrap (reach_type n) (u e))
cut_z {s = s} n d a {k = k} u r ld la right = by (nat_eq n 256)
  where
    by : (b : Bool) → MakesZ (stretch.word (if b then uxtb else uxth) (d ∷ a ∷ 1 ∷ size_of D ∷ []) ∷ []) s d D k (λ e. wrap (if b then ty.U8 else ty.U16) (u e))
    by true = extend_z ty.U8 d a D u r ld la right (omega arith)
    by false = extend_z ty.U16 d a D u r ld la right (omega arith)

-- ---- offsets

times_one : (v : ℤ) → v *ℤ pos 1 ≡ v
times_one v = omega (arith, ints)

-- an index times the size of an element is its offset
offset_is : (t : Ty) (v : ℤ) → v *ℤ pos (2 ^ log_bytes t) ≡ pos (byte_count t) *ℤ v
offset_is t v = ap (λ n. v *ℤ pos n) (byte_shift t) ∙ *ℤ_comm v (pos (byte_count t))

module _ (l : Layout) (fit : Assigned l) (f : Setting) (d : Laid) (rest : List DraftEntry) (p : ℕ) (t : Lanes) (mask : Option ℕ) (fm : FitsMask l p mask) (a : List ℕ) (x : ℕ) (ty : Ty) (reach : Option ℕ) (U : Ty) (y : Operand) (low : x < 8) (based : slice_index f.x x ≡ word (nth_value f.names x)) (wide : f.w ≡ D) (makes : MakesValue l p ty) (used : IsValueUsed l p) (reached : IsReach reach) where
  abbrev m : ℕ
  m = mask_register l.registers mask

  abbrev op : Op
  op = ops.Gather a (Outer x) (Some ty) reach (Some U) y

  abbrev act : Act
  act = item_act f.names (record { item = p; mask = mask; op = op })

  abbrev form : LoadForm
  form = load_form (dtype_of ty D)

  abbrev place : ℕ → Lane → ℕ
  place j k = address ty (nth_value f.names x) (index_value reach (operand_value f.names j k y))

  abbrev fault : ℕ → Lane → Option ℕ
  fault j k = first_fault (can_read t.memory) (place j k) (byte_count ty)

  abbrev number : ℕ → Lane → ℕ
  number j k = number_at t.memory (place j k) (byte_count ty)

  abbrev bad : ℕ → Lane → Bool
  bad j k = on_mask mask k && is_some (fault j k)

  abbrev val : ℕ → Lane → ℤ
  val j k = read_lane ty (on_mask mask k) (number j k)

  abbrev new : ℕ → Lane → Lane
  new j k = with_value k p (val j k)

  own : Own act t.memory bad new
  own = record {
    does = λ j v e.
        read_does ty p j v (on_mask mask (v.lane j)) (first_fault (can_read v.memory) (place j (v.lane j)) (byte_count ty)) (number_at v.memory (place j (v.lane j)) (byte_count ty))
        ∙ ap (λ mem. lane_out (on_mask mask (v.lane j) && is_some (first_fault (can_read mem) (place j (v.lane j)) (byte_count ty))) j (with_value (v.lane j) p (read_lane ty (on_mask mask (v.lane j)) (number_at mem (place j (v.lane j)) (byte_count ty)))) v) e;
  }

  abbrev index : ℕ → ℤ
  index e = operand (chunk_of f t) y e

  -- the element that a lane reads
  abbrev element : ℕ → ℤ
  element e = index_value reach (index e)

  -- from state u, after the word that makes the offsets in register o
  module _ (s : State) (h : Holds l f p t s) (u : State) (u_is : IsState u) (only : OnlyZ (z_of l p) s u) (o : ℕ) (offsets : ZRight D f.n (z_at u o) (λ e. pos (byte_count ty) *ℤ element e)) where
    is : IsForm ty D
    is = is_form ty D (most_bits ty)

    abbrev on : ℕ → Bool
    on = active form.element (p_at u m)

    abbrev spot : ℕ → ℕ
    spot = λ e. sum (x_or_sp u x) (at D (z_at u o) e)

    abbrev count : ℕ
    count = lanes u.vl form.element

    abbrev test : ℕ → Bool
    test = both on (lane_faults form u.memory spot)

    abbrev made : List ℕ
    made = register (width_bytes form.element) (loaded_lane form u.memory on spot) count

    element_is : form.element ≡ f.w
    element_is = is.element ∙ sym wide

    memory_is : u.memory ≡ t.memory
    memory_is = only.memory ∙ h.memory

    gather_count : count ≡ count_of f
    gather_count = ap₂ lanes (only.vl ∙ h.vl) element_is

    gather_mask_kept : p_at u m ≡ p_at s m
    gather_mask_kept = ap (λ ps. slice_index_or ps m []) only.p

    gather_on_in : (e : ℕ) → e < f.n → on e ≡ on_mask mask (t.lane (f.i + e))
    gather_on_in e lt = ap₂ (λ w ps. active w ps e) element_is gather_mask_kept ∙ mask_exact h mask fm e (omega (arith, lt, h.few)) ∙ lane_below_and e f.n _ lt

    gather_on_out : (e : ℕ) → f.n ≤ e → e < count_of f → on e ≡ false
    gather_on_out e le lt = ap₂ (λ w ps. active w ps e) element_is gather_mask_kept ∙ mask_exact h mask fm e lt ∙ outside e f.n _ le

    gather_base : x_or_sp u x ≡ word (nth_value f.names x)
    gather_base = ap (λ b. if b then u.sp else x_at u x) (ne_eqb x 31 (λ e. absurd (omega (arith, low, e)))) ∙ ap (λ xs. slice_index xs x) only.x ∙ h.x x (λ e. absurd (omega (arith, low, e))) ∙ based

    spot_is : (e : ℕ) → e < f.n → spot e ≡ place (f.i + e) (t.lane (f.i + e))
    spot_is e lt =
        ap₂ sum gather_base (offsets e lt)
        ∙ sym (word-add (nth_value f.names x) (pos (byte_count ty) *ℤ element e))

    fault_is : (e : ℕ) → e < f.n → lane_fault form u.memory spot e ≡ fault (f.i + e) (t.lane (f.i + e))
    fault_is e lt = ap (λ mem. first_fault (can_read mem) (spot e) (width_bytes form.memory)) memory_is ∙ ap₂ (first_fault (can_read t.memory)) (spot_is e lt) is.memory

    gather_number : (e : ℕ) → e < f.n → number_at u.memory (spot e) (width_bytes form.memory) ≡ number (f.i + e) (t.lane (f.i + e))
    gather_number e lt = ap (λ mem. number_at mem (spot e) (width_bytes form.memory)) memory_is ∙ ap₂ (number_at t.memory) (spot_is e lt) is.memory

    number_low : (e : ℕ) → number (f.i + e) (t.lane (f.i + e)) < 2 ^ bits_of ty
    number_low e = subst (λ k. number (f.i + e) (t.lane (f.i + e)) < k) (bytes_power ty) (subst (λ mem. number_at mem (place (f.i + e) (t.lane (f.i + e))) (byte_count ty) < 256 ^ byte_count ty) memory_is (number_at-below u.memory (place (f.i + e) (t.lane (f.i + e))) (byte_count ty) u_is.mapped))

    cols : OwnColumn new f.n f.i t (first_true test f.n 0) (column act f.n f.i t)
    cols = own_column act bad new test f.i f.n 0 f.i t (omega arith) own (λ e le lt. ap₂ (λ b o. b && is_some o) (gather_on_in e (omega (arith, lt))) (fault_is e (omega (arith, lt))))

    short : first_true test count 0 ≡ first_true test f.n 0
    short = first_short test count f.n 0 (omega (arith, h.few, gather_count)) (λ e le lt. ap (λ b. b && is_some (lane_fault form u.memory spot e)) (gather_on_out e (omega (arith, le)) (omega (arith, lt, gather_count))))

    value_is : (e : ℕ) → e < f.n → at f.w made e ≡ held f.w (val (f.i + e) (t.lane (f.i + e)))
    value_is e lt =
        let inside_all : e < count = omega (arith, lt, h.few, gather_count) in
        ap (λ w. at w made e) wide
        ∙ ap (λ w. at D (register (width_bytes w) (loaded_lane form u.memory on spot) count) e) is.element
        ∙ at-register D (loaded_lane form u.memory on spot) count e inside_all
        ∙ ap₂ (λ b n. cond b (extended form n) 0 % modulus D) (gather_on_in e lt) (gather_number e lt)
        ∙ lane_value ty D (on_mask mask (t.lane (f.i + e))) (number (f.i + e) (t.lane (f.i + e))) is (number_low e)
        ∙ ap (λ w. held w (val (f.i + e) (t.lane (f.i + e)))) (sym wide)

    abbrev load_ends : Option ℕ → Step
    load_ends o = after_load (or_fault (fault_at form u.memory spot o) (record { z = made; ffr = u.ffr })) (z_of l p) u

    does : do_vector (gather_word ty (z_of l p) m x o) u ≡ load_ends (first_true test count 0)
    does = gather_does ty u (z_of l p) m x o

    gather_near : (e z : ℕ) → e < f.n → lane_fault form u.memory spot e ≡ Some z → ChunkComesTo f op Read z
    gather_near e z lt eq =
        let value = operand_value f.names (f.i + e) (t.lane (f.i + e)) y in
        (f.i + e, omega arith, omega (arith, lt), (refl, reached, value, fault_byte (can_read t.memory) (place (f.i + e) (t.lane (f.i + e))) (byte_count ty) z (address-below ty (nth_value f.names x) (index_value reach value)) (sym (fault_is e lt) ∙ eq)))

    gather_stops_at_fault : (e : ℕ) (b : Option ℕ) → e < f.n → lane_fault form u.memory spot e ≡ b → is_some b ≡ true → load_ends (first_true test count 0) ≡ load_ends (Some e) → StopsAt d (puts (vectors (gather_word ty (z_of l p) m x o ∷ [])) rest) u Read u.memory 1 (ChunkComesTo f op Read)
    gather_stops_at_fault e None lt eq some ends = absurd cc
    gather_stops_at_fault e (Some z) lt eq some ends = stop_at u.pc z (does ∙ ends ∙ ap (λ o. after_load (or_fault (read_fault o) (record { z = made; ffr = u.ffr })) (z_of l p) u) eq) (gather_near e z lt eq)

    gather_does_column : (b : Option ℕ) {out : Out} → first_true test count 0 ≡ b → OwnColumn new f.n f.i t b out → Does l f d (puts (vectors (gather_word ty (z_of l p) m x o ∷ [])) rest) u rest (p + 1) 1 (ChunkComesTo f op) out
    gather_does_column b eq (own_fine v mem here before past) =
        let end = next (with_z u (z_of l p) made) in
        let done : IsState end = load_put u end (z_of l p) None form.element (loaded_lane form u.memory on spot) u.ffr u_is refl in
        let written : z_at end (z_of l p) ≡ made = get_or-set_same u.z (z_of l p) made [] (omega (arith, u_is.z_count, fit.z_small p)) in
        does_fine end (put_goes (does ∙ ap load_ends eq))
        (holds_on h (value_moves h fit ty (λ e. val (f.i + e) (t.lane (f.i + e))) v end makes used mem here done (only_then only (only_wrote (z_of l p) u made))
        (λ e lt. ap (λ z. at f.w z e) written ∙ value_is e lt) (λ e lt. read_of ty (on_mask mask (t.lane (f.i + e))) (number (f.i + e) (t.lane (f.i + e))))))
    gather_does_column b eq (own_fail e) =
        let on_both = first_holds test count 0 e eq in
        let inside = (first_within test f.n 0 e (sym short ∙ eq)).1 in
        does_fail Read (inl refl) (subst (λ mem. StopsAt d (puts (vectors (gather_word ty (z_of l p) m x o ∷ [])) rest) u Read mem 1 (ChunkComesTo f op Read)) memory_is (gather_stops_at_fault e (lane_fault form u.memory spot e) (omega (arith, inside)) refl (and_parts (on e) (is_some (lane_fault form u.memory spot e)) on_both).1 (ap load_ends eq)))

    pub gather_from : Does l f d (puts (vectors (gather_word ty (z_of l p) m x o ∷ [])) rest) u rest (p + 1) 1 (ChunkComesTo f op) (column act f.n f.i t)
    gather_from = gather_does_column (first_true test f.n 0) short cols

  -- the shift and the read, from a state in which a register has the elements
  by_shift : {s : State} → Holds l f p t s → (v : State) → IsState v → OnlyZ (z_of l p) s v → (o : ℕ) → ZRight D f.n (z_at v o) element → (k : ℕ) → log_bytes ty ≡ k
      → Does l f d (puts (vectors (gather_by k ty (z_of l p) m x o)) rest) v rest (p + 1) (length (vectors (gather_by k ty (z_of l p) m x o))) (ChunkComesTo f op) (column act f.n f.i t)
  by_shift {s = s} h v v_is only o right zero e =
      gather_from s h v v_is only o (λ j lt. right j lt ∙ ap (held D) (sym (times_one (element j)) ∙ ap (λ n. element j *ℤ pos (2 ^ n)) (sym e) ∙ offset_is ty (element j)))
  by_shift {s = s} h v v_is only o right (suc n) e =
      let first : MakesZ (shift_word lsl_imm (z_of l p) o (64 + suc n) ∷ []) v (z_of l p) D f.n (λ j. element j *ℤ pos (2 ^ suc n)) = lanes_z {i = shift_word lsl_imm (z_of l p) o (64 + suc n)} {rest = []} D (shift_at shifts.Lsl D (z_at v o) (suc n)) (λ j. element j *ℤ pos (2 ^ suc n)) (ready_then (subst (λ w. Ready w f.n s) wide (ready h)) v_is only) (fit.z_small p) (lsl_does v (z_of l p) o D (suc n) (subst (λ c. c < 64) e (few_shift ty)))
      (λ j lt. ap (λ b. shifted shifts.Lsl (modulus D) b (suc n)) (right j lt) ∙ lsl-held D (element j) (suc n)) (λ w w_is w_only w_right. done_z w_is w_right) in
      does_after 2 refl (do_goes (shift_word lsl_imm (z_of l p) o (64 + suc n) ∷ []) v first.end first.runs)
      (gather_from s h first.end first.is (only_then only first.only) (z_of l p) (λ j lt. first.right j lt ∙ ap (held D) (ap (λ n. element j *ℤ pos (2 ^ n)) (sym e) ∙ offset_is ty (element j))))

  pub gather_runs : FitsOperand l f.w p U y → {s : State} → Holds l f p t s
      → Does l f d (puts (op_words f.w l p m (ops.Gather a (Outer x) (Some ty) reach (Some U) y)) rest) s rest (p + 1) (length (op_words f.w l p m (ops.Gather a (Outer x) (Some ty) reach (Some U) y))) (ChunkComesTo f op) (column act f.n f.i t)
  gather_runs k {s = s} h = by (cut_reach reach U) refl
    where
      right : OperandRight (chunk_of f t) l.registers s U y
      right = operand_right h fit U y k

      whole : ZRight D f.n (z_at s (l.registers.source y)) index
      whole = subst (λ w. ZRight w f.n (z_at s (l.registers.source y)) index) wide right.right

      by : (o : Option ℕ) → cut_reach reach U ≡ o → Does l f d (puts (vectors (gather_code ty o (z_of l p) m x (l.registers.source y))) rest) s rest (p + 1) (length (vectors (gather_code ty o (z_of l p) m x (l.registers.source y)))) (ChunkComesTo f op) (column act f.n f.i t)
      by None e =
          by_shift h s h.is (only_same (z_of l p) s) (l.registers.source y) (λ j lt. whole j lt ∙ ap (held D) (sym (uncut reach U reached e (index j) (right.typed j lt)))) (log_bytes ty) refl
      by (Some n) e =
          let mine : reach ≡ Some n = cut_same reach U n e in
          let near : IsReach (Some n) = subst IsReach mine reached in
          let first : MakesZ (cut_word n (z_of l p) (l.registers.source y) ∷ []) s (z_of l p) D f.n (λ j. wrap (reach_type n) (index j)) = cut_z n (z_of l p) (l.registers.source y) index (subst (λ w. Ready w f.n s) wide (ready h)) (fit.z_small p) right.number whole in
          does_after (suc (length (vectors (gather_by (log_bytes ty) ty (z_of l p) m x (z_of l p))))) (omega arith) (do_goes (cut_word n (z_of l p) (l.registers.source y) ∷ []) s first.end first.runs)
          (by_shift h first.end first.is first.only (z_of l p) (λ j lt. first.right j lt ∙ ap (held D) (sym (reach_wraps n near (index j)) ∙ ap (λ r. index_value r (index j)) (sym mine))) (log_bytes ty) refl)
