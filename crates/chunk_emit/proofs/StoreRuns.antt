-- The code of a store does what the store does over the lanes of the chunk.
use Rattle.std.proofs.Common.{◌≡◌, ℕ, ◌+◌, ◌<◌, ◌≤◌, ℤ, pos, ◌+ℤ◌, Bool, false, List, [], ◌∷◌, length, Option, Some, refl, sym, ap, ap₂, ◌∙◌, subst, arith, inr}
use Rattle.std.specs.Prelude.{slice_index, slice_index_or, if◌then◌else◌}
use Rattle.std.proofs.lemmas.Bool.{ne_eqb}
use Rattle.guest_types.specs.declared.length.Width.{Width}
use Rattle.guest_types.specs.Length.{width_bytes, lanes}
use Rattle.guest_types.specs.declared.memory.AccessFault.{AccessFault}
use Rattle.guest_types.specs.Memory.{Memory, IsMemory, stored, can_write, first_fault}
use Rattle.guest_types.specs.Elements.{at, active}
use Rattle.guest_types.specs.LaneMemory.{width_of_size, lane_address, StoredLanes, AllStored, StoreFault, store_lanes}
use Rattle.kernel_tree.specs.declared.ops.Ty.{Ty}
use Rattle.kernel_tree.specs.declared.ops.Ty.TheVariants as ty
use Rattle.kernel_tree.specs.Wrap.{byte_count, log_bytes}
use Rattle.kernel_meaning.specs.Operators.{word}
use Rattle.kernel_meaning.specs.Eval.{address}
use Rattle.kernel_meaning.proofs.Addresses.{address-below}
use Rattle.machine_model.specs.declared.outcome.StopKind.TheVariants.{Write}
use Rattle.machine_model.specs.InstructionTable.{Vector}
use Rattle.machine_model.specs.Machine.{State, x_at, x_or_sp, z_at, p_at, next}
use Rattle.machine_model.specs.States.{IsState}
use Rattle.machine_model.specs.VectorEffects.{do_vector, after_store}
use Rattle.machine_model.proofs.StateSteps.{stored_memory, store_put}
use Rattle.label_fix.specs.DraftRun.{DraftEntry, Laid}
use Rattle.label_fix.proofs.StretchSteps.{put_goes}
use Rattle.vector_order.specs.Orders.{Lane, Lanes, Keeps, Writes, Act, Out, column}
use Rattle.loop_form.specs.declared.loop_item.Operand.{Operand}
use Rattle.loop_form.specs.declared.loop_item.Operand.TheVariants.{Outer}
use Rattle.vector_order.specs.Operands.{nth_value, on_mask}
use Rattle.loop_form.specs.LoopItems.{Op}
use Rattle.loop_form.specs.LoopItems as ops
use Rattle.vector_order.specs.Items.{item_act}
use Rattle.lane_emit.specs.Right.{ZRight}
use Rattle.lane_emit.specs.LaneCode.{size_of}
use Rattle.lane_emit.specs.Stretch.{VectorInstruction}
use Rattle.lane_emit.specs.ItemCode.{operand, mask_register}
use Rattle.lane_emit.proofs.Residues.{held}
use Rattle.lane_emit.proofs.Stretches.{width-size}
use Rattle.chunk_emit.specs.Registers.{Layout}
use Rattle.chunk_emit.specs.ChunkCode.{with_index, index_of, store_word, op_words, puts}
use Rattle.chunk_emit.specs.Chunk.{Setting, chunk_of, count_of, Holds}
use Rattle.chunk_emit.specs.Fits.{Assigned, FitsMask, FitsOperand, MakesNothing, IsNear}
use Rattle.chunk_emit.specs.StopPlaces.{ChunkComesTo}
use Rattle.chunk_emit.specs.ItemsRun.{Does, does_fine, does_fail}
use Rattle.chunk_emit.proofs.StopsAt.{stop_at, fault_byte, store_fault}
use Rattle.chunk_emit.proofs.ItemLanes.{store_short, StoreColumn, all_stored, store_stopped, store_column}
use Rattle.chunk_emit.proofs.ChunkStates.{Moves, holds_on, mask_exact, lane_below_and, outside, operand_right}
use Rattle.chunk_emit.proofs.PureItems.{sums_kept}
use Rattle.chunk_emit.proofs.Indexes.{indexed, lane_place}
use Rattle.chunk_emit.proofs.Loads.{does_after}
use Rattle.chunk_emit.proofs.StoredBits.{stored-held}

memory-bytes : (t : Ty) → width_bytes (width_of_size (log_bytes t)) ≡ byte_count t
memory-bytes ty.I8 = refl
memory-bytes other = refl

-- the state after a store
store_moves : {l : Layout} {f : Setting} {p : ℕ} {t : Lanes} {s : State} → Holds l f p t s → MakesNothing l p → (m : Memory) (v : Lanes) → v.memory ≡ m → ((j : ℕ) → v.lane j ≡ t.lane j) → IsState (next (record s { memory = m })) → Moves l f p t s v (next (record s { memory = m }))
store_moves {f = f} {t = t} {s = s} h none m v mem lanes is = record {
  is = is;
  vl = refl;
  stops = refl;
  memory = sym mem;
  x = λ r ne. refl;
  active = refl;
  all = refl;
  held = λ x is. refl;
  kept_z = λ q lt le. refl;
  kept_p = λ q lt le. refl;
  values = λ q e lt el. ap (λ (k : Lane). k.value q) (lanes (f.i + e));
  truths = λ q e lt el. ap (λ (k : Lane). k.truth q) (lanes (f.i + e));
  value = λ lt. absurd (omega (arith, lt, none.0));
  truth = λ lt. absurd (omega (arith, lt, none.1));
  sums = sums_kept h v (next (record s { memory = m })) (λ x is. refl) (λ e el. ap (λ (k : Lane). k.shares) (lanes (f.i + e)));
}

module _ (l : Layout) (fit : Assigned l) (f : Setting) (d : Laid) (rest : List DraftEntry) (p : ℕ) (t : Lanes) (mask : Option ℕ) (fm : FitsMask l p mask) (a : List ℕ) (x : ℕ) (ty : Ty) (c : ℤ) (y : Operand) (low : x < 8) (based : slice_index f.x x ≡ word (nth_value f.names x)) (none : MakesNothing l p) (src : ℕ) (gives : ℕ → ℤ) where
  abbrev m : ℕ
  m = mask_register l.registers mask

  abbrev op : Op
  op = ops.Store a (Outer x) (Some ty) c y

  abbrev act : Act
  act = item_act f.names (record { item = p; mask = mask; op = op })

  abbrev place : ℕ → ℕ
  place j = address ty (nth_value f.names x) (pos j +ℤ c)

  abbrev the_word : VectorInstruction
  the_word = store_word f.w ty src m x (index_of c)

  -- what is stored is what the lanes of the register give
  abbrev Stored : Type 0
  Stored = (e : ℕ) → e < f.n → (mem : Memory) (z : ℕ) → stored mem z (byte_count ty) (word (operand (chunk_of f t) y e)) ≡ stored mem z (byte_count ty) (held f.w (gives e))

  module _ (given : Stored) (u : State) (h : Holds l f p t u) (at_index : x_at u (index_of c) ≡ word (pos f.i +ℤ c)) (right : ZRight f.w f.n (z_at u src) gives) where
    abbrev width : Width
    width = width_of_size (size_of f.w)

    abbrev bytes : ℕ
    bytes = width_bytes (width_of_size (log_bytes ty))

    abbrev on : ℕ → Bool
    on = active width (p_at u m)

    abbrev spot : ℕ → ℕ
    spot = lane_address (x_or_sp u x) (x_at u (index_of c)) bytes

    abbrev sent : ℕ → ℕ
    sent = at width (z_at u src)

    abbrev count : ℕ
    count = lanes u.vl width

    abbrev val : ℕ → ℤ
    val = operand (chunk_of f t) y

    store_count : count ≡ count_of f
    store_count = ap₂ lanes h.vl (width-size f.w)

    store_on_in : (e : ℕ) → e < f.n → on e ≡ on_mask mask (t.lane (f.i + e))
    store_on_in e lt = ap (λ w. active w (p_at u m) e) (width-size f.w) ∙ mask_exact h mask fm e (omega (arith, lt, h.few)) ∙ lane_below_and e f.n _ lt

    store_on_out : (e : ℕ) → f.n ≤ e → e < count_of f → on e ≡ false
    store_on_out e le lt = ap (λ w. active w (p_at u m) e) (width-size f.w) ∙ mask_exact h mask fm e lt ∙ outside e f.n _ le

    store_base : x_or_sp u x ≡ word (nth_value f.names x)
    store_base = ap (λ b. if b then u.sp else x_at u x) (ne_eqb x 31 (λ e. absurd (omega (arith, low, e)))) ∙ h.x x (λ e. absurd (omega (arith, low, e))) ∙ based

    spot_is : (e : ℕ) → spot e ≡ place (f.i + e)
    spot_is e = ap (λ k. lane_address (x_or_sp u x) (x_at u (index_of c)) k e) (memory-bytes ty) ∙ lane_place ty (nth_value f.names x) c f.i e (x_or_sp u x) (x_at u (index_of c)) store_base at_index

    sent_is : (e : ℕ) → e < f.n → sent e ≡ held f.w (gives e)
    sent_is e lt = ap (λ w. at w (z_at u src) e) (width-size f.w) ∙ right e lt

    stored_sent_is_stored_value : (e : ℕ) → e < f.n → (mem : Memory) → stored mem (spot e) bytes (word (val e)) ≡ stored mem (spot e) bytes (sent e)
    stored_sent_is_stored_value e lt mem =
        ap (λ k. stored mem (spot e) k (word (val e))) (memory-bytes ty) ∙ given e lt mem (spot e)
        ∙ ap₂ (λ k v. stored mem (spot e) k v) (sym (memory-bytes ty)) (sym (sent_is e lt))

    acts : (e : ℕ) → e < f.n → (mem : Memory) → act (f.i + e) mem (t.lane (f.i + e)) ≡ (if on e then Writes (spot e) bytes (word (val e)) else Keeps (t.lane (f.i + e)))
    acts e lt mem =
        ap (λ b. if b then Writes (place (f.i + e)) (byte_count ty) (word (val e)) else Keeps (t.lane (f.i + e))) (sym (store_on_in e lt))
        ∙ ap₂ (λ z k. if on e then Writes z k (word (val e)) else Keeps (t.lane (f.i + e))) (sym (spot_is e)) (sym (memory-bytes ty))

    cols : StoreColumn t.lane (store_lanes on spot sent bytes f.n 0 t.memory) (column act f.n f.i t)
    cols = store_column act on spot (λ e. word (val e)) sent bytes f.i t.lane f.n 0 f.i t (omega arith) (λ j. refl) (λ e le lt. acts e (omega (arith, lt))) (λ e le lt. stored_sent_is_stored_value e (omega (arith, lt)))

    short : store_lanes on spot sent bytes count 0 u.memory ≡ store_lanes on spot sent bytes f.n 0 t.memory
    short =
        ap (store_lanes on spot sent bytes count 0) h.memory
        ∙ store_short on spot sent bytes count f.n 0 t.memory (omega (arith, h.few, store_count)) (λ e le lt. store_on_out e (omega (arith, le)) (omega (arith, lt, store_count)))

    store_word_does : do_vector the_word u ≡ after_store (store_lanes on spot sent bytes count 0 u.memory) u
    store_word_does = refl

    store_near : (fault : AccessFault) (left : Memory) → store_lanes on spot sent bytes count 0 u.memory ≡ StoreFault fault left → ChunkComesTo f op Write fault.address
    store_near fault left eq =
        let r = store_fault on spot sent bytes f.n 0 t.memory fault left (sym short ∙ eq) in
        let inside = r.2 in
        (f.i + r.0, omega arith, omega (arith, inside), (refl, fault_byte (can_write r.3) (place (f.i + r.0)) (byte_count ty) fault.address (address-below ty (nth_value f.names x) (pos (f.i + r.0) +ℤ c)) (ap₂ (first_fault (can_write r.3)) (sym (spot_is r.0)) (sym (memory-bytes ty)) ∙ r.4)))

    store_does_column : (o : StoredLanes) {out : Out} → store_lanes on spot sent bytes count 0 u.memory ≡ o → StoreColumn t.lane o out → Does l f d (puts (Vector the_word ∷ []) rest) u rest (p + 1) 1 (ChunkComesTo f op) out
    store_does_column (AllStored mem) eq (all_stored v is same_lanes) =
        let end = next (record u { memory = mem }) in
        let good : IsState end = store_put u end (AllStored mem) (λ k e. let one : mem ≡ k = cc in subst IsMemory one (stored_memory on spot sent bytes count 0 u.memory mem h.is.mapped eq)) h.is refl in
        does_fine end (put_goes (ap (λ o. after_store o u) eq)) (holds_on h (store_moves h none mem v is same_lanes good))
    store_does_column (StoreFault fault mem) eq store_stopped = does_fail Write (inr refl) (stop_at u.pc fault.address (ap (λ o. after_store o u) eq) (store_near fault mem eq))

    pub write_does_from : Does l f d (puts (Vector the_word ∷ []) rest) u rest (p + 1) 1 (ChunkComesTo f op) (column act f.n f.i t)
    write_does_from = store_does_column (store_lanes on spot sent bytes f.n 0 t.memory) short cols

  -- from the register of a value that gives, in its low bytes, what the store is to write
  pub store_from : {s : State} → Holds l f p t s → IsNear c → Stored → ZRight f.w f.n (z_at s src) gives
      → Does l f d (puts (with_index c (Vector the_word ∷ [])) rest) s rest (p + 1) (length (with_index c (Vector the_word ∷ []))) (ChunkComesTo f op) (column act f.n f.i t)
  store_from h near given right =
      let ix = indexed h d rest c (Vector the_word ∷ []) near in
      does_after (length (with_index c (Vector the_word ∷ []))) ix.counted ix.goes
      (write_does_from given ix.state ix.holds ix.place (subst (λ zs. ZRight f.w f.n (slice_index_or zs src []) gives) (sym ix.z) right))

-- a store of its operand's own register
pub store_runs : (l : Layout) (fit : Assigned l) (f : Setting) (d : Laid) (rest : List DraftEntry) (p : ℕ) (t : Lanes) (mask : Option ℕ) (fm : FitsMask l p mask) (a : List ℕ) (x : ℕ) (ty : Ty) (c : ℤ) (y : Operand) → x < 8 → slice_index f.x x ≡ word (nth_value f.names x) → FitsOperand l f.w p ty y → MakesNothing l p → {s : State} → Holds l f p t s → IsNear c
    → Does l f d (puts (op_words f.w l p (mask_register l.registers mask) (ops.Store a (Outer x) (Some ty) c y)) rest) s rest (p + 1) (length (op_words f.w l p (mask_register l.registers mask) (ops.Store a (Outer x) (Some ty) c y))) (ChunkComesTo f (ops.Store a (Outer x) (Some ty) c y)) (column (item_act f.names (record { item = p; mask = mask; op = ops.Store a (Outer x) (Some ty) c y })) f.n f.i t)
store_runs l fit f d rest p t mask fm a x ty c y low based fits none h near =
    store_from l fit f d rest p t mask fm a x ty c y low based none (l.registers.source y) (operand (chunk_of f t) y) h near
    (λ e lt mem z. stored-held ty f.w mem z (operand (chunk_of f t) y e) fits.1) (operand_right h fit ty y fits).right
