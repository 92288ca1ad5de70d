-- The code of a load does what the load does over the lanes of the chunk.
use Rattle.std.proofs.Common.{◌≡◌, ℕ, ◌+◌, ◌%◌, ◌^◌, ◌<◌, ◌≤◌, ℤ, pos, ◌+ℤ◌, Bool, true, false, ◌&&◌, cond, List, [], ◌∷◌, length, Option, Some, None, Result, Ok, Err, refl, sym, ap, ap₂, ◌∙◌, subst, arith, inl, get_or-set_same}
use Rattle.std.specs.Prelude.{is_some, slice_index, if◌then◌else◌}
use Rattle.std.proofs.lemmas.Bool.{ne_eqb, and_parts}
use Rattle.std.proofs.Math.Nat.{zero-mod}
use Rattle.guest_types.specs.declared.length.Width.{Width}
use Rattle.guest_types.specs.declared.memory.AccessFault.{AccessFault}
use Rattle.guest_types.specs.Length.{width_bits, width_bytes, modulus, lanes}
use Rattle.guest_types.specs.Memory.{can_read, first_fault, number_at}
use Rattle.guest_types.specs.Elements.{at, active, register, first_true, both}
use Rattle.guest_types.specs.LaneMemory.{LoadForm, load_form, lane_address, extended, loaded_lane, lane_fault, lane_faults, read_fault, fault_at, or_fault}
use Rattle.guest_types.proofs.Stores.{number_at-below}
use Rattle.guest_types.proofs.AtWidths.{at-register}
use Rattle.kernel_tree.specs.declared.ops.Ty.{Ty}
use Rattle.kernel_tree.specs.declared.ops.Ty.TheVariants as ty
use Rattle.kernel_tree.specs.Wrap.{wrap, bits_of, byte_count}
use Rattle.kernel_meaning.specs.Operators.{word}
use Rattle.kernel_meaning.specs.Eval.{address, read_value}
use Rattle.kernel_meaning.proofs.Addresses.{address-below}
use Rattle.machine_model.specs.declared.outcome.StopKind.{StopKind}
use Rattle.machine_model.specs.declared.outcome.StopKind.TheVariants.{Read}
use Rattle.machine_model.specs.InstructionTable.{Vector}
use Rattle.machine_model.specs.Machine.{State, Step, x_at, x_or_sp, z_at, with_z, p_at, next}
use Rattle.machine_model.specs.States.{IsState}
use Rattle.machine_model.specs.VectorEffects.{do_vector, after_load}
use Rattle.machine_model.proofs.StateSteps.{load_put}
use Rattle.label_fix.specs.DraftRun.{DraftEntry, Laid}
use Rattle.label_fix.specs.Stretches.{Goes}
use Rattle.label_fix.proofs.StretchSteps.{put_goes, chain}
use Rattle.vector_order.specs.Orders.{Lane, Lanes, Keeps, Act, Out, done, column}
use Rattle.loop_form.specs.declared.loop_item.Operand.TheVariants.{Outer}
use Rattle.vector_order.specs.Operands.{nth_value, with_value, on_mask, load_effect}
use Rattle.loop_form.specs.LoopItems.{Op}
use Rattle.loop_form.specs.LoopItems as ops
use Rattle.vector_order.specs.Items.{item_act}
use Rattle.lane_emit.specs.Right.{IsOf}
use Rattle.lane_emit.specs.ItemCode.{mask_register}
use Rattle.lane_emit.proofs.Residues.{held, held-whole}
use Rattle.lane_emit.proofs.Ranges.{wrap-is_of}
use Rattle.chunk_emit.specs.Registers.{Layout, z_of, IsValueUsed}
use Rattle.chunk_emit.specs.ChunkCode.{index_of, dtype_of, load_word, op_words, puts}
use Rattle.chunk_emit.specs.Chunk.{Setting, count_of, Holds}
use Rattle.chunk_emit.specs.Fits.{Assigned, FitsMask, MakesValue, IsNear}
use Rattle.chunk_emit.specs.StopPlaces.{StopsAt, ChunkComesTo}
use Rattle.chunk_emit.specs.ItemsRun.{Does, does_fine, does_fail}
use Rattle.chunk_emit.proofs.StopsAt.{stop_at, stop_at_after, fault_byte}
use Rattle.chunk_emit.proofs.ItemLanes.{first_short, first_holds, first_within, lane_out, Own, OwnColumn, own_fine, own_fail, own_column}
use Rattle.chunk_emit.proofs.ChunkStates.{holds_on, mask_exact, lane_below_and, outside}
use Rattle.chunk_emit.proofs.PureItems.{value_moves}
use Rattle.chunk_emit.proofs.Indexes.{indexed, lane_place}
use Rattle.chunk_emit.proofs.LoadForms.{IsForm, is_form, bytes_power}
pub use Rattle.lane_emit.proofs.Stretches.{only_wrote}
use Rattle.lane_emit.proofs.JoinLaws.{zero_of}

-- the value of a read in one lane: 0 outside its mask
abbrev pub read_lane : Ty → Bool → ℕ → ℤ
read_lane t true n = wrap t (pos n)
read_lane t false n = pos 0

pub read_does : (t : Ty) (q i : ℕ) (s : Lanes) (b : Bool) (o : Option ℕ) (n : ℕ)
    → done (if b then load_effect (s.lane i) q (read_value t (elim o as (λ o. Result ℕ AccessFault) [ None ↦ Ok n | Some fault ↦ Err (record { address = fault; write = false }) ])) else Keeps (with_value (s.lane i) q (pos 0))) i s
    ≡ lane_out (b && is_some o) i (with_value (s.lane i) q (read_lane t b n)) s
read_does t q i s true None n = refl
read_does t q i s true (Some fault) n = refl
read_does t q i s false None n = refl
read_does t q i s false (Some fault) n = refl

pub read_of : (t : Ty) (b : Bool) (n : ℕ) → IsOf t (read_lane t b n)
read_of t true n = wrap-is_of t (pos n)
read_of t false n = zero_of t

-- an element of a load
pub lane_value : (t : Ty) (w : Width) (b : Bool) (v : ℕ) → IsForm t w → v < 2 ^ bits_of t → cond b (extended (load_form (dtype_of t w)) v) 0 % modulus w ≡ held w (read_lane t b v)
lane_value t w true v form lt = ap (λ m. m % modulus w) (form.reads v lt) ∙ held-whole w (wrap t (pos v))
lane_value t w false v form lt = zero-mod (modulus w) ∙ sym (zero-mod (2 ^ width_bits w))

-- words before code that does what it should
pub does_after : {l : Layout} {f : Setting} {d : Laid} {c e rest : List DraftEntry} {s u : State} {p m n : ℕ} {near : StopKind → ℕ → Type 0} {out : Out} (most : ℕ) → most ≡ m + n → Goes d c s e u m → Does l f d e u rest p n near out → Does l f d c s rest p most near out
does_after most total goes (does_fine end on holds) = does_fine end (chain most (omega (arith, total)) goes on) holds
does_after most total goes (does_fail kind access stops) = does_fail kind access (stop_at_after most (omega (arith, total)) goes stops)

-- the lane of a load, in the state after the word that adds the offset
module _ (l : Layout) (fit : Assigned l) (f : Setting) (d : Laid) (rest : List DraftEntry) (p : ℕ) (t : Lanes) (mask : Option ℕ) (fm : FitsMask l p mask) (a : List ℕ) (x : ℕ) (ty : Ty) (c : ℤ) (low : x < 8) (based : slice_index f.x x ≡ word (nth_value f.names x)) (wide : bits_of ty ≤ width_bits f.w) (makes : MakesValue l p ty) (used : IsValueUsed l p) where
  abbrev m : ℕ
  m = mask_register l.registers mask

  abbrev op : Op
  op = ops.Load a (Outer x) (Some ty) c

  abbrev act : Act
  act = item_act f.names (record { item = p; mask = mask; op = op })

  abbrev form : LoadForm
  form = load_form (dtype_of ty f.w)

  abbrev place : ℕ → ℕ
  place j = address ty (nth_value f.names x) (pos j +ℤ c)

  abbrev fault : ℕ → Option ℕ
  fault j = first_fault (can_read t.memory) (place j) (byte_count ty)

  abbrev number : ℕ → ℕ
  number j = number_at t.memory (place j) (byte_count ty)

  abbrev bad : ℕ → Lane → Bool
  bad j k = on_mask mask k && is_some (fault j)

  abbrev val : ℕ → Lane → ℤ
  val j k = read_lane ty (on_mask mask k) (number j)

  abbrev new : ℕ → Lane → Lane
  new j k = with_value k p (val j k)

  own : Own act t.memory bad new
  own = record {
    does = λ j v e.
        read_does ty p j v (on_mask mask (v.lane j)) (first_fault (can_read v.memory) (place j) (byte_count ty)) (number_at v.memory (place j) (byte_count ty))
        ∙ ap (λ mem. lane_out (on_mask mask (v.lane j) && is_some (first_fault (can_read mem) (place j) (byte_count ty))) j (with_value (v.lane j) p (read_lane ty (on_mask mask (v.lane j)) (number_at mem (place j) (byte_count ty)))) v) e;
  }

  module _ (u : State) (h : Holds l f p t u) (at_index : x_at u (index_of c) ≡ word (pos f.i +ℤ c)) where
    is : IsForm ty f.w
    is = is_form ty f.w wide

    abbrev on : ℕ → Bool
    on = active form.element (p_at u m)

    abbrev spot : ℕ → ℕ
    spot = lane_address (x_or_sp u x) (x_at u (index_of c)) (width_bytes form.memory)

    abbrev count : ℕ
    count = lanes u.vl form.element

    abbrev test : ℕ → Bool
    test = both on (lane_faults form u.memory spot)

    abbrev made : List ℕ
    made = register (width_bytes form.element) (loaded_lane form u.memory on spot) count

    load_count : count ≡ count_of f
    load_count = ap₂ lanes h.vl is.element

    load_on_in : (e : ℕ) → e < f.n → on e ≡ on_mask mask (t.lane (f.i + e))
    load_on_in e lt = ap (λ w. active w (p_at u m) e) is.element ∙ mask_exact h mask fm e (omega (arith, lt, h.few)) ∙ lane_below_and e f.n _ lt

    load_on_out : (e : ℕ) → f.n ≤ e → e < count_of f → on e ≡ false
    load_on_out e le lt = ap (λ w. active w (p_at u m) e) is.element ∙ mask_exact h mask fm e lt ∙ outside e f.n _ le

    load_base : x_or_sp u x ≡ word (nth_value f.names x)
    load_base = ap (λ b. if b then u.sp else x_at u x) (ne_eqb x 31 (λ e. absurd (omega (arith, low, e)))) ∙ h.x x (λ e. absurd (omega (arith, low, e))) ∙ based

    spot_is : (e : ℕ) → spot e ≡ place (f.i + e)
    spot_is e = ap (λ k. lane_address (x_or_sp u x) (x_at u (index_of c)) k e) is.memory ∙ lane_place ty (nth_value f.names x) c f.i e (x_or_sp u x) (x_at u (index_of c)) load_base at_index

    fault_is : (e : ℕ) → lane_fault form u.memory spot e ≡ fault (f.i + e)
    fault_is e = ap (λ mem. first_fault (can_read mem) (spot e) (width_bytes form.memory)) h.memory ∙ ap₂ (first_fault (can_read t.memory)) (spot_is e) is.memory

    load_number : (e : ℕ) → number_at u.memory (spot e) (width_bytes form.memory) ≡ number (f.i + e)
    load_number e = ap (λ mem. number_at mem (spot e) (width_bytes form.memory)) h.memory ∙ ap₂ (number_at t.memory) (spot_is e) is.memory

    number_low : (e : ℕ) → number (f.i + e) < 2 ^ bits_of ty
    number_low e = subst (λ k. number (f.i + e) < k) (bytes_power ty) (subst (λ mem. number_at mem (place (f.i + e)) (byte_count ty) < 256 ^ byte_count ty) h.memory (number_at-below u.memory (place (f.i + e)) (byte_count ty) h.is.mapped))

    cols : OwnColumn new f.n f.i t (first_true test f.n 0) (column act f.n f.i t)
    cols = own_column act bad new test f.i f.n 0 f.i t (omega arith) own (λ e le lt. ap₂ (λ b o. b && is_some o) (load_on_in e (omega (arith, lt))) (fault_is e))

    short : first_true test count 0 ≡ first_true test f.n 0
    short = first_short test count f.n 0 (omega (arith, h.few, load_count)) (λ e le lt. ap (λ b. b && is_some (lane_fault form u.memory spot e)) (load_on_out e (omega (arith, le)) (omega (arith, lt, load_count))))

    value_is : (e : ℕ) → e < f.n → at f.w made e ≡ held f.w (val (f.i + e) (t.lane (f.i + e)))
    value_is e lt =
        let inside_all : e < count = omega (arith, lt, h.few, load_count) in
        ap (λ w. at f.w (register (width_bytes w) (loaded_lane form u.memory on spot) count) e) is.element
        ∙ at-register f.w (loaded_lane form u.memory on spot) count e inside_all
        ∙ ap₂ (λ b n. cond b (extended form n) 0 % modulus f.w) (load_on_in e lt) (load_number e)
        ∙ lane_value ty f.w (on_mask mask (t.lane (f.i + e))) (number (f.i + e)) is (number_low e)

    abbrev load_ends : Option ℕ → Step
    load_ends o = after_load (or_fault (fault_at form u.memory spot o) (record { z = made; ffr = u.ffr })) (z_of l p) u

    does : do_vector (load_word f.w ty (z_of l p) m x (index_of c)) u ≡ load_ends (first_true test count 0)
    does = refl

    load_near : (e z : ℕ) → e < f.n → lane_fault form u.memory spot e ≡ Some z → ChunkComesTo f op Read z
    load_near e z lt eq = (f.i + e, omega arith, omega (arith, lt), (refl, fault_byte (can_read t.memory) (place (f.i + e)) (byte_count ty) z (address-below ty (nth_value f.names x) (pos (f.i + e) +ℤ c)) (sym (fault_is e) ∙ eq)))

    load_stops_at_fault : (e : ℕ) (o : Option ℕ) → e < f.n → lane_fault form u.memory spot e ≡ o → is_some o ≡ true → load_ends (first_true test count 0) ≡ load_ends (Some e) → StopsAt d (puts (Vector (load_word f.w ty (z_of l p) m x (index_of c)) ∷ []) rest) u Read u.memory 1 (ChunkComesTo f op Read)
    load_stops_at_fault e None lt eq some ends = absurd cc
    load_stops_at_fault e (Some z) lt eq some ends = stop_at u.pc z (ends ∙ ap (λ o. after_load (or_fault (read_fault o) (record { z = made; ffr = u.ffr })) (z_of l p) u) eq) (load_near e z lt eq)

    load_does_column : (o : Option ℕ) {out : Out} → first_true test count 0 ≡ o → OwnColumn new f.n f.i t o out → Does l f d (puts (Vector (load_word f.w ty (z_of l p) m x (index_of c)) ∷ []) rest) u rest (p + 1) 1 (ChunkComesTo f op) out
    load_does_column o eq (own_fine v mem here before past) =
        let end = next (with_z u (z_of l p) made) in
        let done : IsState end = load_put u end (z_of l p) None form.element (loaded_lane form u.memory on spot) u.ffr h.is refl in
        let written : z_at end (z_of l p) ≡ made = get_or-set_same u.z (z_of l p) made [] (omega (arith, h.is.z_count, fit.z_small p)) in
        does_fine end (put_goes (ap load_ends eq))
        (holds_on h (value_moves h fit ty (λ e. val (f.i + e) (t.lane (f.i + e))) v end makes used mem here done (only_wrote (z_of l p) u made)
        (λ e lt. ap (λ z. at f.w z e) written ∙ value_is e lt) (λ e lt. read_of ty (on_mask mask (t.lane (f.i + e))) (number (f.i + e)))))
    load_does_column o eq (own_fail e) =
        let on_both = first_holds test count 0 e eq in
        let inside = (first_within test f.n 0 e (sym short ∙ eq)).1 in
        does_fail Read (inl refl) (subst (λ mem. StopsAt d (puts (Vector (load_word f.w ty (z_of l p) m x (index_of c)) ∷ []) rest) u Read mem 1 (ChunkComesTo f op Read)) h.memory (load_stops_at_fault e (lane_fault form u.memory spot e) (omega (arith, inside)) refl (and_parts (on e) (is_some (lane_fault form u.memory spot e)) on_both).1 (ap load_ends eq)))

    pub read_does_from : Does l f d (puts (Vector (load_word f.w ty (z_of l p) m x (index_of c)) ∷ []) rest) u rest (p + 1) 1 (ChunkComesTo f op) (column act f.n f.i t)
    read_does_from = load_does_column (first_true test f.n 0) short cols

  pub load_runs : {s : State} → Holds l f p t s → IsNear c → Does l f d (puts (op_words f.w l p m (ops.Load a (Outer x) (Some ty) c)) rest) s rest (p + 1) (length (op_words f.w l p m (ops.Load a (Outer x) (Some ty) c))) (ChunkComesTo f op) (column act f.n f.i t)
  load_runs h near =
      let ix = indexed h d rest c (Vector (load_word f.w ty (z_of l p) m x (index_of c)) ∷ []) near in
      does_after (length (op_words f.w l p m (ops.Load a (Outer x) (Some ty) c))) ix.counted ix.goes (read_does_from ix.state ix.holds ix.place)
