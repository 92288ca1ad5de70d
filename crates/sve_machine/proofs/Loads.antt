-- What a load leaves, of the right shape, and what the rows of loads and stores say of it.
use Rattle.std.proofs.Common.{[], ◌∷◌, get_or, ◌≡◌, ℕ, ◌+◌, ◌^◌, ◌%◌, Bool, false, List, Option, Some, None, Result, Ok, Err, refl, sym, ap, ◌∙◌, subst}
use Rattle.std.specs.Prelude.{slice_set}
use Rattle.guest_types.specs.declared.memory.AccessFault.{AccessFault}
use Rattle.guest_types.specs.declared.row.LoadMode.{LoadMode}
use Rattle.guest_types.specs.declared.row.LoadMode.TheVariants.{Plain, FirstFault, NonFault}
use Rattle.guest_types.specs.Length.{IsLength, width_bytes, lanes}
use Rattle.guest_types.specs.Memory.{Memory}
use Rattle.guest_types.specs.Elements.{active, first_true, both, register}
use Rattle.guest_types.specs.LaneMemory.{LoadForm, load_form, plain_load, lane_address, or_fault, fault_at, lane_faults, loaded_lane, kept_lane, is_clear, cleared_from}
use Rattle.guest_types.specs.EarlyLoads.{StopList, EarlyLoad, unless_fault, early_load, later_than, suppressed_at, stop_at, non_fault_early}
use Rattle.machine_model.specs.States.{IsVector, IsPredicate}
use Rattle.machine_model.proofs.StateSteps.{vector_made, fills, cleared_is}
use Rattle.lane_memory.specs.Loads.{LoadLeft, left_by_plain, left_by_early, left_by_first, left_by, load_of}
use Rattle.lane_memory.specs.Gathers.{gather_address, gather_of}
use Rattle.a64_machine.specs.Cores.{VectorState, state_of, said}
use Rattle.guest_types.specs.declared.register.ZReg.{ZReg}
use Rattle.guest_types.specs.declared.predicate.PReg.{PReg}
use Rattle.std.proofs.Math.ListN.{get_or-map}
use Rattle.std.proofs.lemmas.List.{set-get_or}
use Rattle.machine_model.specs.declared.outcome.Step.{Step as StepAnswer}
use Rattle.machine_model.specs.declared.outcome.Step.TheVariants as answers
use Rattle.machine_model.specs.declared.outcome.StopKind.TheVariants.{Read}
use Rattle.machine_model.specs.Answers.{IsAnswer}
use Rattle.machine_model.specs.Machine.{Went, x_at, x_or_sp}
use Rattle.machine_model.specs.VectorEffects.{do_vector}
use Rattle.machine_model.specs.VectorEffects as effects
use Rattle.a64_machine.specs.declared.core_state.Core.{Core}
use Rattle.sve_machine.specs.VectorStates.{IsVectorState, vector_state_of, p_bits, p_of, z_of, put_load}
use Rattle.sve_code.specs.Table.{ld1, ldff1, ldnf1}
use Rattle.sve_code.specs.declared.GatherOp.{GatherOp}
use Rattle.sve_code.specs.declared.GatherOp.TheVariants as gather_ops
use Rattle.sve_code.specs.View.{load_gather_name}
use Rattle.sve_machine.specs.Rows.{after_load, gather_dtype}
use Rattle.sve_machine.proofs.LaneRows.{row_of}
use Rattle.sve_machine.proofs.VectorStateLaws.{z_set, z_put}

-- ---- the shape

pub record IsLeft (vl : ℕ) (left : LoadLeft) : Type 0 where
  pub z : IsVector vl left.z
  pub ffr : IsPredicate vl left.ffr

as_left : {vl : ℕ} (a : LoadLeft) {b : LoadLeft} → ◌≡◌ {A = Result LoadLeft AccessFault} (Ok a) (Ok b) → IsLeft vl a → IsLeft vl b
as_left {vl = vl} a {b = b} e h = let same : a ≡ b = cc in subst (IsLeft vl) same h

lanes_shape : (vl : ℕ) (form : LoadForm) (f : ℕ → ℕ) → IsLength vl → IsVector vl (register (width_bytes form.element) f (lanes vl form.element))
lanes_shape vl form f h = vector_made vl (width_bytes form.element) f (lanes vl form.element) h (fills vl form.element h)

plain_shape : (vl : ℕ) (form : LoadForm) (f : ℕ → ℕ) (o : Option AccessFault) (ffr : List ℕ) (stops : StopList) (left : LoadLeft) → IsLength vl → IsPredicate vl ffr → left_by_plain stops (or_fault o (record { z = register (width_bytes form.element) f (lanes vl form.element); ffr = ffr })) ≡ Ok left → IsLeft vl left
plain_shape vl form f None ffr stops left h p e = as_left _ e (record { z = lanes_shape vl form f h; ffr = p })
plain_shape vl form f (Some fault) ffr stops left h p e = absurd cc

early_shape : (vl : ℕ) (form : LoadForm) (memory : Memory) (stops : StopList) (on free : ℕ → Bool) (f : ℕ → ℕ) (ffr : List ℕ) → IsLength vl → IsPredicate vl ffr → IsLeft vl (left_by_early (early_load form memory stops on free f (lanes vl form.element) ffr))
early_shape vl form memory stops on free f ffr h p =
    let n = lanes vl form.element in
    let first = first_true (suppressed_at free (lane_faults form memory f) (stop_at stops)) n 0 in
    let left = cleared_from form.element first ffr in
    record {
      z = lanes_shape vl form (kept_lane form memory on f (first_true (is_clear form.element left) n 0)) h;
      ffr = cleared_is vl form.element first ffr p h;
    }

first_shape : (vl : ℕ) (o : Option AccessFault) (load : EarlyLoad) (left : LoadLeft) → IsLeft vl (left_by_early load) → left_by_first (unless_fault o load) ≡ Ok left → IsLeft vl left
first_shape vl None load left h e = as_left (left_by_early load) e h
first_shape vl (Some fault) load left h e = absurd cc

mode_shape : (mode : LoadMode) (vl : ℕ) (form : LoadForm) (memory : Memory) (stops : StopList) (on : ℕ → Bool) (f : ℕ → ℕ) (ffr : List ℕ) (left : LoadLeft) → IsLength vl → IsPredicate vl ffr → left_by mode form memory stops on f (lanes vl form.element) ffr ≡ Ok left → IsLeft vl left
mode_shape Plain vl form memory stops on f ffr left h p e =
    plain_shape vl form (loaded_lane form memory on f) (fault_at form memory f (first_true (both on (lane_faults form memory f)) (lanes vl form.element) 0)) ffr stops left h p e
mode_shape FirstFault vl form memory stops on f ffr left h p e =
    let n = lanes vl form.element in
    let free = later_than (first_true on n 0) on in
    first_shape vl (fault_at form memory f (first_true on n 0)) (early_load form memory stops on free f n ffr) left (early_shape vl form memory stops on free f ffr h p) e
mode_shape NonFault vl form memory stops on f ffr left h p e =
    as_left (left_by_early (non_fault_early form memory stops on f (lanes vl form.element) ffr)) e (early_shape vl form memory stops on on f ffr h p)

pub load_shape : (mode : LoadMode) (dtype base index vl : ℕ) (memory : Memory) (stops : StopList) (pg ffr : List ℕ) (left : LoadLeft) → IsLength vl → IsPredicate vl ffr → load_of mode dtype base index vl memory stops pg ffr ≡ Ok left → IsLeft vl left
load_shape mode dtype base index vl memory stops pg ffr left h p e =
    let form = load_form dtype in
    mode_shape mode vl form memory stops (active form.element pg) (lane_address base index (width_bytes form.memory)) ffr left h p e

pub gather_shape : (dtype base vl : ℕ) (memory : Memory) (stops : StopList) (offsets pg ffr : List ℕ) (left : LoadLeft) → IsLength vl → IsPredicate vl ffr → gather_of dtype base vl memory stops offsets pg ffr ≡ Ok left → IsLeft vl left
gather_shape dtype base vl memory stops offsets pg ffr left h p e =
    let form = load_form dtype in
    mode_shape Plain vl form memory stops (active form.element pg) (gather_address base offsets) ffr left h p e

-- ---- the registers after a load

pub load_put : (z : List ZReg) (p : List PReg) (ffr : PReg) (vl : ℕ) (stops : StopList) (ffr2 : PReg) (stops2 : StopList) (n : ℕ) (out : ZReg) → IsVectorState (vector_state_of z p ffr vl stops) → IsLeft vl (record { z = out.bytes; ffr = ffr2.bits; stops = stops2 }) → IsVectorState (vector_state_of (slice_set z n out) p ffr2 vl stops2)
load_put z p ffr vl stops ffr2 stops2 n out h left =
    subst IsVectorState (sym (z_set z p ffr2 vl stops2 n out))
    (z_put (vector_state_of z p ffr2 vl stops2) n out.bytes (record { sized = h.sized; z_count = h.z_count; z_each = h.z_each; p_count = h.p_count; p_each = h.p_each; ffr_is = left.ffr }) left.z)

pub load_done : (mode : LoadMode) (dtype base index : ℕ) (memory : Memory) (z : List ZReg) (p : List PReg) (ffr : PReg) (vl : ℕ) (stops : StopList) (g n : ℕ) (ffr2 : PReg) (stops2 : StopList) (out : ZReg) → load_of mode dtype base index vl memory stops (get_or p g (record { bits = [] })).bits ffr.bits ≡ Ok (record { z = out.bytes; ffr = ffr2.bits; stops = stops2 }) → let r = vector_state_of z p ffr vl stops in put_load (load_of mode dtype base index r.vl memory r.stops (p_of r g) r.ffr) n r ≡ Ok (vector_state_of (slice_set z n out) p ffr2 vl stops2)
load_done mode dtype base index memory z p ffr vl stops g n ffr2 stops2 out e =
    let r = vector_state_of z p ffr vl stops in
    ap (λ m. put_load (load_of mode dtype base index vl memory stops m ffr.bits) n r) (get_or-map p_bits p g (record { bits = [] }))
    ∙ ap (λ o. put_load o n r) e
    ∙ ap Ok (sym (z_set z p ffr2 vl stops2 n out))

pub load_refused : (mode : LoadMode) (dtype base index : ℕ) (memory : Memory) (z : List ZReg) (p : List PReg) (ffr : PReg) (vl : ℕ) (stops : StopList) (g n : ℕ) (fault : AccessFault) → load_of mode dtype base index vl memory stops (get_or p g (record { bits = [] })).bits ffr.bits ≡ Err fault → let r = vector_state_of z p ffr vl stops in put_load (load_of mode dtype base index r.vl memory r.stops (p_of r g) r.ffr) n r ≡ Err fault
load_refused mode dtype base index memory z p ffr vl stops g n fault e =
    let r = vector_state_of z p ffr vl stops in
    ap (λ m. put_load (load_of mode dtype base index vl memory stops m ffr.bits) n r) (get_or-map p_bits p g (record { bits = [] }))
    ∙ ap (λ o. put_load o n r) e

-- a load that is refused leaves the registers as they were
pub load_kept : (z : List ZReg) (p : List PReg) (ffr : PReg) (vl : ℕ) (stops : StopList) (ffr2 : PReg) (stops2 : StopList) (n : ℕ) (out : ZReg) → (out ≡ get_or z n (record { bytes = [] })) × (ffr2 ≡ ffr) × (stops2 ≡ stops) → vector_state_of (slice_set z n out) p ffr2 vl stops2 ≡ vector_state_of z p ffr vl stops
load_kept z p ffr vl stops ffr2 stops2 n out same =
    ap (λ o. vector_state_of (slice_set z n o) p ffr2 vl stops2) same.0
    ∙ ap (λ zs. vector_state_of zs p ffr2 vl stops2) (set-get_or z n (record { bytes = [] }))
    ∙ ap (λ f. vector_state_of z p f vl stops2) same.1
    ∙ ap (vector_state_of z p ffr vl) same.2

-- ---- what the rows say

plain_is : (o : Option AccessFault) (z : List ℕ) (r : VectorState) (d : ℕ) (core : Core) (memory : Memory) → effects.after_load (or_fault o (record { z = z; ffr = r.ffr })) d (state_of core memory r) ≡ after_load (put_load (left_by_plain r.stops (or_fault o (record { z = z; ffr = r.ffr }))) d r) core memory
plain_is None z r d core memory = refl
plain_is (Some fault) z r d core memory = refl

first_is : (o : Option AccessFault) (load : EarlyLoad) (r : VectorState) (d : ℕ) (core : Core) (memory : Memory) → effects.after_early (unless_fault o load) d (state_of core memory r) ≡ after_load (put_load (left_by_first (unless_fault o load)) d r) core memory
first_is None load r d core memory = refl
first_is (Some fault) load r d core memory = refl

-- LD1, LDFF1 and LDNF1 at their operands
pub plain_row : (zt rn pg rm dtype : ℕ) (r : VectorState) (core : Core) (memory : Memory) → let s = state_of core memory r in do_vector (row_of ld1 (zt ∷ rn ∷ pg ∷ rm ∷ dtype ∷ [])) s ≡ after_load (put_load (load_of Plain dtype (x_or_sp s rn) (x_at s rm) r.vl memory r.stops (p_of r pg) r.ffr) zt r) core memory
plain_row zt rn pg rm dtype r core memory =
    let s = state_of core memory r in
    let form = load_form dtype in
    let on = active form.element (p_of r pg) in
    let f = lane_address (x_or_sp s rn) (x_at s rm) (width_bytes form.memory) in
    let n = lanes r.vl form.element in
    plain_is (fault_at form memory f (first_true (both on (lane_faults form memory f)) n 0)) (register (width_bytes form.element) (loaded_lane form memory on f) n) r zt core memory

pub first_row : (zt rn pg rm dtype : ℕ) (r : VectorState) (core : Core) (memory : Memory) → let s = state_of core memory r in do_vector (row_of ldff1 (zt ∷ rn ∷ pg ∷ rm ∷ dtype ∷ [])) s ≡ after_load (put_load (load_of FirstFault dtype (x_or_sp s rn) (x_at s rm) r.vl memory r.stops (p_of r pg) r.ffr) zt r) core memory
first_row zt rn pg rm dtype r core memory =
    let s = state_of core memory r in
    let form = load_form dtype in
    let on = active form.element (p_of r pg) in
    let f = lane_address (x_or_sp s rn) (x_at s rm) (width_bytes form.memory) in
    let n = lanes r.vl form.element in
    first_is (fault_at form memory f (first_true on n 0)) (early_load form memory r.stops on (later_than (first_true on n 0) on) f n r.ffr) r zt core memory

pub non_row : (zt rn pg dtype : ℕ) (r : VectorState) (core : Core) (memory : Memory) → let s = state_of core memory r in do_vector (row_of ldnf1 (zt ∷ rn ∷ pg ∷ dtype ∷ [])) s ≡ after_load (put_load (load_of NonFault dtype (x_or_sp s rn) 0 r.vl memory r.stops (p_of r pg) r.ffr) zt r) core memory
non_row zt rn pg dtype r core memory = refl

-- a gather at its operands
gathered_is : (zt rn pg zm dtype : ℕ) (r : VectorState) (core : Core) (memory : Memory) → let s = state_of core memory r in let form = load_form dtype in effects.after_load (plain_load form memory (active form.element (p_of r pg)) (gather_address (x_or_sp s rn) (z_of r zm)) (lanes r.vl form.element) r.ffr) zt s ≡ after_load (put_load (gather_of dtype (x_or_sp s rn) r.vl memory r.stops (z_of r zm) (p_of r pg) r.ffr) zt r) core memory
gathered_is zt rn pg zm dtype r core memory =
    let s = state_of core memory r in
    let form = load_form dtype in
    let on = active form.element (p_of r pg) in
    let f = gather_address (x_or_sp s rn) (z_of r zm) in
    let n = lanes r.vl form.element in
    plain_is (fault_at form memory f (first_true (both on (lane_faults form memory f)) n 0)) (register (width_bytes form.element) (loaded_lane form memory on f) n) r zt core memory

pub gather_row : (op : GatherOp) (zt rn pg zm : ℕ) (r : VectorState) (core : Core) (memory : Memory) → let s = state_of core memory r in do_vector (row_of (load_gather_name op) (zt ∷ rn ∷ pg ∷ zm ∷ [])) s ≡ after_load (put_load (gather_of (gather_dtype op) (x_or_sp s rn) r.vl memory r.stops (z_of r zm) (p_of r pg) r.ffr) zt r) core memory
gather_row gather_ops.Ld1b zt rn pg zm r core memory = gathered_is zt rn pg zm 3 r core memory
gather_row gather_ops.Ld1h zt rn pg zm r core memory = gathered_is zt rn pg zm 7 r core memory
gather_row gather_ops.Ld1w zt rn pg zm r core memory = gathered_is zt rn pg zm 11 r core memory
gather_row gather_ops.Ld1d zt rn pg zm r core memory = gathered_is zt rn pg zm 15 r core memory
gather_row gather_ops.Ld1sb zt rn pg zm r core memory = gathered_is zt rn pg zm 12 r core memory
gather_row gather_ops.Ld1sh zt rn pg zm r core memory = gathered_is zt rn pg zm 8 r core memory
gather_row gather_ops.Ld1sw zt rn pg zm r core memory = gathered_is zt rn pg zm 4 r core memory

-- the same where the operands were read before
pub load_by_operands : (mode : LoadMode) (dtype base index : ℕ) (row from at zt g : ℕ) (r : VectorState) (core : Core) (memory : Memory) → row ≡ dtype → from ≡ base → at ≡ index
    → after_load (put_load (load_of mode dtype base index r.vl memory r.stops (p_of r g) r.ffr) zt r) core memory ≡ after_load (put_load (load_of mode row from at r.vl memory r.stops (p_of r g) r.ffr) zt r) core memory
load_by_operands mode dtype base index row from at zt g r core memory d b i =
    let left : ℕ → ℕ → ℕ → Result LoadLeft AccessFault = λ d b i. load_of mode d b i r.vl memory r.stops (p_of r g) r.ffr in
    ap (λ n. after_load (put_load (left n base index) zt r) core memory) (sym d)
    ∙ ap (λ n. after_load (put_load (left row n index) zt r) core memory) (sym b)
    ∙ ap (λ n. after_load (put_load (left row from n) zt r) core memory) (sym i)

-- ---- what a load answers

pub load_went : (load : Result VectorState AccessFault) (core core2 : Core) (memory : Memory) (left : VectorState) → load ≡ Ok left → core2 ≡ record core { pc = (core.pc + 4) % 2 ^ 64 } → after_load load core memory ≡ Went (state_of core2 memory left)
load_went load core core2 memory left e next = ap (λ o. after_load o core memory) e ∙ ap (λ core. Went (state_of core memory left)) (sym next)

pub load_stopped : (load : Result VectorState AccessFault) (fault : AccessFault) (went : Bool) (answer : StepAnswer) (core : Core) (memory : Memory) (r left : VectorState) → load ≡ Err fault → left ≡ r → went ≡ false → answer ≡ answers.Stopped (record { kind = Read; pc = core.pc; at = fault.address }) → IsAnswer (after_load load core memory) (said went answer) (state_of core memory r) (state_of core memory left)
load_stopped load fault went answer core memory r left e same w a =
    subst (λ left. IsAnswer (after_load load core memory) (said went answer) (state_of core memory r) (state_of core memory left)) (sym same)
    (subst (λ o. IsAnswer (after_load o core memory) (said went answer) (state_of core memory r) (state_of core memory r)) (sym e)
    (subst (λ w. IsAnswer (after_load (Err fault) core memory) (said w answer) (state_of core memory r) (state_of core memory r)) (sym w)
    (subst (λ a. IsAnswer (after_load (Err fault) core memory) a (state_of core memory r) (state_of core memory r)) (sym a) (refl, refl))))
