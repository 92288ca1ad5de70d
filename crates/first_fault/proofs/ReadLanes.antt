-- A read of the region, lane by lane, and the words before its load.
use Rattle.std.proofs.Common.{◌≡◌, ◌≢◌, ℕ, zero, suc, ◌+◌, ◌-◌, ◌*◌, ◌%◌, ◌^◌, ◌<◌, ◌≤◌, ℤ, pos, negsuc, ◌+ℤ◌, Bool, true, false, ◌&&◌, cond, List, length, Option, Some, None, Result, Ok, Err, refl, sym, ap, ap₂, ◌∙◌, subst, arith, ⊎_elim, get_or-set_same, get_or-set_other}
use Rattle.std.specs.Prelude.{is_some, slice_index, if◌then◌else◌}
use Rattle.std.proofs.lemmas.Bool.{cases_lt, lt-ltb, le-ltb}
use Rattle.std.proofs.lemmas.List.Elements.{All-get_or}
use Rattle.guest_types.specs.declared.memory.AccessFault.{AccessFault}
use Rattle.guest_types.specs.Length.{width_bits, width_bytes, modulus, lanes}
use Rattle.guest_types.specs.Memory.{can_read, first_fault, number_at}
use Rattle.guest_types.specs.Elements.{at, active, register}
use Rattle.guest_types.specs.LaneMemory.{LoadForm, load_form, lane_address, extended, loaded_lane, lane_fault, lane_faults, is_before, kept_lane}
use Rattle.guest_types.proofs.Stores.{number_at-below}
use Rattle.guest_types.proofs.AtWidths.{at-register}
use Rattle.kernel_tree.specs.declared.ops.Ty.{Ty}
use Rattle.kernel_tree.specs.declared.ops.Ty.TheVariants as ty
use Rattle.kernel_tree.specs.Wrap.{bits_of, byte_count, log_bytes}
use Rattle.kernel_meaning.specs.Operators.{word}
use Rattle.kernel_meaning.specs.Eval.{address, read_value}
use Rattle.kernel_meaning.proofs.Addresses.{address-below}
use Rattle.kernel_meaning.proofs.Residues.{word-add}
use Rattle.machine_model.specs.declared.outcome.StopKind.TheVariants.{Read}
use Rattle.machine_model.specs.InstructionTable.{Listed}
use Rattle.machine_model.specs.Machine.{State, x_at, p_at}
use Rattle.machine_model.proofs.StateSteps.{x_put}
use Rattle.vector_order.proofs.Streams.{true_false}
use Rattle.label_fix.specs.DraftRun.{DraftEntry, Laid}
use Rattle.vector_order.specs.Orders.{Lane, Lanes, Halts, Keeps}
use Rattle.loop_form.specs.declared.loop_item.Operand.TheVariants.{Outer}
use Rattle.loop_form.specs.LoopItems.{item}
use Rattle.loop_form.specs.LoopItems as ops
use Rattle.vector_order.specs.Operands.{nth_value, with_value, on_mask, load_effect}
use Rattle.lane_emit.specs.Right.{IsOf, PRight, within}
use Rattle.lane_emit.specs.ItemCode.{mask_of, mask_register}
use Rattle.lane_emit.proofs.Residues.{held}
use Rattle.chunk_emit.specs.Registers.{Layout}
use Rattle.chunk_emit.specs.ChunkCode.{with_index, index_of, dtype_of, puts}
use Rattle.chunk_emit.specs.Chunk.{Setting, count_of, Holds}
use Rattle.chunk_emit.specs.Fits.{Assigned, IsNear}
use Rattle.chunk_emit.specs.StopPlaces.{ComesTo}
use Rattle.chunk_emit.proofs.StopsAt.{fault_byte}
use Rattle.chunk_emit.proofs.Indexes.{scratched}
use Rattle.chunk_emit.proofs.LoadForms.{IsForm, is_form, bytes_power}
use Rattle.chunk_emit.proofs.Loads.{read_lane, lane_value, read_of}
use Rattle.first_fault.specs.Region.{Way, On, Fell, way_of, item_way}
use Rattle.first_fault.specs.RegionCode.{Mode}
use Rattle.label_fix.specs.Stretches.{Leads}
use Rattle.first_fault.specs.Prefix.{Inside}
use Rattle.first_fault.proofs.Stretches.{rest_at, word_leads}
use Rattle.first_fault.proofs.PrefixSteps.{same_then, prefix, length_is, few_all}

-- ---- what a read does in one lane

read_does : (t : Ty) (q : ℕ) (l : Lane) (b : Bool) (o : Option ℕ) (n : ℕ)
    → (if b then load_effect l q (read_value t (elim o as (λ o. Result ℕ AccessFault) [ None ↦ Ok n | Some fault ↦ Err (record { address = fault; write = false }) ])) else Keeps (with_value l q (pos 0)))
    ≡ (if b && is_some o then Halts else Keeps (with_value l q (read_lane t b n)))
read_does t q l true None n = refl
read_does t q l true (Some fault) n = refl
read_does t q l false None n = refl
read_does t q l false (Some fault) n = refl

-- ---- the words before the load

module _ {l : Layout} (fit : Assigned l) {f : Setting} {a : State} {p0 : ℕ} {t0 : Lanes} (h0 : Holds l f p0 t0 a) where
  -- X26 may change
  pub inside_scratch : {mode : Mode} {n p : ℕ} {ls : ℕ → Lane} {s : State} (v : ℕ) → v < 2 ^ 64 → Inside mode l f a n p ls s → Inside mode l f a n p ls (scratched s v)
  inside_scratch {s = s} v lt h = record {
    is = x_put s (scratched s v) 26 v h.is lt refl;
    few = h.few;
    alone = h.alone;
    same = same_then h.same (record { memory = refl; vl = refl; x = λ r ne. get_or-set_other s.x 26 r v 0 ne; all = refl; held = λ x is. refl; sums = λ x is. refl });
    top = h.top;
    ffr = h.ffr;
    values = λ q lt le. let old = h.values q lt le in record { right = old.right; typed = old.typed };
    truths = h.truths;
  }

  pub x_is : {mode : Mode} {n p : ℕ} {ls : ℕ → Lane} {s : State} → Inside mode l f a n p ls s → (r : ℕ) → r ≢ 26 → x_at s r ≡ slice_index f.x r
  x_is h r ne = h.same.x r ne ∙ h0.x r ne

  pub x_below : {mode : Mode} {n p : ℕ} {ls : ℕ → Lane} {s : State} → Inside mode l f a n p ls s → (r : ℕ) → r < 31 → x_at s r < 2 ^ 64
  x_below {s = s} h r lt = All-get_or (λ v. v < 2 ^ 64) s.x r 0 (omega (arith, lt, h.is.x_count)) h.is.x_small

  -- a state in which the index register holds the iteration of the first lane and the offset
  pub record Indexed (mode : Mode) (n p : ℕ) (ls : ℕ → Lane) (d : Laid) (rest : List DraftEntry) (c : ℤ) (inner : List Listed) (s : State) : Type 0 where
    pub state : State
    pub words : ℕ
    pub counted : length (with_index c inner) ≡ words + length inner
    pub leads : Leads d (puts (with_index c inner) rest) s (puts inner rest) state words
    pub inside : Inside mode l f a n p ls state
    pub truths : state.p ≡ s.p
    pub place : x_at state (index_of c) ≡ word (pos f.i +ℤ c)

  pub indexed : {mode : Mode} {n p : ℕ} {ls : ℕ → Lane} {s : State} (d : Laid) (rest : List DraftEntry) (c : ℤ) (inner : List Listed) → IsNear c → Inside mode l f a n p ls s → Indexed mode n p ls d rest c inner s
  indexed {s = s} d rest (pos zero) inner near h = record {
    state = s;
    words = 0;
    counted = omega arith;
    leads = rest_at 0;
    inside = h;
    truths = refl;
    place =
        let nine : x_at s 9 ≡ f.i = x_is h 9 (λ e. absurd (omega (arith, e))) ∙ h0.index in
        let low : f.i < 2 ^ 64 = subst (λ i. i < 2 ^ 64) nine (x_below h 9 (omega arith)) in
        nine ∙ sym (word-add (pos f.i) (pos 0) ∙ omega (arith, low));
  }
  indexed {s = s} d rest (pos (suc k)) inner near h =
      let v = (x_at s 9 + suc k * 2 ^ (12 * 0)) % 2 ^ 64 in
      let nine : x_at s 9 ≡ f.i = x_is h 9 (λ e. absurd (omega (arith, e))) ∙ h0.index in
      record {
        state = scratched s v;
        words = 1;
        counted = omega arith;
        leads = word_leads false refl refl;
        inside = inside_scratch v (omega arith) h;
        truths = refl;
        place = get_or-set_same s.x 26 v 0 (omega (arith, h.is.x_count)) ∙ ap (λ i. (i + suc k * 2 ^ (12 * 0)) % 2 ^ 64) nine ∙ sym (word-add (pos f.i) (pos (suc k)) ∙ omega arith);
      }
  indexed {s = s} d rest (negsuc k) inner near h =
      let v = (x_at s 9 + (2 ^ 64 - suc k * 2 ^ (12 * 0))) % 2 ^ 64 in
      let nine : x_at s 9 ≡ f.i = x_is h 9 (λ e. absurd (omega (arith, e))) ∙ h0.index in
      record {
        state = scratched s v;
        words = 1;
        counted = omega arith;
        leads = word_leads false refl refl;
        inside = inside_scratch v (omega arith) h;
        truths = refl;
        place = get_or-set_same s.x 26 v 0 (omega (arith, h.is.x_count)) ∙ ap (λ i. (i + (2 ^ 64 - suc k * 2 ^ (12 * 0))) % 2 ^ 64) nine ∙ sym (word-add (pos f.i) (negsuc k) ∙ omega (arith, near));
      }

-- the address of the first lane in one register
pub from_address : (t : Ty) (b r e : ℕ) → lane_address ((b + r * 2 ^ log_bytes t % 2 ^ 64) % 2 ^ 64) 0 (byte_count t) e ≡ lane_address b r (byte_count t) e
from_address ty.I8 b r e = omega arith
from_address other b r e = omega arith

-- ---- a read over the lanes

module _ {l : Layout} (fit : Assigned l) {f : Setting} {a : State} {p0 : ℕ} {t0 : Lanes} (h0 : Holds l f p0 t0 a) (p : ℕ) (ls : ℕ → Lane) (mask : Option ℕ) (array : List ℕ) (x : ℕ) (ty : Ty) (c : ℤ) (wide : bits_of ty ≤ width_bits f.w) where
  abbrev pub m : ℕ
  m = mask_register l.registers mask

  abbrev pub form : LoadForm
  form = load_form (dtype_of ty f.w)

  abbrev pub place : ℕ → ℕ
  place j = address ty (nth_value f.names x) (pos j +ℤ c)

  abbrev pub fault : ℕ → Option ℕ
  fault j = first_fault (can_read a.memory) (place j) (byte_count ty)

  abbrev pub number : ℕ → ℕ
  number j = number_at a.memory (place j) (byte_count ty)

  abbrev pub val : ℕ → Lane → ℤ
  val j b = read_lane ty (on_mask mask b) (number j)

  abbrev pub new : ℕ → Lane
  new j = with_value (ls j) p (val j (ls j))

  abbrev pub way : ℕ → Lane → Way
  way j b = item_way f.names (item p mask (ops.Load array (Outer x) (Some ty) c)) j a.memory b

  way_is : (j : ℕ) (b : Lane) → way j b ≡ way_of Fell (if on_mask mask b && is_some (fault j) then Halts else Keeps (with_value b p (val j b)))
  way_is j b = ap (way_of Fell) (read_does ty p b (on_mask mask b) (fault j) (number j))

  pub typed : (j : ℕ) → IsOf ty (val j (ls j))
  typed j = read_of ty (on_mask mask (ls j)) (number j)

  module _ {mode : Mode} {n : ℕ} {u : State} (h : Inside mode l f a n p ls u) (exact : PRight f.w (count_of f) (p_at u m) (within n (mask_of (prefix f a n ls) mask))) (spot : ℕ → ℕ) (spot_is : (e : ℕ) → spot e ≡ place (f.i + e)) where
    pub is : IsForm ty f.w
    is = is_form ty f.w wide

    abbrev pub on : ℕ → Bool
    on = active form.element (p_at u m)

    abbrev pub faults : ℕ → Bool
    faults = lane_faults form u.memory spot

    abbrev pub count : ℕ
    count = lanes u.vl form.element

    pub read_count : count ≡ count_of f
    read_count = ap₂ lanes (length_is fit h0 h) is.element

    pub in_count : (e : ℕ) → e < n → e < count
    in_count e lt = omega (arith, lt, few_all fit h0 h, read_count)

    pub on_in : (e : ℕ) → e < n → on e ≡ on_mask mask (ls (f.i + e))
    on_in e lt = ap (λ w. active w (p_at u m) e) is.element ∙ exact e (omega (arith, lt, few_all fit h0 h)) ∙ ap (λ b. b && on_mask mask (ls (f.i + e))) (lt-ltb e n lt)

    pub on_out : (e : ℕ) → n ≤ e → e < count → on e ≡ false
    on_out e le lt = ap (λ w. active w (p_at u m) e) is.element ∙ exact e (omega (arith, lt, read_count)) ∙ ap (λ b. b && on_mask mask (ls (f.i + e))) (le-ltb e n le)

    pub below : (v : ℕ) → v < count → on v ≡ true → v < n
    below v lt yes' = ⊎_elim (λ vn. vn) (λ ge. absurd (true_false (on v) yes' (on_out v ge lt))) (cases_lt v n)

    fault_is : (e : ℕ) → lane_fault form u.memory spot e ≡ fault (f.i + e)
    fault_is e = ap (λ mem. first_fault (can_read mem) (spot e) (width_bytes form.memory)) h.same.memory ∙ ap₂ (first_fault (can_read a.memory)) (spot_is e) is.memory

    -- where the access of the first lane faults, it does so at a byte of its element
    pub fault_near : (e z : ℕ) → f.i + e ≡ f.i → lane_fault form u.memory spot e ≡ Some z → ComesTo f.names (ops.Load array (Outer x) (Some ty) c) Read f.i z
    fault_near e z same eq = (refl, fault_byte (can_read a.memory) (place f.i) (byte_count ty) z (address-below ty (nth_value f.names x) (pos f.i +ℤ c)) (ap fault (sym same) ∙ sym (fault_is e) ∙ eq))

    read_number : (e : ℕ) → number_at u.memory (spot e) (width_bytes form.memory) ≡ number (f.i + e)
    read_number e = ap (λ mem. number_at mem (spot e) (width_bytes form.memory)) h.same.memory ∙ ap₂ (number_at a.memory) (spot_is e) is.memory

    number_low : (e : ℕ) → number (f.i + e) < 2 ^ bits_of ty
    number_low e = subst (λ k. number (f.i + e) < k) (bytes_power ty) (number_at-below a.memory (place (f.i + e)) (byte_count ty) h0.is.mapped)

    test_is : (e : ℕ) → e < n → (on_mask mask (ls (f.i + e)) && is_some (fault (f.i + e))) ≡ (on e && faults e)
    test_is e lt = ap₂ (λ b o. b && is_some o) (sym (on_in e lt)) (sym (fault_is e))

    pub read_passes_lane : (e : ℕ) → e < n → (on e && faults e) ≡ false → way (f.i + e) (ls (f.i + e)) ≡ On (new (f.i + e))
    read_passes_lane e lt no' = way_is (f.i + e) (ls (f.i + e)) ∙ ap (λ b. way_of Fell (if b then Halts else Keeps (new (f.i + e)))) (test_is e lt ∙ no')

    pub falls : (e : ℕ) → e < n → (on e && faults e) ≡ true → way (f.i + e) (ls (f.i + e)) ≡ Fell
    falls e lt yes' = way_is (f.i + e) (ls (f.i + e)) ∙ ap (λ b. way_of Fell (if b then Halts else Keeps (new (f.i + e)))) (test_is e lt ∙ yes')

    -- an element of what was loaded, before the first that was not
    pub kept_is : (limit : Option ℕ) (e : ℕ) → e < n → is_before limit e ≡ true → at f.w (register (width_bytes form.element) (kept_lane form u.memory on spot limit) count) e ≡ held f.w (val (f.i + e) (ls (f.i + e)))
    kept_is limit e lt before =
        ap (λ w. at f.w (register (width_bytes w) (kept_lane form u.memory on spot limit) count) e) is.element
        ∙ at-register f.w (kept_lane form u.memory on spot limit) count e (in_count e lt)
        ∙ ap (λ b. cond b (loaded_lane form u.memory on spot e) 0 % modulus f.w) before
        ∙ ap₂ (λ b n. cond b (extended form n) 0 % modulus f.w) (on_in e lt) (read_number e)
        ∙ lane_value ty f.w (on_mask mask (ls (f.i + e))) (number (f.i + e)) is (number_low e)

    pub loaded_is : (e : ℕ) → e < n → at f.w (register (width_bytes form.element) (loaded_lane form u.memory on spot) count) e ≡ held f.w (val (f.i + e) (ls (f.i + e)))
    loaded_is e lt =
        ap (λ w. at f.w (register (width_bytes w) (loaded_lane form u.memory on spot) count) e) is.element
        ∙ at-register f.w (loaded_lane form u.memory on spot) count e (in_count e lt)
        ∙ ap₂ (λ b n. cond b (extended form n) 0 % modulus f.w) (on_in e lt) (read_number e)
        ∙ lane_value ty f.w (on_mask mask (ls (f.i + e))) (number (f.i + e)) is (number_low e)
