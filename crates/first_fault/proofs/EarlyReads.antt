-- The read of a chunk: a load that may stop early, and the lanes that it leaves.
use Rattle.std.proofs.Common.{◌≡◌, ℕ, zero, suc, ◌+◌, ◌*◌, ◌<◌, ◌≤◌, ℤ, pos, ◌+ℤ◌, Bool, true, false, not, ◌&&◌, ◌||◌, cond, ltb, List, [], ◌∷◌, Option, Some, None, refl, sym, ap, ap₂, ◌∙◌, subst, arith, ⊎_elim, get_or-set_same, get_or-set_other}
use Rattle.std.specs.Prelude.{is_some, slice_index, if◌then◌else◌}
use Rattle.std.proofs.lemmas.Bool.{cases_lt, cases_eq, lt-ltb, and_parts}
use mathlib.Core.Bool.{and-false}
use Rattle.guest_types.specs.declared.length.Width.TheVariants.{B}
use Rattle.guest_types.specs.Length.{width_bits, width_bytes, lanes}
use Rattle.guest_types.specs.Elements.{at, active, bit, register, predicate, first_true, both}
use Rattle.guest_types.specs.LaneMemory.{LoadForm, lane_address, lane_fault, lane_faults, read_fault, fault_at, kept_bit, cleared_from, is_clear, is_before, kept_lane, loaded_with}
use Rattle.guest_types.specs.EarlyLoads.{stop_at, later, rank, suppressed_at, looked_at, is_cut, EarlyLoad, early_load, later_than, unless_fault}
use Rattle.guest_types.proofs.Predicates.{bit-bits_of}
use Rattle.guest_types.proofs.Widths.{some-bytes}
use Rattle.kernel_tree.specs.declared.ops.Ty.{Ty}
use Rattle.kernel_tree.specs.Wrap.{bits_of as type_bits}
use Rattle.kernel_meaning.specs.Operators.{word}
use Rattle.sve_code.specs.Table.{ldff1, ldnf1}
use Rattle.machine_model.specs.InstructionTable.{Vector}
use Rattle.machine_model.specs.Machine.{State, Went, x_at, x_or_sp, z_at, p_at, with_p, next}
use Rattle.machine_model.specs.OneStep.{cuts_in}
use Rattle.machine_model.specs.States.{IsState}
use Rattle.machine_model.specs.VectorEffects.{field_of, do_vector, with_early, after_early, is_early_cut}
use Rattle.machine_model.proofs.StateSteps.{truths_put, went_keeps}
use Rattle.machine_model.specs.declared.outcome.StopKind.TheVariants.{Read}
use Rattle.label_fix.specs.DraftRun.{DraftEntry, Laid}
use Rattle.loop_form.specs.declared.loop_item.Operand.TheVariants.{Outer}
use Rattle.loop_form.specs.LoopItems as ops
use Rattle.vector_order.specs.Orders.{Lane, Lanes}
use Rattle.vector_order.specs.Operands.{nth_value}
use Rattle.vector_order.proofs.Streams.{true_false}
use Rattle.lane_emit.specs.Right.{PRight, within}
use Rattle.lane_emit.specs.Stretch.{VectorInstruction}
use Rattle.lane_emit.specs.ItemCode.{mask_of, mask_register}
use Rattle.chunk_emit.specs.Registers.{Layout, z_of, IsValueUsed}
use Rattle.chunk_emit.specs.ChunkCode.{puts}
use Rattle.chunk_emit.specs.Chunk.{Setting, count_of, Holds}
use Rattle.chunk_emit.specs.Fits.{Assigned, MakesValue}
use Rattle.chunk_emit.specs.StopPlaces.{ComesTo, StopsAt}
use Rattle.chunk_emit.proofs.StopsAt.{stop_at as word_stops, stop_at_more}
use Rattle.chunk_emit.proofs.ItemLanes.{first_none}
use Rattle.first_fault.specs.Region.{Way}
use Rattle.first_fault.specs.RegionCode.{Early, first_fault_word, non_fault_word, read_faults}
use Rattle.first_fault.specs.Prefix.{Inside}
use Rattle.first_fault.specs.SuppressedLanes.{Suppresses}
use Rattle.first_fault.specs.RegionRuns.{Why, by_fault, by_stop, RegionOutcome, stops, comes}
use Rattle.first_fault.proofs.PrefixBits.{scaled, narrow, First, missing, found, first_is}
use Rattle.first_fault.proofs.Stretches.{Pair, pair, suppressed_here}
use Rattle.first_fault.proofs.PrefixSteps.{prefix, lane_byte_below_256, length_is, few_all}
use Rattle.first_fault.proofs.BreakSteps.{byte_and}
use Rattle.first_fault.proofs.ReadLanes as reads
use Rattle.first_fault.proofs.SingleReads.{read_inside, spot, spot_is}

no_fault : (a b c : Bool) → (a && (b || c)) ≡ false → (a && b) ≡ false
no_fault false b c h = refl
no_fault true false c h = refl
no_fault true true c h = h

no_fault_later : (a b c d : Bool) → b ≡ true → ((a && b) && (c || d)) ≡ false → (a && c) ≡ false
no_fault_later false b c d e h = refl
no_fault_later true true c d e h = no_fault true c d h
no_fault_later true false c d e h = absurd (true_false false e refl)

first_here : (test : ℕ → Bool) (n : ℕ) → 0 < n → test 0 ≡ true → first_true test n 0 ≡ Some 0
first_here test zero some yes' = absurd (omega (arith, some))
first_here test (suc n) some yes' = ap (λ b. if b then Some 0 else first_true test n (0 + 1)) yes'

pub is_none : (o : Option ℕ) → is_some o ≡ false → o ≡ None
is_none None h = refl
is_none (Some z) h = absurd cc

before_is : (t : ℕ → Bool) (n k : ℕ) {o : Option ℕ} → First t n 0 o → ((e : ℕ) → e < k → t e ≡ false) → (e : ℕ) → e < k → is_before o e ≡ true
before_is t n k (missing g) runs e en = refl
before_is t n k (found v lo hi yes' g) runs e en = ⊎_elim (λ lt. lt-ltb e v lt) (λ ge. absurd (true_false (t v) yes' (runs v (omega (arith, ge, en))))) (cases_lt e v)

module _ {l : Layout} (fit : Assigned l) {f : Setting} {a : State} {p0 : ℕ} {t0 : Lanes} (h0 : Holds l f p0 t0 a) (p : ℕ) (ls : ℕ → Lane) (mask : Option ℕ) (array : List ℕ) (x : ℕ) (ty : Ty) (c : ℤ) (wide : type_bits ty ≤ width_bits f.w) (makes : MakesValue l p ty) (used : IsValueUsed l p) (d : Laid) (rest : List DraftEntry) {n : ℕ} {u : State} (h : Inside Early l f a n p ls u) (exact : PRight f.w (count_of f) (p_at u (mask_register l.registers mask)) (within n (mask_of (prefix f a n ls) mask))) (place : ℕ → ℕ) (place_is : (e : ℕ) → place e ≡ reads.place fit h0 p ls mask array x ty c wide (f.i + e)) where
  abbrev new : ℕ → Lane
  new = reads.new fit h0 p ls mask array x ty c wide

  abbrev way : ℕ → Lane → Way
  way = reads.way fit h0 p ls mask array x ty c wide

  abbrev form : LoadForm
  form = reads.form fit h0 p ls mask array x ty c wide

  abbrev on : ℕ → Bool
  on = active form.element (p_at u (mask_register l.registers mask))

  abbrev faults : ℕ → Bool
  faults = lane_faults form u.memory place

  abbrev count : ℕ
  count = lanes u.vl form.element

  in_count : (e : ℕ) → e < n → e < count
  in_count = reads.in_count fit h0 p ls mask array x ty c wide h exact place place_is

  below : (v : ℕ) → v < count → on v ≡ true → v < n
  below = reads.below fit h0 p ls mask array x ty c wide h exact place place_is

  element_is : form.element ≡ f.w
  element_is = (reads.is fit h0 p ls mask array x ty c wide h exact place place_is).element

  module _ (free : ℕ → Bool) where
    -- FFR after the load
    abbrev ffr_of : Option ℕ → List ℕ
    ffr_of o = cleared_from form.element o u.ffr

    abbrev load : Option ℕ → EarlyLoad
    load o = record { loaded = loaded_with form u.memory on place count (ffr_of o); stops = later u.stops (looked_at free faults count o); cut = is_cut faults o }

    -- the states after the load, and after the word that narrows P0
    abbrev loaded_state : Option ℕ → State
    loaded_state o = next (with_early u (z_of l p) (load o))

    abbrev narrowed_state : Option ℕ → State
    narrowed_state o = next (with_p (loaded_state o) 0 (predicate 1 (both (bit (p_at u 0)) (bit (ffr_of o))) (lanes u.vl B)))

    after_read : (o : Option ℕ) (k : ℕ) → k ≤ n → IsState (loaded_state o) → ((e : ℕ) → e < n → active f.w (ffr_of o) e ≡ ltb e k) → Inside Early l f a k (p + 1) new (narrowed_state o)
    after_read o k le is clear =
        let end = narrowed_state o in
        let bits = both (bit (p_at u 0)) (bit (ffr_of o)) in
        let p_new = predicate 1 bits (lanes u.vl B) in
        let limit = first_true (is_clear form.element (ffr_of o)) count 0 in
        let z_new = register (width_bytes form.element) (kept_lane form u.memory on place limit) count in
        let written : z_at end (z_of l p) ≡ z_new = get_or-set_same u.z (z_of l p) z_new [] (omega (arith, h.is.z_count, fit.z_small p)) in
        let is_new : p_at end 0 ≡ p_new = get_or-set_same u.p 0 p_new [] (omega (arith, h.is.p_count)) in
        let before : (e : ℕ) → e < k → is_before limit e ≡ true = before_is (is_clear form.element (ffr_of o)) count k (first_is (is_clear form.element (ffr_of o)) count 0)
        (λ e ek. ap not (ap (λ w. active w (ffr_of o) e) element_is ∙ clear e (omega (arith, ek, le)) ∙ lt-ltb e k ek)) in
        read_inside fit h0 p ls mask array x ty c wide makes used h le (truths_put (loaded_state o) end 0 B bits is refl)
        (record {
          memory = refl;
          vl = refl;
          x = λ r ne. refl;
          all = get_or-set_other u.p 0 1 p_new [] (λ eq. absurd (omega (arith, eq)));
          held = λ y held. get_or-set_other u.z (z_of l p) (l.registers.source y) z_new [] (λ eq. fit.held_apart y p held used (sym eq));
          sums = λ y is. get_or-set_other u.z (z_of l p) (l.sum y) z_new [] (λ eq. fit.sum_apart y p is used (sym eq));
        })
        (narrow (width_bytes f.w) (bit (p_at u 0)) (bit (p_at end 0)) n k (bit (ffr_of o)) (some-bytes f.w) h.top le clear
        (λ j lt. ap (λ b. bit b j) is_new ∙ ap (λ v. bit (predicate 1 bits (lanes v B)) j) (length_is fit h0 h) ∙ byte_and fit h0 (p_at u 0) (bit (ffr_of o)) n h.top (few_all fit h0 h) j lt))
        (λ early e ek. clear e (omega (arith, ek, le)) ∙ lt-ltb e k ek) (λ r ne. get_or-set_other u.z (z_of l p) r z_new [] ne) (λ r ne. get_or-set_other u.p 0 r p_new [] ne)
        (λ e ek. ap (λ z. at f.w z e) written ∙ reads.kept_is fit h0 p ls mask array x ty c wide h exact place place_is limit e (omega (arith, ek, le)) (before e ek))

    -- the load and the word after it
    abbrev TwoWords : VectorInstruction → Option ℕ → Type 0
    TwoWords i o = Pair d (puts (Vector i ∷ read_faults ∷ []) rest) u rest (narrowed_state o) (is_cut faults o)

    two_words : (i : VectorInstruction) (o : Option ℕ) → do_vector i u ≡ Went (loaded_state o) → cuts_in (Vector i) u ≡ is_cut faults o → TwoWords i o
    two_words i o does is = pair d (Vector i) read_faults rest u (loaded_state o) (narrowed_state o) (is_cut faults o) does is refl refl

    leads_cut_once : (i : VectorInstruction) (o : Option ℕ) (w : TwoWords i o) → is_cut faults o ≡ true → 0 < w.leads.cut
    leads_cut_once i o w yes' = let one : w.leads.cut ≡ 1 = w.is ∙ ap (λ b. cond b 1 0) yes' in omega (arith, one)

    abbrev Result : VectorInstruction → Type 0
    Result i = RegionOutcome Early l f d a n (p + 1) 2 ls (puts (Vector i ∷ read_faults ∷ []) rest) u rest way (ComesTo f.names (ops.Load array (Outer x) (Some ty) c) Read f.i)

    outcome_none : (i : VectorInstruction) → do_vector i u ≡ Went (loaded_state None) → cuts_in (Vector i) u ≡ false → IsState (loaded_state None) → ((e : ℕ) → e < n → (on e && faults e) ≡ false) → Result i
    outcome_none i does is state none =
        comes n new (narrowed_state None) (omega arith) (λ e en. reads.read_passes_lane fit h0 p ls mask array x ty c wide h exact place place_is e en (none e en)) (two_words i None does is).leads (λ lt. absurd (omega (arith, lt)))
        (after_read None n (omega arith) state (λ e en. h.ffr refl e en ∙ sym (lt-ltb e n en)))

    -- lane v is suppressed
    outcome_some : (i : VectorInstruction) (v : ℕ) → v < n → on v ≡ true → do_vector i u ≡ Went (loaded_state (Some v)) → cuts_in (Vector i) u ≡ not (faults v) → IsState (loaded_state (Some v)) → (faults v ≡ false → Suppresses f.w i u v) → ((e : ℕ) → e < v → (on e && faults e) ≡ false) → Result i
    outcome_some i v vn yes' does is state cuts none =
        comes v new (narrowed_state (Some v)) (omega (arith, vn)) (λ e ev. reads.read_passes_lane fit h0 p ls mask array x ty c wide h exact place place_is e (omega (arith, ev, vn)) (none e ev)) (two_words i (Some v) does is).leads (λ lt. why (faults v) refl)
        (after_read (Some v) v (omega (arith, vn)) state (λ e en.
        bit-bits_of (kept_bit u.ffr (width_bytes form.element * v)) 32 (width_bytes f.w * e) (lane_byte_below_256 fit h0 e (omega (arith, en, few_all fit h0 h)))
        ∙ ap (λ w. bit u.ffr (width_bytes f.w * e) && ltb (width_bytes f.w * e) (width_bytes w * v)) element_is
        ∙ ap₂ (λ a b. a && b) (h.ffr refl e en) (scaled (width_bytes f.w) e v (some-bytes f.w))))
      where
        why : (b : Bool) → faults v ≡ b → Why Early f.w (way (f.i + v) (ls (f.i + v))) (two_words i (Some v) does is).leads v
        why true eq = by_fault refl (reads.falls fit h0 p ls mask array x ty c wide h exact place place_is v vn (ap₂ (λ a b. a && b) yes' eq))
        why false eq =
            let both = two_words i (Some v) does is in
            by_stop refl (leads_cut_once i (Some v) both (ap not eq)) (suppressed_here f.w d i (puts (read_faults ∷ []) rest) rest u (narrowed_state (Some v)) (is_cut faults (Some v)) v both (cuts eq))

-- ---- under a mask: a load that never faults

module _ {l : Layout} (fit : Assigned l) {f : Setting} {a : State} {p0 : ℕ} {t0 : Lanes} (h0 : Holds l f p0 t0 a) (p : ℕ) (ls : ℕ → Lane) (mask : Option ℕ) (array : List ℕ) (x : ℕ) (ty : Ty) (c : ℤ) (wide : type_bits ty ≤ width_bits f.w) (makes : MakesValue l p ty) (used : IsValueUsed l p) (d : Laid) (rest : List DraftEntry) {n : ℕ} {u : State} (h : Inside Early l f a n p ls u) (exact : PRight f.w (count_of f) (p_at u (mask_register l.registers mask)) (within n (mask_of (prefix f a n ls) mask))) where
  abbrev m : ℕ
  m = mask_register l.registers mask

  abbrev shape : LoadForm
  shape = reads.form fit h0 p ls mask array x ty c wide

  abbrev lane_on : ℕ → Bool
  lane_on = active shape.element (p_at u m)

  abbrev Ends : VectorInstruction → Type 0
  Ends i = RegionOutcome Early l f d a n (p + 1) 2 ls (puts (Vector i ∷ read_faults ∷ []) rest) u rest (reads.way fit h0 p ls mask array x ty c wide) (ComesTo f.names (ops.Load array (Outer x) (Some ty) c) Read f.i)

  module _ (place_is : (e : ℕ) → lane_address (x_or_sp u 26) 0 (width_bytes shape.memory) e ≡ reads.place fit h0 p ls mask array x ty c wide (f.i + e)) where
    abbrev places : ℕ → ℕ
    places = lane_address (x_or_sp u 26) 0 (width_bytes shape.memory)

    abbrev bad : ℕ → Bool
    bad = lane_faults shape u.memory places

    abbrev off : ℕ → Bool
    off = suppressed_at lane_on bad (stop_at u.stops)

    abbrev following : Option ℕ → State
    following o = loaded_state fit h0 p ls mask array x ty c wide makes used d rest h exact places place_is lane_on o

    abbrev code : VectorInstruction
    code = non_fault_word f.w ty (z_of l p) m

    early_load_does : do_vector code u ≡ Went (following (first_true off (lanes u.vl shape.element) 0))
    early_load_does = refl

    is_following : (o : Option ℕ) → do_vector code u ≡ Went (following o) → IsState (following o)
    is_following o e = let small : 0 < 16 = omega arith in went_keeps ldnf1 (field_of ldnf1 code.numbers) u (following o) small h.is e

    by : (o : Option ℕ) → first_true off (lanes u.vl shape.element) 0 ≡ o → First off (lanes u.vl shape.element) 0 o → Ends code
    by o eq (missing none) =
        let went : do_vector code u ≡ Went (following None) = early_load_does ∙ ap (λ o. Went (following o)) eq in
        outcome_none fit h0 p ls mask array x ty c wide makes used d rest h exact places place_is lane_on code went (ap (is_cut bad) eq) (is_following None went)
        (λ e en. no_fault (lane_on e) (bad e) (stop_at u.stops (rank lane_on e)) (none e (omega arith) (omega (arith, reads.in_count fit h0 p ls mask array x ty c wide h exact places place_is e en))))
    by o eq (found v lo hi yes' none) =
        let went : do_vector code u ≡ Went (following (Some v)) = early_load_does ∙ ap (λ o. Went (following o)) eq in
        let on_v = (and_parts (lane_on v) (bad v || stop_at u.stops (rank lane_on v)) yes').0 in
        outcome_some fit h0 p ls mask array x ty c wide makes used d rest h exact places place_is lane_on code v (reads.below fit h0 p ls mask array x ty c wide h exact places place_is v (omega (arith, hi)) on_v) on_v went (ap (is_cut bad) eq) (is_following (Some v) went)
        (λ reads_v. record { width = (reads.is fit h0 p ls mask array x ty c wide h exact places place_is).element; free = ap (is_cut bad) eq ∙ ap not reads_v; first = eq })
        (λ e ev. no_fault (lane_on e) (bad e) (stop_at u.stops (rank lane_on e)) (none e (omega arith) ev))

    pub masked_reads : Ends code
    masked_reads = by (first_true off (lanes u.vl shape.element) 0) refl (first_is off (lanes u.vl shape.element) 0)

-- ---- under P0: a load that faults at its first lane alone

module _ {l : Layout} (fit : Assigned l) {f : Setting} {a : State} {p0 : ℕ} {t0 : Lanes} (h0 : Holds l f p0 t0 a) (p : ℕ) (ls : ℕ → Lane) (array : List ℕ) (x : ℕ) (ty : Ty) (c : ℤ) (wide : type_bits ty ≤ width_bits f.w) (makes : MakesValue l p ty) (used : IsValueUsed l p) (d : Laid) (rest : List DraftEntry) {n : ℕ} {u : State} (h : Inside Early l f a n p ls u) (exact : PRight f.w (count_of f) (p_at u 0) (within n (mask_of (prefix f a n ls) None))) (based_low : x < 8) (based : slice_index f.x x ≡ word (nth_value f.names x)) (r : ℕ) (at_index : x_at u r ≡ word (pos f.i +ℤ c)) where
  abbrev first_form : LoadForm
  first_form = reads.form fit h0 p ls None array x ty c wide

  abbrev top_on : ℕ → Bool
  top_on = active first_form.element (p_at u 0)

  abbrev spots : ℕ → ℕ
  spots = spot fit h0 p ls None array x ty c wide makes used h based_low based r at_index

  spots_are : (e : ℕ) → spots e ≡ reads.place fit h0 p ls None array x ty c wide (f.i + e)
  spots_are = spot_is fit h0 p ls None array x ty c wide makes used h based_low based r at_index

  abbrev wrong : ℕ → Bool
  wrong = lane_faults first_form u.memory spots

  abbrev many : ℕ
  many = lanes u.vl first_form.element

  abbrev left : Option ℕ → ℕ → Bool
  left o = later_than o top_on

  abbrev gone : Option ℕ → ℕ → Bool
  gone o = suppressed_at (left o) wrong (stop_at u.stops)

  abbrev first_code : VectorInstruction
  first_code = first_fault_word f.w ty (z_of l p) x r

  abbrev reached : Option ℕ → Option ℕ → State
  reached o1 o = loaded_state fit h0 p ls None array x ty c wide makes used d rest h exact spots spots_are (left o1) o

  -- what the load comes to, by its first active element and by what the access of that element does
  abbrev comes_to : Option ℕ → Rattle.std.specs.Prelude.Result EarlyLoad Rattle.guest_types.specs.declared.memory.AccessFault.AccessFault
  comes_to o1 = unless_fault (fault_at first_form u.memory spots o1) (early_load first_form u.memory u.stops top_on (left o1) spots many u.ffr)

  first_does : do_vector first_code u ≡ after_early (comes_to (first_true top_on many 0)) (z_of l p) u
  first_does = refl

  first_cuts : cuts_in (Vector first_code) u ≡ is_early_cut (comes_to (first_true top_on many 0))
  first_cuts = refl

  is_reached : (o1 o : Option ℕ) → do_vector first_code u ≡ Went (reached o1 o) → IsState (reached o1 o)
  is_reached o1 o e = let small : 0 < 16 = omega arith in went_keeps ldff1 (field_of ldff1 first_code.numbers) u (reached o1 o) small h.is e

  abbrev TopEnds : Type 0
  TopEnds = RegionOutcome Early l f d a n (p + 1) 2 ls (puts (Vector first_code ∷ read_faults ∷ []) rest) u rest (reads.way fit h0 p ls None array x ty c wide) (ComesTo f.names (ops.Load array (Outer x) (Some ty) c) Read f.i)

  -- no lane has come so far
  none_on : n ≡ 0 → TopEnds
  none_on z =
      let off : (e : ℕ) → 0 ≤ e → e < 0 + many → top_on e ≡ false = λ e le lt. reads.on_out fit h0 p ls None array x ty c wide h exact spots spots_are e (omega (arith, z)) (omega (arith, lt)) in
      let e1 : first_true top_on many 0 ≡ None = first_none top_on many 0 off in
      let e2 : first_true (gone None) many 0 ≡ None = first_none (gone None) many 0 (λ e le lt. refl) in
      let went : do_vector first_code u ≡ Went (reached None None) = first_does ∙ ap (λ o1. after_early (comes_to o1) (z_of l p) u) e1 ∙ ap (λ o. Went (reached None o)) e2 in
      outcome_none fit h0 p ls None array x ty c wide makes used d rest h exact spots spots_are (left None) first_code went (first_cuts ∙ ap (λ o1. is_early_cut (comes_to o1)) e1 ∙ ap (is_cut wrong) e2) (is_reached None None went)
      (λ e en. absurd (omega (arith, en, z)))

  module _ (some : 0 < n) where
    on_first : top_on 0 ≡ true
    on_first = reads.on_in fit h0 p ls None array x ty c wide h exact spots spots_are 0 some

    first_on : first_true top_on many 0 ≡ Some 0
    first_on = first_here top_on many (reads.in_count fit h0 p ls None array x ty c wide h exact spots spots_are 0 some) on_first

    -- the first lane faults
    refuses : (o : Option ℕ) → lane_fault first_form u.memory spots 0 ≡ o → is_some o ≡ true → StopsAt d (puts (Vector first_code ∷ read_faults ∷ []) rest) u Read u.memory 2 (ComesTo f.names (ops.Load array (Outer x) (Some ty) c) Read f.i)
    refuses None eq yes' = absurd cc
    refuses (Some z) eq yes' =
        let same : f.i + 0 ≡ f.i = omega arith in
        stop_at_more 2 (omega arith)
        (word_stops u.pc z (first_does ∙ ap (λ o1. after_early (comes_to o1) (z_of l p) u) first_on ∙ ap (λ o. after_early (unless_fault (read_fault o) (early_load first_form u.memory u.stops top_on (left (Some 0)) spots many u.ffr)) (z_of l p) u) eq) (reads.fault_near fit h0 p ls None array x ty c wide h exact spots spots_are 0 z same eq))

    no_fault_at : wrong 0 ≡ false → (e : ℕ) → (0 < e → gone (Some 0) e ≡ false) → (top_on e && wrong e) ≡ false
    no_fault_at eb e h' = ⊎_elim
        (λ z. ap (λ e. top_on e && wrong e) z ∙ ap (λ b. top_on 0 && b) eb ∙ and-false (top_on 0))
        (λ nz. let pos : 0 < e = omega (arith, nz) in no_fault_later (top_on e) (ltb 0 e) (wrong e) (stop_at u.stops (rank (left (Some 0)) e)) (lt-ltb 0 e pos) (h' pos))
        (cases_eq e 0)

    by_first : (o : Option ℕ) → lane_fault first_form u.memory spots 0 ≡ None → first_true (gone (Some 0)) many 0 ≡ o → First (gone (Some 0)) many 0 o → TopEnds
    by_first o good eq (missing none) =
        let went : do_vector first_code u ≡ Went (reached (Some 0) None) =
        first_does ∙ ap (λ o1. after_early (comes_to o1) (z_of l p) u) first_on
        ∙ ap (λ o. after_early (unless_fault (read_fault o) (early_load first_form u.memory u.stops top_on (left (Some 0)) spots many u.ffr)) (z_of l p) u) good
        ∙ ap (λ o. Went (reached (Some 0) o)) eq in
        let cut : cuts_in (Vector first_code) u ≡ false =
        first_cuts ∙ ap (λ o1. is_early_cut (comes_to o1)) first_on
        ∙ ap (λ o. is_early_cut (unless_fault (read_fault o) (early_load first_form u.memory u.stops top_on (left (Some 0)) spots many u.ffr))) good
        ∙ ap (is_cut wrong) eq in
        outcome_none fit h0 p ls None array x ty c wide makes used d rest h exact spots spots_are (left (Some 0)) first_code went cut (is_reached (Some 0) None went)
        (λ e en. no_fault_at (ap is_some good) e (λ pos. none e (omega arith) (omega (arith, reads.in_count fit h0 p ls None array x ty c wide h exact spots spots_are e en))))
    by_first o good eq (found v lo hi yes' none) =
        let went : do_vector first_code u ≡ Went (reached (Some 0) (Some v)) =
        first_does ∙ ap (λ o1. after_early (comes_to o1) (z_of l p) u) first_on
        ∙ ap (λ o. after_early (unless_fault (read_fault o) (early_load first_form u.memory u.stops top_on (left (Some 0)) spots many u.ffr)) (z_of l p) u) good
        ∙ ap (λ o. Went (reached (Some 0) o)) eq in
        let cut : cuts_in (Vector first_code) u ≡ not (wrong v) =
        first_cuts ∙ ap (λ o1. is_early_cut (comes_to o1)) first_on
        ∙ ap (λ o. is_early_cut (unless_fault (read_fault o) (early_load first_form u.memory u.stops top_on (left (Some 0)) spots many u.ffr))) good
        ∙ ap (is_cut wrong) eq in
        let on_v = (and_parts (top_on v) (ltb 0 v) (and_parts (top_on v && ltb 0 v) (wrong v || stop_at u.stops (rank (left (Some 0)) v)) yes').0).0 in
        outcome_some fit h0 p ls None array x ty c wide makes used d rest h exact spots spots_are (left (Some 0)) first_code v (reads.below fit h0 p ls None array x ty c wide h exact spots spots_are v (omega (arith, hi)) on_v) on_v went cut (is_reached (Some 0) (Some v) went)
        (λ reads_v. record { width = (reads.is fit h0 p ls None array x ty c wide h exact spots spots_are).element; free = cut ∙ ap not reads_v; first = ap (λ o1. first_true (gone o1) many 0) first_on ∙ eq })
        (λ e ev. no_fault_at (ap is_some good) e (λ pos. none e (omega arith) ev))

    by_fault_at : (b : Bool) → wrong 0 ≡ b → TopEnds
    by_fault_at true eb =
        let same : f.i + 0 ≡ f.i = omega arith in
        stops some (ap (λ j. reads.way fit h0 p ls None array x ty c wide j (ls j)) (sym same) ∙ reads.falls fit h0 p ls None array x ty c wide h exact spots spots_are 0 some (ap₂ (λ a b. a && b) on_first eb))
        (subst (λ mem. StopsAt d (puts (Vector first_code ∷ read_faults ∷ []) rest) u Read mem 2 (ComesTo f.names (ops.Load array (Outer x) (Some ty) c) Read f.i)) h.same.memory (refuses (lane_fault first_form u.memory spots 0) refl eb))
    by_fault_at false eb = by_first (first_true (gone (Some 0)) many 0) (is_none (lane_fault first_form u.memory spots 0) eb) refl (first_is (gone (Some 0)) many 0)

  pub top_reads : TopEnds
  top_reads = ⊎_elim (λ some. by_fault_at some (wrong 0) refl) (λ none. none_on (omega (arith, none))) (cases_lt 0 n)
