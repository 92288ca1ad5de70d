-- What a read leaves, and the read of a single lane: a plain load.
use Rattle.std.proofs.Common.{◌≡◌, ◌≢◌, ℕ, ◌+◌, ◌<◌, ◌≤◌, ℤ, pos, ◌+ℤ◌, Bool, true, false, List, [], ◌∷◌, Option, Some, None, refl, sym, ap, ◌∙◌, subst, arith, get_or-set_same}
use Rattle.std.specs.Prelude.{is_some, slice_index, if◌then◌else◌}
use Rattle.std.proofs.lemmas.Bool.{ne_eqb, and_parts}
use Rattle.guest_types.specs.Length.{width_bits, width_bytes, lanes}
use Rattle.guest_types.specs.Elements.{at, active, register, first_true, both}
use Rattle.guest_types.specs.LaneMemory.{lane_address, loaded_lane, lane_fault, lane_faults, read_fault, fault_at, or_fault}
use Rattle.kernel_tree.specs.declared.ops.Ty.{Ty}
use Rattle.kernel_tree.specs.Wrap.{residue, bits_of}
use Rattle.kernel_meaning.specs.Operators.{word}
use Rattle.machine_model.specs.declared.outcome.StopKind.TheVariants.{Read}
use Rattle.machine_model.specs.InstructionTable.{Vector}
use Rattle.machine_model.specs.Machine.{State, Step, x_at, x_or_sp, z_at, with_z, p_at, next}
use Rattle.machine_model.specs.States.{IsState}
use Rattle.machine_model.specs.VectorEffects.{do_vector, after_load}
use Rattle.machine_model.proofs.StateSteps.{load_put}
use Rattle.label_fix.specs.DraftRun.{DraftEntry, Laid}
use Rattle.loop_form.specs.declared.loop_item.Operand.TheVariants.{Outer}
use Rattle.loop_form.specs.LoopItems as ops
use Rattle.vector_order.specs.Orders.{Lane, Lanes}
use Rattle.vector_order.proofs.LaneValues.{value_same, value_other}
use Rattle.vector_order.specs.Operands.{nth_value}
use Rattle.lane_emit.specs.Right.{IsOf, PRight, within}
use Rattle.lane_emit.specs.ItemCode.{mask_of, mask_register}
use Rattle.lane_emit.proofs.Residues.{held}
use Rattle.chunk_emit.specs.Registers.{Layout, z_of, p_of, IsValueUsed}
use Rattle.chunk_emit.specs.ChunkCode.{load_word, puts}
use Rattle.chunk_emit.specs.Chunk.{Setting, count_of, Holds}
use Rattle.chunk_emit.specs.Fits.{Assigned, MakesValue}
use Rattle.chunk_emit.specs.StopPlaces.{ComesTo, StopsAt}
use Rattle.chunk_emit.proofs.StopsAt.{stop_at}
use Rattle.chunk_emit.proofs.Indexes.{lane_place}
use Rattle.chunk_emit.proofs.Loads.{only_wrote}
use Rattle.first_fault.specs.RegionCode.{Mode, Early, Single}
use Rattle.first_fault.specs.Prefix.{IsTop, Same, Inside}
use Rattle.first_fault.specs.RegionRuns.{RegionOutcome, stops, comes}
use Rattle.first_fault.proofs.PrefixBits.{First, missing, found, first_is}
use Rattle.first_fault.proofs.Stretches.{word_leads}
use Rattle.first_fault.proofs.PrefixSteps.{prefix, inside_on}
use Rattle.first_fault.proofs.PureSteps.{same_z}
use Rattle.first_fault.proofs.ReadLanes as reads
use Rattle.first_fault.proofs.ReadLanes.{x_is}

module _ {l : Layout} (fit : Assigned l) {f : Setting} {a : State} {p0 : ℕ} {t0 : Lanes} (h0 : Holds l f p0 t0 a) (p : ℕ) (ls : ℕ → Lane) (mask : Option ℕ) (array : List ℕ) (x : ℕ) (ty : Ty) (c : ℤ) (wide : bits_of ty ≤ width_bits f.w) (makes : MakesValue l p ty) (used : IsValueUsed l p) where
  abbrev new : ℕ → Lane
  new = reads.new fit h0 p ls mask array x ty c wide

  abbrev way : ℕ → Lane → Rattle.first_fault.specs.Region.Way
  way = reads.way fit h0 p ls mask array x ty c wide

  abbrev value : ℕ → ℤ
  value j = reads.val fit h0 p ls mask array x ty c wide j (ls j)

  -- the value of the read in its register
  pub read_inside : {mode : Mode} {n k : ℕ} {u v : State} → Inside mode l f a n p ls u → k ≤ n → IsState v → Same l u v → IsTop f.w k (p_at v 0) → (mode ≡ Early → (e : ℕ) → e < k → active f.w v.ffr e ≡ true) → ((r : ℕ) → r ≢ z_of l p → z_at v r ≡ z_at u r) → ((r : ℕ) → r ≢ 0 → p_at v r ≡ p_at u r)
      → ((e : ℕ) → e < k → at f.w (z_at v (z_of l p)) e ≡ held f.w (value (f.i + e))) → Inside mode l f a k (p + 1) new v
  read_inside h le is same top ffr others predicates right = inside_on fit h0 h le (record {
    is = is;
    same = same;
    top = top;
    ffr = ffr;
    kept_z = λ q lt last_use. others (z_of l q) (λ eq. fit.z_apart p q lt last_use used (sym eq));
    kept_p = λ q lt last_use e en. ap (λ b. active f.w b e) (predicates (p_of l q) (λ eq. absurd (omega (arith, eq, fit.p_low q (omega (arith, lt, last_use))))));
    values = λ q e lt en. value_other (ls (f.i + e)) p q (value (f.i + e)) (λ eq. absurd (omega (arith, lt, eq)));
    truths = λ q e lt en. refl;
    value = λ lt. record {
      right = λ e en. right e en ∙ ap (residue (width_bits f.w)) (sym (value_same (ls (f.i + e)) p (value (f.i + e))));
      typed = λ e en. subst (λ t. IsOf t ((new (f.i + e)).value p)) (sym makes.1) (subst (IsOf ty) (sym (value_same (ls (f.i + e)) p (value (f.i + e)))) (reads.typed fit h0 p ls mask array x ty c wide (f.i + e)));
    };
    truth = λ lt. absurd (omega (arith, lt, makes.0));
  })

  module _ {mode : Mode} {n : ℕ} {u : State} (h : Inside mode l f a n p ls u) (low : x < 8) (based : slice_index f.x x ≡ word (nth_value f.names x)) (r : ℕ) (at_index : x_at u r ≡ word (pos f.i +ℤ c)) where
    pub single_read_base : x_or_sp u x ≡ word (nth_value f.names x)
    single_read_base = ap (λ b. if b then u.sp else x_at u x) (ne_eqb x 31 (λ e. absurd (omega (arith, low, e)))) ∙ x_is fit h0 h x (λ e. absurd (omega (arith, low, e))) ∙ based

    abbrev pub spot : ℕ → ℕ
    spot = lane_address (x_or_sp u x) (x_at u r) (width_bytes (reads.form fit h0 p ls mask array x ty c wide).memory)

    pub spot_is : (e : ℕ) → spot e ≡ reads.place fit h0 p ls mask array x ty c wide (f.i + e)
    spot_is e =
        ap (λ k. lane_address (x_or_sp u x) (x_at u r) k e) (Rattle.chunk_emit.proofs.LoadForms.is_form ty f.w wide).memory
        ∙ lane_place ty (nth_value f.names x) c f.i e (x_or_sp u x) (x_at u r) single_read_base at_index

  -- a load that refuses
  pub single_read_stops : {d : Laid} {rest : List DraftEntry} {i : Rattle.machine_model.specs.InstructionTable.Listed} {u : State} {near : ℕ → Type 0} (o : Option ℕ) → is_some o ≡ true → (other : Rattle.guest_types.specs.LaneMemory.Loaded) → Rattle.label_fix.specs.DraftRun.effect i u ≡ after_load (or_fault (read_fault o) other) (z_of l p) u → ((z : ℕ) → o ≡ Some z → near z) → StopsAt d (Rattle.label_fix.specs.DraftRun.Put i ∷ rest) u Read u.memory 1 near
  single_read_stops None some other e here = absurd cc
  single_read_stops {u = u} (Some z) some other e here = stop_at u.pc z e (here z refl)

  module _ (d : Laid) (rest : List DraftEntry) {n : ℕ} {u : State} (h : Inside Single l f a n p ls u) (exact : PRight f.w (count_of f) (p_at u (mask_register l.registers mask)) (within n (mask_of (prefix f a n ls) mask))) (low : x < 8) (based : slice_index f.x x ≡ word (nth_value f.names x)) (r : ℕ) (at_index : x_at u r ≡ word (pos f.i +ℤ c)) where
    abbrev m : ℕ
    m = mask_register l.registers mask

    abbrev form : Rattle.guest_types.specs.LaneMemory.LoadForm
    form = reads.form fit h0 p ls mask array x ty c wide

    abbrev place : ℕ → ℕ
    place = spot h low based r at_index

    abbrev on : ℕ → Bool
    on = active form.element (p_at u m)

    abbrev count : ℕ
    count = lanes u.vl form.element

    abbrev test : ℕ → Bool
    test = both on (lane_faults form u.memory place)

    abbrev made : List ℕ
    made = register (width_bytes form.element) (loaded_lane form u.memory on place) count

    abbrev load_ends : Option ℕ → Step
    load_ends o = after_load (or_fault (fault_at form u.memory place o) (record { z = made; ffr = u.ffr })) (z_of l p) u

    single_load_does : do_vector (load_word f.w ty (z_of l p) m x r) u ≡ load_ends (first_true test count 0)
    single_load_does = refl

    abbrev Result : Type 0
    Result = RegionOutcome Single l f d a n (p + 1) 1 ls (puts (Vector (load_word f.w ty (z_of l p) m x r) ∷ []) rest) u rest way (ComesTo f.names (ops.Load array (Outer x) (Some ty) c) Read f.i)

    by : (o : Option ℕ) → first_true test count 0 ≡ o → First test count 0 o → Result
    by o eq (missing none) =
        let end = next (with_z u (z_of l p) made) in
        let is : IsState end = load_put u end (z_of l p) None form.element (loaded_lane form u.memory on place) u.ffr h.is refl in
        let written : z_at end (z_of l p) ≡ made = get_or-set_same u.z (z_of l p) made [] (omega (arith, h.is.z_count, fit.z_small p)) in
        let only = only_wrote (z_of l p) u made in
        comes n new end (omega arith)
        (λ e en. reads.read_passes_lane fit h0 p ls mask array x ty c wide h exact place (spot_is h low based r at_index) e en (none e (omega arith) (omega (arith, reads.in_count fit h0 p ls mask array x ty c wide h exact place (spot_is h low based r at_index) e en))))
        (word_leads false (single_load_does ∙ ap load_ends eq) refl) (λ lt. absurd (omega (arith, lt)))
        (read_inside h (omega arith) is (same_z fit used only) h.top (λ early. absurd cc) only.z (λ r ne. refl)
        (λ e en. ap (λ z. at f.w z e) written ∙ reads.loaded_is fit h0 p ls mask array x ty c wide h exact place (spot_is h low based r at_index) e en))
    by o eq (found v lo hi yes' none) =
        let parts = and_parts (on v) (is_some (lane_fault form u.memory place v)) yes' in
        let vn : v < n = reads.below fit h0 p ls mask array x ty c wide h exact place (spot_is h low based r at_index) v (omega (arith, hi)) parts.0 in
        let same : f.i + v ≡ f.i = omega (arith, vn, h.alone refl) in
        stops (omega (arith, vn)) (ap (λ j. way j (ls j)) (sym same) ∙ reads.falls fit h0 p ls mask array x ty c wide h exact place (spot_is h low based r at_index) v vn yes')
        (subst (λ mem. StopsAt d (puts (Vector (load_word f.w ty (z_of l p) m x r) ∷ []) rest) u Read mem 1 (ComesTo f.names (ops.Load array (Outer x) (Some ty) c) Read f.i)) h.same.memory (single_read_stops (lane_fault form u.memory place v) parts.1 (record { z = made; ffr = u.ffr }) (single_load_does ∙ ap load_ends eq) (λ z told. reads.fault_near fit h0 p ls mask array x ty c wide h exact place (spot_is h low based r at_index) v z same told)))

    pub single_reads : Result
    single_reads = by (first_true test count 0) refl (first_is test count 0)
