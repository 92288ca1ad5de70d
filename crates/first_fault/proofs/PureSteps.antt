-- The steps of the region that are neither reads nor breaks.
use Rattle.std.proofs.Common.{◌≡◌, ◌≢◌, ℕ, ◌+◌, ◌*◌, ◌<◌, ℤ, Bool, true, false, ◌&&◌, ltb, List, [], length, Option, Some, None, refl, sym, ap, ◌∙◌, subst, arith, ⊎_elim, get_or-set_same, get_or-set_other}
use Rattle.std.specs.Prelude.{nat_lt, slice_index, slice_index_or, if◌then◌else◌}
use Rattle.std.proofs.lemmas.Bool.{cases_lt, lt-ltb, le-ltb, ltb-true, ltb-false}
use Rattle.std.proofs.lemmas.Bool.Decides.{eqb_tells}
use mathlib.Core.Bool.{and-true}
use Rattle.guest_types.specs.declared.length.Width.TheVariants.{B}
use Rattle.guest_types.specs.declared.operation.PredOp.TheVariants as pred_ops
use Rattle.guest_types.specs.Length.{width_bits, width_bytes, lanes}
use Rattle.guest_types.specs.Memory.{Memory}
use Rattle.guest_types.specs.Elements.{active, bit, predicate}
use Rattle.guest_types.specs.Lanes.{logic_at}
use Rattle.guest_types.proofs.Predicates.{and_twice}
use Rattle.kernel_tree.specs.declared.ops.Ty.{Ty}
use Rattle.kernel_tree.specs.Wrap.{residue}
use Rattle.machine_model.specs.declared.outcome.StopKind.TheVariants.{Read}
use Rattle.machine_model.specs.InstructionTable.{Listed}
use Rattle.machine_model.specs.Machine.{State, p_at, with_p, next}
use Rattle.machine_model.proofs.StateSteps.{truths_put}
use Rattle.label_fix.specs.DraftRun.{DraftEntry, Laid}
use Rattle.vector_order.specs.Orders.{Lane, Lanes, Keeps}
use Rattle.loop_form.specs.declared.loop_item.Operand.TheVariants.{Made}
use Rattle.loop_form.specs.LoopItems.{Op, item}
use Rattle.vector_order.specs.Operands.{with_value, on_mask}
use Rattle.vector_order.specs.Items.{with_truth, op_effect}
use Rattle.lane_emit.specs.Right.{IsOf, PRight, within}
use Rattle.lane_emit.specs.Stretch.{OnlyZ, OnlyP}
use Rattle.lane_emit.specs.ItemCode.{AllOf, operand, mask_of, mask_register, makes_truth, OperandsRight, value_after, truth_after, new_value, new_truth, made_type, AllTyped, Makes, op_code}
use Rattle.lane_emit.proofs.ItemRuns.{lanes_right_law}
use Rattle.chunk_emit.specs.Registers.{Layout, z_of, p_of, IsValueUsed, IsTruthUsed}
use Rattle.chunk_emit.specs.ChunkCode.{vectors, puts}
use Rattle.chunk_emit.specs.Chunk.{Setting, count_of, Holds}
use Rattle.chunk_emit.specs.Fits.{Assigned, FitsMask, MakesValue, MakesTruth}
use Rattle.chunk_emit.specs.StopPlaces.{ComesTo}
use Rattle.vector_order.proofs.LaneValues.{value_same, value_other}
use Rattle.vector_order.proofs.Terms.{truth_same, truth_other}
use Rattle.first_fault.specs.Region.{Way, halted, way_of, item_way}
use Rattle.first_fault.specs.RegionCode.{Mode, narrow_words, step_words}
use Rattle.label_fix.specs.Stretches.{Leads}
use Rattle.first_fault.specs.Prefix.{Same, Inside}
use Rattle.first_fault.specs.RegionRuns.{RegionOutcome, comes}
use Rattle.first_fault.proofs.Stretches.{rest_at, word_leads, follow, words_lead}
use Rattle.first_fault.proofs.PlainCode.{op_plain}
use Rattle.first_fault.proofs.PrefixSteps.{same_then, prefix, in_bytes, byte_made, length_is, few_all, top_is, inside_on, ready}

-- only a vector register changes
pub same_z : {l : Layout} (fit : Assigned l) {p : ℕ} {s v : State} → IsValueUsed l p → OnlyZ (z_of l p) s v → Same l s v
same_z {l = l} fit {p = p} used only = record {
  memory = only.memory;
  vl = only.vl;
  x = λ r ne. ap (λ xs. slice_index xs r) only.x;
  all = ap (λ ps. slice_index_or ps 1 []) only.p;
  held = λ x held. only.z (l.registers.source x) (λ eq. fit.held_apart x p held used (sym eq));
  sums = λ x is. only.z (l.sum x) (λ eq. fit.sum_apart x p is used (sym eq));
}

-- only a predicate register changes, and not P1
pub same_p : {l : Layout} {r : ℕ} {s v : State} → 1 ≢ r → OnlyP r s v → Same l s v
same_p {l = l} ne only = record {
  memory = only.memory;
  vl = only.vl;
  x = λ r ne. ap (λ xs. slice_index xs r) only.x;
  all = only.p 1 ne;
  held = λ x held. ap (λ zs. slice_index_or zs (l.registers.source x) []) only.z;
  sums = λ x is. ap (λ zs. slice_index_or zs (l.sum x) []) only.z;
}

pub only_put : (r : ℕ) (s : State) (bytes : List ℕ) → OnlyP r s (next (with_p s r bytes))
only_put r s bytes = record { memory = refl; x = refl; sp = refl; z = refl; p = λ n ne. get_or-set_other s.p r n bytes [] ne; ffr = refl; vl = refl; stops = refl }

module _ {l : Layout} (fit : Assigned l) {f : Setting} {a : State} {p0 : ℕ} {t0 : Lanes} (h0 : Holds l f p0 t0 a) (d : Laid) where
  -- a mask that has lost the lanes that P0 has lost
  pub record Narrowed (mode : Mode) (n p : ℕ) (ls : ℕ → Lane) (mask : Option ℕ) (s : State) (inner : List Listed) (rest : List DraftEntry) : Type 0 where
    pub end : State
    pub inside : Inside mode l f a n p ls end
    pub exact : PRight f.w (count_of f) (p_at end (mask_register l.registers mask)) (within n (mask_of (prefix f a n ls) mask))
    pub words : ℕ
    pub counted : length (narrow_words l mask inner) ≡ words + length inner
    pub leads : Leads d (puts (narrow_words l mask inner) rest) s (puts inner rest) end words

  pub narrowed : {mode : Mode} {n p : ℕ} {ls : ℕ → Lane} {s : State} (mask : Option ℕ) (inner : List Listed) (rest : List DraftEntry) → FitsMask l p mask → Inside mode l f a n p ls s → Narrowed mode n p ls mask s inner rest
  narrowed {n = n} {s = s} None inner rest k h = record {
    end = s;
    inside = h;
    exact = λ e lt. top_is fit h0 h e lt ∙ sym (and-true (ltb e n));
    words = 0;
    counted = omega arith;
    leads = rest_at 0;
  }
  narrowed {mode = mode} {n = n} {p = p} {ls = ls} {s = s} (Some q) inner rest k h =
      let r = p_of l q in
      let bits = logic_at pred_ops.And (p_at s 0) (p_at s r) (p_at s r) in
      let new = predicate 1 bits (lanes s.vl B) in
      let end = next (with_p s r new) in
      let live : q < l.p_last_use q = omega (arith, k.0, k.1) in
      let two = fit.p_low q live in
      let is_new : p_at end r ≡ new = get_or-set_same s.p r new [] (omega (arith, fit.p_small q, h.is.p_count)) in
      let bit_is : (e : ℕ) → e < count_of f → active f.w (p_at end r) e ≡ (ltb e n && active f.w (p_at s r) e) =
      λ e lt. ap (λ b. active f.w b e) is_new ∙ ap (λ v. active f.w (predicate 1 bits (lanes v B)) e) (length_is fit h0 h) ∙ byte_made fit h0 bits (width_bytes f.w * e) (in_bytes fit h0 e lt)
      ∙ and_twice (active f.w (p_at s 0) e) (active f.w (p_at s r) e) ∙ ap (λ b. b && active f.w (p_at s r) e) (top_is fit h0 h e lt) in
      let in_mask : (e : ℕ) → e < n → active f.w (p_at end r) e ≡ (ls (f.i + e)).truth q =
      λ e en. bit_is e (omega (arith, en, few_all fit h0 h)) ∙ ap (λ b. b && active f.w (p_at s r) e) (lt-ltb e n en) ∙ h.truths q k.0 k.1 e en in
      let one : 1 ≢ r = λ eq. absurd (omega (arith, two, eq)) in
      let none : 0 ≢ r = λ eq. absurd (omega (arith, two, eq)) in
      record {
        end = end;
        inside = record {
          is = truths_put s end r B bits h.is refl;
          few = h.few;
          alone = h.alone;
          same = same_then h.same (same_p one (only_put r s new));
          top = λ j lt. ap (λ b. bit b j) (get_or-set_other s.p r 0 new [] none) ∙ h.top j lt;
          ffr = h.ffr;
          values = λ q' lt le. let old = h.values q' lt le in record { right = old.right; typed = old.typed };
          truths = λ q' lt le e en. ⊎_elim
              (λ eq. subst (λ q'. active f.w (p_at end (p_of l q')) e ≡ (ls (f.i + e)).truth q') (sym eq.1) (in_mask e en))
              (λ ne. ap (λ b. active f.w b e) (get_or-set_other s.p r (p_of l q') new [] (λ eq.
              ⊎_elim (λ less. fit.p_apart q q' less (omega (arith, k.0, le)) live (sym eq)) (λ more. fit.p_apart q' q (omega (arith, ne.1, more)) (omega (arith, lt, k.1)) (omega (arith, lt, le)) eq) (cases_lt q' q)))
              ∙ h.truths q' lt le e en)
              (eqb_tells q' q);
        };
        exact = λ e lt.
            ⊎_elim
            (λ en. in_mask e en ∙ sym (ap (λ b. b && (ls (f.i + e)).truth q) (lt-ltb e n en)))
            (λ ge. bit_is e lt ∙ ap (λ b. b && active f.w (p_at s r) e) (le-ltb e n ge) ∙ sym (ap (λ b. b && (ls (f.i + e)).truth q) (le-ltb e n ge)))
            (cases_lt e n);
        words = 1;
        counted = omega arith;
        leads = word_leads false refl refl;
      }

-- ---- an item that makes a value, or a condition

module _ {l : Layout} (fit : Assigned l) {f : Setting} {a : State} {p0 : ℕ} {t0 : Lanes} (h0 : Holds l f p0 t0 a) (d : Laid) (rest : List DraftEntry) {mode : Mode} {n p : ℕ} {ls : ℕ → Lane} {s : State} (h : Inside mode l f a n p ls s) (mask : Option ℕ) (fm : FitsMask l p mask) where
  abbrev m : ℕ
  m = mask_register l.registers mask

  -- what an operation does in a lane
  abbrev pub way_at : Op → ℕ → Lane → Way
  way_at op j b = item_way f.names (item p mask op) j a.memory b

  abbrev pub StepOutcome : Op → Type 0
  StepOutcome op = RegionOutcome mode l f d a n (p + 1) (length (step_words mode f.w l p mask op)) ls (puts (step_words mode f.w l p mask op) rest) s rest (way_at op) (ComesTo f.names op Read f.i)

  -- all lanes come through
  pub all_come : {code : List DraftEntry} {most : ℕ} (new : ℕ → Lane → Lane) (v : State) (op : Op) → ((j : ℕ) (mem : Memory) (b : Lane) → op_effect op f.names p j (on_mask mask b) mem b ≡ Keeps (new j b)) → Leads d code s rest v most → Inside mode l f a n (p + 1) (λ j. new j (ls j)) v → RegionOutcome mode l f d a n (p + 1) most ls code s rest (way_at op) (ComesTo f.names op Read f.i)
  all_come new v op does leads ends = comes n (λ j. new j (ls j)) v (omega arith) (λ e en. ap (way_of (halted op)) (does (f.i + e) a.memory (ls (f.i + e)))) leads (λ lt. absurd (omega (arith, lt))) ends

  pub value_steps : (op : Op) (val : ℕ → Lane → ℤ) (ty : Ty) → makes_truth op ≡ false → made_type op ≡ Some ty → MakesValue l p ty → ((u : State) → Inside mode l f a n p ls u → OperandsRight (prefix f a n ls) l.registers u op)
      → ((j : ℕ) (mem : Memory) (b : Lane) → op_effect op f.names p j (on_mask mask b) mem b ≡ Keeps (with_value b p (val j b)))
      → step_words mode f.w l p mask op ≡ (if nat_lt p (l.z_last_use p) then narrow_words l mask (vectors (op_code f.w l.registers p m op)) else []) → StepOutcome op
  value_steps op val ty kind made_is makes operands does words =
      subst (λ ws. RegionOutcome mode l f d a n (p + 1) (length ws) ls (puts ws rest) s rest (way_at op) (ComesTo f.names op Read f.i)) (sym words) (by (nat_lt p (l.z_last_use p)) refl)
    where
      value_is : (e : ℕ) → new_value (prefix f a n ls) op p mask e ≡ val (f.i + e) (ls (f.i + e))
      value_is e = ap (value_after p) (does (f.i + e) a.memory (ls (f.i + e))) ∙ value_same (ls (f.i + e)) p (val (f.i + e) (ls (f.i + e)))

      by : (b : Bool) → nat_lt p (l.z_last_use p) ≡ b → RegionOutcome mode l f d a n (p + 1) (length (if b then narrow_words l mask (vectors (op_code f.w l.registers p m op)) else [])) ls (puts (if b then narrow_words l mask (vectors (op_code f.w l.registers p m op)) else []) rest) s rest (way_at op) (ComesTo f.names op Read f.i)
      by true is_used =
          let code = op_code f.w l.registers p m op in
          let used : IsValueUsed l p = ltb-true p (l.z_last_use p) is_used in
          let nar = narrowed fit h0 d mask (vectors code) rest fm h in
          let u = nar.end in
          let run = lanes_right_law (prefix f a n ls) l.registers u p m mask op (ready fit h0 nar.inside) (fit.z_small p) (fit.p_small p)
          (subst (λ v. PRight f.w (lanes v f.w) (p_at u m) (within n (mask_of (prefix f a n ls) mask))) (sym (length_is fit h0 nar.inside)) nar.exact) (operands u nar.inside) in
          let made = subst (λ b. Makes b (prefix f a n ls) l.registers u p m mask op) kind run.makes in
          let typed : AllOf ty n (new_value (prefix f a n ls) op p mask) = subst (λ o. AllTyped o n (new_value (prefix f a n ls) op p mask)) made_is run.typed in
          let only = made.only in
          all_come (λ j b. with_value b p (val j b)) made.end op does
          (follow (length (narrow_words l mask (vectors code))) (omega (arith, nar.counted)) nar.leads (words_lead code u made.end (op_plain f.w l.registers p m op) made.runs))
          (inside_on fit h0 nar.inside (omega arith) (record {
            is = made.is;
            same = same_z fit used only;
            top = λ j lt. ap (λ ps. bit (slice_index_or ps 0 []) j) only.p ∙ nar.inside.top j lt;
            ffr = λ early e lt. ap (λ b. active f.w b e) only.ffr ∙ nar.inside.ffr early e lt;
            kept_z = λ q lt le. only.z (z_of l q) (λ eq. fit.z_apart p q lt le used (sym eq));
            kept_p = λ q lt le e en. ap (λ ps. active f.w (slice_index_or ps (p_of l q) []) e) only.p;
            values = λ q e lt en. value_other (ls (f.i + e)) p q (val (f.i + e) (ls (f.i + e))) (λ eq. absurd (omega (arith, lt, eq)));
            truths = λ q e lt en. refl;
            value = λ lt. record {
              right = λ e en. made.right e en ∙ ap (residue (width_bits f.w)) (value_is e ∙ sym (value_same (ls (f.i + e)) p (val (f.i + e) (ls (f.i + e)))));
              typed = λ e en. subst (λ t. IsOf t (operand (prefix f a n (λ j. with_value (ls j) p (val j (ls j)))) (Made p) e)) (sym makes.1) (subst (IsOf ty) (value_is e ∙ sym (value_same (ls (f.i + e)) p (val (f.i + e) (ls (f.i + e))))) (typed e en));
            };
            truth = λ lt. absurd (omega (arith, lt, makes.0));
          }))
      by false unused =
          let none = ltb-false p (l.z_last_use p) unused in
          all_come (λ j b. with_value b p (val j b)) s op does (rest_at 0)
          (inside_on fit h0 h (omega arith) (record {
            is = h.is;
            same = record { memory = refl; vl = refl; x = λ r ne. refl; all = refl; held = λ x is. refl; sums = λ x is. refl };
            top = h.top;
            ffr = h.ffr;
            kept_z = λ q lt le. refl;
            kept_p = λ q lt le e en. refl;
            values = λ q e lt en. value_other (ls (f.i + e)) p q (val (f.i + e) (ls (f.i + e))) (λ eq. absurd (omega (arith, lt, eq)));
            truths = λ q e lt en. refl;
            value = λ lt. absurd (omega (arith, lt, none));
            truth = λ lt. absurd (omega (arith, lt, makes.0));
          }))

  pub truth_steps : (op : Op) (val : ℕ → Lane → Bool) → makes_truth op ≡ true → MakesTruth l p → ((u : State) → Inside mode l f a n p ls u → OperandsRight (prefix f a n ls) l.registers u op)
      → ((j : ℕ) (mem : Memory) (b : Lane) → op_effect op f.names p j (on_mask mask b) mem b ≡ Keeps (with_truth b p (val j b)))
      → step_words mode f.w l p mask op ≡ (if nat_lt p (l.p_last_use p) then narrow_words l mask (vectors (op_code f.w l.registers p m op)) else []) → StepOutcome op
  truth_steps op val kind makes operands does words =
      subst (λ ws. RegionOutcome mode l f d a n (p + 1) (length ws) ls (puts ws rest) s rest (way_at op) (ComesTo f.names op Read f.i)) (sym words) (by (nat_lt p (l.p_last_use p)) refl)
    where
      truth_is : (e : ℕ) → new_truth (prefix f a n ls) op p mask e ≡ val (f.i + e) (ls (f.i + e))
      truth_is e = ap (truth_after p) (does (f.i + e) a.memory (ls (f.i + e))) ∙ truth_same (ls (f.i + e)) p (val (f.i + e) (ls (f.i + e)))

      by : (b : Bool) → nat_lt p (l.p_last_use p) ≡ b → RegionOutcome mode l f d a n (p + 1) (length (if b then narrow_words l mask (vectors (op_code f.w l.registers p m op)) else [])) ls (puts (if b then narrow_words l mask (vectors (op_code f.w l.registers p m op)) else []) rest) s rest (way_at op) (ComesTo f.names op Read f.i)
      by true is_used =
          let code = op_code f.w l.registers p m op in
          let used : IsTruthUsed l p = ltb-true p (l.p_last_use p) is_used in
          let two = fit.p_low p used in
          let nar = narrowed fit h0 d mask (vectors code) rest fm h in
          let u = nar.end in
          let run = lanes_right_law (prefix f a n ls) l.registers u p m mask op (ready fit h0 nar.inside) (fit.z_small p) (fit.p_small p)
          (subst (λ v. PRight f.w (lanes v f.w) (p_at u m) (within n (mask_of (prefix f a n ls) mask))) (sym (length_is fit h0 nar.inside)) nar.exact) (operands u nar.inside) in
          let made = subst (λ b. Makes b (prefix f a n ls) l.registers u p m mask op) kind run.makes in
          let only = made.only in
          all_come (λ j b. with_truth b p (val j b)) made.end op does
          (follow (length (narrow_words l mask (vectors code))) (omega (arith, nar.counted)) nar.leads (words_lead code u made.end (op_plain f.w l.registers p m op) made.runs))
          (inside_on fit h0 nar.inside (omega arith) (record {
            is = made.is;
            same = same_p (λ eq. absurd (omega (arith, two, eq))) only;
            top = λ j lt. ap (λ b. bit b j) (only.p 0 (λ eq. absurd (omega (arith, two, eq)))) ∙ nar.inside.top j lt;
            ffr = λ early e lt. ap (λ b. active f.w b e) only.ffr ∙ nar.inside.ffr early e lt;
            kept_z = λ q lt le. ap (λ zs. slice_index_or zs (z_of l q) []) only.z;
            kept_p = λ q lt le e en. ap (λ b. active f.w b e) (only.p (p_of l q) (λ eq. fit.p_apart p q lt le used (sym eq)));
            values = λ q e lt en. refl;
            truths = λ q e lt en. truth_other (ls (f.i + e)) p q (val (f.i + e) (ls (f.i + e))) (λ eq. absurd (omega (arith, lt, eq)));
            value = λ lt. absurd (omega (arith, lt, makes));
            truth = λ lt e en.
                made.right e (subst (λ v. e < lanes v f.w) (sym (length_is fit h0 nar.inside)) (omega (arith, en, few_all fit h0 h)))
                ∙ ap (λ b. b && new_truth (prefix f a n ls) op p mask e) (lt-ltb e n en) ∙ truth_is e ∙ sym (truth_same (ls (f.i + e)) p (val (f.i + e) (ls (f.i + e))));
          }))
      by false unused =
          let none = ltb-false p (l.p_last_use p) unused in
          all_come (λ j b. with_truth b p (val j b)) s op does (rest_at 0)
          (inside_on fit h0 h (omega arith) (record {
            is = h.is;
            same = record { memory = refl; vl = refl; x = λ r ne. refl; all = refl; held = λ x is. refl; sums = λ x is. refl };
            top = h.top;
            ffr = h.ffr;
            kept_z = λ q lt le. refl;
            kept_p = λ q lt le e en. refl;
            values = λ q e lt en. refl;
            truths = λ q e lt en. truth_other (ls (f.i + e)) p q (val (f.i + e) (ls (f.i + e))) (λ eq. absurd (omega (arith, lt, eq)));
            value = λ lt. absurd (omega (arith, lt, makes));
            truth = λ lt. absurd (omega (arith, lt, none));
          }))
