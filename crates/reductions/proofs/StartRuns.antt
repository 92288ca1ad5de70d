-- The code before the loop leads to the state before the first pass.
use Rattle.std.proofs.Common.{◌≡◌, ◌≢◌, ℕ, zero, suc, ◌+◌, ◌*◌, ◌<◌, ◌≤◌, ℤ, pos, true, List, [], ◌∷◌, length, Option, Some, None, refl, sym, ap, ◌∙◌, subst, arith, ⊎_elim, get_or-set_same}
use Rattle.std.specs.Prelude.{is_some, option_map, slice_index, slice_get, unwrap_or}
use Rattle.std.proofs.lemmas.Bool.Decides.{eqb_tells}
use Rattle.std.proofs.lemmas.Option.{slice_get_within}
use Rattle.guest_types.specs.declared.length.Width.{Width}
use Rattle.guest_types.specs.declared.length.Width.TheVariants.{B}
use Rattle.guest_types.specs.Length.{IsLength, width_bytes, lanes}
use Rattle.guest_types.specs.Elements.{active, predicate}
use Rattle.guest_types.specs.Lanes.{all_at}
use Rattle.guest_types.specs.Memory.{Memory}
use Rattle.guest_types.proofs.AtWidths.{bit-predicate}
use Rattle.guest_types.proofs.Predicates.{element_bit-bytes}
use Rattle.machine_model.specs.Machine.{State, z_at, p_at, with_p, next}
use Rattle.machine_model.proofs.StateSteps.{truths_put}
use Rattle.kernel_tree.specs.declared.ops.Ty.{Ty}
use Rattle.kernel_tree.specs.declared.ops.Ty.TheVariants.{U64}
use Rattle.kernel_tree.specs.declared.ops.UpdateOp.{UpdateOp}
use Rattle.kernel_tree.specs.Plain.{Parameter}
use Rattle.kernel_tree.specs.Items.{size_of}
use Rattle.kernel_meaning.specs.Operators.{wrapped}
use Rattle.kernel_meaning.specs.Eval.{Names, value_at}
use Rattle.label_fix.specs.DraftRun.{DraftEntry, Laid}
use Rattle.label_fix.proofs.StretchSteps.{Goes, stay, put_goes, chain}
use Rattle.reg_assign.specs.declared.interval.RegClass.TheVariants.{Z}
use Rattle.loop_form.specs.declared.loop_item.Operand.{Operand}
use Rattle.loop_form.specs.declared.loop_item.Operand.TheVariants.{Constant, Outer, LoopIndex, Made}
use Rattle.loop_form.specs.Needs.{Throughout, scalar_of, throughout}
use Rattle.loop_form.specs.Streams.{place_of}
use Rattle.loop_form.proofs.IntervalRegisters.{Chosen, chosen_of}
use Rattle.loop_form.proofs.PlaceLaws.{throughout-place}
use Rattle.vector_order.specs.Operands.{nth_value}
use Rattle.vector_order.specs.Order.{Steady}
use Rattle.lane_emit.specs.Right.{IsOf, ZRight, PRight}
use Rattle.lane_emit.proofs.Ranges.{is_of, wrap-is_of}
use Rattle.lane_emit.specs.Joins.{joined, identity}
use Rattle.lane_emit.specs.Folds.{together}
use Rattle.lane_emit.specs.AccumulatorLanes.{LanesHold}
use Rattle.lane_emit.proofs.JoinLaws.{joins}
use Rattle.chunk_emit.specs.Head.{Ground, IsGround, layout, width, most_lanes, HeldAll, SumSoFar, AtHead}
use Rattle.chunk_emit.specs.KernelLayout.{register_of, place_in, place_of_one, held_place, sum_place, scalar_type}
use Rattle.chunk_emit.proofs.FitsTyped.{parameter_typed}
use Rattle.reductions.specs.EdgeCode.{holds_code}
use Rattle.reductions.specs.Edges.{nothing_taken, StartRuns}
use Rattle.close_bound.specs.CloseBound.{laid_all}
use Rattle.reductions.proofs.StartCounts.{few_held}
use Rattle.reductions.proofs.StartHeld.{comes, value_stands, param_place, sum_typed}
use Rattle.reductions.proofs.StartSteps.{Stays, RightIn, Lays, hold}
use Rattle.kernel_tree.specs.declared.ast.Shape.TheVariants as shape
use Rattle.loop_form.specs.Needs as needs
use Rattle.chunk_emit.proofs.FitsAssigned.{there}

-- ---- a predicate that is all true

low_bit : (vl : ℕ) (w : Width) (e : ℕ) → IsLength vl → e < lanes vl w → width_bytes w * e < lanes vl B
low_bit vl B e h lt = omega (arith, h, lt)
low_bit vl other e h lt = omega (arith, h, lt)

few_bits : (vl : ℕ) → IsLength vl → lanes vl B ≤ 256
few_bits vl h = omega (arith, h)

all_true : (vl : ℕ) (w : Width) → IsLength vl → PRight w (lanes vl w) (predicate 1 all_at (lanes vl B)) all_at
all_true vl w h e lt =
    let low = low_bit vl w e h lt in
    let most = few_bits vl h in
    bit-predicate 1 all_at (lanes vl B) (width_bytes w * e) (omega (arith, low, most)) ∙ element_bit-bytes all_at (lanes vl B) (width_bytes w * e) low

-- ---- the values, one after another

module _ (g : Ground) (m : Memory) (h : IsGround g) where
  abbrev all : List Throughout
  all = throughout g.kernel Z

  abbrev registers : List ℕ
  registers = g.vectors.registers

  abbrev chosen : Chosen g.kernel Z g.vectors
  chosen = chosen_of g.kernel Z g.vectors h.z_fits

  register_small : (j : ℕ) (t : Throughout) → slice_get all j ≡ Some t → slice_index registers j < 32
  register_small j t e = let l = chosen.below j _ (throughout-place g.kernel Z j (slice_get_within all j t e)) in omega (arith, l)

  registers_apart : (i j : ℕ) (t u : Throughout) → i ≢ j → slice_get all i ≡ Some t → slice_get all j ≡ Some u → slice_index registers i ≢ slice_index registers j
  registers_apart i j t u ne e f =
      let a = slice_get_within all i t e in
      let b = slice_get_within all j u f in
      let few = few_held g.kernel in
      let some : 0 < size_of g.kernel = omega (arith, a, few) in
      chosen.apart i j 0 _ _ ne (throughout-place g.kernel Z i a) (throughout-place g.kernel Z j b) (omega arith) some (omega arith) some

  -- the first j values are in their registers
  abbrev AreLaid : ℕ → State → Type 0
  AreLaid j s = (i : ℕ) (t : Throughout) → i < j → slice_get all i ≡ Some t → RightIn g t (z_at s (slice_index registers i))

  record AllLaid (d : Laid) (c : List DraftEntry) (s : State) (rest : List DraftEntry) (j most : ℕ) : Type 0 where
    end : State
    goes : Goes d c s rest end most
    stays : Stays g m end
    laid : AreLaid j end

  laid_next : (d : Laid) (j : ℕ) (t : Throughout) (c : List DraftEntry) (s : State) (rest : List DraftEntry) → slice_get all j ≡ Some t → (l : Lays g m d t (slice_index registers j) c s rest) → AreLaid j s → AreLaid (suc j) l.end
  laid_next d j t c s rest e l before i u lt f =
      ⊎_elim
      (λ same.
      let one : t ≡ u = (let both : Some t ≡ Some u = sym e ∙ ap (slice_get all) (sym same.1) ∙ f in cc) in
      subst (λ v. RightIn g v (z_at l.end (slice_index registers i))) one (subst (λ k. RightIn g t (z_at l.end (slice_index registers k))) (sym same.1) l.right))
      (λ other. subst (RightIn g u) (sym (l.others (slice_index registers i) (registers_apart i j u t other.1 f e))) (before i u (omega (arith, lt, other.1)) f))
      (eqb_tells i j)

  lay_all : (ts : List Throughout) (j : ℕ) (d : Laid) (rest : List DraftEntry) (s : State) → ((i : ℕ) → slice_get all (j + i) ≡ slice_get ts i) → Stays g m s → AreLaid j s → AllLaid d (holds_code g.kernel g.vectors j ts rest) s rest (j + length ts) (laid_all ts)
  lay_all [] j d rest s here k before = record {
    end = s;
    goes = stay 0;
    stays = k;
    laid = λ i t lt e. before i t (omega (arith, lt)) e;
  }
  lay_all (t ∷ ts) j d rest s here k before =
      let z : j ≡ j + 0 = omega arith in
      let at : slice_get all j ≡ Some t = ap (slice_get all) z ∙ here 0 in
      let l = hold g m h d (holds_code g.kernel g.vectors (suc j) ts rest) (slice_index registers j) (register_small j t at) t s (comes g.kernel j t at) k in
      let r = lay_all ts (suc j) d rest l.end (λ i. let q : suc j + i ≡ j + suc i = omega arith in ap (slice_get all) q ∙ here (suc i)) l.stays (laid_next d j t _ s _ at l before) in
      record {
        end = r.end;
        goes = chain {t = l.end} {u = r.end} (laid_all (t ∷ ts)) (omega arith) l.goes r.goes;
        stays = r.stays;
        laid = λ i u lt e. r.laid i u (omega (arith, lt)) e;
      }

  -- ---- the state before the first pass

  module _ (end : State) (laid : AreLaid (length all) end) where
    laid_at : (t : Throughout) (i : ℕ) → place_in t all ≡ Some i → RightIn g t (z_at end (slice_index registers i))
    laid_at t i e = let at = value_stands t all i e in laid i t (slice_get_within all i t at) at

    constant_typed : (t : Option Ty) (n : ℤ) → IsOf (unwrap_or t U64) (wrapped t n)
    constant_typed None n = is_of U64 (pos 0) (omega arith)
    constant_typed (Some t) n = wrap-is_of t n

    outer_held : (p : ℕ) (o : Option Parameter) → slice_get g.kernel.params p ≡ o → is_some (place_of_one all (option_map scalar_of o)) ≡ true → HeldAll g end (Outer p)
    outer_held p None e held = absurd cc
    outer_held p (Some q) e held =
        let i = there (place_in (scalar_of q) all) held in
        let at = value_stands (scalar_of q) all i.0 i.1 in
        let c = comes g.kernel i.0 (scalar_of q) at in
        let place = param_place g.kernel p q h.sound e in
        let other = param_place g.kernel c.0 (record { name = q.name; shape = shape.Scalar c.1 }) h.sound c.2 in
        let same : c.0 ≡ p = (let both : Some c.0 ≡ Some p = sym other ∙ place in cc) in
        let is : slice_get g.kernel.params p ≡ Some (record { name = q.name; shape = shape.Scalar c.1 }) = ap (slice_get g.kernel.params) (sym same) ∙ c.2 in
        let number : unwrap_or (place_of q.name g.kernel.params) 0 ≡ p = ap (λ o. unwrap_or o 0) place in
        let where_is : register_of 31 g.vectors (held_place g.kernel (Outer p)) ≡ slice_index registers i.0 = ap (λ o. register_of 31 g.vectors (place_of_one all (option_map scalar_of o))) e ∙ ap (register_of 31 g.vectors) i.1 in
        record {
          right = λ a. subst (λ r. ZRight (width g) (most_lanes g) (z_at end r) (λ e. nth_value g.names p)) (sym where_is)
              (subst (λ r. ZRight (width g) (most_lanes g) (z_at end (slice_index registers i.0)) (λ e. nth_value g.names r)) number (laid_at (scalar_of q) i.0 i.1));
          typed = λ a. subst (λ o. IsOf (scalar_type o) (nth_value g.names p)) (sym is) (parameter_typed g.kernel g.args g.start g.names p q.name c.1 h.begins is);
        }

    operand_held : (x : Operand) → (layout g).held x ≡ true → x ≢ LoopIndex → HeldAll g end x
    operand_held (Constant t n) held ne =
        let i = there (place_in (needs.Constant t n) all) held in
        record {
          right = λ a. subst (λ o. ZRight (width g) (most_lanes g) (z_at end (register_of 31 g.vectors o)) (λ e. wrapped t n)) (sym i.1) (laid_at (needs.Constant t n) i.0 i.1);
          typed = λ a. constant_typed t n;
        }
    operand_held (Outer p) held ne = outer_held p (slice_get g.kernel.params p) refl held
    operand_held LoopIndex held ne = absurd (ne refl)
    operand_held (Made q) held ne = absurd cc

    sum_lanes : (x : List ℕ) → (layout g).updated x ≡ true
        → LanesHold ((layout g).update x) ((layout g).sum_type x) (width g) (most_lanes g) (z_at end ((layout g).sum x)) (nothing_taken g x)
    sum_lanes x updated =
        let i = there (sum_place g.kernel x) updated in
        subst (λ o. LanesHold ((layout g).update x) ((layout g).sum_type x) (width g) (most_lanes g) (z_at end (register_of 31 g.vectors o)) (nothing_taken g x)) (sym i.1) (laid_at (needs.Accumulating x) i.0 i.1)

  -- ---- between passes

  steady_same : (ns : Names) → Steady g.kernel ns ns
  steady_same [] = tt
  steady_same (n ∷ ns) = (refl, (λ e. refl), steady_same ns)

  -- lanes that took in nothing
  none_together : (op : UpdateOp) (t : Ty) (n : ℕ) → together op t n (λ e. identity op t) ≡ identity op t
  none_together op t zero = refl
  none_together op t (suc n) = ap (λ v. joined op t v (identity op t)) (none_together op t n) ∙ (joins op t).keeps (identity op t) (joins op t).neutral

  sum_first : (x : List ℕ) → (layout g).updated x ≡ true → SumSoFar g x (value_at g.names x) (nothing_taken g x)
  sum_first x updated =
      let i = there (sum_place g.kernel x) updated in
      let c = comes g.kernel i.0 (needs.Accumulating x) (value_stands (needs.Accumulating x) all i.0 i.1) in
      let op = (layout g).update x in
      let t = (layout g).sum_type x in
      let is : t ≡ c.1 = ap (λ o. unwrap_or o U64) c.2 in
      let typed : IsOf t (value_at g.names x) = subst (λ u. IsOf u (value_at g.names x)) (sym is) (sum_typed g.kernel g.args g.start g.names x c.1 h.sound h.begins c.2) in
      record {
        typed = λ e lt. (joins op t).neutral;
        first = typed;
        now = sym (ap (joined op t (value_at g.names x)) (none_together op t (most_lanes g)) ∙ (joins op t).commutes (value_at g.names x) (identity op t) ∙ (joins op t).keeps (value_at g.names x) typed);
      }

  lanes_at_head : (end : State) → Stays g m end → AreLaid (length all) end → AtHead g 0 g.names m (nothing_taken g) end
  lanes_at_head end k laid = record {
    between = record { within = omega arith; steady = steady_same g.names; still = λ x e. refl; sums = sum_first };
    is = k.is;
    vl = k.vl;
    memory = k.memory;
    index = k.index;
    x = λ r le ne. k.x r le;
    all = k.all;
    held = operand_held end laid;
    lanes = sum_lanes end laid;
  }

-- ---- from the first word on

pub start_runs : StartRuns
start_runs g m d rest s h is vl memory index x =
    let t : State = next (with_p s 1 (predicate 1 all_at (lanes s.vl B))) in
    let one : p_at t 1 ≡ predicate 1 all_at (lanes s.vl B) = get_or-set_same s.p 1 (predicate 1 all_at (lanes s.vl B)) [] (let n = is.p_count in omega (arith, n)) in
    let k : Stays g m t = record {
      is = truths_put s t 1 B all_at is refl;
      vl = vl;
      memory = memory;
      index = index;
      x = x;
      all = λ e lt. ap (λ p. active (width g) p e) one ∙ ap (λ l. active (width g) (predicate 1 all_at (lanes l B)) e) vl ∙ all_true g.vl (width g) h.sized e lt;
    } in
    let r = lay_all g m h (throughout g.kernel Z) 0 d rest t (λ i. let e : 0 + i ≡ i = omega arith in ap (slice_get (throughout g.kernel Z)) e) k (λ i u lt e. absurd (omega (arith, lt))) in
    record {
      end = r.end;
      goes = chain (1 + laid_all (throughout g.kernel Z)) (omega arith) (put_goes refl) r.goes;
      head = lanes_at_head g m h r.end r.stays (λ i u lt e. r.laid i u (omega (arith, lt)) e);
    }
