-- The code of an update joins the accumulator's elements with what the lanes of its mask give.
use Rattle.std.proofs.Common.{◌≡◌, ℕ, ◌+◌, ◌<◌, ◌≤◌, ℤ, Bool, true, false, ◌&&◌, cond, List, [], ◌∷◌, ◌++◌, length, Option, Some, None, refl, sym, ap, ap₂, ◌∙◌, subst, arith, ⊎_elim, ltb}
use Rattle.std.specs.Prelude.{nat_lt, bytes_eq, slice_index, slice_index_or, if◌then◌else◌}
use Rattle.std.proofs.lemmas.Bool.{cases_lt, lt-ltb, le-ltb, ltb-true, and_parts, true≢false}
use Rattle.guest_types.specs.Length.{width_bits, lanes}
use Rattle.guest_types.specs.Elements.{at}
use Rattle.kernel_tree.specs.declared.ops.Ty.{Ty}
use Rattle.kernel_tree.specs.declared.ops.UpdateOp.{UpdateOp}
use Rattle.kernel_tree.specs.Wrap.{residue}
use Rattle.kernel_tree.proofs.Names.{bytes_eq-told, bytes_eq-refl}
use Rattle.kernel_meaning.specs.Operators.{operator_of}
use Rattle.machine_model.specs.Machine.{State, z_at}
use Rattle.label_fix.specs.DraftRun.{DraftEntry, Laid}
use Rattle.loop_form.specs.declared.loop_item.Operand.{Operand}
use Rattle.loop_form.specs.LoopItems.{Op}
use Rattle.loop_form.specs.LoopItems as ops
use Rattle.vector_order.specs.Orders.{Share, Lane, Lanes, Act, Out, column}
use Rattle.vector_order.specs.Operands.{operand_value, on_mask}
use Rattle.vector_order.specs.Items.{item_act, with_share, share}
use Rattle.lane_emit.specs.Right.{IsOf, within}
use Rattle.lane_emit.specs.ItemCode.{operand, mask_of, mask_register}
use Rattle.lane_emit.specs.Joins.{joined}
use Rattle.lane_emit.specs.Folds.{after_all, AreOf, given_to, ShareAlike}
use Rattle.lane_emit.specs.AccumulatorLanes.{update_code, Updated}
use Rattle.lane_emit.proofs.FoldOrders.{after_of}
use Rattle.lane_emit.proofs.AccumulatorUpdates.{update_taken}
use Rattle.chunk_emit.specs.Registers.{Layout, z_of, p_of}
use Rattle.chunk_emit.specs.ChunkCode.{op_words, puts}
use Rattle.chunk_emit.specs.Chunk.{Setting, chunk_of, count_of, sum_at, SumRight, Holds}
use Rattle.chunk_emit.specs.Fits.{Assigned, FitsMask, FitsOperand, MakesNothing}
use Rattle.chunk_emit.specs.StopPlaces.{ChunkComesTo}
use Rattle.chunk_emit.specs.ItemsRun.{Does, does_fine}
use Rattle.chunk_emit.proofs.DraftVectors.{do_goes}
use Rattle.chunk_emit.proofs.ItemLanes.{OwnColumn, own_fine}
use Rattle.chunk_emit.proofs.ChunkStates.{Moves, holds_on, mask_right, operand_right}
use Rattle.chunk_emit.proofs.PureItems.{sum_same, taken_same, pure_column}
use Rattle.lane_emit.specs.AccumulatorLanes as accumulators

-- ---- shares

-- one share more
given_more : (x : List ℕ) (shares : List Share) (s : Share) → given_to x (shares ++ s ∷ []) ≡ given_to x shares ++ (if bytes_eq s.name x then s.value ∷ [] else [])
given_more x [] s = refl
given_more x (k ∷ shares) s = by (bytes_eq k.name x) (given_more x shares s)
  where
    by : (b : Bool) → given_to x (shares ++ s ∷ []) ≡ given_to x shares ++ (if bytes_eq s.name x then s.value ∷ [] else []) → (if b then k.value ∷ given_to x (shares ++ s ∷ []) else given_to x (shares ++ s ∷ [])) ≡ (if b then k.value ∷ given_to x shares else given_to x shares) ++ (if bytes_eq s.name x then s.value ∷ [] else [])
    by true ih = ap (λ vs. k.value ∷ vs) ih
    by false ih = ih

alike_more : (x : List ℕ) (op : UpdateOp) (t : Ty) (shares : List Share) (s : Share) → ShareAlike x op t shares → (bytes_eq s.name x ≡ true → (s.op ≡ operator_of op) × (s.type ≡ Some t)) → ShareAlike x op t (shares ++ s ∷ [])
alike_more x op t [] s h k = (k, tt)
alike_more x op t (r ∷ shares) s h k = (h.0, alike_more x op t shares s h.1 k)

after_more : (op : UpdateOp) (t : Ty) (acc : ℤ) (vs : List ℤ) (v : ℤ) → after_all op t acc (vs ++ v ∷ []) ≡ joined op t (after_all op t acc vs) v
after_more op t acc [] v = refl
after_more op t acc (u ∷ vs) v = after_more op t (joined op t acc u) vs v

of_more : (t : Ty) (vs : List ℤ) (v : ℤ) → AreOf t vs → IsOf t v → AreOf t (vs ++ v ∷ [])
of_more t [] v h k = (k, tt)
of_more t (u ∷ vs) v h k = (h.0, of_more t vs v h.1 k)

append_none : (vs : List ℤ) → vs ++ [] ≡ vs
append_none [] = refl
append_none (v ∷ vs) = ap (λ us. v ∷ us) (append_none vs)

-- a lane that gives a share, or does not
abbrev given_share : Bool → Lane → Share → Lane
given_share b a s = if b then with_share a s else a

given_values : (b : Bool) (a : Lane) (s : Share) → (given_share b a s).value ≡ a.value
given_values true a s = refl
given_values false a s = refl

given_truths : (b : Bool) (a : Lane) (s : Share) → (given_share b a s).truth ≡ a.truth
given_truths true a s = refl
given_truths false a s = refl

-- a share for another accumulator
given_other : (b : Bool) (a : Lane) (s : Share) (v : List ℕ) → bytes_eq s.name v ≡ false → given_to v (given_share b a s).shares ≡ given_to v a.shares
given_other true a s v e = given_more v a.shares s ∙ ap (λ b. given_to v a.shares ++ (if b then s.value ∷ [] else [])) e ∙ append_none (given_to v a.shares)
given_other false a s v e = refl

given_alike : (b : Bool) (a : Lane) (s : Share) (v : List ℕ) (op : UpdateOp) (t : Ty) → ShareAlike v op t a.shares → (bytes_eq s.name v ≡ true → (s.op ≡ operator_of op) × (s.type ≡ Some t)) → ShareAlike v op t (given_share b a s).shares
given_alike true a s v op t h k = alike_more v op t a.shares s h k
given_alike false a s v op t h k = h

-- a share for this accumulator
given_own : (b : Bool) (a : Lane) (s : Share) (x : List ℕ) (op : UpdateOp) (t : Ty) (acc : ℤ) → bytes_eq s.name x ≡ true → after_all op t acc (given_to x (given_share b a s).shares) ≡ cond b (joined op t (after_all op t acc (given_to x a.shares)) s.value) (after_all op t acc (given_to x a.shares))
given_own true a s x op t acc e = ap (after_all op t acc) (given_more x a.shares s ∙ ap (λ b. given_to x a.shares ++ (if b then s.value ∷ [] else [])) e) ∙ after_more op t acc (given_to x a.shares) s.value
given_own false a s x op t acc e = refl

own_of : (b : Bool) (a : Lane) (s : Share) (x : List ℕ) (t : Ty) → bytes_eq s.name x ≡ true → AreOf t (given_to x a.shares) → IsOf t s.value → AreOf t (given_to x (given_share b a s).shares)
own_of true a s x t e h k = subst (AreOf t) (sym (given_more x a.shares s ∙ ap (λ b. given_to x a.shares ++ (if b then s.value ∷ [] else [])) e)) (of_more t (given_to x a.shares) s.value h k)
own_of false a s x t e h k = h

-- ---- the code of an update

module _ (l : Layout) (fit : Assigned l) (f : Setting) (d : Laid) (rest : List DraftEntry) {p : ℕ} {t : Lanes} {s : State} (h : Holds l f p t s) (mask : Option ℕ) (fm : FitsMask l p mask) (x : List ℕ) (op : UpdateOp) (ty : Ty) (y : Operand) (updated : l.updated x ≡ true) (op_is : l.update x ≡ op) (ty_is : l.sum_type x ≡ ty) (fits : FitsOperand l f.w p ty y) (none : MakesNothing l p) where
  abbrev m : ℕ
  m = mask_register l.registers mask

  abbrev src : ℕ
  src = l.registers.source y

  abbrev the_op : Op
  the_op = ops.Update x op (Some ty) y

  abbrev act : Act
  act = item_act f.names (record { item = p; mask = mask; op = the_op })

  abbrev gift : ℕ → Lane → Share
  gift j a = share x (operator_of op) (Some ty) (operand_value f.names j a y)

  abbrev new : ℕ → Lane → Lane
  new j a = given_share (on_mask mask a) a (gift j a)

  abbrev lane_of : ℕ → Lane
  lane_of e = t.lane (f.i + e)

  abbrev on : ℕ → Bool
  on = within f.n (mask_of (chunk_of f t) mask)

  abbrev taken : ℕ → ℤ
  taken = sum_at l f t x

  -- past the lanes no value is given
  abbrev value : ℕ → ℤ
  value e = cond (nat_lt e f.n) (operand (chunk_of f t) y e) (taken e)

  cols : OwnColumn new f.n f.i t None (column act f.n f.i t)
  cols = pure_column l fit f d rest h mask fm the_op new (λ j mem a. refl)

  old : SumRight l f t x (z_at s (l.sum x))
  old = h.sums x updated

  -- what elements have taken in is of the type
  taken_of : (e : ℕ) → e < count_of f → IsOf ty (taken e)
  taken_of e lt = subst (λ k. IsOf k (taken e)) ty_is (by (nat_lt e f.n) (old.before e lt))
    where
      by : (b : Bool) → IsOf (l.sum_type x) (f.sum x e) → IsOf (l.sum_type x) (if b then after_all (l.update x) (l.sum_type x) (f.sum x e) (given_to x (lane_of e).shares) else f.sum x e)
      by true k = after_of (l.update x) (l.sum_type x) (f.sum x e) (given_to x (lane_of e).shares) k
      by false k = k

  typed : (e : ℕ) → e < f.n → IsOf ty (operand (chunk_of f t) y e)
  typed e lt = (operand_right h fit ty y fits).typed e lt

  value_of : (e : ℕ) → e < count_of f → IsOf ty (value e)
  value_of e lt = ⊎_elim
      (λ en. subst (IsOf ty) (sym (ap (λ b. cond b (operand (chunk_of f t) y e) (taken e)) (lt-ltb e f.n en))) (typed e en))
      (λ ge. subst (IsOf ty) (sym (ap (λ b. cond b (operand (chunk_of f t) y e) (taken e)) (le-ltb e f.n ge))) (taken_of e lt))
      (cases_lt e f.n)

  value_right : (e : ℕ) → on e ≡ true → at f.w (z_at s src) e ≡ residue (width_bits f.w) (value e)
  value_right e is =
      let inside = (and_parts (ltb e f.n) (mask_of (chunk_of f t) mask e) is).0 in
      (operand_right h fit ty y fits).right e (ltb-true e f.n inside) ∙ ap (residue (width_bits f.w)) (sym (ap (λ b. cond b (operand (chunk_of f t) y e) (taken e)) inside))

  update_count : lanes s.vl f.w ≡ count_of f
  update_count = ap (λ v. lanes v f.w) h.vl

  run : Updated (update_code f.w op ty (l.sum x) m src) s op ty f.w (lanes s.vl f.w) (l.sum x) (λ e. cond (on e) (joined op ty (taken e) (value e)) (taken e))
  run = update_taken op ty f.w s (l.sum x) m src on taken value h.is (fit.sum_small x updated) fits.1 (mask_right h mask fm)
      (λ e lt. subst (λ k. accumulators.Holds k ty f.w (at f.w (z_at s (l.sum x)) e) (taken e)) op_is (subst (λ k. accumulators.Holds (l.update x) k f.w (at f.w (z_at s (l.sum x)) e) (taken e)) ty_is (old.holds e (omega (arith, lt, update_count)))))
      (λ e lt. (taken_of e (omega (arith, lt, update_count)), value_of e (omega (arith, lt, update_count)), value_right e))

  module _ (u : Lanes) (mem : u.memory ≡ t.memory) (here : (e : ℕ) → e < f.n → u.lane (f.i + e) ≡ new (f.i + e) (lane_of e)) where
    abbrev end : State
    end = run.end

    -- what an element has taken in after the update
    taken_is : (e : ℕ) → cond (on e) (joined op ty (taken e) (value e)) (taken e) ≡ sum_at l f u x e
    taken_is e = ⊎_elim taken_in taken_out (cases_lt e f.n)
      where
        taken_in : e < f.n → cond (on e) (joined op ty (taken e) (value e)) (taken e) ≡ sum_at l f u x e
        taken_in en =
            let low = lt-ltb e f.n en in
            let before : taken e ≡ after_all (l.update x) (l.sum_type x) (f.sum x e) (given_to x (lane_of e).shares) =
            ap (λ b. if b then after_all (l.update x) (l.sum_type x) (f.sum x e) (given_to x (lane_of e).shares) else f.sum x e) low in
            let gives : value e ≡ operand (chunk_of f t) y e = ap (λ b. cond b (operand (chunk_of f t) y e) (taken e)) low in
            ap (λ b. cond (b && on_mask mask (lane_of e)) (joined op ty (taken e) (value e)) (taken e)) low
            ∙ ap₂ (λ k v. cond (on_mask mask (lane_of e)) (joined op ty k v) k) before gives
            ∙ ap₂ (λ o k. cond (on_mask mask (lane_of e)) (joined o k (after_all (l.update x) (l.sum_type x) (f.sum x e) (given_to x (lane_of e).shares)) (operand (chunk_of f t) y e)) (after_all (l.update x) (l.sum_type x) (f.sum x e) (given_to x (lane_of e).shares))) (sym op_is) (sym ty_is)
            ∙ sym (given_own (on_mask mask (lane_of e)) (lane_of e) (gift (f.i + e) (lane_of e)) x (l.update x) (l.sum_type x) (f.sum x e) (bytes_eq-refl x))
            ∙ ap (λ (k : Lane). after_all (l.update x) (l.sum_type x) (f.sum x e) (given_to x k.shares)) (sym (here e en))
            ∙ sym (ap (λ b. if b then after_all (l.update x) (l.sum_type x) (f.sum x e) (given_to x (u.lane (f.i + e)).shares) else f.sum x e) low)

        taken_out : f.n ≤ e → cond (on e) (joined op ty (taken e) (value e)) (taken e) ≡ sum_at l f u x e
        taken_out ge =
            ap (λ b. cond (b && on_mask mask (lane_of e)) (joined op ty (taken e) (value e)) (taken e)) (le-ltb e f.n ge)
            ∙ sum_same l f t u x e (λ en. absurd (omega (arith, en, ge)))

    -- the accumulator itself
    own_sum : SumRight l f u x (z_at end (l.sum x))
    own_sum = record {
      before = old.before;
      alike = λ e lt. subst (λ (k : Lane). ShareAlike x (l.update x) (l.sum_type x) k.shares) (sym (here e lt))
          (given_alike (on_mask mask (lane_of e)) (lane_of e) (gift (f.i + e) (lane_of e)) x (l.update x) (l.sum_type x) (old.alike e lt) (λ same. (ap operator_of (sym op_is), ap Some (sym ty_is))));
      typed = λ e lt. subst (λ (k : Lane). AreOf (l.sum_type x) (given_to x k.shares)) (sym (here e lt))
          (own_of (on_mask mask (lane_of e)) (lane_of e) (gift (f.i + e) (lane_of e)) x (l.sum_type x) (bytes_eq-refl x) (old.typed e lt) (subst (λ k. IsOf k (operand (chunk_of f t) y e)) (sym ty_is) (typed e lt)));
      holds = λ e lt. taken_same (l.update x) (l.sum_type x) f.w (at f.w (z_at end (l.sum x)) e) (cond (on e) (joined op ty (taken e) (value e)) (taken e)) (sum_at l f u x e) (taken_is e)
          (subst (λ k. accumulators.Holds (l.update x) k f.w (at f.w (z_at end (l.sum x)) e) (cond (on e) (joined op ty (taken e) (value e)) (taken e))) (sym ty_is)
          (subst (λ k. accumulators.Holds k ty f.w (at f.w (z_at end (l.sum x)) e) (cond (on e) (joined op ty (taken e) (value e)) (taken e))) (sym op_is) (run.holds e (omega (arith, lt, update_count)))));
    }

    -- another accumulator
    other_sum : (v : List ℕ) → l.updated v ≡ true → bytes_eq x v ≡ false → SumRight l f u v (z_at end (l.sum v))
    other_sum v is differ =
        let was = h.sums v is in
        let same : (e : ℕ) → e < f.n → given_to v (u.lane (f.i + e)).shares ≡ given_to v (lane_of e).shares =
        λ e en. ap (λ (k : Lane). given_to v k.shares) (here e en) ∙ given_other (on_mask mask (lane_of e)) (lane_of e) (gift (f.i + e) (lane_of e)) v differ in
        record {
          before = was.before;
          alike = λ e lt. subst (λ (k : Lane). ShareAlike v (l.update v) (l.sum_type v) k.shares) (sym (here e lt))
              (given_alike (on_mask mask (lane_of e)) (lane_of e) (gift (f.i + e) (lane_of e)) v (l.update v) (l.sum_type v) (was.alike e lt) (λ yes. absurd (true≢false (sym yes ∙ differ))));
          typed = λ e lt. subst (AreOf (l.sum_type v)) (sym (same e lt)) (was.typed e lt);
          holds = λ e lt. subst (λ z. accumulators.Holds (l.update v) (l.sum_type v) f.w (at f.w z e) (sum_at l f u v e)) (sym (run.only.z (l.sum v) (λ eq. fit.sums_apart x v updated is differ (sym eq))))
              (taken_same (l.update v) (l.sum_type v) f.w (at f.w (z_at s (l.sum v)) e) (sum_at l f t v e) (sum_at l f u v e) (sum_same l f t u v e (same e)) (was.holds e lt));
        }

    all_sums : (v : List ℕ) → l.updated v ≡ true → SumRight l f u v (z_at end (l.sum v))
    all_sums v is = by (bytes_eq x v) refl
      where
        by : (b : Bool) → bytes_eq x v ≡ b → SumRight l f u v (z_at end (l.sum v))
        by true same = subst (λ k. SumRight l f u k (z_at end (l.sum k))) (bytes_eq-told x v same) own_sum
        by false differ = other_sum v is differ

    update_moves : Moves l f p t s u end
    update_moves =
        let only = run.only in
        record {
          is = run.is;
          vl = only.vl;
          stops = only.stops;
          memory = only.memory ∙ h.memory ∙ sym mem;
          x = λ r ne. ap (λ xs. slice_index xs r) only.x;
          active = ap (λ ps. slice_index_or ps 0 []) only.p;
          all = ap (λ ps. slice_index_or ps 1 []) only.p;
          held = λ v is. only.z (l.registers.source v) (λ eq. fit.sum_held x v updated is (sym eq));
          kept_z = λ q lt le. only.z (z_of l q) (λ eq. fit.sum_made x p q updated lt le (sym eq));
          kept_p = λ q lt le. ap (λ ps. slice_index_or ps (p_of l q) []) only.p;
          values = λ q e lt el. ap (λ (k : Lane). k.value q) (here e el) ∙ ap (λ (g : ℕ → ℤ). g q) (given_values (on_mask mask (lane_of e)) (lane_of e) (gift (f.i + e) (lane_of e)));
          truths = λ q e lt el. ap (λ (k : Lane). k.truth q) (here e el) ∙ ap (λ (g : ℕ → Bool). g q) (given_truths (on_mask mask (lane_of e)) (lane_of e) (gift (f.i + e) (lane_of e)));
          value = λ lt. absurd (omega (arith, lt, none.0));
          truth = λ lt. absurd (omega (arith, lt, none.1));
          sums = all_sums;
        }

  update_does_column : {out : Out} → OwnColumn new f.n f.i t None out → Does l f d (puts (op_words f.w l p m the_op) rest) s rest (p + 1) (length (op_words f.w l p m the_op)) (ChunkComesTo f the_op) out
  update_does_column (own_fine u mem here before past) = does_fine run.end (do_goes (update_code f.w op ty (l.sum x) m src) s run.end run.runs) (holds_on h (update_moves u mem here))

  pub update_runs : Does l f d (puts (op_words f.w l p m the_op) rest) s rest (p + 1) (length (op_words f.w l p m the_op)) (ChunkComesTo f the_op) (column act f.n f.i t)
  update_runs = update_does_column cols
