-- Items that no memory is for: each makes a value, or a condition, in every lane.
use Rattle.std.proofs.Common.{◌≡◌, ℕ, ◌+◌, ◌<◌, ℤ, Bool, true, false, List, [], length, Option, Some, None, refl, sym, ap, ◌∙◌, subst, arith, ⊎_elim, ltb}
use Rattle.std.specs.Prelude.{nat_lt, slice_index, slice_index_or, if◌then◌else◌}
use Rattle.std.proofs.lemmas.Bool.{cases_lt, le-ltb, ltb-true, ltb-false}
use Rattle.guest_types.specs.Memory.{Memory}
use Rattle.guest_types.specs.Length.{lanes, width_bits}
use Rattle.guest_types.specs.Elements.{at}
use Rattle.kernel_tree.specs.declared.ops.Ty.{Ty}
use Rattle.kernel_tree.specs.declared.ops.UpdateOp.{UpdateOp}
use Rattle.guest_types.specs.declared.length.Width.{Width}
use Rattle.kernel_tree.specs.Wrap.{residue}
use Rattle.machine_model.specs.declared.outcome.StopKind.{StopKind}
use Rattle.machine_model.specs.Machine.{State, z_at, p_at}
use Rattle.machine_model.specs.States.{IsState}
use Rattle.label_fix.specs.DraftRun.{DraftEntry, Laid}
use Rattle.label_fix.specs.Stretches.{Goes}
use Rattle.label_fix.proofs.StretchSteps.{stay}
use Rattle.vector_order.specs.Orders.{Lane, Lanes, Keeps, Act, Out, done, column}
use Rattle.loop_form.specs.declared.loop_item.Operand.TheVariants.{Made}
use Rattle.vector_order.specs.Operands.{with_value, on_mask}
use Rattle.vector_order.proofs.LaneValues.{value_same, value_other}
use Rattle.loop_form.specs.LoopItems.{Op}
use Rattle.vector_order.specs.Items.{op_effect, item_act, with_truth}
use Rattle.vector_order.proofs.Terms.{truth_same, truth_other}
use Rattle.lane_emit.specs.Right.{IsOf, ZRight, PRight, within}
use Rattle.lane_emit.specs.Stretch.{OnlyZ, OnlyP}
use Rattle.lane_emit.specs.ItemCode.{Chunk, AllOf, operand, mask_register, op_code, new_value, new_truth, value_after, truth_after, OperandsRight, Makes, makes_truth, made_type, AllTyped, ItemRuns}
use Rattle.lane_emit.proofs.ItemRuns.{lanes_right_law}
use Rattle.lane_emit.specs.Folds.{after_all, AreOf, given_to, ShareAlike}
use Rattle.lane_emit.specs.AccumulatorLanes as accumulators
use Rattle.chunk_emit.specs.Registers.{Layout, z_of, p_of, IsValueUsed, IsTruthUsed}
use Rattle.chunk_emit.specs.ChunkCode.{vectors, op_words, puts}
use Rattle.chunk_emit.specs.Chunk.{Setting, chunk_of, sum_at, TruthExact, SumRight, Holds}
use Rattle.chunk_emit.specs.Fits.{Assigned, FitsMask, MakesValue, MakesTruth, MakesNothing}
use Rattle.chunk_emit.specs.StopPlaces.{ChunkComesTo}
use Rattle.chunk_emit.specs.ItemsRun.{Does, does_fine}
use Rattle.chunk_emit.proofs.DraftVectors.{do_goes}
use Rattle.chunk_emit.proofs.ItemLanes.{first_none, OwnColumn, own_fine, own_column}
use Rattle.chunk_emit.proofs.ChunkStates.{Moves, holds_on, ready, mask_right, and_below_same}

-- ---- what an item leaves of its lane

-- the lanes of a chunk, in which an item has made a value, or a condition
abbrev pub GivesValue : Setting → ℕ → (t u : Lanes) → (ℕ → ℤ) → Type 0
GivesValue f p t u v = (e : ℕ) → e < f.n → u.lane (f.i + e) ≡ with_value (t.lane (f.i + e)) p (v e)

abbrev pub GivesTruth : Setting → ℕ → (t u : Lanes) → (ℕ → Bool) → Type 0
GivesTruth f p t u b = (e : ℕ) → e < f.n → u.lane (f.i + e) ≡ with_truth (t.lane (f.i + e)) p (b e)

-- what lanes gave to accumulators counts in the lanes alone
pub sum_same : (l : Layout) (f : Setting) (t u : Lanes) (x : List ℕ) (e : ℕ) → (e < f.n → given_to x (u.lane (f.i + e)).shares ≡ given_to x (t.lane (f.i + e)).shares) → sum_at l f t x e ≡ sum_at l f u x e
sum_same l f t u x e h = ⊎_elim
    (λ lt. ap (λ vs. if ltb e f.n then after_all (l.update x) (l.sum_type x) (f.sum x e) vs else f.sum x e) (sym (h lt)))
    (λ ge. let no : ltb e f.n ≡ false = le-ltb e f.n ge in
    ap (λ b. if b then after_all (l.update x) (l.sum_type x) (f.sum x e) (given_to x (t.lane (f.i + e)).shares) else f.sum x e) no
    ∙ sym (ap (λ b. if b then after_all (l.update x) (l.sum_type x) (f.sum x e) (given_to x (u.lane (f.i + e)).shares) else f.sum x e) no))
    (cases_lt e f.n)

-- what an element has taken in, by another name
pub taken_same : (op : UpdateOp) (t : Ty) (w : Width) (a : ℕ) (v u : ℤ) → v ≡ u → accumulators.Holds op t w a v → accumulators.Holds op t w a u
taken_same op t w a v u e h = subst (accumulators.Holds op t w a) e h

module _ {l : Layout} {f : Setting} {p : ℕ} {t : Lanes} {s : State} (h : Holds l f p t s) where
  -- what was given to accumulators stands as it was
  pub sums_kept : (u : Lanes) (v : State) → ((x : List ℕ) → l.updated x ≡ true → z_at v (l.sum x) ≡ z_at s (l.sum x)) → ((e : ℕ) → e < f.n → (u.lane (f.i + e)).shares ≡ (t.lane (f.i + e)).shares) → (x : List ℕ) → l.updated x ≡ true → SumRight l f u x (z_at v (l.sum x))
  sums_kept u v same shares x is =
      let old = h.sums x is in
      record {
        before = old.before;
        alike = λ e lt. subst (ShareAlike x (l.update x) (l.sum_type x)) (sym (shares e lt)) (old.alike e lt);
        typed = λ e lt. subst (λ k. AreOf (l.sum_type x) (given_to x k)) (sym (shares e lt)) (old.typed e lt);
        holds = λ e lt. subst (λ z. accumulators.Holds (l.update x) (l.sum_type x) f.w (at f.w z e) (sum_at l f u x e)) (sym (same x is))
            (taken_same (l.update x) (l.sum_type x) f.w (at f.w (z_at s (l.sum x)) e) (sum_at l f t x e) (sum_at l f u x e) (sum_same l f t u x e (λ en. ap (given_to x) (shares e en))) (old.holds e lt));
      }

  -- an item that leaves the registers alone, as nothing after it needs what it makes
  pub unused_moves : (u : Lanes) → MakesNothing l p → u.memory ≡ t.memory → ((q e : ℕ) → q < p → e < f.n → (u.lane (f.i + e)).value q ≡ (t.lane (f.i + e)).value q) → ((q e : ℕ) → q < p → e < f.n → (u.lane (f.i + e)).truth q ≡ (t.lane (f.i + e)).truth q) → ((e : ℕ) → e < f.n → (u.lane (f.i + e)).shares ≡ (t.lane (f.i + e)).shares) → Moves l f p t s u s
  unused_moves u none mem values truths shares = record {
    is = h.is;
    vl = refl;
    stops = refl;
    memory = h.memory ∙ sym mem;
    x = λ r ne. refl;
    active = refl;
    all = refl;
    held = λ x is. refl;
    kept_z = λ q lt le. refl;
    kept_p = λ q lt le. refl;
    values = values;
    truths = truths;
    value = λ lt. absurd (omega (arith, lt, none.0));
    truth = λ lt. absurd (omega (arith, lt, none.1));
    sums = sums_kept u s (λ x is. refl) shares;
  }

  module _ (fit : Assigned l) where
    -- a value in its register
    pub value_moves : (ty : Ty) (val : ℕ → ℤ) (u : Lanes) (v : State) → MakesValue l p ty → IsValueUsed l p → u.memory ≡ t.memory → GivesValue f p t u val → IsState v → OnlyZ (z_of l p) s v → ZRight f.w f.n (z_at v (z_of l p)) val → AllOf ty f.n val → Moves l f p t s u v
    value_moves ty val u v makes used mem gives is only right typed =
        let value_is : (e : ℕ) → e < f.n → (u.lane (f.i + e)).value p ≡ val e = λ e lt. ap (λ (a : Lane). a.value p) (gives e lt) ∙ value_same (t.lane (f.i + e)) p (val e) in
        record {
          is = is;
          vl = only.vl;
          stops = only.stops;
          memory = only.memory ∙ h.memory ∙ sym mem;
          x = λ r ne. ap (λ xs. slice_index xs r) only.x;
          active = ap (λ ps. slice_index_or ps 0 []) only.p;
          all = ap (λ ps. slice_index_or ps 1 []) only.p;
          held = λ x held. only.z (l.registers.source x) (λ eq. fit.held_apart x p held used (sym eq));
          kept_z = λ q lt le. only.z (z_of l q) (λ eq. fit.z_apart p q lt le used (sym eq));
          kept_p = λ q lt le. ap (λ ps. slice_index_or ps (p_of l q) []) only.p;
          values = λ q e lt el. ap (λ (a : Lane). a.value q) (gives e el) ∙ value_other (t.lane (f.i + e)) p q (val e) (λ eq. absurd (omega (arith, lt, eq)));
          truths = λ q e lt el. ap (λ (a : Lane). a.truth q) (gives e el);
          value = λ lt. record {
            right = λ e el. right e el ∙ ap (held_in f) (sym (value_is e el));
            typed = λ e el. subst (λ k. IsOf k (operand (chunk_of f u) (Made p) e)) (sym makes.1) (subst (IsOf ty) (sym (value_is e el)) (typed e el));
          };
          truth = λ lt. absurd (omega (arith, lt, makes.0));
          sums = sums_kept u v (λ x is. only.z (l.sum x) (λ eq. fit.sum_apart x p is used (sym eq))) (λ e el. ap (λ (a : Lane). a.shares) (gives e el));
        }
      where
        held_in : Setting → ℤ → ℕ
        held_in f z = residue (width_bits f.w) z

    -- a condition in its register
    pub truth_moves : (b : ℕ → Bool) (u : Lanes) (v : State) → MakesTruth l p → IsTruthUsed l p → u.memory ≡ t.memory → GivesTruth f p t u b → IsState v → OnlyP (p_of l p) s v → TruthExact f (p_at v (p_of l p)) b → Moves l f p t s u v
    truth_moves b u v makes used mem gives is only right =
        let low = fit.p_low p used in
        record {
          is = is;
          vl = only.vl;
          stops = only.stops;
          memory = only.memory ∙ h.memory ∙ sym mem;
          x = λ r ne. ap (λ xs. slice_index xs r) only.x;
          active = only.p 0 (λ eq. absurd (omega (arith, low, eq)));
          all = only.p 1 (λ eq. absurd (omega (arith, low, eq)));
          held = λ x held. ap (λ zs. slice_index_or zs (l.registers.source x) []) only.z;
          kept_z = λ q lt le. ap (λ zs. slice_index_or zs (z_of l q) []) only.z;
          kept_p = λ q lt le. only.p (p_of l q) (λ eq. fit.p_apart p q lt le used (sym eq));
          values = λ q e lt el. ap (λ (a : Lane). a.value q) (gives e el);
          truths = λ q e lt el. ap (λ (a : Lane). a.truth q) (gives e el) ∙ truth_other (t.lane (f.i + e)) p q (b e) (λ eq. absurd (omega (arith, lt, eq)));
          value = λ lt. absurd (omega (arith, lt, makes));
          truth = λ lt e el. right e el ∙ and_below_same e f.n _ _ (λ en. sym (ap (λ (a : Lane). a.truth p) (gives e en) ∙ truth_same (t.lane (f.i + e)) p (b e)));
          sums = sums_kept u v (λ x is. ap (λ zs. slice_index_or zs (l.sum x) []) only.z) (λ e el. ap (λ (a : Lane). a.shares) (gives e el));
        }

-- ---- the code of such an item

module _ (l : Layout) (fit : Assigned l) (f : Setting) (d : Laid) (rest : List DraftEntry) {p : ℕ} {t : Lanes} {s : State} (h : Holds l f p t s) (mask : Option ℕ) (fm : FitsMask l p mask) where
  abbrev c : Chunk
  c = chunk_of f t

  abbrev m : ℕ
  m = mask_register l.registers mask

  abbrev act_of : Op → Act
  act_of op = item_act f.names (record { item = p; mask = mask; op = op })

  pub pure_column : (op : Op) (new : ℕ → Lane → Lane) → ((j : ℕ) (mem : Memory) (a : Lane) → op_effect op f.names p j (on_mask mask a) mem a ≡ Keeps (new j a)) → OwnColumn new f.n f.i t None (column (act_of op) f.n f.i t)
  pure_column op new does =
      subst (λ o. OwnColumn new f.n f.i t o (column (act_of op) f.n f.i t)) (first_none (λ e. false) f.n 0 (λ j le lt. refl))
      (own_column (act_of op) (λ j a. false) new (λ e. false) f.i f.n 0 f.i t (omega arith) (record { does = λ j u e. ap (λ o. done o j u) (does j u.memory (u.lane j)) }) (λ e le lt. refl))

  pure_item_does_column : (new : ℕ → Lane → Lane) {code : List DraftEntry} {most : ℕ} {near : StopKind → ℕ → Type 0} (end : State) {out : Out} → OwnColumn new f.n f.i t None out → Goes d code s rest end most
      → ((u : Lanes) → u.memory ≡ t.memory → ((e : ℕ) → e < f.n → u.lane (f.i + e) ≡ new (f.i + e) (t.lane (f.i + e))) → Moves l f p t s u end) → Does l f d code s rest (p + 1) most near out
  pure_item_does_column new end (own_fine u mem here before past) goes moves = does_fine end goes (holds_on h (moves u mem here))

  runs : (op : Op) → OperandsRight c l.registers s op → ItemRuns c l.registers s p m mask op
  runs op operands = lanes_right_law c l.registers s p m mask op (ready h) (fit.z_small p) (fit.p_small p) (mask_right h mask fm) operands

  pub value_runs : (op : Op) (val : ℕ → Lane → ℤ) → (ty : Ty) → makes_truth op ≡ false → made_type op ≡ Some ty → MakesValue l p ty → OperandsRight c l.registers s op
      → ((j : ℕ) (mem : Memory) (a : Lane) → op_effect op f.names p j (on_mask mask a) mem a ≡ Keeps (with_value a p (val j a)))
      → op_words f.w l p m op ≡ (if nat_lt p (l.z_last_use p) then vectors (op_code f.w l.registers p m op) else [])
      → Does l f d (puts (op_words f.w l p m op) rest) s rest (p + 1) (length (op_words f.w l p m op)) (ChunkComesTo f op) (column (act_of op) f.n f.i t)
  value_runs op val ty kind made_is makes operands does words =
      subst (λ ws. Does l f d (puts ws rest) s rest (p + 1) (length ws) (ChunkComesTo f op) (column (act_of op) f.n f.i t)) (sym words) (by (nat_lt p (l.z_last_use p)) refl)
    where
      new : ℕ → Lane → Lane
      new j a = with_value a p (val j a)

      cols : OwnColumn (λ j a. with_value a p (val j a)) f.n f.i t None (column (act_of op) f.n f.i t)
      cols = pure_column op (λ j a. with_value a p (val j a)) does

      value_is : (e : ℕ) → new_value c op p mask e ≡ val (f.i + e) (t.lane (f.i + e))
      value_is e = ap (value_after p) (does (f.i + e) t.memory (t.lane (f.i + e))) ∙ value_same (t.lane (f.i + e)) p (val (f.i + e) (t.lane (f.i + e)))

      by : (b : Bool) → nat_lt p (l.z_last_use p) ≡ b → Does l f d (puts (if b then vectors (op_code f.w l.registers p m op) else []) rest) s rest (p + 1) (length (if b then vectors (op_code f.w l.registers p m op) else [])) (ChunkComesTo f op) (column (act_of op) f.n f.i t)
      by true used =
          let run = runs op operands in
          let made = subst (λ b. Makes b c l.registers s p m mask op) kind run.makes in
          pure_item_does_column (λ j a. with_value a p (val j a)) made.end cols (do_goes (op_code f.w l.registers p m op) s made.end made.runs)
          (λ u mem here. value_moves h fit ty (new_value c op p mask) u made.end makes (ltb-true p (l.z_last_use p) used) mem (λ e lt. here e lt ∙ ap (with_value (t.lane (f.i + e)) p) (sym (value_is e))) made.is made.only made.right (subst (λ o. AllTyped o f.n (new_value c op p mask)) made_is run.typed))
      by false unused =
          let none : MakesNothing l p = (ltb-false p (l.z_last_use p) unused, makes.0) in
          pure_item_does_column (λ j a. with_value a p (val j a)) s cols (stay 0)
          (λ u mem here. unused_moves h u none mem
          (λ q e lt el. ap (λ (a : Lane). a.value q) (here e el) ∙ value_other (t.lane (f.i + e)) p q (val (f.i + e) (t.lane (f.i + e))) (λ eq. absurd (omega (arith, lt, eq))))
          (λ q e lt el. ap (λ (a : Lane). a.truth q) (here e el)) (λ e el. ap (λ (a : Lane). a.shares) (here e el)))

  pub truth_runs : (op : Op) (val : ℕ → Lane → Bool) → makes_truth op ≡ true → MakesTruth l p → OperandsRight c l.registers s op
      → ((j : ℕ) (mem : Memory) (a : Lane) → op_effect op f.names p j (on_mask mask a) mem a ≡ Keeps (with_truth a p (val j a)))
      → op_words f.w l p m op ≡ (if nat_lt p (l.p_last_use p) then vectors (op_code f.w l.registers p m op) else [])
      → Does l f d (puts (op_words f.w l p m op) rest) s rest (p + 1) (length (op_words f.w l p m op)) (ChunkComesTo f op) (column (act_of op) f.n f.i t)
  truth_runs op val kind makes operands does words =
      subst (λ ws. Does l f d (puts ws rest) s rest (p + 1) (length ws) (ChunkComesTo f op) (column (act_of op) f.n f.i t)) (sym words) (by (nat_lt p (l.p_last_use p)) refl)
    where
      cols : OwnColumn (λ j a. with_truth a p (val j a)) f.n f.i t None (column (act_of op) f.n f.i t)
      cols = pure_column op (λ j a. with_truth a p (val j a)) does

      truth_is : (e : ℕ) → new_truth c op p mask e ≡ val (f.i + e) (t.lane (f.i + e))
      truth_is e = ap (truth_after p) (does (f.i + e) t.memory (t.lane (f.i + e))) ∙ truth_same (t.lane (f.i + e)) p (val (f.i + e) (t.lane (f.i + e)))

      by : (b : Bool) → nat_lt p (l.p_last_use p) ≡ b → Does l f d (puts (if b then vectors (op_code f.w l.registers p m op) else []) rest) s rest (p + 1) (length (if b then vectors (op_code f.w l.registers p m op) else [])) (ChunkComesTo f op) (column (act_of op) f.n f.i t)
      by true used =
          let run = runs op operands in
          let made = subst (λ b. Makes b c l.registers s p m mask op) kind run.makes in
          pure_item_does_column (λ j a. with_truth a p (val j a)) made.end cols (do_goes (op_code f.w l.registers p m op) s made.end made.runs)
          (λ u mem here. truth_moves h fit (new_truth c op p mask) u made.end makes (ltb-true p (l.p_last_use p) used) mem (λ e lt. here e lt ∙ ap (with_truth (t.lane (f.i + e)) p) (sym (truth_is e))) made.is made.only
          (subst (λ v. PRight f.w (lanes v f.w) (p_at made.end (p_of l p)) (within f.n (new_truth c op p mask))) h.vl made.right))
      by false unused =
          let none : MakesNothing l p = (makes, ltb-false p (l.p_last_use p) unused) in
          pure_item_does_column (λ j a. with_truth a p (val j a)) s cols (stay 0)
          (λ u mem here. unused_moves h u none mem
          (λ q e lt el. ap (λ (a : Lane). a.value q) (here e el))
          (λ q e lt el. ap (λ (a : Lane). a.truth q) (here e el) ∙ truth_other (t.lane (f.i + e)) p q (val (f.i + e) (t.lane (f.i + e))) (λ eq. absurd (omega (arith, lt, eq)))) (λ e el. ap (λ (a : Lane). a.shares) (here e el)))
