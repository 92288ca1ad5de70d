-- The code after the loop leads to a state before an iteration of the scalar loop.
use Rattle.std.proofs.Common.{◌≡◌, ◌≢◌, ℕ, ℤ, true, List, [], ◌∷◌, ◌++◌, length, map, Option, Some, None, refl, sym, ap, ◌∙◌, subst, arith}
use Rattle.std.specs.Prelude.{is_some, unwrap_or}
use Rattle.std.specs.List.{list_any}
use Rattle.std.proofs.lemmas.Option.{slice_get_within}
use Rattle.guest_types.specs.Memory.{IsMemory}
use Rattle.kernel_tree.specs.declared.ops.Ty.TheVariants.{U64}
use Rattle.kernel_tree.specs.Plain.{Parameter, Accumulator, Program}
use Rattle.kernel_tree.specs.Typing.{Local, value_type, check_fault, var_scope}
use Rattle.kernel_tree.specs.Scopes.{locals_of, accs_of}
use Rattle.kernel_tree.proofs.Scopes.{var_visible}
use Rattle.kernel_meaning.specs.Operators.{word}
use Rattle.kernel_meaning.specs.TypeValues.{IsOf}
use Rattle.kernel_meaning.proofs.TypeRanges.{wrap-is_of}
use Rattle.kernel_meaning.specs.Eval.{Names, value_at}
use Rattle.kernel_meaning.specs.Ranges.{TypeRange, AreRanged}
use Rattle.machine_model.specs.Machine.{State, x_at, z_at}
use Rattle.reg_assign.specs.declared.interval.RegClass.TheVariants.{X, Z}
use Rattle.reg_assign.specs.Registers.{Assignment}
use Rattle.loop_form.specs.Needs.{throughout}
use Rattle.loop_form.specs.Registers.{FitsKernel}
use Rattle.vector_order.specs.Order.{is_var, Steady}
use Rattle.scalar_words.specs.Layout.{Homes}
use Rattle.scalar_words.specs.KernelRegisters.{kernel_homes, register_in}
use Rattle.scalar_words.specs.Iterations.{AreHeld}
use Rattle.lane_emit.specs.AccumulatorLanes.{LanesHold}
use Rattle.chunk_emit.specs.KernelLayout.{register_of, sum_place, update_of}
use Rattle.chunk_emit.specs.Head.{Ground, IsGround, Between, width, most_lanes}
use Rattle.reductions.specs.EdgeCode.{type_of_var}
use Rattle.reductions.specs.Edges.{FoldRuns}
use Rattle.reductions.proofs.FoldNames.{Distinct, unlike_right, var_name, param_name, visible_distinct, names_distinct, no_var, AreOwn, own_types}
use Rattle.reductions.proofs.FoldPlaces.{name_at, sum_is}
use Rattle.reductions.proofs.FoldHomes.{Settled, settled, AreLow, AreAtHome, AreValues, low_at, registers_apart, held_at, ranged_names, steady_names, accumulator_found, at_home, own_values, values_own}
use Rattle.reductions.proofs.FoldSteps.{home_of, Folding, all_folded}

-- ---- types of names

-- an accumulator among these names has the type of its declaration
abbrev AreTyped : Program → List Local → Type 0
AreTyped k [] = Unit {0}
AreTyped k (l ∷ ls) = (list_any (is_var l.name) k.vars ≡ true → value_type l.binding ≡ Some (type_of_var k l.name)) × AreTyped k ls

accs_typed : (k : Program) (vs : List Accumulator) → AreOwn k.vars vs → AreTyped k (accs_of vs)
accs_typed k [] h = tt
accs_typed k (v ∷ vs) h = ((λ is. ap (λ o. Some (unwrap_or o U64)) (sym h.0)), accs_typed k vs h.1)

params_typed : (k : Program) (ps : List Parameter) → Distinct (map param_name ps ++ map var_name k.vars) → AreTyped k (locals_of ps ++ accs_of k.vars)
params_typed k [] d = accs_typed k k.vars (own_types k.vars d)
params_typed k (p ∷ ps) d =
    ((λ is. let none = no_var p.name k.vars (unlike_right p.name (map param_name ps) (map var_name k.vars) d.0) in absurd cc), params_typed k ps d.1)

visible_typed : (k : Program) → check_fault k ≡ None → AreTyped k (var_scope k).visible
visible_typed k e = subst (AreTyped k) (sym (var_visible k)) (params_typed k k.params (names_distinct k e))

-- ---- names after the loop

module _ (g : Ground) (ok : IsGround g) (c : Assignment) (fit : FitsKernel g.kernel X c) (i : ℕ) (cur : Names) (sum : List ℕ → ℕ → ℤ) (b : Between g i cur sum) where
  abbrev k : Program
  k = g.kernel

  abbrev hs : Homes
  hs = kernel_homes (register_in c) g.kernel

  homes : Settled k hs
  homes = settled k c fit ok.few

  -- where no vector register has the value, it is that from before the loop
  name_is_no_sum : (x : List ℕ) → sum_place k x ≡ None → value_at cur x ≡ value_at g.names x
  name_is_no_sum x e = b.still x (ap is_some e)

  ranged_now : (ls : List Local) (ns cs : Names) → AreRanged ls ns → Steady k ns cs → AreTyped k ls → AreValues g.names ns → AreValues cur cs → AreRanged ls cs
  ranged_now [] [] [] r st t v w = tt
  ranged_now [] [] (m ∷ cs) r st t v w = absurd st
  ranged_now [] (n ∷ ns) cs r st t v w = absurd r
  ranged_now (l ∷ ls) [] cs r st t v w = absurd r
  ranged_now (l ∷ ls) (n ∷ ns) [] r st t v w = absurd st
  ranged_now (l ∷ ls) (n ∷ ns) (m ∷ cs) r st t v w =
      let name : m.name ≡ l.name = sym st.0 ∙ r.0 in
      (name, by (sum_place k l.name) refl, ranged_now ls ns cs r.2 st.2 t.1 v.1 w.1)
    where
      now : value_at cur l.name ≡ m.value
      now = ap (value_at cur) (sym r.0 ∙ st.0) ∙ w.0

      by : (o : Option ℕ) → sum_place k l.name ≡ o → TypeRange (value_type l.binding) m.value
      by None e = subst (TypeRange (value_type l.binding)) (sym v.0 ∙ ap (value_at g.names) r.0 ∙ sym (name_is_no_sum l.name e) ∙ now) r.1
      by (Some p) e =
          let so = b.sums l.name (ap is_some e) in
          subst (λ o. TypeRange o m.value) (sym (t.0 (sum_is k l.name p e).var))
          (subst (IsOf (type_of_var k l.name)) (sym so.now ∙ now) (wrap-is_of (type_of_var k l.name) _))

  module _ (s t : State) (f : Folding g c cur sum s (length (throughout k Z)) t) where
    -- each register has its name's value now
    held_now : (gs : Homes) (ns cs : Names) → AreHeld gs ns s → Steady k ns cs → AreAtHome hs gs → AreLow gs → AreValues g.names ns → AreValues cur cs → AreHeld gs cs t
    held_now [] [] [] h st a low v w = tt
    held_now [] [] (m ∷ cs) h st a low v w = absurd st
    held_now [] (n ∷ ns) cs h st a low v w = absurd h
    held_now (x ∷ gs) [] cs h st a low v w = absurd h
    held_now (x ∷ gs) (n ∷ ns) [] h st a low v w = absurd st
    held_now (x ∷ gs) (n ∷ ns) (m ∷ cs) h st a low v w =
        (sym st.0 ∙ h.0, by (sum_place k x.name) refl ∙ ap word now, held_now gs ns cs h.2 st.2 a.2 low.2 v.1 w.1)
      where
        now : value_at cur x.name ≡ m.value
        now = ap (value_at cur) (sym h.0 ∙ st.0) ∙ w.0

        other : (y : List ℕ) (p : ℕ) → sum_place k x.name ≡ None → sum_place k y ≡ Some p → x.register ≢ home_of g c y
        other y p e q same =
            registers_apart hs x.name y homes.spaced a.1 (accumulator_found (register_in c) k y (sum_is k y p q).var)
            (λ name. let both = sym e ∙ ap (sum_place k) name ∙ q in absurd cc) (a.0 ∙ same)

        by : (o : Option ℕ) → sum_place k x.name ≡ o → x_at t x.register ≡ word (value_at cur x.name)
        by None e =
            f.others x.register low.0 (λ y p q. other y p e q) ∙ h.1 ∙ ap word (sym v.0 ∙ ap (value_at g.names) h.0 ∙ sym (name_is_no_sum x.name e))
        by (Some p) e = ap (x_at t) (sym a.0) ∙ f.done x.name p e (slice_get_within (throughout k Z) p _ (name_at k x.name p e))

-- ---- the law

pub folds_at : FoldRuns
folds_at g c i cur m sum d rest s ok fit ranged held head =
    let k = g.kernel in
    let hs = kernel_homes (register_in c) k in
    let b = head.between in
    let first : Folding g c cur sum s 0 s = record {
      is = head.is;
      vl = head.vl;
      memory = refl;
      all = head.all;
      lanes' = λ x p e. subst (λ r. LanesHold (update_of k x) (type_of_var k x) (width g) (most_lanes g) (z_at s r) (sum x)) (ap (register_of 31 g.vectors) e) (head.lanes x (ap is_some e));
      done = λ x p e lt. absurd (omega (arith, lt));
      left = λ x p e le. held_at hs g.names x s held (accumulator_found (register_in c) k x (sum_is k x p e).var);
      others = λ r hi ne. refl;
    } in
    let r = all_folded g ok c fit i cur sum b s d s rest first in
    let h = settled k c fit ok.few in
    let home = at_home k hs g.names s ok.sound ranged held in
    let old = own_values k g.names ok.sound ranged in
    let new = values_own cur (subst Distinct (ranged_names (var_scope k).visible g.names ranged ∙ steady_names k g.names cur b.steady) (visible_distinct k ok.sound)) in
    let f = r.folding in
    record {
      end = r.end;
      goes = r.goes;
      at = record {
        sized = f.is.x_count;
        index = f.others 9 (omega arith) (λ x p e q. (low_at hs x h.low (accumulator_found (register_in c) k x (sum_is k x p e).var)).1 (sym q)) ∙ head.index;
        ranged = ranged_now g ok c fit i cur sum b (var_scope k).visible g.names cur ranged b.steady (visible_typed k ok.sound) old new;
        held = held_now g ok c fit i cur sum b s r.end f hs g.names cur held b.steady home h.low old new;
        memory = f.memory ∙ head.memory;
        good = subst IsMemory head.memory head.is.mapped;
      };
    }
