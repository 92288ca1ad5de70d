-- What the code after the loop does, accumulator after accumulator.
use Rattle.std.proofs.Common.{◌≡◌, ◌≢◌, ℕ, suc, ◌+◌, ◌<◌, ◌≤◌, ℤ, Bool, true, false, List, [], ◌∷◌, length, Some, refl, sym, ap, ◌∙◌, subst, arith, ⊎_elim}
use Rattle.std.specs.Prelude.{is_some, slice_get, slice_index, slice_index_or}
use Rattle.std.proofs.lemmas.Bool.{cases_eq}
use Rattle.std.proofs.lemmas.Option.{slice_get_within}
use Rattle.guest_types.specs.Elements.{active}
use Rattle.guest_types.specs.Length.{lanes}
use Rattle.guest_types.specs.Lanes.{all_at}
use Rattle.kernel_tree.specs.Plain.{Program}
use Rattle.kernel_meaning.specs.Operators.{word}
use Rattle.kernel_meaning.specs.Eval.{Names, value_at}
use Rattle.machine_model.specs.Machine.{State, x_at, z_at, p_at}
use Rattle.machine_model.specs.States.{IsState}
use Rattle.reg_assign.specs.declared.interval.RegClass.TheVariants.{X, Z}
use Rattle.reg_assign.specs.Registers.{Assignment}
use Rattle.loop_form.specs.Needs.{Throughout, Scalar, Constant, Index, Accumulating, throughout}
use Rattle.loop_form.specs.Registers.{FitsKernel}
use Rattle.loop_form.proofs.IntervalRegisters.{chosen_of}
use Rattle.loop_form.proofs.PlaceLaws.{throughout-place}
use Rattle.label_fix.specs.DraftRun.{DraftEntry, Laid}
use Rattle.label_fix.specs.Stretches.{Goes}
use Rattle.label_fix.proofs.StretchSteps.{stay, chain}
use Rattle.lane_emit.specs.Right.{PRight}
use Rattle.lane_emit.specs.Stretch.{Ready}
use Rattle.lane_emit.specs.Joins.{joined}
use Rattle.lane_emit.specs.Folds.{together}
use Rattle.lane_emit.specs.AccumulatorLanes.{LanesHold}
use Rattle.scalar_words.specs.Layout.{register_at}
use Rattle.scalar_words.specs.KernelRegisters.{kernel_homes, register_in}
use Rattle.chunk_emit.specs.KernelLayout.{sum_place, update_of}
use Rattle.chunk_emit.specs.Head.{Ground, IsGround, Between, layout, width, most_lanes}
use Rattle.close_bound.specs.CloseBound.{joined_steps, joined_all}
use Rattle.reductions.specs.EdgeCode.{type_of_var, join_code, fold_one, folds_code}
use Rattle.reductions.proofs.FoldPlaces.{first_place, name_at, place_names, sum_is, sum_wide}
use Rattle.reductions.proofs.FoldHomes.{is_found, Settled, settled, low_at, registers_apart, accumulator_found}
use Rattle.reductions.proofs.FoldJoin.{Joined, join_runs}

-- the general register of a name
abbrev pub home_of : Ground → Assignment → List ℕ → ℕ
home_of g c x = register_at (kernel_homes (register_in c) g.kernel) x

-- The accumulators at places below j have their values now, and the others those of before the loop; no other general register
-- up to X25 has changed since the state s.
pub record Folding (g : Ground) (c : Assignment) (cur : Names) (sum : List ℕ → ℕ → ℤ) (s : State) (j : ℕ) (t : State) : Type 0 where
  pub is : IsState t
  pub vl : t.vl ≡ g.vl
  pub memory : t.memory ≡ s.memory
  pub all : PRight (width g) (most_lanes g) (p_at t 1) all_at
  pub lanes' : (x : List ℕ) (m : ℕ) → sum_place g.kernel x ≡ Some m → LanesHold (update_of g.kernel x) (type_of_var g.kernel x) (width g) (most_lanes g) (z_at t (slice_index g.vectors.registers m)) (sum x)
  pub done : (x : List ℕ) (m : ℕ) → sum_place g.kernel x ≡ Some m → m < j → x_at t (home_of g c x) ≡ word (value_at cur x)
  pub left : (x : List ℕ) (m : ℕ) → sum_place g.kernel x ≡ Some m → j ≤ m → x_at t (home_of g c x) ≡ word (value_at g.names x)
  pub others : (r : ℕ) → r ≤ 25 → ((x : List ℕ) (m : ℕ) → sum_place g.kernel x ≡ Some m → r ≢ home_of g c x) → x_at t r ≡ x_at s r

-- the code from place j on
pub record Folded (g : Ground) (c : Assignment) (cur : Names) (sum : List ℕ → ℕ → ℤ) (s : State) (D : Laid) (code : List DraftEntry) (t : State) (rest : List DraftEntry) (j most : ℕ) : Type 0 where
  pub end : State
  pub goes : Goes D code t rest end most
  pub folding : Folding g c cur sum s j end

place_same : {m n : ℕ} → Some m ≡ Some n → m ≡ n
place_same e = cc

module _ (g : Ground) (ok : IsGround g) (c : Assignment) (fit : FitsKernel g.kernel X c) (i : ℕ) (cur : Names) (sum : List ℕ → ℕ → ℤ) (b : Between g i cur sum) (s : State) (D : Laid) where
  abbrev k : Program
  k = g.kernel

  homes : Settled k (kernel_homes (register_in c) k)
  homes = settled k c fit ok.few

  sum_has_home : (x : List ℕ) (m : ℕ) → sum_place k x ≡ Some m → is_found x (kernel_homes (register_in c) k) ≡ true
  sum_has_home x m e = accumulator_found (register_in c) k x (sum_is k x m e).var

  updated : (x : List ℕ) (m : ℕ) → sum_place k x ≡ Some m → (layout g).updated x ≡ true
  updated x m e = ap is_some e

  -- the vector register of an accumulator is not Z31
  sum_register_is_not_31 : (x : List ℕ) (m : ℕ) → sum_place k x ≡ Some m → slice_index g.vectors.registers m ≢ 31
  sum_register_is_not_31 x m e =
      let lt = (chosen_of k Z g.vectors ok.z_fits).below m _ (throughout-place k Z m (slice_get_within (throughout k Z) m (Accumulating x) (name_at k x m e))) in
      λ f. absurd (omega (arith, lt, f))

  -- the registers of two accumulators
  homes_apart : (x y : List ℕ) (m j : ℕ) → sum_place k x ≡ Some m → sum_place k y ≡ Some j → m ≢ j → home_of g c x ≢ home_of g c y
  homes_apart x y m j e f ne =
      registers_apart (kernel_homes (register_in c) k) x y homes.spaced (sum_has_home x m e) (sum_has_home y j f) (λ q. ne (place_same (sym e ∙ ap (sum_place k) q ∙ f)))

  home_low : (x : List ℕ) (m : ℕ) → sum_place k x ≡ Some m → home_of g c x ≤ 25
  home_low x m e = (low_at (kernel_homes (register_in c) k) x homes.low (sum_has_home x m e)).0

  -- its code, at its place
  join_code_runs : (y : List ℕ) (j : ℕ) (t : State) (rest : List DraftEntry) → sum_place k y ≡ Some j → Folding g c cur sum s j t
      → Joined D (join_code (width g) (update_of k y) (type_of_var k y) (slice_index g.vectors.registers j) (home_of g c y) rest) t rest (home_of g c y) (value_at cur y) 6
  join_code_runs y j t rest p h =
      let so = b.sums y (updated y j p) in
      let w = width g in
      let z = slice_index g.vectors.registers j in
      let same : most_lanes g ≡ lanes t.vl w = ap (λ v. lanes v w) (sym h.vl) in
      let ready : Ready w (lanes t.vl w) t = record { is = h.is; few = omega arith; all = subst (λ q. PRight w q (p_at t 1) all_at) same h.all } in
      let q = join_runs D w (update_of k y) (type_of_var k y) z (home_of g c y) (value_at g.names y) (sum y) t rest ready (sum_wide k y j p)
      (subst (λ q. LanesHold (update_of k y) (type_of_var k y) w q (z_at t z) (sum y)) same (h.lanes' y j p)) (λ el lt. so.typed el (omega (arith, lt, same))) so.first (home_low y j p) (h.left y j p (omega arith)) in
      let now : joined (update_of k y) (type_of_var k y) (value_at g.names y) (together (update_of k y) (type_of_var k y) (lanes t.vl w) (sum y)) ≡ value_at cur y = ap (λ q. joined (update_of k y) (type_of_var k y) (value_at g.names y) (together (update_of k y) (type_of_var k y) q (sum y))) (sym same) ∙ sym so.now in
      subst (λ v. Joined D (join_code w (update_of k y) (type_of_var k y) z (home_of g c y) rest) t rest (home_of g c y) v 6) now q

  -- one accumulator
  join_one : (y : List ℕ) (j : ℕ) (t : State) (rest : List DraftEntry) → slice_get (throughout k Z) j ≡ Some (Accumulating y) → Folding g c cur sum s j t
      → Folded g c cur sum s D (fold_one (register_in c) k (slice_index g.vectors.registers j) (Accumulating y) rest) t rest (suc j) 6
  join_one y j t rest e h =
      let p = first_place k y j ok.sound e in
      let q = join_code_runs y j t rest p h in
      record {
        end = q.end;
        goes = q.goes;
        folding = record {
          is = q.is;
          vl = q.vl ∙ h.vl;
          memory = q.memory ∙ h.memory;
          all = λ el lt. ap (λ (ps : List (List ℕ)). active (width g) (slice_index_or ps 1 []) el) q.p ∙ h.all el lt;
          lanes' = λ x m f. subst (λ r. LanesHold (update_of k x) (type_of_var k x) (width g) (most_lanes g) r (sum x)) (sym (q.z (slice_index g.vectors.registers m) (sum_register_is_not_31 x m f))) (h.lanes' x m f);
          done = λ x m f lt. ⊎_elim
              (λ eq. let name = place_names k x y j (f ∙ ap Some eq) e in subst (λ z. x_at q.end (home_of g c z) ≡ word (value_at cur z)) (sym name) q.value)
              (λ ne. q.others (home_of g c x) (home_low x m f) (homes_apart x y m j f p ne) ∙ h.done x m f (before lt ne))
              (cases_eq m j);
          left = λ x m f le. q.others (home_of g c x) (home_low x m f) (homes_apart x y m j f p (λ eq. absurd (omega (arith, eq, le)))) ∙ h.left x m f (omega (arith, le));
          others = λ r hi ne. q.others r hi (ne y j p) ∙ h.others r hi ne;
        };
      }
    where
      before : {m : ℕ} → m < suc j → m ≢ j → m < j
      before lt ne = omega (arith, lt, ne)

  abbrev is_sum : Throughout → Bool
  is_sum (Scalar x) = false
  is_sum (Constant t n) = false
  is_sum Index = false
  is_sum (Accumulating x) = true

  -- nothing, where no accumulator stands
  skip_one : (u : Throughout) (j : ℕ) (t : State) → slice_get (throughout k Z) j ≡ Some u → is_sum u ≡ false → Folding g c cur sum s j t → Folding g c cur sum s (suc j) t
  skip_one u j t e none h = record {
    is = h.is;
    vl = h.vl;
    memory = h.memory;
    all = h.all;
    lanes' = h.lanes';
    done = λ x m f lt. h.done x m f (let ne = other x m f in omega (arith, lt, ne));
    left = λ x m f le. h.left x m f (omega (arith, le));
    others = h.others;
  }
    where
      sum_only : (x : List ℕ) → Some u ≡ Some (Accumulating x) → ⊥
      sum_only x q = let same : u ≡ Accumulating x = cc in let yes = sym none ∙ ap is_sum same in absurd cc

      other : (x : List ℕ) (m : ℕ) → sum_place k x ≡ Some m → m ≢ j
      other x m f q = sum_only x (sym e ∙ ap (slice_get (throughout k Z)) (sym q) ∙ name_at k x m f)

  fold_one_runs : (u : Throughout) (j : ℕ) (t : State) (rest : List DraftEntry) → slice_get (throughout k Z) j ≡ Some u → Folding g c cur sum s j t → Folded g c cur sum s D (fold_one (register_in c) k (slice_index g.vectors.registers j) u rest) t rest (suc j) (joined_steps u)
  fold_one_runs (Accumulating y) j t rest e h = join_one y j t rest e h
  fold_one_runs (Scalar x) j t rest e h = record { end = t; goes = stay 0; folding = skip_one (Scalar x) j t e refl h }
  fold_one_runs (Constant v n) j t rest e h = record { end = t; goes = stay 0; folding = skip_one (Constant v n) j t e refl h }
  fold_one_runs Index j t rest e h = record { end = t; goes = stay 0; folding = skip_one Index j t e refl h }

  -- the accumulators from place j on
  folds_run : (us : List Throughout) (j : ℕ) (t : State) (rest : List DraftEntry) → ((m : ℕ) → slice_get (throughout k Z) (j + m) ≡ slice_get us m) → Folding g c cur sum s j t
      → Folded g c cur sum s D (folds_code (register_in c) k g.vectors j us rest) t rest (j + length us) (joined_all us)
  folds_run [] j t rest at h = let e : j ≡ j + 0 = omega arith in record { end = t; goes = stay 0; folding = subst (λ m. Folding g c cur sum s m t) e h }
  folds_run (u ∷ us) j t rest at h =
      let here : j ≡ j + 0 = omega arith in
      let a = fold_one_runs u j t (folds_code (register_in c) k g.vectors (suc j) us rest) (ap (slice_get (throughout k Z)) here ∙ at 0) h in
      let r = folds_run us (suc j) a.end rest (λ m. let next : suc j + m ≡ j + suc m = omega arith in ap (slice_get (throughout k Z)) next ∙ at (suc m)) a.folding in
      let e : suc j + length us ≡ j + suc (length us) = omega arith in
      record {
        end = r.end;
        goes = chain (joined_all (u ∷ us)) (omega arith) a.goes r.goes;
        folding = subst (λ m. Folding g c cur sum s m r.end) e r.folding;
      }

  -- all of them
  pub all_folded : (t : State) (rest : List DraftEntry) → Folding g c cur sum s 0 t → Folded g c cur sum s D (folds_code (register_in c) k g.vectors 0 (throughout k Z) rest) t rest (length (throughout k Z)) (joined_all (throughout k Z))
  all_folded t rest h =
      let r = folds_run (throughout k Z) 0 t rest (λ m. let e : 0 + m ≡ m = omega arith in ap (slice_get (throughout k Z)) e) h in
      let e : 0 + length (throughout k Z) ≡ length (throughout k Z) = omega arith in
      record { end = r.end; goes = r.goes; folding = subst (λ m. Folding g c cur sum s m r.end) e r.folding }
