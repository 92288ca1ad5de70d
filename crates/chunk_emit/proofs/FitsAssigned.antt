-- The layout of a kernel's loop gives no register to two things that are needed at once.
use Rattle.std.proofs.Common.{◌≡◌, ◌≢◌, ℕ, zero, suc, ◌+◌, ◌<◌, Bool, true, false, cond, List, [], ◌∷◌, length, Option, Some, None, refl, sym, ap, ◌∙◌, arith}
use Rattle.std.specs.Prelude.{is_some, option_map, slice_get, slice_index, bytes_eq}
use Rattle.std.proofs.Math.Nat.{lt_of_not-le}
use Rattle.std.proofs.lemmas.Option.{slice_get_within, same_Some}
use Rattle.kernel_tree.specs.Plain.{Parameter, Program}
use Rattle.kernel_tree.specs.Items.{size_of, loop_index}
use Rattle.kernel_tree.proofs.Names.{bytes_eq-told, bytes_eq-refl}
use Rattle.reg_assign.specs.declared.interval.Interval.{Interval}
use Rattle.reg_assign.specs.declared.interval.RegClass.TheVariants.{Z, P}
use Rattle.reg_assign.specs.Registers.{Assignment}
use Rattle.loop_form.specs.declared.loop_item.Operand.{Operand}
use Rattle.loop_form.specs.declared.loop_item.Operand.TheVariants.{Constant, Outer, LoopIndex, Made}
use Rattle.loop_form.specs.Needs.{Throughout, scalar_of, throughout, intervals}
use Rattle.loop_form.specs.Registers.{FitsKernel}
use Rattle.loop_form.proofs.FewItems.{vars-small}
use Rattle.loop_form.proofs.IntervalLaws.{throughout-few}
use Rattle.loop_form.proofs.IntervalRegisters.{Chosen, chosen_of}
use Rattle.loop_form.proofs.PlaceLaws.{throughout-place}
use Rattle.chunk_emit.specs.KernelLayout.{register_of, item_place, item_last_use, throughout_of, is_same, next_place, place_in, place_of_one, held_place, sum_place, operand_register, layout_of_loop}
use Rattle.chunk_emit.specs.Fits.{Assigned}
use Rattle.chunk_emit.proofs.FitsOperands.{truth_less}
use Rattle.chunk_emit.proofs.FitsIntervals.{of_z, of_p, is_placed, placed_interval}
use Rattle.loop_form.specs.Needs as needs

-- ---- places in a list

-- the place of a value has the same one
pub record Stands (t : Throughout) (ts : List Throughout) (m : ℕ) : Type 0 where
  pub it : Throughout
  pub is : slice_get ts m ≡ Some it
  pub same : is_same it t ≡ true

pub stands : (t : Throughout) (ts : List Throughout) (m : ℕ) → place_in t ts ≡ Some m → Stands t ts m
stands t [] m e = absurd cc
stands t (u ∷ us) m e = by (is_same u t) refl e (λ i q. stands t us i q)
  where
    later : (o : Option ℕ) (m : ℕ) → next_place o ≡ Some m → ((i : ℕ) → o ≡ Some i → Stands t us i) → Stands t (u ∷ us) m
    later None m e more = absurd cc
    later (Some i) zero e more = absurd cc
    later (Some i) (suc m) e more = let same : i ≡ m = cc in let s = more m (ap Some same) in record { it = s.it; is = s.is; same = s.same }

    by : (b : Bool) → is_same u t ≡ b → cond b (Some 0) (next_place (place_in t us)) ≡ Some m → ((i : ℕ) → place_in t us ≡ Some i → Stands t us i) → Stands t (u ∷ us) m
    by true f e more = let same : 0 ≡ m = cc in record { it = u; is = ap (slice_get (u ∷ us)) (sym same); same = f }
    by false f e more = later (place_in t us) m e more

-- an operand's place is that of the value that is held for it
pub of_one : (ts : List Throughout) (o : Option Throughout) (m : ℕ) → place_of_one ts o ≡ Some m → (t : Throughout) × (o ≡ Some t) × (place_in t ts ≡ Some m)
of_one ts None m e = absurd cc
of_one ts (Some t) m e = (t, refl, e)

pub there : (o : Option ℕ) → is_some o ≡ true → (m : ℕ) × (o ≡ Some m)
there None e = absurd cc
there (Some m) e = (m, refl)

-- ---- what is held for an operand is no accumulator

abbrev is_accumulating : Throughout → Bool
is_accumulating (needs.Scalar x) = false
is_accumulating (needs.Constant t n) = false
is_accumulating needs.Index = false
is_accumulating (needs.Accumulating x) = true

abbrev is_accumulating_one : Option Throughout → Bool
is_accumulating_one None = false
is_accumulating_one (Some t) = is_accumulating t

operand_no_accumulator : (k : Program) (y : Operand) → is_accumulating_one (throughout_of k y) ≡ false
operand_no_accumulator k (Constant t n) = refl
operand_no_accumulator k (Outer p) = by (slice_get k.params p)
  where
    by : (o : Option Parameter) → is_accumulating_one (option_map scalar_of o) ≡ false
    by None = refl
    by (Some p) = refl
operand_no_accumulator k LoopIndex = refl
operand_no_accumulator k (Made q) = refl

both_accumulate : (it t : Throughout) (x : List ℕ) → is_same it t ≡ true → is_same it (needs.Accumulating x) ≡ true → is_accumulating t ≡ true
both_accumulate (needs.Accumulating y) (needs.Accumulating z) x e f = refl
both_accumulate (needs.Accumulating y) (needs.Scalar z) x e f = absurd cc
both_accumulate (needs.Accumulating y) (needs.Constant s n) x e f = absurd cc
both_accumulate (needs.Accumulating y) needs.Index x e f = absurd cc
both_accumulate (needs.Scalar y) t x e f = absurd cc
both_accumulate (needs.Constant s n) t x e f = absurd cc
both_accumulate needs.Index t x e f = absurd cc

same_name : (it : Throughout) (x y : List ℕ) → is_same it (needs.Accumulating x) ≡ true → is_same it (needs.Accumulating y) ≡ true → x ≡ y
same_name (needs.Accumulating z) x y e f = sym (bytes_eq-told z x e) ∙ bytes_eq-told z y f
same_name other x y e f = absurd cc

-- ---- the layout

module _ (k : Program) (a b : Assignment) (f : FitsKernel k Z a) (g : FitsKernel k P b) where
  abbrev chosen_z : Chosen k Z a
  chosen_z = chosen_of k Z a f

  abbrev chosen_p : Chosen k P b
  chosen_p = chosen_of k P b g

  abbrev all : List Throughout
  all = throughout k Z

  abbrev always : Interval
  always = record { from = 0; last_use = size_of k }

  -- a place among what is held throughout
  record HeldAt (o : Option ℕ) (t : Throughout) : Type 0 where
    m : ℕ
    place : o ≡ Some m
    it : Throughout
    is : slice_get all m ≡ Some it
    same : is_same it t ≡ true
    within : m < length all
    interval : slice_get (intervals k Z) m ≡ Some always

  held_at : (o : Option ℕ) (t : Throughout) (m : ℕ) → o ≡ Some m → place_in t all ≡ Some m → HeldAt o t
  held_at o t m e p =
      let s = stands t all m p in
      let w = slice_get_within all m s.it s.is in
      record { m = m; place = e; it = s.it; is = s.is; same = s.same; within = w; interval = throughout-place k Z m w }

  sum_at : (x : List ℕ) → is_some (sum_place k x) ≡ true → HeldAt (sum_place k x) (needs.Accumulating x)
  sum_at x e = let p = there (sum_place k x) e in held_at (sum_place k x) (needs.Accumulating x) p.0 p.1 p.1

  -- the value that is held for an operand
  record HeldFor (y : Operand) : Type 0 where
    value : Throughout
    for : throughout_of k y ≡ Some value
    held : HeldAt (held_place k y) value

  held_for : (y : Operand) → is_some (held_place k y) ≡ true → HeldFor y
  held_for y e =
      let p = there (held_place k y) e in
      let t = of_one all (throughout_of k y) p.0 p.1 in
      record { value = t.0; for = t.1; held = held_at (held_place k y) t.0 p.0 p.1 t.2 }

  operand_held : (y : Operand) → is_some (held_place k y) ≡ true → operand_register k a y ≡ register_of 31 a (held_place k y)
  operand_held (Constant t n) e = refl
  operand_held (Outer p) e = refl
  operand_held LoopIndex e = refl
  operand_held (Made q) e = absurd cc

  register_of_below_32 : (o : Option ℕ) → ((m : ℕ) → o ≡ Some m → slice_index a.registers m < 30) → register_of 31 a o < 32
  register_of_below_32 None h = omega arith
  register_of_below_32 (Some m) h = let l = h m refl in omega (arith, l)

  small_p : (o : Option ℕ) → ((m : ℕ) → o ≡ Some m → slice_index b.registers m < 6) → 2 + register_of 0 b o < 16
  small_p None h = omega arith
  small_p (Some m) h = let l = h m refl in omega (arith, l)

  item_small : (q : ℕ) → operand_register k a (Made q) < 32
  item_small q = register_of_below_32 (item_place k Z q) (λ m e. let i = placed_interval k Z q m e in chosen_z.below m i.0 i.1)

  condition_small : (q : ℕ) → 2 + register_of 0 b (item_place k P q) < 16
  condition_small q = small_p (item_place k P q) (λ m e. let i = placed_interval k P q m e in chosen_p.below m i.0 i.1)

  held_small : (o : Option ℕ) (t : Throughout) → HeldAt o t → register_of 31 a o < 32
  held_small o t h = let l = chosen_z.below h.m always h.interval in let e = ap (register_of 31 a) h.place in omega (arith, l, e)

  -- two items that are needed at once
  places_differ : {p q m n u v : ℕ} (is : List Interval) → q < p → slice_get is m ≡ Some (record { from = p; last_use = u }) → slice_get is n ≡ Some (record { from = q; last_use = v }) → m ≢ n
  places_differ {p = p} {q = q} is lt e f same = let both = same_Some _ _ (sym e ∙ ap (slice_get is) same ∙ f) in let begin : p ≡ q = ap (λ (s : Interval). s.from) both in omega (arith, begin, lt)

  items_apart : (p q : ℕ) → q < p → p < item_last_use k Z q → p < item_last_use k Z p → operand_register k a (Made p) ≢ operand_register k a (Made q)
  items_apart p q lt live used e =
      let x = is_placed k Z of_z p p used in
      let y = is_placed k Z of_z q p live in
      chosen_z.apart x.m y.m p _ _ (places_differ (intervals k Z) lt x.interval y.interval) x.interval y.interval (omega arith) used (omega (arith, lt)) live
      (sym (ap (register_of 31 a) x.place) ∙ e ∙ ap (register_of 31 a) y.place)

  conditions_apart : (p q : ℕ) → q < p → p < item_last_use k P q → p < item_last_use k P p → 2 + register_of 0 b (item_place k P p) ≢ 2 + register_of 0 b (item_place k P q)
  conditions_apart p q lt live used e =
      let x = is_placed k P of_p p p used in
      let y = is_placed k P of_p q p live in
      let same : register_of 0 b (item_place k P p) ≡ register_of 0 b (item_place k P q) = omega (arith, e) in
      chosen_p.apart x.m y.m p _ _ (places_differ (intervals k P) lt x.interval y.interval) x.interval y.interval (omega arith) used (omega (arith, lt)) live
      (sym (ap (register_of 0 b) x.place) ∙ same ∙ ap (register_of 0 b) y.place)

  -- an item, and what is held throughout
  item_apart : (o : Option ℕ) (t : Throughout) (q : ℕ) → HeldAt o t → q < item_last_use k Z q → operand_register k a (Made q) ≢ register_of 31 a o
  item_apart o t q h used e =
      let y = is_placed k Z of_z q q used in
      let following = y.following in
      let before = h.within in
      chosen_z.apart y.m h.m q _ always (λ same. omega (arith, same, following, before)) y.interval h.interval (omega arith) used (omega arith) y.within
      (sym (ap (register_of 31 a) y.place) ∙ e ∙ ap (register_of 31 a) h.place)

  -- two values that are held throughout
  helds_apart : (o r : Option ℕ) (t u : Throughout) (h : HeldAt o t) (g : HeldAt r u) → h.m ≢ g.m → register_of 31 a o ≢ register_of 31 a r
  helds_apart o r t u h g ne e =
      let x = h.within in
      let y = g.within in
      let most = throughout-few k Z in
      let vars = vars-small (loop_index k) k.vars in
      let some : 0 < size_of k = lt_of_not-le (λ none. ne (omega (arith, none, x, y, most, vars))) in
      chosen_z.apart h.m g.m 0 always always ne h.interval g.interval (omega arith) some (omega arith) some
      (sym (ap (register_of 31 a) h.place) ∙ e ∙ ap (register_of 31 a) g.place)

  it_same : (o r : Option ℕ) (t u : Throughout) (h : HeldAt o t) (g : HeldAt r u) → h.m ≡ g.m → is_same h.it u ≡ true
  it_same o r t u h g e = let both : g.it ≡ h.it = same_Some _ _ (sym g.is ∙ ap (slice_get all) (sym e) ∙ h.is) in sym (ap (λ i. is_same i u) both) ∙ g.same

  sum_apart_held : (x : List ℕ) (y : Operand) → is_some (sum_place k x) ≡ true → is_some (held_place k y) ≡ true → register_of 31 a (sum_place k x) ≢ operand_register k a y
  sum_apart_held x y e h same =
      let s = sum_at x e in
      let v = held_for y h in
      helds_apart (sum_place k x) (held_place k y) (needs.Accumulating x) v.value s v.held
      (λ one. let yes = both_accumulate s.it v.value x (it_same _ _ _ _ s v.held one) s.same in let no = sym (ap is_accumulating_one v.for) ∙ operand_no_accumulator k y in absurd cc)
      (same ∙ operand_held y h)

  sums_apart : (x y : List ℕ) → is_some (sum_place k x) ≡ true → is_some (sum_place k y) ≡ true → bytes_eq x y ≡ false → register_of 31 a (sum_place k x) ≢ register_of 31 a (sum_place k y)
  sums_apart x y e h differ =
      let s = sum_at x e in
      let v = sum_at y h in
      helds_apart (sum_place k x) (sum_place k y) (needs.Accumulating x) (needs.Accumulating y) s v
      (λ one. let name = same_name s.it x y s.same (it_same _ _ _ _ s v one) in let yes : bytes_eq x y ≡ true = ap (bytes_eq x) (sym name) ∙ bytes_eq-refl x in absurd cc)

  pub assigned_of : Assigned (layout_of_loop k a b)
  assigned_of = record {
    made = λ q. refl;
    z_small = item_small;
    p_small = condition_small;
    p_low = λ q used. omega arith;
    held_small = λ x e. let h = held_for x e in let l = held_small _ _ h.held in let same = operand_held x e in omega (arith, l, same);
    sum_small = λ x e. held_small _ _ (sum_at x e);
    z_apart = items_apart;
    p_apart = λ p q lt live used. let early = truth_less k q in let late = truth_less k p in conditions_apart p q lt (omega (arith, live, early)) (omega (arith, used, late));
    held_apart = λ x q e used same. let h = held_for x e in item_apart _ _ q h.held used (same ∙ operand_held x e);
    sum_apart = λ x q e used. item_apart _ _ q (sum_at x e) used;
    sum_made = λ x p q e lt live same. item_apart _ _ q (sum_at x e) (omega (arith, lt, live)) (sym same);
    sum_held = sum_apart_held;
    sums_apart = sums_apart;
  }
