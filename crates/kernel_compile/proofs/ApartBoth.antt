-- Arrays that lie apart by the parameters that a loop uses lie apart by its accesses.
use Rattle.std.proofs.Common.{◌≡◌, ◌≢◌, ℕ, zero, suc, ◌+◌, ◌≤◌, Bool, true, false, cond, List, [], ◌∷◌, ◌++◌, length, map, Option, Some, None, refl, sym, ap, ap₂, ◌∙◌, subst, arith, inl, inr, ⊎_elim}
use Rattle.std.specs.Prelude.{ℤ, pos, ◌+ℤ◌, ◌*ℤ◌, ◌≤ℤ◌, ◌<ℤ◌, ◌⊎◌, ◌&&◌, ◌||◌, slice_index, drop, filter, max, if◌then◌else◌}
use Rattle.std.specs.List.{fold, list_any, list_all}
use Rattle.std.specs.Int.{int_min, int_max}
use Rattle.std.proofs.lemmas.Bool.{eqb-true, eq-eqb, and_parts}
use Rattle.std.proofs.lemmas.Int.{ints, clamps}
use Rattle.guest_types.specs.declared.length.Width.{Width}
use Rattle.guest_types.specs.declared.length.Width.TheVariants.{B}
use Rattle.guest_types.specs.Length.{width_bytes}
use Rattle.kernel_tree.specs.declared.ops.Ty.{Ty}
use Rattle.kernel_tree.specs.declared.ast.Shape.{Shape}
use Rattle.kernel_tree.specs.Plain.{Parameter, PlainLoop, Program}
use Rattle.kernel_tree.specs.Typing.{element_type, binding_of_shape}
use Rattle.kernel_meaning.specs.ScalarRun.{argument_names, argument, bound_of}
use Rattle.loop_form.specs.declared.stream.Stream.{Stream}
use Rattle.loop_form.specs.declared.reach.Reach.{Reach}
use Rattle.loop_form.specs.Reaches.{reaches_of}
use Rattle.loop_form.specs.Lanes.{type_width}
use Rattle.loop_form.specs.Streams.{streams_of, is_of, offsets_of, least_offset, greatest_offset, type_of_place, In}
use Rattle.loop_form.proofs.StreamLaws.{in_any}
use Rattle.dependence.specs.declared.used.Extent.TheVariants as extent
use Rattle.dependence.specs.declared.used.Used.{Used}
use Rattle.dependence.specs.Apart.{is_stored, used_by, is_reach_of, most_reach, greatest_reach, with_reach, used_at, used_from, used_of, highest, bound_place, base_in, begin_in, end_in, IsBased, AreBased, PairApart, IsApartFrom, AreApart, is_store}
use Rattle.vector_order.specs.Operands.{nth_value}
use Rattle.vector_order.specs.Apart.{is_store_of, one_array, size_of_type, place_size, base_of, begin_of, end_of, Within, IsBase, Among, Reached, OneUsed, Separate, StreamsApartBy, StreamsApart}
use Rattle.kernel_compile.proofs.ArrayStreams.{IsTyped, IsReadTyped}
use Rattle.kernel_tree.specs.declared.ops.Ty.TheVariants as ty
use Rattle.kernel_tree.specs.declared.ast.Shape.TheVariants as shape
use Rattle.kernel_tree.specs.Wrap.{byte_count}
use Rattle.dependence.specs.Apart as by_use
use Rattle.overlap_guard.proofs.CheckedKernels.{le_z_trans}

-- ---- a parameter that is used is found

-- what is known of the parameter at a place, an array, by the accesses
abbrev used_for : ℕ → Ty → List Stream → Used
used_for p t ss = record { place = p; width = type_width t; least = least_offset (offsets_of p ss); extent = extent.Streams (greatest_offset (offsets_of p ss)); stored = list_any (is_store_of p) ss }

abbrev IsIn : Used → List Used → Type 0
IsIn u [] = ⊥
IsIn u (v ∷ vs) = (v ≡ u) ⊎ IsIn u vs

in_left : (u : Used) (us vs : List Used) → IsIn u us → IsIn u (us ++ vs)
in_left u [] vs h = elim h [ ]
in_left u (v ∷ us) vs (inl e) = inl e
in_left u (v ∷ us) vs (inr h) = inr (in_left u us vs h)

in_right : (u : Used) (us vs : List Used) → IsIn u vs → IsIn u (us ++ vs)
in_right u [] vs h = h
in_right u (v ∷ us) vs h = inr (in_right u us vs h)

abbrev offset_of : Stream → ℤ
offset_of s = s.offset

offsets_filtered : (p : ℕ) (ss : List Stream) → offsets_of p ss ≡ map offset_of (filter (is_of p) ss)
offsets_filtered p [] = refl
offsets_filtered p (s ∷ ss) = by (is_of p s) (offsets_filtered p ss)
  where
    by : (b : Bool) → offsets_of p ss ≡ map offset_of (filter (is_of p) ss) → (if b then s.offset ∷ offsets_of p ss else offsets_of p ss) ≡ map offset_of (cond b (s ∷ filter (is_of p) ss) (filter (is_of p) ss))
    by true h = ap (λ cs. s.offset ∷ cs) h
    by false h = h

stored_filtered : (p : ℕ) (ss : List Stream) → list_any (is_store_of p) ss ≡ list_any by_use.is_store (filter (is_of p) ss)
stored_filtered p [] = refl
stored_filtered p (s ∷ ss) = by (is_of p s) s.store (stored_filtered p ss)
  where
    by : (b c : Bool) → list_any (is_store_of p) ss ≡ list_any by_use.is_store (filter (is_of p) ss) → (b && c) || list_any (is_store_of p) ss ≡ list_any by_use.is_store (cond b (record s { store = c } ∷ filter (is_of p) ss) (filter (is_of p) ss))
    by true c h = ap (λ b. c || b) h
    by false c h = h

some_filtered : (p : ℕ) (ss : List Stream) → list_any (is_of p) ss ≡ true → filter (is_of p) ss ≡ [] → ⊥
some_filtered p [] e f = cc
some_filtered p (s ∷ ss) e f = by (is_of p s) e f (some_filtered p ss)
  where
    by : (b : Bool) → b || list_any (is_of p) ss ≡ true → cond b (s ∷ filter (is_of p) ss) (filter (is_of p) ss) ≡ [] → (list_any (is_of p) ss ≡ true → filter (is_of p) ss ≡ [] → ⊥) → ⊥
    by true e f h = cc
    by false e f h = h e f

least_same : (c : ℤ) (ss : List Stream) → fold int_min c (map offset_of ss) ≡ by_use.least_of c ss
unfolding by_use.least_of
least_same c [] = refl
least_same c (s ∷ ss) = least_same (int_min c s.offset) ss

greatest_same : (c : ℤ) (ss : List Stream) → fold int_max c (map offset_of ss) ≡ by_use.greatest_of c ss
unfolding by_use.greatest_of
greatest_same c [] = refl
greatest_same c (s ∷ ss) = greatest_same (int_max c s.offset) ss

used_alone : (p : ℕ) (t : Ty) (ss : List Stream) → list_any (is_of p) ss ≡ true → used_by p (type_width t) (filter (is_of p) ss) ≡ used_for p t ss ∷ []
used_alone p t ss some = by (filter (is_of p) ss) (some_filtered p ss some) (offsets_filtered p ss) (stored_filtered p ss)
  where
    by : (fs : List Stream) → (fs ≡ [] → ⊥) → offsets_of p ss ≡ map offset_of fs → list_any (is_store_of p) ss ≡ list_any by_use.is_store fs → used_by p (type_width t) fs ≡ used_for p t ss ∷ []
    by [] ne o st = absurd (ne refl)
    by (s ∷ fs) ne o st =
        let low : least_offset (offsets_of p ss) ≡ by_use.least_of s.offset fs = ap least_offset o ∙ least_same s.offset fs in
        let high : greatest_offset (offsets_of p ss) ≡ by_use.greatest_of s.offset fs = ap greatest_offset o ∙ greatest_same s.offset fs in
        ap (λ (c : ℤ). record { place = p; width = type_width t; least = c; extent = extent.Streams (by_use.greatest_of s.offset fs); stored = list_any by_use.is_store (s ∷ fs) } ∷ []) (sym low)
        ∙ ap (λ (c : ℤ). record { place = p; width = type_width t; least = least_offset (offsets_of p ss); extent = extent.Streams (c); stored = list_any by_use.is_store (s ∷ fs) } ∷ []) (sym high)
        ∙ ap (λ (b : Bool). record { place = p; width = type_width t; least = least_offset (offsets_of p ss); extent = extent.Streams (greatest_offset (offsets_of p ss)); stored = b } ∷ []) (sym st)

none_filtered : (p : ℕ) (ss : List Stream) → list_any (is_of p) ss ≡ false → filter (is_of p) ss ≡ []
none_filtered p [] e = refl
none_filtered p (s ∷ ss) e = by (is_of p s) e (none_filtered p ss)
  where
    by : (b : Bool) → b || list_any (is_of p) ss ≡ false → (list_any (is_of p) ss ≡ false → filter (is_of p) ss ≡ []) → cond b (s ∷ filter (is_of p) ss) (filter (is_of p) ss) ≡ []
    by true e h = absurd cc
    by false e h = h e

-- ---- reads at computed indexes

-- some read is of the parameter at a place
abbrev Reads : List Reach → ℕ → Type 0
Reads rs p = (r : Reach) × (Among r rs) × (r.param ≡ p)

reach-first : (m : ℕ) (rs : List Reach) → m ≤ most_reach m rs
unfolding most_reach
reach-first m [] = omega arith
reach-first m (r ∷ rs) = let h : max m r.reach ≤ most_reach (max m r.reach) rs = reach-first (max m r.reach) rs in omega (arith, clamps, h)

reach-each : (m : ℕ) (rs : List Reach) (r : Reach) → Among r rs → r.reach ≤ most_reach m rs
unfolding most_reach
reach-each m [] r i = elim i [ ]
reach-each m (t ∷ rs) r (inl e) =
    let h : max m t.reach ≤ most_reach (max m t.reach) rs = reach-first (max m t.reach) rs in
    let same : t.reach ≡ r.reach = ap (λ (x : Reach). x.reach) e in
    omega (arith, clamps, h, same)
reach-each m (t ∷ rs) r (inr i) = reach-each (max m t.reach) rs r i

among_filtered : (p : ℕ) (rs : List Reach) (r : Reach) → Among r rs → is_reach_of p r ≡ true → Among r (filter (is_reach_of p) rs)
among_filtered p [] r i e = elim i [ ]
among_filtered p (t ∷ rs) r (inl same) e = by (is_reach_of p t) (ap (is_reach_of p) same ∙ e)
  where
    by : (b : Bool) → b ≡ true → Among r (cond b (t ∷ filter (is_reach_of p) rs) (filter (is_reach_of p) rs))
    by true h = inl same
    by false h = absurd cc
among_filtered p (t ∷ rs) r (inr i) e = by (is_reach_of p t) (among_filtered p rs r i e)
  where
    by : (b : Bool) → Among r (filter (is_reach_of p) rs) → Among r (cond b (t ∷ filter (is_reach_of p) rs) (filter (is_reach_of p) rs))
    by true h = inr h
    by false h = h

reach_there : (p : ℕ) (rs : List Reach) (r : Reach) → Among r rs → r.param ≡ p → Among r (filter (is_reach_of p) rs)
reach_there p rs r i e = among_filtered p rs r i (eq-eqb r.param p e)

within_greatest : (fs : List Reach) (m : ℕ) (r : Reach) → greatest_reach fs ≡ Some m → Among r fs → r.reach ≤ m
within_greatest [] m r e i = elim i [ ]
within_greatest (x ∷ xs) m r e (inl same) =
    let is : most_reach x.reach xs ≡ m = cc in
    let h : x.reach ≤ most_reach x.reach xs = reach-first x.reach xs in
    let own : x.reach ≡ r.reach = ap (λ (y : Reach). y.reach) same in
    omega (arith, h, own, is)
within_greatest (x ∷ xs) m r e (inr i) =
    let is : most_reach x.reach xs ≡ m = cc in
    let h : r.reach ≤ most_reach x.reach xs = reach-each x.reach xs r i in
    omega (arith, h, is)

none_reads : (fs : List Reach) (r : Reach) → greatest_reach fs ≡ None → Among r fs → ⊥
none_reads [] r e i = i
none_reads (x ∷ xs) r e i = absurd cc

-- ---- a parameter that is used is among those that are

-- what is known of the parameter at a place, an array, takes in what its accesses and reads come to in n iterations
record Covers (n p : ℕ) (t : Ty) (ss : List Stream) (rs : List Reach) (u : Used) : Type 0 where
  place : u.place ≡ p
  width : u.width ≡ type_width t
  stored : list_any (is_store_of p) ss ≡ true → u.stored ≡ true
  low : list_any (is_of p) ss ≡ true → u.least ≤ℤ least_offset (offsets_of p ss)
  high : list_any (is_of p) ss ≡ true → (pos n +ℤ greatest_offset (offsets_of p ss)) ≤ℤ highest n u.extent
  zeroed : (r : Reach) → Among r rs → r.param ≡ p → u.least ≤ℤ pos 0
  far : (r : Reach) → Among r rs → r.param ≡ p → pos r.reach ≤ℤ highest n u.extent

abbrev Uses : ℕ → List Stream → List Reach → Type 0
Uses p ss rs = (list_any (is_of p) ss ≡ true) ⊎ Reads rs p

abbrev Covered : (n p : ℕ) → Ty → List Stream → List Reach → List Used → Type 0
Covered n p t ss rs us = (u : Used) × (IsIn u us) × (Covers n p t ss rs u)

least_both : (a : ℤ) → (int_min a (pos 0) ≤ℤ a) × (int_min a (pos 0) ≤ℤ pos 0)
least_both a = (omega (arith, ints, clamps), omega (arith, ints, clamps))

most_both : (a : ℤ) (m : ℕ) → (a ≤ℤ int_max a (pos m)) × (pos m ≤ℤ int_max a (pos m))
most_both a m = (omega (arith, ints, clamps), omega (arith, ints, clamps))

le_refl : (a : ℤ) → a ≤ℤ a
le_refl a = omega (arith, ints)

lt_le : (a b c : ℤ) → a <ℤ b → b ≤ℤ c → a <ℤ c
lt_le a b c h j = omega (arith, ints, h, j)

pos_le : (a b : ℕ) → a ≤ b → pos a ≤ℤ pos b
pos_le a b h = omega (arith, ints, h)

module _ (n p : ℕ) (t : Ty) (ss : List Stream) (rs : List Reach) where
  with_streams : list_any (is_of p) ss ≡ true → (o : Option ℕ) → greatest_reach (filter (is_reach_of p) rs) ≡ o → Covered n p t ss rs (with_reach p (type_width t) o (used_for p t ss ∷ []))
  with_streams some None none = (
    used_for p t ss,
    inl refl,
    record {
      place = refl;
      width = refl;
      stored = λ h. h;
      low = λ h. le_refl (least_offset (offsets_of p ss));
      high = λ h. le_refl (pos n +ℤ greatest_offset (offsets_of p ss));
      zeroed = λ r i e. absurd (none_reads (filter (is_reach_of p) rs) r none (reach_there p rs r i e));
      far = λ r i e. absurd (none_reads (filter (is_reach_of p) rs) r none (reach_there p rs r i e));
    },
  )
  with_streams some (Some m) is = (
    record { place = p; width = type_width t; least = int_min (least_offset (offsets_of p ss)) (pos 0); extent = extent.Both (greatest_offset (offsets_of p ss)) m; stored = list_any (is_store_of p) ss },
    inl refl,
    record {
      place = refl;
      width = refl;
      stored = λ h. h;
      low = λ h. (least_both (least_offset (offsets_of p ss))).0;
      high = λ h. (most_both (pos n +ℤ greatest_offset (offsets_of p ss)) m).0;
      zeroed = λ r i e. (least_both (least_offset (offsets_of p ss))).1;
      far = λ r i e. le_z_trans (pos r.reach) (pos m) _ (pos_le r.reach m (within_greatest (filter (is_reach_of p) rs) m r is (reach_there p rs r i e))) (most_both (pos n +ℤ greatest_offset (offsets_of p ss)) m).1;
    },
  )

  without_streams : list_any (is_of p) ss ≡ false → Reads rs p → (o : Option ℕ) → greatest_reach (filter (is_reach_of p) rs) ≡ o → Covered n p t ss rs (with_reach p (type_width t) o [])
  without_streams none reads None nil = absurd (none_reads (filter (is_reach_of p) rs) reads.0 nil (reach_there p rs reads.0 reads.1 reads.2))
  without_streams none reads (Some m) is = (
    record { place = p; width = type_width t; least = pos 0; extent = extent.Computed m; stored = false },
    inl refl,
    record {
      place = refl;
      width = refl;
      stored = λ h. let no : false ≡ true = sym (stored_filtered p ss ∙ ap (list_any by_use.is_store) (none_filtered p ss none)) ∙ h in absurd cc;
      low = λ h. absurd cc;
      high = λ h. absurd cc;
      zeroed = λ r i e. le_refl (pos 0);
      far = λ r i e. pos_le r.reach m (within_greatest (filter (is_reach_of p) rs) m r is (reach_there p rs r i e));
    },
  )

  covered_by : Uses p ss rs → Covered n p t ss rs (with_reach p (type_width t) (greatest_reach (filter (is_reach_of p) rs)) (used_by p (type_width t) (filter (is_of p) ss)))
  covered_by uses = by (list_any (is_of p) ss) refl uses
    where
      by : (b : Bool) → list_any (is_of p) ss ≡ b → Uses p ss rs → Covered n p t ss rs (with_reach p (type_width t) (greatest_reach (filter (is_reach_of p) rs)) (used_by p (type_width t) (filter (is_of p) ss)))
      by true e h = subst (λ us. Covered n p t ss rs (with_reach p (type_width t) (greatest_reach (filter (is_reach_of p) rs)) us)) (sym (used_alone p t ss e)) (with_streams e (greatest_reach (filter (is_reach_of p) rs)) refl)
      by false e (inl some) = absurd cc
      by false e (inr reads) = subst (λ fs. Covered n p t ss rs (with_reach p (type_width t) (greatest_reach (filter (is_reach_of p) rs)) (used_by p (type_width t) fs))) (sym (none_filtered p ss e)) (without_streams e reads (greatest_reach (filter (is_reach_of p) rs)) refl)

covered_at : (n p : ℕ) (ss : List Stream) (rs : List Reach) (h : Shape) (t : Ty) → element_type (binding_of_shape h) ≡ Some t → Uses p ss rs → Covered n p t ss rs (used_at ss rs p h)
covered_at n p ss rs (shape.Scalar u) t e uses = absurd cc
covered_at n p ss rs (shape.Array u) t e uses =
    let same : t ≡ u = cc in
    subst (λ v. Covered n p t ss rs (used_at ss rs p (shape.Array v))) same (covered_by n p t ss rs uses)

covered_left : (n p : ℕ) (t : Ty) (ss : List Stream) (rs : List Reach) (us vs : List Used) → Covered n p t ss rs us → Covered n p t ss rs (us ++ vs)
covered_left n p t ss rs us vs h = (h.0, in_left h.0 us vs h.1, h.2)

covered_right : (n p : ℕ) (t : Ty) (ss : List Stream) (rs : List Reach) (us vs : List Used) → Covered n p t ss rs vs → Covered n p t ss rs (us ++ vs)
covered_right n p t ss rs us vs h = (h.0, in_right h.0 us vs h.1, h.2)

covered_from : (n : ℕ) (ss : List Stream) (rs : List Reach) (i : ℕ) (ps : List Parameter) (j p : ℕ) (t : Ty) → type_of_place ps j ≡ Some t → p ≡ i + j → Uses p ss rs → Covered n p t ss rs (used_from ss rs i ps)
unfolding used_from
covered_from n ss rs i [] j p t e at uses = absurd cc
covered_from n ss rs i (q ∷ ps) zero p t e at uses =
    let here : p ≡ i = omega (arith, at) in
    covered_left n p t ss rs (used_at ss rs i q.shape) (used_from ss rs (i + 1) ps) (subst (λ r. Covered n p t ss rs (used_at ss rs r q.shape)) here (covered_at n p ss rs q.shape t e uses))
covered_from n ss rs i (q ∷ ps) (suc j) p t e at uses = covered_right n p t ss rs (used_at ss rs i q.shape) (used_from ss rs (i + 1) ps) (covered_from n ss rs (i + 1) ps j p t e (omega (arith, at)) uses)

-- ---- tests of lists

any_in : (test : Stream → Bool) (ss : List Stream) → list_any test ss ≡ true → (s : Stream) × (In s ss) × (test s ≡ true)
any_in test [] e = absurd cc
any_in test (s ∷ ss) e = by (test s) refl e (any_in test ss)
  where
    by : (b : Bool) → test s ≡ b → b || list_any test ss ≡ true → (list_any test ss ≡ true → (x : Stream) × (In x ss) × (test x ≡ true)) → (x : Stream) × (In x (s ∷ ss)) × (test x ≡ true)
    by true f e h = (s, inl refl, f)
    by false f e h = let r = h e in (r.0, inr r.1, r.2)

all_in : (test : Stream → Bool) (ss : List Stream) → ((s : Stream) → In s ss → test s ≡ true) → list_all test ss ≡ true
all_in test [] h = refl
all_in test (s ∷ ss) h = ap (λ b. b && list_all test ss) (h s (inl refl)) ∙ all_in test ss (λ t i. h t (inr i))

used_any : (u : Used) (us : List Used) → IsIn u us → u.stored ≡ true → list_any is_stored us ≡ true
used_any u [] h e = elim h [ ]
used_any u (v ∷ us) (inl same) e = ap (λ b. b || list_any is_stored us) (ap is_stored same ∙ e)
used_any u (v ∷ us) (inr h) e = by v.stored (used_any u us h e)
  where
    by : (b : Bool) → list_any is_stored us ≡ true → b || list_any is_stored us ≡ true
    by true h = refl
    by false h = h

none_in : (us : List Used) (u : Used) → length us ≤ 0 → IsIn u us → ⊥
none_in [] u h i = i
none_in (v ∷ us) u h i = absurd (omega (arith, h))

one_in : (us : List Used) (u v : Used) → length us ≤ 1 → IsIn u us → IsIn v us → u ≡ v
one_in [] u v h i j = elim i [ ]
one_in (w ∷ us) u v h (inl a) (inl b) = sym a ∙ b
one_in (w ∷ us) u v h (inl a) (inr j) = absurd (none_in us v (omega (arith, h)) j)
one_in (w ∷ us) u v h (inr i) j = absurd (none_in us u (omega (arith, h)) i)

based_in : (args : List ℕ) (us : List Used) (u : Used) → AreBased args us → IsIn u us → IsBased (base_in args u)
based_in args [] u h i = elim i [ ]
based_in args (v ∷ us) u h (inl e) = subst (λ w. IsBased (base_in args w)) e h.0
based_in args (v ∷ us) u h (inr i) = based_in args us u h.1 i

from_in : (args : List ℕ) (n : ℕ) (u : Used) (vs : List Used) (v : Used) → IsApartFrom args n u vs → IsIn v vs → PairApart args n u v
from_in args n u [] v h i = elim i [ ]
from_in args n u (w ∷ vs) v h (inl e) = subst (λ x. PairApart args n u x) e h.0
from_in args n u (w ∷ vs) v h (inr i) = from_in args n u vs v h.1 i

pair_in : (args : List ℕ) (n : ℕ) (us : List Used) (u v : Used) → u.place ≢ v.place → AreApart args n us → IsIn u us → IsIn v us → PairApart args n u v ⊎ PairApart args n v u
pair_in args n [] u v ne h i j = elim i [ ]
pair_in args n (w ∷ us) u v ne h (inl a) (inl b) = absurd (ne (ap (λ (x : Used). x.place) (sym a ∙ b)))
pair_in args n (w ∷ us) u v ne h (inl a) (inr j) = inl (subst (λ x. PairApart args n x v) a (from_in args n w us v h.0 j))
pair_in args n (w ∷ us) u v ne h (inr i) (inl b) = inr (subst (λ x. PairApart args n x u) b (from_in args n w us u h.0 i))
pair_in args n (w ∷ us) u v ne h (inr i) (inr j) = pair_in args n us u v ne h.1 i j

-- ---- bases, and the ends of intervals

pub dropped : (args : List ℕ) (p : ℕ) → slice_index (drop 1 args) p ≡ slice_index args (suc p)
dropped [] p = refl
dropped (a ∷ args) p = refl

array_value : (h : Shape) (n : ℕ) (t : Ty) → element_type (binding_of_shape h) ≡ Some t → argument h n ≡ pos n
array_value (shape.Scalar u) n t e = absurd cc
array_value (shape.Array u) n t e = refl

-- an array's value is its argument
pub base_given : (ps : List Parameter) (args : List ℕ) (p : ℕ) (t : Ty) → type_of_place ps p ≡ Some t → nth_value (argument_names ps args) p ≡ pos (slice_index args p)
base_given [] args p t e = absurd cc
base_given (q ∷ ps) args zero t e = array_value q.shape (slice_index args 0) t e
base_given (q ∷ ps) args (suc p) t e = base_given ps (drop 1 args) p t e ∙ ap pos (dropped args p)

same_bytes : (t : Ty) → byte_count t ≡ width_bytes (type_width t)
same_bytes ty.I8 = refl
same_bytes other = refl

-- an address that lies so many elements after another
abbrev scaled : ℕ → Width → ℤ → ℤ
scaled b w x = pos b +ℤ pos (width_bytes w) *ℤ x

scaled_le : (b : ℕ) (w : Width) (x y : ℤ) → x ≤ℤ y → scaled b w x ≤ℤ scaled b w y
scaled_le b B x y h = omega (arith, ints, h)
scaled_le b other x y h = omega (arith, ints, h)

scaled_zero : (b : ℕ) (w : Width) → scaled b w (pos 0) ≡ pos b
scaled_zero b B = omega (arith, ints)
scaled_zero b other = omega (arith, ints)

module _ (k : Program) (args : List ℕ) where
  begin_same : (p : ℕ) (t : Ty) → type_of_place k.params p ≡ Some t → begin_of k args p ≡ scaled (slice_index args p) (type_width t) (least_offset (offsets_of p (streams_of k)))
  begin_same p t e =
      ap (λ (b : ℤ). b +ℤ pos (place_size k.params p) *ℤ least_offset (offsets_of p (streams_of k))) (base_given k.params args p t e)
      ∙ ap (λ (s : ℕ). pos (slice_index args p) +ℤ pos s *ℤ least_offset (offsets_of p (streams_of k))) (ap size_of_type e ∙ same_bytes t)

  end_same : (n p : ℕ) (t : Ty) → type_of_place k.params p ≡ Some t → end_of k args n p ≡ scaled (slice_index args p) (type_width t) (pos n +ℤ greatest_offset (offsets_of p (streams_of k)))
  end_same n p t e =
      ap (λ (b : ℤ). b +ℤ pos (place_size k.params p) *ℤ (pos n +ℤ greatest_offset (offsets_of p (streams_of k)))) (base_given k.params args p t e)
      ∙ ap (λ (s : ℕ). pos (slice_index args p) +ℤ pos s *ℤ (pos n +ℤ greatest_offset (offsets_of p (streams_of k)))) (ap size_of_type e ∙ same_bytes t)

  reach_same : (m p : ℕ) (t : Ty) → type_of_place k.params p ≡ Some t → base_of k args p +ℤ (pos (place_size k.params p) *ℤ pos m) ≡ scaled (slice_index args p) (type_width t) (pos m)
  reach_same m p t e =
      ap (λ (b : ℤ). b +ℤ pos (place_size k.params p) *ℤ pos m) (base_given k.params args p t e)
      ∙ ap (λ (s : ℕ). pos (slice_index args p) +ℤ pos s *ℤ pos m) (ap size_of_type e ∙ same_bytes t)

  module _ (typed : (s : Stream) → In s (streams_of k) → IsTyped k.params s) (read_typed : (r : Reach) → Among r (reaches_of k) → IsReadTyped k.params r) where
    -- the array at a place that some access or read is of
    record IsUsed (n p : ℕ) : Type 0 where
      type : Ty
      shown : type_of_place k.params p ≡ Some type
      used : Used
      found : IsIn used (used_of k)
      covers : Covers n p type (streams_of k) (reaches_of k) used

    known : (n p : ℕ) (t : Ty) → type_of_place k.params p ≡ Some t → Uses p (streams_of k) (reaches_of k) → IsUsed n p
    known n p t is uses =
        let c = covered_from n (streams_of k) (reaches_of k) 0 k.params p p t is (omega arith) uses in
        record { type = t; shown = is; used = c.0; found = c.1; covers = c.2 }

    is_used : (n p : ℕ) → list_any (is_of p) (streams_of k) ≡ true → IsUsed n p
    is_used n p some =
        let s = any_in (is_of p) (streams_of k) some in
        let t = typed s.0 s.1 in
        let same : s.0.param ≡ p = eqb-true s.0.param p s.2 in
        known n p t.0 (subst (λ q. type_of_place k.params q ≡ Some t.0) same t.1) (inl some)

    read_used : (n : ℕ) (r : Reach) → Among r (reaches_of k) → IsUsed n r.param
    read_used n r i = let t = read_typed r i in known n r.param t.0 t.1 (inr (r, i, refl))

    of_own : (s : Stream) → is_of s.param s ≡ true
    of_own s = eq-eqb s.param s.param refl

    used_own : (n : ℕ) (s : Stream) → In s (streams_of k) → IsUsed n s.param
    used_own n s i = is_used n s.param (in_any (is_of s.param) s (streams_of k) i (of_own s))

    none_stored : list_any is_stored (used_of k) ≡ false → list_any is_store (streams_of k) ≡ false
    none_stored none = by (list_any is_store (streams_of k)) refl
      where
        by : (b : Bool) → list_any is_store (streams_of k) ≡ b → b ≡ false
        by false e = refl
        by true e =
            let s = any_in is_store (streams_of k) e in
            let u = used_own 0 s.0 s.1 in
            let own : is_store_of s.0.param s.0 ≡ true = ap (λ b. b && s.0.store) (of_own s.0) ∙ s.2 in
            let some : list_any is_stored (used_of k) ≡ true = used_any u.used (used_of k) u.found (u.covers.stored (in_any (is_store_of s.0.param) s.0 (streams_of k) s.1 own)) in
            absurd cc

    -- two that are the only one are at one place
    one_place : (p q : ℕ) → length (used_of k) ≤ 1 → IsUsed 0 p → IsUsed 0 q → p ≡ q
    one_place p q few a b = sym a.covers.place ∙ ap (λ (x : Used). x.place) (one_in (used_of k) a.used b.used few a.found b.found) ∙ b.covers.place

    one_used_of_few : length (used_of k) ≤ 1 → OneUsed k
    one_used_of_few few = record { streams = by (streams_of k) refl; reads = λ s r i j. one_place s.param r.param few (used_own 0 s i) (read_used 0 r j) }
      where
        by : (ss : List Stream) → streams_of k ≡ ss → one_array ss ≡ true
        by [] e = refl
        by (s ∷ ss) e =
            all_in (is_of s.param) ss
            (λ t i. eq-eqb t.param s.param (one_place t.param s.param few (used_own 0 t (subst (λ xs. In t xs) (sym e) (inr i))) (used_own 0 s (subst (λ xs. In s xs) (sym e) (inl refl)))))

    is_based : (n p : ℕ) → IsUsed n p → AreBased args (used_of k) → IsBase (base_of k args p)
    is_based n p u h =
        let b : IsBased (slice_index args p) = subst (λ q. IsBased (slice_index args q)) u.covers.place (based_in args (used_of k) u.used h u.found) in
        (slice_index args p, base_given k.params args p u.type u.shown, b.0, b.1)

    -- the ends of what is used, by the parameter's place and type
    begin_at : (n p : ℕ) (u : IsUsed n p) → begin_in args u.used ≡ scaled (slice_index args p) (type_width u.type) u.used.least
    begin_at n p u = ap₂ (λ q w. scaled (slice_index args q) w u.used.least) u.covers.place u.covers.width

    end_at : (n p : ℕ) (u : IsUsed n p) → end_in args n u.used ≡ scaled (slice_index args p) (type_width u.type) (highest n u.used.extent)
    end_at n p u = ap₂ (λ q w. scaled (slice_index args q) w (highest n u.used.extent)) u.covers.place u.covers.width

    -- an address in what is used
    abbrev IsAt : (n p : ℕ) → IsUsed n p → ℤ → Type 0
    IsAt n p u z = (begin_in args u.used ≤ℤ z) × (z <ℤ end_in args n u.used)

    lies : (n p : ℕ) (u : IsUsed n p) (x y z : ℤ) → u.used.least ≤ℤ x → y ≤ℤ highest n u.used.extent → scaled (slice_index args p) (type_width u.type) x ≤ℤ z → z <ℤ scaled (slice_index args p) (type_width u.type) y → IsAt n p u z
    lies n p u x y z low high from to =
        let b : ℕ = slice_index args p in
        let w : Width = type_width u.type in (
          subst (λ c. c ≤ℤ z) (sym (begin_at n p u)) (le_z_trans (scaled b w u.used.least) (scaled b w x) z (scaled_le b w u.used.least x low) from),
          subst (λ c. z <ℤ c) (sym (end_at n p u)) (lt_le z (scaled b w y) (scaled b w (highest n u.used.extent)) to (scaled_le b w y (highest n u.used.extent) high)),
        )

    within_used : (n p : ℕ) (z : ℤ) (u : IsUsed n p) → list_any (is_of p) (streams_of k) ≡ true → Within k args n p z → IsAt n p u z
    within_used n p z u some w =
        lies n p u (least_offset (offsets_of p (streams_of k))) (pos n +ℤ greatest_offset (offsets_of p (streams_of k))) z (u.covers.low some) (u.covers.high some)
        (subst (λ b. b ≤ℤ z) (begin_same p u.type u.shown) w.0) (subst (λ e. z <ℤ e) (end_same n p u.type u.shown) w.1)

    reached_used : (n : ℕ) (r : Reach) (z : ℤ) (u : IsUsed n r.param) → Among r (reaches_of k) → Reached k args r z → IsAt n r.param u z
    reached_used n r z u i w =
        lies n r.param u (pos 0) (pos r.reach) z (u.covers.zeroed r i refl) (u.covers.far r i refl)
        (subst (λ b. b ≤ℤ z) (base_given k.params args r.param u.type u.shown ∙ sym (scaled_zero (slice_index args r.param) (type_width u.type))) w.0) (subst (λ e. z <ℤ e) (reach_same r.reach r.param u.type u.shown) w.1)

    either_stored : (b c : Bool) → b ≡ true → (b || c ≡ true) × (c || b ≡ true)
    either_stored true true e = (refl, refl)
    either_stored true false e = (refl, refl)
    either_stored false c e = absurd cc

    -- one that is stored, and another
    parted : (n p q : ℕ) (a : IsUsed n p) (b : IsUsed n q) → p ≢ q → a.used.stored ≡ true → AreApart args n (used_of k) → (z : ℤ) → IsAt n p a z → IsAt n q b z → ⊥
    parted n p q a b ne stored h z x y =
        let both = either_stored a.used.stored b.used.stored stored in
        ⊎_elim (λ (one : PairApart args n a.used b.used). one both.0 z x.0 x.1 y.0 y.1)
        (λ (two : PairApart args n b.used a.used). two both.1 z y.0 y.1 x.0 x.1)
        (pair_in args n (used_of k) a.used b.used (λ e. ne (sym a.covers.place ∙ e ∙ b.covers.place)) h a.found b.found)

    stored_here : (p : ℕ) → list_any (is_store_of p) (streams_of k) ≡ true → list_any (is_of p) (streams_of k) ≡ true
    stored_here p stored = let own = any_in (is_store_of p) (streams_of k) stored in in_any (is_of p) own.0 (streams_of k) own.1 (and_parts (is_of p own.0) own.0.store own.2).0

    separate : (n : ℕ) → by_use.ApartInRange args n (used_of k) → Separate k args n
    separate n h = record {
      few = h.0;
      based = λ p some. is_based n p (is_used n p some) h.1;
      apart = λ p q stored some ne z v w.
          let here = stored_here p stored in
          let a = is_used n p here in
          let b = is_used n q some in
          parted n p q a b ne (a.covers.stored stored) h.2 z (within_used n p z a here v) (within_used n q z b some w);
      read_based = λ r i. is_based n r.param (read_used n r i) h.1;
      read_apart = λ p r stored i ne z v w.
          let here = stored_here p stored in
          let a = is_used n p here in
          let b = read_used n r i in
          parted n p r.param a b ne (a.covers.stored stored) h.2 z (within_used n p z a here v) (reached_used n r z b i w);
    }

-- the loop's bound is a parameter, with its argument as its value
pub apart_both : (k : Program) (args : List ℕ) (l : PlainLoop) → ((s : Stream) → In s (streams_of k) → IsTyped k.params s) → ((r : Reach) → Among r (reaches_of k) → IsReadTyped k.params r) → k.for_loop ≡ Some l → bound_of l (argument_names k.params args) ≡ slice_index args (bound_place k) → by_use.Apart k args → StreamsApart k args
apart_both k args l typed read_typed is bound h = subst (λ o. StreamsApartBy k args o) (sym is) (by h)
  where
    by : by_use.Apart k args → StreamsApartBy k args (Some l)
    by (inl none) = inl (none_stored k args typed read_typed none)
    by (inr (inl few)) = inr (inl (one_used_of_few k args typed read_typed few))
    by (inr (inr in_range)) = inr (inr (subst (λ n. Separate k args n) (sym bound) (separate k args typed read_typed (slice_index args (bound_place k)) in_range)))
