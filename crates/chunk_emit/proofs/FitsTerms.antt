-- The items of the expressions of a checked kernel's loop fit its layout.
use Rattle.std.proofs.Common.{◌≡◌, ℕ, ◌+◌, ◌<◌, ◌≤◌, ℤ, pos, negsuc, Bool, true, List, ◌∷◌, length, Option, Some, None, refl, sym, ◌∙◌, subst, arith}
use Rattle.std.specs.Prelude.{◌^◌, option_and_then}
use Rattle.std.proofs.Math.Nat.{mod-le}
use Rattle.std.proofs.lemmas.Bool.{ltb-true}
use Rattle.guest_types.specs.Length.{width_bits}
use Rattle.kernel_tree.specs.declared.ops.Ty.{Ty}
use Rattle.kernel_tree.specs.declared.ops.CompareOp.{CompareOp}
use Rattle.kernel_tree.specs.declared.fault.Binding.{Binding}
use Rattle.kernel_tree.specs.declared.fault.Binding.TheVariants as binding
use Rattle.kernel_tree.specs.Plain.{Term, Literal, Variable, Element, Unary, Operation, Shift, Conversion, Choice, Comparison, Both, Either, Not, Program}
use Rattle.kernel_tree.specs.Wrap.{bits_of}
use Rattle.kernel_tree.specs.Items.{stream_offset, index_size, term_size, loop_index}
use Rattle.kernel_tree.specs.Typing.{Scope, Local, own, element_type, index_type, side_type, is_below, array_type}
use Rattle.kernel_meaning.specs.Operators.{shift_count}
use Rattle.reg_assign.specs.declared.interval.RegClass.TheVariants.{Z, P}
use Rattle.reg_assign.specs.Registers.{Assignment}
use Rattle.loop_form.specs.declared.loop_item.Operand.{Operand}
use Rattle.loop_form.specs.declared.item.ItemKind.TheVariants as kind
use Rattle.loop_form.specs.Entries.{IsRead, IsPlain}
use Rattle.loop_form.specs.LoopItems.{Item, item, Bound, operand_at, home, truth_home, index_source, gather_item, load_item, term_items, cond_items, loop_items_of}
use Rattle.loop_form.specs.LoopItems as ops
use Rattle.chunk_emit.specs.Chunk.{Setting}
use Rattle.loop_form.specs.Lanes.{lane_width_of}
use Rattle.loop_form.specs.Reaches.{reach_of_type}
use Rattle.guest_types.specs.declared.length.Width.TheVariants.{D}
use Rattle.chunk_emit.specs.Fits.{IsNear, FitsMask, FitsOperand, FitsBase, MakesValue, MakesTruth, MakesNothing}
use Rattle.chunk_emit.specs.KernelLayout.{item_last_use, truth_last_use, type_in, layout_of_loop}
use Rattle.chunk_emit.specs.LoopFits.{FitsSetting, FitsSteps}
use Rattle.chunk_emit.proofs.FitsBases.{base_fits}
use Rattle.chunk_emit.proofs.FitsKnown.{At}
use Rattle.chunk_emit.proofs.FitsNames.{binding_at, HomeIs, Names}
use Rattle.chunk_emit.proofs.FitsTrees.{IndexBy, KnownValue, KnownTruth}
use Rattle.chunk_emit.proofs.FitsOperands.{AllTyped, value_following, truth_following, made_is, at_width, operand_fits, truth_less, truth_same, truth_is, truth_lasts}
use Rattle.chunk_emit.proofs.FitsPlaces.{NoStore, fits_steps_at_equal_place, skip, fits_steps_of_cons, plain_step, IsMasked, CastsEnd, plain_casts, value_plain, truth_plain}

-- a count of a shift that the type allows
count_below : (n : ℤ) (m : ℕ) → is_below n m ≡ true → shift_count n < m
count_below (pos n) m e = let lt = ltb-true n m e in let le = mod-le n (2 ^ 6) in omega (arith, lt, le)
count_below (negsuc n) m e = absurd cc

module _ (k : Program) (zs ps : Assignment) (f : Setting) (setting : FitsSetting k f) (few : length k.params ≤ 8) where
  abbrev i : Option (List ℕ)
  i = loop_index k

  pub value_makes : (q : ℕ) (T : Ty) → item_last_use k P q ≡ 0 → type_in (loop_items_of k) q ≡ Some T → MakesValue (layout_of_loop k zs ps) q T
  value_makes q T last_use type = (let less = truth_less k q in omega (arith, last_use, less), made_is k q T type)

  pub truth_makes : (q : ℕ) → item_last_use k Z q ≡ 0 → MakesTruth (layout_of_loop k zs ps) q
  truth_makes q last_use = omega (arith, last_use)

  pub nothing_made : (q : ℕ) → item_last_use k Z q ≡ 0 → item_last_use k P q ≡ 0 → MakesNothing (layout_of_loop k zs ps) q
  nothing_made q z p = (omega (arith, z), let less = truth_less k q in omega (arith, p, less))

  module _ (v : List Local) (tk : List (List ℕ)) (ins : Bool) (b0 : ℕ) (env : List Bound) (names : Names k b0 v env) where
    abbrev S : Scope
    S = record { visible = v; taken = tk; index = loop_index k; inside = ins }

    array_home : (a : List ℕ) (T : Ty) (bd : Binding) (s : Operand) → element_type bd ≡ Some T → HomeIs k b0 a bd s → FitsBase f s
    array_home a T (binding.Scalar t) s e h = absurd cc
    array_home a T (binding.Array t) s e h = subst (FitsBase f) (sym h.1) (base_fits k f h.0 t setting few h.2)
    array_home a T (binding.Accumulator t) s e h = absurd cc
    array_home a T (binding.Value t) s e h = absurd cc
    array_home a T binding.Index s e h = absurd cc

    array_in : (a : List ℕ) (T : Ty) (o : Option Binding) → binding_at v a ≡ o → option_and_then element_type o ≡ Some T → FitsBase f (operand_at env a)
    array_in a T None e g = absurd cc
    array_in a T (Some bd) e g = array_home a T bd (operand_at env a) g (names.home a bd e)

    pub array_fits : (a : List ℕ) (T : Ty) → array_type S a ≡ Some T → FitsBase f (operand_at env a)
    array_fits a T e = array_in a T (binding_at v a) refl e

    -- an operand of item u
    pub operand : (t : Term) (T : Ty) (mask : Option ℕ) (b u : ℕ) (rest : List Item) → KnownValue k S T b u t → b0 ≤ u → b + term_size i t ≤ u → AllTyped k (term_items S (Some T) mask b env t rest) → FitsOperand (layout_of_loop k zs ps) f.w u T (home i (Some T) b env t)
    operand t T mask b u rest h from le typed = operand_fits k zs ps f setting v tk ins b0 env names t T mask b u rest h from le typed

    load_steps : (a : List ℕ) (j : Term) (T : Ty) (mask : Option ℕ) (q p u : ℕ) (gathered rest : List Item) (c : ℤ) (t : Option Ty) → At k q (IsRead a j) u (Some T) → array_type S a ≡ t → t ≡ Some T → IsNear c → q < u → p ≡ q + 1
        → AllTyped k (load_item S mask q env a (Some c) gathered rest) → IsMasked (layout_of_loop k zs ps) q p mask → FitsSteps (layout_of_loop k zs ps) f p rest → FitsSteps (layout_of_loop k zs ps) f q (load_item S mask q env a (Some c) gathered rest)
    load_steps a j T mask q p u gathered rest c t at same e near lt number typed masked following =
        let L = layout_of_loop k zs ps in
        let last_use : item_last_use k Z q ≡ u = at.known.gives.value_last_use in
        let here =
        plain_step L f q p mask (ops.Load a (operand_at env a) (Some T) c) rest number (masked q (omega arith) (omega (arith, number)))
        (array_fits a T (same ∙ e), near, at_width k zs ps f setting q (IsRead a j) u T at, omega (arith, last_use, lt), value_makes q T at.known.gives.truth_last_use (typed.0.type ∙ same ∙ e)) (λ r next. refl) following in
        subst (λ z. FitsSteps L f q (item q mask (ops.Load a (operand_at env a) z c) ∷ rest)) (sym (same ∙ e)) here

    -- a read at a computed index, whose index fits
    gather_step : (a : List ℕ) (j : Term) (T U : Ty) (mask : Option ℕ) (b q p u : ℕ) (rest : List Item) → At k q (IsRead a j) u (Some T) → array_type S a ≡ Some T → index_type S j ≡ Some U → lane_width_of k ≡ D → q < u → p ≡ q + 1
        → FitsOperand (layout_of_loop k zs ps) f.w q U (home i (Some U) b env j) → type_in (loop_items_of k) q ≡ array_type S a → FitsMask (layout_of_loop k zs ps) q mask → FitsSteps (layout_of_loop k zs ps) f p rest → FitsSteps (layout_of_loop k zs ps) f q (gather_item S mask b q env a j ∷ rest)
    gather_step a j T U mask b q p u rest at array index lane lt number fits typed masked following =
        let L = layout_of_loop k zs ps in
        let last_use : item_last_use k Z q ≡ u = at.known.gives.value_last_use in
        let wide : f.w ≡ D = setting.width ∙ lane in
        let reach : Option ℕ = reach_of_type (index_source S j) in
        let here = plain_step L f q p mask (ops.Gather a (operand_at env a) (Some T) reach (Some U) (home i (Some U) b env j)) rest number masked
        (array_fits a T array, wide, (index_source S j, refl), fits, omega (arith, last_use, lt), value_makes q T at.known.gives.truth_last_use (typed ∙ array)) (λ r next. refl) following in
        subst (λ z. FitsSteps L f q (item q mask (ops.Gather a (operand_at env a) z reach (index_type S j) (home i (index_type S j) b env j)) ∷ rest)) (sym array)
        (subst (λ z. FitsSteps L f q (item q mask (ops.Gather a (operand_at env a) (Some T) reach z (home i z b env j)) ∷ rest)) (sym index) here)

    -- what fits before the items of an operand
    abbrev Before : (x : Term) (U : Ty) (mask : Option ℕ) (b : ℕ) → Type 0
    Before x U mask b =
        (last : List Item) → AllTyped k (term_items S (Some U) mask b env x last) → CastsEnd (layout_of_loop k zs ps) b last × FitsSteps (layout_of_loop k zs ps) f (b + term_size i x) last → FitsSteps (layout_of_loop k zs ps) f b (term_items S (Some U) mask b env x last)

    cast_steps : (x : Term) (t T : Ty) (mask : Option ℕ) (b u p : ℕ) (rest : List Item) (o : Option Ty) (U : Ty) → o ≡ Some U → KnownValue k S U b (b + term_size i x) x → At k (b + term_size i x) (IsPlain kind.Cast) u (Some T) → T ≡ t → b0 ≤ b + term_size i x → p ≡ b + term_size i x + 1
        → AllTyped k (term_items S o mask b env x (item (b + term_size i x) mask (ops.Cast o t (home i o b env x)) ∷ rest)) → IsMasked (layout_of_loop k zs ps) b p mask → CastsEnd (layout_of_loop k zs ps) b rest → FitsSteps (layout_of_loop k zs ps) f p rest → Before x U mask b
        → FitsSteps (layout_of_loop k zs ps) f b (term_items S o mask b env x (item (b + term_size i x) mask (ops.Cast o t (home i o b env x)) ∷ rest))
    cast_steps x t T mask b u p rest o U e h at same from number typed masked casts following before =
        let L = layout_of_loop k zs ps in
        let q = b + term_size i x in
        let act = ops.Cast (Some U) t (home i (Some U) b env x) in
        let last = item q mask act ∷ rest in
        let typed2 : AllTyped k (term_items S (Some U) mask b env x last) = subst (λ z. AllTyped k (term_items S z mask b env x (item q mask (ops.Cast z t (home i z b env x)) ∷ rest))) e typed in
        let ti = value_following k x S (Some U) mask b env last typed2 in
        let wide = subst (λ z. bits_of z ≤ width_bits f.w) same (at_width k zs ps f setting q (IsPlain kind.Cast) u T at) in
        let here =
        fits_steps_of_cons L f q p mask act rest number (masked q (omega arith) (omega (arith, number))) (operand x U mask b q last h from (omega arith) typed2, wide, value_makes q t at.known.gives.truth_last_use ti.0.type) (casts (item q mask act) (omega arith)) following in
        subst (λ z. FitsSteps L f b (term_items S z mask b env x (item q mask (ops.Cast z t (home i z b env x)) ∷ rest))) (sym e) (before last typed2 (plain_casts L b last refl, here))

    test_steps : (op : CompareOp) (x y : Term) (mask : Option ℕ) (b u p : ℕ) (rest : List Item) (o : Option Ty) (U : Ty) → o ≡ Some U → KnownValue k S U b (b + term_size i x + term_size i y) x → KnownValue k S U (b + term_size i x) (b + term_size i x + term_size i y) y
        → At k (b + term_size i x + term_size i y) (IsPlain kind.Compare) u None → b0 ≤ b + term_size i x + term_size i y → p ≡ b + term_size i x + term_size i y + 1
        → AllTyped k (term_items S o mask b env x (term_items S o mask (b + term_size i x) env y (item (b + term_size i x + term_size i y) mask (ops.Compare op o (home i o b env x) (home i o (b + term_size i x) env y)) ∷ rest)))
        → IsMasked (layout_of_loop k zs ps) b p mask → FitsSteps (layout_of_loop k zs ps) f p rest → Before x U mask b → Before y U mask (b + term_size i x)
        → FitsSteps (layout_of_loop k zs ps) f b (term_items S o mask b env x (term_items S o mask (b + term_size i x) env y (item (b + term_size i x + term_size i y) mask (ops.Compare op o (home i o b env x) (home i o (b + term_size i x) env y)) ∷ rest)))
    test_steps op x y mask b u p rest o U e hx hy at from number typed masked following first second =
        let L = layout_of_loop k zs ps in
        let b1 = b + term_size i x in let q = b1 + term_size i y in
        let act = ops.Compare op (Some U) (home i (Some U) b env x) (home i (Some U) b1 env y) in
        let last = item q mask act ∷ rest in
        let later = term_items S (Some U) mask b1 env y last in
        let typed2 : AllTyped k (term_items S (Some U) mask b env x later) = subst (λ z. AllTyped k (term_items S z mask b env x (term_items S z mask b1 env y (item q mask (ops.Compare op z (home i z b env x) (home i z b1 env y)) ∷ rest)))) e typed in
        let ty = value_following k x S (Some U) mask b env later typed2 in
        let ox = operand x U mask b q later hx from (omega arith) typed2 in
        let oy = operand y U mask b1 q last hy from (omega arith) ty in
        let here = plain_step L f q p mask act rest number (masked q (omega arith) (omega (arith, number))) (ox, oy, truth_makes q at.known.gives.value_last_use) (λ r next. refl) following in
        let there = second last ty (plain_casts L b1 last refl, here) in
        subst (λ z. FitsSteps L f b (term_items S z mask b env x (term_items S z mask b1 env y (item q mask (ops.Compare op z (home i z b env x) (home i z b1 env y)) ∷ rest)))) (sym e)
        (first later typed2 (plain_casts L b later (value_plain y S (Some U) mask b1 env last refl), there))

    element_steps : (a : List ℕ) (j : Term) (T : Ty) (mask : Option ℕ) (b u p : ℕ) (rest : List Item) (o : Option ℤ)
        → IndexBy o ((U : Ty) × (index_type S j ≡ Some U) × KnownValue k S U b (b + index_size o (term_size i j)) j × (lane_width_of k ≡ D))
        → At k (b + index_size o (term_size i j)) (IsRead a j) u (Some T) → array_type S a ≡ Some T → b + index_size o (term_size i j) < u → p ≡ b + index_size o (term_size i j) + 1
        → AllTyped k (load_item S mask (b + index_size o (term_size i j)) env a o (term_items S (index_type S j) mask b env j (gather_item S mask b (b + index_size o (term_size i j)) env a j ∷ rest)) rest)
        → IsMasked (layout_of_loop k zs ps) b p mask → FitsSteps (layout_of_loop k zs ps) f p rest
        → ((U : Ty) (last : List Item) → KnownValue k S U b (b + term_size i j) j → AllTyped k (term_items S (Some U) mask b env j last) → IsMasked (layout_of_loop k zs ps) b (b + term_size i j) mask → NoStore last × FitsSteps (layout_of_loop k zs ps) f (b + term_size i j) last → FitsSteps (layout_of_loop k zs ps) f b (term_items S (Some U) mask b env j last))
        → b0 ≤ b
        → FitsSteps (layout_of_loop k zs ps) f b (load_item S mask (b + index_size o (term_size i j)) env a o (term_items S (index_type S j) mask b env j (gather_item S mask b (b + index_size o (term_size i j)) env a j ∷ rest)) rest)
    element_steps a j T mask b u p rest (Some c) near at array lt number typed masked following more from =
        fits_steps_at_equal_place (layout_of_loop k zs ps) f (b + 0) b (load_item S mask (b + 0) env a (Some c) (term_items S (index_type S j) mask b env j (gather_item S mask b (b + 0) env a j ∷ rest)) rest) (omega arith)
        (load_steps a j T mask (b + 0) p u (term_items S (index_type S j) mask b env j (gather_item S mask b (b + 0) env a j ∷ rest)) rest c (array_type S a) at refl array near (omega (arith, lt)) (omega (arith, number)) typed (λ r lo hi. masked r (omega (arith, lo)) (omega (arith, hi))) following)
    element_steps a j T mask b u p rest None known at array lt number typed masked following more from =
        let q : ℕ = b + term_size i j in
        let last : List Item = gather_item S mask b q env a j ∷ rest in
        let typed2 : AllTyped k (term_items S (Some known.0) mask b env j last) = subst (λ w. AllTyped k (term_items S w mask b env j last)) known.1 typed in
        let fits = operand j known.0 mask b q last known.2 (omega (arith, from)) (omega arith) typed2 in
        let mine : type_in (loop_items_of k) q ≡ array_type S a = (value_following k j S (Some known.0) mask b env last typed2).0.type in
        let here = gather_step a j T known.0 mask b q p u rest at array known.1 known.3 (omega (arith, lt)) (omega (arith, number)) fits mine (masked q (omega arith) (omega (arith, number))) following in
        subst (λ w. FitsSteps (layout_of_loop k zs ps) f b (term_items S w mask b env j last)) (sym known.1)
        (more known.0 last known.2 typed2 (λ r lo hi. masked r lo (omega (arith, number, hi))) (refl, here))

    mutual
      pub value_steps : (t : Term) (T : Ty) (mask : Option ℕ) (b u : ℕ) (rest : List Item) → KnownValue k S T b u t → b0 ≤ b → b + term_size i t ≤ u → AllTyped k (term_items S (Some T) mask b env t rest) → IsMasked (layout_of_loop k zs ps) b (b + term_size i t) mask → CastsEnd (layout_of_loop k zs ps) b rest
          → FitsSteps (layout_of_loop k zs ps) f (b + term_size i t) rest → FitsSteps (layout_of_loop k zs ps) f b (term_items S (Some T) mask b env t rest)
      value_steps (Literal n) T mask b u rest h from le typed masked casts following = skip (layout_of_loop k zs ps) f b rest (nothing_made b h.known.gives.value_last_use h.known.gives.truth_last_use) following
      value_steps (Variable x) T mask b u rest h from le typed masked casts following = skip (layout_of_loop k zs ps) f b rest (nothing_made b h.0.known.gives.value_last_use h.0.known.gives.truth_last_use) following
      value_steps (Element a j) T mask b u rest h from le typed masked casts following =
          element_steps a j T mask b u (b + term_size i (Element a j)) rest (stream_offset i j) h.2 h.0 h.1 (omega (arith, le)) (omega arith) typed masked following
          (λ U last known typed2 masked2 fits. value_steps j U mask b (b + term_size i j) last known from (omega arith) typed2 masked2 (plain_casts (layout_of_loop k zs ps) b last fits.0) fits.1) from
      value_steps (Unary op x) T mask b u rest h from le typed masked casts following =
          let L = layout_of_loop k zs ps in
          let q = b + term_size i x in
          let act = ops.Unary op (Some T) (home i (Some T) b env x) in
          let last = item q mask act ∷ rest in
          let ti = value_following k x S (Some T) mask b env last typed in
          let here = plain_step L f q (b + term_size i (Unary op x)) mask act rest (omega arith) (masked q (omega arith) (omega arith)) (operand x T mask b q last h.0 (omega (arith, from)) (omega arith) typed, value_makes q T h.1.known.gives.truth_last_use ti.0.type) (λ r next. refl) following in
          value_steps x T mask b q last h.0 from (omega arith) typed (λ r lo hi. masked r lo (omega (arith, hi))) (plain_casts L b last refl) here
      value_steps (Operation op x y) T mask b u rest h from le typed masked casts following =
          let L = layout_of_loop k zs ps in
          let b1 = b + term_size i x in let q = b1 + term_size i y in
          let act = ops.Binary op (Some T) (home i (Some T) b env x) (home i (Some T) b1 env y) in
          let last = item q mask act ∷ rest in
          let later = term_items S (Some T) mask b1 env y last in
          let ty = value_following k x S (Some T) mask b env later typed in
          let ti = value_following k y S (Some T) mask b1 env last ty in
          let ox = operand x T mask b q later h.0 (omega (arith, from)) (omega arith) typed in
          let oy = operand y T mask b1 q last h.1 (omega (arith, from)) (omega arith) ty in
          let here = plain_step L f q (b + term_size i (Operation op x y)) mask act rest (omega arith) (masked q (omega arith) (omega arith)) (ox, oy, value_makes q T h.2.known.gives.truth_last_use ti.0.type) (λ r next. refl) following in
          let second = value_steps y T mask b1 q last h.1 (omega (arith, from)) (omega arith) ty (λ r lo hi. masked r (omega (arith, lo)) (omega (arith, hi))) (plain_casts L b1 last refl) here in
          value_steps x T mask b q later h.0 from (omega arith) typed (λ r lo hi. masked r lo (omega (arith, hi))) (plain_casts L b later (value_plain y S (Some T) mask b1 env last refl)) second
      value_steps (Shift to_left x n) T mask b u rest h from le typed masked casts following =
          let L = layout_of_loop k zs ps in
          let q = b + term_size i x in
          let act = ops.Shift to_left n (Some T) (home i (Some T) b env x) in
          let last = item q mask act ∷ rest in
          let ti = value_following k x S (Some T) mask b env last typed in
          let wide = at_width k zs ps f setting q (IsPlain kind.Shift) u T h.1 in
          let count = count_below n (bits_of T) h.2 in
          let here =
          plain_step L f q (b + term_size i (Shift to_left x n)) mask act rest (omega arith) (masked q (omega arith) (omega arith))
          (operand x T mask b q last h.0 (omega (arith, from)) (omega arith) typed, omega (arith, wide, count), value_makes q T h.1.known.gives.truth_last_use ti.0.type) (λ r next. refl) following in
          value_steps x T mask b q last h.0 from (omega arith) typed (λ r lo hi. masked r lo (omega (arith, hi))) (plain_casts L b last refl) here
      value_steps (Conversion x t) T mask b u rest h from le typed masked casts following =
          cast_steps x t T mask b u (b + term_size i (Conversion x t)) rest (own S x) h.0 h.1 h.2 h.3 h.4 (omega (arith, from)) (omega arith) typed masked casts following (λ last ty here. value_steps x h.0 mask b (b + term_size i x) last h.2 from (omega arith) ty (λ r lo hi. masked r lo (omega (arith, hi))) here.0 here.1)
      value_steps (Choice c x y) T mask b u rest h from le typed masked casts following =
          let L = layout_of_loop k zs ps in
          let b1 = b + term_size i x in let b2 = b1 + term_size i y in let q = b2 + term_size i c in
          let act = ops.Select (Some T) (truth_home i b2 c) (home i (Some T) b env x) (home i (Some T) b1 env y) in
          let last = item q mask act ∷ rest in
          let chosen = cond_items S mask b2 env c last in
          let later = term_items S (Some T) mask b1 env y chosen in
          let ty = value_following k x S (Some T) mask b env later typed in
          let tc = value_following k y S (Some T) mask b1 env chosen ty in
          let ti = truth_following k c S mask b2 env last tc in
          let ox = operand x T mask b q later h.0 (omega (arith, from)) (omega arith) typed in
          let oy = operand y T mask b1 q chosen h.1 (omega (arith, from)) (omega arith) ty in
          let oc = truth_lasts k zs ps c b2 q q (truth_is k v tk ins c mask b2 q env last h.2 tc) (omega arith) (omega arith) in
          let here = plain_step L f q (b + term_size i (Choice c x y)) mask act rest (omega arith) (masked q (omega arith) (omega arith)) (oc, ox, oy, value_makes q T h.3.known.gives.truth_last_use ti.0.type) (λ r next. refl) following in
          let third = truth_steps c mask b2 q last h.2 (omega (arith, from)) tc (λ r lo hi. masked r (omega (arith, lo)) (omega (arith, hi))) here in
          let second = value_steps y T mask b1 q chosen h.1 (omega (arith, from)) (omega arith) ty (λ r lo hi. masked r (omega (arith, lo)) (omega (arith, hi))) (plain_casts L b1 chosen (truth_plain c S mask b2 env last refl)) third in
          value_steps x T mask b q later h.0 from (omega arith) typed (λ r lo hi. masked r lo (omega (arith, hi))) (plain_casts L b later (value_plain y S (Some T) mask b1 env chosen (truth_plain c S mask b2 env last refl))) second
      value_steps (Comparison op x y) T mask b u rest h from le typed masked casts following = absurd h
      value_steps (Both x y) T mask b u rest h from le typed masked casts following = absurd h
      value_steps (Either x y) T mask b u rest h from le typed masked casts following = absurd h
      value_steps (Not x) T mask b u rest h from le typed masked casts following = absurd h

      pub truth_steps : (t : Term) (mask : Option ℕ) (b u : ℕ) (rest : List Item) → KnownTruth k S b u t → b0 ≤ b → AllTyped k (cond_items S mask b env t rest) → IsMasked (layout_of_loop k zs ps) b (b + term_size i t) mask → FitsSteps (layout_of_loop k zs ps) f (b + term_size i t) rest
          → FitsSteps (layout_of_loop k zs ps) f b (cond_items S mask b env t rest)
      truth_steps (Comparison op x y) mask b u rest h from typed masked following =
          test_steps op x y mask b u (b + term_size i (Comparison op x y)) rest (side_type S x y) h.0 h.1 h.2 h.3 h.4 (omega (arith, from)) (omega arith) typed masked following
          (λ last ty here. value_steps x h.0 mask b (b + term_size i x + term_size i y) last h.2 from (omega arith) ty (λ r lo hi. masked r lo (omega (arith, hi))) here.0 here.1)
          (λ last ty here. value_steps y h.0 mask (b + term_size i x) (b + term_size i x + term_size i y) last h.3 (omega (arith, from)) (omega arith) ty (λ r lo hi. masked r (omega (arith, lo)) (omega (arith, hi))) here.0 here.1)
      truth_steps (Both x y) mask b u rest h from typed masked following =
          let L = layout_of_loop k zs ps in
          let b1 = b + term_size i x in let q = b1 + term_size i y in
          let act = ops.And (truth_home i b1 y) in
          let last = item q mask act ∷ rest in
          let later = cond_items S (Some (truth_home i b x)) b1 env y last in
          let ty = truth_following k x S mask b env later typed in
          let tx = truth_is k v tk ins x mask b q env later h.0 typed in
          let oy = truth_lasts k zs ps y b1 q q (truth_is k v tk ins y (Some (truth_home i b x)) b1 q env last h.1 ty) (omega arith) (omega arith) in
          let here = plain_step L f q (b + term_size i (Both x y)) mask act rest (omega arith) (masked q (omega arith) (omega arith)) (oy, truth_makes q h.2.known.gives.value_last_use) (λ r next. refl) following in
          let second = truth_steps y (Some (truth_home i b x)) b1 q last h.1 (omega (arith, from)) ty (λ r lo hi. truth_lasts k zs ps x b q r tx lo (omega (arith, hi))) here in
          truth_steps x mask b q later h.0 from typed (λ r lo hi. masked r lo (omega (arith, hi))) second
      truth_steps (Either x y) mask b u rest h from typed masked following =
          let L = layout_of_loop k zs ps in
          let mark = b + term_size i x in let q = mark + 1 + term_size i y in
          let act = ops.Or (truth_home i b x) (truth_home i (mark + 1) y) in
          let last = item q mask act ∷ rest in
          let later = cond_items S (Some mark) (mark + 1) env y last in
          let tm = truth_following k x S mask b env (item mark mask (ops.Not (truth_home i b x)) ∷ later) typed in
          let tx = truth_is k v tk ins x mask b q env (item mark mask (ops.Not (truth_home i b x)) ∷ later) h.0 typed in
          let ox = truth_lasts k zs ps x b q q tx (omega arith) (omega arith) in
          let om = truth_lasts k zs ps x b q mark tx (omega arith) (omega arith) in
          let oy = truth_lasts k zs ps y (mark + 1) q q (truth_is k v tk ins y (Some mark) (mark + 1) q env last h.2 tm.1) (omega arith) (omega arith) in
          let last_use : truth_last_use k mark ≡ q = truth_same k mark tm.0.truth ∙ h.1.known.gives.truth_last_use in
          let here = plain_step L f q (b + term_size i (Either x y)) mask act rest (omega arith) (masked q (omega arith) (omega arith)) (ox, oy, truth_makes q h.3.known.gives.value_last_use) (λ r next. refl) following in
          let second = truth_steps y (Some mark) (mark + 1) q last h.2 (omega (arith, from)) tm.1 (λ r lo hi. (omega (arith, lo), omega (arith, hi, last_use))) here in
          let marked = plain_step L f mark (mark + 1) mask (ops.Not (truth_home i b x)) later refl (masked mark (omega arith) (omega arith)) (om, truth_makes mark h.1.known.gives.value_last_use) (λ r next. refl) second in
          truth_steps x mask b q (item mark mask (ops.Not (truth_home i b x)) ∷ later) h.0 from typed (λ r lo hi. masked r lo (omega (arith, hi))) marked
      truth_steps (Not x) mask b u rest h from typed masked following =
          let L = layout_of_loop k zs ps in
          let q = b + term_size i x in
          let act = ops.Not (truth_home i b x) in
          let ox = truth_lasts k zs ps x b q q (truth_is k v tk ins x mask b q env (item q mask act ∷ rest) h.0 typed) (omega arith) (omega arith) in
          let here = plain_step L f q (b + term_size i (Not x)) mask act rest (omega arith) (masked q (omega arith) (omega arith)) (ox, truth_makes q h.1.known.gives.value_last_use) (λ r next. refl) following in
          truth_steps x mask b q (item q mask act ∷ rest) h.0 from typed (λ r lo hi. masked r lo (omega (arith, hi))) here
      truth_steps (Literal n) mask b u rest h from typed masked following = absurd h
      truth_steps (Variable x) mask b u rest h from typed masked following = absurd h
      truth_steps (Element a j) mask b u rest h from typed masked following = absurd h
      truth_steps (Unary op x) mask b u rest h from typed masked following = absurd h
      truth_steps (Operation op x y) mask b u rest h from typed masked following = absurd h
      truth_steps (Shift to_left x n) mask b u rest h from typed masked following = absurd h
      truth_steps (Conversion x t) mask b u rest h from typed masked following = absurd h
      truth_steps (Choice c x y) mask b u rest h from typed masked following = absurd h
