-- Stores and updates of a checked kernel's loop fit its layout.
use Rattle.std.proofs.Common.{◌≡◌, ℕ, ◌+◌, ◌≤◌, ℤ, Bool, true, false, cond, List, ◌∷◌, length, Option, Some, None, refl, sym, ap, ◌∙◌, subst, arith}
use Rattle.std.specs.Prelude.{option_and_then, unwrap_or}
use Rattle.std.proofs.lemmas.Bool.{eqb-true}
use Rattle.kernel_tree.specs.declared.ops.Ty.{Ty}
use Rattle.kernel_tree.specs.declared.ops.Ty.TheVariants.{U64}
use Rattle.kernel_tree.specs.declared.ops.UpdateOp.{UpdateOp}
use Rattle.kernel_tree.specs.declared.fault.Binding.{Binding}
use Rattle.kernel_tree.specs.Plain.{Term, Literal, Variable, Element, Unary, Operation, Shift, Conversion, Choice, Comparison, Both, Either, Not, Program}
use Rattle.kernel_tree.specs.Items.{stream_offset, loop_index}
use Rattle.kernel_tree.specs.Typing.{Scope, Local, value_type, accumulator_type, array_type}
use Rattle.kernel_tree.proofs.Names.{bytes_eq-refl}
use Rattle.reg_assign.specs.declared.interval.RegClass.TheVariants.{Z}
use Rattle.reg_assign.specs.Registers.{Assignment}
use Rattle.loop_form.specs.declared.loop_item.Operand.{Operand}
use Rattle.loop_form.specs.declared.loop_item.Operand.TheVariants.{Constant, Outer, LoopIndex, Made}
use Rattle.loop_form.specs.Entries.{IsName, IsStore, IsUpdate}
use Rattle.loop_form.specs.Lanes.{var_type}
use Rattle.loop_form.specs.LoopItems.{Op, Item, item, Bound, operand_at, accumulator_of, home, store_item}
use Rattle.loop_form.specs.LoopItems as ops
use Rattle.chunk_emit.specs.Registers.{Layout}
use Rattle.chunk_emit.specs.ChunkCode.{past_cast, is_made}
use Rattle.chunk_emit.specs.Chunk.{Setting}
use Rattle.chunk_emit.specs.Fits.{FitsOperand, FitsMask}
use Rattle.chunk_emit.specs.KernelLayout.{item_last_use, layout_of_loop}
use Rattle.chunk_emit.specs.LoopFits.{FitsSetting, FitsSteps}
use Rattle.chunk_emit.proofs.FitsKnown.{At}
use Rattle.chunk_emit.proofs.FitsNames.{binding_at, HomeIs, Names}
use Rattle.chunk_emit.proofs.FitsTrees.{IsStream, KnownValue}
use Rattle.chunk_emit.proofs.FitsPlaces.{plain_step, CastsEnd}
use Rattle.chunk_emit.proofs.FitsTerms.{nothing_made, array_fits}
use Rattle.kernel_tree.specs.declared.fault.Binding.TheVariants as binding

-- ---- a cast before a store

made_same : (q : ℕ) (v : Operand) → is_made q v ≡ true → v ≡ Made q
made_same q (Constant t z) e = absurd cc
made_same q (Outer p) e = absurd cc
made_same q LoopIndex e = absurd cc
made_same q (Made r) e = ap Made (sym (eqb-true q r e))

cond_made : (b : Bool) (o : Op) (op : Op) → cond b (Some o) None ≡ Some op → b ≡ true
cond_made true o op e = refl
cond_made false o op e = absurd cc

-- an item whose value the store takes
past_made : (q : ℕ) (before : Op) (a : List ℕ) (base : Operand) (t : Option Ty) (c : ℤ) (v : Operand) (op : Op) → past_cast q before (ops.Store a base t c v) ≡ Some op → v ≡ Made q
past_made q (ops.Cast s u x) a base t c v op e = made_same q v (cond_made (is_made q v) (ops.Store a base t c x) op e)
past_made q other a base t c v op e = absurd cc

store_casts : (l : Layout) (b q : ℕ) (mask : Option ℕ) (a : List ℕ) (base : Operand) (t : Option Ty) (c : ℤ) (v : Operand) (rest : List Item) → ((r : ℕ) → v ≡ Made r → b ≤ r → l.z_last_use r ≤ q) → CastsEnd l b (item q mask (ops.Store a base t c v) ∷ rest)
store_casts l b q mask a base t c v rest ends = λ it from op e. ends it.item (past_made it.item it.op a base t c v op e) from

module _ (k : Program) (zs ps : Assignment) (f : Setting) (setting : FitsSetting k f) (few : length k.params ≤ 8) where
  abbrev i : Option (List ℕ)
  i = loop_index k

  module _ (v : List Local) (tk : List (List ℕ)) (ins : Bool) (b0 : ℕ) (env : List Bound) (names : Names k b0 v env) where
    abbrev S : Scope
    S = record { visible = v; taken = tk; index = loop_index k; inside = ins }

    -- what a name stands for was made before
    home_before : (x : List ℕ) (T : Ty) (b q r : ℕ) (bd : Binding) (s : Operand) → b0 ≤ b → At k b (IsName x) q (Some T) → value_type bd ≡ Some T → HomeIs k b0 x bd s → s ≡ Made r → b ≤ r → item_last_use k Z r ≤ q
    home_before x T b q r (binding.Scalar t) s from at e h made lo = let other = h.1 in absurd cc
    home_before x T b q r (binding.Array t) s from at e h made lo = absurd cc
    home_before x T b q r (binding.Accumulator t) s from at e h made lo = let unread = at.known.unread x t h in let read = bytes_eq-refl x in absurd cc
    home_before x T b q r (binding.Value t) s from at e h made lo =
        let lt = h.before in
        let is = h.is in
        let same : h.item ≡ r = cc in
        absurd (omega (arith, lt, same, from, lo))
    home_before x T b q r binding.Index s from at e h made lo = let other = h.0 in absurd cc

    name_before : (x : List ℕ) (T : Ty) (b q r : ℕ) → b0 ≤ b → At k b (IsName x) q (Some T) → (o : Option Binding) → binding_at v x ≡ o → option_and_then value_type o ≡ Some T → operand_at env x ≡ Made r → b ≤ r → item_last_use k Z r ≤ q
    name_before x T b q r from at None e g made lo = absurd cc
    name_before x T b q r from at (Some bd) e g made lo = home_before x T b q r bd (operand_at env x) from at g (names.home x bd e) made lo

    is_until : (p q r : ℕ) → Made p ≡ Made r → item_last_use k Z p ≡ q → item_last_use k Z r ≤ q
    is_until p q r e last_use = let same : p ≡ r = cc in let moved = ap (item_last_use k Z) same in omega (arith, last_use, moved)

    -- the value of an expression is used last by its user
    value_ends : (t : Term) (T : Ty) (b q r : ℕ) → KnownValue k S T b q t → b0 ≤ b → home i (Some T) b env t ≡ Made r → b ≤ r → item_last_use k Z r ≤ q
    value_ends (Literal n) T b q r h from made lo = absurd cc
    value_ends (Variable x) T b q r h from made lo = name_before x T b q r from h.0 (binding_at v x) refl h.1 made lo
    value_ends (Element a j) T b q r h from made lo = is_until _ q r made h.0.known.gives.value_last_use
    value_ends (Unary op x) T b q r h from made lo = is_until _ q r made h.1.known.gives.value_last_use
    value_ends (Operation op x y) T b q r h from made lo = is_until _ q r made h.2.known.gives.value_last_use
    value_ends (Shift to_left x n) T b q r h from made lo = is_until _ q r made h.1.known.gives.value_last_use
    value_ends (Conversion x t) T b q r h from made lo = is_until _ q r made h.3.known.gives.value_last_use
    value_ends (Choice c x y) T b q r h from made lo = is_until _ q r made h.3.known.gives.value_last_use
    value_ends (Comparison op x y) T b q r h from made lo = absurd h
    value_ends (Both x y) T b q r h from made lo = absurd h
    value_ends (Either x y) T b q r h from made lo = absurd h
    value_ends (Not x) T b q r h from made lo = absurd h

    pub store_ends : (t : Term) (T : Ty) (a : List ℕ) (j : Term) (mask : Option ℕ) (b q : ℕ) (rest : List Item) → IsStream i j → KnownValue k S T b q t → b0 ≤ b → CastsEnd (layout_of_loop k zs ps) b (store_item S mask q env a (stream_offset i j) (home i (Some T) b env t) rest)
    store_ends t T a j mask b q rest stream h from =
        subst (λ o. CastsEnd (layout_of_loop k zs ps) b (store_item S mask q env a o (home i (Some T) b env t) rest)) (sym stream.is)
        (store_casts (layout_of_loop k zs ps) b q mask a (operand_at env a) (array_type S a) stream.offset (home i (Some T) b env t) rest (λ r made lo. value_ends t T b q r h from made lo))

    pub store_steps : (a : List ℕ) (j : Term) (T : Ty) (mask : Option ℕ) (q p : ℕ) (x : Operand) (rest : List Item) → IsStream i j → At k q (IsStore a j) q None → array_type S a ≡ Some T → FitsOperand (layout_of_loop k zs ps) f.w q T x → FitsMask (layout_of_loop k zs ps) q mask → p ≡ q + 1
        → FitsSteps (layout_of_loop k zs ps) f p rest → FitsSteps (layout_of_loop k zs ps) f q (store_item S mask q env a (stream_offset i j) x rest)
    store_steps a j T mask q p x rest stream at e ox masked number following =
        let L = layout_of_loop k zs ps in
        let here =
        plain_step L f q p mask (ops.Store a (operand_at env a) (Some T) stream.offset x) rest number masked
        (array_fits k zs ps f setting few v tk ins b0 env names a T e, stream.near, ox, nothing_made k zs ps f setting few q at.known.gives.value_last_use at.known.gives.truth_last_use) (λ r next. refl) following in
        let there : FitsSteps L f q (store_item S mask q env a (Some stream.offset) x rest) = subst (λ z. FitsSteps L f q (item q mask (ops.Store a (operand_at env a) z stream.offset x) ∷ rest)) (sym e) here in
        subst (λ z. FitsSteps L f q (store_item S mask q env a z x rest)) (sym stream.is) there

    -- ---- updates

    sum_home : (x : List ℕ) (T : Ty) (bd : Binding) (s : Operand) → accumulator_type bd ≡ Some T → HomeIs k b0 x bd s → var_type x k.vars ≡ Some T
    sum_home x T (binding.Scalar t) s e h = absurd cc
    sum_home x T (binding.Array t) s e h = absurd cc
    sum_home x T (binding.Accumulator t) s e h = h ∙ e
    sum_home x T (binding.Value t) s e h = absurd cc
    sum_home x T binding.Index s e h = absurd cc

    sum_in : (x : List ℕ) (T : Ty) (o : Option Binding) → binding_at v x ≡ o → option_and_then accumulator_type o ≡ Some T → var_type x k.vars ≡ Some T
    sum_in x T None e g = absurd cc
    sum_in x T (Some bd) e g = sum_home x T bd (operand_at env x) g (names.home x bd e)

    pub update_steps : (x : List ℕ) (op : UpdateOp) (T : Ty) (mask : Option ℕ) (q p : ℕ) (s : Operand) (rest : List Item) → At k q (IsUpdate x op) q None → accumulator_of S x ≡ Some T → FitsOperand (layout_of_loop k zs ps) f.w q T s → FitsMask (layout_of_loop k zs ps) q mask → p ≡ q + 1
        → FitsSteps (layout_of_loop k zs ps) f p rest → FitsSteps (layout_of_loop k zs ps) f q (item q mask (ops.Update x op (Some T) s) ∷ rest)
    update_steps x op T mask q p s rest at e os masked number following =
        let L = layout_of_loop k zs ps in
        let var = sum_in x T (binding_at v x) refl e in
        plain_step L f q p mask (ops.Update x op (Some T) s) rest number masked
        (at.known.gives.content T var, at.known.operator x op refl, ap (λ o. unwrap_or o U64) var, os, nothing_made k zs ps f setting few q at.known.gives.value_last_use at.known.gives.truth_last_use) (λ r next. refl) following
