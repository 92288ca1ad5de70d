-- Each operand of a checked kernel's loop is in a register and of its type, and each condition is needed until it is used.
use Rattle.std.proofs.Common.{◌≡◌, ℕ, ◌+◌, ◌<◌, ◌≤◌, ℤ, Bool, true, false, List, [], ◌∷◌, Option, Some, None, refl, sym, ap, ◌∙◌, subst, arith}
use Rattle.std.specs.Prelude.{is_some, option_and_then, unwrap_or, if◌then◌else◌}
use Rattle.guest_types.specs.Length.{width_bits}
use Rattle.kernel_tree.specs.declared.ops.Ty.{Ty}
use Rattle.kernel_tree.specs.declared.ops.Ty.TheVariants.{U64}
use Rattle.kernel_tree.specs.declared.fault.Binding.{Binding}
use Rattle.kernel_tree.specs.Plain.{Term, Literal, Variable, Element, Unary, Operation, Shift, Conversion, Choice, Comparison, Both, Either, Not, Program}
use Rattle.kernel_tree.specs.Wrap.{bits_of}
use Rattle.kernel_tree.specs.Items.{stream_offset, term_size, index_items, loop_index}
use Rattle.kernel_tree.specs.Typing.{Scope, Local, own, value_type, index_type, side_type, array_type}
use Rattle.kernel_tree.proofs.Names.{bytes_eq-refl}
use Rattle.reg_assign.specs.declared.interval.RegClass.TheVariants.{Z, P}
use Rattle.reg_assign.specs.Registers.{Assignment}
use Rattle.loop_form.specs.declared.loop_item.Operand.{Operand}
use Rattle.loop_form.specs.declared.loop_item.Operand.TheVariants.{Constant, Made}
use Rattle.loop_form.specs.Entries.{Content, IsLiteral, IsName, IsRead}
use Rattle.loop_form.specs.LoopItems.{Bound, Item, operand_at, home, truth_home, gather_item, load_item, term_items, cond_items, loop_items_of}
use Rattle.lane_emit.specs.ItemCode.{made_type, makes_truth}
use Rattle.chunk_emit.specs.Chunk.{Setting}
use Rattle.chunk_emit.specs.Fits.{FitsInRegister, FitsOperand, FitsTruth}
use Rattle.chunk_emit.specs.KernelLayout.{held_place, scalar_type, operand_type, item_last_use, type_in, tests_in, truth_last_use, layout_of_loop}
use Rattle.chunk_emit.specs.LoopFits.{FitsSetting}
use Rattle.chunk_emit.proofs.FitsKnown.{At}
use Rattle.chunk_emit.proofs.FitsNames.{binding_at, HomeIs, Names}
use Rattle.chunk_emit.proofs.FitsNumbers.{IsBefore}
use Rattle.chunk_emit.proofs.FitsTrees.{KnownValue, KnownTruth}
use Rattle.kernel_tree.specs.declared.fault.Binding.TheVariants as binding

-- ---- the types of items

-- what an item makes, and its type, are those of its number, and no item stands between it and those after it
pub record IsTyped (k : Program) (it : Item) (rest : List Item) : Type 0 where
  pub type : type_in (loop_items_of k) it.item ≡ made_type it.op
  pub truth : tests_in (loop_items_of k) it.item ≡ makes_truth it.op
  pub gap : (r : ℕ) → it.item < r → IsBefore r rest → tests_in (loop_items_of k) r ≡ false

abbrev pub AllTyped : Program → List Item → Type 0
AllTyped k [] = Unit {0}
AllTyped k (it ∷ items) = IsTyped k it items × AllTyped k items

load_typed : (k : Program) (s : Scope) (mask : Option ℕ) (q : ℕ) (env : List Bound) (a : List ℕ) (o : Option ℤ) (gathered rest : List Item) → (AllTyped k gathered → AllTyped k rest) → AllTyped k (load_item s mask q env a o gathered rest) → AllTyped k rest
load_typed k s mask q env a None gathered rest f h = f h
load_typed k s mask q env a (Some c) gathered rest f h = h.1

record TermTyped (k : Program) (t : Term) : Type 0 where
  as_value : (s : Scope) (want : Option Ty) (mask : Option ℕ) (b : ℕ) (env : List Bound) (rest : List Item) → AllTyped k (term_items s want mask b env t rest) → AllTyped k rest
  as_cond : (s : Scope) (mask : Option ℕ) (b : ℕ) (env : List Bound) (rest : List Item) → AllTyped k (cond_items s mask b env t rest) → AllTyped k rest

term_typed : (k : Program) (t : Term) → TermTyped k t
term_typed k (Literal n) = record { as_value = λ s want mask b env rest h. h; as_cond = λ s mask b env rest h. h }
term_typed k (Variable x) = record { as_value = λ s want mask b env rest h. h; as_cond = λ s mask b env rest h. h }
term_typed k (Element a j) = record { as_value = λ s want mask b env rest h. load_typed k s mask (b + index_items s.index j) env a (stream_offset s.index j) (term_items s (index_type s j) mask b env j (gather_item s mask b (b + index_items s.index j) env a j ∷ rest)) rest (λ g. ((term_typed k j).as_value s (index_type s j) mask b env (gather_item s mask b (b + index_items s.index j) env a j ∷ rest) g).1) h; as_cond = λ s mask b env rest h. h }
term_typed k (Unary op e) = record { as_value = λ s want mask b env rest h. ((term_typed k e).as_value s want mask b env _ h).1; as_cond = λ s mask b env rest h. h }
term_typed k (Operation op x y) = record { as_value = λ s want mask b env rest h. ((term_typed k y).as_value s want mask _ env _ ((term_typed k x).as_value s want mask b env _ h)).1; as_cond = λ s mask b env rest h. h }
term_typed k (Shift to_left e n) = record { as_value = λ s want mask b env rest h. ((term_typed k e).as_value s want mask b env _ h).1; as_cond = λ s mask b env rest h. h }
term_typed k (Conversion e t) = record { as_value = λ s want mask b env rest h. ((term_typed k e).as_value s (own s e) mask b env _ h).1; as_cond = λ s mask b env rest h. h }
term_typed k (Choice c x y) = record {
  as_value = λ s want mask b env rest h. ((term_typed k c).as_cond s mask _ env _ ((term_typed k y).as_value s want mask _ env _ ((term_typed k x).as_value s want mask b env _ h))).1;
  as_cond = λ s mask b env rest h. h;
}
term_typed k (Comparison op x y) = record {
  as_value = λ s want mask b env rest h. h;
  as_cond = λ s mask b env rest h. ((term_typed k y).as_value s (side_type s x y) mask _ env _ ((term_typed k x).as_value s (side_type s x y) mask b env _ h)).1;
}
term_typed k (Both x y) = record {
  as_value = λ s want mask b env rest h. h;
  as_cond = λ s mask b env rest h. ((term_typed k y).as_cond s (Some (truth_home s.index b x)) _ env _ ((term_typed k x).as_cond s mask b env _ h)).1;
}
term_typed k (Either x y) = record {
  as_value = λ s want mask b env rest h. h;
  as_cond = λ s mask b env rest h. ((term_typed k y).as_cond s (Some (b + term_size s.index x)) _ env _ ((term_typed k x).as_cond s mask b env _ h).1).1;
}
term_typed k (Not e) = record { as_value = λ s want mask b env rest h. h; as_cond = λ s mask b env rest h. ((term_typed k e).as_cond s mask b env _ h).1 }

pub value_following : (k : Program) (t : Term) (s : Scope) (want : Option Ty) (mask : Option ℕ) (b : ℕ) (env : List Bound) (rest : List Item) → AllTyped k (term_items s want mask b env t rest) → AllTyped k rest
value_following k t = (term_typed k t).as_value

pub truth_following : (k : Program) (t : Term) (s : Scope) (mask : Option ℕ) (b : ℕ) (env : List Bound) (rest : List Item) → AllTyped k (cond_items s mask b env t rest) → AllTyped k rest
truth_following k t = (term_typed k t).as_cond

pub made_is : (k : Program) (q : ℕ) (T : Ty) → type_in (loop_items_of k) q ≡ Some T → operand_type k (Made q) ≡ T
made_is k q T e = ap (λ o. unwrap_or o U64) e

-- ---- operands

module _ (k : Program) (zs ps : Assignment) (f : Setting) (setting : FitsSetting k f) where
  abbrev i : Option (List ℕ)
  i = loop_index k

  pub at_width : (q : ℕ) (c : Content) (u : ℕ) (T : Ty) → At k q c u (Some T) → bits_of T ≤ width_bits f.w
  at_width q c u T at = let h = at.known.wide.value T at.type in let same = ap width_bits setting.width in omega (arith, h, same)

  made_fits : (q u : ℕ) (T : Ty) → q < u → item_last_use k Z q ≡ u → type_in (loop_items_of k) q ≡ Some T → bits_of T ≤ width_bits f.w → FitsOperand (layout_of_loop k zs ps) f.w u T (Made q)
  made_fits q u T lt last_use type wide = (((lt, omega (arith, last_use)), made_is k q T type), wide)

  literal_fits : (b u : ℕ) (T : Ty) (n : ℤ) → At k b (IsLiteral n) u (Some T) → FitsOperand (layout_of_loop k zs ps) f.w u T (Constant (Some T) n)
  literal_fits b u T n at = ((subst (λ o. is_some (held_place k (Constant o n)) ≡ true) at.type at.known.gives.content, refl), at_width b _ u T at)

  module _ (v : List Local) (tk : List (List ℕ)) (ins : Bool) (b0 : ℕ) (env : List Bound) (names : Names k b0 v env) where
    abbrev S : Scope
    S = record { visible = v; taken = tk; index = loop_index k; inside = ins }

    home_fits : (x : List ℕ) (T : Ty) (b u : ℕ) (bd : Binding) (s : Operand) → b0 ≤ u → At k b (IsName x) u (Some T) → value_type bd ≡ Some T → HomeIs k b0 x bd s → FitsInRegister (layout_of_loop k zs ps) u T s
    home_fits x T b u (binding.Scalar t) s le at e h =
        let same : t ≡ T = cc in
        subst (FitsInRegister (layout_of_loop k zs ps) u T) (sym h.1) (at.known.gives.content.0 h.0 t h.2, ap scalar_type h.2 ∙ same)
    home_fits x T b u (binding.Array t) s le at e h = absurd cc
    home_fits x T b u (binding.Accumulator t) s le at e h = let unread = at.known.unread x t h in let read = bytes_eq-refl x in absurd cc
    home_fits x T b u (binding.Value t) s le at e h =
        let same : t ≡ T = cc in
        let lt = h.before in
        let last_use = h.last_use in
        let used = at.known.used x h.from (bytes_eq-refl x) in
        subst (FitsInRegister (layout_of_loop k zs ps) u T) (sym h.is) ((omega (arith, lt, le), omega (arith, last_use, used)), h.type ∙ same)
    home_fits x T b u binding.Index s le at e h =
        let same : U64 ≡ T = cc in
        subst (FitsInRegister (layout_of_loop k zs ps) u T) (sym h.0) (at.known.gives.content.1 h.1, same)

    name_fits : (x : List ℕ) (T : Ty) (b u : ℕ) → b0 ≤ u → At k b (IsName x) u (Some T) → (o : Option Binding) → binding_at v x ≡ o → option_and_then value_type o ≡ Some T → FitsInRegister (layout_of_loop k zs ps) u T (operand_at env x)
    name_fits x T b u le at None e g = absurd cc
    name_fits x T b u le at (Some bd) e g = home_fits x T b u bd (operand_at env x) le at g (names.home x bd e)

    read_type : (a : List ℕ) (mask : Option ℕ) (q : ℕ) (gathered rest : List Item) (o : Option ℤ) → (AllTyped k gathered → type_in (loop_items_of k) q ≡ array_type S a) → AllTyped k (load_item S mask q env a o gathered rest) → type_in (loop_items_of k) q ≡ array_type S a
    read_type a mask q gathered rest None f h = f h
    read_type a mask q gathered rest (Some c) f h = h.0.type

    read_fits : (a : List ℕ) (j : Term) (T : Ty) (mask : Option ℕ) (b u : ℕ) (rest : List Item) → At k (b + index_items i j) (IsRead a j) u (Some T) → array_type S a ≡ Some T → b + index_items i j < u → AllTyped k (term_items S (Some T) mask b env (Element a j) rest) → FitsOperand (layout_of_loop k zs ps) f.w u T (Made (b + index_items i j))
    read_fits a j T mask b u rest at e lt typed =
        let q : ℕ = b + index_items i j in
        let gathered : List Item = term_items S (index_type S j) mask b env j (gather_item S mask b q env a j ∷ rest) in
        made_fits q u T lt at.known.gives.value_last_use (read_type a mask q gathered rest (stream_offset i j) (λ g. (value_following k j S (index_type S j) mask b env (gather_item S mask b q env a j ∷ rest) g).0.type) typed ∙ e) (at_width q _ u T at)

    -- the value of an expression is in a register until its user
    pub operand_fits : (t : Term) (T : Ty) (mask : Option ℕ) (b u : ℕ) (rest : List Item) → KnownValue k S T b u t → b0 ≤ u → b + term_size i t ≤ u → AllTyped k (term_items S (Some T) mask b env t rest) → FitsOperand (layout_of_loop k zs ps) f.w u T (home i (Some T) b env t)
    operand_fits (Literal n) T mask b u rest h from le typed = literal_fits b u T n h
    operand_fits (Variable x) T mask b u rest h from le typed = (name_fits x T b u from h.0 (binding_at v x) refl h.1, at_width b _ u T h.0)
    operand_fits (Element a j) T mask b u rest h from le typed = read_fits a j T mask b u rest h.0 h.1 (omega (arith, le)) typed
    operand_fits (Unary op x) T mask b u rest h from le typed = made_fits _ u T (omega (arith, le)) h.1.known.gives.value_last_use (value_following k x S (Some T) mask b env _ typed).0.type (at_width _ _ u T h.1)
    operand_fits (Operation op x y) T mask b u rest h from le typed =
        made_fits _ u T (omega (arith, le)) h.2.known.gives.value_last_use (value_following k y S (Some T) mask _ env _ (value_following k x S (Some T) mask b env _ typed)).0.type (at_width _ _ u T h.2)
    operand_fits (Shift to_left x n) T mask b u rest h from le typed = made_fits _ u T (omega (arith, le)) h.1.known.gives.value_last_use (value_following k x S (Some T) mask b env _ typed).0.type (at_width _ _ u T h.1)
    operand_fits (Conversion x t) T mask b u rest h from le typed =
        made_fits _ u T (omega (arith, le)) h.3.known.gives.value_last_use ((value_following k x S (own S x) mask b env _ typed).0.type ∙ ap Some (sym h.4)) (at_width _ _ u T h.3)
    operand_fits (Choice c x y) T mask b u rest h from le typed =
        made_fits _ u T (omega (arith, le)) h.3.known.gives.value_last_use (truth_following k c S mask _ env _ (value_following k y S (Some T) mask _ env _ (value_following k x S (Some T) mask b env _ typed))).0.type (at_width _ _ u T h.3)
    operand_fits (Comparison op x y) T mask b u rest h from le typed = absurd h
    operand_fits (Both x y) T mask b u rest h from le typed = absurd h
    operand_fits (Either x y) T mask b u rest h from le typed = absurd h
    operand_fits (Not x) T mask b u rest h from le typed = absurd h

-- ---- conditions

-- a condition is needed no longer than the listing has it, and as long where an item makes it
pub truth_less : (k : Program) (q : ℕ) → truth_last_use k q ≤ item_last_use k P q
truth_less k q = by (tests_in (loop_items_of k) q)
  where
    by : (b : Bool) → (if b then item_last_use k P q else 0) ≤ item_last_use k P q
    by true = omega arith
    by false = omega arith

pub truth_same : (k : Program) (q : ℕ) → tests_in (loop_items_of k) q ≡ true → truth_last_use k q ≡ item_last_use k P q
truth_same k q e = ap (λ b. if b then item_last_use k P q else 0) e

pub truth_none : (k : Program) (q : ℕ) → tests_in (loop_items_of k) q ≡ false → truth_last_use k q ≡ 0
truth_none k q e = ap (λ b. if b then item_last_use k P q else 0) e

-- the item of a condition stands among its items, and is used last by `user`
pub record TruthIs (k : Program) (b user : ℕ) (t : Term) : Type 0 where
  pub before : truth_home (loop_index k) b t < b + term_size (loop_index k) t
  pub last_use : truth_last_use k (truth_home (loop_index k) b t) ≡ user

-- its item, before those after it
record Tested (k : Program) (b : ℕ) (t : Term) (rest : List Item) : Type 0 where
  made : tests_in (loop_items_of k) (truth_home (loop_index k) b t) ≡ true
  gap : (r : ℕ) → truth_home (loop_index k) b t < r → IsBefore r rest → tests_in (loop_items_of k) r ≡ false

module _ (k : Program) (v : List Local) (tk : List (List ℕ)) (ins : Bool) where
  abbrev C : Scope
  C = record { visible = v; taken = tk; index = loop_index k; inside = ins }

  tested : (t : Term) (mask : Option ℕ) (b user : ℕ) (env : List Bound) (rest : List Item) → KnownTruth k C b user t → AllTyped k (cond_items C mask b env t rest) → Tested k b t rest
  tested (Comparison op x y) mask b user env rest h typed = let here = (value_following k y C (side_type C x y) mask _ env _ (value_following k x C (side_type C x y) mask b env _ typed)).0 in record { made = here.truth; gap = here.gap }
  tested (Both x y) mask b user env rest h typed = let here = (truth_following k y C (Some (truth_home (loop_index k) b x)) _ env _ (truth_following k x C mask b env _ typed)).0 in record { made = here.truth; gap = here.gap }
  tested (Either x y) mask b user env rest h typed = let here = (truth_following k y C (Some (b + term_size (loop_index k) x)) _ env _ (truth_following k x C mask b env _ typed).1).0 in record { made = here.truth; gap = here.gap }
  tested (Not x) mask b user env rest h typed = let here = (truth_following k x C mask b env _ typed).0 in record { made = here.truth; gap = here.gap }
  tested (Literal n) mask b user env rest h typed = absurd h
  tested (Variable x) mask b user env rest h typed = absurd h
  tested (Element a j) mask b user env rest h typed = absurd h
  tested (Unary op x) mask b user env rest h typed = absurd h
  tested (Operation op x y) mask b user env rest h typed = absurd h
  tested (Shift to_left x n) mask b user env rest h typed = absurd h
  tested (Conversion x t) mask b user env rest h typed = absurd h
  tested (Choice c x y) mask b user env rest h typed = absurd h

  used_by : (t : Term) (b user : ℕ) → KnownTruth k C b user t → (truth_home (loop_index k) b t < b + term_size (loop_index k) t) × (item_last_use k P (truth_home (loop_index k) b t) ≡ user)
  used_by (Comparison op x y) b user h = (omega arith, h.4.known.gives.truth_last_use)
  used_by (Both x y) b user h = (omega arith, h.2.known.gives.truth_last_use)
  used_by (Either x y) b user h = (omega arith, h.3.known.gives.truth_last_use)
  used_by (Not x) b user h = (omega arith, h.1.known.gives.truth_last_use)
  used_by (Literal n) b user h = absurd h
  used_by (Variable x) b user h = absurd h
  used_by (Element a j) b user h = absurd h
  used_by (Unary op x) b user h = absurd h
  used_by (Operation op x y) b user h = absurd h
  used_by (Shift to_left x n) b user h = absurd h
  used_by (Conversion x t) b user h = absurd h
  used_by (Choice c x y) b user h = absurd h

  pub truth_is : (t : Term) (mask : Option ℕ) (b user : ℕ) (env : List Bound) (rest : List Item) → KnownTruth k C b user t → AllTyped k (cond_items C mask b env t rest) → TruthIs k b user t
  truth_is t mask b user env rest h typed = let used = used_by t b user h in record { before = used.0; last_use = truth_same k _ (tested t mask b user env rest h typed).made ∙ used.1 }

pub truth_lasts : (k : Program) (zs ps : Assignment) (t : Term) (b user r : ℕ) → TruthIs k b user t → b + term_size (loop_index k) t ≤ r → r ≤ user → FitsTruth (layout_of_loop k zs ps) r (truth_home (loop_index k) b t)
truth_lasts k zs ps t b user r h from to = let lt = h.before in let last_use = h.last_use in (omega (arith, lt, from), omega (arith, last_use, to))
