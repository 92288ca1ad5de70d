-- The register of the loop variable: the lanes are doublewords where it has one, and it is that of nothing else.
use Rattle.std.proofs.Common.{◌≡◌, ◌≢◌, ℕ, ◌<◌, ◌≤◌, Bool, true, false, cond, List, [], ◌∷◌, ◌++◌, map, Option, Some, None, refl, sym, ap, ◌∙◌, subst, arith}
use Rattle.std.specs.Prelude.{is_some, option_map, slice_get, filter, ◌||◌}
use Rattle.std.specs.List.{list_any}
use Rattle.std.proofs.Math.Nat.{lt_of_not-le}
use Rattle.std.proofs.lemmas.Option.{slice_get_within, same_Some}
use Rattle.guest_types.specs.declared.length.Width.{Width}
use Rattle.guest_types.specs.declared.length.Width.TheVariants.{D}
use Rattle.guest_types.specs.Length.{width_bits}
use Rattle.kernel_tree.specs.declared.ops.Ty.{Ty}
use Rattle.kernel_tree.specs.Plain.{Parameter, Accumulator, PlainLoop, Program}
use Rattle.kernel_tree.specs.Items.{size_of, index_of, loop_index}
use Rattle.kernel_tree.specs.Typing.{check_fault}
use Rattle.reg_assign.specs.declared.interval.Interval.{Interval}
use Rattle.reg_assign.specs.declared.interval.RegClass.TheVariants.{Z}
use Rattle.reg_assign.specs.Registers.{Assignment}
use Rattle.loop_form.specs.declared.loop_item.Operand.{Operand}
use Rattle.loop_form.specs.declared.loop_item.Operand.TheVariants.{Constant, Outer, LoopIndex, Made}
use Rattle.loop_form.specs.Entries.{Content, IsLiteral, IsName, Entry, loop_entries}
use Rattle.loop_form.specs.Lanes.{lane_width_of}
use Rattle.loop_form.specs.Listing.{names}
use Rattle.loop_form.specs.Needs.{Throughout, scalar_of, is_named_scalar, scalars, new_constant, constants, is_constant, index_held, accumulating_of, is_updated, throughout}
use Rattle.loop_form.specs.Registers.{FitsKernel}
use Rattle.loop_form.proofs.FewItems.{vars-small}
use Rattle.loop_form.proofs.IntervalLaws.{throughout-few}
use Rattle.loop_form.proofs.IntervalRegisters.{Chosen, chosen_of}
use Rattle.loop_form.proofs.PlaceLaws.{throughout-place}
use Rattle.loop_form.proofs.ItemWidths.{AreWide, loop_wide}
use Rattle.chunk_emit.specs.KernelLayout.{register_of, throughout_of, is_same, next_place, place_in, held_place, operand_register}
use Rattle.chunk_emit.proofs.FitsAssigned.{Stands, stands, of_one, there}
use Rattle.chunk_pass.proofs.LaneNames.{AreTyped, index_typed}
use Rattle.kernel_tree.specs.declared.ops.Ty.TheVariants as ty
use Rattle.loop_form.specs.Needs as needs

-- ---- doublewords

abbrev is_index : Throughout → Bool
is_index u = is_same u needs.Index

place_any : (ts : List Throughout) → is_some (place_in needs.Index ts) ≡ true → list_any is_index ts ≡ true
place_any [] e = absurd cc
place_any (u ∷ us) e = by (is_same u needs.Index) e (place_any us)
  where
    before : (o : Option ℕ) → is_some (next_place o) ≡ true → is_some o ≡ true
    before None e = absurd cc
    before (Some m) e = refl

    by : (b : Bool) → is_some (cond b (Some 0) (next_place (place_in needs.Index us))) ≡ true → (is_some (place_in needs.Index us) ≡ true → list_any is_index us ≡ true) → b || list_any is_index us ≡ true
    by true e more = refl
    by false e more = more (before (place_in needs.Index us) e)

-- not among some values, so among those after them
any_following : (xs ys : List Throughout) → list_any is_index xs ≡ false → list_any is_index (xs ++ ys) ≡ true → list_any is_index ys ≡ true
any_following [] ys none e = e
any_following (u ∷ xs) ys none e = by (is_same u needs.Index) none e (any_following xs ys)
  where
    by : (b : Bool) → b || list_any is_index xs ≡ false → b || list_any is_index (xs ++ ys) ≡ true → (list_any is_index xs ≡ false → list_any is_index (xs ++ ys) ≡ true → list_any is_index ys ≡ true) → list_any is_index ys ≡ true
    by true none e more = absurd cc
    by false none e more = more none e

scalars_are_no_index : (ps : List Parameter) → list_any is_index (map scalar_of ps) ≡ false
scalars_are_no_index [] = refl
scalars_are_no_index (p ∷ ps) = scalars_are_no_index ps

no_accumulator : (vs : List Accumulator) → list_any is_index (map accumulating_of vs) ≡ false
no_accumulator [] = refl
no_accumulator (v ∷ vs) = no_accumulator vs

no_both : (xs ys : List Throughout) → list_any is_index xs ≡ false → list_any is_index ys ≡ false → list_any is_index (xs ++ ys) ≡ false
no_both [] ys h k = k
no_both (u ∷ xs) ys h k = by (is_same u needs.Index) h (λ g. no_both xs ys g k)
  where
    by : (b : Bool) → b || list_any is_index xs ≡ false → (list_any is_index xs ≡ false → list_any is_index (xs ++ ys) ≡ false) → b || list_any is_index (xs ++ ys) ≡ false
    by true h more = absurd cc
    by false h more = more h

no_new : (before : List Entry) (t : Option Ty) (c : Content) → list_any is_index (new_constant before t c) ≡ false
no_new before t (IsLiteral n) = by (list_any (is_constant t n) before)
  where
    by : (b : Bool) → list_any is_index (cond b [] (needs.Constant t n ∷ [])) ≡ false
    by true = refl
    by false = refl
no_new before t (IsName x) = refl
no_new before t other = refl

no_constant : (before es : List Entry) → list_any is_index (constants before es) ≡ false
unfolding constants
no_constant before [] = refl
no_constant before (e ∷ es) = no_both (new_constant before e.type e.content) (constants (before ++ e ∷ []) es) (no_new before e.type e.content) (no_constant (before ++ e ∷ []) es)

-- it is held where an item names it
index_named : (es : List Entry) (x : List ℕ) (vs : List Accumulator) → list_any is_index (index_held es (Some x) ++ map accumulating_of vs) ≡ true → list_any (names x) es ≡ true
index_named es x vs e = by (list_any (names x) es) e
  where
    by : (b : Bool) → list_any is_index (cond b (needs.Index ∷ []) [] ++ map accumulating_of vs) ≡ true → b ≡ true
    by true e = refl
    by false e = let none = no_accumulator vs in absurd cc

loop_index_named : (k : Program) (x : List ℕ) → loop_index k ≡ Some x → is_some (held_place k LoopIndex) ≡ true → list_any (names x) (loop_entries k) ≡ true
loop_index_named k x e held =
    let vs = filter (is_updated (loop_entries k)) k.vars in
    let one = place_any (throughout k Z) held in
    let two = any_following (scalars (loop_entries k) k.params) _ (scalars_are_no_index (filter (is_named_scalar (loop_entries k)) k.params)) one in
    let three = any_following (constants [] (loop_entries k)) _ (no_constant [] (loop_entries k)) two in
    index_named (loop_entries k) x vs (subst (λ (o : Option (List ℕ)). list_any is_index (index_held (loop_entries k) o ++ map accumulating_of vs) ≡ true) e three)

any_wide : (k : Program) (w : Width) (x : List ℕ) (es : List Entry) → AreWide k w es → AreTyped x es → list_any (names x) es ≡ true → 64 ≤ width_bits w
any_wide k w x [] wide typed e = absurd cc
any_wide k w x (y ∷ es) wide typed e = by (names x y) refl e (any_wide k w x es wide.1 typed.1)
  where
    by : (b : Bool) → names x y ≡ b → b || list_any (names x) es ≡ true → (list_any (names x) es ≡ true → 64 ≤ width_bits w) → 64 ≤ width_bits w
    by true is e more = wide.0.value ty.U64 (typed.0 is)
    by false is e more = more e

only_doublewords : (w : Width) → 64 ≤ width_bits w → w ≡ D
only_doublewords D h = refl
only_doublewords other h = absurd (omega (arith, h))

-- where the loop variable has a register, the lanes are doublewords
pub loop_index_wide : (k : Program) (l : PlainLoop) → check_fault k ≡ None → k.for_loop ≡ Some l → is_some (held_place k LoopIndex) ≡ true → lane_width_of k ≡ D
loop_index_wide k l checked loop held =
    let index : loop_index k ≡ Some l.index = ap (option_map index_of) loop in
    only_doublewords (lane_width_of k) (any_wide k (lane_width_of k) l.index (loop_entries k) (loop_wide k) (index_typed k l checked loop) (loop_index_named k l.index index held))

-- ---- a register of its own

abbrev is_index_one : Option Throughout → Bool
is_index_one None = false
is_index_one (Some t) = is_index t

operand_is_no_index : (k : Program) (x : Operand) → x ≢ LoopIndex → is_index_one (throughout_of k x) ≡ false
operand_is_no_index k (Constant t n) ne = refl
operand_is_no_index k (Outer p) ne = by (slice_get k.params p)
  where
    by : (o : Option Parameter) → is_index_one (option_map scalar_of o) ≡ false
    by None = refl
    by (Some p) = refl
operand_is_no_index k LoopIndex ne = absurd (ne refl)
operand_is_no_index k (Made q) ne = refl

-- a value that is the same as the loop variable and as another one
both_index : (it t : Throughout) → is_same it needs.Index ≡ true → is_same it t ≡ true → is_index t ≡ true
both_index needs.Index needs.Index e f = refl
both_index needs.Index (needs.Scalar x) e f = absurd cc
both_index needs.Index (needs.Constant s n) e f = absurd cc
both_index needs.Index (needs.Accumulating x) e f = absurd cc
both_index (needs.Scalar x) t e f = absurd cc
both_index (needs.Constant s n) t e f = absurd cc
both_index (needs.Accumulating x) t e f = absurd cc

operand_is : (k : Program) (a : Assignment) (x : Operand) → is_some (held_place k x) ≡ true → operand_register k a x ≡ register_of 31 a (held_place k x)
operand_is k a (Constant t n) e = refl
operand_is k a (Outer p) e = refl
operand_is k a LoopIndex e = refl
operand_is k a (Made q) e = absurd cc

pub loop_index_apart : (k : Program) (a : Assignment) → FitsKernel k Z a → is_some (held_place k LoopIndex) ≡ true → (x : Operand) → is_some (held_place k x) ≡ true → x ≢ LoopIndex → operand_register k a x ≢ operand_register k a LoopIndex
loop_index_apart k a f index_place x held ne same =
    let chosen : Chosen k Z a = chosen_of k Z a f in
    let all = throughout k Z in
    let always : Interval = record { from = 0; last_use = size_of k } in
    let p = there (held_place k LoopIndex) index_place in
    let q = there (held_place k x) held in
    let t = of_one all (throughout_of k x) q.0 q.1 in
    let sp : Stands needs.Index all p.0 = stands needs.Index all p.0 p.1 in
    let sq : Stands t.0 all q.0 = stands t.0 all q.0 t.2 in
    let inside_p = slice_get_within all p.0 sp.it sp.is in
    let inside_q = slice_get_within all q.0 sq.it sq.is in
    let differ : q.0 ≢ p.0 = λ e.
    let one : sq.it ≡ sp.it = same_Some sq.it sp.it (sym sq.is ∙ ap (slice_get all) e ∙ sp.is) in
    let yes : is_index t.0 ≡ true = both_index sp.it t.0 sp.same (ap (λ i. is_same i t.0) (sym one) ∙ sq.same) in
    let none : is_index t.0 ≡ false = sym (ap is_index_one t.1) ∙ operand_is_no_index k x ne in
    cc in
    let most = throughout-few k Z in
    let vars = vars-small (loop_index k) k.vars in
    let some : 0 < size_of k = lt_of_not-le (λ none. differ (omega (arith, none, inside_p, inside_q, most, vars))) in
    chosen.apart q.0 p.0 0 always always differ (throughout-place k Z q.0 inside_q) (throughout-place k Z p.0 inside_p) (omega arith) some (omega arith) some
    (sym (ap (register_of 31 a) q.1) ∙ sym (operand_is k a x held) ∙ same ∙ ap (register_of 31 a) p.1)
