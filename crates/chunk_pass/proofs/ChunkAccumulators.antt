-- The accumulators that a loop updates, in its listing and in its layout.
use Rattle.std.proofs.Common.{◌≡◌, ℕ, Bool, true, false, cond, ◌||◌, List, [], ◌∷◌, ◌++◌, map, Option, Some, None, refl, sym, ap, ◌∙◌}
use Rattle.std.specs.Prelude.{is_some, filter, bytes_eq}
use Rattle.std.specs.List.{list_any}
use Rattle.std.proofs.lemmas.List.Folds.{list_any-append}
use mathlib.Core.Bool.{or-true}
use Rattle.kernel_tree.specs.declared.ops.Ty.{Ty}
use Rattle.kernel_tree.specs.Plain.{Parameter, Accumulator, Program}
use Rattle.kernel_tree.specs.Items.{loop_index}
use Rattle.reg_assign.specs.declared.interval.RegClass.TheVariants.{Z}
use Rattle.loop_form.specs.Entries.{Content, IsLiteral, IsName, IsRead, IsLet, IsStore, IsUpdate, IsPlain, Entry, loop_entries}
use Rattle.loop_form.specs.Lanes.{var_type}
use Rattle.loop_form.specs.Needs as needs
use Rattle.loop_form.specs.Needs.{Throughout, scalar_of, is_named_scalar, scalars, constants, new_constant, is_constant, index_held, updates, is_updated, accumulating_of, throughout}
use Rattle.vector_order.specs.Order.{is_var, is_accumulator}
use Rattle.chunk_emit.specs.KernelLayout.{is_same, next_place, place_in, sum_place}
use Rattle.chunk_emit.proofs.FitsEntries.{sum_is_held}

-- a value that has a place in a list is in it
same_of_place : (t : Throughout) (ts : List Throughout) → is_some (place_in t ts) ≡ true → list_any (λ u. is_same u t) ts ≡ true
same_of_place t [] e = absurd cc
same_of_place t (u ∷ us) e = by (is_same u t) e (same_of_place t us)
  where
    later : (o : Option ℕ) → is_some (next_place o) ≡ true → is_some o ≡ true
    later None e = absurd cc
    later (Some m) e = refl

    by : (b : Bool) → is_some (cond b (Some 0) (next_place (place_in t us))) ≡ true → (is_some (place_in t us) ≡ true → list_any (λ u. is_same u t) us ≡ true) → b || list_any (λ u. is_same u t) us ≡ true
    by true e more = refl
    by false e more = more (later (place_in t us) e)

module _ (x : List ℕ) where
  abbrev is_sum : Throughout → Bool
  is_sum u = is_same u (needs.Accumulating x)

  in_last : (ts us : List Throughout) → list_any is_sum ts ≡ false → list_any is_sum (ts ++ us) ≡ true → list_any is_sum us ≡ true
  in_last ts us e h = sym (ap (λ b. b || list_any is_sum us) e) ∙ sym (list_any-append is_sum ts us) ∙ h

  none_append : (ts us : List Throughout) → list_any is_sum ts ≡ false → list_any is_sum us ≡ false → list_any is_sum (ts ++ us) ≡ false
  none_append ts us e f = list_any-append is_sum ts us ∙ ap (λ b. b || list_any is_sum us) e ∙ f

  scalars_are_no_sums : (ps : List Parameter) → list_any is_sum (map scalar_of ps) ≡ false
  scalars_are_no_sums [] = refl
  scalars_are_no_sums (p ∷ ps) = scalars_are_no_sums ps

  no_new : (before : List Entry) (t : Option Ty) (c : Content) → list_any is_sum (new_constant before t c) ≡ false
  no_new before t (IsLiteral n) = by (list_any (is_constant t n) before)
    where
      by : (b : Bool) → list_any is_sum (cond b [] (needs.Constant t n ∷ [])) ≡ false
      by true = refl
      by false = refl
  no_new before t (IsName y) = refl
  no_new before t (IsRead a i) = refl
  no_new before t (IsLet y) = refl
  no_new before t (IsStore a i) = refl
  no_new before t (IsUpdate y op) = refl
  no_new before t (IsPlain k) = refl

  no_constant : (before es : List Entry) → list_any is_sum (constants before es) ≡ false
  unfolding constants
  no_constant before [] = refl
  no_constant before (e ∷ es) = none_append (new_constant before e.type e.content) (constants (before ++ e ∷ []) es) (no_new before e.type e.content) (no_constant (before ++ e ∷ []) es)

  index_is_no_sum : (es : List Entry) (o : Option (List ℕ)) → list_any is_sum (index_held es o) ≡ false
  index_is_no_sum es None = refl
  index_is_no_sum es (Some i) = by (list_any _ es)
    where
      by : (b : Bool) → list_any is_sum (cond b (needs.Index ∷ []) []) ≡ false
      by true = refl
      by false = refl

  var_in : (es : List Entry) (vs : List Accumulator) → list_any is_sum (map accumulating_of (filter (is_updated es) vs)) ≡ true → list_any (is_var x) vs ≡ true
  var_in es [] h = absurd cc
  var_in es (v ∷ vs) h = by (is_updated es v) h (var_in es vs)
    where
      or_more : (b : Bool) → b ≡ true → (bytes_eq v.name x || b) ≡ true
      or_more b e = ap (λ c. bytes_eq v.name x || c) e ∙ or-true (bytes_eq v.name x)

      first : (b : Bool) → bytes_eq v.name x ≡ b → b || list_any is_sum (map accumulating_of (filter (is_updated es) vs)) ≡ true → (list_any is_sum (map accumulating_of (filter (is_updated es) vs)) ≡ true → list_any (is_var x) vs ≡ true) → bytes_eq v.name x || list_any (is_var x) vs ≡ true
      first true e h more = ap (λ b. b || list_any (is_var x) vs) e
      first false e h more = or_more (list_any (is_var x) vs) (more h)

      by : (b : Bool) → list_any is_sum (map accumulating_of (cond b (v ∷ filter (is_updated es) vs) (filter (is_updated es) vs))) ≡ true → (list_any is_sum (map accumulating_of (filter (is_updated es) vs)) ≡ true → list_any (is_var x) vs ≡ true) → bytes_eq v.name x || list_any (is_var x) vs ≡ true
      by true h more = first (bytes_eq v.name x) refl h more
      by false h more = or_more (list_any (is_var x) vs) (more h)

  -- what has a register for its sum is an accumulator
  pub sum_accumulator : (k : Program) → is_some (sum_place k x) ≡ true → is_accumulator k x ≡ true
  sum_accumulator k h =
      var_in (loop_entries k) k.vars
      (in_last (index_held (loop_entries k) (loop_index k)) _ (index_is_no_sum (loop_entries k) (loop_index k))
      (in_last (constants [] (loop_entries k)) _ (no_constant [] (loop_entries k))
      (in_last (scalars (loop_entries k) k.params) _ (scalars_are_no_sums (filter (is_named_scalar (loop_entries k)) k.params)) (same_of_place (needs.Accumulating x) (throughout k Z) h))))

  -- an accumulator has a type
  typed_var : (vs : List Accumulator) → list_any (is_var x) vs ≡ true → (t : Ty) × (var_type x vs ≡ Some t)
  typed_var [] h = absurd cc
  typed_var (v ∷ vs) h = by (bytes_eq v.name x) h (typed_var vs)
    where
      by : (b : Bool) → b || list_any (is_var x) vs ≡ true → (list_any (is_var x) vs ≡ true → (t : Ty) × (var_type x vs ≡ Some t)) → (t : Ty) × (cond b (Some v.type) (var_type x vs) ≡ Some t)
      by true h more = (v.type, refl)
      by false h more = more h

  -- an accumulator without a register for its sum is updated by no item of the loop
  pub unupdated : (k : Program) → is_accumulator k x ≡ true → is_some (sum_place k x) ≡ false → list_any (updates x) (loop_entries k) ≡ false
  unupdated k var none = by (list_any (updates x) (loop_entries k)) refl
    where
      by : (b : Bool) → list_any (updates x) (loop_entries k) ≡ b → list_any (updates x) (loop_entries k) ≡ false
      by false e = e
      by true e = let t = typed_var k.vars var in let held = sum_is_held k x t.0 t.1 e in absurd cc
