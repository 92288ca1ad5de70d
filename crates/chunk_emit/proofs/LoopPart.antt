-- The items of a loop among those of its kernel.
use Rattle.std.proofs.Common.{◌≡◌, ℕ, zero, suc, ◌+◌, ◌≤◌, List, [], ◌∷◌, ◌++◌, length, map, take, drop, Some, None, refl, sym, ap, ◌∙◌, arith}
use Rattle.std.specs.Prelude.{slice_get, slice_index, unwrap_or}
use Rattle.std.proofs.lemmas.List.{length-append, length-map, append_assoc}
use Rattle.kernel_tree.specs.Plain.{Parameter, Accumulator, Program}
use Rattle.kernel_tree.specs.Items.{term_size, vars_size, loop_index, loop_start, loop_end}
use Rattle.loop_form.specs.declared.item.Item.{Item}
use Rattle.loop_form.specs.declared.item.ItemKind.TheVariants as kind
use Rattle.loop_form.specs.Entries.{Entry, IsPlain, entry, term_entries, params_entries, vars_entries, answer_entries, entries_of, loop_entries}
use Rattle.loop_form.specs.Listing.{item_of, listing_of}
use Rattle.loop_form.proofs.Numbers.{term-listed}
use Rattle.reg_assign.specs.declared.interval.RegClass.TheVariants.{Z, P}
use Rattle.chunk_emit.specs.KernelLayout.{last_in}
use Rattle.chunk_emit.specs.LastUses.{z_last, p_last}

params_count : (k : Program) (from : ℕ) (ps : List Parameter) → length (params_entries k from ps) ≡ length ps
params_count k from [] = refl
params_count k from (p ∷ ps) = let h = params_count k (from + 1) ps in omega (arith, h)

vars_count : (k : Program) (from : ℕ) (vs : List Accumulator) → length (vars_entries k from vs) ≡ vars_size (loop_index k) vs
vars_count k from [] = refl
vars_count k from (v ∷ vs) =
    let item = from + term_size (loop_index k) v.init in
    let first = (term-listed k from item v.init (omega arith)).count in
    let h = vars_count k (item + 1) vs in
    let both = length-append (term_entries k from item v.init) (entry k item (IsPlain kind.Var) item ∷ vars_entries k (item + 1) vs) in
    omega (arith, first, h, both)

first_part : {A B : Type 0} (f : A → B) (ys zs : List A) → take (length ys) (map f (ys ++ zs)) ≡ map f ys
first_part f [] zs = refl
first_part f (y ∷ ys) zs = ap (λ l. f y ∷ l) (first_part f ys zs)

middle_part : {A B : Type 0} (f : A → B) (xs ys zs : List A) → take (length ys) (drop (length xs) (map f (xs ++ (ys ++ zs)))) ≡ map f ys
middle_part f [] ys zs = first_part f ys zs
middle_part f (x ∷ xs) ys zs = middle_part f xs ys zs

-- what stands before the loop
abbrev before : Program → List Entry
before k = params_entries k 0 k.params ++ vars_entries k (length k.params) k.vars

abbrev following : Program → List Entry
following k = answer_entries k (loop_end k) k.answer

before_count : (k : Program) → length (before k) ≡ loop_start k
before_count k =
    let p = params_count k 0 k.params in
    let v = vars_count k (length k.params) k.vars in
    let both = length-append (params_entries k 0 k.params) (vars_entries k (length k.params) k.vars) in
    omega (arith, p, v, both)

entries_of_kernel : (k : Program) → entries_of k ≡ before k ++ (loop_entries k ++ following k)
entries_of_kernel k = sym (append_assoc (params_entries k 0 k.params) (vars_entries k (length k.params) k.vars) (loop_entries k ++ following k))

loop_within : (k : Program) → loop_start k + length (loop_entries k) ≤ length (entries_of k)
loop_within k =
    let b = before_count k in
    let all = ap length (entries_of_kernel k) in
    let both = length-append (before k) (loop_entries k ++ following k) in
    let two = length-append (loop_entries k) (following k) in
    omega (arith, b, all, both, two)

pub listed_within : (k : Program) → loop_start k + length (loop_entries k) ≤ length (listing_of k)
listed_within k = let within = loop_within k in let same = length-map (entries_of k) (item_of (entries_of k)) in omega (arith, within, same)

loop_part : (k : Program) → take (length (loop_entries k)) (drop (loop_start k) (listing_of k)) ≡ map (item_of (entries_of k)) (loop_entries k)
loop_part k =
    ap (λ n. take (length (loop_entries k)) (drop n (listing_of k))) (sym (before_count k)) ∙ ap (λ es. take (length (loop_entries k)) (drop (length (before k)) (map (item_of (entries_of k)) es))) (entries_of_kernel k)
    ∙ middle_part (item_of (entries_of k)) (before k) (loop_entries k) (following k)

values_last : (all es : List Entry) → map z_last (map (item_of all) es) ≡ map (last_in Z all) es
values_last all [] = refl
values_last all (e ∷ es) = ap (λ l. last_in Z all e ∷ l) (values_last all es)

truths_last : (all es : List Entry) → map p_last (map (item_of all) es) ≡ map (last_in P all) es
truths_last all [] = refl
truths_last all (e ∷ es) = ap (λ l. last_in P all e ∷ l) (truths_last all es)

pub value_uses : (k : Program) → map z_last (take (length (loop_entries k)) (drop (loop_start k) (listing_of k))) ≡ map (last_in Z (entries_of k)) (loop_entries k)
value_uses k = ap (map z_last) (loop_part k) ∙ values_last (entries_of k) (loop_entries k)

pub truth_uses : (k : Program) → map p_last (take (length (loop_entries k)) (drop (loop_start k) (listing_of k))) ≡ map (last_in P (entries_of k)) (loop_entries k)
truth_uses k = ap (map p_last) (loop_part k) ∙ truths_last (entries_of k) (loop_entries k)

-- ---- the last use of the item at a place

pub last_of_none : (f : Item → ℕ) (items : List Item) (n : ℕ) → slice_get items n ≡ None → slice_index (map f items) n ≡ 0
last_of_none f [] n e = refl
last_of_none f (it ∷ items) zero e = absurd cc
last_of_none f (it ∷ items) (suc n) e = last_of_none f items n e

pub last_of_some : (f : Item → ℕ) (items : List Item) (n : ℕ) (made : Item) → slice_get items n ≡ Some made → slice_index (map f items) n ≡ f made
last_of_some f [] n made e = absurd cc
last_of_some f (it ∷ items) zero made e = ap (λ o. f (unwrap_or o it)) e
last_of_some f (it ∷ items) (suc n) made e = last_of_some f items n made e
