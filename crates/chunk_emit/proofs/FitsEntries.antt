-- What the listing of a loop gives to its items: until when their values are needed, and that the values from before the loop
-- that they take are held throughout it.
use Rattle.std.proofs.Common.{◌≡◌, ℕ, zero, suc, ◌+◌, ◌-◌, ℤ, Bool, true, false, cond, List, [], ◌∷◌, ◌++◌, length, map, Option, Some, None, refl, sym, ap, ◌∙◌, subst, arith, inl, inr, append_assoc, length-append}
use Rattle.std.specs.Prelude.{is_some, option_map, filter, slice_get, slice_index, bytes_eq, ◌||◌, ◌⊎◌}
use Rattle.std.specs.List.{list_any}
use Rattle.std.proofs.lemmas.Bool.{and_parts, eq-eqb, and_from, or_left, or_right}
use Rattle.std.proofs.lemmas.List.Folds.{list_any-append}
use Rattle.kernel_tree.specs.declared.ops.Ty.{Ty}
use Rattle.kernel_tree.specs.Plain.{Parameter, Accumulator, Program}
use Rattle.kernel_tree.specs.Items.{loop_index, loop_start}
use Rattle.kernel_tree.specs.Typing.{number_of_type, found_at}
use Rattle.kernel_tree.proofs.Names.{bytes_eq-told, bytes_eq-refl}
use Rattle.kernel_tree.proofs.NoFault.{no_mismatch}
use Rattle.reg_assign.specs.declared.interval.RegClass.{RegClass}
use Rattle.reg_assign.specs.declared.interval.RegClass.TheVariants.{Z, P}
use Rattle.loop_form.specs.declared.loop_item.Operand.TheVariants.{Constant, Outer, LoopIndex}
use Rattle.loop_form.specs.Entries.{Content, IsLiteral, IsName, IsUpdate, Entry, entries_of, loop_entries}
use Rattle.loop_form.specs.Lanes.{var_type}
use Rattle.loop_form.specs.Listing.{is_named, names}
use Rattle.loop_form.specs.Needs.{Throughout, scalar_of, scalars, is_named_scalar, constants, new_constant, is_constant, is_literal, same_type, index_held, is_update, updates, is_updated, accumulating_of, throughout}
use Rattle.loop_form.specs.Numbers.{Numbered}
use Rattle.loop_form.proofs.Numbers.{loop-listed}
use Rattle.chunk_emit.specs.KernelLayout.{is_same, next_place, place_in, place_of_one, held_place, sum_place, last_in, item_last_use}
use Rattle.kernel_tree.specs.declared.ast.Shape.TheVariants as shape
use Rattle.kernel_tree.specs.declared.fault.Fault.TheVariants as fault
use Rattle.loop_form.specs.Needs as needs
use Rattle.loop_form.proofs.Places.{same_number-refl, same_number-told}

-- ---- a value that is in a list has a place there

abbrev same_as : Throughout → Throughout → Bool
same_as t u = is_same u t

has_place : (t : Throughout) (ts : List Throughout) → list_any (same_as t) ts ≡ true → is_some (place_in t ts) ≡ true
has_place t [] e = absurd cc
has_place t (u ∷ us) e = by (is_same u t) e (has_place t us)
  where
    later : (o : Option ℕ) → is_some o ≡ true → is_some (next_place o) ≡ true
    later None e = absurd cc
    later (Some m) e = refl

    by : (b : Bool) → b || list_any (same_as t) us ≡ true → (list_any (same_as t) us ≡ true → is_some (place_in t us) ≡ true) → is_some (cond b (Some 0) (next_place (place_in t us))) ≡ true
    by true e more = refl
    by false e more = later (place_in t us) (more e)

any_left : {A : Type 0} (p : A → Bool) (xs ys : List A) → list_any p xs ≡ true → list_any p (xs ++ ys) ≡ true
any_left p xs ys e = list_any-append p xs ys ∙ or_left (list_any p xs) (list_any p ys) e

any_right : {A : Type 0} (p : A → Bool) (xs ys : List A) → list_any p ys ≡ true → list_any p (xs ++ ys) ≡ true
any_right p xs ys e = list_any-append p xs ys ∙ or_right (list_any p xs) (list_any p ys) e

pub list_any_of_middle : {A : Type 0} (p : A → Bool) (xs : List A) (x : A) (ys : List A) → p x ≡ true → list_any p (xs ++ x ∷ ys) ≡ true
list_any_of_middle p xs x ys e = any_right p xs (x ∷ ys) (or_left (p x) (list_any p ys) e)

-- ---- literals

same_type-refl : (t : Option Ty) → same_type t t ≡ true
same_type-refl None = refl
same_type-refl (Some t) = eq-eqb (number_of_type t) (number_of_type t) refl

pub same_type-told : (t u : Option Ty) → same_type t u ≡ true → t ≡ u
same_type-told None None e = refl
same_type-told (Some t) (Some u) e = ap Some (no_mismatch 0 t u (ap (λ b. cond b [] (found_at 0 (fault.Mismatch t u))) e))
same_type-told None (Some u) e = absurd cc
same_type-told (Some t) None e = absurd cc

constant_here : (before : List Entry) (t : Option Ty) (n : ℤ) → (list_any (same_as (needs.Constant t n)) (new_constant before t (IsLiteral n)) ≡ true) ⊎ (list_any (is_constant t n) before ≡ true)
constant_here before t n = by (list_any (is_constant t n) before) refl
  where
    by : (b : Bool) → list_any (is_constant t n) before ≡ b → (list_any (same_as (needs.Constant t n)) (cond b [] (needs.Constant t n ∷ [])) ≡ true) ⊎ (list_any (is_constant t n) before ≡ true)
    by true e = inr e
    by false e = inl (or_left _ false (and_from _ _ (same_type-refl t) (same_number-refl n)))

-- an item that is the literal
constant_at : (before : List Entry) (t u : Option Ty) (n : ℤ) (c : Content) → same_type u t ≡ true → is_literal n c ≡ true → (list_any (same_as (needs.Constant t n)) (new_constant before u c) ≡ true) ⊎ (list_any (is_constant t n) before ≡ true)
constant_at before t u n (IsLiteral m) e f =
    subst (λ (o : Option Ty). (list_any (same_as (needs.Constant t n)) (new_constant before o (IsLiteral m)) ≡ true) ⊎ (list_any (is_constant t n) before ≡ true)) (sym (same_type-told u t e))
    (subst (λ (i : ℤ). (list_any (same_as (needs.Constant t n)) (new_constant before t (IsLiteral i)) ≡ true) ⊎ (list_any (is_constant t n) before ≡ true)) (sym (same_number-told m n f)) (constant_here before t n))
constant_at before t u n (IsName x) e f = absurd cc
constant_at before t u n other e f = absurd cc

-- a literal among some items is among the constants, or stands before them
constant_held : (before es : List Entry) (t : Option Ty) (n : ℤ) → list_any (is_constant t n) es ≡ true → (list_any (same_as (needs.Constant t n)) (constants before es) ≡ true) ⊎ (list_any (is_constant t n) before ≡ true)
unfolding constants
constant_held before [] t n e = absurd cc
constant_held before (x ∷ es) t n e = by (is_constant t n x) refl e (λ h. constant_held (before ++ x ∷ []) es t n h)
  where
    first : is_constant t n x ≡ true → (list_any (same_as (needs.Constant t n)) (new_constant before x.type x.content ++ constants (before ++ x ∷ []) es) ≡ true) ⊎ (list_any (is_constant t n) before ≡ true)
    first f = here (constant_at before t x.type n x.content (and_parts (same_type x.type t) (is_literal n x.content) f).0 (and_parts (same_type x.type t) (is_literal n x.content) f).1)
      where
        here : (list_any (same_as (needs.Constant t n)) (new_constant before x.type x.content) ≡ true) ⊎ (list_any (is_constant t n) before ≡ true)
            → (list_any (same_as (needs.Constant t n)) (new_constant before x.type x.content ++ constants (before ++ x ∷ []) es) ≡ true) ⊎ (list_any (is_constant t n) before ≡ true)
        here (inl h) = inl (any_left (same_as (needs.Constant t n)) (new_constant before x.type x.content) (constants (before ++ x ∷ []) es) h)
        here (inr h) = inr h

    before_or : (b : Bool) → is_constant t n x ≡ b → list_any (is_constant t n) before || (b || false) ≡ true → (list_any (same_as (needs.Constant t n)) (new_constant before x.type x.content ++ constants (before ++ x ∷ []) es) ≡ true) ⊎ (list_any (is_constant t n) before ≡ true)
    before_or true f h = first f
    before_or false f h = inr (split (list_any (is_constant t n) before) h)
      where
        split : (c : Bool) → c || false ≡ true → c ≡ true
        split true h = refl
        split false h = h

    later : (list_any (same_as (needs.Constant t n)) (constants (before ++ x ∷ []) es) ≡ true) ⊎ (list_any (is_constant t n) (before ++ x ∷ []) ≡ true)
        → (list_any (same_as (needs.Constant t n)) (new_constant before x.type x.content ++ constants (before ++ x ∷ []) es) ≡ true) ⊎ (list_any (is_constant t n) before ≡ true)
    later (inl h) = inl (any_right (same_as (needs.Constant t n)) (new_constant before x.type x.content) (constants (before ++ x ∷ []) es) h)
    later (inr h) = before_or (is_constant t n x) refl (sym (list_any-append (is_constant t n) before (x ∷ [])) ∙ h)

    by : (b : Bool) → is_constant t n x ≡ b → b || list_any (is_constant t n) es ≡ true
        → (list_any (is_constant t n) es ≡ true → (list_any (same_as (needs.Constant t n)) (constants (before ++ x ∷ []) es) ≡ true) ⊎ (list_any (is_constant t n) (before ++ x ∷ []) ≡ true))
        → (list_any (same_as (needs.Constant t n)) (new_constant before x.type x.content ++ constants (before ++ x ∷ []) es) ≡ true) ⊎ (list_any (is_constant t n) before ≡ true)
    by true f e more = first f
    by false f e more = later (more e)

abbrev rest_of : Program → List Throughout
rest_of k = index_held (loop_entries k) (loop_index k) ++ map accumulating_of (filter (is_updated (loop_entries k)) k.vars)

pub literal_held : (k : Program) (t : Option Ty) (n : ℤ) → list_any (is_constant t n) (loop_entries k) ≡ true → is_some (held_place k (Constant t n)) ≡ true
literal_held k t n e = has_place (needs.Constant t n) (throughout k Z) (by (constant_held [] (loop_entries k) t n e))
  where
    by : (list_any (same_as (needs.Constant t n)) (constants [] (loop_entries k)) ≡ true) ⊎ (list_any (is_constant t n) [] ≡ true) → list_any (same_as (needs.Constant t n)) (throughout k Z) ≡ true
    by (inl h) = any_right (same_as (needs.Constant t n)) (scalars (loop_entries k) k.params) (constants [] (loop_entries k) ++ rest_of k) (any_left (same_as (needs.Constant t n)) (constants [] (loop_entries k)) (rest_of k) h)
    by (inr h) = absurd cc

-- ---- names

scalar_in : (es : List Entry) (ps : List Parameter) (p : ℕ) (q : Parameter) → slice_get ps p ≡ Some q → is_named_scalar es q ≡ true → list_any (same_as (needs.Scalar q.name)) (scalars es ps) ≡ true
scalar_in es [] p q e named = absurd cc
scalar_in es (x ∷ ps) zero q e named = let same : x ≡ q = cc in first (is_named_scalar es x) (ap (is_named_scalar es) same ∙ named) (ap (λ (r : Parameter). bytes_eq r.name q.name) same ∙ bytes_eq-refl q.name)
  where
    first : (b : Bool) → b ≡ true → bytes_eq x.name q.name ≡ true → list_any (same_as (needs.Scalar q.name)) (map scalar_of (cond b (x ∷ filter (is_named_scalar es) ps) (filter (is_named_scalar es) ps))) ≡ true
    first true e f = or_left _ _ f
    first false e f = absurd cc
scalar_in es (x ∷ ps) (suc p) q e named = later (is_named_scalar es x) (scalar_in es ps p q e named)
  where
    later : (b : Bool) → list_any (same_as (needs.Scalar q.name)) (scalars es ps) ≡ true → list_any (same_as (needs.Scalar q.name)) (map scalar_of (cond b (x ∷ filter (is_named_scalar es) ps) (filter (is_named_scalar es) ps))) ≡ true
    later true h = or_right (bytes_eq x.name q.name) _ h
    later false h = h

-- a scalar parameter that a name item of the loop names
pub scalar_held : (k : Program) (p : ℕ) (x : List ℕ) (t : Ty) → slice_get k.params p ≡ Some (record { name = x; shape = shape.Scalar t }) → list_any (names x) (loop_entries k) ≡ true → is_some (held_place k (Outer p)) ≡ true
scalar_held k p x t e named =
    place (slice_get k.params p) e (has_place (needs.Scalar x) (throughout k Z) (any_left (same_as (needs.Scalar x)) (scalars (loop_entries k) k.params) (constants [] (loop_entries k) ++ rest_of k) (scalar_in (loop_entries k) k.params p (record { name = x; shape = shape.Scalar t }) e named)))
  where
    place : (o : Option Parameter) → o ≡ Some (record { name = x; shape = shape.Scalar t }) → is_some (place_in (needs.Scalar x) (throughout k Z)) ≡ true → is_some (place_of_one (throughout k Z) (option_map scalar_of o)) ≡ true
    place o e h = ap (λ (r : Option Parameter). is_some (place_of_one (throughout k Z) (option_map scalar_of r))) e ∙ h

-- the loop variable, where a name item of the loop names it
pub index_is_held : (k : Program) (i : List ℕ) → loop_index k ≡ Some i → list_any (names i) (loop_entries k) ≡ true → is_some (held_place k LoopIndex) ≡ true
index_is_held k i e named =
    has_place needs.Index (throughout k Z) (any_right (same_as needs.Index) (scalars (loop_entries k) k.params) (constants [] (loop_entries k) ++ rest_of k)
    (any_right (same_as needs.Index) (constants [] (loop_entries k)) (rest_of k)
    (any_left (same_as needs.Index) (index_held (loop_entries k) (loop_index k)) (map accumulating_of (filter (is_updated (loop_entries k)) k.vars)) (ap (λ o. list_any (same_as needs.Index) (index_held (loop_entries k) o)) e ∙ by (list_any (names i) (loop_entries k)) named))))
  where
    by : (b : Bool) → b ≡ true → list_any (same_as needs.Index) (cond b (needs.Index ∷ []) []) ≡ true
    by true e = refl
    by false e = absurd cc

-- ---- accumulators

sum_in : (es : List Entry) (vs : List Accumulator) (x : List ℕ) (t : Ty) → var_type x vs ≡ Some t → list_any (updates x) es ≡ true → list_any (same_as (needs.Accumulating x)) (map accumulating_of (filter (is_updated es) vs)) ≡ true
sum_in es [] x t e updated = absurd cc
sum_in es (v ∷ vs) x t e updated = by (bytes_eq v.name x) refl e (λ h. sum_in es vs x t h updated)
  where
    first : (b : Bool) → b ≡ true → bytes_eq v.name x ≡ true → list_any (same_as (needs.Accumulating x)) (map accumulating_of (cond b (v ∷ filter (is_updated es) vs) (filter (is_updated es) vs))) ≡ true
    first true e f = or_left _ _ f
    first false e f = absurd cc

    later : (b : Bool) → list_any (same_as (needs.Accumulating x)) (map accumulating_of (filter (is_updated es) vs)) ≡ true → list_any (same_as (needs.Accumulating x)) (map accumulating_of (cond b (v ∷ filter (is_updated es) vs) (filter (is_updated es) vs))) ≡ true
    later true h = or_right (bytes_eq v.name x) _ h
    later false h = h

    by : (b : Bool) → bytes_eq v.name x ≡ b → cond b (Some v.type) (var_type x vs) ≡ Some t → (var_type x vs ≡ Some t → list_any (same_as (needs.Accumulating x)) (map accumulating_of (filter (is_updated es) vs)) ≡ true) → list_any (same_as (needs.Accumulating x)) (map accumulating_of (filter (is_updated es) (v ∷ vs))) ≡ true
    by true f e more = first (is_updated es v) (ap (λ y. list_any (updates y) es) (bytes_eq-told v.name x f) ∙ updated) f
    by false f e more = later (is_updated es v) (more e)

-- an accumulator that an item of the loop updates
pub sum_is_held : (k : Program) (x : List ℕ) (t : Ty) → var_type x k.vars ≡ Some t → list_any (updates x) (loop_entries k) ≡ true → is_some (sum_place k x) ≡ true
sum_is_held k x t e updated =
    has_place (needs.Accumulating x) (throughout k Z) (any_right (same_as (needs.Accumulating x)) (scalars (loop_entries k) k.params) (constants [] (loop_entries k) ++ rest_of k)
    (any_right (same_as (needs.Accumulating x)) (constants [] (loop_entries k)) (rest_of k)
    (any_right (same_as (needs.Accumulating x)) (index_held (loop_entries k) (loop_index k)) (map accumulating_of (filter (is_updated (loop_entries k)) k.vars)) (sum_in (loop_entries k) k.vars x t e updated))))

-- ---- what an item of the listing gives

abbrev pub GivesContent : Program → Option Ty → Content → Type 0
GivesContent k t (IsLiteral n) = is_some (held_place k (Constant t n)) ≡ true
GivesContent k t (IsName x) =
    ((p : ℕ) (u : Ty) → slice_get k.params p ≡ Some (record { name = x; shape = shape.Scalar u }) → is_some (held_place k (Outer p)) ≡ true) × (loop_index k ≡ Some x → is_some (held_place k LoopIndex) ≡ true)
GivesContent k t (IsUpdate x op) = (u : Ty) → var_type x k.vars ≡ Some u → is_some (sum_place k x) ≡ true
GivesContent k t _ = Unit {0}

-- until when what it makes is needed, and what is held throughout for it
pub record Gives (k : Program) (e : Entry) : Type 0 where
  pub value_last_use : item_last_use k Z e.item ≡ last_in Z (entries_of k) e
  pub truth_last_use : item_last_use k P e.item ≡ last_in P (entries_of k) e
  pub content : GivesContent k e.type e.content

-- all of some items
abbrev pub AllGive : Program → List Entry → Type 0
AllGive k [] = Unit {0}
AllGive k (e ∷ es) = Gives k e × AllGive k es

pub give_left : (k : Program) (xs ys : List Entry) → AllGive k (xs ++ ys) → AllGive k xs
give_left k [] ys h = tt
give_left k (x ∷ xs) ys h = (h.0, give_left k xs ys h.1)

pub give_right : (k : Program) (xs ys : List Entry) → AllGive k (xs ++ ys) → AllGive k ys
give_right k [] ys h = h
give_right k (x ∷ xs) ys h = give_right k xs ys h.1

index_here : (f : Entry → ℕ) (xs : List Entry) (e : Entry) (ys : List Entry) → slice_index (map f (xs ++ e ∷ ys)) (length xs) ≡ f e
index_here f [] e ys = refl
index_here f (x ∷ xs) e ys = index_here f xs e ys

until_here : (k : Program) (class : RegClass) (xs : List Entry) (e : Entry) (ys : List Entry) → xs ++ e ∷ ys ≡ loop_entries k → e.item ≡ loop_start k + length xs → item_last_use k class e.item ≡ last_in class (entries_of k) e
until_here k class xs e ys split number =
    let place : e.item - loop_start k ≡ length xs = omega (arith, number) in
    ap (slice_index (map (last_in class (entries_of k)) (loop_entries k))) place ∙ ap (λ es. slice_index (map (last_in class (entries_of k)) es) (length xs)) (sym split) ∙ index_here (last_in class (entries_of k)) xs e ys

content_given : (k : Program) (t : Option Ty) (c : Content) (xs : List Entry) (e : Entry) (ys : List Entry) → e.type ≡ t → e.content ≡ c → xs ++ e ∷ ys ≡ loop_entries k → GivesContent k t c
content_given k t (IsLiteral n) xs e ys kind is split = literal_held k t n (ap (list_any (is_constant t n)) (sym split) ∙ list_any_of_middle (is_constant t n) xs e ys (and_from _ _ (ap (λ o. same_type o t) kind ∙ same_type-refl t) (ap (is_literal n) is ∙ same_number-refl n)))
content_given k t (IsName x) xs e ys kind is split =
    let named : list_any (names x) (loop_entries k) ≡ true = ap (list_any (names x)) (sym split) ∙ list_any_of_middle (names x) xs e ys (ap (is_named x) is ∙ bytes_eq-refl x) in
    ((λ p u h. scalar_held k p x u h named), (λ h. index_is_held k x h named))
content_given k t (IsUpdate x op) xs e ys kind is split = λ u h. sum_is_held k x u h (ap (list_any (updates x)) (sym split) ∙ list_any_of_middle (updates x) xs e ys (ap (is_update x) is ∙ bytes_eq-refl x))
content_given k t other xs e ys kind is split = tt

rest_give : (k : Program) (xs es : List Entry) → xs ++ es ≡ loop_entries k → Numbered (loop_start k + length xs) es → AllGive k es
rest_give k xs [] split h = tt
rest_give k xs (e ∷ es) split h =
    let one : length (xs ++ e ∷ []) ≡ length xs + 1 = length-append xs (e ∷ []) in
    let next : suc (loop_start k + length xs) ≡ loop_start k + length (xs ++ e ∷ []) = omega (arith, one) in (
      record {
        value_last_use = until_here k Z xs e es split h.0;
        truth_last_use = until_here k P xs e es split h.0;
        content = content_given k e.type e.content xs e es refl refl split;
      },
      rest_give k (xs ++ e ∷ []) es (append_assoc xs (e ∷ []) es ∙ split) (subst (λ n. Numbered n es) next h.1),
    )

-- all items of a loop
pub loop_gives : (k : Program) → AllGive k (loop_entries k)
loop_gives k = let zero_first : loop_start k ≡ loop_start k + 0 = omega arith in rest_give k [] (loop_entries k) refl (subst (λ n. Numbered n (loop_entries k)) zero_first (loop-listed k).numbered)
