-- What is known of each item of a loop of class Vector: its last use, its width, and what the class rules out.
use Rattle.std.proofs.Common.{◌≡◌, ℕ, Bool, true, false, cond, List, [], ◌∷◌, ◌++◌, length, map, Option, Some, None, refl, sym, ap, ◌∙◌, subst, append_assoc}
use Rattle.std.specs.Prelude.{bytes_eq}
use Rattle.std.specs.List.{list_any}
use Rattle.std.proofs.lemmas.Bool.{or_parts}
use Rattle.kernel_tree.specs.declared.ops.Ty.{Ty}
use Rattle.kernel_tree.specs.declared.ops.UpdateOp.{UpdateOp}
use Rattle.kernel_tree.specs.Plain.{Accumulator, Program}
use Rattle.kernel_tree.specs.Items.{loop_index, loop_end}
use Rattle.kernel_tree.specs.Typing.{check_fault}
use Rattle.kernel_tree.proofs.Names.{bytes_eq-told, bytes_eq-refl}
use Rattle.loop_form.specs.Entries.{Content, IsLiteral, IsName, IsRead, IsLet, IsStore, IsPlain, IsUpdate, Entry, entry, item_type, params_entries, vars_entries, answer_entries, loop_entries, entries_of}
use Rattle.loop_form.specs.Lanes.{var_type, lane_width_of}
use Rattle.loop_form.specs.Listing.{names}
use Rattle.loop_form.specs.Needs.{is_update, updates}
use Rattle.loop_form.specs.Near.{HasNear, AreNear}
use Rattle.loop_form.proofs.Near.{loop-near}
use Rattle.loop_form.proofs.ItemTypes.{type_of, Matches, first_types, later_types}
use Rattle.loop_form.proofs.ItemWidths.{IsWide, AreWide, loop_wide}
use Rattle.loop_form.proofs.NameUses.{IsUseCounted, AreUsesCounted, counted_left, counted_right, all_counted}
use Rattle.dependence.specs.Classes.{is_read, computed_content, computed_index, class_of}
use Rattle.dependence.specs.declared.reason.Class.TheVariants.{Vector}
use Rattle.dependence.proofs.ClassLaws.{class_facts, gather_facts}
use Rattle.guest_types.specs.declared.length.Width.TheVariants.{D}
use Rattle.chunk_emit.specs.KernelLayout.{update_of}
use Rattle.chunk_emit.proofs.FitsEntries.{Gives, AllGive, loop_gives, list_any_of_middle}
use Rattle.chunk_emit.proofs.FitsUpdates.{one_operator, any_none}

-- an item of the loop
pub record Known (k : Program) (e : Entry) : Type 0 where
  pub gives : Gives k e
  pub wide : IsWide k (lane_width_of k) e
  pub used : IsUseCounted (entries_of k) e
  pub near : HasNear (loop_index k) e.content
  pub wide_read : computed_content (loop_index k) e.content ≡ true → lane_width_of k ≡ D
  pub unread : (x : List ℕ) (t : Ty) → var_type x k.vars ≡ Some t → names x e ≡ false
  pub operator : (x : List ℕ) (op : UpdateOp) → e.content ≡ IsUpdate x op → update_of k x ≡ op

abbrev pub AllKnown : Program → List Entry → Type 0
AllKnown k [] = Unit {0}
AllKnown k (e ∷ es) = Known k e × AllKnown k es

known_left : (k : Program) (xs ys : List Entry) → AllKnown k (xs ++ ys) → AllKnown k xs
known_left k [] ys h = tt
known_left k (x ∷ xs) ys h = (h.0, known_left k xs ys h.1)

known_right : (k : Program) (xs ys : List Entry) → AllKnown k (xs ++ ys) → AllKnown k ys
known_right k [] ys h = h
known_right k (x ∷ xs) ys h = known_right k xs ys h.1

-- ---- what the class rules out

unread_in : (es : List Entry) (vs : List Accumulator) (x : List ℕ) (t : Ty) → list_any (is_read es) vs ≡ false → var_type x vs ≡ Some t → list_any (names x) es ≡ false
unread_in es [] x t e f = absurd cc
unread_in es (v ∷ vs) x t e f =
    let parts = or_parts (is_read es v) (list_any (is_read es) vs) e in
    by (bytes_eq v.name x) refl f (unread_in es vs x t parts.1) parts.0
  where
    by : (b : Bool) → bytes_eq v.name x ≡ b → cond b (Some v.type) (var_type x vs) ≡ Some t → (var_type x vs ≡ Some t → list_any (names x) es ≡ false) → list_any (names v.name) es ≡ false → list_any (names x) es ≡ false
    by true g f more none = ap (λ y. list_any (names y) es) (sym (bytes_eq-told v.name x g)) ∙ none
    by false g f more none = more f

module _ (k : Program) (vector : class_of k ≡ Vector) where
  unread_here : (xs : List Entry) (e : Entry) (ys : List Entry) → xs ++ e ∷ ys ≡ loop_entries k → (x : List ℕ) (t : Ty) → var_type x k.vars ≡ Some t → names x e ≡ false
  unread_here xs e ys split x t f = any_none (names x) xs e ys (ap (list_any (names x)) split ∙ unread_in (loop_entries k) k.vars x t (class_facts k vector).unread f)

  wide_here : (xs : List Entry) (e : Entry) (ys : List Entry) → xs ++ e ∷ ys ≡ loop_entries k → computed_content (loop_index k) e.content ≡ true → lane_width_of k ≡ D
  wide_here xs e ys split h = by e.content refl h
    where
      by : (c : Content) → e.content ≡ c → computed_content (loop_index k) e.content ≡ true → lane_width_of k ≡ D
      by (IsRead a j) is f = (gather_facts k (loop_entries k) xs ys e a j is (sym (ap (computed_content (loop_index k)) is) ∙ f) (subst (λ es. computed_index k (loop_entries k) es ≡ false) (sym split) (class_facts k vector).gathered)).wide
      by (IsLiteral n) is f = let no : false ≡ true = sym (ap (computed_content (loop_index k)) is) ∙ f in absurd cc
      by (IsName x) is f = let no : false ≡ true = sym (ap (computed_content (loop_index k)) is) ∙ f in absurd cc
      by (IsLet x) is f = let no : false ≡ true = sym (ap (computed_content (loop_index k)) is) ∙ f in absurd cc
      by (IsStore a j) is f = let no : false ≡ true = sym (ap (computed_content (loop_index k)) is) ∙ f in absurd cc
      by (IsUpdate x op) is f = let no : false ≡ true = sym (ap (computed_content (loop_index k)) is) ∙ f in absurd cc
      by (IsPlain p) is f = let no : false ≡ true = sym (ap (computed_content (loop_index k)) is) ∙ f in absurd cc

  operator_here : (xs : List Entry) (e : Entry) (ys : List Entry) → xs ++ e ∷ ys ≡ loop_entries k → (x : List ℕ) (op : UpdateOp) → e.content ≡ IsUpdate x op → update_of k x ≡ op
  operator_here xs e ys split x op is =
      one_operator k x op xs e ys vector split is (ap (list_any (updates x)) (sym split) ∙ list_any_of_middle (updates x) xs e ys (ap (is_update x) is ∙ bytes_eq-refl x))

  rest_known : (xs es : List Entry) → xs ++ es ≡ loop_entries k → AllGive k es → AreWide k (lane_width_of k) es → AreUsesCounted (entries_of k) es → AreNear (loop_index k) es → AllKnown k es
  rest_known xs [] split g w u n = tt
  rest_known xs (e ∷ es) split g w u n = (
    record {
      gives = g.0;
      wide = w.0;
      used = u.0;
      near = n.0;
      wide_read = wide_here xs e es split;
      unread = unread_here xs e es split;
      operator = operator_here xs e es split;
    },
    rest_known (xs ++ e ∷ []) es (append_assoc xs (e ∷ []) es ∙ split) g.1 w.1 u.1 n.1,
  )

loop_counted : (k : Program) → AreUsesCounted (entries_of k) (loop_entries k)
loop_counted k =
    let all = entries_of k in
    counted_left all (loop_entries k) (answer_entries k (loop_end k) k.answer)
    (counted_right all (vars_entries k (length k.params) k.vars) _ (counted_right all (params_entries k 0 k.params) _ (all_counted all)))

pub loop_known : (k : Program) → check_fault k ≡ None → class_of k ≡ Vector → AllKnown k (loop_entries k)
loop_known k checked vector = rest_known k vector [] (loop_entries k) refl (loop_gives k) (loop_wide k) (loop_counted k) (loop-near k checked)

-- ---- parts of the listing with the types that their places want

pub record Part (k : Program) (es : List Entry) (ts : List (Option Ty)) : Type 0 where
  pub known : AllKnown k es
  pub types : map type_of es ≡ ts

pub part_left : (k : Program) (xs ys : List Entry) (ts us : List (Option Ty)) → Matches k xs ts → Part k (xs ++ ys) (ts ++ us) → Part k xs ts
part_left k xs ys ts us m p = record { known = known_left k xs ys p.known; types = first_types k xs ys ts us m p.types }

pub part_right : (k : Program) (xs ys : List Entry) (ts us : List (Option Ty)) → Matches k xs ts → Part k (xs ++ ys) (ts ++ us) → Part k ys us
part_right k xs ys ts us m p = record { known = known_right k xs ys p.known; types = later_types k xs ys ts us m p.types }

pub part_following : (k : Program) (e : Entry) (es : List Entry) (t : Option Ty) (ts : List (Option Ty)) → Part k (e ∷ es) (t ∷ ts) → Part k es ts
part_following k e es t ts p = record { known = p.known.1; types = following p.types }
  where
    following : type_of e ∷ map type_of es ≡ t ∷ ts → map type_of es ≡ ts
    following h = cc

-- item q of the loop with what it is, what uses it and the type of its value
pub record At (k : Program) (q : ℕ) (c : Content) (u : ℕ) (t : Option Ty) : Type 0 where
  pub known : Known k (entry k q c u)
  pub type : item_type k q ≡ t

pub known_at_head : (k : Program) (q : ℕ) (c : Content) (u : ℕ) (es : List Entry) (t : Option Ty) (ts : List (Option Ty)) → Part k (entry k q c u ∷ es) (t ∷ ts) → At k q c u t
known_at_head k q c u es t ts p = record { known = p.known.0; type = here p.types }
  where
    here : item_type k q ∷ map type_of es ≡ t ∷ ts → item_type k q ≡ t
    here h = cc
