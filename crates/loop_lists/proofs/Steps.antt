-- One step of a loop over a list that is left to go through, and what stands after the last one.
use Rattle.std.proofs.Common.{◌≡◌, ℕ, ◌+◌, ◌<◌, ◌≤◌, List, [], ◌∷◌, ◌++◌, ◌∙◌, length, drop, get_or, map, Option, Some, None, Bool, true, false, ◌||◌, cond, sym, ap, refl, arith, append_assoc, append-nil}
use Rattle.std.specs.Prelude.{filter_map, bytes_eq, if◌then◌else◌}
use Rattle.std.specs.List.{list_any, find, cons_option}
use Rattle.std.specs.Bool.{then_some}
use Rattle.std.specs.Option.{is_some}
use Rattle.std.specs.Int.{from_bool}
use Rattle.std.proofs.lemmas.List.{drop_all}
use Rattle.kernel_tree.specs.declared.ast.Param.{Param}
use Rattle.kernel_tree.specs.declared.ops.Ty.{Ty}
use Rattle.kernel_tree.specs.Plain.{name_of, parameter_of, parameters_of}
use Rattle.kernel_tree.proofs.Walks.{next_item, listed_one_on}
use Rattle.reg_assign.specs.declared.interval.RegClass.{RegClass}
use Rattle.loop_form.specs.Entries.{Entry}
use Rattle.loop_form.specs.Lanes.{type_of_array}
use Rattle.loop_form.specs.Streams.{elements_of}
use Rattle.loop_form.specs.Listing.{last_use_in}
use Rattle.loop_form.specs.Places.{place_of, places_from}
use Rattle.loop_form.specs.View.{entry_of, entries_view}
use Rattle.loop_form.specs.declared.entry.Entry as coded

-- ---- a test of each

module _ {E A : Type 0} (f : E → A) (p : A → Bool) (xs : List E) (i : ℕ) where
  pub any_past : (x : E) (b whole : Bool) → i < length xs → x ≡ get_or xs i x → b ≡ p (f x) → b ≡ false → list_any p (map f (drop i xs)) ≡ whole → list_any p (map f (drop (i + 1) xs)) ≡ whole
  any_past x b whole lt at is e w = sym (ap (λ l. list_any p (map f l)) (next_item xs i x lt at) ∙ ap (λ c. c || list_any p (map f (drop (i + 1) xs))) (sym is ∙ e)) ∙ w

  pub list_any_of_next : (x : E) (b whole : Bool) → i < length xs → x ≡ get_or xs i x → b ≡ p (f x) → b ≡ true → list_any p (map f (drop i xs)) ≡ whole → true ≡ whole
  list_any_of_next x b whole lt at is e w = sym (ap (λ l. list_any p (map f l)) (next_item xs i x lt at) ∙ ap (λ c. c || list_any p (map f (drop (i + 1) xs))) (sym is ∙ e)) ∙ w

  pub any_none : (whole : Bool) → length xs ≤ i → list_any p (map f (drop i xs)) ≡ whole → false ≡ whole
  any_none whole le w = sym (ap (λ l. list_any p (map f l)) (drop_all i xs le)) ∙ w

  pub find_past : (x : E) (whole : Option A) → i < length xs → x ≡ get_or xs i x → p (f x) ≡ false → find p (map f (drop i xs)) ≡ whole → find p (map f (drop (i + 1) xs)) ≡ whole
  find_past x whole lt at e w = sym (ap (λ l. find p (map f l)) (next_item xs i x lt at) ∙ ap (λ c. cond c (Some (f x)) (find p (map f (drop (i + 1) xs)))) e) ∙ w

  pub find_here : (x : E) (whole : Option A) → i < length xs → x ≡ get_or xs i x → p (f x) ≡ true → find p (map f (drop i xs)) ≡ whole → Some (f x) ≡ whole
  find_here x whole lt at e w = sym (ap (λ l. find p (map f l)) (next_item xs i x lt at) ∙ ap (λ c. cond c (Some (f x)) (find p (map f (drop (i + 1) xs)))) e) ∙ w

  pub find_none : (whole : Option A) → length xs ≤ i → find p (map f (drop i xs)) ≡ whole → None ≡ whole
  find_none whole le w = sym (ap (λ l. find p (map f l)) (drop_all i xs le)) ∙ w

-- ---- places

place_step : (o : Option ℕ) (j : ℕ) (rest : ℕ → List (Option ℕ)) → place_of j o rest ≡ then_some (is_some o) j ∷ rest (j + from_bool (is_some o))
place_step None j rest = let same : j ≡ j + 0 = omega arith in ap (λ k. None ∷ rest k) same
place_step (Some u) j rest = refl

at_most_one : (b : Bool) → from_bool b ≤ 1
at_most_one true = omega arith
at_most_one false = omega arith

pub few_more : (j first i n : ℕ) (b : Bool) → n ≡ from_bool b → j ≤ first + i → j + n ≤ first + (i + 1)
few_more j first i n b e h = let one = at_most_one b in omega (arith, e, h, one)

module _ (class : RegClass) (all : List Entry) (xs : List coded.Entry) (i : ℕ) where
  pub more_places : (x : coded.Entry) (j n : ℕ) (b : Bool) (p : Option ℕ) (o : Option ℕ) (old new whole : List (Option ℕ)) → i < length xs → x ≡ get_or xs i x → o ≡ last_use_in class all (entry_of x) → b ≡ is_some o → p ≡ then_some b j → n ≡ from_bool b
      → new ≡ old ++ p ∷ [] → old ++ places_from class all j (entries_view (drop i xs)) ≡ whole → new ++ places_from class all (j + n) (entries_view (drop (i + 1) xs)) ≡ whole
  more_places x j n b p o old new whole lt at used made place count e w =
      let rest = λ (k : ℕ). places_from class all k (entries_view (drop (i + 1) xs)) in
      listed_one_on old new whole p (rest (j + n)) _ e
      (ap (λ l. places_from class all j (entries_view l)) (next_item xs i x lt at)
      ∙ ap (λ (u : Option ℕ). place_of j u rest) (sym used) ∙ place_step o j rest
      ∙ ap (λ c. then_some c j ∷ rest (j + from_bool c)) (sym made)
      ∙ ap (λ q. q ∷ rest (j + from_bool b)) (sym place) ∙ ap (λ k. p ∷ rest (j + k)) (sym count)) w

  pub all_places : (j : ℕ) (l whole : List (Option ℕ)) → length xs ≤ i → l ++ places_from class all j (entries_view (drop i xs)) ≡ whole → l ≡ whole
  all_places j l whole le w = sym (ap (λ ys. l ++ places_from class all j (entries_view ys)) (drop_all i xs le) ∙ append-nil l) ∙ w

-- ---- what some items give

-- after the last item
pub all_mapped : {E A B : Type 0} (f : E → A) (h : A → Option B) (xs : List E) (i : ℕ) (l whole : List B) → length xs ≤ i → l ++ filter_map h (map f (drop i xs)) ≡ whole → l ≡ whole
all_mapped f h xs i l whole le w = sym (ap (λ ys. l ++ filter_map h (map f ys)) (drop_all i xs le) ∙ append-nil l) ∙ w

pub one_mapped : {E A B : Type 0} (f : E → A) (h : A → Option B) (xs : List E) (i : ℕ) (x : E) (y : B) (old new whole : List B) → i < length xs → x ≡ get_or xs i x → h (f x) ≡ Some y → new ≡ old ++ y ∷ [] → old ++ filter_map h (map f (drop i xs)) ≡ whole → new ++ filter_map h (map f (drop (i + 1) xs)) ≡ whole
one_mapped f h xs i x y old new whole lt at e n w =
    listed_one_on old new whole y _ _ n (ap (λ l. filter_map h (map f l)) (next_item xs i x lt at) ∙ ap (λ o. cons_option o (filter_map h (map f (drop (i + 1) xs)))) e) w

pub none_mapped : {E A B : Type 0} (f : E → A) (h : A → Option B) (xs : List E) (i : ℕ) (x : E) (old whole : List B) → i < length xs → x ≡ get_or xs i x → h (f x) ≡ None → old ++ filter_map h (map f (drop i xs)) ≡ whole → old ++ filter_map h (map f (drop (i + 1) xs)) ≡ whole
none_mapped f h xs i x old whole lt at e w =
    sym (ap (λ l. old ++ l) (ap (λ l. filter_map h (map f l)) (next_item xs i x lt at) ∙ ap (λ o. cons_option o (filter_map h (map f (drop (i + 1) xs)))) e)) ∙ w

-- ---- parts of a list

pub two_parts : {A : Type 0} (e0 e1 e2 a b : List A) → e1 ≡ e0 ++ a → e2 ≡ e1 ++ b → e2 ≡ e0 ++ (a ++ b)
two_parts e0 e1 e2 a b e f = f ∙ ap (λ l. l ++ b) e ∙ append_assoc e0 a b

pub four_parts : {A : Type 0} (e0 e1 e2 e3 e4 a b c d : List A) → e0 ≡ [] → e1 ≡ e0 ++ a → e2 ≡ e1 ++ b → e3 ≡ e2 ++ c → e4 ≡ e3 ++ d → e4 ≡ a ++ (b ++ (c ++ d))
four_parts e0 e1 e2 e3 e4 a b c d e f g h i =
    i ∙ ap (λ l. l ++ d) h ∙ append_assoc e2 c d ∙ two_parts e1 e2 (e2 ++ (c ++ d)) b (c ++ d) g refl ∙ ap (λ l. l ++ (b ++ (c ++ d))) (f ∙ ap (λ l. l ++ a) e)

-- ---- the element type of an array parameter

module _ (ps : List Param) (i : ℕ) (a : List ℕ) (whole : Option Ty) (here : type_of_array a (parameters_of (drop i ps)) ≡ whole) where
  head_type : (p : Param) (b : Bool) → i < length ps → p ≡ get_or ps i p → bytes_eq (name_of p.name) a ≡ b → (if b then elements_of (parameter_of p) else type_of_array a (parameters_of (drop (i + 1) ps))) ≡ whole
  head_type p b lt at e =
      sym (ap (λ l. type_of_array a (parameters_of l)) (next_item ps i p lt at) ∙ ap (λ (c : Bool). if c then elements_of (parameter_of p) else type_of_array a (parameters_of (drop (i + 1) ps))) e) ∙ here

  pub other_array : (p : Param) → i < length ps → p ≡ get_or ps i p → bytes_eq (name_of p.name) a ≡ false → type_of_array a (parameters_of (drop (i + 1) ps)) ≡ whole
  other_array p lt at e = head_type p false lt at e

  pub that_array : (p : Param) → i < length ps → p ≡ get_or ps i p → bytes_eq (name_of p.name) a ≡ true → elements_of (parameter_of p) ≡ whole
  that_array p lt at e = head_type p true lt at e

  pub no_array : length ps ≤ i → None ≡ whole
  no_array le = sym (ap (λ l. type_of_array a (parameters_of l)) (drop_all i ps le)) ∙ here
