-- What stands in the registers of names, as the code finds it.
use Rattle.std.proofs.Common.{◌≡◌, ℕ, suc, ◌+◌, ◌<◌, ◌≤◌, List, [], ◌∷◌, length, drop, get_or, add-one, drop-cons, Some, None, Bool, true, false, refl, sym, ap, ◌∙◌}
use Rattle.std.proofs.lemmas.List.{drop_all}
use Rattle.std.specs.Prelude.{option_map}
use Rattle.scalar_words.specs.declared.loose.Loose.{Loose}
use Rattle.scalar_words.specs.View.{looses_of, form_of, called, form_among}
use Rattle.scalar_words.specs.Layout.{loose_in}

form_of_cons : (b : Bool) (l : Loose) (ls : List Loose) (x : List ℕ) → called x l ≡ b → option_map form_of (form_among ls x) ≡ loose_in (looses_of ls) x → option_map form_of (form_among (l ∷ ls) x) ≡ loose_in (looses_of (l ∷ ls)) x
form_of_cons true l ls x e k = rw e refl
form_of_cons false l ls x e k = rw e k

pub form_among_is : (ls : List Loose) (x : List ℕ) → option_map form_of (form_among ls x) ≡ loose_in (looses_of ls) x
form_among_is [] x = refl
form_among_is (l ∷ ls) x = form_of_cons (called x l) l ls x refl (form_among_is ls x)

-- where the loop over the names ends
pub form_found : (ls : List Loose) (i : ℕ) (d : Loose) (x : List ℕ) → i < length ls → called x (get_or ls i d) ≡ true → form_among (drop i ls) x ≡ form_among ls x → Some (form_of (get_or ls i d).form) ≡ loose_in (looses_of ls) x
form_found ls i d x lt e w =
    let here : drop i ls ≡ get_or ls i d ∷ drop (suc i) ls = drop-cons ls i d lt in
    let k : form_among (get_or ls i d ∷ drop (suc i) ls) x ≡ Some (get_or ls i d).form = rw e refl in
    ap (option_map form_of) (sym (ap (λ l. form_among l x) here ∙ k) ∙ w) ∙ form_among_is ls x

pub form_not_found : (ls : List Loose) (i : ℕ) (x : List ℕ) → length ls ≤ i → form_among (drop i ls) x ≡ form_among ls x → None ≡ loose_in (looses_of ls) x
form_not_found ls i x le w = ap (option_map form_of) (sym (ap (λ l. form_among l x) (drop_all i ls le)) ∙ w) ∙ form_among_is ls x

-- and where it goes on
pub form_passed : (ls : List Loose) (i : ℕ) (d : Loose) (x : List ℕ) → i < length ls → called x (get_or ls i d) ≡ false → form_among (drop i ls) x ≡ form_among ls x → form_among (drop (i + 1) ls) x ≡ form_among ls x
form_passed ls i d x lt e w =
    let here : drop i ls ≡ get_or ls i d ∷ drop (i + 1) ls = drop-cons ls i d lt ∙ ap (λ n. get_or ls i d ∷ drop n ls) (sym (add-one i)) in
    let k : form_among (get_or ls i d ∷ drop (i + 1) ls) x ≡ form_among (drop (i + 1) ls) x = rw e refl in
    sym (ap (λ l. form_among l x) here ∙ k) ∙ w
