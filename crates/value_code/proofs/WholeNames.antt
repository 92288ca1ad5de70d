-- Names of which the value itself stands in the register.
use Rattle.std.proofs.Common.{◌≡◌, ℕ, ◌≤◌, Bool, true, List, length, Option, Some, None, refl, sym, ap, ◌∙◌, subst}
use Rattle.std.specs.Prelude.{ℤ, is_none}
use Rattle.std.specs.List.{find}
use Rattle.std.proofs.lemmas.Bool.{and_parts}
use Rattle.machine_model.specs.Machine.{State, x_at}
use Rattle.kernel_tree.specs.declared.ops.Ty.{Ty}
use Rattle.kernel_meaning.specs.Operators.{word}
use Rattle.kernel_meaning.specs.Eval.{Names, value_at, iteration}
use Rattle.scalar_words.specs.Layout.{Form, Loose, loose_in, Home, Homes, is_home, LastsAt, NameLasts}
use Rattle.scalar_words.proofs.LayoutStates.{AreInRegisters, Tells, Told, lasts_less, name_held}
use Rattle.scalar_words.proofs.Told.{tells_itself, told_at}
use Rattle.value_code.specs.Fits.{IndexAt}
use Rattle.value_code.specs.Covers.{is_whole, index_covers}

whole_tells : (count : ℕ) (o : Option Form) (z v : ℤ) → is_none o ≡ true → Tells count o z v → z ≡ v
whole_tells count None z v h is = is
whole_tells count (Some f) z v h is = absurd cc

pub whole_itself : (o : Option Form) → is_none o ≡ true → tells_itself o ≡ true
whole_itself None h = refl
whole_itself (Some f) h = absurd cc

pub whole_at : (ls : List Loose) (count : ℕ) (x : List ℕ) (stand names : Names) → is_whole ls x ≡ true → Told ls count stand names → value_at stand x ≡ value_at names x
whole_at ls count x stand names h told = whole_tells count (loose_in ls x) (value_at stand x) (value_at names x) h (told_at ls count stand names x (whole_itself (loose_in ls x) h) told)

name_less_in : (h : Option Home) (p q : ℕ) → q ≤ p → LastsAt h p → LastsAt h q
name_less_in None p q le h = h
name_less_in (Some h) p q le k = lasts_less h.last_use p q le k

pub name_less : (hs : Homes) (x : List ℕ) (p q : ℕ) → q ≤ p → NameLasts hs x p → NameLasts hs x q
name_less hs x p q le h = name_less_in (find (is_home x) hs) p q le h

-- the loop variable
pub index_is : (hs : Homes) (i : Option (List ℕ)) (names : Names) (p b : ℕ) (st : State) → b ≤ p → IndexAt hs i p → length st.x ≡ 31 → AreInRegisters hs names b st → x_at st 9 ≡ word (iteration i names)
index_is hs None names p b st le h sized held = absurd h
index_is hs (Some x) names p b st le h sized held = ap (x_at st) (sym h.0) ∙ name_held hs names x b st sized held (name_less hs x p b le h.1)

-- an index that is computed
pub computed_covers : (ls : List Loose) (i : Option (List ℕ)) (array : Option Form) (want : Option Ty) (o : Option ℤ) (computed : Bool) → o ≡ None → index_covers ls i array want o computed ≡ true → (is_none array ≡ true) × (computed ≡ true)
computed_covers ls i array want o computed e h = and_parts (is_none array) computed (subst (λ o. index_covers ls i array want o computed ≡ true) e h)
