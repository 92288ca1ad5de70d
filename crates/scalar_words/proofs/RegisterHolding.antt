-- Registers that hold numbers, as the code finds them.
use Rattle.std.proofs.Common.{◌≡◌, ℕ, ◌+◌, ◌<◌, ◌≤◌, List, [], ◌∷◌, length, drop, get_or, Some, None, Bool, true, false, refl, sym, ap, ◌∙◌}
use Rattle.std.proofs.lemmas.List.{drop_all}
use Rattle.std.specs.Prelude.{option_map}
use Rattle.kernel_tree.proofs.Walks.{next_item}
use Rattle.scalar_words.specs.declared.constant.Constant.{Constant}
use Rattle.scalar_words.specs.View.{constants_of, keyed, register_number, register_holding}
use Rattle.scalar_words.specs.Layout.{Key, constant_in}

holding_of_cons : (b : Bool) (c : Constant) (cs : List Constant) (z : Key) → keyed z c ≡ b → option_map register_number (register_holding cs z) ≡ constant_in (constants_of cs) z → option_map register_number (register_holding (c ∷ cs) z) ≡ constant_in (constants_of (c ∷ cs)) z
holding_of_cons true c cs z e k = rw e refl
holding_of_cons false c cs z e k = rw e k

pub register_holding_is : (cs : List Constant) (z : Key) → option_map register_number (register_holding cs z) ≡ constant_in (constants_of cs) z
register_holding_is [] z = refl
register_holding_is (c ∷ cs) z = holding_of_cons (keyed z c) c cs z refl (register_holding_is cs z)

-- where the loop over the constants ends
pub holding_found : (cs : List Constant) (i : ℕ) (c : Constant) (z : Key) → i < length cs → c ≡ get_or cs i c → keyed z c ≡ true → register_holding (drop i cs) z ≡ register_holding cs z → Some c.register.number ≡ constant_in (constants_of cs) z
holding_found cs i c z lt at e w = ap (option_map register_number) (sym (ap (λ l. register_holding l z) (next_item cs i c lt at) ∙ (let k : register_holding (c ∷ drop (i + 1) cs) z ≡ Some c.register = rw e refl in k)) ∙ w) ∙ register_holding_is cs z

pub holding_not_found : (cs : List Constant) (i : ℕ) (z : Key) → length cs ≤ i → register_holding (drop i cs) z ≡ register_holding cs z → None ≡ constant_in (constants_of cs) z
holding_not_found cs i z le w = ap (option_map register_number) (sym (ap (λ l. register_holding l z) (drop_all i cs le)) ∙ w) ∙ register_holding_is cs z

-- and where it goes on
pub holding_passed : (cs : List Constant) (i : ℕ) (c : Constant) (z : Key) → i < length cs → c ≡ get_or cs i c → keyed z c ≡ false → register_holding (drop i cs) z ≡ register_holding cs z → register_holding (drop (i + 1) cs) z ≡ register_holding cs z
holding_passed cs i c z lt at e w = sym (ap (λ l. register_holding l z) (next_item cs i c lt at) ∙ (let k : register_holding (c ∷ drop (i + 1) cs) z ≡ register_holding (drop (i + 1) cs) z = rw e refl in k)) ∙ w
