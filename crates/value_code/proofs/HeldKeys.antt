-- One more number or address that a register holds.
use Rattle.std.proofs.Common.{◌≡◌, ℕ, ◌+◌, ◌-◌, ◌<◌, ◌≤◌, Bool, true, List, [], ◌∷◌, ◌++◌, length, Option, Some, None, sym, ap, ◌∙◌, arith}
use Rattle.std.specs.Prelude.{nat_lt, nat_le}
use Rattle.std.proofs.lemmas.Bool.{ltb-true, and_parts}
use Rattle.std.proofs.lemmas.List.{map-append}
use mir.Syntax.{w32}
use mir.Val.{Fits}
use Rattle.scalar_words.specs.declared.constant.Constant.{Constant}
use Rattle.scalar_words.specs.Layout.{Key, constant_in}
use Rattle.scalar_words.specs.Layout as plain
use Rattle.scalar_words.specs.View.{constant_of, constants_of}
use Rattle.value_code.specs.HeldNumbers.{has_room, add_key, new_key, hold_key}
use Rattle.value_code.proofs.NumberCounts.{count_constants}

-- ---- the next register

module _ (cs : List Constant) (n : ℕ) (few : length (constants_of cs) < 5) (is : n ≡ length cs) where
  pub few_fit : Fits w32 n
  few_fit = let e = count_constants cs in record { fits = omega (arith, few, is, e) }

  pub few_left : n ≤ 8
  few_left = let e = count_constants cs in omega (arith, few, is, e)

pub low_left : (n : ℕ) → 8 - n < 32
low_left n = omega arith

pub one_added : (old new : List Constant) (c : Constant) (n : ℕ) (z : Key) → new ≡ old ++ c ∷ [] → n ≡ length old → constant_of c ≡ record { key = z; register = 8 - n } → constants_of new ≡ constants_of old ++ record { key = z; register = 8 - length (constants_of old) } ∷ []
one_added old new c n z e is same =
    let kept = constants_of old in
    ap constants_of e
    ∙ map-append constant_of old (c ∷ [])
    ∙ ap (λ (d : plain.Constant). kept ++ d ∷ []) same
    ∙ ap (λ (m : ℕ). kept ++ record { key = z; register = 8 - m } ∷ []) (is ∙ sym (count_constants old))

-- ---- where no register holds it

module _ (p : ℕ) (z : Key) (xs ys : List Constant) (same : xs ≡ ys) (o : Option ℕ) (is : o ≡ constant_in (constants_of xs) z) where
  constant_key_found : o ≡ constant_in (constants_of ys) z
  constant_key_found = is ∙ ap (λ (cs : List Constant). constant_in (constants_of cs) z) same

  pub held_there : (r : ℕ) → o ≡ Some r → constants_of ys ≡ hold_key p z (constants_of ys)
  held_there r e = ap (λ (o : Option ℕ). new_key o p z (constants_of ys)) (sym e ∙ constant_key_found)

  module _ (b : Bool) (us : List Constant) (lent : us ≡ ys) (room : b ≡ has_room p (constants_of us)) (e : o ≡ None) where
    roomy : b ≡ has_room p (constants_of ys)
    roomy = room ∙ ap (λ (cs : List Constant). has_room p (constants_of cs)) lent

    pub held_by : (c : Bool) → b ≡ c → add_key c z (constants_of ys) ≡ hold_key p z (constants_of ys)
    held_by c f = ap (λ (c : Bool). add_key c z (constants_of ys)) (sym f ∙ roomy) ∙ ap (λ (o : Option ℕ). new_key o p z (constants_of ys)) (sym e ∙ constant_key_found)

pub room_left : (p : ℕ) (us ys : List Constant) (b : Bool) → us ≡ ys → b ≡ has_room p (constants_of us) → b ≡ true → length (constants_of ys) < 5
room_left p us ys b lent room is =
    let cs = constants_of ys in
    ltb-true (length cs) 5 (and_parts (nat_lt (length cs) 5) (nat_le (p + length cs) 8) (sym (room ∙ ap (λ (cs : List Constant). has_room p (constants_of cs)) lent) ∙ is)).0
