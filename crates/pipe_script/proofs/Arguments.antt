-- Arguments, word after word.
use Rattle.std.proofs.Common.{◌≡◌, ℕ, suc, ◌+◌, ◌≤◌, List, [], ◌∷◌, ◌++◌, length, length-append, Bool, true, false, Option, Some, None, refl, ap, ◌∙◌, arith}
use Rattle.std.specs.Prelude.{nat_le, if◌then◌else◌}
use Rattle.std.proofs.lemmas.Bool.Decides.{nat_tests}
use Rattle.command_line.specs.Line.{arguments_from, arguments_of}
use Rattle.command_line.specs.Numbers.{argument_of}

-- the arguments after those found, where they are at most eight in all
unfoldable pub arguments_left : List ℕ → List (List ℕ) → Option (List ℕ)
arguments_left args words = if nat_le (length args + length words) 8 then arguments_from args words else None

either_none : (b : Bool) (o : Option (List ℕ)) → o ≡ None → (if b then o else None) ≡ None
either_none true o e = e
either_none false o e = refl

pub arguments_left_at_start : (args : List ℕ) (words : List (List ℕ)) → args ≡ [] → arguments_left args words ≡ arguments_of words
unfolding arguments_left arguments_of
arguments_left_at_start args words e =
    let z : length {A = ℕ} [] + length words ≡ length words = omega arith in
    ap (λ a. if nat_le (length a + length words) 8 then arguments_from a words else None) e ∙ ap (λ k. if nat_le k 8 then arguments_from [] words else None) z

pub full : (args word : List ℕ) (words : List (List ℕ)) → 8 ≤ length args → arguments_left args (word ∷ words) ≡ None
unfolding arguments_left
full args word words h = let e : nat_le (length args + suc (length words)) 8 ≡ false = grind (arith, nat_tests) in rw e refl

pub none-read : (args word : List ℕ) (words : List (List ℕ)) → argument_of word ≡ None → arguments_left args (word ∷ words) ≡ None
unfolding arguments_left arguments_from
none-read args word words e = either_none (nat_le (length args + suc (length words)) 8) _ (rw e refl)

pub one-read : (args word : List ℕ) (words : List (List ℕ)) (n : ℕ) → argument_of word ≡ Some n
    → arguments_left args (word ∷ words) ≡ arguments_left (args ++ n ∷ []) words
unfolding arguments_left arguments_from
one-read args word words n e =
    let k : length args + suc (length words) ≡ length (args ++ n ∷ []) + length words = omega (arith, length-append args (n ∷ [])) in
    rw e (ap (λ k. if nat_le k 8 then arguments_from (args ++ n ∷ []) words else None) k)

pub all-read : (args : List ℕ) → length args ≤ 8 → arguments_left args [] ≡ Some args
unfolding arguments_left arguments_from
all-read args h = let e : nat_le (length args + 0) 8 ≡ true = grind (arith, nat_tests) in rw e refl
