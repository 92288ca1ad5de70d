use Rattle.std.proofs.Common.{◌≡◌, ℕ, zero, suc, ◌+◌, ◌<◌, Bool, true, false, ◌&&◌, ◌==◌, List, [], ◌∷◌, ◌++◌, inl, inr, length, codes, slice_index, nat_lt, if◌then◌else◌, refl, sym, subst, ap, ◌∙◌, arith, length-append}
use Rattle.std.proofs.lemmas.Bool.{and_parts, cases_lt, eqb-true}
use Rattle.number_text.specs.Hexadecimal.{hex_digit}
use Rattle.list_text.proofs.push_hex_digit.Goals as goal

abbrev digits : List ℕ
digits = codes "0123456789abcdef"

abbrev is_same : ℕ → Bool
is_same d = slice_index digits d == hex_digit d

abbrev are_same : ℕ → Bool
are_same zero = true
are_same (suc n) = is_same n && are_same n

same_below : (n d : ℕ) → are_same n ≡ true → d < n → slice_index digits d ≡ hex_digit d
same_below zero d h lt = absurd (omega arith)
same_below (suc n) d h lt =
    let parts = and_parts (is_same n) (are_same n) h in
    elim (cases_lt d n) [
      | inl below ↦ same_below n d parts.1 below
      | inr top ↦
          let e : d ≡ n = omega arith in
          rw e (eqb-true _ _ parts.0)
    ]

in_table : (d : ℕ) → d < 16 → slice_index digits d ≡ hex_digit d
in_table d h = same_below 16 d refl h

ascii : (low : Bool) (d : ℕ) → d < 16 → (if low then 48 + d else 87 + d) < 128
ascii true d h = omega arith
ascii false d h = omega arith

pub returns : goal.returns
returns g c =
    let is = in_table c.args.digit c.requires.below in
    let small = subst (λ n. n < 128) (sym is) (ascii (nat_lt c.args.digit 10) c.args.digit c.requires.below) in
    let e = c.push.ensures.ascii small ∙ ap (λ d. c.args.into.now.bytes ++ d ∷ []) is in
    record { bytes = e; len = omega (arith, ap length e, length-append c.args.into.now.bytes (hex_digit c.args.digit ∷ [])) }
