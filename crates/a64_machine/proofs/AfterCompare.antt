-- Four conditions after a comparison, told from its two numbers.
use Rattle.std.proofs.Common.{◌≡◌, ℕ, ◌+◌, ◌-◌, ◌%◌, ◌^◌, ◌<◌, ◌≤◌, Bool, true, false, not, refl, sym, ap, ◌∙◌, arith}
use Rattle.std.specs.Prelude.{nat_eq, nat_lt, nat_le}
use Rattle.std.proofs.lemmas.Bool.{eqb-true, eqb-false, eq-eqb, ne_eqb, ltb-true, ltb-false, le-leb, lt-leb}
use Rattle.guest_types.specs.Elements.{Flags, nzcv}
use Rattle.machine_model.specs.Arithmetic.{difference, flags_of}
use Rattle.a64_machine.specs.Cores.{is_set}
use Rattle.a64_machine.proofs.FlagCases.{both, each}

unequal_mask : (f : Flags) → is_set 0x0f0f (nzcv f) ≡ not f.z
unequal_mask f = each (λ g. is_set 0x0f0f (nzcv g) ≡ not g.z) (both (both (both (both refl refl) (both refl refl)) (both (both refl refl) (both refl refl))) (both (both (both refl refl) (both refl refl)) (both (both refl refl) (both refl refl)))) f.n f.z f.c f.v

equal_mask : (f : Flags) → is_set 0xf0f0 (nzcv f) ≡ f.z
equal_mask f = each (λ g. is_set 0xf0f0 (nzcv g) ≡ g.z) (both (both (both (both refl refl) (both refl refl)) (both (both refl refl) (both refl refl))) (both (both (both refl refl) (both refl refl)) (both (both refl refl) (both refl refl)))) f.n f.z f.c f.v

below_mask : (f : Flags) → is_set 0x3333 (nzcv f) ≡ not f.c
below_mask f = each (λ g. is_set 0x3333 (nzcv g) ≡ not g.c) (both (both (both (both refl refl) (both refl refl)) (both (both refl refl) (both refl refl))) (both (both (both refl refl) (both refl refl)) (both (both refl refl) (both refl refl)))) f.n f.z f.c f.v

not_below_mask : (f : Flags) → is_set 0xcccc (nzcv f) ≡ f.c
not_below_mask f = each (λ g. is_set 0xcccc (nzcv g) ≡ g.c) (both (both (both (both refl refl) (both refl refl)) (both (both refl refl) (both refl refl))) (both (both (both refl refl) (both refl refl)) (both (both refl refl) (both refl refl)))) f.n f.z f.c f.v

-- two numbers are equal where their difference is zero
zero_difference : (a b : ℕ) → a < 2 ^ 64 → b < 2 ^ 64 → nat_eq (difference a b) 0 ≡ nat_eq a b
zero_difference a b fits small = by_cases (nat_eq a b) refl
  where
    by_cases : (t : Bool) → nat_eq a b ≡ t → nat_eq (difference a b) 0 ≡ t
    by_cases true e =
        let same = eqb-true a b e in
        let gone : difference a b ≡ 0 = omega (arith, same, small) in
        eq-eqb (difference a b) 0 gone
    by_cases false e =
        let other = eqb-false a b e in
        ne_eqb (difference a b) 0 (λ (gone : difference a b ≡ 0). other (equal gone))
      where
        equal : difference a b ≡ 0 → a ≡ b
        equal gone = omega (arith, fits, small, gone)

not_above : (a b : ℕ) → not (nat_le b a) ≡ nat_lt a b
not_above a b = by_cases (nat_lt a b) refl
  where
    by_cases : (t : Bool) → nat_lt a b ≡ t → not (nat_le b a) ≡ t
    by_cases true e = ap not (lt-leb b a (ltb-true a b e))
    by_cases false e = ap not (le-leb b a (ltb-false a b e))

pub unequal_after : (a b among : ℕ) → a < 2 ^ 64 → b < 2 ^ 64 → among ≡ 0x0f0f → not (nat_eq a b) ≡ is_set among (nzcv (flags_of a b))
unequal_after a b among fits small is = ap not (sym (zero_difference a b fits small)) ∙ sym (unequal_mask (flags_of a b)) ∙ ap (λ m. is_set m (nzcv (flags_of a b))) (sym is)

pub equal_after : (a b among : ℕ) → a < 2 ^ 64 → b < 2 ^ 64 → among ≡ 0xf0f0 → nat_eq a b ≡ is_set among (nzcv (flags_of a b))
equal_after a b among fits small is = sym (zero_difference a b fits small) ∙ sym (equal_mask (flags_of a b)) ∙ ap (λ m. is_set m (nzcv (flags_of a b))) (sym is)

pub below_after : (a b among : ℕ) → among ≡ 0x3333 → nat_lt a b ≡ is_set among (nzcv (flags_of a b))
below_after a b among is = sym (not_above a b) ∙ sym (below_mask (flags_of a b)) ∙ ap (λ m. is_set m (nzcv (flags_of a b))) (sym is)

pub not_below_after : (a b among : ℕ) → among ≡ 0xcccc → nat_le b a ≡ is_set among (nzcv (flags_of a b))
not_below_after a b among is = sym (not_below_mask (flags_of a b)) ∙ ap (λ m. is_set m (nzcv (flags_of a b))) (sym is)
