-- The first element at which a test is true.
use Rattle.std.proofs.Common.{◌≡◌, ℕ, zero, suc, ◌+◌, ◌-◌, ◌<◌, ◌≤◌, Bool, true, false, cond, Some, None, refl, ap, ap₂, ◌∙◌, subst, arith, inl, inr}
use Rattle.std.proofs.lemmas.Bool.{cond-true, cond-false, cases_eq, cases_lt}
use Rattle.guest_types.specs.Elements.{first_true}

-- what a first element is, and what it says of the others
pub record IsFirst (test : ℕ → Bool) (n e i : ℕ) : Type 0 where
  pub here : test i ≡ true
  pub from : e ≤ i
  pub below : i < e + n
  pub before : (j : ℕ) → e ≤ j → j < i → test j ≡ false

pub first_true-some : (test : ℕ → Bool) (n e i : ℕ) → first_true test n e ≡ Some i → IsFirst test n e i
first_true-some test zero e i h = cc
first_true-some test (suc n) e i h = go (test e) refl h (first_true-some test n (e + 1) i)
  where
    go : (t : Bool) → test e ≡ t → cond t (Some e) (first_true test n (e + 1)) ≡ Some i → (first_true test n (e + 1) ≡ Some i → IsFirst test n (e + 1) i) → IsFirst test (suc n) e i
    go true is h rest =
        let same : e ≡ i = cc in
        record { here = subst (λ j. test j ≡ true) same is; from = omega arith; below = omega arith; before = λ j l u. absurd (omega arith) }
    go false is h rest =
        let r = rest h in
        record {
          here = r.here;
          from = omega (arith, r.from);
          below = omega (arith, r.below);
          before = λ j l u. elim (cases_eq e j) [ inl q ↦ subst (λ k. test k ≡ false) q is | inr ne ↦ r.before j (omega arith) u ];
        }

pub first_true-none : (test : ℕ → Bool) (n e : ℕ) → first_true test n e ≡ None → (j : ℕ) → e ≤ j → j < e + n → test j ≡ false
first_true-none test zero e h j l u = absurd (omega arith)
first_true-none test (suc n) e h j l u = go (test e) refl h (first_true-none test n (e + 1))
  where
    go : (t : Bool) → test e ≡ t → cond t (Some e) (first_true test n (e + 1)) ≡ None → (first_true test n (e + 1) ≡ None → (j : ℕ) → e + 1 ≤ j → j < e + 1 + n → test j ≡ false) → test j ≡ false
    go true is h rest = cc
    go false is h rest = elim (cases_eq e j) [ inl q ↦ subst (λ k. test k ≡ false) q is | inr ne ↦ rest h j (omega arith) (omega arith) ]

pub first_true-absent : (test : ℕ → Bool) (n e : ℕ) → ((j : ℕ) → e ≤ j → j < e + n → test j ≡ false) → first_true test n e ≡ None
first_true-absent test zero e h = refl
first_true-absent test (suc n) e h = cond-false _ _ _ (h e (omega arith) (omega arith)) ∙ first_true-absent test n (e + 1) (λ j l u. h j (omega arith) (omega arith))

pub first_true-ext : (f g : ℕ → Bool) (n e : ℕ) → ((j : ℕ) → e ≤ j → j < e + n → f j ≡ g j) → first_true f n e ≡ first_true g n e
first_true-ext f g zero e h = refl
first_true-ext f g (suc n) e h =
    ap₂ (λ t r. cond t (Some e) r) (h e (omega arith) (omega arith)) (first_true-ext f g n (e + 1) (λ j l u. h j (omega arith) (omega arith)))

-- elements at which it is false may be left out
pub first_true-skip : (test : ℕ → Bool) (d n e : ℕ) → ((j : ℕ) → e ≤ j → j < e + d → test j ≡ false) → first_true test (d + n) e ≡ first_true test n (e + d)
first_true-skip test zero n e h = ap₂ (first_true test) (let q : zero + n ≡ n = omega arith in q) (let q : e ≡ e + zero = omega arith in q)
first_true-skip test (suc d) n e h =
    ap (λ m. first_true test m e) (let q : suc d + n ≡ suc (d + n) = omega arith in q)
    ∙ cond-false _ _ _ (h e (omega arith) (omega arith))
    ∙ first_true-skip test d n (e + 1) (λ j l u. h j (omega arith) (omega arith))
    ∙ ap (first_true test n) (let q : e + 1 + d ≡ e + suc d = omega arith in q)

-- up to an element, of n
pub first_true-from : (test : ℕ → Bool) (n e : ℕ) → e ≤ n → ((j : ℕ) → j < e → test j ≡ false) → first_true test n 0 ≡ first_true test (n - e) e
first_true-from test n e l h =
    ap (λ m. first_true test m 0) (let q : n ≡ e + (n - e) = omega arith in q)
    ∙ first_true-skip test e (n - e) 0 (λ j _ u. h j (omega arith))
    ∙ ap (first_true test (n - e)) (let q : 0 + e ≡ e = omega arith in q)

-- where it is false before
pub first_true-at : (test : ℕ → Bool) (n e i : ℕ) → test i ≡ true → e ≤ i → i < e + n → ((j : ℕ) → e ≤ j → j < i → test j ≡ false) → first_true test n e ≡ Some i
first_true-at test n e i h least most before =
    ap (λ m. first_true test m e) (let q : n ≡ (i - e) + (n - (i - e)) = omega arith in q)
    ∙ first_true-skip test (i - e) (n - (i - e)) e (λ j l u. before j l (omega arith))
    ∙ ap₂ (first_true test) (let q : n - (i - e) ≡ suc (n - (i - e) - 1) = omega arith in q) (let q : e + (i - e) ≡ i = omega arith in q)
    ∙ cond-true _ _ _ h

-- and at one more
pub false_next : (test : ℕ → Bool) (e : ℕ) → ((j : ℕ) → j < e → test j ≡ false) → test e ≡ false → (j : ℕ) → j < e + 1 → test j ≡ false
false_next test e before here j l = elim (cases_lt j e) [ inl b ↦ before j b | inr g ↦ subst (λ k. test k ≡ false) (let q : e ≡ j = omega (arith, l, g) in q) here ]
