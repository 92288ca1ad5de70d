-- The steps of loops over lanes: what is left of an answer at element e, of n.
use Rattle.std.proofs.Common.{◌≡◌, ℕ, suc, ◌+◌, ◌-◌, ◌<◌, ◌≤◌, Bool, true, false, cond, Some, None, ap, ◌∙◌, arith}
use Rattle.std.proofs.lemmas.Bool.{cond-true, cond-false}
use Rattle.guest_types.specs.Elements.{first_true}

-- ---- the first element at which a test is true

first-opens : (test : ℕ → Bool) (n e : ℕ) → e < n → first_true test (n - e) e ≡ cond (test e) (Some e) (first_true test (n - (e + 1)) (e + 1))
first-opens test n e l = let q : n - e ≡ suc (n - (e + 1)) = omega arith in ap (λ k. first_true test k e) q

pub first_true-on : (test : ℕ → Bool) (n e : ℕ) → e < n → test e ≡ true → first_true test (n - e) e ≡ Some e
first_true-on test n e l h = first-opens test n e l ∙ cond-true _ _ _ h

pub first_true-off : (test : ℕ → Bool) (n e : ℕ) → e < n → test e ≡ false → first_true test (n - e) e ≡ first_true test (n - (e + 1)) (e + 1)
first_true-off test n e l h = first-opens test n e l ∙ cond-false _ _ _ h

pub first_true-end : (test : ℕ → Bool) (n e : ℕ) → n ≤ e → first_true test (n - e) e ≡ None
first_true-end test n e h = let q : n - e ≡ 0 = omega arith in ap (λ k. first_true test k e) q
