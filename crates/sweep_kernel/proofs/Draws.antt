-- The steps of the generator.
use Rattle.std.proofs.Common.{◌≡◌, ℕ, suc, ◌+◌, ap, ◌∙◌, refl, arith}
use Rattle.sweep_kernel.specs.Numbers.{next, state_at}

state_suc : (seed j : ℕ) → state_at seed (suc j) ≡ next (state_at seed j)
unfolding state_at
state_suc seed j = refl

pub state_more : (seed j : ℕ) → state_at seed (j + 1) ≡ next (state_at seed j)
state_more seed j =
    let e : j + 1 ≡ suc j = omega arith in
    ap (state_at seed) e ∙ state_suc seed j
