use Rattle.std.proofs.Common.{◌≡◌, ◌-◌, ◌++◌, ◌∙◌, ℕ, length, replicate, ap₂, rules}
use Rattle.paged_memory.specs.Runs.{begun_with}
use Rattle.std.proofs.lemmas.Result.{IfOk-from_err}
use Rattle.paged_memory.proofs.run.page.Goals as goal

pub returns-clause-begins : goal.returns-clause-begins
unfolding begun_with
returns-clause-begins c =
    let zeros : c.in_ok-zeros.zeros.items ≡ replicate {A = ℕ} (4096 - length c.args.front.now) 0 = search rules in (
      c.new-3.ensures.perm,
      c.new-3.ensures.bytes ∙ c.new-2.ensures
          ∙ c.in_ok-extend_from_slice.ensures.items ∙ ap₂ (λ x y. x ++ y) c.in_ok-bytes.ensures.items (c.as_slice.ensures.value ∙ zeros),
    )

pub returns-in_err-zeros : goal.returns-in_err-zeros
returns-in_err-zeros c =
    let failed = c.from_residual.ensures.0 in
    record { number = IfOk-from_err _ _ failed; begins = IfOk-from_err _ _ failed; valid = IfOk-from_err _ _ failed }

pub returns-in_err-bytes : goal.returns-in_err-bytes
returns-in_err-bytes c =
    let failed = c.from_residual-in_err-bytes.ensures.0 in
    record { number = IfOk-from_err _ _ failed; begins = IfOk-from_err _ _ failed; valid = IfOk-from_err _ _ failed }

pub returns-in_err-extend_from_slice : goal.returns-in_err-extend_from_slice
returns-in_err-extend_from_slice c =
    let failed = c.from_residual-in_err-extend_from_slice.ensures.0 in
    record { number = IfOk-from_err _ _ failed; begins = IfOk-from_err _ _ failed; valid = IfOk-from_err _ _ failed }
