use Rattle.page.proofs.NoForm.{on_form, no_field}
use Rattle.page.proofs.request.Rest.field.Goals as goal

pub returns-in_err-length-clause-form : goal.returns-in_err-length-clause-form
returns-in_err-length-clause-form c = on_form _ _ c.from_residual.ensures.1 (λ is. no_field _ (c.in_err-length.ensures.form is))
