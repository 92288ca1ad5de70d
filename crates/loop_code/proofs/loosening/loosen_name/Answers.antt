use Rattle.std.proofs.Common.{ℕ, List, ap, ◌∙◌}
use Rattle.kernel_tree.specs.Plain.{name_of, block_of}
use Rattle.kernel_scope.specs.Scopes.{scope_of, in_body}
use Rattle.scalar_words.specs.Layout.{LowBits}
use Rattle.loop_code.proofs.Emission.{loosened_kept, loosened_left}
use Rattle.guest_types.proofs.Errors.{on_error}
use Rattle.loop_code.proofs.loosening.loosen_name.Goals as goal

pub returns-then-branch-clause-loose : goal.returns-then-branch-clause-loose
returns-then-branch-clause-loose c =
    loosened_kept (in_body (scope_of c.args.scope.now)) (block_of c.args.body.now) (name_of c.args.name.now) c.args.ty c.args.loose.now.items c.push.new.self.items c.deref.result.now _ c.in_ok-covers_body.field-0 c.in_ok-push.ensures.items
    (ap (λ (x : List ℕ). record { name = x; form = LowBits c.args.ty }) c.text-name.ensures) c.deref.ensures.value c.in_ok-covers_body.ensures.covers c.if-branch.true

pub returns-clause-loose : goal.returns-clause-loose
returns-clause-loose c =
    loosened_left (in_body (scope_of c.args.scope.now)) (block_of c.args.body.now) (name_of c.args.name.now) c.args.ty c.args.loose.now.items c.push.new.self.items c.deref.result.now _ c.in_ok-covers_body.field-0 c.in_ok-push.ensures.items
    (ap (λ (x : List ℕ). record { name = x; form = LowBits c.args.ty }) c.text-name.ensures) c.deref.ensures.value c.in_ok-covers_body.ensures.covers c.truncate.new.self.items c.len-count.result c.if-branch.false c.truncate.ensures.items (c.len-count.ensures ∙ c.args.loose.now.ok.0)

pub returns-in_err-push : goal.returns-in_err-push
returns-in_err-push c =
    let failed = c.from_residual.ensures.0 in
    record { scope = on_error _ _ failed; loose = on_error _ _ failed }

pub returns-in_err-covers_body : goal.returns-in_err-covers_body
returns-in_err-covers_body c =
    let failed = c.from_residual-in_err-covers_body.ensures.0 in
    record { scope = on_error _ _ failed; loose = on_error _ _ failed }

pub returns-then-branch-clause-scope : goal.returns-then-branch-clause-scope
returns-then-branch-clause-scope c = c.in_ok-covers_body.ensures.scope

pub returns-clause-scope : goal.returns-clause-scope
returns-clause-scope c = c.in_ok-covers_body.ensures.scope
