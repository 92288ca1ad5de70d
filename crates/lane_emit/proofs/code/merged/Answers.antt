use Rattle.std.proofs.Common.{◌++◌, ◌∷◌, ap, ◌∙◌}
use Rattle.std.proofs.lemmas.Result.{on_ok_weaker}
use Rattle.guest_types.proofs.Errors.{on_error}
use Rattle.sve_code.specs.View.{instruction_view, merging_name}
use Rattle.lane_emit.specs.LaneCode.{z_copy, z_settle}
use Rattle.lane_emit.specs.View.{words_of}
use Rattle.lane_emit.proofs.Appended.{adds_as, merged_exchanged, merged_copied}
use Rattle.lane_emit.proofs.code.merged.Goals as goal

pub returns-in_err-z_copy : goal.returns-in_err-z_copy
returns-in_err-z_copy c = on_error _ _ c.from_residual.ensures.0

pub returns-then-d-b : goal.returns-then-d-b
returns-then-d-b c =
    let settle = z_settle c.args.leaves c.args.width c.args.ty c.args.d.number in
    let code = merged_exchanged c.args.width (merging_name c.args.op) c.args.d.number c.args.a.number c.args.b.number settle c.if-d-b.true in
    on_ok_weaker c.settled.result (λ p. adds_as c.args.words.now.items c.settled.new.words.items _ _ (ap (λ i. i ∷ settle) c.merging.ensures ∙ code) p) c.settled.ensures

pub returns-in_ok-z_copy : goal.returns-in_ok-z_copy
returns-in_ok-z_copy c =
    let d = c.args.d.number in
    let a = c.args.a.number in
    let settle = z_settle c.args.leaves c.args.width c.args.ty d in
    let code = merged_copied c.args.width (merging_name c.args.op) d a c.args.b.number settle c.if-d-b.false in
    on_ok_weaker c.settled-else-d-b.result (λ p.
    p
    ∙ c.in_ok-z_copy.ensures (instruction_view c.merging-else-d-b.result ∷ settle)
    ∙ ap (λ l. words_of c.args.words.now.items ++ l) (ap (λ i. z_copy d a (i ∷ settle)) c.merging-else-d-b.ensures ∙ code)) c.settled-else-d-b.ensures
