use Rattle.std.proofs.Common.{◌≡◌, ◌∷◌, ◌∙◌, sym, ap, arith}
use Rattle.text_parts.specs.Parts.{parts_after}
use Rattle.pipe_script.proofs.Arguments.{arguments_left, arguments_left_at_start, full, none-read, one-read, all-read}
use Rattle.pipe_script.proofs.script_line.arguments.Goals as goal

pub loop-rest-init : goal.loop-rest-init
loop-rest-init c = (arguments_left_at_start c.new-args.result.items (parts_after 32 c.args.words) c.new-args.ensures.items, omega (arith, c.new-args.ensures.len))

pub returns-then-len-ge8-clause-read : goal.returns-then-len-ge8-clause-read
returns-then-len-ge8-clause-read c =
    let w : parts_after 32 c.loop-rest.rest ≡ c.cut.result.0.now ∷ parts_after 32 c.cut.result.1 = ap (parts_after 32) c.in-Some.is ∙ c.cut.ensures.parts in
    sym (full c.loop-rest.args.items c.cut.result.0.now (parts_after 32 c.cut.result.1) (omega arith)) ∙ ap (arguments_left c.loop-rest.args.items) (sym w) ∙ c.loop-rest.invariant.0

pub returns-in_default-argument-clause-read : goal.returns-in_default-argument-clause-read
returns-in_default-argument-clause-read c =
    let w : parts_after 32 c.loop-rest.rest ≡ c.cut.result.0.now ∷ parts_after 32 c.cut.result.1 = ap (parts_after 32) c.in-Some.is ∙ c.cut.ensures.parts in
    sym (none-read c.loop-rest.args.items c.cut.result.0.now (parts_after 32 c.cut.result.1) (sym c.in_default-argument.ensures)) ∙ ap (arguments_left c.loop-rest.args.items) (sym w) ∙ c.loop-rest.invariant.0

pub loop-rest-preserved : goal.loop-rest-preserved
loop-rest-preserved c =
    let w : parts_after 32 c.loop-rest.rest ≡ c.cut.result.0.now ∷ parts_after 32 c.cut.result.1 = ap (parts_after 32) c.in-Some.is ∙ c.cut.ensures.parts in
    let read = one-read c.loop-rest.args.items c.cut.result.0.now (parts_after 32 c.cut.result.1) c.in-Some-argument.n (sym c.in-Some-argument.ensures) in (
      ap (λ a. arguments_left a (parts_after 32 c.cut.result.1)) c.in_ok-push.ensures.items ∙ sym read ∙ ap (arguments_left c.loop-rest.args.items) (sym w) ∙ c.loop-rest.invariant.0,
      omega (arith, c.in_ok-push.ensures.len),
    )

pub returns-clause-read : goal.returns-clause-read
returns-clause-read c =
    sym (all-read c.loop-rest.args.items c.loop-rest.invariant.1) ∙ ap (λ r. arguments_left c.loop-rest.args.items (parts_after 32 r)) (sym c.in_default.is) ∙ c.loop-rest.invariant.0
