use Rattle.std.proofs.Common.{◌≡◌, ◌∷◌, [], ◌++◌, sym, ap, ◌∙◌, arith}
use Rattle.std.proofs.lemmas.Result.{IfOk-from_err}
use Rattle.machine_model.specs.Load.{segments_from}
use Rattle.elf_image.proofs.Tables.{segments_from_more}
use Rattle.elf_image.proofs.segments.read_all.Goals as goal

pub returns-in_err-segments : goal.returns-in_err-segments
returns-in_err-segments c = IfOk-from_err _ _ c.from_residual.ensures.0

pub loop-index-init : goal.loop-index-init
loop-index-init c = c.in_ok-segments.ensures.items

pub read-requires : goal.read-requires
read-requires c = omega (arith, c.requires, c.loop-index-test.true)

pub returns-in_err-push : goal.returns-in_err-push
returns-in_err-push c = IfOk-from_err _ _ c.from_residual-in_err-push.ensures.0

pub loop-index-preserved : goal.loop-index-preserved
loop-index-preserved c =
    let before = c.loop-index.invariant in
    let next = c.read.ensures in
    c.in_ok-push.ensures.items ∙ (λ i. before i ++ next i ∷ []) ∙ sym (segments_from_more c.args.bytes.now c.args.at c.loop-index.index)

pub returns : goal.returns
returns c =
    let all : c.loop-index.index ≡ c.args.count = omega (arith, c.loop-index-test.false, c.loop-index.auto.index-end) in
    c.loop-index.invariant ∙ ap (segments_from c.args.bytes.now c.args.at) all
