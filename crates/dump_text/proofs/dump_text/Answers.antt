use Rattle.std.proofs.Common.{◌≡◌, ◌+◌, ◌*◌, ◌++◌, [], ap, ◌∙◌, arith}
use Rattle.machine_model.specs.DumpText.{dump_line, line_of_dump}
use Rattle.dump_text.proofs.RangePieces.{pieces_more}
use Rattle.dump_text.proofs.dump_text.Goals as goal

pub loop-k-preserved : goal.loop-k-preserved
loop-k-preserved c =
    let pages = c.args.pages.now.memory in
    let k = c.loop-k.k in
    let from : 0 + k ≡ k = omega arith in
    c.in_ok-push_line.ensures
    ∙ ap (λ count. c.loop-k.text.items ++ dump_line pages (c.args.address + 16 * k) count) c.min.ensures
    ∙ ap (λ before. before ++ line_of_dump pages c.args.address c.args.len k) c.loop-k.invariant
    ∙ pieces_more (line_of_dump pages c.args.address c.args.len) [] 0 k k from
