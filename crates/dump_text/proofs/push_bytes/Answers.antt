use Rattle.std.proofs.Common.{◌+◌, ◌++◌, ap, ◌∙◌, refl}
use Rattle.machine_model.specs.DumpText.{shown, byte_text}
use Rattle.dump_text.proofs.RangePieces.{pieces_more}
use Rattle.dump_text.proofs.push_bytes.Goals as goal

pub loop-k-preserved : goal.loop-k-preserved
loop-k-preserved c =
    let address = c.args.address + c.loop-k.k in
    c.in_ok-push_shown.ensures
    ∙ ap (λ byte. c.loop-k.text.items ++ shown byte) c.byte.ensures
    ∙ ap (λ before. before ++ byte_text c.args.pages.now.memory address) c.loop-k.invariant
    ∙ pieces_more (byte_text c.args.pages.now.memory) c.args.text.now.items c.args.address c.loop-k.k address refl
