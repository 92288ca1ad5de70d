use Rattle.std.proofs.Common.{◌+◌, ◌++◌, [], ap, ◌∙◌, refl, arith}
use Rattle.machine_model.specs.DumpText.{shown, byte_text}
use Rattle.dump_text.proofs.RangePieces.{pieces_more}
use Rattle.sve_debug.proofs.digits.memory_bytes.Goals as goal

pub loop-k-preserved : goal.loop-k-preserved
loop-k-preserved g c =
    let memory = (g.D.Debuggee.view_of c.args.machine.now).state.memory in
    let address = c.args.address + c.loop-k.k in
    let room = c.loop-k.invariant.room in
    let more = c.push_shown.ensures.room in
    record {
      text =
          c.push_shown.ensures.text
          ∙ ap (λ byte. c.loop-k.text.items ++ shown byte) c.byte.ensures
          ∙ ap (λ before. before ++ byte_text memory address) c.loop-k.invariant.text
          ∙ pieces_more (byte_text memory) [] c.args.address c.loop-k.k address refl;
      room = omega (arith, room, more);
    }
