use Rattle.std.proofs.Common.{◌≡◌, ◌+◌, ◌++◌, ◌∷◌, [], length, ap, ◌∙◌, arith, length-append}
use Rattle.sve_debug.specs.Replies.{digit, bit_text}
use Rattle.dump_text.proofs.RangePieces.{pieces_more}
use Rattle.sve_debug.proofs.digits.bit_digits.Goals as goal

pub loop-j-preserved : goal.loop-j-preserved
loop-j-preserved c =
    let before = c.loop-j.text.items in
    let j = c.loop-j.j in
    let from : 0 + j ≡ j = omega arith in
    let room = c.loop-j.invariant.room in
    record {
      text =
          c.push.ensures
          ∙ ap (λ d. before ++ d ∷ []) (c.bit_digit.ensures ∙ ap digit c.bit.ensures)
          ∙ ap (λ t. t ++ bit_text c.args.register.now.bits j) c.loop-j.invariant.text
          ∙ pieces_more (bit_text c.args.register.now.bits) [] 0 j j from;
      room = omega (arith, room, ap length c.push.ensures, length-append before (c.bit_digit.result ∷ []));
    }
