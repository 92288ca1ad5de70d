use Rattle.std.proofs.Common.{◌+◌, ◌*◌, ◌++◌, length, ap, ◌∙◌, sym, arith}
use Rattle.list_text.specs.Text.{line_text}
use Rattle.program_commands.specs.Listing.{lines_from}
use Rattle.program_commands.proofs.Listings.{lines_of_no_word, lines_of_one_word_more}
use Rattle.program_commands.proofs.listing.write_lines.Goals as goal

pub loop-i-init : goal.loop-i-init
loop-i-init c =
    let empty = c.clear.ensures in
    record { text = empty ∙ sym (lines_of_no_word c.args.pages.now.memory c.args.from); room = omega (arith, ap length empty) }

pub loop-i-preserved : goal.loop-i-preserved
loop-i-preserved c =
    let pages = c.args.pages.now.memory in
    let i = c.loop-i.i in
    let address = c.args.from + 4 * i in
    let len = c.push_str.ensures.len in
    let fits = c.as_str.ensures.fits in
    let before = c.loop-i.invariant.room in
    record {
      text =
          c.push_str.ensures.bytes
          ∙ ap (λ t. t ++ c.as_str.result.now) c.loop-i.invariant.text
          ∙ ap (λ t. lines_from pages c.args.from i ++ t) (c.as_str.ensures.value ∙ c.line_text.ensures ∙ ap (line_text address) c.word_at.ensures)
          ∙ sym (lines_of_one_word_more pages c.args.from i);
      room = omega (arith, len, fits, before);
    }
