use Rattle.std.proofs.Common.{◌≡◌, false, get_or, drop, ap, sym, ◌∙◌}
use Rattle.std.specs.List.{prefix_len}
use Rattle.kernel_tree.specs.Tokens.{begins_hex}
use Rattle.number_text.specs.Numbers.{is_digit}
use Rattle.kernel_tokens.proofs.Runs.{decimal_at}
use Rattle.kernel_tokens.proofs.Scans.{tail_is}
use Rattle.kernel_tokens.proofs.number.number_front.Goals as goal

pub returns : goal.returns
returns c =
    let text = c.args.text.now in
    let f : begins_hex (get_or text 0 0) (drop 1 text) ≡ false = sym (ap (begins_hex (get_or text 0 0)) (tail_is text 1)) ∙ sym c.is_hex_number.ensures.value ∙ c.if-is_hex_number.false in
    let k : c.digit_count-count.result ≡ prefix_len is_digit (drop 1 text) = c.digit_count-count.ensures.value ∙ ap (prefix_len is_digit) (tail_is text 1) in
    c.read_literal-2.ensures ∙ decimal_at text c.digit_count-count.result c.requires f k
