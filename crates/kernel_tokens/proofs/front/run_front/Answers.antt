use Rattle.std.proofs.Common.{◌≡◌, ◌+◌, drop, ap, ◌∙◌}
use Rattle.std.specs.List.{prefix_len}
use Rattle.kernel_tree.specs.Tokens.{is_name_byte}
use Rattle.kernel_tokens.proofs.Runs.{run_is, run_at}
use Rattle.kernel_tokens.proofs.Scans.{tail_is}
use Rattle.kernel_tokens.proofs.front.run_front.Goals as goal

pub run_before-requires : goal.run_before-requires
run_before-requires c =
    let k : c.rest_of_name-count.result ≡ prefix_len is_name_byte (drop 1 c.args.text.now) = c.rest_of_name-count.ensures.value ∙ ap (prefix_len is_name_byte) (tail_is c.args.text.now 1) in
    rw k (run_is c.args.text.now c.requires.letter)

pub returns : goal.returns
returns c =
    let k : c.rest_of_name-count.result ≡ prefix_len is_name_byte (drop 1 c.args.text.now) = c.rest_of_name-count.ensures.value ∙ ap (prefix_len is_name_byte) (tail_is c.args.text.now 1) in
    rw (← run_at c.args.text.now c.requires.some) (rw (tail_is c.args.text.now (1 + c.rest_of_name-count.result), k) at c.run_before.ensures)
