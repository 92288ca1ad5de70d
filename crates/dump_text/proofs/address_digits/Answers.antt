use Rattle.std.proofs.Common.{◌∙◌, ap}
use Rattle.hex.specs.Hex.{encode_lower}
use Rattle.dump_text.proofs.Digits.{address}
use Rattle.dump_text.proofs.address_digits.Goals as goal

pub returns : goal.returns
returns c = c.in-Ok.ensures.written ∙ ap encode_lower c.to_be_bytes.ensures ∙ address c.args.address
