use Rattle.std.proofs.Common.{◌∙◌, arith}
use Rattle.std.proofs.lemmas.Nat.{and_mask}
use Rattle.paged_memory.proofs.Bytes.{put-number, low_bytes-mod}
use Rattle.paged_memory.proofs.number.put_word.Goals as goal

pub returns : goal.returns
returns c = put-number c.args.bytes.now c.args.at _ 4 c.args.value _ (omega arith) (c.copy_from_slice.ensures.after ∙ c.to_le_bytes.ensures ∙ low_bytes-mod 4 c.args.value _ (and_mask c.args.value 32))
