use Rattle.std.proofs.Common.{◌∙◌, arith}
use Rattle.paged_memory.proofs.Bytes.{put-number, low_bytes}
use Rattle.paged_memory.proofs.number.put_double_word.Goals as goal

pub returns : goal.returns
returns c = put-number c.args.bytes.now c.args.at _ 8 c.args.value _ (omega arith) (c.copy_from_slice.ensures.after ∙ c.to_le_bytes.ensures ∙ low_bytes 8 c.args.value)
