use Rattle.std.proofs.Common.{◌∙◌, sym, ap, arith}
use Rattle.std.proofs.lemmas.Nat.{and_mask}
use Rattle.paged_memory.proofs.Bytes.{with_number-zero, with_number-suc}
use Rattle.std.specs.Prelude.{slice_set}
use Rattle.paged_memory.proofs.number.put_byte.Goals as goal

pub returns : goal.returns
returns c = ap (λ b. slice_set c.args.bytes.now c.args.at b) (and_mask c.args.value 8) ∙ sym (with_number-zero _ _ _) ∙ sym (with_number-suc c.args.bytes.now c.args.at 0 c.args.value (omega arith))
