use Rattle.std.proofs.Common.{ap, sym, ◌%◌, ◌∙◌, ◌++◌, ◌∷◌, [], ap₂, ◌<◌, ◌/◌, length, arith}
use Rattle.std.proofs.lemmas.List.{take_more_set}
use Rattle.std.proofs.lemmas.Nat.{and_mask}
use Rattle.guest_types.proofs.Numbers.{shifted-more, bytes_of-more}
use Rattle.guest_types.proofs.bytes.put_number.Goals as goal

pub loop-byte-preserved : goal.loop-byte-preserved
loop-byte-preserved c =
    let i = c.loop-byte.byte-index in
    let v = c.args.value in
    let inside : i < length c.loop-byte.bytes = omega arith in (
      take_more_set c.loop-byte.bytes i _ inside ∙ ap₂ (λ l n. l ++ n ∷ []) c.loop-byte.invariant.0 (and_mask c.loop-byte.rest 8 ∙ ap (λ n. n % 256) c.loop-byte.invariant.1) ∙ sym (bytes_of-more i v),
      ap (λ n. n / 256) c.loop-byte.invariant.1 ∙ shifted-more v i,
    )
