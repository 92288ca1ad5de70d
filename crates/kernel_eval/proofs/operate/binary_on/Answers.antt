use Rattle.std.proofs.Common.{◌<◌, ◌^◌, ap, ap₂, sym, ◌∙◌, pos, rules, arith}
use lib.Bits.{and_le_r}
use Rattle.std.specs.Prelude.{bit_and, bit_or, bit_xor}
use Rattle.std.specs.Int.{w128, int_min, int_max}
use Rattle.std.proofs.lemmas.Int.{to_z-of_z}
use Rattle.guest_types.specs.declared.length.Width.TheVariants.{D}
use Rattle.guest_types.proofs.Shifts.{or-below, xor-below}
use Rattle.kernel_meaning.specs.Operators.{word, binary_on}
use Rattle.kernel_meaning.proofs.Residues.{word-small, word-wrapping_mul}
use Rattle.kernel_eval.proofs.Words.{word-wrapping_add, word-wrapping_sub}
use Rattle.kernel_eval.proofs.operate.binary_on.Goals as goal

pub returns-in-Or : goal.returns-in-Or
returns-in-Or c =
    let a = c.word-in-Or in
    let b = c.word-in-Or-2 in
    ap word (word-small (bit_or a.result b.result) (or-below D a.result b.result a.type_inv b.type_inv))
    ∙ ap₂ (λ m n. word (pos (bit_or m n))) (a.ensures ∙ ap word (to_z-of_z w128 c.args.left c.ranges.left)) (b.ensures ∙ ap word (to_z-of_z w128 c.args.right c.ranges.right))
    ∙ sym (ap (λ o. word (binary_on o c.args.left c.args.right)) c.in-Or.is)

pub returns-in-Add : goal.returns-in-Add
returns-in-Add c =
    let x = c.args.left in
    let y = c.args.right in
    word-wrapping_add x y c.ranges.left c.ranges.right ∙ sym (ap (λ o. word (binary_on o x y)) c.in-Add.is)

pub returns-in-Sub : goal.returns-in-Sub
returns-in-Sub c =
    let x = c.args.left in
    let y = c.args.right in
    word-wrapping_sub x y c.ranges.left c.ranges.right ∙ sym (ap (λ o. word (binary_on o x y)) c.in-Sub.is)

pub returns-in-Mul : goal.returns-in-Mul
returns-in-Mul c =
    let x = c.args.left in
    let y = c.args.right in
    word-wrapping_mul x y c.ranges.left c.ranges.right ∙ sym (ap (λ o. word (binary_on o x y)) c.in-Mul.is)

pub returns-in-Xor : goal.returns-in-Xor
returns-in-Xor c =
    let a = c.word-in-Xor in
    let b = c.word-in-Xor-2 in
    ap word (word-small (bit_xor a.result b.result) (xor-below D a.result b.result a.type_inv b.type_inv))
    ∙ ap₂ (λ m n. word (pos (bit_xor m n))) (a.ensures ∙ ap word (to_z-of_z w128 c.args.left c.ranges.left)) (b.ensures ∙ ap word (to_z-of_z w128 c.args.right c.ranges.right))
    ∙ sym (ap (λ o. word (binary_on o c.args.left c.args.right)) c.in-Xor.is)

pub returns-in-Min : goal.returns-in-Min
returns-in-Min c =
    let both = ap₂ int_min (to_z-of_z w128 c.args.left c.ranges.left) (to_z-of_z w128 c.args.right c.ranges.right) in
    ap word (to_z-of_z w128 c.min.result (search rules) ∙ c.min.ensures.value ∙ both) ∙ sym (ap (λ o. word (binary_on o c.args.left c.args.right)) c.in-Min.is)

pub returns-in-Max : goal.returns-in-Max
returns-in-Max c =
    let both = ap₂ int_max (to_z-of_z w128 c.args.left c.ranges.left) (to_z-of_z w128 c.args.right c.ranges.right) in
    ap word (to_z-of_z w128 c.max.result (search rules) ∙ c.max.ensures.value ∙ both) ∙ sym (ap (λ o. word (binary_on o c.args.left c.args.right)) c.in-Max.is)

pub returns-in-And : goal.returns-in-And
returns-in-And c =
    let a = c.word in
    let b = c.word-in-And in
    let below : bit_and a.result b.result < 2 ^ 64 = omega (arith, and_le_r a.result b.result, b.type_inv) in
    ap word (word-small (bit_and a.result b.result) below)
    ∙ ap₂ (λ m n. word (pos (bit_and m n))) (a.ensures ∙ ap word (to_z-of_z w128 c.args.left c.ranges.left)) (b.ensures ∙ ap word (to_z-of_z w128 c.args.right c.ranges.right))
    ∙ sym (ap (λ o. word (binary_on o c.args.left c.args.right)) c.in-And.is)
