use Rattle.std.proofs.Common.{ℕ, ◌*◌, ◌-◌, ◌^◌, ◌++◌, ◌<◌, ◌≤◌, codes, decimal, if◌then◌else◌, sym, ap, ◌∙◌, arith, le_of_lt, lt_of_le_of_lt, lt-ltb, le-ltb}
use Rattle.std.proofs.Math.Nat.{mul-le-mul_left, mul-le-mul_right}
use Rattle.list_text.proofs.Pieces.{next, in_two}
use Rattle.list_text.proofs.parts.push_signed.Goals as goal

less_fits : (u n m : ℕ) → n ≤ m → u * m < 2 ^ 32 → u * n < 2 ^ 32
less_fits u n m h fits = lt_of_le_of_lt (mul-le-mul_left u h) fits

one_fits : (u m : ℕ) → 0 < u → u * m < 2 ^ 32 → m < 2 ^ 32
one_fits u m some fits = let more : 1 * m ≤ u * m = mul-le-mul_right m some in omega (arith, more, fits)

pub push_str-requires : goal.push_str-requires
push_str-requires c = omega (arith, c.requires.room)

pub overflow_mul-unit : goal.overflow_mul-unit
overflow_mul-unit c = omega (arith, less_fits c.args.unit c.args.number (2 * c.args.half) (le_of_lt c.requires.range) c.requires.fits)

pub push_decimal-requires : goal.push_decimal-requires
push_decimal-requires c = omega (arith, c.requires.room, c.push_str.ensures.len)

pub overflow_mul-half : goal.overflow_mul-half
overflow_mul-half c = omega (arith, one_fits c.args.unit (2 * c.args.half) c.requires.some c.requires.fits)

pub overflow_sub-half : goal.overflow_sub-half
overflow_sub-half c = le_of_lt c.requires.range

pub overflow_mul-unit-else-number-half : goal.overflow_mul-unit-else-number-half
overflow_mul-unit-else-number-half c =
    omega (arith, less_fits c.args.unit (2 * c.args.half - c.args.number) (2 * c.args.half) (omega arith) c.requires.fits)

pub returns-then-number-half : goal.returns-then-number-half
returns-then-number-half c =
    let number = decimal (c.args.unit * c.args.number) in
    c.push_decimal.ensures.bytes ∙ next number c.push_str.ensures.bytes ∙ in_two c.args.into.now.bytes (codes "#") number
    ∙ ap (λ b. c.args.into.now.bytes ++ (if b then (codes "#" ++ number) else (codes "#-" ++ decimal (c.args.unit * (2 * c.args.half - c.args.number))))) (sym (lt-ltb c.args.number c.args.half c.if-number-half.true))

pub returns-else-number-half : goal.returns-else-number-half
returns-else-number-half c =
    let number = decimal (c.args.unit * (2 * c.args.half - c.args.number)) in
    c.push_decimal-else-number-half.ensures.bytes ∙ next number c.push_str-else-number-half.ensures.bytes ∙ in_two c.args.into.now.bytes (codes "#-") number
    ∙ ap (λ b. c.args.into.now.bytes ++ (if b then (codes "#" ++ decimal (c.args.unit * c.args.number)) else (codes "#-" ++ number))) (sym (le-ltb c.args.number c.args.half (omega (arith, c.if-number-half.false))))
