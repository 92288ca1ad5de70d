use Rattle.std.proofs.Common.{◌≡◌, ℕ, ◌+◌, ◌*◌, ◌≤◌, Bool, true, false, refl, subst, sym, ap₂, ◌∙◌, lit≤, arith}
use mir.Val.{bool_byte}
use Rattle.guest_types.specs.Elements.{Flags}
use Rattle.a64_machine.specs.Cores.{flags_in}
use Rattle.a64_machine.proofs.conditions.nzcv.Goals as goal

at_most_one : (b : Bool) → bool_byte b ≤ 1
at_most_one true = lit≤ tt
at_most_one false = lit≤ tt

bool_byte_le_1 : (m : ℕ) (b : Bool) → m ≡ bool_byte b → m ≤ 1
bool_byte_le_1 m b e = subst (λ k. k ≤ 1) (sym e) (at_most_one b)

made : (n z c v : Bool) → let flags : Flags = record { n = n; z = z; c = c; v = v } in flags_in (8 * bool_byte n + 4 * bool_byte z + 2 * bool_byte c + bool_byte v) ≡ flags
made true true true true = refl
made true true true false = refl
made true true false true = refl
made true true false false = refl
made true false true true = refl
made true false true false = refl
made true false false true = refl
made true false false false = refl
made false true true true = refl
made false true true false = refl
made false true false true = refl
made false true false false = refl
made false false true true = refl
made false false true false = refl
made false false false true = refl
made false false false false = refl

pub overflow_mul-result : goal.overflow_mul-result
overflow_mul-result c = omega (arith, bool_byte_le_1 c.from.result c.args.n c.from.ensures)

pub overflow_mul-result-2 : goal.overflow_mul-result-2
overflow_mul-result-2 c = omega (arith, bool_byte_le_1 c.from-2.result c.args.z c.from-2.ensures)

pub overflow_add-result : goal.overflow_add-result
overflow_add-result c = omega (arith, bool_byte_le_1 c.from.result c.args.n c.from.ensures, bool_byte_le_1 c.from-2.result c.args.z c.from-2.ensures)

pub overflow_mul-result-3 : goal.overflow_mul-result-3
overflow_mul-result-3 c = omega (arith, bool_byte_le_1 c.from-3.result c.args.c c.from-3.ensures)

pub overflow_add-result-2 : goal.overflow_add-result-2
overflow_add-result-2 c =
    omega (arith, bool_byte_le_1 c.from.result c.args.n c.from.ensures, bool_byte_le_1 c.from-2.result c.args.z c.from-2.ensures, bool_byte_le_1 c.from-3.result c.args.c c.from-3.ensures)

pub overflow_add-result-3 : goal.overflow_add-result-3
overflow_add-result-3 c =
    omega (arith, bool_byte_le_1 c.from.result c.args.n c.from.ensures, bool_byte_le_1 c.from-2.result c.args.z c.from-2.ensures, bool_byte_le_1 c.from-3.result c.args.c c.from-3.ensures, bool_byte_le_1 c.from-4.result c.args.v c.from-4.ensures)

pub returns : goal.returns
returns c =
    ap₂ (λ n z. flags_in (8 * n + 4 * z + 2 * c.from-3.result + c.from-4.result)) c.from.ensures c.from-2.ensures
    ∙ ap₂ (λ d v. flags_in (8 * bool_byte c.args.n + 4 * bool_byte c.args.z + 2 * d + v)) c.from-3.ensures c.from-4.ensures
    ∙ made c.args.n c.args.z c.args.c c.args.v
