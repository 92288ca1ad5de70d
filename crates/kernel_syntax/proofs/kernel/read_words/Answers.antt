use Rattle.std.proofs.Common.{◌≡◌, ℕ, ◌-◌, length, None, subst, arith}
use Rattle.kernel_tree.specs.Plain.{words_of, program_of}
use Rattle.kernel_syntax.specs.Refusals.{IsPlace}
use Rattle.kernel_syntax.proofs.Outcomes.{deep_words}
use Rattle.kernel_syntax.proofs.KernelSound.{kernel_spells}
use Rattle.kernel_syntax.proofs.KernelComplete.{no_tree}
use Rattle.kernel_syntax.proofs.Place.{place_of}
use Rattle.kernel_syntax.proofs.kernel.read_words.Goals as goal

pub returns-in-Ok : goal.returns-in-Ok
returns-in-Ok c = (deep_words c.args.tokens.now None (omega arith) c.in_default.ensures.value, kernel_spells (words_of c.args.tokens.now) (program_of c.in-Ok.kernel) c.in-Ok.ensures)

pub returns-in-Err-Syntax : goal.returns-in-Err-Syntax
returns-in-Err-Syntax c =
    let stops = rw c.in-Err-Syntax.field-0-is at c.in-Err-Syntax.ensures in
    let token : length c.args.tokens.now - c.in-Err-Syntax.left ≡ c.saturating_sub.result = omega (arith, c.saturating_sub.ensures) in
    let place = subst (λ (k : ℕ). IsPlace (words_of c.args.tokens.now) k) token (place_of c.args.tokens.now c.in-Err-Syntax.left stops) in
    (deep_words c.args.tokens.now None (omega arith) c.in_default.ensures.value, no_tree (words_of c.args.tokens.now) c.in-Err-Syntax.left stops, place)
