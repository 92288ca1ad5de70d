use Rattle.std.proofs.Common.{◌≡◌, ℕ, ◌<◌, subst, sym, get_or, Fits, w8, rules}
use Rattle.guest_types.specs.Elements.{element}
use Rattle.guest_types.specs.Length.{modulus, width_bytes}
use Rattle.guest_types.proofs.Widths.{element-below}
use Rattle.guest_types.proofs.register.ZReg.element.Goals as goal

pub returns-clause-fits : goal.returns-clause-fits
returns-clause-fits c =
    let z = c.args.self.now.bytes in
    let bytes : (i : ℕ) → Fits w8 (get_or z i 0) = λ i. search rules in
    let is : c.number.result ≡ element (width_bytes c.args.width) z c.args.e = search rules in
    subst (λ n. n < modulus c.args.width) (sym is) (element-below c.args.width z c.args.e bytes)
