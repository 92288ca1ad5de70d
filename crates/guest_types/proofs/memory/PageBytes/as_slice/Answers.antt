use Rattle.std.proofs.Common.{◌<◌, ℕ, get_or, Fits, w8, rules}
use Rattle.std.proofs.lemmas.List.Elements.{All-from_get_or}
use Rattle.guest_types.proofs.memory.PageBytes.as_slice.Goals as goal

pub returns-clause-small : goal.returns-clause-small
returns-clause-small c =
    let fits : (i : ℕ) → Fits w8 (get_or c.args.self.now i 0) = λ i. search rules in
    All-from_get_or (λ b. b < 256) c.args.self.now 0 (λ i l. (fits i).fits)
