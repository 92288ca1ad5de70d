use Rattle.std.proofs.Common.{◌+◌, ◌-◌, ◌∷◌, ◌++◌, [], drop, length, ap, ◌∙◌, length-append}
use Rattle.circular_buffer.specs.Buffer.{keep_last}
use Rattle.sve_machine.proofs.history.History.keep.Goals as goal

pub returns : goal.returns
returns c =
    let rs = c.self.inside.snapshots.items in
    let x = c.args.snapshot in
    ap (λ b. b.items) c.push_back.ensures.items
    ∙ ap (λ n. keep_last n (rs ++ x ∷ [])) c.self.invariant
    ∙ ap (λ n. drop (n - 8) (rs ++ x ∷ [])) (length-append rs (x ∷ []))
    ∙ ap (λ l. drop (length l + 1 - 8) (l ++ x ∷ [])) c.self.view_is
