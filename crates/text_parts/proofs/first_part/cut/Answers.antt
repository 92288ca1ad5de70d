use Rattle.std.proofs.Common.{◌≡◌, ℕ, ◌+◌, ◌-◌, ◌<◌, false, ◌∷◌, length, take, drop, get_or, All, sym, ap, ◌∙◌, subst, arith}
use Rattle.std.proofs.lemmas.List.{take_more, take_all, length-drop}
use Rattle.std.proofs.lemmas.List.Elements.{All-push}
use Rattle.std.proofs.lemmas.List.Splits.{slice_split_none}
use Rattle.std.proofs.lemmas.Bool.{ne_eqb}
use Rattle.std.specs.List.{slice_split}
use Rattle.text_parts.specs.Parts.{is_byte}
use Rattle.text_parts.proofs.Parts.{cut_at}
use Rattle.text_parts.proofs.first_part.cut.Goals as goal

pub returns-then-byte-mark-clause-parts : goal.returns-then-byte-mark-clause-parts
returns-then-byte-mark-clause-parts c =
    let text = c.args.text.now in
    let i = c.loop-i.i in
    cut_at c.args.mark text i c.loop-i.invariant (omega arith) c.if-byte-mark.true
    ∙ ap (λ l. take i text ∷ slice_split (is_byte c.args.mark) l) (sym (take_all (length text - (i + 1)) (drop (i + 1) text) (omega (arith, length-drop (i + 1) text))))

pub loop-i-preserved : goal.loop-i-preserved
loop-i-preserved c =
    let text = c.args.text.now in
    let i = c.loop-i.i in
    let inside : i < length text = omega arith in
    subst (All (λ (b : ℕ). is_byte c.args.mark b ≡ false)) (sym (take_more text i 0 inside))
    (All-push (λ (b : ℕ). is_byte c.args.mark b ≡ false) (take i text) (get_or text i 0) c.loop-i.invariant (ne_eqb (get_or text i 0) c.args.mark c.if-byte-mark.false))

pub returns-clause-parts : goal.returns-clause-parts
returns-clause-parts c =
    let text = c.args.text.now in
    slice_split_none (is_byte c.args.mark) text (subst (All (λ (b : ℕ). is_byte c.args.mark b ≡ false)) (take_all c.loop-i.i text (omega arith)) c.loop-i.invariant)
