use Rattle.std.proofs.Common.{refl, sym, ◌∙◌}
use Rattle.scalar_words.proofs.FormAmong.{form_found, form_passed, form_not_found}
use Rattle.scalar_words.proofs.loose.loose_form_named.Goals as goal

pub returns-then-eq : goal.returns-then-eq
returns-then-eq c = form_found c.args.loose.now c.loop-it.it-index _ c.args.text.now c.loop-it-test.true (sym c.eq.ensures ∙ c.if-eq.true) c.loop-it.invariant

pub returns : goal.returns
returns c = form_not_found c.args.loose.now c.loop-it.it-index c.args.text.now c.loop-it-test.false c.loop-it.invariant

pub loop-it-init : goal.loop-it-init
loop-it-init c = refl

pub loop-it-preserved : goal.loop-it-preserved
loop-it-preserved c = form_passed c.args.loose.now c.loop-it.it-index _ c.args.text.now c.loop-it-test.true (sym c.eq.ensures ∙ c.if-eq.false) c.loop-it.invariant
