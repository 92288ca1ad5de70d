use Rattle.std.proofs.Common.{refl, sym, ◌∙◌}
use Rattle.scalar_words.proofs.RegisterAmong.{register_found, register_passed, register_not_found}
use Rattle.scalar_words.proofs.home.register_named.Goals as goal

pub returns-then-eq : goal.returns-then-eq
returns-then-eq c = register_found c.args.homes.now c.loop-home.home-index c.home-item.result c.args.text.now c.loop-home-test.true c.home-item.is (sym c.eq.ensures ∙ c.if-eq.true) c.loop-home.invariant

pub returns : goal.returns
returns c = c.zero.ensures ∙ register_not_found c.args.homes.now c.loop-home.home-index c.args.text.now c.loop-home-test.false c.loop-home.invariant

pub loop-home-init : goal.loop-home-init
loop-home-init c = refl

pub loop-home-preserved : goal.loop-home-preserved
loop-home-preserved c = register_passed c.args.homes.now c.loop-home.home-index c.home-item.result c.args.text.now c.loop-home-test.true c.home-item.is (sym c.eq.ensures ∙ c.if-eq.false) c.loop-home.invariant
