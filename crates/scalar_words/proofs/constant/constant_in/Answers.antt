use Rattle.std.proofs.Common.{refl, sym, ◌∙◌}
use Rattle.scalar_words.specs.View.{key_of}
use Rattle.scalar_words.proofs.RegisterHolding.{holding_found, holding_passed, holding_not_found}
use Rattle.scalar_words.proofs.constant.constant_in.Goals as goal

pub returns-then-is_same : goal.returns-then-is_same
returns-then-is_same c = holding_found c.args.constants.now c.loop-constant.constant-index c.constant-item.result (key_of c.args.key) c.loop-constant-test.true c.constant-item.is (sym c.is_same.ensures ∙ c.if-is_same.true) c.loop-constant.invariant

pub returns : goal.returns
returns c = holding_not_found c.args.constants.now c.loop-constant.constant-index (key_of c.args.key) c.loop-constant-test.false c.loop-constant.invariant

pub loop-constant-init : goal.loop-constant-init
loop-constant-init c = refl

pub loop-constant-preserved : goal.loop-constant-preserved
loop-constant-preserved c = holding_passed c.args.constants.now c.loop-constant.constant-index c.constant-item.result (key_of c.args.key) c.loop-constant-test.true c.constant-item.is (sym c.is_same.ensures ∙ c.if-is_same.false) c.loop-constant.invariant
