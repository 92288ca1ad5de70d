use Rattle.std.proofs.Common.{arith, refl, sym, ap, ◌∙◌}
use Rattle.std.specs.Prelude.{position}
use Rattle.reg_assign.specs.Taking.{is_ended, Empty, Ended, Unused, Full}
use Rattle.reg_assign.proofs.Ends.{first-ended, none-ended}
use Rattle.reg_assign.proofs.linear_scan.take_register.Goals as goal

pub returns-then-interval : goal.returns-then-interval
returns-then-interval c = Empty (omega arith) refl

pub returns-in-Some : goal.returns-in-Some
returns-in-Some c =
    let f = first-ended c.args.interval.from c.args.ends.now.items c.in-Some.register (sym (c.first_ended.ensures ∙ ap (position (is_ended c.args.interval.from)) c.deref.ensures.value) ∙ c.in-Some.is) in
    Ended c.in-Some.register (omega arith) f.0 f.1 refl

pub returns-then-register-n : goal.returns-then-register-n
returns-then-register-n c = Full (omega arith) (omega arith) (none-ended c.args.interval.from c.args.ends.now.items (sym (c.first_ended.ensures ∙ ap (position (is_ended c.args.interval.from)) c.deref.ensures.value) ∙ c.in_default.is))

pub returns : goal.returns
returns c = Unused c.len-register.result (omega arith) (omega arith) (omega arith) c.in_ok-push.ensures.items
