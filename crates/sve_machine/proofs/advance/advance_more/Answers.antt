use Rattle.std.proofs.Common.{◌/◌, ◌%◌, refl, ⊎_elim}
use Rattle.std.proofs.lemmas.Bool.{cases_eq}
use Rattle.a64_machine.specs.Cores.{state_of, said}
use Rattle.sve_machine.proofs.DecodedWords.{step_by, two_by, same_code, same_code_after_two, all_still}
use Rattle.sve_machine.proofs.RunSteps.{no_more_than}
use Rattle.sve_machine.proofs.advance.advance_more.Goals as goal

pub returns-then-not-look_up : goal.returns-then-not-look_up
returns-then-not-look_up g c = record {
  answer = λ same. c.look_up.ensures.stopped (state_of c.args.core.now c.args.pages.now.memory c.args.vectors.now) c.if-not-look_up.true refl refl;
  both = λ other. absurd (other refl);
  fewer = λ other. absurd (other refl);
  few = no_more_than _ _ (λ other. absurd (other refl));
  decoded = c.look_up.ensures.decoded;
  place = refl;
  past = refl;
}

pub returns-clause-answer : goal.returns-clause-answer
returns-clause-answer g c same =
    let s = state_of c.args.core.now c.args.pages.now.memory c.args.vectors.now in
    let t = state_of c.execute.new.core c.execute.new.pages.memory c.execute.new.vectors in
    step_by s t (said c.execute.result c.execute.new.answer) c.look_up.new.decoded (c.args.core.now.pc / 4 % 1024) _ (λ d. c.look_up.ensures.found d c.if-not-look_up.false) (c.execute.ensures.answer same)

pub returns-clause-both : goal.returns-clause-both
returns-clause-both g c other =
    let s = state_of c.args.core.now c.args.pages.now.memory c.args.vectors.now in
    let t = state_of c.execute.new.core c.execute.new.pages.memory c.execute.new.vectors in
    let go = c.execute.ensures.both other in
    (go.0, two_by s t c.look_up.new.decoded (c.args.core.now.pc / 4 % 1024) _ (λ d. c.look_up.ensures.found d c.if-not-look_up.false) go.1)

pub returns-clause-fewer : goal.returns-clause-fewer
returns-clause-fewer g c = c.execute.ensures.fewer

pub returns-clause-few : goal.returns-clause-few
returns-clause-few g c = no_more_than _ _ c.execute.ensures.fewer

pub returns-clause-decoded : goal.returns-clause-decoded
returns-clause-decoded g c =
    let s = state_of c.args.core.now c.args.pages.now.memory c.args.vectors.now in
    let t = state_of c.execute.new.core c.execute.new.pages.memory c.execute.new.vectors in
    let r = said c.execute.result c.execute.new.answer in
    let at = c.args.core.now.pc / 4 % 1024 in
    all_still c.args.pages.now.memory c.execute.new.pages.memory c.look_up.new.decoded
    (⊎_elim
    (λ same. same_code s t r (step_by s t r c.look_up.new.decoded at _ (λ d. c.look_up.ensures.found d c.if-not-look_up.false) (c.execute.ensures.answer same)))
    (λ other. same_code_after_two s t (two_by s t c.look_up.new.decoded at _ (λ d. c.look_up.ensures.found d c.if-not-look_up.false) (c.execute.ensures.both other).1))
    (cases_eq c.execute.new.more c.args.more.now))
    c.look_up.ensures.decoded
