use Rattle.sve_machine.proofs.RunSteps.{not_even_one}
use Rattle.sve_machine.proofs.advance.advance.Goals as goal

pub advance_more-requires : goal.advance_more-requires
advance_more-requires g c = record { decoded = c.requires.decoded }

pub returns : goal.returns
returns g c = record {
  answer = c.advance_more.ensures.answer (not_even_one c.advance_more.new.more c.advance_more.ensures.fewer);
  decoded = c.advance_more.ensures.decoded;
  place = c.advance_more.ensures.place;
  past = c.advance_more.ensures.past;
}
