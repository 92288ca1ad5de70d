use Rattle.std.proofs.Common.{refl, sym, subst, ap, ◌∙◌}
use Rattle.sve_machine.specs.DecodedWords.{IsAlone, decoded_does}
use Rattle.sve_machine.proofs.DecodedWords.{after_alone, after_joined}
use Rattle.sve_machine.proofs.look_up.with_next.Goals as goal

pub joined-requires : goal.joined-requires
joined-requires c = subst IsAlone c.in-Ready.is c.requires

pub returns-in_default : goal.returns-in_default
returns-in_default c = record { same = λ s. refl; after = after_alone c.args.pages.now.memory c.args.pc c.args.first c.requires }

pub returns : goal.returns
returns c = record {
  same = λ s. c.joined.ensures.same s ∙ ap (λ k. decoded_does k s) (sym c.in-Ready.is);
  after = after_joined c.args.pages.now.memory c.args.pc c.next_place.result c.joined.result c.prepared_at-next.result c.next_place.ensures c.joined.ensures.branch c.prepared_at-next.ensures;
}
