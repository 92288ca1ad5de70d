use Rattle.std.proofs.Common.{◌∙◌, sym, arith}
use Rattle.sve_decode.proofs.Tops.{predicate-while_below, predicate-predicate_operations, predicate-predicate_updates, predicate-predicate_sources}
use Rattle.sve_decode.proofs.predicates.predicates_of.Goals as goal

pub returns-in-0 : goal.returns-in-0
returns-in-0 c = c.while_below_of.ensures ∙ sym (predicate-while_below c.args.word (sym c.field.ensures.value ∙ c.in-0.is))

pub returns-in-1 : goal.returns-in-1
returns-in-1 c = c.predicate_operations_of.ensures ∙ sym (predicate-predicate_operations c.args.word (sym c.field.ensures.value ∙ c.in-1.is))

pub returns-in-2 : goal.returns-in-2
returns-in-2 c = c.predicate_updates_of.ensures ∙ sym (predicate-predicate_updates c.args.word (sym c.field.ensures.value ∙ c.in-2.is))

pub returns-in_default : goal.returns-in_default
returns-in_default c = c.predicate_sources_of.ensures ∙ sym (predicate-predicate_sources c.args.word (omega (arith, c.field.ensures.value, c.field.ensures.below)))
