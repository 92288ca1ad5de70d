use Rattle.std.proofs.Common.{◌∙◌, sym, rules, arith}
use Rattle.sve_decode.proofs.Tops.{top-predicates, top-moves, top-vectors, top-compare, top-loads, top-load_gather, top-store, top-other, among_loads, among_gathers, among_stores}
use Rattle.sve_decode.proofs.by_top_byte.Goals as goal

pub returns-in-4 : goal.returns-in-4
returns-in-4 c = c.vectors_of.ensures ∙ sym (top-vectors c.args.word c.ranges.word.fits c.in-4.is)

pub returns-in-5 : goal.returns-in-5
returns-in-5 c = c.moves_of.ensures ∙ sym (top-moves c.args.word c.ranges.word.fits c.in-5.is)

pub returns-in-36 : goal.returns-in-36
returns-in-36 c = c.compare_of.ensures ∙ sym (top-compare c.args.word c.ranges.word.fits c.in-36.is)

pub returns-in-37 : goal.returns-in-37
returns-in-37 c = c.predicates_of.ensures ∙ sym (top-predicates c.args.word c.ranges.word.fits c.in-37.is)

pub returns-in-164 : goal.returns-in-164
returns-in-164 c = c.loads_of.ensures ∙ sym (top-loads c.args.word c.ranges.word.fits (among_loads _ (omega arith) (omega arith)))

pub returns-in-196 : goal.returns-in-196
returns-in-196 c = c.gather_of.ensures ∙ sym (top-load_gather c.args.word c.ranges.word.fits (among_gathers _ (omega arith) (omega arith)))

pub returns-in-228 : goal.returns-in-228
returns-in-228 c = c.store_of.ensures ∙ sym (top-store c.args.word c.ranges.word.fits (among_stores _ (omega arith) (omega arith)))

pub returns-in_default : goal.returns-in_default
returns-in_default c = sym (top-other c.args.word c.ranges.word.fits (search rules))

pub returns-in_default-2 : goal.returns-in_default-2
returns-in_default-2 c = sym (top-other c.args.word c.ranges.word.fits (search rules))

pub returns-in_default-3 : goal.returns-in_default-3
returns-in_default-3 c = sym (top-other c.args.word c.ranges.word.fits (search rules))

pub returns-in_default-4 : goal.returns-in_default-4
returns-in_default-4 c = sym (top-other c.args.word c.ranges.word.fits (search rules))
