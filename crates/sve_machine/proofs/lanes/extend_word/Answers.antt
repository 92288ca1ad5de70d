use Rattle.sve_machine.proofs.LaneRows.{extend_word_row, word_narrow}
use Rattle.sve_machine.proofs.lanes.extend_word.Goals as goal

pub merge_one-requires-clause-narrower : goal.merge_one-requires-clause-narrower
merge_one-requires-clause-narrower c = word_narrow c.args.op _ c.word_extension-operation.ensures

pub returns : goal.returns
returns c core memory =
    extend_word_row c.args.op c.args.zd.number c.args.zn.number c.args.pg.number c.args.vectors.now c.merge_one.new.self c.word_extension-operation.result c.word_extension-operation.ensures
    c.merge_one.ensures core memory
