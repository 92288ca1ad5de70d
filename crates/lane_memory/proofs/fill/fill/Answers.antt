use Rattle.std.proofs.Common.{◌∙◌, arith}
use Rattle.lane_memory.specs.Readings.{refused_of}
use Rattle.lane_memory.proofs.FirstTrue.{first_true-none, first_true-absent}
use Rattle.lane_memory.proofs.ReadLaws.{filled}
use Rattle.lane_memory.proofs.fill.fill.Goals as goal

pub copy_active-requires-clause-read : goal.copy_active-requires-clause-read
copy_active-requires-clause-read c =
    let refused = refused_of c.args.reading c.args.pages.now.memory c.args.pg.now.bits in
    let to = c.active_range-range.result.to in
    first_true-absent refused to 0 (λ j _ l. first_true-none refused c.args.lanes 0 c.requires.read j (omega arith) (omega (arith, l, c.active_range-range.ensures.inside)))

pub returns : goal.returns
returns c =
    let range = c.active_range-range.result in
    c.keep_active.ensures
    ∙ filled c.args.reading c.args.pages.now.memory c.args.pg.now.bits c.copy_active.new.out.bytes c.args.lanes range.from range.to c.active_range-range.ensures c.copy_active.ensures
