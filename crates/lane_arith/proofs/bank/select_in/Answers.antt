use Rattle.lane_arith.proofs.Chosen.{select-width}
use Rattle.lane_arith.proofs.bank.select_in.Goals as goal

pub each_selected-requires : goal.each_selected-requires
each_selected-requires c = record { yes = c.requires.yes; no = c.requires.no; out = c.requires.out; ends = c.requires.ends }

pub returns-in-B : goal.returns-in-B
returns-in-B c = select-width c.args.shape.vl c.args.pg.now.bits c.args.yes c.args.no c.args.out c.args.zs.now _ c.args.shape.width _ c.in-B.is c.each_selected.ensures

pub each_selected-requires-in-H : goal.each_selected-requires-in-H
each_selected-requires-in-H c = record { yes = c.requires.yes; no = c.requires.no; out = c.requires.out; ends = c.requires.ends }

pub returns-in-H : goal.returns-in-H
returns-in-H c = select-width c.args.shape.vl c.args.pg.now.bits c.args.yes c.args.no c.args.out c.args.zs.now _ c.args.shape.width _ c.in-H.is c.each_selected-in-H.ensures

pub each_selected-requires-in-S : goal.each_selected-requires-in-S
each_selected-requires-in-S c = record { yes = c.requires.yes; no = c.requires.no; out = c.requires.out; ends = c.requires.ends }

pub returns-in-S : goal.returns-in-S
returns-in-S c = select-width c.args.shape.vl c.args.pg.now.bits c.args.yes c.args.no c.args.out c.args.zs.now _ c.args.shape.width _ c.in-S.is c.each_selected-in-S.ensures

pub each_selected-requires-in-D : goal.each_selected-requires-in-D
each_selected-requires-in-D c = record { yes = c.requires.yes; no = c.requires.no; out = c.requires.out; ends = c.requires.ends }

pub returns-in-D : goal.returns-in-D
returns-in-D c = select-width c.args.shape.vl c.args.pg.now.bits c.args.yes c.args.no c.args.out c.args.zs.now _ c.args.shape.width _ c.in-D.is c.each_selected-in-D.ensures
