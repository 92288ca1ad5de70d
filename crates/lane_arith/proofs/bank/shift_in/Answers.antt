use Rattle.std.proofs.Common.{subst}
use Rattle.guest_types.specs.Lanes.{ShiftFits}
use Rattle.lane_arith.proofs.Chosen.{shift-width}
use Rattle.lane_arith.proofs.bank.shift_in.Goals as goal

pub shift_by-requires : goal.shift_by-requires
shift_by-requires c = record { fits = subst (λ w. ShiftFits c.args.op w c.args.count) c.in-B.is c.requires.fits; z = c.requires.z; out = c.requires.out; ends = c.requires.ends }

pub returns-in-B : goal.returns-in-B
returns-in-B c = shift-width c.args.shape.vl c.args.z c.args.count c.args.out c.args.zs.now _ c.args.op c.args.shape.width _ c.in-B.is c.shift_by.ensures

pub shift_by-requires-in-H : goal.shift_by-requires-in-H
shift_by-requires-in-H c = record { fits = subst (λ w. ShiftFits c.args.op w c.args.count) c.in-H.is c.requires.fits; z = c.requires.z; out = c.requires.out; ends = c.requires.ends }

pub returns-in-H : goal.returns-in-H
returns-in-H c = shift-width c.args.shape.vl c.args.z c.args.count c.args.out c.args.zs.now _ c.args.op c.args.shape.width _ c.in-H.is c.shift_by-in-H.ensures

pub shift_by-requires-in-S : goal.shift_by-requires-in-S
shift_by-requires-in-S c = record { fits = subst (λ w. ShiftFits c.args.op w c.args.count) c.in-S.is c.requires.fits; z = c.requires.z; out = c.requires.out; ends = c.requires.ends }

pub returns-in-S : goal.returns-in-S
returns-in-S c = shift-width c.args.shape.vl c.args.z c.args.count c.args.out c.args.zs.now _ c.args.op c.args.shape.width _ c.in-S.is c.shift_by-in-S.ensures

pub shift_by-requires-in-D : goal.shift_by-requires-in-D
shift_by-requires-in-D c = record { fits = subst (λ w. ShiftFits c.args.op w c.args.count) c.in-D.is c.requires.fits; z = c.requires.z; out = c.requires.out; ends = c.requires.ends }

pub returns-in-D : goal.returns-in-D
returns-in-D c = shift-width c.args.shape.vl c.args.z c.args.count c.args.out c.args.zs.now _ c.args.op c.args.shape.width _ c.in-D.is c.shift_by-in-D.ensures
