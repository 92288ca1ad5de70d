use Rattle.std.proofs.Common.{subst}
use Rattle.guest_types.specs.Lanes.{ShiftFits}
use Rattle.lane_arith.proofs.Chosen.{shift-operation}
use Rattle.lane_arith.proofs.bank.shift_by.Goals as goal

pub each_shifted-requires : goal.each_shifted-requires
each_shifted-requires c = record { fits = subst (λ op. ShiftFits op c.args.shape.width c.args.count) c.in-Lsl.is c.requires.fits; z = c.requires.z; out = c.requires.out; ends = c.requires.ends }

pub returns-in-Lsl : goal.returns-in-Lsl
returns-in-Lsl c = shift-operation c.args.shape.vl c.args.z c.args.count c.args.out c.args.zs.now _ c.args.shape.width c.args.op _ c.in-Lsl.is c.each_shifted.ensures

pub each_shifted-requires-in-Lsr : goal.each_shifted-requires-in-Lsr
each_shifted-requires-in-Lsr c = record { fits = subst (λ op. ShiftFits op c.args.shape.width c.args.count) c.in-Lsr.is c.requires.fits; z = c.requires.z; out = c.requires.out; ends = c.requires.ends }

pub returns-in-Lsr : goal.returns-in-Lsr
returns-in-Lsr c = shift-operation c.args.shape.vl c.args.z c.args.count c.args.out c.args.zs.now _ c.args.shape.width c.args.op _ c.in-Lsr.is c.each_shifted-in-Lsr.ensures

pub each_shifted-requires-in-Asr : goal.each_shifted-requires-in-Asr
each_shifted-requires-in-Asr c = record { fits = subst (λ op. ShiftFits op c.args.shape.width c.args.count) c.in-Asr.is c.requires.fits; z = c.requires.z; out = c.requires.out; ends = c.requires.ends }

pub returns-in-Asr : goal.returns-in-Asr
returns-in-Asr c = shift-operation c.args.shape.vl c.args.z c.args.count c.args.out c.args.zs.now _ c.args.shape.width c.args.op _ c.in-Asr.is c.each_shifted-in-Asr.ensures
