use Rattle.std.proofs.Common.{◌+◌, ◌++◌, ◌≤◌, length, map, drop, sym, subst, ap₂, ◌∙◌, Vec, Global, refl}
use Rattle.word_rows.specs.declared.Bits.{Bits}
use Rattle.scalar_words.specs.View.{register_number}
use Rattle.scalar_words.specs.KernelRegisters.{register_in, count_values, item_regs}
use Rattle.scalar_words.proofs.ItemSteps.{more_last_uses, no_value, one_value_more, no_register, more_registers, all_registers, all_last_uses, room_before, room_kept, room_more, below_all}
use Rattle.guest_types.proofs.Errors.{on_error}
use Rattle.scalar_words.proofs.kernel_layout.place_items.Goals.{in-None+in_ok-push-in-None, in-Some+in_ok-push-in-Some}
use Rattle.scalar_words.proofs.kernel_layout.place_items.Goals as goal

pub counted_register-requires : goal.counted_register-requires
counted_register-requires c =
    let l = c.loop-item in
    let R = register_in c.args.regs.now in
    let more = one_value_more R c.args.items.now l.item-index _ c.loop-item-test.true l.interval _ _ c.in-Some.is l.invariant.within in
    record { assigned = c.requires.assigned; within = below_all l.interval _ _ more }

pub loop-item-preserved : goal.loop-item-preserved
loop-item-preserved c =
    let l = c.loop-item in
    let R = register_in c.args.regs.now in
    let is = c.args.items.now in
    let i = l.item-index in
    let lt = c.loop-item-test.true in
    let inv = l.invariant in
    elim c.match-item.branch [
      | in-None+in_ok-push-in-None w ↦
          let e = w.interval-is in
          let same = no_value R is i _ lt l.interval _ w.in-None.is inv.within in
          record {
            within = subst (λ n. n + count_values (drop (i + 1) is) ≤ length c.args.regs.now.registers) (sym e) same;
            room = room_kept l.interval _ c.args.first i e inv.room;
            regs = ap₂ (λ (v : Vec (Bits 5) Global) n. map register_number v.items ++ item_regs R n (drop (i + 1) is)) w.found-is e ∙ no_register R is i _ lt l.interval _ _ _ _ w.in_ok-push-in-None.ensures.items refl w.in-None.is inv.regs;
            last_uses = more_last_uses R is i _ lt _ _ _ _ c.in_ok-push.ensures.items c.unwrap_or.ensures inv.last_uses;
          }
      | in-Some+in_ok-push-in-Some w ↦
          let e = w.interval-is in
          let more = one_value_more R is i _ lt l.interval _ _ w.in-Some.is inv.within in
          record {
            within = subst (λ n. n + count_values (drop (i + 1) is) ≤ length c.args.regs.now.registers) (sym e) more;
            room = room_more l.interval _ c.args.first i e inv.room;
            regs = ap₂ (λ (v : Vec (Bits 5) Global) n. map register_number v.items ++ item_regs R n (drop (i + 1) is)) w.found-is e ∙ more_registers R is i _ lt l.interval _ _ _ _ _ w.in_ok-push-in-Some.ensures.items w.counted_register.ensures w.in-Some.is inv.regs;
            last_uses = more_last_uses R is i _ lt _ _ _ _ c.in_ok-push.ensures.items c.unwrap_or.ensures inv.last_uses;
          }
    ]

pub returns-clause-regs : goal.returns-clause-regs
returns-clause-regs c = all_registers (register_in c.args.regs.now) c.args.items.now c.loop-item.item-index c.loop-item.interval _ _ c.loop-item-test.false c.loop-item.invariant.regs

pub returns-clause-last_uses : goal.returns-clause-last_uses
returns-clause-last_uses c = all_last_uses c.args.items.now c.loop-item.item-index _ _ c.loop-item-test.false c.loop-item.invariant.last_uses

pub loop-item-init : goal.loop-item-init
loop-item-init c = record { within = c.requires.within; room = room_before c.args.first c.args.first 0 refl refl; regs = refl; last_uses = refl }

pub returns-in_err-push : goal.returns-in_err-push
returns-in_err-push c =
    let failed = c.from_residual.ensures.0 in
    record { regs = on_error _ _ failed; last_uses = on_error _ _ failed }

pub returns-in_err-push-in-None : goal.returns-in_err-push-in-None
returns-in_err-push-in-None c =
    let failed = c.from_residual-in_err-push-in-None.ensures.0 in
    record { regs = on_error _ _ failed; last_uses = on_error _ _ failed }

pub returns-in_err-push-in-Some : goal.returns-in_err-push-in-Some
returns-in_err-push-in-Some c =
    let failed = c.from_residual-in_err-push-in-Some.ensures.0 in
    record { regs = on_error _ _ failed; last_uses = on_error _ _ failed }
