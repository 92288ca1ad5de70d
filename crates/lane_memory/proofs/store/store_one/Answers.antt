use Rattle.lane_memory.proofs.Sizes.{byte_size}
use Rattle.std.proofs.Common.{sym}
use Rattle.lane_memory.proofs.StoreLaws.{one-done, one-refused, one-passed}
use Rattle.lane_memory.proofs.store.store_one.Goals as goal

pub is_active-requires : goal.is_active-requires
is_active-requires c = c.requires

pub element-value-requires : goal.element-value-requires
element-value-requires c = c.requires

pub store-requires : goal.store-requires
store-requires c = byte_size c.args.writing.memory _ c.bytes.ensures

pub returns-then-is_active : goal.returns-then-is_active
returns-then-is_active c =
    let w = c.args.writing in
    let m = c.args.pages.now.memory in
    record {
      done = one-done w c.args.pg.now.bits c.args.z.now.bytes m c.store.new.self.memory c.args.e c.target.result c.bytes.result c.element-value.result c.store.result (sym c.if-is_active.ensures) c.target.ensures c.bytes.ensures c.element-value.ensures.value c.store.ensures.done;
      refused = one-refused w c.args.pg.now.bits c.args.z.now.bytes m c.store.new.self.memory c.args.e c.target.result c.bytes.result c.element-value.result c.store.result (sym c.if-is_active.ensures) c.target.ensures c.bytes.ensures c.element-value.ensures.value c.store.ensures.refused
          c.store.ensures.unchanged;
      past = c.store.ensures.past;
    }

pub returns-else-is_active-clause-done : goal.returns-else-is_active-clause-done
returns-else-is_active-clause-done c = one-passed c.args.writing c.args.pg.now.bits c.args.z.now.bytes c.args.pages.now.memory c.args.e (sym c.if-is_active.ensures)
