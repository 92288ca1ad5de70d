use Rattle.std.proofs.Common.{◌+◌, ◌*◌, ◌/◌, ap, arith}
use Rattle.lane_memory.proofs.ActiveRanges.{range-active, bytes_few, each_few}
use Rattle.lane_memory.proofs.Sizes.{few_bytes}
use Rattle.lane_memory.proofs.range.active_range.Goals as goal

pub overflow_mul-bytes : goal.overflow_mul-bytes
overflow_mul-bytes c = omega (arith, few_bytes c.args.width c.args.width c.args.lanes c.requires, ap (λ k. k * c.args.lanes) c.bytes.ensures)

pub overflow_add-bytes : goal.overflow_add-bytes
overflow_add-bytes c = omega (arith, few_bytes c.args.width c.args.width c.args.lanes c.requires, ap (λ k. k * c.args.lanes) c.bytes.ensures)

pub zeros_before-first-requires : goal.zeros_before-first-requires
zeros_before-first-requires c = omega (arith, bytes_few c.args.width c.args.lanes c.requires, ap (λ k. k * c.args.lanes) c.bytes.ensures)

pub zeros_from-last-requires : goal.zeros_from-last-requires
zeros_from-last-requires c = record {
  order = c.zeros_before-first.ensures.inside;
  inside = omega (arith, bytes_few c.args.width c.args.lanes c.requires, ap (λ k. k * c.args.lanes) c.bytes.ensures);
}

pub overflow_mul-each : goal.overflow_mul-each
overflow_mul-each c =
    let few = bytes_few c.args.width c.args.lanes c.requires in
    omega (arith, each_few c.args.width c.lanes_of_byte-each.result c.zeros_before-first.result c.lanes_of_byte-each.ensures (omega (arith, few, ap (λ k. k * c.args.lanes) c.bytes.ensures, c.zeros_before-first.ensures.inside)))

pub overflow_mul-each-2 : goal.overflow_mul-each-2
overflow_mul-each-2 c =
    let few = bytes_few c.args.width c.args.lanes c.requires in
    omega (arith, each_few c.args.width c.lanes_of_byte-each.result c.zeros_from-last.result c.lanes_of_byte-each.ensures (omega (arith, few, ap (λ k. k * c.args.lanes) c.bytes.ensures, c.zeros_from-last.ensures.inside)))

pub returns : goal.returns
returns c =
    range-active c.args.width c.args.pg.now.bits c.args.lanes c.lanes_of_byte-each.result _ c.zeros_before-first.result c.zeros_from-last.result c.min.result c.min-2.result
    c.lanes_of_byte-each.ensures
    (ap (λ k. (k * c.args.lanes + 7) / 8) c.bytes.ensures)
    c.zeros_from-last.ensures.order
    c.zeros_before-first.ensures.zero
    c.zeros_from-last.ensures.zero
    c.min.ensures
    c.min-2.ensures
