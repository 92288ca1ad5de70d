use Rattle.std.proofs.Common.{◌≡◌, ◌+◌, ◌-◌, ◌*◌, ◌/◌, ◌≤◌, ◌++◌, [], flat_map, ap, ◌∙◌, subst, arith}
use Rattle.std.specs.List.{range_with_len}
use Rattle.io_edges.specs.Sink.{PutsText}
use Rattle.machine_model.specs.DumpText.{dump_line, line_of_dump, dump_text}
use Rattle.dump_text.proofs.RangePieces.{pieces_more}
use Rattle.sve_debug.proofs.PutTexts.{puts_next, puts_front, range_texts}
use Rattle.sve_debug.proofs.put.put_dump.Goals as goal

pub loop-k-preserved : goal.loop-k-preserved
loop-k-preserved g c =
    let taken = g.S.Sink.taken in
    let faults = g.S.Sink.faults in
    let memory = (g.D.Debuggee.view_of c.args.machine.now).state.memory in
    let f = line_of_dump memory c.args.address c.args.len in
    let k = c.loop-k.k in
    let from : 0 + k ≡ k = omega arith in
    let front = flat_map f (range_with_len 0 k) in
    let last = dump_line memory (c.args.address + 16 * k) c.min.result in
    let whole : front ++ last ≡ flat_map f (range_with_len 0 (k + 1)) =
    ap (λ n. front ++ dump_line memory (c.args.address + 16 * k) n) c.min.ensures ∙ pieces_more f [] 0 k k from in
    subst (λ r. PutsText (taken c.args.out.now) (taken c.put_dump_line.new.out) (faults c.args.out.now) (faults c.put_dump_line.new.out) (flat_map f (range_with_len 0 (k + 1))) r) c.in_ok-put_dump_line.was
    (puts_next (taken c.args.out.now) (taken c.loop-k.out) (taken c.put_dump_line.new.out) (faults c.args.out.now) (faults c.loop-k.out) (faults c.put_dump_line.new.out) front last (flat_map f (range_with_len 0 (k + 1))) c.put_dump_line.result whole c.loop-k.invariant c.put_dump_line.ensures)

pub returns-in_err-put_dump_line : goal.returns-in_err-put_dump_line
unfolding dump_text
returns-in_err-put_dump_line g c =
    let taken = g.S.Sink.taken in
    let faults = g.S.Sink.faults in
    let memory = (g.D.Debuggee.view_of c.args.machine.now).state.memory in
    let f = line_of_dump memory c.args.address c.args.len in
    let k = c.loop-k.k in
    let from : 0 + k ≡ k = omega arith in
    let front = flat_map f (range_with_len 0 k) in
    let last = dump_line memory (c.args.address + 16 * k) c.min.result in
    let whole : front ++ last ≡ flat_map f (range_with_len 0 (k + 1)) =
    ap (λ n. front ++ dump_line memory (c.args.address + 16 * k) n) c.min.ensures ∙ pieces_more f [] 0 k k from in
    let count = (c.args.len + 15) / 16 in
    let end = c.div_ceil-k-end.ensures in
    let test = c.loop-k-test.true in
    let most : k + 1 ≤ count = omega (arith, end, test) in
    puts_front (taken c.args.out.now) (taken c.put_dump_line.new.out) (faults c.args.out.now) (faults c.put_dump_line.new.out) (flat_map f (range_with_len 0 (k + 1))) (flat_map f (range_with_len (k + 1) (count - (k + 1)))) (flat_map f (range_with_len 0 count)) c.put_dump_line.result c.from_residual.result c.in_err-put_dump_line.field-0.0 c.in_err-put_dump_line.was c.from_residual.ensures.0 (range_texts f (k + 1) count most)
    (puts_next (taken c.args.out.now) (taken c.loop-k.out) (taken c.put_dump_line.new.out) (faults c.args.out.now) (faults c.loop-k.out) (faults c.put_dump_line.new.out) front last (flat_map f (range_with_len 0 (k + 1))) c.put_dump_line.result whole c.loop-k.invariant c.put_dump_line.ensures)
