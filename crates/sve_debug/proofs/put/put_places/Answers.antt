use Rattle.std.proofs.Common.{◌≡◌, ◌+◌, ◌<◌, ◌++◌, length, take, drop, flat_map, ap, ◌∙◌, subst, arith}
use Rattle.io_edges.specs.Sink.{PutsText}
use Rattle.sve_debug.specs.Replies.{place_text}
use Rattle.sve_debug.proofs.PutTexts.{puts_next, puts_front, list_more, list_texts}
use Rattle.sve_debug.proofs.put.put_places.Goals as goal

pub loop-j-preserved : goal.loop-j-preserved
loop-j-preserved g c =
    let taken = g.S.Sink.taken in
    let faults = g.S.Sink.faults in
    let xs = c.args.places.now.items in
    let j = c.loop-j.j in
    let len = c.len-j-end.ensures.len in
    let test = c.loop-j-test.true in
    let inside : j < length xs = omega (arith, len, test) in
    let front = flat_map place_text (take j xs) in
    let whole : front ++ place_text c.place_at.result ≡ flat_map place_text (take (j + 1) xs) =
    ap (λ p. front ++ place_text p) c.place_at.ensures ∙ list_more place_text xs j inside in
    subst (λ r. PutsText (taken c.args.out.now) (taken c.put_past.new.out) (faults c.args.out.now) (faults c.put_past.new.out) (flat_map place_text (take (j + 1) xs)) r) c.in_ok-put_past.was
    (puts_next (taken c.args.out.now) (taken c.loop-j.out) (taken c.put_past.new.out) (faults c.args.out.now) (faults c.loop-j.out) (faults c.put_past.new.out) front (place_text c.place_at.result) (flat_map place_text (take (j + 1) xs)) c.put_past.result whole c.loop-j.invariant c.put_past.ensures)

pub returns-in_err-put_past : goal.returns-in_err-put_past
returns-in_err-put_past g c =
    let taken = g.S.Sink.taken in
    let faults = g.S.Sink.faults in
    let xs = c.args.places.now.items in
    let j = c.loop-j.j in
    let len = c.len-j-end.ensures.len in
    let test = c.loop-j-test.true in
    let inside : j < length xs = omega (arith, len, test) in
    let front = flat_map place_text (take j xs) in
    let whole : front ++ place_text c.place_at.result ≡ flat_map place_text (take (j + 1) xs) =
    ap (λ p. front ++ place_text p) c.place_at.ensures ∙ list_more place_text xs j inside in
    puts_front (taken c.args.out.now) (taken c.put_past.new.out) (faults c.args.out.now) (faults c.put_past.new.out) (flat_map place_text (take (j + 1) xs)) (flat_map place_text (drop (j + 1) xs)) (flat_map place_text xs) c.put_past.result c.from_residual.result c.in_err-put_past.field-0.0 c.in_err-put_past.was c.from_residual.ensures.0 (list_texts place_text xs (j + 1))
    (puts_next (taken c.args.out.now) (taken c.loop-j.out) (taken c.put_past.new.out) (faults c.args.out.now) (faults c.loop-j.out) (faults c.put_past.new.out) front (place_text c.place_at.result) (flat_map place_text (take (j + 1) xs)) c.put_past.result whole c.loop-j.invariant c.put_past.ensures)
