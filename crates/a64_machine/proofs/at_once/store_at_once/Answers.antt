use Rattle.std.proofs.Common.{Ok, refl, sym, ap, ◌∙◌}
use Rattle.guest_types.specs.Spans.{with_span}
use Rattle.guest_types.proofs.SpanLaws.{stored-span}
use Rattle.a64_machine.proofs.at_once.store_at_once.Goals as goal

pub returns-clause-done : goal.returns-clause-done
returns-clause-done c went =
    let m = c.args.pages.now.memory in
    let a = c.args.address in
    let span = c.write_span.ensures.written in
    stored-span m a c.args.size c.args.value c.is_memory.ensures c.ranges.address.fits (c.in-Some.ensures.some.0 refl)
    ∙ ap (λ l. Ok (with_span m a l)) (sym span.written)
    ∙ ap Ok (sym span.memory)
