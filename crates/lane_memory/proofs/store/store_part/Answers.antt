use Rattle.std.proofs.Common.{◌*◌, sym, ap, subst, arith}
use Rattle.paged_memory.specs.Loans.{IsPlaceOf}
use Rattle.lane_memory.specs.Writings.{target_of}
use Rattle.lane_memory.proofs.Sizes.{few_bytes}
use Rattle.lane_memory.proofs.store.store_part.Goals as goal

pub overflow_mul-len : goal.overflow_mul-len
overflow_mul-len c = omega (arith, few_bytes c.args.elements.now.writing.memory c.args.elements.now.writing.element c.args.elements.now.count (omega (arith, c.requires.inside)), ap (λ k. k * c.args.elements.now.count) c.bytes.ensures)

pub overflow_cast-len : goal.overflow_cast-len
overflow_cast-len c = omega (arith, few_bytes c.args.elements.now.writing.memory c.args.elements.now.writing.element c.args.elements.now.count (omega (arith, c.requires.inside)), ap (λ k. k * c.args.elements.now.count) c.bytes.ensures)

pub write_span-requires-clause-place : goal.write_span-requires-clause-place
write_span-requires-clause-place c =
    let m = c.args.pages.now.memory in
    let n = c.args.elements.now.count in
    subst (λ a. IsPlaceOf m a (c.bytes.result * n) c.args.place) (sym c.target-address.ensures)
    (subst (λ l. IsPlaceOf m (target_of c.args.elements.now.writing c.args.elements.now.from) l c.args.place) (ap (λ k. k * n) (sym c.bytes.ensures)) c.requires.part)

pub returns-clause-past : goal.returns-clause-past
returns-clause-past c = c.write_span.ensures.past
