use Rattle.std.proofs.Common.{◌≡◌, ◌+◌, ◌-◌, ◌*◌, true, refl, sym, ap, ap₂, ◌∙◌, arith, subst}
use Rattle.guest_types.specs.Length.{width_bytes}
use Rattle.guest_types.specs.Spans.{has_span_mut}
use Rattle.lane_memory.specs.Writings.{target_of, stored_of}
use Rattle.lane_memory.proofs.WriteLaws.{part-stored}
use Rattle.std.proofs.lemmas.Bool.{true≢false, false≢true}
use Rattle.paged_memory.specs.Loans.{IsPlaceOf}
use Rattle.lane_memory.proofs.Sizes.{few_bytes}
use Rattle.lane_memory.proofs.store.store_at_once.Goals as goal

pub returns-clause-done : goal.returns-clause-done
returns-clause-done c went =
    let w = c.args.writing in
    let n = c.args.lanes in
    let m = c.args.pages.now.memory in
    let pg = c.args.pg.now.bits in
    let z = c.args.z.now.bytes in
    let has : has_span_mut m (target_of w 0) (width_bytes w.memory * n) ≡ true =
    sym (ap₂ (has_span_mut m) c.target.ensures (ap (λ k. k * n) c.bytes.ensures)) ∙ c.in-Some.ensures.some.0 refl in
    ap (λ l. stored_of w pg z l 0 m) (let q : n - 0 ≡ n + 0 = omega arith in q)
    ∙ part-stored w pg z 0 n 0 m c.store_full.new.pages.memory c.is_memory.ensures has c.store_full.ensures.written

pub is_full-requires : goal.is_full-requires
is_full-requires c = c.requires

pub returns-then-ne : goal.returns-then-ne
returns-then-ne c = record { done = λ went. absurd (false≢true went); unchanged = λ _. refl; past = refl }

pub overflow_mul-len : goal.overflow_mul-len
overflow_mul-len c = omega (arith, few_bytes c.args.writing.memory c.args.writing.element c.args.lanes c.requires, ap (λ k. k * c.args.lanes) c.bytes.ensures)

pub overflow_cast-len : goal.overflow_cast-len
overflow_cast-len c = omega (arith, few_bytes c.args.writing.memory c.args.writing.element c.args.lanes c.requires, ap (λ k. k * c.args.lanes) c.bytes.ensures)

pub returns-in_default : goal.returns-in_default
returns-in_default c = record { done = λ went. absurd (false≢true went); unchanged = λ _. refl; past = refl }

pub store_full-requires-clause-inside : goal.store_full-requires-clause-inside
store_full-requires-clause-inside c = omega (arith, c.requires)

pub store_full-requires-clause-part : goal.store_full-requires-clause-part
store_full-requires-clause-part c =
    let m = c.args.pages.now.memory in
    let place = c.in-Some.place in
    subst (λ a. IsPlaceOf m a (width_bytes c.args.writing.memory * c.args.lanes) place) c.target.ensures
    (subst (λ l. IsPlaceOf m c.target.result l place) (ap (λ k. k * c.args.lanes) c.bytes.ensures) c.in-Some.ensures.value)

pub returns-clause-unchanged : goal.returns-clause-unchanged
returns-clause-unchanged c = λ e. absurd (true≢false e)

pub returns-clause-past : goal.returns-clause-past
returns-clause-past c = c.store_full.ensures.past
