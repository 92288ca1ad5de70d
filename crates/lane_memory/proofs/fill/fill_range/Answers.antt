use Rattle.std.proofs.Common.{◌≡◌, ◌+◌, ◌-◌, ◌*◌, refl, ap, ◌∙◌, subst, arith, inl, inr}
use Rattle.std.proofs.lemmas.Bool.{cases_lt, true≢false, false≢true}
use Rattle.lane_memory.specs.Readings.{refused_of, HoldsLanes}
use Rattle.lane_memory.proofs.FirstTrue.{first_true-absent}
use Rattle.lane_memory.proofs.ReadLaws.{holds-none, holds-part, filled, part-free, refused-inactive}
use Rattle.lane_memory.proofs.Sizes.{few_bytes}
use Rattle.lane_memory.proofs.fill.fill_range.Goals as goal

pub returns-clause-filled : goal.returns-clause-filled
returns-clause-filled c went =
    let r = c.args.reading in
    let m = c.args.pages.now.memory in
    let pg = c.args.pg.now.bits in
    let range = c.active_range-range.result in
    let n = range.to - range.from in
    let old = c.args.out.now.bytes in
    let new = c.copy_part.new.out.bytes in
    let end : range.from + n ≡ range.to = omega (arith, c.active_range-range.ensures.order) in
    c.keep_active.ensures
    ∙ filled r m pg new c.args.lanes range.from range.to c.active_range-range.ensures
    (subst (λ e. HoldsLanes r m pg range.from e new) end
    (holds-part r m pg c.in-Some.part.now range.from range.from n c.place-address.result (c.bytes.result * n) old new c.is_memory.ensures (holds-none r m pg range.from old) c.place-address.ensures (ap (λ k. k * n) c.bytes.ensures) (c.in-Some.ensures.some.0 refl) c.in-Some.ensures.value c.copy_part.ensures))

pub returns-clause-free : goal.returns-clause-free
returns-clause-free c went =
    let r = c.args.reading in
    let m = c.args.pages.now.memory in
    let pg = c.args.pg.now.bits in
    let range = c.active_range-range.result in
    let n = range.to - range.from in
    first_true-absent (refused_of r m pg) c.args.lanes 0 (λ j _ l. elim (cases_lt j range.from) [
      | inl b ↦ refused-inactive r m pg j (c.active_range-range.ensures.before j b)
      | inr g ↦ elim (cases_lt j range.to) [
        | inl b ↦ part-free r m pg range.from n c.place-address.result (c.bytes.result * n) j c.place-address.ensures (ap (λ k. k * n) c.bytes.ensures) (c.in-Some.ensures.some.0 refl) g (omega (arith, c.active_range-range.ensures.order))
        | inr a ↦ refused-inactive r m pg j (c.active_range-range.ensures.after j a (omega (arith, l)))
      ]
    ])

pub overflow_mul-len : goal.overflow_mul-len
overflow_mul-len c =
    let n = c.active_range-range.result.to - c.active_range-range.result.from in
    omega (arith, few_bytes c.args.reading.memory c.args.reading.element n (omega (arith, c.active_range-range.ensures.inside, c.requires)), ap (λ k. k * n) c.bytes.ensures)

pub overflow_cast-len : goal.overflow_cast-len
overflow_cast-len c =
    let n = c.active_range-range.result.to - c.active_range-range.result.from in
    omega (arith, few_bytes c.args.reading.memory c.args.reading.element n (omega (arith, c.active_range-range.ensures.inside, c.requires)), ap (λ k. k * n) c.bytes.ensures)

pub returns-in_default : goal.returns-in_default
returns-in_default c = record { filled = λ went. absurd (false≢true went); free = λ went. absurd (false≢true went); unchanged = λ _. refl }

pub copy_part-requires : goal.copy_part-requires
copy_part-requires c =
    let n = c.active_range-range.result.to - c.active_range-range.result.from in
    record { part = c.in-Some.ensures.len ∙ ap (λ k. k * n) c.bytes.ensures; inside = omega (arith, c.active_range-range.ensures.order, c.active_range-range.ensures.inside, c.requires) }

pub returns-clause-unchanged : goal.returns-clause-unchanged
returns-clause-unchanged c = λ e. absurd (true≢false e)

pub active_range-range-requires : goal.active_range-range-requires
active_range-range-requires c = c.requires

pub overflow_sub-count : goal.overflow_sub-count
overflow_sub-count c = omega (arith, c.active_range-range.ensures.order)

pub keep_active-requires : goal.keep_active-requires
keep_active-requires c = c.requires
