use Rattle.std.proofs.Common.{◌≡◌, ◌+◌, ◌*◌, refl, ap, ◌∙◌, subst, arith}
use Rattle.lane_memory.specs.Readings.{refused_of, HoldsLanes, IsActiveRange}
use Rattle.lane_memory.proofs.FirstTrue.{first_true-absent}
use Rattle.lane_memory.proofs.ReadLaws.{holds-none, holds-part, filled, part-free}
use Rattle.std.proofs.lemmas.Bool.{true≢false, false≢true}
use Rattle.lane_memory.proofs.Sizes.{few_bytes}
use Rattle.lane_memory.proofs.fill.fill_full.Goals as goal

pub returns-clause-filled : goal.returns-clause-filled
returns-clause-filled c went =
    let r = c.args.reading in
    let m = c.args.pages.now.memory in
    let pg = c.args.pg.now.bits in
    let n = c.args.lanes in
    let old = c.args.out.now.bytes in
    let new = c.copy_part.new.out.bytes in
    let all : IsActiveRange r.element pg n 0 n = record { order = omega arith; inside = omega arith; before = λ e l. absurd (omega arith); after = λ e a b. absurd (omega arith) } in
    let end : 0 + n ≡ n = omega arith in
    c.keep_first.ensures
    ∙ filled r m pg new n 0 n all
    (subst (λ e. HoldsLanes r m pg 0 e new) end
    (holds-part r m pg c.in-Some.part.now 0 0 n c.place-address.result (c.bytes.result * n) old new c.is_memory.ensures (holds-none r m pg 0 old) c.place-address.ensures (ap (λ k. k * n) c.bytes.ensures) (c.in-Some.ensures.some.0 refl) c.in-Some.ensures.value c.copy_part.ensures))

pub returns-clause-free : goal.returns-clause-free
returns-clause-free c went =
    let r = c.args.reading in
    let m = c.args.pages.now.memory in
    let pg = c.args.pg.now.bits in
    let n = c.args.lanes in
    first_true-absent (refused_of r m pg) n 0 (λ j _ l. part-free r m pg 0 n c.place-address.result (c.bytes.result * n) j c.place-address.ensures (ap (λ k. k * n) c.bytes.ensures) (c.in-Some.ensures.some.0 refl) (omega arith) l)

pub overflow_mul-len : goal.overflow_mul-len
overflow_mul-len c =
    let n = c.args.lanes in
    omega (arith, few_bytes c.args.reading.memory c.args.reading.element n (c.requires.lanes), ap (λ k. k * n) c.bytes.ensures)

pub overflow_cast-len : goal.overflow_cast-len
overflow_cast-len c =
    let n = c.args.lanes in
    omega (arith, few_bytes c.args.reading.memory c.args.reading.element n (c.requires.lanes), ap (λ k. k * n) c.bytes.ensures)

pub returns-in_default : goal.returns-in_default
returns-in_default c = record { filled = λ went. absurd (false≢true went); free = λ went. absurd (false≢true went); unchanged = λ _. refl }

pub copy_part-requires : goal.copy_part-requires
copy_part-requires c =
    let n = c.args.lanes in
    record { part = c.in-Some.ensures.len ∙ ap (λ k. k * n) c.bytes.ensures; inside = omega (arith, c.requires.lanes) }

pub returns-clause-unchanged : goal.returns-clause-unchanged
returns-clause-unchanged c = λ e. absurd (true≢false e)

pub keep_first-requires : goal.keep_first-requires
keep_first-requires c = record { lanes = c.requires.lanes; full = c.requires.full }
