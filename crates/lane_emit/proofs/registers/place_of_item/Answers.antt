use Rattle.std.proofs.Common.{sym, ap, ◌∙◌}
use Rattle.std.specs.Prelude.{slice_get}
use Rattle.std.specs.Option.{option_flatten}
use Rattle.lane_emit.specs.LoopRegisters.{flat}
use Rattle.lane_emit.proofs.Looked.{looked, flat_is}
use Rattle.lane_emit.proofs.registers.place_of_item.Goals as goal

pub returns-in_err-place : goal.returns-in_err-place
returns-in_err-place c =
    let found = c.copied.ensures ∙ looked c.get.result c.args.places.now c.saturating_sub-number.result c.get.ensures.lookup.0 c.get.ensures.lookup.1 in
    c.from_residual.ensures ∙ sym c.in_err-place.was ∙ c.flatten.ensures ∙ ap option_flatten found ∙ flat_is (slice_get c.args.places.now c.saturating_sub-number.result) ∙ ap (λ n. flat (slice_get c.args.places.now n)) c.saturating_sub-number.ensures

pub returns : goal.returns
returns c =
    let found = c.copied.ensures ∙ looked c.get.result c.args.places.now c.saturating_sub-number.result c.get.ensures.lookup.0 c.get.ensures.lookup.1 in
    sym c.in_ok-place.was ∙ c.flatten.ensures ∙ ap option_flatten found ∙ flat_is (slice_get c.args.places.now c.saturating_sub-number.result) ∙ ap (λ n. flat (slice_get c.args.places.now n)) c.saturating_sub-number.ensures
