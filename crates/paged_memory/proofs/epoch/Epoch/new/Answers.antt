use Rattle.std.proofs.Common.{arith}
use Rattle.paged_memory.proofs.Marks.{epoch-empty}
use Rattle.std.proofs.lemmas.Result.{IfOk-from_err}
use Rattle.paged_memory.proofs.epoch.Epoch.new.Goals as goal

pub invariant_of-result : goal.invariant_of-result
invariant_of-result c =
    epoch-empty c.in_ok-marks.marks.items c.in_ok-places.places.items c.in_ok-images.images.items _ _ c.args.pages
    (c.in_ok-marks.ensures.items_if_clones_equal (λ y h. h))
    c.in_ok-places.ensures.items
    c.in_ok-images.ensures.items
    c.requires
    (omega (arith, c.in_ok-places.ensures.capacity))
    (omega (arith, c.in_ok-images.ensures.capacity))

pub returns-in_err-marks : goal.returns-in_err-marks
returns-in_err-marks c = IfOk-from_err _ _ c.from_residual.ensures.0

pub returns-in_err-places : goal.returns-in_err-places
returns-in_err-places c = IfOk-from_err _ _ c.from_residual-in_err-places.ensures.0

pub returns-in_err-images : goal.returns-in_err-images
returns-in_err-images c = IfOk-from_err _ _ c.from_residual-in_err-images.ensures.0
