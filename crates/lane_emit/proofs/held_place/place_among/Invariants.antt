use Rattle.std.proofs.Common.{◌≡◌, drop}
use Rattle.loop_form.specs.HeldView.{view, view_of}
use Rattle.lane_emit.specs.LoopRegisters.{place_in}
use Rattle.lane_emit.proofs.PlaceMoved.{moved}
use Rattle.lane_emit.proofs.held_place.place_among.Given as goal

abbrev pub invariant-loop-place : goal.invariant-loop-place
invariant-loop-place l =
    moved l.place (place_in (view_of l.wanted) (view (drop l.place l.held))) ≡ place_in (view_of l.wanted) (view l.held)
