use Rattle.std.proofs.Common.{◌≡◌, drop}
use Rattle.command_line.specs.Given.{stands}
use Rattle.command_line.specs.View.{texts}
use Rattle.command_line.specs.declared.place.Place.TheVariants as place
use Rattle.command_line.proofs.check.may_follow.Given as goal

abbrev pub invariant-loop-word : goal.invariant-loop-word
invariant-loop-word l = stands l.place (texts (drop l.word-index l.words)) ≡ stands (place.Options l.fn.allowed) (texts l.words)
