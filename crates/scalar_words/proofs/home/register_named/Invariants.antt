use Rattle.std.proofs.Common.{◌≡◌, drop}
use Rattle.scalar_words.specs.View.{register_among}
use Rattle.scalar_words.proofs.home.register_named.Given as goal

abbrev pub invariant-loop-home : goal.invariant-loop-home
invariant-loop-home l = register_among (drop l.home-index l.homes) l.text ≡ register_among l.homes l.text
