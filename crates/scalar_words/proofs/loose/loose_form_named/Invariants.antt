use Rattle.std.proofs.Common.{◌≡◌, drop}
use Rattle.scalar_words.specs.View.{form_among}
use Rattle.scalar_words.proofs.loose.loose_form_named.Given as goal

abbrev pub invariant-loop-it : goal.invariant-loop-it
invariant-loop-it l = form_among (drop l.it-index l.loose) l.text ≡ form_among l.loose l.text
