-- What is held throughout as the code has it.
use Rattle.std.specs.Prelude.{List, map}
use Rattle.loop_form.specs.declared.held_throughout.Held.{Held}
use Rattle.loop_form.specs.declared.held_throughout.Held.TheVariants as held
use Rattle.loop_form.specs.Needs.{Throughout, Scalar, Constant, Index, Accumulating}

abbrev pub view_of : Held → Throughout
view_of (held.Scalar x) = Scalar x.now
view_of (held.Constant t n) = Constant t n
view_of held.Index = Index
view_of (held.Accumulating x) = Accumulating x.now

abbrev pub view : List Held → List Throughout
view hs = map view_of hs
