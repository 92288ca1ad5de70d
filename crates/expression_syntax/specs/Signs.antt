-- A row of signs.
use Rattle.std.specs.Prelude.{List, [], ◌∷◌}
use Rattle.kernel_tree.specs.declared.mark.Sign.{Sign}
use Rattle.kernel_tree.specs.Plain.{Term}
use Rattle.kernel_tree.specs.Grammar.{signed}

-- an expression after signs, the first one outermost
abbrev pub all_signed : List Sign → Term → Term
all_signed [] e = e
all_signed (s ∷ ss) e = signed s (all_signed ss e)
