-- What contracts see of code.
use Rattle.std.specs.Prelude.{◌≡◌, List, ◌++◌, map}
use Rattle.sve_code.specs.declared.Sve.{Sve}
use Rattle.sve_code.specs.View.{instruction_view}
use Rattle.lane_emit.specs.Stretch.{VectorInstruction}

abbrev pub words_of : List Sve → List VectorInstruction
words_of code = map instruction_view code

-- what a call appends, before whatever follows
abbrev pub Appends : (List VectorInstruction → List VectorInstruction) → (old new : List Sve) → Type 0
Appends code old new = (rest : List VectorInstruction) → words_of new ++ rest ≡ words_of old ++ code rest

abbrev pub Adds : List VectorInstruction → (old new : List Sve) → Type 0
Adds code old new = words_of new ≡ words_of old ++ code
