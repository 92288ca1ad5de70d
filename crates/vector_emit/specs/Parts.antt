-- The parts of the passes, by the labels before a pass and after the loop.
use Rattle.std.specs.Prelude.{ℕ, List, [], ◌∷◌, Bool}
use Rattle.guest_types.specs.declared.length.Width.{Width}
use Rattle.a64_code.specs.Table.{subs}
use Rattle.label_fix.specs.DraftRun.{If, DraftEntry, Put, Branch, Place, ins}
use Rattle.label_fix.specs.Registers.{iteration, turn_limit, xzr}
use Rattle.label_fix.specs.Conditions as conditions
use Rattle.loop_form.specs.LoopItems.{Item}
use Rattle.chunk_emit.specs.Registers.{Layout}
use Rattle.chunk_emit.specs.ChunkCode.{puts}
use Rattle.chunk_pass.specs.PassCode.{lanes_word, chunk_words, iteration_words, plain_words}
use Rattle.vector_emit.specs.VectorCode.{any_lane, count_word, turn_passes, turn_shift, times}

-- a chunk of a loop with a break
abbrev pub chunk_part : Width → Layout → (bound : ℕ) → List Item → (head end : ℕ) → List DraftEntry → List DraftEntry
chunk_part w l bound items head end rest =
    Place head ∷ puts (chunk_words w l bound items) (Put any_lane ∷ Branch (If conditions.ne) head ∷ ins subs (xzr ∷ iteration ∷ 0 ∷ bound ∷ 0 ∷ []) ∷ Branch (If conditions.hs) end ∷ rest)

-- one iteration of such a loop
abbrev pub iteration_part : Width → Layout → List Item → (head end : ℕ) → List DraftEntry → List DraftEntry
iteration_part w l items head end rest = puts (iteration_words w l items) (Put any_lane ∷ Branch (If conditions.ne) head ∷ Place end ∷ rest)

-- the turns of a loop without a break, by whether a pass is long
abbrev pub turns_part : Width → Layout → (long : Bool) → (bound : ℕ) → List Item → (head end turn : ℕ) → List DraftEntry → List DraftEntry
turns_part w l long bound items head end turn rest =
    Put (count_word w) ∷ ins subs (turn_limit ∷ bound ∷ turn_shift long ∷ turn_limit ∷ 0 ∷ []) ∷ Branch (If conditions.lo) head
    ∷ Place turn ∷ times (turn_passes long) (plain_words w l items) (ins subs (xzr ∷ iteration ∷ 0 ∷ turn_limit ∷ 0 ∷ []) ∷ Branch (If conditions.ls) turn ∷ Put (lanes_word w bound) ∷ Branch (If conditions.eq) end ∷ rest)

-- a chunk of such a loop
abbrev pub plain_part : Width → Layout → (bound : ℕ) → List Item → (head end : ℕ) → List DraftEntry → List DraftEntry
plain_part w l bound items head end rest = Place head ∷ puts (plain_words w l items) (Put (lanes_word w bound) ∷ Branch (If conditions.ne) head ∷ Place end ∷ rest)
