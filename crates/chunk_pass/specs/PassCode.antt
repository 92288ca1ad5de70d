-- The code of one pass of the loop of chunks: straight-line code, which takes the lanes of the chunk at X9, does the items of
-- the loop over them, and adds the number of lanes that came through to X9.
use Rattle.std.specs.Prelude.{ℕ, List, [], ◌∷◌, ◌++◌, if◌then◌else◌}
use Rattle.guest_types.specs.declared.length.Width.{Width}
use Rattle.a64_code.specs.Table as a64
use Rattle.sve_code.specs.Table.{whilelo, incp}
use Rattle.machine_model.specs.InstructionTable.{Listed, Scalar, Vector}
use Rattle.label_fix.specs.Registers.{iteration, lanes_left, scratch, xzr}
use Rattle.loop_form.specs.declared.loop_item.Operand.TheVariants.{LoopIndex}
use Rattle.loop_form.specs.LoopItems.{Item}
use Rattle.lane_emit.specs.Stretch.{word}
use Rattle.lane_emit.specs.LaneCode.{size_of, index_code}
use Rattle.chunk_emit.specs.Registers.{Layout}
use Rattle.chunk_emit.specs.ChunkCode.{vectors, items_words}
use Rattle.first_fault.specs.RegionCode.{exits_words, single_words}
use Rattle.first_fault.specs.BreakRegion.{region_of, rest_of}

-- WHILELO P0, X9, Xn: the lanes of the chunk are those whose iterations are below the bound
abbrev pub lanes_word : Width → ℕ → Listed
lanes_word w n = Vector (word whilelo (lanes_left ∷ iteration ∷ n ∷ size_of w ∷ []))

-- X26 = 1; WHILELO P0, XZR, X26: lane 0 alone
abbrev pub first_lane_words : Width → List Listed
first_lane_words w = Scalar (record { name = a64.movz; numbers = scratch ∷ 1 ∷ 0 ∷ [] }) ∷ Vector (word whilelo (lanes_left ∷ xzr ∷ scratch ∷ size_of w ∷ [])) ∷ []

-- INDEX z, X9, #1: the loop variable, where it has a register; then the lanes are doublewords
abbrev pub index_words : Layout → List Listed
index_words l = if l.held LoopIndex then vectors (index_code (l.registers.source LoopIndex) iteration) else []

-- INCP X9, P0
abbrev pub advance_word : Width → Listed
advance_word w = Vector (word incp (iteration ∷ lanes_left ∷ size_of w ∷ []))

-- a chunk of a loop with a break
abbrev pub chunk_words : Width → Layout → (bound : ℕ) → List Item → List Listed
chunk_words w l n items = lanes_word w n ∷ (index_words l ++ (exits_words w l (region_of items) ++ (items_words w l (rest_of items) ++ advance_word w ∷ [])))

-- one iteration of such a loop, where no lane came through the chunk at X9
abbrev pub iteration_words : Width → Layout → List Item → List Listed
iteration_words w l items = first_lane_words w ++ (single_words w l (region_of items) ++ (items_words w l (rest_of items) ++ advance_word w ∷ []))

-- a chunk of a loop without a break, whose lanes are in P0
abbrev pub plain_words : Width → Layout → List Item → List Listed
plain_words w l items = index_words l ++ (items_words w l items ++ advance_word w ∷ [])
