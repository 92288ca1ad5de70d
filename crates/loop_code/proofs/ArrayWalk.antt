-- The arrays of an element, by the word of its index.
use Rattle.std.proofs.Common.{◌≡◌, List, Option, Some, None, refl}
use Rattle.std.specs.Prelude.{ℤ, option_map}
use Rattle.machine_model.specs.InstructionTable.{Listed}
use Rattle.scalar_words.specs.Layout.{Loose}
use Rattle.value_code.specs.ItemWords.{index_word}
use Rattle.loop_code.specs.Loosening.{element_arrays}

pub element_streamed : (o : Option ℤ) (w : Option Listed) (ls ms : List Loose) → option_map index_word o ≡ Some w → ls ≡ element_arrays o ls ms
element_streamed None w ls ms h = absurd cc
element_streamed (Some c) w ls ms h = refl

pub element_computed : (o : Option ℤ) (ls ms : List Loose) → option_map index_word o ≡ None → ms ≡ element_arrays o ls ms
element_computed None ls ms h = refl
element_computed (Some c) ls ms h = absurd cc
