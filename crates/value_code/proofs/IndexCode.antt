-- The code of an index that is computed.
use Rattle.std.proofs.Common.{◌≡◌, ℕ, List, Some, None, refl, ap, ◌∙◌}
use Rattle.machine_model.specs.InstructionTable.{Listed}
use Rattle.std.specs.Prelude.{ℤ, Bool, Option, option_map, is_none, ◌&&◌}
use Rattle.kernel_tree.specs.declared.ops.Ty.{Ty}
use Rattle.value_code.specs.Extents.{Whole}
use Rattle.value_code.specs.ItemWords.{index_word}
use Rattle.value_code.specs.Code.{number_code, loose_code, index_code}
use Rattle.kernel_tree.specs.Plain.{Term}
use Rattle.kernel_tree.specs.Items.{stream_offset}
use Rattle.kernel_tree.specs.Typing.{Scope, index_type}
use Rattle.label_fix.specs.DraftRun.{DraftEntry}
use Rattle.scalar_words.specs.Layout.{Constant, Form, Loose, Layout, Homes}
use Rattle.value_code.specs.HeldNumbers.{hold_index}
use Rattle.value_code.specs.Covers.{index_form, stands_together, index_covers}

-- ---- indexes

index_by : (L : Layout) (hs : Homes) (s : Scope) (b n : ℕ) (e : Term) (rest : List DraftEntry) (o : Option ℤ) → option_map index_word o ≡ None → loose_code L hs s Whole (index_type s e) b n e rest ≡ number_code o (loose_code L hs s Whole (index_type s e) b n e) rest
index_by L hs s b n e rest None h = refl
index_by L hs s b n e rest (Some c) h = absurd cc

-- the code of an index that is computed
pub index_is : (L : Layout) (hs : Homes) (s : Scope) (b n : ℕ) (e : Term) (want : Option Ty) (rest : List DraftEntry) → option_map index_word (stream_offset s.index e) ≡ None → want ≡ index_type s e → loose_code L hs s Whole want b n e rest ≡ index_code L hs s b n e rest
index_is L hs s b n e want rest h q = ap (λ w. loose_code L hs s Whole w b n e rest) q ∙ index_by L hs s b n e rest (stream_offset s.index e) h

-- ---- numbers of indexes

pub held_stream : (o : Option ℤ) (w : Option Listed) (more : List Constant → List Constant) (cs : List Constant) → option_map index_word o ≡ Some w → cs ≡ hold_index o more cs
held_stream None w more cs h = absurd cc
held_stream (Some c) w more cs h = refl

pub held_computed : (o : Option ℤ) (more : List Constant → List Constant) (cs : List Constant) → option_map index_word o ≡ None → more cs ≡ hold_index o more cs
held_computed None more cs h = refl
held_computed (Some c) more cs h = absurd cc

-- ---- names of indexes

pub covers_stream : (ls : List Loose) (i : Option (List ℕ)) (array : Option Form) (want : Option Ty) (o : Option ℤ) (w : Option Listed) (computed : Bool) → option_map index_word o ≡ Some w → stands_together array (index_form ls i) want ≡ index_covers ls i array want o computed
covers_stream ls i array want None w computed h = absurd cc
covers_stream ls i array want (Some c) w computed h = refl

pub covers_computed : (ls : List Loose) (i : Option (List ℕ)) (array : Option Form) (want : Option Ty) (o : Option ℤ) (computed : Bool) → option_map index_word o ≡ None → (is_none array && computed) ≡ index_covers ls i array want o computed
covers_computed ls i array want None computed h = refl
covers_computed ls i array want (Some c) computed h = absurd cc
