-- Which rows a word can be in, by its top byte, and then by a few more bits.
use Rattle.std.proofs.Common.{◌≡◌, ◌≤◌, arith, lit<, ℕ, ◌/◌, ◌^◌, ◌<◌, List, [], ◌∷◌, None, refl}
use Rattle.word_rows.specs.Field.{from_to, number_in}
use Rattle.word_rows.specs.Row.{reads}
use Rattle.word_rows.proofs.Keys.{IsAmong, IsOther, has_only, reads-group, reads-other, reads-among_top, reads-other_top}
use Rattle.sve_code.specs.Table.{Name, row, sve_names, while_below, pred_logic, break_form, set_ffr, write_ffr, increment_by_count, count_true, true_form, false_form, test_form, read_ffr, read_ffr_zeroing, duplicate, select, add_sub, merging, logic, reduce, index, shift_imm, unary, extend_byte, extend_half, extend_word, count, compare, load, load_first_fault, load_no_fault, load_gather, store}
use Rattle.sve_decode.specs.Groups.{predicate_operations, predicate_updates, predicate_sources, arithmetic, bitwise, unary_forms, moves, loads, predicates, vectors}

abbrev groups : List (List Name)
groups = predicates ∷ moves ∷ vectors ∷ compare ∷ loads ∷ load_gather ∷ store ∷ []

pub top-predicates : (w : ℕ) → w < 2 ^ 32 → IsAmong (0x25 ∷ []) (w / 2 ^ 24) → reads row sve_names w ≡ reads row predicates w
unfolding while_below pred_logic break_form set_ffr write_ffr increment_by_count count_true true_form false_form test_form read_ffr read_ffr_zeroing duplicate select add_sub merging logic reduce index shift_imm unary extend_byte extend_half extend_word count compare load load_first_fault load_no_fault load_gather store predicate_operations predicate_updates predicate_sources arithmetic bitwise unary_forms moves loads predicates vectors
top-predicates w small e = reads-among_top row w (0x25 ∷ []) groups 0 predicates small refl refl e

pub top-moves : (w : ℕ) → w < 2 ^ 32 → IsAmong (0x05 ∷ []) (w / 2 ^ 24) → reads row sve_names w ≡ reads row moves w
unfolding while_below pred_logic break_form set_ffr write_ffr increment_by_count count_true true_form false_form test_form read_ffr read_ffr_zeroing duplicate select add_sub merging logic reduce index shift_imm unary extend_byte extend_half extend_word count compare load load_first_fault load_no_fault load_gather store predicate_operations predicate_updates predicate_sources arithmetic bitwise unary_forms moves loads predicates vectors
top-moves w small e = reads-among_top row w (0x05 ∷ []) groups 1 moves small refl refl e

pub top-vectors : (w : ℕ) → w < 2 ^ 32 → IsAmong (0x04 ∷ []) (w / 2 ^ 24) → reads row sve_names w ≡ reads row vectors w
unfolding while_below pred_logic break_form set_ffr write_ffr increment_by_count count_true true_form false_form test_form read_ffr read_ffr_zeroing duplicate select add_sub merging logic reduce index shift_imm unary extend_byte extend_half extend_word count compare load load_first_fault load_no_fault load_gather store predicate_operations predicate_updates predicate_sources arithmetic bitwise unary_forms moves loads predicates vectors
top-vectors w small e = reads-among_top row w (0x04 ∷ []) groups 2 vectors small refl refl e

pub top-compare : (w : ℕ) → w < 2 ^ 32 → IsAmong (0x24 ∷ []) (w / 2 ^ 24) → reads row sve_names w ≡ reads row compare w
unfolding while_below pred_logic break_form set_ffr write_ffr increment_by_count count_true true_form false_form test_form read_ffr read_ffr_zeroing duplicate select add_sub merging logic reduce index shift_imm unary extend_byte extend_half extend_word count compare load load_first_fault load_no_fault load_gather store predicate_operations predicate_updates predicate_sources arithmetic bitwise unary_forms moves loads predicates vectors
top-compare w small e = reads-among_top row w (0x24 ∷ []) groups 3 compare small refl refl e

pub top-loads : (w : ℕ) → w < 2 ^ 32 → IsAmong (0xA4 ∷ 0xA5 ∷ []) (w / 2 ^ 24) → reads row sve_names w ≡ reads row loads w
unfolding while_below pred_logic break_form set_ffr write_ffr increment_by_count count_true true_form false_form test_form read_ffr read_ffr_zeroing duplicate select add_sub merging logic reduce index shift_imm unary extend_byte extend_half extend_word count compare load load_first_fault load_no_fault load_gather store predicate_operations predicate_updates predicate_sources arithmetic bitwise unary_forms moves loads predicates vectors
top-loads w small e = reads-among_top row w (0xA4 ∷ 0xA5 ∷ []) groups 4 loads small refl refl e

pub top-load_gather : (w : ℕ) → w < 2 ^ 32 → IsAmong (0xC4 ∷ 0xC5 ∷ []) (w / 2 ^ 24) → reads row sve_names w ≡ reads row load_gather w
unfolding while_below pred_logic break_form set_ffr write_ffr increment_by_count count_true true_form false_form test_form read_ffr read_ffr_zeroing duplicate select add_sub merging logic reduce index shift_imm unary extend_byte extend_half extend_word count compare load load_first_fault load_no_fault load_gather store predicate_operations predicate_updates predicate_sources arithmetic bitwise unary_forms moves loads predicates vectors
top-load_gather w small e = reads-among_top row w (0xC4 ∷ 0xC5 ∷ []) groups 5 load_gather small refl refl e

pub top-store : (w : ℕ) → w < 2 ^ 32 → IsAmong (0xE4 ∷ 0xE5 ∷ []) (w / 2 ^ 24) → reads row sve_names w ≡ reads row store w
unfolding while_below pred_logic break_form set_ffr write_ffr increment_by_count count_true true_form false_form test_form read_ffr read_ffr_zeroing duplicate select add_sub merging logic reduce index shift_imm unary extend_byte extend_half extend_word count compare load load_first_fault load_no_fault load_gather store predicate_operations predicate_updates predicate_sources arithmetic bitwise unary_forms moves loads predicates vectors
top-store w small e = reads-among_top row w (0xE4 ∷ 0xE5 ∷ []) groups 6 store small refl refl e

-- consecutive top bytes, which a `match` tests as a range
pub among_loads : (t : ℕ) → 0xA4 ≤ t → t < 0xA6 → IsAmong (0xA4 ∷ 0xA5 ∷ []) t
among_loads t least below = grind arith

pub among_gathers : (t : ℕ) → 0xC4 ≤ t → t < 0xC6 → IsAmong (0xC4 ∷ 0xC5 ∷ []) t
among_gathers t least below = grind arith

pub among_stores : (t : ℕ) → 0xE4 ≤ t → t < 0xE6 → IsAmong (0xE4 ∷ 0xE5 ∷ []) t
among_stores t least below = grind arith

abbrev pub tops : List ℕ
tops = 0x04 ∷ 0x05 ∷ 0x24 ∷ 0x25 ∷ 0xA4 ∷ 0xA5 ∷ 0xC4 ∷ 0xC5 ∷ 0xE4 ∷ 0xE5 ∷ []

pub top-other : (w : ℕ) → w < 2 ^ 32 → IsOther tops (w / 2 ^ 24) → reads row sve_names w ≡ None
unfolding has_only while_below pred_logic break_form set_ffr write_ffr increment_by_count count_true true_form false_form test_form read_ffr read_ffr_zeroing duplicate select add_sub merging logic reduce index shift_imm unary extend_byte extend_half extend_word count compare load load_first_fault load_no_fault load_gather store predicate_operations predicate_updates predicate_sources arithmetic bitwise unary_forms moves loads predicates vectors
top-other w small other = reads-other_top row w tops sve_names small refl other

-- ---- predicates, by bits 15 and 14
abbrev predicate_groups : List (List Name)
predicate_groups = while_below ∷ predicate_operations ∷ predicate_updates ∷ predicate_sources ∷ []

pub predicate-while_below : (w : ℕ) → number_in w (from_to 15 14) ≡ 0 → reads row predicates w ≡ reads row while_below w
unfolding while_below pred_logic break_form set_ffr write_ffr increment_by_count count_true true_form false_form test_form read_ffr read_ffr_zeroing duplicate select add_sub merging logic reduce index shift_imm unary extend_byte extend_half extend_word count compare load load_first_fault load_no_fault load_gather store predicate_operations predicate_updates predicate_sources arithmetic bitwise unary_forms moves loads predicates vectors
predicate-while_below w e = reads-group row (from_to 15 14) w 0 predicate_groups 0 while_below refl refl e

pub predicate-predicate_operations : (w : ℕ) → number_in w (from_to 15 14) ≡ 1 → reads row predicates w ≡ reads row predicate_operations w
unfolding while_below pred_logic break_form set_ffr write_ffr increment_by_count count_true true_form false_form test_form read_ffr read_ffr_zeroing duplicate select add_sub merging logic reduce index shift_imm unary extend_byte extend_half extend_word count compare load load_first_fault load_no_fault load_gather store predicate_operations predicate_updates predicate_sources arithmetic bitwise unary_forms moves loads predicates vectors
predicate-predicate_operations w e = reads-group row (from_to 15 14) w 1 predicate_groups 1 predicate_operations refl refl e

pub predicate-predicate_updates : (w : ℕ) → number_in w (from_to 15 14) ≡ 2 → reads row predicates w ≡ reads row predicate_updates w
unfolding while_below pred_logic break_form set_ffr write_ffr increment_by_count count_true true_form false_form test_form read_ffr read_ffr_zeroing duplicate select add_sub merging logic reduce index shift_imm unary extend_byte extend_half extend_word count compare load load_first_fault load_no_fault load_gather store predicate_operations predicate_updates predicate_sources arithmetic bitwise unary_forms moves loads predicates vectors
predicate-predicate_updates w e = reads-group row (from_to 15 14) w 2 predicate_groups 2 predicate_updates refl refl e

pub predicate-predicate_sources : (w : ℕ) → number_in w (from_to 15 14) ≡ 3 → reads row predicates w ≡ reads row predicate_sources w
unfolding while_below pred_logic break_form set_ffr write_ffr increment_by_count count_true true_form false_form test_form read_ffr read_ffr_zeroing duplicate select add_sub merging logic reduce index shift_imm unary extend_byte extend_half extend_word count compare load load_first_fault load_no_fault load_gather store predicate_operations predicate_updates predicate_sources arithmetic bitwise unary_forms moves loads predicates vectors
predicate-predicate_sources w e = reads-group row (from_to 15 14) w 3 predicate_groups 3 predicate_sources refl refl e

-- ---- vectors, by bits 15 to 13
abbrev vector_groups : List (List Name)
vector_groups = arithmetic ∷ bitwise ∷ index ∷ shift_imm ∷ unary_forms ∷ count ∷ []

pub vector-arithmetic : (w : ℕ) → number_in w (from_to 15 13) ≡ 0 → reads row vectors w ≡ reads row arithmetic w
unfolding while_below pred_logic break_form set_ffr write_ffr increment_by_count count_true true_form false_form test_form read_ffr read_ffr_zeroing duplicate select add_sub merging logic reduce index shift_imm unary extend_byte extend_half extend_word count compare load load_first_fault load_no_fault load_gather store predicate_operations predicate_updates predicate_sources arithmetic bitwise unary_forms moves loads predicates vectors
vector-arithmetic w e = reads-group row (from_to 15 13) w 0 vector_groups 0 arithmetic refl refl e

pub vector-bitwise : (w : ℕ) → number_in w (from_to 15 13) ≡ 1 → reads row vectors w ≡ reads row bitwise w
unfolding while_below pred_logic break_form set_ffr write_ffr increment_by_count count_true true_form false_form test_form read_ffr read_ffr_zeroing duplicate select add_sub merging logic reduce index shift_imm unary extend_byte extend_half extend_word count compare load load_first_fault load_no_fault load_gather store predicate_operations predicate_updates predicate_sources arithmetic bitwise unary_forms moves loads predicates vectors
vector-bitwise w e = reads-group row (from_to 15 13) w 1 vector_groups 1 bitwise refl refl e

pub vector-index : (w : ℕ) → number_in w (from_to 15 13) ≡ 2 → reads row vectors w ≡ reads row index w
unfolding while_below pred_logic break_form set_ffr write_ffr increment_by_count count_true true_form false_form test_form read_ffr read_ffr_zeroing duplicate select add_sub merging logic reduce index shift_imm unary extend_byte extend_half extend_word count compare load load_first_fault load_no_fault load_gather store predicate_operations predicate_updates predicate_sources arithmetic bitwise unary_forms moves loads predicates vectors
vector-index w e = reads-group row (from_to 15 13) w 2 vector_groups 2 index refl refl e

pub vector-shift_imm : (w : ℕ) → number_in w (from_to 15 13) ≡ 4 → reads row vectors w ≡ reads row shift_imm w
unfolding while_below pred_logic break_form set_ffr write_ffr increment_by_count count_true true_form false_form test_form read_ffr read_ffr_zeroing duplicate select add_sub merging logic reduce index shift_imm unary extend_byte extend_half extend_word count compare load load_first_fault load_no_fault load_gather store predicate_operations predicate_updates predicate_sources arithmetic bitwise unary_forms moves loads predicates vectors
vector-shift_imm w e = reads-group row (from_to 15 13) w 4 vector_groups 3 shift_imm refl refl e

pub vector-unary_forms : (w : ℕ) → number_in w (from_to 15 13) ≡ 5 → reads row vectors w ≡ reads row unary_forms w
unfolding while_below pred_logic break_form set_ffr write_ffr increment_by_count count_true true_form false_form test_form read_ffr read_ffr_zeroing duplicate select add_sub merging logic reduce index shift_imm unary extend_byte extend_half extend_word count compare load load_first_fault load_no_fault load_gather store predicate_operations predicate_updates predicate_sources arithmetic bitwise unary_forms moves loads predicates vectors
vector-unary_forms w e = reads-group row (from_to 15 13) w 5 vector_groups 4 unary_forms refl refl e

pub vector-count : (w : ℕ) → number_in w (from_to 15 13) ≡ 7 → reads row vectors w ≡ reads row count w
unfolding while_below pred_logic break_form set_ffr write_ffr increment_by_count count_true true_form false_form test_form read_ffr read_ffr_zeroing duplicate select add_sub merging logic reduce index shift_imm unary extend_byte extend_half extend_word count compare load load_first_fault load_no_fault load_gather store predicate_operations predicate_updates predicate_sources arithmetic bitwise unary_forms moves loads predicates vectors
vector-count w e = reads-group row (from_to 15 13) w 7 vector_groups 5 count refl refl e

pub vector-other : (w : ℕ) → IsOther (0 ∷ 1 ∷ 2 ∷ 4 ∷ 5 ∷ 7 ∷ []) (number_in w (from_to 15 13)) → reads row vectors w ≡ None
unfolding has_only while_below pred_logic break_form set_ffr write_ffr increment_by_count count_true true_form false_form test_form read_ffr read_ffr_zeroing duplicate select add_sub merging logic reduce index shift_imm unary extend_byte extend_half extend_word count compare load load_first_fault load_no_fault load_gather store predicate_operations predicate_updates predicate_sources arithmetic bitwise unary_forms moves loads predicates vectors
vector-other w other = reads-other row (from_to 15 13) w (0 ∷ 1 ∷ 2 ∷ 4 ∷ 5 ∷ 7 ∷ []) vectors (lit< tt) refl other
