-- The rows in groups that a decoder tells apart by a few bits of the word.
use Rattle.std.specs.Prelude.{List, ◌++◌}
use Rattle.sve_code.specs.Table.{Name, while_below, pred_logic, break_form, set_ffr, write_ffr, increment_by_count, count_true, true_form, false_form, test_form, read_ffr, read_ffr_zeroing, duplicate, select, add_sub, merging, logic, reduce, index, shift_imm, unary, extend_byte, extend_half, extend_word, count, load, load_first_fault, load_no_fault}

unfoldable pub predicate_operations : List Name
predicate_operations = pred_logic ++ break_form

unfoldable pub predicate_updates : List Name
predicate_updates = set_ffr ++ (write_ffr ++ (increment_by_count ++ count_true))

unfoldable pub predicate_sources : List Name
predicate_sources = true_form ++ (false_form ++ (test_form ++ (read_ffr ++ read_ffr_zeroing)))

unfoldable pub arithmetic : List Name
arithmetic = add_sub ++ merging

unfoldable pub bitwise : List Name
bitwise = logic ++ reduce

unfoldable pub unary_forms : List Name
unary_forms = unary ++ (extend_byte ++ (extend_half ++ extend_word))

unfoldable pub moves : List Name
moves = duplicate ++ select

unfoldable pub loads : List Name
loads = load ++ (load_first_fault ++ load_no_fault)

-- words with the top byte 0x25
unfoldable pub predicates : List Name
predicates = while_below ++ (predicate_operations ++ (predicate_updates ++ predicate_sources))

-- words with the top byte 0x04
unfoldable pub vectors : List Name
vectors = arithmetic ++ (bitwise ++ (index ++ (shift_imm ++ (unary_forms ++ count))))
