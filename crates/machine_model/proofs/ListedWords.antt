-- What is spelled is read, in both tables, and a step does the instruction whose word stands at PC.
use Rattle.std.proofs.Common.{◌≡◌, Bool, true, false, Option, Some, None, refl, ap, ◌∙◌}
use Rattle.guest_types.specs.Memory.{fetched}
use Rattle.word_rows.specs.Row.{Instruction, are_tables_apart, reads, spells}
use Rattle.word_rows.proofs.TableLaws.{not_in_two_tables, reads-spells}
use Rattle.a64_code.specs.Table as a64
use Rattle.a64_code.proofs.Valid.{a64_table}
use Rattle.sve_code.specs.Table as sve
use Rattle.sve_code.proofs.Valid.{sve_table}
use Rattle.machine_model.specs.declared.outcome.StopKind.TheVariants.{Undefined}
use Rattle.machine_model.specs.InstructionTable.{Listed, Scalar, Vector, either_table, listed}
use Rattle.machine_model.specs.CodeInMemory.{spell, IsListed}
use Rattle.machine_model.specs.Machine.{State, Step, Stopped}
use Rattle.machine_model.specs.OneStep.{step, does, do_word, reads_word, cuts_in, word_cuts, suppresses}

-- no word is in both tables
pub tables_are_apart : are_tables_apart a64.row a64.a64_names sve.row sve.sve_names ≡ true
unfolding a64.add_sub_imm a64.add_sub_shifted a64.logical a64.move_wide a64.multiply_add a64.shift_variable a64.bitfield a64.select a64.branch a64.branch_if a64.branch_zero a64.ret_form a64.exception a64.nop_form a64.umov_form a64.byte_imm a64.wide_imm a64.byte_register a64.wide_register sve.true_form sve.false_form sve.while_below sve.test_form sve.pred_logic sve.break_form sve.read_ffr sve.read_ffr_zeroing sve.set_ffr sve.write_ffr sve.count sve.increment_by_count sve.count_true sve.duplicate sve.index sve.select sve.add_sub sve.logic sve.shift_imm sve.merging sve.unary sve.extend_byte sve.extend_half sve.extend_word sve.reduce sve.compare sve.load sve.load_first_fault sve.load_no_fault sve.load_gather sve.store
tables_are_apart = refl

-- what the second table has for a word that the first has not
pub either_table_of_vector : (a : Option (Instruction a64.Name)) (w : Option (Instruction sve.Name)) (v : Instruction sve.Name) → ((i : Instruction a64.Name) → a ≡ Some i → w ≡ None) → w ≡ Some v → either_table a w ≡ Some (Vector v)
either_table_of_vector None w v h e = ap (either_table None) e
either_table_of_vector (Some i) w v h e = let n = h i refl in absurd cc

pub listed_spell : (i : Listed) → IsListed i → listed (spell i) ≡ Some i
listed_spell (Scalar i) h = ap (λ o. either_table o (reads sve.row sve.sve_names (spells a64.row i))) (reads-spells a64.row a64.a64_names a64_table i h)
listed_spell (Vector v) h =
    either_table_of_vector (reads a64.row a64.a64_names (spells sve.row v)) (reads sve.row sve.sve_names (spells sve.row v)) v
    (not_in_two_tables a64.row a64.a64_names sve.row sve.sve_names tables_are_apart (spells sve.row v))
    (reads-spells sve.row sve.sve_names sve_table v h)

reads_spell : (i : Listed) → IsListed i → reads_word (spell i) ≡ Some i
unfolding reads_word
reads_spell i h = listed_spell i h

-- one step over both tables
pub step_does : (s : State) (i : Listed) → IsListed i → fetched s.memory s.pc ≡ Some (spell i) → step s ≡ does i s
step_does s i h at =
    ap (λ o. do_word o s) at
    ∙ ap (λ o. elim o as (λ o. Step) [ None ↦ Stopped Undefined s.pc (spell i) s.memory | Some j ↦ does j s ]) (reads_spell i h)

-- whether that step suppresses a free element
pub step_cuts : (s : State) (i : Listed) → IsListed i → fetched s.memory s.pc ≡ Some (spell i) → suppresses s ≡ cuts_in i s
step_cuts s i h at =
    ap (λ o. word_cuts o s) at
    ∙ ap (λ o. elim o as (λ o. Bool) [ None ↦ false | Some j ↦ cuts_in j s ]) (reads_spell i h)
