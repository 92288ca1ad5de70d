-- Outside values, by computation: a file of three words that adds 1 to its argument, its runs, and the refusals of files that
-- differ from it in one place.
use Rattle.std.proofs.Common.{◌≡◌, ℕ, List, [], ◌∷◌, ◌++◌, take, drop, Option, Some, None, Result, Ok, Err, refl}
use Rattle.std.specs.Prelude.{slice_set}
use Rattle.word_rows.specs.Row.{reads}
use Rattle.a64_code.specs.Table.{add_sub_imm, add_sub_shifted, logical, move_wide, multiply_add, shift_variable, bitfield, select, branch, branch_if, branch_zero, ret_form, exception, nop_form, umov_form, byte_imm, wide_imm, byte_register, wide_register}
use Rattle.sve_code.specs.Table as sve
use Rattle.machine_model.specs.declared.elf_fault.ElfFault.{ElfFault}
use Rattle.machine_model.specs.declared.elf_fault.ElfFault.TheVariants.{Short, NotElf, NotAarch64, NotStatic, BadSegment, SegmentsClash, TooManyPages}
use Rattle.machine_model.specs.declared.outcome.StopKind.TheVariants.{Undefined}
use Rattle.machine_model.specs.declared.outcome.StopKind.{StopKind}
use Rattle.guest_types.specs.Memory.{page_numbers}
use Rattle.machine_model.specs.Load.{Image, load, pages_of, page_bytes}
use Rattle.machine_model.specs.Written.{file_of}
use Rattle.machine_model.specs.OneStep.{reads_word}
use Rattle.machine_model.specs.Run.{Outcome, End, Stop, Spent, machine_run, start, start_of}

-- the file, written out: add x0, x0, #1; movz x8, #93; svc #0
abbrev e1 : List ℕ
e1 =
    0x7f ∷ 0x45 ∷ 0x4c ∷ 0x46 ∷ 0x02 ∷ 0x01 ∷ 0x01 ∷ 0x00 ∷ 0x00 ∷ 0x00 ∷ 0x00 ∷ 0x00 ∷ 0x00 ∷ 0x00 ∷ 0x00 ∷ 0x00
    ∷ 0x02 ∷ 0x00 ∷ 0xb7 ∷ 0x00 ∷ 0x01 ∷ 0x00 ∷ 0x00 ∷ 0x00 ∷ 0x78 ∷ 0x00 ∷ 0x40 ∷ 0x00 ∷ 0x00 ∷ 0x00 ∷ 0x00 ∷ 0x00
    ∷ 0x40 ∷ 0x00 ∷ 0x00 ∷ 0x00 ∷ 0x00 ∷ 0x00 ∷ 0x00 ∷ 0x00 ∷ 0x00 ∷ 0x00 ∷ 0x00 ∷ 0x00 ∷ 0x00 ∷ 0x00 ∷ 0x00 ∷ 0x00
    ∷ 0x00 ∷ 0x00 ∷ 0x00 ∷ 0x00 ∷ 0x40 ∷ 0x00 ∷ 0x38 ∷ 0x00 ∷ 0x01 ∷ 0x00 ∷ 0x00 ∷ 0x00 ∷ 0x00 ∷ 0x00 ∷ 0x00 ∷ 0x00
    ∷ 0x01 ∷ 0x00 ∷ 0x00 ∷ 0x00 ∷ 0x05 ∷ 0x00 ∷ 0x00 ∷ 0x00 ∷ 0x00 ∷ 0x00 ∷ 0x00 ∷ 0x00 ∷ 0x00 ∷ 0x00 ∷ 0x00 ∷ 0x00
    ∷ 0x00 ∷ 0x00 ∷ 0x40 ∷ 0x00 ∷ 0x00 ∷ 0x00 ∷ 0x00 ∷ 0x00 ∷ 0x00 ∷ 0x00 ∷ 0x40 ∷ 0x00 ∷ 0x00 ∷ 0x00 ∷ 0x00 ∷ 0x00
    ∷ 0x84 ∷ 0x00 ∷ 0x00 ∷ 0x00 ∷ 0x00 ∷ 0x00 ∷ 0x00 ∷ 0x00 ∷ 0x84 ∷ 0x00 ∷ 0x00 ∷ 0x00 ∷ 0x00 ∷ 0x00 ∷ 0x00 ∷ 0x00
    ∷ 0x00 ∷ 0x10 ∷ 0x00 ∷ 0x00 ∷ 0x00 ∷ 0x00 ∷ 0x00 ∷ 0x00
    ∷ 0x00 ∷ 0x04 ∷ 0x00 ∷ 0x91 ∷ 0xa8 ∷ 0x0b ∷ 0x80 ∷ 0xd2 ∷ 0x01 ∷ 0x00 ∷ 0x00 ∷ 0xd4 ∷ []

written : file_of (0x91000400 ∷ 0xd2800ba8 ∷ 0xd4000001 ∷ []) ≡ e1
written = refl

-- entry, code_from, code_end, and the numbers of the pages
abbrev shape : Result Image ElfFault → List ℕ
shape (Ok image) = image.entry ∷ image.code_from ∷ image.code_end ∷ page_numbers image.pages
shape (Err fault) = []

loaded_as : shape (load e1) ≡ 0x400078 ∷ 0x400078 ∷ 0x400084 ∷ 0x400 ∷ []
unfolding pages_of page_bytes
loaded_as = refl

-- a run without its memory
data Shown : Type 0 where
  Ends : (result steps : ℕ) → Shown
  Stops : (kind : StopKind) (pc at steps : ℕ) → Shown
  Spends : (pc steps : ℕ) → Shown
  Refused : Shown

abbrev shown : Option Outcome → Shown
shown None = Refused
shown (Some (End m r n)) = Ends r n
shown (Some (Stop k pc at m n)) = Stops k pc at n
shown (Some (Spent pc m n)) = Spends pc n

example_run_ends : shown (machine_run e1 (41 ∷ []) [] 128 100) ≡ Ends 42 3
unfolding reads_word reads add_sub_imm add_sub_shifted logical move_wide multiply_add shift_variable bitfield select branch branch_if branch_zero ret_form exception start start_of pages_of page_bytes
example_run_ends = refl

run_wraps : shown (machine_run e1 (0xffffffffffffffff ∷ []) [] 2048 3) ≡ Ends 0 3
unfolding reads_word reads add_sub_imm add_sub_shifted logical move_wide multiply_add shift_variable bitfield select branch branch_if branch_zero ret_form exception start start_of pages_of page_bytes
run_wraps = refl

run_spends : shown (machine_run e1 (41 ∷ []) [] 128 2) ≡ Spends 0x400080 2
unfolding reads_word reads add_sub_imm add_sub_shifted logical move_wide multiply_add shift_variable bitfield select branch branch_if branch_zero ret_form exception start start_of pages_of page_bytes
run_spends = refl

-- the file with its first word zero
run_stops : shown (machine_run (file_of (0 ∷ 0xd2800ba8 ∷ 0xd4000001 ∷ [])) [] [] 128 100) ≡ Stops Undefined 0x400078 0 1
unfolding reads_word reads add_sub_imm add_sub_shifted logical move_wide multiply_add shift_variable bitfield select branch branch_if branch_zero ret_form exception nop_form umov_form byte_imm wide_imm byte_register wide_register sve.true_form sve.false_form sve.while_below sve.test_form sve.pred_logic sve.break_form sve.read_ffr sve.read_ffr_zeroing sve.set_ffr sve.write_ffr sve.count sve.increment_by_count sve.count_true sve.duplicate sve.index sve.select sve.add_sub sve.logic sve.shift_imm sve.merging sve.unary sve.extend_byte sve.extend_half sve.extend_word sve.reduce sve.compare sve.load sve.load_first_fault sve.load_no_fault sve.load_gather sve.store start start_of pages_of page_bytes
run_stops = refl

-- ---- files that differ in one place

abbrev refusal : Result Image ElfFault → Option ElfFault
refusal (Ok image) = None
refusal (Err fault) = Some fault

abbrev edited : ℕ → ℕ → Option ElfFault
edited place byte = refusal (load (slice_set e1 place byte))

empty_file_is_short : refusal (load []) ≡ Some (Short 64 0)
empty_file_is_short = refl

cut_in_header : refusal (load (take 63 e1)) ≡ Some (Short 64 63)
cut_in_header = refl

cut_in_program_header : refusal (load (take 119 e1)) ≡ Some (Short 120 119)
cut_in_program_header = refl

other_magic : edited 0 0x7e ≡ Some NotElf
other_magic = refl

other_class : edited 4 1 ≡ Some NotElf
other_class = refl

other_header_size : edited 54 57 ≡ Some NotElf
other_header_size = refl

other_machine : edited 18 62 ≡ Some NotAarch64
other_machine = refl

other_type : edited 16 3 ≡ Some NotStatic
other_type = refl

dynamic : edited 64 2 ≡ Some NotStatic
dynamic = refl

interpreter : edited 64 3 ≡ Some NotStatic
interpreter = refl

more_file_than_memory : edited 96 0x85 ≡ Some (BadSegment 0)
more_file_than_memory = refl

past_the_file : edited 72 1 ≡ Some (BadSegment 0)
past_the_file = refl

past_the_space : edited 86 1 ≡ Some (BadSegment 0)
past_the_space = refl

not_readable : edited 68 1 ≡ Some (BadSegment 0)
not_readable = refl

writable_code : edited 68 7 ≡ Some (BadSegment 0)
writable_code = refl

many_pages : edited 107 0x10 ≡ Some TooManyPages
many_pages = refl

-- the program header twice
twice : refusal (load (slice_set (take 64 e1) 56 2 ++ (take 56 (drop 64 e1) ++ drop 64 e1))) ≡ Some SegmentsClash
twice = refl
