-- Which rows a word can be in, by its top byte.
use Rattle.std.proofs.Common.{◌≡◌, ℕ, ◌/◌, ◌^◌, ◌<◌, ◌≤◌, arith, List, [], ◌∷◌, ◌++◌, None, refl}
use Rattle.word_rows.specs.Row.{reads}
use Rattle.word_rows.proofs.Keys.{IsAmong, IsOther, has_only, reads-among_top, reads-other_top}
use Rattle.a64_code.specs.Table.{Name, row, a64_names, add_sub_imm, add_sub_shifted, logical, move_wide, multiply_add, shift_variable, bitfield, select, branch, branch_if, branch_zero, ret_form, exception, nop_form, umov_form, byte_imm, wide_imm, byte_register, wide_register}

abbrev groups : List (List Name)
groups =
    add_sub_imm
    ∷ add_sub_shifted
    ∷ logical
    ∷ move_wide
    ∷ multiply_add
    ∷ (shift_variable ++ select)
    ∷ bitfield
    ∷ branch
    ∷ branch_if
    ∷ branch_zero
    ∷ ret_form
    ∷ exception
    ∷ nop_form
    ∷ umov_form
    ∷ byte_imm
    ∷ wide_imm
    ∷ byte_register
    ∷ wide_register ∷ []

pub top-add_sub_imm : (w : ℕ) → w < 2 ^ 32 → IsAmong (0x91 ∷ 0xD1 ∷ 0xF1 ∷ []) (w / 2 ^ 24) → reads row a64_names w ≡ reads row add_sub_imm w
unfolding add_sub_imm add_sub_shifted logical move_wide multiply_add shift_variable bitfield select branch branch_if branch_zero ret_form exception nop_form umov_form byte_imm wide_imm byte_register wide_register
top-add_sub_imm w small e = reads-among_top row w (0x91 ∷ 0xD1 ∷ 0xF1 ∷ []) groups 0 add_sub_imm small refl refl e

pub top-add_sub_shifted : (w : ℕ) → w < 2 ^ 32 → IsAmong (0x8B ∷ 0xCB ∷ 0xEB ∷ []) (w / 2 ^ 24) → reads row a64_names w ≡ reads row add_sub_shifted w
unfolding add_sub_imm add_sub_shifted logical move_wide multiply_add shift_variable bitfield select branch branch_if branch_zero ret_form exception nop_form umov_form byte_imm wide_imm byte_register wide_register
top-add_sub_shifted w small e = reads-among_top row w (0x8B ∷ 0xCB ∷ 0xEB ∷ []) groups 1 add_sub_shifted small refl refl e

pub top-logical : (w : ℕ) → w < 2 ^ 32 → IsAmong (0x8A ∷ 0xAA ∷ 0xCA ∷ []) (w / 2 ^ 24) → reads row a64_names w ≡ reads row logical w
unfolding add_sub_imm add_sub_shifted logical move_wide multiply_add shift_variable bitfield select branch branch_if branch_zero ret_form exception nop_form umov_form byte_imm wide_imm byte_register wide_register
top-logical w small e = reads-among_top row w (0x8A ∷ 0xAA ∷ 0xCA ∷ []) groups 2 logical small refl refl e

pub top-move_wide : (w : ℕ) → w < 2 ^ 32 → IsAmong (0x92 ∷ 0xD2 ∷ 0xF2 ∷ []) (w / 2 ^ 24) → reads row a64_names w ≡ reads row move_wide w
unfolding add_sub_imm add_sub_shifted logical move_wide multiply_add shift_variable bitfield select branch branch_if branch_zero ret_form exception nop_form umov_form byte_imm wide_imm byte_register wide_register
top-move_wide w small e = reads-among_top row w (0x92 ∷ 0xD2 ∷ 0xF2 ∷ []) groups 3 move_wide small refl refl e

pub top-multiply_add : (w : ℕ) → w < 2 ^ 32 → IsAmong (0x9B ∷ []) (w / 2 ^ 24) → reads row a64_names w ≡ reads row multiply_add w
unfolding add_sub_imm add_sub_shifted logical move_wide multiply_add shift_variable bitfield select branch branch_if branch_zero ret_form exception nop_form umov_form byte_imm wide_imm byte_register wide_register
top-multiply_add w small e = reads-among_top row w (0x9B ∷ []) groups 4 multiply_add small refl refl e

pub top-shift_or_select : (w : ℕ) → w < 2 ^ 32 → IsAmong (0x9A ∷ []) (w / 2 ^ 24) → reads row a64_names w ≡ reads row (shift_variable ++ select) w
unfolding add_sub_imm add_sub_shifted logical move_wide multiply_add shift_variable bitfield select branch branch_if branch_zero ret_form exception nop_form umov_form byte_imm wide_imm byte_register wide_register
top-shift_or_select w small e = reads-among_top row w (0x9A ∷ []) groups 5 (shift_variable ++ select) small refl refl e

pub top-bitfield : (w : ℕ) → w < 2 ^ 32 → IsAmong (0x93 ∷ 0xD3 ∷ []) (w / 2 ^ 24) → reads row a64_names w ≡ reads row bitfield w
unfolding add_sub_imm add_sub_shifted logical move_wide multiply_add shift_variable bitfield select branch branch_if branch_zero ret_form exception nop_form umov_form byte_imm wide_imm byte_register wide_register
top-bitfield w small e = reads-among_top row w (0x93 ∷ 0xD3 ∷ []) groups 6 bitfield small refl refl e

pub top-branch : (w : ℕ) → w < 2 ^ 32 → IsAmong (0x14 ∷ 0x15 ∷ 0x16 ∷ 0x17 ∷ []) (w / 2 ^ 24) → reads row a64_names w ≡ reads row branch w
unfolding add_sub_imm add_sub_shifted logical move_wide multiply_add shift_variable bitfield select branch branch_if branch_zero ret_form exception nop_form umov_form byte_imm wide_imm byte_register wide_register
top-branch w small e = reads-among_top row w (0x14 ∷ 0x15 ∷ 0x16 ∷ 0x17 ∷ []) groups 7 branch small refl refl e

pub top-branch_if : (w : ℕ) → w < 2 ^ 32 → IsAmong (0x54 ∷ []) (w / 2 ^ 24) → reads row a64_names w ≡ reads row branch_if w
unfolding add_sub_imm add_sub_shifted logical move_wide multiply_add shift_variable bitfield select branch branch_if branch_zero ret_form exception nop_form umov_form byte_imm wide_imm byte_register wide_register
top-branch_if w small e = reads-among_top row w (0x54 ∷ []) groups 8 branch_if small refl refl e

pub top-branch_zero : (w : ℕ) → w < 2 ^ 32 → IsAmong (0xB4 ∷ 0xB5 ∷ []) (w / 2 ^ 24) → reads row a64_names w ≡ reads row branch_zero w
unfolding add_sub_imm add_sub_shifted logical move_wide multiply_add shift_variable bitfield select branch branch_if branch_zero ret_form exception nop_form umov_form byte_imm wide_imm byte_register wide_register
top-branch_zero w small e = reads-among_top row w (0xB4 ∷ 0xB5 ∷ []) groups 9 branch_zero small refl refl e

pub top-ret_form : (w : ℕ) → w < 2 ^ 32 → IsAmong (0xD6 ∷ []) (w / 2 ^ 24) → reads row a64_names w ≡ reads row ret_form w
unfolding add_sub_imm add_sub_shifted logical move_wide multiply_add shift_variable bitfield select branch branch_if branch_zero ret_form exception nop_form umov_form byte_imm wide_imm byte_register wide_register
top-ret_form w small e = reads-among_top row w (0xD6 ∷ []) groups 10 ret_form small refl refl e

pub top-exception : (w : ℕ) → w < 2 ^ 32 → IsAmong (0xD4 ∷ []) (w / 2 ^ 24) → reads row a64_names w ≡ reads row exception w
unfolding add_sub_imm add_sub_shifted logical move_wide multiply_add shift_variable bitfield select branch branch_if branch_zero ret_form exception nop_form umov_form byte_imm wide_imm byte_register wide_register
top-exception w small e = reads-among_top row w (0xD4 ∷ []) groups 11 exception small refl refl e

pub top-nop_form : (w : ℕ) → w < 2 ^ 32 → IsAmong (0xD5 ∷ []) (w / 2 ^ 24) → reads row a64_names w ≡ reads row nop_form w
unfolding add_sub_imm add_sub_shifted logical move_wide multiply_add shift_variable bitfield select branch branch_if branch_zero ret_form exception nop_form umov_form byte_imm wide_imm byte_register wide_register
top-nop_form w small e = reads-among_top row w (0xD5 ∷ []) groups 12 nop_form small refl refl e

pub top-umov_form : (w : ℕ) → w < 2 ^ 32 → IsAmong (0x4E ∷ []) (w / 2 ^ 24) → reads row a64_names w ≡ reads row umov_form w
unfolding add_sub_imm add_sub_shifted logical move_wide multiply_add shift_variable bitfield select branch branch_if branch_zero ret_form exception nop_form umov_form byte_imm wide_imm byte_register wide_register
top-umov_form w small e = reads-among_top row w (0x4E ∷ []) groups 13 umov_form small refl refl e

pub top-byte_imm : (w : ℕ) → w < 2 ^ 32 → IsAmong (0x39 ∷ []) (w / 2 ^ 24) → reads row a64_names w ≡ reads row byte_imm w
unfolding add_sub_imm add_sub_shifted logical move_wide multiply_add shift_variable bitfield select branch branch_if branch_zero ret_form exception nop_form umov_form byte_imm wide_imm byte_register wide_register
top-byte_imm w small e = reads-among_top row w (0x39 ∷ []) groups 14 byte_imm small refl refl e

pub top-wide_imm : (w : ℕ) → w < 2 ^ 32 → IsAmong (0x79 ∷ 0xB9 ∷ 0xF9 ∷ []) (w / 2 ^ 24) → reads row a64_names w ≡ reads row wide_imm w
unfolding add_sub_imm add_sub_shifted logical move_wide multiply_add shift_variable bitfield select branch branch_if branch_zero ret_form exception nop_form umov_form byte_imm wide_imm byte_register wide_register
top-wide_imm w small e = reads-among_top row w (0x79 ∷ 0xB9 ∷ 0xF9 ∷ []) groups 15 wide_imm small refl refl e

pub top-byte_register : (w : ℕ) → w < 2 ^ 32 → IsAmong (0x38 ∷ []) (w / 2 ^ 24) → reads row a64_names w ≡ reads row byte_register w
unfolding add_sub_imm add_sub_shifted logical move_wide multiply_add shift_variable bitfield select branch branch_if branch_zero ret_form exception nop_form umov_form byte_imm wide_imm byte_register wide_register
top-byte_register w small e = reads-among_top row w (0x38 ∷ []) groups 16 byte_register small refl refl e

pub top-wide_register : (w : ℕ) → w < 2 ^ 32 → IsAmong (0x78 ∷ 0xB8 ∷ 0xF8 ∷ []) (w / 2 ^ 24) → reads row a64_names w ≡ reads row wide_register w
unfolding add_sub_imm add_sub_shifted logical move_wide multiply_add shift_variable bitfield select branch branch_if branch_zero ret_form exception nop_form umov_form byte_imm wide_imm byte_register wide_register
top-wide_register w small e = reads-among_top row w (0x78 ∷ 0xB8 ∷ 0xF8 ∷ []) groups 17 wide_register small refl refl e

-- consecutive top bytes, which a `match` tests as a range
pub among_branch : (t : ℕ) → 0x14 ≤ t → t < 0x18 → IsAmong (0x14 ∷ 0x15 ∷ 0x16 ∷ 0x17 ∷ []) t
among_branch t least below = grind arith

pub among_branch_zero : (t : ℕ) → 0xB4 ≤ t → t < 0xB6 → IsAmong (0xB4 ∷ 0xB5 ∷ []) t
among_branch_zero t least below = grind arith

-- the top bytes of the rows
abbrev pub tops : List ℕ
tops = 0x14 ∷ 0x15 ∷ 0x16 ∷ 0x17 ∷ 0x38 ∷ 0x39 ∷ 0x4E ∷ 0x54 ∷ 0x78 ∷ 0x79 ∷ 0x8A ∷ 0x8B ∷ 0x91 ∷ 0x92 ∷ 0x93 ∷ 0x9A ∷ 0x9B ∷ 0xAA ∷ 0xB4 ∷ 0xB5 ∷ 0xB8 ∷ 0xB9 ∷ 0xCA ∷ 0xCB ∷ 0xD1 ∷ 0xD2 ∷ 0xD3 ∷ 0xD4 ∷ 0xD5 ∷ 0xD6 ∷ 0xEB ∷ 0xF1 ∷ 0xF2 ∷ 0xF8 ∷ 0xF9 ∷ []

pub top-other : (w : ℕ) → w < 2 ^ 32 → IsOther tops (w / 2 ^ 24) → reads row a64_names w ≡ None
unfolding has_only add_sub_imm add_sub_shifted logical move_wide multiply_add shift_variable bitfield select branch branch_if branch_zero ret_form exception nop_form umov_form byte_imm wide_imm byte_register wide_register
top-other w small other = reads-other_top row w tops a64_names small refl other
