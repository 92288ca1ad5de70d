-- The counts of steps that are kept, and what the machine was after each of them.
use Rattle.std.specs.Prelude.{◌≡◌, ℕ, ◌-◌, ◌%◌, ◌≤◌, ◌&&◌, Bool, List, map, length, take, nat_eq, nat_lt, nat_le, slice_index, slice_index_or, if◌then◌else◌}
use Rattle.std.specs.List.{prefix_len}
use Rattle.guest_types.specs.Kept.{kept_more}
use Rattle.machine_model.specs.Debugged.{Past}

-- the steps from one count that is kept to the next
abbrev pub gap : ℕ
gap = 10000

-- the counts of what is kept, in order
abbrev pub counts_of : List Past → List ℕ
counts_of kept = map (λ v. v.steps) kept

abbrev pub first_of : List ℕ → ℕ
first_of counts = slice_index counts 0

abbrev pub last_of : List ℕ → ℕ
last_of counts = slice_index counts (length counts - 1)

-- a count is kept where it is a multiple of the gap, and greater than the last one
abbrev pub is_kept : (steps : ℕ) → (counts : List ℕ) → Bool
is_kept steps counts = nat_eq (steps % gap) 0 && nat_lt (last_of counts) steps

-- the counts after so many steps
abbrev pub counted : (steps : ℕ) → (counts : List ℕ) → List ℕ
counted steps counts = if is_kept steps counts then kept_more steps counts else counts

-- what is kept, where a machine that is this now is noted
abbrev pub noted : Past → List Past → List Past
noted v kept = if is_kept v.steps (counts_of kept) then kept_more v kept else kept

-- ---- back to a count

abbrev pub is_reached : (target : ℕ) → Past → Bool
is_reached target v = nat_le v.steps target

-- those up to a count
abbrev pub up_to : (target : ℕ) → List Past → List Past
up_to target kept = take (prefix_len (is_reached target) kept) kept

-- a count can be gone back to where it is none before the first that is kept, and none to come
abbrev pub can_go_back : (target steps : ℕ) → List Past → Bool
can_go_back target steps kept = nat_le (first_of (counts_of kept)) target && nat_le target steps

-- this is the last of what is kept, which is something
abbrev pub IsLast : Past → List Past → Type 0
IsLast v kept = (1 ≤ length kept) × ((d : Past) → slice_index_or kept (length kept - 1) d ≡ v)
