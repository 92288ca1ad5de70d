-- The definitions at values worked out by hand.
use Rattle.std.proofs.Common.{◌≡◌, ℕ, List, [], ◌∷◌, replicate, false, Ok, Err, refl}
use Rattle.guest_types.specs.declared.memory.AccessFault.{AccessFault}
use Rattle.guest_types.specs.declared.memory.Perm.{Perm}
use Rattle.guest_types.specs.declared.memory.Perm.TheVariants.{Read, ReadWrite}
use Rattle.guest_types.specs.declared.length.Width.TheVariants.{B}
use Rattle.guest_types.specs.declared.row.LoadMode.TheVariants.{Plain, FirstFault, NonFault}
use Rattle.guest_types.specs.Memory.{Page, Memory}
use Rattle.guest_types.specs.Elements.{elements, bits_of}
use Rattle.guest_types.specs.EarlyLoads.{Each, never}
use Rattle.lane_memory.specs.Loads.{load_of}
use Rattle.lane_memory.specs.Readings.{masked_of}

page_of : ℕ → Perm → ℕ → Page
page_of n perm b = record { page = n; perm = perm; bytes = replicate 4096 b }

memory : Memory
memory = page_of 0 ReadWrite 0x11 ∷ page_of 1 Read 0x82 ∷ []

refused : ℕ → AccessFault
refused address = record { address = address; write = false }

all_set : List ℕ
all_set = replicate 32 255

-- LDFF1B of sixteen bytes, of which two are mapped
first_fault_stops : load_of FirstFault 0 8190 0 128 memory never all_set all_set ≡ Ok (record { z = 0x82 ∷ 0x82 ∷ replicate 254 0; ffr = 0x03 ∷ replicate 31 0; stops = never })
unfolding memory page_of all_set elements bits_of
first_fault_stops = refl

-- it faults at its first active element alone
first_fault_refused : load_of FirstFault 0 8192 0 128 memory never all_set all_set ≡ Err (refused 8192)
unfolding memory page_of all_set refused elements bits_of
first_fault_refused = refl

-- the third free element of LDNF1B is suppressed, and the next list begins after it
suppressed : load_of NonFault 0 0 0 128 memory (Each 3 0) all_set all_set ≡ Ok (record { z = 0x11 ∷ 0x11 ∷ replicate 254 0; ffr = 0x03 ∷ replicate 31 0; stops = Each 3 0 })
unfolding memory page_of all_set elements bits_of
suppressed = refl

-- LD1SB to halfwords across the edge, of which the second is not active; FFR and the list stay
plain_across : load_of Plain 14 4095 0 128 memory (Each 5 2) (0x11 ∷ replicate 31 0) all_set ≡ Ok (record { z = 0x11 ∷ 0 ∷ 0 ∷ 0 ∷ 0x82 ∷ 0xff ∷ replicate 250 0; ffr = all_set; stops = Each 5 2 })
unfolding memory page_of all_set elements
plain_across = refl

masks : masked_of B (0x05 ∷ replicate 31 0) (7 ∷ 8 ∷ 9 ∷ replicate 253 1) 16 ≡ 7 ∷ 0 ∷ 9 ∷ replicate 253 0
unfolding elements
masks = refl
