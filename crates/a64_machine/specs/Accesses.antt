-- Loads and stores by their operation, as the instructions of both address forms do them.
use Rattle.std.specs.Prelude.{ℕ}
use Rattle.a64_code.specs.declared.LoadStoreByteOp.{LoadStoreByteOp}
use Rattle.a64_code.specs.declared.LoadStoreByteOp.TheVariants as byte_ops
use Rattle.a64_code.specs.declared.LoadStoreOp.{LoadStoreOp}
use Rattle.a64_code.specs.declared.LoadStoreOp.TheVariants as ops
use Rattle.machine_model.specs.Machine.{State, Step}
use Rattle.machine_model.specs.Effects.{load_to, store_from, as_it_is, from_byte, from_half, from_word}
use Rattle.a64_machine.specs.declared.accesses.Extension.{Extension}
use Rattle.a64_machine.specs.declared.accesses.Extension.TheVariants.{Zero, Byte, Half, Word}

-- a number as a load extends it
abbrev pub extended : Extension → (ℕ → ℕ)
extended Zero = as_it_is
extended Byte = from_byte
extended Half = from_half
extended Word = from_word

-- what a load or a store of one byte does at an address
abbrev pub byte_access : LoadStoreByteOp → State → (rt address : ℕ) → Step
byte_access byte_ops.Ldrb s rt address = load_to s rt address 1 as_it_is
byte_access byte_ops.Ldrsb s rt address = load_to s rt address 1 from_byte
byte_access byte_ops.Strb s rt address = store_from s rt address 1

-- what a load or a store of two, four or eight bytes does at an address
abbrev pub access : LoadStoreOp → State → (rt address : ℕ) → Step
access ops.Ldrh s rt address = load_to s rt address 2 as_it_is
access ops.LdrW s rt address = load_to s rt address 4 as_it_is
access ops.LdrX s rt address = load_to s rt address 8 as_it_is
access ops.Ldrsh s rt address = load_to s rt address 2 from_half
access ops.Ldrsw s rt address = load_to s rt address 4 from_word
access ops.Strh s rt address = store_from s rt address 2
access ops.StrW s rt address = store_from s rt address 4
access ops.StrX s rt address = store_from s rt address 8

-- the logarithm of the number of bytes
abbrev pub logarithm : LoadStoreOp → ℕ
logarithm ops.Ldrh = 1
logarithm ops.LdrW = 2
logarithm ops.LdrX = 3
logarithm ops.Ldrsh = 1
logarithm ops.Ldrsw = 2
logarithm ops.Strh = 1
logarithm ops.StrW = 2
logarithm ops.StrX = 3
