-- What a relocatable object of one function is: System V ABI, "Object Files" (ELF header, sections, string table, symbol table), with
-- the machine, the mapping symbol and the meaning of STT_FUNC of ELF for the Arm 64-bit Architecture (AAELF64).
use Rattle.std.specs.Prelude.{◌≡◌, ◌≢◌, ℕ, zero, suc, ◌+◌, ◌*◌, ◌%◌, ◌<◌, ◌≤◌, true, List, [], ◌∷◌, ◌++◌, length, take, drop}
use Rattle.machine_model.specs.Load.{le_at, has_ident, e_type, e_machine}
use Rattle.machine_model.specs.Written.{word_bytes}

-- ---- fields

abbrev pub e_shoff : List ℕ → ℕ
e_shoff bytes = le_at bytes 40 8

abbrev pub e_shentsize : List ℕ → ℕ
e_shentsize bytes = le_at bytes 58 2

abbrev pub e_shnum : List ℕ → ℕ
e_shnum bytes = le_at bytes 60 2

abbrev pub e_shstrndx : List ℕ → ℕ
e_shstrndx bytes = le_at bytes 62 2

-- a section header: sh_name, sh_type, sh_flags, sh_addr, sh_offset, sh_size, sh_link, sh_info, sh_addralign, sh_entsize
pub record Section : Type 0 where
  pub name : ℕ
  pub kind : ℕ
  pub flags : ℕ
  pub addr : ℕ
  pub offset : ℕ
  pub size : ℕ
  pub link : ℕ
  pub info : ℕ
  pub align : ℕ
  pub entsize : ℕ

abbrev pub section_from : List ℕ → ℕ → Section
section_from bytes at = record {
  name = le_at bytes at 4;
  kind = le_at bytes (at + 4) 4;
  flags = le_at bytes (at + 8) 8;
  addr = le_at bytes (at + 16) 8;
  offset = le_at bytes (at + 24) 8;
  size = le_at bytes (at + 32) 8;
  link = le_at bytes (at + 40) 4;
  info = le_at bytes (at + 44) 4;
  align = le_at bytes (at + 48) 8;
  entsize = le_at bytes (at + 56) 8;
}

-- section number i
abbrev pub section_at : List ℕ → ℕ → Section
section_at bytes i = section_from bytes (e_shoff bytes + 64 * i)

-- a symbol: st_name, st_info, st_other, st_shndx, st_value, st_size
pub record Symbol : Type 0 where
  pub name : ℕ
  pub info : ℕ
  pub other : ℕ
  pub section : ℕ
  pub value : ℕ
  pub size : ℕ

abbrev pub symbol_from : List ℕ → ℕ → Symbol
symbol_from bytes at = record {
  name = le_at bytes at 4;
  info = le_at bytes (at + 4) 1;
  other = le_at bytes (at + 5) 1;
  section = le_at bytes (at + 6) 2;
  value = le_at bytes (at + 8) 8;
  size = le_at bytes (at + 16) 8;
}

-- the bytes of a file from a place on
abbrev pub bytes_at : List ℕ → ℕ → ℕ → List ℕ
bytes_at file at n = take n (drop at file)

-- the string with this number in a section of strings, which a zero ends
abbrev pub IsString : List ℕ → Section → ℕ → List ℕ → Type 0
IsString file strings number text =
    (strings.kind ≡ 3) × (number + length text < strings.size) × (bytes_at file (strings.offset + number) (length text + 1) ≡ text ++ 0 ∷ [])

-- ---- an object

-- sections stand in the file, but for those that have no bytes there (SHT_NULL is 0, SHT_NOBITS 8)
abbrev pub IsInFile : List ℕ → Section → Type 0
IsInFile file s = s.offset + s.size ≤ length file

-- The object: ET_REL for EM_AARCH64, of sections with no relocations (SHT_RELA is 4, SHT_REL 9). One holds the words, to be placed at
-- a multiple of 4, read and executed (SHF_ALLOC 2, SHF_EXECINSTR 4); one the symbols: none, the mapping symbol `$x` of code at its
-- start, and last, the only one that is not local, the global function of this name, which is the whole of it.
pub record IsObject (name words : List ℕ) (file : List ℕ) : Type 0 where
  pub ident : has_ident file ≡ true
  pub type : e_type file ≡ 1
  pub machine : e_machine file ≡ 183
  pub version : le_at file 20 4 ≡ 1
  pub header : le_at file 52 2 ≡ 64
  pub headers : e_shentsize file ≡ 64
  pub room : e_shoff file + 64 * e_shnum file ≤ length file
  pub in_file : (i : ℕ) → i < e_shnum file → IsInFile file (section_at file i)
  pub unmoved : (i : ℕ) → i < e_shnum file → ((section_at file i).kind ≢ 4) × ((section_at file i).kind ≢ 9)
  pub text : ℕ
  pub text_in : text < e_shnum file
  pub text_kind : (section_at file text).kind ≡ 1
  pub text_flags : (section_at file text).flags ≡ 6
  pub text_align : (section_at file text).align ≡ 4
  pub text_bytes : bytes_at file (section_at file text).offset (section_at file text).size ≡ word_bytes words
  pub table : ℕ
  pub table_in : table < e_shnum file
  pub table_kind : (section_at file table).kind ≡ 2
  pub table_entries : (section_at file table).entsize ≡ 24
  pub table_size : (section_at file table).size ≡ 72
  pub table_locals : (section_at file table).info ≡ 2
  pub strings_in : (section_at file table).link < e_shnum file
  pub none : symbol_from file (section_at file table).offset ≡ record { name = 0; info = 0; other = 0; section = 0; value = 0; size = 0 }
  pub mapping : ℕ
  pub mapping_is : symbol_from file ((section_at file table).offset + 24) ≡ record { name = mapping; info = 0; other = 0; section = text; value = 0; size = 0 }
  pub mapping_name : IsString file (section_at file (section_at file table).link) mapping (0x24 ∷ 0x78 ∷ [])
  pub function : ℕ
  pub function_is : symbol_from file ((section_at file table).offset + 48) ≡ record { name = function; info = 0x12; other = 0; section = text; value = 0; size = 4 * length words }
  pub function_name : IsString file (section_at file (section_at file table).link) function name
  -- an empty section asks for a stack that is not executed
  pub stack : ℕ
  pub stack_in : stack < e_shnum file
  pub stack_is : ((section_at file stack).size ≡ 0) × ((section_at file stack).flags ≡ 0)
  pub names_in : e_shstrndx file < e_shnum file
  pub stack_name : IsString file (section_at file (e_shstrndx file)) (section_at file stack).name (0x2E ∷ 0x6E ∷ 0x6F ∷ 0x74 ∷ 0x65 ∷ 0x2E ∷ 0x47 ∷ 0x4E ∷ 0x55 ∷ 0x2D ∷ 0x73 ∷ 0x74 ∷ 0x61 ∷ 0x63 ∷ 0x6B ∷ [])
