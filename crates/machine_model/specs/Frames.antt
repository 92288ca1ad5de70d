-- What each instruction writes: at most one vector register, one predicate register or one general register, and besides those
-- the flags, FFR, the stop list, memory, SP and PC. All else it leaves alone.
use Rattle.std.specs.Prelude.{◌≡◌, ◌≢◌, ℕ, ◌+◌, ◌%◌, ◌^◌, ◌<◌, Bool, true, false, List, nat_eq, Option, Some, None, option_map}
use Rattle.guest_types.specs.Memory.{Memory, can_read, can_write, fetched}
use Rattle.word_rows.specs.Field.{Field, rd}
use Rattle.sve_code.specs.Table.{Name, pd, zd, zdn, zt, ptrue, pfalse, whilelo, ptest, p_and, p_bic, p_eor, p_orr, p_ands, brka, brkb, rdffr, rdffr_z, setffr, wrffr, cntb, cnth, cntw, cntd, incp, cntp, dup, index_row, sel, z_add, z_sub, z_and, z_orr, z_eor, z_bic, lsl_imm, lsr_imm, asr_imm, m_add, m_sub, m_smax, m_umax, m_smin, m_umin, m_mul, m_orr, m_eor, m_and, m_abs, m_neg, m_not, sxtb, uxtb, sxth, uxth, sxtw, uxtw, uaddv, smaxv, umaxv, sminv, uminv, orv, eorv, andv, cmphs, cmphi, cmpge, cmpgt, cmpeq, cmpne, ld1, ldff1, ldnf1, gld1b, gld1h, gld1w, gld1d, gld1sb, gld1sh, gld1sw, st1}
use Rattle.a64_code.specs.Table as a64
use Rattle.machine_model.specs.Effects.{arg}
use Rattle.machine_model.specs.Machine.{State, x_at, z_at, p_at}

-- The parts of a state that an instruction may write, the registers by their numbers. Where `pc` is false, it goes on to the
-- next word.
pub record Parts : Type 0 where
  pub pc : Bool
  pub x : Option ℕ
  pub sp : Bool
  pub z : Option ℕ
  pub p : Option ℕ
  pub flags : Bool
  pub ffr : Bool
  pub stops : Bool
  pub memory : Bool

-- ---- SVE

-- the field that names the vector register written
abbrev pub z_field : Name → Option Field
z_field dup = Some zd
z_field index_row = Some zd
z_field sel = Some zd
z_field z_add = Some zd
z_field z_sub = Some zd
z_field z_and = Some zd
z_field z_orr = Some zd
z_field z_eor = Some zd
z_field z_bic = Some zd
z_field lsl_imm = Some zd
z_field lsr_imm = Some zd
z_field asr_imm = Some zd
z_field m_add = Some zdn
z_field m_sub = Some zdn
z_field m_smax = Some zdn
z_field m_umax = Some zdn
z_field m_smin = Some zdn
z_field m_umin = Some zdn
z_field m_mul = Some zdn
z_field m_orr = Some zdn
z_field m_eor = Some zdn
z_field m_and = Some zdn
z_field m_abs = Some zd
z_field m_neg = Some zd
z_field m_not = Some zd
z_field sxtb = Some zd
z_field uxtb = Some zd
z_field sxth = Some zd
z_field uxth = Some zd
z_field sxtw = Some zd
z_field uxtw = Some zd
z_field uaddv = Some zd
z_field smaxv = Some zd
z_field umaxv = Some zd
z_field sminv = Some zd
z_field uminv = Some zd
z_field orv = Some zd
z_field eorv = Some zd
z_field andv = Some zd
z_field ld1 = Some zt
z_field ldff1 = Some zt
z_field ldnf1 = Some zt
z_field gld1b = Some zt
z_field gld1h = Some zt
z_field gld1w = Some zt
z_field gld1d = Some zt
z_field gld1sb = Some zt
z_field gld1sh = Some zt
z_field gld1sw = Some zt
z_field _ = None

-- the same for predicate registers and general registers
abbrev pub p_field : Name → Option Field
p_field ptrue = Some pd
p_field pfalse = Some pd
p_field whilelo = Some pd
p_field p_and = Some pd
p_field p_bic = Some pd
p_field p_eor = Some pd
p_field p_orr = Some pd
p_field p_ands = Some pd
p_field brka = Some pd
p_field brkb = Some pd
p_field rdffr = Some pd
p_field rdffr_z = Some pd
p_field cmphs = Some pd
p_field cmphi = Some pd
p_field cmpge = Some pd
p_field cmpgt = Some pd
p_field cmpeq = Some pd
p_field cmpne = Some pd
p_field _ = None

abbrev pub x_field : Name → Option Field
x_field cntb = Some rd
x_field cnth = Some rd
x_field cntw = Some rd
x_field cntd = Some rd
x_field incp = Some rd
x_field cntp = Some rd
x_field _ = None

abbrev pub sets_flags : Name → Bool
sets_flags whilelo = true
sets_flags ptest = true
sets_flags p_ands = true
sets_flags cmphs = true
sets_flags cmphi = true
sets_flags cmpge = true
sets_flags cmpgt = true
sets_flags cmpeq = true
sets_flags cmpne = true
sets_flags _ = false

abbrev pub sets_ffr : Name → Bool
sets_ffr setffr = true
sets_ffr wrffr = true
sets_ffr ldff1 = true
sets_ffr ldnf1 = true
sets_ffr _ = false

abbrev pub moves_stops : Name → Bool
moves_stops ldff1 = true
moves_stops ldnf1 = true
moves_stops _ = false

abbrev pub stores : Name → Bool
stores st1 = true
stores _ = false

abbrev pub vector_parts : Name → (Field → ℕ) → Parts
vector_parts n f = record {
  pc = false;
  x = option_map f (x_field n);
  sp = false;
  z = option_map f (z_field n);
  p = option_map f (p_field n);
  flags = sets_flags n;
  ffr = sets_ffr n;
  stops = moves_stops n;
  memory = stores n;
}

-- ---- A64

abbrev pub is_branch : a64.Name → Bool
is_branch a64.b = true
is_branch a64.b_cond = true
is_branch a64.cbz = true
is_branch a64.cbnz = true
is_branch a64.ret = true
is_branch _ = false

abbrev pub is_store : a64.Name → Bool
is_store a64.strb = true
is_store a64.strh = true
is_store a64.str_w = true
is_store a64.str_x = true
is_store a64.strb_register = true
is_store a64.strh_register = true
is_store a64.str_w_register = true
is_store a64.str_x_register = true
is_store _ = false

-- the general register that is written stands in the first field, but for these
abbrev pub x_written : a64.Name → List ℕ → Option ℕ
x_written a64.b ns = None
x_written a64.b_cond ns = None
x_written a64.cbz ns = None
x_written a64.cbnz ns = None
x_written a64.ret ns = None
x_written a64.svc ns = None
x_written a64.brk ns = None
x_written a64.nop ns = None
x_written a64.strb ns = None
x_written a64.strh ns = None
x_written a64.str_w ns = None
x_written a64.str_x ns = None
x_written a64.strb_register ns = None
x_written a64.strh_register ns = None
x_written a64.str_w_register ns = None
x_written a64.str_x_register ns = None
x_written _ ns = Some (arg ns 0)

-- where its number is 31, the register of these is SP
abbrev pub sp_written : a64.Name → List ℕ → Bool
sp_written a64.add_imm ns = nat_eq (arg ns 0) 31
sp_written a64.sub_imm ns = nat_eq (arg ns 0) 31
sp_written _ ns = false

abbrev pub flags_written : a64.Name → Bool
flags_written a64.subs_imm = true
flags_written a64.subs = true
flags_written _ = false

abbrev pub scalar_parts : a64.Name → List ℕ → Parts
scalar_parts n ns = record {
  pc = is_branch n;
  x = x_written n ns;
  sp = sp_written n ns;
  z = None;
  p = None;
  flags = flags_written n;
  ffr = false;
  stops = false;
  memory = is_store n;
}

-- ---- what is left alone

-- a part is the same unless it is written
abbrev pub SameUnless : {X : Type 0} → Bool → X → X → Type 0
SameUnless false before after = after ≡ before
SameUnless true before after = Unit {0}

abbrev pub OtherZ : Option ℕ → (before after : State) → Type 0
OtherZ None s t = t.z ≡ s.z
OtherZ (Some d) s t = (n : ℕ) → n ≢ d → z_at t n ≡ z_at s n

abbrev pub OtherP : Option ℕ → (before after : State) → Type 0
OtherP None s t = t.p ≡ s.p
OtherP (Some d) s t = (n : ℕ) → n ≢ d → p_at t n ≡ p_at s n

abbrev pub OtherX : Option ℕ → (before after : State) → Type 0
OtherX None s t = t.x ≡ s.x
OtherX (Some d) s t = (n : ℕ) → n ≢ d → x_at t n ≡ x_at s n

-- an address may be read and written as before
abbrev pub SameAccess : (before after : Memory) → ℕ → Type 0
SameAccess before after a = (can_read after a ≡ can_read before a) × (can_write after a ≡ can_write before a)

pub record LeavesOther (parts : Parts) (s t : State) : Type 0 where
  pub pc : SameUnless parts.pc ((s.pc + 4) % 2 ^ 64) t.pc
  pub sp : SameUnless parts.sp s.sp t.sp
  pub vl : t.vl ≡ s.vl
  pub code : (a : ℕ) → a < 2 ^ 64 → fetched t.memory a ≡ fetched s.memory a
  pub access : (a : ℕ) → SameAccess s.memory t.memory a
  pub memory : SameUnless parts.memory s.memory t.memory
  pub flags : SameUnless parts.flags s.flags t.flags
  pub ffr : SameUnless parts.ffr s.ffr t.ffr
  pub stops : SameUnless parts.stops s.stops t.stops
  pub x : OtherX parts.x s t
  pub z : OtherZ parts.z s t
  pub p : OtherP parts.p s t

-- an SVE instruction, whose fields have these numbers, leaves the rest of the state alone
abbrev pub Leaves : Name → (Field → ℕ) → (before after : State) → Type 0
Leaves n f s t = LeavesOther (vector_parts n f) s t

-- an A64 instruction does
abbrev pub ScalarLeaves : a64.Name → List ℕ → (before after : State) → Type 0
ScalarLeaves n ns s t = LeavesOther (scalar_parts n ns) s t
