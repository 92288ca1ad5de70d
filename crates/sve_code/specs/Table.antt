-- The SVE rows: each with its base word, and its fields from the lowest to the highest, as the encoding diagrams of
-- Arm DDI 0487, chapter C8, "SVE Instruction Descriptions", give them.
use Rattle.std.specs.Prelude.{ℕ, ◌+◌, ◌*◌, ◌^◌, Bool, ◌&&◌, nat_le, slice_index, bit_or, List, [], ◌∷◌, ◌++◌}
use Rattle.word_rows.specs.Field.{Field, from_to, rd, rn, rm}
use Rattle.word_rows.specs.Row.{Row, only_below, free}

pub data Name : Type 0 where
  ptrue : Name
  pfalse : Name
  whilelo : Name
  ptest : Name
  p_and : Name
  p_bic : Name
  p_eor : Name
  p_orr : Name
  p_ands : Name
  brka : Name
  brkb : Name
  rdffr : Name
  rdffr_z : Name
  setffr : Name
  wrffr : Name
  cntb : Name
  cnth : Name
  cntw : Name
  cntd : Name
  incp : Name
  cntp : Name
  dup : Name
  index_row : Name
  sel : Name
  z_add : Name
  z_sub : Name
  z_and : Name
  z_orr : Name
  z_eor : Name
  z_bic : Name
  lsl_imm : Name
  lsr_imm : Name
  asr_imm : Name
  m_add : Name
  m_sub : Name
  m_smax : Name
  m_umax : Name
  m_smin : Name
  m_umin : Name
  m_mul : Name
  m_orr : Name
  m_eor : Name
  m_and : Name
  m_abs : Name
  m_neg : Name
  m_not : Name
  sxtb : Name
  uxtb : Name
  sxth : Name
  uxth : Name
  sxtw : Name
  uxtw : Name
  uaddv : Name
  smaxv : Name
  umaxv : Name
  sminv : Name
  uminv : Name
  orv : Name
  eorv : Name
  andv : Name
  cmphs : Name
  cmphi : Name
  cmpge : Name
  cmpgt : Name
  cmpeq : Name
  cmpne : Name
  ld1 : Name
  ldff1 : Name
  ldnf1 : Name
  gld1b : Name
  gld1h : Name
  gld1w : Name
  gld1d : Name
  gld1sb : Name
  gld1sh : Name
  gld1sw : Name
  st1 : Name

-- ---- fields
abbrev pub pd : Field
pd = from_to 3 0

abbrev pub size : Field
size = from_to 23 22

abbrev pub pn : Field
pn = from_to 8 5

abbrev pub pg4 : Field
pg4 = from_to 13 10

abbrev pub pm : Field
pm = from_to 19 16

abbrev pub pg_low : Field
pg_low = from_to 8 5

abbrev pub pm_low : Field
pm_low = from_to 8 5

abbrev pub zd : Field
zd = from_to 4 0

abbrev pub imm5 : Field
imm5 = from_to 20 16

abbrev pub zn : Field
zn = from_to 9 5

abbrev pub zm : Field
zm = from_to 20 16

abbrev pub imm3 : Field
imm3 = from_to 18 16

abbrev pub tszl : Field
tszl = from_to 20 19

abbrev pub tszh : Field
tszh = from_to 23 22

abbrev pub zdn : Field
zdn = from_to 4 0

abbrev pub zm_low : Field
zm_low = from_to 9 5

abbrev pub pg : Field
pg = from_to 12 10

abbrev pub zt : Field
zt = from_to 4 0

abbrev pub dtype : Field
dtype = from_to 24 21

abbrev pub element : Field
element = from_to 22 21

abbrev pub memory : Field
memory = from_to 24 23

-- ---- what is reserved
-- the number of field k is at least m
abbrev pub only_from : ℕ → ℕ → List ℕ → Bool
only_from k m ns = nat_le m (slice_index ns k)

-- of zd, zn, imm3, tszl, tszh: tszh:tszl:imm3 is at least 8
abbrev pub shift_from_8 : List ℕ → Bool
shift_from_8 ns = nat_le 8 (32 * slice_index ns 4 + 8 * slice_index ns 3 + slice_index ns 2)

-- of zt, rn, pg, rm, element, memory: rm is not 31, and memory is not above element
abbrev pub store_listed : List ℕ → Bool
store_listed ns = only_below 3 31 ns && nat_le (slice_index ns 5) (slice_index ns 4)

-- ---- rows
abbrev pub where_listed : ℕ → List Field → (List ℕ → Bool) → Row
where_listed base fields admits = record { base = base; fields = fields; admits = admits }

-- the base with a field of one listed number
abbrev pub fixed : ℕ → ℕ → ℕ → ℕ
fixed base number low = bit_or base (number * 2 ^ low)

abbrev pub row : Name → Row
row ptrue = free (fixed 0x2518E000 31 5) (pd ∷ size ∷ [])
row pfalse = free 0x2518E400 (pd ∷ [])
row whilelo = free 0x25201C00 (pd ∷ rn ∷ rm ∷ size ∷ [])
row ptest = free 0x2550C000 (pn ∷ pg4 ∷ [])
row p_and = free 0x25004000 (pd ∷ pn ∷ pg4 ∷ pm ∷ [])
row p_bic = free 0x25004010 (pd ∷ pn ∷ pg4 ∷ pm ∷ [])
row p_eor = free 0x25004200 (pd ∷ pn ∷ pg4 ∷ pm ∷ [])
row p_orr = free 0x25804000 (pd ∷ pn ∷ pg4 ∷ pm ∷ [])
row p_ands = free 0x25404000 (pd ∷ pn ∷ pg4 ∷ pm ∷ [])
row brka = free 0x25104000 (pd ∷ pn ∷ pg4 ∷ [])
row brkb = free 0x25904000 (pd ∷ pn ∷ pg4 ∷ [])
row rdffr = free 0x2519F000 (pd ∷ [])
row rdffr_z = free 0x2518F000 (pd ∷ pg_low ∷ [])
row setffr = free 0x252C9000 ([])
row wrffr = free 0x25289000 (pn ∷ [])
row cntb = free (fixed 0x0420E000 31 5) (rd ∷ [])
row cnth = free (fixed 0x0460E000 31 5) (rd ∷ [])
row cntw = free (fixed 0x04A0E000 31 5) (rd ∷ [])
row cntd = free (fixed 0x04E0E000 31 5) (rd ∷ [])
row incp = free 0x252C8800 (rd ∷ pm_low ∷ size ∷ [])
row cntp = free 0x25208000 (rd ∷ pn ∷ pg4 ∷ size ∷ [])
row dup = free 0x05203800 (zd ∷ rn ∷ size ∷ [])
row index_row = free 0x04204400 (zd ∷ rn ∷ imm5 ∷ size ∷ [])
row sel = free 0x0520C000 (zd ∷ zn ∷ pg4 ∷ zm ∷ size ∷ [])
row z_add = free 0x04200000 (zd ∷ zn ∷ zm ∷ size ∷ [])
row z_sub = free 0x04200400 (zd ∷ zn ∷ zm ∷ size ∷ [])
row z_and = free 0x04203000 (zd ∷ zn ∷ zm ∷ [])
row z_orr = free 0x04603000 (zd ∷ zn ∷ zm ∷ [])
row z_eor = free 0x04A03000 (zd ∷ zn ∷ zm ∷ [])
row z_bic = free 0x04E03000 (zd ∷ zn ∷ zm ∷ [])
row lsl_imm = where_listed 0x04209C00 (zd ∷ zn ∷ imm3 ∷ tszl ∷ tszh ∷ []) shift_from_8
row lsr_imm = where_listed 0x04209400 (zd ∷ zn ∷ imm3 ∷ tszl ∷ tszh ∷ []) shift_from_8
row asr_imm = where_listed 0x04209000 (zd ∷ zn ∷ imm3 ∷ tszl ∷ tszh ∷ []) shift_from_8
row m_add = free 0x04000000 (zdn ∷ zm_low ∷ pg ∷ size ∷ [])
row m_sub = free 0x04010000 (zdn ∷ zm_low ∷ pg ∷ size ∷ [])
row m_smax = free 0x04080000 (zdn ∷ zm_low ∷ pg ∷ size ∷ [])
row m_umax = free 0x04090000 (zdn ∷ zm_low ∷ pg ∷ size ∷ [])
row m_smin = free 0x040A0000 (zdn ∷ zm_low ∷ pg ∷ size ∷ [])
row m_umin = free 0x040B0000 (zdn ∷ zm_low ∷ pg ∷ size ∷ [])
row m_mul = free 0x04100000 (zdn ∷ zm_low ∷ pg ∷ size ∷ [])
row m_orr = free 0x04180000 (zdn ∷ zm_low ∷ pg ∷ size ∷ [])
row m_eor = free 0x04190000 (zdn ∷ zm_low ∷ pg ∷ size ∷ [])
row m_and = free 0x041A0000 (zdn ∷ zm_low ∷ pg ∷ size ∷ [])
row m_abs = free 0x0416A000 (zd ∷ zn ∷ pg ∷ size ∷ [])
row m_neg = free 0x0417A000 (zd ∷ zn ∷ pg ∷ size ∷ [])
row m_not = free 0x041EA000 (zd ∷ zn ∷ pg ∷ size ∷ [])
row sxtb = where_listed 0x0410A000 (zd ∷ zn ∷ pg ∷ size ∷ []) (only_from 3 1)
row uxtb = where_listed 0x0411A000 (zd ∷ zn ∷ pg ∷ size ∷ []) (only_from 3 1)
row sxth = where_listed 0x0412A000 (zd ∷ zn ∷ pg ∷ size ∷ []) (only_from 3 2)
row uxth = where_listed 0x0413A000 (zd ∷ zn ∷ pg ∷ size ∷ []) (only_from 3 2)
row sxtw = free (fixed 0x0414A000 3 22) (zd ∷ zn ∷ pg ∷ [])
row uxtw = free (fixed 0x0415A000 3 22) (zd ∷ zn ∷ pg ∷ [])
row uaddv = free 0x04012000 (zd ∷ zn ∷ pg ∷ size ∷ [])
row smaxv = free 0x04082000 (zd ∷ zn ∷ pg ∷ size ∷ [])
row umaxv = free 0x04092000 (zd ∷ zn ∷ pg ∷ size ∷ [])
row sminv = free 0x040A2000 (zd ∷ zn ∷ pg ∷ size ∷ [])
row uminv = free 0x040B2000 (zd ∷ zn ∷ pg ∷ size ∷ [])
row orv = free 0x04182000 (zd ∷ zn ∷ pg ∷ size ∷ [])
row eorv = free 0x04192000 (zd ∷ zn ∷ pg ∷ size ∷ [])
row andv = free 0x041A2000 (zd ∷ zn ∷ pg ∷ size ∷ [])
row cmphs = free 0x24000000 (pd ∷ zn ∷ pg ∷ zm ∷ size ∷ [])
row cmphi = free 0x24000010 (pd ∷ zn ∷ pg ∷ zm ∷ size ∷ [])
row cmpge = free 0x24008000 (pd ∷ zn ∷ pg ∷ zm ∷ size ∷ [])
row cmpgt = free 0x24008010 (pd ∷ zn ∷ pg ∷ zm ∷ size ∷ [])
row cmpeq = free 0x2400A000 (pd ∷ zn ∷ pg ∷ zm ∷ size ∷ [])
row cmpne = free 0x2400A010 (pd ∷ zn ∷ pg ∷ zm ∷ size ∷ [])
row ld1 = where_listed 0xA4004000 (zt ∷ rn ∷ pg ∷ rm ∷ dtype ∷ []) (only_below 3 31)
row ldff1 = free 0xA4006000 (zt ∷ rn ∷ pg ∷ rm ∷ dtype ∷ [])
row ldnf1 = free 0xA410A000 (zt ∷ rn ∷ pg ∷ dtype ∷ [])
row gld1b = free 0xC440C000 (zt ∷ rn ∷ pg ∷ zm ∷ [])
row gld1h = free 0xC4C0C000 (zt ∷ rn ∷ pg ∷ zm ∷ [])
row gld1w = free 0xC540C000 (zt ∷ rn ∷ pg ∷ zm ∷ [])
row gld1d = free 0xC5C0C000 (zt ∷ rn ∷ pg ∷ zm ∷ [])
row gld1sb = free 0xC4408000 (zt ∷ rn ∷ pg ∷ zm ∷ [])
row gld1sh = free 0xC4C08000 (zt ∷ rn ∷ pg ∷ zm ∷ [])
row gld1sw = free 0xC5408000 (zt ∷ rn ∷ pg ∷ zm ∷ [])
row st1 = where_listed 0xE4004000 (zt ∷ rn ∷ pg ∷ rm ∷ element ∷ memory ∷ []) store_listed

-- ---- the names, by form
unfoldable pub true_form : List Name
true_form = ptrue ∷ []

unfoldable pub false_form : List Name
false_form = pfalse ∷ []

unfoldable pub while_below : List Name
while_below = whilelo ∷ []

unfoldable pub test_form : List Name
test_form = ptest ∷ []

unfoldable pub pred_logic : List Name
pred_logic = p_and ∷ p_bic ∷ p_eor ∷ p_orr ∷ p_ands ∷ []

unfoldable pub break_form : List Name
break_form = brka ∷ brkb ∷ []

unfoldable pub read_ffr : List Name
read_ffr = rdffr ∷ []

unfoldable pub read_ffr_zeroing : List Name
read_ffr_zeroing = rdffr_z ∷ []

unfoldable pub set_ffr : List Name
set_ffr = setffr ∷ []

unfoldable pub write_ffr : List Name
write_ffr = wrffr ∷ []

unfoldable pub count : List Name
count = cntb ∷ cnth ∷ cntw ∷ cntd ∷ []

unfoldable pub increment_by_count : List Name
increment_by_count = incp ∷ []

unfoldable pub count_true : List Name
count_true = cntp ∷ []

unfoldable pub duplicate : List Name
duplicate = dup ∷ []

unfoldable pub index : List Name
index = index_row ∷ []

unfoldable pub select : List Name
select = sel ∷ []

unfoldable pub add_sub : List Name
add_sub = z_add ∷ z_sub ∷ []

unfoldable pub logic : List Name
logic = z_and ∷ z_orr ∷ z_eor ∷ z_bic ∷ []

unfoldable pub shift_imm : List Name
shift_imm = lsl_imm ∷ lsr_imm ∷ asr_imm ∷ []

unfoldable pub merging : List Name
merging = m_add ∷ m_sub ∷ m_smax ∷ m_umax ∷ m_smin ∷ m_umin ∷ m_mul ∷ m_orr ∷ m_eor ∷ m_and ∷ []

unfoldable pub unary : List Name
unary = m_abs ∷ m_neg ∷ m_not ∷ []

unfoldable pub extend_byte : List Name
extend_byte = sxtb ∷ uxtb ∷ []

unfoldable pub extend_half : List Name
extend_half = sxth ∷ uxth ∷ []

unfoldable pub extend_word : List Name
extend_word = sxtw ∷ uxtw ∷ []

unfoldable pub reduce : List Name
reduce = uaddv ∷ smaxv ∷ umaxv ∷ sminv ∷ uminv ∷ orv ∷ eorv ∷ andv ∷ []

unfoldable pub compare : List Name
compare = cmphs ∷ cmphi ∷ cmpge ∷ cmpgt ∷ cmpeq ∷ cmpne ∷ []

unfoldable pub load : List Name
load = ld1 ∷ []

unfoldable pub load_first_fault : List Name
load_first_fault = ldff1 ∷ []

unfoldable pub load_no_fault : List Name
load_no_fault = ldnf1 ∷ []

unfoldable pub load_gather : List Name
load_gather = gld1b ∷ gld1h ∷ gld1w ∷ gld1d ∷ gld1sb ∷ gld1sh ∷ gld1sw ∷ []

unfoldable pub store : List Name
store = st1 ∷ []

-- all rows
abbrev pub sve_names : List Name
sve_names =
    while_below ++ (pred_logic ++ (break_form ++ (set_ffr ++ (write_ffr ++ (increment_by_count ++ (count_true ++
    (true_form ++ (false_form ++ (test_form ++ (read_ffr ++ (read_ffr_zeroing ++ (duplicate ++ (select ++ (add_sub ++
    (merging ++ (logic ++ (reduce ++ (index ++ (shift_imm ++ (unary ++ (extend_byte ++ (extend_half ++ (extend_word ++
    (count ++ (compare ++ (load ++ (load_first_fault ++ (load_no_fault ++ (load_gather ++ (store ++ []))))))))))))))))))))))))))))))
