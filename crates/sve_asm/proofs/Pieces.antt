-- The parts of an instruction's text as words.
use Rattle.std.proofs.Common.{◌≡◌, ℕ, ◌<◌, refl, None}
use Rattle.std.specs.Prelude.{decimal, codes, ◌++◌, List}
use Rattle.std.specs.Fmt.{digits}
use Rattle.number_text.specs.Numbers.{decimal_of}
use Rattle.list_text.specs.Parts.{x_register, w_register, x_or_sp, w_or_sp, cond_name, size_letter, p_register}
use Rattle.asm_forms.specs.Blanks.{meanings, meaning_in, blank_of}
use Rattle.sve_asm.proofs.Words.{IsBlanked, below, blanked-small}

-- a register of vectors, and of vectors seen as scalars of one size
abbrev pub z_word : ℕ → List ℕ
z_word n = codes "z" ++ decimal n

abbrev pub v_word : ℕ → List ℕ
v_word n = codes "v" ++ decimal n

abbrev pub b_word : ℕ → List ℕ
b_word n = codes "b" ++ decimal n

abbrev pub h_word : ℕ → List ℕ
h_word n = codes "h" ++ decimal n

abbrev pub s_word : ℕ → List ℕ
s_word n = codes "s" ++ decimal n

abbrev pub d_word : ℕ → List ℕ
d_word n = codes "d" ++ decimal n

pub x-blanked : (n : ℕ) → n < 32 → IsBlanked (x_register n) 120 n
unfolding below blank_of meanings meaning_in decimal_of digits
x-blanked = blanked-small x_register 120 32 refl

pub w-blanked : (n : ℕ) → n < 32 → IsBlanked (w_register n) 119 n
unfolding below blank_of meanings meaning_in decimal_of digits
w-blanked = blanked-small w_register 119 32 refl

pub x_or_sp-blanked : (n : ℕ) → n < 32 → IsBlanked (x_or_sp n) 120 n
unfolding below blank_of meanings meaning_in decimal_of digits
x_or_sp-blanked = blanked-small x_or_sp 120 32 refl

pub w_or_sp-blanked : (n : ℕ) → n < 32 → IsBlanked (w_or_sp n) 119 n
unfolding below blank_of meanings meaning_in decimal_of digits
w_or_sp-blanked = blanked-small w_or_sp 119 32 refl

pub p-blanked : (n : ℕ) → n < 16 → IsBlanked (p_register n) 112 n
unfolding below blank_of meanings meaning_in decimal_of digits
p-blanked = blanked-small p_register 112 16 refl

pub z-blanked : (n : ℕ) → n < 32 → IsBlanked (z_word n) 122 n
unfolding below blank_of meanings meaning_in decimal_of digits
z-blanked = blanked-small z_word 122 32 refl

pub v-blanked : (n : ℕ) → n < 32 → IsBlanked (v_word n) 118 n
unfolding below blank_of meanings meaning_in decimal_of digits
v-blanked = blanked-small v_word 118 32 refl

pub b-blanked : (n : ℕ) → n < 32 → IsBlanked (b_word n) 118 n
unfolding below blank_of meanings meaning_in decimal_of digits
b-blanked = blanked-small b_word 118 32 refl

pub h-blanked : (n : ℕ) → n < 32 → IsBlanked (h_word n) 118 n
unfolding below blank_of meanings meaning_in decimal_of digits
h-blanked = blanked-small h_word 118 32 refl

pub s-blanked : (n : ℕ) → n < 32 → IsBlanked (s_word n) 118 n
unfolding below blank_of meanings meaning_in decimal_of digits
s-blanked = blanked-small s_word 118 32 refl

pub d-blanked : (n : ℕ) → n < 32 → IsBlanked (d_word n) 118 n
unfolding below blank_of meanings meaning_in decimal_of digits
d-blanked = blanked-small d_word 118 32 refl

pub cond-blanked : (n : ℕ) → n < 15 → IsBlanked (cond_name n) 99 n
unfolding below blank_of meanings meaning_in decimal_of digits
cond-blanked = blanked-small cond_name 99 15 refl

pub size-blanked : (n : ℕ) → n < 4 → IsBlanked (size_letter n) 84 n
unfolding below blank_of meanings meaning_in decimal_of digits
size-blanked = blanked-small size_letter 84 4 refl

pub lsl-blanked : IsBlanked (codes "lsl") 108 0
unfolding blank_of meanings meaning_in
lsl-blanked = record { word = refl; blank = refl }

pub lsr-blanked : IsBlanked (codes "lsr") 108 1
unfolding blank_of meanings meaning_in
lsr-blanked = record { word = refl; blank = refl }

pub asr-blanked : IsBlanked (codes "asr") 108 2
unfolding blank_of meanings meaning_in
asr-blanked = record { word = refl; blank = refl }

pub ror-blanked : IsBlanked (codes "ror") 108 3
unfolding blank_of meanings meaning_in
ror-blanked = record { word = refl; blank = refl }

pub zero-blanked : IsBlanked (codes "0") 48 0
unfolding blank_of meanings meaning_in decimal_of
zero-blanked = record { word = refl; blank = refl }

pub none_z : blank_of (codes "z") ≡ None
unfolding blank_of meanings meaning_in decimal_of
none_z = refl

pub b_size-blanked : IsBlanked (codes "b") 84 0
unfolding blank_of meanings meaning_in
b_size-blanked = record { word = refl; blank = refl }

pub d_size-blanked : IsBlanked (codes "d") 84 3
unfolding blank_of meanings meaning_in
d_size-blanked = record { word = refl; blank = refl }
