-- The conditions of branches and selections, by the manual's names (Arm DDI 0487, C1.2.4).
use Rattle.std.specs.Prelude.{ℕ}
use Rattle.a64_code.specs.declared.Cond.TheVariants.{Eq, Ne, Hs, Lo, Hi, Ls, Ge, Lt, Gt, Le}
use Rattle.a64_code.specs.View.{cond_number}

-- equal, and not equal
abbrev pub eq : ℕ
eq = cond_number Eq

abbrev pub ne : ℕ
ne = cond_number Ne

-- of unsigned numbers: higher or same, lower, higher, and lower or same
abbrev pub hs : ℕ
hs = cond_number Hs

abbrev pub lo : ℕ
lo = cond_number Lo

abbrev pub hi : ℕ
hi = cond_number Hi

abbrev pub ls : ℕ
ls = cond_number Ls

-- of signed numbers: greater or equal, less, greater, and less or equal
abbrev pub ge : ℕ
ge = cond_number Ge

abbrev pub lt : ℕ
lt = cond_number Lt

abbrev pub gt : ℕ
gt = cond_number Gt

abbrev pub le : ℕ
le = cond_number Le
