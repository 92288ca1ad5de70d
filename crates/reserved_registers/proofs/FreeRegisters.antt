-- Registers that the code of kernels writes: none of X18, X29 and X30, and none that may be SP.
use Rattle.std.proofs.Common.{◌≡◌, ◌≢◌, ℕ, zero, suc, ◌+◌, ◌<◌, ◌≤◌, Bool, true, false, List, [], ◌∷◌, ◌++◌, length, Option, Some, None, refl, sym, ap, ◌∙◌, subst, arith, ⊎_elim}
use Rattle.std.specs.Prelude.{◌||◌, cond, nat_eq, option_map, slice_index, unwrap_or}
use Rattle.std.specs.List.{find}
use Rattle.std.proofs.lemmas.Bool.{cases_lt, lt-ltb, le-ltb, cond-true, cond-false, ne_eqb}
use Rattle.std.proofs.lemmas.List.{get_or_past}
use Rattle.kernel_tree.specs.Plain.{Parameter, Accumulator, Program}
use Rattle.reg_assign.specs.declared.interval.RegClass.TheVariants.{X}
use Rattle.reg_assign.specs.Registers.{Assignment}
use Rattle.loop_form.specs.Entries.{Entry, entries_of}
use Rattle.loop_form.specs.Listing.{last_use_in}
use Rattle.loop_form.specs.Registers.{FitsKernel}
use Rattle.scalar_words.specs.Layout.{Home, Homes, reg_of, is_home, register_of, register_at, LastsAt, NameLasts}
use Rattle.scalar_words.specs.KernelRegisters.{counted_x, one_reg, regs_from, layout_of_kernel, param_homes, var_homes, kernel_homes, register_in}
use Rattle.promises.specs.Reserved.{is_reserved}

pub record Unreserved (n : ℕ) : Type 0 where
  pub unreserved : is_reserved n ≡ false

pub record Free (n : ℕ) : Type 0 where
  pub kept : Unreserved n
  pub other : nat_eq n 31 ≡ false

neither : (a b c : Bool) → a ≡ false → b ≡ false → c ≡ false → (a || b || c) ≡ false
neither false b c p q r = ap (λ x. x || c) q ∙ r
neither true b c p q r = absurd cc

pub free : (n : ℕ) → n ≢ 18 → n ≢ 29 → n ≢ 30 → n ≢ 31 → Free n
free n a b c d = record { kept = record { unreserved = neither (nat_eq n 18) (nat_eq n 29) (nat_eq n 30) (ne_eqb n 18 a) (ne_eqb n 29 b) (ne_eqb n 30 c) }; other = ne_eqb n 31 d }

pub free_below : (n : ℕ) → n < 18 → Free n
free_below n h = free n (λ e. absurd (omega (arith, h, e))) (λ e. absurd (omega (arith, h, e))) (λ e. absurd (omega (arith, h, e))) (λ e. absurd (omega (arith, h, e)))

free_within : (n : ℕ) → 19 ≤ n → n ≤ 25 → Free n
free_within n l h = free n (λ e. absurd (omega (arith, l, e))) (λ e. absurd (omega (arith, h, e))) (λ e. absurd (omega (arith, h, e))) (λ e. absurd (omega (arith, h, e)))

-- a register that holds values
pub counted_free : (j : ℕ) → j < 15 → Free (counted_x j)
counted_free j h =
    ⊎_elim
    (λ (a : j < 8). subst Free (sym (cond-true _ (10 + j) (11 + j) (lt-ltb j 8 a))) (free_below (10 + j) (omega arith)))
    (λ (a : 8 ≤ j). subst Free (sym (cond-false _ (10 + j) (11 + j) (le-ltb j 8 a))) (free_within (11 + j) (omega arith) (omega arith)))
    (cases_lt j 8)

-- ---- items

module _ (R : ℕ → ℕ) (below : (j : ℕ) → R j < 15) where
  one_free : (o : Option ℕ) (j : ℕ) (more : ℕ → List ℕ) (p : ℕ) → ((n q : ℕ) → Free (slice_index (more n) q)) → Free (slice_index (one_reg R j o more) p)
  one_free None j more zero h = free_below 0 (omega arith)
  one_free None j more (suc p) h = h j p
  one_free (Some u) j more zero h = counted_free (R j) (below j)
  one_free (Some u) j more (suc p) h = h (suc j) p

  regs_free : (all es : List Entry) (j p : ℕ) → Free (slice_index (regs_from R all j es) p)
  regs_free all [] j p = free_below 0 (omega arith)
  regs_free all (e ∷ es) j p = one_free (last_use_in X all e) j (λ n. regs_from R all n es) p (λ n q. regs_free all es n q)

  pub layout_free : (k : Program) (p : ℕ) → Free (reg_of (layout_of_kernel R k) p)
  layout_free k p = regs_free (entries_of k) (entries_of k) (length k.vars) p

-- ---- names

abbrev pub AreFree : Homes → Type 0
AreFree [] = Unit {0}
AreFree (h ∷ hs) = Free h.register × AreFree hs

pub more_free : (hs : Homes) (h : Home) → AreFree hs → Free h.register → AreFree (hs ++ h ∷ [])
more_free [] h a f = (f, tt)
more_free (g ∷ hs) h a f = (a.0, more_free hs h a.1 f)

all_free : (hs gs : Homes) → AreFree hs → AreFree gs → AreFree (hs ++ gs)
all_free [] gs a b = b
all_free (h ∷ hs) gs a b = (a.0, all_free hs gs a.1 b)

params_free : (n : ℕ) (ps : List Parameter) → n + length ps ≤ 8 → AreFree (param_homes n ps)
params_free n [] h = tt
params_free n (p ∷ ps) h = (free_below n (omega arith), params_free (n + 1) ps (omega (arith, h)))

pub arguments_free : (ps : List Parameter) → length ps ≤ 8 → AreFree (param_homes 0 ps)
arguments_free ps h = params_free 0 ps (omega (arith, h))

module _ (R : ℕ → ℕ) (below : (j : ℕ) → R j < 15) where
  vars_free : (j : ℕ) (vs : List Accumulator) → AreFree (var_homes R j vs)
  vars_free j [] = tt
  vars_free j (v ∷ vs) = (counted_free (R j) (below j), vars_free (j + 1) vs)

  pub names_free : (k : Program) → length k.params ≤ 8 → AreFree (kernel_homes R k)
  names_free k h = all_free (param_homes 0 k.params) (var_homes R 0 k.vars) (arguments_free k.params h) (vars_free 0 k.vars)

-- a name that is held has such a register
found_here : (b : Bool) (g : Home) (hs : Homes) (x : List ℕ) (p : ℕ) → Free g.register → (LastsAt (find (is_home x) hs) p → Free (unwrap_or (option_map register_of (find (is_home x) hs)) 31)) → LastsAt (cond b (Some g) (find (is_home x) hs)) p → Free (unwrap_or (option_map register_of (cond b (Some g) (find (is_home x) hs))) 31)
found_here true g hs x p f more h = f
found_here false g hs x p f more h = more h

found_free : (hs : Homes) (x : List ℕ) (p : ℕ) → AreFree hs → LastsAt (find (is_home x) hs) p → Free (unwrap_or (option_map register_of (find (is_home x) hs)) 31)
found_free [] x p a h = absurd h
found_free (g ∷ hs) x p a h = found_here (is_home x g) g hs x p a.0 (λ k. found_free hs x p a.1 k) h

pub name_free : (hs : Homes) (x : List ℕ) (p : ℕ) → AreFree hs → NameLasts hs x p → Free (register_at hs x)
name_free hs x p a h = found_free hs x p a h

-- and one that is read as zero where it is not visible is not reserved either
found_kept : (hs : Homes) (x : List ℕ) → AreFree hs → Unreserved (unwrap_or (option_map register_of (find (is_home x) hs)) 31)
found_kept [] x a = record { unreserved = refl }
found_kept (g ∷ hs) x a = by (is_home x g) (found_kept hs x a.1)
  where
    by : (b : Bool) → Unreserved (unwrap_or (option_map register_of (find (is_home x) hs)) 31) → Unreserved (unwrap_or (option_map register_of (cond b (Some g) (find (is_home x) hs))) 31)
    by true h = a.0.kept
    by false h = h

pub name_kept : (hs : Homes) (x : List ℕ) → AreFree hs → Unreserved (register_at hs x)
name_kept hs x a = found_kept hs x a

-- ---- registers that were assigned

-- where there is no interval, the number is 0
small_at : (rs : List ℕ) (j : ℕ) → ((i : ℕ) → i < length rs → slice_index rs i < 15) → slice_index rs j < 15
small_at rs j h = ⊎_elim (λ (a : j < length rs). h j a) (λ (a : length rs ≤ j). subst (λ n. n < 15) (sym (past rs j a)) (omega arith)) (cases_lt j (length rs))
  where
    past : (xs : List ℕ) (i : ℕ) → length xs ≤ i → slice_index xs i ≡ 0
    past xs i a = get_or_past xs i 0 a

pub assigned_below : (k : Program) (a : Assignment) → FitsKernel k X a → (j : ℕ) → register_in a j < 15
assigned_below k a f j = small_at a.registers j f.assigned.below
