-- The general registers of the names that are visible at the loop of a kernel: no two names share one, and each name is found
-- at its own.
use Rattle.std.proofs.Common.{◌≡◌, ◌≢◌, ℕ, ◌+◌, ◌<◌, ◌≤◌, pos, Bool, true, false, cond, List, [], ◌∷◌, ◌++◌, length, map, Some, None, refl, sym, ap, ◌∙◌, subst, arith}
use Rattle.std.specs.Prelude.{bytes_eq, option_map, unwrap_or, ◌||◌}
use Rattle.std.specs.List.{find, list_any}
use mathlib.Core.Bool.{or-true}
use Rattle.kernel_tree.specs.Plain.{Parameter, Accumulator, Program}
use Rattle.kernel_tree.specs.Typing.{Local, check_fault, var_scope}
use Rattle.kernel_tree.proofs.Names.{bytes_eq-refl, bytes_swap, bytes_eq-told}
use Rattle.kernel_meaning.specs.Operators.{word}
use Rattle.kernel_meaning.specs.Eval.{Named, Names, is_named, value_of, value_at}
use Rattle.kernel_meaning.specs.Ranges.{AreRanged}
use Rattle.machine_model.specs.Machine.{State, x_at}
use Rattle.reg_assign.specs.declared.interval.RegClass.TheVariants.{X}
use Rattle.reg_assign.specs.Registers.{Assignment}
use Rattle.loop_form.specs.Registers.{FitsKernel}
use Rattle.vector_order.specs.Order.{is_var, Steady}
use Rattle.scalar_words.specs.Layout.{Home, Homes, is_home, register_of, register_at}
use Rattle.scalar_words.specs.KernelRegisters.{counted_x, param_homes, var_homes, kernel_homes, register_in}
use Rattle.scalar_words.specs.Iterations.{AreHeld}
use Rattle.scalar_words.proofs.AssignedOf.{counted-low, counted-high, counted-apart}
use Rattle.scalar_words.proofs.ChosenOf.{AccumulatorsChosen, accumulators_of, chosen_all}
use Rattle.reductions.proofs.FoldNames.{Unlike, Distinct, local_name, visible_distinct}

-- ---- registers that differ

abbrev Elsewhere : ℕ → Homes → Type 0
Elsewhere r [] = Unit {0}
Elsewhere r (h ∷ hs) = (h.register ≢ r) × Elsewhere r hs

abbrev pub Spaced : Homes → Type 0
Spaced [] = Unit {0}
Spaced (h ∷ hs) = Elsewhere h.register hs × Spaced hs

-- registers that hold names: none past X25, and not X9
abbrev pub AreLow : Homes → Type 0
AreLow [] = Unit {0}
AreLow (h ∷ hs) = (h.register ≤ 25) × (h.register ≢ 9) × AreLow hs

elsewhere_append : (r : ℕ) (hs gs : Homes) → Elsewhere r hs → Elsewhere r gs → Elsewhere r (hs ++ gs)
elsewhere_append r [] gs h k = k
elsewhere_append r (x ∷ hs) gs h k = (h.0, elsewhere_append r hs gs h.1 k)

low_append : (hs gs : Homes) → AreLow hs → AreLow gs → AreLow (hs ++ gs)
low_append [] gs h k = k
low_append (x ∷ hs) gs h k = (h.0, h.1, low_append hs gs h.2 k)

params_elsewhere : (r n : ℕ) (ps : List Parameter) → r < n → Elsewhere r (param_homes n ps)
params_elsewhere r n [] lt = tt
params_elsewhere r n (p ∷ ps) lt = ((λ e. absurd (omega (arith, lt, e))), params_elsewhere r (n + 1) ps (omega (arith, lt)))

params_low : (n : ℕ) (ps : List Parameter) → n + length ps ≤ 8 → AreLow (param_homes n ps)
params_low n [] le = tt
params_low n (p ∷ ps) le = (omega (arith, le), (λ e. absurd (omega (arith, le, e))), params_low (n + 1) ps (omega (arith, le)))

module _ (k : Program) (R : ℕ → ℕ) (c : AccumulatorsChosen k R) where
  vars_low : (j : ℕ) (vs : List Accumulator) → j + length vs ≤ length k.vars → AreLow (var_homes R j vs)
  vars_low j [] le = tt
  vars_low j (v ∷ vs) le =
      let low = counted-low (R j) in
      (counted-high (R j) (c.below j (omega (arith, le))), (λ e. absurd (omega (arith, low, e))), vars_low (j + 1) vs (omega (arith, le)))

  vars_past : (r j : ℕ) (vs : List Accumulator) → r < 10 → Elsewhere r (var_homes R j vs)
  vars_past r j [] lt = tt
  vars_past r j (v ∷ vs) lt = let low = counted-low (R j) in ((λ e. absurd (omega (arith, low, lt, e))), vars_past r (j + 1) vs lt)

  vars_elsewhere : (i j : ℕ) (vs : List Accumulator) → i < j → j + length vs ≤ length k.vars → Elsewhere (counted_x (R i)) (var_homes R j vs)
  vars_elsewhere i j [] lt le = tt
  vars_elsewhere i j (v ∷ vs) lt le =
      (counted-apart (R j) (R i) (c.apart j i (λ e. absurd (omega (arith, lt, e))) (omega (arith, le)) (omega (arith, lt, le))), vars_elsewhere i (j + 1) vs (omega (arith, lt)) (omega (arith, le)))

  vars_spaced : (j : ℕ) (vs : List Accumulator) → j + length vs ≤ length k.vars → Spaced (var_homes R j vs)
  vars_spaced j [] le = tt
  vars_spaced j (v ∷ vs) le = (vars_elsewhere j (j + 1) vs (omega arith) (omega (arith, le)), vars_spaced (j + 1) vs (omega (arith, le)))

  all_spaced : (n : ℕ) (ps : List Parameter) → n + length ps ≤ 8 → Spaced (param_homes n ps ++ var_homes R 0 k.vars)
  all_spaced n [] le = vars_spaced 0 k.vars (omega arith)
  all_spaced n (p ∷ ps) le =
      (elsewhere_append n (param_homes (n + 1) ps) (var_homes R 0 k.vars) (params_elsewhere n (n + 1) ps (omega arith)) (vars_past n 0 k.vars (omega (arith, le))), all_spaced (n + 1) ps (omega (arith, le)))

-- ---- names that are found

abbrev pub is_found : List ℕ → Homes → Bool
is_found x hs = list_any (is_home x) hs

-- the register of a name that is found is among these
away_from : (r : ℕ) (hs : Homes) (x : List ℕ) → Elsewhere r hs → is_found x hs ≡ true → register_at hs x ≢ r
away_from r [] x h f = absurd cc
away_from r (g ∷ hs) x h f = by (bytes_eq g.name x) f (away_from r hs x h.1)
  where
    by : (b : Bool) → b || is_found x hs ≡ true → (is_found x hs ≡ true → register_at hs x ≢ r) → unwrap_or (option_map register_of (cond b (Some g) (find (is_home x) hs))) 31 ≢ r
    by true f more = h.0
    by false f more = more f

pub low_at : (hs : Homes) (x : List ℕ) → AreLow hs → is_found x hs ≡ true → (register_at hs x ≤ 25) × (register_at hs x ≢ 9)
low_at [] x h f = absurd cc
low_at (g ∷ hs) x h f = by (bytes_eq g.name x) f (low_at hs x h.2)
  where
    by : (b : Bool) → b || is_found x hs ≡ true → (is_found x hs ≡ true → (register_at hs x ≤ 25) × (register_at hs x ≢ 9))
        → (unwrap_or (option_map register_of (cond b (Some g) (find (is_home x) hs))) 31 ≤ 25) × (unwrap_or (option_map register_of (cond b (Some g) (find (is_home x) hs))) 31 ≢ 9)
    by true f more = (h.0, h.1)
    by false f more = more f

-- two names have two registers
pub registers_apart : (hs : Homes) (x y : List ℕ) → Spaced hs → is_found x hs ≡ true → is_found y hs ≡ true → x ≢ y → register_at hs x ≢ register_at hs y
registers_apart [] x y s f g ne = absurd cc
registers_apart (h ∷ hs) x y s f g ne = by (bytes_eq h.name x) (bytes_eq h.name y) refl refl f g (λ p q. registers_apart hs x y s.1 p q ne)
  where
    by : (a b : Bool) → bytes_eq h.name x ≡ a → bytes_eq h.name y ≡ b → a || is_found x hs ≡ true → b || is_found y hs ≡ true → (is_found x hs ≡ true → is_found y hs ≡ true → register_at hs x ≢ register_at hs y)
        → unwrap_or (option_map register_of (cond a (Some h) (find (is_home x) hs))) 31 ≢ unwrap_or (option_map register_of (cond b (Some h) (find (is_home y) hs))) 31
    by true true p q f g more = absurd (ne (sym (bytes_eq-told h.name x p) ∙ bytes_eq-told h.name y q))
    by true false p q f g more = λ e. away_from h.register hs y s.0 g (sym e)
    by false true p q f g more = away_from h.register hs x s.0 f
    by false false p q f g more = more f g

-- what is held, by name
pub held_at : (hs : Homes) (ns : Names) (x : List ℕ) (s : State) → AreHeld hs ns s → is_found x hs ≡ true → x_at s (register_at hs x) ≡ word (value_at ns x)
held_at [] ns x s h f = absurd cc
held_at (g ∷ hs) [] x s h f = absurd h
held_at (g ∷ hs) (n ∷ ns) x s h f =
    subst (λ y. x_at s (register_at (g ∷ hs) x) ≡ word (unwrap_or (option_map value_of (cond (bytes_eq y x) (Some n) (find (is_named x) ns))) (pos 0))) (sym h.0)
    (by (bytes_eq g.name x) f (held_at hs ns x s h.2))
  where
    by : (b : Bool) → b || is_found x hs ≡ true → (is_found x hs ≡ true → x_at s (register_at hs x) ≡ word (value_at ns x))
        → x_at s (unwrap_or (option_map register_of (cond b (Some g) (find (is_home x) hs))) 31) ≡ word (unwrap_or (option_map value_of (cond b (Some n) (find (is_named x) ns))) (pos 0))
    by true f more = h.1
    by false f more = more f

-- ---- each name at its own place

abbrev pub home_name : Home → List ℕ
home_name h = h.name

abbrev pub named_name : Named → List ℕ
named_name n = n.name

-- each of these is found at its own register
abbrev pub AreAtHome : Homes → Homes → Type 0
AreAtHome all [] = Unit {0}
AreAtHome all (h ∷ hs) = (register_at all h.name ≡ h.register) × (is_found h.name all ≡ true) × AreAtHome all hs

home_later : (g : Home) (all hs : Homes) → Unlike g.name (map home_name hs) → AreAtHome all hs → AreAtHome (g ∷ all) hs
home_later g all [] u h = tt
home_later g all (x ∷ hs) u h = (
  ap (λ b. unwrap_or (option_map register_of (cond b (Some g) (find (is_home x.name) all))) 31) (bytes_swap x.name g.name u.0) ∙ h.0,
  ap (λ b. bytes_eq g.name x.name || b) h.1 ∙ or-true (bytes_eq g.name x.name),
  home_later g all hs u.1 h.2,
)

homes_own : (hs : Homes) → Distinct (map home_name hs) → AreAtHome hs hs
homes_own [] d = tt
homes_own (h ∷ hs) d = (
  ap (λ b. unwrap_or (option_map register_of (cond b (Some h) (find (is_home h.name) hs))) 31) (bytes_eq-refl h.name),
  ap (λ b. b || is_found h.name hs) (bytes_eq-refl h.name),
  home_later h hs hs d.0 (homes_own hs d.1),
)

-- each of these names has its own value
abbrev pub AreValues : Names → Names → Type 0
AreValues all [] = Unit {0}
AreValues all (n ∷ ns) = (value_at all n.name ≡ n.value) × AreValues all ns

value_later : (m : Named) (all ns : Names) → Unlike m.name (map named_name ns) → AreValues all ns → AreValues (m ∷ all) ns
value_later m all [] u h = tt
value_later m all (n ∷ ns) u h = (ap (λ b. unwrap_or (option_map value_of (cond b (Some m) (find (is_named n.name) all))) (pos 0)) (bytes_swap n.name m.name u.0) ∙ h.0, value_later m all ns u.1 h.1)

pub values_own : (ns : Names) → Distinct (map named_name ns) → AreValues ns ns
values_own [] d = tt
values_own (n ∷ ns) d = (ap (λ b. unwrap_or (option_map value_of (cond b (Some n) (find (is_named n.name) ns))) (pos 0)) (bytes_eq-refl n.name), value_later n ns ns d.0 (values_own ns d.1))

-- the same names
pub ranged_names : (ls : List Local) (ns : Names) → AreRanged ls ns → map local_name ls ≡ map named_name ns
ranged_names [] [] h = refl
ranged_names [] (n ∷ ns) h = absurd h
ranged_names (l ∷ ls) [] h = absurd h
ranged_names (l ∷ ls) (n ∷ ns) h = ap (λ x. x ∷ map local_name ls) (sym h.0) ∙ ap (λ r. n.name ∷ r) (ranged_names ls ns h.2)

held_names : (hs : Homes) (ns : Names) (s : State) → AreHeld hs ns s → map named_name ns ≡ map home_name hs
held_names [] [] s h = refl
held_names [] (n ∷ ns) s h = absurd h
held_names (g ∷ hs) [] s h = absurd h
held_names (g ∷ hs) (n ∷ ns) s h = ap (λ x. x ∷ map named_name ns) h.0 ∙ ap (λ r. g.name ∷ r) (held_names hs ns s h.2)

pub steady_names : (k : Program) (ms ns : Names) → Steady k ms ns → map named_name ms ≡ map named_name ns
steady_names k [] [] h = refl
steady_names k [] (n ∷ ns) h = absurd h
steady_names k (m ∷ ms) [] h = absurd h
steady_names k (m ∷ ms) (n ∷ ns) h = ap (λ x. x ∷ map named_name ms) h.0 ∙ ap (λ r. n.name ∷ r) (steady_names k ms ns h.2)

-- ---- of a kernel

pub record Settled (k : Program) (hs : Homes) : Type 0 where
  pub spaced : Spaced hs
  pub low : AreLow hs

pub settled : (k : Program) (c : Assignment) → FitsKernel k X c → length k.params ≤ 8 → Settled k (kernel_homes (register_in c) k)
settled k c fit few =
    let R = register_in c in
    let a = accumulators_of k R (chosen_all k c fit) in record {
      spaced = all_spaced k R a 0 k.params (omega (arith, few));
      low = low_append (param_homes 0 k.params) (var_homes R 0 k.vars) (params_low 0 k.params (omega (arith, few))) (vars_low k R a 0 k.vars (omega arith));
    }

var_found : (R : ℕ → ℕ) (j : ℕ) (vs : List Accumulator) (x : List ℕ) → list_any (is_var x) vs ≡ true → is_found x (var_homes R j vs) ≡ true
var_found R j [] x h = absurd cc
var_found R j (v ∷ vs) x h = by (bytes_eq v.name x) h (var_found R (j + 1) vs x)
  where
    by : (b : Bool) → b || list_any (is_var x) vs ≡ true → (list_any (is_var x) vs ≡ true → is_found x (var_homes R (j + 1) vs) ≡ true) → b || is_found x (var_homes R (j + 1) vs) ≡ true
    by true h more = refl
    by false h more = more h

found_following : (hs gs : Homes) (x : List ℕ) → is_found x gs ≡ true → is_found x (hs ++ gs) ≡ true
found_following [] gs x h = h
found_following (y ∷ hs) gs x h = ap (λ b. bytes_eq y.name x || b) (found_following hs gs x h) ∙ or-true (bytes_eq y.name x)

-- an accumulator is found
pub accumulator_found : (R : ℕ → ℕ) (k : Program) (x : List ℕ) → list_any (is_var x) k.vars ≡ true → is_found x (kernel_homes R k) ≡ true
accumulator_found R k x h = found_following (param_homes 0 k.params) (var_homes R 0 k.vars) x (var_found R 0 k.vars x h)

pub at_home : (k : Program) (hs : Homes) (ns : Names) (s : State) → check_fault k ≡ None → AreRanged (var_scope k).visible ns → AreHeld hs ns s → AreAtHome hs hs
at_home k hs ns s e r h = homes_own hs (subst Distinct (ranged_names (var_scope k).visible ns r ∙ held_names hs ns s h) (visible_distinct k e))

pub own_values : (k : Program) (ns : Names) → check_fault k ≡ None → AreRanged (var_scope k).visible ns → AreValues ns ns
own_values k ns e r = values_own ns (subst Distinct (ranged_names (var_scope k).visible ns r) (visible_distinct k e))
