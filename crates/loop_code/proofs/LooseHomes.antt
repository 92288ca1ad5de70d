-- Names that a loop holds loosely have registers of their own.
use Rattle.std.proofs.Common.{◌≡◌, ◌≢◌, ℕ, ◌+◌, ◌<◌, ◌≤◌, Bool, true, false, cond, List, [], ◌∷◌, ◌++◌, length, Option, Some, None, refl, sym, subst, arith}
use Rattle.std.specs.Prelude.{option_map, option_and_then, unwrap_or, bytes_eq}
use Rattle.std.specs.List.{find}
use Rattle.kernel_tree.specs.declared.ops.Ty.{Ty}
use Rattle.kernel_tree.specs.declared.fault.Binding.{Binding}
use Rattle.kernel_tree.specs.Plain.{Parameter, Accumulator, PlainLoop, Program}
use Rattle.kernel_tree.specs.Items.{term_size, loop_index}
use Rattle.kernel_tree.specs.Scopes.{locals_of, accs_of}
use Rattle.kernel_tree.specs.Typing.{Scope, Local, Value, binding_of_shape, lookup, element_type, accumulator_type, insert_name, declared, faults, twice, vars_faults, params_faults, empty, param_scope, check_fault}
use Rattle.kernel_tree.proofs.Faultless.{nil-left, nil-right, params_faultless, vars_faultless}
use Rattle.kernel_tree.proofs.NoFault.{not_added}
use Rattle.kernel_tree.proofs.Names.{bytes_swap, bytes_eq-told, NoName, NoneNamed, vars_named, Untaken, untaken_before}
use Rattle.loop_form.specs.Entries.{Entry}
use Rattle.scalar_words.specs.KernelRegisters.{counted_x, param_homes, var_homes, kernel_homes}
use Rattle.scalar_words.specs.Layout.{Form, LowBits, Ahead, Behind, Loose, Layout, Home, Homes, is_home, register_of, register_at, LastsAt, NameLasts}
use Rattle.scalar_words.specs.Safe.{Others, OnlyIf, Only}
use Rattle.scalar_words.proofs.AssignedOf.{counted-low}
use Rattle.scalar_words.proofs.NameHomes.{AccumulatorRegisters, AreHomes, IsAt, is_at, array_lasts}
use Rattle.loop_code.specs.Loop.{index_home, with_index, NoHome, IsOnce, IsFormed, AreHeldLoosely}
use Rattle.loop_code.proofs.LooseBlocks.{AreFormed, AreNamedOnce}
use Rattle.kernel_tree.specs.declared.fault.Binding.TheVariants as binding

-- ---- names that no others have

pub no_home-append : (x : List ℕ) (hs gs : Homes) → NoHome x hs → NoHome x gs → NoHome x (hs ++ gs)
no_home-append x [] gs h k = k
no_home-append x (y ∷ hs) gs h k = (h.0, no_home-append x hs gs h.1 k)

pub no_param_home : (x : List ℕ) (n : ℕ) (ps : List Parameter) → NoName x (locals_of ps) → NoHome x (param_homes n ps)
no_param_home x n [] h = tt
no_param_home x n (p ∷ ps) h = (h.0, no_param_home x (n + 1) ps h.1)

pub no_var_home : (x : List ℕ) (R : ℕ → ℕ) (j : ℕ) (vs : List Accumulator) → NoName x (accs_of vs) → NoHome x (var_homes R j vs)
no_var_home x R j [] h = tt
no_var_home x R j (v ∷ vs) h = (h.0, no_var_home x R (j + 1) vs h.1)

-- locals of different names
abbrev pub HaveOwnNames : List Local → Type 0
HaveOwnNames [] = Unit {0}
HaveOwnNames (v ∷ vs) = NoName v.name vs × HaveOwnNames vs

-- locals whose names are not taken
abbrev AreFree : List (List ℕ) → List Local → Type 0
AreFree taken [] = Unit {0}
AreFree taken (v ∷ vs) = Untaken v.name taken × AreFree taken vs

free_before : (y : List ℕ) (taken : List (List ℕ)) (vs : List Local) → AreFree (insert_name taken y) vs → AreFree taken vs × NoName y vs
free_before y taken [] h = (tt, tt)
free_before y taken (v ∷ vs) h =
    let one = untaken_before v.name y taken h.0 in
    let more = free_before y taken vs h.1 in
    ((one.0, more.0), (bytes_swap y v.name one.1, more.1))

vars_free : (vs : List Accumulator) (s : Scope) (from : ℕ) → vars_faults s from vs ≡ [] → AreFree s.taken (accs_of vs) × HaveOwnNames (accs_of vs)
vars_free [] s from e = (tt, tt)
vars_free (v ∷ vs) s from e =
    let item : ℕ = from + term_size s.index v.init in
    let r = nil-right (faults s from (Value (Some v.type)) v.init) _ e in
    let more = vars_free vs (declared s v.name (binding.Accumulator v.type)) (item + 1) (nil-right (twice item s v.name) _ r) in
    let free = free_before v.name s.taken (accs_of vs) more.0 in
    ((not_added _ _ (nil-left (twice item s v.name) _ r), free.0), (free.1, more.1))

params_free : (ps : List Parameter) (s : Scope) (from : ℕ) → params_faults s from ps ≡ [] → AreFree s.taken (locals_of ps) × HaveOwnNames (locals_of ps)
params_free [] s from e = (tt, tt)
params_free (p ∷ ps) s from e =
    let more = params_free ps (declared s p.name (binding_of_shape p.shape)) (from + 1) (nil-right (twice from s p.name) _ e) in
    let free = free_before p.name s.taken (locals_of ps) more.0 in
    ((not_added _ _ (nil-left (twice from s p.name) _ e), free.0), (free.1, more.1))

-- ---- homes of different names

abbrev pub AreNamed : Homes → Type 0
AreNamed [] = Unit {0}
AreNamed (h ∷ hs) = NoHome h.name hs × AreNamed hs

param_vars : (p : Parameter) (ps : List Parameter) (vs : List Accumulator) → NoneNamed (p ∷ ps) vs → NoName p.name (accs_of vs) × NoneNamed ps vs
param_vars p ps [] h = (tt, tt)
param_vars p ps (v ∷ vs) h = let k = param_vars p ps vs h.1 in ((bytes_swap p.name v.name h.0.0, k.0), (h.0.1, k.1))

vars_homes_named : (R : ℕ → ℕ) (j : ℕ) (vs : List Accumulator) → HaveOwnNames (accs_of vs) → AreNamed (var_homes R j vs)
vars_homes_named R j [] h = tt
vars_homes_named R j (v ∷ vs) h = (no_var_home v.name R (j + 1) vs h.0, vars_homes_named R (j + 1) vs h.1)

homes_named : (R : ℕ → ℕ) (n : ℕ) (ps : List Parameter) (vs : List Accumulator) → HaveOwnNames (locals_of ps) → HaveOwnNames (accs_of vs) → NoneNamed ps vs → AreNamed (param_homes n ps ++ var_homes R 0 vs)
homes_named R n [] vs h k none = vars_homes_named R 0 vs k
homes_named R n (p ∷ ps) vs h k none =
    let parts = param_vars p ps vs none in
    (no_home-append p.name (param_homes (n + 1) ps) (var_homes R 0 vs) (no_param_home p.name (n + 1) ps h.0) (no_var_home p.name R 0 vs parts.0), homes_named R (n + 1) ps vs h.1 k parts.1)

pub kernel_named : (R : ℕ → ℕ) (k : Program) → check_fault k ≡ None → AreNamed (kernel_homes R k)
kernel_named R k e = homes_named R 0 k.params k.vars (params_free k.params (empty (loop_index k)) 0 (params_faultless k e)).1 (vars_free k.vars (param_scope k) _ (vars_faultless k e)).1 (vars_named k e)

named_last : (hs : Homes) (g : Home) → AreNamed hs → NoHome g.name hs → AreNamed (hs ++ g ∷ [])
named_last [] g h free = (tt, tt)
named_last (y ∷ hs) g h free = (no_home-append y.name hs (g ∷ []) h.0 (bytes_swap y.name g.name free.0, tt), named_last hs g h.1 free.1)

once_step : (b : Bool) (x : List ℕ) (y : Home) (hs : Homes) → bytes_eq y.name x ≡ b → NoHome y.name hs → IsOnce hs x → cond b (NoHome x hs) (IsOnce hs x)
once_step true x y hs e free more = subst (λ z. NoHome z hs) (bytes_eq-told y.name x e) free
once_step false x y hs e free more = more

once_of : (hs : Homes) (x : List ℕ) → AreNamed hs → IsOnce hs x
once_of [] x h = tt
once_of (y ∷ hs) x h = once_step (is_home x y) x y hs refl h.0 (once_of hs x h.1)

-- ---- homes in different registers

abbrev pub NoRegister : ℕ → Homes → Type 0
NoRegister r [] = Unit {0}
NoRegister r (h ∷ hs) = (h.register ≢ r) × NoRegister r hs

abbrev pub AreDistinct : Homes → Type 0
AreDistinct [] = Unit {0}
AreDistinct (h ∷ hs) = NoRegister h.register hs × AreDistinct hs

no_register-append : (r : ℕ) (hs gs : Homes) → NoRegister r hs → NoRegister r gs → NoRegister r (hs ++ gs)
no_register-append r [] gs h k = k
no_register-append r (y ∷ hs) gs h k = (h.0, no_register-append r hs gs h.1 k)

distinct_last : (hs : Homes) (g : Home) → AreDistinct hs → NoRegister g.register hs → AreDistinct (hs ++ g ∷ [])
distinct_last [] g h free = (tt, tt)
distinct_last (y ∷ hs) g h free = (no_register-append y.register hs (g ∷ []) h.0 ((λ e. free.0 (sym e)), tt), distinct_last hs g h.1 free.1)

param_registers : (r n : ℕ) (ps : List Parameter) → (n ≤ r → n + length ps ≤ r) → NoRegister r (param_homes n ps)
param_registers r n [] f = tt
param_registers r n (p ∷ ps) f = ((λ e. absurd (let g = f (omega (arith, e)) in omega (arith, e, g))), param_registers r (n + 1) ps (λ le. let g = f (omega (arith, le)) in omega (arith, g)))

var_registers : (R : ℕ → ℕ) (r j : ℕ) (vs : List Accumulator) → r < 10 → NoRegister r (var_homes R j vs)
var_registers R r j [] lt = tt
var_registers R r j (v ∷ vs) lt = ((λ e. absurd (let c = counted-low (R j) in omega (arith, c, e, lt))), var_registers R r (j + 1) vs lt)

module _ (R : ℕ → ℕ) (L : Layout) (accs : ℕ) (accumulators : AccumulatorRegisters R L accs) where
  number_apart : (i j : ℕ) (vs : List Accumulator) → i < j → j + length vs ≤ accs → NoRegister (counted_x (R i)) (var_homes R j vs)
  number_apart i j [] lt le = tt
  number_apart i j (v ∷ vs) lt le = (accumulators.differ j i (omega (arith, le)) (omega (arith, lt, le)) (λ e. absurd (omega (arith, e, lt))), number_apart i (j + 1) vs (omega (arith, lt)) (omega (arith, le)))

  vars_distinct : (j : ℕ) (vs : List Accumulator) → j + length vs ≤ accs → AreDistinct (var_homes R j vs)
  vars_distinct j [] le = tt
  vars_distinct j (v ∷ vs) le = (number_apart j (j + 1) vs (omega arith) (omega (arith, le)), vars_distinct (j + 1) vs (omega (arith, le)))

  homes_distinct : (n : ℕ) (ps : List Parameter) (vs : List Accumulator) → n + length ps ≤ 9 → length vs ≤ accs → AreDistinct (param_homes n ps ++ var_homes R 0 vs)
  homes_distinct n [] vs few le = vars_distinct 0 vs (omega (arith, le))
  homes_distinct n (p ∷ ps) vs few le =
      (no_register-append n (param_homes (n + 1) ps) (var_homes R 0 vs) (param_registers n (n + 1) ps (λ e. absurd (omega (arith, e)))) (var_registers R n 0 vs (omega (arith, few))), homes_distinct (n + 1) ps vs (omega (arith, few)) le)

others_from : (hs : Homes) (r p : ℕ) → NoRegister r hs → Others hs r p
others_from [] r p h = tt
others_from (y ∷ hs) r p h = ((λ lasts. h.0), others_from hs r p h.1)

other_register_of_cons : (b : Bool) (y : Home) (hs : Homes) (x : List ℕ) (p r : ℕ) → y.register ≢ r → LastsAt (cond b (Some y) (find (is_home x) hs)) p → (NameLasts hs x p → register_at hs x ≢ r) → unwrap_or (option_map register_of (cond b (Some y) (find (is_home x) hs))) 31 ≢ r
other_register_of_cons true y hs x p r ne lasts more = ne
other_register_of_cons false y hs x p r ne lasts more = more lasts

found_other : (hs : Homes) (x : List ℕ) (p r : ℕ) → NoRegister r hs → NameLasts hs x p → register_at hs x ≢ r
found_other [] x p r h lasts = absurd lasts
found_other (y ∷ hs) x p r h lasts = other_register_of_cons (is_home x y) y hs x p r h.0 lasts (found_other hs x p r h.1)

only_step : (b : Bool) (y : Home) (hs : Homes) (x : List ℕ) (p : ℕ) → NoRegister y.register hs → LastsAt (cond b (Some y) (find (is_home x) hs)) p → (NameLasts hs x p → Only hs x (register_at hs x) p)
    → OnlyIf b y hs (unwrap_or (option_map register_of (cond b (Some y) (find (is_home x) hs))) 31) p (Only hs x (unwrap_or (option_map register_of (cond b (Some y) (find (is_home x) hs))) 31) p)
only_step true y hs x p free lasts more = (refl, others_from hs y.register p free)
only_step false y hs x p free lasts more = ((λ l e. found_other hs x p y.register free lasts (sym e)), more lasts)

only_from : (hs : Homes) (x : List ℕ) (p : ℕ) → AreDistinct hs → NameLasts hs x p → Only hs x (register_at hs x) p
only_from [] x p h lasts = tt
only_from (y ∷ hs) x p h lasts = only_step (is_home x y) y hs x p h.0 lasts (only_from hs x p h.1)

-- ---- what a name stands for

record IsOne (f : Binding → Option Ty) (o : Option Binding) (T : Ty) : Type 0 where
  bd : Binding
  known : o ≡ Some bd
  kind : f bd ≡ Some T

one_of : (f : Binding → Option Ty) (o : Option Binding) (T : Ty) → option_and_then f o ≡ Some T → IsOne f o T
one_of f None T e = absurd cc
one_of f (Some bd) T e = record { bd = bd; known = refl; kind = e }

steady : (h : Home) (p : ℕ) → h.last_use ≡ None → LastsAt (Some h) p
steady h p u = subst (λ o. LastsAt (Some (record { name = h.name; register = h.register; last_use = o })) p) (sym u) tt

module _ (k : Program) (R : ℕ → ℕ) (L : Layout) (all : List Entry) where
  -- an accumulator is held throughout
  pub var_lasts : (hs : Homes) (b p : ℕ) (x : List ℕ) (bd : Binding) (T : Ty) → accumulator_type bd ≡ Some T → IsAt k R L all b hs x bd → NameLasts hs x p
  var_lasts hs b p x (binding.Scalar t) T e at = absurd cc
  var_lasts hs b p x (binding.Array t) T e at = absurd cc
  var_lasts hs b p x (binding.Accumulator t) T e at = subst (λ o. LastsAt o p) (sym at.is) (steady at.home p at.what.0)
  var_lasts hs b p x (binding.Value t) T e at = absurd cc
  var_lasts hs b p x binding.Index T e at = absurd cc

  -- names in a scope of a loop
  module _ (hs : Homes) (s : Scope) (b : ℕ) (are : AreHomes k R L all b 0 s.visible hs) (index : (x : List ℕ) → s.index ≡ Some x → NameLasts hs x b) (named : AreNamed hs) (distinct : AreDistinct hs) where
    form_lasts : (f : Form) (x : List ℕ) → IsFormed s x f → NameLasts hs x b
    form_lasts (LowBits t) x is =
        let one = one_of accumulator_type (lookup s x) t is in
        var_lasts hs b b x one.bd t one.kind (is_at k R L all b 0 s.visible hs x one.bd are one.known)
    form_lasts (Ahead t) x is =
        let one = one_of element_type (lookup s x) t is in
        array_lasts k R L all b b hs x one.bd t one.kind (is_at k R L all b 0 s.visible hs x one.bd are one.known)
    form_lasts Behind x is = index x is

    pub held_loose : (ls : List Loose) → AreFormed s ls → AreNamedOnce ls → AreHeldLoosely hs s b ls
    held_loose [] h o = tt
    held_loose (x ∷ ls) h o =
        let lasts = form_lasts x.form x.name h.0 in
        ((h.0, (lasts, only_from hs x.name b distinct lasts), once_of hs x.name named, o.0), held_loose ls h.1 o.1)

-- ---- the homes in a loop

pub loop_named : (R : ℕ → ℕ) (k : Program) (l : PlainLoop) → check_fault k ≡ None → NoHome l.index (kernel_homes R k) → AreNamed (with_index (kernel_homes R k) l)
loop_named R k l e alone = named_last (kernel_homes R k) (index_home l.index) (kernel_named R k e) alone

pub loop_distinct : (R : ℕ → ℕ) (k : Program) (L : Layout) (l : PlainLoop) → length k.params ≤ 8 → AccumulatorRegisters R L (length k.vars) → AreDistinct (with_index (kernel_homes R k) l)
loop_distinct R k L l few accumulators =
    distinct_last (kernel_homes R k) (index_home l.index) (homes_distinct R L (length k.vars) accumulators 0 k.params k.vars (omega (arith, few)) (omega arith))
    (no_register-append 9 (param_homes 0 k.params) (var_homes R 0 k.vars) (param_registers 9 0 k.params (λ e. omega (arith, few))) (var_registers R 9 0 k.vars (omega arith)))
