-- Visible names and their homes.
use Rattle.std.proofs.Common.{◌≡◌, ◌≢◌, ℕ, suc, ◌<◌, ◌≤◌, Bool, true, false, cond, List, [], ◌∷◌, ◌++◌, length, Option, Some, None, refl, sym, ap, ◌∙◌, subst, arith}
use Rattle.std.specs.Prelude.{slice_get, option_map, option_and_then, unwrap_or, bytes_eq}
use Rattle.std.specs.List.{find}
use Rattle.std.proofs.lemmas.Option.{slice_get_within}
use Rattle.kernel_tree.specs.declared.ops.Ty.{Ty}
use Rattle.kernel_tree.specs.declared.ast.Shape.{Shape}
use Rattle.kernel_tree.specs.declared.fault.Binding.{Binding}
use Rattle.kernel_tree.specs.Plain.{Program}
use Rattle.kernel_tree.specs.Typing.{Local, has_name, binding_of, element_type, accumulator_type}
use Rattle.kernel_tree.proofs.Names.{bytes_eq-told}
use Rattle.loop_form.specs.Entries.{Entry}
use Rattle.loop_form.specs.Listing.{last_use_from}
use Rattle.scalar_words.specs.Layout.{Layout, Home, Homes, is_home, register_of, reg_of, last_use_at, IsMade, register_at, Lasts, LastsAt, NameLasts}
use Rattle.scalar_words.specs.Safe.{Others, OnlyIf, Only}
use Rattle.scalar_words.specs.KernelRegisters.{counted_x}
use Rattle.scalar_words.proofs.LayoutStates.{Assigned, IsSafe, AreSafe}
use Rattle.scalar_words.proofs.AssignedOf.{counted-low}
use Rattle.kernel_tree.specs.declared.ast.Shape.TheVariants as shape
use Rattle.kernel_tree.specs.declared.fault.Binding.TheVariants as binding

-- ---- homes of visible names

-- parameter n
abbrev pub IsParam : Program → ℕ → List ℕ → Shape → Type 0
IsParam k n x s = slice_get k.params n ≡ Some (record { name = x; shape = s })

-- the home of a `let` before item b
pub record LetHome (L : Layout) (all : List Entry) (b : ℕ) (h : Home) : Type 0 where
  pub item : ℕ
  pub before : item < b
  pub register' : h.register ≡ reg_of L item
  pub last_use' : h.last_use ≡ Some (last_use_at L item)
  pub from : ℕ
  pub last : last_use_at L item ≡ last_use_from h.name from all

-- the number of the next accumulator
abbrev pub next_number : ℕ → Binding → ℕ
next_number j (binding.Scalar t) = j
next_number j (binding.Array t) = j
next_number j (binding.Accumulator t) = suc j
next_number j (binding.Value t) = j
next_number j binding.Index = j

abbrev pub numbers : ℕ → List Local → ℕ
numbers j [] = j
numbers j (l ∷ ls) = numbers (next_number j l.binding) ls

-- accumulator n is not the one with number j, where the binding is one
abbrev pub IsOther : ℕ → Binding → ℕ → Type 0
IsOther j (binding.Scalar t) n = Unit {0}
IsOther j (binding.Array t) n = Unit {0}
IsOther j (binding.Accumulator t) n = j ≢ n
IsOther j (binding.Value t) n = Unit {0}
IsOther j binding.Index n = Unit {0}

before_other : (j n : ℕ) (bd : Binding) → next_number j bd ≤ n → IsOther j bd n
before_other j n (binding.Scalar t) le = tt
before_other j n (binding.Array t) le = tt
before_other j n (binding.Accumulator t) le = λ e. absurd (omega (arith, le, e))
before_other j n (binding.Value t) le = tt
before_other j n binding.Index le = tt

after_other : (j n : ℕ) (bd : Binding) → n < j → IsOther j bd n
after_other j n (binding.Scalar t) lt = tt
after_other j n (binding.Array t) lt = tt
after_other j n (binding.Accumulator t) lt = λ e. absurd (omega (arith, lt, e))
after_other j n (binding.Value t) lt = tt
after_other j n binding.Index lt = tt

next_more : (j : ℕ) (bd : Binding) → j ≤ next_number j bd
next_more j (binding.Scalar t) = omega arith
next_more j other = omega arith

numbers_more : (j : ℕ) (ls : List Local) → j ≤ numbers j ls
numbers_more j [] = omega arith
numbers_more j (l ∷ ls) = let m = next_more j l.binding in let r = numbers_more (next_number j l.binding) ls in omega (arith, m, r)

-- what the registers of accumulators are to each other and to those of items
pub record AccumulatorRegisters (R : ℕ → ℕ) (L : Layout) (accs : ℕ) : Type 0 where
  pub fit : Assigned L
  pub high : (n : ℕ) → n < accs → counted_x (R n) ≤ 25
  pub free : (n q : ℕ) → n < accs → IsMade L q → reg_of L q ≢ counted_x (R n)
  pub differ : (m n : ℕ) → m < accs → n < accs → m ≢ n → counted_x (R m) ≢ counted_x (R n)

module _ (k : Program) (R : ℕ → ℕ) (L : Layout) (all : List Entry) where
  -- the home of a name before item b; as an accumulator it has number j
  abbrev pub HomeIs : ℕ → ℕ → Binding → Home → Type 0
  HomeIs b j (binding.Scalar t) h = (h.last_use ≡ None) × IsParam k h.register h.name (shape.Scalar t)
  HomeIs b j (binding.Array t) h = (h.last_use ≡ None) × IsParam k h.register h.name (shape.Array t)
  HomeIs b j (binding.Accumulator t) h = (h.last_use ≡ None) × (h.register ≡ counted_x (R j)) × (j < length k.vars)
  HomeIs b j (binding.Value t) h = LetHome L all b h
  HomeIs b j binding.Index h = (h.last_use ≡ None) × (h.register ≡ 9)

  abbrev pub AreHomes : ℕ → ℕ → List Local → Homes → Type 0
  AreHomes b j [] [] = Unit {0}
  AreHomes b j [] (h ∷ hs) = ⊥
  AreHomes b j (l ∷ ls) [] = ⊥
  AreHomes b j (l ∷ ls) (h ∷ hs) = (h.name ≡ l.name) × HomeIs b j l.binding h × AreHomes b (next_number j l.binding) ls hs

  home_later : (b c j : ℕ) (bd : Binding) (h : Home) → b ≤ c → HomeIs b j bd h → HomeIs c j bd h
  home_later b c j (binding.Scalar t) h le is = is
  home_later b c j (binding.Array t) h le is = is
  home_later b c j (binding.Accumulator t) h le is = is
  home_later b c j (binding.Value t) h le is = let z = is.before in record { item = is.item; before = omega (arith, le, z); register' = is.register'; last_use' = is.last_use'; from = is.from; last = is.last }
  home_later b c j binding.Index h le is = is

  pub homes_later : (b c j : ℕ) (ls : List Local) (hs : Homes) → b ≤ c → AreHomes b j ls hs → AreHomes c j ls hs
  homes_later b c j [] [] le h = tt
  homes_later b c j [] (x ∷ hs) le h = absurd h
  homes_later b c j (l ∷ ls) [] le h = absurd h
  homes_later b c j (l ∷ ls) (x ∷ hs) le h = (h.0, home_later b c j l.binding x le h.1, homes_later b c (next_number j l.binding) ls hs le h.2)

  pub homes_on : (b j : ℕ) (ls ls2 : List Local) (hs hs2 : Homes) → AreHomes b j ls hs → AreHomes b (numbers j ls) ls2 hs2 → AreHomes b j (ls ++ ls2) (hs ++ hs2)
  homes_on b j [] ls2 [] hs2 h k = k
  homes_on b j [] ls2 (x ∷ hs) hs2 h k = absurd h
  homes_on b j (l ∷ ls) ls2 [] hs2 h k = absurd h
  homes_on b j (l ∷ ls) ls2 (x ∷ hs) hs2 h k = (h.0, h.1, homes_on b (next_number j l.binding) ls ls2 hs hs2 h.2 k)

  -- ---- the home of a name

  pub record IsAt (b : ℕ) (hs : Homes) (x : List ℕ) (bd : Binding) : Type 0 where
    pub home : Home
    pub is : find (is_home x) hs ≡ Some home
    pub named : home.name ≡ x
    pub number : ℕ
    pub what : HomeIs b number bd home

  at_step : (t : Bool) (b j : ℕ) (l : Local) (h : Home) (ls : List Local) (hs : Homes) (x : List ℕ) (bd : Binding) → has_name x l ≡ t → h.name ≡ l.name → HomeIs b j l.binding h → (option_map binding_of (find (has_name x) ls) ≡ Some bd → IsAt b hs x bd) → option_map binding_of (cond t (Some l) (find (has_name x) ls)) ≡ Some bd → IsAt b (h ∷ hs) x bd
  at_step true b j l h ls hs x bd e same is rest known =
      let f : is_home x h ≡ true = ap (λ y. bytes_eq y x) same ∙ e in
      let g : l.binding ≡ bd = cc in
      record { home = h; is = ap (λ c. cond c (Some h) (find (is_home x) hs)) f; named = bytes_eq-told h.name x f; number = j; what = subst (λ d. HomeIs b j d h) g is }
  at_step false b j l h ls hs x bd e same is rest known =
      let f : is_home x h ≡ false = ap (λ y. bytes_eq y x) same ∙ e in
      let r = rest known in
      record { home = r.home; is = ap (λ c. cond c (Some h) (find (is_home x) hs)) f ∙ r.is; named = r.named; number = r.number; what = r.what }

  pub is_at : (b j : ℕ) (ls : List Local) (hs : Homes) (x : List ℕ) (bd : Binding) → AreHomes b j ls hs → option_map binding_of (find (has_name x) ls) ≡ Some bd → IsAt b hs x bd
  is_at b j [] [] x bd h known = absurd cc
  is_at b j [] (y ∷ hs) x bd h known = absurd h
  is_at b j (l ∷ ls) [] x bd h known = absurd h
  is_at b j (l ∷ ls) (y ∷ hs) x bd h known =
      at_step (has_name x l) b j l y ls hs x bd refl h.0 h.1 (is_at b (next_number j l.binding) ls hs x bd h.2) known

  steady_lasts : (o : Option ℕ) (u : ℕ) → o ≡ None → Lasts o u
  steady_lasts o u e = subst (λ q. Lasts q u) (sym e) tt

  home_lasts : (b j u : ℕ) (bd : Binding) (h : Home) → HomeIs b j bd h → ((from : ℕ) → u ≤ last_use_from h.name from all) → Lasts h.last_use u
  home_lasts b j u (binding.Scalar t) h is uses = steady_lasts h.last_use u is.0
  home_lasts b j u (binding.Array t) h is uses = steady_lasts h.last_use u is.0
  home_lasts b j u (binding.Accumulator t) h is uses = steady_lasts h.last_use u is.0
  home_lasts b j u (binding.Value t) h is uses = let p = uses is.from in let q = is.last in subst (λ o. Lasts o u) (sym is.last_use') (omega (arith, p, q))
  home_lasts b j u binding.Index h is uses = steady_lasts h.last_use u is.0

  -- a name lasts up to each of its users
  pub name_lasts : (b u : ℕ) (hs : Homes) (x : List ℕ) (bd : Binding) → IsAt b hs x bd → ((from : ℕ) → u ≤ last_use_from x from all) → NameLasts hs x u
  name_lasts b u hs x bd at uses =
      subst (λ o. LastsAt o u) (sym at.is) (home_lasts b at.number u bd at.home at.what (λ from. subst (λ y. u ≤ last_use_from y from all) (sym at.named) (uses from)))

  array_home : (b j u : ℕ) (bd : Binding) (h : Home) (T : Ty) → element_type bd ≡ Some T → HomeIs b j bd h → Lasts h.last_use u
  array_home b j u (binding.Scalar t) h T e is = absurd cc
  array_home b j u (binding.Array t) h T e is = steady_lasts h.last_use u is.0
  array_home b j u (binding.Accumulator t) h T e is = absurd cc
  array_home b j u (binding.Value t) h T e is = absurd cc
  array_home b j u binding.Index h T e is = absurd cc

  pub array_lasts : (b u : ℕ) (hs : Homes) (x : List ℕ) (bd : Binding) (T : Ty) → element_type bd ≡ Some T → IsAt b hs x bd → NameLasts hs x u
  array_lasts b u hs x bd T e at = subst (λ o. LastsAt o u) (sym at.is) (array_home b at.number u bd at.home T e at.what)

  pub register_is : (b : ℕ) (hs : Homes) (x : List ℕ) (bd : Binding) (at : IsAt b hs x bd) → register_at hs x ≡ at.home.register
  register_is b hs x bd at = ap (λ o. unwrap_or (option_map register_of o) 31) at.is

  -- ---- registers that differ

  module _ (few : length k.params ≤ 8) (accumulators : AccumulatorRegisters R L (length k.vars)) where
    param_low : (n : ℕ) (x : List ℕ) (s : Shape) → IsParam k n x s → n < 8
    param_low n x s e = let w = slice_get_within k.params n _ e in omega (arith, w, few)

    -- the register of a needed name is not that of an accumulator
    home_apart : (b j n p : ℕ) (bd : Binding) (h : Home) → HomeIs b j bd h → IsOther j bd n → b ≤ p → n < length k.vars → Lasts h.last_use p → h.register ≢ counted_x (R n)
    home_apart b j n p (binding.Scalar t) h is other le lt l e = absurd (let w = param_low h.register h.name (shape.Scalar t) is.1 in let c = counted-low (R n) in omega (arith, w, c, e))
    home_apart b j n p (binding.Array t) h is other le lt l e = absurd (let w = param_low h.register h.name (shape.Array t) is.1 in let c = counted-low (R n) in omega (arith, w, c, e))
    home_apart b j n p (binding.Accumulator t) h is other le lt l e = accumulators.differ j n is.2 lt other (sym is.1 ∙ e)
    home_apart b j n p (binding.Value t) h is other le lt l e =
        let w : p ≤ last_use_at L is.item = subst (λ o. Lasts o p) is.last_use' l in
        let z = is.before in
        accumulators.free n is.item lt (omega (arith, w, z, le)) (sym is.register' ∙ e)
    home_apart b j n p binding.Index h is other le lt l e = absurd (let r = is.1 in let c = counted-low (R n) in omega (arith, r, c, e))

    pub others_of : (b j n p : ℕ) (ls : List Local) (hs : Homes) → AreHomes b j ls hs → n < j → b ≤ p → n < length k.vars → Others hs (counted_x (R n)) p
    others_of b j n p [] [] h lt le few2 = tt
    others_of b j n p [] (x ∷ hs) h lt le few2 = absurd h
    others_of b j n p (l ∷ ls) [] h lt le few2 = absurd h
    others_of b j n p (l ∷ ls) (x ∷ hs) h lt le few2 =
        let m = next_more j l.binding in
        ((λ lasts. home_apart b j n p l.binding x h.1 (after_other j n l.binding lt) le few2 lasts), others_of b (next_number j l.binding) n p ls hs h.2 (omega (arith, m, lt)) le few2)

    -- none of the accumulators among these has number n or a later one
    pub others_new : (b j n p : ℕ) (ls : List Local) (hs : Homes) → AreHomes b j ls hs → numbers j ls ≤ n → b ≤ p → n < length k.vars → Others hs (counted_x (R n)) p
    others_new b j n p [] [] h lt le few2 = tt
    others_new b j n p [] (x ∷ hs) h lt le few2 = absurd h
    others_new b j n p (l ∷ ls) [] h lt le few2 = absurd h
    others_new b j n p (l ∷ ls) (x ∷ hs) h lt le few2 =
        let m = numbers_more (next_number j l.binding) ls in
        ((λ lasts. home_apart b j n p l.binding x h.1 (before_other j n l.binding (omega (arith, m, lt))) le few2 lasts), others_new b (next_number j l.binding) n p ls hs h.2 lt le few2)

    -- the number of an accumulator by its name
    pub record IsVar (j : ℕ) (hs : Homes) (x : List ℕ) : Type 0 where
      pub number : ℕ
      pub from : j ≤ number
      pub within : number < length k.vars
      pub register' : register_at hs x ≡ counted_x (R number)

    var_home_of : (j : ℕ) (bd : Binding) (b : ℕ) (h : Home) (T : Ty) → accumulator_type bd ≡ Some T → HomeIs b j bd h → (h.register ≡ counted_x (R j)) × (j < length k.vars)
    var_home_of j (binding.Scalar t) b h T e is = absurd cc
    var_home_of j (binding.Array t) b h T e is = absurd cc
    var_home_of j (binding.Accumulator t) b h T e is = (is.1, is.2)
    var_home_of j (binding.Value t) b h T e is = absurd cc
    var_home_of j binding.Index b h T e is = absurd cc

    var_step : (t : Bool) (b j : ℕ) (l : Local) (h : Home) (ls : List Local) (hs : Homes) (x : List ℕ) (T : Ty) → has_name x l ≡ t → h.name ≡ l.name → HomeIs b j l.binding h → (option_and_then accumulator_type (option_map binding_of (find (has_name x) ls)) ≡ Some T → IsVar (next_number j l.binding) hs x) → option_and_then accumulator_type (option_map binding_of (cond t (Some l) (find (has_name x) ls))) ≡ Some T → IsVar j (h ∷ hs) x
    var_step true b j l h ls hs x T e same is rest known =
        let f : is_home x h ≡ true = ap (λ y. bytes_eq y x) same ∙ e in
        let v = var_home_of j l.binding b h T known is in
        record { number = j; from = omega arith; within = v.1; register' = ap (λ c. unwrap_or (option_map register_of (cond c (Some h) (find (is_home x) hs))) 31) f ∙ v.0 }
    var_step false b j l h ls hs x T e same is rest known =
        let f : is_home x h ≡ false = ap (λ y. bytes_eq y x) same ∙ e in
        let r = rest known in
        let le = r.from in
        let m = next_more j l.binding in
        record { number = r.number; from = omega (arith, le, m); within = r.within; register' = ap (λ c. unwrap_or (option_map register_of (cond c (Some h) (find (is_home x) hs))) 31) f ∙ r.register' }

    pub is_var : (b j : ℕ) (ls : List Local) (hs : Homes) (x : List ℕ) (T : Ty) → AreHomes b j ls hs → option_and_then accumulator_type (option_map binding_of (find (has_name x) ls)) ≡ Some T → IsVar j hs x
    is_var b j [] [] x T h known = absurd cc
    is_var b j [] (y ∷ hs) x T h known = absurd h
    is_var b j (l ∷ ls) [] x T h known = absurd h
    is_var b j (l ∷ ls) (y ∷ hs) x T h known = var_step (has_name x l) b j l y ls hs x T refl h.0 h.1 (is_var b (next_number j l.binding) ls hs x T h.2) known

    only_step : (t : Bool) (b j p : ℕ) (l : Local) (h : Home) (ls : List Local) (hs : Homes) (x : List ℕ) (T : Ty) → has_name x l ≡ t → h.name ≡ l.name → HomeIs b j l.binding h → AreHomes b (next_number j l.binding) ls hs → b ≤ p
        → ((r : ℕ) → option_and_then accumulator_type (option_map binding_of (find (has_name x) ls)) ≡ Some T → register_at hs x ≡ r → Only hs x r p) → (r : ℕ) → option_and_then accumulator_type (option_map binding_of (cond t (Some l) (find (has_name x) ls))) ≡ Some T → unwrap_or (option_map register_of (cond t (Some h) (find (is_home x) hs))) 31 ≡ r → OnlyIf t h hs r p (Only hs x r p)
    only_step true b j p l h ls hs x T e same is more le rest r known reg =
        let v = var_home_of j l.binding b h T known is in
        let n : next_number j l.binding ≡ suc j = var_next j l.binding T known in
        (reg, subst (λ q. Others hs q p) (sym v.0 ∙ reg) (others_of b (next_number j l.binding) j p ls hs more (omega (arith, n)) le v.1))
      where
        var_next : (j : ℕ) (bd : Binding) (T : Ty) → accumulator_type bd ≡ Some T → next_number j bd ≡ suc j
        var_next j (binding.Scalar t) T e = absurd cc
        var_next j (binding.Array t) T e = absurd cc
        var_next j (binding.Accumulator t) T e = refl
        var_next j (binding.Value t) T e = absurd cc
        var_next j binding.Index T e = absurd cc
    only_step false b j p l h ls hs x T e same is more le rest r known reg =
        let v = is_var b (next_number j l.binding) ls hs x T more known in
        ((λ lasts eq. home_apart b j v.number p l.binding h is (before_other j v.number l.binding v.from) le v.within lasts (eq ∙ sym reg ∙ v.register')), rest r known reg)

    -- the accumulator of an update has a register that no other name has which is needed then
    pub only_of : (b j p : ℕ) (ls : List Local) (hs : Homes) (x : List ℕ) (T : Ty) → AreHomes b j ls hs → b ≤ p → (r : ℕ) → option_and_then accumulator_type (option_map binding_of (find (has_name x) ls)) ≡ Some T → register_at hs x ≡ r → Only hs x r p
    only_of b j p [] [] x T h le r known reg = tt
    only_of b j p [] (y ∷ hs) x T h le r known reg = absurd h
    only_of b j p (l ∷ ls) [] x T h le r known reg = absurd h
    only_of b j p (l ∷ ls) (y ∷ hs) x T h le r known reg =
        let f : is_home x y ≡ has_name x l = ap (λ z. bytes_eq z x) h.0 in
        subst (λ t. OnlyIf t y hs r p (Only hs x r p)) (sym f)
        (only_step (has_name x l) b j p l y ls hs x T refl h.0 h.1 h.2 le (only_of b (next_number j l.binding) p ls hs x T h.2 le) r known (ap (λ t. unwrap_or (option_map register_of (cond t (Some y) (find (is_home x) hs))) 31) (sym f) ∙ reg))

    -- ---- registers that items leave alone

    home_safe : (b j p : ℕ) (bd : Binding) (h : Home) → HomeIs b j bd h → b ≤ p → IsSafe L p h
    home_safe b j p (binding.Scalar t) h is le =
        let w = param_low h.register h.name (shape.Scalar t) is.1 in
        record { high = λ l. omega (arith, w); apart = λ q lo l made eq. absurd (let f = accumulators.fit.low q made in omega (arith, w, f, eq)) }
    home_safe b j p (binding.Array t) h is le =
        let w = param_low h.register h.name (shape.Array t) is.1 in
        record { high = λ l. omega (arith, w); apart = λ q lo l made eq. absurd (let f = accumulators.fit.low q made in omega (arith, w, f, eq)) }
    home_safe b j p (binding.Accumulator t) h is le =
        let r = is.1 in
        record { high = λ l. let w = accumulators.high j is.2 in omega (arith, w, r); apart = λ q lo l made eq. accumulators.free j q is.2 made (eq ∙ r) }
    home_safe b j p (binding.Value t) h is le =
        let r = is.register' in
        let z = is.before in
        record {
          high = λ l. let u : p ≤ last_use_at L is.item = subst (λ o. Lasts o p) is.last_use' l in let w = accumulators.fit.high is.item (omega (arith, u, z, le)) in omega (arith, w, r);
          apart = λ q lo l made eq. let u : suc q ≤ last_use_at L is.item = subst (λ o. Lasts o (suc q)) is.last_use' l in accumulators.fit.apart q is.item (omega (arith, z, le, lo)) (omega (arith, u)) made (eq ∙ r);
        }
    home_safe b j p binding.Index h is le =
        let r = is.1 in
        record { high = λ l. omega (arith, r); apart = λ q lo l made eq. absurd (let f = accumulators.fit.low q made in omega (arith, r, f, eq)) }

    pub are_safe : (b j p : ℕ) (ls : List Local) (hs : Homes) → AreHomes b j ls hs → b ≤ p → AreSafe L p hs
    are_safe b j p [] [] h le = tt
    are_safe b j p [] (x ∷ hs) h le = absurd h
    are_safe b j p (l ∷ ls) [] h le = absurd h
    are_safe b j p (l ∷ ls) (x ∷ hs) h le = (home_safe b j p l.binding x h.1 le, are_safe b (next_number j l.binding) p ls hs h.2 le)
