-- Where the visible names of a loop's body are held: parameters, the loop variable, and `let`s in the registers of their items.
use Rattle.std.proofs.Common.{◌≡◌, ℕ, suc, ◌+◌, ◌<◌, ◌≤◌, pos, Bool, true, false, cond, List, [], ◌∷◌, ◌++◌, Option, Some, None, refl, sym, ap, ◌∙◌, subst, arith}
use Rattle.std.specs.Prelude.{slice_get, option_map, option_and_then, bytes_eq}
use Rattle.std.specs.List.{find}
use Rattle.kernel_tree.specs.declared.ops.Ty.{Ty}
use Rattle.kernel_tree.specs.declared.ast.Shape.{Shape}
use Rattle.kernel_tree.specs.declared.fault.Binding.{Binding}
use Rattle.kernel_tree.specs.Plain.{Parameter, Accumulator, PlainLoop, Program}
use Rattle.kernel_tree.specs.Items.{loop_index, index_of}
use Rattle.kernel_tree.specs.Typing.{Local, local, has_name, binding_of, binding_of_shape, element_type}
use Rattle.kernel_tree.proofs.Names.{bytes_eq-told}
use Rattle.kernel_tree.specs.Scopes.{locals_of, accs_of}
use Rattle.reg_assign.specs.declared.interval.RegClass.TheVariants.{Z}
use Rattle.loop_form.specs.declared.loop_item.Operand.{Operand}
use Rattle.loop_form.specs.declared.loop_item.Operand.TheVariants.{Constant, Outer, LoopIndex, Made}
use Rattle.loop_form.specs.Entries.{entries_of}
use Rattle.loop_form.specs.Lanes.{var_type}
use Rattle.loop_form.specs.Listing.{last_use_from}
use Rattle.loop_form.specs.LoopItems.{Bound, bound, operand_at, outer_env}
use Rattle.loop_form.specs.Streams.{elements_of, type_of_place}
use Rattle.chunk_emit.specs.KernelLayout.{operand_type, item_last_use}
use Rattle.kernel_tree.specs.declared.ast.Shape.TheVariants as shape
use Rattle.kernel_tree.specs.declared.fault.Binding.TheVariants as binding

-- what a visible name stands for
abbrev pub binding_at : List Local → List ℕ → Option Binding
binding_at vs x = option_map binding_of (find (has_name x) vs)

-- a `let` before item b, held until its last use
pub record LetHome (k : Program) (b : ℕ) (x : List ℕ) (t : Ty) (s : Operand) : Type 0 where
  pub item : ℕ
  pub is : s ≡ Made item
  pub before : item < b
  pub type : operand_type k (Made item) ≡ t
  pub from : ℕ
  pub last_use : item_last_use k Z item ≡ last_use_from x from (entries_of k)

-- where the value of a name is held before item b; an accumulator is known by its type
abbrev pub HomeIs : Program → ℕ → List ℕ → Binding → Operand → Type 0
HomeIs k b x (binding.Scalar t) s = (p : ℕ) × (s ≡ Outer p) × (slice_get k.params p ≡ Some (record { name = x; shape = shape.Scalar t }))
HomeIs k b x (binding.Array t) s = (p : ℕ) × (s ≡ Outer p) × (type_of_place k.params p ≡ Some t)
HomeIs k b x (binding.Accumulator t) s = var_type x k.vars ≡ Some t
HomeIs k b x (binding.Value t) s = LetHome k b x t s
HomeIs k b x binding.Index s = (s ≡ LoopIndex) × (loop_index k ≡ Some x)

-- the same names in the same order
abbrev pub AreNamed : List Local → List Bound → Type 0
AreNamed [] [] = Unit {0}
AreNamed [] (e ∷ env) = ⊥
AreNamed (l ∷ ls) [] = ⊥
AreNamed (l ∷ ls) (e ∷ env) = (e.name ≡ l.name) × AreNamed ls env

-- the homes of all visible names before item b
pub record Names (k : Program) (b : ℕ) (vs : List Local) (env : List Bound) : Type 0 where
  pub named : AreNamed vs env
  pub home : (x : List ℕ) (bd : Binding) → binding_at vs x ≡ Some bd → HomeIs k b x bd (operand_at env x)

home_later : (k : Program) (b c : ℕ) (x : List ℕ) (bd : Binding) (s : Operand) → b ≤ c → HomeIs k b x bd s → HomeIs k c x bd s
home_later k b c x (binding.Scalar t) s le h = h
home_later k b c x (binding.Array t) s le h = h
home_later k b c x (binding.Accumulator t) s le h = h
home_later k b c x (binding.Value t) s le h = let z = h.before in record { item = h.item; is = h.is; before = omega (arith, le, z); type = h.type; from = h.from; last_use = h.last_use }
home_later k b c x binding.Index s le h = h

pub names_later : (k : Program) (b c : ℕ) (vs : List Local) (env : List Bound) → b ≤ c → Names k b vs env → Names k c vs env
names_later k b c vs env le n = record { named = n.named; home = λ x bd e. home_later k b c x bd (operand_at env x) le (n.home x bd e) }

-- ---- after a `let`

named_on : (vs us : List Local) (env fs : List Bound) → AreNamed vs env → AreNamed us fs → AreNamed (vs ++ us) (env ++ fs)
named_on [] us [] fs h g = g
named_on [] us (e ∷ env) fs h g = elim h [ ]
named_on (v ∷ vs) us [] fs h g = elim h [ ]
named_on (v ∷ vs) us (e ∷ env) fs h g = (h.0, named_on vs us env fs h.1 g)

-- a name is found among the first names, with its home, or it is the last one
data Found (vs : List Local) (env : List Bound) (x y : List ℕ) (new bd : Binding) (s : Operand) : Type 0 where
  before : binding_at vs x ≡ Some bd → operand_at (env ++ bound y s ∷ []) x ≡ operand_at env x → Found vs env x y new bd s
  last : y ≡ x → new ≡ bd → operand_at (env ++ bound y s ∷ []) x ≡ s → Found vs env x y new bd s

found_last : (x y : List ℕ) (new bd : Binding) (s : Operand) (b : Bool) → bytes_eq y x ≡ b → option_map binding_of (cond b (Some (local y new)) None) ≡ Some bd → (y ≡ x) × (new ≡ bd) × (cond b s (Constant None (pos 0)) ≡ s)
found_last x y new bd s true e f = (bytes_eq-told y x e, cc, refl)
found_last x y new bd s false e f = absurd cc

binding_found_of_cons : (l : Local) (vs : List Local) (e : Bound) (env : List Bound) (x y : List ℕ) (new bd : Binding) (s : Operand) (b : Bool) → bytes_eq l.name x ≡ b → bytes_eq e.name x ≡ b → (binding_at (vs ++ local y new ∷ []) x ≡ Some bd → Found vs env x y new bd s)
    → option_map binding_of (cond b (Some l) (find (has_name x) (vs ++ local y new ∷ []))) ≡ Some bd → Found (l ∷ vs) (e ∷ env) x y new bd s
binding_found_of_cons l vs e env x y new bd s true g h more f =
    before (ap (λ t. option_map binding_of (cond t (Some l) (find (has_name x) vs))) g ∙ f)
    (ap (λ t. cond t e.source (operand_at (env ++ bound y s ∷ []) x)) h ∙ sym (ap (λ t. cond t e.source (operand_at env x)) h))
binding_found_of_cons l vs e env x y new bd s false g h more f = by (more f)
  where
    by : Found vs env x y new bd s → Found (l ∷ vs) (e ∷ env) x y new bd s
    by (before i j) =
        before (ap (λ t. option_map binding_of (cond t (Some l) (find (has_name x) vs))) g ∙ i)
        (ap (λ t. cond t e.source (operand_at (env ++ bound y s ∷ []) x)) h ∙ j ∙ sym (ap (λ t. cond t e.source (operand_at env x)) h))
    by (last i j m) = last i j (ap (λ t. cond t e.source (operand_at (env ++ bound y s ∷ []) x)) h ∙ m)

binding_found : (vs : List Local) (env : List Bound) (x y : List ℕ) (new bd : Binding) (s : Operand) → AreNamed vs env → binding_at (vs ++ local y new ∷ []) x ≡ Some bd → Found vs env x y new bd s
binding_found [] [] x y new bd s h f =
    let r = found_last x y new bd s (bytes_eq y x) refl f in
    last r.0 r.1 r.2
binding_found [] (e ∷ env) x y new bd s h f = elim h [ ]
binding_found (l ∷ vs) [] x y new bd s h f = elim h [ ]
binding_found (l ∷ vs) (e ∷ env) x y new bd s h f = binding_found_of_cons l vs e env x y new bd s (bytes_eq l.name x) refl (ap (λ z. bytes_eq z x) h.0) (binding_found vs env x y new bd s h.1) f

pub names_more : (k : Program) (b c : ℕ) (vs : List Local) (env : List Bound) (y : List ℕ) (t : Ty) (q : ℕ) → b ≤ c → Names k b vs env → LetHome k c y t (Made q) → Names k c (vs ++ local y (binding.Value t) ∷ []) (env ++ bound y (Made q) ∷ [])
names_more k b c vs env y t q le n let_home = record {
  named = named_on vs (local y (binding.Value t) ∷ []) env (bound y (Made q) ∷ []) n.named (refl, tt);
  home = λ x bd e. by x bd (binding_found vs env x y (binding.Value t) bd (Made q) n.named e);
}
  where
    by : (x : List ℕ) (bd : Binding) → Found vs env x y (binding.Value t) bd (Made q) → HomeIs k c x bd (operand_at (env ++ bound y (Made q) ∷ []) x)
    by x bd (before i j) = subst (HomeIs k c x bd) (sym j) (home_later k b c x bd (operand_at env x) le (n.home x bd i))
    by x bd (last i j m) = subst (λ d. HomeIs k c x d (operand_at (env ++ bound y (Made q) ∷ []) x)) j (subst (LetHome k c x t) (sym m) (subst (λ z. LetHome k c z t (Made q)) i let_home))

-- ---- at the head of the loop

named_outer : (n : ℕ) (vs : List Local) → AreNamed vs (outer_env n vs)
named_outer n [] = tt
named_outer n (v ∷ vs) = (refl, named_outer (suc n) vs)

-- a parameter
shape_home : (k : Program) (b n : ℕ) (x : List ℕ) (q : Parameter) (bd : Binding) (s : Shape) → q.shape ≡ s → q.name ≡ x → slice_get k.params n ≡ Some q → Some (binding_of_shape s) ≡ Some bd → HomeIs k b x bd (Outer n)
shape_home k b n x q bd (shape.Scalar t) e named at f =
    let same : binding.Scalar t ≡ bd = cc in
    subst (λ d. HomeIs k b x d (Outer n)) same
    (n, refl, at ∙ ap (λ i. Some (record { name = i; shape = q.shape })) named ∙ ap (λ i. Some (record { name = x; shape = i })) e)
shape_home k b n x q bd (shape.Array t) e named at f =
    let same : binding.Array t ≡ bd = cc in
    subst (λ d. HomeIs k b x d (Outer n)) same
    (n, refl, ap (option_and_then elements_of) at ∙ ap (λ s. element_type (binding_of_shape s)) e)

index_home : (k : Program) (b : ℕ) (x index : List ℕ) (bd : Binding) (t : Bool) → loop_index k ≡ Some index → bytes_eq index x ≡ t → option_map binding_of (cond t (Some (local index binding.Index)) None) ≡ Some bd → HomeIs k b x bd (cond t LoopIndex (Constant None (pos 0)))
index_home k b x index bd true loop e f =
    let same : binding.Index ≡ bd = cc in
    subst (λ d. HomeIs k b x d LoopIndex) same (refl, loop ∙ ap Some (bytes_eq-told index x e))
index_home k b x index bd false loop e f = absurd cc

abbrev pub head_locals : List Parameter → List Accumulator → List ℕ → List Local
head_locals ps vs index = (locals_of ps ++ accs_of vs) ++ local index binding.Index ∷ []

abbrev pub head_env : ℕ → List Parameter → List Accumulator → List ℕ → List Bound
head_env n ps vs index = outer_env n (locals_of ps ++ accs_of vs) ++ bound index LoopIndex ∷ []

vars_home : (k : Program) (b n : ℕ) (vs : List Accumulator) (index x : List ℕ) (bd : Binding) → loop_index k ≡ Some index → var_type x vs ≡ var_type x k.vars → binding_at (head_locals [] vs index) x ≡ Some bd → HomeIs k b x bd (operand_at (head_env n [] vs index) x)
vars_home k b n [] index x bd loop same f = index_home k b x index bd (bytes_eq index x) loop refl f
vars_home k b n (v ∷ vs) index x bd loop same f = by (bytes_eq v.name x) same f (vars_home k b (suc n) vs index x bd loop)
  where
    by : (t : Bool) → cond t (Some v.type) (var_type x vs) ≡ var_type x k.vars → option_map binding_of (cond t (Some (local v.name (binding.Accumulator v.type))) (find (has_name x) (head_locals [] vs index))) ≡ Some bd
        → (var_type x vs ≡ var_type x k.vars → binding_at (head_locals [] vs index) x ≡ Some bd → HomeIs k b x bd (operand_at (head_env (suc n) [] vs index) x))
        → HomeIs k b x bd (cond t (Outer n) (operand_at (head_env (suc n) [] vs index) x))
    by true e g more = let is : binding.Accumulator v.type ≡ bd = cc in subst (λ d. HomeIs k b x d (Outer n)) is (sym e)
    by false e g more = more e g

params_home : (k : Program) (b n : ℕ) (ps : List Parameter) (index x : List ℕ) (bd : Binding) → loop_index k ≡ Some index → ((m : ℕ) → slice_get k.params (n + m) ≡ slice_get ps m)
    → binding_at (head_locals ps k.vars index) x ≡ Some bd → HomeIs k b x bd (operand_at (head_env n ps k.vars index) x)
params_home k b n [] index x bd loop at f = vars_home k b n k.vars index x bd loop refl f
params_home k b n (p ∷ ps) index x bd loop at f =
    let here : n + 0 ≡ n = omega arith in
    by (bytes_eq p.name x) refl f (ap (slice_get k.params) (sym here) ∙ at 0)
    (params_home k b (suc n) ps index x bd loop (λ m. let next : suc n + m ≡ n + suc m = omega arith in ap (slice_get k.params) next ∙ at (suc m)))
  where
    by : (t : Bool) → bytes_eq p.name x ≡ t → option_map binding_of (cond t (Some (local p.name (binding_of_shape p.shape))) (find (has_name x) (head_locals ps k.vars index))) ≡ Some bd → slice_get k.params n ≡ Some p
        → (binding_at (head_locals ps k.vars index) x ≡ Some bd → HomeIs k b x bd (operand_at (head_env (suc n) ps k.vars index) x)) → HomeIs k b x bd (cond t (Outer n) (operand_at (head_env (suc n) ps k.vars index) x))
    by true e g here more = shape_home k b n x p bd p.shape refl (bytes_eq-told p.name x e) here g
    by false e g here more = more g

-- the names of a kernel's loop
pub head_names : (k : Program) (l : PlainLoop) (b : ℕ) → k.for_loop ≡ Some l → Names k b (head_locals k.params k.vars l.index) (head_env 0 k.params k.vars l.index)
head_names k l b for_loop = record {
  named = named_on (locals_of k.params ++ accs_of k.vars) (local l.index binding.Index ∷ []) (outer_env 0 (locals_of k.params ++ accs_of k.vars)) (bound l.index LoopIndex ∷ []) (named_outer 0 (locals_of k.params ++ accs_of k.vars)) (refl, tt);
  home = λ x bd e. params_home k b 0 k.params l.index x bd (ap (option_map index_of) for_loop) (λ m. ap (slice_get k.params) (zero_first m)) e;
}
  where
    zero_first : (m : ℕ) → 0 + m ≡ m
    zero_first m = omega arith
