-- Names that are held loosely, one more or one fewer, and their registers.
use Rattle.std.proofs.Common.{◌≡◌, ◌≢◌, ℕ, ◌+◌, ◌*◌, ◌≤◌, Bool, true, false, cond, List, [], ◌∷◌, ◌++◌, length, take, Option, Some, None, refl, sym, ap, ◌∙◌, subst, arith, append-nil}
use Rattle.std.specs.Prelude.{ℤ, pos, ◌+ℤ◌, ◌-ℤ◌, option_map, option_and_then, unwrap_or, bytes_eq}
use Rattle.std.specs.List.{find}
use Rattle.std.proofs.lemmas.Int.{ints}
use Rattle.machine_model.specs.Machine.{State, x_at}
use Rattle.kernel_tree.specs.declared.ops.Ty.{Ty}
use Rattle.kernel_tree.specs.declared.ops.Ty.TheVariants as ty
use Rattle.kernel_tree.specs.declared.fault.Binding.{Binding}
use Rattle.kernel_tree.specs.declared.fault.Binding.TheVariants as binding
use Rattle.kernel_tree.specs.Typing.{Scope, Local, local, has_name, binding_of, lookup, element_type, accumulator_type}
use Rattle.kernel_tree.proofs.Names.{bytes_eq-refl, bytes_swap, bytes_eq-told}
use Rattle.kernel_meaning.specs.Operators.{word}
use Rattle.kernel_meaning.specs.Eval.{Named, Names, is_named, value_at}
use Rattle.kernel_meaning.specs.Iterate.{named, assigned}
use Rattle.kernel_meaning.specs.Ranges.{AreRanged}
use Rattle.scalar_words.specs.Layout.{Form, LowBits, Ahead, Behind, Loose, loose_form, is_loose, loose_in, Home, Homes, is_home, register_of, register_at, Lasts, LastsAt, NameLasts}
use Rattle.scalar_words.specs.Safe.{Others, OnlyIf, Only}
use Rattle.scalar_words.proofs.LayoutStates.{AreInRegisters, Tells, Told}
use Rattle.loop_code.specs.Loosening.{keep_ahead, after_loop}
use Rattle.loop_code.specs.Loop.{NoHome, IsOnce, IsFormed, AreHeldLoosely, form_words, moving_words}

-- ---- names in a list

-- each name once
abbrev pub AreOnce : List Loose → Type 0
AreOnce [] = Unit {0}
AreOnce (l ∷ ls) = (loose_in ls l.name ≡ None) × AreOnce ls

pub once_of : (hs : Homes) (s : Scope) (p : ℕ) (ls : List Loose) → AreHeldLoosely hs s p ls → AreOnce ls
once_of hs s p [] h = tt
once_of hs s p (l ∷ ls) h = (h.0.3, once_of hs s p ls h.1)

-- the first, and those after it
pub first_in : (l : Loose) (ls : List Loose) → loose_in (l ∷ ls) l.name ≡ Some l.form
first_in l ls = ap (λ b. option_map loose_form (cond b (Some l) (find (is_loose l.name) ls))) (bytes_eq-refl l.name)

skip : (l : Loose) (ls : List Loose) (x : List ℕ) → bytes_eq l.name x ≡ false → loose_in (l ∷ ls) x ≡ loose_in ls x
skip l ls x e = ap (λ b. option_map loose_form (cond b (Some l) (find (is_loose x) ls))) e

unlike_step : (b : Bool) (l : Loose) (ls : List Loose) (x : List ℕ) → is_loose x l ≡ b → loose_in (l ∷ ls) x ≡ None → (bytes_eq l.name x ≡ false) × (loose_in ls x ≡ None)
unlike_step true l ls x e h = let k : Some l.form ≡ None = ap (λ b. option_map loose_form (cond b (Some l) (find (is_loose x) ls))) (sym e) ∙ h in absurd cc
unlike_step false l ls x e h = (e, ap (λ b. option_map loose_form (cond b (Some l) (find (is_loose x) ls))) (sym e) ∙ h)

unlike : (l : Loose) (ls : List Loose) (x : List ℕ) → loose_in (l ∷ ls) x ≡ None → (bytes_eq l.name x ≡ false) × (loose_in ls x ≡ None)
unlike l ls x h = unlike_step (is_loose x l) l ls x refl h

none_in : (done : List Loose) (l : Loose) (ls : List Loose) (x : List ℕ) → loose_in (done ++ l ∷ ls) x ≡ None → bytes_eq l.name x ≡ false
none_in [] l ls x h = (unlike l ls x h).0
none_in (d ∷ done) l ls x h = none_in done l ls x (unlike d (done ++ l ∷ ls) x h).1

-- none before one has its name, and none after it
pub before_none : (done : List Loose) (l : Loose) (ls : List Loose) → AreOnce (done ++ l ∷ ls) → loose_in done l.name ≡ None
before_none [] l ls h = refl
before_none (d ∷ done) l ls h = skip d done l.name (bytes_swap l.name d.name (none_in done l ls d.name h.0)) ∙ before_none done l ls h.1

pub after_none : (done : List Loose) (l : Loose) (ls : List Loose) → AreOnce (done ++ l ∷ ls) → loose_in ls l.name ≡ None
after_none [] l ls h = h.0
after_none (d ∷ done) l ls h = after_none done l ls h.1

pub loose_in_past : (done ls : List Loose) (x : List ℕ) → loose_in done x ≡ None → loose_in (done ++ ls) x ≡ loose_in ls x
loose_in_past [] ls x h = refl
loose_in_past (d ∷ done) ls x h = let k = unlike d done x h in skip d (done ++ ls) x k.0 ∙ loose_in_past done ls x k.1

-- other names without one
without_step : (b : Bool) (d : Loose) (o q : Option Loose) → option_map loose_form o ≡ option_map loose_form q → option_map loose_form (cond b (Some d) o) ≡ option_map loose_form (cond b (Some d) q)
without_step true d o q e = refl
without_step false d o q e = e

pub without : (done : List Loose) (l : Loose) (ls : List Loose) (x : List ℕ) → bytes_eq l.name x ≡ false → loose_in (done ++ l ∷ ls) x ≡ loose_in (done ++ ls) x
without [] l ls x e = skip l ls x e
without (d ∷ done) l ls x e = without_step (is_loose x d) d (find (is_loose x) (done ++ l ∷ ls)) (find (is_loose x) (done ++ ls)) (without done l ls x e)

pub loose_in_of_push : (done : List Loose) (l : Loose) (x : List ℕ) → bytes_eq l.name x ≡ false → loose_in done x ≡ loose_in (done ++ l ∷ []) x
loose_in_of_push done l x e = sym (without done l [] x e ∙ ap (λ ds. loose_in ds x) (append-nil done))

pub once_without : (done : List Loose) (l : Loose) (ls : List Loose) → AreOnce (done ++ l ∷ ls) → AreOnce (done ++ ls)
once_without [] l ls h = h.1
once_without (d ∷ done) l ls h = (sym (without done l ls d.name (none_in done l ls d.name h.0)) ∙ h.0, once_without done l ls h.1)

-- ---- another value in the register of one name

told_other : (as' bs : List Loose) (x : List ℕ) (c : ℕ) (hs : Homes) (zs ns : Names) (p : ℕ) (s : State) → ((y : List ℕ) → bytes_eq x y ≡ false → loose_in as' y ≡ loose_in bs y) → NoHome x hs → AreInRegisters hs zs p s → Told as' c zs ns → Told bs c zs ns
told_other as' bs x c [] [] [] p s f free held h = tt
told_other as' bs x c [] [] (n ∷ ns) p s f free held h = absurd h
told_other as' bs x c [] (z ∷ zs) ns p s f free held h = absurd held
told_other as' bs x c (y ∷ hs) [] ns p s f free held h = absurd held
told_other as' bs x c (y ∷ hs) (z ∷ zs) [] p s f free held h = absurd h
told_other as' bs x c (y ∷ hs) (z ∷ zs) (n ∷ ns) p s f free held h =
    let other : bytes_eq n.name x ≡ false = ap (λ y. bytes_eq y x) (sym h.0 ∙ held.0) ∙ free.0 in
    (h.0, subst (λ o. Tells c o z.value n.value) (f n.name (bytes_swap n.name x other)) h.1, told_other as' bs x c hs zs ns p s f free.1 held.2 h.2)

changed_step : (b : Bool) (as' bs : List Loose) (c : ℕ) (x : List ℕ) (u : ℤ) (y : Home) (hs : Homes) (z n : Named) (zs ns : Names) (p : ℕ) (s : State) → is_home x y ≡ b → ((y : List ℕ) → bytes_eq x y ≡ false → loose_in as' y ≡ loose_in bs y) → IsOnce (y ∷ hs) x → AreInRegisters (y ∷ hs) (z ∷ zs) p s → Told as' c (z ∷ zs) (n ∷ ns) → Tells c (loose_in bs x) u (value_at (n ∷ ns) x)
    → (IsOnce hs x → Tells c (loose_in bs x) u (value_at ns x) → Told bs c (assigned x u zs) ns) → Told bs c (assigned x u (z ∷ zs)) (n ∷ ns)
changed_step true as' bs c x u y hs z n zs ns p s e f once held h tells rest =
    let ez : is_named x z ≡ true = ap (λ y. bytes_eq y x) held.0 ∙ e in
    let en : is_named x n ≡ true = ap (λ y. bytes_eq y x) (sym h.0) ∙ ez in
    let free : NoHome x hs = subst (λ b. cond b (NoHome x hs) (IsOnce hs x)) e once in
    let value : value_at (n ∷ ns) x ≡ n.value = rw en refl in
    let mine : Tells c (loose_in bs n.name) u n.value = subst (λ v. Tells c (loose_in bs n.name) u v) value (subst (λ y. Tells c (loose_in bs y) u (value_at (n ∷ ns) x)) (sym (bytes_eq-told n.name x en)) tells) in
    subst (λ b. Told bs c (cond b (named z.name u ∷ zs) (z ∷ assigned x u zs)) (n ∷ ns)) (sym ez) (h.0, mine, told_other as' bs x c hs zs ns p s f free held.2 h.2)
changed_step false as' bs c x u y hs z n zs ns p s e f once held h tells rest =
    let ez : is_named x z ≡ false = ap (λ y. bytes_eq y x) held.0 ∙ e in
    let en : is_named x n ≡ false = ap (λ y. bytes_eq y x) (sym h.0) ∙ ez in
    let more : IsOnce hs x = subst (λ b. cond b (NoHome x hs) (IsOnce hs x)) e once in
    let value : value_at (n ∷ ns) x ≡ value_at ns x = rw en refl in
    subst (λ b. Told bs c (cond b (named z.name u ∷ zs) (z ∷ assigned x u zs)) (n ∷ ns)) (sym ez)
    (h.0, subst (λ o. Tells c o z.value n.value) (f n.name (bytes_swap n.name x en)) h.1, rest more (subst (λ v. Tells c (loose_in bs x) u v) value tells))

-- with other forms, of that name alone
pub told_changed : (as' bs : List Loose) (c : ℕ) (x : List ℕ) (u : ℤ) (hs : Homes) (zs ns : Names) (p : ℕ) (s : State) → ((y : List ℕ) → bytes_eq x y ≡ false → loose_in as' y ≡ loose_in bs y) → IsOnce hs x → AreInRegisters hs zs p s → Told as' c zs ns → Tells c (loose_in bs x) u (value_at ns x) → Told bs c (assigned x u zs) ns
told_changed as' bs c x u [] [] [] p s f once held h tells = tt
told_changed as' bs c x u [] [] (n ∷ ns) p s f once held h tells = absurd h
told_changed as' bs c x u [] (z ∷ zs) ns p s f once held h tells = absurd held
told_changed as' bs c x u (y ∷ hs) [] ns p s f once held h tells = absurd held
told_changed as' bs c x u (y ∷ hs) (z ∷ zs) [] p s f once held h tells = absurd h
told_changed as' bs c x u (y ∷ hs) (z ∷ zs) (n ∷ ns) p s f once held h tells = changed_step (is_home x y) as' bs c x u y hs z n zs ns p s refl f once held h tells (λ o t. told_changed as' bs c x u hs zs ns p s f o held.2 h.2 t)

-- ---- registers

home_step : (h : Home) (hs : Homes) (y : List ℕ) (r p : ℕ) → is_home y h ≡ false → (NameLasts hs y p → register_at hs y ≢ r) → NameLasts (h ∷ hs) y p → register_at (h ∷ hs) y ≢ r
home_step h hs y r p e g lasts =
    let q : register_at (h ∷ hs) y ≡ register_at hs y = ap (λ c. unwrap_or (option_map register_of (cond c (Some h) (find (is_home y) hs))) 31) e in
    λ eq. g (subst (λ c. LastsAt (cond c (Some h) (find (is_home y) hs)) p) e lasts) (sym q ∙ eq)

others_step : (b : Bool) (h : Home) (hs : Homes) (y : List ℕ) (r p : ℕ) → is_home y h ≡ b → (Lasts h.last_use p → h.register ≢ r) → (NameLasts hs y p → register_at hs y ≢ r) → NameLasts (h ∷ hs) y p → register_at (h ∷ hs) y ≢ r
others_step true h hs y r p e f g lasts =
    let q : register_at (h ∷ hs) y ≡ h.register = ap (λ c. unwrap_or (option_map register_of (cond c (Some h) (find (is_home y) hs))) 31) e in
    λ eq. f (subst (λ c. LastsAt (cond c (Some h) (find (is_home y) hs)) p) e lasts) (sym q ∙ eq)
others_step false h hs y r p e f g lasts = home_step h hs y r p e g lasts

others_apart : (hs : Homes) (y : List ℕ) (r p : ℕ) → Others hs r p → NameLasts hs y p → register_at hs y ≢ r
others_apart [] y r p o lasts = absurd lasts
others_apart (h ∷ hs) y r p o lasts = others_step (is_home y h) h hs y r p refl o.0 (others_apart hs y r p o.1) lasts

only_step : (b : Bool) (h : Home) (hs : Homes) (x y : List ℕ) (r p : ℕ) → is_home x h ≡ b → bytes_eq y x ≡ false → OnlyIf b h hs r p (Only hs x r p) → (Only hs x r p → NameLasts hs y p → register_at hs y ≢ r) → NameLasts (h ∷ hs) y p → register_at (h ∷ hs) y ≢ r
only_step true h hs x y r p e ne o rest lasts = home_step h hs y r p (ap (λ z. bytes_eq z y) (bytes_eq-told h.name x e) ∙ bytes_swap y x ne) (others_apart hs y r p o.1) lasts
only_step false h hs x y r p e ne o rest lasts = others_step (is_home y h) h hs y r p refl o.0 (rest o.1) lasts

-- the register of another name
pub only_apart : (hs : Homes) (x y : List ℕ) (r p : ℕ) → bytes_eq y x ≡ false → Only hs x r p → NameLasts hs y p → register_at hs y ≢ r
only_apart [] x y r p ne o lasts = absurd lasts
only_apart (h ∷ hs) x y r p ne o lasts = only_step (is_home x h) h hs x y r p refl ne o (only_apart hs x y r p ne) lasts

more_step : (b : Bool) (h : Home) (hs gs : Homes) (y : List ℕ) (p : ℕ) → is_home y h ≡ b → (NameLasts hs y p → NameLasts gs y p × (register_at gs y ≡ register_at hs y)) → NameLasts (h ∷ hs) y p → NameLasts (h ∷ gs) y p × (register_at (h ∷ gs) y ≡ register_at (h ∷ hs) y)
more_step true h hs gs y p e f l = (
  subst (λ c. LastsAt (cond c (Some h) (find (is_home y) gs)) p) (sym e) (subst (λ c. LastsAt (cond c (Some h) (find (is_home y) hs)) p) e l),
  ap (λ c. unwrap_or (option_map register_of (cond c (Some h) (find (is_home y) gs))) 31) e ∙ sym (ap (λ c. unwrap_or (option_map register_of (cond c (Some h) (find (is_home y) hs))) 31) e),
)
more_step false h hs gs y p e f l =
    let k = f (subst (λ c. LastsAt (cond c (Some h) (find (is_home y) hs)) p) e l) in (
      subst (λ c. LastsAt (cond c (Some h) (find (is_home y) gs)) p) (sym e) k.0,
      ap (λ c. unwrap_or (option_map register_of (cond c (Some h) (find (is_home y) gs))) 31) e ∙ k.1 ∙ sym (ap (λ c. unwrap_or (option_map register_of (cond c (Some h) (find (is_home y) hs))) 31) e),
    )

-- a name among more homes
pub found_more : (hs gs : Homes) (y : List ℕ) (p : ℕ) → NameLasts hs y p → NameLasts (hs ++ gs) y p × (register_at (hs ++ gs) y ≡ register_at hs y)
found_more [] gs y p l = absurd l
found_more (h ∷ hs) gs y p l = more_step (is_home y h) h hs (hs ++ gs) y p refl (found_more hs gs y p) l

free_step : (b : Bool) (h : Home) (hs : Homes) (x y : List ℕ) (p : ℕ) → is_home y h ≡ b → is_home x h ≡ false → (NameLasts hs y p → bytes_eq y x ≡ false) → NameLasts (h ∷ hs) y p → bytes_eq y x ≡ false
free_step true h hs x y p e free f l = ap (λ z. bytes_eq z x) (sym (bytes_eq-told h.name y e)) ∙ free
free_step false h hs x y p e free f l = f (subst (λ c. LastsAt (cond c (Some h) (find (is_home y) hs)) p) e l)

-- a name of a home is not one of none
pub free_other : (hs : Homes) (x y : List ℕ) (p : ℕ) → NoHome x hs → NameLasts hs y p → bytes_eq y x ≡ false
free_other [] x y p free l = absurd l
free_other (h ∷ hs) x y p free l = free_step (is_home y h) h hs x y p refl free.0 (free_other hs x y p free.1) l

-- ---- what names are

look_step : (b : Bool) (v : Local) (vs ws : List Local) (x : List ℕ) (bd : Binding) → has_name x v ≡ b → (option_map binding_of (find (has_name x) vs) ≡ Some bd → option_map binding_of (find (has_name x) ws) ≡ Some bd) → option_map binding_of (cond b (Some v) (find (has_name x) vs)) ≡ Some bd → option_map binding_of (cond b (Some v) (find (has_name x) ws)) ≡ Some bd
look_step true v vs ws x bd e f h = h
look_step false v vs ws x bd e f h = f h

-- among more names
pub look_more : (vs ws : List Local) (x : List ℕ) (bd : Binding) → option_map binding_of (find (has_name x) vs) ≡ Some bd → option_map binding_of (find (has_name x) (vs ++ ws)) ≡ Some bd
look_more [] ws x bd h = absurd cc
look_more (v ∷ vs) ws x bd h = look_step (has_name x v) v vs (vs ++ ws) x bd refl (look_more vs ws x bd) h

-- the loop variable, where no home has its name
pub index_looked : (ls : List Loose) (c : ℕ) (hs : Homes) (zs ns : Names) (vs : List Local) (x : List ℕ) (p : ℕ) (s : State) → NoHome x hs → AreInRegisters hs zs p s → Told ls c zs ns → AreRanged vs ns → option_map binding_of (find (has_name x) (vs ++ local x binding.Index ∷ [])) ≡ Some binding.Index
index_looked ls c hs [] [] [] x p s free held told ranged = ap (λ b. option_map binding_of (cond b (Some (local x binding.Index)) None)) (bytes_eq-refl x)
index_looked ls c hs [] [] (v ∷ vs) x p s free held told ranged = absurd ranged
index_looked ls c hs [] (n ∷ ns) vs x p s free held told ranged = absurd told
index_looked ls c hs (z ∷ zs) [] vs x p s free held told ranged = absurd told
index_looked ls c [] (z ∷ zs) (n ∷ ns) vs x p s free held told ranged = absurd held
index_looked ls c (h ∷ hs) (z ∷ zs) (n ∷ ns) [] x p s free held told ranged = absurd ranged
index_looked ls c (h ∷ hs) (z ∷ zs) (n ∷ ns) (v ∷ vs) x p s free held told ranged =
    let other : has_name x v ≡ false = ap (λ y. bytes_eq y x) (sym ranged.0 ∙ sym told.0 ∙ held.0) ∙ free.0 in
    ap (λ b. option_map binding_of (cond b (Some v) (find (has_name x) (vs ++ local x binding.Index ∷ [])))) other ∙ index_looked ls c hs zs ns vs x p s free.1 held.2 told.2 ranged.2

-- no name that is held loosely is a scalar
scalar_other : (b : Bool) (s : Scope) (x y i : List ℕ) (f : Form) → bytes_eq x y ≡ b → s.index ≡ Some i → bytes_eq i y ≡ false → lookup s y ≡ Some (binding.Scalar ty.U64) → IsFormed s x f → b ≡ false
scalar_other false s x y i f e at ne known h = refl
scalar_other true s x y i (LowBits t) e at ne known h = let k : None ≡ Some t = ap (option_and_then accumulator_type) (sym known) ∙ ap (λ z. option_and_then accumulator_type (lookup s z)) (sym (bytes_eq-told x y e)) ∙ h in absurd cc
scalar_other true s x y i (Ahead t) e at ne known h = let k : None ≡ Some t = ap (option_and_then element_type) (sym known) ∙ ap (λ z. option_and_then element_type (lookup s z)) (sym (bytes_eq-told x y e)) ∙ h in absurd cc
scalar_other true s x y i Behind e at ne known h = let k : Some i ≡ Some x = sym at ∙ h in let q : i ≡ x = cc in sym e ∙ ap (λ z. bytes_eq z y) (sym q) ∙ ne

pub loose_other : (s : Scope) (x y i : List ℕ) (f : Form) → s.index ≡ Some i → bytes_eq i y ≡ false → lookup s y ≡ Some (binding.Scalar ty.U64) → IsFormed s x f → bytes_eq x y ≡ false
loose_other s x y i f at ne known h = scalar_other (bytes_eq x y) s x y i f refl at ne known h

-- ---- the loop variable

-- it is held wholly, or behind
abbrev pub IsCounted : Option Form → Type 0
IsCounted None = Unit {0}
IsCounted (Some (LowBits t)) = ⊥
IsCounted (Some (Ahead t)) = ⊥
IsCounted (Some Behind) = Unit {0}

formed_index : (s : Scope) (f : Form) (x y : List ℕ) → x ≡ y → lookup s y ≡ Some binding.Index → IsFormed s x f → IsCounted (Some f)
formed_index s (LowBits t) x y e known h = let k : None ≡ Some t = ap (option_and_then accumulator_type) (sym known) ∙ ap (λ z. option_and_then accumulator_type (lookup s z)) (sym e) ∙ h in absurd cc
formed_index s (Ahead t) x y e known h = let k : None ≡ Some t = ap (option_and_then element_type) (sym known) ∙ ap (λ z. option_and_then element_type (lookup s z)) (sym e) ∙ h in absurd cc
formed_index s Behind x y e known h = tt

counted_step : (b : Bool) (s : Scope) (l : Loose) (ls : List Loose) (x : List ℕ) → is_loose x l ≡ b → lookup s x ≡ Some binding.Index → IsFormed s l.name l.form → IsCounted (loose_in ls x) → IsCounted (option_map loose_form (cond b (Some l) (find (is_loose x) ls)))
counted_step true s l ls x e known h rest = formed_index s l.form l.name x (bytes_eq-told l.name x e) known h
counted_step false s l ls x e known h rest = rest

pub index_counted : (hs : Homes) (s : Scope) (p : ℕ) (x : List ℕ) (ls : List Loose) → lookup s x ≡ Some binding.Index → AreHeldLoosely hs s p ls → IsCounted (loose_in ls x)
index_counted hs s p x [] known h = tt
index_counted hs s p x (l ∷ ls) known h = counted_step (is_loose x l) s l ls x refl known h.0.0 (index_counted hs s p x ls known h.1)

ahead_step : (b : Bool) (s : Scope) (t : Ty) (l : Loose) (ls : List Loose) (x : List ℕ) → is_loose x l ≡ b → lookup s x ≡ Some binding.Index → IsFormed s l.name (Ahead t) → loose_in ls x ≡ None → option_map loose_form (cond b (Some l) (find (is_loose x) ls)) ≡ None
ahead_step true s t l ls x e known h rest = absurd (formed_index s (Ahead t) l.name x (bytes_eq-told l.name x e) known h)
ahead_step false s t l ls x e known h rest = rest

kept_step : (f : Form) (s : Scope) (l : Loose) (ls : List Loose) (x : List ℕ) → lookup s x ≡ Some binding.Index → IsFormed s l.name f → loose_in ls x ≡ None → loose_in (keep_ahead f l ls) x ≡ None
kept_step (LowBits t) s l ls x known h rest = rest
kept_step (Ahead t) s l ls x known h rest = ahead_step (is_loose x l) s t l ls x refl known h rest
kept_step Behind s l ls x known h rest = rest

-- and wholly after the loop
pub index_after : (hs : Homes) (s : Scope) (p : ℕ) (x : List ℕ) (ls : List Loose) → lookup s x ≡ Some binding.Index → AreHeldLoosely hs s p ls → loose_in (after_loop ls) x ≡ None
index_after hs s p x [] known h = refl
index_after hs s p x (l ∷ ls) known h = kept_step l.form s l (after_loop ls) x known h.0.0 (index_after hs s p x ls known h.1)

-- what stands in X9 at an iteration
abbrev pub standing_at : Option Form → (count i : ℕ) → ℤ
standing_at (Some Behind) count i = pos i -ℤ pos count
standing_at None count i = pos i
standing_at (Some (LowBits t)) count i = pos i
standing_at (Some (Ahead t)) count i = pos i

pub standing_tells : (f : Option Form) (c i : ℕ) → IsCounted f → Tells c f (standing_at f c i) (pos i)
standing_tells None c i h = refl
standing_tells (Some (LowBits t)) c i h = absurd h
standing_tells (Some (Ahead t)) c i h = absurd h
standing_tells (Some Behind) c i h = refl

pub tells_standing : (f : Option Form) (c i : ℕ) (u : ℤ) → IsCounted f → Tells c f u (pos i) → u ≡ standing_at f c i
tells_standing None c i u h e = e
tells_standing (Some (LowBits t)) c i u h e = absurd h
tells_standing (Some (Ahead t)) c i u h e = absurd h
tells_standing (Some Behind) c i u h e = e

pub standing_next : (f : Option Form) (c i : ℕ) → standing_at f c (i + 1) ≡ standing_at f c i +ℤ pos 1
standing_next None c i = omega (arith, ints)
standing_next (Some (LowBits t)) c i = omega (arith, ints)
standing_next (Some (Ahead t)) c i = omega (arith, ints)
standing_next (Some Behind) c i = omega (arith, ints)

-- ---- names before and after a loop

tells_still : (o : Option Form) (v : ℤ) → Tells 0 o v v
tells_still None v = refl
tells_still (Some (LowBits t)) v = refl
tells_still (Some (Ahead ty.I8)) v = omega (arith, ints)
tells_still (Some (Ahead ty.U8)) v = omega (arith, ints)
tells_still (Some (Ahead ty.I16)) v = omega (arith, ints)
tells_still (Some (Ahead ty.U16)) v = omega (arith, ints)
tells_still (Some (Ahead ty.I32)) v = omega (arith, ints)
tells_still (Some (Ahead ty.U32)) v = omega (arith, ints)
tells_still (Some (Ahead ty.I64)) v = omega (arith, ints)
tells_still (Some (Ahead ty.U64)) v = omega (arith, ints)
tells_still (Some Behind) v = omega (arith, ints)

-- nothing has moved in a loop of no iterations
pub told_still : (ls : List Loose) (ns : Names) → Told ls 0 ns ns
told_still ls [] = tt
told_still ls (n ∷ ns) = (refl, tells_still (loose_in ls n.name) n.value, told_still ls ns)

-- the last of some names
pub record HasLast (ls : List Loose) (c : ℕ) (x : List ℕ) (v : ℤ) (r : ℕ) (s : State) : Type 0 where
  pub stand : ℤ
  pub tells : Tells c (loose_in ls x) stand v
  pub value : x_at s r ≡ word stand

pub last_held : (ls : List Loose) (c : ℕ) (hs : Homes) (h : Home) (zs ns : Names) (x : List ℕ) (v : ℤ) (p : ℕ) (s : State) → length ns ≡ length hs → Lasts h.last_use p → AreInRegisters (hs ++ h ∷ []) zs p s → Told ls c zs (ns ++ named x v ∷ []) → HasLast ls c x v h.register s
last_held ls c [] h [] ns x v p s e lasts held told = absurd held
last_held ls c [] h (z ∷ zs) [] x v p s e lasts held told = record { stand = z.value; tells = told.1; value = held.1 lasts }
last_held ls c [] h (z ∷ zs) (n ∷ ns) x v p s e lasts held told = absurd (omega (arith, e))
last_held ls c (y ∷ hs) h [] ns x v p s e lasts held told = absurd held
last_held ls c (y ∷ hs) h (z ∷ zs) [] x v p s e lasts held told = absurd (omega (arith, e))
last_held ls c (y ∷ hs) h (z ∷ zs) (n ∷ ns) x v p s e lasts held told = last_held ls c hs h zs ns x v p s (omega (arith, e)) lasts held.2 told.2

pub take_first : {A : Type 0} (xs ys : List A) → take (length xs) (xs ++ ys) ≡ xs
take_first [] [] = refl
take_first [] (y ∷ ys) = refl
take_first (x ∷ xs) ys = ap (λ zs. x ∷ zs) (take_first xs ys)

-- ---- words

-- before the first iteration
abbrev pub entering_words : Form → ℕ
entering_words (LowBits t) = 0
entering_words (Ahead t) = 1
entering_words Behind = 1

-- and after the last one
abbrev pub settling_words : Form → ℕ
settling_words (LowBits t) = 1
settling_words (Ahead t) = 0
settling_words Behind = 1

abbrev pub all_entering : List Loose → ℕ
all_entering [] = 0
all_entering (l ∷ ls) = entering_words l.form + all_entering ls

abbrev pub all_settling : List Loose → ℕ
all_settling [] = 0
all_settling (l ∷ ls) = settling_words l.form + all_settling ls

-- what the loop variable saves in an iteration, where it stands behind
abbrev behind_words : Form → ℕ
behind_words (LowBits t) = 0
behind_words (Ahead t) = 0
behind_words Behind = 1

abbrev all_behind : List Loose → ℕ
all_behind [] = 0
all_behind (l ∷ ls) = behind_words l.form + all_behind ls

abbrev saved_words : Option Form → ℕ
saved_words None = 0
saved_words (Some f) = behind_words f

-- the words of the end of an iteration after the first of them
abbrev pub back_words : Option Form → ℕ
back_words None = 2
back_words (Some (LowBits t)) = 2
back_words (Some (Ahead t)) = 2
back_words (Some Behind) = 1

form_sum : (f : Form) → entering_words f + settling_words f ≡ form_words f + 2 * behind_words f
form_sum (LowBits t) = refl
form_sum (Ahead t) = refl
form_sum Behind = refl

all_sum : (ls : List Loose) → all_entering ls + all_settling ls ≡ moving_words ls + 2 * all_behind ls
all_sum [] = refl
all_sum (l ∷ ls) = let a = form_sum l.form in let b = all_sum ls in omega (arith, a, b)

behind_name : (s : Scope) (f : Form) (x y : List ℕ) → s.index ≡ Some y → IsFormed s x f → bytes_eq x y ≡ false → behind_words f ≡ 0
behind_name s (LowBits t) x y at h ne = refl
behind_name s (Ahead t) x y at h ne = refl
behind_name s Behind x y at h ne = let k : Some y ≡ Some x = sym at ∙ h in let q : y ≡ x = cc in let e : true ≡ false = sym (bytes_eq-refl x) ∙ ap (bytes_eq x) (sym q) ∙ ne in absurd cc

saved_step : (b : Bool) (s : Scope) (l : Loose) (ls : List Loose) (x : List ℕ) → is_loose x l ≡ b → s.index ≡ Some x → IsFormed s l.name l.form → loose_in ls l.name ≡ None → all_behind ls ≤ saved_words (loose_in ls x) → all_behind (l ∷ ls) ≤ saved_words (option_map loose_form (cond b (Some l) (find (is_loose x) ls)))
saved_step true s l ls x e at h none rest =
    let k : saved_words (loose_in ls x) ≡ 0 = ap saved_words (ap (loose_in ls) (sym (bytes_eq-told l.name x e)) ∙ none) in
    omega (arith, k, rest)
saved_step false s l ls x e at h none rest = let k = behind_name s l.form l.name x at h e in omega (arith, k, rest)

all_saved : (hs : Homes) (s : Scope) (p : ℕ) (x : List ℕ) (ls : List Loose) → s.index ≡ Some x → AreHeldLoosely hs s p ls → all_behind ls ≤ saved_words (loose_in ls x)
all_saved hs s p x [] at h = omega arith
all_saved hs s p x (l ∷ ls) at h = saved_step (is_loose x l) s l ls x refl at h.0.0 h.0.3 (all_saved hs s p x ls at h.1)

back_few : (f : Option Form) → 2 * saved_words f + back_words f ≤ 3
back_few None = omega arith
back_few (Some (LowBits t)) = omega arith
back_few (Some (Ahead t)) = omega arith
back_few (Some Behind) = omega arith

-- what goes before and after the iterations, with the end of one of them
pub moving_few : (hs : Homes) (s : Scope) (p : ℕ) (x : List ℕ) (ls : List Loose) → s.index ≡ Some x → AreHeldLoosely hs s p ls → all_entering ls + all_settling ls + back_words (loose_in ls x) ≤ moving_words ls + 3
moving_few hs s p x ls at h =
    let a = all_sum ls in
    let b = all_saved hs s p x ls at h in
    let c = back_few (loose_in ls x) in
    omega (arith, a, b, c)
