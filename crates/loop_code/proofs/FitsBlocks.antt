-- Registers fit the statements of a checked kernel.
use Rattle.std.proofs.Common.{◌≡◌, ℕ, suc, ◌+◌, ◌≤◌, Bool, true, false, cond, List, [], ◌∷◌, ◌++◌, length, Option, Some, None, refl, sym, ap, ◌∙◌, subst, arith}
use Rattle.std.specs.Prelude.{ℤ, option_map, option_and_then, unwrap_or}
use Rattle.std.specs.List.{find}
use Rattle.kernel_tree.specs.declared.ops.Ty.{Ty}
use Rattle.kernel_tree.specs.declared.fault.Found.{Found}
use Rattle.kernel_tree.specs.declared.fault.Binding.{Binding}
use Rattle.kernel_tree.specs.Plain.{Term, Literal, Variable, Element, Unary, Operation, Shift, Conversion, Choice, Comparison, Both, Either, Not, Action, Define, Put, Update, Choose, Leave, Block, Done, Then, Otherwise, Nothing, Else, Program}
use Rattle.kernel_tree.specs.Items.{term_size, index_items, stream_offset, action_size, block_size, otherwise_size, loop_index}
use Rattle.kernel_tree.specs.Typing.{Scope, Local, local, Role, Value, Condition, wanted, lookup, own, first, element_type, accumulator_type, index_type, side_type, insert_name, defined, left, after_action, after_block, after_otherwise, faults, as_value, name_faults, read_faults, inner_faults, target_faults, stream_faults, update_faults, twice, action_faults, block_faults, otherwise_faults}
use Rattle.kernel_tree.proofs.Faultless.{nil-left, nil-right}
use Rattle.kernel_tree.proofs.NoFault.{typed_some, kind_some}
use Rattle.kernel_tree.proofs.Names.{bytes_eq-refl}
use Rattle.loop_form.specs.Entries.{Entry, inner_entries, term_entries, action_entries, block_entries, otherwise_entries}
use Rattle.loop_form.specs.Listing.{last_use_from}
use Rattle.loop_form.proofs.Numbers.{term-listed, action-listed, block-listed}
use Rattle.loop_form.proofs.NameUses.{AreUsesCounted, counted_left, counted_right}
use Rattle.loop_form.proofs.ItemTypes.{drop_next}
use Rattle.scalar_words.specs.Layout.{Layout, Home, Homes, is_home, register_of, last_use_at, register_at, LastsAt, NameLasts}
use Rattle.value_code.specs.Fits.{Fits, FitsTruth, IndexAt, IsSome}
use Rattle.loop_code.specs.Statements.{let_home, defined_homes, after_homes, FitsPut, FitsAction, FitsBlock, FitsOtherwise}
use Rattle.scalar_words.proofs.AssignedOf.{counted-low}
use Rattle.value_code.proofs.FitsOf.{some_of, no_untyped, no_offset, Sits, drop_head, AreUsed, last_uses, last_uses_on, value_fits, truth_fits}
use Rattle.loop_code.proofs.LooseHomes.{var_lasts}
use Rattle.scalar_words.proofs.NameHomes.{AccumulatorRegisters, LetHome, AreHomes, homes_later, homes_on, is_at, name_lasts, array_lasts, is_var, only_of}
use Rattle.kernel_tree.specs.declared.fault.Binding.TheVariants as binding

used_on : (hs : Homes) (i : Option (List ℕ)) (xs ys : List Entry) → AreUsed hs i xs → AreUsed hs i ys → AreUsed hs i (xs ++ ys)
used_on hs i [] ys h k = k
used_on hs i (x ∷ xs) ys h k = (h.0, used_on hs i xs ys h.1 k)

pub sits_next : (us : List ℕ) (b y : ℕ) (ys : List ℕ) → Sits us b (y ∷ ys) → Sits us (b + 1) ys
sits_next us b y ys h = let n : suc b ≡ b + 1 = omega arith in subst (λ p. Sits us p ys) n (drop_next us b y ys h)

-- the list after as many entries
pub sits_on : (all es : List Entry) (us : List ℕ) (b p n : ℕ) (rest : List ℕ) → length es ≡ n → p ≡ b + n → Sits us b (last_uses all es rest) → Sits us p rest
sits_on all [] us b p n rest e f h = let g : b ≡ p = omega (arith, e, f) in subst (λ q. Sits us q rest) g h
sits_on all (x ∷ es) us b p n rest e f h = sits_on all es us (suc b) p (length es) rest refl (omega (arith, e, f)) (drop_next us b _ _ h)

-- the first of two parts of the listing, and the second
pub sits_first : (all : List Entry) (us : List ℕ) (es fs : List Entry) (b : ℕ) (rest : List ℕ) → Sits us b (last_uses all (es ++ fs) rest) → Sits us b (last_uses all es (last_uses all fs rest))
sits_first all us es fs b rest h = h ∙ last_uses_on all es fs rest

pub sits_second : (all : List Entry) (us : List ℕ) (es fs : List Entry) (b p n : ℕ) (rest : List ℕ) → length es ≡ n → p ≡ b + n → Sits us b (last_uses all (es ++ fs) rest) → Sits us p (last_uses all fs rest)
sits_second all us es fs b p n rest e f h = sits_on all es us b p n (last_uses all fs rest) e f (sits_first all us es fs b rest h)

-- ---- what is known where no fault is found

known_name : (item : ℕ) (want : Option Ty) (o : Option Binding) → name_faults item want o ≡ [] → (bd : Binding) × (o ≡ Some bd)
known_name item want None e = absurd cc
known_name item want (Some bd) e = (bd, refl)

-- an array that is read inside a loop
record IsReadable (inside : Bool) (o : Option Binding) : Type 0 where
  within : inside ≡ true
  bd : Binding
  known : o ≡ Some bd
  type : Ty
  array : element_type bd ≡ Some type

read_known : (item : ℕ) (inside : Bool) (want : Option Ty) (o : Option Binding) → read_faults item inside want o ≡ [] → IsReadable inside o
read_known item inside want None e = absurd cc
read_known item false want (Some bd) e = absurd cc
read_known item true want (Some bd) e = let t = typed_some item want (element_type bd) e in record { within = refl; bd = bd; known = refl; type = t.0; array = t.1 }

-- a name that stands for something of a kind
record IsKind (f : Binding → Option Ty) (o : Option Binding) : Type 0 where
  bd : Binding
  known : o ≡ Some bd
  type : Ty
  kind : f bd ≡ Some type

target_known : (item : ℕ) (o : Option Binding) → target_faults item o ≡ [] → IsKind element_type o
target_known item None e = absurd cc
target_known item (Some bd) e = let t = kind_some item (element_type bd) e in record { bd = bd; known = refl; type = t.0; kind = t.1 }

update_known : (item : ℕ) (o : Option Binding) → update_faults item o ≡ [] → IsKind accumulator_type o
update_known item None e = absurd cc
update_known item (Some bd) e = let t = kind_some item (accumulator_type bd) e in record { bd = bd; known = refl; type = t.0; kind = t.1 }

stream_fits : (item : ℕ) (o : Option ℤ) (A : Type 0) → stream_faults item o ≡ [] → A → FitsPut o A
stream_fits item None A e a = absurd cc
stream_fits item (Some c) A e a = (no_offset item c e, a)

-- ---- names that are found stay

home_found_of_cons : (b : Bool) (x : List ℕ) (y : Home) (hs more : Homes) (p : ℕ) → is_home x y ≡ b → NameLasts (y ∷ hs) x p → (NameLasts hs x p → find (is_home x) (hs ++ more) ≡ find (is_home x) hs) → find (is_home x) ((y ∷ hs) ++ more) ≡ find (is_home x) (y ∷ hs)
home_found_of_cons true x y hs more p e h rest = ap (λ c. cond c (Some y) (find (is_home x) (hs ++ more))) e ∙ sym (ap (λ c. cond c (Some y) (find (is_home x) hs)) e)
home_found_of_cons false x y hs more p e h rest =
    let l : NameLasts hs x p = subst (λ c. LastsAt (cond c (Some y) (find (is_home x) hs)) p) e h in
    ap (λ c. cond c (Some y) (find (is_home x) (hs ++ more))) e ∙ rest l ∙ sym (ap (λ c. cond c (Some y) (find (is_home x) hs)) e)

found_more : (x : List ℕ) (hs more : Homes) (p : ℕ) → NameLasts hs x p → find (is_home x) (hs ++ more) ≡ find (is_home x) hs
found_more x [] more p h = absurd h
found_more x (y ∷ hs) more p h = home_found_of_cons (is_home x y) x y hs more p refl h (found_more x hs more p)

index_more : (i : Option (List ℕ)) (hs more : Homes) (p : ℕ) → IndexAt hs i p → IndexAt (hs ++ more) i p
index_more None hs more p h = h
index_more (Some x) hs more p h =
    let e = found_more x hs more p h.1 in
    (ap (λ o. unwrap_or (option_map register_of o) 31) e ∙ h.0, subst (λ o. LastsAt o p) (sym e) h.1)

module _ (k : Program) (R : ℕ → ℕ) (L : Layout) (all : List Entry) where
  abbrev i : Option (List ℕ)
  i = loop_index k

  abbrev scope : List Local → List (List ℕ) → Bool → Scope
  scope v tk ins = record { visible = v; taken = tk; index = loop_index k; inside = ins }

  -- the loop variable is held where reads stand
  abbrev pub IsIndexed : Bool → Homes → Type 0
  IsIndexed ins hs = ins ≡ true → (p : ℕ) → IndexAt hs (loop_index k) p

  module _ (v : List Local) (tk : List (List ℕ)) (ins : Bool) (hs : Homes) (b0 : ℕ) (are : AreHomes k R L all b0 0 v hs) (indexed : IsIndexed ins hs) where
    abbrev S : Scope
    S = record { visible = v; taken = tk; index = loop_index k; inside = ins }

    inner_used : (o : Option ℤ) (es : List Entry) (fs : List Found) → inner_faults o fs ≡ [] → AreUsesCounted all (inner_entries o es) → (fs ≡ [] → AreUsesCounted all es → AreUsed hs i es) → AreUsed hs i (inner_entries o es)
    inner_used (Some c) es fs e c2 f = tt
    inner_used None es fs e c2 f = f e c2

    -- the names of an expression last up to their uses
    pub term_used : (t : Term) (f b user : ℕ) (role : Role) → faults S f role t ≡ [] → AreUsesCounted all (term_entries k b user t) → AreUsed hs i (term_entries k b user t)
    term_used (Literal n) f b user role e c = (tt, tt)
    term_used (Variable x) f b user role e c =
        let n = known_name f (wanted role) (lookup S x) (nil-right (as_value f role) _ e) in
        (name_lasts k R L all b0 user hs x n.0 (is_at k R L all b0 0 v hs x n.0 are n.1) (λ from. c.0 x from (bytes_eq-refl x)), tt)
    term_used (Element a j) f b user role e c =
        let o = stream_offset i j in
        let fs = faults S f (Value (index_type S j)) j in
        let item = f + index_items i j in
        let e2 = nil-right (as_value item role) _ (nil-right (inner_faults o fs) _ e) in
        let r = read_known item ins (wanted role) (lookup S a) (nil-left (read_faults item ins (wanted role) (lookup S a)) _ e2) in
        let es = term_entries k b (b + index_items i j) j in
        used_on hs i (inner_entries o es) _
        (inner_used o es fs (nil-left (inner_faults o fs) _ e) (counted_left all (inner_entries o es) _ c) (λ z c2. term_used j f b (b + index_items i j) (Value (index_type S j)) z c2))
        ((array_lasts k R L all b0 (b + index_items i j) hs a r.bd r.type r.array (is_at k R L all b0 0 v hs a r.bd are r.known), indexed r.within (b + index_items i j)), tt)
    term_used (Unary op x) f b user role e c =
        let es = term_entries k b (b + term_size i x) x in
        used_on hs i es _ (term_used x f b (b + term_size i x) (Value (wanted role)) (nil-left (faults S f (Value (wanted role)) x) _ e) (counted_left all es _ c)) (tt, tt)
    term_used (Operation op x y) f b user role e c =
        let b1 = b + term_size i x in let p = b1 + term_size i y in
        let xs = term_entries k b p x in let ys = term_entries k b1 p y in
        let ey = nil-left (faults S (f + term_size i x) (Value (wanted role)) y) _ (nil-right (faults S f (Value (wanted role)) x) _ e) in
        used_on hs i xs _ (term_used x f b p (Value (wanted role)) (nil-left (faults S f (Value (wanted role)) x) _ e) (counted_left all xs _ c))
        (used_on hs i ys _ (term_used y (f + term_size i x) b1 p (Value (wanted role)) ey (counted_left all ys _ (counted_right all xs _ c))) (tt, tt))
    term_used (Shift left' x n) f b user role e c =
        let es = term_entries k b (b + term_size i x) x in
        used_on hs i es _ (term_used x f b (b + term_size i x) (Value (wanted role)) (nil-left (faults S f (Value (wanted role)) x) _ e) (counted_left all es _ c)) (tt, tt)
    term_used (Conversion x t) f b user role e c =
        let es = term_entries k b (b + term_size i x) x in
        used_on hs i es _ (term_used x f b (b + term_size i x) (Value (own S x)) (nil-left (faults S f (Value (own S x)) x) _ e) (counted_left all es _ c)) (tt, tt)
    term_used (Choice d x y) f b user role e c =
        let b1 = b + term_size i x in let b2 = b1 + term_size i y in let p = b2 + term_size i d in
        let xs = term_entries k b p x in let ys = term_entries k b1 p y in let ds = term_entries k b2 p d in
        let e2 = nil-right (faults S f (Value (wanted role)) x) _ e in
        let e3 = nil-right (faults S (f + term_size i x) (Value (wanted role)) y) _ e2 in
        let cy = counted_right all xs _ c in
        used_on hs i xs _ (term_used x f b p (Value (wanted role)) (nil-left (faults S f (Value (wanted role)) x) _ e) (counted_left all xs _ c))
        (used_on hs i ys _ (term_used y (f + term_size i x) b1 p (Value (wanted role)) (nil-left (faults S (f + term_size i x) (Value (wanted role)) y) _ e2) (counted_left all ys _ cy))
        (used_on hs i ds _ (term_used d (f + term_size i x + term_size i y) b2 p Condition (nil-left (faults S (f + term_size i x + term_size i y) Condition d) _ e3) (counted_left all ds _ (counted_right all ys _ cy))) (tt, tt)))
    term_used (Comparison op x y) f b user role e c =
        let w = side_type S x y in
        let b1 = b + term_size i x in let p = b1 + term_size i y in
        let xs = term_entries k b p x in let ys = term_entries k b1 p y in
        let ey = nil-left (faults S (f + term_size i x) (Value w) y) _ (nil-right (faults S f (Value w) x) _ e) in
        used_on hs i xs _ (term_used x f b p (Value w) (nil-left (faults S f (Value w) x) _ e) (counted_left all xs _ c))
        (used_on hs i ys _ (term_used y (f + term_size i x) b1 p (Value w) ey (counted_left all ys _ (counted_right all xs _ c))) (tt, tt))
    term_used (Both x y) f b user role e c =
        let b1 = b + term_size i x in let p = b1 + term_size i y in
        let xs = term_entries k b p x in let ys = term_entries k b1 p y in
        let ey = nil-left (faults S (f + term_size i x) Condition y) _ (nil-right (faults S f Condition x) _ e) in
        used_on hs i xs _ (term_used x f b p Condition (nil-left (faults S f Condition x) _ e) (counted_left all xs _ c))
        (used_on hs i ys _ (term_used y (f + term_size i x) b1 p Condition ey (counted_left all ys _ (counted_right all xs _ c))) (tt, tt))
    term_used (Either x y) f b user role e c =
        let m = b + term_size i x in let p = m + 1 + term_size i y in
        let xs = term_entries k b p x in let ys = term_entries k (m + 1) p y in
        let ey = nil-left (faults S (f + term_size i x + 1) Condition y) _ (nil-right (faults S f Condition x) _ e) in
        used_on hs i xs _ (term_used x f b p Condition (nil-left (faults S f Condition x) _ e) (counted_left all xs _ c))
        (tt, used_on hs i ys _ (term_used y (f + term_size i x + 1) (m + 1) p Condition ey (counted_left all ys _ (counted_right all xs _ c).1)) (tt, tt))
    term_used (Not x) f b user role e c =
        let es = term_entries k b (b + term_size i x) x in
        used_on hs i es _ (term_used x f b (b + term_size i x) Condition (nil-left (faults S f Condition x) _ e) (counted_left all es _ c)) (tt, tt)

    -- ---- expressions where they stand

    pub value_stands : (t : Term) (T : Ty) (b user : ℕ) (rest : List ℕ) → faults S b (Value (Some T)) t ≡ [] → Sits L.last_uses b (last_uses all (term_entries k b user t) rest) → AreUsesCounted all (term_entries k b user t) → Fits L hs S (Some T) b user t
    value_stands t T b user rest e h c = value_fits k L all hs v tk ins t T b b user rest e h (term_used t b b user (Value (Some T)) e c)

    -- a value of a type that is wanted
    pub wanted_stands : (t : Term) (want : Option Ty) (T : Ty) (b user : ℕ) (rest : List ℕ) → want ≡ Some T → faults S b (Value want) t ≡ [] → Sits L.last_uses b (last_uses all (term_entries k b user t) rest) → AreUsesCounted all (term_entries k b user t) → IsSome want × Fits L hs S want b user t
    wanted_stands t want T b user rest w e h c =
        subst (λ o. IsSome o × Fits L hs S o b user t) (sym w) (tt, value_stands t T b user rest (subst (λ o. faults S b (Value o) t ≡ []) w e) h c)

    pub truth_stands : (t : Term) (b user : ℕ) (rest : List ℕ) → faults S b Condition t ≡ [] → Sits L.last_uses b (last_uses all (term_entries k b user t) rest) → AreUsesCounted all (term_entries k b user t) → FitsTruth L hs S b t
    truth_stands t b user rest e h c = truth_fits k L all hs v tk ins t b b user rest e h (term_used t b b user Condition e c)

  -- ---- statements

  -- the names after a statement
  record AfterNames (ins : Bool) (hs : Homes) (s : Scope) (b : ℕ) (a : Action) : Type 0 where
    visible : List Local
    taken : List (List ℕ)
    homes : Homes
    scope_is : after_action s a ≡ record { visible = visible; taken = taken; index = loop_index k; inside = ins }
    homes_is : after_homes L hs s b a ≡ homes
    are : AreHomes k R L all (b + action_size i a) 0 visible homes
    indexed : IsIndexed ins homes

  names_after : (a : Action) (v : List Local) (tk : List (List ℕ)) (ins : Bool) (hs : Homes) (b : ℕ) (rest : List ℕ) → AreHomes k R L all b 0 v hs → IsIndexed ins hs → action_faults (scope v tk ins) b a ≡ [] → Sits L.last_uses b (last_uses all (action_entries k b a) rest) → AfterNames ins hs (scope v tk ins) b a
  names_after (Define x t e) v tk ins hs b rest are indexed f h =
      let S = scope v tk ins in
      let q = b + term_size i e in
      let want = first t (own S e) in
      let w = some_of want (no_untyped q want (nil-right (twice q S x) _ (nil-right (faults S b (Value want) e) _ f))) in
      let T = w.0 in
      let es = term_entries k b q e in
      let at : last_use_at L q ≡ last_use_from x q all = drop_head L.last_uses q _ _ (sits_second all L.last_uses es _ b q (term_size i e) rest (term-listed k b q e (omega arith)).count refl h) in
      let new : LetHome L all (b + (term_size i e + 1)) (let_home L q x) = record { item = q; before = omega arith; register' = refl; last_use' = refl; from = q; last = at } in
      record {
        visible = v ++ local x (binding.Value T) ∷ [];
        taken = insert_name tk x;
        homes = hs ++ let_home L q x ∷ [];
        scope_is = ap (λ o. defined S x o) w.1;
        homes_is = ap (λ o. defined_homes L q hs x o) w.1;
        are = homes_on k R L all (b + (term_size i e + 1)) 0 v (local x (binding.Value T) ∷ []) hs (let_home L q x ∷ []) (homes_later k R L all b (b + (term_size i e + 1)) 0 v hs (omega arith) are) (refl, new, tt);
        indexed = λ e p. index_more (loop_index k) hs (let_home L q x ∷ []) p (indexed e p);
      }
  names_after (Put a o e) v tk ins hs b rest are indexed f h = record {
    visible = v;
    taken = tk;
    homes = hs;
    scope_is = refl;
    homes_is = refl;
    are = homes_later k R L all b (b + (term_size i e + 1)) 0 v hs (omega arith) are;
    indexed = indexed;
  }
  names_after (Update x op e) v tk ins hs b rest are indexed f h = record {
    visible = v;
    taken = tk;
    homes = hs;
    scope_is = refl;
    homes_is = refl;
    are = homes_later k R L all b (b + (term_size i e + 1)) 0 v hs (omega arith) are;
    indexed = indexed;
  }
  names_after (Choose c blk d) v tk ins hs b rest are indexed f h =
      let S = scope v tk ins in
      record {
        visible = v;
        taken = (after_otherwise (left S (after_block S blk)) d).taken;
        homes = hs;
        scope_is = refl;
        homes_is = refl;
        are = homes_later k R L all b (b + (term_size i c + 1 + block_size i blk + otherwise_size i d + 1)) 0 v hs (omega arith) are;
        indexed = indexed;
      }
  names_after (Leave c) v tk ins hs b rest are indexed f h = record {
    visible = v;
    taken = tk;
    homes = hs;
    scope_is = refl;
    homes_is = refl;
    are = homes_later k R L all b (b + (term_size i c + 1)) 0 v hs (omega arith) are;
    indexed = indexed;
  }

  module _ (few : length k.params ≤ 8) (accumulators : AccumulatorRegisters R L (length k.vars)) where
    update_fits : (v : List Local) (tk : List (List ℕ)) (ins : Bool) (hs : Homes) (b : ℕ) (rest : List ℕ) (x : List ℕ) (e : Term) → AreHomes k R L all b 0 v hs → IsIndexed ins hs
        → faults (scope v tk ins) b (Value (option_and_then accumulator_type (lookup (scope v tk ins) x))) e ≡ [] → IsKind accumulator_type (lookup (scope v tk ins) x) → Sits L.last_uses b (last_uses all (term_entries k b (b + term_size i e) e) rest) → AreUsesCounted all (term_entries k b (b + term_size i e) e) → (op : _) → FitsAction L hs (scope v tk ins) b (Update x op e)
    update_fits v tk ins hs b rest x e are indexed f kind h c op =
        let S = scope v tk ins in
        let q = b + term_size i e in
        let w : option_and_then accumulator_type (lookup S x) ≡ Some kind.type = ap (option_and_then accumulator_type) kind.known ∙ kind.kind in
        let r = wanted_stands v tk ins hs b are indexed e (option_and_then accumulator_type (lookup S x)) kind.type b q rest w f h c in
        let n = is_var k R L all few accumulators b 0 v hs x kind.type are w in
        let reg = n.register' in
        let at = is_at k R L all b 0 v hs x kind.bd are kind.known in
        (r.0, r.1, var_lasts k R L all hs b q x kind.bd kind.type kind.kind at, (let l = counted-low (R n.number) in omega (arith, l, reg)), only_of k R L all few accumulators b 0 (q + 1) v hs x kind.type are (omega arith) (register_at hs x) w refl)

    mutual
      pub action_fits : (a : Action) (v : List Local) (tk : List (List ℕ)) (ins : Bool) (hs : Homes) (b : ℕ) (rest : List ℕ) → AreHomes k R L all b 0 v hs → IsIndexed ins hs → ins ≡ true → action_faults (scope v tk ins) b a ≡ [] → Sits L.last_uses b (last_uses all (action_entries k b a) rest) → AreUsesCounted all (action_entries k b a) → FitsAction L hs (scope v tk ins) b a
      action_fits (Define x t e) v tk ins hs b rest are indexed on f h c =
          let S = scope v tk ins in
          let q = b + term_size i e in
          let want = first t (own S e) in
          let w = some_of want (no_untyped q want (nil-right (twice q S x) _ (nil-right (faults S b (Value want) e) _ f))) in
          let es = term_entries k b q e in
          wanted_stands v tk ins hs b are indexed e want w.0 b q _ w.1 (nil-left (faults S b (Value want) e) _ f) (sits_first all L.last_uses es _ b rest h) (counted_left all es _ c)
      action_fits (Put a o e) v tk ins hs b rest are indexed on f h c =
          let S = scope v tk ins in
          let q = b + term_size i e in
          let want = option_and_then element_type (lookup S a) in
          let f2 = nil-right (faults S b (Value want) e) _ f in
          let kind = target_known q (lookup S a) (nil-left (target_faults q (lookup S a)) _ f2) in
          let w : want ≡ Some kind.type = ap (option_and_then element_type) kind.known ∙ kind.kind in
          let es = term_entries k b q e in
          let r = wanted_stands v tk ins hs b are indexed e want kind.type b q _ w (nil-left (faults S b (Value want) e) _ f) (sits_first all L.last_uses es _ b rest h) (counted_left all es _ c) in
          let at = is_at k R L all b 0 v hs a kind.bd are kind.known in
          (r.0, r.1, stream_fits q (stream_offset i o) (IndexAt hs (loop_index k) q) (nil-right (target_faults q (lookup S a)) _ f2) (indexed on q), array_lasts k R L all b q hs a kind.bd kind.type kind.kind at)
      action_fits (Update x op e) v tk ins hs b rest are indexed on f h c =
          let S = scope v tk ins in
          let q = b + term_size i e in
          let want = option_and_then accumulator_type (lookup S x) in
          let kind = update_known q (lookup S x) (nil-right (faults S b (Value want) e) _ f) in
          let es = term_entries k b q e in
          update_fits v tk ins hs b _ x e are indexed (nil-left (faults S b (Value want) e) _ f) kind (sits_first all L.last_uses es _ b rest h) (counted_left all es _ c) op
      action_fits (Choose d blk o) v tk ins hs b rest are indexed on f h c =
          let S = scope v tk ins in
          let b1 = b + term_size i d in let g = b1 + 1 + block_size i blk in let end = g + otherwise_size i o in
          let ds = term_entries k b g d in
          let bs = block_entries k (b1 + 1) blk in
          let os = otherwise_entries k g end o in
          let f2 = nil-right (faults S b Condition d) _ f in
          let h2 = sits_second all L.last_uses ds _ b b1 (term_size i d) rest (term-listed k b g d (omega arith)).count refl h in
          let h4 = sits_next L.last_uses b1 _ _ h2 in
          let h5 = sits_second all L.last_uses bs _ (b1 + 1) g (block_size i blk) rest (block-listed k (b1 + 1) blk).count refl h4 in
          let c2 = (counted_right all ds _ c).1 in
          let c3 = counted_right all bs _ c2 in
          let tk2 = (after_block S blk).taken in (
            truth_stands v tk ins hs b are indexed d b g _ (nil-left (faults S b Condition d) _ f) (sits_first all L.last_uses ds _ b rest h) (counted_left all ds _ c),
            block_fits blk v tk ins hs (b1 + 1) _ (homes_later k R L all b (b1 + 1) 0 v hs (omega arith) are) indexed on (nil-left (block_faults S (b1 + 1) blk) _ f2) (sits_first all L.last_uses bs _ (b1 + 1) rest h4) (counted_left all bs _ c2),
            otherwise_fits o v tk2 ins hs g end _ (homes_later k R L all b g 0 v hs (omega arith) are) indexed on (nil-right (block_faults S (b1 + 1) blk) _ f2) (sits_first all L.last_uses os _ g rest h5) (counted_left all os _ c3),
          )
      action_fits (Leave d) v tk ins hs b rest are indexed on f h c =
          let q = b + term_size i d in
          let es = term_entries k b q d in
          truth_stands v tk ins hs b are indexed d b q _ f (sits_first all L.last_uses es _ b rest h) (counted_left all es _ c)

      pub block_fits : (blk : Block) (v : List Local) (tk : List (List ℕ)) (ins : Bool) (hs : Homes) (b : ℕ) (rest : List ℕ) → AreHomes k R L all b 0 v hs → IsIndexed ins hs → ins ≡ true → block_faults (scope v tk ins) b blk ≡ [] → Sits L.last_uses b (last_uses all (block_entries k b blk) rest) → AreUsesCounted all (block_entries k b blk) → FitsBlock L hs (scope v tk ins) b blk
      block_fits Done v tk ins hs b rest are indexed on f h c = tt
      block_fits (Then a more) v tk ins hs b rest are indexed on f h c =
          let S = scope v tk ins in
          let b1 = b + action_size i a in
          let es = action_entries k b a in
          let fa = nil-left (action_faults S b a) _ f in
          let fm = nil-right (action_faults S b a) _ f in
          let ha = sits_first all L.last_uses es _ b rest h in
          let n = names_after a v tk ins hs b _ are indexed fa ha in
          let hm = sits_second all L.last_uses es _ b b1 (action_size i a) rest (action-listed k b a).count refl h in
          let rest2 = block_fits more n.visible n.taken ins n.homes b1 rest n.are n.indexed on (subst (λ s. block_faults s b1 more ≡ []) n.scope_is fm) hm (counted_right all es _ c) in (
            action_fits a v tk ins hs b _ are indexed on fa ha (counted_left all es _ c),
            subst (λ h. FitsBlock L h (after_action S a) b1 more) (sym n.homes_is) (subst (λ s. FitsBlock L n.homes s b1 more) (sym n.scope_is) rest2),
          )

      pub otherwise_fits : (d : Otherwise) (v : List Local) (tk : List (List ℕ)) (ins : Bool) (hs : Homes) (b end : ℕ) (rest : List ℕ) → AreHomes k R L all b 0 v hs → IsIndexed ins hs → ins ≡ true → otherwise_faults (scope v tk ins) b d ≡ [] → Sits L.last_uses b (last_uses all (otherwise_entries k b end d) rest) → AreUsesCounted all (otherwise_entries k b end d) → FitsOtherwise L hs (scope v tk ins) b d
      otherwise_fits Nothing v tk ins hs b end rest are indexed on f h c = tt
      otherwise_fits (Else blk) v tk ins hs b end rest are indexed on f h c =
          block_fits blk v tk ins hs (b + 1) rest (homes_later k R L all b (b + 1) 0 v hs (omega arith) are) indexed on f (sits_next L.last_uses b _ _ h) c.1
