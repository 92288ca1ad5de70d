-- The names that a loop holds loosely: its statements and the answer ask for no more of them, each is what its form says and is
-- named once, and for each that takes a word there is an element, a store or an update.
use Rattle.std.proofs.Common.{◌≡◌, ℕ, ◌+◌, ◌*◌, ◌≤◌, Bool, true, false, cond, List, [], ◌∷◌, ◌++◌, length, Option, Some, None, refl, ap, ◌∙◌, arith}
use Rattle.std.specs.Prelude.{ℤ, is_none, option_map, option_and_then, ◌&&◌, if◌then◌else◌, bytes_eq}
use Rattle.std.specs.List.{find}
use Rattle.std.proofs.lemmas.Bool.{and_from, and_parts}
use Rattle.kernel_tree.specs.declared.ops.Ty.{Ty}
use Rattle.kernel_tree.specs.Plain.{Term, Literal, Variable, Element, Unary, Operation, Shift, Conversion, Choice, Comparison, Both, Either, Not, Action, Define, Put, Update, Choose, Leave, Block, Done, Then, Otherwise, Nothing, Else, PlainLoop, Returned, Program}
use Rattle.kernel_tree.specs.Items.{action_size, block_size, otherwise_size, for_loop_size, size_of, stream_offset, index_of}
use Rattle.kernel_tree.specs.Typing.{Scope, lookup, own, first, element_type, accumulator_type, index_type, in_loop, after_for_loop, var_scope, after_action, after_block, left}
use Rattle.kernel_tree.proofs.Names.{bytes_swap}
use Rattle.kernel_tree.proofs.Scopes.{scope_index}
use Rattle.kernel_meaning.specs.Operators.{operator_of}
use Rattle.kernel_meaning.specs.TypeValues.{binary_leaves}
use Rattle.scalar_words.specs.Layout.{LowBits, Ahead, Behind, Form, Loose, loose_form, is_loose, loose_in}
use Rattle.scalar_words.specs.Words.{is_narrow}
use Rattle.value_code.specs.declared.extent.Extent.TheVariants.{Whole}
use Rattle.value_code.specs.Extents.{extent_at}
use Rattle.value_code.specs.Covers.{is_whole}
use Rattle.value_code.proofs.CodedSizes.{element_moves, term_moves, moved_few}
use Rattle.value_code.proofs.CoversNone.{covers_none, covers_truth_none, index_by}
use Rattle.loop_code.specs.Statements.{update_extent}
use Rattle.loop_code.specs.Loosening.{covers_action, covers_block, covers_otherwise, narrow_at, gained, loosened, loosen_action, loosen_block, loosen_otherwise, element_arrays, put_ahead, with_array, term_arrays, action_arrays, block_arrays, otherwise_arrays, moved_names, keep_ahead, after_loop, covers_answer, may_move, counted_down, for_loop_loose, held_loosely}
use Rattle.loop_code.specs.Loop.{IsFormed, form_words, moving_words}

-- ---- no names that are held loosely

mutual
  action_none : (a : Action) (s : Scope) → covers_action [] s a ≡ true
  action_none (Define x t e) s = covers_none e s Whole (first t (own s e))
  action_none (Put a i e) s =
      let want = option_and_then element_type (lookup s a) in
      and_from _ _ (index_by s.index want (stream_offset s.index i) _ (covers_none i s Whole (index_type s i))) (covers_none e s (extent_at want) want)
  action_none (Update x op e) s = let want = option_and_then accumulator_type (lookup s x) in covers_none e s (update_extent [] x (operator_of op) want) want
  action_none (Choose c b d) s = and_from _ _ (covers_truth_none c s) (and_from _ _ (block_none b s) (otherwise_none d (left s (after_block s b))))
  action_none (Leave c) s = covers_truth_none c s

  pub block_none : (b : Block) (s : Scope) → covers_block [] s b ≡ true
  block_none Done s = refl
  block_none (Then a b) s = and_from _ _ (action_none a s) (block_none b (after_action s a))

  otherwise_none : (d : Otherwise) (s : Scope) → covers_otherwise [] s d ≡ true
  otherwise_none Nothing s = refl
  otherwise_none (Else b) s = block_none b s

answer_none : (o : Option Returned) (s : Scope) → covers_answer [] s o ≡ true
answer_none None s = refl
answer_none (Some a) s = covers_none a.value s Whole (Some a.type)

-- ---- one more

-- each is what its form says
abbrev pub AreFormed : Scope → List Loose → Type 0
AreFormed s [] = Unit {0}
AreFormed s (l ∷ ls) = IsFormed s l.name l.form × AreFormed s ls

-- and none has the name of a later one
abbrev pub AreNamedOnce : List Loose → Type 0
AreNamedOnce [] = Unit {0}
AreNamedOnce (l ∷ ls) = (loose_in ls l.name ≡ None) × AreNamedOnce ls

formed_last : (s : Scope) (ls : List Loose) (l : Loose) → AreFormed s ls → IsFormed s l.name l.form → AreFormed s (ls ++ l ∷ [])
formed_last s [] l h e = (e, tt)
formed_last s (x ∷ ls) l h e = (h.0, formed_last s ls l h.1 e)

none_step : (b : Bool) (l : Loose) (o q : Option Loose) → (option_map loose_form o ≡ None → option_map loose_form q ≡ None) → option_map loose_form (cond b (Some l) o) ≡ None → option_map loose_form (cond b (Some l) q) ≡ None
none_step true l o q f e = absurd cc
none_step false l o q f e = f e

none_last : (ls : List Loose) (m : Loose) (x : List ℕ) → loose_in ls x ≡ None → bytes_eq m.name x ≡ false → loose_in (ls ++ m ∷ []) x ≡ None
none_last [] m x e f = ap (λ b. option_map loose_form (cond b (Some m) None)) f
none_last (l ∷ ls) m x e f = none_step (is_loose x l) l (find (is_loose x) ls) (find (is_loose x) (ls ++ m ∷ [])) (λ k. none_last ls m x k f) e

other_step : (b : Bool) (l : Loose) (o : Option Loose) → option_map loose_form (cond b (Some l) o) ≡ None → (b ≡ false) × (option_map loose_form o ≡ None)
other_step true l o e = absurd cc
other_step false l o e = (refl, e)

once_last : (ls : List Loose) (m : Loose) → AreNamedOnce ls → loose_in ls m.name ≡ None → AreNamedOnce (ls ++ m ∷ [])
once_last [] m h e = (refl, tt)
once_last (l ∷ ls) m h e =
    let k = other_step (is_loose m.name l) l (find (is_loose m.name) ls) e in
    (none_last ls m l.name h.0 (bytes_swap l.name m.name k.0), once_last ls m h.1 k.1)

moving_last : (ls : List Loose) (l : Loose) → moving_words (ls ++ l ∷ []) ≡ moving_words ls + form_words l.form
moving_last [] l = omega arith
moving_last (x ∷ ls) l = let k = moving_last ls l in omega (arith, k)

length_last : (ls : List Loose) (l : Loose) → length (ls ++ l ∷ []) ≡ length ls + 1
length_last [] l = refl
length_last (x ∷ ls) l = let k = length_last ls l in omega (arith, k)

whole_none : (o : Option Form) → is_none o ≡ true → o ≡ None
whole_none None e = refl
whole_none (Some f) e = absurd cc

record Adds (s : Scope) (ls ms : List Loose) (n : ℕ) : Type 0 where
  formed : AreFormed s ls → AreFormed s ms
  once : AreNamedOnce ls → AreNamedOnce ms
  few : moving_words ms ≤ moving_words ls + n
  count : length ms ≤ length ls + n

adds_none : (s : Scope) (ls : List Loose) (n : ℕ) → Adds s ls ls n
adds_none s ls n = record { formed = λ h. h; once = λ h. h; few = omega arith; count = omega arith }

adds_one : (s : Scope) (ls : List Loose) (l : Loose) → IsFormed s l.name l.form → loose_in ls l.name ≡ None → form_words l.form ≤ 1 → Adds s ls (ls ++ l ∷ []) 1
adds_one s ls l is new le = let n = moving_last ls l in let m = length_last ls l in record { formed = λ h. formed_last s ls l h is; once = λ h. once_last ls l h new; few = omega (arith, n, le); count = omega (arith, m) }

adds_on : {s : Scope} {ls ms ks : List Loose} {m n : ℕ} (most : ℕ) → m + n ≤ most → Adds s ls ms m → Adds s ms ks n → Adds s ls ks most
adds_on most le j k =
    let a = j.few in
    let b = k.few in
    let c = j.count in
    let d = k.count in
    record { formed = λ h. k.formed (j.formed h); once = λ h. k.once (j.once h); few = omega (arith, a, b, le); count = omega (arith, c, d, le) }

-- ---- the arrays

array_step : (b : Bool) (s : Scope) (a : List ℕ) (o : Option Ty) (ls : List Loose) → is_whole ls a ≡ b → ((T : Ty) → o ≡ Some T → option_and_then element_type (lookup s a) ≡ Some T) → Adds s ls (put_ahead b a o ls) 1
array_step true s a None ls e f = adds_none s ls 1
array_step true s a (Some t) ls e f = adds_one s ls (record { name = a; form = Ahead t }) (f t refl) (whole_none (loose_in ls a) e) (omega arith)
array_step false s a o ls e f = adds_none s ls 1

array_adds : (s : Scope) (a : List ℕ) (ls : List Loose) → Adds s ls (with_array s a ls) 1
array_adds s a ls = array_step (is_whole ls a) s a (option_and_then element_type (lookup s a)) ls refl (λ T e. e)

element_adds : (o : Option ℤ) (s : Scope) (a : List ℕ) (ls ms : List Loose) (n : ℕ) → Adds s ls ms n → Adds s ls (element_arrays o (with_array s a ls) ms) (element_moves o n)
element_adds (Some c) s a ls ms n h = array_adds s a ls
element_adds None s a ls ms n h = h

term_adds : (e : Term) (s : Scope) (ls : List Loose) → Adds s ls (term_arrays s e ls) (term_moves s.index e)
term_adds (Literal z) s ls = adds_none s ls 0
term_adds (Variable x) s ls = adds_none s ls 0
term_adds (Element a e) s ls = element_adds (stream_offset s.index e) s a ls (term_arrays s e ls) (term_moves s.index e) (term_adds e s ls)
term_adds (Unary op e) s ls = term_adds e s ls
term_adds (Operation op x y) s ls = adds_on _ (omega arith) (term_adds x s ls) (term_adds y s (term_arrays s x ls))
term_adds (Shift left e n) s ls = term_adds e s ls
term_adds (Conversion e t) s ls = term_adds e s ls
term_adds (Choice c x y) s ls = adds_on _ (omega arith) (adds_on (term_moves s.index x + term_moves s.index y) (omega arith) (term_adds x s ls) (term_adds y s (term_arrays s x ls))) (term_adds c s (term_arrays s y (term_arrays s x ls)))
term_adds (Comparison op x y) s ls = adds_on _ (omega arith) (term_adds x s ls) (term_adds y s (term_arrays s x ls))
term_adds (Both x y) s ls = adds_on _ (omega arith) (term_adds x s ls) (term_adds y s (term_arrays s x ls))
term_adds (Either x y) s ls = adds_on _ (omega arith) (term_adds x s ls) (term_adds y s (term_arrays s x ls))
term_adds (Not e) s ls = term_adds e s ls

-- the elements and stores of statements
abbrev mutual
  pub action_streams : Option (List ℕ) → Action → ℕ
  action_streams i (Define x t e) = term_moves i e
  action_streams i (Put a o e) = term_moves i e + 1
  action_streams i (Update x op e) = term_moves i e
  action_streams i (Choose c b d) = term_moves i c + block_streams i b + otherwise_streams i d
  action_streams i (Leave c) = term_moves i c

  pub block_streams : Option (List ℕ) → Block → ℕ
  block_streams i Done = 0
  block_streams i (Then a b) = action_streams i a + block_streams i b

  pub otherwise_streams : Option (List ℕ) → Otherwise → ℕ
  otherwise_streams i Nothing = 0
  otherwise_streams i (Else b) = block_streams i b

mutual
  action_adds : (a : Action) (s : Scope) (ls : List Loose) → Adds s ls (action_arrays s a ls) (action_streams s.index a)
  action_adds (Define x t e) s ls = term_adds e s ls
  action_adds (Put a i e) s ls = adds_on _ (omega arith) (term_adds e s ls) (array_adds s a (term_arrays s e ls))
  action_adds (Update x op e) s ls = term_adds e s ls
  action_adds (Choose c b d) s ls = adds_on _ (omega arith) (adds_on (term_moves s.index c + block_streams s.index b) (omega arith) (term_adds c s ls) (block_adds b s (term_arrays s c ls))) (otherwise_adds d s (block_arrays s b (term_arrays s c ls)))
  action_adds (Leave c) s ls = term_adds c s ls

  block_adds : (b : Block) (s : Scope) (ls : List Loose) → Adds s ls (block_arrays s b ls) (block_streams s.index b)
  block_adds Done s ls = adds_none s ls 0
  block_adds (Then a b) s ls = adds_on _ (omega arith) (action_adds a s ls) (block_adds b s (action_arrays s a ls))

  otherwise_adds : (d : Otherwise) (s : Scope) (ls : List Loose) → Adds s ls (otherwise_arrays s d ls) (otherwise_streams s.index d)
  otherwise_adds Nothing s ls = adds_none s ls 0
  otherwise_adds (Else b) s ls = block_adds b s ls

-- ---- counting to zero

-- what holds of the names of a loop
record Stands (s : Scope) (l : PlainLoop) (answer : Option Returned) (ls : List Loose) (n : ℕ) : Type 0 where
  covered : covers_block ls (in_loop s l) l.body ≡ true
  answered : covers_answer (after_loop ls) (after_for_loop s (Some l)) answer ≡ true
  formed : AreFormed (in_loop s l) ls
  once : AreNamedOnce ls
  few : moving_words ls ≤ n
  count : length ls ≤ 1 + n

down_step : (b : Bool) (s : Scope) (l : PlainLoop) (answer : Option Returned) (ls : List Loose) (n : ℕ) → may_move ls s l answer ≡ b → AreFormed (in_loop s l) ls → AreNamedOnce ls → moving_words ls ≤ n → length ls ≤ 1 + n → Stands s l answer (if b then ls else []) n
down_step true s l answer ls n e formed once few count =
    let c = covers_block ls (in_loop s l) l.body in
    let a = covers_answer (after_loop ls) (after_for_loop s (Some l)) answer in
    record { covered = (and_parts c a e).0; answered = (and_parts c a e).1; formed = formed; once = once; few = few; count = count }
down_step false s l answer ls n e formed once few count = record { covered = block_none l.body (in_loop s l); answered = answer_none answer (after_for_loop s (Some l)); formed = tt; once = tt; few = omega arith; count = omega arith }

down_stands : (s : Scope) (l : PlainLoop) (answer : Option Returned) → s.index ≡ Some l.index → Stands s l answer (counted_down s l answer) (block_streams s.index l.body)
down_stands s l answer e =
    let start : Loose = record { name = l.index; form = Behind } in
    let k = block_adds l.body (in_loop s l) (start ∷ []) in
    let few = k.few in
    let count = k.count in
    down_step (may_move (moved_names (in_loop s l) l) s l answer) s l answer (moved_names (in_loop s l) l) (block_streams s.index l.body) refl (k.formed (e, tt)) (k.once (refl, tt)) (omega (arith, few)) (omega (arith, count))

-- ---- the accumulators

record Loosens (s : Scope) (all : Block) (ls ms : List Loose) (n : ℕ) : Type 0 where
  covered : covers_block ls s all ≡ true → covers_block ms s all ≡ true
  after : after_loop ms ≡ after_loop ls
  adds : Adds s ls ms n

loosens_nothing : (s : Scope) (all : Block) (ls : List Loose) (n : ℕ) → Loosens s all ls ls n
loosens_nothing s all ls n = record { covered = λ e. e; after = refl; adds = adds_none s ls n }

loosens_then : {s : Scope} {all : Block} {ls ms ks : List Loose} {m n : ℕ} (most : ℕ) → m + n ≤ most → Loosens s all ls ms m → Loosens s all ms ks n → Loosens s all ls ks most
loosens_then most le j k = record { covered = λ e. k.covered (j.covered e); after = k.after ∙ j.after; adds = adds_on most le j.adds k.adds }

after_last : (ls : List Loose) (x : List ℕ) (t : Ty) → after_loop (ls ++ record { name = x; form = LowBits t } ∷ []) ≡ after_loop ls
after_last [] x t = refl
after_last (l ∷ ls) x t = ap (keep_ahead l.form l) (after_last ls x t)

one_step : (b : Bool) (s : Scope) (all : Block) (ls : List Loose) (x : List ℕ) (t : Ty) → covers_block (ls ++ record { name = x; form = LowBits t } ∷ []) s all ≡ b → loose_in ls x ≡ None → option_and_then accumulator_type (lookup s x) ≡ Some t → Loosens s all ls (if b then ls ++ record { name = x; form = LowBits t } ∷ [] else ls) 1
one_step true s all ls x t e new is = record { covered = λ f. e; after = after_last ls x t; adds = adds_one s ls (record { name = x; form = LowBits t }) is new (omega arith) }
one_step false s all ls x t e new is = loosens_nothing s all ls 1

narrow_is : (b : Bool) (t T : Ty) → (if b then Some t else None) ≡ Some T → t ≡ T
narrow_is true t T e = cc
narrow_is false t T e = absurd cc

narrow_told : (want : Option Ty) (T : Ty) → narrow_at want ≡ Some T → want ≡ Some T
narrow_told None T e = absurd cc
narrow_told (Some t) T e = ap (λ u. Some u) (narrow_is (is_narrow t) t T e)

gained_step : (b w : Bool) (want : Option Ty) (T : Ty) → (if b && w then narrow_at want else None) ≡ Some T → (w ≡ true) × (want ≡ Some T)
gained_step true true want T e = (refl, narrow_told want T e)
gained_step true false want T e = absurd cc
gained_step false w want T e = absurd cc

update_step : (s : Scope) (all : Block) (x : List ℕ) (o : Option Ty) (ls : List Loose) → ((T : Ty) → o ≡ Some T → (is_whole ls x ≡ true) × (option_and_then accumulator_type (lookup s x) ≡ Some T)) → Loosens s all ls (loosened s all x o ls) 1
update_step s all x None ls f = loosens_nothing s all ls 1
update_step s all x (Some t) ls f =
    let k = f t refl in
    one_step (covers_block (ls ++ record { name = x; form = LowBits t } ∷ []) s all) s all ls x t refl (whole_none (loose_in ls x) k.0) k.1

-- ---- the walk

-- the updates of statements
abbrev mutual
  pub action_updates : Action → ℕ
  action_updates (Define x t e) = 0
  action_updates (Put a i e) = 0
  action_updates (Update x op e) = 1
  action_updates (Choose c b d) = block_updates b + otherwise_updates d
  action_updates (Leave c) = 0

  pub block_updates : Block → ℕ
  block_updates Done = 0
  block_updates (Then a b) = action_updates a + block_updates b

  pub otherwise_updates : Otherwise → ℕ
  otherwise_updates Nothing = 0
  otherwise_updates (Else b) = block_updates b

mutual
  action_loosens : (a : Action) (s : Scope) (all : Block) (ls : List Loose) → Loosens s all ls (loosen_action s all a ls) (action_updates a)
  action_loosens (Define x t e) s all ls = loosens_nothing s all ls 0
  action_loosens (Put a i e) s all ls = loosens_nothing s all ls 0
  action_loosens (Update x op e) s all ls =
      let want = option_and_then accumulator_type (lookup s x) in
      update_step s all x (gained ls x (operator_of op) want) ls (λ T e. gained_step (binary_leaves (operator_of op)) (is_whole ls x) want T e)
  action_loosens (Choose c b d) s all ls = loosens_then _ (omega arith) (block_loosens b s all ls) (otherwise_loosens d s all (loosen_block s all b ls))
  action_loosens (Leave c) s all ls = loosens_nothing s all ls 0

  block_loosens : (b : Block) (s : Scope) (all : Block) (ls : List Loose) → Loosens s all ls (loosen_block s all b ls) (block_updates b)
  block_loosens Done s all ls = loosens_nothing s all ls 0
  block_loosens (Then a b) s all ls = loosens_then _ (omega arith) (action_loosens a s all ls) (block_loosens b s all (loosen_action s all a ls))

  otherwise_loosens : (d : Otherwise) (s : Scope) (all : Block) (ls : List Loose) → Loosens s all ls (loosen_otherwise s all d ls) (otherwise_updates d)
  otherwise_loosens Nothing s all ls = loosens_nothing s all ls 0
  otherwise_loosens (Else b) s all ls = block_loosens b s all ls

-- ---- elements, stores and updates are items

mutual
  action_count : (i : Option (List ℕ)) (a : Action) → action_streams i a + action_updates a ≤ 4 * action_size i a
  action_count i (Define x t e) = let k = moved_few e [] i in omega (arith, k)
  action_count i (Put a o e) = let k = moved_few e [] i in omega (arith, k)
  action_count i (Update x op e) = let k = moved_few e [] i in omega (arith, k)
  action_count i (Choose c b d) = let h = moved_few c [] i in let k = block_count i b in let j = otherwise_count i d in omega (arith, h, k, j)
  action_count i (Leave c) = let k = moved_few c [] i in omega (arith, k)

  block_count : (i : Option (List ℕ)) (b : Block) → block_streams i b + block_updates b ≤ 4 * block_size i b
  block_count i Done = omega arith
  block_count i (Then a b) = let k = action_count i a in let j = block_count i b in omega (arith, k, j)

  otherwise_count : (i : Option (List ℕ)) (d : Otherwise) → otherwise_streams i d + otherwise_updates d ≤ 4 * otherwise_size i d
  otherwise_count i Nothing = omega arith
  otherwise_count i (Else b) = let k = block_count i b in omega (arith, k)

-- ---- a kernel

loop_loosens : (l : PlainLoop) (s : Scope) (answer : Option Returned) → Loosens (in_loop s l) l.body (counted_down s l answer) (for_loop_loose s (Some l) answer) (block_updates l.body)
loop_loosens l s answer = block_loosens l.body (in_loop s l) l.body (counted_down s l answer)

pub loop_covered : (l : PlainLoop) (s : Scope) (answer : Option Returned) → s.index ≡ Some l.index → covers_block (for_loop_loose s (Some l) answer) (in_loop s l) l.body ≡ true
loop_covered l s answer e = (loop_loosens l s answer).covered (down_stands s l answer e).covered

pub loop_answered : (l : PlainLoop) (s : Scope) (answer : Option Returned) → s.index ≡ Some l.index → covers_answer (after_loop (for_loop_loose s (Some l) answer)) (after_for_loop s (Some l)) answer ≡ true
loop_answered l s answer e = ap (λ ls. covers_answer ls (after_for_loop s (Some l)) answer) (loop_loosens l s answer).after ∙ (down_stands s l answer e).answered

pub loop_formed : (l : PlainLoop) (s : Scope) (answer : Option Returned) → s.index ≡ Some l.index → AreFormed (in_loop s l) (for_loop_loose s (Some l) answer)
loop_formed l s answer e = (loop_loosens l s answer).adds.formed (down_stands s l answer e).formed

pub loop_once : (l : PlainLoop) (s : Scope) (answer : Option Returned) → s.index ≡ Some l.index → AreNamedOnce (for_loop_loose s (Some l) answer)
loop_once l s answer e = (loop_loosens l s answer).adds.once (down_stands s l answer e).once

pub loop_few : (l : PlainLoop) (s : Scope) (answer : Option Returned) → s.index ≡ Some l.index → moving_words (for_loop_loose s (Some l) answer) ≤ block_streams s.index l.body + block_updates l.body
loop_few l s answer e = let k = (loop_loosens l s answer).adds.few in let j = (down_stands s l answer e).few in omega (arith, k, j)

for_loop_few : (s : Scope) (o : Option PlainLoop) (answer : Option Returned) → s.index ≡ option_map index_of o → length (for_loop_loose s o answer) ≤ 1 + 4 * for_loop_size o
for_loop_few s None answer e = omega arith
for_loop_few s (Some l) answer e =
    let k = (loop_loosens l s answer).adds.count in
    let j = (down_stands s l answer e).count in
    let i = ap (λ x. block_streams x l.body) e in
    let h = block_count (Some l.index) l.body in
    omega (arith, k, j, i, h)

pub few_loose : (k : Program) → length (held_loosely k) ≤ 1 + 4 * size_of k
few_loose k = let f = for_loop_few (var_scope k) k.for_loop k.answer (scope_index k) in omega (arith, f)
