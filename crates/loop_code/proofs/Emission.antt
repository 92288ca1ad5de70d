-- What emission keeps of names.
use Rattle.std.proofs.Common.{◌≡◌, Bool, true, false, if◌then◌else◌, ℕ, zero, suc, ◌+◌, ◌<◌, ◌≤◌, ◌^◌, List, [], ◌∷◌, ◌++◌, length, take, drop, get_or, drop-cons, add-one, Option, Some, None, refl, sym, ap, ◌∙◌, arith}
use Rattle.std.proofs.lemmas.List.{append-nil}
use Rattle.std.specs.Prelude.{option_map, option_and_then}
use Rattle.kernel_tree.specs.declared.fault.Binding.{Binding}
use Rattle.kernel_tree.specs.Plain.{Term, Update, Block, Parameter, Accumulator, PlainLoop, Program}
use Rattle.kernel_tree.specs.Items.{block_size, answer_size, for_loop_size, index_of, loop_index, loop_start, loop_end, size_of}
use Rattle.kernel_tree.specs.Typing.{Local, Scope, local, declared, is_taken, lookup, accumulator_type, first, after_block, after_for_loop, param_scope, var_scope}
use Rattle.kernel_scope.proofs.Growth.{grows_by_block, back}
use Rattle.kernel_tree.proofs.Scopes.{scope_index}
use Rattle.kernel_tree.specs.declared.ops.Ty.{Ty}
use Rattle.kernel_tree.specs.declared.ops.BinaryOp.{BinaryOp}
use Rattle.kernel_tree.specs.declared.ops.UpdateOp.{UpdateOp}
use Rattle.kernel_tree.proofs.Walks.{var_scope-index}
use Rattle.kernel_meaning.specs.Operators.{operator_of}
use Rattle.scalar_words.specs.Words.{word_code, at_type}
use Rattle.value_code.specs.declared.extent.Extent.{Extent}
use Rattle.value_code.specs.ItemWords.{Side, operator_code}
use Rattle.value_code.specs.Code.{added_number, is_fused, right_side, side_code, parts_code, loose_code}
use Rattle.label_fix.specs.DraftRun.{DraftEntry, Place}
use Rattle.scalar_words.specs.declared.home.Home.{Home as Kept}
use Rattle.scalar_words.specs.declared.constant.Constant.{Constant as Number}
use Rattle.scalar_words.specs.declared.loose.Loose.{Loose as LooseName}
use Rattle.scalar_words.specs.Layout.{Constant, LowBits, Loose, Layout, Homes, with_constants, with_loose, register_at}
use Rattle.loop_code.specs.Statements.{block_homes, block_labels, update_extent, update_settles, action_code}
use Rattle.loop_code.specs.Loosening.{covers_block, loosened, for_loop_loose, after_loop, held_loosely}
use Rattle.loop_code.specs.LoopNumbers.{hold_block, for_loop_numbers, held_numbers, loop_layout}
use Rattle.loop_code.specs.Loop.{bare, index_home, with_index, answer_code, answer_labels, key_code, numbers_code, enter_word, enter_code, settle_form, settle_code, iterations_code, leave_code}
use Rattle.scalar_words.specs.KernelRegisters.{layout_of_kernel, param_homes, kernel_homes}
use Rattle.loop_code.specs.Kernel.{arguments_code, vars_code, vars_labels, zero_index, begin_code, begin_labels, straight_code, for_loop_code, for_loop_labels, scalar_code, scalar_labels}
use Rattle.kernel_scope.specs.Scopes.{lent_text, closed}
use Rattle.scalar_words.specs.View.{form_of, key_of, constants_of, loose_of, looses_of, home_of, homes_of}
use Rattle.loop_code.proofs.StmtRuns.{homes_block}

-- ---- after a block

take_map : (n : ℕ) (hs : List Kept) → homes_of (take n hs) ≡ take n (homes_of hs)
take_map zero hs = refl
take_map (suc n) [] = refl
take_map (suc n) (h ∷ hs) = ap (λ l. home_of h ∷ l) (take_map n hs)

take_front : (xs ys : Homes) (n : ℕ) → n ≡ length xs → take n (xs ++ ys) ≡ xs
take_front [] ys n e = rw e refl
take_front (x ∷ xs) ys n e = rw e (ap (λ l. x ∷ l) (take_front xs ys (length xs) refl))

homes_length : (hs : List Kept) → length (homes_of hs) ≡ length hs
homes_length [] = refl
homes_length (h ∷ hs) = ap suc (homes_length hs)

-- the names of a block are visible no more
pub homes_back : (L : Layout) (old new : List Kept) (s : Scope) (n b : ℕ) (blk : Block) → n ≡ length old → homes_of new ≡ block_homes L (homes_of old) s b blk → homes_of (take n new) ≡ homes_of old
homes_back L old new s n b blk e is =
    let x = homes_block L (homes_of old) s b blk in
    take_map n new ∙ ap (take n) (is ∙ x.is) ∙ take_front (homes_of old) x.more n (e ∙ sym (homes_length old))

-- ---- after the statements of a loop

same_scope : (s : Scope) (ls : List Local) (names : List (List ℕ)) (i : Option (List ℕ)) (b : Bool) → ls ≡ s.visible → names ≡ s.taken → i ≡ s.index → b ≡ s.inside → record { visible = ls; taken = names; index = i; inside = b } ≡ s
same_scope s ls names i b e f g h = rw (e, f, g, h) refl

-- the scope t of the statements has the names of s
pub restored : (s t : Scope) (n m : ℕ) (b : Block) → t.visible ≡ s.visible → t.taken ≡ s.taken → t.index ≡ s.index → n ≡ length s.visible → m ≡ length s.taken → record (closed n m (after_block t b)) { inside = s.inside } ≡ s
restored s t n m b p q r e f =
    let g = grows_by_block b t in
    same_scope s _ _ _ _ (back n s.visible (after_block t b).visible g.more e (g.visible ∙ ap (λ (ls : List Local). ls ++ g.more) p)) (back m s.taken (after_block t b).taken g.names f (g.taken ∙ ap (λ (xs : List (List ℕ)). xs ++ g.names) q)) (g.index ∙ r) refl

back_name : (m : ℕ) (b : Bool) (names : List (List ℕ)) (x : List ℕ) → m ≡ length names → take m (if b then names else names ++ x ∷ []) ≡ names
back_name m true names x e = back m names names [] e (sym (append-nil names))
back_name m false names x e = back m names (names ++ x ∷ []) (x ∷ []) e refl

-- one name is declared no more
pub undeclared : (s : Scope) (x : List ℕ) (b : Binding) (n m : ℕ) → n ≡ length s.visible → m ≡ length s.taken → s.inside ≡ false → closed n m (declared s x b) ≡ s
undeclared s x b n m e f o = same_scope s _ _ _ _ (back n s.visible (s.visible ++ local x b ∷ []) (local x b ∷ []) e refl) (back_name m (is_taken s x) s.taken x f) refl (sym o)

-- the loop variable has a home
homes_push : (hs : List Kept) (h : Kept) → homes_of (hs ++ h ∷ []) ≡ homes_of hs ++ home_of h ∷ []
homes_push [] h = refl
homes_push (k ∷ hs) h = ap (λ l. home_of k ∷ l) (homes_push hs h)

pub index_named : (old new : List Kept) (h : Kept) (l : PlainLoop) → new ≡ old ++ h ∷ [] → home_of h ≡ index_home l.index → homes_of new ≡ with_index (homes_of old) l
index_named old new h l e f = ap homes_of e ∙ homes_push old h ∙ ap (λ x. homes_of old ++ x ∷ []) f

-- ---- the code before the loop

pub begin_is : (R : ℕ → ℕ) (k : Program) (L : Layout) (hs : Homes) (s : Scope) (first n m : ℕ) (ps : List Parameter) (vs : List Accumulator) (rest : List DraftEntry) → L ≡ layout_of_kernel R k → hs ≡ param_homes 0 ps → s ≡ param_scope k → first ≡ length k.params → n ≡ m → ps ≡ k.params → vs ≡ k.vars → arguments_code 0 ps (vars_code L R hs s 0 first n vs (zero_index rest)) ≡ begin_code R k m rest
begin_is R k L hs s first n m ps vs rest d e f g h i j = rw (d, e, f, g, h, i, j) refl

pub begin_count : (k : Program) (s : Scope) (n m o : ℕ) (vs : List Accumulator) → s.index ≡ loop_index k → vs ≡ k.vars → m ≡ n → o ≡ m + vars_labels s.index vs → o ≡ n + begin_labels k
begin_count k s n m o vs e f g h = h ∙ rw (e, f, g) refl

-- ---- the loop and what follows it

pub scalar_is : (R : ℕ → ℕ) (k : Program) (N L : Layout) (l : PlainLoop) (b n b2 n2 : ℕ) (rest : List DraftEntry) → N ≡ loop_layout R k → L ≡ bare (loop_layout R k) → k.for_loop ≡ Some l → b ≡ loop_start k → b2 ≡ loop_end k → n2 ≡ n + 4 + block_labels (loop_index k) l.body → iterations_code N (kernel_homes R k) (var_scope k) l b n (leave_code L (kernel_homes R k) (var_scope k) l b2 n2 k.answer rest) ≡ scalar_code R k n rest
scalar_is R k N L l b n b2 n2 rest c d e f g h =
    let i : n2 ≡ n + 4 + block_labels (var_scope k).index l.body = h ∙ ap (λ j. n + 4 + block_labels j l.body) (sym (scope_index k)) in
    rw (c, d, f, g, i) (ap (λ t. for_loop_code (loop_layout R k) (kernel_homes R k) (var_scope k) t (loop_start k) n (loop_end k) k.answer rest) (sym e))

-- a kernel without a loop holds nothing
layout_without_loop : (R : ℕ → ℕ) (k : Program) → k.for_loop ≡ None → layout_of_kernel R k ≡ bare (loop_layout R k)
layout_without_loop R k e = ap (λ t. with_loose (layout_of_kernel R k) (after_loop (for_loop_loose (var_scope k) t k.answer))) (sym e)

pub straight_is : (R : ℕ → ℕ) (k : Program) (L : Layout) (b n : ℕ) (rest : List DraftEntry) → L ≡ layout_of_kernel R k → k.for_loop ≡ None → b ≡ loop_start k → straight_code L (kernel_homes R k) (var_scope k) n b k.answer rest ≡ scalar_code R k n rest
straight_is R k L b n rest d e f =
    let z = ap for_loop_size e in
    let g : b ≡ loop_end k = omega (arith, f, z) in
    let h = d ∙ layout_without_loop R k e in
    rw (h, g) (ap (λ t. for_loop_code (loop_layout R k) (kernel_homes R k) (var_scope k) t (loop_start k) n (loop_end k) k.answer rest) (sym e))

-- the same, of what is known of the names before the loop and after it
pub for_loop_is : (R : ℕ → ℕ) (k : Program) (N L : Layout) (hs hs2 : Homes) (s s2 : Scope) (l : PlainLoop) (b n b2 n2 : ℕ) (rest : List DraftEntry) → N ≡ loop_layout R k → L ≡ bare (loop_layout R k) → hs ≡ kernel_homes R k → s ≡ var_scope k → hs2 ≡ with_index hs l → s2 ≡ after_for_loop s (Some l) → k.for_loop ≡ Some l → b ≡ loop_start k → b2 ≡ loop_end k → n2 ≡ n + 4 + block_labels s.index l.body
    → iterations_code N hs s l b n (answer_code L hs2 s2 b2 n2 k.answer rest) ≡ scalar_code R k n rest
for_loop_is R k N L hs hs2 s s2 l b n b2 n2 rest e1 e2 h t h2 t2 f g m c =
    let d : n2 ≡ n + 4 + block_labels (loop_index k) l.body = c ∙ ap (λ i. n + 4 + block_labels i l.body) (var_scope-index k s t) in
    rw (h2, t2, h, t) (scalar_is R k N L l b n b2 n2 rest e1 e2 f g m d)

pub for_loop_count : (k : Program) (l : PlainLoop) (s s2 : Scope) (n n2 n3 : ℕ) → s ≡ var_scope k → s2 ≡ after_for_loop s (Some l) → k.for_loop ≡ Some l → n2 ≡ n + 4 + block_labels s.index l.body → n3 ≡ n2 + answer_labels s2.index k.answer → n3 ≡ n + scalar_labels k
for_loop_count k l s s2 n n2 n3 t t2 f c d =
    let i = var_scope-index k s t in
    let j : s2.index ≡ loop_index k = ap (λ (r : Scope). r.index) t2 ∙ i in
    let g : scalar_labels k ≡ 4 + block_labels (loop_index k) l.body + answer_labels (loop_index k) k.answer = ap (λ o. for_loop_labels (loop_index k) o k.answer) f in
    let p : n2 ≡ n + 4 + block_labels (loop_index k) l.body = c ∙ ap (λ o. n + 4 + block_labels o l.body) i in
    let q : n3 ≡ n2 + answer_labels (loop_index k) k.answer = d ∙ ap (λ o. n2 + answer_labels o k.answer) j in
    omega (arith, g, p, q)

pub bare_code : (R : ℕ → ℕ) (k : Program) (L : Layout) (hs : Homes) (s : Scope) (b n given : ℕ) (rest : List DraftEntry) → L ≡ layout_of_kernel R k → hs ≡ kernel_homes R k → s ≡ var_scope k → k.for_loop ≡ None → b ≡ loop_start k → given ≡ n + 1 → Place n ∷ answer_code L hs s b given k.answer rest ≡ scalar_code R k n rest
bare_code R k L hs s b n given rest d h t f g e = rw (h, t, e) (straight_is R k L b n rest d f g)

pub bare_count : (k : Program) (s : Scope) (n given n2 : ℕ) → s.index ≡ loop_index k → k.for_loop ≡ None → given ≡ n + 1 → n2 ≡ given + answer_labels s.index k.answer → n2 ≡ n + scalar_labels k
bare_count k s n given n2 i f e c =
    let g : scalar_labels k ≡ 1 + answer_labels (loop_index k) k.answer = ap (λ o. for_loop_labels (loop_index k) o k.answer) f in
    let d : n2 ≡ given + answer_labels (loop_index k) k.answer = c ∙ ap (λ o. given + answer_labels o k.answer) i in
    omega (arith, g, e, d)

-- ---- items

pub loop_ends : (k : Program) (l : PlainLoop) (s : Scope) (b b2 : ℕ) → s ≡ var_scope k → k.for_loop ≡ Some l → b ≡ loop_start k → b2 ≡ b + (1 + block_size s.index l.body) → b2 ≡ loop_end k
loop_ends k l s b b2 t f g c =
    let i : s.index ≡ Some l.index = var_scope-index k s t ∙ ap (option_map index_of) f in
    let z : for_loop_size k.for_loop ≡ 1 + block_size (Some l.index) l.body = ap for_loop_size f in
    let d : b2 ≡ b + (1 + block_size (Some l.index) l.body) = c ∙ ap (λ o. b + (1 + block_size o l.body)) i in
    omega (arith, g, z, d)

pub loop_room : (k : Program) (l : PlainLoop) (s : Scope) (b : ℕ) → size_of k ≤ 1000 → s ≡ var_scope k → k.for_loop ≡ Some l → b ≡ loop_start k → b + (1 + block_size s.index l.body) < 2 ^ 32
loop_room k l s b few t f g =
    let e : b + (1 + block_size s.index l.body) ≡ loop_end k = loop_ends k l s b _ t f g refl in
    omega (arith, few, e)

pub at_start : (k : Program) (b : ℕ) → b ≡ loop_start k → b ≤ loop_end k
at_start k b e = omega (arith, e)

pub within_loop_end : (k : Program) (b : ℕ) → b ≡ loop_end k → b ≤ loop_end k
within_loop_end k b e = omega (arith, e)

pub answer_room : (k : Program) (s : Scope) (b : ℕ) → size_of k ≤ 1000 → s.index ≡ loop_index k → b ≤ loop_end k → b + answer_size s.index k.answer < 2 ^ 32
answer_room k s b few i le =
    let e : answer_size s.index k.answer ≡ answer_size (loop_index k) k.answer = ap (λ o. answer_size o k.answer) i in
    omega (arith, few, e, le)

-- ---- updates

pub update_is : (L : Layout) (hs : Homes) (s : Scope) (exit b n : ℕ) (x : List ℕ) (by : UpdateOp) (op : BinaryOp) (want : Option Ty) (asked : Extent) (e : Term) (side : Side) (leaves : Bool) (d : ℕ) (rest : List DraftEntry) → op ≡ operator_of by → want ≡ option_and_then accumulator_type (lookup s x) → asked ≡ update_extent L.loose x op want → side ≡ right_side L hs s op asked want b e → leaves ≡ update_settles L.loose x op want → d ≡ register_at hs x
    → side_code (added_number op want e) (is_fused s op asked want e) (loose_code L hs s asked want b n e) (parts_code L hs s asked want b n e) (at_type want (λ t. operator_code side leaves op t d d rest) rest) ≡ action_code L hs s exit b n (Update x by e) rest
update_is L hs s exit b n x by op want asked e side leaves d rest o w e1 e2 e3 e4 = rw (e2, e3, e4, e1, w, o) refl

-- ---- numbers that are held

pub number_step : (cs ds : List Number) (c : Number) (rest : List DraftEntry) → cs ≡ c ∷ ds → key_code (key_of c.key) c.register.number (numbers_code (constants_of ds) rest) ≡ numbers_code (constants_of cs) rest
number_step cs ds c rest e = ap (λ (xs : List Number). numbers_code (constants_of xs) rest) (sym e)

pub numbers_are : (R : ℕ → ℕ) (k : Program) (l : PlainLoop) (p : ℕ) (hs : Homes) (s : Scope) → p ≡ length k.params → hs ≡ kernel_homes R k → s ≡ var_scope k → k.for_loop ≡ Some l → hold_block p hs s l.body [] ≡ held_numbers R k
numbers_are R k l p hs s e f g h = rw (e, f, g) (ap (for_loop_numbers (length k.params) (kernel_homes R k) (var_scope k)) (sym h))

pub held_is : (R : ℕ → ℕ) (k : Program) (N M L : Layout) → N ≡ with_loose M (held_loosely k) → M ≡ with_constants L (held_numbers R k) → L ≡ layout_of_kernel R k → N ≡ loop_layout R k
held_is R k N M L d e f = d ∙ ap (λ (K : Layout). with_loose K (held_loosely k)) (e ∙ ap (λ (K : Layout). with_constants K (held_numbers R k)) f)

pub bare_is : (R : ℕ → ℕ) (k : Program) (L M N : Layout) (cs : List Constant) (ls : List Loose) → L ≡ with_loose M ls → ls ≡ after_loop M.loose → M ≡ with_constants N cs → cs ≡ [] → N ≡ loop_layout R k → L ≡ bare (loop_layout R k)
bare_is R k L M N cs ls d left e none f =
    let m : M ≡ with_constants N [] = e ∙ ap (with_constants N) none in
    d ∙ ap (with_loose M) left ∙ ap (λ (K : Layout). with_loose K (after_loop K.loose)) (m ∙ ap (λ (K : Layout). with_constants K []) f)

-- ---- names that are held loosely

-- what is left of them from a place on
drop_at_index : (ls : List LooseName) (i : ℕ) (l : LooseName) → i < length ls → drop i ls ≡ get_or ls i l ∷ drop (i + 1) ls
drop_at_index ls i l lt = drop-cons ls i l lt ∙ ap (λ n. get_or ls i l ∷ drop n ls) (sym (add-one i))

pub enter_step : (r : ℕ) (hs : Homes) (ls : List LooseName) (i : ℕ) (l : LooseName) (d : ℕ) (rest : List DraftEntry) → i < length ls → d ≡ register_at hs (lent_text (get_or ls i l).name) → word_code (enter_word r d (form_of (get_or ls i l).form)) (enter_code r hs (looses_of (drop (i + 1) ls)) rest) ≡ enter_code r hs (looses_of (drop i ls)) rest
enter_step r hs ls i l d rest lt f =
    ap (λ q. word_code (enter_word r q (form_of (get_or ls i l).form)) (enter_code r hs (looses_of (drop (i + 1) ls)) rest)) f
    ∙ ap (λ (xs : List LooseName). enter_code r hs (looses_of xs) rest) (sym (drop_at_index ls i l lt))

pub settle_step : (r : ℕ) (hs : Homes) (ls : List LooseName) (i : ℕ) (l : LooseName) (d : ℕ) (rest : List DraftEntry) → i < length ls → d ≡ register_at hs (lent_text (get_or ls i l).name) → word_code (settle_form r d (form_of (get_or ls i l).form)) (settle_code r hs (looses_of (drop (i + 1) ls)) rest) ≡ settle_code r hs (looses_of (drop i ls)) rest
settle_step r hs ls i l d rest lt f =
    ap (λ q. word_code (settle_form r q (form_of (get_or ls i l).form)) (settle_code r hs (looses_of (drop (i + 1) ls)) rest)) f
    ∙ ap (λ (xs : List LooseName). settle_code r hs (looses_of xs) rest) (sym (drop_at_index ls i l lt))

-- one name more, if the statements ask for no more of it
pub looses_push : (ls : List LooseName) (l : LooseName) → looses_of (ls ++ l ∷ []) ≡ looses_of ls ++ loose_of l ∷ []
looses_push [] l = refl
looses_push (k ∷ ls) l = ap (λ m. loose_of k ∷ m) (looses_push ls l)

module _ (s : Scope) (all : Block) (x : List ℕ) (t : Ty) (old new given : List LooseName) (l : LooseName) (v : Bool) (e : new ≡ old ++ l ∷ []) (f : loose_of l ≡ record { name = x; form = LowBits t }) (g : given ≡ new) (h : v ≡ covers_block (looses_of given) s all) where
  looses_with_low_bits : looses_of new ≡ looses_of old ++ record { name = x; form = LowBits t } ∷ []
  looses_with_low_bits = ap looses_of e ∙ looses_push old l ∙ ap (λ y. looses_of old ++ y ∷ []) f

  told : covers_block (looses_of old ++ record { name = x; form = LowBits t } ∷ []) s all ≡ v
  told = sym (ap (λ ls. covers_block ls s all) (ap looses_of g ∙ looses_with_low_bits)) ∙ sym h

  pub loosened_kept : v ≡ true → looses_of new ≡ loosened s all x (Some t) (looses_of old)
  loosened_kept i = looses_with_low_bits ∙ sym (ap (λ b. if b then looses_of old ++ record { name = x; form = LowBits t } ∷ [] else looses_of old) (told ∙ i))

  pub loosened_left : (last : List LooseName) (n : ℕ) → v ≡ false → last ≡ take n new → n ≡ length old → looses_of last ≡ loosened s all x (Some t) (looses_of old)
  loosened_left last n i cut len = ap looses_of (cut ∙ back n old new (l ∷ []) len e) ∙ sym (ap (λ b. if b then looses_of old ++ record { name = x; form = LowBits t } ∷ [] else looses_of old) (told ∙ i))
