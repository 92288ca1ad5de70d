-- Each label of scalar code is placed once, and so leads to what follows its place.
use Rattle.std.proofs.Common.{◌≡◌, ◌≢◌, ℕ, ◌+◌, ◌<◌, ◌≤◌, Bool, true, false, List, [], ◌∷◌, ◌++◌, length, Option, Some, None, sym, ap, subst, arith}
use Rattle.std.specs.Prelude.{ℤ, nat_lt, option_and_then, if◌then◌else◌}
use Rattle.kernel_tree.specs.declared.ops.Ty.{Ty}
use Rattle.kernel_tree.specs.declared.ast.Shape.{Shape}
use Rattle.kernel_tree.specs.Plain.{Action, Define, Put as PutTo, Update, Choose, Leave, Block, Done, Then, Otherwise, Nothing, Else, Parameter, Accumulator, PlainLoop, Returned, Program}
use Rattle.kernel_tree.specs.Items.{term_size, stream_offset, loop_start, loop_end}
use Rattle.kernel_tree.specs.Typing.{Scope, lookup, own, first, accumulator_type, after_action, after_block, left, in_loop, after_for_loop, param_scope, var_scope, element_type}
use Rattle.kernel_tree.proofs.Scopes.{index_after, param_index, scope_index}
use Rattle.kernel_meaning.specs.Operators.{operator_of}
use Rattle.machine_model.specs.InstructionTable.{Listed}
use Rattle.value_code.specs.Extents.{extent_at}
use Rattle.value_code.specs.declared.extent.Extent.TheVariants.{Whole}
use Rattle.label_fix.specs.DraftRun.{DraftEntry, Put}
use Rattle.label_fix.proofs.LabelsOnce.{Unplaced, Once}
use Rattle.scalar_words.specs.Layout.{Form, LowBits, Ahead, Behind, Loose, loose_in, Layout, Homes, last_use_at, register_at}
use Rattle.value_code.specs.ValueRegisters.{home}
use Rattle.scalar_words.specs.Words.{copy_word, settle_word, word_code}
use Rattle.value_code.specs.ItemWords.{index_word, store_code}
use Rattle.value_code.specs.Code.{place_of, labels, added_number, is_fused, right_side}
use Rattle.loop_code.specs.Statements.{after_homes, action_labels, block_labels, otherwise_labels, put_code, placed_put, update_extent, update_settles, action_code, block_code, otherwise_code, is_bare, stored_home}
use Rattle.loop_code.specs.Loop.{bare, exit_code, answer_code, answer_labels, with_index, leave_code, enter_word, enter_code, settle_form, settle_code, back_code, again_code, loop_code, loop_labels}
use Rattle.loop_code.specs.LoopNumbers.{loop_layout}
use Rattle.loop_code.proofs.SetupRuns.{numbers_put}
use Rattle.scalar_words.specs.KernelRegisters.{counted_x, var_home, layout_of_kernel, param_homes, kernel_homes}
use Rattle.loop_code.specs.Kernel.{argument_code, arguments_code, vars_code, vars_labels, zero_index, begin_code, begin_labels, for_loop_code, for_loop_labels, scalar_code, scalar_labels}
use Rattle.kernel_scope.specs.Scopes.{after_var}
use Rattle.value_code.proofs.ValuesPlaced.{Fresh, operator_put, loose_unplaced, jump_unplaced, loose_once, jump_once, side_unplaced, side_once, parts_unplaced, parts_once}
use Rattle.scalar_words.proofs.Pieces.{word_put, unplaced_put, once_put}
use Rattle.kernel_tree.specs.declared.ast.Shape.TheVariants as shape

module _ (P : List DraftEntry → Type 0) (put : (i : Listed) (rest : List DraftEntry) → P rest → P (Put i ∷ rest)) where
  store_put : (o : Option Ty) (d p r : ℕ) (rest : List DraftEntry) → P rest → P (store_code o d p r rest)
  store_put None d p r rest h = h
  store_put (Some t) d p r rest h = put _ _ h

  let_put : (t : Bool) (r from : ℕ) (rest : List DraftEntry) → P rest → P (if t then word_code (copy_word r from) rest else rest)
  let_put true r from rest h = word_put P put (copy_word r from) rest h
  let_put false r from rest h = h

  put_put : (o : Option ℤ) (t : Option Ty) (from p : ℕ) (rest : List DraftEntry) → P rest → P (put_code o t from p rest)
  put_put None t from p rest h = h
  put_put (Some c) t from p rest h = word_put P put (index_word c) _ (store_put t from p _ rest h)

  placed_put_put : (place : Option ℕ) (inner : List DraftEntry → List DraftEntry) (t : Option Ty) (from : ℕ) (rest : List DraftEntry) → P rest → (P rest → P (inner rest)) → P (placed_put place inner t from rest)
  placed_put_put (Some r) inner t from rest h f = store_put t from r 9 rest h
  placed_put_put None inner t from rest h f = f h

  argument_put : (x : Shape) (n : ℕ) (rest : List DraftEntry) → P rest → P (argument_code x n rest)
  argument_put (shape.Scalar t) n rest h = word_put P put (settle_word true t n) rest h
  argument_put (shape.Array t) n rest h = h

  arguments_put : (n : ℕ) (ps : List Parameter) (rest : List DraftEntry) → P rest → P (arguments_code n ps rest)
  arguments_put n [] rest h = h
  arguments_put n (p ∷ ps) rest h = argument_put p.shape n _ (arguments_put (n + 1) ps rest h)

-- ---- statements

block_index : (s : Scope) (a : Action) (b : Block) → block_labels (after_action s a).index b ≡ block_labels s.index b
block_index s a b = ap (λ i. block_labels i b) (index_after s a)

module _ (L : Layout) where
  mutual
    action_unplaced : (a : Action) (hs : Homes) (s : Scope) (exit l b n : ℕ) (rest : List DraftEntry) → (n ≤ l → n + action_labels s.index a ≤ l) → Unplaced l rest → Unplaced l (action_code L hs s exit b n a rest)
    action_unplaced (Define x t e) hs s exit l b n rest h u = loose_unplaced L hs e s Whole (first t (own s e)) l b n _ h (let_put (Unplaced l) (unplaced_put l) (nat_lt (b + term_size s.index e) (last_use_at L (b + term_size s.index e))) _ _ rest u)
    action_unplaced (PutTo a i e) hs s exit l b n rest h u =
        let T = option_and_then element_type (lookup s a) in
        let place = place_of L (register_at hs a) T (stream_offset s.index i) in
        let from = stored_home L hs s (extent_at T) b e in
        let inner = put_code (stream_offset s.index i) T from (register_at hs a) in
        let v = placed_put_put (Unplaced l) (unplaced_put l) place inner T from rest u (put_put (Unplaced l) (unplaced_put l) (stream_offset s.index i) T from (register_at hs a) rest) in
        side_unplaced l None (is_bare s (extent_at T) e) _ _ _ (loose_unplaced L hs e s (extent_at T) T l b n _ h v) (parts_unplaced L hs e s (extent_at T) T l b n _ h v) v
    action_unplaced (Update x op e) hs s exit l b n rest h u =
        let want = option_and_then accumulator_type (lookup s x) in
        let o = operator_of op in
        let k = update_extent L.loose x o want in
        let v = operator_put (Unplaced l) (unplaced_put l) (right_side L hs s o k want b e) (update_settles L.loose x o want) want o _ _ rest u in
        side_unplaced l (added_number o want e) (is_fused s o k want e) _ _ _ (loose_unplaced L hs e s k want l b n _ h v) (parts_unplaced L hs e s k want l b n _ h v) v
    action_unplaced (Choose c blk d) hs s exit l b n rest h u =
        jump_unplaced L hs c s false n l b (n + 1) _ (λ k. omega arith)
        (block_unplaced blk hs s exit l _ _ _ (λ k. omega arith) (otherwise_unplaced d hs (left s (after_block s blk)) exit n l _ _ rest (λ e. absurd (omega arith)) (λ k. omega arith) u))
    action_unplaced (Leave c) hs s exit l b n rest h u = jump_unplaced L hs c s true exit l b n _ h u

    block_unplaced : (blk : Block) (hs : Homes) (s : Scope) (exit l b n : ℕ) (rest : List DraftEntry) → (n ≤ l → n + block_labels s.index blk ≤ l) → Unplaced l rest → Unplaced l (block_code L hs s exit b n blk rest)
    block_unplaced Done hs s exit l b n rest h u = u
    block_unplaced (Then a more) hs s exit l b n rest h u =
        let same = block_index s a more in
        action_unplaced a hs s exit l b n _ (λ k. omega arith) (block_unplaced more (after_homes L hs s b a) (after_action s a) exit l _ _ rest (λ k. omega (arith, same)) u)

    otherwise_unplaced : (d : Otherwise) (hs : Homes) (s : Scope) (exit other l b n : ℕ) (rest : List DraftEntry) → other ≢ l → (n ≤ l → n + otherwise_labels s.index d ≤ l) → Unplaced l rest → Unplaced l (otherwise_code L hs s exit other b n d rest)
    otherwise_unplaced Nothing hs s exit other l b n rest ne h u = (ne, u)
    otherwise_unplaced (Else blk) hs s exit other l b n rest ne h u = (ne, block_unplaced blk hs s exit l (b + 1) (n + 1) _ (λ k. omega arith) ((λ e. absurd (omega arith)), u))

  mutual
    action_once : (a : Action) (hs : Homes) (s : Scope) (exit b n : ℕ) (rest : List DraftEntry) → Fresh n (n + action_labels s.index a) rest → Once rest → Once (action_code L hs s exit b n a rest)
    action_once (Define x t e) hs s exit b n rest f h =
        let q = b + term_size s.index e in
        loose_once L hs e s Whole (first t (own s e)) b n _ (λ l lo hi. let_put (Unplaced l) (unplaced_put l) (nat_lt q (last_use_at L q)) _ _ rest (f l lo hi)) (let_put Once once_put (nat_lt q (last_use_at L q)) _ _ rest h)
    action_once (PutTo a i e) hs s exit b n rest f h =
        let T = option_and_then element_type (lookup s a) in
        let place = place_of L (register_at hs a) T (stream_offset s.index i) in
        let from = stored_home L hs s (extent_at T) b e in
        let inner = put_code (stream_offset s.index i) T from (register_at hs a) in
        let once = placed_put_put Once once_put place inner T from rest h (put_put Once once_put (stream_offset s.index i) T from (register_at hs a) rest) in
        let free = λ (l : ℕ) (lo : n ≤ l) (hi : l < n + labels s.index e). placed_put_put (Unplaced l) (unplaced_put l) place inner T from rest (f l lo hi) (put_put (Unplaced l) (unplaced_put l) (stream_offset s.index i) T from (register_at hs a) rest) in
        side_once None (is_bare s (extent_at T) e) _ _ _ (loose_once L hs e s (extent_at T) T b n _ free once) (parts_once L hs e s (extent_at T) T b n _ free once) once
    action_once (Update x op e) hs s exit b n rest f h =
        let want = option_and_then accumulator_type (lookup s x) in
        let o = operator_of op in
        let k = update_extent L.loose x o want in
        let side = right_side L hs s o k want b e in
        let once = operator_put Once once_put side (update_settles L.loose x o want) want o _ _ rest h in
        let free = λ (l : ℕ) (lo : n ≤ l) (hi : l < n + labels s.index e). operator_put (Unplaced l) (unplaced_put l) side (update_settles L.loose x o want) want o (register_at hs x) (register_at hs x) rest (f l lo hi) in
        side_once (added_number o want e) (is_fused s o k want e) _ _ _ (loose_once L hs e s k want b n _ free once) (parts_once L hs e s k want b n _ free once) once
    action_once (Choose c blk d) hs s exit b n rest f h =
        let s2 = left s (after_block s blk) in
        jump_once L hs c s false n b (n + 1) _ (λ l lo hi. block_unplaced blk hs s exit l _ _ _ (λ k. omega arith) (otherwise_unplaced d hs s2 exit n l _ _ rest (λ e. absurd (omega arith)) (λ k. omega arith) (f l (omega arith) (omega arith))))
        (block_once blk hs s exit _ _ _ (λ l lo hi. otherwise_unplaced d hs s2 exit n l _ _ rest (λ e. absurd (omega arith)) (λ k. omega arith) (f l (omega arith) (omega arith)))
        (otherwise_once d hs s2 exit n _ _ rest (omega arith) (f n (omega arith) (omega arith)) (λ l lo hi. f l (omega arith) (omega arith)) h))
    action_once (Leave c) hs s exit b n rest f h = jump_once L hs c s true exit b n _ f h

    block_once : (blk : Block) (hs : Homes) (s : Scope) (exit b n : ℕ) (rest : List DraftEntry) → Fresh n (n + block_labels s.index blk) rest → Once rest → Once (block_code L hs s exit b n blk rest)
    block_once Done hs s exit b n rest f h = h
    block_once (Then a more) hs s exit b n rest f h =
        let same = block_index s a more in
        action_once a hs s exit b n _ (λ l lo hi. block_unplaced more (after_homes L hs s b a) (after_action s a) exit l _ _ rest (λ k. omega arith) (f l lo (omega arith)))
        (block_once more (after_homes L hs s b a) (after_action s a) exit _ _ rest (λ l lo hi. f l (omega arith) (omega (arith, same, hi))) h)

    otherwise_once : (d : Otherwise) (hs : Homes) (s : Scope) (exit other b n : ℕ) (rest : List DraftEntry) → other < n → Unplaced other rest → Fresh n (n + otherwise_labels s.index d) rest → Once rest → Once (otherwise_code L hs s exit other b n d rest)
    otherwise_once Nothing hs s exit other b n rest lt u f h = (u, h)
    otherwise_once (Else blk) hs s exit other b n rest lt u f h = (
      block_unplaced blk hs s exit other (b + 1) (n + 1) _ (λ k. omega arith) ((λ e. absurd (omega arith)), u),
      block_once blk hs s exit (b + 1) (n + 1) _ (λ l lo hi. ((λ e. absurd (omega arith)), f l (omega arith) (omega arith))) (f n (omega arith) (omega arith), h),
    )

  -- ---- the loop and what follows it

  answer_unplaced : (hs : Homes) (s : Scope) (l b n : ℕ) (o : Option Returned) (rest : List DraftEntry) → (n ≤ l → n + answer_labels s.index o ≤ l) → Unplaced l rest → Unplaced l (answer_code L hs s b n o rest)
  answer_unplaced hs s l b n None rest h u = u
  answer_unplaced hs s l b n (Some a) rest h u = loose_unplaced L hs a.value s Whole (Some a.type) l b n _ h (word_put (Unplaced l) (unplaced_put l) (copy_word 0 (home L hs s.index b a.value)) (exit_code rest) u)

  answer_once : (hs : Homes) (s : Scope) (b n : ℕ) (o : Option Returned) (rest : List DraftEntry) → Fresh n (n + answer_labels s.index o) rest → Once rest → Once (answer_code L hs s b n o rest)
  answer_once hs s b n None rest f h = h
  answer_once hs s b n (Some a) rest f h =
      let w = copy_word 0 (home L hs s.index b a.value) in
      loose_once L hs a.value s Whole (Some a.type) b n _ (λ l lo hi. word_put (Unplaced l) (unplaced_put l) w (exit_code rest) (f l lo hi)) (word_put Once once_put w (exit_code rest) h)

-- names that are held loosely
module _ (P : List DraftEntry → Type 0) (put : (i : Listed) (rest : List DraftEntry) → P rest → P (Put i ∷ rest)) where
  enter_put : (r : ℕ) (hs : Homes) (ls : List Loose) (rest : List DraftEntry) → P rest → P (enter_code r hs ls rest)
  enter_put r hs [] rest h = h
  enter_put r hs (l ∷ ls) rest h = word_put P put (enter_word r (register_at hs l.name) l.form) _ (enter_put r hs ls rest h)

  settle_put : (r : ℕ) (hs : Homes) (ls : List Loose) (rest : List DraftEntry) → P rest → P (settle_code r hs ls rest)
  settle_put r hs [] rest h = h
  settle_put r hs (l ∷ ls) rest h = word_put P put (settle_form r (register_at hs l.name) l.form) _ (settle_put r hs ls rest h)

back_unplaced : (f : Option Form) (r l n : ℕ) (rest : List DraftEntry) → Unplaced l rest → Unplaced l (back_code f r n rest)
back_unplaced None r l n rest u = u
back_unplaced (Some (LowBits t)) r l n rest u = u
back_unplaced (Some (Ahead t)) r l n rest u = u
back_unplaced (Some Behind) r l n rest u = u

back_once : (f : Option Form) (r n : ℕ) (rest : List DraftEntry) → Once rest → Once (back_code f r n rest)
back_once None r n rest h = h
back_once (Some (LowBits t)) r n rest h = h
back_once (Some (Ahead t)) r n rest h = h
back_once (Some Behind) r n rest h = h

again_unplaced : (f : Option Form) (r : ℕ) (hs : Homes) (ls : List Loose) (l n : ℕ) (rest : List DraftEntry) → n + 3 ≢ l → n + 1 ≢ l → Unplaced l rest → Unplaced l (again_code f r n hs ls rest)
again_unplaced f r hs ls l n rest three one u = back_unplaced f r l n _ (three, settle_put (Unplaced l) (unplaced_put l) r hs ls _ (one, u))

again_once : (f : Option Form) (r : ℕ) (hs : Homes) (ls : List Loose) (n : ℕ) (rest : List DraftEntry) → Unplaced (n + 3) rest → Unplaced (n + 1) rest → Once rest → Once (again_code f r n hs ls rest)
again_once f r hs ls n rest three one h = back_once f r n _ (settle_put (Unplaced (n + 3)) (unplaced_put (n + 3)) r hs ls _ ((λ e. absurd (omega arith)), three), settle_put Once once_put r hs ls _ (one, h))

-- a loop and what follows it
module _ (L : Layout) where
  loop_unplaced : (hs : Homes) (s : Scope) (t : PlainLoop) (l b n b2 : ℕ) (o : Option Returned) (rest : List DraftEntry) → (n ≤ l → n + loop_labels s.index t o ≤ l) → Unplaced l rest → Unplaced l (loop_code L hs s t b n b2 o rest)
  loop_unplaced hs s t l b n b2 o rest h u =
      let hs1 = with_index hs t in
      let r = register_at hs t.bound in
      let f = loose_in L.loose t.index in (
        (λ e. absurd (omega arith)),
        enter_put (Unplaced l) (unplaced_put l) r hs1 L.loose _ (numbers_put (Unplaced l) (unplaced_put l) L.constants _ (
          (λ e. absurd (omega arith)),
          block_unplaced L t.body hs1 (in_loop s t) (n + 3) l (b + 1) (n + 4) _ (λ k. omega arith)
              (again_unplaced f r hs1 L.loose l n _ (λ e. absurd (omega arith)) (λ e. absurd (omega arith)) (answer_unplaced (bare L) hs1 (after_for_loop s (Some t)) l b2 (n + 4 + block_labels s.index t.body) o rest (λ k. omega arith) u)),
        )),
      )

  loop_once : (hs : Homes) (s : Scope) (t : PlainLoop) (b n b2 : ℕ) (o : Option Returned) (rest : List DraftEntry) → Fresh n (n + loop_labels s.index t o) rest → Once rest → Once (loop_code L hs s t b n b2 o rest)
  loop_once hs s t b n b2 o rest f h =
      let hs1 = with_index hs t in
      let s1 = after_for_loop s (Some t) in
      let r = register_at hs t.bound in
      let form = loose_in L.loose t.index in
      let n2 = n + 4 + block_labels s.index t.body in
      let answered = λ (l : ℕ) (lo : n ≤ l) (lt : l < n2). answer_unplaced (bare L) hs1 s1 l b2 n2 o rest (λ (k : n2 ≤ l). absurd (omega (arith, k, lt))) (f l lo (omega (arith, lt))) in
      let free = λ (l : ℕ) (lo : n ≤ l) (one : n + 1 ≢ l) (lt : l < n + 3). block_unplaced L t.body hs1 (in_loop s t) (n + 3) l (b + 1) (n + 4) (again_code form r n hs1 L.loose (leave_code (bare L) hs s t b2 n2 o rest)) (λ (k : n + 4 ≤ l). absurd (omega (arith, k, lt))) (again_unplaced form r hs1 L.loose l n _ (λ e. absurd (omega (arith, e, lt))) one (answered l lo (omega (arith, lt)))) in (
        enter_put (Unplaced n) (unplaced_put n) r hs1 L.loose _ (numbers_put (Unplaced n) (unplaced_put n) L.constants _ ((λ e. absurd (omega arith)), free n (omega arith) (λ e. absurd (omega arith)) (omega arith))),
        enter_put Once once_put r hs1 L.loose _ (numbers_put Once once_put L.constants _ (
          free (n + 2) (omega arith) (λ e. absurd (omega arith)) (omega arith),
          block_once L t.body hs1 (in_loop s t) (n + 3) (b + 1) (n + 4) _ (λ l lo hi. again_unplaced form r hs1 L.loose l n _ (λ e. absurd (omega arith)) (λ e. absurd (omega arith)) (answered l (omega arith) (omega arith)))
              (again_once form r hs1 L.loose n _ (answered (n + 3) (omega arith) (omega arith)) (answered (n + 1) (omega arith) (omega arith)) (answer_once (bare L) hs1 s1 b2 n2 o rest (λ l lo hi. f l (omega arith) (omega arith)) h)),
        )),
      )

  for_loop_unplaced : (hs : Homes) (s : Scope) (t : Option PlainLoop) (l b n b2 : ℕ) (o : Option Returned) (rest : List DraftEntry) → (n ≤ l → n + for_loop_labels s.index t o ≤ l) → Unplaced l rest → Unplaced l (for_loop_code L hs s t b n b2 o rest)
  for_loop_unplaced hs s None l b n b2 o rest h u = ((λ e. absurd (omega arith)), answer_unplaced (bare L) hs s l b2 (n + 1) o rest (λ k. omega arith) u)
  for_loop_unplaced hs s (Some t) l b n b2 o rest h u = loop_unplaced hs s t l b n b2 o rest h u

  for_loop_once : (hs : Homes) (s : Scope) (t : Option PlainLoop) (b n b2 : ℕ) (o : Option Returned) (rest : List DraftEntry) → Fresh n (n + for_loop_labels s.index t o) rest → Once rest → Once (for_loop_code L hs s t b n b2 o rest)
  for_loop_once hs s None b n b2 o rest f h = (answer_unplaced (bare L) hs s n b2 (n + 1) o rest (λ k. omega arith) (f n (omega arith) (omega arith)), answer_once (bare L) hs s b2 (n + 1) o rest (λ l lo hi. f l (omega arith) (omega arith)) h)
  for_loop_once hs s (Some t) b n b2 o rest f h = loop_once hs s t b n b2 o rest f h

  -- ---- before the loop

  vars_unplaced : (R : ℕ → ℕ) (hs : Homes) (s : Scope) (l j b n : ℕ) (vs : List Accumulator) (rest : List DraftEntry) → (n ≤ l → n + vars_labels s.index vs ≤ l) → Unplaced l rest → Unplaced l (vars_code L R hs s j b n vs rest)
  vars_unplaced R hs s l j b n [] rest h u = u
  vars_unplaced R hs s l j b n (v ∷ vs) rest h u =
      loose_unplaced L hs v.init s Whole (Some v.type) l b n _ (λ k. omega arith)
      (word_put (Unplaced l) (unplaced_put l) (copy_word (counted_x (R j)) (home L hs s.index b v.init)) _ (vars_unplaced R (hs ++ var_home R j v ∷ []) (after_var s v) l (j + 1) _ _ vs rest (λ k. omega arith) u))

  vars_once : (R : ℕ → ℕ) (hs : Homes) (s : Scope) (j b n : ℕ) (vs : List Accumulator) (rest : List DraftEntry) → Fresh n (n + vars_labels s.index vs) rest → Once rest → Once (vars_code L R hs s j b n vs rest)
  vars_once R hs s j b n [] rest f h = h
  vars_once R hs s j b n (v ∷ vs) rest f h =
      let hs1 = hs ++ var_home R j v ∷ [] in
      let w = copy_word (counted_x (R j)) (home L hs s.index b v.init) in
      loose_once L hs v.init s Whole (Some v.type) b n _ (λ l lo hi. word_put (Unplaced l) (unplaced_put l) w _ (vars_unplaced R hs1 (after_var s v) l (j + 1) _ _ vs rest (λ k. omega arith) (f l lo (omega arith))))
      (word_put Once once_put w _ (vars_once R hs1 (after_var s v) (j + 1) _ _ vs rest (λ l lo hi. f l (omega arith) (omega arith)) h))

-- ---- kernels

begin_index : (k : Program) → vars_labels (param_scope k).index k.vars ≡ begin_labels k
begin_index k = ap (λ i. vars_labels i k.vars) (param_index k)

scalar_index : (k : Program) → for_loop_labels (var_scope k).index k.for_loop k.answer ≡ scalar_labels k
scalar_index k = ap (λ i. for_loop_labels i k.for_loop k.answer) (scope_index k)

pub begin_once : (R : ℕ → ℕ) (k : Program) (n : ℕ) (rest : List DraftEntry) → Fresh n (n + begin_labels k) rest → Once rest → Once (begin_code R k n rest)
begin_once R k n rest f h =
    arguments_put Once once_put 0 k.params _
    (vars_once (layout_of_kernel R k) R (param_homes 0 k.params) (param_scope k) 0 (length k.params) n k.vars (zero_index rest) (subst (λ m. Fresh n (n + m) rest) (sym (begin_index k)) f) h)

pub scalar_unplaced : (R : ℕ → ℕ) (k : Program) (l n : ℕ) (rest : List DraftEntry) → (n ≤ l → n + scalar_labels k ≤ l) → Unplaced l rest → Unplaced l (scalar_code R k n rest)
scalar_unplaced R k l n rest h u =
    for_loop_unplaced (loop_layout R k) (kernel_homes R k) (var_scope k) k.for_loop l (loop_start k) n (loop_end k) k.answer rest (subst (λ m. n ≤ l → n + m ≤ l) (sym (scalar_index k)) h) u

pub scalar_once : (R : ℕ → ℕ) (k : Program) (n : ℕ) (rest : List DraftEntry) → Fresh n (n + scalar_labels k) rest → Once rest → Once (scalar_code R k n rest)
scalar_once R k n rest f h =
    for_loop_once (loop_layout R k) (kernel_homes R k) (var_scope k) k.for_loop (loop_start k) n (loop_end k) k.answer rest (subst (λ m. Fresh n (n + m) rest) (sym (scalar_index k)) f) h

-- the whole of a kernel without vector code
pub whole_once : (R : ℕ → ℕ) (k : Program) (n : ℕ) → Once (begin_code R k n (scalar_code R k (n + begin_labels k) []))
whole_once R k n =
    begin_once R k n (scalar_code R k (n + begin_labels k) []) (λ l lo hi. scalar_unplaced R k l (n + begin_labels k) [] (λ h. absurd (omega arith)) tt) (scalar_once R k (n + begin_labels k) [] (λ l lo hi. tt) tt)
