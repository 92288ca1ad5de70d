-- The code of items, from one item to the next.
use Rattle.std.proofs.Common.{◌≡◌, ℕ, zero, suc, ◌+◌, ◌<◌, ◌≤◌, ℤ, pos, length, arith, List, [], ◌∷◌, ◌++◌, Bool, true, false, Option, Some, None, drop, refl, sym, ap, ◌∙◌, subst}
use Rattle.std.specs.Prelude.{slice_get, slice_index_or, option_map}
use Rattle.std.proofs.lemmas.List.{append-nil, drop_all}
use Rattle.guest_types.specs.declared.length.Width.{Width}
use Rattle.kernel_tree.specs.declared.ops.Ty.{Ty}
use Rattle.label_fix.specs.DraftRun.{DraftEntry}
use Rattle.loop_form.specs.declared.loop_item.LoopItem.{LoopItem}
use Rattle.loop_form.specs.declared.loop_item.LoopOp.TheVariants as op
use Rattle.loop_form.specs.LoopView.{view_of, view}
use Rattle.loop_form.specs.LoopItems.{Op, Item}
use Rattle.loop_form.specs.LoopItems as ops
use Rattle.loop_form.specs.declared.loop_item.Operand.{Operand}
use Rattle.loop_form.specs.declared.loop_item.Operand.TheVariants.{Constant, Made}
use Rattle.chunk_emit.specs.Registers.{Layout}
use Rattle.chunk_emit.specs.ChunkCode.{past_cast, item_words, items_words, puts}
use Rattle.chunk_emit.specs.Steps.{chosen, takes_next, left_words}
use Rattle.chunk_emit.specs.Writable.{IsWritable, AreWritable}
use Rattle.chunk_emit.proofs.ItemRuns.{Taken, cast_is_taken, puts-append}

-- the item after the first one
abbrev pub first_of : List Item → Option Item
first_of [] = None
first_of (it ∷ items) = Some it

step_words : (w : Width) (l : Layout) (it : Item) (items : List Item) → items_words w l (it ∷ items) ≡ item_words w l (chosen it (first_of items)) ++ left_words w l (takes_next it (first_of items)) items
step_words w l it [] = sym (append-nil (item_words w l it))
step_words w l it (next ∷ items) = by (past_cast it.item it.op next.op) refl
  where
    by : (o : Option Op) → past_cast it.item it.op next.op ≡ o → items_words w l (it ∷ next ∷ items) ≡ item_words w l (chosen it (Some next)) ++ left_words w l (takes_next it (Some next)) (next ∷ items)
    by None e = rw e refl
    by (Some op) e = rw e refl

-- one more item
pub step_puts : (w : Width) (l : Layout) (it : Item) (items : List Item) (rest : List DraftEntry) → puts (items_words w l (it ∷ items)) rest ≡ puts (item_words w l (chosen it (first_of items))) (puts (left_words w l (takes_next it (first_of items)) items) rest)
step_puts w l it items rest = ap (λ words. puts words rest) (step_words w l it items) ∙ puts-append (item_words w l (chosen it (first_of items))) (left_words w l (takes_next it (first_of items)) items) rest

-- a store of a cast's operand can be written where that of the cast can
store_writable : (w : Width) (a : List ℕ) (base : Operand) (ty : Option Ty) (c : ℤ) (u v : Operand) → IsWritable w (ops.Store a base ty c u) → IsWritable w (ops.Store a base ty c v)
store_writable w a base None c u v h = tt
store_writable w a base (Some t) c u v h = h

past_writable : (w : Width) (q : ℕ) (op next joined : Op) → past_cast q op next ≡ Some joined → IsWritable w next → IsWritable w joined
past_writable w q op next joined e h =
    let t : Taken q op next joined = cast_is_taken q op next joined e in
    subst (IsWritable w) (sym t.joined_is) (store_writable w t.a t.base t.ty t.c (Made q) t.x (subst (IsWritable w) t.next_is h))

pub chosen_writable : (w : Width) (it : Item) (items : List Item) → AreWritable w (it ∷ items) → IsWritable w (chosen it (first_of items)).op
chosen_writable w it [] h = h.0
chosen_writable w it (next ∷ items) h = by (past_cast it.item it.op next.op) refl
  where
    by : (o : Option Op) → past_cast it.item it.op next.op ≡ o → IsWritable w (chosen it (Some next)).op
    by None e = rw e h.0
    by (Some op) e = rw e (past_writable w it.item it.op next.op op e h.1.0)

-- ---- by the place in a list

-- what stands for an item after a list's last one
abbrev pub no_item : LoopItem
no_item = record { item = 0; mask = None; op = op.Load (record { ref_ptr = (0, 0); now = [] }) (Constant None (pos 0)) None (pos 0) }

pub at_place : (items : List LoopItem) (p : ℕ) (other : LoopItem) → p < length items → view (drop p items) ≡ view_of (slice_index_or items p other) ∷ view (drop (p + 1) items)
at_place [] p other h = absurd (omega (arith, h))
at_place (x ∷ xs) zero other h = refl
at_place (x ∷ xs) (suc p) other h =
    let next : suc p + 1 ≡ suc (p + 1) = omega arith in
    at_place xs p other (omega (arith, h)) ∙ ap (λ n. view_of (slice_index_or xs p other) ∷ view (drop n (x ∷ xs))) (sym next)

first_at : (items : List LoopItem) (p : ℕ) → first_of (view (drop p items)) ≡ option_map view_of (slice_get items p)
first_at [] zero = refl
first_at [] (suc p) = refl
first_at (x ∷ xs) zero = refl
first_at (x ∷ xs) (suc p) = first_at xs p

drop_one : (items : List LoopItem) (p : ℕ) → drop 1 (view (drop p items)) ≡ view (drop (p + 1) items)
drop_one [] zero = refl
drop_one [] (suc p) = ap view (sym (drop_all (suc p + 1) [] (omega arith)))
drop_one (x ∷ xs) zero = refl
drop_one (x ∷ xs) (suc p) = let next : suc p + 1 ≡ suc (p + 1) = omega arith in drop_one xs p ∙ ap (λ n. view (drop n (x ∷ xs))) (sym next)

-- after an item that is done
pub done_puts : (w : Width) (l : Layout) (done : Bool) (items : List LoopItem) (p : ℕ) (rest : List DraftEntry) → done ≡ true → puts (items_words w l (view (drop (p + 1) items))) rest ≡ puts (left_words w l done (view (drop p items))) rest
done_puts w l done items p rest e = ap (λ its. puts (items_words w l its) rest) (sym (drop_one items p)) ∙ ap (λ b. puts (left_words w l b (view (drop p items))) rest) (sym e)

-- an item that is written
pub written_puts : (w : Width) (l : Layout) (done took : Bool) (items : List LoopItem) (p : ℕ) (it made : Item) (o : Option LoopItem) (other : LoopItem) (rest : List DraftEntry) → done ≡ false → p < length items → view_of (slice_index_or items p other) ≡ it → o ≡ slice_get items (p + 1)
    → made ≡ chosen it (option_map view_of o) → took ≡ takes_next it (option_map view_of o)
    → puts (item_words w l made) (puts (left_words w l took (view (drop (p + 1) items))) rest) ≡ puts (left_words w l done (view (drop p items))) rest
written_puts w l done took items p it made o other rest e h is get m t =
    let tail : List Item = view (drop (p + 1) items) in
    let following : option_map view_of o ≡ first_of tail = ap (option_map view_of) get ∙ sym (first_at items (p + 1)) in
    let from : view (drop p items) ≡ it ∷ tail = at_place items p other h ∙ ap (λ x. x ∷ tail) is in
    ap (λ x. puts (item_words w l x) (puts (left_words w l took tail) rest)) (m ∙ ap (chosen it) following) ∙ ap (λ b. puts (item_words w l (chosen it (first_of tail))) (puts (left_words w l b tail) rest)) (t ∙ ap (takes_next it) following)
    ∙ sym (step_puts w l it tail rest) ∙ ap (λ its. puts (items_words w l its) rest) (sym from) ∙ ap (λ b. puts (left_words w l b (view (drop p items))) rest) (sym e)

pub writable_at : (w : Width) (items : List LoopItem) (p : ℕ) (it made : Item) (o : Option LoopItem) (other : LoopItem) → p < length items → view_of (slice_index_or items p other) ≡ it → o ≡ slice_get items (p + 1) → made ≡ chosen it (option_map view_of o) → AreWritable w (view (drop p items)) → IsWritable w made.op
writable_at w items p it made o other h is get m all =
    let tail : List Item = view (drop (p + 1) items) in
    let following : option_map view_of o ≡ first_of tail = ap (option_map view_of) get ∙ sym (first_at items (p + 1)) in
    let from : view (drop p items) ≡ it ∷ tail = at_place items p other h ∙ ap (λ x. x ∷ tail) is in
    subst (λ (x : Item). IsWritable w x.op) (sym (m ∙ ap (chosen it) following)) (chosen_writable w it tail (subst (AreWritable w) from all))

tail_writable : (w : Width) (items : List Item) → AreWritable w items → AreWritable w (drop 1 items)
tail_writable w [] h = tt
tail_writable w (it ∷ items) h = h.1

pub writable_following : (w : Width) (items : List LoopItem) (p : ℕ) → AreWritable w (view (drop p items)) → AreWritable w (view (drop (p + 1) items))
writable_following w items p all = subst (AreWritable w) (drop_one items p) (tail_writable w (view (drop p items)) all)

-- after the last item
pub no_words_past_items : (w : Width) (l : Layout) (done : Bool) (items : List LoopItem) (p : ℕ) (rest : List DraftEntry) → length items ≤ p → rest ≡ puts (left_words w l done (view (drop p items))) rest
no_words_past_items w l done items p rest h = sym (nothing done) ∙ ap (λ its. puts (left_words w l done (view its)) rest) (sym (drop_all p items h))
  where
    nothing : (b : Bool) → puts (left_words w l b []) rest ≡ rest
    nothing true = refl
    nothing false = refl
