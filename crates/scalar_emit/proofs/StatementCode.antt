-- The code of statements, put together from that of their parts.
use Rattle.std.proofs.Common.{◌≡◌, Bool, true, ℕ, ◌+◌, ◌*◌, ◌<◌, ◌≤◌, ◌^◌, false, List, [], ◌∷◌, ◌++◌, Some, None, Option, refl, sym, ap, ◌∙◌, arith}
use Rattle.std.specs.Prelude.{ℤ, max, ◌||◌, option_map, option_and_then}
use mir.Syntax.{w64}
use mir.Val.{Fits}
use Rattle.machine_model.specs.InstructionTable.{Listed}
use Rattle.kernel_tree.specs.declared.ops.Ty.{Ty}
use Rattle.kernel_tree.specs.Plain.{Term, Conversion, Action, Define, Put, Choose, Leave, Block, Done, Then, Otherwise, Nothing, Else}
use Rattle.kernel_tree.specs.Items.{term_size, action_size, block_size, stream_offset}
use Rattle.kernel_tree.specs.Limits.{action_depth, block_depth}
use Rattle.kernel_tree.specs.Typing.{Scope, lookup, own, first, element_type, left, after_block}
use Rattle.label_fix.specs.Draft.{Drafted}
use Rattle.label_fix.specs.Emits.{Emits}
use Rattle.label_fix.specs.DraftRun.{DraftEntry, Put as PutWord, Branch, Place, Always}
use Rattle.scalar_words.specs.Layout.{Layout, Homes, reg_of, last_use_at, register_at}
use Rattle.scalar_words.specs.Words.{word_code}
use Rattle.value_code.specs.declared.extent.Extent.{Extent}
use Rattle.value_code.specs.Extents.{extent_at, within_type, fits_at, converted_extent}
use Rattle.value_code.specs.ItemWords.{index_word, index_register, store, store_code}
use Rattle.value_code.specs.ValueRegisters.{home}
use Rattle.value_code.specs.Code.{labels, place_of, loose_code, value_code, jump_code}
use Rattle.loop_code.specs.Statements.{let_home, let_code, action_labels, block_labels, is_bare, stored_code, stored_home, put_code, placed_put, action_code, block_code}

-- the code of a statement that has been taken apart
pub emits_as : (L : Layout) (hs hs1 : Homes) (s : Scope) (exit b : ℕ) (d d2 : Drafted) (a a2 : Action) → hs1 ≡ hs → a ≡ a2 → Emits d d2 (d.labels + action_labels s.index a) (action_code L hs1 s exit b d.labels a) → Emits d d2 (d.labels + action_labels s.index a2) (action_code L hs s exit b d.labels a2)
emits_as L hs hs1 s exit b d d2 a a2 h e p = rw (h, e) at p

-- the item after those of a part
pub item_after_size : (b size item : ℕ) → item ≡ b + size → item + 1 ≡ b + (size + 1)
item_after_size b size item e = omega arith

pub let_is : (L : Layout) (hs hs1 : Homes) (s : Scope) (b n q from : ℕ) (x : List ℕ) (ty want : Option Ty) (e : Term) (rest : List DraftEntry) → hs1 ≡ hs → want ≡ first ty (own s e) → q ≡ b + term_size s.index e → from ≡ home L hs1 s.index b e
    → value_code L hs1 s want b n e (let_code L q from rest) ≡ action_code L hs s 0 b n (Define x ty e) rest
let_is L hs hs1 s b n q from x ty want e rest h e1 e2 e3 = rw (e3, e2, e1, h) refl

pub if_is : (L : Layout) (hs hs1 : Homes) (s : Scope) (exit other b n item given given2 : ℕ) (c : Term) (blk : Block) (rest : List DraftEntry) → hs1 ≡ hs → other ≡ n → given ≡ n + 1 → item ≡ b + term_size s.index c → given2 ≡ given + labels s.index c
    → jump_code L hs1 s false other b given c (block_code L hs s exit (item + 1) given2 blk (Place other ∷ rest)) ≡ action_code L hs s exit b n (Choose c blk Nothing) rest
if_is L hs hs1 s exit other b n item given given2 c blk rest h e1 e2 e3 e4 = rw (h, e1, e3, e4, e2) refl

pub if_count : (n given given2 given3 given4 p q : ℕ) → given ≡ n + 1 → given2 ≡ given + p → given3 ≡ given2 + q → given4 ≡ given3 → given4 ≡ n + (1 + p + q + 0)
if_count n given given2 given3 given4 p q e f g h = omega arith

pub if_else_is : (L : Layout) (hs hs1 hs2 : Homes) (s s2 : Scope) (exit other end b n item item2 item3 given given2 given3 given4 : ℕ) (c : Term) (blk second : Block) (rest : List DraftEntry) → hs1 ≡ hs → hs2 ≡ hs → s2 ≡ left s (after_block s blk) → other ≡ n → given ≡ n + 1 → item ≡ b + term_size s.index c → given2 ≡ given + labels s.index c → item2 ≡ item + 1 + block_size s.index blk → given3 ≡ given2 + block_labels s.index blk → end ≡ given3 → item3 ≡ item2 + 1 → given4 ≡ given3 + 1
    → jump_code L hs1 s false other b given c (block_code L hs s exit (item + 1) given2 blk (Branch Always given3 ∷ Place other ∷ block_code L hs2 s2 exit item3 given4 second (Place end ∷ rest))) ≡ action_code L hs s exit b n (Choose c blk (Else second)) rest
if_else_is L hs hs1 hs2 s s2 exit other end b n item item2 item3 given given2 given3 given4 c blk second rest h h2 t e1 e2 e3 e4 e5 e6 e7 e8 e9 = rw (h, h2, t, e1, e7, e8, e9, e5, e6, e3, e4, e2) refl

pub if_else_count : (s s2 t : Scope) (n given given2 given3 given4 given5 given6 p q : ℕ) (blk : Block) → s2 ≡ left s t → given ≡ n + 1 → given2 ≡ given + p → given3 ≡ given2 + q → given4 ≡ given3 + 1 → given5 ≡ given4 + block_labels s2.index blk → given6 ≡ given5 → given6 ≡ n + (1 + p + q + (1 + block_labels s.index blk))
if_else_count s s2 t n given given2 given3 given4 given5 given6 p q blk is e f g h k l =
    let i : block_labels s2.index blk ≡ block_labels s.index blk = ap (λ (r : Scope). block_labels r.index blk) is in
    omega (arith, e, f, g, h, k, l, i)

-- the labels are given before they are placed
pub first_given : (other n a b c d p q : ℕ) → other ≡ n → a ≡ n + 1 → b ≡ a + p → c ≡ b + q → d ≡ c + 1 → other < d
first_given other n a b c d p q e f g h i = omega arith

pub second_given : (end n a b c p : ℕ) → end ≡ n → a ≡ n + 1 → b ≡ a → c ≡ b + p → end < c
second_given end n a b c p e f g h = omega arith

-- the items of both blocks have room
pub first_room : (i : Option (List ℕ)) (c : Term) (blk : Block) (d : Otherwise) (b item item2 : ℕ) → b + action_size i (Choose c blk d) < 2 ^ 32 → item ≡ b + term_size i c → item2 ≡ item + 1 + block_size i blk → item2 < 2 ^ 32
first_room i c blk d b item item2 h e f = omega arith

pub second_room : (s s2 : Scope) (c : Term) (blk second : Block) (b item item2 item3 : ℕ) → b + action_size s.index (Choose c blk (Else second)) < 2 ^ 32 → item ≡ b + term_size s.index c → item2 ≡ item + 1 + block_size s.index blk → item3 ≡ item2 + 1 → s2 ≡ left s (after_block s blk) → item3 + block_size s2.index second < 2 ^ 32
second_room s s2 c blk second b item item2 item3 h e f g is =
    let k : block_size s2.index second ≡ block_size s.index second = ap (λ (r : Scope). block_size r.index second) is in
    omega arith

pub if_items : (b p q item item2 item3 : ℕ) → item ≡ b + p → item2 ≡ item + 1 + q → item3 ≡ item2 + 1 → item3 ≡ b + (p + 1 + q + 0 + 1)
if_items b p q item item2 item3 e f g = omega arith

pub if_else_items : (s s2 t : Scope) (second : Block) (b p q item item2 item3 item4 item5 : ℕ) → s2 ≡ left s t → item ≡ b + p → item2 ≡ item + 1 + q → item3 ≡ item2 + 1 → item4 ≡ item3 + block_size s2.index second → item5 ≡ item4 + 1 → item5 ≡ b + (p + 1 + q + (1 + block_size s.index second) + 1)
if_else_items s s2 t second b p q item item2 item3 item4 item5 is e f g h k =
    let i : block_size s2.index second ≡ block_size s.index second = ap (λ (r : Scope). block_size r.index second) is in
    omega arith

-- ---- stores

-- a stream index with no word, and one with a word
pub put_none : (o : Option ℤ) (t : Option Ty) (from p : ℕ) (rest : List DraftEntry) → None ≡ option_map index_word o → rest ≡ put_code o t from p rest
put_none None t from p rest e = refl
put_none (Some c) t from p rest e = cc

pub put_some : (o : Option ℤ) (w : Option Listed) (t : Option Ty) (from p r : ℕ) (rest : List DraftEntry) → Some w ≡ option_map index_word o → r ≡ index_register w → word_code w (store_code t from p r rest) ≡ put_code o t from p rest
put_some None w t from p r rest e f = cc
put_some (Some c) w t from p r rest e f =
    let i : w ≡ index_word c = cc in
    rw (f, i) refl

-- the place of the element stands in a register, or in none
pub placed_store : (L : Layout) (hs : Homes) (s : Scope) (b n : ℕ) (a : List ℕ) (i e : Term) (ty : Option Ty) (w : Extent) (from place r : ℕ) (rest : List DraftEntry) → ty ≡ option_and_then element_type (lookup s a) → w ≡ extent_at ty → from ≡ stored_home L hs s w b e → Some place ≡ place_of L (register_at hs a) (option_and_then element_type (lookup s a)) (stream_offset s.index i) → r ≡ 9
    → stored_code L hs s w ty b n e (store_code ty from place r rest) ≡ action_code L hs s 0 b n (Put a i e) rest
placed_store L hs s b n a i e ty w from place r rest e1 e2 e3 h e4 =
    let T = option_and_then element_type (lookup s a) in
    let o = stream_offset s.index i in
    let R = register_at hs a in
    rw (e3, e2, e4, e1) (ap (λ (p : Option ℕ). stored_code L hs s (extent_at T) T b n e (placed_put p (put_code o T (stored_home L hs s (extent_at T) b e) R) T (stored_home L hs s (extent_at T) b e) rest)) h)

pub computed_store : (L : Layout) (hs : Homes) (s : Scope) (b n : ℕ) (a : List ℕ) (i e : Term) (ty : Option Ty) (w : Extent) (from p : ℕ) (rest : List DraftEntry) → ty ≡ option_and_then element_type (lookup s a) → w ≡ extent_at ty → from ≡ stored_home L hs s w b e → None ≡ place_of L (register_at hs a) (option_and_then element_type (lookup s a)) (stream_offset s.index i) → p ≡ register_at hs a
    → stored_code L hs s w ty b n e (put_code (stream_offset s.index i) ty from p rest) ≡ action_code L hs s 0 b n (Put a i e) rest
computed_store L hs s b n a i e ty w from p rest e1 e2 e3 h e4 =
    let T = option_and_then element_type (lookup s a) in
    let o = stream_offset s.index i in
    let R = register_at hs a in
    rw (e3, e2, e4, e1) (ap (λ (p : Option ℕ). stored_code L hs s (extent_at T) T b n e (placed_put p (put_code o T (stored_home L hs s (extent_at T) b e) R) T (stored_home L hs s (extent_at T) b e) rest)) h)

-- ---- what the parts of a statement are called with: each is less deep, its items have room, and its labels are given

pub five_statement_below : (t : ℕ) (whole x more : Block) (a : Action) → 5 * block_depth whole + 1 ≡ t → block_depth x ≤ block_depth whole → x ≡ Then a more → 5 * action_depth a < t
five_statement_below t whole x more a h le e = omega (arith, ap block_depth e)

pub five_only_block_below : (t : ℕ) (a : Action) (c : Term) (b : Block) → 5 * action_depth a ≡ t → a ≡ Choose c b Nothing → 5 * block_depth b + 3 < t
five_only_block_below t a c b h e = omega (arith, ap action_depth e)

pub if_else_below : (t : ℕ) (a : Action) (c : Term) (b d : Block) → 5 * action_depth a ≡ t → a ≡ Choose c b (Else d) → 5 * max (block_depth b) (block_depth d) + 4 < t
if_else_below t a c b d h e = omega (arith, ap action_depth e)

pub five_first_block_below : (t d e : ℕ) → 5 * max d e + 4 ≡ t → 5 * d + 2 < t
five_first_block_below t d e h = omega arith

pub five_second_block_below : (t d e : ℕ) → 5 * max d e + 4 ≡ t → 5 * e + 2 < t
five_second_block_below t d e h = omega arith

pub five_3_to_2 : (t d : ℕ) → 5 * d + 3 ≡ t → 5 * d + 2 < t
five_3_to_2 t d h = omega arith

pub five_inner_below : (t d : ℕ) → 5 * d + 2 ≡ t → 5 * d + 1 < t
five_inner_below t d h = omega arith

pub truth_room : (i : Option (List ℕ)) (c : Term) (blk : Block) (d : Otherwise) (b : ℕ) → b + action_size i (Choose c blk d) < 2 ^ 32 → b + term_size i c < 2 ^ 32
truth_room i c blk d b h = omega arith

pub branch_room : (i : Option (List ℕ)) (c : Term) (blk : Block) (d : Otherwise) (b item : ℕ) → b + action_size i (Choose c blk d) < 2 ^ 32 → item ≡ b + term_size i c → Fits w64 (item + 1)
branch_room i c blk d b item h e = omega arith

pub block_room : (i : Option (List ℕ)) (c : Term) (blk : Block) (d : Otherwise) (b item : ℕ) → b + action_size i (Choose c blk d) < 2 ^ 32 → item ≡ b + term_size i c → item + 1 + block_size i blk < 2 ^ 32
block_room i c blk d b item h e = omega arith

pub leave_room : (i : Option (List ℕ)) (a : Action) (c : Term) (b : ℕ) → Leave c ≡ a → b + action_size i a < 2 ^ 32 → b + term_size i c < 2 ^ 32
leave_room i a c b e h = omega (arith, ap (action_size i) e)

pub left_room : (i : Option (List ℕ)) (a : Action) (c : Term) (b item : ℕ) → Leave c ≡ a → b + action_size i a < 2 ^ 32 → item ≡ b + term_size i c → Fits w64 (item + 1)
left_room i a c b item e h f = omega (arith, ap (action_size i) e)

pub label_given : (other n a : ℕ) → other ≡ n → a ≡ n + 1 → other < a
label_given other n a e f = omega arith

pub still_given : (exit n m p : ℕ) → exit < n → m ≡ n + p → exit < m
still_given exit n m p h e = omega arith

pub exit_again : (exit n a b c d e p q : ℕ) → exit < n → a ≡ n + 1 → b ≡ a + p → c ≡ b + q → d ≡ c + 1 → e ≡ d → exit < e
exit_again exit n a b c d e p q h e1 e2 e3 e4 e5 = omega arith

-- where no statement is left
pub items_end : (i : Option (List ℕ)) (x : Block) (n m : ℕ) → x ≡ Done → n + block_size i x ≡ m → n ≡ m
items_end i x n m e f = omega (arith, ap (block_size i) e)

pub labels_end : (i : Option (List ℕ)) (x : Block) (n m : ℕ) → x ≡ Done → n + block_labels i x ≡ m → n ≡ m
labels_end i x n m e f = omega (arith, ap (block_labels i) e)

-- a cast that is no word, since no more is asked of it than its type has, or since its type has each value of the operand's
pub within_bare : (s : Scope) (w : Extent) (e : Term) (t : Ty) (b : Bool) → b ≡ within_type w t → b ≡ true → is_bare s w (Conversion e t) ≡ true
within_bare s w e t b f g = ap (λ x. x || fits_at (own s e) t) (sym f ∙ g)

fits_after : (x : Bool) → (x || true) ≡ true
fits_after true = refl
fits_after false = refl

pub fits_bare : (s : Scope) (w : Extent) (e : Term) (t : Ty) (from : Option Ty) (b : Bool) → from ≡ own s e → b ≡ fits_at from t → b ≡ true → is_bare s w (Conversion e t) ≡ true
fits_bare s w e t from b f g h = ap (λ x. within_type w t || x) (sym (ap (λ (o : Option Ty). fits_at o t) f) ∙ sym g ∙ h) ∙ fits_after (within_type w t)

pub bare_home : (L : Layout) (hs : Homes) (s : Scope) (w : Extent) (b r : ℕ) (e x : Term) (t : Ty) → x ≡ Conversion e t → is_bare s w (Conversion e t) ≡ true → r ≡ home L hs s.index b e → r ≡ stored_home L hs s w b x
bare_home L hs s w b r e x t is bare h = h ∙ rw (is, bare) refl

pub bare_code : (L : Layout) (hs : Homes) (s : Scope) (w asked : Extent) (from want : Option Ty) (b n : ℕ) (e x : Term) (t : Ty) (rest : List DraftEntry) → x ≡ Conversion e t → is_bare s w (Conversion e t) ≡ true → from ≡ own s e → asked ≡ converted_extent w from t → loose_code L hs s asked from b n e rest ≡ stored_code L hs s w want b n x rest
bare_code L hs s w asked from want b n e x t rest is bare f g = rw (is, bare, g, f) refl

pub cast_room : (i : Option (List ℕ)) (e x : Term) (t : Ty) (b : ℕ) → x ≡ Conversion e t → b + term_size i x < 2 ^ 32 → b + term_size i e < 2 ^ 32
cast_room i e x t b is h = omega (arith, ap (term_size i) is)

pub cast_more : (i : Option (List ℕ)) (e x : Term) (t : Ty) (b item : ℕ) → x ≡ Conversion e t → b + term_size i x < 2 ^ 32 → item ≡ b + term_size i e → Fits w64 (item + 1)
cast_more i e x t b item is h f = omega (arith, ap (term_size i) is)

pub cast_items : (i : Option (List ℕ)) (e x : Term) (t : Ty) (b item : ℕ) → x ≡ Conversion e t → item ≡ b + term_size i e → item + 1 ≡ b + term_size i x
cast_items i e x t b item is f = omega (arith, ap (term_size i) is)

pub into_is : (o : Option Ty) (t : Ty) (w : Listed) (from p r : ℕ) (rest : List DraftEntry) → o ≡ Some t → w ≡ store t from p r → PutWord w ∷ rest ≡ store_code o from p r rest
into_is o t w from p r rest is e = rw (is, e) refl

-- ---- the home of a `let`

pub let_pushed : (L : Layout) (hs : Homes) (q : ℕ) (x y : List ℕ) (r last : ℕ) → y ≡ x → r ≡ reg_of L q → last ≡ last_use_at L q → hs ++ record { name = y; register = r; last_use = Some last } ∷ [] ≡ hs ++ let_home L q x ∷ []
let_pushed L hs q x y r last e f g = rw (e, f, g) refl
