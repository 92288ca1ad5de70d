-- The code of statements writes registers of items and of names that are held, and X26.
use Rattle.std.proofs.Common.{ℕ, ◌+◌, Bool, true, false, List, Option, Some, None, refl}
use Rattle.std.specs.Prelude.{ℤ, nat_lt, option_and_then, if◌then◌else◌}
use Rattle.kernel_tree.specs.declared.ops.Ty.{Ty}
use Rattle.kernel_tree.specs.Plain.{Action, Define, Put as PutTo, Update, Choose, Leave, Block, Done, Then, Otherwise, Nothing, Else}
use Rattle.kernel_tree.specs.Items.{term_size, action_size, stream_offset}
use Rattle.kernel_tree.specs.Typing.{Scope, lookup, own, first, element_type, accumulator_type, after_action, after_block, left}
use Rattle.kernel_meaning.specs.Operators.{operator_of}
use Rattle.label_fix.specs.DraftRun.{DraftEntry}
use Rattle.scalar_words.specs.Layout.{Layout, Homes, reg_of, last_use_at, register_at}
use Rattle.scalar_words.specs.Words.{copy_word, word_code}
use Rattle.value_code.specs.declared.extent.Extent.TheVariants.{Whole}
use Rattle.value_code.specs.Extents.{extent_at}
use Rattle.value_code.specs.ItemWords.{index_word, store_code}
use Rattle.value_code.specs.Code.{place_of, added_number, is_fused, right_side}
use Rattle.loop_code.specs.Statements.{let_home, defined_homes, after_homes, is_bare, put_code, placed_put, update_extent, update_settles, action_code, block_code, otherwise_code, FitsAction, FitsBlock, FitsOtherwise}
use Rattle.kernel_tree.specs.declared.ops.Ty.TheVariants as ty
use Rattle.reserved_registers.specs.Alone.{AreAlone}
use Rattle.reserved_registers.proofs.FreeRegisters.{Free, AreFree, more_free, name_free}
use Rattle.reserved_registers.proofs.ScalarWords.{one_alone, copy_leaves}
use Rattle.reserved_registers.proofs.Values.{index_leaves, operator_alone, side_alone, loose_alone, parts_alone, jump_alone}

store_alone : (exits : ℕ) (o : Option Ty) (d p r : ℕ) (rest : List DraftEntry) → AreAlone exits rest → AreAlone exits (store_code o d p r rest)
store_alone exits None d p r rest h = h
store_alone exits (Some ty.I8) d p r rest h = (refl, h)
store_alone exits (Some other) d p r rest h = (refl, h)

let_alone : (exits : ℕ) (t : Bool) (r from : ℕ) (rest : List DraftEntry) → Free r → AreAlone exits rest → AreAlone exits (if t then word_code (copy_word r from) rest else rest)
let_alone exits true r from rest f h = one_alone exits (copy_word r from) rest (copy_leaves r from f.kept) h
let_alone exits false r from rest f h = h

put_alone : (exits : ℕ) (o : Option ℤ) (t : Option Ty) (from p : ℕ) (rest : List DraftEntry) → AreAlone exits rest → AreAlone exits (put_code o t from p rest)
put_alone exits None t from p rest h = h
put_alone exits (Some c) t from p rest h = one_alone exits (index_word c) _ (index_leaves c) (store_alone exits t from p _ rest h)

placed_alone : (exits : ℕ) (place : Option ℕ) (inner : List DraftEntry → List DraftEntry) (t : Option Ty) (from : ℕ) (rest : List DraftEntry) → AreAlone exits rest → (AreAlone exits rest → AreAlone exits (inner rest)) → AreAlone exits (placed_put place inner t from rest)
placed_alone exits (Some r) inner t from rest h f = store_alone exits t from r 9 rest h
placed_alone exits None inner t from rest h f = f h

module _ (L : Layout) (free : (p : ℕ) → Free (reg_of L p)) where
  -- ---- names

  defined_free : (q : ℕ) (hs : Homes) (x : List ℕ) (o : Option Ty) → AreFree hs → AreFree (defined_homes L q hs x o)
  defined_free q hs x None a = a
  defined_free q hs x (Some t) a = more_free hs (let_home L q x) a (free q)

  after_free : (a : Action) (hs : Homes) (s : Scope) (b : ℕ) → AreFree hs → AreFree (after_homes L hs s b a)
  after_free (Define x t e) hs s b f = defined_free (b + term_size s.index e) hs x (first t (own s e)) f
  after_free other hs s b f = f

  -- ---- statements

  mutual
    pub action_alone : (exits : ℕ) (a : Action) (hs : Homes) (s : Scope) (exit b n : ℕ) (rest : List DraftEntry) → AreFree hs → FitsAction L hs s b a → AreAlone exits rest → AreAlone exits (action_code L hs s exit b n a rest)
    action_alone exits (Define x t e) hs s exit b n rest f fits h =
        let q = b + term_size s.index e in
        loose_alone L free hs exits e s Whole (first t (own s e)) b n _ (let_alone exits (nat_lt q (last_use_at L q)) (reg_of L q) _ rest (free q) h)
    action_alone exits (PutTo a i e) hs s exit b n rest f fits h =
        let T = option_and_then element_type (lookup s a) in
        side_alone exits None (is_bare s (extent_at T) e) _ _ _ (placed_alone exits (place_of L (register_at hs a) T (stream_offset s.index i)) _ _ _ rest h (λ h. put_alone exits (stream_offset s.index i) _ _ _ rest h)) (λ g. loose_alone L free hs exits e s _ _ b n _ g) (λ g. parts_alone L free hs exits e s _ _ b n _ g)
    action_alone exits (Update x op e) hs s exit b n rest f fits h =
        let want = option_and_then accumulator_type (lookup s x) in
        let o = operator_of op in
        let j = update_extent L.loose x o want in
        side_alone exits (added_number o want e) (is_fused s o j want e) _ _ _ (operator_alone exits (right_side L hs s o j want b e) (update_settles L.loose x o want) want o (register_at hs x) _ rest (name_free hs x (b + term_size s.index e) f fits.2) h) (λ g. loose_alone L free hs exits e s j want b n _ g) (λ g. parts_alone L free hs exits e s j want b n _ g)
    action_alone exits (Choose c blk d) hs s exit b n rest f fits h =
        jump_alone L free hs exits c s false _ b _ _ (block_alone exits blk hs s exit _ _ _ f fits.1 (otherwise_alone exits d hs (left s (after_block s blk)) exit n _ _ rest f fits.2 h))
    action_alone exits (Leave c) hs s exit b n rest f fits h = jump_alone L free hs exits c s true exit b n _ h

    pub block_alone : (exits : ℕ) (blk : Block) (hs : Homes) (s : Scope) (exit b n : ℕ) (rest : List DraftEntry) → AreFree hs → FitsBlock L hs s b blk → AreAlone exits rest → AreAlone exits (block_code L hs s exit b n blk rest)
    block_alone exits Done hs s exit b n rest f fits h = h
    block_alone exits (Then a more) hs s exit b n rest f fits h =
        action_alone exits a hs s exit b n _ f fits.0 (block_alone exits more (after_homes L hs s b a) (after_action s a) exit (b + action_size s.index a) _ rest (after_free a hs s b f) fits.1 h)

    pub otherwise_alone : (exits : ℕ) (d : Otherwise) (hs : Homes) (s : Scope) (exit other b n : ℕ) (rest : List DraftEntry) → AreFree hs → FitsOtherwise L hs s b d → AreAlone exits rest → AreAlone exits (otherwise_code L hs s exit other b n d rest)
    otherwise_alone exits Nothing hs s exit other b n rest f fits h = h
    otherwise_alone exits (Else blk) hs s exit other b n rest f fits h = block_alone exits blk hs s exit (b + 1) (n + 1) _ f fits h
