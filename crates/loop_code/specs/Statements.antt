-- The code of statements, before the entries that follow it, and when registers fit them.
use Rattle.std.specs.Prelude.{ℕ, List, [], ◌∷◌, Bool, true, false, ◌||◌, ◌+◌, ◌≤◌, ℤ, ◌++◌, Option, Some, None, option_and_then, nat_lt, if◌then◌else◌}
use Rattle.label_fix.specs.DraftRun.{DraftEntry, Branch, Place, Always}
use Rattle.label_fix.specs.Registers.{iteration, xzr}
use Rattle.kernel_tree.specs.Plain.{Term, Conversion, Action, Define, Put, Update, Choose, Leave, Block, Done, Then, Otherwise, Nothing, Else}
use Rattle.kernel_tree.specs.declared.ops.Ty.{Ty}
use Rattle.kernel_tree.specs.declared.ops.BinaryOp.{BinaryOp}
use Rattle.kernel_tree.specs.Items.{term_size, action_size, block_size, stream_offset}
use Rattle.kernel_tree.specs.Typing.{Scope, lookup, own, first, element_type, accumulator_type, after_action, after_block, left}
use Rattle.kernel_meaning.specs.Operators.{operator_of}
use Rattle.scalar_words.specs.Layout.{Loose, loose_in, Layout, Home, Homes, reg_of, last_use_at, register_at, NameLasts}
use Rattle.value_code.specs.ValueRegisters.{home}
use Rattle.scalar_words.specs.Words.{copy_word, word_code, at_type}
use Rattle.value_code.specs.ItemWords.{index_word, index_register, store_code, operator_code}
use Rattle.value_code.specs.Code.{labels, place_of, added_number, is_fused, right_side, side_code, loose_code, parts_code, value_code, jump_code}
use Rattle.kernel_meaning.specs.TypeValues.{binary_leaves}
use Rattle.value_code.specs.declared.extent.Extent.{Extent}
use Rattle.value_code.specs.Extents.{within_type, within, fits_at, extent_at, binary_extent, settles}
use Rattle.value_code.specs.Covers.{held_extent}
use Rattle.scalar_words.specs.Operands.{binary_joins}
use Rattle.value_code.specs.Fits.{IsSome, IsSmall, IndexAt, Fits, FitsTruth}
use Rattle.scalar_words.specs.Safe.{Only}

-- ---- names

abbrev pub let_home : Layout → ℕ → List ℕ → Home
let_home L q x = record { name = x; register = reg_of L q; last_use = Some (last_use_at L q) }

abbrev pub defined_homes : Layout → ℕ → Homes → List ℕ → Option Ty → Homes
defined_homes L q hs x None = hs
defined_homes L q hs x (Some t) = hs ++ let_home L q x ∷ []

-- after a statement whose items begin at b, and after a block
abbrev pub after_homes : Layout → Homes → Scope → ℕ → Action → Homes
after_homes L hs s b (Define x t e) = defined_homes L (b + term_size s.index e) hs x (first t (own s e))
after_homes L hs s b (Put a i e) = hs
after_homes L hs s b (Update x op e) = hs
after_homes L hs s b (Choose c blk d) = hs
after_homes L hs s b (Leave c) = hs

abbrev pub block_homes : Layout → Homes → Scope → ℕ → Block → Homes
block_homes L hs s b Done = hs
block_homes L hs s b (Then a more) = block_homes L (after_homes L hs s b a) (after_action s a) (b + action_size s.index a) more

-- ---- labels that code uses up

abbrev mutual
  pub action_labels : Option (List ℕ) → Action → ℕ
  action_labels i (Define x t e) = labels i e
  action_labels i (Put a o e) = labels i e
  action_labels i (Update x op e) = labels i e
  action_labels i (Choose c b d) = 1 + labels i c + block_labels i b + otherwise_labels i d
  action_labels i (Leave c) = labels i c

  pub block_labels : Option (List ℕ) → Block → ℕ
  block_labels i Done = 0
  block_labels i (Then s b) = action_labels i s + block_labels i b

  pub otherwise_labels : Option (List ℕ) → Otherwise → ℕ
  otherwise_labels i Nothing = 0
  otherwise_labels i (Else b) = 1 + block_labels i b

-- ---- code

-- a value into the register of a `let`, where something reads it
abbrev pub let_code : Layout → (q from : ℕ) → List DraftEntry → List DraftEntry
let_code L q from rest = if nat_lt q (last_use_at L q) then word_code (copy_word (reg_of L q) from) rest else rest

-- a cast that is no word: no more is asked of it than its type has, or its type has each value of the operand's
abbrev pub is_bare : Scope → Extent → Term → Bool
is_bare s w (Conversion e t) = within_type w t || fits_at (own s e) t
is_bare s w _ = false

abbrev pub operand_home : Layout → Homes → Option (List ℕ) → (b : ℕ) → Term → ℕ
operand_home L hs i b (Conversion e t) = home L hs i b e
operand_home L hs i b _ = xzr

-- what is stored, of which so much is asked for, and its register: the operand of such a cast in its place
abbrev pub stored_code : Layout → Homes → Scope → Extent → Option Ty → (b n : ℕ) → Term → List DraftEntry → List DraftEntry
stored_code L hs s w want b n e rest = side_code None (is_bare s w e) (loose_code L hs s w want b n e) (parts_code L hs s w want b n e) rest

abbrev pub stored_home : Layout → Homes → Scope → Extent → (b : ℕ) → Term → ℕ
stored_home L hs s w b e = if is_bare s w e then operand_home L hs s.index b e else home L hs s.index b e

abbrev pub put_code : Option ℤ → Option Ty → ℕ → ℕ → List DraftEntry → List DraftEntry
put_code None t from p rest = rest
put_code (Some c) t from p rest = word_code (index_word c) (store_code t from p (index_register (index_word c)) rest)

-- a value to an address that a register holds, where one does
abbrev pub placed_put : Option ℕ → (inner : List DraftEntry → List DraftEntry) → Option Ty → ℕ → List DraftEntry → List DraftEntry
placed_put (Some r) inner t from rest = store_code t from r iteration rest
placed_put None inner t from rest = inner rest

-- what an update asks of the accumulator and of the value
abbrev pub update_extent : List Loose → List ℕ → BinaryOp → Option Ty → Extent
update_extent ls x op want = binary_extent op (held_extent (loose_in ls x)) want

-- whether its result is extended: not that of an accumulator that is held loosely
abbrev pub update_settles : List Loose → List ℕ → BinaryOp → Option Ty → Bool
update_settles ls x op want = settles (within (held_extent (loose_in ls x)) want) (binary_joins op) (binary_leaves op)

-- an operator of an accumulator and a value
abbrev pub update_code : Layout → Homes → Scope → (b n : ℕ) → List ℕ → BinaryOp → Option Ty → Term → List DraftEntry → List DraftEntry
update_code L hs s b n x op want e rest =
    side_code (added_number op want e) (is_fused s op (update_extent L.loose x op want) want e) (loose_code L hs s (update_extent L.loose x op want) want b n e) (parts_code L hs s (update_extent L.loose x op want) want b n e)
    (at_type want (λ t. operator_code (right_side L hs s op (update_extent L.loose x op want) want b e) (update_settles L.loose x op want) op t (register_at hs x) (register_at hs x) rest) rest)

abbrev mutual
  pub action_code : Layout → Homes → Scope → (exit b n : ℕ) → Action → List DraftEntry → List DraftEntry
  action_code L hs s exit b n (Define x t e) rest =
      value_code L hs s (first t (own s e)) b n e (let_code L (b + term_size s.index e) (home L hs s.index b e) rest)
  action_code L hs s exit b n (Put a i e) rest =
      stored_code L hs s (extent_at (option_and_then element_type (lookup s a))) (option_and_then element_type (lookup s a)) b n e
      (placed_put (place_of L (register_at hs a) (option_and_then element_type (lookup s a)) (stream_offset s.index i))
      (put_code (stream_offset s.index i) (option_and_then element_type (lookup s a)) (stored_home L hs s (extent_at (option_and_then element_type (lookup s a))) b e) (register_at hs a))
      (option_and_then element_type (lookup s a)) (stored_home L hs s (extent_at (option_and_then element_type (lookup s a))) b e) rest)
  action_code L hs s exit b n (Update x op e) rest =
      update_code L hs s b n x (operator_of op) (option_and_then accumulator_type (lookup s x)) e rest
  action_code L hs s exit b n (Choose c blk d) rest =
      jump_code L hs s false n b (n + 1) c (block_code L hs s exit (b + term_size s.index c + 1) (n + 1 + labels s.index c) blk
      (otherwise_code L hs (left s (after_block s blk)) exit n (b + term_size s.index c + 1 + block_size s.index blk) (n + 1 + labels s.index c + block_labels s.index blk) d rest))
  action_code L hs s exit b n (Leave c) rest = jump_code L hs s true exit b n c rest

  pub block_code : Layout → Homes → Scope → (exit b n : ℕ) → Block → List DraftEntry → List DraftEntry
  block_code L hs s exit b n Done rest = rest
  block_code L hs s exit b n (Then a more) rest =
      action_code L hs s exit b n a (block_code L (after_homes L hs s b a) (after_action s a) exit (b + action_size s.index a) (n + action_labels s.index a) more rest)

  -- the second block, where there is one, after the label to which the branch goes
  pub otherwise_code : Layout → Homes → Scope → (exit other b n : ℕ) → Otherwise → List DraftEntry → List DraftEntry
  otherwise_code L hs s exit other b n Nothing rest = Place other ∷ rest
  otherwise_code L hs s exit other b n (Else blk) rest = Branch Always n ∷ Place other ∷ block_code L hs s exit (b + 1) (n + 1) blk (Place n ∷ rest)

abbrev pub FitsPut : Option ℤ → Type 0 → Type 0
FitsPut None h = ⊥
FitsPut (Some c) h = IsSmall c × h

abbrev mutual
  pub FitsAction : Layout → Homes → Scope → ℕ → Action → Type 0
  FitsAction L hs s b (Define x t e) = IsSome (first t (own s e)) × Fits L hs s (first t (own s e)) b (b + term_size s.index e) e
  FitsAction L hs s b (Put a i e) =
      IsSome (option_and_then element_type (lookup s a)) × Fits L hs s (option_and_then element_type (lookup s a)) b (b + term_size s.index e) e
      × FitsPut (stream_offset s.index i) (IndexAt hs s.index (b + term_size s.index e)) × NameLasts hs a (b + term_size s.index e)
  FitsAction L hs s b (Update x op e) =
      IsSome (option_and_then accumulator_type (lookup s x)) × Fits L hs s (option_and_then accumulator_type (lookup s x)) b (b + term_size s.index e) e
      × NameLasts hs x (b + term_size s.index e) × (10 ≤ register_at hs x) × Only hs x (register_at hs x) (b + term_size s.index e + 1)
  FitsAction L hs s b (Choose c blk d) =
      FitsTruth L hs s b c × FitsBlock L hs s (b + term_size s.index c + 1) blk
      × FitsOtherwise L hs (left s (after_block s blk)) (b + term_size s.index c + 1 + block_size s.index blk) d
  FitsAction L hs s b (Leave c) = FitsTruth L hs s b c

  pub FitsBlock : Layout → Homes → Scope → ℕ → Block → Type 0
  FitsBlock L hs s b Done = Unit {0}
  FitsBlock L hs s b (Then a more) = FitsAction L hs s b a × FitsBlock L (after_homes L hs s b a) (after_action s a) (b + action_size s.index a) more

  pub FitsOtherwise : Layout → Homes → Scope → ℕ → Otherwise → Type 0
  FitsOtherwise L hs s b Nothing = Unit {0}
  FitsOtherwise L hs s b (Else blk) = FitsBlock L hs s (b + 1) blk
