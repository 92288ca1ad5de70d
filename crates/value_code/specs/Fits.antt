-- When registers fit an expression: each value is kept until the item that uses it, and each place wants what stands there;
-- a literal is a value of the type that is wanted.
use Rattle.std.specs.Prelude.{◌≡◌, ℕ, ◌+◌, ◌<◌, ◌^◌, ℤ, pos, negsuc, List, Option, Some, None, option_and_then}
use Rattle.kernel_tree.specs.declared.ops.Ty.{Ty}
use Rattle.kernel_tree.specs.Plain.{Term, Literal, Variable, Element, Unary, Operation, Shift, Conversion, Choice, Comparison, Both, Either, Not}
use Rattle.kernel_tree.specs.Items.{term_size, index_items, stream_offset}
use Rattle.kernel_tree.specs.Typing.{Scope, lookup, own, element_type, value_type, index_type, side_type}
use Rattle.kernel_meaning.specs.Operators.{wrapped}
use Rattle.label_fix.specs.Registers.{iteration}
use Rattle.scalar_words.specs.Layout.{Layout, Homes, register_at, NameLasts, last_use_at}

abbrev pub IsSome : Option Ty → Type 0
IsSome None = ⊥
IsSome (Some t) = Unit {0}

-- the loop variable is held in X9
abbrev pub IndexAt : Homes → Option (List ℕ) → ℕ → Type 0
IndexAt hs None p = ⊥
IndexAt hs (Some x) p = (register_at hs x ≡ iteration) × NameLasts hs x p

-- an offset that an instruction can hold
abbrev pub IsSmall : ℤ → Type 0
IsSmall (pos c) = c < 2 ^ 12
IsSmall (negsuc c) = c + 1 < 2 ^ 12

-- an index that is an offset from the loop variable, or one that is computed
abbrev pub FitsIndex : Option ℤ → Type 0 → Type 0 → Type 0
FitsIndex (Some c) stream computed = IsSmall c × stream
FitsIndex None stream computed = computed

abbrev mutual
  -- a value whose items begin at b, and which item `user` uses
  pub Fits : Layout → Homes → Scope → Option Ty → (b user : ℕ) → Term → Type 0
  Fits L hs s want b user (Literal n) = (last_use_at L b ≡ user) × (wrapped want n ≡ n)
  Fits L hs s want b user (Variable x) = NameLasts hs x user × (option_and_then value_type (lookup s x) ≡ want)
  Fits L hs s want b user (Element a e) =
      (option_and_then element_type (lookup s a) ≡ want) × FitsIndex (stream_offset s.index e) (IndexAt hs s.index (b + index_items s.index e)) (Fits L hs s (index_type s e) b (b + index_items s.index e) e)
      × NameLasts hs a (b + index_items s.index e) × (last_use_at L (b + index_items s.index e) ≡ user)
  Fits L hs s want b user (Unary op e) = IsSome want × Fits L hs s want b (b + term_size s.index e) e × (last_use_at L (b + term_size s.index e) ≡ user)
  Fits L hs s want b user (Operation op x y) =
      IsSome want × Fits L hs s want b (b + term_size s.index x + term_size s.index y) x
      × Fits L hs s want (b + term_size s.index x) (b + term_size s.index x + term_size s.index y) y × (last_use_at L (b + term_size s.index x + term_size s.index y) ≡ user)
  Fits L hs s want b user (Shift left e n) = IsSome want × Fits L hs s want b (b + term_size s.index e) e × (last_use_at L (b + term_size s.index e) ≡ user)
  Fits L hs s want b user (Conversion e t) = (Some t ≡ want) × IsSome (own s e) × Fits L hs s (own s e) b (b + term_size s.index e) e × (last_use_at L (b + term_size s.index e) ≡ user)
  Fits L hs s want b user (Choice c x y) =
      Fits L hs s want b (b + term_size s.index x + term_size s.index y + term_size s.index c) x
      × Fits L hs s want (b + term_size s.index x) (b + term_size s.index x + term_size s.index y + term_size s.index c) y
      × FitsTruth L hs s (b + term_size s.index x + term_size s.index y) c × (last_use_at L (b + term_size s.index x + term_size s.index y + term_size s.index c) ≡ user)
  Fits L hs s want b user (Comparison op x y) = ⊥
  Fits L hs s want b user (Both x y) = ⊥
  Fits L hs s want b user (Either x y) = ⊥
  Fits L hs s want b user (Not e) = ⊥

  pub FitsTruth : Layout → Homes → Scope → (b : ℕ) → Term → Type 0
  FitsTruth L hs s b (Comparison op x y) =
      IsSome (side_type s x y) × Fits L hs s (side_type s x y) b (b + term_size s.index x + term_size s.index y) x
      × Fits L hs s (side_type s x y) (b + term_size s.index x) (b + term_size s.index x + term_size s.index y) y
  FitsTruth L hs s b (Both x y) = FitsTruth L hs s b x × FitsTruth L hs s (b + term_size s.index x) y
  FitsTruth L hs s b (Either x y) = FitsTruth L hs s b x × FitsTruth L hs s (b + term_size s.index x + 1) y
  FitsTruth L hs s b (Not e) = FitsTruth L hs s b e
  FitsTruth L hs s b (Literal n) = ⊥
  FitsTruth L hs s b (Variable x) = ⊥
  FitsTruth L hs s b (Element a e) = ⊥
  FitsTruth L hs s b (Unary op e) = ⊥
  FitsTruth L hs s b (Operation op x y) = ⊥
  FitsTruth L hs s b (Shift left e n) = ⊥
  FitsTruth L hs s b (Conversion e t) = ⊥
  FitsTruth L hs s b (Choice c x y) = ⊥
