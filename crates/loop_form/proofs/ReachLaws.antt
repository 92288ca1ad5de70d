-- The reach of an index is 256 or 65,536.
use Rattle.std.proofs.Common.{◌≡◌, ℕ, ◌-◌, List, [], ◌∷◌, Option, Some, None, refl, cond, Bool, true, false, inl, inr}
use Rattle.std.specs.Prelude.{◌⊎◌, is_some, filter_map}
use Rattle.std.specs.List.{cons_option}
use Rattle.kernel_tree.specs.declared.ops.Ty.{Ty}
use Rattle.kernel_tree.specs.Plain.{Term, Program}
use Rattle.kernel_tree.specs.Items.{stream_offset, loop_index}
use Rattle.loop_form.specs.declared.reach.Reach.{Reach}
use Rattle.loop_form.specs.Entries.{Content, IsRead, Entry}
use Rattle.loop_form.specs.Streams.{place_of}
use Rattle.loop_form.specs.Reaches.{source_type, reach_of_type, read_reach, reached, reach_in, reach_at}
use Rattle.kernel_tree.specs.declared.ops.Ty.TheVariants as ty

abbrev pub IsGiven : Option ℕ → Type 0
IsGiven None = Unit {0}
IsGiven (Some r) = (r ≡ 256) ⊎ (r ≡ 65536)

type-given : (t : Option Ty) → IsGiven (reach_of_type t)
type-given None = tt
type-given (Some ty.U8) = inl refl
type-given (Some ty.U16) = inr refl
type-given other = tt

pub read-given : (k : Program) (i : Term) (item : ℕ) → IsGiven (read_reach k i item)
read-given k i item = by (is_some (stream_offset (loop_index k) i)) (reach_of_type (source_type k (item - 1) i)) (type-given (source_type k (item - 1) i))
  where
    by : (b : Bool) (o : Option ℕ) → IsGiven o → IsGiven (cond b None o)
    by true o h = tt
    by false o h = h

-- the reads that are listed have such reaches
abbrev pub AreReaches : List Reach → Type 0
AreReaches [] = Unit {0}
AreReaches (r ∷ rs) = ((r.reach ≡ 256) ⊎ (r.reach ≡ 65536)) × AreReaches rs

abbrev IsOneGiven : Option Reach → Type 0
IsOneGiven None = Unit {0}
IsOneGiven (Some r) = (r.reach ≡ 256) ⊎ (r.reach ≡ 65536)

reached-given : (p o : Option ℕ) → IsGiven o → IsOneGiven (reached p o)
reached-given None None h = tt
reached-given None (Some r) h = tt
reached-given (Some p) None h = tt
reached-given (Some p) (Some r) h = h

in-given : (k : Program) (c : Content) (item : ℕ) → IsOneGiven (reach_in k c item)
in-given k (IsRead a i) item = reached-given (place_of a k.params) (read_reach k i item) (read-given k i item)
in-given k other item = tt

pub reaches-given : (k : Program) (es : List Entry) → AreReaches (filter_map (reach_at k) es)
reaches-given k [] = tt
reaches-given k (e ∷ es) = by (reach_at k e) (in-given k e.content e.item) (reaches-given k es)
  where
    by : (o : Option Reach) → IsOneGiven o → AreReaches (filter_map (reach_at k) es) → AreReaches (cons_option o (filter_map (reach_at k) es))
    by None h j = j
    by (Some r) h j = (h, j)
