-- What calls append to code: nothing where they fail, and one word or more.
use Rattle.std.proofs.Common.{◌≡◌, ℕ, Bool, ◌++◌, ◌∷◌, List, [], if◌then◌else◌, sym, ap, ◌∙◌, append-nil, append_assoc, eq-eqb, ne_eqb}
use Rattle.std.proofs.lemmas.List.{map_push}
use Rattle.sve_code.specs.declared.Sve.{Sve}
use Rattle.sve_code.specs.Table.{Name, z_orr}
use Rattle.sve_code.specs.View.{instruction_view}
use Rattle.guest_types.specs.declared.length.Width.{Width}
use Rattle.lane_emit.specs.Stretch.{VectorInstruction, word}
use Rattle.lane_emit.specs.LaneCode.{size_of, z_copy, merged}
use Rattle.lane_emit.specs.View.{words_of, Adds, Appends}

-- the same code by another name
pub adds_as : (old new : List Sve) (made wanted : List VectorInstruction) → made ≡ wanted → Adds made old new → Adds wanted old new
adds_as old new made wanted e p = p ∙ ap (λ l. words_of old ++ l) e

pub adds_word : (old new : List Sve) (v : Sve) (wanted : List VectorInstruction) → new ≡ old ++ v ∷ [] → instruction_view v ∷ [] ≡ wanted → Adds wanted old new
adds_word old new v wanted e is = ap words_of e ∙ map_push instruction_view old v ∙ ap (λ l. words_of old ++ l) is

-- what stands before any rest stands before none
pub adds_last : (old new : List Sve) (made : List VectorInstruction → List VectorInstruction) → Appends made old new → Adds (made []) old new
adds_last old new made p = sym (append-nil (words_of new)) ∙ p []

-- one word, and what another call appends after it
pub adds_after : (old middle new : List Sve) (v : Sve) (more : List VectorInstruction) → middle ≡ old ++ v ∷ [] → Adds more middle new → Adds (instruction_view v ∷ more) old new
adds_after old middle new v more e p =
    p ∙ ap (λ l. l ++ more) (ap words_of e ∙ map_push instruction_view old v) ∙ append_assoc (words_of old) (instruction_view v ∷ []) more

-- ---- a copy, which is left out between one register and itself

pub no_copy : (old : List Sve) (d a : ℕ) → d ≡ a → Appends (z_copy d a) old old
no_copy old d a e rest = ap (λ t. words_of old ++ (if t then rest else word z_orr (d ∷ a ∷ a ∷ []) ∷ rest)) (sym (eq-eqb d a e))

pub one_copy : (old new : List Sve) (v : Sve) (d a : ℕ) → (d ≡ a → ⊥) → new ≡ old ++ v ∷ [] → instruction_view v ≡ word z_orr (d ∷ a ∷ a ∷ []) → Appends (z_copy d a) old new
one_copy old new v d a other e is rest =
    ap (λ l. l ++ rest) (ap words_of e ∙ map_push instruction_view old v) ∙ append_assoc (words_of old) (instruction_view v ∷ []) rest
    ∙ ap (λ i. words_of old ++ i ∷ rest) is ∙ ap (λ t. words_of old ++ (if t then rest else word z_orr (d ∷ a ∷ a ∷ []) ∷ rest)) (sym (ne_eqb d a other))

-- ---- an operation that changes its first operand

module _ (w : Width) (name : Name) (d a b : ℕ) (rest : List VectorInstruction) where
  abbrev either : Bool → List VectorInstruction
  either t = if t then word name (d ∷ a ∷ 1 ∷ size_of w ∷ []) ∷ rest else z_copy d a (word name (d ∷ b ∷ 1 ∷ size_of w ∷ []) ∷ rest)

  pub merged_exchanged : d ≡ b → word name (d ∷ a ∷ 1 ∷ size_of w ∷ []) ∷ rest ≡ merged w name d a b rest
  merged_exchanged e = ap either (sym (eq-eqb d b e))

  pub merged_copied : (d ≡ b → ⊥) → z_copy d a (word name (d ∷ b ∷ 1 ∷ size_of w ∷ []) ∷ rest) ≡ merged w name d a b rest
  merged_copied other = ap either (sym (ne_eqb d b other))
