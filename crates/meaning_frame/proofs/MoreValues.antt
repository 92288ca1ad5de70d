-- The value of an expression that faults nowhere is the same where the memory has other pages too.
use Rattle.std.proofs.Common.{◌≡◌, ℕ, Bool, true, false, Option, Some, None, Result, Ok, Err, refl, ap, ◌∙◌}
use Rattle.std.specs.Prelude.{ℤ, not, option_map, option_and_then}
use Rattle.guest_types.specs.declared.memory.AccessFault.{AccessFault}
use Rattle.guest_types.specs.Memory.{Memory, loaded, merged, DoNotMeet}
use Rattle.kernel_tree.specs.declared.ops.Ty.{Ty}
use Rattle.kernel_tree.specs.Plain.{Term, Literal, Variable, Element, Unary, Operation, Shift, Conversion, Choice, Comparison, Both, Either, Not}
use Rattle.kernel_tree.specs.Wrap.{wrap, byte_count}
use Rattle.kernel_tree.specs.Items.{stream_offset}
use Rattle.kernel_tree.specs.Typing.{Scope, lookup, own, element_type, index_type, side_type}
use Rattle.kernel_meaning.specs.Operators.{unary_value, binary_value, shift_value, compare_on}
use Rattle.kernel_meaning.specs.Eval.{Names, value_at, address, iteration, element_number, read_value, read_element, on_both, choose_value, chosen, and_then, or_else, value, holds}
use Rattle.meaning_frame.proofs.MorePages.{loaded-merged}

-- what the one gives, the other gives too
abbrev pub Gives : {A : Type 0} → Option A → Option A → Type 0
Gives None other = Unit {0}
Gives (Some x) other = other ≡ Some x

pub map_gives : {A B : Type 0} (f : A → B) (a b : Option A) → Gives a b → Gives (option_map f a) (option_map f b)
map_gives f None b h = tt
map_gives f (Some x) b h = ap (option_map f) h

both_gives : {A : Type 0} (f : ℤ → ℤ → A) (a b c d : Option ℤ) → Gives a b → Gives c d → Gives (on_both f a c) (on_both f b d)
both_gives f None b c d h k = tt
both_gives f (Some x) b None d h k = tt
both_gives f (Some x) b (Some y) d h k = ap (λ o. on_both f o d) h ∙ ap (on_both f (Some x)) k

chosen_gives : (a b c d : Option ℤ) (p q : Option Bool) → Gives a b → Gives c d → Gives p q → Gives (chosen a c p) (chosen b d q)
chosen_gives a b c d None q h k l = tt
chosen_gives None b c d (Some t) q h k l = tt
chosen_gives (Some x) b None d (Some t) q h k l = tt
chosen_gives (Some x) b (Some y) d (Some t) q h k l = ap (chosen b d) l ∙ ap (λ o. on_both (choose_value t) o d) h ∙ ap (on_both (choose_value t) (Some x)) k

and_gives : (a b c d : Option Bool) → Gives a b → Gives c d → Gives (and_then a c) (and_then b d)
and_gives None b c d h k = tt
and_gives (Some true) b None d h k = tt
and_gives (Some true) b (Some x) d h k = ap (λ o. and_then o d) h ∙ k
and_gives (Some false) b c d h k = ap (λ o. and_then o d) h

or_gives : (a b c d : Option Bool) → Gives a b → Gives c d → Gives (or_else a c) (or_else b d)
or_gives None b c d h k = tt
or_gives (Some false) b None d h k = tt
or_gives (Some false) b (Some x) d h k = ap (λ o. or_else o d) h ∙ k
or_gives (Some true) b c d h k = ap (λ o. or_else o d) h

pub number_gives : (stream : Option ℤ) (i : ℤ) (a b : Option ℤ) → Gives a b → Gives (element_number stream i a) (element_number stream i b)
number_gives (Some c) i a b h = refl
number_gives None i a b h = h

module _ (others memory : Memory) (apart : DoNotMeet others memory) where
  read_gives : (t : Option Ty) (base : ℤ) (a b : Option ℤ) → Gives a b → Gives (option_and_then (read_element t memory base) a) (option_and_then (read_element t (merged others memory) base) b)
  read_gives t base None b h = tt
  read_gives None base (Some x) b h = ap (option_and_then (read_element None (merged others memory) base)) h
  read_gives (Some t) base (Some x) b h = go (loaded memory (address t base x) (byte_count t)) refl
    where
      go : (r : Result ℕ AccessFault) → loaded memory (address t base x) (byte_count t) ≡ r → Gives (read_value t r) (option_and_then (read_element (Some t) (merged others memory) base) b)
      go (Ok v) e =
          ap (option_and_then (read_element (Some t) (merged others memory) base)) h
          ∙ ap (read_value t) (loaded-merged others memory apart (address t base x) (byte_count t) v e)
      go (Err fault) e = tt

  mutual
    pub value_gives : (e : Term) (s : Scope) (want : Option Ty) (names : Names) → Gives (value s want e memory names) (value s want e (merged others memory) names)
    value_gives (Literal n) s want names = refl
    value_gives (Variable x) s want names = refl
    value_gives (Element a i) s want names =
        read_gives (option_and_then element_type (lookup s a)) (value_at names a) _ _
        (number_gives (stream_offset s.index i) (iteration s.index names) _ _ (value_gives i s (index_type s i) names))
    value_gives (Unary op e) s want names = map_gives (unary_value op want) _ _ (value_gives e s want names)
    value_gives (Operation op a b) s want names = both_gives (binary_value op want) _ _ _ _ (value_gives a s want names) (value_gives b s want names)
    value_gives (Shift left e n) s want names = map_gives (shift_value left n want) _ _ (value_gives e s want names)
    value_gives (Conversion e t) s want names = map_gives (wrap t) _ _ (value_gives e s (own s e) names)
    value_gives (Choice c a b) s want names = chosen_gives _ _ _ _ _ _ (value_gives a s want names) (value_gives b s want names) (holds_gives c s names)
    value_gives (Comparison op a b) s want names = refl
    value_gives (Both a b) s want names = refl
    value_gives (Either a b) s want names = refl
    value_gives (Not e) s want names = refl

    pub holds_gives : (e : Term) (s : Scope) (names : Names) → Gives (holds s e memory names) (holds s e (merged others memory) names)
    holds_gives (Comparison op a b) s names = both_gives (compare_on op) _ _ _ _ (value_gives a s (side_type s a b) names) (value_gives b s (side_type s a b) names)
    holds_gives (Both a b) s names = and_gives _ _ _ _ (holds_gives a s names) (holds_gives b s names)
    holds_gives (Either a b) s names = or_gives _ _ _ _ (holds_gives a s names) (holds_gives b s names)
    holds_gives (Not e) s names = map_gives not _ _ (holds_gives e s names)
    holds_gives (Literal n) s names = refl
    holds_gives (Variable x) s names = refl
    holds_gives (Element a i) s names = refl
    holds_gives (Unary op e) s names = refl
    holds_gives (Operation op a b) s names = refl
    holds_gives (Shift left e n) s names = refl
    holds_gives (Conversion e t) s names = refl
    holds_gives (Choice c a b) s names = refl
