-- What is spelled so is read, where no more can belong to it.
use Rattle.std.proofs.Common.{◌≡◌, ℕ, zero, suc, ◌-◌, ◌≤◌, List, ◌∷◌, length, Some, None, Ok, refl, sym, arith, ◌⊎◌, inl, inr}
use Rattle.std.proofs.lemmas.Bool.{eq-eqb}
use Rattle.std.proofs.lemmas.Bool.Decides.{eqb_tells}
use Rattle.kernel_tree.proofs.OneTerm.{shorter}
use Rattle.kernel_tree.specs.declared.ops.Ty.{Ty}
use Rattle.kernel_tree.specs.declared.mark.Mark.{Mark}
use Rattle.kernel_tree.specs.declared.mark.Mark.TheVariants as mark
use Rattle.kernel_tree.specs.declared.mark.Operator.{Operator}
use Rattle.kernel_tree.specs.declared.mark.Operator.TheVariants.{Joined, Compared, Shifted, As}
use Rattle.kernel_tree.specs.TextToken.{TextToken, IsNumber, IsType, IsMark}
use Rattle.kernel_tree.specs.Plain.{Term}
use Rattle.kernel_tree.specs.Grammar.{Spells, number, name, element, group, pair, absolute, choice, negative, prefix, up, conversion, shift, operation, comparison, operator_of, operator_of_mark, level_of}
use Rattle.expression_syntax.specs.Reading.{following, past, type_at, count_at, operator_at, chain_at, term_before, name_by, pair_by, absolute_by, choice_by, signed_by, unary_at}
use Rattle.expression_syntax.proofs.Chain.{Goes, chain_begins_below, chain_without_operator, goes_joined, goes_shifted, goes_as, ends_compared}
use Rattle.expression_syntax.proofs.Sound.{joined_is_no_8, other_is_no_8}

-- nothing at the front goes on with an expression of a level
pub record Stops (level : ℕ) (rest : List TextToken) : Type 0 where
  pub operators : (l : ℕ) → l ≤ level → operator_at l rest ≡ None
  pub bracket : following mark.OpenBracket rest ≡ None

pub operator_there : (level : ℕ) (w : TextToken) (o : Operator) (rest : List TextToken) → operator_of w ≡ Some o → level_of o ≡ level → operator_at level (w ∷ rest) ≡ Some (o, rest)
unfolding operator_at
operator_there level w o rest p q = rw (p, eq-eqb (level_of o) level q) refl

no_operator : (level l : ℕ) (w : TextToken) (o : Operator) (rest : List TextToken) → operator_of w ≡ Some o → level_of o ≡ suc level → l ≤ level → operator_at l (w ∷ rest) ≡ None
unfolding operator_at
no_operator level l w o rest p q h = elim (eqb_tells (level_of o) l) [ inl t ↦ absurd (omega (arith, t.1)) | inr f ↦ rw (p, f.0) refl ]

no_bracket_mark : (m : Mark) (o : Operator) (rest : List TextToken) → operator_of_mark m ≡ Some o → following mark.OpenBracket (IsMark m ∷ rest) ≡ None
unfolding following
no_bracket_mark mark.OpenBracket o rest p = absurd cc
no_bracket_mark _ o rest p = refl

no_bracket : (w : TextToken) (o : Operator) (rest : List TextToken) → operator_of w ≡ Some o → following mark.OpenBracket (w ∷ rest) ≡ None
unfolding following
no_bracket (IsMark m) o rest p = no_bracket_mark m o rest p
no_bracket other o rest p = refl

pub stops_before : (level : ℕ) (w : TextToken) (o : Operator) (rest : List TextToken) → operator_of w ≡ Some o → level_of o ≡ suc level → Stops level (w ∷ rest)
stops_before level w o rest p q = record { operators = λ l h. no_operator level l w o rest p q h; bracket = no_bracket w o rest p }

stops_lower : (level : ℕ) (rest : List TextToken) → Stops (suc level) rest → Stops level rest
stops_lower level rest s = record { operators = λ l h. s.operators l (omega arith); bracket = s.bracket }

-- a mark that is no operator and no bracket to open
pub stops_at : (level : ℕ) (m : Mark) (rest : List TextToken) → operator_of_mark m ≡ None → following mark.OpenBracket (IsMark m ∷ rest) ≡ None → Stops level (IsMark m ∷ rest)
unfolding operator_at
stops_at level m rest p q = record { operators = λ l h. rw p refl; bracket = q }

-- how reading an expression of a level goes
abbrev pub Reads : ℕ → ℕ → List TextToken → Term → List TextToken → Type 0
Reads room zero words e rest = Stops 0 rest → unary_at room words ≡ Ok (e, rest)
Reads room (suc level) words e rest = Stops level rest → Goes (unary_at room) (suc level) words e rest ⊎ ((suc level ≡ 8) × (chain_at (unary_at room) (suc level) words ≡ Ok (e, rest)))

pub finish : (room level : ℕ) (words : List TextToken) (e : Term) (rest : List TextToken) → Reads room level words e rest → Stops level rest → chain_at (unary_at room) level words ≡ Ok (e, rest)
unfolding chain_at
finish room zero words e rest r s = r s
finish room (suc level) words e rest r s = elim (r (stops_lower level rest s)) [ inl g ↦ chain_without_operator (unary_at room) (suc level) words e rest g (sym (s.operators (suc level) (omega arith))) | inr c ↦ c.1 ]

pub goes_of : (room level : ℕ) (words : List TextToken) (e : Term) (rest : List TextToken) → (suc level ≡ 8 → ⊥) → Goes (unary_at room) (suc level) words e rest ⊎ ((suc level ≡ 8) × (chain_at (unary_at room) (suc level) words ≡ Ok (e, rest))) → Goes (unary_at room) (suc level) words e rest
goes_of room level words e rest n (inl g) = g
goes_of room level words e rest n (inr c) = absurd (n c.0)

-- an expression and the mark after it
pub before_reads : (room : ℕ) (m : Mark) (words : List TextToken) (e : Term) (rest : List TextToken) → operator_of_mark m ≡ None → following mark.OpenBracket (IsMark m ∷ rest) ≡ None → past m (IsMark m ∷ rest) ≡ Ok rest → Reads room 10 words e (IsMark m ∷ rest) → term_before (chain_at (unary_at room) 10) m words ≡ Ok (e, rest)
unfolding term_before
before_reads room m words e rest o b a r = rw (finish room 10 words e (IsMark m ∷ rest) r (stops_at 10 m rest o b), a) refl

pub type_there : (t : Ty) (rest : List TextToken) → type_at (IsType t ∷ rest) ≡ Ok (t, rest)
unfolding type_at
type_there t rest = refl

pub count_there : (n : ℕ) (rest : List TextToken) → count_at (IsNumber n ∷ rest) ≡ Ok (n, rest)
unfolding count_at
count_there n rest = refl

pub reads : {level : ℕ} {words : List TextToken} {e : Term} {rest : List TextToken} → Spells level words e rest → (room : ℕ) → length words ≤ room → Reads room level words e rest
unfolding unary_at name_by pair_by absolute_by choice_by signed_by following past
reads number (suc room) h = λ s. refl
reads (name {x = x} {rest = rest}) (suc room) h = λ s. rw (s.bracket) refl
reads (element {x = x} {i = i} {from = from} {rest = rest} d) (suc room) h = λ s. rw (before_reads room mark.CloseBracket from i rest refl refl refl (reads d room (omega arith))) refl
reads (group {e = e} {from = from} {rest = rest} d) (suc room) h = λ s. before_reads room mark.CloseParen from e rest refl refl refl (reads d room (omega arith))
reads (pair {a = a} {b = b} {from = from} {next = next} {rest = rest} o d1 d2) (suc room) h = λ s. rw (o, before_reads room mark.Comma from a next refl refl refl (reads d1 room (omega arith)), before_reads room mark.CloseParen next b rest refl refl refl (reads d2 room (omega (arith, shorter d1)))) refl
reads (absolute {e = e} {from = from} {rest = rest} d) (suc room) h = λ s. rw (before_reads room mark.CloseParen from e rest refl refl refl (reads d room (omega arith))) refl
reads (choice {c = c} {a = a} {b = b} {from = from} {next = next} {last = last} {rest = rest} d1 d2 d3) (suc room) h = λ s. rw (before_reads room mark.Comma from c next refl refl refl (reads d1 room (omega arith)), before_reads room mark.Comma next a last refl refl refl (reads d2 room (omega (arith, shorter d1))), before_reads room mark.CloseParen last b rest refl refl refl (reads d3 room (omega (arith, shorter d1, shorter d2)))) refl
reads negative (suc room) h = λ s. refl
reads (prefix {e = e} {from = from} {rest = rest} o n d) (suc room) h = λ s. rw (o, n, reads d room (omega arith) s) refl
reads (up {level = level} {e = e} {from = from} {rest = rest} d) room h = λ s.
    let p : suc level - 1 ≡ level = omega arith in
    inl (chain_begins_below (unary_at room) (suc level) from e rest (omega arith) (rw p (finish room level from e rest (reads d room h) s)))
reads (conversion {level = level} {e = e} {t = t} {w = w} {from = from} {rest = rest} d o l) room h = λ s.
    let g = goes_of room level from e (w ∷ IsType t ∷ rest) (other_is_no_8 1 level (omega arith) l) (reads d room h (stops_before level w As (IsType t ∷ rest) o l)) in
    inl (goes_as (unary_at room) (suc level) from e (w ∷ IsType t ∷ rest) g (IsType t ∷ rest) t rest (sym (operator_there (suc level) w As (IsType t ∷ rest) o l)) (type_there t rest) (omega arith))
reads (shift {level = level} {left = left} {e = e} {n = n} {w = w} {from = from} {rest = rest} d o l) room h = λ s.
    let g = goes_of room level from e (w ∷ IsNumber n ∷ rest) (other_is_no_8 4 level (omega arith) l) (reads d room h (stops_before level w (Shifted left) (IsNumber n ∷ rest) o l)) in
    inl (goes_shifted (unary_at room) (suc level) from e (w ∷ IsNumber n ∷ rest) g left (IsNumber n ∷ rest) n rest (sym (operator_there (suc level) w (Shifted left) (IsNumber n ∷ rest) o l)) (count_there n rest) (omega arith))
reads (operation {level = level} {j = j} {w = w} {a = a} {b = b} {from = from} {next = next} {rest = rest} d1 o l d2) room h = λ s.
    let p : suc level - 1 ≡ level = omega arith in
    let g = goes_of room level from a (w ∷ next) (joined_is_no_8 j level l) (reads d1 room h (stops_before level w (Joined j) next o l)) in
    let right = finish room level next b rest (reads d2 room (omega (arith, shorter d1))) s in
    inl (goes_joined (unary_at room) (suc level) from a (w ∷ next) g j next b rest (sym (operator_there (suc level) w (Joined j) next o l)) (rw p right) (omega (arith, shorter d2)))
reads (comparison {level = level} {op = op} {w = w} {a = a} {b = b} {from = from} {next = next} {rest = rest} d1 o l d2) room h = λ s.
    let p : suc level - 1 ≡ level = omega arith in
    let left = finish room level from a (w ∷ next) (reads d1 room h) (stops_before level w (Compared op) next o l) in
    let right = finish room level next b rest (reads d2 room (omega (arith, shorter d1))) s in
    let g = chain_begins_below (unary_at room) (suc level) from a (w ∷ next) (omega arith) (rw p left) in
    inr (sym l, ends_compared (unary_at room) (suc level) from a (w ∷ next) g op next b rest (sym (operator_there (suc level) w (Compared op) next o l)) (rw p right))
reads other zero h = λ s. absurd (omega arith)

-- an expression and the mark after it, with room for as many as there are tokens
pub spells_before : (m : Mark) (words : List TextToken) (e : Term) (rest : List TextToken) (room : ℕ) → operator_of_mark m ≡ None → following mark.OpenBracket (IsMark m ∷ rest) ≡ None → past m (IsMark m ∷ rest) ≡ Ok rest → length words ≤ room → Spells 10 words e (IsMark m ∷ rest) → term_before (chain_at (unary_at room) 10) m words ≡ Ok (e, rest)
spells_before m words e rest room o b a h d = before_reads room m words e rest o b a (reads d room h)
