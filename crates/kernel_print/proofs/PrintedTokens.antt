-- What is printed of a kernel is a list of tokens.
use Rattle.std.proofs.Common.{List, [], ◌∷◌, Bool, true, false, Option, Some, None, refl}
use Rattle.std.specs.Prelude.{ℤ, pos, negsuc, IsTrue}
use Rattle.kernel_tree.specs.declared.ops.Ty.{Ty}
use Rattle.kernel_tree.specs.declared.ops.UnaryOp.{UnaryOp}
use Rattle.kernel_tree.specs.declared.ops.UnaryOp.TheVariants as unary
use Rattle.kernel_tree.specs.declared.ops.BinaryOp.{BinaryOp}
use Rattle.kernel_tree.specs.declared.ast.Shape.{Shape}
use Rattle.kernel_tree.specs.declared.ast.Shape.TheVariants as shape
use Rattle.kernel_tree.specs.declared.place.Place.{Place}
use Rattle.kernel_tree.specs.declared.place.Place.TheVariants as site
use Rattle.kernel_tree.specs.declared.mark.Mark.{Mark}
use Rattle.kernel_tree.specs.TextToken.{TextToken, IsCompare, IsMark}
use Rattle.kernel_tree.specs.Tokens.{is_token}
use Rattle.kernel_tree.specs.Plain.{Term, Literal, Variable, Element, Unary, Operation, Shift, Conversion, Choice, Comparison, Both, Either, Not, Action, Define, Put, Update, Choose, Leave, Block, Done, Then, Otherwise, Nothing, Else, Parameter, Accumulator, PlainLoop, Returned, Program}
use Rattle.kernel_tree.specs.Printing.{opened, closed, number_opened, number_closed, print_literal, print_count, mark_of_binary, print_between, print_binary, print_unary, print_term, print_type, print_action, print_block, print_otherwise, print_shape, print_others, print_params, print_vars, print_for_loop, print_arrow, print_answer, canonical_words}
use Rattle.kernel_tree.proofs.Well.{Tokens, IsCount, Well, WellAction, WellBlock, WellOtherwise, WellParams, WellVars, WellForLoop, WellAnswer, WellProgram}

opened_tokens : (place : Place) (rest : List TextToken) → Tokens rest → Tokens (opened place rest)
unfolding opened
opened_tokens site.Alone rest t = t
opened_tokens site.Operand rest t = (refl, t)
opened_tokens site.Negated rest t = (refl, t)

closed_tokens : (place : Place) (rest : List TextToken) → Tokens rest → Tokens (closed place rest)
unfolding closed
closed_tokens site.Alone rest t = t
closed_tokens site.Operand rest t = (refl, t)
closed_tokens site.Negated rest t = (refl, t)

literal_tokens : (n : ℤ) (place : Place) (rest : List TextToken) → Well (Literal n) → Tokens rest → Tokens (print_literal n place rest)
unfolding number_opened number_closed
literal_tokens (pos n) site.Alone rest h t = (h, t)
literal_tokens (pos n) site.Operand rest h t = (h, t)
literal_tokens (pos n) site.Negated rest h t = (refl, (h, (refl, t)))
literal_tokens (negsuc n) place rest h t = opened_tokens place _ (refl, (h, closed_tokens place rest t))

count_tokens : (n : ℤ) (rest : List TextToken) → IsCount n → Tokens rest → Tokens (print_count n rest)
count_tokens (pos n) rest h t = (h, t)
count_tokens (negsuc n) rest h t = absurd h

-- what prints tokens in front of tokens
abbrev Keeps : (Place → List TextToken → List TextToken) → Type 0
Keeps f = (place : Place) (rest : List TextToken) → Tokens rest → Tokens (f place rest)

between_tokens : (f g : Place → List TextToken → List TextToken) (w : TextToken) → IsTrue (is_token w) → Keeps f → Keeps g → Keeps (print_between f w g)
between_tokens f g w h p q place rest t = opened_tokens place _ (p site.Operand _ (h, q site.Operand _ (closed_tokens place rest t)))

binary_tokens : (o : Option Mark) (op : BinaryOp) (f g : Place → List TextToken → List TextToken) → Keeps f → Keeps g → Keeps (print_binary o op f g)
binary_tokens (Some m) op f g p q place rest t = between_tokens f g (IsMark m) refl p q place rest t
binary_tokens None op f g p q place rest t = (refl, (refl, p site.Alone _ (refl, q site.Alone _ (refl, t))))

unary_tokens : (op : UnaryOp) (f : Place → List TextToken → List TextToken) → Keeps f → Keeps (print_unary op f)
unary_tokens unary.Neg f p place rest t = opened_tokens place _ (refl, p site.Negated _ (closed_tokens place rest t))
unary_tokens unary.Flip f p place rest t = opened_tokens place _ (refl, p site.Operand _ (closed_tokens place rest t))
unary_tokens unary.Abs f p place rest t = (refl, (refl, p site.Alone _ (refl, t)))

pub term_tokens : (e : Term) → Well e → Keeps (print_term e)
term_tokens (Literal n) h place rest t = literal_tokens n place rest h t
term_tokens (Variable x) h place rest t = (h, t)
term_tokens (Element a i) h place rest t = (h.0, (refl, term_tokens i h.1 site.Alone _ (refl, t)))
term_tokens (Unary op e) h place rest t = unary_tokens op (print_term e) (term_tokens e h) place rest t
term_tokens (Operation op a b) h place rest t = binary_tokens (mark_of_binary op) op (print_term a) (print_term b) (term_tokens a h.0) (term_tokens b h.1) place rest t
term_tokens (Shift left e n) h place rest t = opened_tokens place _ (term_tokens e h.0 site.Operand _ (refl, count_tokens n _ h.1 (closed_tokens place rest t)))
term_tokens (Conversion e y) h place rest t = opened_tokens place _ (term_tokens e h site.Operand _ (refl, (refl, closed_tokens place rest t)))
term_tokens (Choice c a b) h place rest t = (refl, (refl, term_tokens c h.0 site.Alone _ (refl, term_tokens a h.1.0 site.Alone _ (refl, term_tokens b h.1.1 site.Alone _ (refl, t)))))
term_tokens (Comparison op a b) h place rest t = between_tokens (print_term a) (print_term b) (IsCompare op) refl (term_tokens a h.0) (term_tokens b h.1) place rest t
term_tokens (Both a b) h place rest t = between_tokens (print_term a) (print_term b) _ refl (term_tokens a h.0) (term_tokens b h.1) place rest t
term_tokens (Either a b) h place rest t = between_tokens (print_term a) (print_term b) _ refl (term_tokens a h.0) (term_tokens b h.1) place rest t
term_tokens (Not e) h place rest t = opened_tokens place _ (refl, term_tokens e h site.Operand _ (closed_tokens place rest t))

-- an expression by itself, and tokens after it
tokens_of_printed_term : (e : Term) → Well e → (rest : List TextToken) → Tokens rest → Tokens (print_term e site.Alone rest)
tokens_of_printed_term e h rest t = term_tokens e h site.Alone rest t

type_tokens : (y : Option Ty) (rest : List TextToken) → Tokens rest → Tokens (print_type y rest)
type_tokens None rest t = t
type_tokens (Some y) rest t = (refl, (refl, t))

mutual
  action_tokens : (whole : Bool) (s : Action) → WellAction whole s → (rest : List TextToken) → Tokens rest → Tokens (print_action s rest)
  action_tokens whole (Define x y e) h rest t = (refl, (h.0, type_tokens y _ (refl, tokens_of_printed_term e h.1 _ (refl, t))))
  action_tokens whole (Put a i e) h rest t = (h.0, (refl, tokens_of_printed_term i h.1.0 _ (refl, (refl, tokens_of_printed_term e h.1.1 _ (refl, t)))))
  action_tokens whole (Update x op e) h rest t = (h.0, (refl, tokens_of_printed_term e h.1 _ (refl, t)))
  action_tokens whole (Choose c b d) h rest t = (refl, tokens_of_printed_term c h.0 _ (refl, block_tokens false b h.1.0 _ (otherwise_tokens d h.1.1 rest t)))
  action_tokens whole (Leave c) h rest t = (refl, (refl, tokens_of_printed_term c h.1 _ (refl, t)))

  pub block_tokens : (whole : Bool) (b : Block) → WellBlock whole b → (rest : List TextToken) → Tokens rest → Tokens (print_block b rest)
  block_tokens whole Done h rest t = (refl, t)
  block_tokens whole (Then s b) h rest t = action_tokens whole s h.0 _ (block_tokens whole b h.1 rest t)

  otherwise_tokens : (d : Otherwise) → WellOtherwise d → (rest : List TextToken) → Tokens rest → Tokens (print_otherwise d rest)
  otherwise_tokens Nothing h rest t = t
  otherwise_tokens (Else b) h rest t = (refl, (refl, block_tokens false b h rest t))

shape_tokens : (s : Shape) (rest : List TextToken) → Tokens rest → Tokens (print_shape s rest)
shape_tokens (shape.Scalar y) rest t = (refl, t)
shape_tokens (shape.Array y) rest t = (refl, (refl, (refl, t)))

others_tokens : (ps : List Parameter) → WellParams ps → (rest : List TextToken) → Tokens rest → Tokens (print_others ps rest)
others_tokens [] h rest t = t
others_tokens (p ∷ ps) h rest t = (refl, (h.0, (refl, shape_tokens p.shape _ (others_tokens ps h.1 rest t))))

params_tokens : (ps : List Parameter) → WellParams ps → (rest : List TextToken) → Tokens rest → Tokens (print_params ps rest)
params_tokens [] h rest t = t
params_tokens (p ∷ ps) h rest t = (h.0, (refl, shape_tokens p.shape _ (others_tokens ps h.1 rest t)))

vars_tokens : (vs : List Accumulator) → WellVars vs → (rest : List TextToken) → Tokens rest → Tokens (print_vars vs rest)
vars_tokens [] h rest t = t
vars_tokens (v ∷ vs) h rest t = (refl, (h.0, (refl, (refl, (refl, tokens_of_printed_term v.init h.1.0 _ (refl, vars_tokens vs h.1.1 rest t))))))

for_loop_tokens : (l : Option PlainLoop) → WellForLoop l → (rest : List TextToken) → Tokens rest → Tokens (print_for_loop l rest)
for_loop_tokens None h rest t = t
for_loop_tokens (Some l) h rest t = (refl, (h.0, (refl, (refl, (refl, (h.1.0, (refl, block_tokens true l.body h.1.1 rest t)))))))

arrow_tokens : (a : Option Returned) (rest : List TextToken) → Tokens rest → Tokens (print_arrow a rest)
arrow_tokens None rest t = t
arrow_tokens (Some a) rest t = (refl, (refl, t))

answer_tokens : (a : Option Returned) → WellAnswer a → (rest : List TextToken) → Tokens rest → Tokens (print_answer a rest)
answer_tokens None h rest t = t
answer_tokens (Some a) h rest t = (refl, tokens_of_printed_term a.value h _ (refl, t))

pub canonical_tokens : (k : Program) → WellProgram k → Tokens (canonical_words k)
canonical_tokens k h = (refl, (h.name, (refl, params_tokens k.params h.params _ (refl, arrow_tokens k.answer _ (refl, vars_tokens k.vars h.vars _ (for_loop_tokens k.for_loop h.for_loop _ (answer_tokens k.answer h.answer _ (refl, tt))))))))
