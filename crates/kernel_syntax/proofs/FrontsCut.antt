-- What stands up to some tokens stands alone without them.
use Rattle.std.proofs.Common.{◌≡◌, ℕ, ◌++◌, Bool, List, [], ◌∷◌, Option, None, refl, ap, subst}
use Rattle.kernel_tree.specs.declared.ops.Ty.{Ty}
use Rattle.kernel_tree.specs.declared.mark.Mark.TheVariants as mark
use Rattle.kernel_tree.specs.declared.mark.Sign.{Sign}
use Rattle.kernel_tree.specs.declared.mark.Sign.TheVariants as sign
use Rattle.kernel_tree.specs.TextToken.{TextToken, IsName, IsNumber, IsType, IsUpdate, IsMark}
use Rattle.kernel_tree.specs.Plain.{Term, Action, Block, Parameter, Accumulator, PlainLoop}
use Rattle.kernel_tree.specs.Grammar.{Spells, SpellsType, SpellsAction, SpellsBlock, SpellsParam, SpellsSome, SpellsParams, SpellsVars, SpellsLoop, number, name, element, group, pair, absolute, choice, negative, prefix, up, conversion, shift, operation, comparison, untyped, typed, define, put, update, choose, choose_else, leave, done, then, scalar, array, last, more, none, some, no_var, var, no_loop, loop, number_following}
use Rattle.kernel_tree.specs.Front.{Fronts, TypeFronts, ActionFronts, BlockFronts, ParamFronts, SomeFronts, VarFronts, LoopFronts, BodyFronts, KernelFronts, nothing, above, in_element, end_element, in_group, end_group, at_pair, first_pair, comma_pair, second_pair, end_pair, at_absolute, in_absolute, end_absolute, at_choice, first_choice, comma_choice, second_choice, next_choice, third_choice, end_choice, in_sign, at_operator, at_type, at_count, in_operation, in_comparison, no_type, at_type_word, no_action, define_name, define_type, define_equals, define_value, define_end, at_target, put_index, put_bracket, put_equals, put_value, put_end, update_value, update_end, choose_condition, choose_brace, choose_block, else_brace, else_block, leave_if, leave_condition, leave_end, whole_action, in_action, next_action, whole_block, no_param, param_colon, param_shape, param_element, param_bracket, whole_param, in_param, next_param, no_var_yet, var_name, var_colon, var_type, var_equals, var_value, var_end, next_var, no_loop_yet, loop_name, loop_in, loop_zero, loop_range, loop_bound, loop_brace, loop_block, in_vars, in_loop, end_body, in_answer, end_answer, at_brace, end_function, no_kernel, kernel_name, kernel_paren, in_params, kernel_tail, kernel_type, kernel_brace, in_procedure, in_function}

-- the tokens before some others, and what stands there alone
pub record Cut (Here : List TextToken → Type 0) (bad words : List TextToken) : Type 0 where
  pub pre : List TextToken
  pub whole : words ≡ pre ++ bad
  pub here : Here pre

uncut : (s : Sign) (pre bad : List TextToken) → number_following s (pre ++ bad) ≡ None → number_following s pre ≡ None
uncut sign.Flip pre bad n = refl
uncut sign.Not pre bad n = refl
uncut sign.Minus [] bad n = refl
uncut sign.Minus (IsNumber k ∷ pre) bad n = absurd cc
uncut sign.Minus other bad n = refl

cut_spells : (bad : List TextToken) {level : ℕ} {words : List TextToken} {e : Term} {rest : List TextToken} → Spells level words e rest → (end : List TextToken) → rest ≡ end ++ bad → Cut (λ pre. Spells level pre e end) bad words
cut_spells bad (number {n = n}) end same = record { pre = IsNumber n ∷ end; whole = ap (λ (z : List TextToken). IsNumber n ∷ z) same; here = number }
cut_spells bad (name {x = x}) end same = record { pre = IsName x ∷ end; whole = ap (λ (z : List TextToken). IsName x ∷ z) same; here = name }
cut_spells bad (element {x = x} d1) end same =
    let c1 = cut_spells bad d1 (IsMark mark.CloseBracket ∷ end) (ap (λ (z : List TextToken). IsMark mark.CloseBracket ∷ z) same) in
    record { pre = IsName x ∷ IsMark mark.OpenBracket ∷ c1.pre; whole = ap (λ (z : List TextToken). IsName x ∷ IsMark mark.OpenBracket ∷ z) c1.whole; here = element c1.here }
cut_spells bad (group d1) end same =
    let c1 = cut_spells bad d1 (IsMark mark.CloseParen ∷ end) (ap (λ (z : List TextToken). IsMark mark.CloseParen ∷ z) same) in
    record { pre = IsMark mark.OpenParen ∷ c1.pre; whole = ap (λ (z : List TextToken). IsMark mark.OpenParen ∷ z) c1.whole; here = group c1.here }
cut_spells bad (pair {m = m} d1 d2 d3) end same =
    let c3 = cut_spells bad d3 (IsMark mark.CloseParen ∷ end) (ap (λ (z : List TextToken). IsMark mark.CloseParen ∷ z) same) in
    let c2 = cut_spells bad d2 (IsMark mark.Comma ∷ c3.pre) (ap (λ (z : List TextToken). IsMark mark.Comma ∷ z) c3.whole) in
    record { pre = IsMark m ∷ IsMark mark.OpenParen ∷ c2.pre; whole = ap (λ (z : List TextToken). IsMark m ∷ IsMark mark.OpenParen ∷ z) c2.whole; here = pair d1 c2.here c3.here }
cut_spells bad (absolute d1) end same =
    let c1 = cut_spells bad d1 (IsMark mark.CloseParen ∷ end) (ap (λ (z : List TextToken). IsMark mark.CloseParen ∷ z) same) in
    record { pre = IsMark mark.Abs ∷ IsMark mark.OpenParen ∷ c1.pre; whole = ap (λ (z : List TextToken). IsMark mark.Abs ∷ IsMark mark.OpenParen ∷ z) c1.whole; here = absolute c1.here }
cut_spells bad (choice d1 d2 d3) end same =
    let c3 = cut_spells bad d3 (IsMark mark.CloseParen ∷ end) (ap (λ (z : List TextToken). IsMark mark.CloseParen ∷ z) same) in
    let c2 = cut_spells bad d2 (IsMark mark.Comma ∷ c3.pre) (ap (λ (z : List TextToken). IsMark mark.Comma ∷ z) c3.whole) in
    let c1 = cut_spells bad d1 (IsMark mark.Comma ∷ c2.pre) (ap (λ (z : List TextToken). IsMark mark.Comma ∷ z) c2.whole) in
    record { pre = IsMark mark.Select ∷ IsMark mark.OpenParen ∷ c1.pre; whole = ap (λ (z : List TextToken). IsMark mark.Select ∷ IsMark mark.OpenParen ∷ z) c1.whole; here = choice c1.here c2.here c3.here }
cut_spells bad (negative {n = n}) end same = record { pre = IsMark mark.Minus ∷ IsNumber n ∷ end; whole = ap (λ (z : List TextToken). IsMark mark.Minus ∷ IsNumber n ∷ z) same; here = negative }
cut_spells bad (prefix {s = s} {m = m} {from = from} d1 d2 d3) end same =
    let c3 = cut_spells bad d3 end same in
    record { pre = IsMark m ∷ c3.pre; whole = ap (λ (z : List TextToken). IsMark m ∷ z) c3.whole; here = prefix d1 (uncut s c3.pre bad (subst (λ (z : List TextToken). number_following s z ≡ None) c3.whole d2)) c3.here }
cut_spells bad (up d1) end same =
    let c1 = cut_spells bad d1 end same in
    record { pre = c1.pre; whole = c1.whole; here = up c1.here }
cut_spells bad (conversion {t = t} {w = w} d1 d2 d3) end same =
    let c1 = cut_spells bad d1 (w ∷ IsType t ∷ end) (ap (λ (z : List TextToken). w ∷ IsType t ∷ z) same) in
    record { pre = c1.pre; whole = c1.whole; here = conversion c1.here d2 d3 }
cut_spells bad (shift {n = n} {w = w} d1 d2 d3) end same =
    let c1 = cut_spells bad d1 (w ∷ IsNumber n ∷ end) (ap (λ (z : List TextToken). w ∷ IsNumber n ∷ z) same) in
    record { pre = c1.pre; whole = c1.whole; here = shift c1.here d2 d3 }
cut_spells bad (operation {w = w} d1 d2 d3 d4) end same =
    let c4 = cut_spells bad d4 end same in
    let c1 = cut_spells bad d1 (w ∷ c4.pre) (ap (λ (z : List TextToken). w ∷ z) c4.whole) in
    record { pre = c1.pre; whole = c1.whole; here = operation c1.here d2 d3 c4.here }
cut_spells bad (comparison {w = w} d1 d2 d3 d4) end same =
    let c4 = cut_spells bad d4 end same in
    let c1 = cut_spells bad d1 (w ∷ c4.pre) (ap (λ (z : List TextToken). w ∷ z) c4.whole) in
    record { pre = c1.pre; whole = c1.whole; here = comparison c1.here d2 d3 c4.here }

cut_type : (bad : List TextToken) {words : List TextToken} {t : Option Ty} {rest : List TextToken} → SpellsType words t rest → (end : List TextToken) → rest ≡ end ++ bad → Cut (λ pre. SpellsType pre t end) bad words
cut_type bad untyped end same = record { pre = end; whole = same; here = untyped }
cut_type bad (typed {t = t}) end same = record { pre = IsMark mark.Colon ∷ IsType t ∷ end; whole = ap (λ (z : List TextToken). IsMark mark.Colon ∷ IsType t ∷ z) same; here = typed }

mutual
  cut_action : (bad : List TextToken) {whole : Bool} {words : List TextToken} {s : Action} {rest : List TextToken} → SpellsAction whole words s rest → (end : List TextToken) → rest ≡ end ++ bad → Cut (λ pre. SpellsAction whole pre s end) bad words
  cut_action bad (define {x = x} d1 d2) end same =
      let c2 = cut_spells bad d2 (IsMark mark.Semicolon ∷ end) (ap (λ (z : List TextToken). IsMark mark.Semicolon ∷ z) same) in
      let c1 = cut_type bad d1 (IsMark mark.Equals ∷ c2.pre) (ap (λ (z : List TextToken). IsMark mark.Equals ∷ z) c2.whole) in
      record { pre = IsMark mark.Let ∷ IsName x ∷ c1.pre; whole = ap (λ (z : List TextToken). IsMark mark.Let ∷ IsName x ∷ z) c1.whole; here = define c1.here c2.here }
  cut_action bad (put {x = x} d1 d2) end same =
      let c2 = cut_spells bad d2 (IsMark mark.Semicolon ∷ end) (ap (λ (z : List TextToken). IsMark mark.Semicolon ∷ z) same) in
      let c1 = cut_spells bad d1 (IsMark mark.CloseBracket ∷ IsMark mark.Equals ∷ c2.pre) (ap (λ (z : List TextToken). IsMark mark.CloseBracket ∷ IsMark mark.Equals ∷ z) c2.whole) in
      record { pre = IsName x ∷ IsMark mark.OpenBracket ∷ c1.pre; whole = ap (λ (z : List TextToken). IsName x ∷ IsMark mark.OpenBracket ∷ z) c1.whole; here = put c1.here c2.here }
  cut_action bad (update {x = x} {op = op} d1) end same =
      let c1 = cut_spells bad d1 (IsMark mark.Semicolon ∷ end) (ap (λ (z : List TextToken). IsMark mark.Semicolon ∷ z) same) in
      record { pre = IsName x ∷ IsUpdate op ∷ c1.pre; whole = ap (λ (z : List TextToken). IsName x ∷ IsUpdate op ∷ z) c1.whole; here = update c1.here }
  cut_action bad (choose d1 d2) end same =
      let c2 = cut_block bad d2 end same in
      let c1 = cut_spells bad d1 (IsMark mark.OpenBrace ∷ c2.pre) (ap (λ (z : List TextToken). IsMark mark.OpenBrace ∷ z) c2.whole) in
      record { pre = IsMark mark.If ∷ c1.pre; whole = ap (λ (z : List TextToken). IsMark mark.If ∷ z) c1.whole; here = choose c1.here c2.here }
  cut_action bad (choose_else d1 d2 d3) end same =
      let c3 = cut_block bad d3 end same in
      let c2 = cut_block bad d2 (IsMark mark.Else ∷ IsMark mark.OpenBrace ∷ c3.pre) (ap (λ (z : List TextToken). IsMark mark.Else ∷ IsMark mark.OpenBrace ∷ z) c3.whole) in
      let c1 = cut_spells bad d1 (IsMark mark.OpenBrace ∷ c2.pre) (ap (λ (z : List TextToken). IsMark mark.OpenBrace ∷ z) c2.whole) in
      record { pre = IsMark mark.If ∷ c1.pre; whole = ap (λ (z : List TextToken). IsMark mark.If ∷ z) c1.whole; here = choose_else c1.here c2.here c3.here }
  cut_action bad (leave d1) end same =
      let c1 = cut_spells bad d1 (IsMark mark.Semicolon ∷ end) (ap (λ (z : List TextToken). IsMark mark.Semicolon ∷ z) same) in
      record { pre = IsMark mark.Break ∷ IsMark mark.If ∷ c1.pre; whole = ap (λ (z : List TextToken). IsMark mark.Break ∷ IsMark mark.If ∷ z) c1.whole; here = leave c1.here }

  cut_block : (bad : List TextToken) {whole : Bool} {words : List TextToken} {b : Block} {rest : List TextToken} → SpellsBlock whole words b rest → (end : List TextToken) → rest ≡ end ++ bad → Cut (λ pre. SpellsBlock whole pre b end) bad words
  cut_block bad done end same = record { pre = IsMark mark.CloseBrace ∷ end; whole = ap (λ (z : List TextToken). IsMark mark.CloseBrace ∷ z) same; here = done }
  cut_block bad (then d1 d2) end same =
      let c2 = cut_block bad d2 end same in
      let c1 = cut_action bad d1 c2.pre c2.whole in
      record { pre = c1.pre; whole = c1.whole; here = then c1.here c2.here }

cut_param : (bad : List TextToken) {words : List TextToken} {p : Parameter} {rest : List TextToken} → SpellsParam words p rest → (end : List TextToken) → rest ≡ end ++ bad → Cut (λ pre. SpellsParam pre p end) bad words
cut_param bad (scalar {x = x} {t = t}) end same = record { pre = IsName x ∷ IsMark mark.Colon ∷ IsType t ∷ end; whole = ap (λ (z : List TextToken). IsName x ∷ IsMark mark.Colon ∷ IsType t ∷ z) same; here = scalar }
cut_param bad (array {x = x} {t = t}) end same = record { pre = IsName x ∷ IsMark mark.Colon ∷ IsMark mark.OpenBracket ∷ IsType t ∷ IsMark mark.CloseBracket ∷ end; whole = ap (λ (z : List TextToken). IsName x ∷ IsMark mark.Colon ∷ IsMark mark.OpenBracket ∷ IsType t ∷ IsMark mark.CloseBracket ∷ z) same; here = array }

cut_some : (bad : List TextToken) {level : ℕ} {words : List TextToken} {ps : List Parameter} {rest : List TextToken} → SpellsSome level words ps rest → (end : List TextToken) → rest ≡ end ++ bad → Cut (λ pre. SpellsSome level pre ps end) bad words
cut_some bad (last d1) end same =
    let c1 = cut_param bad d1 (IsMark mark.CloseParen ∷ end) (ap (λ (z : List TextToken). IsMark mark.CloseParen ∷ z) same) in
    record { pre = c1.pre; whole = c1.whole; here = last c1.here }
cut_some bad (more d1 d2) end same =
    let c2 = cut_some bad d2 end same in
    let c1 = cut_param bad d1 (IsMark mark.Comma ∷ c2.pre) (ap (λ (z : List TextToken). IsMark mark.Comma ∷ z) c2.whole) in
    record { pre = c1.pre; whole = c1.whole; here = more c1.here c2.here }

cut_params : (bad : List TextToken) {words : List TextToken} {ps : List Parameter} {rest : List TextToken} → SpellsParams words ps rest → (end : List TextToken) → rest ≡ end ++ bad → Cut (λ pre. SpellsParams pre ps end) bad words
cut_params bad none end same = record { pre = IsMark mark.CloseParen ∷ end; whole = ap (λ (z : List TextToken). IsMark mark.CloseParen ∷ z) same; here = none }
cut_params bad (some d1) end same =
    let c1 = cut_some bad d1 end same in
    record { pre = c1.pre; whole = c1.whole; here = some c1.here }

cut_vars : (bad : List TextToken) {words : List TextToken} {vs : List Accumulator} {rest : List TextToken} → SpellsVars words vs rest → (end : List TextToken) → rest ≡ end ++ bad → Cut (λ pre. SpellsVars pre vs end) bad words
cut_vars bad no_var end same = record { pre = end; whole = same; here = no_var }
cut_vars bad (var {x = x} {t = t} d1 d2) end same =
    let c2 = cut_vars bad d2 end same in
    let c1 = cut_spells bad d1 (IsMark mark.Semicolon ∷ c2.pre) (ap (λ (z : List TextToken). IsMark mark.Semicolon ∷ z) c2.whole) in
    record { pre = IsMark mark.Var ∷ IsName x ∷ IsMark mark.Colon ∷ IsType t ∷ IsMark mark.Equals ∷ c1.pre; whole = ap (λ (z : List TextToken). IsMark mark.Var ∷ IsName x ∷ IsMark mark.Colon ∷ IsType t ∷ IsMark mark.Equals ∷ z) c1.whole; here = var c1.here c2.here }

cut_loop : (bad : List TextToken) {words : List TextToken} {l : Option PlainLoop} {rest : List TextToken} → SpellsLoop words l rest → (end : List TextToken) → rest ≡ end ++ bad → Cut (λ pre. SpellsLoop pre l end) bad words
cut_loop bad no_loop end same = record { pre = end; whole = same; here = no_loop }
cut_loop bad (loop {i = i} {n = n} d1) end same =
    let c1 = cut_block bad d1 end same in
    record { pre = IsMark mark.For ∷ IsName i ∷ IsMark mark.In ∷ IsNumber 0 ∷ IsMark mark.Range ∷ IsName n ∷ IsMark mark.OpenBrace ∷ c1.pre; whole = ap (λ (z : List TextToken). IsMark mark.For ∷ IsName i ∷ IsMark mark.In ∷ IsNumber 0 ∷ IsMark mark.Range ∷ IsName n ∷ IsMark mark.OpenBrace ∷ z) c1.whole; here = loop c1.here }

cut_fronts : {level : ℕ} {words : List TextToken} {bad : List TextToken} → Fronts level words bad → Cut (λ pre. Fronts level pre []) bad words
cut_fronts nothing = record { pre = []; whole = refl; here = nothing }
cut_fronts (above d1) =
    let c1 = cut_fronts d1 in
    record { pre = c1.pre; whole = c1.whole; here = above c1.here }
cut_fronts (in_element {x = x} d1) =
    let c1 = cut_fronts d1 in
    record { pre = IsName x ∷ IsMark mark.OpenBracket ∷ c1.pre; whole = ap (λ (z : List TextToken). IsName x ∷ IsMark mark.OpenBracket ∷ z) c1.whole; here = in_element c1.here }
cut_fronts (end_element {x = x} {bad = bad} d1) =
    let c1 = cut_spells bad d1 [] refl in
    record { pre = IsName x ∷ IsMark mark.OpenBracket ∷ c1.pre; whole = ap (λ (z : List TextToken). IsName x ∷ IsMark mark.OpenBracket ∷ z) c1.whole; here = end_element c1.here }
cut_fronts (in_group d1) =
    let c1 = cut_fronts d1 in
    record { pre = IsMark mark.OpenParen ∷ c1.pre; whole = ap (λ (z : List TextToken). IsMark mark.OpenParen ∷ z) c1.whole; here = in_group c1.here }
cut_fronts (end_group {bad = bad} d1) =
    let c1 = cut_spells bad d1 [] refl in
    record { pre = IsMark mark.OpenParen ∷ c1.pre; whole = ap (λ (z : List TextToken). IsMark mark.OpenParen ∷ z) c1.whole; here = end_group c1.here }
cut_fronts (at_pair {m = m} d1) = record { pre = IsMark m ∷ []; whole = ap (λ (z : List TextToken). IsMark m ∷ z) refl; here = at_pair d1 }
cut_fronts (first_pair {m = m} d1 d2) =
    let c2 = cut_fronts d2 in
    record { pre = IsMark m ∷ IsMark mark.OpenParen ∷ c2.pre; whole = ap (λ (z : List TextToken). IsMark m ∷ IsMark mark.OpenParen ∷ z) c2.whole; here = first_pair d1 c2.here }
cut_fronts (comma_pair {m = m} {bad = bad} d1 d2) =
    let c2 = cut_spells bad d2 [] refl in
    record { pre = IsMark m ∷ IsMark mark.OpenParen ∷ c2.pre; whole = ap (λ (z : List TextToken). IsMark m ∷ IsMark mark.OpenParen ∷ z) c2.whole; here = comma_pair d1 c2.here }
cut_fronts (second_pair {m = m} {bad = bad} d1 d2 d3) =
    let c3 = cut_fronts d3 in
    let c2 = cut_spells bad d2 (IsMark mark.Comma ∷ c3.pre) (ap (λ (z : List TextToken). IsMark mark.Comma ∷ z) c3.whole) in
    record { pre = IsMark m ∷ IsMark mark.OpenParen ∷ c2.pre; whole = ap (λ (z : List TextToken). IsMark m ∷ IsMark mark.OpenParen ∷ z) c2.whole; here = second_pair d1 c2.here c3.here }
cut_fronts (end_pair {m = m} {bad = bad} d1 d2 d3) =
    let c3 = cut_spells bad d3 [] refl in
    let c2 = cut_spells bad d2 (IsMark mark.Comma ∷ c3.pre) (ap (λ (z : List TextToken). IsMark mark.Comma ∷ z) c3.whole) in
    record { pre = IsMark m ∷ IsMark mark.OpenParen ∷ c2.pre; whole = ap (λ (z : List TextToken). IsMark m ∷ IsMark mark.OpenParen ∷ z) c2.whole; here = end_pair d1 c2.here c3.here }
cut_fronts at_absolute = record { pre = IsMark mark.Abs ∷ []; whole = ap (λ (z : List TextToken). IsMark mark.Abs ∷ z) refl; here = at_absolute }
cut_fronts (in_absolute d1) =
    let c1 = cut_fronts d1 in
    record { pre = IsMark mark.Abs ∷ IsMark mark.OpenParen ∷ c1.pre; whole = ap (λ (z : List TextToken). IsMark mark.Abs ∷ IsMark mark.OpenParen ∷ z) c1.whole; here = in_absolute c1.here }
cut_fronts (end_absolute {bad = bad} d1) =
    let c1 = cut_spells bad d1 [] refl in
    record { pre = IsMark mark.Abs ∷ IsMark mark.OpenParen ∷ c1.pre; whole = ap (λ (z : List TextToken). IsMark mark.Abs ∷ IsMark mark.OpenParen ∷ z) c1.whole; here = end_absolute c1.here }
cut_fronts at_choice = record { pre = IsMark mark.Select ∷ []; whole = ap (λ (z : List TextToken). IsMark mark.Select ∷ z) refl; here = at_choice }
cut_fronts (first_choice d1) =
    let c1 = cut_fronts d1 in
    record { pre = IsMark mark.Select ∷ IsMark mark.OpenParen ∷ c1.pre; whole = ap (λ (z : List TextToken). IsMark mark.Select ∷ IsMark mark.OpenParen ∷ z) c1.whole; here = first_choice c1.here }
cut_fronts (comma_choice {bad = bad} d1) =
    let c1 = cut_spells bad d1 [] refl in
    record { pre = IsMark mark.Select ∷ IsMark mark.OpenParen ∷ c1.pre; whole = ap (λ (z : List TextToken). IsMark mark.Select ∷ IsMark mark.OpenParen ∷ z) c1.whole; here = comma_choice c1.here }
cut_fronts (second_choice {bad = bad} d1 d2) =
    let c2 = cut_fronts d2 in
    let c1 = cut_spells bad d1 (IsMark mark.Comma ∷ c2.pre) (ap (λ (z : List TextToken). IsMark mark.Comma ∷ z) c2.whole) in
    record { pre = IsMark mark.Select ∷ IsMark mark.OpenParen ∷ c1.pre; whole = ap (λ (z : List TextToken). IsMark mark.Select ∷ IsMark mark.OpenParen ∷ z) c1.whole; here = second_choice c1.here c2.here }
cut_fronts (next_choice {bad = bad} d1 d2) =
    let c2 = cut_spells bad d2 [] refl in
    let c1 = cut_spells bad d1 (IsMark mark.Comma ∷ c2.pre) (ap (λ (z : List TextToken). IsMark mark.Comma ∷ z) c2.whole) in
    record { pre = IsMark mark.Select ∷ IsMark mark.OpenParen ∷ c1.pre; whole = ap (λ (z : List TextToken). IsMark mark.Select ∷ IsMark mark.OpenParen ∷ z) c1.whole; here = next_choice c1.here c2.here }
cut_fronts (third_choice {bad = bad} d1 d2 d3) =
    let c3 = cut_fronts d3 in
    let c2 = cut_spells bad d2 (IsMark mark.Comma ∷ c3.pre) (ap (λ (z : List TextToken). IsMark mark.Comma ∷ z) c3.whole) in
    let c1 = cut_spells bad d1 (IsMark mark.Comma ∷ c2.pre) (ap (λ (z : List TextToken). IsMark mark.Comma ∷ z) c2.whole) in
    record { pre = IsMark mark.Select ∷ IsMark mark.OpenParen ∷ c1.pre; whole = ap (λ (z : List TextToken). IsMark mark.Select ∷ IsMark mark.OpenParen ∷ z) c1.whole; here = third_choice c1.here c2.here c3.here }
cut_fronts (end_choice {bad = bad} d1 d2 d3) =
    let c3 = cut_spells bad d3 [] refl in
    let c2 = cut_spells bad d2 (IsMark mark.Comma ∷ c3.pre) (ap (λ (z : List TextToken). IsMark mark.Comma ∷ z) c3.whole) in
    let c1 = cut_spells bad d1 (IsMark mark.Comma ∷ c2.pre) (ap (λ (z : List TextToken). IsMark mark.Comma ∷ z) c2.whole) in
    record { pre = IsMark mark.Select ∷ IsMark mark.OpenParen ∷ c1.pre; whole = ap (λ (z : List TextToken). IsMark mark.Select ∷ IsMark mark.OpenParen ∷ z) c1.whole; here = end_choice c1.here c2.here c3.here }
cut_fronts (in_sign {m = m} d1 d2) =
    let c2 = cut_fronts d2 in
    record { pre = IsMark m ∷ c2.pre; whole = ap (λ (z : List TextToken). IsMark m ∷ z) c2.whole; here = in_sign d1 c2.here }
cut_fronts (at_operator {bad = bad} d1) =
    let c1 = cut_spells bad d1 [] refl in
    record { pre = c1.pre; whole = c1.whole; here = at_operator c1.here }
cut_fronts (at_type {w = w} {bad = bad} d1 d2 d3) =
    let c1 = cut_spells bad d1 (w ∷ []) (ap (λ (z : List TextToken). w ∷ z) refl) in
    record { pre = c1.pre; whole = c1.whole; here = at_type c1.here d2 d3 }
cut_fronts (at_count {w = w} {bad = bad} d1 d2 d3) =
    let c1 = cut_spells bad d1 (w ∷ []) (ap (λ (z : List TextToken). w ∷ z) refl) in
    record { pre = c1.pre; whole = c1.whole; here = at_count c1.here d2 d3 }
cut_fronts (in_operation {w = w} {bad = bad} d1 d2 d3 d4) =
    let c4 = cut_fronts d4 in
    let c1 = cut_spells bad d1 (w ∷ c4.pre) (ap (λ (z : List TextToken). w ∷ z) c4.whole) in
    record { pre = c1.pre; whole = c1.whole; here = in_operation c1.here d2 d3 c4.here }
cut_fronts (in_comparison {w = w} {bad = bad} d1 d2 d3 d4) =
    let c4 = cut_fronts d4 in
    let c1 = cut_spells bad d1 (w ∷ c4.pre) (ap (λ (z : List TextToken). w ∷ z) c4.whole) in
    record { pre = c1.pre; whole = c1.whole; here = in_comparison c1.here d2 d3 c4.here }

cut_type_fronts : {words : List TextToken} {bad : List TextToken} → TypeFronts words bad → Cut (λ pre. TypeFronts pre []) bad words
cut_type_fronts no_type = record { pre = []; whole = refl; here = no_type }
cut_type_fronts at_type_word = record { pre = IsMark mark.Colon ∷ []; whole = ap (λ (z : List TextToken). IsMark mark.Colon ∷ z) refl; here = at_type_word }

mutual
  cut_action_fronts : {whole : Bool} {words : List TextToken} {bad : List TextToken} → ActionFronts whole words bad → Cut (λ pre. ActionFronts whole pre []) bad words
  cut_action_fronts no_action = record { pre = []; whole = refl; here = no_action }
  cut_action_fronts define_name = record { pre = IsMark mark.Let ∷ []; whole = ap (λ (z : List TextToken). IsMark mark.Let ∷ z) refl; here = define_name }
  cut_action_fronts (define_type {x = x} d1) =
      let c1 = cut_type_fronts d1 in
      record { pre = IsMark mark.Let ∷ IsName x ∷ c1.pre; whole = ap (λ (z : List TextToken). IsMark mark.Let ∷ IsName x ∷ z) c1.whole; here = define_type c1.here }
  cut_action_fronts (define_equals {x = x} {bad = bad} d1) =
      let c1 = cut_type bad d1 [] refl in
      record { pre = IsMark mark.Let ∷ IsName x ∷ c1.pre; whole = ap (λ (z : List TextToken). IsMark mark.Let ∷ IsName x ∷ z) c1.whole; here = define_equals c1.here }
  cut_action_fronts (define_value {x = x} {bad = bad} d1 d2) =
      let c2 = cut_fronts d2 in
      let c1 = cut_type bad d1 (IsMark mark.Equals ∷ c2.pre) (ap (λ (z : List TextToken). IsMark mark.Equals ∷ z) c2.whole) in
      record { pre = IsMark mark.Let ∷ IsName x ∷ c1.pre; whole = ap (λ (z : List TextToken). IsMark mark.Let ∷ IsName x ∷ z) c1.whole; here = define_value c1.here c2.here }
  cut_action_fronts (define_end {x = x} {bad = bad} d1 d2) =
      let c2 = cut_spells bad d2 [] refl in
      let c1 = cut_type bad d1 (IsMark mark.Equals ∷ c2.pre) (ap (λ (z : List TextToken). IsMark mark.Equals ∷ z) c2.whole) in
      record { pre = IsMark mark.Let ∷ IsName x ∷ c1.pre; whole = ap (λ (z : List TextToken). IsMark mark.Let ∷ IsName x ∷ z) c1.whole; here = define_end c1.here c2.here }
  cut_action_fronts (at_target {x = x}) = record { pre = IsName x ∷ []; whole = ap (λ (z : List TextToken). IsName x ∷ z) refl; here = at_target }
  cut_action_fronts (put_index {x = x} d1) =
      let c1 = cut_fronts d1 in
      record { pre = IsName x ∷ IsMark mark.OpenBracket ∷ c1.pre; whole = ap (λ (z : List TextToken). IsName x ∷ IsMark mark.OpenBracket ∷ z) c1.whole; here = put_index c1.here }
  cut_action_fronts (put_bracket {x = x} {bad = bad} d1) =
      let c1 = cut_spells bad d1 [] refl in
      record { pre = IsName x ∷ IsMark mark.OpenBracket ∷ c1.pre; whole = ap (λ (z : List TextToken). IsName x ∷ IsMark mark.OpenBracket ∷ z) c1.whole; here = put_bracket c1.here }
  cut_action_fronts (put_equals {x = x} {bad = bad} d1) =
      let c1 = cut_spells bad d1 (IsMark mark.CloseBracket ∷ []) (ap (λ (z : List TextToken). IsMark mark.CloseBracket ∷ z) refl) in
      record { pre = IsName x ∷ IsMark mark.OpenBracket ∷ c1.pre; whole = ap (λ (z : List TextToken). IsName x ∷ IsMark mark.OpenBracket ∷ z) c1.whole; here = put_equals c1.here }
  cut_action_fronts (put_value {x = x} {bad = bad} d1 d2) =
      let c2 = cut_fronts d2 in
      let c1 = cut_spells bad d1 (IsMark mark.CloseBracket ∷ IsMark mark.Equals ∷ c2.pre) (ap (λ (z : List TextToken). IsMark mark.CloseBracket ∷ IsMark mark.Equals ∷ z) c2.whole) in
      record { pre = IsName x ∷ IsMark mark.OpenBracket ∷ c1.pre; whole = ap (λ (z : List TextToken). IsName x ∷ IsMark mark.OpenBracket ∷ z) c1.whole; here = put_value c1.here c2.here }
  cut_action_fronts (put_end {x = x} {bad = bad} d1 d2) =
      let c2 = cut_spells bad d2 [] refl in
      let c1 = cut_spells bad d1 (IsMark mark.CloseBracket ∷ IsMark mark.Equals ∷ c2.pre) (ap (λ (z : List TextToken). IsMark mark.CloseBracket ∷ IsMark mark.Equals ∷ z) c2.whole) in
      record { pre = IsName x ∷ IsMark mark.OpenBracket ∷ c1.pre; whole = ap (λ (z : List TextToken). IsName x ∷ IsMark mark.OpenBracket ∷ z) c1.whole; here = put_end c1.here c2.here }
  cut_action_fronts (update_value {x = x} {op = op} d1) =
      let c1 = cut_fronts d1 in
      record { pre = IsName x ∷ IsUpdate op ∷ c1.pre; whole = ap (λ (z : List TextToken). IsName x ∷ IsUpdate op ∷ z) c1.whole; here = update_value c1.here }
  cut_action_fronts (update_end {x = x} {op = op} {bad = bad} d1) =
      let c1 = cut_spells bad d1 [] refl in
      record { pre = IsName x ∷ IsUpdate op ∷ c1.pre; whole = ap (λ (z : List TextToken). IsName x ∷ IsUpdate op ∷ z) c1.whole; here = update_end c1.here }
  cut_action_fronts (choose_condition d1) =
      let c1 = cut_fronts d1 in
      record { pre = IsMark mark.If ∷ c1.pre; whole = ap (λ (z : List TextToken). IsMark mark.If ∷ z) c1.whole; here = choose_condition c1.here }
  cut_action_fronts (choose_brace {bad = bad} d1) =
      let c1 = cut_spells bad d1 [] refl in
      record { pre = IsMark mark.If ∷ c1.pre; whole = ap (λ (z : List TextToken). IsMark mark.If ∷ z) c1.whole; here = choose_brace c1.here }
  cut_action_fronts (choose_block {bad = bad} d1 d2) =
      let c2 = cut_block_fronts d2 in
      let c1 = cut_spells bad d1 (IsMark mark.OpenBrace ∷ c2.pre) (ap (λ (z : List TextToken). IsMark mark.OpenBrace ∷ z) c2.whole) in
      record { pre = IsMark mark.If ∷ c1.pre; whole = ap (λ (z : List TextToken). IsMark mark.If ∷ z) c1.whole; here = choose_block c1.here c2.here }
  cut_action_fronts (else_brace {bad = bad} d1 d2) =
      let c2 = cut_block bad d2 (IsMark mark.Else ∷ []) (ap (λ (z : List TextToken). IsMark mark.Else ∷ z) refl) in
      let c1 = cut_spells bad d1 (IsMark mark.OpenBrace ∷ c2.pre) (ap (λ (z : List TextToken). IsMark mark.OpenBrace ∷ z) c2.whole) in
      record { pre = IsMark mark.If ∷ c1.pre; whole = ap (λ (z : List TextToken). IsMark mark.If ∷ z) c1.whole; here = else_brace c1.here c2.here }
  cut_action_fronts (else_block {bad = bad} d1 d2 d3) =
      let c3 = cut_block_fronts d3 in
      let c2 = cut_block bad d2 (IsMark mark.Else ∷ IsMark mark.OpenBrace ∷ c3.pre) (ap (λ (z : List TextToken). IsMark mark.Else ∷ IsMark mark.OpenBrace ∷ z) c3.whole) in
      let c1 = cut_spells bad d1 (IsMark mark.OpenBrace ∷ c2.pre) (ap (λ (z : List TextToken). IsMark mark.OpenBrace ∷ z) c2.whole) in
      record { pre = IsMark mark.If ∷ c1.pre; whole = ap (λ (z : List TextToken). IsMark mark.If ∷ z) c1.whole; here = else_block c1.here c2.here c3.here }
  cut_action_fronts leave_if = record { pre = IsMark mark.Break ∷ []; whole = ap (λ (z : List TextToken). IsMark mark.Break ∷ z) refl; here = leave_if }
  cut_action_fronts (leave_condition d1) =
      let c1 = cut_fronts d1 in
      record { pre = IsMark mark.Break ∷ IsMark mark.If ∷ c1.pre; whole = ap (λ (z : List TextToken). IsMark mark.Break ∷ IsMark mark.If ∷ z) c1.whole; here = leave_condition c1.here }
  cut_action_fronts (leave_end {bad = bad} d1) =
      let c1 = cut_spells bad d1 [] refl in
      record { pre = IsMark mark.Break ∷ IsMark mark.If ∷ c1.pre; whole = ap (λ (z : List TextToken). IsMark mark.Break ∷ IsMark mark.If ∷ z) c1.whole; here = leave_end c1.here }
  cut_action_fronts (whole_action {bad = bad} d1) =
      let c1 = cut_action bad d1 [] refl in
      record { pre = c1.pre; whole = c1.whole; here = whole_action c1.here }

  cut_block_fronts : {whole : Bool} {words : List TextToken} {bad : List TextToken} → BlockFronts whole words bad → Cut (λ pre. BlockFronts whole pre []) bad words
  cut_block_fronts (in_action d1) =
      let c1 = cut_action_fronts d1 in
      record { pre = c1.pre; whole = c1.whole; here = in_action c1.here }
  cut_block_fronts (next_action {bad = bad} d1 d2) =
      let c2 = cut_block_fronts d2 in
      let c1 = cut_action bad d1 c2.pre c2.whole in
      record { pre = c1.pre; whole = c1.whole; here = next_action c1.here c2.here }
  cut_block_fronts (whole_block {bad = bad} d1) =
      let c1 = cut_block bad d1 [] refl in
      record { pre = c1.pre; whole = c1.whole; here = whole_block c1.here }

cut_param_fronts : {words : List TextToken} {bad : List TextToken} → ParamFronts words bad → Cut (λ pre. ParamFronts pre []) bad words
cut_param_fronts no_param = record { pre = []; whole = refl; here = no_param }
cut_param_fronts (param_colon {x = x}) = record { pre = IsName x ∷ []; whole = ap (λ (z : List TextToken). IsName x ∷ z) refl; here = param_colon }
cut_param_fronts (param_shape {x = x}) = record { pre = IsName x ∷ IsMark mark.Colon ∷ []; whole = ap (λ (z : List TextToken). IsName x ∷ IsMark mark.Colon ∷ z) refl; here = param_shape }
cut_param_fronts (param_element {x = x}) = record { pre = IsName x ∷ IsMark mark.Colon ∷ IsMark mark.OpenBracket ∷ []; whole = ap (λ (z : List TextToken). IsName x ∷ IsMark mark.Colon ∷ IsMark mark.OpenBracket ∷ z) refl; here = param_element }
cut_param_fronts (param_bracket {x = x} {t = t}) = record { pre = IsName x ∷ IsMark mark.Colon ∷ IsMark mark.OpenBracket ∷ IsType t ∷ []; whole = ap (λ (z : List TextToken). IsName x ∷ IsMark mark.Colon ∷ IsMark mark.OpenBracket ∷ IsType t ∷ z) refl; here = param_bracket }
cut_param_fronts (whole_param {bad = bad} d1) =
    let c1 = cut_param bad d1 [] refl in
    record { pre = c1.pre; whole = c1.whole; here = whole_param c1.here }

cut_some_fronts : {level : ℕ} {words : List TextToken} {bad : List TextToken} → SomeFronts level words bad → Cut (λ pre. SomeFronts level pre []) bad words
cut_some_fronts (in_param d1) =
    let c1 = cut_param_fronts d1 in
    record { pre = c1.pre; whole = c1.whole; here = in_param c1.here }
cut_some_fronts (next_param {bad = bad} d1 d2) =
    let c2 = cut_some_fronts d2 in
    let c1 = cut_param bad d1 (IsMark mark.Comma ∷ c2.pre) (ap (λ (z : List TextToken). IsMark mark.Comma ∷ z) c2.whole) in
    record { pre = c1.pre; whole = c1.whole; here = next_param c1.here c2.here }

cut_var_fronts : {words : List TextToken} {bad : List TextToken} → VarFronts words bad → Cut (λ pre. VarFronts pre []) bad words
cut_var_fronts no_var_yet = record { pre = []; whole = refl; here = no_var_yet }
cut_var_fronts var_name = record { pre = IsMark mark.Var ∷ []; whole = ap (λ (z : List TextToken). IsMark mark.Var ∷ z) refl; here = var_name }
cut_var_fronts (var_colon {x = x}) = record { pre = IsMark mark.Var ∷ IsName x ∷ []; whole = ap (λ (z : List TextToken). IsMark mark.Var ∷ IsName x ∷ z) refl; here = var_colon }
cut_var_fronts (var_type {x = x}) = record { pre = IsMark mark.Var ∷ IsName x ∷ IsMark mark.Colon ∷ []; whole = ap (λ (z : List TextToken). IsMark mark.Var ∷ IsName x ∷ IsMark mark.Colon ∷ z) refl; here = var_type }
cut_var_fronts (var_equals {x = x} {t = t}) = record { pre = IsMark mark.Var ∷ IsName x ∷ IsMark mark.Colon ∷ IsType t ∷ []; whole = ap (λ (z : List TextToken). IsMark mark.Var ∷ IsName x ∷ IsMark mark.Colon ∷ IsType t ∷ z) refl; here = var_equals }
cut_var_fronts (var_value {x = x} {t = t} d1) =
    let c1 = cut_fronts d1 in
    record { pre = IsMark mark.Var ∷ IsName x ∷ IsMark mark.Colon ∷ IsType t ∷ IsMark mark.Equals ∷ c1.pre; whole = ap (λ (z : List TextToken). IsMark mark.Var ∷ IsName x ∷ IsMark mark.Colon ∷ IsType t ∷ IsMark mark.Equals ∷ z) c1.whole; here = var_value c1.here }
cut_var_fronts (var_end {x = x} {t = t} {bad = bad} d1) =
    let c1 = cut_spells bad d1 [] refl in
    record { pre = IsMark mark.Var ∷ IsName x ∷ IsMark mark.Colon ∷ IsType t ∷ IsMark mark.Equals ∷ c1.pre; whole = ap (λ (z : List TextToken). IsMark mark.Var ∷ IsName x ∷ IsMark mark.Colon ∷ IsType t ∷ IsMark mark.Equals ∷ z) c1.whole; here = var_end c1.here }
cut_var_fronts (next_var {x = x} {t = t} {bad = bad} d1 d2) =
    let c2 = cut_var_fronts d2 in
    let c1 = cut_spells bad d1 (IsMark mark.Semicolon ∷ c2.pre) (ap (λ (z : List TextToken). IsMark mark.Semicolon ∷ z) c2.whole) in
    record { pre = IsMark mark.Var ∷ IsName x ∷ IsMark mark.Colon ∷ IsType t ∷ IsMark mark.Equals ∷ c1.pre; whole = ap (λ (z : List TextToken). IsMark mark.Var ∷ IsName x ∷ IsMark mark.Colon ∷ IsType t ∷ IsMark mark.Equals ∷ z) c1.whole; here = next_var c1.here c2.here }

cut_loop_fronts : {words : List TextToken} {bad : List TextToken} → LoopFronts words bad → Cut (λ pre. LoopFronts pre []) bad words
cut_loop_fronts no_loop_yet = record { pre = []; whole = refl; here = no_loop_yet }
cut_loop_fronts loop_name = record { pre = IsMark mark.For ∷ []; whole = ap (λ (z : List TextToken). IsMark mark.For ∷ z) refl; here = loop_name }
cut_loop_fronts (loop_in {i = i}) = record { pre = IsMark mark.For ∷ IsName i ∷ []; whole = ap (λ (z : List TextToken). IsMark mark.For ∷ IsName i ∷ z) refl; here = loop_in }
cut_loop_fronts (loop_zero {i = i}) = record { pre = IsMark mark.For ∷ IsName i ∷ IsMark mark.In ∷ []; whole = ap (λ (z : List TextToken). IsMark mark.For ∷ IsName i ∷ IsMark mark.In ∷ z) refl; here = loop_zero }
cut_loop_fronts (loop_range {i = i}) = record { pre = IsMark mark.For ∷ IsName i ∷ IsMark mark.In ∷ IsNumber 0 ∷ []; whole = ap (λ (z : List TextToken). IsMark mark.For ∷ IsName i ∷ IsMark mark.In ∷ IsNumber 0 ∷ z) refl; here = loop_range }
cut_loop_fronts (loop_bound {i = i}) = record { pre = IsMark mark.For ∷ IsName i ∷ IsMark mark.In ∷ IsNumber 0 ∷ IsMark mark.Range ∷ []; whole = ap (λ (z : List TextToken). IsMark mark.For ∷ IsName i ∷ IsMark mark.In ∷ IsNumber 0 ∷ IsMark mark.Range ∷ z) refl; here = loop_bound }
cut_loop_fronts (loop_brace {i = i} {n = n}) = record { pre = IsMark mark.For ∷ IsName i ∷ IsMark mark.In ∷ IsNumber 0 ∷ IsMark mark.Range ∷ IsName n ∷ []; whole = ap (λ (z : List TextToken). IsMark mark.For ∷ IsName i ∷ IsMark mark.In ∷ IsNumber 0 ∷ IsMark mark.Range ∷ IsName n ∷ z) refl; here = loop_brace }
cut_loop_fronts (loop_block {i = i} {n = n} d1) =
    let c1 = cut_block_fronts d1 in
    record { pre = IsMark mark.For ∷ IsName i ∷ IsMark mark.In ∷ IsNumber 0 ∷ IsMark mark.Range ∷ IsName n ∷ IsMark mark.OpenBrace ∷ c1.pre; whole = ap (λ (z : List TextToken). IsMark mark.For ∷ IsName i ∷ IsMark mark.In ∷ IsNumber 0 ∷ IsMark mark.Range ∷ IsName n ∷ IsMark mark.OpenBrace ∷ z) c1.whole; here = loop_block c1.here }

cut_body_fronts : {whole : Bool} {words : List TextToken} {bad : List TextToken} → BodyFronts whole words bad → Cut (λ pre. BodyFronts whole pre []) bad words
cut_body_fronts (in_vars d1) =
    let c1 = cut_var_fronts d1 in
    record { pre = c1.pre; whole = c1.whole; here = in_vars c1.here }
cut_body_fronts (in_loop {bad = bad} d1 d2) =
    let c2 = cut_loop_fronts d2 in
    let c1 = cut_vars bad d1 c2.pre c2.whole in
    record { pre = c1.pre; whole = c1.whole; here = in_loop c1.here c2.here }
cut_body_fronts (end_body {bad = bad} d1 d2) =
    let c2 = cut_loop bad d2 (IsMark mark.CloseBrace ∷ []) (ap (λ (z : List TextToken). IsMark mark.CloseBrace ∷ z) refl) in
    let c1 = cut_vars bad d1 c2.pre c2.whole in
    record { pre = c1.pre; whole = c1.whole; here = end_body c1.here c2.here }
cut_body_fronts (in_answer {bad = bad} d1 d2 d3) =
    let c3 = cut_fronts d3 in
    let c2 = cut_loop bad d2 (IsMark mark.Return ∷ c3.pre) (ap (λ (z : List TextToken). IsMark mark.Return ∷ z) c3.whole) in
    let c1 = cut_vars bad d1 c2.pre c2.whole in
    record { pre = c1.pre; whole = c1.whole; here = in_answer c1.here c2.here c3.here }
cut_body_fronts (end_answer {bad = bad} d1 d2 d3) =
    let c3 = cut_spells bad d3 [] refl in
    let c2 = cut_loop bad d2 (IsMark mark.Return ∷ c3.pre) (ap (λ (z : List TextToken). IsMark mark.Return ∷ z) c3.whole) in
    let c1 = cut_vars bad d1 c2.pre c2.whole in
    record { pre = c1.pre; whole = c1.whole; here = end_answer c1.here c2.here c3.here }
cut_body_fronts (at_brace {bad = bad} d1 d2 d3) =
    let c3 = cut_spells bad d3 (IsMark mark.Semicolon ∷ []) (ap (λ (z : List TextToken). IsMark mark.Semicolon ∷ z) refl) in
    let c2 = cut_loop bad d2 (IsMark mark.Return ∷ c3.pre) (ap (λ (z : List TextToken). IsMark mark.Return ∷ z) c3.whole) in
    let c1 = cut_vars bad d1 c2.pre c2.whole in
    record { pre = c1.pre; whole = c1.whole; here = at_brace c1.here c2.here c3.here }
cut_body_fronts (end_function {bad = bad} d1 d2 d3) =
    let c3 = cut_spells bad d3 (IsMark mark.Semicolon ∷ IsMark mark.CloseBrace ∷ []) (ap (λ (z : List TextToken). IsMark mark.Semicolon ∷ IsMark mark.CloseBrace ∷ z) refl) in
    let c2 = cut_loop bad d2 (IsMark mark.Return ∷ c3.pre) (ap (λ (z : List TextToken). IsMark mark.Return ∷ z) c3.whole) in
    let c1 = cut_vars bad d1 c2.pre c2.whole in
    record { pre = c1.pre; whole = c1.whole; here = end_function c1.here c2.here c3.here }

pub cut_kernel_fronts : {words : List TextToken} {bad : List TextToken} → KernelFronts words bad → Cut (λ pre. KernelFronts pre []) bad words
cut_kernel_fronts no_kernel = record { pre = []; whole = refl; here = no_kernel }
cut_kernel_fronts kernel_name = record { pre = IsMark mark.Kernel ∷ []; whole = ap (λ (z : List TextToken). IsMark mark.Kernel ∷ z) refl; here = kernel_name }
cut_kernel_fronts (kernel_paren {x = x}) = record { pre = IsMark mark.Kernel ∷ IsName x ∷ []; whole = ap (λ (z : List TextToken). IsMark mark.Kernel ∷ IsName x ∷ z) refl; here = kernel_paren }
cut_kernel_fronts (in_params {x = x} d1) =
    let c1 = cut_some_fronts d1 in
    record { pre = IsMark mark.Kernel ∷ IsName x ∷ IsMark mark.OpenParen ∷ c1.pre; whole = ap (λ (z : List TextToken). IsMark mark.Kernel ∷ IsName x ∷ IsMark mark.OpenParen ∷ z) c1.whole; here = in_params c1.here }
cut_kernel_fronts (kernel_tail {x = x} {bad = bad} d1) =
    let c1 = cut_params bad d1 [] refl in
    record { pre = IsMark mark.Kernel ∷ IsName x ∷ IsMark mark.OpenParen ∷ c1.pre; whole = ap (λ (z : List TextToken). IsMark mark.Kernel ∷ IsName x ∷ IsMark mark.OpenParen ∷ z) c1.whole; here = kernel_tail c1.here }
cut_kernel_fronts (kernel_type {x = x} {bad = bad} d1) =
    let c1 = cut_params bad d1 (IsMark mark.Arrow ∷ []) (ap (λ (z : List TextToken). IsMark mark.Arrow ∷ z) refl) in
    record { pre = IsMark mark.Kernel ∷ IsName x ∷ IsMark mark.OpenParen ∷ c1.pre; whole = ap (λ (z : List TextToken). IsMark mark.Kernel ∷ IsName x ∷ IsMark mark.OpenParen ∷ z) c1.whole; here = kernel_type c1.here }
cut_kernel_fronts (kernel_brace {x = x} {t = t} {bad = bad} d1) =
    let c1 = cut_params bad d1 (IsMark mark.Arrow ∷ IsType t ∷ []) (ap (λ (z : List TextToken). IsMark mark.Arrow ∷ IsType t ∷ z) refl) in
    record { pre = IsMark mark.Kernel ∷ IsName x ∷ IsMark mark.OpenParen ∷ c1.pre; whole = ap (λ (z : List TextToken). IsMark mark.Kernel ∷ IsName x ∷ IsMark mark.OpenParen ∷ z) c1.whole; here = kernel_brace c1.here }
cut_kernel_fronts (in_procedure {x = x} {bad = bad} d1 d2) =
    let c2 = cut_body_fronts d2 in
    let c1 = cut_params bad d1 (IsMark mark.OpenBrace ∷ c2.pre) (ap (λ (z : List TextToken). IsMark mark.OpenBrace ∷ z) c2.whole) in
    record { pre = IsMark mark.Kernel ∷ IsName x ∷ IsMark mark.OpenParen ∷ c1.pre; whole = ap (λ (z : List TextToken). IsMark mark.Kernel ∷ IsName x ∷ IsMark mark.OpenParen ∷ z) c1.whole; here = in_procedure c1.here c2.here }
cut_kernel_fronts (in_function {x = x} {t = t} {bad = bad} d1 d2) =
    let c2 = cut_body_fronts d2 in
    let c1 = cut_params bad d1 (IsMark mark.Arrow ∷ IsType t ∷ IsMark mark.OpenBrace ∷ c2.pre) (ap (λ (z : List TextToken). IsMark mark.Arrow ∷ IsType t ∷ IsMark mark.OpenBrace ∷ z) c2.whole) in
    record { pre = IsMark mark.Kernel ∷ IsName x ∷ IsMark mark.OpenParen ∷ c1.pre; whole = ap (λ (z : List TextToken). IsMark mark.Kernel ∷ IsName x ∷ IsMark mark.OpenParen ∷ z) c1.whole; here = in_function c1.here c2.here }
