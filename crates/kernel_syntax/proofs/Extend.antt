-- Whatever stands after more tokens too, once it stands after some.
use Rattle.std.proofs.Common.{◌≡◌, ℕ, ◌<◌, ◌++◌, Bool, List, [], ◌∷◌, length, Option, None, refl, arith}
use Rattle.kernel_tree.specs.declared.ops.Ty.{Ty}
use Rattle.kernel_tree.specs.declared.mark.Sign.{Sign}
use Rattle.kernel_tree.specs.declared.mark.Sign.TheVariants as sign
use Rattle.kernel_tree.specs.TextToken.{TextToken, IsName, IsNumber, IsType, IsCompare, IsUpdate, IsMark}
use Rattle.kernel_tree.specs.Plain.{Term, Action, Block, Parameter, Accumulator, PlainLoop}
use Rattle.kernel_tree.specs.Grammar.{Spells, SpellsType, SpellsAction, SpellsBlock, SpellsParam, SpellsSome, SpellsParams, SpellsVars, SpellsLoop, number, name, element, group, pair, absolute, choice, negative, prefix, up, conversion, shift, operation, comparison, untyped, typed, define, put, update, choose, choose_else, leave, done, then, scalar, array, last, more, none, some, no_var, var, no_loop, loop, number_following}
use Rattle.kernel_tree.specs.Front.{Fronts, TypeFronts, ActionFronts, BlockFronts, ParamFronts, SomeFronts, VarFronts, LoopFronts, BodyFronts, KernelFronts, nothing, above, in_element, end_element, in_group, end_group, at_pair, first_pair, comma_pair, second_pair, end_pair, at_absolute, in_absolute, end_absolute, at_choice, first_choice, comma_choice, second_choice, next_choice, third_choice, end_choice, in_sign, at_operator, at_type, at_count, in_operation, in_comparison, no_type, at_type_word, no_action, define_name, define_type, define_equals, define_value, define_end, at_target, put_index, put_bracket, put_equals, put_value, put_end, update_value, update_end, choose_condition, choose_brace, choose_block, else_brace, else_block, leave_if, leave_condition, leave_end, whole_action, in_action, next_action, whole_block, no_param, param_colon, param_shape, param_element, param_bracket, whole_param, in_param, next_param, no_var_yet, var_name, var_colon, var_type, var_equals, var_value, var_end, next_var, no_loop_yet, loop_name, loop_in, loop_zero, loop_range, loop_bound, loop_brace, loop_block, in_vars, in_loop, end_body, in_answer, end_answer, at_brace, end_function, no_kernel, kernel_name, kernel_paren, in_params, kernel_tail, kernel_type, kernel_brace, in_procedure, in_function}
use Rattle.kernel_tree.proofs.OneTerm.{shorter}

unnumbered : (s : Sign) (further : List TextToken) {words : List TextToken} {e : Term} {rest : List TextToken} → Spells 0 words e rest → number_following s words ≡ None → number_following s (words ++ further) ≡ None
unnumbered s further {words = words} d n = go s words (shorter d) n
  where
    go : {k : ℕ} (s : Sign) (words : List TextToken) → k < length words → number_following s words ≡ None → number_following s (words ++ further) ≡ None
    go sign.Flip words l n = refl
    go sign.Not words l n = refl
    go sign.Minus [] l n = absurd (omega (arith, l))
    go sign.Minus (IsNumber k ∷ words) l n = absurd cc
    go sign.Minus (IsName x ∷ words) l n = refl
    go sign.Minus (IsType t ∷ words) l n = refl
    go sign.Minus (IsCompare op ∷ words) l n = refl
    go sign.Minus (IsUpdate op ∷ words) l n = refl
    go sign.Minus (IsMark m ∷ words) l n = refl

extend_spells : (further : List TextToken) {level : ℕ} {words : List TextToken} {e : Term} {rest : List TextToken} → Spells level words e rest → Spells level (words ++ further) e (rest ++ further)
extend_spells further number = number
extend_spells further name = name
extend_spells further (element d1) = element (extend_spells further d1)
extend_spells further (group d1) = group (extend_spells further d1)
extend_spells further (pair d1 d2 d3) = pair d1 (extend_spells further d2) (extend_spells further d3)
extend_spells further (absolute d1) = absolute (extend_spells further d1)
extend_spells further (choice d1 d2 d3) = choice (extend_spells further d1) (extend_spells further d2) (extend_spells further d3)
extend_spells further negative = negative
extend_spells further (prefix {s = s} d1 d2 d3) = prefix d1 (unnumbered s further d3 d2) (extend_spells further d3)
extend_spells further (up d1) = up (extend_spells further d1)
extend_spells further (conversion d1 d2 d3) = conversion (extend_spells further d1) d2 d3
extend_spells further (shift d1 d2 d3) = shift (extend_spells further d1) d2 d3
extend_spells further (operation d1 d2 d3 d4) = operation (extend_spells further d1) d2 d3 (extend_spells further d4)
extend_spells further (comparison d1 d2 d3 d4) = comparison (extend_spells further d1) d2 d3 (extend_spells further d4)

extend_type : (further : List TextToken) {words : List TextToken} {t : Option Ty} {rest : List TextToken} → SpellsType words t rest → SpellsType (words ++ further) t (rest ++ further)
extend_type further untyped = untyped
extend_type further typed = typed

mutual
  extend_action : (further : List TextToken) {whole : Bool} {words : List TextToken} {s : Action} {rest : List TextToken} → SpellsAction whole words s rest → SpellsAction whole (words ++ further) s (rest ++ further)
  extend_action further (define d1 d2) = define (extend_type further d1) (extend_spells further d2)
  extend_action further (put d1 d2) = put (extend_spells further d1) (extend_spells further d2)
  extend_action further (update d1) = update (extend_spells further d1)
  extend_action further (choose d1 d2) = choose (extend_spells further d1) (extend_block further d2)
  extend_action further (choose_else d1 d2 d3) = choose_else (extend_spells further d1) (extend_block further d2) (extend_block further d3)
  extend_action further (leave d1) = leave (extend_spells further d1)

  extend_block : (further : List TextToken) {whole : Bool} {words : List TextToken} {b : Block} {rest : List TextToken} → SpellsBlock whole words b rest → SpellsBlock whole (words ++ further) b (rest ++ further)
  extend_block further done = done
  extend_block further (then d1 d2) = then (extend_action further d1) (extend_block further d2)

extend_param : (further : List TextToken) {words : List TextToken} {p : Parameter} {rest : List TextToken} → SpellsParam words p rest → SpellsParam (words ++ further) p (rest ++ further)
extend_param further scalar = scalar
extend_param further array = array

extend_some : (further : List TextToken) {level : ℕ} {words : List TextToken} {ps : List Parameter} {rest : List TextToken} → SpellsSome level words ps rest → SpellsSome level (words ++ further) ps (rest ++ further)
extend_some further (last d1) = last (extend_param further d1)
extend_some further (more d1 d2) = more (extend_param further d1) (extend_some further d2)

extend_params : (further : List TextToken) {words : List TextToken} {ps : List Parameter} {rest : List TextToken} → SpellsParams words ps rest → SpellsParams (words ++ further) ps (rest ++ further)
extend_params further none = none
extend_params further (some d1) = some (extend_some further d1)

extend_vars : (further : List TextToken) {words : List TextToken} {vs : List Accumulator} {rest : List TextToken} → SpellsVars words vs rest → SpellsVars (words ++ further) vs (rest ++ further)
extend_vars further no_var = no_var
extend_vars further (var d1 d2) = var (extend_spells further d1) (extend_vars further d2)

extend_loop : (further : List TextToken) {words : List TextToken} {l : Option PlainLoop} {rest : List TextToken} → SpellsLoop words l rest → SpellsLoop (words ++ further) l (rest ++ further)
extend_loop further no_loop = no_loop
extend_loop further (loop d1) = loop (extend_block further d1)

extend_fronts : (further : List TextToken) {level : ℕ} {words : List TextToken} {rest : List TextToken} → Fronts level words rest → Fronts level (words ++ further) (rest ++ further)
extend_fronts further nothing = nothing
extend_fronts further (above d1) = above (extend_fronts further d1)
extend_fronts further (in_element d1) = in_element (extend_fronts further d1)
extend_fronts further (end_element d1) = end_element (extend_spells further d1)
extend_fronts further (in_group d1) = in_group (extend_fronts further d1)
extend_fronts further (end_group d1) = end_group (extend_spells further d1)
extend_fronts further (at_pair d1) = at_pair d1
extend_fronts further (first_pair d1 d2) = first_pair d1 (extend_fronts further d2)
extend_fronts further (comma_pair d1 d2) = comma_pair d1 (extend_spells further d2)
extend_fronts further (second_pair d1 d2 d3) = second_pair d1 (extend_spells further d2) (extend_fronts further d3)
extend_fronts further (end_pair d1 d2 d3) = end_pair d1 (extend_spells further d2) (extend_spells further d3)
extend_fronts further at_absolute = at_absolute
extend_fronts further (in_absolute d1) = in_absolute (extend_fronts further d1)
extend_fronts further (end_absolute d1) = end_absolute (extend_spells further d1)
extend_fronts further at_choice = at_choice
extend_fronts further (first_choice d1) = first_choice (extend_fronts further d1)
extend_fronts further (comma_choice d1) = comma_choice (extend_spells further d1)
extend_fronts further (second_choice d1 d2) = second_choice (extend_spells further d1) (extend_fronts further d2)
extend_fronts further (next_choice d1 d2) = next_choice (extend_spells further d1) (extend_spells further d2)
extend_fronts further (third_choice d1 d2 d3) = third_choice (extend_spells further d1) (extend_spells further d2) (extend_fronts further d3)
extend_fronts further (end_choice d1 d2 d3) = end_choice (extend_spells further d1) (extend_spells further d2) (extend_spells further d3)
extend_fronts further (in_sign d1 d2) = in_sign d1 (extend_fronts further d2)
extend_fronts further (at_operator d1) = at_operator (extend_spells further d1)
extend_fronts further (at_type d1 d2 d3) = at_type (extend_spells further d1) d2 d3
extend_fronts further (at_count d1 d2 d3) = at_count (extend_spells further d1) d2 d3
extend_fronts further (in_operation d1 d2 d3 d4) = in_operation (extend_spells further d1) d2 d3 (extend_fronts further d4)
extend_fronts further (in_comparison d1 d2 d3 d4) = in_comparison (extend_spells further d1) d2 d3 (extend_fronts further d4)

extend_type_fronts : (further : List TextToken) {words : List TextToken} {rest : List TextToken} → TypeFronts words rest → TypeFronts (words ++ further) (rest ++ further)
extend_type_fronts further no_type = no_type
extend_type_fronts further at_type_word = at_type_word

mutual
  extend_action_fronts : (further : List TextToken) {whole : Bool} {words : List TextToken} {rest : List TextToken} → ActionFronts whole words rest → ActionFronts whole (words ++ further) (rest ++ further)
  extend_action_fronts further no_action = no_action
  extend_action_fronts further define_name = define_name
  extend_action_fronts further (define_type d1) = define_type (extend_type_fronts further d1)
  extend_action_fronts further (define_equals d1) = define_equals (extend_type further d1)
  extend_action_fronts further (define_value d1 d2) = define_value (extend_type further d1) (extend_fronts further d2)
  extend_action_fronts further (define_end d1 d2) = define_end (extend_type further d1) (extend_spells further d2)
  extend_action_fronts further at_target = at_target
  extend_action_fronts further (put_index d1) = put_index (extend_fronts further d1)
  extend_action_fronts further (put_bracket d1) = put_bracket (extend_spells further d1)
  extend_action_fronts further (put_equals d1) = put_equals (extend_spells further d1)
  extend_action_fronts further (put_value d1 d2) = put_value (extend_spells further d1) (extend_fronts further d2)
  extend_action_fronts further (put_end d1 d2) = put_end (extend_spells further d1) (extend_spells further d2)
  extend_action_fronts further (update_value d1) = update_value (extend_fronts further d1)
  extend_action_fronts further (update_end d1) = update_end (extend_spells further d1)
  extend_action_fronts further (choose_condition d1) = choose_condition (extend_fronts further d1)
  extend_action_fronts further (choose_brace d1) = choose_brace (extend_spells further d1)
  extend_action_fronts further (choose_block d1 d2) = choose_block (extend_spells further d1) (extend_block_fronts further d2)
  extend_action_fronts further (else_brace d1 d2) = else_brace (extend_spells further d1) (extend_block further d2)
  extend_action_fronts further (else_block d1 d2 d3) = else_block (extend_spells further d1) (extend_block further d2) (extend_block_fronts further d3)
  extend_action_fronts further leave_if = leave_if
  extend_action_fronts further (leave_condition d1) = leave_condition (extend_fronts further d1)
  extend_action_fronts further (leave_end d1) = leave_end (extend_spells further d1)
  extend_action_fronts further (whole_action d1) = whole_action (extend_action further d1)

  extend_block_fronts : (further : List TextToken) {whole : Bool} {words : List TextToken} {rest : List TextToken} → BlockFronts whole words rest → BlockFronts whole (words ++ further) (rest ++ further)
  extend_block_fronts further (in_action d1) = in_action (extend_action_fronts further d1)
  extend_block_fronts further (next_action d1 d2) = next_action (extend_action further d1) (extend_block_fronts further d2)
  extend_block_fronts further (whole_block d1) = whole_block (extend_block further d1)

extend_param_fronts : (further : List TextToken) {words : List TextToken} {rest : List TextToken} → ParamFronts words rest → ParamFronts (words ++ further) (rest ++ further)
extend_param_fronts further no_param = no_param
extend_param_fronts further param_colon = param_colon
extend_param_fronts further param_shape = param_shape
extend_param_fronts further param_element = param_element
extend_param_fronts further param_bracket = param_bracket
extend_param_fronts further (whole_param d1) = whole_param (extend_param further d1)

extend_some_fronts : (further : List TextToken) {level : ℕ} {words : List TextToken} {rest : List TextToken} → SomeFronts level words rest → SomeFronts level (words ++ further) (rest ++ further)
extend_some_fronts further (in_param d1) = in_param (extend_param_fronts further d1)
extend_some_fronts further (next_param d1 d2) = next_param (extend_param further d1) (extend_some_fronts further d2)

extend_var_fronts : (further : List TextToken) {words : List TextToken} {rest : List TextToken} → VarFronts words rest → VarFronts (words ++ further) (rest ++ further)
extend_var_fronts further no_var_yet = no_var_yet
extend_var_fronts further var_name = var_name
extend_var_fronts further var_colon = var_colon
extend_var_fronts further var_type = var_type
extend_var_fronts further var_equals = var_equals
extend_var_fronts further (var_value d1) = var_value (extend_fronts further d1)
extend_var_fronts further (var_end d1) = var_end (extend_spells further d1)
extend_var_fronts further (next_var d1 d2) = next_var (extend_spells further d1) (extend_var_fronts further d2)

extend_loop_fronts : (further : List TextToken) {words : List TextToken} {rest : List TextToken} → LoopFronts words rest → LoopFronts (words ++ further) (rest ++ further)
extend_loop_fronts further no_loop_yet = no_loop_yet
extend_loop_fronts further loop_name = loop_name
extend_loop_fronts further loop_in = loop_in
extend_loop_fronts further loop_zero = loop_zero
extend_loop_fronts further loop_range = loop_range
extend_loop_fronts further loop_bound = loop_bound
extend_loop_fronts further loop_brace = loop_brace
extend_loop_fronts further (loop_block d1) = loop_block (extend_block_fronts further d1)

extend_body_fronts : (further : List TextToken) {whole : Bool} {words : List TextToken} {rest : List TextToken} → BodyFronts whole words rest → BodyFronts whole (words ++ further) (rest ++ further)
extend_body_fronts further (in_vars d1) = in_vars (extend_var_fronts further d1)
extend_body_fronts further (in_loop d1 d2) = in_loop (extend_vars further d1) (extend_loop_fronts further d2)
extend_body_fronts further (end_body d1 d2) = end_body (extend_vars further d1) (extend_loop further d2)
extend_body_fronts further (in_answer d1 d2 d3) = in_answer (extend_vars further d1) (extend_loop further d2) (extend_fronts further d3)
extend_body_fronts further (end_answer d1 d2 d3) = end_answer (extend_vars further d1) (extend_loop further d2) (extend_spells further d3)
extend_body_fronts further (at_brace d1 d2 d3) = at_brace (extend_vars further d1) (extend_loop further d2) (extend_spells further d3)
extend_body_fronts further (end_function d1 d2 d3) = end_function (extend_vars further d1) (extend_loop further d2) (extend_spells further d3)

pub extend_kernel_fronts : (further : List TextToken) {words : List TextToken} {rest : List TextToken} → KernelFronts words rest → KernelFronts (words ++ further) (rest ++ further)
extend_kernel_fronts further no_kernel = no_kernel
extend_kernel_fronts further kernel_name = kernel_name
extend_kernel_fronts further kernel_paren = kernel_paren
extend_kernel_fronts further (in_params d1) = in_params (extend_some_fronts further d1)
extend_kernel_fronts further (kernel_tail d1) = kernel_tail (extend_params further d1)
extend_kernel_fronts further (kernel_type d1) = kernel_type (extend_params further d1)
extend_kernel_fronts further (kernel_brace d1) = kernel_brace (extend_params further d1)
extend_kernel_fronts further (in_procedure d1 d2) = in_procedure (extend_params further d1) (extend_body_fronts further d2)
extend_kernel_fronts further (in_function d1 d2) = in_function (extend_params further d1) (extend_body_fronts further d2)
