-- The fronts of what the grammar spells: from some tokens up to others, a list that something of the kind may begin
-- with. Each production is cut at each of its parts.
use Rattle.std.specs.Prelude.{◌≡◌, ℕ, suc, List, [], ◌∷◌, Bool, true, false, Option, Some}
use Rattle.kernel_tree.specs.declared.ops.Ty.{Ty}
use Rattle.kernel_tree.specs.declared.ops.BinaryOp.{BinaryOp}
use Rattle.kernel_tree.specs.declared.ops.CompareOp.{CompareOp}
use Rattle.kernel_tree.specs.declared.ops.UpdateOp.{UpdateOp}
use Rattle.kernel_tree.specs.declared.mark.Mark.{Mark}
use Rattle.kernel_tree.specs.declared.mark.Mark.TheVariants as mark
use Rattle.kernel_tree.specs.declared.mark.Joint.{Joint}
use Rattle.kernel_tree.specs.declared.mark.Operator.TheVariants as operator
use Rattle.kernel_tree.specs.declared.mark.Sign.{Sign}
use Rattle.kernel_tree.specs.declared.mark.Opening.TheVariants as opening
use Rattle.kernel_tree.specs.TextToken.{TextToken, IsName, IsNumber, IsType, IsUpdate, IsMark}
use Rattle.kernel_tree.specs.Plain.{Term, Action, Block, Parameter, Accumulator, PlainLoop}
use Rattle.kernel_tree.specs.Grammar.{Spells, SpellsType, SpellsAction, SpellsBlock, SpellsParam, SpellsParams, SpellsVars, SpellsLoop, opening_of_mark, operator_of, level_of}

-- ---- expressions

pub data Fronts : ℕ → List TextToken → List TextToken → Type 0 where
  -- nothing of it
  nothing : {level : ℕ} {bad : List TextToken} → Fronts level bad bad
  above : {level : ℕ} {from bad : List TextToken} → Fronts level from bad → Fronts (suc level) from bad
  -- a name may be that of an element
  in_element : {x : List ℕ} {from bad : List TextToken} → Fronts 10 from bad → Fronts 0 (IsName x ∷ IsMark mark.OpenBracket ∷ from) bad
  end_element : {x : List ℕ} {e : Term} {from bad : List TextToken} → Spells 10 from e bad → Fronts 0 (IsName x ∷ IsMark mark.OpenBracket ∷ from) bad
  in_group : {from bad : List TextToken} → Fronts 10 from bad → Fronts 0 (IsMark mark.OpenParen ∷ from) bad
  end_group : {e : Term} {from bad : List TextToken} → Spells 10 from e bad → Fronts 0 (IsMark mark.OpenParen ∷ from) bad
  at_pair : {op : BinaryOp} {m : Mark} {bad : List TextToken} → opening_of_mark m ≡ Some (opening.Pair op) → Fronts 0 (IsMark m ∷ bad) bad
  first_pair : {op : BinaryOp} {m : Mark} {from bad : List TextToken} → opening_of_mark m ≡ Some (opening.Pair op) → Fronts 10 from bad → Fronts 0 (IsMark m ∷ IsMark mark.OpenParen ∷ from) bad
  comma_pair : {op : BinaryOp} {m : Mark} {a : Term} {from bad : List TextToken} → opening_of_mark m ≡ Some (opening.Pair op) → Spells 10 from a bad → Fronts 0 (IsMark m ∷ IsMark mark.OpenParen ∷ from) bad
  second_pair : {op : BinaryOp} {m : Mark} {a : Term} {from next bad : List TextToken} → opening_of_mark m ≡ Some (opening.Pair op) → Spells 10 from a (IsMark mark.Comma ∷ next) → Fronts 10 next bad → Fronts 0 (IsMark m ∷ IsMark mark.OpenParen ∷ from) bad
  end_pair : {op : BinaryOp} {m : Mark} {a b : Term} {from next bad : List TextToken} → opening_of_mark m ≡ Some (opening.Pair op) → Spells 10 from a (IsMark mark.Comma ∷ next) → Spells 10 next b bad → Fronts 0 (IsMark m ∷ IsMark mark.OpenParen ∷ from) bad
  at_absolute : {bad : List TextToken} → Fronts 0 (IsMark mark.Abs ∷ bad) bad
  in_absolute : {from bad : List TextToken} → Fronts 10 from bad → Fronts 0 (IsMark mark.Abs ∷ IsMark mark.OpenParen ∷ from) bad
  end_absolute : {e : Term} {from bad : List TextToken} → Spells 10 from e bad → Fronts 0 (IsMark mark.Abs ∷ IsMark mark.OpenParen ∷ from) bad
  at_choice : {bad : List TextToken} → Fronts 0 (IsMark mark.Select ∷ bad) bad
  first_choice : {from bad : List TextToken} → Fronts 10 from bad → Fronts 0 (IsMark mark.Select ∷ IsMark mark.OpenParen ∷ from) bad
  comma_choice : {c : Term} {from bad : List TextToken} → Spells 10 from c bad → Fronts 0 (IsMark mark.Select ∷ IsMark mark.OpenParen ∷ from) bad
  second_choice : {c : Term} {from next bad : List TextToken} → Spells 10 from c (IsMark mark.Comma ∷ next) → Fronts 10 next bad → Fronts 0 (IsMark mark.Select ∷ IsMark mark.OpenParen ∷ from) bad
  next_choice : {c a : Term} {from next bad : List TextToken} → Spells 10 from c (IsMark mark.Comma ∷ next) → Spells 10 next a bad → Fronts 0 (IsMark mark.Select ∷ IsMark mark.OpenParen ∷ from) bad
  third_choice : {c a : Term} {from next last bad : List TextToken} → Spells 10 from c (IsMark mark.Comma ∷ next) → Spells 10 next a (IsMark mark.Comma ∷ last) → Fronts 10 last bad → Fronts 0 (IsMark mark.Select ∷ IsMark mark.OpenParen ∷ from) bad
  end_choice : {c a b : Term} {from next last bad : List TextToken} → Spells 10 from c (IsMark mark.Comma ∷ next) → Spells 10 next a (IsMark mark.Comma ∷ last) → Spells 10 last b bad → Fronts 0 (IsMark mark.Select ∷ IsMark mark.OpenParen ∷ from) bad
  in_sign : {s : Sign} {m : Mark} {from bad : List TextToken} → opening_of_mark m ≡ Some (opening.Signed s) → Fronts 0 from bad → Fronts 0 (IsMark m ∷ from) bad
  -- after a whole operand, and after an operator of the level
  at_operator : {level : ℕ} {e : Term} {from bad : List TextToken} → Spells level from e bad → Fronts level from bad
  at_type : {level : ℕ} {e : Term} {w : TextToken} {from bad : List TextToken} → Spells (suc level) from e (w ∷ bad) → operator_of w ≡ Some operator.As → level_of operator.As ≡ suc level → Fronts (suc level) from bad
  at_count : {level : ℕ} {left : Bool} {e : Term} {w : TextToken} {from bad : List TextToken} → Spells (suc level) from e (w ∷ bad) → operator_of w ≡ Some (operator.Shifted left) → level_of (operator.Shifted left) ≡ suc level → Fronts (suc level) from bad
  in_operation : {level : ℕ} {j : Joint} {w : TextToken} {a : Term} {from next bad : List TextToken} → Spells (suc level) from a (w ∷ next) → operator_of w ≡ Some (operator.Joined j) → level_of (operator.Joined j) ≡ suc level → Fronts level next bad → Fronts (suc level) from bad
  in_comparison : {level : ℕ} {op : CompareOp} {w : TextToken} {a : Term} {from next bad : List TextToken} → Spells level from a (w ∷ next) → operator_of w ≡ Some (operator.Compared op) → level_of (operator.Compared op) ≡ suc level → Fronts level next bad → Fronts (suc level) from bad

-- ---- statements

-- the type that a definition may give
pub data TypeFronts : List TextToken → List TextToken → Type 0 where
  no_type : {bad : List TextToken} → TypeFronts bad bad
  at_type_word : {bad : List TextToken} → TypeFronts (IsMark mark.Colon ∷ bad) bad

mutual
  pub data ActionFronts : Bool → List TextToken → List TextToken → Type 0 where
    no_action : {whole : Bool} {bad : List TextToken} → ActionFronts whole bad bad
    define_name : {whole : Bool} {bad : List TextToken} → ActionFronts whole (IsMark mark.Let ∷ bad) bad
    define_type : {whole : Bool} {x : List ℕ} {from bad : List TextToken} → TypeFronts from bad → ActionFronts whole (IsMark mark.Let ∷ IsName x ∷ from) bad
    define_equals : {whole : Bool} {x : List ℕ} {t : Option Ty} {from bad : List TextToken} → SpellsType from t bad → ActionFronts whole (IsMark mark.Let ∷ IsName x ∷ from) bad
    define_value : {whole : Bool} {x : List ℕ} {t : Option Ty} {from next bad : List TextToken} → SpellsType from t (IsMark mark.Equals ∷ next) → Fronts 10 next bad → ActionFronts whole (IsMark mark.Let ∷ IsName x ∷ from) bad
    define_end : {whole : Bool} {x : List ℕ} {t : Option Ty} {e : Term} {from next bad : List TextToken} → SpellsType from t (IsMark mark.Equals ∷ next) → Spells 10 next e bad → ActionFronts whole (IsMark mark.Let ∷ IsName x ∷ from) bad
    at_target : {whole : Bool} {x : List ℕ} {bad : List TextToken} → ActionFronts whole (IsName x ∷ bad) bad
    put_index : {whole : Bool} {x : List ℕ} {from bad : List TextToken} → Fronts 10 from bad → ActionFronts whole (IsName x ∷ IsMark mark.OpenBracket ∷ from) bad
    put_bracket : {whole : Bool} {x : List ℕ} {i : Term} {from bad : List TextToken} → Spells 10 from i bad → ActionFronts whole (IsName x ∷ IsMark mark.OpenBracket ∷ from) bad
    put_equals : {whole : Bool} {x : List ℕ} {i : Term} {from bad : List TextToken} → Spells 10 from i (IsMark mark.CloseBracket ∷ bad) → ActionFronts whole (IsName x ∷ IsMark mark.OpenBracket ∷ from) bad
    put_value : {whole : Bool} {x : List ℕ} {i : Term} {from next bad : List TextToken} → Spells 10 from i (IsMark mark.CloseBracket ∷ IsMark mark.Equals ∷ next) → Fronts 10 next bad → ActionFronts whole (IsName x ∷ IsMark mark.OpenBracket ∷ from) bad
    put_end : {whole : Bool} {x : List ℕ} {i e : Term} {from next bad : List TextToken} → Spells 10 from i (IsMark mark.CloseBracket ∷ IsMark mark.Equals ∷ next) → Spells 10 next e bad → ActionFronts whole (IsName x ∷ IsMark mark.OpenBracket ∷ from) bad
    update_value : {whole : Bool} {x : List ℕ} {op : UpdateOp} {from bad : List TextToken} → Fronts 10 from bad → ActionFronts whole (IsName x ∷ IsUpdate op ∷ from) bad
    update_end : {whole : Bool} {x : List ℕ} {op : UpdateOp} {e : Term} {from bad : List TextToken} → Spells 10 from e bad → ActionFronts whole (IsName x ∷ IsUpdate op ∷ from) bad
    choose_condition : {whole : Bool} {from bad : List TextToken} → Fronts 10 from bad → ActionFronts whole (IsMark mark.If ∷ from) bad
    choose_brace : {whole : Bool} {c : Term} {from bad : List TextToken} → Spells 10 from c bad → ActionFronts whole (IsMark mark.If ∷ from) bad
    choose_block : {whole : Bool} {c : Term} {from next bad : List TextToken} → Spells 10 from c (IsMark mark.OpenBrace ∷ next) → BlockFronts false next bad → ActionFronts whole (IsMark mark.If ∷ from) bad
    else_brace : {whole : Bool} {c : Term} {b : Block} {from next bad : List TextToken} → Spells 10 from c (IsMark mark.OpenBrace ∷ next) → SpellsBlock false next b (IsMark mark.Else ∷ bad) → ActionFronts whole (IsMark mark.If ∷ from) bad
    else_block : {whole : Bool} {c : Term} {b : Block} {from next more bad : List TextToken} → Spells 10 from c (IsMark mark.OpenBrace ∷ next) → SpellsBlock false next b (IsMark mark.Else ∷ IsMark mark.OpenBrace ∷ more) → BlockFronts false more bad → ActionFronts whole (IsMark mark.If ∷ from) bad
    leave_if : {bad : List TextToken} → ActionFronts true (IsMark mark.Break ∷ bad) bad
    leave_condition : {from bad : List TextToken} → Fronts 10 from bad → ActionFronts true (IsMark mark.Break ∷ IsMark mark.If ∷ from) bad
    leave_end : {c : Term} {from bad : List TextToken} → Spells 10 from c bad → ActionFronts true (IsMark mark.Break ∷ IsMark mark.If ∷ from) bad
    whole_action : {whole : Bool} {s : Action} {from bad : List TextToken} → SpellsAction whole from s bad → ActionFronts whole from bad

  pub data BlockFronts : Bool → List TextToken → List TextToken → Type 0 where
    in_action : {whole : Bool} {from bad : List TextToken} → ActionFronts whole from bad → BlockFronts whole from bad
    next_action : {whole : Bool} {s : Action} {from next bad : List TextToken} → SpellsAction whole from s next → BlockFronts whole next bad → BlockFronts whole from bad
    whole_block : {whole : Bool} {b : Block} {from bad : List TextToken} → SpellsBlock whole from b bad → BlockFronts whole from bad

-- ---- kernels

pub data ParamFronts : List TextToken → List TextToken → Type 0 where
  no_param : {bad : List TextToken} → ParamFronts bad bad
  param_colon : {x : List ℕ} {bad : List TextToken} → ParamFronts (IsName x ∷ bad) bad
  param_shape : {x : List ℕ} {bad : List TextToken} → ParamFronts (IsName x ∷ IsMark mark.Colon ∷ bad) bad
  param_element : {x : List ℕ} {bad : List TextToken} → ParamFronts (IsName x ∷ IsMark mark.Colon ∷ IsMark mark.OpenBracket ∷ bad) bad
  param_bracket : {x : List ℕ} {t : Ty} {bad : List TextToken} → ParamFronts (IsName x ∷ IsMark mark.Colon ∷ IsMark mark.OpenBracket ∷ IsType t ∷ bad) bad
  whole_param : {p : Parameter} {from bad : List TextToken} → SpellsParam from p bad → ParamFronts from bad

-- a parameter and no more than so many others: the comma before one too many is no front
pub data SomeFronts : ℕ → List TextToken → List TextToken → Type 0 where
  in_param : {others : ℕ} {from bad : List TextToken} → ParamFronts from bad → SomeFronts others from bad
  next_param : {others : ℕ} {p : Parameter} {from next bad : List TextToken} → SpellsParam from p (IsMark mark.Comma ∷ next) → SomeFronts others next bad → SomeFronts (suc others) from bad

pub data VarFronts : List TextToken → List TextToken → Type 0 where
  no_var_yet : {bad : List TextToken} → VarFronts bad bad
  var_name : {bad : List TextToken} → VarFronts (IsMark mark.Var ∷ bad) bad
  var_colon : {x : List ℕ} {bad : List TextToken} → VarFronts (IsMark mark.Var ∷ IsName x ∷ bad) bad
  var_type : {x : List ℕ} {bad : List TextToken} → VarFronts (IsMark mark.Var ∷ IsName x ∷ IsMark mark.Colon ∷ bad) bad
  var_equals : {x : List ℕ} {t : Ty} {bad : List TextToken} → VarFronts (IsMark mark.Var ∷ IsName x ∷ IsMark mark.Colon ∷ IsType t ∷ bad) bad
  var_value : {x : List ℕ} {t : Ty} {from bad : List TextToken} → Fronts 10 from bad → VarFronts (IsMark mark.Var ∷ IsName x ∷ IsMark mark.Colon ∷ IsType t ∷ IsMark mark.Equals ∷ from) bad
  var_end : {x : List ℕ} {t : Ty} {e : Term} {from bad : List TextToken} → Spells 10 from e bad → VarFronts (IsMark mark.Var ∷ IsName x ∷ IsMark mark.Colon ∷ IsType t ∷ IsMark mark.Equals ∷ from) bad
  next_var : {x : List ℕ} {t : Ty} {e : Term} {from next bad : List TextToken} → Spells 10 from e (IsMark mark.Semicolon ∷ next) → VarFronts next bad → VarFronts (IsMark mark.Var ∷ IsName x ∷ IsMark mark.Colon ∷ IsType t ∷ IsMark mark.Equals ∷ from) bad

pub data LoopFronts : List TextToken → List TextToken → Type 0 where
  no_loop_yet : {bad : List TextToken} → LoopFronts bad bad
  loop_name : {bad : List TextToken} → LoopFronts (IsMark mark.For ∷ bad) bad
  loop_in : {i : List ℕ} {bad : List TextToken} → LoopFronts (IsMark mark.For ∷ IsName i ∷ bad) bad
  loop_zero : {i : List ℕ} {bad : List TextToken} → LoopFronts (IsMark mark.For ∷ IsName i ∷ IsMark mark.In ∷ bad) bad
  loop_range : {i : List ℕ} {bad : List TextToken} → LoopFronts (IsMark mark.For ∷ IsName i ∷ IsMark mark.In ∷ IsNumber 0 ∷ bad) bad
  loop_bound : {i : List ℕ} {bad : List TextToken} → LoopFronts (IsMark mark.For ∷ IsName i ∷ IsMark mark.In ∷ IsNumber 0 ∷ IsMark mark.Range ∷ bad) bad
  loop_brace : {i n : List ℕ} {bad : List TextToken} → LoopFronts (IsMark mark.For ∷ IsName i ∷ IsMark mark.In ∷ IsNumber 0 ∷ IsMark mark.Range ∷ IsName n ∷ bad) bad
  loop_block : {i n : List ℕ} {from bad : List TextToken} → BlockFronts true from bad → LoopFronts (IsMark mark.For ∷ IsName i ∷ IsMark mark.In ∷ IsNumber 0 ∷ IsMark mark.Range ∷ IsName n ∷ IsMark mark.OpenBrace ∷ from) bad

-- what stands in the braces of a kernel that returns a value, or of one that does not, and the brace after it
pub data BodyFronts : Bool → List TextToken → List TextToken → Type 0 where
  in_vars : {returns : Bool} {from bad : List TextToken} → VarFronts from bad → BodyFronts returns from bad
  in_loop : {returns : Bool} {vs : List Accumulator} {from next bad : List TextToken} → SpellsVars from vs next → LoopFronts next bad → BodyFronts returns from bad
  end_body : {vs : List Accumulator} {l : Option PlainLoop} {from next bad : List TextToken} → SpellsVars from vs next → SpellsLoop next l (IsMark mark.CloseBrace ∷ bad) → BodyFronts false from bad
  in_answer : {vs : List Accumulator} {l : Option PlainLoop} {from next last bad : List TextToken} → SpellsVars from vs next → SpellsLoop next l (IsMark mark.Return ∷ last) → Fronts 10 last bad → BodyFronts true from bad
  end_answer : {vs : List Accumulator} {l : Option PlainLoop} {e : Term} {from next last bad : List TextToken} → SpellsVars from vs next → SpellsLoop next l (IsMark mark.Return ∷ last) → Spells 10 last e bad → BodyFronts true from bad
  at_brace : {vs : List Accumulator} {l : Option PlainLoop} {e : Term} {from next last bad : List TextToken} → SpellsVars from vs next → SpellsLoop next l (IsMark mark.Return ∷ last) → Spells 10 last e (IsMark mark.Semicolon ∷ bad) → BodyFronts true from bad
  end_function : {vs : List Accumulator} {l : Option PlainLoop} {e : Term} {from next last bad : List TextToken} → SpellsVars from vs next → SpellsLoop next l (IsMark mark.Return ∷ last) → Spells 10 last e (IsMark mark.Semicolon ∷ IsMark mark.CloseBrace ∷ bad) → BodyFronts true from bad

pub data KernelFronts : List TextToken → List TextToken → Type 0 where
  no_kernel : {bad : List TextToken} → KernelFronts bad bad
  kernel_name : {bad : List TextToken} → KernelFronts (IsMark mark.Kernel ∷ bad) bad
  kernel_paren : {x : List ℕ} {bad : List TextToken} → KernelFronts (IsMark mark.Kernel ∷ IsName x ∷ bad) bad
  -- after the open parenthesis, where a parameter or its close may follow
  in_params : {x : List ℕ} {from bad : List TextToken} → SomeFronts 7 from bad → KernelFronts (IsMark mark.Kernel ∷ IsName x ∷ IsMark mark.OpenParen ∷ from) bad
  kernel_tail : {x : List ℕ} {ps : List Parameter} {from bad : List TextToken} → SpellsParams from ps bad → KernelFronts (IsMark mark.Kernel ∷ IsName x ∷ IsMark mark.OpenParen ∷ from) bad
  kernel_type : {x : List ℕ} {ps : List Parameter} {from bad : List TextToken} → SpellsParams from ps (IsMark mark.Arrow ∷ bad) → KernelFronts (IsMark mark.Kernel ∷ IsName x ∷ IsMark mark.OpenParen ∷ from) bad
  kernel_brace : {x : List ℕ} {ps : List Parameter} {t : Ty} {from bad : List TextToken} → SpellsParams from ps (IsMark mark.Arrow ∷ IsType t ∷ bad) → KernelFronts (IsMark mark.Kernel ∷ IsName x ∷ IsMark mark.OpenParen ∷ from) bad
  in_procedure : {x : List ℕ} {ps : List Parameter} {from body bad : List TextToken} → SpellsParams from ps (IsMark mark.OpenBrace ∷ body) → BodyFronts false body bad → KernelFronts (IsMark mark.Kernel ∷ IsName x ∷ IsMark mark.OpenParen ∷ from) bad
  in_function : {x : List ℕ} {ps : List Parameter} {t : Ty} {from body bad : List TextToken} → SpellsParams from ps (IsMark mark.Arrow ∷ IsType t ∷ IsMark mark.OpenBrace ∷ body) → BodyFronts true body bad → KernelFronts (IsMark mark.Kernel ∷ IsName x ∷ IsMark mark.OpenParen ∷ from) bad

-- a list of tokens that some kernel's token list begins with
abbrev pub Viable : List TextToken → Type 0
Viable words = KernelFronts words []
