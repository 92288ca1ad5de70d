-- What the code keeps of a scope, as the rules of typing have it.
use Rattle.std.specs.Prelude.{ℕ, List, map, take, Option, option_map, Bool, true, false, bytes_eq}
use Rattle.std.specs.List.{find}
use Rattle.std.specs.Borrow.{Bor}
use Rattle.kernel_tree.specs.declared.fault.Binding.{Binding}
use Rattle.kernel_tree.specs.declared.fault.Binding.TheVariants as binding
use Rattle.kernel_tree.specs.Plain.{Parameter, Accumulator}
use Rattle.kernel_tree.specs.Typing as typing
use Rattle.kernel_scope.specs.declared.scope.Local.{Local}
use Rattle.kernel_scope.specs.declared.scope.Scope.{Scope}

-- the bytes of a text that is lent
abbrev pub lent_text : Bor (List ℕ) → List ℕ
lent_text t = t.now

abbrev pub local_of : Local → typing.Local
local_of l = record { name = lent_text l.name; binding = l.binding }

abbrev pub scope_of : Scope → typing.Scope
scope_of s = record {
  visible = map local_of s.visible.items;
  taken = map lent_text s.declared.keys;
  index = option_map lent_text s.index;
  inside = s.inside;
}

abbrev pub named : List ℕ → Local → Bool
named x l = bytes_eq (lent_text l.name) x

abbrev pub binding_in : Local → Binding
binding_in l = l.binding

-- what a name stands for among these
abbrev pub binding_among : List Local → List ℕ → Option Binding
binding_among ls x = option_map binding_in (find (named x) ls)

-- a name is declared, but it is visible nowhere
abbrev pub reserved : typing.Scope → List ℕ → typing.Scope
reserved scope x = record scope { taken = typing.insert_name scope.taken x }

-- the names that were declared last are visible no more: so many stay
abbrev pub kept : ℕ → typing.Scope → typing.Scope
kept n scope = record scope { visible = take n scope.visible }

-- after the loop: so many names stay visible, and so many declared
abbrev pub closed : ℕ → ℕ → typing.Scope → typing.Scope
closed visible taken scope = record scope { visible = take visible scope.visible; taken = take taken scope.taken; inside = false }

-- in the body of the loop
abbrev pub in_body : typing.Scope → typing.Scope
in_body scope = record scope { inside = true }

-- what a parameter and an accumulator declare
abbrev pub after_param : typing.Scope → Parameter → typing.Scope
after_param scope p = typing.declared scope p.name (typing.binding_of_shape p.shape)

abbrev pub after_var : typing.Scope → Accumulator → typing.Scope
after_var scope v = typing.declared scope v.name (binding.Accumulator v.type)
