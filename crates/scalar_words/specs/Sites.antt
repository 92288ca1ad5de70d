-- What definitions say at a site.
use Rattle.std.specs.Prelude.{ℕ, List, Option}
use Rattle.kernel_tree.specs.Typing.{Scope}
use Rattle.kernel_scope.specs.Scopes.{scope_of}
use Rattle.scalar_words.specs.Layout.{Layout, Homes}
use Rattle.scalar_words.specs.View.{homes_of}
use Rattle.scalar_words.specs.declared.site.Site.{Site}

-- the name of the loop variable
abbrev pub index_at : Site → Option (List ℕ)
index_at s = (scope_of s.scope).index

-- what a definition says there, by the layout, the homes and the scope
abbrev pub at : {R : Type 0} → Site → (Layout → Homes → Scope → R) → R
at s f = f s.layout (homes_of s.homes.items) (scope_of s.scope)

-- the same where of the scope only the name of the loop variable tells
abbrev pub at_index : {R : Type 0} → Site → (Layout → Homes → Option (List ℕ) → R) → R
at_index s f = f s.layout (homes_of s.homes.items) (index_at s)
