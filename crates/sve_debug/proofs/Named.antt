-- The commands of one word, and of a name and a number, by the name.
use Rattle.std.proofs.Common.{◌≡◌, ◌∙◌, ℕ, List, Bool, true, false, codes, sym, ap, Option, Some, None, if◌then◌else◌}
use Rattle.std.specs.Prelude.{bytes_eq, option_map, IfSome}
use Rattle.number_text.specs.Numbers.{number_of}
use Rattle.sve_debug.specs.declared.command.Command.TheVariants.{Step, Go, Back, Break, Show, Quit}
use Rattle.sve_debug.specs.declared.command.Command.{Command}
use Rattle.sve_debug.specs.declared.command.Part.TheVariants.{Place, Stack, Flags, FirstFault, Past}
use Rattle.sve_debug.specs.View.{IsWithin}
use Rattle.sve_debug.specs.Lines.{alone, number_in, general, vector, predicate, with_number}

abbrev pub Named : List ℕ → List ℕ → Type 0
Named name text = bytes_eq name text ≡ true

abbrev pub Unnamed : List ℕ → List ℕ → Type 0
Unnamed name text = bytes_eq name text ≡ false

chosen : {X : Type 0} (b : Bool) (x y : X) → b ≡ true → (if b then x else y) ≡ x
chosen b x y e = ap (λ (c : Bool). if c then x else y) e

else_of_false : {X : Type 0} (b : Bool) (x y : X) → b ≡ false → (if b then x else y) ≡ y
else_of_false b x y e = ap (λ (c : Bool). if c then x else y) e

-- a test of a name
pub named : (name text spelt : List ℕ) (test wanted : Bool) → text ≡ spelt → test ≡ bytes_eq name text → test ≡ wanted → bytes_eq name spelt ≡ wanted
named name text spelt test wanted same is e = ap (bytes_eq name) (sym same) ∙ sym is ∙ e

pub none_within : (found : Option Command) → found ≡ None → IfSome found IsWithin
none_within None e = tt
none_within (Some command) e = absurd cc

-- ---- a name and a number

pub step_is : (name word : List ℕ) → Named name (codes "step") → with_number name word ≡ option_map Step (number_in 1 1000000 word)
step_is name word a = chosen _ _ _ a

pub go_is : (name word : List ℕ) → Unnamed name (codes "step") → Named name (codes "go") → with_number name word ≡ option_map Go (number_in 1 100000000 word)
go_is name word a b = else_of_false _ _ _ a ∙ chosen _ _ _ b

pub back_is : (name word : List ℕ) → Unnamed name (codes "step") → Unnamed name (codes "go") → Named name (codes "back") → with_number name word ≡ option_map Back (number_in 1 100000000 word)
back_is name word a b c = else_of_false _ _ _ a ∙ else_of_false _ _ _ b ∙ chosen _ _ _ c

pub break_is : (name word : List ℕ) → Unnamed name (codes "step") → Unnamed name (codes "go") → Unnamed name (codes "back") → Named name (codes "break") → with_number name word ≡ option_map Break (number_of word)
break_is name word a b c d = else_of_false _ _ _ a ∙ else_of_false _ _ _ b ∙ else_of_false _ _ _ c ∙ chosen _ _ _ d

pub x_is : (name word : List ℕ) → Unnamed name (codes "step") → Unnamed name (codes "go") → Unnamed name (codes "back") → Unnamed name (codes "break") → Named name (codes "x") → with_number name word ≡ option_map general (number_in 0 30 word)
x_is name word a b c d e = else_of_false _ _ _ a ∙ else_of_false _ _ _ b ∙ else_of_false _ _ _ c ∙ else_of_false _ _ _ d ∙ chosen _ _ _ e

pub z_is : (name word : List ℕ) → Unnamed name (codes "step") → Unnamed name (codes "go") → Unnamed name (codes "back") → Unnamed name (codes "break") → Unnamed name (codes "x") → Named name (codes "z") → with_number name word ≡ option_map vector (number_in 0 31 word)
z_is name word a b c d e f = else_of_false _ _ _ a ∙ else_of_false _ _ _ b ∙ else_of_false _ _ _ c ∙ else_of_false _ _ _ d ∙ else_of_false _ _ _ e ∙ chosen _ _ _ f

pub predicate_named : (name word : List ℕ) → Unnamed name (codes "step") → Unnamed name (codes "go") → Unnamed name (codes "back") → Unnamed name (codes "break") → Unnamed name (codes "x") → Unnamed name (codes "z") → Named name (codes "p") → with_number name word ≡ option_map predicate (number_in 0 15 word)
predicate_named name word a b c d e f g = else_of_false _ _ _ a ∙ else_of_false _ _ _ b ∙ else_of_false _ _ _ c ∙ else_of_false _ _ _ d ∙ else_of_false _ _ _ e ∙ else_of_false _ _ _ f ∙ chosen _ _ _ g

pub no_name : (name word : List ℕ) → Unnamed name (codes "step") → Unnamed name (codes "go") → Unnamed name (codes "back") → Unnamed name (codes "break") → Unnamed name (codes "x") → Unnamed name (codes "z") → Unnamed name (codes "p") → with_number name word ≡ None
no_name name word a b c d e f g = else_of_false _ _ _ a ∙ else_of_false _ _ _ b ∙ else_of_false _ _ _ c ∙ else_of_false _ _ _ d ∙ else_of_false _ _ _ e ∙ else_of_false _ _ _ f ∙ else_of_false _ _ _ g

-- ---- one word

pub pc_alone : (name : List ℕ) → Named name (codes "pc") → alone name ≡ Some (Show Place)
pc_alone name a = chosen _ _ _ a

pub sp_alone : (name : List ℕ) → Unnamed name (codes "pc") → Named name (codes "sp") → alone name ≡ Some (Show Stack)
sp_alone name a b = else_of_false _ _ _ a ∙ chosen _ _ _ b

pub nzcv_alone : (name : List ℕ) → Unnamed name (codes "pc") → Unnamed name (codes "sp") → Named name (codes "nzcv") → alone name ≡ Some (Show Flags)
nzcv_alone name a b c = else_of_false _ _ _ a ∙ else_of_false _ _ _ b ∙ chosen _ _ _ c

pub ffr_alone : (name : List ℕ) → Unnamed name (codes "pc") → Unnamed name (codes "sp") → Unnamed name (codes "nzcv") → Named name (codes "ffr") → alone name ≡ Some (Show FirstFault)
ffr_alone name a b c d = else_of_false _ _ _ a ∙ else_of_false _ _ _ b ∙ else_of_false _ _ _ c ∙ chosen _ _ _ d

pub past_alone : (name : List ℕ) → Unnamed name (codes "pc") → Unnamed name (codes "sp") → Unnamed name (codes "nzcv") → Unnamed name (codes "ffr") → Named name (codes "past") → alone name ≡ Some (Show Past)
past_alone name a b c d e = else_of_false _ _ _ a ∙ else_of_false _ _ _ b ∙ else_of_false _ _ _ c ∙ else_of_false _ _ _ d ∙ chosen _ _ _ e

pub quit_alone : (name : List ℕ) → Unnamed name (codes "pc") → Unnamed name (codes "sp") → Unnamed name (codes "nzcv") → Unnamed name (codes "ffr") → Unnamed name (codes "past") → Named name (codes "quit") → alone name ≡ Some Quit
quit_alone name a b c d e f = else_of_false _ _ _ a ∙ else_of_false _ _ _ b ∙ else_of_false _ _ _ c ∙ else_of_false _ _ _ d ∙ else_of_false _ _ _ e ∙ chosen _ _ _ f

pub none_alone : (name : List ℕ) → Unnamed name (codes "pc") → Unnamed name (codes "sp") → Unnamed name (codes "nzcv") → Unnamed name (codes "ffr") → Unnamed name (codes "past") → Unnamed name (codes "quit") → alone name ≡ None
none_alone name a b c d e f = else_of_false _ _ _ a ∙ else_of_false _ _ _ b ∙ else_of_false _ _ _ c ∙ else_of_false _ _ _ d ∙ else_of_false _ _ _ e ∙ else_of_false _ _ _ f
