-- What contracts see of the layout and of the homes.
use Rattle.std.specs.Prelude.{ℕ, List, map, Option, Some, None, option_map, Bool, bytes_eq}
use Rattle.std.specs.List.{find}
use Rattle.word_rows.specs.declared.Bits.{Bits}
use Rattle.label_fix.specs.Registers.{xzr}
use Rattle.kernel_scope.specs.Scopes.{lent_text}
use Rattle.scalar_words.specs.declared.constant.Constant.{Constant}
use Rattle.scalar_words.specs.declared.constant.Key.{Key}
use Rattle.scalar_words.specs.declared.constant.Key.TheVariants as key
use Rattle.scalar_words.specs.declared.home.Home.{Home}
use Rattle.scalar_words.specs.declared.loose.Loose.{Loose}
use Rattle.scalar_words.specs.declared.loose.Form.{Form}
use Rattle.scalar_words.specs.declared.loose.Form.TheVariants as form
use Rattle.scalar_words.specs.Layout as plain

abbrev pub register_number : Bits 5 → ℕ
register_number r = r.number

abbrev pub key_of : Key → plain.Key
key_of (key.Number z) = plain.OfNumber z
key_of (key.Address array by) = plain.OfAddress array.number by

abbrev pub constant_of : Constant → plain.Constant
constant_of c = record { key = key_of c.key; register = c.register.number }

abbrev pub constants_of : List Constant → List plain.Constant
constants_of cs = map constant_of cs

abbrev pub form_of : Form → plain.Form
form_of (form.LowBits t) = plain.LowBits t
form_of (form.Ahead t) = plain.Ahead t
form_of form.Behind = plain.Behind

abbrev pub loose_of : Loose → plain.Loose
loose_of l = record { name = lent_text l.name; form = form_of l.form }

abbrev pub looses_of : List Loose → List plain.Loose
looses_of ls = map loose_of ls

abbrev pub called : List ℕ → Loose → Bool
called x l = bytes_eq (lent_text l.name) x

abbrev pub form_in : Loose → Form
form_in l = l.form

abbrev pub form_among : List Loose → List ℕ → Option Form
form_among ls x = option_map form_in (find (called x) ls)

abbrev pub layout_of : List (Bits 5) → List ℕ → List Constant → List Loose → plain.Layout
layout_of regs last_uses constants loose = record { regs = map register_number regs; last_uses = last_uses; constants = constants_of constants; loose = looses_of loose }

abbrev pub keyed : plain.Key → Constant → Bool
keyed z c = plain.same_key (key_of c.key) z

abbrev pub register_of : Constant → Bits 5
register_of c = c.register

abbrev pub register_holding : List Constant → plain.Key → Option (Bits 5)
register_holding cs z = option_map register_of (find (keyed z) cs)

abbrev pub home_of : Home → plain.Home
home_of h = record { name = lent_text h.name; register = h.register.number; last_use = h.last_use }

abbrev pub homes_of : List Home → plain.Homes
homes_of hs = map home_of hs

abbrev pub named : List ℕ → Home → Bool
named x h = bytes_eq (lent_text h.name) x

abbrev pub register_in : Home → Bits 5
register_in h = h.register

abbrev pub register_among : List Home → List ℕ → Option (Bits 5)
register_among hs x = option_map register_in (find (named x) hs)

abbrev pub number_or_xzr : Option (Bits 5) → ℕ
number_or_xzr None = xzr
number_or_xzr (Some r) = r.number
