-- What contracts see of the forms.
use Rattle.std.specs.Prelude.{ℕ, List, map}
use Rattle.asm_forms.specs.Rules.{Sum, Factors, Quarter, LeftShift, RightShift, Form}
use Rattle.asm_forms.specs.declared.forms.Places.{Places}
use Rattle.asm_forms.specs.declared.forms.Places.TheVariants as places
use Rattle.asm_forms.specs.declared.forms.Row.{Row}
use Rattle.asm_forms.specs.Blanks as blanks
use Rattle.asm_forms.specs.declared.blanks.Meaning.{Meaning}
use Rattle.asm_forms.specs.declared.forms.Form as declared

abbrev pub places_view : Places → Sum
places_view (places.Factors factors) = Factors factors.now
places_view (places.Quarter factor) = Quarter factor
places_view places.LeftShift = LeftShift
places_view places.RightShift = RightShift

abbrev pub row_view : Row → List ℕ × ℕ
row_view row = (row.0.now, row.1)

abbrev pub form_view : declared.Form → Form
form_view f = record { operands = f.operands.now; adds = places_view f.adds; mnemonics = map row_view f.rows.now }

abbrev pub sum_view : Places × ℕ → Sum × ℕ
sum_view p = (places_view p.0, p.1)

abbrev pub meaning_view : Meaning → blanks.Meaning
meaning_view m = record { word = m.0.now; blank = m.1; number = m.2 }
