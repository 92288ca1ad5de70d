-- The listing as the code holds it.
use Rattle.std.specs.Prelude.{List, map}
use Rattle.kernel_tree.specs.declared.checked.Checked.{Checked}
use Rattle.kernel_tree.specs.Plain.{Program, program_of, term_of}
use Rattle.kernel_tree.specs.Checked.{kernel_of}
use Rattle.loop_form.specs.declared.entry.Content.{Content}
use Rattle.loop_form.specs.declared.entry.Content.TheVariants as content
use Rattle.loop_form.specs.declared.entry.Entry.{Entry}
use Rattle.loop_form.specs.Entries as plain
use Rattle.loop_form.specs.Entries.{IsLiteral, IsName, IsRead, IsLet, IsStore, IsUpdate, IsPlain}

-- a checked kernel as plain data
unfoldable pub program : Checked → Program
program c = program_of (kernel_of c)

abbrev pub content_of : Content → plain.Content
content_of (content.Literal n) = IsLiteral n
content_of (content.Name x) = IsName x.now
content_of (content.Read a i) = IsRead a.now (term_of i.now)
content_of (content.Let x) = IsLet x.now
content_of (content.Store a i) = IsStore a.now (term_of i.now)
content_of (content.Update x op) = IsUpdate x.now op
content_of (content.Plain k) = IsPlain k

abbrev pub entry_of : Entry → plain.Entry
entry_of e = record { item = e.item; content = content_of e.content; type = e.ty; last_use = e.last_use }

abbrev pub entries_view : List Entry → List plain.Entry
entries_view es = map entry_of es
