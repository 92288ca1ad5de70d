-- The items of a kernel with the values that they make and how long these are needed.
use Rattle.std.specs.Prelude.{ℕ, List, [], ◌∷◌, map, Option, Some, None, Bool, true, false, max, bytes_eq, if◌then◌else◌}
use Rattle.kernel_tree.specs.Plain.{Program}
use Rattle.loop_form.specs.declared.item.ItemKind.{ItemKind}
use Rattle.loop_form.specs.declared.item.ItemKind.TheVariants as kind
use Rattle.loop_form.specs.declared.item.Item.{Item}
use Rattle.reg_assign.specs.declared.interval.RegClass.{RegClass}
use Rattle.reg_assign.specs.declared.interval.RegClass.TheVariants.{Z, P, X}
use Rattle.loop_form.specs.Entries.{Content, IsName, IsLet, Entry, kind_of, entries_of}

-- An item of these kinds makes a value in a Z register. A literal or a name makes none: it is held throughout the loop.
abbrev pub has_z : ItemKind → Bool
has_z kind.Read = true
has_z kind.Unary = true
has_z kind.Binary = true
has_z kind.Shift = true
has_z kind.Cast = true
has_z kind.Select = true
has_z kind.Let = true
has_z _ = false

-- in an X register: also a literal, and a name none, since it is read where it is held
abbrev pub has_x : ItemKind → Bool
has_x kind.Literal = true
has_x k = has_z k

-- in a P register: the conditions, and a mark and an `else`, which hold where the condition before them does not
abbrev pub has_p : ItemKind → Bool
has_p kind.Compare = true
has_p kind.Not = true
has_p kind.And = true
has_p kind.Or = true
has_p kind.Mark = true
has_p kind.Else = true
has_p _ = false

abbrev pub has_value : RegClass → ItemKind → Bool
has_value Z k = has_z k
has_value P k = has_p k
has_value X k = has_x k

-- ---- last uses

abbrev pub is_named : List ℕ → Content → Bool
is_named x (IsName y) = bytes_eq y x
is_named x _ = false

-- whether an item is the name
abbrev pub names : List ℕ → Entry → Bool
names x e = is_named x e.content

-- the greatest of an item and the users of the name's items
unfoldable pub last_use_from : List ℕ → ℕ → List Entry → ℕ
last_use_from x last [] = last
last_use_from x last (e ∷ es) = last_use_from x (if names x e then max last e.last_use else last) es

abbrev pub last_of : List Entry → Content → ℕ → ℕ
last_of all (IsLet x) last_use = last_use_from x last_use all
last_of all _ last_use = last_use

-- The item that uses an item's value last, among all items of the kernel. The value of a `let` is used by the users of
-- the names that read it, and by the `let` itself where there are none: each name is declared once in a kernel.
abbrev pub last_use_at : List Entry → Entry → ℕ
last_use_at all e = last_of all e.content e.last_use

-- ---- items

abbrev pub held : Bool → ℕ → Option ℕ
held true last_use = Some last_use
held false last_use = None

abbrev pub last_use_in : RegClass → List Entry → Entry → Option ℕ
last_use_in class all e = held (has_value class (kind_of e.content)) (last_use_at all e)

abbrev pub item_of : List Entry → Entry → Item
item_of all e = record {
  kind = kind_of e.content;
  ty = e.type;
  x_last_use = last_use_in X all e;
  z_last_use = last_use_in Z all e;
  p_last_use = last_use_in P all e;
}

-- the items of a kernel, in their order
abbrev pub listing_of : Program → List Item
listing_of k = map (item_of (entries_of k)) (entries_of k)
