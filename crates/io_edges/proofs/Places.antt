-- The place of a name in a list of files, and what a change there does to the contents.
use Rattle.std.proofs.Common.{◌≡◌, ◌≢◌, ℕ, zero, suc, ◌+◌, Bool, true, false, cond, List, [], ◌∷◌, ◌++◌, set, get_or, Option, Some, None, Ok, refl, sym, ap, subst, ◌∙◌, arith}
use Rattle.std.specs.Prelude.{◌&&◌, not, bytes_eq, is_none, is_some, position, string_bytes}
use Rattle.std.specs.List.{position_from}
use Rattle.std.specs.declared.alloc.AllocError.{AllocError}
use Rattle.std.proofs.lemmas.Bool.{cond-true, cond-false, false_from_ne_true}
use Rattle.std.proofs.lemmas.Iterator.Adapters.{position_from-zero}
use Rattle.std.proofs.lemmas.Slice.Eq.{bytes_eq-Decides}
use Rattle.io_edges.specs.Files.{content, names_differ, Replaces}
use Rattle.io_edges.specs.NamedFile.{entries, has_name}
use Rattle.io_edges.specs.declared.memory_files.NamedFile.{NamedFile}

-- the first file with the name stands at the place
abbrev pub IsFirst : List ℕ → List NamedFile → ℕ → Type 0
IsFirst name [] place = ⊥
IsFirst name (file ∷ files) zero = has_name name file ≡ true
IsFirst name (file ∷ files) (suc place) = (has_name name file ≡ false) × IsFirst name files place

-- a place that is counted from a number on, or none, where no file has the name
abbrev pub Found : List ℕ → List NamedFile → ℕ → Option ℕ → Type 0
Found name files from None = content (entries files) name ≡ None
Found name files from (Some at) = (place : ℕ) × (at ≡ from + place) × IsFirst name files place

found_later : (name : List ℕ) (file : NamedFile) (files : List NamedFile) (from : ℕ) (at : Option ℕ) → has_name name file ≡ false → Found name files (from + 1) at → Found name (file ∷ files) from at
found_later name file files from None other none = cond-false _ _ _ other ∙ none
found_later name file files from (Some at) other found =
    let e : at ≡ (from + 1) + found.0 = found.1 in
    (suc found.0, omega (arith, e), (other, found.2))

found_from : (name : List ℕ) (files : List NamedFile) (from : ℕ) → Found name files from (position_from (has_name name) from files)
found_from name [] from = refl
found_from name (file ∷ files) from =
    (elim (has_name name file) as (λ b. has_name name file ≡ b → Found name (file ∷ files) from (cond b (Some from) (position_from (has_name name) (from + 1) files))) [
      | true ↦ λ same. (0, omega arith, same)
      | false ↦ λ other. found_later name file files from _ other (found_from name files (from + 1))
    ]) refl

pub position_found : (name : List ℕ) (files : List NamedFile) (at : Option ℕ) → at ≡ position (has_name name) files → Found name files 0 at
position_found name files at e = subst (Found name files 0) (sym (e ∙ position_from-zero (has_name name) files)) (found_from name files 0)

pub content_none : (name : List ℕ) (files : List NamedFile) → None ≡ position (has_name name) files → content (entries files) name ≡ None
content_none name files e = position_found name files None e

-- the file at that place has the bytes
content_first : (name : List ℕ) (files : List NamedFile) (place : ℕ) (d : NamedFile) → IsFirst name files place → content (entries files) name ≡ Some (get_or files place d).bytes.items
content_first name [] place d first = absurd first
content_first name (file ∷ files) zero d first = cond-true _ _ _ first
content_first name (file ∷ files) (suc place) d first = cond-false _ _ _ first.0 ∙ content_first name files place d first.1

first_at : (name : List ℕ) (files : List NamedFile) (at : ℕ) → Some at ≡ position (has_name name) files → IsFirst name files at
first_at name files at e =
    let f = position_found name files (Some at) e in
    let same : at ≡ 0 + f.0 = f.1 in
    let place : f.0 ≡ at = omega (arith, same) in
    subst (IsFirst name files) place f.2

pub content_at : (name : List ℕ) (files : List NamedFile) (at : ℕ) (d : NamedFile) → Some at ≡ position (has_name name) files → content (entries files) name ≡ Some (get_or files at d).bytes.items
content_at name files at d e = content_first name files at d (first_at name files at e)

some_content : (name : List ℕ) (files : List NamedFile) (place : ℕ) → IsFirst name files place → is_none (content (entries files) name) ≡ false
some_content name [] place first = absurd first
some_content name (file ∷ files) zero first = ap is_none (cond-true _ _ _ first)
some_content name (file ∷ files) (suc place) first = ap is_none (cond-false _ _ _ first.0) ∙ some_content name files place first.1

pub is_none-content : (name : List ℕ) (files : List NamedFile) (at : Option ℕ) → at ≡ position (has_name name) files → is_none at ≡ is_none (content (entries files) name)
is_none-content name files None e = ap is_none (sym (content_none name files e))
is_none-content name files (Some at) e = sym (some_content name files at (first_at name files at e))

alone_is : (at : Option ℕ) (alone : Bool) → is_some at ≡ not alone → alone ≡ is_none at
alone_is None true e = refl
alone_is None false e = cc
alone_is (Some at) true e = cc
alone_is (Some at) false e = refl

-- one file before others
pub differ_more : (file : NamedFile) (others files : List NamedFile) (at : Option ℕ) (name : List ℕ) (alone differ : Bool) → files ≡ file ∷ others → name ≡ string_bytes file.name → at ≡ position (has_name name) others → is_some at ≡ not alone → differ ≡ names_differ (entries others) → (alone && differ) ≡ names_differ (entries files)
differ_more file others files at name alone differ e same at_is alone_of differ_is =
    ap (λ b. b && differ) (alone_is at alone alone_of ∙ is_none-content name others at at_is)
    ∙ (ap (λ n. is_none (content (entries others) n) && differ) same
    ∙ (ap (λ b. is_none (content (entries others) (string_bytes file.name)) && b) differ_is
    ∙ sym (ap (λ l. names_differ (entries l)) e)))

-- two tests of one name
bytes_eq-same : (a b : List ℕ) → a ≡ b → bytes_eq a b ≡ true
bytes_eq-same a b e = (bytes_eq-Decides a b).1 e

bytes_eq-other : (a b : List ℕ) → a ≢ b → bytes_eq a b ≡ false
bytes_eq-other a b ne = false_from_ne_true (bytes_eq a b) (λ e. ne ((bytes_eq-Decides a b).0 e))

written_first : (name : List ℕ) (files : List NamedFile) (place : ℕ) (g : NamedFile) → IsFirst name files place → string_bytes g.name ≡ name → content (entries (set files place g)) name ≡ Some g.bytes.items
written_first name [] place g first same = absurd first
written_first name (file ∷ files) zero g first same = cond-true _ _ _ (bytes_eq-same _ _ same)
written_first name (file ∷ files) (suc place) g first same = cond-false _ _ _ first.0 ∙ written_first name files place g first.1 same

others_first : (name other : List ℕ) (files : List NamedFile) (place : ℕ) (g : NamedFile) → IsFirst name files place → string_bytes g.name ≡ name → other ≢ name → content (entries (set files place g)) other ≡ content (entries files) other
others_first name other [] place g first same ne = absurd first
others_first name other (file ∷ files) zero g first same ne =
    cond-false _ _ _ (bytes_eq-other _ _ (λ e. ne (sym e ∙ same)))
    ∙ sym (cond-false _ _ _ (bytes_eq-other _ _ (λ e. ne (sym e ∙ (bytes_eq-Decides _ _).0 first))))
others_first name other (file ∷ files) (suc place) g first same ne =
    ap (λ r. cond (bytes_eq (string_bytes file.name) other) (Some file.bytes.items) r) (others_first name other files place g first.1 same ne)

-- the bytes at the place are others
pub replaces_at : (name : List ℕ) (files : List NamedFile) (at : ℕ) (g : NamedFile) → Some at ≡ position (has_name name) files → string_bytes g.name ≡ name → Replaces {E = AllocError} name g.bytes.items (entries files) (entries (set files at g)) (Ok tt)
replaces_at name files at g e same = record {
  written = written_first name files at g (first_at name files at e) same;
  others = λ other ne. others_first name other files at g (first_at name files at e) same ne;
}

-- the content of a name that the first files lack is in the others
content_later : (name : List ℕ) (files : List NamedFile) (others : List NamedFile) → content (entries files) name ≡ None → content (entries (files ++ others)) name ≡ content (entries others) name
content_later name [] others none = refl
content_later name (file ∷ files) others none =
    (elim (has_name name file) as (λ b. cond b (Some file.bytes.items) (content (entries files) name) ≡ None → cond b (Some file.bytes.items) (content (entries (files ++ others)) name) ≡ content (entries others) name) [
      | true ↦ λ absent. cc
      | false ↦ λ absent. content_later name files others absent
    ]) none

-- a file at the end changes nothing at another name
others_before : (other : List ℕ) (files : List NamedFile) (g : NamedFile) → bytes_eq (string_bytes g.name) other ≡ false → content (entries (files ++ g ∷ [])) other ≡ content (entries files) other
others_before other [] g ne = cond-false _ _ _ ne
others_before other (file ∷ files) g ne =
    ap (λ r. cond (bytes_eq (string_bytes file.name) other) (Some file.bytes.items) r) (others_before other files g ne)

-- a file more
pub replaces_more : (name : List ℕ) (files : List NamedFile) (g : NamedFile) → None ≡ position (has_name name) files → string_bytes g.name ≡ name → Replaces {E = AllocError} name g.bytes.items (entries files) (entries (files ++ g ∷ [])) (Ok tt)
replaces_more name files g e same = record {
  written = content_later name files (g ∷ []) (content_none name files e) ∙ cond-true _ _ _ (bytes_eq-same _ _ same);
  others = λ other ne. others_before other files g (bytes_eq-other _ _ (λ e. ne (sym e ∙ same)));
}

name_first : (name : List ℕ) (files : List NamedFile) (place : ℕ) (d : NamedFile) → IsFirst name files place → string_bytes (get_or files place d).name ≡ name
name_first name [] place d first = absurd first
name_first name (file ∷ files) zero d first = (bytes_eq-Decides _ _).0 first
name_first name (file ∷ files) (suc place) d first = name_first name files place d first.1

-- the file at that place has the name
pub name_at : (name : List ℕ) (files : List NamedFile) (at : ℕ) (d : NamedFile) → Some at ≡ position (has_name name) files → string_bytes (get_or files at d).name ≡ name
name_at name files at d e = name_first name files at d (first_at name files at e)
