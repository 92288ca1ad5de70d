-- Bytes that are no request, by the place at which a reader stands still.
use Rattle.std.proofs.Common.{◌≡◌, ℕ, ◌+◌, ◌<◌, ◌^◌, List, [], ◌∷◌, ◌++◌, length, append_assoc, Result, Ok, Err, refl, ap, sym, ◌∙◌, subst, arith, append-nil, length-append, true≢false, false}
use Rattle.std.specs.Prelude.{flat_map, IfErr, IsErrAnd, IsTrue, ◌⊎◌}
use Rattle.std.specs.Int.{to_le_bytes, w32}
use Rattle.std.specs.Bool.{◌==◌}
use Rattle.std.specs.Str.{IsUtf8}
use Rattle.io_edges.specs.Files.{names_differ}
use Rattle.page.specs.Answer.{field}
use Rattle.page.specs.Request.{file_bytes, counted, counted_files, request_bytes, AllOf, IsNamed, Any, HasNo, IsNoRequest}
use Rattle.page.proofs.Fronts.{Front, number_front, field_front, file_front, field_some, file_some, as_many, next_front, counted_front}

-- an empty list has no element
pub not_empty : (v : List ℕ) → false ≡ (length v == 0) → v ≡ [] → ⊥
not_empty v is empty = true≢false (sym (is ∙ ap (λ it. length it == 0) empty))

-- names that meet
pub names_meet : (files : List (List ℕ × List ℕ)) → false ≡ names_differ files → IsTrue (names_differ files) → ⊥
names_meet files is differ = true≢false (sym (subst IsTrue (sym is) differ))

-- what a failed call hands on
pub on_form : {T E : Type 0} {form : E} {P : Type 0} (r : Result T E) (e : E) → IsErrAnd r (λ f. f ≡ e) → (e ≡ form → P) → IfErr r (λ f. f ≡ form → P)
on_form (Ok x) e is has = absurd is
on_form (Err f) e is has = λ same. has (sym is ∙ same)

pub no_field : (old : List ℕ) → HasNo (to_le_bytes w32) Any old → HasNo field Any old
no_field old none short it rest good same = none short (length it) (it ++ rest) tt same

pub no_utf8 : (old : List ℕ) → HasNo field Any old → HasNo field IsUtf8 old
no_utf8 old none short it rest good same = none short it rest tt same

pub no_count : (old : List ℕ) → HasNo (to_le_bytes w32) Any old → HasNo counted (AllOf IsUtf8) old
no_count old none short it rest good same = none short (length it) (flat_map field it ++ rest) tt same

pub no_file_count : (old : List ℕ) → HasNo (to_le_bytes w32) Any old → HasNo counted_files (AllOf IsNamed) old
no_file_count old none short it rest good same = none short (length it) (flat_map file_bytes it ++ rest) tt same

-- a field whose bytes are no text
pub no_form_of_text : (old found new : List ℕ) → old ≡ field found ++ new → (IsUtf8 found → ⊥) → HasNo field IsUtf8 old
no_form_of_text old found new is not short it rest good same =
    let fronts = field_front found it new rest (omega (arith, short, ap length is)) (sym is ∙ same) in
    not (subst IsUtf8 (sym fronts.0) good)

-- after a number and some things no more of them where one more should stand
none_more : {A : Type 0} (code : A → List ℕ) → Front code → ((a : A) → 0 < length (code a)) → (Good : A → Type 0)
    → (old after now : List ℕ) (count : ℕ) (done : List A) → count < 2 ^ 32 → old ≡ to_le_bytes w32 count ++ after → after ≡ flat_map code done ++ now
    → length done < count → HasNo code Good now → (all : List A) (rest : List ℕ) → length old < 2 ^ 32 → AllOf Good all
    → old ≡ to_le_bytes w32 (length all) ++ (flat_map code all ++ rest) → ⊥
none_more code front some Good old after now count done small is held more none all rest short good same =
    let many : length all < 2 ^ 32 = omega (arith, short, ap length same, as_many code some all, length-append (flat_map code all) rest) in
    let number = number_front count (length all) after (flat_map code all ++ rest) small many (sym is ∙ same) in
    let short_now : length now < 2 ^ 32 = omega (arith, short, ap length is, ap length held, length-append (flat_map code done) now) in
    let next = next_front code front Good done all now rest (omega (arith, more, number.0)) (omega (arith, short, ap length is, ap length held)) (sym held ∙ number.1) good in
    none short_now next.0 next.1 next.2 next.3

pub no_form_of_words : (old after now : List ℕ) (count : ℕ) (done : List (List ℕ)) → count < 2 ^ 32 → old ≡ to_le_bytes w32 count ++ after
    → after ≡ flat_map field done ++ now → length done < count → HasNo field IsUtf8 now → HasNo counted (AllOf IsUtf8) old
no_form_of_words old after now count done small is held more none short all rest good same =
    none_more field field_front field_some IsUtf8 old after now count done small is held more none all rest short good same

no_form_of_file : (now : List ℕ) → HasNo field IsUtf8 now → HasNo file_bytes IsNamed now
no_form_of_file now none short file rest good same = none short file.0 (field file.1 ++ rest) good (same ∙ append_assoc (field file.0) (field file.1) rest)

no_second : (now name rest_now : List ℕ) → now ≡ field name ++ rest_now → HasNo field Any rest_now → HasNo file_bytes IsNamed now
no_second now name later is none short file rest good same =
    let one = append_assoc (field file.0) (field file.1) rest in
    let fronts = field_front name file.0 later (field file.1 ++ rest) (omega (arith, short, ap length is)) (sym is ∙ same ∙ one) in
    none (omega (arith, short, ap length is, length-append (field name) later)) file.1 rest tt fronts.1

pub no_form_of_files : (old after now : List ℕ) (count : ℕ) (done : List (List ℕ × List ℕ)) → count < 2 ^ 32 → old ≡ to_le_bytes w32 count ++ after
    → after ≡ flat_map file_bytes done ++ now → length done < count → HasNo field IsUtf8 now → HasNo counted_files (AllOf IsNamed) old
no_form_of_files old after now count done small is held more none short all rest good same =
    none_more file_bytes file_front file_some IsNamed old after now count done small is held more (no_form_of_file now none) all rest short good same

pub no_contents : (old after now name later : List ℕ) (count : ℕ) (done : List (List ℕ × List ℕ)) → count < 2 ^ 32 → old ≡ to_le_bytes w32 count ++ after
    → after ≡ flat_map file_bytes done ++ now → length done < count → now ≡ field name ++ later → HasNo field Any later → HasNo counted_files (AllOf IsNamed) old
no_contents old after now name later count done small is held more begun none short all rest good same =
    none_more file_bytes file_front file_some IsNamed old after now count done small is held more (no_second now name later begun none) all rest short good same

-- ---- a whole request

few_coded : {A : Type 0} (code : A → List ℕ) → ((a : A) → 0 < length (code a)) → (xs : List A) (x : List ℕ)
    → length (to_le_bytes w32 (length xs) ++ (flat_map code xs ++ x)) < 2 ^ 32 → length xs < 2 ^ 32
few_coded code some xs x short = omega (arith, short, as_many code some xs, length-append (flat_map code xs) x)

after_words : (bytes s : List ℕ) (found words : List (List ℕ)) (more : List ℕ) → length bytes < 2 ^ 32 → bytes ≡ counted found ++ s → bytes ≡ counted words ++ more
    → (length s < 2 ^ 32) × (s ≡ more)
after_words bytes s found words more short is same =
    let long = ap length is in
    let fronts = counted_front field field_front field_some found words s more (few_coded field field_some found s (omega (arith, short, long))) (omega (arith, short, long)) (sym is ∙ same) in
    (omega (arith, short, long, length-append (flat_map field found) s), fronts.1)

after_files : (bytes s : List ℕ) (found files : List (List ℕ × List ℕ)) (more : List ℕ) → length bytes < 2 ^ 32 → bytes ≡ counted_files found ++ s
    → bytes ≡ counted_files files ++ more → (length s < 2 ^ 32) × (found ≡ files) × (s ≡ more)
after_files bytes s found files more short is same =
    let long = ap length is in
    let fronts = counted_front file_bytes file_front file_some found files s more (few_coded file_bytes file_some found s (omega (arith, short, long))) (omega (arith, short, long)) (sym is ∙ same) in
    (omega (arith, short, long, length-append (flat_map file_bytes found) s), fronts.0, fronts.1)

after_field : (bytes s found it more : List ℕ) → length bytes < 2 ^ 32 → bytes ≡ field found ++ s → bytes ≡ field it ++ more → (length s < 2 ^ 32) × (s ≡ more)
after_field bytes s found it more short is same =
    let long = ap length is in
    let fronts = field_front found it s more (omega (arith, short, long)) (sym is ∙ same) in
    (omega (arith, short, long, length-append found s), fronts.1)

pub without_words : (bytes : List ℕ) → HasNo counted (AllOf IsUtf8) bytes → IsNoRequest bytes
without_words bytes none short words files input wanted texts named differ good same = none short words (counted_files files ++ (field input ++ field wanted)) texts same

pub without_files : (bytes s : List ℕ) (found : List (List ℕ)) → bytes ≡ counted found ++ s → HasNo counted_files (AllOf IsNamed) s → IsNoRequest bytes
without_files bytes s found is none short words files input wanted texts named differ good same =
    let one = after_words bytes s found words _ short is same in
    none one.0 files (field input ++ field wanted) named one.1

pub without_input : (bytes s t : List ℕ) (found : List (List ℕ)) (held : List (List ℕ × List ℕ)) → bytes ≡ counted found ++ s → s ≡ counted_files held ++ t
    → HasNo field Any t → IsNoRequest bytes
without_input bytes s t found held is then none short words files input wanted texts named differ good same =
    let one = after_words bytes s found words _ short is same in
    let two = after_files s t held files _ one.0 then one.1 in
    none two.0 input (field wanted) tt two.2

pub without_name : (bytes s t u bytes_in : List ℕ) (found : List (List ℕ)) (held : List (List ℕ × List ℕ)) → bytes ≡ counted found ++ s → s ≡ counted_files held ++ t
    → t ≡ field bytes_in ++ u → HasNo field IsUtf8 u → IsNoRequest bytes
without_name bytes s t u bytes_in found held is then later none short words files input wanted texts named differ good same =
    let one = after_words bytes s found words _ short is same in
    let two = after_files s t held files _ one.0 then one.1 in
    let three = after_field t u bytes_in input _ two.0 later two.2 in
    none three.0 wanted [] good (three.1 ∙ sym (append-nil (field wanted)))

pub with_more : (bytes s t u v bytes_in name : List ℕ) (found : List (List ℕ)) (held : List (List ℕ × List ℕ)) → bytes ≡ counted found ++ s
    → s ≡ counted_files held ++ t → t ≡ field bytes_in ++ u → u ≡ field name ++ v → (v ≡ [] → IsTrue (names_differ held) → ⊥) → IsNoRequest bytes
with_more bytes s t u v bytes_in name found held is then later last wrong short words files input wanted texts named differ good same =
    let one = after_words bytes s found words _ short is same in
    let two = after_files s t held files _ one.0 then one.1 in
    let three = after_field t u bytes_in input _ two.0 later two.2 in
    let four = after_field u v name wanted [] three.0 last (three.1 ∙ sym (append-nil (field wanted))) in
    wrong four.1 (subst (λ it. IsTrue (names_differ it)) (sym two.1) differ)
