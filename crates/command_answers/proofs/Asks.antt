-- What was asked of the files, one stretch after another.
use Rattle.std.proofs.Common.{◌≡◌, List, [], ◌∷◌, Option, Some, None, Result, Ok, Err, refl, sym, ap, ◌∙◌, subst, append_assoc}
use Rattle.std.specs.Prelude.{ℕ, ◌++◌, IfSome}
use Rattle.std.proofs.lemmas.List.{append-nil}
use Rattle.io_edges.specs.declared.files.FileError.{FileError}
use Rattle.io_edges.specs.Requests.{Request, ReadOf, WriteOf, Requested, failed_in}
use Rattle.refusals.specs.declared.refusal.Refusal.{Refusal}
use Rattle.refusals.specs.Statuses.{of_files}
use Rattle.command_answers.specs.Requests.{Want, Read, Write, IsFor, failure_of, IsOk, IsElsewhere, IsNotOfFiles, IsRefusedElsewhere, Asked, all_went, refused, failed, went, GoesOn, Asks}

-- nothing was asked for
pub none_asked : (now : Option (List Request)) (P : List Request → Type 0) → P [] → GoesOn now now P
none_asked None P p = tt
none_asked (Some log) P p = ([], ap (λ l. Some l) (sym (append-nil log)), p)

-- one request is one stretch
pub one_asked : (before now : Option (List Request)) (request : Request) (P : List Request → Type 0) → Requested before now request → P (request ∷ []) → GoesOn before now P
one_asked None now request P e p = tt
one_asked (Some log) now request P e p = (request ∷ [], e, p)

-- two stretches are one
pub goes_on : (before mid now : Option (List Request)) (P Q R : List Request → Type 0) → GoesOn before mid P → GoesOn mid now Q → ((a b : List Request) → P a → Q b → R (a ++ b)) → GoesOn before now R
goes_on None mid now P Q R p q both = tt
goes_on (Some log) mid now P Q R p q both =
    onto (subst (λ m. GoesOn m now Q) p.1 q)
  where
    onto : GoesOn (Some (log ++ p.0)) now Q → GoesOn (Some log) now R
    onto rest = (p.0 ++ rest.0, rest.1 ∙ ap (λ l. Some l) (append_assoc log p.0 rest.0), both p.0 rest.0 p.2 rest.2)

-- what was asked for, seen otherwise
pub seen_so : (before now : Option (List Request)) (P Q : List Request → Type 0) → GoesOn before now P → ((a : List Request) → P a → Q a) → GoesOn before now Q
seen_so None now P Q p same = tt
seen_so (Some log) now P Q p same = (p.0, p.1, same p.0 p.2)

-- ---- what is asked for before something more

-- all that was wanted so far went well, so that the rest is what is asked for after it
both_asked : {T U : Type 0} {First : Result T Refusal → Type 0} {After : Result U Refusal → Type 0} {wants more : List Want} {a b : List Request} {x : T} {answer : Result U Refusal} {found : Result T Refusal} → found ≡ Ok x → Asked First wants a found → Asked After more b answer → Asked After (wants ++ more) (a ++ b) answer
both_asked is (all_went ok) rest = rest
both_asked is (refused r) rest = absurd (subst IsRefusedElsewhere is r)
both_asked is (failed error f e answer) rest = absurd cc
both_asked is (went f e asked) rest = went f e (both_asked is asked rest)

-- the refusal of what was found is that of the answer
elsewhere_too : {T U : Type 0} {refusal : Refusal} {answer : Result U Refusal} {found : Result T Refusal} → found ≡ Err refusal → answer ≡ Err refusal → IsRefusedElsewhere found → IsRefusedElsewhere answer
elsewhere_too is e r = subst IsRefusedElsewhere (sym e) (subst IsRefusedElsewhere is r)

refusal_is : {T U : Type 0} {refusal other : Refusal} {found : Result T Refusal} → found ≡ Err refusal → found ≡ Err other → ◌≡◌ {A = Result U Refusal} (Err refusal) (Err other)
refusal_is is e = cc

-- what failed is what the answer tells
stopped_asked : {T U : Type 0} {After : Result U Refusal → Type 0} {wants : List Want} {a : List Request} {refusal : Refusal} {answer : Result U Refusal} {found : Result T Refusal} (more : List Want) → found ≡ Err refusal → answer ≡ Err refusal → Asked IsOk wants a found → Asked After (wants ++ more) a answer
stopped_asked more is e (all_went ok) = absurd (subst IsOk is ok)
stopped_asked more is e (refused r) = refused (elsewhere_too is e r)
stopped_asked more is e (failed error f g answer) = failed error f g (e ∙ refusal_is is answer)
stopped_asked more is e (went f g asked) = went f g (stopped_asked more is e asked)

-- nothing more is wanted
ends_asked : {T U : Type 0} {First : Result T Refusal → Type 0} {After : Result U Refusal → Type 0} {wants : List Want} {a : List Request} {x : T} {answer : Result U Refusal} {found : Result T Refusal} → found ≡ Ok x → After answer → Asked First wants a found → Asked After wants a answer
ends_asked is ok (all_went o) = all_went ok
ends_asked is ok (refused r) = absurd (subst IsRefusedElsewhere is r)
ends_asked is ok (failed error f e answer) = absurd cc
ends_asked is ok (went f e asked) = went f e (ends_asked is ok asked)

fails_asked : {T U : Type 0} {After : Result U Refusal → Type 0} {wants : List Want} {a : List Request} {refusal : Refusal} {answer : Result U Refusal} {found : Result T Refusal} → found ≡ Err refusal → answer ≡ Err refusal → Asked IsOk wants a found → Asked After wants a answer
fails_asked is e (all_went ok) = absurd (subst IsOk is ok)
fails_asked is e (refused r) = refused (elsewhere_too is e r)
fails_asked is e (failed error f g answer) = failed error f g (e ∙ refusal_is is answer)
fails_asked is e (went f g asked) = went f g (fails_asked is e asked)

-- what is refused elsewhere may be refused before anything more is asked for
nothing_asked : {T : Type 0} {refusal : Refusal} {answer : Result T Refusal} (wants : List Want) → IsElsewhere refusal → answer ≡ Err refusal → Asked IsNotOfFiles wants [] answer
nothing_asked [] r e = all_went (subst IsNotOfFiles (sym e) r)
nothing_asked (want ∷ wants) r e = refused (subst IsRefusedElsewhere (sym e) r)

-- what failed anywhere is what the answer tells
stopped_anywhere : {T U : Type 0} {wants : List Want} {a : List Request} {refusal : Refusal} {answer : Result U Refusal} {found : Result T Refusal} (more : List Want) → found ≡ Err refusal → answer ≡ Err refusal → Asked IsNotOfFiles wants a found → Asked IsNotOfFiles (wants ++ more) a answer
stopped_anywhere more is e (all_went r) = nothing_asked more (subst IsNotOfFiles is r) e
stopped_anywhere more is e (refused r) = refused (elsewhere_too is e r)
stopped_anywhere more is e (failed error f g answer) = failed error f g (e ∙ refusal_is is answer)
stopped_anywhere more is e (went f g asked) = went f g (stopped_anywhere more is e asked)

fails_anywhere : {T U : Type 0} {wants : List Want} {a : List Request} {refusal : Refusal} {answer : Result U Refusal} {found : Result T Refusal} → found ≡ Err refusal → answer ≡ Err refusal → Asked IsNotOfFiles wants a found → Asked IsNotOfFiles wants a answer
fails_anywhere is e (all_went r) = nothing_asked [] (subst IsNotOfFiles is r) e
fails_anywhere is e (refused r) = refused (elsewhere_too is e r)
fails_anywhere is e (failed error f g answer) = failed error f g (e ∙ refusal_is is answer)
fails_anywhere is e (went f g asked) = went f g (fails_anywhere is e asked)

-- ---- stretches of a call

pub then_asks : {T U : Type 0} (First : Result T Refusal → Type 0) (After : Result U Refusal → Type 0) (before mid now : Option (List Request)) (wants more : List Want) (x : T) (found : Result T Refusal) (answer : Result U Refusal) → found ≡ Ok x → Asks First before mid wants found → Asks After mid now more answer → Asks After before now (wants ++ more) answer
then_asks First After before mid now wants more x found answer is p q =
    goes_on before mid now (λ a. Asked First wants a found) (λ a. Asked After more a answer) (λ a. Asked After (wants ++ more) a answer) p q (λ a b u v. both_asked is u v)

pub stops_asks : {T U : Type 0} (After : Result U Refusal → Type 0) (before now : Option (List Request)) (wants more : List Want) (refusal : Refusal) (found : Result T Refusal) (answer : Result U Refusal) → found ≡ Err refusal → answer ≡ Err refusal → Asks IsOk before now wants found → Asks After before now (wants ++ more) answer
stops_asks After before now wants more refusal found answer is e p =
    seen_so before now (λ a. Asked IsOk wants a found) (λ a. Asked After (wants ++ more) a answer) p (λ a u. stopped_asked more is e u)

pub ends_asks : {T U : Type 0} (First : Result T Refusal → Type 0) (After : Result U Refusal → Type 0) (before now : Option (List Request)) (wants : List Want) (x : T) (found : Result T Refusal) (answer : Result U Refusal) → found ≡ Ok x → After answer → Asks First before now wants found → Asks After before now wants answer
ends_asks First After before now wants x found answer is ok p =
    seen_so before now (λ a. Asked First wants a found) (λ a. Asked After wants a answer) p (λ a u. ends_asked is ok u)

pub fails_asks : {T U : Type 0} (After : Result U Refusal → Type 0) (before now : Option (List Request)) (wants : List Want) (refusal : Refusal) (found : Result T Refusal) (answer : Result U Refusal) → found ≡ Err refusal → answer ≡ Err refusal → Asks IsOk before now wants found → Asks After before now wants answer
fails_asks After before now wants refusal found answer is e p =
    seen_so before now (λ a. Asked IsOk wants a found) (λ a. Asked After wants a answer) p (λ a u. fails_asked is e u)

-- what was read is refused, so that no more is asked for
pub refused_asks : {T U : Type 0} (First : Result T Refusal → Type 0) (After : Result U Refusal → Type 0) (before now : Option (List Request)) (wants : List Want) (want : Want) (more : List Want) (x : T) (found : Result T Refusal) (answer : Result U Refusal) → found ≡ Ok x → IsRefusedElsewhere answer → Asks First before now wants found → Asks After before now (wants ++ want ∷ more) answer
refused_asks First After before now wants want more x found answer is r p =
    then_asks First After before now now wants (want ∷ more) x found answer is p (none_asked now (λ a. Asked After (want ∷ more) a answer) (refused r))

-- ---- one request

pub read_well : {T : Type 0} (After : Result T Refusal → Type 0) (before now : Option (List Request)) (name : List ℕ) (result : Result (Unit {0}) FileError) (answer : Result T Refusal) → result ≡ Ok tt → After answer → Requested before now (ReadOf name (failed_in result)) → Asks After before now (Read name ∷ []) answer
read_well After before now name result answer is ok r =
    one_asked before now (ReadOf name (failed_in result)) (λ a. Asked After (Read name ∷ []) a answer) r (went refl (ap failed_in is) (all_went ok))

pub failed_read : {T : Type 0} (After : Result T Refusal → Type 0) (before now : Option (List Request)) (name : List ℕ) (error : FileError) (result : Result (Unit {0}) FileError) (answer : Result T Refusal) → result ≡ Err error → answer ≡ Err (of_files error) → Requested before now (ReadOf name (failed_in result)) → Asks After before now (Read name ∷ []) answer
failed_read After before now name error result answer is e r =
    one_asked before now (ReadOf name (failed_in result)) (λ a. Asked After (Read name ∷ []) a answer) r (failed error refl (ap failed_in is) e)

pub written_well : {T : Type 0} (After : Result T Refusal → Type 0) (before now : Option (List Request)) (name bytes : List ℕ) (result : Result (Unit {0}) FileError) (answer : Result T Refusal) → result ≡ Ok tt → After answer → Requested before now (WriteOf name bytes (failed_in result)) → Asks After before now (Write name ∷ []) answer
written_well After before now name bytes result answer is ok r =
    one_asked before now (WriteOf name bytes (failed_in result)) (λ a. Asked After (Write name ∷ []) a answer) r (went refl (ap failed_in is) (all_went ok))

pub failed_write : {T : Type 0} (After : Result T Refusal → Type 0) (before now : Option (List Request)) (name bytes : List ℕ) (error : FileError) (result : Result (Unit {0}) FileError) (answer : Result T Refusal) → result ≡ Err error → answer ≡ Err (of_files error) → Requested before now (WriteOf name bytes (failed_in result)) → Asks After before now (Write name ∷ []) answer
failed_write After before now name bytes error result answer is e r =
    one_asked before now (WriteOf name bytes (failed_in result)) (λ a. Asked After (Write name ∷ []) a answer) r (failed error refl (ap failed_in is) e)

-- ---- calls that may be refused in between

pub nothing_asks : {T : Type 0} (now : Option (List Request)) (wants : List Want) (refusal : Refusal) (answer : Result T Refusal) → IsElsewhere refusal → answer ≡ Err refusal → Asks IsNotOfFiles now now wants answer
nothing_asks now wants refusal answer r e = none_asked now (λ a. Asked IsNotOfFiles wants a answer) (nothing_asked wants r e)

pub stops_anywhere : {T U : Type 0} (before now : Option (List Request)) (wants more : List Want) (refusal : Refusal) (found : Result T Refusal) (answer : Result U Refusal) → found ≡ Err refusal → answer ≡ Err refusal → Asks IsNotOfFiles before now wants found → Asks IsNotOfFiles before now (wants ++ more) answer
stops_anywhere before now wants more refusal found answer is e p =
    seen_so before now (λ a. Asked IsNotOfFiles wants a found) (λ a. Asked IsNotOfFiles (wants ++ more) a answer) p (λ a u. stopped_anywhere more is e u)

pub fails_anyhow : {T U : Type 0} (before now : Option (List Request)) (wants : List Want) (refusal : Refusal) (found : Result T Refusal) (answer : Result U Refusal) → found ≡ Err refusal → answer ≡ Err refusal → Asks IsNotOfFiles before now wants found → Asks IsNotOfFiles before now wants answer
fails_anyhow before now wants refusal found answer is e p =
    seen_so before now (λ a. Asked IsNotOfFiles wants a found) (λ a. Asked IsNotOfFiles wants a answer) p (λ a u. fails_anywhere is e u)
