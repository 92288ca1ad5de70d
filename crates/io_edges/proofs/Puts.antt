-- One put after others.
use Rattle.std.proofs.Common.{◌≡◌, ℕ, ◌+◌, ◌-◌, ◌≤◌, List, [], ◌∷◌, ◌++◌, take, drop, length, get_or, Option, Some, None, Result, Ok, Err, Bor, refl, sym, ap, ◌∙◌, subst, arith, append_assoc, append-nil, length-append}
use Rattle.std.specs.Prelude.{IfSome, OnOk}
use Rattle.std.proofs.Math.Seq.{take-add, take-append-add, take-length}
use Rattle.std.proofs.lemmas.List.{take-append-le}
use Rattle.io_edges.specs.declared.sink.Failed.{Failed}
use Rattle.io_edges.specs.Files.{Rose}
use Rattle.io_edges.specs.Sink.{Puts, HasCause, GainsPart, PutsText, text_in}

pub puts_more : (t0 t1 t2 : Option (List ℕ)) (bytes : List ℕ) (at n : ℕ) → IfSome t0 (λ old. t1 ≡ Some (old ++ take at bytes)) → Puts t1 t2 (drop at bytes) (Ok n) → IfSome t0 (λ old. t2 ≡ Some (old ++ take (at + n) bytes))
puts_more None t1 t2 bytes at n h p = tt
puts_more (Some old) t1 t2 bytes at n h p =
    subst (λ t. Puts t t2 (drop at bytes) (Ok n)) h p
    ∙ ap Some (append_assoc old (take at bytes) (take n (drop at bytes)) ∙ ap (λ l. old ++ l) (sym (take-add at n bytes)))

-- a sink that tells nothing goes on to tell nothing
pub puts_untold : (t1 t2 : Option (List ℕ)) (bytes : List ℕ) (result : Result ℕ Failed) → t1 ≡ None → Puts t1 t2 bytes result → t2 ≡ None
puts_untold t1 t2 bytes result h p = subst (λ t. Puts t t2 bytes result) h p

-- ---- texts

-- a text of which nothing was put, and nothing of an empty text
pub part_none : (bytes text : List ℕ) → GainsPart bytes (Some bytes) text
part_none bytes text = (0, omega arith, ap Some (sym (append-nil bytes)))

pub puts_nothing : (old : Option (List ℕ)) (n : ℕ) → PutsText {T = Unit {0}} old old n n [] (Ok tt)
puts_nothing None n = record { all = tt; part = tt; untold = λ e. e; cause = record { later = omega arith; failed = tt } }
puts_nothing (Some bytes) n = record {
  all = ap Some (sym (append-nil bytes));
  part = part_none bytes [];
  untold = λ e. e;
  cause = record { later = omega arith; failed = tt };
}

both_gained : (bytes x y : List ℕ) (mid new : Option (List ℕ)) → mid ≡ Some (bytes ++ x) → IfSome mid (λ b. new ≡ Some (b ++ y)) → new ≡ Some (bytes ++ (x ++ y))
both_gained bytes x y mid new is h = (subst (λ m. IfSome m (λ b. new ≡ Some (b ++ y))) is h) ∙ ap Some (append_assoc bytes x y)

joined_part : (bytes x y : List ℕ) (mid new : Option (List ℕ)) → mid ≡ Some (bytes ++ x) → IfSome mid (λ b. GainsPart b new y) → GainsPart bytes new (x ++ y)
joined_part bytes x y mid new is h =
    let p : GainsPart (bytes ++ x) new y = subst (λ m. IfSome m (λ b. GainsPart b new y)) is h in
    let most : length x + p.0 ≤ length (x ++ y) = omega (arith, p.1, length-append x y) in
    (length x + p.0, most, p.2 ∙ ap Some (append_assoc bytes x (take p.0 y) ∙ ap (λ t. bytes ++ t) (sym (take-append-add x y p.0))))

part_more : (bytes x y : List ℕ) (new : Option (List ℕ)) → GainsPart bytes new x → GainsPart bytes new (x ++ y)
part_more bytes x y new p =
    let most : p.0 ≤ length (x ++ y) = omega (arith, p.1, length-append x y) in
    (p.0, most, p.2 ∙ ap (λ t. Some (bytes ++ t)) (sym (take-append-le p.0 x y p.1)))

pub later_rose : (a b c : ℕ) → a ≤ b → Rose b c → Rose a c
later_rose a b c h r = omega arith

causes : (a b c : ℕ) (result : Result (Unit {0}) Failed) → a ≤ b → HasCause b c result → HasCause a c result
causes a b c (Ok done) h cause = record { later = omega (arith, cause.later); failed = tt }
causes a b c (Err failed) h cause = record { later = omega (arith, cause.later); failed = later_rose a b c h cause.failed }

-- a text, and then another
pub puts_then : (old mid new : Option (List ℕ)) (a b c : ℕ) (x y : List ℕ) (first result : Result (Unit {0}) Failed) → first ≡ Ok tt → PutsText old mid a b x first → PutsText mid new b c y result → PutsText old new a c (x ++ y) result
puts_then None mid new a b c x y first result is p q = record {
  all = none result;
  part = tt;
  untold = λ e. q.untold (p.untold refl);
  cause = causes a b c result p.cause.later q.cause;
}
  where
    none : (r : Result (Unit {0}) Failed) → OnOk r (Unit {0})
    none (Ok done) = tt
    none (Err failed) = tt
puts_then (Some bytes) mid new a b c x y first result is p q =
    let whole : mid ≡ Some (bytes ++ x) = subst (λ r. OnOk r (mid ≡ Some (bytes ++ x))) is p.all in
    record {
      all = by result q.all whole;
      part = joined_part bytes x y mid new whole q.part;
      untold = λ e. absurd cc;
      cause = causes a b c result p.cause.later q.cause;
    }
  where
    by : (r : Result (Unit {0}) Failed) → OnOk r (IfSome mid (λ b. new ≡ Some (b ++ y))) → mid ≡ Some (bytes ++ x) → OnOk r (new ≡ Some (bytes ++ (x ++ y)))
    by (Ok done) h whole = both_gained bytes x y mid new whole h
    by (Err failed) h whole = tt

-- a text at which the output failed, and so nothing of another
pub puts_cut : {T : Type 0} (old new : Option (List ℕ)) (a b : ℕ) (x y : List ℕ) (first : Result (Unit {0}) Failed) (failed : Failed) → first ≡ Err failed → PutsText old new a b x first → PutsText {T = T} old new a b (x ++ y) (Err failed)
puts_cut {T = T} None new a b x y first failed is p =
    let cause : HasCause {T = Unit {0}} a b (Err failed) = subst (HasCause a b) is p.cause in
    record { all = tt; part = tt; untold = p.untold; cause = record { later = cause.later; failed = cause.failed } }
puts_cut {T = T} (Some bytes) new a b x y first failed is p =
    let cause : HasCause {T = Unit {0}} a b (Err failed) = subst (HasCause a b) is p.cause in
    record { all = tt; part = part_more bytes x y new p.part; untold = p.untold; cause = record { later = cause.later; failed = cause.failed } }

-- parts are the first of them, and then the others
pub parts_cons : (parts : List (Bor (List ℕ))) (d : Bor (List ℕ)) → 1 ≤ length parts → (get_or parts 0 d).now ++ text_in (take (length parts - 1) (drop 1 parts)) ≡ text_in parts
parts_cons [] d h = absurd (omega arith)
parts_cons (x ∷ xs) d h =
    let count : length (x ∷ xs) - 1 ≡ length xs = omega arith in
    ap (λ t. x.now ++ text_in t) (ap (λ n. take n xs) count ∙ take-length xs)

-- a text that was put, under another name
pub put_as : {T : Type 0} (old new : Option (List ℕ)) (a b : ℕ) (text line : List ℕ) (result : Result T Failed) → text ≡ line → PutsText old new a b text result → PutsText old new a b line result
put_as old new a b text line result e p = subst (λ t. PutsText old new a b t result) e p
