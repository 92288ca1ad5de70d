-- A frame in pages that a kernel's run does without is none of its memory.
use Rattle.std.proofs.Common.{◌≡◌, ◌≢◌, ℕ, zero, suc, ◌+◌, ◌-◌, ◌*◌, ◌/◌, ◌%◌, ◌^◌, ◌<◌, ◌≤◌, Bool, true, false, cond, List, [], ◌∷◌, Option, Some, None, refl, sym, ap, ◌∙◌, subst, arith}
use Rattle.std.specs.Prelude.{All, is_some, nat_eq, nat_lt, if◌then◌else◌}
use Rattle.std.proofs.lemmas.Bool.{cond-true, cond-false, eqb-true, eqb-false}
use Rattle.std.proofs.lemmas.List.Elements.{All-nil, All-cons, All-head, All-tail}
use Rattle.guest_types.specs.Memory.{Page, Memory, DoNotMeet, can_read, merged, merged_before, next_address, page_at, put_byte, put_number, with_byte}
use Rattle.guest_types.proofs.Writes.{All-page_at, can_read-put_byte, page_at-number}
use Rattle.machine_model.specs.Machine.{State}
use Rattle.kernel_tree.specs.Plain.{Program}
use Rattle.kernel_meaning.specs.ScalarRun.{End, scalar_run}
use Rattle.promises.specs.Saved.{Saved, doublewords, frame_size}
use Rattle.meaning_frame.specs.Accesses.{run_with}
use Rattle.promises.specs.Function.{arguments, InFrame, with_frame, IsUntouched}
use Rattle.kernel_call.specs.Untouched.{IsElsewhere}

-- ---- a byte in one of two memories

-- no page of a memory has this number
none_first : (o : Page) (os : Memory) (n : ℕ) → page_at (o ∷ os) n ≡ None → (nat_eq o.page n ≡ false) × (page_at os n ≡ None)
none_first o os n h = by (nat_eq o.page n) refl h
  where
    by : (t : Bool) → nat_eq o.page n ≡ t → page_at (o ∷ os) n ≡ None → (nat_eq o.page n ≡ false) × (page_at os n ≡ None)
    by true e k = let found : Some o ≡ None = sym (cond-true _ _ _ e) ∙ k in absurd cc
    by false e k = (e, sym (cond-false _ _ _ e) ∙ k)

-- in the page itself, wherever it comes to stand
put_here : (p : Page) (rest : Memory → Memory) (os : Memory) (a b : ℕ) → nat_eq p.page (a / 4096) ≡ true → page_at os (a / 4096) ≡ None → put_byte (merged_before p rest os) a b ≡ merged_before (with_byte p a b) rest os
put_here p rest [] a b e none = cond-true _ _ _ e
put_here p rest (o ∷ os) a b e none = let off = none_first o os (a / 4096) none in by (nat_lt o.page p.page) off.0 (put_here p rest os a b e off.1)
  where
    by : (t : Bool) → nat_eq o.page (a / 4096) ≡ false → put_byte (merged_before p rest os) a b ≡ merged_before (with_byte p a b) rest os → put_byte (cond t (o ∷ merged_before p rest os) (p ∷ rest (o ∷ os))) a b ≡ cond t (o ∷ merged_before (with_byte p a b) rest os) (with_byte p a b ∷ rest (o ∷ os))
    by true f more = cond-false _ _ _ f ∙ ap (λ m. o ∷ m) more
    by false f more = cond-true _ _ _ e

-- behind it
put_behind : (p : Page) (rest more : Memory → Memory) (os : Memory) (a b : ℕ) → nat_eq p.page (a / 4096) ≡ false → page_at os (a / 4096) ≡ None → ((qs : Memory) → page_at qs (a / 4096) ≡ None → put_byte (rest qs) a b ≡ more qs) → put_byte (merged_before p rest os) a b ≡ merged_before p more os
put_behind p rest more [] a b e none on = cond-false _ _ _ e ∙ ap (λ m. p ∷ m) (on [] refl)
put_behind p rest more (o ∷ os) a b e none on = let off = none_first o os (a / 4096) none in by (nat_lt o.page p.page) off.0 (put_behind p rest more os a b e off.1 on)
  where
    by : (t : Bool) → nat_eq o.page (a / 4096) ≡ false → put_byte (merged_before p rest os) a b ≡ merged_before p more os → put_byte (cond t (o ∷ merged_before p rest os) (p ∷ rest (o ∷ os))) a b ≡ cond t (o ∷ merged_before p more os) (p ∷ more (o ∷ os))
    by true f further = cond-false _ _ _ f ∙ ap (λ m. o ∷ m) further
    by false f further = cond-false _ _ _ e ∙ ap (λ m. p ∷ m) (on (o ∷ os) none)

put_merged : (ps os : Memory) (a b : ℕ) → is_some (page_at ps (a / 4096)) ≡ true → page_at os (a / 4096) ≡ None → put_byte (merged ps os) a b ≡ merged (put_byte ps a b) os
put_merged [] os a b found none = absurd cc
put_merged (p ∷ ps) os a b found none = by (nat_eq p.page (a / 4096)) refl (λ inside qs off. put_merged ps qs a b inside off)
  where
    by : (t : Bool) → nat_eq p.page (a / 4096) ≡ t → (is_some (page_at ps (a / 4096)) ≡ true → (qs : Memory) → page_at qs (a / 4096) ≡ None → put_byte (merged ps qs) a b ≡ merged (put_byte ps a b) qs) → put_byte (merged (p ∷ ps) os) a b ≡ merged (cond t (with_byte p a b ∷ ps) (p ∷ put_byte ps a b)) os
    by true e more = put_here p (merged ps) os a b e none
    by false e more =
        let inside : is_some (page_at ps (a / 4096)) ≡ true = ap is_some (sym (cond-false _ _ _ e)) ∙ found in
        put_behind p (merged ps) (merged (put_byte ps a b)) os a b e none (λ qs off. more inside qs off)

-- ---- a number

-- what is mapped in the one is not in the other
abbrev Clear : Memory → ℕ → ℕ → Type 0
Clear os a n = (x : ℕ) → a ≤ x → x < a + n → page_at os (x / 4096) ≡ None

number_merged : (n : ℕ) (ps os : Memory) (a v : ℕ) → a + n < 2 ^ 64 → ((x : ℕ) → a ≤ x → x < a + n → can_read ps x ≡ true) → Clear os a n → put_number (merged ps os) a n v ≡ merged (put_number ps a n v) os
number_merged zero ps os a v room there clear = refl
number_merged (suc n) ps os a v room there clear =
    let e : next_address a ≡ a + 1 = omega (arith, room) in
    ap (λ m. put_number m (next_address a) n (v / 256)) (put_merged ps os a (v % 256) (there a (omega arith) (omega arith)) (clear a (omega arith) (omega arith)))
    ∙ ap (λ c. put_number (merged (put_byte ps a (v % 256)) os) c n (v / 256)) e
    ∙ number_merged n (put_byte ps a (v % 256)) os (a + 1) (v / 256) (omega (arith, room)) (λ x from until. can_read-put_byte ps a (v % 256) x ∙ there x (omega (arith, from)) (omega (arith, until))) (λ x from until. clear x (omega (arith, from)) (omega (arith, until)))
    ∙ ap (λ c. merged (put_number (put_byte ps a (v % 256)) c n (v / 256)) os) (sym e)

-- pages keep their numbers
apart_put : (ps os : Memory) (a b : ℕ) → DoNotMeet ps os → DoNotMeet (put_byte ps a b) os
apart_put [] os a b h = h
apart_put (p ∷ ps) os a b h = by (nat_eq p.page (a / 4096)) (apart_put ps os a b (All-tail (λ page. page_at os page.page ≡ None) p ps h))
  where
    by : (t : Bool) → DoNotMeet (put_byte ps a b) os → DoNotMeet (cond t (with_byte p a b ∷ ps) (p ∷ put_byte ps a b)) os
    by true more = All-cons (λ page. page_at os page.page ≡ None) (with_byte p a b) ps (All-head (λ page. page_at os page.page ≡ None) p ps h) (All-tail (λ page. page_at os page.page ≡ None) p ps h)
    by false more = All-cons (λ page. page_at os page.page ≡ None) p (put_byte ps a b) (All-head (λ page. page_at os page.page ≡ None) p ps h) more

apart_number : (n : ℕ) (ps os : Memory) (a v : ℕ) → DoNotMeet ps os → DoNotMeet (put_number ps a n v) os
apart_number zero ps os a v h = h
apart_number (suc n) ps os a v h = apart_number n (put_byte ps a (v % 256)) os (next_address a) (v / 256) (apart_put ps os a (v % 256) h)

-- where a page of the one is, there is none of the other
clear_of : (ps os : Memory) (x : ℕ) → DoNotMeet ps os → can_read ps x ≡ true → page_at os (x / 4096) ≡ None
clear_of ps os x apart readable = by (page_at ps (x / 4096)) refl readable
  where
    by : (o : Option Page) → page_at ps (x / 4096) ≡ o → is_some o ≡ true → page_at os (x / 4096) ≡ None
    by None e h = absurd cc
    by (Some p) e h = subst (λ n. page_at os n ≡ None) (page_at-number ps (x / 4096) p e) (All-page_at (λ page. page_at os page.page ≡ None) ps (x / 4096) p apart e)

-- ---- the kernel's run

pub untouched : ((k : Program) (args : List ℕ) (memory others after : Memory) (result m : ℕ) → DoNotMeet others memory → scalar_run k args memory ≡ End after result m → scalar_run k args (merged others memory) ≡ End (merged others after) result m)
    → ((k : Program) (args : List ℕ) (memory others after : Memory) (result m : ℕ) → DoNotMeet others memory → scalar_run k args memory ≡ End after result m → DoNotMeet others after)
    → (v : Saved) (k : Program) (s : State) → 8 * doublewords v ≤ frame_size v → frame_size v ≤ s.sp → s.sp < 2 ^ 64 → IsElsewhere v k s → IsUntouched v k s
untouched same stays v k s fits room low h n =
    let args = arguments s in
    let foot = s.sp - frame_size v in
    let bytes = 8 * doublewords v in
    let there = λ (x : ℕ) (from : foot ≤ x) (until : x < foot + bytes). h.mapped x (omega (arith, room, from), omega (arith, room, until)) in
    let after_apart = stays k args h.pages h.frames h.after h.result h.count h.apart h.ends in
    let whole = same k args h.pages h.frames h.after h.result h.count h.apart h.ends in
    let changed = put_number h.frames foot bytes n in
    let first : with_frame v s n s.memory ≡ merged changed h.pages =
    ap (with_frame v s n) h.memory ∙ number_merged bytes h.frames h.pages foot n (omega (arith, room, low, fits)) there (λ x from until. clear_of h.frames h.pages x h.apart (there x from until)) in
    let last : with_frame v s n (merged h.frames h.after) ≡ merged changed h.after =
    number_merged bytes h.frames h.after foot n (omega (arith, room, low, fits)) there (λ x from until. clear_of h.frames h.after x after_apart (there x from until)) in
    ap (scalar_run k args) first
    ∙ same k args h.pages changed h.after h.result h.count (apart_number bytes h.frames h.pages foot n h.apart) h.ends
    ∙ ap (λ m. End m h.result h.count) (sym last)
    ∙ ap (run_with (with_frame v s n)) (sym whole ∙ ap (scalar_run k args) (sym h.memory))
