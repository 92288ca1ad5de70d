-- Reads and writes that are done in a memory are done alike where it has other pages too.
use Rattle.std.proofs.Common.{◌≡◌, ℕ, zero, suc, ◌+◌, ◌*◌, ◌/◌, ◌%◌, Bool, true, false, cond, [], ◌∷◌, Option, Some, None, Ok, refl, sym, ap, ap₂, ◌∙◌, subst}
use Rattle.std.specs.Prelude.{is_some, nat_eq, nat_lt, option_map, unwrap_or}
use Rattle.std.proofs.lemmas.Bool.{cond-true, cond-false}
use Rattle.std.proofs.lemmas.List.Elements.{All-weaker}
use Rattle.guest_types.specs.Memory.{Page, Memory, page_at, put_byte, with_byte, put_number, byte_of, byte_or_zero, number_at, next_address, first_fault, can_read, can_write, may_write, loaded, stored, merged_before, merged, DoNotMeet}
use Rattle.guest_types.proofs.Writes.{after_write, page_at-put_byte, can_write-put_byte}
use Rattle.guest_types.proofs.Stores.{first_fault-ext, stored-Ok, stored-done, loaded-Ok, loaded-done}
use Rattle.guest_types.proofs.Merges.{page_at-merged_right, page_at-apart}

-- ---- tests of addresses

-- the first address passes, and no later one fails
first_byte_passes : (test : ℕ → Bool) (a n : ℕ) → first_fault test a (suc n) ≡ None → (test a ≡ true) × (first_fault test (next_address a) n ≡ None)
first_byte_passes test a n e = go (test a) e
  where
    go : (t : Bool) → cond t (first_fault test (next_address a) n) (Some a) ≡ None → (t ≡ true) × (first_fault test (next_address a) n ≡ None)
    go true e = (refl, e)
    go false e = absurd cc

-- a test that holds wherever another does
weaker_test : (test other : ℕ → Bool) → ((c : ℕ) → test c ≡ true → other c ≡ true) → (a n : ℕ) → first_fault test a n ≡ None → first_fault other a n ≡ None
weaker_test test other h a zero e = refl
weaker_test test other h a (suc n) e =
    let p = first_byte_passes test a n e in
    cond-true _ _ _ (h a p.0) ∙ weaker_test test other h (next_address a) n p.1

module _ (others : Memory) where
  -- ---- pages

  readable : (memory : Memory) → DoNotMeet others memory → (c : ℕ) → can_read memory c ≡ true → can_read (merged others memory) c ≡ true
  readable memory apart c = go (page_at memory (c / 4096)) refl
    where
      go : (o : Option Page) → page_at memory (c / 4096) ≡ o → is_some o ≡ true → can_read (merged others memory) c ≡ true
      go None e h = absurd cc
      go (Some p) e h = ap is_some (page_at-merged_right others memory (c / 4096) p apart e)

  writable : (memory : Memory) → DoNotMeet others memory → (c : ℕ) → can_write memory c ≡ true → can_write (merged others memory) c ≡ true
  writable memory apart c = go (page_at memory (c / 4096)) refl
    where
      go : (o : Option Page) → page_at memory (c / 4096) ≡ o → may_write o ≡ true → can_write (merged others memory) c ≡ true
      go None e h = absurd cc
      go (Some p) e h = ap may_write (page_at-merged_right others memory (c / 4096) p apart e) ∙ h

  -- a page that may be written is none of the others
  not_other : (memory : Memory) → DoNotMeet others memory → (c : ℕ) → can_write memory c ≡ true → page_at others (c / 4096) ≡ None
  not_other memory apart c = go (page_at memory (c / 4096)) refl
    where
      go : (o : Option Page) → page_at memory (c / 4096) ≡ o → may_write o ≡ true → page_at others (c / 4096) ≡ None
      go None e h = absurd cc
      go (Some p) e h = page_at-apart others memory (c / 4096) p apart e

  -- ---- reads

  byte-merged : (memory : Memory) → DoNotMeet others memory → (c : ℕ) → can_read memory c ≡ true → byte_or_zero (merged others memory) c ≡ byte_or_zero memory c
  byte-merged memory apart c = go (page_at memory (c / 4096)) refl
    where
      go : (o : Option Page) → page_at memory (c / 4096) ≡ o → is_some o ≡ true → byte_or_zero (merged others memory) c ≡ unwrap_or (option_map (λ page. byte_of page c) o) 0
      go None e h = absurd cc
      go (Some p) e h = ap (λ o. unwrap_or (option_map (λ page. byte_of page c) o) 0) (page_at-merged_right others memory (c / 4096) p apart e)

  number-merged : (memory : Memory) → DoNotMeet others memory → (a n : ℕ) → first_fault (can_read memory) a n ≡ None → number_at (merged others memory) a n ≡ number_at memory a n
  number-merged memory apart a zero e = refl
  number-merged memory apart a (suc n) e =
      let p = first_byte_passes (can_read memory) a n e in
      ap₂ (λ b rest. b + 256 * rest) (byte-merged memory apart a p.0) (number-merged memory apart (next_address a) n p.1)

  pub loaded-merged : (memory : Memory) → DoNotMeet others memory → (a n v : ℕ) → loaded memory a n ≡ Ok v → loaded (merged others memory) a n ≡ Ok v
  loaded-merged memory apart a n v e =
      let is = loaded-Ok memory a n v e in
      loaded-done (merged others memory) a n (weaker_test (can_read memory) (can_read (merged others memory)) (readable memory apart) a n is.0)
      ∙ ap Ok (number-merged memory apart a n is.0 ∙ sym is.1)

-- ---- a byte written

-- in what is left of a memory after a page
put_before : (p : Page) (rest : Memory → Memory) (a b : ℕ) (memory : Memory) → nat_eq p.page (a / 4096) ≡ false → ((m : Memory) → put_byte (rest m) a b ≡ rest (put_byte m a b))
    → put_byte (merged_before p rest memory) a b ≡ merged_before p rest (put_byte memory a b)
put_before p rest a b [] other h = cond-false _ _ _ other ∙ ap (λ m. p ∷ m) (h [])
put_before p rest a b (q ∷ qs) other h = go (nat_lt q.page p.page) (nat_eq q.page (a / 4096)) refl refl (put_before p rest a b qs other h) (h (q ∷ qs))
  where
    go : (below here : Bool) → nat_lt q.page p.page ≡ below → nat_eq q.page (a / 4096) ≡ here → put_byte (merged_before p rest qs) a b ≡ merged_before p rest (put_byte qs a b)
        → put_byte (rest (q ∷ qs)) a b ≡ rest (cond here (with_byte q a b ∷ qs) (q ∷ put_byte qs a b))
        → put_byte (cond below (q ∷ merged_before p rest qs) (p ∷ rest (q ∷ qs))) a b ≡ merged_before p rest (cond here (with_byte q a b ∷ qs) (q ∷ put_byte qs a b))
    go true true e f more next = cond-true _ _ _ f ∙ sym (cond-true _ _ _ e)
    go true false e f more next = cond-false _ _ _ f ∙ ap (λ m. q ∷ m) more ∙ sym (cond-true _ _ _ e)
    go false true e f more next = cond-false _ _ _ other ∙ ap (λ m. p ∷ m) next ∙ sym (cond-false _ _ _ e)
    go false false e f more next = cond-false _ _ _ other ∙ ap (λ m. p ∷ m) next ∙ sym (cond-false _ _ _ e)

put_byte-merged : (others memory : Memory) (a b : ℕ) → page_at others (a / 4096) ≡ None → put_byte (merged others memory) a b ≡ merged others (put_byte memory a b)
put_byte-merged [] memory a b absent = refl
put_byte-merged (p ∷ ps) memory a b absent = go (nat_eq p.page (a / 4096)) refl absent (λ none m. put_byte-merged ps m a b none)
  where
    go : (here : Bool) → nat_eq p.page (a / 4096) ≡ here → cond here (Some p) (page_at ps (a / 4096)) ≡ None → (page_at ps (a / 4096) ≡ None → (m : Memory) → put_byte (merged ps m) a b ≡ merged ps (put_byte m a b))
        → put_byte (merged_before p (merged ps) memory) a b ≡ merged_before p (merged ps) (put_byte memory a b)
    go true e none h = absurd cc
    go false e none h = put_before p (merged ps) a b memory e (h none)

apart-put_byte : (others memory : Memory) (a b : ℕ) → DoNotMeet others memory → DoNotMeet others (put_byte memory a b)
apart-put_byte others memory a b apart =
    All-weaker (λ (page : Page). page_at memory page.page ≡ None) (λ (page : Page). page_at (put_byte memory a b) page.page ≡ None)
    (λ page none. page_at-put_byte memory a b page.page ∙ ap (option_map (after_write a b page.page)) none) others apart

-- ---- writes

apart-put_number : (others : Memory) (n a v : ℕ) (memory : Memory) → DoNotMeet others memory → DoNotMeet others (put_number memory a n v)
apart-put_number others zero a v memory apart = apart
apart-put_number others (suc n) a v memory apart =
    apart-put_number others n (next_address a) (v / 256) (put_byte memory a (v % 256)) (apart-put_byte others memory a (v % 256) apart)

put_number-merged : (others : Memory) (n a v : ℕ) (memory : Memory) → DoNotMeet others memory → first_fault (can_write memory) a n ≡ None → put_number (merged others memory) a n v ≡ merged others (put_number memory a n v)
put_number-merged others zero a v memory apart e = refl
put_number-merged others (suc n) a v memory apart e =
    let p = first_byte_passes (can_write memory) a n e in
    let next = put_byte memory a (v % 256) in
    ap (λ m. put_number m (next_address a) n (v / 256)) (put_byte-merged others memory a (v % 256) (not_other others memory apart a p.0))
    ∙ put_number-merged others n (next_address a) (v / 256) next (apart-put_byte others memory a (v % 256) apart)
    (first_fault-ext (can_write next) (can_write memory) (next_address a) n (can_write-put_byte memory a (v % 256)) ∙ p.1)

pub stored-merged : (others memory m : Memory) (a n v : ℕ) → DoNotMeet others memory → stored memory a n v ≡ Ok m → stored (merged others memory) a n v ≡ Ok (merged others m)
stored-merged others memory m a n v apart e =
    let is = stored-Ok memory m a n v e in
    stored-done (merged others memory) a n v (weaker_test (can_write memory) (can_write (merged others memory)) (writable others memory apart) a n is.0)
    ∙ ap Ok (put_number-merged others n a v memory apart is.0 ∙ ap (merged others) (sym is.1))

pub apart-stored : (others memory m : Memory) (a n v : ℕ) → DoNotMeet others memory → stored memory a n v ≡ Ok m → DoNotMeet others m
apart-stored others memory m a n v apart e = subst (DoNotMeet others) (sym (stored-Ok memory m a n v e).1) (apart-put_number others n a v memory apart)
