-- The accesses of a loop: what a test of one says of all, that its offset is near, and between the least and the greatest of its
-- parameter's.
use Rattle.std.proofs.Common.{◌≡◌, ℕ, ◌≤◌, Bool, true, false, cond, List, [], ◌∷◌, Option, Some, None, ◌⊎◌, inl, inr, refl, sym, ap, ◌∙◌, subst, arith}
use Rattle.std.proofs.lemmas.Bool.{eq-eqb}
use Rattle.std.proofs.lemmas.Int.{ints, clamps}
use Rattle.std.specs.Prelude.{ℤ, filter_map, unsigned_abs, nat_eq, ◌||◌, ◌≤ℤ◌}
use Rattle.std.specs.List.{list_any, fold, cons_option}
use Rattle.std.specs.Int.{int_min, int_max}
use Rattle.kernel_tree.specs.Plain.{Program}
use Rattle.kernel_tree.specs.Items.{stream_offset, loop_index}
use Rattle.kernel_tree.specs.Limits.{most_offset}
use Rattle.loop_form.specs.declared.stream.Stream.{Stream}
use Rattle.loop_form.specs.Entries.{Content, IsLiteral, IsName, IsRead, IsLet, IsStore, IsUpdate, IsPlain, Entry}
use Rattle.loop_form.specs.Near.{AreNear, HasNear, IsNear}
use Rattle.loop_form.specs.Streams.{place_of, access, access_of, stream_of, In, is_of, offsets_of, least_offset, greatest_offset}

any_next : {A : Type 0} (test : A → Bool) (x : A) (xs : List A) → list_any test xs ≡ true → list_any test (x ∷ xs) ≡ true
any_next test x xs h = by_test (test x)
  where
    by_test : (b : Bool) → b || list_any test xs ≡ true
    by_test true = refl
    by_test false = h

list_any_of_head : {A : Type 0} (test : A → Bool) (x : A) (xs : List A) → test x ≡ true → list_any test (x ∷ xs) ≡ true
list_any_of_head test x xs h = ap (λ b. b || list_any test xs) h

pub in_any : (test : Stream → Bool) (s : Stream) (ss : List Stream) → In s ss → test s ≡ true → list_any test ss ≡ true
in_any test s [] h e = elim h [ ]
in_any test s (t ∷ ts) (inl same) e = list_any_of_head test t ts (ap test same ∙ e)
in_any test s (t ∷ ts) (inr h) e = any_next test t ts (in_any test s ts h e)

-- ---- offsets

abbrev InList : ℤ → List ℤ → Type 0
InList c [] = ⊥
InList c (d ∷ ds) = (d ≡ c) ⊎ InList c ds

fold_min-first : (a : ℤ) (xs : List ℤ) → fold int_min a xs ≤ℤ a
fold_min-first a [] = omega (arith, ints)
fold_min-first a (x ∷ xs) = let h : fold int_min (int_min a x) xs ≤ℤ int_min a x = fold_min-first (int_min a x) xs in omega (arith, ints, clamps)

fold_min-each : (a c : ℤ) (xs : List ℤ) → InList c xs → fold int_min a xs ≤ℤ c
fold_min-each a c [] h = elim h [ ]
fold_min-each a c (x ∷ xs) (inl e) = let h : fold int_min (int_min a x) xs ≤ℤ int_min a x = fold_min-first (int_min a x) xs in omega (arith, ints, clamps)
fold_min-each a c (x ∷ xs) (inr h) = fold_min-each (int_min a x) c xs h

fold_max-first : (a : ℤ) (xs : List ℤ) → a ≤ℤ fold int_max a xs
fold_max-first a [] = omega (arith, ints)
fold_max-first a (x ∷ xs) = let h : int_max a x ≤ℤ fold int_max (int_max a x) xs = fold_max-first (int_max a x) xs in omega (arith, ints, clamps)

fold_max-each : (a c : ℤ) (xs : List ℤ) → InList c xs → c ≤ℤ fold int_max a xs
fold_max-each a c [] h = elim h [ ]
fold_max-each a c (x ∷ xs) (inl e) = let h : int_max a x ≤ℤ fold int_max (int_max a x) xs = fold_max-first (int_max a x) xs in omega (arith, ints, clamps)
fold_max-each a c (x ∷ xs) (inr h) = fold_max-each (int_max a x) c xs h

between : (c : ℤ) (cs : List ℤ) → InList c cs → (least_offset cs ≤ℤ c) × (c ≤ℤ greatest_offset cs)
between c [] h = elim h [ ]
between c (d ∷ ds) (inl e) = (subst (λ c. fold int_min d ds ≤ℤ c) e (fold_min-first d ds), subst (λ c. c ≤ℤ fold int_max d ds) e (fold_max-first d ds))
between c (d ∷ ds) (inr h) = (fold_min-each d c ds h, fold_max-each d c ds h)

offset_in : (p : ℕ) (s : Stream) (ss : List Stream) → s.param ≡ p → In s ss → InList s.offset (offsets_of p ss)
offset_in p s [] e h = elim h [ ]
offset_in p s (t ∷ ts) e (inl same) =
    let here : is_of p t ≡ true = ap (λ (s : Stream). nat_eq s.param p) same ∙ eq-eqb s.param p e in
    subst (λ b. InList s.offset (cond b (t.offset ∷ offsets_of p ts) (offsets_of p ts))) (sym here) (inl (ap (λ (s : Stream). s.offset) same))
offset_in p s (t ∷ ts) e (inr h) = by_test (is_of p t) (offset_in p s ts e h)
  where
    by_test : (b : Bool) → InList s.offset (offsets_of p ts) → InList s.offset (cond b (t.offset ∷ offsets_of p ts) (offsets_of p ts))
    by_test true h = inr h
    by_test false h = h

-- the offset of an access is between the least and the greatest of its parameter's
pub in_between : (s : Stream) (ss : List Stream) → In s ss → (least_offset (offsets_of s.param ss) ≤ℤ s.offset) × (s.offset ≤ℤ greatest_offset (offsets_of s.param ss))
in_between s ss h = between s.offset (offsets_of s.param ss) (offset_in s.param s ss refl h)

-- ---- near offsets

abbrev pub NearStream : Stream → Type 0
NearStream s = unsigned_abs s.offset ≤ most_offset

abbrev pub NearStreams : List Stream → Type 0
NearStreams [] = Unit {0}
NearStreams (s ∷ ss) = NearStream s × NearStreams ss

abbrev NearOption : Option Stream → Type 0
NearOption None = Unit {0}
NearOption (Some s) = NearStream s

access-near : (o : Option ℕ) (c : Option ℤ) (b : Bool) (item : ℕ) → IsNear c → NearOption (access o c b item)
access-near None c b item h = tt
access-near (Some n) None b item h = tt
access-near (Some n) (Some c) b item h = h

content-near : (k : Program) (c : Content) (item : ℕ) → HasNear (loop_index k) c → NearOption (access_of k c item)
content-near k (IsLiteral n) item h = tt
content-near k (IsName x) item h = tt
content-near k (IsRead a e) item h = access-near (place_of a k.params) (stream_offset (loop_index k) e) false item h
content-near k (IsLet x) item h = tt
content-near k (IsStore a e) item h = access-near (place_of a k.params) (stream_offset (loop_index k) e) true item h
content-near k (IsUpdate x op) item h = tt
content-near k (IsPlain t) item h = tt

joined-near : (o : Option Stream) (ss : List Stream) → NearOption o → NearStreams ss → NearStreams (cons_option o ss)
joined-near None ss h k = k
joined-near (Some s) ss h k = (h, k)

pub streams-near : (k : Program) (es : List Entry) → AreNear (loop_index k) es → NearStreams (filter_map (stream_of k) es)
streams-near k [] h = tt
streams-near k (e ∷ es) h = joined-near (stream_of k e) (filter_map (stream_of k) es) (content-near k e.content e.item h.0) (streams-near k es h.1)

near_in : (s : Stream) (ss : List Stream) → NearStreams ss → In s ss → NearStream s
near_in s [] h i = elim i [ ]
near_in s (t ∷ ts) h (inl e) = subst NearStream e h.0
near_in s (t ∷ ts) h (inr i) = near_in s ts h.1 i

pub near_streams : (k : Program) (es : List Entry) (s : Stream) → AreNear (loop_index k) es → In s (filter_map (stream_of k) es) → NearStream s
near_streams k es s near i = near_in s (filter_map (stream_of k) es) (streams-near k es near) i
