-- How many words a loop of passes takes: passes are counted against iterations, and against free elements that were suppressed;
-- and, whatever was suppressed, against iterations alone.
use Rattle.std.proofs.Common.{◌≡◌, ℕ, zero, suc, ◌+◌, ◌*◌, ◌<◌, ◌≤◌, Bool, true, false, List, [], ◌∷◌, sym, subst, arith, ⊎_elim}
use Rattle.std.specs.Prelude.{if◌then◌else◌}
use Rattle.std.specs.Int.{div_ceil}
use Rattle.std.proofs.lemmas.Bool.{cases_lt}
use Rattle.std.proofs.lemmas.Grind.{div_ceil_times}
use Rattle.std.proofs.Math.Nat.{mul-le-mul_left}
use Rattle.machine_model.specs.Machine.{State, Step, Went, Ended, Stopped, jump, next}
use Rattle.machine_model.specs.OneStep.{cuts_in}
use Rattle.close_bound.specs.CloseBound.{spare}
use Rattle.label_fix.specs.DraftRun.{DraftEntry, Put, Branch, Place, Laid, is_taken, effect, following, address_of}
use Rattle.label_fix.specs.Suppressions.{count_on, walk_cuts, cuts}

-- ---- the free elements of more words are no fewer

count_more : (o : Step) (b : Bool) (few many : State → ℕ) → ((s : State) → few s ≤ many s) → count_on o b few ≤ count_on o b many
count_more (Went t) b few many h = let k = h t in omega (arith, k)
count_more (Ended result) b few many h = omega arith
count_more (Stopped kind pc at memory) b few many h = omega arith

walk_more : (d : Laid) (few many : List DraftEntry → State → ℕ) (c : List DraftEntry) (s : State) → ((c : List DraftEntry) (s : State) → few c s ≤ many c s) → walk_cuts d few c s ≤ walk_cuts d many c s
walk_more d few many [] s h = omega arith
walk_more d few many (Put i ∷ rest) s h = count_more (effect i s) (cuts_in i s) (few rest) (many rest) (h rest)
walk_more d few many (Branch k l ∷ rest) s h = by_taken (is_taken k s)
  where
    by_taken : (b : Bool) → (if b then few (following d l) (jump s (address_of d l)) else few rest (next s)) ≤ (if b then many (following d l) (jump s (address_of d l)) else many rest (next s))
    by_taken true = h (following d l) (jump s (address_of d l))
    by_taken false = h rest (next s)
walk_more d few many (Place l ∷ rest) s h = walk_more d few many rest s h

pub cuts_more : (d : Laid) (n k : ℕ) (c : List DraftEntry) (s : State) → cuts d n c s ≤ cuts d (n + k) c s
cuts_more d zero k c s = omega arith
cuts_more d (suc n) k c s =
    let e : suc n + k ≡ suc (n + k) = omega arith in
    subst (λ m. cuts d (suc n) c s ≤ cuts d m c s) (sym e) (walk_more d (cuts d n) (cuts d (n + k)) c s (λ c s. cuts_more d n k c s))

-- ---- passes

-- passes that take no chunk of lanes on: of a loop with a break, whatever q free elements were suppressed
abbrev pub extra : (breaks : Bool) → (q : ℕ) → ℕ
extra b q = spare b * (1 + q)

extra_le : (b : Bool) (q r : ℕ) → q ≤ r → extra b q ≤ extra b r
extra_le true q r h = omega (arith, h)
extra_le false q r h = omega arith

-- two more for each element
extra_more : (b : Bool) (q r : ℕ) → b ≡ true → 0 < r → extra b q + 2 ≤ extra b (r + q)
extra_more true q r e h = omega (arith, h)
extra_more false q r e h = absurd cc

-- n words from iteration i on are those of so few passes, each of at most `unit` words, where the loop goes on to iteration j;
-- q free elements were suppressed by them
pub record Spends (breaks : Bool) (lanes unit i j n q : ℕ) : Type 0 where
  pub passes : ℕ
  pub within : n ≤ unit * passes
  pub few : lanes * passes + i < j + lanes + lanes * extra breaks q

-- Where a loop with a break stops, the faulting iteration is counted by its spare passes; in one without, by its chunk.
abbrev pub ahead : (breaks : Bool) → ℕ
ahead true = 0
ahead false = 1

pub few_ahead : (b : Bool) (j : ℕ) → j + ahead b ≤ j + 1
few_ahead true j = omega arith
few_ahead false j = omega arith

-- so few passes need no payment, where the loop stands
pub in_place : (b : Bool) (lanes unit i j n q a : ℕ) → 0 < lanes → i ≤ j → a ≤ spare b → n ≤ unit * a → Spends b lanes unit i j n q
in_place b lanes unit i j n q a some le few within =
    let up : lanes * a ≤ lanes * extra b q = mul-le-mul_left lanes (all b few) in
    record { passes = a; within = within; few = omega (arith, some, le, up) }
  where
    all : (b : Bool) → a ≤ spare b → a ≤ extra b q
    all true h = omega (arith, h)
    all false h = omega (arith, h)

-- one more, where it goes on
pub in_iteration : (b : Bool) (lanes unit i j n q a : ℕ) → i < j → a ≤ 1 + spare b → n ≤ unit * a → Spends b lanes unit i j n q
in_iteration b lanes unit i j n q a lt few within =
    let up : lanes * a ≤ lanes * (1 + extra b q) = mul-le-mul_left lanes (all b few) in
    record { passes = a; within = within; few = omega (arith, lt, up) }
  where
    all : (b : Bool) → a ≤ 1 + spare b → a ≤ 1 + extra b q
    all true h = omega (arith, h)
    all false h = omega (arith, h)

-- or stops
pub in_stop : (b : Bool) (lanes unit i j n q a : ℕ) → 0 < lanes → i ≤ j → a ≤ spare b + ahead b → n ≤ unit * a → Spends b lanes unit i (j + ahead b) n q
in_stop true lanes unit i j n q a some le few within = in_place true lanes unit i (j + 0) n q a some (omega (arith, le)) (omega (arith, few)) within
in_stop false lanes unit i j n q a some le few within = in_iteration false lanes unit i (j + 1) n q a (omega (arith, le)) (omega (arith, few)) within

-- or two chunks
pub in_two : (b : Bool) (lanes unit i j n q : ℕ) → 0 < lanes → i + lanes * 2 ≤ j → n ≤ unit * 2 → Spends b lanes unit i j n q
in_two b lanes unit i j n q some le within = record { passes = 2; within = within; few = omega (arith, some, le) }

-- How `a` passes that take k iterations on are paid, of which r free elements were suppressed: by the lanes of a chunk, or of two, by a
-- free element, or, where they come to the last iteration, by the passes that are spare.
pub data Paid (breaks : Bool) (lanes k i j r : ℕ) : ℕ → Type 0 where
  by_lanes : lanes ≤ k → Paid breaks lanes k i j r 1
  by_two : lanes * 2 ≤ k → Paid breaks lanes k i j r 2
  by_cut : breaks ≡ true → 0 < r → Paid breaks lanes k i j r 1
  by_last : 0 < k → j ≡ i + k → Paid breaks lanes k i j r 1
  by_one : breaks ≡ true → 0 < r → k ≡ 1 → Paid breaks lanes k i j r 2

pay_lanes : (L i k j x y P : ℕ) → L ≤ k → x ≤ y → L * P + (i + k) < j + L + L * x → L * (1 + P) + i < j + L + L * y
pay_lanes L i k j x y P le more few = let up : L * x ≤ L * y = mul-le-mul_left L more in omega (arith, le, few, up)

pay_two : (L i k j x y P : ℕ) → L * 2 ≤ k → x ≤ y → L * P + (i + k) < j + L + L * x → L * (2 + P) + i < j + L + L * y
pay_two L i k j x y P le more few = let up : L * x ≤ L * y = mul-le-mul_left L more in omega (arith, le, few, up)

pay_cut : (L i k j x y P : ℕ) → x + 2 ≤ y → L * P + (i + k) < j + L + L * x → L * (1 + P) + i < j + L + L * y
pay_cut L i k j x y P more few = let up : L * (x + 2) ≤ L * y = mul-le-mul_left L more in omega (arith, few, up)

pay_last : (L i k x y P : ℕ) → 0 < k → x ≤ y → L * P + (i + k) < i + k + L + L * x → L * (1 + P) + i < i + k + L + L * y
pay_last L i k x y P some more few =
    ⊎_elim
    (λ lt. let up : L * P ≤ L * y = mul-le-mul_left L (omega (arith, lt, more)) in omega (arith, up, some))
    (λ ge. let up : L * (1 + x) ≤ L * P = mul-le-mul_left L ge in absurd (omega (arith, up, few)))
    (cases_lt P (1 + x))

pay_one : (L i j x y P : ℕ) → x + 2 ≤ y → L * P + (i + 1) < j + L + L * x → L * (2 + P) + i < j + L + L * y
pay_one L i j x y P more few = let up : L * (x + 2) ≤ L * y = mul-le-mul_left L more in omega (arith, few, up)

pays : {b : Bool} {lanes k i j r a : ℕ} (q P : ℕ) → Paid b lanes k i j r a → lanes * P + (i + k) < j + lanes + lanes * extra b q → lanes * (a + P) + i < j + lanes + lanes * extra b (r + q)
pays {b = b} {lanes = L} {k = k} {i = i} {j = j} {r = r} q P (by_lanes le) few = pay_lanes L i k j (extra b q) (extra b (r + q)) P le (extra_le b q (r + q) (omega arith)) few
pays {b = b} {lanes = L} {k = k} {i = i} {j = j} {r = r} q P (by_two le) few = pay_two L i k j (extra b q) (extra b (r + q)) P le (extra_le b q (r + q) (omega arith)) few
pays {b = b} {lanes = L} {k = k} {i = i} {j = j} {r = r} q P (by_cut e some) few = pay_cut L i k j (extra b q) (extra b (r + q)) P (extra_more b q r e some) few
pays {b = b} {lanes = L} {k = k} {i = i} {j = j} {r = r} q P (by_last some at) few =
    subst (λ j. L * (1 + P) + i < j + L + L * extra b (r + q)) (sym at) (pay_last L i k (extra b q) (extra b (r + q)) P some (extra_le b q (r + q) (omega arith)) (subst (λ j. L * P + (i + k) < j + L + L * extra b q) at few))
pays {b = b} {lanes = L} {k = k} {i = i} {j = j} {r = r} q P (by_one e some is) few = pay_one L i j (extra b q) (extra b (r + q)) P (extra_more b q r e some) (subst (λ k. L * P + (i + k) < j + L + L * extra b q) is few)

-- more passes after these
pub spends_on : {b : Bool} {lanes unit i j k r a count n q t : ℕ} → count ≤ unit * a → Paid b lanes k i j r a → r + q ≤ t → Spends b lanes unit (i + k) j n q → Spends b lanes unit i j (count + n) t
spends_on {b = b} {lanes = L} {unit = unit} {i = i} {j = j} {r = r} {a = a} {q = q} {t = t} within paid le s =
    let more = pays q s.passes paid s.few in
    let up : L * extra b (r + q) ≤ L * extra b t = mul-le-mul_left L (extra_le b (r + q) t le) in
    let n1 = s.within in
    record { passes = a + s.passes; within = omega (arith, within, n1); few = omega (arith, more, up) }

-- ---- passes against iterations alone

-- n words from iteration i on are at most those of two passes for each iteration up to j, and of two more
abbrev pub InIterations : (unit i j n : ℕ) → Type 0
InIterations unit i j n = n + unit * (2 * i) ≤ unit * (2 * j + 2)

pub last_iterations : (unit i j n a : ℕ) → i ≤ j → a ≤ 2 → n ≤ unit * a → InIterations unit i j n
last_iterations unit i j n a le small few =
    let up : unit * i ≤ unit * j = mul-le-mul_left unit le in
    let two : unit * a ≤ unit * 2 = mul-le-mul_left unit small in
    omega (arith, up, two, few)

-- at most two passes that take some iterations on, and more after them
pub in_iterations_on : (unit i j k a count n : ℕ) → a ≤ 2 → 0 < k → count ≤ unit * a → InIterations unit (i + k) j n → InIterations unit i j (count + n)
in_iterations_on unit i j k a count n small ahead within more =
    let two : unit * a ≤ unit * 2 = mul-le-mul_left unit small in
    let some : unit * 1 ≤ unit * k = mul-le-mul_left unit ahead in
    omega (arith, two, some, within, more)

-- x words before the passes, n of the passes and k after them
pub iterations_in_all : (U edges j bg x n k : ℕ) → j ≤ bg → x + k ≤ edges → InIterations U 0 j n → x + (n + k) ≤ edges + U * (2 * bg + 2)
iterations_in_all U edges j bg x n k le around few = let up : U * j ≤ U * bg = mul-le-mul_left U le in omega (arith, up, around, few)

-- ---- the whole

-- so many passes are those of chunks, and the extra ones
few_passes : (L bg j P x : ℕ) → 0 < L → j ≤ bg → L * P < j + L + L * x → P ≤ div_ceil bg L + x
few_passes L bg j P x some le few =
    ⊎_elim
    (λ lt. omega (arith, lt))
    (λ ge.
    let up : L * (div_ceil bg L + x + 1) ≤ L * P = mul-le-mul_left L ge in
    let all : bg ≤ div_ceil bg L * L = (div_ceil_times bg L some).0 in
    absurd (around (div_ceil bg L) up all))
    (cases_lt P (div_ceil bg L + x + 1))
  where
    around : (D : ℕ) → L * (D + x + 1) ≤ L * P → bg ≤ D * L → ⊥
    around D up all = omega (arith, up, all, few, le)

-- x words before the passes, n of the passes and k after them
pub in_all : (b : Bool) (L U edges j bg x n k q r : ℕ) → 0 < L → j ≤ bg → x + k ≤ edges → q ≤ r → Spends b L U 0 j n q → x + n + k < 1 + edges + U * (div_ceil bg L + spare b * (1 + 0)) + U * spare b * r
in_all b L U edges j bg x n k q r some le around more s =
    let f = s.few in
    let passes = few_passes L bg j s.passes (extra b q) some le (omega (arith, f)) in
    let up : U * s.passes ≤ U * (div_ceil bg L + extra b q) = mul-le-mul_left U passes in
    let cut : U * extra b q ≤ U * extra b r = mul-le-mul_left U (extra_le b q r more) in
    let w = s.within in
    counted (div_ceil bg L) (spare b) up cut w
  where
    counted : (D e : ℕ) → U * s.passes ≤ U * (D + e * (1 + q)) → U * (e * (1 + q)) ≤ U * (e * (1 + r)) → n ≤ U * s.passes → x + n + k < 1 + edges + U * (D + e * (1 + 0)) + U * e * r
    counted D e up cut w = omega (arith, up, cut, w, around)

-- no word of the passes
pub none_spent : (b : Bool) (L U j q : ℕ) → 0 < L → Spends b L U 0 j 0 q
none_spent b L U j q some = record { passes = 0; within = omega arith; few = omega (arith, some) }
