-- What stretches of code keep, and what stands in the registers.
use Rattle.std.proofs.Common.{◌≡◌, ◌≢◌, ℕ, suc, ◌*◌, ◌^◌, ◌<◌, ◌≤◌, Bool, true, false, List, [], ◌∷◌, length, ◌%◌, Option, Some, None, cond, refl, sym, ap, ◌∙◌, subst, arith, length-set, get_or-set_same, get_or-set_other}
use Rattle.std.specs.Prelude.{ℤ, pos, ◌+ℤ◌, ◌-ℤ◌, slice_index, unwrap_or, option_map, bytes_eq}
use Rattle.std.specs.List.{find}
use Rattle.guest_types.specs.Memory.{Memory, IsMemory}
use Rattle.machine_model.specs.Machine.{State, x_at, with_x, next}
use Rattle.machine_model.specs.States.{IsState}
use Rattle.machine_model.proofs.StateSteps.{next_is_state, x_kept}
use Rattle.kernel_meaning.specs.Operators.{word}
use Rattle.kernel_meaning.specs.Eval.{Named, Names, is_named, value_at}
use Rattle.kernel_tree.specs.Typing.{Local}
use Rattle.kernel_tree.specs.Wrap.{bits_of, byte_count}
pub use Rattle.scalar_words.specs.Safe.{Assigned, IsSafe, AreSafe}
pub use Rattle.kernel_meaning.specs.Ranges.{TypeRange, AreRanged}
pub use Rattle.scalar_words.specs.Iterations.{Frame, frame_of}
use Rattle.scalar_words.specs.Layout.{Key, OfNumber, OfAddress, Form, LowBits, Ahead, Behind, Loose, loose_in, Layout, reg_of, constant_at, IsMade, Home, Homes, is_home, register_of, register_at, Lasts, LastsAt, NameLasts}

-- the state after a word that writes one register
abbrev pub wrote : State → ℕ → ℕ → State
wrote s d v = next (with_x s d v)

pub wrote_same : (s : State) (d v : ℕ) → d < length s.x → x_at (wrote s d v) d ≡ v
wrote_same s d v h = get_or-set_same s.x d v 0 h

pub wrote_other : (s : State) (d v r : ℕ) → r ≢ d → x_at (wrote s d v) r ≡ x_at s r
wrote_other s d v r h = get_or-set_other s.x d r v 0 h

pub wrote_sized : (s : State) (d v : ℕ) → length (wrote s d v).x ≡ length s.x
wrote_sized s d v = length-set s.x d v

pub wrote_shaped : (s : State) (d v : ℕ) → v < 2 ^ 64 → IsState s → IsState (wrote s d v)
wrote_shaped s d v small is = next_is_state (with_x s d v) (x_kept s d v is small)

-- Only the registers of the items from b until e, x26 to x30 and the flags changed.
pub record Kept (L : Layout) (s t : State) (b e : ℕ) : Type 0 where
  pub memory : t.memory ≡ s.memory
  pub sized : length t.x ≡ length s.x
  pub frame : frame_of t ≡ frame_of s
  pub others : (r : ℕ) → r ≤ 25 → ((p : ℕ) → b ≤ p → p < e → IsMade L p → reg_of L p ≢ r) → x_at t r ≡ x_at s r

-- only one register, x26 to x30 and the flags changed
pub record Changes (s t : State) (d : ℕ) : Type 0 where
  pub memory : t.memory ≡ s.memory
  pub sized : length t.x ≡ length s.x
  pub frame : frame_of t ≡ frame_of s
  pub others : (r : ℕ) → r ≤ 25 → r ≢ d → x_at t r ≡ x_at s r

pub changes_on : {s t u : State} {d : ℕ} → Changes s t d → Changes t u d → Changes s u d
changes_on j k = record { memory = k.memory ∙ j.memory; sized = k.sized ∙ j.sized; frame = k.frame ∙ j.frame; others = λ r hi ne. k.others r hi ne ∙ j.others r hi ne }

pub changes_own : (s : State) (d v : ℕ) → Changes s (wrote s d v) d
changes_own s d v = record { memory = refl; sized = wrote_sized s d v; frame = refl; others = λ q hi ne. wrote_other s d v q ne }

-- the names that are needed at item p or after it have their values in their registers
abbrev pub AreInRegisters : Homes → Names → ℕ → State → Type 0
AreInRegisters [] [] p s = Unit {0}
AreInRegisters [] (n ∷ ns) p s = ⊥
AreInRegisters (h ∷ hs) [] p s = ⊥
AreInRegisters (h ∷ hs) (n ∷ ns) p s = (n.name ≡ h.name) × (Lasts h.last_use p → x_at s h.register ≡ word n.value) × AreInRegisters hs ns p s

-- the word of what is held, by the arguments
abbrev pub key_word : List ℕ → Key → ℕ
key_word args (OfNumber z) = word z
key_word args (OfAddress q c) = word (pos (slice_index args q) +ℤ c)

-- registers have what they hold
abbrev pub IsLoaded : Layout → List ℕ → Type 0
IsLoaded L args = (z : Key) (r : ℕ) → constant_at L z ≡ Some r → slice_index args r ≡ key_word args z

-- what stays in an iteration: what stands in X9, how many iterations the loop has, and the registers below X9, with the
-- arguments and what is held
pub record Fixed (L : Layout) : Type 0 where
  pub index : ℕ
  pub count : ℕ
  pub args : List ℕ
  pub loaded : IsLoaded L args

-- what stands in a register of a name's value, in a loop of so many iterations
abbrev pub Tells : (count : ℕ) → Option Form → ℤ → ℤ → Type 0
Tells count None z v = z ≡ v
Tells count (Some (LowBits t)) z v = word z % 2 ^ bits_of t ≡ word v % 2 ^ bits_of t
Tells count (Some (Ahead t)) z v = z ≡ v +ℤ pos (byte_count t * count)
Tells count (Some Behind) z v = z ≡ v -ℤ pos count

-- and of the values of all names, by those that are held loosely
abbrev pub Told : List Loose → (count : ℕ) → (stand names : Names) → Type 0
Told ls count [] [] = Unit {0}
Told ls count [] (n ∷ ns) = ⊥
Told ls count (z ∷ zs) [] = ⊥
Told ls count (z ∷ zs) (n ∷ ns) = (z.name ≡ n.name) × Tells count (loose_in ls n.name) z.value n.value × Told ls count zs ns

-- the registers have what stands of the names
pub record At {L : Layout} (w : Fixed L) (homes : Homes) (ls : List Local) (names : Names) (m : Memory) (p : ℕ) (s : State) : Type 0 where
  pub sized : length s.x ≡ 31
  pub nine : x_at s 9 ≡ w.index
  pub args : (r : ℕ) → r < 9 → x_at s r ≡ slice_index w.args r
  pub ranged : AreRanged ls names
  pub memory : s.memory ≡ m
  pub good : IsMemory m
  pub stand : Names
  pub told : Told L.loose w.count stand names
  pub held : AreInRegisters homes stand p s

pub lasts_less : (o : Option ℕ) (p q : ℕ) → q ≤ p → Lasts o p → Lasts o q
lasts_less None p q le h = tt
lasts_less (Some u) p q le h = omega (arith, h, le)

-- ---- names

find_step : (b : Bool) (h : Home) (n : Named) (hs : Homes) (ns : Names) (x : List ℕ) (p : ℕ) (s : State) → is_home x h ≡ b → n.name ≡ h.name → (Lasts h.last_use p → x_at s h.register ≡ word n.value) → (NameLasts hs x p → x_at s (register_at hs x) ≡ word (value_at ns x)) → NameLasts (h ∷ hs) x p → x_at s (register_at (h ∷ hs) x) ≡ word (value_at (n ∷ ns) x)
find_step true h n hs ns x p s e same is rest lasts =
    let f : is_named x n ≡ true = ap (λ y. bytes_eq y x) same ∙ e in
    rw (e, f) (is (subst (λ b. LastsAt (cond b (Some h) (find (is_home x) hs)) p) e lasts))
find_step false h n hs ns x p s e same is rest lasts =
    let f : is_named x n ≡ false = ap (λ y. bytes_eq y x) same ∙ e in
    rw (e, f) (rest (subst (λ b. LastsAt (cond b (Some h) (find (is_home x) hs)) p) e lasts))

-- the register of a name has its value
pub name_held : (hs : Homes) (ns : Names) (x : List ℕ) (p : ℕ) (s : State) → length s.x ≡ 31 → AreInRegisters hs ns p s → NameLasts hs x p → x_at s (register_at hs x) ≡ word (value_at ns x)
name_held [] [] x p s sized h lasts = absurd lasts
name_held [] (n ∷ ns) x p s sized h lasts = absurd h
name_held (h ∷ hs) [] x p s sized k lasts = absurd k
name_held (h ∷ hs) (n ∷ ns) x p s sized k lasts = find_step (is_home x h) h n hs ns x p s refl k.0 k.1 (name_held hs ns x p s sized k.2) lasts

module _ (L : Layout) where
  pub kept_none : (s : State) (b e : ℕ) → Kept L s s b e
  kept_none s b e = record { memory = refl; sized = refl; frame = refl; others = λ r le h. refl }

  -- a word that writes a scratch register, or none
  pub kept_scratch : (s : State) (r v b e : ℕ) → 26 ≤ r → Kept L s (wrote s r v) b e
  kept_scratch s r v b e le = record { memory = refl; sized = wrote_sized s r v; frame = refl; others = λ q hi h. wrote_other s r v q (λ eq. absurd (omega arith)) }

  pub kept_item : (s : State) (p v b e : ℕ) → b ≤ p → p < e → IsMade L p → Kept L s (wrote s (reg_of L p) v) b e
  kept_item s p v b e le lt made = record {
    memory = refl;
    sized = wrote_sized s (reg_of L p) v;
    frame = refl;
    others = λ q hi h. wrote_other s (reg_of L p) v q (λ eq. h p le lt made (sym eq));
  }

  pub kept_changes : {s t : State} (p b e : ℕ) → b ≤ p → p < e → IsMade L p → Changes s t (reg_of L p) → Kept L s t b e
  kept_changes p b e le lt made k = record { memory = k.memory; sized = k.sized; frame = k.frame; others = λ r hi h. k.others r hi (λ eq. h p le lt made (sym eq)) }

  pub kept_on : {s t u : State} {b1 e1 b2 e2 : ℕ} (b e : ℕ) → b ≤ b1 → e1 ≤ e → b ≤ b2 → e2 ≤ e → Kept L s t b1 e1 → Kept L t u b2 e2 → Kept L s u b e
  kept_on b e l1 h1 l2 h2 k j = record {
    memory = j.memory ∙ k.memory;
    sized = j.sized ∙ k.sized;
    frame = j.frame ∙ k.frame;
    others = λ r hi h. j.others r hi (λ p lo up made. h p (omega arith) (omega arith) made) ∙ k.others r hi (λ p lo up made. h p (omega arith) (omega arith) made);
  }

  pub kept_both : {s t u : State} (b e : ℕ) → Kept L s t b e → Kept L t u b e → Kept L s u b e
  kept_both b e k j = kept_on b e (omega arith) (omega arith) (omega arith) (omega arith) k j

  pub kept_more : {s t : State} {b e : ℕ} (e2 : ℕ) → e ≤ e2 → Kept L s t b e → Kept L s t b e2
  kept_more e2 le k = record { memory = k.memory; sized = k.sized; frame = k.frame; others = λ r hi h. k.others r hi (λ p lo up made. h p lo (omega arith) made) }

  pub safe_later : (homes : Homes) (p q : ℕ) → p ≤ q → AreSafe L p homes → AreSafe L q homes
  safe_later [] p q le h = tt
  safe_later (h ∷ hs) p q le k = (record { high = λ l. k.0.high (lasts_less h.last_use q p le l); apart = λ r lo. k.0.apart r (omega arith) }, safe_later hs p q le k.1)

  -- names over code of the items from b until e
  pub held_kept : (hs : Homes) (ns : Names) (b e : ℕ) (s t : State) → b ≤ e → AreSafe L b hs → Kept L s t b e → AreInRegisters hs ns b s → AreInRegisters hs ns e t
  held_kept [] [] b e s t le safe k h = tt
  held_kept [] (n ∷ ns) b e s t le safe k h = absurd h
  held_kept (x ∷ hs) [] b e s t le safe k h = absurd h
  held_kept (x ∷ hs) (n ∷ ns) b e s t le safe k h =
      (h.0, (λ lasts. k.others x.register (safe.0.high (lasts_less x.last_use e b le lasts)) (λ p lo up made. safe.0.apart p lo (lasts_less x.last_use e (suc p) (omega arith) lasts) made) ∙ h.1 (lasts_less x.last_use e b le lasts)), held_kept hs ns b e s t le safe.1 k h.2)

  pub at_kept : (fit : Assigned L) {M : Layout} {w : Fixed M} {homes : Homes} {ls : List Local} {names : Names} {m : Memory} {s t : State} (b e : ℕ) → b ≤ e → AreSafe L b homes → At w homes ls names m b s → Kept L s t b e → At w homes ls names m e t
  at_kept fit {homes = homes} {names = names} {s = s} {t = t} b e le safe at k = record {
    sized = k.sized ∙ at.sized;
    nine = k.others 9 (omega arith) (λ p lo up made eq. absurd (omega (arith, fit.low p made))) ∙ at.nine;
    args = λ r lt. k.others r (omega arith) (λ p lo up made eq. absurd (omega (arith, fit.low p made))) ∙ at.args r lt;
    ranged = at.ranged;
    memory = k.memory ∙ at.memory;
    good = at.good;
    stand = at.stand;
    told = at.told;
    held = held_kept homes at.stand b e s t le safe k at.held;
  }

  -- the register of a visible name
  pub record IsFound (hs : Homes) (x : List ℕ) (b p : ℕ) : Type 0 where
    pub high : register_at hs x ≤ 25
    pub apart : (q : ℕ) → b ≤ q → q < p → IsMade L q → reg_of L q ≢ register_at hs x

  safe_home_found_of_cons : (t : Bool) (h : Home) (hs : Homes) (x : List ℕ) (b p : ℕ) → b ≤ p → is_home x h ≡ t → IsSafe L b h → (NameLasts hs x p → IsFound hs x b p) → NameLasts (h ∷ hs) x p → IsFound (h ∷ hs) x b p
  safe_home_found_of_cons true h hs x b p le e safe rest lasts =
      let l : Lasts h.last_use p = subst (λ c. LastsAt (cond c (Some h) (find (is_home x) hs)) p) e lasts in
      let r : register_at (h ∷ hs) x ≡ h.register = ap (λ c. unwrap_or (option_map register_of (cond c (Some h) (find (is_home x) hs))) 31) e in
      let hi = safe.high (lasts_less h.last_use p b le l) in
      record { high = omega (arith, r, hi); apart = λ q lo up made eq. safe.apart q lo (lasts_less h.last_use p (suc q) (omega arith) l) made (eq ∙ r) }
  safe_home_found_of_cons false h hs x b p le e safe rest lasts =
      let f = rest (subst (λ c. LastsAt (cond c (Some h) (find (is_home x) hs)) p) e lasts) in
      let r : register_at (h ∷ hs) x ≡ register_at hs x = ap (λ c. unwrap_or (option_map register_of (cond c (Some h) (find (is_home x) hs))) 31) e in
      record { high = omega (arith, r, f.high); apart = λ q lo up made eq. f.apart q lo up made (eq ∙ r) }

  pub name_found : (hs : Homes) (x : List ℕ) (b p : ℕ) → b ≤ p → AreSafe L b hs → NameLasts hs x p → IsFound hs x b p
  name_found [] x b p le safe lasts = absurd lasts
  name_found (h ∷ hs) x b p le safe lasts = safe_home_found_of_cons (is_home x h) h hs x b p le refl safe.0 (name_found hs x b p le safe.1) lasts
