-- What stands in the registers of names, where some are held loosely.
use Rattle.std.proofs.Common.{◌≡◌, ℕ, zero, suc, ◌%◌, ◌^◌, ◌<◌, ◌≤◌, Bool, true, false, List, [], ◌∷◌, ◌++◌, take, length, Option, Some, None, cond, refl, sym, ap, ap₂, ◌∙◌, subst, arith}
use Rattle.std.specs.Prelude.{ℤ, slice_index, bytes_eq}
use Rattle.std.specs.List.{find}
use Rattle.guest_types.specs.Memory.{Memory, IsMemory}
use Rattle.machine_model.specs.Machine.{State, x_at}
use Rattle.kernel_tree.specs.Typing.{Local}
use Rattle.kernel_tree.specs.Wrap.{bits_of}
use Rattle.kernel_tree.proofs.Names.{bytes_eq-told}
use Rattle.kernel_meaning.specs.Operators.{word}
use Rattle.kernel_meaning.specs.Eval.{Named, Names, is_named, value_at}
use Rattle.kernel_meaning.specs.Iterate.{named, assigned}
use Rattle.kernel_meaning.specs.Ranges.{AreRanged}
use Rattle.scalar_words.specs.Layout.{Form, LowBits, Ahead, Behind, Loose, loose_in, Layout, Homes, is_home, LastsAt, NameLasts}
use Rattle.scalar_words.proofs.LayoutStates.{Assigned, AreSafe, Kept, AreInRegisters, Fixed, Tells, Told, At, held_kept}

-- a form that the value itself has
abbrev pub tells_itself : Option Form → Bool
tells_itself None = true
tells_itself (Some (LowBits t)) = true
tells_itself (Some (Ahead t)) = false
tells_itself (Some Behind) = false

pub tells_same : (c : ℕ) (o : Option Form) (z v : ℤ) → tells_itself o ≡ true → z ≡ v → Tells c o z v
tells_same c None z v h e = e
tells_same c (Some (LowBits t)) z v h e = ap (λ n. word n % 2 ^ bits_of t) e
tells_same c (Some (Ahead t)) z v h e = absurd cc
tells_same c (Some Behind) z v h e = absurd cc

pub told_same : (ls : List Loose) (c : ℕ) (ns : Names) → ((x : List ℕ) → tells_itself (loose_in ls x) ≡ true) → Told ls c ns ns
told_same ls c [] h = tt
told_same ls c (n ∷ ns) h = (refl, tells_same c (loose_in ls n.name) n.value n.value (h n.name) refl, told_same ls c ns h)

told_step : (b : Bool) (ls : List Loose) (c : ℕ) (z n : Named) (zs ns : Names) (x : List ℕ) → is_named x n ≡ b → z.name ≡ n.name → Tells c (loose_in ls n.name) z.value n.value → (b ≡ false → Tells c (loose_in ls x) (value_at zs x) (value_at ns x)) → Tells c (loose_in ls x) (value_at (z ∷ zs) x) (value_at (n ∷ ns) x)
told_step true ls c z n zs ns x e same is rest =
    let f : is_named x z ≡ true = ap (λ y. bytes_eq y x) same ∙ e in
    rw (e, f) (subst (λ y. Tells c (loose_in ls y) z.value n.value) (bytes_eq-told n.name x e) is)
told_step false ls c z n zs ns x e same is rest =
    let f : is_named x z ≡ false = ap (λ y. bytes_eq y x) same ∙ e in
    rw (e, f) (rest refl)

-- the value of a name, visible or not, is told by what stands in its register, where the value itself may
pub told_at : (ls : List Loose) (c : ℕ) (zs ns : Names) (x : List ℕ) → tells_itself (loose_in ls x) ≡ true → Told ls c zs ns → Tells c (loose_in ls x) (value_at zs x) (value_at ns x)
told_at ls c [] [] x k h = tells_same c (loose_in ls x) _ _ k refl
told_at ls c [] (n ∷ ns) x k h = absurd h
told_at ls c (z ∷ zs) [] x k h = absurd h
told_at ls c (z ∷ zs) (n ∷ ns) x k h = told_step (is_named x n) ls c z n zs ns x refl h.0 h.1 (λ e. told_at ls c zs ns x k h.2)

-- the value of a visible name is told by what stands in its register
pub told_found : (ls : List Loose) (c : ℕ) (hs : Homes) (zs ns : Names) (x : List ℕ) (p q : ℕ) (s : State) → AreInRegisters hs zs p s → NameLasts hs x q → Told ls c zs ns → Tells c (loose_in ls x) (value_at zs x) (value_at ns x)
told_found ls c [] zs ns x p q s held lasts h = absurd lasts
told_found ls c (y ∷ hs) [] ns x p q s held lasts h = absurd held
told_found ls c (y ∷ hs) (z ∷ zs) [] x p q s held lasts h = absurd h
told_found ls c (y ∷ hs) (z ∷ zs) (n ∷ ns) x p q s held lasts h =
    told_step (is_named x n) ls c z n zs ns x refl h.0 h.1
    (λ e. let f : is_home x y ≡ false = ap (λ y. bytes_eq y x) (sym held.0 ∙ h.0) ∙ e in
    told_found ls c hs zs ns x p q s held.2 (subst (λ b. LastsAt (cond b (Some y) (find (is_home x) hs)) q) f lasts) h.2)

-- a name more, by what stands in its register
pub told_more_by : (ls : List Loose) (c : ℕ) (zs ns : Names) (x : List ℕ) (u v : ℤ) → Tells c (loose_in ls x) u v → Told ls c zs ns → Told ls c (zs ++ named x u ∷ []) (ns ++ named x v ∷ [])
told_more_by ls c [] [] x u v is h = (refl, is, tt)
told_more_by ls c [] (n ∷ ns) x u v is h = absurd h
told_more_by ls c (z ∷ zs) [] x u v is h = absurd h
told_more_by ls c (z ∷ zs) (n ∷ ns) x u v is h = (h.0, h.1, told_more_by ls c zs ns x u v is h.2)

-- a name more, whose value stands in its register
pub told_more : (ls : List Loose) (c : ℕ) (zs ns : Names) (x : List ℕ) (v : ℤ) → tells_itself (loose_in ls x) ≡ true → Told ls c zs ns → Told ls c (zs ++ named x v ∷ []) (ns ++ named x v ∷ [])
told_more ls c zs ns x v k h = told_more_by ls c zs ns x v v (tells_same c (loose_in ls x) v v k refl) h

-- fewer names
pub told_take : (ls : List Loose) (c k : ℕ) (zs ns : Names) → Told ls c zs ns → Told ls c (take k zs) (take k ns)
told_take ls c zero zs ns h = tt
told_take ls c (suc k) [] [] h = tt
told_take ls c (suc k) [] (n ∷ ns) h = absurd h
told_take ls c (suc k) (z ∷ zs) [] h = absurd h
told_take ls c (suc k) (z ∷ zs) (n ∷ ns) h = (h.0, h.1, told_take ls c k zs ns h.2)

-- where no name is held loosely, the values themselves stand in the registers
pub told_none : (c : ℕ) (zs ns : Names) → Told [] c zs ns → zs ≡ ns
told_none c [] [] h = refl
told_none c [] (n ∷ ns) h = absurd h
told_none c (z ∷ zs) [] h = absurd h
told_none c (z ∷ zs) (n ∷ ns) h = ap₂ (λ (m : Named) (ms : Names). m ∷ ms) (ap₂ named h.0 h.1) (told_none c zs ns h.2)

set_step : (b : Bool) (ls : List Loose) (c : ℕ) (z n : Named) (zs ns : Names) (x : List ℕ) (u v : ℤ) → is_named x n ≡ b → Tells c (loose_in ls x) u v → Told ls c (z ∷ zs) (n ∷ ns) → Told ls c (assigned x u zs) (assigned x v ns) → Told ls c (assigned x u (z ∷ zs)) (assigned x v (n ∷ ns))
set_step true ls c z n zs ns x u v e is h rest =
    let f : is_named x z ≡ true = ap (λ y. bytes_eq y x) h.0 ∙ e in
    let new : Told ls c (named z.name u ∷ zs) (named n.name v ∷ ns) = (h.0, subst (λ y. Tells c (loose_in ls y) u v) (sym (bytes_eq-told n.name x e)) is, h.2) in
    subst (λ b. Told ls c (cond b (named z.name u ∷ zs) (z ∷ assigned x u zs)) (assigned x v (n ∷ ns))) (sym f)
    (subst (λ b. Told ls c (named z.name u ∷ zs) (cond b (named n.name v ∷ ns) (n ∷ assigned x v ns))) (sym e) new)
set_step false ls c z n zs ns x u v e is h rest =
    let f : is_named x z ≡ false = ap (λ y. bytes_eq y x) h.0 ∙ e in
    let new : Told ls c (z ∷ assigned x u zs) (n ∷ assigned x v ns) = (h.0, h.1, rest) in
    subst (λ b. Told ls c (cond b (named z.name u ∷ zs) (z ∷ assigned x u zs)) (assigned x v (n ∷ ns))) (sym f)
    (subst (λ b. Told ls c (z ∷ assigned x u zs) (cond b (named n.name v ∷ ns) (n ∷ assigned x v ns))) (sym e) new)

-- a name with another value, which is told
pub told_set : (ls : List Loose) (c : ℕ) (zs ns : Names) (x : List ℕ) (u v : ℤ) → Tells c (loose_in ls x) u v → Told ls c zs ns → Told ls c (assigned x u zs) (assigned x v ns)
told_set ls c [] [] x u v is h = tt
told_set ls c [] (n ∷ ns) x u v is h = absurd h
told_set ls c (z ∷ zs) [] x u v is h = absurd h
told_set ls c (z ∷ zs) (n ∷ ns) x u v is h = set_step (is_named x n) ls c z n zs ns x u v refl is h (told_set ls c zs ns x u v is h.2)

-- ---- registers, where it is said what stands in them

pub record Standing {L : Layout} (w : Fixed L) (homes : Homes) (ls : List Local) (stand names : Names) (m : Memory) (p : ℕ) (s : State) : Type 0 where
  pub sized : length s.x ≡ 31
  pub nine : x_at s 9 ≡ w.index
  pub args : (r : ℕ) → r < 9 → x_at s r ≡ slice_index w.args r
  pub ranged : AreRanged ls names
  pub memory : s.memory ≡ m
  pub good : IsMemory m
  pub told : Told L.loose w.count stand names
  pub held : AreInRegisters homes stand p s

pub standing : {L : Layout} {w : Fixed L} {homes : Homes} {ls : List Local} {names : Names} {m : Memory} {p : ℕ} {s : State} → (at : At w homes ls names m p s) → Standing w homes ls at.stand names m p s
standing at = record { sized = at.sized; nine = at.nine; args = at.args; ranged = at.ranged; memory = at.memory; good = at.good; told = at.told; held = at.held }

pub standing_kept : (L : Layout) (fit : Assigned L) {M : Layout} {w : Fixed M} {homes : Homes} {ls : List Local} {stand names : Names} {m : Memory} {s t : State} (b e : ℕ) → b ≤ e → AreSafe L b homes → Standing w homes ls stand names m b s → Kept L s t b e → Standing w homes ls stand names m e t
standing_kept L fit {homes = homes} {stand = stand} {s = s} {t = t} b e le safe at k = record {
  sized = k.sized ∙ at.sized;
  nine = k.others 9 (omega arith) (λ p lo up made eq. absurd (omega (arith, fit.low p made))) ∙ at.nine;
  args = λ r lt. k.others r (omega arith) (λ p lo up made eq. absurd (omega (arith, fit.low p made))) ∙ at.args r lt;
  ranged = at.ranged;
  memory = k.memory ∙ at.memory;
  good = at.good;
  told = at.told;
  held = held_kept L homes stand b e s t le safe k at.held;
}
