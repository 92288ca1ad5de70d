-- Slots that hold the values of names.
use Rattle.std.proofs.Common.{◌≡◌, ℕ, suc, ◌<◌, ◌≤◌, List, [], ◌∷◌, ◌++◌, Bool, true, false, cond, Some, length, take, set, refl, sym, ap, subst, ◌∙◌, arith}
use Rattle.std.specs.Prelude.{ℤ, pos, bytes_eq, option_map, unwrap_or}
use Rattle.std.specs.List.{find}
use Rattle.std.proofs.lemmas.List.{get_or_past}
use Rattle.kernel_tree.specs.declared.fault.Binding.{Binding}
use Rattle.kernel_tree.specs.Typing.{Local, local, has_name}
use Rattle.kernel_meaning.specs.Eval.{Named, Names, is_named, value_of, value_at}
use Rattle.kernel_meaning.specs.Iterate.{named, with_name, assigned}
use Rattle.kernel_eval.specs.Slots.{Slots, slot_at}
use Rattle.kernel_plan.specs.Resolve.{most_slots, place}

-- each visible name has its value in the slot of its place
abbrev pub AreInSlots : List Local → Names → Slots → Type 0
AreInSlots [] [] vs = Unit {0}
AreInSlots (l ∷ ls) (n ∷ ns) (v ∷ vs) = (n.name ≡ l.name) × (v ≡ n.value) × AreInSlots ls ns vs
AreInSlots other ns vs = ⊥

value_step : (b : Bool) (l : Local) (n : Named) (ls : List Local) (ns : Names) (v : ℤ) (vs : Slots) (x : List ℕ) → has_name x l ≡ b → n.name ≡ l.name → v ≡ n.value → slot_at vs (place ls x) ≡ value_at ns x → slot_at (v ∷ vs) (place (l ∷ ls) x) ≡ value_at (n ∷ ns) x
value_step true l n ls ns v vs x e same is rest =
    ap (λ t. slot_at (v ∷ vs) (cond t 0 (suc (place ls x)))) e ∙ is ∙ sym (ap (λ t. unwrap_or (option_map value_of (cond t (Some n) (find (is_named x) ns))) (pos 0)) (ap (λ y. bytes_eq y x) same ∙ e))
value_step false l n ls ns v vs x e same is rest =
    ap (λ t. slot_at (v ∷ vs) (cond t 0 (suc (place ls x)))) e ∙ rest ∙ sym (ap (λ t. unwrap_or (option_map value_of (cond t (Some n) (find (is_named x) ns))) (pos 0)) (ap (λ y. bytes_eq y x) same ∙ e))

-- the slot of a name has its value
pub value-held : (ls : List Local) (ns : Names) (vs : Slots) (x : List ℕ) → AreInSlots ls ns vs → length vs ≤ most_slots → slot_at vs (place ls x) ≡ value_at ns x
value-held [] [] vs x h le = get_or_past vs most_slots (pos 0) le
value-held (l ∷ ls) (n ∷ ns) (v ∷ vs) x h le = value_step (has_name x l) l n ls ns v vs x refl h.0 h.1 (value-held ls ns vs x h.2 (omega arith))
value-held other ns vs x h le = absurd h

assigned_step : (b : Bool) (l : Local) (n : Named) (ls : List Local) (ns : Names) (v : ℤ) (vs : Slots) (x : List ℕ) (z : ℤ) → has_name x l ≡ b → AreInSlots (l ∷ ls) (n ∷ ns) (v ∷ vs) → AreInSlots ls (assigned x z ns) (set vs (place ls x) z) → AreInSlots (l ∷ ls) (assigned x z (n ∷ ns)) (set (v ∷ vs) (place (l ∷ ls) x) z)
assigned_step true l n ls ns v vs x z e h rest =
    let f : is_named x n ≡ true = ap (λ y. bytes_eq y x) h.0 ∙ e in
    subst (λ t. AreInSlots (l ∷ ls) (cond (is_named x n) (named n.name z ∷ ns) (n ∷ assigned x z ns)) (set (v ∷ vs) (cond t 0 (suc (place ls x))) z)) (sym e)
    (subst (λ t. AreInSlots (l ∷ ls) (cond t (named n.name z ∷ ns) (n ∷ assigned x z ns)) (z ∷ vs)) (sym f) (h.0, refl, h.2))
assigned_step false l n ls ns v vs x z e h rest =
    let f : is_named x n ≡ false = ap (λ y. bytes_eq y x) h.0 ∙ e in
    subst (λ t. AreInSlots (l ∷ ls) (cond (is_named x n) (named n.name z ∷ ns) (n ∷ assigned x z ns)) (set (v ∷ vs) (cond t 0 (suc (place ls x))) z)) (sym e)
    (subst (λ t. AreInSlots (l ∷ ls) (cond t (named n.name z ∷ ns) (n ∷ assigned x z ns)) (v ∷ set vs (place ls x) z)) (sym f) (h.0, h.1, rest))

-- a name with another value
pub assigned-held : (ls : List Local) (ns : Names) (vs : Slots) (x : List ℕ) (z : ℤ) → AreInSlots ls ns vs → AreInSlots ls (assigned x z ns) (set vs (place ls x) z)
assigned-held [] [] vs x z h = tt
assigned-held (l ∷ ls) (n ∷ ns) (v ∷ vs) x z h = assigned_step (has_name x l) l n ls ns v vs x z refl h (assigned-held ls ns vs x z h.2)
assigned-held other ns vs x z h = absurd h

-- a name more
pub named-held : (ls : List Local) (ns : Names) (vs : Slots) (x : List ℕ) (b : Binding) (z : ℤ) → AreInSlots ls ns vs → length ls < length vs → AreInSlots (ls ++ local x b ∷ []) (with_name x ns z) (set vs (length ls) z)
named-held [] [] [] x b z h lt = absurd (omega arith)
named-held [] [] (v ∷ vs) x b z h lt = (refl, refl, tt)
named-held (l ∷ ls) (n ∷ ns) (v ∷ vs) x b z h lt = (h.0, h.1, named-held ls ns vs x b z h.2 (omega arith))
named-held other ns vs x b z h lt = absurd h

-- the first names
pub cut-held : (ls more : List Local) (ns : Names) (vs : Slots) → AreInSlots (ls ++ more) ns vs → AreInSlots ls (take (length ls) ns) vs
cut-held [] more ns vs h = tt
cut-held (l ∷ ls) more [] vs h = absurd h
cut-held (l ∷ ls) more (n ∷ ns) [] h = absurd h
cut-held (l ∷ ls) more (n ∷ ns) (v ∷ vs) h = (h.0, h.1, cut-held ls more ns vs h.2)

-- there are as many names as are visible
pub held-length : (ls : List Local) (ns : Names) (vs : Slots) → AreInSlots ls ns vs → length ns ≡ length ls
held-length [] [] vs h = refl
held-length (l ∷ ls) (n ∷ ns) (v ∷ vs) h = ap suc (held-length ls ns vs h.2)
held-length other ns vs h = absurd h
