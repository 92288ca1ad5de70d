-- Registers of names, as the code finds them.
use Rattle.std.proofs.Common.{◌≡◌, ℕ, ◌+◌, ◌<◌, ◌≤◌, List, [], ◌∷◌, length, drop, get_or, Some, Bool, true, false, refl, sym, ap, ◌∙◌}
use Rattle.std.proofs.lemmas.List.{drop_all}
use Rattle.kernel_tree.proofs.Walks.{next_item}
use Rattle.scalar_words.specs.declared.home.Home.{Home}
use Rattle.scalar_words.specs.View.{homes_of, named, register_among, number_or_xzr}
use Rattle.scalar_words.specs.Layout as plain

register_of_cons : (b : Bool) (h : Home) (hs : List Home) (x : List ℕ) → named x h ≡ b → plain.register_at (homes_of hs) x ≡ number_or_xzr (register_among hs x) → plain.register_at (homes_of (h ∷ hs)) x ≡ number_or_xzr (register_among (h ∷ hs) x)
register_of_cons true h hs x e k = rw e refl
register_of_cons false h hs x e k = rw e k

pub register_among_is : (hs : List Home) (x : List ℕ) → plain.register_at (homes_of hs) x ≡ number_or_xzr (register_among hs x)
register_among_is [] x = refl
register_among_is (h ∷ hs) x = register_of_cons (named x h) h hs x refl (register_among_is hs x)

-- where the loop over the homes ends
pub register_found : (hs : List Home) (i : ℕ) (h : Home) (x : List ℕ) → i < length hs → h ≡ get_or hs i h → named x h ≡ true → register_among (drop i hs) x ≡ register_among hs x → h.register.number ≡ plain.register_at (homes_of hs) x
register_found hs i h x lt at e w = sym (register_among_is hs x ∙ ap number_or_xzr (sym w ∙ ap (λ l. register_among l x) (next_item hs i h lt at) ∙ (let k : register_among (h ∷ drop (i + 1) hs) x ≡ Some h.register = rw e refl in k)))

pub register_not_found : (hs : List Home) (i : ℕ) (x : List ℕ) → length hs ≤ i → register_among (drop i hs) x ≡ register_among hs x → 31 ≡ plain.register_at (homes_of hs) x
register_not_found hs i x le w = sym (register_among_is hs x ∙ ap number_or_xzr (sym w ∙ ap (λ l. register_among l x) (drop_all i hs le)))

-- and where it goes on
pub register_passed : (hs : List Home) (i : ℕ) (h : Home) (x : List ℕ) → i < length hs → h ≡ get_or hs i h → named x h ≡ false → register_among (drop i hs) x ≡ register_among hs x → register_among (drop (i + 1) hs) x ≡ register_among hs x
register_passed hs i h x lt at e w = sym (ap (λ l. register_among l x) (next_item hs i h lt at) ∙ (let k : register_among (h ∷ drop (i + 1) hs) x ≡ register_among (drop (i + 1) hs) x = rw e refl in k)) ∙ w
