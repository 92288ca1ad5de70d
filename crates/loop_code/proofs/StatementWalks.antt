-- Statements gone over one after another, put together.
use Rattle.std.proofs.Common.{◌≡◌, Bool, true, ℕ, ◌+◌, List, ◌++◌, Option, refl, sym, ap, ap₂, ◌∙◌, arith}
use Rattle.std.specs.Prelude.{◌&&◌, option_and_then}
use Rattle.std.proofs.Math.Bool.{and_assoc}
use Rattle.kernel_tree.specs.declared.ops.Ty.{Ty}
use Rattle.kernel_tree.specs.declared.ops.BinaryOp.{BinaryOp}
use Rattle.kernel_tree.specs.declared.ops.UpdateOp.{UpdateOp}
use Rattle.kernel_meaning.specs.Operators.{operator_of}
use Rattle.kernel_tree.specs.Plain.{Action, Update, Choose, Block, Then, Term, Nothing, Else}
use Rattle.kernel_tree.specs.Items.{action_size, block_size}
use Rattle.kernel_tree.specs.Typing.{Scope, lookup, accumulator_type, left, after_action, after_block}
use Rattle.kernel_tree.proofs.Scopes.{index_after}
use Rattle.kernel_scope.specs.Scopes.{in_body}
use Rattle.label_fix.specs.DraftRun.{DraftEntry}
use Rattle.scalar_words.specs.Layout.{Constant, Form, Loose, loose_in, Layout, Homes}
use Rattle.value_code.specs.declared.extent.Extent.{Extent}
use Rattle.value_code.specs.Extents.{binary_extent}
use Rattle.value_code.specs.Covers.{held_extent, is_enough, covers, covers_truth}
use Rattle.value_code.specs.HeldNumbers.{hold_term}
use Rattle.loop_code.specs.Statements.{update_extent, after_homes, block_homes, action_labels, block_labels, action_code, block_code}
use Rattle.loop_code.specs.LoopNumbers.{hold_action, hold_block}
use Rattle.loop_code.specs.Loosening.{loosen_action, loosen_block, covers_action, covers_block, term_arrays, action_arrays, block_arrays}
use Rattle.loop_code.proofs.WalkParts.{and_true}

-- ---- the code

pub record EmitsOn (L : Layout) (s t : Scope) (hs hs2 : Homes) (exit b b2 n n2 : ℕ) (ds ds2 : List DraftEntry) (more x : Block) : Type 0 where
  pub scope : after_block t more ≡ after_block s x
  pub homes : block_homes L hs2 t b2 more ≡ block_homes L hs s b x
  pub item : b2 + block_size t.index more ≡ b + block_size s.index x
  pub labels : n2 + block_labels t.index more ≡ n + block_labels s.index x
  pub code : (rest : List DraftEntry) → ds2 ++ block_code L hs2 t exit b2 n2 more rest ≡ ds ++ block_code L hs s exit b n x rest

-- after a statement the code goes on at the next
pub emits_on : (L : Layout) (s t : Scope) (hs hs2 : Homes) (exit b b2 n n2 : ℕ) (ds ds2 : List DraftEntry) (a : Action) (more x : Block) → x ≡ Then a more → t ≡ after_action s a → hs2 ≡ after_homes L hs s b a → b2 ≡ b + action_size s.index a → n2 ≡ n + action_labels s.index a → ((rest : List DraftEntry) → ds2 ++ rest ≡ ds ++ action_code L hs s exit b n a rest) → EmitsOn L s t hs hs2 exit b b2 n n2 ds ds2 more x
emits_on L s t hs hs2 exit b b2 n n2 ds ds2 a more x e f h i k g = record {
  scope = rw (e, f) refl;
  homes = rw (e, f, h, i) refl;
  item = rw (e, f, i) (rw (index_after s a) (omega arith));
  labels = rw (e, f, k) (rw (index_after s a) (omega arith));
  code = λ rest. rw (e, f, h, i, k) (g _);
}

-- ---- what is held

pub hold_one : (p : ℕ) (hs : Homes) (s : Scope) (a : Action) (c : Term) (b : Block) (cs ds es : List Constant) → a ≡ Choose c b Nothing → ds ≡ hold_term p hs s c cs → es ≡ hold_block p hs s b ds → es ≡ hold_action p hs s a cs
hold_one p hs s a c b cs ds es is e f = rw (is, f, e) refl

pub hold_two : (p : ℕ) (hs : Homes) (s : Scope) (a : Action) (c : Term) (b d : Block) (cs ds es fs : List Constant) → a ≡ Choose c b (Else d) → ds ≡ hold_term p hs s c cs → es ≡ hold_block p hs s b ds → fs ≡ hold_block p hs s d es → fs ≡ hold_action p hs s a cs
hold_two p hs s a c b d cs ds es fs is e f g = rw (is, g, f, e) refl

pub hold_on : (p : ℕ) (hs : Homes) (s : Scope) (a : Action) (more x : Block) (cs ds : List Constant) → x ≡ Then a more → ds ≡ hold_action p hs s a cs → hold_block p hs s more ds ≡ hold_block p hs s x cs
hold_on p hs s a more x cs ds e f = rw (e, f) refl

-- ---- the arrays

pub arrays_one : (s : Scope) (a : Action) (c : Term) (b : Block) (ls ms ns : List Loose) → a ≡ Choose c b Nothing → ms ≡ term_arrays s c ls → ns ≡ block_arrays s b ms → ns ≡ action_arrays s a ls
arrays_one s a c b ls ms ns is e f = rw (is, f, e) refl

pub arrays_two : (s : Scope) (a : Action) (c : Term) (b d : Block) (ls ms ns os : List Loose) → a ≡ Choose c b (Else d) → ms ≡ term_arrays s c ls → ns ≡ block_arrays s b ms → os ≡ block_arrays s d ns → os ≡ action_arrays s a ls
arrays_two s a c b d ls ms ns os is e f g = rw (is, g, f, e) refl

pub arrays_on : (s : Scope) (a : Action) (more x : Block) (ls ms : List Loose) → x ≡ Then a more → ms ≡ action_arrays s a ls → block_arrays s more ms ≡ block_arrays s x ls
arrays_on s a more x ls ms e f = rw (e, f) refl

-- ---- whether no more is asked

pub covers_update_is : (ls : List Loose) (s : Scope) (x : List ℕ) (by : UpdateOp) (op : BinaryOp) (e : Term) (f : Option Form) (w asked : Extent) (want : Option Ty) (b c : Bool) → f ≡ loose_in ls x → op ≡ operator_of by → want ≡ option_and_then accumulator_type (lookup s x) → w ≡ held_extent f → asked ≡ binary_extent op w want → b ≡ is_enough f asked → b ≡ true → c ≡ covers ls s asked want e → c ≡ covers_action ls s (Update x by e)
covers_update_is ls s x by op e f w asked want b c h1 h2 h3 h4 h5 h6 h7 h8 =
    let ty = option_and_then accumulator_type (lookup s x) in
    let most = update_extent ls x (operator_of by) ty in
    let i : asked ≡ most = rw (h5, h4, h1, h2, h3) refl in
    let j : is_enough (loose_in ls x) most ≡ true = ap₂ is_enough (sym h1) (sym i) ∙ sym h6 ∙ h7 in
    h8 ∙ ap₂ (λ (a : Extent) (t : Option Ty). covers ls s a t e) i h3 ∙ ap (λ v. v && covers ls s most ty e) (sym j)

pub covers_one : (ls : List Loose) (s : Scope) (a : Action) (c : Term) (b : Block) (truth first : Bool) → a ≡ Choose c b Nothing → truth ≡ covers_truth ls s c → first ≡ (truth && covers_block ls s b) → first ≡ covers_action ls s a
covers_one ls s a c b truth first is e f = rw (is, f, e) (ap (λ v. covers_truth ls s c && v) (and_true (covers_block ls s b)))

pub covers_two : (ls : List Loose) (s t : Scope) (a : Action) (c : Term) (b d : Block) (truth first last : Bool) → a ≡ Choose c b (Else d) → truth ≡ covers_truth ls s c → t ≡ left s (after_block s b) → first ≡ (truth && covers_block ls s b) → last ≡ (first && covers_block ls t d) → last ≡ covers_action ls s a
covers_two ls s t a c b d truth first last is e g f h = rw (is, h, f, e, g) (and_assoc (covers_truth ls s c) (covers_block ls s b) (covers_block ls (left s (after_block s b)) d))

-- ---- which accumulators are held loosely

pub loosen_two : (s t : Scope) (all : Block) (a : Action) (c : Term) (b d : Block) (ls ms ns : List Loose) → a ≡ Choose c b (Else d) → t ≡ s → ms ≡ loosen_block (in_body s) all b ls → ns ≡ loosen_block (in_body t) all d ms → ns ≡ loosen_action (in_body s) all a ls
loosen_two s t all a c b d ls ms ns is e f g = rw (is, g, f, e) refl

pub loosen_on : (s t : Scope) (all : Block) (a : Action) (more x : Block) (ls ms : List Loose) → t ≡ s → x ≡ Then a more → ms ≡ loosen_action (in_body s) all a ls → loosen_block (in_body t) all more ms ≡ loosen_block (in_body s) all x ls
loosen_on s t all a more x ls ms g e f = rw (g, e, f) refl
