-- The code of a loop and of what stands before it, put together from that of its parts.
use Rattle.std.proofs.Common.{◌≡◌, ℕ, ◌+◌, ◌<◌, ◌^◌, List, [], ◌∷◌, ◌++◌, Option, Some, refl, ap, arith}
use mir.Syntax.{w64}
use mir.Val.{Fits}
use Rattle.machine_model.specs.InstructionTable.{Listed}
use Rattle.a64_code.specs.Table.{subs, add_imm}
use Rattle.kernel_tree.specs.Plain.{Accumulator, PlainLoop, Block}
use Rattle.kernel_tree.specs.Items.{term_size, block_size, vars_size}
use Rattle.kernel_tree.specs.Typing.{Scope, after_for_loop}
use Rattle.kernel_scope.specs.Scopes.{after_var}
use Rattle.label_fix.specs.DraftRun.{DraftEntry, Put, Branch, Place, If, word_of}
use Rattle.scalar_words.specs.Layout.{Constant, Form, Loose, loose_in, Layout, Homes, register_at}
use Rattle.scalar_words.specs.Words.{copy_word, word_code}
use Rattle.scalar_words.specs.KernelRegisters.{counted_x, var_home}
use Rattle.value_code.specs.ValueRegisters.{home}
use Rattle.value_code.specs.Code.{value_code}
use Rattle.loop_code.specs.Statements.{block_code}
use Rattle.loop_code.specs.Loop.{with_index, inside_of, enter_code, settle_code, back_code, again_code, numbers_code, entry_code, iterations_code}
use Rattle.loop_code.specs.Kernel.{var_code, var_labels, vars_code, vars_labels}

pub var_is : (L : Layout) (R : ℕ → ℕ) (hs hs1 : Homes) (s : Scope) (j b n d from : ℕ) (v : Accumulator) (rest : List DraftEntry) → hs1 ≡ hs → d ≡ counted_x (R j) → from ≡ home L hs1 s.index b v.init
    → value_code L hs1 s (Some v.type) b n v.init (word_code (copy_word d from) rest) ≡ var_code L R hs s j b n v rest
var_is L R hs hs1 s j b n d from v rest h e1 e2 = rw (e1, e2, h) refl

pub record VarsOn (L : Layout) (R : ℕ → ℕ) (hs hs2 : Homes) (s t : Scope) (j b b2 n n2 : ℕ) (ds ds2 : List DraftEntry) (more x : List Accumulator) : Type 0 where
  pub item : b2 + vars_size t.index more ≡ b + vars_size s.index x
  pub labels : n2 + vars_labels t.index more ≡ n + vars_labels s.index x
  pub code : (rest : List DraftEntry) → ds2 ++ vars_code L R hs2 t (j + 1) b2 n2 more rest ≡ ds ++ vars_code L R hs s j b n x rest

-- after an accumulator the code goes on at the next
pub vars_on : (L : Layout) (R : ℕ → ℕ) (hs hs2 : Homes) (s t : Scope) (j b b2 n n2 : ℕ) (ds ds2 : List DraftEntry) (v : Accumulator) (more x : List Accumulator) → x ≡ v ∷ more → t ≡ after_var s v → hs2 ≡ hs ++ var_home R j v ∷ [] → b2 ≡ b + term_size s.index v.init + 1 → n2 ≡ n + var_labels s.index v → ((rest : List DraftEntry) → ds2 ++ rest ≡ ds ++ var_code L R hs s j b n v rest) → VarsOn L R hs hs2 s t j b b2 n n2 ds ds2 more x
vars_on L R hs hs2 s t j b b2 n n2 ds ds2 v more x e f h i k g = record {
  item = rw (e, f, i) (omega arith);
  labels = rw (e, f, k) (omega arith);
  code = λ rest. rw (e, f, h, i, k) (g _);
}

pub entry_is : (r n x top : ℕ) (hs : Homes) (L : Layout) (ls : List Loose) (cs : List Constant) (w : Listed) (rest : List DraftEntry) → w ≡ word_of subs (31 ∷ 9 ∷ 0 ∷ r ∷ 0 ∷ []) → x ≡ n + 1 → ls ≡ L.loose → cs ≡ L.constants → top ≡ n + 2
    → Place n ∷ Put w ∷ Branch (If 2) x ∷ enter_code r hs ls (numbers_code cs (Place top ∷ rest)) ≡ entry_code r n hs L rest
entry_is r n x top hs L ls cs w rest e e1 e2 e3 e4 = rw (e, e1, e2, e3, e4) refl

pub entry_top : (n a b c d e : ℕ) → a ≡ n + 1 → b ≡ a → c ≡ b + 1 → d ≡ c → e ≡ d → e ≡ n + 2
entry_top n a b c d e p q r s t = omega arith

pub entry_last : (n e f : ℕ) → e ≡ n + 2 → f ≡ e + 1 → f ≡ n + 3
entry_last n e f p q = omega arith

pub entry_count : (n e f g : ℕ) → e ≡ n + 2 → f ≡ e + 1 → g ≡ f + 1 → g ≡ n + 4
entry_count n e f g p q r = omega arith

pub again_is : (f f2 : Option Form) (r n last exit : ℕ) (hs : Homes) (ls ls2 : List Loose) (w : Listed) (rest : List DraftEntry) → w ≡ word_of add_imm (9 ∷ 9 ∷ 1 ∷ 0 ∷ []) → f ≡ f2 → last ≡ n + 3 → exit ≡ n + 1 → ls ≡ ls2
    → Put w ∷ back_code f r n (Place last ∷ settle_code r hs ls (Place exit ∷ rest)) ≡ again_code f2 r n hs ls2 rest
again_is f f2 r n last exit hs ls ls2 w rest e1 e2 e3 e4 e5 = rw (e1, e2, e3, e4, e5) refl

pub loop_is : (L : Layout) (hs hs1 hs2 hs3 hs4 : Homes) (s s2 : Scope) (l : PlainLoop) (b n r last given head : ℕ) (rest : List DraftEntry) → r ≡ register_at hs1 l.bound → hs1 ≡ hs → hs2 ≡ with_index hs l → hs3 ≡ with_index hs l → hs4 ≡ with_index hs l → s2 ≡ after_for_loop s (Some l) → last ≡ n + 3 → given ≡ n + 4 → head ≡ n
    → entry_code r n hs2 L (block_code L hs3 (inside_of s2) last (b + 1) given l.body (again_code (loose_in L.loose l.index) r head hs4 L.loose rest)) ≡ iterations_code L hs s l b n rest
loop_is L hs hs1 hs2 hs3 hs4 s s2 l b n r last given head rest e1 h1 h2 h3 h4 t e2 e3 e4 = rw (e1, h1, h2, h3, h4, t, e2, e3, e4) refl

pub loop_items : (s s2 : Scope) (blk : Block) (b item : ℕ) → s2.index ≡ s.index → item ≡ b + 1 + block_size s2.index blk → item ≡ b + (1 + block_size s.index blk)
loop_items s s2 blk b item e f =
    let i = ap (λ j. block_size j blk) e in
    omega arith

pub loop_more : (b p : ℕ) → b + (1 + p) < 2 ^ 32 → Fits w64 (b + 1)
loop_more b p h = omega arith

pub inside_room : (s s2 : Scope) (blk : Block) (b : ℕ) → s2.index ≡ s.index → b + (1 + block_size s.index blk) < 2 ^ 32 → b + 1 + block_size s2.index blk < 2 ^ 32
inside_room s s2 blk b e h =
    let i = ap (λ j. block_size j blk) e in
    omega arith

-- the labels of a loop are given before they are placed
pub last_given : (last n m : ℕ) → last ≡ n + 3 → m ≡ n + 4 → last < m
last_given last n m e f = omega arith

pub last_placed : (last n m k p : ℕ) → last ≡ n + 3 → m ≡ n + 4 → k ≡ m + p → last < k
last_placed last n m k p e f g = omega arith

pub top_given : (top last head n m : ℕ) → top ≡ head + 2 → last ≡ head + 3 → last < n → m ≡ n → top < m
top_given top last head n m e f h g = omega arith

pub last_below_later_label : (last n a b : ℕ) → last < n → a ≡ n → b ≡ a → last < b
last_below_later_label last n a b h e f = omega arith

pub exit_placed : (exit last head n a b c d : ℕ) → exit ≡ head + 1 → last ≡ head + 3 → last < n → a ≡ n → b ≡ a → c ≡ b → d ≡ c → exit < d
exit_placed exit last head n a b c d e f h p q r s = omega arith
