-- Where the code of a condition leads.
use Rattle.std.proofs.Common.{◌≡◌, ℕ, zero, suc, ◌+◌, ◌^◌, ◌<◌, ◌≤◌, Bool, true, false, List, ◌∷◌, Option, Some, None, refl, sym, ap, ◌∙◌, subst, arith}
use Rattle.std.specs.Prelude.{ℤ, option_map, not, nat_eq}
use Rattle.guest_types.specs.Memory.{Memory}
use Rattle.machine_model.specs.declared.outcome.StopKind.TheVariants.{Read}
use Rattle.machine_model.specs.Machine.{State, x_at, jump, next}
use Rattle.machine_model.specs.Arithmetic.{flags_of, difference, holds as flags_hold}
use Rattle.kernel_tree.specs.declared.ops.CompareOp.{CompareOp}
use Rattle.kernel_meaning.specs.Operators.{word, compare_on}
use Rattle.kernel_meaning.specs.Eval.{and_then, or_else}
use Rattle.kernel_meaning.proofs.Residues.{word-below}
use Rattle.label_fix.specs.DraftRun.{Kind, If, DraftEntry, Put, Branch, Place, Laid, is_taken, following, address_of}
use Rattle.label_fix.proofs.StretchSteps.{Goes, Stops, stay, go_more, chain, stop_after, stop_more, taken_goes, passed_goes, pass}
use Rattle.scalar_words.specs.Layout.{Layout}
use Rattle.scalar_words.specs.Words.{condition}
use Rattle.value_code.specs.ItemWords.{turned, same_sense, zero_kind, compare_word, branch_code}
use Rattle.scalar_words.proofs.Words.{InRange}
use Rattle.scalar_words.proofs.Compare.{compared, not_compared}
use Rattle.scalar_words.proofs.LayoutStates.{Assigned, Kept, kept_none, kept_on, kept_both, kept_more}
use Rattle.value_code.proofs.Comparisons.{IsSide, Compared, compare_goes}
use Rattle.kernel_tree.specs.declared.ops.CompareOp.TheVariants as compare

-- to the label where the truth is `sense`, and else on
abbrev pub led : Laid → (to : ℕ) → List DraftEntry → (sense v : Bool) → List DraftEntry
led D to rest true true = following D to
led D to rest true false = rest
led D to rest false true = rest
led D to rest false false = following D to

pub record Turned (D : Laid) (L : Layout) (c : List DraftEntry) (s : State) (target : List DraftEntry) (b e most : ℕ) : Type 0 where
  pub end : State
  pub goes : Goes D c s target end most
  pub kept : Kept L s end b e

-- where a condition leads, or a fault of a read
pub data Turns (D : Laid) (L : Layout) (c : List DraftEntry) (s : State) (to : ℕ) (rest : List DraftEntry) (b e : ℕ) (m : Memory) (most : ℕ) (sense : Bool) : Option Bool → Type 0 where
  no_turn : Stops D c s Read m most → Turns D L c s to rest b e m most sense None
  turns : {v : Bool} → Turned D L c s (led D to rest sense v) b e most → Turns D L c s to rest b e m most sense (Some v)

-- what two conditions give, where the first does not decide
abbrev pub by_side : Bool → Option Bool → Option Bool → Option Bool
by_side false o1 o2 = and_then o1 o2
by_side true o1 o2 = or_else o1 o2

-- ---- comparisons with zero

zero_flag : (n : ℕ) → n < 2 ^ 64 → flags_hold 0 (flags_of n 0) ≡ nat_eq n 0
zero_flag n h = let e : difference n 0 ≡ n = omega (arith, h) in ap (λ k. nat_eq k 0) e

zero_is : (sg : Bool) (x y : ℤ) (n : ℕ) → InRange sg x → InRange sg y → n ≡ word x → 0 ≡ word y → nat_eq n 0 ≡ compare_on compare.Eq x y
zero_is sg x y n rx ry ex ey = ap (λ k. nat_eq k 0) ex ∙ sym (zero_flag (word x) (word-below x)) ∙ ap (λ k. flags_hold 0 (flags_of (word x) k)) ey ∙ compared compare.Eq sg x y rx ry

other_is : (sg : Bool) (x y : ℤ) (n : ℕ) → InRange sg x → InRange sg y → n ≡ word x → 0 ≡ word y → not (nat_eq n 0) ≡ compare_on compare.Ne x y
other_is sg x y n rx ry ex ey = ap not (ap (λ k. nat_eq k 0) ex ∙ sym (zero_flag (word x) (word-below x))) ∙ ap (λ k. flags_hold 1 (flags_of (word x) k)) ey ∙ compared compare.Ne sg x y rx ry

zero_taken : (sense is v : Bool) (r : ℕ) (s : State) → same_sense is (nat_eq (x_at s r) 0) ≡ v → is_taken (zero_kind (same_sense sense is) r) s ≡ same_sense sense v
zero_taken true true v r s h = h
zero_taken true false v r s h = h
zero_taken false true v r s h = ap not h
zero_taken false false v r s h = back (nat_eq (x_at s r) 0) v h
  where
    back : (n v : Bool) → not n ≡ v → n ≡ not v
    back true v h = ap not h
    back false v h = ap not h

flag_taken : (sense : Bool) (op : CompareOp) (sg : Bool) (x y : ℤ) (t : State) → InRange sg x → InRange sg y → t.flags ≡ flags_of (word x) (word y) → is_taken (If (turned sense (condition op sg))) t ≡ same_sense sense (compare_on op x y)
flag_taken true op sg x y t rx ry e = ap (flags_hold (condition op sg)) e ∙ compared op sg x y rx ry
flag_taken false op sg x y t rx ry e = ap (flags_hold (turned false (condition op sg))) e ∙ not_compared op sg x y rx ry

pub kept_jump : (L : Layout) (s : State) (pc b e : ℕ) → Kept L s (jump s pc) b e
kept_jump L s pc b e = record { memory = refl; sized = refl; frame = refl; others = λ r le h. refl }

module _ (D : Laid) (L : Layout) (fit : Assigned L) where
  -- a branch that is taken where a truth is `sense`
  branched : (to : ℕ) (k : Kind) (rest : List DraftEntry) (s : State) (b e : ℕ) (sense v : Bool) → is_taken k s ≡ same_sense sense v → Turned D L (Branch k to ∷ rest) s (led D to rest sense v) b e 1
  branched to k rest s b e true true h = record { end = jump s (address_of D to); goes = taken_goes h; kept = kept_jump L s _ b e }
  branched to k rest s b e true false h = record { end = next s; goes = passed_goes h; kept = kept_jump L s _ b e }
  branched to k rest s b e false true h = record { end = next s; goes = passed_goes h; kept = kept_jump L s _ b e }
  branched to k rest s b e false false h = record { end = jump s (address_of D to); goes = taken_goes h; kept = kept_jump L s _ b e }

  -- a comparison and its branch
  flags_branch : {to : ℕ} {rest : List DraftEntry} {s : State} (number : Option ℕ) (a c : ℕ) (sense : Bool) (op : CompareOp) (sg : Bool) (x y : ℤ) (b e : ℕ) → InRange sg x → InRange sg y → Compared D (Put (compare_word number a c) ∷ (Branch (If (turned sense (condition op sg))) to ∷ rest)) s (Branch (If (turned sense (condition op sg))) to ∷ rest) x y
      → Turned D L (Put (compare_word number a c) ∷ (Branch (If (turned sense (condition op sg))) to ∷ rest)) s (led D to rest sense (compare_on op x y)) b e 2
  flags_branch {to = to} {rest = rest} number a c sense op sg x y b e rx ry g =
      let k = branched to (If (turned sense (condition op sg))) rest g.end b e sense (compare_on op x y) (flag_taken sense op sg x y g.end rx ry g.flags) in
      record { end = k.end; goes = chain 2 (omega arith) g.goes k.goes; kept = kept_both L b e (g.kept L b e) k.kept }

  zero_branch : {rest : List DraftEntry} {s : State} (to a : ℕ) (sense is v : Bool) (b e : ℕ) → same_sense is (nat_eq (x_at s a) 0) ≡ v → Turned D L (Branch (zero_kind (same_sense sense is) a) to ∷ rest) s (led D to rest sense v) b e 2
  zero_branch {rest = rest} {s = s} to a sense is v b e h =
      let k = branched to (zero_kind (same_sense sense is) a) rest s b e sense v (zero_taken sense is v a s h) in
      record { end = k.end; goes = go_more 2 (omega arith) k.goes; kept = k.kept }

  -- a comparison, and where it leads
  pub branch_goes : (to : ℕ) (rest : List DraftEntry) {s : State} (op : CompareOp) (number : Option ℕ) (sense sg : Bool) (x y : ℤ) (a c b e : ℕ) → ((v : ℕ) → number ≡ Some v → v < 4096) → a ≤ 25 → InRange sg x → InRange sg y → x_at s a ≡ word x → IsSide number c s y → Turned D L (branch_code op sense sg number a c to rest) s (led D to rest sense (compare_on op x y)) b e 2
  branch_goes to rest {s = s} compare.Eq (Some zero) sense sg x y a c b e few hi rx ry ex ey = zero_branch to a sense true (compare_on compare.Eq x y) b e (zero_is sg x y (x_at s a) rx ry ex ey)
  branch_goes to rest {s = s} compare.Ne (Some zero) sense sg x y a c b e few hi rx ry ex ey = zero_branch to a sense false (compare_on compare.Ne x y) b e (other_is sg x y (x_at s a) rx ry ex ey)
  branch_goes to rest {s = s} compare.Eq (Some (suc v)) sense sg x y a c b e few hi rx ry ex ey = flags_branch (Some (suc v)) a c sense compare.Eq sg x y b e rx ry (compare_goes D (Some (suc v)) _ s a c x y few hi ex ey)
  branch_goes to rest {s = s} compare.Eq None sense sg x y a c b e few hi rx ry ex ey = flags_branch None a c sense compare.Eq sg x y b e rx ry (compare_goes D None _ s a c x y few hi ex ey)
  branch_goes to rest {s = s} compare.Ne (Some (suc v)) sense sg x y a c b e few hi rx ry ex ey = flags_branch (Some (suc v)) a c sense compare.Ne sg x y b e rx ry (compare_goes D (Some (suc v)) _ s a c x y few hi ex ey)
  branch_goes to rest {s = s} compare.Ne None sense sg x y a c b e few hi rx ry ex ey = flags_branch None a c sense compare.Ne sg x y b e rx ry (compare_goes D None _ s a c x y few hi ex ey)
  branch_goes to rest {s = s} compare.Lt number sense sg x y a c b e few hi rx ry ex ey = flags_branch number a c sense compare.Lt sg x y b e rx ry (compare_goes D number _ s a c x y few hi ex ey)
  branch_goes to rest {s = s} compare.Le number sense sg x y a c b e few hi rx ry ex ey = flags_branch number a c sense compare.Le sg x y b e rx ry (compare_goes D number _ s a c x y few hi ex ey)
  branch_goes to rest {s = s} compare.Gt number sense sg x y a c b e few hi rx ry ex ey = flags_branch number a c sense compare.Gt sg x y b e rx ry (compare_goes D number _ s a c x y few hi ex ey)
  branch_goes to rest {s = s} compare.Ge number sense sg x y a c b e few hi rx ry ex ey = flags_branch number a c sense compare.Ge sg x y b e rx ry (compare_goes D number _ s a c x y few hi ex ey)

  -- two conditions that lead to one label, by the truth that decides
  pub both_turn : {c c2 rest : List DraftEntry} {s : State} {m : Memory} {to b b1 e e2 m1 m2 : ℕ} {o1 o2 : Option Bool} (d : Bool) (most : ℕ) → m1 + m2 ≤ most → b ≤ b1 → b1 ≤ e → e ≤ e2
      → Turns D L c s to c2 b b1 m m1 d o1 → ((t : State) → Kept L s t b b1 → Turns D L c2 t to rest b1 e m m2 d o2) → Turns D L c s to rest b e2 m most d (by_side d o1 o2)
  both_turn true most le l1 l2 l3 (no_turn g) right = no_turn (stop_more most (omega arith) g)
  both_turn false most le l1 l2 l3 (no_turn g) right = no_turn (stop_more most (omega arith) g)
  both_turn {b = b} {e2 = e2} true most le l1 l2 l3 (turns {v = true} g) right = turns (record { end = g.end; goes = chain {n = 0} most (omega arith) g.goes (stay 0); kept = kept_on L b e2 (omega arith) (omega arith) (omega arith) (omega arith) g.kept (kept_none_at g.end b) })
    where
      kept_none_at : (t : State) (q : ℕ) → Kept L t t q q
      kept_none_at t q = kept_none L t q q
  both_turn {b = b} {e2 = e2} false most le l1 l2 l3 (turns {v = false} g) right = turns (record { end = g.end; goes = chain {n = 0} most (omega arith) g.goes (stay 0); kept = kept_on L b e2 (omega arith) (omega arith) (omega arith) (omega arith) g.kept (kept_none_at g.end b) })
    where
      kept_none_at : (t : State) (q : ℕ) → Kept L t t q q
      kept_none_at t q = kept_none L t q q
  both_turn {b = b} {e2 = e2} {m2 = m2} true most le l1 l2 l3 (turns {v = false} g) right = on b e2 most le l1 l2 l3 g (right g.end g.kept)
    where
      on : {c c2 rest : List DraftEntry} {s : State} {m : Memory} {to b1 e m1 : ℕ} {o : Option Bool} (b e2 most : ℕ) → m1 + m2 ≤ most → b ≤ b1 → b1 ≤ e → e ≤ e2 → (g : Turned D L c s c2 b b1 m1) → Turns D L c2 g.end to rest b1 e m m2 true o → Turns D L c s to rest b e2 m most true o
      on b e2 most le l1 l2 l3 g (no_turn k) = no_turn (stop_after most le g.goes k)
      on b e2 most le l1 l2 l3 g (turns k) = turns (record { end = k.end; goes = chain most le g.goes k.goes; kept = kept_on L b e2 (omega arith) (omega arith) (omega arith) (omega arith) g.kept k.kept })
  both_turn {b = b} {e2 = e2} {m2 = m2} false most le l1 l2 l3 (turns {v = true} g) right = on b e2 most le l1 l2 l3 g (right g.end g.kept)
    where
      on : {c c2 rest : List DraftEntry} {s : State} {m : Memory} {to b1 e m1 : ℕ} {o : Option Bool} (b e2 most : ℕ) → m1 + m2 ≤ most → b ≤ b1 → b1 ≤ e → e ≤ e2 → (g : Turned D L c s c2 b b1 m1) → Turns D L c2 g.end to rest b1 e m m2 false o → Turns D L c s to rest b e2 m most false o
      on b e2 most le l1 l2 l3 g (no_turn k) = no_turn (stop_after most le g.goes k)
      on b e2 most le l1 l2 l3 g (turns k) = turns (record { end = k.end; goes = chain most le g.goes k.goes; kept = kept_on L b e2 (omega arith) (omega arith) (omega arith) (omega arith) g.kept k.kept })

  -- two conditions of which the first leads over the second where it decides
  pub over_turn : {c c2 rest : List DraftEntry} {s : State} {m : Memory} {to over b b1 e e2 m1 m2 : ℕ} {o1 o2 : Option Bool} (d : Bool) (most : ℕ) → m1 + m2 ≤ most → b ≤ b1 → b1 ≤ e → e ≤ e2 → following D over ≡ rest
      → Turns D L c s over c2 b b1 m m1 d o1 → ((t : State) → Kept L s t b b1 → Turns D L c2 t to (Place over ∷ rest) b1 e m m2 (not d) o2) → Turns D L c s to rest b e2 m most (not d) (by_side d o1 o2)
  over_turn true most le l1 l2 l3 at (no_turn g) right = no_turn (stop_more most (omega arith) g)
  over_turn false most le l1 l2 l3 at (no_turn g) right = no_turn (stop_more most (omega arith) g)
  over_turn {c = c} {s = s} {b = b} {e2 = e2} {m1 = m1} true most le l1 l2 l3 at (turns {v = true} g) right =
      turns (record { end = g.end; goes = go_more most (omega arith) (subst (λ es. Goes D c s es g.end m1) at g.goes); kept = kept_more L e2 (omega arith) g.kept })
  over_turn {c = c} {s = s} {b = b} {e2 = e2} {m1 = m1} false most le l1 l2 l3 at (turns {v = false} g) right =
      turns (record { end = g.end; goes = go_more most (omega arith) (subst (λ es. Goes D c s es g.end m1) at g.goes); kept = kept_more L e2 (omega arith) g.kept })
  over_turn {b = b} {e2 = e2} {m2 = m2} true most le l1 l2 l3 at (turns {v = false} g) right = on b e2 most le l1 l2 l3 g (right g.end g.kept)
    where
      on : {c c2 rest : List DraftEntry} {s : State} {m : Memory} {to over b1 e m1 : ℕ} {o : Option Bool} (b e2 most : ℕ) → m1 + m2 ≤ most → b ≤ b1 → b1 ≤ e → e ≤ e2 → (g : Turned D L c s c2 b b1 m1) → Turns D L c2 g.end to (Place over ∷ rest) b1 e m m2 false o → Turns D L c s to rest b e2 m most false o
      on b e2 most le l1 l2 l3 g (no_turn k) = no_turn (stop_after most le g.goes k)
      on b e2 most le l1 l2 l3 g (turns {v = false} k) = turns (record { end = k.end; goes = chain most le g.goes k.goes; kept = kept_on L b e2 (omega arith) (omega arith) (omega arith) (omega arith) g.kept k.kept })
      on b e2 most le l1 l2 l3 g (turns {v = true} k) = turns (record { end = k.end; goes = chain most le g.goes (chain {n = 0} m2 (omega arith) k.goes pass); kept = kept_on L b e2 (omega arith) (omega arith) (omega arith) (omega arith) g.kept k.kept })
  over_turn {b = b} {e2 = e2} {m2 = m2} false most le l1 l2 l3 at (turns {v = true} g) right = on b e2 most le l1 l2 l3 g (right g.end g.kept)
    where
      on : {c c2 rest : List DraftEntry} {s : State} {m : Memory} {to over b1 e m1 : ℕ} {o : Option Bool} (b e2 most : ℕ) → m1 + m2 ≤ most → b ≤ b1 → b1 ≤ e → e ≤ e2 → (g : Turned D L c s c2 b b1 m1) → Turns D L c2 g.end to (Place over ∷ rest) b1 e m m2 true o → Turns D L c s to rest b e2 m most true o
      on b e2 most le l1 l2 l3 g (no_turn k) = no_turn (stop_after most le g.goes k)
      on b e2 most le l1 l2 l3 g (turns {v = true} k) = turns (record { end = k.end; goes = chain most le g.goes k.goes; kept = kept_on L b e2 (omega arith) (omega arith) (omega arith) (omega arith) g.kept k.kept })
      on b e2 most le l1 l2 l3 g (turns {v = false} k) = turns (record { end = k.end; goes = chain most le g.goes (chain {n = 0} m2 (omega arith) k.goes pass); kept = kept_on L b e2 (omega arith) (omega arith) (omega arith) (omega arith) g.kept k.kept })

  pub turns_more : {c rest : List DraftEntry} {s : State} {m : Memory} {to b e m1 : ℕ} {sense : Bool} {o : Option Bool} (e2 most : ℕ) → e ≤ e2 → m1 ≤ most → Turns D L c s to rest b e m m1 sense o → Turns D L c s to rest b e2 m most sense o
  turns_more e2 most le lm (no_turn g) = no_turn (stop_more most lm g)
  turns_more e2 most le lm (turns g) = turns (record { end = g.end; goes = go_more most lm g.goes; kept = kept_more L e2 le g.kept })

  -- the contrary
  pub not_turns : {c rest : List DraftEntry} {s : State} {m : Memory} {to b e most : ℕ} {o : Option Bool} (sense : Bool) → Turns D L c s to rest b e m most (not sense) o → Turns D L c s to rest b e m most sense (option_map not o)
  not_turns sense (no_turn g) = no_turn g
  not_turns true (turns {v = true} g) = turns g
  not_turns true (turns {v = false} g) = turns g
  not_turns false (turns {v = true} g) = turns g
  not_turns false (turns {v = false} g) = turns g
