-- Stretches that lead on, with the free elements that they suppress.
use Rattle.std.proofs.Common.{◌≡◌, ℕ, suc, ◌+◌, ◌≤◌, Bool, false, cond, List, [], ◌∷◌, length, refl, ap, ◌∙◌, subst, arith}
use Rattle.guest_types.specs.declared.length.Width.{Width}
use Rattle.guest_types.specs.Memory.{Memory}
use Rattle.machine_model.specs.declared.outcome.StopKind.{StopKind}
use Rattle.machine_model.specs.InstructionTable.{Listed, Vector}
use Rattle.machine_model.specs.Machine.{State, Step, Went, Ended, Stopped}
use Rattle.machine_model.specs.OneStep.{cuts_in}
use Rattle.machine_model.specs.Run.{Stop, go_on}
use Rattle.machine_model.specs.VectorEffects.{do_vector}
use Rattle.label_fix.specs.DraftRun.{DraftEntry, Put, Laid, effect, draft_run}
use Rattle.label_fix.specs.Stretches.{Leads, Stops}
use Rattle.lane_emit.specs.Stretch.{VectorInstruction, and_then, do_all}
use Rattle.chunk_emit.specs.ChunkCode.{vectors, puts}
use Rattle.label_fix.specs.Suppressions.{count_on, cuts}
use Rattle.first_fault.specs.SuppressedLanes.{Suppresses, SuppressedOn}

pub rest_at : {d : Laid} {c : List DraftEntry} {s : State} (most : ℕ) → Leads d c s c s most
rest_at {d = d} {c = c} {s = s} most = record {
  count = 0;
  within = omega arith;
  by = λ k taken. let e : 0 + k ≡ k = omega arith in let f : taken ≡ taken + 0 = omega arith in ap (λ j. draft_run d j taken c s) e ∙ ap (λ n. draft_run d k n c s) f;
  cut = 0;
  tells = λ k. let e : k ≡ 0 + k = omega arith in subst (λ j. 0 + cuts d k c s ≤ cuts d j c s) e (omega arith);
}

-- one word
pub word_leads : {d : Laid} {i : Listed} {rest : List DraftEntry} {s t : State} (b : Bool) → effect i s ≡ Went t → cuts_in i s ≡ b → Leads d (Put i ∷ rest) s rest t 1
word_leads {d = d} {i = i} {rest = rest} {s = s} {t = t} b h is = record {
  count = 1;
  within = omega arith;
  by = λ k taken. let e : 1 + k ≡ suc k = omega arith in ap (λ j. draft_run d j taken (Put i ∷ rest) s) e ∙ ap (λ o. go_on o s (taken + 1) (draft_run d k (taken + 1) rest)) h;
  cut = cond b 1 0;
  tells = λ k.
      let e : 1 + k ≡ suc k = omega arith in
      let f = ap (λ j. cuts d j (Put i ∷ rest) s) e ∙ ap (λ o. count_on o (cuts_in i s) (cuts d k rest)) h ∙ ap (λ c. cond c 1 0 + cuts d k rest t) is in
      omega (arith, f);
}

pub follow : {d : Laid} {c e g : List DraftEntry} {s t u : State} {m n : ℕ} (most : ℕ) → m + n ≤ most → Leads d c s e t m → Leads d e t g u n → Leads d c s g u most
follow {d = d} {c = c} {g = g} {s = s} {u = u} most le a b = record {
  count = a.count + b.count;
  within = omega (arith, a.within, b.within, le);
  by = λ k taken.
      let e : a.count + b.count + k ≡ a.count + (b.count + k) = omega arith in
      let f : taken + a.count + b.count ≡ taken + (a.count + b.count) = omega arith in
      ap (λ j. draft_run d j taken c s) e ∙ a.by (b.count + k) taken ∙ b.by k (taken + a.count) ∙ ap (λ n. draft_run d k n g u) f;
  cut = a.cut + b.cut;
  tells = λ k.
      let e : a.count + b.count + k ≡ a.count + (b.count + k) = omega arith in
      let f = ap (λ j. cuts d j c s) e in
      let p = a.tells (b.count + k) in
      let q = b.tells k in
      omega (arith, f, p, q);
}

pub stop_following : {d : Laid} {c e : List DraftEntry} {s t : State} {m n : ℕ} {kind : StopKind} {memory : Memory} (most : ℕ) → m + n ≤ most → Leads d c s e t m → Stops d e t kind memory n → Stops d c s kind memory most
stop_following {d = d} {c = c} {s = s} {kind = kind} {memory = memory} most le a b = record {
  count = a.count + b.count;
  within = omega (arith, a.within, b.within, le);
  pc = b.pc;
  at = b.at;
  by = λ k taken.
      let e : a.count + b.count + k ≡ a.count + (b.count + k) = omega arith in
      let f : taken + a.count + b.count ≡ taken + (a.count + b.count) = omega arith in
      ap (λ j. draft_run d j taken c s) e ∙ a.by (b.count + k) taken ∙ b.by k (taken + a.count) ∙ ap (λ n. Stop kind b.pc b.at memory n) f;
}

-- ---- code without a load that may stop early

-- no word ever suppresses a free element
pub data Plain : List VectorInstruction → Type 0 where
  plain_none : Plain []
  plain_more : {v : VectorInstruction} {vs : List VectorInstruction} → ((s : State) → cuts_in (Vector v) s ≡ false) → Plain vs → Plain (v ∷ vs)

went_same : {d : Laid} {c e : List DraftEntry} {s t u : State} {most : ℕ} → Went t ≡ Went u → Leads d c s e t most → Leads d c s e u most
went_same {d = d} {c = c} {e = e} {s = s} {t = t} {u = u} {most = most} h g = let same : t ≡ u = cc in subst (λ x. Leads d c s e x most) same g

pub words_lead : {d : Laid} {rest : List DraftEntry} (c : List VectorInstruction) (s t : State) → Plain c → do_all c s ≡ Went t → Leads d (puts (vectors c) rest) s rest t (length (vectors c))
words_lead [] s t plain h = went_same h (rest_at 0)
words_lead {d = d} {rest = rest} (v ∷ vs) s t (plain_more one plain) h = by (do_vector v s) refl h (λ u k. words_lead vs u t plain k)
  where
    by : (o : Step) → do_vector v s ≡ o → and_then o (do_all vs) ≡ Went t → ((u : State) → do_all vs u ≡ Went t → Leads d (puts (vectors vs) rest) u rest t (length (vectors vs))) → Leads d (puts (vectors (v ∷ vs)) rest) s rest t (length (vectors (v ∷ vs)))
    by (Went u) e k more = follow (suc (length (vectors vs))) (omega arith) (word_leads false e (one s)) (more u k)
    by (Ended result) e k more = absurd cc
    by (Stopped kind pc at memory) e k more = absurd cc

-- ---- how many free elements

pub word-cut : (d : Laid) (i : Listed) (rest : List DraftEntry) (s t : State) (b : Bool) (h : effect i s ≡ Went t) (is : cuts_in i s ≡ b) → (word_leads {d = d} {i = i} {rest = rest} {s = s} {t = t} b h is).cut ≡ cond b 1 0
unfolding word_leads
word-cut d i rest s t b h is = refl

pub follow-cut : {d : Laid} {c e g : List DraftEntry} {s t u : State} {m n : ℕ} (most : ℕ) (le : m + n ≤ most) (a : Leads d c s e t m) (b : Leads d e t g u n) → (follow most le a b).cut ≡ a.cut + b.cut
unfolding follow
follow-cut most le a b = refl

-- ---- how many words

word-count : (d : Laid) (i : Listed) (rest : List DraftEntry) (s t : State) (b : Bool) (h : effect i s ≡ Went t) (is : cuts_in i s ≡ b) → (word_leads {d = d} {i = i} {rest = rest} {s = s} {t = t} b h is).count ≡ 1
unfolding word_leads
word-count d i rest s t b h is = refl

follow-count : {d : Laid} {c e g : List DraftEntry} {s t u : State} {m n : ℕ} (most : ℕ) (le : m + n ≤ most) (a : Leads d c s e t m) (b : Leads d e t g u n) → (follow most le a b).count ≡ a.count + b.count
unfolding follow
follow-count most le a b = refl

-- ---- of two stretches, that on whose way a free element of a lane is suppressed

pub suppressed_first : {w : Width} {d : Laid} {c e g : List DraftEntry} {s t u : State} {m n lane : ℕ} (most : ℕ) (le : m + n ≤ most) (a : Leads d c s e t m) (b : Leads d e t g u n) → SuppressedOn w a lane → SuppressedOn w (follow most le a b) lane
suppressed_first most le a b on = record {
  before = on.before;
  within = let words = follow-count most le a b in omega (arith, on.within, words);
  load = on.load;
  after = on.after;
  state = on.state;
  by = on.by;
  suppresses = on.suppresses;
}

pub suppressed_second : {w : Width} {d : Laid} {c e g : List DraftEntry} {s t u : State} {m n lane : ℕ} (most : ℕ) (le : m + n ≤ most) (a : Leads d c s e t m) (b : Leads d e t g u n) → SuppressedOn w b lane → SuppressedOn w (follow most le a b) lane
suppressed_second {d = d} {c = c} {s = s} most le a b on = record {
  before = a.count + on.before;
  within = let words = follow-count most le a b in omega (arith, on.within, words);
  load = on.load;
  after = on.after;
  state = on.state;
  by = λ k taken.
      let e : a.count + on.before + k ≡ a.count + (on.before + k) = omega arith in
      let f : taken + a.count + on.before ≡ taken + (a.count + on.before) = omega arith in
      ap (λ j. draft_run d j taken c s) e ∙ a.by (on.before + k) taken ∙ on.by k (taken + a.count) ∙ ap (λ n. draft_run d k n (Put (Vector on.load) ∷ on.after) on.state) f;
  suppresses = on.suppresses;
}

-- ---- a word that may suppress a free element, and one that does not

pub record Pair (d : Laid) (c : List DraftEntry) (s : State) (e : List DraftEntry) (t : State) (b : Bool) : Type 0 where
  pub leads : Leads d c s e t 2
  pub words : leads.count ≡ 2
  pub is : leads.cut ≡ cond b 1 0

pub pair : (d : Laid) (i j : Listed) (rest : List DraftEntry) (s t v : State) (b : Bool) → effect i s ≡ Went t → cuts_in i s ≡ b → effect j t ≡ Went v → cuts_in j t ≡ false → Pair d (Put i ∷ Put j ∷ rest) s rest v b
pair d i j rest s t v b h is k none =
    let le : 1 + 1 ≤ 2 = omega arith in
    let first : Leads d (Put i ∷ Put j ∷ rest) s (Put j ∷ rest) t 1 = word_leads b h is in
    let second : Leads d (Put j ∷ rest) t rest v 1 = word_leads false k none in
    record {
      leads = follow 2 le first second;
      words = follow-count 2 le first second ∙ ap (λ n. n + second.count) (word-count d i (Put j ∷ rest) s t b h is) ∙ ap (λ n. 1 + n) (word-count d j rest t v false k none);
      is = follow-cut 2 le first second ∙ ap (λ n. n + second.cut) (word-cut d i (Put j ∷ rest) s t b h is) ∙ ap (λ n. cond b 1 0 + n) (word-cut d j rest t v false k none) ∙ omega arith;
    }

-- its first word suppresses its free element of a lane
pub suppressed_here : (w : Width) (d : Laid) (i : VectorInstruction) (more rest : List DraftEntry) (s t : State) (b : Bool) (lane : ℕ) (p : Pair d (Put (Vector i) ∷ more) s rest t b) → Suppresses w i s lane → SuppressedOn w p.leads lane
suppressed_here w d i more rest s t b lane p h = record {
  before = 0;
  within = let words = p.words in omega (arith, words);
  load = i;
  after = more;
  state = s;
  by = λ k taken.
      let e : 0 + k ≡ k = omega arith in
      let f : taken ≡ taken + 0 = omega arith in
      ap (λ j. draft_run d j taken (Put (Vector i) ∷ more) s) e ∙ ap (λ n. draft_run d k n (Put (Vector i) ∷ more) s) f;
  suppresses = h;
}
