-- What is kept of words that were decoded stays right.
use Rattle.std.proofs.Common.{◌≡◌, ℕ, ◌+◌, ◌^◌, ◌<◌, ◌/◌, ◌%◌, Bool, true, false, List, get_or, length, Option, Some, None, refl, sym, ap, ap₂, ◌∙◌, subst, arith}
use Rattle.std.specs.Prelude.{All, IfSome, replicate, slice_set, IsTrue, is_none}
use Rattle.std.proofs.lemmas.List.{get_or-set_same}
use Rattle.std.proofs.lemmas.List.Elements.{All-replicate}
use Rattle.guest_types.specs.Memory.{Memory, fetched}
use Rattle.machine_model.specs.declared.outcome.Step.{Step as StepAnswer}
use Rattle.machine_model.specs.declared.outcome.Step.TheVariants as answers
use Rattle.machine_model.specs.declared.outcome.StopKind.{StopKind}
use Rattle.machine_model.specs.declared.outcome.StopKind.TheVariants.{Fetch, Undefined}
use Rattle.machine_model.specs.InstructionTable.{Listed}
use Rattle.machine_model.specs.Machine.{State, Step, Went, Ended, Stopped, memory_after}
use Rattle.machine_model.specs.OneStep.{step, does, do_word, reads_word}
use Rattle.machine_model.specs.Answers.{IsAnswer}
use Rattle.machine_model.proofs.MemoryStays.{step_code}
use Rattle.a64_machine.specs.Cores.{said}
use Rattle.a64_machine.specs.Prepared.{prepared_does, branch_after}
use Rattle.a64_machine.specs.declared.prepared_form.Prepared.{Prepared}
use Rattle.a64_machine.specs.declared.prepared_form.Prepared.TheVariants.{LessNumberJump, CompareNumberJump, CompareJump}
use Rattle.sve_machine.specs.declared.decoded.CacheEntry.{CacheEntry}
use Rattle.sve_machine.specs.declared.decoded.Decoded.{Decoded}
use Rattle.sve_machine.specs.declared.decoded.Decoded.TheVariants.{Nowhere, Ready, Scalar, Vector}
use Rattle.sve_machine.specs.declared.instruction.Instruction.{Instruction}
use Rattle.sve_machine.specs.Listing.{view_of}
use Rattle.sve_machine.specs.DecodedWords.{IsDecodedFrom, Holds, HoldsAfter, IsAlone, DecodedBothGo, decoded_does}
use Rattle.sve_machine.specs.View.{TwoGo}

-- the word of an instruction does what the instruction does
pub word_does : (word : ℕ) (i : Listed) (s : State) → reads_word word ≡ Some i → do_word (Some word) s ≡ does i s
word_does word i s h = ap (λ r. elim r as (λ o. Step) [ None ↦ Stopped Undefined s.pc word s.memory | Some i ↦ does i s ]) h

-- what is made ready of the word at a place does what the word there does
pub decoded_slot_does : (memory : Memory) (pc word : ℕ) (i : Listed) (k : Decoded) → fetched memory pc ≡ Some word → reads_word word ≡ Some i → ((s : State) → s.pc ≡ pc → does i s ≡ decoded_does k s) → (s : State) → s.pc ≡ pc → do_word (fetched memory pc) s ≡ decoded_does k s
decoded_slot_does memory pc word i k f r h s at = ap (λ w. do_word w s) f ∙ word_does word i s r ∙ h s at

left_same : (s t : State) (o : Step) (r : StepAnswer) → IsAnswer o r s t → t.memory ≡ memory_after o s
left_same s t o answers.Went e = ap (λ x. memory_after x s) (sym e)
left_same s t o answers.Ended e = ap (λ (u : State). u.memory) e.1 ∙ ap (λ x. memory_after x s) (sym e.0)
left_same s t o (answers.Stopped stop) e = ap (λ x. memory_after x s) (sym e.0)

-- the words are the same after a step, whatever it answers
pub same_code : (s t : State) (r : StepAnswer) → IsAnswer (step s) r s t → (a : ℕ) → a < 2 ^ 64 → fetched t.memory a ≡ fetched s.memory a
same_code s t r e a lt = ap (λ m. fetched m a) (left_same s t (step s) r e) ∙ step_code s a lt

after_from_same_words : (m n : Memory) (pc : ℕ) (k : Decoded) → ((a : ℕ) → a < 2 ^ 64 → fetched n a ≡ fetched m a) → HoldsAfter m pc k → HoldsAfter n pc k
after_from_same_words m n pc Nowhere same h = tt
after_from_same_words m n pc (Ready p) same h = λ branch is s at. ap (λ w. do_word w s) (same ((pc + 4) % 2 ^ 64) (omega arith)) ∙ h branch is s at
after_from_same_words m n pc (Scalar w) same h = tt
after_from_same_words m n pc (Vector w) same h = tt

decoded_from_same_words : (m n : Memory) (e : CacheEntry) → ((a : ℕ) → a < 2 ^ 64 → fetched n a ≡ fetched m a) → IsDecodedFrom m e → IsDecodedFrom n e
decoded_from_same_words m n e same k = (k.0, (λ s at. ap (λ w. do_word w s) (same e.place k.0) ∙ k.1.0 s at, after_from_same_words m n e.place e.decoded same k.1.1))

pub all_still : (m n : Memory) (es : List CacheEntry) → ((a : ℕ) → a < 2 ^ 64 → fetched n a ≡ fetched m a) → All (IsDecodedFrom m) es → All (IsDecodedFrom n) es
all_still m n es same h k d l = decoded_from_same_words m n (get_or es k d) same (h k d l)

abbrev nothing : CacheEntry
nothing = record { place = 1; decoded = Nowhere }

pub none_decoded : (m : Memory) (n : ℕ) → All (IsDecodedFrom m) (replicate n nothing)
none_decoded m n = All-replicate (IsDecodedFrom m) n nothing (omega arith, (λ s at. refl, tt))

-- a step does what an entry holds
pub step_by : (s t : State) (r : StepAnswer) (decoded : List CacheEntry) (i : ℕ) (d : CacheEntry) → ((x : CacheEntry) → Holds s.memory s.pc (get_or decoded i x)) → IsAnswer (decoded_does (get_or decoded i d).decoded s) r s t → IsAnswer (step s) r s t
step_by s t r decoded i d found h = subst (λ o. IsAnswer o r s t) (sym ((found d).0 s refl)) h

-- ---- a word that is looked up

pub not_found : {P : Type 0} (found : Bool) → found ≡ false → IsTrue found → P
not_found true e t = absurd cc
not_found false e t = absurd cc

pub in_entries : (pc count : ℕ) → count ≡ 1024 → pc / 4 % 1024 < count
in_entries pc count e = omega (arith, e)

pub found_there : (memory : Memory) (pc : ℕ) (es : List CacheEntry) (n : ℕ) (entry d : CacheEntry) → n < length es → Holds memory pc entry → Holds memory pc (get_or (slice_set es n entry) n d)
found_there memory pc es n entry d lt h = subst (Holds memory pc) (sym (get_or-set_same es n entry d lt)) h

stops_by : (memory : Memory) (pc at : ℕ) (kind : StopKind) (word : Option ℕ) (answer : StepAnswer) (s : State) → answer ≡ answers.Stopped (record { kind = kind; pc = pc; at = at }) → fetched memory pc ≡ word → s.memory ≡ memory → s.pc ≡ pc → do_word word s ≡ Stopped kind pc at s.memory → IsAnswer (step s) answer s s
stops_by memory pc at kind word answer s a f m p h =
    subst (λ x. IsAnswer (step s) x s s) (sym a) (ap₂ (λ m p. do_word (fetched m p) s) m p ∙ ap (λ w. do_word w s) f ∙ h, refl)

pub no_word : (memory : Memory) (pc : ℕ) (answer : StepAnswer) (s : State) → answer ≡ answers.Stopped (record { kind = Fetch; pc = pc; at = pc }) → fetched memory pc ≡ None → s.memory ≡ memory → s.pc ≡ pc → IsAnswer (step s) answer s s
no_word memory pc answer s a f m p = stops_by memory pc pc Fetch None answer s a f m p (ap (λ p. Stopped Fetch p p s.memory) p)

pub undefined : (memory : Memory) (pc word at : ℕ) (answer : StepAnswer) (s : State) → answer ≡ answers.Stopped (record { kind = Undefined; pc = pc; at = at }) → at ≡ word → fetched memory pc ≡ Some word → reads_word word ≡ None → s.memory ≡ memory → s.pc ≡ pc → IsAnswer (step s) answer s s
undefined memory pc word at answer s a same f r m p =
    stops_by memory pc at Undefined (Some word) answer s a f m p
    (ap (λ r. elim r as (λ o. Step) [ None ↦ Stopped Undefined s.pc word s.memory | Some i ↦ does i s ]) r
    ∙ ap₂ (λ p w. Stopped Undefined p w s.memory) p (sym same))

-- ---- what was decoded, by its form

pub decoded_as : (decoded form : Decoded) (r : StepAnswer) (before after : State) → decoded ≡ form → IsAnswer (decoded_does form before) r before after → IsAnswer (decoded_does decoded before) r before after
decoded_as decoded form r before after e h = subst (λ k. IsAnswer (decoded_does k before) r before after) (sym e) h

pub stops_nowhere : (decoded : Decoded) (went : Bool) (answer : StepAnswer) (s : State) → decoded ≡ Nowhere → went ≡ false → answer ≡ answers.Stopped (record { kind = Fetch; pc = s.pc; at = s.pc }) → IsAnswer (decoded_does decoded s) (said went answer) s s
stops_nowhere decoded went answer s k w a =
    decoded_as decoded Nowhere (said went answer) s s k
    (subst (λ w. IsAnswer (decoded_does Nowhere s) (said w answer) s s) (sym w) (subst (λ a. IsAnswer (decoded_does Nowhere s) a s s) (sym a) (refl, refl)))

pub ready_as : (i form : Instruction) (pc : ℕ) (decoded : Decoded) → i ≡ form → ((s : State) → s.pc ≡ pc → does (view_of form) s ≡ decoded_does decoded s) → (s : State) → s.pc ≡ pc → does (view_of i) s ≡ decoded_does decoded s
ready_as i form pc decoded e h = subst (λ i. (s : State) → s.pc ≡ pc → does (view_of i) s ≡ decoded_does decoded s) (sym e) h

-- ---- a comparison with the branch after it

abbrev pc_after : Step → ℕ
pc_after (Went s) = s.pc
pc_after (Ended result) = 0
pc_after (Stopped kind pc at memory) = 0

-- what stands where the first of both went on
record Between (s m : State) : Type 0 where
  pub pc : m.pc ≡ (s.pc + 4) % 2 ^ 64
  pub memory : m.memory ≡ s.memory

branch_reached : (p branch : Prepared) (s m : State) → branch_after p ≡ Some branch → prepared_does p s ≡ Went m → Between s m
branch_reached (LessNumberJump taken rd rn number place) branch s m is h = record { pc = sym (ap pc_after h); memory = sym (ap (λ o. memory_after o s) h) }
branch_reached (CompareNumberJump taken rn number place) branch s m is h = record { pc = sym (ap pc_after h); memory = sym (ap (λ o. memory_after o s) h) }
branch_reached (CompareJump taken rn rm by place) branch s m is h = record { pc = sym (ap pc_after h); memory = sym (ap (λ o. memory_after o s) h) }
branch_reached other branch s m is h = absurd cc

both_go : (s t : State) (k : Decoded) → ((u : State) → u.pc ≡ s.pc → do_word (fetched s.memory s.pc) u ≡ decoded_does k u) → HoldsAfter s.memory s.pc k → DecodedBothGo k s t → TwoGo s t
both_go s t Nowhere here after b = absurd b
both_go s t (Ready p) here after b =
    let g = branch_reached p b.branch s b.middle b.is b.first in
    record {
      middle = b.middle;
      first = here s refl ∙ b.first;
      second = ap₂ (λ m a. do_word (fetched m a) b.middle) g.memory g.pc ∙ after b.branch b.is b.middle g.pc ∙ b.second;
    }
both_go s t (Scalar w) here after b = absurd b
both_go s t (Vector w) here after b = absurd b

-- two steps do what an entry holds and the branch after it
pub two_by : (s t : State) (decoded : List CacheEntry) (i : ℕ) (d : CacheEntry) → ((x : CacheEntry) → Holds s.memory s.pc (get_or decoded i x)) → DecodedBothGo (get_or decoded i d).decoded s t → TwoGo s t
two_by s t decoded i d found b = both_go s t (get_or decoded i d).decoded (found d).0 (found d).1 b

-- the words are the same after two steps
pub same_code_after_two : (s t : State) → TwoGo s t → (a : ℕ) → a < 2 ^ 64 → fetched t.memory a ≡ fetched s.memory a
same_code_after_two s t g a lt = same_code g.middle t answers.Went g.second a lt ∙ same_code s g.middle answers.Went g.first a lt

pub both_as : (decoded : Decoded) (p : Prepared) (before after : State) → decoded ≡ Ready p → DecodedBothGo (Ready p) before after → DecodedBothGo decoded before after
both_as decoded p before after e h = subst (λ k. DecodedBothGo k before after) (sym e) h

pub after_alone : (memory : Memory) (pc : ℕ) (k : Decoded) → IsAlone k → HoldsAfter memory pc k
after_alone memory pc Nowhere h = tt
after_alone memory pc (Ready p) h = λ branch is s at. let none : None ≡ Some branch = sym h ∙ is in absurd cc
after_alone memory pc (Scalar w) h = tt
after_alone memory pc (Vector w) h = tt

pub after_joined : (memory : Memory) (pc next : ℕ) (both : Prepared) (found : Option Prepared) → next ≡ (pc + 4) % 2 ^ 64 → ((b : Prepared) → branch_after both ≡ Some b → found ≡ Some b) → IfSome found (λ p. (s : State) → s.pc ≡ next → do_word (fetched memory next) s ≡ prepared_does p s) → HoldsAfter memory pc (Ready both)
after_joined memory pc next both found e has does branch is s at =
    ap (λ a. do_word (fetched memory a) s) (sym e)
    ∙ subst (λ o. IfSome o (λ p. (u : State) → u.pc ≡ next → do_word (fetched memory next) u ≡ prepared_does p u)) (has branch is) does s (at ∙ sym e)

pub none_by_test : (o : Option Prepared) (t : Bool) → t ≡ is_none o → t ≡ true → o ≡ None
none_by_test None t e h = refl
none_by_test (Some p) t e h = let no : true ≡ false = sym h ∙ e in absurd cc
