-- A function of the words of a draft, from its first word up to its return.
use Rattle.std.proofs.Common.{◌≡◌, ◌≢◌, ℕ, ◌+◌, ◌*◌, ◌%◌, ◌^◌, ◌<◌, ◌≤◌, true, List, [], ◌∷◌, ◌++◌, length, refl, sym, ap, ◌∙◌, subst, arith, length-append}
use Rattle.std.specs.Prelude.{All, map, slice_index_or}
use Rattle.std.proofs.lemmas.Bool.{eqb-false}
use Rattle.std.proofs.lemmas.List.{length-map}
use Rattle.std.proofs.lemmas.List.Elements.{All-cons}
use Rattle.guest_types.specs.Elements.{element}
use Rattle.guest_types.specs.Memory.{Memory, can_read}
use Rattle.machine_model.specs.CodeInMemory.{spell, words_of as listed_words}
use Rattle.machine_model.specs.Machine.{State, x_at}
use Rattle.machine_model.specs.Run.{Outcome, End, Stop, Spent, run}
use Rattle.machine_model.specs.States.{IsState}
use Rattle.machine_model.proofs.Runs.{leads_after}
use Rattle.machine_model.proofs.StatesOfRuns.{steps_keep}
use Rattle.machine_model.proofs.Suppressed.{suppressed-add}
use Rattle.label_fix.specs.DraftRun.{DraftEntry, Laid, draft_run}
use Rattle.label_fix.specs.Finished.{AreFit, StandAt, size, words_of}
use Rattle.label_fix.proofs.PlacedRuns.{words_length}
use Rattle.promises.specs.Reserved.{register_written, is_reserved}
use Rattle.call_code.specs.Called.{function_words, FrameStays, Returns, before, around, Answers, Calls, LeavesAlone, CallsAsDraft}
use Rattle.promises.specs.Function.{IsCall}
use Rattle.promises.specs.Saved.{Saved, doublewords, frame_size, kept_x, kept_z, vector_written, saved_by}
use Rattle.call_code.specs.Frame.{enter, leave, low_at, kept_words}
use Rattle.call_code.specs.Returning.{returning}
use Rattle.call_code.proofs.Among.{among_absent, unwritten_absent, all_back}
use Rattle.call_code.proofs.AroundWords.{AreSaved, are_saved, frame_holds, leave_listed}
use Rattle.call_code.proofs.Entered.{Inside, code_entered}
use Rattle.call_code.proofs.FrameNumbers.{written_is_read, words_small}
use Rattle.call_code.proofs.KeptRegisters.{Keeps, draft_keeps}
use Rattle.call_code.proofs.Left.{out}
use Rattle.call_code.proofs.Restores.{Absent, absent}
use Rattle.call_code.proofs.ReturnedRuns as returned
use Rattle.call_code.proofs.ReturnedRuns.{Stands, Returned, answered_from_start, cuts_are_fewer, length_returning, returning_stands}
use Rattle.call_code.proofs.SavedWords.{Holds, words_hold, held_in}
use Rattle.call_code.proofs.Stands.{stand_front, stand_back, stand_in, stand_from, has_code}
use Rattle.call_code.proofs.Walks.{after_add, spent_code, spent_read, shifted, run_shifted}

-- X18, X29 and X30, which no word writes, before the others
reserved_first : (s v : State) → x_at v 18 ≡ x_at s 18 → x_at v 29 ≡ x_at s 29 → x_at v 30 ≡ x_at s 30 → All (λ r. x_at v r ≡ x_at s r) kept_x → All (λ r. x_at v r ≡ x_at s r) (18 ∷ 29 ∷ 30 ∷ kept_x)
reserved_first s v a b c rest =
    All-cons (λ r. x_at v r ≡ x_at s r) 18 (29 ∷ 30 ∷ kept_x) a (All-cons (λ r. x_at v r ≡ x_at s r) 29 (30 ∷ kept_x) b (All-cons (λ r. x_at v r ≡ x_at s r) 30 kept_x c rest))

-- ---- the whole call

module _ (entries : List DraftEntry) (labels : ℕ) (s : State) (fit : AreFit labels entries) (few : size entries ≤ 65536) (alone : LeavesAlone entries) (c : IsCall (saved_by (words_of entries)) (function_words (words_of entries)) s) where
  abbrev words : List ℕ
  words = words_of entries

  abbrev v : Saved
  v = saved_by words

  saved : AreSaved v
  saved = are_saved words

  abbrev t : State
  t = (code_entered v saved words s c).0

  entered_inside : Inside v s t
  entered_inside = (code_entered v saved words s c).1

  abbrev d : Laid
  d = record { base = t.pc; entries = entries }

  low_t : t.pc < 2 ^ 64
  low_t = entered_inside.enters.state.place

  abbrev behind : List ℕ
  behind = listed_words (leave v)

  -- what stands behind the first words
  later_words : StandAt t.memory (s.pc + 4 * before v) (returning words ++ behind)
  later_words =
      let n : length (listed_words (enter v)) ≡ before v = length-map (enter v) spell in
      stand_in s.memory t.memory (s.pc + 4 * before v) (returning words ++ behind) (λ a lt. spent_code (before v) s t a entered_inside.after lt)
      (subst (λ k. StandAt s.memory (s.pc + 4 * k) (returning words ++ behind)) n (stand_back s.memory s.pc (listed_words (enter v)) (returning words ++ behind) c.code))

  stands : Stands d t.memory 0 entries
  stands =
      let e : t.pc % 2 ^ 64 ≡ (s.pc + 4 * before v) % 2 ^ 64 = let p = entered_inside.pc in let l = low_t in omega (arith, p, l) in
      returning_stands d labels t.memory fit
      (stand_from t.memory (s.pc + 4 * before v) t.pc (returning words) e (stand_front t.memory (s.pc + 4 * before v) (returning words) behind later_words))

  at_base : t.pc ≡ d.base % 2 ^ 64
  at_base = let l = low_t in omega (arith, l)

  -- the bytes of the frame may be read, whatever was done
  frame_readable : (x : ℕ) → t.sp ≤ x → x < t.sp + 8 * doublewords v → can_read s.memory x ≡ true
  frame_readable x from until =
      let e = entered_inside.enters.sp in
      written_is_read s.memory x (c.free x (omega (arith, e, from), omega (arith, e, until)))

  kept_count : length (kept_words v s) ≡ doublewords v
  kept_count =
      let a = length-append (map (x_at s) v.x) (map (low_at s) v.z) in
      let b = length-map v.x (x_at s) in
      let e = length-map v.z (low_at s) in
      omega (arith, a, b, e)

  -- the frame ends below 2 ^ 64
  frame_low : t.sp + 8 * doublewords v < 2 ^ 64
  frame_low =
      let e = entered_inside.enters.sp in
      let low = c.state.sp_small in
      let fits = frame_holds v saved in
      omega (arith, e, low, fits)

  kept_in_frame : Holds t.memory t.sp (kept_words v s)
  kept_in_frame =
      let n = kept_count in
      let low = frame_low in
      subst (λ m. Holds m t.sp (kept_words v s)) (sym entered_inside.enters.memory)
      (words_hold s.memory t.sp (kept_words v s) c.state.mapped (omega (arith, n, low)) (words_small v s saved c.state) (λ x from until. frame_readable x from (omega (arith, n, until))))

  comes_home : (n : ℕ) (m : Memory) (r steps : ℕ) → Returned (Keeps words) d t 0 n m r steps → FrameStays v t.memory t.sp m → Returns s (n + around v) m r
  comes_home n m r steps h stays =
      let u = h.end in
      let e = entered_inside.enters.sp in
      let low = c.state.sp_small in
      let is_u : IsState u = steps_keep h.count t u entered_inside.enters.state h.after in
      let place_u : u.pc % 2 ^ 64 ≡ (s.pc + 4 * before v + 4 * length (returning words)) % 2 ^ 64 =
      let p = h.place in let q = entered_inside.pc in let l = low_t in let k = length_returning words in let j = words_length entries in omega (arith, p, q, l, k, j) in
      let stand_u : StandAt u.memory u.pc behind =
      stand_from u.memory (s.pc + 4 * before v + 4 * length (returning words)) u.pc behind place_u
      (stand_in t.memory u.memory (s.pc + 4 * before v + 4 * length (returning words)) behind (λ a lt. spent_code h.count t u a h.after lt)
      (stand_back t.memory (s.pc + 4 * before v) (returning words) behind later_words)) in
      let code_u = has_code u.memory (leave v) u.pc is_u.place (leave_listed v saved) stand_u in
      let count = kept_count in
      let room = frame_low in
      let sp_u : u.sp ≡ t.sp = h.kept.sp in
      let held : Holds m t.sp (kept_words v s) = held_in t.memory m t.sp (kept_words v s) (omega (arith, count, room)) (λ x from until. stays x from (omega (arith, count, until))) kept_in_frame in
      let holds_u : Holds u.memory u.sp (kept_words v s) = subst (λ k. Holds k u.sp (kept_words v s)) (sym h.memory) (subst (λ k. Holds m k (kept_words v s)) (sym sp_u) held) in
      let o = out v saved s u c.state is_u code_u (omega (arith, sp_u, e, low)) (λ x from until. spent_read h.count t u x h.after ∙ spent_read (before v) s t x entered_inside.after ∙ frame_readable x (omega (arith, sp_u, from)) (omega (arith, sp_u, until))) holds_u in
      let w = o.0 in
      let hw = o.1 in
      let within = h.within in
      let off : (q : ℕ) → Absent q kept_x → Absent q v.x = among_absent register_written words kept_x in
      let same : (q : ℕ) → is_reserved q ≡ true → q ≢ 9 → Absent q kept_x → x_at w q ≡ x_at s q = λ q reserved ne no. hw.other_x q ne (off q no) ∙ h.kept.x q reserved ∙ entered_inside.enters.x q ne in
      let link : x_at w 30 ≡ x_at s 30 = same 30 refl (eqb-false 30 9 refl) (absent 30 kept_x refl) in
      record {
        count = before v + (h.count + length (leave v));
        within = omega (arith, within);
        end = w;
        after = after_add (before v) (h.count + length (leave v)) s t w entered_inside.after (after_add h.count (length (leave v)) t u w h.after hw.after);
        back = hw.pc ∙ link;
        memory = hw.memory ∙ h.memory;
        result = hw.other_x 0 (eqb-false 0 9 refl) (off 0 (absent 0 kept_x refl)) ∙ h.result;
        sp = hw.sp ∙ ap (λ k. k + frame_size v) sp_u ∙ e;
        x = reserved_first s w (same 18 refl (eqb-false 18 9 refl) (absent 18 kept_x refl)) (same 29 refl (eqb-false 29 9 refl) (absent 29 kept_x refl)) link
            (all_back register_written words (x_at w) (x_at s) 9 kept_x (absent 9 kept_x refl) hw.x (λ q ne no. hw.other_x q ne (unwritten_absent register_written words kept_x q no) ∙ h.kept.other_x q no ∙ entered_inside.enters.x q ne));
        z = all_back vector_written words (low_at w) (low_at s) 0 kept_z (absent 0 kept_z refl) hw.z
            (λ q ne no. ap (λ z. element 8 z 0) (hw.other_z q (unwritten_absent vector_written words kept_z q no) ∙ h.kept.other_z q no ∙ ap (λ z. slice_index_or z q []) entered_inside.enters.z));
      }

  answer : (n : ℕ) (o : Outcome) → returned.Answers (Keeps words) d t 0 n o → Answers v s t n o
  answer n (End m r steps) h = λ stays. comes_home n m r steps h stays
  answer n (Stop kind pc at m steps) h = λ ok.
      let e : before v + n ≡ n + before v = omega arith in
      let f : 0 + before v ≡ before v + 0 = omega arith in
      (leads_after (before v) s t entered_inside.after).by (before v + n) n 0 e ∙ ap (λ k. run n k t) f ∙ run_shifted n (before v) 0 t ∙ ap (shifted (before v)) (h ok)
  answer n (Spent pc m steps) h = tt

  pub calls_at : Calls v entries s
  calls_at = record {
    inner = t;
    enters = entered_inside.enters;
    answers = λ n. answer n (draft_run d n 0 entries t) (answered_from_start (Keeps words) d (draft_keeps labels d fit alone) few n t at_base stands);
    tells = λ n.
        let le = cuts_are_fewer d few n t at_base stands in
        let e = suppressed-add (before v) n s t entered_inside.after in
        omega (arith, le, e);
  }

pub calls : CallsAsDraft
calls entries labels s fit few alone c = calls_at entries labels s fit few alone c
