-- The place at which reading stops.
use Rattle.std.proofs.Common.{◌≡◌, ℕ, ◌-◌, List, length, take, drop, Result, Ok, Err, refl, sym, ap, subst, ◌∙◌, arith}
use Rattle.std.proofs.lemmas.List.{length-append, length-drop, length-map, take-append-drop}
use Rattle.std.proofs.Math.Seq.{take-append_seam}
use Rattle.kernel_tree.specs.declared.token.Token.{Token}
use Rattle.kernel_tree.specs.TextToken.{TextToken}
use Rattle.kernel_tree.specs.Plain.{Program, word_of, words_of}
use Rattle.kernel_tree.specs.Front.{KernelFronts, Viable}
use Rattle.kernel_tree.proofs.Calls.{same_Ok}
use Rattle.kernel_syntax.specs.Headers.{kernel_at}
use Rattle.kernel_syntax.specs.Refusals.{HasNoTree, IsPlace, StopsAt}
use Rattle.kernel_syntax.proofs.KernelSound.{kernel_spells}
use Rattle.kernel_syntax.proofs.StuckKernel.{kernel_stops}
use Rattle.kernel_syntax.proofs.ReachKernel.{no_further}
use Rattle.kernel_syntax.proofs.Extend.{extend_kernel_fronts}
use Rattle.kernel_syntax.proofs.FrontsCut.{cut_kernel_fronts}

-- a front that some tokens begin with reaches up to the others
pub fronts_of : (words : List TextToken) (n : ℕ) → Viable (take n words) → KernelFronts words (drop n words)
fronts_of words n v = subst (λ (z : List TextToken). KernelFronts z (drop n words)) (take-append-drop n words) (extend_kernel_fronts (drop n words) v)

pub place_is : (words : List TextToken) (left : ℕ) → kernel_at words ≡ Err left → IsPlace words (length words - left)
place_is words left q =
    let s = kernel_stops words left q in
    let c = cut_kernel_fronts s.front in
    let token : length words - left ≡ length c.pre = omega (arith, ap length c.whole, length-append c.pre s.bad, s.place) in
    let same : take (length words - left) words ≡ c.pre = ap (λ k. take k words) token ∙ ap (take (length c.pre)) c.whole ∙ take-append_seam c.pre s.bad in
    record {
      within = omega arith;
      viable = subst Viable (sym same) c.here;
      longest = λ n h v. omega (arith, h, no_further words (drop n words) left q (fronts_of words n v), length-drop n words);
    }

pub place_of : (ts : List Token) (left : ℕ) → kernel_at (words_of ts) ≡ Err left → IsPlace (words_of ts) (length ts - left)
place_of ts left q = subst (λ (k : ℕ). IsPlace (words_of ts) (k - left)) (length-map ts word_of) (place_is (words_of ts) left q)

-- a list of tokens has one place
pub one_place : (words : List TextToken) (a b : ℕ) → IsPlace words a → IsPlace words b → a ≡ b
one_place words a b p q = omega (arith, p.longest b q.within q.viable, q.longest a p.within p.viable)

-- a text stops at one token
pub stops_once : (text : List ℕ) (a b : ℕ) → StopsAt text a → StopsAt text b → a ≡ b
stops_once text a b p q = one_place p.words a b p.place (subst (λ (z : List TextToken). IsPlace z b) (same_Ok q.words p.words (sym q.tokens ∙ p.tokens)) q.place)

by_reading : (text : List ℕ) (n : HasNoTree text) (r : Result Program ℕ) → kernel_at n.words ≡ r → (token : ℕ) × StopsAt text token
by_reading text n (Ok k) e = absurd (n.none k (kernel_spells n.words k e))
by_reading text n (Err left) e = (length n.words - left, record { words = n.words; tokens = n.tokens; place = place_is n.words left e })

-- a text with no tree stops at some token
pub stops_somewhere : (text : List ℕ) → HasNoTree text → (token : ℕ) × StopsAt text token
stops_somewhere text n = by_reading text n (kernel_at n.words) refl
