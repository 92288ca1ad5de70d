-- The file of a kernel's code with a vector part.
use Rattle.std.proofs.Common.{◌≡◌, ℕ, ◌<◌, ◌≤◌, ◌^◌, List, [], ◌∷◌, ◌++◌, sym, subst}
use Rattle.std.specs.Prelude.{All}
use Rattle.machine_model.specs.Written.{file_of}
use Rattle.kernel_tree.specs.Plain.{Program}
use Rattle.kernel_meaning.specs.ScalarRun.{begun, scalar_run}
use Rattle.reg_assign.specs.Registers.{Assignment}
use Rattle.close_bound.specs.CloseBound.{close_bound}
use Rattle.label_fix.specs.DraftRun.{DraftEntry, Laid, Place, draft_run}
use Rattle.label_fix.specs.Suppressions.{cuts}
use Rattle.label_fix.specs.Finished.{AreFit, size, words_of}
use Rattle.label_fix.proofs.LabelsOnce.{Once, resolves_in}
use Rattle.scalar_words.specs.KernelRegisters.{register_in}
use Rattle.promises.specs.Faithful.{Follows, FreeEnds, CloseFaithful, end_steps}
use Rattle.kernel_compile.specs.Drafted.{FollowsAnywhere}
use Rattle.kernel_compile.proofs.DraftedFiles.{drafted_file}
use Rattle.kernel_compile.proofs.VectorPlaced.{whole_code}
use Rattle.kernel_compile.proofs.VectorJoin.{scalar_part, guard_part, vector_part, IsJoined, Suffices, by_close, by_iterations, code_follows}

-- ---- the file

-- Entries are the code of a kernel, and each part of it stands after a front.
pub record IsWhole (R : ℕ → ℕ) (k : Program) (a b : Assignment) (n1 n2 n3 : ℕ) (entries : List DraftEntry) : Type 0 where
  pub all : entries ≡ whole_code R k a b n1 n2 n3
  pub before_scalar : List DraftEntry
  pub scalar : entries ≡ before_scalar ++ scalar_part R k a b n1 n2 n3
  pub before_guard : List DraftEntry
  pub guard : entries ≡ before_guard ++ Place 0 ∷ guard_part R k a b n1 n2 n3
  pub before_vector : List DraftEntry
  pub vector : entries ≡ before_vector ++ vector_part R k a b n1 n3
  pub placed : Once entries

-- a bound that is met by enough steps, whatever is suppressed in them
abbrev IsBound : Program → (Program → (args : List ℕ) (vl m q : ℕ) → ℕ) → Type 0
IsBound k enough = (args : List ℕ) (vl m cut q steps : ℕ) → cut ≤ q → enough k args vl m q ≤ steps → Suffices k args vl m cut steps

-- the draft follows the scalar loop wherever it is laid
followed_within : (enough : Program → (args : List ℕ) (vl m q : ℕ) → ℕ) (k : Program) (a b c : Assignment) (labels n1 n2 n3 : ℕ) (entries : List DraftEntry) → IsBound k enough → IsJoined k a b c → IsWhole (register_in c) k a b n1 n2 n3 entries → AreFit labels entries → FollowsAnywhere enough k entries
followed_within enough k a b c labels n1 n2 n3 entries suffices j w fits base steps q args s given is few le =
    let R = register_in c in
    let code = whole_code R k a b n1 n2 n3 in
    let D : Laid = record { base = base; entries = entries } in
    let following = resolves_in D _ w.before_guard w.guard w.placed in
    let r = scalar_run k args s.memory in
    let f = code_follows k a b c j labels n1 n2 n3 D args s.memory s steps
    (record {
      whole = resolves_in D code [] w.all w.placed;
      scalar = resolves_in D _ w.before_scalar w.scalar w.placed;
      place = following.0;
      guard = following.1;
      vector = resolves_in D _ w.before_vector w.vector w.placed;
      fit = fits;
      fits = subst (AreFit labels) w.all fits;
    })
    given is
    (subst (λ es. Suffices k args s.vl (begun r) (cuts D steps es s) steps) w.all (suffices args s.vl (begun r) (cuts D steps entries s) q steps few le)) in
    subst (λ es. Follows k args s.vl r (draft_run D steps 0 es s)) (sym w.all) f

-- by the close bound, and by the iterations
pub record Followed (k : Program) (entries : List DraftEntry) : Type 0 where
  pub close : FollowsAnywhere close_bound k entries
  pub ends : FollowsAnywhere end_steps k entries

pub vector_followed : (k : Program) (a b c : Assignment) (labels n1 n2 n3 : ℕ) (entries : List DraftEntry) → IsJoined k a b c → IsWhole (register_in c) k a b n1 n2 n3 entries → AreFit labels entries → Followed k entries
vector_followed k a b c labels n1 n2 n3 entries j w fits = record {
  close = followed_within close_bound k a b c labels n1 n2 n3 entries (λ args vl m cut q steps few le. by_close q few le) j w fits;
  ends = followed_within end_steps k a b c labels n1 n2 n3 entries (λ args vl m cut q steps few le. by_iterations q le) j w fits;
}

-- both promises on a file
pub record Promised (k : Program) (file : List ℕ) : Type 0 where
  pub close : CloseFaithful k file
  pub ends : FreeEnds k file

pub vector_file : (k : Program) (a b c : Assignment) (labels n1 n2 n3 : ℕ) (entries : List DraftEntry) (words : List ℕ) → IsJoined k a b c → IsWhole (register_in c) k a b n1 n2 n3 entries → AreFit labels entries → size entries ≤ 65536 → words ≡ words_of entries → All (λ w. w < 2 ^ 32) words → Promised k (file_of words)
vector_file k a b c labels n1 n2 n3 entries words j w fits few is small =
    let follows = vector_followed k a b c labels n1 n2 n3 entries j w fits in
    record {
      close = drafted_file close_bound k labels entries words follows.close fits few is small;
      ends = drafted_file end_steps k labels entries words follows.ends fits few is small;
    }
