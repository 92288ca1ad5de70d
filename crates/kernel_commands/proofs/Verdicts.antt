-- Some work is wanted of each text of a kernel, and one alone.
use Rattle.std.proofs.Common.{◌≡◌, ℕ, Bool, true, false, cond, List, length, Option, Some, None, Result, Ok, Err, refl, sym, ap, ◌∙◌, subst}
use Rattle.std.specs.Prelude.{nat_lt, option_map}
use Rattle.kernel_tree.specs.TextToken.{TextToken}
use Rattle.kernel_tree.specs.Plain.{Program}
use Rattle.kernel_tree.specs.Tokens.{tokens_of}
use Rattle.kernel_tree.specs.Limits.{most_bytes, most_tokens}
use Rattle.kernel_tree.specs.declared.fault.Fault.{Fault}
use Rattle.kernel_tree.specs.declared.fault.Fault.TheVariants as fault
use Rattle.kernel_tree.specs.Typing.{Refusal as Typing, TooLarge, TooDeep, Fails}
use Rattle.kernel_syntax.specs.Nesting.{deep_place}
use Rattle.kernel_syntax.specs.Refusals.{limit_fault, tokens_fault, words_fault}
use Rattle.kernel_syntax.specs.declared.fault.ReadFault.{ReadFault}
use Rattle.kernel_syntax.specs.declared.fault.ReadFault.TheVariants as reading
use Rattle.kernel_types.specs.declared.fault.TypeFault.{TypeFault}
use Rattle.kernel_types.specs.declared.fault.TypeFault.TheVariants as typing
use Rattle.kernel_front.specs.declared.fault.KernelFault.{KernelFault}
use Rattle.kernel_front.specs.declared.fault.KernelFault.TheVariants as kernels
use Rattle.kernel_front.specs.Verdict.{Verdict, Limited, NoKernel, Refused, Sound, IsVerdict, Explains}
use Rattle.kernel_front.proofs.OneVerdict.{one_verdict}
use Rattle.kernel_front.proofs.SomeVerdict.{some_verdict}
use Rattle.refusals.specs.declared.refusal.Refusal.{Refusal}
use Rattle.refusals.specs.declared.refusal.Refusal.TheVariants.{Kernel}
use Rattle.command_answers.specs.Answer.{Expected}
use Rattle.command_answers.specs.Reads.{AfterRead}
use Rattle.kernel_commands.specs.Kernels.{IsOfText, IsRefusedFor, IsExpectedOf, ByVerdict}

-- ---- a fault that explains a verdict

typing_at : ℕ → Fault → TypeFault
typing_at item fault.Unknown = typing.Unknown item
typing_at item fault.Twice = typing.Twice item
typing_at item fault.WrongKind = typing.WrongKind item
typing_at item (fault.Mismatch want found) = typing.Mismatch item want found
typing_at item fault.Untyped = typing.Untyped item
typing_at item fault.LiteralRange = typing.LiteralRange item
typing_at item fault.ShiftRange = typing.ShiftRange item
typing_at item fault.OffsetRange = typing.OffsetRange item

typing_of : Typing → TypeFault
typing_of (TooLarge size) = typing.TooLarge size
typing_of (TooDeep depth) = typing.TooDeep depth
typing_of (Fails found) = typing_at found.item found.fault

record Explained (v : Verdict) (f : KernelFault) : Type 0 where
  explains : Explains v f
  of_text : IsOfText f

failing : (item : ℕ) (x : Fault) → Explained (Refused (Fails (record { item = item; fault = x }))) (kernels.Broken (typing_at item x))
unfolding typing_at
failing item fault.Unknown = record { explains = (Fails (record { item = item; fault = fault.Unknown }), refl, refl); of_text = tt }
failing item other = record { explains = (Fails (record { item = item; fault = other }), refl, refl); of_text = tt }

explained_refusal : (r : Typing) → Explained (Refused r) (kernels.Broken (typing_of r))
unfolding typing_of
explained_refusal (TooLarge size) = record { explains = (TooLarge size, refl, refl); of_text = tt }
explained_refusal (TooDeep depth) = record { explains = (TooDeep depth, refl, refl); of_text = tt }
explained_refusal (Fails found) = failing found.item found.fault

-- a limit that a text passes is one of three
abbrev pub IsLimit : Option ReadFault → Type 0
IsLimit (Some (reading.Syntax token)) = ⊥
IsLimit (Some reading.Memory) = ⊥
IsLimit other = Unit {0}

either_limit : (t : Bool) (o p : Option ReadFault) → IsLimit o → IsLimit p → IsLimit (cond t o p)
either_limit true o p h k = h
either_limit false o p h k = k

deep_limit : (o : Option ℕ) → IsLimit (option_map reading.TooDeep o)
deep_limit None = tt
deep_limit (Some token) = tt

words_limit : (words : List TextToken) → IsLimit (words_fault words)
words_limit words = either_limit (nat_lt most_tokens (length words)) (Some reading.TooLong) (option_map reading.TooDeep (deep_place words)) tt (deep_limit (deep_place words))

tokens_limit : (r : Result (List TextToken) ℕ) → IsLimit (tokens_fault r)
tokens_limit (Ok words) = words_limit words
tokens_limit (Err at) = tt

text_limit : (text : List ℕ) → IsLimit (limit_fault text)
text_limit text = either_limit (nat_lt most_bytes (length text)) (Some reading.TooLong) (tokens_fault (tokens_of text)) tt (tokens_limit (tokens_of text))

limited : (f : ReadFault) → IsLimit (Some f) → Explained (Limited f) (kernels.Unread f)
limited (reading.Syntax token) h = absurd h
limited reading.Memory h = absurd h
limited other h = record { explains = refl; of_text = tt }

-- ---- some work

on_verdict : (sound : Program → Expected) (text : List ℕ) (v : Verdict) → IsVerdict text v → (w : Expected) × IsExpectedOf sound v w
on_verdict sound text (Limited f) h =
    let e = limited f (subst IsLimit h (text_limit text)) in
    (Err (Kernel (kernels.Unread f)), record { fault = kernels.Unread f; explains = e.explains; of_text = e.of_text; is_refused = refl })
on_verdict sound text (NoKernel token) h =
    (Err (Kernel (kernels.Unread (reading.Syntax token))), record { fault = kernels.Unread (reading.Syntax token); explains = refl; of_text = tt; is_refused = refl })
on_verdict sound text (Refused r) h =
    let e = explained_refusal r in
    (Err (Kernel (kernels.Broken (typing_of r))), record { fault = kernels.Broken (typing_of r); explains = e.explains; of_text = e.of_text; is_refused = refl })
on_verdict sound text (Sound k) h = (sound k, refl)

pub by_verdict : (sound : Program → Expected) (text : List ℕ) → (w : Expected) × ByVerdict sound text w
by_verdict sound text =
    let v = some_verdict text in
    let w = on_verdict sound text v.0 v.1 in
    (w.0, record { verdict = v.0; has = v.1; wanted = w.1 })

pub after : {T : Type 0} (r : Result T Refusal) (next : T → Expected → Type 0) → ((x : T) → (w : Expected) × next x w) → (w : Expected) × AfterRead r next w
after (Ok x) next all = all x
after (Err refusal) next all = (Err refusal, refl)

-- ---- one work alone

same_limit : (f g : ReadFault) → Limited f ≡ Limited g → g ≡ f
same_limit f g e = cc

no_refusal : (f : ReadFault) (r : Typing) → Limited f ≡ Refused r → ⊥
no_refusal f r e = cc

limited_only : (f : ReadFault) (x : KernelFault) → Explains (Limited f) x → IsOfText x → x ≡ kernels.Unread f
limited_only f (kernels.Unread reading.Memory) e t = absurd t
limited_only f (kernels.Unread (reading.Syntax token)) e t = absurd cc
limited_only f (kernels.Unread other) e t = ap kernels.Unread (same_limit f other e)
limited_only f (kernels.Broken typing.Memory) e t = absurd t
limited_only f other e t = absurd (no_refusal f e.0 e.1)

settles : (r s z : Typing) → Refused r ≡ Refused s → Some s ≡ Some z → z ≡ r
settles r s z e f = cc

refused_only : (r : Typing) (x : KernelFault) → Explains (Refused r) x → IsOfText x → x ≡ kernels.Broken (typing_of r)
unfolding typing_of typing_at
refused_only r (kernels.Unread reading.Memory) e t = absurd t
refused_only r (kernels.Unread other) e t = absurd cc
refused_only r (kernels.Broken typing.Memory) e t = absurd t
refused_only r (kernels.Broken (typing.Unknown item)) e t = ap (λ z. kernels.Broken (typing_of z)) (settles r e.0 (Fails (record { item = item; fault = fault.Unknown })) e.1 e.2)
refused_only r (kernels.Broken (typing.Twice item)) e t = ap (λ z. kernels.Broken (typing_of z)) (settles r e.0 (Fails (record { item = item; fault = fault.Twice })) e.1 e.2)
refused_only r (kernels.Broken (typing.WrongKind item)) e t = ap (λ z. kernels.Broken (typing_of z)) (settles r e.0 (Fails (record { item = item; fault = fault.WrongKind })) e.1 e.2)
refused_only r (kernels.Broken (typing.Mismatch item want found)) e t = ap (λ z. kernels.Broken (typing_of z)) (settles r e.0 (Fails (record { item = item; fault = fault.Mismatch want found })) e.1 e.2)
refused_only r (kernels.Broken (typing.Untyped item)) e t = ap (λ z. kernels.Broken (typing_of z)) (settles r e.0 (Fails (record { item = item; fault = fault.Untyped })) e.1 e.2)
refused_only r (kernels.Broken (typing.LiteralRange item)) e t = ap (λ z. kernels.Broken (typing_of z)) (settles r e.0 (Fails (record { item = item; fault = fault.LiteralRange })) e.1 e.2)
refused_only r (kernels.Broken (typing.ShiftRange item)) e t = ap (λ z. kernels.Broken (typing_of z)) (settles r e.0 (Fails (record { item = item; fault = fault.ShiftRange })) e.1 e.2)
refused_only r (kernels.Broken (typing.OffsetRange item)) e t = ap (λ z. kernels.Broken (typing_of z)) (settles r e.0 (Fails (record { item = item; fault = fault.OffsetRange })) e.1 e.2)
refused_only r (kernels.Broken (typing.TooLarge size)) e t = ap (λ z. kernels.Broken (typing_of z)) (settles r e.0 (TooLarge size) e.1 e.2)
refused_only r (kernels.Broken (typing.TooDeep depth)) e t = ap (λ z. kernels.Broken (typing_of z)) (settles r e.0 (TooDeep depth) e.1 e.2)

no_kernel_refused : (n : ℕ) (r : Typing) → NoKernel n ≡ Refused r → ⊥
no_kernel_refused n r e = cc

same_token : (n token : ℕ) → NoKernel n ≡ NoKernel token → token ≡ n
same_token n token e = cc

syntax_only : (n : ℕ) (x : KernelFault) → Explains (NoKernel n) x → IsOfText x → x ≡ kernels.Unread (reading.Syntax n)
syntax_only n (kernels.Unread (reading.Syntax token)) e t = ap (λ k. kernels.Unread (reading.Syntax k)) (same_token n token e)
syntax_only n (kernels.Unread reading.Memory) e t = absurd t
syntax_only n (kernels.Unread other) e t = absurd cc
syntax_only n (kernels.Broken typing.Memory) e t = absurd t
syntax_only n other e t = absurd (no_kernel_refused n e.0 e.1)

refused_work : (v : Verdict) (x : KernelFault) (a b : Expected) → ((y : KernelFault) → Explains v y → IsOfText y → y ≡ x) → IsRefusedFor v a → IsRefusedFor v b → a ≡ b
refused_work v x a b only h k =
    h.is_refused ∙ (ap (λ y. Err (Kernel y)) (only h.fault h.explains h.of_text) ∙ (sym (ap (λ y. Err (Kernel y)) (only k.fault k.explains k.of_text)) ∙ sym k.is_refused))

one_on : (sound : Program → Expected) (v : Verdict) (a b : Expected) → IsExpectedOf sound v a → IsExpectedOf sound v b → a ≡ b
one_on sound (Limited f) a b h k = refused_work (Limited f) (kernels.Unread f) a b (limited_only f) h k
one_on sound (NoKernel n) a b h k = refused_work (NoKernel n) (kernels.Unread (reading.Syntax n)) a b (syntax_only n) h k
one_on sound (Refused r) a b h k = refused_work (Refused r) (kernels.Broken (typing_of r)) a b (refused_only r) h k
one_on sound (Sound p) a b h k = h ∙ sym k

pub one_by_verdict : (sound : Program → Expected) (text : List ℕ) (a b : Expected) → ByVerdict sound text a → ByVerdict sound text b → a ≡ b
one_by_verdict sound text a b h k =
    one_on sound h.verdict a b h.wanted (subst (λ v. IsExpectedOf sound v b) (one_verdict text k.verdict h.verdict k.has h.has) k.wanted)

pub one_after : {T : Type 0} (r : Result T Refusal) (next : T → Expected → Type 0) (a b : Expected) → ((x : T) → next x a → next x b → a ≡ b) → AfterRead r next a → AfterRead r next b → a ≡ b
one_after (Ok x) next a b all p q = all x p q
one_after (Err refusal) next a b all p q = p ∙ sym q
