-- Loads and stores of each address form do what their operation does at the form's address.
use Rattle.std.proofs.Common.{◌≡◌, ℕ, ◌*◌, ◌^◌, ◌%◌, ◌<◌, [], ◌∷◌, refl, sym, subst, ap, ap₂, ◌∙◌, arith}
use Rattle.a64_code.specs.declared.LoadStoreByteOp.{LoadStoreByteOp}
use Rattle.a64_code.specs.declared.LoadStoreByteOp.TheVariants.{Ldrb}
use Rattle.a64_code.specs.declared.LoadStoreOp.{LoadStoreOp}
use Rattle.a64_code.specs.declared.LoadStoreOp.TheVariants.{Ldrh}
use Rattle.a64_code.specs.View.{byte_imm_name, wide_imm_name, byte_register_name, wide_register_name}
use Rattle.machine_model.specs.Arithmetic.{sum}
use Rattle.machine_model.specs.Machine.{State, Step, x_at, x_or_sp}
use Rattle.machine_model.specs.Answers.{IsAnswer}
use Rattle.machine_model.specs.declared.outcome.Step.{Step as StepAnswer}
use Rattle.machine_model.specs.declared.outcome.Step.TheVariants as steps
use Rattle.machine_model.specs.Effects.{act}
use Rattle.machine_model.proofs.StateLaws.{x_or_sp-below}
use Rattle.a64_machine.specs.Cores.{OnStop}
use Rattle.a64_machine.specs.Accesses.{byte_access, access, logarithm}

byte_immediate_here : (op : LoadStoreByteOp) (rt rn imm : ℕ) (s : State)
    → act (byte_imm_name op) (rt ∷ rn ∷ imm ∷ []) s ≡ byte_access op s rt (sum (x_or_sp s rn) (imm * 2 ^ 0))
byte_immediate_here Ldrb rt rn imm s = refl
byte_immediate_here other rt rn imm s = refl

wide_immediate_here : (op : LoadStoreOp) (rt rn imm : ℕ) (s : State)
    → act (wide_imm_name op) (rt ∷ rn ∷ imm ∷ []) s ≡ access op s rt (sum (x_or_sp s rn) (imm * 2 ^ logarithm op))
wide_immediate_here Ldrh rt rn imm s = refl
wide_immediate_here other rt rn imm s = refl

byte_register_here : (op : LoadStoreByteOp) (rt rn rm : ℕ) (s : State)
    → act (byte_register_name op) (rt ∷ rn ∷ rm ∷ []) s ≡ byte_access op s rt (sum (x_or_sp s rn) (x_at s rm))
byte_register_here Ldrb rt rn rm s = refl
byte_register_here other rt rn rm s = refl

wide_register_here : (op : LoadStoreOp) (rt rn scaled rm : ℕ) (s : State)
    → act (wide_register_name op) (rt ∷ rn ∷ scaled ∷ rm ∷ []) s
    ≡ access op s rt (sum (x_or_sp s rn) (x_at s rm * 2 ^ (logarithm op * scaled) % 2 ^ 64))
wide_register_here Ldrh rt rn scaled rm s = refl
wide_register_here other rt rn scaled rm s = refl

-- the answer to what the model says is the answer to what equals it
pub answer_as : (m n : Step) (r : StepAnswer) (before after : State) → n ≡ m → IsAnswer m r before after → IsAnswer n r before after
answer_as m n r before after e h = subst (λ (x : Step). IsAnswer x r before after) (sym e) h

-- what is so is so where a step ends or stops
pub on_any_stop : {fact : Type 0} (r : StepAnswer) → fact → OnStop r fact
on_any_stop steps.Went h = tt
on_any_stop steps.Ended h = h
on_any_stop (steps.Stopped stop) h = h

-- the same at an address that is the form's
pub byte_immediate : (op : LoadStoreByteOp) (rt rn imm address : ℕ) (s : State) → address ≡ sum (x_or_sp s rn) (imm * 2 ^ 0)
    → act (byte_imm_name op) (rt ∷ rn ∷ imm ∷ []) s ≡ byte_access op s rt address
byte_immediate op rt rn imm address s e = byte_immediate_here op rt rn imm s ∙ ap (byte_access op s rt) (sym e)

pub wide_immediate : (op : LoadStoreOp) (rt rn imm address unit : ℕ) (s : State) → address ≡ sum (x_or_sp s rn) (imm * 2 ^ unit) → unit ≡ logarithm op
    → act (wide_imm_name op) (rt ∷ rn ∷ imm ∷ []) s ≡ access op s rt address
wide_immediate op rt rn imm address unit s e u =
    wide_immediate_here op rt rn imm s ∙ ap (λ k. access op s rt (sum (x_or_sp s rn) (imm * 2 ^ k))) (sym u) ∙ ap (access op s rt) (sym e)

pub byte_register : (op : LoadStoreByteOp) (rt rn rm address : ℕ) (s : State) → address ≡ sum (x_or_sp s rn) (x_at s rm)
    → act (byte_register_name op) (rt ∷ rn ∷ rm ∷ []) s ≡ byte_access op s rt address
byte_register op rt rn rm address s e = byte_register_here op rt rn rm s ∙ ap (byte_access op s rt) (sym e)

pub wide_register : (op : LoadStoreOp) (rt rn scaled rm address by : ℕ) (s : State) → address ≡ sum (x_or_sp s rn) (x_at s rm * 2 ^ by % 2 ^ 64)
    → by ≡ logarithm op * scaled → act (wide_register_name op) (rt ∷ rn ∷ scaled ∷ rm ∷ []) s ≡ access op s rt address
wide_register op rt rn scaled rm address by s e u =
    wide_register_here op rt rn scaled rm s ∙ ap (λ k. access op s rt (sum (x_or_sp s rn) (x_at s rm * 2 ^ k % 2 ^ 64))) (sym u)
    ∙ ap (access op s rt) (sym e)

-- ---- at a base that is X0 to X30, and an offset that is known beforehand

offset_fits : (op : LoadStoreOp) (imm : ℕ) → imm < 2 ^ 12 → imm * 2 ^ logarithm op % 2 ^ 64 ≡ imm * 2 ^ logarithm op
offset_fits Ldrh imm lt = omega arith
offset_fits other imm lt = omega arith

pub ready_wide_immediate : (op : LoadStoreOp) (rt rn imm base unit : ℕ) (s : State) → base < 31 → base ≡ rn → imm < 2 ^ 12 → unit ≡ logarithm op
    → act (wide_imm_name op) (rt ∷ rn ∷ imm ∷ []) s ≡ access op s rt (sum (x_at s base) (imm * 2 ^ unit % 2 ^ 64))
ready_wide_immediate op rt rn imm base unit s general b lt u =
    let offset : imm * 2 ^ unit % 2 ^ 64 ≡ imm * 2 ^ unit = ap (λ k. imm * 2 ^ k % 2 ^ 64) u ∙ offset_fits op imm lt ∙ ap (λ k. imm * 2 ^ k) (sym u) in
    wide_immediate op rt rn imm (sum (x_at s base) (imm * 2 ^ unit % 2 ^ 64)) unit s
    (ap₂ sum (sym (x_or_sp-below s base general) ∙ ap (x_or_sp s) b) offset) u
