-- A refusal of a kernel's text is none of the files.
use Rattle.refusals.specs.declared.refusal.Refusal.{Refusal}
use Rattle.refusals.specs.declared.refusal.Refusal.TheVariants.{Usage, TooManyLive, Kernel, TooLong, Elf, Map, Asm, Pipe, Memory, File, Output}
use Rattle.command_answers.specs.Answer.{Expected}
use Rattle.command_answers.specs.Requests.{IsElsewhere}
use Rattle.kernel_commands.specs.Commands.{RefusesText, RefusesEval}

pub text_elsewhere : (W : Expected → Type 0) (refusal : Refusal) → RefusesText W refusal → IsElsewhere refusal
text_elsewhere W Usage r = tt
text_elsewhere W (TooManyLive class need) r = tt
text_elsewhere W (Kernel fault) r = tt
text_elsewhere W TooLong r = r
text_elsewhere W (Elf fault) r = tt
text_elsewhere W (Map fault) r = tt
text_elsewhere W (Asm fault) r = tt
text_elsewhere W (Pipe fault) r = tt
text_elsewhere W Memory r = tt
text_elsewhere W File r = r
text_elsewhere W Output r = tt

pub eval_elsewhere : (W : Expected → Type 0) (refusal : Refusal) → RefusesEval W refusal → IsElsewhere refusal
eval_elsewhere W Usage r = tt
eval_elsewhere W (TooManyLive class need) r = tt
eval_elsewhere W (Kernel fault) r = tt
eval_elsewhere W TooLong r = r
eval_elsewhere W (Elf fault) r = tt
eval_elsewhere W (Map fault) r = tt
eval_elsewhere W (Asm fault) r = tt
eval_elsewhere W (Pipe fault) r = tt
eval_elsewhere W Memory r = tt
eval_elsewhere W File r = r
eval_elsewhere W Output r = tt
