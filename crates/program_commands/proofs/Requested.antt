-- A refusal of what was read is none of the files.
use Rattle.sve_debug.specs.declared.session.SessionFault.{SessionFault}
use Rattle.sve_debug.specs.declared.session.SessionFault.TheVariants as session
use Rattle.refusals.specs.Statuses.{of_session}
use Rattle.refusals.specs.declared.refusal.Refusal.{Refusal}
use Rattle.refusals.specs.declared.refusal.Refusal.TheVariants.{Usage, TooManyLive, Kernel, TooLong, Elf, Map, Asm, Pipe, Memory, File, Output}
use Rattle.command_answers.specs.Answer.{Expected}
use Rattle.command_answers.specs.Requests.{IsElsewhere}
use Rattle.command_answers.specs.Works.{RefusesProgram}
use Rattle.program_commands.specs.Commands.{RefusesAsm}

pub program_elsewhere : (wanted : Expected) (refusal : Refusal) → RefusesProgram wanted refusal → IsElsewhere refusal
program_elsewhere wanted Usage r = tt
program_elsewhere wanted (TooManyLive class need) r = tt
program_elsewhere wanted (Kernel fault) r = tt
program_elsewhere wanted TooLong r = r
program_elsewhere wanted (Elf fault) r = tt
program_elsewhere wanted (Map fault) r = tt
program_elsewhere wanted (Asm fault) r = tt
program_elsewhere wanted (Pipe fault) r = tt
program_elsewhere wanted Memory r = tt
program_elsewhere wanted File r = r
program_elsewhere wanted Output r = tt

pub asm_elsewhere : (wanted : Expected) (refusal : Refusal) → RefusesAsm wanted refusal → IsElsewhere refusal
asm_elsewhere wanted Usage r = tt
asm_elsewhere wanted (TooManyLive class need) r = tt
asm_elsewhere wanted (Kernel fault) r = tt
asm_elsewhere wanted TooLong r = r
asm_elsewhere wanted (Elf fault) r = tt
asm_elsewhere wanted (Map fault) r = tt
asm_elsewhere wanted (Asm fault) r = tt
asm_elsewhere wanted (Pipe fault) r = tt
asm_elsewhere wanted Memory r = tt
asm_elsewhere wanted File r = r
asm_elsewhere wanted Output r = tt

pub session_elsewhere : (fault : SessionFault) → IsElsewhere (of_session fault)
session_elsewhere session.Input = tt
session_elsewhere session.Output = tt
session_elsewhere session.Memory = tt
