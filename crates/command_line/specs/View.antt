-- What the reader's values stand for.
use Rattle.std.specs.Prelude.{ℕ, List, map, option_map, String, string_bytes, Vec}
use Rattle.std.specs.Borrow.{Bor}
use Rattle.number_text.specs.View.{bytes_left}
use Rattle.command_line.specs.declared.command.Command.{Command}
use Rattle.command_line.specs.declared.command.Command.TheVariants.{Compile, Check, Eval, List as Listing, Run, Debug, Sweep, Asm, Object, Pipe}
use Rattle.command_line.specs.declared.command.Extent.{Extent as ExtentData}
use Rattle.command_line.specs.declared.command.Task.{Task as TaskData}
use Rattle.command_line.specs.declared.options.Settings.{Settings}
use Rattle.command_line.specs.declared.place.OptionName.{OptionName}
use Rattle.command_line.specs.Line.{Words, Line, Task, Extent, CompileLine, CheckLine, EvalLine, ListLine, RunLine, DebugLine, SweepLine, AsmLine, ObjectLine, PipeLine, Options}

abbrev pub texts : {A : Type 0} → List (String A) → Words
texts words = map string_bytes words

abbrev pub both_left : Bor (List ℕ) × Bor (List ℕ) → List ℕ × List ℕ
both_left x = (x.0.now, x.1.now)

-- the texts of words
abbrev pub all_left : List (Bor (List ℕ)) → Words
all_left words = map bytes_left words

-- the texts of the words of a vector
abbrev pub all_in : {B : Type 0} → Vec (Bor (List ℕ)) B → Words
all_in words = all_left words.items

abbrev pub extent_view : ExtentData → Extent
extent_view e = record { address = e.address; len = e.len }

abbrev pub options_view : Settings → Options
options_view s = record { vl = s.vl; steps = s.steps; map = option_map bytes_left s.map; dump = option_map extent_view s.dump; suppress = s.suppress }

abbrev pub settings_and_words : {B : Type 0} → Settings × Vec (Bor (List ℕ)) B → Options × Words
settings_and_words x = (options_view x.0, all_in x.1)

abbrev pub both_bytes : {B : Type 0} → String B × String B → List ℕ × List ℕ
both_bytes x = (string_bytes x.0, string_bytes x.1)

-- an option, and its value
abbrev pub name_and_value : OptionName × Bor (List ℕ) → OptionName × List ℕ
name_and_value x = (x.0, x.1.now)

abbrev pub task_view : TaskData → Task
task_view t = record {
  steps = t.steps;
  map = option_map string_bytes t.map;
  dump = option_map extent_view t.dump;
  file = string_bytes t.file;
  args = t.args.items;
}

-- the command as plain data
abbrev pub command_view : Command → Line
command_view (Compile from to) = CompileLine (string_bytes from) (string_bytes to)
command_view (Check from) = CheckLine (string_bytes from)
command_view (Eval task) = EvalLine (task_view task)
command_view (Listing from) = ListLine (string_bytes from)
command_view (Run vl suppress task) = RunLine vl suppress (task_view task)
command_view (Debug vl task) = DebugLine vl (task_view task)
command_view (Sweep number to) = SweepLine number (string_bytes to)
command_view (Asm from to) = AsmLine (string_bytes from) (string_bytes to)
command_view (Object from to) = ObjectLine (string_bytes from) (string_bytes to)
command_view (Pipe vl task) = PipeLine vl (task_view task)
