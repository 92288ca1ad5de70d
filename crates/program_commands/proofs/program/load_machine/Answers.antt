use Rattle.elf_image.specs.Loaded.{plain}
use Rattle.command_answers.proofs.Loading.{few_pages}
use Rattle.program_commands.proofs.Programs.{not_loaded, not_mapped}
use Rattle.program_commands.proofs.program.load_machine.Goals as goal

pub returns-in_err-image-clause-refusal : goal.returns-in_err-image-clause-refusal
returns-in_err-image-clause-refusal c =
    not_loaded c.args.bytes.now c.args.map.now c.in_err-image.field-0.0 c.from_residual.result c.from_residual.ensures.1 c.in_err-image.ensures.refusal

pub read_map-requires : goal.read_map-requires
read_map-requires c = few_pages c.args.bytes.now (plain c.in_ok-image.image) c.in_ok-image.ensures.image

pub returns-in_err-map-clause-refusal : goal.returns-in_err-map-clause-refusal
returns-in_err-map-clause-refusal c =
    not_mapped c.args.bytes.now c.args.map.now (plain c.in_ok-image.image) c.in_err-map.field-0.0 c.from_residual-in_err-map.result
    c.in_ok-image.ensures.image c.from_residual-in_err-map.ensures.1 c.in_err-map.ensures.refused

pub returns-clause-ready : goal.returns-clause-ready
returns-clause-ready c = record {
  image = plain c.in_ok-image.image;
  pages = c.in_ok-map.map.pages.items;
  loads = c.in_ok-image.ensures.image;
  maps = c.in_ok-map.ensures.map;
  state = c.in_ok-machine.ensures.state;
  steps = c.in_ok-machine.ensures.steps;
  over = c.in_ok-machine.ensures.over;
  quiet = c.in_ok-machine.ensures.quiet;
}
