-- Each example computes.
use Rattle.std.proofs.Common.{refl}
use Rattle.iocm_script.proofs.laws.commands_are_read.Goals as goal

pub returns : goal.returns
returns c = record {
  start = refl;
  halt = refl;
  clear = refl;
  cancel = refl;
  test = refl;
  store = refl;
  modify = refl;
  active = refl;
  end = refl;
  activate = refl;
  begin = refl;
  advance = refl;
  commit = refl;
  abort = refl;
  undo = refl;
  redo = refl;
  show = refl;
}
