-- Each example computes.
use Rattle.std.proofs.Common.{refl}
use Rattle.iocm_script.proofs.laws.lines_are_refused.Goals as goal

pub returns : goal.returns
returns c = record {
  lower_case = refl;
  lower_case_image = refl;
  css = refl;
  image = refl;
  set = refl;
  five_digits = refl;
  three_digits = refl;
  two_digits = refl;
  no_point = refl;
  word_too_many = refl;
  word_too_few = refl;
  image_alone = refl;
  other_actor = refl;
  other_word = refl;
  images_show = refl;
  operators_start = refl;
  upper_case_word = refl;
  bit = refl;
  mask = refl;
  parm = refl;
  zero = refl;
  sign = refl;
  over = refl;
  sync_x = refl;
  sync = refl;
}
