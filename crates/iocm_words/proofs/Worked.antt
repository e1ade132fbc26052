-- Words as they are written by hand.
use Rattle.std.proofs.Common.{refl}
use Rattle.std.specs.Fmt.{char_count, digits, padded_integral}
use Rattle.iocm_words.specs.Examples.{WordsAreWritten, PathsAreWritten, ImagesAreWritten}

pub words_as_worked : WordsAreWritten
unfolding digits padded_integral char_count
words_as_worked = record {
  carried = refl;
  commas = refl;
  counts = refl;
  path = refl;
  addresses = refl;
  devices = refl;
  numbers = refl;
}

pub paths_as_worked : PathsAreWritten
unfolding digits padded_integral char_count
paths_as_worked = record { none = refl; links = refl; apart = refl }

pub images_as_worked : ImagesAreWritten
unfolding digits padded_integral char_count
images_as_worked = record { none = refl; groups = refl; all = refl; not_alike = refl }
