-- Each cell is a word, so a table of such cells is one of words.
use Rattle.std.specs.Prelude.{◌≡◌, ℕ, true, Option, List}
use Rattle.std.specs.Fmt.{decimal}
use Rattle.std.specs.List.{list_all}
use Rattle.iocm_types.specs.declared.unit_range.UnitRange.{UnitRange}
use Rattle.iocm_types.specs.Name.{is_name}
use Rattle.iocm_types.specs.Print.{hex2, hex4}
use Rattle.iocm_words.specs.declared.images.ImagePaths.{ImagePaths}
use Rattle.iocm_words.specs.declared.paths.LinkedPath.{LinkedPath}
use Rattle.iocm_words.specs.declared.ranges.DeviceNumbers.{DeviceNumbers}
use Rattle.iocm_words.specs.declared.ranges.SetNumbers.{SetNumbers}
use Rattle.iocm_words.specs.Again.{is_word}
use Rattle.iocm_words.specs.Images.{images_word, all_images_word}
use Rattle.iocm_words.specs.Paths.{paths_word}
use Rattle.iocm_words.specs.Ranges.{from_to, range_word, devices_word, set_word}
use Rattle.iocm_words.specs.Words.{carried_word, comma_word, path_word}

-- each image has a name that is one
abbrev pub have_names : List ImagePaths → Type 0
have_names images = list_all (λ (i : ImagePaths). is_name i.name) images ≡ true

-- whatever is told; of a list, if the words in it are words
pub record CellsAreWords : Type 0 where
  pub carried : (text : Option (List ℕ)) → is_word (carried_word text) ≡ true
  pub commas : (words : List (List ℕ)) → list_all is_word words ≡ true → is_word (comma_word words) ≡ true
  pub count : (n : ℕ) → is_word (decimal n) ≡ true
  pub name : (name : List ℕ) → is_name name ≡ true → is_word name ≡ true
  pub path : (css path : ℕ) → is_word (path_word css path) ≡ true
  pub unit : (unit : ℕ) → is_word (hex4 unit) ≡ true
  pub addresses : (first last : ℕ) → is_word (from_to hex2 first last) ≡ true
  pub range : (range : UnitRange) → is_word (range_word range) ≡ true
  pub devices : (devices : DeviceNumbers) → is_word (devices_word devices) ≡ true
  pub numbers : (numbers : SetNumbers) → is_word (set_word numbers) ≡ true
  pub paths : (paths : List LinkedPath) → is_word (paths_word paths) ≡ true
  pub images : (images : List ImagePaths) → have_names images → is_word (images_word images) ≡ true
  pub all_images : (images : List ImagePaths) → have_names images → is_word (all_images_word images) ≡ true
