-- The cells of paths, control units and devices are read by the filters as what they tell.
use Rattle.std.specs.Prelude.{◌≡◌, ℕ, ◌<◌, ◌≤◌, Some}
use Rattle.iocm_filter.specs.Words.{device_word, path_word, unit_word}
use Rattle.iocm_types.specs.Print.{hex4}
use Rattle.iocm_words.specs.declared.ranges.DeviceNumbers.{DeviceNumbers}
use Rattle.iocm_words.specs.Ranges.{devices_word}
use Rattle.iocm_words.specs.Words as words

-- devices of a subchannel set, from a first to a last that isn't less
pub record IsRange (d : DeviceNumbers) : Type 0 where
  pub set : d.set < 4
  pub upwards : d.first ≤ d.last
  pub last : d.last < 65536

pub record CellsAreAskedFor : Type 0 where
  pub path : (css path : ℕ) → css < 6 → path < 256
      → path_word (words.path_word css path) ≡ Some (record { css = Some css; path = path })
  pub unit : (unit : ℕ) → unit < 65535 → unit_word (hex4 unit) ≡ Some unit
  pub devices : (d : DeviceNumbers) → IsRange d
      → device_word (devices_word d) ≡ Some (record { set = d.set; first = d.first; last = d.last })
