-- Words as they are read by hand.
use Rattle.std.specs.Prelude.{◌≡◌, List, ℕ, [], ◌∷◌, None, Some, codes, map}
use Rattle.iocm_filter.specs.declared.meant.ImageWord.TheVariants.{Place, Named}
use Rattle.iocm_filter.specs.declared.misread.FilterOption.TheVariants.{Path}
use Rattle.iocm_filter.specs.Misread.{misread_of}
use Rattle.iocm_filter.specs.Words.{Asking, image_word, device_word, unit_word, path_word, online_word}

-- control units, paths and how many are online
abbrev pub asking : List (List ℕ) → List (List ℕ) → List (List ℕ) → Asking
asking units paths online = record { images = []; devices = []; units = units; paths = paths; online = online }

-- words of each form, and what is none
pub record WordsAreRead : Type 0 where
  pub image : image_word (codes "0.2") ≡ Some (Place (record { css = 0; mif = 2 }))
  pub name : image_word (codes "LPB") ≡ Some (Named (codes "LPB"))
  pub no_images : map image_word (codes "0.0" ∷ codes "6.1" ∷ codes "0.12" ∷ []) ≡ None ∷ None ∷ None ∷ []
  pub number : device_word (codes "1003") ≡ Some (record { set = 0; first = 0x1003; last = 0x1003 })
  pub range : device_word (codes "1000-100F") ≡ Some (record { set = 0; first = 0x1000; last = 0x100F })
  pub in_set : device_word (codes "1.1000-10FF") ≡ Some (record { set = 1; first = 0x1000; last = 0x10FF })
  -- backwards, without an end, of three numbers, of five digits, and of a set that isn't there
  pub no_devices : map device_word (codes "1001-1000" ∷ codes "1000-" ∷ codes "1000-1001-1002" ∷ codes "10000"
      ∷ codes "4.1000" ∷ []) ≡ None ∷ None ∷ None ∷ None ∷ None ∷ []
  pub units : map unit_word (codes "2000" ∷ codes "FFFF" ∷ []) ≡ Some 0x2000 ∷ None ∷ []
  pub paths : map path_word (codes "0.50" ∷ codes "50" ∷ codes "4G" ∷ [])
      ≡ Some (record { css = Some 0; path = 0x50 }) ∷ Some (record { css = None; path = 0x50 }) ∷ None ∷ []
  pub online : map online_word (codes "0" ∷ codes "9" ∷ []) ≡ Some 0 ∷ None ∷ []
  -- the first word of another form, of the first option that has one
  pub misread : misread_of (asking (codes "2000" ∷ []) (codes "50" ∷ codes "4G" ∷ codes "5G" ∷ []) (codes "9" ∷ []))
      ≡ Some (Path, codes "4G")
  pub none_misread : misread_of (asking (codes "2000" ∷ []) [] (codes "8" ∷ [])) ≡ None
