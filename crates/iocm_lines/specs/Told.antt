-- The line of a subchannel of an image, and its parts without the two numbers.
-- Bytes by their codes: 10 is a line feed.
use Rattle.std.specs.Prelude.{◌≡◌, ◌<◌, ◌≤◌, ℕ, List, [], ◌∷◌, ◌++◌, codes}
use Rattle.arrayvec.specs.ArrayVec.{array_vec_len}
use Rattle.iocm_types.specs.declared.image.Image.{Image}
use Rattle.iocm_types.specs.declared.view.View.{View}
use Rattle.iocm_types.specs.Print.{hex4}
use Rattle.iocm_lines.specs.declared.parts.SubchannelParts.{SubchannelParts}
use Rattle.iocm_lines.specs.Lines.{line}
use Rattle.iocm_lines.specs.Subchannel.{subchannel_value}

-- an image with its name, and the line of one of its subchannels
pub record LineOf : Type 0 where
  pub image : Image
  pub name : List ℕ
  pub text : List ℕ

-- a view, but of the device of this number
abbrev pub with_device : ℕ → View → View
with_device number v = record { device = number; paths = v.paths; pim = v.pim; pam = v.pam }

-- the line of a subchannel of an image of this name, with what is seen there
abbrev pub line_at : Image → List ℕ → ℕ → ℕ → View → List ℕ
line_at i name set number v = line (subchannel_value (record { image = i; set = set; number = number }, v) name)

-- parts with the number of a subchannel and that of its device
abbrev pub with_numbers : SubchannelParts → ℕ → ℕ → List ℕ
with_numbers p number device =
    p.front.items ++ (hex4 device ++ (p.middle.items ++ (hex4 number ++ (p.back.items
    ++ (hex4 number ++ codes "\",\"type\":\"subchannel\"}\n")))))

-- there is room in a line for parts and numbers
pub record FitALine (p : SubchannelParts) : Type 0 where
  pub front : array_vec_len p.front ≤ 80
  pub middle : array_vec_len p.middle ≤ 120
  pub back : array_vec_len p.back ≤ 120

-- with the numbers they are the line of a subchannel of this image and set where this is seen, whatever
-- the device
pub record ArePartsOf (p : SubchannelParts) (i : Image) (name : List ℕ) (set : ℕ) (v : View) : Type 0 where
  pub fit : FitALine p
  pub line : (number device : ℕ) → number < 65536 → device < 65536
      → with_numbers p number device ≡ line_at i name set number (with_device device v)
