-- The names of members have no escapes.
use Rattle.std.proofs.Common.{◌≡◌, codes, refl}
use Rattle.json.specs.Print.{escape, escape_byte}

pub after_key : escape (codes "after") ≡ codes "after"
unfolding escape_byte
after_key = refl

pub altered_key : escape (codes "altered") ≡ codes "altered"
unfolding escape_byte
altered_key = refl

pub available_key : escape (codes "available") ≡ codes "available"
unfolding escape_byte
available_key = refl

pub before_key : escape (codes "before") ≡ codes "before"
unfolding escape_byte
before_key = refl

pub css_key : escape (codes "css") ≡ codes "css"
unfolding escape_byte
css_key = refl

pub device_key : escape (codes "device") ≡ codes "device"
unfolding escape_byte
device_key = refl

pub image_key : escape (codes "image") ≡ codes "image"
unfolding escape_byte
image_key = refl

pub installed_key : escape (codes "installed") ≡ codes "installed"
unfolding escape_byte
installed_key = refl

pub name_key : escape (codes "name") ≡ codes "name"
unfolding escape_byte
name_key = refl

pub number_key : escape (codes "number") ≡ codes "number"
unfolding escape_byte
number_key = refl

pub pam_key : escape (codes "pam") ≡ codes "pam"
unfolding escape_byte
pam_key = refl

pub paths_key : escape (codes "paths") ≡ codes "paths"
unfolding escape_byte
paths_key = refl

pub pim_key : escape (codes "pim") ≡ codes "pim"
unfolding escape_byte
pim_key = refl

pub set_key : escape (codes "set") ≡ codes "set"
unfolding escape_byte
set_key = refl

pub subchannel_key : escape (codes "subchannel") ≡ codes "subchannel"
unfolding escape_byte
subchannel_key = refl

pub type_key : escape (codes "type") ≡ codes "type"
unfolding escape_byte
type_key = refl
