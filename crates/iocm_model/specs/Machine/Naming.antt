-- What a record names: other records by key, images by name, and unit addresses of control units.
use Rattle.std.specs.Prelude.{ℕ, List, [], ◌∷◌, ◌++◌, map, unwrap_or}
use Rattle.iocm_types.specs.declared.css_path.CssPath.{CssPath}
use Rattle.iocm_types.specs.declared.key.Key.TheVariants.{Path, Unit}
use Rattle.iocm_types.specs.declared.named.Named.{Named}
use Rattle.iocm_types.specs.declared.named.Named.TheVariants.{Record, Image, Address}
use Rattle.iocm_model.specs.Machine.Record.{Rec, id, resource, image, limit, path, unit, device, online}

-- an image by its name
abbrev pub image_named : List ℕ → Named
image_named name = Image name

-- a path by its key
abbrev pub path_named : CssPath → Named
path_named p = Record (Path p.css p.path)

-- a unit by its key
abbrev pub unit_named : ℕ → Named
unit_named number = Record (Unit number)

-- a unit address of a unit
abbrev pub address_named : ℕ → ℕ → Named
address_named address number = Address number address

-- a device names its units, then its unit address at each of these, then the images of its
-- candidates; a unit its paths; a path the images of its access list, then of its candidate list; an
-- online record its path, then its image
abbrev pub named_by : Rec → List Named
named_by (id carried) = []
named_by (resource carried) = []
named_by (image r) = []
named_by (limit r) = []
named_by (path r) = map image_named r.access ++ map image_named r.candidates
named_by (unit r) = map path_named r.paths
named_by (device r) =
    map unit_named r.units ++ map (address_named r.unit_address) r.units ++ map image_named (unwrap_or r.candidates [])
named_by (online r) = Record (Path r.css r.path) ∷ Image r.name ∷ []
