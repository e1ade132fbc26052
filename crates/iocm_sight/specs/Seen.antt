-- By which paths devices are reached, and what images see of them.
use Rattle.std.specs.Prelude.{ℕ, count_ones, if◌then◌else◌, Option, None, Some, List, map, filter}
use Rattle.std.specs.List.{filter_map, flat_map}
use Rattle.std.specs.Option.{option_and_then}
use Rattle.iocm_types.specs.declared.css_path.CssPath.{CssPath}
use Rattle.iocm_types.specs.declared.view.View.{View}
use Rattle.iocm_model.specs.Machine.Configuration.{Configuration, Lookup, lookup_of, as_image, images_of}
use Rattle.iocm_model.specs.Machine.Numbering.{subsystems}
use Rattle.iocm_model.specs.Machine.PathList.{path_list}
use Rattle.iocm_model.specs.Machine.Record.{Rec, DeviceRecord, ImageRecord}
use Rattle.iocm_model.specs.Machine.View.{view_if_seen}
use Rattle.iocm_derive.specs.Sighted.{Sighted}
use Rattle.iocm_filter.specs.Wanted.{Wanted}
use Rattle.iocm_sight.specs.WantedRows.{wants_image, wants_online}
use Rattle.iocm_sight.specs.declared.seen_by.SeenBy.{SeenBy}

-- the paths of control units, by channel subsystem
abbrev pub css_path : ℕ → ℕ → CssPath
css_path css path = record { css = css; path = path }

abbrev pub paths_by : Lookup → List ℕ → List CssPath
paths_by c units = flat_map (λ css. map (css_path css) (path_list c css units)) subsystems

-- an image with how many of a view's paths are installed in it, and online to it
abbrev pub seen_by : ImageRecord → View → SeenBy
seen_by i v = record {
  image = record { css = i.css; mif = i.mif };
  name = i.name;
  installed = count_ones v.pim;
  online = count_ones v.pam;
}

-- the same, if as few are online as is asked for
abbrev pub seen_if_wanted : Wanted → ImageRecord → View → Option SeenBy
seen_if_wanted w i v = if wants_online w v then Some (seen_by i v) else None

-- what an image sees of a device, if it sees it
abbrev pub seen_of : Wanted → Lookup → DeviceRecord → ImageRecord → Option SeenBy
seen_of w c d i = option_and_then (seen_if_wanted w i) (view_if_seen c i.css i.name d)

-- of the images that are asked for those that see a device
abbrev pub images_by : Wanted → Configuration → DeviceRecord → List SeenBy
images_by w c d = filter_map (seen_of w (lookup_of c) d) (filter (wants_image w) (images_of c))

-- the images among these records that are asked for, with their configuration, and what such an image sees of a
-- device
abbrev pub sights_in : Wanted → Configuration → List Rec → List Sighted
sights_in w c rs = map (λ i. record { records = c; image = i }) (filter (wants_image w) (filter_map as_image rs))

abbrev pub seen_from : Wanted → DeviceRecord → Sighted → Option SeenBy
seen_from w d s = seen_of w (lookup_of s.records) d s.image
