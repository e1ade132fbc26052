-- Which objects filters leave.
use Rattle.std.specs.Prelude.{Bool, not, ◌&&◌, ◌||◌, if◌then◌else◌, List, filter}
use Rattle.iocm_types.specs.declared.key.Key.{Key}
use Rattle.iocm_model.specs.Machine.Configuration.{Configuration}
use Rattle.iocm_filter.specs.Wanted.{Wanted, asks}
use Rattle.iocm_objects.specs.declared.object.Object.{Object}
use Rattle.iocm_plan_filter.specs.Connected.{is_of_devices, is_of_images, is_of_paths, is_of_units}
use Rattle.iocm_plan_filter.specs.Lost.{was_on_way}

-- for each kind of which something is asked, an object is connected with one of what is, before or after
unfoldable pub is_asked : Wanted → Configuration → Configuration → Key → Bool
is_asked w c d k = (not (asks w.images) || (is_of_images w c k || is_of_images w d k))
    && (not (asks w.devices) || is_of_devices w c d k)
    && (not (asks w.units) || (is_of_units w c k || is_of_units w d k))
    && (not (asks w.paths) || (is_of_paths w c k || is_of_paths w d k))

abbrev pub objects_asked : Wanted → Configuration → Configuration → List Object → List Object
objects_asked w c d os = filter (λ (o : Object). is_asked w c d o.key) os

-- of these objects those that were on the way of a device that is lost
abbrev pub objects_lost : Wanted → Configuration → Configuration → List Object → List Object
objects_lost w c d os = filter (λ (o : Object). was_on_way w c d o.key) os

-- what is left: what is asked for, or of that only what was on the way of a device that is lost
abbrev pub objects_left : Wanted → Bool → Configuration → Configuration → List Object → List Object
objects_left w is_lost c d os =
    if is_lost then objects_lost w c d (objects_asked w c d os) else objects_asked w c d os
