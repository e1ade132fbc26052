-- What filters ask for of images, of devices by their numbers, and of views.
use Rattle.std.specs.Prelude.{Bool}
use Rattle.iocm_types.specs.declared.view.View.{View}
use Rattle.iocm_model.specs.Machine.Record.{ImageRecord, DeviceRecord}
use Rattle.iocm_filter.specs.Wanted.{Wanted, one_if_asked, is_within, has_at_most}
use Rattle.iocm_sight.specs.Connected.{means_image}

-- no image is asked for, or this one is, by its place or by its name
abbrev pub wants_image : Wanted → ImageRecord → Bool
wants_image w i = one_if_asked (means_image i) w.images

-- no device is asked for, or this one is in a range that is
abbrev pub wants_number : Wanted → DeviceRecord → Bool
wants_number w d = one_if_asked (is_within d.set d.number) w.devices

-- a view has as few paths online as is asked for
abbrev pub wants_online : Wanted → View → Bool
wants_online w v = one_if_asked (has_at_most v) w.online
