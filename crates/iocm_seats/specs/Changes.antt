-- What a change does to what is seen: the subchannels at which it differs, with what was seen and
-- what is seen afterwards.
use Rattle.std.specs.Prelude.{◌≡◌, ◌==◌, false, true, List, map, filter, Option, None, Some, if◌then◌else◌}
use Rattle.std.specs.List.{flat_map, filter_map}
use Rattle.std.specs.Option.{option_eq}
use Rattle.std.specs.FinMap.{get}
use Rattle.iocm_types.specs.declared.image.Image.{Image}
use Rattle.iocm_types.specs.declared.place.NumberCell.{NumberCell}
use Rattle.iocm_types.specs.declared.sub_id.SubId.{SubId}
use Rattle.iocm_types.specs.declared.view.View.{View}
use Rattle.iocm_model.specs.Change.Edit.{same_view}
use Rattle.iocm_model.specs.Change.Maps.{differing}
use Rattle.iocm_model.specs.Machine.Configuration.{Configuration}
use Rattle.iocm_model.specs.Machine.Numbering.{Numbering}
use Rattle.iocm_model.specs.Machine.View.{view_at}
use Rattle.iocm_model.specs.Operation.State.{Views, is_among}
use Rattle.iocm_seats.specs.Seated.{Seats, views_seated}
use Rattle.iocm_seats.specs.declared.view_change.ViewChange.{ViewChange}

-- what was seen at a subchannel, and what is seen there afterwards
abbrev pub view_change : (SubId → Option View) → (SubId → Option View) → SubId → ViewChange
view_change v w x = record { subchannel = x; before = v x; after = w x }

-- a change from one view to another at a subchannel, if they differ
abbrev pub change_from : Option View → Option View → SubId → Option ViewChange
change_from v w x = if option_eq same_view v w then None else Some (record { subchannel = x; before = v; after = w })

-- the change at a subchannel between what was seen there and what is seen there afterwards
abbrev pub change_at : (SubId → Option View) → (SubId → Option View) → SubId → Option ViewChange
change_at v w x = change_from (v x) (w x) x

-- all changes between two tables of views, in the order of subchannels
abbrev pub changes_between : Views → Views → List ViewChange
changes_between v w = map (view_change (get v) (get w)) (differing same_view v w)

-- the changes at some subchannels between what is seated and what is seen in a configuration with
-- its numbers
abbrev pub changes_at : Seats → Configuration → Numbering → List SubId → List ViewChange
changes_at seats c n xs = filter_map (change_at (get (views_seated seats)) (view_at c n)) xs

-- the subchannel of an image at a number cell
abbrev pub subchannel_at : Image → NumberCell → SubId
subchannel_at i cell = record { image = i; set = cell.set; number = cell.number }

-- the subchannels of some images at some number cells, each at those of its channel subsystem
abbrev pub candidates : List Image → List NumberCell → List SubId
candidates images cells =
    flat_map (λ (i : Image). map (subchannel_at i) (filter (λ (c : NumberCell). c.css == i.css) cells)) images

-- the subchannels at which what is seen differs are among these
abbrev pub AreCandidates : (SubId → Option View) → (SubId → Option View) → List SubId → Type 0
AreCandidates v w xs = (x : SubId) → option_eq same_view (v x) (w x) ≡ false → is_among x xs ≡ true
