-- The order of subchannels.
use Rattle.std.specs.Ordering.{nat_cmp, ordering_then}
use Rattle.std.specs.declared.cmp.Ordering.{Ordering}
use Rattle.iocm_types.specs.declared.image.Image.{Image}
use Rattle.iocm_types.specs.declared.sub_id.SubId.{SubId}

-- by channel subsystem, then by MIF image ID
abbrev pub image_cmp : Image → Image → Ordering
image_cmp a b = ordering_then (nat_cmp a.css b.css) (nat_cmp a.mif b.mif)

-- by image, then by subchannel set, then by number
abbrev pub sub_id_cmp : SubId → SubId → Ordering
sub_id_cmp a b =
    ordering_then (image_cmp a.image b.image) (ordering_then (nat_cmp a.set b.set) (nat_cmp a.number b.number))
