-- What the fields of a record mean: a record of the model, with no allocator in it.
use Rattle.iocm_model.specs.Machine.Record.{Rec, PathRecord, UnitRecord, DeviceRecord, id, resource}
use Rattle.iocm_model.specs.Machine.Record.{image, limit, path, unit, device, online}
use Rattle.iocm_record.specs.declared.record.PathFields.{PathFields}
use Rattle.iocm_record.specs.declared.record.UnitFields.{UnitFields}
use Rattle.iocm_record.specs.declared.record.DeviceFields.{DeviceFields}
use Rattle.iocm_record.specs.declared.record.RecordBody.{RecordBody}
use Rattle.iocm_record.specs.declared.record.RecordBody.TheVariants.{Id, Resource, Image, Limit}
use Rattle.iocm_record.specs.declared.record.RecordBody.TheVariants.{Path, Unit, Device, Online}

-- the path of these fields
abbrev pub path_of : {A : Type 0} → PathFields A → PathRecord
path_of p = record {
  css = p.css;
  number = p.number;
  kind = p.kind;
  access = p.access;
  candidates = p.candidates;
  carried = p.carried.items;
}

-- the control unit of these fields
abbrev pub unit_of : {A : Type 0} → UnitFields A → UnitRecord
unit_of u = record {
  number = u.number;
  paths = u.paths;
  ranges = u.ranges;
  links = u.links;
  cuadd = u.cuadd;
  carried = u.carried.items;
}

-- the device of these fields
abbrev pub device_of : {A : Type 0} → DeviceFields A → DeviceRecord
device_of d = record {
  set = d.set;
  number = d.number;
  units = d.lists.units;
  unit_address = d.unit_address;
  candidates = d.lists.candidates;
  carried = d.lists.carried;
}

-- the record of these fields
abbrev pub record_of : {A : Type 0} → RecordBody A → Rec
record_of (Id carried) = id carried.items
record_of (Resource carried) = resource carried.items
record_of (Image css mif name) = image (record { css = css; mif = mif; name = name })
record_of (Limit css set number) = limit (record { css = css; set = set; limit = number })
record_of (Path p) = path (path_of p.value)
record_of (Unit u) = unit (unit_of u.value)
record_of (Device d) = device (device_of d)
record_of (Online css number name) = online (record { css = css; path = number; name = name })
