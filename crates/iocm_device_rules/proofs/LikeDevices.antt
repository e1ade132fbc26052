-- What rests on the units of a device alone is alike for devices on the same units.
use Rattle.std.proofs.Common.{◌≡◌, ℕ, Bool, List, [], None, Some, sym, ap, ◌∙◌}
use Rattle.iocm_model.specs.Machine.Record.{Rec, DeviceRecord, id, resource, image, limit, path, unit, device, online}
use Rattle.iocm_device_rules.specs.SameUnits.{AreOnSameUnits, units_on}

-- some device on these units
abbrev some_device : List ℕ → Rec
some_device units = device
    (record { set = 0; number = 0; units = units; unit_address = 0; candidates = None; carried = [] })

module _ (test : Rec → Bool) (on_units : (d : DeviceRecord) → test (device d) ≡ test (some_device d.units)) where
  of_units : (r : Rec) (units : List ℕ) → units_on r ≡ Some units → test r ≡ test (some_device units)
  of_units (id x) units is = cc
  of_units (resource x) units is = cc
  of_units (image x) units is = cc
  of_units (limit x) units is = cc
  of_units (path x) units is = cc
  of_units (unit x) units is = cc
  of_units (device d) units is = let same : d.units ≡ units = cc in on_units d ∙ ap (λ us. test (some_device us)) same
  of_units (online x) units is = cc

  pub alike : (a b : Rec) → AreOnSameUnits a b → test a ≡ test b
  alike a b same = of_units a same.units same.first ∙ sym (of_units b same.units same.second)
