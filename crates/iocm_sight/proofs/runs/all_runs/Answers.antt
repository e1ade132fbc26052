use Rattle.std.proofs.Common.{◌<◌, ◌^◌, List, arith, map, sym, subst}
use Rattle.std.specs.Prelude.{length, sum_by}
use Rattle.std.proofs.lemmas.List.{length-map}
use Rattle.iocm_record.specs.Meaning.{device_of}
use Rattle.iocm_deck_writer.specs.Device.{Run}
use Rattle.iocm_sight.proofs.RunSums.{few}
use Rattle.iocm_sight.proofs.runs.all_runs.Goals as goal

pub returns-clause-few : goal.returns-clause-few
returns-clause-few c =
    let ds = c.deref.result.now in
    let P : List Run → Type 0 = λ rs. sum_by (λ (r : Run). r.count) rs < 2 ^ 64 in
    let long = length-map ds (λ d. device_of d.now) in
    let within : length (map (λ d. device_of d.now) ds) < 2 ^ 64 =
    omega (arith, long, c.deref.ensures.len, c.in_ok-devices.devices.small) in
    subst P (sym c.in_ok-runs.ensures) (few (map (λ d. device_of d.now) ds) within)
