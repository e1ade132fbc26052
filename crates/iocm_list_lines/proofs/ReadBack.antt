-- Lines of lists are read back.
use Rattle.std.proofs.Common.{ℕ, ◌+◌, ◌-◌, ◌<◌, ◌≤◌, ◌^◌, List, [], ◌∷◌, Option, None, Some, refl, arith, codes}
use Rattle.std.specs.List.{AllByRecursion}
use Rattle.iocm_types.specs.declared.css_path.CssPath.{CssPath}
use Rattle.iocm_types.specs.declared.unit_range.UnitRange.{UnitRange}
use Rattle.iocm_types.specs.Print.{hex2, hex4}
use Rattle.iocm_words.specs.declared.paths.LinkedPath.{LinkedPath}
use Rattle.iocm_words.specs.declared.ranges.SetNumbers.{SetNumbers}
use Rattle.iocm_list.specs.DeviceRows.{DeviceRow}
use Rattle.iocm_list.specs.ImageRows.{ImageRow}
use Rattle.iocm_list.specs.declared.path_row.PathRow.{PathRow}
use Rattle.iocm_sight.specs.declared.seen_by.SeenBy.{SeenBy}
use Rattle.iocm_list.specs.declared.unit_row.UnitRow.{UnitRow}
use Rattle.serde_json.specs.Data.{Data, string, depth, members_depth}
use Rattle.iocm_lines.specs.Again.{IsPlain}
use Rattle.iocm_lines.specs.Members.{members, object_of, count, image_name}
use Rattle.iocm_lines.proofs.ReadBack.{plain_is_read_back}
use Rattle.iocm_record_lines.specs.Records.{number_value, range_value, unit_path_value, use_text}
use Rattle.iocm_record_lines.proofs.ReadBack.{all_plain, each_plain, all_low, names_plain, names_low, cuadd_plain}
use Rattle.iocm_record_lines.proofs.ReadBack.{cuadd_low, path_plain, path_low, range_plain}
use Rattle.iocm_list_lines.specs.Again.{LinesAreReadBack, HasPathNumbers, HasUnitNumbers, HasSeenNumbers}
use Rattle.iocm_list_lines.specs.Again.{HasDeviceNumbers, HasSetNumbers, HasImageNumbers}
use Rattle.iocm_list_lines.specs.Devices.{device_members, device_value, seen_members, seen_value}
use Rattle.iocm_list_lines.specs.Images.{image_members, image_value, set_value}
use Rattle.iocm_list_lines.specs.Members as of_members
use Rattle.iocm_list_lines.specs.Members.{text_value}
use Rattle.iocm_list_lines.specs.Paths.{path_members, path_value}
use Rattle.iocm_list_lines.specs.Units.{devices_value, unit_members, unit_value}

-- ---- how deep an object is

abbrev AreLow : ℕ → List (List ℕ × Data) → Type 0
AreLow n ms = AllByRecursion (λ (m : List ℕ × Data). depth m.1 ≤ n) ms

members_low : (n : ℕ) (ms : List (List ℕ × Data)) → AreLow n ms → members_depth (members ms) ≤ n
members_low n [] low = omega arith
members_low n (m ∷ ms) low = omega (arith, low.0, members_low n ms low.1)

object_low : (n : ℕ) (ms : List (List ℕ × Data)) → AreLow n ms → depth (object_of ms) ≤ n + 1
object_low n ms low = omega (arith, members_low n ms low)

-- a value that has no parts
string_low : (n : ℕ) (s : List ℕ) → depth (string s) ≤ n
string_low n s = omega arith

count_low : (n k : ℕ) → depth (count k) ≤ n
count_low n k = omega arith

text_low : (n : ℕ) (text : Option (List ℕ)) → depth (text_value text) ≤ n
text_low n None = omega arith
text_low n (Some text) = omega arith

text_plain : (text : Option (List ℕ)) → IsPlain (text_value text)
text_plain None = tt
text_plain (Some text) = tt

-- ---- a channel path

path_row_plain : (r : PathRow) → HasPathNumbers r → IsPlain (path_value r)
path_row_plain r h = let t = r.texts in (
  text_plain t.aid,
  refl,
  (
    text_plain t.pchid,
    refl,
    (
      text_plain t.port,
      refl,
      (
        text_plain t.switch,
        refl,
        (
          text_plain t.channel_type,
          refl,
          (
            text_plain t.vchid,
            refl,
            (
              h.css,
              refl,
              (
                h.devices,
                refl,
                (
                  names_plain r.offline,
                  refl,
                  (
                    names_plain r.online,
                    refl,
                    (
                      tt,
                      refl,
                      (
                        tt,
                        refl,
                        (
                          each_plain number_value (λ _. tt) r.units,
                          refl,
                          (tt, refl, tt),
                        ),
                      ),
                    ),
                  ),
                ),
              ),
            ),
          ),
        ),
      ),
    ),
  ),
)

path_row_low : (r : PathRow) → depth (path_value r) ≤ 2
path_row_low r = let t = r.texts in object_low 1 (path_members r) (
  text_low 1 t.aid,
  (
    text_low 1 t.pchid,
    (
      text_low 1 t.port,
      (
        text_low 1 t.switch,
        (
          text_low 1 t.channel_type,
          (
            text_low 1 t.vchid,
            (
              count_low 1 r.css,
              (
                count_low 1 r.devices,
                (
                  names_low r.offline,
                  (
                    names_low r.online,
                    (
                      string_low 1 (hex2 r.number),
                      (
                        string_low 1 (codes "path"),
                        (
                          omega (arith, all_low number_value 0 (λ _. omega arith) r.units),
                          (string_low 1 (use_text r.kind), tt),
                        ),
                      ),
                    ),
                  ),
                ),
              ),
            ),
          ),
        ),
      ),
    ),
  ),
)

-- ---- a control unit

unit_row_plain : (r : UnitRow) → HasUnitNumbers r → IsPlain (unit_value r)
unit_row_plain r h = (
  text_plain r.unit_type,
  refl,
  (
    cuadd_plain r.cuadd,
    refl,
    (
      h.devices,
      refl,
      (
        all_plain unit_path_value (λ (p : LinkedPath). p.css < 2 ^ 64) path_plain r.paths h.paths,
        refl,
        (
          each_plain devices_value (λ _. tt) r.ranges,
          refl,
          (
            tt,
            refl,
            (
              tt,
              refl,
              (all_plain range_value (λ (range : UnitRange). range.count < 2 ^ 64) range_plain r.addresses h.addresses, refl, tt),
            ),
          ),
        ),
      ),
    ),
  ),
)

unit_row_low : (r : UnitRow) → depth (unit_value r) ≤ 3
unit_row_low r = object_low 2 (unit_members r) (
  text_low 2 r.unit_type,
  (
    omega (arith, cuadd_low r.cuadd),
    (
      count_low 2 r.devices,
      (
        omega (arith, all_low unit_path_value 1 path_low r.paths),
        (
          omega (arith, all_low devices_value 0 (λ _. omega arith) r.ranges),
          (
            string_low 2 (codes "unit"),
            (
              string_low 2 (hex4 r.number),
              (omega (arith, all_low range_value 1 (λ _. omega arith) r.addresses), tt),
            ),
          ),
        ),
      ),
    ),
  ),
)

-- ---- a run of devices

path_of_plain : (p : CssPath) → p.css < 2 ^ 64 → IsPlain (of_members.path_value p)
path_of_plain p small = (small, refl, (tt, refl, tt))

seen_plain : (s : SeenBy) → HasSeenNumbers s → IsPlain (seen_value s)
seen_plain s h = (tt, refl, (h.0, refl, (tt, refl, (h.1, refl, tt))))

seen_low : (s : SeenBy) → depth (seen_value s) ≤ 1
seen_low s = object_low 0 (seen_members s) (
  string_low 0 (image_name s.image),
  (
    count_low 0 s.installed,
    (
      string_low 0 s.name,
      (count_low 0 s.online, tt),
    ),
  ),
)

device_row_plain : (r : DeviceRow) → HasDeviceNumbers r → IsPlain (device_value r)
device_row_plain r h = (
  text_plain r.device_type,
  refl,
  (
    tt,
    refl,
    (
      h.count,
      refl,
      (
        tt,
        refl,
        (
          all_plain seen_value HasSeenNumbers seen_plain r.images h.images,
          refl,
          (
            tt,
            refl,
            (
              all_plain of_members.path_value (λ (p : CssPath). p.css < 2 ^ 64) path_of_plain r.paths h.paths,
              refl,
              (h.set, refl, (tt, refl, (each_plain number_value (λ _. tt) r.units, refl, tt))),
            ),
          ),
        ),
      ),
    ),
  ),
)

device_row_low : (r : DeviceRow) → depth (device_value r) ≤ 3
device_row_low r = object_low 2 (device_members r) (
  text_low 2 r.device_type,
  (
    string_low 2 (hex2 r.unit_address),
    (
      count_low 2 r.count,
      (
        string_low 2 (hex4 r.first),
        (
          omega (arith, all_low seen_value 1 seen_low r.images),
          (
            string_low 2 (hex4 (r.first + r.count - 1)),
            (
              omega (arith, all_low of_members.path_value 1 (λ _. omega arith) r.paths),
              (
                count_low 2 r.set,
                (
                  string_low 2 (codes "devices"),
                  (omega (arith, all_low number_value 0 (λ _. omega arith) r.units), tt),
                ),
              ),
            ),
          ),
        ),
      ),
    ),
  ),
)

-- ---- an image

set_plain : (s : SetNumbers) → HasSetNumbers s → IsPlain (set_value s)
set_plain s h = (h.0, refl, (h.1, refl, (h.2, refl, tt)))

image_row_plain : (r : ImageRow) → HasImageNumbers r → IsPlain (image_value r)
image_row_plain r h = (
  h.devices,
  refl,
  (
    tt,
    refl,
    (
      tt,
      refl,
      (
        h.no_path,
        refl,
        (
          all_plain set_value HasSetNumbers set_plain r.numbers h.numbers,
          refl,
          (h.one_path, refl, (h.online, refl, (h.paths, refl, (tt, refl, tt)))),
        ),
      ),
    ),
  ),
)

image_row_low : (r : ImageRow) → depth (image_value r) ≤ 3
image_row_low r = object_low 2 (image_members r) (
  count_low 2 r.devices,
  (
    string_low 2 (image_name r.image),
    (
      string_low 2 r.name,
      (
        count_low 2 r.no_path,
        (
          omega (arith, all_low set_value 1 (λ _. omega arith) r.numbers),
          (
            count_low 2 r.one_path,
            (
              count_low 2 r.online,
              (
                count_low 2 r.paths,
                (string_low 2 (codes "image"), tt),
              ),
            ),
          ),
        ),
      ),
    ),
  ),
)

-- ---- lines

pub lines_are_read_back : LinesAreReadBack
lines_are_read_back = record {
  path = λ r h. plain_is_read_back (path_value r) (path_row_plain r h) (omega (arith, path_row_low r));
  unit = λ r h. plain_is_read_back (unit_value r) (unit_row_plain r h) (omega (arith, unit_row_low r));
  devices = λ r h. plain_is_read_back (device_value r) (device_row_plain r h) (omega (arith, device_row_low r));
  image = λ r h. plain_is_read_back (image_value r) (image_row_plain r h) (omega (arith, image_row_low r));
}
