-- The fields of an object that lead to devices, as they are told.
use Rattle.std.specs.Prelude.{ℕ, ◌-◌, Bool, true, ◌&&◌, ◌||◌, not, List, filter, drop, length, codes}
use Rattle.std.specs.Str.{bytes_eq}
use Rattle.iocm_objects.specs.Lines.{told_part}
use Rattle.iocm_objects.specs.declared.told.Told.{Told}
use Rattle.iocm_objects.specs.declared.told.Told.TheVariants as told
use Rattle.iocm_offon_text.specs.Kinds.{is_unit}
use Rattle.iocm_offon_text.specs.declared.kind.Kind.{Kind}

-- who is online, and who may be, leads nowhere
abbrev pub is_of_users : List ℕ → Bool
is_of_users name =
    bytes_eq name (codes "online") || bytes_eq name (codes "candidates") || bytes_eq name (codes "access")
    || bytes_eq name (codes "PARTITION")

-- no CUADD is 00, and a link of two asterisks is none
abbrev pub ends_with : List ℕ → List ℕ → Bool
ends_with text end = bytes_eq (drop (length text - length end) text) end

abbrev pub is_other_word : List ℕ → List ℕ → Bool
is_other_word name text =
    bytes_eq text (codes "CUADD 00 -> none") || bytes_eq text (codes "CUADD none -> 00")
    || (bytes_eq name (codes "LINK") && (ends_with text (codes " ** -> none") || ends_with text (codes " none -> **")))

-- of a control unit the unit addresses lead nowhere, and its paths only where one leads over another control unit
abbrev pub leads_unit : Bool → List ℕ → Bool
leads_unit is_over name = not (bytes_eq name (codes "UNITADD")) && (is_over || not (bytes_eq name (codes "PATH")))

abbrev pub words_lead : Kind → Bool → List ℕ → List ℕ → Bool
words_lead k is_over name text =
    not (is_of_users name) && not (is_other_word name text) && (not (is_unit k) || leads_unit is_over name)

abbrev pub leads : Kind → Bool → Told → Bool
leads k is_over (told.Words name text) = words_lead k is_over name text
leads k is_over _ = true

-- the fields of so many objects from this one on that lead to devices
abbrev pub fields_text : Kind → Bool → ℕ → List Told → List ℕ
fields_text k is_over count ts = told_part count (filter (leads k is_over) ts)
