-- Where no number that is given away is at or above its limit, no device breaks the rule.
use Rattle.std.proofs.Common.{◌≡◌, ℕ, true, false, nat_le, Option, None, Some, refl, sym, ◌∙◌}
use Rattle.std.proofs.lemmas.Bool.{false≢true}
use Rattle.std.specs.List.{list_any}
use Rattle.std.specs.Option.{option_map, option_map_or}
use Rattle.std.specs.FinMap.{get, entries, get-entries, get-from_entries}
use Rattle.iocm_types.specs.declared.key.Key.TheVariants as key
use Rattle.iocm_types.specs.declared.place.Place.{Place}
use Rattle.iocm_types.specs.Place.{place_cmp, cell_cmp}
use Rattle.iocm_types.specs.KeyOrder.{places_total, places_exact, cells_total, cells_exact}
use Rattle.iocm_types.proofs.Found.{found_fails}
use Rattle.iocm_types.proofs.Tests.{present}
use Rattle.iocm_model.specs.Machine.Record.{Rec, id, resource, image, limit, path, unit, device, online, key_of}
use Rattle.iocm_model.specs.Machine.Configuration.{Configuration, lookup_of, records_of}
use Rattle.iocm_model.specs.Machine.Numbering.{Numbering, cells_of, opening, subsystems}
use Rattle.iocm_model.specs.Rules.EachRule.{breaks_v13, limit_or_default}
use Rattle.iocm_model.specs.Rules.FirstBreach.{first_record}
use Rattle.iocm_model.proofs.Numbers.Cells.{cell, has_cell}
use Rattle.iocm_lookup.proofs.Anys.{any_implies}
use Rattle.iocm_lookup.proofs.Walks.{none_so}
use Rattle.iocm_numbers.specs.Opening.{rows_at_opening}
use Rattle.iocm_device_rules.specs.Past.{is_past, is_row_past}

-- no number of this numbering is at or above the limit of its place
abbrev AreBelow : Configuration → Numbering → Type 0
AreBelow c n = (p : Place) (o : Option ℕ) → get n p ≡ o
    → option_map_or (nat_le (limit_or_default p.set (lookup_of c (key.Limit p.css p.set)))) o false ≡ true → ⊥

module _ (c : Configuration) (n : Numbering) (below : AreBelow c n) where
  keeps : (r : Rec) → breaks_v13 c n r ≡ true → ⊥
  keeps (device d) h = any_implies
      (λ css. option_map_or (nat_le (limit_or_default d.set (lookup_of c (key.Limit css d.set))))
      (get n (record { css = css; set = d.set; device = d.number })) false)
      subsystems (λ css past. below (record { css = css; set = d.set; device = d.number })
      (get n (record { css = css; set = d.set; device = d.number })) refl past) h
  keeps (id x) h = false≢true h
  keeps (resource x) h = false≢true h
  keeps (image x) h = false≢true h
  keeps (limit x) h = false≢true h
  keeps (path x) h = false≢true h
  keeps (unit x) h = false≢true h
  keeps (online x) h = false≢true h

  none_breaks : None ≡ option_map key_of (first_record (breaks_v13 c n) (records_of c))
  none_breaks = none_so (breaks_v13 c n) keeps (records_of c)

-- by the number cells
below_in_cells : (c : Configuration) (n : Numbering) → list_any (is_past (lookup_of c)) (entries (cells_of n)) ≡ false
    → AreBelow c n
below_in_cells c n none p None is h = false≢true h
below_in_cells c n none p (Some number) is h =
    let at = present (get (cells_of n) (cell p number)) (has_cell n p number is) in
    false≢true (sym (found_fails cell_cmp cells_total cells_exact (is_past (lookup_of c)) (entries (cells_of n))
    (cell p number) at.0 none
    (sym (get-entries (cells_of n) (cell p number)) ∙ at.1)) ∙ h)

pub none_past_limit : (c : Configuration) (n : Numbering)
    → list_any (is_past (lookup_of c)) (entries (cells_of n)) ≡ false
    → None ≡ option_map key_of (first_record (breaks_v13 c n) (records_of c))
none_past_limit c n none = none_breaks c n (below_in_cells c n none)

-- by the list of the numbers at opening
below_in_rows : (c : Configuration) → list_any (is_row_past (lookup_of c)) (rows_at_opening c) ≡ false
    → AreBelow c (opening c)
below_in_rows c none p None is h = false≢true h
below_in_rows c none p (Some number) is h =
    false≢true (sym (found_fails place_cmp places_total places_exact (is_row_past (lookup_of c)) (rows_at_opening c) p
    number none
    (sym (get-from_entries places_total (rows_at_opening c) p) ∙ is)) ∙ h)

pub none_past_limit_at_opening : (c : Configuration) → list_any (is_row_past (lookup_of c)) (rows_at_opening c) ≡ false
    → None ≡ option_map key_of (first_record (breaks_v13 c (opening c)) (records_of c))
none_past_limit_at_opening c none = none_breaks c (opening c) (below_in_rows c none)
