-- What is seen at a subchannel is what the image of its name sees at its number cell.
use Rattle.std.proofs.Common.{◌≡◌, ◌==◌, ◌&&◌, ℕ, Bool, true, false, List, Option, None, Some, eqb-true, refl, sym, ap}
use Rattle.std.proofs.Common.{◌∙◌}
use Rattle.std.specs.Option.{option_and_then, option_map}
use Rattle.std.specs.FinMap.{get}
use Rattle.iocm_types.specs.declared.image.Image.{Image}
use Rattle.iocm_types.specs.declared.key.Key.TheVariants as key
use Rattle.iocm_types.specs.declared.place.NumberCell.{NumberCell}
use Rattle.iocm_types.specs.declared.sub_id.SubId.{SubId}
use Rattle.iocm_model.specs.Machine.Record.{Rec, ImageRecord, key_of, id, resource, image, limit, path, unit, device}
use Rattle.iocm_model.specs.Machine.Record.{online}
use Rattle.iocm_model.specs.Machine.Configuration.{Configuration, Lookup, lookup_of, IsKeyed, as_image}
use Rattle.iocm_model.specs.Machine.Numbering.{Numbering, device_at}
use Rattle.iocm_model.specs.Machine.View.{device_record, image_view, view_at, view_if_seen}
use Rattle.iocm_model.proofs.Machine.OwnKeys.{keyed_own}
use Rattle.iocm_derive.specs.Derived.{name_at}
use Rattle.iocm_reach.specs.SightedCells.{SightedCell, sighted_cell, seen_there}
use Rattle.iocm_reach.specs.Walked.{Walked, cell_at, seen_as}

by_device : (at : Lookup) (css set : ℕ) (name : List ℕ) (o : Option ℕ)
    → option_and_then (view_if_seen at css name) (option_and_then (device_record at set) o)
    ≡ option_and_then (λ d. option_and_then (view_if_seen at css name) (device_record at set d)) o
by_device at css set name None = refl
by_device at css set name (Some d) = refl

module _ (c : Configuration) (n : Numbering) (im : Image) (cell : NumberCell) (there : cell.css ≡ im.css) where
  -- what the image of a record sees there
  seen_by : (r : Option Rec) → ((x : Rec) → r ≡ Some x → key_of x ≡ key.Image im.css im.mif)
      → option_and_then (seen_there (sighted_cell c n cell))
      (option_map (λ (i : ImageRecord). i.name) (option_and_then as_image r))
      ≡ option_and_then (λ (i : ImageRecord). option_and_then (image_view (lookup_of c) i cell.set)
      (device_at n (record { css = im.css; set = cell.set; number = cell.number }))) (option_and_then as_image r)
  seen_by None own = refl
  seen_by (Some (id x)) own = refl
  seen_by (Some (resource x)) own = refl
  seen_by (Some (image i)) own =
      let keys : key.Image i.css i.mif ≡ key.Image im.css im.mif = own (image i) refl in
      let css : i.css ≡ im.css = cc in
      let own_css : cell.css ≡ i.css = there ∙ sym css in
      by_device (lookup_of c) cell.css cell.set i.name (device_at n cell)
      ∙ (λ j. option_and_then (λ d.
      option_and_then (view_if_seen (lookup_of c) (own_css j) i.name) (device_record (lookup_of c) cell.set d))
      (device_at n (record { css = there j; set = cell.set; number = cell.number })))
  seen_by (Some (limit x)) own = refl
  seen_by (Some (path x)) own = refl
  seen_by (Some (unit x)) own = refl
  seen_by (Some (device x)) own = refl
  seen_by (Some (online x)) own = refl

  -- the same where each record stands under its own key
  pub seen_at_cell : IsKeyed c → option_and_then (seen_there (sighted_cell c n cell)) (name_at (lookup_of c) im)
      ≡ view_at c n (record { image = im; set = cell.set; number = cell.number })
  seen_at_cell keyed = seen_by (get c (key.Image im.css im.mif))
      (λ x is. keyed_own c keyed (key.Image im.css im.mif) x is)

-- the same at a subchannel's own cell
pub seen_at : (w : Walked) → IsKeyed w.records → (x : SubId)
    → option_and_then (seen_as w x) (name_at (lookup_of w.records) x.image) ≡ view_at w.records w.numbers x
seen_at w keyed x = seen_at_cell w.records w.numbers x.image (cell_at x) refl keyed

-- the same by the image's name
pub seen_named : (w : Walked) → IsKeyed w.records → (x : SubId) (name : List ℕ)
    → Some name ≡ name_at (lookup_of w.records) x.image
    → seen_as w x name ≡ view_at w.records w.numbers x
seen_named w keyed x name is = ap (option_and_then (seen_as w x)) is ∙ seen_at w keyed x

both : (p q : Bool) → (p && q) ≡ true → (p ≡ true) × (q ≡ true)
both true q h = (refl, h)
both false q h = cc

-- number cells that a test doesn't tell apart are one
same_cell : (a b : NumberCell) → (a.css == b.css && (a.set == b.set && a.number == b.number)) ≡ true → a ≡ b
same_cell a b h =
    let first = both (a.css == b.css) (a.set == b.set && a.number == b.number) h in
    let others = both (a.set == b.set) (a.number == b.number) first.1 in
    λ i. record {
      css = eqb-true a.css b.css first.0 i;
      set = eqb-true a.set b.set others.0 i;
      number = eqb-true a.number b.number others.1 i;
    }

-- what is kept of a number cell that is asked again is what is there
pub seen_again : (c : Configuration) (n : Numbering) (s : SightedCell) (x : SubId) (name : List ℕ) (of at : NumberCell)
    → s ≡ sighted_cell c n s.cell → of ≡ s.cell → at ≡ cell_at x
    → (of.css == at.css && (of.set == at.set && of.number == at.number)) ≡ true
    → seen_there s name ≡ seen_as (record { records = c; numbers = n }) x name
seen_again c n s x name of at sighted own asked same =
    ap (λ (t : SightedCell). seen_there t name)
    (sighted ∙ ap (sighted_cell c n) (sym own ∙ same_cell of at same ∙ asked))
