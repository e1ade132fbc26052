-- What an image sees of devices that are alike, and at a number cell by what it saw at a cell that is like it.
use Rattle.std.proofs.Common.{◌≡◌, ℕ, ◌&&◌, List, Bool, true, false, cond, Option, Some, None, refl, ◌∙◌, sym, ap, ◌==◌}
use Rattle.std.proofs.Common.{◌≤◌, ◌⊎◌, inl, inr, [], length, subst}
use Rattle.std.specs.List.{list_any}
use Rattle.std.specs.Option.{option_map, option_and_then}
use Rattle.std.specs.FinMap.{get}
use Rattle.iocm_types.specs.declared.key.Key.{Key}
use Rattle.iocm_types.specs.declared.key.Key.TheVariants.{Device}
use Rattle.iocm_types.specs.declared.view.View.{View}
use Rattle.iocm_model.specs.Machine.Record.{Rec, DeviceRecord, ImageRecord, id, resource, image, limit, path, unit}
use Rattle.iocm_model.specs.Machine.Record.{device, online}
use Rattle.iocm_model.specs.Machine.Configuration.{Configuration, Lookup, lookup_of, IsKeyed, as_device}
use Rattle.iocm_model.specs.Machine.PathList.{path_list, view_paths}
use Rattle.iocm_model.specs.Machine.Sight.{is_candidate, reaches}
use Rattle.iocm_model.specs.Machine.Mask.{installed, available}
use Rattle.iocm_model.specs.Machine.View.{device_record, image_view, view_if_seen}
use Rattle.iocm_model.proofs.Machine.OwnKeys.{keyed_own}
use Rattle.iocm_console.specs.Alike.{AreAlike, seen_by, IsAlike, are_like}
use Rattle.iocm_lines.specs.Told.{with_device}
use Rattle.iocm_console.specs.Alike.{view_of, with_numbers, HaveDigits, IsSeen, IsSeenAt}
use Rattle.std.proofs.lemmas.Bool.{eqb-true, and_parts}
use Rattle.std.specs.Prelude.{IfSome}
use Rattle.iocm_types.specs.declared.sub_id.SubId.{SubId}
use Rattle.iocm_console.specs.declared.cells.CellDevice.{CellDevice}
use Rattle.iocm_console.specs.declared.seen.Seen.{Seen}
use Rattle.iocm_console.specs.Lines.{image_of, line_at, seen_at, subchannel_at}
use Rattle.iocm_console.proofs.Line.{other_numbers, line_is_long}

-- the device number in a device's key
abbrev number_in : Key → ℕ
number_in (Device set number) = number
number_in _ = 0

-- a device that is found has the number that was asked for
own_number : (m : Configuration) → IsKeyed m → (set number : ℕ) (d : DeviceRecord)
    → device_record (lookup_of m) set number ≡ Some d → d.number ≡ number
own_number m keyed set number d is = by (get m (Device set number)) refl is
  where
    by : (o : Option Rec) → get m (Device set number) ≡ o → option_and_then as_device o ≡ Some d → d.number ≡ number
    by None at is = cc
    by (Some (id x)) at is = cc
    by (Some (resource x)) at is = cc
    by (Some (image x)) at is = cc
    by (Some (limit x)) at is = cc
    by (Some (path x)) at is = cc
    by (Some (unit x)) at is = cc
    by (Some (device r)) at is =
        let same : r ≡ d = cc in
        sym (ap (λ (x : DeviceRecord). x.number) same)
        ∙ ap number_in (keyed_own m keyed (Device set number) (device r) at)
    by (Some (online x)) at is = cc

module _ (c : Lookup) (css : ℕ) (name : List ℕ) where
  -- the view of a device of a number, by its control units and its candidates
  abbrev view_by : ℕ → List ℕ × Option (List (List ℕ)) → Option View
  view_by number by =
      cond (is_candidate name by.1 && list_any (reaches c css name) (path_list c css by.0))
      (Some (record {
        device = number;
        paths = view_paths c css by.0;
        pim = installed c css name (view_paths c css by.0);
        pam = available c css name (view_paths c css by.0);
      }))
      None

  other_number : (t : Bool) (b : ℕ) (v : View)
      → cond t (Some (with_device b v)) None ≡ option_map (with_device b) (cond t (Some v) None)
  other_number true b v = refl
  other_number false b v = refl

  -- of two devices that are alike the image sees both or neither, and both in the same way
  both_seen : (o p : Option DeviceRecord) (b : ℕ) → option_map seen_by o ≡ option_map seen_by p
      → ((d : DeviceRecord) → p ≡ Some d → d.number ≡ b)
      → option_and_then (view_if_seen c css name) p
      ≡ option_map (with_device b) (option_and_then (view_if_seen c css name) o)
  both_seen None None b same own = refl
  both_seen None (Some e) b same own = cc
  both_seen (Some d) None b same own = cc
  both_seen (Some d) (Some e) b same own =
      let alike : seen_by d ≡ seen_by e = cc in
      (λ j. view_by (own e refl j) (sym alike j)) ∙ other_number _ b _

-- the same of two devices of a configuration
pub alike_view : (m : Configuration) (i : ImageRecord) (set a b : ℕ) → IsKeyed m → AreAlike (lookup_of m) set a b
    → image_view (lookup_of m) i set b ≡ option_map (with_device b) (image_view (lookup_of m) i set a)
alike_view m i set a b keyed alike =
    both_seen (lookup_of m) i.css i.name (device_record (lookup_of m) set a) (device_record (lookup_of m) set b) b
    alike (own_number m keyed set b)

-- the device of a view is that which was put there
put_there : (o : Option View) (d : ℕ) → IfSome (option_map (with_device d) o) (λ v. v.device ≡ d)
put_there None d = tt
put_there (Some v) d = refl

-- and the last one counts
put_again : (o : Option View) (a b : ℕ)
    → option_map (with_device b) (option_map (with_device a) o) ≡ option_map (with_device b) o
put_again None a b = refl
put_again (Some v) a b = refl

-- a line of a subchannel is none or a long one
none_or_long : (x : SubId) (o : Option View) (d : ℕ) → HaveDigits x d → IfSome o (λ v. v.device ≡ d)
    → (line_at x o ≡ []) ⊎ (20 ≤ length (line_at x o))
none_or_long x None d small own = inl refl
none_or_long x (Some v) d small own = inr (line_is_long x v (subst (HaveDigits x) (sym own) small))

-- with other numbers it is that of another subchannel
renumbered : (x : SubId) (o : Option View) (d : ℕ) → HaveDigits x d → IfSome o (λ v. v.device ≡ d)
    → (number other : ℕ) (new : List ℕ) → (line_at x o ≡ [] → new ≡ [])
    → (20 ≤ length (line_at x o) → new ≡ with_numbers number other (line_at x o))
    → new ≡ line_at (record { image = x.image; set = x.set; number = number }) (option_map (with_device other) o)
renumbered x None d small own number other new none some = none refl
renumbered x (Some v) d small own number other new none some =
    let low = subst (HaveDigits x) (sym own) small in
    some (line_is_long x v low) ∙ other_numbers x v number other low

module _ (m : Configuration) (i : ImageRecord) (keyed : IsKeyed m) where
  -- an image sees the same at both cells but for the device
  seen_alike : (e f : CellDevice) → e.cell.css ≡ f.cell.css → e.cell.set ≡ f.cell.set
      → AreAlike (lookup_of m) e.cell.set e.device f.device
      → seen_at (lookup_of m) i (f.cell, f.device)
      ≡ option_map (with_device f.device) (seen_at (lookup_of m) i (e.cell, e.device))
  seen_alike e f css set alike =
      (λ j. cond (sym css j == i.css) (image_view (lookup_of m) i (sym set j) f.device) None) ∙ by (e.cell.css == i.css)
    where
      by : (t : Bool) → cond t (image_view (lookup_of m) i e.cell.set f.device) None
          ≡ option_map (with_device f.device) (cond t (image_view (lookup_of m) i e.cell.set e.device) None)
      by true = alike_view m i e.cell.set e.device f.device keyed alike
      by false = refl

  module _ (old : Seen) (o : Option CellDevice) (e f : CellDevice) (last : IsSeen (lookup_of m) i o old) (is : o ≡ Some e)
      (like : are_like e f ≡ true) (alike : IsAlike (lookup_of m) f)
      (small : HaveDigits (subchannel_at (image_of i) e.cell) e.device) where
    at : IsSeenAt (lookup_of m) i old e
    at = subst (λ o. IfSome o (IsSeenAt (lookup_of m) i old)) is last

    -- the line at the last cell can take other numbers
    pub last_line : (old.line.items ≡ []) ⊎ (20 ≤ length old.line.items)
    last_line = subst (λ xs. (xs ≡ []) ⊎ (20 ≤ length xs)) (sym at.line)
        (none_or_long (subchannel_at (image_of i) e.cell) (view_of old e.device) e.device small
        (put_there old.view e.device))

    -- with those of the next cell it is that of the next cell
    pub goes_on : (new : Seen) → new.view ≡ old.view
        → (old.line.items ≡ [] → new.line.items ≡ [])
        → (20 ≤ length old.line.items → new.line.items ≡ with_numbers f.cell.number f.device old.line.items)
        → IsSeenAt (lookup_of m) i new f
    goes_on new view none some =
        let first = and_parts ((e.cell.css == f.cell.css) && (e.cell.set == f.cell.set)) (e.like == f.like) like in
        let second = and_parts (e.cell.css == f.cell.css) (e.cell.set == f.cell.set) first.0 in
        let set = eqb-true e.cell.set f.cell.set second.1 in
        let devices : AreAlike (lookup_of m) e.cell.set e.device f.device =
        sym at.alike.0 ∙ subst (λ s. AreAlike (lookup_of m) s e.like f.device) (sym set)
        (subst (λ l. AreAlike (lookup_of m) f.cell.set l f.device) (sym (eqb-true e.like f.like first.1)) alike.0) in
        let new_view : view_of new f.device ≡ option_map (with_device f.device) (view_of old e.device) =
        ap (option_map (with_device f.device)) view ∙ sym (put_again old.view e.device f.device) in
        record {
          alike = alike;
          view = new_view ∙ ap (option_map (with_device f.device)) at.view
              ∙ sym (seen_alike e f (eqb-true e.cell.css f.cell.css second.0) set devices);
          line = renumbered (subchannel_at (image_of i) e.cell) (view_of old e.device) e.device small
              (put_there old.view e.device) f.cell.number f.device
              new.line.items (subst (λ (xs : List ℕ). xs ≡ [] → new.line.items ≡ []) at.line none)
              (subst (λ xs. 20 ≤ length xs → new.line.items ≡ with_numbers f.cell.number f.device xs) at.line some)
              ∙ (λ j. line_at (record { image = image_of i; set = set j; number = f.cell.number }) (sym new_view j));
        }

  -- what is seen anew at a cell
  pub seen_anew : (new : Seen) (e : CellDevice) → IsAlike (lookup_of m) e
      → new.view ≡ seen_at (lookup_of m) i (e.cell, e.device)
      → new.line.items ≡ line_at (subchannel_at (image_of i) e.cell) new.view → IsSeenAt (lookup_of m) i new e
  seen_anew new e alike view line =
      let own : view_of new e.device ≡ new.view = ap (option_map (with_device e.device)) view
      ∙ sym (seen_alike e e refl refl refl) ∙ sym view in
      record { alike = alike; view = own ∙ view; line = line ∙ ap (line_at (subchannel_at (image_of i) e.cell)) (sym own) }
