-- Tests of a device that its set, its control units and its candidates decide.
use Rattle.std.proofs.Common.{◌≡◌, ℕ, ◌==◌, ◌&&◌, Bool, true, false, cond, List, Option, None, Some, refl, ap, ◌∙◌, sym}
use Rattle.std.specs.Prelude.{count_ones, is_some}
use Rattle.std.specs.List.{list_any}
use Rattle.iocm_types.specs.declared.view.View.{View}
use Rattle.iocm_model.specs.Machine.Configuration.{Lookup, lookup_of}
use Rattle.iocm_model.specs.Machine.Mask.{available}
use Rattle.iocm_model.specs.Machine.Numbering.{is_reached}
use Rattle.iocm_model.specs.Machine.PathList.{path_list, view_paths}
use Rattle.iocm_model.specs.Machine.Record.{DeviceRecord, ImageRecord}
use Rattle.iocm_model.specs.Machine.Sight.{is_candidate, reaches, sees}
use Rattle.iocm_model.specs.Machine.View.{view_if_seen}
use Rattle.iocm_derive.specs.Sighted.{Sighted}
use Rattle.iocm_sight.specs.Counts.{has_online, is_in, sees_with}
use Rattle.iocm_sight.proofs.RunSums.{IsOfSight}

-- an image sees it

pub sees_of_sight : (c : Lookup) (css : ℕ) (name : List ℕ) → IsOfSight (sees c css name)
sees_of_sight c css name a b s = λ i.
    is_candidate name (s.candidates i) && list_any (reaches c css name) (path_list c css (s.units i))

-- with so many paths online
online_if : (n : ℕ) (b : Bool) (v : View) → has_online n (cond b (Some v) None) ≡ (b && count_ones v.pam == n)
online_if n true v = refl
online_if n false v = refl

pub sees_with_of_sight : (n : ℕ) (c : Lookup) (i : ImageRecord) → IsOfSight (sees_with n c i)
sees_with_of_sight n c i a b s =
    online_if n (sees c i.css i.name a) _
    ∙ (λ j. sees_of_sight c i.css i.name a b s j
    && count_ones (available c i.css i.name (view_paths c i.css (s.units j))) == n)
    ∙ sym (online_if n (sees c i.css i.name b) _)

-- it is of a set, and a channel subsystem reaches it
pub is_in_of_sight : (c : Lookup) (css set : ℕ) → IsOfSight (is_in c css set)
is_in_of_sight c css set a b s =
    λ i. (s.set i == set) && is_reached c css (record a { set = s.set i; units = s.units i })

-- whoever has a view sees the device
pub is_view : (c : Lookup) (css : ℕ) (name : List ℕ) (d : DeviceRecord)
    → is_some (view_if_seen c css name d) ≡ sees c css name d
is_view c css name d = by (sees c css name d) _
  where
    by : (b : Bool) (v : View) → is_some (cond b (Some v) None) ≡ b
    by true v = refl
    by false v = refl

-- so it is of an image that stayed as it was, and of the device of these fields
pub view_is : (s t : Sighted) (v : Option View) (d e : DeviceRecord) → t ≡ s
    → v ≡ view_if_seen (lookup_of t.records) t.image.css t.image.name d → d ≡ e
    → v ≡ view_if_seen (lookup_of s.records) s.image.css s.image.name e
view_is s t v d e stays is device =
    is ∙ (λ j. view_if_seen (lookup_of (stays j).records) (stays j).image.css (stays j).image.name (device j))

pub is_seen : (s t : Sighted) (v : Option View) (d e : DeviceRecord) → t ≡ s
    → v ≡ view_if_seen (lookup_of t.records) t.image.css t.image.name d → d ≡ e
    → is_some v ≡ sees (lookup_of s.records) s.image.css s.image.name e
is_seen s t v d e stays is device =
    ap is_some (view_is s t v d e stays is device) ∙ is_view (lookup_of s.records) s.image.css s.image.name e
