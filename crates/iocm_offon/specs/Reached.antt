-- Which paths of which devices reasons lead another way, for which images.
-- Bytes by their codes: 32 is a blank, 46 a point.
use Rattle.std.specs.Prelude.{ℕ, Bool, true, false, nat_lt, ◌==◌, ◌&&◌, ◌||◌, if◌then◌else◌, List, [], ◌∷◌, ◌++◌, map}
use Rattle.std.specs.Prelude.{filter, fold, length, codes}
use Rattle.std.specs.List.{join_with_byte, list_any}
use Rattle.iocm_types.specs.declared.css_path.CssPath.{CssPath}
use Rattle.iocm_types.specs.Print.{hex1, hex2}
use Rattle.iocm_words.specs.Groups as groups
use Rattle.iocm_words.specs.declared.groups.Member.{Member}
use Rattle.iocm_plan.specs.declared.runs.DeviceRun.{DeviceRun}
use Rattle.iocm_impact.specs.declared.named_image.NamedImage.{NamedImage}
use Rattle.iocm_offon.specs.declared.reason.Reach.{Reach}
use Rattle.iocm_offon.specs.declared.reason.Reach.TheVariants as reach
use Rattle.iocm_offon.specs.declared.reason.Reason.{Reason}

-- ---- how far they reach

abbrev pub is_of_each : Reach → Bool
is_of_each reach.EachPath = true
is_of_each _ = false

abbrev pub is_of_another : Reach → Bool
is_of_another reach.OverAnother = true
is_of_another _ = false

-- some reason leads each path of a device another way; some path leads over another control unit
abbrev pub is_each : List Reason → Bool
is_each rs = list_any (λ (r : Reason). is_of_each r.reach) rs

abbrev pub is_over : List Reason → Bool
is_over rs = list_any (λ (r : Reason). is_of_another r.reach) rs

-- ---- the paths, in order, each once

abbrev pub is_before : CssPath → CssPath → Bool
is_before p q = nat_lt p.css q.css || (p.css == q.css && nat_lt p.path q.path)

-- a path in its place among others
abbrev pub with_path : List CssPath → CssPath → List CssPath
with_path [] p = p ∷ []
with_path (q ∷ qs) p = if is_before q p then q ∷ with_path qs p else if is_before p q then p ∷ q ∷ qs else q ∷ qs

abbrev pub paths_in : List Reason → List CssPath
paths_in rs = fold (λ ps (r : Reason). with_path ps r.spot.path) [] rs

-- paths of one number together, 0,1.43
abbrev pub member : CssPath → Member
member p = record { word = hex1 p.css; group = 46 ∷ hex2 p.path }

abbrev pub number_word : List Member → List ℕ → List ℕ
number_word members group = join_with_byte 44 (groups.words_in members group) ++ group

abbrev pub numbers_word : List Member → List ℕ
numbers_word members = join_with_byte 32 (map (number_word members) (groups.groups_of members))

-- path 0.43, paths 0.43 0.44, paths 0,1.43, or each path
abbrev pub paths_word : List CssPath → List ℕ
paths_word ps = (if length ps == 1 then codes "path " else codes "paths ") ++ numbers_word (map member ps)

abbrev pub paths_text : List Reason → List ℕ
paths_text rs = if is_each rs then codes "each path" else paths_word (paths_in rs)

-- ---- the images, and the runs of devices

abbrev pub is_for : NamedImage → Reason → Bool
is_for i r = r.spot.image.image.css == i.image.css && r.spot.image.image.mif == i.image.mif

abbrev pub images_in : List NamedImage → List Reason → List NamedImage
images_in is rs = filter (λ i. list_any (is_for i) rs) is

abbrev pub is_of_run : DeviceRun → Reason → Bool
is_of_run d r = r.spot.run.first.set == d.first.set && r.spot.run.first.number == d.first.number

abbrev pub runs_in : List DeviceRun → List Reason → List DeviceRun
runs_in ds rs = filter (λ d. list_any (is_of_run d) rs) ds
