-- The lines of subchannels and of altered ones, part by part.
use Rattle.std.proofs.Common.{◌≡◌, ℕ, ◌<◌, ◌≤◌, List, [], ◌∷◌, ◌++◌, length, Bool, true, false, ◌&&◌, not}
use Rattle.std.proofs.Common.{nat_le, nat_eq, codes, refl}
use Rattle.std.proofs.Common.{arith, append_assoc, drop, ◌∙◌}
use Rattle.std.proofs.Common.{Option, Some, ap}
use Rattle.std.specs.List.{list_all}
use Rattle.serde_json.specs.Written.{compact_text}
use Rattle.std.specs.Cmp.Lexicographic.{pointwise}
use Rattle.iocm_types.specs.Name.{is_name, begins_with_letter, is_letter_or_digit}
use Rattle.iocm_types.specs.declared.sub_id.SubId.{SubId}
use Rattle.iocm_types.specs.declared.view.View.{View}
use Rattle.iocm_values.proofs.Numerals.{hex1_decimal, hex1_text, hex2_text}
use Rattle.iocm_lines.specs.Lines.{line}
use Rattle.iocm_lines.specs.Told.{line_at, with_device}
use Rattle.iocm_types.specs.Print.{hex1, hex2, hex4}
use Rattle.iocm_types.specs.declared.image.Image.{Image}
use Rattle.iocm_lines.specs.Members.{image_name}
use Rattle.iocm_lines.specs.Members.{path_list}
use Rattle.iocm_lines.specs.Parts.{front, middle, back, name_begun}
use Rattle.iocm_lines.specs.Parts.{seen_until_installed, seen_until_paths, seen_end, altered_end}
use Rattle.iocm_lines.specs.Subchannel.{paths_in, subchannel_value}
use Rattle.iocm_lines.specs.Altered.{seen_value, altered_value}
use Rattle.iocm_lines.proofs.Keys.{after_key, altered_key, available_key, before_key, css_key, device_key, image_key}
use Rattle.iocm_lines.proofs.Keys.{installed_key, name_key, number_key, pam_key, paths_key, pim_key, set_key}
use Rattle.iocm_lines.proofs.Keys.{subchannel_key, type_key}
use Rattle.iocm_lines.proofs.Hex.{hex4_pairs}
use Rattle.iocm_lines.proofs.Texts.{hex2_stays, hex4_stays, image_stays, subchannel_stays, letters_stay}

-- all bits of a mask are those of at most eight paths
all_paths : (ps : List ℕ) → length ps ≤ 8 → paths_in 255 ps ≡ ps
all_paths [] few = refl
all_paths (a ∷ []) few = refl
all_paths (a ∷ b ∷ []) few = refl
all_paths (a ∷ b ∷ c ∷ []) few = refl
all_paths (a ∷ b ∷ c ∷ d ∷ []) few = refl
all_paths (a ∷ b ∷ c ∷ d ∷ e ∷ []) few = refl
all_paths (a ∷ b ∷ c ∷ d ∷ e ∷ f ∷ []) few = refl
all_paths (a ∷ b ∷ c ∷ d ∷ e ∷ f ∷ g ∷ []) few = refl
all_paths (a ∷ b ∷ c ∷ d ∷ e ∷ f ∷ g ∷ h ∷ []) few = refl
all_paths (a ∷ b ∷ c ∷ d ∷ e ∷ f ∷ g ∷ h ∷ j ∷ more) few = absurd (omega arith)

-- ---- parts

-- parts that are put one after the other with the numbers between, and those of a text with its end
joined : (a k b c d e f g h l m n q o p r s u v w x y t z : List ℕ)
    → (a ++ (k ++ (b ++ (c ++ d))))
    ++ (e ++ ((f ++ (g ++ (h ++ (l ++ (m ++ (n ++ (q ++ o)))))))
    ++ (p ++ ((r ++ (s ++ (u ++ (v ++ (w ++ (x ++ y)))))) ++ (p ++ (t ++ z))))))
    ≡ (a ++ (k ++ (b ++ (c ++ (d ++ (e ++ (f ++ (g ++ (h ++ (l ++ (m ++ ((n ++ q) ++ (o ++ (p ++ (r ++ (s ++ (u ++ (v
    ++ (w ++ (x ++ (y ++ (p ++ t)))))))))))))))))))))) ++ z
joined a k b c d e f g h l m n q o p r s u v w x y t z = simp append_assoc

-- bytes that are put one after the other in place of a line
pub front_together : (a b c d e : List ℕ) → (((([] ++ a) ++ b) ++ c) ++ d) ++ e ≡ a ++ (b ++ (c ++ (d ++ e)))
front_together a b c d e = simp append_assoc

pub back_together : (a b c d e f g h i j k : List ℕ)
    → (((((((((([] ++ a) ++ b) ++ c) ++ d) ++ e) ++ f) ++ g) ++ h) ++ i) ++ j) ++ k
    ≡ a ++ (b ++ (c ++ (d ++ (e ++ (f ++ (g ++ (h ++ (i ++ (j ++ k)))))))))
back_together a b c d e f g h i j k = simp append_assoc

-- with the numbers between the parts are the line of a subchannel
pub line_in_parts : (i : Image) (name : List ℕ) (set : ℕ) (v : View) → i.css < 6 → i.mif < 16 → set < 4
    → v.pim < 256 → v.pam < 256 → length v.paths ≤ 8 → list_all is_letter_or_digit name ≡ true
    → (number device : ℕ) → number < 65536 → device < 65536
    → front i v ++ (hex4 device ++ (middle i name v ++ (hex4 number ++ (back i set v
    ++ (hex4 number ++ codes "\",\"type\":\"subchannel\"}\n")))))
    ≡ line_at i name set number (with_device device v)
line_in_parts i name set v css mif set_small pim pam few letters number device small low =
    joined (codes "{\"available\":") (compact_text (path_list (paths_in v.pam v.paths)))
    (codes ",\"css\":") (hex1 i.css) (codes ",\"device\":\"") (hex4 device)
    (codes "\",\"image\":\"") (image_name i) (codes "\",\"installed\":")
    (compact_text (path_list (paths_in v.pim v.paths))) (codes ",\"name\":\"") name (34 ∷ [])
    (codes ",\"number\":\"") (hex4 number)
    (codes "\",\"pam\":\"") (hex2 v.pam) (codes "\",\"paths\":")
    (compact_text (path_list (paths_in 255 v.paths)))
    (codes ",\"pim\":\"") (hex2 v.pim) (name_begun i set)
    (codes "\",\"type\":\"subchannel\"}") (10 ∷ [])
    ∙ rw (
      available_key,
      css_key,
      device_key,
      image_key,
      installed_key,
      name_key,
      number_key,
      pam_key,
      paths_key,
      pim_key,
      set_key,
      subchannel_key,
      type_key,
      all_paths v.paths few,
      hex4_stays device,
      hex4_stays number,
      hex2_stays v.pim,
      hex2_stays v.pam,
      image_stays i,
      subchannel_stays (record { image = i; set = set; number = number }),
      letters_stay name letters,
      ← hex1_decimal i.css (omega arith),
      ← hex1_decimal set (omega arith),
      hex1_text i.css (omega arith),
      hex1_text i.mif mif,
      hex1_text set (omega arith),
      hex2_text v.pim pim,
      hex2_text v.pam pam,
      hex4_pairs device low,
      hex4_pairs number small,
    ) refl

-- ---- a view

seen_together : (old a k b m c o e : List ℕ)
    → ((((((old ++ a) ++ k) ++ b) ++ m) ++ c) ++ o) ++ e ≡ old ++ (a ++ (k ++ (b ++ (m ++ (c ++ (o ++ e))))))
seen_together old a k b m c o e = simp append_assoc

seen_is : (v : View) → v.device < 65536 → v.pim < 256 → v.pam < 256 → length v.paths ≤ 8
    → codes "{\"available\":" ++ (compact_text (path_list (paths_in v.pam v.paths)) ++ (seen_until_installed v
    ++ (compact_text (path_list (paths_in v.pim v.paths)) ++ (seen_until_paths v
    ++ (compact_text (path_list (paths_in 255 v.paths)) ++ seen_end v)))))
    ≡ compact_text (seen_value (Some v))
seen_is v device pim pam few =
    rw (
      available_key,
      device_key,
      installed_key,
      pam_key,
      paths_key,
      pim_key,
      all_paths v.paths few,
      hex4_stays v.device,
      hex2_stays v.pim,
      hex2_stays v.pam,
      hex2_text v.pim pim,
      hex2_text v.pam pam,
      hex4_pairs v.device device,
    ) refl

-- a view that is put behind other text
pub seen_in_parts : (old : List ℕ) (v : View) → v.device < 65536 → v.pim < 256 → v.pam < 256 → length v.paths ≤ 8
    → ((((((old ++ codes "{\"available\":") ++ compact_text (path_list (paths_in v.pam v.paths)))
    ++ seen_until_installed v) ++ compact_text (path_list (paths_in v.pim v.paths))) ++ seen_until_paths v)
    ++ compact_text (path_list (paths_in 255 v.paths))) ++ seen_end v
    ≡ old ++ compact_text (seen_value (Some v))
seen_in_parts old v device pim pam few =
    seen_together old (codes "{\"available\":") (compact_text (path_list (paths_in v.pam v.paths)))
    (seen_until_installed v) (compact_text (path_list (paths_in v.pim v.paths))) (seen_until_paths v)
    (compact_text (path_list (paths_in 255 v.paths))) (seen_end v)
    ∙ ap (λ l. old ++ l) (seen_is v device pim pam few)

-- ---- an altered subchannel

altered_together : (a k b m e z : List ℕ)
    → (((a ++ k) ++ b) ++ m) ++ (e ++ z) ≡ (a ++ (k ++ (b ++ (m ++ e)))) ++ z
altered_together a k b m e z = simp append_assoc

pub altered_in_parts : (s : SubId) (before after : Option View) → s.image.css < 6 → s.image.mif < 16 → s.set < 4
    → s.number < 65536
    → (((codes "{\"after\":" ++ compact_text (seen_value after)) ++ codes ",\"before\":")
    ++ compact_text (seen_value before)) ++ (altered_end s ++ 10 ∷ [])
    ≡ line (altered_value s before after)
altered_in_parts s before after css mif set number =
    altered_together (codes "{\"after\":") (compact_text (seen_value after)) (codes ",\"before\":")
    (compact_text (seen_value before)) (altered_end s) (10 ∷ [])
    ∙ rw (
      after_key,
      before_key,
      css_key,
      image_key,
      number_key,
      set_key,
      subchannel_key,
      type_key,
      altered_key,
      hex4_stays s.number,
      image_stays s.image,
      subchannel_stays s,
      ← hex1_decimal s.image.css (omega arith),
      ← hex1_decimal s.set (omega arith),
      hex1_text s.image.css (omega arith),
      hex1_text s.image.mif mif,
      hex1_text s.set (omega arith),
      hex4_pairs s.number number,
    ) refl

-- ---- names

second : (a b c d : Bool) → (a && b && c && d) ≡ true → b ≡ true
second a true c d e = refl
second true false c d e = e
second false false c d e = e

-- a name has letters and digits alone
pub name_has_letters : (name : List ℕ) → is_name name ≡ true → list_all is_letter_or_digit name ≡ true
name_has_letters name e = second (begins_with_letter name) (list_all is_letter_or_digit name) (nat_le (length name) 8)
    (not (pointwise nat_eq name (codes "REC"))) e
