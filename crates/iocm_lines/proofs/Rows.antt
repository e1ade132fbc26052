-- The line of a subchannel tells its row, and so does that of an altered one.
use Rattle.std.proofs.Common.{◌≡◌, ℕ, ◌<◌, List, [], ◌∷◌, ◌++◌, true, Some, unwrap_or}
use Rattle.std.proofs.Common.{zero, suc, refl, sym, ap, ap₂, ◌∙◌, arith, map, drop, nat_lt}
use Rattle.std.proofs.lemmas.Bool.{and_parts, ltb-true}
use Rattle.std.proofs.lemmas.List.{append_cancel_right}
use Rattle.std.specs.List.{list_all}
use Rattle.iocm_types.specs.Print.{hex1, hex2, hex4}
use Rattle.iocm_values.specs.Digits.{hex_of}
use Rattle.iocm_values.proofs.Numerals.{hex1_text, hex1_again, hex2_again, hex4_again}
use Rattle.serde_json.specs.Data.{unsigned, negative, float, Data, null, boolean, number, string, array, object}
use Rattle.serde_json.specs.Data.{Items, no_items, item, Members, no_members, member}
use Rattle.serde_json.specs.Read.{read}
use Rattle.serde_json.specs.Written.{compact_text}
use Rattle.iocm_lines.specs.Altered.{seen_value, altered_value}
use Rattle.iocm_lines.specs.Members.{texts, path_list, image_name}
use Rattle.iocm_types.specs.declared.sub_id.SubId.{SubId}
use Rattle.iocm_types.specs.declared.view.View.{View}
use Rattle.std.proofs.Common.{Option, None, IfSome}
use Rattle.iocm_lines.specs.Lines.{line}
use Rattle.iocm_lines.specs.Subchannel.{subchannel_value}
use Rattle.iocm_lines.specs.Again.{IsReadBack, IsSubchannel, IsView, LineTellsTheRow, LineTellsTheAltered}
use Rattle.iocm_lines.proofs.Lines.{subchannel_is_read_back, altered_is_read_back}

-- ---- what a value tells

same_if_some : {A : Type 0} (a b : A) → Some a ≡ Some b → a ≡ b
same_if_some a b is = ap (λ o. unwrap_or o a) is

-- values that are read back and have one line
same_value : (d e : Data) → IsReadBack d → IsReadBack e → line d ≡ line e → d ≡ e
same_value d e here there is =
    same_if_some d e
    (sym here ∙ ap read (append_cancel_right (compact_text d) (compact_text e) (10 ∷ []) is) ∙ there)

abbrev member_at : ℕ → Members → Data
member_at n no_members = null
member_at zero (member k d ms) = d
member_at (suc n) (member k d ms) = member_at n ms

abbrev at : ℕ → Data → Data
at n null = null
at n (boolean b) = null
at n (number m) = null
at n (string s) = null
at n (array ds) = null
at n (object ms) = member_at n ms

abbrev text_in : Data → List ℕ
text_in null = []
text_in (boolean b) = []
text_in (number m) = []
text_in (string s) = s
text_in (array ds) = []
text_in (object ms) = []

abbrev count_in : Data → ℕ
count_in null = 0
count_in (boolean b) = 0
count_in (number (unsigned n)) = n
count_in (number (negative z)) = 0
count_in (number (float x)) = 0
count_in (string s) = 0
count_in (array ds) = 0
count_in (object ms) = 0

abbrev texts_of : Items → List (List ℕ)
texts_of no_items = []
texts_of (item d ds) = text_in d ∷ texts_of ds

abbrev texts_in : Data → List (List ℕ)
texts_in null = []
texts_in (boolean b) = []
texts_in (number m) = []
texts_in (string s) = []
texts_in (array ds) = texts_of ds
texts_in (object ms) = []

texts_again : (xs : List (List ℕ)) → texts_of (texts xs) ≡ xs
texts_again [] = refl
texts_again (x ∷ xs) = ap (λ l. x ∷ l) (texts_again xs)

-- ---- digits tell a number

hex1_tells : (a b : ℕ) → a < 16 → b < 16 → hex1 a ≡ hex1 b → a ≡ b
hex1_tells a b small less is =
    same_if_some a b (sym (hex1_again 15 1 a small (omega arith) refl) ∙ ap (hex_of 15 1) is
    ∙ hex1_again 15 1 b less (omega arith) refl)

hex2_tells : (a b : ℕ) → a < 256 → b < 256 → hex2 a ≡ hex2 b → a ≡ b
hex2_tells a b small less is =
    same_if_some a b (sym (hex2_again 255 2 a small (omega arith) refl) ∙ ap (hex_of 255 2) is
    ∙ hex2_again 255 2 b less (omega arith) refl)

hex4_tells : (a b : ℕ) → a < 65536 → b < 65536 → hex4 a ≡ hex4 b → a ≡ b
hex4_tells a b small less is =
    same_if_some a b (sym (hex4_again 65535 4 a small (omega arith) refl) ∙ ap (hex_of 65535 4) is
    ∙ hex4_again 65535 4 b less (omega arith) refl)

abbrev head_or : List ℕ → List (List ℕ) → List ℕ
head_or d [] = d
head_or d (x ∷ xs) = x

abbrev tail_of : List (List ℕ) → List (List ℕ)
tail_of [] = []
tail_of (x ∷ xs) = xs

paths_tell : (xs ys : List ℕ) → list_all (λ p. nat_lt p 256) xs ≡ true → list_all (λ p. nat_lt p 256) ys ≡ true
    → map hex2 xs ≡ map hex2 ys → xs ≡ ys
paths_tell [] [] small less is = refl
paths_tell [] (y ∷ ys) small less is = absurd (cc)
paths_tell (x ∷ xs) [] small less is = absurd (cc)
paths_tell (x ∷ xs) (y ∷ ys) small less is =
    let one = and_parts (nat_lt x 256) (list_all (λ p. nat_lt p 256) xs) small in
    let other = and_parts (nat_lt y 256) (list_all (λ p. nat_lt p 256) ys) less in
    ap₂ (λ p ps. p ∷ ps) (hex2_tells x y (ltb-true x 256 one.0) (ltb-true y 256 other.0) (ap (head_or []) is))
    (paths_tell xs ys one.1 other.1 (ap tail_of is))

mif_tells : (a b c d : ℕ) → a < 16 → b < 16 → c < 16 → d < 16
    → hex1 a ++ (46 ∷ hex1 b) ≡ hex1 c ++ (46 ∷ hex1 d) → b ≡ d
mif_tells a b c d small_a small_b small_c small_d is =
    hex1_tells b d small_b small_d
    (sym (ap (λ l. drop 2 (l ++ (46 ∷ hex1 b))) (hex1_text a small_a)) ∙ ap (drop 2) is
    ∙ ap (λ l. drop 2 (l ++ (46 ∷ hex1 d))) (hex1_text c small_c))

-- ---- rows

-- a subchannel by its channel subsystem, image, number and set
subchannel_tells : (s t : SubId) → IsSubchannel s → IsSubchannel t → s.image.css ≡ t.image.css
    → image_name s.image ≡ image_name t.image → hex4 s.number ≡ hex4 t.number → s.set ≡ t.set → s ≡ t
subchannel_tells s t here there css image digits set =
    let mif = mif_tells s.image.css s.image.mif t.image.css t.image.mif here.css here.mif there.css there.mif image in
    let same = hex4_tells s.number t.number here.number there.number digits in
    λ i. record { image = record { css = css i; mif = mif i }; set = set i; number = same i }

-- a view by its device, paths and masks
view_tells : (v w : View) → IsView v → IsView w → hex4 v.device ≡ hex4 w.device → map hex2 v.paths ≡ map hex2 w.paths
    → hex2 v.pim ≡ hex2 w.pim → hex2 v.pam ≡ hex2 w.pam → v ≡ w
view_tells v w here there device paths pim pam =
    let same_device = hex4_tells v.device w.device here.device there.device device in
    let same_paths = paths_tell v.paths w.paths here.paths there.paths paths in
    let same_pim = hex2_tells v.pim w.pim here.pim there.pim pim in
    let same_pam = hex2_tells v.pam w.pam here.pam there.pam pam in
    λ i. record { device = same_device i; paths = same_paths i; pim = same_pim i; pam = same_pam i }

-- the paths of a member
paths_at : (n : ℕ) (d e : Data) (xs ys : List ℕ) → at n d ≡ path_list xs → at n e ≡ path_list ys → d ≡ e
    → map hex2 xs ≡ map hex2 ys
paths_at n d e xs ys here there same =
    sym (texts_again (map hex2 xs)) ∙ ap texts_in (sym here ∙ ap (at n) same ∙ there) ∙ texts_again (map hex2 ys)

pub line_tells_the_row : LineTellsTheRow
line_tells_the_row s t v w name other is_s is_t is_v is_w is =
    let d = subchannel_value (s, v) name in
    let e = subchannel_value (t, w) other in
    let same = same_value d e (subchannel_is_read_back s v name is_s) (subchannel_is_read_back t w other is_t) is in (
      subchannel_tells s t is_s is_t (ap (λ d. count_in (at 1 d)) same) (ap (λ d. text_in (at 3 d)) same)
          (ap (λ d. text_in (at 6 d)) same) (ap (λ d. count_in (at 10 d)) same),
      view_tells v w is_v is_w (ap (λ d. text_in (at 2 d)) same) (paths_at 8 d e v.paths w.paths refl refl same)
          (ap (λ d. text_in (at 9 d)) same) (ap (λ d. text_in (at 7 d)) same),
      ap (λ d. text_in (at 5 d)) same,
    )

seen_tells : (a b : Option View) → IfSome a IsView → IfSome b IsView → seen_value a ≡ seen_value b → a ≡ b
seen_tells None None is_a is_b same = refl
seen_tells None (Some w) is_a is_b same = absurd (cc)
seen_tells (Some v) None is_a is_b same = absurd (cc)
seen_tells (Some v) (Some w) is_v is_w same =
    ap Some
    (view_tells v w is_v is_w (ap (λ d. text_in (at 1 d)) same)
    (paths_at 4 (seen_value (Some v)) (seen_value (Some w)) v.paths w.paths refl refl same)
    (ap (λ d. text_in (at 5 d)) same) (ap (λ d. text_in (at 3 d)) same))

pub line_tells_the_altered : LineTellsTheAltered
line_tells_the_altered s t before after before_t after_t is_s is_t is_before is_after is_before_t is_after_t is =
    let same = same_value (altered_value s before after) (altered_value t before_t after_t)
    (altered_is_read_back s before after is_s) (altered_is_read_back t before_t after_t is_t) is in (
      subchannel_tells s t is_s is_t (ap (λ d. count_in (at 2 d)) same) (ap (λ d. text_in (at 3 d)) same)
          (ap (λ d. text_in (at 4 d)) same) (ap (λ d. count_in (at 5 d)) same),
      seen_tells before before_t is_before is_before_t (ap (at 1) same),
      seen_tells after after_t is_after is_after_t (ap (at 0) same),
    )
