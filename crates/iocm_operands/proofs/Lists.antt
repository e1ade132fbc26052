-- The operands that are lists by channel subsystem are read again: paths, links and images.
use Rattle.std.proofs.Common.{◌≡◌, ℕ, ◌/◌, ◌%◌, ◌<◌, ◌≤◌, ◌==◌, true, false, cond, Some, None, List, [], ◌∷◌, map}
use Rattle.std.proofs.Common.{get_or, codes, refl, sym, ap, ◌∙◌, arith, ne_eqb, map-id}
use Rattle.std.proofs.lemmas.Bool.Decides.{nat_tests}
use Rattle.std.specs.List.{filter_map}
use Rattle.std.specs.Option.{option_map, option_and_then}
use Rattle.std.specs.Str.{bytes_eq}
use Rattle.iocm_types.specs.declared.css_path.CssPath.{CssPath}
use Rattle.iocm_types.specs.declared.link.CssLink.{CssLink}
use Rattle.iocm_types.specs.declared.link.Link.{Link}
use Rattle.iocm_types.specs.declared.link.Link.TheVariants as link
use Rattle.iocm_types.specs.Name.{is_letter, begins_with_letter, is_name}
use Rattle.iocm_types.specs.Print.{hex1, hex2, hex4}
use Rattle.iocm_model.specs.Machine.Record.{ImageRecord}
use Rattle.iocm_values.specs.Reading.{◌>>=◌}
use Rattle.iocm_values.specs.Texts.{list_text}
use Rattle.iocm_values.specs.Value.{word, value}
use Rattle.iocm_operands.specs.declared.resource.ImagePlace.{ImagePlace}
use Rattle.iocm_operands.specs.Again.{IsPath, IsWithinDigits, IsLink, IsImage, ReadsPathsAgain, ReadsLinksAgain}
use Rattle.iocm_operands.specs.Again.{ReadsImagesAgain}
use Rattle.iocm_operands.specs.Resource.{mif_of, image_name, image_listed, image_item, image_at}
use Rattle.iocm_operands.specs.Unit.{path_item, short_link, long_link, link_of, link_item, link_text}
use Rattle.iocm_values.proofs.Levels.{plain_again, items_again, whole_items}
use Rattle.iocm_values.proofs.Numerals.{glyph, hex1_plain, hex2_text, hex4_text, hex1_again, hex2_again, hex4_again}
use Rattle.iocm_values.proofs.Pieces.{IsWhole, AllWhole, whole_plain}
use Rattle.iocm_operands.proofs.Grouped.{IsReadAgain, items_by_css_again}
use Rattle.iocm_operands.proofs.Names.{name_plain, letter_first, name_again}
use Rattle.iocm_operands.proofs.Operands.{hex2_word, hex4_word, whole_hex2, whole_hex4}

-- ---- PATH of CNTLUNIT

path_item_again : (p : CssPath) → IsPath p → path_item p.css (value (hex2 p.path)) ≡ Some p
path_item_again p is =
    let small = is.path in
    ap (path_item p.css) (hex2_word p.path small)
    ∙ ap (λ found. found >>= λ path. Some (record { css = p.css; path = path }))
    (hex2_again 255 2 p.path small (omega arith) refl)

path_read : (p : CssPath) → IsPath p
    → IsReadAgain path_item (λ (q : CssPath). q.css) (λ (q : CssPath). hex2 q.path) (λ (q : CssPath). q) p
path_read p is = record { whole = whole_hex2 p.path is.path; again = path_item_again p is }

pub paths_again : ReadsPathsAgain
paths_again paths are =
    items_by_css_again false path_item (λ (p : CssPath). p.css) (λ (p : CssPath). hex2 p.path) (λ (p : CssPath). p)
    paths
    are.some (λ k d within. path_read (get_or paths k d) (are.each k d within)) are.ascending
    ∙ ap Some (map-id paths)

-- ---- LINK of CNTLUNIT

glyph_no_star : (n : ℕ) → n < 16 → glyph n == 42 ≡ false
glyph_no_star n small = grind (arith, nat_tests)

two_digits_link : (a b : ℕ) → a < 16 → link_of (glyph a ∷ glyph b ∷ []) ≡ short_link (glyph a ∷ glyph b ∷ [])
two_digits_link a b small = rw (glyph_no_star a small) refl

four_digits_link : (a b c d : ℕ) → a < 16
    → link_of (glyph a ∷ glyph b ∷ glyph c ∷ glyph d ∷ []) ≡ long_link (glyph a ∷ glyph b ∷ glyph c ∷ glyph d ∷ [])
four_digits_link a b c d small = rw (glyph_no_star a small) refl

short_again : (n : ℕ) → n < 256 → link_of (hex2 n) ≡ Some (link.Short n)
short_again n small =
    ap link_of (hex2_text n small) ∙ two_digits_link (n / 16) (n % 16) (omega arith)
    ∙ ap short_link (sym (hex2_text n small)) ∙ ap (option_map link.Short) (hex2_again 255 2 n small (omega arith) refl)

long_again : (n : ℕ) → n < 65536 → link_of (hex4 n) ≡ Some (link.Long n)
long_again n small =
    ap link_of (hex4_text n small) ∙ four_digits_link (n / 4096) (n / 256 % 16) (n / 16 % 16) (n % 16) (omega arith)
    ∙ ap long_link (sym (hex4_text n small)) ∙ ap (option_map link.Long) (hex4_again 65535 4 n small (omega arith) refl)

link_whole : (l : Link) → IsWithinDigits l → IsWhole (link_text l)
link_whole link.None within = whole_plain (codes "**") refl
link_whole (link.Short n) within = whole_hex2 n within
link_whole (link.Long n) within = whole_hex4 n within

link_word : (l : Link) → IsWithinDigits l → value (link_text l) ≡ word (link_text l)
link_word link.None within = refl
link_word (link.Short n) within = hex2_word n within
link_word (link.Long n) within = hex4_word n within

link_again : (l : Link) → IsWithinDigits l → link_of (link_text l) ≡ Some l
link_again link.None within = refl
link_again (link.Short n) within = short_again n within
link_again (link.Long n) within = long_again n within

link_item_again : (l : CssLink) → IsLink l → link_item l.css (value (link_text l.link)) ≡ Some l
link_item_again l is =
    ap (link_item l.css) (link_word l.link is.link)
    ∙ ap (λ found. found >>= λ to. Some (record { css = l.css; link = to })) (link_again l.link is.link)

link_read : (l : CssLink) → IsLink l
    → IsReadAgain link_item (λ (m : CssLink). m.css) (λ (m : CssLink). link_text m.link) (λ (m : CssLink). m) l
link_read l is = record { whole = link_whole l.link is.link; again = link_item_again l is }

pub links_again : ReadsLinksAgain
links_again links are =
    items_by_css_again false link_item (λ (l : CssLink). l.css) (λ (l : CssLink). link_text l.link) (λ (l : CssLink). l)
    links
    are.some (λ k d within. link_read (get_or links k d) (are.each k d within)) are.ascending
    ∙ ap Some (map-id links)

-- ---- PARTITION of RESOURCE

-- the place of an image
abbrev place : ImageRecord → ImagePlace
place i = record { css = i.css; mif = i.mif; name = Some i.name }

abbrev pair : ImageRecord → List ℕ
pair i = list_text (i.name ∷ hex1 i.mif ∷ [])

letter_no_star : (b : ℕ) → is_letter b ≡ true → b == 42 ≡ false
letter_no_star b is = grind (arith, nat_tests)

star_not : (text : List ℕ) → begins_with_letter text ≡ true → bytes_eq text (codes "*") ≡ false
star_not [] first = refl
star_not (b ∷ text) first = rw (letter_no_star b first) refl

image_name_again : (name : List ℕ) → is_name name ≡ true → image_name name ≡ Some (Some name)
image_name_again name is = rw (star_not name (letter_first name is), name_again name is) refl

mif_again : (mif : ℕ) → 1 ≤ mif → mif ≤ 15 → mif_of (hex1 mif) ≡ Some mif
mif_again mif some most =
    ap (option_and_then (λ m. cond (m == 0) None (Some m))) (hex1_again 15 1 mif (omega arith) most refl)
    ∙ ap (λ b. cond b None (Some mif)) (ne_eqb mif 0 (λ e. omega arith))

pair_whole : (i : ImageRecord) → IsImage i → AllWhole (i.name ∷ hex1 i.mif ∷ [])
pair_whole i is = let most = is.most in
    (whole_plain i.name (name_plain i.name is.name), (whole_plain (hex1 i.mif) (hex1_plain i.mif (omega arith)), tt))

image_item_again : (i : ImageRecord) → IsImage i → image_item i.css (value (pair i)) ≡ Some (place i)
image_item_again i is =
    let most = is.most in
    ap (λ found. found >>= image_listed i.css) (items_again i.name (hex1 i.mif ∷ []) (pair_whole i is))
    ∙ (λ j. image_listed i.css
    (plain_again i.name (name_plain i.name is.name) j ∷ plain_again (hex1 i.mif) (hex1_plain i.mif (omega arith)) j
    ∷ []))
    ∙ ap (λ found. found >>= λ mif. image_name i.name >>= λ n. Some (record { css = i.css; mif = mif; name = n }))
    (mif_again i.mif is.some most)
    ∙ ap (λ found. found >>= λ n. Some (record { css = i.css; mif = i.mif; name = n }))
    (image_name_again i.name is.name)

image_read : (i : ImageRecord) → IsImage i → IsReadAgain image_item (λ (k : ImageRecord). k.css) pair place i
image_read i is = record
    { whole = whole_items (i.name ∷ hex1 i.mif ∷ []) (pair_whole i is); again = image_item_again i is }

all_named : (images : List ImageRecord) → filter_map image_at (map place images) ≡ images
all_named [] = refl
all_named (i ∷ images) = ap (λ rest. i ∷ rest) (all_named images)

pub images_again : ReadsImagesAgain
images_again images are =
    ap (option_map (filter_map image_at))
    (items_by_css_again false image_item (λ (p : ImagePlace). p.css) pair place images
    are.some (λ k d within. image_read (get_or images k d) (are.each k d within)) are.ascending)
    ∙ ap Some (all_named images)
