-- What a reader gives is a value that its operand can have: sets of names, and lists by channel
-- subsystem.
use Rattle.std.proofs.Common.{◌≡◌, ℕ, ◌-◌, ◌<◌, ◌≤◌, ◌==◌, Bool, true, false, cond, Option, Some, None, List, [], ◌∷◌}
use Rattle.std.proofs.Common.{◌++◌, filter, take, length, All, codes, refl, sym, ap, ◌∙◌, subst, arith}
use Rattle.std.proofs.lemmas.List.Elements.{All-nil, All-cons, All-head, All-tail, filter_map-append}
use Rattle.std.specs.List.{list_any, filter_map, flat_map}
use Rattle.std.specs.Option.{option_map}
use Rattle.std.specs.Str.{bytes_eq}
use Rattle.iocm_types.specs.declared.css_path.CssPath.{CssPath}
use Rattle.iocm_types.specs.declared.link.CssLink.{CssLink}
use Rattle.iocm_types.specs.declared.link.Link.{Link}
use Rattle.iocm_types.specs.declared.link.Link.TheVariants as link
use Rattle.iocm_types.specs.Name.{is_name, name_of}
use Rattle.iocm_model.specs.Machine.Record.{ImageRecord}
use Rattle.iocm_values.specs.CssLists.{in_css_order, by_css}
use Rattle.iocm_values.specs.Digits.{hex_of}
use Rattle.iocm_values.specs.NameSet.{name_set, name_item, names_of}
use Rattle.iocm_values.specs.Numbers.{path_number}
use Rattle.iocm_values.specs.Reading.{◌>>=◌, every}
use Rattle.iocm_values.specs.Value.{Value, word, list, values, items, word_text}
use Rattle.iocm_values.specs.Words.{words}
use Rattle.iocm_operands.specs.declared.chpid_partition.Partition.{Partition}
use Rattle.iocm_operands.specs.declared.resource.ImagePlace.{ImagePlace}
use Rattle.iocm_operands.specs.Again.{IsPath, IsNameSet, IsWithinDigits, IsLink, IsImage}
use Rattle.iocm_operands.specs.ChpidPartition as partition
use Rattle.iocm_operands.specs.Device as device
use Rattle.iocm_operands.specs.Given.{HasNameSets, GivesCandidates, GivesPartition, GivesPaths, GivesLinks, GivesImages}
use Rattle.iocm_operands.specs.Resource.{mif_of, image_name, image_listed, image_item, image_at}
use Rattle.iocm_operands.specs.Unit.{path_item, short_link, long_link, link_of, link_item}
use Rattle.iocm_operands.proofs.Given.{no_value, same_value, step_gave, then_gave, map_gave, test_gave, hex_small}
use Rattle.iocm_operands.proofs.Given.{not_zero, every_gave}
use Rattle.iocm_operands.proofs.Grouped.{all_css}
use Rattle.iocm_operands.proofs.Ordered.{name_set_is, by_css_gave}

-- ---- names

abbrev IsName : List ℕ → Type 0
IsName name = is_name name ≡ true

name_is : (text name : List ℕ) → name_of text ≡ Some name → IsName name
name_is text name e = let gave = test_gave (is_name text) (Some text) name e in
    subst IsName (same_value text name gave.1) gave.0

item_is : (v : Value) (name : List ℕ) → name_item v ≡ Some name → IsName name
item_is v name e = let gave = then_gave (word_text v) name_of name e in name_is gave.0 name gave.2

no_names : IsNameSet []
no_names = record { ascending = refl; each = All-nil IsName }

one_name : (name : List ℕ) → IsName name → IsNameSet (name ∷ [])
one_name name is = record { ascending = refl; each = All-cons IsName name [] is (All-nil IsName) }

names_are : (vs : List Value) (names : List (List ℕ)) → names_of vs ≡ Some names → IsNameSet names
names_are vs names e =
    let gave = map_gave (every name_item vs) name_set names e in
    subst IsNameSet gave.2 (name_set_is gave.0 (every_gave IsName name_item item_is vs gave.0 gave.1).0)

-- ---- PARTITION of IODEVICE

-- a name, if there is one
abbrev IsNameIfAny : Option (List ℕ) → Type 0
IsNameIfAny found = (name : List ℕ) → found ≡ Some name → IsName name

candidate_is : (text : List ℕ) (found : Option (List ℕ)) → device.candidate_word text ≡ Some found → IsNameIfAny found
candidate_is text found e name is = by (device.is_no_name text) e
  where
    by : (none : Bool) → cond none (Some None) (option_map Some (name_of text)) ≡ Some found → IsName name
    by true e = no_value name (same_value None found e ∙ is)
    by false e =
        let gave = map_gave (name_of text) Some found e in
        name_is text name (gave.1 ∙ gave.2 ∙ is)

names_kept : (all : List (Option (List ℕ))) → All IsNameIfAny all → All IsName (filter_map (λ n. n) all)
names_kept [] are = All-nil IsName
names_kept (None ∷ all) are = names_kept all (All-tail IsNameIfAny None all are)
names_kept (Some name ∷ all) are =
    All-cons IsName name (filter_map (λ n. n) all) (All-head IsNameIfAny (Some name) all are name refl)
    (names_kept all (All-tail IsNameIfAny (Some name) all are))

pub candidates_given : GivesCandidates
candidates_given (word text) names e = by (bytes_eq text (codes "0")) e
  where
    by : (none : Bool) → cond none (Some []) (option_map (λ name. name ∷ []) (name_of text)) ≡ Some names
        → IsNameSet names
    by true e = subst IsNameSet (same_value [] names e) no_names
    by false e =
        let gave = map_gave (name_of text) (λ name. name ∷ []) names e in
        subst IsNameSet gave.2 (one_name gave.0 (name_is text gave.0 gave.1))
candidates_given (list inner) names e =
    let gave = map_gave (every device.candidate_word (words inner)) (λ ns. name_set (filter_map (λ n. n) ns)) names e in
    let each = every_gave IsNameIfAny device.candidate_word candidate_is (words inner) gave.0 gave.1 in
    subst IsNameSet gave.2 (name_set_is (filter_map (λ n. n) gave.0) (names_kept gave.0 each.0))

-- ---- PARTITION of CHPID

listed_are : (v : Value) (names : List (List ℕ)) → partition.names_listed v ≡ Some names → IsNameSet names
listed_are (word text) names e = by (bytes_eq text (codes "0")) e
  where
    by : (none : Bool) → cond none (Some []) (partition.names_alone (word text)) ≡ Some names → IsNameSet names
    by true e = subst IsNameSet (same_value [] names e) no_names
    by false e = names_are (word text ∷ []) names e
listed_are (list inner) names e = by (bytes_eq inner (codes "0")) e
  where
    by : (none : Bool) → cond none (Some []) (values inner >>= names_of) ≡ Some names → IsNameSet names
    by true e = subst IsNameSet (same_value [] names e) no_names
    by false e = let gave = step_gave (values inner) names_of names e in names_are gave.0 names gave.2

second_are : (access : List (List ℕ)) (v : Value) (names : List (List ℕ)) → IsNameSet access
    → partition.candidates_listed access v ≡ Some names → IsNameSet names
second_are access v names is e = by (partition.is_same_list v) e
  where
    by : (same : Bool) → cond same (Some access) (partition.names_listed v) ≡ Some names → IsNameSet names
    by true e = subst IsNameSet (same_value access names e) is
    by false e = listed_are v names e

alone_has : (access : List (List ℕ)) (rec : Bool) → IsNameSet access
    → HasNameSets (record { access = access; candidates = None; is_reconfigurable = rec })
alone_has access rec is = record { access = is; candidates = λ names e. no_value names e }

both_have : (access candidates : List (List ℕ)) (rec : Bool) → IsNameSet access → IsNameSet candidates
    → HasNameSets (record { access = access; candidates = Some candidates; is_reconfigurable = rec })
both_have access candidates rec first second =
    record { access = first; candidates = λ names e. subst IsNameSet (same_value candidates names e) second }

listed_has : (rec : Bool) (vs : List Value) (p : Partition) → partition.listed rec vs ≡ Some p → HasNameSets p
listed_has rec [] p e = no_value p e
listed_has rec (first ∷ []) p e =
    let gave = step_gave (partition.names_listed first)
    (λ access. Some (record { access = access; candidates = None; is_reconfigurable = rec })) p e in
    subst HasNameSets (same_value (record { access = gave.0; candidates = None; is_reconfigurable = rec }) p gave.2)
    (alone_has gave.0 rec (listed_are first gave.0 gave.1))
listed_has rec (first ∷ second ∷ []) p e =
    let gave = step_gave (partition.names_listed first)
    (λ access. partition.candidates_listed access second >>= λ candidates.
    Some (record { access = access; candidates = Some candidates; is_reconfigurable = rec })) p e in
    let more = step_gave (partition.candidates_listed gave.0 second)
    (λ candidates. Some (record { access = gave.0; candidates = Some candidates; is_reconfigurable = rec })) p
    gave.2 in
    let access : IsNameSet gave.0 = listed_are first gave.0 gave.1 in
    subst HasNameSets (same_value (record { access = gave.0; candidates = Some more.0; is_reconfigurable = rec }) p
    more.2)
    (both_have gave.0 more.0 rec access (second_are gave.0 second more.0 access more.1))
listed_has rec (first ∷ second ∷ v ∷ vs) p e = no_value p e

named_has : (rec : Bool) (vs : List Value) (p : Partition) → partition.named rec vs ≡ Some p → HasNameSets p
named_has rec vs p e =
    let gave = step_gave (names_of vs)
    (λ access. Some (record { access = access; candidates = None; is_reconfigurable = rec })) p e in
    subst HasNameSets (same_value (record { access = gave.0; candidates = None; is_reconfigurable = rec }) p gave.2)
    (alone_has gave.0 rec (names_are vs gave.0 gave.1))

lists_have : (rec : Bool) (vs : List Value) (p : Partition) → partition.lists rec vs ≡ Some p → HasNameSets p
lists_have rec vs p e = by (list_any partition.is_list_form vs) e
  where
    by : (forms : Bool) → cond forms (partition.listed rec vs) (partition.named rec vs) ≡ Some p → HasNameSets p
    by true e = listed_has rec vs p e
    by false e = named_has rec vs p e

with_rec_has : (vs : List Value) (p : Partition) → partition.with_rec vs ≡ Some p → HasNameSets p
with_rec_has vs p e = by (partition.ends_with_rec vs) e
  where
    by : (rec : Bool) → cond rec (partition.lists true (take (length vs - 1) vs)) (partition.lists false vs) ≡ Some p
        → HasNameSets p
    by true e = lists_have true (take (length vs - 1) vs) p e
    by false e = lists_have false vs p e

pub partition_given : GivesPartition
partition_given css v p e =
    let gave = step_gave (items v >>= partition.without_groups css) partition.with_rec p e in
    with_rec_has gave.0 p gave.2

-- ---- PATH of CNTLUNIT

path_item_is : (css : ℕ) (v : Value) (p : CssPath) → css < 6 → path_item css v ≡ Some p → IsPath p
path_item_is css v p small e =
    let gave = step_gave (word_text v >>= path_number) (λ path. Some (record { css = css; path = path })) p e in
    let text = step_gave (word_text v) path_number gave.0 gave.1 in
    let within = hex_small 255 2 gave.0 text.0 text.2 in
    subst IsPath (same_value (record { css = css; path = gave.0 }) p gave.2)
    (record { css = small; path = omega arith })

pub paths_given : GivesPaths
paths_given v paths e = by_css_gave IsPath path_item (λ (p : CssPath). p.css) path_item_is (λ p is. is.css) v paths e

-- ---- LINK of CNTLUNIT

link_is : (text : List ℕ) (l : Link) → link_of text ≡ Some l → IsWithinDigits l
link_is text l e = by (bytes_eq text (codes "**")) (length text == 2) (length text == 4) e
  where
    by : (none two four : Bool)
        → cond none (Some link.None) (cond two (short_link text) (cond four (long_link text) None)) ≡ Some l
        → IsWithinDigits l
    by true two four e = subst IsWithinDigits (same_value link.None l e) tt
    by false true four e =
        let gave = map_gave (hex_of 255 2 text) link.Short l e in
        let within = hex_small 255 2 gave.0 text gave.1 in
        let fits : gave.0 < 256 = omega arith in
        subst IsWithinDigits gave.2 fits
    by false false true e =
        let gave = map_gave (hex_of 65535 4 text) link.Long l e in
        let within = hex_small 65535 4 gave.0 text gave.1 in
        let fits : gave.0 < 65536 = omega arith in
        subst IsWithinDigits gave.2 fits
    by false false false e = no_value l e

link_item_is : (css : ℕ) (v : Value) (l : CssLink) → css < 6 → link_item css v ≡ Some l → IsLink l
link_item_is css v l small e =
    let gave = step_gave (word_text v >>= link_of) (λ to. Some (record { css = css; link = to })) l e in
    let text = step_gave (word_text v) link_of gave.0 gave.1 in
    subst IsLink (same_value (record { css = css; link = gave.0 }) l gave.2)
    (record { css = small; link = link_is text.0 gave.0 text.2 })

pub links_given : GivesLinks
links_given v links e = by_css_gave IsLink link_item (λ (l : CssLink). l.css) link_item_is (λ l is. is.css) v links e

-- ---- PARTITION of RESOURCE

record IsPlace (p : ImagePlace) : Type 0 where
  pub css : p.css < 6
  pub some : 1 ≤ p.mif
  pub most : p.mif ≤ 15
  pub name : IsNameIfAny p.name

image_name_is : (text : List ℕ) (found : Option (List ℕ)) → image_name text ≡ Some found → IsNameIfAny found
image_name_is text found e name is = by (bytes_eq text (codes "*")) e
  where
    by : (none : Bool) → cond none (Some None) (option_map Some (name_of text)) ≡ Some found → IsName name
    by true e = no_value name (same_value None found e ∙ is)
    by false e =
        let gave = map_gave (name_of text) Some found e in
        name_is text name (gave.1 ∙ gave.2 ∙ is)

mif_is : (text : List ℕ) (mif : ℕ) → mif_of text ≡ Some mif → (1 ≤ mif) × (mif ≤ 15)
mif_is text mif e =
    let gave = then_gave (hex_of 15 1 text) (λ m. cond (m == 0) None (Some m)) mif e in
    let some = not_zero gave.0 mif gave.2 in
    (some.1, subst (λ k. k ≤ 15) some.0 (hex_small 15 1 gave.0 text gave.1))

image_listed_is : (css : ℕ) (vs : List Value) (p : ImagePlace) → css < 6 → image_listed css vs ≡ Some p → IsPlace p
image_listed_is css [] p small e = no_value p e
image_listed_is css (list inner ∷ vs) p small e = no_value p e
image_listed_is css (word name ∷ []) p small e = no_value p e
image_listed_is css (word name ∷ list inner ∷ vs) p small e = no_value p e
image_listed_is css (word name ∷ word digit ∷ v ∷ vs) p small e = no_value p e
image_listed_is css (word name ∷ word digit ∷ []) p small e =
    let gave = step_gave (mif_of digit)
    (λ mif. image_name name >>= λ n. Some (record { css = css; mif = mif; name = n })) p e in
    let more = step_gave (image_name name) (λ n. Some (record { css = css; mif = gave.0; name = n })) p gave.2 in
    let mif = mif_is digit gave.0 gave.1 in
    subst IsPlace (same_value (record { css = css; mif = gave.0; name = more.0 }) p more.2)
    (record { css = small; some = mif.0; most = mif.1; name = image_name_is name more.0 more.1 })

image_item_is : (css : ℕ) (v : Value) (p : ImagePlace) → css < 6 → image_item css v ≡ Some p → IsPlace p
image_item_is css v p small e = let gave = step_gave (items v) (image_listed css) p e in
    image_listed_is css gave.0 p small gave.2

images_are : (places : List ImagePlace) → All IsPlace places → All IsImage (filter_map image_at places)
images_are [] are = All-nil IsImage
images_are (p ∷ places) are = by p.name refl (images_are places (All-tail IsPlace p places are))
  where
    first : IsPlace p
    first = All-head IsPlace p places are

    by : (name : Option (List ℕ)) → p.name ≡ name → All IsImage (filter_map image_at places)
        → All IsImage (filter_map image_at (p ∷ places))
    by None is others = rw is others
    by (Some name) is others =
        rw is (All-cons IsImage (record { css = p.css; mif = p.mif; name = name }) (filter_map image_at places)
        (record { css = first.css; some = first.some; most = first.most; name = first.name name is }) others)

images_of_css : (css : ℕ) (places : List ImagePlace)
    → filter (λ (i : ImageRecord). i.css == css) (filter_map image_at places)
    ≡ filter_map image_at (filter (λ (p : ImagePlace). p.css == css) places)
images_of_css css [] = refl
images_of_css css (p ∷ places) = by p.name refl (p.css == css) refl (images_of_css css places)
  where
    by : (name : Option (List ℕ)) → p.name ≡ name → (here : Bool) → p.css == css ≡ here
        → filter (λ (i : ImageRecord). i.css == css) (filter_map image_at places)
        ≡ filter_map image_at (filter (λ (q : ImagePlace). q.css == css) places)
        → filter (λ (i : ImageRecord). i.css == css) (filter_map image_at (p ∷ places))
        ≡ filter_map image_at (filter (λ (q : ImagePlace). q.css == css) (p ∷ places))
    by None is true here others = rw (is, here) others
    by None is false here others = rw (is, here) others
    by (Some name) is true here others =
        rw (is, here) (ap (λ rest. record { css = p.css; mif = p.mif; name = name } ∷ rest) others)
    by (Some name) is false here others = rw (is, here) others

images_in_order : (places : List ImagePlace) (all : List ℕ)
    → flat_map (λ css. filter (λ (i : ImageRecord). i.css == css) (filter_map image_at places)) all
    ≡ filter_map image_at (flat_map (λ css. filter (λ (p : ImagePlace). p.css == css) places) all)
images_in_order places [] = refl
images_in_order places (css ∷ all) =
    (λ i. images_of_css css places i ++ images_in_order places all i)
    ∙ sym (filter_map-append image_at (filter (λ (p : ImagePlace). p.css == css) places)
    (flat_map (λ n. filter (λ (p : ImagePlace). p.css == n) places) all))

pub images_given : GivesImages
images_given v images e some =
    let gave = map_gave (by_css false image_item (λ (p : ImagePlace). p.css) v) (filter_map image_at) images e in
    let are = by_css_gave IsPlace image_item (λ (p : ImagePlace). p.css) image_item_is (λ p is. is.css) v gave.0
    gave.1 in
    let order : in_css_order (λ (i : ImageRecord). i.css) (filter_map image_at gave.0) ≡ filter_map image_at gave.0 =
    images_in_order gave.0 all_css ∙ ap (filter_map image_at) are.ascending in
    record {
      some = some;
      each = subst (All IsImage) gave.2 (images_are gave.0 are.each);
      ascending = subst (λ is. in_css_order (λ (i : ImageRecord). i.css) is ≡ is) gave.2 order;
    }
