-- Lines of records and of edits are read back.
use Rattle.std.proofs.Common.{◌≡◌, ℕ, ◌<◌, ◌≤◌, ◌^◌, List, [], ◌∷◌, ◌++◌, Option, None, Some, IfSome, refl}
use Rattle.std.proofs.Common.{arith, codes}
use Rattle.std.specs.List.{AllByRecursion}
use Rattle.std.specs.Option.{option_map}
use Rattle.iocm_types.specs.Print.{hex2}
use Rattle.iocm_types.specs.declared.link.Link.{Link}
use Rattle.iocm_types.specs.declared.link.Link.TheVariants as link
use Rattle.iocm_types.specs.declared.unit_range.UnitRange.{UnitRange}
use Rattle.iocm_model.specs.Change.Edit.{record_after}
use Rattle.iocm_model.specs.Machine.PathList.{paths_in}
use Rattle.iocm_model.specs.Machine.Record.{Rec, CarriedOperand, UnitRecord, id, resource, image, limit, path, unit, device, online}
use Rattle.iocm_model.specs.Rules.EachRule.{links_in}
use Rattle.serde_json.specs.Data.{Data, string, depth, items_depth}
use Rattle.iocm_lines.specs.Again.{IsPlain, ItemsArePlain, IsReadBack}
use Rattle.iocm_lines.proofs.Optional.{before_optional, plain_optional, flat_optional, text_plain, text_flat}
use Rattle.iocm_lines.proofs.ReadBack.{plain_is_read_back}
use Rattle.iocm_record_lines.specs.Again.{HasNumbers, LinesAreReadBack}
use Rattle.iocm_record_lines.specs.Edits.{edit_value, any_record_value}
use Rattle.std.specs.FinMap.{entries}
use Rattle.iocm_types.specs.declared.live.Live.{Live}
use Rattle.iocm_types.specs.declared.place.Place.{Place}
use Rattle.iocm_types.specs.declared.sub_id.SubId.{SubId}
use Rattle.iocm_model.specs.Change.Edit.{Edit}
use Rattle.iocm_record_lines.specs.Again.{HasSmallPlaces}
use Rattle.iocm_record_lines.specs.Undo.{place_value, state_value, undo_value}
use Rattle.iocm_record_lines.specs.Lists.{items_of}
use Rattle.iocm_record_lines.specs.Records.{operand_value, operands_value, names_value, link_value, unit_path_value}
use Rattle.iocm_record_lines.specs.Records.{range_value, cuadd_value, candidates_value, number_value}
use Rattle.iocm_record_lines.specs.Records.{record_value, record_line_value}
use Rattle.iocm_sight.specs.Linked.{linked_paths, with_their_links}
use Rattle.iocm_words.specs.declared.paths.LinkedPath.{LinkedPath}

-- ---- lists

pub all_plain : {A : Type 0} (value : A → Data) (P : A → Type 0) → ((x : A) → P x → IsPlain (value x)) → (xs : List A)
    → AllByRecursion P xs → ItemsArePlain (items_of value xs)
all_plain value P each [] all = tt
all_plain value P each (x ∷ xs) all = (each x all.0, all_plain value P each xs all.1)

pub each_plain : {A : Type 0} (value : A → Data) → ((x : A) → IsPlain (value x)) → (xs : List A)
    → ItemsArePlain (items_of value xs)
each_plain value each [] = tt
each_plain value each (x ∷ xs) = (each x, each_plain value each xs)

pub all_low : {A : Type 0} (value : A → Data) (n : ℕ) → ((x : A) → depth (value x) ≤ n) → (xs : List A)
    → items_depth (items_of value xs) ≤ n
all_low value n each [] = omega arith
all_low value n each (x ∷ xs) = omega (arith, each x, all_low value n each xs)

-- ---- operands and names

operand_plain : (c : CarriedOperand) → IsPlain (operand_value c)
operand_plain c =
    plain_optional (codes "keyword") (option_map string c.keyword) ((codes "text", string c.text) ∷ [])
    (text_plain (λ t. t) c.keyword) refl (tt, refl, tt)

operand_low : (c : CarriedOperand) → depth (operand_value c) ≤ 1
operand_low c =
    omega (
      arith,
      flat_optional (codes "keyword") (option_map string c.keyword) ((codes "text", string c.text) ∷ [])
          (text_flat (λ t. t) c.keyword) (omega arith),
    )

operands_plain : (cs : List CarriedOperand) → IsPlain (operands_value cs)
operands_plain cs = each_plain operand_value operand_plain cs

operands_low : (cs : List CarriedOperand) → depth (operands_value cs) ≤ 2
operands_low cs = omega (arith, all_low operand_value 1 operand_low cs)

pub names_plain : (names : List (List ℕ)) → IsPlain (names_value names)
names_plain names = each_plain string (λ _. tt) names

pub names_low : (names : List (List ℕ)) → depth (names_value names) ≤ 1
names_low names = omega (arith, all_low string 0 (λ _. omega arith) names)

-- ---- the paths of a control unit

link_plain : (l : Option Link) → IfSome (option_map link_value l) IsPlain
link_plain None = tt
link_plain (Some link.None) = tt
link_plain (Some (link.Short n)) = tt
link_plain (Some (link.Long n)) = tt

link_flat : (l : Option Link) → IfSome (option_map link_value l) (λ d. depth d ≡ 0)
link_flat None = tt
link_flat (Some link.None) = refl
link_flat (Some (link.Short n)) = refl
link_flat (Some (link.Long n)) = refl

pub path_plain : (p : LinkedPath) → p.css < 2 ^ 64 → IsPlain (unit_path_value p)
path_plain p small =
    let rest : List (List ℕ × Data) = (codes "path", string (hex2 p.path)) ∷ [] in (
      small,
      before_optional (codes "css") (codes "link") (option_map link_value p.link) rest refl refl,
      plain_optional (codes "link") (option_map link_value p.link) rest (link_plain p.link) refl (tt, refl, tt),
    )

pub path_low : (p : LinkedPath) → depth (unit_path_value p) ≤ 1
path_low p =
    omega (
      arith,
      flat_optional (codes "link") (option_map link_value p.link) ((codes "path", string (hex2 p.path)) ∷ [])
          (link_flat p.link) (omega arith),
    )

abbrev IsSmall : LinkedPath → Type 0
IsSmall p = p.css < 2 ^ 64

linked_small : (css : ℕ) (ps : List ℕ) (ls : List Link) → css < 2 ^ 64
    → AllByRecursion IsSmall (with_their_links css ps ls)
linked_small css [] ls small = tt
linked_small css (p ∷ ps) [] small = (small, linked_small css ps [] small)
linked_small css (p ∷ ps) (l ∷ ls) small = (small, linked_small css ps ls small)

both_small : (xs ys : List LinkedPath) → AllByRecursion IsSmall xs → AllByRecursion IsSmall ys
    → AllByRecursion IsSmall (xs ++ ys)
both_small [] ys here there = there
both_small (x ∷ xs) ys here there = (here.0, both_small xs ys here.1 there)

paths_small : (u : UnitRecord) → AllByRecursion IsSmall (linked_paths u)
paths_small u =
    let at : (css : ℕ) → css < 6 → AllByRecursion IsSmall (with_their_links css (paths_in css u.paths) (links_in css u.links))
    = λ css less. linked_small css (paths_in css u.paths) (links_in css u.links) (omega arith) in
    both_small _ _ (at 0 (omega arith)) (both_small _ _ (at 1 (omega arith)) (both_small _ _ (at 2 (omega arith))
    (both_small _ _ (at 3 (omega arith)) (both_small _ _ (at 4 (omega arith)) (both_small _ _ (at 5 (omega arith)) tt)))))

-- ---- records

pub cuadd_plain : (cuadd : Option ℕ) → IsPlain (cuadd_value cuadd)
cuadd_plain None = tt
cuadd_plain (Some n) = tt

pub cuadd_low : (cuadd : Option ℕ) → depth (cuadd_value cuadd) ≤ 0
cuadd_low None = omega arith
cuadd_low (Some n) = omega arith

candidates_plain : (names : Option (List (List ℕ))) → IsPlain (candidates_value names)
candidates_plain None = tt
candidates_plain (Some names) = names_plain names

candidates_low : (names : Option (List (List ℕ))) → depth (candidates_value names) ≤ 1
candidates_low None = omega arith
candidates_low (Some names) = names_low names

pub range_plain : (r : UnitRange) → r.count < 2 ^ 64 → IsPlain (range_value r)
range_plain r small = (small, refl, (tt, refl, tt))

record_plain : (r : Rec) → HasNumbers r → IsPlain (record_value r)
record_plain (id cs) h = (tt, refl, (operands_plain cs, refl, tt))
record_plain (resource cs) h = (tt, refl, (operands_plain cs, refl, tt))
record_plain (image r) h = (h, refl, (tt, refl, (tt, refl, (tt, refl, tt))))
record_plain (limit r) h = (h.0, refl, (tt, refl, (h.1, refl, (h.2, refl, tt))))
record_plain (path r) h = (
  names_plain r.access,
  refl,
  (
    names_plain r.candidates,
    refl,
    (h, refl, (tt, refl, (operands_plain r.carried, refl, (tt, refl, (tt, refl, tt))))),
  ),
)
record_plain (unit r) h = (
  cuadd_plain r.cuadd,
  refl,
  (
    tt,
    refl,
    (
      operands_plain r.carried,
      refl,
      (
        all_plain unit_path_value IsSmall path_plain (linked_paths r) (paths_small r),
        refl,
        (tt, refl, (all_plain range_value (λ r. r.count < 2 ^ 64) range_plain r.ranges h, refl, tt)),
      ),
    ),
  ),
)
record_plain (device r) h = (
  tt,
  refl,
  (
    candidates_plain r.candidates,
    refl,
    (
      tt,
      refl,
      (
        tt,
        refl,
        (operands_plain r.carried, refl, (h, refl, (each_plain number_value (λ _. tt) r.units, refl, tt))),
      ),
    ),
  ),
)
record_plain (online r) h = (h, refl, (tt, refl, (tt, refl, (tt, refl, tt))))

record_low : (r : Rec) → depth (record_value r) ≤ 3
record_low (id cs) = omega (arith, operands_low cs)
record_low (resource cs) = omega (arith, operands_low cs)
record_low (image r) = omega arith
record_low (limit r) = omega arith
record_low (path r) = omega (arith, names_low r.access, names_low r.candidates, operands_low r.carried)
record_low (unit r) =
    omega (
      arith,
      cuadd_low r.cuadd,
      operands_low r.carried,
      all_low unit_path_value 1 path_low (linked_paths r),
      all_low range_value 1 (λ _. omega arith) r.ranges,
    )
record_low (device r) =
    omega (arith, candidates_low r.candidates, operands_low r.carried, all_low number_value 0 (λ _. omega arith) r.units)
record_low (online r) = omega arith

any_plain : (r : Option Rec) → IfSome r HasNumbers → IsPlain (any_record_value r)
any_plain None h = tt
any_plain (Some r) h = record_plain r h

any_low : (r : Option Rec) → depth (any_record_value r) ≤ 3
any_low None = omega arith
any_low (Some r) = record_low r

-- ---- lines

place_plain : (row : Place × ℕ) → (row.0.css < 2 ^ 64) × (row.0.set < 2 ^ 64) → IsPlain (place_value row)
place_plain row h = (h.0, refl, (tt, refl, (tt, refl, (h.1, refl, tt))))

state_plain : (row : SubId × Live) → IsPlain (state_value row)
state_plain row = (tt, refl, (tt, refl, (tt, refl, (tt, refl, (tt, refl, tt)))))

undo_is_read_back : (e : Edit) → IfSome (record_after e.action) HasNumbers → HasSmallPlaces e.places
    → IsReadBack (undo_value e)
undo_is_read_back e h small =
    plain_is_read_back (undo_value e) (
      any_plain (record_after e.action) h,
      refl,
      (
        tt,
        refl,
        (
          all_plain place_value (λ (row : Place × ℕ). (row.0.css < 2 ^ 64) × (row.0.set < 2 ^ 64)) place_plain e.places small,
          refl,
          (each_plain state_value state_plain (entries e.lives), refl, (tt, refl, (tt, refl, tt))),
        ),
      ),
    )
    (omega (
      arith,
      any_low (record_after e.action),
      all_low place_value 1 (λ _. omega arith) e.places,
      all_low state_value 1 (λ _. omega arith) (entries e.lives),
    ))

pub lines_are_read_back : LinesAreReadBack
lines_are_read_back = record {
  record_line = λ key r h. plain_is_read_back (record_line_value (key, r))
      (tt, refl, (record_plain r h, refl, (tt, refl, tt))) (omega (arith, record_low r));
  edit = λ before action h k. plain_is_read_back (edit_value before action)
      (any_plain (record_after action) k, refl, (any_plain before h, refl, (tt, refl, (tt, refl, (tt, refl, tt)))))
      (omega (arith, any_low before, any_low (record_after action)));
  undo = undo_is_read_back;
}
