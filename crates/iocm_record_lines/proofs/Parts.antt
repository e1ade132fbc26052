-- Records and lines that are put part by part.
use Rattle.std.proofs.Common.{◌≡◌, ℕ, List, [], ◌∷◌, ◌++◌, Option, None, Some, codes, decimal, refl, sym, ap, ◌∙◌}
use Rattle.std.proofs.Common.{append_assoc, append-nil}
use Rattle.std.specs.Option.{option_map}
use Rattle.json.specs.Print.{escape_byte, quoted}
use Rattle.iocm_types.specs.Print.{hex2, hex4}
use Rattle.iocm_types.specs.declared.image.Image.{Image}
use Rattle.iocm_types.specs.declared.path_kind.PathKind.{PathKind}
use Rattle.iocm_types.specs.declared.path_kind.PathKind.TheVariants.{Dedicated, Shared, Reconfigurable}
use Rattle.iocm_types.specs.declared.unit_range.UnitRange.{UnitRange}
use Rattle.iocm_types.specs.declared.key.Key.{Key}
use Rattle.iocm_types.specs.Key.{key_text}
use Rattle.iocm_model.specs.Change.Edit.{Action, action_key, record_after}
use Rattle.iocm_model.specs.Machine.Record.{Rec, CarriedOperand, ImageRecord, PathRecord, UnitRecord, DeviceRecord, OnlineRecord}
use Rattle.serde_json.specs.Data.{string}
use Rattle.serde_json.specs.Written.{compact_text}
use Rattle.iocm_tree.specs.Carried.{verb_of}
use Rattle.iocm_tree.specs.declared.verb.Verb.{Verb}
use Rattle.iocm_tree.specs.declared.verb.Verb.TheVariants as verb
use Rattle.iocm_lines.specs.Lines.{line, with_comma_if_there}
use Rattle.iocm_lines.specs.Members.{image_name}
use Rattle.iocm_lines.proofs.Objects.{object_is, optional_first}
use Rattle.iocm_lines.proofs.Texts.{Stays, commad, quoted_text, hex2_stays, hex4_stays, image_stays}
use Rattle.iocm_record_lines.specs.Edits.{any_record_value, edit_end, edit_value, verb_text}
use Rattle.std.proofs.Common.{Bool, true, false, if◌then◌else◌}
use Rattle.std.specs.FinMap.{entries}
use Rattle.std.specs.Fmt.{digits}
use Rattle.iocm_types.specs.declared.live.Live.{Live}
use Rattle.iocm_types.specs.declared.place.Place.{Place}
use Rattle.iocm_types.specs.declared.sub_id.SubId.{SubId}
use Rattle.iocm_types.specs.Print.{hex1}
use Rattle.iocm_model.specs.Change.Edit.{Edit}
use Rattle.iocm_model.specs.Operation.Orders.{bits_of}
use Rattle.serde_json.specs.Data.{boolean}
use Rattle.iocm_lines.specs.Members.{hex8, subchannel_name}
use Rattle.iocm_lines.proofs.Texts.{hex1_stays, hex8_stays, subchannel_stays}
use Rattle.iocm_record_lines.specs.Undo.{place_value, state_value, undo_value}
use Rattle.iocm_record_lines.specs.Lists.{list_of}
use Rattle.iocm_record_lines.specs.Records.{operand_value, operands_value, names_value, image_value, path_value, use_text}
use Rattle.iocm_record_lines.specs.Records.{link_value, unit_path_value, range_value, cuadd_value, unit_value}
use Rattle.iocm_record_lines.specs.Records.{candidates_value, number_value, device_value, online_value}
use Rattle.iocm_record_lines.specs.Records.{record_value, record_line_value}
use Rattle.iocm_sight.specs.Linked.{linked_paths}
use Rattle.iocm_words.specs.declared.paths.LinkedPath.{LinkedPath}

-- a text between quotes that needs no escapes
pub between : (s : List ℕ) → Stays s → 34 ∷ (s ++ 34 ∷ []) ≡ quoted s
between s stays = ap (λ e. 34 ∷ (e ++ 34 ∷ [])) (sym stays)

-- ---- an operand

pub keyword_put : (old keyword : List ℕ)
    → ((old ++ codes "\"keyword\":") ++ quoted keyword) ++ 44 ∷ []
    ≡ old ++ with_comma_if_there (codes "keyword") (Some (string keyword))
unfolding escape_byte
keyword_put old keyword =
    append_assoc (old ++ codes "\"keyword\":") (quoted keyword) (44 ∷ [])
    ∙ append_assoc old (codes "\"keyword\":") (quoted keyword ++ 44 ∷ [])
    ∙ ap (λ l. old ++ (codes "\"keyword\":" ++ l)) (sym (append-nil (quoted keyword ++ 44 ∷ [])))

operand_together : (old k t : List ℕ)
    → ((((old ++ 123 ∷ []) ++ k) ++ codes "\"text\":") ++ t) ++ 125 ∷ []
    ≡ old ++ (123 ∷ (k ++ (codes "\"text\":" ++ (t ++ 125 ∷ []))))
operand_together old k t = simp append_assoc

operand_text : (c : CarriedOperand)
    → 123 ∷ (with_comma_if_there (codes "keyword") (option_map string c.keyword)
    ++ (codes "\"text\":" ++ (quoted c.text ++ 125 ∷ [])))
    ≡ compact_text (operand_value c)
unfolding escape_byte
operand_text c =
    object_is _ _
    (optional_first (codes "keyword") (option_map string c.keyword) _ ((codes "text", string c.text) ∷ [])
    ((codes "text", string c.text), [], refl, refl))

pub operand_put : (old : List ℕ) (c : CarriedOperand)
    → ((((old ++ 123 ∷ []) ++ with_comma_if_there (codes "keyword") (option_map string c.keyword)) ++ codes "\"text\":")
    ++ quoted c.text) ++ 125 ∷ []
    ≡ old ++ compact_text (operand_value c)
operand_put old c =
    operand_together old (with_comma_if_there (codes "keyword") (option_map string c.keyword)) (quoted c.text)
    ∙ ap (λ l. old ++ l) (operand_text c)

-- ---- an image

image_together : (old d i q : List ℕ)
    → ((old ++ (codes "{\"css\":" ++ (d ++ (codes ",\"image\":\"" ++ (i ++ codes "\",\"kind\":\"image\",\"name\":")))))
    ++ q) ++ 125 ∷ []
    ≡ old ++ (codes "{\"css\":" ++ (d ++ (codes ",\"image\":" ++ (34 ∷ (i ++ 34 ∷ (codes ",\"kind\":\"image\",\"name\":"
    ++ (q ++ 125 ∷ [])))))))
image_together old d i q = simp append_assoc

abbrev image_of : ImageRecord → Image
image_of r = record { css = r.css; mif = r.mif }

pub image_put : (old : List ℕ) (r : ImageRecord)
    → ((old ++ (codes "{\"css\":" ++ (decimal r.css ++ (codes ",\"image\":\""
    ++ (image_name (image_of r) ++ codes "\",\"kind\":\"image\",\"name\":"))))) ++ quoted r.name) ++ 125 ∷ []
    ≡ old ++ compact_text (image_value r)
unfolding escape_byte
image_put old r = let i : Image = image_of r in
    image_together old (decimal r.css) (image_name i) (quoted r.name)
    ∙ ap (λ l. old ++ (codes "{\"css\":" ++ (decimal r.css ++ (codes ",\"image\":" ++ l))))
    (quoted_text (image_name i) (codes ",\"kind\":\"image\",\"name\":" ++ (quoted r.name ++ 125 ∷ [])) (image_stays i))

-- ---- a channel path

use_stays : (k : PathKind) → Stays (use_text k)
unfolding escape_byte
use_stays Dedicated = refl
use_stays Shared = refl
use_stays Reconfigurable = refl

path_together : (old n m d o h u : List ℕ)
    → ((((((old ++ codes "{\"access\":") ++ n) ++ codes ",\"candidates\":") ++ m)
    ++ (codes ",\"css\":" ++ (d ++ codes ",\"kind\":\"path\",\"operands\":"))) ++ o)
    ++ (codes ",\"path\":\"" ++ (h ++ (codes "\",\"use\":\"" ++ (u ++ codes "\"}"))))
    ≡ old ++ (codes "{\"access\":" ++ (n ++ (codes ",\"candidates\":" ++ (m ++ (codes ",\"css\":" ++ (d
    ++ (codes ",\"kind\":\"path\",\"operands\":" ++ (o ++ (codes ",\"path\":" ++ (34 ∷ (h ++ 34 ∷ (codes ",\"use\":"
    ++ (34 ∷ (u ++ 34 ∷ 125 ∷ []))))))))))))))
path_together old n m d o h u = simp append_assoc

pub path_put : (old : List ℕ) (r : PathRecord)
    → ((((((old ++ codes "{\"access\":") ++ compact_text (names_value r.access)) ++ codes ",\"candidates\":")
    ++ compact_text (names_value r.candidates))
    ++ (codes ",\"css\":" ++ (decimal r.css ++ codes ",\"kind\":\"path\",\"operands\":")))
    ++ compact_text (operands_value r.carried))
    ++ (codes ",\"path\":\"" ++ (hex2 r.number ++ (codes "\",\"use\":\"" ++ (use_text r.kind ++ codes "\"}"))))
    ≡ old ++ compact_text (path_value r)
unfolding escape_byte
path_put old r =
    let n = compact_text (names_value r.access) in
    let m = compact_text (names_value r.candidates) in
    let o = compact_text (operands_value r.carried) in
    path_together old n m (decimal r.css) o (hex2 r.number) (use_text r.kind)
    ∙ ap (λ l. old ++ (codes "{\"access\":" ++ (n ++ (codes ",\"candidates\":" ++ (m ++ (codes ",\"css\":"
    ++ (decimal r.css ++ (codes ",\"kind\":\"path\",\"operands\":" ++ (o ++ (codes ",\"path\":" ++ l))))))))))
    (quoted_text (hex2 r.number) (codes ",\"use\":" ++ (34 ∷ (use_text r.kind ++ 34 ∷ 125 ∷ []))) (hex2_stays r.number)
    ∙ ap (λ l. quoted (hex2 r.number) ++ (codes ",\"use\":" ++ l)) (quoted_text (use_text r.kind) (125 ∷ []) (use_stays r.kind)))

-- ---- a control unit

pub link_member : (value : List ℕ)
    → codes "\"link\":" ++ (value ++ codes ",") ≡ (codes "\"link\":" ++ (value ++ codes ",")) ++ []
link_member value = sym (append-nil (codes "\"link\":" ++ (value ++ codes ",")))

pub unit_path_text : (p : LinkedPath)
    → codes "{\"css\":" ++ (decimal p.css ++ (codes "," ++ (with_comma_if_there (codes "link") (option_map link_value p.link)
    ++ (codes "\"path\":\"" ++ (hex2 p.path ++ codes "\"}")))))
    ≡ compact_text (unit_path_value p)
unfolding escape_byte
unit_path_text p = by p.link
  where
    rest : List ℕ
    rest = codes "\"path\":" ++ (quoted (hex2 p.path) ++ 125 ∷ [])

    last : codes "\"path\":\"" ++ (hex2 p.path ++ codes "\"}") ≡ rest
    last = ap (λ l. codes "\"path\":" ++ l) (quoted_text (hex2 p.path) (125 ∷ []) (hex2_stays p.path))

    by : (l : Option _)
        → codes "{\"css\":" ++ (decimal p.css ++ (codes "," ++ (with_comma_if_there (codes "link") (option_map link_value l)
        ++ (codes "\"path\":\"" ++ (hex2 p.path ++ codes "\"}")))))
        ≡ compact_text (unit_path_value (record p { link = l }))
    by None = ap (λ l. codes "{\"css\":" ++ (decimal p.css ++ (codes "," ++ l))) last
    by (Some l) =
        ap (λ m. codes "{\"css\":" ++ (decimal p.css ++ (codes "," ++ (with_comma_if_there (codes "link") (Some (link_value l)) ++ m)))) last
        ∙ ap (λ m. codes "{\"css\":" ++ (decimal p.css ++ (codes ",\"link\":" ++ m))) (commad (compact_text (link_value l)) rest)

pub range_text : (r : UnitRange)
    → codes "{\"count\":" ++ (decimal r.count ++ (codes ",\"first\":\"" ++ (hex2 r.start ++ codes "\"}")))
    ≡ compact_text (range_value r)
unfolding escape_byte
range_text r =
    ap (λ l. codes "{\"count\":" ++ (decimal r.count ++ (codes ",\"first\":" ++ l)))
    (quoted_text (hex2 r.start) (125 ∷ []) (hex2_stays r.start))

pub cuadd_text : (n : ℕ)
    → codes "{\"cuadd\":\"" ++ (hex2 n ++ codes "\",\"kind\":\"unit\",\"operands\":")
    ≡ codes "{\"cuadd\":" ++ (compact_text (cuadd_value (Some n)) ++ codes ",\"kind\":\"unit\",\"operands\":")
cuadd_text n =
    ap (λ l. codes "{\"cuadd\":" ++ l) (quoted_text (hex2 n) (codes ",\"kind\":\"unit\",\"operands\":") (hex2_stays n))

unit_together : (old c o p h g : List ℕ)
    → ((((((old ++ (codes "{\"cuadd\":" ++ (c ++ codes ",\"kind\":\"unit\",\"operands\":"))) ++ o) ++ codes ",\"paths\":")
    ++ p) ++ (codes ",\"unit\":\"" ++ (h ++ codes "\",\"unitadd\":"))) ++ g) ++ 125 ∷ []
    ≡ old ++ (codes "{\"cuadd\":" ++ (c ++ (codes ",\"kind\":\"unit\",\"operands\":" ++ (o ++ (codes ",\"paths\":" ++ (p
    ++ (codes ",\"unit\":" ++ (34 ∷ (h ++ 34 ∷ (codes ",\"unitadd\":" ++ (g ++ 125 ∷ [])))))))))))
unit_together old c o p h g = simp append_assoc

pub unit_put : (old : List ℕ) (r : UnitRecord)
    → ((((((old ++ (codes "{\"cuadd\":" ++ (compact_text (cuadd_value r.cuadd) ++ codes ",\"kind\":\"unit\",\"operands\":")))
    ++ compact_text (operands_value r.carried)) ++ codes ",\"paths\":")
    ++ compact_text (list_of unit_path_value (linked_paths r)))
    ++ (codes ",\"unit\":\"" ++ (hex4 r.number ++ codes "\",\"unitadd\":")))
    ++ compact_text (list_of range_value r.ranges)) ++ 125 ∷ []
    ≡ old ++ compact_text (unit_value r)
unfolding escape_byte
unit_put old r =
    let c = compact_text (cuadd_value r.cuadd) in
    let o = compact_text (operands_value r.carried) in
    let p = compact_text (list_of unit_path_value (linked_paths r)) in
    let g = compact_text (list_of range_value r.ranges) in
    unit_together old c o p (hex4 r.number) g
    ∙ ap (λ l. old ++ (codes "{\"cuadd\":" ++ (c ++ (codes ",\"kind\":\"unit\",\"operands\":" ++ (o ++ (codes ",\"paths\":" ++ (p
    ++ (codes ",\"unit\":" ++ l))))))))
    (quoted_text (hex4 r.number) (codes ",\"unitadd\":" ++ (g ++ 125 ∷ [])) (hex4_stays r.number))

-- ---- a device

device_together : (old a n h o s u : List ℕ)
    → ((((((old ++ (codes "{\"address\":\"" ++ (a ++ codes "\",\"candidates\":"))) ++ n)
    ++ (codes ",\"device\":\"" ++ (h ++ codes "\",\"kind\":\"device\",\"operands\":"))) ++ o)
    ++ (codes ",\"set\":" ++ (s ++ codes ",\"units\":"))) ++ u) ++ 125 ∷ []
    ≡ old ++ (codes "{\"address\":" ++ (34 ∷ (a ++ 34 ∷ (codes ",\"candidates\":" ++ (n ++ (codes ",\"device\":"
    ++ (34 ∷ (h ++ 34 ∷ (codes ",\"kind\":\"device\",\"operands\":" ++ (o ++ (codes ",\"set\":" ++ (s ++ (codes ",\"units\":"
    ++ (u ++ 125 ∷ []))))))))))))))
device_together old a n h o s u = simp append_assoc

pub device_put : (old : List ℕ) (r : DeviceRecord)
    → ((((((old ++ (codes "{\"address\":\"" ++ (hex2 r.unit_address ++ codes "\",\"candidates\":")))
    ++ compact_text (candidates_value r.candidates))
    ++ (codes ",\"device\":\"" ++ (hex4 r.number ++ codes "\",\"kind\":\"device\",\"operands\":")))
    ++ compact_text (operands_value r.carried))
    ++ (codes ",\"set\":" ++ (decimal r.set ++ codes ",\"units\":")))
    ++ compact_text (list_of number_value r.units)) ++ 125 ∷ []
    ≡ old ++ compact_text (device_value r)
unfolding escape_byte
device_put old r =
    let n = compact_text (candidates_value r.candidates) in
    let o = compact_text (operands_value r.carried) in
    let u = compact_text (list_of number_value r.units) in
    let last = codes ",\"kind\":\"device\",\"operands\":" ++ (o ++ (codes ",\"set\":" ++ (decimal r.set ++ (codes ",\"units\":"
    ++ (u ++ 125 ∷ []))))) in
    device_together old (hex2 r.unit_address) n (hex4 r.number) o (decimal r.set) u
    ∙ ap (λ l. old ++ (codes "{\"address\":" ++ l))
    (quoted_text (hex2 r.unit_address) (codes ",\"candidates\":" ++ (n ++ (codes ",\"device\":" ++ (34 ∷ (hex4 r.number ++ 34 ∷ last)))))
    (hex2_stays r.unit_address)
    ∙ ap (λ l. quoted (hex2 r.unit_address) ++ (codes ",\"candidates\":" ++ (n ++ (codes ",\"device\":" ++ l))))
    (quoted_text (hex4 r.number) last (hex4_stays r.number)))

-- ---- a pair that is online

online_together : (old d q h : List ℕ)
    → ((old ++ (codes "{\"css\":" ++ (d ++ codes ",\"kind\":\"online\",\"name\":"))) ++ q)
    ++ (codes ",\"path\":\"" ++ (h ++ codes "\"}"))
    ≡ old ++ (codes "{\"css\":" ++ (d ++ (codes ",\"kind\":\"online\",\"name\":" ++ (q ++ (codes ",\"path\":"
    ++ (34 ∷ (h ++ 34 ∷ 125 ∷ [])))))))
online_together old d q h = simp append_assoc

pub online_put : (old : List ℕ) (r : OnlineRecord)
    → ((old ++ (codes "{\"css\":" ++ (decimal r.css ++ codes ",\"kind\":\"online\",\"name\":"))) ++ quoted r.name)
    ++ (codes ",\"path\":\"" ++ (hex2 r.path ++ codes "\"}"))
    ≡ old ++ compact_text (online_value r)
unfolding escape_byte
online_put old r =
    online_together old (decimal r.css) (quoted r.name) (hex2 r.path)
    ∙ ap (λ l. old ++ (codes "{\"css\":" ++ (decimal r.css ++ (codes ",\"kind\":\"online\",\"name\":" ++ (quoted r.name
    ++ (codes ",\"path\":" ++ l))))))
    (quoted_text (hex2 r.path) (125 ∷ []) (hex2_stays r.path))

-- ---- lines

line_together : (old k r : List ℕ)
    → ((((old ++ codes "{\"key\":") ++ k) ++ codes ",\"record\":") ++ r) ++ codes ",\"type\":\"record\"}\n"
    ≡ old ++ ((codes "{\"key\":" ++ (k ++ (codes ",\"record\":" ++ (r ++ codes ",\"type\":\"record\"}")))) ++ 10 ∷ [])
line_together old k r = simp append_assoc

pub line_put : (old : List ℕ) (key : Key) (r : Rec)
    → ((((old ++ codes "{\"key\":") ++ quoted (key_text key)) ++ codes ",\"record\":") ++ compact_text (record_value r))
    ++ codes ",\"type\":\"record\"}\n"
    ≡ old ++ line (record_line_value (key, r))
unfolding escape_byte
line_put old key r = line_together old (quoted (key_text key)) (compact_text (record_value r))

abbrev ended : Verb → List ℕ
ended v = codes ",\"type\":\"edit\",\"verb\":" ++ (quoted (verb_text v) ++ 125 ∷ [])

end_is : (v : Verb) → edit_end v ≡ ended v ++ 10 ∷ []
unfolding escape_byte
end_is verb.Add = refl
end_is verb.Delete = refl
end_is verb.Modify = refl

edit_together : (old a b k e : List ℕ)
    → ((((((old ++ codes "{\"after\":") ++ a) ++ codes ",\"before\":") ++ b) ++ codes ",\"key\":") ++ k) ++ (e ++ 10 ∷ [])
    ≡ old ++ ((codes "{\"after\":" ++ (a ++ (codes ",\"before\":" ++ (b ++ (codes ",\"key\":" ++ (k ++ e)))))) ++ 10 ∷ [])
edit_together old a b k e = simp append_assoc

pub edit_put : (old : List ℕ) (before : Option Rec) (action : Action)
    → ((((((old ++ codes "{\"after\":") ++ compact_text (any_record_value (record_after action))) ++ codes ",\"before\":")
    ++ compact_text (any_record_value before)) ++ codes ",\"key\":") ++ quoted (key_text (action_key action)))
    ++ edit_end (verb_of action)
    ≡ old ++ line (edit_value before action)
unfolding escape_byte
edit_put old before action =
    let a = compact_text (any_record_value (record_after action)) in
    let b = compact_text (any_record_value before) in
    let k = quoted (key_text (action_key action)) in
    ap (λ e. ((((((old ++ codes "{\"after\":") ++ a) ++ codes ",\"before\":") ++ b) ++ codes ",\"key\":") ++ k) ++ e)
    (end_is (verb_of action))
    ∙ edit_together old a b k (ended (verb_of action))

-- ---- an edit that takes a change back

undo_together : (old a k n s e : List ℕ)
    → ((((((((old ++ codes "{\"after\":") ++ a) ++ codes ",\"key\":") ++ k) ++ codes ",\"numbers\":") ++ n)
    ++ codes ",\"states\":") ++ s) ++ (e ++ 10 ∷ [])
    ≡ old ++ ((codes "{\"after\":" ++ (a ++ (codes ",\"key\":" ++ (k ++ (codes ",\"numbers\":" ++ (n
    ++ (codes ",\"states\":" ++ (s ++ e)))))))) ++ 10 ∷ [])
undo_together old a k n s e = simp append_assoc

pub undo_put : (old : List ℕ) (edit : Edit)
    → ((((((((old ++ codes "{\"after\":") ++ compact_text (any_record_value (record_after edit.action))) ++ codes ",\"key\":")
    ++ quoted (key_text (action_key edit.action))) ++ codes ",\"numbers\":")
    ++ compact_text (list_of place_value edit.places)) ++ codes ",\"states\":")
    ++ compact_text (list_of state_value (entries edit.lives))) ++ edit_end (verb_of edit.action)
    ≡ old ++ line (undo_value edit)
unfolding escape_byte
undo_put old edit =
    let a = compact_text (any_record_value (record_after edit.action)) in
    let k = quoted (key_text (action_key edit.action)) in
    let n = compact_text (list_of place_value edit.places) in
    let s = compact_text (list_of state_value (entries edit.lives)) in
    ap (λ e. ((((((((old ++ codes "{\"after\":") ++ a) ++ codes ",\"key\":") ++ k) ++ codes ",\"numbers\":") ++ n)
    ++ codes ",\"states\":") ++ s) ++ e)
    (end_is (verb_of edit.action))
    ∙ undo_together old a k n s (ended (verb_of edit.action))

pub place_text : (row : Place × ℕ)
    → codes "{\"css\":" ++ (decimal row.0.css ++ (codes ",\"device\":\"" ++ (hex4 row.0.device ++ (codes "\",\"number\":\""
    ++ (hex4 row.1 ++ (codes "\",\"set\":" ++ (decimal row.0.set ++ codes "}")))))))
    ≡ compact_text (place_value row)
unfolding escape_byte
place_text row =
    let last : List ℕ = codes ",\"set\":" ++ (decimal row.0.set ++ 125 ∷ []) in
    ap (λ l. codes "{\"css\":" ++ (decimal row.0.css ++ (codes ",\"device\":" ++ l)))
    (quoted_text (hex4 row.0.device) (codes ",\"number\":" ++ (34 ∷ (hex4 row.1 ++ 34 ∷ last))) (hex4_stays row.0.device)
    ∙ ap (λ l. quoted (hex4 row.0.device) ++ (codes ",\"number\":" ++ l)) (quoted_text (hex4 row.1) last (hex4_stays row.1)))

word : (b : Bool) → (if b then codes "true" else codes "false") ≡ compact_text (boolean b)
word true = refl
word false = refl

pub state_text : (row : SubId × Live) → let l = row.1 in
    codes "{\"enabled\":" ++ ((if l.enabled then codes "true" else codes "false") ++ (codes ",\"lpm\":\"" ++ (hex2 l.lpm
    ++ (codes "\",\"parm\":\"" ++ (hex8 l.parm ++ (codes "\",\"scsw\":\"" ++ (hex1 (bits_of l.phase).0
    ++ (codes "\",\"subchannel\":\"" ++ (subchannel_name row.0 ++ codes "\"}")))))))))
    ≡ compact_text (state_value row)
unfolding escape_byte
state_text row =
    let l = row.1 in
    let b = (bits_of l.phase).0 in
    let at_name : List ℕ = codes ",\"subchannel\":" ++ (34 ∷ (subchannel_name row.0 ++ 34 ∷ 125 ∷ [])) in
    let at_bits : List ℕ = codes ",\"scsw\":" ++ (34 ∷ (hex1 b ++ 34 ∷ at_name)) in
    ap (λ w. codes "{\"enabled\":" ++ (w ++ (codes ",\"lpm\":\"" ++ (hex2 l.lpm
    ++ (codes "\",\"parm\":\"" ++ (hex8 l.parm ++ (codes "\",\"scsw\":\"" ++ (hex1 b
    ++ (codes "\",\"subchannel\":\"" ++ (subchannel_name row.0 ++ codes "\"}")))))))))) (word l.enabled)
    ∙ ap (λ t. codes "{\"enabled\":" ++ (compact_text (boolean l.enabled) ++ (codes ",\"lpm\":" ++ t)))
    (quoted_text (hex2 l.lpm) (codes ",\"parm\":" ++ (34 ∷ (hex8 l.parm ++ 34 ∷ at_bits))) (hex2_stays l.lpm)
    ∙ ap (λ t. quoted (hex2 l.lpm) ++ (codes ",\"parm\":" ++ t))
    (quoted_text (hex8 l.parm) at_bits (hex8_stays l.parm)
    ∙ ap (λ t. quoted (hex8 l.parm) ++ (codes ",\"scsw\":" ++ t))
    (quoted_text (hex1 b) at_name (hex1_stays b)
    ∙ ap (λ t. quoted (hex1 b) ++ (codes ",\"subchannel\":" ++ t))
    (quoted_text (subchannel_name row.0) (125 ∷ []) (subchannel_stays row.0)))))
