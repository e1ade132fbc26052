-- The bytes at the eight places, and zeros past the end, are the name and its padding.
use Rattle.std.proofs.Common.{◌≡◌, true, rules, ap, Some, sym, ◌∙◌, refl}
use Rattle.iocm_types.specs.Name.{is_name}
use Rattle.iocm_types.proofs.Padding.{filled, padded, taken_back, name_is_short}
use Rattle.iocm_types.proofs.name.Name.new.Goals as goal

pub invariant_of-result : goal.invariant_of-result
invariant_of-result c =
    let name : is_name c.args.bytes.now ≡ true = search rules in
    padded c.args.bytes.now _ name (filled c.args.bytes.now _ _ _ _ _ _ _ _ (name_is_short c.args.bytes.now name)
    c.byte_at.ensures c.byte_at-2.ensures c.byte_at-3.ensures c.byte_at-4.ensures
    c.byte_at-5.ensures c.byte_at-6.ensures c.byte_at-7.ensures c.byte_at-8.ensures)

pub returns : goal.returns
returns c =
    let name : is_name c.args.bytes.now ≡ true = search rules in
    let is = filled c.args.bytes.now _ _ _ _ _ _ _ _ (name_is_short c.args.bytes.now name)
    c.byte_at.ensures c.byte_at-2.ensures c.byte_at-3.ensures c.byte_at-4.ensures
    c.byte_at-5.ensures c.byte_at-6.ensures c.byte_at-7.ensures c.byte_at-8.ensures in
    ap Some (taken_back c.args.bytes.now _ is) ∙ sym (rw name refl)
