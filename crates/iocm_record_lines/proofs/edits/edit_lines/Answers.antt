use Rattle.std.proofs.Common.{◌≡◌, ◌∙◌, ◌<◌, ◌+◌, ℕ, List, [], ◌∷◌, ◌++◌, get_or, length, take, sym, ap}
use Rattle.std.proofs.lemmas.List.{flat_map_more, take_all, take_more}
use Rattle.std.proofs.lemmas.List.Folds.{flat_map-map}
use Rattle.std.specs.List.{flat_map}
use Rattle.iocm_tree.specs.Carried.{Carried}
use Rattle.iocm_record_lines.specs.Edits.{edit_line}
use Rattle.iocm_record_lines.proofs.edits.edit_lines.Goals as goal

-- a line more
turn : (f : Carried → List ℕ) (edits : List Carried) (i : ℕ) (e : Carried) (text : List ℕ) → i < length edits
    → e ≡ get_or edits i e → text ≡ flat_map f (take i edits) → text ++ f e ≡ flat_map f (take (i + 1) edits)
turn f edits i e text within is known =
    ap (λ (l : List ℕ). l ++ f e) known ∙ flat_map_more f [] (take i edits) e
    ∙ ap (λ x. flat_map f (take i edits ++ x ∷ [])) is ∙ ap (flat_map f) (sym (take_more edits i e within))

pub loop-edit-preserved : goal.loop-edit-preserved
loop-edit-preserved g c =
    rw c.in_ok-put_edit_line.ensures
    (turn (λ e. edit_line c.args.config.now.records e.edit.action) c.args.edits.now c.loop-edit.edit-index
    c.edit-item.result c.loop-edit.text.items c.loop-edit-test.true c.edit-item.is c.loop-edit.invariant)

pub returns : goal.returns
returns g c =
    let line = edit_line c.args.config.now.records in
    c.loop-edit.invariant
    ∙ ap (flat_map (λ (e : Carried). line e.edit.action)) (take_all c.loop-edit.edit-index c.args.edits.now c.loop-edit-test.false)
    ∙ sym (flat_map-map line (λ (e : Carried). e.edit.action) c.args.edits.now)
