-- What an activation gives follows from what its log tells.
use Rattle.std.proofs.Common.{◌≡◌, List, [], ◌∷◌, ◌++◌, map, Option, refl, sym, ap, subst, ◌∙◌}
use Rattle.std.specs.FinMap.{get}
use Rattle.std.proofs.lemmas.List.{map-append}
use Rattle.iocm_model.specs.Operation.State.{State, views_in}
use Rattle.iocm_model.specs.Change.Edit.{Edit, state_after}
use Rattle.iocm_model.specs.Change.Effect.{cells_written}
use Rattle.iocm_model.specs.Change.InverseTree.{parts_of, inverse_tree}
use Rattle.iocm_model.specs.Change.Runs.{inverses, cells_written_by_all}
use Rattle.iocm_model.specs.Change.Tree as model
use Rattle.iocm_types.specs.declared.place.NumberCell.{NumberCell}
use Rattle.iocm_types.specs.declared.sub_id.SubId.{SubId}
use Rattle.iocm_types.specs.declared.view.View.{View}
use Rattle.iocm_model.specs.Machine.Numbering.{Numbering}
use Rattle.iocm_numbers.specs.NumberChanges as numbers
use Rattle.iocm_seats.specs.Changes as views
use Rattle.iocm_tree.specs.Carried.{Carried}
use Rattle.iocm_tree.specs.Trees.{row, plain_tree, plain_parts}
use Rattle.iocm_plant.specs.declared.touched.Applied.{Applied}
use Rattle.iocm_plant.specs.declared.touched.Touched.{Touched}
use Rattle.iocm_activate.specs.Done.{leaves_from, touched_in, AreToldBy}
use Rattle.iocm_activate.specs.Effects.{cells_changed, subchannels_changed, numbers_told, subchannels_told, cells_told}
use Rattle.iocm_activate.specs.Told.{Told, told_of_all, told_in, key_of_edit, way_back}
use Rattle.iocm_activate.specs.declared.log.Log.{Log}

-- ---- the inverse tree

-- equal lists begin alike
same_head : {A : Type 0} (x y : A) (xs ys : List A) → x ∷ xs ≡ y ∷ ys → x ≡ y
same_head x y xs ys h = cc

-- and go on alike
same_tail : {A : Type 0} (x y : A) (xs ys : List A) → x ∷ xs ≡ y ∷ ys → xs ≡ ys
same_tail x y xs ys h = cc

-- the edits that take these back are their inverses
way_back_is : (ds : List Applied) (es : List Edit) (s : State) → map told_in ds ≡ told_of_all es s
    → map (λ (i : Carried). i.edit) (way_back ds) ≡ inverses es s
way_back_is [] [] s h = refl
way_back_is [] (e ∷ es) s h = cc
way_back_is (a ∷ ds) [] s h = cc
way_back_is (a ∷ ds) (e ∷ es) s h =
    map-append (λ (i : Carried). i.edit) (way_back ds) (a.inverse ∷ [])
    ∙ (λ i. way_back_is ds es (state_after e s) (same_tail _ _ _ _ h) i
    ++ (ap (λ (t : Told). t.inverse) (same_head _ _ _ _ h) i) ∷ [])

-- edits as the parts of a node, read plainly
leaves_plain : (is : List Carried) → plain_parts (leaves_from is) ≡ parts_of (map (λ (i : Carried). i.edit) is)
leaves_plain [] = refl
leaves_plain (i ∷ is) = ap (model.part (model.leaf i.edit)) (leaves_plain is)

-- the row of them is the inverse tree
pub inverse_is : (ds : List Applied) (es : List Edit) (s : State) → map told_in ds ≡ told_of_all es s
    → plain_tree (row (leaves_from (way_back ds))) ≡ inverse_tree es s
inverse_is ds es s h = ap model.row (leaves_plain (way_back ds) ∙ ap parts_of (way_back_is ds es s h))

-- ---- the cells that were written

-- the keys of edits are those that they write
keys_are : (es : List Edit) (s : State) → map key_of_edit es ≡ (cells_written_by_all es s).keys
keys_are [] s = refl
keys_are (e ∷ es) s = ap (λ ks. key_of_edit e ∷ ks) (keys_are es (state_after e s))

-- the cells of changes between numbers
pub cells_are : (n m : Numbering) (cells : List NumberCell)
    → cells_changed (map (numbers.number_change n m) cells) ≡ cells
cells_are n m [] = refl
cells_are n m (c ∷ cs) = ap (λ ds. c ∷ ds) (cells_are n m cs)

-- the subchannels of changes between views
pub subchannels_are : (v w : SubId → Option View) (xs : List SubId)
    → subchannels_changed (map (views.view_change v w) xs) ≡ xs
subchannels_are v w [] = refl
subchannels_are v w (x ∷ xs) = ap (λ ys. x ∷ ys) (subchannels_are v w xs)

-- the number cells that are told are those that the edits write
numbers_are : (es : List Edit) (s : State) → numbers_told (told_of_all es s) ≡ (cells_written_by_all es s).numbers
numbers_are [] s = refl
numbers_are (e ∷ es) s =
    λ i. cells_are s.numbers (state_after e s).numbers (cells_written e s).numbers i
    ++ numbers_are es (state_after e s) i

-- and so are the subchannels
altered_are : (es : List Edit) (s : State)
    → subchannels_told (told_of_all es s) ≡ (cells_written_by_all es s).subchannels
altered_are [] s = refl
altered_are (e ∷ es) s =
    λ i. subchannels_are (get (views_in s)) (get (views_in (state_after e s))) (cells_written e s).subchannels i
    ++ altered_are es (state_after e s) i

-- the cells that a log tells are those that the edits write
pub cells_told_are : (log : Log) (es : List Edit) (s : State) → map told_in log.done.items ≡ told_of_all es s
    → log.keys.items ≡ map key_of_edit es
    → cells_told log ≡ cells_written_by_all es s
cells_told_are log es s told keys = λ i. record {
  keys = (keys ∙ keys_are es s) i;
  numbers = (ap numbers_told told ∙ numbers_are es s) i;
  subchannels = (ap subchannels_told told ∙ altered_are es s) i;
}

-- ---- what each edit did

-- what was done is what is told of it
each_told : (ds : List Applied) → AreToldBy (touched_in ds) (map told_in ds)
each_told [] = tt
each_told (d ∷ ds) = ((refl, refl), each_told ds)

-- what was performed is what is told of the edits
pub are_told : (ds : List Applied) (performed : List Touched) (es : List Edit) (s : State) → performed ≡ touched_in ds
    → map told_in ds ≡ told_of_all es s
    → AreToldBy performed (told_of_all es s)
are_told ds performed es s is told =
    subst (λ ts. AreToldBy ts (told_of_all es s)) (sym is) (subst (AreToldBy (touched_in ds)) told (each_told ds))
