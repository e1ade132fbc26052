-- Edits whose keys rise stand in the order of keys already.
use Rattle.std.proofs.Common.{◌≡◌, ◌∙◌, false, if◌then◌else◌, List, [], ◌∷◌, ◌++◌, map, fold, refl, sym, ap}
use Rattle.std.proofs.Common.{append_assoc, append-nil}
use Rattle.std.specs.List.{AllByRecursion}
use Rattle.std.specs.Ordering.{is_lt, ordering_reverse}
use Rattle.std.specs.declared.cmp.Ordering.TheVariants.{Less}
use Rattle.iocm_types.specs.Key.{key_cmp}
use Rattle.iocm_types.specs.KeyOrder.{keys_total}
use Rattle.iocm_model.specs.Change.Edit.{Action, action_key}
use Rattle.iocm_tree.specs.Carried.{bare}
use Rattle.iocm_tree_reader.specs.Leaves.{comes_before, with_edit, in_key_order}
use Rattle.iocm_round_trip.proofs.ByKind.{AreOrdered}

-- an action whose key is smaller than another's
abbrev pub Precedes : Action → Action → Type 0
Precedes a b = key_cmp (action_key a) (action_key b) ≡ Less

abbrev pub AreRising : List Action → Type 0
AreRising actions = AreOrdered Precedes actions

-- all of these precede one
abbrev pub AllPrecede : List Action → Action → Type 0
AllPrecede actions b = AllByRecursion (λ a. Precedes a b) actions

-- all of these precede all of those
abbrev AllPrecedeAll : List Action → List Action → Type 0
AllPrecedeAll done rest = AllByRecursion (λ a. AllByRecursion (Precedes a) rest) done

later : (a b : Action) → Precedes a b → comes_before (bare b) (bare a) ≡ false
later a b less = ap is_lt (keys_total.antisymm (action_key b) (action_key a) ∙ ap ordering_reverse less)

put_behind : (done : List Action) (b : Action) → AllPrecede done b
    → with_edit (map bare done) (bare b) ≡ map bare (done ++ b ∷ [])
put_behind [] b less = refl
put_behind (a ∷ done) b less =
    ap (λ before. if before then bare b ∷ bare a ∷ map bare done else bare a ∷ with_edit (map bare done) (bare b))
    (later a b less.0)
    ∙ ap (λ rest. bare a ∷ rest) (put_behind done b less.1)

first_behind : (done : List Action) (b : Action) (rest : List Action) → AllPrecedeAll done (b ∷ rest)
    → AllPrecede done b
first_behind [] b rest less = tt
first_behind (a ∷ done) b rest less = (less.0.0, first_behind done b rest less.1)

others_behind : (done : List Action) (b : Action) (rest : List Action) → AllPrecedeAll done (b ∷ rest)
    → AllByRecursion (Precedes b) rest
    → AllPrecedeAll (done ++ b ∷ []) rest
others_behind [] b rest less next = (next, tt)
others_behind (a ∷ done) b rest less next = (less.0.1, others_behind done b rest less.1 next)

put_in_turn : (done rest : List Action) → AllPrecedeAll done rest → AreRising rest
    → fold with_edit (map bare done) (map bare rest) ≡ map bare (done ++ rest)
put_in_turn done [] less rising = ap (map bare) (sym (append-nil done))
put_in_turn done (b ∷ rest) less rising =
    ap (λ xs. fold with_edit xs (map bare rest)) (put_behind done b (first_behind done b rest less))
    ∙ put_in_turn (done ++ b ∷ []) rest (others_behind done b rest less rising.0) rising.1
    ∙ ap (map bare) (append_assoc done (b ∷ []) rest)

pub rising_in_order : (actions : List Action) → AreRising actions → in_key_order (map bare actions) ≡ map bare actions
rising_in_order actions rising = put_in_turn [] actions tt rising

-- actions each of which precedes the next one
abbrev pub AreInTurn : Action → List Action → Type 0
AreInTurn a [] = Unit {0}
AreInTurn a (b ∷ actions) = Precedes a b × AreInTurn b actions

precedes_all : (a b : Action) (actions : List Action) → Precedes a b → AllByRecursion (Precedes b) actions
    → AllByRecursion (Precedes a) actions
precedes_all a b [] less all = tt
precedes_all a b (c ∷ actions) less all =
    (keys_total.trans (action_key a) (action_key b) (action_key c) less all.0, precedes_all a b actions less all.1)

pub turn_rises : (a : Action) (actions : List Action) → AreInTurn a actions → AreRising (a ∷ actions)
turn_rises a [] turn = (tt, tt)
turn_rises a (b ∷ actions) turn =
    let rest = turn_rises b actions turn.1 in
    ((turn.0, precedes_all a b actions turn.0 rest.0), rest)
