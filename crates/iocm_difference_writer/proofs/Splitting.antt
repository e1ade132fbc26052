-- The first run of some edits, edit by edit.
use Rattle.std.proofs.Common.{◌≡◌, ◌∙◌, ◌+◌, ◌-◌, ◌<◌, ◌≤◌, ◌++◌, ℕ, Bool, true, false, List, [], ◌∷◌, if◌then◌else◌}
use Rattle.std.proofs.Common.{length, drop, take, get_or, refl, ap, sym, arith}
use Rattle.std.proofs.lemmas.List.{drop_all, drop_more, take_more, get_or_default, length-map, length-take-le}
use Rattle.std.proofs.lemmas.List.{map-append}
use Rattle.iocm_model.specs.Change.Edit.{Action}
use Rattle.iocm_tree.specs.Carried.{Carried}
use Rattle.iocm_difference_writer.specs.Runs.{action_in, actions_in, goes_with, runs, runs_from}

-- the runs of edits, of which so many are found to be of the first one
abbrev pub runs_behind : List Carried → ℕ → Carried → List (List Action)
runs_behind edits count d =
    runs_from (actions_in (take count edits)) (action_in (get_or edits (count - 1) d)) (actions_in (drop count edits))

-- what was found of the first run
pub record IsSoFar (edits : List Carried) (count : ℕ) : Type 0 where
  pub some : 0 < count
  pub within : count ≤ length edits
  pub runs : (d : Carried) → runs (actions_in edits) ≡ runs_behind edits count d

pub begins : (edits : List Carried) → 0 < length edits → IsSoFar edits 1
begins [] some = absurd (omega arith)
begins (e ∷ edits) some = record { some = omega arith; within = omega arith; runs = λ d. refl }

so_many : (edits : List Carried) (count : ℕ) → count ≤ length edits → length (actions_in (take count edits)) ≡ count
so_many edits count within = length-map (take count edits) action_in ∙ length-take-le count edits within

-- the next edit, with what its test answers
next_edit : (edits : List Carried) (count : ℕ) (d e : Carried) (test : Bool) → count ≤ length edits
    → count < length edits
    → goes_with count (action_in (get_or edits (count - 1) d)) (action_in (get_or edits count e)) ≡ test
    → runs_behind edits count d
    ≡ (if test then runs_from (actions_in (take count edits) ++ action_in (get_or edits count e) ∷ [])
    (action_in (get_or edits count e)) (actions_in (drop (count + 1) edits))
    else actions_in (take count edits)
    ∷ runs_from (action_in (get_or edits count e) ∷ []) (action_in (get_or edits count e))
    (actions_in (drop (count + 1) edits)))
next_edit edits count d e test within more is =
    let run = actions_in (take count edits) in
    let last = action_in (get_or edits (count - 1) d) in
    let next = action_in (get_or edits count e) in
    let others = actions_in (drop (count + 1) edits) in
    ap (λ rest. runs_from run last (actions_in rest)) (drop_more edits count e more)
    ∙ ap (λ n. if goes_with n last next then runs_from (run ++ next ∷ []) next others
    else run ∷ runs_from (next ∷ []) next others) (so_many edits count within)
    ∙ ap (λ b. if b then runs_from (run ++ next ∷ []) next others else run ∷ runs_from (next ∷ []) next others) is

-- the test of an edit and the one before it is that of what stands at their places
at_places : (edits : List Carried) (count : ℕ) (d e : Carried) (test : Bool) → d ≡ get_or edits (count - 1) d
    → e ≡ get_or edits count e
    → goes_with count (action_in d) (action_in e) ≡ test
    → goes_with count (action_in (get_or edits (count - 1) d)) (action_in (get_or edits count e)) ≡ test
at_places edits count d e test last next is =
    sym (ap (λ x. goes_with count (action_in x) (action_in e)) last
    ∙ ap (λ x. goes_with count (action_in (get_or edits (count - 1) d)) (action_in x)) next) ∙ is

-- the next edit goes with the run
pub longer : (edits : List Carried) (count : ℕ) (d e : Carried) → IsSoFar edits count → count < length edits
    → d ≡ get_or edits (count - 1) d → e ≡ get_or edits count e → goes_with count (action_in d) (action_in e) ≡ true
    → IsSoFar edits (count + 1)
longer edits count d e so_far within last is goes_on = record {
  some = omega (arith, so_far.some);
  within = omega (arith, within);
  runs = λ f.
      let one : count + 1 - 1 ≡ count = omega arith in
      let run : actions_in (take count edits) ++ action_in (get_or edits count e) ∷ []
      ≡ actions_in (take (count + 1) edits) =
      sym (ap actions_in (take_more edits count e within)
      ∙ map-append action_in (take count edits) (get_or edits count e ∷ [])) in
      let next : get_or edits count e ≡ get_or edits (count + 1 - 1) f =
      get_or_default edits count e f within ∙ ap (λ n. get_or edits n f) (sym one) in
      so_far.runs d ∙ next_edit edits count d e true so_far.within within
      (at_places edits count d e true last is goes_on)
      ∙ ap (λ all. runs_from all (action_in (get_or edits count e)) (actions_in (drop (count + 1) edits))) run
      ∙ ap (λ x. runs_from (actions_in (take (count + 1) edits)) (action_in x) (actions_in (drop (count + 1) edits)))
      next;
}

-- nothing is left
pub ends : (edits : List Carried) (count : ℕ) → IsSoFar edits count → length edits ≤ count
    → runs (actions_in edits) ≡ actions_in (take count edits) ∷ runs (actions_in (drop count edits))
ends [] count so_far past = absurd (omega (arith, so_far.some, so_far.within))
ends (d ∷ others) count so_far past =
    let edits = d ∷ others in
    so_far.runs d ∙ ap (λ rest.
    runs_from (actions_in (take count edits)) (action_in (get_or edits (count - 1) d)) (actions_in rest))
    (drop_all count edits past)
    ∙ sym (ap (λ rest. actions_in (take count edits) ∷ runs (actions_in rest)) (drop_all count edits past))

-- it doesn't
pub stops : (edits : List Carried) (count : ℕ) (d e : Carried) → IsSoFar edits count → count < length edits
    → d ≡ get_or edits (count - 1) d → e ≡ get_or edits count e → goes_with count (action_in d) (action_in e) ≡ false
    → runs (actions_in edits) ≡ actions_in (take count edits) ∷ runs (actions_in (drop count edits))
stops edits count d e so_far within last is other =
    so_far.runs d ∙ next_edit edits count d e false so_far.within within (at_places edits count d e false last is other)
    ∙ sym (ap (λ rest. actions_in (take count edits) ∷ runs (actions_in rest)) (drop_more edits count e within))
