use Rattle.std.proofs.Common.{◌≡◌, ◌∙◌, ◌++◌, List, [], ◌∷◌, Option, Some, None, map, refl, sym, ap}
use Rattle.std.specs.List.{slice_get}
use Rattle.std.specs.Option.{option_copied}
use Rattle.iocm_model.specs.Change.Edit.{action_key}
use Rattle.iocm_tree.specs.Carried.{Carried, verb_of}
use Rattle.iocm_tree_writer.specs.Written.{line_to_write}
use Rattle.iocm_difference_writer.specs.Runs.{action_in, actions_in}
use Rattle.iocm_difference_writer.specs.Written.{lines_by, run_lines}
use Rattle.iocm_difference_writer.proofs.lines.run_lines.Goals.{in-Some+in_ok-put_run, in_default}
use Rattle.iocm_difference_writer.proofs.lines.run_lines.Goals as goal

lines_of_first : (edits : List Carried) (e : Carried) → Some e ≡ slice_get edits 0
    → lines_by (action_key (action_in e)) (verb_of (action_in e)) (actions_in edits) ≡ run_lines (actions_in edits)
lines_of_first [] e is = cc
lines_of_first (x ∷ edits) e is =
    let same : e ≡ x = cc in
    ap (λ y. lines_by (action_key (action_in y)) (verb_of (action_in y)) (actions_in (x ∷ edits))) same

lines_of_none : (edits : List Carried) → None ≡ slice_get edits 0 → [] ≡ run_lines (actions_in edits)
lines_of_none [] is = refl
lines_of_none (x ∷ edits) is = cc

no_value : {X : Type 0} (found : Option X) → ((x : X) → found ≡ Some x → ⊥) → found ≡ None
no_value None other = refl
no_value (Some x) other = absurd (other x refl)

pub returns : goal.returns
returns g c =
    let actions = actions_in c.args.run.now in
    elim c.match-first.branch [
      | in-Some+in_ok-put_run w ↦
          ap (λ deck. deck.items) w.deck-is ∙ w.in_ok-put_run.ensures
          ∙ ap (λ done. done ++ map line_to_write (lines_by w.key.result w.verb.result actions))
          c.new-deck.ensures.items
          ∙ ap (λ k. map line_to_write (lines_by k w.verb.result actions)) w.key.ensures
          ∙ ap (λ v. map line_to_write (lines_by (action_key (action_in w.in-Some.first.now)) v actions)) w.verb.ensures
          ∙ ap (map line_to_write)
          (lines_of_first c.args.run.now w.in-Some.first.now
          (sym (ap option_copied w.in-Some.is) ∙ c.first.ensures.value))
      | in_default w ↦
          ap (λ deck. deck.items) w.deck-is ∙ c.new-deck.ensures.items
          ∙ ap (map line_to_write)
          (lines_of_none c.args.run.now
          (sym (ap option_copied (no_value c.first.result w.in_default.not-Some)) ∙ c.first.ensures.value))
    ]
