-- The steps of a loop that takes words in turn.
use Rattle.std.proofs.Common.{◌≡◌, ◌∙◌, ℕ, ◌+◌, ◌<◌, ◌≤◌, List, ◌++◌, length, get_or, take, drop, sym, ap}
use Rattle.std.proofs.lemmas.List.{append-nil, append_assoc, drop_all, drop_more, take_more}
use Rattle.iocm_model.specs.Change.Edit.{Action}
use Rattle.iocm_model.specs.Machine.Configuration.{Configuration}
use Rattle.iocm_filter.specs.Wanted.{Wanted}
use Rattle.iocm_filter.specs.declared.meant.PathWord.{PathWord}
use Rattle.iocm_command.specs.declared.table.Varied.{Varied}
use Rattle.iocm_answer.specs.Commands.Vary.{in_turn, word_actions}

module _ (to : Varied) (w : Wanted) (c : Configuration) (words : List PathWord) where
  -- what the words from a place on ask for, behind those before it
  abbrev pub from_place : ℕ → List Action
  from_place i = in_turn to w c (take i words) (drop i words)

  from_begins : (i : ℕ) (d : PathWord) → i < length words
      → from_place i ≡ word_actions to w c (take i words) (get_or words i d) ++ from_place (i + 1)
  from_begins i d within =
      ap (in_turn to w c (take i words)) (drop_more words i d within)
      ∙ ap (λ before. word_actions to w c (take i words) (get_or words i d) ++ in_turn to w c before (drop (i + 1) words))
      (sym (take_more words i d within))

  pub turn_goes_on : (i : ℕ) (d : PathWord) (actions : List Action) → i < length words
      → (actions ++ word_actions to w c (take i words) (get_or words i d)) ++ from_place (i + 1)
      ≡ actions ++ from_place i
  turn_goes_on i d actions within =
      append_assoc actions (word_actions to w c (take i words) (get_or words i d)) (from_place (i + 1))
      ∙ ap (λ rest. actions ++ rest) (sym (from_begins i d within))

  pub turn_done : (i : ℕ) (actions : List Action) → length words ≤ i → actions ++ from_place i ≡ actions
  turn_done i actions past =
      ap (λ rest. actions ++ in_turn to w c (take i words) rest) (drop_all i words past) ∙ append-nil actions

pub ruleset turn_steps = (turn_goes_on, turn_done)
