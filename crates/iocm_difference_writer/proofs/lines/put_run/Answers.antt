use Rattle.std.proofs.Common.{◌≡◌, ◌++◌, ℕ, List, map, refl, subst}
use Rattle.std.specs.Result.{OnOk}
use Rattle.iocm_types.specs.declared.key.Key.{Key}
use Rattle.iocm_types.specs.declared.key.Key.TheVariants as key
use Rattle.iocm_model.specs.Change.Edit.{Action}
use Rattle.iocm_tree.specs.declared.verb.Verb.{Verb}
use Rattle.iocm_tree_writer.specs.Written.{action_line, line_to_write}
use Rattle.iocm_difference_writer.specs.Runs.{actions_in}
use Rattle.iocm_difference_writer.specs.Written.{lines_by}
use Rattle.iocm_difference_writer.proofs.lines.put_run.Goals as goal

each_alone : (k : Key) (verb : Verb) (run : List Action) → ((set number : ℕ) → k ≡ key.Device set number → ⊥)
    → ((css path : ℕ) (name : List ℕ) → k ≡ key.Online css path name → ⊥) → map action_line run ≡ lines_by k verb run
each_alone key.Id verb run no_device no_pair = refl
each_alone key.Resource verb run no_device no_pair = refl
each_alone (key.Image css mif) verb run no_device no_pair = refl
each_alone (key.Limit css set) verb run no_device no_pair = refl
each_alone (key.Path css number) verb run no_device no_pair = refl
each_alone (key.Unit number) verb run no_device no_pair = refl
each_alone (key.Device set number) verb run no_device no_pair = absurd (no_device set number refl)
each_alone (key.Online css path name) verb run no_device no_pair = absurd (no_pair css path name refl)

pub returns-in_default : goal.returns-in_default
returns-in_default g c =
    subst (λ ls. OnOk c.put_each.result (c.put_each.new.deck.items ≡ c.args.deck.now.items ++ map line_to_write ls))
    (each_alone c.args.key c.args.verb (actions_in c.args.run.now) c.in_default.not-Device c.in_default.not-Online)
    c.put_each.ensures
