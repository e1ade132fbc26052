-- Each run is read again as its actions.
use Rattle.std.proofs.Common.{◌≡◌, ◌∙◌, ℕ, true, false, List, [], ◌∷◌, All, map, refl, sym, arith}
use Rattle.std.proofs.lemmas.Bool.{false≢true}
use Rattle.std.proofs.lemmas.List.Elements.{All-head}
use Rattle.iocm_types.specs.declared.key.Key.{Key}
use Rattle.iocm_types.specs.declared.key.Key.TheVariants as key
use Rattle.iocm_model.specs.Change.Edit.{Action, add, delete, modify, action_key}
use Rattle.iocm_model.specs.Machine.Record.{id, resource, image, limit, path, unit, device, online, key_of}
use Rattle.iocm_tree.specs.Carried.{bare}
use Rattle.iocm_tree.specs.Trees.{leaf}
use Rattle.iocm_tree.specs.declared.verb.Verb.TheVariants.{Add, Delete, Modify}
use Rattle.iocm_tree_writer.specs.Given.{IsGivenAction}
use Rattle.iocm_tree_writer.specs.Written.{action_line}
use Rattle.iocm_tree_writer.proofs.Reread.{CanBeLine}
use Rattle.iocm_tree_writer.proofs.Stated.{line_is_of_records}
use Rattle.iocm_tree_writer.proofs.Whole.{leaves_are_read_again}
use Rattle.iocm_tree_writer.proofs.Writable.{lines_can}
use Rattle.iocm_difference_writer.specs.Runs.{are_put_together, are_deleted_together, goes_with}
use Rattle.iocm_difference_writer.specs.Written.{run_lines}
use Rattle.iocm_difference_writer.proofs.Chains.{IsChain, IsRun}
use Rattle.iocm_difference_writer.proofs.DevicesGone.{gone_run_read}
use Rattle.iocm_difference_writer.proofs.DevicesPut.{devices_run_read}
use Rattle.iocm_difference_writer.proofs.Groups.{IsLineOf, AreRead, one_read}
use Rattle.iocm_difference_writer.proofs.PairsOnline.{pairs_run_read}

-- ---- an action by itself

-- a key whose actions stand by themselves
abbrev pub IsAlone : Key → Type 0
IsAlone (key.Device set number) = ⊥
IsAlone (key.Online css number name) = ⊥
IsAlone k = Unit {0}

put_alone : (k l : Key) → IsAlone k → are_put_together k l ≡ false
put_alone key.Id l is = refl
put_alone key.Resource l is = refl
put_alone (key.Image css mif) l is = refl
put_alone (key.Limit css set) l is = refl
put_alone (key.Path css number) l is = refl
put_alone (key.Unit number) l is = refl
put_alone (key.Device set number) l is = absurd is
put_alone (key.Online css number name) l is = absurd is

deleted_alone : (count : ℕ) (k l : Key) → IsAlone k → are_deleted_together count k l ≡ false
deleted_alone count key.Id l is = refl
deleted_alone count key.Resource l is = refl
deleted_alone count (key.Image css mif) l is = refl
deleted_alone count (key.Limit css set) l is = refl
deleted_alone count (key.Path css number) l is = refl
deleted_alone count (key.Unit number) l is = refl
deleted_alone count (key.Device set number) l is = absurd is
deleted_alone count (key.Online css number name) l is = absurd is

pub none_goes : (count : ℕ) (a b : Action) → IsAlone (action_key a) → goes_with count a b ≡ true → ⊥
none_goes count (add r) (add s) is goes = false≢true (sym (put_alone (key_of r) (key_of s) is) ∙ goes)
none_goes count (add r) (delete k) is goes = false≢true goes
none_goes count (add r) (modify s) is goes = false≢true goes
none_goes count (delete k) (add s) is goes = false≢true goes
none_goes count (delete k) (delete l) is goes = false≢true (sym (deleted_alone count k l is) ∙ goes)
none_goes count (delete k) (modify s) is goes = false≢true goes
none_goes count (modify r) (add s) is goes = false≢true goes
none_goes count (modify r) (delete k) is goes = false≢true goes
none_goes count (modify r) (modify s) is goes = false≢true (sym (put_alone (key_of r) (key_of s) is) ∙ goes)

line_of_action : (a : Action) → IsGivenAction a → IsLineOf (action_line a) (a ∷ [])
line_of_action a is = record {
  can = All-head CanBeLine (action_line a) [] (lines_can (leaf (bare a)) (record { action = is; alone = refl }));
  of_records = line_is_of_records a;
  is_read = λ line. leaves_are_read_again line a is;
  group = record { some = omega arith; rising = (tt, tt) };
}

alone_read : (a : Action) (actions : List Action) → IsAlone (action_key a) → IsChain 1 a actions
    → All IsGivenAction (a ∷ actions)
    → AreRead (map action_line (a ∷ actions)) (a ∷ actions)
alone_read a [] is chain given =
    one_read (action_line a) (a ∷ []) (line_of_action a (All-head IsGivenAction a [] given))
alone_read a (b ∷ actions) is chain given = absurd (none_goes 1 a b is chain.0)

-- ---- any run

pub run_is_read : (run : List Action) → IsRun run → All IsGivenAction run → AreRead (run_lines run) run
run_is_read [] chain given = absurd chain
run_is_read (add (id c) ∷ actions) chain given = alone_read (add (id c)) actions tt chain given
run_is_read (add (resource c) ∷ actions) chain given = alone_read (add (resource c)) actions tt chain given
run_is_read (add (image i) ∷ actions) chain given = alone_read (add (image i)) actions tt chain given
run_is_read (add (limit l) ∷ actions) chain given = alone_read (add (limit l)) actions tt chain given
run_is_read (add (path p) ∷ actions) chain given = alone_read (add (path p)) actions tt chain given
run_is_read (add (unit u) ∷ actions) chain given = alone_read (add (unit u)) actions tt chain given
run_is_read (add (device d) ∷ actions) chain given = devices_run_read Add tt d actions chain given
run_is_read (add (online o) ∷ actions) chain given = pairs_run_read Add tt o.css o.path o.name actions chain given
run_is_read (delete key.Id ∷ actions) chain given = alone_read (delete key.Id) actions tt chain given
run_is_read (delete key.Resource ∷ actions) chain given = alone_read (delete key.Resource) actions tt chain given
run_is_read (delete (key.Image css mif) ∷ actions) chain given =
    alone_read (delete (key.Image css mif)) actions tt chain given
run_is_read (delete (key.Limit css set) ∷ actions) chain given =
    alone_read (delete (key.Limit css set)) actions tt chain given
run_is_read (delete (key.Path css number) ∷ actions) chain given =
    alone_read (delete (key.Path css number)) actions tt chain given
run_is_read (delete (key.Unit number) ∷ actions) chain given =
    alone_read (delete (key.Unit number)) actions tt chain given
run_is_read (delete (key.Device set number) ∷ actions) chain given = gone_run_read set number actions chain given
run_is_read (delete (key.Online css number name) ∷ actions) chain given =
    pairs_run_read Delete tt css number name actions chain given
run_is_read (modify (id c) ∷ actions) chain given = alone_read (modify (id c)) actions tt chain given
run_is_read (modify (resource c) ∷ actions) chain given = alone_read (modify (resource c)) actions tt chain given
run_is_read (modify (image i) ∷ actions) chain given = alone_read (modify (image i)) actions tt chain given
run_is_read (modify (limit l) ∷ actions) chain given = alone_read (modify (limit l)) actions tt chain given
run_is_read (modify (path p) ∷ actions) chain given = alone_read (modify (path p)) actions tt chain given
run_is_read (modify (unit u) ∷ actions) chain given = alone_read (modify (unit u)) actions tt chain given
run_is_read (modify (device d) ∷ actions) chain given = devices_run_read Modify tt d actions chain given
run_is_read (modify (online o) ∷ actions) chain given =
    absurd (All-head IsGivenAction (modify (online o)) actions given)
