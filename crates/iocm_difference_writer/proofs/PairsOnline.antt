-- Pairs of one path: one statement is read as all of them.
use Rattle.std.proofs.Common.{◌≡◌, ◌∙◌, ℕ, ◌+◌, ◌==◌, ◌&&◌, Bool, true, false, Some, None, List, [], ◌∷◌, All, map, Ok}
use Rattle.std.proofs.Common.{codes, refl, sym, ap, subst, arith, eqb-true}
use Rattle.std.proofs.lemmas.Bool.{false≢true}
use Rattle.std.proofs.lemmas.List.Elements.{All-nil, All-cons, All-head, All-tail}
use Rattle.std.specs.Ordering.{is_lt}
use Rattle.std.specs.declared.cmp.Ordering.{Ordering}
use Rattle.std.specs.declared.cmp.Ordering.TheVariants.{Less, Equal, Greater}
use Rattle.iocm_types.specs.declared.css_path.CssPath.{CssPath}
use Rattle.iocm_types.specs.declared.fault.Fault.{Fault}
use Rattle.iocm_types.specs.declared.key.Key.TheVariants as key
use Rattle.iocm_types.specs.declared.rule.Rule.TheVariants.{S4}
use Rattle.iocm_types.specs.Fault as fault
use Rattle.iocm_types.specs.Key.{key_cmp}
use Rattle.iocm_types.specs.Name.{is_name}
use Rattle.iocm_model.specs.Change.Edit.{Action, add, delete, modify}
use Rattle.iocm_model.specs.Machine.Record as record_of
use Rattle.iocm_statements.specs.declared.operation.Operation.TheVariants.{Online}
use Rattle.iocm_values.specs.NameSet.{name_item, names_text}
use Rattle.iocm_values.specs.Reading.{◌>>=◌, every}
use Rattle.iocm_values.specs.Value.{value, items}
use Rattle.iocm_values.proofs.Levels.{plain_again, items_again}
use Rattle.iocm_values.proofs.Pieces.{AllWhole, whole_plain}
use Rattle.iocm_operands.specs.Again.{IsPath}
use Rattle.iocm_operands.specs.ChpidPath.{path_text}
use Rattle.iocm_operands.proofs.Names.{name_plain, name_again}
use Rattle.iocm_operands.proofs.Operands.{path_again}
use Rattle.iocm_record_reader.specs.ChpidRecords.{online_to}
use Rattle.iocm_tree.specs.Carried.{bare}
use Rattle.iocm_tree.specs.declared.verb.Verb.{Verb}
use Rattle.iocm_tree.specs.declared.verb.Verb.TheVariants.{Add, Delete, Modify}
use Rattle.iocm_tree_reader.specs.Leaves.{edits_of}
use Rattle.iocm_deck_writer.specs.Again.{placed}
use Rattle.iocm_change_records.specs.Keys.{key_fault, keys_given, keys_unless, keys_of}
use Rattle.iocm_change_records.specs.Whole.{records_of}
use Rattle.iocm_round_trip.specs.Stating.{CanBeWritten}
use Rattle.iocm_round_trip.proofs.LeftOut.{names_one_css}
use Rattle.iocm_round_trip.proofs.OneSubsystem.{path_in_one, names_one_path, names_in_one}
use Rattle.iocm_round_trip.proofs.OperandTexts.{path_clean}
use Rattle.iocm_tree_writer.specs.Again.{as_read}
use Rattle.iocm_tree_writer.specs.Given.{IsGivenAction}
use Rattle.iocm_tree_writer.proofs.Reread.{verb_is_field}
use Rattle.iocm_difference_writer.specs.Runs.{goes_with, is_next_pair}
use Rattle.iocm_difference_writer.specs.Written.{line_with, names_in, pairs_statement}
use Rattle.iocm_difference_writer.proofs.Chains.{IsChain}
use Rattle.iocm_difference_writer.proofs.Groups.{AreRead, one_read}
use Rattle.iocm_difference_writer.proofs.Rising.{Precedes, AreInTurn, turn_rises}
use Rattle.iocm_difference_writer.proofs.TwoOperands.{two_can, names_clean}

abbrev pub AreNames : List (List ℕ) → Type 0
AreNames names = All (λ n. is_name n ≡ true) names

-- ---- the actions of a run

-- verbs by which a pair comes or goes
abbrev pub IsOfPairs : Verb → Type 0
IsOfPairs Add = Unit {0}
IsOfPairs Delete = Unit {0}
IsOfPairs Modify = ⊥

abbrev pub pair_by : Verb → ℕ → ℕ → List ℕ → Action
pair_by Delete css path name = delete (key.Online css path name)
pair_by verb css path name = add (record_of.online (record { css = css; path = path; name = name }))

lt_less : (r : Ordering) → is_lt r ≡ true → r ≡ Less
lt_less Less is = refl
lt_less Equal is = absurd (false≢true is)
lt_less Greater is = absurd (false≢true is)

both_of : (a b c : Bool) → ((a && b) && c) ≡ true → (a ≡ true) × ((b ≡ true) × (c ≡ true))
both_of true true true is = (refl, (refl, refl))
both_of false b c is = absurd (false≢true is)
both_of true false c is = absurd (false≢true is)
both_of true true false is = absurd (false≢true is)

-- the key of the next pair
record IsNext (css path : ℕ) (name : List ℕ) (its_css its_path : ℕ) (its_name : List ℕ) : Type 0 where
  pub same_css : its_css ≡ css
  pub same_path : its_path ≡ path
  pub less : key_cmp (key.Online css path name) (key.Online its_css its_path its_name) ≡ Less

next_key : (css path : ℕ) (name : List ℕ) (its_css its_path : ℕ) (its_name : List ℕ)
    → is_next_pair (key.Online css path name) (key.Online its_css its_path its_name) ≡ true
    → IsNext css path name its_css its_path its_name
next_key css path name its_css its_path its_name is =
    let all = both_of (css == its_css) (path == its_path)
    (is_lt (key_cmp (key.Online css path name) (key.Online its_css its_path its_name))) is in
    record {
      same_css = sym (eqb-true css its_css all.0);
      same_path = sym (eqb-true path its_path all.1.0);
      less = lt_less _ all.1.1;
    }

-- the next action of a run
next_added : (count css path : ℕ) (name : List ℕ) (b : Action) → goes_with count (pair_by Add css path name) b ≡ true
    → (next : List ℕ) × ((b ≡ pair_by Add css path next) × Precedes (pair_by Add css path name) b)
next_added count css path name (add (record_of.id c)) goes = absurd (false≢true goes)
next_added count css path name (add (record_of.resource c)) goes = absurd (false≢true goes)
next_added count css path name (add (record_of.image i)) goes = absurd (false≢true goes)
next_added count css path name (add (record_of.limit l)) goes = absurd (false≢true goes)
next_added count css path name (add (record_of.path p)) goes = absurd (false≢true goes)
next_added count css path name (add (record_of.unit u)) goes = absurd (false≢true goes)
next_added count css path name (add (record_of.device d)) goes = absurd (false≢true goes)
next_added count css path name (add (record_of.online o)) goes =
    let next = next_key css path name o.css o.path o.name goes in (
      o.name,
      (
        (λ i. add (record_of.online (record { css = next.same_css i; path = next.same_path i; name = o.name }))),
        next.less,
      ),
    )
next_added count css path name (delete k) goes = absurd (false≢true goes)
next_added count css path name (modify r) goes = absurd (false≢true goes)

next_deleted : (count css path : ℕ) (name : List ℕ) (b : Action)
    → goes_with count (pair_by Delete css path name) b ≡ true
    → (next : List ℕ) × ((b ≡ pair_by Delete css path next) × Precedes (pair_by Delete css path name) b)
next_deleted count css path name (delete key.Id) goes = absurd (false≢true goes)
next_deleted count css path name (delete key.Resource) goes = absurd (false≢true goes)
next_deleted count css path name (delete (key.Image its_css mif)) goes = absurd (false≢true goes)
next_deleted count css path name (delete (key.Limit its_css set)) goes = absurd (false≢true goes)
next_deleted count css path name (delete (key.Path its_css number)) goes = absurd (false≢true goes)
next_deleted count css path name (delete (key.Unit number)) goes = absurd (false≢true goes)
next_deleted count css path name (delete (key.Device set number)) goes = absurd (false≢true goes)
next_deleted count css path name (delete (key.Online its_css its_path its_name)) goes =
    let next = next_key css path name its_css its_path its_name goes in
    (its_name, ((λ i. delete (key.Online (next.same_css i) (next.same_path i) its_name)), next.less))
next_deleted count css path name (add r) goes = absurd (false≢true goes)
next_deleted count css path name (modify r) goes = absurd (false≢true goes)

next_pair : (verb : Verb) → IsOfPairs verb → (count css path : ℕ) (name : List ℕ) (b : Action)
    → goes_with count (pair_by verb css path name) b ≡ true
    → (next : List ℕ) × ((b ≡ pair_by verb css path next) × Precedes (pair_by verb css path name) b)
next_pair Add is count css path name b goes = next_added count css path name b goes
next_pair Delete is count css path name b goes = next_deleted count css path name b goes
next_pair Modify is count css path name b goes = absurd is

pairs_in_chain : (verb : Verb) → IsOfPairs verb → (count css path : ℕ) (name : List ℕ) (actions : List Action)
    → IsChain count (pair_by verb css path name) actions
    → (names : List (List ℕ))
    × ((actions ≡ map (pair_by verb css path) names) × AreInTurn (pair_by verb css path name) actions)
pairs_in_chain verb is count css path name [] chain = ([], (refl, tt))
pairs_in_chain verb is count css path name (b ∷ actions) chain =
    let next = next_pair verb is count css path name b chain.0 in
    let same = next.1.0 in
    let rest = pairs_in_chain verb is (count + 1) css path next.0 actions
    (subst (λ x. IsChain (count + 1) x actions) same chain.1) in
    (next.0 ∷ rest.0, ((λ i. same i ∷ rest.1.0 i), (next.1.1, subst (λ x. AreInTurn x actions) (sym same) rest.1.1)))

-- ---- their names are read

all_whole : (names : List (List ℕ)) → AreNames names → AllWhole names
all_whole [] are = tt
all_whole (name ∷ names) are = (
  whole_plain name (name_plain name (All-head (λ n. is_name n ≡ true) name names are)),
  all_whole names (All-tail (λ n. is_name n ≡ true) name names are),
)

name_is_read : (name : List ℕ) → is_name name ≡ true → name_item (value name) ≡ Some name
name_is_read name is = ap name_item (plain_again name (name_plain name is)) ∙ name_again name is

each_is_read : (names : List (List ℕ)) → AreNames names → every name_item (map value names) ≡ Some names
unfolding every
each_is_read [] are = refl
each_is_read (name ∷ names) are =
    rw (
      name_is_read name (All-head (λ n. is_name n ≡ true) name names are),
      each_is_read names (All-tail (λ n. is_name n ≡ true) name names are),
    ) refl

names_are_read : (name : List ℕ) (names : List (List ℕ)) → AreNames (name ∷ names)
    → (items (value (names_text (name ∷ names))) >>= every name_item) ≡ Some (name ∷ names)
names_are_read name names are =
    ap (λ found. found >>= every name_item) (items_again name names (all_whole (name ∷ names) are))
    ∙ each_is_read (name ∷ names) are

-- ---- their statement

module _ (css path : ℕ) (name : List ℕ) (others : List (List ℕ)) (is : IsPath (record { css = css; path = path }))
    (are : AreNames (name ∷ others)) where
  abbrev all : List (List ℕ)
  all = name ∷ others

  p : CssPath
  p = record { css = css; path = path }

  no_fault : key_fault Online (placed 0 (pairs_statement css path all).operands) ≡ None
  unfolding placed p
  no_fault = rw (
    names_one_css (path_text p) (path_in_one p is),
    names_one_path p is,
    names_one_css (names_text all) (names_in_one all are),
  ) refl

  gives : (f : Fault) → keys_given f Online (placed 0 (pairs_statement css path all).operands)
      ≡ Ok (map (λ n. key.Online css path n) all)
  unfolding placed p
  gives f = rw (path_again p is, names_are_read name others are) refl

  keys_again : (line : ℕ) → keys_of (as_read line (line_with Delete (pairs_statement css path all)))
      ≡ Ok (map (λ n. key.Online css path n) all)
  keys_again line = ap (λ found. keys_unless found (as_read line (line_with Delete (pairs_statement css path all))))
      no_fault ∙ gives (fault.at S4 line)

  records_again : (line : ℕ)
      → records_of (as_read line (line_with Add (pairs_statement css path all))) ≡ Ok (map (online_to css path) all)
  unfolding placed p
  records_again line =
      rw (
        names_one_css (path_text p) (path_in_one p is),
        names_one_path p is,
        names_one_css (names_text all) (names_in_one all are),
        path_again p is,
        names_are_read name others are,
      ) refl

  pub pairs_can : CanBeWritten (pairs_statement css path all)
  pairs_can = two_can Online (codes "PATH") (path_text (record { css = css; path = path })) (codes "PARTITION")
      (Some (names_text all)) refl refl refl
      (path_clean css path is) (names_clean name others are)

added : (css path : ℕ) (names : List (List ℕ))
    → map (λ r. bare (add r)) (map (online_to css path) names) ≡ map bare (map (pair_by Add css path) names)
added css path [] = refl
added css path (name ∷ names) = ap (λ rest. bare (pair_by Add css path name) ∷ rest) (added css path names)

deleted : (css path : ℕ) (names : List (List ℕ))
    → map (λ k. bare (delete k)) (map (λ n. key.Online css path n) names)
    ≡ map bare (map (pair_by Delete css path) names)
deleted css path [] = refl
deleted css path (name ∷ names) = ap (λ rest. bare (pair_by Delete css path name) ∷ rest) (deleted css path names)

pairs_are_read : (verb : Verb) → IsOfPairs verb → (css path : ℕ) (name : List ℕ) (others : List (List ℕ))
    → IsPath (record { css = css; path = path })
    → AreNames (name ∷ others) → (line : ℕ)
    → edits_of (as_read line (line_with verb (pairs_statement css path (name ∷ others))))
    ≡ Ok (map bare (map (pair_by verb css path) (name ∷ others)))
pairs_are_read Add of css path name others is are line =
    ap (λ found. fault.◌>>=◌ found (λ records. Ok (map (λ x. bare (add x)) records)))
    (records_again css path name others is are line)
    ∙ ap Ok (added css path (name ∷ others))
pairs_are_read Delete of css path name others is are line =
    ap (λ found. fault.◌>>=◌ found (λ keys. Ok (map (λ k. bare (delete k)) keys)))
    (keys_again css path name others is are line)
    ∙ ap Ok (deleted css path (name ∷ others))
pairs_are_read Modify of css path name others is are line = absurd of

-- ---- a run of pairs

named : (verb : Verb) → IsOfPairs verb → (css path : ℕ) (names : List (List ℕ))
    → names_in (map (pair_by verb css path) names) ≡ names
named verb of css path [] = refl
named Add of css path (name ∷ names) = ap (λ rest. name ∷ rest) (named Add of css path names)
named Delete of css path (name ∷ names) = ap (λ rest. name ∷ rest) (named Delete of css path names)
named Modify of css path (name ∷ names) = absurd of

path_is : (verb : Verb) → IsOfPairs verb → (css path : ℕ) (name : List ℕ) → IsGivenAction (pair_by verb css path name)
    → IsPath (record { css = css; path = path })
path_is Add of css path name given = given.path
path_is Delete of css path name given = given.path
path_is Modify of css path name given = absurd of

name_is : (verb : Verb) → IsOfPairs verb → (css path : ℕ) (name : List ℕ) → IsGivenAction (pair_by verb css path name)
    → is_name name ≡ true
name_is Add of css path name given = given.named
name_is Delete of css path name given = given.named
name_is Modify of css path name given = absurd of

names_are : (verb : Verb) → IsOfPairs verb → (css path : ℕ) (names : List (List ℕ))
    → All IsGivenAction (map (pair_by verb css path) names) → AreNames names
names_are verb of css path [] given = All-nil (λ n. is_name n ≡ true)
names_are verb of css path (name ∷ names) given =
    All-cons (λ n. is_name n ≡ true) name names
    (name_is verb of css path name
    (All-head IsGivenAction (pair_by verb css path name) (map (pair_by verb css path) names) given))
    (names_are verb of css path names
    (All-tail IsGivenAction (pair_by verb css path name) (map (pair_by verb css path) names) given))

-- a run that begins with a pair that comes or goes
pub pairs_run_read : (verb : Verb) → IsOfPairs verb → (css path : ℕ) (name : List ℕ) (actions : List Action)
    → IsChain 1 (pair_by verb css path name) actions
    → All IsGivenAction (pair_by verb css path name ∷ actions)
    → AreRead (line_with verb (pairs_statement css path (names_in (pair_by verb css path name ∷ actions))) ∷ [])
    (pair_by verb css path name ∷ actions)
pairs_run_read verb of css path name actions chain given =
    let found = pairs_in_chain verb of 1 css path name actions chain in
    let names : List (List ℕ) = name ∷ found.0 in
    let first = pair_by verb css path name in
    let same : first ∷ actions ≡ map (pair_by verb css path) names = ap (λ rest. first ∷ rest) found.1.0 in
    let is = path_is verb of css path name (All-head IsGivenAction first actions given) in
    let are = names_are verb of css path names (subst (All IsGivenAction) same given) in
    let named_so : names_in (first ∷ actions) ≡ names = ap names_in same ∙ named verb of css path names in
    one_read (line_with verb (pairs_statement css path (names_in (first ∷ actions)))) (first ∷ actions)
    (record {
      can = record {
        field = verb_is_field verb;
        statement = subst (λ ns. CanBeWritten (pairs_statement css path ns)) (sym named_so)
            (pairs_can css path name found.0 is are);
      };
      of_records = tt;
      is_read = λ line.
          ap (λ ns. edits_of (as_read line (line_with verb (pairs_statement css path ns)))) named_so
          ∙ pairs_are_read verb of css path name found.0 is are line
          ∙ ap (λ run. Ok (map bare run)) (sym same);
      group = record { some = omega arith; rising = turn_rises first actions found.1.1 };
    })
