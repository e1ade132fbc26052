-- The lines of keys: the first statement that brings a key, and the only one of a deck that is read.
use Rattle.std.proofs.Common.{◌≡◌, ℕ, ◌+◌, ◌<◌, ◌≤◌, Bool, true, false, cond, ◌||◌, ◌⊎◌, List, [], ◌∷◌, ◌++◌, length}
use Rattle.std.proofs.Common.{get_or, drop, Option, None, Some, is_some, refl, sym, ap, subst, ◌∙◌, ⊎_elim, map}
use Rattle.std.proofs.Common.{Result, Ok, Err, append_assoc}
use Rattle.std.proofs.Math.ListN.{drop_of_length-le}
use Rattle.std.proofs.lemmas.Bool.{false≢true, or_parts, or_cases, or_left}
use Rattle.std.proofs.lemmas.List.{append-nil}
use Rattle.std.proofs.lemmas.List.Folds.{list_any-append}
use Rattle.std.proofs.lemmas.Result.{IfOk-weaker}
use Rattle.std.specs.List.{list_any, range_with_len, flat_map}
use Rattle.std.specs.Ordering.{eq_by_cmp}
use Rattle.std.specs.Result.{IfOk}
use Rattle.std.specs.FinMap.Entries.{is_some-find}
use Rattle.iocm_types.specs.declared.css_path.CssPath.{CssPath}
use Rattle.iocm_types.specs.declared.fault.Fault.{Fault}
use Rattle.iocm_types.specs.declared.key.Key.{Key}
use Rattle.iocm_types.specs.declared.key.Key.TheVariants as key
use Rattle.iocm_types.specs.declared.rule.Rule.{Rule}
use Rattle.iocm_types.specs.declared.rule.Rule.TheVariants.{S4, S8}
use Rattle.iocm_types.specs.Fault.{at, or_fault}
use Rattle.iocm_types.specs.Key.{key_cmp}
use Rattle.iocm_types.specs.KeyOrder.{keys_total, keys_exact}
use Rattle.iocm_types.proofs.Found.{same_key, ties_itself}
use Rattle.iocm_types.proofs.Giving.{whichever, in_turn}
use Rattle.iocm_types.proofs.Lists.{drop-item}
use Rattle.iocm_model.specs.Machine.Record.{ImageRecord, Rec, CarriedOperand, image, limit, unit, key_of}
use Rattle.iocm_model.specs.Machine.Configuration.{with_keys, HasNoKeyTwice}
use Rattle.iocm_statements.specs.declared.statement.Statement.{Statement}
use Rattle.iocm_statements.specs.declared.operation.Operation.{Operation}
use Rattle.iocm_statements.specs.declared.operation.Operation.TheVariants as operation
use Rattle.iocm_statements.specs.Operands.{Operand}
use Rattle.iocm_record_reader.specs.Deck.{machine_images, id_records, statement_records, first_fault, nothing_read}
use Rattle.iocm_record_reader.specs.Deck.{progress_after, read_from, deck_records, read_statement, records_unless}
use Rattle.iocm_record_reader.specs.Deck.{with_records, with_statement}
use Rattle.iocm_record_reader.specs.ChpidRecords.{chpid_path, chpid_partition, kind_of, online_to}
use Rattle.iocm_record_reader.specs.DeviceRecords.{first_device, device_record, statement_devices, device_units}
use Rattle.iocm_record_reader.specs.DeviceRecords.{device_address, device_set, device_candidates}
use Rattle.iocm_record_reader.specs.ResourceRecords.{resource_images, resource_limits, carried_records}
use Rattle.iocm_record_reader.specs.UnitRecords.{unit_fields}
use Rattle.iocm_record_reader.specs.Values.{carried_by}
use Rattle.iocm_record_reader.specs.Progress.{Progress, has_key}
use Rattle.iocm_record_reader.proofs.Claiming.{apart_push}
use Rattle.iocm_origin.specs.Keys.{brings, line_among, if_given, comes_with, is_of_one, brought, bringing, first_line}
use Rattle.iocm_origin.specs.Keys.{OneBringsEachKey, OnlyKeysThereHaveLines}

-- ---- the loop that looks for the first

module _ (images : List ImageRecord) (k : Key) (ss : List Statement) (i : ℕ) where
  pub line_goes_on : (s : Statement) → i < length ss → s ≡ get_or ss i s → brings images k s ≡ false
      → line_among images k (drop i ss) ≡ line_among images k (drop (i + 1) ss)
  line_goes_on s within item is = rw (drop-item ss i s within item, is) refl

  pub line_found : (s : Statement) → i < length ss → s ≡ get_or ss i s → brings images k s ≡ true
      → line_among images k (drop i ss) ≡ Some s.line
  line_found s within item is = rw (drop-item ss i s within item, is) refl

  pub no_line : length ss ≤ i → line_among images k (drop i ss) ≡ None
  no_line past = rw (drop_of_length-le ss past) refl

pub ruleset line_steps = (line_goes_on, line_found, no_line)

-- ---- that a path is online comes with the path

abbrev ComesWithPath : List Rec → Type 0
ComesWithPath rs = (css path : ℕ) (name : List ℕ) → is_of_one rs (key.Online css path name) ≡ true
    → is_of_one rs (key.Path css path) ≡ true

abbrev NoneOnline : List Rec → Type 0
NoneOnline rs = (css path : ℕ) (name : List ℕ) → is_of_one rs (key.Online css path name) ≡ false

if_none : (rs : List Rec) → NoneOnline rs → ComesWithPath rs
if_none rs none css path name is = absurd (false≢true (sym (none css path name) ∙ is))

each_other : {A : Type 0} (rec_of : A → Rec)
    → ((x : A) (css path : ℕ) (name : List ℕ)
    → eq_by_cmp key_cmp (key.Online css path name) (key_of (rec_of x)) ≡ false)
    → (xs : List A) → NoneOnline (map rec_of xs)
each_other rec_of other [] css path name = refl
each_other rec_of other (x ∷ xs) css path name =
    λ i. other x css path name i || each_other rec_of other xs css path name i

of_both : (k : Key) (xs ys : List Rec) → is_of_one (xs ++ ys) k ≡ (is_of_one xs k || is_of_one ys k)
of_both k xs ys = list_any-append (λ r. eq_by_cmp key_cmp k (key_of r)) xs ys

both_other : (xs ys : List Rec) → NoneOnline xs → NoneOnline ys → NoneOnline (xs ++ ys)
both_other xs ys none others css path name =
    of_both (key.Online css path name) xs ys ∙ (λ i. none css path name i || others css path name i)

carried_other : (carried : List CarriedOperand) → NoneOnline (carried_records carried)
carried_other [] css path name = refl
carried_other (c ∷ cs) css path name = refl

-- of a path itself
same_path : (p : CssPath) (names : List (List ℕ)) (css path : ℕ) (name : List ℕ)
    → is_of_one (map (online_to p.css p.path) names) (key.Online css path name) ≡ true
    → eq_by_cmp key_cmp (key.Path css path) (key.Path p.css p.path) ≡ true
same_path p [] css path name is = absurd (false≢true is)
same_path p (n ∷ names) css path name is = ⊎_elim
    (λ same. ap (λ k. eq_by_cmp key_cmp (comes_with k) (key.Path p.css p.path))
    (same_key key_cmp keys_exact (key.Online css path name) (key.Online p.css p.path n) same)
    ∙ ties_itself key_cmp keys_total (key.Path p.css p.path))
    (λ later. same_path p names css path name later) (or_cases _ _ is)

statement_has_path : (fault : Fault) (images : List ImageRecord) (op : Operation) (operands : List Operand)
    → IfOk (statement_records fault images op operands) ComesWithPath
statement_has_path fault images operation.Id operands = if_none (id_records operands) (λ css path name. refl)
statement_has_path fault images operation.Resource operands =
    whichever ComesWithPath (resource_images fault operands) _ (λ found.
    whichever ComesWithPath (resource_limits fault operands) _ (λ limits.
    let carried = carried_by operation.Resource operands in
    if_none (carried_records carried ++ (map image found ++ map limit limits))
    (both_other (carried_records carried) (map image found ++ map limit limits) (carried_other carried)
    (both_other (map image found) (map limit limits) (each_other image (λ x css path name. refl) found)
    (each_other limit (λ x css path name. refl) limits)))))
statement_has_path fault images operation.Chpid operands = whichever ComesWithPath (chpid_path fault operands) _ (λ p.
    whichever ComesWithPath (chpid_partition fault p.css operands) _ (λ partition.
    whichever ComesWithPath (or_fault fault (kind_of operands partition)) _ (λ kind.
    λ css path name is. or_left _ _ (same_path p _ css path name is))))
statement_has_path fault images operation.Cntlunit operands =
    whichever ComesWithPath (unit_fields fault operands) _ (λ u. if_none (unit u ∷ []) (λ css path name. refl))
statement_has_path fault images operation.Iodevice operands =
    whichever ComesWithPath (statement_devices fault operands) _ (λ d.
    whichever ComesWithPath (device_units fault operands) _ (λ units.
    whichever ComesWithPath (device_address fault d.count operands) _ (λ address.
    whichever ComesWithPath (device_set fault operands) _ (λ set.
    whichever ComesWithPath (device_candidates fault operands) _ (λ candidates.
    let first = first_device set d units candidates (carried_by operation.Iodevice operands) in
    if_none (map (device_record first address) (range_with_len 0 d.count))
    (each_other (device_record first address) (λ x css path name. refl) (range_with_len 0 d.count)))))))
statement_has_path fault images _ operands = if_none [] (λ css path name. refl)

-- a statement that has a key brings it
comes_along : (images : List ImageRecord) (k : Key) (s : Statement) → is_of_one (brought images s) k ≡ true
    → brings images k s ≡ true
comes_along images (key.Online css path name) s is =
    by (statement_records (at S4 s.line) images s.operation s.operands)
    (statement_has_path (at S4 s.line) images s.operation s.operands) is
  where
    by : (read : Result (List Rec) Fault) → IfOk read ComesWithPath
        → is_of_one (if_given read) (key.Online css path name) ≡ true
        → is_of_one (if_given read) (key.Path css path) ≡ true
    by (Ok rs) has is = has css path name is
    by (Err fault) has is = absurd (false≢true is)
comes_along images _ s is = is

-- ---- what is read

-- these records stand in front of those, and bring no key twice
pub record GoBehind (old new all : List Rec) : Type 0 where
  same : all ≡ old ++ new
  apart : HasNoKeyTwice old → HasNoKeyTwice all

follow : (a b c bs all : List Rec) → GoBehind a b bs → GoBehind bs c all → GoBehind a (b ++ c) all
follow a b c bs all first second = record {
  same = second.same ∙ ap (λ rs. rs ++ c) first.same ∙ append_assoc a b c;
  apart = λ single. second.apart (first.apart single);
}

behind : (fault : Fault) (old new : List Rec) → IfOk (with_records fault old new) (GoBehind old new)
unfolding with_records
behind fault old [] = record { same = sym (append-nil old); apart = λ single. single }
behind fault old (r ∷ rs) = by (has_key old (key_of r)) refl (behind fault (old ++ r ∷ []) rs)
  where
    by : (b : Bool) → has_key old (key_of r) ≡ b
        → IfOk (with_records fault (old ++ r ∷ []) rs) (GoBehind (old ++ r ∷ []) rs)
        → IfOk (cond b (Err fault) (with_records fault (old ++ r ∷ []) rs)) (GoBehind old (r ∷ rs))
    by true was more = tt
    by false was more = IfOk-weaker _ (GoBehind (old ++ r ∷ []) rs) (GoBehind old (r ∷ rs))
        (λ all are. follow old (r ∷ []) rs _ all (record { same = refl; apart = apart_push old r was }) are) more

-- what a statement gives is what it brings
given_unless : (rule : Option Rule) (images : List ImageRecord) (s : Statement)
    → IfOk (records_unless rule images s) (λ rs. brought images s ≡ rs)
given_unless None images s = by (statement_records (at S4 s.line) images s.operation s.operands)
  where
    by : (read : Result (List Rec) Fault) → IfOk read (λ rs. if_given read ≡ rs)
    by (Ok rs) = refl
    by (Err fault) = tt
given_unless (Some rule) images s = tt

abbrev Brings : List ImageRecord → Progress → Statement → Progress → Type 0
Brings images p s q = GoBehind p.records (brought images s) q.records

after : (images : List ImageRecord) (p : Progress) (s : Statement)
    → IfOk (progress_after images p s) (Brings images p s)
after images p s = in_turn (λ rs. brought images s ≡ rs) (Brings images p s) (read_statement images p s)
    (with_statement (at S8 s.line) p s.operation) (given_unless (first_fault p s) images s)
    (λ rs is. in_turn (GoBehind p.records (brought images s)) (Brings images p s)
    (with_records (at S8 s.line) p.records rs) _
    (subst (λ new. IfOk (with_records (at S8 s.line) p.records rs) (GoBehind p.records new)) (sym is)
    (behind (at S8 s.line) p.records rs)) (λ all are. are))

-- all records are those that the statements bring, and no key stands twice
all_read : (images : List ImageRecord) (p : Progress) (ss : List Statement)
    → IfOk (read_from images p ss) (GoBehind p.records (flat_map (brought images) ss))
unfolding read_from
all_read images p [] = record { same = sym (append-nil p.records); apart = λ single. single }
all_read images p (s ∷ ss) =
    in_turn (Brings images p s) (GoBehind p.records (flat_map (brought images) (s ∷ ss))) (progress_after images p s)
    (λ q. read_from images q ss) (after images p s)
    (λ q is. IfOk-weaker (read_from images q ss) (GoBehind q.records (flat_map (brought images) ss))
    (GoBehind p.records (flat_map (brought images) (s ∷ ss)))
    (λ all are. follow p.records (brought images s) (flat_map (brought images) ss) q.records all is are)
    (all_read images q ss))

deck_read : (ss : List Statement) (all : List Rec) → deck_records ss ≡ Ok all
    → GoBehind [] (flat_map (brought (machine_images ss)) ss) all
deck_read ss all is = subst (λ read. IfOk read (GoBehind [] (flat_map (brought (machine_images ss)) ss))) is
    (all_read (machine_images ss) nothing_read ss)

-- ---- the statements that bring a key

some_bring : (images : List ImageRecord) (k : Key) (ss : List Statement)
    → is_some (line_among images k ss) ≡ is_of_one (flat_map (brought images) ss) (comes_with k)
some_bring images k [] = refl
some_bring images k (s ∷ ss) = let rest = some_bring images k ss in
    elim (brings images k s) as
    (λ b. is_some (first_line (cond b (s ∷ bringing images k ss) (bringing images k ss)))
    ≡ (b || is_of_one (flat_map (brought images) ss) (comes_with k))) [ true ↦ refl | false ↦ rest ]
    ∙ sym (of_both (comes_with k) (brought images s) (flat_map (brought images) ss))

pub only_keys_there_have_lines : OnlyKeysThereHaveLines
only_keys_there_have_lines ss all k is = some_bring (machine_images ss) k ss
    ∙ ap (λ rs. is_of_one rs (comes_with k)) (sym (deck_read ss all is).same)

-- a key is there if it is among the keys
there_is : (rs : List Rec) (k : Key) → has_key rs k ≡ is_of_one rs k
there_is rs k = is_some-find key_cmp k (with_keys rs) ∙ of_keys rs
  where
    of_keys : (xs : List Rec)
        → list_any (eq_by_cmp key_cmp k) (map (λ (e : Key × Rec). e.0) (with_keys xs)) ≡ is_of_one xs k
    of_keys [] = refl
    of_keys (r ∷ xs) = ap (λ b. eq_by_cmp key_cmp k (key_of r) || b) (of_keys xs)

-- of no key twice, a key of the first isn't one of the others
apart : (k : Key) (xs ys : List Rec) → HasNoKeyTwice (xs ++ ys) → is_of_one xs k ≡ true → is_of_one ys k ≡ false
apart k [] ys single is = absurd (false≢true is)
apart k (r ∷ xs) ys single is = ⊎_elim
    (λ (here : eq_by_cmp key_cmp k (key_of r) ≡ true).
    let none : is_of_one (xs ++ ys) (key_of r) ≡ false = sym (there_is (xs ++ ys) (key_of r)) ∙ ap is_some single.0 in
    (or_parts (is_of_one xs k) (is_of_one ys k) (sym (of_both k xs ys)
    ∙ ap (is_of_one (xs ++ ys)) (same_key key_cmp keys_exact k (key_of r) here) ∙ none)).1)
    (λ later. apart k xs ys single.1 later) (or_cases (eq_by_cmp key_cmp k (key_of r)) (is_of_one xs k) is)

behind_first : (xs ys : List Rec) → HasNoKeyTwice (xs ++ ys) → HasNoKeyTwice ys
behind_first [] ys single = single
behind_first (x ∷ xs) ys single = behind_first xs ys single.1

module _ (images : List ImageRecord) (k : Key) where
  abbrev all_of : List Statement → List Rec
  all_of ss = flat_map (brought images) ss

  none_brings : (ss : List Statement) → is_of_one (all_of ss) (comes_with k) ≡ false → bringing images k ss ≡ []
  none_brings [] none = refl
  none_brings (s ∷ ss) none =
      let parts = or_parts (brings images k s) (is_of_one (all_of ss) (comes_with k))
      (sym (of_both (comes_with k) (brought images s) (all_of ss)) ∙ none) in
      rw parts.0 (none_brings ss parts.1)

  one_brings : (ss : List Statement) → HasNoKeyTwice (all_of ss) → is_of_one (all_of ss) k ≡ true
      → (s : Statement) × (bringing images k ss ≡ s ∷ [])
  one_brings [] single there = absurd (false≢true there)
  one_brings (s ∷ ss) single there = by (brings images k s) refl
      (one_brings ss (behind_first (brought images s) _ single))
      (or_cases _ _ (sym (of_both k (brought images s) (all_of ss)) ∙ there))
    where
      by : (b : Bool) → brings images k s ≡ b
          → (is_of_one (all_of ss) k ≡ true → (t : Statement) × (bringing images k ss ≡ t ∷ []))
          → (is_of_one (brought images s) k ≡ true) ⊎ (is_of_one (all_of ss) k ≡ true)
          → (t : Statement) × (cond b (s ∷ bringing images k ss) (bringing images k ss) ≡ t ∷ [])
      by true is rest either = (
        s,
        ap (λ more. s ∷ more) (none_brings ss (apart (comes_with k) (brought images s) (all_of ss) single is)),
      )
      by false is rest either =
          ⊎_elim (λ here. absurd (false≢true (sym is ∙ comes_along images k s here))) rest either

pub one_brings_each_key : OneBringsEachKey
one_brings_each_key ss all k is there = let read = deck_read ss all is in
    one_brings (machine_images ss) k ss (subst HasNoKeyTwice read.same (read.apart tt))
    (ap (λ rs. is_of_one rs k) (sym read.same) ∙ there)

pub ruleset laws_of_keys = (one_brings_each_key, only_keys_there_have_lines)
