-- Each action of the difference of configurations of decks is one that decks give.
use Rattle.std.proofs.Common.{◌≡◌, ℕ, nat_eq, Bool, true, false, not, cond, ◌||◌, ◌⊎◌, inl, inr, List, [], ◌∷◌, Option}
use Rattle.std.proofs.Common.{Some, None, refl, sym, ap, subst, ◌∙◌}
use Rattle.std.proofs.lemmas.Bool.{or_parts, or_cases, and_parts, eqb-true}
use Rattle.std.proofs.lemmas.List.Elements.{All-head, All-tail, All-cons, All-nil}
use Rattle.std.proofs.lemmas.List.Sorted.{All-permutation}
use Rattle.std.specs.Cmp.Lexicographic.{pointwise}
use Rattle.std.specs.FinMap.{get}
use Rattle.std.specs.List.{All}
use Rattle.iocm_types.specs.declared.key.Key.{Key}
use Rattle.iocm_types.specs.declared.key.Key.TheVariants as key
use Rattle.iocm_types.specs.Name.{is_name}
use Rattle.iocm_model.specs.Machine.Configuration.{Configuration, lookup_of}
use Rattle.iocm_model.specs.Machine.Record.{Rec, PathRecord, OnlineRecord, key_of, id, resource, image, limit, path}
use Rattle.iocm_model.specs.Machine.Record.{unit, device, online}
use Rattle.iocm_model.specs.Machine.Sight.{has_name, record_lists}
use Rattle.iocm_model.specs.Operation.State.{opening_state}
use Rattle.iocm_model.specs.Rules.EachRule.{breaks_v4}
use Rattle.iocm_model.specs.Change.Edit.{Action, add, delete, modify}
use Rattle.iocm_model.specs.Change.Maps.{differing}
use Rattle.iocm_model.proofs.Machine.OwnKeys.{keyed_own}
use Rattle.iocm_model.proofs.Rules.FirstBreach.{answers_none}
use Rattle.iocm_operands.specs.Again.{IsPath}
use Rattle.iocm_round_trip.specs.Given.{IsGivenPath}
use Rattle.iocm_tree_writer.specs.Given.{IsGivenAction, IsGivenKey, IsPair}
use Rattle.iocm_difference.specs.Same.{same_record}
use Rattle.iocm_difference.specs.Difference.{action_between, actions_between, difference}
use Rattle.iocm_difference.proofs.Between.{all_made}
use Rattle.iocm_difference.proofs.Differences.{modifies_no_pair}
use Rattle.iocm_difference.proofs.Permuted.{passes_permute}
use Rattle.iocm_difference_laws.specs.Again.{IsConfigurationOfDeck, DifferencesAreGiven}
use Rattle.iocm_difference_laws.proofs.Least.{listed_keeps}

-- ---- names

same_names : (x y : List ℕ) → pointwise nat_eq x y ≡ true → x ≡ y
same_names [] [] is = refl
same_names [] (b ∷ y) is = cc
same_names (a ∷ x) [] is = cc
same_names (a ∷ x) (b ∷ y) is =
    let both = and_parts (nat_eq a b) (pointwise nat_eq x y) is in
    λ i. eqb-true a b both.0 i ∷ same_names x y both.1 i

-- a name in a list of names is one
named_among : (name : List ℕ) (names : List (List ℕ)) → has_name name names ≡ true → All (λ n. is_name n ≡ true) names
    → is_name name ≡ true
named_among name [] among all = cc
named_among name (x ∷ names) among all =
    by (or_cases _ _ among) (λ more. named_among name names more (All-tail (λ n. is_name n ≡ true) x names all))
  where
    by : ((pointwise nat_eq name x ≡ true) ⊎ (has_name name names ≡ true))
        → (has_name name names ≡ true → is_name name ≡ true) → is_name name ≡ true
    by (inl same) later = ap is_name (same_names name x same) ∙ All-head (λ n. is_name n ≡ true) x names all
    by (inr more) later = later more

-- ---- a path that is online to an image

-- a path that is there and lists a name
record IsListing (o : Option Rec) (name : List ℕ) : Type 0 where
  of : PathRecord
  there : o ≡ Some (path of)
  lists : (has_name name of.access || has_name name of.candidates) ≡ true

is_listing : (name : List ℕ) (o : Option Rec) → record_lists name o ≡ true → IsListing o name
is_listing name None h = cc
is_listing name (Some (path p)) h = record { of = p; there = refl; lists = h }
is_listing name (Some (id x)) h = cc
is_listing name (Some (resource x)) h = cc
is_listing name (Some (image x)) h = cc
is_listing name (Some (limit x)) h = cc
is_listing name (Some (unit x)) h = cc
is_listing name (Some (device x)) h = cc
is_listing name (Some (online x)) h = cc

not_not : (b : Bool) → not b ≡ false → b ≡ true
not_not true h = refl
not_not false h = cc

-- a path of a deck that lists a name has a place, and the name is one
pair_of_path : (css number : ℕ) (name : List ℕ) (p : PathRecord) → IsGivenPath p → key_of (path p) ≡ key.Path css number
    → (has_name name p.access || has_name name p.candidates) ≡ true → IsPair css number name
pair_of_path css number name p given own lists =
    let c : p.css ≡ css = cc in let n : p.number ≡ number = cc in record {
      path = subst IsPath (λ i. record { css = c i; path = n i }) given.path;
      named = by (or_cases _ _ lists);
    }
  where
    by : ((has_name name p.access ≡ true) ⊎ (has_name name p.candidates ≡ true)) → is_name name ≡ true
    by (inl among) = named_among name p.access among given.access.each
    by (inr among) = named_among name p.candidates among given.candidates.each

-- by V4 an online pair is one of a path of the deck
pair_given : (c : Configuration) → IsConfigurationOfDeck c → (k : Key) (o : OnlineRecord) → get c k ≡ Some (online o)
    → IsPair o.css o.path o.name
pair_given c is k o there =
    let kept = (answers_none c (opening_state c).numbers).0 is.rules in
    let keeps : breaks_v4 c (online o) ≡ false =
    listed_keeps (breaks_v4 c) c is.keyed kept.1.1.1.0 k (online o) there in
    let at = lookup_of c (key.Path o.css o.path) in
    let lists = is_listing o.name at (not_not (record_lists o.name at)
    (or_parts (not (record_lists o.name at)) _ keeps).0) in
    pair_of_path o.css o.path o.name lists.of (is.given (key.Path o.css o.path) (path lists.of) lists.there)
    (keyed_own c is.keyed (key.Path o.css o.path) (path lists.of) lists.there) lists.lists

-- ---- each action

added : (c : Configuration) → IsConfigurationOfDeck c → (k : Key) (r : Rec) → get c k ≡ Some r → IsGivenAction (add r)
added c is k (online o) there = pair_given c is k o there
added c is k (id x) there = is.given k (id x) there
added c is k (resource x) there = is.given k (resource x) there
added c is k (image x) there = is.given k (image x) there
added c is k (limit x) there = is.given k (limit x) there
added c is k (path x) there = is.given k (path x) there
added c is k (unit x) there = is.given k (unit x) there
added c is k (device x) there = is.given k (device x) there

own_given : (c : Configuration) → IsConfigurationOfDeck c → (k : Key) (r : Rec) → get c k ≡ Some r
    → IsGivenKey (key_of r)
own_given c is k (online o) there = pair_given c is k o there
own_given c is k (id x) there = tt
own_given c is k (resource x) there = tt
own_given c is k (image x) there = let g = is.given k (image x) there in
    record { subsystem = g.css; some = g.some; most = g.most }
own_given c is k (limit x) there = let g = is.given k (limit x) there in record { subsystem = g.css; within = g.set }
own_given c is k (path x) there = (is.given k (path x) there).path
own_given c is k (unit x) there = (is.given k (unit x) there).number
own_given c is k (device x) there = let g = is.given k (device x) there in record { within = g.set; last = g.number }

deleted : (c : Configuration) → IsConfigurationOfDeck c → (k : Key) (r : Rec) → get c k ≡ Some r
    → IsGivenAction (delete k)
deleted c is k r there = subst IsGivenKey (keyed_own c is.keyed k r there) (own_given c is k r there)

modified : (c : Configuration) → IsConfigurationOfDeck c → (k : Key) (r : Rec) → get c k ≡ Some r
    → ((o : OnlineRecord) → modify r ≡ modify (online o) → ⊥)
    → IsGivenAction (modify r)
modified c is k (online o) there no_pair = no_pair o refl
modified c is k (id x) there no_pair = is.given k (id x) there
modified c is k (resource x) there no_pair = is.given k (resource x) there
modified c is k (image x) there no_pair = is.given k (image x) there
modified c is k (limit x) there no_pair = is.given k (limit x) there
modified c is k (path x) there no_pair = is.given k (path x) there
modified c is k (unit x) there no_pair = is.given k (unit x) there
modified c is k (device x) there no_pair = is.given k (device x) there

-- ---- the difference

NoPair : Action → Type 0
NoPair a = (o : OnlineRecord) → a ≡ modify (online o) → ⊥

by_modified : (t : Bool) (d : Configuration) → IsConfigurationOfDeck d → (k : Key) (new : Rec) (x : Action)
    → get d k ≡ Some new → NoPair x
    → cond t None (Some (modify new)) ≡ Some x → IsGivenAction x
unfolding NoPair
by_modified true d is k new x there no_pair made = cc
by_modified false d is k new x there no_pair made =
    let same : modify new ≡ x = cc in
    subst IsGivenAction same (modified d is k new there (λ o h. no_pair o (sym same ∙ h)))

by_action : (c d : Configuration) → IsConfigurationOfDeck c → IsConfigurationOfDeck d
    → (k : Key) (a b : Option Rec) (x : Action) → get c k ≡ a → get d k ≡ b
    → NoPair x → action_between k a b ≡ Some x → IsGivenAction x
by_action c d old new k None None x was will no_pair made = cc
by_action c d old new k None (Some r) x was will no_pair made =
    let same : add r ≡ x = cc in subst IsGivenAction same (added d new k r will)
by_action c d old new k (Some r) None x was will no_pair made =
    let same : delete k ≡ x = cc in subst IsGivenAction same (deleted c old k r was)
by_action c d old new k (Some r) (Some s) x was will no_pair made =
    by_modified (same_record r s) d new k s x will no_pair made

-- what holds where another thing holds too
joined : (P Q : Action → Type 0) → (xs : List Action) → All (λ x. P x → Q x) xs → All P xs → All Q xs
joined P Q [] both first = All-nil Q
joined P Q (x ∷ xs) both first = All-cons Q x xs (All-head (λ x. P x → Q x) x xs both (All-head P x xs first))
    (joined P Q xs (All-tail (λ x. P x → Q x) x xs both) (All-tail P x xs first))

pub differences_are_given : DifferencesAreGiven
unfolding NoPair
differences_are_given c d old new =
    joined NoPair IsGivenAction (difference c d)
    (All-permutation (λ x. NoPair x → IsGivenAction x) (actions_between c d) (difference c d)
    (passes_permute (actions_between c d))
    (all_made (λ x. NoPair x → IsGivenAction x) (λ k. action_between k (get c k) (get d k))
    (λ k x made no_pair. by_action c d old new k (get c k) (get d k) x refl refl no_pair made)
    (differing same_record c d)))
    (modifies_no_pair c d old.keyed new.keyed)
