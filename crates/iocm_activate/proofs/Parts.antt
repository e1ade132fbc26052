-- The parts of a node, one after the other: what they mean follows from what each means.
use Rattle.std.proofs.Common.{◌≡◌, ℕ, ◌+◌, List, [], ◌++◌, length, map, take, drop, Option, Some, None, refl, sym, ap}
use Rattle.std.proofs.Common.{subst, ◌∙◌}
use Rattle.std.specs.Prelude.{Ok, Err}
use Rattle.std.specs.Option.{option_map}
use Rattle.std.proofs.lemmas.List.{append-nil, append_assoc, drop_at, take_at}
use Rattle.iocm_types.specs.declared.refused.At.TheVariants.{Key}
use Rattle.iocm_types.specs.declared.refused.Refused.{Refused}
use Rattle.iocm_model.specs.Operation.State.{State, HasLives}
use Rattle.iocm_model.specs.Rules.FirstBreach.{Breach, first_breach}
use Rattle.iocm_model.specs.Change.Edit.{Edit}
use Rattle.iocm_model.specs.Change.Tree.{ChangeTree, Parts, none, part, nodes_of}
use Rattle.iocm_model.specs.Change.Meaning.{Outcome, after_run, and_then, or_else, unless_broken, if_rules_hold}
use Rattle.iocm_model.specs.Change.Meaning.{node_meaning, parts_meaning, choice_meaning}
use Rattle.iocm_tree.specs.Trees.{tree_of, plain_tree}
use Rattle.iocm_tree.specs.declared.tree.Tree.{Tree}
use Rattle.iocm_plant.specs.Between.{CanStillUnapply, PlacesAreKeptOn, SamePlacesAreKept}
use Rattle.iocm_plant.specs.Operating.{Operating, KeepsRoom}
use Rattle.iocm_activate.specs.Told.{key_of_edit, way_back, LeadsTo, CanTakeBack}
use Rattle.iocm_activate.specs.Walked.{Ran, Answers, outcome_of}
use Rattle.iocm_activate.specs.Going.{GoesOn, ChoosesOn}
use Rattle.iocm_activate.specs.declared.log.Log.{Log}
use Rattle.iocm_activate.proofs.Next.{IsNext, from, next_and_rest}
use Rattle.iocm_activate.proofs.Runs.{ran_nothing, ran_nowhere, ran_on}

-- ---- what was done before, too

-- after nothing, an outcome is itself
nothing_first : (s : State) (o : Outcome) → o ≡ after_run (record { state = s; edits = [] }) o
nothing_first s (Ok r) = refl
nothing_first s (Err why) = refl

-- some edits were performed, and led to a state
abbrev done_in : State → List Edit → Outcome
done_in s es = Ok (record { state = s; edits = es })

-- after some edits and more is after all of them
after_both : (s t : State) (es fs : List Edit) (o : Outcome)
    → after_run (record { state = s; edits = es }) (after_run (record { state = t; edits = fs }) o)
    ≡ after_run (record { state = t; edits = es ++ fs }) o
after_both s t es fs (Ok r) = ap (done_in r.state) (sym (append_assoc es fs r.edits))
after_both s t es fs (Err why) = refl

-- ---- a Row or a Group

-- at first all parts are left
pub goes_first : SamePlacesAreKept → (ps : Parts) (n : ℕ) (p : Operating) (log : Log)
    → GoesOn (parts_meaning ps n p.state) ps n p log p log
goes_first same ps n p log =
    record { ran = ran_nowhere same p log; further = nothing_first p.state (parts_meaning ps n p.state) }

-- one part more was performed
pub goes_next : {m : Outcome} {t : ChangeTree} {ps : Parts} {n : ℕ} {p : Operating} {first : Log} {q : Operating}
    {second : Log} {r : Operating} {third : Log}
    → PlacesAreKeptOn → CanStillUnapply → GoesOn m (part t ps) n p first q second
    → Answers (node_meaning t n q.state) q second r third None
    → HasLives r.state
    → GoesOn m ps (n + nodes_of t) p first r third
goes_next {m} {t} {ps} {n} {p} {first} {q} {second} {r} {third} places still g a lived = record {
  ran = ran_on places still g.ran a.ran lived;
  further = g.further ∙ ap
      (λ o. after_run (record { state = q.state; edits = g.ran.edits })
      (and_then o (parts_meaning ps (n + nodes_of t)))) a.means
      ∙ after_both q.state r.state g.ran.edits a.ran.edits (parts_meaning ps (n + nodes_of t) r.state);
}

-- one part was refused
pub goes_no_further : {m : Outcome} {t : ChangeTree} {ps : Parts} {n : ℕ} {p : Operating} {first : Log} {q : Operating}
    {second : Log}
    {r : Operating} {third : Log}
    {why : Refused} → PlacesAreKeptOn → CanStillUnapply → GoesOn m (part t ps) n p first q second
    → Answers (node_meaning t n q.state) q second r third (Some why) → HasLives r.state
    → Answers m p first r third (Some why)
goes_no_further {m} {t} {ps} {n} {p} {first} {q} {second} {r} {third} {why} places still g a lived = record {
  ran = ran_on places still g.ran a.ran lived;
  means = g.further ∙ ap (λ o.
      after_run (record { state = q.state; edits = g.ran.edits }) (and_then o (parts_meaning ps (n + nodes_of t))))
      a.means;
}

-- all parts were performed
pub goes_to_the_end : {m : Outcome} {n : ℕ} {p : Operating} {first : Log} {q : Operating} {second : Log}
    → GoesOn m none n p first q second
    → Answers m p first q second None
goes_to_the_end {m} {n} {p} {first} {q} {second} g = record {
  ran = g.ran;
  means = g.further ∙ ap (done_in q.state) (append-nil g.ran.edits);
}

-- ---- where the rules are to be kept

-- a breach at a node
abbrev pub breach_at : ℕ → Option Breach → Option Refused
breach_at n o = option_map (λ (b : Breach). record { rule = b.rule; node = Some n; at = Key b.key }) o

-- a breach is the answer at its node, if there is one
broken_or_not : (b : Option Breach) (n : ℕ) (s : State) (es : List Edit) → unless_broken b n (record {
  state = s;
  edits =
      es;
}) ≡ outcome_of (breach_at n b) s es
broken_or_not (Some b) n s es = refl
broken_or_not None n s es = refl

-- a node was performed, and then the rules were looked at
pub closed : {m : Outcome} {p : Operating} {first : Log} {q : Operating} {second : Log} → SamePlacesAreKept
    → PlacesAreKeptOn → CanStillUnapply
    → (n : ℕ) (third : Log) (answer : Option Refused) → Answers m p first q second None
    → third.done.items ≡ second.done.items
    → third.keys.items ≡ second.keys.items → HasLives q.state
    → answer ≡ breach_at n (first_breach q.state.config q.state.numbers)
    → Answers (if_rules_hold n m) p first q third answer
closed {m} {p} {first} {q} {second} same places still n third answer a done keys lived is = record {
  ran = ran_on places still a.ran (ran_nothing q second q third refl (same q.room q.room refl) done keys) lived;
  means = ap (if_rules_hold n) a.means
      ∙ broken_or_not (first_breach q.state.config q.state.numbers) n q.state a.ran.edits
      ∙ ap (λ o. outcome_of o q.state a.ran.edits) (sym is)
      ∙ ap (outcome_of answer q.state) (sym (append-nil a.ran.edits));
}

-- ---- a Choose

-- at first all parts are left
pub chooses_first : SamePlacesAreKept → (ps : Parts) (n : ℕ) (last : Refused) (p : Operating) (log : Log)
    → ChoosesOn (choice_meaning ps n last p.state) ps n last p log p log
chooses_first same ps n last p log = record { ran = ran_nowhere same p log; nothing = refl; further = refl }

-- a part was accepted
pub chosen : {m : Outcome} {t : ChangeTree} {ps : Parts} {n : ℕ} {last : Refused} {p : Operating} {first : Log}
    {q : Operating} {second : Log}
    {r : Operating} {third : Log}
    → PlacesAreKeptOn → CanStillUnapply → ChoosesOn m (part t ps) n last p first q second
    → Answers (if_rules_hold n (node_meaning t n q.state)) q second r third None → HasLives r.state
    → Answers m p first r third None
chosen {m} {t} {ps} {n} {last} {p} {first} {q} {second} {r} {third} places still g a lived = record {
  ran = ran_on places still g.ran a.ran lived;
  means = g.further ∙ ap (λ o. or_else o (λ why. choice_meaning ps (n + nodes_of t) why q.state)) a.means
      ∙ ap (λ es. done_in r.state (es ++ a.ran.edits)) (sym g.nothing);
}

-- a part was refused, and is taken back
pub chooses_next : {m : Outcome} {t : ChangeTree} {ps : Parts} {n : ℕ} {last
    why : Refused} {p : Operating} {first : Log} {q : Operating} {second : Log} {r : Operating} {third : Log}
    → PlacesAreKeptOn → CanStillUnapply → (u : Operating) (fourth : Log)
    → ChoosesOn m (part t ps) n last p first q second
    → Answers (if_rules_hold n (node_meaning t n q.state)) q second r third (Some why)
    → u.state ≡ q.state → u.room ≡ r.room → fourth.done.items ≡ second.done.items
    → fourth.keys.items ≡ second.keys.items → HasLives u.state
    → ChoosesOn m ps (n + nodes_of t) why p first u fourth
chooses_next {m} {t} {ps} {n} {last} {why} {p} {first} {q} {second} {r} {third} places still u fourth g a state room
    done keys lived = record {
      ran = ran_on places still g.ran
          (ran_nothing q second u fourth state (subst (KeepsRoom q.room) (sym room) a.ran.room) done keys) lived;
      nothing = append-nil g.ran.edits ∙ g.nothing;
      further = g.further ∙ ap (λ o. or_else o (λ w. choice_meaning ps (n + nodes_of t) w q.state)) a.means
          ∙ ap (λ s. choice_meaning ps (n + nodes_of t) why s) (sym state);
    }

-- all parts were refused
pub none_chosen : {m : Outcome} {n : ℕ} {last : Refused} {p : Operating} {first : Log} {q : Operating} {second : Log}
    → ChoosesOn m none n last p first q second → Answers m p first q second (Some last)
none_chosen {m} {n} {last} {p} {first} {q} {second} g = record { ran = g.ran; means = g.further }

-- ---- what was done since a mark

-- a place of the log was marked, and then a walk ran on
pub record RanFromMark (p : Operating) (first : Log) (q : Operating) (second : Log) (done keys : ℕ) : Type 0 where
  pub ran : Ran p first q second
  pub done_mark : done ≡ length first.done.items
  pub keys_mark : keys ≡ length first.keys.items

-- what was there before the mark
before_mark : {X : Type 0} (old more all left : List X) (n : ℕ) → all ≡ old ++ more → n ≡ length old → left ≡ take n all
    → left ≡ old
before_mark old more all left n is mark taken = taken ∙ ap (take n) is ∙ take_at old more n (sym mark)

module _ {p : Operating} {first : Log} {q : Operating} {second : Log} {done keys : ℕ}
    (w : RanFromMark p first q second done keys) where
  -- what was done since leads back to the state from then
  pub leads_since : LeadsTo (way_back (drop done second.done.items)) p.state q
  leads_since = subst (λ ds. LeadsTo (way_back ds) p.state q)
      (sym (ap (drop done) w.ran.log ∙ drop_at first.done.items w.ran.done done (sym w.done_mark))) w.ran.back

  -- so it can be taken back
  pub can_take_back : CanTakeBack (drop done second.done.items) q
  can_take_back = record { state = p.state; leads = leads_since }

  -- the log up to the mark tells what it told then
  pub done_then : (third : Log) → third.done.items ≡ take done second.done.items → third.done.items ≡ first.done.items
  done_then third taken = before_mark first.done.items w.ran.done second.done.items third.done.items done w.ran.log
      w.done_mark taken

  -- and has the keys that it had then
  pub keys_then : (third : Log) → third.keys.items ≡ take keys second.keys.items → third.keys.items ≡ first.keys.items
  keys_then third taken =
      before_mark first.keys.items (map key_of_edit w.ran.edits) second.keys.items third.keys.items keys w.ran.keys
      w.keys_mark taken

-- ---- parts in memory

module _ {A : Type 0} {shown : List (Tree A)} {i : ℕ} {x : Tree A} (next : IsNext shown i x) where
  -- in the middle of parts, at one of them
  pub goes_at : {m : Outcome} {n : ℕ} {p : Operating} {first : Log} {q : Operating} {second : Log}
      → GoesOn m (from shown i) n p first q second
      → GoesOn m (part (plain_tree (tree_of x)) (from shown (i + 1))) n p first q second
  goes_at {m} {n} {p} {first} {q} {second} g = subst (λ ps. GoesOn m ps n p first q second) (next_and_rest next) g

  -- the same of a Choose
  pub chooses_at : {m : Outcome} {n : ℕ} {last : Refused} {p : Operating} {first : Log} {q : Operating} {second : Log}
      → ChoosesOn m (from shown i) n last p first q second
      → ChoosesOn m (part (plain_tree (tree_of x)) (from shown (i + 1))) n last p first q second
  chooses_at {m} {n} {last} {p} {first} {q} {second} g =
      subst (λ ps. ChoosesOn m ps n last p first q second) (next_and_rest next) g
