-- Activations, and changes in stages, as calls.
use Rattle.std.proofs.Common.{◌≡◌, inl, inr, ℕ, ◌+◌, ◌-◌, length, Some, None, Ok, Err, List, [], ◌∷◌, ◌++◌, IsTrue}
use Rattle.std.proofs.Common.{refl, sym, ap, subst, ◌∙◌, arith}
use Rattle.iocm_types.specs.declared.answer.Answer.TheVariants as answers
use Rattle.iocm_types.specs.declared.refused.Refused.{Refused}
use Rattle.iocm_model.specs.Operation.State.{State}
use Rattle.iocm_model.specs.Change.Edit.{Edit}
use Rattle.iocm_model.specs.Change.Effect.{Effect}
use Rattle.iocm_model.specs.Change.Runs.{state_after_all, effect_of}
use Rattle.iocm_model.specs.Change.InverseTree.{inverse_tree}
use Rattle.iocm_model.specs.Change.Tree.{ChangeTree}
use Rattle.iocm_model.specs.Change.Meaning.{Performed, Outcome, meaning}
use Rattle.iocm_history.specs.Change.{Change, change_of, effect_of_change}
use Rattle.iocm_history.specs.Entry.{activate, begin, advance, commit, abort, Entry, History, plain_entry}
use Rattle.iocm_history.specs.MarkedEntry.{change_at}
use Rattle.iocm_history.specs.Account.{account, marked_entries, state_at, stage_of}
use Rattle.iocm_history.specs.Journal.{journal_of}
use Rattle.iocm_history.specs.Legal.{activated, begun, IsRight}
use Rattle.iocm_history.specs.Stage.{Stage, once_more, left_of}
use Rattle.iocm_history.proofs.EachCall.{activations_do_what_they_mean, other_calls_leave_the_state}
use Rattle.iocm_history.proofs.Found.{activations_are_there, commits_are_there}
use Rattle.iocm_plant.specs.Operating.{Operating}
use Rattle.iocm_plant.specs.Refusing.{IsDue}
use Rattle.iocm_tree.specs.Limits.{limit_refusal, meaning_unless}
use Rattle.iocm_tree.specs.Trees.{plain_tree, tree_of}
use Rattle.iocm_activate.specs.Done.{edits_of, refusal_in, AreToldBy}
use Rattle.iocm_activate.specs.Effects.{Listed, effect_in}
use Rattle.iocm_activate.specs.Told.{told_of_all}
use Rattle.iocm_activate.specs.declared.done.Done.{Done}
use Rattle.iocm_journal.specs.Journaled.{Journaled}
use Rattle.iocm_journal.specs.Accepting.{newly_kept}
use Rattle.iocm_journal.specs.Moving.{KeepsTheSame}
use Rattle.iocm_journal.specs.JournalLaws.{OneThatKeepsTheSameIsOne, OtherEntriesLeaveIt}
use Rattle.iocm_journal.specs.Now.{IsJournalOf}
use Rattle.iocm_stage.specs.Staged.{IsStageOf, Tells}
use Rattle.iocm_stage.specs.declared.staged.Staged.{Staged}
use Rattle.iocm_core.specs.Accepting.{AcceptsOne, HasRoomForAChange, KeepsTheRest, IsActivated, IsBegun}
use Rattle.iocm_core.specs.Running.{IsStagedAs, HasRoomFor, IsInstallationOf, IsAnswered}
use Rattle.iocm_core.specs.declared.installation.Installation.{Installation}
use Rattle.iocm_core.proofs.Accepted.{accepted_now}
use Rattle.iocm_core.proofs.Kept.{staging, idle}
use Rattle.iocm_core.proofs.Rightness.{activated_right, begun_right, activate_lacks, begin_lacks, advance_right}
use Rattle.iocm_core.proofs.Rightness.{commit_right, abort_right}
use Rattle.iocm_core.proofs.Staging.{begun_stage, advanced_stage, committed_stage, aborted_stage, commit_leaves}

-- a change of edits that were performed from a state; and one that was begun, and not advanced yet
abbrev change_from : List Edit → State → Change
change_from es s = record { edits = es; from = s }

abbrev just_begun : Change → Stage
just_begun c = record { change = c; advances = 0 }

-- ---- an activation

-- the entry of an activation that is accepted under a number
abbrev activation : ChangeTree → ℕ → Change → Entry
activation t k c = record { call = activate t; answer = answers.Changed k; effect = effect_of_change c }

still_idle : (opening : State) (h : History) (t : ChangeTree) (k : ℕ) (f : Effect) → stage_of opening h ≡ None
    → stage_of opening (record { call = activate t; answer = answers.Changed k; effect = f } ∷ h) ≡ None
unfolding account
still_idle opening h t k f none = none

pub activation_answered : (opening : State) (h : History) (m n : Installation) (t : ChangeTree) (k : ℕ)
    → IsInstallationOf opening h m → m.stage ≡ None → IsActivated t m k n
    → IsAnswered opening h (activate t) (answers.Changed k) n
activation_answered opening h m n t k it none a =
    let i = idle opening h m it none in
    let number = (journal_of h).count + 1 in
    let c = change_from a.performed.edits m.plant.state in
    let e = activation t number c in
    let means : meaning t (state_at opening h) ≡ Ok a.performed = sym (ap (meaning t) i.state) ∙ a.means in
    let e_is : e ≡ activated t number (state_at opening h) (meaning t (state_at opening h))
    = (λ z. activated t number (i.state z) (Ok a.performed))
    ∙ sym (ap (activated t number (state_at opening h)) means) in
    let right = activated_right opening h t e i.none e_is refl in
    let there : change_at number (marked_entries opening (e ∷ h)) ≡ Some c
    = activations_are_there opening h t (effect_of_change c) it.journal.used it.journal.legal
    ∙ ap (λ o. Some (change_of o (state_at opening h))) means
    ∙ ap (λ s. Some (change_from a.performed.edits s)) (sym i.state) in
    let does = activations_do_what_they_mean opening h t number a.performed it.journal.used it.journal.legal means in
    let state : n.plant.state ≡ state_at opening (e ∷ h)
    = a.accepted.state_is ∙ sym does
    ∙ ap (λ s. state_at opening (activation t number (change_from a.performed.edits s) ∷ h)) (sym i.state) in
    subst (λ j. IsAnswered opening h (activate t) (answers.Changed j) n) (sym a.accepted.number)
    (accepted_now opening h m n it (activate t) a.accepted.done c a.accepted.tells a.accepted.accepts right there
    a.accepted.stage (still_idle opening h t number (effect_of_change c) i.none) state)

-- a refused activation or beginning is right
refused_activation : (opening : State) (h : History) (t : ChangeTree) (why : Refused) (o : Outcome)
    → stage_of opening h ≡ None → meaning t (state_at opening h) ≡ o
    → limit_refusal t ≡ None → IsDue (refusal_in o) why
    → IsRight opening h (plain_entry (activate t) (answers.Refused why))
refused_activation opening h t why (Ok r) idle is within (inl due) = cc
refused_activation opening h t why (Err other) idle is within (inl due) =
    activated_right opening h t (plain_entry (activate t) (answers.Refused why)) idle
    (let same : other ≡ why = cc in
    ap (λ w. plain_entry (activate t) (answers.Refused w)) (sym same)
    ∙ sym (ap (activated t ((journal_of h).count + 1) (state_at opening h)) is)) refl
refused_activation opening h t why o idle is within (inr lack) =
    subst (λ w. IsRight opening h (plain_entry (activate t) (answers.Refused w))) (sym lack)
    (activate_lacks opening h t idle within)

pub activation_refused : (opening : State) (h : History) (m : Installation) (t : ChangeTree) (why : Refused)
    → IsInstallationOf opening h m → m.stage ≡ None
    → limit_refusal t ≡ None → IsDue (refusal_in (meaning t m.plant.state)) why
    → IsRight opening h (plain_entry (activate t) (answers.Refused why))
activation_refused opening h m t why it none within due =
    let i = idle opening h m it none in
    refused_activation opening h t why (meaning t (state_at opening h)) i.none refl within
    (subst (λ s. IsDue (refusal_in (meaning t s)) why) i.state due)

refused_beginning : (opening : State) (h : History) (t : ChangeTree) (why : Refused) (o : Outcome)
    → stage_of opening h ≡ None → meaning t (state_at opening h) ≡ o
    → limit_refusal t ≡ None → IsDue (refusal_in o) why
    → IsRight opening h (plain_entry (begin t) (answers.Refused why))
refused_beginning opening h t why (Ok r) idle is within (inl due) = cc
refused_beginning opening h t why (Err other) idle is within (inl due) =
    begun_right opening h t (plain_entry (begin t) (answers.Refused why)) idle
    (let same : other ≡ why = cc in ap (λ w. plain_entry (begin t) (answers.Refused w)) (sym same)
    ∙ sym (ap (begun t) is)) refl
refused_beginning opening h t why o idle is within (inr lack) =
    subst (λ w. IsRight opening h (plain_entry (begin t) (answers.Refused w))) (sym lack)
    (begin_lacks opening h t idle within)

pub beginning_refused : (opening : State) (h : History) (m : Installation) (t : ChangeTree) (why : Refused)
    → IsInstallationOf opening h m → m.stage ≡ None
    → limit_refusal t ≡ None → IsDue (refusal_in (meaning t m.plant.state)) why
    → IsRight opening h (plain_entry (begin t) (answers.Refused why))
beginning_refused opening h m t why it none within due =
    let i = idle opening h m it none in
    refused_beginning opening h t why (meaning t (state_at opening h)) i.none refl within
    (subst (λ s. IsDue (refusal_in (meaning t s)) why) i.state due)

-- a tree that is over a limit is refused for that
pub activation_over_a_limit : (opening : State) (h : History) (m : Installation) (t : ChangeTree) (why : Refused)
    → IsInstallationOf opening h m → m.stage ≡ None
    → ((s : State) → meaning t s ≡ meaning_unless (Some why) t s)
    → IsRight opening h (plain_entry (activate t) (answers.Refused why))
activation_over_a_limit opening h m t why it none means =
    let i = idle opening h m it none in
    activated_right opening h t (plain_entry (activate t) (answers.Refused why)) i.none
    (sym (ap (activated t ((journal_of h).count + 1) (state_at opening h)) (means (state_at opening h)))) refl

pub beginning_over_a_limit : (opening : State) (h : History) (m : Installation) (t : ChangeTree) (why : Refused)
    → IsInstallationOf opening h m → m.stage ≡ None
    → ((s : State) → meaning t s ≡ meaning_unless (Some why) t s)
    → IsRight opening h (plain_entry (begin t) (answers.Refused why))
beginning_over_a_limit opening h m t why it none means =
    let i = idle opening h m it none in
    begun_right opening h t (plain_entry (begin t) (answers.Refused why)) i.none
    (sym (ap (begun t) (means (state_at opening h)))) refl

-- ---- a beginning

pub beginning_answered : OtherEntriesLeaveIt → OneThatKeepsTheSameIsOne
    → (opening : State) (h : History) (m n : Installation) (t : ChangeTree) (k : ℕ) → IsInstallationOf opening h m
    → m.stage ≡ None → IsBegun t m k n
    → IsAnswered opening h (begin t) (answers.Staged k) n
beginning_answered others as_before opening h m n t k it none b =
    let i = idle opening h m it none in
    let e = plain_entry (begin t) (answers.Staged k) in
    let begun_now = λ (s : State). just_begun (change_from b.performed.edits s) in
    let means : meaning t (state_at opening h) ≡ Ok b.performed = sym (ap (meaning t) i.state) ∙ b.means in
    let e_is : e ≡ begun t (meaning t (state_at opening h))
    = ap (λ j. plain_entry (begin t) (answers.Staged j)) b.edits_are ∙ sym (ap (begun t) means) in
    let right = begun_right opening h t e i.none e_is refl in
    let state : state_at opening (e ∷ h) ≡ state_at opening h
    = other_calls_leave_the_state opening h e it.journal.used (right, it.journal.legal) tt in
    let stage : stage_of opening (e ∷ h) ≡ Some (begun_now m.plant.state)
    = begun_stage opening h t k ∙ ap (λ o. Some (just_begun (change_of o (state_at opening h)))) means
    ∙ ap (λ s. Some (begun_now s)) (sym i.state) in
    record {
      right = right;
      is = record {
        journal = subst (IsJournalOf opening (e ∷ h) n.journal) (sym b.rest.changes)
            (as_before opening (e ∷ h) m.journal n.journal m.changes.items b.rest.journal
            (others opening h e m.journal m.changes.items it.journal right tt));
        stage = subst (λ g. IsStagedAs g n.stage (state_at opening (e ∷ h)) n.plant) (sym stage)
            (subst (λ s. IsStagedAs (Some (begun_now m.plant.state)) n.stage s n.plant) (i.state ∙ sym state)
            (subst (λ g. IsStagedAs (Some (begun_now m.plant.state)) g m.plant.state n.plant) (sym b.stage) b.is));
        room = subst (λ g. HasRoomFor g n) (sym b.stage) b.room;
      };
    }

-- ---- an Advance

pub advance_answered : OtherEntriesLeaveIt → (opening : State) (h : History) (m n : Installation) (g new : Staged)
    (k : ℕ) → IsInstallationOf opening h m → m.stage ≡ Some g
    → ((t : Stage) (s : State) → IsStageOf g t s m.plant → IsStageOf new (once_more t) s n.plant)
    → ((t : Stage) (s : State) → IsStageOf g t s m.plant → k ≡ left_of (once_more t))
    → n.stage ≡ Some new → n.journal ≡ m.journal → n.changes ≡ m.changes
    → IsAnswered opening h advance (answers.Left k) n
advance_answered others opening h m n g new k it was moves left staged journal changes =
    let s = staging opening h m g it was in
    let e = plain_entry advance (answers.Left k) in
    let right : IsRight opening h e = subst (λ j. IsRight opening h (plain_entry advance (answers.Left j)))
    (sym (left s.stage (state_at opening h) s.is)) (advance_right opening h s.stage s.there) in
    let state : state_at opening (e ∷ h) ≡ state_at opening h =
    other_calls_leave_the_state opening h e it.journal.used (right, it.journal.legal) tt in
    record {
      right = right;
      is = record {
        journal = subst (λ j. IsJournalOf opening (e ∷ h) j n.changes.items) (sym journal)
            (subst (λ (fs : _). IsJournalOf opening (e ∷ h) m.journal fs.items) (sym changes)
            (others opening h e m.journal m.changes.items it.journal right tt));
        stage = subst (λ o. IsStagedAs o n.stage (state_at opening (e ∷ h)) n.plant)
            (sym (advanced_stage opening h s.stage k s.there))
            (subst (λ z. IsStagedAs (Some (once_more s.stage)) n.stage z n.plant) (sym state)
            (subst (λ o. IsStagedAs (Some (once_more s.stage)) o (state_at opening h) n.plant) (sym staged)
            (moves s.stage (state_at opening h) s.is)));
        room = subst (λ o. HasRoomFor o n) (sym staged) (room_still (subst (λ o. HasRoomFor o m) was it.room));
      };
    }
  where
    room_still : HasRoomForAChange m → HasRoomForAChange n
    room_still had = record {
      changes = subst (λ (fs : Listed). IsTrue fs.has_room) (sym changes) had.changes;
      journal = subst (λ (j : Journaled). IsTrue j.has_room) (sym journal) had.journal;
    }

-- ---- a Commit

pub commit_answered : (opening : State) (h : History) (m n : Installation) (g : Staged) (done : Done) (k : ℕ)
    → IsInstallationOf opening h m → m.stage ≡ Some g
    → ((t : Stage) (s : State) → IsStageOf g t s m.plant → n.plant.state ≡ state_after_all t.change.edits s)
    → ((t : Stage) (s : State) → IsStageOf g t s m.plant → Tells done t.change)
    → AcceptsOne done m n → k ≡ length m.journal.changes + 1 → n.stage ≡ None
    → IsAnswered opening h commit (answers.Changed k) n
commit_answered opening h m n g done k it was state tells accepts number none =
    let s = staging opening h m g it was in
    let c = s.stage.change in
    let e : Entry = record {
      call = commit;
      answer = answers.Changed ((journal_of h).count + 1);
      effect = effect_of_change c;
    } in
    let right = commit_right opening h s.stage e s.there refl in
    subst (λ j. IsAnswered opening h commit (answers.Changed j) n) (sym number)
    (accepted_now opening h m n it commit done c (tells s.stage (state_at opening h) s.is) accepts right
    (commits_are_there opening h s.stage (effect_of_change c) it.journal.used it.journal.legal s.there) none
    (committed_stage opening h ((journal_of h).count + 1) (effect_of_change c))
    (state s.stage (state_at opening h) s.is
    ∙ sym (commit_leaves opening h s.stage ((journal_of h).count + 1) (effect_of_change c) it.journal.used
    it.journal.legal s.there)))

-- ---- an Abort

pub abort_answered : OtherEntriesLeaveIt → (opening : State) (h : History) (m n : Installation) (g : Staged)
    → IsInstallationOf opening h m → m.stage ≡ Some g
    → ((t : Stage) (s : State) → IsStageOf g t s m.plant → n.plant.state ≡ s) → n.stage ≡ None → n.journal ≡ m.journal
    → n.changes ≡ m.changes
    → IsAnswered opening h abort answers.Aborted n
abort_answered others opening h m n g it was state none journal changes =
    let s = staging opening h m g it was in
    let e = plain_entry abort answers.Aborted in
    let right = abort_right opening h s.stage s.there in
    let same : state_at opening (e ∷ h) ≡ state_at opening h =
    other_calls_leave_the_state opening h e it.journal.used (right, it.journal.legal) tt in
    record {
      right = right;
      is = record {
        journal = subst (λ j. IsJournalOf opening (e ∷ h) j n.changes.items) (sym journal)
            (subst (λ (fs : _). IsJournalOf opening (e ∷ h) m.journal fs.items) (sym changes)
            (others opening h e m.journal m.changes.items it.journal right tt));
        stage = subst (λ o. IsStagedAs o n.stage (state_at opening (e ∷ h)) n.plant) (sym (aborted_stage opening h))
            (subst (λ o. IsStagedAs None o (state_at opening (e ∷ h)) n.plant) (sym none)
            (state s.stage (state_at opening h) s.is ∙ sym same));
        room = subst (λ o. HasRoomFor o n) (sym none) tt;
      };
    }

-- ---- what an activation or a beginning does, where room was made before

none_less : (n : ℕ) → n - 0 ≡ n
none_less n = omega arith

module _ (t : ChangeTree) (m r n : Installation) (plant : r.plant ≡ m.plant) (rest : KeepsTheRest m r) where
  abbrev tried : Outcome
  tried = meaning t r.plant.state

  pub activated_by : OneThatKeepsTheSameIsOne → (p : Operating) (d : Done) (q : Installation) (k : ℕ)
      → tried ≡ Ok (record { state = p.state; edits = edits_of tried })
      → plain_tree (tree_of d.inverse) ≡ inverse_tree (edits_of tried) r.plant.state
      → effect_in d.effect ≡ effect_of (edits_of tried) r.plant.state
      → AreToldBy d.performed.items (told_of_all (edits_of tried) r.plant.state)
      → AcceptsOne d q n → q.journal ≡ r.journal → q.changes ≡ r.changes → k ≡ length q.journal.changes + 1
      → n.plant ≡ p → n.stage ≡ None → IsActivated t m k n
  activated_by as_before p d q k means inverse effect performed accepts journal changes number after none =
      let same : r.plant.state ≡ m.plant.state = ap (λ (p : Operating). p.state) plant in
      let same_journal : KeepsTheSame m.journal q.journal = subst (KeepsTheSame m.journal) (sym journal) rest.journal in
      let known : q.changes.items ≡ m.changes.items = (λ z. (changes z).items) ∙ rest.changes in
      record {
        performed = record { state = p.state; edits = edits_of tried };
        means = subst (λ s. meaning t s ≡ Ok (record { state = p.state; edits = edits_of tried })) same means;
        accepted = record {
          done = d;
          tells = subst (λ s. Tells d (change_from (edits_of tried) s)) same
              (record { inverse = inverse; effect = effect; performed = performed });
          accepts = record {
            changes = accepts.changes ∙ ap (λ fs. fs ++ d.effect ∷ []) known;
            journal = record {
              changes = accepts.journal.changes
                  ∙ ap (λ ks. ks ++ newly_kept d.inverse d.performed ∷ []) same_journal.changes;
              standing = accepts.journal.standing ∙ ap (λ s. s + 1) same_journal.standing;
              undone = accepts.journal.undone;
              takes_in = λ opening h fs e f i a. accepts.journal.takes_in opening h fs e f
                  (as_before opening h m.journal q.journal fs same_journal i) a;
            };
          };
          number = number ∙ ap (λ (ks : _). length ks + 1) same_journal.changes;
          stage = none;
          state_is = ap (λ (p : Operating). p.state) after;
        };
      }

  begun_change : (o : Outcome) (s : State) (r : Performed) → o ≡ Ok r → change_of o s ≡ change_from r.edits s
  begun_change o s r is = ap (λ z. change_of z s) is

  pub begun_by : (p : Operating) (g : Staged) (k : ℕ) (s : State) → HasRoomForAChange r
      → tried ≡ Ok (record { state = s; edits = edits_of tried })
      → IsStageOf g (just_begun (change_of tried r.plant.state)) r.plant.state p
      → ((o : Stage) (b : State) (q : Operating) → IsStageOf g o b q → k ≡ left_of o) → n.plant ≡ p → n.stage ≡ Some g
      → n.journal ≡ r.journal → n.changes ≡ r.changes → IsBegun t m k n
  begun_by p g k s had means staged left after stage journal changes =
      let same : r.plant.state ≡ m.plant.state = ap (λ (p : Operating). p.state) plant in
      let change : change_of tried r.plant.state ≡ change_from (edits_of tried) r.plant.state
      = begun_change tried r.plant.state (record { state = s; edits = edits_of tried }) means in
      record {
        performed = record { state = s; edits = edits_of tried };
        means = subst (λ z. meaning t z ≡ Ok (record { state = s; edits = edits_of tried })) same means;
        edits_are = left (just_begun (change_of tried r.plant.state)) r.plant.state p staged
            ∙ none_less (length (change_of tried r.plant.state).edits) ∙ ap (λ (c : Change). length c.edits) change;
        staged = g;
        stage = stage;
        is = subst (λ q. IsStageOf g (just_begun (change_from (edits_of tried) m.plant.state)) m.plant.state q)
            (sym after)
            (subst (λ z. IsStageOf g (just_begun (change_from (edits_of tried) z)) z p) same
            (subst (λ c. IsStageOf g (just_begun c) r.plant.state p) change staged));
        rest = record {
          journal = subst (KeepsTheSame m.journal) (sym journal) rest.journal;
          changes = (λ z. (changes z).items) ∙ rest.changes;
        };
        room = record {
          changes = subst (λ (fs : Listed). IsTrue fs.has_room) (sym changes) had.changes;
          journal = subst (λ (j : Journaled). IsTrue j.has_room) (sym journal) had.journal;
        };
      }
