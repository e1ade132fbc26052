-- An inverse tree that was carried out and turned round what the change did: the change fitted.
use Rattle.std.proofs.Common.{◌≡◌, ℕ, ◌+◌, Bool, true, false, cond, not, ◌&&◌, ◌||◌, List, [], ◌∷◌, map, reverse}
use Rattle.std.proofs.Common.{Option, Some, None, is_some, refl, sym, ap, ◌∙◌}
use Rattle.std.specs.Prelude.{nat_lt, Ok, Err}
use Rattle.std.specs.Option.{option_and_then, option_or}
use Rattle.std.proofs.lemmas.Bool.{and_parts, false≢true}
use Rattle.std.specs.Cmp.Lexicographic.{pointwise}
use Rattle.std.specs.FinMap.{contains_key}
use Rattle.iocm_types.specs.declared.refused.Refused.{Refused}
use Rattle.iocm_types.specs.declared.rule.Rule.TheVariants.{E4}
use Rattle.iocm_types.specs.declared.refused.At.TheVariants.{Key}
use Rattle.iocm_model.specs.Rules.FirstBreach.{Breach, first_breach}
use Rattle.iocm_model.specs.Operation.State.{State}
use Rattle.iocm_model.specs.Change.Edit.{Edit, action_key, config_after, state_after}
use Rattle.iocm_model.specs.Change.InverseTree.{inverse_tree, parts_of}
use Rattle.iocm_model.specs.Change.Meaning.{Outcome, Performed, after_run, and_then, if_rules_hold, meaning}
use Rattle.iocm_model.specs.Change.Meaning.{parts_meaning, unless_broken, unless_refused}
use Rattle.iocm_model.specs.Change.Refusal.{refusal_at, refusal_by_key, refusal_of, is_number_taken}
use Rattle.iocm_model.specs.Change.Runs.{AreAccepted, inverses, state_after_all}
use Rattle.iocm_model.specs.Change.Tree.{ChangeTree, row, depth_of, leaves_of, most_depth, most_leaves}
use Rattle.iocm_history.specs.Fits.{fits, is_barred, keeps_the_rules}
use Rattle.iocm_plant.specs.Operating.{Operating}
use Rattle.iocm_plant.specs.declared.touched.Applied.{Applied}
use Rattle.iocm_plant.specs.declared.touched.Touched.{Touched}
use Rattle.iocm_activate.specs.CarryingBack.{are_turned_back}
use Rattle.iocm_activate.specs.Done.{AreToldBy}
use Rattle.iocm_activate.specs.Fitting.{gone_back, gone_back_along, is_turned, is_turned_number, is_turned_view}
use Rattle.iocm_activate.specs.Told.{Told, told_in, told_of, told_of_all}
use Rattle.iocm_activate.specs.Walked.{WasAccepted}
use Rattle.iocm_activate.specs.declared.log.Log.{Log}
use Rattle.iocm_activate.proofs.GoingBack.{all_back}
use Rattle.iocm_activate.proofs.Whole.{walked, all_told, kept_by}

-- ---- the walk along what was done

-- ---- a Row of edits that was accepted

-- neither refusal applies where none does
neither : (k : Option Refused) (taken : Bool) (r : Refused) (rest : Option Refused)
    → option_or k (option_or (cond taken (Some r) None) rest) ≡ None
    → (is_some k || taken) ≡ false
neither None false r rest h = refl
neither None true r rest h = cc
neither (Some x) taken r rest h = cc

-- an edit that is accepted is not barred
not_barred : (e : Edit) (s : State) → refusal_of e s ≡ None → is_barred e s ≡ false
not_barred e s h = neither (refusal_by_key e.action (contains_key s.config (action_key e.action)))
    (is_number_taken (config_after e.action s.config) s.numbers e.places)
    (refusal_at E4 (Key (action_key e.action))) _ h

-- these edits were performed, and each was accepted
record RanAll (es : List Edit) (s : State) (w : Performed) : Type 0 where
  edits : w.edits ≡ es
  accepted : AreAccepted es s

done_is : (r w : Performed) → ◌≡◌ {A = Outcome} (Ok r) (Ok w) → r ≡ w
done_is r w h = cc

-- the first is accepted, and the rest says what it says
by_rest : (e : Edit) (es : List Edit) (s : State) (w : Performed) (o : Outcome) → refusal_of e s ≡ None
    → ((next : Performed) → o ≡ Ok next → RanAll es (state_after e s) next)
    → after_run (record { state = state_after e s; edits = e ∷ [] }) o ≡ Ok w → RanAll (e ∷ es) s w
by_rest e es s w (Err why) is more h = cc
by_rest e es s w (Ok next) is more h =
    let rest = more next refl in
    record {
      edits = ap (λ (r : Performed). r.edits)
          (sym (done_is (record { state = next.state; edits = e ∷ next.edits }) w h)) ∙ ap (λ xs. e ∷ xs) rest.edits;
      accepted = (is, rest.accepted);
    }

by_refusal : (e : Edit) (es : List Edit) (n : ℕ) (s : State) (w : Performed) (o : Option Refused) → refusal_of e s ≡ o
    → ((next : Performed) → parts_meaning (parts_of es) (n + 1) (state_after e s) ≡ Ok next
    → RanAll es (state_after e s) next)
    → and_then (unless_refused o n e s) (parts_meaning (parts_of es) (n + 1)) ≡ Ok w → RanAll (e ∷ es) s w
by_refusal e es n s w (Some why) is more h = cc
by_refusal e es n s w None is more h =
    by_rest e es s w (parts_meaning (parts_of es) (n + 1) (state_after e s)) is more h

ran_all : (es : List Edit) (n : ℕ) (s : State) (w : Performed) → parts_meaning (parts_of es) n s ≡ Ok w → RanAll es s w
ran_all [] n s w h = record
    { edits = ap (λ (r : Performed). r.edits) (sym (done_is (record { state = s; edits = [] }) w h)); accepted = tt }
ran_all (e ∷ es) n s w h =
    by_refusal e es n s w (refusal_of e s) refl (λ next rest. ran_all es (n + 1) (state_after e s) next rest) h

-- a whole Row means what its parts mean
by_breach : (b : Option Breach) (r w : Performed) → unless_broken b 0 r ≡ Ok w → ◌≡◌ {A = Outcome} (Ok r) (Ok w)
by_breach None r w h = h
by_breach (Some b) r w h = cc

by_parts : (o : Outcome) (w : Performed) → if_rules_hold 0 o ≡ Ok w → o ≡ Ok w
by_parts (Ok r) w h = by_breach (first_breach r.state.config r.state.numbers) r w h
by_parts (Err why) w h = cc

by_limits : (a b : Bool) (x y : Refused) (o : Outcome) (w : Performed)
    → cond a (Err x) (cond b (Err y) (if_rules_hold 0 o)) ≡ Ok w → o ≡ Ok w
by_limits true b x y o w h = cc
by_limits false true x y o w h = cc
by_limits false false x y o w h = by_parts o w h

row_ran : (es : List Edit) (s : State) (w : Performed) → meaning (row (parts_of es)) s ≡ Ok w → RanAll es s w
row_ran es s w h = ran_all es 1 s w
    (by_limits (nat_lt most_depth (depth_of (row (parts_of es)))) (nat_lt most_leaves (leaves_of (row (parts_of es)))) _
    _
    (parts_meaning (parts_of es) 1 s) w h)

-- ---- it goes back

first_told : (t u : Told) (ts us : List Told) → t ∷ ts ≡ u ∷ us → (t ≡ u) × (ts ≡ us)
first_told t u ts us h = (cc, cc)

-- edits that were accepted, and each of which is turned round, go back
gone_along : (es : List Edit) (done : List Applied) (ds : List Touched) (s : State) → AreAccepted es s
    → map told_in done ≡ told_of_all es s
    → are_turned_back done ds ≡ true → gone_back_along (parts_of es) ds s ≡ Some (state_after_all es s)
gone_along [] done ds s accepted told turned = refl
gone_along (e ∷ es) [] ds s accepted told turned = cc
gone_along (e ∷ es) (a ∷ done) [] s accepted told turned = absurd (false≢true turned)
gone_along (e ∷ es) (a ∷ done) (d ∷ ds) s accepted told turned =
    let both = and_parts (is_turned a.touched d) (are_turned_back done ds) turned in
    let first = first_told (told_in a) (told_of e s) (map told_in done) (told_of_all es (state_after e s)) told in
    let free = not_barred e s accepted.0 in
    let one : gone_back e d s ≡ Some (state_after e s) =
    (λ i. cond (not (free i) && pointwise is_turned_number (sym first.0 i).numbers d.numbers.items
    && pointwise is_turned_view (sym first.0 i).subchannels d.subchannels.items) (Some (state_after e s)) None)
    ∙ ap (λ b. cond b (Some (state_after e s)) None) both.0 in
    ap (option_and_then (gone_back_along (parts_of es) ds)) one
    ∙ gone_along es done ds (state_after e s) accepted.1 first.1 both.1

-- so the change fitted, whatever it was
pub fitted : {t : ChangeTree} {p q : Operating} {log : Log} → WasAccepted t p q log → (ds : List Touched)
    → are_turned_back log.done.items (reverse ds) ≡ true
    → (es : List Edit) (s : State) → t ≡ inverse_tree es s → AreToldBy ds (told_of_all es s)
    → fits (record { edits = es; from = s }) p.state ≡ true
fitted {t} {p} {q} {log} w ds turned es s same told =
    let edits = w.answers.ran.edits in
    let ran = row_ran (inverses es s) p.state (record { state = q.state; edits = edits })
    (ap (λ (x : ChangeTree). meaning x p.state) (sym same) ∙ w.answers.means) in
    let all = ap (map told_in) refl ∙ all_told (walked w) ∙ ap (λ xs. told_of_all xs p.state) ran.edits in
    let gone = gone_along (inverses es s) log.done.items (reverse ds) p.state ran.accepted all turned in
    let reached : q.state ≡ state_after_all (inverses es s) p.state =
    w.answers.ran.state ∙ ap (λ xs. state_after_all xs p.state) ran.edits in
    ap keeps_the_rules (sym (all_back ds es s p.state told) ∙ gone)
    ∙ ap (λ (v : State). not (is_some (first_breach v.config v.numbers))) (sym reached)
    ∙ ap (λ o. not (is_some o)) (kept_by w)
