-- Runs of accepted edits with their log: none, one, and one run after another.
use Rattle.std.proofs.Common.{◌≡◌, List, [], ◌∷◌, ◌++◌, map, refl, sym, ap, subst, ◌∙◌}
use Rattle.std.specs.Prelude.{None}
use Rattle.std.proofs.lemmas.List.{append-nil, append_assoc, map-append}
use Rattle.iocm_types.specs.declared.key.Key.{Key}
use Rattle.iocm_model.specs.Operation.State.{State, HasLives, IsSound}
use Rattle.iocm_model.specs.Change.Edit.{Edit, state_after}
use Rattle.iocm_model.specs.Change.Inverse.{inverse_of}
use Rattle.iocm_model.specs.Change.Refusal.{refusal_of}
use Rattle.iocm_model.specs.Change.Runs.{state_after_all, AreAccepted, CarryFreeNumbers}
use Rattle.iocm_model.proofs.Change.RunsGoBack.{all_append, accepted_append, accepted_carry}
use Rattle.iocm_plant.specs.Operating.{Operating, KeepsRoom}
use Rattle.iocm_plant.specs.Performing.{Performs}
use Rattle.iocm_plant.specs.Between.{CanStillUnapply, PlacesAreKeptOn, SamePlacesAreKept}
use Rattle.iocm_plant.specs.declared.touched.Applied.{Applied}
use Rattle.iocm_activate.specs.Told.{told_of, told_of_all, told_in, key_of_edit, way_back, LeadsTo}
use Rattle.iocm_activate.specs.Walked.{Ran}
use Rattle.iocm_activate.specs.declared.log.Log.{Log}
use Rattle.iocm_activate.proofs.Back.{leads_on, way_back_append, undone}

-- what is told of edits and more is what is told of each
pub told_append : (es fs : List Edit) (s : State)
    → told_of_all (es ++ fs) s ≡ told_of_all es s ++ told_of_all fs (state_after_all es s)
told_append [] fs s = refl
told_append (e ∷ es) fs s = ap (λ ts. told_of e s ∷ ts) (told_append es fs (state_after e s))

-- one list behind another behind a third
pub behind : {A : Type 0} (a b c d e : List A) → b ≡ a ++ d → c ≡ b ++ e → c ≡ a ++ (d ++ e)
behind a b c d e first second = second ∙ ap (λ xs. xs ++ e) first ∙ append_assoc a d e

-- nothing was performed
abbrev pub ran_nothing : (p : Operating) (old : Log) (q : Operating) (new : Log) → q.state ≡ p.state
    → KeepsRoom p.room q.room
    → new.done.items ≡ old.done.items → new.keys.items ≡ old.keys.items → Ran p old q new
ran_nothing p old q new same room done keys = record {
  edits = [];
  accepted = tt;
  state = same;
  room = room;
  done = [];
  log = done ∙ sym (append-nil old.done.items);
  told = refl;
  back = same;
  keys = keys ∙ sym (append-nil old.keys.items);
}

-- where nothing changed, nothing was performed
abbrev pub ran_nowhere : SamePlacesAreKept → (p : Operating) (log : Log) → Ran p log p log
ran_nowhere same p log = ran_nothing p log p log refl (same p.room p.room refl) refl refl

-- what is told of an edit is what is kept of it
pub told_is : (e : Edit) (p : Operating) (a : Applied) (q : Operating) → Performs e p a q
    → told_in a ≡ told_of e p.state
told_is e p a q made =
    λ i. record { inverse = made.inverse i; numbers = made.numbers i; subchannels = made.subchannels i }

-- its inverse edit leads back
pub leads_back : (e : Edit) (p : Operating) (a : Applied) (q : Operating) → IsSound p.state
    → CarryFreeNumbers (e ∷ []) p.state → Performs e p a q → LeadsTo (a.inverse ∷ []) p.state q
leads_back e p a q sound free made = (
  made.back,
  λ t after places. after ∙ ap (λ (i : Edit). state_after i q.state) made.inverse
      ∙ ap (state_after (inverse_of e p.state)) made.state ∙ undone e p.state sound free,
)

-- one edit was performed
abbrev pub ran_one : (p : Operating) (old : Log) (q : Operating) (new : Log) (e : Edit) (a : Applied) (key : Key)
    → IsSound p.state
    → refusal_of e p.state ≡ None → Performs e p a q → KeepsRoom p.room q.room
    → new.done.items ≡ old.done.items ++ a ∷ [] → key ≡ key_of_edit e → new.keys.items ≡ old.keys.items ++ key ∷ []
    → Ran p old q new
ran_one p old q new e a key sound accepted made room done is keys = record {
  edits = e ∷ [];
  accepted = (accepted, tt);
  state = made.state;
  room = room;
  done = a ∷ [];
  log = done;
  told = ap (λ t. t ∷ []) (told_is e p a q made);
  back = leads_back e p a q sound (accepted_carry (e ∷ []) p.state (accepted, tt)) made;
  keys = keys ∙ ap (λ k. old.keys.items ++ k ∷ []) is;
}

-- one run after another
abbrev pub ran_on : {p : Operating} {first : Log} {q : Operating} {second : Log} {r : Operating} {third : Log}
    → PlacesAreKeptOn → CanStillUnapply
    → Ran p first q second → Ran q second r third → HasLives r.state → Ran p first r third
ran_on {p} {first} {q} {second} {r} {third} places still before after lived =
    let later : state_after_all after.edits q.state ≡ state_after_all (before.edits ++ after.edits) p.state =
    ap (state_after_all after.edits) before.state ∙ sym (all_append before.edits after.edits p.state) in record {
      edits = before.edits ++ after.edits;
      accepted = accepted_append before.edits after.edits p.state before.accepted
          (subst (AreAccepted after.edits) before.state after.accepted);
      state = after.state ∙ later;
      room = places p.room q.room r.room before.room after.room;
      done = before.done ++ after.done;
      log = behind first.done.items second.done.items third.done.items before.done after.done before.log after.log;
      told = map-append told_in before.done after.done ∙ (λ i. before.told i ++ after.told i)
          ∙ ap (λ s. told_of_all before.edits p.state ++ told_of_all after.edits s) before.state
          ∙ sym (told_append before.edits after.edits p.state);
      back = subst (λ is. LeadsTo is p.state r) (sym (way_back_append before.done after.done))
          (leads_on still (way_back after.done) (way_back before.done) p.state q r after.back before.back lived
          after.room);
      keys = behind first.keys.items second.keys.items third.keys.items (map key_of_edit before.edits)
          (map key_of_edit after.edits) before.keys after.keys
          ∙ ap (λ ks. first.keys.items ++ ks) (sym (map-append key_of_edit before.edits after.edits));
    }
