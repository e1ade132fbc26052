-- From which place of the log on the rules may be broken, and that they can be checked near the
-- keys behind it.
use Rattle.std.proofs.Common.{◌≡◌, ℕ, nat_eq, Bool, true, false, cond, ◌||◌, List, [], ◌∷◌, ◌++◌, length, map, drop}
use Rattle.std.proofs.Common.{Option, Some, None, is_some, refl, sym, ap, subst, ◌∙◌, arith}
use Rattle.std.specs.FinMap.{get, same_map}
use Rattle.std.specs.List.{list_all}
use Rattle.std.specs.Ordering.{eq_by_cmp}
use Rattle.std.proofs.lemmas.Bool.{and_parts, eqb-true, false≢true}
use Rattle.std.proofs.lemmas.List.{map-append, drop-append-le, drop_all, length-append}
use Rattle.iocm_types.specs.declared.key.Key.{Key}
use Rattle.iocm_types.specs.declared.place.Place.{Place}
use Rattle.iocm_types.specs.Key.{key_cmp}
use Rattle.iocm_types.specs.KeyOrder.{keys_exact, keys_total, places_exact, places_total}
use Rattle.iocm_types.proofs.Found.{same_key}
use Rattle.iocm_model.specs.Machine.Configuration.{Configuration}
use Rattle.iocm_model.specs.Machine.Numbering.{Numbering, AreNumbersOf}
use Rattle.iocm_model.specs.Operation.State.{State, IsSound}
use Rattle.iocm_model.specs.Rules.FirstBreach.{first_breach}
use Rattle.iocm_model.specs.Change.Edit.{Action, Edit, action_key, config_after, record_after, state_after}
use Rattle.iocm_model.specs.Change.Renumbering.{numbers_after}
use Rattle.iocm_model.specs.Change.Runs.{state_after_all, CarryFreeNumbers}
use Rattle.iocm_model.specs.Laws.Trees.{KeepsTheRules}
use Rattle.iocm_model.proofs.Change.RunsGoBack.{stays_sound, all_append}
use Rattle.iocm_model.proofs.Maps.Cells.{get_with_value}
use Rattle.iocm_model.proofs.Numbers.Changed.{numbers_after_are_exact, stayers_keep_theirs}
use Rattle.iocm_device_rules.specs.Among.{is_one_of}
use Rattle.iocm_rules.specs.Near.{is_near_key, AreNear, KeptBut, NearEditsKeepTheRest}
use Rattle.iocm_activate.specs.Told.{key_of_edit}
use Rattle.iocm_activate.specs.Walked.{WereKept, kept_through}
use Rattle.iocm_activate.specs.declared.log.Log.{Log}

-- the state is sound
pub sound_now : {log : Log} {s : State} → WereKept log s → IsSound s
sound_now {log} {s} kept = subst IsSound (sym kept.now) (stays_sound kept.edits kept.before kept.sound kept.free)

-- a log that has the same keys and the same mark, in the same state
pub kept_still : (old new : Log) (s t : State) → WereKept old s → new.keys.items ≡ old.keys.items → new.kept ≡ old.kept
    → t ≡ s → WereKept new t
kept_still old new s t kept keys mark same = record {
  before = kept.before;
  sound = kept.sound;
  kept = kept.kept;
  edits = kept.edits;
  free = kept.free;
  now = same ∙ kept.now;
  keys = (λ i. drop (mark i) (keys i)) ∙ kept.keys;
  within = let k = kept.within in let l = ap length keys in omega (arith, k, l, mark);
}

-- the numbers of edits and more are free where those of each are
carry_append : (es fs : List Edit) (s : State) → CarryFreeNumbers es s → CarryFreeNumbers fs (state_after_all es s)
    → CarryFreeNumbers (es ++ fs) s
carry_append [] fs s free more = more
carry_append (e ∷ es) fs s free more = (free.0, carry_append es fs (state_after e s) free.1 more)

-- one more edit was performed
pub kept_before : (old new : Log) (s t : State) (e : Edit) (key : Key) → WereKept old s → CarryFreeNumbers (e ∷ []) s
    → t ≡ state_after e s
    → new.keys.items ≡ old.keys.items ++ key ∷ [] → key ≡ key_of_edit e → new.kept ≡ old.kept → WereKept new t
kept_before old new s t e key kept free state keys is mark = record {
  before = kept.before;
  sound = kept.sound;
  kept = kept.kept;
  edits = kept.edits ++ e ∷ [];
  free = carry_append kept.edits (e ∷ []) kept.before kept.free (subst (CarryFreeNumbers (e ∷ [])) kept.now free);
  now = state ∙ ap (state_after e) kept.now ∙ sym (all_append kept.edits (e ∷ []) kept.before);
  keys = (λ i. drop (mark i) (keys i)) ∙ drop-append-le old.kept old.keys.items (key ∷ []) kept.within
      ∙ (λ i. kept.keys i ++ is i ∷ [])
      ∙ sym (map-append key_of_edit kept.edits (e ∷ []));
  within = let k = kept.within in let l = ap length keys ∙ length-append old.keys.items (key ∷ []) in
      omega (arith, k, l, mark);
}

-- the rules are kept now
pub kept_now : (log : Log) (s : State) → IsSound s → KeepsTheRules s → log.kept ≡ length log.keys.items → WereKept log s
kept_now log s sound rules mark = record {
  before = s;
  sound = sound;
  kept = rules;
  edits = [];
  free = tt;
  now = refl;
  keys = ap (λ n. drop n log.keys.items) mark ∙ drop_all (length log.keys.items) log.keys.items (omega arith);
  within = omega (arith, mark);
}

-- each of these keys is that of a device, or of an online record
all_near : (keys : List Key) → list_all is_near_key keys ≡ true → AreNear keys
all_near [] all key there = absurd (false≢true there)
all_near (k ∷ ks) all key there =
    by (eq_by_cmp key_cmp key k) refl there
    (all_near ks ((and_parts (is_near_key k) (list_all is_near_key ks) all).1) key)
  where
    by : (b : Bool) → eq_by_cmp key_cmp key k ≡ b → (b || is_one_of key ks) ≡ true
        → (is_one_of key ks ≡ true → is_near_key key ≡ true)
        → is_near_key key ≡ true
    by true same there further =
        ap is_near_key (same_key key_cmp keys_exact key k same)
        ∙ (and_parts (is_near_key k) (list_all is_near_key ks) all).0
    by false other there further = further there

-- only devices and online records were changed since
pub near_now : (log : Log) (s : State) (keys : List Key) → WereKept log s → keys ≡ drop log.kept log.keys.items
    → list_all is_near_key keys ≡ true
    → NearEditsKeepTheRest → KeptBut keys s.config s.numbers
near_now log s keys kept are all law = subst (λ (x : State). KeptBut keys x.config x.numbers) (sym kept.now)
    (law kept.edits kept.before keys kept.sound kept.kept (are ∙ kept.keys) (all_near keys all))

-- ---- an edit that leaves the record under its key as it was

-- the configuration stays
same_config : (a : Action) (c : Configuration) → record_after a ≡ get c (action_key a) → config_after a c ≡ c
same_config a c is = same_map keys_total keys_exact (config_after a c) c (λ q.
    get_with_value keys_total keys_exact c (action_key a) (record_after a) q
    ∙ by q (eq_by_cmp key_cmp q (action_key a)) refl)
  where
    by : (q : Key) (b : Bool) → eq_by_cmp key_cmp q (action_key a) ≡ b → cond b (record_after a) (get c q) ≡ get c q
    by q true tied = is ∙ ap (get c) (sym (same_key key_cmp keys_exact q (action_key a) tied))
    by q false tied = refl

nothing : (o : Option ℕ) → is_some o ≡ false → o ≡ None
nothing None none = refl
nothing (Some x) none = absurd (false≢true (sym none))

-- the numbers of a configuration stay where it does, whatever was carried along
same_numbers : (c : Configuration) (carried : List (Place × ℕ)) (n : Numbering) → AreNumbersOf c n
    → numbers_after c carried n ≡ n
same_numbers c carried n are =
    same_map places_total places_exact (numbers_after c carried n) n (λ p. by p (get n p) refl)
  where
    by : (p : Place) (o : Option ℕ) → get n p ≡ o → get (numbers_after c carried n) p ≡ get n p
    by p (Some k) there = stayers_keep_theirs c carried n p k (sym (are.exact p) ∙ ap is_some there) there ∙ sym there
    by p None none = nothing (get (numbers_after c carried n) p)
        (numbers_after_are_exact c carried n p ∙ sym (are.exact p) ∙ ap is_some none)
        ∙ sym none

-- so the rules are kept where they were
rules_stay : (e : Edit) (s : State) → IsSound s → record_after e.action ≡ get s.config (action_key e.action)
    → KeepsTheRules s
    → KeepsTheRules (state_after e s)
rules_stay e s sound is rules = (λ i. first_breach (config i) (numbers i)) ∙ rules
  where
    config : config_after e.action s.config ≡ s.config
    config = same_config e.action s.config is

    numbers : numbers_after (config_after e.action s.config) e.places s.numbers ≡ s.numbers
    numbers = ap (λ c. numbers_after c e.places s.numbers) config
        ∙ same_numbers s.config e.places s.numbers sound.numbered

-- where no edit is behind the mark, the rules are kept
none_since : (es : List Edit) (s : State) → [] ≡ map key_of_edit es → state_after_all es s ≡ s
none_since [] s none = refl
none_since (e ∷ es) s none = cc

rules_now : (log : Log) (s : State) → WereKept log s → log.kept ≡ length log.keys.items → KeepsTheRules s
rules_now log s kept mark = subst KeepsTheRules (sym (kept.now ∙ none_since kept.edits kept.before
    (sym (ap (λ n. drop n log.keys.items) mark ∙ drop_all (length log.keys.items) log.keys.items (omega arith))
    ∙ kept.keys))) kept.kept

-- they are kept through it where they were kept before it
pub kept_unchanged : (old new : Log) (s t : State) (e : Edit) (key : Key) → WereKept old s → CarryFreeNumbers (e ∷ []) s
    → t ≡ state_after e s
    → record_after e.action ≡ get s.config (action_key e.action)
    → new.keys.items ≡ old.keys.items ++ key ∷ [] → key ≡ key_of_edit e → new.kept ≡ kept_through old new
    → WereKept new t
kept_unchanged old new s t e key kept free state same keys is through =
    by (nat_eq old.kept (length old.keys.items)) refl
  where
    sound : IsSound s
    sound = sound_now kept

    by : (b : Bool) → nat_eq old.kept (length old.keys.items) ≡ b → WereKept new t
    by true end = kept_now new t (subst IsSound (sym state) (stays_sound (e ∷ []) s sound free))
        (subst KeepsTheRules (sym state)
        (rules_stay e s sound same (rules_now old s kept (eqb-true old.kept (length old.keys.items) end))))
        (through ∙ ap (λ b. cond b (length new.keys.items) old.kept) end)
    by false earlier = kept_before old new s t e key kept free state keys is
        (through ∙ ap (λ b. cond b (length new.keys.items) old.kept) earlier)
