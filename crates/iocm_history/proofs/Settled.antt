-- What holds along every legal history, and that each event keeps it.
use Rattle.std.proofs.Common.{◌≡◌, ◌≢◌, ℕ, ◌+◌, ◌<◌, Bool, true, false, cond, not, ◌||◌, eqb, List, [], ◌∷◌, Option}
use Rattle.std.proofs.Common.{Some, None, is_some, refl, sym, ap, subst, ◌∙◌, arith}
use Rattle.std.proofs.lemmas.Bool.{or_parts, or_from, eq-eqb, ne_eqb}
use Rattle.std.specs.Option.{option_map}
use Rattle.std.specs.FinMap.{get, get-empty}
use Rattle.iocm_types.specs.declared.live.Live.{Live}
use Rattle.iocm_types.specs.declared.sub_id.SubId.{SubId}
use Rattle.iocm_types.specs.Key.{key_cmp}
use Rattle.iocm_types.specs.Place.{cell_cmp}
use Rattle.iocm_model.specs.Machine.Numbering.{numbering_of}
use Rattle.iocm_model.specs.Operation.State.{State, seen_in, is_among}
use Rattle.iocm_model.specs.Operation.Step.{Step, after_step}
use Rattle.iocm_model.proofs.Change.Steps.{steps_stay_sound}
use Rattle.iocm_history.specs.Store.{Store, store_of, state_of}
use Rattle.iocm_history.specs.Change.{Change, altered}
use Rattle.iocm_history.specs.MarkedEntry.{step, undoing, nothing, kept, undone_with, MarkedEntry, is_change}
use Rattle.iocm_history.specs.MarkedEntry.{altered_if, without_change, with_change, altered_by_change, strike}
use Rattle.iocm_history.specs.Stage.{Stage, is_held}
use Rattle.iocm_history.specs.Account.{replay, Account}
use Rattle.iocm_history.specs.StandsOn.{stands_on}
use Rattle.iocm_history.specs.Journal.{Journal, is_in, without}
use Rattle.iocm_history.specs.InUse.{IsInUse}
use Rattle.iocm_history.proofs.OneCell.{at_key, at_number, at_subchannel, none_written, records_read, numbers_read}
use Rattle.iocm_history.proofs.OneCell.{live_read}
use Rattle.iocm_history.proofs.Remarked.{AnyMarks, any_restored, not_new_strike, not_new_restore, unmarked_then}
use Rattle.iocm_history.proofs.Striking.{made, entry, skipped, on_steps}
use Rattle.iocm_history.proofs.Passing.{has_then, has_struck}
use Rattle.iocm_history.proofs.Standing.{IsStanding, standing_change, standing_there}
use Rattle.iocm_history.proofs.Fitted.{IsTakenBack, taken_back_where_it_fits}
use Rattle.iocm_history.proofs.Level.{IsLevel, level_state, IsInert, inert_front, step_front, IsAhead, IsReady, counted}
use Rattle.iocm_history.proofs.Level.{change_front, after_undo, undone_is, undo_front}
use Rattle.iocm_history.proofs.ItFits.{IsFree, free_where_nothing_stands}
use Rattle.iocm_history.proofs.Undone.{AreUndone, inert_replay, inert_chain, step_chain, undo_chain}

-- a change that is staged is ready
abbrev pub IsStaged : Option Stage → State → Type 0
IsStaged (Some g) s = IsReady g.change s
IsStaged None s = Unit {0}

-- with these changes standing and undone, an account of a history: no change is ahead of the count,
-- the standing ones stand and all else is in use, the undone ones are undone, and what is staged is
-- ready
pub record IsSettled (m : Store) (b : Journal) (a : Account) : Type 0 where
  pub ahead : IsAhead b.count a.entries
  pub level : IsLevel m a.entries b.standing
  pub chain : AreUndone m a.entries b.standing b.undone
  pub stage : IsStaged a.stage (state_of (replay m a.entries))

-- the state that an account comes to
abbrev pub state_now : Store → Account → State
state_now m a = state_of (replay m a.entries)

pub none_staged : (g : Option Stage) (s : State) → g ≡ None → IsStaged g s
none_staged g s idle = subst (λ o. IsStaged o s) (sym idle) tt

-- ---- nothing happens

pub nothing_inert : IsInert (entry nothing kept)
nothing_inert = record { other = λ j. refl; writes = λ q. none_written q; fresh = λ k e. cc }

-- an entry in front of others, that is no change ahead
ahead_front : (count : ℕ) (l : MarkedEntry) (ls : List MarkedEntry) → ((j : ℕ) → count < j → is_change j l.act ≡ false)
    → ((k : ℕ) → l.mark ≢ undone_with k)
    → IsAhead count ls → IsAhead count (l ∷ ls)
ahead_front count l ls other fresh ahead = record {
  none = λ j more. or_from (is_change j l.act) _ (other j more) (ahead.none j more);
  unmarked = λ j more. (fresh j, ahead.unmarked j more);
}

module _ (m : Store) (b : Journal) (a : Account) (i : IsSettled m b a) where
  abbrev s : State
  s = state_now m a

  pub level_is : s ≡ i.level.state
  level_is = level_state m a.entries b.standing i.level

  pub settled_in_use : IsInUse s
  settled_in_use = subst IsInUse (sym level_is) i.level.used

  -- a call that does nothing, but may begin, advance or end a stage
  pub settled_nothing : (g : Option Stage) → IsStaged g s
      → IsSettled m b (record { entries = entry nothing kept ∷ a.entries; stage = g })
  settled_nothing g staged = record {
    ahead = ahead_front b.count (entry nothing kept) a.entries (λ j more. refl) (λ k e. cc) i.ahead;
    level = inert_front m a.entries b.standing (entry nothing kept) nothing_inert i.level;
    chain = inert_chain m b.undone (entry nothing kept) a.entries b.standing nothing_inert (λ u none. refl) i.chain;
    stage = subst (λ (o : Store). IsStaged g (state_of o))
        (sym (inert_replay m (entry nothing kept) a.entries nothing_inert)) staged;
  }

  -- ---- a step

  module _ (x : SubId) (done : Step) where
    abbrev live : Option Live
    live = get (after_step x done s).lives x

    abbrev l : MarkedEntry
    l = entry (step x done live) kept

    live_right : is_some live ≡ is_some (seen_in s x)
    live_right = (steps_stay_sound x done s settled_in_use.sound).lived x

    ready_after : (c : Change) → is_among x (altered c) ≡ false → IsReady c s
        → IsReady c (state_of (replay m (l ∷ a.entries)))
    ready_after c off ready = record {
      was_made = ready.was_made;
      config = records_read (replay m (l ∷ a.entries)) (replay m a.entries)
          (λ key. skipped m (at_key key) l a.entries (ap (option_map _) (get-empty key_cmp key)))
          ∙ ready.config;
      numbers = ap numbering_of (numbers_read (replay m (l ∷ a.entries)) (replay m a.entries)
          (λ n. skipped m (at_number n) l a.entries (ap (option_map _) (get-empty cell_cmp n)))) ∙ ready.numbers;
      lives = λ y on. live_read (replay m (l ∷ a.entries)) (replay m a.entries) y
          (skipped m (at_subchannel y) l a.entries (on_steps (altered c) y on x done live off)) ∙ ready.lives y on;
    }

    staged_after : (g : Option Stage) → is_held x g ≡ false → IsStaged g s
        → IsStaged g (state_of (replay m (l ∷ a.entries)))
    staged_after None off staged = tt
    staged_after (Some g) off staged = ready_after g.change off staged

    pub settled_step : is_held x a.stage ≡ false → IsSettled m b (record { entries = l ∷ a.entries; stage = a.stage })
    settled_step off = record {
      ahead = ahead_front b.count l a.entries (λ j more. refl) (λ k e. cc) i.ahead;
      level = step_front m a.entries b.standing x done live i.level
          (live_right ∙ ap (λ z. is_some (seen_in z x)) level_is);
      chain = step_chain m b.undone x done live a.entries b.standing live_right i.chain;
      stage = staged_after a.stage off i.stage;
    }

  -- ---- a change

  pub settled_change : (c : Change) (g : Option Stage) → IsReady c s → g ≡ None
      → IsSettled m (record { count = b.count + 1; standing = (b.count + 1) ∷ b.standing; undone = [] })
      (record { entries = made (b.count + 1) c ∷ a.entries; stage = g })
  settled_change c g ready idle = record {
    ahead = ahead_front (b.count + 1) (made (b.count + 1) c) a.entries
        (λ j more. ne_eqb j (b.count + 1) (λ e. omega arith)) (λ k e. cc)
        (record {
          none = λ j more. i.ahead.none j (omega arith);
          unmarked = λ j more. i.ahead.unmarked j (omega arith);
        });
    level = change_front m a.entries b.standing b.count i.ahead i.level c (subst (IsReady c) level_is ready);
    chain = tt;
    stage = none_staged g _ idle;
  }

  -- ---- an undo

  module _ (n : ℕ) (here : is_in n b.standing ≡ true) (none : stands_on n a.entries s ≡ None) where
    abbrev pub stood : IsStanding m n a.entries
    stood = i.level.standing n here

    pub free : IsFree m n a.entries b.standing i.level stood
    free = free_where_nothing_stands m n a.entries b.standing i.level stood
        (ap (λ z. stands_on n a.entries z) (sym level_is) ∙ none)

    pub back : IsTakenBack stood.change i.level.state
    back = taken_back_where_it_fits stood.change i.level.state stood.was_made i.level.used free.fit

    altered_is : altered_by_change n a.entries ≡ altered stood.change
    altered_is = ap altered_if (standing_change m n a.entries stood)

    pub struck_is : without_change n a.entries ≡ strike (altered stood.change) n a.entries
    struck_is = ap (λ xs. strike xs n a.entries) altered_is

    undo_ahead : IsAhead b.count (after_undo m a.entries b.standing i.level n here)
    undo_ahead =
        let low = counted m a.entries b.standing b.count i.ahead i.level n (standing_there m n a.entries stood) in
        ahead_front b.count (entry (undoing n) kept) (strike (altered stood.change) n a.entries) (λ j more. refl)
        (λ k e. cc) (record {
          none = λ j more. has_struck (is_change j) (altered stood.change) n a.entries ∙ i.ahead.none j more;
          unmarked = λ j more. unmarked_then j a.entries (strike (altered stood.change) n a.entries)
              (not_new_strike (altered stood.change) j n (λ e. omega arith) a.entries) (i.ahead.unmarked j more);
        })

    -- the entries after it come to the state that the inverses leave
    pub undo_leaves : replay m (entry (undoing n) kept ∷ without_change n a.entries) ≡ store_of back.state
    undo_leaves = ap (λ ms. replay m (entry (undoing n) kept ∷ ms)) struck_is
        ∙ undone_is m a.entries b.standing i.level n here free.apart back

    pub settled_undo : a.stage ≡ None
        → IsSettled m (record { count = b.count; standing = without n b.standing; undone = n ∷ b.undone })
        (record { entries = entry (undoing n) kept ∷ without_change n a.entries; stage = a.stage })
    settled_undo idle =
        subst (λ ms. IsSettled m (record { count = b.count; standing = without n b.standing; undone = n ∷ b.undone })
        (record { entries = entry (undoing n) kept ∷ ms; stage = a.stage })) (sym struck_is) (record {
          ahead = undo_ahead;
          level = undo_front m a.entries b.standing i.level n here free.apart back;
          chain = undo_chain m a.entries b.standing i.level n here free.apart back b.undone i.chain;
          stage = none_staged a.stage _ idle;
        })

-- ---- a redo

-- a change that stands isn't undone
pub not_undone : (m : Store) (n : ℕ) (us : List ℕ) (ls : List MarkedEntry) (ns : List ℕ) → is_in n ns ≡ true
    → AreUndone m ls ns us → is_in n us ≡ false
not_undone m n [] ls ns here chain = refl
not_undone m n (u ∷ us) ls ns here chain =
    or_from (eqb n u) _
    (ne_eqb n u (λ same. let there : is_in u ns ≡ true = ap (λ j. is_in j ns) (sym same)
    ∙ here in let none = chain.0.new in let no : true ≡ false = sym there ∙ none in cc))
    (not_undone m n us (with_change u ls) (u ∷ ns) (by (eqb n u)) chain.1)
  where
    by : (b : Bool) → (b || is_in n ns) ≡ true
    by true = refl
    by false = here

without_absent : (n : ℕ) (us : List ℕ) → is_in n us ≡ false → without n us ≡ us
without_absent n [] none = refl
without_absent n (u ∷ us) none =
    let both = or_parts (eqb n u) _ none in
    ap (λ b. cond (not b) (u ∷ without n us) (without n us)) both.0 ∙ ap (λ vs. u ∷ vs) (without_absent n us both.1)

pub without_first : (u : ℕ) (us : List ℕ) → is_in u us ≡ false → without u (u ∷ us) ≡ us
without_first u us none =
    ap (λ b. cond (not b) (u ∷ without u us) (without u us)) (eq-eqb u u refl) ∙ without_absent u us none

module _ (m : Store) (b : Journal) (a : Account) (i : IsSettled m b a) where
  module _ (u : ℕ) (us : List ℕ) (undone : b.undone ≡ u ∷ us) where
    whole : AreUndone m a.entries b.standing (u ∷ us)
    whole = subst (AreUndone m a.entries b.standing) undone i.chain

    rest_is : without u b.undone ≡ us
    rest_is = ap (without u) undone
        ∙ without_first u us (not_undone m u us (with_change u a.entries) (u ∷ b.standing)
        (by (eqb u u) (eq-eqb u u refl)) whole.1)
      where
        by : (c : Bool) → c ≡ true → (c || is_in u b.standing) ≡ true
        by true is = refl
        by false is = cc

    -- the redo of the last one undone
    pub settled_redo : a.stage ≡ None
        → IsSettled m (record { count = b.count; standing = u ∷ b.standing; undone = without u b.undone })
        (record { entries = entry nothing kept ∷ with_change u a.entries; stage = a.stage })
    settled_redo idle =
        settled_nothing m (record { count = b.count; standing = u ∷ b.standing; undone = without u b.undone })
        (record { entries = with_change u a.entries; stage = None })
        (record {
          ahead = record {
            none = λ j more. has_then AnyMarks (is_change j) a.entries (with_change u a.entries)
                (any_restored (altered_by_change u a.entries) u a.entries) ∙ i.ahead.none j more;
            unmarked = λ j more. unmarked_then j a.entries (with_change u a.entries)
                (not_new_restore (altered_by_change u a.entries) j u a.entries) (i.ahead.unmarked j more);
          };
          level = whole.0.level;
          chain = subst (AreUndone m (with_change u a.entries) (u ∷ b.standing)) (sym rest_is) whole.1;
          stage = tt;
        }) a.stage (none_staged a.stage _ idle)
