-- Where each undo is of the latest standing change, each step that counts left what it would leave
-- if it were decided anew.
use Rattle.std.proofs.Common.{◌≡◌, ℕ, ◌+◌, Bool, true, false, cond, eqb, List, [], ◌∷◌, ◌++◌, Option, Some, None, refl}
use Rattle.std.proofs.Common.{sym, ap, subst, ◌∙◌}
use Rattle.std.proofs.lemmas.Bool.{or_parts, or_left, or_right, eq-eqb, ne_eqb}
use Rattle.std.specs.Option.{option_zip}
use Rattle.std.specs.Ordering.{eq_by_cmp}
use Rattle.std.specs.FinMap.{get, get-insert}
use Rattle.iocm_types.specs.declared.answer.Answer.TheVariants.{Undone}
use Rattle.iocm_types.specs.declared.live.Live.{Live}
use Rattle.iocm_types.specs.declared.sub_id.SubId.{SubId}
use Rattle.iocm_types.specs.declared.view.View.{View}
use Rattle.iocm_types.specs.SubId.{sub_id_cmp}
use Rattle.iocm_types.specs.KeyOrder.{sub_ids_total}
use Rattle.iocm_types.proofs.Found.{ties_itself}
use Rattle.iocm_model.specs.Machine.Numbering.{numbering_of}
use Rattle.iocm_model.specs.Operation.State.{State, Lives, IsSound, views_of, seen_in, is_among}
use Rattle.iocm_model.specs.Operation.Step.{Step, subchannel_in, live_after_step, lives_after_step, after_step}
use Rattle.iocm_model.specs.Change.Effect.{with_effect}
use Rattle.iocm_model.proofs.Numbers.Cells.{cells_give_numbers}
use Rattle.iocm_model.proofs.Change.Steps.{steps_stay_sound}
use Rattle.iocm_history.specs.Entry.{Entry, History}
use Rattle.iocm_history.specs.Store.{Store, store_of, state_of, store_with}
use Rattle.iocm_history.specs.Change.{Change, effect_of_change, altered}
use Rattle.iocm_history.specs.MarkedEntry.{Act, step, change, undoing, nothing, Mark, kept, undone_with, lost}
use Rattle.iocm_history.specs.MarkedEntry.{MarkedEntry, effect_of_act, effect_of_entry, is_change, is_undo, is_step_on}
use Rattle.iocm_history.specs.MarkedEntry.{altered_by_change, struck_mark, struck, struck_if, strike, without_change}
use Rattle.iocm_history.specs.MarkedEntry.{with_change}
use Rattle.iocm_history.specs.Account.{replay, Account, account, account_after, marked_entries}
use Rattle.iocm_history.specs.StandsOn.{Numbered, change_and, changes_in, greatest, stands_on}
use Rattle.iocm_history.specs.Journal.{Journal, is_in, without, journal_after, journal_of}
use Rattle.iocm_history.specs.Legal.{IsLegal}
use Rattle.iocm_history.specs.InUse.{IsInUse}
use Rattle.iocm_history.specs.LatestFirst.{done_anew_if_kept, replay_anew, UndoesTheLatest, StepsMayBeDecidedAnew}
use Rattle.iocm_history.proofs.OneCell.{Cell, at_key, at_number, at_subchannel, records_read, numbers_read, read}
use Rattle.iocm_history.proofs.OneCell.{written, none_written, live_read, same_store, state_of_store, altered_cells}
use Rattle.iocm_history.proofs.Striking.{has, made, entry, skipped, alike, off_steps}
use Rattle.iocm_history.proofs.Apart.{stays_without}
use Rattle.iocm_history.proofs.EachCall.{after_step_is}
use Rattle.iocm_history.proofs.ItFits.{passes_steps, record_off, device_off}
use Rattle.iocm_history.proofs.Latest.{no_newer, none_struck}
use Rattle.iocm_history.proofs.Passing.{change_past, change_here, strike_append, strike_here}
use Rattle.iocm_history.proofs.Fitted.{IsTakenBack}
use Rattle.iocm_history.proofs.Standing.{IsStanding, standing_change}
use Rattle.iocm_history.proofs.Level.{level_state, IsInert, with_live, step_store, after_undo, undone_is}
use Rattle.iocm_history.proofs.Undone.{AreUndone, inert_replay, altered_past, front_restored, struck_acts, lost_inert}
use Rattle.iocm_history.proofs.Undone.{undoing_inert, redone_is, altered_after}
use Rattle.iocm_history.proofs.Settled.{IsSettled, state_now, nothing_inert, free, back, struck_is, not_undone}
use Rattle.iocm_history.proofs.Settled.{without_first}
use Rattle.iocm_history.proofs.Along.{IsEvent, idles, steps, changes, undoes, redoes, is_event, settled_by, settled}

-- ---- what entries come to

-- entries come to a sound state
pub record ComesTo (m : Store) (ls : List MarkedEntry) : Type 0 where
  pub state : State
  pub is : replay m ls ≡ store_of state
  pub sound : IsSound state

-- a step that counts left what it would leave in this state
abbrev pub Decided : Mark → Act → State → Type 0
Decided kept (step x made l) s = l ≡ get (after_step x made s).lives x
Decided _ _ s = Unit {0}

-- all that older entries come to is sound, and each step that counts is decided there
abbrev pub AreTold : Store → List MarkedEntry → Type 0
AreTold m [] = ComesTo m []
AreTold m (l ∷ ls) = ComesTo m (l ∷ ls) × Decided l.mark l.act (state_of (replay m ls)) × AreTold m ls

comes_to : (m : Store) (ls : List MarkedEntry) → AreTold m ls → ComesTo m ls
comes_to m [] told = told
comes_to m (l ∷ ls) told = told.0

-- the state is that of what they come to
state_is : (m : Store) (ls : List MarkedEntry) (c : ComesTo m ls) → state_of (replay m ls) ≡ c.state
state_is m ls c = ap state_of c.is ∙ state_of_store c.state c.sound

-- ---- decided anew

module _ (m : Store) where
  -- an entry in a store that is sound does what it does anew
  step_anew : (x : SubId) (made : Step) (l : Option Live) (ls : List MarkedEntry) → ComesTo m ls
      → l ≡ get (after_step x made (state_of (replay m ls))).lives x
      → state_of (replay m (entry (step x made l) kept ∷ ls)) ≡ after_step x made (state_of (replay m ls))
  step_anew x made l ls c is =
      let s = c.state in
      let same : l ≡ get (after_step x made s).lives x =
      is ∙ ap (λ z. get (after_step x made z).lives x) (state_is m ls c) in
      ap (λ n. state_of (store_with (effect_of_act (step x made l)) n)) c.is ∙ ap state_of (step_store s x made l)
      ∙ (λ i. record {
        config = s.config;
        numbers = cells_give_numbers s.config s.numbers c.sound.numbered i;
        lives = (with_live s x l).lives;
      })
      ∙ ap (with_live s x) same ∙ after_step_is s x made ∙ ap (after_step x made) (sym (state_is m ls c))

  change_anew : (n : ℕ) (c : Change) (ls : List MarkedEntry) → ComesTo m ls
      → state_of (replay m (made n c ∷ ls)) ≡ with_effect (effect_of_change c) (state_of (replay m ls))
  change_anew n c ls t = ap (λ o. state_of (store_with (effect_of_change c) o)) t.is
      ∙ ap (with_effect (effect_of_change c)) (sym (state_is m ls t))

  inert_state : (l : MarkedEntry) (ls : List MarkedEntry) → ((q : Cell) → written (effect_of_entry l) q ≡ None)
      → state_of (replay m (l ∷ ls)) ≡ state_of (replay m ls)
  inert_state l ls none = ap state_of (same_store (replay m (l ∷ ls)) (replay m ls) (λ q. skipped m q l ls (none q)))

  one_anew : (mark : Mark) (a : Act) (ls : List MarkedEntry) → ComesTo m ls → Decided mark a (state_of (replay m ls))
      → state_of (replay m (entry a mark ∷ ls)) ≡ done_anew_if_kept mark a (state_of (replay m ls))
  one_anew kept (step x made l) ls c is = step_anew x made l ls c is
  one_anew kept (change n c) ls t is = change_anew n c ls t
  one_anew kept (undoing n) ls c is = inert_state (entry (undoing n) kept) ls (λ q. none_written q)
  one_anew kept nothing ls c is = inert_state (entry nothing kept) ls (λ q. none_written q)
  one_anew (undone_with k) a ls c is = inert_state (entry a (undone_with k)) ls (λ q. none_written q)
  one_anew lost a ls c is = inert_state (entry a lost) ls (λ q. none_written q)

-- the state of told entries is that of the entries decided anew
pub told_anew : (opening : State) → IsSound opening → (ls : List MarkedEntry) → AreTold (store_of opening) ls
    → state_of (replay (store_of opening) ls) ≡ replay_anew opening ls
told_anew opening sound [] told = state_of_store opening sound
told_anew opening sound (l ∷ ls) told =
    one_anew (store_of opening) l.mark l.act ls (comes_to (store_of opening) ls told.2) told.1
    ∙ ap (done_anew_if_kept l.mark l.act) (told_anew opening sound ls told.2)

-- ---- entries that write nothing

-- an entry that writes nothing and decides nothing
record IsPlain (l : MarkedEntry) : Type 0 where
  inert : IsInert l
  decided : (s : State) → Decided l.mark l.act s

plain_front : (m : Store) (l : MarkedEntry) (ls : List MarkedEntry) → IsPlain l → AreTold m ls → AreTold m (l ∷ ls)
plain_front m l ls p told =
    let c = comes_to m ls told in (
      record { state = c.state; is = inert_replay m l ls p.inert ∙ c.is; sound = c.sound },
      p.decided (state_of (replay m ls)),
      told,
    )

lost_plain : (b : Bool) (l : MarkedEntry) → IsPlain l → IsPlain (struck_if b lost l)
lost_plain false l p = p
lost_plain true l p = record { inert = lost_inert true l p.inert; decided = by l.mark l.act p.decided }
  where
    by : (mark : Mark) (a : Act) → ((s : State) → Decided mark a s) → (s : State) → Decided (struck_mark lost mark) a s
    by kept a p s = tt
    by (undone_with k) a p s = tt
    by lost a p s = tt

nothing_plain : IsPlain (entry nothing kept)
nothing_plain = record { inert = nothing_inert; decided = λ s. tt }

undoing_plain : (n : ℕ) → IsPlain (entry (undoing n) kept)
undoing_plain n = record { inert = undoing_inert n; decided = λ s. tt }

lost_step_plain : (x : SubId) (made : Step) (l : Option Live) → IsPlain (entry (step x made l) lost)
lost_step_plain x made l =
    record { inert = record { other = λ j. refl; writes = λ q. none_written q; fresh = λ k e. cc }; decided = λ s. tt }

-- ---- a step decides by what is seen and by its live record

decides : (x : SubId) (made : Step) (p : Option (View × Live)) (a b : Lives) → get a x ≡ get b x
    → get (lives_after_step x made p a) x ≡ get (lives_after_step x made p b) x
decides x made None a b same = same
decides x made (Some p) a b same =
    get-insert sub_ids_total a x (live_after_step made p.0 p.1) x
    ∙ by (eq_by_cmp sub_id_cmp x x) (ties_itself sub_id_cmp sub_ids_total x)
    ∙ sym (get-insert sub_ids_total b x (live_after_step made p.0 p.1) x)
  where
    by : (c : Bool) → c ≡ true
        → cond c (Some (live_after_step made p.0 p.1)) (get a x)
        ≡ cond c (Some (live_after_step made p.0 p.1)) (get b x)
    by true is = refl
    by false is = cc

decided_alike : (x : SubId) (made : Step) (s u : State) → seen_in s x ≡ seen_in u x → get s.lives x ≡ get u.lives x
    → get (after_step x made s).lives x ≡ get (after_step x made u).lives x
decided_alike x made s u seen same =
    let at : subchannel_in s x ≡ subchannel_in u x = λ i. option_zip (seen i) (same i) in
    ap (λ p. get (lives_after_step x made p s.lives) x) at ∙ decides x made (subchannel_in u x) s.lives u.lives same

-- a step more
step_told : (m : Store) (x : SubId) (made : Step) (l : Option Live) (ls : List MarkedEntry) → AreTold m ls
    → l ≡ get (after_step x made (state_of (replay m ls))).lives x
    → AreTold m (entry (step x made l) kept ∷ ls)
step_told m x made l ls told is =
    let c = comes_to m ls told in let s = c.state in
    let same : l ≡ get (after_step x made s).lives x =
    is ∙ ap (λ z. get (after_step x made z).lives x) (state_is m ls c) in (
      record {
        state = after_step x made s;
        is = ap (store_with (effect_of_act (step x made l))) c.is ∙ step_store s x made l
            ∙ ap (λ k. store_of (with_live s x k)) same ∙ ap store_of (after_step_is s x made);
        sound = steps_stay_sound x made s c.sound;
      },
      is,
      told,
    )

-- ---- the changes that are undone

-- with a change again the entries are told, and off its subchannels the live records are the same
record IsToldBack (m : Store) (ls : List MarkedEntry) (u : ℕ) : Type 0 where
  told : AreTold m (with_change u ls)
  same : (y : SubId) → is_among y (altered_by_change u ls) ≡ false
      → read (replay m (with_change u ls)) (at_subchannel y) ≡ read (replay m ls) (at_subchannel y)

abbrev AreToldBack : Store → List MarkedEntry → List ℕ → Type 0
AreToldBack m ls [] = Unit {0}
AreToldBack m ls (u ∷ us) = IsToldBack m ls u × AreToldBack m (with_change u ls) us

plain_back : (m : Store) (us : List ℕ) (l : MarkedEntry) (ls : List MarkedEntry) → IsPlain l
    → ((u : ℕ) → is_in u us ≡ true → is_undo u l.act ≡ false)
    → AreToldBack m ls us → AreToldBack m (l ∷ ls) us
plain_back m [] l ls p later chain = tt
plain_back m (u ∷ us) l ls p later chain =
    let b : Bool = is_step_on (altered_by_change u ls) l.act in
    let k : MarkedEntry = struck_if b lost l in
    let plain_k = lost_plain b l p in
    let same = front_restored u l ls (p.inert.other u) (later u (or_left (eqb u u) _ (eq-eqb u u refl))) in (
      record {
        told = subst (AreTold m) (sym same) (plain_front m k (with_change u ls) plain_k chain.0.told);
        same = λ y off. (λ i. read (replay m (same i)) (at_subchannel y))
            ∙ skipped m (at_subchannel y) k (with_change u ls) (plain_k.inert.writes (at_subchannel y))
            ∙ chain.0.same y (sym (ap (is_among y) (altered_past u l ls (p.inert.other u))) ∙ off)
            ∙ sym (skipped m (at_subchannel y) l ls (p.inert.writes (at_subchannel y)));
      },
      subst (λ ms. AreToldBack m ms us) (sym same)
          (plain_back m us k (with_change u ls) plain_k
          (λ w among. ap (is_undo w) (struck_acts b l) ∙ later w (or_right (eqb w u) _ among)) chain.1),
    )

step_back : (m : Store) (us : List ℕ) (x : SubId) (made : Step) (l : Option Live) (ls : List MarkedEntry) (ns : List ℕ)
    → l ≡ get (after_step x made (state_of (replay m ls))).lives x → AreUndone m ls ns us → AreToldBack m ls us
    → AreToldBack m (entry (step x made l) kept ∷ ls) us
step_back m [] x made l ls ns is undone chain = tt
step_back m (u ∷ us) x made l ls ns is undone chain =
    by (is_among x (altered_by_change u ls)) refl
    (λ here. step_back m us x made l (with_change u ls) (u ∷ ns) here undone.1 chain.1)
  where
    e : MarkedEntry
    e = entry (step x made l) kept

    gone : MarkedEntry
    gone = entry (step x made l) lost

    back : List MarkedEntry
    back = with_change u ls

    front : (b : Bool) → is_among x (altered_by_change u ls) ≡ b → with_change u (e ∷ ls) ≡ struck_if b lost e ∷ back
    front b is = front_restored u e ls refl refl ∙ ap (λ c. struck_if c lost e ∷ back) is

    by : (b : Bool) → is_among x (altered_by_change u ls) ≡ b
        → (l ≡ get (after_step x made (state_of (replay m back))).lives x → AreToldBack m (e ∷ back) us)
        → AreToldBack m (e ∷ ls) (u ∷ us)
    by true on more = (
      record {
        told = subst (AreTold m) (sym (front true on))
            (plain_front m gone back (lost_step_plain x made l) chain.0.told);
        same = λ y off. (λ i. read (replay m (front true on i)) (at_subchannel y))
            ∙ skipped m (at_subchannel y) gone back (none_written (at_subchannel y))
            ∙ chain.0.same y (sym (ap (is_among y) (altered_past u e ls refl)) ∙ off)
            ∙ sym (skipped m (at_subchannel y) e ls
            (off_steps (altered_by_change u ls) y (sym (ap (is_among y) (altered_past u e ls refl)) ∙ off) x made l
            on));
      },
      subst (λ ms. AreToldBack m ms us) (sym (front true on))
          (plain_back m us gone back (lost_step_plain x made l) (λ w among. refl) chain.1),
    )
    by false off more =
        let here : l ≡ get (after_step x made (state_of (replay m back))).lives x =
        is ∙ decided_alike x made (state_of (replay m ls)) (state_of (replay m back)) (sym (undone.0.seen x off))
        (live_read (replay m ls) (replay m back) x (sym (chain.0.same x off))) in (
          record {
            told = subst (AreTold m) (sym (front false off)) (step_told m x made l back chain.0.told here);
            same = λ y other. (λ i. read (replay m (front false off i)) (at_subchannel y))
                ∙ alike m (at_subchannel y) e e back ls refl
                (chain.0.same y (sym (ap (is_among y) (altered_past u e ls refl)) ∙ other));
          },
          subst (λ ms. AreToldBack m ms us) (sym (front false off)) (more here),
        )

-- ---- an undo of the latest change

none_after : (mark : Mark) (a : Act) (ds : List Numbered) → change_and mark a ds ≡ [] → ds ≡ []
none_after kept (step x made l) ds none = none
none_after kept (change n c) ds none = cc
none_after kept (undoing n) ds none = none
none_after kept nothing ds none = none
none_after (undone_with k) a ds none = none
none_after lost a ds none = none

-- what is seen after entries of which no change counts
sees_past : (m : Store) (x : SubId) (new ls : List MarkedEntry) → changes_in new ≡ []
    → seen_in (state_of (replay m (new ++ ls))) x ≡ seen_in (state_of (replay m ls)) x
sees_past m x new ls none =
    let records = records_read (replay m (new ++ ls)) (replay m ls)
    (λ key. passes_steps m (at_key key) (record_off key) new ls none) in
    let numbers = numbers_read (replay m (new ++ ls)) (replay m ls)
    (λ c. passes_steps m (at_number c) (device_off c) new ls none) in
    λ i. get (views_of (records i) (numbering_of (numbers i))) x

-- an entry that is struck
struck_front : (m : Store) (a : Act) (mark : Mark) (ls : List MarkedEntry)
    → ((q : Cell) → written (effect_of_entry (entry a mark)) q ≡ None) → ((s : State) → Decided mark a s)
    → AreTold m ls → AreTold m (entry a mark ∷ ls)
struck_front m a mark ls none decided told =
    let c = comes_to m ls told in (
      record {
        state = c.state;
        is = same_store (replay m (entry a mark ∷ ls)) (replay m ls) (λ q. skipped m q (entry a mark) ls (none q))
            ∙ c.is;
        sound = c.sound;
      },
      decided (state_of (replay m ls)),
      told,
    )

module _ (m : Store) (n : ℕ) (c : Change) (older : List MarkedEntry) where
  abbrev undone_entry : MarkedEntry
  undone_entry = entry (change n c) (undone_with n)

  abbrev xs : List SubId
  xs = altered c

  abbrev with_newer : List MarkedEntry → List MarkedEntry
  with_newer newer = newer ++ made n c ∷ older

  -- striking parts the newer entries from the change
  struck_parts : (newer : List MarkedEntry) → has (is_change n) newer ≡ false
      → strike xs n (with_newer newer) ≡ strike xs n newer ++ undone_entry ∷ older
  struck_parts newer others = strike_append xs n newer (made n c ∷ older)
      ∙ ap (λ b. strike xs n newer ++ cond b (made n c ∷ older) (strike xs n (made n c ∷ older))) others
      ∙ ap (λ ms. strike xs n newer ++ ms) (strike_here xs n c older)

  module _ (sees : (x : SubId) → is_among x xs ≡ false
      → seen_in (state_of (replay m (undone_entry ∷ older))) x ≡ seen_in (state_of (replay m (made n c ∷ older))) x)
    where
      sees_struck : (newer : List MarkedEntry) → has (is_change n) newer ≡ false → changes_in newer ≡ [] → (x : SubId)
          → is_among x xs ≡ false
          → seen_in (state_of (replay m (with_newer newer))) x
          ≡ seen_in (state_of (replay m (strike xs n (with_newer newer)))) x
      sees_struck newer others none x off =
          sees_past m x newer (made n c ∷ older) none ∙ sym (sees x off)
          ∙ sym (sees_past m x (strike xs n newer) (undone_entry ∷ older) (none_struck xs n newer none))
          ∙ (λ i. seen_in (state_of (replay m (sym (struck_parts newer others) i))) x)

      same_struck : (newer : List MarkedEntry) → has (is_change n) newer ≡ false → (x : SubId) → is_among x xs ≡ false
          → get (replay m (with_newer newer)).lives x ≡ get (replay m (strike xs n (with_newer newer))).lives x
      same_struck newer others x off =
          live_read (replay m (with_newer newer)) (replay m (strike xs n (with_newer newer))) x
          (sym (stays_without m n c (with_newer newer)
          (change_past n (made n c ∷ older) newer others ∙ change_here n c older) (at_subchannel x)
          (sym (altered_cells c x) ∙ off)))

      -- the entries that the undo leaves are told
      struck_told : (newer : List MarkedEntry) → has (is_change n) newer ≡ false → changes_in newer ≡ []
          → AreTold m (with_newer newer) → AreTold m (strike xs n (with_newer newer))
      unfolding strike
      struck_told [] others none told =
          subst (AreTold m) (sym (strike_here xs n c older))
          (struck_front m (change n c) (undone_with n) older (λ q. none_written q) (λ s. tt) told.2)
      struck_told (l ∷ newer) others none told =
          let both = or_parts (is_change n l.act) _ others in
          let none_newer = none_after l.mark l.act (changes_in newer) none in
          let rest = struck_told newer both.1 none_newer told.2 in
          subst (λ b. AreTold m (cond b (struck (undone_with n) l ∷ with_newer newer)
          (struck_if (is_step_on xs l.act) (undone_with n) l ∷ strike xs n (with_newer newer)))) (sym both.0)
          (by l.mark l.act none told.1 rest (sees_struck newer both.1 none_newer) (same_struck newer both.1))
        where
          step_by : (b : Bool) (x : SubId) (done : Step) (r : Option Live) → is_among x xs ≡ b
              → r ≡ get (after_step x done (state_of (replay m (with_newer newer)))).lives x
              → AreTold m (strike xs n (with_newer newer))
              → ((y : SubId) → is_among y xs ≡ false
              → seen_in (state_of (replay m (with_newer newer))) y
              ≡ seen_in (state_of (replay m (strike xs n (with_newer newer)))) y)
              → ((y : SubId) → is_among y xs ≡ false
              → get (replay m (with_newer newer)).lives y ≡ get (replay m (strike xs n (with_newer newer))).lives y)
              → AreTold m (struck_if b (undone_with n) (entry (step x done r) kept) ∷ (strike xs n (with_newer newer)))
          step_by true x done r on is told see same =
              struck_front m (step x done r) (undone_with n) (strike xs n (with_newer newer)) (λ q. none_written q)
              (λ s. tt) told
          step_by false x done r off is told see same =
              step_told m x done r (strike xs n (with_newer newer)) told
              (is ∙ decided_alike x done (state_of (replay m (with_newer newer)))
              (state_of (replay m (strike xs n (with_newer newer)))) (see x off) (same x off))

          struck_by : (b : Bool) (k : ℕ) (a : Act) → AreTold m (strike xs n (with_newer newer))
              → AreTold m (struck_if b (undone_with n) (entry a (undone_with k)) ∷ (strike xs n (with_newer newer)))
          struck_by true k a told =
              struck_front m a (undone_with k) (strike xs n (with_newer newer)) (λ q. none_written q) (λ s. tt) told
          struck_by false k a told =
              struck_front m a (undone_with k) (strike xs n (with_newer newer)) (λ q. none_written q) (λ s. tt) told

          lost_by : (b : Bool) (a : Act) → AreTold m (strike xs n (with_newer newer))
              → AreTold m (struck_if b (undone_with n) (entry a lost) ∷ (strike xs n (with_newer newer)))
          lost_by true a told = struck_front m a lost (strike xs n (with_newer newer)) (λ q. none_written q) (λ s. tt)
              told
          lost_by false a told = struck_front m a lost (strike xs n (with_newer newer)) (λ q. none_written q) (λ s. tt)
              told

          by : (mark : Mark) (a : Act) → change_and mark a (changes_in newer) ≡ []
              → Decided mark a (state_of (replay m (with_newer newer))) → AreTold m (strike xs n (with_newer newer))
              → ((y : SubId) → is_among y xs ≡ false
              → seen_in (state_of (replay m (with_newer newer))) y
              ≡ seen_in (state_of (replay m (strike xs n (with_newer newer)))) y)
              → ((y : SubId) → is_among y xs ≡ false
              → get (replay m (with_newer newer)).lives y ≡ get (replay m (strike xs n (with_newer newer))).lives y)
              → AreTold m (struck_if (is_step_on xs a) (undone_with n) (entry a mark) ∷ (strike xs n (with_newer newer)))
          by kept (step x done r) none is told see same = step_by (is_among x xs) x done r refl is told see same
          by kept (change k d) none is told see same = cc
          by kept (undoing k) none is told see same =
              plain_front m (entry (undoing k) kept) (strike xs n (with_newer newer)) (undoing_plain k) told
          by kept nothing none is told see same =
              plain_front m (entry nothing kept) (strike xs n (with_newer newer)) nothing_plain told
          by (undone_with k) a none is told see same = struck_by (is_step_on xs a) k a told
          by lost a none is told see same = lost_by (is_step_on xs a) a told

-- ---- along a history

-- the entries are told, and so are those with what is undone
record IsTold (m : Store) (b : Journal) (a : Account) : Type 0 where
  told : AreTold m a.entries
  back : AreToldBack m a.entries b.undone

module _ (m : Store) (b : Journal) (a : Account) (i : IsSettled m b a) (t : IsTold m b a) where
  abbrev now : State
  now = state_now m a

  module _ (n : ℕ) (here : is_in n b.standing ≡ true) (none : stands_on n a.entries now ≡ None)
      (latest : greatest b.standing ≡ Some n) where
    abbrev stood : IsStanding m n a.entries
    stood = i.level.standing n here

    abbrev c : Change
    c = stood.change

    taken : IsTakenBack c i.level.state
    taken = back m b a i n here none

    left : List MarkedEntry
    left = strike (altered c) n a.entries

    parts_told : AreTold m (stood.newer ++ made n c ∷ stood.older)
    parts_told = subst (AreTold m) stood.parts t.told

    no_later : changes_in stood.newer ≡ []
    no_later = no_newer m a.entries b.standing i.level n here latest

    -- off its subchannels the same is seen before the change and after it
    sees : (x : SubId) → is_among x (altered c) ≡ false
        → seen_in (state_of (replay m (entry (change n c) (undone_with n) ∷ stood.older))) x
        ≡ seen_in (state_of (replay m (made n c ∷ stood.older))) x
    sees x off =
        sym (sees_past m x (strike (altered c) n stood.newer) (entry (change n c) (undone_with n) ∷ stood.older)
        (none_struck (altered c) n stood.newer no_later))
        ∙ (λ j. seen_in (state_of (replay m (sym (struck_parts m n c stood.older stood.newer stood.others) j))) x)
        ∙ (λ j. seen_in (state_of (replay m (strike (altered c) n (sym stood.parts j)))) x)
        ∙ (λ j. seen_in (state_of
        (sym (inert_replay m (entry (undoing n) kept) (strike (altered c) n a.entries) (undoing_inert n)) j)) x)
        ∙ (λ j. seen_in (state_of
        (undone_is m a.entries b.standing i.level n here (free m b a i n here none).apart taken j)) x)
        ∙ (λ j. seen_in (state_of_store taken.state taken.used.sound j) x) ∙ taken.seen x off
        ∙ (λ j. seen_in (sym (level_state m a.entries b.standing i.level) j) x)
        ∙ (λ j. seen_in (state_of (replay m (stood.parts j))) x)
        ∙ sees_past m x stood.newer (made n c ∷ stood.older) no_later

    undo_told : AreTold m (entry (undoing n) kept ∷ strike (altered c) n a.entries)
    undo_told = plain_front m (entry (undoing n) kept) (strike (altered c) n a.entries) (undoing_plain n)
        (subst (λ ms. AreTold m (strike (altered c) n ms)) (sym stood.parts)
        (struck_told m n c stood.older sees stood.newer stood.others no_later parts_told))

    undo_back : AreToldBack m (after_undo m a.entries b.standing i.level n here) (n ∷ b.undone)
    undo_back =
        let same = redone_is m a.entries b.standing i.level n here in
        let subchannels = altered_after m a.entries b.standing i.level n here in (
          record {
            told = subst (AreTold m) (sym same)
                (plain_front m (entry (undoing n) kept) a.entries (undoing_plain n) t.told);
            same = λ y off. (λ j. read (replay m (same j)) (at_subchannel y))
                ∙ skipped m (at_subchannel y) (entry (undoing n) kept) a.entries (none_written (at_subchannel y))
                ∙ sym (stays_without m n c a.entries (standing_change m n a.entries stood) (at_subchannel y)
                (sym (altered_cells c y) ∙ sym (ap (is_among y) subchannels) ∙ off))
                ∙ sym (skipped m (at_subchannel y) (entry (undoing n) kept) (strike (altered c) n a.entries)
                (none_written (at_subchannel y)));
          },
          subst (λ ms. AreToldBack m ms b.undone) (sym same)
              (plain_back m b.undone (entry (undoing n) kept) a.entries (undoing_plain n)
              (λ u among. ne_eqb u n (λ e. let here_too : is_in n b.undone ≡ true = ap (λ j. is_in j b.undone) (sym e)
              ∙ among in
              let gone = not_undone m n b.undone a.entries b.standing here i.chain in let no : true ≡ false =
              sym here_too ∙ gone in cc)) t.back),
        )

  -- what an event leaves
  told_as : (b2 : Journal) (a2 : Account) (c : Journal) (d : Account) → AreTold m d.entries
      → AreToldBack m d.entries c.undone → a2 ≡ d → b2 ≡ c → IsTold m b2 a2
  told_as b2 a2 c d told again account_is journal_is =
      subst (λ z. IsTold m z a2) (sym journal_is)
      (subst (IsTold m c) (sym account_is) (record { told = told; back = again }))

  next_told : (e : Entry) → IsEvent m b a e → ((n : ℕ) → e.answer ≡ Undone n → greatest b.standing ≡ Some n)
      → IsSettled m (journal_after e.answer b) (account_after e.call e.answer now a)
      → IsTold m (journal_after e.answer b) (account_after e.call e.answer now a)
  next_told e (idles g staged account_is journal_is) latest after =
      told_as _ _ b (record { entries = entry nothing kept ∷ a.entries; stage = g })
      (plain_front m (entry nothing kept) a.entries nothing_plain t.told)
      (plain_back m b.undone (entry nothing kept) a.entries nothing_plain (λ u among. refl) t.back) account_is
      journal_is
  next_told e (steps x done off account_is journal_is) latest after =
      told_as _ _ b (record {
        entries = entry (step x done (get (after_step x done now).lives x)) kept ∷ a.entries;
        stage = a.stage;
      })
      (step_told m x done (get (after_step x done now).lives x) a.entries t.told refl)
      (step_back m b.undone x done (get (after_step x done now).lives x) a.entries b.standing refl i.chain t.back)
      account_is journal_is
  next_told e (changes c g ready idle account_is journal_is) latest after =
      let entries_are : (account_after e.call e.answer now a).entries ≡ made (b.count + 1) c ∷ a.entries =
      ap (λ (d : Account). d.entries) account_is in
      told_as _ _ (record { count = b.count + 1; standing = (b.count + 1) ∷ b.standing; undone = [] })
      (record { entries = made (b.count + 1) c ∷ a.entries; stage = g }) (
        record {
          state = after.level.state;
          is = ap (replay m) (sym entries_are) ∙ after.level.is;
          sound = after.level.used.sound;
        },
        tt,
        t.told,
      ) tt account_is journal_is
  next_told e (undoes n here none idle answer account_is journal_is) latest after =
      told_as _ _ (record { count = b.count; standing = without n b.standing; undone = n ∷ b.undone })
      (record { entries = entry (undoing n) kept ∷ without_change n a.entries; stage = a.stage })
      (subst (λ ms. AreTold m (entry (undoing n) kept ∷ ms)) (sym (struck_is m b a i n here none))
      (undo_told n here none (latest n answer)))
      (subst (λ ms. AreToldBack m (entry (undoing n) kept ∷ ms) (n ∷ b.undone)) (sym (struck_is m b a i n here none))
      (undo_back n here none (latest n answer))) account_is journal_is
  next_told e (redoes u us undone idle answer account_is journal_is) latest after =
      let chain = subst (AreToldBack m a.entries) undone t.back in
      let level = subst (AreUndone m a.entries b.standing) undone i.chain in
      let rest : without u b.undone ≡ us = ap (without u) undone ∙ without_first u us
      (not_undone m u us (with_change u a.entries) (u ∷ b.standing) (or_left (eqb u u) _ (eq-eqb u u refl)) level.1) in
      told_as _ _ (record { count = b.count; standing = u ∷ b.standing; undone = without u b.undone })
      (record { entries = entry nothing kept ∷ with_change u a.entries; stage = a.stage })
      (plain_front m (entry nothing kept) (with_change u a.entries) nothing_plain chain.0.told)
      (subst (AreToldBack m (entry nothing kept ∷ with_change u a.entries)) (sym rest)
      (plain_back m us (entry nothing kept) (with_change u a.entries) nothing_plain (λ v among. refl) chain.1))
      account_is journal_is

-- a legal history in which each undo is of the latest standing change is told
history_told : (opening : State) (h : History) → IsInUse opening → IsLegal opening h → UndoesTheLatest h
    → IsTold (store_of opening) (journal_of h) (account opening h)
unfolding account
history_told opening [] used legal latest =
    record { told = record { state = opening; is = refl; sound = used.sound }; back = tt }
history_told opening (e ∷ h) used legal latest =
    let m = store_of opening in let b = journal_of h in let a = account opening h in
    let i = settled opening h used legal.1 in
    let event = is_event m b a i e legal.0 in
    next_told m b a i (history_told opening h used legal.1 latest.1) e event latest.0 (settled_by m b a i e event)

pub steps_may_be_decided_anew : StepsMayBeDecidedAnew
steps_may_be_decided_anew opening h used legal latest =
    told_anew opening used.sound (marked_entries opening h) (history_told opening h used legal latest).told
