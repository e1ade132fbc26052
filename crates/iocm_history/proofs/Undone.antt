-- The changes that are undone: each, with those undone after it counting again, comes back by its
-- redo as it was.
use Rattle.std.proofs.Common.{◌≡◌, ◌≢◌, ℕ, Bool, true, false, cond, ◌||◌, eqb, List, [], ◌∷◌, Option, None, is_some}
use Rattle.std.proofs.Common.{refl, sym, ap, subst, ◌∙◌}
use Rattle.std.proofs.lemmas.Bool.{eq-eqb, ne_eqb}
use Rattle.std.specs.Option.{option_map}
use Rattle.std.specs.FinMap.{get, get-empty}
use Rattle.iocm_types.specs.declared.live.Live.{Live}
use Rattle.iocm_types.specs.declared.sub_id.SubId.{SubId}
use Rattle.iocm_types.specs.Key.{key_cmp}
use Rattle.iocm_types.specs.Place.{cell_cmp}
use Rattle.iocm_model.specs.Machine.Numbering.{numbering_of}
use Rattle.iocm_model.specs.Operation.State.{views_of, seen_in, is_among}
use Rattle.iocm_model.specs.Operation.Step.{Step}
use Rattle.iocm_history.specs.Store.{Store, state_of}
use Rattle.iocm_history.specs.Change.{Change, effect_of_change, altered}
use Rattle.iocm_history.specs.MarkedEntry.{step, undoing, Mark, kept, undone_with, lost, MarkedEntry, effect_of_entry}
use Rattle.iocm_history.specs.MarkedEntry.{is_change, is_undo, is_step_on, change_at, altered_if, altered_by_change}
use Rattle.iocm_history.specs.MarkedEntry.{struck_mark, struck_if, strike, taken_back, restore, with_change}
use Rattle.iocm_history.specs.Account.{replay}
use Rattle.iocm_history.specs.StandsOn.{since, changes_in}
use Rattle.iocm_history.specs.Journal.{is_in, without}
use Rattle.iocm_history.proofs.OneCell.{Cell, at_key, at_number, of_record, of_device, written, none_written}
use Rattle.iocm_history.proofs.OneCell.{records_read, numbers_read, same_store, state_of_store}
use Rattle.iocm_history.proofs.Marks.{taken_back_strike}
use Rattle.iocm_history.proofs.Remarked.{change_strike}
use Rattle.iocm_history.proofs.Striking.{entry, skipped}
use Rattle.iocm_history.proofs.Apart.{AreApart}
use Rattle.iocm_history.proofs.Passing.{or_past}
use Rattle.iocm_history.proofs.Numbers.{not_in_without, in_front_again}
use Rattle.iocm_history.proofs.Standing.{IsStanding, standing_change}
use Rattle.iocm_history.proofs.Fitted.{IsTakenBack}
use Rattle.iocm_history.proofs.Level.{IsLevel, level_state, level_like, IsInert, inert_front, step_front, after_undo}
use Rattle.iocm_history.proofs.Level.{undone_is}

-- a change comes back: with it the entries are such of which it stands too, and off the subchannels
-- that it altered the same is seen
pub record ComesBack (m : Store) (ls : List MarkedEntry) (ns : List ℕ) (u : ℕ) : Type 0 where
  pub new : is_in u ns ≡ false
  pub level : IsLevel m (with_change u ls) (u ∷ ns)
  pub seen : (x : SubId) → is_among x (altered_by_change u ls) ≡ false
      → seen_in (state_of (replay m (with_change u ls))) x ≡ seen_in (state_of (replay m ls)) x

-- these changes are undone, the last one undone first
abbrev pub AreUndone : Store → List MarkedEntry → List ℕ → List ℕ → Type 0
AreUndone m ls ns [] = Unit {0}
AreUndone m ls ns (u ∷ us) = ComesBack m ls ns u × AreUndone m (with_change u ls) (u ∷ ns) us

-- those that stand may be named in any order
pub undone_like : (m : Store) (ls : List MarkedEntry) (ns os us : List ℕ) → ((k : ℕ) → is_in k ns ≡ is_in k os)
    → AreUndone m ls ns us → AreUndone m ls os us
undone_like m ls ns os [] same chain = tt
undone_like m ls ns os (u ∷ us) same chain =
    let more = λ (k : ℕ). ap (λ b. eqb k u || b) (same k) in (
      record {
        new = sym (same u) ∙ chain.0.new;
        level = level_like m (with_change u ls) (u ∷ ns) (u ∷ os) more chain.0.level;
        seen = chain.0.seen;
      },
      undone_like m (with_change u ls) (u ∷ ns) (u ∷ os) us more chain.1,
    )

-- ---- an entry more

module _ (u : ℕ) (l : MarkedEntry) (ls : List MarkedEntry) (other : is_change u l.act ≡ false) where
  -- the subchannels of a change stay
  pub altered_past : altered_by_change u (l ∷ ls) ≡ altered_by_change u ls
  altered_past = ap altered_if (or_past u ls l.act (change_at u ls) other)

  -- a redo passes an entry in front that isn't its undo: it strikes it where it is a step on its
  -- subchannels
  pub front_restored : is_undo u l.act ≡ false
      → with_change u (l ∷ ls) ≡ struck_if (is_step_on (altered_by_change u ls) l.act) lost l ∷ with_change u ls
  unfolding restore
  front_restored later =
      ap (λ xs. restore xs u (l ∷ ls)) altered_past
      ∙ ap (λ b. cond b (l ∷ taken_back u ls)
      (struck_if (is_step_on (altered_by_change u ls) l.act) lost l ∷ restore (altered_by_change u ls) u ls)) later

pub lost_inert : (b : Bool) (l : MarkedEntry) → IsInert l → IsInert (struck_if b lost l)
lost_inert false l i = i
lost_inert true l i = record
    { other = i.other; writes = λ q. by q l.mark (i.writes q); fresh = λ k. fresh l.mark (i.fresh k) }
  where
    by : (q : Cell) (mark : Mark) → written (effect_of_entry (entry l.act mark)) q ≡ None
        → written (effect_of_entry (entry l.act (struck_mark lost mark))) q ≡ None
    by q kept none = none_written q
    by q (undone_with k) none = none
    by q lost none = none

    fresh : {k : ℕ} (mark : Mark) → mark ≢ undone_with k → struck_mark lost mark ≢ undone_with k
    fresh kept other e = cc
    fresh (undone_with j) other e = other e
    fresh lost other e = other e

pub struck_acts : (b : Bool) (l : MarkedEntry) → (struck_if b lost l).act ≡ l.act
struck_acts true l = refl
struck_acts false l = refl

-- an entry that writes nothing
pub inert_replay : (m : Store) (l : MarkedEntry) (ls : List MarkedEntry) → IsInert l → replay m (l ∷ ls) ≡ replay m ls
inert_replay m l ls i = same_store _ _ (λ q. skipped m q l ls (i.writes q))

pub inert_chain : (m : Store) (us : List ℕ) (l : MarkedEntry) (ls : List MarkedEntry) (ns : List ℕ) → IsInert l
    → ((u : ℕ) → is_in u ns ≡ false → is_undo u l.act ≡ false) → AreUndone m ls ns us → AreUndone m (l ∷ ls) ns us
inert_chain m [] l ls ns i later chain = tt
inert_chain m (u ∷ us) l ls ns i later chain =
    let b : Bool = is_step_on (altered_by_change u ls) l.act in
    let k : MarkedEntry = struck_if b lost l in
    let inert_k = lost_inert b l i in
    let same = front_restored u l ls (i.other u) (later u chain.0.new) in
    let later_k = λ (w : ℕ). λ (none : is_in w (u ∷ ns) ≡ false). ap (is_undo w) (struck_acts b l)
    ∙ later w (rest_of w u ns none) in (
      record {
        new = chain.0.new;
        level = subst (λ ms. IsLevel m ms (u ∷ ns)) (sym same)
            (inert_front m (with_change u ls) (u ∷ ns) k inert_k chain.0.level);
        seen = λ x off. (λ j. seen_in (state_of (replay m (same j))) x)
            ∙ (λ j. seen_in (state_of (inert_replay m k (with_change u ls) inert_k j)) x)
            ∙ chain.0.seen x (sym (ap (is_among x) (altered_past u l ls (i.other u))) ∙ off)
            ∙ (λ j. seen_in (state_of (sym (inert_replay m l ls i) j)) x);
      },
      subst (λ ms. AreUndone m ms (u ∷ ns) us) (sym same)
          (inert_chain m us k (with_change u ls) (u ∷ ns) inert_k later_k chain.1),
    )
  where
    rest_of : (w u : ℕ) (ns : List ℕ) → is_in w (u ∷ ns) ≡ false → is_in w ns ≡ false
    rest_of w u ns none = by (eqb w u) none
      where
        by : (b : Bool) → (b || is_in w ns) ≡ false → is_in w ns ≡ false
        by true none = cc
        by false none = none

-- ---- a step more

-- a step leaves what is seen
pub step_sees : (m : Store) (x : SubId) (done : Step) (live : Option Live) (ls : List MarkedEntry) (y : SubId)
    → seen_in (state_of (replay m (entry (step x done live) kept ∷ ls))) y ≡ seen_in (state_of (replay m ls)) y
step_sees m x done live ls y =
    let l : MarkedEntry = entry (step x done live) kept in
    let records = records_read (replay m (l ∷ ls)) (replay m ls)
    (λ key. skipped m (at_key key) l ls (ap (option_map of_record) (get-empty key_cmp key))) in
    let numbers = numbers_read (replay m (l ∷ ls)) (replay m ls)
    (λ c. skipped m (at_number c) l ls (ap (option_map of_device) (get-empty cell_cmp c))) in
    λ i. get (views_of (records i) (numbering_of (numbers i))) y

lost_step : (x : SubId) (done : Step) (live : Option Live) → IsInert (entry (step x done live) lost)
lost_step x done live = record { other = λ j. refl; writes = λ q. none_written q; fresh = λ k e. cc }

pub step_chain : (m : Store) (us : List ℕ) (x : SubId) (done : Step) (live : Option Live) (ls : List MarkedEntry)
    (ns : List ℕ)
    → is_some live ≡ is_some (seen_in (state_of (replay m ls)) x) → AreUndone m ls ns us
    → AreUndone m (entry (step x done live) kept ∷ ls) ns us
step_chain m [] x done live ls ns right chain = tt
step_chain m (u ∷ us) x done live ls ns right chain =
    by (is_among x (altered_by_change u ls)) refl
    (λ off. step_chain m us x done live (with_change u ls) (u ∷ ns) (right ∙ ap is_some (sym (chain.0.seen x off)))
    chain.1)
  where
    l : MarkedEntry
    l = entry (step x done live) kept

    by : (b : Bool) → is_among x (altered_by_change u ls) ≡ b
        → (is_among x (altered_by_change u ls) ≡ false → AreUndone m (l ∷ with_change u ls) (u ∷ ns) us)
        → AreUndone m (l ∷ ls) ns (u ∷ us)
    by true on more =
        let gone : MarkedEntry = entry (step x done live) lost in
        let same : with_change u (l ∷ ls) ≡ gone ∷ with_change u ls =
        front_restored u l ls refl refl ∙ ap (λ b. struck_if b lost l ∷ with_change u ls) on in
        let inert_l = lost_step x done live in (
          record {
            new = chain.0.new;
            level = subst (λ ms. IsLevel m ms (u ∷ ns)) (sym same)
                (inert_front m (with_change u ls) (u ∷ ns) gone inert_l chain.0.level);
            seen = λ y off. (λ j. seen_in (state_of (replay m (same j))) y)
                ∙ (λ j. seen_in (state_of (inert_replay m gone (with_change u ls) inert_l j)) y)
                ∙ chain.0.seen y (sym (ap (is_among y) (altered_past u l ls refl)) ∙ off)
                ∙ sym (step_sees m x done live ls y);
          },
          subst (λ ms. AreUndone m ms (u ∷ ns) us) (sym same)
              (inert_chain m us gone (with_change u ls) (u ∷ ns) inert_l (λ w none. refl) chain.1),
        )
    by false off more =
        let same : with_change u (l ∷ ls) ≡ l ∷ with_change u ls =
        front_restored u l ls refl refl ∙ ap (λ b. struck_if b lost l ∷ with_change u ls) off in
        let level = chain.0.level in
        let right_there : is_some live ≡ is_some (seen_in level.state x) =
        right ∙ ap is_some (sym (chain.0.seen x off))
        ∙ (λ j. is_some (seen_in (level_state m (with_change u ls) (u ∷ ns) level j) x)) in (
          record {
            new = chain.0.new;
            level = subst (λ ms. IsLevel m ms (u ∷ ns)) (sym same)
                (step_front m (with_change u ls) (u ∷ ns) x done live level right_there);
            seen = λ y off. (λ j. seen_in (state_of (replay m (same j))) y)
                ∙ step_sees m x done live (with_change u ls) y
                ∙ chain.0.seen y (sym (ap (is_among y) (altered_past u l ls refl)) ∙ off)
                ∙ sym (step_sees m x done live ls y);
          },
          subst (λ ms. AreUndone m ms (u ∷ ns) us) (sym same) (more off),
        )

-- ---- an undo more

pub undoing_inert : (n : ℕ) → IsInert (entry (undoing n) kept)
undoing_inert n = record { other = λ j. refl; writes = λ q. none_written q; fresh = λ k e. cc }

module _ (m : Store) (ls : List MarkedEntry) (ns : List ℕ) (v : IsLevel m ls ns) (n : ℕ)
    (here : is_in n ns ≡ true) where
  abbrev stood : IsStanding m n ls
  stood = v.standing n here

  abbrev c : Change
  c = stood.change

  abbrev after : List MarkedEntry
  after = after_undo m ls ns v n here

  -- the subchannels that the change altered are there as before
  pub altered_after : altered_by_change n after ≡ altered c
  altered_after = ap altered_if (change_strike (altered c) n n ls ∙ standing_change m n ls stood)

  -- its redo would bring all back
  pub redone_is : with_change n after ≡ entry (undoing n) kept ∷ ls
  unfolding restore
  redone_is =
      let itself : eqb n n ≡ true = eq-eqb n n refl in
      ap (λ b. cond b (entry (undoing n) kept ∷ taken_back n (strike (altered c) n ls))
      (entry (undoing n) kept ∷ restore (altered_by_change n after) n (strike (altered c) n ls))) itself
      ∙ ap (λ ms. entry (undoing n) kept ∷ ms) (taken_back_strike (altered c) n ls stood.unmarked)

  not_later : (u : ℕ) → is_in u ns ≡ false → eqb u n ≡ false
  not_later u none = ne_eqb u n
      (λ same. let there : is_in u ns ≡ true = ap (λ j. is_in j ns) same ∙ here in let no : true ≡ false = sym there
      ∙ none in cc)

  module _ (apart : AreApart (effect_of_change c) (changes_in (since n ls))) (back : IsTakenBack c v.state) where
    back_is : state_of (replay m after) ≡ back.state
    back_is = ap state_of (undone_is m ls ns v n here apart back) ∙ state_of_store back.state back.used.sound

    came_back : ComesBack m after (without n ns) n
    came_back = record {
      new = not_in_without n ns;
      level = subst (λ ms. IsLevel m ms (n ∷ without n ns)) (sym redone_is)
          (level_like m (entry (undoing n) kept ∷ ls) ns (n ∷ without n ns) (λ k. sym (in_front_again n k ns here))
          (inert_front m ls ns (entry (undoing n) kept) (undoing_inert n) v));
      seen = λ x off. (λ j. seen_in (state_of (replay m (redone_is j))) x)
          ∙ (λ j. seen_in (state_of (inert_replay m (entry (undoing n) kept) ls (undoing_inert n) j)) x)
          ∙ (λ j. seen_in (level_state m ls ns v j) x) ∙ sym (back.seen x (sym (ap (is_among x) altered_after) ∙ off))
          ∙ (λ j. seen_in (sym back_is j) x);
    }

    pub undo_chain : (us : List ℕ) → AreUndone m ls ns us → AreUndone m after (without n ns) (n ∷ us)
    undo_chain us chain = (
      came_back,
      subst (λ ms. AreUndone m ms (n ∷ without n ns) us) (sym redone_is)
          (undone_like m (entry (undoing n) kept ∷ ls) ns (n ∷ without n ns) us (λ k. sym (in_front_again n k ns here))
          (inert_chain m us (entry (undoing n) kept) ls ns (undoing_inert n) not_later chain)),
    )
