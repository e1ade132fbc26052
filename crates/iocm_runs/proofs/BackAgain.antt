-- Entries once changes are redone in turn: where a step in front is struck by that, and what is
-- seen and has live records elsewhere.
use Rattle.std.proofs.Common.{◌≡◌, ℕ, Bool, true, false, ◌&&◌, not, eqb, List, [], ◌∷◌, ◌++◌, Option, refl, sym, ap}
use Rattle.std.proofs.Common.{subst, ◌∙◌}
use Rattle.std.proofs.lemmas.Bool.{and_parts, not-true, or_left, or_right, eq-eqb}
use Rattle.iocm_types.specs.declared.live.Live.{Live}
use Rattle.iocm_types.specs.declared.sub_id.SubId.{SubId}
use Rattle.iocm_model.specs.Operation.State.{seen_in, is_among}
use Rattle.iocm_model.specs.Operation.Step.{Step}
use Rattle.iocm_history.specs.Store.{Store, state_of}
use Rattle.iocm_history.specs.MarkedEntry.{step, Mark, kept, lost, MarkedEntry, is_undo, is_step_on, struck_if}
use Rattle.iocm_history.specs.MarkedEntry.{with_change, altered_by_change}
use Rattle.iocm_history.specs.Account.{replay}
use Rattle.iocm_history.specs.Journal.{is_in}
use Rattle.iocm_history.proofs.OneCell.{at_subchannel, read, none_written}
use Rattle.iocm_history.proofs.Striking.{entry, skipped, alike, off_steps}
use Rattle.iocm_history.proofs.Level.{IsInert}
use Rattle.iocm_history.proofs.Undone.{AreUndone, altered_past, front_restored, lost_inert, struck_acts}

-- entries once these changes are redone in turn
abbrev pub redone_all : List ℕ → List MarkedEntry → List MarkedEntry
redone_all [] ls = ls
redone_all (u ∷ us) ls = redone_all us (with_change u ls)

-- a subchannel is off all that each of them altered
abbrev pub is_off_all : SubId → List ℕ → List MarkedEntry → Bool
is_off_all x [] ls = true
is_off_all x (u ∷ us) ls = not (is_among x (altered_by_change u ls)) && is_off_all x us (with_change u ls)

-- off what each altered its redo leaves the live records
abbrev pub AreSame : Store → List ℕ → List MarkedEntry → Type 0
AreSame m [] ls = Unit {0}
AreSame m (u ∷ us) ls =
    ((y : SubId) → is_among y (altered_by_change u ls) ≡ false
    → read (replay m (with_change u ls)) (at_subchannel y) ≡ read (replay m ls) (at_subchannel y))
    × AreSame m us (with_change u ls)

rest_of : (l : MarkedEntry) (u : ℕ) (us : List ℕ) → ((w : ℕ) → is_in w (u ∷ us) ≡ true → is_undo w l.act ≡ false)
    → (b : Bool)
    → (w : ℕ) → is_in w us ≡ true → is_undo w (struck_if b lost l).act ≡ false
rest_of l u us later b w among = ap (is_undo w) (struck_acts b l) ∙ later w (or_right (eqb w u) _ among)

itself : (l : MarkedEntry) (u : ℕ) (us : List ℕ) → ((w : ℕ) → is_in w (u ∷ us) ≡ true → is_undo w l.act ≡ false)
    → is_undo u l.act ≡ false
itself l u us later = later u (or_left (eqb u u) _ (eq-eqb u u refl))

-- ---- an entry in front that writes nothing

pub inert_same : (m : Store) (us : List ℕ) (l : MarkedEntry) (ls : List MarkedEntry) → IsInert l
    → ((u : ℕ) → is_in u us ≡ true → is_undo u l.act ≡ false)
    → AreSame m us ls → AreSame m us (l ∷ ls)
inert_same m [] l ls i later same = tt
inert_same m (u ∷ us) l ls i later same =
    let b : Bool = is_step_on (altered_by_change u ls) l.act in
    let k : MarkedEntry = struck_if b lost l in
    let inert_k = lost_inert b l i in
    let front = front_restored u l ls (i.other u) (itself l u us later) in (
      λ y off. (λ j. read (replay m (front j)) (at_subchannel y))
          ∙ skipped m (at_subchannel y) k (with_change u ls) (inert_k.writes (at_subchannel y))
          ∙ same.0 y (sym (ap (is_among y) (altered_past u l ls (i.other u))) ∙ off)
          ∙ sym (skipped m (at_subchannel y) l ls (i.writes (at_subchannel y))),
      subst (AreSame m us) (sym front) (inert_same m us k (with_change u ls) inert_k (rest_of l u us later b) same.1),
    )

-- an entry that isn't a step stays as it is
pub plain_front : (us : List ℕ) (l : MarkedEntry) (ls : List MarkedEntry) → IsInert l
    → ((xs : List SubId) → is_step_on xs l.act ≡ false)
    → ((u : ℕ) → is_in u us ≡ true → is_undo u l.act ≡ false) → redone_all us (l ∷ ls) ≡ l ∷ redone_all us ls
plain_front [] l ls i off later = refl
plain_front (u ∷ us) l ls i off later =
    ap (redone_all us) (front_restored u l ls (i.other u) (itself l u us later)
    ∙ ap (λ b. struck_if b lost l ∷ with_change u ls) (off (altered_by_change u ls)))
    ∙ plain_front us l (with_change u ls) i off (λ w among. later w (or_right (eqb w u) _ among))

-- ---- a step in front

pub lost_step : (x : SubId) (made : Step) (live : Option Live) → IsInert (entry (step x made live) lost)
lost_step x made live = record { other = λ j. refl; writes = λ q. none_written q; fresh = λ k e. cc }

abbrev pub mark_by : Bool → Mark
mark_by true = kept
mark_by false = lost

lost_front : (us : List ℕ) (x : SubId) (made : Step) (live : Option Live) (ls : List MarkedEntry)
    → redone_all us (entry (step x made live) lost ∷ ls) ≡ entry (step x made live) lost ∷ redone_all us ls
lost_front [] x made live ls = refl
lost_front (u ∷ us) x made live ls =
    ap (redone_all us) (front_restored u (entry (step x made live) lost) ls refl refl
    ∙ by (is_among x (altered_by_change u ls)))
    ∙ lost_front us x made live (with_change u ls)
  where
    by : (b : Bool) → struck_if b lost (entry (step x made live) lost) ∷ with_change u ls
        ≡ entry (step x made live) lost ∷ with_change u ls
    by true = refl
    by false = refl

-- it is struck where one of them altered its subchannel
pub step_in_front : (us : List ℕ) (x : SubId) (made : Step) (live : Option Live) (ls : List MarkedEntry)
    → redone_all us (entry (step x made live) kept ∷ ls)
    ≡ entry (step x made live) (mark_by (is_off_all x us ls)) ∷ redone_all us ls
step_in_front [] x made live ls = refl
step_in_front (u ∷ us) x made live ls =
    ap (redone_all us) (front_restored u (entry (step x made live) kept) ls refl refl)
    ∙ by (is_among x (altered_by_change u ls)) (step_in_front us x made live (with_change u ls))
  where
    by : (b : Bool) → redone_all us (entry (step x made live) kept ∷ with_change u ls)
        ≡ entry (step x made live) (mark_by (is_off_all x us (with_change u ls))) ∷ redone_all us (with_change u ls)
        → redone_all us (struck_if b lost (entry (step x made live) kept) ∷ with_change u ls)
        ≡ entry (step x made live) (mark_by (not b && is_off_all x us (with_change u ls)))
        ∷ redone_all us (with_change u ls)
    by true more = lost_front us x made live (with_change u ls)
    by false more = more

pub step_same : (m : Store) (us : List ℕ) (x : SubId) (made : Step) (live : Option Live) (ls : List MarkedEntry)
    → AreSame m us ls → AreSame m us (entry (step x made live) kept ∷ ls)
step_same m [] x made live ls same = tt
step_same m (u ∷ us) x made live ls same =
    by (is_among x (altered_by_change u ls)) refl (step_same m us x made live (with_change u ls) same.1)
  where
    l : MarkedEntry
    l = entry (step x made live) kept

    front : (b : Bool) → is_among x (altered_by_change u ls) ≡ b
        → with_change u (l ∷ ls) ≡ struck_if b lost l ∷ with_change u ls
    front b is = front_restored u l ls refl refl ∙ ap (λ c. struck_if c lost l ∷ with_change u ls) is

    by : (b : Bool) → is_among x (altered_by_change u ls) ≡ b → AreSame m us (l ∷ with_change u ls)
        → AreSame m (u ∷ us) (l ∷ ls)
    by true on more = (
      λ y off. let off_it : is_among y (altered_by_change u ls)
          ≡ false = sym (ap (is_among y) (altered_past u l ls refl)) ∙ off in
          (λ j. read (replay m (front true on j)) (at_subchannel y))
          ∙ skipped m (at_subchannel y) (entry (step x made live) lost) (with_change u ls)
          (none_written (at_subchannel y))
          ∙ same.0 y off_it ∙ sym (skipped m (at_subchannel y) l ls
          (off_steps (altered_by_change u ls) y off_it x made live on)),
      subst (AreSame m us) (sym (front true on))
          (inert_same m us (entry (step x made live) lost) (with_change u ls) (lost_step x made live) (λ w among. refl)
          same.1),
    )
    by false off_x more = (
      λ y off. let off_it : is_among y (altered_by_change u ls)
          ≡ false = sym (ap (is_among y) (altered_past u l ls refl)) ∙ off in
          (λ j. read (replay m (front false off_x j)) (at_subchannel y))
          ∙ alike m (at_subchannel y) l l (with_change u ls) ls refl (same.0 y off_it),
      subst (AreSame m us) (sym (front false off_x)) more,
    )

-- ---- off all that they altered

-- the same is seen, and the live record is the same
pub record IsAsBefore (m : Store) (us : List ℕ) (ls : List MarkedEntry) (x : SubId) : Type 0 where
  pub seen : seen_in (state_of (replay m (redone_all us ls))) x ≡ seen_in (state_of (replay m ls)) x
  pub live : read (replay m (redone_all us ls)) (at_subchannel x) ≡ read (replay m ls) (at_subchannel x)

pub as_before : (m : Store) (us rest ns : List ℕ) (ls : List MarkedEntry) (x : SubId) → AreUndone m ls ns (us ++ rest)
    → AreSame m us ls
    → is_off_all x us ls ≡ true → IsAsBefore m us ls x
as_before m [] rest ns ls x chain same off = record { seen = refl; live = refl }
as_before m (u ∷ us) rest ns ls x chain same off =
    let both = and_parts (not (is_among x (altered_by_change u ls))) _ off in
    let here = not-true (is_among x (altered_by_change u ls)) both.0 in
    let more = as_before m us rest (u ∷ ns) (with_change u ls) x chain.1 same.1 both.1 in
    record { seen = more.seen ∙ chain.0.seen x here; live = more.live ∙ same.0 x here }
