-- The undos that a journal notes: what they tell of who stands on a change, and that they are kept.
use Rattle.std.proofs.Common.{◌≡◌, ◌⊎◌, inl, inr, ℕ, ◌+◌, ◌-◌, ◌<◌, ◌≤◌, ◌≢◌, Bool, true, false, not, ◌&&◌}
use Rattle.std.proofs.Common.{cond, eqb, nat_lt, nat_le, is_some, Option, Some, None, List, [], ◌∷◌, ◌++◌, length, take}
use Rattle.std.proofs.Common.{set, refl}
use Rattle.std.proofs.Common.{sym, ap, ◌∙◌, arith}
use Rattle.std.proofs.lemmas.Bool.{cases_order, eqb-true, le-leb, le-ltb, lt-ltb, lt-leb, ltb-false, ltb-true}
use Rattle.std.proofs.lemmas.List.{length-append, length-set}
use Rattle.std.proofs.lemmas.Option.{slice_get_within}
use Rattle.std.specs.List.{slice_get}
use Rattle.std.specs.Option.{option_map_or}
use Rattle.iocm_activate.specs.declared.effect.Effect.{Effect}
use Rattle.iocm_journal.specs.Moving.{again, no_more}
use Rattle.iocm_journal.specs.Noted.{AreInOrder, AreNoted, IsOfOne, TellEachUndone, is_last_of, is_of_earlier}
use Rattle.iocm_journal.specs.Noted.{is_of_earlier_since, stands_later, undone_since, without_last_of}
use Rattle.iocm_journal.specs.Standing.{is_on, last_passing, stands_at, undone_since_at}
use Rattle.iocm_journal.specs.declared.kept.Kept.{Kept}
use Rattle.iocm_journal.specs.declared.undos.Undo.{Undo}
use Rattle.iocm_journal.proofs.Items.{at_set, before_others, beside_set, in_drop, in_take, none_among, not_among}
use Rattle.iocm_journal.proofs.Items.{of_append}
use Rattle.iocm_journal.proofs.Items.{of_drop, of_take, one_among}
use Rattle.iocm_journal.proofs.Passing.{IsLastPassing, last_passing_is}
use Rattle.iocm_journal.proofs.Places.{stands_item}
use Rattle.iocm_journal.proofs.Taken.{at_end, of_set}

-- ---- reading the undos from the last one back

not_since : (ks : List Kept) (place : ℕ) (u : Undo) → u.after ≤ place → is_of_earlier_since ks place u ≡ false
not_since ks place u early = ap (λ b. b && is_of_earlier ks place u) (le-ltb place u.after early)

-- those from a place on are none such, and the one before was made before the change was accepted:
-- so there is no such
pub none_before : (ks : List Kept) (us : List Undo) (place left : ℕ) (u : Undo) → AreInOrder us
    → slice_get us (left - 1) ≡ Some u → u.after ≤ place
    → ((i : ℕ) (v : Undo) → left ≤ i → slice_get us i ≡ Some v → is_of_earlier_since ks place v ≡ false)
    → undone_since ks us place ≡ false
none_before ks us place left u order last early rest = none_among (is_of_earlier_since ks place) us each
  where
    same : (v : Undo) → Some v ≡ Some u → v.after ≡ u.after
    same v e = cc

    by : (i : ℕ) (v : Undo) → slice_get us i ≡ Some v → (left ≡ i) ⊎ ((left < i) ⊎ (i < left))
        → (i ≡ left - 1) ⊎ ((i < left - 1) ⊎ (left - 1 < i))
        → is_of_earlier_since ks place v ≡ false
    by i v is (inl at) other = rest i v (omega (arith, at)) is
    by i v is (inr (inl more)) other = rest i v (omega (arith, more)) is
    by i v is (inr (inr less)) (inl at) =
        let one : v.after ≡ u.after = same v (sym is ∙ ap (slice_get us) at ∙ last) in
        not_since ks place v (omega (arith, one, early))
    by i v is (inr (inr less)) (inr (inl low)) =
        let under = order i (left - 1) v u low is last in not_since ks place v (omega (arith, under, early))
    by i v is (inr (inr less)) (inr (inr high)) = absurd (omega (arith, less, high))

    each : (i : ℕ) (v : Undo) → slice_get us i ≡ Some v → is_of_earlier_since ks place v ≡ false
    each i v is = by i v is (cases_order left i) (cases_order i (left - 1))

pub none_at_all : (ks : List Kept) (us : List Undo) (place left : ℕ) → left ≤ 0
    → ((i : ℕ) (v : Undo) → left ≤ i → slice_get us i ≡ Some v → is_of_earlier_since ks place v ≡ false)
    → undone_since ks us place ≡ false
none_at_all ks us place left low rest =
    none_among (is_of_earlier_since ks place) us (λ i v is. rest i v (omega (arith, low)) is)

-- ---- none stands on a change that doesn't fit, where no later one stands, and no earlier one was
-- undone since and doesn't stand

none_later : (ks : List Kept) (place at : ℕ) → stands_later ks place ≡ false → place < at → stands_at ks at ≡ false
none_later ks place at none later = by (slice_get ks at) refl
  where
    by : (o : Option Kept) → slice_get ks at ≡ o → option_map_or (λ (k : Kept). k.stands) o false ≡ false
    by None is = refl
    by (Some k) is =
        not_among (λ (k : Kept). k.stands) _ (at - (place + 1)) k none
        (in_drop (place + 1) ks at k (omega (arith, later)) is)

since_off : (a b c : Bool) → b ≡ true → c ≡ false → (a && (b && not c)) ≡ false → a ≡ false
since_off true true true b c is = cc
since_off true true false b c is = cc
since_off true false c b d is = cc
since_off false b c d e is = refl

none_earlier : (ks : List Kept) (us : List Undo) (place at : ℕ) → TellEachUndone ks us
    → undone_since ks us place ≡ false
    → at < place → (not (stands_at ks at) && undone_since_at ks (place + 1) at) ≡ false
none_earlier ks us place at each none earlier = by (slice_get ks at) refl
  where
    undone : (k : Kept) → slice_get ks at ≡ Some k → k.stands ≡ false → nat_le (place + 1) k.undone_after ≡ false
    undone k is off =
        let told = each at k is off in
        let u : Undo = record { place = at; after = k.undone_after } in
        let early = since_off (nat_lt place k.undone_after) (nat_lt at place) (stands_at ks at)
        (lt-ltb at place earlier)
        (stands_item ks at k is ∙ off) (not_among (is_of_earlier_since ks place) us told.0 u none told.1) in
        let low = ltb-false place k.undone_after early in
        lt-leb (place + 1) k.undone_after (omega (arith, low))

    by_stands : (k : Kept) → slice_get ks at ≡ Some k → (b : Bool) → k.stands ≡ b
        → (not b && nat_le (place + 1) k.undone_after) ≡ false
    by_stands k is true stands = refl
    by_stands k is false stands = undone k is stands

    by : (o : Option Kept) → slice_get ks at ≡ o
        → (not (option_map_or (λ (k : Kept). k.stands) o false)
        && option_map_or (λ (k : Kept). nat_le (place + 1) k.undone_after) o false) ≡ false
    by None is = refl
    by (Some k) is = by_stands k is k.stands refl

-- whether one of the first so many places passes a test
abbrev some_pass : (ℕ → Bool) → ℕ → Bool
some_pass passes n = is_some (last_passing passes n)

none_passes_of : (passes : ℕ → Bool) (n : ℕ) → ((at : ℕ) → passes at ≡ false) → some_pass passes n ≡ false
none_passes_of passes n each = by (last_passing passes n) (last_passing_is passes n)
  where
    by : (o : Option ℕ) → IsLastPassing passes n o → is_some o ≡ false
    by None is = refl
    by (Some at) is = let no : true ≡ false = sym is.1 ∙ each at in cc

one_passes_of : (passes : ℕ → Bool) (n at : ℕ) → at < n → passes at ≡ true → some_pass passes n ≡ true
one_passes_of passes n at low on = by (last_passing passes n) (last_passing_is passes n)
  where
    by : (o : Option ℕ) → IsLastPassing passes n o → is_some o ≡ true
    by None is = let no : true ≡ false = sym on ∙ is at low in cc
    by (Some other) is = refl

none_on : (ks : List Kept) (us : List Undo) (place n : ℕ) → AreNoted ks us → stands_later ks place ≡ false
    → undone_since ks us place ≡ false → (fs : List Effect) → some_pass (is_on ks fs place false) n ≡ false
none_on ks us place n noted later earlier fs = none_passes_of (is_on ks fs place false) n each
  where
    by : (at : ℕ) (a b : Bool) → nat_lt place at ≡ a → nat_lt at place ≡ b
        → cond a (stands_at ks at) (b && (not (stands_at ks at) && undone_since_at ks (place + 1) at)) ≡ false
    by at true b more less = none_later ks place at later (ltb-true place at more)
    by at false true more less = none_earlier ks us place at noted.each earlier (ltb-true at place less)
    by at false false more less = refl

    each : (at : ℕ) → is_on ks fs place false at ≡ false
    each at = by at (nat_lt place at) (nat_lt at place) refl refl

-- and one does, where a later one stands, or an earlier one was undone since and doesn't stand

pub later_on : (ks : List Kept) (place : ℕ) → stands_later ks place ≡ true → (fs : List Effect)
    → some_pass (is_on ks fs place false) (length ks) ≡ true
later_on ks place later fs =
    let it = one_among (λ (k : Kept). k.stands) _ later in
    let at = place + 1 + it.place in
    let there = of_drop (place + 1) ks it.place it.item it.there in
    one_passes_of (is_on ks fs place false) (length ks) at (slice_get_within ks at it.item there)
    (ap (λ b. cond b (stands_at ks at)
    (nat_lt at place && (not (stands_at ks at) && undone_since_at ks (place + 1) at)))
    (lt-ltb place at (omega arith)) ∙ stands_item ks at it.item there ∙ it.passes)

first_part : (a b : Bool) → (a && b) ≡ true → a ≡ true
first_part true b is = refl
first_part false b is = cc

second_part : (a b : Bool) → (a && b) ≡ true → b ≡ true
second_part true b is = is
second_part false b is = cc

earlier_on : (ks : List Kept) (us : List Undo) (place : ℕ) → place < length ks → AreNoted ks us
    → undone_since ks us place ≡ true → (fs : List Effect) → some_pass (is_on ks fs place false) (length ks) ≡ true
earlier_on ks us place within noted earlier fs =
    let it = one_among (is_of_earlier_since ks place) us earlier in
    let u = it.item in
    let of = noted.of it.place u it.there in
    let after = ltb-true place u.after (first_part (nat_lt place u.after) _ it.passes) in
    let rest = second_part (nat_lt place u.after) _ it.passes in
    let low = ltb-true u.place place (first_part (nat_lt u.place place) _ rest) in
    let off = second_part (nat_lt u.place place) (not (stands_at ks u.place)) rest in
    let early = of.early in
    let since : undone_since_at ks (place + 1) u.place ≡ true =
    ap (λ o. option_map_or (λ (k : Kept). nat_le (place + 1) k.undone_after) o false) of.there
    ∙ le-leb (place + 1) of.kept.undone_after (omega (arith, after, early)) in
    one_passes_of (is_on ks fs place false) (length ks) u.place (omega (arith, low, within))
    (all (nat_lt place u.place) (nat_lt u.place place) (stands_at ks u.place) _
    (le-ltb place u.place (omega (arith, low)))
    (lt-ltb u.place place low) off since)
  where
    all : (a b c d : Bool) → a ≡ false → b ≡ true → not c ≡ true → d ≡ true → cond a c (b && (not c && d)) ≡ true
    all false true false true e f g h = refl
    all true b c d e f g h = cc
    all false false c d e f g h = cc
    all false true true d e f g h = cc
    all false true false false e f g h = cc

pub stands_by_undos : (ks : List Kept) (us : List Undo) (place : ℕ) → place < length ks → AreNoted ks us
    → stands_later ks place ≡ false
    → (fs : List Effect) → undone_since ks us place ≡ some_pass (is_on ks fs place false) (length ks)
stands_by_undos ks us place within noted later fs = by (undone_since ks us place) refl
  where
    by : (b : Bool) → undone_since ks us place ≡ b → b ≡ some_pass (is_on ks fs place false) (length ks)
    by true is = sym (earlier_on ks us place within noted is fs)
    by false is = sym (none_on ks us place (length ks) noted later is fs)

-- ---- the undos stay noted

-- where one change was changed, which was last undone as late or later
of_changed : (ks : List Kept) (place : ℕ) (x : Kept) (u : Undo) → IsOfOne ks u
    → (u.place ≡ place → u.after ≤ x.undone_after)
    → IsOfOne (set ks place x) u
of_changed ks place x u of late = by (cases_order u.place place)
  where
    apart : (a b : ℕ) → a < b → a ≢ b
    apart a b low e = absurd (omega (arith, low, e))

    above : (a b : ℕ) → b < a → a ≢ b
    above a b low e = absurd (omega (arith, low, e))

    other : u.place ≢ place → IsOfOne (set ks place x) u
    other away = record {
      kept = of.kept;
      there = beside_set ks place x u.place of.kept away of.there;
      early = of.early;
    }

    by : (u.place ≡ place) ⊎ ((u.place < place) ⊎ (place < u.place)) → IsOfOne (set ks place x) u
    by (inl same) = record {
      kept = x;
      there = ap (λ p. slice_get (set ks p x) u.place) (sym same)
          ∙ at_set ks u.place x (slice_get_within ks u.place of.kept of.there);
      early = late same;
    }
    by (inr (inl low)) = other (apart u.place place low)
    by (inr (inr high)) = other (above u.place place high)

-- when a change that stands is accepted
pub noted_accepted : (ks : List Kept) (us : List Undo) (x : Kept) → x.stands ≡ true → AreNoted ks us
    → AreNoted (ks ++ x ∷ []) us
noted_accepted ks us x stands noted = record {
  order = noted.order;
  within = λ i u is. let low = noted.within i u is in let long = length-append ks (x ∷ []) in omega (arith, low, long);
  of = λ i u is. let it = noted.of i u is in
      record { kept = it.kept; there = before_others ks (x ∷ []) u.place it.kept it.there; early = it.early };
  each = λ at k is off. by at k off (of_append ks x at k is);
}
  where
    bad : (k : Kept) → x ≡ k → k.stands ≡ false → ⊥
    bad k same off = let no : true ≡ false = sym stands ∙ ap (λ (z : Kept). z.stands) same ∙ off in cc

    by : (at : ℕ) (k : Kept) → k.stands ≡ false → (slice_get ks at ≡ Some k) ⊎ ((at ≡ length ks) × (x ≡ k))
        → (i : ℕ) × (slice_get us i ≡ Some (record { place = at; after = k.undone_after }))
    by at k off (inl old) = noted.each at k old off
    by at k off (inr new) = absurd (bad k new.1 off)

-- when one is undone, and that is noted
pub noted_undone : (ks : List Kept) (us : List Undo) (place count : ℕ) (k : Kept) → count ≡ length ks
    → place < length ks
    → AreNoted ks us
    → AreNoted (set ks place (no_more count k)) (us ++ record { place = place; after = count } ∷ [])
noted_undone ks us place count k is_count there noted = record {
  order = λ i j u v low at_i at_j. ordered i j u v low (of_append us new i u at_i) (of_append us new j v at_j);
  within = λ i u at_i. let low = under i u (of_append us new i u at_i) in let long =
      length-set ks place (no_more count k) in
      omega (arith, low, long);
  of = λ i u at_i. of_it i u (of_append us new i u at_i);
  each = λ at x is off. by at x off (of_set ks place (no_more count k) at x is);
}
  where
    new : Undo
    new = record { place = place; after = count }

    under : (i : ℕ) (u : Undo) → (slice_get us i ≡ Some u) ⊎ ((i ≡ length us) × (new ≡ u)) → u.after ≤ length ks
    under i u (inl old) = noted.within i u old
    under i u (inr it) = let same : count ≡ u.after = ap (λ (z : Undo). z.after) it.1 in omega (arith, same, is_count)

    of_it : (i : ℕ) (u : Undo) → (slice_get us i ≡ Some u) ⊎ ((i ≡ length us) × (new ≡ u))
        → IsOfOne (set ks place (no_more count k)) u
    of_it i u (inl old) = of_changed ks place (no_more count k) u (noted.of i u old)
        (λ same. let low = noted.within i u old in omega (arith, low, is_count))
    of_it i u (inr it) = record {
      kept = no_more count k;
      there = ap (λ (z : Undo). slice_get (set ks place (no_more count k)) z.place) (sym it.1)
          ∙ at_set ks place (no_more count k) there;
      early = let same : count ≡ u.after = ap (λ (z : Undo). z.after) it.1 in omega (arith, same);
    }

    ordered : (i j : ℕ) (u v : Undo) → i < j → (slice_get us i ≡ Some u) ⊎ ((i ≡ length us) × (new ≡ u))
        → (slice_get us j ≡ Some v) ⊎ ((j ≡ length us) × (new ≡ v)) → u.after ≤ v.after
    ordered i j u v low (inl a) (inl b) = noted.order i j u v low a b
    ordered i j u v low (inl a) (inr b) =
        let most = noted.within i u a in let same : count ≡ v.after = ap (λ (z : Undo). z.after) b.1 in
        omega (arith, same, most, is_count)
    ordered i j u v low (inr a) (inl b) =
        let within = slice_get_within us j v b in let at = a.0 in absurd (omega (arith, within, low, at))
    ordered i j u v low (inr a) (inr b) = let one = a.0 in let other = b.0 in absurd (omega (arith, low, one, other))

    by : (at : ℕ) (x : Kept) → x.stands ≡ false
        → ((at ≢ place) × (slice_get ks at ≡ Some x)) ⊎ ((at ≡ place) × (no_more count k ≡ x))
        → (i : ℕ) × (slice_get (us ++ new ∷ []) i ≡ Some (record { place = at; after = x.undone_after }))
    by at x off (inl old) = let told = noted.each at x old.1 off in
        (told.0, before_others us (new ∷ []) told.0 _ told.1)
    by at x off (inr it) = (
      length us,
      at_end us new
          ∙ (λ z. Some (record { place = sym it.0 z; after = (it.1 z).undone_after })),
    )

-- when one stands again
noted_redone : (ks : List Kept) (us : List Undo) (place : ℕ) (k : Kept) → slice_get ks place ≡ Some k → AreNoted ks us
    → AreNoted (set ks place (again k)) us
noted_redone ks us place k there noted = record {
  order = noted.order;
  within = λ i u is. let low = noted.within i u is in let long = length-set ks place (again k) in
      omega (arith, low, long);
  of = λ i u is. let it = noted.of i u is in of_changed ks place (again k) u it (late u it);
  each = λ at x is off. by at x off (of_set ks place (again k) at x is);
}
  where
    one : (x : Kept) → Some x ≡ Some k → x.undone_after ≡ k.undone_after
    one x e = cc

    late : (u : Undo) (it : IsOfOne ks u) → u.place ≡ place → u.after ≤ k.undone_after
    late u it same =
        let early = it.early in
        let is = one it.kept (sym it.there ∙ ap (slice_get ks) same ∙ there) in omega (arith, early, is)

    bad : (x : Kept) → again k ≡ x → x.stands ≡ false → ⊥
    bad x same off = let no : true ≡ false = ap (λ (z : Kept). z.stands) same ∙ off in cc

    by : (at : ℕ) (x : Kept) → x.stands ≡ false
        → ((at ≢ place) × (slice_get ks at ≡ Some x)) ⊎ ((at ≡ place) × (again k ≡ x))
        → (i : ℕ) × (slice_get us i ≡ Some (record { place = at; after = x.undone_after }))
    by at x off (inl old) = noted.each at x old.1 off
    by at x off (inr it) = absurd (bad x it.1 off)

-- and when the last undo is forgotten, of a change that stands
noted_without : (ks : List Kept) (us : List Undo) (place : ℕ) → stands_at ks place ≡ true → AreNoted ks us
    → AreNoted ks (without_last_of place us)
noted_without ks us place stands noted = by (is_last_of place us) refl
  where
    last_one : (u : Undo) → is_last_of place us ≡ true → slice_get us (length us - 1) ≡ Some u → u.place ≡ place
    last_one u is at = eqb-true u.place place
        (sym (ap (λ o. option_map_or (λ (u : Undo). eqb u.place place) o false) at) ∙ is)

    stands_there : (at : ℕ) (k : Kept) → slice_get ks at ≡ Some k → at ≡ place → k.stands ≡ true
    stands_there at k is same = sym (stands_item ks at k is) ∙ ap (stands_at ks) same ∙ stands

    bad : (k : Kept) → k.stands ≡ true → k.stands ≡ false → ⊥
    bad k on off = let no : true ≡ false = sym on ∙ off in cc

    shorter : is_last_of place us ≡ true → (at : ℕ) (k : Kept) → slice_get ks at ≡ Some k → k.stands ≡ false
        → (i : ℕ) → slice_get us i ≡ Some (record { place = at; after = k.undone_after })
        → (i ≡ length us - 1) ⊎ ((i < length us - 1) ⊎ (length us - 1 < i))
        → (i : ℕ) × (slice_get (take (length us - 1) us) i ≡ Some (record { place = at; after = k.undone_after }))
    shorter last at k is off i told (inl here) =
        absurd (bad k (stands_there at k is (last_one _ last (sym (ap (slice_get us) here) ∙ told))) off)
    shorter last at k is off i told (inr (inl low)) = (i, in_take (length us - 1) us i _ low told)
    shorter last at k is off i told (inr (inr high)) =
        let within = slice_get_within us i _ told in absurd (omega (arith, within, high))

    by : (b : Bool) → is_last_of place us ≡ b → AreNoted ks (cond b (take (length us - 1) us) us)
    by false last = noted
    by true last = record {
      order = λ i j u v low a b. noted.order i j u v low (of_take _ us i u a) (of_take _ us j v b);
      within = λ i u is. noted.within i u (of_take _ us i u is);
      of = λ i u is. noted.of i u (of_take _ us i u is);
      each = λ at k is off. let told = noted.each at k is off in
          shorter last at k is off told.0 told.1 (cases_order told.0 (length us - 1));
    }

-- both
pub noted_again : (ks : List Kept) (us : List Undo) (place : ℕ) (k : Kept) → slice_get ks place ≡ Some k
    → AreNoted ks us
    → AreNoted (set ks place (again k)) (without_last_of place us)
noted_again ks us place k there noted =
    let stands = stands_item (set ks place (again k)) place (again k)
    (at_set ks place (again k) (slice_get_within ks place k there)) in
    noted_without (set ks place (again k)) us place stands (noted_redone ks us place k there noted)
