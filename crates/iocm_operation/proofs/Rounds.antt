-- What a round that was run by one caller comes to.
use Rattle.std.proofs.Common.{◌≡◌, ◌≤◌, ◌<◌, ℕ, zero, suc, ◌==◌, nat_lt, max, Bool, true, false, not, List, [], ◌∷◌}
use Rattle.std.proofs.Common.{◌++◌, length, refl, sym, ap, ◌∙◌, subst, cond, arith}
use Rattle.std.specs.Prelude.{Option, None, Some}
use Rattle.std.specs.List.{AllByRecursion}
use Rattle.std.proofs.lemmas.List.{append-nil, length-map}
use Rattle.std.proofs.lemmas.Bool.{eq-eqb, eqb-true, false_from_ne_true, false≢true}
use Rattle.std.proofs.Math.Nat.{le-max_left, le-max_right}
use Rattle.std.proofs.lemmas.Option.{none-some}
use Rattle.iocm_board.specs.declared.view.Borne.{Borne}
use Rattle.iocm_board.specs.declared.view.Made.{Made}
use Rattle.iocm_board.specs.Names.{fresh, is_whole, lend, next_of}
use Rattle.iocm_board.specs.Receipts.{made, merged, put_in}
use Rattle.iocm_core.specs.declared.call.Call.{Call}
use Rattle.iocm_rounds.specs.Jobs.{Job, calls_of, jobs_by, receipts_of}
use Rattle.iocm_rounds.specs.Rounds.{IsImage, IsOffice}
use Rattle.iocm_rounds.specs.Stops.{graver, graver_rule}
use Rattle.iocm_system.specs.Asking.{asked_by}
use Rattle.iocm_system.specs.Sights.{Sight, borrowed, joined, lends_one}
use Rattle.iocm_system.specs.Turns.{gained, IsTurn, Rise}
use Rattle.iocm_system.specs.declared.receipt.Receipt.{Receipt}
use Rattle.iocm_types.specs.declared.rule.Rule.{Rule}
use Rattle.iocm_operation.specs.Marks.{Marked, MadeRise, all_of, of_actor, those_of}
use Rattle.iocm_operation.specs.Running.{AreAll, IsRan}
use Rattle.iocm_operation.proofs.Merging.{IsMerge, kept, kept_within, merged_behind, merged_marked, those_among}
use Rattle.iocm_operation.proofs.Whole.{whole_again}

-- ---- receipts of a turn

as_many : (calls : List Call) (old new : Sight) (rs : List Receipt) (rest : List Call)
    → (t : IsTurn calls old new rs rest) → length rs ≡ length t.first
as_many calls old new rs rest t =
    sym (length-map rs (λ (x : Receipt). x.asked)) ∙ ap length t.asked ∙ length-map t.first asked_by

made_rise : (from below : ℕ) (cs : List Call) (rs : List Receipt) → length rs ≡ length cs → Rise from rs below
    → MadeRise from (gained cs rs) below
made_rise from below [] [] e r = r
made_rise from below (c ∷ cs) [] e r = absurd (omega (arith, e))
made_rise from below [] (x ∷ rs) e r = absurd (omega (arith, e))
made_rise from below (c ∷ cs) (x ∷ rs) e r = (r.0, made_rise (suc x.number) below cs rs (omega (arith, e)) r.1)

goes_up : (from below : ℕ) (rs : List Receipt) → Rise from rs below → from ≤ below
goes_up from below [] r = r
goes_up from below (x ∷ rs) r = omega (arith, r.0, goes_up (suc x.number) below rs r.1)

rise_below : (from below : ℕ) (ms : List Made) → MadeRise from ms below
    → AllByRecursion (λ (m : Made). m.number < below) ms
rise_below from below [] r = tt
rise_below from below (m ∷ ms) r =
    (omega (arith, last (suc m.number) below ms r.1), rise_below (suc m.number) below ms r.1)
  where
    last : (from below : ℕ) (ms : List Made) → MadeRise from ms below → from ≤ below
    last from below [] r = r
    last from below (m ∷ ms) r = omega (arith, r.0, last (suc m.number) below ms r.1)

-- ---- what holds of all

all_more : (n below : ℕ) (ms : List Made) → n ≤ below → AllByRecursion (λ (m : Made). m.number < n) ms
    → AllByRecursion (λ (m : Made). m.number < below) ms
all_more n below [] le all = tt
all_more n below (m ∷ ms) le all = (omega (arith, le, all.0), all_more n below ms le all.1)

all_append : (n : ℕ) (xs ys : List Made) → AllByRecursion (λ (m : Made). m.number < n) xs
    → AllByRecursion (λ (m : Made). m.number < n) ys
    → AllByRecursion (λ (m : Made). m.number < n) (xs ++ ys)
all_append n [] ys one two = two
all_append n (x ∷ xs) ys one two = (one.0, all_append n xs ys one.1 two)

all_put : (n : ℕ) (x : Made) (ys : List Made) → x.number < n → AllByRecursion (λ (m : Made). m.number < n) ys
    → AllByRecursion (λ (m : Made). m.number < n) (put_in x ys)
all_put n x [] one all = (one, tt)
all_put n x (y ∷ ys) one all = by (nat_lt x.number y.number) (all_put n x ys one all.1)
  where
    by : (b : Bool) → AllByRecursion (λ (m : Made). m.number < n) (put_in x ys)
        → AllByRecursion (λ (m : Made). m.number < n) (cond b (x ∷ y ∷ ys) (y ∷ put_in x ys))
    by true rest = (one, all)
    by false rest = (all.0, rest)

all_merged : (n : ℕ) (xs ys : List Made) → AllByRecursion (λ (m : Made). m.number < n) xs
    → AllByRecursion (λ (m : Made). m.number < n) ys
    → AllByRecursion (λ (m : Made). m.number < n) (merged xs ys)
all_merged n [] ys one two = two
all_merged n (x ∷ xs) ys one two = all_put n x (merged xs ys) one.0 (all_merged n xs ys one.1 two)

-- ---- marks

abbrev mark : ℕ → List Made → Marked
mark n [] = []
mark n (m ∷ ms) = (n, m) ∷ mark n ms

all_mark : (n : ℕ) (ms : List Made) → all_of (mark n ms) ≡ ms
all_mark n [] = refl
all_mark n (m ∷ ms) = ap (λ xs. m ∷ xs) (all_mark n ms)

kept_mark : (mine : ℕ → Bool) (n : ℕ) (ms : List Made) → mine n ≡ true → kept mine (mark n ms) ≡ mark n ms
kept_mark mine n [] e = refl
kept_mark mine n (m ∷ ms) e =
    ap (λ b. cond b ((n, m) ∷ kept mine (mark n ms)) (kept mine (mark n ms))) e
    ∙ ap (λ xs. (n, m) ∷ xs) (kept_mark mine n ms e)

none_marked : (mine : ℕ → Bool) (n : ℕ) (ms : List Made) → mine n ≡ false → kept mine (mark n ms) ≡ []
none_marked mine n [] e = refl
none_marked mine n (m ∷ ms) e =
    ap (λ b. cond b ((n, m) ∷ kept mine (mark n ms)) (kept mine (mark n ms))) e ∙ none_marked mine n ms e

all_marked : (mine : ℕ → Bool) (n : ℕ) (ms : List Made) → mine n ≡ true
    → AllByRecursion (λ (m : ℕ × Made). mine m.0 ≡ true) (mark n ms)
all_marked mine n [] e = tt
all_marked mine n (m ∷ ms) e = (e, all_marked mine n ms e)

-- ---- jobs

abbrev job_made : Job → Made
job_made j = made j.receipt.number (record { call = j.call; answer = j.receipt.answer })

abbrev mark_jobs : List Job → Marked
mark_jobs [] = []
mark_jobs (j ∷ js) = (j.by, job_made j) ∷ mark_jobs js

all_jobs : (js : List Job) → all_of (mark_jobs js) ≡ gained (calls_of js) (receipts_of js)
all_jobs [] = refl
all_jobs (j ∷ js) = ap (λ xs. job_made j ∷ xs) (all_jobs js)

those_jobs : (n : ℕ) (js : List Job)
    → those_of n (mark_jobs js) ≡ gained (calls_of (jobs_by n js)) (receipts_of (jobs_by n js))
those_jobs n [] = refl
those_jobs n (j ∷ js) = by (j.by == n) (those_jobs n js)
  where
    by : (b : Bool) → those_of n (mark_jobs js) ≡ gained (calls_of (jobs_by n js)) (receipts_of (jobs_by n js))
        → all_of (cond b ((j.by, job_made j) ∷ kept (λ k. k == n) (mark_jobs js)) (kept (λ k. k == n) (mark_jobs js)))
        ≡ gained (calls_of (cond b (j ∷ jobs_by n js) (jobs_by n js)))
        (receipts_of (cond b (j ∷ jobs_by n js) (jobs_by n js)))
    by true rest = ap (λ xs. job_made j ∷ xs) rest
    by false rest = rest

length_jobs : (js : List Job) → length (receipts_of js) ≡ length (calls_of js)
length_jobs js = length-map js (λ (j : Job). j.receipt) ∙ sym (length-map js (λ (j : Job). j.call))

-- ---- a round

neither : (a b : Option Rule) → graver a b ≡ None → (a ≡ None) × (b ≡ None)
neither None b e = (refl, e)
neither (Some x) None e = absurd (none-some x (sym e))
neither (Some x) (Some y) e = absurd (none-some (graver_rule x y) (sym e))

-- two names lent, and back
whole_of_three : (ns : List Borne) → is_whole ns ≡ true
    → is_whole ((lend (lend ns) ++ fresh (next_of ns)) ++ fresh (next_of (lend ns))) ≡ true
whole_of_three [] e = absurd (false≢true e)
whole_of_three (b ∷ bs) e =
    let one = whole_again (b ∷ bs) (b, bs, refl) e in
    whole_again (lend (b ∷ bs) ++ fresh (next_of (b ∷ bs)))
    (record { name = b.name; lent = suc b.lent }, bs ++ fresh (next_of (b ∷ bs)), refl) one

abbrev is_b : ℕ → Bool
is_b (suc (suc (suc zero))) = true
is_b _ = false

abbrev is_office : ℕ → Bool
is_office zero = true
is_office (suc zero) = true
is_office _ = false

abbrev not_b : ℕ → Bool
not_b k = not (is_b k)

abbrev not_office : ℕ → Bool
not_office k = not (is_office k)

-- the receipts of a round, each with the number of the actor whose it is
record RoundMarks (ga gb : List Made) (js : List Job) : Type 0 where
  pub marked : Marked
  pub all_are : all_of marked ≡ merged (gained (calls_of js) (receipts_of js)) (merged gb ga)
  pub office_are : (n : ℕ) → is_office n ≡ true
      → those_of n marked ≡ gained (calls_of (jobs_by n js)) (receipts_of (jobs_by n js))
  pub a_are : those_of 2 marked ≡ ga
  pub b_are : those_of 3 marked ≡ gb
  pub others : (n : ℕ) → those_of (suc (suc (suc (suc n)))) marked ≡ []

in_office : (k : ℕ) → k < 2 → is_office k ≡ true
in_office zero less = refl
in_office (suc zero) less = refl
in_office (suc (suc k)) less = absurd (omega (arith, less))

jobs_of_two : (js : List Job) → AllByRecursion (λ (j : Job). j.by < 2) js
    → AllByRecursion (λ (m : ℕ × Made). is_office m.0 ≡ true) (mark_jobs js)
jobs_of_two [] all = tt
jobs_of_two (j ∷ js) all = (in_office j.by all.0, jobs_of_two js all.1)

office_is_not_b : (k : ℕ) → is_office k ≡ true → not_b k ≡ true
office_is_not_b zero e = refl
office_is_not_b (suc zero) e = refl
office_is_not_b (suc (suc k)) e = absurd (false≢true e)

those_marked : (n : ℕ) (ms : List Made) → those_of n (mark n ms) ≡ ms
those_marked n ms = ap all_of (kept_mark (λ k. k == n) n ms (eq-eqb n n refl)) ∙ all_mark n ms

-- two parts of the marks: the images' are put together first, and then the office's with them
two_images : (n below : ℕ) (ga gb : List Made) → MadeRise n gb below
    → IsMerge is_b (mark 3 gb) (mark 2 ga) (merged (all_of (mark 3 gb)) (all_of (mark 2 ga)))
two_images n below ga gb rise = merged_marked is_b (mark 3 gb) n below (mark 2 ga) (all_marked is_b 3 gb refl)
    (none_marked is_b 2 ga refl)
    (subst (λ (ms : List Made). MadeRise n ms below) (sym (all_mark 3 gb)) rise)

no_office : (ga gb : List Made) (all : List Made) (m : IsMerge is_b (mark 3 gb) (mark 2 ga) all)
    → kept is_office m.marked ≡ []
no_office ga gb all m =
    sym (kept_within not_b is_office m.marked office_is_not_b)
    ∙ ap (kept is_office) m.others_are
    ∙ kept_within not_b is_office (mark 2 ga) office_is_not_b
    ∙ none_marked is_office 2 ga refl

marks_of : (n below_b below_w : ℕ) (ga gb : List Made) (js : List Job) → AllByRecursion (λ (j : Job). j.by < 2) js
    → MadeRise n gb below_b
    → MadeRise n (gained (calls_of js) (receipts_of js)) below_w → RoundMarks ga gb js
marks_of n below_b below_w ga gb js of_two rise_b rise_w =
    let one = two_images n below_b ga gb rise_b in
    let two = merged_marked is_office (mark_jobs js) n below_w one.marked (jobs_of_two js of_two)
    (no_office ga gb (merged (all_of (mark 3 gb)) (all_of (mark 2 ga))) one)
    (subst (λ (ms : List Made). MadeRise n ms below_w) (sym (all_jobs js)) rise_w) in
    let images : (k : ℕ) → not_office k ≡ true → those_of k two.marked ≡ those_of k one.marked =
    λ k is. sym (those_among not_office k two.marked is) ∙ ap (those_of k) two.others_are
    ∙ those_among not_office k one.marked is in
    let of_a : (k : ℕ) → not_b k ≡ true → those_of k one.marked ≡ those_of k (mark 2 ga) =
    λ k is. sym (those_among not_b k one.marked is) ∙ ap (those_of k) one.others_are
    ∙ those_among not_b k (mark 2 ga) is in
    record {
      marked = two.marked;
      all_are = two.all_are ∙ ap (λ ms. merged ms (all_of one.marked)) (all_jobs js)
          ∙ ap (merged (gained (calls_of js) (receipts_of js)))
          (one.all_are ∙ ap (λ ms. merged ms (all_of (mark 2 ga))) (all_mark 3 gb) ∙ ap (merged gb) (all_mark 2 ga));
      office_are = λ k is. sym (those_among is_office k two.marked is) ∙ ap (those_of k) two.mine_are ∙ those_jobs k js;
      a_are = images 2 refl ∙ of_a 2 refl ∙ those_marked 2 ga;
      b_are = images 3 refl ∙ sym (those_among is_b 3 one.marked refl) ∙ ap (those_of 3) one.mine_are
          ∙ those_marked 3 gb;
      others = λ k. images (suc (suc (suc (suc k)))) refl ∙ of_a (suc (suc (suc (suc k)))) refl
          ∙ ap all_of (none_marked (λ j. j == suc (suc (suc (suc k)))) 2 ga
          (false_from_ne_true (2 == suc (suc (suc (suc k))))
          (λ same. omega (arith, eqb-true 2 (suc (suc (suc (suc k)))) same))));
    }

-- receipts that all came behind those from before
receipts_are : (old ga gb gw : List Made) (n below_b below_w : ℕ) → AllByRecursion (λ (m : Made). m.number < n) old
    → MadeRise n gb below_b → MadeRise n gw below_w
    → merged gw (merged gb (old ++ ga)) ≡ old ++ merged gw (merged gb ga)
receipts_are old ga gb gw n below_b below_w early rise_b rise_w =
    ap (merged gw) (merged_behind gb old ga n below_b early rise_b)
    ∙ merged_behind gw old (merged gb ga) n below_w early rise_w

-- what a turn that made all its calls has gained
all_made : (calls : List Call) (old new : Sight) (rs : List Receipt) (rest : List Call)
    (t : IsTurn calls old new rs rest) → rest ≡ [] → t.first ≡ calls
all_made calls old new rs rest t none = sym (t.all ∙ ap (λ cs. t.first ++ cs) none ∙ append-nil t.first)

all_of_four : (p q a b : List Call) (rp rq ra rb : List Receipt) (marked : Marked)
    → those_of 0 marked ≡ gained p rp → those_of 1 marked ≡ gained q rq → those_of 2 marked ≡ gained a ra
    → those_of 3 marked ≡ gained b rb
    → ((n : ℕ) → those_of (suc (suc (suc (suc n)))) marked ≡ [])
    → length rp ≡ length p → length rq ≡ length q → length ra ≡ length a → length rb ≡ length b
    → AreAll p q a b rp rq ra rb marked
all_of_four p q a b rp rq ra rb marked of_p of_q of_a of_b others many_p many_q many_a many_b =
    record { gained_are = gained_here; as_many = many_here }
  where
    gained_here : (n : ℕ) → those_of n marked ≡ gained (of_actor n p q a b) (of_actor n rp rq ra rb)
    gained_here zero = of_p
    gained_here (suc zero) = of_q
    gained_here (suc (suc zero)) = of_a
    gained_here (suc (suc (suc zero))) = of_b
    gained_here (suc (suc (suc (suc n)))) = others n

    many_here : (n : ℕ) → length (of_actor n rp rq ra rb) ≡ length (of_actor n p q a b)
    many_here zero = many_p
    many_here (suc zero) = many_q
    many_here (suc (suc zero)) = many_a
    many_here (suc (suc (suc zero))) = many_b
    many_here (suc (suc (suc (suc n)))) = refl

-- an operator of whose calls all were made
calls_made : (n : ℕ) (js : List Job) (calls rest : List Call) → calls ≡ calls_of (jobs_by n js) ++ rest → rest ≡ []
    → calls_of (jobs_by n js) ≡ calls
calls_made n js calls rest all none =
    sym (all ∙ ap (λ cs. calls_of (jobs_by n js) ++ cs) none ∙ append-nil (calls_of (jobs_by n js)))

gained_by : (n : ℕ) (js : List Job) (calls : List Call) (rs : List Receipt) → calls_of (jobs_by n js) ≡ calls
    → rs ≡ receipts_of (jobs_by n js)
    → gained (calls_of (jobs_by n js)) (receipts_of (jobs_by n js)) ≡ gained calls rs
gained_by n js calls rs made are = ap (λ cs. gained cs (receipts_of (jobs_by n js))) made ∙ ap (gained calls) (sym are)

many_by : (n : ℕ) (js : List Job) (calls : List Call) (rs : List Receipt) → calls_of (jobs_by n js) ≡ calls
    → rs ≡ receipts_of (jobs_by n js) → length rs ≡ length calls
many_by n js calls rs made are = ap length are ∙ length_jobs (jobs_by n js) ∙ ap length made

-- a round in which nothing stopped anyone has all calls
all_are_made : (p q a b : List Call) (a_old b_old w_old a_new b_new w_new : Sight) (rp rq ra rb : List Receipt)
    (sa sb so : Option Rule)
    → (one : IsImage a a_old a_new ra sa) → (two : IsImage b b_old b_new rb sb)
    → (office : IsOffice p q w_old w_new rp rq so)
    → (ms : RoundMarks (gained one.turn.first ra) (gained two.turn.first rb) office.made)
    → sa ≡ None → sb ≡ None → so ≡ None → AreAll p q a b rp rq ra rb ms.marked
all_are_made p q a b a_old b_old w_old a_new b_new w_new rp rq ra rb sa sb so one two office ms none_a none_b none_o =
    let made_a = all_made a a_old a_new ra one.rest one.turn (one.ends none_a) in
    let made_b = all_made b b_old b_new rb two.rest two.turn (two.ends none_b) in
    let rests = office.ends none_o in
    let made_p = calls_made 0 office.made p office.rest_p office.all_p rests.0 in
    let made_q = calls_made 1 office.made q office.rest_q office.all_q rests.1 in
    all_of_four p q a b rp rq ra rb ms.marked
    (ms.office_are 0 refl ∙ gained_by 0 office.made p rp made_p office.first_are)
    (ms.office_are 1 refl ∙ gained_by 1 office.made q rq made_q office.second_are)
    (ms.a_are ∙ ap (λ cs. gained cs ra) made_a)
    (ms.b_are ∙ ap (λ cs. gained cs rb) made_b)
    ms.others
    (many_by 0 office.made p rp made_p office.first_are)
    (many_by 1 office.made q rq made_q office.second_are)
    (as_many a a_old a_new ra one.rest one.turn ∙ ap length made_a)
    (as_many b b_old b_new rb two.rest two.turn ∙ ap length made_b)

-- all receipts are below what was seen at the end
all_below : (old ga gb gw : List Made) (n na nb nw top : ℕ) → n ≤ top → na ≤ top → nb ≤ top → nw ≤ top
    → AllByRecursion (λ (m : Made). m.number < n) old → MadeRise n ga na → MadeRise n gb nb → MadeRise n gw nw
    → AllByRecursion (λ (m : Made). m.number < top) (merged gw (merged gb (old ++ ga)))
all_below old ga gb gw n na nb nw top le le_a le_b le_w early rise_a rise_b rise_w =
    all_merged top gw (merged gb (old ++ ga)) (all_more nw top gw le_w (rise_below n nw gw rise_w))
    (all_merged top gb (old ++ ga) (all_more nb top gb le_b (rise_below n nb gb rise_b))
    (all_append top old ga (all_more n top old le early) (all_more na top ga le_a (rise_below n na ga rise_a))))

pub ran_is : (p q a b : List Call) (me a_old b_old w_old a_new b_new w_new out : Sight) (rp rq ra rb : List Receipt)
    (sa sb so stopped : Option Rule)
    → a_old ≡ lends_one (lends_one me) → b_old ≡ borrowed me → w_old ≡ borrowed (lends_one me)
    → IsImage a a_old a_new ra sa → IsImage b b_old b_new rb sb → IsOffice p q w_old w_new rp rq so
    → out ≡ joined (joined a_new b_new) w_new → stopped ≡ graver (graver sa sb) so
    → is_whole me.names ≡ true → AllByRecursion (λ (m : Made). m.number < me.seen) me.receipts
    → IsRan p q a b me out rp rq ra rb stopped
ran_is p q a b me a_old b_old w_old a_new b_new w_new out rp rq ra rb sa sb so stopped from_a from_b from_w one two
    office is_out is_stopped whole below =
    let ga = gained one.turn.first ra in
    let gb = gained two.turn.first rb in
    let js = office.made in
    let gw = gained (calls_of js) (receipts_of js) in
    let begin_a : a_old.seen ≡ me.seen = ap (λ (c : Sight). c.seen) from_a in
    let begin_b : b_old.seen ≡ me.seen = ap (λ (c : Sight). c.seen) from_b in
    let begin_w : w_old.seen ≡ me.seen = ap (λ (c : Sight). c.seen) from_w in
    let from_me_a : Rise me.seen ra a_new.seen = subst (λ k. Rise k ra a_new.seen) begin_a one.turn.rise in
    let from_me_b : Rise me.seen rb b_new.seen = subst (λ k. Rise k rb b_new.seen) begin_b two.turn.rise in
    let from_me_w : Rise me.seen (receipts_of js) w_new.seen =
    subst (λ k. Rise k (receipts_of js) w_new.seen) begin_w office.turn.rise in
    let rise_a = made_rise me.seen a_new.seen one.turn.first ra (as_many a a_old a_new ra one.rest one.turn)
    from_me_a in
    let rise_b = made_rise me.seen b_new.seen two.turn.first rb (as_many b b_old b_new rb two.rest two.turn)
    from_me_b in
    let rise_w = made_rise me.seen w_new.seen (calls_of js) (receipts_of js) (length_jobs js) from_me_w in
    let ms = marks_of me.seen b_new.seen w_new.seen ga gb js office.of_two rise_b rise_w in
    let had_a : a_new.receipts ≡ me.receipts ++ ga =
    one.turn.gained_are ∙ ap (λ (c : Sight). c.receipts ++ ga) from_a in
    let had_b : b_new.receipts ≡ gb = two.turn.gained_are ∙ ap (λ (c : Sight). c.receipts ++ gb) from_b in
    let made_w : office.turn.first ≡ calls_of js =
    all_made (calls_of js) w_old w_new (receipts_of js) [] office.turn refl in
    let had_w : w_new.receipts ≡ gw =
    office.turn.gained_are ∙ ap (λ cs. w_old.receipts ++ gained cs (receipts_of js)) made_w
    ∙ ap (λ (c : Sight). c.receipts ++ gw) from_w in
    let all : out.receipts ≡ merged gw (merged gb (me.receipts ++ ga)) =
    ap (λ (c : Sight). c.receipts) is_out ∙ ap (λ xs. merged xs (merged b_new.receipts a_new.receipts)) had_w
    ∙ ap (λ xs. merged gw (merged xs a_new.receipts)) had_b ∙ ap (λ xs. merged gw (merged gb xs)) had_a in
    let top : out.seen ≡ max (max a_new.seen b_new.seen) w_new.seen = ap (λ (c : Sight). c.seen) is_out in
    let le_a : a_new.seen ≤ out.seen =
    subst (λ k. a_new.seen ≤ k) (sym top)
    (omega (arith, le-max_left a_new.seen b_new.seen, le-max_left (max a_new.seen b_new.seen) w_new.seen)) in
    let le_b : b_new.seen ≤ out.seen =
    subst (λ k. b_new.seen ≤ k) (sym top)
    (omega (arith, le-max_right a_new.seen b_new.seen, le-max_left (max a_new.seen b_new.seen) w_new.seen)) in
    let le_w : w_new.seen ≤ out.seen =
    subst (λ k. w_new.seen ≤ k) (sym top) (le-max_right (max a_new.seen b_new.seen) w_new.seen) in
    let le_me : me.seen ≤ out.seen = omega (arith, goes_up me.seen a_new.seen ra from_me_a, le_a) in
    let named : out.names ≡ (lend (lend me.names) ++ fresh (next_of me.names)) ++ fresh (next_of (lend me.names)) =
    ap (λ (c : Sight). c.names) is_out
    ∙ ap (λ ns. (ns ++ b_new.names) ++ w_new.names) (one.turn.names ∙ ap (λ (c : Sight). c.names) from_a)
    ∙ ap (λ ns. (lend (lend me.names) ++ ns) ++ w_new.names) (two.turn.names ∙ ap (λ (c : Sight). c.names) from_b)
    ∙ ap (λ ns. (lend (lend me.names) ++ fresh (next_of me.names)) ++ ns)
    (office.turn.names ∙ ap (λ (c : Sight). c.names) from_w) in
    record {
      marked = ms.marked;
      receipts = all ∙ receipts_are me.receipts ga gb gw me.seen b_new.seen w_new.seen below rise_b rise_w
          ∙ ap (λ xs. me.receipts ++ xs) (sym ms.all_are);
      below = subst (AllByRecursion (λ (m : Made). m.number < out.seen)) (sym all)
          (all_below me.receipts ga gb gw me.seen a_new.seen b_new.seen w_new.seen out.seen le_me le_a le_b le_w below
          rise_a rise_b rise_w);
      all = λ none. let stops = neither (graver sa sb) so (sym is_stopped ∙ none) in let images =
          neither sa sb stops.0 in
          all_are_made p q a b a_old b_old w_old a_new b_new w_new rp rq ra rb sa sb so one two office ms images.0
          images.1 stops.1;
      tag = ap (λ (c : Sight). c.tag) is_out ∙ one.turn.tag ∙ ap (λ (c : Sight). c.tag) from_a;
      origin = ap (λ (c : Sight). c.origin) is_out ∙ one.turn.origin ∙ ap (λ (c : Sight). c.origin) from_a;
      whole = subst (λ ns. is_whole ns ≡ true) (sym named) (whole_of_three me.names whole);
    }
