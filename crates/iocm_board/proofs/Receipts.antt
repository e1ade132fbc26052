-- Receipts, where an entry comes, and where seats are split and joined.
use Rattle.std.proofs.Common.{◌≡◌, ◌<◌, ◌≤◌, ◌+◌, ℕ, suc, List, [], ◌∷◌, ◌++◌, length, Bool, true, false, true≢false}
use Rattle.std.proofs.Common.{cond, ◌||◌, nat_lt, refl, sym, ap, ◌∙◌, arith}
use Rattle.std.specs.List.{AllByRecursion}
use Rattle.std.proofs.lemmas.Bool.Decides.{nat_tests}
use mathlib.Core.Option.{some}
use lib.ListN.{get_elem?}
use Rattle.iocm_core.specs.declared.trace.Entry.{Entry}
use Rattle.iocm_board.specs.declared.view.Borne.{Borne}
use Rattle.iocm_board.specs.declared.view.Made.{Made}
use Rattle.iocm_board.specs.Names.{Name, bears, lend}
use Rattle.iocm_board.specs.Receipts.{made, entries_of, names_of, made_by, numbered, put_in, merged}
use Rattle.iocm_board.proofs.SameNames.{bears_append, bears_lend}

chosen : (t : Bool) (m : Made) (ms ns : List Made) → cond t (m ∷ (ms ++ ns)) (ms ++ ns) ≡ cond t (m ∷ ms) ms ++ ns
chosen true m ms ns = refl
chosen false m ms ns = refl

-- a call of the seat
pub made_hit : (bs : List Borne) (k : ℕ) (ss : List (Entry × Name)) (e : Entry) (n : Name) → bears bs n ≡ true
    → made_by bs k (ss ++ (e, n) ∷ []) ≡ made_by bs k ss ++ made (k + length ss) e ∷ []
made_hit bs k [] e n hit =
    ap (λ t. cond t (made k e ∷ []) []) hit ∙ ap (λ j. made j e ∷ []) (let h : k ≡ k + 0 = omega arith in h)
made_hit bs k (s ∷ ss) e n hit =
    let rec = made_hit bs (suc k) ss e n hit
    ∙ ap (λ j. made_by bs (suc k) ss ++ made j e ∷ [])
    (let h : suc k + length ss ≡ k + suc (length ss) = omega arith in h) in
    ap (λ ms. cond (bears bs s.1) (made k s.0 ∷ ms) ms) rec
    ∙ chosen (bears bs s.1) (made k s.0) (made_by bs (suc k) ss) (made (k + suc (length ss)) e ∷ [])

-- a call of another
pub made_miss : (bs : List Borne) (k : ℕ) (ss : List (Entry × Name)) (e : Entry) (n : Name) → bears bs n ≡ false
    → made_by bs k (ss ++ (e, n) ∷ []) ≡ made_by bs k ss
made_miss bs k [] e n miss = ap (λ t. cond t (made k e ∷ []) []) miss
made_miss bs k (s ∷ ss) e n miss =
    ap (λ ms. cond (bears bs s.1) (made k s.0 ∷ ms) ms) (made_miss bs (suc k) ss e n miss)

-- a name more that is lent
pub made_lend : (bs : List Borne) (k : ℕ) (ss : List (Entry × Name)) → made_by (lend bs) k ss ≡ made_by bs k ss
made_lend bs k [] = refl
made_lend bs k (s ∷ ss) =
    λ i. cond (bears_lend bs s.1 i) (made k s.0 ∷ made_lend bs (suc k) ss i) (made_lend bs (suc k) ss i)

-- no name
pub made_none : (k : ℕ) (ss : List (Entry × Name)) → made_by [] k ss ≡ []
made_none k [] = refl
made_none k (s ∷ ss) = made_none (suc k) ss

-- names under which nothing was made
pub made_nothing : (bs : List Borne) (k : ℕ) (ss : List (Entry × Name))
    → ((i : ℕ) (n : Name) → get_elem? (names_of ss) i ≡ some n → bears bs n ≡ false) → made_by bs k ss ≡ []
made_nothing bs k [] h = refl
made_nothing bs k (s ∷ ss) h =
    ap (λ t. cond t (made k s.0 ∷ made_by bs (suc k) ss) (made_by bs (suc k) ss)) (h 0 s.1 refl)
    ∙ made_nothing bs (suc k) ss (λ i n e. h (suc i) n e)

-- names under which all were made
pub made_all : (bs : List Borne) (k : ℕ) (ss : List (Entry × Name))
    → ((i : ℕ) (n : Name) → get_elem? (names_of ss) i ≡ some n → bears bs n ≡ true)
    → made_by bs k ss ≡ numbered k (entries_of ss)
made_all bs k [] h = refl
made_all bs k (s ∷ ss) h =
    ap (λ t. cond t (made k s.0 ∷ made_by bs (suc k) ss) (made_by bs (suc k) ss)) (h 0 s.1 refl)
    ∙ ap (λ ms. made k s.0 ∷ ms) (made_all bs (suc k) ss (λ i n e. h (suc i) n e))

-- ---- two seats

abbrev From : ℕ → List Made → Type 0
From k ms = AllByRecursion (λ (m : Made). k ≤ m.number) ms

from_less : (k l : ℕ) → k ≤ l → (ms : List Made) → From l ms → From k ms
from_less k l le [] h = tt
from_less k l le (m ∷ ms) h = let a = h.0 in (omega (arith, a, le), from_less k l le ms h.1)

from_if : (t : Bool) (k : ℕ) (e : Entry) (ms : List Made) → From (suc k) ms → From k (cond t (made k e ∷ ms) ms)
from_if true k e ms h = (omega arith, from_less k (suc k) (omega arith) ms h)
from_if false k e ms h = from_less k (suc k) (omega arith) ms h

made_from : (bs : List Borne) (k : ℕ) (ss : List (Entry × Name)) → From k (made_by bs k ss)
made_from bs k [] = tt
made_from bs k (s ∷ ss) = from_if (bears bs s.1) k s.0 (made_by bs (suc k) ss) (made_from bs (suc k) ss)

less : (m n : ℕ) → m < n → nat_lt m n ≡ true
less m n h = grind (arith, nat_tests)

not_less : (m n : ℕ) → n ≤ m → nat_lt m n ≡ false
not_less m n h = grind (arith, nat_tests)

put_first : (m : Made) (ms : List Made) → From (suc m.number) ms → put_in m ms ≡ m ∷ ms
put_first m [] h = refl
put_first m (x ∷ xs) h = let a = h.0 in
    ap (λ t. cond t (m ∷ x ∷ xs) (x ∷ put_in m xs)) (less m.number x.number (omega (arith, a)))

put_behind : (m x : Made) (xs : List Made) → x.number ≤ m.number → put_in m (x ∷ xs) ≡ x ∷ put_in m xs
put_behind m x xs h = ap (λ t. cond t (m ∷ x ∷ xs) (x ∷ put_in m xs)) (not_less m.number x.number h)

merged_over : (ms : List Made) (x : Made) (xs : List Made) → From (suc x.number) ms
    → merged ms (x ∷ xs) ≡ x ∷ merged ms xs
merged_over [] x xs h = refl
merged_over (m ∷ ms) x xs h =
    let a = h.0 in
    ap (put_in m) (merged_over ms x xs h.1) ∙ put_behind m x (merged ms xs) (omega (arith, a))

join_if : (a b : Bool) (k : ℕ) (e : Entry) (xs ys zs : List Made) → (b ≡ true → a ≡ false) → From (suc k) zs
    → From (suc k) ys → zs ≡ merged ys xs
    → cond (a || b) (made k e ∷ zs) zs ≡ merged (cond b (made k e ∷ ys) ys) (cond a (made k e ∷ xs) xs)
join_if true true k e xs ys zs one from ys_from is = absurd (true≢false (one refl))
join_if true false k e xs ys zs one from ys_from is =
    ap (λ l. made k e ∷ l) is ∙ sym (merged_over ys (made k e) xs ys_from)
join_if false true k e xs ys zs one from ys_from is = sym (put_first (made k e) zs from) ∙ ap (put_in (made k e)) is
join_if false false k e xs ys zs one from ys_from is = is

-- the receipts of both
pub made_both : (bs cs : List Borne) (k : ℕ) (ss : List (Entry × Name))
    → ((n : Name) → bears cs n ≡ true → bears bs n ≡ false)
    → made_by (bs ++ cs) k ss ≡ merged (made_by cs k ss) (made_by bs k ss)
made_both bs cs k [] apart = refl
made_both bs cs k (s ∷ ss) apart =
    let rest = made_both bs cs (suc k) ss apart in
    ap (λ t. cond t (made k s.0 ∷ made_by (bs ++ cs) (suc k) ss) (made_by (bs ++ cs) (suc k) ss))
    (bears_append bs cs s.1)
    ∙ join_if (bears bs s.1) (bears cs s.1) k s.0 (made_by bs (suc k) ss) (made_by cs (suc k) ss)
    (made_by (bs ++ cs) (suc k) ss) (apart s.1)
    (made_from (bs ++ cs) (suc k) ss) (made_from cs (suc k) ss) rest

-- ---- receipts below what was seen

abbrev Below : ℕ → List Made → Type 0
Below k ms = AllByRecursion (λ (m : Made). m.number < k) ms

pub below_more : (k l : ℕ) → k ≤ l → (ms : List Made) → Below k ms → Below l ms
below_more k l le [] h = tt
below_more k l le (m ∷ ms) h = let a = h.0 in (omega (arith, a, le), below_more k l le ms h.1)

pub below_last : (k : ℕ) (ms : List Made) (m : Made) → Below k ms → m.number < k → Below k (ms ++ m ∷ [])
below_last k [] m h one = (one, tt)
below_last k (x ∷ xs) m h one = (h.0, below_last k xs m h.1 one)

below_if : (t : Bool) (k : ℕ) (m x : Made) (xs ys : List Made) → Below k (m ∷ x ∷ xs) → Below k (x ∷ ys)
    → Below k (cond t (m ∷ x ∷ xs) (x ∷ ys))
below_if true k m x xs ys a b = a
below_if false k m x xs ys a b = b

below_put : (k : ℕ) (m : Made) (ms : List Made) → m.number < k → Below k ms → Below k (put_in m ms)
below_put k m [] one h = (one, tt)
below_put k m (x ∷ xs) one h =
    below_if (nat_lt m.number x.number) k m x xs (put_in m xs) (one, h) (h.0, below_put k m xs one h.1)

pub below_merged : (k : ℕ) (ms ns : List Made) → Below k ms → Below k ns → Below k (merged ms ns)
below_merged k [] ns h g = g
below_merged k (m ∷ ms) ns h g = below_put k m (merged ms ns) h.0 (below_merged k ms ns h.1 g)
