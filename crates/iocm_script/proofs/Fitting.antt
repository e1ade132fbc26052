-- No round of a script has more lines of operators than the queue has room for.
use Rattle.std.proofs.Common.{◌≡◌, ℕ, ◌+◌, ◌<◌, ◌≤◌, ◌&&◌, Bool, true, false, cond, nat_le, Option, Some, None, List}
use Rattle.std.proofs.Common.{[], ◌∷◌, length, get_or, take, drop, map, Result, Ok, Err, refl, sym, ap, ◌∙◌, subst}
use Rattle.std.proofs.Common.{arith}
use Rattle.std.specs.List.{All, filter_map, onto_first, slice_split}
use Rattle.std.proofs.lemmas.List.{drop_more, length-drop}
use Rattle.std.proofs.lemmas.List.Elements.{All-cons, All-nil}
use Rattle.std.proofs.lemmas.List.Sums.{sum_by-cons}
use borrow.Author.Tests.{leb-false}
use Rattle.iocm_types.specs.declared.fault.Fault.{Fault}
use Rattle.iocm_types.specs.declared.rule.Rule.TheVariants.{K1, K2, K3}
use Rattle.iocm_types.specs.Each.{each}
use Rattle.iocm_types.specs.Fault.{◌>>=◌, at, or_fault}
use Rattle.iocm_columns.specs.declared.card.Card.{Card}
use Rattle.iocm_script.specs.declared.line.Line as code
use Rattle.iocm_script.specs.declared.line.Spoken.{Spoken}
use Rattle.iocm_script.specs.declared.line.Spoken.TheVariants.{Nothing, Sync, Line}
use Rattle.iocm_script.specs.Lines.{is_operators, is_operators_said, is_sync, is_too_many, lines_of, names_no_deck}
use Rattle.iocm_script.specs.Lines.{operators_after, operators_in, spoken_on}
use Rattle.iocm_script.specs.Scripts.{FitsQueue, Rounds, line_said, operator_lines, rounds_of}
use Rattle.iocm_script.proofs.Counting.{one_card_more, reader}

-- rounds of which the first has so many lines of operators before it, and all have room
abbrev Fit : ℕ → Rounds → Type 0
Fit n [] = n ≤ 14
Fit n (r ∷ rs) = (n + operator_lines r ≤ 14) × All FitsQueue rs

all_fit : (rounds : Rounds) → Fit 0 rounds → All FitsQueue rounds
all_fit [] fit = All-nil FitsQueue
all_fit (r ∷ rs) fit = All-cons FitsQueue r rs (let few : 0 + operator_lines r ≤ 14 = fit.0 in omega arith) fit.1

-- ---- one line in front

nothing_fits : (n : ℕ) (pieces : List (List Spoken)) → Fit n (map (filter_map line_said) pieces)
    → Fit n (map (filter_map line_said) (onto_first Nothing pieces))
nothing_fits n [] fit = (omega arith, All-nil FitsQueue)
nothing_fits n (p ∷ ps) fit = fit

more_fits : (n k : ℕ) (e : Bool) (all : ℕ) → all ≡ cond e 1 0 + k → cond e (n + 1) n + k ≤ 14 → n + all ≤ 14
more_fits n k true all is fit = omega arith
more_fits n k false all is fit = omega arith

counted_first : (l : code.Line) (ls : List code.Line)
    → operator_lines (l ∷ ls) ≡ cond (is_operators_said l.said) 1 0 + operator_lines ls
counted_first l ls = sum_by-cons (λ (l : code.Line). cond (is_operators_said l.said) 1 0) l ls

line_fits : (n : ℕ) (l : code.Line) (pieces : List (List Spoken))
    → Fit (cond (is_operators_said l.said) (n + 1) n) (map (filter_map line_said) pieces)
    → Fit n (map (filter_map line_said) (onto_first (Line l) pieces))
line_fits n l [] fit = (
  more_fits n 0 (is_operators_said l.said) (operator_lines (l ∷ [])) (counted_first l []) (omega (arith, fit)),
  All-nil FitsQueue,
)
line_fits n l (p ∷ ps) fit =
    let ls = filter_map line_said p in (
      more_fits n (operator_lines ls) (is_operators_said l.said) (operator_lines (l ∷ ls)) (counted_first l ls) fit.0,
      fit.1,
    )

one_more_fits : (n : ℕ) (s : Spoken) (ss : List Spoken) → n ≤ 14 → Fit (operators_after n s) (rounds_of ss)
    → Fit n (rounds_of (s ∷ ss))
one_more_fits n Nothing ss small fit = nothing_fits n (slice_split is_sync ss) fit
one_more_fits n Sync ss small fit = (omega arith, all_fit (rounds_of ss) fit)
one_more_fits n (Line l) ss small fit = line_fits n l (slice_split is_sync ss) fit

-- ---- what is known of a line that is read

read_as : (n : ℕ) (e f : Bool) (line : ℕ) (t s : Spoken) → is_too_many n t ≡ f
    → cond e (Err (at K2 line)) (cond f (Err (at K3 line)) (Ok t)) ≡ Ok s → (t ≡ s) × (is_too_many n t ≡ false)
read_as n true f line t s is ok = cc
read_as n false true line t s is ok = cc
read_as n false false line t s is ok = (cc, is)

-- it is what the card is, and not one too many
read_so : (changes n line : ℕ) (found : Option Spoken) (s : Spoken)
    → (or_fault (at K1 line) found >>= λ t.
    cond (names_no_deck changes t) (Err (at K2 line)) (cond (is_too_many n t) (Err (at K3 line)) (Ok t))) ≡ Ok s
    → (found ≡ Some s) × (is_too_many n s ≡ false)
read_so changes n line None s ok = cc
read_so changes n line (Some t) s ok =
    let known = read_as n (names_no_deck changes t) (is_too_many n t) line t s refl ok in
    (ap Some known.0, ap (is_too_many n) (sym known.0) ∙ known.1)

few_after : (n : ℕ) (e : Bool) → n ≤ 14 → (e ≡ true → nat_le 14 n ≡ false) → cond e (n + 1) n ≤ 14
few_after n true small room = let below : n < 14 = leb-false 14 n (room refl) in omega arith
few_after n false small room = small

few_more : (n : ℕ) (s : Spoken) → n ≤ 14 → is_too_many n s ≡ false → operators_after n s ≤ 14
few_more n Nothing small few = small
few_more n Sync small few = omega arith
few_more n (Line l) small few =
    few_after n (is_operators (Line l)) small (λ is. ap (λ e. e && nat_le 14 n) (sym is) ∙ few)

-- ---- all lines

from_first : (n : ℕ) (first : Result Spoken Fault) (rest : Result (List Spoken) Fault) (ss : List Spoken)
    → ((s : Spoken) (ys : List Spoken) → first ≡ Ok s → rest ≡ Ok ys → Fit n (rounds_of (s ∷ ys)))
    → (first >>= λ y. rest >>= λ ys. Ok (y ∷ ys)) ≡ Ok ss → Fit n (rounds_of ss)
from_first n (Ok s) (Ok ys) ss make is =
    subst (λ ss. Fit n (rounds_of ss)) (let same : s ∷ ys ≡ ss = cc in same) (make s ys refl refl)
from_first n (Ok s) (Err e) ss make is = absurd cc
from_first n (Err e) rest ss make is = absurd cc

fits : (changes : ℕ) (cards : List Card) (i : ℕ) (rest : List Card) (ss : List Spoken) → rest ≡ drop i cards
    → operators_in (take i cards) ≤ 14
    → each (reader changes cards) i rest ≡ Ok ss → Fit (operators_in (take i cards)) (rounds_of ss)
unfolding each
fits changes cards i [] ss behind small is =
    subst (λ ss. Fit (operators_in (take i cards)) (rounds_of ss)) (let same : [] ≡ ss = cc in same)
    (omega arith, All-nil FitsQueue)
fits changes cards i (c ∷ cs) ss behind small is =
    let within : i < length cards = omega (arith, length-drop i cards, ap length behind) in
    let more = drop_more cards i c within in
    let item : c ≡ get_or cards i c = cc in
    let later : cs ≡ drop (i + 1) cards = cc in
    from_first (operators_in (take i cards)) (reader changes cards i c) (each (reader changes cards) (i + 1) cs) ss
    (λ s ys ok oks.
    let so = read_so changes (operators_in (take i cards)) c.line (spoken_on c) s ok in
    let after = one_card_more cards i c s (operators_in (take i cards)) within item so.0 refl in
    let few : operators_in (take (i + 1) cards) ≤ 14 =
    subst (λ m. m ≤ 14) after (few_more (operators_in (take i cards)) s small so.1) in
    one_more_fits (operators_in (take i cards)) s ys small
    (subst (λ m. Fit m (rounds_of ys)) (sym after) (fits changes cards (i + 1) cs ys later few oks)))
    is

-- the rounds of lines that were read have room
pub rounds_fit : (changes : ℕ) (cards : List Card) (lines : List Spoken) → lines_of changes cards ≡ Ok lines
    → All FitsQueue (rounds_of lines)
rounds_fit changes cards lines is = all_fit (rounds_of lines) (fits changes cards 0 cards lines refl (omega arith) is)
