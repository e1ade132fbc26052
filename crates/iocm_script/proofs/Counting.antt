-- How many lines of operators a round has so far, card by card.
use Rattle.std.proofs.Common.{◌≡◌, ℕ, ◌+◌, ◌<◌, Bool, true, false, not, cond, Option, Some, List, [], ◌∷◌, ◌++◌, length}
use Rattle.std.proofs.Common.{get_or, take, drop, reverse, Result, Ok, Err, inl, inr, refl, sym, ap, ◌∙◌, arith}
use Rattle.std.specs.List.{count_by, take_while}
use Rattle.std.specs.Option.{option_map_or}
use Rattle.std.proofs.lemmas.List.{reverse-append, take_more}
use Rattle.std.proofs.lemmas.List.Sums.{take_while-cons, sum_by-cons}
use Rattle.iocm_types.specs.declared.fault.Fault.{Fault}
use Rattle.iocm_types.specs.Each.{each, after_front}
use Rattle.iocm_types.proofs.Each.{each_fails, each_goes_on}
use Rattle.iocm_types.specs.Fault.{Fails}
use Rattle.iocm_columns.specs.declared.card.Card.{Card}
use Rattle.iocm_script.specs.declared.line.Spoken.{Spoken}
use Rattle.iocm_script.specs.declared.line.Spoken.TheVariants.{Nothing, Sync, Line}
use Rattle.iocm_script.specs.Lines.{spoken_on, is_operators, is_sync, operators_in, operators_after, spoken_at}

-- a card that counts, and one that ends the round before it
abbrev counts : Option Spoken → Bool
counts s = option_map_or is_operators s false

abbrev ends : Option Spoken → Bool
ends s = option_map_or is_sync s false

-- the same of cards from the last to the first
abbrev back : List Card → ℕ
back cards = count_by (λ c. counts (spoken_on c)) (take_while (λ c. not (ends (spoken_on c))) cards)

abbrev stepped : ℕ → Option Spoken → ℕ
stepped n s = cond (not (ends s)) (cond (counts s) 1 0 + n) 0

counted : (b : Bool) (c : Card) (ys : List Card)
    → count_by (λ c. counts (spoken_on c)) (cond b (c ∷ ys) [])
    ≡ cond b (cond (counts (spoken_on c)) 1 0 + count_by (λ c. counts (spoken_on c)) ys) 0
counted true c ys = sum_by-cons (λ c. cond (counts (spoken_on c)) 1 0) c ys
counted false c ys = refl

back_more : (c : Card) (cards : List Card) → back (c ∷ cards) ≡ stepped (back cards) (spoken_on c)
back_more c cards =
    let rest = take_while (λ (c : Card). not (ends (spoken_on c))) cards in
    ap (count_by (λ c. counts (spoken_on c))) (take_while-cons (λ c. not (ends (spoken_on c))) c cards)
    ∙ counted (not (ends (spoken_on c))) c rest

one_more : (e : Bool) (n : ℕ) → cond e 1 0 + n ≡ cond e (n + 1) n
one_more true n = omega arith
one_more false n = omega arith

steps_as : (n : ℕ) (s : Spoken) → stepped n (Some s) ≡ operators_after n s
steps_as n Nothing = omega arith
steps_as n Sync = refl
steps_as n (Line l) = one_more (is_operators (Line l)) n

behind_one : (cards : List Card) (c : Card)
    → operators_in (cards ++ c ∷ []) ≡ stepped (operators_in cards) (spoken_on c)
behind_one cards c = ap back (reverse-append cards (c ∷ [])) ∙ back_more c (reverse cards)

-- behind one card more
pub one_card_more : (cards : List Card) (i : ℕ) (c : Card) (s : Spoken) (n : ℕ) → i < length cards
    → c ≡ get_or cards i c → spoken_on c ≡ Some s
    → n ≡ operators_in (take i cards) → operators_after n s ≡ operators_in (take (i + 1) cards)
one_card_more cards i c s n within item is count =
    let taken : take (i + 1) cards ≡ take i cards ++ c ∷ [] =
    take_more cards i c within ∙ ap (λ x. take i cards ++ x ∷ []) (sym item) in
    sym (ap operators_in taken ∙ behind_one (take i cards) c ∙ ap (stepped (operators_in (take i cards))) is
    ∙ ap (λ m. stepped m (Some s)) (sym count) ∙ steps_as n s)

-- what each card is, by the cards before it
abbrev pub reader : ℕ → List Card → ℕ → Card → Result Spoken Fault
reader changes cards i card = spoken_at changes (operators_in (take i cards)) card

at_place : (changes : ℕ) (cards : List Card) (i n : ℕ) (c : Card) (r : Result Spoken Fault)
    → n ≡ operators_in (take i cards)
    → spoken_at changes n c ≡ r → reader changes cards i c ≡ r
at_place changes cards i n c r count is = ap (λ m. spoken_at changes m c) (sym count) ∙ is

-- a card that is read goes to those before it
pub card_goes_on : (changes : ℕ) (front : List Spoken) (cards : List Card) (i n : ℕ) (c : Card) (s : Spoken)
    → i < length cards → c ≡ get_or cards i c
    → n ≡ operators_in (take i cards) → spoken_at changes n c ≡ Ok s
    → after_front front (each (reader changes cards) i (drop i cards))
    ≡ after_front (front ++ s ∷ []) (each (reader changes cards) (i + 1) (drop (i + 1) cards))
card_goes_on changes front cards i n c s within item count is =
    each_goes_on (reader changes cards) front cards i c s within item (at_place changes cards i n c (Ok s) count is)

-- a card that is refused refuses all
pub card_refused : (changes : ℕ) (front : List Spoken) (cards : List Card) (i n : ℕ) (c : Card) (f : Fault)
    (whole : Result (List Spoken) Fault)
    → i < length cards → c ≡ get_or cards i c → n ≡ operators_in (take i cards)
    → after_front front (each (reader changes cards) i (drop i cards)) ≡ whole → Fails f (spoken_at changes n c)
    → Fails f whole
card_refused changes front cards i n c f whole within item count all (inl memory) = inl memory
card_refused changes front cards i n c f whole within item count all (inr is) =
    inr (sym all ∙ each_fails (reader changes cards) front cards i c f within item
    (at_place changes cards i n c (Err f) count is))
