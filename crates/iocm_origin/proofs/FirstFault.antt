-- The first of all faults is the one with which a deck is refused; and the loops that gather faults.
use Rattle.std.proofs.Common.{◌≡◌, ℕ, ◌+◌, None, List, [], ◌∷◌, Result, Ok, Err, refl, sym, ap, ◌∙◌, ◌<◌, ◌≤◌, Some}
use Rattle.std.proofs.Common.{Option, ◌++◌, length, get_or, drop, append_assoc}
use Rattle.std.specs.List.{cons_option, filter_map}
use Rattle.std.proofs.Math.ListN.{drop_of_length-le}
use Rattle.std.proofs.lemmas.List.{append-nil}
use Rattle.iocm_types.specs.declared.fault.Fault.{Fault}
use Rattle.iocm_types.specs.Fault.{◌>>=◌}
use Rattle.iocm_types.specs.Each.{each}
use Rattle.iocm_types.proofs.Lists.{drop-item}
use Rattle.iocm_columns.specs.declared.joined.Joined.{Joined}
use Rattle.iocm_model.specs.Machine.Record.{Rec}
use Rattle.iocm_statements.specs.declared.statement.Statement.{Statement}
use Rattle.iocm_statements.specs.Statement.{statement_of, parsed}
use Rattle.iocm_record_reader.specs.Deck.{deck_records}
use Rattle.iocm_origin.specs.Faults.{fault_of, text_faults, by_records, by_texts, statement_faults, first_of}
use Rattle.iocm_origin.specs.Faults.{FirstComesFirst, NoneWhereNoFirst}

-- of a statement and of those behind it
of_item : (given : Result Statement Fault) (faults : List Fault) (rest : Result (List Statement) Fault)
    → first_of faults ≡ fault_of rest
    → first_of (cons_option (fault_of (given >>= λ s. Ok [] >>= λ ss. Ok (s ∷ ss))) faults)
    ≡ fault_of (given >>= λ s. rest >>= λ ss. Ok (s ∷ ss))
of_item (Ok s) faults (Ok ss) same = same
of_item (Ok s) faults (Err f) same = same
of_item (Err f) faults rest same = refl

-- of texts the first fault is that of the first statement that has one
of_texts : (i : ℕ) (joined : List Joined)
    → first_of (text_faults joined) ≡ fault_of (each (λ _ j. statement_of j) i joined)
unfolding each
of_texts i [] = refl
of_texts i (j ∷ js) =
    of_item (statement_of j) (text_faults js) (each (λ _ x. statement_of x) (i + 1) js) (of_texts (i + 1) js)

-- of the records, by what is read of them
of_records : (read : Result (List Rec) Fault) (ss : List Statement) → first_of (by_records read ss) ≡ fault_of read
of_records (Ok records) ss = refl
of_records (Err f) ss = refl

-- of joined statements, by what is parsed of them
of_parsed : (joined : List Joined) (read : Result (List Statement) Fault) → parsed joined ≡ read
    → first_of (by_texts read joined) ≡ fault_of (read >>= deck_records)
of_parsed joined (Ok ss) is = of_records (deck_records ss) ss
of_parsed joined (Err f) is = of_texts 0 joined ∙ ap fault_of is

pub first_comes_first : FirstComesFirst
first_comes_first joined = of_parsed joined (parsed joined) refl

-- a list without a first is empty
empty_without : (fs : List Fault) → first_of fs ≡ None → fs ≡ []
empty_without [] none = refl
empty_without (f ∷ fs) none = cc

pub none_where_no_first : NoneWhereNoFirst
none_where_no_first joined = (
  λ none. sym (first_comes_first joined) ∙ ap first_of none,
  λ none. empty_without (statement_faults joined) (first_comes_first joined ∙ none),
)

-- what an item gives goes to what was gathered
pub gathers_one : {X Y : Type 0} (f : X → Option Y) (front : List Y) (xs : List X) (i : ℕ) (x : X) (y : Y)
    → i < length xs → x ≡ get_or xs i x → f x ≡ Some y
    → front ++ filter_map f (drop i xs) ≡ (front ++ y ∷ []) ++ filter_map f (drop (i + 1) xs)
gathers_one f front xs i x y within item is =
    rw (drop-item xs i x within item, is) (sym (append_assoc front (y ∷ []) (filter_map f (drop (i + 1) xs))))

-- an item that gives nothing is passed over
pub passes_over : {X Y : Type 0} (f : X → Option Y) (front : List Y) (xs : List X) (i : ℕ) (x : X)
    → i < length xs → x ≡ get_or xs i x → f x ≡ None
    → front ++ filter_map f (drop i xs) ≡ front ++ filter_map f (drop (i + 1) xs)
passes_over f front xs i x within item is = rw (drop-item xs i x within item, is) refl

-- at the end what was gathered is all
pub gathers_all : {X Y : Type 0} (f : X → Option Y) (front : List Y) (xs : List X) (i : ℕ)
    → length xs ≤ i → front ++ filter_map f (drop i xs) ≡ front
gathers_all f front xs i past = rw (drop_of_length-le xs past, append-nil front) refl

pub ruleset gathering_steps = (gathers_one, passes_over, gathers_all)

pub ruleset laws_of_faults = (first_comes_first, none_where_no_first)
