-- Each record of a configuration deck can be added, deleted and, unless it is an Online record,
-- modified.
use Rattle.std.proofs.Common.{List, [], ◌∷◌, All, subst}
use Rattle.std.proofs.lemmas.List.Elements.{All-nil, All-cons, All-head, All-tail, All-append, All-map}
use Rattle.std.proofs.lemmas.Result.{IfOk-at_ok}
use Rattle.std.specs.List.{flat_map}
use Rattle.iocm_model.specs.Machine.Record.{Rec, id, resource, image, limit, path, unit, device, online}
use Rattle.iocm_record_reader.specs.ChpidRecords.{online_to}
use Rattle.iocm_round_trip.specs.Again.{expanded}
use Rattle.iocm_round_trip.specs.Given.{IsGiven}
use Rattle.iocm_round_trip.proofs.GivenRecords.{gives_records}
use Rattle.iocm_round_trip.proofs.Whole.{AreOfDeck, records_are_of_deck}
use Rattle.iocm_tree_writer.specs.Again.{GivesActions}
use Rattle.iocm_tree_writer.specs.Given.{IsOfDecks}

one : (r : Rec) → IsOfDecks r → All IsOfDecks (r ∷ [])
one r is = All-cons IsOfDecks r [] is (All-nil IsOfDecks)

-- a record, and the online records of a path
record_of_decks : (r : Rec) → IsGiven r → All IsOfDecks (expanded r)
record_of_decks (id c) is = one (id c) (record { added = is; deleted = tt; modified = λ deck. is })
record_of_decks (resource c) is = one (resource c) (record { added = is; deleted = tt; modified = λ deck. is })
record_of_decks (image i) is =
    one (image i) (record {
      added = is;
      deleted = record { subsystem = is.css; some = is.some; most = is.most };
      modified = λ deck. is;
    })
record_of_decks (limit l) is =
    one (limit l) (record {
      added = is;
      deleted = record { subsystem = is.css; within = is.set };
      modified = λ deck. is;
    })
record_of_decks (path p) is =
    All-cons IsOfDecks (path p) _ (record { added = is; deleted = is.path; modified = λ deck. is })
    (All-map IsOfDecks (online_to p.css p.number) p.access (λ k d within. record {
      added = record { path = is.path; named = is.access.each k d within };
      deleted = record { path = is.path; named = is.access.each k d within };
      modified = λ deck. absurd deck;
    }))
record_of_decks (unit u) is = one (unit u) (record { added = is; deleted = is.number; modified = λ deck. is })
record_of_decks (device d) is =
    one (device d) (record {
      added = is;
      deleted = record { within = is.set; last = is.number };
      modified = λ deck. is;
    })
record_of_decks (online o) is = All-nil IsOfDecks

all_of_decks : (rs : List Rec) → All IsGiven rs → All IsOfDecks (flat_map expanded rs)
all_of_decks [] are = All-nil IsOfDecks
all_of_decks (r ∷ rs) are =
    All-append IsOfDecks (expanded r) (flat_map expanded rs) (record_of_decks r (All-head IsGiven r rs are))
    (all_of_decks rs (All-tail IsGiven r rs are))

pub gives_actions : GivesActions
gives_actions bytes records is =
    subst (All IsOfDecks) (IfOk-at_ok AreOfDeck is (records_are_of_deck bytes)).whole
    (all_of_decks records (gives_records bytes records is))
