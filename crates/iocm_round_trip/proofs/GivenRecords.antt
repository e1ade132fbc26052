-- Each record that a deck describes is one that decks give.
use Rattle.std.proofs.Common.{◌≡◌, ℕ, Bool, true, false, cond, Option, None, Some, List, [], ◌∷◌, ◌++◌, All, Err, codes}
use Rattle.std.proofs.Common.{refl}
use Rattle.std.proofs.lemmas.List.Elements.{All-nil, All-cons, All-head, All-tail, All-append}
use Rattle.std.proofs.lemmas.Result.{IfOk-at_ok}
use Rattle.std.specs.Option.{option_and_then, unwrap_or}
use Rattle.std.specs.Result.{IfOk}
use Rattle.iocm_types.specs.declared.fault.Fault.{Fault}
use Rattle.iocm_types.specs.declared.rule.Rule.{Rule}
use Rattle.iocm_types.specs.declared.rule.Rule.TheVariants.{S4, S8}
use Rattle.iocm_types.specs.Fault.{◌>>=◌, at}
use Rattle.iocm_types.proofs.Giving.{in_turn}
use Rattle.iocm_columns.specs.Statements.{joined_of}
use Rattle.iocm_model.specs.Machine.Record.{Rec, ImageRecord, key_of}
use Rattle.iocm_statements.specs.declared.statement.Statement.{Statement}
use Rattle.iocm_statements.specs.Operands.{text_under}
use Rattle.iocm_statements.specs.Statement.{parsed}
use Rattle.iocm_operands.specs.Again.{IsImage}
use Rattle.iocm_operands.specs.Resource.{images_of}
use Rattle.iocm_values.specs.Value.{value}
use Rattle.iocm_record_reader.specs.Deck.{records_unless, first_fault, read_statement, with_records, with_statement}
use Rattle.iocm_record_reader.specs.Deck.{progress_after, read_from, deck_records, is_resource, images_or_none}
use Rattle.iocm_record_reader.specs.Deck.{machine_images, nothing_read}
use Rattle.iocm_record_reader.specs.Progress.{Progress, has_key}
use Rattle.iocm_round_trip.specs.Again.{GivesRecords}
use Rattle.iocm_round_trip.specs.Given.{IsGiven}
use Rattle.iocm_round_trip.proofs.Fields.{images_are, statement_given}
use Rattle.iocm_round_trip.proofs.Shown.{IsCarriable, statements_carriable}

-- ---- the images of a machine

images_or_none_given : (s : Statement) → All IsImage (images_or_none s)
images_or_none_given s = by (text_under (codes "PARTITION") s.operands)
  where
    of : (text : List ℕ) (found : Option (List ImageRecord)) → images_of (value text) ≡ found
        → All IsImage (unwrap_or found [])
    of text None e = All-nil IsImage
    of text (Some images) e = images_are (value text) images e

    by : (text : Option (List ℕ)) → All IsImage (unwrap_or (option_and_then (λ t. images_of (value t)) text) [])
    by None = All-nil IsImage
    by (Some text) = of text (images_of (value text)) refl

-- a deck's RESOURCE statement gives them, or there are none
pub machine_images_given : (ss : List Statement) → All IsImage (machine_images ss)
machine_images_given [] = All-nil IsImage
machine_images_given (s ∷ ss) = by (is_resource s.operation) (images_or_none_given s) (machine_images_given ss)
  where
    by : (resource : Bool) → All IsImage (images_or_none s) → All IsImage (machine_images ss)
        → All IsImage (cond resource (images_or_none s) (machine_images ss))
    by true here rest = here
    by false here rest = rest

-- ---- the records of statements, one behind the other

-- further records go behind those that are there, unless one of them brings a key that is there
all_behind : (fault : Fault) (records rs : List Rec) → All IsGiven records → All IsGiven rs
    → IfOk (with_records fault records rs) (All IsGiven)
unfolding with_records
all_behind fault records [] first second = first
all_behind fault records (r ∷ rs) first second =
    let here = All-append IsGiven records (r ∷ []) first
    (All-cons IsGiven r [] (All-head IsGiven r rs second) (All-nil IsGiven)) in
    by (has_key records (key_of r)) (all_behind fault (records ++ r ∷ []) rs here (All-tail IsGiven r rs second))
  where
    by : (there : Bool) → IfOk (with_records fault (records ++ r ∷ []) rs) (All IsGiven)
        → IfOk (cond there (Err fault) (with_records fault (records ++ r ∷ []) rs)) (All IsGiven)
    by true more = tt
    by false more = more

unless_given : (fault : Option Rule) (images : List ImageRecord) (s : Statement) → All IsImage images → IsCarriable s
    → IfOk (records_unless fault images s) (All IsGiven)
unless_given (Some rule) images s images_are is = tt
unless_given None images s images_are is = statement_given (at S4 s.line) images s.operation s.operands images_are is

-- all that was read so far
abbrev HasGiven : Progress → Type 0
HasGiven p = All IsGiven p.records

after_given : (images : List ImageRecord) (p : Progress) (s : Statement) → All IsImage images → HasGiven p
    → IsCarriable s
    → IfOk (progress_after images p s) HasGiven
after_given images p s images_are so_far is =
    in_turn (All IsGiven) HasGiven (read_statement images p s) (with_statement (at S8 s.line) p s.operation)
    (unless_given (first_fault p s) images s images_are is)
    (λ rs are. in_turn (All IsGiven) HasGiven (with_records (at S8 s.line) p.records rs) _
    (all_behind (at S8 s.line) p.records rs so_far are) (λ all given. given))

all_given : (images : List ImageRecord) (p : Progress) (ss : List Statement) → All IsImage images → HasGiven p
    → All IsCarriable ss
    → IfOk (read_from images p ss) (All IsGiven)
unfolding read_from
all_given images p [] images_are so_far are = so_far
all_given images p (s ∷ ss) images_are so_far are =
    in_turn HasGiven (All IsGiven) (progress_after images p s) (λ q. read_from images q ss)
    (after_given images p s images_are so_far (All-head IsCarriable s ss are))
    (λ q given. all_given images q ss images_are given (All-tail IsCarriable s ss are))

-- ---- whatever bytes say

pub gives_records : GivesRecords
gives_records bytes records e =
    let given = in_turn (All IsCarriable) (All IsGiven) (joined_of bytes >>= parsed) deck_records
    (statements_carriable bytes)
    (λ ss are. all_given (machine_images ss) nothing_read ss (machine_images_given ss) (All-nil IsGiven) are) in
    IfOk-at_ok (All IsGiven) e given
