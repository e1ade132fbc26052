-- The steps of the loops over the statements of a deck.
use Rattle.std.proofs.Common.{◌≡◌, ℕ, ◌+◌, ◌<◌, ◌≤◌, true, false, List, [], length, get_or, drop, Ok, Err, refl}
use Rattle.std.proofs.Math.ListN.{drop_of_length-le}
use Rattle.iocm_types.specs.declared.fault.Fault.{Fault}
use Rattle.iocm_statements.specs.declared.statement.Statement.{Statement}
use Rattle.iocm_model.specs.Machine.Record.{ImageRecord}
use Rattle.iocm_record_reader.specs.Progress.{Progress}
use Rattle.iocm_record_reader.specs.Deck.{machine_images, images_or_none, is_resource, read_from, progress_after}
use Rattle.iocm_types.proofs.Lists.{drop-item}

-- the RESOURCE statement decides
pub machine_here : (ss : List Statement) (i : ℕ) (s : Statement) → i < length ss → s ≡ get_or ss i s
    → is_resource s.operation ≡ true
    → machine_images (drop i ss) ≡ images_or_none s
machine_here ss i s within item is = rw (drop-item ss i s within item, is) refl

-- any other statement leaves it to the rest
pub machine_later : (ss : List Statement) (i : ℕ) (s : Statement) → i < length ss → s ≡ get_or ss i s
    → is_resource s.operation ≡ false
    → machine_images (drop i ss) ≡ machine_images (drop (i + 1) ss)
machine_later ss i s within item is = rw (drop-item ss i s within item, is) refl

-- there is none
pub machine_none : (ss : List Statement) (i : ℕ) → length ss ≤ i → machine_images (drop i ss) ≡ []
machine_none ss i past = rw (drop_of_length-le ss past) refl

pub ruleset machine_steps = (machine_here, machine_later, machine_none)

-- a statement that was read
pub read_on : (images : List ImageRecord) (p q : Progress) (ss : List Statement) (i : ℕ) (s : Statement) → i < length ss
    → s ≡ get_or ss i s
    → progress_after images p s ≡ Ok q → read_from images p (drop i ss) ≡ read_from images q (drop (i + 1) ss)
unfolding read_from
read_on images p q ss i s within item is = rw (drop-item ss i s within item, is) refl

-- a statement that is refused
pub read_refused : (images : List ImageRecord) (p : Progress) (ss : List Statement) (i : ℕ) (s : Statement) (f : Fault)
    → i < length ss → s ≡ get_or ss i s
    → progress_after images p s ≡ Err f → read_from images p (drop i ss) ≡ Err f
unfolding read_from
read_refused images p ss i s f within item is = rw (drop-item ss i s within item, is) refl

-- after the last statement
pub read_done : (images : List ImageRecord) (p : Progress) (ss : List Statement) (i : ℕ) → length ss ≤ i
    → read_from images p (drop i ss) ≡ Ok p.records
unfolding read_from
read_done images p ss i past = rw (drop_of_length-le ss past) refl

pub ruleset read_steps = (read_on, read_refused, read_done)
