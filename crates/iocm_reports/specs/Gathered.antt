-- What reports gather in memory: what was seen at subchannels before edits altered them, and the pairs of
-- access lists.
use Rattle.std.specs.Prelude.{List, map, Option, ℕ, fold}
use Rattle.std.specs.List.{flat_map}
use Rattle.iocm_types.specs.declared.sub_id.SubId.{SubId}
use Rattle.iocm_types.specs.declared.view.View.{View}
use Rattle.iocm_model.specs.Operation.State.{State, seen_in}
use Rattle.iocm_seats.specs.declared.view_change.ViewChange.{ViewChange}
use Rattle.iocm_plant.specs.declared.touched.Touched.{Touched}
use Rattle.std.specs.FinMap.{FinMap, insert}
use Rattle.iocm_types.specs.declared.key.Key.{Key}
use Rattle.iocm_types.specs.declared.key.Key.TheVariants.{Online}
use Rattle.iocm_types.specs.Key.{key_cmp}
use Rattle.iocm_model.specs.Machine.Record.{PathRecord}

-- what was seen at a subchannel
abbrev pub SeenRow : Type 0
SeenRow = SubId × Option View

-- the subchannels of changes, each with what was seen there before
abbrev pub seen_before : List ViewChange → List SeenRow
seen_before changes = map (λ (c : ViewChange). (c.subchannel, c.before)) changes

-- the same of edits, edit by edit
abbrev pub seen_before_edits : List Touched → List SeenRow
seen_before_edits performed = flat_map (λ (t : Touched). seen_before t.subchannels.items) performed

-- the row of a subchannel in the state that a change left
abbrev pub row_of : State → SeenRow → ViewChange
row_of t e = record { subchannel = e.0; before = e.1; after = seen_in t e.0 }

-- some keys
abbrev pub Pairs : Type 0
Pairs = FinMap key_cmp (Unit {0})

-- the key of a path and an image
abbrev pub pair_of : PathRecord → List ℕ → Key
pair_of p name = Online p.css p.number name

-- some keys, and these
abbrev pub with_pairs : Pairs → List Key → Pairs
with_pairs m ks = fold (λ (n : Pairs) k. insert n k tt) m ks
