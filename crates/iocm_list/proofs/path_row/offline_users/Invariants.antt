-- The names so far.
use Rattle.std.proofs.Common.{◌≡◌, not, filter, take}
use Rattle.iocm_record.specs.Meaning.{path_of}
use Rattle.iocm_list.specs.PathRows.{has_online}
use Rattle.iocm_list.proofs.path_row.offline_users.Given as goal

abbrev pub invariant-loop-name : goal.invariant-loop-name
invariant-loop-name l = l.names.items
    ≡ filter (λ name. not (has_online l.config.records (path_of l.path) name)) (take l.name-index l.users)
