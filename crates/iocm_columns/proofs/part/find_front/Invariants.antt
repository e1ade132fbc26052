use Rattle.std.proofs.Common.{◌≡◌, ◌++◌, take, drop}
use Rattle.std.specs.List.{fold}
use Rattle.iocm_columns.specs.Part.{front, switched}
use Rattle.iocm_columns.proofs.part.find_front.Given as goal

abbrev pub invariant-loop-place : goal.invariant-loop-place
invariant-loop-place l = (take l.place l.columns ++ front l.inside (drop l.place l.columns) ≡ front l.quoting l.columns)
    × (l.inside ≡ fold switched l.quoting (take l.place l.columns))
