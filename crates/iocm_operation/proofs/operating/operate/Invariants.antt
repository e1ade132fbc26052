use Rattle.iocm_operation.proofs.operating.operate.Given as goal

-- the tags name the table of the blank board, and the core with which that was made
abbrev pub ghosts-operate_named : goal.ghosts-operate_named
ghosts-operate_named g a =
    record { table = λ tag. a.blank.table.shared.table_id; origin = λ tag. a.blank.keeper.me.0.origin }
