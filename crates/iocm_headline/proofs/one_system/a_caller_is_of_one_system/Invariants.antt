use Rattle.std.proofs.Common.{◌==◌, cond}
use Rattle.iocm_headline.proofs.one_system.a_caller_is_of_one_system.Given as goal

-- the tag 1 names the first board, with the core that it was made with, and every other tag the
-- second
abbrev pub ghosts-are_apart : goal.ghosts-are_apart
ghosts-are_apart a =
    record {
      table = λ tag. cond (tag == 1) a.blank.table.shared.table_id a.other_blank.table.shared.table_id;
      origin = λ tag. cond (tag == 1) a.blank.keeper.me.0.origin a.other_blank.keeper.me.0.origin;
    }
