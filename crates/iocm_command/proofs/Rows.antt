-- The steps of a loop that takes up the rows of a table.
use Rattle.std.proofs.Common.{◌≡◌, ℕ, ◌+◌, ◌<◌, ◌≤◌, List, length, get_or, drop, fold, map, refl, sym, ap, ◌∙◌}
use Rattle.std.proofs.Common.{false}
use Rattle.std.proofs.Math.ListN.{drop_of_length-le}
use Rattle.std.proofs.lemmas.List.{drop_more}
use Rattle.clap.specs.Words.{AddsSubcommand, App, app_of, with_subcommand}
use Rattle.clap.specs.declared.builder.command.Command.{Command}
use Rattle.iocm_command.specs.Program.{command_app, has_globals, seen_row, with_command}
use Rattle.iocm_command.specs.declared.table.Row.{Row}

-- a row is taken up, and those behind it are left
pub row_taken : {A B X : Type 0} (f : B → A → B) (look : X → A) (b : B) (rows : List X) (i : ℕ) (d : X)
    → i < length rows
    → fold f b (map look (drop i rows)) ≡ fold f (f b (look (get_or rows i d))) (map look (drop (i + 1) rows))
row_taken f look b rows i d within = rw (drop_more rows i d within) refl

-- at the end none is left
pub row_none : {A B X : Type 0} (f : B → A → B) (look : X → A) (b : B) (rows : List X) (i : ℕ) → length rows ≤ i
    → fold f b (map look (drop i rows)) ≡ b
row_none f look b rows i past = rw (drop_of_length-le rows past) refl

pub ruleset row_steps = (row_taken, row_none)

-- a command that was added is taken up, where it is that of the next row
pub command_taken : (old sub new : Command) (rows : List Row) (i : ℕ) (d : Row) (whole : App)
    → AddsSubcommand old sub new
    → has_globals sub ≡ false → app_of sub ≡ command_app (seen_row (get_or rows i d)) → i < length rows
    → fold with_command (app_of old) (map seen_row (drop i rows)) ≡ whole
    → fold with_command (app_of new) (map seen_row (drop (i + 1) rows)) ≡ whole
command_taken old sub new rows i d whole adds local same within is =
    ap (λ (a : App). fold with_command a (map seen_row (drop (i + 1) rows)))
    (adds.shape local ∙ ap (λ (a : App). with_subcommand (app_of old) a.top) same)
    ∙ sym (row_taken with_command seen_row (app_of old) rows i d within) ∙ is
