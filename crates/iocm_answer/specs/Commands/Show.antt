-- What `show` prints of a deck.
use Rattle.std.specs.Prelude.{ℕ, List}
use Rattle.iocm_model.specs.Machine.Configuration.{Configuration}
use Rattle.iocm_model.specs.Machine.Numbering.{opening}
use Rattle.iocm_filter.specs.Wanted.{Wanted}
use Rattle.iocm_console.specs.Opening.{opened_deck}
use Rattle.iocm_console.specs.Shown.{Shown, done}
use Rattle.iocm_console.specs.Table.{table_in}
use Rattle.iocm_answer.specs.declared.manner.Manner.{Manner}
use Rattle.iocm_answer.specs.Manner.{shown_or_refused}

-- the table of the subchannels that are asked for, as the configuration is opened
abbrev pub showed_of : Manner → Wanted → Configuration → Shown
showed_of m w c = done (table_in m.form w c (opening c))

-- of a deck, if it is opened
abbrev pub showed : Manner → Wanted → List ℕ → Shown
showed m w deck = shown_or_refused m (showed_of m w) (opened_deck deck)
