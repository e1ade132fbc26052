-- The pieces between the blanks that aren't empty are what the chain yields.
use Rattle.std.proofs.Common.{rules, not}
use Rattle.std.proofs.lemmas.Iterator.Consumers.{map_from_collect, YieldsList-from_filter}
use Rattle.std.proofs.lemmas.Iterator.Splits.{YieldsList-from_slice_split}
use borrow.Author.Tests.{tests}
use Rattle.iocm_script.specs.Words.{is_blank, is_empty}
use Rattle.iocm_script.proofs.words.words.Goals as goal

pub returns : goal.returns
returns c =
    map_from_collect _ c.collect.ensures.ran
    (YieldsList-from_filter _ (λ piece. not (is_empty piece))
    (YieldsList-from_slice_split _ is_blank c.args.line.now (cc) (cc) (cc) (λ x b q k. search (rules, tests)))
    c.filter.ensures.closure (λ x b q k. search (rules, tests)))
