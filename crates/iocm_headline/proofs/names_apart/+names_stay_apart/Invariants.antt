use Rattle.iocm_headline.proofs.names_apart.+names_stay_apart.Given as goal

-- the callers that are still to be split off
abbrev pub decreases-names_stay_apart : goal.decreases-names_stay_apart
decreases-names_stay_apart g l = l.count
