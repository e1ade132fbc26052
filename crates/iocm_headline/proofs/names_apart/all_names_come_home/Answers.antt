-- The first caller bears all names again.
use Rattle.iocm_headline.proofs.Homes.{all_come_home}
use Rattle.iocm_headline.proofs.names_apart.all_names_come_home.Goals as goal

pub returns : goal.returns
returns c n = all_come_home n
