use Rattle.page_store.proofs.Names.{Log, Flash}
use Rattle.page_store.proofs.reading.read_disk.Goals as goal

pub returns-in_err-read_page-clause-flash : goal.returns-in_err-read_page-clause-flash
returns-in_err-read_page-clause-flash g c = c.read_page.ensures.others Flash (λ same. cc)

pub returns-in_err-read_page-clause-log : goal.returns-in_err-read_page-clause-log
returns-in_err-read_page-clause-log g c = c.read_page.ensures.others Log (λ same. cc)

pub returns-clause-flash : goal.returns-clause-flash
returns-clause-flash g c = c.read_page.ensures.others Flash (λ same. cc)

pub returns-clause-log : goal.returns-clause-log
returns-clause-log g c = c.read_page.ensures.others Log (λ same. cc)
