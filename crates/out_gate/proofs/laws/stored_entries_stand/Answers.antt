use Rattle.plain_model.specs.Objects.{page_of_channel}
use Rattle.out_gate.specs.Entries.{entry_at, place_bytes}
use Rattle.out_gate.proofs.Places.{other_page, others_kept, own_page, stands}
use Rattle.out_gate.proofs.laws.stored_entries_stand.Goals as goal

pub returns-clause-there : goal.returns-clause-there
returns-clause-there c content channel number entry some most =
    rw (own_page content channel number entry) (stands (content (page_of_channel channel)) number entry some most)

pub returns-clause-others : goal.returns-clause-others
returns-clause-others c content channel number other entry before most less near had =
    rw (own_page content channel number entry) (others_kept (content (page_of_channel channel)) number other entry before most less near had)

pub returns-clause-pages : goal.returns-clause-pages
returns-clause-pages c content channel number page entry ne =
    other_page content (page_of_channel channel) (entry_at number) page (place_bytes entry) ne
