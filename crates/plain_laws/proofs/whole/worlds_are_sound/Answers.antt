use Rattle.plain_laws.proofs.ThreadInstructions.{KnowsTable}
use Rattle.plain_laws.proofs.SoundWorlds.{first_sound, stays_sound, always_sound}
use Rattle.plain_laws.proofs.whole.worlds_are_sound.Goals as goal

pub returns : goal.returns
returns c =
    let table : KnowsTable = record {
      form = λ word i e. c.one_row.ensures.in_range word i ((c.one_row.ensures.decoded word i).0 e);
      in_range = c.plans_in_range.ensures.in_range;
      aligned = c.plans_in_range.ensures.aligned;
    } in
    record {
      first = first_sound;
      kept = stays_sound table;
      always = λ image cores accepted bytes labels may inputs. always_sound table image cores labels accepted bytes may inputs;
    }
