-- What is seen of a machine says the course that it is at.
use Rattle.std.specs.Prelude.{◌≡◌, ℕ, List, length}
use Rattle.std.proofs.Common.{refl, sym, ◌∙◌, inl}
use Rattle.std.proofs.lemmas.List.{length-replicate}
use Rattle.std.proofs.lemmas.List.FromFn.{length-map-range_with_len}
use Rattle.pmem_model.specs.Memory.{Memory, word_at}
use Rattle.plain_state.specs.Worlds.{World}
use Rattle.sls_base.specs.declared.fixed.TheConstants.{LEADER}
use Rattle.machine_contract.specs.Side.{IsSound, free_core}
use Rattle.machine_contract.specs.Courses.{Course}
use Rattle.machine_contract.specs.Shown.{IsShown}
use Rattle.kernel_machine.specs.declared.work.Work.{Work}
use Rattle.kernel_machine.specs.declared.work.Work.TheVariants as work
use Rattle.kernel_machine.specs.declared.kernel.Kernel.{Kernel}
use Rattle.kernel_machine.specs.Sides.{hand_of, hands_of, seen_of, side_of}
use Rattle.kernel_machine.specs.Formats.{format}
use Rattle.kernel_machine.specs.Worlds.{IsWorkOf}
use Rattle.kernel_machine.specs.Shows.{IsAt}
use Rattle.kernel_machine.proofs.SeenParts.{IsSeen, SeenLaws}
use Rattle.kernel_machine.proofs.SeenStarts.{formats_seen, recovers_seen}
use Rattle.kernel_machine.proofs.SeenRuns.{runs_seen}
use Rattle.kernel_machine.proofs.SeenSaves.{saves_seen}

-- each core has a hand
pub count_hands : (now : Work) (cores : ℕ) → length (hands_of now cores) ≡ cores
count_hands (work.Formats s) cores = length-replicate cores free_core
count_hands (work.Recovers s) cores = length-replicate cores free_core
count_hands (work.Runs k) cores = length-map-range_with_len (hand_of k) 0 cores
count_hands (work.Saves c) cores = length-map-range_with_len (hand_of c.running) 0 cores
count_hands work.Between cores = length-replicate cores free_core

pub work_seen : (laws : SeenLaws) (now : Work) (cores : ℕ) (accepted : List ℕ) (m : Memory) (w : World)
    → IsWorkOf now cores accepted m w → IsSeen now cores accepted m w
work_seen laws (work.Formats s) cores accepted m w h = formats_seen laws s cores accepted m w h
work_seen laws (work.Recovers s) cores accepted m w h = recovers_seen laws s cores accepted m w h
work_seen laws (work.Runs k) cores accepted m w h = runs_seen laws k cores accepted m w h
work_seen laws (work.Saves c) cores accepted m w h = saves_seen laws c cores accepted m w h
work_seen laws work.Between cores accepted m w h = absurd h

pub seen_at : (laws : SeenLaws) (k : Kernel) (c : Course) → IsAt k c
    → IsSeen k.work k.cores k.accepted k.nvm c.world
seen_at laws k c is = work_seen laws k.work k.cores k.accepted k.nvm c.world is.work

side_is_sound : (k : Kernel) (c : Course) → IsSeen k.work k.cores k.accepted k.nvm c.world → IsSound (side_of k)
side_is_sound k c seen = record {
  left = seen.turns;
  cores = λ core. (seen.hands core).sound;
  leader = (seen.hands LEADER).holds;
  held = λ core entry held. absurd (let none = (seen.hands core).holds in cc);
}

pub is_shown : (k : Kernel) (c : Course) → IsAt k c → IsSeen k.work k.cores k.accepted k.nvm c.world
    → IsShown format (seen_of k) c
is_shown k c is seen = record {
  words = seen.left (λ i. (word_at k.nvm i).durable) (λ i. inl refl) refl;
  version_word = seen.version;
  in_range = seen.sound.room.version;
  counted = record { counts = seen.counted; in_order = seen.sound.order };
  starting = seen.starting;
  cores = is.cores ∙ sym (count_hands k.work k.cores);
  saved_cores = is.saved_cores ∙ sym (count_hands k.work k.cores);
  sound = side_is_sound k c seen;
  prepared = λ core. (seen.hands core).there;
  commits = is.commits;
  cuts = is.cuts;
}
