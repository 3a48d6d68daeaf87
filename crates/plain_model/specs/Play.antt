-- What befalls a world: ticks, commits, cuts, entries that the device accepts, and inputs.
use Rattle.std.specs.Prelude.{ℕ, ◌+◌, ◌==◌, nat_lt, Bool, false, if◌then◌else◌, List, [], ◌∷◌, ◌++◌, length, slice_index_or}
use Rattle.sls_base.specs.declared.limits.TheConstants.{WAITING_INPUTS}
use Rattle.sls_base.specs.declared.entry.Entry.{Entry}
use Rattle.plain_state.specs.declared.label.Label.{Label}
use Rattle.plain_state.specs.declared.label.Label.TheVariants.{Tick, Commit, Cut, Accept, Input}
use Rattle.plain_state.specs.declared.label.Reply.{Reply}
use Rattle.plain_state.specs.declared.label.Reply.TheVariants.{Committed, Went, Took, NoEntry, Put, Full}
use Rattle.plain_state.specs.States.{State}
use Rattle.plain_state.specs.Worlds.{World, accepted_count}
use Rattle.plain_state.specs.Ticks.{tick, tick_reply}
use Rattle.plain_state.specs.Sweep.{swept}

-- A commit saves one whole copy of the running state, swept.
abbrev pub commit : World → World
commit w = record w {
  now = swept w.now;
  saved = swept w.now;
  version = w.version + 1;
  stored = λ page. false;
  changed = λ i. false;
}

-- A cut goes back to the saved copy, and inputs that wait are lost.

abbrev pub state_after_cut : World → State
state_after_cut w = record w.saved { inputs = [] }

abbrev pub cut : World → World
cut w = record w { now = state_after_cut w; stored = λ page. false; changed = λ i. false }

-- The device accepts the next entry of a channel that the saved copy has put.

abbrev pub is_offered : World → ℕ → Bool
is_offered w channel = nat_lt (length (w.released channel)) (length (w.saved.out channel))

abbrev pub next_bytes : World → ℕ → List ℕ
next_bytes w channel = slice_index_or (w.saved.out channel) (length (w.released channel)) []

abbrev pub next_entry : World → ℕ → Entry
next_entry w channel = record { number = accepted_count w channel; bytes = record { items = next_bytes w channel } }

abbrev pub with_released : (ℕ → List (List ℕ)) → ℕ → List ℕ → ℕ → List (List ℕ)
with_released released channel bytes c = if c == channel then released c ++ bytes ∷ [] else released c

abbrev pub accept : World → ℕ → World
accept w channel =
    if is_offered w channel then record w { released = with_released w.released channel (next_bytes w channel) } else w

-- An input waits behind the others, if there is room.

abbrev pub has_input_room : World → Bool
has_input_room w = nat_lt (length w.now.inputs) WAITING_INPUTS

abbrev pub with_input : State → List ℕ → State
with_input s bytes = record s { inputs = s.inputs ++ bytes ∷ [] }

abbrev pub input : World → List ℕ → World
input w bytes = if has_input_room w then record w { now = with_input w.now bytes } else w

-- The world after a label, and the reply.

abbrev pub after : World → Label → World
after w (Tick core) = tick w core
after w Commit = commit w
after w Cut = cut w
after w (Accept channel) = accept w channel
after w (Input bytes) = input w bytes.items

abbrev pub reply : World → Label → Reply
reply w (Tick core) = tick_reply w core
reply w Commit = Committed (w.version + 1)
reply w Cut = Went
reply w (Accept channel) = if is_offered w channel then Took (next_entry w channel) else NoEntry
reply w (Input bytes) = if has_input_room w then Put else Full

-- The play of labels, one after another.
abbrev pub play : World → List Label → World
play w [] = w
play w (label ∷ labels) = play (after w label) labels
