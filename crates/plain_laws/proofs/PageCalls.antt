-- Bytes of pages: what each call and each instruction stores are bytes within a page, and what it makes has such pages.
use Rattle.std.specs.Prelude.{◌≡◌, ℕ, List, [], ◌∷◌, length, take, min, All, Option, Some, slice_index_or}
use Rattle.std.proofs.Common.{sym, subst}
use Rattle.std.proofs.lemmas.List.Elements.{All-nil, All-take}
use Rattle.rv_core.specs.Effect.{size_of}
use Rattle.sls_base.specs.declared.rights.TheConstants.{WRITE}
use Rattle.sls_base.specs.declared.thread.Thread.{Thread as ThreadRecord}
use Rattle.plain_state.specs.declared.calls.Call.{Call}
use Rattle.plain_state.specs.declared.calls.Call.TheVariants.{Yield, Halt, Put, Get, MemNew, Map, Unmap, SpaceNew, GroupNew, CapCopy, CapDrop, ThreadNew, NoteNew, Signal, Wait, ConnNew, ConnCall, Serve, Checkpoint}
use Rattle.plain_state.specs.declared.effect.ByteStore.{ByteStore}
use Rattle.plain_model.specs.Objects.{Object, Memory, pages_of, page_numbers, regions_of}
use Rattle.plain_model.specs.States.{State}
use Rattle.plain_model.specs.Memory.{places_of, bytes_of_number}
use Rattle.plain_model.specs.Worlds.{World, free_pages}
use Rattle.plain_model.specs.Effects.{Change}
use Rattle.plain_model.specs.Calls.{arg, id_named, named}
use Rattle.plain_model.specs.CallRefusals.{pages_wanted}
use Rattle.plain_model.specs.CallEffects.{effect_of_call, get_effect}
use Rattle.plain_model.specs.Instructions.{instruction, seen_by}
use Rattle.plain_laws.specs.Bounds.{IsPage, HasEntries}
use Rattle.plain_laws.proofs.ApartCalls.{bare_signal, bare_wait, bare_call, bare_serve}
use Rattle.plain_laws.proofs.Apart.{AreBare}
use Rattle.plain_laws.proofs.PageBytes.{IsByte, IsStored, OfPages, bytes_of_a_number, first_entry, places_in_pages, stored_in_pages, new_memory_pages}
use Rattle.plain_laws.proofs.Traffic.{of_traffic}
use Rattle.plain_laws.proofs.Walk.{holds_of_instruction}
use Rattle.plain_laws.proofs.WalkStates.{OfChanges}

-- Stores.

got_in_pages : (s : State) (thread : ThreadRecord) → HasEntries s → All IsStored (get_effect s thread).stores
got_in_pages s thread h =
    let input = slice_index_or s.inputs 0 [] in
    let count = min (length input) (arg thread 2) in
    stored_in_pages (places_of (regions_of (s.objects thread.space)) WRITE (arg thread 1) count) (take count input)
    (places_in_pages (regions_of (s.objects thread.space)) WRITE (arg thread 1) count) (All-take IsByte count input (first_entry s.inputs h.inputs))

pub instruction_stores : (w : World) (id : ℕ) (thread : ThreadRecord) → HasEntries w.now → All IsStored (instruction w id thread).stores
instruction_stores w id thread h = of_traffic (λ e. All IsStored e.stores) w id thread (record {
  quiet = λ e quiet. subst (λ (stores : List ByteStore). All IsStored stores) (sym quiet.stores) (All-nil IsStored);
  fetches = λ places e p. p;
  stores = λ op at value does covered.
      stored_in_pages (places_of (seen_by w.now thread) WRITE at (size_of op)) (bytes_of_number (size_of op) value)
      (places_in_pages (seen_by w.now thread) WRITE at (size_of op)) (bytes_of_a_number (size_of op) value);
  puts = λ e. All-nil IsStored;
  gets = λ e. got_in_pages w.now thread h;
})

-- Changes.

no_pages : (o : Option Object) → page_numbers o ≡ [] → All IsPage (pages_of o)
no_pages (Some (Memory [])) e = All-nil IsPage
no_pages (Some (Memory (page ∷ pages))) e = absurd (cc)
no_pages o e = All-nil IsPage

bare_changes : (changes : List Change) → AreBare changes → OfChanges OfPages changes
bare_changes [] h = tt
bare_changes (change ∷ changes) h = (no_pages (Some change.object) h.0, bare_changes changes h.1)

call_changes_pages : (w : World) (id : ℕ) (thread : ThreadRecord) (call : Call) → OfChanges OfPages (effect_of_call w id thread call).changes
unfolding effect_of_call
call_changes_pages w id thread Yield = tt
call_changes_pages w id thread Halt = tt
call_changes_pages w id thread Put = tt
call_changes_pages w id thread Get = tt
call_changes_pages w id thread MemNew = (new_memory_pages (take (pages_wanted (arg thread 0)) (free_pages w)), (All-nil IsPage, tt))
call_changes_pages w id thread Map = (All-nil IsPage, tt)
call_changes_pages w id thread Unmap = (All-nil IsPage, tt)
call_changes_pages w id thread CapCopy = (All-nil IsPage, tt)
call_changes_pages w id thread CapDrop = (All-nil IsPage, tt)
call_changes_pages w id thread Signal = bare_changes _ (bare_signal w.now thread (id_named w.now thread 0) (named w.now thread 0))
call_changes_pages w id thread Wait = bare_changes _ (bare_wait id thread (id_named w.now thread 0) (named w.now thread 0))
call_changes_pages w id thread ConnCall = bare_changes _ (bare_call w.now id thread (id_named w.now thread 0) (named w.now thread 0))
call_changes_pages w id thread Serve = bare_changes _ (bare_serve w.now thread (id_named w.now thread 0) (named w.now thread 0))
call_changes_pages w id thread Checkpoint = tt
call_changes_pages w id thread SpaceNew = (All-nil IsPage, (All-nil IsPage, tt))
call_changes_pages w id thread GroupNew = (All-nil IsPage, (All-nil IsPage, tt))
call_changes_pages w id thread ThreadNew = (All-nil IsPage, (All-nil IsPage, tt))
call_changes_pages w id thread NoteNew = (All-nil IsPage, (All-nil IsPage, tt))
call_changes_pages w id thread ConnNew = (All-nil IsPage, (All-nil IsPage, tt))

pub instruction_pages : (w : World) (id : ℕ) (thread : ThreadRecord) → OfChanges OfPages (instruction w id thread).changes
instruction_pages w id thread = holds_of_instruction (λ e. OfChanges OfPages e.changes) w id thread (record {
  unfetched = tt;
  fetches = λ e covered h. h;
  illegal = tt;
  sets = λ rd value pc does. tt;
  loads = λ op rd at does covered. tt;
  stores = λ op at value does covered. tt;
  stops_there = λ cause does. tt;
  refuses = λ refusal. tt;
  calls = λ call e none. call_changes_pages w id thread call;
})
