-- Bytes of pages: the state that an image of bytes begins with has them, and each label of a world keeps them.
use Rattle.std.specs.Prelude.{ℕ, ◌*◌, Bool, true, false, if◌then◌else◌, List, take, drop, All, Option, Some, None, option_map}
use Rattle.std.specs.List.{range_with_len}
use Rattle.std.proofs.Common.{arith}
use Rattle.std.proofs.lemmas.List.{length-take, get_or_past}
use Rattle.std.proofs.lemmas.List.Elements.{All-nil, All-map, All-take, All-drop, All-weaker}
use Rattle.sls_base.specs.declared.limits.TheConstants.{PAGE_BYTES}
use Rattle.sls_base.specs.declared.image.Image.{Image}
use Rattle.sls_base.specs.declared.image.Program.{Program}
use Rattle.sls_base.specs.declared.image.RegionSpec.{RegionSpec}
use Rattle.plain_state.specs.declared.label.Label.{Label}
use Rattle.plain_model.specs.Objects.{Object, Thread, Connection, Notification, pages_of}
use Rattle.plain_model.specs.States.{State, thread_at}
use Rattle.plain_model.specs.Worlds.{World}
use Rattle.plain_model.specs.Ticks.{Chosen, effect_for, state_of_effect}
use Rattle.plain_model.specs.Sweep.{is_reached, settled}
use Rattle.plain_model.specs.Play.{after}
use Rattle.plain_model.specs.Initial.{page_of_content, memory_of, initial}
use Rattle.plain_laws.specs.Plays.{Both}
use Rattle.plain_laws.specs.Bounds.{AreBytes, IsOfBytes, IsPage, HasPages, HasEntries}
use Rattle.plain_laws.proofs.Images.{OfMemory, OfProgram, of_image}
use Rattle.plain_laws.proofs.PageBytes.{IsByte, byte_in, OfPages, pages_kept}
use Rattle.plain_laws.proofs.PageCalls.{instruction_stores, instruction_pages}
use Rattle.plain_laws.proofs.WalkStates.{AnyLabel, both_after, of_effect}

-- Labels.

tick_pages : (w : World) (core : ℕ) (c : Chosen) → HasEntries w.now → HasPages w.now → HasPages (state_of_effect w.now core c (effect_for w c))
tick_pages w core c entries h =
    let me = c.occupant.thread in
    of_effect OfPages w.now core c (effect_for w c)
    (pages_kept (effect_for w c).stores (instruction_stores w me (thread_at w.now me) entries))
    (instruction_pages w me (thread_at w.now me))
    (All-nil IsPage)
    h

settled_pages : (s : State) (o : Option Object) → All IsPage (pages_of o) → All IsPage (pages_of (option_map (settled s) o))
settled_pages s None h = h
settled_pages s (Some (Thread thread)) h = h
settled_pages s (Some (Connection server client clients)) h = h
settled_pages s (Some (Notification count waiters)) h = h
settled_pages s (Some o) h = h

swept_pages_if : (s : State) (i : ℕ) (b : Bool) → All IsPage (pages_of (s.objects i)) → All IsPage (pages_of (if b then option_map (settled s) (s.objects i) else None))
swept_pages_if s i true h = settled_pages s (s.objects i) h
swept_pages_if s i false h = All-nil IsPage

pub stays_with_pages : (w : World) (label : Label) → HasEntries w.now → Both HasPages w → Both HasPages (after w label)
stays_with_pages w label entries h = both_after HasPages AnyLabel w (record {
  ticks = λ core c passes e. tick_pages w core c entries h.0;
  sweeps = λ i. swept_pages_if w.now i (is_reached w.now i) (h.0 i);
  cuts = h.1;
  inputs = λ bytes passes room. h.0;
}) h label tt

-- Images.

content_page : (content : List ℕ) (k j : ℕ) → AreBytes content → IsPage (page_of_content content k j)
content_page content k j h =
    let rest = drop (PAGE_BYTES * j) content in
    let bytes : AreBytes (take PAGE_BYTES rest) = All-take IsByte PAGE_BYTES rest (All-drop IsByte (PAGE_BYTES * j) content h) in
    record {
      bytes = λ offset. byte_in (take PAGE_BYTES rest) bytes offset;
      end = λ offset l. get_or_past (take PAGE_BYTES rest) offset 0 (let count = length-take PAGE_BYTES rest in omega arith);
    }

content_pages : (spec : RegionSpec) (k : ℕ) → AreBytes spec.content.items → All IsPage (pages_of (Some (memory_of spec k)))
content_pages spec k h = All-map IsPage (page_of_content spec.content.items k) (range_with_len 0 spec.pages) (λ j d l. content_page spec.content.items k _ h)

abbrev HasContent : RegionSpec → Type 0
HasContent spec = AreBytes spec.content.items

program_pages : (p : Program) → All HasContent p.regions.items → OfProgram (λ o. OfPages 0 (Some o)) p
program_pages p h = record {
  group = λ slots. All-nil IsPage;
  space = λ regions. All-nil IsPage;
  memories = All-weaker HasContent (OfMemory (λ o. OfPages 0 (Some o))) (λ spec content k. content_pages spec k content) p.regions.items h;
  threads = λ n j l. All-nil IsPage;
}

pub first_pages : (image : Image) (cores : ℕ) → IsOfBytes image → HasPages (initial image cores)
first_pages image cores h = of_image (OfPages 0) image.programs.items (record {
  nothing = All-nil IsPage;
  root = All-nil IsPage;
  scheduler = All-nil IsPage;
  outputs = λ channel. All-nil IsPage;
  input = All-nil IsPage;
  programs = All-weaker _ (OfProgram (λ o. OfPages 0 (Some o))) program_pages image.programs.items h;
})
