-- The first parts are the state that an image begins with.
use Rattle.std.proofs.Common.{◌≡◌, ℕ, ◌+◌, ◌-◌, ◌<◌, ◌≤◌, ◌∙◌, Bool, true, false, List, [], length, Option, Some, None, refl, ap, sym, subst, arith, lit≤, get_or, slice_index}
use Rattle.std.specs.Prelude.{nat_lt, IfSome, is_some, option_map, All, Contains, map}
use Rattle.std.proofs.Math.Path.{fun_ext}
use Rattle.std.proofs.lemmas.Bool.{lt-ltb, ltb-true, false_from_ne_true}
use Rattle.std.proofs.lemmas.List.{take-replicate, length-replicate}
use Rattle.std.proofs.lemmas.List.Elements.{Contains-get_or}
use Rattle.std.proofs.Math.ListN.{get_or-map}
use Rattle.std.proofs.lemmas.List.{length-map}
use Rattle.sls_base.specs.declared.limits.TheConstants.{CORES, OBJECTS, OUTPUT_CHANNELS}
use Rattle.sls_base.specs.declared.fixed.TheConstants.{SCHEDULER, FIRST_OUTPUT_RING}
use Rattle.sls_base.specs.declared.image.Image.{Image}
use Rattle.plain_state.specs.declared.objects.Occupant.{Occupant}
use Rattle.plain_model.specs.Objects as plain
use Rattle.plain_model.specs.Objects.{Object, Page, pages_of, page_numbers}
use Rattle.plain_model.specs.States.{State}
use Rattle.plain_model.specs.Worlds.{has_page}
use Rattle.plain_model.specs.Sweep.{swept}
use Rattle.plain_model.specs.Initial.{initial, IsAccepted}
use Rattle.plain_laws.specs.Bounds.{HasPages}
use Rattle.kobj_codec.specs.Objects.{IsObj}
use Rattle.object_records.specs.Records.{cores_in, list_in, object_in, state_of_records}
use Rattle.object_records.specs.Ranges.{IsSoundState}
use Rattle.saved_state.specs.State.{ArePartsOf, IsRing, content_of, rest_of}
use Rattle.kobj_table.specs.Slots.{bytes_of}
use Rattle.first_format.specs.Parts.{first_numbers, first_pages, first_parts, first_records, is_fresh, record_of_object}
use Rattle.first_state.specs.Content.{content_on}
use Rattle.first_format.proofs.Pages.{empty_list, initial_parts, page_right, pages_told}
use Rattle.first_format.proofs.Records.{first_ranged, object_there}

-- The records stand for the objects of the state.

numbered : (o : Option Object) (k : ℕ) (d : Page) → k < length (pages_of o) → Contains (page_numbers o) (get_or (pages_of o) k d).number
numbered None k d inside = absurd (omega arith)
numbered (Some (plain.Group slots)) k d inside = absurd (omega arith)
numbered (Some (plain.Thread thread)) k d inside = absurd (omega arith)
numbered (Some (plain.Space regions)) k d inside = absurd (omega arith)
numbered (Some (plain.Memory pages)) k d inside =
    subst (Contains (map (λ (p : Page). p.number) pages)) (get_or-map (λ (p : Page). p.number) pages k d)
    (Contains-get_or (map (λ (p : Page). p.number) pages) k d.number (omega (arith, length-map pages (λ (p : Page). p.number))))
numbered (Some (plain.Connection server client clients)) k d inside = absurd (omega arith)
numbered (Some (plain.Notification count waiters)) k d inside = absurd (omega arith)
numbered (Some (plain.OutputRing channel)) k d inside = absurd (omega arith)
numbered (Some plain.InputRing) k d inside = absurd (omega arith)
numbered (Some plain.Scheduler) k d inside = absurd (omega arith)

pages_right : (image : Image) (cores i : ℕ) → IsSoundState (initial image cores) → HasPages (initial image cores)
    → All (λ (page : Page). bytes_of (content_of (first_pages image)) page.number (is_fresh image page.number) ≡ page.byte) (pages_of ((initial image cores).objects i))
pages_right image cores i sound pages k d inside =
    let o = (initial image cores).objects i in
    page_right image (get_or (pages_of o) k d) (sound.apart.in_range i _ (numbered o k d inside)) (initial_parts image cores i k d inside) (pages i k d inside)

pub records_there : (image : Image) (cores i : ℕ) → IsSoundState (initial image cores) → HasPages (initial image cores)
    → object_in (content_of (first_pages image)) (first_records image cores i) ≡ (initial image cores).objects i
unfolding first_records
records_there image cores i sound pages =
    object_there image cores (content_of (first_pages image)) ((initial image cores).objects i) (sound.forms i) (pages_right image cores i sound pages)

-- Each record is in range. Which content page numbers stand for doesn't matter here: let it be the image's, whose numbers
-- need not be bytes.

own_right : (image : Image) (page : Page) (fresh : Bool) → is_fresh image page.number ≡ fresh → page.byte ≡ slice_index (content_on image page.number)
    → bytes_of (λ number. slice_index (content_on image number)) page.number fresh ≡ page.byte
own_right image page true is e = ap (λ (l : List ℕ). slice_index l) (sym (empty_list (content_on image page.number) is)) ∙ sym e
own_right image page false is e = sym e

pub records_ranged : (image : Image) (cores i : ℕ) → IsSoundState (initial image cores) → 1 ≤ cores → cores ≤ CORES → IfSome (first_records image cores i) IsObj
unfolding first_records
records_ranged image cores i sound some most =
    let content : ℕ → ℕ → ℕ = λ number. slice_index (content_on image number) in
    let o = (initial image cores).objects i in
    first_ranged image cores i content o sound some most refl
    (object_there image cores content o (sound.forms i) (λ k d inside.
    own_right image (get_or (pages_of o) k d) (is_fresh image (get_or (pages_of o) k d).number) refl (initial_parts image cores i k d inside)))

-- The state.

scheduler_is : (image : Image) (cores : ℕ) → IsSoundState (initial image cores) → first_records image cores SCHEDULER ≡ Some (record_of_object image cores plain.Scheduler)
unfolding first_records
scheduler_is image cores sound = ap (option_map (record_of_object image cores)) sound.fixed.scheduler

made_of : (ℕ → Option Object) → List ℕ → List (Option Occupant) → State
made_of objects queue cores = record { objects = objects; queue = queue; cores = cores; out = λ channel. []; inputs = [] }

same_parts : (objects objects' : ℕ → Option Object) (queue queue' : List ℕ) (cores cores' : List (Option Occupant)) → ((i : ℕ) → objects i ≡ objects' i) → queue ≡ queue' → cores ≡ cores'
    → made_of objects queue cores ≡ made_of objects' queue' cores'
same_parts objects objects' queue queue' cores cores' o q c =
    ap (λ (f : ℕ → Option Object). made_of f queue cores) (fun_ext o)
    ∙ (ap (λ (l : List ℕ). made_of objects' l cores) q ∙ ap (λ (l : List (Option Occupant)). made_of objects' queue' l) c)

state_is : (image : Image) (cores : ℕ) → IsSoundState (initial image cores) → HasPages (initial image cores) → cores ≤ CORES
    → initial image cores ≡ state_of_records (first_records image cores) (rest_of (first_pages image) (initial image cores))
unfolding state_of_records made_of
state_is image cores sound pages most =
    let s = initial image cores in
    let scheduler = scheduler_is image cores sound in
    same_parts s.objects (λ i. object_in (content_of (first_pages image)) (first_records image cores i)) s.queue (list_in (first_records image cores SCHEDULER)) s.cores
    (cores_in (first_records image cores SCHEDULER)) (λ i. sym (records_there image cores i sound pages))
    (sym (ap list_in scheduler)) (sym (ap cores_in scheduler ∙ take-replicate cores CORES None most))

used : {X Y : Type 0} (f : X → Y) (o : Option X) → is_some o ≡ is_some (option_map f o)
used f None = refl
used f (Some x) = refl

pub object_used : (image : Image) (cores i : ℕ) → i < OBJECTS → first_numbers image cores i ≡ is_some (first_records image cores i)
unfolding first_numbers first_records
object_used image cores i below = rw (lt-ltb i OBJECTS below) (used (record_of_object image cores) ((initial image cores).objects i))

pub page_used : (image : Image) (cores page : ℕ) → first_numbers image cores (OBJECTS + page) ≡ has_page (initial image cores) page
unfolding first_numbers
page_used image cores page =
    let off : nat_lt (128 + page) 128 ≡ false = false_from_ne_true _ (λ e. let l = ltb-true (128 + page) 128 e in absurd (omega arith)) in
    let is : 128 + page - 128 ≡ page = omega arith in
    rw off (ap (has_page (initial image cores)) is)

no_record : (image : Image) (cores i : ℕ) → IsSoundState (initial image cores) → OBJECTS ≤ i → first_records image cores i ≡ None
unfolding first_records
no_record image cores i sound past = ap (option_map (record_of_object image cores)) (sound.in_range i past)

ring_told : (image : Image) (cores channel : ℕ) → IsSoundState (initial image cores) → channel < OUTPUT_CHANNELS
    → first_records image cores (FIRST_OUTPUT_RING + channel) ≡ Some (record_of_object image cores (plain.OutputRing channel))
unfolding first_records
ring_told image cores channel sound below = ap (option_map (record_of_object image cores)) (sound.fixed.outputs channel below)

ring_is : (channel : ℕ) (byte : ℕ → ℕ) → IsRing channel 0 0 byte [] (record { channel = channel; fresh = true; count = 0; page = channel })
ring_is channel byte = record {
  channel_is = refl;
  page = refl;
  count = refl;
  begun = lit≤ tt;
  put = lit≤ tt;
  room = lit≤ tt;
  entries = λ i accepted inside. absurd (omega arith);
}

pub are_first : (image : Image) (cores : ℕ) → IsAccepted image → IsSoundState (initial image cores) → HasPages (initial image cores) → swept (initial image cores) ≡ initial image cores → cores ≤ CORES
    → ArePartsOf (λ channel. 0) (λ channel. 0) (first_parts image cores) (initial image cores)
are_first image cores accepted sound pages sweeps most = record {
  state = state_is image cores sound pages most;
  sound = sound;
  swept = sweeps;
  cores = length-replicate cores None;
  none = λ i past. no_record image cores i sound past;
  used_objects = λ i below. object_used image cores i below;
  used_pages = λ page below. page_used image cores page;
  pages = pages_told image cores accepted sound.forms;
  rings = λ channel below. (record { channel = channel; fresh = true; count = 0; page = channel }, ring_told image cores channel sound below, ring_is channel _);
  channels = λ channel past. refl;
}
