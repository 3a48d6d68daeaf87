-- What cores have in hand stays apart.
use Rattle.std.proofs.Common.{◌≡◌, ◌≢◌, inl, inr, ◌⊎◌, ⊎_elim, ℕ, ◌<◌, ◌==◌, ◌∙◌, sym, ap, refl, subst, Bool, true, false, if◌then◌else◌, arith, List, [], ◌∷◌, length, Option, Some, None, slice_index_or, length-set}
use Rattle.std.proofs.lemmas.Bool.{cases_eq, cases_Bool}
use Rattle.std.proofs.lemmas.Bool.Decides.{nat_tests}
use Rattle.std.proofs.lemmas.List.{length-map, get_or-map, get_or-set_other, get_or-set_same}
use Rattle.plain_model.specs.Worlds.{World}
use Rattle.machine_contract.specs.declared.answers.Did.{Did}
use Rattle.machine_contract.specs.declared.answers.Did.TheVariants as did
use Rattle.machine_contract.specs.declared.answers.Why.{Why}
use Rattle.machine_contract.specs.declared.answers.Why.TheVariants as why
use Rattle.machine_contract.specs.Side.{Mode, Formatting, Side, CoreSide, BoardEntry, free_core, begun, none_given, core_at, entry_at, no_entry, IsSound}
use Rattle.machine_contract.specs.Lawful.{IsLawful, IsLawfulAsked, IsLawfulBack, HelperSteps, GoesOn, Draws, Prepares, ComesHome, Leads, Opens, IsOrNone, IsAway, OnlyComeHome, cores_but, homed, brought_home, with_drawn}
use Rattle.machine_contract.specs.Laws.{AreApart}
use Rattle.machine_contract.specs.declared.answers.Asked.{Asked}
use Rattle.machine_contract.specs.declared.answers.Asked.TheVariants as asked
use Rattle.machine_contract.specs.declared.answers.Event.{Event}
use Rattle.machine_contract.specs.declared.answers.Event.TheVariants.{Turn, Ask, TakeWish, WriteBack, Input, Accept, Cut}
use Rattle.machine_contract.specs.declared.answers.Answer.{Answer}
use Rattle.machine_contract.specs.declared.answers.Answer.TheVariants as told
use Rattle.machine_contract.specs.Courses.{Course, label_of, after}
use Rattle.machine_contract.specs.Shown.{Seen, Format}
use Rattle.machine_contract.specs.Goes.{Goes, IsTaken}
use Rattle.machine_contract.specs.Begins.{IsBooted}
use Rattle.machine_contract.specs.Play.{IsPlayed}
use Rattle.pmem_model.specs.Memory.{Memory}
use Rattle.sls_base.specs.declared.entry.Entry.{Entry}
use Rattle.machine_contract.proofs.Hands.{begun_core}

-- Cores.

-- what another core has in hand is as before
pub others : (old : Side) (core : ℕ) (new : Side) → new.cores ≡ cores_but old core new → (i : ℕ) → i ≢ core
    → core_at new i ≡ core_at old i
others old core new e i ne =
    ap (λ cores. slice_index_or cores i free_core) e ∙ get_or-set_other old.cores core i (core_at new core) free_core ne

-- Boards.

-- entries stay where they are, and at home where they are at home
record StaysHome (old new : List BoardEntry) : Type 0 where
  count : length new ≡ length old
  page : (i : ℕ) → i < length old → (entry_at new i).page ≡ (entry_at old i).page
  home : (i : ℕ) → i < length old → (entry_at old i).home ≡ true → (entry_at new i).home ≡ true

away_before : (old new : List BoardEntry) (page : ℕ) → StaysHome old new → IsAway new page → IsAway old page
away_before old new page stays away =
    let below : away.0 < length old = subst (λ (n : ℕ). away.0 < n) stays.count away.1 in (
      away.0,
      below,
      sym (stays.page away.0 below) ∙ away.2,
      ⊎_elim
          (λ (is : (entry_at old away.0).home ≡ true).
          absurd (let e : true ≡ false = sym (stays.home away.0 below is) ∙ away.3 in cc))
          (λ (is : (entry_at old away.0).home ≡ false). is)
          (cases_Bool (entry_at old away.0).home),
    )

stays_only : (old new : List BoardEntry) → OnlyComeHome old new → StaysHome old new
stays_only old new only = record {
  count = only.count;
  page = λ i below. only.page i;
  home = λ i below. only.home i;
}

homed_page : (page : ℕ) (b : Bool) (entry : BoardEntry) → (entry.page == page) ≡ b
    → (homed page entry).page ≡ entry.page
homed_page page true entry is = rw is refl
homed_page page false entry is = rw is refl

homed_home : (page : ℕ) (b : Bool) (entry : BoardEntry) → (entry.page == page) ≡ b → entry.home ≡ true
    → (homed page entry).home ≡ true
homed_home page true entry is home = rw is refl
homed_home page false entry is home = rw is home

homed_here : (page : ℕ) (entry : BoardEntry) → entry.page ≡ page → (homed page entry).home ≡ true
homed_here page entry is = let same : (entry.page == page) ≡ true = grind (arith, nat_tests) in rw same refl

at_homed : (board : List BoardEntry) (page i : ℕ) → i < length board
    → entry_at (brought_home board page) i ≡ homed page (entry_at board i)
at_homed board page i below = get_or-map (homed page) board i no_entry no_entry below

stays_homed : (board : List BoardEntry) (page : ℕ) → StaysHome board (brought_home board page)
stays_homed board page = record {
  count = length-map board (homed page);
  page = λ i below.
      ap (λ (e : BoardEntry). e.page) (at_homed board page i below)
      ∙ homed_page page ((entry_at board i).page == page) (entry_at board i) refl;
  home = λ i below home.
      ap (λ (e : BoardEntry). e.home) (at_homed board page i below)
      ∙ homed_home page ((entry_at board i).page == page) (entry_at board i) refl home;
}

-- a page that came home isn't away
homed_not_away : (board : List BoardEntry) (page : ℕ) → IsAway (brought_home board page) page → ⊥
homed_not_away board page away =
    let below : away.0 < length board = subst (λ (n : ℕ). away.0 < n) (length-map board (homed page)) away.1 in
    let is = at_homed board page away.0 below in
    let here : (entry_at board away.0).page ≡ page =
    sym ((stays_homed board page).page away.0 below) ∙ away.2 in
    let home : (entry_at (brought_home board page) away.0).home ≡ true =
    ap (λ (e : BoardEntry). e.home) is ∙ homed_here page (entry_at board away.0) here in
    let e : true ≡ false = sym home ∙ away.3 in cc

stays_drawn : (board : List BoardEntry) (entry : ℕ) → entry < length board → StaysHome board (with_drawn board entry)
stays_drawn board entry in_range =
    let drawn : BoardEntry = record (entry_at board entry) { drawn = true } in record {
      count = length-set board entry drawn;
      page = λ i below.
          ⊎_elim
          (λ (is : i ≡ entry).
          rw is (ap (λ (e : BoardEntry). e.page) (get_or-set_same board entry drawn no_entry in_range)))
          (λ (ne : i ≢ entry). ap (λ (e : BoardEntry). e.page) (get_or-set_other board entry i drawn no_entry ne))
          (cases_eq i entry);
      home = λ i below home.
          ⊎_elim
          (λ (is : i ≡ entry).
          let was : (entry_at board entry).home ≡ true = rw is at home in
          rw is (ap (λ (e : BoardEntry). e.home) (get_or-set_same board entry drawn no_entry in_range) ∙ was))
          (λ (ne : i ≢ entry).
          ap (λ (e : BoardEntry). e.home) (get_or-set_other board entry i drawn no_entry ne) ∙ home)
          (cases_eq i entry);
    }

-- What a turn makes of the hands of a core: it prepares what it prepared, or what nobody does and is at home; it holds
-- what it held, or what nobody does.
record Changes (old : Side) (core : ℕ) (new : Side) : Type 0 where
  others : (i : ℕ) → i ≢ core → core_at new i ≡ core_at old i
  prepares : (page : ℕ) → (core_at new core).prepares ≡ Some page
      → ((core_at old core).prepares ≡ Some page)
      ⊎ (((i : ℕ) → (core_at old i).prepares ≢ Some page) × (IsAway new.board page → ⊥))
  holds : (entry : ℕ) → (core_at new core).holds ≡ Some entry
      → ((core_at old core).holds ≡ Some entry) ⊎ ((i : ℕ) → (core_at old i).holds ≢ Some entry)
  board : (page : ℕ) → IsAway new.board page → IsAway old.board page

-- who prepares a page did before, or is this core, and nobody did
prepared_before : (old : Side) (core : ℕ) (new : Side) → Changes old core new → (i page : ℕ)
    → (core_at new i).prepares ≡ Some page
    → ((core_at old i).prepares ≡ Some page)
    ⊎ ((i ≡ core) × ((j : ℕ) → (core_at old j).prepares ≢ Some page) × (IsAway new.board page → ⊥))
prepared_before old core new changes i page is =
    ⊎_elim
    (λ (here : i ≡ core). elim (changes.prepares page (rw here at is)) [
      | inl before ↦ inl (rw here before)
      | inr none ↦ inr (here, none.0, none.1)
    ])
    (λ (other : i ≢ core). inl (sym (ap (λ (c : CoreSide). c.prepares) (changes.others i other)) ∙ is))
    (cases_eq i core)

held_before : (old : Side) (core : ℕ) (new : Side) → Changes old core new → (i entry : ℕ)
    → (core_at new i).holds ≡ Some entry
    → ((core_at old i).holds ≡ Some entry) ⊎ ((i ≡ core) × ((j : ℕ) → (core_at old j).holds ≢ Some entry))
held_before old core new changes i entry is =
    ⊎_elim
    (λ (here : i ≡ core). elim (changes.holds entry (rw here at is)) [
      | inl before ↦ inl (rw here before)
      | inr none ↦ inr (here, none)
    ])
    (λ (other : i ≢ core). inl (sym (ap (λ (c : CoreSide). c.holds) (changes.others i other)) ∙ is))
    (cases_eq i core)

apart_after : (old : Side) (core : ℕ) (new : Side) → Changes old core new → AreApart old → AreApart new
apart_after old core new changes apart = record {
  pages = λ a b page is_a is_b. elim (prepared_before old core new changes a page is_a) [
    | inl was_a ↦ elim (prepared_before old core new changes b page is_b) [
      | inl was_b ↦ apart.pages a b page was_a was_b
      | inr new_b ↦ absurd (new_b.1 a was_a)
    ]
    | inr new_a ↦ elim (prepared_before old core new changes b page is_b) [
      | inl was_b ↦ absurd (new_a.1 b was_b)
      | inr new_b ↦ new_a.0 ∙ sym new_b.0
    ]
  ];
  home = λ i page is away. elim (prepared_before old core new changes i page is) [
    | inl was ↦ apart.home i page was (changes.board page away)
    | inr none ↦ none.2 away
  ];
  entries = λ a b entry is_a is_b. elim (held_before old core new changes a entry is_a) [
    | inl was_a ↦ elim (held_before old core new changes b entry is_b) [
      | inl was_b ↦ apart.entries a b entry was_a was_b
      | inr new_b ↦ absurd (new_b.1 a was_a)
    ]
    | inr new_a ↦ elim (held_before old core new changes b entry is_b) [
      | inl was_b ↦ absurd (new_a.1 b was_b)
      | inr new_b ↦ new_a.0 ∙ sym new_b.0
    ]
  ];
}

-- hands stay as they are, and no page goes away
apart_same : (old new : Side) → new.cores ≡ old.cores → ((page : ℕ) → IsAway new.board page → IsAway old.board page)
    → AreApart old → AreApart new
apart_same old new cores board apart = record {
  pages = λ a b page is_a is_b. apart.pages a b page (rw cores at is_a) (rw cores at is_b);
  home = λ i page is away. apart.home i page (rw cores at is) (board page away);
  entries = λ a b entry is_a is_b. apart.entries a b entry (rw cores at is_a) (rw cores at is_b);
}

same_board : (old new : Side) → new.board ≡ old.board → (page : ℕ) → IsAway new.board page → IsAway old.board page
same_board old new is page away = subst (λ (board : List BoardEntry). IsAway board page) is away

-- The rows.

no_some : (o : Option ℕ) (k : ℕ) → o ≡ None → o ≡ Some k → ⊥
no_some o k none is = cc

-- the one of two numbers
one_of : (o : Option ℕ) (k j : ℕ) → IsOrNone o k → o ≡ Some j → j ≡ k
one_of o k j named is = elim named [ inl none ↦ absurd (no_some o j none is) | inr same ↦ cc ]

goes_on_changes : (old : Side) (core entry : ℕ) (new : Side) → GoesOn old core entry new → Changes old core new
goes_on_changes old core entry new h = record {
  others = others old core new (ap (λ (s : Side). s.cores) h.rest);
  prepares = λ page is. inl (sym h.prepares ∙ is);
  holds = λ e is.
      inl (h.holds ∙ ap (λ (k : ℕ). Some k) (sym (one_of (core_at new core).holds entry e h.holds_then is)));
  board = same_board old new (ap (λ (s : Side). s.board) h.rest);
}

drawn_one : (b : Bool) (entry e : ℕ) → (if b then None else Some entry) ≡ Some e → e ≡ entry
drawn_one true entry e is = absurd (let none : Option ℕ = None in no_some none e refl is)
drawn_one false entry e is = cc

draws_changes : (old : Side) (core entry : ℕ) (new : Side) → IsSound old → Draws old core entry new
    → Changes old core new
draws_changes old core entry new sound h =
    let board : new.board ≡ with_drawn old.board entry = ap (λ (s : Side). s.board) h.rest in record {
      others = others old core new (ap (λ (s : Side). s.cores) h.rest);
      prepares = λ page is. absurd (no_some (core_at new core).prepares page h.prepares is);
      holds = λ e is. inr (λ i held.
          let same : e ≡ entry = drawn_one (entry_at old.board entry).home entry e (sym h.holds ∙ is) in
          let drawn = (sound.held i entry (held ∙ ap (λ (k : ℕ). Some k) same)).drawn in
          let two : true ≡ false = sym drawn ∙ h.undrawn in cc);
      board = λ page away. away_before old.board (with_drawn old.board entry) page
          (stays_drawn old.board entry h.in_range) (subst (λ (b : List BoardEntry). IsAway b page) board away);
    }

prepares_changes : (w : World) (old : Side) (core page : ℕ) (new : Side) → Prepares w old core page new
    → Changes old core new
prepares_changes w old core page new h = record {
  others = others old core new (ap (λ (s : Side). s.cores) h.rest);
  prepares = λ p is.
      let same : p ≡ page = one_of (core_at new core).prepares page p h.prepares is in
      elim h.why [
        | inl already ↦ inl (already ∙ ap (λ (k : ℕ). Some k) (sym same))
        | inr begins ↦ inr (
          λ i was. begins.at_hand.unprepared i (was ∙ ap (λ (k : ℕ). Some k) same),
          λ away. begins.at_hand.home (subst (λ (k : ℕ). IsAway old.board k) same
              (same_board old new (ap (λ (s : Side). s.board) h.rest) p away)),
        )
      ];
  holds = λ e is. inl (sym h.holds ∙ is);
  board = same_board old new (ap (λ (s : Side). s.board) h.rest);
}

home_changes : (w : World) (old : Side) (core page : ℕ) (new : Side) → AreApart old → ComesHome w old core page new
    → Changes old core new
home_changes w old core page new apart h =
    let board : new.board ≡ brought_home old.board page = ap (λ (s : Side). s.board) h.rest in record {
      others = others old core new (ap (λ (s : Side). s.cores) h.rest);
      prepares = λ p is.
          let same : p ≡ page = one_of (core_at new core).prepares page p h.prepares is in inr (
            λ i was. apart.home i page (was ∙ ap (λ (k : ℕ). Some k) same) h.away,
            λ away. homed_not_away old.board page
                (subst (λ (b : List BoardEntry). IsAway b page) board
                (subst (λ (k : ℕ). IsAway new.board k) same away)),
          );
      holds = λ e is. absurd (no_some (core_at new core).holds e h.holds is);
      board = λ p away. away_before old.board (brought_home old.board page) p (stays_homed old.board page)
          (subst (λ (b : List BoardEntry). IsAway b p) board away);
    }

only_away : (old new : List BoardEntry) → OnlyComeHome old new → (page : ℕ) → IsAway new page → IsAway old page
only_away old new only page away = away_before old new page (stays_only old new only) away

opens_apart : (old new : Side) → new.cores ≡ old.cores → Opens old new → AreApart old → AreApart new
opens_apart old new cores opens apart = record {
  pages = λ a b page is_a is_b. apart.pages a b page (rw cores at is_a) (rw cores at is_b);
  home = λ i page is away. no_some (core_at old i).prepares page (opens.free i).0 (rw cores at is);
  entries = λ a b entry is_a is_b. apart.entries a b entry (rw cores at is_a) (rw cores at is_b);
}

lead_apart : (old : Side) (core : ℕ) (new : Side) → Leads old core new → AreApart old → AreApart new
lead_apart old core new h apart =
    let cores : new.cores ≡ old.cores = ap (λ (s : Side). s.cores) h.rest in elim h.board [
      | inl keeps ↦ apart_same old new cores (only_away old.board new.board keeps.board) apart
      | inr opens ↦ opens_apart old new cores opens apart
    ]

step_apart : (old : Side) (core : ℕ) (new : Side) → IsSound old → HelperSteps old core new → AreApart old
    → AreApart new
step_apart old core new sound step apart = elim step [
  | inl on ↦ apart_after old core new (goes_on_changes old core on.0 new on.1) apart
  | inr rest ↦ elim rest [
    | inl draws ↦ apart_after old core new (draws_changes old core draws.0 new sound draws.1) apart
    | inr none ↦ subst (λ (s : Side). AreApart s) (sym none.rest) apart
  ]
]

-- Each kind of answer keeps hands apart.

inner_apart : (w : World) (old : Side) (core : ℕ) (answer : Why) (new : Side) → IsSound old
    → IsLawful w old core (did.Inner answer) new → AreApart old → AreApart new
inner_apart w old core (why.Copy entry) new sound h apart =
    apart_after old core new (goes_on_changes old core entry new h.step) apart
inner_apart w old core (why.Prepare page) new sound h apart =
    apart_after old core new (prepares_changes w old core page new h) apart
inner_apart w old core (why.Home page) new sound h apart =
    apart_after old core new (home_changes w old core page new apart h) apart
inner_apart w old core why.Lead new sound h apart = lead_apart old core new h apart
inner_apart w old core why.Help new sound h apart = step_apart old core new sound h.step apart
inner_apart w old core answer new sound h apart =
    apart_same old new (ap (λ (s : Side). s.cores) h.rest)
    (same_board old new (ap (λ (s : Side). s.board) h.rest)) apart

pub turn_apart : (w : World) (old : Side) (core : ℕ) (answer : Did) (new : Side) → IsSound old
    → IsLawful w old core answer new → AreApart old → AreApart new
turn_apart w old core (did.Inner answer) new sound h apart = inner_apart w old core answer new sound h apart
turn_apart w old core answer new sound h apart =
    apart_same old new (ap (λ (s : Side). s.cores) h.rest)
    (same_board old new (ap (λ (s : Side). s.board) h.rest)) apart

same_apart : (old new : Side) → new ≡ old → AreApart old → AreApart new
same_apart old new is apart = subst (λ (s : Side). AreApart s) (sym is) apart

asked_apart : (w : World) (old : Side) (answer : Asked) (new : Side) → IsLawfulAsked w old answer new → AreApart old
    → AreApart new
asked_apart w old asked.Started new h apart =
    apart_same old new (ap (λ (s : Side). s.cores) h.rest) (only_away old.board new.board h.board) apart
asked_apart w old asked.InFlight new h apart = same_apart old new h.1 apart
asked_apart w old (asked.VersionSpent v) new h apart = same_apart old new h.rest apart
asked_apart w old asked.Memory new h apart = same_apart old new h apart

back_apart : (w : World) (old : Side) (version : Option ℕ) (new : Side) → IsLawfulBack w old version new
    → AreApart old → AreApart new
back_apart w old None new h apart = same_apart old new h apart
back_apart w old (Some v) new h apart =
    apart_same old new (ap (λ (s : Side). s.cores) h.rest)
    (same_board old new (ap (λ (s : Side). s.board) h.rest)) apart

taken_side : (w : World) (channel : ℕ) (entry : Option Entry) (old new : Seen) → IsTaken w channel entry old new
    → new.side ≡ old.side
taken_side w channel None old new h = ap (λ (s : Seen). s.side) h.rest
taken_side w channel (Some entry) old new h = ap (λ (s : Seen). s.side) h.rest

begun_apart : (mode : Mode) (left n : ℕ) (given : ℕ → Option ℕ) → AreApart (begun mode left n given)
begun_apart mode left n given = record {
  pages = λ a b page is other.
      absurd (no_some (core_at (begun mode left n given) a).prepares page
      (ap (λ (c : CoreSide). c.prepares) (begun_core n a)) is);
  home = λ i page is away.
      no_some (core_at (begun mode left n given) i).prepares page
      (ap (λ (c : CoreSide). c.prepares) (begun_core n i)) is;
  entries = λ a b entry is other.
      absurd (no_some (core_at (begun mode left n given) a).holds entry
      (ap (λ (c : CoreSide). c.holds) (begun_core n a)) is);
}

pub goes_apart : (format : Format) (event : Event) (answer : Answer) (old : Seen) (c : Course) (new : Seen)
    → IsSound old.side → Goes format event answer old c new → AreApart old.side → AreApart new.side
goes_apart format (Turn core) (told.Did answer) old c new sound h apart =
    turn_apart c.world old.side core answer new.side sound h.lawful apart
goes_apart format Ask (told.Asked answer) old c new sound h apart =
    asked_apart c.world old.side answer new.side h.lawful apart
goes_apart format Ask told.NotUp old c new sound h apart =
    same_apart old.side new.side (ap (λ (s : Seen). s.side) h.rest) apart
goes_apart format TakeWish (told.Wish wish) old c new sound h apart =
    apart_same old.side new.side (ap (λ (s : Side). s.cores) h.lawful.rest)
    (same_board old.side new.side (ap (λ (s : Side). s.board) h.lawful.rest)) apart
goes_apart format (WriteBack word) (told.WroteBack version) old c new sound h apart =
    back_apart c.world old.side version new.side h.lawful apart
goes_apart format (Input bytes) (told.Given given) old c new sound h apart =
    same_apart old.side new.side (ap (λ (s : Seen). s.side) h.rest) apart
goes_apart format (Input bytes) told.NotUp old c new sound h apart =
    same_apart old.side new.side (ap (λ (s : Seen). s.side) h.rest) apart
goes_apart format (Accept channel) (told.Accepted entry) old c new sound h apart =
    same_apart old.side new.side (taken_side c.world channel entry old new h.taken) apart
goes_apart format (Accept channel) told.NotUp old c new sound h apart =
    same_apart old.side new.side (ap (λ (s : Seen). s.side) h.rest) apart
goes_apart format Cut (told.Restarted version) old c new sound h apart =
    same_apart (begun new.side.mode new.side.left (length new.side.cores) new.side.given) new.side h.begins.side
    (begun_apart new.side.mode new.side.left (length new.side.cores) new.side.given)
goes_apart format event answer old c new sound h apart = absurd h

module _ {M : Type 0} (format : Format) (seen : M → Seen) (Shows : M → Course → Type 0) where
  pub plays_apart : (events : List Event) (answers : List Answer) (old : M) (c : Course) (new : M)
      → IsPlayed format seen Shows events answers old c new → IsSound (seen old).side → AreApart (seen old).side
      → AreApart (seen new).side
  plays_apart [] [] old c new h sound apart = subst (λ (m : M). AreApart (seen m).side) h apart
  plays_apart (event ∷ events) (answer ∷ answers) old c new h sound apart =
      plays_apart events answers h.0 (after c (label_of event answer)) new h.2 h.1.shown.sound
      (goes_apart format event answer (seen old) c (seen h.0) sound h.1.goes apart)
  plays_apart [] (answer ∷ answers) old c new h sound apart = absurd h
  plays_apart (event ∷ events) [] old c new h sound apart = absurd h

pub booted_apart : (cores : ℕ) (nvm : Memory) (m : Seen) → IsBooted cores nvm m → AreApart m.side
booted_apart cores nvm m booted =
    same_apart (begun Formatting m.side.left cores none_given) m.side booted.side
    (begun_apart Formatting m.side.left cores none_given)
