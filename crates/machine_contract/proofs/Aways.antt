-- Home leaves fewer entries away, and while the machine runs no answer leaves more.
use Rattle.std.proofs.Common.{◌≡◌, ℕ, zero, suc, ◌<◌, ◌≤◌, ◌==◌, ap, refl, Bool, true, false, not, cond, arith, List, [], ◌∷◌}
use Rattle.std.specs.List.{sum_by}
use Rattle.std.proofs.lemmas.Bool.Decides.{nat_tests}
use Rattle.std.proofs.lemmas.List.Sums.{sum_by-cons}
use Rattle.plain_model.specs.Worlds.{World}
use Rattle.machine_contract.specs.declared.answers.Did.{Did}
use Rattle.machine_contract.specs.declared.answers.Did.TheVariants as did
use Rattle.machine_contract.specs.declared.answers.Why.{Why}
use Rattle.machine_contract.specs.declared.answers.Why.TheVariants as why
use Rattle.machine_contract.specs.Side.{BoardEntry, Side, Running}
use Rattle.machine_contract.specs.Lawful.{IsLawful, IsAway, homed, brought_home}
use Rattle.machine_contract.specs.Laws.{away_count}
use Rattle.machine_contract.proofs.Hands.{checkpoint_not}

-- one for an entry that is away
abbrev pub away_one : BoardEntry → ℕ
away_one entry = cond (not entry.home) 1 0

homed_one : (page : ℕ) (b : Bool) (entry : BoardEntry) → (entry.page == page) ≡ b
    → away_one (homed page entry) ≤ away_one entry
homed_one page true entry is = rw is (omega arith)
homed_one page false entry is = rw is (omega arith)

homed_here : (page : ℕ) (entry : BoardEntry) → entry.page ≡ page → entry.home ≡ false
    → away_one (homed page entry) < away_one entry
homed_here page entry is away =
    let here : (entry.page == page) ≡ true = grind (arith, nat_tests) in rw (here, away) (omega arith)

homed_count : (page : ℕ) (board : List BoardEntry)
    → sum_by away_one (brought_home board page) ≤ sum_by away_one board
homed_count page [] = omega arith
homed_count page (entry ∷ board) =
    let one = homed_one page (entry.page == page) entry refl in
    let rest = homed_count page board in
    let new = sum_by-cons away_one (homed page entry) (brought_home board page) in
    let old = sum_by-cons away_one entry board in
    omega arith

homed_fewer : (page : ℕ) (board : List BoardEntry) → IsAway board page
    → sum_by away_one (brought_home board page) < sum_by away_one board
homed_fewer page [] away = absurd (let below = away.1 in omega arith)
homed_fewer page (entry ∷ board) (zero, below, is, away) =
    let one = homed_here page entry is away in
    let rest = homed_count page board in
    let new = sum_by-cons away_one (homed page entry) (brought_home board page) in
    let old = sum_by-cons away_one entry board in
    omega arith
homed_fewer page (entry ∷ board) (suc i, below, is, away) =
    let one = homed_one page (entry.page == page) entry refl in
    let rest = homed_fewer page board (i, omega arith, is, away) in
    let new = sum_by-cons away_one (homed page entry) (brought_home board page) in
    let old = sum_by-cons away_one entry board in
    omega arith

pub home_fewer : (w : World) (old : Side) (core page : ℕ) (new : Side)
    → IsLawful w old core (did.Inner (why.Home page)) new → away_count new < away_count old
home_fewer w old core page new h =
    let fewer = homed_fewer page old.board h.away in
    let same : away_count new ≡ sum_by away_one (brought_home old.board page) = ap away_count h.rest in
    omega arith

same_count : (old new : Side) → new.board ≡ old.board → away_count new ≤ away_count old
same_count old new is =
    let same : away_count new ≡ away_count old = ap (λ (b : List BoardEntry). sum_by away_one b) is in omega arith

inner_aways : (w : World) (old : Side) (core : ℕ) (answer : Why) (new : Side) → old.mode ≡ Running
    → IsLawful w old core (did.Inner answer) new → away_count new ≤ away_count old
inner_aways w old core (why.Copy entry) new runs h = same_count old new (ap (λ (s : Side). s.board) h.step.rest)
inner_aways w old core (why.Home page) new runs h = let fewer = home_fewer w old core page new h in omega arith
inner_aways w old core why.Lead new runs h = absurd (checkpoint_not old.mode h.mode runs)
inner_aways w old core why.Help new runs h = absurd (checkpoint_not old.mode h.mode runs)
inner_aways w old core answer new runs h = same_count old new (ap (λ (s : Side). s.board) h.rest)

pub turn_aways : (w : World) (old : Side) (core : ℕ) (answer : Did) (new : Side) → old.mode ≡ Running
    → IsLawful w old core answer new → away_count new ≤ away_count old
turn_aways w old core (did.Inner answer) new runs h = inner_aways w old core answer new runs h
turn_aways w old core answer new runs h = same_count old new (ap (λ (s : Side). s.board) h.rest)
