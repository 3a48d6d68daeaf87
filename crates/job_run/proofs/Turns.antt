-- What a turn of a machine that runs is.
use Rattle.std.proofs.Common.{◌≡◌, inl, inr, ◌<◌, nat_lt, true, false, arith, refl, ◌∙◌, sym}
use Rattle.std.proofs.lemmas.Bool.Decides.{nat_tests}
use Rattle.sls_base.specs.declared.limits.TheConstants.{LAST_VERSION}
use Rattle.sls_kernel.specs.Shows.{ShowsOff, StandsFor, durable_words}
use Rattle.sls_kernel.specs.declared.machine.Machine.{Machine}
use Rattle.sls_kernel.specs.declared.machine.Off.{Off}
use Rattle.sls_kernel.specs.Plain.{World, tick, cut}
use Rattle.sls_kernel.specs.Side.{Mode, Formatting, Running, ModeGoes, ModeGoesInner, turned, mode}
use Rattle.sls_kernel.specs.declared.answers.Did.{Did}
use Rattle.sls_kernel.specs.declared.answers.Did.TheVariants as did
use Rattle.sls_kernel.specs.declared.answers.Why.{Why}
use Rattle.sls_kernel.specs.declared.answers.Why.TheVariants as why

-- a machine that runs makes no inner turn
no_inner : (new : Mode) (w : Why) → ModeGoesInner Running w new → ⊥
no_inner new why.Format g = let e = g.0 in cc
no_inner new why.Recover g = let e = g.0 in cc
no_inner new why.Lead g = elim g [ inl before ↦ (let e = before.0 in cc) | inr behind ↦ (let e = behind.0 in cc) ]
no_inner new (why.Prepare page) g = g
no_inner new (why.Home page) g = g
no_inner new (why.Wait page core) g = g
no_inner new (why.Copy entry) g = g
no_inner new why.Help g = g
no_inner new why.Paused g = g

pub ticked_turn : (new : Mode) (d : Did) (w : World) → ModeGoes Running d new → (new ≡ Running) × (turned w d ≡ tick w)
ticked_turn new did.Retired w g = (g.1, refl)
ticked_turn new did.Idle w g = (g.1, refl)
ticked_turn new (did.Inner why) w g = absurd (no_inner new why g)
ticked_turn new (did.Committed v) w g = let e = g.0 in cc
ticked_turn new (did.Up v) w g = elim g.0 [ inl formatting ↦ cc | inr recovering ↦ cc ]

-- whether there is a version for one more checkpoint
pub has_version : (w : World) → w.version < LAST_VERSION → nat_lt w.version LAST_VERSION ≡ true
has_version w h = grind (arith, nat_tests)

pub has_none : (w : World) → w.version ≡ LAST_VERSION → nat_lt w.version LAST_VERSION ≡ false
has_none w h = grind (arith, nat_tests)

-- a memory that was cut while the machine ran stands for the saved copy
pub cut_stands : (m : Machine) (off : Off) (w : World) → mode m ≡ Running → ShowsOff off (cut w) → (durable_words off.nvm 0 ≡ 0 → mode m ≡ Formatting) → StandsFor (durable_words off.nvm) w
cut_stands m off w up shows unformatted = elim shows.words [ inl stands ↦ record { version = shows.version; saved = stands } | inr early ↦ (let e = unformatted early.unformatted in cc) ]

pub not_both : {m : Mode} → m ≡ Running → m ≡ Formatting → ⊥
not_both {m} up formatting = let e : Running ≡ Formatting = sym up ∙ formatting in cc

pub still_running : (new : Mode) (d : Did) → ModeGoes Running d new → new ≡ Running
still_running new did.Retired g = g.1
still_running new did.Idle g = g.1
still_running new (did.Inner why) g = absurd (no_inner new why g)
still_running new (did.Committed v) g = let e = g.0 in cc
still_running new (did.Up v) g = elim g.0 [ inl formatting ↦ cc | inr recovering ↦ cc ]
