-- A tick keeps what is so of the running state, whatever the saved one is.
use Rattle.std.specs.Prelude.{ℕ}
use Rattle.std.proofs.Common.{refl}
use Rattle.plain_model.specs.Worlds.{World}
use Rattle.plain_model.specs.Ticks.{chosen, tick, world_of_effect, effect_for}
use Rattle.plain_laws.specs.Places.{IsPlaced}
use Rattle.plain_laws.specs.Laws.{AreInRange}
use Rattle.plain_laws.specs.Sound.{HaveForms, AreApart}
use Rattle.plain_laws.proofs.Walk.{ticked_of}
use Rattle.plain_laws.proofs.PlacedLabels.{effect_placed}
use Rattle.plain_laws.proofs.InRangeLabels.{effect_below}
use Rattle.plain_laws.proofs.Forms.{effect_forms}
use Rattle.plain_laws.proofs.Apart.{good_apart}
use Rattle.plain_laws.proofs.ApartLabels.{effect_good, apart_good}

pub tick_placed : (w : World) (core : ℕ) → IsPlaced w.now → IsPlaced (tick w core).now
tick_placed w core h = ticked_of (λ (v : World). IsPlaced v.now) w core (λ c e. effect_placed w core c e h) h (chosen w.now core) refl

pub tick_below : (w : World) (core : ℕ) → IsPlaced w.now → AreInRange w.now → AreInRange (tick w core).now
tick_below w core placed h = ticked_of (λ (v : World). AreInRange v.now) w core (λ c e. effect_below w core c e placed h) h (chosen w.now core) refl

pub tick_formed : (w : World) (core : ℕ) → HaveForms w.now → HaveForms (tick w core).now
tick_formed w core h = ticked_of (λ (v : World). HaveForms v.now) w core (λ c e. effect_forms w core c h) h (chosen w.now core) refl

pub tick_apart : (w : World) (core : ℕ) → AreInRange w.now → AreApart w.now → AreApart (tick w core).now
tick_apart w core range h =
    let good = apart_good w.now range h in
    ticked_of (λ (v : World). AreApart v.now) w core (λ c e. good_apart (world_of_effect w core c (effect_for w c)).now (effect_good w core c good)) h (chosen w.now core) refl
