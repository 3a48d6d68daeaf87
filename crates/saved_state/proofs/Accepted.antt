-- An entry that the device accepts is no word of the memory.
use Rattle.std.proofs.Common.{◌≡◌, ℕ, ◌+◌, ◌<◌, ◌≤◌, ◌==◌, Bool, true, false, if◌then◌else◌, List, length, refl, sym, subst, arith}
use Rattle.std.proofs.lemmas.Bool.{eqb-true}
use Rattle.sls_base.specs.declared.thread.Ring.{Ring}
use Rattle.plain_model.specs.States.{State}
use Rattle.durable_state.specs.Parts.{Parts}
use Rattle.saved_state.specs.State.{ArePartsOf, IsRing}

-- a ring of which more was accepted
accepts_more : (channel base accepted more : ℕ) (byte : ℕ → ℕ) (out : List (List ℕ)) (ring : Ring) → accepted ≤ more → more ≤ base + length out → IsRing channel base accepted byte out ring → IsRing channel base more byte out ring
accepts_more channel base accepted more byte out ring rises put h = record {
  channel_is = h.channel_is;
  page = h.page;
  count = h.count;
  begun = omega (arith, h.begun, rises);
  put = omega (arith, h.count, put);
  room = omega (arith, h.room, rises);
  entries = λ i from inside. h.entries i (omega (arith, from, rises)) inside;
}

module _ (base accepted : ℕ → ℕ) (s : State) (channel : ℕ) (waits : accepted channel < base channel + length (s.out channel)) where
  abbrev next : ℕ → ℕ
  next i = if i == channel then accepted i + 1 else accepted i

  -- at most one more
  one_more : (i : ℕ) (b : Bool) → (i == channel) ≡ b → accepted i ≤ base i + length (s.out i) → (accepted i ≤ (if b then accepted i + 1 else accepted i)) × ((if b then accepted i + 1 else accepted i) ≤ base i + length (s.out i))
  one_more i true e put =
      let room : accepted i < base i + length (s.out i) = subst (λ (k : ℕ). accepted k < base k + length (s.out k)) (sym (eqb-true i channel e)) waits in
      (omega arith, omega (arith, room))
  one_more i false e put = (omega arith, put)

  pub accept_keeps : (p : Parts) → ArePartsOf base accepted p s → ArePartsOf base (λ i. if i == channel then accepted i + 1 else accepted i) p s
  accept_keeps p h = record {
    state = h.state;
    sound = h.sound;
    swept = h.swept;
    cores = h.cores;
    none = h.none;
    used_objects = h.used_objects;
    used_pages = h.used_pages;
    pages = h.pages;
    rings = λ c lt. (
        let had = h.rings c lt in
        let more = one_more c (c == channel) refl (omega (arith, had.2.put, had.2.count)) in
        (had.0, had.1, accepts_more _ _ (accepted c) (next c) _ (s.out c) had.0 more.0 more.1 had.2)
        );
    channels = h.channels;
  }
