use Rattle.std.proofs.Common.{◌≡◌, ◌<◌, ◌≤◌, ℕ}
use Rattle.sls_base.specs.declared.limits.TheConstants.{OBJECTS}
use Rattle.kobj_table.specs.Objects.{Rest, slot_at, state_of}
use Rattle.leader_helper.specs.Sweep.{freshened, is_zeroed_below, ReadAsZeros}
use Rattle.leader_helper.proofs.sweeping.freshen_pages.Given as goal

abbrev pub invariant-loop-page : goal.invariant-loop-page
invariant-loop-page l = record {
  slots : (i : ℕ) → i < OBJECTS → slot_at l.objects i ≡ freshened (is_zeroed_below l.rooms l.page) (slot_at l.initial.objects i);
  past : (i : ℕ) → OBJECTS ≤ i → slot_at l.objects i ≡ slot_at l.initial.objects i;
  links : l.objects.links ≡ l.initial.objects.links;
  state : (rest : Rest) → ReadAsZeros l.rooms rest.content → state_of l.objects rest ≡ state_of l.initial.objects rest;
}
