-- What word 0 of a record tells.
use Rattle.std.proofs.Common.{◌≡◌, ℕ, ◌+◌, ◌*◌, ◌/◌, ◌%◌, refl, arith, Bool, true, false, ◌==◌, length}
use Rattle.sls_base.specs.declared.thread.Thread.{Thread}
use Rattle.sls_base.specs.declared.thread.Ring.{Ring}
use Rattle.mem_space.specs.declared.memory.Memory.{Memory}
use Rattle.kobj_codec.specs.declared.obj.ConnectionRec.{ConnectionRec}
use Rattle.kobj_codec.specs.declared.obj.NotificationRec.{NotificationRec}
use Rattle.kobj_codec.specs.declared.obj.Scheduler.{Scheduler}
use Rattle.kobj_codec.specs.declared.obj.Obj.TheVariants as objs
use Rattle.kobj_codec.specs.Objects.{IsThread, IsMemory, IsRing, IsConnection, IsScheduler}
use Rattle.kobj_codec.specs.Records.{IsRecord, mark, state_number, about, client_number}
use Rattle.kobj_codec.proofs.Told.{mark_small, state_small, client_small}

pub record TellsThread (word : ℕ) (t : Thread) : Type 0 where
  pub group : word / 256 % 256 ≡ t.group
  pub space : word / 65536 % 256 ≡ t.space
  pub number : word / 16777216 % 256 ≡ state_number t.state
  pub about_is : word / 4294967296 % 256 ≡ about t.state

pub thread_head : {words : ℕ → ℕ} (t : Thread) → IsThread t → IsRecord words (objs.Thread t) → TellsThread (words 0) t
thread_head t i r =
    let head = r.head in
    let s = state_small t.state i.state in
    let g = i.group in let p = i.space in
    record {
      group = omega (arith, head, g);
      space = omega (arith, head, g, p);
      number = omega (arith, head, g, p, s.0);
      about_is = omega (arith, head, g, p, s.0, s.1);
    }

pub record TellsRing (word : ℕ) (r : Ring) : Type 0 where
  pub channel : word / 256 % 256 ≡ r.channel
  pub fresh : (word / 65536 % 256 == 1) ≡ r.fresh

mark_read : (a : Bool) (n : ℕ) → n ≡ mark a → (n == 1) ≡ a
mark_read true n e = rw e refl
mark_read false n e = rw e refl

pub ring_head : {words : ℕ → ℕ} (r : Ring) → IsRing r → IsRecord words (objs.Ring r) → TellsRing (words 0) r
ring_head {words} r i h =
    let head = h.head in
    let c = i.channel in
    let m = mark_small r.fresh in
    record {
      channel = omega (arith, head, c);
      fresh = mark_read r.fresh (words 0 / 65536 % 256) (omega (arith, head, c, m));
    }

pub record TellsConnection (word : ℕ) (c : ConnectionRec) : Type 0 where
  pub server : word / 256 % 256 ≡ c.server
  pub client : word / 65536 % 256 + 256 * (word / 16777216 % 256) ≡ client_number c.client

pub connection_head : {words : ℕ → ℕ} (c : ConnectionRec) → IsConnection c → IsRecord words (objs.Connection c)
    → TellsConnection (words 0) c
connection_head c i r =
    let head = r.head in
    let s = i.server in
    let n = client_small c.client i.client in
    record { server = omega (arith, head, s); client = omega (arith, head, s, n) }

pub notification_head : {words : ℕ → ℕ} (n : NotificationRec) → IsRecord words (objs.Notification n)
    → words 0 / 4294967296 ≡ n.count
notification_head n r = let head = r.head in omega (arith, head)

pub memory_head : {words : ℕ → ℕ} (m : Memory) → IsMemory m → IsRecord words (objs.Memory m)
    → words 0 / 256 % 256 ≡ length m.pages.items
memory_head m i r = let head = r.head in let most = i.most in omega (arith, head, most)

pub scheduler_head : {words : ℕ → ℕ} (s : Scheduler) → IsScheduler s → IsRecord words (objs.Scheduler s)
    → words 0 / 256 % 256 ≡ s.cores
scheduler_head s i r = let head = r.head in let most = i.most in omega (arith, head, most)
