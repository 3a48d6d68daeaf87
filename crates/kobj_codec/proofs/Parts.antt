-- Objects whose parts are the same are the same.
use Rattle.std.proofs.Common.{◌≡◌, ℕ, refl, Bool, List, Option}
use Rattle.sls_base.specs.declared.thread.ThreadState.{ThreadState}
use Rattle.sls_base.specs.declared.thread.Thread.{Thread}
use Rattle.sls_base.specs.declared.thread.Ring.{Ring}
use Rattle.kobj_codec.specs.declared.obj.ConnectionRec.{ConnectionRec}
use Rattle.kobj_codec.specs.declared.obj.NotificationRec.{NotificationRec}
use Rattle.kobj_codec.specs.declared.obj.Scheduler.{Scheduler}

pub same_thread : {g h s t p q : ℕ} {u v : ThreadState} {x y : List ℕ} → g ≡ h → s ≡ t → u ≡ v → p ≡ q → x ≡ y
    → ◌≡◌ {A = Thread} (record { group = g; space = s; state = u; pc = p; x = x })
    (record { group = h; space = t; state = v; pc = q; x = y })
same_thread a b c d e = rw (a, b, c, d, e) refl

pub same_connection : {s t : ℕ} {c d : Option ℕ} {xs ys : List ℕ} → s ≡ t → c ≡ d → xs ≡ ys
    → ◌≡◌ {A = ConnectionRec} (record { server = s; client = c; clients = record { items = xs } })
    (record { server = t; client = d; clients = record { items = ys } })
same_connection a b c = rw (a, b, c) refl

pub same_notification : {c d : ℕ} {xs ys : List ℕ} → c ≡ d → xs ≡ ys
    → ◌≡◌ {A = NotificationRec} (record { count = c; waiters = record { items = xs } })
    (record { count = d; waiters = record { items = ys } })
same_notification a b = rw (a, b) refl

pub same_ring : {c d n m p q : ℕ} {f g : Bool} → c ≡ d → f ≡ g → n ≡ m → p ≡ q
    → ◌≡◌ {A = Ring} (record { channel = c; fresh = f; count = n; page = p })
    (record { channel = d; fresh = g; count = m; page = q })
same_ring a b c d = rw (a, b, c, d) refl

pub same_scheduler : {c d : ℕ} {r q : List (Option (ℕ × ℕ))} {xs ys : List ℕ} → c ≡ d → r ≡ q → xs ≡ ys
    → ◌≡◌ {A = Scheduler} (record { cores = c; running = r; queue = record { items = xs } })
    (record { cores = d; running = q; queue = record { items = ys } })
same_scheduler a b c = rw (a, b, c) refl
