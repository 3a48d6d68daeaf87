-- Reading programs one after another, as a loop does.
use Rattle.std.proofs.Common.{◌≡◌, ℕ, suc, ◌+◌, ◌-◌, ◌<◌, ◌≤◌, List, [], ◌∷◌, ◌++◌, drop, None, refl, sym, ap, ◌∙◌, append_assoc, arith}
use Rattle.std.proofs.lemmas.List.{drop-drop, append-nil}
use Rattle.boot_image.specs.declared.fault.ImageError.{ImageError}
use Rattle.boot_image.specs.Values.{ProgramValue, program_at, program_size, programs_at, programs_size, pages_of, objects_of}
use Rattle.boot_image.specs.Rules.{Refuses}
use Rattle.boot_image.specs.Programs.{program_fault, programs_fault}
use Rattle.boot_image.proofs.Firsts.{first_one, refused_first}

-- behind these programs, of this size and up to these objects and pages, so many are left, and what they are is what all are
pub record IsReadTo (count at objects pages : ℕ) (bytes : List ℕ) (left done used taken : ℕ) (programs : List ProgramValue) : Type 0 where
  pub fault : programs_fault left (at + done) used taken (drop done bytes) ≡ programs_fault count at objects pages bytes
  pub said : programs ++ programs_at left (drop done bytes) ≡ programs_at count bytes
  pub size : done + programs_size left (drop done bytes) ≡ programs_size count bytes

pub steps : (count at objects pages : ℕ) (bytes : List ℕ) (n size used taken : ℕ) (programs : List ProgramValue)
    → IsReadTo count at objects pages bytes (suc n) size used taken programs
    → program_fault (at + size) used taken (drop size bytes) ≡ None
    → IsReadTo count at objects pages bytes n (size + program_size (drop size bytes)) (used + objects_of (program_at (drop size bytes)))
    (taken + pages_of (program_at (drop size bytes)).regions) (programs ++ program_at (drop size bytes) ∷ [])
unfolding programs_fault programs_at programs_size
steps count at objects pages bytes n size used taken programs so_far none =
    let rest : List ℕ = drop size bytes in
    let moved : drop (size + program_size rest) bytes ≡ drop (program_size rest) rest = sym (drop-drop (program_size rest) size bytes) in
    let place : at + (size + program_size rest) ≡ (at + size) + program_size rest = omega arith in
    let one = rw none at so_far.fault in
    record {
      fault = rw (moved, place) (sym (first_one _) ∙ one);
      said = rw moved (append_assoc programs (program_at rest ∷ []) (programs_at n (drop (program_size rest) rest)) ∙ so_far.said);
      size = rw moved (omega (arith, so_far.size));
    }

-- the step of a loop that counts up
pub goes_on : (count at objects pages : ℕ) (bytes : List ℕ) (i size used taken : ℕ) (programs : List ProgramValue) (p : ProgramValue) (s next : ℕ) → i < count
    → IsReadTo count at objects pages bytes (count - i) size used taken programs
    → program_fault (at + size) used taken (drop size bytes) ≡ None
    → ◌≡◌ {A = ProgramValue × ℕ} (p, s) (program_at (drop size bytes), program_size (drop size bytes))
    → next ≡ taken + pages_of (program_at (drop size bytes)).regions
    → IsReadTo count at objects pages bytes (count - (i + 1)) (size + s) (used + objects_of p) next (programs ++ p ∷ [])
goes_on count at objects pages bytes i size used taken programs p s next lt so_far none is next-is =
    let k : count - i ≡ suc (count - (i + 1)) = omega arith in
    let p-is : p ≡ program_at (drop size bytes) = ap (λ (q : ProgramValue × ℕ). q.0) is in
    let s-is : s ≡ program_size (drop size bytes) = ap (λ (q : ProgramValue × ℕ). q.1) is in
    rw (p-is, s-is, next-is) (steps count at objects pages bytes (count - (i + 1)) size used taken programs (rw k at so_far) none)

pub ends : (e : ImageError) (count at objects pages : ℕ) (bytes : List ℕ) (i size used taken : ℕ) (programs : List ProgramValue) → i < count
    → IsReadTo count at objects pages bytes (count - i) size used taken programs
    → Refuses e (program_fault (at + size) used taken (drop size bytes))
    → Refuses e (programs_fault count at objects pages bytes)
unfolding programs_fault
ends e count at objects pages bytes i size used taken programs lt so_far h =
    let k : count - i ≡ suc (count - (i + 1)) = omega arith in
    rw (← so_far.fault, k) (refused_first e (program_fault (at + size) used taken (drop size bytes)) _ h)

pub record IsRead (count at objects pages : ℕ) (bytes : List ℕ) (size : ℕ) (programs : List ProgramValue) : Type 0 where
  pub kept : programs_fault count at objects pages bytes ≡ None
  pub said : ◌≡◌ {A = List ProgramValue × ℕ} (programs, size) (programs_at count bytes, programs_size count bytes)

pub is_done : (count at objects pages : ℕ) (bytes : List ℕ) (i size used taken : ℕ) (programs : List ProgramValue) → count ≤ i
    → IsReadTo count at objects pages bytes (count - i) size used taken programs → IsRead count at objects pages bytes size programs
unfolding programs_fault programs_at programs_size
is_done count at objects pages bytes i size used taken programs le so_far =
    let k : count - i ≡ 0 = omega arith in
    let last = rw k at so_far in
    let programs-is : programs ≡ programs_at count bytes = sym (append-nil programs) ∙ last.said in
    let size-is : size ≡ programs_size count bytes = omega (arith, last.size) in
    record { kept = sym last.fault; said = rw (programs-is, size-is) refl }
