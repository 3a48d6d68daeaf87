-- Memory objects.
use Rattle.std.proofs.Common.{◌≡◌, ℕ, ◌+◌, ◌*◌, ◌/◌, ◌%◌, ◌<◌, ◌∙◌, ap, sym, arith, List, length, slice_index, get_or, Some}
use Rattle.std.specs.Prelude.{slice_get}
use Rattle.std.proofs.lemmas.Option.{slice_get-get_or}
use Rattle.mem_space.specs.declared.memory.MemPage.{MemPage}
use Rattle.mem_space.specs.declared.memory.Memory.{Memory}
use Rattle.pmem_layout.specs.Bits.{bits}
use Rattle.kobj_codec.specs.declared.obj.Obj.TheVariants as objs
use Rattle.kobj_codec.specs.Objects.{IsMemory, IsPage}
use Rattle.kobj_codec.specs.Records.{IsRecord, page_number}
use Rattle.kobj_codec.proofs.Told.{no_page, memory_told}

abbrev pub memory_of : List MemPage → Memory
memory_of pages = record { pages = record { items = pages } }

-- the pages of a memory object in range that the words are the record of
abbrev pub PagesOf : List ℕ → List MemPage → Type 0
PagesOf words pages = IsMemory (memory_of pages) × IsRecord (slice_index words) (objs.Memory (memory_of pages))

-- what is read of a number is the page that it tells of
pub next_page : (words : List ℕ) (pages : List MemPage) (n number : ℕ) (page : MemPage) → PagesOf words pages → n < length pages
    → number ≡ bits (16 * (n % 4)) 16 (slice_index words (n / 4 + 1)) → ((p : MemPage) → IsPage p → number ≡ page_number (Some p) → page ≡ p)
    → slice_get pages n ≡ Some page
next_page words pages n number page w inside read only =
    let most = w.0.most in
    let there = slice_get-get_or pages n no_page inside in
    let told : number ≡ page_number (slice_get pages n) = read ∙ memory_told (memory_of pages) w.0 w.1 n (omega (arith, inside, most)) in
    let same = only (get_or pages n no_page) (w.0.pages n no_page inside) (told ∙ ap page_number there) in
    there ∙ ap (λ (p : MemPage). Some p) (sym same)
