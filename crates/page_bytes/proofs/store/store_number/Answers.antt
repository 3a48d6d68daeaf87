use Rattle.std.proofs.Common.{◌≡◌, ℕ, ◌+◌, ◌*◌, ◌/◌, ◌<◌, List, ◌∷◌, [], slice_index, take, ap, ◌∙◌, arith}
use Rattle.pmem_model.specs.Words.{bursts}
use Rattle.pmem_model.specs.Memory.{word_at}
use Rattle.pmem_model.specs.PlaceLaws.{home-at, inside_at}
use Rattle.pmem_layout.specs.Places.{frame_at, runtime_frame}
use Rattle.plain_model.specs.Memory.{bytes_of_number}
use Rattle.call_readings.specs.Content.{byte_of}
use Rattle.page_bytes.specs.Bytes.{overwritten, word_of_page}
use Rattle.page_bytes.proofs.Words.{bytes_taken, length_of_number, only_word}
use Rattle.page_bytes.proofs.Frames.{reads_stored}
use Rattle.page_bytes.proofs.store.store_number.Goals as goal

next : (first j : ℕ) → 8 * first + j ≡ 8 * (first + 0) + j
next first j = omega arith

pub read-requires-clause-home : goal.read-requires-clause-home
read-requires-clause-home c =
    let a = c.args in
    home-at a.nvm.now (c.frame_at.result + a.offset / 8) (runtime_frame a.page) (a.offset / 8) (omega arith) (omega arith) ∙ c.requires.home

pub burst-requires-clause-inside : goal.burst-requires-clause-inside
burst-requires-clause-inside c =
    let a = c.args in
    inside_at (c.frame_at.result + a.offset / 8) (runtime_frame a.page) (a.offset / 8) 1 (omega arith) (omega arith) (omega arith)

pub burst-requires-clause-home : goal.burst-requires-clause-home
burst-requires-clause-home c =
    let a = c.args in
    home-at a.nvm.now (c.frame_at.result + a.offset / 8) (runtime_frame a.page) (a.offset / 8) (omega arith) (omega arith) ∙ c.requires.home

pub returns-clause-content : goal.returns-clause-content
returns-clause-content c content reads =
    let a = c.args in
    let first = a.offset / 8 in
    let merged = c.word_with-merged.result in
    let bytes = bytes_of_number a.size a.value in
    let value : ℕ → ℕ = slice_index (merged ∷ []) in
    let there : c.frame_at.result + first ≡ word_of_page a.page first =
    ap (λ (at : ℕ). at + first) (c.frame_at.ensures.at ∙ ap frame_at c.runtime_frame.ensures.frame) in
    let size = length_of_number a.size a.value in
    let taken : take a.size c.to_le_bytes-bytes.result ≡ bytes =
    ap (take a.size) c.to_le_bytes-bytes.ensures ∙ bytes_taken a.value a.size c.requires.size.1 in
    let word_is : c.read.result ≡ (word_at a.nvm.now (word_of_page a.page first + 0)).cached =
    c.read.ensures ∙ ap (λ (at : ℕ). (word_at a.nvm.now at).cached) (there ∙ omega arith) in
    let each = only_word merged
    (λ k word. (j : ℕ) → j < 8 → byte_of word j
    ≡ overwritten (λ other. byte_of (word_at a.nvm.now (word_of_page a.page first + k)).cached j) a.offset bytes (8 * (first + k) + j))
    (λ j h. c.word_with-merged.ensures j h
    ∙ ap (λ (word : ℕ). overwritten (λ other. byte_of word j) a.offset (take a.size c.to_le_bytes-bytes.result) (8 * first + j)) word_is
    ∙ ap (λ (l : List ℕ). overwritten (λ other. byte_of (word_at a.nvm.now (word_of_page a.page first + 0)).cached j) a.offset l (8 * first + j)) taken
    ∙ ap (λ (at : ℕ). overwritten (λ other. byte_of (word_at a.nvm.now (word_of_page a.page first + 0)).cached j) a.offset bytes at) (next first j)) in
    reads_stored content a.nvm.now c.burst.new.self a.page first 1 a.offset value bytes
    c.requires.page c.requires.home (omega arith) (omega arith) (omega (arith, size))
    (λ i. c.burst.ensures.words i ∙ ap (λ (at : ℕ). bursts at 1 value (word_at a.nvm.now) i) there)
    c.burst.ensures.homes (λ k j l. each k l j) reads
