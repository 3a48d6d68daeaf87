use Rattle.std.proofs.Common.{rules, ◌≡◌, ◌≤◌, ℕ, ◌+◌, ◌*◌, ◌/◌, List, length, slice_index, take, ap, ◌∙◌, arith}
use Rattle.std.proofs.lemmas.List.{get_or-take, length-take}
use Rattle.pmem_model.specs.Words.{bursts}
use Rattle.pmem_model.specs.Memory.{word_at}
use Rattle.pmem_model.specs.PlaceLaws.{home-at, inside_at}
use Rattle.pmem_layout.specs.Places.{frame_at, runtime_frame}
use Rattle.call_readings.specs.Content.{byte_of}
use Rattle.page_bytes.specs.Bytes.{word_of_page, words_of}
use Rattle.page_bytes.proofs.Frames.{reads_stored}
use Rattle.page_bytes.proofs.store.store_bytes.Goals as goal

-- the bytes stand in the words that they touch
last_word : (offset size : ℕ) → 1 ≤ size → size ≤ 64 → (words_of offset size ≤ 9) × (offset + size ≤ 8 * (offset / 8 + words_of offset size))
last_word offset size some most = (omega (arith, some, most), omega (arith, some, most))

room : (offset size : ℕ) → 1 ≤ size → offset + size ≤ 4096 → offset / 8 + words_of offset size ≤ 512
room offset size some within = omega (arith, some, within)

length_taken : (n : ℕ) (words : List ℕ) → length words ≡ 9 → n ≤ 9 → length (take n words) ≡ n
length_taken n words size most = length-take n words ∙ omega (arith, size, most)

pub burst-requires-clause-inside : goal.burst-requires-clause-inside
burst-requires-clause-inside c =
    let a = c.args in
    let count = words_of a.offset (length a.bytes.now) in
    let size = length_taken count c.words_with-words.result (search rules) (last_word a.offset (length a.bytes.now) c.requires.some c.requires.most).0 in
    let within = room a.offset (length a.bytes.now) c.requires.some c.requires.within in
    inside_at (c.frame_at.result + a.offset / 8) (runtime_frame a.page) (a.offset / 8) (length (take count c.words_with-words.result)) (omega arith) (omega arith)
    (omega (arith, size, within))

pub burst-requires-clause-home : goal.burst-requires-clause-home
burst-requires-clause-home c =
    let a = c.args in
    home-at a.nvm.now (c.frame_at.result + a.offset / 8) (runtime_frame a.page) (a.offset / 8) (omega arith) (omega arith) ∙ c.requires.home

pub returns-clause-content : goal.returns-clause-content
returns-clause-content c content reads =
    let a = c.args in
    let bytes = a.bytes.now in
    let first = a.offset / 8 in
    let count = words_of a.offset (length bytes) in
    let words = c.words_with-words.result in
    let value : ℕ → ℕ = slice_index (take count words) in
    let last = last_word a.offset (length bytes) c.requires.some c.requires.most in
    let size = length_taken count words (search rules) last.0 in
    let there : c.frame_at.result + first ≡ word_of_page a.page first =
    ap (λ (at : ℕ). at + first) (c.frame_at.ensures.at ∙ ap frame_at c.runtime_frame.ensures.frame) in
    reads_stored content a.nvm.now c.burst.new.self a.page first count a.offset value bytes
    c.requires.page c.requires.home (room a.offset (length bytes) c.requires.some c.requires.within) (omega arith) last.1
    (λ i. c.burst.ensures.words i
    ∙ ap (λ (n : ℕ). bursts (c.frame_at.result + first) n value (word_at a.nvm.now) i) size
    ∙ ap (λ (at : ℕ). bursts at count value (word_at a.nvm.now) i) there)
    c.burst.ensures.homes
    (λ k j l inside. ap (λ (word : ℕ). byte_of word j) (get_or-take count words k 0 l) ∙ c.words_with-words.ensures k j l inside)
    reads
