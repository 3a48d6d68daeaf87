use Rattle.std.proofs.Common.{◌≡◌, ◌+◌, ℕ, ◌*◌, ap, ◌∙◌, arith, ◌<◌}
use Rattle.std.proofs.lemmas.List.{length-set}
use Rattle.pmem_model.specs.Memory.{word_at}
use Rattle.pmem_model.specs.PlaceLaws.{home-at}
use Rattle.pmem_layout.specs.Places.{frame_at, runtime_frame}
use Rattle.call_readings.specs.Content.{byte_of}
use Rattle.page_bytes.specs.Bytes.{overwritten, word_of_page}
use Rattle.page_bytes.proofs.Words.{set_each}
use Rattle.page_bytes.proofs.store.words_with.Goals as goal

pub read-requires-clause-home : goal.read-requires-clause-home
read-requires-clause-home c =
    let a = c.args in
    home-at a.nvm.now (c.frame_at.result + a.first + c.loop-i.i) (runtime_frame a.page) (a.first + c.loop-i.i) (omega arith) (omega arith) ∙ c.requires.home

pub loop-i-preserved : goal.loop-i-preserved
loop-i-preserved c =
    let a = c.args in
    let l = c.loop-i in
    let size = l.invariant.size in
    let place : c.frame_at.result + a.first + l.i ≡ word_of_page a.page a.first + l.i =
    ap (λ at. at + a.first + l.i) (c.frame_at.ensures.at ∙ ap frame_at c.runtime_frame.ensures.frame) in
    let word_is : c.read.result ≡ (word_at a.nvm.now (word_of_page a.page a.first + l.i)).cached =
    c.read.ensures ∙ ap (λ at. (word_at a.nvm.now at).cached) place in
    record {
      size = length-set l.words l.i c.word_with.result ∙ size;
      filled = λ m k below inside.
          set_each (λ m word. (k : ℕ) → k < 8
          → byte_of word k ≡ overwritten (λ other. byte_of (word_at a.nvm.now (word_of_page a.page a.first + m)).cached k) a.offset a.bytes.now (8 * (a.first + m) + k))
          l.words l.i c.word_with.result (omega (arith, size))
          (λ k inside. c.word_with.ensures k inside
          ∙ ap (λ (word : ℕ). overwritten (λ other. byte_of word k) a.offset a.bytes.now (8 * (a.first + l.i) + k)) word_is)
          (λ m below k inside. l.invariant.filled m k below inside) m below k inside;
    }
