-- What a state is, part by part, that records and words of pages stand for.
use Rattle.std.proofs.Common.{◌≡◌, ℕ, ◌<◌, ◌/◌, ◌%◌, ◌&&◌, nat_lt, Bool, true, false, if◌then◌else◌, Option, refl, ap, arith}
use Rattle.std.proofs.lemmas.Bool.Decides.{nat_tests}
use mathlib.Core.Path.{fun_ext}
use Rattle.sls_base.specs.declared.limits.TheConstants.{FRAME_WORDS, PAGES, PAGE_BYTES}
use Rattle.sls_base.specs.declared.fixed.TheConstants.{SCHEDULER}
use Rattle.plain_model.specs.States.{State}
use Rattle.page_store.specs.Shows.{words_of}
use Rattle.kobj_codec.specs.declared.obj.Obj.{Obj}
use Rattle.object_records.specs.Records.{object_in, list_in, cores_in, state_of_records}
use Rattle.call_readings.specs.declared.content.TheConstants.{WORD_BYTES}
use Rattle.call_readings.specs.Content.{byte_of}
use Rattle.saved_state.specs.State.{content_of, rest_of}

pub objects_are : (records : ℕ → Option Obj) (pages : ℕ → Option (ℕ → ℕ)) (s : State) → s ≡ state_of_records records (rest_of pages s) → (i : ℕ) → s.objects i ≡ object_in (content_of pages) (records i)
unfolding state_of_records
objects_are records pages s e i = ap (λ (x : State). x.objects i) e

pub queue_is : (records : ℕ → Option Obj) (pages : ℕ → Option (ℕ → ℕ)) (s : State) → s ≡ state_of_records records (rest_of pages s) → s.queue ≡ list_in (records SCHEDULER)
unfolding state_of_records
queue_is records pages s e = ap (λ (x : State). x.queue) e

pub cores_are : (records : ℕ → Option Obj) (pages : ℕ → Option (ℕ → ℕ)) (s : State) → s ≡ state_of_records records (rest_of pages s) → s.cores ≡ cores_in (records SCHEDULER)
unfolding state_of_records
cores_are records pages s e = ap (λ (x : State). x.cores) e

-- pages with the same words have the same bytes
pub same_content : (p q : ℕ → Option (ℕ → ℕ)) → ((page j : ℕ) → page < PAGES → j < FRAME_WORDS → words_of (p page) j ≡ words_of (q page) j) → content_of p ≡ content_of q
same_content p q same = fun_ext (λ page. fun_ext (λ offset. by page offset (nat_lt page PAGES && nat_lt offset PAGE_BYTES) refl))
  where
    by : (page offset : ℕ) (b : Bool) → (nat_lt page PAGES && nat_lt offset PAGE_BYTES) ≡ b →
        (if b then byte_of (words_of (p page) (offset / WORD_BYTES)) (offset % WORD_BYTES) else 0) ≡ (if b then byte_of (words_of (q page) (offset / WORD_BYTES)) (offset % WORD_BYTES) else 0)
    by page offset true e =
        let inside : page < PAGES = grind (arith, nat_tests, e) in
        let fits : offset < PAGE_BYTES = grind (arith, nat_tests, e) in
        ap (λ (word : ℕ). byte_of word (offset % WORD_BYTES)) (same page (offset / WORD_BYTES) inside (omega (arith, fits)))
    by page offset false e = refl
