-- Objects that can be saved are as running objects are.
use Rattle.std.specs.Prelude.{◌≡◌, ℕ, zero, suc, ◌+◌, ◌/◌, ◌%◌, ◌<◌, ◌&&◌, nat_lt, Bool, true, false, if◌then◌else◌, [], length, Option, Some, None, is_some, slice_index_or}
use Rattle.std.proofs.Common.{refl, ap, sym, ◌∙◌, subst, arith, inl, inr}
use Rattle.std.proofs.lemmas.Bool.{cases_Bool}
use mathlib.Core.Path.{fun_ext}
use Rattle.sls_base.specs.declared.limits.TheConstants.{OUTPUT_CHANNELS, PAGES, PAGE_BYTES}
use Rattle.page_store.specs.Shows.{words_of}
use Rattle.plain_model.specs.States.{State}
use Rattle.plain_model.specs.Worlds.{World}
use Rattle.plain_laws.specs.Whole.{IsSound}
use Rattle.kobj_table.specs.declared.objects.Objects.{Objects}
use Rattle.kobj_table.specs.Objects.{Rest, slot_at, state_of}
use Rattle.object_records.specs.Records.{record_at}
use Rattle.object_records.specs.Pages.{is_content}
use Rattle.call_readings.specs.declared.content.TheConstants.{WORD_BYTES}
use Rattle.call_readings.specs.Content.{byte_of}
use Rattle.call_readings.specs.Kernel.{CountsEntries}
use Rattle.out_gate.specs.Entries.{HasEntry}
use Rattle.saved_state.specs.State.{content_of}
use Rattle.saved_state.specs.Running.{CanBeSaved}
use Rattle.leader_helper.specs.Saving.{IsRunning}
use Rattle.leader_helper.proofs.Saving.{no_zeros}

no_words : (words : Option (ℕ → ℕ)) → is_some words ≡ false → words ≡ None
no_words None none = refl
no_words (Some words) none = absurd (cc)

-- a word of zero has bytes of zero
zero_bytes : (k : ℕ) → byte_of 0 k ≡ 0
zero_bytes zero = refl
zero_bytes (suc zero) = refl
zero_bytes (suc (suc zero)) = refl
zero_bytes (suc (suc (suc zero))) = refl
zero_bytes (suc (suc (suc (suc zero)))) = refl
zero_bytes (suc (suc (suc (suc (suc zero))))) = refl
zero_bytes (suc (suc (suc (suc (suc (suc zero)))))) = refl
zero_bytes (suc (suc (suc (suc (suc (suc (suc zero))))))) = refl
zero_bytes (suc (suc (suc (suc (suc (suc (suc (suc k)))))))) = refl

zero_by : (b : Bool) (k : ℕ) → (if b then byte_of 0 k else 0) ≡ 0
zero_by true k = zero_bytes k
zero_by false k = refl

zeros_of_none : (pages : ℕ → Option (ℕ → ℕ)) (page offset : ℕ) → pages page ≡ None → content_of pages page offset ≡ 0
zeros_of_none pages page offset none =
    ap (λ (words : Option (ℕ → ℕ)). if nat_lt page PAGES && nat_lt offset PAGE_BYTES then byte_of (words_of words (offset / WORD_BYTES)) (offset % WORD_BYTES) else 0) none
    ∙ zero_by (nat_lt page PAGES && nat_lt offset PAGE_BYTES) (offset % WORD_BYTES)

pub runs : (o : Objects) (rest : Rest) (pages : ℕ → Option (ℕ → ℕ)) (w : World) → IsSound w → w.now ≡ state_of o rest → CanBeSaved o rest pages w → IsRunning o rest pages w
runs o rest pages w sound now saved =
    let has : (channel i : ℕ) → channel < OUTPUT_CHANNELS → HasEntry (content_of pages channel) (w.base channel + i) (slice_index_or (rest.out channel) i []) → is_content (record_at o) channel ≡ true =
    λ channel i below entry. elim (cases_Bool (is_content (record_at o) channel)) [
      | inl is ↦ is
      | inr none ↦
          let lacks = no_words (pages channel) (saved.words.told.each channel (omega (arith, below)) ∙ none) in
          absurd (no_zeros (content_of pages channel) (w.base channel + i) (slice_index_or (rest.out channel) i []) entry (λ offset. zeros_of_none pages channel offset lacks))
    ] in
    record {
      sound = sound;
      now = now;
      slots = saved.slots;
      strays = saved.strays;
      words = λ page below is. saved.words.told.each page below ∙ is;
      agree = λ page offset below is. saved.words.agree page offset is;
      rings = λ id. subst (λ (s : State). CountsEntries (slot_at o id) (record w { now = s })) (sym now) (saved.rings id);
      entries = λ channel i below lo hi.
          let entry = saved.entries channel i below lo hi in
          subst (λ (byte : ℕ → ℕ). HasEntry byte (w.base channel + i) (slice_index_or (rest.out channel) i []))
          (fun_ext (λ offset. saved.words.agree channel offset (has channel i below entry))) entry;
      waiting = λ channel below waits. has channel (length (w.released channel)) below (saved.entries channel (length (w.released channel)) below (omega arith) waits);
    }
