-- Words read as one state alone.
use Rattle.std.proofs.Common.{◌≡◌, ℕ, ◌+◌, ◌<◌, ◌≤◌, List, [], length, slice_index_or, Option, Some, None, refl, ap, sym, ◌∙◌, subst, arith, inl, inr}
use Rattle.std.specs.Prelude.{is_some}
use Rattle.std.proofs.lemmas.Bool.{false≢true, cases_lt}
use Rattle.std.proofs.lemmas.List.{get_or_past}
use Rattle.std.proofs.lemmas.Option.{same_Some}
use mathlib.Core.Path.{fun_ext}
use Rattle.sls_base.specs.declared.limits.TheConstants.{FRAME_WORDS, OBJECTS, OUTPUT_CHANNELS, PAGES}
use Rattle.sls_base.specs.declared.fixed.TheConstants.{SCHEDULER}
use Rattle.pmem_layout.specs.declared.places.TheConstants.{NUMBERS}
use Rattle.page_store.specs.Shows.{words_of}
use Rattle.durable_state.specs.Parts.{Parts}
use Rattle.plain_model.specs.Objects.{page_of_channel}
use Rattle.plain_model.specs.States.{State}
use Rattle.kobj_codec.specs.declared.obj.Obj.{Obj}
use Rattle.object_records.specs.Records.{object_in, list_in, cores_in}
use Rattle.object_records.specs.Pages.{is_content}
use Rattle.out_gate.specs.Entries.{HasEntry}
use Rattle.saved_state.specs.State.{ArePartsOf, SameReads, content_of}
use Rattle.saved_state.proofs.Records.{objects_are, queue_is, cores_are, same_content}

same_told : (a b : Option Obj) → is_some a ≡ is_some b → ((o r : Obj) → a ≡ Some o → b ≡ Some r → o ≡ r) → a ≡ b
same_told None None there same = refl
same_told None (Some r) there same = absurd (false≢true there)
same_told (Some o) None there same = absurd (false≢true (sym there))
same_told (Some o) (Some r) there same = ap (λ (x : Obj). Some x) (same o r refl refl)

same_words : (a b : Option (ℕ → ℕ)) (j : ℕ) → is_some a ≡ is_some b → ((f g : ℕ → ℕ) → a ≡ Some f → b ≡ Some g → f j ≡ g j) → words_of a j ≡ words_of b j
same_words None None j there same = refl
same_words None (Some g) j there same = absurd (false≢true there)
same_words (Some f) None j there same = absurd (false≢true (sym there))
same_words (Some f) (Some g) j there same = same f g refl refl

-- the count of a ring's record
abbrev ring_count : Obj → ℕ
ring_count (Obj.Ring ring) = ring.count
ring_count obj = 0

module _ (base accepted : ℕ → ℕ) (p q : Parts) (s t : State)
    (numbers : (n : ℕ) → n < NUMBERS → p.numbers n ≡ q.numbers n)
    (objects : (id : ℕ) (o r : Obj) → id < OBJECTS → p.objects id ≡ Some o → q.objects id ≡ Some r → o ≡ r)
    (pages : (page : ℕ) (a b : ℕ → ℕ) (j : ℕ) → page < PAGES → j < FRAME_WORDS → p.pages page ≡ Some a → q.pages page ≡ Some b → a j ≡ b j)
    (one : (byte : ℕ → ℕ) (number : ℕ) (a b : List ℕ) → HasEntry byte number a → HasEntry byte number b → a ≡ b)
    (first : ArePartsOf base accepted p s) (second : ArePartsOf base accepted q t) where
  same_record : (i : ℕ) → p.objects i ≡ q.objects i
  same_record i = elim (cases_lt i OBJECTS) [
    | inl lt ↦ same_told (p.objects i) (q.objects i) (sym (first.used_objects i lt) ∙ (numbers i (omega (arith, lt)) ∙ second.used_objects i lt)) (λ o r. objects i o r lt)
    | inr past ↦ first.none i past ∙ sym (second.none i past)
  ]

  same_told_page : (page : ℕ) → page < PAGES → is_some (p.pages page) ≡ is_some (q.pages page)
  same_told_page page lt =
      first.pages.each page lt ∙ (ap (λ (records : ℕ → Option Obj). is_content records page) (fun_ext same_record) ∙ sym (second.pages.each page lt))

  same_bytes : content_of p.pages ≡ content_of q.pages
  same_bytes = same_content p.pages q.pages (λ page j lt inside. same_words (p.pages page) (q.pages page) j (same_told_page page lt) (λ f g. pages page f g j lt inside))

  same_object : (i : ℕ) → s.objects i ≡ t.objects i
  same_object i =
      objects_are p.objects p.pages s first.state i
      ∙ (ap (λ (content : ℕ → ℕ → ℕ). object_in content (p.objects i)) same_bytes
      ∙ (ap (λ (told : Option Obj). object_in (content_of q.pages) told) (same_record i)
      ∙ sym (objects_are q.objects q.pages t second.state i)))

  same_length : (channel : ℕ) → length (s.out channel) ≡ length (t.out channel)
  same_length channel = elim (cases_lt channel OUTPUT_CHANNELS) [
    | inl lt ↦
        let a = first.rings channel lt in
        let b = second.rings channel lt in
        let same : Obj.Ring a.0 ≡ Obj.Ring b.0 = same_Some (Obj.Ring a.0) (Obj.Ring b.0) (sym a.1 ∙ (same_record _ ∙ b.1)) in
        let count : a.0.count ≡ b.0.count = ap ring_count same in
        omega (arith, count, a.2.count, b.2.count)
    | inr past ↦ ap (λ (out : List (List ℕ)). length out) (first.channels channel past ∙ sym (second.channels channel past))
  ]

  same_entry : (channel i : ℕ) → accepted channel ≤ base channel + i → slice_index_or (s.out channel) i [] ≡ slice_index_or (t.out channel) i []
  same_entry channel i from = elim (cases_lt channel OUTPUT_CHANNELS) [
    | inl lt ↦ elim (cases_lt i (length (s.out channel))) [
      | inl inside ↦
          let inside' : i < length (t.out channel) = omega (arith, inside, same_length channel) in
          let a = (first.rings channel lt).2.entries i from inside in
          let b = (second.rings channel lt).2.entries i from inside' in
          one (content_of q.pages (page_of_channel channel)) (base channel + i) _ _
          (subst (λ (content : ℕ → ℕ → ℕ). HasEntry (content (page_of_channel channel)) (base channel + i) (slice_index_or (s.out channel) i [])) same_bytes a) b
      | inr past ↦
          let past' : length (t.out channel) ≤ i = omega (arith, past, same_length channel) in
          get_or_past (s.out channel) i [] past ∙ sym (get_or_past (t.out channel) i [] past')
    ]
    | inr past ↦ ap (λ (out : List (List ℕ)). slice_index_or out i []) (first.channels channel past ∙ sym (second.channels channel past))
  ]

  pub read_as_one : SameReads base accepted s t
  read_as_one = record {
    objects = same_object;
    queue = queue_is p.objects p.pages s first.state ∙ (ap list_in (same_record SCHEDULER) ∙ sym (queue_is q.objects q.pages t second.state));
    cores = cores_are p.objects p.pages s first.state ∙ (ap cores_in (same_record SCHEDULER) ∙ sym (cores_are q.objects q.pages t second.state));
    counts = same_length;
    entries = same_entry;
  }
